-- Who takes part in a run is the same in its log and in its system.
-- Cited above: acted_accepted, Agree, asked_is_present, cause_fails, core_announced, first_none, HasNoStep, IsThere, join_accepted, joiner_is_new,
-- name_at, named_in_group, no_steps, nodes_agree, none_accepted, none_named, one_if, start_in, starts_of, step_begins, taken_begins, taken_no_step
use Rattle.std.proofs.Common.{◌≡◌, ◌⊎◌, inl, inr, ℕ, ◌+◌, ◌≤◌, Bool, true, false, not, List, [], ◌∷◌, ◌++◌, length, get_or, All, Option, None, Some, refl, ap, sym, subst, cond, ◌∙◌, append-nil}
use Rattle.std.specs.Prelude.{◌&&◌, ◌||◌, bytes_eq, drop, fold, is_some, if◌then◌else◌}
use Rattle.std.specs.List.{cons_option, filter_map}
use Rattle.std.proofs.lemmas.Bool.{cases_Bool}
use Rattle.std.proofs.lemmas.List.Elements.{All-cons, All-head, All-nil, All-tail, filter_map-append}
use Rattle.std.proofs.lemmas.List.Folds.{list_any-append}
use Rattle.std.proofs.lemmas.Slice.Eq.{bytes_eq-Decides}
use Rattle.tap_name.specs.Names.{has_name, names_without}
use Rattle.tap_name.specs.Settings.{SettingsValue}
use Rattle.tap_scenario.specs.declared.step.Step.{Step}
use Rattle.tap_scenario.specs.declared.step.Step.TheVariants.{Join, Depart, Publish, Withdraw, Find, Abandon, Cast}
use Rattle.tap_wire.specs.declared.frame.Frame.{Frame}
use Rattle.tap_log.specs.declared.record.Record.{Record}
use Rattle.tap_log.specs.declared.record.Record.TheVariants.{Step as StepRecord, Taken, Sent}
use Rattle.tap_log.specs.declared.record.Refusal.{Refusal}
use Rattle.tap_log.specs.declared.record.Refusal.TheVariants.{NameTaken, NoSuchNode}
use Rattle.tap_log.specs.Counts.{sent_count}
use Rattle.tap_log.specs.Kinds.{accepts, begins_group, core_name, gone_name, is_carried, step_of}
use Rattle.tap_history.specs.Core.{accepted_in, accepted_step, core_of, gone_of, present_of}
use Rattle.tap_history.specs.Groups.{is_ended}
use Rattle.tap_history.specs.GroupLaws.{IsGroup, accepted_of}
use Rattle.tap_history.specs.Names.{names_of, with_name}
use Rattle.tap_history.specs.Refusals.{first_refusal, first_some, is_and, refusals, refused_if, refuses_departing, refuses_name_taken, refuses_no_such_node, refuses_not_at_rest, refuses_not_core}
use Rattle.tap_history.specs.StepAsks.{actor_of, asked_node, join_name}
use Rattle.tap_history.proofs.RecordChanges.{record_changes_hold}
use Rattle.tap_history.proofs.Telling.{core_of-group, names_of-group, present_of-group}
use Rattle.tap_rule.specs.Node.{NodeState, Status, joiner, member_at_rest}
use Rattle.tap_rule.specs.Node.Status.{Joining}
use Rattle.tap_rule.specs.Event.{Acted, News, Start}
use Rattle.tap_rule.specs.Event.Event.{Starts, Takes}
use Rattle.tap_rule.specs.Event.News.{Nothing, Core as CoreNews, Gone as GoneNews, Answered as AnsweredNews, Cast as CastNews}
use Rattle.tap_rule.specs.Event.Start.{Join as StartJoin}
use Rattle.tap_rule.specs.Act.{act}
use Rattle.tap_rule.specs.Sending.{by_receiver}
use Rattle.tap_rule.proofs.StartSteps.{seek_start_law}
use Rattle.tap_safety.specs.Move.Move.{Begins, Delivers}
use Rattle.tap_safety.specs.Moved.{moved, numbered_frame, starter}
use Rattle.tap_safety.specs.System.{System}
use Rattle.tap_safety.proofs.Moved.{delivers, lost, starts}
use Rattle.tap_safety.specs.AtRest.{member_of, system_at_rest}
use Rattle.tap_runs.specs.Beginning.{Beginning, begin_record}
use Rattle.tap_runs.specs.Starts.{announced, start_of_step}
use Rattle.tap_runs.specs.Acts.{acted_records, news_after, news_before, sent_records}
use Rattle.tap_runs.specs.Group.{received_records, records_of_act, start_at}
use Rattle.tap_runs.specs.Course.{Follows, IsCourse, MayFollow, move_of_group, moved_by, system_of}
use Rattle.tap_runs.specs.Observed.{counts_as_core, has_ended, is_core_node}
use Rattle.tap_runs.specs.CourseLaws.{is_ended_node, is_present_node}
use Rattle.tap_runs.proofs.Within.{IsIdle, IsStarting, Within, is_accepted, is_group, step_kind, step_within, taken_within}
use Rattle.tap_runs.proofs.CourseGrows.{by_groups, grown_system, start_system, starts_begun, starts_uncarried}
use Rattle.tap_runs.proofs.Frames.{none_of, starting_moves, step_moves, taken_moves}
use Rattle.tap_runs.proofs.Status.{IsNoted, frame_noted, start_noted, tells_core, tells_gone}

or_false : (b : Bool) → (b || false) ≡ b
or_false true = refl
or_false false = refl

or_true : (b : Bool) → (b || true) ≡ true
or_true true = refl
or_true false = refl

and_false : (b : Bool) → (b && false) ≡ false
and_false true = refl
and_false false = refl

-- ---- names among others

name_is : (x y : List ℕ) → bytes_eq x y ≡ true → x ≡ y
name_is x y same = (bytes_eq-Decides x y).0 same

without_one : (name : List ℕ) (names others : List (List ℕ)) (x : List ℕ)
    → has_name (names_without names others) x ≡ (has_name names x && not (has_name others x))
    → (bytes_eq name x ≡ true) ⊎ (bytes_eq name x ≡ false) → (has_name others name ≡ true) ⊎ (has_name others name ≡ false)
    → has_name (names_without (name ∷ names) others) x ≡ (has_name (name ∷ names) x && not (has_name others x))
without_one name names others x rest (inl same) (inl gone) =
    let left = names_without names others in
    let there : has_name others x ≡ true = ap (has_name others) (sym (name_is name x same)) ∙ gone in
    ap (λ b. has_name (cond {A = List (List ℕ)} (not b) (name ∷ left) left) x) gone ∙ rest
    ∙ ap (λ b. has_name names x && not b) there ∙ and_false (has_name names x)
    ∙ sym (ap (λ b. (bytes_eq name x || has_name names x) && not b) there ∙ and_false (bytes_eq name x || has_name names x))
without_one name names others x rest (inl same) (inr stays) =
    let left = names_without names others in
    let there : has_name others x ≡ false = ap (has_name others) (sym (name_is name x same)) ∙ stays in
    ap (λ b. has_name (cond {A = List (List ℕ)} (not b) (name ∷ left) left) x) stays ∙ ap (λ b. b || has_name left x) same
    ∙ sym (ap (λ b. (b || has_name names x) && not (has_name others x)) same ∙ ap not there)
without_one name names others x rest (inr apart) (inl gone) =
    let left = names_without names others in
    ap (λ b. has_name (cond {A = List (List ℕ)} (not b) (name ∷ left) left) x) gone ∙ rest
    ∙ sym (ap (λ b. (b || has_name names x) && not (has_name others x)) apart)
without_one name names others x rest (inr apart) (inr stays) =
    let left = names_without names others in
    ap (λ b. has_name (cond {A = List (List ℕ)} (not b) (name ∷ left) left) x) stays ∙ ap (λ b. b || has_name left x) apart ∙ rest
    ∙ sym (ap (λ b. (b || has_name names x) && not (has_name others x)) apart)

-- the names without others
without_has : (names others : List (List ℕ)) (x : List ℕ)
    → has_name (names_without names others) x ≡ (has_name names x && not (has_name others x))
without_has [] others x = refl
without_has (name ∷ names) others x =
    without_one name names others x (without_has names others x) (cases_Bool (bytes_eq name x)) (cases_Bool (has_name others name))

-- the one name, or none
abbrev pub one_if : Bool → List ℕ → List (List ℕ)
one_if there x = if there then x ∷ [] else []

one_has : (there : Bool) (x y : List ℕ) → has_name (one_if there x) y ≡ (there && bytes_eq x y)
one_has true x y = or_false (bytes_eq x y)
one_has false x y = refl

with_has : (there : Bool) (names : List (List ℕ)) (x y : List ℕ)
    → has_name (fold with_name names (one_if there x)) y ≡ (has_name names y || (there && bytes_eq x y))
with_has false names x y = sym (or_false (has_name names y))
with_has true names x y = by_test (cases_Bool (has_name names x)) (cases_Bool (bytes_eq x y))
  where
    by_test : (has_name names x ≡ true) ⊎ (has_name names x ≡ false) → (bytes_eq x y ≡ true) ⊎ (bytes_eq x y ≡ false)
        → has_name (with_name names x) y ≡ (has_name names y || bytes_eq x y)
    by_test (inl known) (inl same) =
        ap (λ b. has_name (if b then names else names ++ x ∷ []) y) known
        ∙ sym (ap (has_name names) (name_is x y same)) ∙ known ∙ sym (ap (λ b. has_name names y || b) same ∙ or_true (has_name names y))
    by_test (inl known) (inr apart) =
        ap (λ b. has_name (if b then names else names ++ x ∷ []) y) known
        ∙ sym (ap (λ b. has_name names y || b) apart ∙ or_false (has_name names y))
    by_test (inr new) test =
        ap (λ b. has_name (if b then names else names ++ x ∷ []) y) new
        ∙ list_any-append (λ other. bytes_eq other y) names (x ∷ [])
        ∙ ap (λ b. has_name names y || b) (or_false (bytes_eq x y))

or_assoc : (a b c : Bool) → ((a || b) || c) ≡ (a || (b || c))
or_assoc true b c = refl
or_assoc false b c = refl

more_has_name : (names others : List (List ℕ)) (x : List ℕ)
    → has_name (fold with_name names others) x ≡ (has_name names x || has_name others x)
more_has_name names [] x = sym (or_false (has_name names x))
more_has_name names (other ∷ others) x =
    more_has_name (with_name names other) others x ∙ ap (λ b. b || has_name others x) (with_has true names other x)
    ∙ or_assoc (has_name names x) (bytes_eq other x) (has_name others x)

each_once : (names : List (List ℕ)) (x : List ℕ) → has_name (fold with_name [] names) x ≡ has_name names x
each_once names x = more_has_name [] names x

-- ---- what a group does with nodes

-- One node acts, which is new or was there; its change of status is noted; and no other changes.
pub record Acts (log group : List Record) (s s' : System) : Type 0 where
  pub name : List ℕ
  pub joins : Bool
  pub before : Status
  pub news : News
  pub node : NodeState
  pub core : filter_map core_name group ≡ one_if (tells_core news) name
  pub gone : filter_map gone_name group ≡ one_if (tells_gone news) name
  pub joined : filter_map join_name (accepted_of log group) ≡ one_if joins name
  pub was_core : is_core_node (s.node name) ≡ counts_as_core before
  pub was_ended : is_ended_node (s.node name) ≡ has_ended before
  pub was_there : is_some (s.node name) ≡ not joins
  pub new : joins ≡ true → has_ended before ≡ false
  pub noted : IsNoted before node.status news
  pub is : s'.node name ≡ Some node
  pub others : (y : List ℕ) → (y ≡ name) ⊎ (s'.node y ≡ s.node y)

-- the log and the system agree on who is core, present and gone, and who was ever there
pub record Agree (log : List Record) (s : System) : Type 0 where
  pub core : (x : List ℕ) → has_name (core_of log) x ≡ is_core_node (s.node x)
  pub present : (x : List ℕ) → has_name (present_of log) x ≡ is_present_node (s.node x)
  pub gone : (x : List ℕ) → has_name (gone_of log) x ≡ is_ended_node (s.node x)
  pub ever : (x : List ℕ) → has_name (names_of log) x ≡ is_some (s.node x)

-- a system with the same nodes agrees with the same logs
same_nodes : (log : List Record) (s s' : System) → ((x : List ℕ) → s'.node x ≡ s.node x) → Agree log s → Agree log s'
same_nodes log s s' same agree = record {
  core = λ x. agree.core x ∙ sym (ap is_core_node (same x));
  present = λ x. agree.present x ∙ sym (ap is_present_node (same x));
  gone = λ x. agree.gone x ∙ sym (ap is_ended_node (same x));
  ever = λ x. agree.ever x ∙ sym (ap is_some (same x));
}

-- what a group makes of the names, of one of these
module _ (log : List Record) (first : Record) (after : List Record) (group : IsGroup log first after) (x y : List ℕ)
    (came left joins : Bool) (core : filter_map core_name (first ∷ after) ≡ one_if came x)
    (gone : filter_map gone_name (first ∷ after) ≡ one_if left x)
    (joined : filter_map join_name (accepted_of log (first ∷ after)) ≡ one_if joins x) where
  abbrev grown : List Record
  grown = log ++ first ∷ after

  more_has : (names new : List (List ℕ)) → has_name (names_without (names ++ names_without new (gone_of log)) (one_if left x)) y
      ≡ ((has_name names y || (has_name new y && not (has_name (gone_of log) y))) && not (left && bytes_eq x y))
  more_has names new =
      without_has (names ++ names_without new (gone_of log)) (one_if left x) y
      ∙ ap (λ b. b && not (has_name (one_if left x) y))
      (list_any-append (λ other. bytes_eq other y) names (names_without new (gone_of log)))
      ∙ ap (λ b. (has_name names y || b) && not (has_name (one_if left x) y)) (without_has new (gone_of log) y)
      ∙ ap (λ b. (has_name names y || (has_name new y && not (has_name (gone_of log) y))) && not b) (one_has left x y)

  core_has : has_name (core_of grown) y
      ≡ ((has_name (core_of log) y || ((came && bytes_eq x y) && not (has_name (gone_of log) y))) && not (left && bytes_eq x y))
  core_has =
      ap (λ l. has_name l y) (core_of-group log first after group)
      ∙ ap (λ l. has_name (names_without (core_of log ++ names_without l (gone_of log)) (gone_of (first ∷ after))) y) core
      ∙ ap (λ l. has_name (names_without (core_of log ++ names_without (one_if came x) (gone_of log)) l) y) gone
      ∙ more_has (core_of log) (one_if came x)
      ∙ ap (λ b. (has_name (core_of log) y || (b && not (has_name (gone_of log) y))) && not (left && bytes_eq x y)) (one_has came x y)

  present_has : has_name (present_of grown) y
      ≡ ((has_name (present_of log) y || ((joins && bytes_eq x y) && not (has_name (gone_of log) y))) && not (left && bytes_eq x y))
  present_has =
      ap (λ l. has_name l y) (present_of-group log first after group)
      ∙ ap (λ l. has_name (names_without (present_of log ++ names_without l (gone_of log)) (gone_of (first ∷ after))) y) joined
      ∙ ap (λ l. has_name (names_without (present_of log ++ names_without (one_if joins x) (gone_of log)) l) y) gone
      ∙ more_has (present_of log) (one_if joins x)
      ∙ ap (λ b. (has_name (present_of log) y || (b && not (has_name (gone_of log) y))) && not (left && bytes_eq x y)) (one_has joins x y)

  gone_has : has_name (gone_of grown) y ≡ (has_name (gone_of log) y || (left && bytes_eq x y))
  gone_has =
      ap (λ l. has_name l y) (filter_map-append gone_name log (first ∷ after) ∙ ap (λ l. gone_of log ++ l) gone)
      ∙ list_any-append (λ other. bytes_eq other y) (gone_of log) (one_if left x)
      ∙ ap (λ b. has_name (gone_of log) y || b) (one_has left x y)

  ever_has : has_name (names_of grown) y ≡ (has_name (names_of log) y || (joins && bytes_eq x y))
  ever_has =
      ap (λ l. has_name l y) (names_of-group log first after group)
      ∙ ap (λ l. has_name (fold with_name (names_of log) l) y) joined
      ∙ with_has joins (names_of log) x y

-- ---- a group of which one node is seen

-- the tests of the one that acts, before and after it
core_after : (c t e g : Bool) → (t ≡ true → e ≡ false) → ((c || ((t && true) && not e)) && not (g && true)) ≡ ((c || t) && not g)
core_after c true true g fresh = let not_ended = fresh refl in absurd (cc)
core_after true true false true fresh = refl
core_after true true false false fresh = refl
core_after false true false true fresh = refl
core_after false true false false fresh = refl
core_after true false e true fresh = refl
core_after true false e false fresh = refl
core_after false false e true fresh = refl
core_after false false e false fresh = refl

present_after : (p j e g : Bool) → p ≡ (not j && not e) → (j ≡ true → e ≡ false)
    → ((p || ((j && true) && not e)) && not (g && true)) ≡ not (e || g)
present_after p true true g was new = let not_ended = new refl in absurd (cc)
present_after p true false true was new = ap (λ b. (b || true) && false) was
present_after p true false false was new = ap (λ b. (b || true) && true) was
present_after p false true true was new = ap (λ b. (b || false) && false) was
present_after p false true false was new = ap (λ b. (b || false) && true) was
present_after p false false true was new = ap (λ b. (b || false) && false) was
present_after p false false false was new = ap (λ b. (b || false) && true) was

-- the tests of another one
core_other : (c t e g : Bool) → ((c || ((t && false) && not e)) && not (g && false)) ≡ c
core_other true true e true = refl
core_other true true e false = refl
core_other true false e true = refl
core_other true false e false = refl
core_other false true e true = refl
core_other false true e false = refl
core_other false false e true = refl
core_other false false e false = refl

or_other : (c g : Bool) → (c || (g && false)) ≡ c
or_other true g = refl
or_other false true = refl
or_other false false = refl

or_here : (e g : Bool) → (e || (g && true)) ≡ (e || g)
or_here true g = refl
or_here false true = refl
or_here false false = refl

-- a node is present if there is one that hasn't ended
present_is : (node : Option NodeState) → is_present_node node ≡ (is_some node && not (is_ended_node node))
present_is None = refl
present_is (Some node) = refl

module _ (log : List Record) (first : Record) (after : List Record) (group : IsGroup log first after) (s s' : System)
    (acts : Acts log (first ∷ after) s s') (agree : Agree log s) where
  abbrev longer : List Record
  longer = log ++ first ∷ after

  -- of the node that acts
  module _ (y : List ℕ) (is : acts.name ≡ y) (same : bytes_eq acts.name y ≡ true) where
    now : s'.node y ≡ Some acts.node
    now = ap s'.node (sym is) ∙ acts.is

    ended_before : has_name (gone_of log) y ≡ has_ended acts.before
    ended_before = agree.gone y ∙ ap (λ z. is_ended_node (s.node z)) (sym is) ∙ acts.was_ended

    core_here : has_name (core_of longer) y ≡ is_core_node (s'.node y)
    core_here =
        let t = tells_core acts.news in
        let g = tells_gone acts.news in
        core_has log first after group acts.name y t g acts.joins acts.core acts.gone acts.joined
        ∙ ap (λ b. (has_name (core_of log) y || ((t && b) && not (has_name (gone_of log) y))) && not (g && b)) same
        ∙ ap (λ b. (b || ((t && true) && not (has_name (gone_of log) y))) && not (g && true))
        (agree.core y ∙ ap (λ z. is_core_node (s.node z)) (sym is) ∙ acts.was_core)
        ∙ ap (λ b. (counts_as_core acts.before || ((t && true) && not b)) && not (g && true)) ended_before
        ∙ core_after (counts_as_core acts.before) t (has_ended acts.before) g acts.noted.comes
        ∙ sym acts.noted.core ∙ sym (ap is_core_node now)

    gone_here : has_name (gone_of longer) y ≡ is_ended_node (s'.node y)
    gone_here =
        let g = tells_gone acts.news in
        gone_has log first after group acts.name y (tells_core acts.news) g acts.joins acts.core acts.gone acts.joined
        ∙ ap (λ b. has_name (gone_of log) y || (g && b)) same
        ∙ ap (λ b. b || (g && true)) ended_before
        ∙ or_here (has_ended acts.before) g ∙ sym acts.noted.ended ∙ sym (ap is_ended_node now)

    present_here : has_name (present_of longer) y ≡ is_present_node (s'.node y)
    present_here =
        let g = tells_gone acts.news in
        let j = acts.joins in
        let there : has_name (present_of log) y ≡ (not j && not (has_ended acts.before)) =
        agree.present y ∙ ap (λ z. is_present_node (s.node z)) (sym is) ∙ present_is (s.node acts.name)
        ∙ ap (λ b. b && not (is_ended_node (s.node acts.name))) acts.was_there ∙ ap (λ b. not j && not b) acts.was_ended in
        present_has log first after group acts.name y (tells_core acts.news) g j acts.core acts.gone acts.joined
        ∙ ap (λ b. (has_name (present_of log) y || ((j && b) && not (has_name (gone_of log) y))) && not (g && b)) same
        ∙ ap (λ b. (has_name (present_of log) y || ((j && true) && not b)) && not (g && true)) ended_before
        ∙ present_after (has_name (present_of log) y) j (has_ended acts.before) g there acts.new
        ∙ ap not (sym acts.noted.ended) ∙ sym (ap is_present_node now)

    ever_here : has_name (names_of longer) y ≡ is_some (s'.node y)
    ever_here =
        let j = acts.joins in
        ever_has log first after group acts.name y (tells_core acts.news) (tells_gone acts.news) j acts.core acts.gone acts.joined
        ∙ ap (λ b. has_name (names_of log) y || (j && b)) same
        ∙ ap (λ b. b || (j && true)) (agree.ever y ∙ ap (λ z. is_some (s.node z)) (sym is) ∙ acts.was_there)
        ∙ there j ∙ sym (ap is_some now)
      where
        there : (j : Bool) → (not j || (j && true)) ≡ true
        there true = refl
        there false = refl

  -- of another one
  module _ (y : List ℕ) (stays : s'.node y ≡ s.node y) (apart : bytes_eq acts.name y ≡ false) where
    core_there : has_name (core_of longer) y ≡ is_core_node (s'.node y)
    core_there =
        let t = tells_core acts.news in
        let g = tells_gone acts.news in
        core_has log first after group acts.name y t g acts.joins acts.core acts.gone acts.joined
        ∙ ap (λ b. (has_name (core_of log) y || ((t && b) && not (has_name (gone_of log) y))) && not (g && b)) apart
        ∙ core_other (has_name (core_of log) y) t (has_name (gone_of log) y) g
        ∙ agree.core y ∙ sym (ap is_core_node stays)

    present_there : has_name (present_of longer) y ≡ is_present_node (s'.node y)
    present_there =
        let g = tells_gone acts.news in
        present_has log first after group acts.name y (tells_core acts.news) g acts.joins acts.core acts.gone acts.joined
        ∙ ap (λ b. (has_name (present_of log) y || ((acts.joins && b) && not (has_name (gone_of log) y))) && not (g && b)) apart
        ∙ core_other (has_name (present_of log) y) acts.joins (has_name (gone_of log) y) g
        ∙ agree.present y ∙ sym (ap is_present_node stays)

    gone_there : has_name (gone_of longer) y ≡ is_ended_node (s'.node y)
    gone_there =
        let g = tells_gone acts.news in
        gone_has log first after group acts.name y (tells_core acts.news) g acts.joins acts.core acts.gone acts.joined
        ∙ ap (λ b. has_name (gone_of log) y || (g && b)) apart
        ∙ or_other (has_name (gone_of log) y) g ∙ agree.gone y ∙ sym (ap is_ended_node stays)

    ever_there : has_name (names_of longer) y ≡ is_some (s'.node y)
    ever_there =
        ever_has log first after group acts.name y (tells_core acts.news) (tells_gone acts.news) acts.joins acts.core acts.gone acts.joined
        ∙ ap (λ b. has_name (names_of log) y || (acts.joins && b)) apart
        ∙ or_other (has_name (names_of log) y) acts.joins ∙ agree.ever y ∙ sym (ap is_some stays)

  other_stays : (y : List ℕ) → bytes_eq acts.name y ≡ false → s'.node y ≡ s.node y
  other_stays y apart =
      elim (acts.others y) [
        | inl same ↦ let one : bytes_eq acts.name y ≡ true = (bytes_eq-Decides acts.name y).1 (sym same) in absurd (cc)
        | inr stays ↦ stays
      ]

  pub agree_after : Agree longer s'
  agree_after = record {
    core = λ y. elim (cases_Bool (bytes_eq acts.name y)) [
      | inl same ↦ core_here y (name_is acts.name y same) same
      | inr apart ↦ core_there y (other_stays y apart) apart
    ];
    present = λ y. elim (cases_Bool (bytes_eq acts.name y)) [
      | inl same ↦ present_here y (name_is acts.name y same) same
      | inr apart ↦ present_there y (other_stays y apart) apart
    ];
    gone = λ y. elim (cases_Bool (bytes_eq acts.name y)) [
      | inl same ↦ gone_here y (name_is acts.name y same) same
      | inr apart ↦ gone_there y (other_stays y apart) apart
    ];
    ever = λ y. elim (cases_Bool (bytes_eq acts.name y)) [
      | inl same ↦ ever_here y (name_is acts.name y same) same
      | inr apart ↦ ever_there y (other_stays y apart) apart
    ];
  }

-- ---- the steps that a group accepts

abbrev pub HasNoStep : Record → Type 0
HasNoStep item = step_of item ≡ None

no_step : (item : Record) → begins_group false item ≡ false → HasNoStep item
unfolding begins_group
no_step (StepRecord index step) within = absurd (cc)
no_step item within = refl

pub no_steps : (items : List Record) → All Within items → All HasNoStep items
no_steps items within = λ k d there. no_step (get_or items k d) (within k d there).0

none_stepped : (item next : Record) → HasNoStep item → accepted_step false (item, next) ≡ None
unfolding accepted_step
none_stepped item next none = by_test (accepts false next)
  where
    by_test : (accepted : Bool) → (if accepted then step_of item else None) ≡ None
    by_test true = none
    by_test false = refl

pub none_accepted : (items : List Record) → All HasNoStep items → accepted_in false items ≡ []
none_accepted [] all = refl
none_accepted (item ∷ []) all = refl
none_accepted (item ∷ next ∷ items) all =
    ap (λ one. cons_option one (accepted_in false (next ∷ items))) (none_stepped item next (All-head HasNoStep item (next ∷ items) all))
    ∙ none_accepted (next ∷ items) (All-tail HasNoStep item (next ∷ items) all)

-- the names of the step that begins a group, if that is accepted
pub named_in_group : (h : Step → Option (List ℕ)) (index : ℕ) (step : Step) (items : List Record) → All HasNoStep items
    → filter_map h (accepted_in false (StepRecord index step ∷ items)) ≡ (if is_accepted items then cons_option (h step) [] else [])
unfolding accepted_step
named_in_group h index step [] all = refl
named_in_group h index step (next ∷ items) all =
    ap (λ l. filter_map h (cons_option (accepted_step false (StepRecord index step, next)) l)) (none_accepted (next ∷ items) all)
    ∙ by_test (accepts false next)
  where
    by_test : (accepted : Bool)
        → filter_map h (cons_option (if accepted then Some step else None) []) ≡ (if accepted then cons_option (h step) [] else [])
    by_test true = refl
    by_test false = refl

-- and none if it is not, or names none
pub none_named : (h : Step → Option (List ℕ)) (index : ℕ) (step : Step) (items : List Record) → All HasNoStep items
    → (is_accepted items ≡ false) ⊎ (h step ≡ None) → filter_map h (accepted_in false (StepRecord index step ∷ items)) ≡ []
none_named h index step items all (inl not_accepted) =
    named_in_group h index step items all ∙ ap (λ b. if b then cons_option (h step) [] else []) not_accepted
none_named h index step items all (inr none) =
    named_in_group h index step items all ∙ ap (λ one. if is_accepted items then cons_option one [] else []) none
    ∙ either (is_accepted items) []
  where
    either : (b : Bool) (names : List (List ℕ)) → (if b then names else names) ≡ names
    either true names = refl
    either false names = refl

-- ---- what the records of a step tell of nodes

module _ (name : List ℕ) where
  core_before : (news : News) → filter_map core_name (news_before name news) ≡ one_if (tells_core news) name
  unfolding news_before core_name
  core_before Nothing = refl
  core_before CoreNews = refl
  core_before GoneNews = refl
  core_before (AnsweredNews ticket server) = refl
  core_before (CastNews cast true closed) = refl
  core_before (CastNews cast false closed) = refl

  gone_before : (news : News) → filter_map gone_name (news_before name news) ≡ one_if (tells_gone news) name
  unfolding news_before gone_name
  gone_before Nothing = refl
  gone_before CoreNews = refl
  gone_before GoneNews = refl
  gone_before (AnsweredNews ticket server) = refl
  gone_before (CastNews cast true closed) = refl
  gone_before (CastNews cast false closed) = refl

core_later : (news : News) → filter_map core_name (news_after news) ≡ []
unfolding news_after core_name
core_later Nothing = refl
core_later CoreNews = refl
core_later GoneNews = refl
core_later (AnsweredNews ticket server) = refl
core_later (CastNews cast reached true) = refl
core_later (CastNews cast reached false) = refl

gone_later : (news : News) → filter_map gone_name (news_after news) ≡ []
unfolding news_after gone_name
gone_later Nothing = refl
gone_later CoreNews = refl
gone_later GoneNews = refl
gone_later (AnsweredNews ticket server) = refl
gone_later (CastNews cast reached true) = refl
gone_later (CastNews cast reached false) = refl

sent_none : (h : Record → Option (List ℕ)) → ((number : ℕ) (bytes : List ℕ) → h (Sent number bytes) ≡ None)
    → (p : SettingsValue) (number : ℕ) (frames : List Frame) → filter_map h (sent_records p number frames) ≡ []
sent_none h none p number [] = refl
sent_none h none p number (frame ∷ frames) =
    ap (λ one. cons_option one (filter_map h (sent_records p (number + 1) frames))) (none number _)
    ∙ sent_none h none p (number + 1) frames

-- of three parts the first one tells all
first_tells : (h : Record → Option (List ℕ)) (a b c : List Record) (names : List (List ℕ)) → filter_map h a ≡ names → filter_map h b ≡ []
    → filter_map h c ≡ [] → filter_map h (a ++ (b ++ c)) ≡ names
first_tells h a b c names here one other =
    filter_map-append h a (b ++ c) ∙ ap (λ l. filter_map h a ++ l) (filter_map-append h b c)
    ∙ ap (λ l. filter_map h a ++ (l ++ filter_map h c)) one ∙ ap (λ l. filter_map h a ++ l) other
    ∙ append-nil (filter_map h a) ∙ here

module _ (p : SettingsValue) (number : ℕ) (name : List ℕ) (acted : Acted) where
  core_acted : filter_map core_name (acted_records p number name acted) ≡ one_if (tells_core acted.news) name
  unfolding core_name
  core_acted =
      first_tells core_name (news_before name acted.news) (sent_records p number acted.sent) (news_after acted.news) _
      (core_before name acted.news) (sent_none core_name (λ number bytes. refl) p number acted.sent) (core_later acted.news)

  gone_acted : filter_map gone_name (acted_records p number name acted) ≡ one_if (tells_gone acted.news) name
  unfolding gone_name
  gone_acted =
      first_tells gone_name (news_before name acted.news) (sent_records p number acted.sent) (news_after acted.news) _
      (gone_before name acted.news) (sent_none gone_name (λ number bytes. refl) p number acted.sent) (gone_later acted.news)

pub core_announced : (log : List Record) (step : Step) → filter_map core_name (announced log step) ≡ []
unfolding announced core_name
core_announced log (Publish object server) = refl
core_announced log (Withdraw object server) = refl
core_announced log (Find object asker) = refl
core_announced log (Abandon name) = refl
core_announced log (Cast word prefix asker) = refl
core_announced log step = refl

gone_announced : (log : List Record) (step : Step) → filter_map gone_name (announced log step) ≡ []
unfolding announced gone_name
gone_announced log (Publish object server) = refl
gone_announced log (Withdraw object server) = refl
gone_announced log (Find object asker) = refl
gone_announced log (Abandon name) = refl
gone_announced log (Cast word prefix asker) = refl
gone_announced log step = refl

-- ---- refusals that don't hold

pub first_none : (refusal : Option Refusal) (others : List (Option Refusal)) → first_some (refusal ∷ others) ≡ None
    → (refusal ≡ None) × (first_some others ≡ None)
first_none None others none = (refl, none)
first_none (Some refusal) others none = absurd (cc)

pub cause_fails : (cause : Bool) (refusal : Refusal) → refused_if cause refusal ≡ None → cause ≡ false
cause_fails true refusal none = absurd (cc)
cause_fails false refusal none = refl

not_false : (b : Bool) → not b ≡ false → b ≡ true
not_false true is = refl
not_false false is = absurd (cc)

-- an accepted step finds the node that it asks
pub asked_is_present : (log : List Record) (step : Step) (name : List ℕ) → first_refusal log step ≡ None → asked_node step ≡ Some name
    → has_name (present_of log) name ≡ true
unfolding refuses_no_such_node
asked_is_present log step name accepted asked =
    let none = (first_none (refuses_no_such_node log step) (drop 1 (refusals log step)) accepted).0 in
    let fails = cause_fails (is_and (asked_node step) (λ x. not (has_name (present_of log) x))) NoSuchNode none in
    not_false (has_name (present_of log) name) (sym (ap (λ o. is_and o (λ x. not (has_name (present_of log) x))) asked) ∙ fails)

-- an accepted join is under a new name
pub joiner_is_new : (log : List Record) (name via : List ℕ) → first_refusal log (Join name via) ≡ None
    → has_name (names_of log) name ≡ false
unfolding refuses_name_taken join_name
joiner_is_new log name via accepted =
    let step = Join name via in
    let one = (first_none (refuses_no_such_node log step) (drop 1 (refusals log step)) accepted).1 in
    let two = (first_none (refuses_not_core log step) (drop 2 (refusals log step)) one).1 in
    let three = (first_none (refuses_departing log step) (drop 3 (refusals log step)) two).1 in
    let four = (first_none (refuses_not_at_rest log step) (drop 4 (refusals log step)) three).1 in
    cause_fails (has_name (names_of log) name) NameTaken (first_none (refuses_name_taken log step) (drop 5 (refusals log step)) four).0

-- ---- the node that starts something

-- there is a node, that isn't new
pub record IsThere (p : SettingsValue) (s : System) (step : Step) (name : List ℕ) (start : Start) : Type 0 where
  pub node : NodeState
  pub is : s.node name ≡ Some node
  pub starts : starter p s name start ≡ Some node
  pub joins : join_name step ≡ None

-- the step is a join under a new name
pub record IsNew (s : System) (step : Step) (name : List ℕ) (start : Start) : Type 0 where
  pub via : List ℕ
  pub step_is : step ≡ Join name via
  pub start_is : start ≡ StartJoin via
  pub none : s.node name ≡ None

-- the two parts of what there may be
abbrev pub name_at : Option (List ℕ × Start) → List ℕ
name_at None = []
name_at (Some both) = both.0

abbrev pub start_in : Start → Option (List ℕ × Start) → Start
start_in start None = start
start_in start (Some both) = both.1

present_node : (node : Option NodeState) → is_present_node node ≡ true → is_some node ≡ true
present_node None is = absurd (cc)
present_node (Some node) is = refl

no_node : (node : Option NodeState) → is_some node ≡ false → node ≡ None
no_node None is = refl
no_node (Some node) is = absurd (cc)

module _ (p : SettingsValue) (log : List Record) (s : System) (agree : Agree log s) where
  there_with : (step : Step) (name : List ℕ) (start : Start) → first_refusal log step ≡ None → asked_node step ≡ Some name
      → starter p s name start ≡ s.node name → join_name step ≡ None → IsThere p s step name start
  there_with step name start accepted asked same joins = by_node (s.node name) refl
    where
      by_node : (node : Option NodeState) → s.node name ≡ node → IsThere p s step name start
      by_node None is =
          let there = asked_is_present log step name accepted asked in
          let found = present_node (s.node name) (sym (agree.present name) ∙ there) in
          let none : is_some (s.node name) ≡ false = ap is_some is in absurd (cc)
      by_node (Some node) is = record { node = node; is = is; starts = same ∙ is; joins = joins }

  -- a start of another kind is at a node that was there
  other_start : (x name : List ℕ) (first start : Start) → ◌≡◌ {A = Option (List ℕ × Start)} (Some (x, first)) (Some (name, start))
      → starter p s name first ≡ s.node name → starter p s name start ≡ s.node name
  other_start x name first start at same = ap (starter p s name) (sym (ap (start_in first) at)) ∙ same

  pub starts_of : (step : Step) (name : List ℕ) (start : Start) → first_refusal log step ≡ None → start_at log step ≡ Some (name, start)
      → IsNew s step name start ⊎ IsThere p s step name start
  unfolding actor_of start_of_step asked_node join_name
  starts_of (Join newcomer via) name start accepted at =
      let same : newcomer ≡ name = ap name_at at in
      let what : StartJoin via ≡ start = ap (start_in (StartJoin via)) at in
      let new = no_node (s.node newcomer) (sym (agree.ever newcomer) ∙ joiner_is_new log newcomer via accepted) in
      inl (record {
        via = via;
        step_is = ap (λ x. Join x via) same;
        start_is = sym what;
        none = ap s.node (sym same) ∙ new;
      })
  starts_of (Depart node) name start accepted at =
      inr (there_with _ name start accepted (ap (λ x. Some x) (ap name_at at)) (other_start _ name _ start at refl) refl)
  starts_of (Publish object server) name start accepted at =
      inr (there_with _ name start accepted (ap (λ x. Some x) (ap name_at at)) (other_start _ name _ start at refl) refl)
  starts_of (Withdraw object server) name start accepted at =
      inr (there_with _ name start accepted (ap (λ x. Some x) (ap name_at at)) (other_start _ name _ start at refl) refl)
  starts_of (Find object asker) name start accepted at =
      inr (there_with _ name start accepted (ap (λ x. Some x) (ap name_at at)) (other_start _ name _ start at refl) refl)
  starts_of (Abandon node) name start accepted at =
      inr (there_with _ name start accepted (ap (λ x. Some x) (ap name_at at)) (other_start _ name _ start at refl) refl)
  starts_of (Cast word prefix asker) name start accepted at =
      inr (there_with _ name start accepted (ap (λ x. Some x) (ap name_at at)) (other_start _ name _ start at refl) refl)
  starts_of step name start accepted at = absurd (cc)

-- ---- what is accepted

-- the first of the records of a node that has sent something accepts the step
first_accepted : (p : SettingsValue) (number : ℕ) (name : List ℕ) (news : News) (frame : Frame) (frames : List Frame)
    → is_accepted (news_before name news ++ (sent_records p number (frame ∷ frames) ++ news_after news)) ≡ true
unfolding news_before accepts begins_group
first_accepted p number name Nothing frame frames = refl
first_accepted p number name CoreNews frame frames = refl
first_accepted p number name GoneNews frame frames = refl
first_accepted p number name (AnsweredNews ticket server) frame frames = refl
first_accepted p number name (CastNews cast true closed) frame frames = refl
first_accepted p number name (CastNews cast false closed) frame frames = refl

pub acted_accepted : (p : SettingsValue) (number : ℕ) (name : List ℕ) (acted : Acted) (frame : Frame) (frames : List Frame)
    → acted.sent ≡ frame ∷ frames → is_accepted (acted_records p number name acted) ≡ true
acted_accepted p number name acted frame frames sends =
    ap (λ l. is_accepted (news_before name acted.news ++ (sent_records p number l ++ news_after acted.news))) sends
    ∙ first_accepted p number name acted.news frame frames

-- a join sends a frame
pub join_accepted : (p : SettingsValue) (number : ℕ) (name via : List ℕ)
    → is_accepted (acted_records p number name (act (joiner p name) (Starts (StartJoin via)))) ≡ true
unfolding by_receiver
join_accepted p number name via =
    acted_accepted p number name (act (joiner p name) (Starts (StartJoin via))) _ _ (seek_start_law (joiner p name) via refl).completed.sent.all

-- ---- a group of a start

module _ (p : SettingsValue) (log : List Record) (s : System) (uncarried : is_carried log ≡ false) (index : ℕ) (step : Step)
    (name : List ℕ) (start : Start) (node : NodeState) (begins : starter p s name start ≡ Some node) where
  abbrev acted : Acted
  acted = act node (Starts start)

  abbrev done : List Record
  done = acted_records p (sent_count log) name acted

  abbrev started : List Record
  started = StepRecord index step ∷ (announced log step ++ done)

  started_core : filter_map core_name started ≡ one_if (tells_core acted.news) name
  unfolding core_name
  started_core =
      filter_map-append core_name (announced log step) done ∙ ap (λ l. l ++ filter_map core_name done) (core_announced log step)
      ∙ core_acted p (sent_count log) name acted

  started_gone : filter_map gone_name started ≡ one_if (tells_gone acted.news) name
  unfolding gone_name
  started_gone =
      filter_map-append gone_name (announced log step) done ∙ ap (λ l. l ++ filter_map gone_name done) (gone_announced log step)
      ∙ gone_acted p (sent_count log) name acted

  start_acts : (joins : Bool) (before : Status) → IsNoted before acted.state.status acted.news
      → is_core_node (s.node name) ≡ counts_as_core before → is_ended_node (s.node name) ≡ has_ended before
      → is_some (s.node name) ≡ not joins → (joins ≡ true → has_ended before ≡ false)
      → filter_map join_name (accepted_in false started) ≡ one_if joins name → Acts log started s (moved p s (Begins name start))
  start_acts joins before noted core ended there new joined =
      let did = (starts p s name start node begins).done in
      record {
        name = name;
        joins = joins;
        before = before;
        news = acted.news;
        node = acted.state;
        core = started_core;
        gone = started_gone;
        joined = ap (λ c. filter_map join_name (accepted_in c started)) uncarried ∙ joined;
        was_core = core;
        was_ended = ended;
        was_there = there;
        new = new;
        noted = noted;
        is = did.is;
        others = did.others;
      }

module _ (p : SettingsValue) (log : List Record) (s : System) (uncarried : is_carried log ≡ false) (index : ℕ) where
  -- a node that was there starts something
  there_acts : (step : Step) (name : List ℕ) (start : Start) → IsThere p s step name start
      → All HasNoStep (announced log step ++ records_of_act p log name (starter p s name start) (Starts start))
      → Acts log (StepRecord index step ∷ (announced log step ++ records_of_act p log name (starter p s name start) (Starts start))) s
      (moved p s (Begins name start))
  there_acts step name start there none =
      let Items : Option NodeState → List Record = λ n. announced log step ++ records_of_act p log name n (Starts start) in
      subst (λ n. Acts log (StepRecord index step ∷ (announced log step ++ records_of_act p log name n (Starts start))) s
      (moved p s (Begins name start))) (sym there.starts)
      (start_acts p log s uncarried index step name start there.node there.starts false there.node.status
      (start_noted there.node start) (ap is_core_node there.is) (ap is_ended_node there.is) (ap is_some there.is)
      (λ joins. absurd (cc))
      (none_named join_name index step (Items (Some there.node)) (subst (λ n. All HasNoStep (Items n)) there.starts none)
      (inr there.joins)))

  -- a node that is new joins
  new_acts : (name via : List ℕ) → s.node name ≡ None
      → All HasNoStep (announced log (Join name via) ++ records_of_act p log name (Some (joiner p name)) (Starts (StartJoin via)))
      → Acts log (StepRecord index (Join name via) ∷ (announced log (Join name via)
      ++ records_of_act p log name (Some (joiner p name)) (Starts (StartJoin via)))) s (moved p s (Begins name (StartJoin via)))
  unfolding announced join_name
  new_acts name via none steps =
      start_acts p log s uncarried index (Join name via) name (StartJoin via) (joiner p name) refl true Joining
      (start_noted (joiner p name) (StartJoin via)) (ap is_core_node none) (ap is_ended_node none) (ap is_some none) (λ joins. refl)
      (named_in_group join_name index (Join name via) _ steps
      ∙ ap (λ b. if b then name ∷ [] else []) (join_accepted p (sent_count log) name via))

-- ---- a group of a frame that is taken

pub taken_no_step : (number : ℕ) → HasNoStep (Taken number)
taken_no_step number = refl

module _ (p : SettingsValue) (log : List Record) (s : System) (uncarried : is_carried log ≡ false) (number : ℕ) (frame : Frame)
    (node : NodeState) (found : numbered_frame number s.frames ≡ Some frame) (at : s.node frame.to ≡ Some node) where
  abbrev reply : Acted
  reply = act node (Takes frame)

  abbrev replied : List Record
  replied = acted_records p (sent_count log) frame.to reply

  taken_core : filter_map core_name (Taken number ∷ replied) ≡ one_if (tells_core reply.news) frame.to
  unfolding core_name
  taken_core = core_acted p (sent_count log) frame.to reply

  taken_gone : filter_map gone_name (Taken number ∷ replied) ≡ one_if (tells_gone reply.news) frame.to
  unfolding gone_name
  taken_gone = gone_acted p (sent_count log) frame.to reply

  taken_acts : All HasNoStep replied → Acts log (Taken number ∷ replied) s (moved p s (Delivers number))
  taken_acts steps =
      let did = (delivers p s number frame node found at).done in
      record {
        name = frame.to;
        joins = false;
        before = node.status;
        news = reply.news;
        node = reply.state;
        core = taken_core;
        gone = taken_gone;
        joined = ap (λ c. filter_map join_name (accepted_in c (Taken number ∷ replied))) uncarried
            ∙ ap (filter_map join_name)
            (none_accepted (Taken number ∷ replied) (All-cons HasNoStep (Taken number) replied (taken_no_step number) steps));
        was_core = ap is_core_node at;
        was_ended = ap is_ended_node at;
        was_there = ap is_some at;
        new = λ joins. absurd (cc);
        noted = frame_noted node frame;
        is = did.is;
        others = did.others;
      }

-- ---- the nodes of a course

-- a group of which no node is seen
module _ (log : List Record) (first : Record) (after : List Record) (group : IsGroup log first after) (s : System)
    (core : filter_map core_name (first ∷ after) ≡ []) (gone : filter_map gone_name (first ∷ after) ≡ [])
    (joined : filter_map join_name (accepted_of log (first ∷ after)) ≡ []) (agree : Agree log s) where
  same : (b : Bool) → ((b || false) && true) ≡ b
  same true = refl
  same false = refl

  idle_agree : Agree (log ++ first ∷ after) s
  idle_agree = record {
    core = λ y. core_has log first after group [] y false false false core gone joined ∙ same (has_name (core_of log) y) ∙ agree.core y;
    present = λ y.
        present_has log first after group [] y false false false core gone joined ∙ same (has_name (present_of log) y) ∙ agree.present y;
    gone = λ y. gone_has log first after group [] y false false false core gone joined ∙ or_false (has_name (gone_of log) y) ∙ agree.gone y;
    ever = λ y.
        ever_has log first after group [] y false false false core gone joined ∙ or_false (has_name (names_of log) y) ∙ agree.ever y;
  }

no_join : (step : Step) → actor_of step ≡ None → join_name step ≡ None
unfolding actor_of join_name
no_join (Join name via) none = absurd (cc)
no_join step none = refl

pub step_begins : (index : ℕ) (step : Step) → begins_group false (StepRecord index step) ≡ true
unfolding begins_group
step_begins index step = refl

pub taken_begins : (number : ℕ) → begins_group false (Taken number) ≡ true
unfolding begins_group
taken_begins number = refl

module _ (p : SettingsValue) (log : List Record) (s : System) (begun : 1 ≤ length log) (uncarried : is_carried log ≡ false)
    (agree : Agree log s) where
  module _ (index : ℕ) (step : Step) (items : List Record) (within : All Within items) where
    step_group : IsGroup log (StepRecord index step) items
    step_group = is_group log (StepRecord index step) items begun uncarried (step_begins index step) within

    idle_nodes : IsIdle log step items → Agree (log ++ StepRecord index step ∷ items) s
    unfolding core_name gone_name
    idle_nodes idle =
        let plain : (is_accepted items ≡ false) ⊎ (join_name step ≡ None) =
        elim (idle.plain) [ inl not_accepted ↦ inl not_accepted | inr none ↦ inr (no_join step none) ] in
        idle_agree log (StepRecord index step) items step_group s
        (none_of core_name items (λ k d there. (idle.quiet k d there).core))
        (none_of gone_name items (λ k d there. (idle.quiet k d there).gone))
        (ap (λ c. filter_map join_name (accepted_in c (StepRecord index step ∷ items))) uncarried
        ∙ none_named join_name index step items (no_steps items within) plain)
        agree

    module _ (starting : IsStarting p log s step items) where
      abbrev does : Step → Start → List Record
      does st start = announced log st ++ records_of_act p log starting.name (starter p s starting.name start) (Starts start)

      abbrev Seen : Step → Start → Type 0
      Seen st start = Acts log (StepRecord index st ∷ does st start) s (moved p s (Begins starting.name start))

      steps : All HasNoStep (does step starting.start)
      steps = subst (All HasNoStep) starting.are (no_steps items within)

      new_seen : (new : IsNew s step starting.name starting.start) → Seen step starting.start
      new_seen new =
          let join = Join starting.name new.via in
          let there : All HasNoStep (does join (StartJoin new.via)) =
          subst (λ w. All HasNoStep (does join w)) new.start_is (subst (λ st. All HasNoStep (does st starting.start)) new.step_is steps) in
          subst (λ st. Seen st starting.start) (sym new.step_is)
          (subst (λ w. Seen join w) (sym new.start_is) (new_acts p log s uncarried index starting.name new.via new.none there))

      seen : Seen step starting.start
      seen =
          elim (starts_of p log s agree step starting.name starting.start starting.accepted starting.at) [
            | inl new ↦ new_seen new
            | inr there ↦ there_acts p log s uncarried index step starting.name starting.start there steps
          ]

      start_agree : Agree (log ++ StepRecord index step ∷ items) (moved p s (Begins starting.name starting.start))
      start_agree =
          agree_after log (StepRecord index step) items step_group s (moved p s (Begins starting.name starting.start))
          (subst (λ l. Acts log (StepRecord index step ∷ l) s (moved p s (Begins starting.name starting.start))) (sym starting.are) seen)
          agree

  -- a frame is taken: no node is seen if there is no such frame or its receiver is none
  module _ (number : ℕ) where
    no_nodes : (s' : System) → ((x : List ℕ) → s'.node x ≡ s.node x) → Agree (log ++ Taken number ∷ []) s'
    unfolding core_name gone_name
    no_nodes s' same =
        same_nodes (log ++ Taken number ∷ []) s s' same
        (idle_agree log (Taken number) [] (is_group log (Taken number) [] begun uncarried (taken_begins number) (All-nil Within)) s
        refl refl (ap (λ c. filter_map join_name (accepted_in c (Taken number ∷ []))) uncarried) agree)

    receiver_seen : (frame : Frame) (node : NodeState) → numbered_frame number s.frames ≡ Some frame → s.node frame.to ≡ Some node
        → All Within (acted_records p (sent_count log) frame.to (act node (Takes frame)))
        → Agree (log ++ Taken number ∷ acted_records p (sent_count log) frame.to (act node (Takes frame))) (moved p s (Delivers number))
    receiver_seen frame node is at within =
        let does = acted_records p (sent_count log) frame.to (act node (Takes frame)) in
        agree_after log (Taken number) does (is_group log (Taken number) does begun uncarried (taken_begins number) within) s
        (moved p s (Delivers number)) (taken_acts p log s uncarried number frame node is at (no_steps does within)) agree

    nothing_taken : numbered_frame number s.frames ≡ None → moved p s (Delivers number) ≡ s
    unfolding moved
    nothing_taken is = rw is refl

    taken_agree : (frame : Option Frame) → numbered_frame number s.frames ≡ frame → All Within (received_records p log s frame)
        → Agree (log ++ Taken number ∷ received_records p log s frame) (moved p s (Delivers number))
    taken_agree None is within = no_nodes (moved p s (Delivers number)) (λ x. ap (λ t. t.node x) (nothing_taken is))
    taken_agree (Some frame) is within = by_node (s.node frame.to) refl within
      where
        by_node : (node : Option NodeState) → s.node frame.to ≡ node → All Within (records_of_act p log frame.to node (Takes frame))
            → Agree (log ++ Taken number ∷ records_of_act p log frame.to node (Takes frame)) (moved p s (Delivers number))
        by_node None at all = no_nodes (moved p s (Delivers number)) (lost p s number frame is at).node
        by_node (Some node) at all = receiver_seen frame node is at all

  pub nodes_step : (group : List Record) → MayFollow p log s group → Agree (log ++ group) (moved_by p s (move_of_group log group))
  unfolding MayFollow
  nodes_step (StepRecord index step ∷ items) may =
      let within = step_within p log s index step items may in
      elim (step_kind p log s index step items may) [
        | inl idle ↦
            subst (λ m. Agree (log ++ StepRecord index step ∷ items) (moved_by p s m)) (sym (step_moves log index step items ∙ idle.still))
            (idle_nodes index step items within idle)
        | inr starting ↦
            subst (λ m. Agree (log ++ StepRecord index step ∷ items) (moved_by p s m))
            (sym (starting_moves p log s index step items starting))
            (start_agree index step items within starting)
      ]
  nodes_step (Taken number ∷ items) may =
      let within = subst (All Within) may.are (taken_within p log s number items may) in
      subst (λ m. Agree (log ++ Taken number ∷ items) (moved_by p s m)) (sym (taken_moves log number items))
      (subst (λ l. Agree (log ++ Taken number ∷ l) (moved p s (Delivers number))) (sym may.are)
      (taken_agree number (numbered_frame number s.frames) refl within))
  nodes_step group may = absurd may

-- who is a member is core and present, and hasn't ended
pub record IsAsMember (there : Bool) (node : Option NodeState) : Type 0 where
  pub core : there ≡ is_core_node node
  pub present : there ≡ is_present_node node
  pub ended : false ≡ is_ended_node node
  pub ever : there ≡ is_some node

-- the beginning
module _ (b : Beginning) where
  member_here : (there : Bool) (node : NodeState) → counts_as_core node.status ≡ true → has_ended node.status ≡ false
      → IsAsMember there (if there then Some node else None)
  member_here true node core runs = record { core = sym core; present = ap not (sym runs); ended = sym runs; ever = refl }
  member_here false node core runs = record { core = refl; present = refl; ended = refl; ever = refl }

  member_is : (x : List ℕ) → IsAsMember (has_name b.members x) (member_of b.settings b.members x)
  member_is x = member_here (has_name b.members x) (member_at_rest b.settings b.members x) refl refl

  none_gone : gone_of (begin_record b ∷ []) ≡ []
  unfolding gone_name
  none_gone = refl

  begin_agree : Agree (begin_record b ∷ []) (system_at_rest b.settings b.members)
  begin_agree =
      let new = record_changes_hold.begins b.settings b.frames b.members in
      record {
        core = λ x. ap (λ l. has_name l x) new.core ∙ (member_is x).core;
        present = λ x. ap (λ l. has_name l x) new.present ∙ (member_is x).present;
        gone = λ x. ap (λ l. has_name l x) none_gone ∙ (member_is x).ended;
        ever = λ x. ap (λ l. has_name l x) new.names ∙ each_once b.members x ∙ (member_is x).ever;
      }

  nodes_grow : (log group : List Record) → IsCourse b log → is_ended log ≡ false → Follows b log group
      → Agree log (system_of log) → Agree (log ++ group) (system_of (log ++ group))
  nodes_grow log group course going follows agree =
      subst (Agree (log ++ group)) (sym (grown_system b log group course going follows))
      (nodes_step b.settings log (system_of log) (starts_begun log (begin_record b) course.begins)
      (starts_uncarried log (begin_record b) course.begins) agree group follows.may)

  pub nodes_agree : (log : List Record) → IsCourse b log → is_ended log ≡ false → Agree log (system_of log)
  nodes_agree = by_groups b (λ log. Agree log (system_of log)) nodes_grow
      (subst (Agree (begin_record b ∷ [])) (sym (start_system b)) begin_agree)
