-- Pointers stand after each group of a run, and the pairs that are served are those that its log has as published.
use Rattle.std.proofs.Common.{◌≡◌, ◌⊎◌, inl, inr, ℕ, ◌≤◌, nat_eq, not, Bool, true, false, List, [], ◌∷◌, ◌++◌, length, All, Option, None, Some, append-nil, arith, if◌then◌else◌, refl, ap, sym, subst, ◌∙◌}
use Rattle.std.specs.Prelude.{◌&&◌, ◌||◌, bytes_eq}
use Rattle.std.specs.Cmp.Lexicographic.{pointwise}
use Rattle.std.specs.List.{cons_option, filter_map}
use Rattle.std.proofs.lemmas.Bool.{cases_Bool}
use Rattle.std.proofs.lemmas.List.Elements.{All-append, All-cons, filter_map-append}
use Rattle.std.proofs.lemmas.List.Folds.{list_any-append}
use Rattle.std.proofs.lemmas.Slice.Eq.{bytes_eq-Decides}
use Rattle.tap_name.specs.Names.{has_name}
use Rattle.tap_name.specs.Settings.{SettingsValue}
use Rattle.tap_pointer.specs.declared.pair.Pair.{Pair}
use Rattle.tap_pointer.specs.Pointers.{pair_of}
use Rattle.tap_scenario.specs.declared.step.Step.{Step}
use Rattle.tap_scenario.specs.declared.step.Step.TheVariants.{Abandon, Cast, Depart, Find, Join, Publish, Withdraw}
use Rattle.tap_log.specs.Counts.{sent_count}
use Rattle.tap_log.specs.Kinds.{is_carried, published_pair, withdrawn_pair}
use Rattle.tap_log.specs.declared.record.Pair as logged
use Rattle.tap_log.specs.declared.record.Record.{Record}
use Rattle.tap_log.specs.declared.record.Record.TheVariants.{Published, Step as StepRecord, Taken, Withdrawn}
use Rattle.tap_history.specs.Core.{accepted_in, departures_of}
use Rattle.tap_history.specs.GroupLaws.{IsGroup}
use Rattle.tap_history.specs.Published.{has_pair, published_of, same_pair, unwithdrawn_pair, unwithdrawn_pairs}
use Rattle.tap_history.specs.StepAsks.{actor_of, depart_name}
use Rattle.tap_rule.specs.Act.{act}
use Rattle.tap_rule.specs.Event.{Start}
use Rattle.tap_rule.specs.Event.Event.{Starts}
use Rattle.tap_rule.specs.Event.Start.{Abandon as StartAbandon, Join as StartJoin, Leave as StartLeave, Publish as StartPublish, Withdraw as StartWithdraw}
use Rattle.tap_rule.specs.Node.{NodeState}
use Rattle.tap_rule.specs.Node.Status.{Core}
use Rattle.tap_safety.specs.Move.{may_move, may_start}
use Rattle.tap_safety.specs.Move.Move.{Begins, Delivers}
use Rattle.tap_safety.specs.Moved.{moved, starter}
use Rattle.tap_safety.specs.System.{System}
use Rattle.tap_runs.specs.Acts.{acted_records}
use Rattle.tap_runs.specs.Group.{records_of_act, start_at}
use Rattle.tap_runs.specs.Observed.{pair_line}
use Rattle.tap_runs.specs.Starts.{announced, start_of_step}
use Rattle.tap_runs.proofs.Nodes.{HasNoStep, name_at, named_in_group, no_steps, none_accepted, none_named, start_in, step_begins, taken_begins, taken_no_step}
use Rattle.tap_runs.proofs.Within.{IsIdle, IsStarting, Within, is_accepted, is_group}
use Rattle.tap_safety_moves.specs.Sound.{Sound}
use Rattle.tap_safe_runs.proofs.Starting.{leave_accepted}
use Rattle.tap_pointer_moves.specs.Ever.{AreOfPublished}
use Rattle.tap_pointer_moves.specs.Publications.{IsLeaver, has_left, is_pair, is_served, served_after}
use Rattle.tap_pointer_moves.specs.LaysTold.{PointersStand}
use Rattle.tap_pointer_moves.proofs.Ever.{ever_kept}
use Rattle.tap_pointer_moves.proofs.PointersKept.{pointers_kept}
use Rattle.tap_pointer_moves.proofs.Publications.{frame_serves, leavers_stay, leaves_once, start_serves}
use Rattle.tap_pointer_runs.specs.Paths.{was_published}
use Rattle.tap_pointer_runs.proofs.Pairs.{and_false, departures_after, or_false, published_after, same_pair_is}
use Rattle.tap_pointer_runs.proofs.Unpaired.{IsUnpaired, act_unpaired, none_published, none_withdrawn}

-- ---- tests

names_sym : (a b : List ℕ) → pointwise nat_eq a b ≡ pointwise nat_eq b a
names_sym a b =
    elim (cases_Bool (bytes_eq a b)) [
      | inl same ↦ same ∙ sym ((bytes_eq-Decides b a).1 (sym ((bytes_eq-Decides a b).0 same)))
      | inr apart ↦ elim (cases_Bool (bytes_eq b a)) [
        | inl same ↦
            let there : pointwise nat_eq a b ≡ true = (bytes_eq-Decides a b).1 (sym ((bytes_eq-Decides b a).0 same)) in
            there ∙ sym same
        | inr differ ↦ apart ∙ sym differ
      ]
    ]

-- the pair as a log has it
line_is : (object server : List ℕ) (pair : Pair) → same_pair (pair_line (pair_of object server)) (pair_line pair)
    ≡ is_pair pair (pair_of object server)
line_is object server pair =
    ap (λ b. b && pointwise nat_eq server pair.server) (names_sym object pair.object)
    ∙ ap (λ b. pointwise nat_eq pair.object object && b) (names_sym server pair.server)

-- what a group makes of a test: nothing new, a pair more, a pair less, a server less
quiet_test : (d was : Bool) → ((true && was) || (not d && false)) ≡ was
quiet_test d was = ap (λ b. was || b) (and_false (not d)) ∙ or_false was

more_test : (d was is : Bool) → (is ≡ true → d ≡ false) → ((true && was) || (not d && (is || false))) ≡ (is || was)
more_test d true true fresh = refl
more_test d false true fresh = ap (λ b. not b && true) (fresh refl)
more_test d was false fresh = quiet_test d was

less_test : (d was is : Bool) → ((not (is || false) && was) || (not d && false)) ≡ (not is && was)
less_test d was true = and_false (not d)
less_test d was false = quiet_test d was

left_test : (d was is : Bool) → (not (is || false) && ((true && was) || (not d && false))) ≡ (not is && was)
left_test d was true = refl
left_test d was false = quiet_test d was

-- ---- what has come of a log

-- pointers stand, the pairs that are served are the published ones, and whoever has departed leaves or has left
pub record Grown (log : List Record) (s : System) : Type 0 where
  pub stand : PointersStand s
  pub agree : (pair : Pair) → has_pair (published_of log) (pair_line pair) ≡ is_served s pair
  pub departed : (x : List ℕ) → has_name (departures_of log) x ≡ true → IsLeaver s x
  pub ever : AreOfPublished (was_published log) s

-- what was published stays so as the log grows
pub was_grows : (log group : List Record) (pair : Pair) → was_published log pair ≡ true → was_published (log ++ group) pair ≡ true
was_grows log group pair was =
    ap (λ l. has_pair l (pair_line pair)) (filter_map-append published_pair log group)
    ∙ list_any-append (λ other. same_pair other (pair_line pair)) (filter_map published_pair log) (filter_map published_pair group)
    ∙ ap (λ b. b || has_pair (filter_map published_pair group) (pair_line pair)) was

pub ever_grows : (log group : List Record) (s : System) → AreOfPublished (was_published log) s
    → AreOfPublished (was_published (log ++ group)) s
ever_grows log group s ever = record {
  published = λ x node pair is published. was_grows log group pair (ever.published x node pair is published);
  kept = λ t x pair word kept. was_grows log group pair (ever.kept t x pair word kept);
  ways = λ x t pair word way. was_grows log group pair (ever.ways x t pair word way);
}

-- and what a group publishes was published after it
or_true : (b : Bool) → (b || true) ≡ true
or_true true = refl
or_true false = refl

new_was : (log group : List Record) (object server : List ℕ) (rest : List logged.Pair)
    → filter_map published_pair group ≡ pair_line (pair_of object server) ∷ rest
    → was_published (log ++ group) (pair_of object server) ≡ true
new_was log group object server rest is =
    let q = pair_line (pair_of object server) in
    let itself : same_pair q q ≡ true =
    ap (λ b. b && pointwise nat_eq server server) ((bytes_eq-Decides object object).1 refl) ∙ (bytes_eq-Decides server server).1 refl in
    ap (λ l. has_pair l q) (filter_map-append published_pair log group)
    ∙ list_any-append (λ other. same_pair other q) (filter_map published_pair log) (filter_map published_pair group)
    ∙ ap (λ l. has_pair (filter_map published_pair log) q || has_pair l q) is
    ∙ ap (λ b. has_pair (filter_map published_pair log) q || (b || has_pair rest q)) itself
    ∙ or_true (has_pair (filter_map published_pair log) q)

-- a core node hasn't departed
core_stays : (log : List Record) (s : System) (x : List ℕ) (node : NodeState) → Grown log s → s.node x ≡ Some node → node.status ≡ Core
    → has_name (departures_of log) x ≡ false
core_stays log s x node grown at core =
    elim (cases_Bool (has_name (departures_of log) x)) [
      | inl left ↦
          let leaver = grown.departed x left in
          let found : Some leaver.state ≡ Some node = sym leaver.is ∙ at in
          let same : leaver.state ≡ node = cc in
          let wrong : ⊥ = subst has_left (ap (λ (n : NodeState). n.status) same ∙ core) leaver.left in
          absurd wrong
      | inr stays ↦ stays
    ]

-- ---- what a step starts

-- a step that has nothing to do with pairs and departures
pub record IsAside (log : List Record) (step : Step) (name : List ℕ) (start : Start) : Type 0 where
  pub said : All IsUnpaired (announced log step)
  pub stays : depart_name step ≡ None
  pub serves : (pair : Pair) (before : Bool) → served_after name start pair before ≡ before
  pub unpublished : (object : List ℕ) → start ≡ StartPublish object → ⊥

abbrev KindOf : List Record → Step → List ℕ → Start → Type 0
KindOf log step name start =
    ((object : List ℕ) × (step ≡ Publish object name) × (start ≡ StartPublish object))
    ⊎ (((object : List ℕ) × (step ≡ Withdraw object name) × (start ≡ StartWithdraw object))
    ⊎ (((step ≡ Depart name) × (start ≡ StartLeave)) ⊎ IsAside log step name start))

module _ (log : List Record) (name : List ℕ) (start : Start) where
  serves_alike : (x : List ℕ) (first : Start) → ◌≡◌ {A = Option (List ℕ × Start)} (Some (x, first)) (Some (name, start))
      → ((pair : Pair) (before : Bool) → served_after name first pair before ≡ before)
      → (pair : Pair) (before : Bool) → served_after name start pair before ≡ before
  serves_alike x first at same pair before =
      ap (λ w. served_after name w pair before) (sym (ap (start_in first) at)) ∙ same pair before

  never_publishes : (x : List ℕ) (first : Start) → ◌≡◌ {A = Option (List ℕ × Start)} (Some (x, first)) (Some (name, start))
      → ((object : List ℕ) → first ≡ StartPublish object → ⊥) → (object : List ℕ) → start ≡ StartPublish object → ⊥
  never_publishes x first at never object is = never object (ap (start_in first) at ∙ is)

  no_pairs : All IsUnpaired []
  no_pairs = λ k d inside. absurd (omega arith)

  one_no_pair : (item : Record) → IsUnpaired item → All IsUnpaired (item ∷ [])
  one_no_pair item is = All-cons IsUnpaired item [] is no_pairs

  kind_of : (step : Step) → start_at log step ≡ Some (name, start) → KindOf log step name start
  unfolding actor_of start_of_step depart_name announced published_pair withdrawn_pair
  kind_of (Publish object server) at =
      inl (object, ap (λ n. Publish object n) (ap name_at at), sym (ap (start_in (StartPublish object)) at))
  kind_of (Withdraw object server) at =
      inr (inl (object, ap (λ n. Withdraw object n) (ap name_at at), sym (ap (start_in (StartWithdraw object)) at)))
  kind_of (Depart node) at = inr (inr (inl (ap (λ x. Depart x) (ap name_at at), sym (ap (start_in StartLeave) at))))
  kind_of (Join newcomer via) at =
      inr (inr (inr (record {
        said = no_pairs;
        stays = refl;
        serves = serves_alike newcomer (StartJoin via) at (λ pair before. refl);
        unpublished = never_publishes newcomer (StartJoin via) at (λ object is. cc);
      })))
  kind_of (Find object asker) at =
      inr (inr (inr (record {
        said = one_no_pair _ (refl, refl);
        stays = refl;
        serves = serves_alike asker _ at (λ pair before. refl);
        unpublished = never_publishes asker _ at (λ object is. cc);
      })))
  kind_of (Abandon node) at =
      inr (inr (inr (record {
        said = one_no_pair _ (refl, refl);
        stays = refl;
        serves = serves_alike node StartAbandon at (λ pair before. refl);
        unpublished = never_publishes node StartAbandon at (λ object is. cc);
      })))
  kind_of (Cast word prefix asker) at =
      inr (inr (inr (record {
        said = one_no_pair _ (refl, refl);
        stays = refl;
        serves = serves_alike asker _ at (λ pair before. refl);
        unpublished = never_publishes asker _ at (λ object is. cc);
      })))
  kind_of step at = absurd (cc)

published_first : (log : List Record) (object server : List ℕ) → announced log (Publish object server) ≡ Published object server ∷ []
unfolding announced
published_first log object server = refl

withdrawn_first : (log : List Record) (object server : List ℕ) → announced log (Withdraw object server) ≡ Withdrawn object server ∷ []
unfolding announced
withdrawn_first log object server = refl

nothing_first : (log : List Record) (name : List ℕ) → announced log (Depart name) ≡ []
unfolding announced
nothing_first log name = refl

publish_no_leave : (object server : List ℕ) → depart_name (Publish object server) ≡ None
unfolding depart_name
publish_no_leave object server = refl

withdraw_no_leave : (object server : List ℕ) → depart_name (Withdraw object server) ≡ None
unfolding depart_name
withdraw_no_leave object server = refl

leaver_named : (name : List ℕ) → depart_name (Depart name) ≡ Some name
unfolding depart_name
leaver_named name = refl

no_departure : (step : Step) → actor_of step ≡ None → depart_name step ≡ None
unfolding actor_of depart_name
no_departure (Depart name) none = absurd (cc)
no_departure step none = refl

-- ---- what the records of a group say

module _ (index : ℕ) (step : Step) (rest : List Record) (none : All IsUnpaired rest) where
  publish_says : (object server : List ℕ)
      → (filter_map withdrawn_pair (StepRecord index step ∷ Published object server ∷ rest) ≡ [])
      × (unwithdrawn_pairs (StepRecord index step ∷ Published object server ∷ rest) ≡ pair_line (pair_of object server) ∷ [])
  unfolding published_pair withdrawn_pair
  publish_says object server =
      let pair : logged.Pair = pair_line (pair_of object server) in (
        none_withdrawn rest none,
        ap (λ l. cons_option (unwithdrawn_pair (Some pair) rest) l) (none_published rest none)
            ∙ ap (λ l. cons_option (if has_pair l pair then None else Some pair) []) (none_withdrawn rest none),
      )

  withdraw_says : (object server : List ℕ)
      → (filter_map withdrawn_pair (StepRecord index step ∷ Withdrawn object server ∷ rest) ≡ pair_line (pair_of object server) ∷ [])
      × (unwithdrawn_pairs (StepRecord index step ∷ Withdrawn object server ∷ rest) ≡ [])
  unfolding published_pair withdrawn_pair
  withdraw_says object server =
      (ap (λ l. pair_line (pair_of object server) ∷ l) (none_withdrawn rest none), none_published rest none)

  others_say : (filter_map withdrawn_pair (StepRecord index step ∷ rest) ≡ []) × (unwithdrawn_pairs (StepRecord index step ∷ rest) ≡ [])
  unfolding published_pair withdrawn_pair
  others_say = (none_withdrawn rest none, none_published rest none)

publish_named : (index : ℕ) (step : Step) (rest : List Record) (object server : List ℕ)
    → filter_map published_pair (StepRecord index step ∷ Published object server ∷ rest)
    ≡ pair_line (pair_of object server) ∷ filter_map published_pair rest
unfolding published_pair
publish_named index step rest object server = refl

taken_says : (number : ℕ) (rest : List Record) → All IsUnpaired rest
    → (filter_map withdrawn_pair (Taken number ∷ rest) ≡ []) × (unwithdrawn_pairs (Taken number ∷ rest) ≡ [])
unfolding published_pair withdrawn_pair
taken_says number rest none = (none_withdrawn rest none, none_published rest none)

-- ---- one more group

module _ (p : SettingsValue) (log : List Record) (s : System) (grown : Grown log s) (uncarried : is_carried log ≡ false) where
  -- a group in which nobody departs
  module _ (first : Record) (after : List Record) (group : IsGroup log first after)
      (nobody : filter_map depart_name (accepted_in false (first ∷ after)) ≡ []) where
    departures_stay : departures_of (log ++ first ∷ after) ≡ departures_of log
    departures_stay = departures_after log first after group uncarried [] nobody ∙ append-nil (departures_of log)

    -- and in which no pair is published or withdrawn
    pairs_stay : (filter_map withdrawn_pair (first ∷ after) ≡ []) × (unwithdrawn_pairs (first ∷ after) ≡ []) → (q : logged.Pair)
        → has_pair (published_of (log ++ first ∷ after)) q ≡ has_pair (published_of log) q
    pairs_stay none q =
        published_after log first after group uncarried [] nobody [] [] none.0 none.1 q
        ∙ quiet_test (has_name (departures_of log) q.server) (has_pair (published_of log) q)

    -- leaves the log as it is for a system in which the same pairs are served
    aside_grown : (s' : System) → PointersStand s' → (filter_map withdrawn_pair (first ∷ after) ≡ [])
        × (unwithdrawn_pairs (first ∷ after) ≡ []) → ((pair : Pair) → is_served s' pair ≡ is_served s pair)
        → ((x : List ℕ) → IsLeaver s x → IsLeaver s' x) → AreOfPublished (was_published (log ++ first ∷ after)) s'
        → Grown (log ++ first ∷ after) s'
    aside_grown s' stand none same leaves ever = record {
      stand = stand;
      agree = λ pair. pairs_stay none (pair_line pair) ∙ grown.agree pair ∙ sym (same pair);
      departed = λ x left. leaves x (grown.departed x (sym (ap (λ l. has_name l x) departures_stay) ∙ left));
      ever = ever;
    }

  module _ (begun : 1 ≤ length log) (sound : Sound p s) where
    -- ---- a frame that is taken

    pub taken_grown : (number : ℕ) (items : List Record) → All Within items → All IsUnpaired items → may_move p s (Delivers number)
        → Grown (log ++ Taken number ∷ items) (moved p s (Delivers number))
    taken_grown number items within none may =
        let group = is_group log (Taken number) items begun uncarried (taken_begins number) within in
        let nobody : filter_map depart_name (accepted_in false (Taken number ∷ items)) ≡ [] =
        ap (filter_map depart_name)
        (none_accepted (Taken number ∷ items) (All-cons HasNoStep (Taken number) items (taken_no_step number) (no_steps items within))) in
        aside_grown (Taken number) items group nobody (moved p s (Delivers number))
        (pointers_kept p s (Delivers number) may sound grown.stand) (taken_says number items none)
        (λ pair. frame_serves p s number pair may sound grown.stand)
        (λ x leaver. leavers_stay p s (Delivers number) x may sound grown.stand leaver)
        (ever_kept p s (Delivers number) (was_published (log ++ Taken number ∷ items)) may sound grown.stand
        (λ x object is. let wrong : Delivers number ≡ Begins x (StartPublish object) = is in absurd (cc))
        (ever_grows log (Taken number ∷ items) s grown.ever))

    -- ---- a step

    module _ (index : ℕ) (step : Step) (items : List Record) (within : All Within items) where
      step_group : IsGroup log (StepRecord index step) items
      step_group = is_group log (StepRecord index step) items begun uncarried (step_begins index step) within

      pub idle_grown : IsIdle log step items → All IsUnpaired items → Grown (log ++ StepRecord index step ∷ items) s
      idle_grown idle none =
          let plain : (is_accepted items ≡ false) ⊎ (depart_name step ≡ None) =
          elim (idle.plain) [ inl not_accepted ↦ inl not_accepted | inr nobody ↦ inr (no_departure step nobody) ] in
          aside_grown (StepRecord index step) items step_group (none_named depart_name index step items (no_steps items within) plain) s
          grown.stand (others_say index step items none) (λ pair. refl) (λ x leaver. leaver)
          (ever_grows log (StepRecord index step ∷ items) s grown.ever)

      module _ (starting : IsStarting p log s step items) (may : may_start p s starting.name starting.start) where
        abbrev name : List ℕ
        name = starting.name

        abbrev now : System
        now = moved p s (Begins starting.name starting.start)

        stands_now : PointersStand now
        stands_now = pointers_kept p s (Begins name starting.start) may sound grown.stand

        serves_now : (pair : Pair) → is_served now pair ≡ served_after name starting.start pair (is_served s pair)
        serves_now pair = start_serves p s name starting.start pair may sound grown.stand

        leaves_now : (x : List ℕ) → IsLeaver s x → IsLeaver now x
        leaves_now x leaver = leavers_stay p s (Begins name starting.start) x may sound grown.stand leaver

        abbrev done : List Record
        done = records_of_act p log name (starter p s name starting.start) (Starts starting.start)

        done_none : All IsUnpaired done
        done_none = act_unpaired p log name (starter p s name starting.start) (Starts starting.start)

        nobody_leaves : depart_name step ≡ None → filter_map depart_name (accepted_in false (StepRecord index step ∷ items)) ≡ []
        nobody_leaves stays = none_named depart_name index step items (no_steps items within) (inr stays)

        -- what is known of was published, also of what is published now
        ever_now : ((object : List ℕ) → starting.start ≡ StartPublish object
            → was_published (log ++ StepRecord index step ∷ items) (pair_of object name) ≡ true)
            → AreOfPublished (was_published (log ++ StepRecord index step ∷ items)) now
        ever_now new =
            ever_kept p s (Begins name starting.start) (was_published (log ++ StepRecord index step ∷ items)) may sound grown.stand
            (λ x object is.
            let here : name ≡ x = cc in
            let start_is : starting.start ≡ StartPublish object = cc in
            subst (λ y. was_published (log ++ StepRecord index step ∷ items) (pair_of object y) ≡ true) here (new object start_is))
            (ever_grows log (StepRecord index step ∷ items) s grown.ever)

        -- a start that has nothing to do with pairs
        aside_start : IsAside log step name starting.start → Grown (log ++ StepRecord index step ∷ items) now
        aside_start aside =
            let none : All IsUnpaired items =
            subst (All IsUnpaired) (sym starting.are) (All-append IsUnpaired (announced log step) done aside.said done_none) in
            aside_grown (StepRecord index step) items step_group (nobody_leaves aside.stays) now stands_now
            (others_say index step items none) (λ pair. serves_now pair ∙ aside.serves pair (is_served s pair)) leaves_now
            (ever_now (λ object publishes. absurd (aside.unpublished object publishes)))

        -- a publication
        publish_start : (object : List ℕ) → step ≡ Publish object name → starting.start ≡ StartPublish object
            → Grown (log ++ StepRecord index step ∷ items) now
        publish_start object is starts =
            let says = publish_says index step done done_none object name in
            let are : items ≡ Published object name ∷ done =
            starting.are ∙ ap (λ l. l ++ done) (ap (announced log) is ∙ published_first log object name) in
            let nobody = nobody_leaves (ap depart_name is ∙ publish_no_leave object name) in
            let may_act = subst (may_start p s name) starts may in
            let core = core_stays log s name may_act.acts.state grown may_act.acts.is may_act.acts.core in
            record {
              stand = stands_now;
              ever = ever_now (λ other publishes.
                  let same : other ≡ object = let both : StartPublish other ≡ StartPublish object = sym publishes ∙ starts in cc in
                  subst (λ o. was_published (log ++ StepRecord index step ∷ items) (pair_of o name) ≡ true) (sym same)
                  (new_was log (StepRecord index step ∷ items) object name (filter_map published_pair done)
                  (ap (λ l. filter_map published_pair (StepRecord index step ∷ l)) are ∙ publish_named index step done object name)));
              agree = λ pair.
                  let q = pair_line pair in
                  let d = has_name (departures_of log) pair.server in
                  let new = pair_line (pair_of object name) in
                  published_after log (StepRecord index step) items step_group uncarried [] nobody [] (new ∷ [])
                  (ap (λ l. filter_map withdrawn_pair (StepRecord index step ∷ l)) are ∙ says.0)
                  (ap (λ l. unwithdrawn_pairs (StepRecord index step ∷ l)) are ∙ says.1) q
                  ∙ more_test d (has_pair (published_of log) q) (same_pair new q)
                  (λ same. sym (ap (λ (w : logged.Pair). has_name (departures_of log) w.server) (same_pair_is new q same)) ∙ core)
                  ∙ ap (λ b. b || has_pair (published_of log) q) (line_is object name pair)
                  ∙ ap (λ b. is_pair pair (pair_of object name) || b) (grown.agree pair)
                  ∙ sym (serves_now pair ∙ ap (λ w. served_after name w pair (is_served s pair)) starts);
              departed = λ x left.
                  leaves_now x (grown.departed x
                  (sym (ap (λ l. has_name l x) (departures_stay (StepRecord index step) items step_group nobody)) ∙ left));
            }

        -- a withdrawal
        withdraw_start : (object : List ℕ) → step ≡ Withdraw object name → starting.start ≡ StartWithdraw object
            → Grown (log ++ StepRecord index step ∷ items) now
        withdraw_start object is starts =
            let says = withdraw_says index step done done_none object name in
            let are : items ≡ Withdrawn object name ∷ done =
            starting.are ∙ ap (λ l. l ++ done) (ap (announced log) is ∙ withdrawn_first log object name) in
            let nobody = nobody_leaves (ap depart_name is ∙ withdraw_no_leave object name) in
            record {
              stand = stands_now;
              ever = ever_now (λ other publishes.
                  let wrong : StartWithdraw object ≡ StartPublish other = sym starts ∙ publishes in absurd (cc));
              agree = λ pair.
                  let q = pair_line pair in
                  let d = has_name (departures_of log) pair.server in
                  let old = pair_line (pair_of object name) in
                  published_after log (StepRecord index step) items step_group uncarried [] nobody (old ∷ []) []
                  (ap (λ l. filter_map withdrawn_pair (StepRecord index step ∷ l)) are ∙ says.0)
                  (ap (λ l. unwithdrawn_pairs (StepRecord index step ∷ l)) are ∙ says.1) q
                  ∙ less_test d (has_pair (published_of log) q) (same_pair old q)
                  ∙ ap (λ b. not b && has_pair (published_of log) q) (line_is object name pair)
                  ∙ ap (λ b. not (is_pair pair (pair_of object name)) && b) (grown.agree pair)
                  ∙ sym (serves_now pair ∙ ap (λ w. served_after name w pair (is_served s pair)) starts);
              departed = λ x left.
                  leaves_now x (grown.departed x
                  (sym (ap (λ l. has_name l x) (departures_stay (StepRecord index step) items step_group nobody)) ∙ left));
            }

        -- a departure
        leave_start : step ≡ Depart name → starting.start ≡ StartLeave → Grown (log ++ StepRecord index step ∷ items) now
        leave_start is starts =
            let may_leave = subst (may_start p s name) starts may in
            let node = may_leave.acts.state in
            let are : items ≡ acted_records p (sent_count log) name (act node (Starts StartLeave)) =
            starting.are ∙ ap (λ l. l ++ done) (ap (announced log) is ∙ nothing_first log name)
            ∙ ap (λ w. records_of_act p log name (starter p s name w) (Starts w)) starts
            ∙ ap (λ n. records_of_act p log name n (Starts StartLeave)) may_leave.acts.is in
            let accepted : is_accepted items ≡ true =
            ap is_accepted are ∙ leave_accepted p (sent_count log) name node may_leave.acts.core in
            let left_is : filter_map depart_name (accepted_in false (StepRecord index step ∷ items)) ≡ name ∷ [] =
            named_in_group depart_name index step items (no_steps items within)
            ∙ ap (λ b. if b then cons_option (depart_name step) [] else []) accepted
            ∙ ap (λ one. cons_option one []) (ap depart_name is ∙ leaver_named name) in
            let none : All IsUnpaired items =
            subst (All IsUnpaired) (sym starting.are)
            (subst (λ l. All IsUnpaired (l ++ done)) (sym (ap (announced log) is ∙ nothing_first log name)) done_none) in
            let says = others_say index step items none in
            record {
              stand = stands_now;
              ever = ever_now (λ other publishes. let wrong : StartLeave ≡ StartPublish other = sym starts ∙ publishes in absurd (cc));
              agree = λ pair.
                  let q = pair_line pair in
                  let d = has_name (departures_of log) pair.server in
                  published_after log (StepRecord index step) items step_group uncarried (name ∷ []) left_is [] [] says.0 says.1 q
                  ∙ left_test d (has_pair (published_of log) q) (pointwise nat_eq name pair.server)
                  ∙ ap (λ b. not b && has_pair (published_of log) q) (names_sym name pair.server)
                  ∙ ap (λ b. not (pointwise nat_eq pair.server name) && b) (grown.agree pair)
                  ∙ sym (serves_now pair ∙ ap (λ w. served_after name w pair (is_served s pair)) starts);
              departed = λ x left. leaves_either starts x left_is left;
            }
          where
            leaves_either : starting.start ≡ StartLeave → (x : List ℕ) → filter_map depart_name (accepted_in false (StepRecord index step ∷ items)) ≡ name ∷ []
                → has_name (departures_of (log ++ StepRecord index step ∷ items)) x ≡ true → IsLeaver now x
            leaves_either starts x left_is left =
                elim (cases_Bool (has_name (departures_of log) x)) [
                  | inl before ↦ leaves_now x (grown.departed x before)
                  | inr new ↦
                      let all : (has_name (departures_of log) x || (pointwise nat_eq name x || false)) ≡ true =
                      sym (list_any-append (λ other. bytes_eq other x) (departures_of log) (name ∷ []))
                      ∙ sym (ap (λ l. has_name l x)
                      (departures_after log (StepRecord index step) items step_group uncarried (name ∷ []) left_is)) ∙ left in
                      let one : pointwise nat_eq name x ≡ true =
                      sym (or_false (pointwise nat_eq name x)) ∙ sym (ap (λ b. b || (pointwise nat_eq name x || false)) new) ∙ all in
                      let same : name ≡ x = (bytes_eq-Decides name x).0 one in
                      subst (IsLeaver now) same (subst (λ w. IsLeaver (moved p s (Begins name w)) name) (sym starts)
                      (leaves_once p s name (subst (may_start p s name) starts may) sound grown.stand))
                ]

        pub starting_grown : Grown (log ++ StepRecord index step ∷ items) now
        starting_grown =
            elim (kind_of log name starting.start step starting.at) [
              | inl publishes ↦ publish_start publishes.0 publishes.1 publishes.2
              | inr rest ↦ elim rest [
                | inl withdraws ↦ withdraw_start withdraws.0 withdraws.1 withdraws.2
                | inr others ↦ elim others [
                  | inl leaves ↦ leave_start leaves.0 leaves.1
                  | inr aside ↦ aside_start aside
                ]
              ]
            ]
