-- What a group says of casts: what the news of its move say.
use Rattle.std.proofs.Common.{◌≡◌, ◌⊎◌, inl, inr, ◌==◌, ℕ, nat_eq, ◌+◌, Bool, true, false, if◌then◌else◌, List, [], ◌∷◌, ◌++◌, All, Option, None, Some, arith, refl, ap, sym, subst, ◌∙◌}
use Rattle.std.specs.Prelude.{map, option_and_then, ◌&&◌}
use Rattle.std.specs.Cmp.Lexicographic.{pointwise}
use Rattle.std.specs.Option.{option_map}
use Rattle.std.proofs.lemmas.List.Elements.{All-cons, All-head, All-nil, All-tail}
use Rattle.std.proofs.lemmas.List.Sums.{sum_by-append, sum_by-cons}
use Rattle.tap_name.specs.Root.{root}
use Rattle.tap_name.specs.Settings.{SettingsValue}
use Rattle.tap_scenario.specs.declared.step.Step.{Step}
use Rattle.tap_scenario.specs.declared.step.Step.TheVariants.{Publish, Withdraw, Find, Abandon, Cast, Walk, Root, Table, Pointers, Garble, Cut}
use Rattle.tap_table.specs.Table.{rows}
use Rattle.tap_wire.specs.declared.fault.WireFault.{WireFault}
use Rattle.tap_wire.specs.declared.frame.Frame.{Frame}
use Rattle.tap_log.specs.declared.record.LinkLine.{LinkLine}
use Rattle.tap_log.specs.declared.record.NodeWord.{NodeWord}
use Rattle.tap_log.specs.declared.record.Record.{Record}
use Rattle.tap_log.specs.declared.record.Record.TheVariants.{Step as StepRecord, Taken, Refused, Walked, RootOf, TableOf, Reached, Closed}
use Rattle.tap_log.specs.declared.record.Refusal.{Refusal}
use Rattle.tap_log.specs.Counts.{sent_count}
use Rattle.tap_log.specs.MoreRecords.{at_most_one}
use Rattle.tap_history.specs.Core.{core_of}
use Rattle.tap_history.specs.Refusals.{first_refusal}
use Rattle.tap_rule.specs.Act.{act}
use Rattle.tap_rule.specs.Event.{Acted, News, Start}
use Rattle.tap_rule.specs.Event.Event.{Starts, Takes}
use Rattle.tap_rule.specs.Event.News.{Nothing, Core as CoreNews, Gone as GoneNews, Answered as AnsweredNews, Cast as CastNews}
use Rattle.tap_rule.specs.Node.{NodeState}
use Rattle.tap_safety.specs.Move.{Move}
use Rattle.tap_safety.specs.Move.Move.{Begins, Delivers}
use Rattle.tap_safety.specs.Moved.{numbered_frame, starter}
use Rattle.tap_safety.specs.System.{System}
use Rattle.tap_surrogate.specs.Nodes.{core_links}
use Rattle.tap_surrogate.specs.Walk.{walk}
use Rattle.tap_runs.specs.Acts.{acted_records, news_after, news_before, sent_records}
use Rattle.tap_runs.specs.Course.{FollowStep, MayFollow, is_choice, move_of_group, move_of_start}
use Rattle.tap_runs.specs.Damage.{copied_number, fault_of_copy, garbled}
use Rattle.tap_runs.specs.Group.{accepted_records, received_records, records_of_act, records_unless, start_at, started_records}
use Rattle.tap_runs.specs.Observed.{link_line, nodes_of, observed, pointers_record, table_record, word_of_status}
use Rattle.tap_runs.specs.Starts.{announced}
use Rattle.tap_runs.proofs.Frames.{starting_moves, step_moves, taken_moves}
use Rattle.tap_runs.proofs.Within.{step_kind}
use Rattle.tap_cast_moves.specs.News.{named_news_of, named_news_of_frame}
use Rattle.tap_cast_runs.specs.ReachedOnce.{closed_count, reached_count, says_closed, says_reached}

-- ---- records that say nothing of casts

pub record IsPlain (item : Record) : Type 0 where
  pub reached : (c : ℕ) (x : List ℕ) → says_reached c x item ≡ false
  pub closed : (c : ℕ) → says_closed c item ≡ false

none_plain : All IsPlain []
none_plain = All-nil IsPlain

one_plain : (item : Record) → IsPlain item → All IsPlain (item ∷ [])
one_plain item plain = All-cons IsPlain item [] plain none_plain

root_plain : (object : List ℕ) (name : Option (List ℕ)) → All IsPlain (at_most_one (option_map (RootOf object) name))
unfolding says_reached says_closed
root_plain object None = none_plain
root_plain object (Some name) = one_plain _ (record { reached = λ c x. refl; closed = λ c. refl })

pointers_plain : (name : List ℕ) (node : Option NodeState) → All IsPlain (at_most_one (option_map (pointers_record name) node))
unfolding says_reached says_closed
pointers_plain name None = none_plain
pointers_plain name (Some node) = one_plain _ (record { reached = λ c x. refl; closed = λ c. refl })

worded_plain : (name : List ℕ) (links : List LinkLine) (word : Option NodeWord)
    → All IsPlain (at_most_one (option_map (λ w. TableOf name w links) word))
unfolding says_reached says_closed
worded_plain name links None = none_plain
worded_plain name links (Some word) = one_plain _ (record { reached = λ c x. refl; closed = λ c. refl })

table_plain : (name : List ℕ) (node : Option NodeState) → All IsPlain (at_most_one (option_and_then (table_record name) node))
table_plain name None = none_plain
table_plain name (Some node) = worded_plain name (map link_line (rows node.ties.table)) (word_of_status node.status)

damage_plain : (number : Option ℕ) (fault : Option WireFault) → All IsPlain (at_most_one (garbled number fault))
unfolding says_reached says_closed
damage_plain None fault = none_plain
damage_plain (Some number) None = none_plain
damage_plain (Some number) (Some fault) = one_plain _ (record { reached = λ c x. refl; closed = λ c. refl })

walk_plain : (object : List ℕ) (path : List (List ℕ)) → IsPlain (Walked object path)
unfolding says_reached says_closed
walk_plain object path = record { reached = λ c x. refl; closed = λ c. refl }

refused_plain : (index : ℕ) (refusal : Refusal) → IsPlain (Refused index refusal)
unfolding says_reached says_closed
refused_plain index refusal = record { reached = λ c x. refl; closed = λ c. refl }

step_plain : (index : ℕ) (step : Step) → IsPlain (StepRecord index step)
unfolding says_reached says_closed
step_plain index step = record { reached = λ c x. refl; closed = λ c. refl }

taken_plain : (number : ℕ) → IsPlain (Taken number)
unfolding says_reached says_closed
taken_plain number = record { reached = λ c x. refl; closed = λ c. refl }

announced_plain : (before : List Record) (step : Step) → All IsPlain (announced before step)
unfolding says_reached says_closed announced
announced_plain before (Publish object server) = one_plain _ (record { reached = λ c x. refl; closed = λ c. refl })
announced_plain before (Withdraw object server) = one_plain _ (record { reached = λ c x. refl; closed = λ c. refl })
announced_plain before (Find object asker) = one_plain _ (record { reached = λ c x. refl; closed = λ c. refl })
announced_plain before (Abandon name) = one_plain _ (record { reached = λ c x. refl; closed = λ c. refl })
announced_plain before (Cast word prefix asker) = one_plain _ (record { reached = λ c x. refl; closed = λ c. refl })
announced_plain before step = none_plain

sent_plain : (p : SettingsValue) (number : ℕ) (frames : List Frame) → All IsPlain (sent_records p number frames)
unfolding says_reached says_closed
sent_plain p number [] = none_plain
sent_plain p number (frame ∷ frames) =
    All-cons IsPlain _ (sent_records p (number + 1) frames) (record { reached = λ c x. refl; closed = λ c. refl })
    (sent_plain p (number + 1) frames)

accepted_plain : (p : SettingsValue) (log : List Record) (s : System) (step : Step)
    → All IsPlain (accepted_records p log s step) ⊎ (accepted_records p log s step ≡ started_records p log s step (start_at log step))
unfolding accepted_records observed
accepted_plain p log s (Walk object asker) =
    inl (one_plain _ (walk_plain object (walk p.base (core_links (nodes_of s)) asker object)))
accepted_plain p log s (Root object) = inl (root_plain object (root p.base (core_of log) object))
accepted_plain p log s (Table name) = inl (table_plain name (s.node name))
accepted_plain p log s (Pointers name) = inl (pointers_plain name (s.node name))
accepted_plain p log s (Garble place at byte) =
    inl (damage_plain (copied_number log (Garble place at byte)) (fault_of_copy p log (Garble place at byte)))
accepted_plain p log s (Cut place bytes) =
    inl (damage_plain (copied_number log (Cut place bytes)) (fault_of_copy p log (Cut place bytes)))
accepted_plain p log s step = inr refl

-- ---- how often they do

plain_reached : (c : ℕ) (x : List ℕ) (items : List Record) → All IsPlain items → reached_count c x items ≡ 0
plain_reached c x [] plain = refl
plain_reached c x (item ∷ items) plain =
    let first = (All-head IsPlain item items plain).reached c x in
    let here : ◌≡◌ {A = ℕ} (if says_reached c x item then 1 else 0) 0 = rw first refl in
    let rest = plain_reached c x items (All-tail IsPlain item items plain) in
    let all = sum_by-cons (λ r. if says_reached c x r then 1 else 0) item items in
    omega (arith, here, rest, all)

plain_closed : (c : ℕ) (items : List Record) → All IsPlain items → closed_count c items ≡ 0
plain_closed c [] plain = refl
plain_closed c (item ∷ items) plain =
    let first = (All-head IsPlain item items plain).closed c in
    let here : ◌≡◌ {A = ℕ} (if says_closed c item then 1 else 0) 0 = rw first refl in
    let rest = plain_closed c items (All-tail IsPlain item items plain) in
    let all = sum_by-cons (λ r. if says_closed c r then 1 else 0) item items in
    omega (arith, here, rest, all)

pub reached_on : (c : ℕ) (x : List ℕ) (log more : List Record) → reached_count c x (log ++ more) ≡ reached_count c x log + reached_count c x more
reached_on c x log more = sum_by-append (λ r. if says_reached c x r then 1 else 0) log more

pub closed_on : (c : ℕ) (log more : List Record) → closed_count c (log ++ more) ≡ closed_count c log + closed_count c more
closed_on c log more = sum_by-append (λ r. if says_closed c r then 1 else 0) log more

-- ---- what a node did

-- the news say that the cast c has reached x, or is closed
abbrev pub reaches : ℕ → List ℕ → List ℕ → News → Bool
reaches c x y (CastNews cast reached closed) = reached && ((c == cast) && pointwise nat_eq x y)
reaches c x y other = false

abbrev pub closes : ℕ → News → Bool
closes c (CastNews cast reached closed) = closed && (c == cast)
closes c other = false

before_reached : (c : ℕ) (x y : List ℕ) (news : News) → reached_count c x (news_before y news) ≡ (if reaches c x y news then 1 else 0)
unfolding says_reached news_before
before_reached c x y Nothing = refl
before_reached c x y CoreNews = refl
before_reached c x y GoneNews = refl
before_reached c x y (AnsweredNews ticket server) = refl
before_reached c x y (CastNews cast true closed) =
    let all = sum_by-cons (λ r. if says_reached c x r then 1 else 0) (Reached cast y) [] in omega (arith, all)
before_reached c x y (CastNews cast false closed) = refl

after_reached : (c : ℕ) (x : List ℕ) (news : News) → reached_count c x (news_after news) ≡ 0
unfolding says_reached news_after
after_reached c x Nothing = refl
after_reached c x CoreNews = refl
after_reached c x GoneNews = refl
after_reached c x (AnsweredNews ticket server) = refl
after_reached c x (CastNews cast reached true) = refl
after_reached c x (CastNews cast reached false) = refl

before_closed : (c : ℕ) (y : List ℕ) (news : News) → closed_count c (news_before y news) ≡ 0
unfolding says_closed news_before
before_closed c y Nothing = refl
before_closed c y CoreNews = refl
before_closed c y GoneNews = refl
before_closed c y (AnsweredNews ticket server) = refl
before_closed c y (CastNews cast true closed) = refl
before_closed c y (CastNews cast false closed) = refl

after_closed : (c : ℕ) (news : News) → closed_count c (news_after news) ≡ (if closes c news then 1 else 0)
unfolding says_closed news_after
after_closed c Nothing = refl
after_closed c CoreNews = refl
after_closed c GoneNews = refl
after_closed c (AnsweredNews ticket server) = refl
after_closed c (CastNews cast reached true) =
    let all = sum_by-cons (λ r. if says_closed c r then 1 else 0) (Closed cast) [] in omega (arith, all)
after_closed c (CastNews cast reached false) = refl

module _ (p : SettingsValue) (number : ℕ) (y : List ℕ) (acted : Acted) where
  acted_reached : (c : ℕ) (x : List ℕ) → reached_count c x (acted_records p number y acted) ≡ (if reaches c x y acted.news then 1 else 0)
  acted_reached c x =
      let one = reached_on c x (news_before y acted.news) (sent_records p number acted.sent ++ news_after acted.news) in
      let two = reached_on c x (sent_records p number acted.sent) (news_after acted.news) in
      let first = before_reached c x y acted.news in
      let middle = plain_reached c x (sent_records p number acted.sent) (sent_plain p number acted.sent) in
      let last = after_reached c x acted.news in
      omega (arith, one, two, first, middle, last)

  acted_closed : (c : ℕ) → closed_count c (acted_records p number y acted) ≡ (if closes c acted.news then 1 else 0)
  acted_closed c =
      let one = closed_on c (news_before y acted.news) (sent_records p number acted.sent ++ news_after acted.news) in
      let two = closed_on c (sent_records p number acted.sent) (news_after acted.news) in
      let first = before_closed c y acted.news in
      let middle = plain_closed c (sent_records p number acted.sent) (sent_plain p number acted.sent) in
      let last = after_closed c acted.news in
      omega (arith, one, two, first, middle, last)

-- ---- a group

-- what the news of a move say, if there are any
abbrev pub reaches_by : ℕ → List ℕ → Option (List ℕ × News) → Bool
reaches_by c x None = false
reaches_by c x (Some told) = reaches c x told.0 told.1

abbrev pub closes_by : ℕ → Option (List ℕ × News) → Bool
closes_by c None = false
closes_by c (Some told) = closes c told.1

abbrev pub news_by : SettingsValue → System → Option Move → Option (List ℕ × News)
news_by p s None = None
news_by p s (Some move) = named_news_of p s move

-- these records say of casts what the news say
pub record Tells (items : List Record) (told : Option (List ℕ × News)) : Type 0 where
  pub reached : (c : ℕ) (x : List ℕ) → reached_count c x items ≡ (if reaches_by c x told then 1 else 0)
  pub closed : (c : ℕ) → closed_count c items ≡ (if closes_by c told then 1 else 0)

plain_tells : (items : List Record) → All IsPlain items → Tells items None
plain_tells items plain = record { reached = λ c x. plain_reached c x items plain; closed = λ c. plain_closed c items plain }

-- after plain records
plain_then : (items more : List Record) (told : Option (List ℕ × News)) → All IsPlain items → Tells more told → Tells (items ++ more) told
plain_then items more told plain tells = record {
  reached = λ c x.
      let all = reached_on c x items more in
      let none = plain_reached c x items plain in
      let then_so = tells.reached c x in
      omega (arith, all, none, then_so);
  closed = λ c.
      let all = closed_on c items more in
      let none = plain_closed c items plain in
      let then_so = tells.closed c in
      omega (arith, all, none, then_so);
}

module _ (p : SettingsValue) (log : List Record) (s : System) where
  started_tells : (x : List ℕ) (start : Start) (node : Option NodeState)
      → Tells (records_of_act p log x node (Starts start)) (option_map {U = List ℕ × News} (λ n. (x, (act n (Starts start)).news)) node)
  started_tells x start None = plain_tells [] none_plain
  started_tells x start (Some node) = record {
    reached = λ c z. acted_reached p (sent_count log) x (act node (Starts start)) c z;
    closed = λ c. acted_closed p (sent_count log) x (act node (Starts start)) c;
  }

  receiver_tells : (frame : Frame) (node : Option NodeState)
      → Tells (records_of_act p log frame.to node (Takes frame))
      (option_map {U = List ℕ × News} (λ n. (frame.to, (act n (Takes frame)).news)) node)
  receiver_tells frame None = plain_tells [] none_plain
  receiver_tells frame (Some node) = record {
    reached = λ c z. acted_reached p (sent_count log) frame.to (act node (Takes frame)) c z;
    closed = λ c. acted_closed p (sent_count log) frame.to (act node (Takes frame)) c;
  }

  received_tells : (frame : Option Frame) → Tells (received_records p log s frame) (named_news_of_frame s frame)
  received_tells None = plain_tells [] none_plain
  received_tells (Some frame) = receiver_tells frame (s.node frame.to)

  module _ (index : ℕ) (step : Step) (items : List Record) where
    -- what follows a step is plain, or what its start comes to
    unless_plain : (refusal : Option Refusal) → first_refusal log step ≡ refusal → items ≡ records_unless p log s index step refusal
        → All IsPlain items ⊎ ((first_refusal log step ≡ None) × (items ≡ started_records p log s step (start_at log step)))
    unless_plain (Some refusal) is are = inl (subst (All IsPlain) (sym are) (one_plain _ (refused_plain index refusal)))
    unless_plain None is are = elim (accepted_plain p log s step) [
      | inl plain ↦ inl (subst (All IsPlain) (sym are) plain)
      | inr started ↦ inr (is, are ∙ started)
    ]

    follow_plain : (choice : Bool) → FollowStep choice p log s index step items
        → All IsPlain items ⊎ ((first_refusal log step ≡ None) × (items ≡ started_records p log s step (start_at log step)))
    follow_plain true (inl none) = inl (subst (All IsPlain) (sym none) none_plain)
    follow_plain true (inr refused) = inl (subst (All IsPlain) (sym refused.is) (one_plain _ (refused_plain index refused.refusal)))
    follow_plain false follow = unless_plain (first_refusal log step) refl follow

    -- a step that moves nothing is followed by plain records
    idle_plain : FollowStep (is_choice step) p log s index step items → move_of_start (first_refusal log step) (start_at log step) ≡ None
        → All IsPlain items
    idle_plain follow still =
        elim (follow_plain (is_choice step) follow) [
          | inl plain ↦ plain
          | inr started ↦ by (start_at log step) refl started.1 (ap (λ r. move_of_start r (start_at log step)) (sym started.0) ∙ still)
        ]
      where
        by : (start : Option (List ℕ × Start)) → start_at log step ≡ start → items ≡ started_records p log s step (start_at log step)
            → move_of_start None (start_at log step) ≡ None → All IsPlain items
        by None none are still =
            subst (All IsPlain) (sym (are ∙ ap (started_records p log s step) none)) none_plain
        by (Some (name, start)) at are still =
            let wrong : ◌≡◌ {A = Option Move} (Some (Begins name start)) None = ap (move_of_start None) (sym at) ∙ still in
            absurd (cc)

  pub group_tells : (group : List Record) → MayFollow p log s group → Tells group (news_by p s (move_of_group log group))
  unfolding MayFollow
  group_tells (StepRecord index step ∷ items) may =
      elim (step_kind p log s index step items may) [
        | inl idle ↦
            subst (λ m. Tells (StepRecord index step ∷ items) (news_by p s m)) (sym (step_moves log index step items ∙ idle.still))
            (plain_tells (StepRecord index step ∷ items)
            (All-cons IsPlain (StepRecord index step) items (step_plain index step) (idle_plain index step items may idle.still)))
        | inr starting ↦
            subst (λ m. Tells (StepRecord index step ∷ items) (news_by p s m)) (sym (starting_moves p log s index step items starting))
            (plain_then (StepRecord index step ∷ []) items (named_news_of p s (Begins starting.name starting.start))
            (one_plain _ (step_plain index step))
            (subst (λ l. Tells l (named_news_of p s (Begins starting.name starting.start))) (sym starting.are)
            (plain_then (announced log step) _ (named_news_of p s (Begins starting.name starting.start)) (announced_plain log step)
            (started_tells starting.name starting.start (starter p s starting.name starting.start)))))
      ]
  group_tells (Taken number ∷ items) may =
      subst (λ m. Tells (Taken number ∷ items) (news_by p s m)) (sym (taken_moves log number items))
      (plain_then (Taken number ∷ []) items (named_news_of p s (Delivers number)) (one_plain _ (taken_plain number))
      (subst (λ l. Tells l (named_news_of p s (Delivers number))) (sym may.are) (received_tells (numbered_frame number s.frames))))
  group_tells group may = absurd may
