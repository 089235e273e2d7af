-- A lookup that is made alone from a rest of a run is answered exactly.
-- Cited above: alone_at
use Rattle.std.proofs.Common.{◌≡◌, inl, inr, ℕ, true, false, List, [], ◌∷◌, ◌++◌, All, Option, None, Some, append-nil, refl, ap, sym, subst, ◌∙◌}
use Rattle.std.proofs.lemmas.List.Elements.{All-cons, All-head, All-weaker}
use Rattle.tap_name.specs.Settings.{SettingsValue}
use Rattle.tap_pointer.specs.declared.pair.Pair.{Pair}
use Rattle.tap_pointer.specs.Pointers.{pair_of}
use Rattle.tap_scenario.specs.declared.step.Step.{Step}
use Rattle.tap_scenario.specs.declared.step.Step.TheVariants.{Find}
use Rattle.tap_log.specs.Kinds.{asked_ticket}
use Rattle.tap_log.specs.declared.record.Record.{Record}
use Rattle.tap_log.specs.declared.record.Record.TheVariants.{Answered, Asked, Step as StepRecord, Taken}
use Rattle.tap_history.specs.Groups.{is_ended}
use Rattle.tap_history.specs.Moments.{is_rest}
use Rattle.tap_history.specs.Published.{has_pair, published_of}
use Rattle.tap_history.specs.StepAsks.{actor_of}
use Rattle.tap_rule.specs.Event.{Start}
use Rattle.tap_rule.specs.Event.Event.{Starts}
use Rattle.tap_rule.specs.Event.Start.{Find as StartFind}
use Rattle.tap_safety.specs.Move.{Move, may_start}
use Rattle.tap_safety.specs.Move.Move.{Begins, Delivers}
use Rattle.tap_safety.specs.Moved.{numbered_frame, starter}
use Rattle.tap_safety.specs.System.{System}
use Rattle.tap_runs.specs.Beginning.{Beginning, begin_record}
use Rattle.tap_runs.specs.Course.{Follows, IsCourse, move_of_group, moved_by, system_of}
use Rattle.tap_runs.specs.Group.{records_of_act, start_at}
use Rattle.tap_runs.specs.Named.{HaveNames}
use Rattle.tap_runs.specs.Observed.{pair_line}
use Rattle.tap_runs.specs.Starts.{announced, next_ticket, start_of_step}
use Rattle.tap_runs.proofs.CourseGrows.{by_groups}
use Rattle.tap_runs.proofs.Nodes.{name_at, start_in}
use Rattle.tap_runs.proofs.Within.{is_accepted}
use Rattle.tap_safety_moves.specs.Sound.{Sound}
use Rattle.tap_safe_runs.specs.Lawful.{beginning_in}
use Rattle.tap_safe_runs.specs.SafeLogs.{OfLawfulLogs}
use Rattle.tap_safe_runs.specs.Moments.{AtEachMoment}
use Rattle.tap_safe_runs.specs.Safe.{IsRun}
use Rattle.tap_safe_runs.specs.Accepting.{AcceptNoStart, IsAskedAtRest}
use Rattle.tap_safe_runs.proofs.GroupKinds.{IsIdleGroup, IsKnownGroup, IsStartGroup, IsTakenGroup, run_kind, run_moves}
use Rattle.tap_safe_runs.proofs.Lawful.{lawful_logs_are_safe}
use Rattle.tap_safe_runs.proofs.Safe.{run_at_moment, runs_are_sound, steps_after, steps_before}
use Rattle.tap_safe_runs.proofs.Splits.{all_at, no_step_among, none_in_first, none_in_second, parted_where, start_accepted}
use Rattle.tap_safe_runs.proofs.Starting.{start_group_accepts, starting_accepted, starts_is_start}
use Rattle.tap_pointer_moves.specs.Publications.{is_served, publishes_in}
use Rattle.tap_pointer_moves.specs.LaysTold.{PointersStand}
use Rattle.tap_pointer_runs.proofs.Runs.{run_grown, run_rests, served_is}
use Rattle.tap_pointer_moves.specs.Alone.{GoesAlone, IsExact}
use Rattle.tap_pointer_moves.proofs.Alone.{lookup_begins_alone, lookup_goes_on_alone}
use Rattle.tap_pointer_runs.specs.Alone.{IsExactIn, LookupsAloneAreExact}
use Rattle.tap_pointer_runs.proofs.LookupsGrow.{act_all, receive_all}
use Rattle.tap_pointer_runs.proofs.RunAnswers.{run_looked}
use Rattle.tap_pointer_runs.proofs.Starting.{starting_unanswered}
use Rattle.tap_pointer_runs.proofs.Unanswered.{IsUnanswered, idle_unanswered}

-- ---- what is so since a lookup was asked for at rest

-- the system was at rest, pointers stood, the lookup could be started, and the log had as published what was served
record WasAtRest (p : SettingsValue) (before : List Record) (ticket : ℕ) (object asker : List ℕ) : Type 0 where
  sound : Sound p (system_of before)
  stand : PointersStand (system_of before)
  quiet : (system_of before).frames ≡ []
  asks : may_start p (system_of before) asker (StartFind ticket object)
  agree : (pair : Pair) → has_pair (published_of before) (pair_line pair) ≡ is_served (system_of before) pair

-- if no start is accepted in what follows, it goes alone; and each answer is exact before which none is
record Lone (p : SettingsValue) (s : System) (before : List Record) (ticket : ℕ) (object asker : List ℕ) (after : List Record) : Type 0 where
  was : WasAtRest p before ticket object asker
  alone : AcceptNoStart after → GoesAlone p (system_of before) ticket object asker s
  exact : (between later : List Record) (answered : ℕ) (server : Option (List ℕ)) → after ≡ between ++ Answered answered server ∷ later
      → AcceptNoStart between → (answered ≡ ticket) × IsExact (system_of before) object server

abbrev AreLone : SettingsValue → List Record → System → Type 0
AreLone p log s = (before : List Record) (ticket : ℕ) (object asker : List ℕ) (after : List Record)
    → IsAskedAtRest log before ticket object asker after → Lone p s before ticket object asker after

-- the record, if it is an answer, is exact
abbrev AnswerExact : System → ℕ → List ℕ → Record → Type 0
AnswerExact rest ticket object (Answered answered server) = (answered ≡ ticket) × IsExact rest object server
AnswerExact rest ticket object other = Unit {0}

free_exact : (rest : System) (ticket : ℕ) (object : List ℕ) (item : Record) → IsUnanswered item → AnswerExact rest ticket object item
free_exact rest ticket object (Answered answered server) none = absurd none
free_exact rest ticket object _ none = tt

-- ---- one more group

module _ (b : Beginning) (log group : List Record) (run : IsRun b log) (follows : Follows b log group)
    (names : HaveNames b.settings group) (lone : AreLone b.settings log (system_of log)) where
  abbrev p : SettingsValue
  p = b.settings

  abbrev s : System
  s = system_of log

  abbrev s' : System
  s' = system_of (log ++ group)

  sound : Sound b.settings (system_of log)
  sound = runs_are_sound b log run

  kind : IsKnownGroup b.settings log (system_of log) group
  kind = run_kind b log group run follows names

  moves_to : (move : Option Move) → move_of_group log group ≡ move
      → system_of (log ++ group) ≡ moved_by b.settings (system_of log) move
  moves_to = run_moves b log group run follows

  -- ---- a lookup that was asked for before

  module _ (before : List Record) (ticket : ℕ) (object asker : List ℕ) (after : List Record)
      (was : Lone b.settings (system_of log) before ticket object asker after) where
    abbrev rest : System
    rest = system_of before

    abbrev Goes : System → Type 0
    Goes t = GoesAlone b.settings (system_of before) ticket object asker t

    -- a start that is accepted is among what follows
    not_started : (start : IsStartGroup b.settings log (system_of log) group) → (first : List Record) → AcceptNoStart (first ++ group) → ⊥
    not_started start first none =
        start_group_accepts b.settings log (system_of log) group start (none_in_second first group none)

    goes_by : AcceptNoStart (after ++ group) → Goes (system_of (log ++ group))
    goes_by none =
        let goes = was.alone (none_in_first after group none) in
        elim kind [
          | inl idle ↦ subst Goes (sym (moves_to None idle.still)) goes
          | inr (inl start) ↦ absurd (not_started start after none)
          | inr (inr taken) ↦
              subst Goes (sym (moves_to (Some (Delivers taken.number)) taken.moves))
              (lookup_goes_on_alone b.settings rest (system_of log) asker ticket object taken.number was.was.sound was.was.stand was.was.quiet
              was.was.asks sound (run_looked b log run).core goes taken.may).0
        ]

    -- each record of the group is exact
    taken_exact : (taken : IsTakenGroup b.settings log (system_of log) group) → Goes (system_of log)
        → All (AnswerExact (system_of before) ticket object) group
    taken_exact taken goes =
        let Holds = AnswerExact (system_of before) ticket object in
        let step = lookup_goes_on_alone b.settings rest (system_of log) asker ticket object taken.number was.was.sound was.was.stand
        was.was.quiet was.was.asks sound (run_looked b log run).core goes taken.may in
        let items : All Holds taken.items =
        subst (All Holds) (sym taken.are)
        (receive_all Holds (free_exact (system_of before) ticket object) b.settings log (system_of log)
        (numbered_frame taken.number (system_of log).frames) step.1) in
        subst (All Holds) (sym taken.is) (All-cons Holds (Taken taken.number) taken.items tt items)

    idle_exact : (idle : IsIdleGroup b.settings log (system_of log) group) → All (AnswerExact (system_of before) ticket object) group
    idle_exact idle =
        let Holds = AnswerExact (system_of before) ticket object in
        let items : All Holds idle.items =
        All-weaker IsUnanswered Holds (λ item none. free_exact (system_of before) ticket object item none) idle.items
        (idle_unanswered b.settings log (system_of log) group idle follows.may) in
        subst (All Holds) (sym idle.is) (All-cons Holds (StepRecord idle.index idle.step) idle.items tt items)

    -- in the group of a start no answer comes before the start is accepted
    start_first : (start : IsStartGroup b.settings log (system_of log) group) → (middle : List Record) (answered : ℕ)
        (server : Option (List ℕ)) (later : List Record) → group ≡ middle ++ Answered answered server ∷ later → AcceptNoStart middle → ⊥
    start_first start middle answered server later is none = by_middle middle (sym start.is ∙ is) none
      where
        by_middle : (middle : List Record)
            → StepRecord start.index start.step ∷ start.items ≡ middle ++ Answered answered server ∷ later → AcceptNoStart middle → ⊥
        by_middle [] is none =
            let wrong : StepRecord start.index start.step ≡ Answered answered server = cc in cc
        by_middle (m ∷ []) is none =
            let items : start.items ≡ Answered answered server ∷ later = cc in
            starting_unanswered b.settings log (system_of log) start.step start.items start.starting answered server later items
        by_middle (m ∷ next ∷ middle) is none =
            let first : m ≡ StepRecord start.index start.step = cc in
            let items : start.items ≡ next ∷ (middle ++ Answered answered server ∷ later) = cc in
            let accepted : is_accepted (next ∷ middle) ≡ true = sym (ap is_accepted items)
            ∙ starting_accepted b.settings log (system_of log) start.step start.items start.starting start.may in
            let starts = starts_is_start log start.step (start.starting.name, start.starting.start) start.starting.at in
            start_accepted start.index start.step next middle starts accepted
            (subst (λ r. AcceptNoStart (r ∷ next ∷ middle)) first none)

    exact_by : (between later : List Record) (answered : ℕ) (server : Option (List ℕ))
        → after ++ group ≡ between ++ Answered answered server ∷ later → AcceptNoStart between
        → (answered ≡ ticket) × IsExact (system_of before) object server
    exact_by between later answered server is none =
        let Holds = AnswerExact (system_of before) ticket object in
        elim (parted_where after group between (Answered answered server ∷ later) is) [
          | inr within ↦
              let back = within.back in
              let same : within.first ≡ Answered answered server = cc in
              was.exact between within.middle answered server
              (within.front ∙ ap (λ r. between ++ r ∷ within.middle) same) none
          | inl later_part ↦
              let both : AcceptNoStart (after ++ later_part.middle) = subst AcceptNoStart later_part.front none in
              let goes = was.alone (none_in_first after later_part.middle both) in
              elim kind [
                | inl idle ↦ all_at Holds group later_part.middle (Answered answered server) later (idle_exact idle) later_part.back
                | inr (inl start) ↦
                    absurd (start_first start later_part.middle answered server later later_part.back
                    (none_in_second after later_part.middle both))
                | inr (inr taken) ↦
                    all_at Holds group later_part.middle (Answered answered server) later (taken_exact taken goes) later_part.back
              ]
        ]

    still_lone : Lone b.settings (system_of (log ++ group)) before ticket object asker (after ++ group)
    still_lone = record { was = was.was; alone = goes_by; exact = exact_by }

  -- ---- a lookup that the group asks for

  module _ (index ticket : ℕ) (object asker : List ℕ) (after : List Record)
      (is : group ≡ StepRecord index (Find object asker) ∷ Asked ticket object asker ∷ after) (resting : is_rest log ≡ true) where
    -- the group is that of the start, which is of this lookup
    record IsItsStart : Type 0 where
      may : may_start b.settings (system_of log) asker (StartFind ticket object)
      moves : move_of_group log group ≡ Some (Begins asker (StartFind ticket object))
      are : after ≡ records_of_act b.settings log asker ((system_of log).node asker) (Starts (StartFind ticket object))

    its_start : (start : IsStartGroup b.settings log (system_of log) group) → IsItsStart
    unfolding actor_of start_of_step announced
    its_start start =
        let both : StepRecord start.index start.step ∷ start.items ≡ StepRecord index (Find object asker) ∷ Asked ticket object asker ∷ after =
        sym start.is ∙ is in
        let step_is : start.step ≡ Find object asker = cc in
        let items_are : start.items ≡ Asked ticket object asker ∷ after = cc in
        let starting = start.starting in
        let at : ◌≡◌ {A = Option (List ℕ × Start)} (Some (asker, StartFind (next_ticket log) object)) (Some (starting.name, starting.start)) =
        ap (start_at log) (sym step_is) ∙ starting.at in
        let name_is : asker ≡ starting.name = ap name_at at in
        let start_is : StartFind (next_ticket log) object ≡ starting.start = ap (start_in (StartFind (next_ticket log) object)) at in
        let done = records_of_act b.settings log starting.name (starter b.settings (system_of log) starting.name starting.start)
        (Starts starting.start) in
        let told : Asked ticket object asker ∷ after ≡ Asked (next_ticket log) object asker ∷ done =
        sym items_are ∙ starting.are ∙ ap (λ st. announced log st ++ done) step_is in
        let tickets : next_ticket log ≡ ticket = cc in
        let rest_is : after ≡ done = cc in
        let finds : starting.start ≡ StartFind ticket object = sym start_is ∙ ap (λ n. StartFind n object) tickets in
        record {
          may =
              subst (λ x. may_start b.settings (system_of log) x (StartFind ticket object)) (sym name_is)
              (subst (may_start b.settings (system_of log) starting.name) finds start.may);
          moves = start.moves ∙ ap (λ x. Some (Begins x starting.start)) (sym name_is) ∙ ap (λ w. Some (Begins asker w)) finds;
          are =
              rest_is
              ∙ ap (λ w. records_of_act b.settings log starting.name (starter b.settings (system_of log) starting.name w) (Starts w)) finds
              ∙ ap (λ x. records_of_act b.settings log x ((system_of log).node x) (Starts (StartFind ticket object))) (sym name_is);
        }

    asked_none : (items : List Record) → All (λ item. asked_ticket item ≡ None) items → items ≡ Asked ticket object asker ∷ after → ⊥
    unfolding asked_ticket
    asked_none [] none are = cc
    asked_none (item ∷ items) none are =
        let first : item ≡ Asked ticket object asker = cc in
        let wrong : None ≡ Some ticket = sym (All-head (λ item. asked_ticket item ≡ None) item items none) ∙ ap asked_ticket first in
        cc

    found_start : IsItsStart
    found_start =
        elim kind [
          | inl idle ↦
              let both : StepRecord idle.index idle.step ∷ idle.items ≡ StepRecord index (Find object asker) ∷ Asked ticket object asker ∷ after =
              sym idle.is ∙ is in
              let items_are : idle.items ≡ Asked ticket object asker ∷ after = cc in
              absurd (asked_none idle.items idle.asks items_are)
          | inr (inl start) ↦ its_start start
          | inr (inr taken) ↦
              let wrong : Taken taken.number ≡ StepRecord index (Find object asker) = cc in absurd (cc)
        ]

    now_lone : Lone b.settings (system_of (log ++ group)) log ticket object asker after
    now_lone =
        let start = found_start in
        let grown = run_grown b log run in
        let quiet = run_rests b log run resting in
        let begins = lookup_begins_alone b.settings (system_of log) asker ticket object sound grown.stand quiet start.may in
        let Holds = AnswerExact (system_of log) ticket object in
        let each : All Holds after =
        subst (All Holds) (sym start.are)
        (act_all Holds (free_exact (system_of log) ticket object) b.settings log asker ((system_of log).node asker)
        (Starts (StartFind ticket object)) begins.1) in
        record {
          was = record { sound = sound; stand = grown.stand; quiet = quiet; asks = start.may; agree = grown.agree };
          alone = λ none.
              subst (GoesAlone b.settings (system_of log) ticket object asker)
              (sym (moves_to (Some (Begins asker (StartFind ticket object))) start.moves)) begins.0;
          exact = λ between later answered server are none.
              all_at Holds after between (Answered answered server) later each are;
        }

  -- ---- both

  no_later_step : (first : Record) (middle : List Record) (index : ℕ) (step : Step) (rest : List Record)
      → group ≡ first ∷ (middle ++ StepRecord index step ∷ rest) → ⊥
  no_later_step first middle index step rest is =
      elim kind [
        | inl idle ↦
            let both : StepRecord idle.index idle.step ∷ idle.items ≡ first ∷ (middle ++ StepRecord index step ∷ rest) = sym idle.is ∙ is in
            let items : idle.items ≡ middle ++ StepRecord index step ∷ rest = cc in
            no_step_among idle.items middle index step rest idle.steps items
        | inr (inl start) ↦
            let both : StepRecord start.index start.step ∷ start.items ≡ first ∷ (middle ++ StepRecord index step ∷ rest) = sym start.is ∙ is in
            let items : start.items ≡ middle ++ StepRecord index step ∷ rest = cc in
            no_step_among start.items middle index step rest start.steps items
        | inr (inr taken) ↦
            let both : Taken taken.number ∷ taken.items ≡ first ∷ (middle ++ StepRecord index step ∷ rest) = sym taken.is ∙ is in
            let items : taken.items ≡ middle ++ StepRecord index step ∷ rest = cc in
            no_step_among taken.items middle index step rest taken.steps items
      ]

  begins_group_not : (ticket : ℕ) (object asker : List ℕ) (after : List Record) → group ≡ Asked ticket object asker ∷ after → ⊥
  begins_group_not ticket object asker after is =
      elim kind [
        | inl idle ↦
            let both : StepRecord idle.index idle.step ∷ idle.items ≡ Asked ticket object asker ∷ after = sym idle.is ∙ is in
            let wrong : StepRecord idle.index idle.step ≡ Asked ticket object asker = cc in cc
        | inr (inl start) ↦
            let both : StepRecord start.index start.step ∷ start.items ≡ Asked ticket object asker ∷ after = sym start.is ∙ is in
            let wrong : StepRecord start.index start.step ≡ Asked ticket object asker = cc in cc
        | inr (inr taken) ↦
            let both : Taken taken.number ∷ taken.items ≡ Asked ticket object asker ∷ after = sym taken.is ∙ is in
            let wrong : Taken taken.number ≡ Asked ticket object asker = cc in cc
      ]

  lone_grows : AreLone b.settings (log ++ group) (system_of (log ++ group))
  lone_grows before ticket object asker after asked =
      elim (parted_where log group before (StepRecord asked.index (Find object asker) ∷ Asked ticket object asker ∷ after) asked.is) [
        | inl now ↦ by_now now.middle now.front now.back
        | inr earlier ↦ by_earlier earlier.first earlier.middle earlier.front earlier.back
      ]
    where
      by_now : (middle : List Record) → before ≡ log ++ middle
          → group ≡ middle ++ StepRecord asked.index (Find object asker) ∷ Asked ticket object asker ∷ after
          → Lone b.settings (system_of (log ++ group)) before ticket object asker after
      by_now [] front back =
          let same : before ≡ log = front ∙ append-nil log in
          subst (λ l. Lone b.settings (system_of (log ++ group)) l ticket object asker after) (sym same)
          (now_lone asked.index ticket object asker after back (subst (λ l. is_rest l ≡ true) same asked.rest))
      by_now (m ∷ middle) front back =
          absurd (no_later_step m middle asked.index (Find object asker) (Asked ticket object asker ∷ after) back)

      by_earlier : (first : Record) (middle : List Record) → log ≡ before ++ first ∷ middle
          → StepRecord asked.index (Find object asker) ∷ Asked ticket object asker ∷ after ≡ first ∷ (middle ++ group)
          → Lone b.settings (system_of (log ++ group)) before ticket object asker after
      by_earlier first [] front back =
          let is : group ≡ Asked ticket object asker ∷ after = cc in absurd (begins_group_not ticket object asker after is)
      by_earlier first (next ∷ middle) front back =
          let first_is : first ≡ StepRecord asked.index (Find object asker) = cc in
          let next_is : next ≡ Asked ticket object asker = cc in
          let after_is : after ≡ middle ++ group = cc in
          let there : IsAskedAtRest log before ticket object asker middle = record {
            index = asked.index;
            is =
                front ∙ ap (λ r. before ++ r ∷ next ∷ middle) first_is
                ∙ ap (λ r. before ++ StepRecord asked.index (Find object asker) ∷ r ∷ middle) next_is;
            rest = asked.rest;
          } in
          subst (Lone b.settings (system_of (log ++ group)) before ticket object asker) (sym after_is)
          (still_lone before ticket object asker middle (lone before ticket object asker middle there))

-- ---- all groups

module _ (b : Beginning) where
  abbrev IsLoneIf : List Record → Type 0
  IsLoneIf log = HaveNames b.settings log → AreLone b.settings log (system_of log)

  grows : (log group : List Record) → IsCourse b log → is_ended log ≡ false → Follows b log group → IsLoneIf log → IsLoneIf (log ++ group)
  grows log group course going follows before steps =
      let earlier = steps_before b.settings log group steps in
      lone_grows b log group (record { course = course; going = going; steps = earlier }) follows
      (steps_after b.settings log group steps) (before earlier)

  begins : AreLone b.settings (begin_record b ∷ []) (system_of (begin_record b ∷ []))
  begins before ticket object asker after asked = by_before before asked.is
    where
      by_before : (before : List Record)
          → begin_record b ∷ [] ≡ before ++ StepRecord asked.index (Find object asker) ∷ Asked ticket object asker ∷ after
          → Lone b.settings (system_of (begin_record b ∷ [])) before ticket object asker after
      by_before [] is = let wrong : begin_record b ≡ StepRecord asked.index (Find object asker) = cc in absurd (cc)
      by_before (first ∷ []) is = let wrong : [] ≡ StepRecord asked.index (Find object asker) ∷ Asked ticket object asker ∷ after = cc in absurd (cc)
      by_before (first ∷ next ∷ before) is =
          let wrong : [] ≡ next ∷ (before ++ StepRecord asked.index (Find object asker) ∷ Asked ticket object asker ∷ after) = cc in absurd (cc)

  run_lone : (log : List Record) → IsRun b log → AreLone b.settings log (system_of log)
  run_lone log run = by_groups b IsLoneIf grows (λ steps. begins) log run.course run.going run.steps

-- ---- in the words of the log

exact_in : (p : SettingsValue) (before : List Record) (ticket : ℕ) (object asker : List ℕ) (server : Option (List ℕ))
    → WasAtRest p before ticket object asker → IsExact (system_of before) object server → IsExactIn before object server
exact_in p before ticket object asker (Some server) was exact =
    was.agree (pair_of object server) ∙ ap (λ n. publishes_in n (pair_of object server)) exact.is ∙ exact.published
exact_in p before ticket object asker None was exact = λ server published.
    exact server (served_is (system_of before) (pair_of object server) (sym (was.agree (pair_of object server)) ∙ published))

pub alone_at : AtEachMoment LookupsAloneAreExact
alone_at b log m run is before between after ticket answered object asker server asked none =
    let lone = run_lone b _ (run_at_moment b log m run is) before ticket object asker (between ++ Answered answered server ∷ after) asked in
    let exact = lone.exact between after answered server refl none in
    (exact.0, exact_in b.settings before ticket object asker server lone.was exact.1)

pub lawful_alone : OfLawfulLogs LookupsAloneAreExact
lawful_alone s log valid played m = alone_at (beginning_in s) log m (lawful_logs_are_safe.runs s log valid played)
