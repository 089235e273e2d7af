-- What a run has moved and sent since a step of its log: if that starts something and nothing else does, frames alone were delivered since.
use Rattle.std.proofs.Common.{◌≡◌, inl, inr, ℕ, ◌+◌, true, false, List, [], ◌∷◌, ◌++◌, length, All, Some, arith, refl, ap, sym, subst, ◌∙◌, append-nil, length-append}
use Rattle.std.specs.Prelude.{is_some}
use Rattle.tap_scenario.specs.declared.step.Step.{Step}
use Rattle.tap_log.specs.Counts.{sent_count}
use Rattle.tap_log.specs.Kinds.{accepts, begins_group, sent_number}
use Rattle.tap_log.specs.MoreRecords.{at_most_one}
use Rattle.tap_log.specs.declared.record.Record.{Record}
use Rattle.tap_log.specs.declared.record.Record.TheVariants.{Step as StepRecord, Taken}
use Rattle.tap_log.proofs.MoreRecords.{sent_count-append}
use Rattle.tap_history.specs.Groups.{is_ended}
use Rattle.tap_history.specs.StepAsks.{is_start}
use Rattle.tap_rule.specs.Event.{Start}
use Rattle.tap_safety.specs.Move.{Move, may_move}
use Rattle.tap_safety.specs.Move.Move.{Begins, Delivers}
use Rattle.tap_safety.specs.System.{System}
use Rattle.tap_runs.specs.Beginning.{Beginning, begin_record}
use Rattle.tap_runs.specs.Course.{Follows, IsCourse, MayFollow, move_of_group, moved_by, system_of}
use Rattle.tap_runs.specs.Group.{start_at}
use Rattle.tap_runs.specs.Named.{HaveNames}
use Rattle.tap_runs.proofs.CourseGrows.{by_groups, grown_system}
use Rattle.tap_runs.proofs.Nodes.{HasNoStep}
use Rattle.tap_runs.proofs.Within.{is_accepted, step_kind}
use Rattle.tap_runs.proofs.Frames.{starting_moves}
use Rattle.tap_safety_moves.specs.SoundMoves.{after_moves, may_run}
use Rattle.tap_safe_runs.specs.Safe.{IsRun}
use Rattle.tap_safe_runs.proofs.Possible.{group_may_move}
use Rattle.tap_safe_runs.proofs.Safe.{runs_are_sound, steps_after, steps_before}
use Rattle.tap_safe_runs.specs.Accepting.{AcceptNoStart}
use Rattle.tap_safe_runs.proofs.GroupKinds.{IsKnownGroup, group_kind}
use Rattle.tap_safe_runs.proofs.Splits.{no_step_among, none_in_first, none_in_second, parted_where}
use Rattle.tap_safe_runs.proofs.Starting.{start_group_accepts}
use Rattle.tap_bounds.specs.FewLookups.{AreDeliveries}
use Rattle.tap_bounds.specs.FewSent.{traffic_of}
use Rattle.tap_bounds.specs.Traffic.{Traffic, no_traffic}
use Rattle.tap_bounds_runs.proofs.Agreeing.{group_sends, sent_is, sent_one, sent_with}
use Rattle.tap_bounds_runs.proofs.RunMoves.{after_more, after_one, may_more, may_one, traffic_more}

-- ---- deliveries

deliveries_more : (moves more : List Move) → AreDeliveries moves → AreDeliveries more → AreDeliveries (moves ++ more)
deliveries_more [] more are also = also
deliveries_more (Begins x start ∷ moves) more are also = absurd are
deliveries_more (Delivers number ∷ moves) more are also = deliveries_more moves more are also

-- ---- what was moved since a step

-- the moves since the step begin with its start, and then frames alone are delivered
pub record IsStartAlone (before : List Record) (step : Step) (moves : List Move) : Type 0 where
  pub name : List ℕ
  pub start : Start
  pub at : start_at before step ≡ Some (name, start)
  pub later : List Move
  pub are : moves ≡ Begins name start ∷ later
  pub delivers : AreDeliveries later

module _ (b : Beginning) where
  -- The log before the step is a run. These moves have led from there to where the log has come, and sent what it says was sent since; and if
  -- it says that the step was accepted and no other start was, they are its start and deliveries.
  pub record Since (before : List Record) (step : Step) (after : List Record) (s : System) : Type 0 where
    pub run : IsRun b before
    pub moves : List Move
    pub may : may_run b.settings (system_of before) moves
    pub leads : after_moves b.settings (system_of before) moves ≡ s
    pub sent : sent_count after ≡ length (traffic_of b.settings (system_of before) no_traffic moves).sent
    pub alone : (said : Record) (later : List Record) → after ≡ said ∷ later → accepts false said ≡ true → is_start step ≡ true
        → AcceptNoStart later → IsStartAlone before step moves

  abbrev SinceEach : List Record → Type 0
  SinceEach log = (before : List Record) (index : ℕ) (step : Step) (after : List Record) → log ≡ before ++ StepRecord index step ∷ after
      → Since before step after (system_of log)

  -- ---- one more group

  module _ (log group : List Record) (run : IsRun b log) (follows : Follows b log group) (names : HaveNames b.settings group) where
    possible : (one : Move) → move_of_group log group ≡ Some one → may_move b.settings (system_of log) one
    possible one is =
        group_may_move b log group one run.course run.going (runs_are_sound b log run).invariant.basis follows names is

    kind : IsKnownGroup b.settings log (system_of log) group
    kind = group_kind b.settings log (system_of log) group follows.may possible

    leads_on : system_of (log ++ group) ≡ moved_by b.settings (system_of log) (move_of_group log group)
    leads_on = grown_system b log group run.course run.going follows

    group_count : sent_count group ≡ length (sent_with b.settings (system_of log) (move_of_group log group))
    group_count =
        sent_is b.settings group (sent_with b.settings (system_of log) (move_of_group log group))
        (group_sends b.settings log (system_of log) group follows.may)

    -- no step stands within the group
    no_later_step : (first : Record) (middle : List Record) (index : ℕ) (step : Step) (rest : List Record)
        → group ≡ first ∷ (middle ++ StepRecord index step ∷ rest) → ⊥
    no_later_step first middle index step rest is =
        elim kind [
          | inl idle ↦ by_items (StepRecord idle.index idle.step) idle.items idle.is idle.steps
          | inr (inl start) ↦ by_items (StepRecord start.index start.step) start.items start.is start.steps
          | inr (inr taken) ↦ by_items (Taken taken.number) taken.items taken.is taken.steps
        ]
      where
        by_items : (one : Record) (items : List Record) → group ≡ one ∷ items → All HasNoStep items → ⊥
        by_items one items are none =
            let both : one ∷ items ≡ first ∷ (middle ++ StepRecord index step ∷ rest) = sym are ∙ is in
            let same : items ≡ middle ++ StepRecord index step ∷ rest = cc in
            no_step_among items middle index step rest none same

    -- its first record accepts no step
    first_accepts_none : (said : Record) (later : List Record) → group ≡ said ∷ later → accepts false said ≡ true → ⊥
    unfolding accepts begins_group
    first_accepts_none said later is accepted =
        elim kind [
          | inl idle ↦ step_accepts_none idle.index idle.step idle.items idle.is
          | inr (inl start) ↦ step_accepts_none start.index start.step start.items start.is
          | inr (inr taken) ↦
              let both : Taken taken.number ∷ taken.items ≡ said ∷ later = sym taken.is ∙ is in
              let same : Taken taken.number ≡ said = cc in
              let wrong : false ≡ true = ap (accepts false) same ∙ accepted in
              cc
        ]
      where
        step_accepts_none : (index : ℕ) (step : Step) (items : List Record) → group ≡ StepRecord index step ∷ items → ⊥
        step_accepts_none index step items are =
            let both : StepRecord index step ∷ items ≡ said ∷ later = sym are ∙ is in
            let same : StepRecord index step ≡ said = cc in
            let wrong : false ≡ true = ap (accepts false) same ∙ accepted in
            cc

    -- if it accepts no start, it delivers a frame or moves nothing
    delivers_at_most : AcceptNoStart group → AreDeliveries (at_most_one (move_of_group log group))
    delivers_at_most none =
        elim kind [
          | inl idle ↦ subst (λ m. AreDeliveries (at_most_one m)) (sym idle.still) tt
          | inr (inl start) ↦ absurd (start_group_accepts b.settings log (system_of log) group start none)
          | inr (inr taken) ↦ subst (λ m. AreDeliveries (at_most_one m)) (sym taken.moves) tt
        ]

    -- ---- the step of the group

    module _ (index : ℕ) (step : Step) (after : List Record) (is : group ≡ StepRecord index step ∷ after) where
      begins_so : MayFollow b.settings log (system_of log) (StepRecord index step ∷ after) → is_accepted after ≡ true → is_start step ≡ true
          → (name : List ℕ) × (start : Start) × (start_at log step ≡ Some (name, start))
          × (move_of_group log (StepRecord index step ∷ after) ≡ Some (Begins name start))
      unfolding MayFollow
      begins_so may accepted starts =
          elim (step_kind b.settings log (system_of log) index step after may) [
            | inl idle ↦ elim idle.plain [
              | inl refused ↦ let wrong : true ≡ false = sym accepted ∙ refused in absurd (cc)
              | inr nobody ↦ let wrong : true ≡ false = sym starts ∙ ap is_some nobody in absurd (cc)
            ]
            | inr starting ↦ (
              starting.name,
              starting.start,
              starting.at,
              starting_moves b.settings log (system_of log) index step after starting,
            )
          ]

      alone_now : (said : Record) (later : List Record) → after ≡ said ∷ later → accepts false said ≡ true → is_start step ≡ true
          → IsStartAlone log step (at_most_one (move_of_group log group))
      alone_now said later are accepted starts =
          let may = subst (MayFollow b.settings log (system_of log)) is follows.may in
          let begins = begins_so may (ap is_accepted are ∙ accepted) starts in
          let moves : move_of_group log group ≡ Some (Begins begins.0 begins.1) = ap (move_of_group log) is ∙ begins.3 in
          record { name = begins.0; start = begins.1; at = begins.2; later = []; are = ap at_most_one moves; delivers = tt }

      sent_now : sent_count after ≡ length (traffic_of b.settings (system_of log) no_traffic (at_most_one (move_of_group log group))).sent
      unfolding sent_number
      sent_now =
          let mine : sent_count after ≡ sent_count group = ap sent_count (sym is) in
          mine ∙ group_count ∙ sym (ap length (sent_one b.settings (system_of log) no_traffic (move_of_group log group)))

      since_now : Since log step after (system_of (log ++ group))
      since_now = record {
        run = run;
        moves = at_most_one (move_of_group log group);
        may = may_one b.settings (system_of log) (move_of_group log group) possible;
        leads = after_one b.settings (system_of log) (move_of_group log group) ∙ sym leads_on;
        sent = sent_now;
        alone = λ said later are accepted starts none. alone_now said later are accepted starts;
      }

    -- ---- an earlier step

    module _ (before : List Record) (step : Step) (after : List Record) (since : Since before step after (system_of log)) where
      abbrev moves_on : List Move
      moves_on = since.moves ++ at_most_one (move_of_group log group)

      sent_on : sent_count (after ++ group) ≡ length (traffic_of b.settings (system_of before) no_traffic moves_on).sent
      sent_on =
          let p = b.settings in
          let one = at_most_one (move_of_group log group) in
          let r = traffic_of p (system_of before) no_traffic since.moves in
          let more : length (traffic_of p (system_of before) no_traffic moves_on).sent
          ≡ length r.sent + length (sent_with p (system_of log) (move_of_group log group)) =
          ap (λ (t : Traffic). length t.sent) (traffic_more p (system_of before) no_traffic since.moves one)
          ∙ ap (λ s. length (traffic_of p s r one).sent) since.leads
          ∙ ap length (sent_one p (system_of log) r (move_of_group log group))
          ∙ length-append r.sent (sent_with p (system_of log) (move_of_group log group)) in
          let all = sent_count-append after group in
          let was = since.sent in
          let now = group_count in
          omega (arith, more, all, was, now)

      alone_on : (said : Record) (later : List Record) → after ++ group ≡ said ∷ later → accepts false said ≡ true → is_start step ≡ true
          → AcceptNoStart later → IsStartAlone before step moves_on
      alone_on said later are accepted starts none = by_after after refl
        where
          by_after : (items : List Record) → after ≡ items → IsStartAlone before step moves_on
          by_after [] empty =
              let first : group ≡ said ∷ later = sym (ap (λ l. l ++ group) empty) ∙ are in
              absurd (first_accepts_none said later first accepted)
          by_after (item ∷ items) some =
              let both : item ∷ (items ++ group) ≡ said ∷ later = sym (ap (λ l. l ++ group) some) ∙ are in
              let same : item ≡ said = cc in
              let rest : items ++ group ≡ later = cc in
              let free : AcceptNoStart (items ++ group) = subst AcceptNoStart (sym rest) none in
              let was = since.alone item items some (ap (accepts false) same ∙ accepted) starts (none_in_first items group free) in
              let one = at_most_one (move_of_group log group) in
              let moves : moves_on ≡ Begins was.name was.start ∷ (was.later ++ one) =
              ap (λ l. l ++ one) {y = Begins was.name was.start ∷ was.later} was.are in
              record {
                name = was.name;
                start = was.start;
                at = was.at;
                later = was.later ++ one;
                are = moves;
                delivers = deliveries_more was.later one was.delivers (delivers_at_most (none_in_second items group free));
              }

      since_on : Since before step (after ++ group) (system_of (log ++ group))
      since_on =
          let p = b.settings in
          let one = at_most_one (move_of_group log group) in
          record {
            run = since.run;
            moves = moves_on;
            may =
                may_more p (system_of before) since.moves one since.may
                (subst (λ s. may_run p s one) (sym since.leads) (may_one p (system_of log) (move_of_group log group) possible));
            leads =
                after_more p (system_of before) since.moves one ∙ ap (λ s. after_moves p s one) since.leads
                ∙ after_one p (system_of log) (move_of_group log group) ∙ sym leads_on;
            sent = sent_on;
            alone = alone_on;
          }

    -- ---- both

    since_grows : SinceEach log → SinceEach (log ++ group)
    since_grows each before index step after is =
        elim (parted_where log group before (StepRecord index step ∷ after) is) [
          | inl now ↦ by_now now.middle now.front now.back
          | inr earlier ↦
              let back = earlier.back in
              let first : earlier.first ≡ StepRecord index step = cc in
              let rest : after ≡ earlier.middle ++ group = cc in
              let there : log ≡ before ++ StepRecord index step ∷ earlier.middle =
              earlier.front ∙ ap (λ r. before ++ r ∷ earlier.middle) first in
              subst (λ l. Since before step l (system_of (log ++ group))) (sym rest)
              (since_on before step earlier.middle (each before index step earlier.middle there))
        ]
      where
        by_now : (middle : List Record) → before ≡ log ++ middle → group ≡ middle ++ StepRecord index step ∷ after
            → Since before step after (system_of (log ++ group))
        by_now [] front back =
            subst (λ l. Since l step after (system_of (log ++ group))) (sym (front ∙ append-nil log)) (since_now index step after back)
        by_now (m ∷ middle) front back = absurd (no_later_step m middle index step after back)

  -- ---- each log of a run

  abbrev SinceIf : List Record → Type 0
  SinceIf log = HaveNames b.settings log → SinceEach log

  since_more : (log group : List Record) → IsCourse b log → is_ended log ≡ false → Follows b log group → SinceIf log
      → SinceIf (log ++ group)
  since_more log group course going follows each steps =
      let before = steps_before b.settings log group steps in
      since_grows log group (record { course = course; going = going; steps = before }) follows (steps_after b.settings log group steps)
      (each before)

  since_first : SinceEach (begin_record b ∷ [])
  since_first [] index step after is = let wrong : begin_record b ≡ StepRecord index step = cc in absurd (cc)
  since_first (first ∷ []) index step after is = let wrong : [] ≡ StepRecord index step ∷ after = cc in absurd (cc)
  since_first (first ∷ next ∷ before) index step after is =
      let wrong : [] ≡ next ∷ (before ++ StepRecord index step ∷ after) = cc in absurd (cc)

  pub run_since : (log : List Record) → IsRun b log → SinceEach log
  run_since log run = by_groups b SinceIf since_more (λ steps. since_first) log run.course run.going run.steps
