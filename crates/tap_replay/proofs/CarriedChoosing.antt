-- What the last step of a carried run has chosen, after one more group, and what is due by it.
use Rattle.std.proofs.Common.{◌≡◌, ℕ, ◌+◌, ◌<◌, Bool, true, false, List, length, get_or, Option, None, Some, refl, ap, sym, subst, ◌∙◌, arith}
use Rattle.std.specs.Prelude.{is_some, nat_eq, option_and_then, slice_get}
use Rattle.std.proofs.lemmas.Bool.{ne_eqb}
use Rattle.std.proofs.lemmas.Option.{slice_get-get_or}
use Rattle.tap_scenario.specs.declared.step.Step.{Step}
use Rattle.tap_scenario.specs.declared.step.Step.TheVariants.{Settle, SettleNewest, SettleMixed, Tick}
use Rattle.tap_log.specs.declared.record.Record.{Record}
use Rattle.tap_lawful.specs.CarriedDue.{arrival_chosen, carried_choice, carried_due, due_by, due_of, due_unless, is_stranded, tick_chosen}
use Rattle.tap_lawful.specs.CarriedDue.Due.{ArrivalDue, TickDue}
use Rattle.tap_lawful.specs.Due.{Chosen, nothing_chosen, place_by, place_chosen}
use Rattle.tap_packets.specs.Packets.{PacketLine, lines_under_way}
use Rattle.tap_replay.specs.CarriedChosen.{AreChosen, as_chosen}
use Rattle.tap_replay.specs.Choice.{IsChoiceOf}
use Rattle.tap_replay.specs.Ticks.{AreTicksOf, due_by_ticks, ticks_left}
use Rattle.tap_replay.specs.declared.choice.Choice.{Choice}
use Rattle.tap_replay.specs.declared.choice.Choice.TheVariants.{Nothing}
use Rattle.tap_replay.specs.declared.ticks.Ticks.{Ticks}
use Rattle.tap_replay.specs.declared.ticks.Ticks.TheVariants.{Never, Once, WhileStranded}
use Rattle.tap_replay.proofs.Choosing.{chosen_within}

-- ---- what is due

-- what a step that isn't refused has happen next
due_accepted : (log : List Record) (step : Step) → (carried_choice log).refused ≡ false → (carried_choice log).step ≡ Some step
    → carried_due log ≡ due_by (carried_choice log) log step
due_accepted log step accepted is =
    ap (λ refused. due_unless refused (carried_choice log) log) accepted ∙ ap (option_and_then (due_by (carried_choice log) log)) is

due_refused : (log : List Record) → (carried_choice log).refused ≡ true → carried_due log ≡ None
due_refused log refused = ap (λ b. due_unless b (carried_choice log) log) refused

due_nothing : (log : List Record) → (carried_choice log).refused ≡ false → (carried_choice log).step ≡ None → carried_due log ≡ None
due_nothing log accepted none =
    ap (λ refused. due_unless refused (carried_choice log) log) accepted ∙ ap (option_and_then (due_by (carried_choice log) log)) none

-- the packet at this place arrives next
pub record IsDueAt (log : List Record) (place : ℕ) : Type 0 where
  pub line : PacketLine
  pub there : slice_get (lines_under_way log) place ≡ Some line
  pub due : carried_due log ≡ Some (ArrivalDue line)

no_line : PacketLine
no_line = record { number = 0; frame = 0; ack = false }

module _ (log : List Record) (choice : Choice) (ticks : Ticks) (are : AreChosen (carried_choice log) choice ticks) (count : ℕ)
    (all : count ≡ length (lines_under_way log)) where
  -- what the choice gives is the place that is chosen
  abbrev pub Gives : Option ℕ → Type 0
  Gives place = (chosen : Chosen) → IsChoiceOf chosen choice → place ≡ place_by chosen count

  -- a step that has a packet arrive wasn't refused
  pub not_refused : (place : ℕ) → Gives (Some place) → (carried_choice log).refused ≡ false
  not_refused place gives = by_refused (carried_choice log).refused refl
    where
      by_refused : (refused : Bool) → (carried_choice log).refused ≡ refused → refused ≡ false
      by_refused false is = refl
      by_refused true is =
          let nothing : choice ≡ Nothing = (are.refused is).0 in
          let none : Some place ≡ None = gives nothing_chosen (subst (IsChoiceOf nothing_chosen) (sym nothing) (λ n. refl)) in
          absurd (cc)

  arrival_of : (step : Option Step) (place : ℕ) → (carried_choice log).step ≡ step → (carried_choice log).refused ≡ false
      → Some place ≡ option_and_then (λ s. place_chosen s (carried_choice log).arrived count) step → IsDueAt log place
  arrival_of None place is accepted found = absurd (cc)
  arrival_of (Some step) place is accepted found =
      let lines = lines_under_way log in
      let chosen = (carried_choice log).arrived in
      let within : place < length lines =
      subst (λ n. place < n) all (chosen_within step chosen count place (sym found)) in
      let there : slice_get lines place ≡ Some (get_or lines place no_line) = slice_get-get_or lines place no_line within in
      let arrives : arrival_chosen step chosen lines ≡ Some (get_or lines place no_line) =
      ap (λ n. option_and_then (slice_get lines) (place_chosen step chosen n)) (sym all)
      ∙ ap (option_and_then (slice_get lines)) (sym found) ∙ there in
      record {
        line = get_or lines place no_line;
        there = there;
        due = due_accepted log step accepted is
            ∙ ap (λ line. due_of line (tick_chosen step (carried_choice log).ticked (is_stranded log))) arrives;
      }

  pub arrival : (place : ℕ) → Gives (Some place) → IsDueAt log place
  arrival place gives =
      let accepts = not_refused place gives in
      arrival_of (carried_choice log).step place refl accepts (gives (as_chosen (carried_choice log)) (are.chosen accepts))

  -- whether one does
  abbrev pub Answers : Bool → Type 0
  Answers due = (chosen : Chosen) → IsChoiceOf chosen choice → due ≡ is_some (place_by chosen count)

  pub some_arrival : Answers true → (place : ℕ) × IsDueAt log place
  some_arrival answers = by_refused (carried_choice log).refused refl
    where
      by_place : (place : Option ℕ) → (carried_choice log).refused ≡ false → place_by (as_chosen (carried_choice log)) count ≡ place
          → true ≡ is_some place → (place : ℕ) × IsDueAt log place
      by_place (Some place) accepted is some = (place, arrival_of (carried_choice log).step place refl accepted (sym is))
      by_place None accepted is some = absurd (cc)

      by_refused : (refused : Bool) → (carried_choice log).refused ≡ refused → (place : ℕ) × IsDueAt log place
      by_refused true is =
          let nothing : choice ≡ Nothing = (are.refused is).0 in
          let none : true ≡ false = answers nothing_chosen (subst (IsChoiceOf nothing_chosen) (sym nothing) (λ n. refl)) in
          absurd (cc)
      by_refused false is =
          by_place (place_by (as_chosen (carried_choice log)) count) is refl (answers (as_chosen (carried_choice log)) (are.chosen is))

  pub no_arrival : Answers false → Gives None
  no_arrival answers = λ chosen of. by_place (place_by chosen count) (answers chosen of)
    where
      by_place : (place : Option ℕ) → false ≡ is_some place → None ≡ place
      by_place (Some place) is = absurd (cc)
      by_place None is = refl

  -- no packet arrives next
  module _ (gives : Gives None) where
    none_chosen : (step : Step) → (carried_choice log).step ≡ Some step → (carried_choice log).refused ≡ false
        → arrival_chosen step (carried_choice log).arrived (lines_under_way log) ≡ None
    none_chosen step is accepted =
        let c = carried_choice log in
        let found : None ≡ place_chosen step c.arrived count =
        gives (as_chosen c) (are.chosen accepted) ∙ ap (option_and_then (λ s. place_chosen s c.arrived count)) is in
        ap (λ n. option_and_then (slice_get (lines_under_way log)) (place_chosen step c.arrived n)) (sym all)
        ∙ ap (option_and_then (slice_get (lines_under_way log))) (sym found)

    due_by_tick : (step : Step) (due : Bool) → (carried_choice log).step ≡ Some step → (carried_choice log).refused ≡ false
        → due_by_ticks ticks (is_stranded log) ≡ due → carried_due log ≡ due_of None due
    due_by_tick step due is accepted ticking =
        let c = carried_choice log in
        due_accepted log step accepted is
        ∙ ap (λ line. due_of line (tick_chosen step c.ticked (is_stranded log))) (none_chosen step is accepted)
        ∙ ap (due_of None) (are.ticked step is accepted (is_stranded log) ∙ ticking)

    -- so a tick does, if the ticks say so
    pub tick : due_by_ticks ticks (is_stranded log) ≡ true → carried_due log ≡ Some TickDue
    tick ticking = by_refused (carried_choice log).refused refl
      where
        never : ticks ≡ Never → carried_due log ≡ Some TickDue
        never is =
            let wrong : true ≡ false = sym ticking ∙ ap (λ t. due_by_ticks t (is_stranded log)) is in absurd (cc)

        by_step : (step : Option Step) → (carried_choice log).step ≡ step → (carried_choice log).refused ≡ false → carried_due log ≡ Some TickDue
        by_step None is accepted = never (are.none is)
        by_step (Some step) is accepted = due_by_tick step true is accepted ticking

        by_refused : (refused : Bool) → (carried_choice log).refused ≡ refused → carried_due log ≡ Some TickDue
        by_refused true is = never (are.refused is).1
        by_refused false is = by_step (carried_choice log).step refl is

    -- and nothing, if they don't
    pub nothing_due : due_by_ticks ticks (is_stranded log) ≡ false → carried_due log ≡ None
    nothing_due ticking = by_refused (carried_choice log).refused refl
      where
        by_step : (step : Option Step) → (carried_choice log).step ≡ step → (carried_choice log).refused ≡ false → carried_due log ≡ None
        by_step None is accepted = due_nothing log accepted is
        by_step (Some step) is accepted = due_by_tick step false is accepted ticking

        by_refused : (refused : Bool) → (carried_choice log).refused ≡ refused → carried_due log ≡ None
        by_refused true is = due_refused log is
        by_refused false is = by_step (carried_choice log).step refl is

-- ---- ticks

-- the ticks of a step, after one of them
ticks_settle : (ticks : Ticks) → ((stranded : Bool) → stranded ≡ due_by_ticks ticks stranded) → (stranded : Bool)
    → stranded ≡ due_by_ticks (ticks_left ticks) stranded
ticks_settle Never all = absurd (let wrong : true ≡ false = all true in cc)
ticks_settle Once all = absurd (let wrong : false ≡ true = all false in cc)
ticks_settle WhileStranded all = all

ticks_never : (ticks : Ticks) → ((stranded : Bool) → false ≡ due_by_ticks ticks stranded) → (stranded : Bool)
    → false ≡ due_by_ticks (ticks_left ticks) stranded
ticks_never Never all = all
ticks_never Once all = absurd (let wrong : false ≡ true = all true in cc)
ticks_never WhileStranded all = absurd (let wrong : false ≡ true = all true in cc)

ticks_once : (due : Bool) (ticks : Ticks) → ((stranded : Bool) → due ≡ due_by_ticks ticks stranded) → (stranded : Bool)
    → false ≡ due_by_ticks (ticks_left ticks) stranded
ticks_once due Never all = λ stranded. refl
ticks_once due Once all = λ stranded. refl
ticks_once due WhileStranded all = absurd (let wrong : true ≡ false = sym (all true) ∙ all false in cc)

pub ticks_more : (step : Step) (ticked : ℕ) (ticks : Ticks) → AreTicksOf step ticked ticks → AreTicksOf step (ticked + 1) (ticks_left ticks)
unfolding tick_chosen
ticks_more Tick ticked ticks all = λ stranded.
    let more : nat_eq (ticked + 1) 0 ≡ false = ne_eqb (ticked + 1) 0 (λ same. let wrong : ticked + 1 ≡ 0 = same in absurd (omega (arith, wrong))) in
    more ∙ ticks_once (nat_eq ticked 0) ticks all stranded
ticks_more Settle ticked ticks all = ticks_settle ticks all
ticks_more SettleNewest ticked ticks all = ticks_settle ticks all
ticks_more (SettleMixed seed) ticked ticks all = ticks_settle ticks all
ticks_more other ticked ticks all = ticks_never ticks all
