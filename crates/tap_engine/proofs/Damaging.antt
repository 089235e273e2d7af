-- A damaged copy of an outstanding frame: it is no frame, and its receiver says why.
use Rattle.std.proofs.Common.{◌≡◌, ◌≢◌, ℕ, ◌<◌, nat_le, true, false, List, length, slice_get, Option, None, Some, Result, Ok, Err, IsOk, IsErr, is_ok, is_some, refl, ap, sym, subst, ◌∙◌}
use Rattle.std.specs.Prelude.{if◌then◌else◌, option_and_then}
use Rattle.std.specs.Option.{ForSome, option_map}
use Rattle.std.proofs.lemmas.Bool.{leb-false, true≢false}
use Rattle.tap_name.specs.Settings.{SettingsValue}
use Rattle.tap_scenario.specs.declared.step.Step.{Step}
use Rattle.tap_scenario.specs.declared.step.Step.TheVariants.{Cut, Garble}
use Rattle.tap_wire.specs.Reading.{frame_of}
use Rattle.tap_wire.specs.declared.fault.WireFault.{WireFault}
use Rattle.tap_wire.specs.declared.frame.Frame.{Frame}
use Rattle.tap_log.specs.declared.record.Record.{Record}
use Rattle.tap_log.specs.declared.record.Record.TheVariants.{Garbled}
use Rattle.tap_log.specs.declared.record.Refusal.TheVariants.{NoSuchFlight, Readable}
use Rattle.tap_history.specs.Flights.{bytes_at, flight_count}
use Rattle.tap_history.specs.Moments.{outstanding, under_way}
use Rattle.tap_history.specs.Refusals.{begin_settings, damaged, first_refusal, is_and, is_readable, refusals, refuses_no_such_flight, refuses_readable}
use Rattle.tap_history.specs.StepAsks.{flight_place}
use Rattle.tap_rule.specs.Node.{NodeState, settings_of}
use Rattle.tap_node.specs.Node.{running}
use Rattle.tap_node.specs.Outcome.{AnswersAs, MayWant, at_read, refused_by, take_outcome}
use Rattle.tap_node.specs.declared.fault.NodeFault.TheVariants.{NoMemory as OutOfMemory, Wire}
use Rattle.tap_node.specs.declared.turn.Turn.{Turn}
use Rattle.tap_runs.specs.Course.{system_of}
use Rattle.tap_runs.specs.Damage.{copied_number, damage_record, fault_in, garbled}
use Rattle.tap_runs.proofs.Nodes.{cause_fails}
use Rattle.tap_overlay.specs.Overlay.{OverlayValue, node_at}
use Rattle.tap_overlay.specs.Step.{HasStepped, NodeHasAnswered, StepsAt, answer_given}
use Rattle.tap_overlay.specs.declared.fault.OverlayFault.{OverlayFault}
use Rattle.tap_overlay.specs.declared.fault.OverlayFault.TheVariants.{Node as NodeRefuses}
use Rattle.tap_engine.specs.Damaged.{copy_damaged}
use Rattle.tap_engine.specs.declared.damage.Damage.{Damage}
use Rattle.tap_engine.specs.declared.damage.Damage.TheVariants.{Byte, Cut as Shorter}
use Rattle.tap_engine.specs.KeptEngine.{AreReady}
use Rattle.tap_engine.specs.Working.{CopiesAt}
use Rattle.tap_engine.specs.declared.engine.Engine.{Engine}
use Rattle.tap_engine.proofs.Courses.{course_settings, course_uncarried}
use Rattle.tap_engine.proofs.Keeping.{on, seen}
use Rattle.tap_engine.proofs.SoundCourse.{IsSoundAt}
use Rattle.tap_engine.proofs.Seeing.{none_at}
use Rattle.tap_engine.proofs.Taking.{sound}

-- ---- bytes that are no frame

-- why these bytes are no frame
pub record IsRefusedFor (read : Result Frame WireFault) : Type 0 where
  pub fault : WireFault
  pub is : read ≡ Err fault

pub refused_for : (read : Result Frame WireFault) → IsErr read → IsRefusedFor read
refused_for (Ok frame) unread = absurd (true≢false (sym unread))
refused_for (Err fault) unread = record { fault = fault; is = refl }

-- the nodes stay, and one says why the bytes are no frame
pub record IsUnread (before after : OverlayValue) (given : Result Turn OverlayFault) (fault : WireFault) : Type 0 where
  pub same : after ≡ before
  pub gives : given ≡ Err (NodeRefuses (Wire fault))

-- a node that takes bytes which are no frame
at_fault : (node : NodeState) (bytes : List ℕ) (p : SettingsValue) (fault : WireFault) → settings_of node ≡ p → frame_of p bytes ≡ Err fault
    → take_outcome (running node) bytes ≡ refused_by (running node) (Wire fault)
at_fault node bytes p fault settings read =
    ap (λ q. at_read (running node) (frame_of q bytes)) settings ∙ ap (at_read (running node)) read

module _ (m : Engine) (after : OverlayValue) (ready : AreReady m) (name bytes : List ℕ) (given : Result Turn OverlayFault)
    (step : StepsAt (λ node. take_outcome node bytes) m.overlay.nodes after.nodes name given) (settings : after.settings ≡ m.overlay.settings)
    (memory : given ≡ Err (NodeRefuses OutOfMemory) → ForSome (node_at m.overlay name) (λ node. MayWant node bytes)) where
  nodes_stay : after.nodes ≡ m.overlay.nodes → after ≡ m.overlay
  nodes_stay nodes =
      ap (λ p. record { settings = p; nodes = after.nodes }) settings
      ∙ ap (λ n. record { settings = m.overlay.settings; nodes = n }) nodes

  node_is : (found : Option NodeState) → (system_of m.ledger.records).node name ≡ found
      → node_at m.overlay name ≡ option_map running found
  node_is found is = (ready.kept.go_on refl).nodes.nodes_are name ∙ ap (option_map running) is

  module _ (node : NodeState) (at : (system_of m.ledger.records).node name ≡ Some node) (fault : WireFault)
      (read : frame_of m.settings bytes ≡ Err fault) where
    abbrev facts : IsSoundAt (seen m).beginning m.ledger.records name node
    facts = (sound m ready).nodes name node at

    has : HasStepped (take_outcome (running node) bytes) m.overlay.nodes after.nodes name (running node) given
    has = step.there (running node) (node_is (Some node) at)

    answered : NodeHasAnswered (take_outcome (running node) bytes) (running node) has.is given
    answered = has.step.free facts.left

    answers : AnswersAs (refused_by (running node) (Wire fault)) (running node) answered.answer has.is
    answers = subst (λ x. AnswersAs x (running node) answered.answer has.is)
        (at_fault node bytes m.settings fault facts.settings_are read) answered.answers

    -- memory isn't wanted
    no_memory : answered.answer ≢ Err OutOfMemory
    no_memory = λ short.
        let wants = memory (answered.given_is ∙ ap answer_given short) (running node) (node_is (Some node) at) in
        let ok : IsOk (frame_of m.settings bytes) = subst (λ q. IsOk (frame_of q bytes)) facts.settings_are wants.read in
        let wrong : false ≡ true = ap is_ok (sym read) ∙ ok in
        absurd (cc)

    unread_at : IsUnread m.overlay after given fault
    unread_at = record {
      same = nodes_stay (has.same (answers.node no_memory));
      gives = answered.given_is ∙ ap answer_given (answers.answer no_memory);
    }

  -- bytes that are no frame were offered to a node that is there
  pub offered : (fault : WireFault) → frame_of m.settings bytes ≡ Err fault → is_some (node_at m.overlay name) ≡ true
      → IsUnread m.overlay after given fault
  offered fault is there = by ((system_of m.ledger.records).node name) refl
    where
      by : (node : Option NodeState) → (system_of m.ledger.records).node name ≡ node → IsUnread m.overlay after given fault
      by None at = let nobody : false ≡ true = ap is_some (sym (node_is None at)) ∙ there in absurd (cc)
      by (Some node) at = unread_at node at fault is

-- ---- the copy

not_ok : (read : Result Frame WireFault) → is_ok read ≡ false → IsErr read
not_ok (Ok frame) is = absurd (cc)
not_ok (Err fault) is = refl

-- what the two kinds of step copy
pub garble_copies : (place at byte : ℕ) → CopiesAt (Garble place at byte) (place, Byte at byte)
unfolding damaged flight_place
garble_copies place at byte = record { place = refl; copy = λ log. refl }

pub cut_copies : (place count : ℕ) → CopiesAt (Cut place count) (place, Shorter count)
unfolding damaged flight_place
cut_copies place count = record { place = refl; copy = λ log. refl }

module _ (m : Engine) (ready : AreReady m) (step : Step) (copies : ℕ × Damage) (is : CopiesAt step copies) where
  abbrev log : List Record
  log = m.ledger.records

  -- the frame that an accepted step copies is outstanding
  pub copied_within : first_refusal log step ≡ None → copies.0 < length (outstanding log)
  unfolding refuses_no_such_flight
  copied_within accepted =
      let goes = on m ready in
      let none : refuses_no_such_flight log step ≡ None = none_at (refusals log step) 9 accepted in
      let fails = cause_fails (is_and (flight_place step) (nat_le (flight_count log))) (NoSuchFlight (flight_count log)) none in
      let count : flight_count log ≡ length (outstanding log) =
      ap (λ c. if c then length (under_way log) else length (outstanding log)) (course_uncarried (seen m).beginning log goes.course) in
      leb-false (length (outstanding log)) copies.0
      (sym (ap (λ place. is_and place (nat_le (flight_count log))) is.place ∙ ap (λ n. nat_le n copies.0) count) ∙ fails)

  module _ (bytes : List ℕ) (at : bytes_at log copies.0 ≡ Some bytes) where
    copied : damaged log step ≡ Some (copy_damaged bytes copies.1)
    copied = is.copy log ∙ ap (option_map (λ l. copy_damaged l copies.1)) at

    -- the copy of an accepted step is no frame
    pub copy_unread : first_refusal log step ≡ None → IsErr (frame_of m.settings (copy_damaged bytes copies.1))
    unfolding refuses_readable
    copy_unread accepted =
        let goes = on m ready in
        let none : refuses_readable log step ≡ None = none_at (refusals log step) 11 accepted in
        let fails = cause_fails (is_and (damaged log step) (is_readable (begin_settings log))) Readable none in
        not_ok (frame_of m.settings (copy_damaged bytes copies.1))
        (sym (ap (λ copy. is_and copy (is_readable (begin_settings log))) copied
        ∙ ap (λ p. is_readable p (copy_damaged bytes copies.1)) (course_settings (seen m).beginning log goes.course)) ∙ fails)

    -- what is said of it
    pub copy_told : (number : ℕ) (fault : WireFault) → slice_get (outstanding log) copies.0 ≡ Some number
        → frame_of m.settings (copy_damaged bytes copies.1) ≡ Err fault → Some (Garbled number fault) ≡ damage_record m.settings log step
    copy_told number fault found why =
        ap (λ read. garbled (Some number) (fault_in read)) (sym why)
        ∙ sym (ap (λ copy. garbled (copied_number log step) (option_and_then (λ l. fault_in (frame_of m.settings l)) copy)) copied
        ∙ ap (λ place. garbled (option_and_then (slice_get (outstanding log)) place) (fault_in (frame_of m.settings (copy_damaged bytes copies.1))))
        is.place
        ∙ ap (λ n. garbled n (fault_in (frame_of m.settings (copy_damaged bytes copies.1)))) found)
