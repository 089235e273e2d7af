-- What each move takes of the steps of its run.
use Rattle.std.proofs.Common.{◌≡◌, ℕ, ◌+◌, ◌-◌, ◌≤◌, Bool, true, false, List, [], ◌∷◌, ◌++◌, length, map, refl, ap, sym, ◌∙◌, arith, inl, inr, length-append}
use Rattle.std.specs.Prelude.{◌&&◌, if◌then◌else◌, fold}
use Rattle.std.proofs.lemmas.Bool.{false≢true}
use Rattle.std.proofs.lemmas.List.{map-append}
use Rattle.std.proofs.lemmas.List.Elements.{filter_map-append}
use Rattle.std.proofs.lemmas.List.Sums.{fold-append}
use Rattle.tap_scenario.specs.declared.step.Step.{Step}
use Rattle.tap_scenario.specs.declared.step.Step.TheVariants.{Lose, Repeat, Tick}
use Rattle.tap_log.specs.declared.record.Record.{Record}
use Rattle.tap_log.specs.declared.record.Record.TheVariants.{Step as StepRecord, Packet, Arrived, Ticked, Lost}
use Rattle.tap_log.specs.Kinds.{step_of, packet_number}
use Rattle.tap_log.specs.Counts.{packet_count, resends, resends_after, resent_from, resent_count}
use Rattle.tap_log.specs.Log.{begun_steps}
use Rattle.tap_log.specs.MoreRecords.{is_resending}
use Rattle.tap_log.proofs.MoreRecords.{resent_count-append}
use Rattle.tap_history.specs.Moments.{has_number, outstanding, awaiting}
use Rattle.tap_packets.specs.Bounds.{Clock, due_after, is_due, clock_of, IsTurn, IsAllowed}
use Rattle.tap_packets.specs.Groups.{ack_line, data_lines, carried_step_group, lose_group, copied_line, repeat_group, tick_group, arrival_records, CarrierMove, group_of, IsCarrierMove}
use Rattle.tap_packets.specs.Packets.{frames_sent, PacketLine, made_packet, packet_record, packet_lines}
use Rattle.tap_packets.proofs.RecordsCome.{lines-of-packets, data-size}
use Rattle.tap_packets.specs.Groups.CarrierMove.{Acts, Arrives, Loses, Repeats, Ticks}

-- ---- what the log says of its steps

-- a record that makes no packet
not-packet : (b : Bool) (n : ℕ) → (if b && false then 1 else 0) + n ≡ n
not-packet true n = omega arith
not-packet false n = omega arith

no-packets : (items : List Record) (lines : List PacketLine) → packet_lines items ≡ [] → lines ≡ []
    → packet_lines (items ++ map packet_record lines) ≡ []
no-packets items lines quiet none =
    filter_map-append made_packet items (map packet_record lines) ∙ ap (λ l. l ++ packet_lines (map packet_record lines)) quiet
    ∙ lines-of-packets lines ∙ none

-- no step begins, and the last one doesn't send packets once more
none-resent : (items : List Record) → begun_steps items ≡ [] → resent_from false items ≡ 0
unfolding resends_after
none-resent [] none = refl
none-resent (StepRecord index step ∷ items) none = absurd (let long = ap length none in omega (arith, long))
none-resent (item ∷ items) none = let rest = none-resent items none in omega (arith, rest)

-- no packet is made
none-made : (b : Bool) (items : List Record) → packet_lines items ≡ [] → resent_from b items ≡ 0
unfolding made_packet packet_number
none-made b [] none = refl
none-made b (Packet number frame ack ∷ items) none = absurd (let long = ap length none in omega (arith, long))
none-made b (item ∷ items) none = not-packet b (resent_from (resends_after b item) items) ∙ none-made (resends_after b item) items none

-- packets after a step that sends packets once more
all-resent : (lines : List PacketLine) → resent_from true (map packet_record lines) ≡ length lines
unfolding packet_number resends_after
all-resent [] = refl
all-resent (line ∷ lines) = let rest = all-resent lines in omega (arith, rest)

pub stays : (items : List Record) → begun_steps items ≡ [] → fold due_after false items ≡ false
unfolding due_after
stays [] none = refl
stays (StepRecord index step ∷ items) none = absurd (let long = ap length none in omega (arith, long))
stays (item ∷ items) none = stays items none

not-due : (b : Bool) (items : List Record) → begun_steps items ≡ [] → 1 ≤ length items → fold due_after b items ≡ false
unfolding due_after
not-due b [] none some = absurd (omega arith)
not-due b (StepRecord index step ∷ items) none some = absurd (let long = ap length none in omega (arith, long))
not-due b (item ∷ items) none some = stays items none

-- if a tick is due the last step sends packets once more
due-resends : (b c : Bool) (log : List Record) → (b ≡ true → c ≡ true) → fold due_after b log ≡ true → fold resends_after c log ≡ true
unfolding due_after resends_after resends
due-resends b c [] keeps due = keeps due
due-resends b c (StepRecord index Tick ∷ log) keeps due = due-resends true true log (λ h. refl) due
due-resends b c (StepRecord index other ∷ log) keeps due = due-resends false (resends other) log (λ h. absurd (false≢true h)) due
due-resends b c (item ∷ log) keeps due = due-resends false c log (λ h. absurd (false≢true h)) due

packets-begin-none : (lines : List PacketLine) → begun_steps (map packet_record lines) ≡ []
packets-begin-none [] = refl
packets-begin-none (line ∷ lines) = packets-begin-none lines

items-begin-none : (items : List Record) (lines : List PacketLine) → begun_steps items ≡ []
    → begun_steps (items ++ map packet_record lines) ≡ []
items-begin-none items lines none =
    filter_map-append step_of items (map packet_record lines) ∙ ap (λ l. l ++ begun_steps (map packet_record lines)) none
    ∙ packets-begin-none lines

arrival-begins-none : (log : List Record) (line : PacketLine) (items : List Record) (ack out : Bool) → begun_steps items ≡ []
    → begun_steps (Arrived line.number ∷ arrival_records log line items ack out) ≡ []
arrival-begins-none log line items true out none = refl
arrival-begins-none log line items false false none = refl
arrival-begins-none log line items false true none =
    let lines = data_lines (packet_count log) (frames_sent items) in
    let last = ack_line (packet_count log + length (frames_sent items)) line.frame in
    ap (λ l. begun_steps (items ++ l)) (sym (map-append packet_record lines (last ∷ []))) ∙ items-begin-none items (lines ++ last ∷ []) none

begun-more : (log group : List Record) → length (begun_steps (log ++ group)) ≡ length (begun_steps log) + length (begun_steps group)
begun-more log group = ap length (filter_map-append step_of log group) ∙ length-append (begun_steps log) (begun_steps group)

-- a group in which no step begins
quiet-clock : (steps : ℕ) (log group : List Record) → begun_steps group ≡ [] → 1 ≤ length group → is_resending log ≡ false
    → is_due log ≡ false
    → clock_of steps (log ++ group) ≡ clock_of steps log
quiet-clock steps log group none some last due =
    let left : steps - length (begun_steps (log ++ group)) ≡ steps - length (begun_steps log) = let m = begun-more log group in
    let z = ap length none in
    omega (arith, m, z) in
    let resent : resent_count (log ++ group) ≡ resent_count log =
    let a = resent_count-append log group in let z = ap (λ b. resent_from b group) last ∙ none-resent group none in omega (arith, a, z) in
    let after : is_due (log ++ group) ≡ is_due log =
    fold-append due_after false log group ∙ not-due (is_due log) group none some ∙ sym due in
    ap (λ x. let c : Clock = record { left = x; resent = resent_count (log ++ group); due = is_due (log ++ group) } in c) left
    ∙ ap (λ x. let c : Clock = record { left = steps - length (begun_steps log); resent = x; due = is_due (log ++ group) } in c) resent
    ∙ ap (λ x. let c : Clock = record { left = steps - length (begun_steps log); resent = resent_count log; due = x } in c) after

-- a step's group resends nothing if its records make no packet, or if it isn't one to resend
step-resent : (index : ℕ) (step : Step) (items : List Record) (lines : List PacketLine) (again : Bool) → resends step ≡ again
    → begun_steps items ≡ [] → packet_lines items ≡ [] → (resends step ≡ true → frames_sent items ≡ [])
    → (frames_sent items ≡ [] → lines ≡ []) → (b : Bool) → resent_from b (StepRecord index step ∷ items ++ map packet_record lines) ≡ 0
unfolding resends_after packet_number
step-resent index step items lines true is none quiet may empty b =
    not-packet b (resent_from (resends step) (items ++ map packet_record lines))
    ∙ none-made (resends step) (items ++ map packet_record lines) (no-packets items lines quiet (empty (may is)))
step-resent index step items lines false is none quiet may empty b =
    not-packet b (resent_from (resends step) (items ++ map packet_record lines))
    ∙ ap (λ t. resent_from t (items ++ map packet_record lines)) is
    ∙ none-resent (items ++ map packet_record lines) (items-begin-none items lines none)

begun-one : (index : ℕ) (step : Step) (rest : List Record) → begun_steps rest ≡ [] → length (begun_steps (StepRecord index step ∷ rest)) ≡ 1
begun-one index step rest none = ap (λ l. length (step ∷ l)) none

lost-begins-none : (number : ℕ) → begun_steps (Lost number ∷ []) ≡ []
lost-begins-none number = refl

lost-resent : (b : Bool) (index place number : ℕ) → resent_from b (StepRecord index (Lose place) ∷ Lost number ∷ []) ≡ 0
unfolding packet_number resends_after resends
lost-resent true index place number = refl
lost-resent false index place number = refl

repeat-resent : (b : Bool) (index place : ℕ) (line : PacketLine)
    → resent_from b (StepRecord index (Repeat place) ∷ packet_record line ∷ []) ≡ 1
unfolding packet_number resends_after resends
repeat-resent true index place line = refl
repeat-resent false index place line = refl

tick-resent : (lines : List PacketLine) → resent_from true (Ticked ∷ map packet_record lines) ≡ length lines
unfolding packet_number resends_after
tick-resent lines = let all = all-resent lines in omega (arith, all)

tick-begins-none : (lines : List PacketLine) → begun_steps (Ticked ∷ map packet_record lines) ≡ []
tick-begins-none lines = packets-begin-none lines

no-lines : (n : ℕ) (frames : List ℕ) → frames ≡ [] → data_lines n frames ≡ []
no-lines n frames none = ap (data_lines n) none

pub move-turns : (steps : ℕ) (log : List Record) (move : CarrierMove) → IsCarrierMove log move → IsAllowed steps log move
    → IsTurn log move (clock_of steps log) (clock_of steps (log ++ group_of log move))
move-turns steps log (Acts index step items) is may =
    let lines = data_lines (packet_count log) (frames_sent items) in
    let group = carried_step_group log index step items in
    let m = begun-more log group in
    let one = begun-one index step (items ++ map packet_record lines) (items-begin-none items lines is.0.begins) in
    let a = resent_count-append log group in
    let z =
    step-resent index step items lines (resends step) refl is.0.begins is.0.makes is.1 (no-lines (packet_count log) (frames_sent items))
    (is_resending log) in
    record { left = omega (arith, m, one, may); resent = omega (arith, a, z); within = inl refl }
move-turns steps log (Arrives line items) is may =
    quiet-clock steps log (group_of log (Arrives line items))
    (arrival-begins-none log line items line.ack (has_number (outstanding log) line.frame) is.1.begins) (omega arith) may.last may.due
move-turns steps log (Loses index place line) is may =
    let group = lose_group index place line in
    let m = begun-more log group in
    let one = begun-one index (Lose place) (Lost line.number ∷ []) (lost-begins-none line.number) in
    let a = resent_count-append log group in
    let z = lost-resent (is_resending log) index place line.number in
    record { left = omega (arith, m, one, may); resent = omega (arith, a, z); within = inl refl }
move-turns steps log (Repeats index place line) is may =
    let copy = copied_line log line in
    let group = repeat_group log index place line in
    let m = begun-more log group in
    let one = begun-one index (Repeat place) (packet_record copy ∷ []) (packets-begin-none (copy ∷ [])) in
    let a = resent_count-append log group in
    let z = repeat-resent (is_resending log) index place copy in
    let low = may.0 in
    let most = may.1 in
    record { left = omega (arith, m, one, low); resent = omega (arith, a, z); within = inr (omega (arith, a, z, most)) }
move-turns steps log Ticks is (inl may) =
    let lines = data_lines (packet_count log) (awaiting log) in
    let group = tick_group log in
    let m = begun-more log group in
    let none = ap length (tick-begins-none lines) in
    let a = resent_count-append log group in
    let z = ap (λ b. resent_from b group) (due-resends false false log (λ h. h) may.due) ∙ tick-resent lines in
    let size = data-size (packet_count log) (awaiting log) in
    let most = may.resent in
    inl (record {
      was = may.due;
      is = fold-append due_after false log group ∙ not-due (is_due log) group (tick-begins-none lines) (omega arith);
      left = omega (arith, m, none);
      resent = omega (arith, a, z, size);
      within = omega (arith, a, z, size, most);
    })
move-turns steps log Ticks is (inr may) =
    let lines = data_lines (packet_count log) (awaiting log) in
    inr (record {
      none = may.none;
      some = may.some;
      same = quiet-clock steps log (tick_group log) (tick-begins-none lines) (omega arith) may.calm.last may.calm.due;
    })
