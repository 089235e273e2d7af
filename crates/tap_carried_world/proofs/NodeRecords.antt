-- What a node does, as a carried log says it: no packet is made or ends there, and the packets of a group send no frame.
use Rattle.std.proofs.Common.{◌≡◌, inl, inr, ℕ, ◌+◌, Bool, true, false, List, [], ◌∷◌, ◌++◌, length, map, All, None, refl, ap, sym, subst, ◌∙◌, arith, append-nil}
use Rattle.std.specs.Option.{option_zip}
use Rattle.std.proofs.lemmas.Bool.{false≢true}
use Rattle.std.proofs.lemmas.Option.{none-some}
use Rattle.tap_name.specs.Settings.{SettingsValue}
use Rattle.tap_scenario.specs.declared.step.Step.{Step}
use Rattle.tap_log.specs.declared.record.Record.{Record}
use Rattle.tap_log.specs.declared.record.Record.TheVariants.{Arrived, Lost, Packet, Step as StepRecord, Taken}
use Rattle.tap_log.specs.Counts.{packet_count, sent_count}
use Rattle.tap_log.specs.Kinds.{begins_group, ended_number, packet_number, sent_number, step_of, taken_number}
use Rattle.tap_log.specs.Log.{begun_steps}
use Rattle.tap_log.specs.Reduced.{is_added, reduced}
use Rattle.tap_log.proofs.MoreRecords.{filter_map-same, packet_count-append, sent_count-append}
use Rattle.tap_history.specs.Groups.{is_ended}
use Rattle.tap_history.specs.Moments.{has_number, outstanding}
use Rattle.tap_history.specs.StepAsks.{actor_of}
use Rattle.tap_packets.specs.Groups.{data_lines}
use Rattle.tap_packets.specs.Packets.{PacketLine, frames_sent, frames_taken, made_packet, packet_lines, packet_record, packets_ended}
use Rattle.tap_runs.specs.Course.{FollowStep, MayFollow, is_choice, system_of}
use Rattle.tap_runs.proofs.Frames.{none_of}
use Rattle.tap_runs.proofs.Within.{step_kind, whole_group}
use Rattle.tap_runs.specs.Starts.{start_of_step}
use Rattle.tap_carried.specs.LogTurns.{IsPlainRecord}
use Rattle.tap_carried.proofs.PlainRecords.{step_plain, taken_plain}
use Rattle.tap_carried.proofs.TurnGroups.{reduced-append}
use Rattle.tap_carried.proofs.TurnsKept.{IsKept}
use Rattle.tap_lawful.specs.CarriedNext.{reduced_step_records, reduced_taken_records}

-- ---- records that aren't the carrier's

unmade : (item : Record) → is_added item ≡ false → packet_number item ≡ None
unfolding is_added packet_number
unmade (Packet number frame ack) plain = absurd (false≢true (sym plain))
unmade item plain = refl

unended : (item : Record) → is_added item ≡ false → ended_number item ≡ None
unfolding is_added ended_number
unended (Arrived packet) plain = absurd (false≢true (sym plain))
unended (Lost packet) plain = absurd (false≢true (sym plain))
unended item plain = refl

unmade_line : (item : Record) → is_added item ≡ false → made_packet item ≡ None
unfolding is_added made_packet
unmade_line (Packet number frame ack) plain = absurd (false≢true (sym plain))
unmade_line item plain = refl

unbegun : (item : Record) → begins_group false item ≡ false → step_of item ≡ None
unfolding begins_group
unbegun (StepRecord index step) alone = absurd (false≢true (sym alone))
unbegun item alone = refl

untaken : (item : Record) → begins_group false item ≡ false → taken_number item ≡ None
unfolding begins_group taken_number
untaken (Taken number) alone = absurd (false≢true (sym alone))
untaken item alone = refl

-- these make no packets, and none ends with them
pub record MakeNone (items : List Record) : Type 0 where
  pub made : packet_count items ≡ 0
  pub ended : packets_ended items ≡ []

-- a group of the reduced log: its first record, and plain ones after it, none of which ends the log
pub record IsPlainGroup (first : Record) (items : List Record) : Type 0 where
  pub begins : begun_steps items ≡ []
  pub takes : frames_taken items ≡ []
  pub makes : packet_lines items ≡ []
  pub ends : packets_ended items ≡ []
  pub none : MakeNone (first ∷ items)
  pub going : is_ended (first ∷ items) ≡ false

plain_none : (items : List Record) → All IsPlainRecord items → MakeNone items
plain_none items plain = record {
  made = ap length (none_of packet_number items (λ k d within. unmade _ (plain k d within).kept));
  ended = none_of ended_number items (λ k d within. unended _ (plain k d within).kept);
}

plain_group : (first : Record) (items : List Record) → All IsPlainRecord items → MakeNone (first ∷ items) → is_ended (first ∷ items) ≡ false
    → IsPlainGroup first items
plain_group first items plain none going = record {
  begins = none_of step_of items (λ k d within. unbegun _ (plain k d within).uncarried);
  takes = none_of taken_number items (λ k d within. untaken _ (plain k d within).uncarried);
  makes = none_of made_packet items (λ k d within. unmade_line _ (plain k d within).kept);
  ends = (plain_none items plain).ended;
  none = none;
  going = going;
}

step_first : (index : ℕ) (step : Step) (items : List Record) → MakeNone items → MakeNone (StepRecord index step ∷ items)
unfolding packet_number ended_number
step_first index step items none = record { made = none.made; ended = none.ended }

taken_first : (frame : ℕ) (items : List Record) → MakeNone items → MakeNone (Taken frame ∷ items)
unfolding packet_number ended_number
taken_first frame items none = record { made = none.made; ended = none.ended }

-- ---- what a node does

module _ (p : SettingsValue) (log : List Record) (kept : IsKept true log) where
  says : (index : ℕ) (step : Step) (choice : Bool) → choice ≡ false
      → FollowStep choice p (reduced log) (system_of (reduced log)) index step (reduced_step_records p log index step)
  says index step true acts = absurd (false≢true (sym acts))
  says index step false acts = refl

  goes_on : (first : Record) (items : List Record) → MayFollow p (reduced log) (system_of (reduced log)) (first ∷ items)
      → is_ended (first ∷ items) ≡ false
  goes_on first items may =
      let whole = whole_group p (reduced log) (system_of (reduced log)) (first ∷ items) kept.reduced_begun kept.uncarried may in
      subst (λ g. is_ended g ≡ false) (sym whole.is) whole.going

  -- at a start, or as an observation sees it
  pub step_is_plain : (index : ℕ) (step : Step) → is_choice step ≡ false
      → IsPlainGroup (StepRecord index step) (reduced_step_records p log index step)
  unfolding MayFollow
  step_is_plain index step acts =
      let items = reduced_step_records p log index step in
      let may : MayFollow p (reduced log) (system_of (reduced log)) (StepRecord index step ∷ items) = says index step (is_choice step) acts in
      let plain = step_plain p (reduced log) (system_of (reduced log)) kept.reduced_begun kept.uncarried index step items may in
      plain_group (StepRecord index step) items plain (step_first index step items (plain_none items plain)) (goes_on (StepRecord index step) items may)

  -- an observation sends no frame
  pub observation_sends_none : (index : ℕ) (step : Step) → actor_of step ≡ None → is_choice step ≡ false
      → frames_sent (reduced_step_records p log index step) ≡ []
  observation_sends_none index step none acts =
      let items = reduced_step_records p log index step in
      elim (step_kind p (reduced log) (system_of (reduced log)) index step items (says index step (is_choice step) acts)) [
        | inl idle ↦ none_of sent_number items (λ k d within. (idle.quiet k d within).sent)
        | inr starting ↦
            let start = start_of_step (reduced log) step in
            absurd (none-some (starting.name, starting.start) (sym (ap (λ actor. option_zip actor start) none) ∙ starting.at))
      ]

  -- with a frame that it takes
  pub taken_is_plain : (frame : ℕ) → has_number (outstanding (reduced log)) frame ≡ true
      → IsPlainGroup (Taken frame) (reduced_taken_records p log frame)
  unfolding MayFollow
  taken_is_plain frame waits =
      let items = reduced_taken_records p log frame in
      let may : MayFollow p (reduced log) (system_of (reduced log)) (Taken frame ∷ items) = record { waits = waits; are = refl } in
      let plain = taken_plain p (reduced log) (system_of (reduced log)) kept.reduced_begun kept.uncarried frame items may in
      plain_group (Taken frame) items plain (taken_first frame items (plain_none items plain)) (goes_on (Taken frame) items may)

-- with these no more packets were made
pub as_many_packets : (log items : List Record) → MakeNone items → packet_count (log ++ items) ≡ packet_count log
as_many_packets log items none =
    packet_count-append log items ∙ ap (λ n. packet_count log + n) none.made ∙ (let e : packet_count log + 0 ≡ packet_count log = omega arith in e)

-- ---- the frames of a group

pub step_sends : (index : ℕ) (step : Step) (items : List Record) → frames_sent (StepRecord index step ∷ items) ≡ frames_sent items
unfolding sent_number
step_sends index step items = refl

pub taken_sends : (frame : ℕ) (items : List Record) → frames_sent (Taken frame ∷ items) ≡ frames_sent items
unfolding sent_number
taken_sends frame items = refl

pub arrived_sends : (number : ℕ) (items : List Record) → frames_sent (Arrived number ∷ items) ≡ frames_sent items
unfolding sent_number
arrived_sends number items = refl

-- packets send none
pub packets_send_none : (lines : List PacketLine) → sent_count (map packet_record lines) ≡ 0
unfolding sent_number
packets_send_none [] = refl
packets_send_none (line ∷ lines) = packets_send_none lines

-- each data packet is counted
pub packets_counted : (number : ℕ) (frames : List ℕ) → packet_count (map packet_record (data_lines number frames)) ≡ length frames
unfolding packet_number
packets_counted number [] = refl
packets_counted number (frame ∷ frames) =
    let rest = packets_counted (number + 1) frames in
    omega (arith, rest)

-- as many frames were sent with a group as with what its node does
pub sent_with_packets : (log items : List Record) (lines : List PacketLine)
    → sent_count (log ++ (items ++ map packet_record lines)) ≡ sent_count (log ++ items)
sent_with_packets log items lines =
    let all = sent_count-append log (items ++ map packet_record lines) in
    let both = sent_count-append items (map packet_record lines) in
    let none = packets_send_none lines in
    let front = sent_count-append log items in
    omega (arith, all, both, none, front)

-- ---- the arrival of a packet

arrival_left_out : (number : ℕ) → reduced (Arrived number ∷ []) ≡ []
unfolding is_added
arrival_left_out number = refl

-- it isn't seen in the reduced log
pub reduced_arrival : (log : List Record) (number : ℕ) → reduced (log ++ Arrived number ∷ []) ≡ reduced log
reduced_arrival log number =
    reduced-append log (Arrived number ∷ []) ∙ ap (λ l. reduced log ++ l) (arrival_left_out number) ∙ append-nil (reduced log)

arrival_unmade : (number : ℕ) → packet_number (Arrived number) ≡ None
unfolding packet_number
arrival_unmade number = refl

-- and makes no packet
pub packets_at_arrival : (log : List Record) (number : ℕ) → packet_count (log ++ Arrived number ∷ []) ≡ packet_count log
packets_at_arrival log number = ap length (filter_map-same packet_number log (Arrived number) (arrival_unmade number))

-- as many frames were sent with it and with records that send none as with what a node does
pub sent_around : (log items rest : List Record) (number : ℕ) → sent_count rest ≡ 0
    → sent_count (log ++ Arrived number ∷ (items ++ rest)) ≡ sent_count (log ++ items)
sent_around log items rest number none =
    let all = sent_count-append log (Arrived number ∷ (items ++ rest)) in
    let first : sent_count (Arrived number ∷ (items ++ rest)) ≡ sent_count (items ++ rest) = ap length (arrived_sends number (items ++ rest)) in
    let both = sent_count-append items rest in
    let less = sent_count-append log items in
    omega (arith, all, first, both, less, none)
