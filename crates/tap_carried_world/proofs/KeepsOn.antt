-- A carrier keeps what the log says with the records of a node, and with a data packet that arrives again.
use Rattle.std.proofs.Common.{◌≡◌, inl, inr, ℕ, Bool, true, false, List, [], ◌∷◌, ◌++◌, Option, None, Some, refl, ap, sym, subst, ◌∙◌, append_assoc}
use Rattle.std.specs.Prelude.{◌||◌, nat_eq}
use Rattle.std.specs.List.{cons_option}
use Rattle.std.proofs.lemmas.Bool.{and_parts, eqb-true}
use Rattle.tap_name.specs.Settings.{SettingsValue}
use Rattle.tap_scenario.specs.declared.step.Step.{Step}
use Rattle.tap_log.specs.declared.record.Record.{Record}
use Rattle.tap_log.specs.declared.record.Record.TheVariants.{Arrived, Step as StepRecord, Taken}
use Rattle.tap_log.specs.Counts.{resends}
use Rattle.tap_log.specs.Kinds.{arrived_number, ended_number, sent_number}
use Rattle.tap_log.specs.Log.{EachFrom}
use Rattle.tap_carry.specs.Inbox.{ArrivesIn, InboxValue, has_arrived}
use Rattle.tap_carry.specs.Names.{is_name, is_same}
use Rattle.tap_packets.specs.Matching.{ArrivesAt, FrameArrives, Inboxes, InboxesMatch}
use Rattle.tap_packets.specs.MayCome.{KeepsPackets, MayCome}
use Rattle.tap_packets.specs.Sequence.{frame_ways}
use Rattle.tap_packets.specs.Packets.{frames_sent, packets_ended}
use Rattle.tap_packets.proofs.OneRecord.{ArePlain, kept-one}
use Rattle.tap_packets.proofs.SameWays.{name_is}
use Rattle.tap_boxes.specs.Boxes.{InboxesValue, inbox_of}
use Rattle.tap_carrier.specs.Carrier.{CarrierValue}
use Rattle.tap_carrier.specs.Kept.{Keeps}
use Rattle.tap_carrier.proofs.KeptCarrier.{keeps_acted, keeps_step, keeps_taken}
use Rattle.tap_carried_world.proofs.NodeRecords.{IsPlainGroup}

module _ (p : SettingsValue) (sent log items : List Record) (kept : KeepsPackets log) where
  -- a step, and what its node does
  pub keeps_start : (index : ℕ) (step : Step) (c : CarrierValue) → IsPlainGroup (StepRecord index step) items
      → EachFrom MayCome log (StepRecord index step ∷ items) → Keeps p sent log c
      → Keeps p sent (log ++ StepRecord index step ∷ items) (record c { resending = resends step })
  keeps_start index step c does follow keeps =
      let after = log ++ StepRecord index step ∷ [] in
      let d : CarrierValue = record c { resending = resends step } in
      subst (λ l. Keeps p sent l d) (append_assoc log (StepRecord index step ∷ []) items)
      (keeps_acted p sent after items d (kept-one log (StepRecord index step) kept follow.0) follow.1 does.begins does.takes does.makes does.ends
      (keeps_step p sent log index step c kept keeps))

  -- a frame that is taken, and what its receiver does
  pub keeps_taking : (frame : ℕ) (inboxes : InboxesValue) (c : CarrierValue) → IsPlainGroup (Taken frame) items
      → EachFrom MayCome log (Taken frame ∷ items)
      → FrameArrives (frame_ways p log) frame (inbox_of inboxes) (inbox_of c.boxes.inboxes)
      → Keeps p sent log (record c { boxes = record c.boxes { inboxes = inboxes } }) → Keeps p sent (log ++ Taken frame ∷ items) c
  keeps_taking frame inboxes c does follow arrives keeps =
      let after = log ++ Taken frame ∷ [] in
      subst (λ l. Keeps p sent l c) (append_assoc log (Taken frame ∷ []) items)
      (keeps_acted p sent after items c (kept-one log (Taken frame) kept follow.0) follow.1 does.begins does.takes does.makes does.ends
      (keeps_taken p sent log frame inboxes c kept follow.0 arrives keeps))

-- ---- a data packet that arrives again

-- one that has arrived before changes nothing
or_known : (known more : Bool) → (more ≡ true → known ≡ true) → (known || more) ≡ known
or_known true more so = refl
or_known false true so = sym (so refl)
or_known false false so = refl

same_again : (before after : InboxValue) (from : List ℕ) (seq : ℕ) → ArrivesIn before after from seq → has_arrived before from seq ≡ true
    → (x : List ℕ) (k : ℕ) → has_arrived after x k ≡ has_arrived before x k
same_again before after from seq arrives known x k =
    arrives.is x k
    ∙ or_known (has_arrived before x k) (is_same from seq x k) (λ same.
    let parts = and_parts (is_name from x) (nat_eq seq k) same in
    ap (λ n. has_arrived before n k) (sym (name_is from x parts.0))
    ∙ ap (has_arrived before from) (sym (eqb-true seq k parts.1)) ∙ known)

module _ (before after : Inboxes) (name from : List ℕ) (seq : ℕ) (arrives : ArrivesAt before after name from seq)
    (known : has_arrived (before name) from seq ≡ true) where
  stays_again : (other x : List ℕ) (k : ℕ) → has_arrived (after other) x k ≡ has_arrived (before other) x k
  stays_again other x k =
      elim (arrives.others other) [
        | inl same ↦
            subst (λ n. has_arrived (after n) x k ≡ has_arrived (before n) x k) (sym same)
            (same_again (before name) (after name) from seq arrives.here known x k)
        | inr stays ↦ ap (λ (box : InboxValue). has_arrived box x k) stays
      ]

  pub matches_again : (p : SettingsValue) (log : List Record) → InboxesMatch p log before → InboxesMatch p log after
  matches_again p log match = record { arrived = λ other x k. stays_again other x k ∙ match.arrived other x k }

-- ---- records that send nothing

none_first : {Y : Type 0} (o : Option Y) (rest : List Y) → cons_option o rest ≡ [] → (o ≡ None) × (rest ≡ [])
none_first None rest is = (refl, is)
none_first (Some y) rest is = absurd (cc)

unarrived : (item : Record) → ended_number item ≡ None → arrived_number item ≡ None
unfolding ended_number arrived_number
unarrived (Arrived packet) none = absurd (cc)
unarrived item none = refl

pub plain_records : (items : List Record) → frames_sent items ≡ [] → packets_ended items ≡ [] → ArePlain items
plain_records [] sends ends = tt
plain_records (item ∷ items) sends ends =
    let s = none_first (sent_number item) (frames_sent items) sends in
    let e = none_first (ended_number item) (packets_ended items) ends in
    ((s.0, unarrived item e.0), plain_records items s.1 e.1)
