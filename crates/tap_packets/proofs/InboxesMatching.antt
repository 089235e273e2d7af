-- What has arrived in inboxes is what was taken: kept by each record.
use Rattle.std.proofs.Common.{◌≡◌, ℕ, ◌<◌, Bool, true, false, not, nat_eq, List, [], ◌∷◌, ◌++◌, None, Some, refl, ap, sym, ◌∙◌, arith, subst, inl, inr, append-nil}
use Rattle.std.specs.Prelude.{◌&&◌, ◌||◌}
use Rattle.std.proofs.lemmas.Bool.{cases_Bool, false≢true}
use Rattle.std.proofs.lemmas.List.Elements.{filter_map-append}
use Rattle.std.proofs.lemmas.List.Folds.{list_any-append}
use Rattle.tap_name.specs.Settings.{SettingsValue}
use Rattle.tap_log.specs.declared.record.Record.{Record}
use Rattle.tap_log.specs.Kinds.{taken_number}
use Rattle.tap_log.specs.Counts.{sent_count}
use Rattle.tap_log.specs.MoreRecords.{at_most_one}
use Rattle.tap_history.specs.Moments.{has_number, outstanding}
use Rattle.tap_carry.specs.Names.{is_name}
use Rattle.tap_carry.specs.Inbox.{InboxValue, has_arrived}
use Rattle.tap_packets.specs.MayCome.{MayCome}
use Rattle.tap_packets.specs.Matching.{Inboxes, any_has_sequence, InboxesMatch, FrameArrives}
use Rattle.tap_packets.specs.Packets.{frames_sent, frames_taken}
use Rattle.tap_packets.specs.Sequence.{Way, way_between, sent_way, frame_ways, way_at, sequence_in, has_sequence}
use Rattle.tap_packets.proofs.ClockTurns.{stays}
use Rattle.tap_packets.proofs.KeptForms.{Keeps}
use Rattle.tap_packets.proofs.KeptPackets.{taken-one}
use Rattle.tap_packets.proofs.NumbersInRows.{AreBelow, below-append, has-from, has-less}
use Rattle.tap_packets.proofs.SameWays.{name_is, name_itself}
use Rattle.tap_packets.proofs.StableWays.{ways-size, told-stays, told-has}

told-one : (ws : List Way) (frames : List ℕ) (f : ℕ) (way : Way) (seq : ℕ)
    → any_has_sequence ws (frames ++ f ∷ []) way seq ≡ (any_has_sequence ws frames way seq || (has_sequence ws way seq f || false))
told-one ws frames f way seq = list_any-append (has_sequence ws way seq) frames (f ∷ [])

-- what inboxes know after a record, by the ways before it
told-lines : (settings : SettingsValue) (log : List Record) (item : Record) (way : Way) (seq : ℕ) → Keeps log → MayCome log item
    → any_has_sequence (frame_ways settings (log ++ item ∷ [])) (frames_taken (log ++ item ∷ [])) way seq ≡ any_has_sequence (frame_ways settings log)
    (frames_taken log ++ at_most_one (taken_number item)) way seq
told-lines settings log item way seq kept next =
    let ws = frame_ways settings log in
    let more = at_most_one (sent_way settings item) in
    let frames = frames_taken log ++ at_most_one (taken_number item) in
    let below =
    below-append (sent_count log) (frames_taken log) (at_most_one (taken_number item)) kept.taken
    (taken-one log (taken_number item) kept next.takes) in
    ap (λ w. any_has_sequence w (frames_taken (log ++ item ∷ [])) way seq) (filter_map-append (sent_way settings) log (item ∷ []))
    ∙ ap (λ l. any_has_sequence (ws ++ more) l way seq) (filter_map-append taken_number log (item ∷ []))
    ∙ told-stays ws more frames way seq (subst (λ n. AreBelow n frames) (sym (ways-size settings log)) below)

pub inboxes-others : (settings : SettingsValue) (log : List Record) (item : Record) (boxes : Inboxes) → Keeps log → MayCome log item
    → taken_number item ≡ None
    → InboxesMatch settings log boxes → InboxesMatch settings (log ++ item ∷ []) boxes
inboxes-others settings log item boxes kept next none match =
    record {
      arrived = λ name from seq.
          let way = way_between from name in
          match.arrived name from seq ∙ sym (told-lines settings log item way seq kept next
          ∙ ap (λ o. any_has_sequence (frame_ways settings log) (frames_taken log ++ at_most_one o) way seq) none
          ∙ ap (λ l. any_has_sequence (frame_ways settings log) l way seq) (append-nil (frames_taken log)));
    }

or-false : (b : Bool) → (b || false) ≡ b
or-false true = refl
or-false false = refl

there : (from_is to_is seq_is : Bool) → to_is ≡ true → (from_is && seq_is) ≡ (((from_is && to_is) && seq_is) || false)
there true true true h = refl
there true true false h = refl
there false to_is seq_is h = refl
there true false seq_is h = absurd (false≢true h)

elsewhere : (from_is to_is seq_is : Bool) → to_is ≡ false → (((from_is && to_is) && seq_is) || false) ≡ false
elsewhere true true seq_is h = absurd (false≢true (sym h))
elsewhere true false seq_is h = refl
elsewhere false to_is seq_is h = refl

-- the receiver's inbox is told of the frame that is taken
pub inboxes-taken : (settings : SettingsValue) (log : List Record) (f : ℕ) (item : Record) (boxes after : Inboxes) → Keeps log
    → MayCome log item → taken_number item ≡ Some f
    → FrameArrives (frame_ways settings log) f boxes after
    → InboxesMatch settings log boxes → InboxesMatch settings (log ++ item ∷ []) after
inboxes-taken settings log f item boxes after kept next taken told match =
    let ws = frame_ways settings log in
    let to = (way_at ws f).to in
    let from_f = (way_at ws f).from in
    let seq_f = sequence_in ws f in
    record {
      arrived = λ name from seq.
          let way = way_between from name in
          let before = any_has_sequence ws (frames_taken log) way seq in
          let then_told : any_has_sequence (frame_ways settings (log ++ item ∷ [])) (frames_taken (log ++ item ∷ [])) way seq ≡
          (before || (has_sequence ws way seq f || false)) =
          told-lines settings log item way seq kept next ∙ ap (λ o. any_has_sequence ws (frames_taken log ++ at_most_one o) way seq) taken
          ∙ told-one ws (frames_taken log) f way seq in
          elim (cases_Bool (is_name to name)) [
            | inl here ↦
                let same : to ≡ name = name_is to name here in
                ap (λ n. has_arrived (after n) from seq) (sym same)
                ∙ told.here.is from seq
                ∙ ap (λ n. has_arrived (boxes n) from seq || (is_name from_f from && nat_eq seq_f seq)) same
                ∙ ap (λ b. b || (is_name from_f from && nat_eq seq_f seq)) (match.arrived name from seq)
                ∙ ap (λ b. before || b) (there (is_name from_f from) (is_name to name) (nat_eq seq_f seq) here)
                ∙ sym then_told
            | inr apart ↦
                elim (told.others name) [
                  | inl same ↦ absurd (false≢true (sym apart ∙ ap (is_name to) same ∙ name_itself to))
                  | inr stays ↦
                      ap (λ (b : InboxValue). has_arrived b from seq) stays ∙ match.arrived name from seq
                      ∙ sym (then_told ∙ ap (λ b. before || b) (elsewhere (is_name from_f from) (is_name to name) (nat_eq seq_f seq) apart)
                      ∙ or-false before)
                ]
          ];
    }

-- the receiver's inbox answers true exactly if the frame is outstanding
pub inbox-answers : (settings : SettingsValue) (log : List Record) (f : ℕ) (boxes : Inboxes) → Keeps log → f < sent_count log
    → InboxesMatch settings log boxes
    → not
    (has_arrived (boxes (way_at (frame_ways settings log) f).to) (way_at (frame_ways settings log) f).from (sequence_in (frame_ways settings log) f))
    ≡ has_number (outstanding log) f
inbox-answers settings log f boxes kept low match =
    let ws = frame_ways settings log in
    let size = ways-size settings log in
    ap not (match.arrived (way_at ws f).to (way_at ws f).from (sequence_in ws f)
    ∙ told-has ws (frames_taken log) f (omega (arith, size, low)) (subst (λ n. AreBelow n (frames_taken log)) (sym size) kept.taken))
    ∙ sym (has-less (frames_sent log) (frames_taken log) f
    ∙ ap (λ b. b && not (has_number (frames_taken log) f)) (has-from 0 f (frames_sent log) kept.numbered (omega arith) (omega arith)))
