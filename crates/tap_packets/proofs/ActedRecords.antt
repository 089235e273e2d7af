-- What a node does by the reduced log may stand in the whole one.
-- Cited above: acts_fit_holds
use Rattle.std.proofs.Common.{◌≡◌, ℕ, ◌+◌, Bool, true, false, not, List, [], ◌∷◌, ◌++◌, length, Option, None, refl, ap, sym, ◌∙◌, cond, subst, append-nil, All}
use Rattle.std.specs.List.{filter_map, cons_option, range_with_len}
use Rattle.std.proofs.lemmas.Bool.{false≢true}
use Rattle.std.proofs.lemmas.List.Elements.{filter_map-append}
use Rattle.tap_name.specs.Settings.{SettingsValue}
use Rattle.tap_wire.specs.declared.frame.Frame.{Frame}
use Rattle.tap_log.specs.declared.record.Record.{Record}
use Rattle.tap_log.specs.declared.record.Record.TheVariants.{Step as StepRecord, Sent, Taken, Packet, Arrived, Lost}
use Rattle.tap_log.specs.Kinds.{begins_group, step_of, sent_number, taken_number, ended_number}
use Rattle.tap_log.specs.Counts.{sent_count}
use Rattle.tap_log.specs.Log.{begun_steps}
use Rattle.tap_log.specs.Reduced.{is_added, reduced}
use Rattle.tap_history.specs.Moments.{numbers_less, outstanding}
use Rattle.tap_runs.proofs.Frames.{none_of}
use Rattle.tap_rule.specs.Event.{Acted, News}
use Rattle.tap_rule.specs.Event.News.{Nothing, Core as CoreNews, Gone as GoneNews, Answered as AnsweredNews, Cast as CastNews}
use Rattle.tap_runs.specs.Acts.{acted_records, news_after, news_before, sent_records}
use Rattle.tap_packets.specs.ActsFit.{ActsFit}
use Rattle.tap_packets.specs.Groups.{AreActed}
use Rattle.tap_packets.specs.Packets.{frames_sent, frames_taken, made_packet, packet_lines, packets_ended}
use Rattle.tap_packets.proofs.NumbersInRows.{AreFrom, range_of}

-- ---- what a node does

-- records that tell nothing of this kind before and after those of the frames
around : {Y : Type 0} (h : Record → Option Y) (before items after : List Record) → filter_map h before ≡ [] → filter_map h after ≡ []
    → filter_map h (before ++ (items ++ after)) ≡ filter_map h items
around h before items after one two =
    filter_map-append h before (items ++ after) ∙ ap (λ l. l ++ filter_map h (items ++ after)) one
    ∙ filter_map-append h items after ∙ ap (λ l. filter_map h items ++ l) two ∙ append-nil (filter_map h items)

-- these records tell nothing of steps, frames and packets
record TellNothing (items : List Record) : Type 0 where
  begins : begun_steps items ≡ []
  sends : frames_sent items ≡ []
  takes : frames_taken items ≡ []
  makes : packet_lines items ≡ []
  ends : packets_ended items ≡ []

quiet_before : (name : List ℕ) (news : News) → TellNothing (news_before name news)
unfolding news_before sent_number taken_number ended_number made_packet
quiet_before name Nothing = record { begins = refl; sends = refl; takes = refl; makes = refl; ends = refl }
quiet_before name CoreNews = record { begins = refl; sends = refl; takes = refl; makes = refl; ends = refl }
quiet_before name GoneNews = record { begins = refl; sends = refl; takes = refl; makes = refl; ends = refl }
quiet_before name (AnsweredNews ticket server) = record { begins = refl; sends = refl; takes = refl; makes = refl; ends = refl }
quiet_before name (CastNews cast true closed) = record { begins = refl; sends = refl; takes = refl; makes = refl; ends = refl }
quiet_before name (CastNews cast false closed) = record { begins = refl; sends = refl; takes = refl; makes = refl; ends = refl }

quiet_after : (news : News) → TellNothing (news_after news)
unfolding news_after sent_number taken_number ended_number made_packet
quiet_after Nothing = record { begins = refl; sends = refl; takes = refl; makes = refl; ends = refl }
quiet_after CoreNews = record { begins = refl; sends = refl; takes = refl; makes = refl; ends = refl }
quiet_after GoneNews = record { begins = refl; sends = refl; takes = refl; makes = refl; ends = refl }
quiet_after (AnsweredNews ticket server) = record { begins = refl; sends = refl; takes = refl; makes = refl; ends = refl }
quiet_after (CastNews cast reached true) = record { begins = refl; sends = refl; takes = refl; makes = refl; ends = refl }
quiet_after (CastNews cast reached false) = record { begins = refl; sends = refl; takes = refl; makes = refl; ends = refl }

frames_from : (p : SettingsValue) (n : ℕ) (frames : List Frame) → AreFrom n (frames_sent (sent_records p n frames))
unfolding sent_number
frames_from p n [] = tt
frames_from p n (frame ∷ frames) = (refl, frames_from p (n + 1) frames)

frames_quiet : (p : SettingsValue) (n : ℕ) (frames : List Frame)
    → (begun_steps (sent_records p n frames) ≡ []) × (frames_taken (sent_records p n frames) ≡ [])
    × (packet_lines (sent_records p n frames) ≡ []) × (packets_ended (sent_records p n frames) ≡ [])
unfolding taken_number ended_number made_packet
frames_quiet p n [] = (refl, refl, refl, refl)
frames_quiet p n (frame ∷ frames) = frames_quiet p (n + 1) frames

acted_is : (p : SettingsValue) (log : List Record) (name : List ℕ) (acted : Acted)
    → AreActed log (acted_records p (sent_count log) name acted)
acted_is p log name acted =
    let before = news_before name acted.news in
    let items = sent_records p (sent_count log) acted.sent in
    let after = news_after acted.news in
    let one = quiet_before name acted.news in
    let two = quiet_after acted.news in
    let quiet = frames_quiet p (sent_count log) acted.sent in
    record {
      begins = around step_of before items after one.begins two.begins ∙ quiet.0;
      sends = range_of (sent_count log) (frames_sent (before ++ (items ++ after)))
          (subst (AreFrom (sent_count log)) (sym (around sent_number before items after one.sends two.sends))
          (frames_from p (sent_count log) acted.sent));
      takes = around taken_number before items after one.takes two.takes ∙ quiet.1;
      makes = around made_packet before items after one.makes two.makes ∙ quiet.2;
      ends = around ended_number before items after one.ends two.ends ∙ quiet.3;
    }

-- ---- frames of the reduced log

-- what is left out tells nothing of this kind
left-out : {Y : Type 0} (h : Record → Option Y) (b : Bool) (item : Record) (rest : List Record) (ys : List Y) → (b ≡ true → h item ≡ None)
    → filter_map h rest ≡ ys → filter_map h (cond {A = List Record} (not b) (item ∷ rest) rest) ≡ cons_option (h item) ys
left-out h true item rest ys none is = is ∙ ap (λ o. cons_option o ys) (sym (none refl))
left-out h false item rest ys none is = ap (cons_option (h item)) is

reduced_tells : {Y : Type 0} (h : Record → Option Y) → ((item : Record) → is_added item ≡ true → h item ≡ None)
    → (log : List Record) → filter_map h (reduced log) ≡ filter_map h log
reduced_tells h none [] = refl
reduced_tells h none (item ∷ log) = left-out h (is_added item) item (reduced log) (filter_map h log) (none item) (reduced_tells h none log)

added_sends_none : (item : Record) → is_added item ≡ true → sent_number item ≡ None
unfolding is_added sent_number
added_sends_none (Sent number bytes) is = absurd (false≢true is)
added_sends_none item is = refl

added_takes_none : (item : Record) → is_added item ≡ true → taken_number item ≡ None
unfolding is_added taken_number
added_takes_none (Taken number) is = absurd (false≢true is)
added_takes_none item is = refl

reduced_sent : (log : List Record) → frames_sent (reduced log) ≡ frames_sent log
reduced_sent log = reduced_tells sent_number added_sends_none log

reduced_taken : (log : List Record) → frames_taken (reduced log) ≡ frames_taken log
reduced_taken log = reduced_tells taken_number added_takes_none log

reduced_outstanding : (log : List Record) → outstanding (reduced log) ≡ outstanding log
reduced_outstanding log =
    ap (λ l. numbers_less l (frames_taken (reduced log))) (reduced_sent log) ∙ ap (numbers_less (frames_sent log)) (reduced_taken log)

-- what a node does by the reduced log is what it does in the carried one
acted_of_reduced : (p : SettingsValue) (log : List Record) (name : List ℕ) (acted : Acted)
    → AreActed log (acted_records p (sent_count (reduced log)) name acted)
acted_of_reduced p log name acted =
    subst (λ n. AreActed log (acted_records p n name acted)) (sym (ap length (reduced_sent log))) (acted_is p log name acted)

-- ---- records that are none of the carrier's and begin no group

none-taken : (item : Record) → begins_group false item ≡ false → taken_number item ≡ None
unfolding begins_group taken_number
none-taken (Taken number) alone = absurd (false≢true (sym alone))
none-taken item alone = refl

none-begun : (item : Record) → begins_group false item ≡ false → step_of item ≡ None
unfolding begins_group
none-begun (StepRecord index step) alone = absurd (false≢true (sym alone))
none-begun item alone = refl

none-made : (item : Record) → is_added item ≡ false → made_packet item ≡ None
unfolding is_added made_packet
none-made (Packet number frame ack) plain = absurd (false≢true (sym plain))
none-made item plain = refl

none-ended : (item : Record) → is_added item ≡ false → ended_number item ≡ None
unfolding is_added ended_number
none-ended (Arrived packet) plain = absurd (false≢true (sym plain))
none-ended (Lost packet) plain = absurd (false≢true (sym plain))
none-ended item plain = refl

plain-acted : (log items : List Record) → All (λ item. is_added item ≡ false) items → All (λ item. begins_group false item ≡ false) items
    → frames_sent items ≡ range_with_len (sent_count (reduced log)) (sent_count items) → AreActed log items
plain-acted log items plain alone sends = record {
  sends = sends ∙ ap (λ l. range_with_len (length l) (sent_count items)) (reduced_sent log);
  begins = none_of step_of items (λ k d within. none-begun _ (alone k d within));
  takes = none_of taken_number items (λ k d within. none-taken _ (alone k d within));
  makes = none_of made_packet items (λ k d within. none-made _ (plain k d within));
  ends = none_of ended_number items (λ k d within. none-ended _ (plain k d within));
}

pub acts_fit_holds : ActsFit
acts_fit_holds = record {
  sent = reduced_sent;
  taken = reduced_taken;
  waiting = reduced_outstanding;
  acted = acted_of_reduced;
  plain = plain-acted;
}
