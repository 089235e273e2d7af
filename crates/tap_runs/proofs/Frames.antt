-- The frames under way, in a course, are those that its log has as outstanding.
-- Cited above: course_frames_holds, exchange, Exchanges, frames_kept, none_of, starting_moves, step_moves, taken_moves
use Rattle.std.proofs.Common.{◌≡◌, inl, inr, ℕ, zero, suc, ◌+◌, ◌<◌, ◌≤◌, Bool, true, false, not, nat_eq, eqb, List, [], ◌∷◌, ◌++◌, length, get_or, All, Option, None, Some, refl, ap, sym, subst, cond, ◌∙◌, arith, append-nil}
use Rattle.std.specs.Prelude.{◌||◌, if◌then◌else◌, slice_get}
use Rattle.std.specs.List.{cons_option, filter_map, range_with_len}
use Rattle.std.proofs.lemmas.Bool.{cases_Bool, eq-eqb, eqb-true, ne_eqb}
use Rattle.std.proofs.lemmas.List.Elements.{All-append, All-cons, All-head, All-nil, All-tail, filter_map-append}
use Rattle.std.proofs.lemmas.List.FromFn.{length-range_with_len}
use Rattle.tap_name.specs.Settings.{SettingsValue}
use Rattle.tap_scenario.specs.declared.step.Step.{Step}
use Rattle.tap_scenario.specs.declared.step.Step.TheVariants.{Publish, Withdraw, Find, Abandon, Cast}
use Rattle.tap_wire.specs.declared.frame.Frame.{Frame}
use Rattle.tap_wire.specs.Spelling.{spelling}
use Rattle.tap_log.specs.declared.record.Record.{Record}
use Rattle.tap_log.specs.declared.record.Record.TheVariants.{Step as StepRecord, Taken, Sent, Closed, Reached}
use Rattle.tap_log.specs.Kinds.{asked_ticket, sent_number, taken_number}
use Rattle.tap_log.specs.Counts.{sent_count, ticket_count}
use Rattle.tap_log.specs.Frames.{bytes_of, sent_bytes}
use Rattle.tap_log.specs.MoreRecords.{first_of_both}
use Rattle.tap_log.proofs.MoreRecords.{bytes_of-append, sent_count-append}
use Rattle.tap_history.specs.GroupLaws.{IsNumbered, NumbersOn}
use Rattle.tap_history.specs.Groups.{is_ended}
use Rattle.tap_history.specs.Refusals.{first_refusal}
use Rattle.tap_history.specs.Moments.{has_number, numbers_less, outstanding}
use Rattle.tap_history.proofs.Numbering.{numbered-group, outstanding-group}
use Rattle.tap_rule.specs.Node.{NodeState}
use Rattle.tap_rule.specs.Event.{Acted, News, Start}
use Rattle.tap_rule.specs.Event.Event.{Starts, Takes}
use Rattle.tap_rule.specs.Event.News.{Nothing, Core as CoreNews, Gone as GoneNews, Answered as AnsweredNews, Cast as CastNews}
use Rattle.tap_rule.specs.Act.{act}
use Rattle.tap_safety.specs.Move.Move.{Begins, Delivers}
use Rattle.tap_safety.specs.Moved.{moved, numbered_frame, starter, without_frame}
use Rattle.tap_safety.specs.Exchanges.{AreNumbered, Ascend, numbered_from}
use Rattle.tap_safety.specs.System.{System}
use Rattle.tap_safety.proofs.Moved.{ascend_below, delivers, lost, numbers_sent, numbers_taken, starts}
use Rattle.tap_safety.specs.AtRest.{system_at_rest}
use Rattle.tap_runs.specs.Beginning.{Beginning, begin_record}
use Rattle.tap_runs.specs.Starts.{announced, next_ticket}
use Rattle.tap_runs.specs.Acts.{acted_records, if_so, news_after, news_before, sent_records}
use Rattle.tap_runs.specs.Group.{received_records, records_of_act, start_at}
use Rattle.tap_runs.specs.Course.{Follows, IsCourse, MayFollow, move_of_group, move_of_start, moved_by, system_of}
use Rattle.tap_runs.specs.CourseLaws.{CourseFrames, FramesAgree, HasBytes, frame_numbers}
use Rattle.tap_runs.proofs.Within.{IsIdle, IsQuiet, IsStarting, step_kind}
use Rattle.tap_runs.proofs.CourseGrows.{by_groups, grown_system, start_system}

-- ---- numbers

-- numbers of a range are below its end
above_range : (a count number : ℕ) → a + count ≤ number → has_number (range_with_len a count) number ≡ false
above_range a zero number above = refl
above_range a (suc count) number above =
    ap (λ b. b || has_number (range_with_len (a + 1) count) number) (ne_eqb a number (λ is. absurd (omega (arith, is, above))))
    ∙ above_range (a + 1) count number (omega (arith, above))

numbers_append : (fs gs : List (ℕ × Frame)) → frame_numbers (fs ++ gs) ≡ frame_numbers fs ++ frame_numbers gs
numbers_append [] gs = refl
numbers_append (f ∷ fs) gs = ap (λ l. f.0 ∷ l) (numbers_append fs gs)

numbers_from : (number : ℕ) (frames : List Frame) → frame_numbers (numbered_from number frames) ≡ range_with_len number (length frames)
numbers_from number [] = refl
numbers_from number (frame ∷ frames) = ap (λ l. number ∷ l) (numbers_from (number + 1) frames)

from_above : (number : ℕ) (frames : List Frame) → All (λ f. number ≤ f.0) (numbered_from number frames)
from_above number [] = All-nil (λ f. number ≤ f.0)
from_above number (frame ∷ frames) =
    All-cons (λ f. number ≤ f.0) (number, frame) (numbered_from (number + 1) frames) (omega arith)
    (λ k d within. let later = from_above (number + 1) frames k d within in omega (arith, later))

-- frames that ascend from above a number don't have it
none_left : (number low : ℕ) (fs : List (ℕ × Frame)) (high : ℕ) → number < low → Ascend low fs high
    → numbers_less (frame_numbers fs) (number ∷ []) ≡ frame_numbers fs
none_left number low [] high above ascend = refl
none_left number low (f ∷ fs) high above (least, later) =
    let rest = numbers_less (frame_numbers fs) (number ∷ []) in
    ap (λ b. cond {A = List ℕ} (not (b || false)) (f.0 ∷ rest) rest)
    (ne_eqb number f.0 (λ is. absurd (omega (arith, is, above, least))))
    ∙ ap (λ l. f.0 ∷ l) (none_left number (f.0 + 1) fs high (omega (arith, above, least)) later)

-- without the frame of a number the others keep theirs
numbers_without : (number low : ℕ) (fs : List (ℕ × Frame)) (high : ℕ) → Ascend low fs high
    → frame_numbers (without_frame number fs) ≡ numbers_less (frame_numbers fs) (number ∷ [])
unfolding without_frame
numbers_without number low [] high ascend = refl
numbers_without number low (f ∷ fs) high (least, later) =
    let rest = numbers_less (frame_numbers fs) (number ∷ []) in
    elim (cases_Bool (eqb f.0 number)) [
      | inl here ↦
          let same = eqb-true f.0 number here in
          ap (λ b. frame_numbers (if b then fs else f ∷ without_frame number fs)) here
          ∙ sym (none_left number (f.0 + 1) fs high (omega (arith, same)) later)
          ∙ sym (ap (λ b. cond {A = List ℕ} (not (b || false)) (f.0 ∷ rest) rest) (eq-eqb number f.0 (sym same)))
      | inr apart ↦
          ap (λ b. frame_numbers (if b then fs else f ∷ without_frame number fs)) apart
          ∙ ap (λ l. f.0 ∷ l) (numbers_without number (f.0 + 1) fs high later)
          ∙ sym (ap (λ b. cond {A = List ℕ} (not (b || false)) (f.0 ∷ rest) rest)
          (ne_eqb number f.0 (λ same. let here = eq-eqb f.0 number (sym same) in absurd (cc))))
    ]

-- ---- what the records of a step tell of frames

pub none_of : {Y : Type 0} (h : Record → Option Y) (items : List Record) → All (λ item. h item ≡ None) items → filter_map h items ≡ []
none_of h [] none = refl
none_of h (item ∷ items) none =
    ap (λ one. cons_option one (filter_map h items)) (All-head (λ i. h i ≡ None) item items none)
    ∙ none_of h items (All-tail (λ i. h i ≡ None) item items none)

-- these records send nothing, take nothing and ask for nothing
pub record AreSilent (items : List Record) : Type 0 where
  pub sent : filter_map sent_number items ≡ []
  pub taken : filter_map taken_number items ≡ []
  pub asked : filter_map asked_ticket items ≡ []

quiet_silent : (items : List Record) → All IsQuiet items → AreSilent items
quiet_silent items quiet = record {
  sent = none_of sent_number items (λ k d within. (quiet k d within).sent);
  taken = none_of taken_number items (λ k d within. (quiet k d within).taken);
  asked = none_of asked_ticket items (λ k d within. (quiet k d within).asked);
}

silent_so : (there : Bool) (item : Record) → AreSilent (item ∷ []) → AreSilent (if_so there item)
silent_so true item silent = silent
silent_so false item silent = record { sent = refl; taken = refl; asked = refl }

silent_before : (name : List ℕ) (news : News) → AreSilent (news_before name news)
unfolding news_before sent_number taken_number asked_ticket
silent_before name Nothing = record { sent = refl; taken = refl; asked = refl }
silent_before name CoreNews = record { sent = refl; taken = refl; asked = refl }
silent_before name GoneNews = record { sent = refl; taken = refl; asked = refl }
silent_before name (AnsweredNews ticket server) = record { sent = refl; taken = refl; asked = refl }
silent_before name (CastNews cast reached closed) =
    silent_so reached (Reached cast name) (record { sent = refl; taken = refl; asked = refl })

silent_after : (news : News) → AreSilent (news_after news)
unfolding news_after sent_number taken_number asked_ticket
silent_after Nothing = record { sent = refl; taken = refl; asked = refl }
silent_after CoreNews = record { sent = refl; taken = refl; asked = refl }
silent_after GoneNews = record { sent = refl; taken = refl; asked = refl }
silent_after (AnsweredNews ticket server) = record { sent = refl; taken = refl; asked = refl }
silent_after (CastNews cast reached closed) = silent_so closed (Closed cast) (record { sent = refl; taken = refl; asked = refl })

-- These records send these frames, numbered from this number on, and take nothing and ask for nothing.
pub record AreSending (p : SettingsValue) (number : ℕ) (frames : List Frame) (items : List Record) : Type 0 where
  pub sent : filter_map sent_number items ≡ range_with_len number (length frames)
  pub bytes : All (HasBytes p items) (numbered_from number frames)
  pub taken : filter_map taken_number items ≡ []
  pub asked : filter_map asked_ticket items ≡ []

neither : (a b : Bool) → (a || b) ≡ false → (a ≡ false) × (b ≡ false)
neither true b is = absurd (cc)
neither false b is = (refl, is)

not_sent : (number : ℕ) (items : List Record) → has_number (filter_map sent_number items) number ≡ false
    → filter_map (sent_bytes number) items ≡ []
unfolding sent_number sent_bytes
not_sent number [] none = refl
not_sent number (Sent sent bytes ∷ items) none =
    let both = neither (nat_eq sent number) (has_number (filter_map sent_number items) number) none in
    ap (λ b. cons_option (if b then Some bytes else None) (filter_map (sent_bytes number) items)) both.0
    ∙ not_sent number items both.1
not_sent number (item ∷ items) none = not_sent number items none

-- a number that isn't among those sent has no bytes
no_bytes : (items : List Record) (number : ℕ) → has_number (filter_map sent_number items) number ≡ false → bytes_of items number ≡ None
no_bytes items number none = ap (λ l. slice_get l 0) (not_sent number items none)

silent_bytes : (items : List Record) (number : ℕ) → filter_map sent_number items ≡ [] → bytes_of items number ≡ None
silent_bytes items number none = no_bytes items number (ap (λ l. has_number l number) none)

-- more records, of which the first ones send nothing
sending_later : (p : SettingsValue) (number : ℕ) (frames : List Frame) (items more : List Record) → AreSilent items
    → AreSending p number frames more → AreSending p number frames (items ++ more)
sending_later p number frames items more silent sending = record {
  sent = filter_map-append sent_number items more ∙ ap (λ l. l ++ filter_map sent_number more) silent.sent ∙ sending.sent;
  taken = filter_map-append taken_number items more ∙ ap (λ l. l ++ filter_map taken_number more) silent.taken ∙ sending.taken;
  asked = filter_map-append asked_ticket items more ∙ ap (λ l. l ++ filter_map asked_ticket more) silent.asked ∙ sending.asked;
  bytes = λ k d within.
      let f = get_or (numbered_from number frames) k d in
      bytes_of-append items more f.0 ∙ ap (λ b. first_of_both b (bytes_of more f.0)) (silent_bytes items f.0 silent.sent)
      ∙ sending.bytes k d within;
}

sending_frames : (p : SettingsValue) (number : ℕ) (frames : List Frame) (more : List Record) → AreSilent more
    → AreSending p number frames (sent_records p number frames ++ more)
unfolding sent_number taken_number asked_ticket sent_bytes
sending_frames p number [] more silent = record {
  sent = silent.sent;
  taken = silent.taken;
  asked = silent.asked;
  bytes = All-nil (HasBytes p more);
}
sending_frames p number (frame ∷ frames) more silent =
    let later = sending_frames p (number + 1) frames more silent in
    let rest = sent_records p (number + 1) frames ++ more in
    let bytes = spelling p frame in
    record {
      sent = ap (λ l. number ∷ l) later.sent;
      taken = later.taken;
      asked = later.asked;
      bytes = All-cons (HasBytes p (Sent number bytes ∷ rest)) (number, frame) (numbered_from (number + 1) frames)
          (ap (λ b. slice_get (cons_option (if b then Some bytes else None) (filter_map (sent_bytes number) rest)) 0)
          (eq-eqb number number refl))
          (λ k d within.
          let f = get_or (numbered_from (number + 1) frames) k d in
          let above = from_above (number + 1) frames k d within in
          ap (λ b. slice_get (cons_option (if b then Some bytes else None) (filter_map (sent_bytes f.0) rest)) 0)
          (ne_eqb number f.0 (λ is. absurd (omega (arith, is, above))))
          ∙ later.bytes k d within);
    }

acted_sending : (p : SettingsValue) (number : ℕ) (name : List ℕ) (acted : Acted)
    → AreSending p number acted.sent (acted_records p number name acted)
acted_sending p number name acted =
    sending_later p number acted.sent (news_before name acted.news) (sent_records p number acted.sent ++ news_after acted.news)
    (silent_before name acted.news) (sending_frames p number acted.sent (news_after acted.news) (silent_after acted.news))

-- ---- what a group does with frames

-- Some frames are taken and the others stay; these are sent, and are under way after all others.
pub record Exchanges (p : SettingsValue) (log group : List Record) (s s' : System) : Type 0 where
  pub sent : List Frame
  pub kept : List (ℕ × Frame)
  pub sending : filter_map sent_number group ≡ range_with_len s.next (length sent)
  pub bytes : All (HasBytes p group) (numbered_from s.next sent)
  pub below : All (λ number. number < s.next) (filter_map taken_number group)
  pub asked : filter_map asked_ticket group ≡ range_with_len (1 + ticket_count log) (ticket_count group)
  pub left : frame_numbers kept ≡ numbers_less (frame_numbers s.frames) (filter_map taken_number group)
  pub still : All (HasBytes p log) s.frames → All (HasBytes p log) kept
  pub frames : s'.frames ≡ kept ++ numbered_from s.next sent
  pub next : s'.next ≡ s.next + length sent
  pub numbered : AreNumbered s → AreNumbered s'

numbers_all : (numbers : List ℕ) → numbers_less numbers [] ≡ numbers
numbers_all [] = refl
numbers_all (number ∷ numbers) = ap (λ l. number ∷ l) (numbers_all numbers)

-- no lookup is asked
none_asked : (log group : List Record) → filter_map asked_ticket group ≡ []
    → filter_map asked_ticket group ≡ range_with_len (1 + ticket_count log) (ticket_count group)
none_asked log group none = none ∙ ap (λ l. range_with_len (1 + ticket_count log) (length l)) (sym none)

-- nothing is sent and nothing taken, and the system stays
silent_exchange : (p : SettingsValue) (log group : List Record) (s : System)
    → filter_map asked_ticket group ≡ range_with_len (1 + ticket_count log) (ticket_count group)
    → filter_map sent_number group ≡ [] → filter_map taken_number group ≡ [] → Exchanges p log group s s
silent_exchange p log group s asked sent taken = record {
  sent = [];
  kept = s.frames;
  sending = sent;
  bytes = All-nil (HasBytes p group);
  below = subst (All (λ number. number < s.next)) (sym taken) (All-nil (λ number. number < s.next));
  asked = asked;
  left = sym (numbers_all (frame_numbers s.frames)) ∙ ap (numbers_less (frame_numbers s.frames)) (sym taken);
  still = λ all. all;
  frames = sym (append-nil s.frames);
  next = omega arith;
  numbered = λ are. are;
}

-- ---- a start

-- what is said of a start first sends and takes nothing, and asks for the next ticket if it asks for one
pub record IsAnnounced (log items : List Record) : Type 0 where
  pub sent : filter_map sent_number items ≡ []
  pub taken : filter_map taken_number items ≡ []
  pub asked : filter_map asked_ticket items ≡ range_with_len (1 + ticket_count log) (length (filter_map asked_ticket items))

announced_is : (log : List Record) (step : Step) → IsAnnounced log (announced log step)
unfolding announced sent_number taken_number asked_ticket
announced_is log (Publish object server) = record { sent = refl; taken = refl; asked = refl }
announced_is log (Withdraw object server) = record { sent = refl; taken = refl; asked = refl }
announced_is log (Find object asker) =
    record { sent = refl; taken = refl; asked = ap (λ n. n ∷ []) (let e : next_ticket log ≡ 1 + ticket_count log = omega arith in e) }
announced_is log (Abandon name) = record { sent = refl; taken = refl; asked = refl }
announced_is log (Cast word prefix asker) = record { sent = refl; taken = refl; asked = refl }
announced_is log step = record { sent = refl; taken = refl; asked = refl }

-- the first record, what is said, and what is done, if each of the first two sends nothing
module _ (log : List Record) (index : ℕ) (step : Step) (done : List Record) where
  abbrev whole : List Record
  whole = StepRecord index step ∷ (announced log step ++ done)

  told : {Y : Type 0} (h : Record → Option Y) → h (StepRecord index step) ≡ None → filter_map h (announced log step) ≡ []
      → filter_map h whole ≡ filter_map h done
  told h first none =
      ap (λ one. cons_option one (filter_map h (announced log step ++ done))) first
      ∙ filter_map-append h (announced log step) done ∙ ap (λ l. l ++ filter_map h done) none

  sent_told : filter_map sent_number whole ≡ filter_map sent_number done
  unfolding sent_number
  sent_told = told sent_number refl (announced_is log step).sent

  taken_told : filter_map taken_number whole ≡ filter_map taken_number done
  unfolding taken_number
  taken_told = told taken_number refl (announced_is log step).taken

  asked_told : filter_map asked_ticket done ≡ []
      → filter_map asked_ticket whole ≡ range_with_len (1 + ticket_count log) (ticket_count whole)
  unfolding asked_ticket
  asked_told none =
      let said = announced_is log step in
      let all : filter_map asked_ticket whole ≡ filter_map asked_ticket (announced log step) =
      filter_map-append asked_ticket (announced log step) done ∙ ap (λ l. filter_map asked_ticket (announced log step) ++ l) none
      ∙ append-nil (filter_map asked_ticket (announced log step)) in
      all ∙ said.asked ∙ ap (λ l. range_with_len (1 + ticket_count log) (length l)) (sym all)

  bytes_told : (number : ℕ) → bytes_of whole number ≡ bytes_of done number
  unfolding sent_number
  bytes_told number =
      let said = announced_is log step in
      bytes_of-append (StepRecord index step ∷ []) (announced log step ++ done) number
      ∙ ap (λ b. first_of_both b (bytes_of (announced log step ++ done) number)) (silent_bytes (StepRecord index step ∷ []) number refl)
      ∙ bytes_of-append (announced log step) done number
      ∙ ap (λ b. first_of_both b (bytes_of done number)) (silent_bytes (announced log step) number said.sent)

module _ (p : SettingsValue) (log : List Record) (s : System) (index : ℕ) (step : Step) (name : List ℕ) (start : Start)
    (next : s.next ≡ sent_count log) where
  start_stays : starter p s name start ≡ None → moved p s (Begins name start) ≡ s
  unfolding moved
  start_stays is = rw is refl

  start_exchange : (node : Option NodeState) → starter p s name start ≡ node
      → Exchanges p log (StepRecord index step ∷ (announced log step ++ records_of_act p log name node (Starts start))) s
      (moved p s (Begins name start))
  start_exchange None is =
      subst (Exchanges p log (StepRecord index step ∷ (announced log step ++ [])) s) (sym (start_stays is))
      (silent_exchange p log _ s (asked_told log index step [] refl) (sent_told log index step []) (taken_told log index step []))
  start_exchange (Some node) is =
      let acted = act node (Starts start) in
      let did = starts p s name start node is in
      let done = acted_records p (sent_count log) name acted in
      let does = acted_sending p (sent_count log) name acted in
      let taken = taken_told log index step done ∙ does.taken in
      record {
        sent = acted.sent;
        kept = s.frames;
        sending = sent_told log index step done ∙ does.sent ∙ ap (λ n. range_with_len n (length acted.sent)) (sym next);
        bytes = subst (λ n. All (HasBytes p (StepRecord index step ∷ (announced log step ++ done))) (numbered_from n acted.sent)) (sym next)
            (λ k d within.
            bytes_told log index step done (get_or (numbered_from (sent_count log) acted.sent) k d).0 ∙ does.bytes k d within);
        below = subst (All (λ number. number < s.next)) (sym taken) (All-nil (λ number. number < s.next));
        asked = asked_told log index step done does.asked;
        left = sym (numbers_all (frame_numbers s.frames)) ∙ ap (numbers_less (frame_numbers s.frames)) (sym taken);
        still = λ all. all;
        frames = did.sent.after;
        next = did.sent.next;
        numbered = λ are. numbers_sent s (moved p s (Begins name start)) acted.sent did.sent are;
      }

-- ---- a frame that is taken

-- a frame that is found is below the end of those that ascend
found_below : (number : ℕ) (frame : Frame) (low : ℕ) (fs : List (ℕ × Frame)) (high : ℕ) → Ascend low fs high
    → numbered_frame number fs ≡ Some frame → number < high
unfolding numbered_frame
found_below number frame low [] high ascend is = absurd (cc)
found_below number frame low (f ∷ fs) high (least, later) is =
    elim (cases_Bool (eqb f.0 number)) [
      | inl here ↦
          let same = eqb-true f.0 number here in
          let end = ascend_below (f.0 + 1) fs high later in omega (arith, same, end)
      | inr apart ↦
          let found : numbered_frame number fs ≡ Some frame = rw apart at is in
          found_below number frame (f.0 + 1) fs high later found
    ]

-- a frame that isn't found has none of these numbers
not_found : (number : ℕ) (fs : List (ℕ × Frame)) → numbered_frame number fs ≡ None → has_number (frame_numbers fs) number ≡ false
unfolding numbered_frame
not_found number [] none = refl
not_found number (f ∷ fs) none =
    elim (cases_Bool (eqb f.0 number)) [
      | inl here ↦ let found : Some f.1 ≡ None = rw here at none in absurd (cc)
      | inr apart ↦
          let later : numbered_frame number fs ≡ None = rw apart at none in
          ap (λ b. b || has_number (frame_numbers fs) number) apart ∙ not_found number fs later
    ]

-- what holds of each frame holds of each that is left
left_of : (P : ℕ × Frame → Type 0) (number : ℕ) (fs : List (ℕ × Frame)) → All P fs → All P (without_frame number fs)
unfolding without_frame
left_of P number [] all = all
left_of P number (f ∷ fs) all =
    let rest = left_of P number fs (All-tail P f fs all) in
    elim (cases_Bool (eqb f.0 number)) [
      | inl here ↦ rw here (All-tail P f fs all)
      | inr apart ↦ rw apart (All-cons P f (without_frame number fs) (All-head P f fs all) rest)
    ]

module _ (p : SettingsValue) (log : List Record) (s : System) (number : ℕ) (next : s.next ≡ sent_count log) (numbered : AreNumbered s) where
  module _ (frame : Frame) (node : NodeState) (is : numbered_frame number s.frames ≡ Some frame) (at : s.node frame.to ≡ Some node) where
    abbrev acted : Acted
    acted = act node (Takes frame)

    abbrev done : List Record
    done = acted_records p (sent_count log) frame.to acted

    taking_sends : AreSending p (sent_count log) acted.sent done
    taking_sends = acted_sending p (sent_count log) frame.to acted

    takes_one : filter_map taken_number (Taken number ∷ done) ≡ number ∷ []
    unfolding taken_number
    takes_one = ap (λ l. number ∷ l) taking_sends.taken

    sends_all : filter_map sent_number (Taken number ∷ done) ≡ filter_map sent_number done
    unfolding sent_number
    sends_all = refl

    asks_none : filter_map asked_ticket (Taken number ∷ done) ≡ filter_map asked_ticket done
    unfolding asked_ticket
    asks_none = refl

    bytes_done : (m : ℕ) → bytes_of (Taken number ∷ done) m ≡ bytes_of done m
    unfolding sent_bytes
    bytes_done m = refl

    frames_after : (moved p s (Delivers number)).frames ≡ without_frame number s.frames ++ numbered_from s.next acted.sent
    unfolding moved
    frames_after = rw (is, at) refl

    take_exchange : Exchanges p log (Taken number ∷ done) s (moved p s (Delivers number))
    take_exchange =
        let did = delivers p s number frame node is at in
        record {
          sent = acted.sent;
          kept = without_frame number s.frames;
          sending = sends_all ∙ taking_sends.sent ∙ ap (λ n. range_with_len n (length acted.sent)) (sym next);
          bytes = subst (λ n. All (HasBytes p (Taken number ∷ done)) (numbered_from n acted.sent)) (sym next)
              (λ k d within. bytes_done (get_or (numbered_from (sent_count log) acted.sent) k d).0 ∙ taking_sends.bytes k d within);
          below = subst (All (λ n. n < s.next)) (sym takes_one)
              (All-cons (λ n. n < s.next) number [] (found_below number frame 0 s.frames s.next numbered.numbers is)
              (All-nil (λ n. n < s.next)));
          asked = none_asked log (Taken number ∷ done) (asks_none ∙ taking_sends.asked);
          left = numbers_without number 0 s.frames s.next numbered.numbers ∙ ap (numbers_less (frame_numbers s.frames)) (sym takes_one);
          still = left_of (HasBytes p log) number s.frames;
          frames = frames_after;
          next = did.taken.next;
          numbered = numbers_taken s (moved p s (Delivers number)) number frame acted.sent did.taken;
        }

  -- the receiver is no node: the frame is taken, and nothing is sent
  module _ (frame : Frame) (is : numbered_frame number s.frames ≡ Some frame) (nobody : s.node frame.to ≡ None) where
    takes_alone : filter_map taken_number (Taken number ∷ []) ≡ number ∷ []
    unfolding taken_number
    takes_alone = refl

    sends_none : filter_map sent_number (Taken number ∷ []) ≡ []
    unfolding sent_number
    sends_none = refl

    asks_nothing : filter_map asked_ticket (Taken number ∷ []) ≡ []
    unfolding asked_ticket
    asks_nothing = refl

    frames_left : (moved p s (Delivers number)).frames ≡ without_frame number s.frames
    unfolding moved
    frames_left = rw (is, nobody) refl

    lost_exchange : Exchanges p log (Taken number ∷ []) s (moved p s (Delivers number))
    lost_exchange =
        let gone = lost p s number frame is nobody in
        record {
          sent = [];
          kept = without_frame number s.frames;
          sending = sends_none;
          bytes = All-nil (HasBytes p (Taken number ∷ []));
          below = subst (All (λ n. n < s.next)) (sym takes_alone)
              (All-cons (λ n. n < s.next) number [] (found_below number frame 0 s.frames s.next numbered.numbers is)
              (All-nil (λ n. n < s.next)));
          asked = none_asked log (Taken number ∷ []) asks_nothing;
          left = numbers_without number 0 s.frames s.next numbered.numbers ∙ ap (numbers_less (frame_numbers s.frames)) (sym takes_alone);
          still = left_of (HasBytes p log) number s.frames;
          frames = frames_left ∙ sym (append-nil (without_frame number s.frames));
          next = gone.taken.next;
          numbered = numbers_taken s (moved p s (Delivers number)) number frame [] gone.taken;
        }

  -- the frame is under way, and its receiver acts, if it is a node
  received_exchange : (frame : Option Frame) → numbered_frame number s.frames ≡ frame → has_number (frame_numbers s.frames) number ≡ true
      → Exchanges p log (Taken number ∷ received_records p log s frame) s (moved p s (Delivers number))
  received_exchange None is waits = let none = not_found number s.frames is in absurd (cc)
  received_exchange (Some frame) is waits = by_node (s.node frame.to) refl
    where
      by_node : (node : Option NodeState) → s.node frame.to ≡ node
          → Exchanges p log (Taken number ∷ records_of_act p log frame.to node (Takes frame)) s (moved p s (Delivers number))
      by_node None at = lost_exchange frame is at
      by_node (Some node) at = take_exchange frame node is at

-- ---- a group that may follow

pub step_moves : (log : List Record) (index : ℕ) (step : Step) (items : List Record)
    → move_of_group log (StepRecord index step ∷ items) ≡ move_of_start (first_refusal log step) (start_at log step)
unfolding move_of_group
step_moves log index step items = refl

pub taken_moves : (log : List Record) (number : ℕ) (items : List Record) → move_of_group log (Taken number ∷ items) ≡ Some (Delivers number)
unfolding move_of_group
taken_moves log number items = refl

pub starting_moves : (p : SettingsValue) (log : List Record) (s : System) (index : ℕ) (step : Step) (items : List Record)
    → (starting : IsStarting p log s step items)
    → move_of_group log (StepRecord index step ∷ items) ≡ Some (Begins starting.name starting.start)
starting_moves p log s index step items starting =
    step_moves log index step items ∙ ap (λ r. move_of_start r (start_at log step)) starting.accepted
    ∙ ap (move_of_start None) starting.at

module _ (p : SettingsValue) (log : List Record) (s : System) (agree : FramesAgree p log s) (numbered : AreNumbered s) where
  idle_exchange : (index : ℕ) (step : Step) (items : List Record) → IsIdle log step items
      → Exchanges p log (StepRecord index step ∷ items) s (moved_by p s (move_of_group log (StepRecord index step ∷ items)))
  unfolding sent_number taken_number asked_ticket
  idle_exchange index step items idle =
      let group = StepRecord index step ∷ items in
      let silent = quiet_silent items idle.quiet in
      subst (λ m. Exchanges p log group s (moved_by p s m)) (sym (step_moves log index step items ∙ idle.still))
      (silent_exchange p log group s (none_asked log group silent.asked) silent.sent silent.taken)

  starting_exchange : (index : ℕ) (step : Step) (items : List Record) → IsStarting p log s step items
      → Exchanges p log (StepRecord index step ∷ items) s (moved_by p s (move_of_group log (StepRecord index step ∷ items)))
  starting_exchange index step items starting =
      subst (λ m. Exchanges p log (StepRecord index step ∷ items) s (moved_by p s m))
      (sym (starting_moves p log s index step items starting))
      (subst (λ l. Exchanges p log (StepRecord index step ∷ l) s (moved p s (Begins starting.name starting.start))) (sym starting.are)
      (start_exchange p log s index step starting.name starting.start agree.next (starter p s starting.name starting.start) refl))

  pub exchange : (group : List Record) → MayFollow p log s group → Exchanges p log group s (moved_by p s (move_of_group log group))
  unfolding MayFollow
  exchange (StepRecord index step ∷ items) may =
      elim (step_kind p log s index step items may) [
        | inl idle ↦ idle_exchange index step items idle
        | inr starting ↦ starting_exchange index step items starting
      ]
  exchange (Taken number ∷ items) may =
      subst (λ m. Exchanges p log (Taken number ∷ items) s (moved_by p s m)) (sym (taken_moves log number items))
      (subst (λ l. Exchanges p log (Taken number ∷ l) s (moved p s (Delivers number))) (sym may.are)
      (received_exchange p log s number agree.next numbered (numbered_frame number s.frames) refl
      (ap (λ numbers. has_number numbers number) agree.numbers ∙ may.waits)))
  exchange group may = absurd may

-- ---- the frames of a course

-- the frames under way agree with the log, and both are numbered
pub record AreKept (p : SettingsValue) (log : List Record) (s : System) : Type 0 where
  pub agree : FramesAgree p log s
  pub log_is : IsNumbered log
  pub system_is : AreNumbered s

module _ (p : SettingsValue) (log group : List Record) (s s' : System) (kept : AreKept p log s) (does : Exchanges p log group s s') where
  group_count : sent_count group ≡ length does.sent
  group_count = ap length does.sending ∙ length-range_with_len s.next (length does.sent)

  numbers_on : NumbersOn log group
  numbers_on = record {
    sent = does.sending ∙ ap (λ n. range_with_len n (length does.sent)) kept.agree.next
        ∙ ap (range_with_len (sent_count log)) (sym group_count);
    taken = subst (λ n. All (λ number. number < n) (filter_map taken_number group)) kept.agree.next does.below;
    asked = does.asked;
  }

  numbers_after : frame_numbers s'.frames ≡ outstanding (log ++ group)
  numbers_after =
      let taken = filter_map taken_number group in
      ap frame_numbers does.frames ∙ numbers_append does.kept (numbered_from s.next does.sent)
      ∙ ap (λ l. l ++ frame_numbers (numbered_from s.next does.sent)) does.left
      ∙ ap (λ l. numbers_less l taken ++ frame_numbers (numbered_from s.next does.sent)) kept.agree.numbers
      ∙ ap (λ l. numbers_less (outstanding log) taken ++ l) (numbers_from s.next does.sent ∙ sym does.sending)
      ∙ sym (outstanding-group log group kept.log_is numbers_on)

  -- a frame keeps its bytes, and one that is sent has those of its record
  old_bytes : (f : ℕ × Frame) → HasBytes p log f → HasBytes p (log ++ group) f
  old_bytes f has = bytes_of-append log group f.0 ∙ ap (λ b. first_of_both b (bytes_of group f.0)) has

  new_bytes : (f : ℕ × Frame) → s.next ≤ f.0 → HasBytes p group f → HasBytes p (log ++ group) f
  new_bytes f above has =
      let size = kept.agree.next in
      let none : has_number (filter_map sent_number log) f.0 ≡ false =
      ap (λ l. has_number l f.0) kept.log_is.sent ∙ above_range 0 (sent_count log) f.0 (omega (arith, size, above)) in
      bytes_of-append log group f.0 ∙ ap (λ b. first_of_both b (bytes_of group f.0)) (no_bytes log f.0 none) ∙ has

  bytes_after : All (HasBytes p (log ++ group)) s'.frames
  bytes_after =
      let old = does.still kept.agree.bytes in
      subst (All (HasBytes p (log ++ group))) (sym does.frames)
      (All-append (HasBytes p (log ++ group)) does.kept (numbered_from s.next does.sent)
      (λ k d within. old_bytes (get_or does.kept k d) (old k d within))
      (λ k d within. new_bytes (get_or (numbered_from s.next does.sent) k d) (from_above s.next does.sent k d within)
      (does.bytes k d within)))

  kept_after : AreKept p (log ++ group) s'
  kept_after = record {
    agree = record {
      numbers = numbers_after;
      bytes = bytes_after;
      next =
          let was = kept.agree.next in
          let now = does.next in
          let counts = sent_count-append log group in
          let more = group_count in
          omega (arith, was, now, counts, more);
    };
    log_is = numbered-group log group kept.log_is numbers_on;
    system_is = does.numbered kept.system_is;
  }

module _ (b : Beginning) where
  frames_begin : AreKept b.settings (begin_record b ∷ []) (system_at_rest b.settings b.members)
  unfolding sent_number taken_number asked_ticket
  frames_begin = record {
    agree = record { numbers = refl; bytes = All-nil (HasBytes b.settings (begin_record b ∷ [])); next = refl };
    log_is = record { sent = refl; taken = All-nil (λ number. number < 0); asked = refl };
    system_is = record { numbers = omega arith };
  }

  frames_grow : (log group : List Record) → IsCourse b log → is_ended log ≡ false → Follows b log group
      → AreKept b.settings log (system_of log) → AreKept b.settings (log ++ group) (system_of (log ++ group))
  frames_grow log group course going follows kept =
      subst (AreKept b.settings (log ++ group)) (sym (grown_system b log group course going follows))
      (kept_after b.settings log group (system_of log) (moved_by b.settings (system_of log) (move_of_group log group)) kept
      (exchange b.settings log (system_of log) kept.agree kept.system_is group follows.may))

  pub frames_kept : (log : List Record) → IsCourse b log → is_ended log ≡ false → AreKept b.settings log (system_of log)
  frames_kept = by_groups b (λ log. AreKept b.settings log (system_of log)) frames_grow
      (subst (AreKept b.settings (begin_record b ∷ [])) (sym (start_system b)) frames_begin)

pub course_frames_holds : CourseFrames
course_frames_holds b log course going = (frames_kept b log course going).agree
