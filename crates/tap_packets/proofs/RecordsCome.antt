-- Which single records may come, and lists of them.
-- Cited above: first-none, line-of-arrived, line-of-packet, line-of-taken, next-lost, next-packet, next-step, next-ticked, taken-of-arrived,
-- taken-of-packet, taken-of-taken
use Rattle.std.proofs.Common.{◌≡◌, ℕ, ◌+◌, true, List, [], ◌∷◌, ◌++◌, length, map, Option, None, Some, refl, ap, sym, ◌∙◌, arith, subst, length-append, append-nil, append_assoc}
use Rattle.std.specs.List.{cons_option}
use Rattle.std.specs.Option.{IfSome}
use Rattle.std.proofs.lemmas.Bool.{false≢true}
use Rattle.std.proofs.lemmas.List.Elements.{filter_map-append}
use Rattle.tap_scenario.specs.declared.step.Step.{Step}
use Rattle.tap_log.specs.declared.record.Record.{Record}
use Rattle.tap_log.specs.declared.record.Record.TheVariants.{Step as StepRecord, Taken, Arrived, Ticked, Lost}
use Rattle.tap_log.specs.Kinds.{sent_number, taken_number, arrived_number, ended_number, packet_number}
use Rattle.tap_log.specs.Counts.{sent_count, packet_count}
use Rattle.tap_log.specs.Log.{EachFrom}
use Rattle.tap_log.specs.MoreRecords.{at_most_one}
use Rattle.tap_log.proofs.MoreRecords.{filter_map-same, packet_count-append}
use Rattle.tap_history.specs.Moments.{has_number, under_way}
use Rattle.tap_packets.specs.Groups.{data_line, data_lines}
use Rattle.tap_packets.specs.MayCome.{HasJustArrived, MayBeMade, MayCome}
use Rattle.tap_packets.specs.Packets.{frames_sent, frames_taken, PacketLine, made_packet, packet_record, packet_lines, packets_ended}
use Rattle.tap_packets.proofs.KeptForms.{count_is}
use Rattle.tap_packets.proofs.MoreUnderWay.{packets_arrived}
use Rattle.tap_packets.proofs.NumbersInRows.{AreFrom, AreBelow}

-- ---- what single records tell

pub next-step : (log : List Record) (index : ℕ) (step : Step) → MayCome log (StepRecord index step)
unfolding sent_number taken_number made_packet ended_number
next-step log index step = record { sends = tt; takes = tt; makes = tt; ends = tt }

pub next-ticked : (log : List Record) → MayCome log Ticked
unfolding sent_number taken_number made_packet ended_number
next-ticked log = record { sends = tt; takes = tt; makes = tt; ends = tt }

pub next-packet : (log : List Record) (line : PacketLine) → MayBeMade log line → MayCome log (packet_record line)
unfolding sent_number taken_number made_packet ended_number
next-packet log line made = record { sends = tt; takes = tt; makes = made; ends = tt }

pub next-arrived : (log : List Record) (number : ℕ) → has_number (under_way log) number ≡ true → MayCome log (Arrived number)
unfolding sent_number taken_number made_packet ended_number
next-arrived log number is = record { sends = tt; takes = tt; makes = tt; ends = is }

pub next-lost : (log : List Record) (number : ℕ) → has_number (under_way log) number ≡ true → MayCome log (Lost number)
unfolding sent_number taken_number made_packet ended_number
next-lost log number is = record { sends = tt; takes = tt; makes = tt; ends = is }

pub next-taken : (log : List Record) (frame : ℕ) → HasJustArrived log frame → MayCome log (Taken frame)
unfolding sent_number taken_number made_packet ended_number
next-taken log frame due = record { sends = tt; takes = due; makes = tt; ends = tt }

-- what single records tell

pub sent-of-packet : (line : PacketLine) → sent_number (packet_record line) ≡ None
unfolding sent_number
sent-of-packet line = refl

count-of-packet : (line : PacketLine) → packet_count (packet_record line ∷ []) ≡ 1
unfolding packet_number
count-of-packet line = refl

pub line-of-packet : (line : PacketLine) → made_packet (packet_record line) ≡ Some line
unfolding made_packet
line-of-packet line = refl

pub taken-of-packet : (line : PacketLine) → taken_number (packet_record line) ≡ None
unfolding taken_number
taken-of-packet line = refl

pub sent-of-step : (index : ℕ) (step : Step) → sent_number (StepRecord index step) ≡ None
unfolding sent_number
sent-of-step index step = refl

pub line-of-step : (index : ℕ) (step : Step) → made_packet (StepRecord index step) ≡ None
unfolding made_packet
line-of-step index step = refl

pub ended-of-step : (index : ℕ) (step : Step) → ended_number (StepRecord index step) ≡ None
unfolding ended_number
ended-of-step index step = refl

pub sent-of-ticked : sent_number Ticked ≡ None
unfolding sent_number
sent-of-ticked = refl

pub line-of-ticked : made_packet Ticked ≡ None
unfolding made_packet
line-of-ticked = refl

pub sent-of-arrived : (n : ℕ) → sent_number (Arrived n) ≡ None
unfolding sent_number
sent-of-arrived n = refl

pub line-of-arrived : (n : ℕ) → made_packet (Arrived n) ≡ None
unfolding made_packet
line-of-arrived n = refl

pub taken-of-arrived : (n : ℕ) → taken_number (Arrived n) ≡ None
unfolding taken_number
taken-of-arrived n = refl

pub sent-of-taken : (n : ℕ) → sent_number (Taken n) ≡ None
unfolding sent_number
sent-of-taken n = refl

pub line-of-taken : (n : ℕ) → made_packet (Taken n) ≡ None
unfolding made_packet
line-of-taken n = refl

pub taken-of-taken : (n : ℕ) → taken_number (Taken n) ≡ Some n
unfolding taken_number
taken-of-taken n = refl

-- ---- lists of records

pub follow-append : (log xs ys : List Record) → EachFrom MayCome log xs → EachFrom MayCome (log ++ xs) ys → EachFrom MayCome log (xs ++ ys)
follow-append log [] ys one two = subst (λ l. EachFrom MayCome l ys) (append-nil log) two
follow-append log (x ∷ xs) ys one two =
    (one.0, follow-append (log ++ x ∷ []) xs ys one.1 (subst (λ l. EachFrom MayCome l ys) (sym (append_assoc log (x ∷ []) xs)) two))

first-from : (n : ℕ) (o : Option ℕ) (rest : List ℕ) → AreFrom n (cons_option o rest)
    → IfSome o (λ k. k ≡ n) × AreFrom (n + length (at_most_one o)) rest
first-from n None rest from = (tt, subst (λ k. AreFrom k rest) (let e : n ≡ n + 0 = omega arith in e) from)
first-from n (Some k) rest from = from

pub first-none : {Y : Type 0} (o : Option Y) (rest : List Y) → cons_option o rest ≡ [] → (o ≡ None) × (rest ≡ [])
first-none None rest is = (refl, is)
first-none (Some k) rest is = cc

nothing-some : {Y : Type 0} (P : Y → Type 0) (o : Option Y) → o ≡ None → IfSome o P
nothing-some P o is = subst (λ x. IfSome x P) (sym is) tt

-- what a node does may follow
pub acted-follows : (log items : List Record) → AreFrom (sent_count log) (frames_sent items) → frames_taken items ≡ []
    → packet_lines items ≡ [] → packets_ended items ≡ []
    → EachFrom MayCome log items
acted-follows log [] sends takes makes ends = tt
acted-follows log (item ∷ items) sends takes makes ends =
    let s = first-from (sent_count log) (sent_number item) (frames_sent items) sends in
    let t = first-none (taken_number item) (frames_taken items) takes in
    let m = first-none (made_packet item) (packet_lines items) makes in
    let e = first-none (ended_number item) (packets_ended items) ends in
    let size : sent_count log + length (at_most_one (sent_number item)) ≡ sent_count (log ++ item ∷ []) =
    sym (ap length (filter_map-append sent_number log (item ∷ [])) ∙ length-append (frames_sent log) (at_most_one (sent_number item))) in (
      record {
        sends = s.0;
        takes = nothing-some (HasJustArrived log) (taken_number item) t.0;
        makes = nothing-some (MayBeMade log) (made_packet item) m.0;
        ends = nothing-some (λ number. has_number (under_way log) number ≡ true) (ended_number item) e.0;
      },
      acted-follows (log ++ item ∷ []) items (subst (λ n. AreFrom n (frames_sent items)) size s.1) t.1 m.1 e.1,
    )

-- data packets of frames that were sent may follow
pub data-follow : (log : List Record) (number : ℕ) (frames : List ℕ) → number ≡ packet_count log → AreBelow (sent_count log) frames
    → EachFrom MayCome log (map packet_record (data_lines number frames))
data-follow log number [] is below = tt
data-follow log number (frame ∷ frames) is below =
    let line : PacketLine = data_line number frame in
    let next = log ++ packet_record line ∷ [] in
    let made : MayBeMade log line = record { number = is; frame = below.0; taken = λ h. absurd (false≢true h) } in
    let count : packet_count next ≡ packet_count log + 1 =
    packet_count-append log (packet_record line ∷ []) ∙ ap (λ k. packet_count log + k) (count-of-packet line) in
    let size : frames_sent next ≡ frames_sent log = filter_map-same sent_number log (packet_record line) (sent-of-packet line) in (
      next-packet log line made,
      data-follow next (number + 1) frames (omega arith)
          (subst (λ l. AreBelow (length l) frames) (sym size) below.1),
    )

-- ---- what groups tell

pub lines-of-packets : (lines : List PacketLine) → packet_lines (map packet_record lines) ≡ lines
unfolding made_packet
lines-of-packets [] = refl
lines-of-packets (line ∷ lines) = ap (λ l. line ∷ l) (lines-of-packets lines)

pub count-of-packets : (lines : List PacketLine) → packet_count (map packet_record lines) ≡ length lines
count-of-packets lines = count_is (map packet_record lines) ∙ ap length (lines-of-packets lines)

pub sent-of-packets : (lines : List PacketLine) → frames_sent (map packet_record lines) ≡ []
unfolding sent_number
sent-of-packets [] = refl
sent-of-packets (line ∷ lines) = sent-of-packets lines

pub taken-of-packets : (lines : List PacketLine) → frames_taken (map packet_record lines) ≡ []
unfolding taken_number
taken-of-packets [] = refl
taken-of-packets (line ∷ lines) = taken-of-packets lines

pub ended-of-packets : (lines : List PacketLine) → packets_ended (map packet_record lines) ≡ []
unfolding ended_number
ended-of-packets [] = refl
ended-of-packets (line ∷ lines) = ended-of-packets lines

pub arrived-of-packets : (lines : List PacketLine) → packets_arrived (map packet_record lines) ≡ []
unfolding arrived_number
arrived-of-packets [] = refl
arrived-of-packets (line ∷ lines) = arrived-of-packets lines

pub data-size : (number : ℕ) (frames : List ℕ) → length (data_lines number frames) ≡ length frames
data-size number [] = refl
data-size number (frame ∷ frames) = let rest = data-size (number + 1) frames in omega (arith, rest)
