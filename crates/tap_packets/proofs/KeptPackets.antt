-- One more record that may follow keeps what a carried log keeps.
-- Cited above: is-under_way
use Rattle.std.proofs.Common.{◌≡◌, ℕ, ◌+◌, ◌<◌, ◌≤◌, Bool, true, false, not, nat_eq, List, [], ◌∷◌, ◌++◌, length, filter, Option, None, Some, refl, ap, sym, ◌∙◌, cond, arith, subst, inl, inr, length-append, append-nil, append_assoc}
use Rattle.std.specs.Prelude.{◌||◌}
use Rattle.std.specs.Option.{IfSome}
use Rattle.std.proofs.lemmas.Bool.{ne_eqb, eq-eqb, eqb-true, eqb-false, or_cases, or_left, or_right, or_parts, and_parts, not-true, false≢true}
use Rattle.std.proofs.lemmas.List.{map-append, length-map}
use Rattle.std.proofs.lemmas.List.Elements.{filter_map-append}
use Rattle.tap_log.specs.declared.record.Record.{Record}
use Rattle.tap_log.specs.Kinds.{sent_number, taken_number, ended_number}
use Rattle.tap_log.specs.Counts.{sent_count, packet_count}
use Rattle.tap_log.specs.Log.{EachFrom}
use Rattle.tap_log.specs.MoreRecords.{at_most_one}
use Rattle.tap_log.proofs.MoreRecords.{packet_count-append}
use Rattle.tap_history.specs.Moments.{has_number, numbers_less, outstanding, under_way}
use Rattle.tap_packets.specs.MayCome.{HasJustArrived, MayBeMade, MayCome}
use Rattle.tap_packets.specs.Packets.{frames_sent, frames_taken, PacketLine, made_packet, packet_lines, packets_ended, line_numbers, line_frames, lines_less, lines_under_way}
use Rattle.tap_packets.proofs.KeptForms.{count_is, numbers_same, AmongLines, AcknowledgeOnly, Keeps, GoesOn}
use Rattle.tap_packets.proofs.NumbersInRows.{AreFrom, AreBelow, AreDistinct, from-append, below-append, below-weaker, has-append, below-has, below-from, has-less}

-- ---- packets under way

step : (p : PacketLine → Bool) (line other : PacketLine) (lines : List PacketLine) (b : Bool) → p other ≡ b
    → (AmongLines line (filter p lines) → AmongLines line lines × (p line ≡ true))
    → AmongLines line (cond {A = List PacketLine} b (other ∷ filter p lines) (filter p lines))
    → AmongLines line (other ∷ lines) × (p line ≡ true)
step p line other lines true is rest (inl same) = (inl same, ap p same ∙ is)
step p line other lines true is rest (inr later) = let r = rest later in (inr r.0, r.1)
step p line other lines false is rest later = let r = rest later in (inr r.0, r.1)

pub among-filter : (p : PacketLine → Bool) (line : PacketLine) (lines : List PacketLine) → AmongLines line (filter p lines)
    → AmongLines line lines × (p line ≡ true)
among-filter p line [] among = absurd among
among-filter p line (other ∷ lines) among = step p line other lines (p other) refl (among-filter p line lines) among

pub among-number : (a : ℕ) (line : PacketLine) (lines : List PacketLine) → AreFrom a (line_numbers lines) → AmongLines line lines
    → line.number < a + length lines
among-number a line [] from among = absurd among
among-number a line (other ∷ lines) from (inl is) = let e = from.0 in let own = ap (λ (l : PacketLine). l.number) is in omega arith
among-number a line (other ∷ lines) from (inr later) = let low = among-number (a + 1) line lines from.1 later in omega arith

pub among-frame : (n : ℕ) (line : PacketLine) (lines : List PacketLine) → AreBelow n (line_frames lines) → AmongLines line lines
    → line.frame < n
among-frame n line [] below among = absurd among
among-frame n line (other ∷ lines) below (inl is) = let low = below.0 in let own = ap (λ (l : PacketLine). l.frame) is in omega arith
among-frame n line (other ∷ lines) below (inr later) = among-frame n line lines below.1 later

pub line-number : (log : List Record) (line : PacketLine) → Keeps log → AmongLines line (lines_under_way log)
    → line.number < packet_count log
line-number log line kept among =
    let there = among-filter (λ l. not (has_number (packets_ended log) l.number)) line (packet_lines log) among in
    let low = among-number 0 line (packet_lines log) kept.made there.0 in let size = count_is log in omega (arith, size, low)

pub line-frame : (log : List Record) (line : PacketLine) → Keeps log → AmongLines line (lines_under_way log) → line.frame < sent_count log
line-frame log line kept among =
    let there = among-filter (λ l. not (has_number (packets_ended log) l.number)) line (packet_lines log) among in
    among-frame (sent_count log) line (packet_lines log) kept.frames there.0

-- a frame that is outstanding was sent
pub outstanding-sent : (log : List Record) (frame : ℕ) → Keeps log → has_number (outstanding log) frame ≡ true
    → (frame < sent_count log) × (has_number (frames_taken log) frame ≡ false)
outstanding-sent log frame kept is =
    let parts =
    and_parts (has_number (frames_sent log) frame) (not (has_number (frames_taken log) frame))
    (sym (has-less (frames_sent log) (frames_taken log) frame) ∙ is) in (
      below-has (sent_count log) frame (frames_sent log)
          (below-from 0 (sent_count log) (frames_sent log) kept.numbered (omega arith)) parts.0,
      not-true (has_number (frames_taken log) frame) parts.1,
    )

-- ---- one record more

from-one : (n : ℕ) (o : Option ℕ) → IfSome o (λ k. k ≡ n) → AreFrom n (at_most_one o)
from-one n None h = tt
from-one n (Some k) h = (h, tt)

made-one : (log : List Record) (o : Option PacketLine) → IfSome o (MayBeMade log)
    → AreFrom (packet_count log) (line_numbers (at_most_one o))
made-one log None h = tt
made-one log (Some line) h = (h.number, tt)

pub frames-one : (log : List Record) (o : Option PacketLine) → IfSome o (MayBeMade log)
    → AreBelow (sent_count log) (line_frames (at_most_one o))
frames-one log None h = tt
frames-one log (Some line) h = (h.frame, tt)

acks-one : (log : List Record) (o : Option PacketLine) → IfSome o (MayBeMade log) → AcknowledgeOnly (frames_taken log) (at_most_one o)
acks-one log None h = tt
acks-one log (Some line) h = (h.taken, tt)

-- ---- packets under way, by their numbers

under : (b : Bool) (line : PacketLine) (lines : List PacketLine) (ns : List ℕ) → ns ≡ line_numbers lines
    → cond {A = List ℕ} b (line.number ∷ ns) ns ≡ line_numbers (cond {A = List PacketLine} b (line ∷ lines) lines)
under true line lines ns is = ap (λ l. line.number ∷ l) is
under false line lines ns is = is

less-lines : (lines : List PacketLine) (ended : List ℕ) → numbers_less (line_numbers lines) ended ≡ line_numbers (lines_less lines ended)
less-lines [] ended = refl
less-lines (line ∷ lines) ended =
    under (not (has_number ended line.number)) line (lines_less lines ended) (numbers_less (line_numbers lines) ended)
    (less-lines lines ended)

pub under_way-is : (log : List Record) → under_way log ≡ line_numbers (lines_under_way log)
under_way-is log = ap (λ l. numbers_less l (packets_ended log)) (numbers_same log) ∙ less-lines (packet_lines log) (packets_ended log)

-- the packet of a number among these
record HasLine (number : ℕ) (lines : List PacketLine) : Type 0 where
  line : PacketLine
  among : AmongLines line lines
  is : line.number ≡ number

line-of : (number : ℕ) (lines : List PacketLine) → has_number (line_numbers lines) number ≡ true → HasLine number lines
line-of number [] is = absurd (false≢true is)
line-of number (line ∷ lines) is =
    elim (or_cases (nat_eq line.number number) (has_number (line_numbers lines) number) is) [
      | inl here ↦ record { line = line; among = inl refl; is = eqb-true line.number number here }
      | inr later ↦ let rest = line-of number lines later in record { line = rest.line; among = inr rest.among; is = rest.is }
    ]

pub among-has : (line : PacketLine) (lines : List PacketLine) → AmongLines line lines → has_number (line_numbers lines) line.number ≡ true
among-has line [] among = absurd among
among-has line (x ∷ lines) (inl is) =
    or_left (nat_eq x.number line.number) (has_number (line_numbers lines) line.number)
    (eq-eqb x.number line.number (ap (λ (l : PacketLine). l.number) (sym is)))
among-has line (x ∷ lines) (inr later) =
    or_right (nat_eq x.number line.number) (has_number (line_numbers lines) line.number) (among-has line lines later)

pub is-under_way : (log : List Record) (line : PacketLine) → AmongLines line (lines_under_way log)
    → has_number (under_way log) line.number ≡ true
is-under_way log line among = ap (λ l. has_number l line.number) (under_way-is log) ∙ among-has line (lines_under_way log) among

ended-one : (log : List Record) (o : Option ℕ) → Keeps log → IfSome o (λ number. has_number (under_way log) number ≡ true)
    → AreBelow (packet_count log) (at_most_one o)
ended-one log None kept h = tt
ended-one log (Some n) kept h =
    let there = line-of n (lines_under_way log) (ap (λ l. has_number l n) (sym (under_way-is log)) ∙ h) in
    let low = line-number log there.line kept there.among in let is = there.is in (omega (arith, low, is), tt)

pub taken-one : (log : List Record) (o : Option ℕ) → Keeps log → IfSome o (HasJustArrived log) → AreBelow (sent_count log) (at_most_one o)
taken-one log None kept h = tt
taken-one log (Some n) kept h = ((outstanding-sent log n kept h.waits).0, tt)

distinct-push : (xs : List ℕ) (n : ℕ) → AreDistinct xs → has_number xs n ≡ false → AreDistinct (xs ++ n ∷ [])
distinct-push [] n h gone = (refl, tt)
distinct-push (x ∷ xs) n h gone =
    let parts = or_parts (nat_eq x n) (has_number xs n) gone in (
      has-append xs (n ∷ []) x ∙ ap (λ t. t || (nat_eq n x || false)) h.0
          ∙ ap (λ t. t || false) (ne_eqb n x (λ e. eqb-false x n parts.0 (sym e))),
      distinct-push xs n h.1 parts.1,
    )

once-one : (log : List Record) (o : Option ℕ) → Keeps log → IfSome o (HasJustArrived log) → AreDistinct (frames_taken log ++ at_most_one o)
once-one log None kept h = subst AreDistinct (sym (append-nil (frames_taken log))) kept.once
once-one log (Some n) kept h = distinct-push (frames_taken log) n kept.once (outstanding-sent log n kept h.waits).1

acks-append : (frames : List ℕ) (xs ys : List PacketLine) → AcknowledgeOnly frames xs → AcknowledgeOnly frames ys
    → AcknowledgeOnly frames (xs ++ ys)
acks-append frames [] ys one two = two
acks-append frames (x ∷ xs) ys one two = (one.0, acks-append frames xs ys one.1 two)

acks-more : (frames more : List ℕ) (xs : List PacketLine) → AcknowledgeOnly frames xs → AcknowledgeOnly (frames ++ more) xs
acks-more frames more [] h = tt
acks-more frames more (x ∷ xs) h = (
  λ is. has-append frames more x.frame
      ∙ or_left (has_number frames x.frame) (has_number more x.frame) (h.0 is),
  acks-more frames more xs h.1,
)

pub single-on : (log : List Record) (item : Record) → Keeps log → MayCome log item → GoesOn log (item ∷ [])
single-on log item kept next =
    record {
      sent = from-one (sent_count log) (sent_number item) next.sends;
      made = made-one log (made_packet item) next.makes;
      ended = ended-one log (ended_number item) kept next.ends;
    }

pub kept-more : (log : List Record) (item : Record) → Keeps log → MayCome log item → Keeps (log ++ item ∷ [])
kept-more log item kept next =
    let all = log ++ item ∷ [] in
    let n = sent_count log in
    let c = packet_count log in
    let s = filter_map-append sent_number log (item ∷ []) in
    let t = filter_map-append taken_number log (item ∷ []) in
    let m = filter_map-append made_packet log (item ∷ []) in
    let e = filter_map-append ended_number log (item ∷ []) in
    let sizes = ap length s ∙ length-append (frames_sent log) (at_most_one (sent_number item)) in
    let counts = packet_count-append log (item ∷ []) in
    let size : n ≤ sent_count all = omega (arith, sizes) in
    let count : c ≤ packet_count all = omega (arith, counts) in
    let on = single-on log item kept next in
    let lines : line_numbers (packet_lines all) ≡ line_numbers (packet_lines log) ++ line_numbers (at_most_one (made_packet item)) =
    ap line_numbers m ∙ map-append (λ (l : PacketLine). l.number) (packet_lines log) (at_most_one (made_packet item)) in
    let carried : line_frames (packet_lines all) ≡ line_frames (packet_lines log) ++ line_frames (at_most_one (made_packet item)) =
    ap line_frames m ∙ map-append (λ (l : PacketLine). l.frame) (packet_lines log) (at_most_one (made_packet item)) in
    let long : length (line_numbers (packet_lines log)) ≡ c =
    length-map (packet_lines log) (λ (l : PacketLine). l.number) ∙ sym (count_is log) in
    let start : c ≡ 0 + length (line_numbers (packet_lines log)) = omega arith in
    let first : n ≡ 0 + length (frames_sent log) = omega arith in
    record {
      numbered = subst (AreFrom 0) (sym s) (from-append 0 (frames_sent log) (at_most_one (sent_number item)) kept.numbered
          (subst (λ k. AreFrom k (at_most_one (sent_number item))) first on.sent));
      made = subst (AreFrom 0) (sym lines)
          (from-append 0 (line_numbers (packet_lines log)) (line_numbers (at_most_one (made_packet item))) kept.made
          (subst (λ k. AreFrom k (line_numbers (at_most_one (made_packet item)))) start on.made));
      ended = subst (AreBelow (packet_count all)) (sym e)
          (below-append (packet_count all) (packets_ended log) (at_most_one (ended_number item))
          (below-weaker c (packet_count all) (packets_ended log) count kept.ended)
          (below-weaker c (packet_count all) (at_most_one (ended_number item)) count on.ended));
      frames = subst (AreBelow (sent_count all)) (sym carried)
          (below-append (sent_count all) (line_frames (packet_lines log)) (line_frames (at_most_one (made_packet item)))
          (below-weaker n (sent_count all) (line_frames (packet_lines log)) size kept.frames)
          (below-weaker n (sent_count all) (line_frames (at_most_one (made_packet item))) size
          (frames-one log (made_packet item) next.makes)));
      taken = subst (AreBelow (sent_count all)) (sym t) (below-append (sent_count all) (frames_taken log) (at_most_one (taken_number item))
          (below-weaker n (sent_count all) (frames_taken log) size kept.taken)
          (below-weaker n (sent_count all) (at_most_one (taken_number item)) size (taken-one log (taken_number item) kept next.takes)));
      once = subst AreDistinct (sym t) (once-one log (taken_number item) kept next.takes);
      acks = subst (λ l. AcknowledgeOnly l (packet_lines all)) (sym t)
          (acks-more (frames_taken log) (at_most_one (taken_number item)) (packet_lines all)
          (subst (AcknowledgeOnly (frames_taken log)) (sym m)
          (acks-append (frames_taken log) (packet_lines log) (at_most_one (made_packet item)) kept.acks
          (acks-one log (made_packet item) next.makes))));
    }

pub kept-all : (log items : List Record) → Keeps log → EachFrom MayCome log items → Keeps (log ++ items)
kept-all log [] kept follow = subst Keeps (sym (append-nil log)) kept
kept-all log (item ∷ items) kept follow =
    subst Keeps (append_assoc log (item ∷ []) items) (kept-all (log ++ item ∷ []) items (kept-more log item kept follow.0) follow.1)
