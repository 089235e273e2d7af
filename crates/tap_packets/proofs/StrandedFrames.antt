-- Which frames are stranded after a group.
use Rattle.std.proofs.Common.{◌≡◌, ℕ, ◌+◌, ◌≤◌, Bool, true, false, not, nat_eq, List, [], ◌∷◌, ◌++◌, length, filter, refl, ap, sym, ◌∙◌, cond, arith, append-nil}
use Rattle.std.specs.Prelude.{◌&&◌, ◌||◌}
use Rattle.std.proofs.lemmas.Bool.{eq-eqb, or_left, or_right, and_parts, and_from, not-true, not_from_false}
use Rattle.std.proofs.lemmas.List.{map-append}
use Rattle.std.proofs.lemmas.List.Elements.{filter-append}
use Rattle.tap_log.specs.declared.record.Record.{Record}
use Rattle.tap_history.specs.Moments.{has_number, numbers_less, acknowledged, awaiting}
use Rattle.tap_history.proofs.Less.{filter-twice}
use Rattle.tap_packets.specs.Bounds.{stranded}
use Rattle.tap_packets.specs.Packets.{frames_sent, PacketLine, packet_lines, line_frames, lines_less, lines_under_way}
use Rattle.tap_packets.proofs.GroupsTell.{Tells, under_way-after, awaiting-after}
use Rattle.tap_packets.proofs.KeptForms.{Keeps}
use Rattle.tap_packets.proofs.LinesCounted.{fewer-from, one-more-from}
use Rattle.tap_packets.proofs.MoreUnderWay.{acknowledged_lines}
use Rattle.tap_packets.proofs.NumbersInRows.{has-append}

-- ---- stranded frames

pub none-pass : (under xs : List ℕ) → ((g : ℕ) → has_number xs g ≡ true → has_number under g ≡ true)
    → filter (λ g. not (has_number under g)) xs ≡ []
none-pass under [] all = refl
none-pass under (x ∷ xs) all =
    ap (λ b. cond {A = List ℕ} (not b) (x ∷ filter (λ g. not (has_number under g)) xs) (filter (λ g. not (has_number under g)) xs))
    (all x (or_left (nat_eq x x) (has_number xs x) (eq-eqb x x refl)))
    ∙ none-pass under xs (λ g is. all g (or_right (nat_eq x g) (has_number xs g) is))

-- the frame is not among these
abbrev pub lacks : List ℕ → ℕ → Bool
lacks under frame = not (has_number under frame)

-- three tests, one after the other
thrice : (p q r : ℕ → Bool) (xs : List ℕ) → filter r (filter q (filter p xs)) ≡ filter (λ x. p x && (q x && r x)) xs
thrice p q r xs =
    sym (filter-twice q r (λ x. q x && r x) (λ x. refl) (filter p xs))
    ∙ sym (filter-twice p (λ x. q x && r x) (λ x. p x && (q x && r x)) (λ x. refl) xs)

-- no frame is stranded that wasn't, if each new one has a packet, and each old one that lacks one lacked it
pub strands-none : (log : List Record) (frames acked under : List ℕ) → Keeps log
    → ((g : ℕ) → has_number frames g ≡ true → has_number under g ≡ true)
    → ((g : ℕ) → has_number acked g ≡ false → has_number under g ≡ false → has_number (line_frames (lines_under_way log)) g ≡ false)
    → length (filter (lacks under) (numbers_less (awaiting log) acked ++ frames)) ≤ length (stranded log) + 0
strands-none log frames acked under kept new old =
    let p = lacks (acknowledged log) in
    let q = lacks acked in
    let r = lacks under in
    let s = lacks (line_frames (lines_under_way log)) in
    let split : filter r (numbers_less (awaiting log) acked ++ frames) ≡ filter (λ x. p x && (q x && r x)) (frames_sent log) =
    filter-append r (numbers_less (awaiting log) acked) frames
    ∙ ap (λ l. filter r (numbers_less (awaiting log) acked) ++ l) (none-pass under frames new)
    ∙ append-nil (filter r (numbers_less (awaiting log) acked))
    ∙ thrice p q r (frames_sent log) in
    let was : stranded log ≡ filter (λ x. p x && s x) (frames_sent log) =
    sym (filter-twice p s (λ x. p x && s x) (λ x. refl) (frames_sent log)) in
    let fewer = fewer-from (λ x. p x && (q x && r x)) (λ x. p x && s x) 0 (frames_sent log) kept.numbered
    (λ x low is.
    let one = and_parts (p x) (q x && r x) is in
    let two = and_parts (q x) (r x) one.1 in
    and_from (p x) (s x) one.0 (not_from_false (has_number (line_frames (lines_under_way log)) x)
    (old x (not-true (has_number acked x) two.0) (not-true (has_number under x) two.1)))) in
    let a = ap length split in
    let b = ap length was in
    omega (arith, fewer, a, b)

-- and at most one more, if one old frame may now lack a packet
pub strands-one : (log : List Record) (f : ℕ) (acked under : List ℕ) → Keeps log
    → ((g : ℕ) → (g ≡ f → ⊥) → has_number under g ≡ false → has_number (line_frames (lines_under_way log)) g ≡ false)
    → length (filter (lacks under) (numbers_less (awaiting log) acked ++ [])) ≤ length (stranded log) + 1
strands-one log f acked under kept old =
    let p = lacks (acknowledged log) in
    let q = lacks acked in
    let r = lacks under in
    let s = lacks (line_frames (lines_under_way log)) in
    let split : filter r (numbers_less (awaiting log) acked ++ []) ≡ filter (λ x. p x && (q x && r x)) (frames_sent log) =
    ap (filter r) (append-nil (numbers_less (awaiting log) acked)) ∙ thrice p q r (frames_sent log) in
    let was : stranded log ≡ filter (λ x. p x && s x) (frames_sent log) =
    sym (filter-twice p s (λ x. p x && s x) (λ x. refl) (frames_sent log)) in
    let fewer = one-more-from (λ x. p x && (q x && r x)) (λ x. p x && s x) f 0 (frames_sent log) kept.numbered
    (λ x apart is.
    let one = and_parts (p x) (q x && r x) is in
    let two = and_parts (q x) (r x) one.1 in
    and_from (p x) (s x) one.0
    (not_from_false (has_number (line_frames (lines_under_way log)) x) (old x apart (not-true (has_number under x) two.1)))) in
    let a = ap length split in
    let b = ap length was in
    omega (arith, fewer, a, b)

pub stranded-after : (log group : List Record) (frames : List ℕ) (lines : List PacketLine) (ends arrives : List ℕ) → Keeps log
    → Tells log group frames lines ends arrives
    → stranded (log ++ group)
    ≡ filter (lacks (line_frames (lines_less (lines_under_way log) ends ++ lines)))
    (numbers_less (awaiting log) (acknowledged_lines arrives (packet_lines log)) ++ frames)
stranded-after log group frames lines ends arrives kept t =
    ap (λ l. filter (lacks (line_frames l)) (awaiting (log ++ group))) (under_way-after log group frames lines ends arrives kept t)
    ∙ ap (filter (lacks (line_frames (lines_less (lines_under_way log) ends ++ lines))))
    (awaiting-after log group frames lines ends arrives kept t)

-- a frame has a packet among both exactly if it has one among either
pub frames-both : (xs ys : List PacketLine) (g : ℕ)
    → has_number (line_frames (xs ++ ys)) g ≡ (has_number (line_frames xs) g || has_number (line_frames ys) g)
frames-both xs ys g =
    ap (λ l. has_number l g) (map-append (λ (l : PacketLine). l.frame) xs ys) ∙ has-append (line_frames xs) (line_frames ys) g
