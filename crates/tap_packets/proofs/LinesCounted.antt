-- How many packets are under way, and how many frames are stranded, after some more records.
use Rattle.std.proofs.Common.{◌≡◌, ℕ, ◌+◌, ◌<◌, ◌≤◌, Bool, true, false, not, nat_eq, List, [], ◌∷◌, length, filter, refl, ap, sym, ◌∙◌, cond, arith, inl, inr}
use Rattle.std.specs.Prelude.{◌||◌}
use Rattle.std.proofs.lemmas.Bool.{ne_eqb, eq-eqb, eqb-false, cases_eq, or_parts, false≢true}
use Rattle.tap_log.specs.declared.record.Record.{Record}
use Rattle.tap_history.specs.Moments.{has_number}
use Rattle.tap_packets.specs.Bounds.{one_when}
use Rattle.tap_packets.specs.Packets.{PacketLine, packet_lines, packets_ended, line_numbers, line_frames, lines_less, lines_under_way}
use Rattle.tap_packets.proofs.KeptForms.{AmongLines, Keeps}
use Rattle.tap_packets.proofs.KeptPackets.{among-has}
use Rattle.tap_packets.proofs.NumbersInRows.{AreFrom, AreDistinct, less}

-- ---- packets of distinct numbers

-- numbers in a row are distinct
above-first : (a b : ℕ) (xs : List ℕ) → AreFrom b xs → a < b → has_number xs a ≡ false
above-first a b [] from less = refl
above-first a b (x ∷ xs) from less =
    let e = from.0 in
    ap (λ t. t || has_number xs a) (ne_eqb x a (λ is. absurd (omega arith))) ∙ above-first a (b + 1) xs from.1 (omega arith)

distinct-from : (a : ℕ) (xs : List ℕ) → AreFrom a xs → AreDistinct xs
distinct-from a [] from = tt
distinct-from a (x ∷ xs) from = (ap (has_number xs) from.0 ∙ above-first a (a + 1) xs from.1 (omega arith), distinct-from (a + 1) xs from.1)

filtered : (b : Bool) (x : PacketLine) (xs : List PacketLine) (n : ℕ) → nat_eq x.number n ≡ false → has_number (line_numbers xs) n ≡ false
    → has_number (line_numbers (cond {A = List PacketLine} b (x ∷ xs) xs)) n ≡ false
filtered true x xs n apart rest = ap (λ t. t || has_number (line_numbers xs) n) apart ∙ rest
filtered false x xs n apart rest = rest

distinct-cond : (b : Bool) (x : PacketLine) (xs : List PacketLine) → has_number (line_numbers xs) x.number ≡ false
    → AreDistinct (line_numbers xs)
    → AreDistinct (line_numbers (cond {A = List PacketLine} b (x ∷ xs) xs))
distinct-cond true x xs gone rest = (gone, rest)
distinct-cond false x xs gone rest = rest

has-filter : (p : PacketLine → Bool) (lines : List PacketLine) (n : ℕ) → has_number (line_numbers lines) n ≡ false
    → has_number (line_numbers (filter p lines)) n ≡ false
has-filter p [] n gone = refl
has-filter p (x ∷ lines) n gone =
    let parts = or_parts (nat_eq x.number n) (has_number (line_numbers lines) n) gone in
    filtered (p x) x (filter p lines) n parts.0 (has-filter p lines n parts.1)

distinct-filter : (p : PacketLine → Bool) (lines : List PacketLine) → AreDistinct (line_numbers lines)
    → AreDistinct (line_numbers (filter p lines))
distinct-filter p [] distinct = tt
distinct-filter p (x ∷ lines) distinct =
    distinct-cond (p x) x (filter p lines) (has-filter p lines x.number distinct.0) (distinct-filter p lines distinct.1)

pub under_way-distinct : (log : List Record) → Keeps log → AreDistinct (line_numbers (lines_under_way log))
under_way-distinct log kept =
    distinct-filter (λ (l : PacketLine). not (has_number (packets_ended log) l.number)) (packet_lines log)
    (distinct-from 0 (line_numbers (packet_lines log)) kept.made)

-- nothing goes if none has the number
none-goes : (n : ℕ) (lines : List PacketLine) → has_number (line_numbers lines) n ≡ false → lines_less lines (n ∷ []) ≡ lines
none-goes n [] gone = refl
none-goes n (x ∷ lines) gone =
    let parts = or_parts (nat_eq x.number n) (has_number (line_numbers lines) n) gone in
    let other : (nat_eq n x.number || false) ≡ false =
    ap (λ b. b || false) (ne_eqb n x.number (λ e. eqb-false x.number n parts.0 (sym e))) in
    ap (λ b. cond {A = List PacketLine} (not b) (x ∷ lines_less lines (n ∷ [])) (lines_less lines (n ∷ []))) other
    ∙ ap (λ l. x ∷ l) (none-goes n lines parts.1)

counted : (p : PacketLine → Bool) (x : PacketLine) (xs : List PacketLine) (b : Bool) → p x ≡ b
    → length (filter p xs) + one_when b ≡ length (cond {A = List PacketLine} b (x ∷ filter p xs) (filter p xs))
counted p x xs true is = omega arith
counted p x xs false is = omega arith

grown : (p : PacketLine → Bool) (x : PacketLine) (xs ys : List PacketLine) (more : ℕ) (b : Bool)
    → length (filter p xs) + more ≡ length (filter p ys)
    → length (cond {A = List PacketLine} b (x ∷ filter p xs) (filter p xs)) + more ≡ length
    (cond {A = List PacketLine} b (x ∷ filter p ys) (filter p ys))
grown p x xs ys more true h = omega (arith, h)
grown p x xs ys more false h = h

-- of those that pass a test one less is left, if the one that goes passes
pub one-goes : (p : PacketLine → Bool) (line : PacketLine) (lines : List PacketLine) → AreDistinct (line_numbers lines)
    → AmongLines line lines
    → length (filter p (lines_less lines (line.number ∷ []))) + one_when (p line) ≡ length (filter p lines)
one-goes p line [] distinct among = absurd among
one-goes p line (x ∷ lines) distinct (inl is) =
    let n = line.number in
    let same : n ≡ x.number = ap (λ (l : PacketLine). l.number) is in
    let here : (nat_eq n x.number || false) ≡ true = ap (λ b. b || false) (eq-eqb n x.number same) in
    let gone : has_number (line_numbers lines) n ≡ false = ap (has_number (line_numbers lines)) same ∙ distinct.0 in
    let rest : lines_less (x ∷ lines) (n ∷ []) ≡ lines =
    ap (λ b. cond {A = List PacketLine} (not b) (x ∷ lines_less lines (n ∷ [])) (lines_less lines (n ∷ []))) here
    ∙ none-goes n lines gone in
    ap (λ l. length (filter p l) + one_when (p line)) rest ∙ ap (λ l. length (filter p lines) + one_when (p l)) is
    ∙ counted p x lines (p x) refl
one-goes p line (x ∷ lines) distinct (inr later) =
    let n = line.number in
    let there = among-has line lines later in
    let apart : (nat_eq n x.number || false) ≡ false =
    ap (λ b. b || false) (ne_eqb n x.number (λ e. false≢true (sym (ap (has_number (line_numbers lines)) e ∙ distinct.0) ∙ there))) in
    let rest : lines_less (x ∷ lines) (n ∷ []) ≡ x ∷ lines_less lines (n ∷ []) =
    ap (λ b. cond {A = List PacketLine} (not b) (x ∷ lines_less lines (n ∷ [])) (lines_less lines (n ∷ []))) apart in
    ap (λ l. length (filter p l) + one_when (p line)) rest
    ∙ grown p x (lines_less lines (n ∷ [])) lines (one_when (p line)) (p x) (one-goes p line lines distinct.1 later)

-- ---- frames that have a packet under way

-- a frame keeps a packet unless it is that of the one that goes
pub still : (line : PacketLine) (g : ℕ) (lines : List PacketLine) → AreDistinct (line_numbers lines) → AmongLines line lines
    → (g ≡ line.frame → ⊥)
    → has_number (line_frames (lines_less lines (line.number ∷ []))) g ≡ has_number (line_frames lines) g
still line g [] distinct among apart = absurd among
still line g (x ∷ lines) distinct (inl is) apart =
    let n = line.number in
    let same : n ≡ x.number = ap (λ (l : PacketLine). l.number) is in
    let here : (nat_eq n x.number || false) ≡ true = ap (λ b. b || false) (eq-eqb n x.number same) in
    let gone : has_number (line_numbers lines) n ≡ false = ap (has_number (line_numbers lines)) same ∙ distinct.0 in
    let rest : lines_less (x ∷ lines) (n ∷ []) ≡ lines =
    ap (λ b. cond {A = List PacketLine} (not b) (x ∷ lines_less lines (n ∷ [])) (lines_less lines (n ∷ []))) here
    ∙ none-goes n lines gone in
    ap (λ l. has_number (line_frames l) g) rest
    ∙ ap (λ b. b || has_number (line_frames lines) g) (sym (ne_eqb x.frame g (λ e. apart (sym (ap (λ (l : PacketLine). l.frame) is ∙ e)))))
still line g (x ∷ lines) distinct (inr later) apart =
    let n = line.number in
    let there = among-has line lines later in
    let other : (nat_eq n x.number || false) ≡ false =
    ap (λ b. b || false) (ne_eqb n x.number (λ e. false≢true (sym (ap (has_number (line_numbers lines)) e ∙ distinct.0) ∙ there))) in
    let rest = lines_less lines (n ∷ []) in
    ap (λ b. has_number (line_frames (cond {A = List PacketLine} (not b) (x ∷ rest) rest)) g) other
    ∙ ap (λ b. nat_eq x.frame g || b) (still line g lines distinct.1 later apart)

-- ---- how many pass

no_more : (a b : Bool) (x : ℕ) (xs ys : List ℕ) → length xs ≤ length ys → (a ≡ true → b ≡ true)
    → length (cond {A = List ℕ} a (x ∷ xs) xs) ≤ length (cond {A = List ℕ} b (x ∷ ys) ys)
no_more true true x xs ys le narrow = omega (arith, le)
no_more true false x xs ys le narrow = absurd (false≢true (narrow refl))
no_more false true x xs ys le narrow = omega (arith, le)
no_more false false x xs ys le narrow = le

no_more_one : (a b : Bool) (x : ℕ) (xs ys : List ℕ) → length xs ≤ length ys + 1 → (a ≡ true → b ≡ true)
    → length (cond {A = List ℕ} a (x ∷ xs) xs) ≤ length (cond {A = List ℕ} b (x ∷ ys) ys) + 1
no_more_one true true x xs ys le narrow = omega (arith, le)
no_more_one true false x xs ys le narrow = absurd (false≢true (narrow refl))
no_more_one false true x xs ys le narrow = omega (arith, le)
no_more_one false false x xs ys le narrow = le

at_most : (a b : Bool) (x : ℕ) (xs ys : List ℕ) → length xs ≤ length ys
    → length (cond {A = List ℕ} a (x ∷ xs) xs) ≤ length (cond {A = List ℕ} b (x ∷ ys) ys) + 1
at_most true true x xs ys le = omega (arith, le)
at_most true false x xs ys le = omega (arith, le)
at_most false true x xs ys le = omega (arith, le)
at_most false false x xs ys le = omega (arith, le)

-- of numbers in a row, fewer pass a narrower test
pub fewer-from : (p q : ℕ → Bool) (a : ℕ) (xs : List ℕ) → AreFrom a xs → ((x : ℕ) → a ≤ x → p x ≡ true → q x ≡ true)
    → length (filter p xs) ≤ length (filter q xs)
fewer-from p q a [] from narrow = omega arith
fewer-from p q a (x ∷ xs) from narrow =
    let e = from.0 in
    let rest = fewer-from p q (a + 1) xs from.1 (λ y low is. narrow y (omega arith) is) in
    no_more (p x) (q x) x (filter p xs) (filter q xs) rest (λ h. narrow x (omega arith) h)

-- and at most one more if only one number passes it besides
pub one-more-from : (p q : ℕ → Bool) (f a : ℕ) (xs : List ℕ) → AreFrom a xs → ((x : ℕ) → (x ≡ f → ⊥) → p x ≡ true → q x ≡ true)
    → length (filter p xs) ≤ length (filter q xs) + 1
one-more-from p q f a [] from narrow = omega arith
one-more-from p q f a (x ∷ xs) from narrow =
    let e = from.0 in
    elim (cases_eq x f) [
      | inl same ↦
          let rest = fewer-from p q (a + 1) xs from.1 (λ y low is. narrow y (λ s. absurd (omega arith)) is) in
          at_most (p x) (q x) x (filter p xs) (filter q xs) rest
      | inr apart ↦
          let rest = one-more-from p q f (a + 1) xs from.1 narrow in
          no_more_one (p x) (q x) x (filter p xs) (filter q xs) rest (narrow x apart)
    ]
