-- What outboxes keep of frames that await, with one more and with one less.
-- Cited above: others_than
use Rattle.std.proofs.Common.{◌≡◌, ℕ, ◌+◌, ◌<◌, Bool, true, false, not, nat_eq, List, [], ◌∷◌, ◌++◌, length, filter, refl, ap, sym, ◌∙◌, cond, arith, inl, inr}
use Rattle.std.specs.Prelude.{◌&&◌, ◌||◌}
use Rattle.std.specs.List.{list_any}
use Rattle.std.proofs.lemmas.Bool.{ne_eqb, eq-eqb, cases_Bool, cases_eq, false≢true}
use Rattle.tap_log.specs.declared.record.Record.{Record}
use Rattle.tap_log.specs.Counts.{sent_count}
use Rattle.tap_history.specs.Moments.{has_number, numbers_less, acknowledged, awaiting}
use Rattle.tap_carry.specs.Names.{is_name}
use Rattle.tap_carry.specs.Outbox.{is_await}
use Rattle.tap_carry.specs.declared.outbox.Await.{Await}
use Rattle.tap_packets.specs.Matching.{is_from, await_of, awaits_from}
use Rattle.tap_packets.specs.Packets.{frames_sent}
use Rattle.tap_packets.specs.Sequence.{Way, way_count, way_at, sequence_in}
use Rattle.tap_packets.proofs.KeptForms.{Keeps}
use Rattle.tap_packets.proofs.NumbersInRows.{AreBelow, below-from}
use Rattle.tap_packets.proofs.SameWays.{name_itself}
use Rattle.tap_packets.proofs.StableWays.{tells-is, awaits-cons}

-- ---- small facts

pub eq-swaps : (a b : ℕ) → nat_eq a b ≡ nat_eq b a
eq-swaps a b = elim (cases_eq a b) [
  | inl e ↦ eq-eqb a b e ∙ sym (eq-eqb b a (sym e))
  | inr ne ↦ ne_eqb a b ne ∙ sym (ne_eqb b a (λ e. ne (sym e)))
]

pub and-false : (b : Bool) → (b && false) ≡ false
and-false true = refl
and-false false = refl

below-cond : (n : ℕ) (b : Bool) (x : ℕ) (xs : List ℕ) → x < n → AreBelow n xs → AreBelow n (cond {A = List ℕ} b (x ∷ xs) xs)
below-cond n true x xs low rest = (low, rest)
below-cond n false x xs low rest = rest

pub below-filter : (n : ℕ) (p : ℕ → Bool) (xs : List ℕ) → AreBelow n xs → AreBelow n (filter p xs)
below-filter n p [] below = tt
below-filter n p (x ∷ xs) below = below-cond n (p x) x (filter p xs) below.0 (below-filter n p xs below.1)

pub awaiting-below : (log : List Record) → Keeps log → AreBelow (sent_count log) (awaiting log)
awaiting-below log kept =
    below-filter (sent_count log) (λ n. not (has_number (acknowledged log) n)) (frames_sent log)
    (below-from 0 (sent_count log) (frames_sent log) kept.numbered (omega arith))

pub count-append : (xs ys : List Way) (way : Way) → way_count (xs ++ ys) way ≡ way_count xs way + way_count ys way
count-append [] ys way = omega arith
count-append (x ∷ xs) ys way = let rest = count-append xs ys way in omega (arith, rest)

pub less-nothing : (xs numbers : List ℕ) → ((g : ℕ) → has_number numbers g ≡ false) → numbers_less xs numbers ≡ xs
less-nothing [] numbers none = refl
less-nothing (x ∷ xs) numbers none =
    ap (λ b. cond {A = List ℕ} (not b) (x ∷ numbers_less xs numbers) (numbers_less xs numbers)) (none x)
    ∙ ap (λ l. x ∷ l) (less-nothing xs numbers none)

-- ---- one element more or less

pub awaits-none : (ws : List Way) (name : List ℕ) (f : ℕ) → is_from ws name f ≡ false → awaits_from ws (f ∷ []) name ≡ []
awaits-none ws name f other = awaits-cons ws name f [] ∙ ap (λ b. cond {A = List Await} b (await_of ws f ∷ []) []) other

pub awaits-own : (ws : List Way) (name : List ℕ) (f : ℕ) → is_from ws name f ≡ true → awaits_from ws (f ∷ []) name ≡ await_of ws f ∷ []
awaits-own ws name f own = awaits-cons ws name f [] ∙ ap (λ b. cond {A = List Await} b (await_of ws f ∷ []) []) own

-- the awaiting frames' values are told apart by the receiver and the sequence number, at the sender's own outbox
await-is : (ws : List Way) (f g : ℕ) → f < length ws → g < length ws → is_from ws (way_at ws f).from g ≡ true
    → is_await (way_at ws f).to (sequence_in ws f) (await_of ws g) ≡ nat_eq f g
await-is ws f g fin gin own =
    let way = way_at ws f in
    let same = tells-is ws f g fin gin in
    ap (λ b. (b && is_name (way_at ws g).to way.to) && nat_eq (sequence_in ws g) (sequence_in ws f)) (sym own)
    ∙ same ∙ eq-swaps g f

filter-cond : {X : Type 0} (p : X → Bool) (b c : Bool) (x : X) (xs : List X) → p x ≡ c
    → filter p (cond {A = List X} b (x ∷ xs) xs) ≡ cond {A = List X} (c && b) (x ∷ filter p xs) (filter p xs)
filter-cond {X} p true true x xs is = ap (λ t. cond {A = List X} t (x ∷ filter p xs) (filter p xs)) is
filter-cond {X} p true false x xs is = ap (λ t. cond {A = List X} t (x ∷ filter p xs) (filter p xs)) is
filter-cond p false true x xs is = refl
filter-cond p false false x xs is = refl

-- frames other than this one
abbrev pub others_than : ℕ → List ℕ → List ℕ
others_than f frames = filter (λ g. not (nat_eq f g)) frames

awaits-skip : (ws : List Way) (name : List ℕ) (b : Bool) (g : ℕ) (rest : List ℕ)
    → awaits_from ws (cond {A = List ℕ} b (g ∷ rest) rest) name ≡ cond {A = List Await} (b && is_from ws name g)
    (await_of ws g ∷ awaits_from ws rest name) (awaits_from ws rest name)
awaits-skip ws name true g rest = awaits-cons ws name g rest
awaits-skip ws name false g rest = refl

-- the sender's outbox without the frame
pub awaits-acked : (ws : List Way) (f : ℕ) (frames : List ℕ) → f < length ws → AreBelow (length ws) frames
    → awaits_from ws (others_than f frames) (way_at ws f).from
    ≡ filter (λ item. not (is_await (way_at ws f).to (sequence_in ws f) item)) (awaits_from ws frames (way_at ws f).from)
awaits-acked ws f [] low below = refl
awaits-acked ws f (g ∷ frames) low below =
    let name = (way_at ws f).from in
    let keeps = λ (item : Await). not (is_await (way_at ws f).to (sequence_in ws f) item) in
    let rest = awaits_from ws frames name in
    awaits-skip ws name (not (nat_eq f g)) g (others_than f frames)
    ∙ ap (λ l. cond {A = List Await} (not (nat_eq f g) && is_from ws name g) (await_of ws g ∷ l) l) (awaits-acked ws f frames low below.1)
    ∙ elim (cases_Bool (is_from ws name g)) [
      | inl own ↦ sym (ap (filter keeps) (awaits-cons ws name g frames)
          ∙ filter-cond keeps (is_from ws name g) (not (nat_eq f g)) (await_of ws g) rest (ap not (await-is ws f g low below.0 own)))
      | inr other ↦
          ap (λ b. cond {A = List Await} (not (nat_eq f g) && b) (await_of ws g ∷ filter keeps rest) (filter keeps rest)) other
          ∙ ap (λ b. cond {A = List Await} b (await_of ws g ∷ filter keeps rest) (filter keeps rest)) (and-false (not (nat_eq f g)))
          ∙ sym (ap (filter keeps) (awaits-cons ws name g frames ∙ ap (λ b. cond {A = List Await} b (await_of ws g ∷ rest) rest) other))
    ]

-- another outbox has nothing of it
pub awaits-elsewhere : (ws : List Way) (f : ℕ) (name : List ℕ) (frames : List ℕ) → is_name (way_at ws f).from name ≡ false
    → awaits_from ws (others_than f frames) name ≡ awaits_from ws frames name
awaits-elsewhere ws f name [] apart = refl
awaits-elsewhere ws f name (g ∷ frames) apart =
    let rest = awaits_from ws frames name in
    awaits-skip ws name (not (nat_eq f g)) g (others_than f frames)
    ∙ ap (λ l. cond {A = List Await} (not (nat_eq f g) && is_from ws name g) (await_of ws g ∷ l) l)
    (awaits-elsewhere ws f name frames apart)
    ∙ ap (λ b. cond {A = List Await} b (await_of ws g ∷ rest) rest) (elim (cases_eq f g) [
      | inl same ↦ ap (λ b. not b && is_from ws name g) (eq-eqb f g same) ∙ sym (ap (is_from ws name) (sym same) ∙ apart)
      | inr ne ↦ ap (λ b. not b && is_from ws name g) (ne_eqb f g ne)
    ])
    ∙ sym (awaits-cons ws name g frames)

-- the answer of the sender's outbox
pub awaits-has : (ws : List Way) (f : ℕ) (frames : List ℕ) → f < length ws → AreBelow (length ws) frames
    → list_any (is_await (way_at ws f).to (sequence_in ws f)) (awaits_from ws frames (way_at ws f).from) ≡ has_number frames f
awaits-has ws f [] low below = refl
awaits-has ws f (g ∷ frames) low below =
    let name = (way_at ws f).from in
    let test = is_await (way_at ws f).to (sequence_in ws f) in
    let rest = awaits_from ws frames name in
    ap (list_any test) (awaits-cons ws name g frames)
    ∙ elim (cases_Bool (is_from ws name g)) [
      | inl own ↦
          ap (λ b. list_any test (cond {A = List Await} b (await_of ws g ∷ rest) rest)) own
          ∙ ap (λ b. b || list_any test rest) (await-is ws f g low below.0 own ∙ eq-swaps f g)
          ∙ ap (λ b. nat_eq g f || b) (awaits-has ws f frames low below.1)
      | inr other ↦
          ap (λ b. list_any test (cond {A = List Await} b (await_of ws g ∷ rest) rest)) other
          ∙ awaits-has ws f frames low below.1
          ∙ ap (λ b. b || has_number frames f)
          (sym (ne_eqb g f (λ e. false≢true (sym other ∙ ap (λ k. is_name (way_at ws k).from name) e ∙ name_itself name))))
    ]
