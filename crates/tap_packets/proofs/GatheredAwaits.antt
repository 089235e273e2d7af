-- What the outboxes together keep.
-- Cited above: gathered-in-order, outboxes_together_holds
use Rattle.std.proofs.Common.{◌≡◌, ◌≢◌, ℕ, zero, suc, ◌+◌, ◌<◌, ◌≤◌, Bool, true, false, not, nat_eq, List, [], ◌∷◌, ◌++◌, length, map, filter, refl, ap, sym, ◌∙◌, cond, arith, subst, inl, inr, length-append, get_or, All, AllPairs}
use Rattle.std.specs.Prelude.{◌&&◌, ◌||◌}
use Rattle.std.specs.List.{flat_map, AllByRecursion}
use Rattle.std.specs.List.Sorted.{IsPermutation}
use Rattle.std.proofs.lemmas.Bool.{ne_eqb, eq-eqb, cases_eq, cases_order, or_left, false≢true}
use Rattle.std.proofs.lemmas.List.Elements.{All-head, All-cons, All-nil, recursion_from_All}
use Rattle.std.proofs.lemmas.Bool.Decides.{Decides-eqb}
use Rattle.std.proofs.lemmas.List.Sorted.{IsPermutation-append_right, IsPermutation-cons, IsPermutation-middle, IsPermutation-refl, IsPermutation-sym, IsPermutation-trans, list_any-IsPermutation}
use Rattle.std.proofs.lemmas.Map.Keys.{IsDistinct-IsPermutation}
use Rattle.std.proofs.lemmas.Map.Made.{AllPairs-from_IsDistinct, IsDistinct-from_AllPairs}
use Rattle.tap_name.specs.Settings.{SettingsValue}
use Rattle.tap_log.specs.declared.record.Record.{Record}
use Rattle.tap_history.specs.Moments.{has_number, acknowledged, awaiting}
use Rattle.tap_carry.specs.Names.{is_name}
use Rattle.tap_carry.specs.declared.outbox.Await.{Await}
use Rattle.tap_packets.specs.Groups.{data_line}
use Rattle.tap_packets.specs.MayCome.{KeepsPackets}
use Rattle.tap_packets.specs.PacketLaws.{OutboxesTogether}
use Rattle.tap_packets.specs.Matching.{Outboxes, is_from, await_of, awaits_from, OutboxesMatch, packet_along, frames_kept, times_named, AreSenders, data_packet_of}
use Rattle.tap_packets.specs.Packets.{frames_sent}
use Rattle.tap_packets.specs.Sequence.{Way, frame_ways, way_at}
use Rattle.tap_packets.proofs.AwaitsFrom.{and-false, eq-swaps}
use Rattle.tap_packets.proofs.KeptForms.{Keeps, keeps_from}
use Rattle.tap_packets.proofs.MoreUnderWay.{above}
use Rattle.tap_packets.proofs.NumbersInRows.{AreDistinct, AreFrom, has-append, less, pairs_of}
use Rattle.tap_packets.proofs.SameWays.{name_is}
use Rattle.tap_packets.proofs.StableWays.{awaits-cons}

-- the sender of each of these frames is among the names once, by recursion
abbrev Senders : List Way → List (List ℕ) → List ℕ → Type 0
Senders ws names frames = AllByRecursion (λ frame. times_named names (way_at ws frame).from ≡ 1) frames

senders-from : (ws : List Way) (names : List (List ℕ)) (frames : List ℕ) → AreSenders ws names frames → Senders ws names frames
senders-from ws names frames senders = recursion_from_All (λ frame. times_named names (way_at ws frame).from ≡ 1) frames senders

-- ---- one outbox

frames-of-awaits : (ws : List Way) (frames : List ℕ) → map (λ (item : Await). item.frame) (map (await_of ws) frames) ≡ frames
frames-of-awaits ws [] = refl
frames-of-awaits ws (f ∷ frames) = ap (λ l. f ∷ l) (frames-of-awaits ws frames)

-- the frames of each name, of these frames
abbrev shares : List Way → List ℕ → List (List ℕ) → List ℕ
shares ws frames names = flat_map (λ name. filter (is_from ws name) frames) names

kept-is : (settings : SettingsValue) (log : List Record) (boxes : Outboxes) (names : List (List ℕ)) → OutboxesMatch settings log boxes
    → frames_kept boxes names ≡ shares (frame_ways settings log) (awaiting log) names
kept-is settings log boxes [] match = refl
kept-is settings log boxes (name ∷ names) match =
    ap (λ l. map (λ (item : Await). item.frame) l ++ frames_kept boxes names) (match.awaits name)
    ∙ ap (λ l. l ++ frames_kept boxes names)
    (frames-of-awaits (frame_ways settings log) (filter (is_from (frame_ways settings log) name) (awaiting log)))
    ∙ ap (λ l. filter (is_from (frame_ways settings log) name) (awaiting log) ++ l) (kept-is settings log boxes names match)

-- ---- how many

both : (b : Bool) (f : ℕ) (mine : List ℕ) (name : List ℕ) (others : List (List ℕ))
    → length (cond {A = List ℕ} b (f ∷ mine) mine) + length others ≡ length mine + length
    (cond {A = List (List ℕ)} b (name ∷ others) others)
both true f mine name others = omega arith
both false f mine name others = omega arith

no-shares : (ws : List Way) (names : List (List ℕ)) → shares ws [] names ≡ []
no-shares ws [] = refl
no-shares ws (name ∷ names) = no-shares ws names

-- a frame more gives one more for each name that sent it
share-step : (ws : List Way) (f : ℕ) (frames : List ℕ) (names : List (List ℕ))
    → length (shares ws (f ∷ frames) names) ≡ times_named names (way_at ws f).from + length (shares ws frames names)
share-step ws f frames [] = refl
share-step ws f frames (name ∷ names) =
    let rest = share-step ws f frames names in
    let mine = filter (is_from ws name) frames in
    let a = length-append (cond {A = List ℕ} (is_from ws name f) (f ∷ mine) mine) (shares ws (f ∷ frames) names) in
    let b = length-append mine (shares ws frames names) in
    let c = both (is_from ws name f) f mine name (filter (λ other. is_name (way_at ws f).from other) names) in
    omega (arith, rest, a, b, c)

shares-count : (ws : List Way) (frames : List ℕ) (names : List (List ℕ)) → Senders ws names frames
    → length (shares ws frames names) ≡ length frames
shares-count ws [] names senders = ap length (no-shares ws names)
shares-count ws (f ∷ frames) names senders =
    let step = share-step ws f frames names in
    let rest = shares-count ws frames names senders.1 in
    let own = senders.0 in
    omega (arith, step, rest, own)

-- ---- which

some : ℕ → Bool
some zero = false
some (suc n) = true

pick : (a b : Bool) (name : List ℕ) (others : List (List ℕ))
    → ((a && b) || (a && some (length others))) ≡ (a && some (length (cond {A = List (List ℕ)} b (name ∷ others) others)))
unfolding some
pick true true name others = refl
pick true false name others = refl
pick false b name others = refl

here : (p q : Bool) (x n : ℕ) (xs : List ℕ) (old : Bool) → p ≡ q → nat_eq x n ≡ true → has_number xs n ≡ (old && q)
    → has_number (cond {A = List ℕ} p (x ∷ xs) xs) n ≡ ((nat_eq x n || old) && q)
here true q x n xs old is same rest =
    ap (λ b. b || has_number xs n) same ∙ is ∙ sym (ap (λ b. (b || old) && q) same)
here false q x n xs old is same rest = rest ∙ ap (λ b. old && b) (sym is) ∙ and-false old ∙ is ∙ sym (ap (λ b. (b || old) && q) same)

there : (p : Bool) (x n : ℕ) (xs : List ℕ) → nat_eq x n ≡ false → has_number (cond {A = List ℕ} p (x ∷ xs) xs) n ≡ has_number xs n
there true x n xs apart = ap (λ b. b || has_number xs n) apart
there false x n xs apart = refl

has-filter : (p : ℕ → Bool) (xs : List ℕ) (n : ℕ) → has_number (filter p xs) n ≡ (has_number xs n && p n)
has-filter p [] n = refl
has-filter p (x ∷ xs) n =
    elim (cases_eq x n) [
      | inl e ↦ here (p x) (p n) x n (filter p xs) (has_number xs n) (ap p e) (eq-eqb x n e) (has-filter p xs n)
      | inr ne ↦
          there (p x) x n (filter p xs) (ne_eqb x n ne) ∙ has-filter p xs n ∙ ap (λ b. (b || has_number xs n) && p n) (sym (ne_eqb x n ne))
    ]

has-shares : (ws : List Way) (frames : List ℕ) (names : List (List ℕ)) (f : ℕ)
    → has_number (shares ws frames names) f ≡ (has_number frames f && some (times_named names (way_at ws f).from))
unfolding some
has-shares ws frames [] f = sym (and-false (has_number frames f))
has-shares ws frames (name ∷ names) f =
    has-append (filter (is_from ws name) frames) (shares ws frames names) f
    ∙ ap (λ b. b || has_number (shares ws frames names) f) (has-filter (is_from ws name) frames f)
    ∙ ap (λ b. (has_number frames f && is_from ws name f) || b) (has-shares ws frames names f)
    ∙ pick (has_number frames f) (is_from ws name f) name (filter (λ other. is_name (way_at ws f).from other) names)

some-one : some 1 ≡ true
unfolding some
some-one = refl

senders-some : (ws : List Way) (frames : List ℕ) (names : List (List ℕ)) (f : ℕ) → Senders ws names frames
    → (has_number frames f && some (times_named names (way_at ws f).from)) ≡ has_number frames f
senders-some ws [] names f senders = refl
senders-some ws (g ∷ frames) names f senders =
    elim (cases_eq g f) [
      | inl e ↦
          let one : times_named names (way_at ws f).from ≡ 1 = ap (λ k. times_named names (way_at ws k).from) (sym e) ∙ senders.0 in
          ap (λ b. (b || has_number frames f) && some (times_named names (way_at ws f).from)) (eq-eqb g f e) ∙ ap some one ∙ some-one
          ∙ sym (ap (λ b. b || has_number frames f) (eq-eqb g f e))
      | inr ne ↦
          ap (λ b. (b || has_number frames f) && some (times_named names (way_at ws f).from)) (ne_eqb g f ne)
          ∙ senders-some ws frames names f senders.1
          ∙ sym (ap (λ b. b || has_number frames f) (ne_eqb g f ne))
    ]

gathered-is : (settings : SettingsValue) (log : List Record) (boxes : Outboxes) (names : List (List ℕ)) → OutboxesMatch settings log boxes
    → AreSenders (frame_ways settings log) names (awaiting log)
    → (frame : ℕ) → has_number (frames_kept boxes names) frame ≡ has_number (awaiting log) frame
gathered-is settings log boxes names match senders frame =
    ap (λ l. has_number l frame) (kept-is settings log boxes names match) ∙ has-shares (frame_ways settings log) (awaiting log) names frame
    ∙ senders-some (frame_ways settings log) (awaiting log) names frame (senders-from (frame_ways settings log) names (awaiting log) senders)

gathered-count : (settings : SettingsValue) (log : List Record) (boxes : Outboxes) (names : List (List ℕ))
    → OutboxesMatch settings log boxes
    → AreSenders (frame_ways settings log) names (awaiting log) → length (frames_kept boxes names) ≡ length (awaiting log)
gathered-count settings log boxes names match senders =
    ap length (kept-is settings log boxes names match)
    ∙ shares-count (frame_ways settings log) (awaiting log) names (senders-from (frame_ways settings log) names (awaiting log) senders)

-- ---- as data packets

-- what a name's outbox keeps of these frames makes their data packets
abbrev MakesPacket : List Way → List ℕ → ℕ → Await → Type 0
MakesPacket ws name number item = data_packet_of name item ≡ packet_along ws (data_line number item.frame)

one-packet : (ws : List Way) (name : List ℕ) (number f : ℕ) → is_from ws name f ≡ true → MakesPacket ws name number (await_of ws f)
one-packet ws name number f own =
    ap (λ sender. data_packet_of sender (await_of ws f)) (sym (name_is (way_at ws f).from name own))

packets-step : (ws : List Way) (name : List ℕ) (number f : ℕ) (b : Bool) (rest : List Await) → is_from ws name f ≡ b
    → All (MakesPacket ws name number) rest → All (MakesPacket ws name number) (cond {A = List Await} b (await_of ws f ∷ rest) rest)
packets-step ws name number f true rest own all =
    All-cons (MakesPacket ws name number) (await_of ws f) rest (one-packet ws name number f own) all
packets-step ws name number f false rest own all = all

packets-are : (ws : List Way) (name : List ℕ) (number : ℕ) (frames : List ℕ) → All (MakesPacket ws name number) (awaits_from ws frames name)
packets-are ws name number [] = All-nil (MakesPacket ws name number)
packets-are ws name number (f ∷ frames) =
    subst (All (MakesPacket ws name number)) (sym (awaits-cons ws name f frames))
    (packets-step ws name number f (is_from ws name f) (awaits_from ws frames name) refl (packets-are ws name number frames))

gathered-packets : (settings : SettingsValue) (log : List Record) (boxes : Outboxes) (name : List ℕ) (number : ℕ)
    → OutboxesMatch settings log boxes
    → All (MakesPacket (frame_ways settings log) name number) (boxes name).awaits
gathered-packets settings log boxes name number match =
    subst (All (MakesPacket (frame_ways settings log) name number)) (sym (match.awaits name))
    (packets-are (frame_ways settings log) name number (awaiting log))

-- ---- in order

-- these go up, from this number on
abbrev AreRising : ℕ → List ℕ → Type 0
AreRising low [] = Unit {0}
AreRising low (number ∷ numbers) = (low ≤ number) × AreRising (number + 1) numbers

rising-lower : (a b : ℕ) (xs : List ℕ) → a ≤ b → AreRising b xs → AreRising a xs
rising-lower a b [] le h = tt
rising-lower a b (x ∷ xs) le h = let low = h.0 in (omega arith, h.1)

rising-cond : (a : ℕ) (b : Bool) (x : ℕ) (xs : List ℕ) → a ≤ x → AreRising (x + 1) xs → AreRising a (cond {A = List ℕ} b (x ∷ xs) xs)
rising-cond a true x xs le h = (le, h)
rising-cond a false x xs le h = rising-lower a (x + 1) xs (omega arith) h

rising-filter : (p : ℕ → Bool) (a : ℕ) (xs : List ℕ) → AreFrom a xs → AreRising a (filter p xs)
rising-filter p a [] from = tt
rising-filter p a (x ∷ xs) from =
    let e = from.0 in
    rising-cond a (p x) x (filter p xs) (omega arith)
    (subst (λ k. AreRising (k + 1) (filter p xs)) (sym e) (rising-filter p (a + 1) xs from.1))

below-rising : (a n : ℕ) (xs : List ℕ) → AreRising a xs → n < a → has_number xs n ≡ false
below-rising a n [] h low = refl
below-rising a n (x ∷ xs) h low =
    let first = h.0 in
    ap (λ b. b || has_number xs n) (ne_eqb x n (λ e. absurd (omega arith))) ∙ below-rising (x + 1) n xs h.1 (omega arith)

-- two rising lists with the same numbers are one
same-rising : (a b : ℕ) (xs ys : List ℕ) → AreRising a xs → AreRising b ys → ((n : ℕ) → has_number xs n ≡ has_number ys n) → xs ≡ ys
same-rising a b [] [] one two same = refl
same-rising a b [] (y ∷ ys) one two same = absurd (false≢true (same y ∙ or_left (nat_eq y y) (has_number ys y) (eq-eqb y y refl)))
same-rising a b (x ∷ xs) [] one two same = absurd (false≢true (sym (same x) ∙ or_left (nat_eq x x) (has_number xs x) (eq-eqb x x refl)))
same-rising a b (x ∷ xs) (y ∷ ys) one two same =
    let own_x = or_left (nat_eq x x) (has_number xs x) (eq-eqb x x refl) in
    let own_y = or_left (nat_eq y y) (has_number ys y) (eq-eqb y y refl) in
    elim (cases_order x y) [
      | inr apart ↦
          elim apart [
            | inl less ↦
                absurd
                (false≢true (sym (below-rising y x (y ∷ ys) (let le : y ≤ y = omega arith in (le, two.1)) less) ∙ sym (same x) ∙ own_x))
            | inr more ↦
                absurd (false≢true (sym (below-rising x y (x ∷ xs) (let le : x ≤ x = omega arith in (le, one.1)) more) ∙ same y ∙ own_y))
          ]
      | inl e ↦
          let rest : (n : ℕ) → has_number xs n ≡ has_number ys n = λ n.
          elim (cases_eq x n) [
            | inl here ↦ below-rising (x + 1) n xs one.1 (omega arith) ∙ sym (below-rising (y + 1) n ys two.1 (omega arith))
            | inr other ↦
                sym (ap (λ t. t || has_number xs n) (ne_eqb x n other)) ∙ same n
                ∙ ap (λ t. t || has_number ys n) (ne_eqb y n (λ h. other (e ∙ h)))
          ] in
          ap (λ k. k ∷ xs) e ∙ ap (λ l. y ∷ l) (same-rising (x + 1) (y + 1) xs ys one.1 two.1 rest)
    ]

rising-of : (low : ℕ) (xs : List ℕ) → All (λ x. low ≤ x) xs → AllPairs (λ x other. x < other) xs → AreRising low xs
rising-of low [] above rising = tt
rising-of low (x ∷ xs) above rising = (
  All-head (λ o. low ≤ o) x xs above,
  rising-of (x + 1) xs
      (λ k d within. let less = rising zero (suc k) d (omega arith) (omega arith) in omega (arith, less))
      (λ i j d less within. rising (suc i) (suc j) d (omega arith) (omega arith)),
)

gathered-sorted : (log : List Record) (frames : List ℕ) → KeepsPackets log → AllPairs (λ frame other. frame < other) frames
    → ((frame : ℕ) → has_number frames frame ≡ has_number (awaiting log) frame) → frames ≡ awaiting log
gathered-sorted log frames keeps rising same =
    same-rising 0 0 frames (awaiting log) (rising-of 0 frames (λ k d within. omega arith) rising)
    (rising-filter (λ n. not (has_number (acknowledged log) n)) 0 (frames_sent log) (keeps_from log keeps).numbered) same

distinct-rising : (a : ℕ) (xs : List ℕ) → AreRising a xs → AreDistinct xs
distinct-rising a [] h = tt
distinct-rising a (x ∷ xs) h = (below-rising (x + 1) x xs h.1 (omega arith), distinct-rising (x + 1) xs h.1)

-- no frame awaits twice
pub awaiting-distinct : (log : List Record) → Keeps log → AreDistinct (awaiting log)
awaiting-distinct log kept =
    distinct-rising 0 (awaiting log) (rising-filter (λ n. not (has_number (acknowledged log) n)) 0 (frames_sent log) kept.numbered)

-- ---- as a permutation

none-step : (b : Bool) (f : ℕ) (mine more less : List ℕ) (name : List ℕ) (others : List (List ℕ))
    → length (cond {A = List (List ℕ)} b (name ∷ others) others) ≡ 0 → (length others ≡ 0 → more ≡ less)
    → cond {A = List ℕ} b (f ∷ mine) mine ++ more ≡ mine ++ less
none-step true f mine more less name others none same = absurd (omega (arith, none))
none-step false f mine more less name others none same = ap (λ l. mine ++ l) (same none)

share-none : (ws : List Way) (f : ℕ) (frames : List ℕ) (names : List (List ℕ)) → times_named names (way_at ws f).from ≡ 0
    → shares ws (f ∷ frames) names ≡ shares ws frames names
share-none ws f frames [] none = refl
share-none ws f frames (name ∷ names) none =
    none-step (is_from ws name f) f (filter (is_from ws name) frames) (shares ws (f ∷ frames) names) (shares ws frames names) name
    (filter (λ other. is_name (way_at ws f).from other) names) none (share-none ws f frames names)

one-step : (b : Bool) (f : ℕ) (mine more less : List ℕ) (name : List ℕ) (others : List (List ℕ))
    → length (cond {A = List (List ℕ)} b (name ∷ others) others) ≡ 1 → (length others ≡ 0 → more ≡ less)
    → (length others ≡ 1 → IsPermutation (f ∷ less) more)
    → IsPermutation (f ∷ (mine ++ less)) (cond {A = List ℕ} b (f ∷ mine) mine ++ more)
one-step true f mine more less name others one same moved =
    subst (λ l. IsPermutation (f ∷ (mine ++ less)) (f ∷ (mine ++ l))) (sym (same (omega (arith, one))))
    (IsPermutation-refl (f ∷ (mine ++ less)))
one-step false f mine more less name others one same moved =
    IsPermutation-trans (f ∷ (mine ++ less)) (mine ++ f ∷ less) (mine ++ more)
    (IsPermutation-sym (mine ++ f ∷ less) (f ∷ (mine ++ less)) (IsPermutation-middle mine f less))
    (IsPermutation-append_right mine (f ∷ less) more (moved one))

-- a frame more is one more in the share of its sender
share-moves : (ws : List Way) (f : ℕ) (frames : List ℕ) (names : List (List ℕ)) → times_named names (way_at ws f).from ≡ 1
    → IsPermutation (f ∷ shares ws frames names) (shares ws (f ∷ frames) names)
share-moves ws f frames [] one = absurd (omega (arith, one))
share-moves ws f frames (name ∷ names) one =
    one-step (is_from ws name f) f (filter (is_from ws name) frames) (shares ws (f ∷ frames) names) (shares ws frames names) name
    (filter (λ other. is_name (way_at ws f).from other) names) one (share-none ws f frames names) (share-moves ws f frames names)

shares-moved : (ws : List Way) (frames : List ℕ) (names : List (List ℕ)) → Senders ws names frames
    → IsPermutation frames (shares ws frames names)
shares-moved ws [] names senders = subst (IsPermutation []) (sym (no-shares ws names)) (IsPermutation-refl [])
shares-moved ws (f ∷ frames) names senders =
    IsPermutation-trans (f ∷ frames) (f ∷ shares ws frames names) (shares ws (f ∷ frames) names)
    (IsPermutation-cons f frames (shares ws frames names) (shares-moved ws frames names senders.1))
    (share-moves ws f frames names senders.0)

apart-moved : (xs ys : List ℕ) → IsPermutation xs ys → AllPairs (λ a b. a ≢ b) xs → AllPairs (λ a b. a ≢ b) ys
apart-moved xs ys moved apart =
    AllPairs-from_IsDistinct {eq = nat_eq} Decides-eqb ys
    (IsDistinct-IsPermutation nat_eq eq-swaps xs ys moved (IsDistinct-from_AllPairs {eq = nat_eq} Decides-eqb xs apart))

rises : (a b : ℕ) → a ≤ b → a ≢ b → a < b
rises a b le apart = elim (cases_eq a b) [
  | inl same ↦ absurd (apart same)
  | inr other ↦ omega (arith, le, other)
]

-- what the outboxes of these names keep, sorted, is what awaits
pub gathered-in-order : (settings : SettingsValue) (log : List Record) (boxes : Outboxes) (names : List (List ℕ)) (frames : List ℕ)
    → KeepsPackets log → OutboxesMatch settings log boxes → AreSenders (frame_ways settings log) names (awaiting log)
    → IsPermutation (frames_kept boxes names) frames → AllPairs (λ frame other. frame ≤ other) frames → frames ≡ awaiting log
gathered-in-order settings log boxes names frames keeps match senders moved ordered =
    let ws = frame_ways settings log in
    let kept = frames_kept boxes names in
    let shared : IsPermutation (awaiting log) kept =
    subst (IsPermutation (awaiting log)) (sym (kept-is settings log boxes names match))
    (shares-moved ws (awaiting log) names (senders-from ws names (awaiting log) senders)) in
    let apart = apart-moved kept frames moved
    (apart-moved (awaiting log) kept shared (pairs_of (awaiting log) (awaiting-distinct log (keeps_from log keeps)))) in
    gathered-sorted log frames keeps
    (λ i j d less within. rises (get_or frames i d) (get_or frames j d) (ordered i j d less within) (apart i j d less within))
    (λ frame. sym (list_any-IsPermutation (λ other. nat_eq other frame) kept frames moved)
    ∙ gathered-is settings log boxes names match senders frame)

pub outboxes_together_holds : OutboxesTogether
outboxes_together_holds = record { gathered = gathered-is; count = gathered-count; packets = gathered-packets; sorted = gathered-sorted }
