-- Lays whose numbers rise: no two have one number, and of those to one node of one pair there is a last one.
use Rattle.std.proofs.Common.{◌≡◌, ◌⊎◌, ℕ, zero, suc, ◌+◌, ◌<◌, ◌≤◌, true, false, List, [], ◌∷◌, length, map, arith, ap, refl, subst, sym, ◌∙◌, inl, inr}
use Rattle.std.specs.List.{Contains, range_with_len}
use Rattle.std.proofs.lemmas.Bool.{cases_Bool}
use Rattle.std.proofs.lemmas.Cmp.{tied_itself}
use Rattle.std.specs.Prelude.{slice_index_or}
use Rattle.std.specs.Ordering.{is_eq}
use Rattle.tap_register.proofs.Orderings.{is_equal}
use Rattle.tap_pointer.specs.declared.lay.Lay.{Lay}
use Rattle.tap_pointer.specs.declared.pair.Pair.{Pair}
use Rattle.tap_pointer.specs.Due.{pair_of_lay}
use Rattle.tap_pointer.specs.Pair.{pair_cmp, pair_cmp-total}
use Rattle.tap_pointer.proofs.Known.{pair_cmp-equal}
use Rattle.tap_pointer.proofs.Laws.{is_same}
use Rattle.tap_rule.specs.Sent.{IsAmong}
use Rattle.tap_moves.proofs.Got.{same_name}

-- what a list contains is among it
module _ {X : Type 0} where
  at_place : (x : X) (ys : List X) (k : ℕ) → k < length ys → slice_index_or ys k x ≡ x → IsAmong x ys
  at_place x [] k inside is = absurd (omega (arith, inside))
  at_place x (y ∷ ys) zero inside is = inl (sym is)
  at_place x (y ∷ ys) (suc k) inside is = inr (at_place x ys k (omega (arith, inside)) is)

  pub contains_among : (xs : List X) (x : X) → Contains xs x → IsAmong x xs
  contains_among xs x contains = at_place x xs contains.0 contains.1 contains.2

-- two pairs are one, or aren't
pub same_pair : (a b : Pair) → (a ≡ b) ⊎ (a ≡ b → ⊥)
same_pair a b =
    elim (cases_Bool (is_same a b)) [
      | inl same ↦ inl (pair_cmp-equal a b (is_equal (pair_cmp a b) same))
      | inr apart ↦
          inr (λ same.
          let wrong : false ≡ true = sym apart ∙ ap (λ p. is_same p b) same ∙ ap is_eq (tied_itself pair_cmp-total b) in
          cc)
    ]

-- these Lays have numbers that rise, from above this one up to that one
abbrev pub Rise : ℕ → List Lay → ℕ → Type 0
Rise low [] high = low ≤ high
Rise low (l ∷ ls) high = (low < l.version) × Rise l.version ls high

pub rise_numbered : (last : ℕ) (ls : List Lay) → map (λ l. l.version) ls ≡ range_with_len (last + 1) (length ls)
    → Rise last ls (last + length ls)
rise_numbered last [] is = omega arith
rise_numbered last (l ∷ ls) is =
    let first : l.version ≡ last + 1 = cc in
    let others : map (λ (m : Lay). m.version) ls ≡ range_with_len (last + 1 + 1) (length ls) = cc in
    let rest = rise_numbered (last + 1) ls others in
    let end : (last + 1) + length ls ≡ last + length (l ∷ ls) = omega arith in
    (omega (arith, first), subst (λ n. Rise n ls (last + length (l ∷ ls))) (sym first) (rw (← end) rest))

pub rise_lower : (low from : ℕ) (ls : List Lay) (high : ℕ) → low ≤ from → Rise from ls high → Rise low ls high
rise_lower low from [] high less rise = omega arith
rise_lower low from (l ∷ ls) high less (least, later) = (omega arith, later)

pub rise_up : (low : ℕ) (ls : List Lay) (high : ℕ) → Rise low ls high → low ≤ high
rise_up low [] high rise = rise
rise_up low (l ∷ ls) high (least, later) = let more = rise_up l.version ls high later in omega arith

pub rise_above : (low : ℕ) (ls : List Lay) (high : ℕ) (l : Lay) → Rise low ls high → IsAmong l ls → low < l.version
rise_above low [] high l rise among = absurd among
rise_above low (m ∷ ls) high l (least, later) (inl is) =
    let same : l.version ≡ m.version = ap (λ (x : Lay). x.version) is in omega (arith, least, same)
rise_above low (m ∷ ls) high l (least, later) (inr among) =
    let more = rise_above m.version ls high l later among in omega (arith, least, more)

pub rise_below : (low : ℕ) (ls : List Lay) (high : ℕ) (l : Lay) → Rise low ls high → IsAmong l ls → l.version ≤ high
rise_below low [] high l rise among = absurd among
rise_below low (m ∷ ls) high l (least, later) (inl is) =
    let same : l.version ≡ m.version = ap (λ (x : Lay). x.version) is in
    let more = rise_up m.version ls high later in
    omega (arith, same, more)
rise_below low (m ∷ ls) high l (least, later) (inr among) = rise_below m.version ls high l later among

-- no two have one number
pub rise_once : (low : ℕ) (ls : List Lay) (high : ℕ) (a b : Lay) → Rise low ls high → IsAmong a ls → IsAmong b ls
    → a.version ≡ b.version → a ≡ b
rise_once low [] high a b rise one other same = absurd one
rise_once low (l ∷ ls) high a b (least, later) (inl one) (inl other) same = one ∙ sym other
rise_once low (l ∷ ls) high a b (least, later) (inl one) (inr other) same =
    let more = rise_above l.version ls high b later other in
    let here : a.version ≡ l.version = ap (λ (x : Lay). x.version) one in
    absurd (omega (arith, more, here, same))
rise_once low (l ∷ ls) high a b (least, later) (inr one) (inl other) same =
    let more = rise_above l.version ls high a later one in
    let here : b.version ≡ l.version = ap (λ (x : Lay). x.version) other in
    absurd (omega (arith, more, here, same))
rise_once low (l ∷ ls) high a b (least, later) (inr one) (inr other) same = rise_once l.version ls high a b later one other same

-- ---- the last one to a node of a pair

module _ (t : List ℕ) (pair : Pair) where
  abbrev pub IsAbout : Lay → Type 0
  IsAbout l = (l.to ≡ t) × (pair_of_lay l ≡ pair)

  is_about : (l : Lay) → IsAbout l ⊎ (IsAbout l → ⊥)
  is_about l =
      elim (same_name l.to t) [
        | inl to ↦ elim (same_pair (pair_of_lay l) pair) [
          | inl of ↦ inl (to, of)
          | inr apart ↦ inr (λ about. apart about.1)
        ]
        | inr apart ↦ inr (λ about. apart about.0)
      ]

  -- none of these is to the node, of the pair; or one is, and each other one has a lower number
  pub record IsLastOf (ls : List Lay) (l : Lay) : Type 0 where
    pub among : IsAmong l ls
    pub about : IsAbout l
    pub last : (m : Lay) → IsAmong m ls → IsAbout m → (m ≡ l) ⊎ (m.version < l.version)

  pub last_of : (low : ℕ) (ls : List Lay) (high : ℕ) → Rise low ls high
      → ((l : Lay) → IsAmong l ls → IsAbout l → ⊥) ⊎ ((l : Lay) × IsLastOf ls l)
  last_of low [] high rise = inl (λ l among about. absurd among)
  last_of low (l ∷ ls) high (least, later) =
      elim (last_of l.version ls high later) [
        | inl none ↦ elim (is_about l) [
          | inl about ↦
              inr (
                l,
                record {
                  among = inl refl;
                  about = about;
                  last = λ m among is. elim among [ inl same ↦ inl same | inr rest ↦ absurd (none m rest is) ];
                },
              )
          | inr apart ↦
              inl (λ m among is. elim among [
                | inl same ↦
                    apart (sym (ap (λ (x : Lay). x.to) same) ∙ is.0, sym (ap (λ (x : Lay). pair_of_lay x) same) ∙ is.1)
                | inr rest ↦ none m rest is
              ])
        ]
        | inr found ↦
            let above = rise_above l.version ls high found.0 later found.1.among in
            inr (
              found.0,
              record {
                among = inr found.1.among;
                about = found.1.about;
                last = λ m among is. elim among [
                  | inl same ↦
                      let here : m.version ≡ l.version = ap (λ (x : Lay). x.version) same in
                      inr (omega (arith, above, here))
                  | inr rest ↦ found.1.last m rest is
                ];
              },
            )
      ]
