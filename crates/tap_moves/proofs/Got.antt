-- What stands at a place of a list is among it: targets, offered links, and frames that are sent; and names are the same or not.
-- Cited above: all_among, among_all, among_got, offered_got, same_name, sent_among
pub use Rattle.tap_rule.proofs.Among.{all_among, among_all}
use Rattle.std.proofs.Common.{◌≡◌, ◌≢◌, ◌⊎◌, ℕ, zero, suc, nat_eq, Bool, List, [], ◌∷◌, Some, slice_get, ap, sym, ◌∙◌, inl, inr}
use Rattle.std.specs.Cmp.Lexicographic.{pointwise}
use Rattle.std.proofs.lemmas.Bool.{cases_Bool, true≢false}
use Rattle.std.proofs.lemmas.Slice.Eq.{bytes_eq-Decides}
use Rattle.tap_name.specs.declared.slot.Offered.{Offered}
use Rattle.tap_wire.specs.declared.frame.Body.{Body}
use Rattle.tap_wire.specs.declared.frame.Frame.{Frame}
use Rattle.tap_rule.specs.Sent.{IsAmong}
use Rattle.tap_safety.specs.System.{AmongOffered}
use Rattle.tap_safety.specs.Exchanges.{IsSent}

pub among_got : {A : Type 0} (x : A) (xs : List A) (k : ℕ) → slice_get xs k ≡ Some x → IsAmong x xs
among_got x [] k got = cc
among_got x (y ∷ ys) zero got = let same : y ≡ x = cc in inl (sym same)
among_got x (y ∷ ys) (suc k) got = inr (among_got x ys k got)

pub offered_got : (x : List ℕ) (settled : Bool) (links : List Offered) (k : ℕ)
    → slice_get links k ≡ Some (record { name = x; settled = settled }) → AmongOffered x links
offered_got x settled [] k got = cc
offered_got x settled (link ∷ links) zero got =
    let same : link ≡ record { name = x; settled = settled } = cc in inl (sym (ap (λ (l : Offered). l.name) same))
offered_got x settled (link ∷ links) (suc k) got = inr (offered_got x settled links k got)

pub sent_among : (from to : List ℕ) (body : Body) (sent : List Frame) → IsAmong (record { from = from; to = to; body = body }) sent
    → IsSent sent from to body
sent_among from to body [] among = absurd among
sent_among from to body (frame ∷ frames) (inl is) = inl is
sent_among from to body (frame ∷ frames) (inr later) = inr (sent_among from to body frames later)

pub same_name : (a b : List ℕ) → (a ≡ b) ⊎ (a ≢ b)
same_name a b = elim (cases_Bool (pointwise nat_eq a b)) [
  | inl same ↦ inl ((bytes_eq-Decides a b).0 same)
  | inr apart ↦ inr (λ is. true≢false (sym ((bytes_eq-Decides a b).1 is) ∙ apart))
]
