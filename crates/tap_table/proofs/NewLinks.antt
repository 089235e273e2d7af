-- Pins and offers: which kinds are new after them, and which words they give.
-- Cited above: link_word, offered_rule_new, pinned_rule_new, word_given
use Rattle.std.proofs.Common.{◌≡◌, ◌⊎◌, ℕ, ◌+◌, Bool, true, false, Option, None, Some, List, sym, refl, inl, inr}
use Rattle.std.specs.Ordering.{is_eq}
use Rattle.std.proofs.lemmas.Bool.{cases_Bool}
use Rattle.tap_link.specs.declared.kind.Kind.{Kind}
use Rattle.tap_link.specs.declared.kind.Kind.TheVariants.{Pin, Settled}
use Rattle.tap_link.proofs.TargetKinds.{kind_offered, kind_pinned}
use Rattle.tap_table.specs.declared.tie.Tie.{Tie}
use Rattle.tap_table.specs.Table.{name_cmp}
use Rattle.tap_table.specs.Ties.{tie_where}
use Rattle.tap_table.proofs.LookUps.{by_rule}
use Rattle.tap_table.proofs.Near.{tied_names}

-- a kind that is there after a pin or an offer was there before, or it is new: then there was none, and room if it is settled
pinned_new : (found : Option Kind) (kind : Kind) → kind_pinned found ≡ Some kind → (found ≡ Some kind) ⊎ (kind ≡ Pin)
pinned_new None kind is = let same : Pin ≡ kind = cc in inr (sym same)
pinned_new (Some k) kind is = inl is

offered_new : (found : Option Kind) (room : Bool) (kind : Kind) → kind_offered room found ≡ Some kind
    → (found ≡ Some kind) ⊎ ((kind ≡ Settled) × (room ≡ true))
offered_new None true kind is = let same : Settled ≡ kind = cc in inr (sym same, refl)
offered_new None false kind is = cc
offered_new (Some k) room kind is = inl is

-- what a rule makes of a name was so before, or it is the rule's own name and new
module _ (name other : List ℕ) (rule : Option Kind → Option Kind) (found : Option Kind) (kind : Kind) (New : Type 0) where
  new_by_rule : (rule found ≡ Some kind → (found ≡ Some kind) ⊎ New) → by_rule name other rule found ≡ Some kind
      → (found ≡ Some kind) ⊎ ((other ≡ name) × New)
  new_by_rule says is =
      elim (cases_Bool (is_eq (name_cmp other name))) [
        | inl tied ↦
            let here : rule found ≡ Some kind = rw tied at is in
            elim (says here) [ inl was ↦ inl was | inr new ↦ inr (tied_names other name tied, new) ]
        | inr apart ↦ inl (rw apart at is)
      ]

pub pinned_rule_new : (name other : List ℕ) (found : Option Kind) (kind : Kind) → by_rule name other kind_pinned found ≡ Some kind
    → (found ≡ Some kind) ⊎ ((other ≡ name) × (kind ≡ Pin))
pinned_rule_new name other found kind is = new_by_rule name other kind_pinned found kind (kind ≡ Pin) (pinned_new found kind) is

pub offered_rule_new : (name other : List ℕ) (room : Bool) (found : Option Kind) (kind : Kind)
    → by_rule name other (kind_offered room) found ≡ Some kind
    → (found ≡ Some kind) ⊎ ((other ≡ name) × (kind ≡ Settled) × (room ≡ true))
offered_rule_new name other room found kind is =
    let New : Type 0 = (kind ≡ Settled) × (room ≡ true) in
    elim (new_by_rule name other (kind_offered room) found kind New (offered_new found room kind) is) [
      | inl was ↦ inl was
      | inr new ↦ inr (new.0, new.1.0, new.1.1)
    ]

-- the word for a node that there is a link to it, with the number after this one
abbrev pub link_word : ℕ → List ℕ → Tie
link_word last name = record { to = name; version = last + 1; on = true }

-- it is given only if the node is told
pub word_given : (told : Bool) (last : ℕ) (name : List ℕ) (tie : Tie) → tie_where told name (last + 1) true ≡ Some tie
    → (told ≡ true) × (link_word last name ≡ tie)
word_given true last name tie is = let same : link_word last name ≡ tie = cc in (refl, same)
word_given false last name tie is = cc
