-- The words of a Hello are for names.
use Rattle.std.proofs.Common.{ℕ, ◌+◌, Bool, List, [], ◌∷◌, All, true, inl, inr}
use Rattle.std.specs.Prelude.{IfSome}
use Rattle.std.proofs.lemmas.Bool.{cases_Bool}
use Rattle.std.proofs.lemmas.List.Elements.{All-append, All-cons, All-head, All-nil, All-tail}
use Rattle.tap_name.specs.declared.slot.Offered.{Offered}
use Rattle.tap_name.specs.Name.{IsName}
use Rattle.tap_name.specs.Settings.{SettingsValue}
use Rattle.tap_table.specs.Ties.{TiesValue, stamp_after}
use Rattle.tap_join.specs.Hello.{hello_names, hello_tells, is_own, links_tell, offered_tells, with_offered, words_of}
use Rattle.tap_node_common.proofs.Ending.{IsToName, told_named}
use Rattle.tap_node_common.proofs.Sending.{all_words_of}

module _ (p : SettingsValue) where
  offered_named : (ties : TiesValue) (last : ℕ) (link : Offered) → IsName p link.name → IfSome (offered_tells ties last link) (IsToName p)
  offered_named ties last link is_name =
      elim (cases_Bool (is_own ties link)) [
        | inl own ↦ rw own tt
        | inr other ↦ rw other (elim (cases_Bool link.settled) [
          | inl settled ↦ rw settled (told_named p _ link.name (last + 1) true is_name)
          | inr pinned ↦ rw pinned (told_named p _ link.name (last + 1) true is_name)
        ])
      ]

  links_named : (links : List Offered) (ties : TiesValue) (last : ℕ) → All (λ link. IsName p link.name) links
      → All (IsToName p) (links_tell ties last links)
  links_named [] ties last names = All-nil (IsToName p)
  links_named (link ∷ links) ties last names =
      let word = offered_tells ties last link in
      let first = offered_named ties last link (All-head (λ (l : Offered). IsName p l.name) link links names) in
      All-append (IsToName p) (words_of word) (links_tell (with_offered ties link) (stamp_after last word) links)
      (all_words_of (IsToName p) word first)
      (links_named links (with_offered ties link) (stamp_after last word) (All-tail (λ (l : Offered). IsName p l.name) link links names))

  pub hello_named : (ties : TiesValue) (last : ℕ) (from : List ℕ) (core : Bool) (links : List Offered) → IsName p from
      → All (λ link. IsName p link.name) links → All (IsToName p) (hello_tells ties last from core links)
  hello_named ties last from core links sender names =
      links_named (hello_names from core links) ties last
      (All-cons (λ (l : Offered). IsName p l.name) (record { name = from; settled = core }) links sender names)
