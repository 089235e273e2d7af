-- The pins among the links that are left, one link at a time.
use Rattle.std.proofs.Common.{◌≡◌, ℕ, ◌+◌, ◌<◌, true, false, Some, List, [], ◌∷◌, length, drop, get_or, map, slice_get, ap, sym, refl, ◌∙◌}
use Rattle.std.proofs.lemmas.List.{drop_more}
use Rattle.std.proofs.lemmas.Option.{slice_get-get_or, slice_get-map}
use Rattle.std.specs.Option.{option_map}
use Rattle.tap_link.specs.declared.kind.Kind.{Kind}
use Rattle.tap_link.specs.declared.kind.Kind.TheVariants.{Pin}
use Rattle.tap_link.specs.Entry.{LinkEntry}
use Rattle.tap_link.specs.LinkSet.{is_pinned}
use Rattle.tap_table.specs.Table.{SlotLinks}
use Rattle.tap_cast.specs.Targets.{pins_of}

module _ (links : SlotLinks) (i : ℕ) (inside : i < length links) where
  abbrev here : LinkEntry (List ℕ)
  here = get_or links i (record { target = []; kind = Pin })

  got : slice_get links i ≡ Some here
  got = slice_get-get_or links i (record { target = []; kind = Pin }) inside

  kind_is : (kind : Kind) → slice_get (map (λ e. e.kind) links) i ≡ Some kind → here.kind ≡ kind
  kind_is kind is =
      let same : Some here.kind ≡ Some kind =
      sym (slice_get-map (λ (e : LinkEntry (List ℕ)). e.kind) links i ∙ ap (option_map (λ (e : LinkEntry (List ℕ)). e.kind)) got) ∙ is in
      cc

  target_is : (name : List ℕ) → slice_get (map (λ e. e.target) links) i ≡ Some name → here.target ≡ name
  target_is name is =
      let same : Some here.target ≡ Some name =
      sym (slice_get-map (λ (e : LinkEntry (List ℕ)). e.target) links i ∙ ap (option_map (λ (e : LinkEntry (List ℕ)). e.target)) got) ∙ is in
      cc

  parts : drop i links ≡ here ∷ drop (i + 1) links
  parts = drop_more links i (record { target = []; kind = Pin }) inside

  pub pin_first : (kind : Kind) (name : List ℕ) → slice_get (map (λ e. e.kind) links) i ≡ Some kind
      → slice_get (map (λ e. e.target) links) i ≡ Some name → is_pinned (Some kind) ≡ true
      → pins_of (drop i links) ≡ name ∷ pins_of (drop (i + 1) links)
  pin_first kind name kinds names pinned =
      let test : is_pinned (Some here.kind) ≡ true = ap (λ k. is_pinned (Some k)) (kind_is kind kinds) ∙ pinned in
      ap pins_of parts ∙ rw test (ap (λ n. n ∷ pins_of (drop (i + 1) links)) (target_is name names))

  pub other_first : (kind : Kind) → slice_get (map (λ e. e.kind) links) i ≡ Some kind → is_pinned (Some kind) ≡ false
      → pins_of (drop i links) ≡ pins_of (drop (i + 1) links)
  other_first kind kinds other =
      let test : is_pinned (Some here.kind) ≡ false = ap (λ k. is_pinned (Some k)) (kind_is kind kinds) ∙ other in
      ap pins_of parts ∙ rw test refl
