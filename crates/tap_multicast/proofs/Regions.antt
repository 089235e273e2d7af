-- Where a cover reaches: its targets share the joiner's prefix, and what is offered in a watched slot fits it at the joiner.
-- Cited above: joiner_is_name, MayBeTold, prefix_within, primary_fits, targets_near
use Rattle.std.proofs.Common.{◌≡◌, ℕ, ◌<◌, ◌≤◌, Option, Some, List, get_or, arith, ap, refl, sym, ◌∙◌, inl, inr}
use Rattle.std.specs.Prelude.{nat_le, nat_lt}
use Rattle.std.proofs.lemmas.Bool.{and_parts, cases_lt, leb-true}
use Rattle.tap_name.specs.declared.slot.Slot.{Slot}
use Rattle.tap_name.specs.Name.{IsName}
use Rattle.tap_name.specs.Prefix.{lcp}
use Rattle.tap_name.specs.Slot.{Fits}
use Rattle.tap_name.proofs.Near.{ball-both, slot_at-some}
use Rattle.tap_name.proofs.Prefixes.{lcp-digits, lcp-is}
use Rattle.tap_name.proofs.Slots.{same_slot}
use Rattle.tap_link.specs.declared.kind.Kind.TheVariants.{Pin}
use Rattle.tap_link.specs.LinkSet.{least_settled}
use Rattle.tap_table.specs.Table.{IsTable, TableValue, links_at, place_of}
use Rattle.tap_table.proofs.Found.{linked_is_name, linked_is_other}
use Rattle.tap_table.proofs.Slots.{place_inside}
use Rattle.tap_table.specs.Levels.{is_between}
use Rattle.tap_watch.specs.Watch.{IsWatched}
use Rattle.tap_multicast.specs.declared.cover.Cover.{Cover}
use Rattle.tap_multicast.specs.declared.target.Target.{Target}
use Rattle.tap_multicast.specs.Covers.{MayCover, cover_of}
use Rattle.tap_multicast.proofs.Linked.{primary_stands}
use Rattle.tap_multicast.proofs.Telling.{IsTarget}

-- a target that a word of a joiner with this prefix may be sent to
pub record MayBeTold (t : TableValue) (joiner : List ℕ) (prefix : ℕ) (target : Target) : Type 0 where
  pub is_name : IsName t.settings target.to
  pub above : prefix < target.level
  pub within : target.level ≤ t.settings.digits
  pub near : prefix ≤ lcp joiner target.to

-- the levels that are told are those from the prefix on
told_from : (t : TableValue) (cover : Cover) (target : Target) → cover.prefix ≤ cover.level → IsTarget t cover target
    → cover.prefix ≤ lcp t.owner target.to
told_from t cover target from is =
    let level = lcp t.owner target.to in
    elim is.which [
      | inl now ↦
          let parts = and_parts (nat_le cover.level level) (nat_lt level cover.before) now.0 in
          omega (arith, from, leb-true cover.level level parts.0)
      | inr introduced ↦
          let both = and_parts cover.first (is_between cover.prefix cover.level level) introduced.0 in
          let parts = and_parts (nat_le cover.prefix level) (nat_lt level cover.level) both.1 in
          leb-true cover.prefix level parts.0
    ]

-- the slot of this level in which a name stands
abbrev slot_on : List ℕ → ℕ → Slot
slot_on name level = record { level = level; digit = get_or name level 0 }

own_slot : (owner name : List ℕ) (slot : Slot) → place_of owner name ≡ slot → slot_on name slot.level ≡ slot
own_slot owner name slot place =
    let digit : get_or name slot.level 0 ≡ slot.digit =
    ap (λ (s : Slot). get_or name s.level 0) (sym place) ∙ ap (λ (s : Slot). s.digit) place in
    same_slot (slot_on name slot.level) slot refl digit

module _ (t : TableValue) (valid : IsTable t) (watch : List Slot) (joiner : List ℕ) (prefix level : ℕ)
    (may : MayCover t watch joiner prefix level) where
  pub joiner_is_name : IsName t.settings joiner
  joiner_is_name = linked_is_name t valid joiner Pin may.pinned

  pub prefix_within : prefix < t.settings.digits
  prefix_within =
      let inside = place_inside t.settings t.owner joiner valid.owner joiner_is_name (linked_is_other t valid joiner Pin may.pinned) in
      omega (arith, may.shared, lcp-is t.owner joiner, inside.0)

  -- each target is told at a level above the prefix, and shares the prefix with the joiner
  pub targets_near : (kept : Option ℕ) (target : Target) → IsTarget t (cover_of t kept joiner prefix level) target
      → MayBeTold t joiner prefix target
  targets_near kept target is =
      let is_name = linked_is_name t valid target.to is.kind is.linked in
      let inside = place_inside t.settings t.owner target.to valid.owner is_name is.other in
      let from = told_from t (cover_of t kept joiner prefix level) target may.within_level is in
      record {
        is_name = is_name;
        above = omega (arith, is.level, from);
        within = omega (arith, is.level, lcp-is t.owner target.to, inside.0);
        near = ball-both t.owner joiner target.to prefix may.shared from;
      }

  -- the primary of a watched slot fits this slot at the joiner
  pub primary_fits : (slot : Slot) → IsWatched t.settings joiner prefix slot → (name : List ℕ)
      → least_settled (links_at t slot) ≡ Some name → Fits joiner name slot
  primary_fits slot watched name is =
      let place = (primary_stands t valid slot watched.digit name is).1 in
      let shared : lcp t.owner name ≡ slot.level = lcp-is t.owner name ∙ ap (λ (s : Slot). s.level) place in
      let stands = own_slot t.owner name slot place in
      let near = ball-both t.owner joiner name slot.level (omega (arith, watched.level, may.shared)) (omega (arith, shared)) in
      let level : lcp joiner name ≡ slot.level = elim (cases_lt slot.level (lcp joiner name)) [
        | inl more ↦
            let own = lcp-digits joiner name slot.level more in
            absurd (watched.other (sym (own ∙ ap (λ (s : Slot). s.digit) stands)))
        | inr most ↦ omega (arith, near, most)
      ] in
      slot_at-some joiner name (omega (arith, level, watched.level, prefix_within, joiner_is_name.len))
      ∙ ap (λ l. Some (slot_on name l)) level ∙ ap Some stands
