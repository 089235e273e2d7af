-- What names of the settings share.
-- Cited above: lcp_whole, same_level, same_slot_near
use Rattle.std.proofs.Common.{◌≡◌, ℕ, ◌<◌, ◌≤◌, List, get_or, nat_eq, arith, ap, sym, ◌∙◌}
use Rattle.std.specs.List.{common_prefix_len}
use Rattle.tap_name.specs.declared.slot.Slot.{Slot}
use Rattle.tap_name.specs.Name.{IsName}
use Rattle.tap_name.specs.Prefix.{lcp}
use Rattle.tap_name.specs.Settings.{SettingsValue}
use Rattle.tap_name.proofs.Prefixes.{lcp-is, lcp-itself, lcp-more, lcp-most, lcp-whole}
use Rattle.tap_table.specs.Table.{place_of}

module _ (p : SettingsValue) where
  -- a name shares all its digits with itself
  pub lcp_itself : (a : List ℕ) → IsName p a → lcp a a ≡ p.digits
  lcp_itself a name = lcp-itself a ∙ name.len

  -- and no more with another one
  pub lcp_most : (a b : List ℕ) → IsName p a → lcp a b ≤ p.digits
  lcp_most a b name = let most = lcp-most a b in let len = name.len in omega (arith, most.0)

  -- names that share all digits are one
  pub lcp_whole : (a b : List ℕ) → IsName p a → IsName p b → p.digits ≤ lcp a b → a ≡ b
  lcp_whole a b one two all =
      let len = one.len in lcp-whole a b (len ∙ sym two.len) (omega arith)

-- names of one slot share as much with its owner
pub same_level : (own t first : List ℕ) → place_of own first ≡ place_of own t → lcp own first ≡ lcp own t
same_level own t first place = lcp-is own first ∙ ap (λ (s : Slot). s.level) place ∙ sym (lcp-is own t)

-- and more with each other
pub same_slot_near : (p : SettingsValue) (own t first : List ℕ) → IsName p t → IsName p first → lcp own t < p.digits
    → place_of own first ≡ place_of own t → lcp own t < lcp t first
same_slot_near p own t first one two inside place =
    let digit : get_or first (common_prefix_len nat_eq own first) 0 ≡ get_or t (common_prefix_len nat_eq own t) 0 =
    ap (λ (s : Slot). s.digit) place in
    let here : get_or t (lcp own t) 0 ≡ get_or t (common_prefix_len nat_eq own t) 0 = ap (λ l. get_or t l 0) (lcp-is own t) in
    let there : get_or first (common_prefix_len nat_eq own first) 0 ≡ get_or first (lcp own t) 0 =
    ap (λ l. get_or first l 0) (sym (lcp-is own first) ∙ same_level own t first place) in
    let one_len = one.len in
    let two_len = two.len in
    lcp-more own t first (omega arith) (omega arith) (same_level own t first place) (here ∙ sym digit ∙ there)
