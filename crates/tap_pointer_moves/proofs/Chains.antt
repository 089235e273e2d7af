-- Walks as chains of next hops, each node of which is entered once.
use Rattle.std.proofs.Common.{◌≡◌, ℕ, suc, ◌+◌, ◌<◌, ◌≤◌, List, [], ◌∷◌, length, slice_index_or, refl, ap, sym, subst, ◌∙◌, arith, inl, inr}
use Rattle.std.specs.List.{AllAdjacentBelow}
use Rattle.tap_name.specs.Prefix.{lcp}
use Rattle.tap_name.proofs.Prefixes.{lcp-itself, lcp-triangle}
use Rattle.tap_table.specs.declared.next.Next.{Next}
use Rattle.tap_table.specs.declared.next.Next.TheVariants.{Hop, Root}
use Rattle.tap_surrogate.specs.Entered.{Entered, IsChain, IsEnteredAfter}
use Rattle.tap_rule.specs.Sent.{IsAmong}

abbrev pub entry_at : List ℕ → ℕ → Entered
entry_at node level = record { node = node; level = level }

module _ (next : Entered → Next) where
  -- where a node of a chain leads is in the chain
  pub chain_next : (es : List Entered) (e : Entered) (to : List ℕ) (level : ℕ) → IsChain next es → IsAmong e es → next e ≡ Hop to level
      → IsAmong (entry_at to level) es
  chain_next [] e to level chain among leads = absurd among
  chain_next (a ∷ []) e to level chain (inl same) leads =
      let wrong : Root ≡ Hop to level = sym chain ∙ ap next (sym same) ∙ leads in absurd (cc)
  chain_next (a ∷ []) e to level chain (inr later) leads = absurd later
  chain_next (a ∷ b ∷ es) e to level (first, chain) (inl same) leads =
      let hop : Hop b.node b.level ≡ Hop to level = sym first ∙ ap next (sym same) ∙ leads in
      let node : b.node ≡ to = cc in
      let at : b.level ≡ level = cc in
      inr (inl (ap (λ n. entry_at n level) (sym node) ∙ ap (entry_at b.node) (sym at)))
  chain_next (a ∷ b ∷ es) e to level (first, chain) (inr later) leads = inr (chain_next (b ∷ es) e to level chain later leads)

  -- what holds of the first node, and of where each leads of which it holds, holds of each
  module _ (Q Of : Entered → Type 0) (on : (a b : Entered) → Q a → next a ≡ Hop b.node b.level → Of b → Q b) where
    pub chain_all : (a : Entered) (es : List Entered) → ((e : Entered) → IsAmong e (a ∷ es) → Of e) → IsChain next (a ∷ es) → Q a
        → (e : Entered) → IsAmong e (a ∷ es) → Q e
    chain_all a [] of chain first e (inl same) = subst Q (sym same) first
    chain_all a [] of chain first e (inr later) = absurd later
    chain_all a (b ∷ es) of chain first e (inl same) = subst Q (sym same) first
    chain_all a (b ∷ es) of (leads, chain) first e (inr later) =
        chain_all b es (λ f among. of f (inr among)) chain (on a b first leads (of b (inr (inl refl)))) e later

-- ---- nodes that are entered in turn

abbrev InTurn : List Entered → Type 0
InTurn [] = Unit {0}
InTurn (a ∷ []) = Unit {0}
InTurn (a ∷ b ∷ es) = IsEnteredAfter a b × InTurn (b ∷ es)

pub in_turn : (es : List Entered) → AllAdjacentBelow IsEnteredAfter es (length es) → InTurn es
in_turn [] adjacent = tt
in_turn (a ∷ []) adjacent = tt
in_turn (a ∷ b ∷ es) adjacent = (adjacent 0 a (omega arith), in_turn (b ∷ es) tail)
  where
    tail : AllAdjacentBelow IsEnteredAfter (b ∷ es) (length (b ∷ es))
    tail k d inside =
        let next : suc k + 1 ≡ suc (k + 1) = omega arith in
        let Is : ℕ → Type 0 = λ n. IsEnteredAfter (slice_index_or (a ∷ b ∷ es) (suc k) d) (slice_index_or (a ∷ b ∷ es) n d) in
        subst Is next (adjacent (suc k) d (omega (arith, inside)))

-- a node shares with each later one what it shares with the next
shared_later : (a b : Entered) (es : List Entered) → InTurn (a ∷ b ∷ es) → (f : Entered) → IsAmong f (b ∷ es)
    → lcp a.node f.node + 1 ≡ b.level
shared_later a b es (after, turn) f (inl same) =
    let shares = after.shares in
    let one : lcp a.node f.node ≡ lcp a.node b.node = ap (λ (e : Entered). lcp a.node e.node) same in
    omega (arith, shares, one)
shared_later a b [] turn f (inr later) = absurd later
shared_later a b (c ∷ es) (after, turn) f (inr later) =
    let more = shared_later b c es turn f later in
    let rises = turn.0.rises in
    let shares = after.shares in
    let near : lcp a.node b.node < lcp b.node f.node = omega (arith, more, rises, shares) in
    let same = (lcp-triangle a.node b.node f.node).below near in
    omega (arith, same, shares)

-- each is of a name of so many digits, and entered at no higher level
pub record IsWithin (digits : ℕ) (e : Entered) : Type 0 where
  pub named : length e.node ≡ digits
  pub level : e.level ≤ digits

module _ (digits : ℕ) where
  apart : (a b : Entered) (es : List Entered) → InTurn (a ∷ b ∷ es) → IsWithin digits a → IsWithin digits b → (f : Entered)
      → IsAmong f (b ∷ es) → a.node ≡ f.node → ⊥
  apart a b es turn one next f among same =
      let shares = shared_later a b es turn f among in
      let whole : lcp a.node f.node ≡ length a.node = ap (lcp a.node) (sym same) ∙ lcp-itself a.node in
      let len = one.named in
      let most = next.level in
      omega (arith, shares, whole, len, most)

  -- so no node is entered twice
  pub entered_once : (es : List Entered) → InTurn es → ((e : Entered) → IsAmong e es → IsWithin digits e) → (e f : Entered)
      → IsAmong e es → IsAmong f es → e.node ≡ f.node → e ≡ f
  entered_once [] turn within e f one other same = absurd one
  entered_once (a ∷ []) turn within e f (inl one) (inl other) same = one ∙ sym other
  entered_once (a ∷ []) turn within e f (inl one) (inr other) same = absurd other
  entered_once (a ∷ []) turn within e f (inr one) other same = absurd one
  entered_once (a ∷ b ∷ es) turn within e f (inl one) (inl other) same = one ∙ sym other
  entered_once (a ∷ b ∷ es) turn within e f (inl one) (inr other) same =
      absurd (apart a b es turn (within a (inl refl)) (within b (inr (inl refl))) f other
      (sym (ap (λ (x : Entered). x.node) one) ∙ same))
  entered_once (a ∷ b ∷ es) turn within e f (inr one) (inl other) same =
      absurd (apart a b es turn (within a (inl refl)) (within b (inr (inl refl))) e one
      (sym (ap (λ (x : Entered). x.node) other) ∙ sym same))
  entered_once (a ∷ b ∷ es) turn within e f (inr one) (inr other) same =
      entered_once (b ∷ es) turn.1 (λ g among. within g (inr among)) e f one other same
