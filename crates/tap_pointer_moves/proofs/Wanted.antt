-- Where pairs are laid.
-- Cited above: laid_as_wanted
use Rattle.std.proofs.Common.{◌≡◌, ℕ, ◌+◌, ◌≤◌, List, drop, length, Option, None, Some, All, refl, ap, sym, subst, ◌∙◌, inl, inr}
use Rattle.std.specs.BTreeMap.{is_at}
use Rattle.std.specs.Map.{lookup}
use Rattle.std.specs.Option.{unwrap_or}
use Rattle.tap_name.specs.Name.{IsName}
use Rattle.tap_name.specs.Prefix.{lcp}
use Rattle.tap_name.specs.Settings.{SettingsValue}
use Rattle.tap_table.specs.Next.{IsHop, next_from}
use Rattle.tap_table.specs.Table.{IsTable, TableValue}
use Rattle.tap_table.specs.declared.next.Next.{Next}
use Rattle.tap_table.specs.declared.next.Next.TheVariants.{Hop as HopTo, Root as AtRoot}
use Rattle.tap_table.proofs.Hops.{hop_exactly, hop_is}
use Rattle.tap_pointer.specs.declared.hop.Hop.{Hop}
use Rattle.tap_pointer.specs.declared.pair.Pair.{Pair}
use Rattle.tap_pointer.specs.declared.state.PairState.{PairState}
use Rattle.tap_pointer.specs.Due.{laid_at, wanted_at}
use Rattle.tap_pointer.specs.Pair.{pair_cmp}
use Rattle.tap_pointer.specs.Pointers.{IsPairState, PointersValue, level_held, nothing_known, state_of}
use Rattle.tap_pointer.specs.Reconcile.{AreLaid, hop_from, hop_of, wanted_hop}
use Rattle.tap_pointer.proofs.Known.{All-found}
use Rattle.tap_pointer.proofs.Levels.{level_most}
use Rattle.tap_rule.specs.Node.{IsRunning, NodeState}
use Rattle.tap_rule.proofs.Completed.{runs_or_ended}
use Rattle.tap_safety.specs.System.{System}
use Rattle.tap_safety_moves.specs.Sound.{Sound}
use Rattle.tap_pointer_moves.specs.Said.{laid_in, laid_of}
use Rattle.tap_pointer_moves.specs.LaysTold.{IsSeasoned, IsSeasonedNode, KnowNothing}
use Rattle.tap_pointer_moves.specs.Wanted.{IsCoreHop, LaidAtCore, WantedHolds}
use Rattle.tap_pointer_moves.proofs.PointerRules.{over_nothing}
use Rattle.tap_pointer_moves.proofs.Turns.{nothing_laid}

-- what is so of each known pair that has a level is so of the pair
module _ (pointers : PointersValue) (pair : Pair) where
  -- a pair of which nothing is known is laid nowhere, and wanted nowhere
  pub laid_as_wanted : (t : TableValue) → AreLaid t pointers → laid_at pointers pair ≡ wanted_at t pointers pair
  laid_as_wanted t laid = by_found (lookup (is_at (pair_cmp pair)) pointers.pairs) refl
    where
      by_found : (found : Option PairState) → lookup (is_at (pair_cmp pair)) pointers.pairs ≡ found
          → (unwrap_or found nothing_known).laid ≡ wanted_hop t (pair, unwrap_or found nothing_known)
      by_found None is = refl
      by_found (Some state) is = All-found (λ e. e.1.laid ≡ wanted_hop t e) pair state pointers.pairs laid is

  -- a pair that has a level is known
  pub level_known : (level : ℕ) → level_held (state_of pointers pair) ≡ Some level
      → (state : PairState) × (lookup (is_at (pair_cmp pair)) pointers.pairs ≡ Some state)
  level_known level held = by_found (lookup (is_at (pair_cmp pair)) pointers.pairs) refl held
    where
      by_found : (found : Option PairState) → lookup (is_at (pair_cmp pair)) pointers.pairs ≡ found
          → level_held (unwrap_or found nothing_known) ≡ Some level
          → (state : PairState) × (lookup (is_at (pair_cmp pair)) pointers.pairs ≡ Some state)
      by_found None is held = let wrong : ◌≡◌ {A = Option ℕ} None (Some level) = held in absurd (cc)
      by_found (Some state) is held = (state, is)

-- a hop that is wanted is the next one from the level at which the pair is held
pub record IsWantedHop (t : TableValue) (pointers : PointersValue) (pair : Pair) (hop : Hop) : Type 0 where
  pub level : ℕ
  pub held : level_held (state_of pointers pair) ≡ Some level
  pub next : next_from t level (drop level pair.object) ≡ HopTo hop.to hop.level
  pub name : IsName t.settings pair.object
  pub inside : level ≤ length pair.object
  pub hops : IsHop t level hop.to hop.level

module _ (t : TableValue) (valid : IsTable t) (pointers : PointersValue) (names : All (λ e. IsName t.settings e.0.object) pointers.pairs)
    (owner : List ℕ) (known : All (IsPairState owner) pointers.pairs) (pair : Pair) (hop : Hop) where
  next_is : (next : Next) → hop_of next ≡ Some hop → next ≡ HopTo hop.to hop.level
  next_is AtRoot is = let wrong : ◌≡◌ {A = Option Hop} None (Some hop) = is in cc
  next_is (HopTo to level) is =
      let same : record { to = to; level = level } ≡ hop = cc in
      ap (λ (h : Hop). HopTo h.to h.level) same

  pub wanted_is : wanted_at t pointers pair ≡ Some hop → IsWantedHop t pointers pair hop
  wanted_is wanted = by_level (level_held (state_of pointers pair)) refl
    where
      by_level : (held : Option ℕ) → level_held (state_of pointers pair) ≡ held → IsWantedHop t pointers pair hop
      by_level None is =
          let wrong : ◌≡◌ {A = Option Hop} None (Some hop) = sym (ap (hop_from t pair.object) is) ∙ wanted in absurd (cc)
      by_level (Some level) is =
          let there = level_known pointers pair level is in
          let name = All-found (λ e. IsName t.settings e.0.object) pair there.0 pointers.pairs names there.1 in
          let state = All-found (IsPairState owner) pair there.0 pointers.pairs known there.1 in
          let found : state_of pointers pair ≡ there.0 = ap (λ found. unwrap_or found nothing_known) there.1 in
          let inside = level_most (length pair.object) there.0 level state.levels_to (sym (ap level_held found) ∙ is) in
          let at : hop_of (next_from t level (drop level pair.object)) ≡ Some hop = sym (ap (hop_from t pair.object) is) ∙ wanted in
          let next = next_is (next_from t level (drop level pair.object)) at in
          record {
            level = level;
            held = is;
            next = next;
            name = name;
            inside = inside;
            hops = hop_is t pair.object hop.to hop.level level valid name ((hop_exactly t pair.object hop.to hop.level level inside).0 next);
          }

-- ---- in a system

pub wanted_holds : WantedHolds
wanted_holds p s sound = record {
  wanted = λ x node pair at runs.
      laid_as_wanted node.pointers pair node.ties.table ((sound.nodes.nodes x node at).laid runs);
}

module _ (p : SettingsValue) (s : System) (sound : Sound p s) (nothing : KnowNothing s) where
  -- who has laid a pair runs, and has laid it where it is wanted
  pub record HasLaid (x : List ℕ) (pair : Pair) (hop : Hop) : Type 0 where
    pub node : NodeState
    pub at : s.node x ≡ Some node
    pub runs : IsRunning node.status
    pub laid : laid_at node.pointers pair ≡ Some hop
    pub wanted : IsWantedHop node.ties.table node.pointers pair hop

  pub has_laid : (x : List ℕ) (pair : Pair) (hop : Hop) → laid_of s x pair ≡ Some hop → HasLaid x pair hop
  unfolding laid_of
  has_laid x pair hop laid = by_node (s.node x) refl
    where
      by_node : (found : Option NodeState) → s.node x ≡ found → HasLaid x pair hop
      by_node None none =
          let wrong : ◌≡◌ {A = Option Hop} None (Some hop) = sym (ap (λ n. laid_in n pair) none) ∙ laid in absurd (cc)
      by_node (Some node) at =
          let here : laid_at node.pointers pair ≡ Some hop = sym (ap (λ n. laid_in n pair) at) ∙ laid in
          elim (runs_or_ended node.status) [
            | inl runs ↦
                let of = sound.nodes.nodes x node at in
                let wanted = sym (laid_as_wanted node.pointers pair node.ties.table (of.laid runs)) ∙ here in
                record {
                  node = node;
                  at = at;
                  runs = runs;
                  laid = here;
                  wanted =
                      wanted_is node.ties.table of.is_node.ties.table node.pointers of.is_node.objects node.pointers.owner
                      of.is_node.pointers.known pair hop wanted;
                }
            | inr over ↦
                let none = nothing_laid node.pointers (nothing.nothing x node at (over_nothing node.status over)) pair in
                let wrong : ◌≡◌ {A = Option Hop} None (Some hop) = sym none ∙ here in
                absurd (cc)
          ]

  pub laid_at_core : (x : List ℕ) (pair : Pair) (hop : Hop) → laid_of s x pair ≡ Some hop → IsCoreHop s x hop
  laid_at_core x pair hop laid =
      let has = has_laid x pair hop laid in
      let of = sound.nodes.nodes x has.node has.at in
      let hops = has.wanted.hops in
      record {
        core = sound.invariant.basis.soft.settled x hop.to (record { state = has.node; is = has.at; link = hops.settled });
        shared = subst (λ y. lcp y hop.to + 1 ≡ hop.level) of.name hops.shared;
      }

  -- so it is core, or was
  pub laid_at_seasoned : (x : List ℕ) (pair : Pair) (hop : Hop) → laid_of s x pair ≡ Some hop → IsSeasonedNode s hop.to
  laid_at_seasoned x pair hop laid =
      let core = (laid_at_core x pair hop laid).core in
      record {
        state = core.state;
        is = core.is;
        seasoned = elim core.core [ inl is ↦ subst IsSeasoned (sym is) tt | inr is ↦ subst IsSeasoned (sym is) tt ];
      }

pub laid_at_core_holds : LaidAtCore
laid_at_core_holds p s sound nothing x pair hop laid = laid_at_core p s sound nothing x pair hop laid
