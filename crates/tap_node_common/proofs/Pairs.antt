-- The pairs of a node are of names, and laid on to names, whatever is put in.
-- Cited above: hops-all_withdrawn, hops-published, hops-withdrawn, named-all_withdrawn, named-published, named-put, named-reconciled, named-withdrawn
use Rattle.std.proofs.Common.{◌≡◌, ℕ, ◌≤◌, drop, length, List, [], ◌∷◌, Option, None, Some, All, true, false, arith, refl, sym, subst, ◌∙◌, inl, inr}
use Rattle.std.specs.Prelude.{IfSome}
use Rattle.std.specs.BTreeMap.{is_at}
use Rattle.std.specs.Map.{lookup}
use Rattle.std.specs.Option.{unwrap_or}
use Rattle.std.proofs.lemmas.Bool.{cases_Bool}
use Rattle.std.proofs.lemmas.List.Elements.{All-head, All-map, All-tail}
use Rattle.tap_name.specs.Name.{IsName}
use Rattle.tap_name.specs.Settings.{SettingsValue}
use Rattle.tap_table.specs.declared.next.Next.{Next}
use Rattle.tap_table.specs.declared.next.Next.TheVariants.{Root, Hop as HopTo}
use Rattle.tap_table.specs.Next.{IsHop, next_from}
use Rattle.tap_table.specs.Table.{IsTable, TableValue}
use Rattle.tap_table.proofs.Hops.{hop_exactly, hop_is}
use Rattle.tap_pointer.specs.declared.hop.Hop.{Hop}
use Rattle.tap_pointer.specs.declared.pair.Pair.{Pair}
use Rattle.tap_pointer.specs.declared.state.PairState.{PairState}
use Rattle.tap_pointer.specs.declared.state.Pointer.{Pointer}
use Rattle.tap_pointer.specs.Pair.{pair_cmp, pair_cmp-total}
use Rattle.tap_pointer.specs.Pointers.{IsPairState, IsPointers, PointersValue, all_withdrawn, is_held, is_of, lay_applied, level_held, nothing_known, own_pair, owner_publishes, published, server_among, server_for, state_of, with_lay, with_published, with_state, withdrawn}
use Rattle.tap_pointer.specs.Reconcile.{AreLaid, AreNamesHeld, hop_from, hop_of, reconciled, wanted_hop, with_wanted}
use Rattle.tap_pointer.proofs.Entries.{All-put}
use Rattle.tap_pointer.proofs.Known.{All-found, pair_cmp-equal}
use Rattle.tap_pointer.proofs.Levels.{level_most}
use Rattle.tap_pointer.proofs.Lookups.{server-first, server-not_held, server-other}
use Rattle.tap_wire.specs.Spelling.{IsLevel}
use Rattle.tap_node_common.specs.SoundNode.{AreNamedHops, PairsHaveNames}

-- a hop to a name, which goes on at a level, if there is one
abbrev pub IsNamedHop : SettingsValue → Option Hop → Type 0
IsNamedHop p hop = IfSome hop (λ h. IsName p h.to × IsLevel p h.level)

module _ (p : SettingsValue) (pointers : PointersValue) where
  -- the objects that are held or laid are names
  pub names_held : PairsHaveNames p pointers → AreNamesHeld p pointers
  names_held named = λ k d within held. (named k d within).0

  -- one more pair
  pub named-put : (pair : Pair) (state : PairState) → IsName p pair.object × IsName p pair.server → PairsHaveNames p pointers
      → PairsHaveNames p (with_state pointers pair state)
  named-put pair state is named =
      All-put pair_cmp-total pair state (λ e. IsName p e.0.object × IsName p e.0.server)
      (λ other tied. subst (λ (k : Pair). IsName p k.object × IsName p k.server) (pair_cmp-equal pair other tied) is) pointers.pairs named

  hops-put : (pair : Pair) (state : PairState) → IsNamedHop p state.laid → AreNamedHops p pointers
      → AreNamedHops p (with_state pointers pair state)
  hops-put pair state is hops = All-put pair_cmp-total pair state (λ e. IsNamedHop p e.1.laid) (λ other tied. is) pointers.pairs hops

  -- where a pair is laid on to
  hop-of : (pair : Pair) → AreNamedHops p pointers → IsNamedHop p (state_of pointers pair).laid
  hop-of pair hops = by_found (lookup (is_at (pair_cmp pair)) pointers.pairs) refl
    where
      by_found : (found : Option PairState) → lookup (is_at (pair_cmp pair)) pointers.pairs ≡ found
          → IsNamedHop p (unwrap_or found nothing_known).laid
      by_found None is = tt
      by_found (Some state) is = All-found (λ e. IsNamedHop p e.1.laid) pair state pointers.pairs hops is

  -- the hops stay at a publication, a withdrawal and a Lay
  pub hops-published : (object : List ℕ) → AreNamedHops p pointers → AreNamedHops p (published pointers object)
  hops-published object hops =
      let own = own_pair pointers object in hops-put own (with_published (state_of pointers own) true) (hop-of own hops) hops

  pub hops-withdrawn : (object : List ℕ) → AreNamedHops p pointers → AreNamedHops p (withdrawn pointers object)
  hops-withdrawn object hops =
      let own = own_pair pointers object in
      elim (cases_Bool (owner_publishes pointers object)) [
        | inl is ↦ rw is (hops-put own (with_published (state_of pointers own) false) (hop-of own hops) hops)
        | inr is_not ↦ rw is_not hops
      ]

  pub hops-all_withdrawn : AreNamedHops p pointers → AreNamedHops p (all_withdrawn pointers)
  hops-all_withdrawn hops =
      All-map (λ e. IsNamedHop p e.1.laid) (λ e. (e.0, with_published e.1 false)) pointers.pairs hops

  pub hops-lay_applied : (pair : Pair) (from : List ℕ) (version : ℕ) (pointer : Pointer) → AreNamedHops p pointers
      → AreNamedHops p (lay_applied pointers pair from version pointer)
  hops-lay_applied pair from version pointer hops =
      hops-put pair (with_lay (state_of pointers pair) from version pointer) (hop-of pair hops) hops

  -- and so do the pairs at a withdrawal, a publication and a Lay of names, and at reconciling
  pub named-published : (object : List ℕ) → IsName p object → IsName p pointers.owner → PairsHaveNames p pointers
      → PairsHaveNames p (published pointers object)
  named-published object is_name owner named =
      let own = own_pair pointers object in named-put own (with_published (state_of pointers own) true) (is_name, owner) named

  pub named-withdrawn : (object : List ℕ) → IsName p object → IsName p pointers.owner → PairsHaveNames p pointers
      → PairsHaveNames p (withdrawn pointers object)
  named-withdrawn object is_name owner named =
      let own = own_pair pointers object in
      elim (cases_Bool (owner_publishes pointers object)) [
        | inl is ↦ rw is (named-put own (with_published (state_of pointers own) false) (is_name, owner) named)
        | inr is_not ↦ rw is_not named
      ]

  pub named-lay_applied : (pair : Pair) (from : List ℕ) (version : ℕ) (pointer : Pointer) → IsName p pair.object × IsName p pair.server
      → PairsHaveNames p pointers → PairsHaveNames p (lay_applied pointers pair from version pointer)
  named-lay_applied pair from version pointer is named =
      named-put pair (with_lay (state_of pointers pair) from version pointer) is named

  pub named-all_withdrawn : PairsHaveNames p pointers → PairsHaveNames p (all_withdrawn pointers)
  named-all_withdrawn named =
      All-map (λ e. IsName p e.0.object × IsName p e.0.server) (λ e. (e.0, with_published e.1 false)) pointers.pairs named

  pub named-reconciled : (t : TableValue) → PairsHaveNames p pointers → PairsHaveNames p (reconciled t pointers)
  named-reconciled t named = All-map (λ e. IsName p e.0.object × IsName p e.0.server) (with_wanted t) pointers.pairs named

-- what is wanted of pairs of names is a hop to a name
module _ (t : TableValue) (valid : IsTable t) (owner : List ℕ) where
  hop_named : (object : List ℕ) (level : ℕ) → IsName t.settings object → level ≤ length object → (next : Next)
      → next_from t level (drop level object) ≡ next → IsNamedHop t.settings (hop_of next)
  hop_named object level is_name inside Root is = tt
  hop_named object level is_name inside (HopTo to next) is =
      let hop : IsHop t level to next = hop_is t object to next level valid is_name ((hop_exactly t object to next level inside).0 is) in
      (hop.is_name, (omega (arith, hop.above), hop.within))

  level_named : (object : List ℕ) (level : Option ℕ) → IsName t.settings object → IfSome level (λ l. l ≤ length object)
      → IsNamedHop t.settings (hop_from t object level)
  level_named object None is_name inside = tt
  level_named object (Some level) is_name inside =
      hop_named object level is_name inside (next_from t level (drop level object)) refl

  level_inside : (most : ℕ) (state : PairState) → All (λ r. r.value.level ≤ most) state.registers → (level : Option ℕ)
      → level_held state ≡ level → IfSome level (λ l. l ≤ most)
  level_inside most state levels None is = tt
  level_inside most state levels (Some level) is = level_most most state level levels is

  pub wanted_named : (e : Pair × PairState) → IsPairState owner e → IsName t.settings e.0.object
      → IsNamedHop t.settings (wanted_hop t e)
  wanted_named (pair, state) known is_name =
      level_named pair.object (level_held state) is_name (level_inside (length pair.object) state known.levels_to (level_held state) refl)

-- pairs that are laid as wanted are laid on to names
pub hops-laid : (t : TableValue) (pointers : PointersValue) → IsTable t → IsPointers pointers → PairsHaveNames t.settings pointers
    → AreLaid t pointers → AreNamedHops t.settings pointers
hops-laid t pointers valid are named laid = λ k d within.
    rw (laid k d within) (wanted_named t valid pointers.owner _ (are.known k d within) (named k d within).0)

-- the least server that is held for an object is a name
module _ (p : SettingsValue) (object server : List ℕ) where
  server_among_named : (pairs : List (Pair × PairState)) → All (λ e. IsName p e.0.object × IsName p e.0.server) pairs
      → server_among pairs object ≡ Some server → IsName p server
  server_among_named [] named is = let wrong : None ≡ Some server = is in absurd (cc)
  server_among_named (e ∷ pairs) named is =
      let later = server_among_named pairs (All-tail (λ x. IsName p x.0.object × IsName p x.0.server) e pairs named) in
      elim (cases_Bool (is_held e.1)) [
        | inl held ↦ elim (cases_Bool (is_of object e.0)) [
          | inl of ↦
              let found : Some e.0.server ≡ Some server = sym (server-first object e pairs held of) ∙ is in
              let same : e.0.server ≡ server = cc in
              subst (IsName p) same (All-head (λ x. IsName p x.0.object × IsName p x.0.server) e pairs named).1
          | inr other ↦ later (sym (server-other object e pairs other) ∙ is)
        ]
        | inr apart ↦ later (sym (server-not_held object e pairs apart) ∙ is)
      ]

  pub server_named : (pointers : PointersValue) → PairsHaveNames p pointers → server_for pointers object ≡ Some server → IsName p server
  server_named pointers named is = server_among_named pointers.pairs named is
