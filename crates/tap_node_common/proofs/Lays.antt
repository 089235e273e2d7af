-- The Lays of reconciling and of clearing are for names, and of names.
-- Cited above: lays-cleared
use Rattle.std.proofs.Common.{ℕ, ◌+◌, Bool, List, [], ◌∷◌, ◌++◌, Option, None, Some, All, true, false, inl, inr}
use Rattle.std.specs.List.{flat_map}
use Rattle.std.proofs.lemmas.Bool.{cases_Bool}
use Rattle.std.proofs.lemmas.List.Elements.{All-cons, All-head, All-nil, All-tail}
use Rattle.tap_name.specs.Name.{IsName}
use Rattle.tap_name.specs.Settings.{SettingsValue}
use Rattle.tap_table.specs.Table.{IsTable, TableValue}
use Rattle.tap_pointer.specs.declared.hop.Hop.{Hop}
use Rattle.tap_pointer.specs.declared.pair.Pair.{Pair}
use Rattle.tap_pointer.specs.declared.state.PairState.{PairState}
use Rattle.tap_pointer.specs.Pointers.{IsPointers, PointersValue}
use Rattle.tap_pointer.specs.Reconcile.{clear_lays, is_same_hop, is_to, lay_numbered, laying_at, layings, lays_numbered, reconcile_lays, told_off, told_on, wanted_hop}
use Rattle.tap_node_common.specs.Sender.{IsLayOf}
use Rattle.tap_node_common.specs.SoundNode.{AreNamedHops, PairsHaveNames}
use Rattle.tap_node_common.proofs.Pairs.{IsNamedHop, wanted_named}

module _ (p : SettingsValue) where
  -- the hops that are told off and on are those that were laid and wanted
  off_named : (laid wanted : Option Hop) → IsNamedHop p laid → IsNamedHop p (told_off laid wanted)
  off_named None wanted named = tt
  off_named (Some laid) None named = named
  off_named (Some laid) (Some wanted) named =
      elim (cases_Bool (is_to laid wanted)) [ inl same ↦ rw same tt | inr other ↦ rw other named ]

  on_named : (laid wanted : Option Hop) → IsNamedHop p wanted → IsNamedHop p (told_on laid wanted)
  on_named laid None named = tt
  on_named None (Some wanted) named = named
  on_named (Some laid) (Some wanted) named =
      elim (cases_Bool (is_same_hop laid wanted)) [ inl same ↦ rw same tt | inr other ↦ rw other named ]

  -- the Lays that all pairs take, each of which is laid and wanted at hops to names
  module _ (wanted : Pair × PairState → Option Hop) where
    abbrev IsLaidWell : Pair × PairState → Type 0
    IsLaidWell e = (IsName p e.0.object × IsName p e.0.server) × (IsNamedHop p e.1.laid × IsNamedHop p (wanted e))

    lay_of : (pair : Pair) → IsName p pair.object × IsName p pair.server → (hop : Hop) → IsNamedHop p (Some hop) → (version : ℕ) (on : Bool)
        → IsLayOf p (lay_numbered version (record { pair = pair; hop = hop; on = on }))
    lay_of pair names hop named version on = record { to = named.0; object = names.0; server = names.1; level = named.1 }

    -- one pair before others, told on, and told off and on
    module _ (pair : Pair) (names : IsName p pair.object × IsName p pair.server) (pairs : List (Pair × PairState))
        (later : (last : ℕ)
        → All (IsLayOf p) (lays_numbered last (flat_map (λ (e : Pair × PairState). layings e.0 e.1.laid (wanted e)) pairs))) where
      on_first : (on : Option Hop) → IsNamedHop p on → (last : ℕ)
          → All (IsLayOf p) (lays_numbered last (laying_at pair true on
          ++ flat_map (λ (e : Pair × PairState). layings e.0 e.1.laid (wanted e)) pairs))
      on_first None on_is last = later last
      on_first (Some on) on_is last = All-cons (IsLayOf p) _ _ (lay_of pair names on on_is (last + 1) true) (later (last + 1))

      both_first : (off on : Option Hop) → IsNamedHop p off → IsNamedHop p on → (last : ℕ)
          → All (IsLayOf p) (lays_numbered last ((laying_at pair false off ++ laying_at pair true on)
          ++ flat_map (λ (e : Pair × PairState). layings e.0 e.1.laid (wanted e)) pairs))
      both_first None on off_is on_is last = on_first on on_is last
      both_first (Some off) None off_is on_is last =
          All-cons (IsLayOf p) _
          (lays_numbered (last + 1) (laying_at pair true None
          ++ flat_map (λ (e : Pair × PairState). layings e.0 e.1.laid (wanted e)) pairs))
          (lay_of pair names off off_is (last + 1) false) (on_first None on_is (last + 1))
      both_first (Some off) (Some on) off_is on_is last =
          All-cons (IsLayOf p) _
          (lays_numbered (last + 1) (laying_at pair true (Some on)
          ++ flat_map (λ (e : Pair × PairState). layings e.0 e.1.laid (wanted e)) pairs))
          (lay_of pair names off off_is (last + 1) false) (on_first (Some on) on_is (last + 1))

    all_named : (pairs : List (Pair × PairState)) → All IsLaidWell pairs → (last : ℕ)
        → All (IsLayOf p) (lays_numbered last (flat_map (λ (e : Pair × PairState). layings e.0 e.1.laid (wanted e)) pairs))
    all_named [] are last = All-nil (IsLayOf p)
    all_named (e ∷ pairs) are last =
        let is : IsLaidWell e = All-head IsLaidWell e pairs are in
        both_first e.0 is.0 pairs (all_named pairs (All-tail IsLaidWell e pairs are)) (told_off e.1.laid (wanted e))
        (told_on e.1.laid (wanted e)) (off_named e.1.laid (wanted e) is.1.0) (on_named e.1.laid (wanted e) is.1.1) last

pub lays-reconciled : (t : TableValue) (last : ℕ) (pointers : PointersValue) → IsTable t → IsPointers pointers
    → PairsHaveNames t.settings pointers → AreNamedHops t.settings pointers
    → All (IsLayOf t.settings) (reconcile_lays t last pointers)
lays-reconciled t last pointers valid are named hops =
    all_named t.settings (wanted_hop t) pointers.pairs
    (λ k d within.
    let names = named k d within in
    (names, (hops k d within, wanted_named t valid pointers.owner _ (are.known k d within) names.0)))
    last

pub lays-cleared : (p : SettingsValue) (last : ℕ) (pointers : PointersValue) → PairsHaveNames p pointers → AreNamedHops p pointers
    → All (IsLayOf p) (clear_lays last pointers)
lays-cleared p last pointers named hops =
    all_named p (λ e. None) pointers.pairs (λ k d within. (named k d within, (hops k d within, tt))) last
