-- What a step sends that changes what is known of one pair, if each pair was laid as wanted before.
use Rattle.std.proofs.Common.{◌≡◌, ℕ, ◌+◌, Bool, true, false, if◌then◌else◌, List, [], ◌∷◌, map, Option, None, Some, ap, refl, sym, ◌∙◌, inl, inr}
use Rattle.std.specs.Prelude.{nat_lt}
use Rattle.std.specs.BTreeMap.{is_at}
use Rattle.std.specs.Cmp.Lexicographic.{nat_list_cmp_total}
use Rattle.std.specs.List.Sorted.{IsStrictlySortedBy}
use Rattle.std.specs.Map.{keys_of, lookup}
use Rattle.std.specs.Ordering.{is_eq}
use Rattle.std.proofs.lemmas.Bool.{cases_Bool}
use Rattle.std.proofs.lemmas.Cmp.{tied_itself}
use Rattle.tap_name.specs.Order.{name_cmp}
use Rattle.tap_register.specs.Registers.{IsAscending, applied, entry_of, newest}
use Rattle.tap_register.specs.declared.registers.Entry.{Entry}
use Rattle.tap_register.proofs.Applied.{IsAscending-applied, entry_of-applied}
use Rattle.tap_table.specs.Table.{TableValue}
use Rattle.tap_table.specs.Ties.{TiesValue}
use Rattle.tap_pointer.specs.declared.hop.Hop.{Hop}
use Rattle.tap_pointer.specs.declared.lay.Lay.{Lay}
use Rattle.tap_pointer.specs.declared.pair.Pair.{Pair}
use Rattle.tap_pointer.specs.declared.state.PairState.{PairState}
use Rattle.tap_pointer.specs.declared.state.Pointer.{Pointer}
use Rattle.tap_pointer.specs.Pair.{pair_cmp, pair_cmp-total}
use Rattle.tap_pointer.specs.Pointers.{PointersValue, is_held, level_held, pointer_at, with_lay, with_state}
use Rattle.tap_pointer.specs.Reconcile.{AreLaid, lay_numbered, layings, lays_numbered, reconcile_lays, wanted_hop}
use Rattle.tap_pointer.proofs.Entries.{lookup-put, sorted-put}
use Rattle.tap_pointer.proofs.Laws.{put_lays_others}
use Rattle.tap_pointer.proofs.Layings.{no_layings}
use Rattle.tap_pointer.proofs.Levels.{no_level}
use Rattle.tap_pointer.proofs.OnePair.{settles}
use Rattle.tap_wire.specs.declared.frame.Frame.{Frame}
use Rattle.tap_rule.specs.Event.{Acted}
use Rattle.tap_rule.specs.Node.{NodeState, name_of}
use Rattle.tap_rule.specs.PointerSteps.{PointersStep}
use Rattle.tap_rule.specs.Sending.{by_receiver, lay_frame}
use Rattle.tap_pointer_moves.proofs.Levels.{held_at, held_below}

-- ---- the Lays of one pair that was put in

module _ (t : TableValue) (last : ℕ) (p : PointersValue) (pair : Pair) (state : PairState) where
  put_found : lookup (is_at (pair_cmp pair)) (with_state p pair state).pairs ≡ Some state
  put_found =
      let itself : is_eq (pair_cmp pair pair) ≡ true = ap is_eq (tied_itself pair_cmp-total pair) in
      lookup-put pair_cmp-total pair state pair p.pairs ∙ rw itself refl

  one_pair_lays : IsStrictlySortedBy pair_cmp (keys_of p.pairs) → AreLaid t p
      → reconcile_lays t last (with_state p pair state) ≡ lays_numbered last (layings pair state.laid (wanted_hop t (pair, state)))
  one_pair_lays sorted laid =
      ap (lays_numbered last)
      (settles t pair (with_state p pair state).pairs state (sorted-put pair_cmp-total pair state p.pairs sorted) put_found
      (put_lays_others t pair state p laid)).lays

-- ---- what is sent

module _ (node : NodeState) (pair : Pair) (state : PairState) (acted : Acted)
    (step : PointersStep node (with_state node.pointers pair state) acted)
    (sorted : IsStrictlySortedBy pair_cmp (keys_of node.pointers.pairs)) (laid : AreLaid node.ties.table node.pointers) where
  abbrev own : List ℕ
  own = name_of node

  abbrev t : TableValue
  t = node.ties.table

  abbrev last : ℕ
  last = node.stamp + 0

  pair_sent : acted.sent ≡ map (lay_frame own) (lays_numbered last (layings pair state.laid (wanted_hop t (pair, state))))
  unfolding by_receiver
  pair_sent =
      let table : acted.state.ties.table ≡ t = ap (λ (ties : TiesValue). ties.table) step.alike.ties in
      step.completed.sent.all
      ∙ ap (λ (u : TableValue). map (lay_frame own) (reconcile_lays u last (with_state node.pointers pair state))) table
      ∙ ap (λ (lays : List Lay). map (lay_frame own) lays) (one_pair_lays t last node.pointers pair state sorted laid)

  -- nothing, if the pair is laid where it is wanted
  pub none_if_wanted : state.laid ≡ wanted_hop t (pair, state) → acted.sent ≡ []
  none_if_wanted same =
      let none : layings pair state.laid (wanted_hop t (pair, state)) ≡ [] =
      ap (λ (hop : Option Hop). layings pair hop (wanted_hop t (pair, state))) same ∙ no_layings pair (wanted_hop t (pair, state)) in
      pair_sent ∙ ap (λ ls. map (lay_frame own) (lays_numbered last ls)) none

  -- one Lay, if it is laid nowhere and wanted somewhere
  abbrev pub lay_on : Hop → Frame
  lay_on hop = lay_frame own (lay_numbered (last + 1) (record { pair = pair; hop = hop; on = true }))

  pub one_if_wanted : (hop : Hop) → state.laid ≡ None → wanted_hop t (pair, state) ≡ Some hop → acted.sent ≡ lay_on hop ∷ []
  one_if_wanted hop nowhere wanted =
      let one : layings pair state.laid (wanted_hop t (pair, state)) ≡ record { pair = pair; hop = hop; on = true } ∷ [] =
      ap (λ (was : Option Hop). layings pair was (wanted_hop t (pair, state))) nowhere
      ∙ ap (λ (now : Option Hop). layings pair None now) wanted in
      pair_sent ∙ ap (λ ls. map (lay_frame own) (lays_numbered last ls)) one

-- ---- the level of a Lay

-- a pair that isn't held takes a Lay
module _ (state : PairState) (from : List ℕ) (version level : ℕ) (on : Bool) (ascending : IsAscending name_cmp state.registers)
    (apart : is_held state ≡ false) where
  abbrev value : Pointer
  value = pointer_at level on

  abbrev write : Entry (List ℕ) Pointer
  write = record { key = from; version = version; value = value }

  -- no register was on
  none_on : (key : List ℕ) (entry : Entry (List ℕ) Pointer) → entry_of name_cmp state.registers key ≡ Some entry → entry.value.on ≡ true
      → ⊥
  none_on key entry found is =
      let was = held_below state key entry ascending found is in
      let wrong : ◌≡◌ {A = Option ℕ} None (Some was.0) = sym (no_level state apart) ∙ was.1 in
      cc

  -- the register of its sender, if it is on now, has its level
  by_kept : (kept : Option (Entry (List ℕ) Pointer)) → entry_of name_cmp state.registers from ≡ kept → (entry : Entry (List ℕ) Pointer)
      → newest kept write ≡ entry → entry.value.on ≡ true → entry.value.level ≡ level
  by_kept None at entry is on_is = sym (ap (λ (e : Entry (List ℕ) Pointer). e.value.level) is)
  by_kept (Some current) at entry is on_is = either (nat_lt current.version version) is
    where
      either : (newer : Bool) → (if newer then write else current) ≡ entry → entry.value.level ≡ level
      either true same = sym (ap (λ (e : Entry (List ℕ) Pointer). e.value.level) same)
      either false same =
          absurd (none_on from current at (ap (λ (e : Entry (List ℕ) Pointer). e.value.on) same ∙ on_is))

  -- and so has each register that is on now
  by_register : (key : List ℕ) (entry : Entry (List ℕ) Pointer)
      → entry_of name_cmp (applied name_cmp state.registers from version value) key ≡ Some entry → entry.value.on ≡ true
      → entry.value.level ≡ level
  by_register key entry found is =
      let now = sym (entry_of-applied name_cmp nat_list_cmp_total state.registers from version value key) ∙ found in
      elim (cases_Bool (is_eq (name_cmp from key))) [
        | inl same ↦
            let written : Some (newest (entry_of name_cmp state.registers from) write) ≡ Some entry = rw same at now in
            let it : newest (entry_of name_cmp state.registers from) write ≡ entry = cc in
            by_kept (entry_of name_cmp state.registers from) refl entry it is
        | inr other ↦
            let before : entry_of name_cmp state.registers key ≡ Some entry = rw other at now in
            absurd (none_on key entry before is)
      ]

  -- it is held at the level of the Lay then, if at any
  pub lay_level : (l : ℕ) → level_held (with_lay state from version value) ≡ Some l → l ≡ level
  lay_level l held =
      elim (held_at (with_lay state from version value) l
      (IsAscending-applied name_cmp nat_list_cmp_total state.registers from version value ascending) held) [
        | inl published ↦ let wrong : true ≡ false = sym (rw (published.0) refl) ∙ apart in absurd (cc)
        | inr by ↦ sym by.level_is ∙ by_register by.entry.key by.entry by.found by.on
      ]
