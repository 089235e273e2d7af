-- The objects that are held or laid are names of the settings after each call too, if the object of the call is one.
-- Cited above: names-lay_applied, names-published, names-reconciled, names-withdrawn
use Rattle.std.proofs.Common.{◌≡◌, ℕ, true, false, List, [], ◌∷◌, map, None, refl, ap, subst, inl, inr}
use Rattle.std.specs.List.{All}
use Rattle.std.specs.Option.{is_some}
use Rattle.std.proofs.lemmas.Bool.{cases_Bool, or_left}
use Rattle.std.proofs.lemmas.List.Elements.{All-cons, All-head, All-nil, All-tail}
use Rattle.tap_name.specs.Name.{IsName}
use Rattle.tap_name.specs.Settings.{SettingsValue}
use Rattle.tap_table.specs.Table.{TableValue}
use Rattle.tap_pointer.specs.declared.pair.Pair.{Pair}
use Rattle.tap_pointer.specs.declared.state.PairState.{PairState}
use Rattle.tap_pointer.specs.declared.state.Pointer.{Pointer}
use Rattle.tap_pointer.specs.Pair.{pair_cmp-total}
use Rattle.tap_pointer.specs.Pointers.{PointersValue, all_withdrawn, is_held, is_held_or_laid, lay_applied, no_pointers, own_pair, owner_publishes, published, state_of, with_laid, with_lay, with_published, with_state, withdrawn}
use Rattle.tap_pointer.specs.Reconcile.{AreNamesHeld, cleared, hop_from, reconciled, wanted_hop}
use Rattle.tap_pointer.proofs.Entries.{All-put}
use Rattle.tap_pointer.proofs.Known.{pair_cmp-equal}
use Rattle.tap_pointer.proofs.Levels.{no_level}

module _ (settings : SettingsValue) (p : PointersValue) (names : AreNamesHeld settings p) where
  abbrev Named : Pair × PairState → Type 0
  Named e = is_held_or_laid e.1 ≡ true → IsName settings e.0.object

  pub names-put : (pair : Pair) (state : PairState) → IsName settings pair.object → AreNamesHeld settings (with_state p pair state)
  names-put pair state name =
      All-put pair_cmp-total pair state Named
      (λ other tied held. subst (λ same. IsName settings same.object) (pair_cmp-equal pair other tied) name) p.pairs names

  pub names-published : (object : List ℕ) → IsName settings object → AreNamesHeld settings (published p object)
  names-published object = names-put (own_pair p object) (with_published (state_of p (own_pair p object)) true)

  pub names-withdrawn : (object : List ℕ) → IsName settings object → AreNamesHeld settings (withdrawn p object)
  names-withdrawn object name =
      elim (cases_Bool (owner_publishes p object)) [
        | inl is ↦ rw is (names-put (own_pair p object) (with_published (state_of p (own_pair p object)) false) name)
        | inr is_not ↦ rw is_not names
      ]

  pub names-lay_applied : (pair : Pair) (from : List ℕ) (version : ℕ) (pointer : Pointer) → IsName settings pair.object
      → AreNamesHeld settings (lay_applied p pair from version pointer)
  names-lay_applied pair from version pointer = names-put pair (with_lay (state_of p pair) from version pointer)

  -- a change of each state after which no more pairs are held or laid
  names-map : (f : Pair × PairState → PairState)
      → ((e : Pair × PairState) → is_held_or_laid (f e) ≡ true → is_held_or_laid e.1 ≡ true)
      → (pairs : List (Pair × PairState)) → All Named pairs → All Named (map (λ e. (e.0, f e)) pairs)
  names-map f still [] all = All-nil Named
  names-map f still (e ∷ pairs) all =
      All-cons Named (e.0, f e) (map (λ e. (e.0, f e)) pairs) (λ held. All-head Named e pairs all (still e held))
      (names-map f still pairs (All-tail Named e pairs all))

  -- a pair that is laid as wanted, and held or laid, is held
  still_wanted : (t : TableValue) (e : Pair × PairState) → is_held_or_laid (with_laid e.1 (wanted_hop t e)) ≡ true
      → is_held_or_laid e.1 ≡ true
  still_wanted t e after =
      elim (cases_Bool (is_held e.1)) [
        | inl held ↦ or_left (is_held e.1) (is_some e.1.laid) held
        | inr apart ↦
            let none : wanted_hop t e ≡ None = ap (hop_from t e.0.object) (no_level e.1 apart) in
            let wrong : false ≡ true = rw (apart, none) at after in
            absurd (cc)
      ]

  -- a pair that isn't published any more, and held or laid, was so
  still_withdrawn : (state : PairState) → is_held_or_laid (with_published state false) ≡ true → is_held_or_laid state ≡ true
  still_withdrawn state after =
      elim (cases_Bool state.published) [
        | inl is ↦ rw is refl
        | inr is_not ↦ rw is_not after
      ]

  pub names-reconciled : (t : TableValue) → AreNamesHeld settings (reconciled t p)
  names-reconciled t = names-map (λ e. with_laid e.1 (wanted_hop t e)) (still_wanted t) p.pairs names

  pub names-all_withdrawn : AreNamesHeld settings (all_withdrawn p)
  names-all_withdrawn = names-map (λ e. with_published e.1 false) (λ e. still_withdrawn e.1) p.pairs names

-- no pair is held or laid at first, nor after clearing
pub names-none : (settings : SettingsValue) (owner : List ℕ) → AreNamesHeld settings (no_pointers owner)
names-none settings owner = All-nil (λ e. is_held_or_laid e.1 ≡ true → IsName settings e.0.object)

pub names-cleared : (settings : SettingsValue) (p : PointersValue) → AreNamesHeld settings (cleared p)
names-cleared settings p = All-nil (λ e. is_held_or_laid e.1 ≡ true → IsName settings e.0.object)
