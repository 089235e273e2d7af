-- Which Lays reconciling and clearing send: exactly those that are due, with the next numbers of the stamp.
-- Cited above: clear_lays-due, clear_lays-sent, clear_lays-versions, none_due, reconcile_lays-due, reconcile_lays-sent, reconcile_lays-versions
use Rattle.std.proofs.Common.{◌≡◌, ◌≢◌, ℕ, ◌+◌, ◌==◌, Bool, true, false, List, [], ◌∷◌, ◌++◌, length, map, Option, None, Some, eqb-true, refl, sym, ap, subst, ◌∙◌, inl, inr, arith}
use Rattle.std.specs.BTreeMap.{is_at}
use Rattle.std.specs.Cmp.Lexicographic.{texts_ties}
use Rattle.std.specs.List.{All, AllByRecursion, Contains, flat_map, range_with_len}
use Rattle.std.specs.List.Sorted.{IsStrictlySortedBy}
use Rattle.std.specs.Map.{keys_of, lookup}
use Rattle.std.specs.Option.{unwrap_or}
use Rattle.std.specs.Ordering.{is_eq, ordering_reverse}
use Rattle.std.specs.declared.cmp.Ordering.TheVariants.{Less, Greater}
use Rattle.std.proofs.lemmas.Bool.{and_parts, cases_Bool}
use Rattle.std.proofs.lemmas.Cmp.{tied_itself}
use Rattle.std.proofs.lemmas.List.Elements.{All-append, All-cons, All-head, All-nil, All-tail, All-weaker, Contains-append_left, Contains-append_right}
use Rattle.std.proofs.lemmas.Map.Keys.{sorted_head, sorted_tail}
use Rattle.tap_name.proofs.Orders.{name_cmp-equal}
use Rattle.tap_register.proofs.Orderings.{is_equal}
use Rattle.tap_table.specs.Table.{TableValue}
use Rattle.tap_pointer.specs.declared.hop.Hop.{Hop}
use Rattle.tap_pointer.specs.declared.lay.Lay.{Lay}
use Rattle.tap_pointer.specs.declared.laying.Laying.{Laying}
use Rattle.tap_pointer.specs.declared.pair.Pair.{Pair}
use Rattle.tap_pointer.specs.declared.state.PairState.{PairState}
use Rattle.tap_pointer.specs.Due.{IsDue, hop_due, hop_of_lay, laid_at, pair_of_lay, wanted_at}
use Rattle.tap_pointer.specs.Pair.{pair_cmp, pair_cmp-total}
use Rattle.tap_pointer.specs.Pointers.{IsPointers, PointersValue, nothing_known, state_among, state_of}
use Rattle.tap_pointer.specs.Reconcile.{AreLaid, clear_lays, is_same_hop, is_to, lay_numbered, laying_at, layings, lays_numbered, reconcile_lays, told_off, told_on, wanted_hop}
use Rattle.tap_pointer.proofs.Known.{pair_cmp-equal}
use Rattle.tap_pointer.proofs.Laws.{laid_sends_nothing}
use Rattle.tap_pointer.proofs.Layings.{lays_numbered-append, same_level, to_itself}

-- to a pair that is laid as wanted no Lay is due
pub none_due : (on : Bool) (hop : Option Hop) → hop_due on hop hop ≡ None
none_due true None = refl
none_due true (Some hop) = rw (to_itself hop, same_level hop) refl
none_due false None = refl
none_due false (Some hop) = rw (to_itself hop) refl

pub due_apart : (on : Bool) (laid wanted : Option Hop) (hop : Hop) → hop_due on laid wanted ≡ Some hop → laid ≢ wanted
due_apart on laid wanted hop due same =
    let wrong : None ≡ Some hop = sym (none_due on wanted) ∙ ap (λ l. hop_due on l wanted) (sym same) ∙ due in absurd (cc)

-- to any other pair one is
pub same_hop : (a b : Hop) → is_same_hop a b ≡ true → a ≡ b
same_hop a b same =
    let parts = and_parts (is_to a b) (a.level == b.level) same in
    let to : a.to ≡ b.to = name_cmp-equal a.to b.to (sym (texts_ties a.to b.to) ∙ parts.0) in
    let level : a.level ≡ b.level = eqb-true a.level b.level parts.1 in
    ap (λ name. record { to = name; level = a.level }) to ∙ ap (λ number. record { to = b.to; level = number }) level

pub apart_due : (laid wanted : Option Hop) → laid ≢ wanted → (on : Bool) × (hop : Hop) × (hop_due on laid wanted ≡ Some hop)
apart_due None None apart = absurd (apart refl)
apart_due None (Some hop) apart = (true, hop, refl)
apart_due (Some hop) None apart = (false, hop, refl)
apart_due (Some laid) (Some wanted) apart =
    elim (cases_Bool (is_same_hop laid wanted)) [
      | inl same ↦ absurd (apart (ap Some (same_hop laid wanted same)))
      | inr other ↦ (true, wanted, rw other refl)
    ]

-- what one pair takes is due, and all that is due
module _ (e : Pair × PairState) (wanted : Option Hop) where
  abbrev DueHere : Laying → Type 0
  DueHere l = (l.pair ≡ e.0) × (hop_due l.on e.1.laid wanted ≡ Some l.hop)

  one_due : (on : Bool) (hop : Option Hop) → hop_due on e.1.laid wanted ≡ hop → All DueHere (laying_at e.0 on hop)
  one_due on None is = All-nil DueHere
  one_due on (Some hop) is = All-cons DueHere (record { pair = e.0; hop = hop; on = on }) [] (refl, is) (All-nil DueHere)

  pub both_due : All DueHere (layings e.0 e.1.laid wanted)
  both_due =
      All-append DueHere (laying_at e.0 false (told_off e.1.laid wanted)) (laying_at e.0 true (told_on e.1.laid wanted))
      (one_due false (told_off e.1.laid wanted) refl) (one_due true (told_on e.1.laid wanted) refl)

one_sent : (last : ℕ) (pair : Pair) (on : Bool) (due : Option Hop) (hop : Hop) → due ≡ Some hop
    → Contains (lays_numbered last (laying_at pair on due)) (lay_numbered (last + 1) (record { pair = pair; hop = hop; on = on }))
one_sent last pair on None hop is = let wrong : None ≡ Some hop = is in absurd (cc)
one_sent last pair on (Some due) hop is =
    let lay : Hop → Lay = λ h. lay_numbered (last + 1) (record { pair = pair; hop = h; on = on }) in
    let same : due ≡ hop = cc in
    subst (λ h. Contains (lay due ∷ []) (lay h)) same (0, omega arith, refl)

due_sent : (last : ℕ) (pair : Pair) (laid wanted : Option Hop) (on : Bool) (hop : Hop) → hop_due on laid wanted ≡ Some hop
    → (version : ℕ) × Contains (lays_numbered last (layings pair laid wanted))
    (lay_numbered version (record { pair = pair; hop = hop; on = on }))
due_sent last pair laid wanted true hop due =
    let off = laying_at pair false (told_off laid wanted) in
    let on = laying_at pair true (told_on laid wanted) in
    let lay = lay_numbered (last + length off + 1) (record { pair = pair; hop = hop; on = true }) in (
      last + length off + 1,
      subst (λ lays. Contains lays lay) (sym (lays_numbered-append last off on))
          (Contains-append_right (lays_numbered last off) (lays_numbered (last + length off) on) lay
          (one_sent (last + length off) pair true (told_on laid wanted) hop due)),
    )
due_sent last pair laid wanted false hop due =
    let off = laying_at pair false (told_off laid wanted) in
    let on = laying_at pair true (told_on laid wanted) in
    let lay = lay_numbered (last + 1) (record { pair = pair; hop = hop; on = false }) in (
      last + 1,
      subst (λ lays. Contains lays lay) (sym (lays_numbered-append last off on))
          (Contains-append_left (lays_numbered last off) (lays_numbered (last + length off) on) lay
          (one_sent last pair false (told_off laid wanted) hop due)),
    )

-- the pairs ascend, so a look-up of each finds its own state
each_found : (pairs : List (Pair × PairState)) → IsStrictlySortedBy pair_cmp (keys_of pairs)
    → All (λ e. state_among pairs e.0 ≡ e.1) pairs
each_found [] sorted = All-nil (λ e. state_among [] e.0 ≡ e.1)
each_found (e ∷ pairs) sorted =
    let here : is_at (pair_cmp e.0) e.0 ≡ true = ap is_eq (tied_itself pair_cmp-total e.0) in
    All-cons (λ x. state_among (e ∷ pairs) x.0 ≡ x.1) e pairs (rw here refl)
    (later pairs (sorted_head pair_cmp e.0 (keys_of pairs) sorted)
    (each_found pairs (sorted_tail pair_cmp e.0 (keys_of pairs) sorted)))
  where
    later : (es : List (Pair × PairState)) → AllByRecursion (λ key. pair_cmp e.0 key ≡ Less) (keys_of es)
        → All (λ x. state_among pairs x.0 ≡ x.1) es → All (λ x. state_among (e ∷ pairs) x.0 ≡ x.1) es
    later [] above all = All-nil (λ x. state_among (e ∷ pairs) x.0 ≡ x.1)
    later (x ∷ es) above all =
        let order : pair_cmp x.0 e.0 ≡ Greater = pair_cmp-total.antisymm x.0 e.0 ∙ ap ordering_reverse above.0 in
        let apart : is_at (pair_cmp x.0) e.0 ≡ false = ap is_eq order in
        All-cons (λ x. state_among (e ∷ pairs) x.0 ≡ x.1) x es
        (rw apart (All-head (λ x. state_among pairs x.0 ≡ x.1) x es all))
        (later es above.1 (All-tail (λ x. state_among pairs x.0 ≡ x.1) x es all))

-- what holds of each laying holds of its Lay
pub All-lays_numbered : (P : Lay → Type 0) (Q : Laying → Type 0) → ((version : ℕ) (l : Laying) → Q l → P (lay_numbered version l))
    → (last : ℕ) (ls : List Laying) → All Q ls → All P (lays_numbered last ls)
All-lays_numbered P Q from last [] all = All-nil P
All-lays_numbered P Q from last (l ∷ ls) all =
    All-cons P (lay_numbered (last + 1) l) (lays_numbered (last + 1) ls) (from (last + 1) l (All-head Q l ls all))
    (All-lays_numbered P Q from (last + 1) ls (All-tail Q l ls all))

-- Lays have the next numbers, ascending
pub versions-lays_numbered : (last : ℕ) (ls : List Laying)
    → map (λ l. l.version) (lays_numbered last ls) ≡ range_with_len (last + 1) (length (lays_numbered last ls))
versions-lays_numbered last [] = refl
versions-lays_numbered last (l ∷ ls) = ap (λ more. (last + 1) ∷ more) (versions-lays_numbered (last + 1) ls)

-- what all pairs take, if each is wanted somewhere
module _ (wanted : Pair × PairState → Option Hop) where
  abbrev layings_to : List (Pair × PairState) → List Laying
  layings_to pairs = flat_map (λ e. layings e.0 e.1.laid (wanted e)) pairs

  abbrev DueAmong : List (Pair × PairState) → Laying → Type 0
  DueAmong pairs l =
      hop_due l.on (state_among pairs l.pair).laid (wanted (l.pair, state_among pairs l.pair)) ≡ Some l.hop

  all_due : (pairs es : List (Pair × PairState)) → All (λ e. state_among pairs e.0 ≡ e.1) es → All (DueAmong pairs) (layings_to es)
  all_due pairs [] found = All-nil (DueAmong pairs)
  all_due pairs (e ∷ es) found =
      All-append (DueAmong pairs) (layings e.0 e.1.laid (wanted e)) (layings_to es)
      (All-weaker (DueHere e (wanted e)) (DueAmong pairs) (λ l here. by_state l here) (layings e.0 e.1.laid (wanted e))
      (both_due e (wanted e)))
      (all_due pairs es (All-tail (λ e. state_among pairs e.0 ≡ e.1) e es found))
    where
      by_state : (l : Laying) → DueHere e (wanted e) l → DueAmong pairs l
      by_state l here =
          let state : state_among pairs l.pair ≡ e.1 =
          ap (state_among pairs) here.0 ∙ All-head (λ e. state_among pairs e.0 ≡ e.1) e es found in
          ap (λ s. hop_due l.on s.laid (wanted (l.pair, s))) state
          ∙ ap (λ pair. hop_due l.on e.1.laid (wanted (pair, e.1))) here.0 ∙ here.1

  all_sent : (last : ℕ) (pairs : List (Pair × PairState)) (pair : Pair) (state : PairState) (on : Bool) (hop : Hop)
      → lookup (is_at (pair_cmp pair)) pairs ≡ Some state → hop_due on state.laid (wanted (pair, state)) ≡ Some hop
      → (version : ℕ) × Contains (lays_numbered last (layings_to pairs))
      (lay_numbered version (record { pair = pair; hop = hop; on = on }))
  all_sent last [] pair state on hop found due = let wrong : None ≡ Some state = found in absurd (cc)
  all_sent last (e ∷ pairs) pair state on hop found due =
      by_order (λ rest. all_sent (last + length (layings e.0 e.1.laid (wanted e))) pairs pair state on hop rest due)
      (is_at (pair_cmp pair) e.0) refl
    where
      here : List Laying
      here = layings e.0 e.1.laid (wanted e)

      Sent : List Lay → Type 0
      Sent lays = (version : ℕ) × Contains lays (lay_numbered version (record { pair = pair; hop = hop; on = on }))

      in_two : Sent (lays_numbered last here ++ lays_numbered (last + length here) (layings_to pairs))
          → Sent (lays_numbered last (here ++ layings_to pairs))
      in_two sent = subst Sent (sym (lays_numbered-append last here (layings_to pairs))) sent

      by_order : (lookup (is_at (pair_cmp pair)) pairs ≡ Some state
          → Sent (lays_numbered (last + length here) (layings_to pairs)))
          → (tied : Bool) → is_at (pair_cmp pair) e.0 ≡ tied → Sent (lays_numbered last (here ++ layings_to pairs))
      by_order later true is =
          let same : pair ≡ e.0 = pair_cmp-equal pair e.0 (is_equal (pair_cmp pair e.0) is) in
          let first : Some e.1 ≡ Some state = rw is at found in
          let state_is : e.1 ≡ state = ap (λ s. unwrap_or s e.1) first in
          let entry : (pair, state) ≡ e = ap (λ p. (p, state)) same ∙ ap (λ s. (e.0, s)) (sym state_is) in
          let due_of : Pair × PairState → Option Hop = λ x. hop_due on x.1.laid (wanted x) in
          let sent = due_sent last e.0 e.1.laid (wanted e) on hop (ap due_of (sym entry) ∙ due) in
          let lay : Pair → Lay = λ p. lay_numbered sent.0 (record { pair = p; hop = hop; on = on }) in
          in_two (
            sent.0,
            Contains-append_left (lays_numbered last here) (lays_numbered (last + length here) (layings_to pairs)) (lay pair)
                (subst (λ p. Contains (lays_numbered last here) (lay p)) (sym same) sent.1),
          )
      by_order later false is =
          let sent = later (rw is at found) in
          let lay = lay_numbered sent.0 (record { pair = pair; hop = hop; on = on }) in
          in_two (
            sent.0,
            Contains-append_right (lays_numbered last here) (lays_numbered (last + length here) (layings_to pairs)) lay sent.1,
          )

-- Reconciling
module _ (t : TableValue) (last : ℕ) (p : PointersValue) where
  -- each Lay is due
  pub reconcile_lays-due : IsPointers p → All (IsDue (laid_at p) (wanted_at t p)) (reconcile_lays t last p)
  reconcile_lays-due are =
      All-lays_numbered (IsDue (laid_at p) (wanted_at t p)) (DueAmong (wanted_hop t) p.pairs) (λ version l due. due) last
      (layings_to (wanted_hop t) p.pairs) (all_due (wanted_hop t) p.pairs p.pairs (each_found p.pairs are.ascending))

  -- each Lay that is due is sent
  pub reconcile_lays-sent : (pair : Pair) (on : Bool) (hop : Hop) → hop_due on (laid_at p pair) (wanted_at t p pair) ≡ Some hop
      → (version : ℕ) × Contains (reconcile_lays t last p) (lay_numbered version (record { pair = pair; hop = hop; on = on }))
  reconcile_lays-sent pair on hop due = by_found (lookup (is_at (pair_cmp pair)) p.pairs) refl
    where
      found_as : {found : Option PairState} → lookup (is_at (pair_cmp pair)) p.pairs ≡ found
          → state_of p pair ≡ unwrap_or found nothing_known
      found_as is = ap (λ found. unwrap_or found nothing_known) is

      due_with : (state : PairState) → state_of p pair ≡ state → hop_due on state.laid (wanted_hop t (pair, state)) ≡ Some hop
      due_with state is = ap (λ s. hop_due on s.laid (wanted_hop t (pair, s))) (sym is) ∙ due

      by_found : (found : Option PairState) → lookup (is_at (pair_cmp pair)) p.pairs ≡ found
          → (version : ℕ) × Contains (reconcile_lays t last p) (lay_numbered version (record { pair = pair; hop = hop; on = on }))
      by_found None is =
          let unknown : hop_due on None None ≡ Some hop = due_with nothing_known (found_as is) in
          let wrong : None ≡ Some hop = sym (none_due on None) ∙ unknown in absurd (cc)
      by_found (Some state) is = all_sent (wanted_hop t) last p.pairs pair state on hop is (due_with state (found_as is))

  -- a pair that isn't laid as wanted has a Lay
  pub apart_is_sent : (pair : Pair) → laid_at p pair ≢ wanted_at t p pair
      → (lay : Lay) × Contains (reconcile_lays t last p) lay × (pair_of_lay lay ≡ pair)
  apart_is_sent pair apart =
      let due = apart_due (laid_at p pair) (wanted_at t p pair) apart in
      let sent = reconcile_lays-sent pair due.0 due.1 due.2 in
      (lay_numbered sent.0 (record { pair = pair; hop = due.1; on = due.0 }), sent.1, refl)

  -- the numbers are the stamp's next ones, ascending
  pub reconcile_lays-versions :
      map (λ l. l.version) (reconcile_lays t last p) ≡ range_with_len (last + 1) (length (reconcile_lays t last p))
  reconcile_lays-versions = versions-lays_numbered last (layings_to (wanted_hop t) p.pairs)

  -- if each pair is laid as wanted, the stamp stays
  pub laid_leaves_stamp : AreLaid t p → last + length (reconcile_lays t last p) ≡ last
  laid_leaves_stamp laid =
      let none : length (reconcile_lays t last p) ≡ 0 = ap length (laid_sends_nothing t last p laid).0 in omega (arith, none)

-- Clearing
module _ (last : ℕ) (p : PointersValue) where
  abbrev nowhere : Pair × PairState → Option Hop
  nowhere e = None

  -- each Lay is due, if no pair is wanted anywhere
  pub clear_lays-due : IsPointers p → All (IsDue (laid_at p) (λ pair. None)) (clear_lays last p)
  clear_lays-due are =
      All-lays_numbered (IsDue (laid_at p) (λ pair. None)) (DueAmong nowhere p.pairs) (λ version l due. due) last
      (layings_to nowhere p.pairs) (all_due nowhere p.pairs p.pairs (each_found p.pairs are.ascending))

  -- so each is off
  pub clear_lays-off : IsPointers p → All (λ l. l.on ≡ false) (clear_lays last p)
  clear_lays-off are =
      All-weaker (IsDue (laid_at p) (λ pair. None)) (λ l. l.on ≡ false) (λ l due. off (laid_at p (pair_of_lay l)) (hop_of_lay l) l.on due)
      (clear_lays last p)
      (clear_lays-due are)
    where
      off : (laid : Option Hop) (hop : Hop) (on : Bool) → hop_due on laid None ≡ Some hop → on ≡ false
      off laid hop true due = let wrong : None ≡ Some hop = due in absurd (cc)
      off laid hop false due = refl

  -- each hop that is laid is sent one
  pub clear_lays-sent : (pair : Pair) (hop : Hop) → laid_at p pair ≡ Some hop
      → (version : ℕ) × Contains (clear_lays last p) (lay_numbered version (record { pair = pair; hop = hop; on = false }))
  clear_lays-sent pair hop laid = by_found (lookup (is_at (pair_cmp pair)) p.pairs) refl
    where
      laid_with : (state : PairState) → state_of p pair ≡ state → state.laid ≡ Some hop
      laid_with state is = ap (λ s. s.laid) (sym is) ∙ laid

      by_found : (found : Option PairState) → lookup (is_at (pair_cmp pair)) p.pairs ≡ found
          → (version : ℕ) × Contains (clear_lays last p) (lay_numbered version (record { pair = pair; hop = hop; on = false }))
      by_found None is =
          let wrong : None ≡ Some hop = laid_with nothing_known (ap (λ found. unwrap_or found nothing_known) is) in absurd (cc)
      by_found (Some state) is =
          let here : state.laid ≡ Some hop = laid_with state (ap (λ found. unwrap_or found nothing_known) is) in
          all_sent nowhere last p.pairs pair state false hop is (ap (λ l. hop_due false l None) here)

  pub clear_lays-versions : map (λ l. l.version) (clear_lays last p) ≡ range_with_len (last + 1) (length (clear_lays last p))
  clear_lays-versions = versions-lays_numbered last (layings_to nowhere p.pairs)
