-- Of what a node keeps: parents of sessions, pairs and hops that are names, and the Lays that reconciling sends.
-- Cited above: IsNamedLay, reconciled_lays, reconciled_pairs
use Rattle.std.proofs.Common.{◌≡◌, ℕ, ◌≤◌, ◌==◌, ◌-◌, Bool, List, [], ◌∷◌, length, map, drop, get_or, Option, None, Some, All, true, false, arith, refl, sym, ap, subst, ◌∙◌, inl, inr}
use Rattle.std.specs.Prelude.{IfSome}
use Rattle.std.specs.BTreeMap.{is_at}
use Rattle.std.specs.List.Sorted.{IsStrictlySortedBy}
use Rattle.std.specs.Map.{keys_of, lookup}
use Rattle.std.specs.Option.{unwrap_or}
use Rattle.std.proofs.lemmas.Bool.{cases_Bool}
use Rattle.std.proofs.lemmas.List.Elements.{All-cons, All-head, All-map, All-nil, All-push, All-tail, All-weaker}
use Rattle.tap_name.specs.Name.{IsName}
use Rattle.tap_name.specs.Settings.{SettingsValue}
use Rattle.tap_session.specs.declared.parent.Parent.{Parent}
use Rattle.tap_session.specs.declared.sessions.Answered.TheVariants.{Open, Closed}
use Rattle.tap_session.specs.Session.{Session, SessionsValue}
use Rattle.tap_session.specs.Sessions.{after_answer, answer_to, answered_at, next_session, opened_with, session_of}
use Rattle.tap_session.proofs.Transitions.{All-found as All-found_session}
use Rattle.tap_table.specs.Next.{next_from}
use Rattle.tap_table.specs.declared.next.Next.{Next}
use Rattle.tap_table.specs.declared.next.Next.TheVariants.{Hop as HopTo, Root}
use Rattle.tap_table.specs.Table.{IsTable, TableValue}
use Rattle.tap_table.proofs.Hops.{hop_exactly, hop_is}
use Rattle.tap_pointer.specs.declared.hop.Hop.{Hop}
use Rattle.tap_pointer.specs.declared.lay.Lay.{Lay}
use Rattle.tap_pointer.specs.declared.pair.Pair.{Pair}
use Rattle.tap_pointer.specs.declared.state.PairState.{PairState}
use Rattle.tap_pointer.specs.Due.{IsDue, hop_due, hop_of_lay, laid_at, pair_of_lay, wanted_at}
use Rattle.tap_pointer.specs.Pair.{pair_cmp, pair_cmp-total}
use Rattle.tap_pointer.specs.Pointers.{IsPairState, IsPointers, PointersValue, is_held, is_of, level_held, nothing_known, own_pair, owner_publishes, published, server_among, state_among, state_of, with_published, with_state, withdrawn}
use Rattle.tap_pointer.specs.Reconcile.{clear_lays, hop_from, hop_of, is_same_hop, is_to, reconcile_lays, reconciled, wanted_hop, with_wanted}
use Rattle.tap_pointer.proofs.Due.{clear_lays-due, none_due, reconcile_lays-due}
use Rattle.tap_pointer.proofs.Entries.{All-put}
use Rattle.tap_pointer.proofs.Known.{All-found, pair_cmp-equal}
use Rattle.tap_pointer.proofs.Levels.{level_most}
use Rattle.tap_wire.specs.Spelling.{IsLevel}
use Rattle.tap_moves.specs.KnownNames.{AreNamedPairs, HaveParents, IsHopOf, IsNamedPair, IsParent}

-- ---- sessions

module _ (p : SettingsValue) where
  abbrev HasParent : Session → Type 0
  HasParent s = IsParent p s.parent

  pub parents-opened : (s : SessionsValue) (parent : Parent) (depth waiting : ℕ) → HaveParents p s → IsParent p parent
      → HaveParents p (opened_with s parent depth waiting)
  parents-opened s parent depth waiting have is = All-push HasParent s.sessions (next_session s parent depth waiting) have is

  after_one : (id : ℕ) (sessions : List Session) → All HasParent sessions → All HasParent (after_answer id sessions)
  after_one id [] all = All-nil HasParent
  after_one id (s ∷ sessions) all =
      let rest = after_one id sessions (All-tail HasParent s sessions all) in
      let first : HasParent s = All-head HasParent s sessions all in
      elim (cases_Bool (id == s.id)) [
        | inl its ↦ elim (cases_Bool (s.waiting == 1)) [
          | inl last ↦ rw (its, last) rest
          | inr more ↦ rw (its, more) (All-cons HasParent (record s { waiting = s.waiting - 1 }) (after_answer id sessions) first rest)
        ]
        | inr other ↦ rw other (All-cons HasParent s (after_answer id sessions) first rest)
      ]

  pub parents-answered : (s : SessionsValue) (id : ℕ) → HaveParents p s → HaveParents p (answered_at s id)
  parents-answered s id have = after_one id s.sessions have

  -- the parent of a session that closes
  closed_by : (found : Option Session) (parent : Parent) → ((s : Session) → found ≡ Some s → HasParent s) → answer_to found ≡ Closed parent
      → IsParent p parent
  closed_by None parent each closed = cc
  closed_by (Some s) parent each closed =
      elim (cases_Bool (s.waiting == 1)) [
        | inl last ↦
            let is : Closed s.parent ≡ Closed parent = rw last at closed in
            let same : s.parent ≡ parent = cc in
            subst (IsParent p) same (each s refl)
        | inr more ↦
            let wrong : Open ≡ Closed parent = rw more at closed in
            cc
      ]

  pub closed_parent : (s : SessionsValue) (id : ℕ) (parent : Parent) → HaveParents p s
      → answer_to (session_of s.sessions id) ≡ Closed parent → IsParent p parent
  closed_parent s id parent have closed =
      closed_by (session_of s.sessions id) parent (λ found is. (All-found_session HasParent s.sessions id found have is).0) closed

-- ---- pairs

module _ (p : SettingsValue) where
  -- where a pair is laid on to, among pairs of names
  pub laid_among : (pairs : List (Pair × PairState)) (pair : Pair) → All (IsNamedPair p) pairs
      → IfSome (state_among pairs pair).laid (IsHopOf p)
  laid_among pairs pair all = by_found (lookup (is_at (pair_cmp pair)) pairs) refl
    where
      by_found : (found : Option PairState) → lookup (is_at (pair_cmp pair)) pairs ≡ found
          → IfSome (unwrap_or found nothing_known).laid (IsHopOf p)
      by_found None is = tt
      by_found (Some state) is = (All-found (IsNamedPair p) pair state pairs all is).laid

  -- a pair of names more
  pub named-put : (pointers : PointersValue) (pair : Pair) (state : PairState) → IsName p pair.server
      → IfSome state.laid (IsHopOf p) → AreNamedPairs p pointers → AreNamedPairs p (with_state pointers pair state)
  named-put pointers pair state server laid named =
      All-put pair_cmp-total pair state (IsNamedPair p)
      (λ other tied. record {
        server = subst (λ (k : Pair). IsName p k.server) (pair_cmp-equal pair other tied) server;
        laid = laid;
      })
      pointers.pairs named

  pub named-published : (pointers : PointersValue) (object : List ℕ) → IsName p pointers.owner → AreNamedPairs p pointers
      → AreNamedPairs p (published pointers object)
  named-published pointers object owner named =
      let own = own_pair pointers object in
      named-put pointers own (with_published (state_of pointers own) true) owner (laid_among pointers.pairs own named) named

  pub named-withdrawn : (pointers : PointersValue) (object : List ℕ) → IsName p pointers.owner → AreNamedPairs p pointers
      → AreNamedPairs p (withdrawn pointers object)
  named-withdrawn pointers object owner named =
      let own = own_pair pointers object in
      elim (cases_Bool (owner_publishes pointers object)) [
        | inl is ↦
            rw is (named-put pointers own (with_published (state_of pointers own) false) owner (laid_among pointers.pairs own named) named)
        | inr is_not ↦ rw is_not named
      ]

  -- the server that a lookup finds
  pub server_named : (object : List ℕ) (pairs : List (Pair × PairState)) → All (IsNamedPair p) pairs
      → IfSome (server_among pairs object) (IsName p)
  server_named object [] all = tt
  server_named object (e ∷ pairs) all =
      let rest = server_named object pairs (All-tail (IsNamedPair p) e pairs all) in
      elim (cases_Bool (is_held e.1)) [
        | inl held ↦ elim (cases_Bool (is_of object e.0)) [
          | inl of ↦ rw (held, of) (All-head (IsNamedPair p) e pairs all).server
          | inr other ↦ rw (held, other) rest
        ]
        | inr apart ↦ rw apart rest
      ]

-- ---- hops

module _ (t : TableValue) (valid : IsTable t) (object : List ℕ) (is_name : IsName t.settings object) where
  -- a next hop goes to a name, at a level
  pub next_named : (level : ℕ) → level ≤ length object → (to : List ℕ) (next : ℕ)
      → next_from t level (drop level object) ≡ HopTo to next → IsName t.settings to × IsLevel t.settings next
  next_named level inside to next is =
      let hop = hop_is t object to next level valid is_name ((hop_exactly t object to next level inside).0 is) in
      (hop.is_name, (omega (arith, hop.above), hop.within))

  hop_named : (level : ℕ) → level ≤ length object → (next : Next) → next_from t level (drop level object) ≡ next
      → IfSome (hop_of next) (IsHopOf t.settings)
  hop_named level inside Root is = tt
  hop_named level inside (HopTo to next) is =
      let named = next_named level inside to next is in record { to = named.0; level = named.1 }

  -- where a pair is wanted
  pub wanted_named : (owner : List ℕ) (server : List ℕ) (state : PairState)
      → IsPairState owner (record { object = object; server = server }, state)
      → IfSome (wanted_hop t (record { object = object; server = server }, state)) (IsHopOf t.settings)
  wanted_named owner server state known = by_level (level_held state) refl
    where
      by_level : (held : Option ℕ) → level_held state ≡ held → IfSome (hop_from t object held) (IsHopOf t.settings)
      by_level None is = tt
      by_level (Some level) is =
          hop_named level (level_most (length object) state level known.levels_to is) (next_from t level (drop level object)) refl

-- ---- Lays

-- a Lay goes to a name, is about names, and has a level
pub record IsNamedLay (p : SettingsValue) (lay : Lay) : Type 0 where
  pub to : IsName p lay.to
  pub object : IsName p lay.object
  pub server : IsName p lay.server
  pub level : IsLevel p lay.level

-- a Lay is sent to where a pair is laid, or wanted
due_named : (p : SettingsValue) (on : Bool) (laid wanted : Option Hop) → IfSome laid (IsHopOf p) → IfSome wanted (IsHopOf p)
    → IfSome (hop_due on laid wanted) (IsHopOf p)
due_named p true laid None was is = tt
due_named p true None (Some wanted) was is = is
due_named p true (Some laid) (Some wanted) was is =
    elim (cases_Bool (is_same_hop laid wanted)) [ inl same ↦ rw same tt | inr apart ↦ rw apart is ]
due_named p false None wanted was is = tt
due_named p false (Some laid) None was is = was
due_named p false (Some laid) (Some wanted) was is =
    elim (cases_Bool (is_to laid wanted)) [ inl same ↦ rw same tt | inr apart ↦ rw apart was ]

-- a Lay that is due, if each pair is wanted at a hop to a name, and what isn't known nowhere
module _ (p : SettingsValue) (pointers : PointersValue) (wanted : Pair → Option Hop) (named : AreNamedPairs p pointers)
    (objects : All (λ e. IsName p e.0.object) pointers.pairs)
    (nowhere : (pair : Pair) → state_of pointers pair ≡ nothing_known → wanted pair ≡ None)
    (goes : (pair : Pair) (state : PairState) → lookup (is_at (pair_cmp pair)) pointers.pairs ≡ Some state
    → IfSome (wanted pair) (IsHopOf p)) where
  lay_named : (lay : Lay) → IsDue (laid_at pointers) wanted lay → IsNamedLay p lay
  lay_named lay due = by_found (lookup (is_at (pair_cmp (pair_of_lay lay))) pointers.pairs) refl
    where
      by_found : (found : Option PairState) → lookup (is_at (pair_cmp (pair_of_lay lay))) pointers.pairs ≡ found → IsNamedLay p lay
      by_found None is =
          let unknown : state_of pointers (pair_of_lay lay) ≡ nothing_known = ap (λ f. unwrap_or f nothing_known) is in
          let laid : laid_at pointers (pair_of_lay lay) ≡ None = ap (λ s. s.laid) unknown in
          let never : hop_due lay.on None None ≡ Some (hop_of_lay lay) =
          ap (λ l. hop_due lay.on l None) (sym laid)
          ∙ ap (hop_due lay.on (laid_at pointers (pair_of_lay lay))) (sym (nowhere (pair_of_lay lay) unknown)) ∙ due in
          let wrong : None ≡ Some (hop_of_lay lay) = sym (none_due lay.on None) ∙ never in
          absurd (cc)
      by_found (Some state) is =
          let one = All-found (IsNamedPair p) (pair_of_lay lay) state pointers.pairs named is in
          let hop : IfSome (hop_due lay.on (laid_at pointers (pair_of_lay lay)) (wanted (pair_of_lay lay))) (IsHopOf p) =
          due_named p lay.on (laid_at pointers (pair_of_lay lay)) (wanted (pair_of_lay lay))
          (laid_among p pointers.pairs (pair_of_lay lay) named) (goes (pair_of_lay lay) state is) in
          let there : IsHopOf p (hop_of_lay lay) = subst (λ h. IfSome h (IsHopOf p)) due hop in
          record {
            to = there.to;
            object = All-found (λ e. IsName p e.0.object) (pair_of_lay lay) state pointers.pairs objects is;
            server = one.server;
            level = there.level;
          }

-- the Lays that clearing sends
pub cleared_named : (p : SettingsValue) (last : ℕ) (pointers : PointersValue) → IsPointers pointers → AreNamedPairs p pointers
    → All (λ e. IsName p e.0.object) pointers.pairs → All (IsNamedLay p) (clear_lays last pointers)
cleared_named p last pointers are named objects =
    All-weaker (IsDue (laid_at pointers) (λ pair. None)) (IsNamedLay p)
    (lay_named p pointers (λ pair. None) named objects (λ pair unknown. refl) (λ pair state found. tt)) (clear_lays last pointers)
    (clear_lays-due last pointers are)

-- what holds of each pair once it is laid as wanted, and speaks of nothing that this changes, holds of it before
before_wanted : (t : TableValue) (P : Pair × PairState → Type 0) → ((e : Pair × PairState) → P (with_wanted t e) → P e)
    → (pairs : List (Pair × PairState)) → All P (map (with_wanted t) pairs) → All P pairs
before_wanted t P back [] all = All-nil P
before_wanted t P back (e ∷ pairs) all =
    All-cons P e pairs (back e (All-head P (with_wanted t e) (map (with_wanted t) pairs) all))
    (before_wanted t P back pairs (All-tail P (with_wanted t e) (map (with_wanted t) pairs) all))

same_keys : (t : TableValue) (pairs : List (Pair × PairState)) → keys_of (map (with_wanted t) pairs) ≡ keys_of pairs
same_keys t [] = refl
same_keys t (e ∷ pairs) = ap (λ keys. e.0 ∷ keys) (same_keys t pairs)

-- The Lays that reconciling sends, and the pairs after it.
module _ (t : TableValue) (valid : IsTable t) (last : ℕ) (pointers : PointersValue) (named : AreNamedPairs t.settings pointers)
    (objects : All (λ e. IsName t.settings e.0.object) (reconciled t pointers).pairs) (are : IsPointers (reconciled t pointers)) where
  abbrev q : SettingsValue
  q = t.settings

  objects_before : All (λ e. IsName q e.0.object) pointers.pairs
  objects_before = before_wanted t (λ e. IsName q e.0.object) (λ e is. is) pointers.pairs objects

  known_before : All (IsPairState pointers.owner) pointers.pairs
  known_before =
      before_wanted t (IsPairState pointers.owner)
      (λ e is. record { own = is.own; levels_from = is.levels_from; levels_to = is.levels_to }) pointers.pairs are.known

  are_before : IsPointers pointers
  are_before = record {
    ascending = subst (IsStrictlySortedBy pair_cmp) (same_keys t pointers.pairs) are.ascending;
    known = known_before;
  }

  hop_wanted : (e : Pair × PairState) → IsName q e.0.object → IsPairState pointers.owner e → IfSome (wanted_hop t e) (IsHopOf q)
  hop_wanted e object known = wanted_named t valid e.0.object object pointers.owner e.0.server e.1 known

  pub reconciled_lays : All (IsNamedLay q) (reconcile_lays t last pointers)
  reconciled_lays =
      All-weaker (IsDue (laid_at pointers) (wanted_at t pointers)) (IsNamedLay q)
      (lay_named q pointers (wanted_at t pointers) named objects_before
      (λ pair unknown. ap (λ s. wanted_hop t (pair, s)) unknown)
      (λ pair state found.
      subst (λ s. IfSome (wanted_hop t (pair, s)) (IsHopOf q)) (sym (ap (λ f. unwrap_or f nothing_known) found))
      (hop_wanted (pair, state) (All-found (λ e. IsName q e.0.object) pair state pointers.pairs objects_before found)
      (All-found (IsPairState pointers.owner) pair state pointers.pairs known_before found))))
      (reconcile_lays t last pointers) (reconcile_lays-due t last pointers are_before)

  pub reconciled_pairs : AreNamedPairs q (reconciled t pointers)
  reconciled_pairs =
      All-map (IsNamedPair q) (with_wanted t) pointers.pairs (λ k d inside.
      let one = named k d inside in
      record { server = one.server; laid = hop_wanted (get_or pointers.pairs k d) (objects_before k d inside) (known_before k d inside) })
