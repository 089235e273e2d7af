-- To whom a rule has a node send: words, messages and Lays, if its links, its holders and those who ask it are such.
use Rattle.std.proofs.Common.{◌≡◌, ◌==◌, ℕ, ◌+◌, ◌≤◌, Bool, true, false, List, [], ◌∷◌, length, drop, All, Option, None, Some, refl, sym, subst, inl, inr}
use Rattle.std.specs.Prelude.{IfSome}
use Rattle.std.specs.BTreeMap.{is_at}
use Rattle.std.specs.Map.{lookup}
use Rattle.std.specs.Option.{unwrap_or}
use Rattle.std.proofs.lemmas.Bool.{cases_Bool}
use Rattle.std.proofs.lemmas.List.Elements.{All-append, All-cons, All-head, All-nil, All-push, All-tail, All-weaker}
use Rattle.tap_name.specs.Name.{IsName}
use Rattle.tap_name.specs.declared.slot.Offered.{Offered}
use Rattle.tap_session.specs.declared.parent.Parent.{Parent}
use Rattle.tap_session.specs.declared.sessions.Answered.TheVariants.{Closed, Open}
use Rattle.tap_session.specs.Session.{Session, SessionsValue}
use Rattle.tap_session.specs.Sessions.{after_answer, answer_to, answered_at, next_session, opened_with, session_of}
use Rattle.tap_session.proofs.Transitions.{All-found as All-found_session}
use Rattle.tap_link.specs.declared.kind.Kind.{Kind}
use Rattle.tap_table.specs.Next.{next_from}
use Rattle.tap_table.specs.Table.{IsTable, TableValue, kind_in}
use Rattle.tap_table.specs.declared.next.Next.{Next}
use Rattle.tap_table.specs.declared.next.Next.TheVariants.{Hop as HopTo, Root as AtRoot}
use Rattle.tap_table.specs.declared.tie.Tie.{Tie}
use Rattle.tap_table.specs.Ties.{off_ties, tie_where, stamp_after, TiesValue}
use Rattle.tap_table.proofs.Hops.{hop_exactly, hop_is}
use Rattle.tap_pointer.specs.declared.hop.Hop.{Hop}
use Rattle.tap_pointer.specs.declared.lay.Lay.{Lay}
use Rattle.tap_pointer.specs.declared.pair.Pair.{Pair}
use Rattle.tap_pointer.specs.declared.state.PairState.{PairState}
use Rattle.tap_pointer.specs.Pair.{pair_cmp, pair_cmp-total}
use Rattle.tap_pointer.specs.Pointers.{IsPairState, IsPointers, PointersValue, level_held, nothing_known, own_pair, owner_publishes, published, state_among, state_of, with_published, with_state, withdrawn}
use Rattle.tap_pointer.specs.Reconcile.{clear_lays, hop_from, hop_of, is_same_hop, is_to, reconcile_lays, wanted_hop}
use Rattle.tap_pointer.specs.Due.{IsDue, hop_due, laid_at, pair_of_lay, wanted_at}
use Rattle.tap_pointer.proofs.Due.{clear_lays-due, reconcile_lays-due}
use Rattle.tap_pointer.proofs.Entries.{All-put}
use Rattle.tap_pointer.proofs.Known.{All-found}
use Rattle.tap_pointer.proofs.Levels.{level_most}
use Rattle.tap_join.specs.Hello.{is_own, links_tell, offered_tells, with_offered, words_of}

module _ (P : List ℕ → Type 0) where
  -- ---- words and messages

  abbrev pub IsToWord : Tie → Type 0
  IsToWord word = P word.to

  abbrev pub IsToLay : Lay → Type 0
  IsToLay lay = P lay.to

  pub word_to : (told : Bool) (to : List ℕ) (version : ℕ) (on : Bool) → P to → All IsToWord (words_of (tie_where told to version on))
  word_to true to version on is = All-cons IsToWord (record { to = to; version = version; on = on }) [] is (All-nil IsToWord)
  word_to false to version on is = All-nil IsToWord

  pub off_to : (last : ℕ) (names : List (List ℕ)) → All P names → All IsToWord (off_ties last names)
  off_to last [] all = All-nil IsToWord
  off_to last (name ∷ names) all =
      All-cons IsToWord (record { to = name; version = last + 1; on = false }) (off_ties (last + 1) names)
      (All-head P name names all) (off_to (last + 1) names (All-tail P name names all))

  offered_to : (ties : TiesValue) (last : ℕ) (link : Offered) → P link.name → All IsToWord (words_of (offered_tells ties last link))
  offered_to ties last link is =
      elim (cases_Bool (is_own ties link)) [
        | inl own ↦ rw own (All-nil IsToWord)
        | inr apart ↦ elim (cases_Bool link.settled) [
          | inl settled ↦ rw (apart, settled) (word_to _ link.name (last + 1) true is)
          | inr joining ↦ rw (apart, joining) (word_to _ link.name (last + 1) true is)
        ]
      ]

  abbrev pub IsToLink : Offered → Type 0
  IsToLink link = P link.name

  pub hello_to : (links : List Offered) (ties : TiesValue) (last : ℕ) → All IsToLink links → All IsToWord (links_tell ties last links)
  hello_to [] ties last all = All-nil IsToWord
  hello_to (link ∷ links) ties last all =
      let word = offered_tells ties last link in
      All-append IsToWord (words_of word) (links_tell (with_offered ties link) (stamp_after last word) links)
      (offered_to ties last link (All-head IsToLink link links all))
      (hello_to links (with_offered ties link) (stamp_after last word) (All-tail IsToLink link links all))

  -- ---- Lays

  abbrev pub IsHopTo : Hop → Type 0
  IsHopTo hop = P hop.to

  -- where a pair is laid
  abbrev pub IsLaidTo : Pair × PairState → Type 0
  IsLaidTo e = IfSome e.1.laid IsHopTo

  abbrev pub AreLaidTo : PointersValue → Type 0
  AreLaidTo pointers = All IsLaidTo pointers.pairs

  -- a Lay that is due goes to where its pair is laid, or wanted
  due_to : (on : Bool) (laid wanted : Option Hop) → IfSome laid IsHopTo → IfSome wanted IsHopTo → IfSome (hop_due on laid wanted) IsHopTo
  due_to true laid None was is = tt
  due_to true None (Some wanted) was is = is
  due_to true (Some laid) (Some wanted) was is =
      elim (cases_Bool (is_same_hop laid wanted)) [ inl same ↦ rw same tt | inr apart ↦ rw apart is ]
  due_to false None wanted was is = tt
  due_to false (Some laid) None was is = was
  due_to false (Some laid) (Some wanted) was is =
      elim (cases_Bool (is_to laid wanted)) [ inl same ↦ rw same tt | inr apart ↦ rw apart was ]

  laid_among : (pairs : List (Pair × PairState)) (pair : Pair) → All IsLaidTo pairs → IfSome (state_among pairs pair).laid IsHopTo
  laid_among pairs pair all = by_found (lookup (is_at (pair_cmp pair)) pairs) refl
    where
      by_found : (found : Option PairState) → lookup (is_at (pair_cmp pair)) pairs ≡ found
          → IfSome (unwrap_or found nothing_known).laid IsHopTo
      by_found None is = tt
      by_found (Some state) is = All-found IsLaidTo pair state pairs all is

  lay_to : (pointers : PointersValue) (wanted : Pair → Option Hop) → AreLaidTo pointers → ((pair : Pair) → IfSome (wanted pair) IsHopTo)
      → (lay : Lay) → IsDue (laid_at pointers) wanted lay → IsToLay lay
  lay_to pointers wanted laid goes lay due =
      subst (λ hop. IfSome hop IsHopTo) due
      (due_to lay.on (laid_at pointers (pair_of_lay lay)) (wanted (pair_of_lay lay))
      (laid_among pointers.pairs (pair_of_lay lay) laid) (goes (pair_of_lay lay)))

  pub cleared_to : (last : ℕ) (pointers : PointersValue) → IsPointers pointers → AreLaidTo pointers
      → All IsToLay (clear_lays last pointers)
  cleared_to last pointers are laid =
      All-weaker (IsDue (laid_at pointers) (λ pair. None)) IsToLay (lay_to pointers (λ pair. None) laid (λ pair. tt))
      (clear_lays last pointers) (clear_lays-due last pointers are)

  -- a next hop goes to a link
  module _ (t : TableValue) (valid : IsTable t) (links : (to : List ℕ) (kind : Kind) → kind_in t to ≡ Some kind → P to) where
    hop_to : (object : List ℕ) → IsName t.settings object → (level : ℕ) → level ≤ length object → (next : Next)
        → next_from t level (drop level object) ≡ next → IfSome (hop_of next) IsHopTo
    hop_to object name level inside AtRoot is = tt
    hop_to object name level inside (HopTo to next) is =
        let hop = hop_is t object to next level valid name ((hop_exactly t object to next level inside).0 is) in
        links to _ hop.settled

    pub wanted_to : (owner : List ℕ) (e : Pair × PairState) → IsName t.settings e.0.object → IsPairState owner e
        → IfSome (wanted_hop t e) IsHopTo
    wanted_to owner e name known = by_level (level_held e.1) refl
      where
        by_level : (held : Option ℕ) → level_held e.1 ≡ held → IfSome (hop_from t e.0.object held) IsHopTo
        by_level None is = tt
        by_level (Some level) is =
            hop_to e.0.object name level (level_most (length e.0.object) e.1 level known.levels_to is)
            (next_from t level (drop level e.0.object)) refl

    wanted_at_to : (owner : List ℕ) (pointers : PointersValue) → All (λ e. IsName t.settings e.0.object) pointers.pairs
        → All (IsPairState owner) pointers.pairs → (pair : Pair) → IfSome (wanted_at t pointers pair) IsHopTo
    wanted_at_to owner pointers names known pair = by_found (lookup (is_at (pair_cmp pair)) pointers.pairs) refl
      where
        by_found : (found : Option PairState) → lookup (is_at (pair_cmp pair)) pointers.pairs ≡ found
            → IfSome (wanted_hop t (pair, unwrap_or found nothing_known)) IsHopTo
        by_found None is = tt
        by_found (Some state) is =
            wanted_to owner (pair, state) (All-found (λ e. IsName t.settings e.0.object) pair state pointers.pairs names is)
            (All-found (IsPairState owner) pair state pointers.pairs known is)

    pub reconciled_to : (owner : List ℕ) (last : ℕ) (pointers : PointersValue) → IsPointers pointers → AreLaidTo pointers
        → All (λ e. IsName t.settings e.0.object) pointers.pairs → All (IsPairState owner) pointers.pairs
        → All IsToLay (reconcile_lays t last pointers)
    reconciled_to owner last pointers are laid names known =
        All-weaker (IsDue (laid_at pointers) (wanted_at t pointers)) IsToLay
        (lay_to pointers (wanted_at t pointers) laid (wanted_at_to owner pointers names known)) (reconcile_lays t last pointers)
        (reconcile_lays-due t last pointers are)

    -- so where pairs are laid as wanted they are laid to links
    pub laid_to : (owner : List ℕ) (pairs : List (Pair × PairState)) → All (λ e. IsName t.settings e.0.object) pairs
        → All (IsPairState owner) pairs → All (λ e. e.1.laid ≡ wanted_hop t e) pairs → All IsLaidTo pairs
    laid_to owner [] names known laid = All-nil IsLaidTo
    laid_to owner (e ∷ pairs) names known laid =
        All-cons IsLaidTo e pairs
        (subst (λ hop. IfSome hop IsHopTo) (sym (All-head (λ e. e.1.laid ≡ wanted_hop t e) e pairs laid))
        (wanted_to owner e (All-head (λ e. IsName t.settings e.0.object) e pairs names) (All-head (IsPairState owner) e pairs known)))
        (laid_to owner pairs (All-tail (λ e. IsName t.settings e.0.object) e pairs names) (All-tail (IsPairState owner) e pairs known)
        (All-tail (λ e. e.1.laid ≡ wanted_hop t e) e pairs laid))

  -- ---- pairs that change, but not where they are laid

  pub put_to : (pointers : PointersValue) (pair : Pair) (state : PairState) → IfSome state.laid IsHopTo → AreLaidTo pointers
      → AreLaidTo (with_state pointers pair state)
  put_to pointers pair state laid all =
      All-put pair_cmp-total pair state IsLaidTo (λ other tied. laid) pointers.pairs all

  pub laid_in : (pointers : PointersValue) (pair : Pair) → AreLaidTo pointers → IfSome (state_of pointers pair).laid IsHopTo
  laid_in pointers pair all = laid_among pointers.pairs pair all

  pub published_to : (pointers : PointersValue) (object : List ℕ) → AreLaidTo pointers → AreLaidTo (published pointers object)
  published_to pointers object all =
      let own = own_pair pointers object in
      put_to pointers own (with_published (state_of pointers own) true) (laid_among pointers.pairs own all) all

  pub withdrawn_to : (pointers : PointersValue) (object : List ℕ) → AreLaidTo pointers → AreLaidTo (withdrawn pointers object)
  withdrawn_to pointers object all =
      let own = own_pair pointers object in
      elim (cases_Bool (owner_publishes pointers object)) [
        | inl is ↦ rw is (put_to pointers own (with_published (state_of pointers own) false) (laid_among pointers.pairs own all) all)
        | inr is_not ↦ rw is_not all
      ]

-- ---- sessions

-- what holds of each parent
module _ (Q : Parent → Type 0) where
  abbrev pub HasParent : Session → Type 0
  HasParent a = Q a.parent

  abbrev pub HaveParents : SessionsValue → Type 0
  HaveParents sessions = All HasParent sessions.sessions

  pub parents_opened : (sessions : SessionsValue) (parent : Parent) (depth waiting : ℕ) → HaveParents sessions → Q parent
      → HaveParents (opened_with sessions parent depth waiting)
  parents_opened sessions parent depth waiting have is =
      All-push HasParent sessions.sessions (next_session sessions parent depth waiting) have is

  after_one : (id : ℕ) (sessions : List Session) → All HasParent sessions → All HasParent (after_answer id sessions)
  after_one id [] all = All-nil HasParent
  after_one id (a ∷ sessions) all =
      let rest = after_one id sessions (All-tail HasParent a sessions all) in
      let first : HasParent a = All-head HasParent a sessions all in
      elim (cases_Bool (id == a.id)) [
        | inl its ↦ elim (cases_Bool (a.waiting == 1)) [
          | inl last ↦ rw (its, last) rest
          | inr more ↦ rw (its, more) (All-cons HasParent _ (after_answer id sessions) first rest)
        ]
        | inr other ↦ rw other (All-cons HasParent a (after_answer id sessions) first rest)
      ]

  pub parents_answered : (sessions : SessionsValue) (id : ℕ) → HaveParents sessions → HaveParents (answered_at sessions id)
  parents_answered sessions id have = after_one id sessions.sessions have

  pub closed_by : (found : Option Session) (parent : Parent) → ((a : Session) → found ≡ Some a → HasParent a)
      → answer_to found ≡ Closed parent → Q parent
  closed_by None parent each closed = cc
  closed_by (Some a) parent each closed =
      elim (cases_Bool (a.waiting == 1)) [
        | inl last ↦
            let is : Closed a.parent ≡ Closed parent = rw last at closed in
            let same : a.parent ≡ parent = cc in
            subst Q same (each a refl)
        | inr more ↦
            let wrong : Open ≡ Closed parent = rw more at closed in
            cc
      ]

  pub parent_closed : (sessions : SessionsValue) (id : ℕ) (parent : Parent) → HaveParents sessions
      → answer_to (session_of sessions.sessions id) ≡ Closed parent → Q parent
  parent_closed sessions id parent have closed =
      closed_by (session_of sessions.sessions id) parent (λ found is. (All-found_session HasParent sessions.sessions id found have is).0)
      closed
