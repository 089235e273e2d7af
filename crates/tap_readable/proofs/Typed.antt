-- Of parents, words, Lays and watches that are typed: their numbers have the bits of their fields, and slots ascend.
use Rattle.std.proofs.Common.{◌≡◌, ℕ, ◌+◌, ◌-◌, ◌<◌, ◌≤◌, ◌^◌, ◌==◌, Bool, true, false, List, [], ◌∷◌, ◌++◌, length, Option, None, Some, All, arith, refl, subst, inl, inr}
use Rattle.std.specs.Prelude.{filter, map, not, if◌then◌else◌}
use Rattle.std.specs.List.{range_with_len}
use Rattle.std.proofs.lemmas.Bool.{cases_Bool, eqb-false}
use Rattle.std.proofs.lemmas.List.{length-append}
use Rattle.std.proofs.lemmas.List.Elements.{All-append, All-cons, All-head, All-nil, All-push, All-tail, All-weaker}
use Rattle.std.proofs.lemmas.List.Kept.{AllPairs-filter}
use Rattle.tap_name.specs.declared.slot.Offered.{Offered}
use Rattle.tap_name.specs.declared.slot.Slot.{Slot}
use Rattle.tap_name.specs.Slot.{Precedes}
use Rattle.tap_session.specs.declared.parent.Parent.{Parent}
use Rattle.tap_session.specs.declared.parent.Parent.TheVariants.{Node, Root}
use Rattle.tap_session.specs.declared.sessions.Answered.TheVariants.{Closed, Open}
use Rattle.tap_session.specs.Session.{Session, SessionsValue}
use Rattle.tap_session.specs.Sessions.{after_answer, answer_to, answered_at, next_session, opened_with, session_of}
use Rattle.tap_session.proofs.Transitions.{All-found}
use Rattle.tap_table.specs.declared.tie.Tie.{Tie}
use Rattle.tap_table.specs.Levels.{is_kept}
use Rattle.tap_table.specs.Table.{TableValue}
use Rattle.tap_table.specs.Ties.{TiesValue, off_ties, offer_tells, pin_tells, stamp_after, tie_where}
use Rattle.tap_depart.specs.ToldLeave.{offer_tells_if}
use Rattle.tap_join.specs.Hello.{is_own, links_tell, offered_tells, with_offered, words_of}
use Rattle.tap_pointer.specs.declared.lay.Lay.{Lay}
use Rattle.tap_multicast.specs.declared.covers.Covered.{Covered}
use Rattle.tap_multicast.specs.declared.covers.Covered.TheVariants.{Already, Now}
use Rattle.tap_multicast.specs.Covers.{CoversValue, begun_cover, cover_of, covered, level_kept}
use Rattle.tap_multicast.specs.Offer.{answers, left}
use Rattle.tap_watch.specs.Watch.{SlotsAscend}
use Rattle.tap_rule.specs.Node.{NodeState}
use Rattle.tap_rule.proofs.Completed.{one_word}

-- ---- parents

-- the session in which a node asked has 32 bits
abbrev pub IsTypedParent : Parent → Type 0
IsTypedParent (Root joiner) = Unit {0}
IsTypedParent (Node name session) = session < 2 ^ 32

abbrev HasTypedParent : Session → Type 0
HasTypedParent s = IsTypedParent s.parent

abbrev pub HaveTypedParents : SessionsValue → Type 0
HaveTypedParents sessions = All HasTypedParent sessions.sessions

-- those who asked, for joins and for casts
pub record KnowsTyped (node : NodeState) : Type 0 where
  pub parents : HaveTypedParents node.sessions
  pub cast_parents : HaveTypedParents node.cast_sessions

-- a session more
pub parents-opened : (s : SessionsValue) (parent : Parent) (depth waiting : ℕ) → HaveTypedParents s → IsTypedParent parent
    → HaveTypedParents (opened_with s parent depth waiting)
parents-opened s parent depth waiting have is = All-push HasTypedParent s.sessions (next_session s parent depth waiting) have is

-- an answer more
after_one : (id : ℕ) (sessions : List Session) → All HasTypedParent sessions → All HasTypedParent (after_answer id sessions)
after_one id [] all = All-nil HasTypedParent
after_one id (s ∷ sessions) all =
    let rest = after_one id sessions (All-tail HasTypedParent s sessions all) in
    let first : HasTypedParent s = All-head HasTypedParent s sessions all in
    elim (cases_Bool (id == s.id)) [
      | inl its ↦ elim (cases_Bool (s.waiting == 1)) [
        | inl last ↦ rw (its, last) rest
        | inr more ↦ rw (its, more) (All-cons HasTypedParent (record s { waiting = s.waiting - 1 }) (after_answer id sessions) first rest)
      ]
      | inr other ↦ rw other (All-cons HasTypedParent s (after_answer id sessions) first rest)
    ]

pub parents-answered : (s : SessionsValue) (id : ℕ) → HaveTypedParents s → HaveTypedParents (answered_at s id)
parents-answered s id have = after_one id s.sessions have

-- the parent of a session that closes
closed_by : (found : Option Session) (parent : Parent) → ((s : Session) → found ≡ Some s → HasTypedParent s)
    → answer_to found ≡ Closed parent → IsTypedParent parent
closed_by None parent each closed = cc
closed_by (Some s) parent each closed =
    elim (cases_Bool (s.waiting == 1)) [
      | inl last ↦
          let is : Closed s.parent ≡ Closed parent = rw last at closed in
          let same : s.parent ≡ parent = cc in
          subst IsTypedParent same (each s refl)
      | inr more ↦
          let wrong : Open ≡ Closed parent = rw more at closed in
          cc
    ]

pub closed_parent : (s : SessionsValue) (id : ℕ) (parent : Parent) → HaveTypedParents s
    → answer_to (session_of s.sessions id) ≡ Closed parent → IsTypedParent parent
closed_parent s id parent have closed =
    closed_by (session_of s.sessions id) parent (λ found is. (All-found HasTypedParent s.sessions id found have is).0) closed

-- ---- versions

-- these words, and these Lays, have versions of at most this
abbrev pub AreWordsTo : ℕ → List Tie → Type 0
AreWordsTo most words = All (λ word. word.version ≤ most) words

abbrev pub AreLaysTo : ℕ → List Lay → Type 0
AreLaysTo most lays = All (λ lay. lay.version ≤ most) lays

pub words_more : (most more : ℕ) (words : List Tie) → most ≤ more → AreWordsTo most words → AreWordsTo more words
words_more most more words up all =
    All-weaker (λ word. word.version ≤ most) (λ word. word.version ≤ more) (λ word is. omega (arith, is, up)) words all

pub lays_more : (most more : ℕ) (lays : List Lay) → most ≤ more → AreLaysTo most lays → AreLaysTo more lays
lays_more most more lays up all =
    All-weaker (λ lay. lay.version ≤ most) (λ lay. lay.version ≤ more) (λ lay is. omega (arith, is, up)) lays all

pub no_words : (most : ℕ) → AreWordsTo most []
no_words most = All-nil (λ word. word.version ≤ most)

-- one word takes one number, if there is one
pub word_to : (is : Bool) (to : List ℕ) (last : ℕ) (on : Bool)
    → AreWordsTo (last + length (words_of (tie_where is to (last + 1) on))) (words_of (tie_where is to (last + 1) on))
word_to true to last on =
    All-cons (λ word. word.version ≤ last + 1) (record { to = to; version = last + 1; on = on }) [] (omega arith) (no_words (last + 1))
word_to false to last on = no_words (last + 0)

pub offer_to : (ties : TiesValue) (last : ℕ) (taken : Option (List ℕ))
    → AreWordsTo (last + length (words_of (offer_tells_if ties last taken))) (words_of (offer_tells_if ties last taken))
offer_to ties last None = no_words (last + 0)
offer_to ties last (Some name) = word_to _ name last true

-- and so do several, one after another
pub off_to : (last : ℕ) (names : List (List ℕ)) → AreWordsTo (last + length (off_ties last names)) (off_ties last names)
off_to last [] = no_words (last + 0)
off_to last (name ∷ names) =
    let most = last + length (off_ties last (name ∷ names)) in
    All-cons (λ word. word.version ≤ most) (record { to = name; version = last + 1; on = false }) (off_ties (last + 1) names) (omega arith)
    (words_more (last + 1 + length (off_ties (last + 1) names)) most (off_ties (last + 1) names) (omega arith) (off_to (last + 1) names))

-- Lays with the numbers after the stamp's last
pub lays_to : (last : ℕ) (lays : List Lay) → map (λ l. l.version) lays ≡ range_with_len (last + 1) (length lays)
    → AreLaysTo (last + length lays) lays
lays_to last [] is = All-nil (λ lay. lay.version ≤ last + 0)
lays_to last (lay ∷ lays) is =
    let first : lay.version ≡ last + 1 = cc in
    let later : map (λ l. l.version) lays ≡ range_with_len (last + 1 + 1) (length lays) = cc in
    let most = last + length (lay ∷ lays) in
    All-cons (λ lay. lay.version ≤ most) lay lays (omega (arith, first))
    (lays_more (last + 1 + length lays) most lays (omega arith) (lays_to (last + 1) lays later))

module _ (ties : TiesValue) (last : ℕ) (link : Offered) where
  -- a name of a Hello takes a word, or none
  pub offered_to : AreWordsTo (last + length (words_of (offered_tells ties last link))) (words_of (offered_tells ties last link))
  offered_to = by_own (is_own ties link) link.settled
    where
      by_own : (own settled : Bool)
          → AreWordsTo (last + length (words_of (if own then None else (if settled then offer_tells ties last link.name else pin_tells ties last link.name))))
          (words_of (if own then None else (if settled then offer_tells ties last link.name else pin_tells ties last link.name)))
      by_own true settled = no_words (last + 0)
      by_own false true = word_to _ link.name last true
      by_own false false = word_to _ link.name last true

  pub offered_stamp : stamp_after last (offered_tells ties last link) ≡ last + length (words_of (offered_tells ties last link))
  offered_stamp = by_own (is_own ties link) link.settled
    where
      by_own : (own settled : Bool)
          → stamp_after last (if own then None else (if settled then offer_tells ties last link.name else pin_tells ties last link.name))
          ≡ last + length (words_of (if own then None else (if settled then offer_tells ties last link.name else pin_tells ties last link.name)))
      by_own true settled = omega arith
      by_own false true = one_word _ link.name last true
      by_own false false = one_word _ link.name last true

pub links_to : (ties : TiesValue) (last : ℕ) (links : List Offered)
    → AreWordsTo (last + length (links_tell ties last links)) (links_tell ties last links)
links_to ties last [] = no_words (last + 0)
links_to ties last (link ∷ links) =
    let word = offered_tells ties last link in
    let first = words_of word in
    let after = stamp_after last word in
    let rest = links_tell (with_offered ties link) after links in
    let most = last + length (first ++ rest) in
    let size = length-append first rest in
    let stamp = offered_stamp ties last link in
    All-append (λ word. word.version ≤ most) first rest
    (words_more (last + length first) most first (omega (arith, size)) (offered_to ties last link))
    (words_more (after + length rest) most rest (omega (arith, size, stamp)) (links_to (with_offered ties link) after links))

-- ---- watches

-- the watch that a cover leaves ascends
abbrev pub LeavesAscending : Covered → Type 0
LeavesAscending Already = Unit {0}
LeavesAscending (Now first offer targets left) = SlotsAscend left

pub covered_ascends : (covers : CoversValue) (t : TableValue) (watch : List Slot) (joiner : List ℕ) (prefix level : ℕ)
    → SlotsAscend watch → LeavesAscending (covered covers t watch joiner prefix level)
covered_ascends covers t watch joiner prefix level ascends =
    by_kept (is_kept (level_kept covers joiner) level)
  where
    by_first : (first : Bool) → SlotsAscend (if first then filter (λ slot. not (answers t joiner slot)) watch else watch)
    by_first true = AllPairs-filter Precedes (λ slot. not (answers t joiner slot)) watch ascends
    by_first false = ascends

    by_kept : (kept : Bool)
        → LeavesAscending (if kept then Already else begun_cover t watch (cover_of t (level_kept covers joiner) joiner prefix level))
    by_kept true = tt
    by_kept false = by_first (cover_of t (level_kept covers joiner) joiner prefix level).first

-- ---- depths

-- one more has 16 bits, unless this is the greatest
pub deeper : (depth : ℕ) → depth < 2 ^ 16 → (depth == 65535) ≡ false → depth + 1 < 2 ^ 16
deeper depth small apart = let other = eqb-false depth 65535 apart in omega (arith, small, other)
