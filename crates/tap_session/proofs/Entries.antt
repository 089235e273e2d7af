-- The map of open sessions and the list that it is seen as change alike.
use Rattle.std.proofs.Common.{◌≡◌, ◌==◌, ℕ, ◌+◌, ◌-◌, ◌<◌, ◌≤◌, true, false, Bool, List, [], ◌∷◌, ◌++◌, Option, None, Some, refl, sym, ap, ◌∙◌, arith, eqb-true, inl, inr}
use Rattle.std.specs.List.{All, AllPairs, AllByRecursion}
use Rattle.std.specs.List.Sorted.{IsStrictlySortedBy}
use Rattle.std.specs.Cmp.{nat_cmp_is, ranked, unsigned_tied}
use Rattle.std.specs.Map.{keys_of, values_of, lookup, remove_entry, set_value}
use Rattle.std.specs.BTreeMap.{insert_entry, is_at}
use Rattle.std.specs.Option.{option_map}
use Rattle.std.specs.Ordering.{nat_cmp, is_eq}
use Rattle.std.specs.declared.cmp.Ordering.TheVariants.{Less, Greater}
use Rattle.std.proofs.lemmas.List.Elements.{All-cons, All-tail}
use Rattle.std.proofs.lemmas.List.Kept.{AllPairs-cons}
use Rattle.std.proofs.lemmas.Bool.Decides.{eqb_tells}
use Rattle.std.proofs.lemmas.Map.Views.{IfSome-lookup_from_All}
use Rattle.tap_session.specs.declared.sessions.Awaited.{Awaited}
use Rattle.tap_session.specs.Awaited.{AreAwaiting, session, sessions_of}
use Rattle.tap_session.specs.Sessions.{AreSessions, after_answer, session_of}
use Rattle.tap_session.proofs.Transitions.{after_answer-unknown}

-- what the map holds at a number
abbrev pub awaited_at : ℕ → List (ℕ × Awaited) → Option Awaited
awaited_at id entries = lookup (is_at (nat_cmp id)) entries

-- the session of a number is what the map holds there
pub session_of-sessions_of : (entries : List (ℕ × Awaited)) (id : ℕ)
    → session_of (sessions_of entries) id ≡ option_map (session id) (awaited_at id entries)
session_of-sessions_of [] id = refl
session_of-sessions_of (e ∷ es) id = step (id == e.0) refl (session_of-sessions_of es id)
  where
    step : (b : Bool) → (id == e.0) ≡ b → session_of (sessions_of es) id ≡ option_map (session id) (awaited_at id es)
        → session_of (sessions_of (e ∷ es)) id ≡ option_map (session id) (awaited_at id (e ∷ es))
    step true is rest = rw (unsigned_tied id e.0, is) (ap (λ k. Some (session k e.1)) (sym (eqb-true id e.0 is)))
    step false is rest = rw (unsigned_tied id e.0, is) rest

-- an answer to a session that is not there changes nothing
pub after_answer-absent : (id : ℕ) (entries : List (ℕ × Awaited)) → awaited_at id entries ≡ None
    → after_answer id (sessions_of entries) ≡ sessions_of entries
after_answer-absent id entries absent =
    after_answer-unknown id (sessions_of entries) (session_of-sessions_of entries id ∙ ap (option_map (session id)) absent)

-- nothing is held at a number that is below all others
absent_below : (id : ℕ) (entries : List (ℕ × Awaited)) → AllByRecursion (λ k. nat_cmp id k ≡ Less) (keys_of entries)
    → awaited_at id entries ≡ None
absent_below id [] below = refl
absent_below id (e ∷ es) below = rw (ap is_eq below.0) (absent_below id es below.1)

-- nothing else is held at the number of the first entry
absent_after : (id : ℕ) (e : ℕ × Awaited) (es : List (ℕ × Awaited)) → id ≡ e.0 → IsStrictlySortedBy nat_cmp (keys_of (e ∷ es))
    → awaited_at id es ≡ None
unfolding IsStrictlySortedBy
absent_after id e es same sorted = rw same (absent_below e.0 es sorted.0)

sorted_after : (e : ℕ × Awaited) (es : List (ℕ × Awaited)) → IsStrictlySortedBy nat_cmp (keys_of (e ∷ es))
    → IsStrictlySortedBy nat_cmp (keys_of es)
unfolding IsStrictlySortedBy
sorted_after e es sorted = sorted.1

-- an answer to a session that waits for one takes it out
pub after_answer-closed : (id : ℕ) (a : Awaited) (entries : List (ℕ × Awaited)) → IsStrictlySortedBy nat_cmp (keys_of entries)
    → awaited_at id entries ≡ Some a
    → (a.waiting == 1) ≡ true → sessions_of (remove_entry (is_at (nat_cmp id)) entries) ≡ after_answer id (sessions_of entries)
after_answer-closed id a [] sorted found last = refl
after_answer-closed id a (e ∷ es) sorted found last =
    step (id == e.0) refl (after_answer-closed id a es (sorted_after e es sorted))
  where
    step : (b : Bool) → (id == e.0) ≡ b
        → (awaited_at id es ≡ Some a → (a.waiting == 1) ≡ true
        → sessions_of (remove_entry (is_at (nat_cmp id)) es) ≡ after_answer id (sessions_of es))
        → sessions_of (remove_entry (is_at (nat_cmp id)) (e ∷ es)) ≡ after_answer id (sessions_of (e ∷ es))
    step true is rest =
        let here : Some e.1 ≡ Some a = rw (unsigned_tied id e.0, is) at found in
        let same : e.1 ≡ a = cc in
        let gone : (e.1.waiting == 1) ≡ true = rw same last in
        rw (unsigned_tied id e.0, is, gone) (sym (after_answer-absent id es (absent_after id e es (eqb-true id e.0 is) sorted)))
    step false is rest =
        let later : awaited_at id es ≡ Some a = rw (unsigned_tied id e.0, is) at found in
        rw (unsigned_tied id e.0, is) (ap (λ l. session e.0 e.1 ∷ l) (rest later last))

-- an answer to a session that waits for more leaves it with one less
pub after_answer-open : (id : ℕ) (a : Awaited) (entries : List (ℕ × Awaited)) → IsStrictlySortedBy nat_cmp (keys_of entries)
    → awaited_at id entries ≡ Some a
    → (a.waiting == 1) ≡ false → sessions_of (set_value (is_at (nat_cmp id)) entries (record a { waiting = a.waiting - 1 }))
    ≡ after_answer id (sessions_of entries)
after_answer-open id a [] sorted found more = refl
after_answer-open id a (e ∷ es) sorted found more = step (id == e.0) refl (after_answer-open id a es (sorted_after e es sorted))
  where
    step : (b : Bool) → (id == e.0) ≡ b
        → (awaited_at id es ≡ Some a → (a.waiting == 1) ≡ false
        → sessions_of (set_value (is_at (nat_cmp id)) es (record a { waiting = a.waiting - 1 })) ≡ after_answer id (sessions_of es))
        → sessions_of (set_value (is_at (nat_cmp id)) (e ∷ es) (record a { waiting = a.waiting - 1 }))
        ≡ after_answer id (sessions_of (e ∷ es))
    step true is rest =
        let here : Some e.1 ≡ Some a = rw (unsigned_tied id e.0, is) at found in
        let same : e.1 ≡ a = cc in
        let stays : (e.1.waiting == 1) ≡ false = rw same more in
        let others : after_answer id (sessions_of es) ≡ sessions_of es =
        after_answer-absent id es (absent_after id e es (eqb-true id e.0 is) sorted) in
        rw (unsigned_tied id e.0, is, stays, others, same) refl
    step false is rest =
        let later : awaited_at id es ≡ Some a = rw (unsigned_tied id e.0, is) at found in
        rw (unsigned_tied id e.0, is) (ap (λ l. session e.0 e.1 ∷ l) (rest later more))

-- a number above all others goes to the end
pub insert_entry-last : (entries : List (ℕ × Awaited)) (opened : ℕ) (a : Awaited) → All (λ id. (1 ≤ id) × (id ≤ opened)) (keys_of entries)
    → insert_entry nat_cmp entries (opened + 1) a ≡ entries ++ (opened + 1, a) ∷ []
insert_entry-last [] opened a given = refl
insert_entry-last (e ∷ es) opened a given =
    let lower = given 0 e.0 (omega arith) in
    let above : nat_cmp (opened + 1) e.0 ≡ Greater = sym (nat_cmp_is (opened + 1) e.0 Greater (omega arith)) in
    rw above (ap (λ l. e ∷ l) (insert_entry-last es opened a (All-tail (λ id. (1 ≤ id) × (id ≤ opened)) e.0 (keys_of es) given)))

-- the numbers ascend
below_after : (id : ℕ) (entries : List (ℕ × Awaited)) → AllByRecursion (λ k. nat_cmp id k ≡ Less) (keys_of entries)
    → All (λ s. id < s.id) (sessions_of entries)
below_after id [] below = λ k d h. absurd (omega arith)
below_after id (e ∷ es) below =
    All-cons (λ s. id < s.id) (session e.0 e.1) (sessions_of es) (ranked id e.0 Less (sym below.0)) (below_after id es below.1)

pub ascending : (entries : List (ℕ × Awaited)) → IsStrictlySortedBy nat_cmp (keys_of entries)
    → AllPairs (λ a b. a.id < b.id) (sessions_of entries)
unfolding IsStrictlySortedBy
ascending [] sorted = λ i j d lt h. absurd (omega arith)
ascending (e ∷ es) sorted =
    AllPairs-cons (λ a b. a.id < b.id) (session e.0 e.1) (sessions_of es) (below_after e.0 es sorted.0) (ascending es sorted.1)

-- what holds of the numbers, or of what is kept, holds of the sessions
pub All-ids : (P : ℕ → Type 0) (entries : List (ℕ × Awaited)) → All P (keys_of entries) → All (λ s. P s.id) (sessions_of entries)
All-ids P [] all = λ k d h. absurd (omega arith)
All-ids P (e ∷ es) all = All-cons (λ s. P s.id) (session e.0 e.1) (sessions_of es) (all 0 e.0 (omega arith))
    (All-ids P es (All-tail P e.0 (keys_of es) all))

pub All-waiting : (P : ℕ → Type 0) (entries : List (ℕ × Awaited)) → All (λ a. P a.waiting) (values_of entries)
    → All (λ s. P s.waiting) (sessions_of entries)
All-waiting P [] all = λ k d h. absurd (omega arith)
All-waiting P (e ∷ es) all =
    All-cons (λ s. P s.waiting) (session e.0 e.1) (sessions_of es) (all 0 e.1 (omega arith))
    (All-waiting P es (All-tail (λ a. P a.waiting) e.1 (values_of es) all))

-- they are sessions
pub are_sessions : (entries : List (ℕ × Awaited)) (opened : ℕ) → IsStrictlySortedBy nat_cmp (keys_of entries) → AreAwaiting entries opened
    → AreSessions (record { sessions = sessions_of entries; opened = opened })
are_sessions entries opened sorted counted = record {
  ascending = ascending entries sorted;
  given = All-ids (λ id. (1 ≤ id) × (id ≤ opened)) entries counted.given;
  waiting = All-waiting (λ n. 1 ≤ n) entries counted.waiting;
}

-- each session that is held waits for an answer
pub waits : (id : ℕ) (a : Awaited) (entries : List (ℕ × Awaited)) → All (λ a. 1 ≤ a.waiting) (values_of entries)
    → awaited_at id entries ≡ Some a → 1 ≤ a.waiting
waits id a entries waiting found = rw found at (IfSome-lookup_from_All (λ a. 1 ≤ a.waiting) (is_at (nat_cmp id)) entries waiting)

pub not_last : (a : Awaited) → 1 < a.waiting → (a.waiting == 1) ≡ false
not_last a more = elim (eqb_tells a.waiting 1) [ inl both ↦ absurd (omega (arith, both.1)) | inr both ↦ both.0 ]
