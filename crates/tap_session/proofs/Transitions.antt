-- What each number has after a session is opened or answered, and that the sessions stay in order.
-- Cited above: All-found, answered-unknown, AreSessions-answered, AreSessions-none, AreSessions-opened, session_of-answered, session_of-opened
use Rattle.std.proofs.Common.{◌≡◌, ◌==◌, ℕ, ◌+◌, ◌-◌, ◌<◌, ◌≤◌, true, false, Bool, List, [], ◌∷◌, length, length-append, Option, None, Some, refl, sym, ap, ◌∙◌, suc, inl, inr, arith, cond, if◌then◌else◌, eqb-true}
use Rattle.std.specs.List.{All, AllPairs}
use Rattle.std.specs.Option.{option_or, option_and_then}
use Rattle.std.proofs.lemmas.Bool.{cases_Bool, eqb-false}
use Rattle.std.proofs.lemmas.List.Elements.{All-cons, All-push, All-tail}
use Rattle.std.proofs.lemmas.List.Folds.{find-append}
use Rattle.std.proofs.lemmas.List.Kept.{AllPairs-cons}
use Rattle.std.proofs.lemmas.List.Quantifiers.{all_pairs_push}
use Rattle.tap_session.specs.declared.parent.Parent.{Parent}
use Rattle.tap_session.specs.declared.sessions.Answered.{Answered}
use Rattle.tap_session.specs.declared.sessions.Answered.TheVariants.{Open, Closed, Unknown}
use Rattle.tap_session.specs.Session.{Session, SessionsValue}
use Rattle.tap_session.specs.Sessions.{AreSessions, after_answer, answer_to, answered_at, closes_next, next_session, opened_with, session_of, with_answer}

-- a number that is above those of all sessions, or below them, has none
session_of-above : (sessions : List Session) (opened id : ℕ) → All (λ a. a.id ≤ opened) sessions → opened < id
    → session_of sessions id ≡ None
session_of-above [] opened id given above = refl
session_of-above (a ∷ rest) opened id given above = elim (cases_Bool (id == a.id)) [
  | inl same ↦ let e = eqb-true id a.id same in let most = given 0 a (omega arith) in absurd (omega arith)
  | inr differ ↦ rw differ (session_of-above rest opened id (All-tail (λ a. a.id ≤ opened) a rest given) above)
]

session_of-below : (sessions : List Session) (id : ℕ) → All (λ a. id < a.id) sessions → session_of sessions id ≡ None
session_of-below [] id above = refl
session_of-below (a ∷ rest) id above = elim (cases_Bool (id == a.id)) [
  | inl same ↦ let e = eqb-true id a.id same in let least = above 0 a (omega arith) in absurd (omega arith)
  | inr differ ↦ rw differ (session_of-below rest id (All-tail (λ a. id < a.id) a rest above))
]

-- what holds of each session holds of the one that a number finds, and it has that number
pub All-found : (P : Session → Type 0) (sessions : List Session) (id : ℕ) (a : Session) → All P sessions → session_of sessions id ≡ Some a
    → P a × (a.id ≡ id)
All-found P [] id a all found = absurd cc
All-found P (b ∷ bs) id a all found = step (id == b.id) refl (All-found P bs id a (All-tail P b bs all))
  where
    step : (test : Bool) → (id == b.id) ≡ test → (session_of bs id ≡ Some a → P a × (a.id ≡ id)) → P a × (a.id ≡ id)
    step true is later =
        let here : Some b ≡ Some a = rw is at found in
        let same : b ≡ a = cc in
        rw (← same) (all 0 b (omega arith), sym (eqb-true id b.id is))
    step false is later = later (rw is at found)

-- an answer to a number that no open session has changes nothing
pub after_answer-unknown : (id : ℕ) (sessions : List Session) → session_of sessions id ≡ None → after_answer id sessions ≡ sessions
after_answer-unknown id [] absent = refl
after_answer-unknown id (a ∷ rest) absent = step (id == a.id) refl (after_answer-unknown id rest)
  where
    step : (test : Bool) → (id == a.id) ≡ test → (session_of rest id ≡ None → after_answer id rest ≡ rest)
        → after_answer id (a ∷ rest) ≡ a ∷ rest
    step true is later = let found : Some a ≡ None = rw is at absent in absurd cc
    step false is later = rw is (ap (λ (l : List Session). a ∷ l) (later (rw is at absent)))

-- an answer to one number leaves what another number has
after_answer-other : (id other : ℕ) (sessions : List Session) → (id == other) ≡ false
    → session_of (after_answer id sessions) other ≡ session_of sessions other
after_answer-other id other [] differ = refl
after_answer-other id other (a ∷ rest) differ =
    step (id == a.id) refl (a.waiting == 1) refl (other == a.id) refl (after_answer-other id other rest differ)
  where
    step : (here : Bool) → (id == a.id) ≡ here → (last : Bool) → (a.waiting == 1) ≡ last → (there : Bool) → (other == a.id) ≡ there
        → session_of (after_answer id rest) other ≡ session_of rest other
        → session_of (after_answer id (a ∷ rest)) other ≡ session_of (a ∷ rest) other
    step true is last w true e later =
        let same = eqb-true id a.id is in
        let same_too = eqb-true other a.id e in
        let apart = eqb-false id other differ in
        absurd (omega arith)
    step true is true w false e later = rw (is, w, e) later
    step true is false w false e later = rw (is, w, e) later
    step false is last w true e later = rw (is, e) refl
    step false is last w false e later = rw (is, e) later

-- and its own number then has the session with that answer
after_answer-own : (id : ℕ) (sessions : List Session) → AllPairs (λ a b. a.id < b.id) sessions
    → session_of (after_answer id sessions) id ≡ option_and_then with_answer (session_of sessions id)
after_answer-own id [] ascending = refl
after_answer-own id (a ∷ rest) ascending =
    step (id == a.id) refl (a.waiting == 1) refl
    (after_answer-own id rest (λ i j d lt within. ascending (suc i) (suc j) d (omega arith) (omega arith)))
  where
    step : (here : Bool) → (id == a.id) ≡ here → (last : Bool) → (a.waiting == 1) ≡ last
        → session_of (after_answer id rest) id ≡ option_and_then with_answer (session_of rest id)
        → session_of (after_answer id (a ∷ rest)) id ≡ option_and_then with_answer (session_of (a ∷ rest) id)
    step true is true w later =
        let same : id ≡ a.id = eqb-true id a.id is in
        let above : All (λ b. id < b.id) rest = rw same (λ k d h. ascending 0 (suc k) d (omega arith) (omega arith)) in
        let absent = session_of-below rest id above in
        rw (is, w, after_answer-unknown id rest absent) absent
    step true is false w later = rw (is, w, is) refl
    step false is last w later = rw (is, is) later

-- what holds of each session, and then of each with one answer more, still holds of each
All-after_answer : (P : Session → Type 0) (id : ℕ) (sessions : List Session)
    → ((a : Session) → P a → (a.waiting == 1) ≡ false → P (record a { waiting = a.waiting - 1 }))
    → All P sessions → All P (after_answer id sessions)
All-after_answer P id [] again all = all
All-after_answer P id (a ∷ rest) again all =
    step (id == a.id) refl (a.waiting == 1) refl (All-after_answer P id rest again (All-tail P a rest all))
  where
    step : (here : Bool) → (id == a.id) ≡ here → (last : Bool) → (a.waiting == 1) ≡ last → All P (after_answer id rest)
        → All P (after_answer id (a ∷ rest))
    step true is true w later = rw (is, w) later
    step true is false w later =
        rw (is, w) (All-cons P (record a { waiting = a.waiting - 1 }) (after_answer id rest) (again a (all 0 a (omega arith)) w) later)
    step false is last w later = rw is (All-cons P a (after_answer id rest) (all 0 a (omega arith)) later)

ascending-after_answer : (id : ℕ) (sessions : List Session) → AllPairs (λ a b. a.id < b.id) sessions
    → AllPairs (λ a b. a.id < b.id) (after_answer id sessions)
ascending-after_answer id [] ascending = ascending
ascending-after_answer id (a ∷ rest) ascending =
    step (id == a.id) refl (a.waiting == 1) refl
    (All-after_answer (λ b. a.id < b.id) id rest (λ b lt more. lt) (λ k d h. ascending 0 (suc k) d (omega arith) (omega arith)))
    (ascending-after_answer id rest (λ i j d lt within. ascending (suc i) (suc j) d (omega arith) (omega arith)))
  where
    step : (here : Bool) → (id == a.id) ≡ here → (last : Bool) → (a.waiting == 1) ≡ last
        → All (λ b. a.id < b.id) (after_answer id rest) → AllPairs (λ a b. a.id < b.id) (after_answer id rest)
        → AllPairs (λ a b. a.id < b.id) (after_answer id (a ∷ rest))
    step true is true w above later = rw (is, w) later
    step true is false w above later =
        rw (is, w) (AllPairs-cons (λ a b. a.id < b.id) (record a { waiting = a.waiting - 1 }) (after_answer id rest) above later)
    step false is last w above later = rw is (AllPairs-cons (λ a b. a.id < b.id) a (after_answer id rest) above later)

-- a session that is closed is one less, and any other answer leaves as many
length-after_answer : (id : ℕ) (sessions : List Session) → AllPairs (λ a b. a.id < b.id) sessions
    → length (after_answer id sessions) + (if closes_next (session_of sessions id) then 1 else 0) ≡ length sessions
length-after_answer id [] ascending = refl
length-after_answer id (a ∷ rest) ascending =
    step (id == a.id) refl (a.waiting == 1) refl
    (length-after_answer id rest (λ i j d lt within. ascending (suc i) (suc j) d (omega arith) (omega arith)))
  where
    step : (here : Bool) → (id == a.id) ≡ here → (last : Bool) → (a.waiting == 1) ≡ last
        → length (after_answer id rest) + (if closes_next (session_of rest id) then 1 else 0) ≡ length rest
        → length (after_answer id (a ∷ rest)) + (if closes_next (session_of (a ∷ rest) id) then 1 else 0) ≡ length (a ∷ rest)
    step true is last w later =
        let same : id ≡ a.id = eqb-true id a.id is in
        let above : All (λ b. id < b.id) rest = rw same (λ k d h. ascending 0 (suc k) d (omega arith) (omega arith)) in
        let stays = after_answer-unknown id rest (session_of-below rest id above) in
        closes last w stays
      where
        closes : (last : Bool) → (a.waiting == 1) ≡ last → after_answer id rest ≡ rest
            → length (after_answer id (a ∷ rest)) + (if closes_next (session_of (a ∷ rest) id) then 1 else 0) ≡ length (a ∷ rest)
        closes true w stays = rw (is, w, stays) (omega arith)
        closes false w stays = rw (is, w, stays) (omega arith)
    step false is last w later = rw is (omega (arith, later))

option_or-none : {X : Type 0} (found : Option X) → option_or found None ≡ found
option_or-none None = refl
option_or-none (Some x) = refl

-- no session is open at first
pub AreSessions-none : AreSessions (record { sessions = []; opened = 0 })
AreSessions-none = record {
  ascending = λ i j d lt within. absurd (omega arith);
  given = λ k d h. absurd (omega arith);
  waiting = λ k d h. absurd (omega arith);
}

-- what an answer to a number leaves, and what is told
pub record Answers (old new : SessionsValue) (id : ℕ) (told : Answered) : Type 0 where
  pub answer : told ≡ answer_to (session_of old.sessions id)
  pub after : new ≡ answered_at old id
  pub look_up : (other : ℕ) → session_of new.sessions other
      ≡ (if id == other then option_and_then with_answer (session_of old.sessions id) else session_of old.sessions other)
  pub unknown : told ≡ Unknown → new ≡ old

-- only a number that no open session has is told to be unknown
pub told_unknown : (found : Option Session) → answer_to found ≡ Unknown → found ≡ None
told_unknown None told = refl
told_unknown (Some a) told = step (a.waiting == 1) refl
  where
    step : (last : Bool) → (a.waiting == 1) ≡ last → Some a ≡ None
    step true is = let closed : Closed a.parent ≡ Unknown = rw is at told in absurd cc
    step false is = let still_open : Open ≡ Unknown = rw is at told in absurd cc

module _ (s : SessionsValue) (are : AreSessions s) where
  -- an open session was given its number, and waits for an answer
  pub open_session : (id : ℕ) (a : Session) → session_of s.sessions id ≡ Some a
      → (a.id ≡ id) × (1 ≤ id) × (id ≤ s.opened) × (1 ≤ a.waiting)
  open_session id a found =
      let given = All-found (λ a. (1 ≤ a.id) × (a.id ≤ s.opened)) s.sessions id a are.given found in
      let waits = All-found (λ a. 1 ≤ a.waiting) s.sessions id a are.waiting found in
      (given.1, omega arith, omega arith, waits.0)

  -- no open session has a number that wasn't given yet
  pub session_of-later : (id : ℕ) → s.opened < id → session_of s.sessions id ≡ None
  session_of-later id later = session_of-above s.sessions s.opened id (λ k d h. (are.given k d h).1) later

  module _ (parent : Parent) (depth waiting : ℕ) where
    -- the look-up law of an opening: its number has the new session, and each other number what it had
    pub session_of-opened : (other : ℕ) → session_of (opened_with s parent depth waiting).sessions other
        ≡ (if s.opened + 1 == other then Some (next_session s parent depth waiting) else session_of s.sessions other)
    session_of-opened other =
        find-append (λ a. other == a.id) s.sessions (next_session s parent depth waiting ∷ [])
        ∙ step (s.opened + 1 == other) refl (other == s.opened + 1) refl
      where
        step : (is : Bool) → (s.opened + 1 == other) ≡ is → (was : Bool) → (other == s.opened + 1) ≡ was
            → option_or (session_of s.sessions other) (cond (other == s.opened + 1) (Some (next_session s parent depth waiting)) None)
            ≡ cond (s.opened + 1 == other) (Some (next_session s parent depth waiting)) (session_of s.sessions other)
        step true is true was =
            let new = eqb-true other (s.opened + 1) was in
            rw (is, was, session_of-later other (omega arith)) refl
        step false is false was = rw (is, was) (option_or-none (session_of s.sessions other))
        step true is false was = absurd (eqb-false other (s.opened + 1) was (sym (eqb-true (s.opened + 1) other is)))
        step false is true was = absurd (eqb-false (s.opened + 1) other is (sym (eqb-true other (s.opened + 1) was)))

    -- the sessions stay sessions
    pub AreSessions-opened : 1 ≤ waiting → AreSessions (opened_with s parent depth waiting)
    AreSessions-opened waits = record {
      ascending = all_pairs_push (λ a b. a.id < b.id) s.sessions (next_session s parent depth waiting) are.ascending
          (λ k d h. let given = are.given k d h in omega (arith, given.1));
      given = All-push (λ a. (1 ≤ a.id) × (a.id ≤ s.opened + 1)) s.sessions (next_session s parent depth waiting)
          (λ k d h. let given = are.given k d h in (given.0, omega (arith, given.1))) (omega arith, omega arith);
      waiting = All-push (λ a. 1 ≤ a.waiting) s.sessions (next_session s parent depth waiting) are.waiting waits;
    }

    -- one more is open
    pub length-opened : length (opened_with s parent depth waiting).sessions ≡ length s.sessions + 1
    length-opened = length-append s.sessions (next_session s parent depth waiting ∷ [])

  module _ (id : ℕ) where
    -- the look-up law of an answer: its number has the session with one answer less to wait for, or none if it was the last, and
    -- each other number has what it had
    pub session_of-answered : (other : ℕ) → session_of (answered_at s id).sessions other
        ≡ (if id == other then option_and_then with_answer (session_of s.sessions id) else session_of s.sessions other)
    session_of-answered other = step (id == other) refl
      where
        step : (test : Bool) → (id == other) ≡ test → session_of (answered_at s id).sessions other
            ≡ cond test (option_and_then with_answer (session_of s.sessions id)) (session_of s.sessions other)
        step true is = rw (← eqb-true id other is) (after_answer-own id s.sessions are.ascending)
        step false is = after_answer-other id other s.sessions is

    -- the sessions stay sessions
    pub AreSessions-answered : AreSessions (answered_at s id)
    AreSessions-answered = record {
      ascending = ascending-after_answer id s.sessions are.ascending;
      given = All-after_answer (λ a. (1 ≤ a.id) × (a.id ≤ s.opened)) id s.sessions (λ a given more. given) are.given;
      waiting = All-after_answer (λ a. 1 ≤ a.waiting) id s.sessions
          (λ a waits more. let apart = eqb-false a.waiting 1 more in omega arith) are.waiting;
    }

    -- one less is open if it was the last answer, and else as many as before
    pub length-answered : length (answered_at s id).sessions + (if closes_next (session_of s.sessions id) then 1 else 0) ≡ length s.sessions
    length-answered = length-after_answer id s.sessions are.ascending

    -- a number that no open session has changes nothing
    pub answered-unknown : session_of s.sessions id ≡ None → answered_at s id ≡ s
    answered-unknown absent = ap (λ (l : List Session). record s { sessions = l }) (after_answer-unknown id s.sessions absent)

    -- what an answer leaves and what is told, whatever it is told
    pub answers : (new : List Session) (told : Answered) → told ≡ answer_to (session_of s.sessions id)
        → new ≡ after_answer id s.sessions → Answers s (record s { sessions = new }) id told
    answers new told answer after = record {
      answer = answer;
      after = ap (λ (l : List Session). record s { sessions = l }) after;
      look_up = λ other. rw after (session_of-answered other);
      unknown = λ is.
          ap (λ (l : List Session). record s { sessions = l }) (after
          ∙ after_answer-unknown id s.sessions (told_unknown (session_of s.sessions id) (sym answer ∙ is)));
    }
