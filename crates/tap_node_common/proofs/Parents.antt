-- The parents of a node's sessions are names with sessions that have numbers, whatever is opened and answered.
-- Cited above: closed_parent, parents-answered, parents-opened
use Rattle.std.proofs.Common.{◌≡◌, ◌==◌, ◌-◌, ℕ, List, [], ◌∷◌, Option, None, Some, All, refl, subst, inl, inr}
use Rattle.std.proofs.lemmas.Bool.{cases_Bool}
use Rattle.std.proofs.lemmas.List.Elements.{All-cons, All-head, All-nil, All-push, All-tail}
use Rattle.tap_name.specs.Settings.{SettingsValue}
use Rattle.tap_session.specs.declared.parent.Parent.{Parent}
use Rattle.tap_session.specs.declared.sessions.Answered.TheVariants.{Open, Closed}
use Rattle.tap_session.specs.Session.{Session, SessionsValue}
use Rattle.tap_session.specs.Sessions.{after_answer, answer_to, answered_at, next_session, opened_with, session_of}
use Rattle.tap_session.proofs.Transitions.{All-found}
use Rattle.tap_node_common.specs.SoundNode.{HaveParents, IsParent}

module _ (p : SettingsValue) where
  abbrev HasParent : Session → Type 0
  HasParent s = IsParent p s.parent

  pub parents-opened : (s : SessionsValue) (parent : Parent) (depth waiting : ℕ) → HaveParents p s → IsParent p parent
      → HaveParents p (opened_with s parent depth waiting)
  parents-opened s parent depth waiting have is = All-push HasParent s.sessions (next_session s parent depth waiting) have is

  after_one : (id : ℕ) (sessions : List Session) → All HasParent sessions → All HasParent (after_answer id sessions)
  after_one id [] all = All-nil HasParent
  after_one id (s ∷ sessions) all =
      let rest = after_one id sessions (All-tail HasParent s sessions all) in
      let first : HasParent s = All-head HasParent s sessions all in
      elim (cases_Bool (id == s.id)) [
        | inl its ↦ elim (cases_Bool (s.waiting == 1)) [
          | inl last ↦ rw (its, last) rest
          | inr more ↦ rw (its, more) (All-cons HasParent (record s { waiting = s.waiting - 1 }) (after_answer id sessions) first rest)
        ]
        | inr other ↦ rw other (All-cons HasParent s (after_answer id sessions) first rest)
      ]

  pub parents-answered : (s : SessionsValue) (id : ℕ) → HaveParents p s → HaveParents p (answered_at s id)
  parents-answered s id have = after_one id s.sessions have

  -- the parent of a session that closes
  closed_by : (found : Option Session) (parent : Parent) → ((s : Session) → found ≡ Some s → HasParent s) → answer_to found ≡ Closed parent
      → IsParent p parent
  closed_by None parent each closed = cc
  closed_by (Some s) parent each closed =
      elim (cases_Bool (s.waiting == 1)) [
        | inl last ↦
            let is : Closed s.parent ≡ Closed parent = rw last at closed in
            let same : s.parent ≡ parent = cc in
            subst (IsParent p) same (each s refl)
        | inr more ↦
            let wrong : Open ≡ Closed parent = rw more at closed in
            cc
      ]

  pub closed_parent : (s : SessionsValue) (id : ℕ) (parent : Parent) → HaveParents p s
      → answer_to (session_of s.sessions id) ≡ Closed parent → IsParent p parent
  closed_parent s id parent have closed =
      closed_by (session_of s.sessions id) parent (λ found is. (All-found HasParent s.sessions id found have is).0) closed
