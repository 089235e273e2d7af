-- The receiver of a frame under way has a rule for it, and the session open that it answers.
use Rattle.std.proofs.Common.{◌≡◌, ◌⊎◌, ℕ, suc, Bool, List, [], ◌∷◌, Some, true, false, arith, refl, subst, sym, inl, inr}
use Rattle.std.specs.List.{Contains}
use Rattle.tap_name.specs.Settings.{SettingsValue}
use Rattle.tap_wire.specs.declared.frame.Body.TheVariants.{Ack, Heard}
use Rattle.tap_wire.specs.declared.frame.Frame.{Frame}
use Rattle.tap_wire.specs.declared.frame.Body.{Body}
use Rattle.tap_rule.specs.HasRule.{taken_by, HasRule}
use Rattle.tap_rule.specs.Node.{NodeState, Status, name_of}
use Rattle.tap_rule.specs.Node.Status.{Ceased as CeasedStatus, Core, Gone, Joining, Leaving}
use Rattle.tap_rule.specs.Sent.{IsAmong}
use Rattle.tap_safety.specs.FewSessions.{SessionsAreFew}
use Rattle.tap_safety.specs.Invariant.{Basis}
use Rattle.tap_safety.specs.System.{System, AmongFrames}
use Rattle.tap_safety.proofs.Said.{Said, said_of}
use Rattle.tap_safety.proofs.Said.Said.{IsAck, IsDone, IsForget, IsGone, IsHeard, IsHello, IsLeave, IsLeft, IsLink, IsRelease, IsSeek, IsTell}
use Rattle.tap_safety.specs.Notices.{IsNotice}
use Rattle.tap_moves.specs.KnownNames.{AreNodes}
use Rattle.tap_moves.specs.InvariantLaws.{IsTakenThere, IsFilledThere}
use Rattle.tap_moves.specs.PinsRule.{IsEndedStatus}
use Rattle.tap_safety_moves.specs.Arrivals.{AnswersOpenSession, Arrives, OthersHaveRules, TakenWhereDue, MayLackRule, IsSetApart}
use Rattle.tap_safety_moves.proofs.Takers.{done_taker, forget_taker, hello_taker, kept_session, leave_taker, left_taker, release_taker, seek_taker, session_taker, tell_taker}

-- a frame under way arrives at the node of its receiver
pub arrives_at : (p : SettingsValue) (s : System) (number : ℕ) (frame : Frame) (node : NodeState) → Basis p s → AreNodes p s
    → SessionsAreFew p s → AmongFrames number frame s.frames → s.node frame.to ≡ Some node
    → (name_of node ≡ frame.to) × Arrives p s number node frame.from frame.body
arrives_at p s number frame node invariant nodes few among at =
    let name = (nodes.nodes frame.to node at).name in (
      name,
      record {
        invariant = invariant;
        nodes = nodes;
        few = few;
        among = subst (λ to. AmongFrames number (record { from = frame.from; to = to; body = frame.body }) s.frames) (sym name) among;
        at = subst (λ x. s.node x ≡ Some node) (sym name) at;
      },
    )

-- ---- rules

-- std's word for a status among some: a place where it stands
contained : (statuses : List Status) (status : Status) → IsAmong status statuses → Contains statuses status
contained [] status among = absurd among
contained (first ∷ others) status (inl is) = (0, omega arith, sym is)
contained (first ∷ others) status (inr later) = let place = contained others status later in (suc place.0, omega arith, place.2)

-- a Link has a rule at each node but one that is gone
hears_or_gone : (status : Status) → IsAmong status (Joining ∷ Core ∷ Leaving ∷ CeasedStatus ∷ []) ⊎ (status ≡ Gone)
hears_or_gone Joining = inl (inl refl)
hears_or_gone Core = inl (inr (inl refl))
hears_or_gone Leaving = inl (inr (inr (inl refl)))
hears_or_gone Gone = inr refl
hears_or_gone CeasedStatus = inl (inr (inr (inr (inl refl))))

module _ (status : Status) where
  at_tell : (status ≡ Core) ⊎ ((status ≡ Joining) ⊎ (status ≡ CeasedStatus)) → Contains (Joining ∷ Core ∷ CeasedStatus ∷ []) status
  at_tell (inl core) = contained (Joining ∷ Core ∷ CeasedStatus ∷ []) status (inr (inl core))
  at_tell (inr (inl joins)) = contained (Joining ∷ Core ∷ CeasedStatus ∷ []) status (inl joins)
  at_tell (inr (inr ceased)) = contained (Joining ∷ Core ∷ CeasedStatus ∷ []) status (inr (inr (inl ceased)))

  at_answer : (status ≡ Joining) ⊎ ((status ≡ Core) ⊎ (status ≡ CeasedStatus)) → Contains (Joining ∷ Core ∷ CeasedStatus ∷ []) status
  at_answer (inl joins) = contained (Joining ∷ Core ∷ CeasedStatus ∷ []) status (inl joins)
  at_answer (inr (inl core)) = contained (Joining ∷ Core ∷ CeasedStatus ∷ []) status (inr (inl core))
  at_answer (inr (inr ceased)) = contained (Joining ∷ Core ∷ CeasedStatus ∷ []) status (inr (inr (inl ceased)))

  -- a Release and a Forget alike
  at_free : ((status ≡ Joining) ⊎ (status ≡ Core)) ⊎ IsEndedStatus status → Contains (Joining ∷ Core ∷ []) status ⊎ IsEndedStatus status
  at_free (inl (inl joins)) = inl (contained (Joining ∷ Core ∷ []) status (inl joins))
  at_free (inl (inr core)) = inl (contained (Joining ∷ Core ∷ []) status (inr (inl core)))
  at_free (inr over) = inr over

  at_link : Contains (Joining ∷ Core ∷ Leaving ∷ CeasedStatus ∷ []) status ⊎ (status ≡ Gone)
  at_link = elim (hears_or_gone status) [
    | inl hears ↦ inl (contained (Joining ∷ Core ∷ Leaving ∷ CeasedStatus ∷ []) status hears)
    | inr gone ↦ inr gone
  ]

  -- a kind that one status alone takes
  only : (one : Status) → status ≡ one → Contains (one ∷ []) status
  only one is = contained (one ∷ []) status (inl is)

pub others_have_rules : OthersHaveRules
unfolding taken_by
others_have_rules p s number node from body is = by_said body (said_of body) is
  where
    by_said : (body : Body) → Said body → Arrives p s number node from body → HasRule node.status body ⊎ MayLackRule node.status body
    by_said _ (IsSeek joiner) is = inl (only node.status Core (seek_taker p s number node from joiner is))
    by_said _ (IsTell tell watch) is = inl (at_tell node.status (tell_taker p s number node from tell watch is))
    by_said _ (IsHello hello) is = inl (only node.status Joining (hello_taker p s number node from hello is))
    by_said _ (IsHeard session) is = inl (at_answer node.status (session_taker p s number node from (Heard session) is session refl))
    by_said _ (IsAck session) is = inl (at_answer node.status (session_taker p s number node from (Ack session) is session refl))
    by_said _ IsDone is = inl (only node.status Joining (done_taker p s number node from is))
    by_said _ IsRelease is = at_free node.status (release_taker p s number node from is)
    by_said _ IsForget is = at_free node.status (forget_taker p s number node from is)
    by_said _ (IsLink version on) is = at_link node.status
    by_said _ (IsLeave replacement) is = inl (only node.status Core (leave_taker p s number node from replacement is))
    by_said _ IsLeft is = inl (only node.status Leaving (left_taker p s number node from is))
    by_said _ _ is = inr tt

-- a join goes on, or was given up
goes_on : (abandoned : Bool) → (abandoned ≡ false) ⊎ (abandoned ≡ true)
goes_on true = inr refl
goes_on false = inl refl

pub taken_where_due : TakenWhereDue
taken_where_due p s number node from body is none = by_said body (said_of body) is none
  where
    by_said : (body : Body) → Said body → Arrives p s number node from body → (IsNotice body → ⊥)
        → IsTakenThere node body × (IsFilledThere node body ⊎ IsSetApart node body)
    by_said _ (IsSeek joiner) is none = let core = seek_taker p s number node from joiner is in (core, inl core)
    by_said _ (IsTell tell watch) is none = let there = tell_taker p s number node from tell watch is in (there, inl there)
    by_said _ (IsHello hello) is none = let joins = hello_taker p s number node from hello is in (joins, inl joins)
    by_said _ IsDone is none = (tt, goes_on node.abandoned)
    by_said _ IsRelease is none = (tt, release_taker p s number node from is)
    by_said _ IsForget is none = (tt, forget_taker p s number node from is)
    by_said _ (IsLeave replacement) is none = absurd (none tt)
    by_said _ IsLeft is none = absurd (none tt)
    by_said _ IsGone is none = absurd (none tt)
    by_said _ _ is none = (tt, inl tt)

-- ---- answers

pub heard_answers : AnswersOpenSession Heard
heard_answers p s number node from session is = kept_session p s number node from (Heard session) is session refl

pub ack_answers : AnswersOpenSession Ack
ack_answers p s number node from session is = kept_session p s number node from (Ack session) is session refl
