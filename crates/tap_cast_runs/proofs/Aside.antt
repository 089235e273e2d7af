-- A node that isn't asked to cover a joiner tells nobody of one and opens no root session, and its covers stay, or are gone.
use Rattle.std.proofs.Common.{◌≡◌, ◌⊎◌, ℕ, false, List, [], All, None, ap, refl, sym, subst, ◌∙◌, inl, inr}
use Rattle.tap_session.specs.declared.parent.Parent.TheVariants.{Node}
use Rattle.tap_session.specs.Session.{SessionsValue}
use Rattle.tap_session.specs.Sessions.{opened_with}
use Rattle.tap_wire.specs.declared.frame.Body.{Body}
use Rattle.tap_wire.specs.declared.frame.Frame.{Frame}
use Rattle.tap_wire.specs.declared.kind.Kind.{Kind}
use Rattle.tap_wire.specs.declared.kind.Kind.TheVariants.{Tell}
use Rattle.tap_wire.specs.Kind.{kind_of}
use Rattle.tap_rule.specs.Node.{NodeState, Status, name_of}
use Rattle.tap_rule.specs.Node.Status.{Core}
use Rattle.tap_rule.specs.Event.{Acted, Start}
use Rattle.tap_rule.specs.Event.Event.{Starts as StartsOne}
use Rattle.tap_rule.specs.Reaction.{Message, Reaction}
use Rattle.tap_rule.specs.Covering.{Request}
use Rattle.tap_rule.specs.Strange.{is_strange}
use Rattle.tap_rule.specs.Sent.{AreSent}
use Rattle.tap_rule.specs.Act.{act}
use Rattle.tap_rule.specs.RuleLaws.{IsCarriedOut, frame_to}
use Rattle.tap_rule.proofs.Cases.{Cause, IsAsked, IsNamed, RuleCase}
use Rattle.tap_rule.proofs.Cases.Cause.{Takes, Starts}
use Rattle.tap_rule.proofs.Cases.IsAsked.{BySeek, ByTell}
use Rattle.tap_rule.proofs.Cases.IsParting.{StartsLeaving, OneLeft}
use Rattle.tap_rule.proofs.Cases.IsNamed.{TellOn}
use Rattle.tap_rule.proofs.Cases.RuleCase.{CoveredBefore, CoversAlone, CoversOn, Greets, HasCeased, IsGoneNow}
use Rattle.tap_rule.proofs.Named.{each_named}
use Rattle.tap_rule.proofs.EachAct.{each_start, each_take}
use Rattle.tap_safety.specs.Frames.{tell_body}
use Rattle.tap_safety.specs.Exchanges.{IsSent}
use Rattle.tap_moves.specs.ByRule.{taken_at}
use Rattle.tap_moves.proofs.CalmMoves.{SendsNoTell}
use Rattle.tap_moves.proofs.Got.{among_all}
use Rattle.tap_cast_runs.specs.Recalled.{asked, asked_at, asked_by_seek}

-- ---- what a rule leaves

-- a body that tells nobody of a joiner
abbrev IsNoTellKind : Kind → Type 0
IsNoTellKind Tell = ⊥
IsNoTellKind other = Unit {0}

abbrev IsNoTell : Body → Type 0
IsNoTell body = IsNoTellKind (kind_of body)

abbrev TellNobody : List Message → Type 0
TellNobody messages = All (λ m. IsNoTell m.body) messages

-- its covers stay, or are gone
abbrev pub LeavesCovers : NodeState → NodeState → Type 0
LeavesCovers before after = (after.covers ≡ before.covers) ⊎ (after.covers ≡ [])

-- it opens a session that answers another node's
pub record OpensBelow (before after : NodeState) : Type 0 where
  pub name : List ℕ
  pub session : ℕ
  pub depth : ℕ
  pub waiting : ℕ
  pub sessions : after.sessions ≡ opened_with before.sessions (Node name session) depth waiting

-- if it opens a session, it is such a one
abbrev pub OpensNoRoot : NodeState → NodeState → Type 0
OpensNoRoot before after = (after.sessions.opened ≡ before.sessions.opened) ⊎ OpensBelow before after

-- a rule that does so, and opens no root session
record IsAside (node : NodeState) (r : Reaction) : Type 0 where
  messages : TellNobody r.messages
  covers : LeavesCovers node r.state
  opened : OpensNoRoot node r.state

-- what is done
pub record ActsAside (node : NodeState) (acted : Acted) : Type 0 where
  pub no_tell : SendsNoTell acted.sent
  pub covers : LeavesCovers node acted.state
  pub opened : OpensNoRoot node acted.state

-- ---- rules

keeps : (node : NodeState) (r : Reaction) → r.state.covers ≡ node.covers → OpensNoRoot node r.state
    → TellNobody r.messages → IsAside node r
keeps node r covers opened messages = record { messages = messages; covers = inl covers; opened = opened }

ends_so : (node : NodeState) (r : Reaction) → r.state.covers ≡ [] → OpensNoRoot node r.state
    → TellNobody r.messages → IsAside node r
ends_so node r covers opened messages = record { messages = messages; covers = inr covers; opened = opened }

module _ (node : NodeState) where
  -- nobody is to be covered
  abbrev AsksNone : Status → Cause → Type 0
  AsksNone status (Takes from body) = asked_at status node from body ≡ None
  AsksNone status (Starts start) = Unit {0}

  not_asked : {cause : Cause} {request : Request} → IsAsked node cause request → AsksNone Core cause → ⊥
  not_asked (BySeek {joiner = joiner} ends) none = let wrong = subst (λ found. asked_by_seek node joiner found ≡ None) ends none in absurd (cc)
  not_asked ByTell none = absurd (cc)

  named_aside : {status : Status} {cause : Cause} → AsksNone status cause → (m : Message) → IsNamed node status cause m → IsNoTell m.body
  named_aside none m (TellOn k default asked turn within) = not_asked asked none
  named_aside none m _ = tt

  case_aside : {status : Status} {cause : Cause} {r : Reaction} → RuleCase node status cause r → AsksNone status cause
      → TellNobody r.messages → IsAside node r
  case_aside (Greets {from = from} {session = session} {depth = depth} before) none sent =
      keeps node _ refl (inr (record { name = from; session = session; depth = depth; waiting = 1; sessions = refl })) sent
  case_aside (CoveredBefore asked turn) none sent = absurd (not_asked asked none)
  case_aside (CoversAlone asked turn zero) none sent = absurd (not_asked asked none)
  case_aside (CoversOn asked turn some) none sent = absurd (not_asked asked none)
  case_aside (HasCeased given_up) none sent = ends_so node _ refl (inl refl) sent
  case_aside (IsGoneNow StartsLeaving zero) none sent = ends_so node _ refl (inl refl) sent
  case_aside (IsGoneNow OneLeft zero) none sent = ends_so node _ refl (inl refl) sent
  case_aside _ none sent = keeps node _ refl (inl refl) sent

-- ---- what is sent

aside_sent : (own : List ℕ) (r : Reaction) (sent : List Frame) → AreSent own r.words r.messages sent → TellNobody r.messages
    → SendsNoTell sent
aside_sent own r sent are aside from to fields watch among =
    elim (are.each (record { from = from; to = to; body = tell_body fields watch }) among) [
      | inl link ↦ absurd (subst IsNoTell (sym (ap (λ (g : Frame). g.body) link.is)) tt)
      | inr (inl named) ↦
          absurd (subst IsNoTell (sym (ap (λ (g : Frame). g.body) named.is))
          (among_all (λ (m : Message). IsNoTell m.body) r.messages aside named.message named.among))
      | inr (inr lay) ↦ absurd (subst IsNoTell (sym (ap (λ (g : Frame). g.body) lay.is)) tt)
    ]

carried_aside : (node : NodeState) (r : Reaction) (acted : Acted) → IsCarriedOut node r acted → IsAside node r → ActsAside node acted
carried_aside node r acted carried aside = record {
  no_tell = aside_sent (name_of node) r acted.sent carried.sent aside.messages;
  covers = elim aside.covers [ inl same ↦ inl (carried.covers ∙ same) | inr none ↦ inr (carried.covers ∙ none) ];
  opened = elim aside.opened [
    | inl same ↦ inl (ap (λ (all : SessionsValue). all.opened) carried.sessions ∙ same)
    | inr below ↦ inr (record {
      name = below.name;
      session = below.session;
      depth = below.depth;
      waiting = below.waiting;
      sessions = carried.sessions ∙ below.sessions;
    })
  ];
}

-- a node that nothing happens to
unruled : (node : NodeState) (acted : Acted) → acted.state ≡ node → acted.sent ≡ [] → ActsAside node acted
unruled node acted state sent = record {
  no_tell = λ from to fields watch among.
      let none : IsSent [] from to (tell_body fields watch) = subst (λ frames. IsSent frames from to (tell_body fields watch)) sent among in
      none;
  covers = inl (ap (λ (n : NodeState). n.covers) state);
  opened = inl (ap (λ (n : NodeState). n.sessions.opened) state);
}

does_aside : (node : NodeState) (cause : Cause) → AsksNone node node.status cause → (r : Reaction) (acted : Acted)
    → RuleCase node node.status cause r → IsCarriedOut node r acted → ActsAside node acted
does_aside node cause none r acted case carried =
    carried_aside node r acted carried
    (case_aside node case none (each_named node (λ m. IsNoTell m.body) (named_aside node none) case))

-- a frame that doesn't ask its taker to cover anybody
pub frame_aside : (node : NodeState) (from : List ℕ) (body : Body) → is_strange node (frame_to node from body) ≡ false
    → asked node from body ≡ None → ActsAside node (taken_at node from body)
frame_aside node from body known none =
    each_take node (ActsAside node) (unruled node _ refl refl) (frame_to node from body) (unruled node _ refl refl)
    (λ taken. does_aside node (Takes from body) none)

-- whatever a node starts, it tells nobody of a joiner
pub start_aside : (node : NodeState) (start : Start) → ActsAside node (act node (StartsOne start))
start_aside node start = each_start node (ActsAside node) (unruled node _ refl refl) start (does_aside node (Starts start) tt)
