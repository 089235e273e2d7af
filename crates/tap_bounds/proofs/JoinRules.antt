-- What a node does that joins or is core, at a frame that joins bring: it sends such frames alone, and is such a node afterwards.
use Rattle.std.proofs.Common.{◌≡◌, ◌⊎◌, ℕ, true, false, List, [], All, ap, refl, sym, subst, ◌∙◌, inl, inr}
use Rattle.std.specs.Prelude.{IfSome}
use Rattle.std.proofs.lemmas.List.Elements.{All-weaker}
use Rattle.tap_pointer.specs.Pointers.{PointersValue}
use Rattle.tap_wire.specs.declared.frame.Body.{Body}
use Rattle.tap_wire.specs.declared.frame.Body.TheVariants.{Done, Hello, Link, Release}
use Rattle.tap_rule.specs.Node.{NodeState, Status}
use Rattle.tap_rule.specs.Node.Status.{Core, Joining}
use Rattle.tap_rule.specs.Reaction.{Message, Reaction}
use Rattle.tap_rule.specs.FrameRules.{rule_of_frame}
use Rattle.tap_rule.proofs.Cases.{IsNamed, RuleCase}
use Rattle.tap_rule.proofs.Cases.Cause.{Takes}
use Rattle.tap_rule.proofs.Cases.IsCast.{ByCopy}
use Rattle.tap_rule.proofs.Cases.IsParting.{OneLeft}
use Rattle.tap_rule.proofs.Cases.IsNamed.{AnswerBack, CastAckBack, CastOn, ClosingCastAck, CoreHello, HolderForget, HolderGone, HolderRelease, JoiningHello, LeftBack, LinkForget, LinkRelease, NextFind}
use Rattle.tap_rule.proofs.Cases.RuleCase.{HasCeased, IsCoreNow, IsGoneNow, TakesPointer}
use Rattle.tap_rule.proofs.Named.{each_case}
use Rattle.tap_bounds.specs.OfJoins.{IsJoinBody}

-- ---- nodes and frames

abbrev pub JoinsOrIsCore : Status → Type 0
JoinsOrIsCore Joining = Unit {0}
JoinsOrIsCore Core = Unit {0}
JoinsOrIsCore other = ⊥

-- the node joins or is core, its join wasn't given up, and it knows of no pair
pub record IsPlainNode (node : NodeState) : Type 0 where
  pub status : JoinsOrIsCore node.status
  pub goes_on : node.abandoned ≡ false
  pub pairs : node.pointers.pairs ≡ []

-- a frame of a join; and the Hello of a joining node has no links
abbrev pub IsJoinFrame : Body → Type 0
IsJoinFrame (Hello session core links) = core ≡ false → links ≡ []
IsJoinFrame other = IsJoinBody other

-- what a rule of joins names: such a frame that is no Link
abbrev pub IsJoinMessage : Body → Type 0
IsJoinMessage (Link version on) = ⊥
IsJoinMessage other = IsJoinFrame other

abbrev pub AreJoinMessages : List Message → Type 0
AreJoinMessages messages = All (λ m. IsJoinMessage m.body) messages

-- and no Release
abbrev pub IsUnreleasing : Body → Type 0
IsUnreleasing Release = ⊥
IsUnreleasing other = IsJoinMessage other

abbrev pub AreUnreleasing : List Message → Type 0
AreUnreleasing messages = All (λ m. IsUnreleasing m.body) messages

-- the frames at which Releases are sent
abbrev pub MayRelease : Body → Type 0
MayRelease Done = Unit {0}
MayRelease (Link version on) = Unit {0}
MayRelease other = ⊥

-- such are sent, Releases only at such a frame; the node is as before such a node, and stays core if it is core
pub record IsJoinStep (node : NodeState) (body : Body) (r : Reaction) : Type 0 where
  pub messages : AreJoinMessages r.messages
  pub unreleasing : AreUnreleasing r.messages ⊎ MayRelease body
  pub state : IsPlainNode r.state
  pub core : node.status ≡ Core → r.state.status ≡ Core

-- ---- messages

-- a message of a join, and no Release but at such a frame
abbrev IsJoinSent : Body → Message → Type 0
IsJoinSent body m = IsJoinMessage m.body × (IsUnreleasing m.body ⊎ MayRelease body)

may_release : (body : Body) → MayRelease body ⊎ (MayRelease body → ⊥)
may_release Done = inl tt
may_release (Link version on) = inl tt
may_release other = inr (λ may. may)

are_unreleasing : (body : Body) (messages : List Message) → All (IsJoinSent body) messages → AreUnreleasing messages ⊎ MayRelease body
are_unreleasing body messages sent = elim (may_release body) [
  | inl may ↦ inr may
  | inr never ↦
      inl (All-weaker (IsJoinSent body) (λ m. IsUnreleasing m.body)
      (λ m is. elim is.1 [ inl unreleasing ↦ unreleasing | inr may ↦ absurd (never may) ]) messages sent)
]

-- ---- rules

module _ (node : NodeState) (is : IsPlainNode node) where
  goes_on : node.abandoned ≡ true → ⊥
  goes_on given_up = let wrong : false ≡ true = sym is.goes_on ∙ given_up in cc

  in_join : {body : Body} (r : Reaction) → IsPlainNode r.state → (node.status ≡ Core → r.state.status ≡ Core)
      → All (IsJoinSent body) r.messages → IsJoinStep node body r
  in_join {body} r state core sent = record {
    messages = All-weaker (IsJoinSent body) (λ m. IsJoinMessage m.body) (λ m is. is.0) r.messages sent;
    unreleasing = are_unreleasing body r.messages sent;
    state = state;
    core = core;
  }

  -- a rule that keeps status, abandoned and pairs
  keeps : {body : Body} (r : Reaction) → r.state.status ≡ node.status → r.state.abandoned ≡ node.abandoned → r.state.pointers ≡ node.pointers
      → All (IsJoinSent body) r.messages → IsJoinStep node body r
  keeps r status abandoned pointers sent =
      in_join r (record {
        status = subst JoinsOrIsCore (sym status) is.status;
        goes_on = abandoned ∙ is.goes_on;
        pairs = ap (λ (q : PointersValue). q.pairs) pointers ∙ is.pairs;
      }) (λ at. status ∙ at) sent

  named_joins : {status : Status} {from : List ℕ} {body : Body} → node.status ≡ status → IsJoinBody body → (m : Message)
      → IsNamed node status (Takes from body) m → IsJoinSent body m
  named_joins at of m (CoreHello asked turn) = (λ wrong. cc, inl (λ wrong. cc))
  named_joins at of m JoiningHello = (λ core. refl, inl (λ core. refl))
  named_joins at of m (HolderRelease k default keeps_on within) = (tt, inr tt)
  named_joins at of m LinkRelease = (tt, inr tt)
  named_joins at of m (HolderForget k default given_up within) = absurd (goes_on given_up)
  named_joins at of m LinkForget = absurd (subst JoinsOrIsCore at is.status)
  named_joins at of m (NextFind none goes) = absurd of
  named_joins at of m (AnswerBack found ends) = absurd of
  named_joins at of m LeftBack = absurd of
  named_joins at of m (HolderGone k default OneLeft within) = absurd of
  named_joins at of m (CastOn k default ByCopy turn within) = absurd of
  named_joins at of m CastAckBack = absurd of
  named_joins at of m (ClosingCastAck closed) = absurd of
  named_joins at of m _ = (tt, inl tt)

  case_joins : {status : Status} {from : List ℕ} {body : Body} {r : Reaction} → RuleCase node status (Takes from body) r → IsJoinBody body
      → All (IsJoinSent body) r.messages → IsJoinStep node body r
  case_joins (IsCoreNow keeps_on) of sent = in_join _ (record { status = tt; goes_on = is.goes_on; pairs = is.pairs }) (λ at. refl) sent
  case_joins (HasCeased given_up) of sent = absurd (goes_on given_up)
  case_joins (TakesPointer late) of sent = absurd of
  case_joins (IsGoneNow OneLeft last) of sent = absurd of
  case_joins _ of sent = keeps _ refl refl refl sent

  -- a rule of such a frame at such a node is a step of joins
  pub rule_joins : (from : List ℕ) (body : Body) → IsJoinBody body → IfSome (rule_of_frame node.status node from body) (IsJoinStep node body)
  rule_joins from body of =
      each_case node (IsJoinSent body) (IsJoinStep node body) node.status (Takes from body) (named_joins refl of) (λ r case. case_joins case of)
