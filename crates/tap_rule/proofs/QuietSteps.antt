-- Steps about pointers, lookups and casts change nothing of joins and departures.
-- Cited above: quiet_law, quiet_start_law
use Rattle.std.proofs.Common.{◌≡◌, ℕ, ◌≤◌, List, [], All, arith, refl, sym, ap, subst, ◌∙◌, inl, inr}
use Rattle.tap_wire.specs.declared.frame.Frame.{Frame}
use Rattle.tap_wire.specs.declared.frame.Body.{Body}
use Rattle.tap_rule.specs.Node.{NodeState, Status}
use Rattle.tap_rule.specs.Event.{Acted}
use Rattle.tap_rule.specs.Reaction.{Message, Reaction}
use Rattle.tap_rule.specs.Covering.{Request}
use Rattle.tap_rule.specs.Sent.{IsAmong}
use Rattle.tap_rule.specs.QuietSteps.{IsQuiet, IsQuietStart, QuietStep}
use Rattle.tap_rule.specs.RuleLaws.{IsCarriedOut, QuietLaw, QuietStartLaw}
use Rattle.tap_rule.proofs.Among.{among_all}
use Rattle.tap_rule.proofs.Cases.{Cause, IsAnswer, IsAsked, IsNamed, IsParting, RuleCase}
use Rattle.tap_rule.proofs.Cases.Cause.{Takes, Starts}
use Rattle.tap_rule.proofs.Cases.IsAnswer.{ByAck, ByHeard}
use Rattle.tap_rule.proofs.Cases.IsAsked.{BySeek, ByTell}
use Rattle.tap_rule.proofs.Cases.IsParting.{OneLeft, StartsLeaving}
use Rattle.tap_rule.proofs.Cases.IsNamed.{AnswerBack, CastAckBack, CastOn, ClosingAck, ClosingCastAck, ClosingDone, CoreHello, FirstFind, HolderGone, NextFind, TellOn}
use Rattle.tap_rule.proofs.Cases.RuleCase.{AnswersCopy, AsksOn, CastBefore, CastsAlone, CastsOn, Closes, ClosesCast, Counts, CountsCast, CoveredBefore, CoversAlone, CoversOn, FindsHere, FindsOn, GetsAnswer, IsGoneNow, KnowsServer, Publishes, TakesPointer, WithdrawsIt}
use Rattle.tap_rule.proofs.EachAct.{each_start, each_take}
use Rattle.tap_rule.proofs.Named.{each_named}

-- these messages are about pointers, lookups or casts
abbrev AreQuiet : List Message → Type 0
AreQuiet messages = All (λ m. IsQuiet m.body) messages

module _ (node : NodeState) where
  -- a reaction that changes nothing of joins and departures
  record IsQuietReaction (r : Reaction) : Type 0 where
    status : r.state.status ≡ node.status
    ties : r.state.ties ≡ node.ties
    stamp : r.state.stamp ≡ node.stamp
    sessions : r.state.sessions ≡ node.sessions
    covers : r.state.covers ≡ node.covers
    greeted : r.state.greeted ≡ node.greeted
    abandoned : r.state.abandoned ≡ node.abandoned
    awaited : r.state.awaited ≡ node.awaited
    words : r.words ≡ []
    messages : AreQuiet r.messages

  -- what a node reacts to is about them, and so neither asks for a cover, nor answers, nor parts
  abbrev IsQuietCause : Cause → Type 0
  IsQuietCause (Takes from body) = IsQuiet body
  IsQuietCause (Starts begun) = IsQuietStart begun

  not_asked : {cause : Cause} {request : Request} → IsAsked node cause request → IsQuietCause cause → ⊥
  not_asked (BySeek on) quiet = quiet
  not_asked ByTell quiet = quiet

  no_answer : {session : ℕ} {body : Body} → IsAnswer session body → IsQuiet body → ⊥
  no_answer ByHeard quiet = quiet
  no_answer ByAck quiet = quiet

  no_parting : {status : Status} {cause : Cause} {leaving : NodeState} → IsParting node status cause leaving → IsQuietCause cause → ⊥
  no_parting StartsLeaving quiet = quiet
  no_parting OneLeft quiet = quiet

  named_quiet : {status : Status} {cause : Cause} → IsQuietCause cause → (m : Message) → IsNamed node status cause m → IsQuiet m.body
  named_quiet quiet m (FirstFind none goes) = tt
  named_quiet quiet m (NextFind none goes) = tt
  named_quiet quiet m (AnswerBack found ends) = tt
  named_quiet quiet m (CastOn k default of turn within) = tt
  named_quiet quiet m CastAckBack = tt
  named_quiet quiet m (ClosingCastAck closed) = tt
  named_quiet quiet m (TellOn k default asked turn within) = absurd (not_asked asked quiet)
  named_quiet quiet m (CoreHello asked turn) = absurd (not_asked asked quiet)
  named_quiet quiet m (ClosingAck kind closed) = absurd (no_answer kind quiet)
  named_quiet quiet m (ClosingDone kind closed) = absurd (no_answer kind quiet)
  named_quiet quiet m (HolderGone k default parting within) = absurd (no_parting parting quiet)
  named_quiet quiet m _ = absurd quiet

  -- all but its pointers and casts stays
  stays : (r : Reaction) → r.state.status ≡ node.status → r.state.ties ≡ node.ties → r.state.stamp ≡ node.stamp
      → r.state.sessions ≡ node.sessions → r.state.covers ≡ node.covers → r.state.greeted ≡ node.greeted
      → r.state.abandoned ≡ node.abandoned → r.state.awaited ≡ node.awaited → r.words ≡ [] → AreQuiet r.messages → IsQuietReaction r
  stays r status ties stamp sessions covers greeted abandoned awaited words messages = record {
    status = status;
    ties = ties;
    stamp = stamp;
    sessions = sessions;
    covers = covers;
    greeted = greeted;
    abandoned = abandoned;
    awaited = awaited;
    words = words;
    messages = messages;
  }

  case_quiet : {status : Status} {cause : Cause} {r : Reaction} → RuleCase node status cause r → IsQuietCause cause → AreQuiet r.messages
      → IsQuietReaction r
  case_quiet (AnswersCopy aside) quiet sent = stays _ refl refl refl refl refl refl refl refl refl sent
  case_quiet (CastBefore of turn) quiet sent = stays _ refl refl refl refl refl refl refl refl refl sent
  case_quiet (CastsAlone of turn) quiet sent = stays _ refl refl refl refl refl refl refl refl refl sent
  case_quiet (CastsOn of turn) quiet sent = stays _ refl refl refl refl refl refl refl refl refl sent
  case_quiet (CountsCast others) quiet sent = stays _ refl refl refl refl refl refl refl refl refl sent
  case_quiet (ClosesCast closed) quiet sent = stays _ refl refl refl refl refl refl refl refl refl sent
  case_quiet Publishes quiet sent = stays _ refl refl refl refl refl refl refl refl refl sent
  case_quiet WithdrawsIt quiet sent = stays _ refl refl refl refl refl refl refl refl refl sent
  case_quiet (AsksOn none goes) quiet sent = stays _ refl refl refl refl refl refl refl refl refl sent
  case_quiet (KnowsServer found ends) quiet sent = stays _ refl refl refl refl refl refl refl refl refl sent
  case_quiet (TakesPointer late) quiet sent = stays _ refl refl refl refl refl refl refl refl refl sent
  case_quiet (FindsHere late found ends) quiet sent = stays _ refl refl refl refl refl refl refl refl refl sent
  case_quiet (FindsOn late none goes) quiet sent = stays _ refl refl refl refl refl refl refl refl refl sent
  case_quiet (GetsAnswer late) quiet sent = stays _ refl refl refl refl refl refl refl refl refl sent
  case_quiet (Counts of kind others) quiet sent = absurd (no_answer kind quiet)
  case_quiet (Closes of kind closed) quiet sent = absurd (no_answer kind quiet)
  case_quiet (CoveredBefore asked turn) quiet sent = absurd (not_asked asked quiet)
  case_quiet (CoversAlone asked turn none) quiet sent = absurd (not_asked asked quiet)
  case_quiet (CoversOn asked turn some) quiet sent = absurd (not_asked asked quiet)
  case_quiet (IsGoneNow parting last) quiet sent = absurd (no_parting parting quiet)
  case_quiet _ quiet sent = absurd quiet

  -- its step changes nothing of them either
  carried_quiet : (r : Reaction) (acted : Acted) → IsCarriedOut node r acted → IsQuietReaction r → QuietStep node acted
  carried_quiet r acted carried quiet = record {
    status = carried.status ∙ quiet.status;
    ties = carried.ties ∙ quiet.ties;
    stamp = subst (λ s. s ≤ acted.state.stamp) quiet.stamp carried.stamp;
    sessions = carried.sessions ∙ quiet.sessions;
    covers = carried.covers ∙ quiet.covers;
    greeted = carried.greeted ∙ quiet.greeted;
    abandoned = carried.abandoned ∙ quiet.abandoned;
    awaited = carried.awaited ∙ quiet.awaited;
    sent = λ frame among. elim (carried.sent.each frame among) [
      | inl link ↦ let none : IsAmong link.word [] = subst (IsAmong link.word) quiet.words link.among in absurd none
      | inr other ↦ elim other [
        | inl named ↦
            subst (λ (f : Frame). IsQuiet f.body) (sym named.is) (among_all (λ m. IsQuiet m.body) r.messages quiet.messages named.message named.among)
        | inr lay ↦ subst (λ (f : Frame). IsQuiet f.body) (sym lay.is) tt
      ]
    ];
  }

  unchanged_quiet : (acted : Acted) → acted.state ≡ node → acted.sent ≡ [] → QuietStep node acted
  unchanged_quiet acted same none = record {
    status = ap (λ (s : NodeState). s.status) same;
    ties = ap (λ (s : NodeState). s.ties) same;
    stamp = subst (λ (s : NodeState). node.stamp ≤ s.stamp) (sym same) (omega arith);
    sessions = ap (λ (s : NodeState). s.sessions) same;
    covers = ap (λ (s : NodeState). s.covers) same;
    greeted = ap (λ (s : NodeState). s.greeted) same;
    abandoned = ap (λ (s : NodeState). s.abandoned) same;
    awaited = ap (λ (s : NodeState). s.awaited) same;
    sent = λ frame among. let gone : IsAmong frame [] = subst (IsAmong frame) none among in absurd gone;
  }

  followed : (cause : Cause) → IsQuietCause cause → (r : Reaction) (acted : Acted) → RuleCase node node.status cause r → IsCarriedOut node r acted
      → QuietStep node acted
  followed cause quiet r acted case carried =
      carried_quiet r acted carried (case_quiet case quiet (each_named node (λ m. IsQuiet m.body) (named_quiet quiet) case))

pub quiet_law : QuietLaw
quiet_law node frame is =
    each_take node (QuietStep node) (unchanged_quiet node _ refl refl) frame (unchanged_quiet node _ refl refl)
    (λ fits. followed node (Takes frame.from frame.body) is)

pub quiet_start_law : QuietStartLaw
quiet_start_law node start is =
    each_start node (QuietStep node) (unchanged_quiet node _ refl refl) start (followed node (Starts start) is)
