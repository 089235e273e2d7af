-- What a step does to the status of its node, and how it is noted.
-- Cited above: frame_noted, IsNoted, start_noted, tells_core, tells_gone
use Rattle.std.proofs.Common.{◌≡◌, ℕ, Bool, true, false, not, refl, ap, sym, subst, ◌∙◌}
use Rattle.std.specs.Prelude.{◌&&◌, ◌||◌}
use Rattle.tap_wire.specs.declared.frame.Frame.{Frame}
use Rattle.tap_rule.specs.Node.{NodeState, Status}
use Rattle.tap_rule.specs.Event.{Acted, News, Start}
use Rattle.tap_rule.specs.Event.Event.{Starts, Takes}
use Rattle.tap_rule.specs.Event.News.{Nothing, Core as CoreNews, Gone as GoneNews, Answered as AnsweredNews, Cast as CastNews}
use Rattle.tap_rule.specs.Reaction.{Reaction}
use Rattle.tap_rule.specs.Act.{act}
use Rattle.tap_rule.specs.Casts.{cast_news, cast_of, is_root}
use Rattle.tap_rule.specs.RuleLaws.{IsCarriedOut}
use Rattle.tap_rule.proofs.Cases.{Cause, RuleCase}
use Rattle.tap_rule.proofs.Cases.IsParting.{OneLeft, StartsLeaving}
use Rattle.tap_rule.proofs.Cases.RuleCase.{CastsAlone, CastsOn, ClosesCast, HasCeased, IsCoreNow, IsGoneNow, TellsHolders}
use Rattle.tap_rule.proofs.EachAct.{each_start, each_take}
use Rattle.tap_runs.specs.Observed.{counts_as_core, has_ended}

-- ---- what a change of status is noted as

-- the node has become core, and it is gone or has ceased
abbrev pub tells_core : News → Bool
tells_core Nothing = false
tells_core CoreNews = true
tells_core GoneNews = false
tells_core (AnsweredNews ticket server) = false
tells_core (CastNews cast reached closed) = false

abbrev pub tells_gone : News → Bool
tells_gone Nothing = false
tells_gone CoreNews = false
tells_gone GoneNews = true
tells_gone (AnsweredNews ticket server) = false
tells_gone (CastNews cast reached closed) = false

-- a node that becomes core hadn't ended; one is core that became so and isn't gone; and one has ended that was noted to be gone
pub record IsNoted (before after : Status) (news : News) : Type 0 where
  pub comes : tells_core news ≡ true → has_ended before ≡ false
  pub core : counts_as_core after ≡ ((counts_as_core before || tells_core news) && not (tells_gone news))
  pub ended : has_ended after ≡ (has_ended before || tells_gone news)

-- a status that stays, without such news
stays : (before after : Status) (news : News) → after ≡ before → tells_core news ≡ false → tells_gone news ≡ false
    → IsNoted before after news
stays before after news is no_core no_gone = record {
  comes = λ core. absurd (cc);
  core =
      ap counts_as_core is ∙ same (counts_as_core before)
      ∙ ap (λ b. (counts_as_core before || b) && not (tells_gone news)) (sym no_core);
  ended = ap has_ended is ∙ or_none (has_ended before) ∙ ap (λ b. has_ended before || b) (sym no_gone);
}
  where
    or_none : (b : Bool) → b ≡ (b || false)
    or_none true = refl
    or_none false = refl

    same : (b : Bool) → b ≡ ((b || false) && not (tells_gone news))
    same true = ap not (sym no_gone)
    same false = refl

-- the news of a cast isn't such
cast_stays : (before after : Status) (cast : ℕ) (reached closed : Bool) → after ≡ before
    → IsNoted before after (cast_news cast reached closed)
cast_stays before after cast true closed is = stays before after _ is refl refl
cast_stays before after cast false true is = stays before after _ is refl refl
cast_stays before after cast false false is = stays before after _ is refl refl

-- ---- rules and steps

module _ (node : NodeState) where
  case_noted : {status : Status} {cause : Cause} {r : Reaction} → RuleCase node status cause r → node.status ≡ status
      → IsNoted status r.state.status r.news
  case_noted (IsCoreNow keeps_on) at = record { comes = λ core. refl; core = refl; ended = refl }
  case_noted (HasCeased given_up) at = record { comes = λ core. refl; core = refl; ended = refl }
  case_noted (TellsHolders some) at = record { comes = λ core. refl; core = refl; ended = refl }
  case_noted (IsGoneNow StartsLeaving last) at = record { comes = λ core. refl; core = refl; ended = refl }
  case_noted (IsGoneNow OneLeft last) at = record { comes = λ core. refl; core = refl; ended = refl }
  case_noted (CastsAlone {copy = copy} {first = first} of turn) at = cast_stays _ _ copy.cast first (is_root copy.parent) at
  case_noted (CastsOn {copy = copy} {first = first} of turn) at = cast_stays _ _ copy.cast first false at
  case_noted (ClosesCast {session = session} {parent = parent} closed) at = cast_stays _ _ (cast_of node session) false (is_root parent) at
  case_noted _ at = stays _ _ _ at refl refl

  abbrev IsNotedStep : Acted → Type 0
  IsNotedStep acted = IsNoted node.status acted.state.status acted.news

  carried : {cause : Cause} (r : Reaction) (acted : Acted) → RuleCase node node.status cause r → IsCarriedOut node r acted → IsNotedStep acted
  carried r acted case done =
      subst (IsNoted node.status acted.state.status) (sym done.news)
      (subst (λ s. IsNoted node.status s r.news) (sym done.status) (case_noted case refl))

  pub frame_noted : (frame : Frame) → IsNotedStep (act node (Takes frame))
  frame_noted frame = each_take node IsNotedStep (stays _ _ _ refl refl refl) frame (stays _ _ _ refl refl refl) (λ fit. carried)

  pub start_noted : (start : Start) → IsNotedStep (act node (Starts start))
  start_noted start = each_start node IsNotedStep (stays _ _ _ refl refl refl) start carried
