-- What a step does with a join that is given up, and that only a joining node becomes core.
-- Cited above: frame_goes_on, start_goes_on
use Rattle.std.proofs.Common.{◌≡◌, ◌⊎◌, ℕ, Bool, true, false, ap, refl, sym, ◌∙◌, inl, inr}
use Rattle.tap_wire.specs.declared.frame.Frame.{Frame}
use Rattle.tap_rule.specs.Node.{NodeState, Status}
use Rattle.tap_rule.specs.Node.Status.{Joining}
use Rattle.tap_rule.specs.Event.{Acted, News, Start}
use Rattle.tap_rule.specs.Event.Event.{Starts as StartsOne, Takes as TakesFrame}
use Rattle.tap_rule.specs.Event.Start.{Abandon}
use Rattle.tap_rule.specs.Reaction.{Reaction}
use Rattle.tap_rule.specs.Casts.{cast_news, cast_of, is_root}
use Rattle.tap_rule.specs.Act.{act}
use Rattle.tap_rule.specs.RuleLaws.{IsCarriedOut}
use Rattle.tap_rule.proofs.Cases.{Cause, RuleCase}
use Rattle.tap_rule.proofs.Cases.Cause.{Starts, Takes}
use Rattle.tap_rule.proofs.Cases.IsParting.{StartsLeaving, OneLeft}
use Rattle.tap_rule.proofs.Cases.RuleCase.{CastsAlone, CastsOn, ClosesCast, HasCeased, IsCoreNow, IsGivenUp, IsGoneNow}
use Rattle.tap_rule.proofs.EachAct.{each_start, each_take}
use Rattle.tap_runs.specs.Observed.{has_ended}
use Rattle.tap_runs.proofs.Status.{tells_core}

-- The node becomes core only if it joins, and its join isn't given up. Its join is given up only if it was, or by what gives it up; and if
-- it was, then it stays so until the node has ended.
pub record GoesOn (gives_up : Type 0) (before after : NodeState) (news : News) : Type 0 where
  pub core : tells_core news ≡ true → (before.status ≡ Joining) × (before.abandoned ≡ false)
  pub given_up : after.abandoned ≡ true → (before.abandoned ≡ true) ⊎ gives_up
  pub stays : before.abandoned ≡ true → has_ended after.status ≡ false → after.abandoned ≡ true

-- what gives a join up: one start
abbrev pub GivesUp : Start → Type 0
GivesUp start = start ≡ Abandon

-- the news of a cast are none of a join
cast_quiet : (cast : ℕ) (reached closed : Bool) → tells_core (cast_news cast reached closed) ≡ false
cast_quiet cast true closed = refl
cast_quiet cast false true = refl
cast_quiet cast false false = refl

module _ (node : NodeState) where
  abbrev Ends : Cause → Type 0
  Ends (Takes from body) = ⊥
  Ends (Starts start) = GivesUp start

  -- a step that changes neither of the two
  same : (gives_up : Type 0) (after : NodeState) (news : News) → after.abandoned ≡ node.abandoned → tells_core news ≡ false
      → GoesOn gives_up node after news
  same gives_up after news stays quiet = record {
    core = λ core. let wrong : true ≡ false = sym core ∙ quiet in absurd (cc);
    given_up = λ now. inl (sym stays ∙ now);
    stays = λ before runs. stays ∙ before;
  }

  -- the node has ended
  over : (gives_up : Type 0) (after : NodeState) (news : News) → after.abandoned ≡ false → tells_core news ≡ false
      → has_ended after.status ≡ true → GoesOn gives_up node after news
  over gives_up after news none quiet ended = record {
    core = λ core. let wrong : true ≡ false = sym core ∙ quiet in absurd (cc);
    given_up = λ now. let wrong : true ≡ false = sym now ∙ none in absurd (cc);
    stays = λ before runs. let wrong : true ≡ false = sym ended ∙ runs in absurd (cc);
  }

  case_on : {status : Status} (cause : Cause) {r : Reaction} → RuleCase node status cause r → node.status ≡ status
      → GoesOn (Ends cause) node r.state r.news
  case_on cause IsGivenUp at = record {
    core = λ core. let wrong : false ≡ true = core in absurd (cc);
    given_up = λ now. inr refl;
    stays = λ before runs. refl;
  }
  case_on cause (IsCoreNow goes_on) at =
      record { core = λ core. (at, goes_on); given_up = λ now. inl now; stays = λ before runs. before }
  case_on cause (HasCeased given_up) at = over (Ends cause) _ _ refl refl refl
  case_on cause (IsGoneNow StartsLeaving none) at = over (Ends cause) _ _ refl refl refl
  case_on cause (IsGoneNow OneLeft none) at = over (Ends cause) _ _ refl refl refl
  case_on cause (CastsAlone {copy = copy} {first = first} of turn) at =
      same (Ends cause) _ _ refl (cast_quiet copy.cast first (is_root copy.parent))
  case_on cause (CastsOn {copy = copy} {first = first} of turn) at = same (Ends cause) _ _ refl (cast_quiet copy.cast first false)
  case_on cause (ClosesCast {session = session} {parent = parent} closed) at =
      same (Ends cause) _ _ refl (cast_quiet (cast_of node session) false (is_root parent))
  case_on cause _ at = same (Ends cause) _ _ refl refl

  -- a step that goes as its rule says
  carried_on : (cause : Cause) (r : Reaction) (acted : Acted) → RuleCase node node.status cause r → IsCarriedOut node r acted
      → GoesOn (Ends cause) node acted.state acted.news
  carried_on cause r acted case does =
      let on = case_on cause case refl in
      record {
        core = λ core. on.core (sym (ap tells_core does.news) ∙ core);
        given_up = λ now. on.given_up (sym does.abandoned ∙ now);
        stays = λ before runs. does.abandoned ∙ on.stays before (ap has_ended (sym does.status) ∙ runs);
      }

  -- no frame gives a join up
  pub frame_goes_on : (frame : Frame) → GoesOn ⊥ node (act node (TakesFrame frame)).state (act node (TakesFrame frame)).news
  frame_goes_on frame =
      each_take node (λ acted. GoesOn ⊥ node acted.state acted.news) (same ⊥ node _ refl refl) frame (same ⊥ node _ refl refl)
      (λ known. carried_on (Takes frame.from frame.body))

  -- one start alone gives a join up
  pub start_goes_on : (start : Start) → GoesOn (GivesUp start) node (act node (StartsOne start)).state (act node (StartsOne start)).news
  start_goes_on start =
      each_start node (λ acted. GoesOn (GivesUp start) node acted.state acted.news) (same (GivesUp start) node _ refl refl) start
      (carried_on (Starts start))
