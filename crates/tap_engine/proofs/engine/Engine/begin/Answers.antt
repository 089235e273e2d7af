use Rattle.std.proofs.Common.{◌≡◌, ◌≢◌, ℕ, List, None, refl, sym, subst}
use Rattle.tap_scenario.specs.declared.step.Step.{Step}
use Rattle.tap_scenario.specs.declared.step.Step.TheVariants.{Join}
use Rattle.tap_history.specs.Refusals.{first_refusal}
use Rattle.tap_history.specs.StepAsks.{join_name}
use Rattle.tap_overlay.specs.Start.{rule_start}
use Rattle.tap_overlay.specs.Step.{HasJoined}
use Rattle.tap_engine.specs.Working.{HasBegunAt, HasBegunOf}
use Rattle.tap_engine.proofs.Starting.{can_begin, has_begun_at, has_joined_at, is_fresh}
use Rattle.tap_engine.proofs.Taking.{if_ok}
use Rattle.tap_engine.proofs.engine.Engine.begin.Goals as goal

-- a step that is no join has no node join
joins_nobody : (step : Step) → ((name via : List ℕ) → step ≢ Join name via) → join_name step ≡ None
unfolding join_name
joins_nobody (Join name via) other = absurd (other name via refl)
joins_nobody step other = refl

pub begun_by-name-requires-clause-no_join : goal.begun_by-name-requires-clause-no_join
begun_by-name-requires-clause-no_join c = joins_nobody c.args.step.now c.in_default.not-Join

pub join-requires-clause-fresh : goal.join-requires-clause-fresh
join-requires-clause-fresh c =
    let m = c.args.self.now in
    is_fresh m c.requires.ready c.in-Join.name c.in-Join.via
    (subst (λ s. first_refusal m.ledger.records s ≡ None) c.in-Join.is c.requires.accepted)

pub returns-in-Join-clause-begun : goal.returns-in-Join-clause-begun
returns-in-Join-clause-begun c =
    let m = c.args.self.now in
    let n = record m { overlay = c.join.new.self } in
    subst (λ s. HasBegunAt m n s (record { name = c.in-Join.name; turn = c.in_ok-turn.turn })) (sym c.in-Join.is)
    (has_joined_at m n c.in-Join.name c.in-Join.via c.in_ok-turn.turn
    (subst (λ p. HasJoined p c.in-Join.name c.in-Join.via m.overlay.nodes c.join.new.self.nodes c.in_ok-turn.turn)
    c.requires.ready.kept.settings c.in_ok-turn.ensures.joined) c.in_ok-turn.ensures.settings)

pub begin_at-requires : goal.begin_at-requires
begin_at-requires c =
    can_begin c.args.self.now c.requires.ready c.args.step.now c.requires.accepted c.begun_by-name.result.name c.begun_by-name.result.start
    c.begun_by-name.ensures.start c.begun_by-name.ensures.named

pub returns : goal.returns
returns c =
    let m = c.args.self.now in
    let n = c.begin_at.new.self in
    let name = c.begun_by-name.result.name in
    let start = c.begun_by-name.result.start in
    record {
      begun = if_ok (HasBegunOf m.overlay n.overlay name (rule_start start)) (HasBegunAt m n c.args.step.now)
          (has_begun_at m c.requires.ready c.args.step.now c.requires.accepted name start c.begun_by-name.ensures.start c.begun_by-name.ensures.named n)
          c.begin_at.result c.begin_at.ensures.begun;
      same = c.begin_at.ensures.same;
      still = c.begin_at.ensures.still;
    }
