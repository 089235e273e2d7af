use Rattle.std.proofs.Common.{◌∙◌, ap, length, subst, sym}
use Rattle.tap_scenario.specs.Scenario.{IsScript}
use Rattle.tap_engine.specs.World.{whole_log}
use Rattle.tap_judge.proofs.Players.{begun_front, begun_lawful, more_left}
use Rattle.tap_judge.proofs.Scripts.{own_valid}
use Rattle.tap_judge.proofs.judging.verdict_from_beginning.Goals as goal

pub returns-then-len : goal.returns-then-len
returns-then-len c =
    let log = c.args.log.now.records in
    let s = c.args.scenario.now in
    let own = c.requires.own in
    begun_lawful s log own (subst IsScript (sym own) (own_valid log c.requires.shape)) c.args.player.now c.requires.played c.requires.begun
    (begun_front s log own c.requires.shape (whole_log c.args.player.now.world) c.requires.beginning)
    (ap length (sym c.log.ensures) ∙ sym c.len.ensures ∙ c.if-len.true ∙ c.len-2.ensures)

pub play-requires-clause-begins : goal.play-requires-clause-begins
play-requires-clause-begins c =
    begun_front c.args.scenario.now c.args.log.now.records c.requires.own c.requires.shape (whole_log c.args.player.now.world) c.requires.beginning

pub play-requires-clause-more : goal.play-requires-clause-more
play-requires-clause-more c =
    let log = c.args.log.now.records in
    let run = whole_log c.args.player.now.world in
    more_left run log (begun_front c.args.scenario.now log c.requires.own c.requires.shape run c.requires.beginning)
    (λ even. c.if-len.false (c.len.ensures ∙ ap length c.log.ensures ∙ even ∙ sym c.len-2.ensures))
