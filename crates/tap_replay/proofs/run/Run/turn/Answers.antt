use Rattle.std.proofs.Common.{◌≡◌, ap, sym, subst, ◌∙◌}
use Rattle.tap_engine.specs.World.{whole_log}
use Rattle.tap_replay.specs.Player.{IsLeft, TurnsAs, end_of}
use Rattle.tap_replay.specs.Turn.{turn_outcome}
use Rattle.tap_replay.specs.declared.end.End.TheVariants.{Done}
use Rattle.tap_replay.specs.declared.end.Turned.TheVariants.{Over}
use Rattle.tap_replay.proofs.Turning.{added_run, done_turns, more_less, more_turns, none_more, stopped_so}
use Rattle.tap_replay.proofs.run.Run.turn.Goals as goal

pub is_more-requires : goal.is_more-requires
is_more-requires c = added_run c.args.scenario.now c.args.self.now c.add_next.new.self c.requires.run c.in-Ok.ensures

pub returns-then-is_more-clause-turns : goal.returns-then-is_more-clause-turns
returns-then-is_more-clause-turns c =
    more_turns c.args.scenario.now c.args.self.now c.add_next.new.self c.requires.run c.in-Ok.ensures (sym c.is_more.ensures ∙ c.if-is_more.true)

pub returns-then-is_more-clause-run : goal.returns-then-is_more-clause-run
returns-then-is_more-clause-run c = added_run c.args.scenario.now c.args.self.now c.add_next.new.self c.requires.run c.in-Ok.ensures

pub returns-then-is_more-clause-less : goal.returns-then-is_more-clause-less
returns-then-is_more-clause-less c = λ _.
    more_less c.args.scenario.now c.args.self.now c.add_next.new.self c.requires.run c.in-Ok.ensures (sym c.is_more.ensures ∙ c.if-is_more.true)

pub finish-requires-clause-run : goal.finish-requires-clause-run
finish-requires-clause-run c = added_run c.args.scenario.now c.args.self.now c.add_next.new.self c.requires.run c.in-Ok.ensures

pub finish-requires-clause-none : goal.finish-requires-clause-none
finish-requires-clause-none c =
    none_more c.args.scenario.now c.args.self.now c.add_next.new.self c.requires.run (sym c.is_more.ensures ∙ c.if-is_more.false)

pub returns-else-is_more-clause-turns : goal.returns-else-is_more-clause-turns
returns-else-is_more-clause-turns c =
    let s = c.args.scenario.now in
    let before = c.args.self.now in
    let after = c.add_next.new.self in
    let log = whole_log c.finish.new.self.world in
    let end : c.end_of.result ≡ Done = c.end_of.ensures ∙ ap end_of c.finish.ensures.answer in
    let none = none_more s before after c.requires.run (sym c.is_more.ensures ∙ c.if-is_more.false) in
    subst (λ e. TurnsAs (turn_outcome s (whole_log before.world)) (whole_log before.world) (Over e) log) (sym end)
    (done_turns s before after c.requires.run c.in-Ok.ensures none log c.finish.ensures.log)

pub returns-else-is_more-clause-run : goal.returns-else-is_more-clause-run
returns-else-is_more-clause-run c =
    let s = c.args.scenario.now in
    let end : c.end_of.result ≡ Done = c.end_of.ensures ∙ ap end_of c.finish.ensures.answer in
    subst (λ e. IsLeft s e c.finish.new.self.world) (sym end) c.finish.ensures.left

pub returns-in-Err-clause-turns : goal.returns-in-Err-clause-turns
returns-in-Err-clause-turns c =
    let s = c.args.scenario.now in
    let before = c.args.self.now in
    let after = c.add_next.new.self in
    subst (λ e. TurnsAs (turn_outcome s (whole_log before.world)) (whole_log before.world) (Over e) (whole_log after.world)) (sym c.end_of-in-Err.ensures)
    (stopped_so s before after c.requires.run c.in-Err.stop c.in-Err.ensures).turns

pub returns-in-Err-clause-run : goal.returns-in-Err-clause-run
returns-in-Err-clause-run c =
    let s = c.args.scenario.now in
    let before = c.args.self.now in
    let after = c.add_next.new.self in
    subst (λ e. IsLeft s e after.world) (sym c.end_of-in-Err.ensures)
    (stopped_so s before after c.requires.run c.in-Err.stop c.in-Err.ensures).left

pub end_of-requires-in-Err : goal.end_of-requires-in-Err
end_of-requires-in-Err c =
    (stopped_so c.args.scenario.now c.args.self.now c.add_next.new.self c.requires.run c.in-Err.stop c.in-Err.ensures).ends
