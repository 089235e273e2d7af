use Rattle.std.proofs.Common.{◌≡◌, ◌∙◌, ap, length, subst, sym}
use Rattle.tap_engine.specs.World.{whole_log}
use Rattle.tap_replay.specs.Player.{over_by}
use Rattle.tap_own_scripts.proofs.Fronts.{size_of}
use Rattle.tap_replay.proofs.Growing.{turn_front}
use Rattle.tap_judge.specs.Comparing.{SameUntil}
use Rattle.tap_judge.proofs.Players.{same_verdict, said, turn_says, unsaid}
use Rattle.tap_judge.proofs.Verdicts.{Says}
use Rattle.tap_judge.proofs.judging.verdict_after_turn.Goals as goal

pub same_records-same-requires-clause-run : goal.same_records-same-requires-clause-run
same_records-same-requires-clause-run c =
    let front = turn_front c.args.scenario.now c.args.player.now c.turn-turned.result c.turn-turned.new.self c.turn-turned.ensures.turns c.requires.begun in
    let within = size_of (whole_log c.args.player.now.world) (whole_log c.turn-turned.new.self.world) front in
    rw (c.as_slice.ensures, c.log-2.ensures, c.len-seen.ensures, c.log.ensures) within

pub same_records-same-requires-clause-same : goal.same_records-same-requires-clause-same
same_records-same-requires-clause-same c =
    let front = turn_front c.args.scenario.now c.args.player.now c.turn-turned.result c.turn-turned.new.self c.turn-turned.ensures.turns c.requires.begun in
    rw (c.as_slice-2.ensures, c.as_slice.ensures, c.log-2.ensures, c.len-seen.ensures, c.log.ensures) (c.requires.begins ∙ sym front)

-- what the turn and the comparison say
told : (c : goal.After-after) → Says c.args.log.now.records (whole_log c.turn-turned.new.self.world) c.turn-turned.result c.after.result
told c =
    let log = c.args.log.now.records in
    let run = whole_log c.turn-turned.new.self.world in
    let run_is : c.as_slice.result.now ≡ run = c.as_slice.ensures ∙ c.log-2.ensures in
    let until : SameUntil run log c.same_records-same.result =
    subst (λ l. SameUntil l log c.same_records-same.result) run_is
    (subst (λ l. SameUntil c.as_slice.result.now l c.same_records-same.result) c.as_slice-2.ensures c.same_records-same.ensures) in
    subst (Says log run c.turn-turned.result)
    (same_verdict c.args.scenario.now.carrier c.carrier.result c.turn-turned.result (length run) c.len-2.result (length log) c.len.result
    c.same_records-same.result c.carrier.ensures.value (c.len-2.ensures ∙ ap length c.log-3.ensures) c.len.ensures ∙ sym c.after.ensures)
    (turn_says c.args.scenario.now log c.requires.own c.step_count.ensures.valid c.args.player.now c.turn-turned.new.self c.turn-turned.result
    c.requires.played c.requires.begun c.turn-turned.ensures.turns c.requires.begins c.requires.more c.same_records-same.result until)

pub returns-clause-verdict : goal.returns-clause-verdict
returns-clause-verdict c =
    said c.args.log.now.records (whole_log c.turn-turned.new.self.world) c.turn-turned.result c.after.result (told c)

pub returns-clause-begun : goal.returns-clause-begun
returns-clause-begun c = λ is.
    let goes = unsaid c.args.log.now.records (whole_log c.turn-turned.new.self.world) c.turn-turned.result c.after.result is (told c) in
    c.turn-turned.ensures.over ∙ ap over_by goes.0

pub returns-clause-begins : goal.returns-clause-begins
returns-clause-begins c = λ is.
    (unsaid c.args.log.now.records (whole_log c.turn-turned.new.self.world) c.turn-turned.result c.after.result is (told c)).1

pub returns-clause-more : goal.returns-clause-more
returns-clause-more c = λ is.
    (unsaid c.args.log.now.records (whole_log c.turn-turned.new.self.world) c.turn-turned.result c.after.result is (told c)).2

pub returns-clause-less : goal.returns-clause-less
returns-clause-less c = λ is.
    c.turn-turned.ensures.less
    (unsaid c.args.log.now.records (whole_log c.turn-turned.new.self.world) c.turn-turned.result c.after.result is (told c)).0
