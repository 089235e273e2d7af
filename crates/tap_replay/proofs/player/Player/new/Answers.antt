use Rattle.std.proofs.Common.{None}
use Rattle.tap_replay.proofs.ByCarrier.{has_headline, has_played, may_turn, player_of}
use Rattle.tap_replay.proofs.player.Player.new.Goals as goal

pub invariant_of-result : goal.invariant_of-result
invariant_of-result c = record {
  script = c.args.scenario.now;
  valid = c.in_ok-running.ensures.valid;
  run_is = c.in_ok-running.ensures.run;
}

pub returns-clause-played : goal.returns-clause-played
returns-clause-played c = has_played c.args.scenario.now None c.in_ok-running.running c.in_ok-running.ensures.run

pub returns-clause-may : goal.returns-clause-may
returns-clause-may c =
    let s = c.args.scenario.now in
    let running = c.in_ok-running.running in
    may_turn s c.in_ok-running.ensures.valid (player_of running None) (has_played s None running c.in_ok-running.ensures.run)

pub returns-clause-headline : goal.returns-clause-headline
returns-clause-headline c =
    let s = c.args.scenario.now in
    let running = c.in_ok-running.running in
    has_headline s c.in_ok-running.ensures.valid (player_of running None) (has_played s None running c.in_ok-running.ensures.run)
