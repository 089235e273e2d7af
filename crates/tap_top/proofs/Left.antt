-- What a player whose run is over has left.
use Rattle.std.proofs.Common.{◌≡◌, Some, subst}
use Rattle.std.specs.Prelude.{MatchOption}
use Rattle.tap_scenario.specs.Scenario.{ScenarioValue}
use Rattle.tap_replay.specs.Player.{PlayerValue}
use Rattle.tap_replay.specs.Runs.{GoesOnBy, HasPlayed, IsLeftBy, LeavesWorld}
use Rattle.tap_replay.specs.declared.end.End.{End}

pub is_left : (s : ScenarioValue) (p : PlayerValue) (end : End) → HasPlayed s p → p.over ≡ Some end → LeavesWorld s end p.world
is_left s p end played over =
    subst (λ o. MatchOption o (GoesOnBy s.carrier s p.world) (λ e. IsLeftBy s.carrier s e p.world)) over played
