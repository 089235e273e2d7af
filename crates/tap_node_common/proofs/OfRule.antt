-- The Tells of a cover and the Casts of a cast are those that the rule names.
use Rattle.std.proofs.Common.{◌≡◌, ℕ, ◌+◌, List, map, refl}
use Rattle.tap_name.specs.declared.slot.Slot.{Slot}
use Rattle.tap_multicast.specs.declared.target.Target.{Target}
use Rattle.tap_cast.specs.declared.target.CastTarget.{CastTarget}
use Rattle.tap_rule.specs.Casts.{Copy, cast_for}
use Rattle.tap_rule.specs.Covering.{Request, tell_for}
use Rattle.tap_node_common.specs.Targets.{cast_to, tell_to}

-- whatever level the fields have
pub tells_of_rule : (request : Request) (session level : ℕ) (left : List Slot) (targets : List Target)
    → map (tell_to (record {
      joiner = request.joiner;
      prefix = request.prefix;
      level = level;
      session = session;
      depth = request.depth + 1;
    }) left) targets ≡ map (tell_for request session left) targets
tells_of_rule request session level left targets = refl

pub casts_of_rule : (copy : Copy) (session : ℕ) (targets : List CastTarget)
    → map (cast_to (record { cast = copy.cast; session = session; depth = copy.depth + 1; word = copy.word })) targets
    ≡ map (cast_for copy session) targets
casts_of_rule copy session targets = refl
