-- What the targets of a cover and of a cast are sent.
--
-- Rule: docs/PROTOCOL.md, "Tell" and "Cast".
use Rattle.std.specs.Prelude.{List}
use Rattle.tap_name.specs.declared.slot.Slot.{Slot}
use Rattle.tap_wire.specs.declared.frame.TellFields.{TellFields}
use Rattle.tap_wire.specs.declared.frame.Body.TheVariants.{Tell, Cast}
use Rattle.tap_multicast.specs.declared.target.Target.{Target}
use Rattle.tap_cast.specs.declared.target.CastTarget.{CastTarget}
use Rattle.tap_rule.specs.Reaction.{Message, message}
use Rattle.tap_node_common.specs.declared.cast_fields.CastFields.{CastFields}

-- a target of a cover is told with these fields, but at its own level, and with this watch
abbrev pub tell_to : TellFields → List Slot → Target → Message
tell_to fields watch target =
    message target.to (Tell fields.joiner fields.prefix target.level fields.session fields.depth watch)

-- a target of a cast is sent it with these fields, at its own level
abbrev pub cast_to : CastFields → CastTarget → Message
cast_to fields target = message target.to (Cast fields.cast target.level fields.session fields.depth fields.word)
