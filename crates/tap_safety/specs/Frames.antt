-- The frames of a join, by what they say.
use Rattle.std.specs.Prelude.{List}
use Rattle.tap_name.specs.declared.slot.Slot.{Slot}
use Rattle.tap_wire.specs.declared.frame.Body.{Body}
use Rattle.tap_wire.specs.declared.frame.Body.TheVariants.{Tell}
use Rattle.tap_wire.specs.declared.frame.TellFields.{TellFields}
pub use Rattle.tap_rule.specs.Hellos.{HelloFields, hello_body}

-- a Tell that says this, with this watch
abbrev pub tell_body : TellFields → List Slot → Body
tell_body fields watch = Tell fields.joiner fields.prefix fields.level fields.session fields.depth watch
