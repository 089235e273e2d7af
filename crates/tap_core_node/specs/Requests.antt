-- What a core node is asked to do, as the rule of a node has it.
--
-- Rule: docs/PROTOCOL.md, "Covers of a node" and "Cast".
use Rattle.std.specs.Prelude.{ℕ, List}
use Rattle.tap_name.specs.declared.slot.Slot.{Slot}
use Rattle.tap_rule.specs.Covering.{Request as RuleRequest}
use Rattle.tap_rule.specs.Casts.{Copy}
use Rattle.tap_core_node.specs.declared.casting.CastCopy.{CastCopy}
use Rattle.tap_core_node.specs.declared.covering.Request.{Request}

-- a request with this watch
abbrev pub asked_with : Request → List Slot → RuleRequest
asked_with request watch = record {
  joiner = request.joiner;
  prefix = request.prefix;
  level = request.level;
  watch = watch;
  parent = request.parent;
  depth = request.depth;
}

-- a copy of a cast with this word
abbrev pub copied_with : CastCopy → List ℕ → Copy
copied_with copy word =
    record { cast = copy.cast; level = copy.level; parent = copy.parent; depth = copy.depth; word = word }
