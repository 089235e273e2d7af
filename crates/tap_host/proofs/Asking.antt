-- A run that memory was refused before its first line.
use Rattle.std.proofs.Common.{[], inr, refl}
use Rattle.std.specs.Prelude.{Option, None, Some}
use Rattle.std.proofs.KnownBytes.{Consumes-nil}
use Rattle.std.proofs.lemmas.List.Elements.{All-nil}
use Rattle.tap_io.specs.Sink.{SinkState}
use Rattle.tap_io.specs.Source.{SourceState}
use Rattle.tap_rule.specs.Node.{joiner}
use Rattle.tap_node.specs.Node.{running}
use Rattle.tap_host_line.specs.declared.asked.Asked.{Asked}
use Rattle.tap_host.specs.declared.status.HostStatus.TheVariants.{NoMemory}
use Rattle.tap_host.specs.Host.{HostSeen, new_host}
use Rattle.tap_host.specs.Run.{AreUntouched, HasRunAsked, HasServed, IsLineText}
use Rattle.tap_host.proofs.Serving.{none_written}

module _ (source : SourceState) (sink : SinkState) where
  untouched : AreUntouched source source sink sink
  untouched = record { source = refl; sink = refl }

  none_taken : (host : HostSeen) → HasServed host source source sink sink NoMemory
  none_taken host = record {
    lines = [];
    each = All-nil IsLineText;
    rest = [];
    read = Consumes-nil source.left;
    faults = refl;
    written = none_written sink;
    cause = (refl, tt);
  }

  pub refuses : (asked : Option Asked) → HasRunAsked asked source source sink sink NoMemory
  refuses None = (inr refl, untouched)
  refuses (Some asked) = none_taken (new_host (running (joiner asked.settings asked.name)))
