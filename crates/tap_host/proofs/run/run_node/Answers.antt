use Rattle.std.proofs.Common.{map}
use Rattle.std.specs.String.{string_bytes}
use Rattle.tap_host_line.specs.Words.{node_asked_by}
use Rattle.tap_host.proofs.Asking.{refuses}
use Rattle.tap_host.proofs.run.run_node.Goals as goal

pub returns-in-Err-NoMemory : goal.returns-in-Err-NoMemory
returns-in-Err-NoMemory g c =
    refuses (g.S.Source.state c.args.source.now) (g.K.Sink.state c.args.sink.now) (node_asked_by (map string_bytes c.args.words.now.items))

pub returns-in-Err : goal.returns-in-Err
returns-in-Err g c =
    refuses (g.S.Source.state c.args.source.now) (g.K.Sink.state c.args.sink.now) (node_asked_by (map string_bytes c.args.words.now.items))
