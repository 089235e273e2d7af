use Rattle.std.proofs.Common.{refl, subst, sym}
use Rattle.tap_host.specs.Host.{host_seen}
use Rattle.tap_host.specs.Taking.{FindsLine, IsFirstLine}
use Rattle.tap_host.proofs.Serving.{begins, reads_none, reads_on, takes_last, takes_on}
use Rattle.tap_host.proofs.run.Run.to_end.Goals as goal

pub loop-before-init : goal.loop-before-init
loop-before-init g c =
    begins (host_seen c.args.self.now.host) (g.S.Source.state c.args.source.now) (g.K.Sink.state c.args.sink.now) c.args.self.now.lines
    c.requires

pub returns-in-Err : goal.returns-in-Err
returns-in-Err g c =
    reads_none (host_seen c.args.self.now.host) _ _ _ _ _ _ c.loop-before.self.lines c.find.new.self _ c.loop-before.invariant
    c.in-Err.status (subst (FindsLine c.loop-before.self.lines c.find.new.self _ _) c.in-Err.is c.find.ensures)

pub returns-in-Some : goal.returns-in-Some
returns-in-Some g c =
    let finds = subst (FindsLine c.loop-before.self.lines c.find.new.self _ _) c.in-Ok.is c.find.ensures in
    let goes = reads_on (host_seen c.args.self.now.host) _ _ _ _ _ _ c.loop-before.self.lines c.find.new.self _ c.loop-before.invariant
    c.in-Ok.len finds in
    let first = subst (λ bytes. IsFirstLine bytes c.in-Ok.len) (sym finds.answer.0) finds.answer.1 in
    takes_last (host_seen c.args.self.now.host) _ _ _ _ _ (host_seen c.loop-before.self.host) (host_seen c.take.new.self.host)
    c.find.new.self c.loop-before.before c.in-Ok.len goes first c.in-Some.status c.in-Some.ensures.takes

pub loop-before-preserved : goal.loop-before-preserved
loop-before-preserved g c =
    let finds = subst (FindsLine c.loop-before.self.lines c.find.new.self _ _) c.in-Ok.is c.find.ensures in
    let goes = reads_on (host_seen c.args.self.now.host) _ _ _ _ _ _ c.loop-before.self.lines c.find.new.self _ c.loop-before.invariant
    c.in-Ok.len finds in
    let first = subst (λ bytes. IsFirstLine bytes c.in-Ok.len) (sym finds.answer.0) finds.answer.1 in
    takes_on (host_seen c.args.self.now.host) _ _ _ _ _ (host_seen c.loop-before.self.host) (host_seen c.take.new.self.host) c.find.new.self
    c.loop-before.before c.in-Ok.len goes first c.take.new.self.lines (c.in_default.ensures.rest refl) c.in_default.ensures.takes
