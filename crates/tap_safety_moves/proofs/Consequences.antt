-- What the whole invariant says of a frame as it comes to its receiver, and of a system in which no frame is under way.
-- Cited above: none_is_strange, nothing_is_left
use Rattle.std.proofs.Common.{◌≡◌, ℕ, ap, sym, ◌∙◌}
use Rattle.tap_wire.specs.declared.frame.Body.{Body}
use Rattle.tap_wire.specs.declared.frame.Body.TheVariants.{Ack, Heard}
use Rattle.tap_wire.specs.declared.frame.Frame.{Frame}
use Rattle.tap_rule.specs.RuleLaws.{frame_to}
use Rattle.tap_rule.specs.Strange.{is_strange}
use Rattle.tap_safety.proofs.Rest.{rest_holds}
use Rattle.tap_safety_moves.specs.Arrivals.{AnswersOpenSession}
use Rattle.tap_safety_moves.proofs.Arrivals.{ack_answers, arrives_at, heard_answers}
use Rattle.tap_safety_moves.proofs.NotStrange.{strange_exactly}
use Rattle.tap_safety_moves.specs.Consequences.{AnswersHaveSession, NoneIsStrange, NothingIsLeft}
use Rattle.tap_safety_moves.proofs.Shallow.{comes_shallow}
use Rattle.tap_safety_moves.proofs.Together.{basis_of}

pub none_is_strange : NoneIsStrange
none_is_strange p s number frame node sound among at =
    let here = arrives_at p s number frame node sound.invariant.basis sound.nodes sound.few among at in
    let same : frame ≡ frame_to node frame.from frame.body =
    ap (λ to. record { from = frame.from; to = to; body = frame.body }) (sym here.0) in
    ap (is_strange node) same ∙ strange_exactly p s number node frame.from frame.body here.1
    ∙ comes_shallow p s number frame node (basis_of p s sound) among at

answers_awaited : (body : ℕ → Body) → AnswersOpenSession body → AnswersHaveSession body
answers_awaited body law p s from to session node sound way at =
    let frame : Frame = record { from = from; to = to; body = body session } in
    let here = arrives_at p s way.number frame node sound.invariant.basis sound.nodes sound.few way.among at in
    law p s way.number node from session here.1

pub heard_awaited : AnswersHaveSession Heard
heard_awaited = answers_awaited Heard heard_answers

pub ack_awaited : AnswersHaveSession Ack
ack_awaited = answers_awaited Ack ack_answers

pub nothing_is_left : NothingIsLeft
nothing_is_left p s sound rest = rest_holds p s sound.invariant.basis rest
