use Rattle.std.proofs.Common.{rules, ◌≡◌, ◌∙◌}
use Rattle.std.proofs.lemmas.Fn.{always_returns_same}
use Rattle.tap_host.proofs.Numbered.{at_none, at_place}
use Rattle.tap_host.proofs.mail.frame_of.Goals as goal

pub returns-in-Ok : goal.returns-in-Ok
returns-in-Ok c =
    c.as_slice.ensures
    ∙ at_place c.args.frames.now c.args.item.now.frame c.in-Ok.at c.index-frames-at.result c.requires c.in-Ok.ensures.bound
    (c.in-Ok.ensures.position (λ y. y.0) (always_returns_same _ (λ a r. r ≡ a.0.now.0) _ (λ a r f called. search rules)))

pub returns-in-Err : goal.returns-in-Err
returns-in-Err c =
    at_none c.args.frames.now c.args.item.now.frame c.in-Err.field-0 c.requires
    (c.in-Err.ensures.position (λ y. y.0) (always_returns_same _ (λ a r. r ≡ a.0.now.0) _ (λ a r f called. search rules)))
