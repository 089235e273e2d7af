use Rattle.std.proofs.Common.{inl, inr, sym, ap, ◌∙◌}
use Rattle.tap_root_sets.proofs.Refusing.{no_node, node_refuses, status_refusal}
use Rattle.tap_root_sets.proofs.root_sets.refusal_of.Goals as goal

pub returns-in_default : goal.returns-in_default
returns-in_default c = λ object. no_node c.args.world.now c.requires.run object c.args.asker (c.in_default.ensures.state c.requires.runs)

pub returns-in-Core : goal.returns-in-Core
returns-in-Core c = λ object.
    let seen = node_refuses c.args.world.now c.requires.run object c.args.asker c.in-Some.node.now c.status.result
    (c.in-Some.ensures.state c.requires.runs) c.status.ensures in
    elim c.in-Core.is [
      | inl core ↦ ap status_refusal (sym core) ∙ seen
      | inr leaving ↦ ap status_refusal (sym leaving) ∙ seen
    ]

pub returns-in-Joining : goal.returns-in-Joining
returns-in-Joining c = λ object.
    ap status_refusal (sym c.in-Joining.is)
    ∙ node_refuses c.args.world.now c.requires.run object c.args.asker c.in-Some.node.now c.status.result
    (c.in-Some.ensures.state c.requires.runs) c.status.ensures

pub returns-in-Gone : goal.returns-in-Gone
returns-in-Gone c = λ object.
    let seen = node_refuses c.args.world.now c.requires.run object c.args.asker c.in-Some.node.now c.status.result
    (c.in-Some.ensures.state c.requires.runs) c.status.ensures in
    elim c.in-Gone.is [
      | inl gone ↦ ap status_refusal (sym gone) ∙ seen
      | inr others ↦ elim others [
        | inl ceased ↦ ap status_refusal (sym ceased) ∙ seen
        | inr ended ↦ ap status_refusal (sym ended) ∙ seen
      ]
    ]
