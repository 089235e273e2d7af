use Rattle.tap_node.proofs.state.State.on_done.Goals as goal

pub returns : goal.returns
returns c = λ from. rw (c.in_ok-next.was, c.replace-state.ensures.value) at c.after_done.ensures from
