use Rattle.std.proofs.Common.{◌≡◌, true, false, [], Ok, refl, sym, ap, subst}
use Rattle.tap_wire.specs.Spelling.{IsFrame}
use Rattle.tap_rule.specs.Node.{NodeState, settings_of}
use Rattle.tap_rule.specs.Strange.{is_own_name, is_strange}
use Rattle.tap_node.specs.declared.turn.Turn.{Turn}
use Rattle.tap_node.specs.Node.{NodeValue}
use Rattle.tap_node.specs.SeenNode.{FollowsFrom, node_value, state_held}
use Rattle.tap_node.proofs.Answering.{IsTurned}
use Rattle.tap_node.proofs.Calls.{frame_answers, frame_keeps, may_take}
use Rattle.tap_node.proofs.node.Node.take_read.Goals as goal

-- what holds of the frame, and of the step
module _ (c : goal.In-Ok) where
  abbrev node : NodeState
  node = state_held c.self.inside.sender.settings c.self.inside.sender.name c.self.inside.state

  runs : (node_value c.self.inside.sender.settings c.self.inside.sender.name c.self.inside.state).ended ≡ false
  runs = rw c.self.view_is c.requires.runs

  is_frame : IsFrame (settings_of node) c.args.frame.now
  is_frame = subst (λ (n : NodeValue). IsFrame (settings_of n.state) c.args.frame.now) (sym c.self.view_is) c.requires.frame

  own : is_own_name node c.args.frame.now.to ≡ true
  own = subst (λ (n : NodeValue). is_own_name n.state c.args.frame.now.to ≡ true) (sym c.self.view_is) c.requires.own

  usual : is_strange node c.args.frame.now ≡ false
  usual = subst (λ (n : NodeValue). is_strange n.state c.args.frame.now ≡ false) (sym c.self.view_is) c.requires.fits

  follows : FollowsFrom c.self.inside.sender.settings c.self.inside.sender.name c.self.inside.state c.take.new.self
      c.args.frame.now.from c.args.frame.now.body [] c.take.new.turn.sent c.take.new.turn.news
  follows =
      subst (λ (t : Turn). FollowsFrom c.self.inside.sender.settings c.self.inside.sender.name c.self.inside.state c.take.new.self
      c.args.frame.now.from c.args.frame.now.body t.sent c.take.new.turn.sent c.take.new.turn.news) c.requires.empty c.in-Ok.ensures

  turned : IsTurned c.take.new.self c.take.new.self c.take.new.turn.sent (Ok c.take.new.turn.news) (Ok c.take.new.turn)
  turned = record { made = refl; same = refl; refused = tt; ends = tt }

pub take-requires-clause-may : goal.take-requires-clause-may
take-requires-clause-may c =
    may_take c.self.inside.sender.settings c.self.inside.sender.name c.self.inside.state c.self.invariant c.args.self.now c.self.view_is
    c.args.frame.now c.requires.runs c.requires.room c.requires.frame c.requires.fits

pub take-requires-clause-nothing : goal.take-requires-clause-nothing
take-requires-clause-nothing c = ap (λ (t : Turn). t.news) c.requires.empty

pub invariant_of-self : goal.invariant_of-self
invariant_of-self c =
    frame_keeps c.self.inside.sender.settings c.self.inside.sender.name c.self.inside.state c.self.invariant (runs c) c.take.new.self
    c.take.new.self c.take.new.turn.sent (Ok c.take.new.turn.news) (Ok c.take.new.turn) (turned c) c.args.frame.now (is_frame c)
    (own c) (usual c) (follows c)

pub returns-in-Ok : goal.returns-in-Ok
returns-in-Ok c =
    rw (← c.self.view_is)
    (frame_answers c.self.inside.sender.settings c.self.inside.sender.name c.self.inside.state c.self.invariant (runs c) c.take.new.self
    c.take.new.self c.take.new.turn.sent (Ok c.take.new.turn.news) (Ok c.take.new.turn) (turned c) c.args.frame.now (is_frame c)
    (own c) (usual c) (follows c))
