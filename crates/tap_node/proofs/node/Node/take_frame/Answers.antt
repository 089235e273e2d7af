use Rattle.std.proofs.Common.{◌≡◌, ◌∙◌, true, nat_eq, Err, rules, sym, subst}
use Rattle.std.specs.Cmp.Lexicographic.{pointwise}
use Rattle.tap_rule.specs.Node.{NodeState}
use Rattle.tap_rule.specs.Strange.{is_own_name}
use Rattle.tap_node.specs.Node.{NodeValue}
use Rattle.tap_node.specs.Outcome.{AnswersAs, answer_lent, at_frame}
use Rattle.tap_node.specs.SeenNode.{state_held}
use Rattle.tap_node.proofs.Reading.{taken}
use Rattle.tap_node.proofs.node.Node.take_frame.Goals as goal

pub take_read-requires-clause-own : goal.take_read-requires-clause-own
take_read-requires-clause-own c =
    let held : NodeState = state_held c.self.inside.sender.settings c.self.inside.sender.name c.self.inside.state in
    let same : pointwise nat_eq c.args.frame.now.to c.self.inside.sender.name ≡ true = search rules in
    let its : is_own_name held c.args.frame.now.to ≡ true = rw c.self.invariant.name same in
    subst (λ (n : NodeValue). is_own_name n.state c.args.frame.now.to ≡ true) c.self.view_is its

pub take_read-requires-clause-fits : goal.take_read-requires-clause-fits
take_read-requires-clause-fits c = sym c.is_strange.ensures ∙ c.if-is_strange.false

pub returns-in-Ok-clause-outcome : goal.returns-in-Ok-clause-outcome
returns-in-Ok-clause-outcome c =
    subst (λ r. AnswersAs (at_frame c.args.self.now c.args.frame.now) c.args.self.now (answer_lent r c.take_read.new.turn)
    c.take_read.new.self) c.in-Ok.is c.take_read.ensures

pub returns-in-Ok-clause-memory : goal.returns-in-Ok-clause-memory
returns-in-Ok-clause-memory c wrong = cc

pub returns-in-Err-clause-outcome : goal.returns-in-Err-clause-outcome
returns-in-Err-clause-outcome c =
    let answers = subst (λ r. AnswersAs (at_frame c.args.self.now c.args.frame.now) c.args.self.now (answer_lent r c.take_read.new.turn)
    c.take_read.new.self) c.in-Err.is c.take_read.ensures in
    subst (λ f. AnswersAs (at_frame c.args.self.now c.args.frame.now) c.args.self.now (Err f) c.take_read.new.self)
    (sym c.from.ensures) answers

pub returns-in-Err-clause-memory : goal.returns-in-Err-clause-memory
returns-in-Err-clause-memory c refused =
    let held : NodeState = state_held c.self.inside.sender.settings c.self.inside.sender.name c.self.inside.state in
    let same : pointwise nat_eq c.args.frame.now.to c.self.inside.sender.name ≡ true = search rules in
    let its : is_own_name held c.args.frame.now.to ≡ true = rw c.self.invariant.name same in
    let own : is_own_name c.args.self.now.state c.args.frame.now.to ≡ true =
    subst (λ (n : NodeValue). is_own_name n.state c.args.frame.now.to ≡ true) c.self.view_is its in
    taken c.args.self.now c.args.frame.now own (sym c.is_strange.ensures ∙ c.if-is_strange.false)
