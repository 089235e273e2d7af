use Rattle.std.proofs.Common.{◌≡◌, false, [], rules, sym}
use Rattle.tap_rule.specs.Strange.{is_strange_body, names_to_link}
use Rattle.tap_node_common.proofs.Counting.{known_none}
use Rattle.tap_node_common.proofs.strange.is_strange_from_another.Goals as goal

pub returns-in-Cast : goal.returns-in-Cast
unfolding is_strange_body names_to_link
returns-in-Cast c node table covers =
    let none = known_none c.args.known c.requires.valid c.requires.few node table covers in
    rw (c.in-Cast.is, sym none) (search rules)

pub returns-in_default : goal.returns-in_default
unfolding is_strange_body names_to_link
returns-in_default c node table covers =
    let none : names_to_link c.args.frame.now.from c.args.frame.now.body ≡ [] = search rules in
    let usual : is_strange_body node c.args.frame.now.body ≡ false = search rules in
    rw (none, usual) (known_none c.args.known c.requires.valid c.requires.few node table covers)

pub returns-in_default-2 : goal.returns-in_default-2
unfolding is_strange_body names_to_link
returns-in_default-2 c node table covers =
    let none : names_to_link c.args.frame.now.from c.args.frame.now.body ≡ [] = search rules in
    let usual : is_strange_body node c.args.frame.now.body ≡ false = search rules in
    rw (none, usual) (known_none c.args.known c.requires.valid c.requires.few node table covers)
