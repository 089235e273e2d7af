use Rattle.std.proofs.Common.{Some, ◌∙◌, ap, length, sym, take}
use Rattle.tap_line.proofs.Loose.{digits_read, few_digits, few_joined, others_unread}
use Rattle.tap_line.proofs.hexadecimal.few_bytes.Goals as goal

pub returns-then-not-take_digits-clause-none : goal.returns-then-not-take_digits-clause-none
returns-then-not-take_digits-clause-none c = λ _. others_unread c.args.text.now (sym c.take_digits.ensures.all ∙ c.if-not-take_digits.true)

pub put_joined-requires-clause-digits : goal.put_joined-requires-clause-digits
put_joined-requires-clause-digits c =
    few_digits c.args.text.now c.take_digits.new.values (length c.args.text.now) 112 c.take_digits.ensures.values

pub returns-clause-ok : goal.returns-clause-ok
returns-clause-ok c =
    let read = digits_read c.args.count c.args.text.now c.requires.len (sym c.take_digits.ensures.all ∙ c.if-not-take_digits.false) in
    let joined = few_joined c.args.count c.args.text.now c.take_digits.new.values _ c.requires.len c.take_digits.ensures.values in
    read ∙ ap Some (sym (c.in_ok-copy_of.ensures.value ∙ ap (take c.args.count) c.put_joined.ensures ∙ joined))
