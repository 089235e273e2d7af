use Rattle.std.proofs.Common.{Some, ◌∙◌, ap, sym}
use Rattle.tap_name.specs.Packed.{joined}
use Rattle.tap_line.proofs.Loose.{digits_read, loose_digits, others_unread}
use Rattle.tap_line.proofs.hexadecimal.spelled.Goals as goal

pub returns-then-not-take_digits-clause-none : goal.returns-then-not-take_digits-clause-none
returns-then-not-take_digits-clause-none c = λ _. others_unread c.args.text.now (sym c.take_digits.ensures.all ∙ c.if-not-take_digits.true)

pub put_joined-requires-clause-digits : goal.put_joined-requires-clause-digits
put_joined-requires-clause-digits c = rw c.take_digits.ensures.values (loose_digits c.args.text.now)

pub returns-clause-ok : goal.returns-clause-ok
returns-clause-ok c =
    let read = digits_read _ c.args.text.now c.requires.places (sym c.take_digits.ensures.all ∙ c.if-not-take_digits.false) in
    read ∙ ap Some (sym (c.in_ok-copy_of.ensures.value ∙ c.put_joined.ensures ∙ ap joined c.take_digits.ensures.values))
