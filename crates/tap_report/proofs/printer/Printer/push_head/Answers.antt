use Rattle.std.proofs.Common.{◌≡◌, ◌+◌, ◌*◌, ℕ, arith, append_assoc, slice_range, subst, sym, slice_index}
use Rattle.tap_wire.specs.Names.{receiver_in, sender_in}
use Rattle.tap_report.specs.Frames.{word_of_kind}
use Rattle.tap_report.specs.Printer.{Waits}
use Rattle.tap_report.specs.Shapes.{spaced_name}
use Rattle.tap_report.proofs.HeadLemmas.{first_is_sender, head_stands, names_below, names_in, names_piece, second_is_receiver}
use Rattle.tap_report.proofs.PrintsLemmas.{Waits-then}
use Rattle.tap_report.proofs.printer.Printer.push_head.Goals as goal

pub slice_bounds-push_names-end : goal.slice_bounds-push_names-end
slice_bounds-push_names-end c =
    let stands = head_stands c.args.settings.now c.args.bytes.now c.requires.read in
    omega (arith, stands.within, c.digits-digits.ensures.value, c.head_len-from.ensures)

pub push_names-requires-clause-below : goal.push_names-requires-clause-below
push_names-requires-clause-below c =
    let p = c.args.settings.now in
    let bytes = c.args.bytes.now in
    let digits : ℕ = c.digits-digits.result in
    let from : ℕ = c.head_len-from.result in
    let piece : slice_range bytes from (from + 2 * digits) ≡ names_in p bytes =
    names_piece p bytes from (from + 2 * digits) c.head_len-from.ensures (omega (arith, c.digits-digits.ensures.value)) in
    rw piece (names_below p bytes c.digits-digits.ensures.valid (head_stands p bytes c.requires.read))

pub returns-clause-text : goal.returns-clause-text
returns-clause-text c =
    let p = c.args.settings.now in
    let bytes = c.args.bytes.now in
    let digits : ℕ = c.digits-digits.result in
    let from : ℕ = c.head_len-from.result in
    let stands = head_stands p bytes c.requires.read in
    let piece : slice_range bytes from (from + 2 * digits) ≡ names_in p bytes =
    names_piece p bytes from (from + 2 * digits) c.head_len-from.ensures (omega (arith, c.digits-digits.ensures.value)) in
    let names = rw (piece, c.digits-digits.ensures.value, first_is_sender p bytes, second_is_receiver p bytes) at c.push_names.ensures.text in
    let all = Waits-then c.push_kind.ensures.text names in
    let word = word_of_kind (slice_index bytes 1) in
    let apart = sym (append_assoc word (spaced_name (sender_in p bytes)) (spaced_name (receiver_in p bytes))) in
    rw stands.head (subst (λ text. Waits text c.args.self.now c.push_names.new.self) apart all)
