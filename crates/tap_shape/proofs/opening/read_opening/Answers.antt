use Rattle.std.proofs.Common.{◌≡◌, ◌+◌, ap, sym, subst, ◌∙◌, take, drop, true, false, Some, None}
use Rattle.tap_shape.specs.Opening.{ends, opening, later_opening}
use Rattle.tap_shape.specs.Reader.{HasBegun, text_taken}
use Rattle.tap_shape.proofs.Accepts.{start}
use Rattle.tap_shape.proofs.Feeds.{feed_found, no_feed_unless}
use Rattle.tap_shape.proofs.Taking.{begun_by, unbegun_by}
use Rattle.tap_shape.proofs.Openings.{GoesPast, HasRead, ends_log, ends_none, first_read, first_refused, no_first, opening_ended, opening_over, read_past, stops}
use Rattle.tap_shape.proofs.opening.read_opening.Goals as goal

pub returns-in_default-clause-none : goal.returns-in_default-clause-none
returns-in_default-clause-none c = λ is.
    let bytes = c.args.bytes.now in
    no_first bytes (no_feed_unless bytes c.first_feed.result c.first_feed.ensures.first (λ at there. c.in_default.not-Some at there))

pub returns-in_default-begin-clause-none : goal.returns-in_default-begin-clause-none
returns-in_default-begin-clause-none c = λ is.
    let bytes = c.args.bytes.now in
    let at = c.in-Some.at in
    let parted = feed_found bytes c.first_feed.result at c.first_feed.ensures.first c.in-Some.is in
    let refused : text_taken start (take at bytes) ≡ None =
    ap (text_taken start) (sym c.before-2.ensures)
    ∙ unbegun_by c.new.result c.before-2.result.now c.begin.result c.begin.ensures c.new.ensures (λ r there. c.in_default-begin.not-Some r there) in
    first_refused bytes (take at bytes) (drop (at + 1) bytes) parted.is parted.none refused

pub loop-at-init : goal.loop-at-init
loop-at-init c =
    let bytes = c.args.bytes.now in
    let at = c.in-Some.at in
    let begun = c.in-Some-begin.begun in
    let parted = feed_found bytes c.first_feed.result at c.first_feed.ensures.first c.in-Some.is in
    let read : text_taken start (take at bytes) ≡ Some (HasBegun begun) =
    ap (text_taken start) (sym c.before-2.ensures)
    ∙ begun_by c.new.result c.before-2.result.now c.begin.result begun c.begin.ensures c.new.ensures c.in-Some-begin.is in
    subst (λ l. HasRead (opening bytes) (later_opening l) begun) (sym c.after-rest.ensures)
    (first_read bytes (take at bytes) (drop (at + 1) bytes) parted.is parted.none begun read)

pub returns-then-ends-clause-log : goal.returns-then-ends-clause-log
returns-then-ends-clause-log c =
    let l = c.loop-at in
    let at = c.in-Some-first_feed.at in
    let parted = feed_found l.rest.now c.first_feed-in-loop-at.result at c.first_feed-in-loop-at.ensures.first c.in-Some-first_feed.is in
    let ended : ends (take at l.rest.now) ≡ true = ap ends (sym c.before-text.ensures) ∙ sym c.ends.ensures ∙ c.if-ends.true in
    ends_log (opening c.args.bytes.now) (later_opening l.rest.now) l.begun l.invariant
    (ap later_opening parted.is ∙ opening_ended (take at l.rest.now) (drop (at + 1) l.rest.now) parted.none ended) c.finish.result c.finish.ensures

pub returns-then-ends-clause-none : goal.returns-then-ends-clause-none
returns-then-ends-clause-none c =
    let l = c.loop-at in
    let at = c.in-Some-first_feed.at in
    let parted = feed_found l.rest.now c.first_feed-in-loop-at.result at c.first_feed-in-loop-at.ensures.first c.in-Some-first_feed.is in
    let ended : ends (take at l.rest.now) ≡ true = ap ends (sym c.before-text.ensures) ∙ sym c.ends.ensures ∙ c.if-ends.true in
    ends_none (opening c.args.bytes.now) (later_opening l.rest.now) l.begun l.invariant
    (ap later_opening parted.is ∙ opening_ended (take at l.rest.now) (drop (at + 1) l.rest.now) parted.none ended) c.finish.result c.finish.ensures

pub returns-then-not-branch-clause-none : goal.returns-then-not-branch-clause-none
returns-then-not-branch-clause-none c = λ is.
    let bytes = c.args.bytes.now in
    let l = c.loop-at in
    let at = c.in-Some-first_feed.at in
    let next = c.go_past.new.begun in
    let past = c.in_ok-go_past.field-0 in
    let parted = feed_found l.rest.now c.first_feed-in-loop-at.result at c.first_feed-in-loop-at.ensures.first c.in-Some-first_feed.is in
    let goes : ends (take at l.rest.now) ≡ false = ap ends (sym c.before-text.ensures) ∙ sym c.ends.ensures ∙ c.if-ends.false in
    let says : GoesPast l.begun (take at l.rest.now) past next =
    subst (λ t. GoesPast l.begun t past next) c.before-text.ensures c.in_ok-go_past.ensures in
    stops (opening bytes) (take at l.rest.now) (drop (at + 1) l.rest.now) l.begun next past
    (subst (λ t. HasRead (opening bytes) (later_opening t) l.begun) parted.is l.invariant) parted.none goes says c.if-not-branch.true

pub loop-at-preserved : goal.loop-at-preserved
loop-at-preserved c =
    let bytes = c.args.bytes.now in
    let l = c.loop-at in
    let at = c.in-Some-first_feed.at in
    let next = c.go_past.new.begun in
    let past = c.in_ok-go_past.field-0 in
    let parted = feed_found l.rest.now c.first_feed-in-loop-at.result at c.first_feed-in-loop-at.ensures.first c.in-Some-first_feed.is in
    let goes : ends (take at l.rest.now) ≡ false = ap ends (sym c.before-text.ensures) ∙ sym c.ends.ensures ∙ c.if-ends.false in
    let says : GoesPast l.begun (take at l.rest.now) past next =
    subst (λ t. GoesPast l.begun t past next) c.before-text.ensures c.in_ok-go_past.ensures in
    let read : HasRead (opening bytes) (later_opening (drop (at + 1) l.rest.now)) next =
    read_past (opening bytes) (take at l.rest.now) (drop (at + 1) l.rest.now) l.begun next past
    (subst (λ t. HasRead (opening bytes) (later_opening t) l.begun) parted.is l.invariant) parted.none goes says c.if-not-branch.false in
    subst (λ t. HasRead (opening bytes) (later_opening t) next) (sym c.after-rest-in-Some-first_feed.ensures) read

pub returns-clause-log : goal.returns-clause-log
returns-clause-log c =
    let l = c.loop-at in
    let over = opening_over l.rest.now (no_feed_unless l.rest.now c.first_feed-in-loop-at.result c.first_feed-in-loop-at.ensures.first
    (λ at there. c.in_default-first_feed.not-Some at there)) in
    ends_log (opening c.args.bytes.now) (later_opening l.rest.now) l.begun l.invariant over c.finish-2.result c.finish-2.ensures

pub returns-clause-none : goal.returns-clause-none
returns-clause-none c =
    let l = c.loop-at in
    let over = opening_over l.rest.now (no_feed_unless l.rest.now c.first_feed-in-loop-at.result c.first_feed-in-loop-at.ensures.first
    (λ at there. c.in_default-first_feed.not-Some at there)) in
    ends_none (opening c.args.bytes.now) (later_opening l.rest.now) l.begun l.invariant over c.finish-2.result c.finish-2.ensures
