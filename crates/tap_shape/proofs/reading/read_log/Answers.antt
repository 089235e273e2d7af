use Rattle.std.proofs.Common.{◌≡◌, ◌+◌, ap, sym, subst, ◌∙◌, arith, length, length-append, length-drop, take, drop, Some, None, ◌∷◌, refl}
use Rattle.tap_shape.specs.Text.{IsNotLog, IsTextOf}
use Rattle.tap_shape.specs.Reader.{HasBegun, text_taken}
use Rattle.tap_shape.proofs.Accepts.{start}
use Rattle.tap_shape.proofs.Exact.{Reads, ended_log, ended_not, reads_more, reads_start, refused_line}
use Rattle.tap_shape.proofs.Feeds.{feed_found, no_feed_unless}
use Rattle.tap_shape.proofs.Taking.{begun_by, refused_by, taken_by, unbegun_by}
use Rattle.tap_shape.proofs.reading.read_log.Goals as goal

pub returns-in_default-clause-not_log : goal.returns-in_default-clause-not_log
returns-in_default-clause-not_log c = λ k is.
    let bytes = c.args.bytes.now in
    let same : 1 ≡ k = cc in
    subst (IsNotLog bytes) same
    (ended_not bytes 0 start bytes (reads_start bytes)
    (no_feed_unless bytes c.first_feed.result c.first_feed.ensures.first (λ at there. c.in_default.not-Some at there)) refl)

pub returns-in_default-begin-clause-not_log : goal.returns-in_default-begin-clause-not_log
returns-in_default-begin-clause-not_log c = λ k is.
    let bytes = c.args.bytes.now in
    let at = c.in-Some.at in
    let parted = feed_found bytes c.first_feed.result at c.first_feed.ensures.first c.in-Some.is in
    let same : 1 ≡ k = cc in
    let refused : text_taken start (take at bytes) ≡ None =
    ap (text_taken start) (sym c.before-2.ensures)
    ∙ unbegun_by c.in_ok-records.records c.before-2.result.now c.begin.result c.begin.ensures c.in_ok-records.ensures
    (λ r there. c.in_default-begin.not-Some r there) in
    subst (IsNotLog bytes) same
    (refused_line bytes 0 start (take at bytes) (drop (at + 1) bytes)
    (subst (λ l. Reads bytes l 0 start) parted.is (reads_start bytes)) parted.none refused)

pub loop-at-init : goal.loop-at-init
loop-at-init c =
    let bytes = c.args.bytes.now in
    let at = c.in-Some.at in
    let begun = c.in-Some-begin.begun in
    let parted = feed_found bytes c.first_feed.result at c.first_feed.ensures.first c.in-Some.is in
    let read : text_taken start (take at bytes) ≡ Some (HasBegun begun) =
    ap (text_taken start) (sym c.before-2.ensures)
    ∙ begun_by c.in_ok-records.records c.before-2.result.now c.begin.result begun c.begin.ensures c.in_ok-records.ensures c.in-Some-begin.is in
    let more = reads_more bytes 0 start (take at bytes) (drop (at + 1) bytes) (HasBegun begun)
    (subst (λ l. Reads bytes l 0 start) parted.is (reads_start bytes)) parted.none read in
    let size = ap length c.after-rest.ensures ∙ length-drop (at + 1) bytes in
    let some = ap length parted.is ∙ length-append (take at bytes) (10 ∷ drop (at + 1) bytes) in (
      subst (λ l. Reads bytes l 1 (HasBegun begun)) (sym c.after-rest.ensures) more,
      (omega (arith, size, some)),
    )

pub returns-then-not-branch-clause-not_log : goal.returns-then-not-branch-clause-not_log
returns-then-not-branch-clause-not_log c = λ k is.
    let bytes = c.args.bytes.now in
    let l = c.loop-at in
    let at = c.in-Some-first_feed.at in
    let parted = feed_found l.rest.now c.first_feed-in-loop-at.result at c.first_feed-in-loop-at.ensures.first c.in-Some-first_feed.is in
    let same : l.lines + 1 ≡ k = cc in
    let refused : text_taken (HasBegun l.begun) (take at l.rest.now) ≡ None =
    ap (text_taken (HasBegun l.begun)) (sym c.before-in-Some-first_feed.ensures)
    ∙ refused_by c.in_ok-go_on.field-0 l.begun c.go_on.new.begun c.before-in-Some-first_feed.result.now c.in_ok-go_on.ensures c.if-not-branch.true in
    subst (IsNotLog bytes) same
    (refused_line bytes l.lines (HasBegun l.begun) (take at l.rest.now) (drop (at + 1) l.rest.now)
    (subst (λ t. Reads bytes t l.lines (HasBegun l.begun)) parted.is l.invariant.0) parted.none refused)

pub loop-at-preserved : goal.loop-at-preserved
loop-at-preserved c =
    let bytes = c.args.bytes.now in
    let l = c.loop-at in
    let at = c.in-Some-first_feed.at in
    let next = c.go_on.new.begun in
    let after = c.after-rest-in-Some-first_feed.ensures in
    let parted = feed_found l.rest.now c.first_feed-in-loop-at.result at c.first_feed-in-loop-at.ensures.first c.in-Some-first_feed.is in
    let read : text_taken (HasBegun l.begun) (take at l.rest.now) ≡ Some (HasBegun next) =
    ap (text_taken (HasBegun l.begun)) (sym c.before-in-Some-first_feed.ensures)
    ∙ taken_by c.in_ok-go_on.field-0 l.begun next c.before-in-Some-first_feed.result.now c.in_ok-go_on.ensures c.if-not-branch.false in
    let more = reads_more bytes l.lines (HasBegun l.begun) (take at l.rest.now) (drop (at + 1) l.rest.now) (HasBegun next)
    (subst (λ t. Reads bytes t l.lines (HasBegun l.begun)) parted.is l.invariant.0) parted.none read in
    let few = l.invariant.1 in
    let size = ap length after ∙ length-drop (at + 1) l.rest.now in
    let some = ap length parted.is ∙ length-append (take at l.rest.now) (10 ∷ drop (at + 1) l.rest.now) in (
      subst (λ t. Reads bytes t (l.lines + 1) (HasBegun next)) (sym after) more,
      (omega (arith, few, size, some)),
    )

pub returns-in-Some-2-clause-log : goal.returns-in-Some-2-clause-log
returns-in-Some-2-clause-log c =
    subst (IsTextOf c.args.bytes.now) (sym c.into_log.ensures)
    (ended_log c.args.bytes.now c.loop-at.rest.now c.loop-at.lines (HasBegun c.loop-at.begun) c.in-Some-2.records c.loop-at.invariant.0
    (sym c.in_ok-records-2.ensures ∙ c.in-Some-2.is))

pub returns-in-None-clause-not_log : goal.returns-in-None-clause-not_log
returns-in-None-clause-not_log c = λ k is.
    let bytes = c.args.bytes.now in
    let l = c.loop-at in
    let same : l.lines + 1 ≡ k = cc in
    subst (IsNotLog bytes) same
    (ended_not bytes l.lines (HasBegun l.begun) l.rest.now l.invariant.0
    (no_feed_unless l.rest.now c.first_feed-in-loop-at.result c.first_feed-in-loop-at.ensures.first
    (λ at there. c.in_default-first_feed.not-Some at there)) (sym c.in_ok-records-2.ensures ∙ c.in-None.is))
