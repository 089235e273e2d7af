use Rattle.std.proofs.Common.{◌≡◌, ◌||◌, Bool, true, false, filter, get_or, not, is_some, take, take_all, append-nil, arith, ap, refl, sym, ◌∙◌}
use Rattle.std.proofs.lemmas.List.Elements.{filter_more}
use Rattle.std.proofs.lemmas.List.Kept.{AllPairs-filter}
use Rattle.tap_name.specs.declared.slot.Slot.{Slot}
use Rattle.tap_name.specs.Slot.{Precedes, slot_at}
use Rattle.tap_link.specs.LinkSet.{least_settled}
use Rattle.tap_table.specs.Members.{is_slot}
use Rattle.tap_table.specs.Table.{links_at}
use Rattle.tap_multicast.specs.Offer.{answers}
use Rattle.tap_multicast.proofs.offer.unanswered.Goals as goal
use Rattle.tap_multicast.proofs.offer.unanswered.Goals.{then-not-answers+in_ok-push, else-not-answers}

pub from_vec-requires : goal.from_vec-requires
from_vec-requires c =
    let t = c.args.table.now in
    let joiner = c.args.cover.now.joiner in
    let watch = c.as_slice-slot-items.result.now in
    let all : take c.loop-slot.slot-index watch ≡ watch = take_all c.loop-slot.slot-index watch c.loop-slot-test.false in
    rw (c.loop-slot.invariant, all, c.as_slice-slot-items.ensures.value)
    (AllPairs-filter Precedes (λ slot. not (answers t joiner slot)) c.args.watch.now c.as_slice-slot-items.ensures.ascending)

pub loop-slot-preserved : goal.loop-slot-preserved
loop-slot-preserved c =
    let t = c.args.table.now in
    let joiner = c.args.cover.now.joiner in
    let watch = c.as_slice-slot-items.result.now in
    let i = c.loop-slot.slot-index in
    let slot = get_or watch i (record { level = 0; digit = 0 }) in
    let passes : Slot → Bool = λ s. not (answers t joiner s) in
    let own : c.slot_of-own.result ≡ slot_at joiner t.owner = c.slot_of-own.ensures.value ∙ ap (slot_at joiner) c.owner.ensures.value in
    let test : c.answers.result ≡ answers t joiner slot =
    c.answers.ensures ∙ ap (λ o. is_slot slot o || is_some (least_settled (links_at t slot))) own in
    let more = filter_more passes watch i (record { level = 0; digit = 0 }) c.loop-slot-test.true in
    elim c.if-not-answers.branch [
      | then-not-answers+in_ok-push w ↦
          let fails : answers t joiner slot ≡ false = grind (arith, test, w.if-not-answers.true) in
          rw (w.left-is, w.in_ok-push.ensures.items, c.loop-slot.invariant, more, fails) refl
      | else-not-answers w ↦
          let holds : answers t joiner slot ≡ true = grind (arith, test, w.if-not-answers.false) in
          rw (w.left-is, c.loop-slot.invariant, more, holds) (sym (append-nil (filter passes (take i watch))))
    ]
