use Rattle.std.proofs.Common.{◌≡◌, ◌≤◌, Result, Ok, Err, IfOk, map, AllPairs, sym, subst}
use Rattle.std.specs.List.Sorted.{IsPermutation}
use Rattle.tap_history.specs.Moments.{awaiting}
use Rattle.tap_packets.specs.Groups.{data_line}
use Rattle.tap_packets.specs.Matching.{OutboxesMatch, packet_along}
use Rattle.tap_packets.specs.Sequence.{frame_ways}
use Rattle.tap_boxes.specs.Boxes.{BoxesValue, outbox_of, packets_kept}
use Rattle.tap_boxes.proofs.Gathered.{gathered}
use Rattle.tap_boxes.proofs.boxes.Boxes.gather.Goals as goal

-- what holds of the value if two other things do
both : {T E : Type 0} (result : Result T E) (P Q R : T → Type 0) → ((x : T) → P x → Q x → R x) → IfOk result P → IfOk result Q
    → IfOk result R
both (Ok x) P Q R then p q = then x p q
both (Err e) P Q R then p q = tt

pub returns : goal.returns
returns c = λ p log keeps kept.
    let outboxes = c.self.inside.outboxes in
    let match : OutboxesMatch p log (outbox_of outboxes) =
    subst (λ (b : BoxesValue). OutboxesMatch p log (outbox_of b.outboxes)) (sym c.self.view_is) keeps.outboxes in
    both c.gather.result (λ packets. IsPermutation (packets_kept outboxes) packets.items)
    (λ packets. AllPairs (λ a b. a.frame ≤ b.frame) packets.items)
    (λ packets. packets.items ≡ map (λ frame. packet_along (frame_ways p log) (data_line 0 frame)) (awaiting log))
    (λ packets moved ordered. gathered p log outboxes packets.items c.gather.ensures.names match kept moved ordered)
    c.gather.ensures.all c.gather.ensures.sorted
