use Rattle.std.proofs.Common.{◌≡◌, ◌<◌, [], ◌∷◌, length, Err, Result, ap, refl, sym, subst, ◌∙◌, arith}
use Rattle.std.proofs.lemmas.List.{length-map}
use Rattle.std.proofs.lemmas.Result.{err_from_is_err_and}
use Rattle.tap_log.specs.declared.record.Record.TheVariants.{Ticked}
use Rattle.tap_log.specs.Reduced.{is_added}
use Rattle.tap_history.specs.Moments.{awaiting}
use Rattle.tap_engine.specs.declared.stop.Stop.{Stop}
use Rattle.tap_engine.specs.declared.stop.Stop.TheVariants.{NoMemory}
use Rattle.tap_packets.specs.Groups.{data_line, data_packets, tick_group}
use Rattle.tap_packets.specs.Matching.{packet_along}
use Rattle.tap_packets.specs.Sequence.{frame_ways}
use Rattle.tap_boxes.specs.Kept.{KeepsBoxes}
use Rattle.tap_carrier.specs.Carrier.{CarrierValue}
use Rattle.tap_carrier.specs.Kept.{KeepsLog}
use Rattle.tap_engine.specs.World.{whole_log}
use Rattle.tap_carrier.specs.Sending.{HasPut, RemarksAll, put_record}
use Rattle.tap_carrier.proofs.Remarking.{all_if_ok, goes_on, remarked_one, remarks_err, short_at_once, short_if_err, short_of_more}
use Rattle.tap_carrier.proofs.Ticking.{gathered, remarked_tick, room_to_tick, short_tick, tick_packets, ticked_to, ticks_none, ticks_one}
use Rattle.tap_carrier.proofs.carrier.Carrier.tick.Goals as goal

pub returns-in-Err : goal.returns-in-Err
returns-in-Err c =
    let first = c.args.world.now in
    short_at_once Ticked (data_packets (whole_log first) (awaiting (whole_log first))) first

pub remark-requires-clause-goes_on : goal.remark-requires-clause-goes_on
remark-requires-clause-goes_on c = c.requires.goes_on

pub remark-requires-clause-kind : goal.remark-requires-clause-kind
unfolding is_added
remark-requires-clause-kind c = refl

pub returns-in_err-remark : goal.returns-in_err-remark
returns-in_err-remark c =
    let first = c.args.world.now in
    let last = c.remark.new.self in
    let all =
    remarks_err Ticked first last c.requires.runs (Unit {0}) (Unit {0}) c.in_err-remark.field-0.0 c.in_err-remark.ensures.remarks in
    let given : Result (Unit {0}) Stop = Err c.in_err-remark.field-0.0 in
    let short = short_if_err (Ticked ∷ []) (Unit {0}) first last given c.in_err-remark.field-0.0 refl all in
    let made = err_from_is_err_and c.from_residual.result c.from_residual.ensures.1 in
    let is : c.from_residual.result ≡ Err NoMemory = made.1 ∙ ap Err (made.2 ∙ short.0) in
    subst (λ (r : Result (Unit {0}) Stop). RemarksAll (tick_group (whole_log first))
    (KeepsLog first.beginning.settings (whole_log last) c.args.self.now) first r last) (sym is)
    (short_of_more Ticked (data_packets (whole_log first) (awaiting (whole_log first))) first last short.1)

pub loop-packet-init : goal.loop-packet-init
loop-packet-init c =
    let first = c.args.world.now in
    ticks_none first.beginning.settings first c.remark.new.self c.args.self.now c.requires.packets c.requires.keeps
    (remarked_one Ticked first c.remark.new.self c.in_ok-remark.ensures.remarks)

pub put-requires-clause-goes_on : goal.put-requires-clause-goes_on
put-requires-clause-goes_on c =
    let first = c.args.world.now in
    let l = c.loop-packet in
    goes_on (ticked_to l.packet-index (whole_log first)) first l.world l.invariant.remarked c.requires.goes_on

pub put-requires-clause-runs : goal.put-requires-clause-runs
put-requires-clause-runs c = c.loop-packet.invariant.remarked.stopped ∙ c.requires.runs

pub put-requires-clause-room : goal.put-requires-clause-room
put-requires-clause-room c =
    let first = c.args.world.now in
    let p = first.beginning.settings in
    let log = whole_log first in
    let boxes : KeepsBoxes p log log c.self.inside.boxes =
    subst (KeepsBoxes p log log) (sym (ap (λ (v : CarrierValue). v.boxes) c.self.view_is)) c.requires.keeps.boxes in
    let items : c.deref-packet-items.result.now ≡ tick_packets p log =
    c.deref-packet-items.ensures.value ∙ c.in-Ok.ensures p log boxes c.requires.packets in
    let size : length c.deref-packet-items.result.now ≡ length (awaiting log) =
    ap length items ∙ length-map (awaiting log) (λ frame. packet_along (frame_ways p log) (data_line 0 frame)) in
    let l = c.loop-packet in
    let within : l.packet-index < length (awaiting log) = let early = c.loop-packet-test.true in omega (arith, early, size) in
    room_to_tick p first l.packet-index l.world l.self c.requires.packets within l.invariant c.requires.room

pub returns-in_err-put : goal.returns-in_err-put
returns-in_err-put c =
    let first = c.args.world.now in
    let p = first.beginning.settings in
    let log = whole_log first in
    let boxes : KeepsBoxes p log log c.self.inside.boxes =
    subst (KeepsBoxes p log log) (sym (ap (λ (v : CarrierValue). v.boxes) c.self.view_is)) c.requires.keeps.boxes in
    let items : c.deref-packet-items.result.now ≡ tick_packets p log =
    c.deref-packet-items.ensures.value ∙ c.in-Ok.ensures p log boxes c.requires.packets in
    let size : length c.deref-packet-items.result.now ≡ length (awaiting log) =
    ap length items ∙ length-map (awaiting log) (λ frame. packet_along (frame_ways p log) (data_line 0 frame)) in
    let l = c.loop-packet in
    let within : l.packet-index < length (awaiting log) = let early = c.loop-packet-test.true in omega (arith, early, size) in
    let packet = c.packet-item.result in
    let is = gathered p first l.packet-index l.world l.self c.requires.packets within l.invariant c.deref-packet-items.result.now packet items
    c.packet-item.is in
    let last = c.put.new.world in
    let short =
    short_if_err (put_record l.self packet ∷ []) (HasPut packet l.self c.put.new.self) l.world last c.put.result _ c.in_err-put.was
    c.put.ensures in
    let made = err_from_is_err_and c.from_residual-in_err-put.result c.from_residual-in_err-put.ensures.1 in
    let given : c.from_residual-in_err-put.result ≡ Err NoMemory = made.1 ∙ ap Err (made.2 ∙ short.0) in
    subst (λ (r : Result (Unit {0}) Stop). RemarksAll (tick_group log) (KeepsLog p (whole_log last) c.put.new.self) first r last) (sym given)
    (short_tick p first l.packet-index l.world l.self c.requires.packets within l.invariant packet is last short.1)

pub loop-packet-preserved : goal.loop-packet-preserved
loop-packet-preserved c =
    let first = c.args.world.now in
    let p = first.beginning.settings in
    let log = whole_log first in
    let boxes : KeepsBoxes p log log c.self.inside.boxes =
    subst (KeepsBoxes p log log) (sym (ap (λ (v : CarrierValue). v.boxes) c.self.view_is)) c.requires.keeps.boxes in
    let items : c.deref-packet-items.result.now ≡ tick_packets p log =
    c.deref-packet-items.ensures.value ∙ c.in-Ok.ensures p log boxes c.requires.packets in
    let size : length c.deref-packet-items.result.now ≡ length (awaiting log) =
    ap length items ∙ length-map (awaiting log) (λ frame. packet_along (frame_ways p log) (data_line 0 frame)) in
    let l = c.loop-packet in
    let within : l.packet-index < length (awaiting log) = let early = c.loop-packet-test.true in omega (arith, early, size) in
    let packet = c.packet-item.result in
    let is = gathered p first l.packet-index l.world l.self c.requires.packets within l.invariant c.deref-packet-items.result.now packet items
    c.packet-item.is in
    let all =
    all_if_ok (put_record l.self packet ∷ []) (HasPut packet l.self c.put.new.self) l.world c.put.new.world c.put.result _ c.in_ok-put.was
    c.put.ensures in
    ticks_one p first l.packet-index l.world l.self c.requires.packets within l.invariant packet is c.put.new.world c.put.new.self all.1 all.0

pub returns : goal.returns
returns c =
    let first = c.args.world.now in
    let p = first.beginning.settings in
    let log = whole_log first in
    let boxes : KeepsBoxes p log log c.self.inside.boxes =
    subst (KeepsBoxes p log log) (sym (ap (λ (v : CarrierValue). v.boxes) c.self.view_is)) c.requires.keeps.boxes in
    let items : c.deref-packet-items.result.now ≡ tick_packets p log =
    c.deref-packet-items.ensures.value ∙ c.in-Ok.ensures p log boxes c.requires.packets in
    let size : length c.deref-packet-items.result.now ≡ length (awaiting log) =
    ap length items ∙ length-map (awaiting log) (λ frame. packet_along (frame_ways p log) (data_line 0 frame)) in
    let l = c.loop-packet in
    let late = c.loop-packet-test.false in
    (remarked_tick p first l.packet-index l.world l.self (omega (arith, late, size)) l.invariant, l.invariant.keeps)
