use Rattle.std.proofs.Common.{◌≡◌, ℕ, ◌+◌, [], ◌∷◌, length, Err, Result, ap, sym, subst, ◌∙◌, arith}
use Rattle.std.proofs.lemmas.Result.{err_from_is_err_and}
use Rattle.tap_engine.specs.World.{WorldValue, whole_log}
use Rattle.tap_engine.specs.declared.stop.Stop.{Stop}
use Rattle.tap_engine.specs.declared.stop.Stop.TheVariants.{NoMemory}
use Rattle.tap_boxes.specs.Changes.{packet_to_send}
use Rattle.tap_carrier.specs.Carrier.{CarrierValue}
use Rattle.tap_carrier.specs.Kept.{KeepsLog}
use Rattle.tap_carrier.specs.Sending.{HasCarried, RemarksAll, packets_since, put_record}
use Rattle.tap_carrier.proofs.Carrying.{CarriesTo, carries_none, carries_one, carries_same, end_within, few_await, has_head, is_above, is_few, item_there, keeps_all, packets_between, remarked_all, room_for_one, short_here}
use Rattle.tap_carrier.proofs.Remarking.{all_if_ok, goes_on, short_if_err}
use Rattle.tap_carrier.proofs.carrier.Carrier.carry_since.Goals as goal
use Rattle.tap_carrier.proofs.carrier.Carrier.carry_since.Goals.{in-Some+in_ok-carry, in_default}

pub loop-place-init : goal.loop-place-init
loop-place-init c = record {
  carries = carries_none c.args.settings.now c.args.from c.args.world.now c.args.self.now c.requires.carry;
  early = omega arith;
}

pub at-requires : goal.at-requires
at-requires c =
    let within =
    end_within c.args.settings.now c.args.from c.loop-place.place c.len-end.result c.args.world.now c.loop-place.world c.loop-place.self
    c.loop-place.invariant.carries c.log.result.now.records c.log-in-loop-place.result.now.records c.len-end.ensures c.log.ensures.records
    c.log-in-loop-place.ensures.records in
    let early = c.loop-place-test.true in
    omega (arith, within, early)

pub sending_of-requires : goal.sending_of-requires
sending_of-requires c =
    let p = c.args.settings.now in
    let first = c.args.world.now in
    let l = c.loop-place in
    let there =
    item_there p c.args.from l.place c.len-end.result first l.world l.self l.invariant.carries c.log.result.now.records
    c.log-in-loop-place.result.now.records c.len-end.ensures c.log.ensures.records c.log-in-loop-place.ensures.records c.at.result.now
    c.loop-place-test.true c.at.ensures in
    has_head p c.args.from first c.args.self.now c.requires.carry l.place c.at.result.now l.world l.self l.invariant.early there
    l.invariant.carries

pub carry-requires-clause-goes_on : goal.carry-requires-clause-goes_on
carry-requires-clause-goes_on c =
    let first = c.args.world.now in
    let l = c.loop-place in
    goes_on (packets_between c.args.from l.place first) first l.world l.invariant.carries.remarked c.requires.goes_on

pub carry-requires-clause-runs : goal.carry-requires-clause-runs
carry-requires-clause-runs c = c.loop-place.invariant.carries.remarked.stopped ∙ c.requires.runs

pub carry-requires-clause-room : goal.carry-requires-clause-room
carry-requires-clause-room c =
    let p = c.args.settings.now in
    let first = c.args.world.now in
    let l = c.loop-place in
    let there =
    item_there p c.args.from l.place c.len-end.result first l.world l.self l.invariant.carries c.log.result.now.records
    c.log-in-loop-place.result.now.records c.len-end.ensures c.log.ensures.records c.log-in-loop-place.ensures.records c.at.result.now
    c.loop-place-test.true c.at.ensures in
    room_for_one p c.args.from first c.args.self.now c.requires.carry l.place c.at.result.now l.world l.self l.invariant.early there
    l.invariant.carries c.in-Some.sending c.in-Some.ensures

pub carry-requires-clause-above : goal.carry-requires-clause-above
carry-requires-clause-above c =
    let p = c.args.settings.now in
    let first = c.args.world.now in
    let l = c.loop-place in
    let there =
    item_there p c.args.from l.place c.len-end.result first l.world l.self l.invariant.carries c.log.result.now.records
    c.log-in-loop-place.result.now.records c.len-end.ensures c.log.ensures.records c.log-in-loop-place.ensures.records c.at.result.now
    c.loop-place-test.true c.at.ensures in
    is_above p c.args.from first c.args.self.now c.requires.carry l.place c.at.result.now l.world l.self l.invariant.early there
    l.invariant.carries c.in-Some.sending c.in-Some.ensures

pub carry-requires-clause-few : goal.carry-requires-clause-few
carry-requires-clause-few c =
    let p = c.args.settings.now in
    let first = c.args.world.now in
    let l = c.loop-place in
    let there =
    item_there p c.args.from l.place c.len-end.result first l.world l.self l.invariant.carries c.log.result.now.records
    c.log-in-loop-place.result.now.records c.len-end.ensures c.log.ensures.records c.log-in-loop-place.ensures.records c.at.result.now
    c.loop-place-test.true c.at.ensures in
    is_few p c.args.from first c.args.self.now c.requires.carry l.place c.at.result.now l.world l.self l.invariant.early there
    l.invariant.carries c.in-Some.sending c.in-Some.ensures

pub carry-requires-clause-count : goal.carry-requires-clause-count
carry-requires-clause-count c =
    let p = c.args.settings.now in
    let first = c.args.world.now in
    let l = c.loop-place in
    let there =
    item_there p c.args.from l.place c.len-end.result first l.world l.self l.invariant.carries c.log.result.now.records
    c.log-in-loop-place.result.now.records c.len-end.ensures c.log.ensures.records c.log-in-loop-place.ensures.records c.at.result.now
    c.loop-place-test.true c.at.ensures in
    few_await p c.args.from first c.args.self.now c.requires.carry l.place c.at.result.now l.world l.self l.invariant.early there
    l.invariant.carries c.in-Some.sending c.in-Some.ensures

pub returns-in_err-carry : goal.returns-in_err-carry
returns-in_err-carry c =
    let p = c.args.settings.now in
    let first = c.args.world.now in
    let l = c.loop-place in
    let sending = c.in-Some.sending in
    let last = c.carry.new.world in
    let there =
    item_there p c.args.from l.place c.len-end.result first l.world l.self l.invariant.carries c.log.result.now.records
    c.log-in-loop-place.result.now.records c.len-end.ensures c.log.ensures.records c.log-in-loop-place.ensures.records c.at.result.now
    c.loop-place-test.true c.at.ensures in
    let short =
    short_if_err (put_record l.self (packet_to_send l.self.boxes sending.from sending.to sending.number) ∷ [])
    (HasCarried sending l.self c.carry.new.self) l.world last c.carry.result _ c.in_err-carry.was c.carry.ensures in
    let made = err_from_is_err_and c.from_residual.result c.from_residual.ensures.1 in
    let is : c.from_residual.result ≡ Err NoMemory = made.1 ∙ ap Err (made.2 ∙ short.0) in
    subst (λ (r : Result (Unit {0}) Stop). RemarksAll (packets_since c.args.from first) (KeepsLog p (whole_log last) c.carry.new.self) first r last)
    (sym is)
    (short_here p c.args.from first c.args.self.now c.requires.carry l.place c.at.result.now l.world l.self l.invariant.early there
    l.invariant.carries sending c.in-Some.ensures last short.1)

pub loop-place-preserved : goal.loop-place-preserved
loop-place-preserved c =
    let p = c.args.settings.now in
    let first = c.args.world.now in
    let l = c.loop-place in
    let m = c.match-sending_of in
    let next = l.place + 1 in
    let there =
    item_there p c.args.from l.place c.len-end.result first l.world l.self l.invariant.carries c.log.result.now.records
    c.log-in-loop-place.result.now.records c.len-end.ensures c.log.ensures.records c.log-in-loop-place.ensures.records c.at.result.now
    c.loop-place-test.true c.at.ensures in
    let early = l.invariant.early in
    record {
      carries = elim m.branch [
        | in-Some+in_ok-carry w ↦
            let sending = w.in-Some.sending in
            let all =
            all_if_ok (put_record l.self (packet_to_send l.self.boxes sending.from sending.to sending.number) ∷ [])
            (HasCarried sending l.self w.carry.new.self) l.world w.carry.new.world w.carry.result _ w.in_ok-carry.was w.carry.ensures in
            let so : CarriesTo p c.args.from next first w.carry.new.world w.carry.new.self =
            carries_one p c.args.from first c.args.self.now c.requires.carry l.place c.at.result.now l.world l.self early there
            l.invariant.carries sending w.in-Some.ensures w.carry.new.world w.carry.new.self all.1 all.0 in
            subst (λ (x : WorldValue). CarriesTo p c.args.from next first x m.self) (sym w.world-is)
            (subst (λ (y : CarrierValue). CarriesTo p c.args.from next first w.carry.new.world y) (sym w.self-is) so)
        | in_default w ↦
            let so : CarriesTo p c.args.from next first l.world l.self =
            carries_same p c.args.from first c.args.self.now c.requires.carry l.place c.at.result.now l.world l.self early there
            l.invariant.carries w.in_default.ensures in
            subst (λ (x : WorldValue). CarriesTo p c.args.from next first x m.self) (sym w.world-is)
            (subst (λ (y : CarrierValue). CarriesTo p c.args.from next first l.world y) (sym w.self-is) so)
      ];
      early = omega (arith, early);
    }

pub returns : goal.returns
returns c =
    let p = c.args.settings.now in
    let first = c.args.world.now in
    let l = c.loop-place in
    let ends = c.len-end.ensures ∙ ap length c.log.ensures.records in
    let within = c.requires.carry.within in
    let early = l.invariant.early in
    let at_end : l.place ≡ length (whole_log first) = omega (arith, ends, within, early) in
    let so : CarriesTo p c.args.from (length (whole_log first)) first l.world l.self =
    subst (λ (n : ℕ). CarriesTo p c.args.from n first l.world l.self) at_end l.invariant.carries in (
      remarked_all p c.args.from first c.args.self.now c.requires.carry l.world l.self so,
      keeps_all p c.args.from first c.args.self.now c.requires.carry l.world l.self so,
    )
