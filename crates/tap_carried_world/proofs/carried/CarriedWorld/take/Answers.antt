use Rattle.std.proofs.Common.{◌≡◌, false, length, Err, ap, sym, subst, ◌∙◌}
use Rattle.std.specs.Prelude.{nat_eq}
use Rattle.std.specs.List.{position_or_len}
use Rattle.std.proofs.lemmas.Result.{err_from_is_err_and}
use Rattle.tap_history.specs.Moments.{has_number, outstanding}
use Rattle.tap_packets.proofs.ActedRecords.{acts_fit_holds}
use Rattle.tap_engine.specs.Outcome.{MayGoOn, WorldAnswersAs, deliver_outcome}
use Rattle.tap_carrier.specs.Kept.{KeepsLog}
use Rattle.tap_engine.specs.World.{whole_log}
use Rattle.tap_engine.proofs.NumberPlaces.{place_at, place_found}
use Rattle.tap_engine.proofs.WholeLogs.{take_added}
use Rattle.tap_carrier.specs.Sending.{IsToCarry, RemarksAll, packets_since}
use Rattle.tap_carried_world.specs.Taking.{CanTake, IsToTake, TakesFrame}
use Rattle.tap_carried_world.proofs.CarriedRunLaws.{laws}
use Rattle.tap_carried_world.proofs.Seen.{plain_of, seen, world_is}
use Rattle.tap_carried_world.proofs.TakenAnswers.{carried_takes, deliver_stops, goes_after, to_carry_on}
use Rattle.tap_carried_world.proofs.carried.CarriedWorld.take.Goals as goal

pub deliver_number-requires-clause-waits : goal.deliver_number-requires-clause-waits
deliver_number-requires-clause-waits c =
    let s = c.args.scenario.now in
    let w = c.self.inside.world in
    let d = c.self.inside.carrier in
    let plain = plain_of w c.log.result.now.records c.log.ensures.records c.log.ensures.reduced in
    let take = seen w d c.args.self.now c.self.view_is (λ x. IsToTake s x.world c.args.frame x.carrier) c.requires.take in
    ap (λ l. has_number (outstanding l) c.args.frame) (sym plain)
    ∙ ap (λ l. has_number l c.args.frame) (acts_fit_holds.waiting (whole_log w)) ∙ take.waits

pub returns-in_err-deliver_number : goal.returns-in_err-deliver_number
returns-in_err-deliver_number c =
    let s = c.args.scenario.now in
    let w = c.self.inside.world in
    let d = c.self.inside.carrier in
    let plain = plain_of w c.log.result.now.records c.log.ensures.records c.log.ensures.reduced in
    let can = seen w d c.args.self.now c.self.view_is (λ x. CanTake s x.world c.args.frame) c.requires.carry in
    let take = seen w d c.args.self.now c.self.view_is (λ x. IsToTake s x.world c.args.frame x.carrier) c.requires.take in
    let on = seen w d c.args.self.now c.self.view_is (λ x. MayGoOn x.world) c.requires.goes_on in
    let runs = seen w d c.args.self.now c.self.view_is (λ x. x.world.stopped ≡ false) c.requires.runs in
    let waits = ap (λ l. has_number (outstanding l) c.args.frame) (sym plain)
    ∙ ap (λ l. has_number l c.args.frame) (acts_fit_holds.waiting (whole_log w)) ∙ take.waits in
    let place = position_or_len (nat_eq c.args.frame) (outstanding w.log) in
    let found = place_at (outstanding w.log) c.args.frame waits in
    let there = place_found (outstanding w.log) c.args.frame place found in
    let v = c.deliver_number.new.self in
    let stop = c.in_err-deliver_number.field-0.0 in
    let made = err_from_is_err_and c.from_residual.result c.from_residual.ensures.1 in
    let is : c.from_residual.result ≡ Err stop = made.1 ∙ ap Err made.2 in
    subst (λ x. TakesFrame s c.args.frame x c.from_residual.result v d) (world_is w d c.args.self.now c.self.view_is)
    (subst (λ r. TakesFrame s c.args.frame w r v d) (sym is)
    (deliver_stops laws s w c.args.frame can d take plain on runs c.log.ensures.within place there stop v d
    (subst (λ r. WorldAnswersAs (deliver_outcome w place) w r v) c.in_err-deliver_number.was (c.deliver_number.ensures.answers place found))))

pub carry_since-requires-clause-goes_on : goal.carry_since-requires-clause-goes_on
carry_since-requires-clause-goes_on c =
    let s = c.args.scenario.now in
    let w = c.self.inside.world in
    let d = c.self.inside.carrier in
    let plain = plain_of w c.log.result.now.records c.log.ensures.records c.log.ensures.reduced in
    let can = seen w d c.args.self.now c.self.view_is (λ x. CanTake s x.world c.args.frame) c.requires.carry in
    let take = seen w d c.args.self.now c.self.view_is (λ x. IsToTake s x.world c.args.frame x.carrier) c.requires.take in
    let on = seen w d c.args.self.now c.self.view_is (λ x. MayGoOn x.world) c.requires.goes_on in
    let runs = seen w d c.args.self.now c.self.view_is (λ x. x.world.stopped ≡ false) c.requires.runs in
    let waits = ap (λ l. has_number (outstanding l) c.args.frame) (sym plain)
    ∙ ap (λ l. has_number l c.args.frame) (acts_fit_holds.waiting (whole_log w)) ∙ take.waits in
    let place = position_or_len (nat_eq c.args.frame) (outstanding w.log) in
    let found = place_at (outstanding w.log) c.args.frame waits in
    let there = place_found (outstanding w.log) c.args.frame place found in
    let answers = subst (λ r. WorldAnswersAs (deliver_outcome w place) w r c.deliver_number.new.self) c.in_ok-deliver_number.was
    (c.deliver_number.ensures.answers place found) in
    goes_after laws s w c.args.frame can d take plain on runs c.log.ensures.within place there c.deliver_number.new.self answers

pub carry_since-requires-clause-runs : goal.carry_since-requires-clause-runs
carry_since-requires-clause-runs c =
    let s = c.args.scenario.now in
    let w = c.self.inside.world in
    let d = c.self.inside.carrier in
    let plain = plain_of w c.log.result.now.records c.log.ensures.records c.log.ensures.reduced in
    let take = seen w d c.args.self.now c.self.view_is (λ x. IsToTake s x.world c.args.frame x.carrier) c.requires.take in
    let waits = ap (λ l. has_number (outstanding l) c.args.frame) (sym plain)
    ∙ ap (λ l. has_number l c.args.frame) (acts_fit_holds.waiting (whole_log w)) ∙ take.waits in
    let place = position_or_len (nat_eq c.args.frame) (outstanding w.log) in
    let found = place_at (outstanding w.log) c.args.frame waits in
    let there = place_found (outstanding w.log) c.args.frame place found in
    let answers = subst (λ r. WorldAnswersAs (deliver_outcome w place) w r c.deliver_number.new.self) c.in_ok-deliver_number.was
    (c.deliver_number.ensures.answers place found) in
    (take_added w place c.args.frame there c.deliver_number.new.self c.log.ensures.within answers).goes_on

pub carry_since-requires-clause-carry : goal.carry_since-requires-clause-carry
carry_since-requires-clause-carry c =
    let s = c.args.scenario.now in
    let w = c.self.inside.world in
    let d = c.self.inside.carrier in
    let plain = plain_of w c.log.result.now.records c.log.ensures.records c.log.ensures.reduced in
    let can = seen w d c.args.self.now c.self.view_is (λ x. CanTake s x.world c.args.frame) c.requires.carry in
    let take = seen w d c.args.self.now c.self.view_is (λ x. IsToTake s x.world c.args.frame x.carrier) c.requires.take in
    let on = seen w d c.args.self.now c.self.view_is (λ x. MayGoOn x.world) c.requires.goes_on in
    let runs = seen w d c.args.self.now c.self.view_is (λ x. x.world.stopped ≡ false) c.requires.runs in
    let waits = ap (λ l. has_number (outstanding l) c.args.frame) (sym plain)
    ∙ ap (λ l. has_number l c.args.frame) (acts_fit_holds.waiting (whole_log w)) ∙ take.waits in
    let place = position_or_len (nat_eq c.args.frame) (outstanding w.log) in
    let found = place_at (outstanding w.log) c.args.frame waits in
    let there = place_found (outstanding w.log) c.args.frame place found in
    let answers = subst (λ r. WorldAnswersAs (deliver_outcome w place) w r c.deliver_number.new.self) c.in_ok-deliver_number.was
    (c.deliver_number.ensures.answers place found) in
    let from : length (whole_log w) ≡ c.len-from.result = ap length (sym c.log.ensures.records) ∙ sym c.len-from.ensures in
    subst (λ p. IsToCarry p c.len-from.result c.deliver_number.new.self d) (sym c.settings.ensures.value)
    (subst (λ n. IsToCarry s.settings n c.deliver_number.new.self d) from
    (to_carry_on laws s w c.args.frame can d take plain on runs c.log.ensures.within place there c.deliver_number.new.self answers))

pub returns : goal.returns
returns c =
    let s = c.args.scenario.now in
    let w = c.self.inside.world in
    let d = c.self.inside.carrier in
    let plain = plain_of w c.log.result.now.records c.log.ensures.records c.log.ensures.reduced in
    let can = seen w d c.args.self.now c.self.view_is (λ x. CanTake s x.world c.args.frame) c.requires.carry in
    let take = seen w d c.args.self.now c.self.view_is (λ x. IsToTake s x.world c.args.frame x.carrier) c.requires.take in
    let on = seen w d c.args.self.now c.self.view_is (λ x. MayGoOn x.world) c.requires.goes_on in
    let runs = seen w d c.args.self.now c.self.view_is (λ x. x.world.stopped ≡ false) c.requires.runs in
    let waits = ap (λ l. has_number (outstanding l) c.args.frame) (sym plain)
    ∙ ap (λ l. has_number l c.args.frame) (acts_fit_holds.waiting (whole_log w)) ∙ take.waits in
    let place = position_or_len (nat_eq c.args.frame) (outstanding w.log) in
    let found = place_at (outstanding w.log) c.args.frame waits in
    let there = place_found (outstanding w.log) c.args.frame place found in
    let answers = subst (λ r. WorldAnswersAs (deliver_outcome w place) w r c.deliver_number.new.self) c.in_ok-deliver_number.was
    (c.deliver_number.ensures.answers place found) in
    let v = c.deliver_number.new.self in
    let u = c.carry_since.new.world in
    let e = c.carry_since.new.self in
    let from : c.len-from.result ≡ length (whole_log w) = c.len-from.ensures ∙ ap length c.log.ensures.records in
    subst (λ x. TakesFrame s c.args.frame x c.carry_since.result u e) (world_is w d c.args.self.now c.self.view_is)
    (carried_takes laws s w c.args.frame can d take plain on runs c.log.ensures.within place there v answers c.carry_since.result u e
    (subst (λ n. RemarksAll (packets_since n v) (KeepsLog s.settings (whole_log u) e) v c.carry_since.result u) from
    (subst (λ p. RemarksAll (packets_since c.len-from.result v) (KeepsLog p (whole_log u) e) v c.carry_since.result u) c.settings.ensures.value
    c.carry_since.ensures)))
