use Rattle.std.proofs.Common.{◌≡◌, nat_eq, slice_get, Some, ap, ◌∙◌, subst}
use Rattle.std.specs.Prelude.{position}
use Rattle.std.specs.List.{position_or_len}
use Rattle.tap_history.specs.Moments.{has_number, outstanding}
use Rattle.tap_engine.specs.WorldHeadline.{WorldHasHeadline}
use Rattle.tap_engine.specs.World.{WorldValue}
use Rattle.tap_engine.specs.Holders.{HoldersAreExactAtRest}
use Rattle.tap_engine.specs.Outcome.{stops}
use Rattle.tap_engine.proofs.HeadlineOfWorld.{kept_headline, kept_holders}
use Rattle.tap_engine.proofs.NumberPlaces.{place_at}
use Rattle.tap_world.proofs.Worlds.{deliver_answers, deliver_keeps, takes_unended}
use Rattle.tap_world.proofs.world.World.deliver_number.Goals as goal

pub invariant_of-self : goal.invariant_of-self
invariant_of-self c =
    let w = c.self.inside in
    let may = rw (← c.self.view_is) at c.requires.goes_on in
    let numbers = outstanding w.engine.ledger.records in
    let waits = ap (λ (x : WorldValue). has_number (outstanding x.log) c.args.number) c.self.view_is ∙ c.requires.waits in
    let place = position_or_len (nat_eq c.args.number) numbers in
    rw c.stops-self-inside.ensures
    (deliver_keeps w.engine w.refused w.stopped c.self.invariant may c.if-self.false c.deliver_number-answer.new.self c.deliver_number-answer.result
    place (c.deliver_number-answer.ensures.leads place (place_at numbers c.args.number waits)))

pub returns-clause-answers : goal.returns-clause-answers
returns-clause-answers c = λ place found.
    let w = c.self.inside in
    let may = rw (← c.self.view_is) at c.requires.goes_on in
    let here : position (nat_eq c.args.number) (outstanding w.engine.ledger.records) ≡ Some place =
    ap (λ (x : WorldValue). position (nat_eq c.args.number) (outstanding x.log)) c.self.view_is ∙ found in
    rw (c.stops-self-inside.ensures, ← c.self.view_is)
    (deliver_answers w.engine w.refused w.stopped c.self.invariant may c.if-self.false c.deliver_number-answer.new.self
    c.deliver_number-answer.result place (c.deliver_number-answer.ensures.leads place here) c.deliver_number-answer.ensures.added)

pub returns-clause-ended : goal.returns-clause-ended
returns-clause-ended c = λ is.
    let m = c.self.inside.engine in
    let numbers = outstanding m.ledger.records in
    let waits = ap (λ (x : WorldValue). has_number (outstanding x.log) c.args.number) c.self.view_is ∙ c.requires.waits in
    let place = position_or_len (nat_eq c.args.number) numbers in
    absurd (takes_unended m c.deliver_number-answer.new.self c.deliver_number-answer.result (slice_get numbers place)
    (c.deliver_number-answer.ensures.leads place (place_at numbers c.args.number waits)) is)

pub returns-then-self-clause-headline : goal.returns-then-self-clause-headline
returns-then-self-clause-headline c =
    let w = c.self.inside in
    subst WorldHasHeadline c.self.view_is
    (kept_headline w.engine w.refused w.stopped c.self.invariant)

pub returns-then-self-clause-holders : goal.returns-then-self-clause-holders
returns-then-self-clause-holders c =
    let w = c.self.inside in
    subst (λ (v : WorldValue). HoldersAreExactAtRest v.log) c.self.view_is (kept_holders w.engine w.refused w.stopped c.self.invariant)

pub returns-clause-headline : goal.returns-clause-headline
returns-clause-headline c =
    let w = c.self.inside in
    let may = rw (← c.self.view_is) at c.requires.goes_on in
    let numbers = outstanding w.engine.ledger.records in
    let waits = ap (λ (x : WorldValue). has_number (outstanding x.log) c.args.number) c.self.view_is ∙ c.requires.waits in
    let place = position_or_len (nat_eq c.args.number) numbers in
    let given = c.deliver_number-answer.result in
    kept_headline c.deliver_number-answer.new.self w.refused (stops given)
    (deliver_keeps w.engine w.refused w.stopped c.self.invariant may c.if-self.false c.deliver_number-answer.new.self given place
    (c.deliver_number-answer.ensures.leads place (place_at numbers c.args.number waits)))

pub returns-clause-holders : goal.returns-clause-holders
returns-clause-holders c =
    let w = c.self.inside in
    let may = rw (← c.self.view_is) at c.requires.goes_on in
    let numbers = outstanding w.engine.ledger.records in
    let waits = ap (λ (x : WorldValue). has_number (outstanding x.log) c.args.number) c.self.view_is ∙ c.requires.waits in
    let place = position_or_len (nat_eq c.args.number) numbers in
    let given = c.deliver_number-answer.result in
    kept_holders c.deliver_number-answer.new.self w.refused (stops given)
    (deliver_keeps w.engine w.refused w.stopped c.self.invariant may c.if-self.false c.deliver_number-answer.new.self given place
    (c.deliver_number-answer.ensures.leads place (place_at numbers c.args.number waits)))
