use Rattle.std.proofs.Common.{◌∙◌, refl}
use Rattle.tap_scenario.proofs.Pairs.{none_if_short, none_if_apart, names_if_around}
use Rattle.tap_scenario.proofs.step.read_pair.Goals as goal

pub returns-in_err-first : goal.returns-in_err-first
returns-in_err-first c =
    rw (none_if_short c.args.settings.now c.args.kind c.in_ok-text.text.now c.args.words c.digits.ensures.valid.base_to c.in_ok-text.ensures
    (rw (← c.digits.ensures.value) c.in_err-first.ensures.cases)) c.from_residual-in_err-first.ensures

pub returns-in_err-second : goal.returns-in_err-second
returns-in_err-second c =
    let digits = c.digits.ensures.value in
    let split = c.in_ok-first.ensures.cases in
    rw (none_if_apart c.args.settings.now c.args.kind c.in_ok-text.text.now c.in_ok-first.others.now c.as_bytes.result.now c.args.words
    c.digits.ensures.valid.base_to c.in_ok-text.ensures (rw (← digits) split.2) (c.as_bytes.ensures.value ∙ c.between.ensures) c.in_err-second.ensures.cases)
    c.from_residual-in_err-second.ensures

pub returns-in_default : goal.returns-in_default
returns-in_default c =
    let digits = c.digits.ensures.value in
    let split = c.in_ok-first.ensures.cases in
    let rest = c.in_ok-second.ensures.cases in
    let found =
    names_if_around c.args.settings.now c.args.kind c.in_ok-text.text.now c.in_ok-first.first.now c.in_ok-first.others.now c.as_bytes.result.now
    c.in_ok-second.second.now c.args.words c.digits.ensures.valid.base_to c.in_ok-text.ensures (rw (← digits) split.0) (rw (← digits) split.1)
    (rw (← digits) split.2) (c.as_bytes.ensures.value ∙ c.between.ensures) rest.0 rest.1 in
    rw (found, ← c.read_name.ensures.value, c.in_default.is) refl

pub returns-in_default-read_name : goal.returns-in_default-read_name
returns-in_default-read_name c =
    let digits = c.digits.ensures.value in
    let split = c.in_ok-first.ensures.cases in
    let rest = c.in_ok-second.ensures.cases in
    let found =
    names_if_around c.args.settings.now c.args.kind c.in_ok-text.text.now c.in_ok-first.first.now c.in_ok-first.others.now c.as_bytes.result.now
    c.in_ok-second.second.now c.args.words c.digits.ensures.valid.base_to c.in_ok-text.ensures (rw (← digits) split.0) (rw (← digits) split.1)
    (rw (← digits) split.2) (c.as_bytes.ensures.value ∙ c.between.ensures) rest.0 rest.1 in
    rw (found, ← c.read_name.ensures.value, c.in-Ok.is, ← c.read_name-2.ensures.value, c.in_default-read_name.is) refl

pub returns : goal.returns
returns c =
    let digits = c.digits.ensures.value in
    let split = c.in_ok-first.ensures.cases in
    let rest = c.in_ok-second.ensures.cases in
    let found =
    names_if_around c.args.settings.now c.args.kind c.in_ok-text.text.now c.in_ok-first.first.now c.in_ok-first.others.now c.as_bytes.result.now
    c.in_ok-second.second.now c.args.words c.digits.ensures.valid.base_to c.in_ok-text.ensures (rw (← digits) split.0) (rw (← digits) split.1)
    (rw (← digits) split.2) (c.as_bytes.ensures.value ∙ c.between.ensures) rest.0 rest.1 in
    rw (found, ← c.read_name.ensures.value, c.in-Ok.is, ← c.read_name-2.ensures.value, c.in-Ok-read_name.is, c.step.ensures) refl
