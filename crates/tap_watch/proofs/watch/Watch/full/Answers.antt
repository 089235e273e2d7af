use Rattle.std.proofs.Common.{◌≡◌, ◌+◌, arith, ap, subst, ◌∙◌, sym}
use Rattle.tap_watch.specs.Watch.{SlotsAscend}
use Rattle.tap_watch.specs.Level.{levels_slots}
use Rattle.tap_watch.proofs.Levels.{levels_ascend}
use Rattle.tap_watch.proofs.Watches.{Contains-full, length-full}
use Rattle.tap_watch.proofs.watch.Watch.full.Goals as goal

-- the slots when the loop is over
all : (c : goal.After-loop-level) → c.loop-level.slots.items ≡ levels_slots c.args.settings.now.base c.args.joiner.now (c.args.prefix + 1)
all c =
    let over : c.loop-level.level ≡ c.args.prefix + 1 = omega arith in
    c.loop-level.invariant ∙ ap (λ base. levels_slots base c.args.joiner.now c.loop-level.level) c.base-base.ensures.value
    ∙ ap (levels_slots c.args.settings.now.base c.args.joiner.now) over

pub invariant_of-result : goal.invariant_of-result
invariant_of-result c = subst SlotsAscend (sym (all c)) (levels_ascend c.args.settings.now.base c.args.joiner.now (c.args.prefix + 1))

pub returns-clause-slots : goal.returns-clause-slots
returns-clause-slots c = all c

pub returns-clause-watched : goal.returns-clause-watched
returns-clause-watched c = rw (all c) (Contains-full c.args.settings.now c.args.joiner.now c.args.prefix)

pub returns-clause-len : goal.returns-clause-len
returns-clause-len c =
    rw (all c) (length-full c.args.settings.now c.args.joiner.now c.args.prefix c.requires.is_name c.requires.within)
