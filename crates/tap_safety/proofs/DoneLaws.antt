-- What a Done keeps.
use Rattle.tap_safety.specs.KeptLaws.{CoverKeptByDone, HoleFreeKeptByDone, LowKeptByDone}
use Rattle.tap_safety.proofs.DoneCover.{cover_kept, low_kept}
use Rattle.tap_safety.proofs.DoneKept.{hole_free_kept}

pub hole_free_law : HoleFreeKeptByDone
hole_free_law p s s' d = hole_free_kept p s d.to d.before d.quiet s' d.number d.from d.step

pub cover_law : CoverKeptByDone
cover_law p s s' d = cover_kept p s s' d.number d.from d.to d.before d.quiet d.step

pub low_law : LowKeptByDone
low_law p s s' d = low_kept p s s' d.number d.from d.to d.before d.quiet d.step
