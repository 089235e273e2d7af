-- What a Tell keeps that is taken anew at a core node.
use Rattle.tap_safety.specs.KeptLaws.{CoverKeptByKnownTell, CoverKeptByTell, CoveredKeptByTell, HoleFreeKeptByTell}
use Rattle.tap_safety.specs.KeptLaws.{LowKeptByTell, MeetKeptByTell}
use Rattle.tap_safety.proofs.CoverKept.{cover_kept}
use Rattle.tap_safety.proofs.KeptParts.{hole_free_kept, low_kept}
use Rattle.tap_safety.proofs.KnownTell.{cover_known}
use Rattle.tap_safety.proofs.MeetKept.{covered_kept, meet_kept}
use Rattle.tap_safety.proofs.TellKeeps.{adds_none, keeps}

pub cover_law : CoverKeptByTell
cover_law p s s' t = cover_kept s s' t.number t.from t.to t.tell t.watch t.step p t.before t.is

pub covered_law : CoveredKeptByTell
covered_law p s s' t = covered_kept s s' t.number t.from t.to t.tell t.watch t.step p t.before t.is

pub meet_law : MeetKeptByTell
meet_law p s s' t meet = meet_kept s s' t.number t.from t.to t.tell t.watch t.step p t.before t.is meet

pub low_law : LowKeptByTell
low_law p s s' t low =
    low_kept s s' (keeps s s' t.number t.from t.to t.tell t.watch t.step) (adds_none s s' t.number t.from t.to t.tell t.watch t.step) low

pub hole_free_law : HoleFreeKeptByTell
hole_free_law p s s' t =
    hole_free_kept p s s' (keeps s s' t.number t.from t.to t.tell t.watch t.step)
    (adds_none s s' t.number t.from t.to t.tell t.watch t.step) t.before.hole_free

pub known_law : CoverKeptByKnownTell
known_law p s s' t = cover_known p s s' t.number t.from t.to t.tell t.watch t.step t.before t.is
