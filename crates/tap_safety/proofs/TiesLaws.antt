-- What a Link keeps that is taken.
-- Cited above: ties_law, versions_law
use Rattle.tap_safety.specs.KeptLaws.{TiesKeptByLink, VersionsKeptByLink}
use Rattle.tap_safety.proofs.TiesKept.{ties_kept}
use Rattle.tap_safety.proofs.VersionsKept.{versions_kept}

pub ties_law : TiesKeptByLink
ties_law s s' x t word step ties versions = ties_kept s s' x t word step ties versions

pub versions_law : VersionsKeptByLink
versions_law s s' x t word step versions = versions_kept s s' x t word step versions
