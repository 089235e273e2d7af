-- The headline of a world: what holds at each moment of its log, as docs/PROOFS.md says, "The headline, sentence by sentence".
--
-- Rule: docs/FORMATS.md, "The course of a run" and "The ways a run ends".
use Rattle.tap_headline.specs.Headline.{HasHeadline}
use Rattle.tap_engine.specs.World.{WorldValue}

-- the log of the world has the headline
abbrev pub WorldHasHeadline : WorldValue → Type 0
WorldHasHeadline w = HasHeadline w.beginning.settings w.log
