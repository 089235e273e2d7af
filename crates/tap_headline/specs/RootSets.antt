-- What is told of root sets, and what a lookup of a salted name finds.
--
-- Rule: docs/PROTOCOL.md, "Salted names".
use Rattle.std.specs.Prelude.{◌≡◌, ℕ, List, ◌∷◌, ◌++◌, map, Option, Some}
use Rattle.tap_name.specs.Names.{Among}
use Rattle.tap_name.specs.Root.{root}
use Rattle.tap_name.specs.Settings.{SettingsValue}
use Rattle.tap_salt.specs.Salt.{roots_of, salt_of, salts_of}
use Rattle.tap_surrogate.specs.Walk.{walk, walk_end}
use Rattle.tap_pointer.specs.Pointers.{pair_of}
use Rattle.tap_log.specs.declared.record.Record.{Record}
use Rattle.tap_log.specs.declared.record.Record.TheVariants.{Answered, RootsOf}
use Rattle.tap_log.specs.Log.{EachRecord}
use Rattle.tap_log.specs.Reduced.{reduced}
use Rattle.tap_history.specs.Core.{core_of}
use Rattle.tap_safe_runs.specs.Accepting.{AcceptNoStart, IsAskedAtRest}
use Rattle.tap_safe_runs.specs.Moments.{tables_of}
use Rattle.tap_safe_runs.specs.SafeLogs.{AtMomentsOf}
use Rattle.tap_pointer_runs.specs.Paths.{IsPublishedIn}
use Rattle.tap_headline.specs.Headline.{HasHeadline}

-- ---- root sets

-- the node at which a walk from a node to each of these names ends
abbrev pub ends_of_walks : SettingsValue → List Record → List ℕ → List (List ℕ) → List (Option (List ℕ))
ends_of_walks p log from names = map (λ name. walk_end (walk p.base (tables_of (reduced log)) from name)) names

-- What a root set has told after this log: of each of the four salts of its object the root over the core nodes. The asker is core.
-- From whichever core node walks go to the four salts, they end at these roots.
pub record IsRootSet (p : SettingsValue) (log : List Record) (object asker : List ℕ) (found : List (List ℕ)) : Type 0 where
  pub is : found ≡ roots_of p.base (core_of log) object
  pub each : map (root p.base (core_of log)) (salts_of object) ≡ map Some found
  pub asked : Among asker (core_of log)
  pub walks : (from : List ℕ) → Among from (core_of log) → ends_of_walks p log from (salts_of object) ≡ map Some found

-- what a record of roots tells is right, by the records before it
unfoldable pub IsToldRight : SettingsValue → List Record → Record → Type 0
IsToldRight p before (RootsOf object asker found) = IsRootSet p before object asker found
IsToldRight p before other = Unit {0}

-- so it is of each record of roots
abbrev pub RootSetsAreRight : SettingsValue → List Record → Type 0
RootSetsAreRight p log = EachRecord (IsToldRight p) log

-- ---- lookups of salted names

-- the answer names the server of a pair of the object that is published
pub record FindsServer (log : List Record) (object : List ℕ) (answer : Option (List ℕ)) : Type 0 where
  pub server : List ℕ
  pub is : answer ≡ Some server
  pub published : IsPublishedIn log (pair_of object server)

-- A lookup of a salt of an object that is made alone, at a rest at which a pair of this salt is published, finds a server of it.
abbrev pub SaltsAreFound : List Record → Type 0
SaltsAreFound log = (before between after : List Record) (ticket answered number : ℕ) (object asker server : List ℕ)
    (answer : Option (List ℕ)) → IsAskedAtRest log before ticket (salt_of object number) asker (between ++ Answered answered answer ∷ after)
    → AcceptNoStart between → IsPublishedIn before (pair_of (salt_of object number) server)
    → FindsServer before (salt_of object number) answer

-- so it is wherever the headline holds
abbrev pub HeadlineFindsSalts : Type 0
HeadlineFindsSalts = (p : SettingsValue) (log : List Record) → HasHeadline p log → AtMomentsOf log SaltsAreFound
