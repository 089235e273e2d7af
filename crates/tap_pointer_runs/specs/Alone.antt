-- A lookup that is made alone, in the words of the log of a run.
--
-- Rule: docs/FORMATS.md, "The course of a run".
use Rattle.std.specs.Prelude.{◌≡◌, ℕ, List, ◌∷◌, ◌++◌, Option, None, Some}
use Rattle.tap_name.specs.Settings.{SettingsValue}
use Rattle.tap_pointer.specs.Pointers.{pair_of}
use Rattle.tap_log.specs.declared.record.Record.{Record}
use Rattle.tap_log.specs.declared.record.Record.TheVariants.{Answered}
use Rattle.tap_safe_runs.specs.Accepting.{AcceptNoStart, IsAskedAtRest}
use Rattle.tap_pointer_runs.specs.Paths.{IsPublishedIn}

-- The answer is exact by the log: it names the server of a pair of the object that is published, and none only if no such pair is.
abbrev pub IsExactIn : List Record → List ℕ → Option (List ℕ) → Type 0
IsExactIn log object (Some server) = IsPublishedIn log (pair_of object server)
IsExactIn log object None = (server : List ℕ) → IsPublishedIn log (pair_of object server) → ⊥

-- A lookup made alone is exact: if it is accepted at a rest, and no other start between then and an answer, that answer is the lookup's own, and
-- exact by what the log had as published at that rest.
abbrev pub LookupsAloneAreExact : SettingsValue → List Record → Type 0
LookupsAloneAreExact p log = (before between after : List Record) (ticket answered : ℕ) (object asker : List ℕ)
    (server : Option (List ℕ)) → IsAskedAtRest log before ticket object asker (between ++ Answered answered server ∷ after)
    → AcceptNoStart between → (answered ≡ ticket) × IsExactIn before object server
