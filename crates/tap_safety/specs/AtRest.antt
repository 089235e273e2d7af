-- The members of an overlay at rest, as a system.
use Rattle.std.specs.Prelude.{◌≡◌, ◌≤◌, true, if◌then◌else◌, ℕ, List, [], length, Option, None, Some}
use Rattle.tap_name.specs.Names.{AreDistinct, AreNames, has_name}
use Rattle.tap_name.specs.Settings.{AreWithinLimits, SettingsValue}
use Rattle.tap_link.specs.declared.kind.Kind.{Kind}
use Rattle.tap_rule.specs.Node.{NodeState, member_at_rest}
use Rattle.tap_safety.specs.Remembered.{TieWord}
use Rattle.tap_safety.specs.System.{System}
use Rattle.tap_safety.specs.Invariant.{Invariant}
use Rattle.tap_safety.specs.Spelled.{most_names}
use Rattle.tap_safety.specs.Ties.{link_in}

-- the member of this name, if it is one
abbrev pub member_of : SettingsValue → List (List ℕ) → List ℕ → Option NodeState
member_of p members x = if has_name members x then Some (member_at_rest p members x) else None

-- what a member has said of a link at rest: that it is there, with version 0
abbrev pub word_at_rest : Option Kind → Option TieWord
word_at_rest None = None
word_at_rest (Some kind) = Some (record { version = 0; on = true })

-- Each member is core, with its ties at rest, and has said to each target of its table that it has a link to it; nothing is under way.
abbrev pub system_at_rest : SettingsValue → List (List ℕ) → System
system_at_rest p members = record {
  node = member_of p members;
  frames = [];
  next = 0;
  surrogate = λ b. None;
  session = λ x k. None;
  last = λ x t. word_at_rest (link_in (member_of p members x) t);
  departing = None;
}

-- with which an overlay may begin: some names of the settings, no two the same, and not too many
pub record AreMembers (p : SettingsValue) (members : List (List ℕ)) : Type 0 where
  pub limits : AreWithinLimits p
  pub names : AreNames p members
  pub distinct : AreDistinct members
  pub some : members ≡ [] → ⊥
  pub few : length members ≤ most_names

abbrev pub InvariantAtRest : Type 0
InvariantAtRest = (p : SettingsValue) (members : List (List ℕ)) → AreMembers p members → Invariant p (system_at_rest p members)
