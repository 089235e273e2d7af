-- How a node begins.
use Rattle.std.proofs.Common.{◌≡◌, ℕ, List, refl}
use Rattle.tap_name.specs.Settings.{SettingsValue}
use Rattle.tap_join.specs.Joining.{started_joining}
use Rattle.tap_table.specs.Members.{ties_at_rest}
use Rattle.tap_table.specs.Ties.{TiesValue}
use Rattle.tap_rule.specs.Node.{Status, joiner}
use Rattle.tap_rule.specs.Node.Status.{Joining, Core}
use Rattle.tap_rule.specs.Begins.{IsUntouched}
use Rattle.tap_rule.specs.RuleLaws.{BeginsAtRestLaw, BeginsToJoinLaw}
use Rattle.tap_rule.proofs.EndSteps.{unlinked}

-- a joiner with another status, and with other ties of its own
untouched : (p : SettingsValue) (name : List ℕ) (status : Status) (ties : TiesValue) → ties.table.owner ≡ name
    → ties.table.settings ≡ p → IsUntouched p name (record (joiner p name) { status = status; ties = ties })
untouched p name status ties named settings = record {
  named = named;
  settings = settings;
  stamp = refl;
  sessions = refl;
  opened = refl;
  covers = refl;
  greeted = refl;
  abandoned = refl;
  publisher = refl;
  pairs = refl;
  awaited = refl;
  casts = refl;
  cast_sessions = refl;
  casts_opened = refl;
  cast_numbers = refl;
}

pub begins_to_join_law : BeginsToJoinLaw
begins_to_join_law p name = record {
  status = refl;
  unlinked = unlinked p name;
  unheld = refl;
  untouched = untouched p name Joining (started_joining p name).ties refl refl;
}

pub begins_at_rest_law : BeginsAtRestLaw
begins_at_rest_law p members name =
    record { status = refl; ties = refl; untouched = untouched p name Core (ties_at_rest p name members) refl refl }
