-- Each change of ties keeps what all ties keep.
-- Cited above: AreTies-forgotten, AreTies-held_word, AreTies-marked, AreTies-offered, AreTies-pinned, AreTies-released, AreTies-removed
use Rattle.std.proofs.Common.{◌≡◌, ◌≢◌, ℕ, Bool, Result, Ok, Err, List, refl, sym, subst}
use Rattle.std.specs.Prelude.{OnErr, OnOk}
use Rattle.std.proofs.lemmas.Cmp.{nat_list_cmp_total}
use Rattle.tap_name.specs.Name.{IsName}
use Rattle.tap_register.proofs.Applied.{All-applied, IsAscending-applied}
use Rattle.tap_table.specs.declared.memory.NoMemory.{NoMemory}
use Rattle.tap_table.specs.Table.{IsTable, TableValue, name_cmp}
use Rattle.tap_table.specs.Table.{pinned as table_pinned, offered as table_offered, released as table_released, forgotten as table_forgotten, marked as table_marked, removed as table_removed}
use Rattle.tap_table.specs.Ties.{AreTies, TiesValue, forgotten, held_word, marked, offered, pinned, released, removed}
use Rattle.tap_table.proofs.KeptTable.{IsTable-forgotten, IsTable-marked, IsTable-offered, IsTable-pinned, IsTable-released, IsTable-removed}

module _ (ties : TiesValue) (name : List ℕ) (are : AreTies ties) (is_name : IsName ties.table.settings name)
    (other : name ≢ ties.table.owner) where
  -- another table of the same owner and settings, and the same holders
  with_table : (table : TableValue) → table.owner ≡ ties.table.owner → table.settings ≡ ties.table.settings → IsTable table
      → AreTies (record ties { table = table })
  with_table table owner settings is =
      record {
        table = is;
        ascending = are.ascending;
        names = rw settings are.names;
        others = rw owner are.others;
      }

  pub AreTies-pinned : AreTies (pinned ties name)
  AreTies-pinned = with_table (table_pinned ties.table name) refl refl (IsTable-pinned ties.table name are.table is_name other)

  pub AreTies-offered : AreTies (offered ties name)
  AreTies-offered = with_table (table_offered ties.table name) refl refl (IsTable-offered ties.table name are.table is_name other)

  pub AreTies-released : AreTies (released ties name)
  AreTies-released = with_table (table_released ties.table name) refl refl (IsTable-released ties.table name are.table is_name other)

  pub AreTies-forgotten : AreTies (forgotten ties name)
  AreTies-forgotten = with_table (table_forgotten ties.table name) refl refl (IsTable-forgotten ties.table name are.table is_name other)

  pub AreTies-marked : AreTies (marked ties name)
  AreTies-marked = with_table (table_marked ties.table name) refl refl (IsTable-marked ties.table name are.table is_name other)

  pub AreTies-removed : AreTies (removed ties name)
  AreTies-removed = with_table (table_removed ties.table name) refl refl (IsTable-removed ties.table name are.table is_name other)

  pub AreTies-held_word : (version : ℕ) (on : Bool) → AreTies (held_word ties name version on)
  AreTies-held_word version on =
      record {
        table = are.table;
        ascending = IsAscending-applied name_cmp nat_list_cmp_total ties.holders name version on are.ascending;
        names =
            All-applied name_cmp nat_list_cmp_total ties.holders name version on (λ e. IsName ties.table.settings e.key) are.names is_name;
        others =
            All-applied name_cmp nat_list_cmp_total ties.holders name version on (λ e. e.key ≢ ties.table.owner) are.others other;
      }

-- what holds after a call that wasn't refused, and before, holds after it in either case
pub after_result : (P : TiesValue → Type 0) (answer : Result Bool NoMemory) (old new changed : TiesValue) → P old → P changed
    → OnOk answer (new ≡ changed) → OnErr answer (new ≡ old) → P new
after_result P (Ok b) old new changed before after is same = subst P (sym is) after
after_result P (Err e) old new changed before after is same = subst P (sym same) before
