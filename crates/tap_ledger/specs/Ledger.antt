-- What contracts see of a ledger.
use Rattle.std.specs.Prelude.{ℕ, List}
use Rattle.tap_log.specs.declared.record.Record.{Record}
use Rattle.tap_ledger.specs.Woven.{Remark}

-- the plain records of its log, those that only a carrier tells, and for how many more there is room
pub record LedgerValue : Type 0 where
  pub records : List Record
  pub added : List Remark
  pub spare : ℕ
