-- A node that leaves: what it sends its holders, and whom it awaits.
use Rattle.std.specs.Prelude.{ℕ, not, nat_eq, List, map, filter}
use Rattle.std.specs.Cmp.Lexicographic.{pointwise}
use Rattle.tap_table.specs.Table.{TableValue}
use Rattle.tap_table.specs.Ties.{TiesValue, holders_on}
use Rattle.tap_depart.specs.declared.notice.Notice.{Notice}
use Rattle.tap_depart.specs.Replacement.{replacement_for}

-- the ties, the notices that were sent at the start, and the holders that haven't answered, ascending
pub record LeavingValue : Type 0 where
  pub ties : TiesValue
  pub notices : List Notice
  pub awaited : List (List ℕ)

-- the notice for a holder
abbrev pub notice_for : TableValue → List ℕ → Notice
notice_for t holder = record { to = holder; replacement = replacement_for t holder }

-- a node with these ties that starts to leave: a notice for each holder that is on, all of whom it awaits
abbrev pub started_leaving : TiesValue → LeavingValue
started_leaving ties = record {
  ties = ties;
  notices = map (notice_for ties.table) (holders_on ties);
  awaited = holders_on ties;
}

-- these names without one
abbrev pub names_but : List (List ℕ) → List ℕ → List (List ℕ)
names_but names name = filter (λ other. not (pointwise nat_eq other name)) names

-- after the answer of a holder, which is awaited no more
abbrev pub left_by : LeavingValue → List ℕ → LeavingValue
left_by leaving holder = record leaving { awaited = names_but leaving.awaited holder }
