-- A run's whole log, and the log without what only a carrier tells.
use Rattle.std.specs.Prelude.{ℕ, suc, ◌≤◌, nat_eq, if◌then◌else◌, List, [], ◌∷◌, ◌++◌, filter, length, map, All}
use Rattle.tap_log.specs.declared.record.Record.{Record}
use Rattle.tap_log.specs.Reduced.{is_added}

-- a record that only a carrier tells, and how many plain ones, which are all others, stand before it
pub record Remark : Type 0 where
  pub plain_before : ℕ
  pub item : Record

-- this record, after as many plain ones
abbrev pub remark_at : ℕ → Record → Remark
remark_at plain_before item = record { plain_before = plain_before; item = item }

-- this record, at the end of a log that has these plain ones
abbrev pub remark_after : List Record → Record → Remark
remark_after records item = remark_at (length records) item

-- those of the remarks that stand after so many plain records
abbrev pub remarks_at : ℕ → List Remark → List Record
remarks_at count added = map (λ r. r.item) (filter (λ r. nat_eq r.plain_before count) added)

-- plain records, before which there are so many others, and each remark after as many as it says
abbrev pub woven_from : ℕ → List Record → List Remark → List Record
woven_from count [] added = remarks_at count added
woven_from count (item ∷ items) added = remarks_at count added ++ item ∷ woven_from (suc count) items added

-- the whole log: the plain records, and each remark after as many of them as it says
abbrev pub woven : List Record → List Remark → List Record
woven records added = woven_from 0 records added

-- each remark stands after no more plain records than there are
abbrev pub RemarksWithin : List Record → List Remark → Type 0
RemarksWithin records added = All (λ r. r.plain_before ≤ length records) added

-- the remarks of a log before which there are so many plain records
abbrev pub remarks_from : ℕ → List Record → List Remark
remarks_from count [] = []
remarks_from count (item ∷ items) = if is_added item then remark_at count item ∷ remarks_from count items else remarks_from (suc count) items

-- the remarks of a whole log
abbrev pub remarks_of : List Record → List Remark
remarks_of log = remarks_from 0 log
