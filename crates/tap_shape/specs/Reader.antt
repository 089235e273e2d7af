-- What a reader of a log's text keeps, and which lines it takes.
use Rattle.std.specs.Prelude.{◌==◌, ℕ, ◌+◌, ◌-◌, nat_le, Bool, ◌&&◌, if◌then◌else◌, List, [], ◌∷◌, ◌++◌, length, Option, None, Some, option_map, option_and_then}
use Rattle.tap_name.specs.Names.{has_name}
use Rattle.tap_name.specs.Settings.{SettingsValue}
use Rattle.tap_scenario.specs.Scenario.{most_frames, most_members, most_steps}
use Rattle.tap_log.specs.declared.record.LinkLine.{LinkLine}
use Rattle.tap_log.specs.declared.record.Pair.{Pair}
use Rattle.tap_log.specs.declared.record.Record.{Record}
use Rattle.tap_log.specs.declared.record.Record.TheVariants as item
use Rattle.tap_log.specs.Kinds.{is_carried}
use Rattle.tap_line.specs.declared.line.Beginning.{Beginning}
use Rattle.tap_line.specs.declared.line.Line.{Line}
use Rattle.tap_line.specs.declared.line.Line.TheVariants as line
use Rattle.tap_line.specs.Reading.{begin_of_text, line_of_text}
use Rattle.tap_shape.specs.declared.reader.Open.{Open}
use Rattle.tap_shape.specs.declared.reader.Open.TheVariants.{Members, Ready, Links, Pairs, Over}
use Rattle.tap_shape.specs.declared.reader.Begun.{Begun}

-- a log that is read: it hasn't begun, or it has
pub data Reader : Type 0 where
  Start : List Record → Reader
  HasBegun : Begun → Reader

-- what there is if it was taken
abbrev pub if_taken : {A : Type 0} → Bool → A → Option A
if_taken taken next = if taken then Some next else None

-- ---- where a log may end

-- the records with the beginning, if there are members
abbrev pub with_beginning : SettingsValue → List Record → ℕ → List (List ℕ) → Option (List Record)
with_beginning p records frames members = if length members == 0 then None else Some (records ++ item.Begin p frames members ∷ [])

-- the records with one more, if none of its lines is left
abbrev pub with_counted : List Record → Record → ℕ → Option (List Record)
with_counted records entry left = if left == 0 then Some (records ++ entry ∷ []) else None

-- the records, if what is open may end here
abbrev pub closed_with : SettingsValue → List Record → Open → Option (List Record)
closed_with p records (Members frames members) = with_beginning p records frames members
closed_with p records Ready = Some records
closed_with p records (Links name status links left) = with_counted records (item.TableOf name status links) left
closed_with p records (Pairs name pairs left) = with_counted records (item.PointersOf name pairs) left
closed_with p records Over = None

abbrev pub closed : Begun → Option (List Record)
closed r = closed_with r.settings r.records r.pending

-- the log, if it may end here
abbrev pub finished_with : SettingsValue → List Record → Open → Option (List Record)
finished_with p records Over = Some records
finished_with p records pending = closed_with p records pending

abbrev pub finished : Begun → Option (List Record)
finished r = finished_with r.settings r.records r.pending

-- the log, if nothing is left of its text and it may end here
abbrev pub ended : Reader → List ℕ → Option (List Record)
ended (Start records) rest = None
ended (HasBegun r) rest = if length rest == 0 then finished r else None

-- ---- lines

-- with one record more, and this open
abbrev pub after : Begun → ℕ → Open → List Record → Begun
after r steps pending records = record { settings = r.settings; records = records; steps = steps; pending = pending }

-- whether a run with these settings may send so many frames
abbrev pub may_send : SettingsValue → ℕ → Bool
may_send p frames = nat_le 1 frames && nat_le frames (most_frames p.digits)

-- the reader after the first line
abbrev pub begun : List Record → Beginning → Option Begun
begun records first =
    if may_send first.settings first.frames
    then Some (record { settings = first.settings; records = records; steps = 0; pending = Members first.frames [] })
    else None

-- one more member
abbrev pub member_with : Begun → List ℕ → Open → Option Begun
member_with r name (Members frames members) =
    if nat_le most_members (length members) then None
    else if has_name members name then None
    else Some (after r r.steps (Members frames (members ++ name ∷ [])) r.records)
member_with r name pending = None

abbrev pub with_member : Begun → List ℕ → Option Begun
with_member r name = member_with r name r.pending

-- one more link
abbrev pub link_with : Begun → LinkLine → Open → Option Begun
link_with r link (Links name status links left) =
    if left == 0 then None else Some (after r r.steps (Links name status (links ++ link ∷ []) (left - 1)) r.records)
link_with r link pending = None

abbrev pub with_link : Begun → LinkLine → Option Begun
with_link r link = link_with r link r.pending

-- one more pair
abbrev pub pair_with : Begun → Pair → Open → Option Begun
pair_with r pair (Pairs name pairs left) =
    if left == 0 then None else Some (after r r.steps (Pairs name (pairs ++ pair ∷ []) (left - 1)) r.records)
pair_with r pair pending = None

abbrev pub with_pair : Begun → Pair → Option Begun
with_pair r pair = pair_with r pair r.pending

-- how many steps there are with one more, if there may be so many
abbrev pub one_step_more : ℕ → Option ℕ
one_step_more steps = if nat_le most_steps steps then None else Some (steps + 1)

-- how many steps there are with one record more, if there may be so many
unfoldable pub steps_with : ℕ → Record → Option ℕ
steps_with steps (item.Step index step) = one_step_more steps
steps_with steps entry = Some steps

-- a record of one line
abbrev pub with_whole : Begun → Record → Option Begun
with_whole r entry =
    option_and_then (λ steps. option_map (λ records. after r steps Ready (records ++ entry ∷ [])) (closed r)) (steps_with r.steps entry)

-- what is open ends, and this begins
abbrev pub with_open : Begun → Open → Option Begun
with_open r pending = option_map (after r r.steps pending) (closed r)

-- the reader after a line, if it takes it
abbrev pub line_taken : Begun → Line → Option Begun
line_taken r (line.Whole entry) = with_whole r entry
line_taken r (line.Begin first) = None
line_taken r (line.Member name) = with_member r name
line_taken r (line.Table name status left) = with_open r (Links name status [] left)
line_taken r (line.Link link) = with_link r link
line_taken r (line.Pointers name left) = with_open r (Pairs name [] left)
line_taken r (line.Pointer pair) = with_pair r pair
line_taken r line.End = with_open r Over

-- ---- texts

-- the first line of a log that a text is
unfoldable pub first_line : List ℕ → Option Beginning
first_line text = begin_of_text text

-- the line that a text is, of the log that is read
unfoldable pub line_at : Begun → List ℕ → Option Line
line_at r text = line_of_text r.settings (is_carried r.records) text

-- the reader after the line that a text is, if it takes it
abbrev pub text_taken : Reader → List ℕ → Option Reader
text_taken (Start records) text = option_map HasBegun (option_and_then (begun records) (first_line text))
text_taken (HasBegun r) text = option_map HasBegun (option_and_then (line_taken r) (line_at r text))
