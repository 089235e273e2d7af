-- Records that can be printed, and of which there are few beside those of frames: what a node does, and what a step sees.
use Rattle.std.proofs.Common.{◌≡◌, ◌≢◌, ℕ, ◌+◌, ◌/◌, ◌%◌, ◌<◌, ◌≤◌, Bool, true, false, List, [], ◌∷◌, ◌++◌, length, map, All, Option, None, Some, inl, inr, refl, ap, sym, subst, arith, length-append}
use Rattle.std.specs.Prelude.{IsOk, Result, Ok, Err, is_some, unwrap_or, option_and_then}
use Rattle.std.specs.Option.{option_map}
use Rattle.std.specs.List.{enumerate_from, flat_map}
use Rattle.std.proofs.Math.Nat.{mod-lt}
use Rattle.std.proofs.lemmas.Bool.{cases_Bool, false≢true}
use Rattle.std.proofs.lemmas.List.Concat.{flat_map-cons}
use Rattle.std.proofs.lemmas.List.Elements.{All-append, All-cons, All-head, All-map, All-nil, All-tail}
use Rattle.tap_name.specs.Settings.{AreWithinLimits, SettingsValue}
use Rattle.tap_table.specs.Table.{Row, SlotLinks, TableValue, rows, rows_of}
use Rattle.tap_surrogate.specs.Tables.{Tables}
use Rattle.tap_surrogate.specs.Walk.{hop, walk, walk_on}
use Rattle.tap_wire.specs.declared.fault.HeadFault.{HeadFault}
use Rattle.tap_wire.specs.declared.fault.HeadFault.TheVariants as head
use Rattle.tap_wire.specs.declared.fault.WireFault.{WireFault}
use Rattle.tap_wire.specs.declared.fault.WireFault.TheVariants.{BadBody, NoMemory}
use Rattle.tap_wire.specs.declared.frame.Frame.{Frame}
use Rattle.tap_wire.specs.Fault.{fault_of_head}
use Rattle.tap_wire.specs.Fields.{◌>>=◌}
use Rattle.tap_wire.specs.Reading.{frame_of, head_of, in_frame, opening_of}
use Rattle.tap_wire.specs.Spelling.{IsFrame, spelling}
use Rattle.tap_wire.proofs.Frames.{head_reads_back}
use Rattle.tap_scenario.specs.declared.step.Step.{Step}
use Rattle.tap_scenario.specs.declared.step.Step.TheVariants.{Publish, Withdraw, Find, Abandon, Cast}
use Rattle.tap_log.specs.declared.record.LinkLine.{LinkLine}
use Rattle.tap_log.specs.declared.record.NodeWord.{NodeWord}
use Rattle.tap_log.specs.declared.record.Record.{Record}
use Rattle.tap_log.specs.declared.record.Record.TheVariants.{Arrived, Carrier, Lost, Packet, RootOf, RootsOf, TableOf, Ticked, Walked}
use Rattle.tap_log.specs.Counts.{sent_count}
use Rattle.tap_log.specs.Kinds.{sent_number}
use Rattle.tap_log.specs.MoreRecords.{at_most_one}
use Rattle.tap_log.specs.Reduced.{is_added}
use Rattle.tap_report.specs.Text.{IsBegin, IsPrintable}
use Rattle.tap_rule.specs.Node.{NodeState, settings_of}
use Rattle.tap_rule.specs.Event.{Acted, Event, News}
use Rattle.tap_rule.specs.Event.News.{Nothing, Core as CoreNews, Gone as GoneNews, Answered as AnsweredNews, Cast as CastNews}
use Rattle.tap_rule.specs.Act.{act}
use Rattle.tap_runs.specs.Acts.{acted_records, if_so, news_after, news_before, sent_records}
use Rattle.tap_runs.specs.Damage.{copied_number, damage_record, fault_in, fault_of_copy, garbled}
use Rattle.tap_runs.specs.Group.{records_of_act}
use Rattle.tap_runs.specs.Observed.{link_line, pointers_record, table_record, word_of_status}
use Rattle.tap_runs.specs.Starts.{announced}
use Rattle.tap_history.specs.Refusals.{damaged}
use Rattle.tap_lawful.proofs.Played.{sent_count-append}

-- ---- records one after another

-- a record that can be printed after a beginning with these settings, and that is none itself
abbrev pub CanPrint : SettingsValue → Record → Type 0
CanPrint p item = IsPrintable (Some p) item × (IsBegin item → ⊥)

-- what the reduced log leaves out can be printed
pub added_prints : (p : SettingsValue) (item : Record) → is_added item ≡ true → CanPrint p item
unfolding is_added
added_prints p Carrier is = (tt, λ h. cc)
added_prints p (Packet number frame ack) is = (tt, λ h. cc)
added_prints p (Arrived packet) is = (tt, λ h. cc)
added_prints p Ticked is = (tt, λ h. cc)
added_prints p (Lost packet) is = (tt, λ h. cc)
added_prints p (RootsOf object asker roots) is = (tt, λ h. cc)
added_prints p item is = absurd (false≢true is)

-- each of the records can be printed, and beside those of frames there are at most so many
pub record AreTold (p : SettingsValue) (most : ℕ) (items : List Record) : Type 0 where
  pub print : All (CanPrint p) items
  pub few : length items ≤ most + sent_count items

module _ (p : SettingsValue) where
  pub none_told : AreTold p 0 []
  none_told = record { print = All-nil (CanPrint p); few = omega arith }

  pub one_told : (item : Record) → CanPrint p item → AreTold p 1 (item ∷ [])
  one_told item can = record { print = All-cons (CanPrint p) item [] can (All-nil (CanPrint p)); few = omega arith }

  pub more_told : (most more : ℕ) (items : List Record) → most ≤ more → AreTold p most items → AreTold p more items
  more_told most more items le told = let few = told.few in record { print = told.print; few = omega (arith, few, le) }

  pub both_told : (most more : ℕ) (items others : List Record) → AreTold p most items → AreTold p more others
      → AreTold p (most + more) (items ++ others)
  both_told most more items others first second =
      let one = first.few in
      let two = second.few in
      let size = length-append items others in
      let sent = sent_count-append items others in
      record { print = All-append (CanPrint p) items others first.print second.print; few = omega (arith, one, two, size, sent) }

  pub same_told : (most : ℕ) (items others : List Record) → others ≡ items → AreTold p most items → AreTold p most others
  same_told most items others same told = subst (AreTold p most) (sym same) told

-- ---- what a node does

module _ (p : SettingsValue) (limits : AreWithinLimits p) where
  head_is_read : (frame : Frame) → IsFrame p frame → IsOk (head_of p (spelling p frame))
  head_is_read frame is = subst IsOk (sym (head_reads_back p frame limits is)) refl

  sent_told : (number : ℕ) (frames : List Frame) → All (IsFrame p) frames → AreTold p 0 (sent_records p number frames)
  unfolding sent_number
  sent_told number [] spelled = none_told p
  sent_told number (frame ∷ frames) spelled =
      let rest = sent_told (number + 1) frames (All-tail (IsFrame p) frame frames spelled) in
      let few = rest.few in
      record {
        print = All-cons (CanPrint p) _ (sent_records p (number + 1) frames)
            (head_is_read frame (All-head (IsFrame p) frame frames spelled), λ h. cc) rest.print;
        few = omega (arith, few);
      }

  so_told : (there : Bool) (item : Record) → CanPrint p item → AreTold p 1 (if_so there item)
  so_told true item can = one_told p item can
  so_told false item can = more_told p 0 1 [] (omega arith) (none_told p)

  before_told : (name : List ℕ) (news : News) → AreTold p 1 (news_before name news)
  unfolding news_before
  before_told name Nothing = more_told p 0 1 [] (omega arith) (none_told p)
  before_told name CoreNews = one_told p _ (tt, λ h. cc)
  before_told name GoneNews = one_told p _ (tt, λ h. cc)
  before_told name (AnsweredNews ticket server) = more_told p 0 1 [] (omega arith) (none_told p)
  before_told name (CastNews cast reached closed) = so_told reached _ (tt, λ h. cc)

  after_told : (news : News) → AreTold p 1 (news_after news)
  unfolding news_after
  after_told Nothing = more_told p 0 1 [] (omega arith) (none_told p)
  after_told CoreNews = more_told p 0 1 [] (omega arith) (none_told p)
  after_told GoneNews = more_told p 0 1 [] (omega arith) (none_told p)
  after_told (AnsweredNews ticket server) = one_told p _ (tt, λ h. cc)
  after_told (CastNews cast reached closed) = so_told closed _ (tt, λ h. cc)

  acted_told : (number : ℕ) (name : List ℕ) (acted : Acted) → All (IsFrame p) acted.sent → AreTold p 2 (acted_records p number name acted)
  acted_told number name acted spelled =
      both_told p 1 1 (news_before name acted.news) (sent_records p number acted.sent ++ news_after acted.news)
      (before_told name acted.news)
      (both_told p 0 1 (sent_records p number acted.sent) (news_after acted.news) (sent_told number acted.sent spelled)
      (after_told acted.news))

  -- what the node there does at an event
  pub act_told : (before : List Record) (name : List ℕ) (node : Option NodeState) (event : Event)
      → ((n : NodeState) → node ≡ Some n → All (IsFrame p) (act n event).sent) → AreTold p 2 (records_of_act p before name node event)
  act_told before name None event spelled = more_told p 0 2 [] (omega arith) (none_told p)
  act_told before name (Some node) event spelled = acted_told (sent_count before) name (act node event) (spelled node refl)

  -- what is said of a start first
  pub announced_told : (before : List Record) (step : Step) → AreTold p 1 (announced before step)
  unfolding announced
  announced_told before (Publish object server) = one_told p _ (tt, λ h. cc)
  announced_told before (Withdraw object server) = one_told p _ (tt, λ h. cc)
  announced_told before (Find object asker) = one_told p _ (tt, λ h. cc)
  announced_told before (Abandon name) = one_told p _ (tt, λ h. cc)
  announced_told before (Cast word prefix asker) = one_told p _ (tt, λ h. cc)
  announced_told before step = more_told p 0 1 [] (omega arith) (none_told p)

-- ---- what a step sees

-- a walk goes through some node
walk_on-some : (base : ℕ) (tables : Tables) (node : List ℕ) (level : ℕ) (object : List ℕ) → 0 < length (walk_on base tables node level object)
walk_on-some base tables node level [] = omega arith
walk_on-some base tables node level (wanted ∷ more) =
    let to = hop base tables node level wanted in
    let rest = walk_on-some base tables (unwrap_or to node) (level + 1) more in
    elim (cases_Bool (is_some to)) [
      | inl hops ↦ rw hops (omega arith)
      | inr stays ↦ rw stays rest
    ]

-- the digits of the slots of a table are below the base
rows_below : (base : ℕ) (numbered : List (ℕ × SlotLinks)) → 0 < base → All (λ row. row.slot.digit < base) (flat_map (rows_of base) numbered)
rows_below base [] some = All-nil (λ row. row.slot.digit < base)
rows_below base (links ∷ numbered) some =
    let Below : Row → Type 0 = λ row. row.slot.digit < base in
    rw (flat_map-cons (rows_of base) links numbered) (
    All-append Below (rows_of base links) (flat_map (rows_of base) numbered)
    (All-map Below (λ e. record { slot = record { level = links.0 / base; digit = links.0 % base }; entry = e }) links.1
    (λ i e within. mod-lt links.0 some))
    (rows_below base numbered some))

lines_below : (table : TableValue) → 0 < table.settings.base → All (λ line. line.slot.digit < table.settings.base) (map link_line (rows table))
lines_below table some =
    All-map (λ line. line.slot.digit < table.settings.base) link_line (rows table)
    (rows_below table.settings.base (enumerate_from 0 table.slots) some)

-- want of memory is no reason why bytes are no frame
head_never : (fault : HeadFault) → fault_of_head fault ≢ NoMemory
head_never (head.Short missing) = λ is. cc
head_never (head.BadVersion version) = λ is. cc
head_never (head.BadKind kind) = λ is. cc
head_never (head.BadLength len) = λ is. cc
head_never (head.BadCount count) = λ is. cc
head_never (head.Trailing more) = λ is. cc
head_never (head.BadDigit at) = λ is. cc

-- the fault of a result, if it is one, isn't want of memory
abbrev pub HasNoWant : {X : Type 0} → Result X WireFault → Type 0
HasNoWant r = (fault : WireFault) → r ≡ Err fault → fault ≢ NoMemory

want_then : {X Y : Type 0} (r : Result X WireFault) (next : X → Result Y WireFault) → HasNoWant r → ((x : X) → HasNoWant (next x))
    → HasNoWant (r >>= next)
want_then (Ok x) next first others = others x
want_then (Err e) next first others = λ fault is. let same : e ≡ fault = cc in subst (λ f. f ≢ NoMemory) same (first e refl)

want_in : {X E : Type 0} (of : E → WireFault) (r : Result X E) → ((e : E) → of e ≢ NoMemory) → HasNoWant (in_frame of r)
want_in of (Ok x) never = λ fault is. absurd (cc)
want_in of (Err e) never = λ fault is. let same : of e ≡ fault = cc in subst (λ f. f ≢ NoMemory) same (never e)

ok_never : {X : Type 0} (x : X) → HasNoWant (Ok x)
ok_never x = λ fault is. absurd (cc)

body_never : (at : ℕ) → BadBody at ≢ NoMemory
body_never at = λ is. cc

pub no_want : (p : SettingsValue) (bytes : List ℕ) → HasNoWant (frame_of p bytes)
no_want p bytes =
    want_then _ _ (want_in fault_of_head (opening_of p bytes) head_never)
    (λ opening. want_then _ _ (want_in _ _ (λ b. body_never _)) (λ b. ok_never _))

fault_never : (p : SettingsValue) (bytes : List ℕ) (fault : WireFault) → fault_in (frame_of p bytes) ≡ Some fault → fault ≢ NoMemory
fault_never p bytes fault is = by_reading (frame_of p bytes) (no_want p bytes) is
  where
    by_reading : (r : Result Frame WireFault) → HasNoWant r → fault_in r ≡ Some fault → fault ≢ NoMemory
    by_reading (Ok frame) never is = absurd (cc)
    by_reading (Err e) never is = let same : e ≡ fault = cc in never fault (ap (λ f. Err f) same)

copy_never : (p : SettingsValue) (copy : Option (List ℕ)) (fault : WireFault)
    → option_and_then (λ bytes. fault_in (frame_of p bytes)) copy ≡ Some fault → fault ≢ NoMemory
copy_never p None fault is = absurd (cc)
copy_never p (Some bytes) fault is = fault_never p bytes fault is

module _ (p : SettingsValue) where
  pub walked_told : (object from : List ℕ) (tables : Tables) → AreTold p 1 (Walked object (walk p.base tables from object) ∷ [])
  walked_told object from tables = one_told p _ (walk_on-some p.base tables from 0 object, λ h. cc)

  pub root_told : (object : List ℕ) (name : Option (List ℕ)) → AreTold p 1 (at_most_one (option_map (RootOf object) name))
  root_told object None = more_told p 0 1 [] (omega arith) (none_told p)
  root_told object (Some name) = one_told p _ (tt, λ h. cc)

  pub pointers_told : (name : List ℕ) (node : Option NodeState) → AreTold p 1 (at_most_one (option_map (pointers_record name) node))
  pointers_told name None = more_told p 0 1 [] (omega arith) (none_told p)
  pointers_told name (Some node) = one_told p _ (tt, λ h. cc)

  worded_told : (name : List ℕ) (links : List LinkLine) (word : Option NodeWord) → All (λ link. link.slot.digit < p.base) links
      → AreTold p 1 (at_most_one (option_map (λ w. TableOf name w links) word))
  worded_told name links None below = more_told p 0 1 [] (omega arith) (none_told p)
  worded_told name links (Some word) below = one_told p _ (below, λ h. cc)

  pub table_told : (name : List ℕ) (node : Option NodeState) → 0 < p.base → ((n : NodeState) → node ≡ Some n → settings_of n ≡ p)
      → AreTold p 1 (at_most_one (option_and_then (table_record name) node))
  table_told name None some own = more_told p 0 1 [] (omega arith) (none_told p)
  table_told name (Some node) some own =
      let same = own node refl in
      let table = node.ties.table in
      let below : All (λ line. line.slot.digit < table.settings.base) (map link_line (rows table)) =
      lines_below table (subst (λ q. 0 < q.base) (sym same) some) in
      worded_told name (map link_line (rows table)) (word_of_status node.status)
      (subst (λ (q : SettingsValue). All (λ (line : LinkLine). line.slot.digit < q.base) (map link_line (rows table))) same below)

  garbled_told : (number : Option ℕ) (fault : Option WireFault) → ((f : WireFault) → fault ≡ Some f → f ≢ NoMemory)
      → AreTold p 1 (at_most_one (garbled number fault))
  garbled_told None fault never = more_told p 0 1 [] (omega arith) (none_told p)
  garbled_told (Some number) None never = more_told p 0 1 [] (omega arith) (none_told p)
  garbled_told (Some number) (Some fault) never = one_told p _ (never fault refl, λ h. cc)

  pub damage_told : (before : List Record) (step : Step) → AreTold p 1 (at_most_one (damage_record p before step))
  damage_told before step =
      garbled_told (copied_number before step) (fault_of_copy p before step) (λ f is. copy_never p (damaged before step) f is)
