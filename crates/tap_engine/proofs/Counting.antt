-- How many frames the records of a turn send, and that they may be added.
-- Cited above: few_sent_most, room_left
use Rattle.std.proofs.Common.{◌≡◌, ℕ, ◌+◌, ◌-◌, ◌≤◌, nat_lt, Bool, true, false, not, Result, Ok, Err, List, [], ◌∷◌, ◌++◌, length, Option, None, Some, refl, ap, sym, subst, ◌∙◌, arith, append_assoc, append-nil}
use Rattle.std.specs.List.{cons_option}
use Rattle.std.specs.Prelude.{if◌then◌else◌}
use Rattle.std.proofs.lemmas.Bool.{le-leb, lt-leb, ltb-false, ltb-true}
use Rattle.tap_scenario.specs.declared.step.Step.{Step}
use Rattle.tap_scenario.specs.declared.step.Step.TheVariants.{Publish, Withdraw, Find, Abandon, Cast}
use Rattle.tap_log.specs.declared.record.Record.{Record}
use Rattle.tap_log.specs.declared.record.Record.TheVariants.{Closed, Reached, Sent, Spent, Step as StepRecord, Taken}
use Rattle.tap_log.specs.Counts.{sent_count}
use Rattle.tap_log.specs.Kinds.{sent_number}
use Rattle.tap_log.proofs.MoreRecords.{sent_count-append}
use Rattle.tap_node_common.specs.declared.news.News.{News}
use Rattle.tap_node_common.specs.declared.news.News.TheVariants as seen_news
use Rattle.tap_node.specs.declared.turn.Turn.{Turn}
use Rattle.tap_runs.specs.Acts.{if_so, news_after, news_before}
use Rattle.tap_runs.specs.Course.{MayFollow, system_of}
use Rattle.tap_runs.specs.Starts.{announced}
use Rattle.tap_ledger.specs.Added.{CanAdd, most_ledger_frames}
use Rattle.tap_ledger.proofs.Adding.{can_rest}
use Rattle.tap_log.specs.Log.{last_of}
use Rattle.tap_engine.specs.KeptEngine.{AreReady, room_kept, room_of_record}
use Rattle.tap_engine.specs.Outcome.{adds, adds_within, is_within, spends}
use Rattle.tap_engine.specs.SeenTurns.{bytes_records, seen_after, seen_before, turn_records}
use Rattle.tap_engine.specs.Working.{CanAddTurn, LogsAs}
use Rattle.tap_engine.specs.declared.stop.Stop.{Stop}
use Rattle.tap_engine.specs.declared.stop.Stop.TheVariants.{NoMemory, Spent as StopSpent}
use Rattle.tap_engine.specs.declared.engine.Acted.{Acted}
use Rattle.tap_engine.specs.declared.engine.Engine.{Engine}
use Rattle.tap_engine.proofs.Addable.{group_fits, limit_fits, spent_fits}
use Rattle.tap_engine.proofs.Courses.{sent_within}
use Rattle.tap_engine.proofs.Keeping.{on, seen}
use Rattle.tap_engine.proofs.AddedGroups.{follows_within}

-- ---- the records of a turn

so_sent : (there : Bool) (item : Record) → sent_number item ≡ None → sent_count (if_so there item) ≡ 0
unfolding sent_number
so_sent true item none = ap (λ o. length (cons_option o [])) none
so_sent false item none = refl

before_sent : (name : List ℕ) (news : News) → sent_count (seen_before name news) ≡ 0
unfolding sent_number news_before
before_sent name seen_news.Nothing = refl
before_sent name seen_news.Core = refl
before_sent name seen_news.Gone = refl
before_sent name (seen_news.Answered ticket server) = refl
before_sent name (seen_news.Cast cast reached closed) = so_sent reached (Reached cast name) refl

after_sent : (news : News) → sent_count (seen_after news) ≡ 0
unfolding sent_number news_after
after_sent seen_news.Nothing = refl
after_sent seen_news.Core = refl
after_sent seen_news.Gone = refl
after_sent (seen_news.Answered ticket server) = refl
after_sent (seen_news.Cast cast reached closed) = so_sent closed (Closed cast) refl

bytes_sent : (number : ℕ) (frames : List (List ℕ)) → sent_count (bytes_records number frames) ≡ length frames
unfolding sent_number
bytes_sent number [] = refl
bytes_sent number (bytes ∷ frames) = let rest = bytes_sent (number + 1) frames in omega (arith, rest)

-- one more frame
pub sent_on : (log : List Record) (number : ℕ) (bytes : List ℕ) → sent_count (log ++ Sent number bytes ∷ []) ≡ sent_count log + 1
unfolding sent_number
sent_on log number bytes = sent_count-append log (Sent number bytes ∷ [])

-- the news before the frames of a turn send none
pub sent_as_before : (log : List Record) (name : List ℕ) (news : News) → sent_count (log ++ seen_before name news) ≡ sent_count log
sent_as_before log name news =
    let all = sent_count-append log (seen_before name news) in
    let none = before_sent name news in
    omega (arith, all, none)

-- of a turn without news there are the frames alone
pub frames_alone : (number : ℕ) (name : List ℕ) (turn : Turn) → turn.news ≡ seen_news.Nothing
    → turn_records number name turn ≡ bytes_records number turn.sent
unfolding news_before news_after
frames_alone number name turn nothing =
    ap (λ news. seen_before name news ++ (bytes_records number turn.sent ++ seen_after news)) nothing
    ∙ append-nil (bytes_records number turn.sent)

turn_sent : (number : ℕ) (name : List ℕ) (turn : Turn) → sent_count (turn_records number name turn) ≡ length turn.sent
turn_sent number name turn =
    let first = sent_count-append (seen_before name turn.news) (bytes_records number turn.sent ++ seen_after turn.news) in
    let rest = sent_count-append (bytes_records number turn.sent) (seen_after turn.news) in
    let before = before_sent name turn.news in
    let after = after_sent turn.news in
    let frames = bytes_sent number turn.sent in
    omega (arith, first, rest, before, after, frames)

pub counts_turn : (first : List Record) (number : ℕ) (name : List ℕ) (turn : Turn) → sent_count first ≡ 0
    → sent_count (first ++ turn_records number name turn) ≡ length turn.sent
counts_turn first number name turn none =
    let all = sent_count-append first (turn_records number name turn) in
    let sent = turn_sent number name turn in
    omega (arith, all, sent, none)

announced_sent : (log : List Record) (index : ℕ) (step : Step) → sent_count (StepRecord index step ∷ announced log step) ≡ 0
unfolding sent_number announced
announced_sent log index (Publish object server) = refl
announced_sent log index (Withdraw object server) = refl
announced_sent log index (Find object asker) = refl
announced_sent log index (Abandon name) = refl
announced_sent log index (Cast word prefix asker) = refl
announced_sent log index step = refl

pub started_sent : (log : List Record) (index : ℕ) (step : Step) (first : List Record) → first ≡ StepRecord index step ∷ announced log step
    → sent_count first ≡ 0
started_sent log index step first is = ap sent_count is ∙ announced_sent log index step

pub taken_sent : (number : ℕ) → sent_count (Taken number ∷ []) ≡ 0
unfolding sent_number
taken_sent number = refl

-- ---- what may be added

pub few_sent : (m : Engine) → AreReady m → sent_count m.ledger.records ≤ m.frames
few_sent m ready = let goes = on m ready in sent_within (seen m).beginning m.ledger.records goes.course goes.going

pub few_frames : (m : Engine) → AreReady m → m.frames ≤ most_ledger_frames
few_frames m ready = limit_fits (seen m).beginning (on m ready).course.limits

pub few_sent_most : (m : Engine) → AreReady m → sent_count m.ledger.records ≤ most_ledger_frames
few_sent_most m ready = let sent = few_sent m ready in let few = few_frames m ready in omega (arith, sent, few)

-- a turn after these records, which make a group that may follow
pub can_add_turn : (m n : Engine) (first : List Record) (acted : Acted) → (ready : AreReady m) → n.settings ≡ m.settings
    → n.frames ≡ m.frames → n.ledger.records ≡ m.ledger.records → sent_count first ≡ 0
    → MayFollow m.settings m.ledger.records (system_of m.ledger.records)
    (first ++ turn_records (sent_count m.ledger.records) acted.name acted.turn)
    → CanAddTurn n first acted
can_add_turn m n first acted ready settings frames log none may =
    let goes = on m ready in
    let was = m.ledger.records in
    let group = first ++ turn_records (sent_count was) acted.name acted.turn in
    let counts = counts_turn first (sent_count was) acted.name acted.turn none in
    let all = sent_count-append was group in
    let size = ap sent_count log in
    record {
      group = λ few.
          let within : is_within (seen m).beginning was group ≡ true = le-leb (sent_count (was ++ group)) m.frames
          (omega (arith, few, counts, all, size, frames)) in
          subst (λ l. CanAdd l (first ++ turn_records (sent_count l) acted.name acted.turn)) (sym log)
          (group_fits (seen m).beginning was group goes.course goes.going (follows_within (seen m).beginning was group may within));
      spent = subst (λ l. CanAdd l (Spent n.frames ∷ [])) (sym log) (spent_fits was n.frames (few_sent_most m ready));
      counts = counts_turn first (sent_count n.ledger.records) acted.name acted.turn none;
      few = let fits = few_frames m ready in omega (arith, frames, fits);
    }

-- the whole group may be added, unless too many frames would then have been sent
pub group_may_be_added : (m : Engine) (first : List Record) (acted : Acted) → CanAddTurn m first acted
    → sent_count m.ledger.records ≤ m.frames → nat_lt (m.frames - sent_count m.ledger.records) (length acted.turn.sent) ≡ false
    → CanAdd m.ledger.records (first ++ turn_records (sent_count m.ledger.records) acted.name acted.turn)
group_may_be_added m first acted can few under =
    let less = ltb-false (m.frames - sent_count m.ledger.records) (length acted.turn.sent) under in
    can.group (omega (arith, few, less))

-- what stands before the records of a turn sends no frame
pub sent_before_turn : (m : Engine) (first : List Record) (acted : Acted) → CanAddTurn m first acted
    → sent_count (m.ledger.records ++ first) ≡ sent_count m.ledger.records
sent_before_turn m first acted can =
    let turn = turn_records (sent_count m.ledger.records) acted.name acted.turn in
    let all = sent_count-append first turn in
    let of_turn = turn_sent (sent_count m.ledger.records) acted.name acted.turn in
    let counts = can.counts in
    let both = sent_count-append m.ledger.records first in
    omega (arith, all, of_turn, counts, both)

-- after what stands before them, the records of the turn may be added
pub turn_may_be_added : (m : Engine) (first : List Record) (acted : Acted) → CanAddTurn m first acted
    → sent_count m.ledger.records ≤ m.frames → nat_lt (m.frames - sent_count m.ledger.records) (length acted.turn.sent) ≡ false
    → CanAdd (m.ledger.records ++ first) (turn_records (sent_count (m.ledger.records ++ first)) acted.name acted.turn)
turn_may_be_added m first acted can few under =
    let log = m.ledger.records in
    subst (λ n. CanAdd (log ++ first) (turn_records n acted.name acted.turn)) (sym (sent_before_turn m first acted can))
    (can_rest log first (turn_records (sent_count log) acted.name acted.turn) (group_may_be_added m first acted can few under))

-- and then the log has the whole group
pub turn_added : (m : Engine) (first : List Record) (acted : Acted) → CanAddTurn m first acted → (with_first after : List Record)
    → with_first ≡ m.ledger.records ++ first → after ≡ with_first ++ turn_records (sent_count with_first) acted.name acted.turn
    → after ≡ m.ledger.records ++ (first ++ turn_records (sent_count m.ledger.records) acted.name acted.turn)
turn_added m first acted can with_first after begun turned =
    let log = m.ledger.records in
    turned ∙ ap (λ l. l ++ turn_records (sent_count l) acted.name acted.turn) begun
    ∙ ap (λ n. (log ++ first) ++ turn_records n acted.name acted.turn) (sent_before_turn m first acted can)
    ∙ append_assoc log first (turn_records (sent_count log) acted.name acted.turn)

-- ---- what is then logged

within_is : (m : Engine) (all : List Record) (size : ℕ) (over : Bool) → sent_count all ≡ size → sent_count m.ledger.records ≤ m.frames
    → nat_lt (m.frames - sent_count m.ledger.records) size ≡ over → is_within (seen m).beginning m.ledger.records all ≡ not over
within_is m all size true counts few is =
    let sum = sent_count-append m.ledger.records all in
    let more = ltb-true (m.frames - sent_count m.ledger.records) size is in
    lt-leb (sent_count (m.ledger.records ++ all)) m.frames (omega (arith, sum, more, counts, few))
within_is m all size false counts few is =
    let sum = sent_count-append m.ledger.records all in
    let less = ltb-false (m.frames - sent_count m.ledger.records) size is in
    le-leb (sent_count (m.ledger.records ++ all)) m.frames (omega (arith, sum, less, counts, few))

-- too many frames: the first records, and `Spent`
pub logs_spent : (m after : Engine) (first all : List Record) (size : ℕ) (given : Result (Unit {0}) Stop) → sent_count all ≡ size
    → sent_count m.ledger.records ≤ m.frames → nat_lt (m.frames - sent_count m.ledger.records) size ≡ true → given ≡ Err StopSpent
    → after.ledger.records ≡ m.ledger.records ++ (first ++ Spent m.frames ∷ []) → after ≡ record m { ledger = after.ledger }
    → LogsAs (adds_within (seen m) first all) m given after
logs_spent m after first all size given counts few over answer log same =
    let is : adds_within (seen m) first all ≡ spends (seen m) first =
    ap (λ w. if w then adds (seen m) all else spends (seen m) first) (within_is m all size true counts few over) in
    subst (λ o. LogsAs o m given after) (sym is) (record {
      answer = λ other. answer;
      log = λ other. log;
      room = λ ok. let never : Err StopSpent ≡ Ok tt = sym answer ∙ ok in absurd (cc);
      short = λ none. let never : Err StopSpent ≡ Err NoMemory = sym answer ∙ none in absurd (cc);
      same = same;
    })

-- and else all of them
pub logs_added : (m after : Engine) (first all : List Record) (size : ℕ) → sent_count all ≡ size
    → sent_count m.ledger.records ≤ m.frames → nat_lt (m.frames - sent_count m.ledger.records) size ≡ false
    → after.ledger.records ≡ m.ledger.records ++ all → 3 ≤ after.ledger.spare → after ≡ record m { ledger = after.ledger }
    → LogsAs (adds_within (seen m) first all) m (Ok tt) after
logs_added m after first all size counts few under log three same =
    let is : adds_within (seen m) first all ≡ adds (seen m) all =
    ap (λ w. if w then adds (seen m) all else spends (seen m) first) (within_is m all size false counts few under) in
    subst (λ o. LogsAs o m (Ok tt) after) (sym is) (record {
      answer = λ other. refl;
      log = λ other. log;
      room = λ ok. three;
      short = λ none. let never : ◌≡◌ {A = Result (Unit {0}) Stop} (Ok tt) (Err NoMemory) = none in absurd (cc);
      same = same;
    })

-- ---- room

room_one : (last : Option Record) → 1 ≤ room_kept last
unfolding room_of_record
room_one None = omega arith
room_one (Some (StepRecord index step)) = omega arith
room_one (Some item) = omega arith

-- there is always room for how the log ends
pub room_left : (m : Engine) → AreReady m → 1 ≤ m.ledger.spare
room_left m ready =
    let room = (ready.kept.go_on refl).room ready.unfinished in
    let one = room_one (last_of m.ledger.records) in
    omega (arith, room, one)
