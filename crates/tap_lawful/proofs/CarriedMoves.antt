-- The group that comes next in a carried run is that of a move.
use Rattle.std.proofs.Common.{◌≡◌, ℕ, zero, suc, ◌+◌, ◌<◌, ◌≤◌, Bool, true, false, List, [], ◌∷◌, length, All, Option, None, Some, refl, ap, sym, ◌∙◌}
use Rattle.std.specs.Prelude.{Contains, nat_lt, slice_get}
use Rattle.std.specs.List.{cons_option, range_with_len}
use Rattle.std.proofs.lemmas.Bool.{false≢true, ltb-false}
use Rattle.std.proofs.lemmas.List.FromFn.{length-range_with_len}
use Rattle.tap_name.specs.Settings.{SettingsValue}
use Rattle.tap_scenario.specs.Scenario.{ScenarioValue}
use Rattle.tap_scenario.specs.declared.step.Step.{Step}
use Rattle.tap_scenario.specs.declared.step.Step.TheVariants.{Tick, Lose, Repeat, RootSet}
use Rattle.tap_log.specs.declared.record.Record.{Record}
use Rattle.tap_log.specs.declared.record.Record.TheVariants.{Step as StepRecord, Taken, Arrived, Refused}
use Rattle.tap_log.specs.declared.record.Refusal.{Refusal}
use Rattle.tap_log.specs.declared.record.Refusal.TheVariants.{TooManyPackets}
use Rattle.tap_log.specs.Counts.{resends, resent_count, sent_count}
use Rattle.tap_log.specs.Kinds.{ended_number, sent_number, taken_number}
use Rattle.tap_log.specs.Log.{begun_steps}
use Rattle.tap_log.specs.Reduced.{reduced}
use Rattle.tap_history.specs.Moments.{has_number, outstanding}
use Rattle.tap_history.specs.Refusals.{first_refusal, first_some, is_and, packets_of_step, refusals, refuses_too_many_packets}
use Rattle.tap_packets.specs.Bounds.{IsAllowed, most_resent}
use Rattle.tap_packets.specs.Groups.{AreActed, IsCarrierMove, CarrierMove, arrival_group, arrival_records, group_of}
use Rattle.tap_packets.specs.Groups.CarrierMove.{Acts, Arrives, Loses, Repeats}
use Rattle.tap_packets.proofs.ActedRecords.{acts_fit_holds}
use Rattle.tap_packets.specs.Packets.{PacketLine, frames_sent, lines_under_way, made_packet}
use Rattle.tap_runs.specs.Beginning.{Beginning}
use Rattle.tap_runs.specs.Course.{FollowStep, MayFollow, is_choice, system_of}
use Rattle.tap_runs.proofs.Frames.{exchange, frames_kept}
use Rattle.tap_runs.proofs.Nodes.{cause_fails}
use Rattle.tap_carried.specs.LogTurns.{IsPlainRecord}
use Rattle.tap_carried.specs.ReducedLogs.{AgreesWithReduced}
use Rattle.tap_carried.specs.ReducedRuns.{IsRunOfTurns, ReducesToRun}
use Rattle.tap_carried.proofs.BeginningKept.{log_kept}
use Rattle.tap_carried.proofs.PlainRecords.{step_plain, taken_plain}
use Rattle.tap_carried.proofs.ReducedLogs.{logs_agree}
use Rattle.tap_carried.proofs.ReducedRuns.{runs_reduce}
use Rattle.tap_carried.proofs.TurnsKept.{IsKept}
use Rattle.tap_lawful.specs.CarriedNext.{accepted_group, choice_group, group_unless, losing_group, reduced_step_records, reduced_taken_records, repeating_group}
use Rattle.tap_lawful.specs.Next.{beginning_in}
use Rattle.tap_lawful.specs.RootSets.{roots_record}
use Rattle.tap_lawful.proofs.CarriedChoosing.{contains_at}

-- ---- records of nodes

plain_acted : (log items : List Record) → All IsPlainRecord items
    → frames_sent items ≡ range_with_len (sent_count (reduced log)) (sent_count items) → AreActed log items
plain_acted log items plain sends =
    acts_fit_holds.plain log items (λ k d within. (plain k d within).kept) (λ k d within. (plain k d within).uncarried) sends

none_acted : (log : List Record) → AreActed log []
none_acted log = record { sends = refl; begins = refl; takes = refl; makes = refl; ends = refl }

refused_acted : (log : List Record) (index : ℕ) (refusal : Refusal) → AreActed log (Refused index refusal ∷ [])
unfolding sent_number taken_number made_packet ended_number
refused_acted log index refusal = record { sends = refl; begins = refl; takes = refl; makes = refl; ends = refl }

refused_sends : (index : ℕ) (refusal : Refusal) → frames_sent (Refused index refusal ∷ []) ≡ []
unfolding sent_number
refused_sends index refusal = refl

-- roots that are told send nothing
module _ (p : SettingsValue) (log : List Record) (index : ℕ) (object asker : List ℕ) where
  abbrev roots : List Record
  roots = roots_record p log object asker ∷ []

  roots_acted : AreActed log roots
  unfolding sent_number taken_number made_packet ended_number
  roots_acted = record { sends = refl; begins = refl; takes = refl; makes = refl; ends = refl }

  roots_sends : frames_sent roots ≡ []
  unfolding sent_number
  roots_sends = refl

  roots_are : group_of log (Acts index (RootSet object asker) roots) ≡ StepRecord index (RootSet object asker) ∷ roots
  unfolding sent_number
  roots_are = refl

-- ---- steps

-- what sends packets once more is a choice
choice_resends : (step : Step) → is_choice step ≡ false → resends step ≡ true → (items : List Record) → frames_sent items ≡ []
unfolding is_choice resends
choice_resends Tick acts again items = absurd (false≢true (sym acts))
choice_resends (Repeat place) acts again items = absurd (false≢true (sym acts))
choice_resends step acts again items = absurd (false≢true again)

none_at : (refusals : List (Option Refusal)) (place : ℕ) (refusal : Option Refusal) → first_some refusals ≡ None
    → slice_get refusals place ≡ Some refusal → refusal ≡ None
none_at [] place refusal none at = absurd (cc)
none_at (Some one ∷ refusals) place refusal none at = absurd (cc)
none_at (None ∷ refusals) zero refusal none at = let same : None ≡ refusal = cc in sym same
none_at (None ∷ refusals) (suc place) refusal none at = none_at refusals place refusal none at

-- an accepted step makes no more packets once more than may be made
pub few_resent : (log : List Record) (step : Step) (more : ℕ) → first_refusal log step ≡ None → packets_of_step log step ≡ Some more
    → resent_count log + more ≤ most_resent
unfolding refuses_too_many_packets
few_resent log step more accepted is =
    let made = resent_count log in
    let none : refuses_too_many_packets log step ≡ None = none_at (refusals log step) 14 (refuses_too_many_packets log step) accepted refl in
    let fails = cause_fails (is_and (packets_of_step log step) (λ n. nat_lt most_resent (made + n))) (TooManyPackets made) none in
    ltb-false most_resent (made + more) (sym (ap (λ o. is_and o (λ n. nat_lt most_resent (made + n))) is) ∙ fails)

repeat_makes : (log : List Record) (place : ℕ) → packets_of_step log (Repeat place) ≡ Some 1
unfolding packets_of_step
repeat_makes log place = refl

-- ---- moves

-- the group is that of a move, in a run of so many steps
pub record IsMoveGroup (steps : ℕ) (log group : List Record) : Type 0 where
  pub move : CarrierMove
  pub is : group_of log move ≡ group
  pub moves : IsCarrierMove log move
  pub allowed : IsAllowed steps log move

module _ (s : ScenarioValue) (log : List Record) (run : IsRunOfTurns true (beginning_in s) log) where
  abbrev b : Beginning
  b = beginning_in s

  abbrev before : List Record
  before = reduced log

  abbrev steps : ℕ
  steps = length s.steps

  agrees : AgreesWithReduced log
  agrees = logs_agree.agree true log (runs_reduce.turns true b log run)

  kept : IsKept true log
  kept = log_kept true log (runs_reduce.turns true b log run)

  reduces : ReducesToRun b log
  reduces = runs_reduce.run true b log run

  -- the frames of a group of the reduced log are numbered on
  numbers_on : (group : List Record) → MayFollow s.settings before (system_of before) group
      → frames_sent group ≡ range_with_len (sent_count before) (sent_count group)
  numbers_on group may =
      let frames = frames_kept b before reduces.course reduces.going in
      let does = exchange s.settings before (system_of before) frames.agree frames.system_is group may in
      let size : sent_count group ≡ length does.sent = ap length does.sending ∙ length-range_with_len (system_of before).next (length does.sent) in
      does.sending ∙ ap (λ n. range_with_len n (length does.sent)) frames.agree.next ∙ ap (range_with_len (sent_count before)) (sym size)

  items_on : (first : Record) (items : List Record) → sent_number first ≡ None
      → MayFollow s.settings before (system_of before) (first ∷ items)
      → frames_sent items ≡ range_with_len (sent_count before) (sent_count items)
  items_on first items none may =
      let whole : frames_sent (first ∷ items) ≡ frames_sent items = ap (λ o. cons_option o (frames_sent items)) none in
      sym whole ∙ numbers_on (first ∷ items) may ∙ ap (λ l. range_with_len (sent_count before) (length l)) whole

  -- ---- a packet arrives

  module _ (line : PacketLine) (there : Contains (lines_under_way log) line) where
    abbrev items : List Record
    items = reduced_taken_records s.settings log line.frame

    taken_acted : has_number (outstanding log) line.frame ≡ true → AreActed log items
    unfolding MayFollow sent_number
    taken_acted waits =
        let may : MayFollow s.settings before (system_of before) (Taken line.frame ∷ items) =
        record { waits = ap (λ l. has_number l line.frame) agrees.outstanding ∙ waits; are = refl } in
        plain_acted log items
        (taken_plain s.settings before (system_of before) kept.reduced_begun kept.uncarried line.frame items may)
        (items_on (Taken line.frame) items refl may)

    arrival_same : (ack waits : Bool) → line.ack ≡ ack → has_number (outstanding log) line.frame ≡ waits → (records : List Record)
        → arrival_group log line records ≡ Arrived line.number ∷ arrival_records log line records ack waits
    arrival_same ack waits one two records =
        ap (λ a. Arrived line.number ∷ arrival_records log line records a (has_number (outstanding log) line.frame)) one
        ∙ ap (λ w. Arrived line.number ∷ arrival_records log line records ack w) two

    pub arrival_move : (ack waits : Bool) (group : List Record) → line.ack ≡ ack → has_number (outstanding log) line.frame ≡ waits
        → arrival_group log line items ≡ group → ((records : List Record) → IsAllowed steps log (Arrives line records))
        → IsMoveGroup steps log group
    arrival_move true waits group one two is allowed = record {
      move = Arrives line [];
      is = arrival_same true waits one two [] ∙ sym (arrival_same true waits one two items) ∙ is;
      moves = (there, none_acted log);
      allowed = allowed [];
    }
    arrival_move false true group one two is allowed = record {
      move = Arrives line items;
      is = is;
      moves = (there, taken_acted two);
      allowed = allowed items;
    }
    arrival_move false false group one two is allowed = record {
      move = Arrives line [];
      is = arrival_same false false one two [] ∙ sym (arrival_same false false one two items) ∙ is;
      moves = (there, none_acted log);
      allowed = allowed [];
    }

  -- ---- a step begins

  module _ (index : ℕ) (group : List Record) (left : length (begun_steps log) < steps) where
    alone_move : (step : Step) → StepRecord index step ∷ [] ≡ group → IsMoveGroup steps log group
    alone_move step is = record {
      move = Acts index step [];
      is = is;
      moves = (none_acted log, λ again. refl);
      allowed = left;
    }

    contains_line : (place : ℕ) (line : PacketLine) → slice_get (lines_under_way log) place ≡ Some line → Contains (lines_under_way log) line
    contains_line place line at = contains_at (lines_under_way log) place line at

    losing_move : (place : ℕ) (line : Option PacketLine) → slice_get (lines_under_way log) place ≡ line
        → losing_group index place line ≡ group → IsMoveGroup steps log group
    losing_move place None at is = alone_move (Lose place) is
    losing_move place (Some line) at is = record {
      move = Loses index place line;
      is = is;
      moves = contains_line place line at;
      allowed = left;
    }

    repeating_move : (place : ℕ) (line : Option PacketLine) → slice_get (lines_under_way log) place ≡ line
        → resent_count log + 1 ≤ most_resent → repeating_group log index place line ≡ group → IsMoveGroup steps log group
    repeating_move place None at few is = alone_move (Repeat place) is
    repeating_move place (Some line) at few is = record {
      move = Repeats index place line;
      is = is;
      moves = contains_line place line at;
      allowed = (left, few);
    }

    roots_move : (object asker : List ℕ) → StepRecord index (RootSet object asker) ∷ roots_record s.settings log object asker ∷ [] ≡ group
        → IsMoveGroup steps log group
    roots_move object asker is = record {
      move = Acts index (RootSet object asker) (roots_record s.settings log object asker ∷ []);
      is = roots_are s.settings log index object asker ∙ is;
      moves = (roots_acted s.settings log index object asker, λ again. roots_sends s.settings log index object asker);
      allowed = left;
    }

    choice_move : (step : Step) → first_refusal log step ≡ None → choice_group s.settings log index step ≡ group → IsMoveGroup steps log group
    unfolding choice_group
    choice_move (RootSet object asker) accepted is = roots_move object asker is
    choice_move (Lose place) accepted is = losing_move place (slice_get (lines_under_way log) place) refl is
    choice_move (Repeat place) accepted is =
        repeating_move place (slice_get (lines_under_way log) place) refl
        (few_resent log (Repeat place) 1 accepted (repeat_makes log place)) is
    choice_move step accepted is = alone_move step is

    done_says : (step : Step) (choice : Bool) → choice ≡ false
        → FollowStep choice s.settings before (system_of before) index step (reduced_step_records s.settings log index step)
    done_says step true is = absurd (false≢true (sym is))
    done_says step false is = refl

    acted_move : (step : Step) → is_choice step ≡ false → accepted_group false s.settings log index step ≡ group → IsMoveGroup steps log group
    unfolding MayFollow sent_number
    acted_move step acts is =
        let done = reduced_step_records s.settings log index step in
        let may : MayFollow s.settings before (system_of before) (StepRecord index step ∷ done) = done_says step (is_choice step) acts in
        record {
          move = Acts index step done;
          is = is;
          moves = (
            plain_acted log done (step_plain s.settings before (system_of before) kept.reduced_begun kept.uncarried index step done may)
                (items_on (StepRecord index step) done refl may),
            λ again. choice_resends step acts again done,
          );
          allowed = left;
        }

    accepted_move : (step : Step) (choice : Bool) → is_choice step ≡ choice → first_refusal log step ≡ None
        → accepted_group choice s.settings log index step ≡ group → IsMoveGroup steps log group
    accepted_move step true choice accepted is = choice_move step accepted is
    accepted_move step false choice accepted is = acted_move step choice is

    refused_is : (step : Step) (refusal : Refusal)
        → group_of log (Acts index step (Refused index refusal ∷ [])) ≡ StepRecord index step ∷ Refused index refusal ∷ []
    unfolding sent_number
    refused_is step refusal = refl

    pub begun_move : (step : Step) (refusal : Option Refusal) → first_refusal log step ≡ refusal
        → group_unless s.settings log index step refusal ≡ group → IsMoveGroup steps log group
    begun_move step (Some refusal) refused is = record {
      move = Acts index step (Refused index refusal ∷ []);
      is = refused_is step refusal ∙ is;
      moves = (refused_acted log index refusal, λ again. refused_sends index refusal);
      allowed = left;
    }
    begun_move step None accepted is = accepted_move step (is_choice step) refl accepted is
