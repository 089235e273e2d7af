-- The group that comes next in a carried run is a turn that may follow.
-- Cited above: added_of, IsRootSetTurn, IsTurnGroup, next_is_step, root_set_salted, TellsNoRoots, turn_of_group
use Rattle.std.proofs.Common.{◌≡◌, ◌⊎◌, inl, inr, ℕ, suc, ◌+◌, ◌≤◌, Bool, true, false, List, [], ◌∷◌, ◌++◌, length, map, All, Option, None, Some, refl, ap, sym, subst, ◌∙◌, arith, length-append}
use Rattle.std.specs.Prelude.{◌&&◌, ◌==◌, slice_get}
use Rattle.std.specs.List.{filter_map}
use Rattle.std.proofs.lemmas.Bool.{false≢true}
use Rattle.std.proofs.lemmas.List.Elements.{All-append, All-cons, All-get_or, All-nil}
use Rattle.std.proofs.lemmas.Option.{get_or_from_slice_get, slice_get_within}
use Rattle.tap_name.specs.Settings.{SettingsValue}
use Rattle.tap_salt.specs.Salt.{is_salted}
use Rattle.tap_scenario.specs.Scenario.{ScenarioValue}
use Rattle.tap_scenario.specs.Step.{IsStep}
use Rattle.tap_scenario.specs.declared.step.Step.{Step}
use Rattle.tap_scenario.specs.declared.step.Step.TheVariants.{Deliver, Settle, SettleNewest, SettleMixed, Garble, Cut, Tick, Lose, Repeat, RootSet}
use Rattle.tap_log.specs.declared.record.Record.{Record}
use Rattle.tap_log.specs.declared.record.Record.TheVariants.{Step as StepRecord, Taken, Arrived, Lost, Refused, RootsOf}
use Rattle.tap_log.specs.declared.record.Refusal.{Refusal}
use Rattle.tap_log.specs.Counts.{packet_count, sent_count}
use Rattle.tap_log.specs.Kinds.{packet_number, sent_number}
use Rattle.tap_log.specs.Reduced.{reduced}
use Rattle.tap_log.proofs.MoreRecords.{packet_count-append}
use Rattle.tap_history.specs.Moments.{awaiting, has_number, outstanding}
use Rattle.tap_history.specs.Refusals.{first_refusal}
use Rattle.tap_packets.specs.Groups.{ack_line, arrival_records, data_lines, data_packets}
use Rattle.tap_packets.specs.Packets.{PacketLine, lines_under_way, packet_record}
use Rattle.tap_runs.specs.Beginning.{Beginning}
use Rattle.tap_runs.specs.Course.{FollowStep, Follows, MayFollow, is_choice, system_of}
use Rattle.tap_runs.specs.Group.{records_unless}
use Rattle.tap_runs.proofs.StepNames.{step_of_scenario_has_names}
use Rattle.tap_carried.specs.CarrierTurns.{packets_sent}
use Rattle.tap_carried.specs.LogTurns.{IsAddedRecord, Turn, group_of_turn}
use Rattle.tap_carried.specs.LogTurns.Turn.{Arrives, Steps, Takes, Ticks}
use Rattle.tap_carried.specs.ReducedLogs.{AgreesWithReduced, starts_or_observes}
use Rattle.tap_carried.specs.ReducedRuns.{IsRunOfTurns, TurnFollows}
use Rattle.tap_carried.proofs.CarrierTurns.{carrier_turns_follow}
use Rattle.tap_carried.proofs.ReducedLogs.{logs_agree}
use Rattle.tap_carried.proofs.ReducedRuns.{runs_reduce}
use Rattle.tap_lawful.specs.CarriedNext.{accepted_group, choice_group, group_unless, losing_group, reduced_step_records, reduced_taken_records, repeating_group}
use Rattle.tap_lawful.specs.CarriedRuns.{CarriedComesNext}
use Rattle.tap_lawful.specs.Next.{beginning_in, begun_count}
use Rattle.tap_lawful.specs.RootSets.{roots_record}
use Rattle.tap_lawful.proofs.CarriedComing.{carried_coming}
use Rattle.tap_lawful.proofs.Played.{sent_count-append, sent_no_fewer}

-- ---- steps of a carried scenario

-- no copies are damaged: what is no choice starts or observes something
no_damage : (p : SettingsValue) (step : Step) → IsStep p true step → is_choice step ≡ false → starts_or_observes step ≡ true
unfolding is_choice starts_or_observes
no_damage p (Garble place at byte) is choice = absurd (false≢true (sym is.0))
no_damage p (Cut place bytes) is choice = absurd (false≢true (sym is.0))
no_damage p (Deliver place) is choice = absurd (false≢true (sym choice))
no_damage p Settle is choice = absurd (false≢true (sym choice))
no_damage p SettleNewest is choice = absurd (false≢true (sym choice))
no_damage p (SettleMixed seed) is choice = absurd (false≢true (sym choice))
no_damage p Tick is choice = absurd (false≢true (sym choice))
no_damage p (Lose place) is choice = absurd (false≢true (sym choice))
no_damage p (Repeat place) is choice = absurd (false≢true (sym choice))
no_damage p (RootSet object asker) is choice = absurd (false≢true (sym choice))
no_damage p step is choice = refl

-- the step that is begun next is one of the scenario's
pub next_is_step : (P : Step → Type 0) (steps : List Step) (n : ℕ) (step : Step) → All P steps → slice_get steps n ≡ Some step → P step
next_is_step P steps n step all at =
    subst P (get_or_from_slice_get steps n step step at) (All-get_or P steps n step (slice_get_within steps n step at) all)

-- ---- turns

-- what is added to the group of a turn
abbrev pub added_of : Turn → List Record
added_of (Steps index step items added) = added
added_of (Takes packet frame items added) = added
added_of (Arrives packet added) = added
added_of (Ticks added) = added

-- the record tells no roots
unfoldable pub TellsNoRoots : Record → Type 0
TellsNoRoots (RootsOf object asker found) = ⊥
TellsNoRoots other = Unit {0}

-- the turn is a root set that isn't refused, and tells its roots
pub record IsRootSetTurn (p : SettingsValue) (log : List Record) (turn : Turn) : Type 0 where
  pub index : ℕ
  pub object : List ℕ
  pub asker : List ℕ
  pub is : turn ≡ Steps index (RootSet object asker) [] (roots_record p log object asker ∷ [])
  pub accepted : first_refusal log (RootSet object asker) ≡ None
  pub salted : is_salted p ≡ true

-- a root set is a step of scenarios whose names are as long as a digest
pub root_set_salted : (p : SettingsValue) (carrier : Bool) (object asker : List ℕ) → IsStep p carrier (RootSet object asker)
    → is_salted p ≡ true
root_set_salted p carrier object asker is = ap (λ n. (n == 16) && (p.digits == 40)) is.0 ∙ ap (λ n. n == 40) is.1

-- the group is that of a turn which may follow, and what is added are packets, but for one record; only a root set tells roots
pub record IsTurnGroup (c : Bool) (b : Beginning) (log group : List Record) : Type 0 where
  pub turn : Turn
  pub is : group_of_turn c turn ≡ group
  pub follows : TurnFollows c b log turn
  pub few : length (added_of turn) ≤ 1 + packet_count (added_of turn)
  pub tells : All TellsNoRoots (added_of turn) ⊎ IsRootSetTurn b.settings log turn

-- a packet tells no roots
packet_tells : (line : PacketLine) → TellsNoRoots (packet_record line)
unfolding TellsNoRoots
packet_tells line = tt

lines_tell : (lines : List PacketLine) → All TellsNoRoots (map packet_record lines)
lines_tell [] = All-nil TellsNoRoots
lines_tell (line ∷ lines) = All-cons TellsNoRoots (packet_record line) (map packet_record lines) (packet_tells line) (lines_tell lines)

packets_tell : (log : List Record) (frames : List ℕ) → All TellsNoRoots (data_packets log frames)
packets_tell log frames = lines_tell (data_lines (packet_count log) frames)

one_tells : (line : PacketLine) → All TellsNoRoots (packet_record line ∷ [])
one_tells line = lines_tell (line ∷ [])

lost_tells : (number : ℕ) → All TellsNoRoots (Lost number ∷ [])
unfolding TellsNoRoots
lost_tells number = All-cons TellsNoRoots (Lost number) [] tt (All-nil TellsNoRoots)

-- each data packet is counted
lines_counted : (lines : List PacketLine) → packet_count (map packet_record lines) ≡ length (map packet_record lines)
unfolding packet_number
lines_counted [] = refl
lines_counted (line ∷ lines) = ap suc (lines_counted lines)

packets_counted : (log : List Record) (frames : List ℕ) → length (data_packets log frames) ≤ 1 + packet_count (data_packets log frames)
packets_counted log frames = let same = lines_counted (data_lines (packet_count log) frames) in omega (arith, same)

with_ack_counted : (log : List Record) (frames : List ℕ) (ack : PacketLine)
    → length (data_packets log frames ++ packet_record ack ∷ []) ≤ 1 + packet_count (data_packets log frames ++ packet_record ack ∷ [])
with_ack_counted log frames ack =
    let same = lines_counted (data_lines (packet_count log) frames) in
    let size = length-append (data_packets log frames) (packet_record ack ∷ []) in
    let count = packet_count-append (data_packets log frames) (packet_record ack ∷ []) in
    omega (arith, same, size, count)

-- if so many frames may be sent in all
module _ (s : ScenarioValue) (log : List Record) (run : IsRunOfTurns true (beginning_in s) log) (most : ℕ) where
  abbrev b : Beginning
  b = record { settings = s.settings; frames = most; members = s.members }

  abbrev before : List Record
  before = reduced log

  agrees : AgreesWithReduced log
  agrees = logs_agree.agree true log (runs_reduce.turns true (beginning_in s) log run)

  -- what becomes of a group sends no more
  fits : (first items added group : List Record) → first ++ (items ++ added) ≡ group → sent_count (log ++ group) ≤ most
      → sent_count (before ++ items) ≤ most
  fits first items added group is within =
      let here = sent_count-append before items in
      let whole = sent_count-append log group in
      let same = agrees.sent in
      let parts = ap sent_count (sym is) ∙ sent_count-append first (items ++ added) in
      let fewer = sent_no_fewer items added in
      omega (arith, here, whole, same, parts, fewer, within)

  -- ---- a packet arrives

  module _ (line : PacketLine) where
    abbrev items : List Record
    items = reduced_taken_records s.settings log line.frame

    taken_follows : has_number (outstanding log) line.frame ≡ true → sent_count (before ++ Taken line.frame ∷ items) ≤ most
        → Follows b before (Taken line.frame ∷ items)
    unfolding MayFollow
    taken_follows waits within = record {
      may = record { waits = ap (λ l. has_number l line.frame) agrees.outstanding ∙ waits; are = refl };
      within = within;
    }

    arrival_turn : (ack waits : Bool) (group : List Record) → has_number (outstanding log) line.frame ≡ waits
        → Arrived line.number ∷ arrival_records log line items ack waits ≡ group → sent_count (log ++ group) ≤ most
        → IsTurnGroup true b log group
    arrival_turn true waits group are is within = record {
      turn = Arrives line.number [];
      is = is;
      follows = carrier_turns_follow.acknowledged b log line.number;
      few = omega arith;
      tells = inl (All-nil TellsNoRoots);
    }
    arrival_turn false true group are is within =
        let ack = ack_line (packet_count log + sent_count items) line.frame in
        let added = packets_sent log items ++ packet_record ack ∷ [] in
        record {
          turn = Takes line.number line.frame items added;
          is = is;
          follows = carrier_turns_follow.taken b log line.number line.frame items ack
              (taken_follows are (fits (Arrived line.number ∷ []) (Taken line.frame ∷ items) added group is within));
          few = with_ack_counted log (filter_map sent_number items) ack;
          tells = inl (All-append TellsNoRoots (packets_sent log items) (packet_record ack ∷ []) (packets_tell log (filter_map sent_number items))
              (one_tells ack));
        }
    arrival_turn false false group are is within =
        let ack = ack_line (packet_count log) line.frame in
        record {
          turn = Arrives line.number (packet_record ack ∷ []);
          is = is;
          follows = carrier_turns_follow.again b log line.number ack;
          few = omega arith;
          tells = inl (one_tells ack);
        }

  -- ---- a step begins

  module _ (index : ℕ) (step : Step) (valid : IsStep s.settings true step) (group : List Record)
      (within : sent_count (log ++ group) ≤ most) where
    abbrev done : List Record
    done = reduced_step_records s.settings log index step

    abbrev Says : List Record → Type 0
    Says items = FollowStep (is_choice step) s.settings before (system_of before) index step items

    step_follows : (items added : List Record) → StepRecord index step ∷ (items ++ added) ≡ group → Says items
        → Follows b before (StepRecord index step ∷ items)
    unfolding MayFollow
    step_follows items added is may =
        record { may = may; within = fits [] (StepRecord index step ∷ items) added group is within }

    nothing_added : (items : List Record) → StepRecord index step ∷ (items ++ []) ≡ group → Says items → IsTurnGroup true b log group
    nothing_added items is may = record {
      turn = Steps index step items [];
      is = is;
      follows = ((step_follows items [] is may, step_of_scenario_has_names s.settings true step valid), (All-nil IsAddedRecord, λ starts none. refl));
      few = omega arith;
      tells = inl (All-nil TellsNoRoots);
    }

    -- the refusal is that of the reduced log, or it is of a choice
    refused_says : (choice : Bool) (refusal : Refusal) → is_choice step ≡ choice → first_refusal log step ≡ Some refusal
        → FollowStep choice s.settings before (system_of before) index step (Refused index refusal ∷ [])
    refused_says true refusal is refused = inr (record { refusal = refusal; is = refl })
    refused_says false refusal is refused =
        let same : first_refusal before step ≡ Some refusal = agrees.refusals step (no_damage s.settings step valid is) ∙ refused in
        sym (ap (records_unless s.settings before (system_of before) index step) same)

    -- a choice says nothing in the reduced log
    choice_says : (choice : Bool) → choice ≡ true → FollowStep choice s.settings before (system_of before) index step []
    choice_says true is = inl refl
    choice_says false is = absurd (false≢true is)

    acted_says : (choice : Bool) → choice ≡ false → FollowStep choice s.settings before (system_of before) index step done
    acted_says true is = absurd (false≢true (sym is))
    acted_says false is = refl

    acted_turn : is_choice step ≡ false → StepRecord index step ∷ (done ++ packets_sent log done) ≡ group → IsTurnGroup true b log group
    acted_turn acts is = record {
      turn = Steps index step done (packets_sent log done);
      is = is;
      follows = carrier_turns_follow.step b log index step done
          (step_follows done (packets_sent log done) is (acted_says (is_choice step) acts)) (step_of_scenario_has_names s.settings true step valid);
      few = packets_counted log (filter_map sent_number done);
      tells = inl (packets_tell log (filter_map sent_number done));
    }

  module _ (index : ℕ) (group : List Record) (within : sent_count (log ++ group) ≤ most) where
    losing_turn : (place : ℕ) (line : Option PacketLine) → IsStep s.settings true (Lose place) → losing_group index place line ≡ group
        → IsTurnGroup true b log group
    unfolding is_choice
    losing_turn place None valid is = nothing_added index (Lose place) valid group within [] is (inl refl)
    losing_turn place (Some line) valid is = record {
      turn = Steps index (Lose place) [] _;
      is = is;
      follows = carrier_turns_follow.lost b log index place line.number
          (step_follows index (Lose place) valid group within [] _ is (inl refl));
      few = omega arith;
      tells = inl (lost_tells line.number);
    }

    repeating_turn : (place : ℕ) (line : Option PacketLine) → IsStep s.settings true (Repeat place)
        → repeating_group log index place line ≡ group → IsTurnGroup true b log group
    unfolding is_choice
    repeating_turn place None valid is = nothing_added index (Repeat place) valid group within [] is (inl refl)
    repeating_turn place (Some line) valid is = record {
      turn = Steps index (Repeat place) [] _;
      is = is;
      follows = carrier_turns_follow.repeated b log index place _
          (step_follows index (Repeat place) valid group within [] _ is (inl refl));
      few = omega arith;
      tells = inl (one_tells _);
    }

    roots_turn : (object asker : List ℕ) → IsStep s.settings true (RootSet object asker) → first_refusal log (RootSet object asker) ≡ None
        → StepRecord index (RootSet object asker) ∷ roots_record s.settings log object asker ∷ [] ≡ group → IsTurnGroup true b log group
    unfolding is_choice
    roots_turn object asker valid accepted is = record {
      turn = Steps index (RootSet object asker) [] _;
      is = is;
      follows = carrier_turns_follow.roots true b log index object asker _
          (step_follows index (RootSet object asker) valid group within [] _ is (inl refl));
      few = omega arith;
      tells = inr (record {
        index = index;
        object = object;
        asker = asker;
        is = refl;
        accepted = accepted;
        salted = root_set_salted s.settings true object asker valid;
      });
    }

    choice_turn : (step : Step) → IsStep s.settings true step → is_choice step ≡ true → first_refusal log step ≡ None
        → choice_group s.settings log index step ≡ group → IsTurnGroup true b log group
    unfolding choice_group
    choice_turn (RootSet object asker) valid choice accepted is = roots_turn object asker valid accepted is
    choice_turn (Lose place) valid choice accepted is = losing_turn place (slice_get (lines_under_way log) place) valid is
    choice_turn (Repeat place) valid choice accepted is = repeating_turn place (slice_get (lines_under_way log) place) valid is
    choice_turn step valid choice accepted is =
        nothing_added index step valid group within [] is (choice_says index step valid group within (is_choice step) choice)

    accepted_turn : (step : Step) (choice : Bool) → IsStep s.settings true step → is_choice step ≡ choice → first_refusal log step ≡ None
        → accepted_group choice s.settings log index step ≡ group → IsTurnGroup true b log group
    accepted_turn step true valid choice accepted is = choice_turn step valid choice accepted is
    accepted_turn step false valid choice accepted is = acted_turn index step valid group within choice is

    begun_turn : (step : Step) (refusal : Option Refusal) → IsStep s.settings true step → first_refusal log step ≡ refusal
        → group_unless s.settings log index step refusal ≡ group → IsTurnGroup true b log group
    begun_turn step (Some refusal) valid refused is =
        nothing_added index step valid group within (Refused index refusal ∷ []) is
        (refused_says index step valid group within (is_choice step) refusal refl refused)
    begun_turn step None valid refused is = accepted_turn step (is_choice step) valid refl refused is

  -- ---- what comes next

  pub turn_of_group : (group : List Record) → All (IsStep s.settings true) s.steps → CarriedComesNext s log group
      → sent_count (log ++ group) ≤ most → IsTurnGroup true b log group
  turn_of_group group valid comes within =
      elim (carried_coming s log group comes) [
        | inl arrives ↦
            let line = arrives.line in
            arrival_turn line line.ack (has_number (outstanding log) line.frame) group refl arrives.is within
        | inr (inl ticks) ↦ record {
          turn = Ticks _;
          is = ticks.is;
          follows = carrier_turns_follow.ticks b log (awaiting log);
          few = packets_counted log (awaiting log);
          tells = inl (packets_tell log (awaiting log));
        }
        | inr (inr begins) ↦
            let step = begins.step in
            begun_turn (begun_count log + 1) group within step (first_refusal log step)
            (next_is_step (IsStep s.settings true) s.steps (begun_count log) step valid begins.next) refl begins.is
      ]
