-- The log of a carried run is that of a carried run of each scenario that begins alike.
-- Cited above: arrives_alike, begins_alike, ticks_alike
use Rattle.std.proofs.Common.{◌≡◌, inl, inr, ℕ, ◌+◌, ◌≤◌, true, List, [], ◌∷◌, ◌++◌, take, Some, ap, sym, subst, ◌∙◌, append_assoc}
use Rattle.std.specs.Option.{option_map}
use Rattle.tap_scenario.specs.Scenario.{ScenarioValue}
use Rattle.tap_log.specs.declared.record.Record.{Record}
use Rattle.tap_log.specs.declared.record.Record.TheVariants.{Step as StepRecord}
use Rattle.tap_log.specs.Counts.{sent_count}
use Rattle.tap_log.specs.Log.{begun_steps}
use Rattle.tap_history.specs.Groups.{EachGroupFrom, beginning_of, groups_of, records_of}
use Rattle.tap_history.specs.Refusals.{first_refusal}
use Rattle.tap_history.proofs.Parts.{log_is_groups}
use Rattle.tap_packets.specs.Groups.{arrival_group}
use Rattle.tap_carried.specs.LogTurns.{beginning_records}
use Rattle.tap_lawful.specs.CarriedNext.{begun_group, carried_group_after, reduced_taken_records}
use Rattle.tap_lawful.specs.CarriedRuns.{CarriedComesNext, IsCarriedPlayed}
use Rattle.tap_lawful.specs.Next.{begun_count, next_step}
use Rattle.tap_lawful.specs.PlayedLaws.{BeginsAlike}
use Rattle.tap_lawful.proofs.Alike.{at_of_take, begun-append}
use Rattle.tap_lawful.proofs.CarriedComing.{ArrivesDue, CarriedBegins, TicksDue, begun_head, carried_coming}

module _ (s other : ScenarioValue) (same : other.settings ≡ s.settings) where
  -- the packet that is due is the same, and so is its receiver's part
  pub arrives_alike : (log group : List Record) → ArrivesDue s log group → CarriedComesNext other log group
  arrives_alike log group arrives =
      let line = arrives.line in
      ap (carried_group_after other log) arrives.due
      ∙ ap (λ p. Some (arrival_group log line (reduced_taken_records p log line.frame))) same ∙ ap Some arrives.is

  pub ticks_alike : (log group : List Record) → TicksDue log group → CarriedComesNext other log group
  ticks_alike log group ticks = ap (carried_group_after other log) ticks.due ∙ ap Some ticks.is

  -- so is the next step, if these are first steps of the other scenario
  pub begins_alike : (log group rest : List Record) (n : ℕ) → CarriedBegins s log group
      → take n other.steps ≡ begun_steps (log ++ (group ++ rest)) → CarriedComesNext other log group
  begins_alike log group rest n begun steps =
      let index = begun_count log + 1 in
      let head = begun_head s.settings log index begun.step (first_refusal log begun.step) in
      let is : StepRecord index begun.step ∷ head.0 ≡ group = head.1 ∙ begun.is in
      let first : begun_steps group ≡ begun.step ∷ begun_steps head.0 = ap begun_steps (sym is) in
      let all : begun_steps (log ++ (group ++ rest)) ≡ begun_steps log ++ begun.step ∷ (begun_steps head.0 ++ begun_steps rest) =
      begun-append log (group ++ rest) ∙ ap (λ l. begun_steps log ++ l) (begun-append group rest)
      ∙ ap (λ l. begun_steps log ++ (l ++ begun_steps rest)) first in
      let next : next_step other log ≡ Some begun.step =
      at_of_take n other.steps (begun_steps log) (begun_steps head.0 ++ begun_steps rest) begun.step (steps ∙ all) in
      ap (carried_group_after other log) begun.none ∙ ap (option_map (begun_group other.settings log index)) next
      ∙ ap (λ q. Some (begun_group q log index begun.step)) same ∙ ap Some begun.is

  each_alike : (before : List Record) (groups : List (List Record)) (n : ℕ) → EachGroupFrom (CarriedComesNext s) before groups
      → take n other.steps ≡ begun_steps (before ++ records_of groups) → EachGroupFrom (CarriedComesNext other) before groups
  each_alike before [] n each steps = tt
  each_alike before (group ∷ groups) n each steps = (
    elim (carried_coming s before group each.0) [
      | inl arrives ↦ arrives_alike before group arrives
      | inr (inl ticks) ↦ ticks_alike before group ticks
      | inr (inr begun) ↦ begins_alike before group (records_of groups) n begun steps
    ],
    each_alike (before ++ group) groups n each.1 (steps ∙ ap begun_steps (sym (append_assoc before group (records_of groups)))),
  )

pub carried_alike : (s other : ScenarioValue) (log : List Record) → IsCarriedPlayed s log → BeginsAlike s other log → IsCarriedPlayed other log
carried_alike s other log played alike =
    let settings : other.settings ≡ s.settings = ap (λ b. b.settings) alike.beginning in
    let frames : other.frames ≡ s.frames = ap (λ b. b.frames) alike.beginning in
    record {
      begins = played.begins ∙ ap (beginning_records true) (sym alike.beginning);
      each = each_alike s other settings (beginning_of log) (groups_of log) (begun_count log) played.each
          (alike.steps ∙ ap begun_steps (sym (log_is_groups log played.going)));
      within = subst (λ n. sent_count log ≤ n) (sym frames) played.within;
      going = played.going;
    }
