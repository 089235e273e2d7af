-- The log of a run is that of a run of each scenario that begins alike.
-- Cited above: at_of_take, begun-append
use Rattle.std.proofs.Common.{◌≡◌, inl, inr, ℕ, zero, suc, ◌+◌, ◌≤◌, List, [], ◌∷◌, ◌++◌, length, take, Some, ap, sym, subst, ◌∙◌, append_assoc}
use Rattle.std.specs.Prelude.{slice_get}
use Rattle.std.specs.Option.{option_map}
use Rattle.std.proofs.lemmas.List.Elements.{filter_map-append}
use Rattle.tap_scenario.specs.Scenario.{ScenarioValue}
use Rattle.tap_log.specs.declared.record.Record.{Record}
use Rattle.tap_log.specs.Counts.{sent_count}
use Rattle.tap_log.specs.Kinds.{step_of}
use Rattle.tap_log.specs.Log.{begun_steps}
use Rattle.tap_history.specs.Groups.{EachGroupFrom, beginning_of, groups_of, records_of}
use Rattle.tap_history.proofs.Parts.{log_is_groups}
use Rattle.tap_runs.specs.Beginning.{begin_record}
use Rattle.tap_runs.specs.Course.{system_of}
use Rattle.tap_runs.specs.Group.{step_records}
use Rattle.tap_lawful.specs.Next.{begun_count, group_after, next_step}
use Rattle.tap_runs.specs.Groups.{step_group, taken_group}
use Rattle.tap_lawful.specs.Lawful.{ComesNext, IsPlayed}
use Rattle.tap_lawful.specs.PlayedLaws.{BeginsAlike}
use Rattle.tap_lawful.proofs.Coming.{BeginsNext, TakesDue, coming}

-- the element at a place of the first ones
pub at_of_take : {X : Type 0} (n : ℕ) (xs ys zs : List X) (y : X) → take n xs ≡ ys ++ y ∷ zs → slice_get xs (length ys) ≡ Some y
at_of_take zero xs [] zs y is = absurd (cc)
at_of_take zero xs (z ∷ ys) zs y is = absurd (cc)
at_of_take (suc n) [] [] zs y is = absurd (cc)
at_of_take (suc n) [] (z ∷ ys) zs y is = absurd (cc)
at_of_take (suc n) (x ∷ xs) [] zs y is = let same : x ≡ y = cc in ap Some same
at_of_take (suc n) (x ∷ xs) (z ∷ ys) zs y is = let rest : take n xs ≡ ys ++ y ∷ zs = cc in at_of_take n xs ys zs y rest

pub begun-append : (log group : List Record) → begun_steps (log ++ group) ≡ begun_steps log ++ begun_steps group
begun-append log group = filter_map-append step_of log group

module _ (s other : ScenarioValue) (same : other.settings ≡ s.settings) where
  -- the frame that is due is the same
  pub taken_alike : (log group : List Record) → TakesDue s log group → ComesNext other log group
  taken_alike log group taken =
      ap (group_after other log) taken.due ∙ ap (λ p. Some (taken_group p log taken.number)) same ∙ ap Some taken.is

  -- so is the next step, if these are first steps of the other scenario
  pub begun_alike : (log group rest : List Record) (n : ℕ) → BeginsNext s log group
      → take n other.steps ≡ begun_steps (log ++ (group ++ rest)) → ComesNext other log group
  begun_alike log group rest n begun steps =
      let index = begun_count log + 1 in
      let p = s.settings in
      let items = step_records p log (system_of log) index begun.step in
      let first : begun_steps group ≡ begun.step ∷ begun_steps items = ap begun_steps (sym begun.is) in
      let all : begun_steps (log ++ (group ++ rest)) ≡ begun_steps log ++ begun.step ∷ (begun_steps items ++ begun_steps rest) =
      begun-append log (group ++ rest) ∙ ap (λ l. begun_steps log ++ l) (begun-append group rest)
      ∙ ap (λ l. begun_steps log ++ (l ++ begun_steps rest)) first in
      let next : next_step other log ≡ Some begun.step =
      at_of_take n other.steps (begun_steps log) (begun_steps items ++ begun_steps rest) begun.step (steps ∙ all) in
      ap (group_after other log) begun.none ∙ ap (option_map (step_group other.settings log index)) next
      ∙ ap (λ q. Some (step_group q log index begun.step)) same ∙ ap Some begun.is

  each_alike : (before : List Record) (groups : List (List Record)) (n : ℕ) → EachGroupFrom (ComesNext s) before groups
      → take n other.steps ≡ begun_steps (before ++ records_of groups) → EachGroupFrom (ComesNext other) before groups
  each_alike before [] n each steps = tt
  each_alike before (group ∷ groups) n each steps = (
    elim (coming s before group each.0) [
      | inl taken ↦ taken_alike before group taken
      | inr begun ↦ begun_alike before group (records_of groups) n begun steps
    ],
    each_alike (before ++ group) groups n each.1 (steps ∙ ap begun_steps (sym (append_assoc before group (records_of groups)))),
  )

pub played_alike : (s other : ScenarioValue) (log : List Record) → IsPlayed s log → BeginsAlike s other log → IsPlayed other log
played_alike s other log played alike =
    let settings : other.settings ≡ s.settings = ap (λ b. b.settings) alike.beginning in
    let frames : other.frames ≡ s.frames = ap (λ b. b.frames) alike.beginning in
    record {
      begins = played.begins ∙ ap (λ b. begin_record b ∷ []) (sym alike.beginning);
      each = each_alike s other settings (beginning_of log) (groups_of log) (begun_count log) played.each
          (alike.steps ∙ ap begun_steps (sym (log_is_groups log played.going)));
      within = subst (λ n. sent_count log ≤ n) (sym frames) played.within;
      going = played.going;
    }
