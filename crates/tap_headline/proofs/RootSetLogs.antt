-- What root sets tell is right in each log of a run, carried or not, however it has ended; and lookups of salted names find a server.
use Rattle.std.proofs.Common.{◌≡◌, inl, inr, ℕ, ◌≤◌, true, false, List, [], ◌∷◌, ◌++◌, length, take, drop, All, Option, None, Some, refl, ap, sym, subst, ◌∙◌, append_assoc}
use Rattle.std.proofs.lemmas.Bool.{cases_lt}
use Rattle.std.proofs.lemmas.List.{take-append-drop}
use Rattle.std.proofs.lemmas.List.Elements.{All-cons, All-nil}
use Rattle.tap_name.specs.Settings.{SettingsValue}
use Rattle.tap_salt.specs.Salt.{salt_of}
use Rattle.tap_pointer.specs.Pointers.{pair_of}
use Rattle.tap_scenario.specs.Scenario.{IsScript, ScenarioValue}
use Rattle.tap_log.specs.declared.record.Record.{Record}
use Rattle.tap_log.specs.declared.record.Record.TheVariants.{Arrived, Finished, Spent, Step as StepRecord, Ticked}
use Rattle.tap_log.specs.Counts.{sent_count}
use Rattle.tap_runs.specs.Beginning.{begin_record}
use Rattle.tap_carried.specs.LogTurns.{beginning_records}
use Rattle.tap_carried.specs.ReducedRuns.{IsRunOfTurns}
use Rattle.tap_lawful.specs.CarriedRuns.{CarriedComesNext, IsCarriedCut, IsCarriedLogOf, IsCarriedPlayed, IsCarriedScript}
use Rattle.tap_lawful.specs.Lawful.{IsUncarriedLogOf, IsUncarriedPlayed, step_alone}
use Rattle.tap_lawful.specs.Next.{beginning_in, uncarried_next_group}
use Rattle.tap_lawful.proofs.CarriedReduction.{by_carried, run_more, run_starts, script_steps}
use Rattle.tap_lawful.proofs.CarriedTurns.{TellsNoRoots, turn_of_group}
use Rattle.tap_lawful.proofs.Played.{by_next}
use Rattle.tap_lawful.proofs.Uncarried.{UncarriedSoFar, far_more, far_starts, turn_next}
use Rattle.tap_pointer_runs.specs.Alone.{IsExactIn, LookupsAloneAreExact}
use Rattle.tap_pointer_runs.specs.Paths.{IsPublishedIn}
use Rattle.tap_headline.specs.RootSets.{FindsServer, HeadlineFindsSalts, IsToldRight, RootSetsAreRight, SaltsAreFound}
use Rattle.tap_headline.proofs.Openings.{IsOpening, opening_of}
use Rattle.tap_headline.proofs.RootSets.{each_both, each_first, more_right, quiet_right}

-- ---- records that end a log

module _ (p : SettingsValue) (played : List Record) (right : RootSetsAreRight p played) where
  with_quiet : (ending : List Record) → All TellsNoRoots ending → RootSetsAreRight p (played ++ ending)
  with_quiet ending quiet = each_both (IsToldRight p) [] played ending right (quiet_right p played ending quiet)

  with_finished : (steps : ℕ) → RootSetsAreRight p (played ++ Finished steps ∷ [])
  unfolding TellsNoRoots
  with_finished steps = with_quiet (Finished steps ∷ []) (All-cons TellsNoRoots (Finished steps) [] tt (All-nil TellsNoRoots))

  with_one : (first : Record) → TellsNoRoots first → RootSetsAreRight p (played ++ first ∷ [])
  with_one first one = with_quiet (first ∷ []) (All-cons TellsNoRoots first [] one (All-nil TellsNoRoots))

  with_spent : (first : Record) (limit : ℕ) → TellsNoRoots first → RootSetsAreRight p (played ++ first ∷ Spent limit ∷ [])
  unfolding TellsNoRoots
  with_spent first limit one =
      with_quiet (first ∷ Spent limit ∷ [])
      (All-cons TellsNoRoots first (Spent limit ∷ []) one (All-cons TellsNoRoots (Spent limit) [] tt (All-nil TellsNoRoots)))

  with_alone : (group : List Record) (limit : ℕ) → RootSetsAreRight p (played ++ (step_alone group ++ Spent limit ∷ []))
  unfolding TellsNoRoots step_alone
  with_alone [] limit = with_one (Spent limit) tt
  with_alone (StepRecord index step ∷ items) limit = with_spent (StepRecord index step) limit tt
  with_alone (item ∷ items) limit = with_one (Spent limit) tt

opening_quiet : (first : Record) → IsOpening first → TellsNoRoots first
unfolding IsOpening TellsNoRoots
opening_quiet (StepRecord index step) opens = tt
opening_quiet (Arrived packet) opens = tt
opening_quiet Ticked opens = tt
opening_quiet first opens = absurd opens

-- ---- a run that isn't carried

module _ (s : ScenarioValue) (valid : IsScript s) where
  -- with what holds of the log so far
  record UncarriedRight (log : List Record) : Type 0 where
    far : UncarriedSoFar s valid log
    right : RootSetsAreRight s.settings log

  right_starts : UncarriedRight (begin_record (beginning_in s) ∷ [])
  unfolding IsToldRight
  right_starts = record { far = far_starts s valid; right = (tt, tt) }

  played_right : (log : List Record) → IsUncarriedPlayed s log → RootSetsAreRight s.settings log
  played_right log played =
      (by_next (uncarried_next_group s) s.frames UncarriedRight
      (λ before group is comes within. record {
        far = far_more s valid before group is.far comes within;
        right = more_right false (beginning_in s) before group is.far.run (turn_next s valid before group is.far.run comes within) is.right;
      })
      (begin_record (beginning_in s) ∷ []) log right_starts played.begins played.each played.within played.going).right

  pub uncarried_right : (log : List Record) → IsUncarriedLogOf s log → RootSetsAreRight s.settings log
  uncarried_right log of =
      let right = played_right of.played of.is_played in
      elim of.ending [
        | inl same ↦ subst (RootSetsAreRight s.settings) (sym same) right
        | inr (inl finished) ↦
            subst (RootSetsAreRight s.settings) (sym finished.log_is) (with_finished s.settings of.played right (length s.steps))
        | inr (inr spent) ↦
            subst (RootSetsAreRight s.settings) (sym spent.log_is) (with_alone s.settings of.played right spent.group s.frames)
      ]

-- ---- a carried run

module _ (s : ScenarioValue) (script : IsCarriedScript s) where
  record CarriedRight (log : List Record) : Type 0 where
    run : IsRunOfTurns true (beginning_in s) log
    right : RootSetsAreRight s.settings log

  carried_starts : CarriedRight (beginning_records true (beginning_in s))
  unfolding IsToldRight
  carried_starts = record { run = run_starts s script; right = (tt, (tt, tt)) }

  right_more : (log group : List Record) → CarriedRight log → CarriedComesNext s log group → sent_count (log ++ group) ≤ s.frames
      → CarriedRight (log ++ group)
  right_more log group is comes within = record {
    run = run_more s script log group is.run comes within;
    right = more_right true (beginning_in s) log group is.run
        (turn_of_group s log is.run s.frames group (script_steps s script) comes within) is.right;
  }

  carried_played_right : (log : List Record) → IsCarriedPlayed s log → CarriedRight log
  carried_played_right = by_carried s CarriedRight right_more carried_starts

  module _ (played : List Record) (is_played : IsCarriedPlayed s played) where
    abbrev so_far : CarriedRight played
    so_far = carried_played_right played is_played

    spent_right : (group : List Record) → CarriedComesNext s played group → RootSetsAreRight s.settings (played ++ (take 1 group ++ Spent s.frames ∷ []))
    spent_right group comes =
        let o = opening_of s played group comes in
        subst (λ g. RootSetsAreRight s.settings (played ++ (take 1 g ++ Spent s.frames ∷ []))) o.is
        (with_spent s.settings played so_far.right o.first s.frames (opening_quiet o.first o.opens))

    -- some first records of the group that comes next
    cut_right : (log : List Record) → IsCarriedCut s played log → RootSetsAreRight s.settings log
    cut_right log cut =
        let group = cut.group in
        let o = opening_of s played group cut.next in
        subst (RootSetsAreRight s.settings) (sym cut.log_is) (
        elim (cases_lt s.frames (sent_count (played ++ group))) [
          | inl over ↦
              subst (λ k. RootSetsAreRight s.settings (played ++ take k group)) (sym (cut.first over))
              (subst (λ g. RootSetsAreRight s.settings (played ++ take 1 g)) o.is
              (with_one s.settings played so_far.right o.first (opening_quiet o.first o.opens)))
          | inr within ↦
              let parts : played ++ group ≡ (played ++ take cut.kept group) ++ drop cut.kept group =
              ap (λ g. played ++ g) (sym (take-append-drop cut.kept group)) ∙ sym (append_assoc played (take cut.kept group) (drop cut.kept group)) in
              each_first (IsToldRight s.settings) [] (played ++ take cut.kept group) (drop cut.kept group)
              (subst (RootSetsAreRight s.settings) parts (right_more played group so_far cut.next within).right)
        ]
        )

  pub carried_right : (log : List Record) → IsCarriedLogOf s log → RootSetsAreRight s.settings log
  carried_right log of =
      let right = (carried_played_right of.played of.is_played).right in
      elim of.ending [
        | inl same ↦ subst (RootSetsAreRight s.settings) (sym same) right
        | inr (inl (inl finished)) ↦
            subst (RootSetsAreRight s.settings) (sym finished.log_is) (with_finished s.settings of.played right (length s.steps))
        | inr (inl (inr spent)) ↦
            subst (RootSetsAreRight s.settings) (sym spent.log_is) (spent_right of.played of.is_played spent.group spent.next)
        | inr (inr cut) ↦ cut_right of.played of.is_played log cut
      ]

-- ---- lookups of salted names

finds : (log : List Record) (object server : List ℕ) (answer : Option (List ℕ)) → IsExactIn log object answer
    → IsPublishedIn log (pair_of object server) → FindsServer log object answer
finds log object server None exact published = absurd (exact server published)
finds log object server (Some found) exact published = record { server = found; is = refl; published = exact }

salts_found : (p : SettingsValue) (log : List Record) → LookupsAloneAreExact p log → SaltsAreFound log
salts_found p log exact before between after ticket answered number object asker server answer asked alone published =
    finds before (salt_of object number) server answer
    (exact before between after ticket answered (salt_of object number) asker answer asked alone).1 published

pub headline_finds_salts : HeadlineFindsSalts
headline_finds_salts p log has m moment = salts_found p (take m log) (has.lookups m moment)
