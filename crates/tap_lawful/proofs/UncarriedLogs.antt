-- How the log of a run that isn't carried grows, and what becomes of it in the reduced log, however it has ended.
-- Cited above: alone_same, none_back, one_alike, plain_played, same_steps, spent_reduces, uncarried_alike, uncarried_all, uncarried_less,
-- uncarried_more, uncarried_runs_reduce, uncarried_steps
use Rattle.std.proofs.Common.{◌≡◌, inl, inr, ℕ, ◌<◌, ◌≤◌, false, not, List, [], ◌∷◌, ◌++◌, cond, length, take, All, Option, None, Some, refl, ap, sym, subst, ◌∙◌, append_assoc}
use Rattle.std.specs.Option.{option_map}
use Rattle.std.proofs.lemmas.List.Elements.{All-head, All-tail}
use Rattle.tap_name.specs.Settings.{SettingsValue}
use Rattle.tap_scenario.specs.Scenario.{IsScript, ScenarioValue}
use Rattle.tap_log.specs.declared.record.Record.{Record}
use Rattle.tap_log.specs.declared.record.Record.TheVariants.{Step as StepRecord, Spent, Finished}
use Rattle.tap_log.specs.Counts.{sent_count}
use Rattle.tap_log.specs.Kinds.{step_of}
use Rattle.tap_log.specs.Log.{begun_steps}
use Rattle.tap_log.specs.Reduced.{is_added, reduced}
use Rattle.tap_history.specs.Groups.{EachGroupFrom, beginning_of, groups_of, records_of}
use Rattle.tap_history.proofs.Parts.{EachGroup-push, beginning_of-group, is_ended-append, log_is_groups}
use Rattle.tap_runs.specs.Beginning.{begin_record}
use Rattle.tap_carried.proofs.ReducedLogs.{logs_agree}
use Rattle.tap_carried.proofs.ReducedRuns.{runs_reduce}
use Rattle.tap_carried.proofs.SameTold.{kept_steps, reduced_tells}
use Rattle.tap_carried.proofs.TurnGroups.{reduced-append}
use Rattle.tap_lawful.specs.Lawful.{ComesNext, IsFinished, IsLogOf, IsPlayed, IsSpent, IsUncarriedFinished, IsUncarriedLogOf, IsUncarriedPlayed, IsUncarriedSpent, IsWholeLogOf, IsWholeUncarriedLogOf, UncarriedComesNext, step_alone}
use Rattle.tap_lawful.specs.Next.{beginning_in, begun_count, next_group, uncarried_next_group}
use Rattle.tap_lawful.specs.PlayedLaws.{BeginsAlike, left_of}
use Rattle.tap_lawful.specs.RootSets.{told_after, with_roots}
use Rattle.tap_lawful.specs.UncarriedLaws.{UncarriedRunsReduce}
use Rattle.tap_lawful.proofs.Alike.{begun_alike, begun-append, taken_alike}
use Rattle.tap_lawful.proofs.BegunSteps.{played_all, played_steps}
use Rattle.tap_lawful.proofs.CarriedWhole.{IsWholeTurn, whole_turn}
use Rattle.tap_lawful.proofs.Coming.{coming}
use Rattle.tap_lawful.proofs.Less.{less_left}
use Rattle.tap_lawful.proofs.Uncarried.{far_more, grown_is, turn_next, uncarried_coming, uncarried_far, same_sent}

-- ---- one more group

module _ (s : ScenarioValue) (valid : IsScript s) (log group : List Record) (played : IsUncarriedPlayed s log)
    (comes : UncarriedComesNext s log group) (within : sent_count (log ++ group) ≤ s.frames) where
  whole : IsWholeTurn false log group
  whole =
      let far = uncarried_far s valid log played in
      whole_turn false (beginning_in s) log group far.run (turn_next s valid log group far.run comes within)
      (far_more s valid log group far comes within).run

  more_with : (w : IsWholeTurn false log group) → UncarriedComesNext s log (w.first ∷ w.after) → sent_count (log ++ w.first ∷ w.after) ≤ s.frames
      → IsUncarriedPlayed s (log ++ w.first ∷ w.after)
  more_with w comes_so within_so = record {
    begins = beginning_of-group log w.first w.after w.whole ∙ played.begins;
    each = EachGroup-push (UncarriedComesNext s) log w.first w.after w.whole played.going w.going played.each comes_so;
    within = within_so;
    going = is_ended-append log w.first w.after ∙ w.going;
  }

  pub uncarried_more : IsUncarriedPlayed s (log ++ group)
  uncarried_more =
      let w = whole in
      subst (λ g. IsUncarriedPlayed s (log ++ g)) (sym w.is)
      (more_with w (subst (UncarriedComesNext s log) w.is comes) (subst (λ g. sent_count (log ++ g) ≤ s.frames) w.is within))

  pub uncarried_less : left_of s (reduced (log ++ group)) < left_of s (reduced log)
  uncarried_less =
      let far = uncarried_far s valid log played in
      let next = uncarried_coming s log group comes in
      subst (λ l. left_of s l < left_of s (reduced log)) (sym (grown_is s valid log group far.run next within))
      (less_left s (reduced log) next.plain next.comes
      (subst (λ n. n ≤ s.frames) (sym (same_sent s valid log group next)) within))

-- ---- the steps

pub same_steps : (log : List Record) → begun_steps (reduced log) ≡ begun_steps log
same_steps log = reduced_tells step_of kept_steps log

pub none_back : (s : ScenarioValue) (log : List Record) (next : Option (List Record)) → option_map (with_roots s.settings log) next ≡ None → next ≡ None
none_back s log None is = refl
none_back s log (Some group) is = absurd (cc)

module _ (s : ScenarioValue) (valid : IsScript s) (log : List Record) (played : IsUncarriedPlayed s log) where
  pub plain_played : IsPlayed s (reduced log)
  plain_played = (uncarried_far s valid log played).plain

  pub uncarried_steps : begun_steps log ≡ take (begun_count log) s.steps
  uncarried_steps = subst (λ l. l ≡ take (length l) s.steps) (same_steps log) (played_steps s (reduced log) plain_played)

  pub uncarried_all : uncarried_next_group s log ≡ None → begun_steps log ≡ s.steps
  uncarried_all none =
      sym (same_steps log) ∙ played_all s (reduced log) plain_played (none_back s log (next_group s (reduced log)) none)

-- ---- another scenario that begins alike

module _ (s other : ScenarioValue) (same : other.settings ≡ s.settings) where
  pub one_alike : (log group rest : List Record) (n : ℕ) → UncarriedComesNext s log group
      → take n other.steps ≡ begun_steps (log ++ (group ++ rest)) → UncarriedComesNext other log group
  one_alike log group rest n comes steps =
      let next = uncarried_coming s log group comes in
      let less = reduced log in
      let told = told_after s.settings log next.plain in
      let all : begun_steps (log ++ (group ++ rest)) ≡ begun_steps (less ++ (next.plain ++ (told ++ rest))) =
      ap (λ g. begun_steps (log ++ (g ++ rest))) (sym next.is)
      ∙ ap (λ l. begun_steps (log ++ l)) (append_assoc next.plain told rest)
      ∙ begun-append log (next.plain ++ (told ++ rest))
      ∙ ap (λ l. l ++ begun_steps (next.plain ++ (told ++ rest))) (sym (same_steps log))
      ∙ sym (begun-append less (next.plain ++ (told ++ rest))) in
      let also : ComesNext other less next.plain =
      elim (coming s less next.plain next.comes) [
        | inl taken ↦ taken_alike s other same less next.plain taken
        | inr begun ↦ begun_alike s other same less next.plain (told ++ rest) n begun (steps ∙ all)
      ] in
      ap (option_map (with_roots other.settings log)) also ∙ ap (λ p. Some (with_roots p log next.plain)) same ∙ ap (λ g. Some g) next.is

  each_alike : (before : List Record) (groups : List (List Record)) (n : ℕ) → EachGroupFrom (UncarriedComesNext s) before groups
      → take n other.steps ≡ begun_steps (before ++ records_of groups) → EachGroupFrom (UncarriedComesNext other) before groups
  each_alike before [] n each steps = tt
  each_alike before (group ∷ groups) n each steps = (
    one_alike before group (records_of groups) n each.0 steps,
    each_alike (before ++ group) groups n each.1 (steps ∙ ap begun_steps (sym (append_assoc before group (records_of groups)))),
  )

pub uncarried_alike : (s other : ScenarioValue) (log : List Record) → IsUncarriedPlayed s log → BeginsAlike s other log
    → IsUncarriedPlayed other log
uncarried_alike s other log played alike =
    let settings : other.settings ≡ s.settings = ap (λ b. b.settings) alike.beginning in
    let frames : other.frames ≡ s.frames = ap (λ b. b.frames) alike.beginning in
    record {
      begins = played.begins ∙ ap (λ b. begin_record b ∷ []) (sym alike.beginning);
      each = each_alike s other settings (beginning_of log) (groups_of log) (begun_count log) played.each
          (alike.steps ∙ ap begun_steps (sym (log_is_groups log played.going)));
      within = subst (λ n. sent_count log ≤ n) (sym frames) played.within;
      going = played.going;
    }

-- ---- how it has ended

finished_kept : (steps : ℕ) → reduced (Finished steps ∷ []) ≡ Finished steps ∷ []
unfolding is_added
finished_kept steps = refl

-- what stands of a group that would send too many frames is kept
alone_kept : (limit : ℕ) (group : List Record) → reduced (step_alone group ++ Spent limit ∷ []) ≡ step_alone group ++ Spent limit ∷ []
unfolding is_added step_alone
alone_kept limit [] = refl
alone_kept limit (StepRecord index step ∷ items) = refl
alone_kept limit (item ∷ items) = refl

-- and roots change nothing of it
pub alone_same : (p : SettingsValue) (log group : List Record) → step_alone (with_roots p log group) ≡ step_alone group
unfolding step_alone told_after
alone_same p log [] = refl
alone_same p log (StepRecord index step ∷ items) = refl
alone_same p log (item ∷ items) = refl

module _ (s : ScenarioValue) (valid : IsScript s) (played log : List Record) where
  pub finished_reduces : IsUncarriedFinished s played log → IsFinished s (reduced played) (reduced log)
  finished_reduces over = record {
    none = none_back s played (next_group s (reduced played)) over.none;
    log_is = ap reduced over.log_is ∙ reduced-append played (Finished (length s.steps) ∷ [])
        ∙ ap (λ l. reduced played ++ l) (finished_kept (length s.steps));
  }

  pub spent_reduces : IsUncarriedSpent s played log → IsSpent s (reduced played) (reduced log)
  spent_reduces over =
      let next = uncarried_coming s played over.group over.next in
      let alone : step_alone over.group ≡ step_alone next.plain = ap step_alone (sym next.is) ∙ alone_same s.settings played next.plain in
      record {
        group = next.plain;
        next = next.comes;
        over = subst (λ n. s.frames < n) (sym (same_sent s valid played over.group next)) over.over;
        log_is = ap reduced over.log_is ∙ reduced-append played (step_alone over.group ++ Spent s.frames ∷ [])
            ∙ ap (λ l. reduced played ++ l) (alone_kept s.frames over.group)
            ∙ ap (λ l. reduced played ++ (l ++ Spent s.frames ∷ [])) alone;
      }

ended_reduces : (s : ScenarioValue) (log : List Record) → IsScript s → IsUncarriedLogOf s log → IsLogOf s (reduced log)
ended_reduces s log valid of = record {
  played = reduced of.played;
  is_played = plain_played s valid of.played of.is_played;
  ending = elim of.ending [
    | inl same ↦ inl (ap reduced same)
    | inr (inl finished) ↦ inr (inl (finished_reduces s valid of.played log finished))
    | inr (inr spent) ↦ inr (inr (spent_reduces s valid of.played log spent))
  ];
}

whole_reduces : (s : ScenarioValue) (log : List Record) → IsScript s → IsWholeUncarriedLogOf s log → IsWholeLogOf s (reduced log)
whole_reduces s log valid of = record {
  played = reduced of.played;
  is_played = plain_played s valid of.played of.is_played;
  over = elim of.over [
    | inl finished ↦ inl (finished_reduces s valid of.played log finished)
    | inr spent ↦ inr (spent_reduces s valid of.played log spent)
  ];
}

all_plain : (log : List Record) → All (λ item. is_added item ≡ false) log → reduced log ≡ log
all_plain [] all = refl
all_plain (item ∷ log) all =
    ap (λ b. cond {A = List Record} (not b) (item ∷ reduced log) (reduced log)) (All-head (λ i. is_added i ≡ false) item log all)
    ∙ ap (λ l. item ∷ l) (all_plain log (All-tail (λ i. is_added i ≡ false) item log all))

pub uncarried_runs_reduce : UncarriedRunsReduce
uncarried_runs_reduce = record {
  run = λ s log valid played. (uncarried_far s valid log played).run;
  played = λ s log valid played. plain_played s valid log played;
  ended = ended_reduces;
  whole = whole_reduces;
  turns_at = λ s log m valid played moment.
      logs_agree.at false log m (runs_reduce.turns false (beginning_in s) log (uncarried_far s valid log played).run) moment;
  reduces_at = λ s log m valid played moment.
      runs_reduce.at false (beginning_in s) log m (uncarried_far s valid log played).run moment;
  same = all_plain;
}
