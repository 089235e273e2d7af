-- A lawful log is one of its own scenario, and what begins a lawful log, and stands at the front of another one, begins a log of that one's own
-- scenario.
use Rattle.std.proofs.Common.{◌≡◌, inl, inr, ℕ, ◌≤◌, Bool, true, false, List, [], ◌∷◌, ◌++◌, length, take, refl, ap, sym, subst, ◌∙◌, arith, append-nil, append_assoc, length-append, length-take}
use Rattle.std.proofs.lemmas.List.Elements.{All-take}
use Rattle.tap_scenario.specs.Scenario.{IsScript, ScenarioValue}
use Rattle.tap_scenario.specs.Step.{IsStep}
use Rattle.tap_log.specs.declared.record.Record.{Record}
use Rattle.tap_log.specs.declared.record.Record.TheVariants.{Carrier, Finished}
use Rattle.tap_log.specs.Kinds.{is_carried}
use Rattle.tap_log.specs.Log.{begun_steps}
use Rattle.tap_runs.specs.Beginning.{Beginning, begin_record}
use Rattle.tap_carried.specs.LogTurns.{beginning_records}
use Rattle.tap_lawful.specs.Next.{beginning_in, begun_count}
use Rattle.tap_lawful.specs.Runs.{IsRunLog, IsRunSoFar}
use Rattle.tap_lawful.proofs.Runs.{runs_by_carrier}
use Rattle.tap_lawful.proofs.SameGroups.{begins_with}
use Rattle.tap_own_scripts.specs.Own.{own_script, own_steps}
use Rattle.tap_own_scripts.specs.OwnLaws.{BeginsLogOf}
use Rattle.tap_own_scripts.proofs.Fronts.{Past, front_ends}
use Rattle.tap_own_scripts.proofs.Logs.{FinishedSo, begun_carried, by_runs, carrier_of, finished_by, log_so, so_far, spent_by, stopped_by}
use Rattle.tap_own_scripts.proofs.Own.{Continues, IsTail, IsTold, continues_played, continues_tail, own_begun, own_steps-finished, played_told, same_script, tail_front, tail_goes, told-append}
use Rattle.tap_own_scripts.proofs.Tails.{EndsInGroup, cut_ends, group_ends, spent_ends, taken_steps}

-- ---- a front that ends in a group

-- with the first record of a group a log has two
two_records : (s : ScenarioValue) (played group tail : List Record) → IsTold s played → IsTail group tail → 2 ≤ length (played ++ tail)
two_records s played group tail told t =
    let all = length-append played tail in
    let first = ap length told.is in
    let next = ap length t.is in
    omega (arith, all, first, next)

module _ (s : ScenarioValue) (valid : IsScript s) where
  -- the own scenario of what goes on with the tail has the group
  tail_continues : (log played group tail rest after : List Record) → IsRunLog s log → IsRunSoFar s played → IsTail group tail
      → log ≡ (played ++ tail) ++ rest → Continues s (own_script ((played ++ tail) ++ after)) (played ++ group) (own_steps after)
  tail_continues log played group tail rest after run is_played t is =
      let front = played ++ tail in
      let told : IsTold s played = played_told s valid played is_played in
      let carried : is_carried ((played ++ tail) ++ after) ≡ s.carrier =
      carrier_of s log front rest after (runs_by_carrier.begins s log run) is (two_records s played group tail told t) in
      continues_tail s (own_script ((played ++ tail) ++ after)) played group tail (own_steps after) t
      (own_begun s front after (told-append s played tail told (tail_goes group tail t)) carried)

  -- each front that ends within a group of a log begins a log of the own scenario of whatever goes on from there
  group_front : (played log front rest after : List Record) (e : EndsInGroup s played log) → log ≡ front ++ rest → Past played e.tail front rest
      → BeginsLogOf (own_script (front ++ after)) front
  group_front played log front rest after e is past =
      let tail = past.next ∷ past.more in
      let t : IsTail e.group tail = tail_front e.group e.tail past.next past.more rest e.is_tail past.ys_are in
      let continues =
      tail_continues log played e.group tail rest after e.run e.is_played t (is ∙ ap (λ l. l ++ rest) past.front_is) in
      subst (λ l. BeginsLogOf (own_script (l ++ after)) front) (sym past.front_is) (record {
        log = log;
        run = e.again (own_script ((played ++ tail) ++ after)) (own_steps after) continues;
        begins = begins_with front rest log is;
      })

  -- ---- a front of the beginning

  -- a log of any scenario begins with the beginning of that
  begun_log : (o : ScenarioValue) (front rest : List Record) → beginning_records o.carrier (beginning_in o) ≡ front ++ rest
      → BeginsLogOf o front
  begun_log o front rest is =
      let start = beginning_records o.carrier (beginning_in o) in
      record {
        log = start;
        run = so_far o start (runs_by_carrier.starts o);
        begins = begins_with front rest start is;
      }

  first_so : (c : Bool) (b : Beginning) → (rest : List Record) × (beginning_records c b ≡ begin_record b ∷ rest)
  first_so true b = (Carrier ∷ [], refl)
  first_so false b = ([], refl)

  -- with the first record alone
  one_begun : (after : List Record) → BeginsLogOf (own_script (begin_record (beginning_in s) ∷ after)) (begin_record (beginning_in s) ∷ [])
  unfolding own_script
  one_begun after =
      let o = own_script (begin_record (beginning_in s) ∷ after) in
      let rest = first_so o.carrier (beginning_in s) in
      begun_log o (begin_record (beginning_in s) ∷ []) rest.0 rest.1

  both_begun : (after : List Record) → BeginsLogOf (own_script (begin_record (beginning_in s) ∷ Carrier ∷ after)) (begin_record (beginning_in s) ∷ Carrier ∷ [])
  unfolding own_script is_carried
  both_begun after = begun_log (own_script (begin_record (beginning_in s) ∷ Carrier ∷ after)) (begin_record (beginning_in s) ∷ Carrier ∷ []) [] refl

  beginning_front : (c : Bool) (front rest after : List Record) → beginning_records c (beginning_in s) ≡ front ++ rest
      → BeginsLogOf (own_script (front ++ after)) front
  beginning_front c [] rest after is =
      begun_log (own_script after) [] (beginning_records (own_script after).carrier (beginning_in (own_script after))) refl
  beginning_front true (first ∷ []) rest after is =
      let same : begin_record (beginning_in s) ≡ first = cc in
      subst (λ x. BeginsLogOf (own_script (x ∷ after)) (x ∷ [])) same (one_begun after)
  beginning_front true (first ∷ next ∷ []) rest after is =
      let same : begin_record (beginning_in s) ≡ first = cc in
      let also : Carrier ≡ next = cc in
      subst (λ x. BeginsLogOf (own_script (x ∷ next ∷ after)) (x ∷ next ∷ [])) same
      (subst (λ x. BeginsLogOf (own_script (begin_record (beginning_in s) ∷ x ∷ after)) (begin_record (beginning_in s) ∷ x ∷ [])) also (both_begun after))
  beginning_front true (first ∷ next ∷ item ∷ front) rest after is = let sizes = ap length is in absurd (omega (arith, sizes))
  beginning_front false (first ∷ []) rest after is =
      let same : begin_record (beginning_in s) ≡ first = cc in
      subst (λ x. BeginsLogOf (own_script (x ∷ after)) (x ∷ [])) same (one_begun after)
  beginning_front false (first ∷ next ∷ front) rest after is = let sizes = ap length is in absurd (omega (arith, sizes))

  -- ---- each front of a log

  abbrev FrontsBegin : List Record → Type 0
  FrontsBegin log = (front rest : List Record) → log ≡ front ++ rest → (after : List Record) → BeginsLogOf (own_script (front ++ after)) front

  -- a front of what was played, or of what stands after that
  fronts_after : (played log : List Record) → EndsInGroup s played log → FrontsBegin played → FrontsBegin log
  fronts_after played log e before front rest is after =
      elim (front_ends played e.tail front rest (sym e.log_is ∙ is)) [
        | inl earlier ↦ before front earlier.rest earlier.is after
        | inr past ↦ group_front played log front rest after e is past
      ]

  played_fronts : (log : List Record) → IsRunSoFar s log → FrontsBegin log
  played_fronts =
      by_runs s valid FrontsBegin
      (λ log group played before comes within. fronts_after log (log ++ group) (group_ends s valid log played group comes within) before)
      (λ front rest is after. beginning_front s.carrier front rest after is)

  -- ---- all steps were run

  -- the log has that run's scenario, whatever follows its `Finished`
  finished_own : (played log after : List Record) → IsRunLog s log → IsRunSoFar s played → FinishedSo s.carrier s played log → own_script (log ++ after) ≡ s
  finished_own played log after run is_played finished =
      let end = Finished (length s.steps) in
      let told : IsTold s played = played_told s valid played is_played in
      let all : log ++ after ≡ played ++ end ∷ after = ap (λ l. l ++ after) finished.log_is ∙ append_assoc played (end ∷ []) after in
      let size : 2 ≤ length log =
      let whole = ap length finished.log_is in
      let parts = length-append played (end ∷ []) in
      let first = ap length told.is in omega (arith, whole, parts, first) in
      let carried : is_carried (played ++ end ∷ after) ≡ s.carrier =
      ap is_carried (sym all) ∙ carrier_of s log log [] after (runs_by_carrier.begins s log run) (sym (append-nil log)) size in
      let own = own_begun s played (end ∷ after) told carried in
      let steps : (own_script (played ++ end ∷ after)).steps ≡ s.steps =
      own.steps ∙ ap (λ l. begun_steps played ++ l) (own_steps-finished (length s.steps) after) ∙ append-nil (begun_steps played)
      ∙ runs_by_carrier.all s played valid is_played finished.none in
      ap own_script all ∙ same_script (own_script (played ++ end ∷ after)) s own.beginning own.carrier steps

  nil_after : (xs ys : List Record) → [] ≡ xs ++ ys → ys ≡ []
  nil_after [] ys none = sym none
  nil_after (x ∷ xs) ys none = absurd (cc)

  finished_fronts : (played log : List Record) → IsRunLog s log → IsRunSoFar s played → FinishedSo s.carrier s played log → FrontsBegin log
  finished_fronts played log run is_played finished front rest is after =
      elim (front_ends played (Finished (length s.steps) ∷ []) front rest (sym finished.log_is ∙ is)) [
        | inl earlier ↦ played_fronts played is_played front earlier.rest earlier.is after
        | inr past ↦
            let none : [] ≡ past.more ++ rest = let e = past.ys_are in cc in
            let whole : log ≡ front = is ∙ ap (λ l. front ++ l) (nil_after past.more rest none) ∙ append-nil front in
            subst (λ o. BeginsLogOf o front) (sym (ap (λ l. own_script (l ++ after)) (sym whole) ∙ finished_own played log after run is_played finished))
            (record { log = log; run = run; begins = begins_with front rest log is })
      ]

  -- ---- each log of a run

  pub fronts_begin : (log : List Record) → IsRunLog s log → FrontsBegin log
  fronts_begin log run =
      let so = log_so s log run in
      let played = so.played in
      let is_played = so.is_played in
      elim so.ends [
        | inl stopped ↦ elim (stopped_by s.carrier s played log stopped) [
          | inl same ↦ subst FrontsBegin (sym same) (played_fronts played is_played)
          | inr cut ↦ fronts_after played log (cut_ends s valid played is_played log cut run) (played_fronts played is_played)
        ]
        | inr (inl finished) ↦ finished_fronts played log run is_played (finished_by s.carrier s played log finished)
        | inr (inr spent) ↦
            fronts_after played log (spent_ends s valid played is_played log (spent_by s.carrier s played log spent) run)
            (played_fronts played is_played)
      ]

  -- ---- a lawful log is one of its own scenario

  -- its own scenario, which is within its limits
  pub record IsOwn (log : List Record) : Type 0 where
    pub run : IsRunLog (own_script log) log
    pub script : IsScript (own_script log)

  -- the scenario without its later steps
  abbrev first_steps : ℕ → ScenarioValue
  first_steps count = record {
    settings = s.settings;
    frames = s.frames;
    carrier = s.carrier;
    members = s.members;
    steps = take count s.steps;
  }

  first_valid : (count : ℕ) → IsScript (first_steps count)
  first_valid count =
      let few = valid.steps_to in
      let size = length-take count s.steps in
      record {
        settings = valid.settings;
        frames_from = valid.frames_from;
        frames_to = valid.frames_to;
        members_from = valid.members_from;
        members_to = valid.members_to;
        members = valid.members;
        distinct = valid.distinct;
        steps_to = omega (arith, few, size);
        steps = All-take (IsStep s.settings s.carrier) count s.steps valid.steps;
      }

  continues_valid : (o : ScenarioValue) (log : List Record) (count : ℕ) → Continues s o log [] → begun_steps log ≡ take count s.steps
      → IsScript o
  continues_valid o log count continues steps =
      subst IsScript
      (sym (same_script o (first_steps count) continues.beginning continues.carrier
      (continues.steps ∙ append-nil (begun_steps log) ∙ steps))) (first_valid count)

  group_own : (played log : List Record) → EndsInGroup s played log → IsOwn log
  group_own played log e =
      let front = played ++ e.tail in
      let continues : Continues s (own_script (front ++ [])) (played ++ e.group) [] =
      tail_continues log played e.group e.tail [] [] e.run e.is_played e.is_tail (e.log_is ∙ sym (append-nil front)) in
      let same : front ++ [] ≡ log = append-nil front ∙ sym e.log_is in
      let own : Continues s (own_script log) (played ++ e.group) [] =
      subst (λ l. Continues s (own_script l) (played ++ e.group) []) same continues in
      let first = taken_steps s valid played e.is_played e.group e.comes in
      record {
        run = e.again (own_script log) [] own;
        script = continues_valid (own_script log) (played ++ e.group) first.0 own first.1;
      }

  played_own : (log : List Record) → IsRunSoFar s log → IsOwn log
  played_own log played =
      let carried : is_carried (log ++ []) ≡ s.carrier =
      ap is_carried (append-nil log) ∙ begun_carried s.carrier (beginning_in s) log (runs_by_carrier.begins s log (so_far s log played)) in
      let own : Continues s (own_script log) log [] =
      subst (λ l. Continues s (own_script l) log []) (append-nil log) (own_begun s log [] (played_told s valid log played) carried) in
      record {
        run = so_far (own_script log) log (continues_played s (own_script log) log [] own played);
        script = continues_valid (own_script log) log (begun_count log) own (runs_by_carrier.steps s log valid played);
      }

  finished_is_own : (played log : List Record) → IsRunLog s log → IsRunSoFar s played → FinishedSo s.carrier s played log → IsOwn log
  finished_is_own played log run is_played finished =
      let same : own_script log ≡ s = ap own_script (sym (append-nil log)) ∙ finished_own played log [] run is_played finished in
      record { run = subst (λ o. IsRunLog o log) (sym same) run; script = subst IsScript (sym same) valid }

  pub is_own : (log : List Record) → IsRunLog s log → IsOwn log
  is_own log run =
      let so = log_so s log run in
      let played = so.played in
      let is_played = so.is_played in
      elim so.ends [
        | inl stopped ↦ elim (stopped_by s.carrier s played log stopped) [
          | inl same ↦ subst IsOwn (sym same) (played_own played is_played)
          | inr cut ↦ group_own played log (cut_ends s valid played is_played log cut run)
        ]
        | inr (inl finished) ↦ finished_is_own played log run is_played (finished_by s.carrier s played log finished)
        | inr (inr spent) ↦ group_own played log (spent_ends s valid played is_played log (spent_by s.carrier s played log spent) run)
      ]
