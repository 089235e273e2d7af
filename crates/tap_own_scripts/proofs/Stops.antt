-- Where the log of a run may stop that begins with the records of a run.
use Rattle.std.proofs.Common.{◌≡◌, ◌⊎◌, inl, inr, ◌+◌, ◌<◌, ◌≤◌, Bool, true, false, List, [], ◌∷◌, ◌++◌, length, take, None, Some, refl, ap, sym, subst, ◌∙◌, arith, append-nil, append_assoc, length-append}
use Rattle.std.proofs.lemmas.List.{length-take-le}
use Rattle.tap_scenario.specs.Scenario.{ScenarioValue}
use Rattle.tap_log.specs.declared.record.Record.{Record}
use Rattle.tap_log.specs.declared.record.Record.TheVariants.{Step as StepRecord, Taken, Finished, Spent, Arrived, Ticked}
use Rattle.tap_log.specs.Counts.{sent_count}
use Rattle.tap_log.specs.Reduced.{reduced}
use Rattle.tap_history.specs.Refusals.{first_refusal}
use Rattle.tap_lawful.specs.Next.{begun_count, uncarried_next_group}
use Rattle.tap_lawful.specs.PlayedLaws.{BeginsWith}
use Rattle.tap_lawful.specs.RootSets.{with_roots}
use Rattle.tap_lawful.specs.Runs.{IsFinishedBy, IsPlayedBy, IsRunLog, IsRunSoFar, IsSpentBy, IsStoppedBy, IsWholeLogBy, IsWholeRunLog, comes_next, next_records}
use Rattle.tap_lawful.proofs.CarriedComing.{begun_head, carried_coming}
use Rattle.tap_lawful.proofs.CarriedOneLog.{played_compared as carried_compared, same_over as carried_same_over}
use Rattle.tap_lawful.proofs.Coming.{coming}
use Rattle.tap_lawful.proofs.OneLog.{played_compared as plain_compared, same_over as plain_same_over}
use Rattle.tap_lawful.proofs.Played.{sent_no_fewer}
use Rattle.tap_lawful.proofs.SameGroups.{Compared, GoesOn, begins_with}
use Rattle.tap_lawful.proofs.Uncarried.{uncarried_coming}
use Rattle.tap_own_scripts.specs.Stops.{GoesPast, LogsStop}
use Rattle.tap_own_scripts.proofs.Fronts.{begins_through, size_of}
use Rattle.tap_own_scripts.proofs.Logs.{CutSo, EndsBy, SpentSo, cut_next, finished_by, kept_of, log_so, spent_by, stopped_by}

-- ---- what comes next

one_more : (first : Record) (items group : List Record) → first ∷ items ≡ group → 1 ≤ length group
one_more first items group is = let size = ap length is in omega (arith, size)

-- a group that comes next has a record
some_group : (c : Bool) (s : ScenarioValue) (log group : List Record) → comes_next c s log ≡ Some group → 1 ≤ length group
some_group true s log group comes =
    elim (carried_coming s log group comes) [
      | inl arrives ↦ one_more (Arrived arrives.line.number) _ group arrives.is
      | inr (inl ticks) ↦ one_more Ticked _ group ticks.is
      | inr (inr begun) ↦
          let index = begun_count log + 1 in
          let head = begun_head s.settings log index begun.step (first_refusal log begun.step) in
          one_more (StepRecord index begun.step) head.0 group (head.1 ∙ begun.is)
    ]
some_group false s log group comes =
    let next = uncarried_coming s log group comes in
    let less = reduced log in
    elim (coming s less next.plain next.comes) [
      | inl taken ↦ one_more (Taken taken.number) _ group (ap (with_roots s.settings log) taken.is ∙ next.is)
      | inr begun ↦
          one_more (StepRecord (begun_count less + 1) begun.step) _ group (ap (with_roots s.settings log) begun.is ∙ next.is)
    ]

pub same_next : (c : Bool) (s : ScenarioValue) (log one other : List Record) → comes_next c s log ≡ Some one → comes_next c s log ≡ Some other
    → one ≡ other
same_next c s log one other comes also = let both = sym comes ∙ also in cc

pub within_by : (c : Bool) (s : ScenarioValue) (log : List Record) → IsPlayedBy c s log → sent_count log ≤ s.frames
within_by true s log played = played.within
within_by false s log played = played.within

compared_by : (c : Bool) (s : ScenarioValue) (one other : List Record) → IsPlayedBy c s one → IsPlayedBy c s other
    → Compared (comes_next c s) one other
compared_by true s one other played also = carried_compared s one other played also
compared_by false s one other played also = plain_compared (uncarried_next_group s) s one other played also

-- ---- how a log ends

module _ (c : Bool) (s : ScenarioValue) where
  -- the run is over
  abbrev pub Over : List Record → List Record → Type 0
  Over played log = IsFinishedBy c s played log ⊎ IsSpentBy c s played log

  over_rest : (played log : List Record) → Over played log → (rest : List Record) × (log ≡ played ++ rest)
  over_rest played log (inl finished) = let so = finished_by c s played log finished in (Finished (length s.steps) ∷ [], so.log_is)
  over_rest played log (inr spent) = let so = spent_by c s played log spent in (kept_of c so.group ++ Spent s.frames ∷ [], so.log_is)

  -- each log begins with what was played
  rest_of : (played log : List Record) → EndsBy c s played log → (rest : List Record) × (log ≡ played ++ rest)
  rest_of played log (inl stopped) =
      elim (stopped_by c s played log stopped) [
        | inl same ↦ ([], same ∙ sym (append-nil played))
        | inr so ↦ (take so.cut.kept so.cut.group, so.cut.log_is)
      ]
  rest_of played log (inr over) = over_rest played log over

  -- the group may be sent, so the run isn't over
  pub not_over : (played log group : List Record) → comes_next c s played ≡ Some group → sent_count (played ++ group) ≤ s.frames
      → Over played log → ⊥
  not_over played log group comes within (inl finished) =
      let so = finished_by c s played log finished in
      let both = sym so.none ∙ comes in absurd (cc)
  not_over played log group comes within (inr spent) =
      let so = spent_by c s played log spent in
      let same = same_next c s played so.group group so.next comes in
      let over = subst (λ g. s.frames < sent_count (played ++ g)) same so.over in
      absurd (omega (arith, over, within))

  cut_size : (played log : List Record) (so : CutSo c s played log) → length log ≡ length played + so.cut.kept
  cut_size played log so =
      let cut = so.cut in
      let few = cut.few in
      let front = length-take-le cut.kept cut.group (let e : cut.kept ≤ length cut.group = omega (arith, few) in e) in
      ap length cut.log_is ∙ length-append played (take cut.kept cut.group) ∙ ap (λ n. length played + n) front

  -- a log that stops is shorter than one with the whole group
  stops_before : (played log group : List Record) → comes_next c s played ≡ Some group → IsStoppedBy c s played log
      → length log < length played + length group
  stops_before played log group comes stopped =
      elim (stopped_by c s played log stopped) [
        | inl same ↦
            let size = ap length same in
            let some = some_group c s played group comes in omega (arith, size, some)
        | inr so ↦
            let size = cut_size played log so in
            let few = so.cut.few in
            let sizes = ap length (same_next c s played so.cut.group group (cut_next c s played log so) comes) in
            omega (arith, size, few, sizes)
      ]

-- ---- where a log stops

module _ (s : ScenarioValue) (before log : List Record) (played : IsRunSoFar s before) (run : IsRunLog s log) (begins : BeginsWith before log) where
  abbrev GoesAfter : List Record → List Record → Type 0
  GoesAfter = GoesOn (next_records s)

  -- what goes on begins with the group, which may be sent
  group_within : (one other : List Record) → IsRunSoFar s other → (on : GoesAfter one other) → sent_count (one ++ on.group) ≤ s.frames
  group_within one other also on =
      let fewer = sent_no_fewer (one ++ on.group) on.later in
      let all = subst (λ l. sent_count l ≤ s.frames) on.is (within_by s.carrier s other also) in
      omega (arith, fewer, all)

  goes_past : (other : List Record) → IsRunSoFar s other → EndsBy s.carrier s other log → GoesAfter before other → GoesPast s before log
  goes_past other also ends on =
      let rest = rest_of s.carrier s other log ends in
      record {
        after = before ++ on.group;
        comes = record { group = on.group; comes = on.comes; within = group_within before other also on; is = refl };
        begins = begins_with (before ++ on.group) (on.later ++ rest.0) log
            (rest.1 ∙ ap (λ l. l ++ rest.0) on.is ∙ append_assoc (before ++ on.group) on.later rest.0);
      }

  -- a log of the run isn't shorter
  not_shorter : (other : List Record) → EndsBy s.carrier s other log → GoesAfter other before → ⊥
  not_shorter other (inl stopped) on =
      let less = stops_before s.carrier s other log on.group on.comes stopped in
      let size = size_of before log begins in
      let whole = ap length on.is in
      let parts = length-append (other ++ on.group) on.later in
      let first = length-append other on.group in
      absurd (omega (arith, less, size, whole, parts, first))
  not_shorter other (inr over) on =
      not_over s.carrier s other log on.group on.comes (group_within other before played on) over

  pub stops : EndsBy s.carrier s before log ⊎ GoesPast s before log
  stops =
      let so = log_so s log run in
      elim (compared_by s.carrier s before so.played played so.is_played) [
        | inl same ↦ inl (subst (λ l. EndsBy s.carrier s l log) (sym same) so.ends)
        | inr (inl on) ↦ inr (goes_past so.played so.is_played so.ends on)
        | inr (inr on) ↦ absurd (not_shorter so.played so.ends on)
      ]

  stops_so : IsStoppedBy s.carrier s before log ⊎ (GoesPast s before log ⊎ (IsFinishedBy s.carrier s before log ⊎ IsSpentBy s.carrier s before log))
  stops_so =
      elim stops [
        | inl (inl stopped) ↦ inl stopped
        | inl (inr over) ↦ inr (inr over)
        | inr past ↦ inr (inl past)
      ]

  -- if no group comes next, the log stops here or is finished
  last : next_records s before ≡ None → (log ≡ before) ⊎ (log ≡ before ++ Finished (length s.steps) ∷ [])
  last none =
      elim stops [
        | inl (inl stopped) ↦ elim (stopped_by s.carrier s before log stopped) [
          | inl same ↦ inl same
          | inr so ↦ let both = sym none ∙ cut_next s.carrier s before log so in absurd (cc)
        ]
        | inl (inr (inl finished)) ↦ inr (finished_by s.carrier s before log finished).log_is
        | inl (inr (inr spent)) ↦ let both = sym none ∙ (spent_by s.carrier s before log spent).next in absurd (cc)
        | inr past ↦ let both = sym none ∙ past.comes.comes in absurd (cc)
      ]

-- ---- a log that begins with a whole one is it

pub same_over : (c : Bool) (s : ScenarioValue) (played one other : List Record) → Over c s played one → Over c s played other → one ≡ other
same_over true s played one other over also = carried_same_over s played one other over also
same_over false s played one other over also = plain_same_over (uncarried_next_group s) s played one other over also

-- what was played, and how the run is over
record WholeSo (s : ScenarioValue) (log : List Record) : Type 0 where
  played : List Record
  is_played : IsRunSoFar s played
  over : Over s.carrier s played log

whole_by : (c : Bool) (s : ScenarioValue) (log : List Record) → IsWholeLogBy c s log
    → (played : List Record) × IsPlayedBy c s played × Over c s played log
whole_by true s log whole = (whole.played, whole.is_played, whole.over)
whole_by false s log whole = (whole.played, whole.is_played, whole.over)

whole_so : (s : ScenarioValue) (log : List Record) → IsWholeRunLog s log → WholeSo s log
whole_so s log whole = let so = whole_by s.carrier s log whole in record { played = so.0; is_played = so.1; over = so.2 }

-- a log that stops isn't as long as a whole one
whole_longer : (c : Bool) (s : ScenarioValue) (played one other : List Record) → Over c s played one → IsStoppedBy c s played other
    → length other < length one
whole_longer c s played one other (inl finished) stopped =
    let so = finished_by c s played one finished in
    let size = ap length so.log_is in
    let parts = length-append played (Finished (length s.steps) ∷ []) in
    elim (stopped_by c s played other stopped) [
      | inl same ↦ let sizes = ap length same in omega (arith, size, parts, sizes)
      | inr cut ↦ let both = sym so.none ∙ cut_next c s played other cut in absurd (cc)
    ]
whole_longer c s played one other (inr spent) stopped =
    let so = spent_by c s played one spent in
    let kept = kept_of c so.group in
    let size = ap length so.log_is in
    let parts = length-append played (kept ++ Spent s.frames ∷ []) in
    let last = length-append kept (Spent s.frames ∷ []) in
    elim (stopped_by c s played other stopped) [
      | inl same ↦ let sizes = ap length same in omega (arith, size, parts, last, sizes)
      | inr cut ↦ cut_longer c s played other so cut size parts last
    ]
  where
    -- the first record of the group stands, and after it that too many frames would be sent
    cut_longer : (c : Bool) (s : ScenarioValue) (played other : List Record) (so : SpentSo c s played one) (cut : CutSo c s played other)
        → length one ≡ length (played ++ (kept_of c so.group ++ Spent s.frames ∷ []))
        → length (played ++ (kept_of c so.group ++ Spent s.frames ∷ [])) ≡ length played + length (kept_of c so.group ++ Spent s.frames ∷ [])
        → length (kept_of c so.group ++ Spent s.frames ∷ []) ≡ length (kept_of c so.group) + 1 → length other < length one
    cut_longer true s played other so cut size parts last =
        let group : cut.cut.group ≡ so.group = same_next true s played cut.cut.group so.group (cut_next true s played other cut) so.next in
        let over = subst (λ g. s.frames < sent_count (played ++ g)) (sym group) so.over in
        let one = cut.cut.first over in
        let few = cut.cut.few in
        let sizes = ap length group in
        let first = length-take-le 1 so.group (let e : 1 ≤ length so.group = omega (arith, one, few, sizes) in e) in
        let short = cut_size true s played other cut in
        omega (arith, size, parts, last, one, first, short)
    cut_longer false s played other so cut size parts last = let wrong : false ≡ true = cut.carried in absurd (cc)

ended : (s : ScenarioValue) (one other : List Record) → IsWholeRunLog s one → IsRunLog s other → BeginsWith one other → other ≡ one
ended s one other whole run begins =
    let so = whole_so s one whole in
    let rest = over_rest s.carrier s so.played one so.over in
    let front = begins_through so.played one other (begins_with so.played rest.0 one rest.1) begins in
    elim (stops s so.played other so.is_played run front) [
      | inl (inl stopped) ↦
          let less = whole_longer s.carrier s so.played one other so.over stopped in
          let size = size_of one other begins in absurd (omega (arith, less, size))
      | inl (inr over) ↦ same_over s.carrier s so.played other one over so.over
      | inr past ↦ absurd (not_over s.carrier s so.played one past.comes.group past.comes.comes past.comes.within so.over)
    ]

pub logs_stop : LogsStop
logs_stop = record { stops = stops_so; last = last; ended = ended }
