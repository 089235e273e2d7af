-- However a run has ended, its log is a shape.
use Rattle.std.proofs.Common.{◌≡◌, inl, inr, ◌+◌, ◌≤◌, Bool, true, false, List, [], ◌∷◌, ◌++◌, length, take, All, Option, None, Some, refl, sym, subst, ap, ◌∙◌, arith, append_assoc, append-nil}
use Rattle.std.specs.List.{cons_option}
use Rattle.std.specs.Prelude.{not}
use Rattle.std.specs.Option.{IfSome}
use Rattle.std.proofs.lemmas.Bool.{cases_lt}
use Rattle.std.proofs.lemmas.List.{length-take}
use Rattle.std.proofs.lemmas.List.Elements.{All-append, All-cons, All-contains, All-filter, All-head, All-nil, All-tail, All-take}
use Rattle.tap_scenario.specs.declared.step.Step.{Step}
use Rattle.tap_scenario.specs.Scenario.{IsScript, ScenarioValue}
use Rattle.tap_scenario.specs.Step.{IsStep}
use Rattle.tap_log.specs.declared.record.Record.{Record}
use Rattle.tap_log.specs.declared.record.Record.TheVariants.{Arrived, Finished, Packet, Spent, Step as StepRecord, Ticked}
use Rattle.tap_log.specs.Counts.{sent_count}
use Rattle.tap_log.specs.Kinds.{is_carried}
use Rattle.tap_log.specs.Log.{begun_steps}
use Rattle.tap_log.specs.Reduced.{reduced}
use Rattle.tap_shape.specs.Shape.{IsShape, IsShaped}
use Rattle.tap_packets.specs.Packets.{PacketLine, lines_under_way, made_packet, packet_lines, packets_ended}
use Rattle.tap_history.specs.Moments.{has_number}
use Rattle.tap_runs.specs.Beginning.{begin_record}
use Rattle.tap_carried.specs.LogTurns.{beginning_records}
use Rattle.tap_lawful.specs.CarriedDue.{carried_due}
use Rattle.tap_lawful.specs.CarriedDue.Due.{ArrivalDue}
use Rattle.tap_lawful.specs.CarriedRuns.{CarriedComesNext, IsCarriedCut, IsCarriedLogOf, IsCarriedPlayed, IsCarriedScript, IsCarriedSpent}
use Rattle.tap_lawful.specs.Lawful.{IsUncarriedLogOf, IsUncarriedPlayed, UncarriedComesNext, step_alone}
use Rattle.tap_lawful.specs.Next.{beginning_in, begun_count}
use Rattle.tap_lawful.specs.Runs.{IsLawful, IsLogBy, IsRunLog}
use Rattle.tap_lawful.proofs.CarriedChoosing.{arrival_due, due_back}
use Rattle.tap_lawful.proofs.CarriedComing.{begun_head, carried_coming}
use Rattle.tap_lawful.proofs.CarriedGrowth.{carried_more, carried_steps}
use Rattle.tap_lawful.proofs.Coming.{coming}
use Rattle.tap_lawful.proofs.Uncarried.{uncarried_coming}
use Rattle.tap_lawful.proofs.UncarriedLogs.{alone_same, same_steps, uncarried_steps}
use Rattle.tap_safe_runs.proofs.Ended.{finished_is_carried, spent_is_carried, step_is_carried}
use Rattle.tap_history.specs.Refusals.{first_refusal}
use Rattle.tap_headline.proofs.Runs.{run_logs_follow}
use Rattle.tap_lawful_shapes.specs.Laws.{LogsAreShapes}
use Rattle.tap_lawful_shapes.proofs.Groups.{IsLow, few_frames}
use Rattle.tap_lawful_shapes.proofs.Packets.{FitsPackets}
use Rattle.tap_lawful_shapes.proofs.Told.{All-later, CastsAreKnown}
use Rattle.tap_lawful_shapes.proofs.Uncarried.{next_fits, next_low}
use Rattle.tap_lawful_shapes.proofs.Whole.{IsShapedLog, carried_shaped, same_tail, uncarried_shaped}

-- ---- what stands at the end

module _ (s : ScenarioValue) (valid : IsScript s) where
  -- the scenario without its steps
  bare : IsScript (record { settings = s.settings; frames = s.frames; carrier = s.carrier; members = s.members; steps = [] })
  bare = record {
    settings = valid.settings;
    frames_from = valid.frames_from;
    frames_to = valid.frames_to;
    members_from = valid.members_from;
    members_to = valid.members_to;
    members = valid.members;
    distinct = valid.distinct;
    steps_to = omega arith;
    steps = All-nil (IsStep s.settings s.carrier);
  }

  spent_fits : (c : Bool) → IsShaped s.settings c (Spent s.frames)
  unfolding IsShaped
  spent_fits c = let most = valid.frames_to in let all = few_frames s.settings.digits in omega (arith, most, all)

  finished_fits : (c : Bool) → IsShaped s.settings c (Finished (length s.steps))
  unfolding IsShaped
  finished_fits c = let few = valid.steps_to in omega (arith, few)

  step_fits : (played : List Record) (step : Step) → begun_steps played ≡ take (begun_count played) s.steps
      → IsStep s.settings s.carrier step → IsShaped s.settings s.carrier (StepRecord (begun_count played + 1) step)
  unfolding IsShaped
  step_fits played step steps fits = (next_low s valid played steps, fits)

  few_steps : (log : List Record) → IsRunLog s log → length (begun_steps log) ≤ 10000
  few_steps log of =
      let same = ap length (run_logs_follow s log valid of).steps in
      let size = length-take (begun_count log) s.steps in
      let most = valid.steps_to in
      omega (arith, same, size, most)

  module _ (c : Bool) (carrier : s.carrier ≡ c) where
    abbrev P : Record → Type 0
    P = IsShaped s.settings c

    one_all : (item : Record) → P item → All P (item ∷ [])
    one_all item is = All-cons P item [] is (All-nil P)

    with_end : (played end : List Record) → IsShapedLog s c played → All P end → is_carried (played ++ end) ≡ c
        → length (begun_steps (played ++ end)) ≤ 10000 → IsShape (played ++ end)
    with_end played end log right carried few =
        let all = log.items ++ end in
        let kind : is_carried (played ++ end) ≡ s.carrier = carried ∙ sym carrier in
        record {
          settings = s.settings;
          frames = s.frames;
          members = s.members;
          items = all;
          is = ap (λ l. l ++ end) log.is;
          valid =
              subst (λ k. IsScript (record { settings = s.settings; frames = s.frames; carrier = k; members = s.members; steps = [] })) (sym kind)
              bare;
          few = few;
          shaped = subst (λ k. All (IsShaped s.settings k) all) (sym carried) (All-append P log.items end log.shaped right);
        }

-- ---- a run that isn't carried

module _ (known : CastsAreKnown) (s : ScenarioValue) (valid : IsScript s) (carrier : s.carrier ≡ false) (played : List Record)
    (is_played : IsUncarriedPlayed s played) where
  shaped : IsShapedLog s false played
  shaped = uncarried_shaped s valid known carrier played is_played

  plain_ends : (end : List Record) → All (IsShaped s.settings false) end → is_carried (played ++ end) ≡ is_carried played
      → length (begun_steps (played ++ end)) ≤ 10000 → IsShape (played ++ end)
  plain_ends end all same few = with_end s valid false carrier played end shaped all (same ∙ shaped.carried) few

  -- with what stands of the group that would send too many frames
  abbrev EndsShaped : List Record → Type 0
  EndsShaped alone = length (begun_steps (played ++ (alone ++ Spent s.frames ∷ []))) ≤ 10000 → IsShape (played ++ (alone ++ Spent s.frames ∷ []))

  nothing_alone : EndsShaped []
  nothing_alone few =
      plain_ends (Spent s.frames ∷ []) (one_all s valid false carrier (Spent s.frames) (spent_fits s valid false))
      (spent_is_carried played s.frames) few

  begun_step : (step : Step) → IsStep s.settings s.carrier step → EndsShaped (StepRecord (begun_count played + 1) step ∷ [])
  begun_step step fits few =
      let item = StepRecord (begun_count played + 1) step in
      let is = step_fits s valid played step (uncarried_steps s valid played is_played) fits in
      plain_ends (item ∷ Spent s.frames ∷ [])
      (All-cons (IsShaped s.settings false) item (Spent s.frames ∷ []) (subst (λ c. IsShaped s.settings c item) carrier is)
      (one_all s valid false carrier (Spent s.frames) (spent_fits s valid false)))
      (ap is_carried (sym (append_assoc played (item ∷ []) (Spent s.frames ∷ [])))
      ∙ spent_is_carried (played ++ item ∷ []) s.frames ∙ step_is_carried played (begun_count played + 1) step) few

  alone_ends : (group : List Record) → UncarriedComesNext s played group → EndsShaped (step_alone group)
  unfolding step_alone
  alone_ends group comes =
      let next = uncarried_coming s played group comes in
      let less = reduced played in
      let same : step_alone group ≡ step_alone next.plain = ap step_alone (sym next.is) ∙ alone_same s.settings played next.plain in
      let count : begun_count less ≡ begun_count played = ap length (same_steps played) in
      subst EndsShaped (sym same) (
      elim (coming s less next.plain next.comes) [
        | inl takes ↦ subst (λ g. EndsShaped (step_alone g)) takes.is nothing_alone
        | inr begins ↦
            subst (λ g. EndsShaped (step_alone g)) begins.is
            (subst (λ n. EndsShaped (StepRecord (n + 1) begins.step ∷ [])) (sym count)
            (begun_step begins.step (next_fits s valid less begins.step begins.next)))
      ]
      )

pub uncarried_shape : CastsAreKnown → (s : ScenarioValue) (log : List Record) → IsScript s → s.carrier ≡ false → IsUncarriedLogOf s log
    → length (begun_steps log) ≤ 10000 → IsShape log
uncarried_shape known s log valid carrier of few =
    let played = of.played in
    let is = of.is_played in
    elim of.ending [
      | inl whole ↦
          let same : log ≡ played ++ [] = whole ∙ sym (append-nil played) in
          subst IsShape (sym same)
          (plain_ends known s valid carrier played is [] (All-nil (IsShaped s.settings false)) (ap is_carried (append-nil played))
          (subst (λ l. length (begun_steps l) ≤ 10000) same few))
      | inr (inl finished) ↦
          subst IsShape (sym finished.log_is)
          (plain_ends known s valid carrier played is (Finished (length s.steps) ∷ [])
          (one_all s valid false carrier (Finished (length s.steps)) (finished_fits s valid false))
          (finished_is_carried played (length s.steps)) (subst (λ l. length (begun_steps l) ≤ 10000) finished.log_is few))
      | inr (inr spent) ↦
          subst IsShape (sym spent.log_is)
          (alone_ends known s valid carrier played is spent.group spent.next (subst (λ l. length (begun_steps l) ≤ 10000) spent.log_is few))
    ]

-- ---- a carried run

abbrev HasLowNumber : PacketLine → Type 0
HasLowNumber line = IsLow line.number

line_low : (item : Record) → FitsPackets item → IfSome (made_packet item) HasLowNumber
unfolding FitsPackets made_packet
line_low (Packet number frame ack) fits = fits.0
line_low item fits = tt

one_low : (one : Option PacketLine) → IfSome one HasLowNumber → (rest : List PacketLine) → All HasLowNumber rest
    → All HasLowNumber (cons_option one rest)
one_low None is rest all = all
one_low (Some line) is rest all = All-cons HasLowNumber line rest is all

-- the packets of a log have low numbers
lines_low : (log : List Record) → All FitsPackets log → All HasLowNumber (packet_lines log)
lines_low [] all = All-nil HasLowNumber
lines_low (item ∷ items) all =
    one_low (made_packet item) (line_low item (All-head FitsPackets item items all)) (packet_lines items)
    (lines_low items (All-tail FitsPackets item items all))

module _ (known : CastsAreKnown) (s : ScenarioValue) (script : IsCarriedScript s) where
  abbrev valid : IsScript s
  valid = script.valid

  -- the log begins with `Begin` and `Carrier`, whatever stands after it
  carried_on : (played end : List Record) → IsCarriedPlayed s played → is_carried (played ++ end) ≡ true
  unfolding is_carried
  carried_on played end is_played =
      let run : IsRunLog s played =
      subst (λ c. IsLogBy c s played) (sym script.carried) (record { played = played; is_played = is_played; ending = inl refl }) in
      let begins = (run_logs_follow s played valid run).begins in
      let same : played ≡ beginning_records true (beginning_in s) ++ begins.0 =
      begins.1 ∙ ap (λ c. beginning_records c (beginning_in s) ++ begins.0) script.carried in
      ap (λ l. is_carried (l ++ end)) same

  module _ (played : List Record) (is_played : IsCarriedPlayed s played) where
    carried_log : IsShapedLog s true played
    carried_log = carried_shaped s script known played is_played

    carried_ends : (end : List Record) → All (IsShaped s.settings true) end → length (begun_steps (played ++ end)) ≤ 10000
        → IsShape (played ++ end)
    carried_ends end all few = with_end s valid true script.carried played end carried_log all (carried_on played end is_played) few

    -- the first record of the group that comes next
    record HasShapedOpening (group : List Record) : Type 0 where
      first : Record
      items : List Record
      is : first ∷ items ≡ group
      fits : IsShaped s.settings true first

    arrived_fits : (line : PacketLine) → carried_due played ≡ Some (ArrivalDue line) → IsShaped s.settings true (Arrived line.number)
    unfolding IsShaped
    arrived_fits line due =
        let there = (arrival_due played line (due_back played (ArrivalDue line) due)).0 in
        All-contains HasLowNumber (lines_under_way played) line
        (All-filter (λ other. not (has_number (packets_ended played) other.number)) HasLowNumber (packet_lines played)
        (lines_low played carried_log.packets)) there

    opening : (group : List Record) → CarriedComesNext s played group → HasShapedOpening group
    unfolding IsShaped
    opening group comes =
        elim (carried_coming s played group comes) [
          | inl arrives ↦ record { first = Arrived arrives.line.number; items = _; is = arrives.is; fits = arrived_fits arrives.line arrives.due }
          | inr (inl ticks) ↦ record { first = Ticked; items = _; is = ticks.is; fits = tt }
          | inr (inr begins) ↦
              let head = begun_head s.settings played (begun_count played + 1) begins.step (first_refusal played begins.step) in
              let fits = step_fits s valid played begins.step (carried_steps s played script is_played)
              (next_fits s valid played begins.step begins.next) in
              record {
                first = StepRecord (begun_count played + 1) begins.step;
                items = head.0;
                is = head.1 ∙ begins.is;
                fits = subst (λ c. IsShaped s.settings c (StepRecord (begun_count played + 1) begins.step)) script.carried fits;
              }
        ]

    first_fits : (group : List Record) → CarriedComesNext s played group → All (IsShaped s.settings true) (take 1 group)
    first_fits group comes =
        let o = opening group comes in
        subst (λ g. All (IsShaped s.settings true) (take 1 g)) o.is (one_all s valid true script.carried o.first o.fits)

    -- the whole group, if it doesn't send too many frames
    group_fits : (group : List Record) → CarriedComesNext s played group → sent_count (played ++ group) ≤ s.frames
        → All (IsShaped s.settings true) group
    group_fits group comes within =
        let longer = carried_shaped s script known (played ++ group) (carried_more s played group script is_played comes within) in
        let same : longer.items ≡ carried_log.items ++ group =
        same_tail (begin_record (beginning_in s)) longer.items (carried_log.items ++ group)
        (sym longer.is ∙ ap (λ l. l ++ group) carried_log.is) in
        All-later (IsShaped s.settings true) carried_log.items group (subst (All (IsShaped s.settings true)) same longer.shaped)

    spent_shape : (log : List Record) → IsCarriedSpent s played log → length (begun_steps log) ≤ 10000 → IsShape log
    spent_shape log spent few =
        let end = take 1 spent.group ++ Spent s.frames ∷ [] in
        subst IsShape (sym spent.log_is)
        (carried_ends end
        (All-append (IsShaped s.settings true) (take 1 spent.group) (Spent s.frames ∷ []) (first_fits spent.group spent.next)
        (one_all s valid true script.carried (Spent s.frames) (spent_fits s valid true)))
        (subst (λ l. length (begun_steps l) ≤ 10000) spent.log_is few))

    cut_shape : (log : List Record) → IsCarriedCut s played log → length (begun_steps log) ≤ 10000 → IsShape log
    cut_shape log cut few =
        let group = cut.group in
        let all : All (IsShaped s.settings true) (take cut.kept group) =
        elim (cases_lt s.frames (sent_count (played ++ group))) [
          | inl over ↦ subst (λ k. All (IsShaped s.settings true) (take k group)) (sym (cut.first over)) (first_fits group cut.next)
          | inr within ↦ All-take (IsShaped s.settings true) cut.kept group (group_fits group cut.next within)
        ] in
        subst IsShape (sym cut.log_is) (carried_ends (take cut.kept group) all (subst (λ l. length (begun_steps l) ≤ 10000) cut.log_is few))

  pub carried_shape : (log : List Record) → IsCarriedLogOf s log → length (begun_steps log) ≤ 10000 → IsShape log
  carried_shape log of few =
      let played = of.played in
      let is = of.is_played in
      elim of.ending [
        | inl whole ↦
            let same : log ≡ played ++ [] = whole ∙ sym (append-nil played) in
            subst IsShape (sym same)
            (carried_ends played is [] (All-nil (IsShaped s.settings true)) (subst (λ l. length (begun_steps l) ≤ 10000) same few))
        | inr (inl (inl finished)) ↦
            subst IsShape (sym finished.log_is)
            (carried_ends played is (Finished (length s.steps) ∷ [])
            (one_all s valid true script.carried (Finished (length s.steps)) (finished_fits s valid true))
            (subst (λ l. length (begun_steps l) ≤ 10000) finished.log_is few))
        | inr (inl (inr spent)) ↦ spent_shape played is log spent few
        | inr (inr cut) ↦ cut_shape played is log cut few
      ]

-- ---- each run

shape_by : (c : Bool) → CastsAreKnown → (s : ScenarioValue) (log : List Record) → s.carrier ≡ c → IsScript s → IsLogBy c s log
    → length (begun_steps log) ≤ 10000 → IsShape log
shape_by true known s log carrier valid of few = carried_shape known s (record { valid = valid; carried = carrier }) log of few
shape_by false known s log carrier valid of few = uncarried_shape known s log valid carrier of few

module _ (known : CastsAreKnown) where
  run_shape : (s : ScenarioValue) (log : List Record) → IsScript s → IsRunLog s log → IsShape log
  run_shape s log valid of = shape_by s.carrier known s log refl valid of (few_steps s valid log of)

  lawful_shape : (log : List Record) → IsLawful log → IsShape log
  lawful_shape log is = run_shape is.script log is.valid is.run

  pub logs_are_shapes : LogsAreShapes
  logs_are_shapes = record {
    runs = run_shape;
    lawful = lawful_shape;
    texts = λ log is. (record { shape = lawful_shape log is; text = inl refl }, record { shape = lawful_shape log is; text = inr refl });
  }
