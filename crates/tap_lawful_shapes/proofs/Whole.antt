-- Each record of the log of a run that isn't over has its shape.
use Rattle.std.proofs.Common.{◌≡◌, inl, inr, ℕ, ◌≤◌, Bool, true, false, not, cond, List, [], ◌∷◌, ◌++◌, All, refl, sym, subst, ap, ◌∙◌, arith, append_assoc}
use Rattle.std.proofs.lemmas.List.Elements.{All-append, All-cons, All-head, All-nil, All-tail, All-weaker}
use Rattle.tap_name.specs.Name.{IsName}
use Rattle.tap_name.specs.Settings.{SettingsValue}
use Rattle.tap_scenario.specs.declared.step.Step.{Step}
use Rattle.tap_scenario.specs.declared.step.Step.TheVariants.{RootSet}
use Rattle.tap_scenario.specs.Scenario.{IsScript, ScenarioValue}
use Rattle.tap_scenario.specs.Step.{IsStep}
use Rattle.tap_log.specs.declared.record.Record.{Record}
use Rattle.tap_log.specs.declared.record.Record.TheVariants.{Arrived, Carrier, Lost, Packet, RootsOf, Step as StepRecord, Ticked}
use Rattle.tap_log.specs.Counts.{sent_count}
use Rattle.tap_log.specs.Kinds.{is_carried}
use Rattle.tap_log.specs.Reduced.{is_added, reduced}
use Rattle.tap_shape.specs.Shape.{IsShaped}
use Rattle.tap_runs.specs.Beginning.{Beginning, begin_record}
use Rattle.tap_carried.specs.LogTurns.{beginning_records}
use Rattle.tap_carried.specs.ReducedRuns.{IsRunOfTurns}
use Rattle.tap_carried.proofs.BeginningKept.{log_kept}
use Rattle.tap_carried.proofs.ReducedRuns.{runs_reduce}
use Rattle.tap_lawful.specs.CarriedRuns.{CarriedComesNext, IsCarriedPlayed, IsCarriedScript}
use Rattle.tap_lawful.specs.Lawful.{IsUncarriedPlayed, UncarriedComesNext}
use Rattle.tap_lawful.specs.Next.{beginning_in, uncarried_next_group}
use Rattle.tap_lawful.specs.RootSets.{roots_told, told_after, with_roots}
use Rattle.tap_lawful.proofs.CarriedReduction.{by_carried, run_more, run_starts, script_steps}
use Rattle.tap_lawful.proofs.CarriedRunMoves.{carried_groups_move}
use Rattle.tap_lawful.proofs.CarriedTurns.{turn_of_group}
use Rattle.tap_lawful.proofs.Coming.{coming}
use Rattle.tap_lawful.proofs.Played.{by_next}
use Rattle.tap_lawful.proofs.Uncarried.{ComesReduced, UncarriedSoFar, far_more, far_starts, grown_is, turn_next, uncarried_coming}
use Rattle.tap_lawful_shapes.proofs.Carried.{carried_near, opens_step, packets_few}
use Rattle.tap_lawful_shapes.proofs.Groups.{IsLow, IsNearRun, few_frames}
use Rattle.tap_lawful_shapes.proofs.Packets.{FitsPackets, kept_packets, packets_fit}
use Rattle.tap_lawful_shapes.proofs.Roots.{FitsRoots, HasNamedRootSet, group_fits}
use Rattle.tap_lawful_shapes.proofs.Told.{All-later, CastsAreKnown, shaped_later}
use Rattle.tap_lawful_shapes.proofs.Uncarried.{next_fits, uncarried_near}

-- ---- what the reduced log leaves out

-- a record that the reduced log keeps
abbrev IsOfReduced : Record → Type 0
IsOfReduced item = is_added item ≡ false

-- the records of a reduced log are those that it keeps
all_kept : (items : List Record) → All IsOfReduced (reduced items)
all_kept [] = All-nil IsOfReduced
all_kept (item ∷ items) = by_test (is_added item) refl (all_kept items)
  where
    by_test : (added : Bool) → is_added item ≡ added → All IsOfReduced (reduced items)
        → All IsOfReduced (cond {A = List Record} (not added) (item ∷ reduced items) (reduced items))
    by_test true is rest = rest
    by_test false is rest = All-cons IsOfReduced item (reduced items) is rest

module _ (p : SettingsValue) (c : Bool) where
  added_shaped : (item : Record) → is_added item ≡ true → FitsPackets item → FitsRoots p item → IsShaped p c item
  unfolding is_added FitsPackets FitsRoots IsShaped
  added_shaped Carrier is packets roots = tt
  added_shaped (Packet number frame ack) is packets roots = packets
  added_shaped (Arrived packet) is packets roots = packets
  added_shaped Ticked is packets roots = tt
  added_shaped (Lost packet) is packets roots = packets
  added_shaped (RootsOf object asker found) is packets roots = roots
  added_shaped item is packets roots = absurd (cc)

  one_shaped : (item : Record) (items : List Record) (added : Bool) → is_added item ≡ added → FitsPackets item → FitsRoots p item
      → (All (IsShaped p c) (reduced items) → All (IsShaped p c) items)
      → All (IsShaped p c) (cond {A = List Record} (not added) (item ∷ reduced items) (reduced items)) → All (IsShaped p c) (item ∷ items)
  one_shaped item items true is packets roots rest all =
      All-cons (IsShaped p c) item items (added_shaped item is packets roots) (rest all)
  one_shaped item items false is packets roots rest all =
      All-cons (IsShaped p c) item items (All-head (IsShaped p c) item (reduced items) all) (rest (All-tail (IsShaped p c) item (reduced items) all))

  -- the records of the reduced log have their shape, and the others have numbers and roots as they should
  all_shaped : (items : List Record) → All (IsShaped p c) (reduced items) → All FitsPackets items → All (FitsRoots p) items
      → All (IsShaped p c) items
  all_shaped [] shaped packets roots = All-nil (IsShaped p c)
  all_shaped (item ∷ items) shaped packets roots =
      one_shaped item items (is_added item) refl (All-head FitsPackets item items packets) (All-head (FitsRoots p) item items roots)
      (λ all. all_shaped items all (All-tail FitsPackets item items packets) (All-tail (FitsRoots p) item items roots)) shaped

-- ---- a log and its reduced log

-- each record of the log after `Begin` has its shape
pub record IsShapedLog (s : ScenarioValue) (c : Bool) (log : List Record) : Type 0 where
  pub items : List Record
  pub is : log ≡ begin_record (beginning_in s) ∷ items
  pub shaped : All (IsShaped s.settings c) items
  pub packets : All FitsPackets log
  pub carried : is_carried log ≡ c

begin_kept : (b : Beginning) (items : List Record) → reduced (begin_record b ∷ items) ≡ begin_record b ∷ reduced items
unfolding is_added
begin_kept b items = refl

pub same_tail : (x : Record) (xs ys : List Record) → x ∷ xs ≡ x ∷ ys → xs ≡ ys
same_tail x xs ys is = cc

module _ (known : CastsAreKnown) (s : ScenarioValue) (c : Bool) (log items : List Record) (run : IsRunOfTurns c (beginning_in s) log)
    (near : IsNearRun (beginning_in s) c (reduced log)) (is : log ≡ begin_record (beginning_in s) ∷ items) where
  abbrev first : Record
  first = begin_record (beginning_in s)

  pub shaped_log : All FitsPackets log → All (FitsRoots s.settings) log → IsShapedLog s c log
  shaped_log packets roots =
      let kept = log_kept c log (runs_reduce.turns c (beginning_in s) log run) in
      let less : reduced items ≡ near.later =
      same_tail first (reduced items) near.later (sym (begin_kept (beginning_in s) items) ∙ ap reduced (sym is) ∙ near.is) in
      record {
        items = items;
        is = is;
        shaped =
            all_shaped s.settings c items
            (subst (All (IsShaped s.settings c)) (sym less) (shaped_later known (beginning_in s) c (reduced log) near kept.whole))
            (All-tail FitsPackets first items (subst (All FitsPackets) is packets))
            (All-tail (FitsRoots s.settings) first items (subst (All (FitsRoots s.settings)) is roots));
        packets = packets;
        carried = kept.carried;
      }

-- the names of a root set of a scenario
set_named : (p : SettingsValue) (c : Bool) (step : Step) (object asker : List ℕ) → step ≡ RootSet object asker → IsStep p c step
    → IsName p object × IsName p asker
set_named p c step object asker is fits = let at : IsStep p c (RootSet object asker) = subst (IsStep p c) is fits in (at.2, at.3)

-- ---- a run that isn't carried

roots_packets : (p : SettingsValue) (log : List Record) (step : Step) → All FitsPackets (roots_told p log step)
unfolding roots_told FitsPackets
roots_packets p log (RootSet object asker) = All-cons FitsPackets _ [] tt (All-nil FitsPackets)
roots_packets p log step = All-nil FitsPackets

told_packets : (p : SettingsValue) (log group : List Record) → All FitsPackets (told_after p log group)
unfolding told_after
told_packets p log (StepRecord index step ∷ []) = roots_packets p log step
told_packets p log group = All-nil FitsPackets

module _ (s : ScenarioValue) (valid : IsScript s) where
  -- what the reduced log leaves out of the log so far
  record UncarriedAdded (log : List Record) : Type 0 where
    far : UncarriedSoFar s valid log
    begins : (items : List Record) × (log ≡ begin_record (beginning_in s) ∷ items)
    packets : All FitsPackets log
    roots : All (FitsRoots s.settings) log

  uncarried_named : (log group : List Record) → ComesReduced s log group → HasNamedRootSet s.settings group
  uncarried_named log group next index object asker rest is =
      let less = reduced log in
      let plain = next.plain in
      elim (coming s less plain next.comes) [
        | inl takes ↦
            let wrong = is ∙ sym next.is ∙ ap (with_roots s.settings log) (sym takes.is) in
            absurd (cc)
        | inr begins ↦
            let same = is ∙ sym next.is ∙ ap (with_roots s.settings log) (sym begins.is) in
            let step : begins.step ≡ RootSet object asker = cc in
            set_named s.settings s.carrier begins.step object asker step (next_fits s valid less begins.step begins.next)
      ]

  uncarried_starts : UncarriedAdded (begin_record (beginning_in s) ∷ [])
  unfolding FitsPackets FitsRoots
  uncarried_starts = record {
    far = far_starts s valid;
    begins = ([], refl);
    packets = All-cons FitsPackets (begin_record (beginning_in s)) [] tt (All-nil FitsPackets);
    roots = All-cons (FitsRoots s.settings) (begin_record (beginning_in s)) [] tt (All-nil (FitsRoots s.settings));
  }

  uncarried_grows : (log group : List Record) → UncarriedAdded log → UncarriedComesNext s log group → sent_count (log ++ group) ≤ s.frames
      → UncarriedAdded (log ++ group)
  uncarried_grows log group added comes within =
      let next = uncarried_coming s log group comes in
      let plain = next.plain in
      let told = told_after s.settings log plain in
      let grown = grown_is s valid log group added.far.run next within in
      let kept = All-later IsOfReduced (reduced log) plain (subst (All IsOfReduced) grown (all_kept (log ++ group))) in
      let packets : All FitsPackets group =
      subst (All FitsPackets) next.is
      (All-append FitsPackets plain told (All-weaker IsOfReduced FitsPackets kept_packets plain kept) (told_packets s.settings log plain)) in
      let roots = group_fits false (beginning_in s) log added.far.run group (turn_next s valid log group added.far.run comes within)
      (uncarried_named log group next) in
      record {
        far = far_more s valid log group added.far comes within;
        begins = (added.begins.0 ++ group, ap (λ l. l ++ group) added.begins.1);
        packets = All-append FitsPackets log group added.packets packets;
        roots = All-append (FitsRoots s.settings) log group added.roots roots;
      }

  pub uncarried_shaped : CastsAreKnown → s.carrier ≡ false → (log : List Record) → IsUncarriedPlayed s log → IsShapedLog s false log
  uncarried_shaped known uncarried log played =
      let added = by_next (uncarried_next_group s) s.frames UncarriedAdded uncarried_grows (begin_record (beginning_in s) ∷ []) log uncarried_starts
      played.begins played.each played.within played.going in
      shaped_log known s false log added.begins.0 added.far.run (uncarried_near s valid uncarried (reduced log) added.far.plain) added.begins.1
      added.packets added.roots

-- ---- a carried run

module _ (s : ScenarioValue) (script : IsCarriedScript s) where
  abbrev start : List Record
  start = beginning_records true (beginning_in s)

  record CarriedAdded (log : List Record) : Type 0 where
    run : IsRunOfTurns true (beginning_in s) log
    begins : (rest : List Record) × (log ≡ start ++ rest)
    roots : All (FitsRoots s.settings) log

  carried_named : (log group : List Record) → CarriedComesNext s log group → HasNamedRootSet s.settings group
  carried_named log group comes index object asker rest is =
      let begun = opens_step s log index (RootSet object asker) rest group comes is in
      set_named s.settings s.carrier (RootSet object asker) object asker refl (next_fits s script.valid log (RootSet object asker) begun.next)

  carried_begins : CarriedAdded start
  unfolding FitsRoots
  carried_begins = record {
    run = run_starts s script;
    begins = ([], refl);
    roots = All-cons (FitsRoots s.settings) (begin_record (beginning_in s)) (Carrier ∷ []) tt
        (All-cons (FitsRoots s.settings) Carrier [] tt (All-nil (FitsRoots s.settings)));
  }

  carried_grows : (log group : List Record) → CarriedAdded log → CarriedComesNext s log group → sent_count (log ++ group) ≤ s.frames
      → CarriedAdded (log ++ group)
  carried_grows log group added comes within = record {
    run = run_more s script log group added.run comes within;
    begins = (added.begins.0 ++ group, ap (λ l. l ++ group) added.begins.1 ∙ append_assoc start added.begins.0 group);
    roots = All-append (FitsRoots s.settings) log group added.roots
        (group_fits true (beginning_in s) log added.run group
        (turn_of_group s log added.run s.frames group (script_steps s script) comes within) (carried_named log group comes));
  }

  carried_packets : (log : List Record) → IsCarriedPlayed s log → All FitsPackets log
  carried_packets log played =
      let few = packets_few s script log played in
      let sent = played.within in
      let frames = script.valid.frames_to in
      let all = few_frames s.settings.digits in
      packets_fit [] log (carried_groups_move.records s log script played) (All-nil IsLow) (omega (arith, few)) (omega (arith, sent, frames, all))

  pub carried_shaped : CastsAreKnown → (log : List Record) → IsCarriedPlayed s log → IsShapedLog s true log
  carried_shaped known log played =
      let added = by_carried s CarriedAdded carried_grows carried_begins log played in
      shaped_log known s true log (Carrier ∷ added.begins.0) added.run (carried_near s script log played) added.begins.1
      (carried_packets log played) added.roots
