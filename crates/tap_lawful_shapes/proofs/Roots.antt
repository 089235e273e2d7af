-- What a root set tells has its shape, in the log of a run, carried or not.
use Rattle.std.proofs.Common.{◌≡◌, inl, inr, ℕ, Bool, true, false, List, [], ◌∷◌, ◌++◌, length, map, All, Some, refl, sym, subst, ap, ◌∙◌}
use Rattle.std.proofs.lemmas.List.{length-map}
use Rattle.std.proofs.lemmas.List.Elements.{All-append, All-cons, All-nil, All-weaker}
use Rattle.tap_name.specs.Name.{IsName}
use Rattle.tap_name.specs.Names.{AreNames}
use Rattle.tap_name.specs.Root.{root}
use Rattle.tap_name.specs.Settings.{SettingsValue}
use Rattle.tap_name.proofs.Names.{All-among}
use Rattle.tap_salt.specs.Salt.{roots_of, salts_of}
use Rattle.tap_salt.proofs.SaltLaws.{salts_have_roots_holds}
use Rattle.tap_scenario.specs.declared.step.Step.TheVariants.{RootSet}
use Rattle.tap_log.specs.declared.record.Record.{Record}
use Rattle.tap_log.specs.declared.record.Record.TheVariants.{Arrived, RootsOf, Step as StepRecord, Taken, Ticked}
use Rattle.tap_log.specs.Reduced.{is_added, reduced}
use Rattle.tap_line.specs.Line.{AreRoots}
use Rattle.tap_history.specs.Core.{core_of}
use Rattle.tap_history.specs.StepAsks.{asked_node, suits_joining}
use Rattle.tap_runs.specs.Beginning.{Beginning}
use Rattle.tap_carried.specs.LogTurns.{IsPlainRecord, IsTurn, Turn, group_of_turn}
use Rattle.tap_carried.specs.LogTurns.Turn.{Arrives, Steps, Takes, Ticks}
use Rattle.tap_carried.specs.ReducedRuns.{IsRunOfTurns}
use Rattle.tap_carried.proofs.BeginningKept.{log_kept}
use Rattle.tap_carried.proofs.ReducedLogs.{logs_agree}
use Rattle.tap_carried.proofs.ReducedRuns.{runs_reduce}
use Rattle.tap_lawful.specs.RootSets.{roots_record}
use Rattle.tap_lawful.proofs.CarriedTurns.{IsRootSetTurn, IsTurnGroup, TellsNoRoots, added_of}
use Rattle.tap_lawful.proofs.CarriedWhole.{is_turn}
use Rattle.tap_safe_runs.proofs.Moments.{no_hole}
use Rattle.tap_lawful_shapes.proofs.Asked.{asked_is_core}
use Rattle.tap_lawful_shapes.proofs.Carried.{as_run}

-- a record of roots has four, which are names
unfoldable pub FitsRoots : SettingsValue → Record → Type 0
FitsRoots p (RootsOf object asker roots) = IsName p object × IsName p asker × AreRoots p roots
FitsRoots p other = Unit {0}

module _ (p : SettingsValue) where
  quiet_fits : (item : Record) → TellsNoRoots item → FitsRoots p item
  unfolding TellsNoRoots FitsRoots
  quiet_fits (RootsOf object asker roots) none = absurd none
  quiet_fits item none = tt

  pub kept_fits : (item : Record) → is_added item ≡ false → FitsRoots p item
  unfolding is_added FitsRoots
  kept_fits (RootsOf object asker roots) kept = absurd (cc)
  kept_fits item kept = tt

  plain_fits : (item : Record) → IsPlainRecord item → FitsRoots p item
  plain_fits item plain = kept_fits item plain.kept

  -- ---- the group of a turn that tells no roots

  both_fit : (items added : List Record) → All IsPlainRecord items → All TellsNoRoots added → All (FitsRoots p) (items ++ added)
  both_fit items added plain quiet =
      All-append (FitsRoots p) items added (All-weaker IsPlainRecord (FitsRoots p) plain_fits items plain)
      (All-weaker TellsNoRoots (FitsRoots p) quiet_fits added quiet)

  turn_fits : (c : Bool) (turn : Turn) → IsTurn c turn → All TellsNoRoots (added_of turn) → All (FitsRoots p) (group_of_turn c turn)
  unfolding FitsRoots
  turn_fits c (Steps index step items added) is quiet =
      All-cons (FitsRoots p) (StepRecord index step) (items ++ added) tt (both_fit items added is.0 quiet)
  turn_fits true (Takes packet frame items added) is quiet =
      All-cons (FitsRoots p) (Arrived packet) (Taken frame ∷ (items ++ added)) tt
      (All-cons (FitsRoots p) (Taken frame) (items ++ added) tt (both_fit items added is.0 quiet))
  turn_fits false (Takes packet frame items added) is quiet =
      All-cons (FitsRoots p) (Taken frame) (items ++ added) tt (both_fit items added is.0 quiet)
  turn_fits c (Arrives packet added) is quiet =
      All-cons (FitsRoots p) (Arrived packet) added tt (All-weaker TellsNoRoots (FitsRoots p) quiet_fits added quiet)
  turn_fits c (Ticks added) is quiet =
      All-cons (FitsRoots p) Ticked added tt (All-weaker TellsNoRoots (FitsRoots p) quiet_fits added quiet)

-- ---- a root set

-- if the group begins with a root set, that has names
abbrev pub HasNamedRootSet : SettingsValue → List Record → Type 0
HasNamedRootSet p group = (index : ℕ) (object asker : List ℕ) (rest : List Record) → StepRecord index (RootSet object asker) ∷ rest ≡ group
    → IsName p object × IsName p asker

module _ (c : Bool) (b : Beginning) (log : List Record) (run : IsRunOfTurns c b log) where
  abbrev p : SettingsValue
  p = b.settings

  core_names : AreNames p (core_of log)
  core_names =
      subst (AreNames p) (logs_agree.agree c log (runs_reduce.turns c b log run)).core
      (no_hole b (reduced log) (as_run b log (runs_reduce.run c b log run))).names

  -- the four roots of an object
  module _ (turn : Turn) (roots : IsRootSetTurn p log turn) where
    abbrev found : List (List ℕ)
    found = roots_of p.base (core_of log) roots.object

    are_roots : AreRoots p found
    unfolding asked_node suits_joining
    are_roots =
        let asker = asked_is_core log (RootSet roots.object roots.asker) roots.asker refl refl roots.accepted in
        let have = salts_have_roots_holds p roots.salted (core_of log) core_names roots.asker asker roots.object in
        let four : length (map (root p.base (core_of log)) (salts_of roots.object)) ≡ 4 = refl in
        let many = length-map found (λ name. Some name) in
        record {
          four = sym many ∙ ap length (sym have.each) ∙ four;
          names = All-among (IsName p) found (λ name among. core_names name (have.among name among));
        }

    set_fits : (group : List Record) → group_of_turn c turn ≡ group → HasNamedRootSet p group → All (FitsRoots p) group
    unfolding FitsRoots
    set_fits group is named =
        let told = roots_record p log roots.object roots.asker in
        let first = StepRecord roots.index (RootSet roots.object roots.asker) in
        let same : first ∷ told ∷ [] ≡ group = sym (ap (group_of_turn c) roots.is) ∙ is in
        let names = named roots.index roots.object roots.asker (told ∷ []) same in
        subst (All (FitsRoots p)) same
        (All-cons (FitsRoots p) first (told ∷ []) tt (All-cons (FitsRoots p) told [] (names.0, names.1, are_roots) (All-nil (FitsRoots p))))

  pub group_fits : (group : List Record) → IsTurnGroup c b log group → HasNamedRootSet p group → All (FitsRoots p) group
  group_fits group next named =
      elim next.tells [
        | inl quiet ↦
            let is = is_turn c b log next.turn (log_kept c log (runs_reduce.turns c b log run)) next.follows in
            subst (All (FitsRoots p)) next.is (turn_fits p c next.turn is quiet)
        | inr roots ↦ set_fits next.turn roots group next.is named
      ]
