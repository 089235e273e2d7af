-- What a root set tells that is accepted is right, and walks from each core node end there.
use Rattle.std.proofs.Common.{◌≡◌, inl, inr, ℕ, Bool, true, false, not, List, [], ◌∷◌, ◌++◌, map, All, Option, None, refl, ap, sym, subst, ◌∙◌, arith, append-nil, append_assoc}
use Rattle.std.specs.Prelude.{◌&&◌, drop}
use Rattle.std.proofs.lemmas.List.Elements.{All-append, All-cons, All-head, All-nil, All-tail, All-weaker}
use Rattle.tap_name.specs.Names.{Among, AreNames, has_name}
use Rattle.tap_name.specs.Root.{root}
use Rattle.tap_name.specs.Settings.{SettingsValue}
use Rattle.tap_name.proofs.Membership.{has_name-Decides}
use Rattle.tap_salt.specs.Salt.{is_salted, roots_of, salts_of}
use Rattle.tap_salt.proofs.SaltLaws.{salts_are_names_holds, salts_have_roots_holds}
use Rattle.tap_surrogate.specs.Walk.{walk, walk_end}
use Rattle.tap_scenario.specs.declared.step.Step.TheVariants.{RootSet}
use Rattle.tap_log.specs.declared.record.Record.{Record}
use Rattle.tap_log.specs.declared.record.Record.TheVariants.{Arrived, RootsOf, Step as StepRecord, Taken, Ticked}
use Rattle.tap_log.specs.declared.record.Refusal.TheVariants.{NotCore}
use Rattle.tap_log.specs.Kinds.{begin_members, core_name, gone_name}
use Rattle.tap_log.specs.Log.{EachFrom}
use Rattle.tap_log.specs.Reduced.{is_added, reduced}
use Rattle.tap_history.specs.Core.{core_of, present_of}
use Rattle.tap_history.specs.Refusals.{first_refusal, is_joining, refusals, refuses_no_such_node, refuses_not_core}
use Rattle.tap_history.specs.StepAsks.{asked_node, suits_joining}
use Rattle.tap_history.proofs.RecordChanges.{core_of-same}
use Rattle.tap_runs.specs.Beginning.{Beginning}
use Rattle.tap_runs.proofs.Nodes.{asked_is_present, cause_fails, first_none}
use Rattle.tap_carried.specs.LogTurns.{IsAddedRecord, IsPlainRecord, IsTurn, Turn, group_of_turn}
use Rattle.tap_carried.specs.LogTurns.Turn.{Arrives, Steps, Takes, Ticks}
use Rattle.tap_carried.specs.ReducedLogs.{AgreesWithReduced}
use Rattle.tap_carried.specs.ReducedRuns.{IsRunOfTurns, TurnFollows}
use Rattle.tap_carried.proofs.BeginningKept.{log_kept}
use Rattle.tap_carried.proofs.ReducedLogs.{logs_agree}
use Rattle.tap_carried.proofs.ReducedRuns.{runs_reduce}
use Rattle.tap_lawful.specs.RootSets.{roots_record}
use Rattle.tap_lawful.proofs.CarriedReduction.{run_push}
use Rattle.tap_lawful.proofs.CarriedTurns.{IsRootSetTurn, IsTurnGroup, TellsNoRoots, added_of}
use Rattle.tap_lawful.proofs.CarriedWhole.{is_turn}
use Rattle.tap_safe_runs.specs.Moments.{tables_of}
use Rattle.tap_safe_runs.specs.Safe.{IsRun}
use Rattle.tap_safe_runs.proofs.Moments.{no_hole, walks_end}
use Rattle.tap_headline.specs.RootSets.{IsRootSet, IsToldRight, RootSetsAreRight, ends_of_walks}
use Rattle.tap_headline.proofs.EachMoment.{as_run}

-- ---- each record

module _ (P : List Record → Record → Type 0) where
  pub each_both : (before xs ys : List Record) → EachFrom P before xs → EachFrom P (before ++ xs) ys → EachFrom P before (xs ++ ys)
  each_both before [] ys each more = subst (λ l. EachFrom P l ys) (append-nil before) more
  each_both before (x ∷ xs) ys each more = (
    each.0,
    each_both (before ++ x ∷ []) xs ys each.1 (subst (λ l. EachFrom P l ys) (sym (append_assoc before (x ∷ []) xs)) more),
  )

  pub each_first : (before xs ys : List Record) → EachFrom P before (xs ++ ys) → EachFrom P before xs
  each_first before [] ys each = tt
  each_first before (x ∷ xs) ys each = (each.0, each_first (before ++ x ∷ []) xs ys each.1)

one_right : (p : SettingsValue) (before : List Record) (item : Record) → TellsNoRoots item → IsToldRight p before item
unfolding TellsNoRoots IsToldRight
one_right p before (RootsOf object asker found) none = absurd none
one_right p before item none = tt

-- records that tell no roots
pub quiet_right : (p : SettingsValue) (before items : List Record) → All TellsNoRoots items → EachFrom (IsToldRight p) before items
quiet_right p before [] quiet = tt
quiet_right p before (item ∷ items) quiet = (
  one_right p before item (All-head TellsNoRoots item items quiet),
  quiet_right p (before ++ item ∷ []) items (All-tail TellsNoRoots item items quiet),
)

plain_quiet : (item : Record) → IsPlainRecord item → TellsNoRoots item
unfolding is_added TellsNoRoots
plain_quiet (RootsOf object asker found) plain = let wrong = plain.kept in absurd (cc)
plain_quiet item plain = tt

-- ---- the group of a turn that tells no roots

step_quiet : (first : Record) (items added : List Record) → TellsNoRoots first → All IsPlainRecord items → All TellsNoRoots added
    → All TellsNoRoots (first ∷ (items ++ added))
step_quiet first items added one plain quiet =
    All-cons TellsNoRoots first (items ++ added) one
    (All-append TellsNoRoots items added (All-weaker IsPlainRecord TellsNoRoots plain_quiet items plain) quiet)

turn_quiet : (c : Bool) (turn : Turn) → IsTurn c turn → All TellsNoRoots (added_of turn) → All TellsNoRoots (group_of_turn c turn)
unfolding TellsNoRoots
turn_quiet c (Steps index step items added) is quiet = step_quiet (StepRecord index step) items added tt is.0 quiet
turn_quiet true (Takes packet frame items added) is quiet =
    All-cons TellsNoRoots (Arrived packet) (Taken frame ∷ (items ++ added)) tt (step_quiet (Taken frame) items added tt is.0 quiet)
turn_quiet false (Takes packet frame items added) is quiet = step_quiet (Taken frame) items added tt is.0 quiet
turn_quiet c (Arrives packet added) is quiet = All-cons TellsNoRoots (Arrived packet) added tt quiet
turn_quiet c (Ticks added) is quiet = All-cons TellsNoRoots Ticked added tt quiet

-- ---- the node that is asked

core_if : (present core : Bool) → present ≡ true → (present && not core) ≡ false → core ≡ true
core_if true true there joins = refl
core_if true false there joins = absurd (cc)
core_if false core there joins = absurd (cc)

asker_is_core : (log : List Record) (object asker : List ℕ) → first_refusal log (RootSet object asker) ≡ None → Among asker (core_of log)
unfolding refuses_not_core asked_node suits_joining
asker_is_core log object asker accepted =
    let step = RootSet object asker in
    let later = (first_none (refuses_no_such_node log step) (drop 1 (refusals log step)) accepted).1 in
    let none : refuses_not_core log step ≡ None = (first_none (refuses_not_core log step) (drop 2 (refusals log step)) later).0 in
    let joins : is_joining log asker ≡ false = cause_fails (is_joining log asker) NotCore none in
    (has_name-Decides (core_of log) asker).0
    (core_if (has_name (present_of log) asker) (has_name (core_of log) asker) (asked_is_present log step asker accepted refl) joins)

-- ---- roots

-- two that give the same of each of these names
map_among : (f g : List ℕ → Option (List ℕ)) (names : List (List ℕ)) → ((x : List ℕ) → Among x names → f x ≡ g x) → map f names ≡ map g names
map_among f g [] same = refl
map_among f g (name ∷ names) same =
    ap (λ y. y ∷ map f names) (same name (inl refl)) ∙ ap (λ ys. g name ∷ ys) (map_among f g names (λ x there. same x (inr there)))

-- in a run, carried or not
module _ (c : Bool) (b : Beginning) (log : List Record) (run : IsRunOfTurns c b log) where
  abbrev p : SettingsValue
  p = b.settings

  less_run : IsRun b (reduced log)
  less_run = as_run b log (runs_reduce.run c b log run)

  agrees : AgreesWithReduced log
  agrees = logs_agree.agree c log (runs_reduce.turns c b log run)

  core_names : AreNames p (core_of log)
  core_names = subst (AreNames p) agrees.core (no_hole b (reduced log) less_run).names

  walk_right : (from : List ℕ) → Among from (core_of log) → (salts : List (List ℕ)) → AreNames p salts
      → ends_of_walks p log from salts ≡ map (root p.base (core_of log)) salts
  walk_right from there salts names =
      map_among (λ name. walk_end (walk p.base (tables_of (reduced log)) from name)) (root p.base (core_of log)) salts
      (λ salt among. (walks_end b (reduced log) less_run from salt (subst (Among from) (sym agrees.core) there) (names salt among)).ends
      ∙ ap (λ core. root p.base core salt) agrees.core)

  root_set_right : is_salted p ≡ true → (object asker : List ℕ) → Among asker (core_of log)
      → IsRootSet p log object asker (roots_of p.base (core_of log) object)
  root_set_right salted object asker among =
      let have = salts_have_roots_holds p salted (core_of log) core_names asker among object in
      record {
        is = refl;
        each = have.each;
        asked = among;
        walks = λ from there. walk_right from there (salts_of object) (salts_are_names_holds p salted object) ∙ have.each;
      }

same_core : (log : List Record) (index : ℕ) (object asker : List ℕ) → core_of (log ++ StepRecord index (RootSet object asker) ∷ []) ≡ core_of log
unfolding begin_members core_name gone_name
same_core log index object asker = core_of-same log (StepRecord index (RootSet object asker)) refl refl refl

-- ---- one more group

module _ (c : Bool) (b : Beginning) (log group : List Record) (run : IsRunOfTurns c b log) (next : IsTurnGroup c b log group) where
  module _ (roots : IsRootSetTurn b.settings log next.turn) where
    abbrev asks : List Record
    asks = StepRecord roots.index (RootSet roots.object roots.asker) ∷ []

    -- the log with the step alone is a run, too
    asked_run : IsRunOfTurns c b (log ++ asks)
    asked_run =
        let follows = subst (TurnFollows c b log) roots.is next.follows in
        run_push c b log asks run (record {
          turn = Steps roots.index (RootSet roots.object roots.asker) [] [];
          is = refl;
          follows = (follows.0, (All-nil IsAddedRecord, λ starts none. refl));
          few = omega arith;
          tells = inl (All-nil TellsNoRoots);
        })

    told_right : IsRootSet b.settings (log ++ asks) roots.object roots.asker (roots_of b.settings.base (core_of log) roots.object)
    told_right =
        let core = same_core log roots.index roots.object roots.asker in
        subst (λ l. IsRootSet b.settings (log ++ asks) roots.object roots.asker (roots_of b.settings.base l roots.object)) core
        (root_set_right c b (log ++ asks) asked_run roots.salted roots.object roots.asker
        (subst (Among roots.asker) (sym core) (asker_is_core log roots.object roots.asker roots.accepted)))

    each_told : EachFrom (IsToldRight b.settings) log (asks ++ roots_record b.settings log roots.object roots.asker ∷ [])
    unfolding IsToldRight
    each_told = (tt, (told_right, tt))

    group_told : asks ++ roots_record b.settings log roots.object roots.asker ∷ [] ≡ group
    group_told = sym (ap (group_of_turn c) roots.is) ∙ next.is

  group_right : EachFrom (IsToldRight b.settings) log group
  group_right =
      elim next.tells [
        | inl quiet ↦
            let is = is_turn c b log next.turn (log_kept c log (runs_reduce.turns c b log run)) next.follows in
            subst (EachFrom (IsToldRight b.settings) log) next.is
            (quiet_right b.settings log (group_of_turn c next.turn) (turn_quiet c next.turn is quiet))
        | inr roots ↦ subst (EachFrom (IsToldRight b.settings) log) (group_told roots) (each_told roots)
      ]

  pub more_right : RootSetsAreRight b.settings log → RootSetsAreRight b.settings (log ++ group)
  more_right right = each_both (IsToldRight b.settings) [] log group right group_right
