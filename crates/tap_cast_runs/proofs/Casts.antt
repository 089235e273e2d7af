-- What is remembered of casts by a run, and that what is said of them holds.
use Rattle.std.proofs.Common.{◌≡◌, ◌⊎◌, ◌==◌, not, ℕ, ◌+◌, ◌≤◌, Bool, true, false, List, [], ◌∷◌, ◌++◌, length, Option, None, Some, if◌then◌else◌, arith, refl, sym, ap, subst, ◌∙◌, inl, inr, append_assoc, eqb-true}
use Rattle.std.specs.Prelude.{◌&&◌, ◌||◌}
use Rattle.std.specs.List.{filter_map}
use Rattle.std.specs.Option.{option_map, option_zip}
use Rattle.std.proofs.lemmas.Bool.{and_parts, cases_Bool}
use Rattle.std.proofs.lemmas.List.{append-nil, length-append}
use Rattle.std.proofs.lemmas.List.Elements.{filter_map-append}
use Rattle.tap_name.specs.Settings.{SettingsValue}
use Rattle.tap_scenario.specs.declared.step.Step.{Step}
use Rattle.tap_scenario.specs.declared.step.Step.TheVariants.{Abandon, Cast, Depart, Find, Join, Publish, Withdraw}
use Rattle.tap_log.specs.declared.record.Record.{Record}
use Rattle.tap_log.specs.declared.record.Record.TheVariants.{CastFrom, Step as StepRecord, Taken}
use Rattle.tap_log.specs.Counts.{cast_count}
use Rattle.tap_log.specs.Kinds.{begun_cast, is_carried}
use Rattle.tap_history.proofs.Ends.{log_in_groups_holds}
use Rattle.tap_history.specs.Groups.{groups_of, is_ended, records_of}
use Rattle.tap_history.specs.Moments.{awaiting, is_none, is_still, under_way}
use Rattle.tap_history.specs.StepAsks.{actor_of}
use Rattle.tap_rule.specs.Event.{News, Start}
use Rattle.tap_rule.specs.Event.News.{Cast as CastNews}
use Rattle.tap_rule.specs.Event.Start.{Abandon as StartAbandon, Cast as StartCast, Find as StartFind, Join as StartJoin, Leave as StartLeave, Publish as StartPublish, Withdraw as StartWithdraw}
use Rattle.tap_rule.specs.Node.{NodeState}
use Rattle.tap_rule.specs.Sent.{IsAmong}
use Rattle.tap_rule.proofs.Among.{among-first}
use Rattle.tap_safety.specs.AtRest.{system_at_rest}
use Rattle.tap_safety.specs.Move.{Move}
use Rattle.tap_safety.specs.Move.Move.{Begins, Delivers}
use Rattle.tap_safety.specs.Moved.{numbered_frame, starter}
use Rattle.tap_safety.specs.System.{System}
use Rattle.tap_wire.specs.declared.frame.Frame.{Frame}
use Rattle.tap_runs.specs.Beginning.{Beginning, IsWithinLimits, begin_record}
use Rattle.tap_runs.specs.Course.{Follows, IsCourse, MayFollow, move_of_group, moved_by, system_after, system_from, system_of}
use Rattle.tap_runs.specs.CourseLaws.{frame_numbers}
use Rattle.tap_runs.specs.Named.{HaveNames}
use Rattle.tap_runs.specs.Starts.{announced, next_cast, next_ticket, start_of_step}
use Rattle.tap_runs.proofs.Frames.{course_frames_holds, starting_moves, step_moves, taken_moves}
use Rattle.tap_runs.proofs.CourseGrows.{by_groups, course_grows_holds, grown, grown_groups, grown_system, log_is, start_system}
use Rattle.tap_runs.proofs.Within.{step_kind}
use Rattle.tap_safety_moves.specs.Sound.{Sound}
use Rattle.tap_safe_runs.specs.Safe.{IsRun}
use Rattle.tap_safe_runs.proofs.Possible.{group_may_move}
use Rattle.tap_safe_runs.proofs.Safe.{runs_are_sound, steps_after, steps_before}
use Rattle.tap_cast_moves.specs.Audience.{CastsAreSound}
use Rattle.tap_cast_moves.specs.SoundCasts.{IsNewCast}
use Rattle.tap_cast_moves.specs.Recalled.{recalled, recalled_delivery, recalled_frame, recalled_start, run_marked, runs_begun, runs_noted}
use Rattle.tap_cast_moves.specs.Remembered.{CastMemory, CastRun, no_casts}
use Rattle.tap_cast_moves.proofs.SoundCasts.{casts_at_rest, casts_quietly, move_keeps_casts, rest_closes}
use Rattle.tap_cast_runs.specs.RunCasts.{AreNumberedCasts, RestHasNoCasts, RunCastsAreKept, RunCastsAreNumbered, RunCastsAreQuiet, casts_after, casts_from, casts_of, recalled_by}

-- ---- what is remembered after one more group

casts_after-push : (p : SettingsValue) (before : List Record) (s : System) (r : CastMemory) (groups : List (List Record)) (group : List Record)
    → casts_after p before s r (groups ++ group ∷ [])
    ≡ recalled_by p (system_after p before s groups) (casts_after p before s r groups) (move_of_group (before ++ records_of groups) group)
casts_after-push p before s r [] group = ap (λ l. recalled_by p s r (move_of_group l group)) (sym (append-nil before))
casts_after-push p before s r (one ∷ groups) group =
    let move = move_of_group before one in
    let next = moved_by p s move in
    let recall = recalled_by p s r move in
    casts_after-push p (before ++ one) next recall groups group
    ∙ ap (λ l. recalled_by p (system_after p (before ++ one) next groups) (casts_after p (before ++ one) next recall groups)
    (move_of_group l group)) (append_assoc before one (records_of groups))

casts_from-begin : (b : Beginning) (groups : List (List Record))
    → casts_from (begin_record b ∷ []) groups
    ≡ casts_after b.settings (begin_record b ∷ []) (system_at_rest b.settings b.members) no_casts groups
unfolding casts_from
casts_from-begin b groups = refl

system_from-begin : (b : Beginning) (groups : List (List Record))
    → system_from (begin_record b ∷ []) groups
    ≡ system_after b.settings (begin_record b ∷ []) (system_at_rest b.settings b.members) groups
unfolding system_from
system_from-begin b groups = refl

module _ (b : Beginning) (log group : List Record) (course : IsCourse b log) (going : is_ended log ≡ false)
    (follows : Follows b log group) where
  pub grown_casts : casts_of (log ++ group) ≡ recalled_by b.settings (system_of log) (casts_of log) (move_of_group log group)
  grown_casts =
      let p = b.settings in
      let start = begin_record b ∷ [] in
      let rest = system_at_rest p b.members in
      ap (λ l. casts_from l (groups_of (log ++ group))) (grown b log group course going follows).begins
      ∙ ap (casts_from start) (grown_groups b log group course going follows)
      ∙ casts_from-begin b (groups_of log ++ group ∷ [])
      ∙ casts_after-push p start rest no_casts (groups_of log) group
      ∙ ap (λ l. recalled_by p (system_after p start rest (groups_of log)) (casts_after p start rest no_casts (groups_of log))
      (move_of_group l group)) (log_is b log course going)
      ∙ ap (λ s. recalled_by p s (casts_after p start rest no_casts (groups_of log)) (move_of_group log group))
      (sym (ap (λ l. system_from l (groups_of log)) course.begins ∙ system_from-begin b (groups_of log)))
      ∙ ap (λ r. recalled_by p (system_of log) r (move_of_group log group))
      (sym (ap (λ l. casts_from l (groups_of log)) course.begins ∙ casts_from-begin b (groups_of log)))

-- ---- which casts are remembered

-- what is noted of casts starts none
noted_some : (runs : ℕ → Option CastRun) (x : List ℕ) (news : News) (d : ℕ) (now : CastRun) → runs_noted runs x news d ≡ Some now
    → (run : CastRun) × (runs d ≡ Some run)
noted_some runs x (CastNews cast reached closed) d now is = by (d == cast) refl is
  where
    by : (here : Bool) → (d == cast) ≡ here
        → (if here then option_map (run_marked x reached closed) (runs cast) else runs d) ≡ Some now → (run : CastRun) × (runs d ≡ Some run)
    by true here marked = some (runs cast) (ap runs (eqb-true d cast here)) marked
      where
        some : (found : Option CastRun) → runs d ≡ found → option_map (run_marked x reached closed) found ≡ Some now
            → (run : CastRun) × (runs d ≡ Some run)
        some None there marked = cc
        some (Some run) there marked = (run, there)
    by false there same = (now, same)
noted_some runs x News.Nothing d now is = (now, is)
noted_some runs x News.Core d now is = (now, is)
noted_some runs x News.Gone d now is = (now, is)
noted_some runs x (News.Answered ticket server) d now is = (now, is)

-- the cast that a start begins, if it begins one
abbrev pub IsCastOf : Start → ℕ → Type 0
IsCastOf (StartCast cast level word) d = d ≡ cast
IsCastOf other d = ⊥

begun_some : (s : System) (r : CastMemory) (x : List ℕ) (start : Start) (d : ℕ) (now : CastRun) → runs_begun s r x start d ≡ Some now
    → ((run : CastRun) × (r.cast d ≡ Some run)) ⊎ IsCastOf start d
begun_some s r x (StartCast cast level word) d now is =
    elim (cases_Bool (d == cast)) [
      | inl here ↦ inr (eqb-true d cast here)
      | inr there ↦ inl (now, rw there at is)
    ]
begun_some s r x (StartJoin via) d now is = inl (now, is)
begun_some s r x StartAbandon d now is = inl (now, is)
begun_some s r x (StartPublish object) d now is = inl (now, is)
begun_some s r x (StartWithdraw object) d now is = inl (now, is)
begun_some s r x (StartFind ticket object) d now is = inl (now, is)
begun_some s r x StartLeave d now is = inl (now, is)

abbrev pub IsCastOfMove : Move → ℕ → Type 0
IsCastOfMove (Begins x start) d = IsCastOf start d
IsCastOfMove (Delivers number) d = ⊥

start_some : (s : System) (r : CastMemory) (x : List ℕ) (start : Start) (node : Option NodeState) (d : ℕ) (now : CastRun)
    → (recalled_start s r x start node).cast d ≡ Some now → ((run : CastRun) × (r.cast d ≡ Some run)) ⊎ IsCastOf start d
start_some s r x start None d now is = inl (now, is)
start_some s r x start (Some node) d now is =
    let found = noted_some (runs_begun s r x start) x _ d now is in begun_some s r x start d found.0 found.1

frame_some : (s : System) (r : CastMemory) (number : ℕ) (frame : Frame) (node : Option NodeState) (d : ℕ) (now : CastRun)
    → (recalled_frame s r number frame node).cast d ≡ Some now → (run : CastRun) × (r.cast d ≡ Some run)
frame_some s r number frame None d now is = (now, is)
frame_some s r number frame (Some node) d now is = noted_some r.cast frame.to _ d now is

delivery_some : (s : System) (r : CastMemory) (number : ℕ) (frame : Option Frame) (d : ℕ) (now : CastRun)
    → (recalled_delivery s r number frame).cast d ≡ Some now → (run : CastRun) × (r.cast d ≡ Some run)
delivery_some s r number None d now is = (now, is)
delivery_some s r number (Some frame) d now is = frame_some s r number frame (s.node frame.to) d now is

pub recalled_some : (p : SettingsValue) (s : System) (r : CastMemory) (move : Move) (d : ℕ) (now : CastRun)
    → (recalled p s r move).cast d ≡ Some now → ((run : CastRun) × (r.cast d ≡ Some run)) ⊎ IsCastOfMove move d
unfolding recalled
recalled_some p s r (Begins x start) d now is = start_some s r x start (starter p s x start) d now is
recalled_some p s r (Delivers number) d now is = inl (delivery_some s r number (numbered_frame number s.frames) d now is)

-- ---- the casts that a log begins

counts_on : (log group : List Record) → cast_count (log ++ group) ≡ cast_count log + cast_count group
counts_on log group =
    ap length (filter_map-append begun_cast log group) ∙ length-append (filter_map begun_cast log) (filter_map begun_cast group)

not_cast : (one start : Start) (d : ℕ) → Some one ≡ Some start → (IsCastOf one d → ⊥) → IsCastOf start d → ⊥
not_cast one start d is never of = let same : one ≡ start = cc in never (subst (λ s. IsCastOf s d) (sym same) of)

-- the records say that a cast of this number begins
pub record IsAnnounced (items : List Record) (cast : ℕ) : Type 0 where
  pub level : ℕ
  pub word : List ℕ
  pub caster : List ℕ
  pub there : IsAmong (CastFrom cast word level caster) items

-- a start of a cast is numbered next, and the log says that it begins
cast_next : (log : List Record) (step : Step) (start : Start) (d : ℕ) → start_of_step log step ≡ Some start → IsCastOf start d
    → (d ≡ next_cast log) × ((rest : List Record) → 1 ≤ cast_count (announced log step ++ rest)) × IsAnnounced (announced log step) d
unfolding start_of_step announced begun_cast
cast_next log (Cast word prefix asker) start d is of =
    let same : StartCast (next_cast log) (length prefix) word ≡ start = cc in
    let there : IsCastOf (StartCast (next_cast log) (length prefix) word) d = subst (λ s. IsCastOf s d) (sym same) of in (
      there,
      λ rest. one_more (filter_map begun_cast rest),
      record {
        level = length prefix;
        word = word;
        caster = asker;
        there = inl (ap (λ c. CastFrom c word (length prefix) asker) there);
      },
    )
  where
    one_more : (casts : List ℕ) → 1 ≤ length (next_cast log ∷ casts)
    one_more casts = omega arith
cast_next log (Join name via) start d is of = absurd (not_cast (StartJoin via) start d is (λ wrong. wrong) of)
cast_next log (Depart name) start d is of = absurd (not_cast StartLeave start d is (λ wrong. wrong) of)
cast_next log (Publish object server) start d is of = absurd (not_cast (StartPublish object) start d is (λ wrong. wrong) of)
cast_next log (Withdraw object server) start d is of = absurd (not_cast (StartWithdraw object) start d is (λ wrong. wrong) of)
cast_next log (Find object asker) start d is of = absurd (not_cast (StartFind (next_ticket log) object) start d is (λ wrong. wrong) of)
cast_next log (Abandon name) start d is of = absurd (not_cast StartAbandon start d is (λ wrong. wrong) of)
cast_next log step start d is of = absurd (cc)

-- ---- one more group

zip_second : {A B : Type 0} (one : Option A) (other : Option B) (x : A) (y : B) → option_zip one other ≡ Some (x, y) → other ≡ Some y
zip_second None other x y is = absurd (cc)
zip_second (Some a) None x y is = absurd (cc)
zip_second (Some a) (Some c) x y is =
    let same : ◌≡◌ {A = _ × _} (a, c) (x, y) = cc in ap (λ pair. Some pair.1) same

one_move : (log group : List Record) (one other : Move) → move_of_group log group ≡ Some one → move_of_group log group ≡ Some other → one ≡ other
one_move log group one other is there = cc

step_counts : (index : ℕ) (step : Step) (items : List Record) → cast_count (StepRecord index step ∷ items) ≡ cast_count items
unfolding begun_cast
step_counts index step items = refl

-- a group that begins a cast numbers it next, and says so
pub group_casts : (p : SettingsValue) (log group : List Record) (s : System) (move : Move) (d : ℕ) → MayFollow p log s group
    → move_of_group log group ≡ Some move → IsCastOfMove move d → (d ≡ next_cast log) × (1 ≤ cast_count group) × IsAnnounced group d
unfolding MayFollow
group_casts p log (StepRecord index step ∷ items) s move d may is of =
    elim (step_kind p log s index step items may) [
      | inl idle ↦
          let none = step_moves log index step items ∙ idle.still in
          let wrong : ◌≡◌ {A = Option Move} None (Some move) = sym none ∙ is in
          absurd (cc)
      | inr starting ↦
          let same = one_move log (StepRecord index step ∷ items) move (Begins starting.name starting.start) is
          (starting_moves p log s index step items starting) in
          let mine : IsCastOf starting.start d = subst (λ m. IsCastOfMove m d) same of in
          let begins = zip_second (actor_of step) (start_of_step log step) starting.name starting.start starting.at in
          let next = cast_next log step starting.start d begins mine in (
            next.0,
            subst (λ n. 1 ≤ n) (sym (step_counts index step items ∙ ap cast_count starting.are)) (next.1 _),
            record {
              level = next.2.level;
              word = next.2.word;
              caster = next.2.caster;
              there =
                  inr (subst (IsAmong (CastFrom d next.2.word next.2.level next.2.caster)) (sym starting.are)
                  (among-first (CastFrom d next.2.word next.2.level next.2.caster) (announced log step) _ next.2.there));
            },
          )
    ]
group_casts p log (Taken number ∷ items) s move d may is of =
    let same = one_move log (Taken number ∷ items) move (Delivers number) is (taken_moves log number items) in
    absurd (subst (λ m. IsCastOfMove m d) same of)
group_casts p log group s move d may is of = absurd may

module _ (b : Beginning) where
  -- what is kept, if the log's steps have names of the settings
  pub record IsKept (log : List Record) : Type 0 where
    pub sound : CastsAreSound b.settings (system_of log) (casts_of log)
    pub numbered : AreNumberedCasts log

  abbrev IsKeptIf : List Record → Type 0
  IsKeptIf log = HaveNames b.settings log → IsKept log

  module _ (log group : List Record) (course : IsCourse b log) (going : is_ended log ≡ false) (follows : Follows b log group)
      (before : HaveNames b.settings log) (steps : HaveNames b.settings group) (kept : IsKept log) where
    abbrev s : System
    s = system_of log

    abbrev r : CastMemory
    r = casts_of log

    pub sound : Sound b.settings s
    sound = runs_are_sound b log (record { course = course; going = going; steps = before })

    -- a cast that starts has no number of before
    pub fresh : (move : Move) → move_of_group log group ≡ Some move → IsNewCast r move
    fresh (Begins x (StartCast cast level word)) is = by (r.cast cast) refl
      where
        by : (found : Option CastRun) → r.cast cast ≡ found → r.cast cast ≡ None
        by None none = none
        by (Some run) there =
            let least = kept.numbered.most cast run there in
            let next = (group_casts b.settings log group s (Begins x (StartCast cast level word)) cast follows.may is refl).0 in
            absurd (omega (arith, least, next))
    fresh (Begins x (StartJoin via)) is = tt
    fresh (Begins x StartAbandon) is = tt
    fresh (Begins x (StartPublish object)) is = tt
    fresh (Begins x (StartWithdraw object)) is = tt
    fresh (Begins x (StartFind ticket object)) is = tt
    fresh (Begins x StartLeave) is = tt
    fresh (Delivers number) is = tt

    moved_casts : (move : Option Move) → move_of_group log group ≡ move
        → CastsAreSound b.settings (moved_by b.settings s move) (recalled_by b.settings s r move)
    moved_casts None is = kept.sound
    moved_casts (Some move) is =
        move_keeps_casts b.settings s r move
        (group_may_move b log group move course going sound.invariant.basis follows steps is) (fresh move is) sound kept.sound

    more : (cast : ℕ) (run : CastRun) → r.cast cast ≡ Some run → cast ≤ cast_count (log ++ group)
    more cast run there = let least = kept.numbered.most cast run there in let all = counts_on log group in omega (arith, least, all)

    moved_most : (move : Option Move) → move_of_group log group ≡ move → (cast : ℕ) (run : CastRun)
        → (recalled_by b.settings s r move).cast cast ≡ Some run → cast ≤ cast_count (log ++ group)
    moved_most None is cast run there = more cast run there
    moved_most (Some move) is cast run there =
        elim (recalled_some b.settings s r move cast run there) [
          | inl old ↦ more cast old.0 old.1
          | inr new ↦
              let next = group_casts b.settings log group s move cast follows.may is new in
              let number = next.0 in
              let some = next.1 in
              let all = counts_on log group in
              omega (arith, number, some, all)
        ]

    kept_grows : IsKept (log ++ group)
    kept_grows = record {
      sound =
          subst (λ t. CastsAreSound b.settings t (casts_of (log ++ group))) (sym (grown_system b log group course going follows))
          (subst (CastsAreSound b.settings (moved_by b.settings s (move_of_group log group)))
          (sym (grown_casts b log group course going follows)) (moved_casts (move_of_group log group) refl));
      numbered = record {
        most = λ cast run there.
            moved_most (move_of_group log group) refl cast run
            (ap (λ (m : CastMemory). m.cast cast) (sym (grown_casts b log group course going follows)) ∙ there);
      };
    }

  pub start_casts : IsWithinLimits b → casts_of (begin_record b ∷ []) ≡ no_casts
  start_casts limits =
      ap (λ l. casts_from l (groups_of (begin_record b ∷ []))) (course_grows_holds.starts b limits).begins
      ∙ ap (casts_from (begin_record b ∷ [])) (log_in_groups_holds.none b.settings b.frames b.members) ∙ casts_from-begin b []

  start_kept : IsWithinLimits b → IsKept (begin_record b ∷ [])
  start_kept limits = record {
    sound =
        subst (λ t. CastsAreSound b.settings t (casts_of (begin_record b ∷ []))) (sym (start_system b))
        (subst (CastsAreSound b.settings (system_at_rest b.settings b.members)) (sym (start_casts limits))
        (casts_at_rest b.settings b.members (course_grows_holds.members b limits)));
    numbered = record {
      most = λ cast run there.
          let wrong : ◌≡◌ {A = Option CastRun} None (Some run) = ap (λ (m : CastMemory). m.cast cast) (sym (start_casts limits)) ∙ there in
          absurd (cc);
    };
  }

  keeps : (log group : List Record) → IsCourse b log → is_ended log ≡ false → Follows b log group → IsKeptIf log → IsKeptIf (log ++ group)
  keeps log group course going follows kept steps =
      let before = steps_before b.settings log group steps in
      kept_grows log group course going follows before (steps_after b.settings log group steps) (kept before)

  pub runs_keep : (log : List Record) → IsRun b log → IsKept log
  runs_keep log run =
      by_groups b IsKeptIf keeps (λ steps. start_kept run.course.limits) log run.course run.going run.steps

pub run_casts_kept : RunCastsAreKept
run_casts_kept b log run = (runs_keep b log run).sound

pub run_casts_numbered : RunCastsAreNumbered
run_casts_numbered b log run = (runs_keep b log run).numbered

pub run_casts_quiet : RunCastsAreQuiet
run_casts_quiet b log run =
    casts_quietly b.settings (system_of log) (casts_of log) (runs_are_sound b log run) (run_casts_kept b log run)

no_frames : (frames : List (ℕ × Frame)) → is_none (frame_numbers frames) ≡ true → frames ≡ []
no_frames [] none = refl
no_frames (f ∷ frames) none = absurd (cc)

pub rest_no_casts : RestHasNoCasts
rest_no_casts b log run rest =
    let still = (and_parts (is_still log) (not (is_carried log) || (is_none (under_way log) && is_none (awaiting log))) rest).0 in
    let frames = course_frames_holds b log run.course run.going in
    rest_closes b.settings (system_of log) (casts_of log) (run_casts_kept b log run)
    (no_frames (system_of log).frames (ap is_none frames.numbers ∙ still))
