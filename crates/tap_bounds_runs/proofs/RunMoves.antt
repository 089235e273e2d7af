-- The moves of a run: each is possible, and after them the system is that of its log.
use Rattle.std.proofs.Common.{◌≡◌, false, List, [], ◌∷◌, ◌++◌, Option, None, Some, refl, sym, ap, subst, ◌∙◌, append-nil, append_assoc}
use Rattle.std.specs.List.{cons_option}
use Rattle.tap_name.specs.Settings.{SettingsValue}
use Rattle.tap_log.specs.declared.record.Record.{Record}
use Rattle.tap_log.specs.MoreRecords.{at_most_one}
use Rattle.tap_history.proofs.Ends.{log_in_groups_holds}
use Rattle.tap_history.proofs.RecordChanges.{one_before}
use Rattle.tap_history.specs.Groups.{groups_of, is_ended, records_of}
use Rattle.tap_safety.specs.AtRest.{system_at_rest}
use Rattle.tap_safety.specs.Move.{Move, may_move}
use Rattle.tap_safety.specs.Moved.{moved}
use Rattle.tap_safety.specs.System.{System}
use Rattle.tap_runs.specs.Beginning.{Beginning, IsWithinLimits, begin_record}
use Rattle.tap_runs.specs.Course.{Follows, IsCourse, move_of_group, moved_by, system_of}
use Rattle.tap_runs.specs.Named.{HaveNames}
use Rattle.tap_runs.proofs.CourseGrows.{by_groups, course_grows_holds, grown, grown_groups, grown_system, log_is, start_system}
use Rattle.tap_safety_moves.specs.SoundMoves.{after_moves, may_run}
use Rattle.tap_safe_runs.specs.Safe.{IsRun}
use Rattle.tap_safe_runs.proofs.Possible.{group_may_move}
use Rattle.tap_safe_runs.proofs.Safe.{runs_are_sound, steps_after, steps_before}
use Rattle.tap_bounds.specs.FewSent.{traffic_of}
use Rattle.tap_bounds.specs.Traffic.{Traffic, no_traffic, traffic_after}
use Rattle.tap_bounds_runs.specs.Traffic.{moves_after, moves_of, traffic_from, traffic_in}

-- ---- moves after moves

module _ (p : SettingsValue) where
  pub after_more : (s : System) (moves more : List Move) → after_moves p s (moves ++ more) ≡ after_moves p (after_moves p s moves) more
  after_more s [] more = refl
  after_more s (move ∷ moves) more = after_more (moved p s move) moves more

  pub traffic_more : (s : System) (r : Traffic) (moves more : List Move)
      → traffic_of p s r (moves ++ more) ≡ traffic_of p (after_moves p s moves) (traffic_of p s r moves) more
  traffic_more s r [] more = refl
  traffic_more s r (move ∷ moves) more = traffic_more (moved p s move) (traffic_after p s r move) moves more

  pub may_more : (s : System) (moves more : List Move) → may_run p s moves → may_run p (after_moves p s moves) more
      → may_run p s (moves ++ more)
  may_more s [] more may also = also
  may_more s (move ∷ moves) more may also = (may.0, may_more (moved p s move) moves more may.1 also)

  -- one more move, if there is one
  pub after_one : (s : System) (move : Option Move) → after_moves p s (at_most_one move) ≡ moved_by p s move
  after_one s None = refl
  after_one s (Some move) = refl

  pub may_one : (s : System) (move : Option Move) → ((one : Move) → move ≡ Some one → may_move p s one) → may_run p s (at_most_one move)
  may_one s None may = tt
  may_one s (Some move) may = (may move refl, tt)

-- ---- one more group

moves_after-push : (before : List Record) (groups : List (List Record)) (group : List Record)
    → moves_after before (groups ++ group ∷ [])
    ≡ moves_after before groups ++ at_most_one (move_of_group (before ++ records_of groups) group)
moves_after-push before [] group = ap (λ l. at_most_one (move_of_group l group)) (sym (append-nil before))
moves_after-push before (one ∷ groups) group =
    let move = move_of_group before one in
    let later = moves_after (before ++ one) groups in
    ap (cons_option move) (moves_after-push (before ++ one) groups group)
    ∙ one_before move later (at_most_one (move_of_group ((before ++ one) ++ records_of groups) group))
    ∙ ap (λ l. cons_option move later ++ at_most_one (move_of_group l group)) (append_assoc before one (records_of groups))

pub grown_moves : (b : Beginning) (log group : List Record) → IsCourse b log → is_ended log ≡ false → Follows b log group
    → moves_of (log ++ group) ≡ moves_of log ++ at_most_one (move_of_group log group)
grown_moves b log group course going follows =
    let start = begin_record b ∷ [] in
    ap (λ l. moves_after l (groups_of (log ++ group))) (grown b log group course going follows).begins
    ∙ ap (moves_after start) (grown_groups b log group course going follows)
    ∙ moves_after-push start (groups_of log) group
    ∙ ap (λ l. moves_after start (groups_of log) ++ at_most_one (move_of_group l group)) (log_is b log course going)
    ∙ ap (λ l. moves_after l (groups_of log) ++ at_most_one (move_of_group log group)) (sym course.begins)

module _ (b : Beginning) where
  abbrev pub rest : System
  rest = system_at_rest b.settings b.members

  pub start_moves : IsWithinLimits b → moves_of (begin_record b ∷ []) ≡ []
  start_moves limits =
      ap (λ l. moves_after l (groups_of (begin_record b ∷ []))) (course_grows_holds.starts b limits).begins
      ∙ ap (moves_after (begin_record b ∷ [])) (log_in_groups_holds.none b.settings b.frames b.members)

  -- ---- the moves of a run

  -- the moves of the log are possible, and lead to its system
  pub record GoesBy (log : List Record) : Type 0 where
    pub system : system_of log ≡ after_moves b.settings rest (moves_of log)
    pub may : may_run b.settings rest (moves_of log)

  module _ (log : List Record) (goes : GoesBy log) (move : Option Move) where
    -- with one more move, if there is one
    pub after_both : moved_by b.settings (system_of log) move ≡ after_moves b.settings rest (moves_of log ++ at_most_one move)
    after_both =
        ap (λ s. moved_by b.settings s move) goes.system
        ∙ sym (after_more b.settings rest (moves_of log) (at_most_one move)
        ∙ after_one b.settings (after_moves b.settings rest (moves_of log)) move)

    pub may_both : ((one : Move) → move ≡ Some one → may_move b.settings (system_of log) one)
        → may_run b.settings rest (moves_of log ++ at_most_one move)
    may_both may =
        may_more b.settings rest (moves_of log) (at_most_one move) goes.may
        (subst (λ s. may_run b.settings s (at_most_one move)) goes.system (may_one b.settings (system_of log) move may))

  goes_on : (log group : List Record) → IsRun b log → Follows b log group → HaveNames b.settings group → GoesBy log
      → GoesBy (log ++ group)
  goes_on log group run follows names goes =
      let move = move_of_group log group in
      let moves = grown_moves b log group run.course run.going follows in
      let sound = runs_are_sound b log run in
      record {
        system =
            grown_system b log group run.course run.going follows ∙ after_both log goes move
            ∙ ap (after_moves b.settings rest) (sym moves);
        may =
            subst (may_run b.settings rest) (sym moves)
            (may_both log goes move
            (λ one is. group_may_move b log group one run.course run.going sound.invariant.basis follows names is));
      }

  -- so it is, if the steps of the log have names of the settings
  abbrev GoesIf : List Record → Type 0
  GoesIf log = HaveNames b.settings log → GoesBy log

  goes_more : (log group : List Record) → IsCourse b log → is_ended log ≡ false → Follows b log group → GoesIf log → GoesIf (log ++ group)
  goes_more log group course going follows goes steps =
      let before = steps_before b.settings log group steps in
      goes_on log group (record { course = course; going = going; steps = before }) follows (steps_after b.settings log group steps)
      (goes before)

  goes_first : IsWithinLimits b → GoesBy (begin_record b ∷ [])
  goes_first limits = record {
    system = start_system b ∙ sym (ap (after_moves b.settings rest) (start_moves limits));
    may = subst (may_run b.settings rest) (sym (start_moves limits)) tt;
  }

  pub run_goes : (log : List Record) → IsRun b log → GoesBy log
  run_goes log run = by_groups b GoesIf goes_more (λ steps. goes_first run.course.limits) log run.course run.going run.steps

-- ---- the traffic of a log

traffic_from-begin : (b : Beginning) (moves : List Move)
    → traffic_from (begin_record b ∷ []) moves ≡ traffic_of b.settings (rest b) no_traffic moves
unfolding traffic_from
traffic_from-begin b moves = refl

pub traffic_is : (b : Beginning) (log : List Record) → IsCourse b log
    → traffic_in log ≡ traffic_of b.settings (rest b) no_traffic (moves_of log)
traffic_is b log course = ap (λ l. traffic_from l (moves_of log)) course.begins ∙ traffic_from-begin b (moves_of log)
