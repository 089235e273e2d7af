-- What a log with one more group knows of lookups that may be answered without a server: of the Finds and Answers under way.
use Rattle.std.proofs.Common.{◌≡◌, ◌⊎◌, inl, inr, ℕ, true, List, ◌∷◌, ◌++◌, length, Option, None, Some, arith, sym, subst, ◌∙◌, length-append}
use Rattle.tap_name.specs.Settings.{SettingsValue}
use Rattle.tap_pointer.specs.Pointers.{pair_of}
use Rattle.tap_wire.specs.declared.frame.Body.TheVariants.{Answer, Find}
use Rattle.tap_log.specs.declared.record.Record.{Record}
use Rattle.tap_log.specs.declared.record.Record.TheVariants.{Answered}
use Rattle.tap_history.specs.Moments.{is_moment}
use Rattle.tap_rule.specs.Event.{News}
use Rattle.tap_rule.specs.Event.News.{Answered as AnsweredNews}
use Rattle.tap_safety.specs.Move.{Move, may_move}
use Rattle.tap_safety.specs.Move.Move.{Begins, Delivers}
use Rattle.tap_safety.specs.Moved.{moved}
use Rattle.tap_safety.specs.System.{System, IsUnderWay}
use Rattle.tap_runs.specs.Beginning.{Beginning}
use Rattle.tap_runs.specs.Course.{Follows, move_of_group, moved_by, system_of}
use Rattle.tap_runs.specs.Named.{HaveNames}
use Rattle.tap_runs.proofs.CourseGrows.{whole}
use Rattle.tap_runs.proofs.Within.{IsWhole}
use Rattle.tap_safety_moves.specs.Sound.{Sound}
use Rattle.tap_safe_runs.specs.Safe.{IsRun}
use Rattle.tap_safe_runs.proofs.Safe.{run_more, runs_are_sound}
use Rattle.tap_safe_runs.proofs.GroupKinds.{IsKnownGroup, IsTakenGroup, run_kind, run_moves}
use Rattle.tap_pointer_runs.proofs.ServersGrow.{Grown}
use Rattle.tap_pointer_runs.proofs.Runs.{run_grown, served_is}
use Rattle.tap_pointer_moves.specs.Alone.{IsOnWalk}
use Rattle.tap_pointer_moves.specs.NoServer.{AreLookups, EndsWith}
use Rattle.tap_pointer_moves.proofs.LookupsKept.{find_spelled}
use Rattle.tap_pointer_moves.proofs.LookupAnswers.{started_answer}
use Rattle.tap_pointer_moves.proofs.NoServer.{ends_of_walks_are_exact, finds_stay_on_walks, none_comes_from_ends}
use Rattle.tap_pointer_runs.specs.LookupAnswers.{was_asked}
use Rattle.tap_pointer_runs.specs.NoServer.{HasEndedBy, WasDisturbed}
use Rattle.tap_pointer_runs.proofs.LookupsGrow.{asked_grows}
use Rattle.tap_pointer_runs.proofs.Moments.{HasBeenDisturbed, disturbed_by, disturbed_still, end_moment, ended_later, ended_still, answered_still, ends_now, now_disturbed}
use Rattle.tap_pointer_runs.proofs.RunAnswers.{Looked, run_looked}
use Rattle.tap_pointer_runs.proofs.Unanswered.{IsUnanswered}

-- ---- what is so of lookups after a log

-- the lookup of the ticket may be answered without a server: it has ended so, and has been disturbed
pub record MayFail (log : List Record) (ticket : ℕ) : Type 0 where
  pub object : List ℕ
  pub asked : was_asked log ticket object ≡ true
  pub ended : HasEndedBy log log ticket object
  pub disturbed : HasBeenDisturbed log ticket object

-- it was answered so, after these records
pub record HasFailed (log before : List Record) (ticket : ℕ) : Type 0 where
  pub object : List ℕ
  pub asked : was_asked before ticket object ≡ true
  pub ended : HasEndedBy log before ticket object
  pub disturbed : WasDisturbed log before ticket object

-- Each Find under way is of a lookup that has been disturbed, or on the walk of its object; and each Answer without a server is one that may
-- come, and each such answer of the log one that might.
pub record Watched (p : SettingsValue) (log : List Record) (s : System) : Type 0 where
  pub moment : is_moment log (length log) ≡ true
  pub finds : (from to : List ℕ) (ticket : ℕ) (object asker : List ℕ) (level : ℕ)
      → IsUnderWay s from to (Find ticket object asker level) → HasBeenDisturbed log ticket object ⊎ IsOnWalk p s object asker to level
  pub answers : (from to : List ℕ) (ticket : ℕ) → IsUnderWay s from to (Answer ticket None) → MayFail log ticket
  pub each : (before after : List Record) (ticket : ℕ) → log ≡ before ++ Answered ticket None ∷ after → HasFailed log before ticket

-- the record, if it is an answer, is the news
abbrev pub IsNoted : Option News → Record → Type 0
IsNoted news (Answered ticket server) = news ≡ Some (AnsweredNews ticket server)
IsNoted news other = Unit {0}

pub free_noted : (news : Option News) (item : Record) → IsUnanswered item → IsNoted news item
free_noted news (Answered ticket server) none = absurd none
free_noted news _ none = tt

-- ---- one more group

module _ (log group : List Record) (w : IsWhole log group) where
  fail_still : (ticket : ℕ) → MayFail log ticket → MayFail (log ++ group) ticket
  fail_still ticket may =
      let size = length-append log group in
      record {
        object = may.object;
        asked = asked_grows log group ticket may.object may.asked;
        ended =
            ended_later (log ++ group) log (log ++ group) ticket may.object (omega (arith, size))
            (ended_still log group w ticket may.object log may.ended);
        disturbed = disturbed_still log group w ticket may.object may.disturbed;
      }

  pub failed_still : (before : List Record) (ticket : ℕ) → HasFailed log before ticket → HasFailed (log ++ group) before ticket
  failed_still before ticket failed = record {
    object = failed.object;
    asked = failed.asked;
    ended = ended_still log group w ticket failed.object before failed.ended;
    disturbed = answered_still log group w ticket failed.object before failed.disturbed;
  }

  -- one that may fail has failed with an answer in the group
  pub fails_by : (middle : List Record) (ticket : ℕ) → MayFail log ticket → HasFailed (log ++ group) (log ++ middle) ticket
  fails_by middle ticket may =
      let size = length-append log middle in
      record {
        object = may.object;
        asked = asked_grows log middle ticket may.object may.asked;
        ended =
            ended_later (log ++ group) log (log ++ middle) ticket may.object (omega (arith, size))
            (ended_still log group w ticket may.object log may.ended);
        disturbed =
            disturbed_by log group w ticket may.object middle (disturbed_still log group w ticket may.object may.disturbed);
      }

module _ (b : Beginning) (log group : List Record) (run : IsRun b log) (follows : Follows b log group)
    (names : HaveNames b.settings group) (watched : Watched b.settings log (system_of log)) where
  abbrev p : SettingsValue
  p = b.settings

  abbrev s : System
  s = system_of log

  abbrev s' : System
  s' = system_of (log ++ group)

  w : IsWhole log group
  w = whole b log group run.course run.going follows

  later : IsRun b (log ++ group)
  later = run_more b log group run follows names

  sound : Sound b.settings (system_of log)
  sound = runs_are_sound b log run

  grown : Grown log (system_of log)
  grown = run_grown b log run

  looked : Looked log (system_of log)
  looked = run_looked b log run

  kind : IsKnownGroup b.settings log (system_of log) group
  kind = run_kind b log group run follows names

  moves_to : (move : Option Move) → move_of_group log group ≡ move → system_of (log ++ group) ≡ moved_by b.settings (system_of log) move
  moves_to = run_moves b log group run follows

  still : (ticket : ℕ) (object : List ℕ) → HasBeenDisturbed log ticket object → HasBeenDisturbed (log ++ group) ticket object
  still ticket object was = disturbed_still log group w ticket object was

  -- ---- Finds

  abbrev KnownOf : List ℕ → ℕ → List ℕ → List ℕ → ℕ → Type 0
  KnownOf to ticket object asker level =
      HasBeenDisturbed (log ++ group) ticket object ⊎ IsOnWalk b.settings (system_of (log ++ group)) object asker to level

  module _ (from to : List ℕ) (ticket : ℕ) (object asker : List ℕ) (level : ℕ)
      (way : IsUnderWay (system_of (log ++ group)) from to (Find ticket object asker level)) where
    find_idle : system_of (log ++ group) ≡ system_of log → KnownOf to ticket object asker level
    find_idle same =
        elim (watched.finds from to ticket object asker level
        (subst (λ t. IsUnderWay t from to (Find ticket object asker level)) same way)) [
          | inl known ↦ inl (still ticket object known)
          | inr on ↦ inr (subst (λ t. IsOnWalk b.settings t object asker to level) (sym same) on)
        ]

    find_moved : AreLookups (system_of (log ++ group)) → (move : Move) → move_of_group log group ≡ Some move
        → may_move b.settings (system_of log) move → KnownOf to ticket object asker level
    find_moved lookups move is may =
        let same = moves_to (Some move) is in
        let law = finds_stay_on_walks b.settings (system_of log) move may sound grown.stand looked.core (subst AreLookups same lookups) from to
        ticket object asker level (subst (λ t. IsUnderWay t from to (Find ticket object asker level)) same way) in
        let back = λ (on : IsOnWalk b.settings (moved b.settings (system_of log) move) object asker to level).
        subst (λ t. IsOnWalk b.settings t object asker to level) (sym same) on in
        elim law [
          | inr on ↦ inr (back on)
          | inl comes ↦
              elim (watched.finds comes.from comes.at ticket object asker comes.entered comes.way) [
                | inl known ↦ inl (still ticket object known)
                | inr on ↦
                    let asked = looked.are.finds comes.from comes.at ticket object asker comes.entered comes.way in
                    elim (now_disturbed log ticket object watched.moment asked) [
                      | inl known ↦ inl (still ticket object known)
                      | inr clear ↦ inr (back (comes.on clear.lookups on))
                    ]
              ]
        ]

    pub find_watched : KnownOf to ticket object asker level
    find_watched =
        let asked = (run_looked b (log ++ group) later).are.finds from to ticket object asker level way in
        elim (now_disturbed (log ++ group) ticket object (end_moment log group w) asked) [
          | inl known ↦ inl known
          | inr clear ↦
              elim kind [
                | inl idle ↦ find_idle (moves_to None idle.still)
                | inr (inl start) ↦
                    find_moved clear.lookups (Begins start.starting.name start.starting.start) start.moves start.may
                | inr (inr taken) ↦ find_moved clear.lookups (Delivers taken.number) taken.moves taken.may
              ]
        ]

  -- ---- Answers

  -- a lookup that ends as its Find is taken has been disturbed
  disturbed_at : (number ticket : ℕ) (object : List ℕ) → EndsWith (system_of log) number ticket object → HasBeenDisturbed log ticket object
  disturbed_at number ticket object ends =
      let way : IsUnderWay (system_of log) ends.from ends.to (Find ticket object ends.asker ends.level) =
      record { number = number; among = ends.among } in
      let due = looked.core.finds ends.from ends.to ticket object ends.asker ends.level way in
      let name = (find_spelled b.settings (system_of log) sound ends.from ends.to ticket object ends.asker ends.level way).0 in
      let asked = looked.are.finds ends.from ends.to ticket object ends.asker ends.level way in
      elim (watched.finds ends.from ends.to ticket object ends.asker ends.level way) [
        | inl known ↦ known
        | inr on ↦
            elim (now_disturbed log ticket object watched.moment asked) [
              | inl known ↦ known
              | inr clear ↦
                  let pair = pair_of object clear.server in
                  let published = served_is (system_of log) pair (sym (grown.agree pair) ∙ clear.published) in
                  absurd (ends_of_walks_are_exact b.settings (system_of log) ends.to object ends.asker ends.level sound grown.stand
                  clear.lookups name due.asks due.receiver on ends.ends clear.server published)
            ]
      ]

  fails_with : (taken : IsTakenGroup b.settings log (system_of log) group) → (ticket : ℕ) (object : List ℕ)
      → EndsWith (system_of log) taken.number ticket object → MayFail (log ++ group) ticket
  fails_with taken ticket object ends =
      let way : IsUnderWay (system_of log) ends.from ends.to (Find ticket object ends.asker ends.level) =
      record { number = taken.number; among = ends.among } in
      let asked = looked.are.finds ends.from ends.to ticket object ends.asker ends.level way in
      let size = length-append log group in
      record {
        object = object;
        asked = asked_grows log group ticket object asked;
        ended =
            ends_now log group w ticket object (log ++ group) watched.moment (omega (arith, size))
            (inl (record { number = taken.number; items = taken.items; is = taken.is; ends = ends }));
        disturbed = still ticket object (disturbed_at taken.number ticket object ends);
      }

  module _ (from to : List ℕ) (ticket : ℕ) (way : IsUnderWay (system_of (log ++ group)) from to (Answer ticket None)) where
    old_answer : IsUnderWay (system_of log) from to (Answer ticket None) → MayFail (log ++ group) ticket
    old_answer old = fail_still log group w ticket (watched.answers from to ticket old)

    pub answer_watched : MayFail (log ++ group) ticket
    answer_watched =
        let moved_way = λ (t : System) (same : system_of (log ++ group) ≡ t). subst (λ u. IsUnderWay u from to (Answer ticket None)) same way in
        elim kind [
          | inl idle ↦ old_answer (moved_way (system_of log) (moves_to None idle.still))
          | inr (inl start) ↦
              let move = Begins start.starting.name start.starting.start in
              old_answer (started_answer b.settings (system_of log) start.starting.name start.starting.start from to ticket None start.may sound
              (moved_way (moved b.settings (system_of log) move) (moves_to (Some move) start.moves)))
          | inr (inr taken) ↦
              let move = Delivers taken.number in
              elim (none_comes_from_ends b.settings (system_of log) taken.number from to ticket taken.may sound
              (moved_way (moved b.settings (system_of log) move) (moves_to (Some move) taken.moves))) [
                | inl old ↦ old_answer old
                | inr (object, ends) ↦ fails_with taken ticket object ends
              ]
        ]
