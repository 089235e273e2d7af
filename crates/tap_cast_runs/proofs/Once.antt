-- In each run the log says once whom a cast has reached, and once that it is closed.
use Rattle.std.proofs.Common.{◌≡◌, inl, inr, ◌==◌, nat_eq, ℕ, ◌+◌, ◌≤◌, Bool, true, false, List, [], ◌∷◌, ◌++◌, Option, None, Some, arith, refl, ap, sym, subst, ◌∙◌, eqb-true}
use Rattle.std.specs.Option.{option_map}
use Rattle.std.proofs.lemmas.Bool.{and_parts, cases_Bool, true≢false}
use Rattle.std.proofs.lemmas.Slice.Eq.{bytes_eq-Decides}
use Rattle.std.specs.Cmp.Lexicographic.{pointwise}
use Rattle.tap_name.specs.Prefix.{lcp}
use Rattle.tap_name.proofs.Membership.{has_name-Decides}
use Rattle.tap_history.specs.Core.{core_of}
use Rattle.tap_rule.specs.Event.News.{Cast as CastNews}
use Rattle.tap_safe_runs.proofs.Moments.{core_names}
use Rattle.tap_name.specs.Settings.{SettingsValue}
use Rattle.tap_wire.specs.declared.frame.Frame.{Frame}
use Rattle.tap_log.specs.declared.record.Record.{Record}
use Rattle.tap_history.specs.Groups.{is_ended}
use Rattle.tap_rule.specs.Act.{act}
use Rattle.tap_rule.specs.Event.{News, Start}
use Rattle.tap_rule.specs.Event.Event.{Starts, Takes}
use Rattle.tap_rule.specs.Event.Start.{Abandon as StartAbandon, Cast as StartCast, Find as StartFind, Join as StartJoin, Leave as StartLeave, Publish as StartPublish, Withdraw as StartWithdraw}
use Rattle.tap_rule.specs.Node.{NodeState}
use Rattle.tap_safety.specs.Move.{Move}
use Rattle.tap_safety.specs.Move.Move.{Begins, Delivers}
use Rattle.tap_safety.specs.Moved.{numbered_frame, starter}
use Rattle.tap_safety.specs.System.{System, IsCoreNode}
use Rattle.tap_runs.specs.Beginning.{Beginning, IsWithinLimits, begin_record}
use Rattle.tap_runs.specs.Course.{Follows, IsCourse, move_of_group, system_of}
use Rattle.tap_runs.specs.Named.{HaveNames}
use Rattle.tap_runs.proofs.CourseGrows.{by_groups}
use Rattle.tap_safe_runs.specs.Safe.{IsRun}
use Rattle.tap_safe_runs.proofs.Possible.{group_may_move}
use Rattle.tap_safe_runs.proofs.Safe.{runs_are_sound, steps_after, steps_before}
use Rattle.tap_safe_runs.proofs.Each.{each_of_run}
use Rattle.tap_cast_moves.specs.SoundCasts.{IsNewCast}
use Rattle.tap_cast_moves.specs.News.{named_news_of, named_news_of_frame}
use Rattle.tap_cast_moves.specs.Recalled.{recalled, recalled_delivery, recalled_frame, recalled_start, runs_begun, runs_noted}
use Rattle.tap_cast_moves.specs.Remembered.{CastMemory, CastRun}
use Rattle.tap_cast_moves.proofs.SoundCasts.{news_are_true}
use Rattle.tap_cast_runs.specs.RunCasts.{casts_of, recalled_by}
use Rattle.tap_cast_runs.specs.ReachedOnce.{ClosedHasReachedAll, GroupsReachRight, IsReachedRight, IsToldOnce, ReachesRight, ReachesAtMostOnce, RestSaysClosed, RunIsToldOnce, is_closed, is_reached, says_closed, says_reached}
use Rattle.tap_cast_runs.proofs.Casts.{IsKept, fresh, grown_casts, rest_no_casts, runs_keep, start_casts}
use Rattle.tap_cast_runs.proofs.Plain.{closed_on, closes_by, group_tells, news_by, reached_on, reaches, reaches_by}
use Rattle.tap_cast_runs.proofs.ToldOnce.{closed_grows, one_if, reached_grows}

-- ---- what is noted at a move

record IsNoted (r r' : CastMemory) (y : List ℕ) (news : News) : Type 0 where
  runs : ℕ → Option CastRun
  noted : (d : ℕ) → r'.cast d ≡ runs_noted runs y news d
  reached : (d : ℕ) (x : List ℕ) → is_reached (runs d) x ≡ is_reached (r.cast d) x
  closed : (d : ℕ) → is_closed (runs d) ≡ is_closed (r.cast d)

-- a cast that starts has reached nobody, and isn't closed
begun_same : (s : System) (r : CastMemory) (x : List ℕ) (start : Start) → IsNewCast r (Begins x start) → (d : ℕ)
    → ((z : List ℕ) → is_reached (runs_begun s r x start d) z ≡ is_reached (r.cast d) z)
    × (is_closed (runs_begun s r x start d) ≡ is_closed (r.cast d))
begun_same s r x (StartCast cast level word) fresh d =
    elim (cases_Bool (d == cast)) [
      | inl here ↦
          let none : r.cast d ≡ None = ap r.cast (eqb-true d cast here) ∙ fresh in
          (λ z. rw (here, none) refl, rw (here, none) refl)
      | inr there ↦ (λ z. rw there refl, rw there refl)
    ]
begun_same s r x (StartJoin via) fresh d = (λ z. refl, refl)
begun_same s r x StartAbandon fresh d = (λ z. refl, refl)
begun_same s r x (StartPublish object) fresh d = (λ z. refl, refl)
begun_same s r x (StartWithdraw object) fresh d = (λ z. refl, refl)
begun_same s r x (StartFind ticket object) fresh d = (λ z. refl, refl)
begun_same s r x StartLeave fresh d = (λ z. refl, refl)

pair_is : (x y : List ℕ) (one other : News) → ◌≡◌ {A = Option (List ℕ × News)} (Some (x, one)) (Some (y, other)) → (x ≡ y) × (one ≡ other)
pair_is x y one other is = (ap (name_in x) is, ap (news_in one) is)
  where
    name_in : List ℕ → Option (List ℕ × News) → List ℕ
    name_in other None = other
    name_in other (Some told) = told.0

    news_in : News → Option (List ℕ × News) → News
    news_in other None = other
    news_in other (Some told) = told.1

start_notes : (s : System) (r : CastMemory) (x : List ℕ) (start : Start) (node : Option NodeState) → IsNewCast r (Begins x start) → (y : List ℕ)
    (news : News) → option_map {U = List ℕ × News} (λ n. (x, (act n (Starts start)).news)) node ≡ Some (y, news)
    → IsNoted r (recalled_start s r x start node) y news
start_notes s r x start None fresh y news is = cc
start_notes s r x start (Some node) fresh y news is =
    let same = pair_is x y (act node (Starts start)).news news is in
    record {
      runs = runs_begun s r x start;
      noted = λ d. ap (λ z. runs_noted (runs_begun s r x start) z (act node (Starts start)).news d) same.0
          ∙ ap (λ n. runs_noted (runs_begun s r x start) y n d) same.1;
      reached = λ d z. (begun_same s r x start fresh d).0 z;
      closed = λ d. (begun_same s r x start fresh d).1;
    }

frame_notes : (s : System) (r : CastMemory) (number : ℕ) (frame : Frame) (node : Option NodeState) (y : List ℕ) (news : News)
    → option_map {U = List ℕ × News} (λ n. (frame.to, (act n (Takes frame)).news)) node ≡ Some (y, news)
    → IsNoted r (recalled_frame s r number frame node) y news
frame_notes s r number frame None y news is = cc
frame_notes s r number frame (Some node) y news is =
    let same = pair_is frame.to y (act node (Takes frame)).news news is in
    record {
      runs = r.cast;
      noted = λ d. ap (λ z. runs_noted r.cast z (act node (Takes frame)).news d) same.0 ∙ ap (λ n. runs_noted r.cast y n d) same.1;
      reached = λ d z. refl;
      closed = λ d. refl;
    }

delivery_notes : (s : System) (r : CastMemory) (number : ℕ) (frame : Option Frame) (y : List ℕ) (news : News)
    → named_news_of_frame s frame ≡ Some (y, news) → IsNoted r (recalled_delivery s r number frame) y news
delivery_notes s r number None y news is = cc
delivery_notes s r number (Some frame) y news is = frame_notes s r number frame (s.node frame.to) y news is

move_notes : (p : SettingsValue) (s : System) (r : CastMemory) (move : Move) (y : List ℕ) (news : News) → IsNewCast r move
    → named_news_of p s move ≡ Some (y, news) → IsNoted r (recalled p s r move) y news
unfolding recalled
move_notes p s r (Begins x start) y news fresh is = start_notes s r x start (starter p s x start) fresh y news is
move_notes p s r (Delivers number) y news fresh is = delivery_notes s r number (numbered_frame number s.frames) y news is

-- without news nothing changes
start_still : (s : System) (r : CastMemory) (x : List ℕ) (start : Start) (node : Option NodeState)
    → option_map {U = List ℕ × News} (λ n. (x, (act n (Starts start)).news)) node ≡ None → recalled_start s r x start node ≡ r
start_still s r x start None is = refl
start_still s r x start (Some node) is = absurd (cc)

frame_still : (s : System) (r : CastMemory) (number : ℕ) (frame : Frame) (node : Option NodeState)
    → option_map {U = List ℕ × News} (λ n. (frame.to, (act n (Takes frame)).news)) node ≡ None → recalled_frame s r number frame node ≡ r
frame_still s r number frame None is = refl
frame_still s r number frame (Some node) is = absurd (cc)

delivery_still : (s : System) (r : CastMemory) (number : ℕ) (frame : Option Frame) → named_news_of_frame s frame ≡ None
    → recalled_delivery s r number frame ≡ r
delivery_still s r number None is = refl
delivery_still s r number (Some frame) is = frame_still s r number frame (s.node frame.to) is

move_still : (p : SettingsValue) (s : System) (r : CastMemory) (move : Move) → named_news_of p s move ≡ None → recalled p s r move ≡ r
unfolding recalled
move_still p s r (Begins x start) is = start_still s r x start (starter p s x start) is
move_still p s r (Delivers number) is = delivery_still s r number (numbered_frame number s.frames) is

-- ---- one more group

module _ (b : Beginning) where
  abbrev IsToldIf : List Record → Type 0
  IsToldIf log = HaveNames b.settings log → IsToldOnce log

  module _ (log group : List Record) (course : IsCourse b log) (going : is_ended log ≡ false) (follows : Follows b log group)
      (before : HaveNames b.settings log) (steps : HaveNames b.settings group) (told : IsToldOnce log) where
    abbrev p : SettingsValue
    p = b.settings

    abbrev s : System
    s = system_of log

    abbrev r : CastMemory
    r = casts_of log

    run : IsRun b log
    run = record { course = course; going = going; steps = before }

    kept : IsKept b log
    kept = runs_keep b log run

    -- what a move adds to what is remembered
    record Adds (r' : CastMemory) (news : Option (List ℕ × News)) : Type 0 where
      reached : (c : ℕ) (x : List ℕ) → ◌≡◌ {A = ℕ} (one_if (is_reached (r'.cast c) x))
          (one_if (is_reached (r.cast c) x) + one_if (reaches_by c x news))
      closed : (c : ℕ) → ◌≡◌ {A = ℕ} (one_if (is_closed (r'.cast c))) (one_if (is_closed (r.cast c)) + one_if (closes_by c news))

    adds_nothing : Adds r None
    adds_nothing = record { reached = λ c x. omega arith; closed = λ c. omega arith }

    move_adds : (move : Move) → move_of_group log group ≡ Some move → (news : Option (List ℕ × News)) → named_news_of p s move ≡ news
        → Adds (recalled p s r move) news
    move_adds move is None none = subst (λ m. Adds m None) (sym (move_still p s r move none)) adds_nothing
    move_adds move is (Some (y, news)) there =
        let sound = runs_are_sound b log run in
        let new = fresh b log group course going follows before steps kept move is in
        let notes = move_notes p s r move y news new there in
        let are_true = news_are_true p s r move y news
        (group_may_move b log group move course going sound.invariant.basis follows steps is) new sound kept.sound there in
        record {
          reached = λ c x. reached_grows s r (recalled p s r move) notes.runs y news notes.noted notes.reached notes.closed are_true c x;
          closed = λ c. closed_grows s r (recalled p s r move) notes.runs y news notes.noted notes.reached notes.closed are_true c;
        }

    group_adds : (move : Option Move) → move_of_group log group ≡ move → Adds (recalled_by p s r move) (news_by p s move)
    group_adds None is = adds_nothing
    group_adds (Some move) is = move_adds move is (named_news_of p s move) refl

    told_grows : IsToldOnce (log ++ group)
    told_grows =
        let tells = group_tells p log s group follows.may in
        let adds = subst (λ m. Adds m (news_by p s (move_of_group log group))) (sym (grown_casts b log group course going follows))
        (group_adds (move_of_group log group) refl) in
        record {
          reached = λ c x.
              let all = reached_on c x log group in
              let old = told.reached c x in
              let new = tells.reached c x in
              let sum = adds.reached c x in
              omega (arith, all, old, new, sum);
          closed = λ c.
              let all = closed_on c log group in
              let old = told.closed c in
              let new = tells.closed c in
              let sum = adds.closed c in
              omega (arith, all, old, new, sum);
        }

  start_told : IsWithinLimits b → IsToldOnce (begin_record b ∷ [])
  unfolding says_reached says_closed
  start_told limits = record {
    reached = λ c x. ap (λ (m : CastMemory). one_if (is_reached (m.cast c) x)) (sym (start_casts b limits));
    closed = λ c. ap (λ (m : CastMemory). one_if (is_closed (m.cast c))) (sym (start_casts b limits));
  }

  told_keeps : (log group : List Record) → IsCourse b log → is_ended log ≡ false → Follows b log group → IsToldIf log
      → IsToldIf (log ++ group)
  told_keeps log group course going follows told steps =
      let before = steps_before b.settings log group steps in
      told_grows log group course going follows before (steps_after b.settings log group steps) (told before)

pub run_told_once : RunIsToldOnce
run_told_once b log run =
    by_groups b (IsToldIf b) (told_keeps b) (λ steps. start_told b run.course.limits) log run.course run.going run.steps

-- ---- what follows

most_one : (is : Bool) → one_if is ≤ 1
most_one true = omega arith
most_one false = omega arith

pub reaches_at_most_once : ReachesAtMostOnce
reaches_at_most_once b log cast name run =
    let told = run_told_once b log run in
    let reached = told.reached cast name in
    let closed = told.closed cast in
    let one = most_one (is_reached ((casts_of log).cast cast) name) in
    let two = most_one (is_closed ((casts_of log).cast cast)) in
    (omega (arith, reached, one), omega (arith, closed, two))

is_so : (is : Bool) → one_if is ≡ 1 → is ≡ true
is_so true one = refl
is_so false one = absurd (omega (arith, one))

pub closed_has_reached_all : ClosedHasReachedAll
closed_has_reached_all b log cast run name going closed started of =
    let told = run_told_once b log going in
    let over : run.closed ≡ true = is_so run.closed (ap (λ o. one_if (is_closed o)) (sym started) ∙ sym (told.closed cast) ∙ closed) in
    let reached = ((runs_keep b log going).sound.audience.each cast run started).reached over name of in
    told.reached cast name ∙ ap (λ o. one_if (is_reached o name)) started ∙ ap one_if reached

pub rest_says_closed : RestSaysClosed
rest_says_closed b log cast run going rest started =
    let told = run_told_once b log going in
    let over = (rest_no_casts b log going rest).closed cast run started in
    told.closed cast ∙ ap (λ o. one_if (is_closed o)) started ∙ ap one_if over

-- ---- what each group says

-- the news that say that a cast has reached x are those of x
reached_news : (c : ℕ) (x y : List ℕ) (news : News) → reaches c x y news ≡ true
    → (closed : Bool) × (news ≡ CastNews c true closed) × (x ≡ y)
reached_news c x y News.Nothing is = absurd (true≢false (sym is))
reached_news c x y News.Core is = absurd (true≢false (sym is))
reached_news c x y News.Gone is = absurd (true≢false (sym is))
reached_news c x y (News.Answered ticket server) is = absurd (true≢false (sym is))
reached_news c x y (CastNews cast true closed) is =
    let parts = and_parts (c == cast) (pointwise nat_eq x y) is in
    let same = eqb-true c cast parts.0 in
    (closed, ap (λ d. CastNews d true closed) (sym same), (bytes_eq-Decides x y).0 parts.1)
reached_news c x y (CastNews cast false closed) is = absurd (true≢false (sym is))

module _ (b : Beginning) (log group : List Record) (run : IsRun b log) (steps : HaveNames b.settings group) (follows : Follows b log group) where
  reached_right : (move : Option Move) → move_of_group log group ≡ move → (news : Option (List ℕ × News))
      → news_by b.settings (system_of log) move ≡ news → (c : ℕ) (x : List ℕ) → reaches_by c x news ≡ true
      → IsReachedRight log group c x
  reached_right move is None none c x reached = absurd (true≢false (sym reached))
  reached_right None is (Some told) there c x reached =
      let wrong : ◌≡◌ {A = Option (List ℕ × News)} None (Some told) = there in absurd (cc)
  reached_right (Some move) is (Some (y, news)) there c x reached =
      let p = b.settings in
      let s = system_of log in
      let sound = runs_are_sound b log run in
      let kept = runs_keep b log run in
      let new = fresh b log group run.course run.going follows run.steps steps kept move is in
      let parts = reached_news c x y news reached in
      let right = news_are_true p s (casts_of log) move y news
      (group_may_move b log group move run.course run.going sound.invariant.basis follows steps is) new sound kept.sound there c true parts.0
      parts.1 in
      let casts : casts_of (log ++ group) ≡ recalled p s (casts_of log) move =
      grown_casts b log group run.course run.going follows ∙ ap (recalled_by p s (casts_of log)) is in
      record {
        core = (has_name-Decides (core_of log) x).1
            ((core_names b log run x).1 (subst (IsCoreNode s) (sym parts.2) (right.core refl)));
        run = right.now;
        started = ap (λ (m : CastMemory). m.cast c) casts ∙ right.started;
        begins = subst (λ z. right.now.level ≤ lcp right.now.caster z) (sym parts.2) (right.begins refl);
      }

  pub right_group : ReachesRight log group
  right_group c x says =
      let tells = group_tells b.settings log (system_of log) group follows.may in
      let news = news_by b.settings (system_of log) (move_of_group log group) in
      reached_right (move_of_group log group) refl news refl c x (is_so (reaches_by c x news) (sym (tells.reached c x) ∙ says))

pub groups_reach_right : GroupsReachRight
groups_reach_right b log = each_of_run b log ReachesRight (λ before group stands. right_group b before group stands.run stands.steps stands.follows)
