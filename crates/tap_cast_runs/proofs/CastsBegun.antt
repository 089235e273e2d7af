-- What is remembered of a cast is what the log said as it began, and stays so.
use Rattle.std.proofs.Common.{◌≡◌, inl, inr, ◌==◌, ℕ, nat_le, ◌+◌, Bool, true, false, List, [], ◌∷◌, ◌++◌, length, All, Option, None, Some, refl, ap, sym, subst, ◌∙◌, eqb-true}
use Rattle.std.specs.Prelude.{◌&&◌}
use Rattle.std.specs.Option.{option_map}
use Rattle.std.proofs.lemmas.Bool.{cases_Bool}
use Rattle.std.proofs.lemmas.List.Elements.{All-append, All-cons, All-nil}
use Rattle.tap_name.specs.Prefix.{lcp}
use Rattle.tap_name.specs.Settings.{SettingsValue}
use Rattle.tap_scenario.specs.declared.step.Step.{Step}
use Rattle.tap_scenario.specs.declared.step.Step.TheVariants.{Abandon, Cast, Find, Publish, Withdraw}
use Rattle.tap_wire.specs.declared.frame.Frame.{Frame}
use Rattle.tap_log.specs.declared.record.Record.{Record}
use Rattle.tap_log.specs.declared.record.Record.TheVariants.{Abandoned, Asked, CastFrom, Closed, Published, Reached, Step as StepRecord, Taken, Withdrawn}
use Rattle.tap_log.specs.Counts.{sent_count}
use Rattle.tap_log.specs.Kinds.{begun_cast}
use Rattle.tap_history.specs.StepAsks.{actor_of}
use Rattle.tap_rule.specs.Act.{act}
use Rattle.tap_rule.specs.Event.{Event, News, Start}
use Rattle.tap_rule.specs.Event.Event.{Starts, Takes}
use Rattle.tap_rule.specs.Event.News.{Nothing, Core as CoreNews, Gone as GoneNews, Answered as AnsweredNews, Cast as CastNews}
use Rattle.tap_rule.specs.Event.Start.{Abandon as StartAbandon, Cast as StartCast, Find as StartFind, Join as StartJoin, Leave as StartLeave, Publish as StartPublish, Withdraw as StartWithdraw}
use Rattle.tap_rule.specs.Node.{NodeState, Status}
use Rattle.tap_rule.specs.Node.Status.{Ceased, Core, Gone, Joining, Leaving}
use Rattle.tap_rule.specs.Sent.{IsAmong}
use Rattle.tap_rule.proofs.Among.{among-either}
use Rattle.tap_rule.proofs.AnswerSteps.{same_number}
use Rattle.tap_safety.specs.Move.{Move}
use Rattle.tap_safety.specs.Move.Move.{Begins, Delivers}
use Rattle.tap_safety.specs.Moved.{numbered_frame, starter}
use Rattle.tap_safety.specs.System.{System}
use Rattle.tap_moves.proofs.Got.{among_all}
use Rattle.tap_runs.specs.Acts.{if_so, news_after, news_before, sent_records}
use Rattle.tap_runs.specs.Beginning.{Beginning}
use Rattle.tap_runs.specs.Course.{Follows, MayFollow, move_of_group, system_of}
use Rattle.tap_runs.specs.Group.{received_records, records_of_act, start_at}
use Rattle.tap_runs.specs.Named.{HaveNames}
use Rattle.tap_runs.specs.Observed.{is_core_node}
use Rattle.tap_runs.specs.Starts.{announced, next_cast, next_ticket, start_of_step}
use Rattle.tap_runs.proofs.Departing.{course_nodes_holds}
use Rattle.tap_runs.proofs.Frames.{starting_moves}
use Rattle.tap_runs.proofs.Within.{IsQuiet, IsStarting, step_kind}
use Rattle.tap_safe_runs.specs.Safe.{IsRun}
use Rattle.tap_safe_runs.proofs.Possible.{group_may_move}
use Rattle.tap_safe_runs.proofs.Safe.{runs_are_sound}
use Rattle.tap_safe_runs.proofs.Each.{each_of_run}
use Rattle.tap_cast_moves.specs.SoundCasts.{IsNewCast}
use Rattle.tap_cast_moves.specs.Recalled.{is_core, recalled, recalled_delivery, recalled_frame, recalled_start, run_begun, run_marked, runs_begun, runs_noted}
use Rattle.tap_cast_moves.specs.Remembered.{CastMemory, CastRun}
use Rattle.tap_cast_runs.specs.Begun.{BeginsRight, CastsStayBegun, GroupsBeginRight, StaysBegun}
use Rattle.tap_cast_runs.specs.RunCasts.{casts_of, recalled_by}
use Rattle.tap_cast_runs.proofs.Casts.{fresh, grown_casts, runs_keep}

-- ---- a cast stays as it was begun

record IsStill (found : Option CastRun) (run : CastRun) : Type 0 where
  now : CastRun
  is : found ≡ Some now
  caster : now.caster ≡ run.caster
  level : now.level ≡ run.level
  audience : now.audience ≡ run.audience

still_same : (found : Option CastRun) (run : CastRun) → found ≡ Some run → IsStill found run
still_same found run is = record { now = run; is = is; caster = refl; level = refl; audience = refl }

noted_still : (runs : ℕ → Option CastRun) (y : List ℕ) (news : News) (c : ℕ) (run : CastRun) → runs c ≡ Some run
    → IsStill (runs_noted runs y news c) run
noted_still runs y (CastNews cast reached closed) c run is =
    elim (cases_Bool (c == cast)) [
      | inl here ↦
          let there : runs cast ≡ Some run = ap runs (sym (eqb-true c cast here)) ∙ is in
          record {
            now = run_marked y reached closed run;
            is = rw (here, there) refl;
            caster = refl;
            level = refl;
            audience = refl;
          }
      | inr other ↦ still_same (runs_noted runs y (CastNews cast reached closed) c) run (rw other is)
    ]
noted_still runs y Nothing c run is = still_same (runs c) run is
noted_still runs y CoreNews c run is = still_same (runs c) run is
noted_still runs y GoneNews c run is = still_same (runs c) run is
noted_still runs y (AnsweredNews ticket server) c run is = still_same (runs c) run is

begun_still : (s : System) (r : CastMemory) (x : List ℕ) (start : Start) → IsNewCast r (Begins x start) → (c : ℕ) (run : CastRun)
    → r.cast c ≡ Some run → runs_begun s r x start c ≡ Some run
begun_still s r x (StartCast cast level word) fresh c run is =
    elim (cases_Bool (c == cast)) [
      | inl here ↦
          let wrong : ◌≡◌ {A = Option CastRun} None (Some run) = sym fresh ∙ ap r.cast (sym (eqb-true c cast here)) ∙ is in absurd (cc)
      | inr other ↦ rw other is
    ]
begun_still s r x (StartJoin via) fresh c run is = is
begun_still s r x StartAbandon fresh c run is = is
begun_still s r x (StartPublish object) fresh c run is = is
begun_still s r x (StartWithdraw object) fresh c run is = is
begun_still s r x (StartFind ticket object) fresh c run is = is
begun_still s r x StartLeave fresh c run is = is

start_still : (s : System) (r : CastMemory) (x : List ℕ) (start : Start) (node : Option NodeState) → IsNewCast r (Begins x start) → (c : ℕ)
    (run : CastRun) → r.cast c ≡ Some run → IsStill ((recalled_start s r x start node).cast c) run
start_still s r x start None fresh c run is = still_same (r.cast c) run is
start_still s r x start (Some node) fresh c run is =
    noted_still (runs_begun s r x start) x (act node (Starts start)).news c run (begun_still s r x start fresh c run is)

frame_still : (s : System) (r : CastMemory) (number : ℕ) (frame : Frame) (node : Option NodeState) (c : ℕ) (run : CastRun)
    → r.cast c ≡ Some run → IsStill ((recalled_frame s r number frame node).cast c) run
frame_still s r number frame None c run is = still_same (r.cast c) run is
frame_still s r number frame (Some node) c run is = noted_still r.cast frame.to (act node (Takes frame)).news c run is

delivery_still : (s : System) (r : CastMemory) (number : ℕ) (frame : Option Frame) (c : ℕ) (run : CastRun) → r.cast c ≡ Some run
    → IsStill ((recalled_delivery s r number frame).cast c) run
delivery_still s r number None c run is = still_same (r.cast c) run is
delivery_still s r number (Some frame) c run is = frame_still s r number frame (s.node frame.to) c run is

move_still : (p : SettingsValue) (s : System) (r : CastMemory) (move : Move) → IsNewCast r move → (c : ℕ) (run : CastRun)
    → r.cast c ≡ Some run → IsStill ((recalled p s r move).cast c) run
unfolding recalled
move_still p s r (Begins x start) fresh c run is = start_still s r x start (starter p s x start) fresh c run is
move_still p s r (Delivers number) fresh c run is = delivery_still s r number (numbered_frame number s.frames) c run is

pub casts_stay_begun : CastsStayBegun
casts_stay_begun b log group cast run going follows steps is = by (move_of_group log group) refl
  where
    grown_is : (move : Option Move) → move_of_group log group ≡ move
        → casts_of (log ++ group) ≡ recalled_by b.settings (system_of log) (casts_of log) move
    grown_is move same =
        grown_casts b log group going.course going.going follows ∙ ap (recalled_by b.settings (system_of log) (casts_of log)) same

    stays : (move : Option Move) → move_of_group log group ≡ move
        → IsStill ((recalled_by b.settings (system_of log) (casts_of log) move).cast cast) run → StaysBegun (log ++ group) cast run
    stays move same still = record {
      now = still.now;
      started = ap (λ (m : CastMemory). m.cast cast) (grown_is move same) ∙ still.is;
      caster = still.caster;
      level = still.level;
      audience = still.audience;
    }

    by : (move : Option Move) → move_of_group log group ≡ move → StaysBegun (log ++ group) cast run
    by None same = stays None same (still_same ((casts_of log).cast cast) run is)
    by (Some move) same =
        stays (Some move) same
        (move_still b.settings (system_of log) (casts_of log) move
        (fresh b log group going.course going.going follows going.steps steps (runs_keep b log going) move same) cast run is)

-- ---- which records begin a cast

abbrev NoneBegins : List Record → Type 0
NoneBegins items = All (λ item. begun_cast item ≡ None) items

never_begins : (items : List Record) (c level : ℕ) (word caster : List ℕ) → NoneBegins items → IsAmong (CastFrom c word level caster) items → ⊥
unfolding begun_cast
never_begins items c level word caster none among =
    begins c level word caster (among_all (λ item. begun_cast item ≡ None) items none (CastFrom c word level caster) among)
  where
    begins : (c level : ℕ) (word caster : List ℕ) → begun_cast (CastFrom c word level caster) ≡ None → ⊥
    begins c level word caster wrong = cc

nothing : NoneBegins []
nothing = All-nil (λ item. begun_cast item ≡ None)

one : (item : Record) → begun_cast item ≡ None → NoneBegins (item ∷ [])
one item is = All-cons (λ item. begun_cast item ≡ None) item [] is nothing

so_none : (there : Bool) (item : Record) → begun_cast item ≡ None → NoneBegins (if_so there item)
so_none true item is = one item is
so_none false item is = nothing

before_none : (name : List ℕ) (news : News) → NoneBegins (news_before name news)
unfolding begun_cast news_before
before_none name Nothing = nothing
before_none name CoreNews = one _ refl
before_none name GoneNews = one _ refl
before_none name (AnsweredNews ticket server) = nothing
before_none name (CastNews cast reached closed) = so_none reached (Reached cast name) refl

after_none : (news : News) → NoneBegins (news_after news)
unfolding begun_cast news_after
after_none Nothing = nothing
after_none CoreNews = nothing
after_none GoneNews = nothing
after_none (AnsweredNews ticket server) = one _ refl
after_none (CastNews cast reached closed) = so_none closed (Closed cast) refl

sent_none : (p : SettingsValue) (number : ℕ) (frames : List Frame) → NoneBegins (sent_records p number frames)
unfolding begun_cast
sent_none p number [] = nothing
sent_none p number (frame ∷ frames) =
    All-cons (λ item. begun_cast item ≡ None) _ (sent_records p (number + 1) frames) refl (sent_none p (number + 1) frames)

act_none : (p : SettingsValue) (log : List Record) (name : List ℕ) (node : Option NodeState) (event : Event)
    → NoneBegins (records_of_act p log name node event)
act_none p log name None event = nothing
act_none p log name (Some node) event =
    let acted = act node event in
    let So : Record → Type 0 = λ item. begun_cast item ≡ None in
    All-append So (news_before name acted.news) (sent_records p (sent_count log) acted.sent ++ news_after acted.news)
    (before_none name acted.news)
    (All-append So (sent_records p (sent_count log) acted.sent) (news_after acted.news) (sent_none p (sent_count log) acted.sent)
    (after_none acted.news))

received_none : (p : SettingsValue) (log : List Record) (s : System) (frame : Option Frame) → NoneBegins (received_records p log s frame)
received_none p log s None = nothing
received_none p log s (Some frame) = act_none p log frame.to (s.node frame.to) (Takes frame)

step_none : (index : ℕ) (step : Step) → begun_cast (StepRecord index step) ≡ None
unfolding begun_cast
step_none index step = refl

taken_none : (number : ℕ) → begun_cast (Taken number) ≡ None
unfolding begun_cast
taken_none number = refl

quiet_none : (items : List Record) → All IsQuiet items → NoneBegins items
quiet_none items quiet = λ k d within. (quiet k d within).cast

-- the start that begins it, at its caster
abbrev IsItsStart : List Record → Step → ℕ → ℕ → List ℕ → Type 0
IsItsStart log step c level caster = (word : List ℕ) × (c ≡ next_cast log) × (start_at log step ≡ Some (caster, StartCast c level word))

from_parts : (c d l m : ℕ) (w v x y : List ℕ) → CastFrom c w l x ≡ CastFrom d v m y → (c ≡ d) × (l ≡ m) × (x ≡ y)
from_parts c d l m w v x y is = (cc, cc, cc)

announced_from : (log : List Record) (step : Step) (c level : ℕ) (word caster : List ℕ) → IsAmong (CastFrom c word level caster) (announced log step)
    → IsItsStart log step c level caster
unfolding announced actor_of start_of_step begun_cast
announced_from log (Cast text prefix asker) c level word caster (inl is) =
    let parts = from_parts c (next_cast log) level (length prefix) word text caster asker is in
    (text, parts.0, rw (parts.0, parts.1, parts.2) refl)
announced_from log (Cast text prefix asker) c level word caster (inr none) = absurd none
announced_from log (Publish object server) c level word caster among =
    absurd (never_begins (Published object server ∷ []) c level word caster (one (Published object server) refl) among)
announced_from log (Withdraw object server) c level word caster among =
    absurd (never_begins (Withdrawn object server ∷ []) c level word caster (one (Withdrawn object server) refl) among)
announced_from log (Find object asker) c level word caster among =
    absurd (never_begins (Asked (next_ticket log) object asker ∷ []) c level word caster (one (Asked (next_ticket log) object asker) refl) among)
announced_from log (Abandon name) c level word caster among =
    absurd (never_begins (Abandoned name ∷ []) c level word caster (one (Abandoned name) refl) among)
announced_from log step c level word caster among = absurd among

-- ---- a group that begins a cast

core_same : (found : Option NodeState) → is_core found ≡ is_core_node found
core_same None = refl
core_same (Some node) = by node.status refl
  where
    by : (status : Status) → node.status ≡ status → is_core (Some node) ≡ is_core_node (Some node)
    by Joining is = rw is refl
    by Core is = rw is refl
    by Leaving is = rw is refl
    by Gone is = rw is refl
    by Ceased is = rw is refl

group_from : (p : SettingsValue) (log group : List Record) (s : System) (c level : ℕ) (word caster : List ℕ) → MayFollow p log s group
    → IsAmong (CastFrom c word level caster) group
    → (text : List ℕ) × (move_of_group log group ≡ Some (Begins caster (StartCast c level text)))
unfolding MayFollow
group_from p log (StepRecord index step ∷ items) s c level word caster may among =
    elim (step_kind p log s index step items may) [
      | inl idle ↦
          absurd (never_begins (StepRecord index step ∷ items) c level word caster
          (All-cons (λ item. begun_cast item ≡ None) (StepRecord index step) items (step_none index step) (quiet_none items idle.quiet)) among)
      | inr starting ↦ by_start starting (later among)
    ]
  where
    later : IsAmong (CastFrom c word level caster) (StepRecord index step ∷ items) → IsAmong (CastFrom c word level caster) items
    later (inl is) = absurd (never_begins (StepRecord index step ∷ []) c level word caster (one (StepRecord index step) (step_none index step)) (inl is))
    later (inr rest) = rest

    by_start : (starting : IsStarting p log s step items) → IsAmong (CastFrom c word level caster) items
        → (text : List ℕ) × (move_of_group log (StepRecord index step ∷ items) ≡ Some (Begins caster (StartCast c level text)))
    by_start starting within =
        let acts = records_of_act p log starting.name (starter p s starting.name starting.start) (Starts starting.start) in
        elim (among-either (CastFrom c word level caster) (announced log step) acts (subst (IsAmong (CastFrom c word level caster)) starting.are within)) [
          | inl here ↦
              let start = announced_from log step c level word caster here in
              let same : ◌≡◌ {A = Option (List ℕ × Start)} (Some (starting.name, starting.start)) (Some (caster, StartCast c level start.0)) =
              sym starting.at ∙ start.2 in
              (start.0, starting_moves p log s index step items starting ∙ ap (option_map (λ told. Begins told.0 told.1)) same)
          | inr acted ↦
              absurd (never_begins acts c level word caster
              (act_none p log starting.name (starter p s starting.name starting.start) (Starts starting.start)) acted)
        ]
group_from p log (Taken number ∷ items) s c level word caster may among =
    absurd (never_begins (Taken number ∷ items) c level word caster
    (All-cons (λ item. begun_cast item ≡ None) (Taken number) items (taken_none number)
    (subst NoneBegins (sym may.are) (received_none p log s (numbered_frame number s.frames)))) among)
group_from p log group s c level word caster may among = absurd may

-- what is remembered of a cast that starts
begun_at : (s : System) (r : CastMemory) (caster : List ℕ) (c level : ℕ) (text : List ℕ) (node : NodeState)
    → IsStill (runs_noted (runs_begun s r caster (StartCast c level text)) caster (act node (Starts (StartCast c level text))).news c)
    (run_begun s caster level)
begun_at s r caster c level text node =
    noted_still (runs_begun s r caster (StartCast c level text)) caster (act node (Starts (StartCast c level text))).news c
    (run_begun s caster level) (rw (same_number c) refl)

recalled_at : (p : SettingsValue) (s : System) (r : CastMemory) (caster : List ℕ) (c level : ℕ) (text : List ℕ) (node : NodeState)
    → s.node caster ≡ Some node → (recalled p s r (Begins caster (StartCast c level text))).cast c
    ≡ runs_noted (runs_begun s r caster (StartCast c level text)) caster (act node (Starts (StartCast c level text))).news c
unfolding recalled
recalled_at p s r caster c level text node at = rw at refl

module _ (b : Beginning) (log group : List Record) (run : IsRun b log) (steps : HaveNames b.settings group) (follows : Follows b log group) where
  pub begins_right : BeginsRight log group
  begins_right c level word caster among =
      let p = b.settings in
      let s = system_of log in
      let from = group_from p log group s c level word caster follows.may among in
      let move = Begins caster (StartCast c level from.0) in
      let sound = runs_are_sound b log run in
      let may = group_may_move b log group move run.course run.going sound.invariant.basis follows steps from.1 in
      let still = begun_at s (casts_of log) caster c level from.0 may.acts.state in
      let nodes = course_nodes_holds b log run.course run.going in
      record {
        run = still.now;
        started = ap (λ (m : CastMemory). m.cast c) (grown_casts b log group run.course run.going follows
            ∙ ap (recalled_by p s (casts_of log)) from.1) ∙ recalled_at p s (casts_of log) caster c level from.0 may.acts.state may.acts.is ∙ still.is;
        caster_is = still.caster;
        level_is = still.level;
        audience = λ name.
            ap (λ (a : List ℕ → Bool). a name) still.audience
            ∙ ap (λ is. is && nat_le level (lcp caster name)) (core_same (s.node name) ∙ sym (nodes.core name));
      }

pub groups_begin_right : GroupsBeginRight
groups_begin_right b log = each_of_run b log BeginsRight (λ before group stands. begins_right b before group stands.run stands.steps stands.follows)
