-- The move that a group of a course makes is possible.
-- Cited above: group_may_move, may_take
use Rattle.std.proofs.Common.{◌≡◌, inl, inr, ℕ, ◌==◌, true, false, not, List, [], ◌∷◌, length, Option, None, Some, refl, ap, sym, subst, ◌∙◌, arith}
use Rattle.std.specs.Prelude.{◌&&◌, IfSome, bytes_eq, is_some, nat_eq}
use Rattle.std.proofs.lemmas.Bool.{and_parts, cases_Bool, eqb-true}
use Rattle.std.proofs.lemmas.List.Elements.{All-head}
use Rattle.std.proofs.lemmas.Slice.Eq.{bytes_eq-Decides}
use Rattle.tap_name.specs.Names.{Among, are_distinct, has_name}
use Rattle.tap_name.specs.Settings.{SettingsValue}
use Rattle.tap_name.proofs.Membership.{has_name-Decides, has_name-no}
use Rattle.tap_scenario.specs.declared.step.Step.{Step}
use Rattle.tap_scenario.specs.declared.step.Step.TheVariants.{Join, Depart, Publish, Withdraw, Find, Abandon, Cast}
use Rattle.tap_wire.specs.declared.frame.Frame.{Frame}
use Rattle.tap_log.specs.declared.record.Record.{Record}
use Rattle.tap_log.specs.declared.record.Record.TheVariants.{Step as StepRecord, Taken}
use Rattle.tap_log.specs.Log.{begun_steps}
use Rattle.tap_history.specs.Core.{core_of}
use Rattle.tap_history.specs.Departing.{departing_of}
use Rattle.tap_history.specs.Groups.{is_ended}
use Rattle.tap_history.specs.Moments.{has_number, outstanding}
use Rattle.tap_history.specs.Names.{names_of}
use Rattle.tap_history.specs.Refusals.{first_refusal}
use Rattle.tap_history.specs.StepAsks.{abandon_name, actor_of, asked_node, depart_name, join_name, suits_departure, suits_joining}
use Rattle.tap_rule.specs.Event.{Start}
use Rattle.tap_rule.specs.Event.Start.{Join as StartJoin, Abandon as StartAbandon, Publish as StartPublish, Withdraw as StartWithdraw, Find as StartFind, Leave as StartLeave, Cast as StartCast}
use Rattle.tap_rule.specs.Node.Status.{Leaving}
use Rattle.tap_safety.specs.Invariant.{Basis}
use Rattle.tap_safety.specs.Move.{MayAct, MayArrive, Move, may_move, may_start}
use Rattle.tap_safety.specs.Move.Move.{Begins, Delivers}
use Rattle.tap_safety.specs.System.{System, AmongFrames, IsCoreNode}
use Rattle.tap_safety.proofs.LinkKeeps.{status_seen}
use Rattle.tap_runs.specs.Named.{HasNames, HaveNames}
use Rattle.tap_runs.specs.Beginning.{Beginning}
use Rattle.tap_runs.specs.Course.{IsCourse, MayFollow, move_of_group, system_of}
use Rattle.tap_runs.specs.Group.{start_at}
use Rattle.tap_runs.specs.CourseLaws.{FramesAgree, NodesAgree, frame_numbers, is_present_node}
use Rattle.tap_runs.specs.Starts.{next_cast, next_ticket, start_of_step}
use Rattle.tap_runs.proofs.Departing.{course_nodes_holds}
use Rattle.tap_runs.proofs.Frames.{course_frames_holds, starting_moves, step_moves, taken_moves}
use Rattle.tap_runs.proofs.Nodes.{asked_is_present}
use Rattle.tap_runs.proofs.Within.{step_kind}
use Rattle.tap_readable.specs.Range.{HasNotMetNext}
use Rattle.tap_readable.proofs.RangeCourses.{numbers_in_range_holds}
use Rattle.tap_safe_runs.specs.GroupMayMove.{GroupMayMove}
use Rattle.tap_safe_runs.proofs.Accepted.{asked_is_core, departs_at_rest, gives_up_joining, gives_up_once, has_room, joins_anew, nobody_departs, others_stay}
use Rattle.tap_safe_runs.proofs.Groups.{IsTold, is_told}
use Rattle.tap_safe_runs.proofs.There.{core_there, joining_there, no_leaver, no_node}

-- ---- names

-- another one of them
record IsAnother (names : List (List ℕ)) (x : List ℕ) : Type 0 where
  other : List ℕ
  among : Among other names
  apart : other ≡ x → ⊥

-- of distinct names, if this isn't the only one, there is another
another_among : (names : List (List ℕ)) (x : List ℕ) → are_distinct names ≡ true → has_name names x ≡ true
    → (has_name names x && (length names == 1)) ≡ false → IsAnother names x
another_among [] x distinct has more = absurd (cc)
another_among (y ∷ []) x distinct has more = let wrong : true ≡ false = sym (ap (λ b. b && true) has) ∙ more in absurd (cc)
another_among (y ∷ z ∷ names) x distinct has more =
    let parts = and_parts (not (has_name (z ∷ names) y)) (are_distinct (z ∷ names)) distinct in
    elim (cases_Bool (bytes_eq y x)) [
      | inl same ↦
          let y_is : y ≡ x = (bytes_eq-Decides y x).0 same in
          record {
            other = z;
            among = inr (inl refl);
            apart = λ z_is. (has_name-no (z ∷ names) y).0 parts.0 (inl (y_is ∙ sym z_is));
          }
      | inr apart ↦ record {
        other = y;
        among = inl refl;
        apart = λ y_is. let same : bytes_eq y x ≡ true = (bytes_eq-Decides y x).1 y_is in absurd (cc);
      }
    ]

-- ---- frames

-- a frame of this number is one of these
record IsFound (number : ℕ) (frames : List (ℕ × Frame)) : Type 0 where
  frame : Frame
  among : AmongFrames number frame frames

-- a number that is among those of the frames is that of one
found_among : (number : ℕ) (frames : List (ℕ × Frame)) → has_number (frame_numbers frames) number ≡ true → IsFound number frames
found_among number [] has = absurd (cc)
found_among number (f ∷ frames) has =
    elim (cases_Bool (nat_eq f.0 number)) [
      | inl same ↦ record { frame = f.1; among = inl (sym (eqb-true f.0 number same), refl) }
      | inr apart ↦
          let later : has_number (frame_numbers frames) number ≡ true = rw apart at has in
          let rest = found_among number frames later in
          record { frame = rest.frame; among = inr rest.among }
    ]

-- without numbers there are no frames
no_numbers : (frames : List (ℕ × Frame)) → length (frame_numbers frames) ≡ 0 → frames ≡ []
no_numbers [] none = refl
no_numbers (f ∷ frames) none = absurd (omega (arith, none))

-- ---- starts

module _ (b : Beginning) (log : List Record) (course : IsCourse b log) (going : is_ended log ≡ false)
    (inv : Basis b.settings (system_of log)) where
  abbrev pub p : SettingsValue
  p = b.settings

  abbrev pub s : System
  s = system_of log

  -- log and system agree on nodes, and on frames
  nodes : NodesAgree log s
  nodes = course_nodes_holds b log course going

  frames : FramesAgree p log s
  frames = course_frames_holds b log course going

  -- a core name is that of a core node
  core_in : (x : List ℕ) → has_name (core_of log) x ≡ true → IsCoreNode s x
  core_in x has = core_there s x (sym (nodes.core x) ∙ has)

  -- nobody departs in the system if nobody does in the log
  nobody : departing_of log ≡ None → s.departing ≡ None
  nobody none = no_leaver s.departing (sym none ∙ nodes.departing)

  -- a core node may act while nobody departs, as it isn't leaving then
  acts_in : (x : List ℕ) → has_name (core_of log) x ≡ true → s.departing ≡ None → MayAct s x
  acts_in x has none =
      let there = core_in x has in
      elim there.core [
        | inl core ↦ record { state = there.state; is = there.is; core = core; none_departs = none }
        | inr leaving ↦ absurd (inv.departure.leaving x none (status_seen s x there.state Leaving there.is leaving))
      ]

  module _ (step : Step) (accepted : first_refusal log step ≡ None) where
    -- a step of a core node while nobody departs
    acts_for : (x : List ℕ) → asked_node step ≡ Some x → suits_joining step ≡ false → suits_departure step ≡ false → MayAct s x
    acts_for x asked joining departure =
        acts_in x (asked_is_core log step accepted x asked joining) (nobody (nobody_departs log step accepted departure))

    -- a join: the name is new, one more has room, and the node asked is core
    joins_by : (x via : List ℕ) → step ≡ Join x via → asked_node step ≡ Some via → join_name step ≡ Some x → suits_joining step ≡ false
        → suits_departure step ≡ false → HasNames p step → may_start p s x (StartJoin via)
    joins_by x via is asked joins joining departure names =
        let named : HasNames p (Join x via) = subst (HasNames p) is names in
        record {
          name = named.0;
          fresh = no_node (s.node x) (sym (nodes.ever x) ∙ joins_anew log step accepted x joins);
          room = record {
            names = names_of log;
            few = has_room log step accepted x joins;
            all = λ y has. (has_name-Decides (names_of log) y).0 (nodes.ever y ∙ ap is_some has.is);
          };
          core = core_in via (asked_is_core log step accepted via asked joining);
          none_departs = nobody (nobody_departs log step accepted departure);
        }

    -- a join that is given up: its node joins, and wasn't to give up before
    gives_up_by : (x : List ℕ) → asked_node step ≡ Some x → abandon_name step ≡ Some x → may_start p s x StartAbandon
    gives_up_by x asked gives_up =
        let present : is_present_node (s.node x) ≡ true = sym (nodes.present x) ∙ asked_is_present log step x accepted asked in
        let joins = joining_there s x present (sym (nodes.core x) ∙ gives_up_joining log step accepted x gives_up) in
        let told : IsTold log s = is_told b log course going in
        let goes_on : joins.state.abandoned ≡ false = elim (cases_Bool joins.state.abandoned) [
          | inl before ↦
              let said = told.said x joins.state joins.is before in
              let wrong : true ≡ false = sym said ∙ gives_up_once log step accepted x gives_up in absurd (cc)
          | inr stays ↦ stays
        ] in
        record { state = joins.state; is = joins.is; joining = joins.joining; goes_on = goes_on }

    -- a departure: at rest, while another node is core
    leaves_by : (x : List ℕ) → asked_node step ≡ Some x → depart_name step ≡ Some x → suits_joining step ≡ false
        → suits_departure step ≡ false → may_start p s x StartLeave
    leaves_by x asked departs joining departure =
        let has = asked_is_core log step accepted x asked joining in
        let told : IsTold log s = is_told b log course going in
        let other = another_among (core_of log) x told.distinct has (others_stay log step accepted x departs) in
        record {
          acts = acts_for x asked joining departure;
          rest = no_numbers s.frames (ap length frames.numbers ∙ departs_at_rest log step accepted x departs);
          other = other.other;
          apart = other.apart;
          stays = core_in other.other ((has_name-Decides (core_of log) other.other).1 other.among);
        }

    -- a cast: of a word, under a number that its node hasn't met
    casts_by : (x prefix word : List ℕ) → step ≡ Cast word prefix x → asked_node step ≡ Some x → suits_joining step ≡ false
        → suits_departure step ≡ false → HasNames p step → may_start p s x (StartCast (next_cast log) (length prefix) word)
    casts_by x prefix word is asked joining departure names =
        let named : HasNames p (Cast word prefix x) = subst (HasNames p) is names in
        let acts = acts_for x asked joining departure in
        record {
          acts = acts;
          is_word = named.0;
          within = named.1.few;
          unmet = subst (λ node. IfSome node (HasNotMetNext log)) acts.is (numbers_in_range_holds.unmet b log course going x);
        }

  -- what may be started may be, however it is named
  same_start : (x name : List ℕ) (first start : Start) → ◌≡◌ {A = Option (List ℕ × Start)} (Some (x, first)) (Some (name, start))
      → may_start p s x first → may_start p s name start
  same_start x name first start at may =
      subst (λ (both : Option (List ℕ × Start)). IfSome both (λ one. may_start p s one.0 one.1)) at may

  -- each start that is accepted is possible
  may_begin : (step : Step) (name : List ℕ) (start : Start) → first_refusal log step ≡ None → HasNames p step
      → start_at log step ≡ Some (name, start) → may_start p s name start
  unfolding actor_of start_of_step asked_node join_name depart_name abandon_name suits_joining suits_departure
  may_begin (Join x via) name start accepted names at =
      same_start x name (StartJoin via) start at (joins_by (Join x via) accepted x via refl refl refl refl refl names)
  may_begin (Depart x) name start accepted names at =
      same_start x name StartLeave start at (leaves_by (Depart x) accepted x refl refl refl refl)
  may_begin (Publish object x) name start accepted names at =
      same_start x name (StartPublish object) start at
      (record { acts = acts_for (Publish object x) accepted x refl refl refl; name = names.0 })
  may_begin (Withdraw object x) name start accepted names at =
      same_start x name (StartWithdraw object) start at
      (record { acts = acts_for (Withdraw object x) accepted x refl refl refl; name = names.0 })
  may_begin (Find object x) name start accepted names at =
      same_start x name (StartFind (next_ticket log) object) start at
      (record { acts = acts_for (Find object x) accepted x refl refl refl; name = names.0 })
  may_begin (Abandon x) name start accepted names at =
      same_start x name StartAbandon start at (gives_up_by (Abandon x) accepted x refl refl)
  may_begin (Cast word prefix x) name start accepted names at =
      same_start x name (StartCast (next_cast log) (length prefix) word) start at
      (casts_by (Cast word prefix x) accepted x prefix word refl refl refl refl names)
  may_begin step name start accepted names at = absurd (cc)

  -- ---- frames that are taken

  -- a frame that is outstanding is under way to a node
  pub may_take : (number : ℕ) → has_number (outstanding log) number ≡ true → MayArrive s number
  may_take number waits =
      let found = found_among number s.frames (ap (λ l. has_number l number) frames.numbers ∙ waits) in
      record { frame = found.frame; among = found.among; receiver = (inv.ends.known number found.frame found.among).1 }

  -- ---- groups

  -- what may be moved may be, however it is named
  same_move : (one other : Move) → Some one ≡ Some other → may_move p s one → may_move p s other
  same_move one other same may = subst (λ (move : Option Move). IfSome move (may_move p s)) same may

  -- the move of each group is possible
  group_moves : (group : List Record) (move : Move) → MayFollow p log s group → HaveNames p group → move_of_group log group ≡ Some move
      → may_move p s move
  unfolding MayFollow
  group_moves (StepRecord index step ∷ items) move may steps is =
      elim (step_kind p log s index step items may) [
        | inl idle ↦ let wrong : None ≡ Some move = sym (step_moves log index step items ∙ idle.still) ∙ is in absurd (cc)
        | inr starting ↦
            same_move (Begins starting.name starting.start) move (sym (starting_moves p log s index step items starting) ∙ is)
            (may_begin step starting.name starting.start starting.accepted
            (All-head (HasNames p) step (begun_steps items) steps) starting.at)
      ]
  group_moves (Taken number ∷ items) move may steps is =
      same_move (Delivers number) move (sym (taken_moves log number items) ∙ is) (may_take number may.waits)
  group_moves group move may steps is = absurd may

pub group_may_move : GroupMayMove
group_may_move b log group move course going inv follows steps is = group_moves b log course going inv group move follows.may steps is
