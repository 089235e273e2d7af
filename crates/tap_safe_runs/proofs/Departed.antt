-- Who leaves goes on leaving until it has ended.
use Rattle.std.proofs.Common.{◌≡◌, ◌⊎◌, inl, inr, ℕ, true, List, ◌++◌, length, Option, None, Some, refl, ap, sym, subst, ◌∙◌}
use Rattle.std.proofs.lemmas.Bool.{cases_eq}
use Rattle.tap_name.specs.Settings.{SettingsValue}
use Rattle.tap_table.specs.Ties.{holders_on}
use Rattle.tap_wire.specs.declared.frame.Frame.{Frame}
use Rattle.tap_log.specs.declared.record.Record.{Record}
use Rattle.tap_rule.specs.Act.{act}
use Rattle.tap_rule.specs.Event.{Acted, Start}
use Rattle.tap_rule.specs.Event.Event.{Starts as StartsOne, Takes as TakesFrame}
use Rattle.tap_rule.specs.Event.Start.{Join, Leave}
use Rattle.tap_rule.specs.Node.{NodeState, Status}
use Rattle.tap_rule.specs.Node.Status.{Core, Joining, Leaving}
use Rattle.tap_rule.specs.Reaction.{Reaction}
use Rattle.tap_rule.specs.RuleLaws.{IsCarriedOut}
use Rattle.tap_rule.proofs.Cases.{Cause, RuleCase}
use Rattle.tap_rule.proofs.Cases.IsParting.{OneLeft, StartsLeaving}
use Rattle.tap_rule.proofs.Cases.RuleCase.{HasCeased, IsCoreNow, IsGoneNow, TellsHolders}
use Rattle.tap_rule.proofs.EachAct.{each_start, each_take}
use Rattle.tap_rule.proofs.StartSteps.{leave_start_law}
use Rattle.tap_safety.specs.Move.{may_start}
use Rattle.tap_safety.specs.Move.Move.{Begins, Delivers}
use Rattle.tap_safety.specs.Moved.{moved, numbered_frame, starter}
use Rattle.tap_safety.specs.System.{System}
use Rattle.tap_safety.proofs.Moved.{delivers, lost, starts}
use Rattle.tap_runs.specs.Beginning.{Beginning}
use Rattle.tap_runs.specs.Course.{Follows, system_of}
use Rattle.tap_runs.specs.Named.{HaveNames}
use Rattle.tap_runs.specs.Observed.{has_ended}
use Rattle.tap_safe_runs.specs.Safe.{IsRun}
use Rattle.tap_safe_runs.proofs.GroupKinds.{run_kind, run_moves}

-- a node of this status leaves, or has ended
abbrev pub HasDeparted : Status → Type 0
HasDeparted status = (status ≡ Leaving) ⊎ (has_ended status ≡ true)

-- ---- the rule

joins_still : HasDeparted Joining → ⊥
joins_still (inl leaves) = cc
joins_still (inr ended) = cc

module _ (node : NodeState) where
  case_departed : {status : Status} {cause : Cause} {r : Reaction} → RuleCase node status cause r → node.status ≡ status → HasDeparted status
      → HasDeparted r.state.status
  case_departed (IsCoreNow goes_on) at departed = absurd (joins_still departed)
  case_departed (HasCeased given_up) at departed = inr refl
  case_departed (TellsHolders some) at departed = inl refl
  case_departed (IsGoneNow StartsLeaving none) at departed = inr refl
  case_departed (IsGoneNow OneLeft none) at departed = inr refl
  case_departed _ at departed = subst HasDeparted (sym at) departed

  abbrev GoesOnLeaving : Acted → Type 0
  GoesOnLeaving acted = HasDeparted node.status → HasDeparted acted.state.status

  carried : {cause : Cause} (r : Reaction) (acted : Acted) → RuleCase node node.status cause r → IsCarriedOut node r acted → GoesOnLeaving acted
  carried r acted case done departed = subst HasDeparted (sym done.status) (case_departed case refl departed)

  frame_departed : (frame : Frame) → GoesOnLeaving (act node (TakesFrame frame))
  frame_departed frame = each_take node GoesOnLeaving (λ departed. departed) frame (λ departed. departed) (λ fit. carried)

  start_departed : (start : Start) → GoesOnLeaving (act node (StartsOne start))
  start_departed start = each_start node GoesOnLeaving (λ departed. departed) start carried

  -- a core node that starts to leave leaves, or is gone at once
  pub leaving_departed : node.status ≡ Core → HasDeparted (act node (StartsOne Leave)).state.status
  leaving_departed core =
      let law = leave_start_law node core in
      elim (cases_eq (length (holders_on node.ties)) 0) [
        | inl none ↦ inr (ap has_ended (law.finishes none).status)
        | inr some ↦ inl (law.waits some).0
      ]

-- ---- a move

-- there is such a node of this name
pub record IsDeparted (s : System) (x : List ℕ) : Type 0 where
  pub state : NodeState
  pub is : s.node x ≡ Some state
  pub so : HasDeparted state.status

module _ (p : SettingsValue) (s : System) (x : List ℕ) (departed : IsDeparted s x) where
  -- its node stays as it is
  stays : (s' : System) → s'.node x ≡ s.node x → IsDeparted s' x
  stays s' same = record { state = departed.state; is = same ∙ departed.is; so = departed.so }

  -- the node of a name acts, which was there if it is this one
  acts : (s' : System) (y : List ℕ) (node now : NodeState) → (HasDeparted node.status → HasDeparted now.status)
      → (s.node y ≡ Some departed.state → s.node y ≡ Some node) → s'.node y ≡ Some now → (x ≡ y) ⊎ (s'.node x ≡ s.node x) → IsDeparted s' x
  acts s' y node now goes_on was is (inl same) =
      let there = was (ap s.node (sym same) ∙ departed.is) in
      let found : Some departed.state ≡ Some node = sym departed.is ∙ ap s.node same ∙ there in
      let one : departed.state ≡ node = cc in
      record {
        state = now;
        is = ap s'.node same ∙ is;
        so = goes_on (subst (λ (n : NodeState). HasDeparted n.status) one departed.so);
      }
  acts s' y node now goes_on was is (inr same) = stays s' same

  -- if it starts something, it does so as it was: who joins is new
  starter_was : (y : List ℕ) (start : Start) (node : NodeState) → may_start p s y start → starter p s y start ≡ Some node
      → s.node y ≡ Some departed.state → s.node y ≡ Some node
  starter_was y (Join via) node may begins there =
      let wrong : None ≡ Some departed.state = sym may.fresh ∙ there in absurd (cc)
  starter_was y start node may begins there = begins

  nothing_begins : (y : List ℕ) (start : Start) → starter p s y start ≡ None → moved p s (Begins y start) ≡ s
  unfolding moved
  nothing_begins y start none = rw none refl

  begins_departed : (y : List ℕ) (start : Start) → may_start p s y start → IsDeparted (moved p s (Begins y start)) x
  begins_departed y start may = by_node (starter p s y start) refl
    where
      by_node : (node : Option NodeState) → starter p s y start ≡ node → IsDeparted (moved p s (Begins y start)) x
      by_node None none = stays (moved p s (Begins y start)) (ap (λ (t : System). t.node x) (nothing_begins y start none))
      by_node (Some node) begins =
          let done = (starts p s y start node begins).done in
          acts (moved p s (Begins y start)) y node (act node (StartsOne start)).state (start_departed node start)
          (starter_was y start node may begins) done.is (done.others x)

  nothing_taken : (number : ℕ) → numbered_frame number s.frames ≡ None → moved p s (Delivers number) ≡ s
  unfolding moved
  nothing_taken number none = rw none refl

  delivers_departed : (number : ℕ) → IsDeparted (moved p s (Delivers number)) x
  delivers_departed number = by_frame (numbered_frame number s.frames) refl
    where
      by_node : (frame : Frame) (node : Option NodeState) → numbered_frame number s.frames ≡ Some frame → s.node frame.to ≡ node
          → IsDeparted (moved p s (Delivers number)) x
      by_node frame None is at = stays (moved p s (Delivers number)) ((lost p s number frame is at).node x)
      by_node frame (Some node) is at =
          let done = (delivers p s number frame node is at).done in
          acts (moved p s (Delivers number)) frame.to node (act node (TakesFrame frame)).state (frame_departed node frame) (λ there. at)
          done.is (done.others x)

      by_frame : (frame : Option Frame) → numbered_frame number s.frames ≡ frame → IsDeparted (moved p s (Delivers number)) x
      by_frame None is = stays (moved p s (Delivers number)) (ap (λ (t : System). t.node x) (nothing_taken number is))
      by_frame (Some frame) is = by_node frame (s.node frame.to) is refl

-- ---- one more group of a run

module _ (b : Beginning) (log group : List Record) (run : IsRun b log) (follows : Follows b log group) (names : HaveNames b.settings group)
    (x : List ℕ) where
  pub stays_departed : IsDeparted (system_of log) x → IsDeparted (system_of (log ++ group)) x
  stays_departed departed =
      let s = system_of log in
      let At : System → Type 0 = λ t. IsDeparted t x in
      elim (run_kind b log group run follows names) [
        | inl idle ↦ subst At (sym (run_moves b log group run follows None idle.still)) departed
        | inr (inl start) ↦
            subst At (sym (run_moves b log group run follows (Some (Begins start.starting.name start.starting.start)) start.moves))
            (begins_departed b.settings s x departed start.starting.name start.starting.start start.may)
        | inr (inr taken) ↦
            subst At (sym (run_moves b log group run follows (Some (Delivers taken.number)) taken.moves))
            (delivers_departed b.settings s x departed taken.number)
      ]
