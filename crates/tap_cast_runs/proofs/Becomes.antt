-- A group says that a node is core only if it takes the Done of this node's join, which goes on.
use Rattle.std.proofs.Common.{◌≡◌, ◌⊎◌, ℕ, Bool, true, false, List, [], ◌∷◌, ◌++◌, Option, None, Some, ap, refl, sym, subst, ◌∙◌, inl, inr}
use Rattle.std.specs.List.{cons_option, filter_map}
use Rattle.std.proofs.lemmas.Bool.{cases_Bool, true≢false}
use Rattle.std.proofs.lemmas.List.Elements.{filter_map-append}
use Rattle.tap_name.specs.Names.{has_name}
use Rattle.tap_scenario.specs.declared.step.Step.{Step}
use Rattle.tap_scenario.specs.declared.step.Step.TheVariants.{Abandon as AbandonStep, Cast as CastStep, Find, Publish, Withdraw}
use Rattle.tap_wire.specs.declared.frame.Body.{Body}
use Rattle.tap_wire.specs.declared.frame.Body.TheVariants.{Done}
use Rattle.tap_wire.specs.declared.frame.Frame.{Frame}
use Rattle.tap_wire.specs.declared.frame.TellFields.{TellFields}
use Rattle.tap_log.specs.Counts.{sent_count}
use Rattle.tap_log.specs.Kinds.{core_name}
use Rattle.tap_log.specs.declared.record.Record.{Record}
use Rattle.tap_log.specs.declared.record.Record.TheVariants.{Core as CoreRecord, Step as StepRecord, Taken}
use Rattle.tap_rule.specs.Act.{act}
use Rattle.tap_rule.specs.Event.{Start}
use Rattle.tap_rule.specs.Event.Event.{Starts, Takes}
use Rattle.tap_rule.specs.Event.Start.{Abandon, Join}
use Rattle.tap_rule.specs.FrameRules.{frame_at_joining, rule_of_frame}
use Rattle.tap_rule.specs.Joining.{welcomes_once}
use Rattle.tap_rule.specs.RuleLaws.{frame_to}
use Rattle.tap_rule.specs.Node.{NodeState, name_of}
use Rattle.tap_rule.specs.Node.Status.{Joining}
use Rattle.tap_rule.specs.Reaction.{Reaction, with_pin}
use Rattle.tap_rule.specs.Sent.{IsAmong}
use Rattle.tap_rule.specs.StartRules.{rule_of_start}
use Rattle.tap_rule.specs.Strange.{is_strange}
use Rattle.tap_rule.proofs.CarriedOut.{frame_law, start_law, unruled_law, unruled_start_law}
use Rattle.tap_safety.specs.Moved.{starter}
use Rattle.tap_safety.specs.System.{AmongFrames, System}
use Rattle.tap_safety.proofs.Said.{Said, said_of}
use Rattle.tap_safety.proofs.Said.Said.{IsAck, IsCast, IsDone, IsForget, IsHeard, IsHello, IsLink, IsRelease, IsTell}
use Rattle.tap_runs.specs.Beginning.{Beginning}
use Rattle.tap_runs.specs.Course.{Follows, MayFollow, system_of}
use Rattle.tap_runs.specs.Group.{records_of_act}
use Rattle.tap_runs.specs.Starts.{announced}
use Rattle.tap_runs.proofs.Frames.{none_of}
use Rattle.tap_runs.proofs.Nodes.{one_if}
use Rattle.tap_runs.proofs.Status.{tells_core}
use Rattle.tap_runs.proofs.Within.{IsIdle, IsStarting, step_kind}
use Rattle.tap_safe_runs.specs.Safe.{IsRun}
use Rattle.tap_safe_runs.proofs.GivenUp.{frame_goes_on, start_goes_on}
use Rattle.tap_safe_runs.proofs.Safe.{runs_are_sound}
use Rattle.tap_safe_runs.proofs.Received.{frames_are_received}
use Rattle.tap_safe_runs.proofs.ToldCore.{core_started, core_step, core_taken}

-- ---- a frame with which a joining node becomes core

-- the rule for it, if there is one, is that for a Done
abbrev IsOfDone : Body → Option Reaction → Type 0
IsOfDone body None = Unit {0}
IsOfDone body (Some rule) = tells_core rule.news ≡ true → body ≡ Done

-- a node that is told of a joiner doesn't become core
told_none : (node : NodeState) (from : List ℕ) (tell : TellFields) → tells_core (welcomes_once node from tell).news ≡ false
told_none node from tell =
    elim (cases_Bool (has_name node.greeted tell.joiner)) [ inl known ↦ rw known refl | inr new ↦ rw new refl ]

joining_done : (node : NodeState) (from : List ℕ) {body : Body} → Said body → IsOfDone body (frame_at_joining node from body)
unfolding frame_at_joining
joining_done node from (IsTell tell watch) = λ core.
    absurd (true≢false (sym core ∙ told_none (with_pin node tell.joiner) from tell))
joining_done node from (IsHello hello) = λ core. absurd (true≢false (sym core))
joining_done node from (IsHeard session) = λ core. absurd (true≢false (sym core))
joining_done node from (IsAck session) = λ core. absurd (true≢false (sym core))
joining_done node from IsDone = λ core. refl
joining_done node from IsRelease = λ core. absurd (true≢false (sym core))
joining_done node from (IsLink version on) = λ core. absurd (true≢false (sym core))
joining_done node from IsForget = λ core. absurd (true≢false (sym core))
joining_done node from IsCast = λ core. absurd (true≢false (sym core))
joining_done node from _ = tt

frame_done : (node : NodeState) (frame : Frame) → node.status ≡ Joining → is_strange node frame ≡ false
    → tells_core (act node (Takes frame)).news ≡ true → frame.body ≡ Done
frame_done node frame joins known core = by (rule_of_frame node.status node frame.from frame.body) refl
  where
    by : (rule : Option Reaction) → rule_of_frame node.status node frame.from frame.body ≡ rule → frame.body ≡ Done
    by None none = absurd (true≢false (sym core ∙ ap tells_core (unruled_law node frame none).news))
    by (Some rule) is =
        let same : frame_at_joining node frame.from frame.body ≡ Some rule =
        ap (λ status. rule_of_frame status node frame.from frame.body) (sym joins) ∙ is in
        subst (IsOfDone frame.body) same (joining_done node frame.from (said_of frame.body))
        (sym (ap tells_core (frame_law node frame rule known is).news) ∙ core)

-- ---- no start makes a node core

abbrev MakesNoneCore : Option Reaction → Type 0
MakesNoneCore None = Unit {0}
MakesNoneCore (Some rule) = tells_core rule.news ≡ false

joining_start : (node : NodeState) (start : Start) → MakesNoneCore (rule_of_start Joining node start)
joining_start node (Join via) = refl
joining_start node Abandon = refl
joining_start node start = tt

start_not_core : (node : NodeState) (start : Start) → tells_core (act node (Starts start)).news ≡ true → ⊥
start_not_core node start core = by (rule_of_start node.status node start) refl
  where
    by : (rule : Option Reaction) → rule_of_start node.status node start ≡ rule → ⊥
    by None none = true≢false (sym core ∙ ap tells_core (unruled_start_law node start none).news)
    by (Some rule) is =
        let joins = ((start_goes_on node start).core core).0 in
        let same : rule_of_start Joining node start ≡ Some rule = ap (λ status. rule_of_start status node start) (sym joins) ∙ is in
        true≢false (sym core ∙ ap tells_core (start_law node start rule is).news ∙ subst MakesNoneCore same (joining_start node start))

-- ---- the records of a group

-- a name that is said to be core is among the core names
core_among : (items : List Record) (n : List ℕ) → IsAmong (CoreRecord n) items → IsAmong n (filter_map core_name items)
unfolding core_name
core_among [] n among = absurd among
core_among (item ∷ items) n (inl is) =
    subst (λ (first : Record). IsAmong n (filter_map core_name (first ∷ items))) is (inl refl)
core_among (item ∷ items) n (inr later) = after (core_name item) (core_among items n later)
  where
    after : (found : Option (List ℕ)) → IsAmong n (filter_map core_name items) → IsAmong n (cons_option found (filter_map core_name items))
    after None among = among
    after (Some name) among = inr among

among_one : (there : Bool) (n name : List ℕ) → IsAmong n (one_if there name) → (there ≡ true) × (n ≡ name)
among_one true n name (inl is) = (refl, is)
among_one true n name (inr none) = absurd none
among_one false n name none = absurd none

none_core : (items : List Record) (n : List ℕ) → filter_map core_name items ≡ [] → IsAmong (CoreRecord n) items → ⊥
none_core items n none among = subst (IsAmong n) none (core_among items n among)

-- what is said of a start first makes no node core
none_announced : (log : List Record) (step : Step) → filter_map core_name (announced log step) ≡ []
unfolding announced core_name
none_announced log (Publish object server) = refl
none_announced log (Withdraw object server) = refl
none_announced log (Find object asker) = refl
none_announced log (AbandonStep name) = refl
none_announced log (CastStep word prefix asker) = refl
none_announced log step = refl

-- the group takes the Done of n, whose join goes on
pub record TakesDone (s : System) (group : List Record) (n : List ℕ) : Type 0 where
  pub number : ℕ
  pub items : List Record
  pub group_is : group ≡ Taken number ∷ items
  pub node : NodeState
  pub from : List ℕ
  pub among : AmongFrames number (frame_to node from Done) s.frames
  pub at : s.node (name_of node) ≡ Some node
  pub name : name_of node ≡ n
  pub joins : node.status ≡ Joining
  pub goes_on : node.abandoned ≡ false

module _ (b : Beginning) (log : List Record) (n : List ℕ) where
  -- a step makes no node core
  acted_start : (index : ℕ) (step : Step) (items : List Record) (starting : IsStarting b.settings log (system_of log) step items)
      → (found : Option NodeState) → items ≡ announced log step ++ records_of_act b.settings log starting.name found (Starts starting.start)
      → IsAmong (CoreRecord n) (StepRecord index step ∷ items) → ⊥
  acted_start index step items starting None are among =
      let none : filter_map core_name (announced log step ++ []) ≡ [] =
      filter_map-append core_name (announced log step) [] ∙ ap (λ l. l ++ []) (none_announced log step) in
      none_core (StepRecord index step ∷ items) n (core_step index step items ∙ ap (filter_map core_name) are ∙ none) among
  acted_start index step items starting (Some node) are among =
      let acted = act node (Starts starting.start) in
      let names : filter_map core_name (StepRecord index step ∷ items) ≡ one_if (tells_core acted.news) starting.name =
      ap (λ l. filter_map core_name (StepRecord index step ∷ l)) are
      ∙ core_started b.settings log index step (sent_count log) starting.name acted in
      let one = among_one (tells_core acted.news) n starting.name
      (subst (IsAmong n) names (core_among (StepRecord index step ∷ items) n among)) in
      start_not_core node starting.start one.0

  of_step : (index : ℕ) (step : Step) (items : List Record)
      → IsIdle log step items ⊎ IsStarting b.settings log (system_of log) step items → IsAmong (CoreRecord n) (StepRecord index step ∷ items) → ⊥
  of_step index step items (inl idle) among =
      none_core (StepRecord index step ∷ items) n
      (core_step index step items ∙ none_of core_name items (λ k d there. (idle.quiet k d there).core)) among
  of_step index step items (inr starting) among =
      acted_start index step items starting (starter b.settings (system_of log) starting.name starting.start) starting.are among

  -- a frame that is taken is a Done
  of_frame : (number : ℕ) (items : List Record) → IsRun b log → Follows b log (Taken number ∷ items)
      → IsAmong (CoreRecord n) (Taken number ∷ items) → TakesDone (system_of log) (Taken number ∷ items) n
  of_frame number items run follows among =
      let s = system_of log in
      let received = frames_are_received b log number items run follows in
      let frame = received.frame in
      let node = received.node in
      let acted = act node (Takes frame) in
      let names : filter_map core_name (Taken number ∷ items) ≡ one_if (tells_core acted.news) frame.to =
      ap (λ l. filter_map core_name (Taken number ∷ l)) received.acts ∙ core_taken b.settings number (sent_count log) frame.to acted in
      let one = among_one (tells_core acted.news) n frame.to (subst (IsAmong n) names (core_among (Taken number ∷ items) n among)) in
      let joins = (frame_goes_on node frame).core one.0 in
      let done = frame_done node frame joins.0 received.fits one.0 in
      let name : name_of node ≡ frame.to = ((runs_are_sound b log run).nodes.nodes frame.to node received.receiver).name in
      let same : frame ≡ frame_to node frame.from Done =
      ap (λ body. record { from = frame.from; to = frame.to; body = body }) done
      ∙ ap (λ to. record { from = frame.from; to = to; body = Done }) (sym name) in
      record {
        number = number;
        items = items;
        group_is = refl;
        node = node;
        from = frame.from;
        among = subst (λ f. AmongFrames number f s.frames) same received.among;
        at = ap s.node name ∙ received.receiver;
        name = name ∙ sym one.1;
        joins = joins.0;
        goes_on = joins.1;
      }

  by_group : (group : List Record) → IsRun b log → Follows b log group → MayFollow b.settings log (system_of log) group
      → IsAmong (CoreRecord n) group → TakesDone (system_of log) group n
  unfolding MayFollow
  by_group (StepRecord index step ∷ items) run follows may among =
      absurd (of_step index step items (step_kind b.settings log (system_of log) index step items may) among)
  by_group (Taken number ∷ items) run follows may among = of_frame number items run follows among
  by_group group run follows may among = absurd may

  pub takes_done : (group : List Record) → IsRun b log → Follows b log group → IsAmong (CoreRecord n) group
      → TakesDone (system_of log) group n
  takes_done group run follows = by_group group run follows follows.may
