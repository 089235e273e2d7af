-- The node of an accepted start: it is there, or it is a new one that joins; and what it makes of the start.
use Rattle.std.proofs.Common.{◌≡◌, ◌≢◌, ◌⊎◌, inl, inr, ℕ, ◌≤◌, true, false, List, [], Option, None, Some, Result, Ok, Err, IsOk, is_some, refl, ap, sym, subst, ◌∙◌, arith}
use Rattle.std.specs.Option.{ForSome, option_map}
use Rattle.tap_cast.specs.Casts.{level_of_cast}
use Rattle.tap_name.specs.Name.{IsName}
use Rattle.tap_scenario.specs.declared.step.Step.{Step}
use Rattle.tap_scenario.specs.declared.step.Step.TheVariants.{Join}
use Rattle.tap_log.specs.declared.record.Record.{Record}
use Rattle.tap_log.specs.Counts.{cast_count, ticket_count}
use Rattle.tap_history.specs.Refusals.{first_refusal}
use Rattle.tap_history.specs.StepAsks.{actor_of}
use Rattle.tap_rule.specs.Act.{act}
use Rattle.tap_rule.specs.Event.{Acted as RuleActed, News}
use Rattle.tap_rule.specs.Event.News.{Nothing as NothingNews}
use Rattle.tap_rule.specs.Event.Event.{Starts}
use Rattle.tap_rule.specs.Event.Start.{Join as StartJoin}
use Rattle.tap_rule.specs.Node.{NodeState, Status, joiner, settings_of}
use Rattle.tap_rule.specs.Node.Status.{Joining, Core, Leaving, Gone, Ceased}
use Rattle.tap_rule.specs.StartRules.{rule_of_start}
use Rattle.tap_rule.proofs.CarriedOut.{unruled_start_law}
use Rattle.tap_node.specs.Node.{NodeValue, running, status_seen}
use Rattle.tap_node.specs.Outcome.{AnswersAs, acted_as, start_outcome, turn_made}
use Rattle.tap_node.specs.declared.fault.NodeFault.{NodeFault}
use Rattle.tap_node.specs.declared.fault.NodeFault.TheVariants.{NoMemory as OutOfMemory}
use Rattle.tap_node.specs.declared.turn.Turn.{Turn}
use Rattle.tap_node_common.specs.StepsAs.{news_seen}
use Rattle.tap_node_common.specs.Spellings.{spelled}
use Rattle.tap_wire.specs.declared.frame.Frame.{Frame}
use Rattle.tap_runs.specs.Course.{system_of}
use Rattle.tap_runs.specs.Group.{start_at}
use Rattle.tap_runs.specs.Starts.{start_of_step}
use Rattle.tap_runs.proofs.Departing.{course_nodes_holds}
use Rattle.tap_runs.proofs.Nodes.{Agree, IsThere, joiner_is_new, starts_of}
use Rattle.tap_overlay.specs.Overlay.{ChangesOnly, OverlayValue, node_at}
use Rattle.tap_overlay.specs.Start.{MayStart, rule_start}
use Rattle.tap_overlay.specs.Step.{HasJoined, HasStepped, NodeHasAnswered, StepsAt, answer_given}
use Rattle.tap_overlay.specs.declared.fault.OverlayFault.{OverlayFault}
use Rattle.tap_overlay.specs.declared.fault.OverlayFault.TheVariants.{Node as NodeRefuses}
use Rattle.tap_overlay.specs.declared.start.Start.{Start}
use Rattle.tap_overlay.specs.declared.start.Start.TheVariants.{Abandon, Publish, Withdraw, Find, Leave, Cast}
use Rattle.tap_engine.specs.KeptEngine.{AreReady}
use Rattle.tap_engine.specs.Kinds.{most_index}
use Rattle.tap_engine.specs.Working.{CanBegin, HasBegunAt, HasBegunOf, IsNextStart, is_seen_core, is_seen_joining, nothing_by, suits}
use Rattle.tap_engine.specs.declared.engine.Acted.{Acted}
use Rattle.tap_engine.specs.declared.engine.Engine.{Engine}
use Rattle.tap_engine.proofs.Indices.{few_steps}
use Rattle.tap_engine.proofs.Keeping.{on, seen}
use Rattle.tap_engine.proofs.SoundCourse.{IsSoundAt}
use Rattle.tap_engine.proofs.Taking.{answer_ok, sound}

-- who is core, present and gone, and who was ever there, of an engine that is ready
pub agrees : (engine : Engine) → AreReady engine → Agree engine.ledger.records (system_of engine.ledger.records)
agrees engine ready =
    let goes = on engine ready in
    let nodes = course_nodes_holds (seen engine).beginning engine.ledger.records goes.course goes.going in
    record { core = nodes.core; present = nodes.present; gone = nodes.gone; ever = nodes.ever }

-- lookups and casts are far fewer than numbers
pub few_tickets : (engine : Engine) → AreReady engine → ticket_count engine.ledger.records ≤ most_index
few_tickets engine ready =
    let least = (sound engine ready).tickets in
    let steps = few_steps engine.ledger.records (on engine ready).indices in
    omega (arith, least, steps)

pub few_casts : (engine : Engine) → AreReady engine → cast_count engine.ledger.records ≤ most_index
few_casts engine ready =
    let least = (sound engine ready).casts in
    let steps = few_steps engine.ledger.records (on engine ready).indices in
    omega (arith, least, steps)

-- what holds of the one that there is
pub for_some : {A : Type 0} (P : A → Type 0) (found : Option A) (one : A) → ForSome found P → found ≡ Some one → P one
for_some P found one is at = is one at

pub some_for : {A : Type 0} (P : A → Type 0) (found : Option A) (one : A) → P one → found ≡ Some one → ForSome found P
some_for P found one is at = λ other there.
    let both : Some one ≡ Some other = sym at ∙ there in
    let same : one ≡ other = cc in
    subst P same is

-- ---- a join

none_there : (node : Option NodeState) → is_some node ≡ false → option_map running node ≡ None
none_there None is = refl
none_there (Some node) is = absurd (cc)

-- there is no node of the name of an accepted join
pub is_fresh : (engine : Engine) → AreReady engine → (name via : List ℕ) → first_refusal engine.ledger.records (Join name via) ≡ None
    → node_at engine.overlay name ≡ None
is_fresh engine ready name via accepted =
    let go_on = ready.kept.go_on refl in
    let s = system_of engine.ledger.records in
    go_on.nodes.nodes_are name
    ∙ none_there (s.node name) (sym (go_on.ever name) ∙ joiner_is_new engine.ledger.records name via accepted)

join_at : (log : List Record) (name via : List ℕ) → start_at log (Join name via) ≡ Some (name, StartJoin via)
unfolding actor_of start_of_step
join_at log name via = refl

-- the one that joins has started its join
pub has_joined_at : (before after : Engine) (name via : List ℕ) (turn : Turn)
    → HasJoined before.settings name via before.overlay.nodes after.overlay.nodes turn → after.overlay.settings ≡ before.overlay.settings
    → HasBegunAt before after (Join name via) (record { name = name; turn = turn })
has_joined_at before after name via turn joined settings = record {
  name = name;
  start = StartJoin via;
  node = joiner before.settings name;
  at = join_at before.ledger.records name via;
  was = refl;
  acts = record { name_is = refl; turn_is = joined.turn_is; changes = joined.changes; settings = settings };
}

-- ---- a start at a node that is there

is_joining : (status : Status) → is_seen_joining (status_seen status) ≡ true → status ≡ Joining
is_joining Joining is = refl
is_joining Core is = cc
is_joining Leaving is = cc
is_joining Gone is = cc
is_joining Ceased is = cc

is_core : (status : Status) → is_seen_core (status_seen status) ≡ true → status ≡ Core
is_core Joining is = cc
is_core Core is = refl
is_core Leaving is = cc
is_core Gone is = cc
is_core Ceased is = cc

may_start : (engine : Engine) (name : List ℕ) (start : Start) (node : NodeState) → engine.overlay.settings ≡ engine.settings
    → IsSoundAt (seen engine).beginning engine.ledger.records name node → IsNextStart engine.settings engine.ledger.records start
    → suits (status_seen node.status) start ≡ true → MayStart engine.overlay.settings start (running node)
may_start engine name Abandon node same sound named suited = λ runs. is_joining node.status suited
may_start engine name (Publish object) node same sound named suited =
    record { core = λ runs. is_core node.status suited; name = subst (λ p. IsName p object) (sym same) named }
may_start engine name (Withdraw object) node same sound named suited =
    record { core = λ runs. is_core node.status suited; name = subst (λ p. IsName p object) (sym same) named }
may_start engine name (Find ticket object) node same sound named suited =
    record { core = λ runs. is_core node.status suited; name = subst (λ p. IsName p object) (sym same) named }
may_start engine name Leave node same sound named suited = λ runs. is_core node.status suited
may_start engine name (Cast cast level word) node same sound named suited = record {
  core = λ runs. is_core node.status suited;
  within = subst (λ p. level ≤ p.digits) (sym same) named.1;
  is_word = named.2;
  unmet = λ runs. subst (λ c. level_of_cast node.casts c ≡ None) (sym named.0) sound.unmet;
}

-- the state of the node, if there is one
abbrev state_in : NodeState → Option NodeValue → NodeState
state_in other None = other
state_in other (Some node) = node.state

no_join : (start : Start) (via : List ℕ) → rule_start start ≡ StartJoin via → ⊥
no_join Abandon via is = cc
no_join (Publish object) via is = cc
no_join (Withdraw object) via is = cc
no_join (Find ticket object) via is = cc
no_join Leave via is = cc
no_join (Cast cast level word) via is = cc

-- the node of an accepted start is there, and may start it if it has the status that it wants
module _ (engine : Engine) (ready : AreReady engine) (step : Step) (accepted : first_refusal engine.ledger.records step ≡ None)
    (name : List ℕ) (start : Start) (at : start_at engine.ledger.records step ≡ Some (name, rule_start start))
    (named : IsNextStart engine.settings engine.ledger.records start) where
  is_there : IsThere engine.settings (system_of engine.ledger.records) step name (rule_start start)
  is_there = elim (starts_of engine.settings engine.ledger.records (system_of engine.ledger.records) (agrees engine ready) step name (rule_start start)
      accepted at) [
        | inl new ↦ absurd (no_join start new.via new.start_is)
        | inr is ↦ is
      ]

  pub can_begin : CanBegin engine.overlay name start
  can_begin =
      let facts = (sound engine ready).nodes name is_there.node is_there.is in
      record {
        node = is_there.node;
        there = (ready.kept.go_on refl).nodes.nodes_are name ∙ ap (option_map running) is_there.is;
        room = facts.left;
        may = λ suited. may_start engine name start is_there.node ready.kept.settings facts named suited;
      }

  some_node : (node other : NodeState) → Some (running node) ≡ Some (running other) → node ≡ other
  some_node node other same = ap (state_in node) same

  -- what it has started is what the step has it start
  pub has_begun_at : (after : Engine) (acted : Acted) → HasBegunOf engine.overlay after.overlay name (rule_start start) acted
      → HasBegunAt engine after step acted
  unfolding is_there can_begin
  has_begun_at after acted has =
      let node : is_there.node ≡ has.node = some_node is_there.node has.node (sym can_begin.there ∙ has.was) in
      record {
        name = name;
        start = rule_start start;
        node = has.node;
        at = at;
        was = is_there.starts ∙ ap (λ n. Some n) node;
        acts = has.acts;
      }

-- ---- what the node makes of it

-- a node of another status has no rule for it
no_rule : (node : NodeState) (status : Status) (start : Start) → suits (status_seen status) start ≡ false
    → rule_of_start status node (rule_start start) ≡ None
no_rule node Joining Abandon not = cc
no_rule node Joining (Publish object) not = refl
no_rule node Joining (Withdraw object) not = refl
no_rule node Joining (Find ticket object) not = refl
no_rule node Joining Leave not = refl
no_rule node Joining (Cast cast level word) not = refl
no_rule node Core Abandon not = refl
no_rule node Core (Publish object) not = cc
no_rule node Core (Withdraw object) not = cc
no_rule node Core (Find ticket object) not = cc
no_rule node Core Leave not = cc
no_rule node Core (Cast cast level word) not = cc
no_rule node Leaving start not = refl
no_rule node Gone start not = refl
no_rule node Ceased start not = refl

nothing_told : (node : NodeState) (acted : RuleActed) (name : List ℕ) → acted.sent ≡ [] → acted.news ≡ NothingNews
    → (nothing_by name).turn ≡ turn_made node acted
nothing_told node acted name sent news =
    let frames : List Frame → Turn = λ l. record { sent = spelled (settings_of node) l; news = news_seen acted.news } in
    let tells : News → Turn = λ n. record { sent = []; news = news_seen n } in
    sym (ap frames sent ∙ ap tells news)

-- so it does nothing
pub has_done_nothing : (o : OverlayValue) (name : List ℕ) (start : Start) (can : CanBegin o name start)
    → suits (status_seen can.node.status) start ≡ false → HasBegunOf o o name (rule_start start) (nothing_by name)
has_done_nothing o name start can not =
    let ignored = unruled_start_law can.node (rule_start start) (no_rule can.node can.node.status start not) in
    let stays : running (act can.node (Starts (rule_start start))).state ≡ running can.node = ap running ignored.state in
    record {
      node = can.node;
      was = can.there;
      acts = record {
        name_is = refl;
        turn_is = nothing_told can.node (act can.node (Starts (rule_start start))) name ignored.sent ignored.news;
        changes = subst (ChangesOnly o.nodes o.nodes name) (sym stays) (record { here = can.there; others = λ other apart. refl });
        settings = refl;
      };
    }

module _ (before after : OverlayValue) (name : List ℕ) (start : Start) (can : CanBegin before name start)
    (given : Result Turn OverlayFault) (step : StepsAt (λ node. start_outcome node (rule_start start)) before.nodes after.nodes name given)
    (settings : after.settings ≡ before.settings) where
  has : HasStepped (start_outcome (running can.node) (rule_start start)) before.nodes after.nodes name (running can.node) given
  has = step.there (running can.node) can.there

  answered : NodeHasAnswered (start_outcome (running can.node) (rule_start start)) (running can.node) has.is given
  answered = has.step.free can.room

  by_answer : (answer : Result Turn NodeFault) → AnswersAs (acted_as can.node (act can.node (Starts (rule_start start)))) (running can.node) answer has.is
      → (answer_given answer ≡ Err (NodeRefuses OutOfMemory)) ⊎ IsOk (answer_given answer)
  by_answer (Ok turn) answers = inr refl
  by_answer (Err OutOfMemory) answers = inl refl
  by_answer (Err fault) answers =
      let never : Err fault ≡ Ok (turn_made can.node (act can.node (Starts (rule_start start)))) = answers.answer (λ memory. cc) in cc

  -- want of memory is the one refusal
  pub only_memory : (given ≡ Err (NodeRefuses OutOfMemory)) ⊎ IsOk given
  only_memory =
      subst (λ g. (g ≡ Err (NodeRefuses OutOfMemory)) ⊎ IsOk g) (sym answered.given_is) (by_answer answered.answer answered.answers)

  -- and else it has started it
  pub has_started : (acted : Acted) → acted.name ≡ name → given ≡ Ok acted.turn → HasBegunOf before after name (rule_start start) acted
  has_started acted named ok =
      let is_ok = answer_ok answered.answer acted.turn (sym answered.given_is ∙ ok) in
      let other : answered.answer ≢ Err OutOfMemory = λ memory. let never : Ok acted.turn ≡ Err OutOfMemory = sym is_ok ∙ memory in cc in
      let by_rule = answered.answers.answer other in
      let left = answered.answers.node other in
      let both : Ok acted.turn ≡ Ok (turn_made can.node (act can.node (Starts (rule_start start)))) = sym is_ok ∙ by_rule in
      record {
        node = can.node;
        was = can.there;
        acts = record {
          name_is = named;
          turn_is = cc;
          changes = subst (ChangesOnly before.nodes after.nodes name) left has.changes;
          settings = settings;
        };
      }
