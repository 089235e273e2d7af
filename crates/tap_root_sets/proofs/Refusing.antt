-- Why a root set is refused, by the node that is asked.
use Rattle.std.proofs.Common.{◌≡◌, ℕ, Bool, true, false, not, List, ◌∷◌, Option, None, Some, refl, ap, sym, ◌∙◌}
use Rattle.std.specs.Prelude.{◌&&◌, drop}
use Rattle.std.specs.Option.{option_map}
use Rattle.tap_name.specs.Names.{Among, has_name}
use Rattle.tap_name.proofs.Membership.{has_name-Decides}
use Rattle.tap_scenario.specs.declared.step.Step.TheVariants.{RootSet}
use Rattle.tap_log.specs.declared.record.Record.{Record}
use Rattle.tap_log.specs.declared.record.Refusal.{Refusal}
use Rattle.tap_log.specs.declared.record.Refusal.TheVariants.{NoSuchNode, NotCore}
use Rattle.tap_history.specs.Core.{core_of, present_of}
use Rattle.tap_history.specs.Departing.{departing_of}
use Rattle.tap_history.specs.Refusals.{damaged, first_refusal, first_some, packets_of_step, refusals, refused_if, refuses_already_abandoned, refuses_already_published, refuses_departing, refuses_last_node, refuses_name_taken, refuses_no_such_byte, refuses_no_such_flight, refuses_no_such_node, refuses_not_at_rest, refuses_not_core, refuses_not_in_prefix, refuses_not_joining, refuses_not_published, refuses_readable, refuses_too_many_nodes, refuses_too_many_packets, while_departing}
use Rattle.tap_history.specs.StepAsks.{abandon_name, asked_node, depart_name, flight_place, join_name, publish_pair, suits_departure, suits_joining, withdraw_pair}
use Rattle.tap_rule.specs.Node.{NodeState, Status}
use Rattle.tap_rule.specs.Node.Status.{Joining, Core, Leaving, Gone, Ceased}
use Rattle.tap_node.specs.Node.{NodeValue, node_status, running, status_seen}
use Rattle.tap_node.specs.declared.status.NodeStatus.{NodeStatus}
use Rattle.tap_node.specs.declared.status.NodeStatus.TheVariants as seen
use Rattle.tap_runs.specs.Course.{system_of}
use Rattle.tap_runs.specs.CourseLaws.{is_present_node}
use Rattle.tap_runs.specs.Observed.{counts_as_core, has_ended, is_core_node}
use Rattle.tap_runs.proofs.Departing.{course_nodes_holds}
use Rattle.tap_safe_runs.specs.Safe.{IsRun}
use Rattle.tap_engine.specs.World.{WorldValue, nodes_running}

-- the first one that there is
abbrev pub either : Option Refusal → Option Refusal → Option Refusal
either (Some refusal) other = Some refusal
either None other = other

-- by whether the node that is asked is present, and core
abbrev pub asked_refusal : Bool → Bool → Option Refusal
asked_refusal present core = either (refused_if (not present) NoSuchNode) (refused_if (present && not core) NotCore)

pick : (one other : Option Refusal) (others : List (Option Refusal)) → first_some others ≡ None → first_some (one ∷ other ∷ others) ≡ either one other
pick (Some refusal) other others none = refl
pick None (Some refusal) others none = refl
pick None None others none = none

skip : (one : Option Refusal) (others : List (Option Refusal)) → one ≡ None → first_some others ≡ None → first_some (one ∷ others) ≡ None
skip one others is none = ap (λ o. first_some (o ∷ others)) is ∙ none

module _ (log : List Record) (object asker : List ℕ) where
  suits_all : (leaver : Option (List ℕ)) → while_departing (RootSet object asker) leaver ≡ None
  unfolding suits_departure
  suits_all None = refl
  suits_all (Some leaver) = refl

  no_departing : refuses_departing log (RootSet object asker) ≡ None
  unfolding refuses_departing
  no_departing = suits_all (departing_of log)

  none_later : first_some (drop 3 (refusals log (RootSet object asker))) ≡ None
  unfolding refuses_not_at_rest refuses_name_taken refuses_too_many_nodes refuses_last_node refuses_already_published refuses_not_published refuses_no_such_flight refuses_no_such_byte refuses_readable refuses_not_joining refuses_already_abandoned refuses_too_many_packets refuses_not_in_prefix abandon_name depart_name flight_place join_name publish_pair withdraw_pair damaged packets_of_step
  none_later = refl

  pub refusal_is : first_refusal log (RootSet object asker) ≡ asked_refusal (has_name (present_of log) asker) (has_name (core_of log) asker)
  unfolding refuses_no_such_node refuses_not_core asked_node suits_joining
  refusal_is =
      pick (refuses_no_such_node log (RootSet object asker)) (refuses_not_core log (RootSet object asker)) (drop 2 (refusals log (RootSet object asker)))
      (skip (refuses_departing log (RootSet object asker)) (drop 3 (refusals log (RootSet object asker))) no_departing none_later)

-- a node whose root set isn't refused is core
core_if : (present core : Bool) → asked_refusal present core ≡ None → core ≡ true
core_if true true none = refl
core_if true false none = absurd (cc)
core_if false core none = absurd (cc)

pub asker_core : (log : List Record) (object asker : List ℕ) → None ≡ first_refusal log (RootSet object asker) → Among asker (core_of log)
asker_core log object asker none =
    (has_name-Decides (core_of log) asker).0
    (core_if (has_name (present_of log) asker) (has_name (core_of log) asker) (sym (none ∙ refusal_is log object asker)))

-- by the status of the node
abbrev pub status_refusal : NodeStatus → Option Refusal
status_refusal seen.Joining = Some NotCore
status_refusal seen.Core = None
status_refusal seen.Leaving = None
status_refusal seen.Gone = Some NoSuchNode
status_refusal seen.Ceased = Some NoSuchNode
status_refusal seen.Ended = Some NoSuchNode

by_status : (status : Status) → status_refusal (status_seen status) ≡ asked_refusal (not (has_ended status)) (counts_as_core status)
by_status Joining = refl
by_status Core = refl
by_status Leaving = refl
by_status Gone = refl
by_status Ceased = refl

module _ (w : WorldValue) (run : IsRun w.beginning w.log) (object asker : List ℕ) where
  abbrev found : Option NodeState
  found = (system_of w.log).node asker

  agreed : first_refusal w.log (RootSet object asker)
      ≡ asked_refusal (has_name (present_of w.log) asker) (has_name (core_of w.log) asker)
  agreed = refusal_is w.log object asker

  absent : (node : Option NodeState) → found ≡ node → None ≡ option_map running node → first_refusal w.log (RootSet object asker) ≡ Some NoSuchNode
  absent None is none =
      let agree = course_nodes_holds w.beginning w.log run.course run.going in
      agreed ∙ ap (λ b. asked_refusal b (has_name (core_of w.log) asker)) (agree.present asker ∙ ap is_present_node is)
  absent (Some node) is none = absurd (cc)

  there : (node : Option NodeState) (value : NodeValue) → found ≡ node → Some value ≡ option_map running node
      → first_refusal w.log (RootSet object asker) ≡ status_refusal (node_status value)
  there None value is some = absurd (cc)
  there (Some node) value is some =
      let agree = course_nodes_holds w.beginning w.log run.course run.going in
      let same : value ≡ running node = cc in
      agreed ∙ ap (λ b. asked_refusal b (has_name (core_of w.log) asker)) (agree.present asker ∙ ap is_present_node is)
      ∙ ap (asked_refusal (not (has_ended node.status))) (agree.core asker ∙ ap is_core_node is)
      ∙ sym (by_status node.status) ∙ sym (ap (λ v. status_refusal (node_status v)) same)

  -- no node of this name was ever there
  pub no_node : None ≡ nodes_running (system_of w.log) asker → Some NoSuchNode ≡ first_refusal w.log (RootSet object asker)
  no_node none = sym (absent found refl none)

  pub node_refuses : (value : NodeValue) (status : NodeStatus) → Some value ≡ nodes_running (system_of w.log) asker → status ≡ node_status value
      → status_refusal status ≡ first_refusal w.log (RootSet object asker)
  node_refuses value status some is = ap status_refusal is ∙ sym (there found value refl some)
