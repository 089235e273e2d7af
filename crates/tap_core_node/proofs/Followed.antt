-- What a core node does at a frame, from the step of its rule. Rules about joiners, lookups and casts leave each pair laid as wanted,
-- so that reconciling adds nothing to them.
use Rattle.std.proofs.Common.{◌≡◌, ◌≢◌, ◌==◌, ℕ, Bool, List, [], ◌∷◌, length, Some, refl, sym, ap, subst, ◌∙◌, inl, inr}
use Rattle.std.proofs.lemmas.Bool.{cases_Bool}
use Rattle.tap_name.specs.declared.slot.Offered.{Offered}
use Rattle.tap_name.specs.declared.slot.Slot.{Slot}
use Rattle.tap_name.specs.Name.{IsName}
use Rattle.tap_session.specs.declared.sessions.Answered.{Answered}
use Rattle.tap_session.specs.declared.sessions.Answered.TheVariants.{Open, Closed, Unknown}
use Rattle.tap_table.specs.declared.tie.Tie.{Tie}
use Rattle.tap_multicast.specs.declared.covers.Covered.{Covered}
use Rattle.tap_multicast.specs.declared.covers.Covered.TheVariants.{Already, Now}
use Rattle.tap_multicast.specs.declared.target.Target.{Target}
use Rattle.tap_cast.specs.declared.casts.CastTurn.{CastTurn}
use Rattle.tap_cast.specs.declared.casts.CastTurn.TheVariants.{Already as CastAlready, Now as CastNow}
use Rattle.tap_cast.specs.Casts.{turn_of}
use Rattle.tap_join.specs.declared.sought.Sought.{Sought}
use Rattle.tap_join.specs.declared.sought.Sought.TheVariants.{Forward, Surrogate}
use Rattle.tap_join.specs.Seek.{sought}
use Rattle.tap_session.specs.Sessions.{answer_to, answered_at, session_of}
use Rattle.tap_pointer.specs.Reconcile.{AreLaid}
use Rattle.tap_rule.specs.Node.{IsRunning, NodeState, name_of, settings_of}
use Rattle.tap_rule.specs.Node.Status.{Core}
use Rattle.tap_rule.specs.Reaction.{Reaction, with_pin, with_words}
use Rattle.tap_rule.specs.Casts.{Copy, cast_of, casts, casts_as, takes_cast_ack, takes_cast_ack_as}
use Rattle.tap_rule.specs.Covering.{Request, answers_awaited, covers, covers_as, first_request, pins_and_covers, spreads, takes_seek, takes_seek_as, with_level}
use Rattle.tap_rule.specs.JoinSteps.{found_for}
use Rattle.tap_rule.specs.Pointers.{starts_find, takes_find}
use Rattle.tap_node_common.specs.declared.news.News.{News}
use Rattle.tap_node_common.specs.SoundNode.{IsSoundNode}
use Rattle.tap_node_common.specs.StepsAs.{FollowsAs, StepsAs}
use Rattle.tap_node_common.proofs.Followed.{LeavesAlone, asks_alone, finds_alone, follows_quietly}
use Rattle.tap_core_node.proofs.Laid.{laid-pinned}

-- a reaction that leaves the node core, without Lays and with each pair laid as wanted
pub record IsQuiet (r : Reaction) : Type 0 where
  pub status : r.state.status ≡ Core
  pub lays : r.lays ≡ []
  pub laid : AreLaid r.state.ties.table r.state.pointers

-- it is followed as its rule says
pub follows_quiet : (node : NodeState) (r : Reaction) (after : NodeState) (before sent : List (List ℕ)) (news : News) → IsQuiet r
    → StepsAs node r after before sent news → FollowsAs node (Some r) after before sent news
follows_quiet node r after before sent news quiet steps =
    follows_quietly node r after before sent news (subst IsRunning (sym quiet.status) tt) quiet.lays quiet.laid steps

-- a joiner that is covered
spreads_quiet : (node : NodeState) → node.status ≡ Core → AreLaid node.ties.table node.pointers → (request : Request) (first : Bool)
    (offer : List Offered) (targets : List Target) (left : List Slot) → IsQuiet (spreads node request first offer targets left)
spreads_quiet node core laid request first offer targets left =
    elim (cases_Bool (answers_awaited first (length targets) == 0)) [
      | inl none ↦ rw none (record { status = core; lays = refl; laid = laid })
      | inr some ↦ rw some (record { status = core; lays = refl; laid = laid })
    ]

module _ (node : NodeState) (core : node.status ≡ Core) (laid : AreLaid node.ties.table node.pointers) where
  covers_as_quiet : (request : Request) (found : Covered) → IsQuiet (covers_as node request found)
  covers_as_quiet request Already = record { status = core; lays = refl; laid = laid }
  covers_as_quiet request (Now first offer targets left) =
      spreads_quiet (with_level node request) core laid request first offer targets left

  -- a lookup
  alone_quiet : (r : Reaction) → LeavesAlone node r → IsQuiet r
  alone_quiet r alone = record {
    status = ap (λ (n : NodeState). n.status) alone.state ∙ core;
    lays = alone.lays;
    laid = subst (λ (n : NodeState). AreLaid n.ties.table n.pointers) (sym alone.state) laid;
  }

  pub finds_quiet : (ticket : ℕ) (object asker : List ℕ) (level : ℕ) → IsQuiet (takes_find node ticket object asker level)
  finds_quiet ticket object asker level = alone_quiet (takes_find node ticket object asker level) (finds_alone node ticket object asker level)

  pub asks_quiet : (ticket : ℕ) (object : List ℕ) → IsQuiet (starts_find node ticket object)
  asks_quiet ticket object = alone_quiet (starts_find node ticket object) (asks_alone node ticket object)

  -- a cast, and an answer to one
  casts_as_quiet : (copy : Copy) (turn : CastTurn) → IsQuiet (casts_as node copy turn)
  casts_as_quiet copy CastAlready = record { status = core; lays = refl; laid = laid }
  casts_as_quiet copy (CastNow first []) = record { status = core; lays = refl; laid = laid }
  casts_as_quiet copy (CastNow first (target ∷ targets)) = record { status = core; lays = refl; laid = laid }

  pub casts_quiet : (copy : Copy) → IsQuiet (casts node copy)
  casts_quiet copy = casts_as_quiet copy (turn_of node.casts node.ties.table copy.cast copy.level)

  cast_answered_as_quiet : (cast session : ℕ) (answer : Answered)
      → IsQuiet (takes_cast_ack_as (record node { cast_sessions = answered_at node.cast_sessions session }) cast answer)
  cast_answered_as_quiet cast session Open = record { status = core; lays = refl; laid = laid }
  cast_answered_as_quiet cast session (Closed parent) = record { status = core; lays = refl; laid = laid }
  cast_answered_as_quiet cast session Unknown = record { status = core; lays = refl; laid = laid }

  pub cast_answered_quiet : (session : ℕ) → IsQuiet (takes_cast_ack node session)
  cast_answered_quiet session =
      cast_answered_as_quiet (cast_of node session) session (answer_to (session_of node.cast_sessions.sessions session))

-- words change nothing of that
worded_quiet : (words : List Tie) (r : Reaction) → IsQuiet r → IsQuiet (with_words words r)
worded_quiet words r quiet = record { status = quiet.status; lays = quiet.lays; laid = quiet.laid }

-- a joiner that is pinned and covered, and one that seeks
module _ (node : NodeState) (sound : IsSoundNode node) (core : node.status ≡ Core) where
  pub pins_and_covers_quiet : (request : Request) → IsName (settings_of node) request.joiner → request.joiner ≢ name_of node
      → IsQuiet (pins_and_covers node request)
  pins_and_covers_quiet request is_name other =
      worded_quiet _ (covers (with_pin node request.joiner) request)
      (covers_as_quiet (with_pin node request.joiner) core
      (laid-pinned node.ties.table request.joiner sound.valid.ties.table is_name other node.pointers sound.laid) request
      (found_for node request))

  seeks_as_quiet : (joiner : List ℕ) → IsName (settings_of node) joiner → joiner ≢ name_of node → (found : Sought)
      → IsQuiet (takes_seek_as node joiner found)
  seeks_as_quiet joiner is_name other (Forward next) = record { status = core; lays = refl; laid = sound.laid }
  seeks_as_quiet joiner is_name other (Surrogate prefix) =
      pins_and_covers_quiet (first_request node joiner prefix) is_name other

  pub seeks_quiet : (joiner : List ℕ) → IsName (settings_of node) joiner → joiner ≢ name_of node → IsQuiet (takes_seek node joiner)
  seeks_quiet joiner is_name other = seeks_as_quiet joiner is_name other (sought node.ties.table joiner)
