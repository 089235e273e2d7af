-- Done, Left and the start of a departure at a node, from the steps of its parts.
use Rattle.std.proofs.Common.{◌≡◌, ◌==◌, ℕ, Bool, if◌then◌else◌, List, [], length, map, Some, true, false, refl, sym, subst}
use Rattle.std.proofs.lemmas.List.Elements.{All-nil}
use Rattle.tap_name.specs.Settings.{SettingsValue}
use Rattle.tap_session.specs.Session.{SessionsValue}
use Rattle.tap_pointer.specs.Reconcile.{AreLaid, wanted_hop}
use Rattle.tap_depart.specs.Leaving.{names_but, started_leaving}
use Rattle.tap_rule.specs.Node.{IsRunning, NodeState, Status}
use Rattle.tap_rule.specs.Ceasing.{ceases, takes_done}
use Rattle.tap_rule.specs.Event.News.{Nothing as NothingNews}
use Rattle.tap_rule.specs.Joining.{becomes_core}
use Rattle.tap_rule.specs.Leaving.{finishes, leave_for, starts_leave, takes_left, with_departure}
use Rattle.tap_rule.specs.Pointers.{reconciles}
use Rattle.tap_rule.specs.Reaction.{Message, Reaction, sends}
use Rattle.tap_node_common.specs.declared.news.News.{News}
use Rattle.tap_node_common.specs.declared.news.News.TheVariants.{Nothing}
use Rattle.tap_node_common.specs.States.{ended_state}
use Rattle.tap_node_common.specs.StepsAs.{FollowsAs, StepsAs}
use Rattle.tap_node_common.proofs.Followed.{follows_quietly}
use Rattle.tap_node_common.proofs.ReactionSteps.{silent_step}

-- a step that ends a node of these settings and this name
pub ends_as : (status : Status) (p q : SettingsValue) (name own : List ℕ) (sessions : SessionsValue) (node : NodeState) (r : Reaction)
    (before sent : List (List ℕ)) (news : News) → q ≡ p → own ≡ name
    → StepsAs node r (ended_state status q own sessions) before sent news → StepsAs node r (ended_state status p name sessions) before sent news
ends_as status p q name own sessions node r before sent news settings is steps =
    subst (λ n. StepsAs node r (ended_state status p n sessions) before sent news) is
    (subst (λ s. StepsAs node r (ended_state status s own sessions) before sent news) settings steps)

module _ (node after : NodeState) (before sent : List (List ℕ)) (news : News) where
  -- Done, at a node that has given up its join, or not
  abbrev done_if : Bool → Reaction
  done_if abandoned = if abandoned then ceases node else becomes_core node

  pub done_joins : node.abandoned ≡ false → node.pointers.pairs ≡ [] → StepsAs node (becomes_core node) after before sent news
      → FollowsAs node (Some (takes_done node)) after before sent news
  done_joins kept none steps =
      let laid : AreLaid node.ties.table node.pointers = rw none (All-nil (λ e. e.1.laid ≡ wanted_hop node.ties.table e)) in
      subst (λ b. FollowsAs node (Some (done_if b)) after before sent news) (sym kept)
      (follows_quietly node (becomes_core node) after before sent news tt refl laid steps)

  pub done_ceases : node.abandoned ≡ true → StepsAs node (ceases node) after before sent news
      → FollowsAs node (Some (takes_done node)) after before sent news
  done_ceases given_up steps = subst (λ b. FollowsAs node (Some (done_if b)) after before sent news) (sym given_up) steps

  -- the start of a departure, at a node without holders, or not
  abbrev notices : List Message
  notices = map leave_for (started_leaving node.ties).notices

  abbrev leaves_if : Bool → Reaction
  leaves_if alone = if alone then finishes (with_departure node) else sends (with_departure node) notices

  pub leaves_at_once : (length (started_leaving node.ties).awaited == 0) ≡ true
      → StepsAs node (finishes (with_departure node)) after before sent news → FollowsAs node (Some (starts_leave node)) after before sent news
  leaves_at_once alone steps = subst (λ b. FollowsAs node (Some (leaves_if b)) after before sent news) (sym alone) steps

  pub leaves_awaiting : (length (started_leaving node.ties).awaited == 0) ≡ false
      → StepsAs node (reconciles (sends (with_departure node) notices)) after before sent news
      → FollowsAs node (Some (starts_leave node)) after before sent news
  leaves_awaiting held steps = subst (λ b. FollowsAs node (Some (leaves_if b)) after before sent news) (sym held) steps

-- Left, after which a node awaits nobody, or somebody
module _ (node : NodeState) (from : List ℕ) (before : List (List ℕ)) where
  abbrev pub without : NodeState
  without = record node { awaited = names_but node.awaited from }

  abbrev left_if : Bool → Reaction
  left_if last = if last then finishes without else sends without []

  pub left_finishes : (after : NodeState) (sent : List (List ℕ)) (news : News) → (length (names_but node.awaited from) == 0) ≡ true
      → StepsAs node (finishes without) after before sent news → FollowsAs node (Some (takes_left node from)) after before sent news
  left_finishes after sent news last steps = subst (λ b. FollowsAs node (Some (left_if b)) after before sent news) (sym last) steps

  pub left_stays : IsRunning node.status → AreLaid node.ties.table node.pointers → (length (names_but node.awaited from) == 0) ≡ false
      → FollowsAs node (Some (takes_left node from)) without before before Nothing
  left_stays running laid more =
      subst (λ b. FollowsAs node (Some (left_if b)) without before before Nothing) (sym more)
      (follows_quietly node (sends without []) without before before Nothing running refl laid (silent_step node without NothingNews before))
