-- A Seek that a core node sends on goes to a core node, and is all that is sent.
-- Cited above: goes_on_sent, one_sent
use Rattle.std.proofs.Common.{◌≡◌, ℕ, ◌+◌, List, [], ◌∷◌, map, ap, refl, sym, subst, ◌∙◌, inl, inr}
use Rattle.tap_name.specs.Name.{IsName}
use Rattle.tap_name.specs.Settings.{SettingsValue}
use Rattle.tap_table.specs.Table.{TableValue, kind_in}
use Rattle.tap_table.specs.Ties.{TiesValue}
use Rattle.tap_pointer.specs.declared.lay.Lay.{Lay}
use Rattle.tap_pointer.specs.Reconcile.{AreLaid}
use Rattle.tap_pointer.proofs.Laws.{laid_sends_nothing}
use Rattle.tap_join.specs.Seek.{sought}
use Rattle.tap_join.specs.declared.sought.Sought.TheVariants.{Forward}
use Rattle.tap_join.proofs.Seeking.{forward_is}
use Rattle.tap_wire.specs.declared.frame.Body.TheVariants.{Seek}
use Rattle.tap_rule.specs.Completed.{IsCompleted, lays_after}
use Rattle.tap_rule.specs.Event.{Acted}
use Rattle.tap_rule.specs.Event.News.{Nothing}
use Rattle.tap_rule.specs.JoinSteps.{SeeksAs}
use Rattle.tap_rule.specs.Node.{IsRunning, NodeState, name_of, settings_of}
use Rattle.tap_rule.specs.Node.Status.{Core}
use Rattle.tap_rule.specs.Reaction.{Message, message}
use Rattle.tap_rule.specs.Sending.{by_receiver, lay_frame, message_frame}
use Rattle.tap_rule.specs.Sent.{AreSent}
use Rattle.tap_rule.proofs.CoverSteps.{seek_law}
use Rattle.tap_safety.specs.SeekerSteps.{SeekGoesOn}
use Rattle.tap_safety.specs.System.{System}
use Rattle.tap_moves.specs.ByRule.{taken_at}
use Rattle.tap_moves.specs.Delivered.{after_delivery}
use Rattle.tap_moves.specs.InvariantLaws.{IsDelivery}
use Rattle.tap_moves.proofs.InvariantMoves.{due, name_at, of_node, seeker_not_core, way}
use Rattle.tap_moves.proofs.MovesMade.{by_rule, starts_none_as}
use Rattle.tap_moves.proofs.Plain.{plain_alike, takes_frame}

-- a step of one message, with no word, whose pointers are laid as wanted, sends this message alone
pub one_sent : (node : NodeState) (m : Message) (acted : Acted) → IsCompleted node node.pointers [] (m ∷ []) Nothing acted
    → AreLaid acted.state.ties.table node.pointers → acted.sent ≡ message_frame (name_of node) m ∷ []
unfolding by_receiver
one_sent node m acted completed laid =
    let none : lays_after node node.pointers [] acted ≡ [] =
    (laid_sends_nothing acted.state.ties.table (node.stamp + 0) node.pointers laid).0 in
    completed.sent.all ∙ ap (λ (lays : List Lay). message_frame (name_of node) m ∷ map (lay_frame (name_of node)) lays) none

-- so it is among what is sent
alone : (own : List ℕ) (m : Message) → AreSent own [] (m ∷ []) (message_frame own m ∷ [])
alone own m = record {
  each = λ frame among. elim among [
    | inl is ↦ inr (inl (record { message = m; among = inl refl; is = is }))
    | inr none ↦ absurd none
  ];
  links = λ word none. absurd none;
  named = λ n among. elim among [ inl is ↦ inl (ap (message_frame own) is) | inr none ↦ absurd none ];
}

module _ (p : SettingsValue) (s : System) (number : ℕ) (node : NodeState) (from joiner next : List ℕ)
    (is : IsDelivery p s number node from (Seek joiner)) (at : node.status ≡ Core)
    (found : sought node.ties.table joiner ≡ Forward next) where
  abbrev own : List ℕ
  own = name_of node

  abbrev acted : Acted
  acted = taken_at node from (Seek joiner)

  -- who seeks has a name, and is another node
  seeker_named : IsName (settings_of node) joiner × (joiner ≡ own → ⊥)
  seeker_named =
      let seeker = is.invariant.seekers.seeks from own joiner (way p s number node from (Seek joiner) is) in (
        of_node p s number node from (Seek joiner) is joiner (name_at p s is.nodes joiner seeker.state seeker.is),
        λ same. seeker_not_core s joiner seeker (record { state = node; is = ap s.node same ∙ is.at; core = inl at }),
      )

  goes : SeeksAs node joiner acted (Forward next)
  goes =
      let here = due p s number node from (Seek joiner) is in
      subst (SeeksAs node joiner acted) found (seek_law node from joiner here.is_node.ties seeker_named.0 at is.known)

  pub goes_on_sent : acted.sent ≡ message_frame own (message next (Seek joiner)) ∷ []
  goes_on_sent =
      let laid = (is.nodes.nodes own node is.at).laid (subst IsRunning (sym at) tt) in
      one_sent node (message next (Seek joiner)) acted goes.5
      (subst (λ (ties : TiesValue). AreLaid ties.table node.pointers) (sym goes.0) laid)

  pub seek_goes_on : (goes : SeekGoesOn s (after_delivery p s number) number from own joiner next)
      × (goes.step.messages ≡ message next (Seek joiner) ∷ [])
  seek_goes_on =
      let here = due p s number node from (Seek joiner) is in
      let alike = plain_alike node from (Seek joiner) is.known (next, found) in
      let none = starts_none_as p s number node from (Seek joiner) here alike.opened in
      let taken = by_rule p s number node from (Seek joiner) here in
      let forward = forward_is node.ties.table here.is_node.ties.table joiner seeker_named.0 seeker_named.1 next found in (
        record {
          step =
              takes_frame s (after_delivery p s number) number node from (Seek joiner) taken none alike.status alike.covers []
              (message next (Seek joiner) ∷ [])
              (subst (AreSent own [] (message next (Seek joiner) ∷ [])) (sym goes_on_sent) (alone own (message next (Seek joiner))));
          links = λ t. ap (λ (table : TableValue). kind_in table t) alike.table;
          sent = goes_on_sent;
          core = is.invariant.soft.settled own next (record { state = node; is = is.at; link = forward.settled });
        },
        refl,
      )
