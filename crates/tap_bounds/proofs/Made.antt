-- What a move makes of a system and of what is remembered of its frames: one node does something, and what it sends is under way.
-- Cited above: delivery_made, IsMade, join_made
use Rattle.std.proofs.Common.{◌≡◌, ◌⊎◌, ℕ, List, [], ◌∷◌, ◌++◌, Some, ap, refl, sym, subst, inl, inr}
use Rattle.tap_name.specs.Settings.{SettingsValue}
use Rattle.tap_wire.specs.declared.frame.Body.{Body}
use Rattle.tap_wire.specs.declared.frame.Frame.{Frame}
use Rattle.tap_rule.specs.Act.{act}
use Rattle.tap_rule.specs.Event.{Acted}
use Rattle.tap_rule.specs.Event.Event.{Starts}
use Rattle.tap_rule.specs.Event.Start.{Join}
use Rattle.tap_rule.specs.RuleLaws.{frame_to}
use Rattle.tap_rule.specs.Node.{NodeState, joiner, name_of}
use Rattle.tap_rule.specs.Sent.{IsAmong}
use Rattle.tap_safety.specs.Move.Move.{Begins, Delivers}
use Rattle.tap_safety.specs.SessionSteps.{Exchanges}
use Rattle.tap_safety.specs.Exchanges.{HasSent, numbered_from}
use Rattle.tap_safety.specs.System.{System, AmongFrames}
use Rattle.tap_safety.proofs.Moved.{starts}
use Rattle.tap_safety.proofs.UnderWay.{among_either, among_numbered, among_right, among_sent}
use Rattle.tap_moves.specs.ByRule.{taken_at}
use Rattle.tap_moves.specs.Delivered.{IsArriving, after_delivery, after_start}
use Rattle.tap_moves.specs.InvariantLaws.{IsDelivery}
use Rattle.tap_moves.proofs.Exchanged.{exchanges}
use Rattle.tap_moves.proofs.InvariantMoves.{due}
use Rattle.tap_moves.proofs.MovesMade.{by_rule, is_found}
use Rattle.tap_bounds.specs.Traffic.{Traffic, frames_taken_by, sent_by, traffic_after}

-- The node of a name does this, no other changes; these frames are taken, and those that it sends are under way.
pub record IsMade (s s' : System) (r r' : Traffic) (own : List ℕ) (acted : Acted) (frames : List Frame) : Type 0 where
  pub at : s'.node own ≡ Some acted.state
  pub others : (y : List ℕ) → (y ≡ own) ⊎ (s'.node y ≡ s.node y)
  pub sent : r'.sent ≡ r.sent ++ acted.sent
  pub taken : r'.taken ≡ r.taken ++ frames
  pub was : (m : ℕ) (f : Frame) → AmongFrames m f s'.frames → AmongFrames m f s.frames ⊎ IsAmong f acted.sent
  pub new : (f : Frame) → IsAmong f acted.sent → (m : ℕ) × AmongFrames m f s'.frames

-- ---- a frame is delivered

module _ (p : SettingsValue) (s : System) (r : Traffic) (number : ℕ) (node : NodeState) (from : List ℕ) (body : Body)
    (is : IsDelivery p s number node from body) where
  abbrev sent : List Frame
  sent = (taken_at node from body).sent

  comes : IsArriving s number node from body
  comes = due p s number node from body is

  sent_is : sent_by p s (Delivers number) ≡ sent
  unfolding sent_by
  sent_is = rw (is_found p s number node from body comes, is.at) refl

  taken_is : frames_taken_by s (Delivers number) ≡ frame_to node from body ∷ []
  unfolding frames_taken_by
  taken_is = rw (is_found p s number node from body comes) refl

  exchange : Exchanges s (after_delivery p s number) number (frame_to node from body) (numbered_from s.next sent)
  exchange =
      exchanges s (after_delivery p s number) number (frame_to node from body) sent (by_rule p s number node from body comes).taken
      comes.numbers

  pub delivery_made : IsMade s (after_delivery p s number) r (traffic_after p s r (Delivers number)) (name_of node)
      (taken_at node from body) (frame_to node from body ∷ [])
  delivery_made =
      let step = by_rule p s number node from body comes in
      record {
        at = step.at.is;
        others = step.at.others;
        sent = ap (λ fs. r.sent ++ fs) sent_is;
        taken = ap (λ fs. r.taken ++ fs) taken_is;
        was = λ m f among. elim (exchange.was m f among) [ inl old ↦ inl old | inr new ↦ inr (among_sent s.next sent m f new) ];
        new = λ f among.
            let (number, there) = among_numbered s.next sent f.from f.to f.body among in (number, exchange.sends number f there);
      }

-- ---- a join starts

module _ (p : SettingsValue) (s : System) (r : Traffic) (x via : List ℕ) where
  abbrev begun : Acted
  begun = act (joiner p x) (Starts (Join via))

  begun_is : sent_by p s (Begins x (Join via)) ≡ begun.sent
  unfolding sent_by
  begun_is = refl

  none_taken : frames_taken_by s (Begins x (Join via)) ≡ []
  unfolding frames_taken_by
  none_taken = refl

  has_sent : HasSent s (after_start p s x (Join via)) begun.sent
  has_sent = (starts p s x (Join via) (joiner p x) refl).sent

  pub join_made : IsMade s (after_start p s x (Join via)) r (traffic_after p s r (Begins x (Join via))) x begun []
  join_made =
      let step = starts p s x (Join via) (joiner p x) refl in
      record {
        at = step.done.is;
        others = step.done.others;
        sent = ap (λ fs. r.sent ++ fs) begun_is;
        taken = ap (λ fs. r.taken ++ fs) none_taken;
        was = λ m f among.
            elim (among_either m f s.frames (numbered_from s.next begun.sent) (subst (AmongFrames m f) has_sent.after among)) [
              | inl old ↦ inl old
              | inr new ↦ inr (among_sent s.next begun.sent m f new)
            ];
        new = λ f among.
            let (number, there) = among_numbered s.next begun.sent f.from f.to f.body among in (
              number,
              subst (AmongFrames number f) (sym has_sent.after)
                  (among_right number f s.frames (numbered_from s.next begun.sent) there),
            );
      }
