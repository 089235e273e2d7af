-- If one frame at most is under way, and what takes it sends one at most, with fewer to follow, few are sent in all.
use Rattle.std.proofs.Common.{◌≡◌, ℕ, ◌+◌, ◌≤◌, List, [], ◌∷◌, ◌++◌, length, Some, arith, ap, refl, sym, subst, ◌∙◌, inl, inr}
use Rattle.std.proofs.lemmas.List.{length-append}
use Rattle.tap_name.specs.Settings.{SettingsValue}
use Rattle.tap_wire.specs.declared.frame.Body.{Body}
use Rattle.tap_wire.specs.declared.frame.Frame.{Frame}
use Rattle.tap_rule.specs.RuleLaws.{frame_to}
use Rattle.tap_rule.specs.Node.{NodeState}
use Rattle.tap_safety.specs.Move.{MayArrive, Move}
use Rattle.tap_safety.specs.Move.Move.{Begins, Delivers}
use Rattle.tap_safety.specs.Moved.{moved}
use Rattle.tap_safety.specs.Exchanges.{IsTaken, numbered_from}
use Rattle.tap_safety.specs.System.{System, AmongFrames}
use Rattle.tap_moves.specs.ByRule.{taken_at}
use Rattle.tap_moves.specs.Delivered.{after_delivery}
use Rattle.tap_moves.specs.InvariantLaws.{IsDelivery}
use Rattle.tap_moves.proofs.InvariantMoves.{due}
use Rattle.tap_moves.proofs.MovesMade.{by_rule, is_found}
use Rattle.tap_safety_moves.specs.SoundMoves.{may_run}
use Rattle.tap_safety_moves.specs.Sound.{Sound}
use Rattle.tap_safety_moves.proofs.SoundMoves.{move_keeps}
use Rattle.tap_safety_moves.proofs.Delivered.{is_delivery, is_to_receiver}
use Rattle.tap_bounds.specs.FewLookups.{AreDeliveries}
use Rattle.tap_bounds.specs.FewSent.{traffic_of}
use Rattle.tap_bounds.specs.Traffic.{Traffic, sent_by, traffic_after}

-- ---- what is sent, and what may follow

-- `leaves most f`: after the frame f at most so many are sent
module _ (leaves : ℕ → Frame → Type 0) where
  -- none is sent, or one after which so many are sent
  abbrev pub HasLeft : ℕ → List Frame → Type 0
  HasLeft most [] = Unit {0}
  HasLeft most (f ∷ []) = leaves most f
  HasLeft most (f ∷ g ∷ fs) = ⊥

  -- what a step sends, with what may follow
  pub record SendsLeft (most : ℕ) (sent : List Frame) : Type 0 where
    pub after : ℕ
    pub few : length sent + after ≤ most
    pub left : HasLeft after sent

  pub sends_none : (most : ℕ) (sent : List Frame) → sent ≡ [] → SendsLeft most sent
  sends_none most sent none = subst (SendsLeft most) (sym none) (record { after = 0; few = omega arith; left = tt })

  pub sends_one : (most after : ℕ) (f : Frame) (sent : List Frame) → sent ≡ f ∷ [] → after + 1 ≤ most → leaves after f
      → SendsLeft most sent
  sends_one most after f sent one few is =
      subst (SendsLeft most) (sym one) (record { after = after; few = omega (arith, few); left = is })

  -- none is under way, or one after which so many are sent
  abbrev pub WayLeft : ℕ → List (ℕ × Frame) → Type 0
  WayLeft most [] = Unit {0}
  WayLeft most (f ∷ []) = leaves most f.1
  WayLeft most (f ∷ g ∷ fs) = ⊥

  numbered_left : (most n : ℕ) (sent : List Frame) → HasLeft most sent → WayLeft most (numbered_from n sent)
  numbered_left most n [] left = tt
  numbered_left most n (f ∷ []) left = left
  numbered_left most n (f ∷ g ∷ fs) left = absurd left

  -- a move sends some, with what may follow
  pub record MoveLeft (most : ℕ) (s' : System) (sent : List Frame) : Type 0 where
    pub after : ℕ
    pub few : length sent + after ≤ most
    pub left : WayLeft after s'.frames

  pub move_left : (most n : ℕ) (s' : System) (sent : List Frame) → s'.frames ≡ numbered_from n sent → SendsLeft most sent
      → MoveLeft most s' sent
  move_left most n s' sent are left = record {
    after = left.after;
    few = left.few;
    left = subst (WayLeft left.after) (sym are) (numbered_left left.after n sent left.left);
  }

-- one frame, split: nothing stands before or after it
alone_in : (front : List (ℕ × Frame)) (x y : ℕ × Frame) (back : List (ℕ × Frame)) → front ++ x ∷ back ≡ y ∷ []
    → (front ≡ []) × (back ≡ [])
alone_in [] x y back is = (refl, cc)
alone_in (a ∷ []) x y back is = absurd (cc)
alone_in (a ∷ b ∷ front) x y back is = absurd (cc)

-- ---- all that follows

-- beside the invariant something holds that deliveries keep, and the frame that is under way leaves so many by it
module _ (p : SettingsValue) (Holds : System → Type 0) (leaves : System → ℕ → Frame → Type 0)
    (keeps : (s : System) (number : ℕ) → MayArrive s number → Sound p s → Holds s → Holds (after_delivery p s number))
    (step : (s : System) (number most : ℕ) (node : NodeState) (from : List ℕ) (body : Body) → Sound p s → Holds s
    → IsDelivery p s number node from body → leaves s most (frame_to node from body)
    → SendsLeft (leaves (after_delivery p s number)) most (taken_at node from body).sent) where
  module _ (s : System) (number most : ℕ) (frame : Frame) (node : NodeState) (sound : Sound p s) (holds : Holds s)
      (among : AmongFrames number frame s.frames) (at : s.node frame.to ≡ Some node) where
    abbrev from : List ℕ
    from = frame.from

    abbrev body : Body
    body = frame.body

    abbrev s' : System
    s' = after_delivery p s number

    same : frame ≡ frame_to node from body
    same = is_to_receiver p s number frame node sound among at

    is : IsDelivery p s number node from body
    is = is_delivery p s number frame node sound among at

    taken : IsTaken s s' number (frame_to node from body) (taken_at node from body).sent
    taken = (by_rule p s number node from body (due p s number node from body is)).taken

    sent_is : sent_by p s (Delivers number) ≡ (taken_at node from body).sent
    unfolding sent_by
    sent_is = let here = is.at in rw (is_found p s number node from body (due p s number node from body is), here) refl

    by_frames : (frames : List (ℕ × Frame)) → s.frames ≡ frames → WayLeft (leaves s) most frames
        → MoveLeft (leaves s') most s' (sent_by p s (Delivers number))
    by_frames [] are left = absurd (subst (λ fs. AmongFrames number frame fs) are among)
    by_frames (f ∷ []) are left =
        subst (MoveLeft (leaves s') most s') (sym sent_is)
        (move_left (leaves s') most s.next s' (taken_at node from body).sent all
        (step s number most node from body sound holds is (subst (leaves s most) same here)))
      where
        all : s'.frames ≡ numbered_from s.next (taken_at node from body).sent
        all =
            let parts = alone_in taken.front (number, frame_to node from body) f taken.back (sym taken.before ∙ are) in
            taken.after
            ∙ ap (λ (front : List (ℕ × Frame)). front ++ (taken.back ++ numbered_from s.next (taken_at node from body).sent)) parts.0
            ∙ ap (λ (back : List (ℕ × Frame)). back ++ numbered_from s.next (taken_at node from body).sent) parts.1

        here : leaves s most frame
        here =
            elim (subst (λ fs. AmongFrames number frame fs) are among) [
              | inl it ↦ subst (leaves s most) (sym it.1) left
              | inr none ↦ absurd none
            ]
    by_frames (f ∷ g ∷ fs) are left = absurd left

  pub deliveries_left : (s : System) (r : Traffic) (most : ℕ) (moves : List Move) → Sound p s → Holds s
      → WayLeft (leaves s) most s.frames → may_run p s moves → AreDeliveries moves
      → length (traffic_of p s r moves).sent ≤ length r.sent + most
  deliveries_left s r most [] sound holds left may are = omega arith
  deliveries_left s r most (Begins x start ∷ moves) sound holds left may are = absurd are
  deliveries_left s r most (Delivers number ∷ moves) sound holds left may are =
      let now = by_frames s number most may.0.frame may.0.receiver.state sound holds may.0.among may.0.receiver.is s.frames refl left in
      let later = deliveries_left (moved p s (Delivers number)) (traffic_after p s r (Delivers number)) now.after moves
      (move_keeps p s (Delivers number) may.0 sound) (keeps s number may.0 sound holds) now.left may.1 are in
      let few = now.few in
      let both = length-append r.sent (sent_by p s (Delivers number)) in
      omega (arith, later, few, both)
