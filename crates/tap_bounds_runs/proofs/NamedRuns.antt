-- Who the nodes of a run of joins alone are, and the joiners of its frames: members, and those whose join was started.
use Rattle.std.proofs.Common.{◌≡◌, ◌⊎◌, inl, inr, ℕ, Bool, true, false, List, [], ◌∷◌, ◌++◌, Option, None, Some, ap, refl, sym, subst, ◌∙◌, append-nil, append_assoc}
use Rattle.std.specs.Prelude.{if◌then◌else◌}
use Rattle.tap_name.specs.Names.{Among, has_name}
use Rattle.tap_name.specs.Settings.{SettingsValue}
use Rattle.tap_name.proofs.Membership.{among-append, has_name-Decides}
use Rattle.tap_wire.specs.declared.frame.Frame.{Frame}
use Rattle.tap_rule.specs.Event.{Acted}
use Rattle.tap_rule.specs.Event.Start.{Join}
use Rattle.tap_rule.specs.Node.{NodeState, member_at_rest, name_of}
use Rattle.tap_rule.specs.Sent.{IsAmong}
use Rattle.tap_rule.proofs.Among.{among-either}
use Rattle.tap_safety.specs.AtRest.{AreMembers, system_at_rest}
use Rattle.tap_safety.specs.Move.{Move, may_move}
use Rattle.tap_safety.specs.Move.Move.{Begins, Delivers}
use Rattle.tap_safety.specs.Moved.{moved}
use Rattle.tap_safety.specs.Seeking.{HasNode}
use Rattle.tap_safety.specs.System.{System}
use Rattle.tap_safety_moves.specs.SoundMoves.{after_moves, may_run}
use Rattle.tap_safety_moves.specs.Sound.{Sound}
use Rattle.tap_safety_moves.proofs.Members.{sound_at_rest}
use Rattle.tap_safety_moves.proofs.SoundMoves.{move_keeps}
use Rattle.tap_safety_moves.proofs.Delivered.{is_delivery}
use Rattle.tap_bounds.specs.FewSent.{traffic_of}
use Rattle.tap_bounds.specs.Traffic.{Traffic, no_traffic, traffic_after}
use Rattle.tap_bounds.specs.OfJoins.{JoinsAlone, joiner_said}
use Rattle.tap_bounds.proofs.JoinsKept.{joiner_joins}
use Rattle.tap_bounds.proofs.Made.{IsMade, delivery_made, join_made}
use Rattle.tap_bounds_runs.specs.Joins.{joined_in}

-- ---- nodes, and joiners of frames

-- Each node is a member, or its join was started; and whose join a frame that was sent is of is a node.
pub record AreNamed (names : List (List ℕ)) (s : System) (r : Traffic) : Type 0 where
  pub nodes : (x : List ℕ) → HasNode s x → Among x names
  pub joiners : (f : Frame) (b : List ℕ) → IsAmong f r.sent → joiner_said f ≡ Some b → HasNode s b

module _ (p : SettingsValue) (s s' : System) (r r' : Traffic) (own : List ℕ) (acted : Acted) (frames : List Frame)
    (made : IsMade s s' r r' own acted frames) (sound : Sound p s') where
  node_kept : (x : List ℕ) → HasNode s x → HasNode s' x
  node_kept x has =
      elim (made.others x) [
        | inl same ↦ record { state = acted.state; is = ap s'.node same ∙ made.at }
        | inr stays ↦ record { state = has.state; is = stays ∙ has.is }
      ]

  node_was : (x : List ℕ) → HasNode s' x → (x ≡ own) ⊎ HasNode s x
  node_was x has =
      elim (made.others x) [
        | inl same ↦ inl same
        | inr stays ↦ inr (record { state = has.state; is = sym stays ∙ has.is })
      ]

  joiner_kept : (names : List (List ℕ)) → AreNamed names s r → (f : Frame) (b : List ℕ) → IsAmong f r'.sent → joiner_said f ≡ Some b
      → HasNode s' b
  joiner_kept names are f b among is =
      elim (among-either f r.sent acted.sent (subst (IsAmong f) made.sent among)) [
        | inl old ↦ node_kept b (are.joiners f b old is)
        | inr new ↦
            let (m, way) = made.new f new in
            let joining = joiner_joins p s' m f b sound way is in
            record { state = joining.state; is = joining.is }
      ]

  named_kept : (names more : List (List ℕ)) → ((x : List ℕ) → Among x names → Among x more) → Among own more → AreNamed names s r
      → AreNamed more s' r'
  named_kept names more grow there are = record {
    nodes = λ x has. elim (node_was x has) [
      | inl same ↦ subst (λ y. Among y more) (sym same) there
      | inr before ↦ grow x (are.nodes x before)
    ];
    joiners = joiner_kept names are;
  }

module _ (p : SettingsValue) (s : System) (r : Traffic) (sound : Sound p s) (names : List (List ℕ)) (are : AreNamed names s r) where
  join_named : (x via : List ℕ) → may_move p s (Begins x (Join via))
      → AreNamed (names ++ x ∷ []) (moved p s (Begins x (Join via))) (traffic_after p s r (Begins x (Join via)))
  join_named x via may =
      named_kept p s (moved p s (Begins x (Join via))) r (traffic_after p s r (Begins x (Join via))) x _ [] (join_made p s r x via)
      (move_keeps p s (Begins x (Join via)) may sound) names (names ++ x ∷ []) (λ y among. (among-append names (x ∷ []) y).1 (inl among))
      ((among-append names (x ∷ []) x).1 (inr (inl refl))) are

  delivery_named : (number : ℕ) → may_move p s (Delivers number)
      → AreNamed names (moved p s (Delivers number)) (traffic_after p s r (Delivers number))
  delivery_named number may =
      let frame = may.frame in
      let node = may.receiver.state in
      let is = is_delivery p s number frame node sound may.among may.receiver.is in
      named_kept p s (moved p s (Delivers number)) r (traffic_after p s r (Delivers number)) (name_of node) _ _
      (delivery_made p s r number node frame.from frame.body is) (move_keeps p s (Delivers number) may sound) names names
      (λ x among. among) (are.nodes (name_of node) (record { state = node; is = is.at })) are

-- ---- runs

run_from : (p : SettingsValue) (s : System) (r : Traffic) (names : List (List ℕ)) (moves : List Move) → Sound p s → AreNamed names s r
    → may_run p s moves → JoinsAlone moves → AreNamed (names ++ joined_in moves) (after_moves p s moves) (traffic_of p s r moves)
run_from p s r names [] sound are may alone = subst (λ l. AreNamed l s r) (sym (append-nil names)) are
run_from p s r names (Begins x (Join via) ∷ moves) sound are may alone =
    let move = Begins x (Join via) in
    subst (λ l. AreNamed l (after_moves p (moved p s move) moves) (traffic_of p (moved p s move) (traffic_after p s r move) moves))
    (append_assoc names (x ∷ []) (joined_in moves))
    (run_from p (moved p s move) (traffic_after p s r move) (names ++ x ∷ []) moves (move_keeps p s move may.0 sound)
    (join_named p s r sound names are x via may.0) may.1 alone.1)
run_from p s r names (Begins x other ∷ moves) sound are may alone = absurd alone.0
run_from p s r names (Delivers number ∷ moves) sound are may alone =
    let move = Delivers number in
    run_from p (moved p s move) (traffic_after p s r move) names moves (move_keeps p s move may.0 sound)
    (delivery_named p s r sound names are number may.0) may.1 alone.1

members_named : (p : SettingsValue) (members : List (List ℕ)) → AreNamed members (system_at_rest p members) no_traffic
members_named p members = record { nodes = λ x has. member x has (has_name members x) refl; joiners = λ f b among is. absurd among }
  where
    member : (x : List ℕ) → HasNode (system_at_rest p members) x → (there : Bool) → has_name members x ≡ there → Among x members
    member x has true there = (has_name-Decides members x).0 there
    member x has false there =
        let wrong : ◌≡◌ {A = Option NodeState} None (Some has.state) =
        sym (ap (λ b. if b then Some (member_at_rest p members x) else None) there) ∙ has.is in
        absurd (cc)

-- each node is a member or has joined, and so is each joiner of a frame
pub run_named : (p : SettingsValue) (members : List (List ℕ)) (moves : List Move) → AreMembers p members
    → may_run p (system_at_rest p members) moves → JoinsAlone moves
    → AreNamed (members ++ joined_in moves) (after_moves p (system_at_rest p members) moves)
    (traffic_of p (system_at_rest p members) no_traffic moves)
run_named p members moves are may alone =
    run_from p (system_at_rest p members) no_traffic members moves (sound_at_rest p members are) (members_named p members) may alone
