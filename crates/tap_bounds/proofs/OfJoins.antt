-- What is sent in runs in which nothing but joins is started: each move keeps it, so it holds at each moment of such a run.
-- Cited above: run_sent_are_of_joins
use Rattle.std.proofs.Common.{◌≡◌, ℕ, false, true, List, [], ◌∷◌, Option, None, Some, refl, subst, inl, inr, Bool}
use Rattle.std.specs.Prelude.{IfSome}
use Rattle.std.proofs.lemmas.List.Elements.{All-cons, All-nil}
use Rattle.tap_name.specs.Names.{has_name}
use Rattle.tap_name.specs.Settings.{SettingsValue}
use Rattle.tap_wire.specs.declared.frame.Body.TheVariants.{Seek}
use Rattle.tap_wire.specs.declared.frame.Frame.{Frame}
use Rattle.tap_rule.specs.Act.{act}
use Rattle.tap_rule.specs.Event.{Start}
use Rattle.tap_rule.specs.Event.Event.{Starts, Takes}
use Rattle.tap_rule.specs.Event.Start.{Join}
use Rattle.tap_rule.specs.FrameRules.{rule_of_frame}
use Rattle.tap_rule.specs.Joining.{starts_join}
use Rattle.tap_rule.specs.RuleLaws.{IsCarriedOut, frame_to}
use Rattle.tap_rule.specs.Node.{NodeState, joiner, member_at_rest, name_of}
use Rattle.tap_rule.specs.Reaction.{Reaction, message}
use Rattle.tap_rule.specs.Strange.{is_strange}
use Rattle.tap_rule.proofs.CarriedOut.{frame_law, start_law, unruled_law}
use Rattle.tap_safety.specs.AtRest.{AreMembers, system_at_rest}
use Rattle.tap_safety.specs.Move.{MayJoin, Move, may_move}
use Rattle.tap_safety.specs.Move.Move.{Begins, Delivers}
use Rattle.tap_safety.specs.Moved.{moved}
use Rattle.tap_safety.specs.System.{System, AmongFrames}
use Rattle.tap_safety.proofs.Said.{said_of}
use Rattle.tap_moves.specs.ByRule.{taken_at}
use Rattle.tap_safety_moves.specs.SoundMoves.{after_moves, may_run}
use Rattle.tap_safety_moves.specs.Sound.{Sound}
use Rattle.tap_safety_moves.proofs.Members.{sound_at_rest}
use Rattle.tap_safety_moves.proofs.SoundMoves.{move_keeps}
use Rattle.tap_safety_moves.proofs.Delivered.{is_delivery}
use Rattle.tap_bounds.specs.FewSent.{traffic_of}
use Rattle.tap_bounds.specs.Traffic.{Traffic, no_traffic, traffic_after}
use Rattle.tap_bounds.specs.OfJoins.{IsJoinBody, IsOfJoin, JoinsAlone, RunSentAreOfJoins}
use Rattle.tap_bounds.proofs.JoinRules.{IsJoinMessage, IsJoinStep, IsPlainNode, IsUnreleasing, rule_joins}
use Rattle.tap_bounds.proofs.JoinsKept.{ActsInJoin, AreOfJoins, are_of_joins, carried_acts, ignored_acts, joins_kept, of_frame}
use Rattle.tap_bounds.proofs.Made.{delivery_made, join_made}

-- ---- what a node does

pub frame_acts : (node : NodeState) (frame : Frame) → is_strange node frame ≡ false → IsPlainNode node → IsJoinBody frame.body
    → ActsInJoin node (act node (Takes frame))
frame_acts node frame fits is of =
    by (rule_of_frame node.status node frame.from frame.body) refl (rule_joins node is frame.from frame.body of)
  where
    by : (rule : Option Reaction) → rule_of_frame node.status node frame.from frame.body ≡ rule → IfSome rule (IsJoinStep node frame.body)
        → ActsInJoin node (act node (Takes frame))
    by None none step = ignored_acts node (act node (Takes frame)) (unruled_law node frame none) is
    by (Some r) some step = carried_acts node r (act node (Takes frame)) (frame_law node frame r fits some) frame.body step

-- a node that starts to join sends a Seek
module _ (p : SettingsValue) (x via : List ℕ) where
  abbrev pub begins : Reaction
  begins = starts_join (joiner p x) via

  pub begins_so : IsCarriedOut (joiner p x) begins (act (joiner p x) (Starts (Join via)))
  begins_so = start_law (joiner p x) (Join via) begins refl

  pub begins_in_join : IsJoinStep (joiner p x) (Seek x) begins
  begins_in_join = record {
    messages = All-cons (λ m. IsJoinMessage m.body) (message via (Seek x)) [] tt (All-nil (λ m. IsJoinMessage m.body));
    unreleasing = inl (All-cons (λ m. IsUnreleasing m.body) (message via (Seek x)) [] tt (All-nil (λ m. IsUnreleasing m.body)));
    state = record { status = tt; goes_on = refl; pairs = refl };
    core = λ at. at;
  }

-- ---- moves

module _ (p : SettingsValue) (members : List (List ℕ)) (s : System) (r : Traffic) (sound : Sound p s) (are : AreOfJoins members s r) where
  delivery_keeps : (number : ℕ) (frame : Frame) (node : NodeState) → AmongFrames number frame s.frames → s.node frame.to ≡ Some node
      → Sound p (moved p s (Delivers number))
      → AreOfJoins members (moved p s (Delivers number)) (traffic_after p s r (Delivers number))
  delivery_keeps number frame node among at after =
      let is = is_delivery p s number frame node sound among at in
      let acts = frame_acts node (frame_to node frame.from frame.body) is.known (are.nodes frame.to node at)
      (of_frame (said_of frame.body) (are.ways number frame among)) in
      joins_kept p members s (moved p s (Delivers number)) r (traffic_after p s r (Delivers number)) node (name_of node)
      (taken_at node frame.from frame.body) _ (delivery_made p s r number node frame.from frame.body is) (inl is.at) acts after are

  join_keeps : (x via : List ℕ) → MayJoin p s x via → Sound p (moved p s (Begins x (Join via)))
      → AreOfJoins members (moved p s (Begins x (Join via))) (traffic_after p s r (Begins x (Join via)))
  join_keeps x via may after =
      joins_kept p members s (moved p s (Begins x (Join via))) r (traffic_after p s r (Begins x (Join via))) (joiner p x) x
      (act (joiner p x) (Starts (Join via))) [] (join_made p s r x via) (inr may.fresh)
      (carried_acts (joiner p x) (begins p x via) (act (joiner p x) (Starts (Join via))) (begins_so p x via) (Seek x)
      (begins_in_join p x via))
      after are

  start_keeps : (x : List ℕ) (start : Start) → may_move p s (Begins x start) → IsOfJoin (Begins x start)
      → Sound p (moved p s (Begins x start)) → AreOfJoins members (moved p s (Begins x start)) (traffic_after p s r (Begins x start))
  start_keeps x (Join via) may of after = join_keeps x via may after
  start_keeps x _ may of after = absurd of

  pub move_of_joins : (move : Move) → may_move p s move → IsOfJoin move
      → AreOfJoins members (moved p s move) (traffic_after p s r move)
  move_of_joins (Begins x start) may of = start_keeps x start may of (move_keeps p s (Begins x start) may sound)
  move_of_joins (Delivers number) may of =
      delivery_keeps number may.frame may.receiver.state may.among may.receiver.is (move_keeps p s (Delivers number) may sound)

-- ---- runs

pub of_joins_at_rest : (p : SettingsValue) (members : List (List ℕ)) → AreMembers p members
    → AreOfJoins members (system_at_rest p members) no_traffic
of_joins_at_rest p members are = record {
  nodes = λ x node is. plain x node is (has_name members x) refl;
  core = λ x has. record { state = member_at_rest p members x; is = rw has refl; core = refl };
  ways = λ m f among. absurd among;
  sent = λ f among. absurd among;
  joiners = λ f b among is. absurd among;
  ends = λ f among. absurd among;
}
  where
    plain : (x : List ℕ) (node : NodeState) → (system_at_rest p members).node x ≡ Some node → (has : Bool)
        → has_name members x ≡ has → IsPlainNode node
    plain x node is true has =
        let now : Some (member_at_rest p members x) ≡ Some node = rw has at is in
        let same : member_at_rest p members x ≡ node = cc in
        subst IsPlainNode same (record { status = tt; goes_on = refl; pairs = refl })
    plain x node is false has = let wrong : ◌≡◌ {A = Option NodeState} None (Some node) = rw has at is in absurd (cc)

run_from : (p : SettingsValue) (members : List (List ℕ)) (s : System) (r : Traffic) (moves : List Move) → Sound p s
    → AreOfJoins members s r → may_run p s moves → JoinsAlone moves → AreOfJoins members (after_moves p s moves) (traffic_of p s r moves)
run_from p members s r [] sound are may alone = are
run_from p members s r (move ∷ moves) sound are may alone =
    run_from p members (moved p s move) (traffic_after p s r move) moves (move_keeps p s move may.0 sound)
    (move_of_joins p members s r sound are move may.0 alone.0) may.1 alone.1

pub run_sent_are_of_joins : RunSentAreOfJoins
run_sent_are_of_joins p members moves are may alone =
    are_of_joins members (after_moves p (system_at_rest p members) moves) (traffic_of p (system_at_rest p members) no_traffic moves)
    (run_from p members (system_at_rest p members) no_traffic moves (sound_at_rest p members are) (of_joins_at_rest p members are) may
    alone)
