-- To whom a whole step of a node sends, with its Lays.
use Rattle.std.proofs.Common.{◌≡◌, ℕ, Bool, true, false, List, [], ◌∷◌, ◌++◌, map, All, Option, None, Some, ap, refl, sym, subst}
use Rattle.std.specs.Prelude.{IfSome}
use Rattle.std.specs.List.Sorted.{IsStrictlySortedBy}
use Rattle.std.specs.Map.{keys_of}
use Rattle.std.proofs.lemmas.List.Elements.{All-append, All-cons, All-head, All-map, All-nil, All-tail}
use Rattle.tap_name.specs.Name.{IsName}
use Rattle.tap_table.specs.Table.{TableValue}
use Rattle.tap_table.specs.declared.tie.Tie.{Tie}
use Rattle.tap_pointer.specs.declared.pair.Pair.{Pair}
use Rattle.tap_pointer.specs.declared.state.PairState.{PairState}
use Rattle.tap_pointer.specs.Pair.{pair_cmp}
use Rattle.tap_pointer.specs.Pointers.{IsPairState, IsPointers, PointersValue}
use Rattle.tap_pointer.specs.Reconcile.{reconciled, with_wanted}
use Rattle.tap_wire.specs.declared.frame.Frame.{Frame}
use Rattle.tap_wire.specs.Spelling.{IsFrame}
use Rattle.tap_rule.specs.Act.{act, carried_out, completed, follows, refuses}
use Rattle.tap_rule.specs.Event.{Acted, Start}
use Rattle.tap_rule.specs.Event.Event.{Starts, Takes}
use Rattle.tap_rule.specs.FrameRules.{rule_of_frame}
use Rattle.tap_rule.specs.KeptNode.{IsNode, IsStart, KeepsNode}
use Rattle.tap_rule.specs.Node.{IsRunning, NodeState, Status, name_of, settings_of}
use Rattle.tap_rule.specs.Node.Status.{Ceased, Core, Gone, Joining, Leaving}
use Rattle.tap_rule.specs.Pointers.{reconciles}
use Rattle.tap_rule.specs.Reaction.{Reaction}
use Rattle.tap_rule.specs.Sending.{by_receiver, frames_of, lay_frame, link_frame, message_frame}
use Rattle.tap_rule.specs.StartRules.{rule_of_start}
use Rattle.tap_rule.specs.Strange.{is_strange}
use Rattle.tap_rule.proofs.Among.{among-by_receiver_from}
use Rattle.tap_rule.proofs.KeptNode.{kept_law, start_kept_law}
use Rattle.tap_moves.proofs.Got.{all_among, among_all}
use Rattle.tap_moves.proofs.Receivers.{HaveParents, IsToLay, IsToWord, reconciled_to}
use Rattle.tap_moves.proofs.RulesSend.{AskedBy, CastParent, Goes, OpensFor, SendsTo, none_opens}

-- what holds of each pair once it is laid as wanted, and speaks of nothing that this changes, holds of it before
before_wanted : (t : TableValue) (P : Pair × PairState → Type 0) → ((e : Pair × PairState) → P (with_wanted t e) → P e)
    → (pairs : List (Pair × PairState)) → All P (map (with_wanted t) pairs) → All P pairs
before_wanted t P back [] all = All-nil P
before_wanted t P back (e ∷ pairs) all =
    All-cons P e pairs (back e (All-head P (with_wanted t e) (map (with_wanted t) pairs) all))
    (before_wanted t P back pairs (All-tail P (with_wanted t e) (map (with_wanted t) pairs) all))

same_keys : (t : TableValue) (pairs : List (Pair × PairState)) → keys_of (map (with_wanted t) pairs) ≡ keys_of pairs
same_keys t [] = refl
same_keys t (e ∷ pairs) = ap (λ keys. e.0 ∷ keys) (same_keys t pairs)

known_before : (t : TableValue) (pointers : PointersValue) → IsPointers (reconciled t pointers)
    → All (IsPairState pointers.owner) pointers.pairs
known_before t pointers are =
    before_wanted t (IsPairState pointers.owner)
    (λ e is. record { own = is.own; levels_from = is.levels_from; levels_to = is.levels_to }) pointers.pairs are.known

are_before : (t : TableValue) (pointers : PointersValue) → IsPointers (reconciled t pointers) → IsPointers pointers
are_before t pointers are = record {
  ascending = subst (IsStrictlySortedBy pair_cmp) (same_keys t pointers.pairs) are.ascending;
  known = known_before t pointers are;
}

-- what holds of these words holds of them by receiver
all_by_receiver : (P : Tie → Type 0) (words : List Tie) → All P words → All P (by_receiver words)
all_by_receiver P words all =
    all_among P (by_receiver words) (λ word among. among_all P words all word (among-by_receiver_from word words among))

module _ (P Q : List ℕ → Type 0) (node : NodeState) (is : IsNode node) where
  -- a frame goes from the node to such a node
  abbrev pub IsGoing : Frame → Type 0
  IsGoing f = (f.from ≡ name_of node) × P f.to × AskedBy P Q f.to f.body

  -- a step sends such frames alone, and its sessions are asked for by such nodes
  pub record StepSends (acted : Acted) : Type 0 where
    pub frames : All IsGoing acted.sent
    pub casts : HaveParents (CastParent P Q) acted.state.cast_sessions
    pub opens : OpensFor P Q node acted.state

  -- what of a rule goes where
  record GoesOut (r : Reaction) : Type 0 where
    words : All (IsToWord P) r.words
    messages : All (Goes P Q) r.messages
    lays : All (IsToLay P) r.lays
    casts : HaveParents (CastParent P Q) r.state.cast_sessions
    opens : OpensFor P Q node r.state

  as_said : (r : Reaction) → SendsTo P Q node r → GoesOut r
  as_said r sends =
      record { words = sends.words; messages = sends.messages; lays = sends.lays; casts = sends.casts; opens = sends.opens }

  frames_go : (r : Reaction) → GoesOut r → All IsGoing (frames_of (name_of node) r)
  frames_go r sends =
      All-append IsGoing (map (link_frame (name_of node)) (by_receiver r.words))
      (map (message_frame (name_of node)) r.messages ++ map (lay_frame (name_of node)) r.lays)
      (All-map IsGoing (link_frame (name_of node)) (by_receiver r.words) (λ k d inside.
      (refl, all_by_receiver (IsToWord P) r.words sends.words k d inside, tt)))
      (All-append IsGoing (map (message_frame (name_of node)) r.messages) (map (lay_frame (name_of node)) r.lays)
      (All-map IsGoing (message_frame (name_of node)) r.messages (λ k d inside.
      let one = sends.messages k d inside in (refl, one.0, one.1)))
      (All-map IsGoing (lay_frame (name_of node)) r.lays (λ k d inside. (refl, sends.lays k d inside, tt))))

  reconciles_go : (r : Reaction) → SendsTo P Q node r → IsRunning r.state.status
      → KeepsNode node (carried_out (name_of node) (reconciles r)).state → GoesOut (reconciles r)
  reconciles_go r sends runs kept =
      let t : TableValue = r.state.ties.table in
      let pointers = r.state.pointers in
      let names = before_wanted t (λ e. IsName t.settings e.0.object) (λ e name. name) pointers.pairs kept.node.objects in
      let are = are_before t pointers kept.node.pointers in
      record {
        words = sends.words;
        messages = sends.messages;
        lays =
            reconciled_to P t kept.node.ties.table sends.links pointers.owner r.state.stamp pointers are (sends.laid runs) names are.known;
        casts = sends.casts;
        opens = sends.opens;
      }

  completed_go : (r : Reaction) (status : Status) → r.state.status ≡ status → SendsTo P Q node r
      → KeepsNode node (carried_out (name_of node) (completed status r)).state → GoesOut (completed status r)
  completed_go r Joining at sends kept = reconciles_go r sends (subst IsRunning (sym at) tt) kept
  completed_go r Core at sends kept = reconciles_go r sends (subst IsRunning (sym at) tt) kept
  completed_go r Leaving at sends kept = reconciles_go r sends (subst IsRunning (sym at) tt) kept
  completed_go r Gone at sends kept = as_said r sends
  completed_go r Ceased at sends kept = as_said r sends

  module _ (casts : HaveParents (CastParent P Q) node.cast_sessions) where
    -- nothing is done
    idle : (acted : Acted) → acted.state ≡ node → acted.sent ≡ [] → StepSends acted
    idle acted state sent = record {
      frames = subst (All IsGoing) (sym sent) (All-nil IsGoing);
      casts = subst (λ (n : NodeState). HaveParents (CastParent P Q) n.cast_sessions) (sym state) casts;
      opens = subst (λ (n : NodeState). OpensFor P Q node n) (sym state) (none_opens P Q node node refl);
    }

    followed_go : (rule : Option Reaction) → IfSome rule (SendsTo P Q node) → KeepsNode node (follows node rule).state
        → StepSends (follows node rule)
    followed_go None sends kept = idle (follows node None) refl refl
    followed_go (Some r) sends kept =
        let all = completed_go r r.state.status refl sends kept in
        record { frames = frames_go (completed r.state.status r) all; casts = all.casts; opens = all.opens }

    pub taken_sends : (frame : Frame) → IsFrame (settings_of node) frame
        → (is_strange node frame ≡ false → IfSome (rule_of_frame node.status node frame.from frame.body) (SendsTo P Q node))
        → StepSends (act node (Takes frame))
    unfolding act
    taken_sends frame fields sends = by_strange (is_strange node frame) refl
      where
        by_strange : (strange : Bool) → is_strange node frame ≡ strange → StepSends (act node (Takes frame))
        by_strange true same = rw same (idle (refuses node) refl refl)
        by_strange false same =
            let kept : KeepsNode node (follows node (rule_of_frame node.status node frame.from frame.body)).state =
            rw same at (kept_law node frame is fields) in
            rw same (followed_go (rule_of_frame node.status node frame.from frame.body) (sends same) kept)

    pub started_sends : (start : Start) → IsStart (settings_of node) start
        → IfSome (rule_of_start node.status node start) (SendsTo P Q node) → StepSends (act node (Starts start))
    unfolding act
    started_sends start named sends =
        followed_go (rule_of_start node.status node start) sends (start_kept_law node start is named)
