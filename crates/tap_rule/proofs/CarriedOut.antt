-- A step goes as its rule says.
-- Cited above: frame_law, start_law, strange_law, unruled_law, unruled_start_law
use Rattle.std.proofs.Common.{◌≡◌, ℕ, List, map, ◌++◌, Bool, cond, true, false, arith, refl, inl, inr}
use Rattle.tap_wire.specs.declared.frame.Frame.{Frame}
use Rattle.tap_rule.specs.Node.{IsRunning, NodeState, Status, name_of}
use Rattle.tap_rule.specs.Node.Status.{Joining, Core, Leaving, Gone, Ceased}
use Rattle.tap_rule.specs.Reaction.{Reaction}
use Rattle.tap_rule.specs.Pointers.{reconciles}
use Rattle.tap_rule.specs.Sending.{by_receiver, frames_of, lay_frame, link_frame, message_frame}
use Rattle.tap_rule.specs.Strange.{is_strange}
use Rattle.tap_rule.specs.FrameRules.{rule_of_frame}
use Rattle.tap_rule.specs.Act.{act, carried_out, completed, follows, refuses}
use Rattle.tap_rule.specs.Sent.{AreSent, AreSentInOrder}
use Rattle.tap_rule.specs.RuleLaws.{FrameLaw, IsCarriedOut, IsIgnored, StartLaw, StrangeLaw, UnruledLaw, UnruledStartLaw}
use Rattle.tap_rule.proofs.ByReceiver.{by_receiver-ascending, by_receiver-permutation}
use Rattle.tap_rule.proofs.Among.{among-by_receiver, among-by_receiver_from, among-either, among-first, among-map, among-map_from, among-second}

-- the frames of a reaction are those of its words, of its messages, and of its Lays
pub are_sent : (from : List ℕ) (r : Reaction) → AreSent from r.words r.messages (frames_of from r)
are_sent from r =
    let links : List Frame = map (link_frame from) (by_receiver r.words) in
    let named : List Frame = map (message_frame from) r.messages in
    let lays : List Frame = map (lay_frame from) r.lays in
    let rest : List Frame = named ++ lays in
    record {
      each = λ frame among. elim (among-either frame links rest among) [
        | inl link ↦
            let found = among-map_from (link_frame from) frame (by_receiver r.words) link in
            inl (record { word = found.0; among = among-by_receiver_from found.0 r.words found.1; is = found.2 })
        | inr later ↦ elim (among-either frame named lays later) [
          | inl message ↦
              let found = among-map_from (message_frame from) frame r.messages message in
              inr (inl (record { message = found.0; among = found.1; is = found.2 }))
          | inr lay ↦
              let found = among-map_from (lay_frame from) frame r.lays lay in
              inr (inr (record { lay = found.0; is = found.2 }))
        ]
      ];
      links = λ word among. among-first (link_frame from word) links rest
          (among-map (link_frame from) word (by_receiver r.words) (among-by_receiver word r.words among));
      named = λ message among. among-second (message_frame from message) links rest
          (among-first (message_frame from message) named lays (among-map (message_frame from) message r.messages among));
    }

-- and they are in order
pub are_sent_in_order : (from : List ℕ) (r : Reaction) → AreSentInOrder from r.words r.messages r.lays (frames_of from r)
are_sent_in_order from r =
    record { all = refl; same = by_receiver-permutation r.words; ascending = by_receiver-ascending r.words }

-- a step that ends as its rule says, and one that ends with reconciling
as_it_says : (node : NodeState) (r : Reaction) → (IsRunning r.state.status → ⊥) → IsCarriedOut node r (carried_out (name_of node) r)
as_it_says node r ended = record {
  status = refl;
  ties = refl;
  stamp = omega arith;
  sessions = refl;
  covers = refl;
  greeted = refl;
  abandoned = refl;
  awaited = refl;
  casts = refl;
  cast_sessions = refl;
  cast_numbers = refl;
  sent = are_sent (name_of node) r;
  news = refl;
  taken = refl;
  running = λ runs. absurd (ended runs);
  ended = λ has. record { state = refl; sent = are_sent_in_order (name_of node) r };
}

reconciling : (node : NodeState) (r : Reaction) → IsRunning r.state.status
    → IsCarriedOut node r (carried_out (name_of node) (reconciles r))
reconciling node r runs = record {
  status = refl;
  ties = refl;
  stamp = omega arith;
  sessions = refl;
  covers = refl;
  greeted = refl;
  abandoned = refl;
  awaited = refl;
  casts = refl;
  cast_sessions = refl;
  cast_numbers = refl;
  sent = are_sent (name_of node) (reconciles r);
  news = refl;
  taken = refl;
  running = λ runs. record { pointers = refl; stamp = refl; sent = are_sent_in_order (name_of node) (reconciles r) };
  ended = λ has. absurd (has runs);
}

pub completing : (node : NodeState) (r : Reaction) (status : Status) → r.state.status ≡ status
    → IsCarriedOut node r (carried_out (name_of node) (completed status r))
completing node r Joining is = reconciling node r (rw is tt)
completing node r Core is = reconciling node r (rw is tt)
completing node r Leaving is = reconciling node r (rw is tt)
completing node r Gone is = as_it_says node r (λ runs. let no : ⊥ = rw is at runs in no)
completing node r Ceased is = as_it_says node r (λ runs. let no : ⊥ = rw is at runs in no)

pub strange_law : StrangeLaw
unfolding act
strange_law node frame strange = rw strange (record { state = refl; sent = refl; news = refl }, refl)

pub unruled_law : UnruledLaw
unfolding act
unruled_law node frame none = step (is_strange node frame)
  where
    step : (strange : Bool) → IsIgnored node
        (cond strange (refuses node) (follows node (rule_of_frame node.status node frame.from frame.body)))
    step true = record { state = refl; sent = refl; news = refl }
    step false = rw none (record { state = refl; sent = refl; news = refl })

pub unruled_start_law : UnruledStartLaw
unfolding act
unruled_start_law node start none = rw none (record { state = refl; sent = refl; news = refl })

pub frame_law : FrameLaw
unfolding act
frame_law node frame reaction taken rule = rw (taken, rule) (completing node reaction reaction.state.status refl)

pub start_law : StartLaw
unfolding act
start_law node start reaction rule = rw rule (completing node reaction reaction.state.status refl)
