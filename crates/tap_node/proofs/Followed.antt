-- What follows a rule is what the node does at the event.
use Rattle.std.proofs.Common.{◌≡◌, ℕ, List, [], ◌++◌, map, Option, None, Some, false, refl, ap, ◌∙◌}
use Rattle.std.proofs.lemmas.List.{map-append}
use Rattle.tap_wire.specs.declared.frame.Frame.{Frame}
use Rattle.tap_wire.specs.Spelling.{spelling}
use Rattle.tap_rule.specs.Node.{NodeState, name_of, settings_of}
use Rattle.tap_rule.specs.Event.{Acted, Start}
use Rattle.tap_rule.specs.Event.Event.{Starts, Takes}
use Rattle.tap_rule.specs.Reaction.{Reaction}
use Rattle.tap_rule.specs.Strange.{is_strange}
use Rattle.tap_rule.specs.FrameRules.{rule_of_frame}
use Rattle.tap_rule.specs.StartRules.{rule_of_start}
use Rattle.tap_rule.specs.Sending.{by_receiver, frames_of, lay_frame, link_frame, message_frame}
use Rattle.tap_rule.specs.Act.{act, completed, follows}
use Rattle.tap_node_common.specs.Spellings.{spelled}
use Rattle.tap_node_common.specs.declared.news.News.{News}
use Rattle.tap_node.specs.declared.turn.Turn.{Turn}
use Rattle.tap_node.specs.Outcome.{turn_made}
use Rattle.tap_node_common.specs.StepsAs.{FollowsAs, frames_of_reaction}

-- the frames of a reaction as bytes
spelled_frames : (node : NodeState) (r : Reaction) → spelled (settings_of node) (frames_of (name_of node) r) ≡ frames_of_reaction node r
spelled_frames node r =
    let p = settings_of node in
    let links : List Frame = map (link_frame (name_of node)) (by_receiver r.words) in
    let named : List Frame = map (message_frame (name_of node)) r.messages in
    let lays : List Frame = map (lay_frame (name_of node)) r.lays in
    map-append (spelling p) links (named ++ lays) ∙ ap (λ rest. spelled p links ++ rest) (map-append (spelling p) named lays)

abbrev pub turn_with : List (List ℕ) → News → Turn
turn_with sent news = record { sent = sent; news = news }

-- a step gives these frames and this news, and leaves the node so
pub record IsActed (node : NodeState) (acted : Acted) (after : NodeState) (sent : List (List ℕ)) (news : News) : Type 0 where
  pub state : after ≡ acted.state
  pub turn : turn_with sent news ≡ turn_made node acted

module _ (node after : NodeState) (sent : List (List ℕ)) (news : News) where
  followed : (rule : Option Reaction) → FollowsAs node rule after [] sent news → IsActed node (follows node rule) after sent news
  followed None stays = record { state = stays.state; turn = rw (stays.frames, stays.noted) refl }
  followed (Some r) steps =
      let done = completed r.state.status r in
      record { state = steps.state; turn = rw (steps.frames, steps.noted, spelled_frames node done) refl }

  pub followed_frame : (frame : Frame) → is_strange node frame ≡ false
      → FollowsAs node (rule_of_frame node.status node frame.from frame.body) after [] sent news
      → IsActed node (act node (Takes frame)) after sent news
  unfolding act
  followed_frame frame taken follows_as = rw taken (followed (rule_of_frame node.status node frame.from frame.body) follows_as)

  pub followed_start : (begun : Start) → FollowsAs node (rule_of_start node.status node begun) after [] sent news
      → IsActed node (act node (Starts begun)) after sent news
  unfolding act
  followed_start begun follows_as = followed (rule_of_start node.status node begun) follows_as
