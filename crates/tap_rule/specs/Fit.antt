-- What is known of a frame that isn't strange to a node.
use Rattle.std.specs.Prelude.{◌≡◌, ◌≢◌, ◌⊎◌, ℕ, ◌≤◌, List, length, map, None, Some}
use Rattle.tap_name.specs.Names.{Among, AreDistinct}
use Rattle.tap_name.specs.Prefix.{lcp}
use Rattle.tap_link.specs.declared.kind.Kind.TheVariants.{Pin, Leaving}
use Rattle.tap_wire.specs.declared.frame.Frame.{Frame}
use Rattle.tap_wire.specs.declared.frame.Body.{Body}
use Rattle.tap_wire.specs.declared.frame.Body.TheVariants.{Seek, Tell, Hello, Leave, Cast}
use Rattle.tap_rule.specs.Node.{NodeState, level_of, link_to, name_of}
use Rattle.tap_rule.specs.Strange.{most_depth, most_links_kept}

-- a Seek: its joiner is another node, which this one neither covers nor links to as leaving
pub record IsFitSeek (node : NodeState) (joiner : List ℕ) : Type 0 where
  pub apart : joiner ≢ name_of node
  pub uncovered : level_of node joiner ≡ None
  pub staying : link_to node joiner ≢ Some Leaving

-- a Tell: its joiner is another node, which this one pins if it has a link to it; its prefix is of digits that the two share; and
-- its depth is below the greatest
pub record IsFitTell (node : NodeState) (joiner : List ℕ) (prefix deep : ℕ) : Type 0 where
  pub apart : joiner ≢ name_of node
  pub pin : (link_to node joiner ≡ None) ⊎ (link_to node joiner ≡ Some Pin)
  pub shared : prefix ≤ lcp (name_of node) joiner
  pub depth : deep ≢ most_depth

-- by what it says
abbrev pub IsFitBody : NodeState → Body → Type 0
IsFitBody node (Seek joiner) = IsFitSeek node joiner
IsFitBody node (Tell joiner prefix level session depth watch) = IsFitTell node joiner prefix depth
IsFitBody node (Cast cast level session depth word) = depth ≢ most_depth
IsFitBody node _ = Unit {0}

-- a frame from a node could link a name: the joiner of a Seek or Tell, the sender of a Hello and its links, a Leave's replacement
abbrev pub CouldLink : List ℕ → Body → List ℕ → Type 0
CouldLink from (Seek joiner) name = name ≡ joiner
CouldLink from (Tell joiner prefix level session depth watch) name = name ≡ joiner
CouldLink from (Hello session core links) name = (name ≡ from) ⊎ Among name (map (λ link. link.name) links)
CouldLink from (Leave replacement) name = replacement ≡ Some name
CouldLink from _ name = ⊥

-- the node links to another node, or the frame could have it do so
pub record MayLink (node : NodeState) (frame : Frame) (name : List ℕ) : Type 0 where
  pub apart : name ≢ name_of node
  pub linked : (link_to node name ≢ None) ⊎ CouldLink frame.from frame.body name

-- it is from another node, what it says is fit, and the nodes that this one would link to are as many as it may at most
pub record IsFit (node : NodeState) (frame : Frame) : Type 0 where
  pub from : frame.from ≢ name_of node
  pub body : IsFitBody node frame.body
  pub few : (names : List (List ℕ)) → AreDistinct names → ((name : List ℕ) → Among name names → MayLink node frame name)
      → length names ≤ most_links_kept
