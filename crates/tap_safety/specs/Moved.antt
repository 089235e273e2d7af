-- What a system is after a move: the node acts by its rule, the frame that it took is gone, and those that it sends are under way.
use Rattle.std.specs.Prelude.{◌≡◌, ◌⊎◌, ℕ, nat_eq, ◌+◌, ◌==◌, if◌then◌else◌, List, [], ◌∷◌, ◌++◌, length, Option, None, Some}
use Rattle.std.specs.Cmp.Lexicographic.{pointwise}
use Rattle.tap_name.specs.Settings.{SettingsValue}
use Rattle.tap_table.specs.Ties.{holders_on}
use Rattle.tap_wire.specs.declared.frame.Body.{Body}
use Rattle.tap_wire.specs.declared.frame.Body.TheVariants.{Link}
use Rattle.tap_wire.specs.declared.frame.Frame.{Frame}
use Rattle.tap_rule.specs.Node.{NodeState, joiner, link_to}
use Rattle.tap_rule.specs.Event.{Acted, Start}
use Rattle.tap_rule.specs.Event.Event.{Starts, Takes}
use Rattle.tap_rule.specs.Event.Start.{Join, Leave}
use Rattle.tap_rule.specs.Act.{act}
use Rattle.tap_safety.specs.Remembered.{Leaver, TieWord}
use Rattle.tap_safety.specs.System.{System}
use Rattle.tap_safety.specs.Exchanges.{ChangesAt, HasSent, IsTaken, numbered_from, with_at}
use Rattle.tap_safety.specs.Turned.{Taking, opened_by, sessions_with, surrogates_with}
use Rattle.tap_safety.specs.Move.{Move}
use Rattle.tap_safety.specs.Move.Move.{Begins, Delivers}

-- ---- frames

-- the frame of this number, if it is one of these
unfoldable pub numbered_frame : ℕ → List (ℕ × Frame) → Option Frame
numbered_frame number [] = None
numbered_frame number (f ∷ fs) = if f.0 == number then Some f.1 else numbered_frame number fs

-- these without that of this number
unfoldable pub without_frame : ℕ → List (ℕ × Frame) → List (ℕ × Frame)
without_frame number [] = []
without_frame number (f ∷ fs) = if f.0 == number then fs else f ∷ without_frame number fs

-- ---- words of links

-- the last word, once this is said
abbrev pub word_after : Body → Option TieWord → Option TieWord
word_after (Link version on) before = Some (record { version = version; on = on })
word_after other before = before

-- the last word to a name, once these frames are sent
unfoldable pub last_after : List Frame → List ℕ → Option TieWord → Option TieWord
last_after [] t before = before
last_after (frame ∷ frames) t before =
    last_after frames t (if pointwise nat_eq t frame.to then word_after frame.body before else before)

-- the last words, once a name has sent these frames
abbrev pub words_with : (List ℕ → List ℕ → Option TieWord) → List ℕ → List Frame → List ℕ → List ℕ → Option TieWord
words_with last x sent = with_at last x (λ t. last_after sent t (last x t))

-- ---- moves

-- the system once a node has done this: the node is in its new state, and what it sends is under way
abbrev pub with_acted : System → List ℕ → Acted → System
with_acted s x acted = record s {
  node = with_at s.node x (Some acted.state);
  frames = s.frames ++ numbered_from s.next acted.sent;
  next = s.next + length acted.sent;
  last = words_with s.last x acted.sent;
}

-- who departs does so until no frame is under way
abbrev pub departing_with : List (ℕ × Frame) → Option Leaver → Option Leaver
departing_with [] departing = None
departing_with (f ∷ fs) departing = departing

abbrev pub until_rest : System → System
until_rest s = record s { departing = departing_with s.frames s.departing }

-- the node that starts something: one that joins is new
abbrev pub starter : SettingsValue → System → List ℕ → Start → Option NodeState
starter p s x (Join via) = Some (joiner p x)
starter p s x other = s.node x

-- who departs, once a node has started this
abbrev pub departing_by : NodeState → List ℕ → Start → Option Leaver → Option Leaver
departing_by node x Leave departing =
    Some (record { name = x; links = λ t. link_to node t; holders = holders_on node.ties })
departing_by node x other departing = departing

-- the system once a node has started this, if there is such a node
abbrev pub with_begun : System → List ℕ → Start → Option NodeState → System
with_begun s x start None = s
with_begun s x start (Some node) =
    until_rest (record (with_acted s x (act node (Starts start))) { departing = departing_by node x start s.departing })

-- the taking of a frame, and what is then remembered of sessions and surrogates
abbrev pub taking : System → ℕ → Frame → NodeState → Acted → Taking
taking s number frame node acted = record {
  number = number;
  frame = frame;
  before = node;
  after = acted.state;
  sent = numbered_from s.next acted.sent;
}

abbrev pub with_joins : System → Taking → System
with_joins s t = record s {
  surrogate = surrogates_with s.surrogate t.frame.to (opened_by t);
  session = sessions_with s.session t;
}

-- the frame of this number is no longer under way
abbrev pub without_number : System → ℕ → System
without_number s number = record s { frames = without_frame number s.frames }

-- the system once a node has taken the frame of this number
abbrev pub with_taken : System → ℕ → Frame → NodeState → Acted → System
with_taken s number frame node acted =
    until_rest (with_joins (with_acted (without_number s number) frame.to acted) (taking s number frame node acted))

-- a frame whose receiver is no node goes, and does nothing: a move is for one whose receiver is a node
abbrev pub received : System → ℕ → Frame → Option NodeState → System
received s number frame None = until_rest (without_number s number)
received s number frame (Some node) = with_taken s number frame node (act node (Takes frame))

abbrev pub delivered : System → ℕ → Option Frame → System
delivered s number None = s
delivered s number (Some frame) = received s number frame (s.node frame.to)

-- the system after a move
unfoldable pub moved : SettingsValue → System → Move → System
moved p s (Begins x start) = with_begun s x start (starter p s x start)
moved p s (Delivers number) = delivered s number (numbered_frame number s.frames)

-- x is left so and has sent these: no other node and no other's words change
pub record HasDone (s s' : System) (x : List ℕ) (after : NodeState) (sent : List Frame) : Type 0 where
  pub is : s'.node x ≡ Some after
  pub others : (y : List ℕ) → (y ≡ x) ⊎ (s'.node y ≡ s.node y)
  pub words : (t : List ℕ) → s'.last x t ≡ last_after sent t (s.last x t)
  pub others_words : (y t : List ℕ) → (y ≡ x) ⊎ (s'.last y t ≡ s.last y t)

-- the frame of this number is taken by its receiver, which then is so and sends these
pub record IsDelivered (p : SettingsValue) (s : System) (number : ℕ) (frame : Frame) (node : NodeState) : Type 0 where
  pub taken : IsTaken s (moved p s (Delivers number)) number frame (act node (Takes frame)).sent
  pub at : ChangesAt s (moved p s (Delivers number)) frame.to node (act node (Takes frame)).state
  pub done : HasDone s (moved p s (Delivers number)) frame.to (act node (Takes frame)).state (act node (Takes frame)).sent

-- the frame of this number is taken by nobody: nothing is sent, and nothing else changes
pub record IsLost (p : SettingsValue) (s : System) (number : ℕ) (frame : Frame) : Type 0 where
  pub taken : IsTaken s (moved p s (Delivers number)) number frame []
  pub node : (x : List ℕ) → (moved p s (Delivers number)).node x ≡ s.node x
  pub words : (x t : List ℕ) → (moved p s (Delivers number)).last x t ≡ s.last x t
  pub surrogate : (b : List ℕ) → (moved p s (Delivers number)).surrogate b ≡ s.surrogate b
  pub session : (x : List ℕ) (k : ℕ) → (moved p s (Delivers number)).session x k ≡ s.session x k

-- x starts something, which it then is so for and sends these
pub record IsStarted (p : SettingsValue) (s : System) (x : List ℕ) (start : Start) (node : NodeState) : Type 0 where
  pub sent : HasSent s (moved p s (Begins x start)) (act node (Starts start)).sent
  pub done : HasDone s (moved p s (Begins x start)) x (act node (Starts start)).state (act node (Starts start)).sent
  pub surrogate : (b : List ℕ) → (moved p s (Begins x start)).surrogate b ≡ s.surrogate b
  pub session : (y : List ℕ) (k : ℕ) → (moved p s (Begins x start)).session y k ≡ s.session y k
