-- Each node of a system speaks of names, and each frame under way has a spelling that is read back; and so it stays with each move.
use Rattle.std.proofs.Common.{◌≡◌, ◌⊎◌, inl, inr, ℕ, ◌+◌, ◌<◌, ◌^◌, List, [], ◌∷◌, ◌++◌, length, All, Option, None, Some, refl, ap, sym, subst, ◌∙◌, arith}
use Rattle.std.proofs.lemmas.List.Elements.{All-append, All-cons, All-head, All-nil, All-tail}
use Rattle.tap_name.specs.Name.{IsName}
use Rattle.tap_name.specs.Settings.{AreWithinLimits, SettingsValue}
use Rattle.tap_wire.specs.declared.frame.Frame.{Frame}
use Rattle.tap_wire.specs.Spelling.{IsFrame, IsTyped}
use Rattle.tap_rule.specs.Act.{act}
use Rattle.tap_rule.specs.Event.{Acted, Start}
use Rattle.tap_rule.specs.Event.Event.{Starts, Takes}
use Rattle.tap_rule.specs.Event.Start.{Abandon, Cast, Find, Join, Leave, Publish, Withdraw}
use Rattle.tap_rule.specs.KeptNode.{IsNode, KeepsNode}
use Rattle.tap_rule.specs.Node.{NodeState, joiner, name_of, settings_of}
use Rattle.tap_rule.proofs.KeptNode.{joiner_law, kept_law}
use Rattle.tap_safety.specs.Move.Move.{Begins, Delivers}
use Rattle.tap_safety.specs.Moved.{moved, numbered_frame, starter}
use Rattle.tap_safety.specs.Exchanges.{IsTaken, numbered_from}
use Rattle.tap_safety.specs.System.{System}
use Rattle.tap_safety.proofs.Moved.{delivers, lost, starts}
use Rattle.tap_moves.specs.KnownNames.{IsNamedPair, IsNamedStart, IsParent, KnowsNames}
use Rattle.tap_moves.proofs.FewLinks.{none_linked}
use Rattle.tap_moves.proofs.SpelledRules.{SaysNames}
use Rattle.tap_readable.proofs.Typed.{IsTypedParent, KnowsTyped}
use Rattle.tap_readable.proofs.TypedRules.{IsTypedStart}
use Rattle.tap_readable.proofs.ReadableActs.{IsReadableStep, start_keeps, started_readable, taken_readable}

-- ---- nodes and frames

-- a node that stands under its name, with these settings, and speaks of names
pub record IsReadableNode (p : SettingsValue) (x : List ℕ) (node : NodeState) : Type 0 where
  pub is_node : IsNode node
  pub name : name_of node ≡ x
  pub settings : settings_of node ≡ p
  pub names : KnowsNames p node
  pub typed : KnowsTyped node

-- a frame that has a spelling, and whose fields hold what they say
pub record IsReadableFrame (p : SettingsValue) (f : Frame) : Type 0 where
  pub spelled : IsFrame p f
  pub typed : IsTyped f.body

-- each node of the system, and each frame under way
abbrev pub Reads : SettingsValue → ℕ × Frame → Type 0
Reads p f = IsReadableFrame p f.1

pub record IsReadable (p : SettingsValue) (s : System) : Type 0 where
  pub nodes : (x : List ℕ) (node : NodeState) → s.node x ≡ Some node → IsReadableNode p x node
  pub frames : All (Reads p) s.frames

-- what a start brings: names, and numbers that fit
abbrev pub BringsNames : SettingsValue → Start → Type 0
BringsNames p (Join via) = IsName p via
BringsNames p start = IsNamedStart p start

-- a node has numbers left for what it does
pub record HasRoomFor (node : NodeState) (acted : Acted) : Type 0 where
  pub sessions : node.sessions.opened + 1 < 2 ^ 32
  pub cast_sessions : node.cast_sessions.opened + 1 < 2 ^ 32
  pub stamp : node.stamp + length acted.sent < 2 ^ 32

-- ---- one step

module _ (p : SettingsValue) (x : List ℕ) (node : NodeState) (is : IsReadableNode p x node) where
  -- the node speaks of names of its own settings
  has_names : KnowsNames (settings_of node) node
  has_names = subst (λ q. KnowsNames q node) (sym is.settings) is.names

  -- what it leaves and sends
  record StepReads (acted : Acted) : Type 0 where
    node_reads : IsReadableNode p x acted.state
    sent_read : All (IsReadableFrame p) acted.sent

  module _ (acted : Acted) (kept : KeepsNode node acted.state) (room : HasRoomFor node acted) where
    reads_by : IsReadableStep node is.is_node has_names is.typed room.sessions room.cast_sessions acted → StepReads acted
    reads_by step =
        let frames = subst (λ q. All (IsFrame q) acted.sent) is.settings step.frames in
        let typed = step.fits room.stamp in
        record {
          node_reads = record {
            is_node = kept.node;
            name = kept.name ∙ is.name;
            settings = kept.settings ∙ is.settings;
            names = subst (λ q. KnowsNames q acted.state) is.settings step.names;
            typed = step.typed;
          };
          sent_read = λ k d within. record { spelled = frames k d within; typed = typed k d within };
        }

  -- a frame that it takes
  step_taken : (frame : Frame) → IsReadableFrame p frame → HasRoomFor node (act node (Takes frame)) → StepReads (act node (Takes frame))
  step_taken frame reads room =
      let keeps = subst (λ q. IsFrame q frame) (sym is.settings) reads.spelled in
      reads_by (act node (Takes frame)) (kept_law node frame is.is_node keeps) room
      (taken_readable node is.is_node has_names is.typed room.sessions room.cast_sessions frame keeps reads.typed)

  -- something that it starts
  says : (start : Start) → BringsNames p start → SaysNames node is.is_node has_names start
  says (Join via) named = subst (λ q. IsName q via) (sym is.settings) named
  says Abandon named = tt
  says (Publish object) named = subst (λ q. IsName q object) (sym is.settings) named
  says (Withdraw object) named = tt
  says (Find ticket object) named = subst (λ q. IsName q object) (sym is.settings) named
  says Leave named = tt
  says (Cast cast level word) named = named

  step_started : (start : Start) → BringsNames p start → IsTypedStart start → HasRoomFor node (act node (Starts start))
      → StepReads (act node (Starts start))
  step_started start named typed room =
      let names = says start named in
      reads_by (act node (Starts start))
      (start_keeps node is.is_node has_names is.typed room.sessions room.cast_sessions start names) room
      (started_readable node is.is_node has_names is.typed room.sessions room.cast_sessions start names typed)

-- ---- a system

-- frames that are sent are numbered
sent_reads : (p : SettingsValue) (number : ℕ) (frames : List Frame) → All (IsReadableFrame p) frames → All (Reads p) (numbered_from number frames)
sent_reads p number [] all = All-nil (Reads p)
sent_reads p number (frame ∷ frames) all =
    All-cons (Reads p) (number, frame) (numbered_from (number + 1) frames) (All-head (IsReadableFrame p) frame frames all)
    (sent_reads p (number + 1) frames (All-tail (IsReadableFrame p) frame frames all))

-- what holds of a list holds of its parts
module _ {X : Type 0} (P : X → Type 0) where
  pub All-before : (xs ys : List X) → All P (xs ++ ys) → All P xs
  All-before [] ys all = All-nil P
  All-before (x ∷ xs) ys all = All-cons P x xs (All-head P x (xs ++ ys) all) (All-before xs ys (All-tail P x (xs ++ ys) all))

  pub All-after : (xs ys : List X) → All P (xs ++ ys) → All P ys
  All-after [] ys all = all
  All-after (x ∷ xs) ys all = All-after xs ys (All-tail P x (xs ++ ys) all)

module _ (p : SettingsValue) (s : System) (reads : IsReadable p s) where
  -- one node changes
  nodes_after : (s' : System) (x : List ℕ) (after : NodeState) → s'.node x ≡ Some after
      → ((y : List ℕ) → (y ≡ x) ⊎ (s'.node y ≡ s.node y)) → IsReadableNode p x after
      → (y : List ℕ) (node : NodeState) → s'.node y ≡ Some node → IsReadableNode p y node
  nodes_after s' x after at others here y node is = elim (others y) [
    | inl same ↦
        let now : s'.node x ≡ Some node = ap s'.node (sym same) ∙ is in
        let one : after ≡ node = cc in
        subst (λ n. IsReadableNode p y n) one (subst (λ z. IsReadableNode p z after) (sym same) here)
    | inr other ↦ reads.nodes y node (sym other ∙ is)
  ]

  -- a frame is taken, and others are sent
  module _ (s' : System) (number : ℕ) (frame : Frame) (sent : List Frame) (taken : IsTaken s s' number frame sent) where
    all_before : All (Reads p) (taken.front ++ (number, frame) ∷ taken.back)
    all_before = subst (All (Reads p)) taken.before reads.frames

    rest_before : All (Reads p) ((number, frame) ∷ taken.back)
    rest_before = All-after (Reads p) taken.front ((number, frame) ∷ taken.back) all_before

    one_reads : IsReadableFrame p frame
    one_reads = All-head (Reads p) (number, frame) taken.back rest_before

    frames_after : All (IsReadableFrame p) sent → All (Reads p) s'.frames
    frames_after all =
        subst (All (Reads p)) (sym taken.after)
        (All-append (Reads p) taken.front (taken.back ++ numbered_from s.next sent)
        (All-before (Reads p) taken.front ((number, frame) ∷ taken.back) all_before)
        (All-append (Reads p) taken.back (numbered_from s.next sent) (All-tail (Reads p) (number, frame) taken.back rest_before)
        (sent_reads p s.next sent all)))

  -- ---- a frame is taken

  module _ (number : ℕ) where
    -- which a node has room for
    abbrev pub RoomToTake : Type 0
    RoomToTake = (frame : Frame) (node : NodeState) → numbered_frame number s.frames ≡ Some frame → s.node frame.to ≡ Some node
        → HasRoomFor node (act node (Takes frame))

    nothing_taken : numbered_frame number s.frames ≡ None → moved p s (Delivers number) ≡ s
    unfolding moved
    nothing_taken none = rw none refl

    heard_reads : (frame : Frame) (node : NodeState) → numbered_frame number s.frames ≡ Some frame → s.node frame.to ≡ Some node
        → HasRoomFor node (act node (Takes frame)) → IsReadable p (moved p s (Delivers number))
    heard_reads frame node found at room =
        let s' = moved p s (Delivers number) in
        let acted = act node (Takes frame) in
        let did = delivers p s number frame node found at in
        let step = step_taken p frame.to node (reads.nodes frame.to node at) frame (one_reads s' number frame acted.sent did.taken) room in
        record {
          nodes = nodes_after s' frame.to acted.state did.at.is did.at.others step.node_reads;
          frames = frames_after s' number frame acted.sent did.taken step.sent_read;
        }

    lost_reads : (frame : Frame) → numbered_frame number s.frames ≡ Some frame → s.node frame.to ≡ None
        → IsReadable p (moved p s (Delivers number))
    lost_reads frame found nobody =
        let s' = moved p s (Delivers number) in
        let gone = lost p s number frame found nobody in
        record {
          nodes = λ x node is. reads.nodes x node (sym (gone.node x) ∙ is);
          frames = frames_after s' number frame [] gone.taken (All-nil (IsReadableFrame p));
        }

    taken_by : (frame : Frame) → numbered_frame number s.frames ≡ Some frame → RoomToTake → (node : Option NodeState)
        → s.node frame.to ≡ node → IsReadable p (moved p s (Delivers number))
    taken_by frame found room None at = lost_reads frame found at
    taken_by frame found room (Some node) at = heard_reads frame node found at (room frame node found at)

    taking_by : RoomToTake → (frame : Option Frame) → numbered_frame number s.frames ≡ frame → IsReadable p (moved p s (Delivers number))
    taking_by room None is = subst (IsReadable p) (sym (nothing_taken is)) reads
    taking_by room (Some frame) is = taken_by frame is room (s.node frame.to) refl

    pub taking_reads : RoomToTake → IsReadable p (moved p s (Delivers number))
    taking_reads room = taking_by room (numbered_frame number s.frames) refl

  -- ---- something is started

  -- who starts to join has room, and speaks of nobody
  joiner_reads : (x : List ℕ) → AreWithinLimits p → IsName p x → IsReadableNode p x (joiner p x)
  joiner_reads x limits name =
      let is = joiner_law p x limits name in
      let none = ap length (none_linked p x is.ties.table) in
      record {
        is_node = is;
        name = refl;
        settings = refl;
        names = record {
          parents = All-nil (λ s. IsParent p s.parent);
          cast_parents = All-nil (λ s. IsParent p s.parent);
          pairs = All-nil (IsNamedPair p);
          few = omega (arith, none);
        };
        typed = record { parents = All-nil (λ s. IsTypedParent s.parent); cast_parents = All-nil (λ s. IsTypedParent s.parent) };
      }

  module _ (x : List ℕ) (start : Start) where
    abbrev pub RoomToStart : Type 0
    RoomToStart = (node : NodeState) → starter p s x start ≡ Some node → HasRoomFor node (act node (Starts start))

    start_stays : starter p s x start ≡ None → moved p s (Begins x start) ≡ s
    unfolding moved
    start_stays none = rw none refl

    begun_reads : (node : NodeState) → starter p s x start ≡ Some node → IsReadableNode p x node → BringsNames p start → IsTypedStart start
        → HasRoomFor node (act node (Starts start)) → IsReadable p (moved p s (Begins x start))
    begun_reads node is reads_it named typed room =
        let s' = moved p s (Begins x start) in
        let acted = act node (Starts start) in
        let did = starts p s x start node is in
        let step = step_started p x node reads_it start named typed room in
        record {
          nodes = nodes_after s' x acted.state did.done.is did.done.others step.node_reads;
          frames =
              subst (All (Reads p)) (sym did.sent.after)
              (All-append (Reads p) s.frames (numbered_from s.next acted.sent) reads.frames (sent_reads p s.next acted.sent step.sent_read));
        }

  -- the node that starts something
  starter_reads : (x : List ℕ) (start : Start) (node : NodeState) → AreWithinLimits p → IsName p x → starter p s x start ≡ Some node
      → IsReadableNode p x node
  starter_reads x (Join via) node limits name is =
      let same : joiner p x ≡ node = cc in subst (IsReadableNode p x) same (joiner_reads x limits name)
  starter_reads x _ node limits name is = reads.nodes x node is

  pub starting_reads : (x : List ℕ) (start : Start) → AreWithinLimits p → IsName p x → BringsNames p start → IsTypedStart start
      → RoomToStart x start → IsReadable p (moved p s (Begins x start))
  starting_reads x start limits name named typed room = by_node (starter p s x start) refl
    where
      by_node : (node : Option NodeState) → starter p s x start ≡ node → IsReadable p (moved p s (Begins x start))
      by_node None is = subst (IsReadable p) (sym (start_stays x start is)) reads
      by_node (Some node) is = begun_reads x start node is (starter_reads x start node limits name is) named typed (room node is)
