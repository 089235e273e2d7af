-- A frame that is outstanding, and what its receiver makes of it.
use Rattle.std.proofs.Common.{◌≡◌, ◌≢◌, ◌⊎◌, inl, inr, ℕ, zero, suc, ◌<◌, Bool, true, false, List, [], ◌∷◌, length, slice_get, All, Option, None, Some, Result, Ok, Err, IfOk, IsOk, is_some, refl, ap, sym, subst, ◌∙◌, arith}
use Rattle.std.specs.Prelude.{IsOkAnd, bytes_eq, if◌then◌else◌, option_and_then}
use Rattle.std.specs.Option.{option_map}
use Rattle.std.proofs.lemmas.Bool.{cases_Bool, true≢false}
use Rattle.std.proofs.lemmas.Option.{get_or_from_slice_get, slice_get_within}
use Rattle.std.proofs.lemmas.Slice.Eq.{bytes_eq-Decides}
use Rattle.tap_name.specs.Settings.{SettingsValue}
use Rattle.tap_wire.specs.Reading.{frame_of}
use Rattle.tap_wire.specs.Spelling.{spelling}
use Rattle.tap_wire.specs.declared.fault.WireFault.{WireFault}
use Rattle.tap_wire.specs.declared.frame.Frame.{Frame}
use Rattle.tap_log.specs.declared.record.Record.{Record}
use Rattle.tap_log.specs.Frames.{bytes_of}
use Rattle.tap_history.specs.Flights.{bytes_at}
use Rattle.tap_history.specs.Moments.{outstanding}
use Rattle.tap_rule.specs.Act.{act}
use Rattle.tap_rule.specs.Event.Event.{Takes}
use Rattle.tap_rule.specs.Node.{NodeState, name_of}
use Rattle.tap_rule.specs.Strange.{is_own_name, is_strange}
use Rattle.tap_node.specs.Node.{NodeValue, running}
use Rattle.tap_node.specs.Outcome.{AnswersAs, Outcome, acted_as, at_frame, refused_by, turn_made}
use Rattle.tap_node.specs.declared.fault.NodeFault.{NodeFault}
use Rattle.tap_node.specs.declared.fault.NodeFault.TheVariants.{NoMemory as OutOfMemory, NotMine, Strange}
use Rattle.tap_node.specs.declared.turn.Turn.{Turn}
use Rattle.tap_safety.specs.Moved.{numbered_frame}
use Rattle.tap_safety.specs.System.{AmongFrames, System}
use Rattle.tap_safety.proofs.Moved.{found}
use Rattle.tap_runs.specs.Course.{system_of}
use Rattle.tap_runs.specs.CourseLaws.{HasBytes, frame_numbers}
use Rattle.tap_runs.proofs.Frames.{frames_kept}
use Rattle.tap_safety_moves.proofs.Consequences.{none_is_strange}
use Rattle.tap_safe_runs.proofs.Safe.{runs_are_sound}
use Rattle.tap_overlay.specs.Overlay.{ChangesOnly, OverlayValue, node_among, node_at}
use Rattle.tap_overlay.specs.Step.{HasDelivered, HasFailed, HasStepped, Heeds, MayDeliver, NodeHasAnswered, StepsAt, answer_given}
use Rattle.tap_overlay.specs.declared.fault.OverlayFault.{OverlayFault}
use Rattle.tap_overlay.specs.declared.fault.OverlayFault.TheVariants.{Node as NodeRefuses}
use Rattle.tap_engine.specs.KeptEngine.{AreReady}
use Rattle.tap_engine.specs.Working.{HasTakenAt, StillHas}
use Rattle.tap_engine.specs.declared.engine.Engine.{Engine}
use Rattle.tap_engine.proofs.Indices.{few_steps}
use Rattle.tap_engine.proofs.Keeping.{on, seen}
use Rattle.tap_engine.proofs.SoundCourse.{IsSound, IsSoundAt, course_is_sound}

-- ---- the frame at a place

-- the frame that has this number at a place of these
pub record IsAt (fs : List (ℕ × Frame)) (place number : ℕ) : Type 0 where
  pub frame : Frame
  pub at : slice_get fs place ≡ Some (number, frame)
  pub among : AmongFrames number frame fs

pub placed : (fs : List (ℕ × Frame)) (place number : ℕ) → slice_get (frame_numbers fs) place ≡ Some number → IsAt fs place number
placed [] place number is = cc
placed (f ∷ fs) zero number is =
    let same : f.0 ≡ number = cc in
    record { frame = f.1; at = ap (λ n. Some (n, f.1)) same; among = inl (sym same, refl) }
placed (f ∷ fs) (suc place) number is =
    let later = placed fs place number is in
    record { frame = later.frame; at = later.at; among = inr later.among }

-- what holds of all of these holds of the one at a place
all_at : {X : Type 0} (P : X → Type 0) (xs : List X) (place : ℕ) (x : X) → All P xs → slice_get xs place ≡ Some x → P x
all_at P xs place x all at =
    subst P (get_or_from_slice_get xs place x x at) (all place x (slice_get_within xs place x at))

-- an outstanding frame: its number, the bytes that the log has of it, and that it is read from these
pub record IsOutstanding (p : SettingsValue) (log : List Record) (place : ℕ) : Type 0 where
  pub number : ℕ
  pub frame : Frame
  pub at : slice_get (outstanding log) place ≡ Some number
  pub among : AmongFrames number frame (system_of log).frames
  pub is : numbered_frame number (system_of log).frames ≡ Some frame
  pub bytes : bytes_at log place ≡ Some (spelling p frame)
  pub read : frame_of p (spelling p frame) ≡ Ok frame

-- the facts of courses, of an engine that is ready
pub sound : (engine : Engine) (ready : AreReady engine) → IsSound (seen engine).beginning engine.ledger.records
sound engine ready =
    let goes = on engine ready in
    course_is_sound (seen engine).beginning engine.ledger.records goes.course goes.going ready.kept.named
    (few_steps engine.ledger.records goes.indices)

pub is_outstanding : (engine : Engine) → AreReady engine → (place number : ℕ)
    → slice_get (outstanding engine.ledger.records) place ≡ Some number → IsOutstanding engine.settings engine.ledger.records place
is_outstanding engine ready place number at =
    let p = engine.settings in
    let log = engine.ledger.records in
    let s = system_of log in
    let goes = on engine ready in
    let kept = frames_kept (seen engine).beginning log goes.course goes.going in
    let one = placed s.frames place number (ap (λ l. slice_get l place) kept.agree.numbers ∙ at) in
    record {
      number = number;
      frame = one.frame;
      at = at;
      among = one.among;
      is = found number one.frame 0 s.frames s.next kept.system_is.numbers one.among;
      bytes = ap (option_and_then (bytes_of log)) at ∙ all_at (HasBytes p log) s.frames place (number, one.frame) kept.agree.bytes one.at;
      read = all_at (λ f. frame_of p (spelling p f.1) ≡ Ok f.1) s.frames place (number, one.frame) (sound engine ready).frames one.at;
    }

-- ---- its receiver

-- the node to which the frame goes: the frame isn't strange to it
pub record IsReceiver (s : System) (frame : Frame) : Type 0 where
  pub node : NodeState
  pub at : s.node frame.to ≡ Some node
  pub fits : is_strange node frame ≡ false

-- each outstanding frame of a run has one
pub receiver_of : (engine : Engine) → AreReady engine → (place : ℕ) (o : IsOutstanding engine.settings engine.ledger.records place)
    → IsReceiver (system_of engine.ledger.records) o.frame
receiver_of engine ready place o =
    let goes = on engine ready in
    let log = engine.ledger.records in
    let safe = runs_are_sound (seen engine).beginning log (record { course = goes.course; going = goes.going; steps = ready.kept.named }) in
    let there = (safe.invariant.basis.ends.known o.number o.frame o.among).1 in
    record {
      node = there.state;
      at = there.is;
      fits = none_is_strange engine.settings (system_of log) o.number o.frame there.state safe o.among there.is;
    }

-- it is one of the nodes that are kept
pub receiver_there : (engine : Engine) (ready : AreReady engine) (place : ℕ) (o : IsOutstanding engine.settings engine.ledger.records place)
    → is_some (node_at engine.overlay o.frame.to) ≡ true
receiver_there engine ready place o =
    ap is_some ((ready.kept.go_on refl).nodes.nodes_are o.frame.to ∙ ap (option_map running) (receiver_of engine ready place o).at)

-- ---- the frame at a place within those outstanding

-- a number at each place within these
record HasAt (numbers : List ℕ) (place : ℕ) : Type 0 where
  number : ℕ
  at : slice_get numbers place ≡ Some number

has_at : (numbers : List ℕ) (place : ℕ) → place < length numbers → HasAt numbers place
has_at [] place within = absurd (omega (arith, within))
has_at (number ∷ numbers) zero within = record { number = number; at = refl }
has_at (number ∷ numbers) (suc place) within =
    let later = has_at numbers place (omega (arith, within)) in record { number = later.number; at = later.at }

pub outstanding_at : (engine : Engine) → AreReady engine → (place : ℕ) → place < length (outstanding engine.ledger.records)
    → IsOutstanding engine.settings engine.ledger.records place
outstanding_at engine ready place within =
    let one = has_at (outstanding engine.ledger.records) place within in is_outstanding engine ready place one.number one.at

-- its bytes are read, and name its receiver
pub read_at : (p : SettingsValue) (log : List Record) (place : ℕ) (o : IsOutstanding p log place) (bytes : List ℕ)
    → Some bytes ≡ bytes_at log place → (bytes ≡ spelling p o.frame) × (frame_of p bytes ≡ Ok o.frame)
read_at p log place o bytes is =
    let both : Some bytes ≡ Some (spelling p o.frame) = is ∙ o.bytes in
    let same : bytes ≡ spelling p o.frame = cc in
    (same, ap (frame_of p) same ∙ o.read)

-- ---- the nodes after a step of one of them

module _ (outcome : NodeValue → Outcome) (before after : OverlayValue) (name : List ℕ) (given : Result Turn OverlayFault)
    (step : StepsAt outcome before.nodes after.nodes name given) (settings : after.settings ≡ before.settings) where
  -- no node goes
  stays_there : (node : Option NodeValue) → node_at before name ≡ node → (x : List ℕ) → is_some (node_at before x) ≡ true
      → is_some (node_at after x) ≡ true
  stays_there None none x is = ap (λ nodes. is_some (node_among nodes x)) (step.absent none).same ∙ is
  stays_there (Some node) found x is =
      let has = step.there node found in
      elim (cases_Bool (bytes_eq x name)) [
        | inl same ↦
            let at : x ≡ name = (bytes_eq-Decides x name).0 same in
            ap (λ y. is_some (node_among after.nodes y)) at ∙ ap is_some has.changes.here
        | inr apart ↦
            ap is_some (has.changes.others x (λ same. absurd (true≢false (sym ((bytes_eq-Decides x name).1 same) ∙ apart)))) ∙ is
      ]

  pub still_has : StillHas before after
  still_has = record { settings = settings; there = stays_there (node_at before name) refl }

-- ---- what the receiver answers

-- a node answers so, or wants memory
pub answer_ok : (answer : Result Turn NodeFault) (turn : Turn) → answer_given answer ≡ Ok turn → answer ≡ Ok turn
answer_ok (Ok other) turn is = let same : other ≡ turn = cc in ap (λ t. Ok t) same
answer_ok (Err fault) turn is = let never : Err (NodeRefuses fault) ≡ Ok turn = is in cc

-- who acts or wants memory, and refuses, wants memory
pub want_alone : (given : Result Turn OverlayFault) (fault : OverlayFault) → (given ≡ Err (NodeRefuses OutOfMemory)) ⊎ IsOk given
    → given ≡ Err fault → fault ≡ NodeRefuses OutOfMemory
want_alone given fault answers refused = elim answers [
  | inl short ↦ let both : Err fault ≡ Err (NodeRefuses OutOfMemory) = sym refused ∙ short in cc
  | inr ok ↦ let never : false ≡ true = subst IsOk refused ok in absurd (cc)
]

own_name : (node : NodeState) (name : List ℕ) → name_of node ≡ name → is_own_name node name ≡ true
own_name node name is = (bytes_eq-Decides name (name_of node)).1 (sym is)

-- a frame that isn't strange to its receiver makes this act by its rule
outcome_is : (node : NodeState) (frame : Frame) → name_of node ≡ frame.to → is_strange node frame ≡ false
    → at_frame (running node) frame ≡ acted_as node (act node (Takes frame))
outcome_is node frame name fits =
    ap (λ own. if own then by_strange (is_strange node frame) else refused_by (running node) (NotMine frame.to)) (own_name node frame.to name)
    ∙ ap by_strange fits
  where
    by_strange : Bool → Outcome
    by_strange strange = if strange then refused_by (running node) Strange else acted_as node (act node (Takes frame))

-- ---- an outstanding frame may be delivered

module _ (engine : Engine) (ready : AreReady engine) (place : ℕ) (o : IsOutstanding engine.settings engine.ledger.records place) where
  -- its receiver among the nodes that are kept
  kept_receiver : node_among engine.overlay.nodes o.frame.to ≡ Some (running (receiver_of engine ready place o).node)
  kept_receiver =
      (ready.kept.go_on refl).nodes.nodes_are o.frame.to ∙ ap (option_map running) (receiver_of engine ready place o).at

  receiver_facts : IsSoundAt (seen engine).beginning engine.ledger.records o.frame.to (receiver_of engine ready place o).node
  receiver_facts = (sound engine ready).nodes o.frame.to (receiver_of engine ready place o).node (receiver_of engine ready place o).at

  pub may_deliver : MayDeliver engine.overlay.nodes o.frame
  may_deliver = record {
    node = (receiver_of engine ready place o).node;
    there = kept_receiver;
    room = receiver_facts.left;
    fits = (receiver_of engine ready place o).fits;
  }

-- the frame at a place has been delivered
module _ (before after : Engine) (ready : AreReady before) (place : ℕ) (o : IsOutstanding before.settings before.ledger.records place)
    (turn : Turn) (name : List ℕ) (delivered : HasDelivered before.overlay.nodes after.overlay.nodes turn name o.frame)
    (settings : after.overlay.settings ≡ before.overlay.settings) where
  abbrev frame : Frame
  frame = o.frame

  abbrev receiver : IsReceiver (system_of before.ledger.records) frame
  receiver = receiver_of before ready place o

  abbrev node : NodeState
  node = receiver.node

  facts : IsSoundAt (seen before).beginning before.ledger.records frame.to node
  facts = receiver_facts before ready place o

  has : HasStepped (at_frame (running node) frame) before.overlay.nodes after.overlay.nodes frame.to (running node) (Ok turn)
  has = delivered.heeds.there (running node) (kept_receiver before ready place o)

  answered : NodeHasAnswered (at_frame (running node) frame) (running node) has.is (Ok turn)
  answered = has.step.free facts.left

  answers : AnswersAs (acted_as node (act node (Takes frame))) (running node) answered.answer has.is
  answers = subst (λ x. AnswersAs x (running node) answered.answer has.is) (outcome_is node frame facts.name_is receiver.fits) answered.answers

  pub has_taken_at : HasTakenAt before after place (record { name = name; turn = turn })
  has_taken_at =
      let is_ok = answer_ok answered.answer turn (sym answered.given_is) in
      let other : answered.answer ≢ Err OutOfMemory = λ memory. let never : Ok turn ≡ Err OutOfMemory = sym is_ok ∙ memory in cc in
      let both : Ok turn ≡ Ok (turn_made node (act node (Takes frame))) = sym is_ok ∙ answers.answer other in
      record {
        number = o.number;
        frame = frame;
        at = o.at;
        is = o.is;
        heeded = record {
          node = node;
          was = receiver.at;
          fits = receiver.fits;
          acts = record {
            name_is = delivered.name_is;
            turn_is = cc;
            changes = subst (ChangesOnly before.overlay.nodes after.overlay.nodes frame.to) (answers.node other) has.changes;
            settings = settings;
          };
        };
      }

-- no node goes as a frame is delivered, or as memory is refused
pub delivered_still : (before after : OverlayValue) (turn : Turn) (name : List ℕ) (frame : Frame)
    → HasDelivered before.nodes after.nodes turn name frame → after.settings ≡ before.settings → StillHas before after
delivered_still before after turn name frame delivered settings =
    still_has (λ node. at_frame node frame) before after frame.to (Ok turn) delivered.heeds settings

pub failed_still : (before after : OverlayValue) (read : Result Frame WireFault) (frame : Frame) → read ≡ Ok frame
    → HasFailed before.nodes after.nodes read → after.settings ≡ before.settings → StillHas before after
failed_still before after read _ is (inl same) settings =
    record { settings = settings; there = λ name there. ap (λ nodes. is_some (node_among nodes name)) same ∙ there }
failed_still before after read frame is (inr heeds) settings =
    still_has (λ node. at_frame node frame) before after frame.to (Err (NodeRefuses OutOfMemory))
    (subst (λ r. IsOkAnd r (Heeds before.nodes after.nodes (Err OutOfMemory))) is heeds) settings

-- what holds of each that is made so holds of what is made
pub if_ok : {A E : Type 0} (P Q : A → Type 0) → ((x : A) → P x → Q x) → (r : Result A E) → IfOk r P → IfOk r Q
if_ok P Q onward (Ok x) is = onward x is
if_ok P Q onward (Err e) is = is

-- ---- the outstanding frame with these bytes at a place

module _ (m : Engine) (ready : AreReady m) (place number : ℕ) (at : slice_get (outstanding m.ledger.records) place ≡ Some number)
    (bytes : List ℕ) (is : Some bytes ≡ bytes_at m.ledger.records place) where
  abbrev pub frame_there : IsOutstanding m.settings m.ledger.records place
  frame_there = outstanding_at m ready place (slice_get_within (outstanding m.ledger.records) place number at)

  -- the nodes read it
  pub frame_read : frame_of m.overlay.settings bytes ≡ Ok frame_there.frame
  frame_read = ap (λ p. frame_of p bytes) ready.kept.settings ∙ (read_at m.settings m.ledger.records place frame_there bytes is).1

  pub bytes_may : IsOkAnd (frame_of m.overlay.settings bytes) (MayDeliver m.overlay.nodes)
  bytes_may = subst (λ r. IsOkAnd r (MayDeliver m.overlay.nodes)) (sym frame_read) (may_deliver m ready place frame_there)

  module _ (overlay : OverlayValue) (turn : Turn) (name : List ℕ)
      (told : IsOkAnd (frame_of m.overlay.settings bytes) (HasDelivered m.overlay.nodes overlay.nodes turn name)) where
    pub frame_delivered : HasDelivered m.overlay.nodes overlay.nodes turn name frame_there.frame
    frame_delivered = subst (λ r. IsOkAnd r (HasDelivered m.overlay.nodes overlay.nodes turn name)) frame_read told

    pub frame_taken : overlay.settings ≡ m.overlay.settings
        → HasTakenAt m (record m { overlay = overlay }) place (record { name = name; turn = turn })
    frame_taken settings = has_taken_at m (record m { overlay = overlay }) ready place frame_there turn name frame_delivered settings
