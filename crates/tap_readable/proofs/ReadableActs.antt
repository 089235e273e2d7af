-- What a step of a node leaves and sends: the node speaks of names, and each frame is one that has a spelling and whose numbers fit.
use Rattle.std.proofs.Common.{◌≡◌, ◌==◌, ℕ, ◌+◌, ◌<◌, ◌≤◌, ◌^◌, Bool, true, false, List, [], ◌++◌, map, length, All, Option, None, Some, refl, sym, ap, subst, ◌∙◌, arith}
use Rattle.std.specs.Prelude.{◌||◌, nat_lt, IfSome}
use Rattle.std.proofs.lemmas.List.{length-append, length-map}
use Rattle.std.proofs.lemmas.List.Elements.{All-append, All-map, All-nil}
use Rattle.std.proofs.lemmas.List.Sorted.{length_permutation}
use Rattle.tap_name.specs.Prefix.{lcp}
use Rattle.tap_name.specs.Settings.{SettingsValue}
use Rattle.tap_table.specs.declared.tie.Tie.{Tie}
use Rattle.tap_table.specs.Table.{TableValue}
use Rattle.tap_pointer.specs.Reconcile.{reconcile_lays, reconciled}
use Rattle.tap_pointer.proofs.Due.{reconcile_lays-versions}
use Rattle.tap_wire.specs.declared.frame.Body.{Body}
use Rattle.tap_wire.specs.declared.frame.Frame.{Frame}
use Rattle.tap_wire.specs.Spelling.{IsFrame, IsTyped}
use Rattle.tap_rule.specs.Act.{act, carried_out, completed, follows, ignores}
use Rattle.tap_rule.specs.Event.{Acted, Start}
use Rattle.tap_rule.specs.Event.Event.{Starts, Takes}
use Rattle.tap_rule.specs.Event.Start.{Abandon, Cast as StartCast, Find, Join, Leave, Publish, Withdraw}
use Rattle.tap_rule.specs.FrameRules.{rule_of_frame}
use Rattle.tap_rule.specs.KeptNode.{IsNode, IsStart, KeepsNode}
use Rattle.tap_rule.specs.Node.{NodeState, Status, name_of, settings_of}
use Rattle.tap_rule.specs.Node.Status.{Ceased, Core, Gone, Joining, Leaving}
use Rattle.tap_rule.specs.Pointers.{lays_due, reconciles, with_reconciled}
use Rattle.tap_rule.specs.Reaction.{Reaction}
use Rattle.tap_rule.specs.Sending.{by_receiver, frames_of, lay_frame, link_frame, message_frame}
use Rattle.tap_rule.specs.StartRules.{rule_of_start}
use Rattle.tap_rule.specs.Strange.{is_no_pin, is_own_name, is_strange, is_strange_body, is_too_many, link_to, names_to_link}
use Rattle.tap_rule.proofs.Among.{among-by_receiver_from}
use Rattle.tap_rule.proofs.ByReceiver.{by_receiver-permutation}
use Rattle.tap_rule.proofs.KeptNode.{kept_law, start_kept_law}
use Rattle.tap_moves.specs.KnownNames.{AreNamedPairs, KnowsNames}
use Rattle.tap_moves.proofs.Got.{all_among, among_all}
use Rattle.tap_moves.proofs.Spelled.{IsNamedLay, reconciled_lays, reconciled_pairs}
use Rattle.tap_moves.proofs.SpelledJoins.{IsForName, IsSpelled}
use Rattle.tap_moves.proofs.SpelledRules.{SaysNames, frame_spelled, start_spelled}
use Rattle.tap_readable.proofs.Typed.{AreLaysTo, AreWordsTo, KnowsTyped, deeper, lays_to}
use Rattle.tap_readable.proofs.TypedRules.{AreTyped, IsShallow, IsTypedRule, IsTypedStart, rule_typed, start_typed}
use Rattle.tap_safety.proofs.Said.{Said, said_of}
use Rattle.tap_safety.proofs.Said.Said.{IsCast, IsTell}

-- ---- the frames of a reaction

abbrev pub IsTypedFrame : Frame → Type 0
IsTypedFrame f = IsTyped f.body

-- what holds of these words holds of them by receiver
all_by_receiver : (P : Tie → Type 0) (words : List Tie) → All P words → All P (by_receiver words)
all_by_receiver P words all =
    all_among P (by_receiver words) (λ word among. among_all P words all word (among-by_receiver_from word words among))

module _ (from : List ℕ) (r : Reaction) where
  -- a frame for each word, each message and each Lay
  frames_size : length (frames_of from r) ≡ length r.words + (length r.messages + length r.lays)
  frames_size =
      let links = map (link_frame from) (by_receiver r.words) in
      let named = map (message_frame from) r.messages in
      let lays = map (lay_frame from) r.lays in
      let all : length (links ++ (named ++ lays)) ≡ length links + (length named + length lays) =
      length-append links (named ++ lays) ∙ ap (λ more. length links + more) (length-append named lays) in
      let words : length links ≡ length r.words =
      length-map (by_receiver r.words) (link_frame from)
      ∙ length_permutation r.words (by_receiver r.words) (by_receiver-permutation r.words) in
      let messages : length named ≡ length r.messages = length-map r.messages (message_frame from) in
      let laid : length lays ≡ length r.lays = length-map r.lays (lay_frame from) in
      all ∙ ap (λ one. one + (length named + length lays)) words ∙ ap (λ one. length r.words + (one + length lays)) messages
      ∙ ap (λ one. length r.words + (length r.messages + one)) laid

  -- if words and Lays take the numbers after the stamp's last, and with as many numbers as frames it has 32 bits, each frame is typed
  frames_typed : (last : ℕ) → AreWordsTo (last + length r.words) r.words → AreTyped r.messages
      → AreLaysTo (last + length r.words + length r.lays) r.lays → last + length (frames_of from r) < 2 ^ 32
      → All IsTypedFrame (frames_of from r)
  frames_typed last words messages lays small =
      let size = frames_size in
      let sorted = all_by_receiver (λ word. word.version ≤ last + length r.words) r.words words in
      All-append IsTypedFrame (map (link_frame from) (by_receiver r.words))
      (map (message_frame from) r.messages ++ map (lay_frame from) r.lays)
      (All-map IsTypedFrame (link_frame from) (by_receiver r.words)
      (λ k d within. let up = sorted k d within in omega (arith, up, size, small)))
      (All-append IsTypedFrame (map (message_frame from) r.messages) (map (lay_frame from) r.lays)
      (All-map IsTypedFrame (message_frame from) r.messages messages)
      (All-map IsTypedFrame (lay_frame from) r.lays (λ k d within. let up = lays k d within in omega (arith, up, size, small))))

-- ---- depths

-- a frame that isn't strange isn't so by what it says
known_body : (own body many : Bool) → (own || body || many) ≡ false → body ≡ false
known_body true body many is = cc
known_body false true many is = cc
known_body false false many is = refl

-- so it isn't at the greatest depth
known_tell : (own pinned above deepest : Bool) → (own || pinned || above || deepest) ≡ false → deepest ≡ false
known_tell true pinned above deepest is = cc
known_tell false true above deepest is = cc
known_tell false false true deepest is = cc
known_tell false false false deepest is = is

body_shallow : (node : NodeState) {body : Body} → Said body → is_strange_body node body ≡ false → IsTyped body → IsShallow body
unfolding is_strange_body
body_shallow node (IsTell tell watch) is typed =
    deeper tell.depth typed.1
    (known_tell (is_own_name node tell.joiner) (is_no_pin (link_to node tell.joiner)) (nat_lt (lcp (name_of node) tell.joiner) tell.prefix)
    (tell.depth == 65535) is)
body_shallow node (IsCast {depth = depth}) is typed = deeper depth typed.2 is
body_shallow node _ is typed = tt

shallow : (node : NodeState) (frame : Frame) → is_strange node frame ≡ false → IsTyped frame.body → IsShallow frame.body
shallow node frame known typed =
    body_shallow node (said_of frame.body)
    (known_body (is_own_name node frame.from) (is_strange_body node frame.body) (is_too_many node (names_to_link frame.from frame.body)) known)
    typed

-- ---- a step

module _ (node : NodeState) (is : IsNode node) (has : KnowsNames (settings_of node) node) (knows : KnowsTyped node)
    (room : node.sessions.opened + 1 < 2 ^ 32) (cast_room : node.cast_sessions.opened + 1 < 2 ^ 32) where
  abbrev p : SettingsValue
  p = settings_of node

  -- What a step leaves and sends: names, frames that have spellings, and, if the numbers of as many frames have 32 bits, fields that fit.
  pub record IsReadableStep (acted : Acted) : Type 0 where
    pub names : KnowsNames p acted.state
    pub typed : KnowsTyped acted.state
    pub frames : All (IsFrame p) acted.sent
    pub fits : node.stamp + length acted.sent < 2 ^ 32 → All IsTypedFrame acted.sent

  frames_spelled : (r : Reaction) → IsSpelled p r → All (IsFrame p) (frames_of (name_of node) r)
  frames_spelled r spelled =
      let own = is.ties.table.owner in
      All-append (IsFrame p) (map (link_frame (name_of node)) (by_receiver r.words))
      (map (message_frame (name_of node)) r.messages ++ map (lay_frame (name_of node)) r.lays)
      (All-map (IsFrame p) (link_frame (name_of node)) (by_receiver r.words) (λ k d inside.
      record { sender = own; receiver = all_by_receiver (IsForName p) r.words spelled.words k d inside; body = tt }))
      (All-append (IsFrame p) (map (message_frame (name_of node)) r.messages) (map (lay_frame (name_of node)) r.lays)
      (All-map (IsFrame p) (message_frame (name_of node)) r.messages (λ k d inside.
      let one = spelled.messages k d inside in record { sender = own; receiver = one.to; body = one.body }))
      (All-map (IsFrame p) (lay_frame (name_of node)) r.lays (λ k d inside.
      let one = spelled.lays k d inside in
      record { sender = own; receiver = one.to; body = (one.object, one.server, one.level) })))

  -- reconciling sends Lays that are about names
  reconciles_spelled : (r : Reaction) → IsSpelled p r → KeepsNode node (with_reconciled r.state) → IsSpelled p (reconciles r)
  reconciles_spelled r spelled kept =
      let t : TableValue = r.state.ties.table in
      let pointers = r.state.pointers in
      let named = subst (λ q. AreNamedPairs q pointers) (sym kept.settings) spelled.knows.pairs in
      let valid = kept.node.ties.table in
      record {
        knows = record {
          parents = spelled.knows.parents;
          cast_parents = spelled.knows.cast_parents;
          pairs =
              subst (λ q. AreNamedPairs q (reconciled t pointers)) kept.settings
              (reconciled_pairs t valid r.state.stamp pointers named kept.node.objects kept.node.pointers);
          few = spelled.knows.few;
        };
        words = spelled.words;
        messages = spelled.messages;
        lays =
            subst (λ q. All (IsNamedLay q) (reconcile_lays t r.state.stamp pointers)) kept.settings
            (reconciled_lays t valid r.state.stamp pointers named kept.node.objects kept.node.pointers);
      }

  -- a step that ends as its rule says
  said : (r : Reaction) → IsSpelled p r → IsTypedRule node r → IsReadableStep (carried_out (name_of node) r)
  said r spelled typed = record {
    names = spelled.knows;
    typed = typed.knows;
    frames = frames_spelled r spelled;
    fits = frames_typed (name_of node) r node.stamp typed.words typed.messages typed.lays;
  }

  -- and one that ends with reconciling
  said_and_laid : (r : Reaction) → IsSpelled p r → IsTypedRule node r → KeepsNode node (with_reconciled r.state)
      → IsReadableStep (carried_out (name_of node) (reconciles r))
  said_and_laid r spelled typed kept =
      let end = reconciles_spelled r spelled kept in
      let lays = lays_due r.state in
      let numbered = lays_to r.state.stamp lays (reconcile_lays-versions r.state.ties.table r.state.stamp r.state.pointers) in
      let most = typed.stamp in
      record {
        names = end.knows;
        typed = record { parents = typed.knows.parents; cast_parents = typed.knows.cast_parents };
        frames = frames_spelled (reconciles r) end;
        fits = frames_typed (name_of node) (reconciles r) node.stamp typed.words typed.messages
            (λ k d within. let up = numbered k d within in omega (arith, up, most));
      }

  ended_so : (r : Reaction) (status : Status) → IsSpelled p r → IsTypedRule node r
      → KeepsNode node (carried_out (name_of node) (completed status r)).state
      → IsReadableStep (carried_out (name_of node) (completed status r))
  ended_so r Joining spelled typed kept = said_and_laid r spelled typed kept
  ended_so r Core spelled typed kept = said_and_laid r spelled typed kept
  ended_so r Leaving spelled typed kept = said_and_laid r spelled typed kept
  ended_so r Gone spelled typed kept = said r spelled typed
  ended_so r Ceased spelled typed kept = said r spelled typed

  -- nothing is sent
  stays_so : (acted : Acted) → acted.state ≡ node → acted.sent ≡ [] → IsReadableStep acted
  stays_so acted state sent = record {
    names = subst (KnowsNames p) (sym state) has;
    typed = subst KnowsTyped (sym state) knows;
    frames = subst (All (IsFrame p)) (sym sent) (All-nil (IsFrame p));
    fits = λ small. subst (All IsTypedFrame) (sym sent) (All-nil IsTypedFrame);
  }

  follows_so : (rule : Option Reaction) → IfSome rule (IsSpelled p) → IfSome rule (IsTypedRule node)
      → KeepsNode node (follows node rule).state → IsReadableStep (follows node rule)
  follows_so None spelled typed kept = stays_so (ignores node) refl refl
  follows_so (Some r) spelled typed kept = ended_so r r.state.status spelled typed kept

  -- a frame is taken
  pub taken_readable : (frame : Frame) → IsFrame p frame → IsTyped frame.body → IsReadableStep (act node (Takes frame))
  unfolding act
  taken_readable frame keeps typed = by_strange (is_strange node frame) refl
    where
      by_strange : (strange : Bool) → is_strange node frame ≡ strange → IsReadableStep (act node (Takes frame))
      by_strange true same = rw same (stays_so _ refl refl)
      by_strange false same =
          let kept : KeepsNode node (follows node (rule_of_frame node.status node frame.from frame.body)).state =
          rw same at (kept_law node frame is keeps) in
          rw same (follows_so (rule_of_frame node.status node frame.from frame.body)
          (frame_spelled node is has frame.from keeps.sender node.status frame.body keeps.body same)
          (rule_typed node knows room cast_room frame.from node.status frame.body typed (shallow node frame same typed)) kept)

  -- what a start publishes is a name
  is_start : (start : Start) → SaysNames node is has start → IsStart p start
  is_start (Publish object) named = named
  is_start (Join via) named = tt
  is_start Abandon named = tt
  is_start (Withdraw object) named = tt
  is_start (Find ticket object) named = tt
  is_start Leave named = tt
  is_start (StartCast cast level word) named = tt

  pub start_keeps : (start : Start) → SaysNames node is has start → KeepsNode node (act node (Starts start)).state
  start_keeps start named = start_kept_law node start is (is_start start named)

  -- something is started
  pub started_readable : (start : Start) → SaysNames node is has start → IsTypedStart start → IsReadableStep (act node (Starts start))
  unfolding act
  started_readable start named typed =
      follows_so (rule_of_start node.status node start) (start_spelled node is has node.status start named)
      (start_typed node knows room cast_room node.status start typed)
      (start_kept_law node start is (is_start start named))
