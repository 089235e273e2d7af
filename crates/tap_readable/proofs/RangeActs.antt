-- What a step of a node counts: each session that it opens, and each number that its stamp gives, takes a frame that it sends.
use Rattle.std.proofs.Common.{◌≡◌, ℕ, ◌+◌, ◌≤◌, Bool, true, false, cond, List, [], ◌++◌, map, length, All, Option, None, Some, refl, ap, sym, subst, ◌∙◌, arith}
use Rattle.std.specs.Prelude.{IfSome}
use Rattle.std.proofs.lemmas.List.{length-append, length-map}
use Rattle.std.proofs.lemmas.List.Elements.{All-append, All-map, All-nil}
use Rattle.std.proofs.lemmas.List.Sorted.{length_permutation}
use Rattle.tap_pointer.specs.Reconcile.{with_wanted}
use Rattle.tap_wire.specs.declared.frame.Frame.{Frame}
use Rattle.tap_rule.specs.Node.{NodeState, Status, name_of}
use Rattle.tap_rule.specs.Node.Status.{Joining, Core, Leaving, Gone, Ceased}
use Rattle.tap_rule.specs.Event.{Acted, Start}
use Rattle.tap_rule.specs.Event.Event.{Starts, Takes}
use Rattle.tap_rule.specs.Reaction.{Reaction}
use Rattle.tap_rule.specs.Pointers.{lays_due, reconciles}
use Rattle.tap_rule.specs.Sending.{by_receiver, frames_of, lay_frame, link_frame, message_frame}
use Rattle.tap_rule.specs.Strange.{is_strange}
use Rattle.tap_rule.specs.FrameRules.{rule_of_frame}
use Rattle.tap_rule.specs.StartRules.{rule_of_start}
use Rattle.tap_rule.specs.Act.{act, carried_out, completed, follows, refuses}
use Rattle.tap_rule.proofs.ByReceiver.{by_receiver-permutation}
use Rattle.tap_readable.proofs.RangeRules.{AreCopiesTo, AreMetTo, IsCastTo, IsCounted, OpensNone, StartsCastTo, rule_counted, start_counted, start_opens_none}

-- these frames are copies of casts of at most this number, if they are copies of casts
abbrev pub AreSentTo : ℕ → List Frame → Type 0
AreSentTo n frames = All (λ f. IsCastTo n f.body) frames

-- What a step makes of a node: a session that is opened takes a frame, and so does a number of the stamp; one pair more is known of at
-- most; and the casts that it meets and sends have at most this number.
pub record Counts (n : ℕ) (node : NodeState) (acted : Acted) : Type 0 where
  pub sessions : acted.state.sessions.opened ≤ node.sessions.opened + length acted.sent
  pub cast_sessions : acted.state.cast_sessions.opened ≤ node.cast_sessions.opened + length acted.sent
  pub stamp : acted.state.stamp ≤ node.stamp + length acted.sent
  pub pairs : length acted.state.pointers.pairs ≤ length node.pointers.pairs + 1
  pub casts : AreMetTo n acted.state.casts
  pub copies : AreSentTo n acted.sent

-- ---- the frames of a reaction

module _ (from : List ℕ) (r : Reaction) where
  -- a frame for each word, each message and each Lay
  frames_size : length (frames_of from r) ≡ length r.words + (length r.messages + length r.lays)
  frames_size =
      let links = map (link_frame from) (by_receiver r.words) in
      let named = map (message_frame from) r.messages in
      let lays = map (lay_frame from) r.lays in
      let all : length (links ++ (named ++ lays)) ≡ length links + (length named + length lays) =
      length-append links (named ++ lays) ∙ ap (λ more. length links + more) (length-append named lays) in
      let words : length links ≡ length r.words =
      length-map (by_receiver r.words) (link_frame from)
      ∙ length_permutation r.words (by_receiver r.words) (by_receiver-permutation r.words) in
      let messages : length named ≡ length r.messages = length-map r.messages (message_frame from) in
      let laid : length lays ≡ length r.lays = length-map r.lays (lay_frame from) in
      all ∙ ap (λ one. one + (length named + length lays)) words ∙ ap (λ one. length r.words + (one + length lays)) messages
      ∙ ap (λ one. length r.words + (length r.messages + one)) laid

  -- and copies of casts are among the messages alone
  frames_to : (n : ℕ) → AreCopiesTo n r.messages → AreSentTo n (frames_of from r)
  frames_to n copies =
      let To : Frame → Type 0 = λ f. IsCastTo n f.body in
      All-append To (map (link_frame from) (by_receiver r.words)) (map (message_frame from) r.messages ++ map (lay_frame from) r.lays)
      (All-map To (link_frame from) (by_receiver r.words) (λ k d within. tt))
      (All-append To (map (message_frame from) r.messages) (map (lay_frame from) r.lays)
      (All-map To (message_frame from) r.messages copies) (All-map To (lay_frame from) r.lays (λ k d within. tt)))

-- ---- the end of a step

-- what grows by no more than the messages or the words, with the Lays or without, grows by no more than the frames
by_messages : (after before words messages lays sent : ℕ) → sent ≡ words + (messages + lays) → after ≤ before + messages
    → after ≤ before + sent
by_messages after before words messages lays sent size up = omega (arith, size, up)

by_words : (after before words messages lays sent : ℕ) → sent ≡ words + (messages + lays) → after ≤ before + words
    → after + lays ≤ before + sent
by_words after before words messages lays sent size up = omega (arith, size, up)

by_words_alone : (after before words messages lays sent : ℕ) → sent ≡ words + (messages + lays) → after ≤ before + words
    → after ≤ before + sent
by_words_alone after before words messages lays sent size up = omega (arith, size, up)

as_few : (after between before : ℕ) → after ≡ between → between ≤ before → after ≤ before
as_few after between before same up = omega (arith, same, up)

module _ (n : ℕ) (node : NodeState) (r : Reaction) (counted : IsCounted n node r) where
  -- without reconciling, with it, and so by the status
  said : Counts n node (carried_out (name_of node) r)
  said =
      let size = frames_size (name_of node) r in
      record {
        sessions = by_messages _ _ (length r.words) (length r.messages) (length r.lays) _ size counted.sessions;
        cast_sessions = by_messages _ _ (length r.words) (length r.messages) (length r.lays) _ size counted.cast_sessions;
        stamp = by_words_alone _ _ (length r.words) (length r.messages) (length r.lays) _ size counted.stamp;
        pairs = counted.pairs;
        casts = counted.casts;
        copies = frames_to (name_of node) r n counted.copies;
      }

  said_and_laid : Counts n node (carried_out (name_of node) (reconciles r))
  said_and_laid =
      let lays = length (lays_due r.state) in
      let size = frames_size (name_of node) (reconciles r) in
      record {
        sessions = by_messages _ _ (length r.words) (length r.messages) lays _ size counted.sessions;
        cast_sessions = by_messages _ _ (length r.words) (length r.messages) lays _ size counted.cast_sessions;
        stamp = by_words _ _ (length r.words) (length r.messages) lays _ size counted.stamp;
        pairs = as_few _ _ _ (length-map r.state.pointers.pairs (with_wanted r.state.ties.table)) counted.pairs;
        casts = counted.casts;
        copies = frames_to (name_of node) (reconciles r) n counted.copies;
      }

  ends : (status : Status) → Counts n node (carried_out (name_of node) (completed status r))
  ends Joining = said_and_laid
  ends Core = said_and_laid
  ends Leaving = said_and_laid
  ends Gone = said
  ends Ceased = said

-- ---- a step

module _ (n : ℕ) (node : NodeState) (met : AreMetTo n node.casts) where
  -- the node stays, and sends nothing
  stays_counts : (acted : Acted) → acted.state ≡ node → acted.sent ≡ [] → Counts n node acted
  stays_counts acted state sent =
      let none : (of : NodeState → ℕ) → of acted.state ≤ of node + length acted.sent =
      λ of. let same = ap of state in omega (arith, same) in
      record {
        sessions = none (λ s. s.sessions.opened);
        cast_sessions = none (λ s. s.cast_sessions.opened);
        stamp = none (λ s. s.stamp);
        pairs = let same : length acted.state.pointers.pairs ≡ length node.pointers.pairs = ap (λ s. length s.pointers.pairs) state in
            omega (arith, same);
        casts = subst (λ (s : NodeState). AreMetTo n s.casts) (sym state) met;
        copies = subst (AreSentTo n) (sym sent) (All-nil (λ f. IsCastTo n f.body));
      }

  -- by the rule, if there is one
  follows_counts : (rule : Option Reaction) → IfSome rule (IsCounted n node) → Counts n node (follows node rule)
  follows_counts None counted = stays_counts _ refl refl
  follows_counts (Some r) counted = ends n node r counted r.state.status

  pub frame_counts : (frame : Frame) → IsCastTo n frame.body → Counts n node (act node (Takes frame))
  unfolding act
  frame_counts frame up = by_test (is_strange node frame)
    where
      by_test : (strange : Bool) → Counts n node
          (cond strange (refuses node) (follows node (rule_of_frame node.status node frame.from frame.body)))
      by_test true = stays_counts _ refl refl
      by_test false =
          follows_counts (rule_of_frame node.status node frame.from frame.body)
          (rule_counted n node met frame.from node.status frame.body up)

  pub start_counts : (start : Start) → StartsCastTo n start → Counts n node (act node (Starts start))
  unfolding act
  start_counts start up = follows_counts (rule_of_start node.status node start) (start_counted n node met node.status start up)

-- no start opens a session of joins
module _ (node : NodeState) where
  -- nor does the end of its step
  ends_open : (r : Reaction) (status : Status) → OpensNone node r
      → (carried_out (name_of node) (completed status r)).state.sessions.opened ≡ node.sessions.opened
  ends_open r Joining none = none
  ends_open r Core none = none
  ends_open r Leaving none = none
  ends_open r Gone none = none
  ends_open r Ceased none = none

  follows_open : (rule : Option Reaction) → IfSome rule (OpensNone node) → (follows node rule).state.sessions.opened ≡ node.sessions.opened
  follows_open None none = refl
  follows_open (Some r) none = ends_open r r.state.status none

  pub start_opens : (start : Start) → (act node (Starts start)).state.sessions.opened ≡ node.sessions.opened
  unfolding act
  start_opens start = follows_open (rule_of_start node.status node start) (start_opens_none node node.status start)
