-- What lookups say, after each move, and what a move notes of them.
-- Cited above: lookups_stay_of, no_lookups_at_rest, noted_answers_are_of, noted_delivery, noted_start, started_answer
use Rattle.std.proofs.Common.{◌≡◌, ℕ, Bool, true, List, Option, Some, ap, sym, subst, ◌∙◌, inl, inr}
use Rattle.std.specs.Option.{option_map}
use Rattle.tap_name.specs.Settings.{SettingsValue}
use Rattle.tap_pointer.specs.declared.pair.Pair.{Pair}
use Rattle.tap_pointer.specs.Pointers.{pair_of, server_for}
use Rattle.tap_wire.specs.declared.frame.Body.TheVariants.{Answer, Find}
use Rattle.tap_wire.specs.declared.frame.Frame.{Frame}
use Rattle.tap_rule.specs.Act.{act}
use Rattle.tap_rule.specs.Event.{News, Start}
use Rattle.tap_rule.specs.Event.Event.{Starts, Takes}
use Rattle.tap_rule.specs.Event.News.{Answered}
use Rattle.tap_rule.specs.Event.Start.{Find as StartFind, Join}
use Rattle.tap_rule.specs.Node.{NodeState, joiner}
use Rattle.tap_safety.specs.Move.{MayArrive, may_start}
use Rattle.tap_safety.specs.Move.Move.{Begins, Delivers}
use Rattle.tap_safety.specs.Moved.{starter}
use Rattle.tap_safety.specs.System.{System, AmongFrames, IsUnderWay}
use Rattle.tap_safety.proofs.Moved.{found}
use Rattle.tap_moves.specs.Delivered.{after_delivery, after_start}
use Rattle.tap_safety_moves.specs.Sound.{Sound}
use Rattle.tap_pointer_moves.specs.Ever.{AreOfPublished}
use Rattle.tap_pointer_moves.specs.LaysTold.{PointersStand}
use Rattle.tap_pointer_moves.proofs.Ever.{held_was_published}
use Rattle.tap_pointer_moves.proofs.Publications.{starter_of}
use Rattle.tap_pointer_moves.specs.LookupAnswers.{IsAnswerOf, IsAskedFor, LookupsAreOf, LookupsStayOf, NoLookupsAtRest, NotedAnswersAreOf, news_of, news_of_frame}
use Rattle.tap_pointer_moves.proofs.LookupActs.{frame_acts, frame_step, start_acts, start_came}
use Rattle.tap_pointer_moves.proofs.Held.{server_held}
use Rattle.tap_pointer_moves.proofs.LookupRules.{AnsweredAtOnce, AskNotes, FoundNotes}

-- ---- what a move notes

pub some_news : (there : Option NodeState) (one : NodeState) (of : NodeState → News) (news : News) → there ≡ Some one
    → option_map of there ≡ Some news → of one ≡ news
some_news there one of news is noted =
    let found : Some (of one) ≡ Some news = ap (option_map of) (sym is) ∙ noted in
    cc

-- a lookup that is answered as something starts is the one that starts
pub noted_start : (p : SettingsValue) (s : System) (x : List ℕ) (start : Start) (ticket : ℕ) (server : Option (List ℕ)) → may_start p s x start
    → news_of p s (Begins x start) ≡ Some (Answered ticket server) → (object : List ℕ) × (start ≡ StartFind ticket object)
noted_start p s x start ticket server may noted =
    elim (starter_of p s x start may) [
      | inl joins ↦ by_node (joiner p x) (ap (starter p s x) joins.1)
      | inr st ↦ by_node st.node st.is
    ]
  where
    by_node : (node : NodeState) → starter p s x start ≡ Some node → (object : List ℕ) × (start ≡ StartFind ticket object)
    by_node node is =
        let news = some_news (starter p s x start) node (λ n. (act n (Starts start)).news) (Answered ticket server) is noted in
        let once : AnsweredAtOnce node start ticket server = subst (AskNotes node start) news (start_acts node start).news in
        (once.object, once.is)

-- and one that is answered as a frame is taken has its Answer under way
pub noted_delivery : (p : SettingsValue) (s : System) (number ticket : ℕ) (server : Option (List ℕ)) → MayArrive s number → Sound p s
    → news_of p s (Delivers number) ≡ Some (Answered ticket server)
    → (from : List ℕ) × (to : List ℕ) × IsUnderWay s from to (Answer ticket server)
noted_delivery p s number ticket server may sound noted =
    let frame = may.frame in
    let node = may.receiver.state in
    let is = found number frame 0 s.frames s.next sound.invariant.basis.numbered.numbers may.among in
    let there : news_of_frame s (Some frame) ≡ Some (Answered ticket server) = ap (news_of_frame s) (sym is) ∙ noted in
    let news = some_news (s.node frame.to) node (λ n. (act n (Takes frame)).news) (Answered ticket server) may.receiver.is there in
    let body : frame.body ≡ Answer ticket server = subst (FoundNotes frame.body) news (frame_acts node frame).news in (
      frame.from,
      frame.to,
      record {
        number = number;
        among = subst (λ b. AmongFrames number (record { from = frame.from; to = frame.to; body = b }) s.frames) body may.among;
      },
    )

-- no start sends an Answer
pub started_answer : (p : SettingsValue) (s : System) (x : List ℕ) (start : Start) (from to : List ℕ) (ticket : ℕ) (server : Option (List ℕ))
    → may_start p s x start → Sound p s → IsUnderWay (after_start p s x start) from to (Answer ticket server)
    → IsUnderWay s from to (Answer ticket server)
started_answer p s x start from to ticket server may sound way =
    elim (starter_of p s x start may) [
      | inl joins ↦ by_node (joiner p x) (ap (starter p s x) joins.1)
      | inr st ↦ by_node st.node st.is
    ]
  where
    by_node : (node : NodeState) → starter p s x start ≡ Some node → IsUnderWay s from to (Answer ticket server)
    by_node node is =
        elim (start_came p s sound x start node is from to (Answer ticket server) way) [ inl old ↦ old | inr new ↦ absurd new ]

-- ---- after a frame, and after a start

module _ (asked : ℕ → List ℕ → Bool) (was : Pair → Bool) (p : SettingsValue) (s : System) (sound : Sound p s) (stand : PointersStand s)
    (ever : AreOfPublished was s) (before : LookupsAreOf asked was s) where
  -- the least server that a node holds
  server_was : (x : List ℕ) (node : NodeState) (object : List ℕ) (server : Option (List ℕ)) → s.node x ≡ Some node
      → server_for node.pointers object ≡ server → (name : List ℕ) → server ≡ Some name → was (pair_of object name) ≡ true
  server_was x node object server at held name is =
      let of = sound.nodes.nodes x node at in
      held_was_published s was x (pair_of object name) stand ever (record {
        state = node;
        is = at;
        held = server_held object name node.pointers.pairs of.is_node.pointers.ascending (held ∙ is);
      })

  module _ (number : ℕ) (frame : Frame) (node : NodeState) (among : AmongFrames number frame s.frames) (at : s.node frame.to ≡ Some node)
    where
      find_taken : (ticket : ℕ) (object asker : List ℕ) (level : ℕ) → frame.body ≡ Find ticket object asker level → asked ticket object ≡ true
      find_taken ticket object asker level is =
          before.finds frame.from frame.to ticket object asker level (record {
            number = number;
            among = subst (λ b. AmongFrames number (record { from = frame.from; to = frame.to; body = b }) s.frames) is among;
          })

      delivered_of : LookupsAreOf asked was (after_delivery p s number)
      delivered_of =
          let step = frame_step p s sound number frame node among at in
          record {
            finds = λ from to ticket object asker level way. elim (step.came from to (Find ticket object asker level) way) [
              | inl old ↦ before.finds from to ticket object asker level old
              | inr new ↦ find_taken ticket object asker new.level new.is
            ];
            answers = λ from to ticket server way. elim (step.came from to (Answer ticket server) way) [
              | inl old ↦ before.answers from to ticket server old
              | inr new ↦ record {
                object = new.object;
                asks = find_taken ticket new.object to new.level new.is;
                served = server_was frame.to node new.object server at new.held;
              }
            ];
          }

  module _ (x : List ℕ) (start : Start) (asks : (ticket : ℕ) (object : List ℕ) → start ≡ StartFind ticket object → asked ticket object ≡ true)
      (node : NodeState) (is : starter p s x start ≡ Some node) where
    started_of : LookupsAreOf asked was (after_start p s x start)
    started_of = record {
      finds = λ from to ticket object asker level way.
          elim (start_came p s sound x start node is from to (Find ticket object asker level) way) [
            | inl old ↦ before.finds from to ticket object asker level old
            | inr new ↦ asks ticket object new.is
          ];
      answers = λ from to ticket server way. elim (start_came p s sound x start node is from to (Answer ticket server) way) [
        | inl old ↦ before.answers from to ticket server old
        | inr new ↦ absurd new
      ];
    }

    started_noted : s.node x ≡ Some node → (ticket : ℕ) (server : Option (List ℕ)) → (act node (Starts start)).news ≡ Answered ticket server
        → IsAnswerOf asked was ticket server
    started_noted at ticket server noted =
        let once : AnsweredAtOnce node start ticket server = subst (AskNotes node start) noted (start_acts node start).news in
        record {
          object = once.object;
          asks = asks ticket once.object once.is;
          served = server_was x node once.object server at once.held;
        }

    joined_noted : (via : List ℕ) → start ≡ Join via → (ticket : ℕ) (server : Option (List ℕ))
        → (act node (Starts start)).news ≡ Answered ticket server → ⊥
    joined_noted via joins ticket server noted =
        let once : AnsweredAtOnce node start ticket server = subst (AskNotes node start) noted (start_acts node start).news in
        let wrong : Join via ≡ StartFind ticket once.object = sym joins ∙ once.is in
        cc

-- ---- all moves

asks_of : (asked : ℕ → List ℕ → Bool) (x : List ℕ) (start : Start) → IsAskedFor asked (Begins x start) → (ticket : ℕ) (object : List ℕ)
    → start ≡ StartFind ticket object → asked ticket object ≡ true
asks_of asked x start for ticket object is = for x ticket object (ap (Begins x) is)

pub lookups_stay_of : LookupsStayOf
lookups_stay_of p s (Begins x start) asked was may sound stand ever for before =
    elim (starter_of p s x start may) [
      | inl joins ↦
          started_of asked was p s sound stand ever before x start (asks_of asked x start for) (joiner p x) (ap (starter p s x) joins.1)
      | inr st ↦ started_of asked was p s sound stand ever before x start (asks_of asked x start for) st.node st.is
    ]
lookups_stay_of p s (Delivers number) asked was may sound stand ever for before =
    delivered_of asked was p s sound stand ever before number may.frame may.receiver.state may.among may.receiver.is

pub noted_answers_are_of : NotedAnswersAreOf
noted_answers_are_of p s (Begins x start) asked was may sound stand ever for before ticket server noted =
    elim (starter_of p s x start may) [
      | inl joins ↦
          let is : starter p s x start ≡ Some (joiner p x) = ap (starter p s x) joins.1 in
          absurd (joined_noted asked was p s sound stand ever before x start (asks_of asked x start for) (joiner p x) is joins.0 joins.1
          ticket server
          (some_news (starter p s x start) (joiner p x) (λ node. (act node (Starts start)).news) (Answered ticket server) is noted))
      | inr st ↦
          started_noted asked was p s sound stand ever before x start (asks_of asked x start for) st.node st.is st.at ticket server
          (some_news (starter p s x start) st.node (λ node. (act node (Starts start)).news) (Answered ticket server) st.is noted)
    ]
noted_answers_are_of p s (Delivers number) asked was may sound stand ever for before ticket server noted =
    let came = noted_delivery p s number ticket server may sound noted in
    before.answers came.0 came.1 ticket server came.2

pub no_lookups_at_rest : NoLookupsAtRest
no_lookups_at_rest p members asked was are = record {
  finds = λ from to ticket object asker level way. absurd way.among;
  answers = λ from to ticket server way. absurd way.among;
}
