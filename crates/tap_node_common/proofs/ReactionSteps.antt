-- A step of a rule, from the frames that were added.
-- Cited above: lay_step, messages_step, no_words, reconciled_is, reconciled_step, silent_step, words_step
use Rattle.std.proofs.Common.{◌≡◌, ℕ, ◌+◌, List, [], ◌++◌, length, refl, sym, ap, ◌∙◌, append_assoc, append-nil}
use Rattle.tap_table.specs.declared.tie.Tie.{Tie}
use Rattle.tap_pointer.specs.Pointers.{PointersValue, pair_of}
use Rattle.tap_pointer.specs.Reconcile.{reconcile_lays, reconciled}
use Rattle.tap_rule.specs.Node.{NodeState}
use Rattle.tap_rule.specs.Pointers.{lays_due, reconciles, takes_lay, with_reconciled}
use Rattle.tap_rule.specs.Reaction.{Message, Reaction, sends, stays, with_news, with_words}
use Rattle.tap_rule.specs.Event.{News as RuleNews}
use Rattle.tap_rule.specs.Event.News.{Nothing as NothingNews}
use Rattle.tap_node_common.specs.declared.news.News.{News}
use Rattle.tap_node_common.specs.declared.news.News.TheVariants.{Nothing}
use Rattle.tap_node_common.specs.declared.pointing.TakenLay.{TakenLay}
use Rattle.tap_node_common.specs.Pointing.{lay_taken}
use Rattle.tap_node_common.specs.Sender.{lay_bytes, message_bytes, node_sender, word_bytes}
use Rattle.tap_node_common.specs.StepsAs.{StepsAs, news_seen}
use Rattle.tap_node_common.proofs.Sending.{none_by_receiver}

module _ (node : NodeState) where
  -- no words have no bytes
  pub no_words : word_bytes (node_sender node) [] ≡ []
  no_words = rw none_by_receiver refl

  -- messages alone, with this news
  pub messages_step : (after : NodeState) (messages : List Message) (news : RuleNews) (before sent : List (List ℕ))
      → sent ≡ before ++ message_bytes (node_sender node) messages
      → StepsAs node (with_news news (sends after messages)) after before sent (news_seen news)
  messages_step after messages news before sent is = record {
    state = refl;
    frames =
        is ∙ ap (λ rest. before ++ rest) (sym (append-nil (message_bytes (node_sender node) messages)))
        ∙ ap (λ first. before ++ (first ++ (message_bytes (node_sender node) messages ++ []))) (sym no_words);
    noted = refl;
  }

  -- nothing is sent
  pub silent_step : (after : NodeState) (news : RuleNews) (before : List (List ℕ))
      → StepsAs node (with_news news (sends after [])) after before before (news_seen news)
  silent_step after news before = messages_step after [] news before before (sym (append-nil before))

  -- words, and then messages
  pub words_step : (after : NodeState) (words : List Tie) (messages : List Message) (news : RuleNews) (before sent : List (List ℕ))
      → sent ≡ (before ++ word_bytes (node_sender node) words) ++ message_bytes (node_sender node) messages
      → StepsAs node (with_words words (with_news news (sends after messages))) after before sent (news_seen news)
  words_step after words messages news before sent is = record {
    state = refl;
    frames =
        is ∙ append_assoc before (word_bytes (node_sender node) words) (message_bytes (node_sender node) messages)
        ∙ ap (λ rest. before ++ (word_bytes (node_sender node) words ++ rest))
        (sym (append-nil (message_bytes (node_sender node) messages)));
    noted = refl;
  }

  -- a step that then reconciles: the Lays are added to the frames of the step before
  pub reconciled_step : (r : Reaction) (after middle : NodeState) (before added sent : List (List ℕ)) (news : News) → r.lays ≡ []
      → StepsAs node r middle before added news → after ≡ with_reconciled middle
      → sent ≡ added ++ lay_bytes (node_sender node) (lays_due middle) → StepsAs node (reconciles r) after before sent news
  reconciled_step r after middle before added sent news none steps is lays = record {
    state = is ∙ ap with_reconciled steps.state;
    frames = lays ∙ ap (λ l. added ++ lay_bytes (node_sender node) (lays_due l)) steps.state ∙ all_frames;
    noted = steps.noted;
  }
    where
      words : List (List ℕ)
      words = word_bytes (node_sender node) r.words

      messages : List (List ℕ)
      messages = message_bytes (node_sender node) r.messages

      due : List (List ℕ)
      due = lay_bytes (node_sender node) (lays_due r.state)

      all_frames : added ++ due ≡ before ++ (words ++ (messages ++ due))
      all_frames =
          ap (λ l. l ++ due) (steps.frames
          ∙ ap (λ l. before ++ (words ++ (messages ++ lay_bytes (node_sender node) l))) none
          ∙ ap (λ l. before ++ (words ++ l)) (append-nil messages))
          ∙ append_assoc before (words ++ messages) due
          ∙ ap (λ l. before ++ l) (append_assoc words messages due)

-- a node left with pointers and a stamp that are reconciled
pub reconciled_is : (node : NodeState) (pointers : PointersValue) (stamp : ℕ) → pointers ≡ reconciled node.ties.table node.pointers
    → stamp ≡ node.stamp + length (lays_due node) → record node { pointers = pointers; stamp = stamp } ≡ with_reconciled node
reconciled_is node pointers stamp same numbered = rw (same, numbered) refl

-- a Lay that is taken
pub lay_step : (node : NodeState) (lay : TakenLay) (pointers : PointersValue) (stamp : ℕ) (before sent : List (List ℕ))
    → pointers ≡ reconciled node.ties.table (lay_taken node.pointers lay)
    → stamp ≡ node.stamp + length (reconcile_lays node.ties.table node.stamp (lay_taken node.pointers lay))
    → sent ≡ before ++ lay_bytes (node_sender node) (reconcile_lays node.ties.table node.stamp (lay_taken node.pointers lay))
    → StepsAs node (reconciles (takes_lay node lay.from (pair_of lay.object lay.server) lay.level lay.version lay.on))
    (record node { pointers = pointers; stamp = stamp }) before sent Nothing
lay_step node lay pointers stamp before sent same numbered lays =
    let middle : NodeState = record node { pointers = lay_taken node.pointers lay } in
    reconciled_step node (stays middle) (record node { pointers = pointers; stamp = stamp }) middle before before sent Nothing refl
    (silent_step node middle NothingNews before) (reconciled_is middle pointers stamp same numbered) lays
