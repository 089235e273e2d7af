-- The frames that a node sends keep the rules of their fields, and come in the order of a reaction.
-- Cited above: all_words_of, messages_spelled
use Rattle.std.proofs.Common.{◌≡◌, ℕ, List, [], ◌∷◌, map, Option, None, Some, All, refl, inl, inr}
use Rattle.std.specs.Prelude.{IfSome}
use Rattle.std.specs.Ordering.{is_gt}
use Rattle.std.proofs.lemmas.Bool.{cases_Bool}
use Rattle.std.proofs.lemmas.List.Elements.{All-cons, All-head, All-map, All-nil, All-tail}
use Rattle.tap_name.specs.Name.{IsName}
use Rattle.tap_name.specs.Order.{name_cmp}
use Rattle.tap_table.specs.declared.tie.Tie.{Tie}
use Rattle.tap_pointer.specs.declared.lay.Lay.{Lay}
use Rattle.tap_wire.specs.declared.frame.Body.{Body}
use Rattle.tap_wire.specs.Spelling.{IsBody, IsFrame}
use Rattle.tap_join.specs.Hello.{words_of}
use Rattle.tap_rule.specs.Reaction.{Message, message, to_each}
use Rattle.tap_rule.specs.Sending.{by_receiver, inserted_by_receiver, lay_frame, link_frame, message_frame}
use Rattle.tap_node_common.specs.Spellings.{HaveSpellings}
use Rattle.tap_node_common.specs.declared.sender.Sender.{Sender}
use Rattle.tap_node_common.specs.Sender.{IsLayOf}

-- what holds of each word holds of each of them by receiver
all_inserted : (P : Tie → Type 0) (word : Tie) (words : List Tie) → P word → All P words → All P (inserted_by_receiver word words)
unfolding inserted_by_receiver
all_inserted P word [] is all = All-cons P word [] is (All-nil P)
all_inserted P word (first ∷ others) is all =
    elim (cases_Bool (is_gt (name_cmp word.to first.to))) [
      | inl later ↦
          rw later (All-cons P first (inserted_by_receiver word others) (All-head P first others all)
          (all_inserted P word others is (All-tail P first others all)))
      | inr before ↦ rw before (All-cons P word (first ∷ others) is all)
    ]

pub all_by_receiver : (P : Tie → Type 0) (words : List Tie) → All P words → All P (by_receiver words)
unfolding by_receiver
all_by_receiver P [] all = All-nil P
all_by_receiver P (word ∷ words) all =
    all_inserted P word (by_receiver words) (All-head P word words all) (all_by_receiver P words (All-tail P word words all))

-- the words that there are: one or none
pub all_words_of : (P : Tie → Type 0) (word : Option Tie) → IfSome word P → All P (words_of word)
all_words_of P None is = All-nil P
all_words_of P (Some word) is = All-cons P word [] is (All-nil P)

pub none_by_receiver : by_receiver [] ≡ []
unfolding by_receiver
none_by_receiver = refl

module _ (sender : Sender) (own : IsName sender.settings sender.name) where
  pub links_spelled : (words : List Tie) → All (λ w. IsName sender.settings w.to) words
      → HaveSpellings sender.settings (map (link_frame sender.name) (by_receiver words))
  links_spelled words names =
      All-map (IsFrame sender.settings) (link_frame sender.name) (by_receiver words)
      (λ k d within.
      record { sender = own; receiver = all_by_receiver (λ w. IsName sender.settings w.to) words names k d within; body = tt })

  pub messages_spelled : (messages : List Message) → All (λ m. IsName sender.settings m.to) messages
      → All (λ m. IsBody sender.settings m.body) messages
      → HaveSpellings sender.settings (map (message_frame sender.name) messages)
  messages_spelled messages names bodies =
      All-map (IsFrame sender.settings) (message_frame sender.name) messages
      (λ k d within. record { sender = own; receiver = names k d within; body = bodies k d within })

  pub each_spelled : (body : Body) (names : List (List ℕ)) → All (IsName sender.settings) names → IsBody sender.settings body
      → HaveSpellings sender.settings (map (message_frame sender.name) (to_each body names))
  each_spelled body names are is =
      messages_spelled (to_each body names)
      (All-map (λ m. IsName sender.settings m.to) (λ name. message name body) names are)
      (All-map (λ m. IsBody sender.settings m.body) (λ name. message name body) names (λ k d within. is))

  pub lays_spelled : (lays : List Lay) → All (IsLayOf sender.settings) lays
      → HaveSpellings sender.settings (map (lay_frame sender.name) lays)
  lays_spelled lays are =
      All-map (IsFrame sender.settings) (lay_frame sender.name) lays
      (λ k d within.
      let is = are k d within in
      record { sender = own; receiver = is.to; body = (is.object, is.server, is.level) })

  pub one_spelled : (m : Message) → IsName sender.settings m.to → IsBody sender.settings m.body
      → HaveSpellings sender.settings (map (message_frame sender.name) (m ∷ []))
  one_spelled m to body =
      messages_spelled (m ∷ []) (All-cons (λ n. IsName sender.settings n.to) m [] to (All-nil (λ n. IsName sender.settings n.to)))
      (All-cons (λ n. IsBody sender.settings n.body) m [] body (All-nil (λ n. IsBody sender.settings n.body)))
