-- When the frames of a step have spellings.
-- Cited above: links_spelled
use Rattle.std.proofs.Common.{ℕ, ◌≤◌, List, [], ◌∷◌, All, map}
use Rattle.std.proofs.lemmas.List.Elements.{All-head, All-map, All-tail}
use Rattle.tap_name.specs.Settings.{SettingsValue}
use Rattle.tap_name.specs.Name.{IsName}
use Rattle.tap_name.specs.Word.{IsWord}
use Rattle.tap_name.specs.declared.slot.Slot.{Slot}
use Rattle.tap_table.specs.declared.tie.Tie.{Tie}
use Rattle.tap_wire.specs.declared.frame.Body.{Body}
use Rattle.tap_wire.specs.declared.frame.TellFields.{TellFields}
use Rattle.tap_wire.specs.Spelling.{IsBody, IsFrame, IsLevel, IsTell}
use Rattle.tap_multicast.specs.declared.target.Target.{Target}
use Rattle.tap_cast.specs.declared.target.CastTarget.{CastTarget}
use Rattle.tap_pointer.specs.declared.lay.Lay.{Lay}
use Rattle.tap_rule.specs.Reaction.{message, to_each}
use Rattle.tap_rule.specs.Sending.{by_receiver, lay_frame, link_frame, message_frame}
use Rattle.tap_node_common.specs.declared.cast_fields.CastFields.{CastFields}
use Rattle.tap_node_common.specs.Spellings.{HaveSpellings}
use Rattle.tap_node_common.specs.Targets.{cast_to, tell_to}
use Rattle.tap_node_common.proofs.ByReceiver.{all_inserted}

all_by_receiver : (P : Tie → Type 0) (words : List Tie) → All P words → All P (by_receiver words)
unfolding by_receiver
all_by_receiver P [] all = all
all_by_receiver P (word ∷ words) all =
    all_inserted P word (by_receiver words) (All-head P word words all) (all_by_receiver P words (All-tail P word words all))

module _ (p : SettingsValue) (from : List ℕ) (sender : IsName p from) where
  pub links_spelled : (words : List Tie) → All (λ word. IsName p word.to) words
      → HaveSpellings p (map (link_frame from) (by_receiver words))
  links_spelled words names =
      let receivers = all_by_receiver (λ word. IsName p word.to) words names in
      All-map (IsFrame p) (link_frame from) (by_receiver words) (λ k d within.
      record { sender = sender; receiver = receivers k d within; body = tt })

  pub each_spelled : (body : Body) (names : List (List ℕ)) → IsBody p body → All (IsName p) names
      → HaveSpellings p (map (message_frame from) (to_each body names))
  each_spelled body names is all =
      All-map (IsFrame p) (message_frame from) (to_each body names)
      (All-map (λ m. IsFrame p (message_frame from m)) (λ name. message name body) names (λ k d within.
      record { sender = sender; receiver = all k d within; body = is }))

  pub tells_spelled : (fields : TellFields) (watch : List Slot) (targets : List Target)
      → All (λ target. IsName p target.to × IsTell p fields.joiner fields.prefix target.level fields.session watch) targets
      → HaveSpellings p (map (message_frame from) (map (tell_to fields watch) targets))
  tells_spelled fields watch targets all =
      All-map (IsFrame p) (message_frame from) (map (tell_to fields watch) targets)
      (All-map (λ m. IsFrame p (message_frame from m)) (tell_to fields watch) targets (λ k d within.
      record { sender = sender; receiver = (all k d within).0; body = (all k d within).1 }))

  pub casts_spelled : (fields : CastFields) (targets : List CastTarget) → 1 ≤ fields.session → IsWord fields.word
      → All (λ target. IsName p target.to × IsLevel p target.level) targets
      → HaveSpellings p (map (message_frame from) (map (cast_to fields) targets))
  casts_spelled fields targets session word all =
      All-map (IsFrame p) (message_frame from) (map (cast_to fields) targets)
      (All-map (λ m. IsFrame p (message_frame from m)) (cast_to fields) targets (λ k d within.
      record { sender = sender; receiver = (all k d within).0; body = ((all k d within).1, session, word) }))

  pub lays_spelled : (lays : List Lay)
      → All (λ lay. IsName p lay.to × IsName p lay.object × IsName p lay.server × IsLevel p lay.level) lays
      → HaveSpellings p (map (lay_frame from) lays)
  lays_spelled lays all =
      All-map (IsFrame p) (lay_frame from) lays (λ k d within.
      let l = all k d within in record { sender = sender; receiver = l.0; body = (l.1, l.2, l.3) })
