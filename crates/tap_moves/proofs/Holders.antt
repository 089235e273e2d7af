-- The holders of a node that are on are those that are registered so; and what a node says at its end.
use Rattle.std.proofs.Common.{◌≡◌, inl, inr, ℕ, ◌+◌, Bool, true, false, List, [], ◌∷◌, Option, None, Some, refl, sym, ap, subst, ◌∙◌}
use Rattle.tap_name.specs.Names.{Among}
use Rattle.tap_register.specs.declared.registers.Entry.{Entry}
use Rattle.tap_table.specs.declared.tie.Tie.{Tie}
use Rattle.tap_table.specs.Ties.{AreTies, holders_on, off_ties, says_on}
use Rattle.tap_table.proofs.HoldersFound.{on_exactly}
use Rattle.tap_wire.specs.declared.frame.Body.{Body}
use Rattle.tap_wire.specs.declared.frame.Body.TheVariants.{Gone, Link}
use Rattle.tap_wire.specs.declared.frame.Frame.{Frame}
use Rattle.tap_rule.specs.Node.{NodeState, word_of}
use Rattle.tap_rule.specs.Reaction.{Message, message, to_each}
use Rattle.tap_rule.specs.Sent.{AreSent, IsAmong}
use Rattle.tap_rule.proofs.Among.{among-map, among-map_from}
use Rattle.tap_safety.specs.Ceased.{IsRegistered}
use Rattle.tap_safety.specs.Remembered.{Leaver, TieWord}
use Rattle.tap_safety.specs.Exchanges.{IsSent}
use Rattle.tap_safety.specs.System.{System}
use Rattle.tap_safety.specs.Ties.{register_in, register_of, tie_word_kept}
use Rattle.tap_moves.proofs.WordsAnew.{among_names}
use Rattle.tap_moves.proofs.HasLeft.{IsFarewell}

-- ---- registers

-- a word that is kept says whether its holder is on, and the other way round
kept_says : (entry : Option (Entry (List ℕ) Bool)) (word : TieWord) → tie_word_kept entry ≡ Some word → word.on ≡ true → says_on entry ≡ true
kept_says None word is on = cc
kept_says (Some e) word is on =
    let same : record { version = e.version; on = e.value } ≡ word = cc in
    ap (λ (w : TieWord). w.on) same ∙ on

says_kept : (entry : Option (Entry (List ℕ) Bool)) → says_on entry ≡ true → (word : TieWord) × (tie_word_kept entry ≡ Some word) × (word.on ≡ true)
says_kept None says = cc
says_kept (Some e) says = (record { version = e.version; on = e.value }, refl, says)

-- what a register has
register_is : (s : System) (x : List ℕ) (node : NodeState) (y : List ℕ) → s.node x ≡ Some node
    → register_of s x y ≡ tie_word_kept (word_of node y)
unfolding register_of
register_is s x node y at = ap (λ (found : Option NodeState). register_in found y) at

module _ (s : System) (x : List ℕ) (node : NodeState) (ties : AreTies node.ties) (at : s.node x ≡ Some node) (y : List ℕ) where
  -- who is registered as on is a holder that is on
  pub registered_holds : IsRegistered s y x → Among y (holders_on node.ties)
  registered_holds registered =
      let kept = sym (register_is s x node y at) ∙ registered.is in
      (on_exactly node.ties ties y).1 (kept_says (word_of node y) registered.word kept registered.on)

  -- and the other way round
  pub holder_registered : Among y (holders_on node.ties) → IsRegistered s y x
  holder_registered among =
      let kept = says_kept (word_of node y) ((on_exactly node.ties ties y).0 among) in
      record { word = kept.0; on = kept.2; is = register_is s x node y at ∙ kept.1 }

-- ---- what is said at the end

-- each word of a node that ends is that there is no link
pub off_off : (last : ℕ) (names : List (List ℕ)) (word : Tie) → IsAmong word (off_ties last names) → word.on ≡ false
off_off last [] word among = absurd among
off_off last (name ∷ names) word (inl is) = ap (λ (w : Tie). w.on) is
off_off last (name ∷ names) word (inr later) = off_off (last + 1) names word later

module _ (leaver : Leaver) (last : ℕ) (targets holders : List (List ℕ)) (sent : List Frame)
    (are : AreSent leaver.name (off_ties last targets) (to_each Gone holders) sent) where
  -- each frame is a farewell
  pub farewell_sent : (y t : List ℕ) (body : Body) → IsSent sent y t body → IsFarewell leaver y t body
  farewell_sent y t body sends =
      elim (are.each (record { from = y; to = t; body = body }) sends) [
        | inl link ↦
            let off : IsFarewell leaver leaver.name link.word.to (Link link.word.version link.word.on) =
            subst (λ on. IsFarewell leaver leaver.name link.word.to (Link link.word.version on))
            (sym (off_off last targets link.word link.among)) tt in
            subst (λ (f : Frame). IsFarewell leaver f.from f.to f.body) (sym link.is) off
        | inr (inl named) ↦
            let found = among-map_from (λ name. message name Gone) named.message holders named.among in
            let gone = subst (λ (m : Message). IsFarewell leaver leaver.name m.to m.body) (sym found.2) refl in
            subst (λ (f : Frame). IsFarewell leaver f.from f.to f.body) (sym named.is) gone
        | inr (inr lay) ↦ subst (λ (f : Frame). IsFarewell leaver f.from f.to f.body) (sym lay.is) tt
      ]

  -- and each holder is told
  pub gone_sent : (y : List ℕ) → Among y holders → IsSent sent leaver.name y Gone
  gone_sent y among = are.named (message y Gone) (among-map (λ name. message name Gone) y holders (among_names y holders among))
