-- Whether frames are stranded, by how many packets are under way and how many frames await.
use Rattle.std.proofs.Common.{◌≡◌, ℕ, ◌≤◌, Bool, false, true, not, List, [], ◌∷◌, length, map, refl, ap, sym, ◌∙◌, arith}
use Rattle.std.specs.Prelude.{◌&&◌, nat_lt}
use Rattle.std.proofs.lemmas.Bool.{ltb-false, ltb-true}
use Rattle.tap_log.specs.declared.record.Record.{Record}
use Rattle.tap_history.specs.Moments.{awaiting, is_none}
use Rattle.tap_packets.specs.Packets.{PacketLine, lines_under_way}
use Rattle.tap_packets.proofs.GroupsCome.{groups_follow_hold}
use Rattle.tap_lawful.specs.CarriedDue.{is_stranded}

none_so : {X : Type 0} (f : X → ℕ) (xs : List X) → length xs ≡ 0 → is_none (map f xs) ≡ true
none_so f [] none = refl
none_so f (x ∷ xs) some = absurd (omega (arith, some))

some_so : {X : Type 0} (f : X → ℕ) (xs : List X) → 1 ≤ length xs → is_none (map f xs) ≡ false
some_so f [] none = absurd (omega (arith, none))
some_so f (x ∷ xs) some = refl

none_here : (xs : List ℕ) → length xs ≡ 0 → is_none xs ≡ true
none_here [] none = refl
none_here (x ∷ xs) some = absurd (omega (arith, some))

some_here : (xs : List ℕ) → 1 ≤ length xs → is_none xs ≡ false
some_here [] none = absurd (omega (arith, none))
some_here (x ∷ xs) some = refl

module _ (log : List Record) where
  -- a packet is under way
  pub packets_left : 1 ≤ length (lines_under_way log) → is_stranded log ≡ false
  packets_left some =
      ap (λ b. b && not (is_none (awaiting log)))
      (ap is_none (groups_follow_hold.under_way log) ∙ some_so (λ (line : PacketLine). line.number) (lines_under_way log) some)

  no_packets : length (lines_under_way log) ≡ 0 → is_stranded log ≡ not (is_none (awaiting log))
  no_packets none =
      ap (λ b. b && not (is_none (awaiting log)))
      (ap is_none (groups_follow_hold.under_way log) ∙ none_so (λ (line : PacketLine). line.number) (lines_under_way log) none)

  -- none is, and no frame awaits, or one does
  pub none_awaits : length (lines_under_way log) ≡ 0 → length (awaiting log) ≡ 0 → is_stranded log ≡ false
  none_awaits none awaits = no_packets none ∙ ap not (none_here (awaiting log) awaits)

  pub one_awaits : length (lines_under_way log) ≡ 0 → 1 ≤ length (awaiting log) → is_stranded log ≡ true
  one_awaits none awaits = no_packets none ∙ ap not (some_here (awaiting log) awaits)

  -- by how many frames await
  pub stranded_by : (count : ℕ) → length (lines_under_way log) ≡ 0 → count ≡ length (awaiting log) → nat_lt 0 count ≡ is_stranded log
  stranded_by count none is = by (nat_lt 0 count) refl
    where
      by : (some : Bool) → nat_lt 0 count ≡ some → some ≡ is_stranded log
      by true at = let there = ltb-true 0 count at in sym (one_awaits none (omega (arith, there, is)))
      by false at = let few = ltb-false 0 count at in sym (none_awaits none (omega (arith, few, is)))
