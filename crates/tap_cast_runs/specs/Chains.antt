-- Chains of Tells: each leads from the joiner's surrogate to the node that covers the joiner.
use Rattle.std.specs.Prelude.{◌≡◌, ℕ, List, [], ◌∷◌, None, Some}
use Rattle.std.specs.List.{last_or}
use Rattle.tap_name.specs.Prefix.{lcp}
use Rattle.tap_name.specs.Settings.{SettingsValue}
use Rattle.tap_name.specs.declared.slot.Slot.{Slot}
use Rattle.tap_wire.specs.declared.frame.TellFields.{TellFields}
use Rattle.tap_wire.specs.Spelling.{spelling}
use Rattle.tap_log.specs.declared.record.Record.{Record}
use Rattle.tap_log.specs.declared.record.Record.TheVariants.{Sent}
use Rattle.tap_rule.specs.Sent.{IsAmong}
use Rattle.tap_safety.specs.Frames.{tell_body}
use Rattle.tap_safety.specs.Move.{Move, may_move}
use Rattle.tap_safety.specs.Moved.{moved}
use Rattle.tap_safety.specs.System.{System, IsUnderWay}
use Rattle.tap_safety_moves.specs.Sound.{Sound}
use Rattle.tap_cast_runs.specs.SlotAnswers.{FirstCover, WatchMemory}
use Rattle.tap_cast_runs.specs.Recalled.{watch_recalled}

-- the chain begins with x, and ends with the surrogate of b, which shares so many digits with b
pub record ChainLeadsTo (s : System) (chain : List (List ℕ)) (x b : List ℕ) (prefix : ℕ) : Type 0 where
  pub above : List (List ℕ)
  pub first : chain ≡ x ∷ above
  pub surrogate : List ℕ
  pub seated : s.surrogate b ≡ Some surrogate
  pub last : last_or None chain ≡ Some surrogate
  pub shares : prefix ≡ lcp surrogate b

-- This holds of each chain, the node that it leads to, the joiner and its prefix: of that of each Tell under way, which leads to its sender, and of
-- each first cover.
pub record ChainsAre (Holds : List (List ℕ) → List ℕ → List ℕ → ℕ → Type 0) (s : System) (r : WatchMemory) : Type 0 where
  pub tells : (from to : List ℕ) (tell : TellFields) (watch : List Slot) → IsUnderWay s from to (tell_body tell watch)
      → Holds (r.chain from tell.session) from tell.joiner tell.prefix
  pub covers : (cover : FirstCover) → IsAmong cover r.covers → Holds cover.chain cover.table.owner cover.joiner cover.prefix

-- each chain leads from the surrogate to its node
abbrev pub ChainsLead : System → WatchMemory → Type 0
ChainsLead s r = ChainsAre (ChainLeadsTo s) s r

-- each possible move keeps it, if the whole invariant of joins holds before
abbrev pub MoveKeepsChains : Type 0
MoveKeepsChains = (p : SettingsValue) (s : System) (r : WatchMemory) (move : Move) → may_move p s move → Sound p s → ChainsLead s r
    → ChainsLead (moved p s move) (watch_recalled s r move)

-- ---- in the words of a log

-- the log says that y has sent x a Tell of b
pub record HasTold (p : SettingsValue) (log : List Record) (y x b : List ℕ) : Type 0 where
  pub number : ℕ
  pub tell : TellFields
  pub watch : List Slot
  pub joiner : tell.joiner ≡ b
  pub sent : IsAmong (Sent number (spelling p (record { from = y; to = x; body = tell_body tell watch }))) log

-- each node on the chain but the last was told of b by the next one
abbrev pub ChainIsTold : SettingsValue → List Record → List ℕ → List (List ℕ) → Type 0
ChainIsTold p log b [] = Unit {0}
ChainIsTold p log b (x ∷ []) = Unit {0}
ChainIsTold p log b (x ∷ y ∷ others) = HasTold p log y x b × ChainIsTold p log b (y ∷ others)
