-- What a rule sends is no copy of a cast that is deeper than its level, if what it takes is none.
use Rattle.std.proofs.Common.{ℕ, ◌≤◌, Bool, true, false, cond, List, ◌<◌, All, subst, arith}
use Rattle.std.specs.Prelude.{IfSome, is_none}
use Rattle.tap_table.specs.Levels.{sent_from}
use Rattle.tap_table.specs.Table.{IsTable}
use Rattle.tap_cast.specs.declared.casts.CastTurn.{CastTurn}
use Rattle.tap_cast.specs.declared.casts.CastTurn.TheVariants.{Already as CastAlready, Now as CastNow}
use Rattle.tap_cast.specs.declared.target.CastTarget.{CastTarget}
use Rattle.tap_cast.specs.Casts.{level_of_cast, turn_of}
use Rattle.tap_cast.specs.Targets.{cast_targets}
use Rattle.tap_cast.proofs.Casting.{targets_are}
use Rattle.tap_table.specs.Levels.{is_kept}
use Rattle.tap_wire.specs.declared.frame.Body.{Body}
use Rattle.tap_safety_moves.specs.Shallow.{IsShallow}
use Rattle.tap_table.specs.Levels.{is_kept, sent_from}
use Rattle.tap_table.specs.Table.{IsTable}
use Rattle.tap_rule.specs.Node.{NodeState, Status}
use Rattle.tap_rule.specs.Event.{Start}
use Rattle.tap_rule.specs.Reaction.{Message, Reaction}
use Rattle.tap_rule.specs.Casts.{Copy}
use Rattle.tap_rule.specs.FrameRules.{rule_of_frame}
use Rattle.tap_rule.specs.StartRules.{rule_of_start}
use Rattle.tap_rule.proofs.Cases.{Cause, IsCast, IsNamed}
use Rattle.tap_rule.proofs.Cases.Cause.{Takes, Starts}
use Rattle.tap_rule.proofs.Cases.IsCast.{ByStart, ByCopy}
use Rattle.tap_rule.proofs.Cases.IsNamed.{CastOn}
use Rattle.tap_rule.proofs.Named.{each_case}

-- these messages are no copies of casts that are deeper than their levels
abbrev pub AreShallowMessages : List Message → Type 0
AreShallowMessages messages = All (λ m. IsShallow m.body) messages

-- such messages are sent by a rule
abbrev pub SendsShallow : Reaction → Type 0
SendsShallow r = AreShallowMessages r.messages

-- ---- rules

module _ (node : NodeState) (valid : IsTable node.ties.table) where
  abbrev IsShallowCause : Cause → Type 0
  IsShallowCause (Takes from body) = IsShallow body
  IsShallowCause (Starts start) = Unit {0}

  cast_shallow : {cause : Cause} {copy : Copy} → IsCast node cause copy → IsShallowCause cause → copy.depth ≤ copy.level
  cast_shallow ByStart shallow = omega arith
  cast_shallow ByCopy shallow = shallow

  -- each target is at a level above the copy's, and so a copy for it, one deeper, is no deeper than its level
  abbrev IsAbove : ℕ → CastTurn → Type 0
  IsAbove level CastAlready = Unit {0}
  IsAbove level (CastNow first targets) = All (λ target. level < target.level) targets

  above : (copy : Copy) → IsAbove copy.level (turn_of node.casts node.ties.table copy.cast copy.level)
  above copy = by (is_kept (level_of_cast node.casts copy.cast) copy.level)
    where
      targets : List CastTarget
      targets = cast_targets node.ties.table copy.level (sent_from node.ties.table.settings.digits (level_of_cast node.casts copy.cast))

      by : (kept : Bool) → IsAbove copy.level (cond kept CastAlready (CastNow (is_none (level_of_cast node.casts copy.cast)) targets))
      by true = tt
      by false = λ k d within. (targets_are node.ties.table valid copy.level _ k d within).above

  named_shallow : {status : Status} {cause : Cause} → IsShallowCause cause → (m : Message) → IsNamed node status cause m → IsShallow m.body
  named_shallow shallow m (CastOn {copy = copy} k default of turn within) =
      let up = subst (IsAbove copy.level) turn (above copy) k default within in
      let low = cast_shallow of shallow in omega (arith, up, low)
  named_shallow shallow m _ = tt

pub rule_shallow : (node : NodeState) (from : List ℕ) → IsTable node.ties.table → (status : Status) (body : Body) → IsShallow body
    → IfSome (rule_of_frame status node from body) SendsShallow
rule_shallow node from valid status body shallow =
    each_case node _ SendsShallow status (Takes from body) (named_shallow node valid shallow) (λ r case sent. sent)

pub start_shallow : (node : NodeState) → IsTable node.ties.table → (status : Status) (start : Start)
    → IfSome (rule_of_start status node start) SendsShallow
start_shallow node valid status start =
    each_case node _ SendsShallow status (Starts start) (named_shallow node valid tt) (λ r case sent. sent)
