-- Which events have a rule, and that nothing changes at the others.
use Rattle.std.proofs.Common.{◌≡◌, ◌≢◌, ◌↔◌, Bool, cond, List, ℕ, Option, None, Some, true, false, refl, sym, ◌∙◌}
use Rattle.std.specs.Bool.{Decides}
use Rattle.std.specs.Option.{is_some}
use Rattle.std.specs.Set.{is_member}
use Rattle.std.proofs.lemmas.Map.Made.{is_member-Decides}
use Rattle.tap_wire.specs.declared.frame.Body.{Body}
use Rattle.tap_wire.specs.Kind.{kind_of}
use Rattle.tap_wire.specs.declared.frame.Body.TheVariants.{Seek}
use Rattle.tap_rule.specs.Node.{NodeState, Status}
use Rattle.tap_rule.specs.Node.Status.{Joining, Core, Leaving, Gone, Ceased}
use Rattle.tap_rule.specs.Event.{Start}
use Rattle.tap_rule.specs.Event.Start.{Join}
use Rattle.tap_rule.specs.Reaction.{Reaction}
use Rattle.tap_rule.specs.Strange.{is_strange}
use Rattle.tap_rule.specs.FrameRules.{frame_at_ceased, frame_at_core, frame_at_joining, frame_at_leaving, rule_of_frame}
use Rattle.tap_rule.specs.StartRules.{rule_of_start}
use Rattle.tap_rule.specs.Act.{act, follows, refuses}
use Rattle.tap_rule.specs.HasRule.{made_by, taken_by}
use Rattle.tap_rule.specs.RuleLaws.{HasRuleLaw, HasStartRuleLaw, WithoutRuleLaw, WithoutStartRuleLaw}
use Rattle.tap_rule.proofs.CarriedOut.{unruled_law, unruled_start_law}

-- two statuses are the same
abbrev is_same : Status → Status → Bool
is_same Joining Joining = true
is_same Core Core = true
is_same Leaving Leaving = true
is_same Gone Gone = true
is_same Ceased Ceased = true
is_same _ _ = false

is_same-Decides : (a b : Status) → Decides (is_same a b) (a ≡ b)
is_same-Decides Joining Joining = (λ same. refl, λ is. refl)
is_same-Decides Core Core = (λ same. refl, λ is. refl)
is_same-Decides Leaving Leaving = (λ same. refl, λ is. refl)
is_same-Decides Gone Gone = (λ same. refl, λ is. refl)
is_same-Decides Ceased Ceased = (λ same. refl, λ is. refl)
is_same-Decides _ _ = (λ same. absurd cc, λ is. absurd cc)

-- whether there is a rule, by status and kind
frame_ruled : (status : Status) (node : NodeState) (from : List ℕ) (body : Body)
    → is_some (rule_of_frame status node from body) ≡ is_member is_same (taken_by (kind_of body)) status
unfolding taken_by frame_at_joining frame_at_core frame_at_leaving frame_at_ceased
frame_ruled Joining node from (Seek joiner) = refl
frame_ruled Joining node from _ = refl
frame_ruled Core node from (Seek joiner) = refl
frame_ruled Core node from _ = refl
frame_ruled Leaving node from (Seek joiner) = refl
frame_ruled Leaving node from _ = refl
frame_ruled Gone node from (Seek joiner) = refl
frame_ruled Gone node from _ = refl
frame_ruled Ceased node from (Seek joiner) = refl
frame_ruled Ceased node from _ = refl

start_ruled : (status : Status) (node : NodeState) (start : Start)
    → is_some (rule_of_start status node start) ≡ is_same status (made_by start)
unfolding made_by
start_ruled Joining node (Join via) = refl
start_ruled Joining node _ = refl
start_ruled Core node (Join via) = refl
start_ruled Core node _ = refl
start_ruled Leaving node (Join via) = refl
start_ruled Leaving node _ = refl
start_ruled Gone node (Join via) = refl
start_ruled Gone node _ = refl
start_ruled Ceased node (Join via) = refl
start_ruled Ceased node _ = refl

-- there is a rule, exactly if the test says so that decides it
some_exactly : {P : Type 0} (rule : Option Reaction) (test : Bool) → is_some rule ≡ test → Decides test P → (rule ≢ None) ↔ P
some_exactly None test same decides =
    (λ some. absurd (some refl), λ holds none. let is : false ≡ true = same ∙ decides.1 holds in absurd cc)
some_exactly (Some r) test same decides = (λ some. decides.0 (sym same), λ holds none. absurd cc)

none_if_not_some : (rule : Option Reaction) → ((rule ≢ None) → ⊥) → rule ≡ None
none_if_not_some None not_some = refl
none_if_not_some (Some r) not_some = absurd (not_some (λ none. absurd cc))

pub has_rule_law : HasRuleLaw
has_rule_law node from body =
    some_exactly (rule_of_frame node.status node from body) (is_member is_same (taken_by (kind_of body)) node.status)
    (frame_ruled node.status node from body) (is_member-Decides is_same-Decides (taken_by (kind_of body)) node.status)

pub has_start_rule_law : HasStartRuleLaw
has_start_rule_law node start =
    some_exactly (rule_of_start node.status node start) (is_same node.status (made_by start)) (start_ruled node.status node start)
    (is_same-Decides node.status (made_by start))

-- a step that follows a rule, or none, isn't refused
follows_taken : (node : NodeState) (rule : Option Reaction) → (follows node rule).strange ≡ false
follows_taken node None = refl
follows_taken node (Some r) = refl

refused_exactly : (node : NodeState) (rule : Option Reaction) (strange : Bool)
    → (cond strange (refuses node) (follows node rule)).strange ≡ strange
refused_exactly node rule true = refl
refused_exactly node rule false = follows_taken node rule

pub without_rule_law : WithoutRuleLaw
unfolding act
without_rule_law node frame without =
    let rule = rule_of_frame node.status node frame.from frame.body in
    let none = none_if_not_some rule (λ some. without ((has_rule_law node frame.from frame.body).0 some)) in
    (unruled_law node frame none, refused_exactly node rule (is_strange node frame))

pub without_start_rule_law : WithoutStartRuleLaw
unfolding act
without_start_rule_law node start without =
    let rule = rule_of_start node.status node start in
    let none = none_if_not_some rule (λ some. without ((has_start_rule_law node start).0 some)) in
    (unruled_start_law node start none, follows_taken node rule)
