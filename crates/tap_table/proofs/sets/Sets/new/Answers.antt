use Rattle.std.proofs.Common.{◌≡◌, ◌∙◌, ◌++◌, ap, arith, rules, length, take, [], refl}
use Rattle.std.proofs.Math.Seq.{take-nil}
use Rattle.tap_table.proofs.Slots.{empty_sets, made_alike}
use Rattle.tap_table.proofs.WithPrimaries.{kept_empty}
use Rattle.tap_table.proofs.sets.Sets.new.Goals as goal
use Rattle.tap_table.proofs.sets.Sets.new.Goals.{In_ok-vec}

-- each set that is made has no links
all_empty : (c : In_ok-vec) → c.resize_with.new.self.items ≡ empty_sets c.args.width c.args.slots
all_empty c =
    let made = c.in_ok-resize_with.ensures.items in
    let alike = made_alike _ (λ f. f.1.now ≡ c.args.width) (record { width = c.args.width; links = [] })
    (λ f y next is called. search rules) made.0 _ made.1 refl made.3 in
    let none = ap (take c.args.slots) c.new-sets.ensures.items ∙ take-nil c.args.slots in
    let all = made.2 ∙ ap (λ l. l ++ made.0) none in
    let count : length made.0 ≡ c.args.slots =
    omega (arith, ap length all, c.in_ok-resize_with.ensures.len, c.resize_with.new.self.ok) in
    all ∙ alike ∙ ap (empty_sets c.args.width) count

pub invariant_of-result : goal.invariant_of-result
invariant_of-result c =
    kept_empty c.resize_with.new.self.items c.in_ok-vec.field-0.items c.args.slots c.args.width c.requires
    (all_empty (goal.at.invariant_of-result c).In_ok-vec) (c.in_ok-vec.ensures.items_if_clones_equal (λ y is. is))

pub returns : goal.returns
returns c = all_empty c
