use Rattle.std.proofs.Common.{◌≡◌, length, nat_eq, sym, ap, ◌∙◌, refl, arith}
use Rattle.std.proofs.lemmas.Bool.{true≢false}
use Rattle.std.specs.List.{common_prefix_len}
use Rattle.tap_name.proofs.Prefix.{whole_prefix, prefix_of_itself}
use Rattle.tap_name.proofs.slot.slot_of.Goals as goal

pub returns-then-level-len-clause-none : goal.returns-then-level-len-clause-none
returns-then-level-len-clause-none c =
    (λ _. whole_prefix c.args.a.now c.args.b.now c.requires (omega arith), λ _. refl)

pub returns-clause-none : goal.returns-clause-none
returns-clause-none c = (
  λ h. absurd (true≢false h),
  λ same.
      let all : common_prefix_len nat_eq c.args.a.now c.args.b.now
      ≡ length c.args.a.now = ap (common_prefix_len nat_eq c.args.a.now) (sym same) ∙ prefix_of_itself c.args.a.now in
      absurd (omega arith),
)
