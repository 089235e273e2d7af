use Rattle.std.proofs.Common.{◌≡◌, ℕ, ◌+◌, false, List, [], ◌∷◌, length, refl, ap, sym, ◌∙◌, arith}
use Rattle.tap_carry.specs.Inbox.{has_pair}
use Rattle.tap_carry.proofs.Ways.{pair-updated}
use Rattle.tap_carry.proofs.Gaps.{passed-more}
use Rattle.tap_carry.proofs.inbox.pass.Goals as goal

pub returns-then-is_empty-clause-gap : goal.returns-then-is_empty-clause-gap
returns-then-is_empty-clause-gap c =
    let nothing : c.args.beyond.now.keys ≡ [] = none_of c.args.beyond.now.keys (c.is_empty.ensures.0 c.if-is_empty.true) in
    ap (λ (keys : List (List ℕ × ℕ)). has_pair keys c.args.from (c.args.seq + 1)) nothing
  where
    none_of : (keys : List (List ℕ × ℕ)) → length keys ≡ 0 → keys ≡ []
    none_of [] e = refl
    none_of (key ∷ keys) e = absurd (omega (arith, e))

pub returns-then-not-swap_remove-clause-gap : goal.returns-then-not-swap_remove-clause-gap
returns-then-not-swap_remove-clause-gap c = c.swap_remove.ensures.updates.1

pub loop-end-preserved : goal.loop-end-preserved
loop-end-preserved c =
    passed-more c.args.beyond.now.keys c.loop-end.beyond.keys c.swap_remove.new.self.keys c.args.from c.args.seq c.loop-end.end c.loop-end.invariant
    (sym c.swap_remove.ensures.found ∙ c.if-not-swap_remove.false)
    (pair-updated c.loop-end.beyond.keys c.swap_remove.new.self.keys c.args.from (c.loop-end.end + 1) false c.swap_remove.ensures.updates.0)
