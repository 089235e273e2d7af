use Rattle.std.proofs.Common.{◌≡◌, ℕ, Bool, true, false, List, Option, is_some, unwrap_or, if◌then◌else◌, refl, sym, ap, ◌∙◌}
use Rattle.tap_carry.specs.Names.{is_name, number_of}
use Rattle.tap_carry.proofs.Ways.{number-updated, same_name}
use Rattle.tap_carry.proofs.inbox.raise.Goals as goal

kept : (numbers : List (List ℕ × ℕ)) (from x : List ℕ) (seq end : ℕ) → end ≡ seq → number_of numbers from ≡ seq → (b : Bool) → is_name from x ≡ b
    → number_of numbers x ≡ (if b then end else number_of numbers x)
kept numbers from x seq end same is true e = rw (← same_name from x e) (is ∙ sym same)
kept numbers from x seq end same is false e = refl

pub returns-then-end-seq : goal.returns-then-end-seq
returns-then-end-seq c = λ x.
    let is : number_of c.args.reached.now.entries c.args.from ≡ c.args.seq =
    ap (λ (o : Option ℕ). unwrap_or o 0) c.requires in
    kept c.args.reached.now.entries c.args.from x c.args.seq c.args.end c.if-end-seq.true is (is_name c.args.from x) refl

pub returns-in-Some : goal.returns-in-Some
returns-in-Some c =
    number-updated c.args.reached.now.entries (c.get_mut.follows.lender c.args.end).entries c.args.from c.args.end
    ((c.get_mut.follows.holds c.args.end).3 (ap is_some c.requires)).0
