use Rattle.std.proofs.Common.{rules, ◌≡◌, ◌==◌, ◌∙◌, ℕ, Bool, nat_eq, not, List, length, arith, ap}
use Rattle.std.specs.Prelude.{vec_len}
use Rattle.std.specs.Cmp.Lexicographic.{pointwise}
use Rattle.std.proofs.lemmas.Fn.{filter_same}
use Rattle.tap_depart.specs.Leaving.{LeavingValue, left_by, names_but}
use Rattle.tap_depart.proofs.leaving.Leaving.left.Goals as goal

pub returns-clause-after : goal.returns-clause-after
returns-clause-after c =
    let holder = c.args.holder in
    let after = filter_same _ (λ other. not (pointwise nat_eq other holder)) _ (λ x b f' k. search rules) _ _ c.retain.ensures.filtered in
    let with_awaited : List (List ℕ) → LeavingValue =
    λ names. record { ties = c.self.inside.ties; notices = c.self.inside.notices.items; awaited = names } in
    let left_of : LeavingValue → LeavingValue = λ l. left_by l holder in
    ap with_awaited after ∙ ap left_of c.self.view_is

pub returns-clause-answer : goal.returns-clause-answer
returns-clause-answer c =
    let holder = c.args.holder in
    let after = filter_same _ (λ other. not (pointwise nat_eq other holder)) _ (λ x b f' k. search rules) _ _ c.retain.ensures.filtered in
    let len : vec_len c.retain.new.self ≡ length c.retain.new.self.items = omega (arith, c.retain.new.self.ok.0) in
    let is_zero : ℕ → Bool = λ n. n == 0 in
    c.is_empty.ensures ∙ ap is_zero len ∙ ap (λ names. is_zero (length names)) after
    ∙ ap (λ (l : LeavingValue). is_zero (length (names_but l.awaited holder))) c.self.view_is
