use Rattle.std.proofs.Common.{◌≡◌, ◌≢◌, ◌∙◌, ℕ, List, false, length, rules, arith, subst, sym}
use Rattle.std.proofs.lemmas.Bool.{true≢false}
use Rattle.std.proofs.lemmas.List.{length_push}
use Rattle.std.proofs.lemmas.List.Elements.{All-push}
use Rattle.std.proofs.lemmas.List.Quantifiers.{all_pairs_push}
use Rattle.tap_name.specs.Name.{IsName}
use Rattle.tap_name.specs.Names.{Among, has_name}
use Rattle.tap_name.proofs.Membership.{among_at, has_name-Decides}
use Rattle.tap_test_node.proofs.members.read_members.Goals as goal

pub loop-word-preserved : goal.loop-word-preserved
loop-word-preserved c =
    let names = c.loop-word.members in
    let name = c.in-Ok.name in
    let none : has_name names name ≡ false = rw c.as_slice.ensures at (sym c.if-contains.ensures.value) in
    let Is : List ℕ → Type 0 = λ n. Among n names in
    rw c.in-Ok-push.ensures.ok (record {
      names = All-push (IsName c.args.settings.now) names name c.loop-word.invariant.names (search rules);
      distinct = all_pairs_push (λ x y. x ≢ y) names name c.loop-word.invariant.distinct
          (λ k d within same. true≢false (sym ((has_name-Decides names name).1 (subst Is same (among_at names k d within))) ∙ none));
      few = omega (arith, length_push names name, c.if-len-ge-MOST_MEMBERS, c.len.ensures);
    })
