use Rattle.std.proofs.Common.{◌≡◌, ◌≢◌, ◌∙◌, ℕ, List, false, length, rules, ap, arith, subst, sym}
use Rattle.std.specs.Prelude.{nat_le}
use Rattle.std.proofs.lemmas.Bool.{lt-leb, true≢false}
use Rattle.std.proofs.lemmas.List.{length_push}
use Rattle.std.proofs.lemmas.List.Elements.{All-push}
use Rattle.std.proofs.lemmas.List.Quantifiers.{all_pairs_push}
use Rattle.tap_name.specs.Name.{IsName}
use Rattle.tap_name.specs.Names.{Among, has_name}
use Rattle.tap_name.proofs.Membership.{among_at, has_name-Decides}
use Rattle.tap_host_line.specs.Line.{members_line_of_words, most_line_members}
use Rattle.tap_host_line.proofs.Members.{more_members}
use Rattle.tap_host_line.proofs.reading.read_members.Goals as goal

pub loop-word-preserved : goal.loop-word-preserved
loop-word-preserved c =
    let names = c.loop-word.names in
    let name = c.in-Some-name_of.name in
    let p = c.args.settings.now in
    let word = c.in-Some.word.now in
    let rest = c.next.new.self in
    let none : has_name names name ≡ false = rw c.as_slice.ensures at (sym c.if-contains.ensures.value) in
    let few : nat_le most_line_members (length names) ≡ false =
    lt-leb most_line_members (length names) (omega (arith, c.if-len-ge-MOST_MEMBERS.false, c.len.ensures)) in
    let Is : List ℕ → Type 0 = λ n. Among n names in
    rw c.in_ok-push.ensures.ok (record {
      rest = sym (more_members p names rest word name c.in-Some-name_of.ensures.value few none)
          ∙ ap (members_line_of_words p names) (sym c.in-Some.ensures) ∙ c.loop-word.invariant.rest;
      each = All-push (IsName p) names name c.loop-word.invariant.each (search rules);
      distinct = all_pairs_push (λ x y. x ≢ y) names name c.loop-word.invariant.distinct
          (λ k d within same. true≢false (sym ((has_name-Decides names name).1 (subst Is same (among_at names k d within))) ∙ none));
      few = omega (arith, length_push names name, c.if-len-ge-MOST_MEMBERS.false, c.len.ensures);
    })
