use Rattle.std.proofs.Common.{rules, ◌∙◌, nat_eq, not, ap, sym}
use Rattle.std.specs.Prelude.{[], ◌∷◌, ◌&&◌}
use Rattle.std.specs.Cmp.Lexicographic.{pointwise}
use Rattle.std.specs.List.{list_any}
use Rattle.std.proofs.lemmas.Fn.{filter_same}
use Rattle.tap_name.specs.Names.{has_name, names_without}
use Rattle.tap_ledger.specs.NameLists.{NamesValue}
use Rattle.tap_ledger.proofs.Keys.{goes}
use Rattle.tap_ledger.proofs.Less.{name_goes, without_one}
use Rattle.tap_ledger.proofs.names.Names.remove.Goals as goal

pub invariant_of-self : goal.invariant_of-self
invariant_of-self c =
    let name = c.args.name in
    let items = c.self.inside.items.items in
    let found = c.self.inside.found.keys in
    let after = filter_same _ (λ other. not (pointwise nat_eq name other)) _ (λ x b f' k. search rules) _ _ c.retain.ensures.filtered in
    record {
      in_list = search rules;
      in_set = search rules;
      same = λ q. c.remove.ensures.updates.0 q
          ∙ goes (pointwise nat_eq name q) (list_any (pointwise nat_eq q) found)
          ∙ ap (λ b. not (pointwise nat_eq name q) && b) (c.self.invariant.same q)
          ∙ sym (ap (λ l. has_name l q) after ∙ name_goes name items q);
    }

pub returns-clause-names : goal.returns-clause-names
returns-clause-names c =
    let name = c.args.name in
    let after = filter_same _ (λ other. not (pointwise nat_eq name other)) _ (λ x b f' k. search rules) _ _ c.retain.ensures.filtered in
    after ∙ without_one name c.self.inside.items.items
    ∙ ap (λ (n : NamesValue). names_without n.names (name ∷ [])) c.self.view_is
