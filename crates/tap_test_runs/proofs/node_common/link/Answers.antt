use Rattle.std.proofs.Common.{[], ◌∷◌, subst, sym}
use Rattle.std.proofs.lemmas.List.Elements.{All-cons, All-nil}
use Rattle.tap_name.specs.Name.{IsName}
use Rattle.tap_table.specs.declared.tie.Tie.{Tie}
use Rattle.tap_node_common.proofs.Spellings.{links_spelled}
use Rattle.tap_test_runs.proofs.node_common.link.Goals as goal

pub send_link-requires : goal.send_link-requires
send_link-requires g c =
    let p = c.args.settings.now in
    let P : Tie → Type 0 = λ word. IsName p word.to in
    links_spelled p c.name_of-from.result c.name_of-from.ensures [] (All-nil P)

pub send_link-requires-2 : goal.send_link-requires-2
send_link-requires-2 g c =
    let p = c.args.settings.now in
    let P : Tie → Type 0 = λ word. IsName p word.to in
    let word = c.tie.result in
    let word_is : P word = subst P (sym c.tie.ensures) c.name_of-to.ensures in
    links_spelled p c.name_of-from.result c.name_of-from.ensures (word ∷ []) (All-cons P word [] word_is (All-nil P))
