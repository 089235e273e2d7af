use Rattle.std.proofs.Common.{rules, ◌≡◌, ◌+◌, ◌<◌, ◌∷◌, drop, get_or, length, ap, sym, ◌∙◌}
use Rattle.std.proofs.lemmas.List.{drop_more}
use Rattle.tap_pointer.proofs.Telling.{told_twice}
use Rattle.tap_pointer.proofs.walk.is_told_again.Goals as goal

pub returns-in-Some : goal.returns-in-Some
returns-in-Some c = λ same pairs.
    let lays = c.args.lays.now in
    let at = c.args.at in
    let first = c.index-lays-at.result in
    let second = c.in-Some.next.now in
    let inside : at + 1 < length lays = search rules in
    let next : get_or lays (at + 1) second ≡ second = search rules in
    told_twice lays at first second
    (drop_more lays at first c.requires ∙ ap (λ y. y ∷ drop (at + 1) lays) (sym c.index-lays-at.is))
    (drop_more lays (at + 1) second inside ∙ ap (λ y. y ∷ drop (at + 1 + 1) lays) next)
    (c.is_of_one_pair.ensures same) pairs
