use Rattle.std.proofs.Common.{◌≡◌, ◌+◌, ◌++◌, Some, length, drop, slice_get, arith, ap, sym, ◌∙◌}
use Rattle.std.proofs.lemmas.Option.{slice_get-get_or}
use Rattle.tap_join.specs.Hello.{after_links, links_tell}
use Rattle.tap_join.proofs.Words.{after_next, one_number, stamps_left, told_left}
use Rattle.tap_join.proofs.hello.take_links.Goals as goal

pub loop-link-preserved : goal.loop-link-preserved
loop-link-preserved c =
    let ties = c.loop-link.ties in
    let stamp = c.loop-link.stamp in
    let links = c.args.links.now in
    let i = c.loop-link.link-index in
    let link = c.link-item.result in
    let got : slice_get links i ≡ Some link = slice_get-get_or links i link (omega arith) ∙ ap Some (sym c.link-item.is) in
    let taken = c.in_ok-take_link.ensures in
    let all = links_tell c.args.ties.now c.args.stamp.now links in
    let told = told_left ties stamp links i link got c.loop-link.told.items (c.args.told.now.items ++ all) c.loop-link.invariant.3 in
    let stamps = stamps_left ties stamp links i link got (c.args.stamp.now + length all) c.loop-link.invariant.4 in (
      taken.settings ∙ c.loop-link.invariant.0,
      omega (arith, taken.stamped, one_number ties stamp links i link got, c.loop-link.invariant.1),
      ap (λ t. after_links t (drop (i + 1) links)) taken.after ∙ sym (after_next ties stamp links i link got) ∙ c.loop-link.invariant.2,
      rw (taken.told, taken.after, taken.stamped) told,
      rw (taken.after, taken.stamped) stamps,
      taken.owner ∙ c.loop-link.invariant.5,
    )
