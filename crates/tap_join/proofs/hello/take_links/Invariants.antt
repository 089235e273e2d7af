use Rattle.std.proofs.Common.{◌≡◌, ◌+◌, ◌≤◌, ◌++◌, drop, length}
use Rattle.tap_join.specs.Hello.{after_links, links_tell}
use Rattle.tap_join.proofs.hello.take_links.Given as goal

abbrev pub invariant-loop-link : goal.invariant-loop-link
invariant-loop-link l =
    let left = links_tell l.ties l.stamp (drop l.link-index l.links) in
    let all = links_tell l.fn.ties l.fn.stamp l.links in
    (l.ties.table.settings ≡ l.fn.ties.table.settings)
    × (l.stamp ≤ l.fn.stamp + l.link-index)
    × (after_links l.ties (drop l.link-index l.links) ≡ after_links l.fn.ties l.links)
    × (l.told.items ++ left ≡ l.fn.told.items ++ all)
    × (l.stamp + length left ≡ l.fn.stamp + length all)
    × (l.ties.table.owner ≡ l.fn.ties.table.owner)
