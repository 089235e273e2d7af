-- To whom a core node sends a cast on: nodes that answer it; and in each slot of these levels in which a core node stands, one that is core.
use Rattle.std.proofs.Common.{◌≡◌, ℕ, ◌+◌, ◌<◌, ◌≤◌, true, List, Option, None, Some, arith, refl, sym, ap, subst, ◌∙◌, inl, inr}
use Rattle.std.proofs.lemmas.Bool.{le-leb, lt-ltb}
use Rattle.tap_name.specs.Order.{name_cmp}
use Rattle.tap_name.specs.Prefix.{lcp}
use Rattle.tap_name.specs.Settings.{SettingsValue}
use Rattle.tap_name.proofs.Prefixes.{lcp-least, lcp-sym as lcp_swap, lcp-triangle}
use Rattle.tap_link.specs.declared.kind.Kind.{Kind}
use Rattle.tap_link.specs.declared.kind.Kind.TheVariants.{Pin, Settled, Leaving as LeavingKind}
use Rattle.tap_link.proofs.Least.{never_settled}
use Rattle.tap_table.specs.Levels.{is_between}
use Rattle.tap_table.specs.Table.{IsTable, TableValue, kind_in, links_near}
use Rattle.tap_table.proofs.Found.{linked_is_name, linked_is_other}
use Rattle.tap_table.proofs.Primaries.{primary_near}
use Rattle.tap_cast.specs.declared.target.CastTarget.{CastTarget}
use Rattle.tap_cast.specs.Targets.{cast_targets, told_at}
use Rattle.tap_cast.proofs.Casting.{IsTarget, pin_told, primary_told}
use Rattle.tap_rule.specs.Node.{NodeState, link_to, name_of}
use Rattle.tap_rule.specs.Node.Status.{Leaving}
use Rattle.tap_rule.specs.Sent.{IsAmong}
use Rattle.tap_safety.specs.Invariant.{Basis}
use Rattle.tap_safety.specs.Parts.{HoleFree}
use Rattle.tap_safety.specs.Soft.{IsSoft}
use Rattle.tap_safety.specs.System.{System, HasLink, IsCoreNode}
use Rattle.tap_safety.proofs.LinkKeeps.{status_seen}
use Rattle.tap_moves.proofs.Got.{among_got}
use Rattle.tap_moves.proofs.Nearness.{primary_stands_near}
use Rattle.tap_cast_moves.specs.CastSessions.{takes_casts}

-- there is a node of this name, which answers a Cast
pub record TakesCasts (s : System) (x : List ℕ) : Type 0 where
  pub state : NodeState
  pub is : s.node x ≡ Some state
  pub takes : takes_casts state.status

-- ---- levels

-- a level from this one on and below that one
between_is : (from to level : ℕ) → from ≤ level → level < to → is_between from to level ≡ true
between_is from to level low high = rw (le-leb from level low, lt-ltb level to high) refl

module _ (p : SettingsValue) (s : System) (node : NodeState) (basis : Basis p s) (peace : s.departing ≡ None)
    (valid : IsTable node.ties.table) (at : s.node (name_of node) ≡ Some node) where
  abbrev own : List ℕ
  own = name_of node

  abbrev table : TableValue
  table = node.ties.table

  -- a core node answers it, since nobody leaves
  core_takes : (x : List ℕ) → IsCoreNode s x → TakesCasts s x
  core_takes x core = record {
    state = core.state;
    is = core.is;
    takes = elim core.core [
      | inl is ↦ subst takes_casts (sym is) tt
      | inr leaving ↦ absurd (basis.departure.leaving x peace (status_seen s x core.state Leaving core.is leaving))
    ];
  }

  soft_takes : (x : List ℕ) → IsSoft s x → TakesCasts s x
  soft_takes x (inl joiner) = record { state = joiner.state; is = joiner.is; takes = subst takes_casts (sym joiner.joining) tt }
  soft_takes x (inr (inl core)) = core_takes x core
  soft_takes x (inr (inr ceased)) = record { state = ceased.state; is = ceased.is; takes = subst takes_casts (sym ceased.ceased) tt }

  linked : (t : List ℕ) (kind : Kind) → kind_in table t ≡ Some kind → HasLink s own t kind
  linked t kind is = record { state = node; is = at; link = is }

  -- each target answers it
  pub target_takes : (from to : ℕ) (target : CastTarget) → IsTarget table from to target → TakesCasts s target.to
  target_takes from to target is =
      elim is.which [
        | inl primary ↦
            let stands = primary_stands_near table valid target.to target.to is.is_name is.other primary in
            core_takes target.to (basis.soft.settled own target.to (linked target.to Settled stands.0))
        | inr pin ↦ soft_takes target.to (basis.soft.pins own target.to (linked target.to Pin pin.1))
      ]

  -- a core node of the slot of e that the cast is sent on to, at the level after the slot's
  pub record IsSentOn (from to : ℕ) (e : List ℕ) : Type 0 where
    pub name : List ℕ
    pub among : IsAmong (told_at (lcp own e + 1) name) (cast_targets table from to)
    pub core : IsCoreNode s name
    pub near : lcp own e < lcp name e

  module _ (from to : ℕ) (e : List ℕ) (low : from ≤ lcp own e) (high : lcp own e < to) where
    module _ (t : List ℕ) (near : lcp own e < lcp e t) (kind : Kind) (is : kind_in table t ≡ Some kind) where
      same_level : lcp own t ≡ lcp own e
      same_level = (lcp-triangle own e t).below near

      between : is_between from to (lcp own t) ≡ true
      between = between_is from to (lcp own t) (omega (arith, low, same_level)) (omega (arith, high, same_level))

      -- by the primary of the slot
      by_primary : (first : List ℕ) → primary_near table t ≡ Some first → IsSentOn from to e
      by_primary first primary =
          let stands = primary_stands_near table valid t first (linked_is_name table valid t kind is) (linked_is_other table valid t kind is)
          primary in
          let told = primary_told table valid from to t kind is between first primary in
          let more = stands.2 in
          let level = same_level in
          let shares = lcp-least e t first (lcp own e + 1) (omega (arith, near)) (omega (arith, more, level)) in
          record {
            name = first;
            among = subst (λ l. IsAmong (told_at (l + 1) first) (cast_targets table from to)) level
                (among_got (told_at (lcp own t + 1) first) (cast_targets table from to) told.0 told.1);
            core = basis.soft.settled own first (linked first Settled stands.0);
            near = omega (arith, shares, lcp_swap e first);
          }

      -- or by the link itself, a pin
      by_pin : primary_near table t ≡ None → kind ≡ Pin → IsCoreNode s t → IsSentOn from to e
      by_pin none pin core =
          let told = pin_told table valid from to t kind is between none pin in
          record {
            name = t;
            among = subst (λ l. IsAmong (told_at (l + 1) t) (cast_targets table from to)) same_level
                (among_got (told_at (lcp own t + 1) t) (cast_targets table from to) told.0 told.1);
            core = core;
            near = omega (arith, near, lcp_swap e t);
          }

      by_kind : (k : Kind) → kind ≡ k → (found : Option (List ℕ)) → primary_near table t ≡ found → IsCoreNode s t → IsSentOn from to e
      by_kind k same (Some first) primary core = by_primary first primary
      by_kind Pin same None none core = by_pin none same core
      by_kind Settled same None none core =
          let there : kind_in table t ≡ Some Settled = is ∙ ap Some same in absurd (never_settled name_cmp (links_near table t) t none there)
      by_kind LeavingKind same None none core =
          absurd (basis.departure.marked own t peace (linked t LeavingKind (is ∙ ap Some same)))

    -- if it is core, since no table has a hole
    pub sent_on : HoleFree p s → IsCoreNode s own → IsCoreNode s e → lcp own e < p.digits → IsSentOn from to e
    sent_on free core other inside =
        let link = free.filled own e core other inside in
        let mine = link.link.is in
        let same : link.link.state ≡ node = cc in
        let kind : kind_in table link.to ≡ Some link.kind = subst (λ n. link_to n link.to ≡ Some link.kind) same link.link.link in
        by_kind link.to link.near link.kind kind link.kind refl (primary_near table link.to) refl link.core
