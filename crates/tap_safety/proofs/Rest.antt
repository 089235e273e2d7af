-- While no frame is under way, nothing of joins and departures is left.
-- Cited above: rest_holds
use Rattle.std.proofs.Common.{◌≡◌, inl, inr, ℕ, zero, suc, ◌+◌, ◌<◌, ◌≤◌, List, [], ◌∷◌, Option, None, Some, arith, refl, sym, ap, ◌∙◌}
use Rattle.std.proofs.lemmas.Bool.{cases_lt, true≢false}
use Rattle.tap_name.specs.Names.{Among}
use Rattle.tap_name.specs.Settings.{SettingsValue}
use Rattle.tap_link.specs.declared.kind.Kind.{Kind}
use Rattle.tap_link.specs.declared.kind.Kind.TheVariants.{Pin, Leaving as LeavingKind}
use Rattle.tap_wire.specs.declared.frame.Frame.{Frame}
use Rattle.tap_rule.specs.Node.{NodeState, Status}
use Rattle.tap_rule.specs.Node.Status.{Ceased as CeasedStatus, Core, Gone, Joining, Leaving}
use Rattle.tap_safety.specs.Remembered.{Leaver, OpenSession, Token}
use Rattle.tap_safety.specs.Remembered.Token.{Way, Child}
use Rattle.tap_safety.specs.System.{System, AmongFrames, HasLink}
use Rattle.tap_safety.specs.Ceased.{IsRegistered}
use Rattle.tap_safety.specs.Departing.{Departs}
use Rattle.tap_safety.specs.Invariant.{Basis}
use Rattle.tap_safety.specs.Rest.{Rest, RestHolds}
use Rattle.tap_safety.specs.Sessions.{IsOpen}
use Rattle.tap_safety.specs.Soft.{IsSoft}
use Rattle.tap_safety.specs.Ties.{hears_words, link_of, status_of}
use Rattle.tap_safety.specs.Regions.{Has, Pins}
use Rattle.tap_safety.proofs.LinkKeeps.{some_state, status_seen}
use Rattle.tap_safety.proofs.WordsKept.{at_link, link_at}

-- ---- how deep sessions are at most

depth_of : Option OpenSession → ℕ
depth_of None = 0
depth_of (Some o) = o.depth

opened_of : Option NodeState → ℕ
opened_of None = 0
opened_of (Some state) = state.sessions.opened

-- the sessions of x up to this number
record AreUpTo (s : System) (x : List ℕ) (n : ℕ) : Type 0 where
  most : ℕ
  all : (k : ℕ) (o : OpenSession) → k ≤ n → IsOpen s x k o → o.depth ≤ most

depth_at : (s : System) (x : List ℕ) (k m : ℕ) (o : OpenSession) → k ≡ m → IsOpen s x k o → o.depth ≤ depth_of (s.session x m)
unfolding depth_of
depth_at s x k m o same is =
    let there : s.session x m ≡ Some o = rw (← same) is in let deep : depth_of (s.session x m) ≡ o.depth = rw there refl in omega arith

up_to : (s : System) (x : List ℕ) (n : ℕ) → AreUpTo s x n
up_to s x zero = record { most = depth_of (s.session x 0); all = λ k o less is. depth_at s x k 0 o (omega arith) is }
up_to s x (suc n) =
    let rest = up_to s x n in
    record {
      most = rest.most + depth_of (s.session x (suc n));
      all = λ k o less is.
          elim (cases_lt n k) [
            | inl above ↦ let deep = depth_at s x k (suc n) o (omega arith) is in omega arith
            | inr below ↦ let deep = rest.all k o below is in omega arith
          ];
    }

-- the sessions of these names
record AreOfThese (s : System) (names : List (List ℕ)) : Type 0 where
  most : ℕ
  all : (x : List ℕ) → Among x names → (k : ℕ) (o : OpenSession) → k ≤ opened_of (s.node x) → IsOpen s x k o → o.depth ≤ most

of_these : (s : System) (names : List (List ℕ)) → AreOfThese s names
of_these s [] = record { most = 0; all = λ x among. absurd among }
of_these s (y ∷ ys) =
    let first = up_to s y (opened_of (s.node y)) in
    let rest = of_these s ys in
    record {
      most = first.most + rest.most;
      all = λ x among k o less is.
          elim among [
            | inl same ↦
                let deep = first.all k o (rw same at less) (rw same at is) in omega arith
            | inr later ↦ let deep = rest.all x later k o less is in omega arith
          ];
    }

module _ (p : SettingsValue) (s : System) (invariant : Basis p s) (rest : s.frames ≡ []) where
  no_frame : (m : ℕ) (f : Frame) → AmongFrames m f s.frames → ⊥
  no_frame m f among = rw rest at among

  -- ---- sessions

  -- an open session has a deeper one below it
  record HasDeeper (o : OpenSession) : Type 0 where
    at : List ℕ
    number : ℕ
    below : OpenSession
    is : IsOpen s at number below
    deeper : below.depth ≡ o.depth + 1

  deeper : (x : List ℕ) (k : ℕ) (o : OpenSession) → IsOpen s x k o → HasDeeper o
  deeper x k o is = by o.awaits refl
    where
      by : (tokens : List Token) → o.awaits ≡ tokens → HasDeeper o
      by [] none = absurd (invariant.await.some x k o is none)
      by (Way m ∷ tokens) some =
          let has = invariant.exact.ways x k m (record { session = o; is = is; among = rw some (inl refl) }) in
          absurd (no_frame m has.frame has.among)
      by (Child y l ∷ tokens) some =
          let child = invariant.awaited.children x y k l (record { session = o; is = is; among = rw some (inl refl) }) in
          let up = invariant.exact.parents y l child.child x k child.is child.parent in
          let open_up = up.is in
          let same : up.parent ≡ o = cc in
          record {
            at = y;
            number = l;
            below = child.child;
            is = child.is;
            deeper = up.depth ∙ ap (λ o. o.depth + 1) same;
          }

  bound : AreOfThese s invariant.few.names
  bound = of_these s invariant.few.names

  bounded : (x : List ℕ) (k : ℕ) (o : OpenSession) → IsOpen s x k o → o.depth ≤ bound.most
  unfolding opened_of
  bounded x k o is =
      let place = invariant.places.places x k o is in
      let among = invariant.few.all x (record { state = place.state; is = place.is }) in
      let opened : opened_of (s.node x) ≡ place.state.sessions.opened = ap opened_of place.is in
      let less = place.opened in
      bound.all x among k o (omega arith) is

  none_above : (n : ℕ) (x : List ℕ) (k : ℕ) (o : OpenSession) → IsOpen s x k o → bound.most < o.depth + n → ⊥
  none_above zero x k o is above = let most = bounded x k o is in omega arith
  none_above (suc n) x k o is above =
      let next = deeper x k o is in
      let more = next.deeper in
      none_above n next.at next.number next.below next.is (omega arith)

  no_session : (x : List ℕ) (k : ℕ) (o : OpenSession) → IsOpen s x k o → ⊥
  no_session x k o is = none_above (bound.most + 1) x k o is (omega arith)

  -- ---- who joins, and who leaves

  nobody_joins : (x : List ℕ) → status_of s x ≡ Some Joining → ⊥
  nobody_joins x status = let node = some_state s x Joining status in by node.0 node.1 node.2 (s.surrogate x) refl
    where
      by : (state : NodeState) → s.node x ≡ Some state → state.status ≡ Joining → (surrogate : Option (List ℕ))
          → s.surrogate x ≡ surrogate → ⊥
      by state is joining None waits =
          let one = invariant.seeking.seeks x (record { state = state; is = is; joining = joining; waits = waits }) in
          no_frame one.number _ one.among
      by state is joining (Some surrogate) started =
          elim (invariant.ends_once.ends x
          (record { state = state; is = is; joining = joining; surrogate = surrogate; started = started })) [
            | inl root ↦ no_session root.0.at root.0.number root.0.session root.0.is
            | inr done ↦ no_frame done.1.number _ done.1.among
          ]

  nobody_leaves : (x : List ℕ) → status_of s x ≡ Some Leaving → ⊥
  nobody_leaves x status = by s.departing refl
    where
      awaits_none : (a : List (List ℕ)) → (leaver : Leaver) → Departs s leaver → (state : NodeState) → s.node leaver.name ≡ Some state
          → state.status ≡ Leaving → state.awaited ≡ a → ⊥
      awaits_none [] leaver departs state is leaving none =
          ((invariant.departure.during leaver departs).goes state is leaving).some none
      awaits_none (a ∷ others) leaver departs state is leaving some =
          let mine : Among a state.awaited = rw some (inl refl) in
          let one = invariant.notices.one leaver.name a (record { state = state; is = is; leaving = leaving; awaits = mine }) in
          no_frame one.number one.frame one.among

      by : (departing : Option Leaver) → s.departing ≡ departing → ⊥
      by None none = invariant.departure.leaving x none status
      by (Some leaver) departs =
          let same = (invariant.departure.during leaver departs).leaving x status in
          let node = some_state s x Leaving status in
          awaits_none node.0.awaited leaver departs node.0 (rw (← same) node.1) node.2 refl

  some_core : (x : List ℕ) × (status_of s x ≡ Some Core)
  some_core =
      let core = invariant.has_core.core in
      elim core.core [
        | inl is ↦ (invariant.has_core.name, status_seen s invariant.has_core.name core.state Core core.is is)
        | inr leaving ↦
            absurd (nobody_leaves invariant.has_core.name
            (status_seen s invariant.has_core.name core.state Leaving core.is leaving))
      ]

  nobody_marked : (x t : List ℕ) → HasLink s x t LeavingKind → ⊥
  nobody_marked x t link = by s.departing refl
    where
      by : (departing : Option Leaver) → s.departing ≡ departing → ⊥
      by None none = invariant.departure.marked x t none link
      by (Some leaver) departs =
          let during = invariant.departure.during leaver departs in
          let same = during.marked x t link in
          elim during.ends [
            | inl leaving ↦ nobody_leaves leaver.name leaving
            | inr gone ↦ let way = (during.gone gone x LeavingKind (rw same at link)).1 in no_frame way.number _ way.among
          ]

  -- ---- pins

  no_pin : (x t : List ℕ) → status_of s x ≡ Some Core → Pins s x t → ⊥
  no_pin x t core pin = by (invariant.soft.pins x t pin)
    where
      pinned : status_of s t ≡ Some Core → ⊥
      pinned status =
          elim (invariant.ties.pinned x t status (link_at s x t Pin pin)) [
            | inl said ↦ no_frame said.2.number _ said.2.among
            | inr released ↦ no_frame released.number _ released.among
          ]

      by : IsSoft s t → ⊥
      by (inl joiner) = nobody_joins t (status_seen s t joiner.state Joining joiner.is joiner.joining)
      by (inr (inl node)) =
          elim node.core [
            | inl is ↦ pinned (status_seen s t node.state Core node.is is)
            | inr leaving ↦ nobody_leaves t (status_seen s t node.state Leaving node.is leaving)
          ]
      by (inr (inr ceased)) =
          elim (invariant.ceased.ceased x t (inl core) pin (status_seen s t ceased.state CeasedStatus ceased.is ceased.ceased)) [
            | inl says ↦ no_frame says.way.number _ says.way.among
            | inr forget ↦ no_frame forget.number _ forget.among
          ]

  unpinned : (x t : List ℕ) → Pins s x t → ⊥
  unpinned x t pin = by pin.state.status refl
    where
      by : (status : Status) → pin.state.status ≡ status → ⊥
      by Joining is = nobody_joins x (status_seen s x pin.state Joining pin.is is)
      by Core is = no_pin x t (status_seen s x pin.state Core pin.is is) pin
      by Leaving is = nobody_leaves x (status_seen s x pin.state Leaving pin.is is)
      by Gone is = (invariant.ended.none x t Pin pin).0 (status_seen s x pin.state Gone pin.is is)
      by CeasedStatus is = (invariant.ended.none x t Pin pin).1 (status_seen s x pin.state CeasedStatus pin.is is)

  -- ---- holders

  module _ (x t : List ℕ) (core : status_of s t ≡ Some Core) where
    hears : hears_words (status_of s t)
    hears = rw core tt

    registered : Has s x t → IsRegistered s x t
    registered has =
        let last = invariant.ties.linked x t has.kind hears (link_at s x t has.kind has.link) in
        elim last.stands [
          | inl way ↦ absurd (no_frame way.number _ way.among)
          | inr kept ↦ record { word = last.last; on = last.on_is; is = kept }
        ]

    linked : IsRegistered s x t → Has s x t
    linked has = by (link_of s x t) refl
      where
        by : (kind : Option Kind) → link_of s x t ≡ kind → Has s x t
        by (Some kind) is = record { kind = kind; link = at_link s x t kind is }
        by None none =
            let newest = invariant.versions.registers x t has.word has.is in
            let last = invariant.ties.dropped x t newest.last hears none newest.is in
            elim last.stands [
              | inl way ↦ absurd (no_frame way.number _ way.among)
              | inr kept ↦
                  let registered = has.is in
                  let same : has.word ≡ last.last = cc in
                  absurd (true≢false (sym has.on ∙ (ap (λ word. word.on) same ∙ last.on_is)))
            ]

  at_rest : Rest s
  at_rest = record {
    sessions = no_session;
    joining = nobody_joins;
    leaving = nobody_leaves;
    core = some_core;
    pins = unpinned;
    marked = nobody_marked;
    holders = λ x t core. (registered x t core, linked x t core);
  }

pub rest_holds : RestHolds
rest_holds p s invariant rest = at_rest p s invariant rest
