-- A node that departs has left: it is gone, and whoever had a link to it has its slot filled, and is told.
use Rattle.std.proofs.Common.{◌≡◌, ◌≢◌, inl, inr, ℕ, ◌+◌, ◌<◌, true, false, List, [], ◌⊎◌, Option, None, Some, arith, refl, sym, ap, subst, ◌∙◌}
use Rattle.tap_name.specs.Names.{Among}
use Rattle.tap_link.specs.declared.kind.Kind.{Kind}
use Rattle.tap_link.specs.declared.kind.Kind.TheVariants.{Pin, Settled, Leaving as LeavingKind}
use Rattle.tap_wire.specs.declared.frame.Body.{Body}
use Rattle.tap_wire.specs.declared.frame.Body.TheVariants.{Forget, Gone, Lay, Leave, Left, Link, Release}
use Rattle.tap_wire.specs.declared.frame.Frame.{Frame}
use Rattle.tap_rule.specs.Node.{NodeState, Status, link_to}
use Rattle.tap_rule.specs.Node.Status.{Ceased as CeasedStatus, Core, Gone as GoneStatus, Joining, Leaving}
use Rattle.tap_safety.specs.Remembered.{Leaver}
use Rattle.tap_safety.specs.System.{System, AmongFrames, HasLink, IsCoreNode, IsUnderWay}
use Rattle.tap_safety.specs.Departing.{Departs, HasOther, HasReplaced, WhileDeparting, may_be_then}
use Rattle.tap_safety.specs.Notices.{IsGoneLeaver}
use Rattle.tap_safety.specs.Exchanges.{ChangesAt}
use Rattle.tap_safety.specs.Ties.{link_of, status_of}
use Rattle.tap_safety.proofs.LinkKeeps.{some_state, status_seen}
use Rattle.tap_safety.proofs.TellKeeps.{node_before}
use Rattle.tap_safety.proofs.WordsKept.{at_link, link_at}
use Rattle.tap_moves.proofs.Got.{same_name}
use Rattle.tap_moves.specs.DepartingMoves.{DepartsInOrder}
use Rattle.tap_moves.proofs.Alike.{HaveAnswered, awaiting_leaves, link_apart, no_kind, one_kind, one_status, replaced_on, status_apart}
use Rattle.tap_name.specs.Settings.{SettingsValue}
use Rattle.tap_safety.specs.Bookkeeping.{EndedHaveNoLinks}
use Rattle.tap_safety.specs.Frames.{hello_body}
use Rattle.tap_safety.specs.Parts.{HasNear, HoleFree}
use Rattle.tap_moves.specs.PartMoves.{HaveTables}
use Rattle.tap_moves.proofs.NobodyJoins.{filled_now}
use Rattle.tap_safety.specs.Soft.{NamesSoft}
use Rattle.tap_name.specs.Prefix.{lcp}
use Rattle.tap_name.proofs.Prefixes.{lcp-least, lcp-sym, lcp-triangle}

-- what may be left of before: no Leave, Left, Gone or Forget; and a word of a new link, or a Release, that neither goes to the leaver nor
-- comes from it
abbrev pub IsLeftOver : System → Leaver → List ℕ → List ℕ → Body → Type 0
IsLeftOver s leaver from to (Leave replacement) = ⊥
IsLeftOver s leaver from to Left = ⊥
IsLeftOver s leaver from to Forget = ⊥
IsLeftOver s leaver from to Gone = ⊥
IsLeftOver s leaver from to (Link version true) =
    (to ≡ leaver.name → ⊥) × (from ≡ leaver.name → ⊥) × (status_of s to ≡ Some CeasedStatus → ⊥)
IsLeftOver s leaver from to Release = (to ≡ leaver.name → ⊥) × (from ≡ leaver.name → ⊥)
IsLeftOver s leaver from to other = may_be_then other

-- what the leaver sends at its end: that it has no link any more, a Gone, or a Lay
abbrev pub IsFarewell : Leaver → List ℕ → List ℕ → Body → Type 0
IsFarewell leaver from to (Link version false) = Unit {0}
IsFarewell leaver from to Gone = from ≡ leaver.name
IsFarewell leaver from to (Lay object server level version on) = Unit {0}
IsFarewell leaver from to _ = ⊥

-- what is left may be under way while a node departs
left_over_may_be : (s : System) (leaver : Leaver) (from to : List ℕ) (body : Body) → IsLeftOver s leaver from to body → may_be_then body
left_over_may_be s leaver from to (Leave replacement) left = absurd left
left_over_may_be s leaver from to Left left = absurd left
left_over_may_be s leaver from to Forget left = absurd left
left_over_may_be s leaver from to Gone left = absurd left
left_over_may_be s leaver from to (Link version true) left = tt
left_over_may_be s leaver from to (Link version false) left = tt
left_over_may_be s leaver from to Release left = tt
left_over_may_be s leaver from to other left = left

-- and so may what the leaver sends
farewell_may_be : (leaver : Leaver) (from to : List ℕ) (body : Body) → IsFarewell leaver from to body → may_be_then body
farewell_may_be leaver from to (Link version true) farewell = tt
farewell_may_be leaver from to (Link version false) farewell = tt
farewell_may_be leaver from to Gone farewell = tt
farewell_may_be leaver from to (Lay object server level version on) farewell = tt
farewell_may_be leaver from to _ farewell = absurd farewell

-- The leaver has ended. Before, nobody joined, no link was a pin or marked but to the leaver, and nobody else left; who had a link to it
-- is told; it and each holder have the slot filled; and no other frame is under way than such.
pub record HasLeft (s s' : System) (leaver : Leaver) (before after : NodeState) : Type 0 where
  pub at : ChangesAt s s' leaver.name before after
  pub status : after.status ≡ GoneStatus
  pub unlinked : (t : List ℕ) → link_to after t ≡ None
  pub joining : (y : List ℕ) → status_of s y ≡ Some Joining → ⊥
  pub pins : (y t : List ℕ) → HasLink s y t Pin → ⊥
  pub marked : (y t : List ℕ) → HasLink s y t LeavingKind → t ≡ leaver.name
  pub leaving : (y : List ℕ) → status_of s y ≡ Some Leaving → y ≡ leaver.name
  pub filled : (y : List ℕ) (kind : Kind) → HasLink s y leaver.name kind → HasReplaced s y leaver.name
  pub told : (y : List ℕ) (kind : Kind) → HasLink s y leaver.name kind → IsUnderWay s' leaver.name y Gone
  pub answered : (a : List ℕ) → Among a leaver.holders → HasReplaced s a leaver.name
  pub frames : (y t : List ℕ) (body : Body) → IsUnderWay s' y t body → IsLeftOver s leaver y t body ⊎ IsFarewell leaver y t body
  pub releases : (t y : List ℕ) → IsUnderWay s' t y Release → IsUnderWay s t y Release
  pub departs : (other : Leaver) → Departs s' other → leaver ≡ other
  pub over : s'.departing ≡ None → s'.frames ≡ []

module _ (s s' : System) (leaver : Leaver) (before after : NodeState) (left : HasLeft s s' leaver before after) where
  abbrev own : List ℕ
  own = leaver.name

  -- the leaver is gone
  gone_now : status_of s' own ≡ Some GoneStatus
  gone_now = status_seen s' own after GoneStatus left.at.is left.status

  -- ---- links

  -- each link was there, and is another node's
  link_was : (y t : List ℕ) (kind : Kind) → HasLink s' y t kind → HasLink s y t kind × (y ≢ own)
  link_was y t kind link =
      let other : y ≢ own = λ here.
      let is = link.is in
      let at : s'.node y ≡ Some after = ap s'.node here ∙ left.at.is in
      let state : link.state ≡ after = cc in
      let wrong : None ≡ Some kind = sym (left.unlinked t) ∙ ap (λ (m : NodeState). link_to m t) (sym state) ∙ link.link in cc in
      elim (node_before s s' own before after left.at y link.state link.is) [
        | inr there ↦ (record { state = link.state; is = there; link = link.link }, other)
        | inl here ↦ absurd (other here.0)
      ]

  -- the links of other nodes stay
  link_on : (y t : List ℕ) (kind : Kind) → y ≢ own → HasLink s y t kind → HasLink s' y t kind
  link_on y t kind other link =
      elim (link_apart s s' own before after left.at y t) [
        | inl here ↦ absurd (other here)
        | inr stays ↦ at_link s' y t kind (stays ∙ link_at s y t kind link)
      ]

  -- ---- statuses

  -- who isn't gone has the status that it had
  status_was : (y : List ℕ) (status : Status) → (status ≡ GoneStatus → ⊥) → status_of s' y ≡ Some status → status_of s y ≡ Some status
  status_was y status other now =
      elim (status_apart s s' own before after left.at y) [
        | inr same ↦ sym same ∙ now
        | inl here ↦ absurd (other (one_status s' y status GoneStatus now (ap (status_of s') here ∙ gone_now)))
      ]

  -- each core node was one
  core_was : (y : List ℕ) → IsCoreNode s' y → IsCoreNode s y
  core_was y core =
      elim core.core [
        | inl is ↦
            let was = status_was y Core (λ wrong. cc) (status_seen s' y core.state Core core.is is) in
            let node = some_state s y Core was in
            record { state = node.0; is = node.1; core = inl node.2 }
        | inr is ↦
            let was = status_was y Leaving (λ wrong. cc) (status_seen s' y core.state Leaving core.is is) in
            let node = some_state s y Leaving was in
            record { state = node.0; is = node.1; core = inr node.2 }
      ]

  -- no node leaves
  nobody_leaves : (y : List ℕ) → status_of s' y ≡ Some Leaving → ⊥
  nobody_leaves y now =
      let here = left.leaving y (status_was y Leaving (λ wrong. cc) now) in
      let wrong = one_status s' y Leaving GoneStatus now (ap (status_of s') here ∙ gone_now) in cc

  -- another core node of a slot was there before
  other_before : (a n : List ℕ) → HasOther s' a n → HasOther s a n
  other_before a n that =
      record { other = that.other; core = core_was that.other that.core; apart = that.apart; near = that.near }

  -- a slot that is filled stays so
  still_replaced : (a : List ℕ) → a ≢ own → HasReplaced s a own → HasReplaced s' a own
  still_replaced a other replaced =
      replaced_on s s' a own (other_before a own) (link_on a own LeavingKind other replaced.marked)
      (λ to link. link_on a to Settled other link) replaced

  -- ---- frames

  -- a frame that is neither isn't under way
  no_such : (y t : List ℕ) (body : Body) → (IsLeftOver s leaver y t body → ⊥) → (IsFarewell leaver y t body → ⊥)
      → IsUnderWay s' y t body → ⊥
  no_such y t body one two now = elim (left.frames y t body now) [ inl old ↦ one old | inr new ↦ two new ]

  no_leave : (y a : List ℕ) (r : Option (List ℕ)) → IsUnderWay s' y a (Leave r) → ⊥
  no_leave y a r now = no_such y a (Leave r) (λ never. never) (λ never. never) now

  no_left : (a y : List ℕ) → IsUnderWay s' a y Left → ⊥
  no_left a y now = no_such a y Left (λ never. never) (λ never. never) now

  new_word : (y t : List ℕ) (version : ℕ) → IsUnderWay s' y t (Link version true) → IsLeftOver s leaver y t (Link version true)
  new_word y t version now = elim (left.frames y t (Link version true) now) [ inl old ↦ old | inr never ↦ absurd never ]

  release_left : (y t : List ℕ) → IsUnderWay s' y t Release → (t ≡ own → ⊥) × (y ≡ own → ⊥)
  release_left y t now = elim (left.frames y t Release now) [ inl old ↦ old | inr never ↦ absurd never ]

  none_under_way : s'.departing ≡ None → (y t : List ℕ) (body : Body) → IsUnderWay s' y t body → ⊥
  none_under_way over y t body now =
      let f : Frame = record { from = y; to = t; body = body } in
      let nothing : AmongFrames now.number f [] = subst (AmongFrames now.number f) (left.over over) now.among in nothing

  -- the leaver departs yet, while a frame is under way
  departs_yet : (y t : List ℕ) (body : Body) → IsUnderWay s' y t body → Departs s' leaver
  departs_yet y t body now = by s'.departing refl
    where
      by : (departing : Option Leaver) → s'.departing ≡ departing → Departs s' leaver
      by None over = absurd (none_under_way over y t body now)
      by (Some other) departs = departs ∙ ap (λ l. Some l) (sym (left.departs other departs))

  -- a Gone is from the leaver
  gone_from : (y t : List ℕ) → IsUnderWay s' y t Gone → IsGoneLeaver s' y
  gone_from y t now =
      let here : y ≡ own = elim (left.frames y t Gone now) [ inl never ↦ absurd never | inr from ↦ from ] in
      record {
        leaver = leaver;
        departs = departs_yet y t Gone now;
        is = sym here;
        gone = ap (status_of s') here ∙ gone_now;
      }

  -- ---- while it goes on

  -- the departure goes on
  pub still_departing : WhileDeparting s' leaver
  still_departing = record {
    joining = λ y now. left.joining y (status_was y Joining (λ wrong. cc) now);
    pins = λ y t pin. left.pins y t (link_was y t Pin pin).0;
    marked = λ y t marked. left.marked y t (link_was y t LeavingKind marked).0;
    leaving = λ y now. left.leaving y (status_was y Leaving (λ wrong. cc) now);
    frames = λ y t body now. elim (left.frames y t body now) [
      | inl old ↦ left_over_may_be s leaver y t body old
      | inr new ↦ farewell_may_be leaver y t body new
    ];
    ends = inr gone_now;
    goes = λ state is leaving.
        let wrong = one_status s' own Leaving GoneStatus (status_seen s' own state Leaving is leaving) gone_now in cc;
    gone = λ gone y kind link.
        let was = link_was y own kind link in
        (still_replaced y was.1 (left.filled y kind was.0), left.told y kind was.0);
    leaves = λ y a r now. absurd (no_leave y a r now);
    lefts = λ a y now. absurd (no_left a y now);
    quiet = λ y t version now. let so = new_word y t version now in (so.0, so.1);
    releases = release_left;
    forgets = λ y t now. no_such y t Forget (λ never. never) (λ never. never) now;
  }

  -- each holder has answered
  answered_now : HaveAnswered s' leaver
  answered_now a holds none =
      elim (same_name a own) [
        | inl here ↦
            inr (no_kind (link_of s' a own) (λ kind has. (link_was a own kind (at_link s' a own kind has)).1 here), gone_now)
        | inr other ↦ inl (still_replaced a other (left.answered a holds))
      ]

  -- the departure is in order then
  pub has_left_in_order : DepartsInOrder s'
  has_left_in_order = record {
    departure = record {
      during = λ other departs'. subst (WhileDeparting s') (left.departs other departs') still_departing;
      marked = λ y t over link.
          let was = link_was y t LeavingKind link in
          let to = left.marked y t was.0 in
          let way = left.told y LeavingKind (subst (λ m. HasLink s y m LeavingKind) to was.0) in
          none_under_way over own y Gone way;
      leaving = λ y over now. nobody_leaves y now;
    };
    notices = record {
      none = λ y t body over now notice. none_under_way over y t body now;
      leaves = λ y a r now. absurd (no_leave y a r now);
      lefts = λ a y now. absurd (no_left a y now);
      one = λ y a awaiting. absurd (nobody_leaves y (awaiting_leaves s' y a awaiting));
      gones = gone_from;
      answered = λ other a departs' holds none. subst (HaveAnswered s') (left.departs other departs') answered_now a holds none;
      words = λ other y t version departs' now.
          let so = new_word y t version now in
          (λ leaving. nobody_leaves t leaving, λ ceased. so.2 (status_was t CeasedStatus (λ wrong. cc) ceased));
    };
  }

  -- ---- tables

  -- each other core node stays one
  on_core : (y : List ℕ) → y ≢ own → IsCoreNode s y → IsCoreNode s' y
  on_core y other core =
      elim (left.at.others y) [
        | inl here ↦ absurd (other here)
        | inr same ↦ record { state = core.state; is = same ∙ core.is; core = core.core }
      ]

  -- and the leaver is none
  core_apart : (y : List ℕ) → IsCoreNode s' y → y ≢ own
  core_apart y core here =
      elim core.core [
        | inl is ↦
            let wrong = one_status s' y Core GoneStatus (status_seen s' y core.state Core core.is is) (ap (status_of s') here ∙ gone_now) in
            cc
        | inr is ↦ nobody_leaves y (status_seen s' y core.state Leaving core.is is)
      ]

  -- a settled link is to another than the leaver, links to which are marked
  settled_apart : (y t : List ℕ) → HasLink s y t Settled → t ≢ own
  settled_apart y t link here =
      let to = subst (λ m. HasLink s y m Settled) here link in
      let wrong = one_kind s y own LeavingKind Settled (left.filled y Settled to).marked to in cc

  -- whoever's link of a slot was to the leaver has another one there
  near_by : (y e : List ℕ) → IsCoreNode s' y → IsCoreNode s' e → NamesSoft s → HasNear s y e → HasNear s' y e
  near_by y e core other soft near =
      elim (same_name near.to own) [
        | inr apart ↦ record {
          to = near.to;
          core = on_core near.to apart near.core;
          near = near.near;
          kind = near.kind;
          link = link_on y near.to near.kind (core_apart y core) near.link;
        }
        | inl here ↦
            let close : lcp y e < lcp e own = subst (λ m. lcp y e < lcp e m) here near.near in
            let level : lcp y own ≡ lcp y e = (lcp-triangle y e own).below close in
            let swap = lcp-sym e own in
            let to_own = subst (λ m. HasLink s y m near.kind) here near.link in
            let by = (left.filled y near.kind to_own).filled (record {
              other = e;
              core = core_was e other;
              apart = core_apart e other;
              near = omega (arith, close, level, swap);
            }) in
            let link = by.1 in
            let nearer = by.2 in
            let least = lcp-least e own by.0 (lcp y e + 1) (omega (arith, close)) (omega (arith, nearer, level)) in
            record {
              to = by.0;
              core = on_core by.0 (settled_apart y by.0 link) (soft.settled y by.0 link);
              near = omega (arith, least);
              kind = Settled;
              link = link_on y by.0 Settled (core_apart y core) link;
            }
      ]

  -- links are to whom they may be
  has_left_soft : NamesSoft s → NamesSoft s'
  has_left_soft soft = record {
    settled = λ y t link.
        let was = (link_was y t Settled link).0 in on_core t (settled_apart y t was) (soft.settled y t was);
    pins = λ y t pin. absurd (still_departing.pins y t pin);
    hellos = λ w b hello now. absurd (still_departing.frames w b (hello_body hello) now);
    releases = λ t y now. on_core t (release_left t y now).1 (soft.releases t y (left.releases t y now));
    leaves = λ m y r now. absurd (no_leave m y (Some r) now);
  }

  -- and tables are as they are to be
  pub has_left_tables : (p : SettingsValue) (other : List ℕ) → other ≢ own → IsCoreNode s other → NamesSoft s → HoleFree p s
      → EndedHaveNoLinks s → HaveTables p s'
  has_left_tables p other apart core soft holes ended = record {
    filled = filled_now p s' leaver still_departing (record {
      filled = λ y e core other inside.
          near_by y e core other soft (holes.filled y e (core_was y core) (core_was e other) inside);
    });
    soft = has_left_soft soft;
    has_core = record { name = other; core = on_core other apart core };
    ended = record {
      none = λ y t kind link.
          let was = link_was y t kind link in
          let runs = ended.none y t kind was.0 in
          elim (status_apart s s' own before after left.at y) [
            | inl here ↦ absurd (was.1 here)
            | inr same ↦ (λ gone. runs.0 (sym same ∙ gone), λ ceased. runs.1 (sym same ∙ ceased))
          ];
    };
  }
