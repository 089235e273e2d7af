-- A node starts to leave: departures and their notices afterwards, from the invariant.
use Rattle.std.proofs.Common.{◌≡◌, ◌≢◌, inl, inr, ℕ, ◌<◌, List, [], ◌∷◌, ◌++◌, ◌⊎◌, length, map, Option, None, Some, arith, refl, sym, ap, subst, ◌∙◌}
use Rattle.std.proofs.lemmas.Bool.{cases_eq, cases_lt}
use Rattle.tap_name.specs.Name.{IsName}
use Rattle.tap_name.specs.Names.{Among}
use Rattle.tap_name.specs.Prefix.{lcp}
use Rattle.tap_name.specs.Settings.{SettingsValue}
use Rattle.tap_name.proofs.Prefixes.{lcp-triangle}
use Rattle.tap_link.specs.declared.kind.Kind.{Kind}
use Rattle.tap_link.specs.declared.kind.Kind.TheVariants.{Pin, Settled, Leaving as LeavingKind}
use Rattle.tap_table.specs.ByName.{targets_by_name}
use Rattle.tap_table.specs.Table.{TableValue, kind_in}
use Rattle.tap_table.specs.Ties.{AreTies, TiesValue, holders_on}
use Rattle.tap_depart.specs.Leaving.{notice_for}
use Rattle.tap_depart.specs.Replacement.{replacement_for}
use Rattle.tap_depart.proofs.Departures.{holders_on-ascending}
use Rattle.tap_depart.proofs.Replacements.{none_given, replacement_fits}
use Rattle.tap_pointer.specs.declared.lay.Lay as lay
use Rattle.tap_pointer.specs.Pointers.{all_withdrawn}
use Rattle.tap_wire.specs.declared.frame.Body.{Body}
use Rattle.tap_wire.specs.declared.frame.Body.TheVariants.{Gone, Release}
use Rattle.tap_wire.specs.declared.frame.Frame.{Frame}
use Rattle.tap_rule.specs.Act.{act}
use Rattle.tap_rule.specs.Completed.{lays_after}
use Rattle.tap_rule.specs.EndSteps.{EndStep, words_at_end}
use Rattle.tap_rule.specs.Event.{Acted}
use Rattle.tap_rule.specs.Event.Event.{Starts}
use Rattle.tap_rule.specs.Event.Start.{Leave as StartLeave}
use Rattle.tap_rule.specs.Leaving.{leave_for}
use Rattle.tap_rule.specs.Node.{NodeState, link_to, name_of}
use Rattle.tap_rule.specs.Node.Status.{Core, Gone as GoneStatus}
use Rattle.tap_rule.specs.Reaction.{to_each}
use Rattle.tap_rule.specs.Sending.{by_receiver, lay_frame, link_frame, message_frame}
use Rattle.tap_rule.specs.Sent.{AreSent}
use Rattle.tap_rule.specs.StartSteps.{LeaveStartStep}
use Rattle.tap_rule.proofs.StartSteps.{leave_start_law}
use Rattle.tap_safety.specs.Departing.{Departs, FitsSlot, HasOther}
use Rattle.tap_safety.specs.Invariant.{Invariant}
use Rattle.tap_safety.specs.Move.{MayLeave}
use Rattle.tap_safety.specs.Moved.{IsStarted, departing_with, moved}
use Rattle.tap_safety.specs.Remembered.{Leaver}
use Rattle.tap_safety.specs.Rest.{Rest}
use Rattle.tap_safety.specs.Exchanges.{ChangesAt, numbered_from}
use Rattle.tap_safety.specs.System.{System, AmongFrames, HasLink, IsUnderWay}
use Rattle.tap_safety.specs.Ties.{status_of}
use Rattle.tap_safety.proofs.LinkKeeps.{status_seen}
use Rattle.tap_safety.proofs.Moved.{starts}
use Rattle.tap_safety.proofs.Names.{lcp_whole}
use Rattle.tap_safety.proofs.Rest.{rest_holds}
use Rattle.tap_safety.proofs.UnderWay.{among_sent}
use Rattle.tap_moves.specs.Delivered.{after_start}
use Rattle.tap_moves.specs.KnownNames.{AreNodes}
use Rattle.tap_moves.proofs.InvariantMoves.{name_at}
use Rattle.tap_moves.specs.DepartingMoves.{DepartsInOrder}
use Rattle.tap_moves.specs.NoticeMoves.{LeavingInOrder}
use Rattle.tap_moves.proofs.HasLeft.{HasLeft, IsFarewell, has_left_in_order}
use Rattle.tap_moves.proofs.Holders.{farewell_sent, holder_registered, registered_holds}
use Rattle.tap_moves.proofs.OneFrame.{ascending_apart}
use Rattle.tap_moves.proofs.StartKept.{StartsLeaving, leave_frame, starts_in_order}

-- who departs, as it is remembered
abbrev pub leaver_of : List ℕ → NodeState → Leaver
leaver_of x node = record { name = x; links = λ t. link_to node t; holders = holders_on node.ties }

-- it is remembered, unless no frame is under way
departs_then : (p : SettingsValue) (s : System) (x : List ℕ) (node : NodeState) → s.node x ≡ Some node
    → (after_start p s x StartLeave).departing ≡ departing_with (after_start p s x StartLeave).frames (Some (leaver_of x node))
unfolding moved
departs_then p s x node at = rw at refl

-- either it departs, and a frame is under way, or neither
departs_or_over : (frames : List (ℕ × Frame)) (departing : Option Leaver) (leaver : Leaver)
    → departing ≡ departing_with frames (Some leaver)
    → ((departing ≡ Some leaver) × (frames ≡ [] → ⊥)) ⊎ ((departing ≡ None) × (frames ≡ []))
departs_or_over [] departing leaver is = inr (is, refl)
departs_or_over (f ∷ fs) departing leaver is = inl (is, λ none. cc)

-- the frames of the notices, by the holders
notices_are : (x : List ℕ) (table : TableValue) (holders : List (List ℕ))
    → map (message_frame x) (map leave_for (map (notice_for table) holders)) ≡ map (leave_frame x (replacement_for table)) holders
notices_are x table [] = refl
notices_are x table (a ∷ holders) = ap (λ rest. leave_frame x (replacement_for table) a ∷ rest) (notices_are x table holders)

-- no word, no frame of one
no_words : (x : List ℕ) → map (link_frame x) (by_receiver []) ≡ []
unfolding by_receiver
no_words x = refl

-- among no names is none
nobody_among : (names : List (List ℕ)) → length names ≡ 0 → (a : List ℕ) → Among a names → ⊥
nobody_among [] none a among = among
nobody_among (name ∷ names) none a among = cc

module _ (p : SettingsValue) (s : System) (x : List ℕ) (inv : Invariant p s) (nodes : AreNodes p s) (may : MayLeave s x) where
  abbrev pub node : NodeState
  node = may.acts.state

  abbrev pub after : System
  after = after_start p s x StartLeave

  abbrev pub acted : Acted
  acted = act node (Starts StartLeave)

  abbrev pub leaver : Leaver
  leaver = leaver_of x node

  pub at : s.node x ≡ Some node
  at = may.acts.is

  pub core : node.status ≡ Core
  core = may.acts.core

  pub own : name_of node ≡ x
  own = (nodes.nodes x node at).name

  pub ties : AreTies node.ties
  ties = (nodes.nodes x node at).is_node.ties

  pub step : IsStarted p s x StartLeave node
  step = starts p s x StartLeave node at

  pub changes : ChangesAt s after x node acted.state
  changes = record { was = at; is = step.done.is; others = step.done.others }

  pub rest : Rest s
  rest = rest_holds p s inv.basis may.rest

  is_core : status_of s x ≡ Some Core
  is_core = status_seen s x node Core at core

  -- the law speaks of the node by its own name
  pub law : LeaveStartStep node acted
  law = leave_start_law node core

  -- ---- holders

  -- at rest each link is settled
  pub settled_kind : (y t : List ℕ) (kind : Kind) → HasLink s y t kind → HasLink s y t Settled
  settled_kind y t Pin link = absurd (rest.pins y t link)
  settled_kind y t Settled link = link
  settled_kind y t LeavingKind link = absurd (rest.marked y t link)

  -- who has a link to it is a holder that is on, and the other way round
  linked_holds : (y : List ℕ) (kind : Kind) → HasLink s y x kind → Among y (holders_on node.ties)
  linked_holds y kind link =
      registered_holds s x node ties at y ((rest.holders y x is_core).0 (record { kind = kind; link = link }))

  holder_linked : (a : List ℕ) → Among a (holders_on node.ties) → HasLink s a x Settled
  holder_linked a holds =
      let has = (rest.holders a x is_core).1 (holder_registered s x node ties at a holds) in
      settled_kind a x has.kind has.link

  holder_name : (a : List ℕ) → Among a (holders_on node.ties) → IsName p a
  holder_name a holds = let link = holder_linked a holds in name_at p s nodes a link.state link.is

  -- ---- replacements

  -- another core node in the slot has a settled link of the leaver at its level, so a replacement is given
  none_other : (a : List ℕ) → Among a (holders_on node.ties) → replacement_for node.ties.table a ≡ None → HasOther s a x → ⊥
  none_other a holds none other =
      let is_name = name_at p s nodes x node at in
      let other_name = name_at p s nodes other.other other.core.state other.core.is in
      let inside : lcp x other.other < p.digits = elim (cases_lt (lcp x other.other) p.digits) [
        | inl less ↦ less
        | inr all ↦ absurd (other.apart (sym (lcp_whole p x other.other is_name other_name all)))
      ] in
      let near = inv.filled.hole_free.filled x other.other (record { state = node; is = at; core = inl core }) other.core inside in
      let link = settled_kind x near.to near.kind near.link in
      let level : lcp x near.to ≡ lcp x other.other = (lcp-triangle x other.other near.to).below near.near in
      let has : kind_in node.ties.table near.to ≡ Some Settled =
      (let one = link.is in let two = at in let state : link.state ≡ node = cc in
      ap (λ (n : NodeState). link_to n near.to) (sym state) ∙ link.link) in
      let most = none_given node.ties.table ties.table (lcp a (name_of node)) none near.to has in
      let same : lcp (name_of node) near.to ≡ lcp x near.to = ap (λ n. lcp n near.to) own in
      let other_level : lcp a (name_of node) ≡ lcp a x = ap (lcp a) own in
      let higher = other.near in
      omega (arith, most, same, other_level, level, higher)

  given_fits : (a : List ℕ) → Among a (holders_on node.ties) → (found : Option (List ℕ)) → replacement_for node.ties.table a ≡ found
      → FitsSlot s a x found
  given_fits a holds None none = none_other a holds none
  given_fits a holds (Some r) given =
      let name = subst (λ q. IsName q a) (sym (nodes.nodes x node at).settings) (holder_name a holds) in
      let fits = replacement_fits node.ties.table ties.table a name r given in
      let near = fits.nearer in
      let one : lcp a (name_of node) ≡ lcp a x = ap (lcp a) own in
      let two : lcp (name_of node) r ≡ lcp x r = ap (λ n. lcp n r) own in
      (λ same. fits.other (same ∙ sym own), omega (arith, near, one, two))

  -- ---- it has holders

  module _ (some : length (holders_on node.ties) ≢ 0) where
    abbrev lays : List lay.Lay
    lays = lays_after node (all_withdrawn node.pointers) [] acted

    sent_is : acted.sent ≡ map (leave_frame x (replacement_for node.ties.table)) (holders_on node.ties) ++ map (lay_frame x) lays
    sent_is =
        let waits = law.waits some in
        let all = waits.9.sent.all in
        let parts = ap (λ front. front ++ (map (message_frame (name_of node))
        (map leave_for (map (notice_for node.ties.table) (holders_on node.ties))) ++ map (lay_frame (name_of node)) lays))
        (no_words (name_of node)) in
        let named = ap (λ front. front ++ map (lay_frame (name_of node)) lays)
        (notices_are (name_of node) node.ties.table (holders_on node.ties)) in
        let renamed = ap (λ n. map (leave_frame n (replacement_for node.ties.table)) (holders_on node.ties) ++ map (lay_frame n) lays) own
        in
        all ∙ parts ∙ named ∙ renamed

    -- a Leave is under way then
    not_silent : after.frames ≡ [] → ⊥
    not_silent none =
        not_empty s.next (leave_frame x (replacement_for node.ties.table)) (holders_on node.ties) (map (lay_frame x) lays) some
        (sym (ap (numbered_from s.next) sent_is) ∙ sym (ap (λ fs. fs ++ numbered_from s.next acted.sent) may.rest) ∙ sym step.sent.after
        ∙ none)
      where
        not_empty : (next : ℕ) (frame_of : List ℕ → Frame) (names : List (List ℕ)) (back : List Frame) → length names ≢ 0
            → numbered_from next (map frame_of names ++ back) ≡ [] → ⊥
        not_empty next frame_of [] back has is = has refl
        not_empty next frame_of (name ∷ names) back has is = cc

    departs_now : Departs after leaver
    departs_now = elim (departs_or_over after.frames after.departing leaver (departs_then p s x node at)) [
      | inl departs ↦ departs.0
      | inr over ↦ absurd (not_silent over.1)
    ]

    pub starts_leaving : StartsLeaving s after leaver node acted.state (replacement_for node.ties.table)
    starts_leaving =
        let waits = law.waits some in
        let links : (t : List ℕ) → link_to acted.state t ≡ link_to node t = λ t. ap (λ (u : TiesValue). kind_in u.table t) waits.1 in
        record {
          at = changes;
          rest = rest;
          silent = may.rest;
          was = core;
          is = waits.0;
          links = links;
          leaver_links = links;
          awaited = waits.3;
          some = λ none. some (ap length none);
          apart = ascending_apart (holders_on node.ties) (holders_on-ascending node.ties ties);
          holds = holder_linked;
          fits = λ a holds. given_fits a holds (replacement_for node.ties.table a) refl;
          linked = linked_holds;
          sent = acted.sent;
          has_sent = step.sent;
          lays = lays;
          sent_is = sent_is;
          departs = departs_now;
        }

  -- ---- it has none, and ends at once

  module _ (none : length (holders_on node.ties) ≡ 0) where
    pub ends : EndStep node GoneStatus Gone acted
    ends = law.finishes none

    pub end_sent : AreSent x (words_at_end node) (to_each Gone (holders_on node.ties)) acted.sent
    end_sent = subst (λ n. AreSent n (words_at_end node) (to_each Gone (holders_on node.ties)) acted.sent) own ends.sent

    nobody_linked : (y : List ℕ) (kind : Kind) → HasLink s y x kind → ⊥
    nobody_linked y kind link = nobody_among (holders_on node.ties) none y (linked_holds y kind link)

    frames_sent : (y t : List ℕ) (body : Body) → IsUnderWay after y t body → IsFarewell leaver y t body
    frames_sent y t body now =
        let f : Frame = record { from = y; to = t; body = body } in
        let are = step.sent.after ∙ ap (λ fs. fs ++ numbered_from s.next acted.sent) may.rest in
        let among : AmongFrames now.number f (numbered_from s.next acted.sent) = subst (AmongFrames now.number f) are now.among in
        farewell_sent leaver node.stamp (targets_by_name node.ties.table) (holders_on node.ties) acted.sent end_sent y t body
        (among_sent s.next acted.sent now.number f among)

    who_then : (other : Leaver) → Departs after other → leaver ≡ other
    who_then other departs = elim (departs_or_over after.frames after.departing leaver (departs_then p s x node at)) [
      | inl is ↦ (let same : Some leaver ≡ Some other = sym is.0 ∙ departs in cc)
      | inr over ↦ (let wrong : None ≡ Some other = sym over.0 ∙ departs in cc)
    ]

    over_then : after.departing ≡ None → after.frames ≡ []
    over_then over = elim (departs_or_over after.frames after.departing leaver (departs_then p s x node at)) [
      | inl is ↦ (let wrong : Some leaver ≡ None = sym is.0 ∙ over in cc)
      | inr silent ↦ silent.1
    ]

    pub has_left : HasLeft s after leaver node acted.state
    has_left = record {
      at = changes;
      status = ends.status;
      unlinked = ends.unlinked;
      joining = rest.joining;
      pins = rest.pins;
      marked = λ y t link. absurd (rest.marked y t link);
      leaving = λ y leaving. absurd (rest.leaving y leaving);
      filled = λ y kind link. absurd (nobody_linked y kind link);
      told = λ y kind link. absurd (nobody_linked y kind link);
      answered = λ a holds. absurd (nobody_among (holders_on node.ties) none a holds);
      frames = λ y t body now. inr (frames_sent y t body now);
      releases = λ t y now. absurd (frames_sent t y Release now);
      departs = who_then;
      over = over_then;
    }

  leaving_order : DepartsInOrder after
  leaving_order = elim (cases_eq (length (holders_on node.ties)) 0) [
    | inl none ↦ has_left_in_order s after leaver node acted.state (has_left none)
    | inr some ↦ starts_in_order s after leaver node acted.state (replacement_for node.ties.table) (starts_leaving some)
  ]

pub leaving_in_order : LeavingInOrder
leaving_in_order p s x inv nodes may = leaving_order p s x inv nodes may
