-- A Tell at a core node, a Seek at the surrogate and a Done, from the invariant; and with them each frame that a rule takes.
-- Cited above: taken_seeks, taken_soft
use Rattle.std.proofs.Common.{◌≡◌, ℕ, ◌<◌, ◌≤◌, Bool, false, List, [], Option, None, Some, arith, ap, refl, sym, subst, ◌∙◌, inl, inr}
use Rattle.std.specs.Option.{unwrap_or}
use Rattle.std.proofs.lemmas.Bool.{cases_lt}
use Rattle.tap_name.specs.Name.{IsName}
use Rattle.tap_name.specs.Prefix.{lcp}
use Rattle.tap_name.specs.Settings.{SettingsValue}
use Rattle.tap_name.proofs.Prefixes.{lcp-sym}
use Rattle.tap_name.specs.declared.slot.Slot.{Slot}
use Rattle.tap_link.specs.declared.kind.Kind.{Kind}
use Rattle.tap_link.specs.declared.kind.Kind.TheVariants.{Leaving as LeavingKind, Pin, Settled}
use Rattle.tap_session.specs.declared.parent.Parent.TheVariants.{Root}
use Rattle.tap_session.specs.Session.{Session, SessionsValue}
use Rattle.tap_table.specs.Table.{kind_in}
use Rattle.tap_table.specs.Ties.{TiesValue, holders_on}
use Rattle.tap_multicast.specs.Covers.{level_kept}
use Rattle.tap_multicast.proofs.KeptLevels.{kept_exactly}
use Rattle.tap_join.specs.Seek.{sought}
use Rattle.tap_join.specs.declared.sought.Sought.{Sought}
use Rattle.tap_join.specs.declared.sought.Sought.TheVariants.{Forward, Surrogate}
use Rattle.tap_join.proofs.Seeking.{surrogate_is}
use Rattle.tap_wire.specs.declared.frame.Body.{Body}
use Rattle.tap_wire.specs.declared.frame.Body.TheVariants.{Done, Lay, Link, Release, Seek}
use Rattle.tap_wire.specs.declared.frame.Frame.{Frame}
use Rattle.tap_wire.specs.declared.frame.TellFields.{TellFields}
use Rattle.tap_rule.specs.Covering.{first_request, pins_and_covers, request_of, takes_seek, takes_tell}
use Rattle.tap_rule.specs.Act.{act}
use Rattle.tap_rule.specs.Event.{Acted}
use Rattle.tap_rule.specs.Event.Event.{Takes}
use Rattle.tap_rule.specs.FrameRules.{frame_at_core}
use Rattle.tap_rule.specs.JoinSteps.{CoverStep, DoneStep, PinStep}
use Rattle.tap_rule.specs.RuleLaws.{IsCarriedOut, frame_to, tell_of}
use Rattle.tap_rule.specs.Node.{NodeState, level_of, link_to, name_of, settings_of}
use Rattle.tap_rule.specs.Node.Status.{Core, Leaving}
use Rattle.tap_rule.specs.Reaction.{Message, message, to_each}
use Rattle.tap_rule.proofs.Among.{among-map_from}
use Rattle.tap_rule.proofs.CarriedOut.{frame_law}
use Rattle.tap_rule.proofs.CoverSteps.{seek_fits, tell_law}
use Rattle.tap_rule.proofs.JoinSteps.{done_law, tell_fits}
use Rattle.tap_safety.specs.Departing.{may_be_then}
use Rattle.tap_safety.specs.DoneStep.{TakesDone}
use Rattle.tap_safety.specs.Frames.{tell_body}
use Rattle.tap_safety.specs.Moved.{moved, numbered_frame, taking}
use Rattle.tap_safety.specs.Move.Move.{Delivers}
use Rattle.tap_safety.specs.Notices.{IsNotice}
use Rattle.tap_safety.specs.Remembered.{Leaver}
use Rattle.tap_safety.specs.SeekerSteps.{IsCoverBody, SendsCovers}
use Rattle.tap_safety.specs.SeekStep.{IsGreeted, SeatsJoiner}
use Rattle.tap_safety.specs.Seeking.{IsSeeker}
use Rattle.tap_safety.specs.Soft.{AddsSoundLinks, IsSoft, IsSoundBody, IsSoundLink, NamesSoft, SendsSound}
use Rattle.tap_safety.specs.Exchanges.{IsSent, with_at}
use Rattle.tap_safety.specs.System.{System, HasLink, IsCoreNode, IsJoiner}
use Rattle.tap_safety.specs.TellStep.{CoversAnew, TakesTell}
use Rattle.tap_safety.specs.Turned.{opened_by, surrogates_with}
use Rattle.tap_safety.proofs.CoverSeeking.{cover_leaves_seekers, cover_leaves_tells, joiners_same}
use Rattle.tap_safety.proofs.Moved.{with_at-here, with_at-others}
use Rattle.tap_safety.proofs.Peace.{peace_kept}
use Rattle.tap_safety.proofs.SeatSoft.{joiner_is_new, seat_softs}
use Rattle.tap_safety.proofs.SeekingKept.{seeker_not_soft, seekers_kept, seeking_kept, tells_kept}
use Rattle.tap_safety.proofs.SoftKept.{sent_each, soft_kept}
use Rattle.tap_safety.proofs.SoftSteps.{links_sound, softs_same}
use Rattle.tap_safety.proofs.StepLaws.{gives_quiet_law, seeking_done_law, seeking_seat_law, seeking_tell_law, soft_done_law, soft_seat_law, soft_tell_law}
use Rattle.tap_safety.proofs.TellKeeps.{core_kept, joiner_after}
use Rattle.tap_safety.proofs.UnderWay.{was_under_way}
use Rattle.tap_safety.proofs.Said.{Said, said_of}
use Rattle.tap_safety.proofs.Said.Said.{IsDone, IsSeek, IsTell}
use Rattle.tap_moves.specs.ByRule.{StartsNone, TakesByRule, taken_at}
use Rattle.tap_moves.specs.CalmMoves.{AreSought, IsPeaceful}
use Rattle.tap_moves.specs.Delivered.{after_delivery}
use Rattle.tap_moves.specs.InvariantLaws.{IsDelivery, IsFilledThere}
use Rattle.tap_moves.proofs.CalmMoves.{frame_peaceful, frame_seeks}
use Rattle.tap_moves.proofs.CoverMade.{covers_anew}
use Rattle.tap_moves.proofs.InSession.{seek_opens, tell_in_session}
use Rattle.tap_moves.proofs.InvariantMoves.{due, frame_soft, joins_here, name_at, of_node, of_tell, told, told_name, unmarked, way}
use Rattle.tap_moves.proofs.Made.{covers_stay}
use Rattle.tap_moves.proofs.MovesMade.{by_rule, is_found, starts_none_as, tell_starts_none}
use Rattle.tap_moves.proofs.Nearness.{name_inside}
use Rattle.tap_moves.proofs.SeekMade.{seek_covers, seek_greets}
use Rattle.tap_moves.proofs.SessionsMade.{opened_found}
use Rattle.tap_moves.specs.CoverMoves.{TakenPeaceful, TakenSeeks, TakenSoft}
use Rattle.tap_moves.proofs.CoverPeace.{is_peaceful}
use Rattle.tap_moves.proofs.CoverSound.{HasCovered, sends_covers, sends_no_notice, sends_sound}

-- what is kept of who is named, of seekers and Tells, and of departures
record KeepsNames (p : SettingsValue) (s : System) : Type 0 where
  soft : NamesSoft s
  sought : AreSought p s
  peaceful : IsPeaceful s

-- while a frame is under way that may not be while a node departs, nobody does
pub none_departs : (p : SettingsValue) (s : System) (number : ℕ) (node : NodeState) (from : List ℕ) (body : Body)
    → IsDelivery p s number node from body → (may_be_then body → ⊥) → s.departing ≡ None
none_departs p s number node from body is never = by_departing s.departing refl
  where
    by_departing : (departing : Option Leaver) → s.departing ≡ departing → s.departing ≡ None
    by_departing None none = none
    by_departing (Some leaver) departs =
        absurd (never ((is.invariant.departure.during leaver departs).frames from (name_of node) body
        (way p s number node from body is)))

-- the links of a node are sound after a step that keeps soft and core nodes, if none is marked
links_sound_then : (s s' : System) (x : List ℕ) (node : NodeState) → s.node x ≡ Some node → NamesSoft s
    → ((x t : List ℕ) → HasLink s x t LeavingKind → ⊥) → ((y : List ℕ) → IsCoreNode s y → IsCoreNode s' y)
    → ((y : List ℕ) → IsSoft s y → IsSoft s' y) → (t : List ℕ) (kind : Kind) → link_to node t ≡ Some kind → IsSoundLink s' t kind
links_sound_then s s' x node at soft unmarked cores softs t Pin link =
    softs t (soft.pins x t (record { state = node; is = at; link = link }))
links_sound_then s s' x node at soft unmarked cores softs t Settled link =
    cores t (soft.settled x t (record { state = node; is = at; link = link }))
links_sound_then s s' x node at soft unmarked cores softs t LeavingKind link =
    absurd (unmarked x t (record { state = node; is = at; link = link }))

-- a node that pins a soft node adds a sound link
pin_sound : (s' : System) (node : NodeState) (joiner : List ℕ) (acted : Acted) → PinStep node joiner acted → IsSoft s' joiner
    → AddsSoundLinks s' node acted.state
pin_sound s' node joiner acted pins soft t kind now =
    elim (pins.others t) [
      | inr same ↦ inl (sym same ∙ now)
      | inl is ↦
          let pin : link_to acted.state t ≡ Some Pin = ap (λ v. link_to acted.state v) is ∙ pins.pinned in
          let kind_is : kind ≡ Pin = cc in
          inr (rw (kind_is, is) soft)
    ]

-- a core node doesn't leave
no_leaver : (node : NodeState) (acted : Acted) → node.status ≡ Core → acted.state.status ≡ node.status
    → acted.state.status ≡ Leaving → node.status ≡ Leaving
no_leaver node acted at status leaves = sym status ∙ leaves

-- ---- a Tell at a core node

module _ (p : SettingsValue) (s : System) (number : ℕ) (node : NodeState) (from : List ℕ) (tell : TellFields) (watch : List Slot)
    (is : IsDelivery p s number node from (tell_body tell watch)) (at : node.status ≡ Core) where
  abbrev tell_after : System
  tell_after = after_delivery p s number

  abbrev tell_acted : Acted
  tell_acted = taken_at node from (tell_body tell watch)

  pub tell_carried : IsCarriedOut node (takes_tell node from tell watch) tell_acted
  unfolding frame_at_core
  tell_carried = frame_law node (frame_to node from (tell_of tell watch)) (takes_tell node from tell watch) is.known (rw at refl)

  tell_taken : TakesByRule s tell_after number node from (tell_body tell watch)
  tell_taken = by_rule p s number node from (tell_body tell watch) (due p s number node from (tell_body tell watch) is)

  pub tell_step : CoverStep node (request_of from tell watch) tell_acted
  tell_step = tell_law node from tell watch tell_taken.is_node.ties (told_name p s number node from tell watch is) at is.known

  tell_none : StartsNone s tell_after
  tell_none =
      tell_starts_none p s number node from tell watch (due p s number node from (tell_body tell watch) is)
      (tell_in_session node from tell watch (inl at) is.known)

  tell_core : IsCoreNode s (name_of node)
  tell_core = record { state = node; is = is.at; core = inl at }

  tell_cores : (y : List ℕ) → IsCoreNode s y → IsCoreNode tell_after y
  tell_cores = core_kept s tell_after (name_of node) node tell_acted.state tell_taken.at tell_step.status

  tell_softs : (y : List ℕ) → IsSoft s y → IsSoft tell_after y
  tell_softs = softs_same s tell_after (name_of node) node tell_acted.state tell_taken.at tell_step.status tell_none

  tell_joiner : IsJoiner tell_after tell.joiner
  tell_joiner =
      joiner_after s tell_after (name_of node) node tell_acted.state tell_taken.at tell_step.status tell.joiner (tell_none tell.joiner)
      (told p s number node from tell watch is).joiner

  tell_covered : (level : ℕ) → level_kept tell_acted.state.covers tell.joiner ≡ Some level
      → HasCovered p tell_after node (request_of from tell watch)
  tell_covered level kept =
      let sound = told p s number node from tell watch is in
      let settings = (is.nodes.nodes (name_of node) node is.at).settings in
      let of = of_tell p s number node from tell watch is at in
      let above = of.above in
      let reach = of.inside.reach in
      let swap = lcp-sym tell.joiner (name_of node) in
      let prefix = of.prefix_is in
      record {
        ties = tell_taken.is_node.ties;
        settings = settings;
        name = told_name p s number node from tell watch is;
        fits = tell_fits node from tell watch is.known;
        core = tell_cores (name_of node) tell_core;
        joiner = tell_joiner;
        links =
            links_sound_then s tell_after (name_of node) node is.at is.invariant.soft
            (unmarked p s number node from (tell_body tell watch) is (λ never. never)) tell_cores tell_softs;
        prefix =
            sound.prefix
            ∙ sym (ap (λ (surrogate : Option (List ℕ)). lcp (unwrap_or surrogate []) tell.joiner) (tell_none tell.joiner));
        level = level;
        covers = record { state = tell_acted.state; is = tell_taken.at.is; cover = kept };
        within = omega (arith, above);
        shared = omega (arith, reach, swap, prefix);
        most = rw settings of.most;
      }

  tell_peaceful : IsPeaceful tell_after
  tell_peaceful =
      let none = none_departs p s number node from (tell_body tell watch) is (λ never. never) in
      is_peaceful s tell_after number (frame_to node from (tell_body tell watch)) tell_acted.sent tell_taken.taken (name_of node) node
      tell_acted.state tell_taken.at (sends_no_notice node (request_of from tell watch) tell_acted tell_carried)
      (no_leaver node tell_acted at tell_step.status)
      (pin_sound tell_after node tell.joiner tell_acted tell_step.pins (inl tell_joiner)) none (peace_kept p s number none)
      is.invariant.departure is.invariant.notices

  tell_anew : ((kept : ℕ) → level_of node tell.joiner ≡ Some kept → tell.level < kept) → KeepsNames p tell_after
  tell_anew anew =
      let inv = is.invariant in
      let joiner = (told p s number node from tell watch is).joiner in
      let step : TakesTell s tell_after number from (name_of node) tell watch = record {
        before = node;
        after = tell_acted.state;
        sent = tell_acted.sent;
        taken = tell_taken.taken;
        at = tell_taken.at;
        covers =
            covers_anew node (request_of from tell watch) tell_acted tell_taken.is_node.ties (told_name p s number node from tell watch is)
            (tell_fits node from tell watch is.known) anew tell_step;
        surrogate = tell_none;
      } in
      let has = tell_covered tell.level step.covers.covered in
      let law = seeking_tell_law p s tell_after number from (name_of node) tell watch step tell_core joiner
      (sends_covers p tell_after node (request_of from tell watch) has tell_acted tell_carried) in
      record {
        soft =
            soft_tell_law s tell_after number from (name_of node) tell watch step joiner
            (sends_sound p tell_after node (request_of from tell watch) has tell_acted tell_carried) inv.soft;
        sought = record { seeking = law.0.0 inv.seeking; seekers = law.0.1 inv.seekers; tells = law.1 inv.tells };
        peaceful = tell_peaceful;
      }

  -- the cover stays, and no link changes but a pin on the joiner
  tell_known : (kept : ℕ) → level_of node tell.joiner ≡ Some kept → kept ≤ tell.level → KeepsNames p tell_after
  tell_known kept level most =
      let inv = is.invariant in
      let frame : Frame = record { from = from; to = name_of node; body = tell_body tell watch } in
      let joiner = (told p s number node from tell watch is).joiner in
      let test = (kept_exactly (level_of node tell.joiner) tell.level).1 (kept, level, most) in
      let same = covers_stay node (request_of from tell watch) tell_acted tell_step test in
      let covers = λ (d : List ℕ). ap (λ c. level_kept c d) same in
      let covered : level_kept tell_acted.state.covers tell.joiner ≡ Some kept = covers tell.joiner ∙ level in
      let has = tell_covered kept covered in
      let sends = sends_covers p tell_after node (request_of from tell watch) has tell_acted tell_carried in
      let sound = sends_sound p tell_after node (request_of from tell watch) has tell_acted tell_carried in
      let leaves = cover_leaves_seekers p s tell_after number frame tell_acted.sent tell_taken.taken sends (name_of node) node
      tell_acted.state tell_taken.at tell_step.status tell.joiner (inl tell_joiner) (λ d. inr (tell_none d)) (λ d. inr (covers d)) tell_core
      tell_step.pins.others (λ y seeker. not_seek y) (λ from_one to m among seeker. seeker_not_soft s tell.joiner seeker (inl joiner)) in
      record {
        soft =
            soft_kept s tell_after tell_cores tell_softs
            (links_sound s tell_after (name_of node) node tell_acted.state tell_taken.at
            (pin_sound tell_after node tell.joiner tell_acted tell_step.pins (inl tell_joiner)))
            (λ w t body under.
            elim (was_under_way s tell_after number frame tell_acted.sent tell_taken.taken w t body under) [
              | inl old ↦ inl old
              | inr comes ↦ inr (sound w t body comes)
            ]) inv.soft;
        sought = record {
          seeking = seeking_kept s tell_after leaves inv.seeking;
          seekers = seekers_kept s tell_after leaves inv.seekers;
          tells =
              tells_kept p s tell_after
              (cover_leaves_tells p s tell_after number frame tell_acted.sent tell_taken.taken sends (name_of node) node tell_acted.state
              tell_taken.at tell_step.status tell.joiner (inl tell_joiner) (λ d. inr (tell_none d)) (λ d. inr (covers d)) tell_softs
              (joiners_same s tell_after (name_of node) node tell_acted.state tell_taken.at tell_step.status tell_none)
              (λ d joins. tell_none d) kept covered) inv.tells;
        };
        peaceful = tell_peaceful;
      }
    where
      not_seek : (y : List ℕ) → tell_body tell watch ≡ Seek y → ⊥
      not_seek y same = let wrong : tell_body tell watch ≡ Seek y = same in cc

  tell_by : (level : Option ℕ) → level_of node tell.joiner ≡ level → KeepsNames p tell_after
  tell_by None none = tell_anew (λ kept some. let wrong : None ≡ Some kept = sym none ∙ some in absurd (cc))
  tell_by (Some kept) some = elim (cases_lt tell.level kept) [
    | inl less ↦
        tell_anew (λ other is_other.
        let same : Some kept ≡ Some other = sym some ∙ is_other in
        let level : kept ≡ other = cc in
        omega (arith, less, level))
    | inr most ↦ tell_known kept some most
  ]

  tell_keeps : KeepsNames p tell_after
  tell_keeps = tell_by (level_of node tell.joiner) refl

-- ---- a Seek at the surrogate

-- the surrogates once a frame is delivered
surrogates_after : (p : SettingsValue) (s : System) (number : ℕ) (frame : Frame) (node : NodeState)
    (is : numbered_frame number s.frames ≡ Some frame) (at : s.node frame.to ≡ Some node) (b : List ℕ)
    → (moved p s (Delivers number)).surrogate b
    ≡ surrogates_with s.surrogate frame.to (opened_by (taking s number frame node (act node (Takes frame)))) b
unfolding moved
surrogates_after p s number frame node is at b = rw (is, at) refl

module _ (p : SettingsValue) (s : System) (number : ℕ) (node : NodeState) (from joiner : List ℕ)
    (is : IsDelivery p s number node from (Seek joiner)) (at : node.status ≡ Core) (prefix : ℕ)
    (found : sought node.ties.table joiner ≡ Surrogate prefix) where
  abbrev seek_after : System
  seek_after = after_delivery p s number

  abbrev seek_acted : Acted
  seek_acted = taken_at node from (Seek joiner)

  abbrev own : List ℕ
  own = name_of node

  pub seek_carried : IsCarriedOut node (pins_and_covers node (first_request node joiner prefix)) seek_acted
  unfolding frame_at_core
  seek_carried =
      let sought_on = frame_law node (frame_to node from (Seek joiner)) (takes_seek node joiner) is.known (rw at refl) in
      rw found at sought_on

  seek_taken : TakesByRule s seek_after number node from (Seek joiner)
  seek_taken = by_rule p s number node from (Seek joiner) (due p s number node from (Seek joiner) is)

  seeker : IsSeeker s joiner
  seeker = is.invariant.seekers.seeks from own joiner (way p s number node from (Seek joiner) is)

  pub seek_name : IsName (settings_of node) joiner
  seek_name = of_node p s number node from (Seek joiner) is joiner (name_at p s is.nodes joiner seeker.state seeker.is)

  -- the joiner's surrogate is this node, and no other surrogate changes
  seek_surrogates : (b : List ℕ) → seek_after.surrogate b ≡ with_at s.surrogate joiner (Some own) b
  seek_surrogates b =
      let here = due p s number node from (Seek joiner) is in
      let opens = seek_opens node from joiner prefix at is.known found in
      surrogates_after p s number (frame_to node from (Seek joiner)) node (is_found p s number node from (Seek joiner) here) here.at b
      ∙ ap (λ (o : Option Session). surrogates_with s.surrogate own o b)
      (opened_found node.sessions seek_acted.state.sessions (Root joiner) 0 opens.waiting here.is_node.sessions opens.sessions)

  shared : prefix ≡ lcp own joiner
  shared =
      (surrogate_is node.ties.table seek_taken.is_node.ties.table joiner seek_name (seek_fits node from joiner prefix is.known found).apart
      prefix found).0

  abbrev seats : SeatsJoiner p s seek_after number from own joiner
  seats = record {
    before = node;
    after = seek_acted.state;
    sent = seek_acted.sent;
    taken = seek_taken.taken;
    at = seek_taken.at;
    covers =
        subst (λ n. CoversAnew node seek_acted.state seek_acted.sent own joiner n n) shared
        (seek_covers s seek_after number node from joiner prefix seek_taken at seek_name found);
    greets =
        subst (λ q. IsGreeted q s seek_after own joiner) (is.nodes.nodes own node is.at).settings
        (seek_greets s seek_after number node from joiner prefix seek_taken at seek_name found);
    seated = seek_surrogates joiner ∙ with_at-here s.surrogate joiner (Some own);
    others = λ d. elim (with_at-others s.surrogate joiner (Some own) d) [
      | inl same ↦ inl same
      | inr stays ↦ inr (seek_surrogates d ∙ stays)
    ];
  }

  seek_core : IsCoreNode s own
  seek_core = record { state = node; is = is.at; core = inl at }

  seek_cores : (y : List ℕ) → IsCoreNode s y → IsCoreNode seek_after y
  seek_cores = core_kept s seek_after own node seek_acted.state seek_taken.at seats.covers.status

  seek_joiner : IsJoiner seek_after joiner
  seek_joiner = (joiner_is_new p s seek_after number from own joiner seats seeker).new

  seek_covered : HasCovered p seek_after node (first_request node joiner prefix)
  seek_covered =
      let fits = seek_fits node from joiner prefix is.known found in
      let inside = name_inside node.ties.table seek_taken.is_node.ties.table joiner seek_name fits.apart in
      let same = shared in
      record {
        ties = seek_taken.is_node.ties;
        settings = (is.nodes.nodes own node is.at).settings;
        name = seek_name;
        fits = fits;
        core = seek_cores own seek_core;
        joiner = seek_joiner;
        links =
            links_sound_then s seek_after own node is.at is.invariant.soft
            (unmarked p s number node from (Seek joiner) is (λ never. never)) seek_cores
            (seat_softs p s seek_after number from own joiner seats seeker);
        prefix = shared ∙ sym (ap (λ (surrogate : Option (List ℕ)). lcp (unwrap_or surrogate []) joiner) seats.seated);
        level = lcp own joiner;
        covers = record { state = seek_acted.state; is = seek_taken.at.is; cover = seats.covers.covered };
        within = omega (arith);
        shared = omega (arith, same);
        most = omega (arith, same, inside);
      }

  -- a link that comes is the pin on the joiner
  seat_sound : AddsSoundLinks seek_after node seek_acted.state
  seat_sound t kind now =
      elim (seats.covers.links t) [
        | inr same ↦ inl (sym same ∙ now)
        | inl here ↦
            let pin : link_to seek_acted.state t ≡ Some Pin = ap (λ v. link_to seek_acted.state v) here ∙ seats.covers.pinned in
            let kind_is : kind ≡ Pin = cc in
            let soft : IsSoft seek_after joiner = inl seek_joiner in
            inr (rw (kind_is, here) soft)
      ]

  seek_peaceful : IsPeaceful seek_after
  seek_peaceful =
      let none = none_departs p s number node from (Seek joiner) is (λ never. never) in
      is_peaceful s seek_after number (frame_to node from (Seek joiner)) seek_acted.sent seek_taken.taken own node seek_acted.state
      seek_taken.at (sends_no_notice node (first_request node joiner prefix) seek_acted seek_carried)
      (no_leaver node seek_acted at seats.covers.status) seat_sound none (peace_kept p s number none) is.invariant.departure
      is.invariant.notices

  seek_keeps : KeepsNames p seek_after
  seek_keeps =
      let inv = is.invariant in
      let request = first_request node joiner prefix in
      let law = seeking_seat_law p s seek_after number from own joiner seats seek_core seeker
      (sends_covers p seek_after node request seek_covered seek_acted seek_carried) inv.numbered inv.seeking in
      record {
        soft =
            soft_seat_law p s seek_after number from own joiner seats seeker
            (sends_sound p seek_after node request seek_covered seek_acted seek_carried) inv.soft;
        sought = record { seeking = law.0; seekers = law.1 inv.seekers; tells = law.2 inv.tells };
        peaceful = seek_peaceful;
      }

-- ---- a Done

module _ (p : SettingsValue) (s : System) (number : ℕ) (node : NodeState) (from : List ℕ) (is : IsDelivery p s number node from Done)
    (joined : node.abandoned ≡ false) where
  abbrev done_after : System
  done_after = after_delivery p s number

  abbrev done_acted : Acted
  done_acted = taken_at node from Done

  pub done_joiner : IsJoiner s (name_of node)
  done_joiner = is.invariant.of_joiners.dones from (name_of node) (way p s number node from Done is)

  pub done_step : DoneStep node done_acted
  done_step = done_law node from (joins_here s node done_joiner is.at) joined is.known

  done_taken : TakesByRule s done_after number node from Done
  done_taken = by_rule p s number node from Done (due p s number node from Done is)

  abbrev done_made : TakesDone s done_after number from (name_of node)
  done_made = record {
    before = node;
    after = done_acted.state;
    sent = done_acted.sent;
    taken = done_taken.taken;
    at = done_taken.at;
    was = joins_here s node done_joiner is.at;
    is = done_step.status;
    links = λ t. ap (λ (ties : TiesValue). kind_in ties.table t) done_step.ties;
    covers = λ b. ap (λ c. level_kept c b) done_step.covers;
    surrogate =
        starts_none_as p s number node from Done (due p s number node from Done is)
        (ap (λ (o : SessionsValue). o.opened) done_step.sessions);
  }

  now_core : IsCoreNode done_after (name_of node)
  now_core = record { state = done_acted.state; is = done_taken.at.is; core = inl done_step.status }

  -- it sends nothing but Releases
  done_sends : (P : List ℕ → List ℕ → Body → Type 0) → ((to : List ℕ) (version : ℕ) (on : Bool) → P (name_of node) to (Link version on))
      → ((to object server : List ℕ) (level version : ℕ) (on : Bool) → P (name_of node) to (Lay object server level version on))
      → ((to : List ℕ) → P (name_of node) to Release) → (w t : List ℕ) (body : Body) → IsSent done_acted.sent w t body → P w t body
  done_sends P links lays releases =
      sent_each (name_of node) [] (to_each Release (holders_on node.ties)) done_acted.sent done_step.sent P links lays (λ m among.
      let found = among-map_from (λ name. message name Release) m (holders_on node.ties) among in
      subst (λ (n : Message). P (name_of node) n.to n.body) (sym found.2) (releases found.0))

  done_covers : SendsCovers p done_after done_acted.sent
  done_covers =
      done_sends (λ w t body. IsCoverBody p done_after w t body) (λ to version on. tt) (λ to object server level version on. tt)
      (λ to. tt)

  done_sound : SendsSound done_after done_acted.sent
  done_sound =
      done_sends (λ w t body. IsSoundBody done_after w t body) (λ to version on. tt) (λ to object server level version on. tt)
      (λ to. now_core)

  done_no_notice : (w t : List ℕ) (body : Body) → IsSent done_acted.sent w t body → IsNotice body → ⊥
  done_no_notice =
      done_sends (λ w t body. IsNotice body → ⊥) (λ to version on notice. notice)
      (λ to object server level version on notice. notice) (λ to notice. notice)

  done_peaceful : IsPeaceful done_after
  done_peaceful =
      let none = none_departs p s number node from Done is (λ never. never) in
      is_peaceful s done_after number (frame_to node from Done) done_acted.sent done_taken.taken (name_of node) node done_acted.state
      done_taken.at done_no_notice
      (λ leaves. let wrong : Core ≡ Leaving = sym done_step.status ∙ leaves in absurd (cc))
      (λ t kind now. inl (sym (ap (λ (ties : TiesValue). kind_in ties.table t) done_step.ties) ∙ now)) none
      (peace_kept p s number none) is.invariant.departure is.invariant.notices

  done_keeps : KeepsNames p done_after
  done_keeps =
      let inv = is.invariant in
      let quiet = gives_quiet_law p s from (name_of node) inv (way p s number node from Done is) in
      let law = seeking_done_law p s done_after number from (name_of node) done_made quiet done_covers in
      record {
        soft = soft_done_law s done_after number from (name_of node) done_made done_sound inv.soft;
        sought = record { seeking = law.0.0 inv.seeking; seekers = law.0.1 inv.seekers; tells = law.1 inv.tells };
        peaceful = done_peaceful;
      }

-- ---- by the kind of a frame

seek_soft : (p : SettingsValue) (s : System) (number : ℕ) (node : NodeState) (from joiner : List ℕ)
    → IsDelivery p s number node from (Seek joiner) → node.status ≡ Core → (found : Sought) → sought node.ties.table joiner ≡ found
    → NamesSoft (after_delivery p s number)
seek_soft p s number node from joiner is at (Forward next) found = frame_soft p s number node from (Seek joiner) is (next, found)
seek_soft p s number node from joiner is at (Surrogate prefix) found =
    (seek_keeps p s number node from joiner is at prefix found).soft

pub taken_soft : TakenSoft
taken_soft p s number node from body is there = by_said body (said_of body) is there
  where
    by_said : (body : Body) → Said body → IsDelivery p s number node from body → IsFilledThere node body
        → NamesSoft (after_delivery p s number)
    by_said _ (IsTell tell watch) is there =
        elim there [
          | inl core ↦ (tell_keeps p s number node from tell watch is core).soft
          | inr other ↦ frame_soft p s number node from (tell_body tell watch) is other
        ]
    by_said _ (IsSeek joiner) is there = seek_soft p s number node from joiner is there (sought node.ties.table joiner) refl
    by_said _ IsDone is there = (done_keeps p s number node from is there).soft
    by_said body _ is there = frame_soft p s number node from body is there

seek_seeks : (p : SettingsValue) (s : System) (number : ℕ) (node : NodeState) (from joiner : List ℕ)
    → IsDelivery p s number node from (Seek joiner) → node.status ≡ Core → (found : Sought) → sought node.ties.table joiner ≡ found
    → AreSought p (after_delivery p s number)
seek_seeks p s number node from joiner is at (Forward next) found =
    frame_seeks p s number node from (Seek joiner) is (at, (next, found))
seek_seeks p s number node from joiner is at (Surrogate prefix) found =
    (seek_keeps p s number node from joiner is at prefix found).sought

pub taken_seeks : TakenSeeks
taken_seeks p s number node from body is there = by_said body (said_of body) is there
  where
    by_said : (body : Body) → Said body → IsDelivery p s number node from body → IsFilledThere node body
        → AreSought p (after_delivery p s number)
    by_said _ (IsTell tell watch) is there =
        elim there [
          | inl core ↦ (tell_keeps p s number node from tell watch is core).sought
          | inr other ↦ frame_seeks p s number node from (tell_body tell watch) is other
        ]
    by_said _ (IsSeek joiner) is there = seek_seeks p s number node from joiner is there (sought node.ties.table joiner) refl
    by_said _ IsDone is there = (done_keeps p s number node from is there).sought
    by_said body _ is there = frame_seeks p s number node from body is there

seek_at_peace : (p : SettingsValue) (s : System) (number : ℕ) (node : NodeState) (from joiner : List ℕ)
    → IsDelivery p s number node from (Seek joiner) → node.status ≡ Core → (found : Sought) → sought node.ties.table joiner ≡ found
    → s.departing ≡ None → IsPeaceful (after_delivery p s number)
seek_at_peace p s number node from joiner is at (Forward next) found none =
    frame_peaceful p s number node from (Seek joiner) is (at, (next, found)) none
seek_at_peace p s number node from joiner is at (Surrogate prefix) found none =
    (seek_keeps p s number node from joiner is at prefix found).peaceful

pub taken_peaceful : TakenPeaceful
taken_peaceful p s number node from body is there none = by_said body (said_of body) is there none
  where
    by_said : (body : Body) → Said body → IsDelivery p s number node from body → IsFilledThere node body → s.departing ≡ None
        → IsPeaceful (after_delivery p s number)
    by_said _ (IsTell tell watch) is there none =
        elim there [
          | inl core ↦ (tell_keeps p s number node from tell watch is core).peaceful
          | inr other ↦ frame_peaceful p s number node from (tell_body tell watch) is other none
        ]
    by_said _ (IsSeek joiner) is there none = seek_at_peace p s number node from joiner is there (sought node.ties.table joiner) refl none
    by_said _ IsDone is there none = (done_keeps p s number node from is there).peaceful
    by_said body _ is there none = frame_peaceful p s number node from body is there none
