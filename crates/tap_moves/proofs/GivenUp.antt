-- The Done of a join that was given up: its node has ceased, with no link and no cover, and what it has sent are words and Forgets.
-- Cited above: given_up_ended, given_up_fills, given_up_seeks, given_up_soft, given_up_stamped
use Rattle.std.proofs.Common.{◌≡◌, ◌⊎◌, ℕ, zero, suc, ◌+◌, Bool, true, false, List, [], ◌∷◌, Option, None, Some, slice_get, arith, ap, refl, sym, subst, ◌∙◌, inl, inr}
use Rattle.std.specs.Option.{unwrap_or}
use Rattle.tap_name.specs.Prefix.{lcp}
use Rattle.tap_name.specs.Settings.{SettingsValue}
use Rattle.tap_link.specs.declared.kind.Kind.{Kind}
use Rattle.tap_link.specs.declared.kind.Kind.TheVariants.{Pin}
use Rattle.tap_session.specs.Session.{SessionsValue}
use Rattle.tap_table.specs.ByName.{targets_by_name}
use Rattle.tap_table.specs.Ties.{holders_on, off_ties}
use Rattle.tap_table.specs.declared.tie.Tie.{Tie}
use Rattle.tap_multicast.specs.Covers.{level_kept}
use Rattle.tap_wire.specs.declared.frame.Body.{Body}
use Rattle.tap_wire.specs.declared.frame.Body.TheVariants.{Done, Forget, Link, Seek}
use Rattle.tap_wire.specs.declared.frame.Frame.{Frame}
use Rattle.tap_wire.specs.declared.frame.TellFields.{TellFields}
use Rattle.tap_wire.specs.declared.kind.Kind.{Kind as FrameKind}
use Rattle.tap_wire.specs.declared.kind.Kind.TheVariants as kind
use Rattle.tap_wire.specs.Kind.{kind_of}
use Rattle.tap_rule.specs.EndSteps.{EndStep, lays_at_end, words_at_end}
use Rattle.tap_rule.specs.Event.{Acted}
use Rattle.tap_rule.specs.RuleLaws.{frame_to}
use Rattle.tap_rule.specs.Node.{NodeState, link_to, name_of}
use Rattle.tap_rule.specs.Node.Status.{Ceased as CeasedStatus, Joining, Leaving}
use Rattle.tap_rule.specs.Reaction.{Message, message, to_each}
use Rattle.tap_rule.specs.Sent.{IsAmong}
use Rattle.tap_rule.proofs.Among.{among-map_from}
use Rattle.tap_rule.proofs.EndSteps.{cease_law}
use Rattle.tap_safety.specs.Bookkeeping.{AreStamped, EndedHaveNoLinks, has_table}
use Rattle.tap_safety.specs.Filled.{AreFilled}
use Rattle.tap_safety.specs.Frames.{hello_body, tell_body}
use Rattle.tap_safety.specs.KnownLaws.{Stamps}
use Rattle.tap_safety.specs.Notices.{IsNoticeKind}
use Rattle.tap_safety.specs.SeekerSteps.{AmongSeeks, LeavesSeekers}
use Rattle.tap_safety.specs.Seeking.{HasNode, IsSeeker}
use Rattle.tap_safety.specs.SessionSteps.{Exchanges}
use Rattle.tap_safety.specs.Soft.{IsCeased, IsSoft, IsSoundBody, NamesSoft}
use Rattle.tap_safety.specs.Exchanges.{IsSent, numbered_from}
use Rattle.tap_safety.specs.System.{System, AmongFrames, CoversAt, HasLink, HelloNames, IsCoreNode, IsJoiner, IsTold, IsUnderWay}
use Rattle.tap_safety.specs.Tells.{IsSoundTell, TellsAreSound}
use Rattle.tap_safety.specs.Regions.{IsGiven, prefix_of}
use Rattle.tap_safety.proofs.Calm.{AddsNoCover, filled_calm, still_told}
use Rattle.tap_safety.proofs.CoverKept.{core_or_joiner}
use Rattle.tap_safety.proofs.FrameKeeps.{core_not, joiner_not_ceased, one_state}
use Rattle.tap_safety.proofs.KeptParts.{AddsNone, Keeps, TakesNoTell}
use Rattle.tap_safety.proofs.Known.{ended_kept, stamps_frame}
use Rattle.tap_safety.proofs.Peace.{peace_kept}
use Rattle.tap_safety.proofs.SoftKept.{sent_each, soft_kept}
use Rattle.tap_safety.proofs.StepLaws.{exchanged_law, gives_quiet_law, seeking_law}
use Rattle.tap_safety.proofs.UnderWay.{among_sent, still_under_way, told_by, was_under_way}
use Rattle.tap_safety.proofs.Said.{Said, said_of}
use Rattle.tap_safety.proofs.Said.Said.{IsHello, IsLeave, IsRelease}
use Rattle.tap_moves.specs.ByRule.{StartsNone, TakesByRule, taken_at}
use Rattle.tap_moves.specs.Delivered.{after_delivery}
use Rattle.tap_moves.specs.InvariantLaws.{IsDelivery}
use Rattle.tap_moves.proofs.Got.{same_name}
use Rattle.tap_moves.proofs.InvariantMoves.{due, joins_here, way}
use Rattle.tap_moves.proofs.MovesMade.{by_rule, starts_none_as}
use Rattle.tap_moves.specs.GivenUp.{GivenUpEnded, GivenUpFills, GivenUpPeaceful, GivenUpSeeks, GivenUpSoft, GivenUpStamped}
use Rattle.tap_moves.proofs.CoverMoves.{none_departs}
use Rattle.tap_moves.proofs.CoverPeace.{is_peaceful}
use Rattle.tap_moves.proofs.Stamped.{in_order_once, numbered_new}
use Rattle.tap_moves.proofs.WordsAnew.{changes_at, has_done, is_taken}

-- ---- what is sent

-- a word of a link, a Forget or a Lay
abbrev IsFarewellKind : FrameKind → Type 0
IsFarewellKind kind.Link = Unit {0}
IsFarewellKind kind.Forget = Unit {0}
IsFarewellKind kind.Lay = Unit {0}
IsFarewellKind other = ⊥

abbrev IsFarewell : Body → Type 0
IsFarewell body = IsFarewellKind (kind_of body)

farewell_sound : (s : System) (from to : List ℕ) {body : Body} → Said body → IsFarewell body → IsSoundBody s from to body
farewell_sound s from to (IsHello hello) farewell = absurd farewell
farewell_sound s from to IsRelease farewell = absurd farewell
farewell_sound s from to (IsLeave replacement) farewell = absurd farewell
farewell_sound s from to _ farewell = tt

farewell_no_notice : (kind : FrameKind) → IsFarewellKind kind → IsNoticeKind kind → ⊥
farewell_no_notice kind.Leave farewell notice = absurd farewell
farewell_no_notice kind.Left farewell notice = absurd farewell
farewell_no_notice kind.Gone farewell notice = absurd farewell
farewell_no_notice _ farewell notice = absurd notice

-- the words for the links that are let go have the numbers after the last one, in order
pub off_numbered : (last : ℕ) (names : List (List ℕ)) (i : ℕ) (word : Tie) → slice_get (off_ties last names) i ≡ Some word
    → word.version ≡ last + i + 1
off_numbered last [] i word got = cc
off_numbered last (name ∷ names) zero word got =
    let same : record { to = name; version = last + 1; on = false } ≡ word = cc in
    let version : last + 1 ≡ word.version = ap (λ (w : Tie). w.version) same in
    omega (arith, version)
off_numbered last (name ∷ names) (suc i) word got =
    let later = off_numbered (last + 1) names i word got in omega (arith, later)

-- ---- the step

module _ (p : SettingsValue) (s : System) (number : ℕ) (node : NodeState) (from : List ℕ) (is : IsDelivery p s number node from Done)
    (given_up : node.abandoned ≡ true) where
  abbrev after : System
  after = after_delivery p s number

  abbrev acted : Acted
  acted = taken_at node from Done

  abbrev own : List ℕ
  own = name_of node

  pub joiner : IsJoiner s own
  joiner = is.invariant.of_joiners.dones from own (way p s number node from Done is)

  pub joins : node.status ≡ Joining
  joins = joins_here s node joiner is.at

  pub step : EndStep node CeasedStatus Forget acted
  step = cease_law node from joins given_up is.known

  pub taken : TakesByRule s after number node from Done
  taken = by_rule p s number node from Done (due p s number node from Done is)

  none : StartsNone s after
  none =
      starts_none_as p s number node from Done (due p s number node from Done is) (ap (λ (o : SessionsValue). o.opened) step.sessions)

  -- ---- other nodes

  pub there : (y : List ℕ) (state : NodeState) → (y ≡ own → ⊥) → s.node y ≡ Some state → after.node y ≡ Some state
  there y state apart at = elim (taken.at.others y) [ inl here ↦ absurd (apart here) | inr same ↦ same ∙ at ]

  before : (y : List ℕ) (state : NodeState) → (y ≡ own → ⊥) → after.node y ≡ Some state → s.node y ≡ Some state
  before y state apart at = elim (taken.at.others y) [ inl here ↦ absurd (apart here) | inr same ↦ sym same ∙ at ]

  -- who is core is another node, before and after; and who joins afterwards is
  pub core_apart : (y : List ℕ) → IsCoreNode s y → y ≡ own → ⊥
  core_apart y core same = core_or_joiner s own (subst (IsCoreNode s) same core) joiner

  pub core_apart_now : (y : List ℕ) → IsCoreNode after y → y ≡ own → ⊥
  core_apart_now y core same = core_not after own acted.state taken.at.is (inr step.status) (subst (IsCoreNode after) same core)

  pub joiner_apart_now : (y : List ℕ) → IsJoiner after y → y ≡ own → ⊥
  joiner_apart_now y other same = joiner_not_ceased after own acted.state taken.at.is step.status (subst (IsJoiner after) same other)

  cores : (y : List ℕ) → IsCoreNode s y → IsCoreNode after y
  cores y core = record { state = core.state; is = there y core.state (core_apart y core) core.is; core = core.core }

  cores_was : (y : List ℕ) → IsCoreNode after y → IsCoreNode s y
  cores_was y core = record { state = core.state; is = before y core.state (core_apart_now y core) core.is; core = core.core }

  joiners_was : (y : List ℕ) → IsJoiner after y → IsJoiner s y
  joiners_was y other = record {
    state = other.state;
    is = before y other.state (joiner_apart_now y other) other.is;
    joining = other.joining;
    surrogate = other.surrogate;
    started = sym (none y) ∙ other.started;
  }

  joiners_on : (y : List ℕ) → (y ≡ own → ⊥) → IsJoiner s y → IsJoiner after y
  joiners_on y apart other = record {
    state = other.state;
    is = there y other.state apart other.is;
    joining = other.joining;
    surrogate = other.surrogate;
    started = none y ∙ other.started;
  }

  has_ceased : (y : List ℕ) → y ≡ own → IsCeased after y
  has_ceased y same =
      let here : IsCeased after own = record { state = acted.state; is = taken.at.is; ceased = step.status } in
      subst (IsCeased after) (sym same) here

  -- ---- links, covers and frames

  link_on : (y z : List ℕ) (kind : Kind) → (y ≡ own → ⊥) → HasLink s y z kind → HasLink after y z kind
  link_on y z kind apart link = record { state = link.state; is = there y link.state apart link.is; link = link.link }

  pub link_was : (y z : List ℕ) (kind : Kind) → HasLink after y z kind → HasLink s y z kind
  link_was y z kind link =
      elim (same_name y own) [
        | inr apart ↦ record { state = link.state; is = before y link.state apart link.is; link = link.link }
        | inl here ↦
            let at : after.node own ≡ Some link.state = subst (λ v. after.node v ≡ Some link.state) here link.is in
            let same = one_state after own link.state acted.state at taken.at.is in
            let wrong : None ≡ Some kind = sym (step.unlinked z) ∙ ap (λ (n : NodeState). link_to n z) (sym same) ∙ link.link in
            absurd (cc)
      ]

  covers_on : (y b : List ℕ) (level : ℕ) → (y ≡ own → ⊥) → CoversAt s y b level → CoversAt after y b level
  covers_on y b level apart cover = record { state = cover.state; is = there y cover.state apart cover.is; cover = cover.cover }

  covers_was : (y b : List ℕ) (level : ℕ) → CoversAt after y b level → CoversAt s y b level
  covers_was y b level cover =
      elim (same_name y own) [
        | inr apart ↦ record { state = cover.state; is = before y cover.state apart cover.is; cover = cover.cover }
        | inl here ↦
            let at : after.node own ≡ Some cover.state = subst (λ v. after.node v ≡ Some cover.state) here cover.is in
            let same = one_state after own cover.state acted.state at taken.at.is in
            let bare : level_kept acted.state.covers b ≡ None = ap (λ covers. level_kept covers b) step.emptied.covers in
            let wrong : None ≡ Some level = sym bare ∙ ap (λ (n : NodeState). level_kept n.covers b) (sym same) ∙ cover.cover in
            absurd (cc)
      ]

  pub farewells : (w t : List ℕ) (body : Body) → IsSent acted.sent w t body → IsFarewell body
  farewells =
      sent_each own (words_at_end node) (to_each Forget (holders_on node.ties)) acted.sent step.sent (λ w t body. IsFarewell body)
      (λ to version on. tt) (λ to object server level version on. tt) (λ m among.
      let found = among-map_from (λ name. message name Forget) m (holders_on node.ties) among in
      subst (λ (n : Message). IsFarewell n.body) (sym found.2) tt)

  pub still : (w t : List ℕ) (body : Body) → (body ≡ Done → ⊥) → IsUnderWay s w t body → IsUnderWay after w t body
  still w t body apart under =
      elim (still_under_way s after number (frame_to node from Done) acted.sent taken.taken w t body under) [
        | inl on ↦ on
        | inr same ↦ absurd (apart (ap (λ (f : Frame). f.body) same))
      ]

  was : (w t : List ℕ) (body : Body) → IsUnderWay after w t body → IsUnderWay s w t body ⊎ IsFarewell body
  was w t body under =
      elim (was_under_way s after number (frame_to node from Done) acted.sent taken.taken w t body under) [
        | inl old ↦ inl old
        | inr sends ↦ inr (farewells w t body sends)
      ]

  told_on : (b x : List ℕ) (level : ℕ) → IsTold s b x level → IsTold after b x level
  told_on b x level told =
      told_by s after b x level told (still told.from x (tell_body told.fields told.watch) (λ same. cc) told.way)

  told_was : (b x : List ℕ) (level : ℕ) → IsTold after b x level → IsTold s b x level
  told_was b x level told =
      elim (was told.from x (tell_body told.fields told.watch) told.way) [
        | inl old ↦ told_by after s b x level told old
        | inr never ↦ absurd never
      ]

  named_on : (w b x : List ℕ) → HelloNames s w b x → HelloNames after w b x
  named_on w b x named =
      record { fields = named.fields; way = still w b (hello_body named.fields) (λ same. cc) named.way; named = named.named }

  -- ---- tables without holes

  given_on : (b e : List ℕ) → (b ≡ own → ⊥) → IsGiven s b e → IsGiven after b e
  given_on b e apart given = record {
    by = given.by;
    core = cores given.by given.core;
    near = given.near;
    knows = record {
      known = elim given.knows.known [
        | inl has ↦ inl (record { kind = has.kind; link = link_on b given.by has.kind apart has.link })
        | inr by ↦ inr (by.0, named_on by.0 b given.by by.1)
      ];
    };
  }

  either_apart : (x : List ℕ) → IsCoreNode after x ⊎ IsJoiner after x → x ≡ own → ⊥
  either_apart x (inl core) same = core_apart_now x core same
  either_apart x (inr other) same = joiner_apart_now x other same

  keeps : Keeps s after
  keeps = record {
    cores = cores;
    pins = λ x b stays either pin. link_on x b Pin (either_apart x either) pin;
    has = λ x b stays other has. record { kind = has.kind; link = link_on x b has.kind (joiner_apart_now x other.is) has.link };
    given = λ b e stays given. given_on b e (joiner_apart_now b stays.is) given;
    filled = λ x e core other near. record {
      to = near.to;
      core = cores near.to near.core;
      near = near.near;
      kind = near.kind;
      link = link_on x near.to near.kind (core_apart x core) near.link;
    };
    prefix = λ b stays. ap (λ (surrogate : Option (List ℕ)). lcp (unwrap_or surrogate []) b) (none b);
    named = λ w b x stays other named. inr (named_on w b x named);
  }

  adds_none : AddsNone s after
  adds_none = record { cores = cores_was; joiners = joiners_was }

  adds_no_cover : AddsNoCover s after
  adds_no_cover = record {
    kept = λ x b level core cover. covers_on x b level (core_apart x core) cover;
    was = covers_was;
    pins = λ x e core pin. link_was x e Pin pin;
    surrogate = none;
  }

  no_tell : TakesNoTell s after
  no_tell = record { told = told_on }

  fills : AreFilled p s → AreFilled p after
  fills filled = filled_calm p s after keeps adds_none adds_no_cover (still_told s after keeps no_tell) filled

  ended : EndedHaveNoLinks after
  ended =
      ended_kept s after own acted.state acted.sent (has_done p s number node from Done is)
      (λ t kind link. let wrong : None ≡ Some kind = sym (step.unlinked t) ∙ link in absurd (cc)) is.invariant.ended

  -- ---- who is named

  ceased_on : (y : List ℕ) → IsCeased s y → IsCeased after y
  ceased_on y ceased =
      elim (same_name y own) [
        | inl here ↦ has_ceased y here
        | inr apart ↦ record { state = ceased.state; is = there y ceased.state apart ceased.is; ceased = ceased.ceased }
      ]

  softs : (y : List ℕ) → IsSoft s y → IsSoft after y
  softs y (inr (inl core)) = inr (inl (cores y core))
  softs y (inr (inr ceased)) = inr (inr (ceased_on y ceased))
  softs y (inl other) =
      elim (same_name y own) [
        | inl here ↦ inr (inr (has_ceased y here))
        | inr apart ↦ inl (joiners_on y apart other)
      ]

  names_soft : NamesSoft after
  names_soft =
      soft_kept s after cores softs (λ y t kind link. inl (link_was y t kind link)) (λ w t body under.
      elim (was w t body under) [ inl old ↦ inl old | inr farewell ↦ inr (farewell_sound after w t (said_of body) farewell) ]) is.invariant.soft

  -- ---- seekers and Tells

  exchange : Exchanges s after number (frame_to node from Done) (numbered_from s.next acted.sent)
  exchange = exchanged_law s after number (frame_to node from Done) acted.sent taken.taken is.invariant.numbered

  seek_on : (x w t : List ℕ) (m : ℕ) → AmongSeeks s x w t m → AmongSeeks after x w t m
  seek_on x w t m among =
      let seek : Frame = record { from = w; to = t; body = Seek x } in
      elim (exchange.still m seek among) [
        | inr on ↦ on
        | inl same ↦
            let here : AmongFrames number seek s.frames = subst (λ n. AmongFrames n seek s.frames) same among in
            let wrong : Seek x ≡ Done =
            ap (λ (f : Frame). f.body) (exchange.was_one number seek (frame_to node from Done) here exchange.taken) in
            absurd (cc)
      ]

  seeker_apart : (x : List ℕ) → IsSeeker s x → x ≡ own → ⊥
  seeker_apart x seeker same =
      let waits : s.surrogate own ≡ None = ap s.surrogate (sym same) ∙ seeker.waits in
      let wrong : None ≡ Some joiner.surrogate = sym waits ∙ joiner.started in
      cc

  seeker_apart_now : (x : List ℕ) → IsSeeker after x → x ≡ own → ⊥
  seeker_apart_now x seeker same =
      let at : after.node own ≡ Some seeker.state = subst (λ v. after.node v ≡ Some seeker.state) same seeker.is in
      let one = one_state after own seeker.state acted.state at taken.at.is in
      let wrong : Joining ≡ CeasedStatus = sym seeker.joining ∙ ap (λ (n : NodeState). n.status) one ∙ step.status in
      cc

  nodes_on : (y : List ℕ) → HasNode s y → HasNode after y
  nodes_on y known =
      elim (same_name y own) [
        | inl here ↦
            let mine : HasNode after own = record { state = acted.state; is = taken.at.is } in
            subst (HasNode after) (sym here) mine
        | inr apart ↦ record { state = known.state; is = there y known.state apart known.is }
      ]

  leaves_seekers : LeavesSeekers s after
  leaves_seekers = record {
    was = λ x seeker. record {
      state = seeker.state;
      is = before x seeker.state (seeker_apart_now x seeker) seeker.is;
      joining = seeker.joining;
      waits = sym (none x) ∙ seeker.waits;
    };
    cores = cores;
    nodes = nodes_on;
    links = λ y z has. inl (record { kind = has.kind; link = link_was y z has.kind has.link });
    told = λ b t level told. inl (told_was b t level told);
    hellos = λ w b hello under.
        elim (was w b (hello_body hello) under) [ inl old ↦ inl old | inr never ↦ absurd never ];
    covers = λ y b level cover. inl (covers_was y b level cover);
    idle = λ x d level seeker cover. covers_was x d level cover;
    seeks_on = λ x w t m seeker among. seek_on x w t m among;
    seeks_was = λ x w t m among.
        elim (exchange.was m (record { from = w; to = t; body = Seek x }) among) [
          | inl old ↦ old
          | inr new ↦
              absurd (farewells w t (Seek x) (among_sent s.next acted.sent m (record { from = w; to = t; body = Seek x }) new))
        ];
    still = λ x w t m among seeker. record {
      state = seeker.state;
      is = there x seeker.state (seeker_apart x seeker) seeker.is;
      joining = seeker.joining;
      waits = none x ∙ seeker.waits;
    };
  }

  -- a Tell is of another joiner
  tell_on : (w t : List ℕ) (fields : TellFields) → (fields.joiner ≡ own → ⊥) → IsSoundTell p s w t fields → IsSoundTell p after w t fields
  tell_on w t fields apart sound =
      let same : prefix_of after fields.joiner ≡ prefix_of s fields.joiner =
      ap (λ (surrogate : Option (List ℕ)). lcp (unwrap_or surrogate []) fields.joiner) (none fields.joiner) in
      record {
        joiner = joiners_on fields.joiner apart sound.joiner;
        core = cores w sound.core;
        cover = sound.cover;
        covers = covers_on w fields.joiner sound.cover (core_apart w sound.core) sound.covers;
        inside = record { reach = rw same sound.inside.reach };
        apart = sound.apart;
        level = sound.level;
        near = sound.near;
        prefix = sound.prefix ∙ sym same;
        soft = softs t sound.soft;
      }

  tells_sound : TellsAreSound p after
  tells_sound =
      let quiet = gives_quiet_law p s from own is.invariant (way p s number node from Done is) in
      record {
        each = λ w t fields watch under.
            elim (was w t (tell_body fields watch) under) [
              | inr never ↦ absurd never
              | inl old ↦
                  let apart : fields.joiner ≡ own → ⊥ =
                  λ same. quiet.tells t fields.level
                  (record { from = w; fields = fields; watch = watch; way = old; joiner = same; level_is = refl }) in
                  tell_on w t fields apart (is.invariant.tells.each w t fields watch old)
            ];
      }

  -- ---- stamps

  stamps : Stamps node acted.state own acted.sent
  stamps =
      let new = numbered_new node.stamp (words_at_end node)
      (off_numbered node.stamp (targets_by_name node.ties.table)) in
      record {
        table = λ table. let never : has_table CeasedStatus = subst has_table step.status table in absurd never;
        from = λ w t version on sends. let word = said w t version on sends in (word.0, subst has_table (sym joins) tt);
        new = λ w t version on sends.
            let word = said w t version on sends in
            let above = (new.each word.1.0 word.1.1).0 in
            let same = word.1.2 in
            omega (arith, above, same);
        given = λ table w t version on sends. let never : has_table CeasedStatus = subst has_table step.status table in absurd never;
        once =
            in_order_once own (words_at_end node) (to_each Forget (holders_on node.ties)) (lays_at_end CeasedStatus node) acted.sent
            step.in_order new.apart (λ m among version on same.
            let found = among-map_from (λ name. message name Forget) m (holders_on node.ties) among in
            let wrong : Forget ≡ Link version on = ap (λ (n : Message). n.body) (sym found.2) ∙ same in cc);
      }
    where
      -- a Link that is sent is a word
      said : (w t : List ℕ) (version : ℕ) (on : Bool) → IsSent acted.sent w t (Link version on)
          → (w ≡ own) × ((word : Tie) × IsAmong word (words_at_end node) × (version ≡ word.version))
      said w t version on sends =
          elim (step.sent.each (record { from = w; to = t; body = Link version on }) sends) [
            | inl link ↦
                let body : Link version on ≡ Link link.word.version link.word.on = ap (λ (f : Frame). f.body) link.is in
                let same : version ≡ link.word.version = cc in
                (ap (λ (f : Frame). f.from) link.is, (link.word, link.among, same))
            | inr (inl named) ↦
                let found = among-map_from (λ name. message name Forget) named.message (holders_on node.ties) named.among in
                let wrong : Link version on ≡ Forget =
                ap (λ (f : Frame). f.body) named.is ∙ ap (λ (n : Message). n.body) found.2 in
                absurd (cc)
            | inr (inr lay) ↦ let wrong = ap (λ (f : Frame). f.body) lay.is in absurd (cc)
          ]

  are_stamped : AreStamped after
  are_stamped =
      stamps_frame s after number (frame_to node from Done) own node acted.state acted.sent (is_taken p s number node from Done is)
      (changes_at p s number node from Done is) (has_done p s number node from Done is) stamps is.invariant.versions is.invariant.stamped

-- ---- the laws

pub given_up_fills : GivenUpFills
given_up_fills p s number node from ends filled = fills p s number node from ends.delivery ends.given_up filled

pub given_up_ended : GivenUpEnded
given_up_ended p s number node from ends = ended p s number node from ends.delivery ends.given_up

pub given_up_soft : GivenUpSoft
given_up_soft p s number node from ends = names_soft p s number node from ends.delivery ends.given_up

pub given_up_seeks : GivenUpSeeks
given_up_seeks p s number node from ends =
    let is = ends.delivery in
    let law = seeking_law s (after_delivery p s number) (leaves_seekers p s number node from is ends.given_up) in
    record {
      seeking = law.0 is.invariant.seeking;
      seekers = law.1 is.invariant.seekers;
      tells = tells_sound p s number node from is ends.given_up;
    }

pub given_up_peaceful : GivenUpPeaceful
given_up_peaceful p s number node from ends =
    let is = ends.delivery in
    let after = after_delivery p s number in
    let acted = taken_at node from Done in
    let end = step p s number node from is ends.given_up in
    let none = none_departs p s number node from Done is (λ never. never) in
    is_peaceful s after number (frame_to node from Done) acted.sent (is_taken p s number node from Done is) (name_of node) node acted.state
    (changes_at p s number node from Done is)
    (λ w t body sends. farewell_no_notice (kind_of body) (farewells p s number node from is ends.given_up w t body sends))
    (λ leaves. let wrong : CeasedStatus ≡ Leaving = sym end.status ∙ leaves in absurd (cc))
    (λ t kind link. let wrong : None ≡ Some kind = sym (end.unlinked t) ∙ link in absurd (cc)) none (peace_kept p s number none)
    is.invariant.departure is.invariant.notices

pub given_up_stamped : GivenUpStamped
given_up_stamped p s number node from ends = are_stamped p s number node from ends.delivery ends.given_up
