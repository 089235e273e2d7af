-- What a delivered frame keeps, from the invariant.
-- Cited above: core_name, due, frame_exact, frame_fills, hello_names_are, joiner_name, joins_here, known_name, name_at, of_node, seeker_not_core,
-- sender_name, told, told_name, way
use Rattle.std.proofs.Common.{◌≡◌, ◌⊎◌, ℕ, ◌<◌, ◌≤◌, true, false, List, All, Option, None, Some, arith, ap, refl, sym, subst, ◌∙◌, inl, inr}
use Rattle.std.proofs.lemmas.Bool.{cases_Bool, cases_lt}
use Rattle.tap_name.specs.Name.{IsName}
use Rattle.tap_name.specs.Prefix.{lcp}
use Rattle.tap_name.specs.Settings.{SettingsValue}
use Rattle.tap_name.specs.declared.slot.Offered.{Offered}
use Rattle.tap_name.specs.declared.slot.Slot.{Slot}
use Rattle.tap_link.specs.declared.kind.Kind.{Kind}
use Rattle.tap_link.specs.declared.kind.Kind.TheVariants.{Leaving as LeavingKind, Pin, Settled}
use Rattle.tap_wire.specs.declared.frame.Body.{Body}
use Rattle.tap_wire.specs.declared.frame.Body.TheVariants.{Ack, Done, Forget, Heard, Link, Release, Seek}
use Rattle.tap_wire.specs.declared.frame.TellFields.{TellFields}
use Rattle.tap_rule.specs.RuleLaws.{frame_to}
use Rattle.tap_rule.specs.Node.{IsRunning, NodeState, Status, level_of, link_to, name_of, settings_of}
use Rattle.tap_rule.specs.Node.Status.{Ceased as CeasedStatus, Core, Gone, Joining, Leaving}
use Rattle.tap_safety.specs.Departing.{may_be_then}
use Rattle.tap_safety.specs.DoneStep.{BeforeDone, IsSound}
use Rattle.tap_safety.specs.Frames.{HelloFields, hello_body, tell_body}
use Rattle.tap_safety.specs.Invariant.{Basis}
use Rattle.tap_safety.specs.Filled.{AreFilled}
use Rattle.tap_safety.specs.SeekStep.{BeforeSeat, BeforeSeek, IsGreeted, JoinerIsGreeted}
use Rattle.tap_safety.specs.Sessions.{AreExact}
use Rattle.tap_safety.specs.Remembered.{Leaver}
use Rattle.tap_safety.specs.Seeking.{HasNode, IsSeeker}
use Rattle.tap_safety.specs.Soft.{IsSoft, NamesSoft}
use Rattle.tap_safety.specs.System.{System, CoversAt, HasLink, IsCoreNode, IsJoiner, IsTold, IsUnderWay}
use Rattle.tap_safety.specs.Tells.{IsSoundTell}
use Rattle.tap_safety.specs.TellStep.{BeforeTell, IsTellOf}
use Rattle.tap_safety.specs.Ties.{hears_words}
use Rattle.tap_safety.specs.Regions.{Pins}
use Rattle.tap_safety.proofs.CoverKept.{core_or_joiner}
use Rattle.tap_safety.proofs.SeekLaws.{low_law}
use Rattle.tap_safety.proofs.SessionLaws.{quiet_law}
use Rattle.tap_safety.proofs.Said.{Said, said_of}
use Rattle.tap_safety.proofs.Said.Said.{IsAck, IsDone, IsForget, IsHeard, IsHello, IsLink, IsRelease, IsSeek, IsTell}
use Rattle.tap_name.proofs.Prefixes.{lcp-whole}
use Rattle.tap_join.specs.Seek.{sought}
use Rattle.tap_join.specs.declared.sought.Sought.{Sought}
use Rattle.tap_join.specs.declared.sought.Sought.TheVariants.{Forward, Surrogate}
use Rattle.tap_moves.specs.Delivered.{IsArriving, after_delivery}
use Rattle.tap_moves.specs.SessionsLaws.{BeforeTaking}
use Rattle.tap_moves.specs.InvariantLaws.{FrameExact, FrameFills, FrameSays, FrameSoft, IsDelivery, LinkTies, SeekGives, IsFilledThere, IsSaidThere, IsSoftThere, IsTakenThere}
use Rattle.tap_moves.specs.FrameLaws.{IsPlain}
use Rattle.tap_moves.specs.StepsMade.{IsAnew}
use Rattle.tap_moves.specs.KnownNames.{AreNodes}
use Rattle.tap_moves.proofs.Got.{all_among}
use Rattle.tap_moves.proofs.MovesMade.{ack_keeps_sessions, by_rule, ceased_tell_keeps, done_keeps, forget_keeps, heard_keeps_sessions, hello_keeps, hello_keeps_sessions, joining_tell_keeps, known_tell_keeps, link_keeps, outside_keeps_sessions, plain_keeps, release_keeps, seek_keeps, seek_keeps_sessions, tell_keeps, tell_keeps_sessions}
use Rattle.tap_moves.specs.TiesLaws.{WordsStand}
use Rattle.tap_moves.proofs.SoftMade.{ack_soft, ceased_soft, forget_soft, heard_soft, hello_soft, joining_soft, link_soft, quiet_soft, release_soft, seek_soft}
use Rattle.tap_moves.proofs.WordsMade.{answer_words_kept, hello_words_kept, known_words_kept, quiet_words_kept, seek_words_kept, tell_words_kept}
use Rattle.tap_multicast.proofs.KeptLevels.{kept_exactly}
use Rattle.tap_rule.proofs.AnswerSteps.{ack_law, heard_law}
use Rattle.tap_moves.proofs.SeekMade.{seek_greets}

-- ---- names

-- a node's name is a name
pub name_at : (p : SettingsValue) (s : System) → AreNodes p s → (x : List ℕ) (node : NodeState) → s.node x ≡ Some node → IsName p x
name_at p s are x node at =
    let is = are.nodes x node at in
    subst (λ q. IsName q x) is.settings (subst (IsName (settings_of node)) is.name is.is_node.ties.table.owner)

pub core_name : (p : SettingsValue) (s : System) → AreNodes p s → (x : List ℕ) → IsCoreNode s x → IsName p x
core_name p s are x core = name_at p s are x core.state core.is

pub joiner_name : (p : SettingsValue) (s : System) → AreNodes p s → (x : List ℕ) → IsJoiner s x → IsName p x
joiner_name p s are x joiner = name_at p s are x joiner.state joiner.is

pub known_name : (p : SettingsValue) (s : System) → AreNodes p s → (x : List ℕ) → HasNode s x → IsName p x
known_name p s are x known = name_at p s are x known.state known.is

pub soft_name : (p : SettingsValue) (s : System) → AreNodes p s → (x : List ℕ) → IsSoft s x → IsName p x
soft_name p s are x (inl joiner) = joiner_name p s are x joiner
soft_name p s are x (inr (inl core)) = core_name p s are x core
soft_name p s are x (inr (inr ceased)) = name_at p s are x ceased.state ceased.is

module _ (p : SettingsValue) (s : System) (number : ℕ) (node : NodeState) (from : List ℕ) (body : Body)
    (is : IsDelivery p s number node from body) where
  abbrev own : List ℕ
  own = name_of node

  pub due : IsArriving s number node from body
  due = record {
    numbers = is.invariant.numbered;
    among = is.among;
    at = is.at;
    is_node = (is.nodes.nodes own node is.at).is_node;
    known = is.known;
  }

  pub way : IsUnderWay s from own body
  way = record { number = number; among = is.among }

  -- a name by the settings is one by the node's
  pub of_node : (x : List ℕ) → IsName p x → IsName (settings_of node) x
  of_node x name = subst (λ q. IsName q x) (sym (is.nodes.nodes own node is.at).settings) name

  pub sender_name : IsName (settings_of node) from
  sender_name = of_node from (known_name p s is.nodes from (is.invariant.ends.known number (frame_to node from body) is.among).0)

  -- while such a frame is under way nobody departs, so no link is marked
  pub unmarked : (may_be_then body → ⊥) → (x t : List ℕ) → HasLink s x t LeavingKind → ⊥
  unmarked never x t link = by_departing s.departing refl
    where
      by_departing : (departing : Option Leaver) → s.departing ≡ departing → ⊥
      by_departing None none = is.invariant.departure.marked x t none link
      by_departing (Some leaver) departs = never ((is.invariant.departure.during leaver departs).frames from own body way)

-- two names that aren't one share less than all digits
less_than_all : (p : SettingsValue) (a b : List ℕ) → IsName p a → IsName p b → (a ≡ b → ⊥) → lcp a b < p.digits
less_than_all p a b one two apart =
    let one_len = one.len in
    let two_len = two.len in
    elim (cases_lt (lcp a b) p.digits) [
      | inl less ↦ less
      | inr all ↦ absurd (apart (lcp-whole a b (one_len ∙ sym two_len) (omega arith)))
    ]

-- the node of a joiner joins
pub joins_here : (s : System) (node : NodeState) → IsJoiner s (name_of node) → s.node (name_of node) ≡ Some node → node.status ≡ Joining
joins_here s node joiner at =
    let is = joiner.is in
    let same : joiner.state ≡ node = cc in
    sym (ap (λ (n : NodeState). n.status) same) ∙ joiner.joining

-- a Tell under way is sound
sound_tell : (p : SettingsValue) (s : System) (b x : List ℕ) (level : ℕ) → (told : IsTold s b x level)
    → IsSoundTell p s told.from x told.fields → IsSound p s b x level
sound_tell p s b x level told sound = record {
  from = told.from;
  core = sound.core;
  cover = sound.cover;
  covers = subst (λ joiner. CoversAt s told.from joiner sound.cover) told.joiner sound.covers;
  level_is = sym told.level_is ∙ sound.level;
  apart = sound.near;
}

-- what a Hello offers has a name
offered_name : (p : SettingsValue) (s : System) → AreNodes p s → (offered : Offered) → (offered.settled ≡ true → IsCoreNode s offered.name)
    → (offered.settled ≡ false → IsSoft s offered.name) → IsName p offered.name
offered_name p s are offered core soft =
    elim (cases_Bool offered.settled) [
      | inl settled ↦ core_name p s are offered.name (core settled)
      | inr joining ↦ soft_name p s are offered.name (soft joining)
    ]

-- a link to a joiner is a pin
pin_on : (p : SettingsValue) (s : System) (unmarked : (x t : List ℕ) → HasLink s x t LeavingKind → ⊥)
    (settled : (x t : List ℕ) → HasLink s x t Settled → IsCoreNode s t) (x b : List ℕ) → IsJoiner s b → (kind : Kind) → HasLink s x b kind
    → Pins s x b
pin_on p s unmarked settled x b joiner Pin link = link
pin_on p s unmarked settled x b joiner Settled link = absurd (core_or_joiner s b (settled x b link) joiner)
pin_on p s unmarked settled x b joiner LeavingKind link = absurd (unmarked x b link)

-- and so have all that are offered
pub hello_names_are : (p : SettingsValue) (s : System) (number : ℕ) (node : NodeState) (from : List ℕ) (hello : HelloFields)
    → IsDelivery p s number node from (hello_body hello) → All (λ (o : Offered). IsName (settings_of node) o.name) hello.links
hello_names_are p s number node from hello is =
    all_among (λ (o : Offered). IsName (settings_of node) o.name) hello.links (λ offered among.
    let sound = is.invariant.soft.hellos from (name_of node) hello (way p s number node from (hello_body hello) is) offered (inr among) in
    of_node p s number node from (hello_body hello) is offered.name (offered_name p s is.nodes offered sound.core sound.soft))

-- ---- tables without holes

module _ (p : SettingsValue) (s : System) (number : ℕ) (node : NodeState) (from : List ℕ) where
  abbrev after : System
  after = after_delivery p s number

  -- a Tell at a core node, which covers the joiner at some level already, or doesn't
  module _ (tell : TellFields) (watch : List Slot) (is : IsDelivery p s number node from (tell_body tell watch)) where
    pub told : IsSoundTell p s from (name_of node) tell
    told = is.invariant.tells.each from (name_of node) tell watch (way p s number node from (tell_body tell watch) is)

    pub told_name : IsName (settings_of node) tell.joiner
    told_name = of_node p s number node from (tell_body tell watch) is tell.joiner (joiner_name p s is.nodes tell.joiner told.joiner)

    pub of_tell : node.status ≡ Core → IsTellOf p s (name_of node) tell.joiner tell.prefix tell.level
    of_tell at =
        let here = name_at p s is.nodes (name_of node) node is.at in
        let joiner = joiner_name p s is.nodes tell.joiner told.joiner in
        record {
          core = record { state = node; is = is.at; core = inl at };
          joiner = told.joiner;
          apart = less_than_all p (name_of node) tell.joiner here joiner told.apart;
          inside = told.inside;
          prefix_is = told.prefix;
          above = is.invariant.deeper.level from (name_of node) tell watch (way p s number node from (tell_body tell watch) is);
          most = omega (arith, told.level, told.near);
        }

    module _ (filled : AreFilled p s) where
      before_tell : BeforeTell p s
      before_tell = record {
        names = core_name p s is.nodes;
        settled = record { settled = is.invariant.soft.settled };
        unmarked = unmarked p s number node from (tell_body tell watch) is (λ never. never);
        covered = filled.covered;
        hole_free = filled.hole_free;
        cover = filled.cover;
      }

      tell_anew : node.status ≡ Core → IsAnew node tell.joiner tell.level → AreFilled p after
      tell_anew at anew =
          tell_keeps p s number node from tell watch (due p s number node from (tell_body tell watch) is) at told_name anew before_tell
          (of_tell at) filled

      tell_known : node.status ≡ Core → (kept : ℕ) → level_of node tell.joiner ≡ Some kept → kept ≤ tell.level → AreFilled p after
      tell_known at kept level most =
          let core : IsCoreNode s (name_of node) = record { state = node; is = is.at; core = inl at } in
          let covers : CoversAt s (name_of node) tell.joiner kept = record { state = node; is = is.at; cover = level } in
          let pin = (filled.covered.each (name_of node) tell.joiner kept core told.joiner covers).pin in
          let found = pin.is in
          let here = is.at in
          let same : pin.state ≡ node = cc in
          known_tell_keeps p s number node from tell watch kept (due p s number node from (tell_body tell watch) is) at told_name
          (ap (λ n. link_to n tell.joiner) (sym same) ∙ pin.link) level most before_tell (of_tell at) filled

      tell_at_core : node.status ≡ Core → (level : Option ℕ) → level_of node tell.joiner ≡ level → AreFilled p after
      tell_at_core at None none =
          tell_anew at (λ kept some. let wrong : None ≡ Some kept = sym none ∙ some in absurd (cc))
      tell_at_core at (Some kept) some = elim (cases_lt tell.level kept) [
        | inl less ↦
            tell_anew at (λ other is_other.
            let same : Some kept ≡ Some other = sym some ∙ is_other in
            let level : kept ≡ other = cc in
            omega (arith, less, level))
        | inr most ↦ tell_known at kept some most
      ]

      tell_fills : (node.status ≡ Core) ⊎ ((node.status ≡ Joining) ⊎ (node.status ≡ CeasedStatus)) → AreFilled p after
      tell_fills (inl at) = tell_at_core at (level_of node tell.joiner) refl
      tell_fills (inr (inl at)) =
          joining_tell_keeps p s number node from tell watch (due p s number node from (tell_body tell watch) is) at told_name
          filled
      tell_fills (inr (inr at)) =
          ceased_tell_keeps p s number node from tell watch (due p s number node from (tell_body tell watch) is) at filled

  done_fills : IsDelivery p s number node from Done → AreFilled p s → node.abandoned ≡ false → AreFilled p after
  done_fills is filled goes_on =
      let inv = is.invariant in
      let here = way p s number node from Done is in
      let none = unmarked p s number node from Done is (λ never. never) in
      let joiner = inv.of_joiners.dones from (name_of node) here in
      let before : BeforeDone p s = record {
        core_names = core_name p s is.nodes;
        joiner_names = joiner_name p s is.nodes;
        pinned = λ x b joins has. pin_on p s none inv.soft.settled x b joins has.kind has.link;
        sound = λ b x level joins told. sound_tell p s b x level told (inv.tells.each told.from x told.fields told.watch told.way);
        covered = filled.covered;
        meet = filled.meet;
        cover = filled.cover;
        low = filled.low;
        hole_free = filled.hole_free;
      } in
      done_keeps p s number node from (due p s number node from Done is) (joins_here s node joiner is.at) goes_on before
      (quiet_law s from (name_of node) inv.exact inv.of_joiners inv.ends_once joiner here)

  hello_fills : (hello : HelloFields) → IsDelivery p s number node from (hello_body hello) → AreFilled p s → node.status ≡ Joining
      → AreFilled p after
  hello_fills hello is filled at =
      hello_keeps p s number node from hello (due p s number node from (hello_body hello) is) at
      (sender_name p s number node from (hello_body hello) is) (hello_names_are p s number node from hello is) is.invariant.soft
      filled

  -- a Seek at a core node goes on, or the node is the joiner's surrogate
  module _ (joiner : List ℕ) (is : IsDelivery p s number node from (Seek joiner)) (at : node.status ≡ Core) where
    seat_before : BeforeSeat p s (name_of node) joiner
    seat_before =
        let seeker = is.invariant.seekers.seeks from (name_of node) joiner (way p s number node from (Seek joiner) is) in
        record {
          names = core_name p s is.nodes;
          settled = record { settled = is.invariant.soft.settled };
          unmarked = unmarked p s number node from (Seek joiner) is (λ never. never);
          core = record { state = node; is = is.at; core = inl at };
          seeker = seeker;
          unknown = is.invariant.seeking.unknown joiner seeker;
          idle = λ d level covers. is.invariant.seeking.idle joiner d level seeker covers;
        }

    seek_fills : AreFilled p s → (found : Sought) → sought node.ties.table joiner ≡ found → AreFilled p after
    seek_fills filled (Forward next) found =
        plain_keeps p s number node from (Seek joiner) (due p s number node from (Seek joiner) is) (next, found) filled
    seek_fills filled (Surrogate prefix) found =
        let settings = (is.nodes.nodes (name_of node) node is.at).settings in
        let seeker = seat_before.seeker in
        let name = of_node p s number node from (Seek joiner) is joiner (name_at p s is.nodes joiner seeker.state seeker.is) in
        subst (λ q. AreFilled q (after_delivery q s number)) settings
        (seek_keeps s number node from joiner prefix (due p s number node from (Seek joiner) is) at name found
        (subst (λ q. BeforeSeat q s (name_of node) joiner) (sym settings) seat_before)
        (subst (λ q. AreFilled q s) (sym settings) filled))

  plain_fills : (body : Body) → IsDelivery p s number node from body → AreFilled p s → IsPlain node body → AreFilled p after
  plain_fills body is filled plain =
      plain_keeps p s number node from body (due p s number node from body is) plain filled

pub frame_fills : FrameFills
frame_fills p s number node from body is filled there = by_said body (said_of body) is filled there
  where
    by_said : (body : Body) → Said body → IsDelivery p s number node from body → AreFilled p s → IsFilledThere node body
        → AreFilled p (after_delivery p s number)
    by_said _ (IsTell tell watch) is filled there = tell_fills p s number node from tell watch is filled there
    by_said _ (IsHello hello) is filled there = hello_fills p s number node from hello is filled there
    by_said _ (IsSeek joiner) is filled there = seek_fills p s number node from joiner is there filled (sought node.ties.table joiner) refl
    by_said _ IsDone is filled there = done_fills p s number node from is filled there
    by_said _ IsRelease is filled there =
        release_keeps p s number node from (due p s number node from Release is) there (sender_name p s number node from Release is)
        is.invariant.soft filled
    by_said _ IsForget is filled there =
        forget_keeps p s number node from (due p s number node from Forget is) there (sender_name p s number node from Forget is)
        is.invariant.ceased filled
    by_said body _ is filled there = plain_fills p s number node from body is filled there

-- ---- Link

-- who hears words hasn't ended
hears_runs : (status : Status) → hears_words (Some status) → IsRunning status
hears_runs Joining heard = tt
hears_runs Core heard = tt
hears_runs Leaving heard = tt
hears_runs Gone heard = absurd heard
hears_runs CeasedStatus heard = absurd heard

pub link_ties : LinkTies
link_ties p s number node from word is heard =
    let laid = (is.nodes.nodes (name_of node) node is.at).laid (hears_runs node.status heard) in
    link_keeps p s number node from word (due p s number node from (Link word.version word.on) is) is.invariant.stamped heard laid
    is.invariant.ties is.invariant.versions

-- the words of links stand while frames are delivered that leave them, or say so
stand_of : (p : SettingsValue) (s : System) → Basis p s → WordsStand s
stand_of p s inv = record { ties = inv.ties; versions = inv.versions; ceased = inv.ceased }

tell_says : (p : SettingsValue) (s : System) (number : ℕ) (node : NodeState) (from : List ℕ) (tell : TellFields) (watch : List Slot)
    → IsDelivery p s number node from (tell_body tell watch)
    → (node.status ≡ Joining) ⊎ ((node.status ≡ Core) × ((kept : ℕ) × (level_of node tell.joiner ≡ Some kept) × (kept ≤ tell.level)))
    → WordsStand (after_delivery p s number)
tell_says p s number node from tell watch is (inl at) =
    tell_words_kept p s number node from tell watch (due p s number node from (tell_body tell watch) is) at
    (told_name p s number node from tell watch is) is.invariant.stamped (stand_of p s is.invariant)
tell_says p s number node from tell watch is (inr known) =
    known_words_kept p s number node from tell watch (due p s number node from (tell_body tell watch) is) known.0
    (told_name p s number node from tell watch is) ((kept_exactly (level_of node tell.joiner) tell.level).1 known.1)
    is.invariant.stamped (stand_of p s is.invariant)

pub frame_says : FrameSays
frame_says p s number node from body is there = by_said body (said_of body) is there
  where
    by_said : (body : Body) → Said body → IsDelivery p s number node from body → IsSaidThere node body
        → WordsStand (after_delivery p s number)
    by_said _ (IsTell tell watch) is there = tell_says p s number node from tell watch is there
    by_said _ (IsHello hello) is there =
        hello_words_kept p s number node from hello (due p s number node from (hello_body hello) is) there
        (sender_name p s number node from (hello_body hello) is) (hello_names_are p s number node from hello is) is.invariant.stamped
        (stand_of p s is.invariant)
    by_said _ (IsHeard session) is there =
        answer_words_kept p s number node from Heard session tt heard_law (due p s number node from (Heard session) is) there
        is.invariant.stamped (stand_of p s is.invariant)
    by_said _ (IsAck session) is there =
        answer_words_kept p s number node from Ack session tt ack_law (due p s number node from (Ack session) is) there
        is.invariant.stamped (stand_of p s is.invariant)
    by_said _ (IsSeek joiner) is there =
        seek_words_kept p s number node from joiner there.1.0 (due p s number node from (Seek joiner) is) there.0 there.1.1
        is.invariant.stamped (stand_of p s is.invariant)
    by_said body _ is there =
        quiet_words_kept p s number node from body there.0 (due p s number node from body is) there.1 is.invariant.stamped
        (stand_of p s is.invariant)

-- ---- soft names

-- a soft node that joins was started
joiner_here : (s : System) (node : NodeState) → IsSoft s (name_of node) → s.node (name_of node) ≡ Some node → node.status ≡ Joining
    → IsJoiner s (name_of node)
joiner_here s node (inl joiner) at joins = joiner
joiner_here s node (inr (inl core)) at joins =
    let is = core.is in
    let same : core.state ≡ node = cc in
    elim core.core [
      | inl there ↦ let wrong : Joining ≡ Core = sym joins ∙ ap (λ (n : NodeState). n.status) (sym same) ∙ there in absurd (cc)
      | inr there ↦ let wrong : Joining ≡ Leaving = sym joins ∙ ap (λ (n : NodeState). n.status) (sym same) ∙ there in absurd (cc)
    ]
joiner_here s node (inr (inr ceased)) at joins =
    let is = ceased.is in
    let same : ceased.state ≡ node = cc in
    let wrong : Joining ≡ CeasedStatus = sym joins ∙ ap (λ (n : NodeState). n.status) (sym same) ∙ ceased.ceased in
    absurd (cc)

tell_soft : (p : SettingsValue) (s : System) (number : ℕ) (node : NodeState) (from : List ℕ) (tell : TellFields) (watch : List Slot)
    → IsDelivery p s number node from (tell_body tell watch) → (node.status ≡ Joining) ⊎ (node.status ≡ CeasedStatus)
    → NamesSoft (after_delivery p s number)
tell_soft p s number node from tell watch is (inl at) =
    let sound = told p s number node from tell watch is in
    joining_soft p s number node from tell watch (due p s number node from (tell_body tell watch) is) at
    (told_name p s number node from tell watch is) sound.joiner (joiner_here s node sound.soft is.at at) sound.apart is.invariant.soft
tell_soft p s number node from tell watch is (inr at) =
    ceased_soft p s number node from tell watch (due p s number node from (tell_body tell watch) is) at is.invariant.soft

pub frame_soft : FrameSoft
frame_soft p s number node from body is there = by_said body (said_of body) is there
  where
    by_said : (body : Body) → Said body → IsDelivery p s number node from body → IsSoftThere node body
        → NamesSoft (after_delivery p s number)
    by_said _ (IsTell tell watch) is there = tell_soft p s number node from tell watch is there
    by_said _ (IsHello hello) is there =
        hello_soft p s number node from hello (due p s number node from (hello_body hello) is) there
        (sender_name p s number node from (hello_body hello) is) (hello_names_are p s number node from hello is) is.invariant.soft
    by_said _ (IsSeek joiner) is there =
        seek_soft p s number node from joiner there.0 (due p s number node from (Seek joiner) is) there.1 is.invariant.soft
    by_said _ IsRelease is there =
        release_soft p s number node from (due p s number node from Release is) there (sender_name p s number node from Release is)
        is.invariant.soft
    by_said _ IsForget is there =
        forget_soft p s number node from (due p s number node from Forget is) there (sender_name p s number node from Forget is)
        is.invariant.soft
    by_said _ (IsHeard session) is there =
        heard_soft p s number node from session (due p s number node from (Heard session) is) is.invariant.soft
    by_said _ (IsAck session) is there = ack_soft p s number node from session (due p s number node from (Ack session) is) is.invariant.soft
    by_said _ (IsLink version on) is there =
        link_soft p s number node from version on (due p s number node from (Link version on) is) is.invariant.soft
    by_said body _ is there = quiet_soft p s number node from body there there (due p s number node from body is) is.invariant.soft

-- ---- Seek, and sessions

-- who seeks isn't core
pub seeker_not_core : (s : System) (b : List ℕ) → IsSeeker s b → IsCoreNode s b → ⊥
seeker_not_core s b seeker core =
    let one = seeker.is in
    let other = core.is in
    let same : seeker.state ≡ core.state = cc in
    let joining : core.state.status ≡ Joining = sym (ap (λ (n : NodeState). n.status) same) ∙ seeker.joining in
    elim core.core [
      | inl is ↦ let wrong : Joining ≡ Core = sym joining ∙ is in cc
      | inr is ↦ let wrong : Joining ≡ Leaving = sym joining ∙ is in cc
    ]

pub seek_gives : SeekGives
seek_gives p s number node from joiner prefix is filled at found e core near =
    let s' = after_delivery p s number in
    let inv = is.invariant in
    let seeker = inv.seekers.seeks from (name_of node) joiner (way p s number node from (Seek joiner) is) in
    let name = of_node p s number node from (Seek joiner) is joiner (name_at p s is.nodes joiner seeker.state seeker.is) in
    let taken = by_rule p s number node from (Seek joiner) (due p s number node from (Seek joiner) is) in
    let greeted : IsGreeted p s s' (name_of node) joiner =
    subst (λ q. IsGreeted q s s' (name_of node) joiner) (is.nodes.nodes (name_of node) node is.at).settings
    (seek_greets s s' number node from joiner prefix taken at name found) in
    let before : BeforeSeek p s = record {
      names = core_name p s is.nodes;
      settled = record { settled = inv.soft.settled };
      unmarked = unmarked p s number node from (Seek joiner) is (λ never. never);
      hole_free = filled.hole_free;
    } in
    let step : JoinerIsGreeted p s s' (name_of node) joiner = record {
      before = before;
      core = record { state = node; is = is.at; core = inl at };
      joins = λ c. seeker_not_core s joiner seeker c;
      greets = greeted;
    } in
    low_law p s s' (name_of node) joiner step e core near

pub before_taking : (p : SettingsValue) (s : System) → Basis p s → BeforeTaking s
before_taking p s inv =
    record { exact = inv.exact; joiners = inv.of_joiners; deeper = inv.deeper; places = inv.places; numbers = inv.numbered }

seek_exact : (p : SettingsValue) (s : System) (number : ℕ) (node : NodeState) (from joiner : List ℕ)
    → IsDelivery p s number node from (Seek joiner) → node.status ≡ Core → (found : Sought) → sought node.ties.table joiner ≡ found
    → AreExact (after_delivery p s number)
seek_exact p s number node from joiner is at (Forward next) found =
    outside_keeps_sessions p s number node from (Seek joiner) (due p s number node from (Seek joiner) is) (next, found)
    (before_taking p s is.invariant)
seek_exact p s number node from joiner is at (Surrogate prefix) found =
    seek_keeps_sessions p s number node from joiner prefix (due p s number node from (Seek joiner) is) at found
    (is.invariant.seekers.seeks from (name_of node) joiner (way p s number node from (Seek joiner) is)) (before_taking p s is.invariant)

pub frame_exact : FrameExact
frame_exact p s number node from body is there = by_said body (said_of body) is there
  where
    by_said : (body : Body) → Said body → IsDelivery p s number node from body → IsTakenThere node body
        → AreExact (after_delivery p s number)
    by_said _ (IsTell tell watch) is there =
        tell_keeps_sessions p s number node from tell watch (due p s number node from (tell_body tell watch) is) there
        (before_taking p s is.invariant)
    by_said _ (IsHello hello) is there =
        hello_keeps_sessions p s number node from hello (due p s number node from (hello_body hello) is) there (before_taking p s is.invariant)
    by_said _ (IsHeard session) is there =
        heard_keeps_sessions p s number node from session (due p s number node from (Heard session) is) (before_taking p s is.invariant)
        is.invariant.counted
    by_said _ (IsAck session) is there =
        ack_keeps_sessions p s number node from session (due p s number node from (Ack session) is) (before_taking p s is.invariant)
        is.invariant.counted
    by_said _ (IsSeek joiner) is there = seek_exact p s number node from joiner is there (sought node.ties.table joiner) refl
    by_said body _ is there =
        outside_keeps_sessions p s number node from body (due p s number node from body is) there (before_taking p s is.invariant)
