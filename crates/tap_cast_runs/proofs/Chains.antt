-- Each move keeps that chains of Tells lead from the joiner's surrogate to the node that covers the joiner.
use Rattle.std.proofs.Common.{◌≡◌, ◌⊎◌, ℕ, Bool, true, false, List, [], ◌∷◌, Option, None, Some, ap, refl, sym, subst, ◌∙◌, inl, inr}
use Rattle.std.specs.Option.{is_none}
use Rattle.std.specs.List.{last_or}
use Rattle.tap_name.specs.Prefix.{lcp}
use Rattle.tap_name.specs.Settings.{SettingsValue}
use Rattle.tap_name.specs.declared.slot.Slot.{Slot}
use Rattle.tap_session.specs.Session.{Session}
use Rattle.tap_session.specs.Sessions.{next_session}
use Rattle.tap_session.specs.declared.parent.Parent.TheVariants.{Node, Root}
use Rattle.tap_join.proofs.Seeking.{surrogate_is}
use Rattle.tap_join.specs.Seek.{sought}
use Rattle.tap_join.specs.declared.sought.Sought.{Sought}
use Rattle.tap_join.specs.declared.sought.Sought.TheVariants.{Forward, Surrogate}
use Rattle.tap_wire.specs.declared.frame.Body.{Body}
use Rattle.tap_wire.specs.declared.frame.Body.TheVariants.{Seek}
use Rattle.tap_wire.specs.declared.frame.Frame.{Frame}
use Rattle.tap_wire.specs.declared.frame.TellFields.{TellFields}
use Rattle.tap_rule.specs.Act.{act}
use Rattle.tap_rule.specs.Covering.{Request, first_request, pins_and_covers, request_of}
use Rattle.tap_rule.specs.Event.{Start}
use Rattle.tap_rule.specs.Event.Event.{Takes}
use Rattle.tap_rule.specs.RuleLaws.{IsCarriedOut, frame_to}
use Rattle.tap_rule.specs.Node.{NodeState, level_of, name_of}
use Rattle.tap_rule.specs.Node.Status.{Core}
use Rattle.tap_rule.specs.Sent.{IsAmong}
use Rattle.tap_rule.proofs.CoverSteps.{seek_fits}
use Rattle.tap_safety.specs.Frames.{tell_body}
use Rattle.tap_safety.specs.Move.Move.{Begins, Delivers}
use Rattle.tap_safety.specs.Moved.{moved, numbered_frame, starter, taking}
use Rattle.tap_safety.specs.Exchanges.{IsSent, with_at}
use Rattle.tap_safety.specs.System.{AmongFrames, IsUnderWay, System}
use Rattle.tap_safety.specs.Turned.{opened_by, surrogates_with}
use Rattle.tap_safety.proofs.Moved.{starts, with_at-here, with_at-others}
use Rattle.tap_safety.proofs.UnderWay.{was_under_way}
use Rattle.tap_safety.proofs.Said.{Said, said_of}
use Rattle.tap_safety.proofs.Said.Said.{IsSeek, IsTell}
use Rattle.tap_moves.specs.ByRule.{taken_at}
use Rattle.tap_moves.specs.Delivered.{after_delivery, after_start}
use Rattle.tap_moves.specs.InvariantLaws.{IsDelivery}
use Rattle.tap_moves.proofs.InSession.{seek_opens, tell_in_session}
use Rattle.tap_moves.proofs.InvariantMoves.{due, name_at, of_node, way}
use Rattle.tap_moves.proofs.MovesMade.{by_rule, is_found, starts_none, starts_none_as, tell_starts_none}
use Rattle.tap_moves.proofs.SessionsMade.{opened_found}
use Rattle.tap_safety_moves.specs.Sound.{Sound}
use Rattle.tap_safety_moves.proofs.Delivered.{is_delivery}
use Rattle.tap_cast_runs.specs.SlotAnswers.{FirstCover, WatchMemory, none_answered}
use Rattle.tap_cast_runs.specs.Chains.{ChainLeadsTo, ChainsAre, ChainsLead, MoveKeepsChains}
use Rattle.tap_cast_runs.specs.Recalled.{asked, asked_at_core, asked_by_seek, chain_to, recalled_asked, recalled_cover, recalled_first, watch_recalled}
use Rattle.tap_cast_runs.proofs.Aside.{OpensNoRoot, frame_aside}
use Rattle.tap_cast_runs.proofs.Asks.{begins_aside, core_asks, core_only, delivery_recalls, nothing_begins}
use Rattle.tap_cast_runs.proofs.AnswersGrow.{new_chain, old_chain}
use Rattle.tap_cast_runs.proofs.Spread.{covers_tell}

-- ---- surrogates stay

-- who has a surrogate keeps it
abbrev SurrogatesStay : System → System → Type 0
SurrogatesStay s s' = (b x : List ℕ) → s.surrogate b ≡ Some x → s'.surrogate b ≡ Some x

led_on : (s s' : System) (chain : List (List ℕ)) (x b : List ℕ) (prefix : ℕ) → SurrogatesStay s s' → ChainLeadsTo s chain x b prefix
    → ChainLeadsTo s' chain x b prefix
led_on s s' chain x b prefix stay led = record {
  above = led.above;
  first = led.first;
  surrogate = led.surrogate;
  seated = stay b led.surrogate led.seated;
  last = led.last;
  shares = led.shares;
}

-- ---- what holds of chains, whatever it is

-- something is said of a chain, the node that it leads to, the joiner and its prefix
abbrev pub OfChain : Type 1
OfChain = List (List ℕ) → List ℕ → List ℕ → ℕ → Type 0

-- what is said of a chain before is said of it after
abbrev pub StaysSo : OfChain → OfChain → Type 0
StaysSo L L' = (chain : List (List ℕ)) (x b : List ℕ) (prefix : ℕ) → L chain x b prefix → L' chain x b prefix

module _ (L L' : OfChain) (stay : StaysSo L L') where
  -- a move with which no Tell comes
  pub chains_stay : (s s' : System) (r : WatchMemory) → ((from to : List ℕ) (tell : TellFields) (watch : List Slot)
      → IsUnderWay s' from to (tell_body tell watch) → IsUnderWay s from to (tell_body tell watch)) → ChainsAre L s r → ChainsAre L' s' r
  chains_stay s s' r was chains = record {
    tells = λ from to tell watch way.
        stay (r.chain from tell.session) from tell.joiner tell.prefix (chains.tells from to tell watch (was from to tell watch way));
    covers = λ cover among. stay cover.chain cover.table.owner cover.joiner cover.prefix (chains.covers cover among);
  }

  -- a start
  pub start_chains : (p : SettingsValue) (s : System) (x : List ℕ) (start : Start) (r : WatchMemory) → ChainsAre L s r
      → ChainsAre L' (after_start p s x start) r
  start_chains p s x start r chains = by (starter p s x start) refl
    where
      by : (found : Option NodeState) → starter p s x start ≡ found → ChainsAre L' (after_start p s x start) r
      by None none =
          subst (λ t. ChainsAre L' t r) (sym (nothing_begins p s x start none))
          (chains_stay s s r (λ from to tell watch way. way) chains)
      by (Some node) is = chains_stay s (after_start p s x start) r (begins_aside p s x start node is).tells chains

module _ (p : SettingsValue) (s : System) (r : WatchMemory) (number : ℕ) (node : NodeState) (from : List ℕ) (body : Body)
    (is : IsDelivery p s number node from body) where
  abbrev after : System
  after = after_delivery p s number

  tell_was : (w t : List ℕ) (tell : TellFields) (watch : List Slot) → IsUnderWay after w t (tell_body tell watch)
      → IsUnderWay s w t (tell_body tell watch) ⊎ IsSent (taken_at node from body).sent w t (tell_body tell watch)
  tell_was w t tell watch way =
      was_under_way s after number (frame_to node from body) (taken_at node from body).sent
      (by_rule p s number node from body (due p s number node from body is)).taken w t (tell_body tell watch) way

  module _ (L L' : OfChain) (stay : StaysSo L L') (chains : ChainsAre L s r) where
    -- nobody is asked to cover a joiner
    pub none_chains : asked node from body ≡ None → ChainsAre L' after r
    none_chains none =
        chains_stay L L' stay s after r
        (λ w t tell watch way. elim (tell_was w t tell watch way) [
          | inl old ↦ old
          | inr new ↦ absurd ((frame_aside node from body is.known none).no_tell w t tell watch new)
        ]) chains

    -- the node is, and what holds of chains holds of that to it
    module _ (request : Request) (carried : IsCarriedOut node (pins_and_covers node request) (taken_at node from body))
        (here : L' (chain_to r node request) (name_of node) request.joiner request.prefix) where
      abbrev now : WatchMemory
      now = recalled_cover r node request

      tells_then : (w t : List ℕ) (tell : TellFields) (watch : List Slot) → IsUnderWay after w t (tell_body tell watch)
          → L' (now.chain w tell.session) w tell.joiner tell.prefix
      tells_then w t tell watch way =
          elim (tell_was w t tell watch way) [
            | inl old ↦
                subst (λ chain. L' chain w tell.joiner tell.prefix)
                (sym (old_chain p s r number node from body is request w t tell watch old))
                (stay (r.chain w tell.session) w tell.joiner tell.prefix (chains.tells w t tell watch old))
            | inr new ↦
                let told = covers_tell node request (taken_at node from body) carried w t tell watch new in
                let place : now.chain w tell.session ≡ chain_to r node request =
                rw (told.from_is, told.session_is) (new_chain p s r number node from body is request) in
                rw (told.joiner, told.prefix, place, told.from_is) here
          ]

      covers_then : (cover : FirstCover) → IsAmong cover now.covers → L' cover.chain cover.table.owner cover.joiner cover.prefix
      covers_then cover among = by (is_none (level_of node request.joiner)) among
        where
          old : IsAmong cover r.covers → L' cover.chain cover.table.owner cover.joiner cover.prefix
          old before = stay cover.chain cover.table.owner cover.joiner cover.prefix (chains.covers cover before)

          by : (first : Bool) → IsAmong cover (recalled_first r node request first).covers
              → L' cover.chain cover.table.owner cover.joiner cover.prefix
          by false before = old before
          by true (inr before) = old before
          by true (inl new) = subst (λ (c : FirstCover). L' c.chain c.table.owner c.joiner c.prefix) (sym new) here

      pub cover_chains : ChainsAre L' after now
      cover_chains = record { tells = tells_then; covers = covers_then }

-- ---- a Seek at the joiner's surrogate

-- what is remembered of surrogates once a frame is delivered
surrogates_then : (p : SettingsValue) (s : System) (number : ℕ) (frame : Frame) (node : NodeState)
    → numbered_frame number s.frames ≡ Some frame → s.node frame.to ≡ Some node → (b : List ℕ) → (moved p s (Delivers number)).surrogate b
    ≡ surrogates_with s.surrogate frame.to (opened_by (taking s number frame node (act node (Takes frame)))) b
unfolding moved
surrogates_then p s number frame node is at b = rw (is, at) refl

module _ (p : SettingsValue) (s : System) (number : ℕ) (node : NodeState) (from joiner : List ℕ)
    (is : IsDelivery p s number node from (Seek joiner)) (at : node.status ≡ Core) (prefix : ℕ)
    (found : sought node.ties.table joiner ≡ Surrogate prefix) where
  abbrev seated_system : System
  seated_system = after_delivery p s number

  -- the node is its surrogate then, and no other surrogate changes
  surrogates_are : (b : List ℕ) → seated_system.surrogate b ≡ with_at s.surrogate joiner (Some (name_of node)) b
  surrogates_are b =
      let here = due p s number node from (Seek joiner) is in
      let opens = seek_opens node from joiner prefix at is.known found in
      surrogates_then p s number (frame_to node from (Seek joiner)) node (is_found p s number node from (Seek joiner) here) here.at b
      ∙ ap (λ (o : Option Session). surrogates_with s.surrogate (name_of node) o b)
      (opened_found node.sessions (taken_at node from (Seek joiner)).state.sessions (Root joiner) 0 opens.waiting here.is_node.sessions
      opens.sessions)

  seek_seats : seated_system.surrogate joiner ≡ Some (name_of node)
  seek_seats = surrogates_are joiner ∙ with_at-here s.surrogate joiner (Some (name_of node))

  seek_shares : prefix ≡ lcp (name_of node) joiner
  seek_shares =
      let ties = (due p s number node from (Seek joiner) is).is_node.ties in
      let seeker = is.invariant.seekers.seeks from (name_of node) joiner (way p s number node from (Seek joiner) is) in
      let name = of_node p s number node from (Seek joiner) is joiner (name_at p s is.nodes joiner seeker.state seeker.is) in
      (surrogate_is node.ties.table ties.table joiner name (seek_fits node from joiner prefix is.known found).apart prefix found).0

  -- the joiner had none
  seek_stays : SurrogatesStay s seated_system
  seek_stays b x seated =
      elim (with_at-others s.surrogate joiner (Some (name_of node)) b) [
        | inl same ↦
            let seeker = is.invariant.seekers.seeks from (name_of node) joiner (way p s number node from (Seek joiner) is) in
            let wrong : ◌≡◌ {A = Option (List ℕ)} None (Some x) = sym seeker.waits ∙ ap s.surrogate (sym same) ∙ seated in absurd (cc)
        | inr other ↦ surrogates_are b ∙ other ∙ seated
      ]

-- ---- a frame that asks for a cover

-- the chain to a node that is asked so, in the system after
record IsLed (p : SettingsValue) (s : System) (r : WatchMemory) (number : ℕ) (node : NodeState) (request : Request) : Type 0 where
  stays : SurrogatesStay s (after_delivery p s number)
  leads : ChainLeadsTo (after_delivery p s number) (chain_to r node request) (name_of node) request.joiner request.prefix

-- a chain is longer by one node
led_longer : (s : System) (chain : List (List ℕ)) (x y b : List ℕ) (prefix : ℕ) → ChainLeadsTo s chain x b prefix
    → ChainLeadsTo s (y ∷ chain) y b prefix
led_longer s chain x y b prefix led = record {
  above = chain;
  first = refl;
  surrogate = led.surrogate;
  seated = led.seated;
  last = ap (λ l. last_or None (y ∷ l)) led.first ∙ ap (last_or None) (sym led.first) ∙ led.last;
  shares = led.shares;
}

module _ (p : SettingsValue) (s : System) (r : WatchMemory) (number : ℕ) (node : NodeState) (from : List ℕ) (chains : ChainsLead s r)
    (at : node.status ≡ Core) where
  seek_led : (joiner : List ℕ) (found : Sought) (request : Request) → IsDelivery p s number node from (Seek joiner)
      → sought node.ties.table joiner ≡ found → asked_by_seek node joiner found ≡ Some request → IsLed p s r number node request
  seek_led joiner (Forward next) request is found asks = absurd (cc)
  seek_led joiner (Surrogate prefix) request is found asks =
      let same : first_request node joiner prefix ≡ request = cc in
      subst (IsLed p s r number node) same (record {
        stays = seek_stays p s number node from joiner is at prefix found;
        leads = record {
          above = [];
          first = refl;
          surrogate = name_of node;
          seated = seek_seats p s number node from joiner is at prefix found;
          last = refl;
          shares = seek_shares p s number node from joiner is at prefix found;
        };
      })

  body_led : {body : Body} → Said body → (request : Request) → IsDelivery p s number node from body
      → asked_at_core node from body ≡ Some request → IsLed p s r number node request
  body_led (IsSeek joiner) request is asks = seek_led joiner (sought node.ties.table joiner) request is refl asks
  body_led (IsTell tell watch) request is asks =
      let same : request_of from tell watch ≡ request = cc in
      let s' = after_delivery p s number in
      let stays : SurrogatesStay s s' = λ b x seated.
      tell_starts_none p s number node from tell watch (due p s number node from (tell_body tell watch) is)
      (tell_in_session node from tell watch (inl at) is.known) b ∙ seated in
      let above = chains.tells from (name_of node) tell watch (record { number = number; among = is.among }) in
      subst (IsLed p s r number node) same (record {
        stays = stays;
        leads =
            led_longer s' (r.chain from tell.session) from (name_of node) tell.joiner tell.prefix
            (led_on s s' (r.chain from tell.session) from tell.joiner tell.prefix stays above);
      })
  body_led _ request is asks = absurd (cc)

module _ (p : SettingsValue) (s : System) (r : WatchMemory) (number : ℕ) (node : NodeState) (from : List ℕ) (body : Body)
    (is : IsDelivery p s number node from body) (chains : ChainsLead s r) where
  abbrev then : System
  then = after_delivery p s number

  -- no surrogate changes if no root session is opened
  none_seated : OpensNoRoot node (taken_at node from body).state → SurrogatesStay s then
  none_seated (inl same) b x seated = starts_none_as p s number node from body (due p s number node from body is) same b ∙ seated
  none_seated (inr below) b x seated =
      starts_none p s number node from body (due p s number node from body is)
      (Some (next_session node.sessions (Node below.name below.session) below.depth below.waiting))
      (opened_found node.sessions (taken_at node from body).state.sessions (Node below.name below.session) below.depth below.waiting
      (due p s number node from body is).is_node.sessions below.sessions) tt b ∙ seated

  delivery_leads : ChainsLead then (watch_recalled s r (Delivers number))
  delivery_leads =
      subst (ChainsLead then) (sym (delivery_recalls p s r number node from body is)) (by (asked node from body) refl)
    where
      by : (found : Option Request) → asked node from body ≡ found → ChainsLead then (recalled_asked r node found)
      by None none =
          let stay = none_seated (frame_aside node from body is.known none).opened in
          none_chains p s r number node from body is (ChainLeadsTo s) (ChainLeadsTo then)
          (λ chain x b prefix led. led_on s then chain x b prefix stay led) chains none
      by (Some request) asks =
          let core = core_only node.status node from body request asks in
          let led = body_led p s r number node from chains core.0 (said_of body) request is core.1 in
          cover_chains p s r number node from body is (ChainLeadsTo s) (ChainLeadsTo then)
          (λ chain x b prefix before. led_on s then chain x b prefix led.stays before) chains request
          (core_asks node from (said_of body) request core.0 is.known core.1) led.leads

-- ---- each move

frame_leads : (p : SettingsValue) (s : System) (r : WatchMemory) (number : ℕ) (frame : Frame) (node : NodeState) → Sound p s
    → ChainsLead s r → AmongFrames number frame s.frames → s.node frame.to ≡ Some node
    → ChainsLead (after_delivery p s number) (watch_recalled s r (Delivers number))
frame_leads p s r number frame node sound chains among at =
    delivery_leads p s r number node frame.from frame.body (is_delivery p s number frame node sound among at) chains

start_leads : (p : SettingsValue) (s : System) (r : WatchMemory) (x : List ℕ) (start : Start) → ChainsLead s r
    → ChainsLead (after_start p s x start) r
start_leads p s r x start chains = by (starter p s x start) refl
  where
    s' : System
    s' = after_start p s x start

    stays : (found : Option NodeState) → starter p s x start ≡ found → SurrogatesStay s s'
    stays None none b y seated = ap (λ (t : System). t.surrogate b) (nothing_begins p s x start none) ∙ seated
    stays (Some node) is b y seated = (starts p s x start node is).surrogate b ∙ seated

    by : (found : Option NodeState) → starter p s x start ≡ found → ChainsLead s' r
    by found is =
        start_chains (ChainLeadsTo s) (ChainLeadsTo s') (λ chain y b prefix led. led_on s s' chain y b prefix (stays found is) led) p s x start r chains

pub move_keeps_chains : MoveKeepsChains
unfolding watch_recalled
move_keeps_chains p s r (Begins x start) may sound chains = start_leads p s r x start chains
move_keeps_chains p s r (Delivers number) may sound chains =
    frame_leads p s r number may.frame may.receiver.state sound chains may.among may.receiver.is

-- without frames and covers there are no chains
pub no_chains : (s : System) → s.frames ≡ [] → ChainsLead s none_answered
no_chains s none = record {
  tells = λ from to tell watch way. absurd (subst (AmongFrames way.number (record { from = from; to = to; body = tell_body tell watch })) none way.among);
  covers = λ cover among. absurd among;
}
