-- What a first cover answers is held: its Hello names it.
use Rattle.std.proofs.Common.{◌≡◌, ◌⊎◌, ℕ, ◌<◌, Bool, true, false, List, [], ◌∷◌, ◌++◌, Contains, Option, None, Some, ap, refl, sym, subst, ◌∙◌, inl, inr}
use Rattle.std.specs.Prelude.{is_some}
use Rattle.std.specs.Option.{is_none}
use Rattle.std.proofs.lemmas.Bool.{cases_Bool}
use Rattle.std.proofs.lemmas.List.Elements.{All-contains}
use Rattle.tap_name.specs.Name.{IsName}
use Rattle.tap_name.specs.Settings.{SettingsValue}
use Rattle.tap_name.specs.Slot.{slot_at}
use Rattle.tap_name.specs.declared.slot.Slot.{Slot}
use Rattle.tap_link.specs.LinkSet.{least_settled}
use Rattle.tap_table.specs.Members.{is_slot}
use Rattle.tap_table.specs.Table.{IsTable, TableValue, kind_in, links_at}
use Rattle.tap_table.specs.Ties.{AreTies, TiesValue}
use Rattle.tap_join.specs.Seek.{sought}
use Rattle.tap_join.specs.declared.sought.Sought.{Sought}
use Rattle.tap_join.specs.declared.sought.Sought.TheVariants.{Forward, Surrogate}
use Rattle.tap_watch.proofs.Watches.{Contains-filter, Contains-full}
use Rattle.tap_multicast.specs.Covers.{cover_of, with_cover}
use Rattle.tap_multicast.specs.Offer.{answers, left, offer}
use Rattle.tap_multicast.proofs.Linked.{primary_stands}
use Rattle.tap_multicast.proofs.Offers.{primary_offered}
use Rattle.tap_wire.specs.declared.frame.Body.{Body}
use Rattle.tap_wire.specs.declared.frame.Body.TheVariants.{Done, Seek}
use Rattle.tap_rule.specs.Covering.{Request, first_request, request_of}
use Rattle.tap_rule.specs.Event.{Acted}
use Rattle.tap_rule.specs.JoinSteps.{CoverStep, SeekStep, SpreadStep}
use Rattle.tap_rule.specs.Node.{NodeState, level_of, name_of, settings_of}
use Rattle.tap_rule.specs.Node.Status.{Core, Joining}
use Rattle.tap_rule.specs.Sent.{IsAmong}
use Rattle.tap_rule.proofs.Among.{among-either}
use Rattle.tap_rule.proofs.CoverSteps.{seek_fits, seek_law, tell_law}
use Rattle.tap_rule.proofs.JoinSteps.{IsTellFit, done_law, tell_fits}
use Rattle.tap_safety.specs.Frames.{hello_body, tell_body}
use Rattle.tap_safety.specs.Seeking.{HasNode}
use Rattle.tap_safety.specs.Exchanges.{IsSent}
use Rattle.tap_safety.specs.System.{AmongFrames, AmongOffered, HelloNames, IsCoreNode, IsUnderWay, System}
use Rattle.tap_safety.proofs.UnderWay.{sent_under_way}
use Rattle.tap_moves.specs.ByRule.{taken_at}
use Rattle.tap_moves.specs.Delivered.{after_delivery, after_start}
use Rattle.tap_moves.specs.InvariantLaws.{IsDelivery}
use Rattle.tap_moves.proofs.CoverMade.{hello_made, settled_before, with_joiner, with_joiner_is}
use Rattle.tap_moves.proofs.Got.{offered_got, sent_among}
use Rattle.tap_moves.proofs.InvariantMoves.{due, joins_here, name_at, of_node, told, told_name, way}
use Rattle.tap_moves.proofs.MovesMade.{by_rule}
use Rattle.tap_rule.specs.RuleLaws.{frame_to}
use Rattle.tap_cast_runs.specs.SlotAnswers.{Answer, WatchMemory, answers_for, none_answered}
use Rattle.tap_cast_runs.specs.Watched.{watch_recalled_moves}
use Rattle.tap_safety_moves.specs.SoundMoves.{after_moves, may_run}
use Rattle.tap_safety_moves.specs.Sound.{Sound}
use Rattle.tap_safety_moves.proofs.Members.{sound_at_rest}
use Rattle.tap_safety_moves.proofs.SoundMoves.{move_keeps}
use Rattle.tap_safety_moves.proofs.Delivered.{is_delivery}
use Rattle.tap_safety.proofs.SessionLaws.{quiet_law}
use Rattle.tap_safety.specs.AtRest.{system_at_rest}
use Rattle.tap_safety.specs.Move.{Move, may_start}
use Rattle.tap_safety.specs.Move.Move.{Begins, Delivers}
use Rattle.tap_safety.specs.Moved.{moved, starter}
use Rattle.tap_safety.proofs.Said.{Said, said_of}
use Rattle.tap_safety.proofs.Said.Said.{IsSeek, IsTell}
use Rattle.tap_wire.specs.declared.frame.Frame.{Frame}
use Rattle.tap_rule.specs.Act.{act}
use Rattle.tap_rule.specs.Event.{Start}
use Rattle.tap_rule.specs.Event.Event.{Starts}
use Rattle.tap_rule.specs.Event.Start.{Abandon, Cast as StartCast, Find as StartFind, Join, Leave as StartLeave, Publish, Withdraw}
use Rattle.tap_table.specs.Levels.{is_kept}
use Rattle.tap_multicast.specs.Targets.{targets}
use Rattle.tap_multicast.specs.declared.target.Target.{Target}
use Rattle.tap_name.specs.declared.slot.Offered.{Offered}
use Rattle.tap_cast_runs.specs.Had.{AnswersAreHeld, AnswersAtRest, CoreHasAnswers, IsHeld, MoveKeepsAnswers, RunAnswersAreHeld, WasCore, was_core}
use Rattle.tap_cast_runs.specs.Recalled.{asked, asked_at_core, asked_by_seek, recalled_asked, recalled_cover, recalled_first, table_for, watch_recalled}
use Rattle.tap_cast_runs.proofs.HeldMoves.{delivery_step, join_held, start_step}
use Rattle.tap_cast_runs.proofs.HeldSteps.{IsHeldStep, answers_kept, still_core, still_known}
use Rattle.tap_cast_runs.proofs.Full.{full_stays}
use Rattle.tap_cast_runs.proofs.Asks.{core_only, delivery_recalls}
use Rattle.tap_cast_runs.proofs.Spread.{given, own_or_primary}

core_was : (s : System) (x : List ℕ) → IsCoreNode s x → WasCore s x
core_was s x core =
    record {
      state = core.state;
      is = core.is;
      core = elim core.core [ inl core ↦ subst was_core (sym core) tt | inr leaving ↦ subst was_core (sym leaving) tt ];
    }

-- ---- a first cover

-- what is known of a cover that is asked for
record IsAskedSo (p : SettingsValue) (s : System) (node : NodeState) (request : Request) (acted : Acted) : Type 0 where
  ties : AreTies node.ties
  is_name : IsName (settings_of node) request.joiner
  fits : IsTellFit node request.joiner
  core : node.status ≡ Core
  joiner : HasNode s request.joiner
  digits : (slot : Slot) → Contains request.watch slot → slot.digit < (settings_of node).base
  step : CoverStep node request acted

at_surrogate : (node : NodeState) (joiner : List ℕ) (prefix : ℕ) (acted : Acted) → sought node.ties.table joiner ≡ Surrogate prefix
    → SeekStep node joiner acted → CoverStep node (first_request node joiner prefix) acted
at_surrogate node joiner prefix acted is step = rw is at step

module _ (p : SettingsValue) (s : System) (number : ℕ) (node : NodeState) (from : List ℕ) where
  seek_asked : (joiner : List ℕ) (found : Sought) (request : Request) → IsDelivery p s number node from (Seek joiner) → node.status ≡ Core
      → sought node.ties.table joiner ≡ found → asked_by_seek node joiner found ≡ Some request
      → IsAskedSo p s node request (taken_at node from (Seek joiner))
  seek_asked joiner (Forward next) request is at found asks = absurd (cc)
  seek_asked joiner (Surrogate prefix) request is at found asks =
      let same : first_request node joiner prefix ≡ request = cc in
      let ties = (due p s number node from (Seek joiner) is).is_node.ties in
      let seeker = is.invariant.seekers.seeks from (name_of node) joiner (way p s number node from (Seek joiner) is) in
      let name = of_node p s number node from (Seek joiner) is joiner (name_at p s is.nodes joiner seeker.state seeker.is) in
      subst (λ q. IsAskedSo p s node q (taken_at node from (Seek joiner))) same (record {
        ties = ties;
        is_name = name;
        fits = seek_fits node from joiner prefix is.known found;
        core = at;
        joiner = record { state = seeker.state; is = seeker.is };
        digits = λ slot there. ((Contains-full (settings_of node) joiner prefix slot).0 there).digit;
        step =
            at_surrogate node joiner prefix (taken_at node from (Seek joiner)) found
            (seek_law node from joiner ties name at is.known);
      })

  body_asked : {body : Body} → Said body → (request : Request) → IsDelivery p s number node from body → node.status ≡ Core
      → asked_at_core node from body ≡ Some request → IsAskedSo p s node request (taken_at node from body)
  body_asked (IsSeek joiner) request is at asks = seek_asked joiner (sought node.ties.table joiner) request is at refl asks
  body_asked (IsTell tell watch) request is at asks =
      let same : request_of from tell watch ≡ request = cc in
      let ties = (due p s number node from (tell_body tell watch) is).is_node.ties in
      let name = told_name p s number node from tell watch is in
      let settings = (is.nodes.nodes (name_of node) node is.at).settings in
      let joins = (told p s number node from tell watch is).joiner in
      let spelled = (is.invariant.spelled.each number (frame_to node from (tell_body tell watch)) is.among).body in
      subst (λ q. IsAskedSo p s node q (taken_at node from (tell_body tell watch))) same (record {
        ties = ties;
        is_name = name;
        fits = tell_fits node from tell watch is.known;
        core = at;
        joiner = record { state = joins.state; is = joins.is };
        digits = λ slot there.
            subst (λ (q : SettingsValue). slot.digit < q.base) (sym settings)
            (All-contains (λ (one : Slot). one.digit < p.base) watch slot spelled.slots.digits there);
        step = tell_law node from tell watch ties name at is.known;
      })
  body_asked _ request is at asks = absurd (cc)

module _ (p : SettingsValue) (s : System) (r : WatchMemory) (number : ℕ) (node : NodeState) (from : List ℕ) (body : Body)
    (is : IsDelivery p s number node from body) (held : AnswersAreHeld p s r) (request : Request)
    (so : IsAskedSo p s node request (taken_at node from body)) where
  abbrev after : System
  after = after_delivery p s number

  abbrev own : List ℕ
  own = name_of node

  abbrev acted : Acted
  acted = taken_at node from body

  abbrev t : TableValue
  t = with_joiner node request.joiner so.ties so.is_name so.fits

  valid : IsTable t
  valid = with_joiner_is node request.joiner so.ties so.is_name so.fits

  abbrev cover_offer : List Offered
  cover_offer = offer t request.watch (cover_of t (level_of node request.joiner) request.joiner request.prefix request.level)

  abbrev cover_told : List Target
  cover_told = targets t (cover_of t (level_of node request.joiner) request.joiner request.prefix request.level)

  abbrev cover_left : List Slot
  cover_left = left t request.watch (cover_of t (level_of node request.joiner) request.joiner request.prefix request.level)

  spreads : is_kept (level_of node request.joiner) request.level ≡ false
      → (acted.state.covers ≡ with_cover node.covers request.joiner request.level)
      × SpreadStep node request (is_none (level_of node request.joiner)) cover_offer cover_told cover_left acted
  spreads anew = rw anew at so.step.covers

  -- the Hello is under way
  greeted : level_of node request.joiner ≡ None → IsSent acted.sent own request.joiner (hello_body (hello_made node request))
  greeted none =
      let anew : is_kept (level_of node request.joiner) request.level ≡ false = ap (λ kept. is_kept kept request.level) none in
      sent_among own request.joiner (hello_body (hello_made node request)) acted.sent ((spreads anew).1.greets (ap is_none none))

  hello_names_it : level_of node request.joiner ≡ None → (named : List ℕ)
      → AmongOffered named (hello_made node request).links ⊎ ((named ≡ own) × (true ≡ true)) → HelloNames after own request.joiner named
  hello_names_it none named which = record {
    fields = hello_made node request;
    way =
        sent_under_way s after number (frame_to node from body) acted.sent
        (by_rule p s number node from body (due p s number node from body is)).taken own request.joiner (hello_body (hello_made node request))
        (greeted none);
    named = which;
  }

  -- the primary of a slot of the watch is offered, and is core
  primary_named : level_of node request.joiner ≡ None → (slot : Slot) → Contains request.watch slot → (named : List ℕ)
      → least_settled (links_at t slot) ≡ Some named
      → AmongOffered named (hello_made node request).links × WasCore s named
  primary_named none slot there named primary =
      let below = so.digits slot there in
      let some : is_some (least_settled (links_at t slot)) ≡ true = ap is_some primary in
      let answered : answers t request.joiner slot ≡ true =
      elim (cases_Bool (is_slot slot (slot_at request.joiner own))) [ inl mine ↦ rw mine refl | inr other ↦ rw other some ] in
      let cover = cover_of t (level_of node request.joiner) request.joiner request.prefix request.level in
      let got = primary_offered t valid request.watch cover (ap is_none none) slot below
      ((Contains-filter (answers t request.joiner) request.watch slot).1 (there, answered)) named primary in
      let stands = (primary_stands t valid slot below named primary).0 in
      let settled = (settled_before node request.joiner so.ties so.is_name so.fits named stands).1 in
      let core = is.invariant.soft.settled own named (record { state = node; is = is.at; link = settled }) in (
        offered_got named true (hello_made node request).links got.0 got.1,
        core_was s named core,
      )

  abbrev IsNewHeld : Answer → Type 0
  IsNewHeld answer = HasNode after answer.joiner × WasCore after answer.named
      × ((state : NodeState) → after.node answer.joiner ≡ Some state → state.status ≡ Joining
      → IsHeld p after answer.joiner state answer.named)

  abbrev step_held : IsHeldStep p s after own node acted.state
  step_held = delivery_step p s number node from body is

  itself_core : WasCore s own
  itself_core = record { state = node; is = is.at; core = subst was_core (sym so.core) tt }

  -- the name of an answer has been core, and the Hello names it
  named_so : level_of node request.joiner ≡ None → (slot : Slot) → Contains request.watch slot → (named : List ℕ)
      → ((named ≡ own) × (is_slot slot (slot_at request.joiner own) ≡ true)) ⊎ (least_settled (links_at t slot) ≡ Some named)
      → WasCore s named × HelloNames after own request.joiner named
  named_so none slot there named (inl mine) = (
    subst (WasCore s) (sym mine.0) itself_core,
    hello_names_it none named (inr (mine.0, refl)),
  )
  named_so none slot there named (inr primary) =
      let found = primary_named none slot there named primary in (found.1, hello_names_it none named (inl found.0))

  new_held : level_of node request.joiner ≡ None → (answer : Answer)
      → IsAmong answer (answers_for (table_for node request) request.joiner request.watch) → IsNewHeld answer
  new_held none answer among =
      let gives = given (table_for node request) request.joiner request.watch answer among in
      let which = own_or_primary t request.joiner gives.slot gives.named gives.with_name in
      let found = named_so none gives.slot gives.there gives.named which in
      subst IsNewHeld (sym gives.is) (
        still_known p s after own node acted.state step_held request.joiner so.joiner,
        still_core p s after own node acted.state step_held gives.named found.0,
        λ state at joins. inr (own, found.1),
      )

  -- with the answers of a first cover
  more_held : (first : Bool) → is_none (level_of node request.joiner) ≡ first
      → AnswersAreHeld p after (recalled_first r node request first)
  more_held false later = answers_kept p s after own node acted.state step_held r held
  more_held true first = record {
    known = λ answer among. (each answer among).0;
    core = λ answer among. (each answer among).1;
    held = λ answer among. (each answer among).2;
  }
    where
      none : (kept : Option ℕ) → is_none kept ≡ true → kept ≡ None
      none None is = refl
      none (Some level) is = cc

      each : (answer : Answer) → IsAmong answer (answers_for (table_for node request) request.joiner request.watch ++ r.answers)
          → IsNewHeld answer
      each answer among =
          elim (among-either answer (answers_for (table_for node request) request.joiner request.watch) r.answers among) [
            | inl new ↦ new_held (none (level_of node request.joiner) first) answer new
            | inr old ↦
                let kept = answers_kept p s after own node acted.state step_held r held in
                (kept.known answer old, kept.core answer old, kept.held answer old)
          ]

  cover_held : AnswersAreHeld p after (recalled_cover r node request)
  cover_held =
      let all = more_held (is_none (level_of node request.joiner)) refl in
      record { known = all.known; core = all.core; held = all.held }

-- ---- each move

module _ (p : SettingsValue) (s : System) (r : WatchMemory) (number : ℕ) (node : NodeState) (from : List ℕ) (body : Body)
    (is : IsDelivery p s number node from body) (held : AnswersAreHeld p s r) where
  by_asked : (found : Option Request) → asked node from body ≡ found
      → AnswersAreHeld p (after_delivery p s number) (recalled_asked r node found)
  by_asked None none =
      answers_kept p s (after_delivery p s number) (name_of node) node (taken_at node from body).state
      (delivery_step p s number node from body is) r held
  by_asked (Some request) asks =
      let core = core_only node.status node from body request asks in
      cover_held p s r number node from body is held request (body_asked p s number node from (said_of body) request is core.0 core.1)

  delivery_holds : AnswersAreHeld p (after_delivery p s number) (watch_recalled s r (Delivers number))
  delivery_holds =
      subst (AnswersAreHeld p (after_delivery p s number)) (sym (delivery_recalls p s r number node from body is))
      (by_asked (asked node from body) refl)

frame_holds : (p : SettingsValue) (s : System) (r : WatchMemory) (number : ℕ) (frame : Frame) (node : NodeState) → Sound p s
    → AnswersAreHeld p s r → AmongFrames number frame s.frames → s.node frame.to ≡ Some node
    → AnswersAreHeld p (after_delivery p s number) (watch_recalled s r (Delivers number))
frame_holds p s r number frame node sound held among at =
    let due = is_delivery p s number frame node sound among at in
    delivery_holds p s r number node frame.from frame.body due held

start_kept : (p : SettingsValue) (s : System) (r : WatchMemory) (x : List ℕ) (start : Start) (node : NodeState)
    → starter p s x start ≡ Some node → s.node x ≡ Some node → may_start p s x start → AnswersAreHeld p s r
    → AnswersAreHeld p (after_start p s x start) r
start_kept p s r x start node is at may held =
    answers_kept p s (after_start p s x start) x node (act node (Starts start)).state (start_step p s x start node is at may) r held

start_holds : (p : SettingsValue) (s : System) (r : WatchMemory) (x : List ℕ) (start : Start) → may_start p s x start
    → AnswersAreHeld p s r → AnswersAreHeld p (after_start p s x start) r
start_holds p s r x (Join via) may held = join_held p s x via may.fresh r held
start_holds p s r x Abandon may held = start_kept p s r x Abandon may.state may.is may.is may held
start_holds p s r x StartLeave may held = start_kept p s r x StartLeave may.acts.state may.acts.is may.acts.is may held
start_holds p s r x (Publish object) may held =
    start_kept p s r x (Publish object) may.acts.state may.acts.is may.acts.is may held
start_holds p s r x (Withdraw object) may held =
    start_kept p s r x (Withdraw object) may.acts.state may.acts.is may.acts.is may held
start_holds p s r x (StartFind ticket object) may held =
    start_kept p s r x (StartFind ticket object) may.acts.state may.acts.is may.acts.is may held
start_holds p s r x (StartCast cast level word) may held =
    start_kept p s r x (StartCast cast level word) may.acts.state may.acts.is may.acts.is may held

pub move_keeps_answers : MoveKeepsAnswers
unfolding watch_recalled
move_keeps_answers p s r (Begins x start) may sound held = start_holds p s r x start may held
move_keeps_answers p s r (Delivers number) may sound held =
    frame_holds p s r number may.frame may.receiver.state sound held may.among may.receiver.is

-- ---- runs

pub answers_at_rest : AnswersAtRest
answers_at_rest p members are =
    record { known = λ answer among. absurd among; core = λ answer among. absurd among; held = λ answer among. absurd among }

run_from : (p : SettingsValue) (s : System) (r : WatchMemory) (moves : List Move) → Sound p s → AnswersAreHeld p s r → may_run p s moves
    → AnswersAreHeld p (after_moves p s moves) (watch_recalled_moves p s r moves)
run_from p s r [] sound held may = held
run_from p s r (move ∷ moves) sound held may =
    run_from p (moved p s move) (watch_recalled s r move) moves (move_keeps p s move may.0 sound)
    (move_keeps_answers p s r move may.0 sound held) may.1

pub run_answers : RunAnswersAreHeld
run_answers p members moves are may =
    run_from p (system_at_rest p members) none_answered moves (sound_at_rest p members are) (answers_at_rest p members are) may

-- ---- a joiner becomes core

pub core_has : CoreHasAnswers
core_has p s r number from node sound held among at goes_on answer there mine =
    let is = is_delivery p s number (frame_to node from Done) node sound among at in
    let under : IsUnderWay s from (name_of node) Done = record { number = number; among = among } in
    let inv = sound.invariant.basis in
    let joiner = inv.of_joiners.dones from (name_of node) under in
    let joins = joins_here s node joiner at in
    let quiet = quiet_law s from (name_of node) inv.exact inv.of_joiners inv.ends_once joiner under in
    let ties = (done_law node from joins goes_on is.known).ties in
    let look = λ (t : List ℕ). ap (λ (one : TiesValue). kind_in one.table t) ties in
    let had = held.held answer there node (ap s.node mine ∙ at) joins in
    elim (subst (λ y. IsHeld p s y node answer.named) mine had) [
      | inl has ↦ elim has [
        | inl link ↦ inl (link.0, look answer.named ∙ link.1)
        | inr full ↦
            inr (full_stays p (name_of node) node (taken_at node from Done).state answer.named (λ t settled. look t ∙ settled) full)
      ]
      | inr hello ↦ absurd (quiet.hellos hello.0 answer.named hello.1)
    ]
