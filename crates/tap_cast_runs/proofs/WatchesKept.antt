-- Each move keeps what is said of watch lists.
use Rattle.std.proofs.Common.{◌≡◌, ◌⊎◌, ℕ, Bool, true, false, List, [], ◌∷◌, Contains, Option, None, Some, ap, refl, sym, subst, ◌∙◌, inl, inr}
use Rattle.std.specs.Option.{is_none}
use Rattle.std.proofs.lemmas.Bool.{cases_Bool}
use Rattle.tap_name.specs.Settings.{SettingsValue}
use Rattle.tap_name.specs.Slot.{Fits, slot_at}
use Rattle.tap_name.specs.declared.slot.Slot.{Slot}
use Rattle.tap_table.specs.Members.{is_slot}
use Rattle.tap_table.specs.Table.{IsTable}
use Rattle.tap_watch.specs.Watch.{IsWatched}
use Rattle.tap_watch.proofs.Watches.{Contains-full}
use Rattle.tap_wire.specs.declared.frame.Body.{Body}
use Rattle.tap_wire.specs.declared.frame.Frame.{Frame}
use Rattle.tap_wire.specs.declared.frame.TellFields.{TellFields}
use Rattle.tap_multicast.specs.Covers.{level_kept}
use Rattle.tap_multicast.specs.Offer.{answers}
use Rattle.tap_join.specs.Seek.{sought}
use Rattle.tap_join.specs.declared.sought.Sought.{Sought}
use Rattle.tap_join.specs.declared.sought.Sought.TheVariants.{Forward, Surrogate}
use Rattle.tap_rule.specs.Covering.{Request, first_request, pins_and_covers, request_of}
use Rattle.tap_rule.specs.Event.{Acted}
use Rattle.tap_rule.specs.RuleLaws.{IsCarriedOut, frame_to}
use Rattle.tap_name.specs.Names.{has_name}
use Rattle.tap_rule.specs.Node.{NodeState, joiner, level_of, member_at_rest, name_of, settings_of}
use Rattle.tap_rule.specs.Sent.{IsAmong}
use Rattle.tap_safety.specs.AtRest.{member_of, system_at_rest}
use Rattle.tap_safety.specs.Frames.{tell_body}
use Rattle.tap_safety.specs.Move.{Move}
use Rattle.tap_safety.specs.Move.Move.{Begins, Delivers}
use Rattle.tap_safety.specs.Moved.{moved}
use Rattle.tap_safety.specs.Exchanges.{IsSent}
use Rattle.tap_safety.specs.System.{AmongFrames, CoversAt, System, IsUnderWay}
use Rattle.tap_safety.proofs.UnderWay.{was_under_way}
use Rattle.tap_safety.proofs.Said.{Said, said_of}
use Rattle.tap_safety.proofs.Said.Said.{IsSeek, IsTell}
use Rattle.tap_moves.specs.ByRule.{taken_at}
use Rattle.tap_moves.specs.Delivered.{after_delivery}
use Rattle.tap_moves.specs.InvariantLaws.{IsDelivery}
use Rattle.tap_moves.proofs.Got.{same_name}
use Rattle.tap_multicast.proofs.Regions.{primary_fits}
use Rattle.tap_table.proofs.Least.{is_slot-to}
use Rattle.tap_rule.proofs.Among.{among-either}
use Rattle.tap_moves.proofs.InvariantMoves.{due, way}
use Rattle.tap_moves.proofs.MovesMade.{by_rule}
use Rattle.tap_safety_moves.specs.SoundMoves.{after_moves, may_run}
use Rattle.tap_safety_moves.specs.Sound.{Sound}
use Rattle.tap_safety_moves.proofs.Members.{sound_at_rest}
use Rattle.tap_safety_moves.proofs.SoundMoves.{move_keeps}
use Rattle.tap_safety_moves.proofs.Delivered.{is_delivery}
use Rattle.tap_cast_runs.specs.SlotAnswers.{Answer, FirstCover, WatchMemory, answers_for, had_primary, none_answered}
use Rattle.tap_cast_runs.specs.Recalled.{asked, asked_at_core, asked_by_seek, chain_above, chain_to, recalled_asked, recalled_cover, recalled_first, table_for, watch_recalled}
use Rattle.tap_cast_runs.specs.Watched.{CoveredFirst, IsAnswered, MoveKeepsWatches, RunWatchesAreSound, WatchesAreSound, WatchesAtRest, watch_recalled_moves}
use Rattle.tap_cast_runs.proofs.Aside.{frame_aside}
use Rattle.tap_cast_runs.proofs.Asks.{IsCovering, aside_kept, changed_cover, core_asks, core_only, covered_before, delivery_recalls, others_covered, start_keeps, table_stays}
use Rattle.tap_cast_runs.proofs.AnswersGrow.{answered_now, more_covers, new_chain, old_chain, still_answered}
use Rattle.tap_cast_runs.proofs.Spread.{given, left_within, own_or_primary, covers_tell, left_by, left_or_answered}

-- ---- the move

module _ (p : SettingsValue) (s : System) (r : WatchMemory) (number : ℕ) (node : NodeState) (from : List ℕ) (body : Body)
    (is : IsDelivery p s number node from body) (sound : WatchesAreSound p s r) where
  abbrev after : System
  after = after_delivery p s number

  abbrev acted : Acted
  acted = taken_at node from body

  tell_was : (w t : List ℕ) (tell : TellFields) (watch : List Slot) → IsUnderWay after w t (tell_body tell watch)
      → IsUnderWay s w t (tell_body tell watch) ⊎ IsSent acted.sent w t (tell_body tell watch)
  tell_was w t tell watch way =
      was_under_way s after number (frame_to node from body) acted.sent
      (by_rule p s number node from body (due p s number node from body is)).taken w t (tell_body tell watch) way

  cover_was : (y b : List ℕ) (level : ℕ) → CoversAt after y b level
      → ((y ≡ name_of node) × (level_kept acted.state.covers b ≡ Some level)) ⊎ CoversAt s y b level
  cover_was y b level covers =
      let step = by_rule p s number node from body (due p s number node from body is) in
      changed_cover s after (name_of node) acted.state step.at.is step.at.others y b level covers

  -- nobody is asked for
  none_asked : asked node from body ≡ None → WatchesAreSound p after r
  none_asked none =
      let acts = frame_aside node from body is.known none in
      aside_kept p s after r (record {
        tells = λ w t tell watch way.
            elim (tell_was w t tell watch way) [ inl old ↦ old | inr new ↦ absurd (acts.no_tell w t tell watch new) ];
        covers = λ y b level covers.
            elim (cover_was y b level covers) [
              | inl here ↦
                  subst (λ z. CoversAt s z b level) (sym here.0)
                  (record { state = node; is = is.at; cover = covered_before node acted.state acts.covers b level here.1 })
              | inr other ↦ other
            ];
      }) sound

  -- each slot that is waited for is in the watch, or was answered by whoever led here
  reached : (request : Request) → asked node from body ≡ Some request → (slot : Slot)
      → IsWatched p request.joiner request.prefix slot
      → Contains request.watch slot ⊎ IsAnswered r request.joiner slot (chain_above r request.parent)
  reached request asks = by_body (said_of body) is (core_only node.status node from body request asks).1
    where
      by_seek : (joiner : List ℕ) (found : Sought) → asked_by_seek node joiner found ≡ Some request → (slot : Slot)
          → IsWatched p request.joiner request.prefix slot
          → Contains request.watch slot ⊎ IsAnswered r request.joiner slot (chain_above r request.parent)
      by_seek joiner (Forward next) asks slot watched = absurd (cc)
      by_seek joiner (Surrogate prefix) asks slot watched =
          let same : first_request node joiner prefix ≡ request = cc in
          let settings = (is.nodes.nodes (name_of node) node is.at).settings in
          let here : IsWatched (settings_of node) joiner prefix slot =
          subst (λ q. IsWatched q joiner prefix slot) (sym settings)
          (subst (λ (q : Request). IsWatched p q.joiner q.prefix slot) (sym same) watched) in
          inl (subst (λ (q : Request). Contains q.watch slot) same ((Contains-full (settings_of node) joiner prefix slot).1 here))

      by_body : {b : Body} → Said b → IsDelivery p s number node from b → asked_at_core node from b ≡ Some request → (slot : Slot)
          → IsWatched p request.joiner request.prefix slot
          → Contains request.watch slot ⊎ IsAnswered r request.joiner slot (chain_above r request.parent)
      by_body (IsSeek joiner) comes asks slot watched = by_seek joiner (sought node.ties.table joiner) asks slot watched
      by_body (IsTell tell watch) comes asks slot watched =
          let same : request_of from tell watch ≡ request = cc in
          let here : IsWatched p tell.joiner tell.prefix slot = subst (λ (q : Request). IsWatched p q.joiner q.prefix slot) (sym same) watched in
          subst (λ (q : Request). Contains q.watch slot ⊎ IsAnswered r q.joiner slot (chain_above r q.parent)) same
          (sound.tells from (name_of node) tell watch (record { number = number; among = comes.among }) slot here)
      by_body _ comes asks slot watched = absurd (cc)

  -- and no other slot is in the watch
  request_waits : (request : Request) → asked node from body ≡ Some request → (slot : Slot) → Contains request.watch slot
      → IsWatched p request.joiner request.prefix slot
  request_waits request asks = by_body (said_of body) is (core_only node.status node from body request asks).1
    where
      by_seek : (joiner : List ℕ) (found : Sought) → asked_by_seek node joiner found ≡ Some request → (slot : Slot)
          → Contains request.watch slot → IsWatched p request.joiner request.prefix slot
      by_seek joiner (Forward next) asks slot there = absurd (cc)
      by_seek joiner (Surrogate prefix) asks slot there =
          let same : first_request node joiner prefix ≡ request = cc in
          let settings = (is.nodes.nodes (name_of node) node is.at).settings in
          let here : Contains (first_request node joiner prefix).watch slot =
          subst (λ (q : Request). Contains q.watch slot) (sym same) there in
          subst (λ (q : Request). IsWatched p q.joiner q.prefix slot) same
          (subst (λ q. IsWatched q joiner prefix slot) settings ((Contains-full (settings_of node) joiner prefix slot).0 here))

      by_body : {b : Body} → Said b → IsDelivery p s number node from b → asked_at_core node from b ≡ Some request → (slot : Slot)
          → Contains request.watch slot → IsWatched p request.joiner request.prefix slot
      by_body (IsSeek joiner) comes asks slot there = by_seek joiner (sought node.ties.table joiner) asks slot there
      by_body (IsTell tell watch) comes asks slot there =
          let same : request_of from tell watch ≡ request = cc in
          let here : Contains watch slot = subst (λ (q : Request). Contains q.watch slot) (sym same) there in
          subst (λ (q : Request). IsWatched p q.joiner q.prefix slot) same
          (sound.waits from (name_of node) tell watch (record { number = number; among = comes.among }) slot here)
      by_body _ comes asks slot there = absurd (cc)

  -- a joiner is to be covered
  module _ (request : Request) (asks : asked node from body ≡ Some request)
      (carried : IsCarriedOut node (pins_and_covers node request) acted) (covered : IsCovering node request) where
    valid : IsTable (table_for node request)
    valid = covered.valid

    abbrev now : WatchMemory
    now = recalled_cover r node request

    abbrev chain : List (List ℕ)
    chain = chain_to r node request

    -- each slot that is waited for and isn't in the watch any more was answered
    led : (slot : Slot) → IsWatched p request.joiner request.prefix slot
        → (Contains request.watch slot → Contains (left_by node request) slot ⊎ IsAnswered now request.joiner slot chain)
        × (IsAnswered r request.joiner slot (chain_above r request.parent) → IsAnswered now request.joiner slot chain)
    led slot watched = (
      λ there.
          elim (left_or_answered node request valid slot there) [
            | inl stays ↦ inl stays
            | inr answered ↦ inr (answered_now r node request answered.0 slot there answered.1)
          ],
      λ answered. still_answered r node request request.joiner slot (chain_above r request.parent) chain (λ y among. inr among) answered,
    )

    cover_tells : (w t : List ℕ) (tell : TellFields) (watch : List Slot) → IsUnderWay after w t (tell_body tell watch)
        → (slot : Slot) → IsWatched p tell.joiner tell.prefix slot
        → Contains watch slot ⊎ IsAnswered now tell.joiner slot (now.chain w tell.session)
    cover_tells w t tell watch way slot watched =
        elim (tell_was w t tell watch way) [
          | inl old ↦ elim (sound.tells w t tell watch old slot watched) [
            | inl there ↦ inl there
            | inr answered ↦
                inr (still_answered r node request tell.joiner slot (r.chain w tell.session) (now.chain w tell.session)
                (λ y among. subst (IsAmong y) (sym (old_chain p s r number node from body is request w t tell watch old)) among) answered)
          ]
          | inr new ↦
              let told = covers_tell node request acted carried w t tell watch new in
              let mine : IsWatched p request.joiner request.prefix slot = rw (← told.joiner, ← told.prefix) watched in
              let place : now.chain w tell.session ≡ chain = rw (told.from_is, told.session_is) (new_chain p s r number node from body is request) in
              let lead = led slot mine in
              let answers_so : IsAnswered now request.joiner slot chain → IsAnswered now tell.joiner slot (now.chain w tell.session) =
              λ answered. rw (told.joiner, place) answered in
              elim (reached request asks slot mine) [
                | inl there ↦ elim (lead.0 there) [
                  | inl stays ↦ inl (rw told.watch_is stays)
                  | inr answered ↦ inr (answers_so answered)
                ]
                | inr above ↦ inr (answers_so (lead.1 above))
              ]
        ]

    -- a first cover
    abbrev first_cover : FirstCover
    first_cover = record {
      joiner = request.joiner;
      prefix = request.prefix;
      table = table_for node request;
      chain = chain;
    }

    first_answered : is_none (level_of node request.joiner) ≡ true → (slot : Slot) → IsWatched p request.joiner request.prefix slot
        → had_primary first_cover slot ≡ true → IsAnswered now request.joiner slot chain
    first_answered first slot watched primary =
        elim (reached request asks slot watched) [
          | inl there ↦
              let t = table_for node request in
              let answered : answers t request.joiner slot ≡ true =
              elim (cases_Bool (is_slot slot (slot_at request.joiner t.owner))) [ inl own ↦ rw own refl | inr other ↦ rw other primary ] in
              answered_now r node request first slot there answered
          | inr above ↦ (led slot watched).1 above
        ]

    cover_answered : (cover : FirstCover) → IsAmong cover now.covers → (slot : Slot) → IsWatched p cover.joiner cover.prefix slot
        → had_primary cover slot ≡ true → IsAnswered now cover.joiner slot cover.chain
    cover_answered cover among slot watched primary = by (is_none (level_of node request.joiner)) refl among
      where
        old : IsAmong cover r.covers → IsAnswered now cover.joiner slot cover.chain
        old before =
            still_answered r node request cover.joiner slot cover.chain cover.chain (λ y there. there)
            (sound.covers cover before slot watched primary)

        by : (first : Bool) → is_none (level_of node request.joiner) ≡ first → IsAmong cover (recalled_first r node request first).covers
            → IsAnswered now cover.joiner slot cover.chain
        by false later before = old before
        by true first (inr before) = old before
        by true first (inl new) =
            subst (λ (c : FirstCover). IsWatched p c.joiner c.prefix slot → had_primary c slot ≡ true
            → IsAnswered now c.joiner slot c.chain) (sym new) (first_answered first slot) watched primary

    cover_first : (y b : List ℕ) (level : ℕ) → CoversAt after y b level → CoveredFirst now y b
    cover_first y b level covers =
        elim (cover_was y b level covers) [
          | inl here ↦ elim (same_name b request.joiner) [
            | inl joins ↦ subst (λ z. CoveredFirst now z b) (sym here.0) (subst (CoveredFirst now (name_of node)) (sym joins) mine)
            | inr apart ↦
                let before : level_of node b ≡ Some level = sym (others_covered node request acted carried b apart) ∙ here.1 in
                subst (λ z. CoveredFirst now z b) (sym here.0)
                (old (name_of node) b (sound.first (name_of node) b level (record { state = node; is = is.at; cover = before })))
          ]
          | inr other ↦ old y b (sound.first y b level other)
        ]
      where
        old : (x d : List ℕ) → CoveredFirst r x d → CoveredFirst now x d
        old x d found = record {
          cover = found.cover;
          among = more_covers r node request found.cover found.among;
          node_is = found.node_is;
          joiner_is = found.joiner_is;
        }

        mine : CoveredFirst now (name_of node) request.joiner
        mine = by (level_of node request.joiner) refl
          where
            by : (kept : Option ℕ) → level_of node request.joiner ≡ kept → CoveredFirst now (name_of node) request.joiner
            by None none =
                let there : IsAmong first_cover (recalled_first r node request true).covers = inl refl in
                let first : is_none (level_of node request.joiner) ≡ true = ap is_none none in
                record { cover = first_cover; among = rw first there; node_is = refl; joiner_is = refl }
            by (Some kept) before =
                old (name_of node) request.joiner
                (sound.first (name_of node) request.joiner kept (record { state = node; is = is.at; cover = before }))

    cover_waits : (w t : List ℕ) (tell : TellFields) (watch : List Slot) → IsUnderWay after w t (tell_body tell watch)
        → (slot : Slot) → Contains watch slot → IsWatched p tell.joiner tell.prefix slot
    cover_waits w t tell watch way slot there =
        elim (tell_was w t tell watch way) [
          | inl old ↦ sound.waits w t tell watch old slot there
          | inr new ↦
              let told = covers_tell node request acted carried w t tell watch new in
              let before = left_within node request valid slot (subst (λ slots. Contains slots slot) told.watch_is there) in
              rw (told.joiner, told.prefix) (request_waits request asks slot before)
        ]

    -- a name with which a slot is answered fits it
    new_fits : (answer : Answer) → IsAmong answer (answers_for (table_for node request) request.joiner request.watch)
        → Fits answer.joiner answer.named answer.slot
    new_fits answer among =
        let gives = given (table_for node request) request.joiner request.watch answer among in
        let settings = (is.nodes.nodes (name_of node) node is.at).settings in
        let watched : IsWatched (settings_of node) request.joiner request.prefix gives.slot =
        subst (λ q. IsWatched q request.joiner request.prefix gives.slot) (sym settings)
        (request_waits request asks gives.slot gives.there) in
        subst (λ (a : Answer). Fits a.joiner a.named a.slot) (sym gives.is)
        (elim (own_or_primary (table_for node request) request.joiner gives.slot gives.named gives.with_name) [
          | inl own ↦
              subst (λ name. Fits request.joiner name gives.slot) (sym own.0)
              (is_slot-to gives.slot (slot_at request.joiner (name_of node)) own.1)
          | inr primary ↦
              primary_fits (table_for node request) valid [] request.joiner request.prefix request.prefix covered.may gives.slot watched
              gives.named primary
        ])

    cover_fits : (answer : Answer) → IsAmong answer now.answers → Fits answer.joiner answer.named answer.slot
    cover_fits answer among = by (is_none (level_of node request.joiner)) among
      where
        by : (first : Bool) → IsAmong answer (recalled_first r node request first).answers → Fits answer.joiner answer.named answer.slot
        by false old = sound.fits answer old
        by true all =
            elim (among-either answer (answers_for (table_for node request) request.joiner request.watch) r.answers all) [
              | inl new ↦ new_fits answer new
              | inr old ↦ sound.fits answer old
            ]

    cover_kept : WatchesAreSound p after now
    cover_kept =
        record { tells = cover_tells; waits = cover_waits; fits = cover_fits; covers = cover_answered; first = cover_first }

module _ (p : SettingsValue) (s : System) (r : WatchMemory) (number : ℕ) (node : NodeState) (from : List ℕ) (body : Body)
    (is : IsDelivery p s number node from body) (sound : WatchesAreSound p s r) where
  delivery_keeps : WatchesAreSound p (after_delivery p s number) (watch_recalled s r (Delivers number))
  delivery_keeps =
      subst (WatchesAreSound p (after_delivery p s number)) (sym (delivery_recalls p s r number node from body is))
      (by (asked node from body) refl)
    where
      by : (found : Option Request) → asked node from body ≡ found
          → WatchesAreSound p (after_delivery p s number) (recalled_asked r node found)
      by None none = none_asked p s r number node from body is sound none
      by (Some request) asks =
          let core = core_only node.status node from body request asks in
          cover_kept p s r number node from body is sound request asks (core_asks node from (said_of body) request core.0 is.known core.1)
          (table_stays p s number node from (said_of body) request is core.1)

frame_keeps : (p : SettingsValue) (s : System) (r : WatchMemory) (number : ℕ) (frame : Frame) (node : NodeState) → Sound p s
    → WatchesAreSound p s r → AmongFrames number frame s.frames → s.node frame.to ≡ Some node
    → WatchesAreSound p (after_delivery p s number) (watch_recalled s r (Delivers number))
frame_keeps p s r number frame node sound watches among at =
    delivery_keeps p s r number node frame.from frame.body (is_delivery p s number frame node sound among at) watches

pub move_keeps_watches : MoveKeepsWatches
unfolding watch_recalled
move_keeps_watches p s r (Begins x start) may sound watches = start_keeps p s x start r watches
move_keeps_watches p s r (Delivers number) may sound watches =
    frame_keeps p s r number may.frame may.receiver.state sound watches may.among may.receiver.is

-- ---- members at rest

pub watches_at_rest : WatchesAtRest
watches_at_rest p members are = record {
  tells = λ from to tell watch way. absurd way.among;
  waits = λ from to tell watch way. absurd way.among;
  fits = λ answer among. absurd among;
  covers = λ cover among. absurd among;
  first = λ x b level covers. by x b level covers.state covers.is covers.cover (has_name members x) refl;
}
  where
    by : (x b : List ℕ) (level : ℕ) (state : NodeState) → member_of p members x ≡ Some state → level_kept state.covers b ≡ Some level
        → (member : Bool) → has_name members x ≡ member → CoveredFirst none_answered x b
    by x b level state is cover true there =
        let here : Some (member_at_rest p members x) ≡ Some state = rw there at is in
        let same : member_at_rest p members x ≡ state = cc in
        let wrong : ◌≡◌ {A = Option ℕ} None (Some level) = ap (λ (n : NodeState). level_kept n.covers b) same ∙ cover in
        absurd (cc)
    by x b level state is cover false there =
        let wrong : ◌≡◌ {A = Option NodeState} None (Some state) = rw there at is in absurd (cc)

-- ---- runs

run_from : (p : SettingsValue) (s : System) (r : WatchMemory) (moves : List Move) → Sound p s → WatchesAreSound p s r → may_run p s moves
    → WatchesAreSound p (after_moves p s moves) (watch_recalled_moves p s r moves)
run_from p s r [] sound watches may = watches
run_from p s r (move ∷ moves) sound watches may =
    run_from p (moved p s move) (watch_recalled s r move) moves (move_keeps p s move may.0 sound)
    (move_keeps_watches p s r move may.0 sound watches) may.1

pub run_watches : RunWatchesAreSound
run_watches p members moves are may =
    run_from p (system_at_rest p members) none_answered moves (sound_at_rest p members are) (watches_at_rest p members are) may
