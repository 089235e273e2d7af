-- What a cover hands on of a watch list.
use Rattle.std.proofs.Common.{◌≡◌, ◌⊎◌, ℕ, zero, suc, ◌+◌, ◌≤◌, true, false, List, [], ◌∷◌, Contains, Option, None, Some, length, map, arith, ap, refl, sym, subst, ◌∙◌, inl, inr}
use Rattle.std.specs.Prelude.{is_some}
use Rattle.std.specs.Option.{is_none}
use Rattle.std.proofs.lemmas.Bool.{cases_Bool, or_cases, true≢false}
use Rattle.std.proofs.lemmas.List.Elements.{All-nil}
use Rattle.tap_name.specs.Name.{IsName}
use Rattle.tap_name.specs.Prefix.{lcp}
use Rattle.tap_name.specs.Slot.{slot_at}
use Rattle.tap_name.specs.declared.slot.Offered.{Offered}
use Rattle.tap_name.specs.declared.slot.Slot.{Slot}
use Rattle.tap_link.specs.LinkSet.{least_settled}
use Rattle.tap_session.specs.declared.parent.Parent.{Parent}
use Rattle.tap_session.specs.declared.parent.Parent.TheVariants.{Node, Root}
use Rattle.tap_table.specs.declared.tie.Tie.{Tie}
use Rattle.tap_table.specs.Levels.{is_kept}
use Rattle.tap_table.specs.Members.{is_slot}
use Rattle.tap_table.specs.Table.{IsTable, TableValue, links_at}
use Rattle.tap_table.specs.Ties.{AreTies}
use Rattle.tap_table.proofs.Least.{is_slot-to}
use Rattle.tap_pointer.specs.declared.lay.Lay.{Lay}
use Rattle.tap_watch.specs.Watch.{IsWatched}
use Rattle.tap_watch.proofs.Watches.{Contains-filter}
use Rattle.tap_multicast.specs.declared.covers.Covered.TheVariants.{Already}
use Rattle.tap_multicast.specs.declared.target.Target.{Target}
use Rattle.tap_multicast.specs.Covers.{MayCover, MayWatch, cover_of, with_cover}
use Rattle.tap_multicast.specs.Offer.{answers, left, offer}
use Rattle.tap_multicast.specs.Targets.{targets}
use Rattle.tap_multicast.proofs.Offers.{all_left, left_exactly, primary_offered}
use Rattle.tap_multicast.proofs.Regions.{primary_fits}
use Rattle.tap_join.specs.Seek.{sought}
use Rattle.tap_join.specs.declared.sought.Sought.TheVariants.{Surrogate}
use Rattle.tap_join.proofs.Seeking.{surrogate_is}
use Rattle.tap_wire.specs.declared.frame.Body.TheVariants.{Ack, Done, Seek, Tell}
use Rattle.tap_wire.specs.declared.frame.Frame.{Frame}
use Rattle.tap_wire.specs.declared.frame.TellFields.{TellFields}
use Rattle.tap_rule.specs.Covering.{Request, first_request, request_of}
use Rattle.tap_rule.specs.Event.{Acted}
use Rattle.tap_rule.specs.JoinSteps.{CoverStep, CoversAs, SeekStep, SpreadStep, pin_words, tells_for}
use Rattle.tap_rule.specs.RuleLaws.{frame_to}
use Rattle.tap_rule.specs.Node.{NodeState, level_of, name_of, settings_of}
use Rattle.tap_rule.specs.Reaction.{Message, message}
use Rattle.tap_rule.specs.Sending.{by_receiver, lay_frame, link_frame, message_frame}
use Rattle.tap_rule.specs.Sent.{AreSentInOrder, IsAmong}
use Rattle.tap_rule.specs.LinkSteps.{IsParentAnswered}
use Rattle.tap_rule.specs.Hellos.{core_hello}
use Rattle.tap_rule.proofs.Among.{among-either, among-map_from}
use Rattle.tap_rule.proofs.CoverSteps.{seek_fits, seek_law, tell_law}
use Rattle.tap_rule.proofs.Fit.{fit_law}
use Rattle.tap_rule.proofs.JoinSteps.{IsTellFit, tell_fits}
use Rattle.tap_safety.specs.Frames.{hello_body, tell_body}
use Rattle.tap_safety.specs.Exchanges.{IsSent}
use Rattle.tap_moves.specs.ByRule.{taken_at}
use Rattle.tap_moves.proofs.CoverMade.{joiner_link, hello_made, with_joiner, with_joiner_is}
use Rattle.tap_moves.proofs.Got.{among_got, sent_among}
use Rattle.tap_moves.proofs.Nearness.{name_inside}
use Rattle.tap_cast_runs.specs.WatchMoves.{GivesSlot, SeekHandsOn, TellHandsOn}

-- ---- which Tells are sent

-- a Tell that is sent, in order with words and Lays, is one of the messages
tell_among : (own : List ℕ) (words : List Tie) (messages : List Message) (lays : List Lay) (sent : List Frame)
    → AreSentInOrder own words messages lays sent → (from to : List ℕ) (tell : TellFields) (watch : List Slot)
    → IsSent sent from to (tell_body tell watch) → (m : Message) × IsAmong m messages × (m.body ≡ tell_body tell watch)
tell_among own words messages lays sent are from to tell watch among =
    let frame : Frame = record { from = from; to = to; body = tell_body tell watch } in
    let there = subst (λ (frames : List Frame). IsAmong frame frames) are.all among in
    elim (among-either frame (map (link_frame own) (by_receiver words)) _ there) [
      | inl link ↦
          let found = among-map_from (link_frame own) frame (by_receiver words) link in
          let wrong : tell_body tell watch ≡ (link_frame own found.0).body = ap (λ (f : Frame). f.body) found.2 in absurd (cc)
      | inr later ↦
          elim (among-either frame (map (message_frame own) messages) (map (lay_frame own) lays) later) [
            | inl named ↦
                let found = among-map_from (message_frame own) frame messages named in
                (found.0, found.1, sym (ap (λ (f : Frame). f.body) found.2))
            | inr lay ↦
                let found = among-map_from (lay_frame own) frame lays lay in
                let wrong : tell_body tell watch ≡ (lay_frame own found.0).body = ap (λ (f : Frame). f.body) found.2 in absurd (cc)
          ]
    ]

-- who answers alone sends no Tell
answer_tells_none : (node : NodeState) (words : List Tie) (parent : Parent) (acted : Acted) → IsParentAnswered node words parent acted
    → (from to : List ℕ) (tell : TellFields) (watch : List Slot) → IsSent acted.sent from to (tell_body tell watch) → ⊥
answer_tells_none node words (Root joiner) acted answered from to tell watch among =
    let found = tell_among (name_of node) words (message joiner Done ∷ []) _ acted.sent answered.sent from to tell watch among in
    elim found.1 [
      | inl is ↦ let wrong : Done ≡ tell_body tell watch = ap (λ (m : Message). m.body) (sym is) ∙ found.2 in cc
      | inr none ↦ none
    ]
answer_tells_none node words (Node name session) acted answered from to tell watch among =
    let found = tell_among (name_of node) words (message name (Ack session) ∷ []) _ acted.sent answered.sent from to tell watch among in
    elim found.1 [
      | inl is ↦ let wrong : Ack session ≡ tell_body tell watch = ap (λ (m : Message). m.body) (sym is) ∙ found.2 in cc
      | inr none ↦ none
    ]

-- the Tells of a cover have the watch that is left
tells_leave : (node : NodeState) (request : Request) (slots : List Slot) (told : List Target) (m : Message) (tell : TellFields)
    (watch : List Slot) → IsAmong m (tells_for node request slots told) → m.body ≡ tell_body tell watch → watch ≡ slots
tells_leave node request slots told m tell watch among body =
    let found = among-map_from (λ (target : Target). message target.to
    (Tell request.joiner request.prefix target.level (node.sessions.opened + 1) (request.depth + 1) slots)) m told among in
    let same : Tell request.joiner request.prefix found.0.level (node.sessions.opened + 1) (request.depth + 1) slots
    ≡ tell_body tell watch = ap (λ (n : Message). n.body) (sym found.2) ∙ body in
    cc

-- ---- the watch that a cover hands on

module _ (node : NodeState) (request : Request) (acted : Acted) (ties : AreTies node.ties)
    (is_name : IsName (settings_of node) request.joiner) (fits : IsTellFit node request.joiner)
    (shared : request.prefix ≤ lcp (name_of node) request.joiner) (step : CoverStep node request acted) where
  abbrev own : List ℕ
  own = name_of node

  abbrev table : TableValue
  table = with_joiner node request.joiner ties is_name fits

  valid : IsTable table
  valid = with_joiner_is node request.joiner ties is_name fits

  -- what it offers, whom it tells, and the slots that are left
  abbrev offered : List Offered
  offered = offer table request.watch (cover_of table (level_of node request.joiner) request.joiner request.prefix request.level)

  abbrev told : List Target
  told = targets table (cover_of table (level_of node request.joiner) request.joiner request.prefix request.level)

  abbrev slots_left : List Slot
  slots_left = left table request.watch (cover_of table (level_of node request.joiner) request.joiner request.prefix request.level)

  may : MayCover table [] request.joiner request.prefix request.prefix
  may =
      let inside = name_inside node.ties.table ties.table request.joiner is_name fits.apart in
      record {
        pinned = joiner_link node request.joiner ties is_name fits;
        within_level = omega arith;
        shared = shared;
        within_digits = omega (arith, shared, inside);
        watched = All-nil (MayWatch (settings_of node).base request.prefix);
      }

  -- what the cover comes to, if the joiner isn't covered so already
  spreads : is_kept (level_of node request.joiner) request.level ≡ false
      → (acted.state.covers ≡ with_cover node.covers request.joiner request.level)
      × SpreadStep node request (is_none (level_of node request.joiner)) offered told slots_left acted
  spreads anew = rw anew at step.covers

  -- a slot that is answered is given, by the Hello of a first cover
  module _ (first : is_none (level_of node request.joiner) ≡ true) (slot : Slot)
      (watched : IsWatched (settings_of node) request.joiner request.prefix slot) (there : Contains request.watch slot)
      (sends : IsSent acted.sent own request.joiner (hello_body (hello_made node request))) where
    by_primary : (primary : Option (List ℕ)) → least_settled (links_at table slot) ≡ primary → is_some primary ≡ true
        → answers table request.joiner slot ≡ true → GivesSlot acted.sent own request.joiner slot
    by_primary None is some answered = absurd (true≢false (sym some))
    by_primary (Some name) is some answered =
        let test = Contains-filter (answers table request.joiner) request.watch slot in
        let cover = cover_of table (level_of node request.joiner) request.joiner request.prefix request.level in
        let got = primary_offered table valid request.watch cover first slot watched.digit (test.1 (there, answered)) name is in
        record {
          by = name;
          fits = primary_fits table valid [] request.joiner request.prefix request.prefix may slot watched name is;
          hello = hello_made node request;
          sends = sends;
          named = inr (among_got (record { name = name; settled = true }) (hello_made node request).links got.0 got.1);
        }

    slot_given : answers table request.joiner slot ≡ true → GivesSlot acted.sent own request.joiner slot
    slot_given answered =
        elim (or_cases (is_slot slot (slot_at request.joiner own)) (is_some (least_settled (links_at table slot))) answered) [
          | inl stands ↦ record {
            by = own;
            fits = is_slot-to slot (slot_at request.joiner own) stands;
            hello = hello_made node request;
            sends = sends;
            named = inl (refl, refl);
          }
          | inr some ↦ by_primary (least_settled (links_at table slot)) refl some answered
        ]

    left_or_given : (kept : List Slot) → kept ≡ slots_left
        → Contains kept slot ⊎ GivesSlot acted.sent own request.joiner slot
    left_or_given kept same =
        elim (cases_Bool (answers table request.joiner slot)) [
          | inl answered ↦ inr (slot_given answered)
          | inr not_answered ↦
              let cover = cover_of table (level_of node request.joiner) request.joiner request.prefix request.level in
              let stays = (left_exactly table valid request.watch cover first slot).1 (there, not_answered) in
              inl (subst (λ (slots : List Slot). Contains slots slot) (sym same) stays)
        ]

  module _ (to : List ℕ) (tell : TellFields) (kept : List Slot) (among : IsSent acted.sent own to (tell_body tell kept)) (slot : Slot)
      (watched : IsWatched (settings_of node) request.joiner request.prefix slot) (there : Contains request.watch slot) where
    abbrev Handed : Type 0
    Handed = Contains kept slot ⊎ GivesSlot acted.sent own request.joiner slot

    at_first : is_none (level_of node request.joiner) ≡ true → is_kept (level_of node request.joiner) request.level ≡ false → Handed
    at_first first anew =
        let spread = (spreads anew).1 in
        let opened = (spread.first_opens first).1 in
        let found = tell_among own (pin_words node request.joiner) _ _ acted.sent opened.sent own to tell kept among in
        let greeted = sent_among own request.joiner (hello_body (hello_made node request)) acted.sent (spread.greets first) in
        elim found.1 [
          | inl hello ↦
              let wrong : core_hello (node.sessions.opened + 1) offered ≡ tell_body tell kept =
              ap (λ (m : Message). m.body) (sym hello) ∙ found.2 in absurd (cc)
          | inr tells ↦
              left_or_given first slot watched there greeted kept
              (tells_leave node request slots_left told found.0 tell kept tells found.2)
        ]

    again : is_none (level_of node request.joiner) ≡ false → is_kept (level_of node request.joiner) request.level ≡ false
        → (count : ℕ) → length told ≡ count → Handed
    again later anew zero none =
        let answered = ((spreads anew).1.again_answers later none).1 in
        absurd (answer_tells_none node (pin_words node request.joiner) request.parent acted answered own to tell kept among)
    again later anew (suc count) some =
        let opened = ((spreads anew).1.again_opens later (λ none. let wrong : suc count ≡ zero = sym some ∙ none in cc)).1 in
        let found = tell_among own (pin_words node request.joiner) _ _ acted.sent opened.sent own to tell kept among in
        let same = tells_leave node request slots_left told found.0 tell kept found.1 found.2 in
        let cover = cover_of table (level_of node request.joiner) request.joiner request.prefix request.level in
        inl (subst (λ (slots : List Slot). Contains slots slot) (sym (same ∙ all_left table request.watch cover later)) there)

    handed : Handed
    handed =
        elim (cases_Bool (is_kept (level_of node request.joiner) request.level)) [
          | inl known ↦
              let same : CoversAs node request acted Already = rw known at step.covers in
              absurd (answer_tells_none node (pin_words node request.joiner) request.parent acted same.3 own to tell kept among)
          | inr anew ↦
              elim (cases_Bool (is_none (level_of node request.joiner))) [
                | inl first ↦ at_first first anew
                | inr later ↦ again later anew (length told) refl
              ]
        ]

pub tell_hands_on : TellHandsOn
tell_hands_on node from tell watch is_node name at known to sent kept among slot watched there =
    let ties = is_node.ties in
    let fit = (fit_law node (frame_to node from (tell_body tell watch)) ties).0 known in
    handed node (request_of from tell watch) (taken_at node from (tell_body tell watch)) ties name (tell_fits node from tell watch known)
    fit.body.shared (tell_law node from tell watch ties name at known) to sent kept among slot watched there

-- the step of a Seek at the surrogate
at_surrogate : (node : NodeState) (joiner : List ℕ) (prefix : ℕ) (acted : Acted) → sought node.ties.table joiner ≡ Surrogate prefix
    → SeekStep node joiner acted → CoverStep node (first_request node joiner prefix) acted
at_surrogate node joiner prefix acted is step = rw is at step

pub seek_hands_on : SeekHandsOn
seek_hands_on node from joiner prefix is_node name at known is to tell kept among slot watched there =
    let ties = is_node.ties in
    let fits = seek_fits node from joiner prefix known is in
    let acted = taken_at node from (Seek joiner) in
    let shared = (surrogate_is node.ties.table ties.table joiner name fits.apart prefix is).0 in
    handed node (first_request node joiner prefix) acted ties name fits (omega (arith, shared))
    (at_surrogate node joiner prefix acted is (seek_law node from joiner ties name at known)) to tell kept among slot watched there
