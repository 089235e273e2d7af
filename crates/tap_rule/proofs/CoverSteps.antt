-- What Seek and Tell change at a core node.
-- Cited above: seek_fits, seek_law, tell_law
use Rattle.std.proofs.Common.{◌≡◌, ◌||◌, ◌==◌, ℕ, ◌+◌, Bool, cond, List, [], ◌∷◌, ◌++◌, length, map, Option, Some, None, true, false, arith, refl, sym, ap, subst, ◌∙◌, inl, inr, eqb-true}
use Rattle.std.specs.Prelude.{is_some}
use Rattle.std.specs.Ordering.{is_eq}
use Rattle.std.proofs.lemmas.Bool.{cases_Bool, eqb-false, or_parts, true≢false}
use Rattle.std.proofs.lemmas.Slice.Eq.{bytes_eq-Decides}
use Rattle.tap_name.specs.declared.slot.Offered.{Offered}
use Rattle.tap_name.specs.declared.slot.Slot.{Slot}
use Rattle.tap_name.specs.Name.{IsName}
use Rattle.tap_name.specs.Prefix.{lcp}
use Rattle.tap_link.specs.declared.kind.Kind.{Kind}
use Rattle.tap_link.specs.declared.kind.Kind.TheVariants.{Pin, Settled, Leaving}
use Rattle.tap_link.specs.LinkSet.{is_settled, kind_of, least_settled}
use Rattle.tap_table.specs.declared.tie.Tie.{Tie}
use Rattle.tap_table.specs.Table.{SlotLinks, links_near, name_cmp}
use Rattle.tap_table.specs.Ties.{AreTies, pinned}
use Rattle.tap_session.specs.declared.parent.Parent.{Parent}
use Rattle.tap_session.specs.declared.parent.Parent.TheVariants.{Root, Node}
use Rattle.tap_session.specs.Sessions.{opened_with}
use Rattle.tap_multicast.specs.declared.covers.Covered.{Covered}
use Rattle.tap_multicast.specs.declared.covers.Covered.TheVariants.{Already, Now}
use Rattle.tap_multicast.specs.declared.target.Target.{Target}
use Rattle.tap_multicast.specs.Covers.{with_cover}
use Rattle.tap_join.specs.Hello.{words_of}
use Rattle.tap_join.specs.declared.sought.Sought.{Sought}
use Rattle.tap_join.specs.declared.sought.Sought.TheVariants.{Forward, Surrogate}
use Rattle.tap_join.specs.Seek.{sought, sought_by}
use Rattle.tap_wire.specs.declared.frame.Body.TheVariants.{Seek}
use Rattle.tap_rule.specs.Node.{IsRunning, NodeState, level_of, link_to, name_of, settings_of}
use Rattle.tap_rule.specs.Event.{Acted}
use Rattle.tap_rule.specs.Event.News.{Nothing}
use Rattle.tap_rule.specs.Reaction.{Message, message, pin_word, sends, with_pin, with_words}
use Rattle.tap_rule.specs.Answers.{answer_for, with_session}
use Rattle.tap_rule.specs.Covering.{Request, answers_awaited, covers_as, first_request, greeting, pins_and_covers, request_of, takes_seek, takes_seek_as, takes_tell, tell_for, with_level}
use Rattle.tap_rule.specs.Strange.{is_leaving, is_no_pin, is_own_name, is_strange, is_strange_body, is_strange_seek, is_too_many, names_to_link}
use Rattle.tap_rule.specs.FrameRules.{frame_at_core}
use Rattle.tap_rule.specs.Sending.{link_frame}
use Rattle.tap_rule.specs.Sent.{IsAmong}
use Rattle.tap_rule.specs.Completed.{IsCompleted, RestAlike}
use Rattle.tap_rule.specs.LinkSteps.{IsParentAnswered}
use Rattle.tap_rule.specs.JoinSteps.{CoverStep, SeekStep, SpreadStep, found_for, pin_words, tells_for}
use Rattle.tap_rule.specs.RuleLaws.{IsCarriedOut, SeekLaw, TellLaw, frame_to, tell_of}
use Rattle.tap_rule.specs.Hellos.{core_hello}
use Rattle.tap_rule.proofs.Among.{among-first, among-map, among-second}
use Rattle.tap_rule.proofs.CarriedOut.{frame_law}
use Rattle.tap_rule.proofs.Completed.{alike_by, completed_by, one_word, rest_by}
use Rattle.tap_rule.proofs.OneName.{parent_told}
use Rattle.tap_rule.proofs.JoinSteps.{IsTellFit, pin_step, tell_fits}

-- who waits for nobody has no target
no_targets : (first : Bool) (targets : List Target) (target : Target) → answers_awaited first (length targets) ≡ 0
    → IsAmong target targets → ⊥
no_targets first [] target none among = absurd among
no_targets true (t ∷ ts) target none among = absurd (omega (arith, none))
no_targets false (t ∷ ts) target none among = absurd (omega (arith, none))

never_alone : (first : Bool) (targets : List Target) → answers_awaited first (length targets) ≡ 0 → first ≡ true → ⊥
never_alone true targets none is = absurd (omega (arith, none))
never_alone false targets none is = true≢false (sym is)

-- an answer for a parent, and nothing else, is how it is answered
parent_answered : (node : NodeState) (words : List Tie) (parent : Parent) (acted : Acted)
    → IsCompleted node node.pointers words (answer_for parent ∷ []) Nothing acted → IsParentAnswered node words parent acted
parent_answered node words (Root joiner) acted completed = completed
parent_answered node words (Node name session) acted completed = completed

module _ (node : NodeState) (request : Request) (acted : Acted) (runs : IsRunning node.status) where
  -- The Tells and the Hello are among the messages
  module _ (first : Bool) (offer : List Offered) (targets : List Target) (left : List Slot) where
    abbrev session : ℕ
    session = node.sessions.opened + 1

    abbrev messages : List Message
    messages = greeting request session first offer ++ map (tell_for request session left) targets

    told_among : (target : Target) → IsAmong target targets → IsAmong (tell_for request session left target) messages
    told_among target among =
        among-second (tell_for request session left target) (greeting request session first offer)
        (map (tell_for request session left) targets) (among-map (tell_for request session left) target targets among)

    greeted_among : first ≡ true → IsAmong (message request.joiner (core_hello session offer)) messages
    greeted_among is =
        among-first (message request.joiner (core_hello session offer)) (greeting request session first offer)
        (map (tell_for request session left) targets) (rw is (inl refl))

    -- what the step of a cover that is made now changes
    record Spread : Type 0 where
      status : acted.state.status ≡ node.status
      ties : acted.state.ties ≡ pinned node.ties request.joiner
      links : (word : Tie) → IsAmong word (words_of (pin_word node request.joiner)) → IsAmong (link_frame (name_of node) word) acted.sent
      covers : acted.state.covers ≡ with_cover node.covers request.joiner request.level
      greeted : acted.state.greeted ≡ node.greeted
      abandoned : acted.state.abandoned ≡ node.abandoned
      rest : RestAlike node acted.state
      spreads : SpreadStep node request first offer targets left acted

    -- what is sent in a session that is opened
    exactly : IsCarriedOut node (with_words (words_of (pin_word node request.joiner))
        (sends (with_session (with_level (with_pin node request.joiner) request) request.parent request.depth
        (answers_awaited first (length targets))) messages)) acted
        → (sent : List Message) → messages ≡ sent
        → IsCompleted node node.pointers (pin_words node request.joiner) sent Nothing acted
    exactly carried sent all =
        subst (λ m. IsCompleted node node.pointers (pin_words node request.joiner) m Nothing acted) all
        (completed_by node _ acted carried runs (one_word _ request.joiner node.stamp true))

    -- a node with the joiner pinned and covered, which waits for nobody or opens a session
    spread_as : (none : Bool) → (answers_awaited first (length targets) == 0) ≡ none
        → IsCarriedOut node (with_words (words_of (pin_word node request.joiner)) (cond none
        (sends (with_level (with_pin node request.joiner) request) (answer_for request.parent ∷ []))
        (sends (with_session (with_level (with_pin node request.joiner) request) request.parent request.depth
        (answers_awaited first (length targets))) messages))) acted
        → Spread
    spread_as true is carried =
        let none : answers_awaited first (length targets) ≡ 0 = eqb-true (answers_awaited first (length targets)) 0 is in
        record {
          status = carried.status;
          ties = carried.ties;
          links = carried.sent.links;
          covers = carried.covers;
          greeted = carried.greeted;
          abandoned = carried.abandoned;
          rest = rest_by carried refl refl refl refl;
          spreads = record {
            alone = λ zero. (
              carried.sessions,
              parent_told node request.parent acted.sent (carried.sent.named (answer_for request.parent) (inl refl)),
            );
            opens = λ some. absurd (some none);
            greets = λ yes. absurd (never_alone first targets none yes);
            tells = λ target among. absurd (no_targets first targets target none among);
            first_opens = λ yes. absurd (never_alone first targets none yes);
            again_opens = λ no some. let zero : length targets ≡ 0 = rw no at none in absurd (some zero);
            again_answers = λ no zero. (
              carried.sessions,
              parent_answered node _ request.parent acted
                  (completed_by node _ acted carried runs (one_word _ request.joiner node.stamp true)),
            );
          };
        }
    spread_as false is carried = record {
      status = carried.status;
      ties = carried.ties;
      links = carried.sent.links;
      covers = carried.covers;
      greeted = carried.greeted;
      abandoned = carried.abandoned;
      rest = rest_by carried refl refl refl refl;
      spreads = record {
        alone = λ zero. absurd (eqb-false (answers_awaited first (length targets)) 0 is zero);
        opens = λ some. carried.sessions;
        greets = λ yes. carried.sent.named (message request.joiner (core_hello session offer)) (greeted_among yes);
        tells = λ target among. carried.sent.named (tell_for request session left target) (told_among target among);
        first_opens = λ yes.
            let number : answers_awaited first (length targets) ≡ length targets + 1 = rw yes refl in
            let all : messages ≡ message request.joiner (core_hello session offer) ∷ tells_for node request left targets = rw yes refl in
            (carried.sessions ∙ ap (opened_with node.sessions request.parent request.depth) number, exactly carried _ all);
        again_opens = λ no some.
            let number : answers_awaited first (length targets) ≡ length targets = rw no refl in
            let all : messages ≡ tells_for node request left targets = rw no refl in
            (carried.sessions ∙ ap (opened_with node.sessions request.parent request.depth) number, exactly carried _ all);
        again_answers = λ no zero.
            let none : answers_awaited first (length targets) ≡ 0 = rw no zero in
            absurd (eqb-false (answers_awaited first (length targets)) 0 is none);
      };
    }

  module _ (ties : AreTies node.ties) (is_name : IsName (settings_of node) request.joiner) (fits : IsTellFit node request.joiner) where
    cover_as : (found : Covered) → found_for node request ≡ found
        → IsCarriedOut node
        (with_words (words_of (pin_word node request.joiner)) (covers_as (with_pin node request.joiner) request found)) acted
        → CoverStep node request acted
    cover_as Already is carried = record {
      status = carried.status;
      pins = pin_step node request.joiner acted ties is_name fits.apart fits.pin carried.ties carried.sent.links;
      covers =
          rw is (
            carried.covers,
            carried.sessions,
            parent_told node request.parent acted.sent (carried.sent.named (answer_for request.parent) (inl refl)),
            parent_answered node _ request.parent acted
                (completed_by node _ acted carried runs (one_word _ request.joiner node.stamp true)),
          );
      greeted = carried.greeted;
      abandoned = carried.abandoned;
      rest = rest_by carried refl refl refl refl;
    }
    cover_as (Now first offer targets left) is carried =
        let both = spread_as first offer targets left (answers_awaited first (length targets) == 0) refl carried in
        record {
          status = both.status;
          pins = pin_step node request.joiner acted ties is_name fits.apart fits.pin both.ties both.links;
          covers = rw is (both.covers, both.spreads);
          greeted = both.greeted;
          abandoned = both.abandoned;
          rest = both.rest;
        }

    pub cover_step : IsCarriedOut node (pins_and_covers node request) acted → CoverStep node request acted
    cover_step carried = cover_as (found_for node request) refl carried

pub tell_law : TellLaw
unfolding frame_at_core
tell_law node from tell watch ties is_name at taken =
    cover_step node (request_of from tell watch) _ (rw at tt) ties is_name (tell_fits node from tell watch taken)
    (frame_law node (frame_to node from (tell_of tell watch)) (takes_tell node from tell watch) taken (rw at refl))

-- a slot without a primary has no settled link
no_settled : (links : SlotLinks) (target : List ℕ) → least_settled links ≡ None → kind_of name_cmp links target ≡ Some Settled → ⊥
no_settled [] target none is = cc
no_settled (e ∷ es) target none is = elim (cases_Bool (is_settled (Some e.kind))) [
  | inl settled ↦ let both : Some e.target ≡ None = rw settled at none in cc
  | inr unsettled ↦ elim (cases_Bool (is_eq (name_cmp target e.target))) [
    | inl tied ↦
        let kind : Some e.kind ≡ Some Settled = rw tied at is in
        let settled : is_settled (Some e.kind) ≡ true = ap is_settled kind in
        true≢false (sym settled ∙ unsettled)
    | inr apart ↦
        let rest : least_settled es ≡ None = rw unsettled at none in
        let same : kind_of name_cmp es target ≡ Some Settled = rw apart at is in
        no_settled es target rest same
  ]
]

-- who is a surrogate has no primary to send the joiner on to
no_primary : (primary : Option (List ℕ)) (shared prefix : ℕ) → sought_by primary shared ≡ Surrogate prefix → primary ≡ None
no_primary None shared prefix is = refl
no_primary (Some next) shared prefix is = cc

-- a link that isn't settled or leaving is a pin
pin_or_none : (kind : Option Kind) → (kind ≡ Some Settled → ⊥) → is_leaving kind ≡ false → is_no_pin kind ≡ false
pin_or_none None unsettled staying = refl
pin_or_none (Some Pin) unsettled staying = refl
pin_or_none (Some Settled) unsettled staying = absurd (unsettled refl)
pin_or_none (Some Leaving) unsettled staying = absurd (true≢false staying)

-- what isn't strange about a Seek at the surrogate: its joiner is another node, and is pinned if there is a link to it
pub seek_fits : (node : NodeState) (from joiner : List ℕ) (prefix : ℕ) → is_strange node (frame_to node from (Seek joiner)) ≡ false
    → sought node.ties.table joiner ≡ Surrogate prefix → IsTellFit node joiner
unfolding is_strange_body
seek_fits node from joiner prefix taken is =
    let many = is_too_many node (names_to_link from (Seek joiner)) in
    let body = or_parts (is_own_name node from) (is_strange_seek node joiner)
    (or_parts (is_own_name node from || is_strange_seek node joiner) many taken).0 in
    let covered_before = is_some (level_of node joiner) in
    let parts = or_parts (is_own_name node joiner || covered_before) (is_leaving (link_to node joiner)) body.1 in
    let own = or_parts (is_own_name node joiner) covered_before parts.0 in
    let none = no_primary (least_settled (links_near node.ties.table joiner)) (lcp (name_of node) joiner) prefix is in
    record {
      apart = λ same. true≢false (sym ((bytes_eq-Decides joiner (name_of node)).1 same) ∙ own.0);
      pin = pin_or_none (link_to node joiner) (no_settled (links_near node.ties.table joiner) joiner none) parts.1;
    }

module _ (node : NodeState) (joiner : List ℕ) (acted : Acted) (ties : AreTies node.ties) (is_name : IsName (settings_of node) joiner)
  where
    seek_as : (found : Sought) → sought node.ties.table joiner ≡ found
        → ((prefix : ℕ) → sought node.ties.table joiner ≡ Surrogate prefix → IsTellFit node joiner) → IsRunning node.status
        → IsCarriedOut node (takes_seek_as node joiner found) acted → SeekStep node joiner acted
    seek_as (Forward next) is fits runs carried =
        rw is (
          carried.ties,
          carried.covers,
          carried.sessions,
          carried.sent.named (message next (Seek joiner)) (inl refl),
          alike_by carried refl,
          completed_by node _ acted carried runs (omega arith),
        )
    seek_as (Surrogate prefix) is fits runs carried =
        rw is (cover_step node (first_request node joiner prefix) acted runs ties is_name (fits prefix is) carried)

pub seek_law : SeekLaw
unfolding frame_at_core
seek_law node from joiner ties is_name at taken =
    seek_as node joiner _ ties is_name (sought node.ties.table joiner) refl (λ prefix. seek_fits node from joiner prefix taken)
    (rw at tt) (frame_law node (frame_to node from (Seek joiner)) (takes_seek node joiner) taken (rw at refl))
