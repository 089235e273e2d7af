-- A Seek at the joiner's surrogate covers it, and greets it with the primary of each slot up to the prefix.
use Rattle.std.proofs.Common.{◌≡◌, ◌||◌, ℕ, ◌<◌, ◌≤◌, false, true, List, Contains, Option, None, Some, get_or, nat_eq, arith, ap, refl, sym, ◌∙◌, inl, inr}
use Rattle.std.specs.Prelude.{is_some}
use Rattle.std.specs.List.{common_prefix_len}
use Rattle.std.specs.Option.{is_none}
use Rattle.std.proofs.lemmas.Bool.{cases_lt, or_parts, or_right, true≢false}
use Rattle.tap_name.specs.Name.{IsName}
use Rattle.tap_name.specs.Prefix.{lcp}
use Rattle.tap_name.specs.Slot.{slot_at}
use Rattle.tap_name.proofs.Prefixes.{lcp-differs, lcp-digits, lcp-is}
use Rattle.tap_name.proofs.Slots.{same_slot}
use Rattle.tap_link.specs.declared.kind.Kind.TheVariants.{Settled}
use Rattle.tap_link.specs.LinkSet.{kind_of, least_settled}
use Rattle.tap_link.proofs.Least.{never_settled}
use Rattle.tap_table.specs.Table.{links_at, links_near, name_cmp, place_of}
use Rattle.tap_table.specs.Ties.{AreTies}
use Rattle.tap_table.proofs.Primaries.{primary_near}
use Rattle.tap_table.proofs.Slots.{place_inside}
use Rattle.tap_table.specs.Members.{is_slot}
use Rattle.tap_watch.specs.Level.{full_slots}
use Rattle.tap_watch.specs.Watch.{IsWatched}
use Rattle.tap_watch.proofs.Watches.{Contains-filter, Contains-full}
use Rattle.tap_multicast.specs.Covers.{cover_of}
use Rattle.tap_multicast.specs.Offer.{answered_slots, answers}
use Rattle.tap_multicast.proofs.Offers.{primary_offered}
use Rattle.tap_join.specs.declared.sought.Sought.TheVariants.{Surrogate}
use Rattle.tap_join.specs.Seek.{sought, sought_by}
use Rattle.tap_rule.specs.Covering.{first_request}
use Rattle.tap_rule.specs.Event.{Acted}
use Rattle.tap_rule.specs.JoinSteps.{CoverStep, SeekStep}
use Rattle.tap_rule.specs.RuleLaws.{frame_to}
use Rattle.tap_rule.specs.Node.{NodeState, level_of, link_to, name_of, settings_of}
use Rattle.tap_rule.specs.Strange.{is_leaving, is_own_name, is_strange, is_strange_body, is_strange_seek, is_too_many, names_to_link}
use Rattle.tap_wire.specs.declared.frame.Body.TheVariants.{Seek}
use Rattle.tap_rule.proofs.CoverSteps.{seek_fits, seek_law}
use Rattle.tap_rule.proofs.JoinSteps.{IsTellFit}
use Rattle.tap_safety.specs.Frames.{hello_body}
use Rattle.tap_safety.specs.SeekStep.{OffersPrimary}
use Rattle.tap_safety.proofs.TellKeeps.{core_kept}
use Rattle.tap_safety.proofs.UnderWay.{sent_under_way}
use Rattle.tap_moves.specs.ByRule.{taken_at}
use Rattle.tap_moves.specs.StepsMade.{SeekCovers, SeekGreets}
use Rattle.tap_moves.proofs.Got.{offered_got}
use Rattle.tap_moves.proofs.CoverMade.{covers_anew, has_primary, hello_made, hello_sent, linked_inside, pins_offered, with_joiner, with_joiner_is}

-- a node that takes a Seek doesn't cover its joiner
pub uncovered : (node : NodeState) (from joiner : List ℕ) → is_strange node (frame_to node from (Seek joiner)) ≡ false
    → level_of node joiner ≡ None
unfolding is_strange_body
uncovered node from joiner known =
    let many = is_too_many node (names_to_link from (Seek joiner)) in
    let body = or_parts (is_own_name node from) (is_strange_seek node joiner)
    (or_parts (is_own_name node from || is_strange_seek node joiner) many known).0 in
    let parts = or_parts (is_own_name node joiner || is_some (level_of node joiner)) (is_leaving (link_to node joiner)) body.1 in
    none_of (level_of node joiner) (or_parts (is_own_name node joiner) (is_some (level_of node joiner)) parts.0).1
  where
    none_of : (level : Option ℕ) → is_some level ≡ false → level ≡ None
    none_of None none = refl
    none_of (Some level) none = absurd (true≢false none)

-- the surrogate's prefix is what it shares with the joiner, and its slot of the joiner has no primary
pub surrogate_is : (node : NodeState) (joiner : List ℕ) (prefix : ℕ) → (first : Option (List ℕ))
    → sought_by first (lcp (name_of node) joiner) ≡ Surrogate prefix → (first ≡ None) × (prefix ≡ lcp (name_of node) joiner)
surrogate_is node joiner prefix None is = (refl, cc)
surrogate_is node joiner prefix (Some first) is = absurd (cc)

-- the step of a Seek at the surrogate
at_surrogate : (node : NodeState) (joiner : List ℕ) (prefix : ℕ) (acted : Acted) → sought node.ties.table joiner ≡ Surrogate prefix
    → SeekStep node joiner acted → CoverStep node (first_request node joiner prefix) acted
at_surrogate node joiner prefix acted is step = rw is at step

module _ (node : NodeState) (joiner : List ℕ) (ties : AreTies node.ties) (is_name : IsName (settings_of node) joiner)
    (fits : IsTellFit node joiner) (prefix : ℕ) (shared : prefix ≡ lcp (name_of node) joiner)
    (alone : least_settled (links_near node.ties.table joiner) ≡ None) where
  abbrev own : List ℕ
  own = name_of node

  -- the slot of a settled link up to the prefix isn't one of the joiner's own digits
  slot_is_other : (t : List ℕ) → link_to node t ≡ Some Settled → lcp own t ≤ prefix
      → get_or t (lcp own t) 0 ≡ get_or joiner (lcp own t) 0 → ⊥
  slot_is_other t settled low same =
      let inside = linked_inside node joiner ties is_name fits t Settled settled in
      let one = inside.0.len in
      let mine = ties.table.owner.len in
      elim (cases_lt (lcp own t) prefix) [
        | inl below ↦
            let digit = lcp-digits own joiner (lcp own t) (omega (arith, below, shared)) in
            lcp-differs own t (omega (arith, inside.2, mine)) (omega (arith, inside.2, one)) (digit ∙ sym same)
        | inr above ↦
            let level : lcp own t ≡ lcp own joiner = omega (arith, low, above, shared) in
            let first : common_prefix_len nat_eq own t ≡ common_prefix_len nat_eq own joiner =
            sym (lcp-is own t) ∙ level ∙ lcp-is own joiner in
            let digit : get_or t (common_prefix_len nat_eq own t) 0 ≡ get_or joiner (common_prefix_len nat_eq own joiner) 0 =
            ap (λ l. get_or t l 0) (sym (lcp-is own t)) ∙ same ∙ ap (λ l. get_or joiner l 0) (lcp-is own t ∙ first) in
            let place : place_of own t ≡ place_of own joiner = same_slot (place_of own t) (place_of own joiner) first digit in
            let there : kind_of name_cmp (links_near node.ties.table joiner) t ≡ Some Settled =
            ap (λ slot. kind_of name_cmp (links_at node.ties.table slot) t) (sym place) ∙ settled in
            never_settled name_cmp (links_near node.ties.table joiner) t alone there
      ]

  -- so it is watched, and answered
  slot_is_answered : (t : List ℕ) → link_to node t ≡ Some Settled → lcp own t ≤ prefix → (first : List ℕ)
      → primary_near (with_joiner node joiner ties is_name fits) t ≡ Some first
      → Contains (answered_slots (with_joiner node joiner ties is_name fits) joiner (full_slots (settings_of node) joiner prefix))
      (place_of own t)
  slot_is_answered t settled low first is =
      let inside = linked_inside node joiner ties is_name fits t Settled settled in
      let place = place_inside (settings_of node) own t ties.table.owner inside.0 inside.1 in
      let watched : IsWatched (settings_of node) joiner prefix (place_of own t) = record {
        level = omega (arith, low, lcp-is own t);
        digit = place.1;
        other = λ same. slot_is_other t settled low
            (ap (λ l. get_or t l 0) (lcp-is own t) ∙ same ∙ ap (λ l. get_or joiner l 0) (sym (lcp-is own t)));
      } in
      (Contains-filter (answers (with_joiner node joiner ties is_name fits) joiner) (full_slots (settings_of node) joiner prefix)
      (place_of own t)).1 (
        (Contains-full (settings_of node) joiner prefix (place_of own t)).1 watched,
        or_right (is_slot (place_of own t) (slot_at joiner own)) _ (ap is_some is),
      )

  -- and its primary is offered
  pub offers_primary : level_of node joiner ≡ None → (t : List ℕ) → link_to node t ≡ Some Settled → lcp own t ≤ prefix
      → OffersPrimary node (hello_made node (first_request node joiner prefix)) own t
  offers_primary none t settled low =
      let inside = linked_inside node joiner ties is_name fits t Settled settled in
      let place = place_inside (settings_of node) own t ties.table.owner inside.0 inside.1 in
      let first = has_primary node joiner ties is_name fits t settled in
      let table = with_joiner node joiner ties is_name fits in
      let watch = full_slots (settings_of node) joiner prefix in
      let cover = cover_of table (level_of node joiner) joiner prefix prefix in
      let got = primary_offered table (with_joiner_is node joiner ties is_name fits) watch cover (ap is_none none) (place_of own t)
      place.1 (slot_is_answered t settled low first.first first.is) first.first first.is in
      record {
        primary = first.first;
        settled = first.settled;
        near = first.near;
        offered = offered_got first.first true (hello_made node (first_request node joiner prefix)).links got.0 got.1;
      }

-- of a joiner that isn't covered each level is anew
uncovered_anew : (level : Option ℕ) (kept prefix : ℕ) → level ≡ None → level ≡ Some kept → prefix < kept
uncovered_anew level kept prefix none covered = let wrong : None ≡ Some kept = sym none ∙ covered in absurd (cc)

pub seek_covers : SeekCovers
seek_covers s s' number node from joiner prefix taken at name is =
    let acted = taken_at node from (Seek joiner) in
    let step = at_surrogate node joiner prefix acted is (seek_law node from joiner taken.is_node.ties name at taken.known) in
    let none = uncovered node from joiner taken.known in
    covers_anew node (first_request node joiner prefix) acted taken.is_node.ties name
    (seek_fits node from joiner prefix taken.known is)
    (λ kept covered. uncovered_anew (level_of node joiner) kept prefix none covered) step

pub seek_greets : SeekGreets
seek_greets s s' number node from joiner prefix taken at name is =
    let ties = taken.is_node.ties in
    let step = at_surrogate node joiner prefix (taken_at node from (Seek joiner)) is (seek_law node from joiner ties name at taken.known) in
    let none = uncovered node from joiner taken.known in
    let fits = seek_fits node from joiner prefix taken.known is in
    let alone = surrogate_is node joiner prefix (least_settled (links_near node.ties.table joiner)) is in
    let inside = place_inside (settings_of node) (name_of node) joiner ties.table.owner name fits.apart in
    let request = first_request node joiner prefix in
    let acted = taken_at node from (Seek joiner) in
    let anew = λ (kept : ℕ) (covered : level_of node joiner ≡ Some kept). uncovered_anew (level_of node joiner) kept prefix none covered in
    record {
      before = node;
      was = taken.at.was;
      hello = hello_made node request;
      way = sent_under_way s s' number (frame_to node from (Seek joiner)) acted.sent taken.taken (name_of node) joiner
          (hello_body (hello_made node request)) (hello_sent node request acted ties name fits anew step none);
      is_core = refl;
      pins = pins_offered node request acted ties name fits anew step none;
      primaries = λ t settled low.
          offers_primary node joiner ties name fits prefix alone.1 alone.0 none t settled (omega (arith, alone.1, low));
      cores = core_kept s s' (name_of node) node acted.state taken.at step.status;
      apart = omega (arith, inside.0, lcp-is (name_of node) joiner);
    }
