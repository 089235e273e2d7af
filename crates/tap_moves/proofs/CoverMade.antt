-- What a cover that is made now by the rule of a node tells, and whom it greets.
-- Cited above: hello_made, joiner_link, none_or_pin, settled_before, with_joiner, with_joiner_is
use Rattle.std.proofs.Common.{◌≡◌, ◌≢◌, ◌⊎◌, ℕ, ◌+◌, ◌<◌, ◌≤◌, true, false, List, Option, None, Some, slice_get, ap, refl, sym, ◌∙◌, inl, inr}
use Rattle.std.specs.Option.{is_none}
use Rattle.std.proofs.lemmas.Bool.{le-leb, lt-leb, lt-ltb, true≢false}
use Rattle.tap_name.specs.declared.slot.Offered.{Offered}
use Rattle.tap_name.specs.declared.slot.Slot.{Slot}
use Rattle.tap_name.specs.Name.{IsName}
use Rattle.tap_name.specs.Prefix.{lcp}
use Rattle.tap_link.specs.declared.kind.Kind.{Kind}
use Rattle.tap_link.specs.declared.kind.Kind.TheVariants.{Leaving, Pin, Settled}
use Rattle.tap_link.proofs.Least.{never_settled}
use Rattle.tap_link.proofs.TargetKinds.{kind_pinned}
use Rattle.tap_table.specs.Table.{IsTable, TableValue, kind_in, links_near, name_cmp}
use Rattle.tap_table.specs.Ties.{AreTies, pinned}
use Rattle.tap_table.proofs.Found.{linked_is_name, linked_is_other}
use Rattle.tap_table.proofs.KeptTable.{IsTable-pinned}
use Rattle.tap_table.proofs.LookUps.{kind_in-pinned, of_itself, of_others}
use Rattle.tap_table.proofs.Primaries.{primary_near}
use Rattle.tap_multicast.specs.declared.target.Target.{Target}
use Rattle.tap_table.specs.Levels.{is_kept, sent_from}
use Rattle.tap_multicast.specs.Covers.{cover_of, level_kept, with_cover}
use Rattle.tap_multicast.specs.Offer.{left, offer}
use Rattle.tap_multicast.specs.Targets.{is_covered, targets}
use Rattle.tap_multicast.proofs.KeptLevels.{cover_anew, others_keep}
use Rattle.tap_multicast.proofs.Offers.{pin_offered}
use Rattle.tap_multicast.proofs.Telling.{first_cover_tells, pin_told, primary_told}
use Rattle.tap_wire.specs.declared.frame.TellFields.{TellFields}
use Rattle.tap_rule.specs.Covering.{Request}
use Rattle.tap_rule.specs.Event.{Acted}
use Rattle.tap_rule.specs.Hellos.{core_says}
use Rattle.tap_rule.specs.JoinSteps.{CoverStep, SpreadStep}
use Rattle.tap_rule.specs.Node.{NodeState, level_of, link_to, name_of, settings_of}
use Rattle.tap_rule.specs.Strange.{is_no_pin}
use Rattle.tap_rule.proofs.JoinSteps.{IsTellFit}
use Rattle.tap_safety.specs.Frames.{HelloFields, hello_body, tell_body}
use Rattle.tap_safety.specs.System.{AmongOffered}
use Rattle.tap_safety.specs.Exchanges.{IsSent}
use Rattle.tap_safety.specs.TellStep.{CoversAnew, Greets, IsNewlyCovered, Tells, TellsPrimary}
use Rattle.tap_moves.specs.StepsMade.{IsAnew}
use Rattle.tap_moves.proofs.Nearness.{name_inside, primary_stands_near}
use Rattle.tap_moves.proofs.Got.{among_got, offered_got, same_name, sent_among}

-- a level below the one that is kept isn't kept
fresh : (kept : Option ℕ) (level : ℕ) → ((k : ℕ) → kept ≡ Some k → level < k) → is_kept kept level ≡ false
fresh None level anew = refl
fresh (Some k) level anew = lt-leb k level (anew k refl)

-- a level below the number of digits and the one that is kept is below the one from which on the joiner was covered
within_before : (digits : ℕ) (kept : Option ℕ) (level : ℕ) → level < digits → ((k : ℕ) → kept ≡ Some k → level < k)
    → level < sent_from digits kept
within_before digits None level inside below = inside
within_before digits (Some k) level inside below = below k refl

-- what isn't linked otherwise than by a pin isn't settled, and has none or a pin
pub none_or_pin : (kind : Option Kind) → is_no_pin kind ≡ false → (kind ≡ None) ⊎ (kind ≡ Some Pin)
none_or_pin None pin = inl refl
none_or_pin (Some Pin) pin = inr refl
none_or_pin (Some Settled) pin = absurd (true≢false pin)
none_or_pin (Some Leaving) pin = absurd (true≢false pin)

pinned_then : (kind : Option Kind) → is_no_pin kind ≡ false → kind_pinned kind ≡ Some Pin
pinned_then None pin = refl
pinned_then (Some Pin) pin = refl
pinned_then (Some Settled) pin = absurd (true≢false pin)
pinned_then (Some Leaving) pin = absurd (true≢false pin)

module _ (node : NodeState) (joiner : List ℕ) (ties : AreTies node.ties) (is_name : IsName (settings_of node) joiner)
    (fits : IsTellFit node joiner) where
  -- the table with the joiner pinned
  abbrev pub with_joiner : TableValue
  with_joiner = (pinned node.ties joiner).table

  pub with_joiner_is : IsTable with_joiner
  with_joiner_is = IsTable-pinned node.ties.table joiner ties.table is_name fits.apart

  pub other_link : (t : List ℕ) → t ≢ joiner → kind_in with_joiner t ≡ link_to node t
  other_link t other =
      kind_in-pinned node.ties.table joiner ties.table is_name fits.apart t ∙ of_others joiner t kind_pinned (link_to node t) other

  pub joiner_link : kind_in with_joiner joiner ≡ Some Pin
  joiner_link =
      kind_in-pinned node.ties.table joiner ties.table is_name fits.apart joiner ∙ of_itself joiner kind_pinned (link_to node joiner)
      ∙ pinned_then (link_to node joiner) fits.pin

  -- what is settled with the joiner pinned isn't the joiner, and was settled before
  pub settled_before : (t : List ℕ) → kind_in with_joiner t ≡ Some Settled → (t ≢ joiner) × (link_to node t ≡ Some Settled)
  settled_before t settled =
      let apart : t ≢ joiner = λ same.
      let pin : kind_in with_joiner t ≡ Some Pin = ap (kind_in with_joiner) same ∙ joiner_link in
      let wrong : Some Settled ≡ Some Pin = sym settled ∙ pin in cc in
      (apart, sym (other_link t apart) ∙ settled)

  -- a node that is settled isn't the joiner
  pub settled_apart : (t : List ℕ) → link_to node t ≡ Some Settled → t ≢ joiner
  settled_apart t settled same =
      elim (none_or_pin (link_to node joiner) fits.pin) [
        | inl none ↦ let wrong : Some Settled ≡ None = sym settled ∙ ap (link_to node) same ∙ none in cc
        | inr pin ↦ let wrong : Some Settled ≡ Some Pin = sym settled ∙ ap (link_to node) same ∙ pin in cc
      ]

  -- a linked node is one that the own name shares less than all digits with
  pub linked_inside : (t : List ℕ) (kind : Kind) → link_to node t ≡ Some kind
      → IsName (settings_of node) t × (t ≢ name_of node) × (lcp (name_of node) t < (settings_of node).digits)
  linked_inside t kind link =
      let name = linked_is_name node.ties.table ties.table t kind link in
      let other = linked_is_other node.ties.table ties.table t kind link in
      (name, other, name_inside node.ties.table ties.table t name other)

  -- a slot with a settled link has a primary, which shares as much with the owner, and more with the link
  pub record HasPrimary (t : List ℕ) : Type 0 where
    pub first : List ℕ
    pub is : primary_near with_joiner t ≡ Some first
    pub settled : link_to node first ≡ Some Settled
    pub other : first ≢ joiner
    pub level : lcp (name_of node) first ≡ lcp (name_of node) t
    pub near : lcp (name_of node) t < lcp t first

  primary_of : (t : List ℕ) → link_to node t ≡ Some Settled → (first : Option (List ℕ)) → primary_near with_joiner t ≡ first
      → HasPrimary t
  primary_of t settled None none =
      let there : kind_in with_joiner t ≡ Some Settled = other_link t (settled_apart t settled) ∙ settled in
      absurd (never_settled name_cmp (links_near with_joiner t) t none there)
  primary_of t settled (Some first) is =
      let inside = linked_inside t Settled settled in
      let stands = primary_stands_near with_joiner with_joiner_is t first inside.0 inside.1 is in
      let before = settled_before first stands.0 in
      record { first = first; is = is; settled = before.1; other = before.0; level = stands.1; near = stands.2 }

  pub has_primary : (t : List ℕ) → link_to node t ≡ Some Settled → HasPrimary t
  has_primary t settled = primary_of t settled (primary_near with_joiner t) refl

-- what the cover of a request gives, over the table with its joiner pinned: its targets, its offer, the watch that is left, and its Hello
module _ (node : NodeState) (request : Request) where
  abbrev pinned_table : TableValue
  pinned_table = (pinned node.ties request.joiner).table

  abbrev pub told_targets : List Target
  told_targets =
      targets pinned_table (cover_of pinned_table (level_of node request.joiner) request.joiner request.prefix request.level)

  abbrev made_offer : List Offered
  made_offer =
      offer pinned_table request.watch
      (cover_of pinned_table (level_of node request.joiner) request.joiner request.prefix request.level)

  abbrev left_slots : List Slot
  left_slots =
      left pinned_table request.watch
      (cover_of pinned_table (level_of node request.joiner) request.joiner request.prefix request.level)

  abbrev pub hello_made : HelloFields
  hello_made = core_says (node.sessions.opened + 1) made_offer

module _ (node : NodeState) (request : Request) (acted : Acted) (ties : AreTies node.ties)
    (is_name : IsName (settings_of node) request.joiner) (fits : IsTellFit node request.joiner)
    (anew : IsAnew node request.joiner request.level) (step : CoverStep node request acted) where
  abbrev own : List ℕ
  own = name_of node

  abbrev table : TableValue
  table = with_joiner node request.joiner ties is_name fits

  is_table : IsTable table
  is_table = with_joiner_is node request.joiner ties is_name fits

  found : (acted.state.covers ≡ with_cover node.covers request.joiner request.level)
      × SpreadStep node request (is_none (level_of node request.joiner)) (made_offer node request) (told_targets node request)
      (left_slots node request) acted
  found = rw (fresh (level_of node request.joiner) request.level anew) at step.covers

  -- a target is told
  told_to : (to : List ℕ) (level k : ℕ) → slice_get (told_targets node request) k ≡ Some (record { to = to; level = level })
      → level ≡ lcp own to + 1 → Tells acted.sent own request.joiner to
  told_to to level k got is =
      let target : Target = record { to = to; level = level } in
      let sent = found.1.tells target (among_got target (told_targets node request) k got) in
      let fields : TellFields = record {
        joiner = request.joiner;
        prefix = request.prefix;
        level = level;
        session = node.sessions.opened + 1;
        depth = request.depth + 1;
      } in
      record {
        fields = fields;
        watch = left_slots node request;
        sends = sent_among own to (tell_body fields (left_slots node request)) acted.sent sent;
        joiner = refl;
        level = is;
      }

  newly : (t : List ℕ) → lcp own t < (settings_of node).digits → IsNewlyCovered node own request.joiner request.level t
      → is_covered (cover_of table (level_of node request.joiner) request.joiner request.prefix request.level) (lcp own t) ≡ true
  newly t inside new =
      let before = within_before (settings_of node).digits (level_of node request.joiner) (lcp own t) inside new.to in
      let end = sent_from (settings_of node).digits (level_of node request.joiner) in
      rw (le-leb request.level (lcp own t) new.from, lt-ltb (lcp own t) end before) refl

  pins : (t : List ℕ) → link_to node t ≡ Some Pin → (t ≡ request.joiner → ⊥)
      → IsNewlyCovered node own request.joiner request.level t → Tells acted.sent own request.joiner t
  pins t pin other new =
      let inside = linked_inside node request.joiner ties is_name fits t Pin pin in
      let cover = cover_of table (level_of node request.joiner) request.joiner request.prefix request.level in
      let told = pin_told table is_table cover t other (other_link node request.joiner ties is_name fits t other ∙ pin)
      (newly t inside.2 new) in
      told_to t (lcp own t + 1) told.0 told.1 refl

  primaries : (t : List ℕ) → link_to node t ≡ Some Settled → IsNewlyCovered node own request.joiner request.level t
      → TellsPrimary node acted.sent own request.joiner t
  primaries t settled new =
      let inside = linked_inside node request.joiner ties is_name fits t Settled settled in
      let first = has_primary node request.joiner ties is_name fits t settled in
      let cover = cover_of table (level_of node request.joiner) request.joiner request.prefix request.level in
      let told = primary_told table is_table cover first.first first.other t inside.0 inside.1 first.is (newly t inside.2 new) in
      record {
        primary = first.first;
        settled = first.settled;
        near = first.near;
        tells = told_to first.first (lcp own t + 1) told.0 told.1 (ap (λ l. l + 1) (sym first.level));
      }

  introduces : level_of node request.joiner ≡ None → (t : List ℕ) → link_to node t ≡ Some Pin → (t ≡ request.joiner → ⊥)
      → request.prefix ≤ lcp own t → Tells acted.sent own request.joiner t
  introduces none t pin other from =
      let inside = linked_inside node request.joiner ties is_name fits t Pin pin in
      let before = within_before (settings_of node).digits (level_of node request.joiner) (lcp own t) inside.2
      (λ k is. let wrong : None ≡ Some k = sym none ∙ is in absurd (cc)) in
      let cover = cover_of table (level_of node request.joiner) request.joiner request.prefix request.level in
      let told = first_cover_tells table is_table cover t other (other_link node request.joiner ties is_name fits t other ∙ pin)
      (ap is_none none) from before in
      told_to t (lcp own t + 1) told.0 told.1 refl

  pub hello_sent : level_of node request.joiner ≡ None → IsSent acted.sent own request.joiner (hello_body (hello_made node request))
  hello_sent none =
      sent_among own request.joiner (hello_body (hello_made node request)) acted.sent (found.1.greets (ap is_none none))

  pub pins_offered : level_of node request.joiner ≡ None → (t : List ℕ) → link_to node t ≡ Some Pin → (t ≡ request.joiner → ⊥)
      → AmongOffered t (hello_made node request).links
  pins_offered none t pin other =
      let cover = cover_of table (level_of node request.joiner) request.joiner request.prefix request.level in
      let got = pin_offered table is_table request.watch cover (ap is_none none) t other
      (other_link node request.joiner ties is_name fits t other ∙ pin) in
      offered_got t false (made_offer node request) got.0 got.1

  greets : level_of node request.joiner ≡ None → Greets node acted.sent own request.joiner
  greets none = record {
    fields = hello_made node request;
    sends = hello_sent none;
    is_core = refl;
    pins = pins_offered none;
  }

  pub covers_anew : CoversAnew node acted.state acted.sent own request.joiner request.prefix request.level
  covers_anew =
      let test = fresh (level_of node request.joiner) request.level anew in
      let kept = cover_anew node.covers table request.watch request.joiner request.prefix request.level test in
      record {
        anew = anew;
        status = step.status;
        pinned = step.pins.pinned;
        linked = none_or_pin (link_to node request.joiner) fits.pin;
        links = step.pins.others;
        covered = ap (λ c. level_kept c request.joiner) found.0 ∙ kept.1;
        covers = λ d. elim (same_name d request.joiner) [
          | inl same ↦ inl same
          | inr other ↦ inr (ap (λ c. level_kept c d) found.0
              ∙ others_keep node.covers table request.watch request.joiner request.prefix request.level d other)
        ];
        pins = pins;
        primaries = primaries;
        introduces = introduces;
        greets = greets;
      }
