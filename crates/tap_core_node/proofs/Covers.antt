-- What is covered of a joiner keeps the rules of the frames that say so.
use Rattle.std.proofs.Common.{◌≡◌, ◌≢◌, ◌-◌, ◌*◌, ◌+◌, ℕ, ◌<◌, ◌≤◌, Bool, List, length, filter, Option, None, Some, All, not, true, false, arith, refl, sym, subst, ◌∙◌, inl, inr}
use Rattle.std.specs.Option.{is_none}
use Rattle.std.proofs.lemmas.Bool.{cases_Bool, true≢false}
use Rattle.std.proofs.lemmas.Nat.{mul-le}
use Rattle.std.proofs.lemmas.List.{get_or-map, length-map}
use Rattle.std.proofs.lemmas.List.Elements.{All-filter, All-nil}
use Rattle.std.proofs.lemmas.List.Sums.{count_by-le-length, length-filter}
use Rattle.tap_name.specs.declared.slot.Offered.{Offered}
use Rattle.tap_name.specs.declared.slot.Slot.{Slot}
use Rattle.tap_name.specs.Name.{IsName}
use Rattle.tap_name.specs.Prefix.{lcp}
use Rattle.tap_name.proofs.Prefixes.{lcp-is}
use Rattle.tap_name.proofs.Sorted.{distinct-from_ascending}
use Rattle.tap_watch.specs.Level.{full_slots}
use Rattle.tap_watch.specs.Watch.{IsWatched}
use Rattle.tap_watch.proofs.Watches.{IsWatch-full}
use Rattle.tap_link.specs.declared.kind.Kind.{Kind}
use Rattle.tap_link.specs.declared.kind.Kind.TheVariants.{Pin, Settled, Leaving}
use Rattle.tap_link.proofs.TargetKinds.{kind_pinned}
use Rattle.tap_link.specs.Entry.{LinkEntry}
use Rattle.tap_table.specs.ByName.{by_name, targets_by_name}
use Rattle.tap_table.specs.Table.{IsTable, TableValue, kind_in, pinned}
use Rattle.tap_table.proofs.Found.{linked_is_name, linked_is_other}
use Rattle.tap_table.proofs.KeptTable.{IsTable-pinned}
use Rattle.tap_table.proofs.LookUps.{kind_in-pinned, of_itself}
use Rattle.tap_table.proofs.NewLinks.{pinned_rule_new}
use Rattle.tap_table.proofs.Slots.{place_inside}
use Rattle.tap_table.proofs.Targets.{target_is_linked, targets-ascending}
use Rattle.tap_multicast.specs.declared.covers.Covered.{Covered}
use Rattle.tap_multicast.specs.declared.covers.Covered.TheVariants.{Already, Now}
use Rattle.tap_multicast.specs.declared.target.Target.{Target}
use Rattle.tap_multicast.specs.Covers.{CoversValue, MayCover, begun_cover, cover_of, covered, level_kept, with_cover}
use Rattle.tap_multicast.specs.Offer.{answers, is_offered, left, offer, offered_as}
use Rattle.tap_multicast.specs.Targets.{is_told, target_of, targets}
use Rattle.tap_multicast.proofs.Offers.{IsOffered, no_offer, offer_ascends, offers_are}
use Rattle.tap_multicast.proofs.Regions.{MayBeTold, targets_near}
use Rattle.tap_multicast.proofs.Telling.{targets_are}
use Rattle.tap_table.specs.Levels.{is_kept}
use Rattle.tap_wire.specs.declared.frame.Frame.{Frame}
use Rattle.tap_wire.specs.Layout.{most_links, most_slots}
use Rattle.tap_wire.specs.Spelling.{AreLinks, AreSlots}
use Rattle.tap_rule.specs.Fit.{CouldLink, IsFit}
use Rattle.tap_rule.specs.Node.{NodeState, link_to, name_of, settings_of}
use Rattle.tap_rule.specs.Strange.{is_no_pin}

-- some of a list are no more than all
pub few_filtered : {X : Type 0} (test : X → Bool) (xs : List X) → length (filter test xs) ≤ length xs
few_filtered test xs = let few = count_by-le-length test xs in let same = length-filter test xs in omega (arith, few, same)

-- a pin leaves a pin, if there was no other link
pin_left : (kind : Option Kind) → is_no_pin kind ≡ false → kind_pinned kind ≡ Some Pin
pin_left None pin = refl
pin_left (Some Pin) pin = refl
pin_left (Some Settled) pin = absurd (true≢false pin)
pin_left (Some Leaving) pin = absurd (true≢false pin)

module _ (t : TableValue) (valid : IsTable t) (joiner : List ℕ) (is_name : IsName t.settings joiner) (apart : joiner ≢ t.owner) where
  -- how many digits the joiner shares with the owner
  pub shared_within : lcp t.owner joiner < t.settings.digits
  shared_within =
      let inside = place_inside t.settings t.owner joiner valid.owner is_name apart in
      omega (arith, lcp-is t.owner joiner, inside.0)

  joiner_pinned : is_no_pin (kind_in t joiner) ≡ false → kind_in (pinned t joiner) joiner ≡ Some Pin
  joiner_pinned pin =
      kind_in-pinned t joiner valid is_name apart joiner ∙ of_itself joiner kind_pinned (kind_in t joiner)
      ∙ pin_left (kind_in t joiner) pin

  -- a node may cover the joiner that it has pinned: with a watch that was told, and as its surrogate
  pub told_may_cover : (watch : List Slot) (prefix level : ℕ) → is_no_pin (kind_in t joiner) ≡ false → prefix ≤ level
      → prefix ≤ lcp t.owner joiner → level ≤ t.settings.digits → AreSlots t.settings prefix watch
      → MayCover (pinned t joiner) watch joiner prefix level
  told_may_cover watch prefix level pin above shared most slots = record {
    pinned = joiner_pinned pin;
    within_level = above;
    shared = shared;
    within_digits = most;
    watched = λ k d within. record { level = slots.levels k d within; digit = slots.digits k d within };
  }

  pub surrogate_may_cover : is_no_pin (kind_in t joiner) ≡ false
      → MayCover (pinned t joiner) (full_slots t.settings joiner (lcp t.owner joiner)) joiner (lcp t.owner joiner) (lcp t.owner joiner)
  surrogate_may_cover pin =
      let prefix = lcp t.owner joiner in
      let inside = shared_within in
      let full = IsWatch-full t.settings joiner prefix in
      record {
        pinned = joiner_pinned pin;
        within_level = omega arith;
        shared = omega arith;
        within_digits = omega (arith, inside);
        watched = λ k d within.
            let watched : IsWatched t.settings joiner prefix _ = full.watched k d within in
            record { level = watched.level; digit = watched.digit };
      }

-- a full watch has no more slots than a Tell may have
pub full_is_few : (digits base prefix len : ℕ) → len ≡ (prefix + 1) * (base - 1) → prefix < digits → len ≤ digits * (base - 1)
full_is_few digits base prefix len is inside = rw is (mul-le (prefix + 1) (base - 1) digits (base - 1) (omega arith) (omega arith))

-- a frame that isn't strange leaves a node that pins a joiner few links
module _ (node : NodeState) (frame : Frame) (fit : IsFit node frame) (valid : IsTable node.ties.table) (joiner : List ℕ)
    (is_name : IsName (settings_of node) joiner) (apart : joiner ≢ name_of node) (could : CouldLink frame.from frame.body joiner) where
  abbrev after : TableValue
  after = pinned node.ties.table joiner

  pub few_pinned : length (targets_by_name after) ≤ most_links
  few_pinned =
      let kept = IsTable-pinned node.ties.table joiner valid is_name apart in
      fit.few (targets_by_name after) (distinct-from_ascending (targets_by_name after) (targets-ascending after kept)) (λ name among.
      let found = target_is_linked after kept name among in
      let new = pinned_rule_new joiner name (link_to node name) found.0
      (sym (kind_in-pinned node.ties.table joiner valid is_name apart name) ∙ found.1) in
      record {
        apart = linked_is_other after kept name found.0 found.1;
        linked = elim new [
          | inl was ↦ inl (λ none. let wrong : None ≡ Some found.0 = sym none ∙ was in cc)
          | inr joins ↦ inr (subst (CouldLink frame.from frame.body) (sym joins.0) could)
        ];
      })

-- a cover that is made now
module _ (covers : CoversValue) (t : TableValue) (watch : List Slot) (joiner : List ℕ) (prefix level : ℕ) where
  begun_is : (found : Covered) → covered covers t watch joiner prefix level ≡ found → found ≢ Already
      → found ≡ begun_cover t watch (cover_of t (level_kept covers joiner) joiner prefix level)
  begun_is found is new =
      elim (cases_Bool (is_kept (level_kept covers joiner) level)) [
        | inl kept ↦ let same : Already ≡ found = rw kept at is in absurd (new (sym same))
        | inr anew ↦
            let same : begun_cover t watch (cover_of t (level_kept covers joiner) joiner prefix level) ≡ found = rw anew at is in sym same
      ]

  -- one that is made already changes nothing
  pub already_same : covered covers t watch joiner prefix level ≡ Already → with_cover covers joiner level ≡ covers
  already_same is =
      elim (cases_Bool (is_kept (level_kept covers joiner) level)) [
        | inl kept ↦ rw kept refl
        | inr anew ↦ let wrong : begun_cover t watch (cover_of t (level_kept covers joiner) joiner prefix level) ≡ Already = rw anew at is in cc
      ]

  module _ (valid : IsTable t) (may : MayCover t watch joiner prefix level) where
    -- each target may be told
    all_told : All (MayBeTold t joiner prefix) (targets t (cover_of t (level_kept covers joiner) joiner prefix level))
    all_told = λ k d within.
        targets_near t valid watch joiner prefix level may (level_kept covers joiner) _
        (targets_are t valid (cover_of t (level_kept covers joiner) joiner prefix level) k d within)

    few_targets : length (targets_by_name t) ≤ most_links
        → length (targets t (cover_of t (level_kept covers joiner) joiner prefix level)) ≤ most_links
    few_targets few =
        let links = by_name t in
        let some = few_filtered (is_told t (cover_of t (level_kept covers joiner) joiner prefix level)) links in
        let len = length-map (filter (is_told t (cover_of t (level_kept covers joiner) joiner prefix level)) links) (target_of t.owner) in
        let all = length-map links (λ (e : LinkEntry (List ℕ)). e.target) in
        omega (arith, some, len, all, few)

    -- the watch that is left
    left_slots : length watch ≤ most_slots t.settings
        → AreSlots t.settings prefix (left t watch (cover_of t (level_kept covers joiner) joiner prefix level))
    left_slots few =
        let test : Slot → Bool = λ slot. not (answers t joiner slot) in
        let levels : All (λ slot. slot.level ≤ prefix) watch = λ k d within. (may.watched k d within).level in
        let digits : All (λ slot. slot.digit < t.settings.base) watch = λ k d within. (may.watched k d within).digit in
        let fewer = few_filtered test watch in
        elim (cases_Bool (is_none (level_kept covers joiner))) [
          | inl first ↦ rw first (record {
            levels = All-filter test (λ slot. slot.level ≤ prefix) watch levels;
            digits = All-filter test (λ slot. slot.digit < t.settings.base) watch digits;
            few = omega (arith, fewer, few);
          })
          | inr again ↦ rw again (record { levels = levels; digits = digits; few = few })
        ]

    -- and what is offered
    offered_named : (link : Offered) → IsOffered t watch joiner link → IsName t.settings link.name
    offered_named link is = elim is.which [
      | inl pin ↦ linked_is_name t valid link.name Pin pin.1
      | inr settled ↦ linked_is_name t valid link.name Settled settled.1
    ]

    links_of_first : length (targets_by_name t) ≤ most_links → is_none (level_kept covers joiner) ≡ true
        → AreLinks t.settings (offer t watch (cover_of t (level_kept covers joiner) joiner prefix level))
    links_of_first few first =
        let links = offer t watch (cover_of t (level_kept covers joiner) joiner prefix level) in
        let ascending = offer_ascends t valid watch (cover_of t (level_kept covers joiner) joiner prefix level) first in
        record {
          names = λ k d within.
              offered_named _ (offers_are t valid watch (cover_of t (level_kept covers joiner) joiner prefix level) first k d within);
          ascending = λ i j d before within.
              let len = length-map links (λ (l : Offered). l.name) in
              let at_i = get_or-map (λ (l : Offered). l.name) links i d d.name (omega arith) in
              let at_j = get_or-map (λ (l : Offered). l.name) links j d d.name (omega arith) in
              rw (at_i, at_j) at (ascending i j d.name before (omega arith));
          few =
              let all = by_name t in
              let some = few_filtered (is_offered t watch joiner) all in
              let len = length-map (filter (is_offered t watch joiner) all) offered_as in
              let whole = length-map all (λ (e : LinkEntry (List ℕ)). e.target) in
              rw first (omega (arith, some, len, whole, few));
        }

    offer_links : length (targets_by_name t) ≤ most_links
        → AreLinks t.settings (offer t watch (cover_of t (level_kept covers joiner) joiner prefix level))
    offer_links few = elim (cases_Bool (is_none (level_kept covers joiner))) [
      | inl first ↦ links_of_first few first
      | inr again ↦ rw (no_offer t watch (cover_of t (level_kept covers joiner) joiner prefix level) again) (record {
        names = All-nil (λ link. IsName t.settings link.name);
        ascending = λ i j d before within. absurd (omega arith);
        few = omega arith;
      })
    ]

    -- what a cover that is made now gives may be sent
    module _ (slots : length watch ≤ most_slots t.settings) (few : length (targets_by_name t) ≤ most_links) (first : Bool)
        (offered : List Offered) (told : List Target) (rest : List Slot)
        (is : covered covers t watch joiner prefix level ≡ Now first offered told rest) where
      begun_now : begun_cover t watch (cover_of t (level_kept covers joiner) joiner prefix level) ≡ Now first offered told rest
      begun_now = sym (begun_is (Now first offered told rest) is (λ wrong. cc))

      told_is : targets t (cover_of t (level_kept covers joiner) joiner prefix level) ≡ told
      told_is = let now = begun_now in cc

      offered_is : offer t watch (cover_of t (level_kept covers joiner) joiner prefix level) ≡ offered
      offered_is = let now = begun_now in cc

      rest_is : left t watch (cover_of t (level_kept covers joiner) joiner prefix level) ≡ rest
      rest_is = let now = begun_now in cc

      pub offer_now : AreLinks t.settings offered
      offer_now = subst (AreLinks t.settings) offered_is (offer_links few)

      pub named_now : All (λ target. IsName t.settings target.to) told
      named_now = subst (λ l. All (λ target. IsName t.settings target.to) l) told_is (λ k d within. (all_told k d within).is_name)

      pub above_now : All (λ target. prefix < target.level) told
      above_now = subst (λ l. All (λ target. prefix < target.level) l) told_is (λ k d within. (all_told k d within).above)

      pub within_now : All (λ target. target.level ≤ t.settings.digits) told
      within_now =
          subst (λ l. All (λ target. target.level ≤ t.settings.digits) l) told_is (λ k d within. (all_told k d within).within)

      pub slots_now : AreSlots t.settings prefix rest
      slots_now = subst (AreSlots t.settings prefix) rest_is (left_slots slots)

      pub few_now : length told ≤ most_links
      few_now = subst (λ (l : List Target). length l ≤ most_links) told_is (few_targets few)
