-- What a rule is to leave and send: a node that speaks of names, and frames that have spellings; and what a cover offers and tells.
-- Cited above: IsForName, IsSpelled
use Rattle.std.proofs.Common.{◌≡◌, ◌≢◌, ℕ, ◌+◌, ◌<◌, ◌≤◌, Bool, cond, not, List, [], ◌∷◌, length, map, filter, Option, None, Some, is_none, All, true, false, arith, refl, ap, ◌∙◌, inl, inr}
use Rattle.std.specs.Prelude.{AllPairs}
use Rattle.std.specs.Ordering.{nat_cmp}
use Rattle.std.specs.Cmp.Lexicographic.{slice_cmp}
use Rattle.std.specs.declared.cmp.Ordering.TheVariants.{Less}
use Rattle.std.proofs.lemmas.Bool.{cases_Bool}
use Rattle.std.proofs.lemmas.List.{get_or-map, length-map}
use Rattle.std.proofs.lemmas.List.Elements.{All-append, All-cons, All-filter, All-head, All-map, All-nil, All-tail}
use Rattle.tap_name.specs.Name.{IsName}
use Rattle.tap_name.specs.Order.{AreAscending}
use Rattle.tap_name.specs.Prefix.{lcp}
use Rattle.tap_name.specs.Settings.{SettingsValue}
use Rattle.tap_name.specs.declared.slot.Offered.{Offered}
use Rattle.tap_name.specs.declared.slot.Slot.{Slot}
use Rattle.tap_link.specs.Entry.{LinkEntry}
use Rattle.tap_link.specs.declared.kind.Kind.{Kind}
use Rattle.tap_link.specs.declared.kind.Kind.TheVariants.{Leaving as LeavingKind, Pin, Settled}
use Rattle.tap_link.proofs.TargetKinds.{kind_pinned}
use Rattle.tap_register.specs.declared.registers.Entry.{Entry}
use Rattle.tap_table.specs.ByName.{by_name, targets_by_name}
use Rattle.tap_table.specs.Levels.{is_kept}
use Rattle.tap_table.specs.Table.{IsTable, TableValue, pinned as table_pinned}
use Rattle.tap_table.specs.declared.tie.Tie.{Tie}
use Rattle.tap_table.specs.Ties.{AreTies, TiesValue, holders_on, off_ties, stamp_after, tie_where}
use Rattle.tap_table.proofs.KeptTable.{IsTable-pinned}
use Rattle.tap_table.proofs.LookUps.{kind_in-pinned, of_itself}
use Rattle.tap_multicast.specs.declared.covers.Covered.{Covered}
use Rattle.tap_multicast.specs.declared.covers.Covered.TheVariants.{Already, Now}
use Rattle.tap_multicast.specs.declared.target.Target.{Target}
use Rattle.tap_multicast.specs.Covers.{MayCover, begun_cover, cover_of, level_kept}
use Rattle.tap_multicast.specs.Offer.{answers, is_offered, left, offer, offered_as}
use Rattle.tap_multicast.specs.Targets.{targets}
use Rattle.tap_multicast.proofs.Offers.{IsOffered, offer_ascends, offers_are}
use Rattle.tap_multicast.proofs.Regions.{prefix_within, targets_near}
use Rattle.tap_multicast.proofs.Telling.{targets_are}
use Rattle.tap_table.proofs.Found.{linked_is_name}
use Rattle.tap_join.specs.Hello.{is_own, links_tell, offered_tells, with_offered, words_of}
use Rattle.tap_wire.specs.Spelling.{AreLinks, AreSlots, IsBody, IsTell}
use Rattle.tap_rule.specs.Answers.{next_number}
use Rattle.tap_rule.specs.Covering.{Request}
use Rattle.tap_rule.specs.KeptNode.{IsNode}
use Rattle.tap_rule.specs.Node.{NodeState, Status, ended, link_to, name_of, settings_of}
use Rattle.tap_rule.specs.Reaction.{Message, Reaction}
use Rattle.tap_rule.specs.Strange.{is_no_pin}
use Rattle.tap_rule.proofs.Cases.{turn_for}
use Rattle.tap_rule.proofs.KeptNode.{joiner_law}
use Rattle.tap_moves.specs.KnownNames.{IsNamedPair, IsParent, KnowsNames}
use Rattle.tap_moves.proofs.FewLinks.{none_linked}
use Rattle.tap_moves.proofs.Spelled.{IsNamedLay}

-- ---- what a rule has a node do

module _ (p : SettingsValue) where
  -- a message to a name, whose body keeps the rules of its fields
  pub record IsSpelledMessage (m : Message) : Type 0 where
    pub to : IsName p m.to
    pub body : IsBody p m.body

  abbrev pub IsForName : Tie → Type 0
  IsForName word = IsName p word.to

  -- the node that a rule leaves speaks of names, and so do its words, messages and Lays
  pub record IsSpelled (r : Reaction) : Type 0 where
    pub knows : KnowsNames p r.state
    pub words : All IsForName r.words
    pub messages : All IsSpelledMessage r.messages
    pub lays : All (IsNamedLay p) r.lays

  -- the word for a name
  pub word_named : (told : Bool) (to : List ℕ) (version : ℕ) (on : Bool) → IsName p to
      → All IsForName (words_of (tie_where told to version on))
  word_named true to version on name = All-cons IsForName (record { to = to; version = version; on = on }) [] name (All-nil IsForName)
  word_named false to version on name = All-nil IsForName

  -- the words for these names that there is no link any more
  pub off_named : (last : ℕ) (names : List (List ℕ)) → All (IsName p) names → All IsForName (off_ties last names)
  off_named last [] all = All-nil IsForName
  off_named last (name ∷ names) all =
      All-cons IsForName (record { to = name; version = last + 1; on = false }) (off_ties (last + 1) names)
      (All-head (IsName p) name names all) (off_named (last + 1) names (All-tail (IsName p) name names all))

  -- the words that a Hello makes a node give
  offered_named : (ties : TiesValue) (last : ℕ) (link : Offered) → IsName p link.name → All IsForName (words_of (offered_tells ties last link))
  offered_named ties last link name =
      elim (cases_Bool (is_own ties link)) [
        | inl own ↦ rw own (All-nil IsForName)
        | inr apart ↦ elim (cases_Bool link.settled) [
          | inl settled ↦ rw (apart, settled) (word_named _ link.name (last + 1) true name)
          | inr joining ↦ rw (apart, joining) (word_named _ link.name (last + 1) true name)
        ]
      ]

  pub hello_named : (links : List Offered) (ties : TiesValue) (last : ℕ) → All (λ link. IsName p link.name) links
      → All IsForName (links_tell ties last links)
  hello_named [] ties last all = All-nil IsForName
  hello_named (link ∷ links) ties last all =
      let word = offered_tells ties last link in
      All-append IsForName (words_of word) (links_tell (with_offered ties link) (stamp_after last word) links)
      (offered_named ties last link (All-head (λ link. IsName p link.name) link links all))
      (hello_named links (with_offered ties link) (stamp_after last word) (All-tail (λ link. IsName p link.name) link links all))

-- a node that has ended
pub ended_knows : (node : NodeState) (status : Status) → IsNode node → KnowsNames (settings_of node) node
    → KnowsNames (settings_of node) (ended status node)
ended_knows node status is has =
    let p = settings_of node in
    let table = (joiner_law p (name_of node) is.ties.table.limits is.ties.table.owner).ties.table in
    let none = ap length (none_linked p (name_of node) table) in
    record {
      parents = has.parents;
      cast_parents = All-nil (λ s. IsParent p s.parent);
      pairs = All-nil (IsNamedPair p);
      few = omega (arith, none);
    }

-- the holders that are on are names
pub holders_named : (ties : TiesValue) → AreTies ties → All (IsName ties.table.settings) (holders_on ties)
holders_named ties are =
    All-map (IsName ties.table.settings) (λ (e : Entry (List ℕ) Bool). e.key) (filter (λ e. e.value) ties.holders)
    (All-filter (λ (e : Entry (List ℕ) Bool). e.value) (λ e. IsName ties.table.settings e.key) ties.holders are.names)

-- ---- covers

-- links that ascend by name do so as a Hello has them
links_ascend : (links : List Offered) → AreAscending (map (λ link. link.name) links)
    → AllPairs (λ a b. slice_cmp nat_cmp a.name b.name ≡ Less) links
links_ascend links ascend i j d before within =
    let len = length-map links (λ (link : Offered). link.name) in
    let at_i = get_or-map (λ (link : Offered). link.name) links i d d.name (omega arith) in
    let at_j = get_or-map (λ (link : Offered). link.name) links j d d.name (omega arith) in
    let below = ascend i j d.name before (omega (arith, len)) in
    rw (at_i, at_j) at below

-- what passes a test is no more than all
few_pass : {A : Type 0} (test : A → Bool) (xs : List A) → length (filter test xs) ≤ length xs
few_pass test [] = omega arith
few_pass test (x ∷ xs) =
    let rest = few_pass test xs in
    elim (cases_Bool (test x)) [ inl passes ↦ rw passes (omega (arith, rest)) | inr fails ↦ rw fails (omega (arith, rest)) ]

-- a link is a pin once a name is pinned to which there was none, or a pin
is_pin : (kind : Option Kind) → is_no_pin kind ≡ false → kind_pinned kind ≡ Some Pin
is_pin None fit = refl
is_pin (Some Pin) fit = refl
is_pin (Some Settled) fit = cc
is_pin (Some LeavingKind) fit = cc

-- a request of names, that fits the node that is to cover it
pub record IsSpelledRequest (node : NodeState) (request : Request) : Type 0 where
  pub is_name : IsName (settings_of node) request.joiner
  pub apart : request.joiner ≢ name_of node
  pub pin : is_no_pin (link_to node request.joiner) ≡ false
  pub parent : IsParent (settings_of node) request.parent
  pub few : length (targets_by_name (table_pinned node.ties.table request.joiner)) ≤ 255
  pub within : request.prefix ≤ request.level
  pub shared : request.prefix ≤ lcp (name_of node) request.joiner
  pub most : request.level ≤ (settings_of node).digits
  pub slots : AreSlots (settings_of node) request.prefix request.watch

-- a node that has pinned a joiner, and covers it
module _ (node : NodeState) (is : IsNode node) (request : Request) (fits : IsSpelledRequest node request) where
  abbrev p : SettingsValue
  p = settings_of node

  abbrev t : TableValue
  t = table_pinned node.ties.table request.joiner

  valid : IsTable t
  valid = IsTable-pinned node.ties.table request.joiner is.ties.table fits.is_name fits.apart

  may : MayCover t request.watch request.joiner request.prefix request.level
  may = record {
    pinned =
        kind_in-pinned node.ties.table request.joiner is.ties.table fits.is_name fits.apart request.joiner
        ∙ of_itself request.joiner kind_pinned (link_to node request.joiner) ∙ is_pin (link_to node request.joiner) fits.pin;
    within_level = fits.within;
    shared = fits.shared;
    within_digits = fits.most;
    watched = λ k d inside. record { level = fits.slots.levels k d inside; digit = fits.slots.digits k d inside };
  }

  -- what a cover offers, leaves and tells
  module _ (kept : Option ℕ) where
    abbrev offered : List Offered
    offered = offer t request.watch (cover_of t kept request.joiner request.prefix request.level)

    abbrev rest : List Slot
    rest = left t request.watch (cover_of t kept request.joiner request.prefix request.level)

    abbrev told : List Target
    told = targets t (cover_of t kept request.joiner request.prefix request.level)

    links_are : is_none kept ≡ true → AreLinks p offered
    links_are first =
        let given = few_pass (is_offered t request.watch request.joiner) (by_name t) in
        let picked = length-map (filter (is_offered t request.watch request.joiner) (by_name t)) offered_as in
        let most = fits.few in
        let links = length-map (by_name t) (λ (e : LinkEntry (List ℕ)). e.target) in
        let whole : length offered ≡ length (filter (is_offered t request.watch request.joiner) (by_name t)) =
        rw first picked in
        record {
          names = λ k d inside. offered_name (offers_are t valid request.watch (cover_of t kept request.joiner request.prefix request.level) first k d inside);
          ascending = links_ascend offered
              (offer_ascends t valid request.watch (cover_of t kept request.joiner request.prefix request.level) first);
          few = omega (arith, given, whole, links, most);
        }
      where
        offered_name : {link : Offered} → IsOffered t request.watch request.joiner link → IsName p link.name
        offered_name offered = elim offered.which [
          | inl pin ↦ linked_is_name t valid _ Pin pin.1
          | inr primary ↦ linked_is_name t valid _ Settled primary.1
        ]

    left_are : AreSlots p request.prefix rest
    left_are = elim (cases_Bool (is_none kept)) [
      | inl first ↦
          let test : Slot → Bool = λ slot. not (answers t request.joiner slot) in
          let fewer = few_pass test request.watch in
          let most_few = fits.slots.few in
          rw first (record {
            levels = All-filter test (λ slot. slot.level ≤ request.prefix) request.watch fits.slots.levels;
            digits = All-filter test (λ slot. slot.digit < p.base) request.watch fits.slots.digits;
            few = omega (arith, fewer, most_few);
          })
      | inr again ↦ rw again fits.slots
    ]

    tells_are : All (λ target. IsName p target.to × IsTell p request.joiner request.prefix target.level (next_number node)
        rest) told
    tells_are k d inside =
        let target = targets_are t valid (cover_of t kept request.joiner request.prefix request.level) k d inside in
        let near = targets_near t valid request.watch request.joiner request.prefix request.level may kept _ target in (
          near.is_name,
          record {
            joiner_is = fits.is_name;
            prefix_below = prefix_within t valid request.watch request.joiner request.prefix request.level may;
            level_above = near.above;
            level_most = near.within;
            session_least = omega arith;
            slots = left_are;
          },
        )

  -- so it is for each turn of the request
  abbrev pub IsSpelledTurn : Covered → Type 0
  IsSpelledTurn Already = Unit {0}
  IsSpelledTurn (Now first offered told rest) = (first ≡ true → AreLinks p offered)
      × All (λ target. IsName p target.to × IsTell p request.joiner request.prefix target.level (next_number node) rest) told

  pub turn_spelled : IsSpelledTurn (turn_for node request)
  turn_spelled = by_kept (level_kept node.covers request.joiner) (is_kept (level_kept node.covers request.joiner) request.level)
    where
      by_kept : (kept : Option ℕ) (already : Bool) → IsSpelledTurn
          (cond already Already (begun_cover t request.watch (cover_of t kept request.joiner request.prefix request.level)))
      by_kept kept true = tt
      by_kept kept false = (links_are kept, tells_are kept)
