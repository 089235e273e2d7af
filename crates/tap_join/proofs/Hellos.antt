-- What a Hello makes of the ties of a joining node.
-- Cited above: all_named, AreOf, AreTies-after_hello, hello_links_stay, hello_new_links, hello_serves, holders_stay, IsNamed, IsServed, links_stay,
-- named, new_links, of_one, offered_cases, owner_stays, settings_stay
use Rattle.std.proofs.Common.{◌≡◌, ◌≢◌, ◌⊎◌, ℕ, zero, suc, Bool, true, false, if◌then◌else◌, Option, None, Some, List, [], ◌∷◌, slice_get, All, ap, sym, refl, ◌∙◌, inl, inr}
use Rattle.std.proofs.lemmas.Bool.{cases_Bool}
use Rattle.std.proofs.lemmas.List.Elements.{All-cons, All-head, All-nil, All-tail}
use Rattle.std.proofs.lemmas.Slice.Eq.{bytes_eq-Decides}
use Rattle.tap_name.specs.declared.slot.Offered.{Offered}
use Rattle.tap_name.specs.Name.{IsName}
use Rattle.tap_name.specs.Settings.{SettingsValue}
use Rattle.tap_link.specs.declared.kind.Kind.{Kind}
use Rattle.tap_link.specs.declared.kind.Kind.TheVariants.{Pin, Settled}
use Rattle.tap_link.proofs.TargetKinds.{kind_offered, kind_pinned}
use Rattle.tap_table.specs.Table.{has_room_near, kind_in}
use Rattle.tap_table.specs.declared.tie.Tie.{Tie}
use Rattle.tap_table.specs.Ties.{AreTies, TiesValue, offer_tells, offered, pin_tells, pinned}
use Rattle.tap_table.proofs.LookUps.{by_rule, kind_in-offered, kind_in-pinned, of_itself}
use Rattle.tap_table.proofs.NewLinks.{offered_rule_new, pinned_rule_new}
use Rattle.tap_table.proofs.Primaries.{full_has_primary, primary_near}
use Rattle.tap_table.proofs.TiesKept.{AreTies-offered, AreTies-pinned}
use Rattle.tap_join.specs.Hello.{after_hello, after_links, hello_names, is_own, offered_tells, with_offered}
use Rattle.tap_join.proofs.NewKinds.{full_after_offer, full_after_pin, kept_by_rule, offered_has, pinned_has}

-- a name of a Hello is the node's own, or offered, or pinned, and its node is told accordingly
pub offered_cases : (P : TiesValue → Option Tie → Type 0) (ties : TiesValue) (last : ℕ) (link : Offered)
    → (link.name ≡ ties.table.owner → P ties None)
    → (link.name ≢ ties.table.owner → link.settled ≡ true → P (offered ties link.name) (offer_tells ties last link.name))
    → (link.name ≢ ties.table.owner → link.settled ≡ false → P (pinned ties link.name) (pin_tells ties last link.name))
    → P (with_offered ties link) (offered_tells ties last link)
offered_cases P ties last link own as_core as_joining =
    elim (cases_Bool (is_own ties link)) [
      | inl tied ↦ rw tied (own ((bytes_eq-Decides link.name ties.table.owner).0 tied))
      | inr untied ↦
          let apart : link.name ≢ ties.table.owner = λ same. let tied = (bytes_eq-Decides link.name ties.table.owner).1 same in
          let wrong : true ≡ false = sym tied ∙ untied in cc in
          elim (cases_Bool link.settled) [
            | inl core ↦ rw (untied, core) (as_core apart core)
            | inr joining ↦ rw (untied, joining) (as_joining apart joining)
          ]
    ]

with_offered_cases : (P : TiesValue → Type 0) (ties : TiesValue) (link : Offered) → (link.name ≡ ties.table.owner → P ties)
    → (link.name ≢ ties.table.owner → link.settled ≡ true → P (offered ties link.name))
    → (link.name ≢ ties.table.owner → link.settled ≡ false → P (pinned ties link.name)) → P (with_offered ties link)
with_offered_cases P ties link own as_core as_joining = offered_cases (λ t word. P t) ties 0 link own as_core as_joining

-- what each name of a list keeps, all of them keep
module _ (Good : Offered → Type 0) (P : TiesValue → Type 0)
    (step : (ties : TiesValue) (link : Offered) → Good link → P ties → P (with_offered ties link)) where
  pub kept_by_all : (links : List Offered) (ties : TiesValue) → All Good links → P ties → P (after_links ties links)
  kept_by_all [] ties good holds = holds
  kept_by_all (link ∷ links) ties good holds =
      kept_by_all links (with_offered ties link) (All-tail Good link links good) (step ties link (All-head Good link links good) holds)

-- owner, settings and holders stay
module _ {A : Type 0} (part : TiesValue → A) (by_offer : (ties : TiesValue) (name : List ℕ) → part (offered ties name) ≡ part ties)
    (by_pin : (ties : TiesValue) (name : List ℕ) → part (pinned ties name) ≡ part ties) where
  part_of_one : (ties : TiesValue) (link : Offered) → part (with_offered ties link) ≡ part ties
  part_of_one ties link =
      with_offered_cases (λ t. part t ≡ part ties) ties link (λ own. refl) (λ apart core. by_offer ties link.name)
      (λ apart joining. by_pin ties link.name)

  part_stays : (links : List Offered) (ties : TiesValue) → part (after_links ties links) ≡ part ties
  part_stays [] ties = refl
  part_stays (link ∷ links) ties = part_stays links (with_offered ties link) ∙ part_of_one ties link

pub owner_stays : (links : List Offered) (ties : TiesValue) → (after_links ties links).table.owner ≡ ties.table.owner
owner_stays links ties = part_stays (λ (t : TiesValue). t.table.owner) (λ t name. refl) (λ t name. refl) links ties

pub settings_stay : (links : List Offered) (ties : TiesValue) → (after_links ties links).table.settings ≡ ties.table.settings
settings_stay links ties = part_stays (λ (t : TiesValue). t.table.settings) (λ t name. refl) (λ t name. refl) links ties

pub holders_stay : (links : List Offered) (ties : TiesValue) → (after_links ties links).holders ≡ ties.holders
holders_stay links ties = part_stays (λ (t : TiesValue). t.holders) (λ t name. refl) (λ t name. refl) links ties

-- a node has a link to the name
abbrev pub HasLink : TiesValue → List ℕ → Type 0
HasLink ties name = (kind : Kind) × (kind_in ties.table name ≡ Some kind)

-- a name of a Hello is served: it has a link, or it is a core node's and its slot has all the settled links that it may have
abbrev pub IsServed : TiesValue → Offered → Type 0
IsServed ties link = HasLink ties link.name ⊎ ((link.settled ≡ true) × (has_room_near ties.table link.name ≡ false))

-- the kind that a name of a Hello has once it is taken, if it had no link
abbrev pub kind_given : Offered → Kind
kind_given link = if link.settled then Settled else Pin

module _ (p : SettingsValue) (owner : List ℕ) where
  -- the ties of this owner over these settings
  abbrev pub AreOf : TiesValue → Type 0
  AreOf ties = AreTies ties × (ties.table.settings ≡ p) × (ties.table.owner ≡ owner)

  abbrev pub IsNamed : Offered → Type 0
  IsNamed link = IsName p link.name

  module _ (ties : TiesValue) (link : Offered) (is_name : IsNamed link) (are : AreOf ties) where
    pub named : IsName ties.table.settings link.name
    named = rw are.1 is_name

    pub of_one : AreOf (with_offered ties link)
    of_one =
        with_offered_cases AreOf ties link (λ own. are)
        (λ apart core. (AreTies-offered ties link.name are.0 named apart, are.1, are.2))
        (λ apart joining. (AreTies-pinned ties link.name are.0 named apart, are.1, are.2))

    pub kind_stays : (other : List ℕ) (kind : Kind) → kind_in ties.table other ≡ Some kind
        → kind_in (with_offered ties link).table other ≡ Some kind
    kind_stays other kind is =
        with_offered_cases (λ t. kind_in t.table other ≡ Some kind) ties link (λ own. is)
        (λ apart core.
        let rule = kind_offered (has_room_near ties.table link.name) in
        kind_in-offered ties.table link.name are.0.table named apart other ∙ ap (by_rule link.name other rule) is
        ∙ kept_by_rule link.name other rule kind refl)
        (λ apart joining.
        kind_in-pinned ties.table link.name are.0.table named apart other ∙ ap (by_rule link.name other kind_pinned) is
        ∙ kept_by_rule link.name other kind_pinned kind refl)

    full_stays : (other : List ℕ) → has_room_near ties.table other ≡ false
        → has_room_near (with_offered ties link).table other ≡ false
    full_stays other full =
        with_offered_cases (λ t. has_room_near t.table other ≡ false) ties link (λ own. full)
        (λ apart core. full_after_offer ties.table link.name are.0.table named apart other full)
        (λ apart joining. full_after_pin ties.table link.name are.0.table named apart other full)

    -- the name itself is served
    served_now : link.name ≢ owner → IsServed (with_offered ties link) link
    served_now differs =
        with_offered_cases (λ t. IsServed t link) ties link (λ own. absurd (differs (own ∙ are.2)))
        (λ apart core.
        let room = has_room_near ties.table link.name in
        let here = kind_in-offered ties.table link.name are.0.table named apart link.name
        ∙ of_itself link.name (kind_offered room) (kind_in ties.table link.name) in
        elim (offered_has (kind_in ties.table link.name) room) [
          | inl has ↦ inl (has.0, here ∙ has.1)
          | inr full ↦ inr (core, full_after_offer ties.table link.name are.0.table named apart link.name full)
        ])
        (λ apart joining.
        let has = pinned_has (kind_in ties.table link.name) in
        inl (
          has.0,
          kind_in-pinned ties.table link.name are.0.table named apart link.name
              ∙ of_itself link.name kind_pinned (kind_in ties.table link.name)
              ∙ has.1,
        ))

    served_still : (other : Offered) → IsServed ties other → IsServed (with_offered ties link) other
    served_still other (inl has) = inl (has.0, kind_stays other.name has.0 has.1)
    served_still other (inr full) = inr (full.0, full_stays other.name full.1)

    -- a link after it was there before, or is a new one to this name
    new_of_one : (other : List ℕ) (kind : Kind) → kind_in (with_offered ties link).table other ≡ Some kind
        → (kind_in ties.table other ≡ Some kind) ⊎ ((other ≡ link.name) × (kind ≡ kind_given link))
    new_of_one other kind =
        with_offered_cases
        (λ t. kind_in t.table other ≡ Some kind → (kind_in ties.table other ≡ Some kind) ⊎ ((other ≡ link.name) × (kind ≡ kind_given link)))
        ties
        link
        (λ own is. inl is)
        (λ apart core is. let room = has_room_near ties.table link.name in
        let ruled = sym (kind_in-offered ties.table link.name are.0.table named apart other) ∙ is in
        rw core (elim (offered_rule_new link.name other room (kind_in ties.table other) kind ruled) [
          | inl was ↦ inl was
          | inr new ↦ inr (new.0, new.1)
        ]))
        (λ apart joining is. rw joining (pinned_rule_new link.name other (kind_in ties.table other) kind
        (sym (kind_in-pinned ties.table link.name are.0.table named apart other) ∙ is)))

  keeps_of : (ties : TiesValue) (link : Offered) → IsNamed link → AreOf ties → AreOf (with_offered ties link)
  keeps_of ties link is_name are = of_one ties link is_name are

  -- after all names of a list: what ties keep is kept
  pub are_after : (links : List Offered) (ties : TiesValue) → All IsNamed links → AreOf ties → AreOf (after_links ties links)
  are_after links ties names are = kept_by_all IsNamed AreOf keeps_of links ties names are

  -- each link stays, with its kind
  pub links_stay : (links : List Offered) (ties : TiesValue) → All IsNamed links → AreOf ties → (other : List ℕ) (kind : Kind)
      → kind_in ties.table other ≡ Some kind → kind_in (after_links ties links).table other ≡ Some kind
  links_stay links ties names are other kind is =
      (kept_by_all IsNamed (λ t. AreOf t × (kind_in t.table other ≡ Some kind))
      (λ t link is_name both. (of_one t link is_name both.0, kind_stays t link is_name both.0 other kind both.1))
      links ties names (are, is)).1

  served_after : (links : List Offered) (ties : TiesValue) → All IsNamed links → AreOf ties → (other : Offered) → IsServed ties other
      → IsServed (after_links ties links) other
  served_after links ties names are other served =
      (kept_by_all IsNamed (λ t. AreOf t × IsServed t other)
      (λ t link is_name both. (of_one t link is_name both.0, served_still t link is_name both.0 other both.1))
      links ties names (are, served)).1

  -- and each name of the list but the owner's has a link, or is a core node's and its slot is full
  pub all_served : (links : List Offered) (ties : TiesValue) → All IsNamed links → AreOf ties
      → All (λ link. link.name ≢ owner → IsServed (after_links ties links) link) links
  all_served [] ties names are = All-nil (λ link. link.name ≢ owner → IsServed ties link)
  all_served (link ∷ links) ties names are =
      let is_name = All-head IsNamed link links names in
      let others = All-tail IsNamed link links names in
      let next = of_one ties link is_name are in
      All-cons (λ other. other.name ≢ owner → IsServed (after_links (with_offered ties link) links) other) link links
      (λ apart. served_after links (with_offered ties link) others next link (served_now ties link is_name are apart))
      (all_served links (with_offered ties link) others next)

  -- a link after was there before, or is a new one to a name of the list, of the kind that its flag gives
  pub new_links : (links : List Offered) (ties : TiesValue) → All IsNamed links → AreOf ties → (other : List ℕ) (kind : Kind)
      → kind_in (after_links ties links).table other ≡ Some kind
      → (kind_in ties.table other ≡ Some kind)
      ⊎ ((i : ℕ) × (link : Offered) × (slice_get links i ≡ Some link) × (other ≡ link.name) × (kind ≡ kind_given link))
  new_links [] ties names are other kind is = inl is
  new_links (link ∷ links) ties names are other kind is =
      let is_name = All-head IsNamed link links names in
      let others = All-tail IsNamed link links names in
      elim (new_links links (with_offered ties link) others (of_one ties link is_name are) other kind is) [
        | inl one ↦ elim (new_of_one ties link is_name are other kind one) [
          | inl was ↦ inl was
          | inr new ↦ inr (zero, link, refl, new.0, new.1)
        ]
        | inr later ↦ inr (suc later.0, later.1, later.2, later.3, later.4)
      ]

  module _ (ties : TiesValue) (are : AreOf ties) (from : List ℕ) (core : Bool) (links : List Offered)
      (sender : IsName p from) (names : All IsNamed links) where
    pub all_named : All IsNamed (hello_names from core links)
    all_named = All-cons IsNamed (record { name = from; settled = core }) links sender names

    -- after a Hello: what ties keep is kept, each link stays, and its sender and its links are served
    pub AreTies-after_hello : AreTies (after_hello ties from core links)
    AreTies-after_hello = (are_after (hello_names from core links) ties all_named are).0

    pub hello_links_stay : (other : List ℕ) (kind : Kind) → kind_in ties.table other ≡ Some kind
        → kind_in (after_hello ties from core links).table other ≡ Some kind
    hello_links_stay = links_stay (hello_names from core links) ties all_named are

    -- a link after it was there before, or is a new one to the sender or to a name of its list, of the kind that the flag gives
    pub hello_new_links : (other : List ℕ) (kind : Kind) → kind_in (after_hello ties from core links).table other ≡ Some kind
        → (kind_in ties.table other ≡ Some kind)
        ⊎ ((i : ℕ) × (link : Offered) × (slice_get (hello_names from core links) i ≡ Some link) × (other ≡ link.name)
        × (kind ≡ kind_given link))
    hello_new_links = new_links (hello_names from core links) ties all_named are

    pub hello_serves : All (λ link. link.name ≢ owner → IsServed (after_hello ties from core links) link) (hello_names from core links)
    hello_serves = all_served (hello_names from core links) ties all_named are

  -- a name that is served because its slot is full has a settled link in its slot that isn't leaving
  pub served_has_link : (ties : TiesValue) (link : Offered) → AreTies ties → IsServed ties link
      → HasLink ties link.name ⊎ ((first : List ℕ) × (primary_near ties.table link.name ≡ Some first))
  served_has_link ties link are (inl has) = inl has
  served_has_link ties link are (inr full) = inr (full_has_primary ties.table link.name are.table full.1)
