-- Whoever a node links to, and whoever a frame under way could have it link to, is a node; so these are at most 255.
use Rattle.std.proofs.Common.{◌≡◌, ◌≢◌, ℕ, ◌≤◌, List, [], ◌∷◌, Option, None, Some, All, get_or, length, map, arith, refl, subst, sym, inl, inr}
use Rattle.std.proofs.lemmas.Bool.{cases_Bool}
use Rattle.std.proofs.lemmas.List.Kept.{AllPairs-cons}
use Rattle.tap_name.specs.Names.{Among, AreDistinct}
use Rattle.tap_name.specs.Settings.{SettingsValue}
use Rattle.tap_name.specs.declared.slot.Offered.{Offered}
use Rattle.tap_name.proofs.Membership.{among_at, few_among}
use Rattle.tap_link.specs.declared.kind.Kind.{Kind}
use Rattle.tap_link.specs.declared.kind.Kind.TheVariants.{Leaving as LeavingKind, Pin, Settled}
use Rattle.tap_wire.specs.declared.frame.Body.{Body}
use Rattle.tap_wire.specs.declared.frame.Body.TheVariants.{Leave, Seek}
use Rattle.tap_rule.specs.Fit.{CouldLink, MayLink}
use Rattle.tap_rule.specs.RuleLaws.{frame_to}
use Rattle.tap_rule.specs.Node.{NodeState, link_to, name_of}
use Rattle.tap_rule.specs.Sent.{IsAmong}
use Rattle.tap_safety.specs.Frames.{HelloFields, hello_body, tell_body}
use Rattle.tap_safety.specs.Invariant.{Basis}
use Rattle.tap_safety.specs.Remembered.{Leaver}
use Rattle.tap_safety.specs.Seeking.{HasNode}
use Rattle.tap_safety.specs.Soft.{IsSoft}
use Rattle.tap_safety.specs.System.{System, HasLink, IsCoreNode, IsUnderWay}
use Rattle.tap_safety.proofs.LinkKeeps.{some_state}
use Rattle.tap_safety.proofs.Said.{Said, said_of}
use Rattle.tap_safety.proofs.Said.Said.{IsHello, IsLeave, IsSeek, IsTell}
use Rattle.tap_safety_moves.specs.Arrivals.{Arrives}
use Rattle.tap_safety_moves.proofs.Takers.{way}

core_node : (s : System) (x : List ℕ) → IsCoreNode s x → HasNode s x
core_node s x core = record { state = core.state; is = core.is }

soft_node : (s : System) (x : List ℕ) → IsSoft s x → HasNode s x
soft_node s x (inl joiner) = record { state = joiner.state; is = joiner.is }
soft_node s x (inr (inl core)) = core_node s x core
soft_node s x (inr (inr ceased)) = record { state = ceased.state; is = ceased.is }

-- a name among those of links is the name of one of them
named_link : (name : List ℕ) (links : List Offered) → Among name (map (λ link. link.name) links)
    → (offered : Offered) × IsAmong offered links × (name ≡ offered.name)
named_link name [] among = absurd among
named_link name (first ∷ links) (inl is) = (first, inl refl, is)
named_link name (first ∷ links) (inr later) = let found = named_link name links later in (found.0, inr found.1, found.2)

module _ (p : SettingsValue) (s : System) (inv : Basis p s) where
  -- a marked link is to the one that departs, which leaves or is gone
  marked_node : (x t : List ℕ) → HasLink s x t LeavingKind → HasNode s t
  marked_node x t link = by_departing s.departing refl
    where
      by_departing : (departing : Option Leaver) → s.departing ≡ departing → HasNode s t
      by_departing None none = absurd (inv.departure.marked x t none link)
      by_departing (Some leaver) departs =
          let during = inv.departure.during leaver departs in
          subst (HasNode s) (sym (during.marked x t link)) (elim during.ends [
            | inl leaves ↦ let found = some_state s leaver.name _ leaves in record { state = found.0; is = found.1 }
            | inr gone ↦ let found = some_state s leaver.name _ gone in record { state = found.0; is = found.1 }
          ])

  linked_node : (x t : List ℕ) (kind : Kind) → HasLink s x t kind → HasNode s t
  linked_node x t Pin link = soft_node s t (inv.soft.pins x t link)
  linked_node x t Settled link = core_node s t (inv.soft.settled x t link)
  linked_node x t LeavingKind link = marked_node x t link

  offered_node : (from to : List ℕ) (hello : HelloFields) → IsUnderWay s from to (hello_body hello) → (offered : Offered)
      → IsAmong offered hello.links → HasNode s offered.name
  offered_node from to hello here offered among =
      let sound = inv.soft.hellos from to hello here offered (inr among) in
      elim (cases_Bool offered.settled) [
        | inl settled ↦ core_node s offered.name (sound.core settled)
        | inr joins ↦ soft_node s offered.name (sound.soft joins)
      ]

module _ (p : SettingsValue) (s : System) (number : ℕ) (node : NodeState) (from : List ℕ) where
  -- a name of a Hello: its sender, or one that it offers
  hello_could : (hello : HelloFields) → Arrives p s number node from (hello_body hello) → (name : List ℕ)
      → CouldLink from (hello_body hello) name → HasNode s name
  hello_could hello is name (inl sender) =
      subst (HasNode s) (sym sender) (is.invariant.ends.known number (frame_to node from (hello_body hello)) is.among).0
  hello_could hello is name (inr offered) =
      let found = named_link name hello.links offered in
      subst (HasNode s) (sym found.2)
      (offered_node p s is.invariant from (name_of node) hello (way p s number node from (hello_body hello) is) found.0 found.1)

  could_node : {body : Body} → Said body → Arrives p s number node from body → (name : List ℕ) → CouldLink from body name → HasNode s name
  could_node (IsSeek joiner) is name same =
      let seeker = is.invariant.seekers.seeks from (name_of node) joiner (way p s number node from (Seek joiner) is) in
      subst (HasNode s) (sym same) (record { state = seeker.state; is = seeker.is })
  could_node (IsTell tell watch) is name same =
      let here = way p s number node from (tell_body tell watch) is in
      subst (HasNode s) (sym same) (soft_node s tell.joiner (inl (is.invariant.tells.each from (name_of node) tell watch here).joiner))
  could_node (IsHello hello) is name could = hello_could hello is name could
  could_node (IsLeave replacement) is name given =
      let here = way p s number node from (Leave replacement) is in
      core_node s name (is.invariant.soft.leaves from (name_of node) name
      (subst (λ r. IsUnderWay s from (name_of node) (Leave r)) given here))
  could_node _ is name could = absurd could

  module _ (body : Body) (is : Arrives p s number node from body) where
    kind_node : (name : List ℕ) (found : Option Kind) → link_to node name ≡ found → found ≢ None → HasNode s name
    kind_node name None none some = absurd (some refl)
    kind_node name (Some kind) found some =
        linked_node p s is.invariant (name_of node) name kind (record { state = node; is = is.at; link = found })

    linked_or_could : (name : List ℕ) → MayLink node (frame_to node from body) name → HasNode s name
    linked_or_could name may = elim may.linked [
      | inl linked ↦ kind_node name (link_to node name) refl linked
      | inr could ↦ could_node (said_of body) is name could
    ]

    -- with the node itself they are at most 256
    pub few_linked : (names : List (List ℕ)) → AreDistinct names
        → ((name : List ℕ) → Among name names → MayLink node (frame_to node from body) name) → length names ≤ 255
    few_linked names distinct may =
        let own = name_of node in
        let others : All (λ name. own ≢ name) names =
        λ k d within same. (may (get_or names k d) (among_at names k d within)).apart (sym same) in
        let all : AreDistinct (own ∷ names) = AllPairs-cons (λ a b. a ≢ b) own names others distinct in
        let most = few_among (own ∷ names) is.invariant.few.names all (λ name among. elim among [
          | inl mine ↦ is.invariant.few.all name (subst (HasNode s) (sym mine) (record { state = node; is = is.at }))
          | inr other ↦ is.invariant.few.all name (linked_or_could name (may name other))
        ]) in
        let at_most = is.invariant.few.few in
        omega (arith, most, at_most)
