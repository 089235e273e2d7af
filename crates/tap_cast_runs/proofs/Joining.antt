-- What a joining node has it keeps, or the slot is full.
use Rattle.std.proofs.Common.{◌≡◌, ◌≢◌, ◌⊎◌, ℕ, true, false, List, Option, None, Some, ap, refl, sym, subst, ◌∙◌, inl, inr}
use Rattle.std.proofs.lemmas.Bool.{cases_Bool}
use Rattle.tap_name.specs.Settings.{SettingsValue}
use Rattle.tap_link.specs.LinkSet.{is_pinned}
use Rattle.tap_link.specs.declared.kind.Kind.{Kind}
use Rattle.tap_link.specs.declared.kind.Kind.TheVariants.{Pin, Settled, Leaving as LeavingKind}
use Rattle.tap_name.specs.declared.slot.Offered.{Offered}
use Rattle.tap_table.specs.Table.{IsTable, TableValue, has_room_near, kind_in}
use Rattle.tap_table.specs.Ties.{TiesValue}
use Rattle.tap_join.proofs.Hellos.{AreTies-after_hello, IsServed, hello_links_stay, hello_serves, owner_stays, settings_stay}
use Rattle.tap_join.specs.Hello.{after_hello, hello_names}
use Rattle.tap_wire.specs.declared.frame.Body.{Body}
use Rattle.tap_wire.specs.declared.frame.Body.TheVariants.{Seek, Done, Release, Leave, Left, Gone, Forget}
use Rattle.tap_wire.specs.declared.frame.TellFields.{TellFields}
use Rattle.tap_rule.specs.FrameRules.{frame_at_joining, rule_of_frame}
use Rattle.tap_rule.specs.RuleLaws.{frame_to}
use Rattle.tap_rule.specs.Node.{NodeState, link_to, name_of, settings_of}
use Rattle.tap_rule.specs.Node.Status.{Joining, Core, Ceased}
use Rattle.tap_rule.specs.Sent.{IsAmong}
use Rattle.tap_rule.proofs.CarriedOut.{unruled_law}
use Rattle.tap_rule.proofs.EndSteps.{cease_law}
use Rattle.tap_rule.proofs.JoinSteps.{done_law, hello_law, meet_law, tell_fits}
use Rattle.tap_rule.proofs.LinkSteps.{forget_law, release_law}
use Rattle.tap_safety.specs.Frames.{HelloFields, hello_body, tell_body}
use Rattle.tap_safety.specs.System.{System}
use Rattle.tap_safety.proofs.Said.{Said}
use Rattle.tap_safety.proofs.Said.Said.{IsDone, IsForget, IsGone, IsHello, IsLeave, IsLeft, IsRelease, IsSeek, IsTell}
use Rattle.tap_moves.specs.ByRule.{taken_at}
use Rattle.tap_moves.specs.FrameLaws.{IsPlain}
use Rattle.tap_moves.specs.InvariantLaws.{IsDelivery}
use Rattle.tap_moves.proofs.CoverMade.{none_or_pin}
use Rattle.tap_moves.proofs.Got.{among_all}
use Rattle.tap_moves.proofs.InvariantMoves.{due, hello_names_are, sender_name, told_name}
use Rattle.tap_moves.proofs.Plain.{plain_alike}
use Rattle.tap_cast_runs.specs.Had.{HasFullSlot, IsHad}
use Rattle.tap_cast_runs.proofs.Full.{SettledStay, full_slot, full_slot_of}

-- what is settled stays, and each link but such as a Forget takes away, or its slot is full
pub record KeepsLinks (node after : NodeState) (forgotten : List ℕ → Type 0) : Type 0 where
  pub settled : SettledStay node after
  pub linked : (t : List ℕ) (kind : Kind) → link_to node t ≡ Some kind
      → IsHad (settings_of node) (name_of node) after t ⊎ forgotten t

-- nothing is forgotten
abbrev pub Nobody : List ℕ → Type 0
Nobody t = ⊥

links_stay : (node after : NodeState) → ((t : List ℕ) → link_to after t ≡ link_to node t) → KeepsLinks node after Nobody
links_stay node after same = record {
  settled = λ t is. same t ∙ is;
  linked = λ t kind is. inl (inl (kind, same t ∙ is));
}

pin_is : (kind : Option Kind) → is_pinned kind ≡ true → kind ≡ Some Pin
pin_is None is = cc
pin_is (Some Pin) is = refl
pin_is (Some Settled) is = cc
pin_is (Some LeavingKind) is = cc

no_pin : (kind : Option Kind) → kind ≡ Some Settled → is_pinned kind ≡ false
no_pin kind is = ap is_pinned is

module _ (p : SettingsValue) (s : System) (number : ℕ) (node : NodeState) (from : List ℕ) where
  abbrev left_by_taking : Body → NodeState
  left_by_taking body = (taken_at node from body).state

  tell_keeps : (tell : TellFields) (watch : List _) → IsDelivery p s number node from (tell_body tell watch) → node.status ≡ Joining
      → KeepsLinks node (left_by_taking (tell_body tell watch)) Nobody
  tell_keeps tell watch is at =
      let ties = (due p s number node from (tell_body tell watch) is).is_node.ties in
      let step = meet_law node from tell watch ties (told_name p s number node from tell watch is) at is.known in
      let fits = tell_fits node from tell watch is.known in
      record {
        settled = λ t settled.
            elim (step.pins.others t) [
              | inl same ↦
                  let there : link_to node tell.joiner ≡ Some Settled = ap (link_to node) (sym same) ∙ settled in
                  elim (none_or_pin (link_to node tell.joiner) fits.pin) [
                    | inl none ↦ let wrong : Some Settled ≡ None = sym there ∙ none in absurd (cc)
                    | inr pin ↦ let wrong : Some Settled ≡ Some Pin = sym there ∙ pin in absurd (cc)
                  ]
              | inr stays ↦ stays ∙ settled
            ];
        linked = λ t kind link.
            elim (step.pins.others t) [
              | inl same ↦ inl (inl (Pin, ap (link_to (left_by_taking (tell_body tell watch))) same ∙ step.pins.pinned))
              | inr stays ↦ inl (inl (kind, stays ∙ link))
            ];
      }

  module _ (hello : HelloFields) (is : IsDelivery p s number node from (hello_body hello)) (at : node.status ≡ Joining) where
    abbrev after_it : NodeState
    after_it = left_by_taking (hello_body hello)

    hello_stays : (t : List ℕ) (kind : Kind) → link_to node t ≡ Some kind → link_to after_it t ≡ Some kind
    hello_stays t kind link =
        let ties = (due p s number node from (hello_body hello) is).is_node.ties in
        let step = hello_law node from hello at is.known in
        ap (λ (one : TiesValue). kind_in one.table t) step.ties
        ∙ hello_links_stay (settings_of node) (name_of node) node.ties (ties, refl, refl) from hello.is_core hello.links
        (sender_name p s number node from (hello_body hello) is) (hello_names_are p s number node from hello is) t kind link

    hello_keeps : KeepsLinks node after_it Nobody
    hello_keeps = record {
      settled = λ t settled. hello_stays t Settled settled;
      linked = λ t kind link. inl (inl (kind, hello_stays t kind link));
    }

    abbrev left_ties : TiesValue
    left_ties = after_hello node.ties from hello.is_core hello.links

    by_served : (name : List ℕ) → ((kind : Kind) × (kind_in left_ties.table name ≡ Some kind))
        ⊎ (has_room_near left_ties.table name ≡ false) → IsHad (settings_of node) (name_of node) after_it name
    by_served name serves =
        let ties = (due p s number node from (hello_body hello) is).is_node.ties in
        let step = hello_law node from hello at is.known in
        let names = hello_names from hello.is_core hello.links in
        let valid : IsTable left_ties.table =
        (AreTies-after_hello (settings_of node) (name_of node) node.ties (ties, refl, refl) from hello.is_core hello.links
        (sender_name p s number node from (hello_body hello) is) (hello_names_are p s number node from hello is)).table in
        let look = λ (t : List ℕ). ap (λ (one : TiesValue). kind_in one.table t) step.ties in
        elim serves [
          | inl has ↦ inl (has.0, look name ∙ has.1)
          | inr full ↦
              let slot = full_slot_of left_ties.table after_it name valid (λ x settled. look x ∙ settled) full in
              inr (subst (λ q. HasFullSlot q (name_of node) after_it name) (settings_stay names node.ties)
              (subst (λ own. HasFullSlot left_ties.table.settings own after_it name) (owner_stays names node.ties) slot))
        ]

    -- and it has each name that the Hello offers, but its own
    pub offered_had : (offered : Offered) → IsAmong offered (hello_names from hello.is_core hello.links) → offered.name ≢ name_of node
        → IsHad (settings_of node) (name_of node) after_it offered.name
    offered_had offered among apart =
        let ties = (due p s number node from (hello_body hello) is).is_node.ties in
        let serves = hello_serves (settings_of node) (name_of node) node.ties (ties, refl, refl) from hello.is_core hello.links
        (sender_name p s number node from (hello_body hello) is) (hello_names_are p s number node from hello is) in
        by_served offered.name
        (elim (among_all (λ (o : Offered). o.name ≢ name_of node → IsServed left_ties o)
        (hello_names from hello.is_core hello.links) serves offered among apart) [
          | inl has ↦ inl has
          | inr full ↦ inr full.1
        ])

  release_keeps : IsDelivery p s number node from Release → node.status ≡ Joining → KeepsLinks node (left_by_taking Release) Nobody
  release_keeps is at =
      let ties = (due p s number node from Release is).is_node.ties in
      let step = release_law node from ties (sender_name p s number node from Release is) (inl at) is.known in
      let after = left_by_taking Release in
      let stay : SettledStay node after = λ t settled.
      elim (step.others t) [
        | inl same ↦
            let there : link_to node from ≡ Some Settled = ap (link_to node) (sym same) ∙ settled in
            ap (link_to after) same ∙ step.unpinned (no_pin (link_to node from) there) ∙ there
        | inr stays ↦ stays ∙ settled
      ] in
      record {
        settled = stay;
        linked = λ t kind link.
            elim (step.others t) [
              | inr stays ↦ inl (inl (kind, stays ∙ link))
              | inl same ↦ elim (cases_Bool (is_pinned (link_to node from))) [
                | inr not_pinned ↦ inl (inl (kind, ap (link_to after) same ∙ step.unpinned not_pinned ∙ ap (link_to node) (sym same) ∙ link))
                | inl pinned ↦
                    let pin = pin_is (link_to node from) pinned in
                    elim (cases_Bool (has_room_near node.ties.table from)) [
                      | inl room ↦ inl (inl (Settled, ap (link_to after) same ∙ step.settles pin room))
                      | inr full ↦
                          inl (subst (IsHad (settings_of node) (name_of node) after) (sym same)
                          (inr (full_slot node after from ties.table stay full)))
                    ]
              ]
            ];
      }

  forget_keeps : IsDelivery p s number node from Forget → node.status ≡ Joining
      → KeepsLinks node (left_by_taking Forget) (λ t. t ≡ from)
  forget_keeps is at =
      let ties = (due p s number node from Forget is).is_node.ties in
      let step = forget_law node from ties (sender_name p s number node from Forget is) (inl at) is.known in
      let after = left_by_taking Forget in
      record {
        settled = λ t settled.
            elim (step.others t) [
              | inl same ↦
                  let there : link_to node from ≡ Some Settled = ap (link_to node) (sym same) ∙ settled in
                  ap (link_to after) same ∙ step.unpinned (no_pin (link_to node from) there) ∙ there
              | inr stays ↦ stays ∙ settled
            ];
        linked = λ t kind link. elim (step.others t) [ inl same ↦ inr same | inr stays ↦ inl (inl (kind, stays ∙ link)) ];
      }

  -- what no rule speaks of
  unruled_keeps : (body : Body) → rule_of_frame node.status node from body ≡ None → KeepsLinks node (left_by_taking body) Nobody
  unruled_keeps body none =
      let same = unruled_law node (frame_to node from body) none in
      links_stay node (left_by_taking body) (λ t. ap (λ (n : NodeState). link_to n t) same.state)

  plain_keeps : (body : Body) → IsDelivery p s number node from body → IsPlain node body → KeepsLinks node (left_by_taking body) Nobody
  plain_keeps body is plain =
      let alike = plain_alike node from body is.known plain in
      links_stay node (left_by_taking body) (λ t. ap (λ (table : TableValue). kind_in table t) alike.table)

  -- after its Done it joins no more
  done_ends : IsDelivery p s number node from Done → node.status ≡ Joining → (left_by_taking Done).status ≡ Joining → ⊥
  done_ends is at joins =
      elim (cases_Bool node.abandoned) [
        | inl given_up ↦
            let wrong : Joining ≡ Ceased = sym joins ∙ (cease_law node from at given_up is.known).status in cc
        | inr goes_on ↦ let wrong : Joining ≡ Core = sym joins ∙ (done_law node from at goes_on is.known).status in cc
      ]

-- whom a frame makes its taker forget
abbrev pub Forgotten : List ℕ → Body → List ℕ → Type 0
Forgotten from Forget t = t ≡ from
Forgotten from other t = ⊥

pub joining_keeps : (p : SettingsValue) (s : System) (number : ℕ) (node : NodeState) (from : List ℕ) (body : Body) → Said body
    → IsDelivery p s number node from body → node.status ≡ Joining → (taken_at node from body).state.status ≡ Joining
    → KeepsLinks node (taken_at node from body).state (Forgotten from body)
unfolding frame_at_joining
joining_keeps p s number node from _ (IsSeek joiner) is at joins = unruled_keeps p s number node from (Seek joiner) (rw at refl)
joining_keeps p s number node from _ (IsTell tell watch) is at joins = tell_keeps p s number node from tell watch is at
joining_keeps p s number node from _ (IsHello hello) is at joins = hello_keeps p s number node from hello is at
joining_keeps p s number node from _ IsDone is at joins = absurd (done_ends p s number node from is at joins)
joining_keeps p s number node from _ IsRelease is at joins = release_keeps p s number node from is at
joining_keeps p s number node from _ (IsLeave replacement) is at joins = unruled_keeps p s number node from (Leave replacement) (rw at refl)
joining_keeps p s number node from _ IsLeft is at joins = unruled_keeps p s number node from Left (rw at refl)
joining_keeps p s number node from _ IsGone is at joins = unruled_keeps p s number node from Gone (rw at refl)
joining_keeps p s number node from _ IsForget is at joins = forget_keeps p s number node from is at
joining_keeps p s number node from body _ is at joins = plain_keeps p s number node from body is tt
