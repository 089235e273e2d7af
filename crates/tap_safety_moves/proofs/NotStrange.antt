-- A frame under way is strange to its receiver exactly if it is a copy of a cast at the greatest depth.
use Rattle.std.proofs.Common.{◌≡◌, ◌≢◌, ◌⊎◌, ℕ, List, Option, None, Some, true, false, arith, refl, subst, sym, ◌∙◌, inl, inr}
use Rattle.std.proofs.lemmas.Bool.{cases_Bool, eqb-false, true≢false}
use Rattle.std.proofs.lemmas.Bool.Decides.{eqb_tells}
use Rattle.tap_name.specs.Settings.{SettingsValue}
use Rattle.tap_name.specs.declared.slot.Slot.{Slot}
use Rattle.tap_link.specs.declared.kind.Kind.{Kind}
use Rattle.tap_link.specs.declared.kind.Kind.TheVariants.{Leaving as LeavingKind, Pin, Settled}
use Rattle.tap_wire.specs.declared.frame.Body.{Body}
use Rattle.tap_wire.specs.declared.frame.Body.TheVariants.{Seek}
use Rattle.tap_wire.specs.declared.frame.TellFields.{TellFields}
use Rattle.tap_rule.specs.Fit.{IsFit, IsFitBody, IsFitSeek, IsFitTell}
use Rattle.tap_rule.specs.RuleLaws.{frame_to}
use Rattle.tap_rule.specs.Node.{NodeState, level_of, link_to, name_of}
use Rattle.tap_rule.specs.Strange.{is_strange}
use Rattle.tap_rule.proofs.Fit.{fit_law}
use Rattle.tap_safety.specs.Frames.{tell_body}
use Rattle.tap_safety.specs.Seeking.{IsSeeker}
use Rattle.tap_safety.specs.System.{System, HasLink, IsCoreNode, IsJoiner}
use Rattle.tap_safety.proofs.CoverKept.{core_or_joiner}
use Rattle.tap_safety.proofs.Said.{Said, said_of}
use Rattle.tap_safety.proofs.Said.Said.{IsCast, IsSeek, IsTell}
use Rattle.tap_moves.proofs.InvariantMoves.{seeker_not_core}
use Rattle.tap_moves.proofs.Depths.{tells_shallow}
use Rattle.tap_safety_moves.specs.Arrivals.{Arrives, OthersAreDelivered, StrangeExactly, is_deepest_copy}
use Rattle.tap_safety_moves.proofs.FewLinked.{few_linked}
use Rattle.tap_safety_moves.proofs.Takers.{none_departs, seek_taker, way}

module _ (p : SettingsValue) (s : System) (number : ℕ) (node : NodeState) (from : List ℕ) where
  -- ---- a Seek

  seek_fits : (joiner : List ℕ) → Arrives p s number node from (Seek joiner) → IsFitSeek node joiner
  seek_fits joiner is = record { apart = apart; uncovered = by_level (level_of node joiner) refl; staying = staying }
    where
      seeker : IsSeeker s joiner
      seeker = is.invariant.seekers.seeks from (name_of node) joiner (way p s number node from (Seek joiner) is)

      apart : joiner ≢ name_of node
      apart same =
          let takes = seek_taker p s number node from joiner is in
          let core : IsCoreNode s (name_of node) = record { state = node; is = is.at; core = inl takes } in
          seeker_not_core s joiner seeker (subst (IsCoreNode s) (sym same) core)

      by_level : (level : Option ℕ) → level_of node joiner ≡ level → level_of node joiner ≡ None
      by_level None none = none
      by_level (Some level) kept =
          absurd ((is.invariant.seeking.unknown joiner seeker).covered (name_of node) level
          (record { state = node; is = is.at; cover = kept }))

      staying : link_to node joiner ≢ Some LeavingKind
      staying marked =
          (is.invariant.seeking.unknown joiner seeker).linked (name_of node)
          (record { kind = LeavingKind; link = record { state = node; is = is.at; link = marked } })

  -- ---- a Tell

  module _ (tell : TellFields) (watch : List Slot) (is : Arrives p s number node from (tell_body tell watch)) where
    -- a link to a joiner is a pin
    none_or_pin : IsJoiner s tell.joiner → (kind : Option Kind) → link_to node tell.joiner ≡ kind
        → (link_to node tell.joiner ≡ None) ⊎ (link_to node tell.joiner ≡ Some Pin)
    none_or_pin joins None none = inl none
    none_or_pin joins (Some Pin) pin = inr pin
    none_or_pin joins (Some Settled) settled =
        let link : HasLink s (name_of node) tell.joiner Settled = record { state = node; is = is.at; link = settled } in
        absurd (core_or_joiner s tell.joiner (is.invariant.soft.settled (name_of node) tell.joiner link) joins)
    none_or_pin joins (Some LeavingKind) marked =
        let link : HasLink s (name_of node) tell.joiner LeavingKind = record { state = node; is = is.at; link = marked } in
        absurd (is.invariant.departure.marked (name_of node) tell.joiner
        (none_departs p s number node from (tell_body tell watch) is (λ never. never)) link)

    tell_fits : IsFitTell node tell.joiner tell.prefix tell.depth
    tell_fits =
        let here = way p s number node from (tell_body tell watch) is in
        let sound = is.invariant.tells.each from (name_of node) tell watch here in
        let shallow = tells_shallow p s from (name_of node) tell watch is.invariant is.nodes is.few here in
        let prefix = sound.prefix in
        let reach = sound.inside.reach in
        record {
          apart = λ same. sound.apart (sym same);
          pin = none_or_pin sound.joiner (link_to node tell.joiner) refl;
          shared = omega (arith, prefix, reach);
          depth = λ deepest. omega (arith, shallow, deepest);
        }

  -- ---- whatever the kind

  body_fits : {body : Body} → Said body → Arrives p s number node from body → is_deepest_copy body ≡ false → IsFitBody node body
  body_fits (IsSeek joiner) is other = seek_fits joiner is
  body_fits (IsTell tell watch) is other = tell_fits tell watch is
  body_fits (IsCast {depth = depth}) is other = eqb-false depth 65535 other
  body_fits _ is other = tt

  frame_fits : (body : Body) → Arrives p s number node from body → is_deepest_copy body ≡ false → IsFit node (frame_to node from body)
  frame_fits body is other = record {
    from = is.invariant.ends.apart number (frame_to node from body) is.among;
    body = body_fits (said_of body) is other;
    few = few_linked p s number node from body is;
  }

-- a copy of a cast at the greatest depth isn't fit
deepest_unfit : (node : NodeState) {body : Body} → Said body → is_deepest_copy body ≡ true → IsFitBody node body → ⊥
deepest_unfit node (IsCast {depth = depth}) deepest fit = elim (eqb_tells depth 65535) [
  | inl both ↦ fit both.1
  | inr both ↦ true≢false (sym deepest ∙ both.0)
]
deepest_unfit node _ other fit = true≢false (sym other)

pub strange_exactly : StrangeExactly
strange_exactly p s number node from body is =
    let frame = frame_to node from body in
    let law = fit_law node frame (is.nodes.nodes (name_of node) node is.at).is_node.ties in
    elim (cases_Bool (is_deepest_copy body)) [
      | inl deepest ↦ elim (cases_Bool (is_strange node frame)) [
        | inl strange ↦ strange ∙ sym deepest
        | inr taken ↦ absurd (deepest_unfit node (said_of body) deepest (law.0 taken).body)
      ]
      | inr other ↦ law.1 (frame_fits p s number node from body is other) ∙ sym other
    ]

pub others_are_delivered : OthersAreDelivered
others_are_delivered p s number node from body is other = record {
  invariant = is.invariant;
  nodes = is.nodes;
  among = is.among;
  at = is.at;
  known = strange_exactly p s number node from body is ∙ other;
}
