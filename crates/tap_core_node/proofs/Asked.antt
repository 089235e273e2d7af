-- What a Seek or a Tell that isn't strange lets a core node do for its joiner.
use Rattle.std.proofs.Common.{◌≡◌, ◌≢◌, ◌⊎◌, ℕ, ◌<◌, ◌≤◌, List, length, Option, None, Some, false, arith, refl, sym, ap, subst, inl, inr}
use Rattle.tap_name.specs.declared.slot.Slot.{Slot}
use Rattle.tap_name.specs.Name.{IsName}
use Rattle.tap_name.specs.Prefix.{lcp}
use Rattle.tap_link.specs.declared.kind.Kind.{Kind}
use Rattle.tap_link.specs.declared.kind.Kind.TheVariants.{Pin, Settled}
use Rattle.tap_link.specs.LinkSet.{least_settled}
use Rattle.tap_session.specs.declared.parent.Parent.TheVariants.{Node}
use Rattle.tap_watch.specs.Level.{full_slots}
use Rattle.tap_watch.proofs.Watches.{length-full}
use Rattle.tap_table.specs.ByName.{targets_by_name}
use Rattle.tap_table.specs.Table.{links_near, pinned}
use Rattle.tap_table.proofs.Found.{linked_is_name}
use Rattle.tap_multicast.specs.Covers.{MayCover}
use Rattle.tap_multicast.proofs.Linked.{primary_near-stands}
use Rattle.tap_join.specs.declared.sought.Sought.TheVariants.{Forward, Surrogate}
use Rattle.tap_join.specs.Seek.{sought, sought_by}
use Rattle.tap_wire.specs.declared.frame.Frame.{Frame}
use Rattle.tap_wire.specs.declared.frame.Body.TheVariants.{Seek, Tell, Cast}
use Rattle.tap_wire.specs.Layout.{most_links, most_slots}
use Rattle.tap_wire.specs.Spelling.{IsBody, IsTell}
use Rattle.tap_rule.specs.Fit.{CouldLink, IsFit, IsFitBody, IsFitSeek, IsFitTell}
use Rattle.tap_rule.specs.RuleLaws.{frame_to}
use Rattle.tap_rule.specs.Node.{NodeState, link_to, name_of, settings_of}
use Rattle.tap_rule.specs.Strange.{is_no_pin, is_strange}
use Rattle.tap_rule.proofs.CoverSteps.{seek_fits}
use Rattle.tap_rule.proofs.Fit.{fit_law}
use Rattle.tap_rule.proofs.JoinSteps.{IsTellFit}
use Rattle.tap_node_common.specs.SoundNode.{IsParent, MayTake}
use Rattle.tap_core_node.proofs.Covers.{few_pinned, full_is_few, shared_within, surrogate_may_cover, told_may_cover}

-- a link that is a pin or isn't there
pin_if_any : (kind : Option Kind) → (kind ≡ None) ⊎ (kind ≡ Some Pin) → is_no_pin kind ≡ false
pin_if_any kind (inl none) = ap is_no_pin none
pin_if_any kind (inr pin) = ap is_no_pin pin

-- who is sent a joiner on is its slot's primary, and whoever is its surrogate shares the prefix with it
forwarded : (primary : Option (List ℕ)) (shared : ℕ) (next : List ℕ) → sought_by primary shared ≡ Forward next → primary ≡ Some next
forwarded None shared next is = cc
forwarded (Some first) shared next is = cc

shared_prefix : (primary : Option (List ℕ)) (shared prefix : ℕ) → sought_by primary shared ≡ Surrogate prefix → shared ≡ prefix
shared_prefix None shared prefix is = cc
shared_prefix (Some first) shared prefix is = cc

-- what pins_and_covers asks for
pub record MayBeCovered (node : NodeState) (joiner : List ℕ) (prefix level : ℕ) (watch : List Slot) : Type 0 where
  pub is_name : IsName (settings_of node) joiner
  pub other : joiner ≢ name_of node
  pub fits : MayCover (pinned node.ties.table joiner) watch joiner prefix level
  pub slots : length watch ≤ most_slots (settings_of node)
  pub few : length (targets_by_name (pinned node.ties.table joiner)) ≤ most_links

module _ (node : NodeState) (frame : Frame) (may : MayTake node frame) where
  fit : IsFit node frame
  fit = (fit_law node frame may.sound.valid.ties).0 may.taken

  module _ (joiner : List ℕ) (is : frame.body ≡ Seek joiner) where
    pub seeker_name : IsName (settings_of node) joiner
    seeker_name = subst (IsBody (settings_of node)) is may.is_frame.body

    pub seeker_apart : joiner ≢ name_of node
    seeker_apart = let fitted : IsFitSeek node joiner = subst (IsFitBody node) is fit.body in fitted.apart

    -- the node to which it is sent on is a name
    pub next_named : (next : List ℕ) → sought node.ties.table joiner ≡ Forward next → IsName (settings_of node) next
    next_named next found =
        let t = node.ties.table in
        let first = forwarded (least_settled (links_near t joiner)) (lcp t.owner joiner) next found in
        let stands = primary_near-stands t may.sound.valid.ties.table joiner next seeker_name seeker_apart first in
        linked_is_name t may.sound.valid.ties.table next Settled stands.0

    module _ (prefix : ℕ) (found : sought node.ties.table joiner ≡ Surrogate prefix) where
      prefix_is : lcp (name_of node) joiner ≡ prefix
      prefix_is = shared_prefix (least_settled (links_near node.ties.table joiner)) (lcp (name_of node) joiner) prefix found

      pub surrogate_within : prefix < (settings_of node).digits
      surrogate_within =
          let inside = shared_within node.ties.table may.sound.valid.ties.table joiner seeker_name seeker_apart in
          omega (arith, inside, prefix_is)

      pub seeker_may : (watch : List Slot) → watch ≡ full_slots (settings_of node) joiner prefix
          → MayBeCovered node joiner prefix prefix watch
      seeker_may watch full =
          let t = node.ties.table in
          let valid = may.sound.valid.ties.table in
          let taken : is_strange node (frame_to node frame.from (Seek joiner)) ≡ false =
          subst (λ b. is_strange node (frame_to node frame.from b) ≡ false) is may.taken in
          let tell : IsTellFit node joiner = seek_fits node frame.from joiner prefix taken found in
          let could : CouldLink frame.from frame.body joiner = subst (λ b. CouldLink frame.from b joiner) (sym is) refl in
          rw full (record {
            is_name = seeker_name;
            other = seeker_apart;
            fits = subst (λ p. MayCover (pinned t joiner) (full_slots t.settings joiner p) joiner p p) prefix_is
                (surrogate_may_cover t valid joiner seeker_name seeker_apart tell.pin);
            slots = full_is_few (settings_of node).digits (settings_of node).base prefix
                (length (full_slots (settings_of node) joiner prefix))
                (length-full (settings_of node) joiner prefix seeker_name surrogate_within) surrogate_within;
            few = few_pinned node frame fit valid joiner seeker_name seeker_apart could;
          })

  module _ (joiner : List ℕ) (prefix level session depth : ℕ) (watch : List Slot)
      (is : frame.body ≡ Tell joiner prefix level session depth watch) where
    said : IsTell (settings_of node) joiner prefix level session watch
    said = subst (IsBody (settings_of node)) is may.is_frame.body

    fitted : IsFitTell node joiner prefix depth
    fitted = subst (IsFitBody node) is fit.body

    pub told_may : MayBeCovered node joiner prefix level watch
    told_may =
        let above = said.level_above in
        let could : CouldLink frame.from frame.body joiner = subst (λ b. CouldLink frame.from b joiner) (sym is) refl in
        record {
          is_name = said.joiner_is;
          other = fitted.apart;
          fits = told_may_cover node.ties.table may.sound.valid.ties.table joiner said.joiner_is fitted.apart watch prefix level
              (pin_if_any (link_to node joiner) fitted.pin) (omega (arith, above)) fitted.shared said.level_most said.slots;
          slots = said.slots.few;
          few = few_pinned node frame fit may.sound.valid.ties.table joiner said.joiner_is fitted.apart could;
        }

    -- its sender is answered in the end, and its depth is below the greatest
    pub teller_parent : IsParent (settings_of node) (Node frame.from session)
    teller_parent = (may.is_frame.sender, said.session_least)

    pub told_depth : depth < 65536 → depth < 65535
    told_depth small = let most = fitted.depth in omega (arith, small, most)

  -- the depth of a Cast is below the greatest
  pub cast_depth : (cast level session depth : ℕ) (word : List ℕ) → frame.body ≡ Cast cast level session depth word → depth < 65536
      → depth < 65535
  cast_depth cast level session depth word is small =
      let most : depth ≢ 65535 = subst (IsFitBody node) is fit.body in omega (arith, small, most)
