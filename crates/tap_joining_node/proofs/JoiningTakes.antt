-- A joining node knows of no pair, so that its steps take no reconciling: each follows from the step of its rule alone.
use Rattle.std.proofs.Common.{◌≡◌, ◌≢◌, ◌⊎◌, ℕ, Bool, List, [], Some, refl, sym, subst, ap, ◌∙◌, inl, inr}
use Rattle.std.proofs.lemmas.Bool.{cases_Bool}
use Rattle.std.proofs.lemmas.List.Elements.{All-nil}
use Rattle.tap_name.specs.declared.slot.Offered.{Offered}
use Rattle.tap_name.specs.declared.slot.Slot.{Slot}
use Rattle.tap_name.specs.Names.{has_name}
use Rattle.tap_pointer.specs.Pointers.{PointersValue}
use Rattle.tap_pointer.specs.Reconcile.{AreLaid, wanted_hop}
use Rattle.tap_wire.specs.declared.frame.Body.TheVariants.{Hello, Heard, Ack, Release, Link, Forget, Cast}
use Rattle.tap_wire.specs.declared.frame.Frame.{Frame}
use Rattle.tap_wire.specs.declared.frame.TellFields.{TellFields}
use Rattle.tap_rule.specs.Answers.{takes_heard_or_ack}
use Rattle.tap_rule.specs.Casts.{takes_cast_outside}
use Rattle.tap_rule.specs.FrameRules.{frame_at_joining}
use Rattle.tap_rule.specs.Joining.{takes_hello, takes_tell_joining}
use Rattle.tap_rule.specs.RuleLaws.{tell_of}
use Rattle.tap_rule.specs.Links.{takes_forget, takes_link_joining, takes_release}
use Rattle.tap_rule.specs.Node.{IsRunning, NodeState, name_of}
use Rattle.tap_rule.specs.Node.Status.{Joining}
use Rattle.tap_rule.specs.Reaction.{Reaction}
use Rattle.tap_rule.proofs.JoinSteps.{tell_fits}
use Rattle.tap_node_common.specs.declared.news.News.{News}
use Rattle.tap_node_common.specs.SoundNode.{MayTake}
use Rattle.tap_node_common.specs.StepsAs.{FollowsAs, StepsAs}
use Rattle.tap_node_common.proofs.Followed.{follows_quietly}

-- a Tell that a node may take is of another node
pub tells_other : (node : NodeState) (frame : Frame) → MayTake node frame → (tell : TellFields) (watch : List Slot)
    → frame.body ≡ tell_of tell watch → tell.joiner ≢ name_of node
tells_other node frame may tell watch is = (tell_fits node frame.from tell watch (rw is at may.taken)).apart

-- a rule leaves a node joining, with its pointers, and has no Lays
record KeepsJoining (node : NodeState) (r : Reaction) : Type 0 where
  status : r.state.status ≡ node.status
  pointers : r.state.pointers ≡ node.pointers
  lays : r.lays ≡ []

-- a Tell's is one, whether it greets or not
meets_keeps : (node : NodeState) (from : List ℕ) (tell : TellFields) → KeepsJoining node (takes_tell_joining node from tell)
meets_keeps node from tell =
    elim (cases_Bool (has_name node.greeted tell.joiner)) [
      | inl before ↦ record { status = rw before refl; pointers = rw before refl; lays = rw before refl }
      | inr new ↦ record { status = rw new refl; pointers = rw new refl; lays = rw new refl }
    ]

-- what a joining node that knows of no pair does at a frame, from the step of the frame's rule
module _ (node : NodeState) (joins : node.status ≡ Joining) (alone : node.pointers.pairs ≡ []) (frame : Frame) (after : NodeState)
    (before sent : List (List ℕ)) (news : News) where
  abbrev Steps : Reaction → Type 0
  Steps r = StepsAs node r after before sent news

  abbrev Follows : Type 0
  Follows = FollowsAs node (frame_at_joining node frame.from frame.body) after before sent news

  no_pairs : (r : Reaction) → KeepsJoining node r → r.state.pointers.pairs ≡ []
  no_pairs r keeps = ap (λ (p : PointersValue). p.pairs) keeps.pointers ∙ alone

  follows : (r : Reaction) → KeepsJoining node r → Steps r → FollowsAs node (Some r) after before sent news
  follows r keeps steps =
      let laid : AreLaid r.state.ties.table r.state.pointers =
      rw (no_pairs r keeps) (All-nil (λ e. e.1.laid ≡ wanted_hop r.state.ties.table e)) in
      let joining : r.state.status ≡ Joining = keeps.status ∙ joins in
      follows_quietly node r after before sent news (subst IsRunning (sym joining) tt) keeps.lays laid steps

  pub tell_follows : (tell : TellFields) (watch : List Slot) → frame.body ≡ tell_of tell watch → Steps (takes_tell_joining node frame.from tell)
      → Follows
  unfolding frame_at_joining
  tell_follows tell watch is steps = rw is (follows (takes_tell_joining node frame.from tell) (meets_keeps node frame.from tell) steps)

  pub hello_follows : (session : ℕ) (core : Bool) (links : List Offered) → frame.body ≡ Hello session core links
      → Steps (takes_hello node frame.from session core links) → Follows
  unfolding frame_at_joining
  hello_follows session core links is steps =
      rw is (follows (takes_hello node frame.from session core links) (record { status = refl; pointers = refl; lays = refl }) steps)

  pub answer_follows : (session : ℕ) → (frame.body ≡ Heard session) ⊎ (frame.body ≡ Ack session) → Steps (takes_heard_or_ack node session) → Follows
  unfolding frame_at_joining
  answer_follows session (inl is) steps =
      rw is (follows (takes_heard_or_ack node session) (record { status = refl; pointers = refl; lays = refl }) steps)
  answer_follows session (inr is) steps =
      rw is (follows (takes_heard_or_ack node session) (record { status = refl; pointers = refl; lays = refl }) steps)

  pub release_follows : frame.body ≡ Release → Steps (takes_release node frame.from) → Follows
  unfolding frame_at_joining
  release_follows is steps = rw is (follows (takes_release node frame.from) (record { status = refl; pointers = refl; lays = refl }) steps)

  pub link_follows : (version : ℕ) (on : Bool) → frame.body ≡ Link version on → Steps (takes_link_joining node frame.from version on) → Follows
  unfolding frame_at_joining
  link_follows version on is steps =
      rw is (follows (takes_link_joining node frame.from version on) (record { status = refl; pointers = refl; lays = refl }) steps)

  pub forget_follows : frame.body ≡ Forget → Steps (takes_forget node frame.from) → Follows
  unfolding frame_at_joining
  forget_follows is steps = rw is (follows (takes_forget node frame.from) (record { status = refl; pointers = refl; lays = refl }) steps)

  pub cast_follows : (cast level session depth : ℕ) (word : List ℕ) → frame.body ≡ Cast cast level session depth word
      → Steps (takes_cast_outside node frame.from session) → Follows
  unfolding frame_at_joining
  cast_follows cast level session depth word is steps =
      rw is (follows (takes_cast_outside node frame.from session) (record { status = refl; pointers = refl; lays = refl }) steps)
