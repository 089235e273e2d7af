-- Each move of a run of joins alone keeps how few Links are sent.
use Rattle.std.proofs.Common.{◌≡◌, ℕ, nat_eq, Bool, true, false, cond, List, [], ◌∷◌, Option, None, Some, arith, ap, refl, sym, subst, ◌∙◌, inl, inr}
use Rattle.std.specs.Prelude.{IfSome, count_by, ◌&&◌}
use Rattle.std.proofs.lemmas.Slice.Eq.{bytes_eq-Decides}
use Rattle.std.specs.Cmp.Lexicographic.{pointwise}
use Rattle.tap_name.specs.Settings.{SettingsValue}
use Rattle.tap_name.specs.declared.slot.Slot.{Slot}
use Rattle.tap_wire.specs.declared.frame.Body.{Body}
use Rattle.tap_wire.specs.declared.frame.Body.TheVariants.{Release, Seek}
use Rattle.tap_wire.specs.declared.frame.Frame.{Frame}
use Rattle.tap_wire.specs.declared.frame.TellFields.{TellFields}
use Rattle.tap_rule.specs.Act.{act}
use Rattle.tap_rule.specs.Covering.{Request}
use Rattle.tap_rule.specs.Event.Event.{Starts}
use Rattle.tap_rule.specs.Event.Start.{Join}
use Rattle.tap_rule.specs.FrameRules.{rule_of_frame}
use Rattle.tap_rule.proofs.Cases.{IsAsked, RuleCase}
use Rattle.tap_rule.proofs.Cases.Cause.{Takes}
use Rattle.tap_rule.proofs.Cases.IsAsked.{BySeek, ByTell}
use Rattle.tap_rule.proofs.Cases.IsParting.{OneLeft}
use Rattle.tap_rule.proofs.Cases.RuleCase.{CoveredBefore, CoversAlone, CoversOn, DropsLeaver, GreetedBefore, Greets, HasCeased, IsForgottenBy, IsGoneNow, IsGreeted, IsReleased, MarksLeaver}
use Rattle.tap_rule.proofs.EachRule.{each_rule}
use Rattle.tap_rule.specs.Joining.{takes_hello}
use Rattle.tap_rule.specs.KeptNode.{IsNode}
use Rattle.tap_rule.specs.RuleLaws.{frame_to}
use Rattle.tap_rule.specs.Node.{NodeState, Status, joiner, name_of}
use Rattle.tap_rule.specs.Node.Status.{Core}
use Rattle.tap_rule.specs.Reaction.{Reaction}
use Rattle.tap_rule.proofs.CarriedOut.{frame_law, unruled_law}
use Rattle.tap_rule.proofs.EndSteps.{unlinked}
use Rattle.tap_rule.specs.Links.{takes_release}
use Rattle.tap_rule.specs.Event.{Acted}
use Rattle.tap_safety.specs.Frames.{HelloFields, hello_body, tell_body}
use Rattle.tap_safety.specs.Move.{MayJoin}
use Rattle.tap_safety.specs.Move.Move.{Begins, Delivers}
use Rattle.tap_safety.specs.Moved.{moved}
use Rattle.tap_safety.specs.System.{System, AmongFrames, IsCoreNode}
use Rattle.tap_safety.specs.Ties.{link_in, status_in}
use Rattle.tap_safety.proofs.Said.{said_of}
use Rattle.tap_moves.specs.ByRule.{taken_at}
use Rattle.tap_moves.specs.InvariantLaws.{IsDelivery}
use Rattle.tap_moves.proofs.InvariantMoves.{hello_names_are, joiner_name, known_name, of_node, seeker_not_core, sender_name, way}
use Rattle.tap_safety_moves.specs.Sound.{Sound}
use Rattle.tap_safety_moves.proofs.Delivered.{is_delivery}
use Rattle.tap_bounds.specs.Traffic.{Traffic, traffic_after}
use Rattle.tap_bounds.proofs.Counting.{count-cons}
use Rattle.tap_bounds.specs.OfJoins.{IsJoinBody}
use Rattle.tap_bounds.proofs.JoinRules.{IsJoinStep, IsPlainNode, JoinsOrIsCore, rule_joins}
use Rattle.tap_bounds.proofs.JoinsKept.{AreOfJoins, joining_is_new, of_frame, of_joiner}
use Rattle.tap_bounds.proofs.Links.{IsPinning, LinksStep, hello_links, is_naming, names_in, pins_links, releases_links, still}
use Rattle.tap_bounds.proofs.LinkSteps.{ActsOnLinks, LinksAreFew, acts_on_links, ignored_on_links, links_kept, may_become}
use Rattle.tap_bounds.proofs.Made.{delivery_made, join_made}
use Rattle.tap_bounds.proofs.OfJoins.{begins, begins_in_join, begins_so, frame_acts}

-- ---- what a rule says of links

module _ (p : SettingsValue) (members : List (List ℕ)) (s : System) (r : Traffic) (are : AreOfJoins members s r) (number : ℕ)
    (node : NodeState) (from : List ℕ) where
  abbrev named : Body → List ℕ → ℕ
  named body t = cond (names_in body from t) 1 0

  abbrev Says : Body → Reaction → Type 0
  Says body rule = LinksStep members s node (named body) rule

  is_node : (body : Body) → IsDelivery p s number node from body → IsNode node
  is_node body is = (is.nodes.nodes (name_of node) node is.at).is_node

  -- the joiner of a Tell is pinned
  module _ (tell : TellFields) (watch : List Slot) (is : IsDelivery p s number node from (tell_body tell watch)) where
    tell_pins : (rule : Reaction) → IsPinning node tell.joiner rule → Says (tell_body tell watch) rule
    tell_pins rule pins =
        let told = is.invariant.tells.each from (name_of node) tell watch (way p s number node from (tell_body tell watch) is) in
        let joiner = told.joiner in
        pins_links members s node (is_node (tell_body tell watch) is) (named (tell_body tell watch)) tell.joiner rule pins
        (of_node p s number node from (tell_body tell watch) is tell.joiner (joiner_name p s is.nodes tell.joiner joiner))
        (λ same. told.apart (sym same)) (joining_is_new members s r tell.joiner are (of_joiner s tell.joiner joiner))
        (ap status_in joiner.is ∙ ap (λ st. Some st) joiner.joining)

  -- so is that of a Seek at its surrogate
  module _ (b : List ℕ) (is : IsDelivery p s number node from (Seek b)) (at : node.status ≡ Core) where
    seek_pins : (rule : Reaction) → IsPinning node b rule → Says (Seek b) rule
    seek_pins rule pins =
        let seeker = is.invariant.seekers.seeks from (name_of node) b (way p s number node from (Seek b) is) in
        let core : IsCoreNode s (name_of node) = record { state = node; is = is.at; core = inl at } in
        pins_links members s node (is_node (Seek b) is) (named (Seek b)) b rule pins
        (of_node p s number node from (Seek b) is b (known_name p s is.nodes b (record { state = seeker.state; is = seeker.is })))
        (λ same. seeker_not_core s b seeker (subst (IsCoreNode s) (sym same) core))
        (joining_is_new members s r b are (record { state = seeker.state; is = seeker.is; joining = seeker.joining }))
        (ap status_in seeker.is ∙ ap (λ st. Some st) seeker.joining)

  -- a Release comes from a core node
  module _ (is : IsDelivery p s number node from Release) where
    sender_core : status_in (s.node from) ≡ Some Core
    sender_core =
        let core = is.invariant.soft.releases from (name_of node) (way p s number node from Release is) in
        elim core.core [
          | inl here ↦ ap status_in core.is ∙ ap (λ st. Some st) here
          | inr leaving ↦ absurd (subst JoinsOrIsCore leaving (are.nodes from core.state core.is).status)
        ]

    release_says : Says Release (takes_release node from)
    release_says =
        releases_links members s node (is_node Release is) (named Release) from (sender_name p s number node from Release is)
        (is.invariant.ends.apart number (frame_to node from Release) is.among) sender_core

  hello_says : (hello : HelloFields) → IsDelivery p s number node from (hello_body hello)
      → Says (hello_body hello) (takes_hello node from hello.session hello.is_core hello.links)
  hello_says hello is =
      hello_links members s node (is_node (hello_body hello) is) from hello (sender_name p s number node from (hello_body hello) is)
      (hello_names_are p s number node from hello is)

  -- a core node pins whose cover it is asked for
  asked_says : {body : Body} {request : Request} → IsAsked node (Takes from body) request → IsDelivery p s number node from body
      → node.status ≡ Core → (rule : Reaction) → IsPinning node request.joiner rule → Says body rule
  asked_says (BySeek found) is at rule pins = seek_pins _ is at rule pins
  asked_says (ByTell {watch = watch}) is at rule pins = tell_pins _ watch is rule pins

  case_says : {status : Status} {body : Body} {rule : Reaction} → RuleCase node status (Takes from body) rule → node.status ≡ status
      → IsJoinBody body → IsPlainNode node → IsDelivery p s number node from body → Says body rule
  case_says (GreetedBefore {watch = watch} before) at of plain is = tell_pins _ watch is _ (record { words = refl; ties = refl })
  case_says (Greets {watch = watch} before) at of plain is = tell_pins _ watch is _ (record { words = refl; ties = refl })
  case_says IsGreeted at of plain is = hello_says _ is
  case_says (HasCeased given_up) at of plain is = let wrong : false ≡ true = sym plain.goes_on ∙ given_up in absurd (cc)
  case_says (IsReleased early) at of plain is = release_says is
  case_says (IsForgottenBy early) at of plain is = absurd of
  case_says (CoveredBefore asked turn) at of plain is = asked_says asked is at _ (record { words = refl; ties = refl })
  case_says (CoversAlone asked turn none) at of plain is = asked_says asked is at _ (record { words = refl; ties = refl })
  case_says (CoversOn asked turn some) at of plain is = asked_says asked is at _ (record { words = refl; ties = refl })
  case_says MarksLeaver at of plain is = absurd of
  case_says DropsLeaver at of plain is = absurd of
  case_says (IsGoneNow OneLeft last) at of plain is = absurd of
  case_says {body = body} _ at of plain is = still members s node (named body) _ refl refl

  rule_says : (body : Body) → IsJoinBody body → IsPlainNode node → IsDelivery p s number node from body
      → IfSome (rule_of_frame node.status node from body) (Says body)
  rule_says body of plain is =
      each_rule node (Says body) node.status (Takes from body) (λ rule case. case_says case refl of plain is)

  -- what comes of the frame
  pub acts : (body : Body) (of : IsJoinBody body) (plain : IsPlainNode node) → IsDelivery p s number node from body
      → ActsOnLinks members s node (taken_at node from body) (named body)
  acts body of plain is =
      by (rule_of_frame node.status node from body) refl (rule_joins node plain from body of) (rule_says body of plain is)
    where
      by : (rule : Option Reaction) → rule_of_frame node.status node from body ≡ rule → IfSome rule (IsJoinStep node body)
          → IfSome rule (Says body) → ActsOnLinks members s node (taken_at node from body) (named body)
      by None none step says =
          ignored_on_links members s node (taken_at node from body) (named body) (unruled_law node (frame_to node from body) none)
      by (Some rule) some step says =
          acts_on_links members s node rule (taken_at node from body)
          (frame_law node (frame_to node from body) rule is.known some) body step (named body) says

  -- the frame names as much as is counted of it
  pub names_one : (body : Body) (t : List ℕ) → count_by (is_naming (name_of node) t) (frame_to node from body ∷ []) ≡ named body t
  names_one body t =
      let own : pointwise nat_eq (name_of node) (name_of node) ≡ true = (bytes_eq-Decides (name_of node) (name_of node)).1 refl in
      let all = count-cons (is_naming (name_of node) t) (frame_to node from body) [] in
      let here : cond {A = ℕ} (is_naming (name_of node) t (frame_to node from body)) 1 0 ≡ named body t =
      and_true (names_in body from t) own in
      omega (arith, all, here)
    where
      and_true : (c : Bool) {d : Bool} → d ≡ true → cond {A = ℕ} (c && d) 1 0 ≡ cond {A = ℕ} c 1 0
      and_true true is = rw is refl
      and_true false is = refl

-- ---- moves

renamed : (members : List (List ℕ)) (s : System) (node : NodeState) (acted : Acted) (one two : List ℕ → ℕ)
    → ((t : List ℕ) → one t ≡ two t) → ActsOnLinks members s node acted one → ActsOnLinks members s node acted two
renamed members s node acted one two same acts = record {
  on = λ t. let more = acts.on t in let equal = same t in omega (arith, more, equal);
  off = acts.off;
  no_on = acts.no_on;
  no_off = acts.no_off;
}

module _ (p : SettingsValue) (members : List (List ℕ)) (s : System) (r : Traffic) (sound : Sound p s) (are : AreOfJoins members s r)
    (few : LinksAreFew members s r) where
  pub delivery_links : (number : ℕ) (frame : Frame) (node : NodeState) → AmongFrames number frame s.frames
      → s.node frame.to ≡ Some node → LinksAreFew members (moved p s (Delivers number)) (traffic_after p s r (Delivers number))
  delivery_links number frame node among at =
      let is = is_delivery p s number frame node sound among at in
      let plain = are.nodes frame.to node at in
      let of = of_frame (said_of frame.body) (are.ways number frame among) in
      let made = delivery_made p s r number node frame.from frame.body is in
      let does = frame_acts node (frame_to node frame.from frame.body) is.known plain of in
      let acted = taken_at node frame.from frame.body in
      let own = name_of node in
      let here = is.at in
      links_kept members s (moved p s (Delivers number)) r (traffic_after p s r (Delivers number)) node acted
      (frame_to node frame.from frame.body ∷ []) made (λ t. ap (λ n. link_in n t) here)
      (λ t. elim (made.others t) [
        | inl same ↦
            let before : status_in (s.node t) ≡ Some node.status = ap (λ u. status_in (s.node u)) same ∙ ap status_in here in
            let after : status_in ((moved p s (Delivers number)).node t) ≡ Some acted.state.status =
            ap (λ u. status_in ((moved p s (Delivers number)).node u)) same ∙ ap status_in made.at in
            rw (before, after) (may_become node.status acted.state.status plain.status does.state.status does.core)
        | inr stays ↦ inl (ap status_in stays)
      ])
      (renamed members s node acted (named p members s r are number node frame.from frame.body)
      (λ t. count_by (is_naming own t) (frame_to node frame.from frame.body ∷ []))
      (λ t. sym (names_one p members s r are number node frame.from frame.body t))
      (acts p members s r are number node frame.from frame.body of plain is)) few

  pub join_links : (x via : List ℕ) → MayJoin p s x via
      → LinksAreFew members (moved p s (Begins x (Join via))) (traffic_after p s r (Begins x (Join via)))
  join_links x via may =
      let made = join_made p s r x via in
      let acted = act (joiner p x) (Starts (Join via)) in
      let none = may.fresh in
      links_kept members s (moved p s (Begins x (Join via))) r (traffic_after p s r (Begins x (Join via))) (joiner p x) acted [] made
      (λ t. ap (λ n. link_in n t) none ∙ sym (unlinked p x t))
      (λ t. elim (made.others t) [
        | inl same ↦ inr (inl (ap (λ u. status_in (s.node u)) same ∙ ap status_in none))
        | inr stays ↦ inl (ap status_in stays)
      ])
      (acts_on_links members s (joiner p x) (begins p x via) acted (begins_so p x via) (Seek x) (begins_in_join p x via) (λ t. 0)
      (still members s (joiner p x) (λ t. 0) (begins p x via) refl refl)) few
