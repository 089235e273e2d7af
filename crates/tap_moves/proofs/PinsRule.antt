-- A pin stays, but at a word of its target, and if its node ends.
use Rattle.std.proofs.Common.{◌≡◌, ◌≢◌, ◌⊎◌, ◌||◌, ℕ, nat_eq, Bool, true, false, cond, List, All, Option, None, Some, ap, refl, sym, subst, ◌∙◌, inl, inr}
use Rattle.std.specs.Prelude.{IfSome}
use Rattle.std.specs.Cmp.Lexicographic.{pointwise}
use Rattle.std.specs.Ordering.{is_eq}
use Rattle.std.proofs.lemmas.Bool.{cases_Bool}
use Rattle.std.proofs.lemmas.List.Elements.{All-cons}
use Rattle.std.proofs.lemmas.Slice.Eq.{bytes_eq-Decides}
use Rattle.tap_name.specs.Name.{IsName}
use Rattle.tap_name.specs.Order.{name_cmp}
use Rattle.tap_name.specs.declared.slot.Offered.{Offered}
use Rattle.tap_link.specs.declared.kind.Kind.{Kind}
use Rattle.tap_link.specs.declared.kind.Kind.TheVariants.{Pin}
use Rattle.tap_link.proofs.TargetKinds.{kind_forgotten, kind_marked, kind_offered, kind_pinned, kind_released, kind_removed}
use Rattle.tap_table.specs.Table.{has_room_near, kind_in}
use Rattle.tap_table.specs.Ties.{AreTies, TiesValue, marked, offered}
use Rattle.tap_table.proofs.LookUps.{by_rule, kind_in-forgotten, kind_in-marked, kind_in-offered, kind_in-pinned, kind_in-released, kind_in-removed}
use Rattle.tap_table.proofs.TiesKept.{AreTies-marked}
use Rattle.tap_depart.specs.ToldLeave.{has_settled_near, offered_if, taken_in, told_leave}
use Rattle.tap_join.specs.Hello.{after_hello, hello_names}
use Rattle.tap_join.proofs.Hellos.{links_stay}
use Rattle.tap_wire.specs.Spelling.{IsBody}
use Rattle.tap_wire.specs.declared.frame.Body.TheVariants.{Forget, Gone, Leave, Release}
use Rattle.tap_rule.proofs.CoverSteps.{seek_fits}
use Rattle.tap_rule.proofs.JoinSteps.{tell_fits}
use Rattle.tap_rule.proofs.OneName.{not_own, others_stay}
use Rattle.tap_moves.specs.PinsRule.{FreesPin, IsEndedStatus, PinsStay}
use Rattle.tap_rule.specs.Node.{NodeState, Status, name_of, settings_of}
use Rattle.tap_rule.specs.Reaction.{Reaction, with_pin}
use Rattle.tap_rule.specs.Covering.{Request}
use Rattle.tap_rule.proofs.Cases.{Cause, IsAsked, RuleCase}
use Rattle.tap_rule.proofs.Cases.Cause.{Takes, Starts}
use Rattle.tap_rule.proofs.Cases.IsAsked.{BySeek, ByTell}
use Rattle.tap_rule.proofs.Cases.RuleCase.{GreetedBefore, Greets, CoveredBefore, CoversAlone, CoversOn, IsGreeted, HasCeased, IsGoneNow, IsReleased, IsForgottenBy, MarksLeaver, DropsLeaver}
use Rattle.tap_rule.specs.Event.{Acted}
use Rattle.tap_rule.specs.Event.Event.{Takes as TakesFrame, Starts as StartsOne}
use Rattle.tap_rule.specs.KeptNode.{IsNode}
use Rattle.tap_rule.specs.Node.{link_to}
use Rattle.tap_rule.specs.Strange.{is_strange}
use Rattle.tap_rule.specs.RuleLaws.{IsCarriedOut, frame_to}
use Rattle.tap_rule.proofs.EachAct.{each_start, each_take}

-- a rule for one name that keeps pins
keeps_pin : (name other : List ℕ) (rule : Option Kind → Option Kind) → rule (Some Pin) ≡ Some Pin → (kind : Option Kind)
    → kind ≡ Some Pin → by_rule name other rule kind ≡ Some Pin
keeps_pin name other rule keeps kind pin =
    elim (cases_Bool (is_eq (name_cmp other name))) [
      | inl tied ↦ rw (tied, pin) keeps
      | inr apart ↦ rw apart pin
    ]

module _ (node : NodeState) (is : IsNode node) (t : List ℕ) (pin : link_to node t ≡ Some Pin) where
  -- the node after a rule has the pin
  abbrev HasPin : NodeState → Type 0
  HasPin after = link_to after t ≡ Some Pin

  -- a name is pinned
  pinned_has : (name : List ℕ) → IsName (settings_of node) name → name ≢ name_of node → HasPin (with_pin node name)
  pinned_has name is_name apart =
      kind_in-pinned node.ties.table name is.ties.table is_name apart t
      ∙ keeps_pin name t kind_pinned refl (link_to node t) pin

  -- a Hello
  hello_has : (from : List ℕ) (core : Bool) (links : List Offered) → IsName (settings_of node) from
      → All (λ (link : Offered). IsName (settings_of node) link.name) links
      → kind_in (after_hello node.ties from core links).table t ≡ Some Pin
  hello_has from core links sender names =
      links_stay (settings_of node) (name_of node) (hello_names from core links) node.ties
      (All-cons (λ (link : Offered). IsName (settings_of node) link.name) (record { name = from; settled = core }) links sender names)
      (is.ties, refl, refl) t Pin pin

  -- a notice: the leaver is marked if it is settled, and the replacement is offered
  taken_name : (ties : TiesValue) (leaver given name : List ℕ) (test : Bool) → cond test None (Some given) ≡ Some name → given ≡ name
  taken_name ties leaver given name true taken = absurd (cc)
  taken_name ties leaver given name false taken = cc

  not_owner : (ties : TiesValue) (leaver given name : List ℕ) → taken_in ties leaver (Some given) ≡ Some name
      → given ≢ ties.table.owner
  not_owner ties leaver given name taken same =
      let own : pointwise nat_eq given ties.table.owner ≡ true = (bytes_eq-Decides given ties.table.owner).1 same in
      elim (cases_Bool (has_settled_near ties leaver)) [
        | inl settled ↦ let wrong : None ≡ Some name = rw settled at taken in absurd (cc)
        | inr none ↦ let wrong : None ≡ Some name = rw (none, own) at taken in absurd (cc)
      ]

  leave_has : (from : List ℕ) (replacement : Option (List ℕ)) → IsName (settings_of node) from
      → IfSome replacement (IsName (settings_of node)) → from ≢ name_of node
      → kind_in (told_leave node.ties from replacement).table t ≡ Some Pin
  leave_has from replacement sender given apart = by_given replacement given
    where
      after : TiesValue
      after = marked node.ties from

      after_are : AreTies after
      after_are = AreTies-marked node.ties from is.ties sender apart

      marked_has : kind_in after.table t ≡ Some Pin
      marked_has =
          kind_in-marked node.ties.table from is.ties.table sender apart t ∙ keeps_pin from t kind_marked refl (link_to node t) pin

      by_taken : (name : List ℕ) → IsName (settings_of node) name → name ≢ name_of node → kind_in (offered after name).table t ≡ Some Pin
      by_taken name is_name other =
          kind_in-offered after.table name after_are.table is_name other t
          ∙ keeps_pin name t (kind_offered (has_room_near after.table name)) refl (kind_in after.table t) marked_has

      by_found : (given : List ℕ) → IsName (settings_of node) given → (found : Option (List ℕ))
          → taken_in after from (Some given) ≡ found → kind_in (offered_if after found).table t ≡ Some Pin
      by_found given is_name None same = marked_has
      by_found given is_name (Some name) same =
          let one : given ≡ name =
          taken_name after from given name (has_settled_near after from || pointwise nat_eq given after.table.owner) same in
          by_taken name (subst (IsName (settings_of node)) one is_name)
          (λ own. not_owner after from given name same (one ∙ own))

      by_given : (replacement : Option (List ℕ)) → IfSome replacement (IsName (settings_of node))
          → kind_in (told_leave node.ties from replacement).table t ≡ Some Pin
      by_given None given = marked_has
      by_given (Some name) given = by_found name given (taken_in after from (Some name)) refl

  -- what comes: a frame that has a spelling and isn't strange
  abbrev Brings : Cause → Type 0
  Brings (Takes from body) =
      IsName (settings_of node) from × IsBody (settings_of node) body × (is_strange node (frame_to node from body) ≡ false)
  Brings (Starts start) = Unit {0}

  -- a word of the target that ends the pin
  abbrev Frees : Cause → Type 0
  Frees (Takes from body) = (from ≡ t) × ((body ≡ Release) ⊎ (body ≡ Forget))
  Frees (Starts start) = ⊥

  -- the node has the pin, or it has just been ended, or the node has
  abbrev KeepsPin : Cause → Reaction → Type 0
  KeepsPin cause r = HasPin r.state ⊎ (Frees cause ⊎ IsEndedStatus r.state.status)

  asked_has : {cause : Cause} {request : Request} → IsAsked node cause request → Brings cause → HasPin (with_pin node request.joiner)
  asked_has (BySeek {from = from} {joiner = joiner} {prefix = prefix} ends) brings =
      pinned_has joiner brings.1 (seek_fits node from joiner prefix brings.2 ends).apart
  asked_has ByTell brings = pinned_has _ brings.1.joiner_is (tell_fits node _ _ _ brings.2).apart

  case_keeps : {status : Status} {cause : Cause} {r : Reaction} → RuleCase node status cause r → Brings cause → KeepsPin cause r
  case_keeps (GreetedBefore before) brings = inl (pinned_has _ brings.1.joiner_is (tell_fits node _ _ _ brings.2).apart)
  case_keeps (Greets before) brings = inl (pinned_has _ brings.1.joiner_is (tell_fits node _ _ _ brings.2).apart)
  case_keeps (CoveredBefore asked turn) brings = inl (asked_has asked brings)
  case_keeps (CoversAlone asked turn zero) brings = inl (asked_has asked brings)
  case_keeps (CoversOn asked turn some) brings = inl (asked_has asked brings)
  case_keeps (IsGreeted {from = from} {core = core} {links = links}) brings = inl (hello_has from core links brings.0 brings.1.1.names)
  case_keeps (HasCeased given_up) brings = inr (inr (inr refl))
  case_keeps (IsGoneNow parting none) brings = inr (inr (inl refl))
  case_keeps (IsReleased {from = from} at) brings =
      elim (others_stay from t (kind_released (has_room_near node.ties.table from)) _ (link_to node t)
      (kind_in-released node.ties.table from is.ties.table brings.0 (not_own node (frame_to node from Release) brings.2) t)) [
        | inl same ↦ inr (inl (sym same, inl refl))
        | inr stays ↦ inl (stays ∙ pin)
      ]
  case_keeps (IsForgottenBy {from = from} at) brings =
      elim (others_stay from t kind_forgotten _ (link_to node t)
      (kind_in-forgotten node.ties.table from is.ties.table brings.0 (not_own node (frame_to node from Forget) brings.2) t)) [
        | inl same ↦ inr (inl (sym same, inr refl))
        | inr stays ↦ inl (stays ∙ pin)
      ]
  case_keeps (MarksLeaver {from = from} {replacement = replacement}) brings =
      inl (leave_has from replacement brings.0 brings.1 (not_own node (frame_to node from (Leave replacement)) brings.2))
  case_keeps (DropsLeaver {from = from}) brings =
      inl (kind_in-removed node.ties.table from is.ties.table brings.0 (not_own node (frame_to node from Gone) brings.2) t
      ∙ keeps_pin from t kind_removed refl (link_to node t) pin)
  case_keeps _ brings = inl pin

  -- and so does what is done, whatever the pointers and the stamp are then
  done_keeps : (cause : Cause) → Brings cause → (r : Reaction) (acted : Acted) → RuleCase node node.status cause r
      → IsCarriedOut node r acted → HasPin acted.state ⊎ (Frees cause ⊎ IsEndedStatus acted.state.status)
  done_keeps cause brings r acted case carried =
      elim (case_keeps case brings) [
        | inl has ↦ inl (ap (λ (u : TiesValue). kind_in u.table t) carried.ties ∙ has)
        | inr (inl frees) ↦ inr (inl frees)
        | inr (inr over) ↦ inr (inr (subst IsEndedStatus (sym carried.status) over))
      ]

pub pins_stay : PinsStay
pins_stay node (TakesFrame frame) t is fields pin =
    each_take node (λ acted. (link_to acted.state t ≡ Some Pin) ⊎ (FreesPin t (TakesFrame frame) ⊎ IsEndedStatus acted.state.status))
    (inl pin) frame (inl pin)
    (λ known. done_keeps node is t pin (Takes frame.from frame.body) (fields.sender, fields.body, known))
pins_stay node (StartsOne start) t is fields pin =
    each_start node (λ acted. (link_to acted.state t ≡ Some Pin) ⊎ (FreesPin t (StartsOne start) ⊎ IsEndedStatus acted.state.status))
    (inl pin) start (done_keeps node is t pin (Starts start) tt)
