-- Each move of a run of joins alone keeps how few Releases are sent.
use Rattle.std.proofs.Common.{◌≡◌, ◌≢◌, ◌⊎◌, ℕ, nat_eq, ◌+◌, ◌≤◌, Bool, true, false, cond, List, [], ◌∷◌, Option, None, Some, arith, ap, refl, sym, subst, ◌∙◌, inl, inr}
use Rattle.std.specs.Prelude.{IfSome, count_by, ◌&&◌}
use Rattle.std.specs.Cmp.Lexicographic.{pointwise}
use Rattle.std.proofs.Math.Bool.{and-false}
use Rattle.std.proofs.lemmas.List.Elements.{All-cons, All-nil}
use Rattle.tap_name.specs.Settings.{SettingsValue}
use Rattle.tap_join.specs.Hello.{hello_names}
use Rattle.tap_join.proofs.Hellos.{holders_stay}
use Rattle.tap_wire.specs.declared.frame.Body.{Body}
use Rattle.tap_wire.specs.declared.frame.Body.TheVariants.{Done, Seek}
use Rattle.tap_wire.specs.declared.frame.Frame.{Frame}
use Rattle.tap_rule.specs.Act.{act}
use Rattle.tap_rule.specs.Covering.{Request}
use Rattle.tap_rule.specs.Event.{Acted}
use Rattle.tap_rule.specs.Event.Event.{Starts}
use Rattle.tap_rule.specs.Event.Start.{Join}
use Rattle.tap_rule.specs.FrameRules.{rule_of_frame}
use Rattle.tap_rule.proofs.Cases.{IsAnswer, IsAsked, IsLate, RuleCase}
use Rattle.tap_rule.proofs.Cases.Cause.{Takes}
use Rattle.tap_rule.proofs.Cases.IsAnswer.{ByAck, ByHeard}
use Rattle.tap_rule.proofs.Cases.IsAsked.{BySeek, ByTell}
use Rattle.tap_rule.proofs.Cases.IsCast.{ByCopy}
use Rattle.tap_rule.proofs.Cases.IsParting.{OneLeft}
use Rattle.tap_rule.proofs.Cases.RuleCase.{CastBefore, CastsAlone, CastsOn, Closes, Counts, CoveredBefore, CoversAlone, CoversOn, DropsLeaver, HasCeased, HearsAlone, HearsNew, HearsOld, IsCoreNow, IsForgottenBy, IsGoneNow, IsGreeted, IsOff, MarksLeaver, WantsForgotten}
use Rattle.tap_rule.proofs.EachRule.{each_rule}
use Rattle.tap_rule.specs.KeptNode.{IsNode}
use Rattle.tap_rule.specs.RuleLaws.{IsCarriedOut, IsIgnored, frame_to}
use Rattle.tap_rule.specs.Node.{NodeState, Status, joiner, name_of}
use Rattle.tap_rule.specs.Reaction.{Message, Reaction, message}
use Rattle.tap_rule.specs.Sending.{message_frame}
use Rattle.tap_rule.proofs.CarriedOut.{frame_law, unruled_law}
use Rattle.tap_safety.specs.Move.{MayJoin}
use Rattle.tap_safety.specs.Move.Move.{Begins, Delivers}
use Rattle.tap_safety.specs.Moved.{moved}
use Rattle.tap_safety.specs.System.{System, AmongFrames}
use Rattle.tap_safety.proofs.Said.{said_of}
use Rattle.tap_moves.specs.ByRule.{taken_at}
use Rattle.tap_moves.specs.InvariantLaws.{IsDelivery}
use Rattle.tap_moves.proofs.Got.{same_name}
use Rattle.tap_safety_moves.specs.Sound.{Sound}
use Rattle.tap_safety_moves.proofs.Delivered.{is_delivery}
use Rattle.tap_bounds.specs.Traffic.{Traffic, traffic_after}
use Rattle.tap_bounds.proofs.Counting.{CountsMessages, count-append, count-cons, count-map_none, counted}
use Rattle.tap_bounds.specs.LinkBounds.{is_link_on, is_release, links_on, releases_pin}
use Rattle.tap_bounds.specs.OfJoins.{IsJoinBody}
use Rattle.tap_bounds.proofs.JoinRules.{IsJoinStep, IsPlainNode, IsUnreleasing, JoinsOrIsCore, MayRelease, rule_joins}
use Rattle.tap_bounds.proofs.JoinsKept.{AreOfJoins, of_frame}
use Rattle.tap_bounds.proofs.Made.{IsMade, delivery_made, join_made}
use Rattle.tap_bounds.proofs.OfJoins.{begins, begins_so}
use Rattle.tap_bounds.proofs.Releases.{ReleasesStep, answers_owed, hears_owed, owed, owed_by, pays_owed, stays_owed}
use Rattle.tap_bounds.proofs.Words.{apart_test, same_test}

-- ---- what a rule sends

-- one for a Link that says that there is a link
abbrev said : List ℕ → Body → List ℕ → ℕ
said from body x = cond (links_on body && pointwise nat_eq from x) 1 0

module _ (node : NodeState) (is : IsNode node) (plain : IsPlainNode node) (from : List ℕ) where
  -- status and holders stay, at a frame at which no Release is sent; or as few Releases are sent as are owed
  abbrev Owes : Body → Reaction → Type 0
  Owes body r =
      ((r.state.status ≡ node.status) × (r.state.ties.holders ≡ node.ties.holders) × (MayRelease body → ⊥))
      ⊎ ReleasesStep node (said from body) r

  is_answer : {session : ℕ} {body : Body} → IsAnswer session body → MayRelease body → ⊥
  is_answer ByHeard may = may
  is_answer ByAck may = may

  is_asked : {body : Body} {request : Request} → IsAsked node (Takes from body) request → MayRelease body → ⊥
  is_asked (BySeek found) may = may
  is_asked ByTell may = may

  case_owes : {status : Status} {body : Body} {r : Reaction} → RuleCase node status (Takes from body) r → node.status ≡ status
      → IsJoinBody body → Owes body r
  case_owes (IsGreeted {core = core} {links = links}) at of = inl (refl, holders_stay (hello_names from core links) node.ties, λ may. may)
  case_owes (IsCoreNow keeps_on) at of = inr (pays_owed node (said from Done) is at)
  case_owes (HasCeased given_up) at of = let wrong : false ≡ true = sym plain.goes_on ∙ given_up in absurd (cc)
  case_owes (HearsAlone {version = version} {on = on}) at of = inr (hears_owed node from version on at)
  case_owes (HearsOld {version = version} {on = on} IsLate.IsCore old) at of = inr (answers_owed node from version on false old at)
  case_owes (HearsNew {version = version} {on = on} IsLate.IsCore new) at of = inr (answers_owed node from version on true new at)
  case_owes (HearsOld IsLate.IsLeaving old) at of = absurd (subst JoinsOrIsCore at plain.status)
  case_owes (HearsNew IsLate.IsLeaving new) at of = absurd (subst JoinsOrIsCore at plain.status)
  case_owes WantsForgotten at of = absurd (subst JoinsOrIsCore at plain.status)
  case_owes IsOff at of = absurd (subst JoinsOrIsCore at plain.status)
  case_owes (IsForgottenBy early) at of = absurd of
  case_owes (Counts answers kind others) at of = inl (refl, refl, is_answer kind)
  case_owes (Closes answers kind closed) at of = inl (refl, refl, is_answer kind)
  case_owes (CoveredBefore asked turn) at of = inl (refl, refl, is_asked asked)
  case_owes (CoversAlone asked turn none) at of = inl (refl, refl, is_asked asked)
  case_owes (CoversOn asked turn some) at of = inl (refl, refl, is_asked asked)
  case_owes MarksLeaver at of = absurd of
  case_owes DropsLeaver at of = absurd of
  case_owes (CastBefore ByCopy turn) at of = absurd of
  case_owes (CastsAlone ByCopy turn) at of = absurd of
  case_owes (CastsOn ByCopy turn) at of = absurd of
  case_owes (IsGoneNow OneLeft last) at of = absurd of
  case_owes _ at of = inl (refl, refl, λ may. may)

  rule_owes : (body : Body) → IsJoinBody body → IfSome (rule_of_frame node.status node from body) (Owes body)
  rule_owes body of = each_rule node (Owes body) node.status (Takes from body) (λ r case. case_owes case refl of)

  pays : (body : Body) (r : Reaction) → IsJoinStep node body r → Owes body r → ReleasesStep node (said from body) r
  pays body r step (inr sends) = sends
  pays body r step (inl stays) =
      elim step.unreleasing [
        | inl all ↦ stays_owed node (said from body) r all stays.0 stays.1
        | inr may ↦ absurd (stays.2 may)
      ]

-- ---- what a node sends

-- Of a step: what it sends of Releases, with what it owes afterwards, is at most what it owed before, and these more; and nobody sends in
-- another's name.
record ActsOnReleases (node : NodeState) (acted : Acted) (more : List ℕ → ℕ) : Type 0 where
  each : (x : List ℕ) → count_by (is_release (name_of node) x) acted.sent + owed acted.state x ≤ owed node x + more x
  others : (t x : List ℕ) → t ≢ name_of node → count_by (is_release t x) acted.sent ≡ 0

release_tests : (t x : List ℕ) → CountsMessages (is_release t x)
release_tests t x = record { links = λ own word. refl; lays = λ own l. refl }

-- what a node sends isn't from another name
release_from : (own t x : List ℕ) → t ≢ own → (m : Message) → is_release t x (message_frame own m) ≡ false
release_from own t x other m =
    let apart = apart_test own t (λ same. other (sym same)) in rw apart (and-false (releases_pin m.body))

carried_releases : (node : NodeState) (r : Reaction) (acted : Acted) (more : List ℕ → ℕ) → IsCarriedOut node r acted
    → ReleasesStep node more r → ActsOnReleases node acted more
carried_releases node r acted more carried step = record {
  each = λ x.
      let all = counted (is_release (name_of node) x) (release_tests (name_of node) x) node r acted carried in
      let same : owed acted.state x ≡ owed r.state x =
      ap (λ st. owed_by st acted.state.ties x) carried.status ∙ ap (λ ties. owed_by r.state.status ties x) carried.ties in
      let few = step.each x in
      omega (arith, all, same, few);
  others = λ t x other.
      counted (is_release t x) (release_tests t x) node r acted carried
      ∙ count-map_none (is_release t x) (message_frame (name_of node)) (release_from (name_of node) t x other) r.messages;
}

ignored_releases : (node : NodeState) (acted : Acted) (more : List ℕ → ℕ) → IsIgnored node acted → ActsOnReleases node acted more
ignored_releases node acted more ignored = record {
  each = λ x.
      let none = ap (count_by (is_release (name_of node) x)) ignored.sent in
      let same = ap (λ (n : NodeState). owed n x) ignored.state in
      omega (arith, none, same);
  others = λ t x other. ap (count_by (is_release t x)) ignored.sent;
}

frame_releases : (p : SettingsValue) (s : System) (number : ℕ) (node : NodeState) (from : List ℕ) (body : Body)
    → IsDelivery p s number node from body → IsPlainNode node → IsJoinBody body
    → ActsOnReleases node (taken_at node from body) (said from body)
frame_releases p s number node from body is plain of =
    let is_node = (is.nodes.nodes (name_of node) node is.at).is_node in
    by is_node (rule_of_frame node.status node from body) refl (rule_joins node plain from body of)
    (rule_owes node is_node plain from body of)
  where
    by : (is_node : IsNode node) (rule : Option Reaction) → rule_of_frame node.status node from body ≡ rule
        → IfSome rule (IsJoinStep node body) → IfSome rule (Owes node is_node plain from body)
        → ActsOnReleases node (taken_at node from body) (said from body)
    by is_node None none step owes =
        ignored_releases node (taken_at node from body) (said from body) (unruled_law node (frame_to node from body) none)
    by is_node (Some r) some step owes =
        carried_releases node r (taken_at node from body) (said from body)
        (frame_law node (frame_to node from body) r is.known some) (pays node is_node plain from body r step owes)

-- ---- a system

abbrev pub owed_in : Option NodeState → List ℕ → ℕ
owed_in None x = 0
owed_in (Some node) x = owed node x

-- a name has sent another at most as many Releases, with what it owes it, as it has taken Links with on 1 from it
pub record ReleasesAreFew (s : System) (r : Traffic) : Type 0 where
  pub each : (t x : List ℕ) → count_by (is_release t x) r.sent + owed_in (s.node t) x ≤ count_by (is_link_on x t) r.taken

module _ (s s' : System) (r r' : Traffic) (node : NodeState) (acted : Acted) (frames : List Frame)
    (made : IsMade s s' r r' (name_of node) acted frames) (was : (x : List ℕ) → owed_in (s.node (name_of node)) x ≡ owed node x)
    (acts : ActsOnReleases node acted (λ x. count_by (is_link_on x (name_of node)) frames)) (few : ReleasesAreFew s r) where
  abbrev self : List ℕ
  self = name_of node

  total : (test : Frame → Bool) → count_by test r'.sent ≡ count_by test r.sent + count_by test acted.sent
  total test = ap (count_by test) made.sent ∙ count-append test r.sent acted.sent

  taken : (test : Frame → Bool) → count_by test r'.taken ≡ count_by test r.taken + count_by test frames
  taken test = ap (count_by test) made.taken ∙ count-append test r.taken frames

  own_kept : (x : List ℕ) → count_by (is_release self x) r'.sent + owed_in (s'.node self) x ≤ count_by (is_link_on x self) r'.taken
  own_kept x =
      let sum = total (is_release self x) in
      let links = taken (is_link_on x self) in
      let old = few.each self x in
      let before = was x in
      let now = ap (λ n. owed_in n x) made.at in
      let step = acts.each x in
      omega (arith, sum, links, old, before, now, step)

  other_kept : (t x : List ℕ) → t ≢ self → s'.node t ≡ s.node t
      → count_by (is_release t x) r'.sent + owed_in (s'.node t) x ≤ count_by (is_link_on x t) r'.taken
  other_kept t x other stays =
      let sum = total (is_release t x) in
      let none = acts.others t x other in
      let links = taken (is_link_on x t) in
      let old = few.each t x in
      let same = ap (λ n. owed_in n x) stays in
      omega (arith, sum, none, links, old, same)

  releases_kept : ReleasesAreFew s' r'
  releases_kept = record {
    each = λ t x. elim (same_name t self) [
      | inl same ↦
          subst (λ y. count_by (is_release y x) r'.sent + owed_in (s'.node y) x ≤ count_by (is_link_on x y) r'.taken) (sym same)
          (own_kept x)
      | inr other ↦
          other_kept t x other (elim (made.others t) [ inl same ↦ absurd (other same) | inr stays ↦ stays ])
    ];
  }

-- ---- moves

-- the frame says as much as is counted of it
says_one : (node : NodeState) (from : List ℕ) (body : Body) (x : List ℕ)
    → count_by (is_link_on x (name_of node)) (frame_to node from body ∷ []) ≡ said from body x
says_one node from body x =
    let own = same_test (name_of node) in
    let all = count-cons (is_link_on x (name_of node)) (frame_to node from body) [] in
    let here : cond {A = ℕ} (is_link_on x (name_of node) (frame_to node from body)) 1 0 ≡ said from body x =
    and_true (links_on body) (pointwise nat_eq from x) own in
    omega (arith, all, here)
  where
    and_true : (c d : Bool) {e : Bool} → e ≡ true → cond {A = ℕ} (c && (d && e)) 1 0 ≡ cond {A = ℕ} (c && d) 1 0
    and_true true true is = rw is refl
    and_true true false is = refl
    and_true false d is = refl

module _ (p : SettingsValue) (members : List (List ℕ)) (s : System) (r : Traffic) (sound : Sound p s) (are : AreOfJoins members s r)
    (few : ReleasesAreFew s r) where
  pub delivery_releases : (number : ℕ) (frame : Frame) (node : NodeState) → AmongFrames number frame s.frames
      → s.node frame.to ≡ Some node → ReleasesAreFew (moved p s (Delivers number)) (traffic_after p s r (Delivers number))
  delivery_releases number frame node among at =
      let is = is_delivery p s number frame node sound among at in
      let of = of_frame (said_of frame.body) (are.ways number frame among) in
      let acts = frame_releases p s number node frame.from frame.body is (are.nodes frame.to node at) of in
      let here = is.at in
      releases_kept s (moved p s (Delivers number)) r (traffic_after p s r (Delivers number)) node (taken_at node frame.from frame.body)
      (frame_to node frame.from frame.body ∷ []) (delivery_made p s r number node frame.from frame.body is)
      (λ x. ap (λ n. owed_in n x) here)
      (record {
        each = λ x.
            let one = acts.each x in
            let same = says_one node frame.from frame.body x in
            omega (arith, one, same);
        others = acts.others;
      }) few

  pub join_releases : (x via : List ℕ) → MayJoin p s x via
      → ReleasesAreFew (moved p s (Begins x (Join via))) (traffic_after p s r (Begins x (Join via)))
  join_releases x via may =
      let none = may.fresh in
      let acted = act (joiner p x) (Starts (Join via)) in
      releases_kept s (moved p s (Begins x (Join via))) r (traffic_after p s r (Begins x (Join via))) (joiner p x) acted []
      (join_made p s r x via) (λ y. ap (λ n. owed_in n y) none)
      (carried_releases (joiner p x) (begins p x via) acted (λ y. 0) (begins_so p x via)
      (stays_owed (joiner p x) (λ y. 0) (begins p x via)
      (All-cons (λ m. IsUnreleasing m.body) (message via (Seek x)) [] tt (All-nil (λ m. IsUnreleasing m.body))) refl refl)) few
