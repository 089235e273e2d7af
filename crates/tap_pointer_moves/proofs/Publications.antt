-- Which pairs are served, and who leaves, after each move.
-- Cited above: frame_serves, leavers_stay, leaves_once, start_serves
use Rattle.std.proofs.Common.{◌≡◌, ◌≢◌, ◌⊎◌, ℕ, nat_eq, not, Bool, true, false, List, length, None, Some, refl, ap, sym, subst, ◌∙◌, inl, inr, if◌then◌else◌}
use Rattle.std.specs.Prelude.{◌&&◌, ◌||◌, bytes_eq}
use Rattle.std.specs.Cmp.Lexicographic.{pointwise}
use Rattle.std.proofs.lemmas.Bool.{cases_Bool, eqb-false, eqb-true}
use Rattle.std.proofs.lemmas.Slice.Eq.{bytes_eq-Decides}
use Rattle.tap_name.specs.Settings.{AreWithinLimits, SettingsValue}
use Rattle.tap_table.specs.Ties.{holders_on}
use Rattle.tap_pointer.specs.declared.pair.Pair.{Pair}
use Rattle.tap_pointer.specs.Pair.{pair_cmp-ties}
use Rattle.tap_pointer.specs.Pointers.{pair_of}
use Rattle.tap_pointer.proofs.Laws.{is_same}
use Rattle.tap_rule.specs.Act.{act}
use Rattle.tap_rule.specs.Event.{Acted, Start}
use Rattle.tap_rule.specs.Event.Event.{Starts}
use Rattle.tap_rule.specs.Event.Start.{Abandon, Cast, Find, Join, Leave, Publish, Withdraw}
use Rattle.tap_rule.specs.Node.{NodeState, Status, joiner}
use Rattle.tap_rule.specs.Node.Status.{Ceased, Core, Gone, Joining, Leaving}
use Rattle.tap_rule.specs.StartRules.{rule_of_start}
use Rattle.tap_rule.proofs.StartSteps.{leave_start_law}
use Rattle.tap_safety.specs.Move.{may_start}
use Rattle.tap_safety.specs.Move.Move.{Begins, Delivers}
use Rattle.tap_safety.specs.Moved.{starter}
use Rattle.tap_safety.specs.System.{System}
use Rattle.tap_safety.proofs.Moved.{starts}
use Rattle.tap_moves.specs.Delivered.{after_delivery, after_start}
use Rattle.tap_moves.proofs.Got.{same_name}
use Rattle.tap_safety_moves.specs.Sound.{Sound}
use Rattle.tap_pointer_moves.specs.Publications.{FrameServes, IsLeaver, LeaversStay, LeavesOnce, StartServes, has_left, is_pair, is_served, publishes_in, served_after}
use Rattle.tap_pointer_moves.specs.Said.{LayWord}
use Rattle.tap_pointer_moves.specs.LaysTold.{PointersStand}
use Rattle.tap_pointer_moves.proofs.Hearing.{publishes}
use Rattle.tap_pointer_moves.proofs.PointersKept.{acts, knows_nothing, now_is, others, start_acts, starts_of, starts_without, there_is_rule}
use Rattle.tap_pointer_moves.proofs.PointerRules as rules
use Rattle.tap_pointer_moves.proofs.PointerRules.{MayBecome, nothing_published}
use Rattle.tap_pointer_moves.proofs.ActsKeep.{Acts}

-- ---- one node acts

left_stays : (before after : Status) → MayBecome before after → has_left before → has_left after
left_stays Joining after may left = absurd left
left_stays Core after may left = absurd left
left_stays Leaving Joining may left = absurd may
left_stays Leaving Core may left = absurd may
left_stays Leaving Leaving may left = tt
left_stays Leaving Gone may left = tt
left_stays Leaving Ceased may left = absurd may
left_stays Gone Joining may left = absurd may
left_stays Gone Core may left = absurd may
left_stays Gone Leaving may left = absurd may
left_stays Gone Gone may left = tt
left_stays Gone Ceased may left = absurd may
left_stays Ceased after may left = absurd left

module _ (Taken : List ℕ → Pair → LayWord → Type 0) (now : Pair → Bool) (s s' : System) (n : List ℕ) (node : NodeState) (acted : Acted)
    (acting : Acts Taken now s s' n node acted) where
  -- the node that acts publishes so, and the others as before
  served_here : (pair : Pair) → pair.server ≡ n → is_served s' pair ≡ now pair
  served_here pair here =
      ap (λ found. publishes_in found pair) (ap s'.node here ∙ acting.at.is) ∙ acting.turn.publishes_so pair

  was_served : (pair : Pair) → pair.server ≡ n → is_served s pair ≡ publishes node.pointers pair
  was_served pair here = ap (λ found. publishes_in found pair) (ap s.node here ∙ acting.at.was)

  served_there : (pair : Pair) → pair.server ≢ n → is_served s' pair ≡ is_served s pair
  served_there pair apart =
      elim (acting.at.others pair.server) [
        | inl here ↦ absurd (apart here)
        | inr same ↦ ap (λ found. publishes_in found pair) same
      ]

  -- who has left stays so
  leaver_stays : (x : List ℕ) → IsLeaver s x → IsLeaver s' x
  leaver_stays x leaver =
      elim (acting.at.others x) [
        | inl here ↦
            let found : Some node ≡ Some leaver.state = sym (ap s.node here ∙ acting.at.was) ∙ leaver.is in
            let same : leaver.state ≡ node = cc in
            let before : has_left node.status = subst (λ (m : NodeState). has_left m.status) same leaver.left in
            record {
              state = acted.state;
              is = ap s'.node here ∙ acting.at.is;
              left = left_stays node.status acted.state.status acting.turn.becomes before;
            }
        | inr same ↦ record { state = leaver.state; is = same ∙ leaver.is; left = leaver.left }
      ]

-- ---- a frame

pub frame_serves : FrameServes
frame_serves p s number pair may sound stand =
    let frame = may.frame in
    let node = may.receiver.state in
    let acting = acts p s number frame node sound stand may.among may.receiver.is in
    elim (same_name pair.server frame.to) [
      | inl here ↦
          served_here _ _ s (after_delivery p s number) frame.to node _ acting pair here
          ∙ sym (was_served _ _ s (after_delivery p s number) frame.to node _ acting pair here)
      | inr apart ↦ served_there _ _ s (after_delivery p s number) frame.to node _ acting pair apart
    ]

-- ---- tests

either_or : (b c : Bool) → (if b then true else c) ≡ (b || c)
either_or true c = refl
either_or false c = refl

neither : (b c : Bool) → (if b then false else c) ≡ (not b && c)
neither true c = refl
neither false c = refl

apart_test : (a b : List ℕ) → a ≢ b → pointwise nat_eq a b ≡ false
apart_test a b apart =
    elim (cases_Bool (bytes_eq a b)) [ inl same ↦ absurd (apart ((bytes_eq-Decides a b).0 same)) | inr differ ↦ differ ]

same_test : (a b : List ℕ) → a ≡ b → pointwise nat_eq a b ≡ true
same_test a b same = (bytes_eq-Decides a b).1 same

and_false : (b : Bool) → (b && false) ≡ false
and_false true = refl
and_false false = refl

apart_pair : (pair this : Pair) → pair.server ≢ this.server → is_pair pair this ≡ false
apart_pair pair this apart =
    ap (λ b. pointwise nat_eq pair.object this.object && b) (apart_test pair.server this.server apart)
    ∙ and_false (pointwise nat_eq pair.object this.object)

-- what a start leaves of a pair that another node serves
others_served : (x : List ℕ) (start : Start) (pair : Pair) (before : Bool) → pair.server ≢ x → served_after x start pair before ≡ before
others_served x (Publish object) pair before apart = ap (λ b. b || before) (apart_pair pair (pair_of object x) apart)
others_served x (Withdraw object) pair before apart = ap (λ b. not b && before) (apart_pair pair (pair_of object x) apart)
others_served x Leave pair before apart = ap (λ b. not b && before) (apart_test pair.server x apart)
others_served x _ pair before apart = refl

-- ---- a start of a node that is there

module _ (p : SettingsValue) (s : System) (x : List ℕ) (start : Start) (node : NodeState) (sound : Sound p s) (stand : PointersStand s)
    (at : s.node x ≡ Some node) (is : starter p s x start ≡ Some node) (ruled : rule_of_start node.status node start ≡ None → ⊥)
    (pair : Pair) where
  pub owner_is : node.pointers.owner ≡ x
  owner_is =
      let of = starts_of p s x start node sound stand at is ruled in
      of.is_node.owner ∙ of.name

  same_pair_test : (object : List ℕ) → is_same pair (pair_of object node.pointers.owner) ≡ is_pair pair (pair_of object x)
  same_pair_test object =
      ap (λ o. is_same pair (pair_of object o)) owner_is ∙ sym (pair_cmp-ties pair (pair_of object x))

  published_so : (kind : Start) → pair.server ≡ x → rules.publishes_by node (starts_of p s x start node sound stand at is ruled).is_node
      (starts_without p s x start node sound stand at is ruled) kind pair ≡ served_after x kind pair (publishes node.pointers pair)
  published_so (Publish object) here =
      either_or (is_same pair (pair_of object node.pointers.owner)) (publishes node.pointers pair)
      ∙ ap (λ b. b || publishes node.pointers pair) (same_pair_test object)
  published_so (Withdraw object) here =
      neither (is_same pair (pair_of object node.pointers.owner)) (publishes node.pointers pair)
      ∙ ap (λ b. not b && publishes node.pointers pair) (same_pair_test object)
  published_so Leave here = sym (ap (λ b. not b && publishes node.pointers pair) (same_test pair.server x here))
  published_so _ here = refl

  there_serves : is_served (after_start p s x start) pair ≡ served_after x start pair (is_served s pair)
  there_serves =
      let acting = start_acts p s x start node sound stand at is ruled in
      elim (same_name pair.server x) [
        | inl here ↦
            served_here _ _ s (after_start p s x start) x node _ acting pair here ∙ published_so start here
            ∙ ap (served_after x start pair) (sym (was_served _ _ s (after_start p s x start) x node _ acting pair here))
        | inr apart ↦
            served_there _ _ s (after_start p s x start) x node _ acting pair apart
            ∙ sym (others_served x start pair (is_served s pair) apart)
      ]

  there_leaves : (y : List ℕ) → IsLeaver s y → IsLeaver (after_start p s x start) y
  there_leaves y leaver =
      leaver_stays _ _ s (after_start p s x start) x node _ (start_acts p s x start node sound stand at is ruled) y leaver

-- ---- all starts

-- the node that starts something else than a join
pub record IsStarter (p : SettingsValue) (s : System) (x : List ℕ) (start : Start) : Type 0 where
  pub node : NodeState
  pub at : s.node x ≡ Some node
  pub is : starter p s x start ≡ Some node
  pub ruled : rule_of_start node.status node start ≡ None → ⊥

pub starter_of : (p : SettingsValue) (s : System) (x : List ℕ) (start : Start) → may_start p s x start
    → ((via : List ℕ) × (start ≡ Join via)) ⊎ IsStarter p s x start
starter_of p s x (Join via) may = inl (via, refl)
starter_of p s x Abandon may =
    inr (record { node = may.state; at = may.is; is = may.is; ruled = there_is_rule p s x Abandon may.state may.is (inl (may.joining, refl)) })
starter_of p s x Leave may =
    inr (record {
      node = may.acts.state;
      at = may.acts.is;
      is = may.acts.is;
      ruled = there_is_rule p s x Leave may.acts.state may.acts.is (inr (may.acts.core, tt));
    })
starter_of p s x (Publish object) may =
    inr (record {
      node = may.acts.state;
      at = may.acts.is;
      is = may.acts.is;
      ruled = there_is_rule p s x (Publish object) may.acts.state may.acts.is (inr (may.acts.core, tt));
    })
starter_of p s x (Withdraw object) may =
    inr (record {
      node = may.acts.state;
      at = may.acts.is;
      is = may.acts.is;
      ruled = there_is_rule p s x (Withdraw object) may.acts.state may.acts.is (inr (may.acts.core, tt));
    })
starter_of p s x (Find ticket object) may =
    inr (record {
      node = may.acts.state;
      at = may.acts.is;
      is = may.acts.is;
      ruled = there_is_rule p s x (Find ticket object) may.acts.state may.acts.is (inr (may.acts.core, tt));
    })
starter_of p s x (Cast cast level word) may =
    inr (record {
      node = may.acts.state;
      at = may.acts.is;
      is = may.acts.is;
      ruled = there_is_rule p s x (Cast cast level word) may.acts.state may.acts.is (inr (may.acts.core, tt));
    })

module _ (p : SettingsValue) (s : System) (x via : List ℕ) (sound : Sound p s) (stand : PointersStand s) (may : may_start p s x (Join via))
  where
    pub limits : AreWithinLimits p
    limits =
        let core = sound.nodes.nodes via may.core.state may.core.is in
        subst AreWithinLimits core.settings core.is_node.ties.table.limits

    joined_serves : (pair : Pair) → is_served (after_start p s x (Join via)) pair ≡ is_served s pair
    joined_serves pair =
        elim (others p s x via sound stand may.fresh limits may.name pair.server) [
          | inl here ↦
              let now : is_served (after_start p s x (Join via)) pair ≡ false =
              ap (λ found. publishes_in found pair)
              (ap (after_start p s x (Join via)).node here ∙ now_is p s x via sound stand may.fresh limits may.name)
              ∙ nothing_published (act (joiner p x) (Starts (Join via))).state.pointers (knows_nothing p s x via sound stand may.fresh limits may.name) pair in
              now ∙ sym (ap (λ found. publishes_in found pair) (ap s.node here ∙ may.fresh))
          | inr same ↦ ap (λ found. publishes_in found pair) same
        ]

    joined_leaves : (y : List ℕ) → IsLeaver s y → IsLeaver (after_start p s x (Join via)) y
    joined_leaves y leaver =
        elim (others p s x via sound stand may.fresh limits may.name y) [
          | inl here ↦
              let there = leaver.is in
              let wrong : None ≡ Some leaver.state = sym may.fresh ∙ ap s.node (sym here) ∙ there in
              absurd (cc)
          | inr same ↦ record { state = leaver.state; is = same ∙ leaver.is; left = leaver.left }
        ]

pub start_serves : StartServes
start_serves p s x start pair may sound stand =
    elim (starter_of p s x start may) [
      | inl joins ↦
          let via = joins.0 in
          let may_join : may_start p s x (Join via) = subst (may_start p s x) joins.1 may in
          subst (λ w. is_served (after_start p s x w) pair ≡ served_after x w pair (is_served s pair)) (sym joins.1)
          (joined_serves p s x via sound stand may_join pair)
      | inr st ↦ there_serves p s x start st.node sound stand st.at st.is st.ruled pair
    ]

-- ---- leavers

pub leavers_stay : LeaversStay
leavers_stay p s (Begins x start) y may sound stand leaver =
    elim (starter_of p s x start may) [
      | inl joins ↦
          let via = joins.0 in
          let may_join : may_start p s x (Join via) = subst (may_start p s x) joins.1 may in
          subst (λ w. IsLeaver (after_start p s x w) y) (sym joins.1) (joined_leaves p s x via sound stand may_join y leaver)
      | inr st ↦ there_leaves p s x start st.node sound stand st.at st.is st.ruled (pair_of y y) y leaver
    ]
leavers_stay p s (Delivers number) y may sound stand leaver =
    leaver_stays _ _ s (after_delivery p s number) may.frame.to may.receiver.state _
    (acts p s number may.frame may.receiver.state sound stand may.among may.receiver.is) y leaver

pub leaves_once : LeavesOnce
leaves_once p s x may sound stand =
    let node = may.acts.state in
    let done = (starts p s x Leave node may.acts.is).done in
    let step = leave_start_law node may.acts.core in
    record {
      state = (act node (Starts Leave)).state;
      is = done.is;
      left = by_holders (length (holders_on node.ties)) refl;
    }
  where
    by_holders : (count : ℕ) → length (holders_on may.acts.state.ties) ≡ count → has_left (act may.acts.state (Starts Leave)).state.status
    by_holders count is =
        elim (cases_Bool (nat_eq count 0)) [
          | inl none ↦
              let zero_is : count ≡ 0 = eqb-true count 0 none in
              subst has_left (sym ((leave_start_law may.acts.state may.acts.core).finishes (is ∙ zero_is)).status) tt
          | inr some ↦
              subst has_left (sym ((leave_start_law may.acts.state may.acts.core).waits (λ zero_is. eqb-false count 0 some (sym is ∙ zero_is))).0)
              tt
        ]
