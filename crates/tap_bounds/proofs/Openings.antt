-- Each possible move keeps that a node opens few sessions of one joiner; so it holds at each moment of a run.
use Rattle.std.proofs.Common.{◌≡◌, ◌≢◌, ◌⊎◌, ◌==◌, ℕ, nat_eq, ◌+◌, ◌≤◌, Bool, true, false, cond, List, [], ◌∷◌, ◌++◌, Option, None, Some, arith, ap, refl, sym, subst, ◌∙◌, inl, inr}
use Rattle.std.specs.Prelude.{count_by, ◌&&◌, if◌then◌else◌}
use Rattle.std.specs.Cmp.Lexicographic.{pointwise}
use Rattle.std.proofs.lemmas.Bool.{cases_Bool, eq-eqb, ne_eqb}
use Rattle.std.proofs.lemmas.Slice.Eq.{bytes_eq-Decides}
use Rattle.tap_name.specs.Names.{has_name}
use Rattle.tap_name.specs.Settings.{SettingsValue}
use Rattle.tap_wire.specs.declared.frame.Body.{Body}
use Rattle.tap_wire.specs.declared.frame.Frame.{Frame}
use Rattle.tap_rule.specs.Act.{act}
use Rattle.tap_rule.specs.Event.{Acted, Start}
use Rattle.tap_rule.specs.Event.Event.{Starts}
use Rattle.tap_rule.specs.Event.Start.{Join, Abandon, Publish, Withdraw, Find, Leave, Cast}
use Rattle.tap_rule.specs.RuleLaws.{frame_to}
use Rattle.tap_rule.specs.Node.{NodeState, joiner, member_at_rest, name_of}
use Rattle.tap_safety.specs.AtRest.{member_of, system_at_rest}
use Rattle.tap_safety.specs.Move.{Move, may_start}
use Rattle.tap_safety.specs.Move.Move.{Begins, Delivers}
use Rattle.tap_safety.specs.Moved.{moved, starter}
use Rattle.tap_safety.specs.System.{System, AmongFrames}
use Rattle.tap_safety.specs.Turned.{joiner_of}
use Rattle.tap_safety.proofs.Moved.{starts}
use Rattle.tap_safety.proofs.Said.{said_of}
use Rattle.tap_moves.specs.ByRule.{taken_at}
use Rattle.tap_moves.specs.Delivered.{after_delivery, after_start}
use Rattle.tap_moves.specs.InvariantLaws.{IsDelivery}
use Rattle.tap_moves.proofs.Got.{same_name}
use Rattle.tap_moves.proofs.InvariantMoves.{due}
use Rattle.tap_moves.proofs.MovesMade.{by_rule, is_found}
use Rattle.tap_safety_moves.specs.SoundMoves.{after_moves, may_run}
use Rattle.tap_safety_moves.specs.Sound.{Sound}
use Rattle.tap_safety_moves.proofs.Members.{sound_at_rest}
use Rattle.tap_safety_moves.proofs.SoundMoves.{move_keeps}
use Rattle.tap_safety_moves.proofs.Delivered.{is_delivery}
use Rattle.tap_bounds.specs.Openings.{FewAreOpened, MoveKeepsOpened, OpenedAreFew, OpenedAtRest, Opening, RunOpensFew, is_opened_at, is_opened_for, most_opened, opened_by_move, opened_by_moves}
use Rattle.tap_bounds.proofs.Counting.{count-append, count-cons}
use Rattle.tap_bounds.proofs.OpenSteps.{opened_most}
use Rattle.tap_bounds.proofs.OpenActs.{ActedOpens, frame_opens, rule_opens, start_opens}

-- ---- what that makes of a system

-- one for the joiner, if it opens one
abbrev added : List ℕ → List ℕ → Bool → List Opening
added own b more = cond more (record { at = own; joiner = b } ∷ []) []

count_added : (test : Opening → Bool) (own b : List ℕ) (more : Bool)
    → count_by test (added own b more) ≡ cond {A = ℕ} (more && test (record { at = own; joiner = b })) 1 0
count_added test own b true = let one = count-cons test (record { at = own; joiner = b }) [] in omega (arith, one)
count_added test own b false = refl

test_itself : (own : List ℕ) (more : Bool) → cond {A = ℕ} (more && pointwise nat_eq own own) 1 0 ≡ cond {A = ℕ} more 1 0
test_itself own more = let same = (bytes_eq-Decides own own).1 refl in rw same (by more)
  where
    by : (m : Bool) → cond {A = ℕ} (m && true) 1 0 ≡ cond {A = ℕ} m 1 0
    by true = refl
    by false = refl

test_for : (own b d : List ℕ) (more : Bool) → cond {A = ℕ} (more && (pointwise nat_eq own own && pointwise nat_eq b d)) 1 0
    ≡ cond {A = ℕ} (more && pointwise nat_eq b d) 1 0
test_for own b d more = let same = (bytes_eq-Decides own own).1 refl in rw same refl

test_apart : (own x : List ℕ) (more rest : Bool) → x ≢ own → (more && (pointwise nat_eq own x && rest)) ≡ false
test_apart own x more rest other =
    elim (cases_Bool (pointwise nat_eq own x)) [
      | inl same ↦ absurd (other (sym ((bytes_eq-Decides own x).0 same)))
      | inr apart ↦ rw apart (by more)
    ]
  where
    by : (m : Bool) → (m && false) ≡ false
    by true = refl
    by false = refl

-- of those of one joiner there are no more than of all
for_at : (x b : List ℕ) (opened : List Opening) → count_by (is_opened_for x b) opened ≤ count_by (is_opened_at x) opened
for_at x b [] = omega arith
for_at x b (o ∷ os) =
    let others = for_at x b os in
    let one = count-cons (is_opened_for x b) o os in
    let two = count-cons (is_opened_at x) o os in
    let here = by (pointwise nat_eq o.at x) (pointwise nat_eq o.joiner b) in
    omega (arith, others, one, two, here)
  where
    by : (c d : Bool) → cond {A = ℕ} (c && d) 1 0 ≤ cond {A = ℕ} c 1 0
    by true true = omega arith
    by true false = omega arith
    by false d = omega arith

module _ (p : SettingsValue) (s s' : System) (opened now : List Opening) (node : NodeState) (b : List ℕ) (more : Bool)
    (acted : Acted) (at : s'.node (name_of node) ≡ Some acted.state) (others : (y : List ℕ) → (y ≡ name_of node) ⊎ (s'.node y ≡ s.node y))
    (opens : ActedOpens p node b more acted) (all : now ≡ opened ++ added (name_of node) b more)
    (old_all : count_by (is_opened_at (name_of node)) opened ≡ node.sessions.opened)
    (old_each : (d : List ℕ) → count_by (is_opened_for (name_of node) d) opened ≤ most_opened p node.status node d)
    (few : OpenedAreFew p s opened) where
  abbrev own : List ℕ
  own = name_of node

  total : (test : Opening → Bool)
      → count_by test now ≡ count_by test opened + cond {A = ℕ} (more && test (record { at = own; joiner = b })) 1 0
  total test =
      let parts = count-append test opened (added own b more) in
      let new = count_added test own b more in
      let same = ap (count_by test) all in
      omega (arith, parts, new, same)

  kept : (x : List ℕ) → x ≢ own → s.node x ≡ s'.node x
  kept x other = elim (others x) [ inl same ↦ absurd (other same) | inr stays ↦ sym stays ]

  state_is : (x : List ℕ) (n : NodeState) → x ≡ own → s'.node x ≡ Some n → acted.state ≡ n
  state_is x n same is = let here : Some acted.state ≡ Some n = sym at ∙ ap s'.node (sym same) ∙ is in cc

  own_all : count_by (is_opened_at own) now ≡ acted.state.sessions.opened
  own_all =
      let sum = total (is_opened_at own) in
      let one = test_itself own more in
      let rises = opens.opened in
      omega (arith, sum, one, rises, old_all)

  own_each : (d : List ℕ) → count_by (is_opened_for own d) now ≤ most_opened p acted.state.status acted.state d
  own_each d =
      let sum = total (is_opened_for own d) in
      let one = test_for own b d more in
      let before = old_each d in
      let most = opens.few d in
      omega (arith, sum, one, before, most)

  others_all : (x : List ℕ) → x ≢ own → count_by (is_opened_at x) now ≡ count_by (is_opened_at x) opened
  others_all x other =
      let sum = total (is_opened_at x) in
      let apart : (more && pointwise nat_eq own x) ≡ false =
      ap (λ test. more && test) (sym (and_true (pointwise nat_eq own x))) ∙ test_apart own x more true other in
      let none : cond {A = ℕ} (more && pointwise nat_eq own x) 1 0 ≡ 0 = rw apart refl in
      omega (arith, sum, none)
    where
      and_true : (c : Bool) → (c && true) ≡ c
      and_true true = refl
      and_true false = refl

  others_each : (x d : List ℕ) → x ≢ own → count_by (is_opened_for x d) now ≡ count_by (is_opened_for x d) opened
  others_each x d other =
      let sum = total (is_opened_for x d) in
      let none : cond {A = ℕ} (more && (pointwise nat_eq own x && pointwise nat_eq b d)) 1 0 ≡ 0 =
      rw (test_apart own x more (pointwise nat_eq b d) other) refl in
      omega (arith, sum, none)

  pub opened_kept : OpenedAreFew p s' now
  opened_kept = record {
    all = λ x n is. elim (same_name x own) [
      | inl same ↦
          subst (λ y. count_by (is_opened_at y) now ≡ n.sessions.opened) (sym same)
          (subst (λ (m : NodeState). count_by (is_opened_at own) now ≡ m.sessions.opened) (state_is x n same is) own_all)
      | inr other ↦ others_all x other ∙ few.all x n (kept x other ∙ is)
    ];
    each = λ x d n is. elim (same_name x own) [
      | inl same ↦
          subst (λ y. count_by (is_opened_for y d) now ≤ most_opened p n.status n d) (sym same)
          (subst (λ (m : NodeState). count_by (is_opened_for own d) now ≤ most_opened p m.status m d) (state_is x n same is) (own_each d))
      | inr other ↦
          let stays = others_each x d other in
          let before = few.each x d n (kept x other ∙ is) in
          omega (arith, stays, before)
    ];
    fresh = λ x nobody. elim (same_name x own) [
      | inl same ↦
          let wrong : ◌≡◌ {A = Option NodeState} None (Some acted.state) = sym nobody ∙ ap s'.node same ∙ at in
          absurd (cc)
      | inr other ↦
          let stays = others_all x other in
          let before = few.fresh x (kept x other ∙ nobody) in
          omega (arith, stays, before)
    ];
  }

-- ---- frames

-- what is remembered is what the node has opened
as_opened : (own b : List ℕ) (before after : ℕ) (more : Bool) → after ≡ before + cond {A = ℕ} more 1 0
    → (if after == before then [] else record { at = own; joiner = b } ∷ []) ≡ added own b more
as_opened own b before after true is =
    let apart : (after == before) ≡ false = ne_eqb after before (λ same. omega (arith, is, same)) in rw apart refl
as_opened own b before after false is =
    let same : (after == before) ≡ true = eq-eqb after before (omega (arith, is)) in rw same refl

delivery_keeps : (p : SettingsValue) (s : System) (opened : List Opening) (number : ℕ) (node : NodeState) (from : List ℕ) (body : Body)
    → IsDelivery p s number node from body → OpenedAreFew p s opened
    → OpenedAreFew p (after_delivery p s number) (opened ++ opened_by_move s (Delivers number))
unfolding opened_by_move
delivery_keeps p s opened number node from body is few =
    let comes = due p s number node from body is in
    let step = by_rule p s number node from body comes in
    let here = is.at in
    let found = frame_opens p node (joiner_of body) (frame_to node from body) is.known
    (rule_opens p node from (is.nodes.nodes (name_of node) node is.at) body (said_of body)
    (is.invariant.spelled.each number (frame_to node from body) is.among).body) in
    let acted = taken_at node from body in
    let new : opened_by_move s (Delivers number)
    ≡ (if acted.state.sessions.opened == node.sessions.opened then [] else record { at = name_of node; joiner = joiner_of body } ∷ []) =
    rw (is_found p s number node from body comes, here) refl in
    opened_kept p s (after_delivery p s number) opened (opened ++ opened_by_move s (Delivers number)) node (joiner_of body) found.more acted
    step.at.is
    step.at.others found.opens
    (ap (λ os. opened ++ os) (new ∙ as_opened (name_of node) (joiner_of body) node.sessions.opened acted.state.sessions.opened found.more
    found.opens.opened))
    (few.all (name_of node) node is.at) (λ d. few.each (name_of node) d node is.at) few

frame_keeps : (p : SettingsValue) (s : System) (opened : List Opening) (number : ℕ) (frame : Frame) (node : NodeState) → Sound p s
    → OpenedAreFew p s opened → AmongFrames number frame s.frames → s.node frame.to ≡ Some node
    → OpenedAreFew p (after_delivery p s number) (opened ++ opened_by_move s (Delivers number))
frame_keeps p s opened number frame node sound few among at =
    delivery_keeps p s opened number node frame.from frame.body (is_delivery p s number frame node sound among at) few

-- ---- starts

starter_keeps : (p : SettingsValue) (s : System) (opened : List Opening) (start : Start) (node : NodeState)
    → starter p s (name_of node) start ≡ Some node → count_by (is_opened_at (name_of node)) opened ≡ node.sessions.opened
    → ((d : List ℕ) → count_by (is_opened_for (name_of node) d) opened ≤ most_opened p node.status node d) → OpenedAreFew p s opened
    → OpenedAreFew p (after_start p s (name_of node) start) (opened ++ opened_by_move s (Begins (name_of node) start))
unfolding opened_by_move
starter_keeps p s opened start node there old_all old_each few =
    let done = (starts p s (name_of node) start node there).done in
    opened_kept p s (after_start p s (name_of node) start) opened (opened ++ []) node [] false
    (act node (Starts start)) done.is done.others (start_opens p node start) refl old_all old_each few

-- a node that is there starts something
here_keeps : (p : SettingsValue) (s : System) (opened : List Opening) (x : List ℕ) (start : Start) (node : NodeState)
    → s.node x ≡ Some node → starter p s x start ≡ Some node → Sound p s → OpenedAreFew p s opened
    → OpenedAreFew p (after_start p s x start) (opened ++ opened_by_move s (Begins x start))
here_keeps p s opened x start node at there sound few =
    let name : name_of node ≡ x = (sound.nodes.nodes x node at).name in
    subst (λ y. OpenedAreFew p (after_start p s y start) (opened ++ opened_by_move s (Begins y start))) name
    (starter_keeps p s opened start node (subst (λ y. starter p s y start ≡ Some node) (sym name) there)
    (few.all (name_of node) node (ap s.node name ∙ at)) (λ d. few.each (name_of node) d node (ap s.node name ∙ at)) few)

join_keeps : (p : SettingsValue) (s : System) (opened : List Opening) (x via : List ℕ) → s.node x ≡ None → OpenedAreFew p s opened
    → OpenedAreFew p (after_start p s x (Join via)) (opened ++ opened_by_move s (Begins x (Join via)))
join_keeps p s opened x via fresh few =
    let none = few.fresh x fresh in
    starter_keeps p s opened (Join via) (joiner p x) refl (omega (arith, none))
    (λ d. let less = for_at x d opened in omega (arith, none, less)) few

start_keeps : (p : SettingsValue) (s : System) (opened : List Opening) (x : List ℕ) (start : Start) → may_start p s x start → Sound p s
    → OpenedAreFew p s opened → OpenedAreFew p (after_start p s x start) (opened ++ opened_by_move s (Begins x start))
start_keeps p s opened x (Join via) may sound few = join_keeps p s opened x via may.fresh few
start_keeps p s opened x Abandon may sound few = here_keeps p s opened x Abandon may.state may.is may.is sound few
start_keeps p s opened x Leave may sound few = here_keeps p s opened x Leave may.acts.state may.acts.is may.acts.is sound few
start_keeps p s opened x (Publish object) may sound few =
    here_keeps p s opened x (Publish object) may.acts.state may.acts.is may.acts.is sound few
start_keeps p s opened x (Withdraw object) may sound few =
    here_keeps p s opened x (Withdraw object) may.acts.state may.acts.is may.acts.is sound few
start_keeps p s opened x (Find ticket object) may sound few =
    here_keeps p s opened x (Find ticket object) may.acts.state may.acts.is may.acts.is sound few
start_keeps p s opened x (Cast cast level word) may sound few =
    here_keeps p s opened x (Cast cast level word) may.acts.state may.acts.is may.acts.is sound few

-- ---- moves, and runs

pub move_keeps_opened : MoveKeepsOpened
move_keeps_opened p s opened (Begins x start) may sound few = start_keeps p s opened x start may sound few
move_keeps_opened p s opened (Delivers number) may sound few =
    frame_keeps p s opened number may.frame may.receiver.state sound few may.among may.receiver.is

pub few_are_opened : FewAreOpened
few_are_opened p s opened x b few = by (s.node x) refl
  where
    by : (found : Option NodeState) → s.node x ≡ found → count_by (is_opened_for x b) opened ≤ p.digits + 2
    by None is =
        let none = few.fresh x is in
        let less = for_at x b opened in
        omega (arith, none, less)
    by (Some node) is =
        let some = few.each x b node is in
        let most = opened_most p node.status node b in
        omega (arith, some, most)

pub opened_at_rest : OpenedAtRest
opened_at_rest p members are = record {
  all = λ x node at. none_opened x node at;
  each = λ x b node at. omega arith;
  fresh = λ x nobody. omega arith;
}
  where
    none_opened : (x : List ℕ) (node : NodeState) → member_of p members x ≡ Some node → 0 ≡ node.sessions.opened
    none_opened x node is = by (has_name members x) refl
      where
        by : (member : Bool) → has_name members x ≡ member → 0 ≡ node.sessions.opened
        by true there =
            let here : Some (member_at_rest p members x) ≡ Some node = rw there at is in
            let same : member_at_rest p members x ≡ node = cc in
            ap (λ (n : NodeState). n.sessions.opened) same
        by false there = let here : ◌≡◌ {A = Option NodeState} None (Some node) = rw there at is in cc

run_from : (p : SettingsValue) (s : System) (opened : List Opening) (moves : List Move) → Sound p s → OpenedAreFew p s opened
    → may_run p s moves → OpenedAreFew p (after_moves p s moves) (opened_by_moves p s opened moves)
run_from p s opened [] sound few may = few
run_from p s opened (move ∷ moves) sound few may =
    run_from p (moved p s move) (opened ++ opened_by_move s move) moves (move_keeps p s move may.0 sound)
    (move_keeps_opened p s opened move may.0 sound few) may.1

pub run_opens_few : RunOpensFew
run_opens_few p members moves are may =
    run_from p (system_at_rest p members) [] moves (sound_at_rest p members are) (opened_at_rest p members are) may
