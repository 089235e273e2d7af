-- How many of the frames of a step pass a test that neither a Link nor a Lay passes: as many as of its messages.
-- Cited above: count-cons
use Rattle.std.proofs.Common.{◌≡◌, ℕ, ◌+◌, ◌≤◌, Bool, true, false, cond, List, [], ◌∷◌, ◌++◌, map, arith, ap, refl, sym, ◌∙◌, inl, inr}
use Rattle.std.specs.Prelude.{count_by}
use Rattle.std.proofs.lemmas.List.Sums.{sum_by-append, sum_by-cons}
use Rattle.tap_table.specs.declared.tie.Tie.{Tie}
use Rattle.tap_pointer.specs.declared.lay.Lay.{Lay}
use Rattle.tap_wire.specs.declared.frame.Frame.{Frame}
use Rattle.tap_rule.specs.Event.{Acted}
use Rattle.tap_rule.specs.RuleLaws.{IsCarriedOut}
use Rattle.tap_rule.specs.Node.{NodeState, Status, name_of}
use Rattle.tap_rule.specs.Node.Status.{Ceased, Core, Gone, Joining, Leaving}
use Rattle.tap_rule.specs.Reaction.{Message, Reaction}
use Rattle.tap_rule.specs.Sending.{by_receiver, lay_frame, link_frame, message_frame}
use Rattle.tap_rule.specs.Sent.{AreSentInOrder, IsAmong}

module _ {X : Type 0} (t : X → Bool) where
  pub count-append : (xs ys : List X) → count_by t (xs ++ ys) ≡ count_by t xs + count_by t ys
  count-append xs ys = sum_by-append (λ x. cond (t x) 1 0) xs ys

  pub count-cons : (x : X) (xs : List X) → count_by t (x ∷ xs) ≡ cond {A = ℕ} (t x) 1 0 + count_by t xs
  count-cons x xs = sum_by-cons (λ y. cond (t y) 1 0) x xs

  -- none of these passes
  pub count-none : (xs : List X) → ((x : X) → IsAmong x xs → t x ≡ false) → count_by t xs ≡ 0
  count-none [] none = refl
  count-none (x ∷ xs) none =
      let first : cond {A = ℕ} (t x) 1 0 ≡ 0 = rw (none x (inl refl)) refl in
      let others = count-none xs (λ y among. none y (inr among)) in
      let all = count-cons x xs in
      omega (arith, first, others, all)

  -- if one passes, they are at least one
  pub count-some : (xs : List X) (x : X) → IsAmong x xs → t x ≡ true → 1 ≤ count_by t xs
  count-some [] x among passes = absurd among
  count-some (y ∷ ys) x (inl is) passes =
      let here : t y ≡ true = ap t (sym is) ∙ passes in
      let first : cond {A = ℕ} (t y) 1 0 ≡ 1 = rw here refl in
      let all = count-cons y ys in
      omega (arith, first, all)
  count-some (y ∷ ys) x (inr later) passes =
      let others = count-some ys x later passes in
      let all = count-cons y ys in
      omega (arith, others, all)

  pub count-map_none : {Y : Type 0} (f : Y → X) → ((y : Y) → t (f y) ≡ false) → (ys : List Y) → count_by t (map f ys) ≡ 0
  count-map_none f none [] = refl
  count-map_none f none (y ∷ ys) =
      let first : cond {A = ℕ} (t (f y)) 1 0 ≡ 0 = rw (none y) refl in
      let others = count-map_none f none ys in
      let all = count-cons (f y) (map f ys) in
      omega (arith, first, others, all)

-- a test that neither a Link nor a Lay passes
pub record CountsMessages (t : Frame → Bool) : Type 0 where
  pub links : (own : List ℕ) (word : Tie) → t (link_frame own word) ≡ false
  pub lays : (own : List ℕ) (l : Lay) → t (lay_frame own l) ≡ false

module _ (t : Frame → Bool) (tests : CountsMessages t) where
  in_order : (own : List ℕ) (words : List Tie) (messages : List Message) (lays : List Lay) (sent : List Frame)
      → AreSentInOrder own words messages lays sent → count_by t sent ≡ count_by t (map (message_frame own) messages)
  in_order own words messages lays sent are =
      let links = map (link_frame own) (by_receiver words) in
      let named = map (message_frame own) messages in
      let laid = map (lay_frame own) lays in
      let all = ap (count_by t) are.all in
      let first = count-append t links (named ++ laid) in
      let second = count-append t named laid in
      let no_link = count-map_none t (link_frame own) (tests.links own) (by_receiver words) in
      let no_lay = count-map_none t (lay_frame own) (tests.lays own) lays in
      omega (arith, all, first, second, no_link, no_lay)

  -- of what a node sends as many pass as of the messages of its rule
  pub counted : (node : NodeState) (r : Reaction) (acted : Acted) → IsCarriedOut node r acted
      → count_by t acted.sent ≡ count_by t (map (message_frame (name_of node)) r.messages)
  counted node r acted carried = by r.state.status refl
    where
      by : (status : Status) → r.state.status ≡ status
          → count_by t acted.sent ≡ count_by t (map (message_frame (name_of node)) r.messages)
      by Joining is = in_order (name_of node) r.words r.messages _ acted.sent (carried.running (rw is tt)).sent
      by Core is = in_order (name_of node) r.words r.messages _ acted.sent (carried.running (rw is tt)).sent
      by Leaving is = in_order (name_of node) r.words r.messages _ acted.sent (carried.running (rw is tt)).sent
      by Gone is = in_order (name_of node) r.words r.messages _ acted.sent (carried.ended (λ runs. let no : ⊥ = rw is at runs in no)).sent
      by Ceased is = in_order (name_of node) r.words r.messages _ acted.sent (carried.ended (λ runs. let no : ⊥ = rw is at runs in no)).sent
