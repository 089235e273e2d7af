-- Whatever is known of a pair, it was published once.
-- Cited above: ever_at_rest, ever_kept
use Rattle.std.proofs.Common.{◌≡◌, ℕ, Bool, true, false, List, None, Some, refl, ap, sym, subst, ◌∙◌, inl, inr}
use Rattle.std.proofs.lemmas.Bool.{cases_Bool}
use Rattle.tap_name.specs.Settings.{SettingsValue}
use Rattle.tap_pointer.specs.declared.hop.Hop.{Hop}
use Rattle.tap_pointer.specs.declared.pair.Pair.{Pair}
use Rattle.tap_pointer.specs.Due.{hop_due, laid_at}
use Rattle.tap_pointer.specs.Pointers.{level_held, own_pair, pair_of, state_of}
use Rattle.tap_pointer.specs.Pair.{pair_cmp}
use Rattle.tap_pointer.proofs.Known.{pair_cmp-equal}
use Rattle.tap_pointer.proofs.Laws.{is_same}
use Rattle.tap_register.proofs.Orderings.{is_equal}
use Rattle.tap_rule.specs.Act.{act}
use Rattle.tap_rule.specs.Event.{Acted, Start}
use Rattle.tap_rule.specs.Event.Event.{Starts}
use Rattle.tap_rule.specs.Event.Start.{Join, Leave, Publish, Withdraw}
use Rattle.tap_rule.specs.Node.{NodeState, joiner}
use Rattle.tap_rule.specs.Sent.{IsAmong}
use Rattle.tap_rule.proofs.Completed.{runs_or_ended}
use Rattle.tap_safety.specs.Move.{may_start}
use Rattle.tap_safety.specs.Move.Move.{Begins, Delivers}
use Rattle.tap_safety.specs.System.{System}
use Rattle.tap_safety.specs.Ties.{IsOnWay}
use Rattle.tap_moves.specs.Delivered.{after_delivery, after_start}
use Rattle.tap_safety_moves.specs.Sound.{Sound}
use Rattle.tap_safety_moves.proofs.SoundMoves.{move_keeps}
use Rattle.tap_pointer_moves.specs.Ever.{AreOfPublished, EverAtRest, EverKept, HeldWasPublished, LaidWasPublished}
use Rattle.tap_pointer_moves.specs.Paths.{HoldsPair}
use Rattle.tap_pointer_moves.specs.Said.{LayWord, laid_in, laid_of, lay_word_frame, lay_word_kept, pointer_register_of, word_in_entry, word_kept_in}
use Rattle.tap_pointer_moves.specs.LaysTold.{PointersStand, hop_at}
use Rattle.tap_pointer_moves.proofs.Hearing.{publishes}
use Rattle.tap_pointer_moves.proofs.Hops.{off_was, on_is}
use Rattle.tap_pointer_moves.proofs.Levels.{held_at, level_if_held}
use Rattle.tap_pointer_moves.proofs.PointersKept.{acts, knows_nothing, none_known, none_said, now_is, others, pointers_kept, register_same, start_acts, way_was}
use Rattle.tap_pointer_moves.proofs.Publications.{IsStarter, limits, owner_is, starter_of}
use Rattle.tap_pointer_moves.proofs.PointerRules.{nothing_published, published_by}
use Rattle.tap_pointer_moves.proofs.ActsKeep.{Acts}
use Rattle.tap_pointer_moves.proofs.Turns.{lay_saying, nothing_kept}
use Rattle.tap_pointer_moves.proofs.Wanted.{has_laid}

-- ---- what is held and laid

-- what a register of a node has
kept_by : (s : System) (t : List ℕ) (node : NodeState) (pair : Pair) (x : List ℕ) (word : LayWord) → s.node t ≡ Some node
    → lay_word_kept node.pointers pair x ≡ Some word → pointer_register_of s t pair x ≡ Some word
unfolding pointer_register_of
kept_by s t node pair x word at kept = ap (λ n. word_kept_in n pair x) at ∙ kept

kept_of : (s : System) (t : List ℕ) (node : NodeState) (pair : Pair) (x : List ℕ) (word : LayWord) → s.node t ≡ Some node
    → pointer_register_of s t pair x ≡ Some word → lay_word_kept node.pointers pair x ≡ Some word
unfolding pointer_register_of
kept_of s t node pair x word at kept = sym (ap (λ n. word_kept_in n pair x) at) ∙ kept

module _ (s : System) (was : Pair → Bool) (stand : PointersStand s)
    (published_was : (x : List ℕ) (node : NodeState) (pair : Pair) → s.node x ≡ Some node → publishes node.pointers pair ≡ true
    → was pair ≡ true)
    (kept_was : (t x : List ℕ) (pair : Pair) (word : LayWord) → pointer_register_of s t pair x ≡ Some word → was pair ≡ true) where
  -- a pair that has a level is published by the node, or a register has a word of it
  level_was : (x : List ℕ) (node : NodeState) (pair : Pair) (level : ℕ) → s.node x ≡ Some node
      → level_held (state_of node.pointers pair) ≡ Some level → was pair ≡ true
  level_was x node pair level at held =
      elim (held_at (state_of node.pointers pair) level (stand.registers.ascending x node pair at) held) [
        | inl (published, zero_is) ↦ published_was x node pair at published
        | inr by ↦
            let word : LayWord = record { version = by.entry.version; level = by.entry.value.level; on = by.entry.value.on } in
            kept_was x by.entry.key pair word (kept_by s x node pair by.entry.key word at (ap word_in_entry by.found))
      ]

  held_was : (x : List ℕ) (pair : Pair) → HoldsPair s x pair → was pair ≡ true
  held_was x pair holds =
      let level = level_if_held (state_of holds.state.pointers pair) holds.held in
      level_was x holds.state pair level.0 holds.is level.1

  laid_was : (p : SettingsValue) → Sound p s → (x : List ℕ) (pair : Pair) (hop : Hop) → laid_of s x pair ≡ Some hop → was pair ≡ true
  laid_was p sound x pair hop laid =
      let has = has_laid p s sound stand.nothing x pair hop laid in
      level_was x has.node pair has.wanted.level has.at has.wanted.held

pub held_was_published : HeldWasPublished
held_was_published s was x pair stand ever holds = held_was s was stand ever.published ever.kept x pair holds

pub laid_was_published : LaidWasPublished
laid_was_published p s was x pair hop sound stand ever laid = laid_was s was stand ever.published ever.kept p sound x pair hop laid

-- ---- one node acts

module _ (Taken : List ℕ → Pair → LayWord → Type 0) (now : Pair → Bool) (p : SettingsValue) (s s' : System) (n : List ℕ) (node : NodeState)
    (acted : Acted) (acting : Acts Taken now s s' n node acted) (was : Pair → Bool) (sound : Sound p s) (stand : PointersStand s)
    (sound_now : Sound p s') (stands_now : PointersStand s') (ever : AreOfPublished was s)
    (newly : (pair : Pair) → now pair ≡ true → was pair ≡ true) where
  published_now : (x : List ℕ) (state : NodeState) (pair : Pair) → s'.node x ≡ Some state → publishes state.pointers pair ≡ true
      → was pair ≡ true
  published_now x state pair is published =
      elim (acting.at.others x) [
        | inl here ↦
            let found : Some acted.state ≡ Some state = sym (ap s'.node here ∙ acting.at.is) ∙ is in
            let same : acted.state ≡ state = cc in
            newly pair (sym (acting.turn.publishes_so pair) ∙ ap (λ (m : NodeState). publishes m.pointers pair) same ∙ published)
        | inr same ↦ ever.published x state pair (sym same ∙ is) published
      ]

  register_there : (t : List ℕ) (pair : Pair) (x : List ℕ) → s'.node t ≡ s.node t
      → pointer_register_of s' t pair x ≡ pointer_register_of s t pair x
  unfolding pointer_register_of
  register_there t pair x same = ap (λ found. word_kept_in found pair x) same

  kept_now : (t x : List ℕ) (pair : Pair) (word : LayWord) → pointer_register_of s' t pair x ≡ Some word → was pair ≡ true
  kept_now t x pair word kept =
      elim (acting.at.others t) [
        | inl here ↦ by_node (kept_of s' t acted.state pair x word (ap s'.node here ∙ acting.at.is) kept)
        | inr same ↦ ever.kept t x pair word (sym (register_there t pair x same) ∙ kept)
      ]
    where
      by_node : lay_word_kept acted.state.pointers pair x ≡ Some word → was pair ≡ true
      by_node here =
          elim (runs_or_ended acted.state.status) [
            | inl runs ↦ elim ((acting.turn.runs runs).hears.came x pair word here) [
              | inl before ↦ ever.kept n x pair word (kept_by s n node pair x word acting.at.was before)
              | inr taken ↦ ever.ways x n pair word (acting.taken x pair word taken)
            ]
            | inr over ↦
                let none = nothing_kept acted.state.pointers (acting.turn.over over) pair x in
                let wrong : None ≡ Some word = sym none ∙ here in
                absurd (cc)
          ]

  laid_before : (pair : Pair) (hop : Hop) → laid_at node.pointers pair ≡ Some hop → was pair ≡ true
  unfolding laid_of
  laid_before pair hop laid =
      laid_was s was stand ever.published ever.kept p sound n pair hop (ap (λ found. laid_in found pair) acting.at.was ∙ laid)

  laid_after : (pair : Pair) (hop : Hop) → laid_at acted.state.pointers pair ≡ Some hop → was pair ≡ true
  unfolding laid_of
  laid_after pair hop laid =
      laid_was s' was stands_now published_now kept_now p sound_now n pair hop (ap (λ found. laid_in found pair) acting.at.is ∙ laid)

  ways_now : (x t : List ℕ) (pair : Pair) (word : LayWord) → IsOnWay s' (lay_word_frame x t pair word) → was pair ≡ true
  ways_now x t pair word way =
      elim (acting.came x t pair word way) [
        | inl old ↦ ever.ways x t pair word old
        | inr new ↦ by_on word.on refl (acting.turn.sent_from x t pair word new).1
      ]
    where
      by_on : (on : Bool) → word.on ≡ on → IsAmong (lay_saying t pair word) acting.turn.lays → was pair ≡ true
      by_on true is among =
          let due : hop_due true (laid_at node.pointers pair) (laid_at acted.state.pointers pair) ≡ Some (hop_at t word.level) =
          ap (λ b. hop_due b (laid_at node.pointers pair) (laid_at acted.state.pointers pair)) (sym is)
          ∙ acting.turn.due (lay_saying t pair word) among in
          laid_after pair (hop_at t word.level) (on_is (laid_at node.pointers pair) (laid_at acted.state.pointers pair) (hop_at t word.level) due)
      by_on false is among =
          let due : hop_due false (laid_at node.pointers pair) (laid_at acted.state.pointers pair) ≡ Some (hop_at t word.level) =
          ap (λ b. hop_due b (laid_at node.pointers pair) (laid_at acted.state.pointers pair)) (sym is)
          ∙ acting.turn.due (lay_saying t pair word) among in
          laid_before pair (hop_at t word.level)
          (off_was (laid_at node.pointers pair) (laid_at acted.state.pointers pair) (hop_at t word.level) due)

  acts_ever : AreOfPublished was s'
  acts_ever = record { published = published_now; kept = kept_now; ways = ways_now }

-- ---- all moves

module _ (p : SettingsValue) (s : System) (was : Pair → Bool) (sound : Sound p s) (stand : PointersStand s) (ever : AreOfPublished was s)
  where
    -- what is published then was published before, or is now
    newly_published : (x : List ℕ) (start : Start) (node : NodeState) (at : s.node x ≡ Some node)
        → ((object : List ℕ) → start ≡ Publish object → was (pair_of object x) ≡ true) → node.pointers.owner ≡ x → (kind : Start)
        → start ≡ kind → (pair : Pair) → published_by node kind pair ≡ true → was pair ≡ true
    newly_published x start node at new owner (Publish object) is pair published =
        elim (cases_Bool (is_same pair (own_pair node.pointers object))) [
          | inl same ↦
              let there : pair ≡ pair_of object x =
              pair_cmp-equal pair (own_pair node.pointers object) (is_equal (pair_cmp pair (own_pair node.pointers object)) same)
              ∙ ap (pair_of object) owner in
              ap was there ∙ new object is
          | inr apart ↦ ever.published x node pair at (rw apart at published)
        ]
    newly_published x start node at new owner (Withdraw object) is pair published =
        elim (cases_Bool (is_same pair (own_pair node.pointers object))) [
          | inl same ↦ let wrong : false ≡ true = rw same at published in absurd (cc)
          | inr apart ↦ ever.published x node pair at (rw apart at published)
        ]
    newly_published x start node at new owner Leave is pair published = let wrong : false ≡ true = published in absurd (cc)
    newly_published x start node at new owner _ is pair published = ever.published x node pair at published

    there_ever : (x : List ℕ) (start : Start) → IsStarter p s x start
        → ((object : List ℕ) → start ≡ Publish object → was (pair_of object x) ≡ true) → Sound p (after_start p s x start)
        → PointersStand (after_start p s x start) → AreOfPublished was (after_start p s x start)
    there_ever x start st new sound_now stands_now =
        let acting = start_acts p s x start st.node sound stand st.at st.is st.ruled in
        let owner = owner_is p s x start st.node sound stand st.at st.is st.ruled (pair_of x x) in
        acts_ever _ _ p s (after_start p s x start) x st.node _ acting was sound stand sound_now stands_now ever
        (newly_published x start st.node st.at new owner start refl)

    -- a node that is new knows of no pair
    joined_ever : (x via : List ℕ) → may_start p s x (Join via) → AreOfPublished was (after_start p s x (Join via))
    joined_ever x via may =
        let lim = limits p s x via sound stand may in
        let after = after_start p s x (Join via) in
        record {
          published = λ y node pair is published. elim (others p s x via sound stand may.fresh lim may.name y) [
            | inl here ↦
                let found = sym (ap after.node here ∙ now_is p s x via sound stand may.fresh lim may.name) ∙ is in
                let same : (act (joiner p x) (Starts (Join via))).state ≡ node = cc in
                let none = nothing_published (act (joiner p x) (Starts (Join via))).state.pointers
                (knows_nothing p s x via sound stand may.fresh lim may.name) pair in
                let wrong : false ≡ true = sym none ∙ ap (λ (m : NodeState). publishes m.pointers pair) same ∙ published in
                absurd (cc)
            | inr same ↦ ever.published y node pair (sym same ∙ is) published
          ];
          kept = λ t y pair word kept.
              ever.kept t y pair word (sym (register_same p s x via sound stand may.fresh lim may.name t pair y) ∙ kept);
          ways = λ y t pair word way. ever.ways y t pair word (way_was p s x via sound stand may.fresh lim may.name y t pair word way);
        }

pub ever_kept : EverKept
ever_kept p s (Begins x start) was may sound stand new ever =
    elim (starter_of p s x start may) [
      | inl joins ↦
          let via = joins.0 in
          let may_join : may_start p s x (Join via) = subst (may_start p s x) joins.1 may in
          subst (λ w. AreOfPublished was (after_start p s x w)) (sym joins.1) (joined_ever p s was sound stand ever x via may_join)
      | inr st ↦
          there_ever p s was sound stand ever x start st (λ object is. new x object (ap (Begins x) is))
          (move_keeps p s (Begins x start) may sound) (pointers_kept p s (Begins x start) may sound stand)
    ]
ever_kept p s (Delivers number) was may sound stand new ever =
    let node = may.receiver.state in
    acts_ever _ _ p s (after_delivery p s number) may.frame.to node _
    (acts p s number may.frame node sound stand may.among may.receiver.is) was sound stand (move_keeps p s (Delivers number) may sound)
    (pointers_kept p s (Delivers number) may sound stand) ever
    (λ pair published. ever.published may.frame.to node pair may.receiver.is published)

pub ever_at_rest : EverAtRest
ever_at_rest p members was are = record {
  published = λ x node pair is published.
      let none = nothing_published node.pointers (none_known p members x node is) pair in
      let wrong : false ≡ true = sym none ∙ published in
      absurd (cc);
  kept = λ t x pair word kept. absurd (none_said p members x t pair word (inr kept));
  ways = λ x t pair word way. absurd way.among;
}
