-- A node acts: what was said of pairs, and where they are laid, stands afterwards.
use Rattle.std.proofs.Common.{◌≡◌, ◌⊎◌, ℕ, ◌<◌, ◌≤◌, Bool, true, false, List, [], Option, None, Some, refl, ap, sym, subst, ◌∙◌, arith, inl, inr}
use Rattle.tap_name.specs.Order.{name_cmp}
use Rattle.tap_register.specs.Registers.{IsAscending}
use Rattle.tap_pointer.specs.declared.hop.Hop.{Hop}
use Rattle.tap_pointer.specs.declared.lay.Lay as lay
use Rattle.tap_pointer.specs.declared.pair.Pair.{Pair}
use Rattle.tap_pointer.specs.Due.{hop_due, hop_of_lay, laid_at, pair_of_lay}
use Rattle.tap_pointer.proofs.Due.{none_due}
use Rattle.tap_wire.specs.declared.frame.Frame.{Frame}
use Rattle.tap_rule.specs.Event.{Acted}
use Rattle.tap_rule.specs.Node.{IsRunning, NodeState, Status, name_of}
use Rattle.tap_rule.specs.Node.Status.{Ceased, Core, Gone, Joining, Leaving}
use Rattle.tap_rule.specs.Sent.{IsAmong}
use Rattle.tap_rule.proofs.Completed.{runs_or_ended}
use Rattle.tap_safety.specs.Seeking.{HasNode}
use Rattle.tap_safety.specs.Exchanges.{ChangesAt}
use Rattle.tap_safety.specs.System.{System}
use Rattle.tap_safety.specs.Ties.{IsOnWay, hears_words, status_in, status_of}
use Rattle.tap_moves.proofs.Got.{same_name}
use Rattle.tap_pointer_moves.specs.Said.{IsLastLay, IsLaySaid, LayWord, laid_in, laid_of, lay_word_frame, lay_word_kept, pointer_register_of, word_kept_in}
use Rattle.tap_pointer_moves.specs.LaysTold.{LeaversPublishNothing, RegistersAscend, AreLaysStamped, HasNoPointers, HaveLayEnds, IsSeasoned, IsSeasonedNode, IsToldOff, IsToldOn, IsUntold, KnowNothing, PointersStand, hop_at}
use Rattle.tap_pointer_moves.proofs.Hearing.{publishes, registers_of}
use Rattle.tap_pointer_moves.proofs.Hops.{off_now, off_was, on_is, undue_is, undue_was}
use Rattle.tap_pointer_moves.proofs.RisingStamps.{IsAbout, IsLastOf, last_of, rise_above, rise_below, rise_once, rise_up}
use Rattle.tap_pointer_moves.proofs.PointerRules.{MayBecome, over_nothing}
use Rattle.tap_pointer_moves.proofs.Turns.{PointerTurn, lay_saying, none_ascend, nothing_kept, nothing_laid}

-- what a Lay says
abbrev word_of : lay.Lay → LayWord
word_of l = record { version = l.version; level = l.level; on = l.on }

-- a node that hears words runs
pub hears_runs : (status : Status) → hears_words (Some status) → IsRunning status
hears_runs Joining hears = tt
hears_runs Core hears = tt
hears_runs Leaving hears = tt
hears_runs Gone hears = hears
hears_runs Ceased hears = hears

pub runs_hears : (status : Status) → IsRunning status → hears_words (Some status)
runs_hears Joining runs = tt
runs_hears Core runs = tt
runs_hears Leaving runs = tt
runs_hears Gone runs = runs
runs_hears Ceased runs = runs

-- a node that is core, or was, still is or was after a step
still_seasoned : (before after : Status) → MayBecome before after → IsSeasoned before → IsSeasoned after
still_seasoned Joining after may seasoned = absurd seasoned
still_seasoned Core Joining may seasoned = absurd may
still_seasoned Core Core may seasoned = tt
still_seasoned Core Leaving may seasoned = tt
still_seasoned Core Gone may seasoned = tt
still_seasoned Core Ceased may seasoned = absurd may
still_seasoned Leaving Joining may seasoned = absurd may
still_seasoned Leaving Core may seasoned = absurd may
still_seasoned Leaving Leaving may seasoned = tt
still_seasoned Leaving Gone may seasoned = tt
still_seasoned Leaving Ceased may seasoned = absurd may
still_seasoned Gone Joining may seasoned = absurd may
still_seasoned Gone Core may seasoned = absurd may
still_seasoned Gone Leaving may seasoned = absurd may
still_seasoned Gone Gone may seasoned = tt
still_seasoned Gone Ceased may seasoned = absurd may
still_seasoned Ceased after may seasoned = absurd seasoned

-- A node acts: it alone changes, its turn of pointers is this, what it sends is under way, and a Lay that goes is one that it takes.
pub record Acts (Taken : List ℕ → Pair → LayWord → Type 0) (now : Pair → Bool) (s s' : System) (n : List ℕ) (node : NodeState) (acted : Acted)
    : Type 0 where
  pub own : name_of node ≡ n
  pub at : ChangesAt s s' n node acted.state
  pub turn : PointerTurn Taken now node acted
  pub came : (x t : List ℕ) (pair : Pair) (word : LayWord) → IsOnWay s' (lay_word_frame x t pair word)
      → IsOnWay s (lay_word_frame x t pair word) ⊎ IsAmong (lay_word_frame x t pair word) acted.sent
  pub sent : (f : Frame) → IsAmong f acted.sent → IsOnWay s' f
  pub still : (x t : List ℕ) (pair : Pair) (word : LayWord) → IsOnWay s (lay_word_frame x t pair word)
      → IsOnWay s' (lay_word_frame x t pair word) ⊎ ((t ≡ n) × Taken x pair word)
  pub taken : (x : List ℕ) (pair : Pair) (word : LayWord) → Taken x pair word → IsOnWay s (lay_word_frame x n pair word)

-- each pair is laid at a node that is core, or was
abbrev pub AreLaidAtSeasoned : System → Type 0
AreLaidAtSeasoned s = (x : List ℕ) (pair : Pair) (hop : Hop) → laid_of s x pair ≡ Some hop → IsSeasonedNode s hop.to

module _ (Taken : List ℕ → Pair → LayWord → Type 0) (now : Pair → Bool) (s s' : System) (n : List ℕ) (node : NodeState) (acted : Acted)
    (acts : Acts Taken now s s' n node acted) (stand : PointersStand s) where
  abbrev turn : PointerTurn Taken now node acted
  turn = acts.turn

  -- ---- what is read of the node, and of others

  register_was : (pair : Pair) (x : List ℕ) → pointer_register_of s n pair x ≡ lay_word_kept node.pointers pair x
  unfolding pointer_register_of
  register_was pair x = ap (λ found. word_kept_in found pair x) acts.at.was

  register_is : (pair : Pair) (x : List ℕ) → pointer_register_of s' n pair x ≡ lay_word_kept acted.state.pointers pair x
  unfolding pointer_register_of
  register_is pair x = ap (λ found. word_kept_in found pair x) acts.at.is

  register_other : (t : List ℕ) (pair : Pair) (x : List ℕ) → s'.node t ≡ s.node t
      → pointer_register_of s' t pair x ≡ pointer_register_of s t pair x
  unfolding pointer_register_of
  register_other t pair x same = ap (λ found. word_kept_in found pair x) same

  laid_was : (pair : Pair) → laid_of s n pair ≡ laid_at node.pointers pair
  unfolding laid_of
  laid_was pair = ap (λ found. laid_in found pair) acts.at.was

  laid_is : (pair : Pair) → laid_of s' n pair ≡ laid_at acted.state.pointers pair
  unfolding laid_of
  laid_is pair = ap (λ found. laid_in found pair) acts.at.is

  laid_other : (x : List ℕ) (pair : Pair) → s'.node x ≡ s.node x → laid_of s' x pair ≡ laid_of s x pair
  unfolding laid_of
  laid_other x pair same = ap (λ found. laid_in found pair) same

  status_is : status_of s' n ≡ Some acted.state.status
  unfolding status_of
  status_is = ap status_in acts.at.is

  status_was : status_of s n ≡ Some node.status
  unfolding status_of
  status_was = ap status_in acts.at.was

  status_other : (t : List ℕ) → s'.node t ≡ s.node t → status_of s' t ≡ status_of s t
  unfolding status_of
  status_other t same = ap status_in same

  -- who hears words has heard them before
  runs_now : (t : List ℕ) → t ≡ n → hears_words (status_of s' t) → IsRunning acted.state.status
  runs_now t here hears = hears_runs acted.state.status (subst hears_words (ap (status_of s') here ∙ status_is) hears)

  heard_before : (t : List ℕ) → hears_words (status_of s' t) → hears_words (status_of s t)
  heard_before t hears =
      elim (acts.at.others t) [
        | inl here ↦
            let runs = runs_now t here hears in
            subst hears_words (sym (ap (status_of s) here ∙ status_was)) (runs_hears node.status (turn.runs runs).before)
        | inr same ↦ subst hears_words (status_other t same) hears
      ]

  -- ---- what is said

  said_came : (x t : List ℕ) (pair : Pair) (word : LayWord) → IsLaySaid s' x t pair word
      → IsLaySaid s x t pair word ⊎ ((x ≡ n) × IsAmong (lay_saying t pair word) turn.lays)
  said_came x t pair word (inl way) =
      elim (acts.came x t pair word way) [
        | inl old ↦ inl (inl old)
        | inr new ↦ let from = turn.sent_from x t pair word new in inr (from.0 ∙ acts.own, from.1)
      ]
  said_came x t pair word (inr kept) =
      elim (acts.at.others t) [
        | inl here ↦
            let now_kept : lay_word_kept acted.state.pointers pair x ≡ Some word =
            sym (ap (λ y. pointer_register_of s' y pair x) here ∙ register_is pair x) ∙ kept in
            elim (runs_or_ended acted.state.status) [
              | inl runs ↦ elim ((turn.runs runs).hears.came x pair word now_kept) [
                | inl was ↦ inl (inr (ap (λ y. pointer_register_of s y pair x) here ∙ register_was pair x ∙ was))
                | inr taken ↦
                    inl (inl (subst (λ y. IsOnWay s (lay_word_frame x y pair word)) (sym here) (acts.taken x pair word taken)))
              ]
              | inr over ↦
                  let wrong : None ≡ Some word = sym (nothing_kept acted.state.pointers (turn.over over) pair x) ∙ now_kept in absurd (cc)
            ]
        | inr same ↦ inl (inr (sym (register_other t pair x same) ∙ kept))
      ]

  last_said : (x t : List ℕ) (pair : Pair) (word : LayWord) → hears_words (status_of s' t) → IsLastLay s x t pair word
      → IsLaySaid s' x t pair word
  last_said x t pair word hears last = by_place last.said
    where
      kept_is : t ≡ n → (other : LayWord) → lay_word_kept acted.state.pointers pair x ≡ Some other → pointer_register_of s' t pair x ≡ Some other
      kept_is here other is = ap (λ y. pointer_register_of s' y pair x) here ∙ register_is pair x ∙ is

      kept_was : t ≡ n → (other : LayWord) → lay_word_kept node.pointers pair x ≡ Some other → pointer_register_of s t pair x ≡ Some other
      kept_was here other is = ap (λ y. pointer_register_of s y pair x) here ∙ register_was pair x ∙ is

      way_of : t ≡ n → (other : LayWord) → Taken x pair other → IsOnWay s (lay_word_frame x t pair other)
      way_of here other is = subst (λ y. IsOnWay s (lay_word_frame x y pair other)) (sym here) (acts.taken x pair other is)

      by_place : IsLaySaid s x t pair word → IsLaySaid s' x t pair word
      by_place (inl way) =
          elim (acts.still x t pair word way) [
            | inl stays ↦ inl stays
            | inr (here, takes) ↦
                elim ((turn.runs (runs_now t here hears)).hears.took x pair word takes) [
                  | inl took ↦ inr (kept_is here word took)
                  | inr old ↦ elim (last.last old.0 (inr (kept_was here old.0 old.1))) [
                    | inl same ↦ inr (kept_is here word (old.2 ∙ ap Some same))
                    | inr lower ↦ let least = old.3 in absurd (omega (arith, lower, least))
                  ]
                ]
          ]
      by_place (inr kept) =
          elim (acts.at.others t) [
            | inl here ↦
                let was : lay_word_kept node.pointers pair x ≡ Some word =
                sym (ap (λ y. pointer_register_of s y pair x) here ∙ register_was pair x) ∙ kept in
                elim ((turn.runs (runs_now t here hears)).hears.stays x pair word was) [
                  | inl stays ↦ inr (kept_is here word stays)
                  | inr new ↦ elim (last.last new.0 (inl (way_of here new.0 new.1))) [
                    | inl same ↦
                        let versions : new.0.version ≡ word.version = ap (λ (w : LayWord). w.version) same in
                        let higher = new.3 in
                        absurd (omega (arith, versions, higher))
                    | inr lower ↦ let higher = new.3 in absurd (omega (arith, lower, higher))
                  ]
                ]
            | inr same ↦ inr (register_other t pair x same ∙ kept)
          ]

  -- ---- what of it stays where nothing new is said

  abbrev NothingNew : List ℕ → List ℕ → Pair → Type 0
  NothingNew x t pair = (word : LayWord) → IsAmong (lay_saying t pair word) turn.lays → x ≡ n → ⊥

  last_stays : (x t : List ℕ) (pair : Pair) (word : LayWord) → NothingNew x t pair → hears_words (status_of s' t)
      → IsLastLay s x t pair word → IsLastLay s' x t pair word
  last_stays x t pair word none hears last = record {
    said = last_said x t pair word hears last;
    last = λ other said. elim (said_came x t pair other said) [
      | inl old ↦ last.last other old
      | inr new ↦ absurd (none other new.1 new.0)
    ];
  }

  on_stays : (x t : List ℕ) (pair : Pair) (level : ℕ) → NothingNew x t pair → hears_words (status_of s' t) → IsToldOn s x t pair level
      → IsToldOn s' x t pair level
  on_stays x t pair level none hears told = record {
    word = told.word;
    last = last_stays x t pair told.word none hears told.last;
    on = told.on;
    level_is = told.level_is;
  }

  off_stays : (x t : List ℕ) (pair : Pair) → NothingNew x t pair → hears_words (status_of s' t)
      → IsUntold s x t pair ⊎ IsToldOff s x t pair → IsUntold s' x t pair ⊎ IsToldOff s' x t pair
  off_stays x t pair none hears (inl untold) =
      inl (λ word said. elim (said_came x t pair word said) [ inl old ↦ untold word old | inr new ↦ none word new.1 new.0 ])
  off_stays x t pair none hears (inr told) =
      inr (record { word = told.word; last = last_stays x t pair told.word none hears told.last; off = told.off })

  -- ---- what is new

  -- who sends a Lay runs
  sender_runs : (l : lay.Lay) → IsAmong l turn.lays → IsRunning node.status
  sender_runs l among =
      elim (runs_or_ended node.status) [
        | inl runs ↦ runs
        | inr over ↦
            let pair = pair_of_lay l in
            let before = nothing_laid node.pointers (stand.nothing.nothing n node acts.at.was (over_nothing node.status over)) pair in
            let after = nothing_laid acted.state.pointers (turn.over (λ runs. over (turn.runs runs).before)) pair in
            let wrong : None ≡ Some (hop_of_lay l) =
            sym (none_due l.on None) ∙ ap (λ h. hop_due l.on None h) (sym after)
            ∙ ap (λ h. hop_due l.on h (laid_at acted.state.pointers pair)) (sym before) ∙ turn.due l among in
            absurd (cc)
      ]

  saying_is : (t : List ℕ) (pair : Pair) (l : lay.Lay) → IsAbout t pair l → l ≡ lay_saying t pair (word_of l)
  saying_is t pair l about =
      ap (λ n. record { to = n; object = l.object; server = l.server; level = l.level; version = l.version; on = l.on }) about.0
      ∙ ap (λ (q : Pair). lay_saying t q (word_of l)) about.1

  word_is : (t : List ℕ) (pair : Pair) (word : LayWord) (l : lay.Lay) → lay_saying t pair word ≡ l → word ≡ word_of l
  word_is t pair word l same = ap word_of same

  new_last : (t : List ℕ) (pair : Pair) (l : lay.Lay) → IsLastOf t pair turn.lays l → IsLastLay s' n t pair (word_of l)
  new_last t pair l last =
      let same = saying_is t pair l last.about in
      let there : IsAmong (lay_saying t pair (word_of l)) turn.lays = subst (λ m. IsAmong m turn.lays) same last.among in
      let way : IsOnWay s' (lay_word_frame n t pair (word_of l)) =
      subst (λ y. IsOnWay s' (lay_word_frame y t pair (word_of l))) acts.own
      (acts.sent (lay_word_frame (name_of node) t pair (word_of l)) (turn.sent_to t pair (word_of l) there)) in
      let above = rise_above node.stamp turn.lays turn.top l turn.rise last.among in
      record {
        said = inl way;
        last = λ other said. elim (said_came n t pair other said) [
          | inl old ↦
              let most = stand.stamped.stamp n t pair other node acts.at.was (sender_runs l last.among) old in
              inr (omega (arith, most, above))
          | inr new ↦ elim (last.last (lay_saying t pair other) new.1 (refl, refl)) [
            | inl one ↦ inl (word_is t pair other l one)
            | inr lower ↦ inr lower
          ]
        ];
      }

  -- no Lay is due to a node to which none of a pair is sent
  none_is_due : (t : List ℕ) (pair : Pair) → ((l : lay.Lay) → IsAmong l turn.lays → IsAbout t pair l → ⊥)
      → (on : Bool) (hop : Hop) → hop_due on (laid_at node.pointers pair) (laid_at acted.state.pointers pair) ≡ Some hop → hop.to ≡ t → ⊥
  none_is_due t pair none on hop due to =
      let sent = turn.told pair on hop due in
      none (lay_saying hop.to pair (record { version = sent.0; level = hop.level; on = on })) sent.1 (to, refl)

  about_saying : (t : List ℕ) (pair : Pair) (word : LayWord) → IsAbout t pair (lay_saying t pair word)
  about_saying t pair word = (refl, refl)

  due_of : (t : List ℕ) (pair : Pair) (l : lay.Lay) → IsLastOf t pair turn.lays l
      → hop_due l.on (laid_at node.pointers pair) (laid_at acted.state.pointers pair) ≡ Some (hop_at t l.level)
  due_of t pair l last =
      subst (λ q. hop_due l.on (laid_at node.pointers q) (laid_at acted.state.pointers q) ≡ Some (hop_at t l.level)) last.about.1
      (turn.due l last.among ∙ ap (λ name. Some (hop_at name l.level)) last.about.0)

  -- ---- Laid and Off

  laid_by_node : (t : List ℕ) (pair : Pair) (level : ℕ) → hears_words (status_of s' t)
      → laid_at acted.state.pointers pair ≡ Some (hop_at t level) → IsToldOn s' n t pair level
  laid_by_node t pair level hears laid =
      elim (last_of t pair node.stamp turn.lays turn.top turn.rise) [
        | inl none ↦
            let before = undue_was t level (laid_at node.pointers pair) (laid_at acted.state.pointers pair)
            (none_is_due t pair none) laid in
            on_stays n t pair level (λ word among same. none (lay_saying t pair word) among (about_saying t pair word)) hears
            (stand.told.laid n t pair level (heard_before t hears) (laid_was pair ∙ before))
        | inr found ↦ by_on found.0 found.1 found.0.on refl
      ]
    where
      by_on : (l : lay.Lay) → IsLastOf t pair turn.lays l → (on : Bool) → l.on ≡ on → IsToldOn s' n t pair level
      by_on l last true is =
          let due : hop_due true (laid_at node.pointers pair) (laid_at acted.state.pointers pair) ≡ Some (hop_at t l.level) =
          ap (λ b. hop_due b (laid_at node.pointers pair) (laid_at acted.state.pointers pair)) (sym is) ∙ due_of t pair l last in
          let there = on_is (laid_at node.pointers pair) (laid_at acted.state.pointers pair) (hop_at t l.level) due in
          let same : Some (hop_at t l.level) ≡ Some (hop_at t level) = sym there ∙ laid in
          let one : hop_at t l.level ≡ hop_at t level = cc in
          record { word = word_of l; last = new_last t pair l last; on = is; level_is = ap (λ (h : Hop). h.level) one }
      by_on l last false is =
          let due : hop_due false (laid_at node.pointers pair) (laid_at acted.state.pointers pair) ≡ Some (hop_at t l.level) =
          ap (λ b. hop_due b (laid_at node.pointers pair) (laid_at acted.state.pointers pair)) (sym is) ∙ due_of t pair l last in
          absurd (off_now (laid_at node.pointers pair) (laid_at acted.state.pointers pair) (hop_at t l.level) level due laid)

  off_by_node : (t : List ℕ) (pair : Pair) → hears_words (status_of s' t)
      → ((level : ℕ) → laid_at acted.state.pointers pair ≡ Some (hop_at t level) → ⊥) → IsUntold s' n t pair ⊎ IsToldOff s' n t pair
  off_by_node t pair hears apart =
      elim (last_of t pair node.stamp turn.lays turn.top turn.rise) [
        | inl none ↦
            off_stays n t pair (λ word among same. none (lay_saying t pair word) among (about_saying t pair word)) hears
            (stand.told.off n t pair (heard_before t hears) (λ level laid.
            let now_is = undue_is t level (laid_at node.pointers pair) (laid_at acted.state.pointers pair) (none_is_due t pair none)
            (sym (laid_was pair) ∙ laid) in
            apart now_is.0 now_is.1))
        | inr found ↦ by_on found.0 found.1 found.0.on refl
      ]
    where
      by_on : (l : lay.Lay) → IsLastOf t pair turn.lays l → (on : Bool) → l.on ≡ on → IsUntold s' n t pair ⊎ IsToldOff s' n t pair
      by_on l last true is =
          let due : hop_due true (laid_at node.pointers pair) (laid_at acted.state.pointers pair) ≡ Some (hop_at t l.level) =
          ap (λ b. hop_due b (laid_at node.pointers pair) (laid_at acted.state.pointers pair)) (sym is) ∙ due_of t pair l last in
          absurd (apart l.level (on_is (laid_at node.pointers pair) (laid_at acted.state.pointers pair) (hop_at t l.level) due))
      by_on l last false is = inr (record { word = word_of l; last = new_last t pair l last; off = is })

  apart_of : (x : List ℕ) → s'.node x ≡ s.node x → x ≡ n → s.node x ≡ Some acted.state
  apart_of x same here = sym same ∙ ap s'.node here ∙ acts.at.is

  told_on : (x t : List ℕ) (pair : Pair) (level : ℕ) → hears_words (status_of s' t) → laid_of s' x pair ≡ Some (hop_at t level)
      → (x ≡ n) ⊎ (x ≡ n → ⊥) → IsToldOn s' x t pair level
  told_on x t pair level hears laid (inl here) =
      subst (λ y. IsToldOn s' y t pair level) (sym here)
      (laid_by_node t pair level hears (sym (ap (λ y. laid_of s' y pair) here ∙ laid_is pair) ∙ laid))
  told_on x t pair level hears laid (inr apart) =
      elim (acts.at.others x) [
        | inl here ↦ absurd (apart here)
        | inr same ↦
            on_stays x t pair level (λ word among here. apart here) hears
            (stand.told.laid x t pair level (heard_before t hears) (sym (laid_other x pair same) ∙ laid))
      ]

  told_off : (x t : List ℕ) (pair : Pair) → hears_words (status_of s' t)
      → ((level : ℕ) → laid_of s' x pair ≡ Some (hop_at t level) → ⊥) → (x ≡ n) ⊎ (x ≡ n → ⊥)
      → IsUntold s' x t pair ⊎ IsToldOff s' x t pair
  told_off x t pair hears none (inl here) =
      subst (λ y. IsUntold s' y t pair ⊎ IsToldOff s' y t pair) (sym here)
      (off_by_node t pair hears (λ level laid. none level (ap (λ y. laid_of s' y pair) here ∙ laid_is pair ∙ laid)))
  told_off x t pair hears none (inr apart) =
      elim (acts.at.others x) [
        | inl here ↦ absurd (apart here)
        | inr same ↦
            off_stays x t pair (λ word among here. apart here) hears
            (stand.told.off x t pair (heard_before t hears) (λ level laid. none level (laid_other x pair same ∙ laid)))
      ]

  -- ---- Versions

  node_stays : (x : List ℕ) → HasNode s x → HasNode s' x
  node_stays x has =
      elim (acts.at.others x) [
        | inl here ↦ record { state = acted.state; is = ap s'.node here ∙ acts.at.is }
        | inr same ↦ record { state = has.state; is = same ∙ has.is }
      ]

  new_above : (t : List ℕ) (pair : Pair) (old new : LayWord) → IsLaySaid s n t pair old → IsAmong (lay_saying t pair new) turn.lays
      → old.version < new.version
  new_above t pair old new said among =
      let most = stand.stamped.stamp n t pair old node acts.at.was (sender_runs (lay_saying t pair new) among) said in
      let above = rise_above node.stamp turn.lays turn.top (lay_saying t pair new) turn.rise among in
      omega (arith, most, above)

  once_now : (x t : List ℕ) (pair : Pair) (one other : LayWord) → IsLaySaid s' x t pair one → IsLaySaid s' x t pair other
      → one.version ≡ other.version → one ≡ other
  once_now x t pair one other said also same =
      elim (said_came x t pair one said) [
        | inl old ↦ elim (said_came x t pair other also) [
          | inl older ↦ stand.stamped.once x t pair one other old older same
          | inr new ↦
              let above = new_above t pair one other (subst (λ y. IsLaySaid s y t pair one) new.0 old) new.1 in
              absurd (omega (arith, above, same))
        ]
        | inr new ↦ elim (said_came x t pair other also) [
          | inl old ↦
              let above = new_above t pair other one (subst (λ y. IsLaySaid s y t pair other) new.0 old) new.1 in
              absurd (omega (arith, above, same))
          | inr newer ↦
              ap word_of
              (rise_once node.stamp turn.lays turn.top (lay_saying t pair one) (lay_saying t pair other) turn.rise new.1 newer.1 same)
        ]
      ]

  under_stamp : (t : List ℕ) (pair : Pair) (word : LayWord) → IsRunning acted.state.status → IsLaySaid s' n t pair word
      → word.version ≤ acted.state.stamp
  under_stamp t pair word runs said =
      let goes = turn.runs runs in
      let stamp = goes.stamp in
      let up = rise_up node.stamp turn.lays turn.top turn.rise in
      elim (said_came n t pair word said) [
        | inl old ↦
            let most = stand.stamped.stamp n t pair word node acts.at.was goes.before old in
            omega (arith, most, up, stamp)
        | inr new ↦
            let most = rise_below node.stamp turn.lays turn.top (lay_saying t pair word) turn.rise new.1 in
            omega (arith, most, stamp)
      ]

  stamp_now : (x t : List ℕ) (pair : Pair) (word : LayWord) (state : NodeState) → s'.node x ≡ Some state → IsRunning state.status
      → IsLaySaid s' x t pair word → word.version ≤ state.stamp
  stamp_now x t pair word state is runs said =
      elim (acts.at.others x) [
        | inl here ↦
            let found : Some acted.state ≡ Some state = sym (ap s'.node here ∙ acts.at.is) ∙ is in
            let same : acted.state ≡ state = cc in
            let here_runs : IsRunning acted.state.status = subst (λ (m : NodeState). IsRunning m.status) (sym same) runs in
            let most = under_stamp t pair word here_runs (subst (λ y. IsLaySaid s' y t pair word) here said) in
            subst (λ (m : NodeState). word.version ≤ m.stamp) same most
        | inr same ↦ elim (said_came x t pair word said) [
          | inl old ↦ stand.stamped.stamp x t pair word state (sym same ∙ is) runs old
          | inr new ↦
              let found : Some acted.state ≡ Some state = sym (ap s'.node new.0 ∙ acts.at.is) ∙ is in
              let one : acted.state ≡ state = cc in
              let here_runs : IsRunning acted.state.status = subst (λ (m : NodeState). IsRunning m.status) (sym one) runs in
              let most = under_stamp t pair word here_runs (subst (λ y. IsLaySaid s' y t pair word) new.0 said) in
              subst (λ (m : NodeState). word.version ≤ m.stamp) one most
        ]
      ]

  stamped_now : AreLaysStamped s'
  stamped_now = record {
    known = λ x t pair word said. elim (said_came x t pair word said) [
      | inl old ↦ node_stays x (stand.stamped.known x t pair word old)
      | inr new ↦ record { state = acted.state; is = ap s'.node new.0 ∙ acts.at.is }
    ];
    once = once_now;
    stamp = stamp_now;
  }

  -- ---- Ends and Nothing

  seasoned_stays : (x : List ℕ) → IsSeasonedNode s x → IsSeasonedNode s' x
  seasoned_stays x has =
      elim (acts.at.others x) [
        | inl here ↦
            let found : Some node ≡ Some has.state = sym (ap s.node here ∙ acts.at.was) ∙ has.is in
            let same : has.state ≡ node = cc in
            let before : IsSeasoned node.status = subst (λ (m : NodeState). IsSeasoned m.status) same has.seasoned in
            record {
              state = acted.state;
              is = ap s'.node here ∙ acts.at.is;
              seasoned = still_seasoned node.status acted.state.status turn.becomes before;
            }
        | inr same ↦ record { state = has.state; is = same ∙ has.is; seasoned = has.seasoned }
      ]

  -- a Lay that is due goes to where its pair was laid, or is now
  due_to : (on : Bool) (laid is : Option Hop) (hop : Hop) → hop_due on laid is ≡ Some hop → (laid ≡ Some hop) ⊎ (is ≡ Some hop)
  due_to true laid is hop due = inr (on_is laid is hop due)
  due_to false laid is hop due = inl (off_was laid is hop due)

  ends_now : AreLaidAtSeasoned s → AreLaidAtSeasoned s' → HaveLayEnds s'
  ends_now before after = record {
    ends = λ x t pair word way. elim (acts.came x t pair word way) [
      | inl old ↦ seasoned_stays t (stand.ends.ends x t pair word old)
      | inr new ↦
          let from = turn.sent_from x t pair word new in
          elim (due_to word.on (laid_at node.pointers pair) (laid_at acted.state.pointers pair) (hop_at t word.level)
          (turn.due (lay_saying t pair word) from.1)) [
            | inl was ↦ seasoned_stays t (before n pair (hop_at t word.level) (laid_was pair ∙ was))
            | inr is ↦ after n pair (hop_at t word.level) (laid_is pair ∙ is)
          ]
    ];
  }

  nothing_of : (status : Status) → HasNoPointers status → (status ≡ Joining) ⊎ (IsRunning status → ⊥)
  nothing_of Joining none = inl refl
  nothing_of Core none = absurd none
  nothing_of Leaving none = absurd none
  nothing_of Gone none = inr (λ runs. runs)
  nothing_of Ceased none = inr (λ runs. runs)

  nothing_now : KnowNothing s'
  nothing_now = record {
    nothing = λ x state is none. elim (acts.at.others x) [
      | inl here ↦
          let found : Some acted.state ≡ Some state = sym (ap s'.node here ∙ acts.at.is) ∙ is in
          let same : acted.state ≡ state = cc in
          subst (λ (m : NodeState). m.pointers.pairs ≡ []) same
          (of_node (subst (λ (m : NodeState). HasNoPointers m.status) (sym same) none))
      | inr same ↦ stand.nothing.nothing x state (sym same ∙ is) none
    ];
  }
    where
      of_node : HasNoPointers acted.state.status → acted.state.pointers.pairs ≡ []
      of_node none =
          elim (nothing_of acted.state.status none) [
            | inl joining ↦ (turn.runs (subst IsRunning (sym joining) tt)).nothing joining
            | inr over ↦ turn.over over
          ]

  -- ---- registers

  registers_now : RegistersAscend s'
  registers_now = record {
    ascending = λ x state pair is. elim (acts.at.others x) [
      | inl here ↦
          let found : Some acted.state ≡ Some state = sym (ap s'.node here ∙ acts.at.is) ∙ is in
          let same : acted.state ≡ state = cc in
          subst (λ (m : NodeState). IsAscending name_cmp (registers_of m.pointers pair)) same (of_node pair)
      | inr same ↦ stand.registers.ascending x state pair (sym same ∙ is)
    ];
  }
    where
      of_node : (pair : Pair) → IsAscending name_cmp (registers_of acted.state.pointers pair)
      of_node pair =
          elim (runs_or_ended acted.state.status) [
            | inl runs ↦ (turn.runs runs).ascend pair (stand.registers.ascending n node pair acts.at.was)
            | inr over ↦ none_ascend acted.state.pointers (turn.over over) pair
          ]

  -- ---- leavers

  leavers_now : LeaversPublishNothing s'
  leavers_now = record {
    unpublished = λ x state pair is leaving. elim (acts.at.others x) [
      | inl here ↦
          let found : Some acted.state ≡ Some state = sym (ap s'.node here ∙ acts.at.is) ∙ is in
          let same : acted.state ≡ state = cc in
          let leaves : acted.state.status ≡ Leaving = ap (λ (m : NodeState). m.status) same ∙ leaving in
          let runs : IsRunning acted.state.status = subst IsRunning (sym leaves) tt in
          subst (λ (m : NodeState). publishes m.pointers pair ≡ false) same ((turn.runs runs).leaving leaves pair)
      | inr same ↦ stand.leavers.unpublished x state pair (sym same ∙ is) leaving
    ];
  }

  -- ---- all

  pub acts_keeps : AreLaidAtSeasoned s → (KnowNothing s' → AreLaidAtSeasoned s') → PointersStand s'
  acts_keeps before after = record {
    nothing = nothing_now;
    told = record {
      laid = λ x t pair level hears laid. told_on x t pair level hears laid (same_name x n);
      off = λ x t pair hears none. told_off x t pair hears none (same_name x n);
    };
    stamped = stamped_now;
    ends = ends_now before (after nothing_now);
    registers = registers_now;
    leavers = leavers_now;
  }
