-- A stable sort of words by their receivers gives the words by receiver.
use denote.Param.Members.{Mut}
use Rattle.std.proofs.Common.{◌≡◌, ◌≤◌, ℕ, Bor, Bool, true, false, Option, None, Some, map, arith, List, [], ◌∷◌, get_or, length, All, ap, sym, refl, ◌∙◌, inl, inr}
use Rattle.std.specs.Cmp.{IsStrictWeakOrder}
use Rattle.std.specs.List.{filter}
use Rattle.std.specs.Fn.{Called, ComparesAs}
use Rattle.std.specs.List.Sorted.{IsSortedBy, IsSortedByClosure, IsStableBy, IsStableByClosure, ties}
use Rattle.std.specs.Ordering.{is_gt, is_lt, ordering_reverse}
use Rattle.std.specs.declared.cmp.Ordering.{Ordering}
use Rattle.std.specs.declared.cmp.Ordering.TheVariants.{Less, Equal, Greater}
use Rattle.std.proofs.lemmas.Bool.{cases_Bool, true≢false}
use Rattle.std.proofs.lemmas.Cmp.{nat_list_cmp_total}
use Rattle.std.proofs.lemmas.Fn.{always_returns_same}
use Rattle.std.proofs.lemmas.List.Elements.{All-cons, All-head, All-nil, All-tail}
use Rattle.std.proofs.lemmas.List.Sorted.{ranks_by}
use Rattle.tap_name.specs.Order.{name_cmp}
use Rattle.tap_table.specs.declared.tie.Tie.{Tie}
use Rattle.tap_join.specs.Hello.{words_of}
use Rattle.tap_rule.specs.Sending.{by_receiver, inserted_by_receiver, link_frame}
use Rattle.tap_node_common.proofs.Stable.{Rises, rises_sorted, stable_same}

-- the receiver of one word is below that of another
abbrev pub is_before : Tie → Tie → Bool
is_before one other = is_lt (name_cmp one.to other.to)

pub before_orders : IsStrictWeakOrder is_before
before_orders = ranks_by nat_list_cmp_total (λ (word : Tie). word.to)

reversed : (o : Ordering) → is_lt (ordering_reverse o) ≡ is_gt o
reversed Less = refl
reversed Equal = refl
reversed Greater = refl

after_is : (one other : Tie) → is_before other one ≡ is_gt (name_cmp one.to other.to)
after_is one other = ap is_lt (nat_list_cmp_total.antisymm other.to one.to) ∙ reversed (name_cmp one.to other.to)

pub all_inserted : (P : Tie → Type 0) (word : Tie) (words : List Tie) → P word → All P words → All P (inserted_by_receiver word words)
unfolding inserted_by_receiver
all_inserted P word [] here all = All-cons P word [] here all
all_inserted P word (first ∷ others) here all =
    elim (cases_Bool (is_gt (name_cmp word.to first.to))) [
      | inl e ↦
          rw e (All-cons P first (inserted_by_receiver word others) (All-head P first others all)
          (all_inserted P word others here (All-tail P first others all)))
      | inr e ↦ rw e (All-cons P word (first ∷ others) here all)
    ]

inserted_rises : (word : Tie) (words : List Tie) → Rises is_before before_orders words
    → Rises is_before before_orders (inserted_by_receiver word words)
unfolding inserted_by_receiver
inserted_rises word [] rises = (All-nil (λ other. is_before other word ≡ false), tt)
inserted_rises word (first ∷ others) rises =
    elim (cases_Bool (is_gt (name_cmp word.to first.to))) [
      | inl e ↦
          let later = before_orders.one_way first word (after_is word first ∙ e) in
          rw e (
            all_inserted (λ other. is_before other first ≡ false) word others later rises.0,
            inserted_rises word others rises.1,
          )
      | inr e ↦
          let here = after_is word first ∙ e in
          rw e (
            All-cons (λ other. is_before other word ≡ false) first others here (λ k d within.
                before_orders.chain (get_or others k d) first word (rises.0 k d within) here),
            rises,
          )
    ]

by_receiver_rises : (words : List Tie) → Rises is_before before_orders (by_receiver words)
unfolding by_receiver
by_receiver_rises [] = tt
by_receiver_rises (word ∷ words) = inserted_rises word (by_receiver words) (by_receiver_rises words)

-- a word that goes past one before it doesn't tie with whatever that one ties with
apart : (x first word : Tie) → is_before first word ≡ true → ties is_before x first ≡ true → ties is_before x word ≡ false
apart x first word before tie =
    elim (cases_Bool (is_before x word)) [
      | inl e ↦ rw e refl
      | inr e ↦ elim (cases_Bool (is_before first x)) [
        | inl below ↦ let no : ties is_before x first ≡ false = other_tie x first below in absurd (true≢false (sym tie ∙ no))
        | inr other ↦ absurd (true≢false (sym before ∙ before_orders.chain first x word other e))
      ]
    ]
  where
    other_tie : (x first : Tie) → is_before first x ≡ true → ties is_before x first ≡ false
    other_tie x first below = let above = before_orders.one_way first x below in rw (above, below) refl

inserted_ties : (x word : Tie) (words : List Tie)
    → filter (ties is_before x) (inserted_by_receiver word words) ≡ filter (ties is_before x) (word ∷ words)
unfolding inserted_by_receiver
inserted_ties x word [] = refl
inserted_ties x word (first ∷ others) =
    elim (cases_Bool (is_gt (name_cmp word.to first.to))) [
      | inl e ↦
          let rest = inserted_ties x word others in
          rw e (elim (cases_Bool (ties is_before x first)) [
            | inl tie ↦
                let no = apart x first word (after_is word first ∙ e) tie in
                let more = inserted_by_receiver word others in
                let rest : filter (ties is_before x) more ≡ filter (ties is_before x) others = rw no at rest in
                rw (tie, no) (ap (λ l. first ∷ l) rest)
            | inr other ↦ rw other rest
          ])
      | inr e ↦ rw e refl
    ]

by_receiver_ties : (x : Tie) (words : List Tie) → filter (ties is_before x) (by_receiver words) ≡ filter (ties is_before x) words
unfolding by_receiver
by_receiver_ties x [] = refl
by_receiver_ties x (word ∷ words) =
    inserted_ties x word (by_receiver words) ∙ first x word (by_receiver words) words (by_receiver_ties x words)
  where
    first : (x word : Tie) (some others : List Tie) → filter (ties is_before x) some ≡ filter (ties is_before x) others
        → filter (ties is_before x) (word ∷ some) ≡ filter (ties is_before x) (word ∷ others)
    first x word some others same =
        elim (cases_Bool (ties is_before x word)) [ inl e ↦ rw e (ap (λ l. word ∷ l) same) | inr e ↦ rw e same ]

-- what a stable sort by receiver gives
pub sorted_by_receiver : (words after : List Tie) → IsSortedBy is_before after → IsStableBy is_before words after
    → after ≡ by_receiver words
sorted_by_receiver words after up stable =
    stable_same is_before before_orders after (by_receiver words) (rises_sorted is_before before_orders after up)
    (by_receiver_rises words) (λ x. stable x ∙ sym (by_receiver_ties x words))

-- the same of a sort by a closure that compares receivers
pub sorted_by_closure : {F : Type 0} {g : Mut F (Bor Tie × (Bor Tie × Unit {0})) Ordering} {f : F} (words after : List Tie)
    → IsSortedByClosure g f after → IsStableByClosure g f words after
    → ((a : Bor Tie × (Bor Tie × Unit {0})) (r : Ordering) (f' : F) → Called g f a r f'
    → (r ≡ name_cmp a.0.now.to a.1.0.now.to) × (f' ≡ f))
    → after ≡ by_receiver words
sorted_by_closure {g = g} {f = f} words after up stable answers =
    let compares : ComparesAs g is_before f =
    always_returns_same g (λ a r. is_lt r ≡ is_before a.0.now a.1.0.now) f
    (λ a r f' k. (ap is_lt (answers a r f' k).0, (answers a r f' k).1)) in
    sorted_by_receiver words after (up is_before before_orders compares) (stable is_before before_orders compares)

-- at most one word needs no sort
pub one_by_receiver : (words : List Tie) → length words ≤ 1 → by_receiver words ≡ words
unfolding by_receiver inserted_by_receiver
one_by_receiver [] few = refl
one_by_receiver (word ∷ []) few = refl
one_by_receiver (word ∷ other ∷ words) few = absurd (omega arith)

-- the Links of a step with at most one word
pub links_of_none : (from : List ℕ) (word : Option Tie) → word ≡ None → map (link_frame from) (by_receiver (words_of word)) ≡ []
unfolding by_receiver
links_of_none from word is = ap (λ w. map (link_frame from) (by_receiver (words_of w))) is

pub links_of_one : (from : List ℕ) (word : Option Tie) (one : Tie) → word ≡ Some one
    → map (link_frame from) (by_receiver (words_of word)) ≡ link_frame from one ∷ []
unfolding by_receiver inserted_by_receiver
links_of_one from word one is = ap (λ w. map (link_frame from) (by_receiver (words_of w))) is
