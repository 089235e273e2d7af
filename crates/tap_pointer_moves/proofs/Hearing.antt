-- What a node knows of each pair after each change of its pointers: what it publishes, what its registers keep, and where it has laid it.
use Rattle.std.proofs.Common.{◌≡◌, ◌⊎◌, ℕ, ◌<◌, ◌≤◌, Bool, true, false, List, [], ◌∷◌, map, Option, Some, None, refl, sym, ap, subst, ◌∙◌, inl, inr, if◌then◌else◌, ltb, ltb-true, ltb-false}
use Rattle.std.specs.BTreeMap.{is_at}
use Rattle.std.specs.Cmp.Lexicographic.{nat_list_cmp_total}
use Rattle.std.specs.Ordering.{is_eq}
use Rattle.std.proofs.lemmas.Bool.{cases_Bool}
use Rattle.std.proofs.lemmas.Cmp.{tied_itself}
use Rattle.tap_name.specs.Order.{name_cmp}
use Rattle.tap_name.proofs.Orders.{name_cmp-equal}
use Rattle.tap_register.specs.Registers.{IsAscending, entry_of, newest}
use Rattle.tap_register.specs.declared.registers.Entry.{Entry}
use Rattle.tap_register.proofs.Applied.{IsAscending-applied, entry_of-applied}
use Rattle.tap_register.proofs.Orderings.{is_equal}
use Rattle.tap_table.specs.Table.{TableValue}
use Rattle.tap_pointer.specs.declared.pair.Pair.{Pair}
use Rattle.tap_pointer.specs.declared.state.PairState.{PairState}
use Rattle.tap_pointer.specs.declared.state.Pointer.{Pointer}
use Rattle.tap_pointer.specs.Due.{laid_at, wanted_at}
use Rattle.tap_pointer.specs.Pair.{pair_cmp, pair_cmp-total}
use Rattle.tap_pointer.specs.Pointers.{PointersValue, all_withdrawn, lay_applied, nothing_known, own_pair, pointer_at, published, state_among, state_of, with_lay, with_published, withdrawn}
use Rattle.tap_pointer.specs.Reconcile.{reconciled, wanted_hop}
use Rattle.tap_pointer.proofs.Known.{pair_cmp-equal}
use Rattle.tap_pointer.proofs.Laws.{is_same, state_of-lay_applied, state_of-published, state_of-withdrawn}
use Rattle.tap_pointer_moves.specs.Said.{LayWord, lay_word_kept, word_in_entry}

-- whether the node publishes the object of a pair, as its server
abbrev pub publishes : PointersValue → Pair → Bool
publishes p pair = (state_of p pair).published

-- what the node has of the senders of a pair
abbrev pub registers_of : PointersValue → Pair → List (Entry (List ℕ) Pointer)
registers_of p pair = (state_of p pair).registers

-- ---- what is heard

-- Words of senders about pairs are heard: the register of each pair and sender keeps what it had, or such a word that is newer; and if there
-- is such a word, it keeps one that is no older.
pub record Hears (Taken : List ℕ → Pair → LayWord → Type 0) (before after : PointersValue) : Type 0 where
  pub came : (x : List ℕ) (pair : Pair) (word : LayWord) → lay_word_kept after pair x ≡ Some word
      → (lay_word_kept before pair x ≡ Some word) ⊎ Taken x pair word
  pub stays : (x : List ℕ) (pair : Pair) (word : LayWord) → lay_word_kept before pair x ≡ Some word
      → (lay_word_kept after pair x ≡ Some word)
      ⊎ ((new : LayWord) × Taken x pair new × (lay_word_kept after pair x ≡ Some new) × (word.version < new.version))
  pub took : (x : List ℕ) (pair : Pair) (new : LayWord) → Taken x pair new
      → (lay_word_kept after pair x ≡ Some new)
      ⊎ ((word : LayWord) × (lay_word_kept before pair x ≡ Some word) × (lay_word_kept after pair x ≡ Some word) × (new.version ≤ word.version))

-- nothing is heard
pub hears_none : (Taken : List ℕ → Pair → LayWord → Type 0) (before after : PointersValue)
    → ((x : List ℕ) (pair : Pair) (word : LayWord) → Taken x pair word → ⊥)
    → ((pair : Pair) (x : List ℕ) → lay_word_kept after pair x ≡ lay_word_kept before pair x) → Hears Taken before after
hears_none Taken before after none same = record {
  came = λ x pair word kept. inl (sym (same pair x) ∙ kept);
  stays = λ x pair word kept. inl (same pair x ∙ kept);
  took = λ x pair word taken. absurd (none x pair word taken);
}

-- what is heard goes on to be kept if the registers stay after that
pub hears_then : (Taken : List ℕ → Pair → LayWord → Type 0) (before between after : PointersValue) → Hears Taken before between
    → ((pair : Pair) (x : List ℕ) → lay_word_kept after pair x ≡ lay_word_kept between pair x) → Hears Taken before after
hears_then Taken before between after hears same = record {
  came = λ x pair word kept. hears.came x pair word (sym (same pair x) ∙ kept);
  stays = λ x pair word kept. elim (hears.stays x pair word kept) [
    | inl stays ↦ inl (same pair x ∙ stays)
    | inr newer ↦ inr (newer.0, newer.1, same pair x ∙ newer.2, newer.3)
  ];
  took = λ x pair new taken. elim (hears.took x pair new taken) [
    | inl took ↦ inl (same pair x ∙ took)
    | inr older ↦ inr (older.0, older.1, same pair x ∙ older.2, older.3)
  ];
}

-- ---- a Lay

-- the newer of what is kept, if anything is, and a word
abbrev newer_word : Option LayWord → LayWord → LayWord
newer_word None new = new
newer_word (Some word) new = if ltb word.version new.version then new else word

newest_word : (old : Option (Entry (List ℕ) Pointer)) (x : List ℕ) (new : LayWord)
    → word_in_entry (Some (newest old (record { key = x; version = new.version; value = pointer_at new.level new.on })))
    ≡ Some (newer_word (word_in_entry old) new)
newest_word None x new = refl
newest_word (Some e) x new =
    elim (cases_Bool (ltb e.version new.version)) [ inl newer ↦ rw newer refl | inr older ↦ rw older refl ]

module _ (p : PointersValue) (at : Pair) (from : List ℕ) (new : LayWord) where
  abbrev pub heard : PointersValue
  heard = lay_applied p at from new.version (pointer_at new.level new.on)

  -- it is of this pair, and of this sender
  abbrev pub IsOf : List ℕ → Pair → LayWord → Type 0
  IsOf x pair word = (x ≡ from) × (pair ≡ at) × (word ≡ new)

  kept_now : (state : PairState) (x : List ℕ)
      → word_in_entry (entry_of name_cmp (with_lay state from new.version (pointer_at new.level new.on)).registers x)
      ≡ (if is_eq (name_cmp from x) then Some (newer_word (word_in_entry (entry_of name_cmp state.registers from)) new)
      else word_in_entry (entry_of name_cmp state.registers x))
  kept_now state x =
      ap word_in_entry
      (entry_of-applied name_cmp nat_list_cmp_total state.registers from new.version (pointer_at new.level new.on) x)
      ∙ either (is_eq (name_cmp from x))
    where
      either : (same : Bool)
          → word_in_entry (if same
          then Some (newest (entry_of name_cmp state.registers from)
          (record { key = from; version = new.version; value = pointer_at new.level new.on }))
          else entry_of name_cmp state.registers x)
          ≡ (if same then Some (newer_word (word_in_entry (entry_of name_cmp state.registers from)) new)
          else word_in_entry (entry_of name_cmp state.registers x))
      either true = newest_word (entry_of name_cmp state.registers from) from new
      either false = refl

  -- what is kept then of a pair and a sender: the newer one, or what was
  pub kept_heard : (pair : Pair) (x : List ℕ)
      → ((x ≡ from) × (pair ≡ at) × (lay_word_kept heard pair x ≡ Some (newer_word (lay_word_kept p pair x) new)))
      ⊎ (((x ≡ from) → (pair ≡ at) → ⊥) × (lay_word_kept heard pair x ≡ lay_word_kept p pair x))
  kept_heard pair x = by_pair (is_same pair at) refl (is_eq (name_cmp from x)) refl
    where
      state : lay_word_kept heard pair x ≡ word_in_entry (entry_of name_cmp
          (if is_same pair at then with_lay (state_of p at) from new.version (pointer_at new.level new.on)
          else state_of p pair).registers x)
      state = ap (λ (s : PairState). word_in_entry (entry_of name_cmp s.registers x))
          (state_of-lay_applied p at from new.version (pointer_at new.level new.on) pair)

      by_pair : (same : Bool) → is_same pair at ≡ same → (mine : Bool) → is_eq (name_cmp from x) ≡ mine
          → ((x ≡ from) × (pair ≡ at) × (lay_word_kept heard pair x ≡ Some (newer_word (lay_word_kept p pair x) new)))
          ⊎ (((x ≡ from) → (pair ≡ at) → ⊥) × (lay_word_kept heard pair x ≡ lay_word_kept p pair x))
      by_pair false is mine own =
          inr (
            λ here there.
                let wrong : false ≡ true = sym is ∙ ap (λ q. is_same q at) there ∙ ap is_eq (tied_itself pair_cmp-total at) in
                cc,
            rw is at state,
          )
      by_pair true is true own =
          let here : x ≡ from = sym (name_cmp-equal from x own) in
          let there : pair ≡ at = pair_cmp-equal pair at (is_equal (pair_cmp pair at) is) in
          let now : lay_word_kept heard pair x ≡ Some (newer_word (lay_word_kept p at from) new) =
          (rw is at state) ∙ kept_now (state_of p at) x ∙ rw own refl in
          inl (
            here,
            there,
            now ∙ ap (λ q. Some (newer_word (lay_word_kept p q from) new)) (sym there)
                ∙ ap (λ y. Some (newer_word (lay_word_kept p pair y) new)) (sym here),
          )
      by_pair true is false own =
          let there : pair ≡ at = pair_cmp-equal pair at (is_equal (pair_cmp pair at) is) in
          inr (
            λ here same.
                let wrong : false ≡ true = sym own ∙ ap (λ y. is_eq (name_cmp from y)) here ∙ ap is_eq (tied_itself nat_list_cmp_total from) in
                cc,
            (rw is at state) ∙ kept_now (state_of p at) x ∙ rw own refl ∙ ap (λ q. lay_word_kept p q x) (sym there),
          )

  newer_either : (before : Option LayWord) → (newer_word before new ≡ new)
      ⊎ ((word : LayWord) × (before ≡ Some word) × (newer_word before new ≡ word) × (new.version ≤ word.version))
  newer_either None = inl refl
  newer_either (Some word) =
      elim (cases_Bool (ltb word.version new.version)) [
        | inl newer ↦ inl (rw newer refl)
        | inr older ↦ inr (word, refl, rw older refl, ltb-false word.version new.version older)
      ]

  newer_stays : (word : LayWord) → (newer_word (Some word) new ≡ word)
      ⊎ ((newer_word (Some word) new ≡ new) × (word.version < new.version))
  newer_stays word =
      elim (cases_Bool (ltb word.version new.version)) [
        | inl newer ↦ inr (rw newer refl, ltb-true word.version new.version newer)
        | inr older ↦ inl (rw older refl)
      ]

  pub hears_lay : Hears IsOf p heard
  hears_lay = record {
    came = λ x pair word kept. elim (kept_heard pair x) [
      | inl here ↦
          elim (newer_either (lay_word_kept p pair x)) [
            | inl is ↦ let same : Some new ≡ Some word = sym (ap Some is) ∙ sym here.2 ∙ kept in
                let one : new ≡ word = cc in inr (here.0, here.1, sym one)
            | inr old ↦ let same : Some old.0 ≡ Some word = sym (ap Some old.2) ∙ sym here.2 ∙ kept in
                inl (old.1 ∙ same)
          ]
      | inr other ↦ inl (sym other.1 ∙ kept)
    ];
    stays = λ x pair word kept. elim (kept_heard pair x) [
      | inl here ↦
          let now : lay_word_kept heard pair x ≡ Some (newer_word (Some word) new) = here.2 ∙ ap (λ b. Some (newer_word b new)) kept in
          elim (newer_stays word) [
            | inl old ↦ inl (now ∙ ap Some old)
            | inr is ↦ inr (new, (here.0, here.1, refl), now ∙ ap Some is.0, is.1)
          ]
      | inr other ↦ inl (other.1 ∙ kept)
    ];
    took = λ x pair word taken. elim (kept_heard pair x) [
      | inl here ↦
          elim (newer_either (lay_word_kept p pair x)) [
            | inl is ↦ inl (here.2 ∙ ap Some is ∙ ap Some (sym taken.2))
            | inr old ↦ inr (old.0, old.1, here.2 ∙ ap Some old.2, rw taken.2 old.3)
          ]
      | inr other ↦ absurd (other.0 taken.0 taken.1)
    ];
  }

  state_either : (A : Type 0) (read : PairState → A) → ((state : PairState)
      → read (with_lay state from new.version (pointer_at new.level new.on)) ≡ read state) → (pair : Pair)
      → read (state_of heard pair) ≡ read (state_of p pair)
  state_either A read same pair = by_pair (is_same pair at) refl
    where
      by_pair : (is : Bool) → is_same pair at ≡ is → read (state_of heard pair) ≡ read (state_of p pair)
      by_pair true is =
          let there : pair ≡ at = pair_cmp-equal pair at (is_equal (pair_cmp pair at) is) in
          let now = state_of-lay_applied p at from new.version (pointer_at new.level new.on) pair in
          ap read (rw is at now) ∙ same (state_of p at) ∙ ap (λ q. read (state_of p q)) (sym there)
      by_pair false is =
          let now = state_of-lay_applied p at from new.version (pointer_at new.level new.on) pair in
          ap read (rw is at now)

  -- the registers of each pair still ascend by sender
  pub heard_ascends : (pair : Pair) → IsAscending name_cmp (registers_of p pair) → IsAscending name_cmp (registers_of heard pair)
  heard_ascends pair ascending = by_pair (is_same pair at) refl
    where
      by_pair : (is : Bool) → is_same pair at ≡ is → IsAscending name_cmp (registers_of heard pair)
      by_pair true is =
          let there : pair ≡ at = pair_cmp-equal pair at (is_equal (pair_cmp pair at) is) in
          let now = state_of-lay_applied p at from new.version (pointer_at new.level new.on) pair in
          let state : state_of heard pair ≡ with_lay (state_of p at) from new.version (pointer_at new.level new.on) = rw is at now in
          subst (λ (s : PairState). IsAscending name_cmp s.registers) (sym state)
          (IsAscending-applied name_cmp nat_list_cmp_total (state_of p at).registers from new.version (pointer_at new.level new.on)
          (subst (λ q. IsAscending name_cmp (registers_of p q)) there ascending))
      by_pair false is =
          let now = state_of-lay_applied p at from new.version (pointer_at new.level new.on) pair in
          let state : state_of heard pair ≡ state_of p pair = rw is at now in
          subst (λ (s : PairState). IsAscending name_cmp s.registers) (sym state) ascending

  pub heard_laid : (pair : Pair) → laid_at heard pair ≡ laid_at p pair
  heard_laid = state_either _ (λ s. s.laid) (λ state. refl)

  pub heard_publishes : (pair : Pair) → publishes heard pair ≡ publishes p pair
  heard_publishes = state_either _ (λ s. s.published) (λ state. refl)

-- ---- publications

module _ (p : PointersValue) (object : List ℕ) where
  abbrev own : Pair
  own = own_pair p object

  -- what is known of a pair once the publication of the object is this
  abbrev now_is : Bool → Pair → PairState
  now_is is pair = if is_same pair own then with_published (state_of p own) is else state_of p pair

  pub now_read : (A : Type 0) (read : PairState → A) (is : Bool) → ((state : PairState) → read (with_published state is) ≡ read state)
      → (pair : Pair) → read (now_is is pair) ≡ read (state_of p pair)
  now_read A read is same pair = by_pair (is_same pair own) refl
    where
      by_pair : (here : Bool) → is_same pair own ≡ here → read (now_is is pair) ≡ read (state_of p pair)
      by_pair true here =
          let there : pair ≡ own = pair_cmp-equal pair own (is_equal (pair_cmp pair own) here) in
          let now : now_is is pair ≡ with_published (state_of p own) is = rw here refl in
          ap read now ∙ same (state_of p own) ∙ ap (λ q. read (state_of p q)) (sym there)
      by_pair false here = let now : now_is is pair ≡ state_of p pair = rw here refl in ap read now

  now_publishes : (is : Bool) (pair : Pair) → (now_is is pair).published ≡ (if is_same pair own then is else publishes p pair)
  now_publishes is pair = by_pair (is_same pair own)
    where
      by_pair : (here : Bool) → (if here then with_published (state_of p own) is else state_of p pair).published
          ≡ (if here then is else publishes p pair)
      by_pair true = refl
      by_pair false = refl

  pub published_laid : (pair : Pair) → laid_at (published p object) pair ≡ laid_at p pair
  published_laid pair =
      ap (λ (s : PairState). s.laid) (state_of-published p object pair) ∙ now_read _ (λ s. s.laid) true (λ state. refl) pair

  pub published_kept : (pair : Pair) (x : List ℕ) → lay_word_kept (published p object) pair x ≡ lay_word_kept p pair x
  published_kept pair x =
      ap (λ (s : PairState). word_in_entry (entry_of name_cmp s.registers x)) (state_of-published p object pair)
      ∙ now_read _ (λ s. word_in_entry (entry_of name_cmp s.registers x)) true (λ state. refl) pair

  pub published_registers : (pair : Pair) → registers_of (published p object) pair ≡ registers_of p pair
  published_registers pair =
      ap (λ (s : PairState). s.registers) (state_of-published p object pair) ∙ now_read _ (λ s. s.registers) true (λ state. refl) pair

  pub published_publishes : (pair : Pair) → publishes (published p object) pair ≡ (if is_same pair own then true else publishes p pair)
  published_publishes pair = ap (λ (s : PairState). s.published) (state_of-published p object pair) ∙ now_publishes true pair

  pub withdrawn_laid : (pair : Pair) → laid_at (withdrawn p object) pair ≡ laid_at p pair
  withdrawn_laid pair =
      ap (λ (s : PairState). s.laid) (state_of-withdrawn p object pair) ∙ now_read _ (λ s. s.laid) false (λ state. refl) pair

  pub withdrawn_kept : (pair : Pair) (x : List ℕ) → lay_word_kept (withdrawn p object) pair x ≡ lay_word_kept p pair x
  withdrawn_kept pair x =
      ap (λ (s : PairState). word_in_entry (entry_of name_cmp s.registers x)) (state_of-withdrawn p object pair)
      ∙ now_read _ (λ s. word_in_entry (entry_of name_cmp s.registers x)) false (λ state. refl) pair

  pub withdrawn_registers : (pair : Pair) → registers_of (withdrawn p object) pair ≡ registers_of p pair
  withdrawn_registers pair =
      ap (λ (s : PairState). s.registers) (state_of-withdrawn p object pair) ∙ now_read _ (λ s. s.registers) false (λ state. refl) pair

  pub withdrawn_publishes : (pair : Pair) → publishes (withdrawn p object) pair ≡ (if is_same pair own then false else publishes p pair)
  withdrawn_publishes pair = ap (λ (s : PairState). s.published) (state_of-withdrawn p object pair) ∙ now_publishes false pair

-- ---- all pairs

-- what is known of a pair once what is known of each has changed so: that, or nothing, if nothing was
module _ (f : Pair × PairState → PairState) where
  abbrev all_changed : List (Pair × PairState) → List (Pair × PairState)
  all_changed pairs = map (λ e. (e.0, f e)) pairs

  pub state_changed : (pairs : List (Pair × PairState)) (pair : Pair)
      → (state_among (all_changed pairs) pair ≡ f (pair, state_among pairs pair))
      ⊎ ((state_among pairs pair ≡ nothing_known) × (state_among (all_changed pairs) pair ≡ nothing_known))
  state_changed [] pair = inr (refl, refl)
  state_changed (e ∷ pairs) pair = by_order (is_at (pair_cmp pair) e.0) refl (state_changed pairs pair)
    where
      by_order : (here : Bool) → is_at (pair_cmp pair) e.0 ≡ here
          → (state_among (all_changed pairs) pair ≡ f (pair, state_among pairs pair))
          ⊎ ((state_among pairs pair ≡ nothing_known) × (state_among (all_changed pairs) pair ≡ nothing_known))
          → (state_among (all_changed (e ∷ pairs)) pair ≡ f (pair, state_among (e ∷ pairs) pair))
          ⊎ ((state_among (e ∷ pairs) pair ≡ nothing_known) × (state_among (all_changed (e ∷ pairs)) pair ≡ nothing_known))
      by_order true here later =
          let there : pair ≡ e.0 = pair_cmp-equal pair e.0 (is_equal (pair_cmp pair e.0) here) in
          inl (rw here (ap (λ q. f (q, e.1)) (sym there)))
      by_order false here later = rw here later

  module _ (A : Type 0) (read : PairState → A) (pairs : List (Pair × PairState))
      (same : (e : Pair × PairState) → read (f e) ≡ read e.1) where
    pub read_changed : (pair : Pair) → read (state_among (all_changed pairs) pair) ≡ read (state_among pairs pair)
    read_changed pair =
        elim (state_changed pairs pair) [
          | inl now ↦ ap read now ∙ same (pair, state_among pairs pair)
          | inr none ↦ ap read none.1 ∙ sym (ap read none.0)
        ]

module _ (p : PointersValue) where
  pub all_withdrawn_laid : (pair : Pair) → laid_at (all_withdrawn p) pair ≡ laid_at p pair
  all_withdrawn_laid = read_changed (λ e. with_published e.1 false) _ (λ s. s.laid) p.pairs (λ e. refl)

  pub all_withdrawn_kept : (pair : Pair) (x : List ℕ) → lay_word_kept (all_withdrawn p) pair x ≡ lay_word_kept p pair x
  all_withdrawn_kept pair x =
      read_changed (λ e. with_published e.1 false) _ (λ s. word_in_entry (entry_of name_cmp s.registers x)) p.pairs (λ e. refl) pair

  pub all_withdrawn_registers : (pair : Pair) → registers_of (all_withdrawn p) pair ≡ registers_of p pair
  all_withdrawn_registers = read_changed (λ e. with_published e.1 false) _ (λ s. s.registers) p.pairs (λ e. refl)

  pub all_withdrawn_publishes : (pair : Pair) → publishes (all_withdrawn p) pair ≡ false
  all_withdrawn_publishes pair =
      elim (state_changed (λ e. with_published e.1 false) p.pairs pair) [
        | inl now ↦ ap (λ (s : PairState). s.published) now
        | inr none ↦ ap (λ (s : PairState). s.published) none.1
      ]

  module _ (t : TableValue) where
    pub reconciled_kept : (pair : Pair) (x : List ℕ) → lay_word_kept (reconciled t p) pair x ≡ lay_word_kept p pair x
    reconciled_kept pair x =
        read_changed (λ e. record (e.1) { laid = wanted_hop t e }) _ (λ s. word_in_entry (entry_of name_cmp s.registers x)) p.pairs
        (λ e. refl) pair

    pub reconciled_registers : (pair : Pair) → registers_of (reconciled t p) pair ≡ registers_of p pair
    reconciled_registers =
        read_changed (λ e. record (e.1) { laid = wanted_hop t e }) _ (λ s. s.registers) p.pairs (λ e. refl)

    pub reconciled_publishes : (pair : Pair) → publishes (reconciled t p) pair ≡ publishes p pair
    reconciled_publishes pair =
        read_changed (λ e. record (e.1) { laid = wanted_hop t e }) _ (λ s. s.published) p.pairs (λ e. refl) pair

    pub reconciled_laid : (pair : Pair) → laid_at (reconciled t p) pair ≡ wanted_at t p pair
    reconciled_laid pair =
        elim (state_changed (λ e. record (e.1) { laid = wanted_hop t e }) p.pairs pair) [
          | inl now ↦ ap (λ (s : PairState). s.laid) now
          | inr none ↦ ap (λ (s : PairState). s.laid) none.1 ∙ sym (ap (λ s. wanted_hop t (pair, s)) none.0)
        ]
