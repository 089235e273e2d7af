-- The holders of ties are what look-ups among them find.
-- Cited above: entry_of-held_word, on_exactly
use Rattle.std.proofs.Common.{◌≡◌, ◌≢◌, ◌↔◌, ℕ, zero, suc, Bool, true, Option, None, Some, List, [], ◌∷◌, slice_get, arith, ap, sym, refl, subst, ◌∙◌, inl, inr, if◌then◌else◌}
use Rattle.std.specs.Ordering.{is_eq}
use Rattle.std.specs.declared.cmp.Ordering.TheVariants.{Less}
use Rattle.std.proofs.lemmas.Bool.{cases_Bool}
use Rattle.std.proofs.lemmas.Cmp.{nat_list_cmp_total}
use Rattle.std.proofs.lemmas.Option.{get_or_from_slice_get, slice_get_within}
use Rattle.tap_name.specs.Name.{IsName}
use Rattle.tap_name.specs.Names.{Among}
use Rattle.tap_register.specs.declared.registers.Entry.{Entry}
use Rattle.tap_register.specs.Registers.{IsAscending, entry_of, newest}
use Rattle.tap_register.proofs.Applied.{entry_of-applied}
use Rattle.tap_table.specs.Table.{name_cmp}
use Rattle.tap_table.specs.Ties.{AreTies, TiesValue, held_word, holders_on, is_on, says_on}
use Rattle.tap_table.proofs.Holders.{on}
use Rattle.tap_table.proofs.Near.{tied_itself, tied_names}

abbrev Word : Type 0
Word = Entry (List ℕ) Bool

-- a node that gave a word has an entry
pub entry_found : (words : List Word) (name : List ℕ) (e : Word) → entry_of name_cmp words name ≡ Some e
    → (i : ℕ) × (slice_get words i ≡ Some e) × (e.key ≡ name)
entry_found [] name e found = cc
entry_found (w ∷ words) name e found =
    elim (cases_Bool (is_eq (name_cmp w.key name))) [
      | inl tied ↦
          let is : Some w ≡ Some e = rw tied at found in
          let same : w ≡ e = cc in
          (0, is, ap (λ (x : Word). x.key) (sym same) ∙ tied_names w.key name tied)
      | inr apart ↦
          let rest : entry_of name_cmp words name ≡ Some e = rw apart at found in
          let more = entry_found words name e rest in
          (suc more.0, more.1, more.2)
    ]

ascending_tail : (w : Word) (words : List Word) → IsAscending name_cmp (w ∷ words) → IsAscending name_cmp words
ascending_tail w words ascending i j d before within = ascending (suc i) (suc j) d (omega arith) (omega arith)

-- each entry is the one of its key
pub entry_gives : (words : List Word) (i : ℕ) (e : Word) → IsAscending name_cmp words → slice_get words i ≡ Some e
    → entry_of name_cmp words e.key ≡ Some e
entry_gives [] i e ascending got = cc
entry_gives (w ∷ words) zero e ascending got =
    let same : w ≡ e = cc in
    rw (← same, tied_itself w.key) refl
entry_gives (w ∷ words) (suc i) e ascending got =
    let read = get_or_from_slice_get words i e e got in
    let within = slice_get_within words i e got in
    let below : name_cmp w.key e.key ≡ Less =
    ap (λ (x : Word). name_cmp w.key x.key) (sym read) ∙ ascending 0 (suc i) e (omega arith) (omega arith) in
    rw below (entry_gives words i e (ascending_tail w words ascending) got)

-- the names that are on are those of the entries that say so
on_found : (words : List Word) (name : List ℕ) → Among name (on words)
    → (i : ℕ) × (e : Word) × (slice_get words i ≡ Some e) × (e.key ≡ name) × (e.value ≡ true)
on_found [] name among = absurd among
on_found (w ∷ words) name among =
    elim (cases_Bool w.value) [
      | inl is ↦
          elim (rw is at among) [
            | inl same ↦ (0, w, refl, sym same, is)
            | inr later ↦ let more = on_found words name later in (suc more.0, more.1, more.2, more.3, more.4)
          ]
      | inr isnt ↦ let more = on_found words name (rw isnt at among) in (suc more.0, more.1, more.2, more.3, more.4)
    ]

on_from : (words : List Word) (i : ℕ) (e : Word) → slice_get words i ≡ Some e → e.value ≡ true → Among e.key (on words)
on_from [] i e got is = cc
on_from (w ∷ words) zero e got is =
    let same : w ≡ e = cc in
    let value : w.value ≡ true = ap (λ (x : Word). x.value) same ∙ is in
    rw value (inl (ap (λ (x : Word). x.key) (sym same)))
on_from (w ∷ words) (suc i) e got is =
    elim (cases_Bool w.value) [
      | inl on ↦ rw on (inr (on_from words i e got is))
      | inr off ↦ rw off (on_from words i e got is)
    ]

says_from : (found : Option Word) → says_on found ≡ true → (e : Word) × (found ≡ Some e) × (e.value ≡ true)
says_from None is = cc
says_from (Some e) is = (e, refl, is)

module _ (ties : TiesValue) (are : AreTies ties) where
  -- each holder is found by its name, which is one of the settings, and not the owner
  pub holder_is_found : (i : ℕ) (e : Entry (List ℕ) Bool) → slice_get ties.holders i ≡ Some e
      → entry_of name_cmp ties.holders e.key ≡ Some e
  holder_is_found i e got = entry_gives ties.holders i e are.ascending got

  -- and what is found is a holder
  pub found_is_holder : (name : List ℕ) (e : Entry (List ℕ) Bool) → entry_of name_cmp ties.holders name ≡ Some e
      → (i : ℕ) × (slice_get ties.holders i ≡ Some e) × (e.key ≡ name)
  found_is_holder name e found = entry_found ties.holders name e found

  pub holder_is_name : (name : List ℕ) (e : Entry (List ℕ) Bool) → entry_of name_cmp ties.holders name ≡ Some e
      → IsName ties.table.settings name × (name ≢ ties.table.owner)
  holder_is_name name e found =
      let (i, got, named) = entry_found ties.holders name e found in
      let within = slice_get_within ties.holders i e got in
      let read = get_or_from_slice_get ties.holders i e e got in
      let key = ap (λ (x : Word). x.key) read ∙ named in
      let Other : List ℕ → Type 0 = λ n. n ≢ ties.table.owner in
      (subst (IsName ties.table.settings) key (are.names i e within), subst Other key (are.others i e within))

  -- a name is among the holders that are on exactly where its newest word says so
  pub on_exactly : (name : List ℕ) → Among name (holders_on ties) ↔ (is_on ties name ≡ true)
  on_exactly name = (
    λ among.
        let (i, e, got, named, on) = on_found ties.holders name among in
        let Says : List ℕ → Type 0 = λ n. is_on ties n ≡ true in
        subst Says named (ap says_on (holder_is_found i e got) ∙ on),
    λ on.
        let (e, found, value) = says_from (entry_of name_cmp ties.holders name) on in
        let (i, got, named) = entry_found ties.holders name e found in
        let Is : List ℕ → Type 0 = λ n. Among n (holders_on ties) in
        subst Is named (on_from ties.holders i e got value),
  )

-- the newest word of every node after the word of one of them
pub entry_of-held_word : (ties : TiesValue) (holder : List ℕ) (version : ℕ) (on : Bool) (other : List ℕ)
    → entry_of name_cmp (held_word ties holder version on).holders other
    ≡ (if is_eq (name_cmp holder other)
    then Some (newest (entry_of name_cmp ties.holders holder) (record { key = holder; version = version; value = on }))
    else entry_of name_cmp ties.holders other)
entry_of-held_word ties holder version on other =
    entry_of-applied name_cmp nat_list_cmp_total ties.holders holder version on other
