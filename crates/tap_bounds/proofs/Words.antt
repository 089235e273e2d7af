-- What the words of a pin, an offer, a release and a Hello say to a name, beside what these make of the link to it.
use Rattle.std.proofs.Common.{◌≡◌, ◌≢◌, ◌⊎◌, ℕ, nat_eq, ◌+◌, ◌≤◌, Bool, true, false, not, cond, List, [], ◌∷◌, ◌++◌, Option, None, Some, is_none, arith, ap, refl, sym, subst, ◌∙◌, inl, inr}
use Rattle.std.specs.Prelude.{All, count_by, ◌&&◌}
use Rattle.std.specs.Cmp.Lexicographic.{pointwise}
use Rattle.std.specs.List.{list_any}
use Rattle.std.proofs.Math.Bool.{and-false}
use Rattle.std.proofs.lemmas.Bool.{cases_Bool, true≢false}
use Rattle.std.proofs.lemmas.List.Elements.{All-head, All-tail}
use Rattle.std.proofs.lemmas.Slice.Eq.{bytes_eq-Decides}
use Rattle.tap_name.specs.declared.slot.Offered.{Offered}
use Rattle.tap_name.specs.Name.{IsName}
use Rattle.tap_name.specs.Settings.{SettingsValue}
use Rattle.tap_link.specs.declared.kind.Kind.{Kind}
use Rattle.tap_link.specs.declared.kind.Kind.TheVariants.{Leaving, Pin, Settled}
use Rattle.tap_link.specs.LinkSet.{is_pinned}
use Rattle.tap_link.proofs.TargetKinds.{kind_offered, kind_pinned, kind_released}
use Rattle.tap_table.specs.declared.tie.Tie.{Tie}
use Rattle.tap_table.specs.Table.{IsTable, has_room_near, kind_in}
use Rattle.tap_table.specs.Table.{offered as table_offered, pinned as table_pinned, released as table_released}
use Rattle.tap_table.specs.Ties.{TiesValue, offer_tells, pin_tells, release_tells, stamp_after, tie_where}
use Rattle.tap_table.proofs.LookUps.{by_rule, kind_in-offered, kind_in-pinned, kind_in-released, of_itself}
use Rattle.tap_table.proofs.Near.{apart_names}
use Rattle.tap_join.specs.Hello.{after_links, links_tell, offered_tells, with_offered, words_of}
use Rattle.tap_join.proofs.Hellos.{AreOf, IsNamed, named, of_one, offered_cases}
use Rattle.tap_moves.proofs.Got.{same_name}
use Rattle.tap_bounds.proofs.Counting.{count-append, count-cons}

-- ---- counts

-- whether a word says to this name that there is a link, and that there is none any more
abbrev pub says_on_to : List ℕ → Tie → Bool
says_on_to t word = word.on && pointwise nat_eq word.to t

abbrev pub says_off_to : List ℕ → Tie → Bool
says_off_to t word = not word.on && pointwise nat_eq word.to t

-- how many words do
abbrev pub on_to : List ℕ → List Tie → ℕ
on_to t words = count_by (says_on_to t) words

abbrev pub off_to : List ℕ → List Tie → ℕ
off_to t words = count_by (says_off_to t) words

-- one for a link, and one for a pin
abbrev pub if_linked : Option Kind → ℕ
if_linked None = 0
if_linked (Some kind) = 1

abbrev pub if_pinned : Option Kind → ℕ
if_pinned found = cond (is_pinned found) 1 0

pub linked_most : (found : Option Kind) → if_linked found ≤ 1
linked_most None = omega arith
linked_most (Some kind) = omega arith

pub pinned_most : (found : Option Kind) → if_pinned found ≤ 1
pinned_most found = by (is_pinned found)
  where
    by : (test : Bool) → cond {A = ℕ} test 1 0 ≤ 1
    by true = omega arith
    by false = omega arith

-- Words that add a link at most: of a name there is a link then, if one says so, and there was none; and no word says more than that.
pub record Adds (t : List ℕ) (words : List Tie) (before after : Option Kind) : Type 0 where
  pub on : on_to t words + if_linked before ≤ if_linked after
  pub pins : if_pinned after + off_to t words ≤ if_pinned before + on_to t words

pub adds_none : (t : List ℕ) (found : Option Kind) → Adds t [] found found
adds_none t found = record { on = omega arith; pins = omega arith }

pub adds_both : (t : List ℕ) (one two : List Tie) (before between after : Option Kind) → Adds t one before between
    → Adds t two between after → Adds t (one ++ two) before after
adds_both t one two before between after first second =
    let on = count-append (says_on_to t) one two in
    let off = count-append (says_off_to t) one two in
    let a = first.on in
    let b = second.on in
    let c = first.pins in
    let d = second.pins in
    record { on = omega (arith, on, a, b); pins = omega (arith, on, off, c, d) }

-- ---- one word

pub apart_test : (a b : List ℕ) → a ≢ b → pointwise nat_eq a b ≡ false
apart_test a b apart =
    elim (cases_Bool (pointwise nat_eq a b)) [ inl same ↦ absurd (apart ((bytes_eq-Decides a b).0 same)) | inr differs ↦ differs ]

pub same_test : (a : List ℕ) → pointwise nat_eq a a ≡ true
same_test a = (bytes_eq-Decides a a).1 refl

module _ (t b : List ℕ) (n : ℕ) where
  -- a word to another name says nothing to this one
  pub on_elsewhere : (told on : Bool) → pointwise nat_eq b t ≡ false → on_to t (words_of (tie_where told b n on)) ≡ 0
  on_elsewhere false on apart = refl
  on_elsewhere true on apart =
      let word : Tie = record { to = b; version = n; on = on } in
      let all = count-cons (says_on_to t) word [] in
      let none : cond {A = ℕ} (says_on_to t word) 1 0 ≡ 0 = rw (apart, and-false on) refl in
      omega (arith, all, none)

  pub off_elsewhere : (told on : Bool) → pointwise nat_eq b t ≡ false → off_to t (words_of (tie_where told b n on)) ≡ 0
  off_elsewhere false on apart = refl
  off_elsewhere true on apart =
      let word : Tie = record { to = b; version = n; on = on } in
      let all = count-cons (says_off_to t) word [] in
      let none : cond {A = ℕ} (says_off_to t word) 1 0 ≡ 0 = rw (apart, and-false (not on)) refl in
      omega (arith, all, none)

-- a word to a name that there is a link
module _ (t : List ℕ) (n : ℕ) where
  abbrev on_word : Tie
  on_word = record { to = t; version = n; on = true }

  abbrev off_word : Tie
  off_word = record { to = t; version = n; on = false }

  on_here : on_to t (on_word ∷ []) ≡ 1
  on_here =
      let all = count-cons (says_on_to t) on_word [] in
      let one : cond {A = ℕ} (says_on_to t on_word) 1 0 ≡ 1 = rw (same_test t) refl in
      omega (arith, all, one)

  not_off : off_to t (on_word ∷ []) ≡ 0
  not_off = let all = count-cons (says_off_to t) on_word [] in omega (arith, all)

  not_on : on_to t (off_word ∷ []) ≡ 0
  not_on = let all = count-cons (says_on_to t) off_word [] in omega (arith, all)

  off_here : off_to t (off_word ∷ []) ≡ 1
  off_here =
      let all = count-cons (says_off_to t) off_word [] in
      let one : cond {A = ℕ} (says_off_to t off_word) 1 0 ≡ 1 = rw (same_test t) refl in
      omega (arith, all, one)

-- ---- a pin and an offer

-- the name is told, had no link and has one; or it isn't told, and its link stays
abbrev Gains : Bool → Option Kind → Option Kind → Type 0
Gains told before after = ((told ≡ false) × (after ≡ before)) ⊎ ((told ≡ true) × (before ≡ None))

pinned_gains : (found : Option Kind) → Gains (is_none found) found (kind_pinned found)
pinned_gains None = inr (refl, refl)
pinned_gains (Some kind) = inl (refl, refl)

offered_gains : (room : Bool) (found : Option Kind) → Gains (is_none found && room) found (kind_offered room found)
offered_gains true None = inr (refl, refl)
offered_gains false None = inl (refl, refl)
offered_gains room (Some kind) = inl (refl, refl)

-- a rule of one kind that gives a link wherever it tells
gives_link : (told : Bool) (found after : Option Kind) → Gains told found after → told ≡ true → found ≡ None
gives_link told found after (inl kept) is = let wrong : true ≡ false = sym is ∙ kept.0 in absurd (cc)
gives_link told found after (inr new) is = new.1

module _ (t : List ℕ) (n : ℕ) where
  gained : (told : Bool) (before after : Option Kind) → Gains told before after → (told ≡ true → if_linked after ≡ 1)
      → Adds t (words_of (tie_where told t n true)) before after
  gained true before after gains linked =
      let was : if_linked before ≡ 0 = ap if_linked (gives_link true before after gains refl) in
      let is = linked refl in
      let on = on_here t n in
      let off = not_off t n in
      let most = pinned_most after in
      record { on = omega (arith, was, is, on); pins = omega (arith, on, off, most) }
  gained false before after (inl kept) linked = subst (Adds t [] before) (sym kept.1) (adds_none t before)
  gained false before after (inr new) linked = let wrong : false ≡ true = new.0 in absurd (cc)

pinned_links : (found : Option Kind) → if_linked (kind_pinned found) ≡ 1
pinned_links None = refl
pinned_links (Some kind) = refl

offered_links : (room : Bool) (found : Option Kind) → (is_none found && room) ≡ true → if_linked (kind_offered room found) ≡ 1
offered_links true None told = refl
offered_links false None told = cc
offered_links room (Some kind) told = refl

-- what is added by a rule for one name, told if that is so of its link
adds_by_rule : (t b : List ℕ) (n : ℕ) (told : Bool) (rule : Option Kind → Option Kind) (found : Option Kind)
    → (t ≡ b → Gains told found (rule found)) → (t ≡ b → told ≡ true → if_linked (rule found) ≡ 1)
    → Adds t (words_of (tie_where told b n true)) found (by_rule b t rule found)
adds_by_rule t b n told rule found gains linked =
    elim (same_name t b) [
      | inl same ↦
          subst (λ c. Adds t (words_of (tie_where told c n true)) found (by_rule c t rule found)) same
          (subst (Adds t (words_of (tie_where told t n true)) found) (sym (of_itself t rule found))
          (gained t n told found (rule found) (gains same) (linked same)))
      | inr apart ↦
          let tied : by_rule b t rule found ≡ found = rw (apart_names t b apart) refl in
          let differs = apart_test b t (λ same. apart (sym same)) in
          let on = on_elsewhere t b n told true differs in
          let off = off_elsewhere t b n told true differs in
          subst (Adds t (words_of (tie_where told b n true)) found) (sym tied)
          (record { on = omega (arith, on); pins = omega (arith, on, off) })
    ]

module _ (ties : TiesValue) (last : ℕ) (b : List ℕ) (valid : IsTable ties.table) (name : IsName ties.table.settings b)
    (apart : b ≢ ties.table.owner) (t : List ℕ) where
  pub adds_pinned : Adds t (words_of (pin_tells ties last b)) (kind_in ties.table t) (kind_in (table_pinned ties.table b) t)
  adds_pinned =
      let told = is_none (kind_in ties.table b) in
      subst (Adds t (words_of (pin_tells ties last b)) (kind_in ties.table t)) (sym (kind_in-pinned ties.table b valid name apart t))
      (adds_by_rule t b (last + 1) told kind_pinned (kind_in ties.table t)
      (λ same. subst (λ c. Gains (is_none (kind_in ties.table c)) (kind_in ties.table t) (kind_pinned (kind_in ties.table t))) same
      (pinned_gains (kind_in ties.table t)))
      (λ same is. pinned_links (kind_in ties.table t)))

  pub adds_offered : Adds t (words_of (offer_tells ties last b)) (kind_in ties.table t) (kind_in (table_offered ties.table b) t)
  adds_offered =
      let room = has_room_near ties.table b in
      let told = is_none (kind_in ties.table b) && room in
      let here : t ≡ b → is_none (kind_in ties.table t) && room ≡ told =
      λ same. ap (λ c. is_none (kind_in ties.table c) && room) same in
      subst (Adds t (words_of (offer_tells ties last b)) (kind_in ties.table t)) (sym (kind_in-offered ties.table b valid name apart t))
      (adds_by_rule t b (last + 1) told (kind_offered room) (kind_in ties.table t)
      (λ same. subst (λ is. Gains is (kind_in ties.table t) (kind_offered room (kind_in ties.table t))) (here same)
      (offered_gains room (kind_in ties.table t)))
      (λ same is. offered_links room (kind_in ties.table t) (here same ∙ is)))

-- ---- a release

-- what a release says to a name: nothing but that its pin is gone
pub record Drops (t : List ℕ) (words : List Tie) (before after : Option Kind) : Type 0 where
  pub on : on_to t words ≡ 0
  pub pins : if_pinned after + off_to t words ≤ if_pinned before

module _ (t : List ℕ) (n : ℕ) where
  dropped : (room : Bool) (found : Option Kind)
      → Drops t (words_of (tie_where (is_pinned found && not room) t n false)) found (kind_released room found)
  dropped room None = record { on = refl; pins = omega arith }
  dropped true (Some Pin) = record { on = refl; pins = omega arith }
  dropped false (Some Pin) =
      let on = not_on t n in
      let off = off_here t n in
      record { on = on; pins = omega (arith, off) }
  dropped room (Some Settled) = record { on = refl; pins = omega arith }
  dropped room (Some Leaving) = record { on = refl; pins = omega arith }

module _ (ties : TiesValue) (last : ℕ) (b : List ℕ) (valid : IsTable ties.table) (name : IsName ties.table.settings b)
    (apart : b ≢ ties.table.owner) (t : List ℕ) where
  abbrev room : Bool
  room = has_room_near ties.table b

  abbrev words : List Tie
  words = words_of (release_tells ties last b)

  pub released_elsewhere : t ≢ b → kind_in (table_released ties.table b) t ≡ kind_in ties.table t
  released_elsewhere other = kind_in-released ties.table b valid name apart t ∙ rw (apart_names t b other) refl

  pub drops_released : Drops t words (kind_in ties.table t) (kind_in (table_released ties.table b) t)
  drops_released =
      elim (same_name t b) [
        | inl same ↦
            let found = kind_in ties.table t in
            let is : kind_in (table_released ties.table b) t ≡ kind_released room found =
            kind_in-released ties.table b valid name apart t
            ∙ subst (λ c. by_rule c t (kind_released room) found ≡ kind_released room found) same
            (of_itself t (kind_released room) found) in
            let said : tie_where (is_pinned found && not room) t (last + 1) false ≡ release_tells ties last b =
            ap (λ c. tie_where (is_pinned (kind_in ties.table c) && not room) c (last + 1) false) same in
            subst (λ word. Drops t (words_of word) found (kind_in (table_released ties.table b) t)) said
            (subst (Drops t (words_of (tie_where (is_pinned found && not room) t (last + 1) false)) found) (sym is)
            (dropped t (last + 1) room found))
        | inr other ↦
            let differs = apart_test b t (λ same. other (sym same)) in
            let told = is_pinned (kind_in ties.table b) && not room in
            let on = on_elsewhere t b (last + 1) told false differs in
            let off = off_elsewhere t b (last + 1) told false differs in
            let kept = ap if_pinned (released_elsewhere other) in
            record { on = on; pins = omega (arith, off, kept) }
      ]

-- ---- a Hello

-- whether the name is one of these
abbrev pub is_named_in : List ℕ → List Offered → Bool
is_named_in t links = list_any (λ link. pointwise nat_eq link.name t) links

module _ (p : SettingsValue) (owner t : List ℕ) where
  one_adds : (ties : TiesValue) (last : ℕ) (link : Offered) → IsNamed p owner link → AreOf p owner ties
      → Adds t (words_of (offered_tells ties last link)) (kind_in ties.table t) (kind_in (with_offered ties link).table t)
  one_adds ties last link is_name are =
      let name = named p owner ties link is_name are in
      offered_cases (λ after word. Adds t (words_of word) (kind_in ties.table t) (kind_in after.table t)) ties last link
      (λ own. adds_none t (kind_in ties.table t))
      (λ apart core. adds_offered ties last link.name are.0.table name apart t)
      (λ apart joining. adds_pinned ties last link.name are.0.table name apart t)

  pub links_add : (links : List Offered) (ties : TiesValue) (last : ℕ) → All (IsNamed p owner) links → AreOf p owner ties
      → Adds t (links_tell ties last links) (kind_in ties.table t) (kind_in (after_links ties links).table t)
  links_add [] ties last names are = adds_none t (kind_in ties.table t)
  links_add (link ∷ links) ties last names are =
      let is_name = All-head (IsNamed p owner) link links names in
      let others = All-tail (IsNamed p owner) link links names in
      let word = offered_tells ties last link in
      let next = with_offered ties link in
      adds_both t (words_of word) (links_tell next (stamp_after last word) links) (kind_in ties.table t) (kind_in next.table t)
      (kind_in (after_links next links).table t) (one_adds ties last link is_name are)
      (links_add links next (stamp_after last word) others (of_one p owner ties link is_name are))

  one_elsewhere : (ties : TiesValue) (last : ℕ) (link : Offered) → pointwise nat_eq link.name t ≡ false
      → on_to t (words_of (offered_tells ties last link)) ≡ 0
  one_elsewhere ties last link differs =
      offered_cases (λ after word. on_to t (words_of word) ≡ 0) ties last link (λ own. refl)
      (λ apart core.
      on_elsewhere t link.name (last + 1) (is_none (kind_in ties.table link.name) && has_room_near ties.table link.name) true differs)
      (λ apart joining. on_elsewhere t link.name (last + 1) (is_none (kind_in ties.table link.name)) true differs)

  links_elsewhere : (links : List Offered) (ties : TiesValue) (last : ℕ) → is_named_in t links ≡ false
      → on_to t (links_tell ties last links) ≡ 0
  links_elsewhere [] ties last none = refl
  links_elsewhere (link ∷ links) ties last none =
      elim (cases_Bool (pointwise nat_eq link.name t)) [
        | inl same ↦ let wrong : true ≡ false = rw same at none in absurd (true≢false wrong)
        | inr differs ↦
            let later : is_named_in t links ≡ false = rw differs at none in
            let word = offered_tells ties last link in
            let rest = links_elsewhere links (with_offered ties link) (stamp_after last word) later in
            let here = one_elsewhere ties last link differs in
            let both = count-append (says_on_to t) (words_of word) (links_tell (with_offered ties link) (stamp_after last word) links) in
            omega (arith, rest, here, both)
      ]

  -- at most one word says that there is a link, and none if the name isn't one of these
  pub links_few : (links : List Offered) (ties : TiesValue) (last : ℕ) → All (IsNamed p owner) links → AreOf p owner ties
      → on_to t (links_tell ties last links) ≤ cond {A = ℕ} (is_named_in t links) 1 0
  links_few links ties last names are =
      elim (cases_Bool (is_named_in t links)) [
        | inl is ↦
            let adds = (links_add links ties last names are).on in
            let most = linked_most (kind_in (after_links ties links).table t) in
            rw is (omega (arith, adds, most))
        | inr none ↦ let zero = links_elsewhere links ties last none in rw none (omega (arith, zero))
      ]
