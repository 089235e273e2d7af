-- A table over ascending names has a link to one of them exactly where its owner shares enough digits with that one.
use Rattle.std.proofs.Common.{◌≡◌, ◌≢◌, inl, inr, ℕ, ◌-◌, ◌<◌, ◌≤◌, nat_eq, nat_lt, nat_le, not, ◌&&◌, zero, suc, Bool, true, false, List, [], ◌∷◌, ◌++◌, length, take, drop, filter, get_or, All, AllPairs, refl, ap, sym, subst, ◌∙◌, arith}
use Rattle.std.specs.Prelude.{Contains}
use Rattle.std.specs.List.{list_any}
use Rattle.std.specs.List.Sorted.{IsPartitionPoint, IsPartitionedBy}
use Rattle.std.specs.Cmp.Lexicographic.{pointwise}
use Rattle.std.specs.Ordering.{is_lt}
use Rattle.std.proofs.Math.Seq.{split_at}
use Rattle.std.proofs.lemmas.Bool.{cases_Bool, cases_lt, true≢false}
use Rattle.std.proofs.lemmas.Bool.Decides.{nat_tests}
use Rattle.std.proofs.lemmas.List.{get_or-take, get_or_default, length-take-le}
use Rattle.std.proofs.lemmas.List.Elements.{All-head, All-tail, All-filter, All-cons, filter-append}
use Rattle.std.proofs.lemmas.List.Sums.{count_by-le-length, length-filter}
use Rattle.std.proofs.lemmas.Slice.Eq.{bytes_eq-Decides}
use Rattle.tap_name.specs.Name.{IsName}
use Rattle.tap_name.specs.Prefix.{lcp}
use Rattle.tap_name.specs.Settings.{SettingsValue}
use Rattle.tap_name.specs.Slot.{slot_at}
use Rattle.tap_name.proofs.Names.{same_tests}
use Rattle.tap_name.proofs.Near.{near_in_slot, same_slot_where_near}
use Rattle.tap_name.proofs.Orders.{below-digits, below-itself, below-trans}
use Rattle.tap_name.proofs.Prefixes.{lcp-digits, lcp-sym, lcp-triangle}
use Rattle.tap_register.proofs.Orderings.{is_less}
use Rattle.tap_table.specs.Members.{IsBelow, holds, is_slot}
use Rattle.tap_table.specs.Table.{name_cmp, place_of}
use Rattle.tap_table.proofs.Fitting.{slot_of_other}
use Rattle.tap_table.proofs.Holding.{not_held_by_itself}
use Rattle.tap_table.proofs.Least.{is_slot-from, is_slot-to}

-- of two names below a third, the upper one shares as many digits with it as the lower one, or more
pub upper_shares_more : (a b c : List ℕ) → length a ≡ length b → length b ≡ length c → IsBelow a b → IsBelow b c → lcp a c ≤ lcp b c
upper_shares_more a b c ab_len bc_len ab bc =
    elim (cases_lt (lcp b c) (lcp a c)) [
      | inl more ↦
          let swap = lcp-sym c a in
          let level : lcp a b ≡ lcp b c = lcp-sym a b ∙ (lcp-triangle b c a).below (omega arith) in
          let lower = rw level at ((below-digits a b ab_len).0 ab) in
          let upper = (below-digits b c bc_len).0 bc in
          let same = lcp-digits a c (lcp b c) more in
          absurd (omega (arith, lower, upper, same))
      | inr most ↦ omega arith
    ]

-- two tests that say the same of each name leave the same names
filter_same_test : (f g : List ℕ → Bool) (names : List (List ℕ)) → All (λ name. f name ≡ g name) names → filter f names ≡ filter g names
filter_same_test f g [] same = refl
filter_same_test f g (x ∷ xs) same =
    let here = All-head (λ name. f name ≡ g name) x xs same in
    let rest = filter_same_test f g xs (All-tail (λ name. f name ≡ g name) x xs same) in
    elim (cases_Bool (g x)) [
      | inl passes ↦ rw (here, passes) (ap (λ l. x ∷ l) rest)
      | inr fails ↦ rw (here, fails) rest
    ]

-- the first name that passes is one of the first few names if fewer stand before it
any_among_first : (test : List ℕ → Bool) (n : ℕ) (before : List (List ℕ)) (name : List ℕ) (others : List (List ℕ))
    → All (λ x. test x ≡ false) before → test name ≡ true
    → list_any test (take n (before ++ name ∷ others)) ≡ nat_lt (length before) n
any_among_first test zero [] name others fail passes = refl
any_among_first test (suc n) [] name others fail passes = rw passes (grind (arith, nat_tests))
any_among_first test zero (x ∷ xs) name others fail passes = grind (arith, nat_tests)
any_among_first test (suc n) (x ∷ xs) name others fail passes =
    let here = All-head (λ x. test x ≡ false) x xs fail in
    let rest = any_among_first test n xs name others (All-tail (λ x. test x ≡ false) x xs fail) passes in
    rw here (rest ∙ grind (arith, nat_tests))

filter_every : (test : List ℕ → Bool) (names : List (List ℕ)) → All (λ name. test name ≡ true) names → filter test names ≡ names
filter_every test [] pass = refl
filter_every test (x ∷ xs) pass =
    rw (All-head (λ name. test name ≡ true) x xs pass)
    (ap (λ l. x ∷ l) (filter_every test xs (All-tail (λ name. test name ≡ true) x xs pass)))

-- if the names after one that passes pass too, fewer than n pass exactly where the nth from the end doesn't
few_pass : (test : List ℕ → Bool) (n : ℕ) (names : List (List ℕ)) (d : List ℕ)
    → AllPairs (λ x y. test x ≡ true → test y ≡ true) names → 1 ≤ n → n ≤ length names
    → nat_lt (length (filter test names)) n ≡ not (test (get_or names (length names - n) d))
few_pass test n [] d onward some within = absurd (omega arith)
few_pass test n (x ∷ xs) d onward some within =
    elim (cases_Bool (test x)) [
      | inl passes ↦
          let later : All (λ y. test y ≡ true) xs = λ k e inside. onward 0 (suc k) e (omega arith) (omega arith) passes in
          let every : filter test (x ∷ xs) ≡ x ∷ xs = filter_every test (x ∷ xs) (All-cons (λ y. test y ≡ true) x xs passes later) in
          let at : test (get_or (x ∷ xs) (length (x ∷ xs) - n) d) ≡ true =
          All-cons (λ y. test y ≡ true) x xs passes later (length (x ∷ xs) - n) d (omega arith) in
          rw (every, at) (grind (arith, nat_tests))
      | inr fails ↦
          let most = count_by-le-length test xs in
          let count = length-filter test xs in
          rw fails (elim (cases_lt (length xs) n) [
            | inl all ↦
                let first : length (x ∷ xs) - n ≡ 0 = omega arith in
                let few : length (filter test xs) < n = omega arith in
                rw (first, fails) (grind (arith, nat_tests))
            | inr more ↦
                let next : length (x ∷ xs) - n ≡ suc (length xs - n) = omega arith in
                let later : AllPairs (λ x y. test x ≡ true → test y ≡ true) xs =
                λ i j e before inside. onward (suc i) (suc j) e (omega arith) (omega arith) in
                let rest = few_pass test n xs d later some (omega arith) in
                rw next rest
          ])
    ]

differs : (x y : List ℕ) → x ≢ y → pointwise nat_eq x y ≡ false
differs x y apart =
    elim (cases_Bool (pointwise nat_eq x y)) [ inl same ↦ absurd (apart ((bytes_eq-Decides x y).0 same)) | inr e ↦ e ]

module _ (p : SettingsValue) (owner : List ℕ) (names : List (List ℕ)) (is_owner : IsName p owner) (are_names : All (IsName p) names)
    (ascending : AllPairs IsBelow names) (at : ℕ) (within : at < length names) (is : get_or names at owner ≡ owner) where
  name_at : (i : ℕ) (d : List ℕ) → i < length names → length (get_or names i d) ≡ length owner
  name_at i d inside = (are_names i d inside).len ∙ sym is_owner.len

  -- the names before it are below it
  below_owner : (i : ℕ) (d : List ℕ) → i < at → IsBelow (get_or names i d) owner
  below_owner i d before =
      let at_d : get_or names at d ≡ owner = get_or_default names at d owner within ∙ is in
      subst (IsBelow (get_or names i d)) at_d (ascending i at d before within)

  module _ (other : List ℕ) (is_other : IsName p other) (apart : other ≢ owner) where
    -- a name that shares more digits with the owner than the other name does
    abbrev shares_more : List ℕ → Bool
    shares_more name = nat_lt (lcp other owner) (lcp name owner)

    -- the names in the other name's slot for the owner are these
    fits_where_near : (name : List ℕ) → length name ≡ length owner
        → is_slot (place_of other owner) (slot_at other name) ≡ shares_more name
    fits_where_near name len =
        let slot = place_of other owner in
        let own = slot_of_other p other owner is_other is_owner (λ same. apart (sym same)) in
        let swap = lcp-sym owner name in
        let both : length other ≡ length owner = is_other.len ∙ sym is_owner.len in
        same_tests (is_slot slot (slot_at other name)) (shares_more name)
        (λ fits.
        let near = near_in_slot other owner name both (sym len) apart (is_slot-to slot (slot_at other name) fits ∙ sym own) in
        grind (arith, nat_tests))
        (λ more.
        let near : lcp other owner < lcp owner name = grind (arith, nat_tests) in
        is_slot-from slot (slot_at other name) ((same_slot_where_near other owner name both near).1 ∙ own))

    own_passes : shares_more owner ≡ true
    own_passes =
        let own = slot_of_other p other owner is_other is_owner (λ same. apart (sym same)) in
        sym (fits_where_near owner refl) ∙ is_slot-from (place_of other owner) (slot_at other owner) own

    -- the nearer a name before the owner is to it, the more digits they share
    onward : AllPairs (λ x y. shares_more x ≡ true → shares_more y ≡ true) (take at names)
    onward i j d before inside =
        let len = length-take-le at names (omega arith) in
        let of_i = name_at i d (omega arith) in
        let of_j = name_at j d (omega arith) in
        let lower = ascending i j d before (omega arith) in
        let upper = below_owner j d (omega arith) in
        let more = upper_shares_more (get_or names i d) (get_or names j d) owner (of_i ∙ sym of_j) of_j lower upper in
        let at_i = get_or-take at names i d (omega arith) in
        let at_j = get_or-take at names j d (omega arith) in
        rw (at_i, at_j) (λ passes. grind (arith, nat_tests))

    none_is_owner : All (λ name. pointwise nat_eq name owner ≡ false) (take at names)
    none_is_owner i d inside =
        let len = length-take-le at names (omega arith) in
        let before = get_or-take at names i d (omega arith) in
        rw before (differs (get_or names i d) owner
        (λ same. below-itself owner (subst (λ name. IsBelow name owner) same (below_owner i d (omega arith)))))

    -- the owner has a place among the links exactly if fewer names before it than the width share more digits with it
    held_if_few : holds p owner names other ≡ nat_lt (length (filter shares_more (take at names))) p.width
    held_if_few =
        let front = filter shares_more (take at names) in
        let others = drop (suc at) names in
        let test : List ℕ → Bool = λ name. is_slot (place_of other owner) (slot_at other name) in
        let near = filter_same_test test shares_more names (λ i d inside. fits_where_near (get_or names i d) (name_at i d inside)) in
        let parts : names ≡ take at names ++ owner ∷ others =
        split_at names at owner within ∙ ap (λ x. take at names ++ x ∷ others) is in
        let tail : filter shares_more (owner ∷ others) ≡ owner ∷ filter shares_more others = rw own_passes refl in
        let around : filter shares_more names ≡ front ++ owner ∷ filter shares_more others =
        ap (filter shares_more) parts ∙ filter-append shares_more (take at names) (owner ∷ others) ∙ ap (λ l. front ++ l) tail in
        let is_owner_test : List ℕ → Bool = λ link. pointwise nat_eq link owner in
        ap (λ l. list_any is_owner_test (take p.width l)) (near ∙ around)
        ∙ any_among_first is_owner_test p.width front owner (filter shares_more others)
        (All-filter shares_more (λ name. is_owner_test name ≡ false) (take at names) none_is_owner) ((bytes_eq-Decides owner owner).1 refl)

    -- if fewer names stand before the owner than the width, each other name's table has a link to it
    pub held_near_first : at < p.width → holds p owner names other ≡ true
    held_near_first near =
        let len = length-take-le at names (omega arith) in
        let most = count_by-le-length shares_more (take at names) in
        let count = length-filter shares_more (take at names) in
        let few : length (filter shares_more (take at names)) < p.width = omega arith in
        held_if_few ∙ grind (arith, nat_tests)

    -- else another name's table has one exactly if it shares as many digits as the name `width` places before the owner
    pub held_past_first : 1 ≤ p.width → p.width ≤ at → (d : List ℕ)
        → holds p owner names other ≡ nat_le (lcp (get_or names (at - p.width) d) owner) (lcp other owner)
    held_past_first some past d =
        let len = length-take-le at names (omega arith) in
        let back = few_pass shares_more p.width (take at names) d onward some (omega arith) in
        let place : get_or (take at names) (length (take at names) - p.width) d ≡ get_or names (at - p.width) d =
        ap (λ n. get_or (take at names) (n - p.width) d) len ∙ get_or-take at names (at - p.width) d (omega arith) in
        held_if_few ∙ back ∙ ap (λ name. not (shares_more name)) place ∙ grind (arith, nat_tests)

-- ascending names are parted by whether they are below one
pub parted_below : (owner : List ℕ) (names : List (List ℕ)) → AllPairs IsBelow names
    → IsPartitionedBy (λ name. is_lt (name_cmp name owner)) names
parted_below owner names ascending i j d upto inside passes =
    elim (cases_lt i j) [
      | inl before ↦
          let below = is_less (name_cmp (get_or names j d) owner) passes in
          ap is_lt (below-trans (get_or names i d) (get_or names j d) owner (ascending i j d before inside) below)
      | inr after ↦
          let same : i ≡ j = omega arith in
          subst (λ k. is_lt (name_cmp (get_or names k d) owner) ≡ true) (sym same) passes
    ]

-- and that one, if it is among them, stands where they are parted
pub stands_at_part : (owner : List ℕ) (names : List (List ℕ)) (below : ℕ) → AllPairs IsBelow names → Contains names owner
    → IsPartitionPoint (λ name. is_lt (name_cmp name owner) ≡ true) (λ name. is_lt (name_cmp name owner) ≡ false) names below
    → (below < length names) × (get_or names below owner ≡ owner)
stands_at_part owner names below ascending contains parted =
    let (at, within, is) = contains in
    elim (cases_lt at below) [
      | inl before ↦
          let passes : is_lt (name_cmp owner owner) ≡ true =
          subst (λ name. is_lt (name_cmp name owner) ≡ true) is (parted.0 at owner (omega arith) before) in
          absurd (below-itself owner (is_less (name_cmp owner owner) passes))
      | inr upto ↦ elim (cases_lt below at) [
        | inl after ↦
            let less : IsBelow (get_or names below owner) owner =
            subst (IsBelow (get_or names below owner)) is (ascending below at owner after within) in
            absurd (true≢false (sym (ap is_lt less) ∙ parted.1 below owner (omega arith) (omega arith)))
        | inr same ↦
            let here : at ≡ below = omega arith in
            (omega arith, subst (λ k. get_or names k owner ≡ owner) here is)
      ]
    ]

-- if so many digits are the least for each other name, a table has a link to the owner exactly where its own owner is another
-- name that shares as many
pub held_exactly_where : (p : SettingsValue) (owner : List ℕ) (names : List (List ℕ)) (least : ℕ)
    → ((other : List ℕ) → IsName p other → other ≢ owner → holds p owner names other ≡ nat_le least (lcp other owner))
    → (name : List ℕ) → IsName p name
    → holds p owner names name ≡ (not (pointwise nat_eq name owner) && nat_le least (lcp name owner))
held_exactly_where p owner names least others name is_name =
    elim (cases_Bool (pointwise nat_eq name owner)) [
      | inl e ↦ rw e (ap (holds p owner names) ((bytes_eq-Decides name owner).0 e) ∙ not_held_by_itself p owner names)
      | inr e ↦ rw e (others name is_name (λ same. true≢false (sym ((bytes_eq-Decides name owner).1 same) ∙ e)))
    ]
