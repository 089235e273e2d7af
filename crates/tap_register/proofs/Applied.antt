-- What every key has after a write is applied, and what stays of the list: its order, its length, what holds of each entry.
-- Cited above: All-applied, entry_of-applied, IsAscending-applied
use Rattle.std.proofs.Common.{◌≡◌, ℕ, ◌+◌, ◌<◌, ◌≤◌, true, false, Bool, List, ◌∷◌, length, get_or, Option, None, Some, refl, sym, ap, ◌∙◌, inl, inr, arith, ltb, set, insert, if◌then◌else◌}
use Rattle.std.specs.List.{All}
use Rattle.std.specs.Option.{IsSomeAnd, is_none}
use Rattle.std.specs.Cmp.{IsTotalOrder}
use Rattle.std.specs.Ordering.{is_lt, is_eq, is_gt}
use Rattle.std.specs.declared.cmp.Ordering.{Ordering}
use Rattle.std.proofs.lemmas.Bool.{cases_Bool, ltb-true, ltb-false, lt-ltb, le-ltb}
use Rattle.std.proofs.lemmas.Cmp.{alike_right, tied_itself}
use Rattle.std.proofs.lemmas.List.{length-set}
use Rattle.std.proofs.lemmas.List.Edits.{length-insert}
use Rattle.std.proofs.lemmas.Option.{slice_get-get_or}
use Rattle.std.proofs.lemmas.List.Elements.{All-append, All-cons, All-filter}
use Rattle.tap_register.specs.declared.registers.Entry.{Entry}
use Rattle.tap_register.specs.Registers.{IsAscending, IsAt, IsGap, above, applied, below, entry_of, is_newer, newest, written}
use Rattle.tap_register.proofs.Lists.{find-alike}
use Rattle.tap_register.proofs.Orderings.{is_equal}
use Rattle.tap_register.proofs.Places.{located}
use Rattle.tap_register.proofs.Written.{IsAscending-written, entry_of-written, insert-written, set-written}

-- the newer of two writes has a version at least as great as either
newest_rises : {K V : Type 0} (current entry : Entry K V) → current.version ≤ (newest (Some current) entry).version
newest_rises current entry = elim (cases_Bool (ltb current.version entry.version)) [
  | inl lower ↦ let rises = ltb-true current.version entry.version lower in rw lower (omega arith)
  | inr not_lower ↦ rw not_lower (omega arith)
]

newest_reaches : {K V : Type 0} (current : Option (Entry K V)) (entry : Entry K V) → entry.version ≤ (newest current entry).version
newest_reaches None entry = omega arith
newest_reaches (Some current) entry = elim (cases_Bool (ltb current.version entry.version)) [
  | inl lower ↦ rw lower (omega arith)
  | inr not_lower ↦ let reaches = ltb-false current.version entry.version not_lower in rw not_lower (omega arith)
]

-- the entries that an apply leaves, and its answer
pub record Applies {K V : Type 0} (cmp : K → K → Ordering) (old new : List (Entry K V)) (key : K) (version : ℕ) (value : V)
    (newer : Bool) : Type 0 where
  pub answer : newer ≡ is_newer cmp old key version
  pub after : new ≡ applied cmp old key version value
  pub look_up : (other : K) → entry_of cmp new other
      ≡ (if is_eq (cmp key other)
      then Some (newest (entry_of cmp old key) (record { key = key; version = version; value = value }))
      else entry_of cmp old other)

module _ {K V : Type 0} (cmp : K → K → Ordering) (total : IsTotalOrder cmp) (entries : List (Entry K V)) where
  -- two keys that are the same have the same entry
  pub entry_of-same : (key other : K) → is_eq (cmp key other) ≡ true → entry_of cmp entries key ≡ entry_of cmp entries other
  entry_of-same key other same =
      find-alike (λ e. is_eq (cmp e.key key)) (λ e. is_eq (cmp e.key other))
      (λ e. ap is_eq (alike_right total key other e.key (is_equal _ same))) entries

  module _ (key : K) (version : ℕ) (value : V) where
    abbrev write : Entry K V
    write = record { key = key; version = version; value = value }

    -- a write that isn't newer changes nothing
    pub applied-stale : is_newer cmp entries key version ≡ false → applied cmp entries key version value ≡ entries
    applied-stale stale = rw stale refl

    pub applied-newer : is_newer cmp entries key version ≡ true
        → applied cmp entries key version value ≡ written cmp entries (record { key = key; version = version; value = value })
    applied-newer newer = rw newer refl

    -- the look-up law: the key has the newer of what it had and the write, and another key has what it had
    pub entry_of-applied : (other : K) → entry_of cmp (applied cmp entries key version value) other
        ≡ (if is_eq (cmp key other)
        then Some (newest (entry_of cmp entries key) (record { key = key; version = version; value = value }))
        else entry_of cmp entries other)
    entry_of-applied other = step (entry_of cmp entries key) refl
      where
        stays : (current : Entry K V) → entry_of cmp entries key ≡ Some current
            → entry_of cmp entries other ≡ (if is_eq (cmp key other) then Some current else entry_of cmp entries other)
        stays current is = elim (cases_Bool (is_eq (cmp key other))) [
          | inl same ↦ rw same (sym (entry_of-same key other same) ∙ is)
          | inr differ ↦ rw differ refl
        ]

        step : (was : Option (Entry K V)) → entry_of cmp entries key ≡ was → entry_of cmp (applied cmp entries key version value) other
            ≡ (if is_eq (cmp key other)
            then Some (newest (entry_of cmp entries key) (record { key = key; version = version; value = value }))
            else entry_of cmp entries other)
        step None is = rw is (entry_of-written cmp total entries write other)
        step (Some current) is = elim (cases_Bool (ltb current.version version)) [
          | inl newer ↦ rw (is, newer) (entry_of-written cmp total entries write other)
          | inr stale ↦ rw (is, stale) (stays current is)
        ]

    -- the key then has a version at least as great as the one applied
    pub applied_reaches : IsSomeAnd (entry_of cmp (applied cmp entries key version value) key) (λ now. version ≤ now.version)
    applied_reaches =
        rw (entry_of-applied key, tied_itself total key) (newest_reaches (entry_of cmp entries key) write)

    -- no version falls
    pub versions_rise : (other : K) (was : Entry K V) → entry_of cmp entries other ≡ Some was
        → IsSomeAnd (entry_of cmp (applied cmp entries key version value) other) (λ now. was.version ≤ now.version)
    versions_rise other was found = elim (cases_Bool (is_eq (cmp key other))) [
      | inl same ↦ rw (entry_of-applied other, same, entry_of-same key other same, found) (newest_rises was write)
      | inr differ ↦ rw (entry_of-applied other, differ, found) (omega arith)
    ]

    -- the order of the keys is kept
    pub IsAscending-applied : IsAscending cmp entries → IsAscending cmp (applied cmp entries key version value)
    IsAscending-applied ascending = elim (cases_Bool (is_newer cmp entries key version)) [
      | inl newer ↦ rw newer (IsAscending-written cmp total entries write ascending)
      | inr stale ↦ rw stale ascending
    ]

    -- what holds of each entry, and of the write, still holds of each
    pub All-applied : (P : Entry K V → Type 0) → All P entries → P (record { key = key; version = version; value = value })
        → All P (applied cmp entries key version value)
    All-applied P all here = elim (cases_Bool (is_newer cmp entries key version)) [
      | inl newer ↦
          rw newer (All-append P (below cmp entries key) (write ∷ above cmp entries key)
          (All-filter (λ e. is_lt (cmp e.key key)) P entries all)
          (All-cons P write (above cmp entries key) here (All-filter (λ e. is_gt (cmp e.key key)) P entries all)))
      | inr stale ↦ rw stale all
    ]

    -- there is one entry more exactly if the key had none
    pub length-applied : IsAscending cmp entries → length (applied cmp entries key version value)
        ≡ length entries + (if is_none (entry_of cmp entries key) then 1 else 0)
    length-applied ascending = elim (located cmp total entries key ascending) [
      | inl (at, place) ↦ known at place
      | inr (at, gap) ↦
          rw (gap.absent, ← insert-written cmp entries write at gap) (length-insert entries at write gap.within)
    ]
      where
        known : (at : ℕ) → IsAt cmp entries key at → length (applied cmp entries key version value)
            ≡ length entries + (if is_none (entry_of cmp entries key) then 1 else 0)
        known at place =
            let there : entry_of cmp entries key ≡ Some (get_or entries at write) =
            place.found ∙ slice_get-get_or entries at write place.within in
            elim (cases_Bool (is_newer cmp entries key version)) [
              | inl newer ↦
                  rw (newer, there, ← set-written cmp entries write at place) (omega (arith, length-set entries at write))
              | inr stale ↦ rw (stale, there) (omega arith)
            ]

    -- what an apply leaves, and what it answers, in each of its cases: the key's entry is as new or newer, is older, or isn't there
    applies : (new : List (Entry K V)) (newer : Bool) → newer ≡ is_newer cmp entries key version
        → new ≡ applied cmp entries key version value → Applies cmp entries new key version value newer
    applies new newer answer after =
        record { answer = answer; after = after; look_up = λ other. rw after (entry_of-applied other) }

    there : (at : ℕ) (current : Entry K V) → IsAt cmp entries key at → current ≡ get_or entries at current
        → entry_of cmp entries key ≡ Some current
    there at current place is = place.found ∙ slice_get-get_or entries at current place.within ∙ ap Some (sym is)

    pub applies_stale : (at : ℕ) (current : Entry K V) → IsAt cmp entries key at → current ≡ get_or entries at current
        → version ≤ current.version
        → Applies cmp entries entries key version value false
    applies_stale at current place is not_newer =
        let stale : is_newer cmp entries key version ≡ false = rw (there at current place is) (le-ltb current.version version not_newer) in
        applies entries false (sym stale) (sym (applied-stale stale))

    pub applies_newer : (at : ℕ) (current : Entry K V) → IsAt cmp entries key at → current ≡ get_or entries at current
        → current.version < version
        → Applies cmp entries (set entries at (record { key = key; version = version; value = value })) key version value true
    applies_newer at current place is older =
        let newer : is_newer cmp entries key version ≡ true = rw (there at current place is) (lt-ltb current.version version older) in
        applies (set entries at write) true (sym newer) (set-written cmp entries write at place ∙ sym (applied-newer newer))

    pub applies_new : (at : ℕ) → IsGap cmp entries key at
        → Applies cmp entries (insert entries at (record { key = key; version = version; value = value })) key version value true
    applies_new at gap =
        let newer : is_newer cmp entries key version ≡ true = rw gap.absent refl in
        applies (insert entries at write) true (sym newer) (insert-written cmp entries write at gap ∙ sym (applied-newer newer))

  -- a write that is applied twice is applied once
  pub applied-twice : (key : K) (version : ℕ) (value : V)
      → applied cmp (applied cmp entries key version value) key version value ≡ applied cmp entries key version value
  applied-twice key version value =
      let write : Entry K V = record { key = key; version = version; value = value } in
      let there = entry_of-applied key version value key in
      let reaches = newest_reaches (entry_of cmp entries key) write in
      let stale : is_newer cmp (applied cmp entries key version value) key version ≡ false =
      rw (there, tied_itself total key) (le-ltb _ _ reaches) in
      rw stale refl
