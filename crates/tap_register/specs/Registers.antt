-- Registers are seen as the list of their entries. A comparison of keys, `cmp`, says which key is below which, and two
-- keys are the same if it answers `Equal`.
use Rattle.std.specs.Prelude.{◌≡◌, ℕ, ◌+◌, ◌<◌, ◌≤◌, nat_lt, Bool, if◌then◌else◌, true, List, ◌∷◌, ◌++◌, length, take, drop, filter, find, slice_get, AllPairs, Option, Some, None}
use Rattle.std.specs.Ordering.{is_lt, is_eq, is_gt}
use Rattle.std.specs.declared.cmp.Ordering.{Ordering}
use Rattle.std.specs.declared.cmp.Ordering.TheVariants.{Less}
use Rattle.tap_register.specs.declared.registers.Entry.{Entry}

-- the version of a word: who says a later one gives it a greater number
abbrev pub Version : Type 0
Version = ℕ

-- the key of each entry is below those of the later ones
abbrev pub IsAscending : {K V : Type 0} → (K → K → Ordering) → List (Entry K V) → Type 0
IsAscending cmp entries = AllPairs (λ a b. cmp a.key b.key ≡ Less) entries

-- the entry of a key, if it has one
abbrev pub entry_of : {K V : Type 0} → (K → K → Ordering) → List (Entry K V) → K → Option (Entry K V)
entry_of cmp entries key = find (λ e. is_eq (cmp e.key key)) entries

-- whether a version is newer than what is kept: nothing is kept, or what is kept has a version that is less
abbrev pub supersedes : {K V : Type 0} → ℕ → Option (Entry K V) → Bool
supersedes version None = true
supersedes version (Some current) = nat_lt current.version version

-- whether a version is newer than what a key has
abbrev pub is_newer : {K V : Type 0} → (K → K → Ordering) → List (Entry K V) → K → ℕ → Bool
is_newer cmp entries key version = supersedes version (entry_of cmp entries key)

-- the newer of what is kept, if anything is, and a write; of two of one version, what is kept
abbrev pub newest : {K V : Type 0} → Option (Entry K V) → Entry K V → Entry K V
newest None entry = entry
newest (Some current) entry = if nat_lt current.version entry.version then entry else current

-- the entries whose keys are below a key, and those whose keys are above it
abbrev pub below : {K V : Type 0} → (K → K → Ordering) → List (Entry K V) → K → List (Entry K V)
below cmp entries key = filter (λ e. is_lt (cmp e.key key)) entries

abbrev pub above : {K V : Type 0} → (K → K → Ordering) → List (Entry K V) → K → List (Entry K V)
above cmp entries key = filter (λ e. is_gt (cmp e.key key)) entries

-- the entries after this one is written: it stands between those below its key and those above it
abbrev pub written : {K V : Type 0} → (K → K → Ordering) → List (Entry K V) → Entry K V → List (Entry K V)
written cmp entries entry = below cmp entries entry.key ++ entry ∷ above cmp entries entry.key

-- the entries after a write is applied: it is written if its version is newer, else they stay as they were
abbrev pub applied : {K V : Type 0} → (K → K → Ordering) → List (Entry K V) → K → ℕ → V → List (Entry K V)
applied cmp entries key version value =
    if is_newer cmp entries key version
    then written cmp entries (record { key = key; version = version; value = value })
    else entries

-- the entry of the key stands at this place
pub record IsAt {K V : Type 0} (cmp : K → K → Ordering) (entries : List (Entry K V)) (key : K) (at : ℕ) : Type 0 where
  pub within : at < length entries
  pub found : entry_of cmp entries key ≡ slice_get entries at
  pub before : below cmp entries key ≡ take at entries
  pub after : above cmp entries key ≡ drop (at + 1) entries

-- the key has no entry, and this is the place where it would stand
pub record IsGap {K V : Type 0} (cmp : K → K → Ordering) (entries : List (Entry K V)) (key : K) (at : ℕ) : Type 0 where
  pub within : at ≤ length entries
  pub absent : entry_of cmp entries key ≡ None
  pub before : below cmp entries key ≡ take at entries
  pub after : above cmp entries key ≡ drop at entries
