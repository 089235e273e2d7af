-- The joiners that a node covers, and what a further word of one makes it do.
use Rattle.std.specs.Prelude.{◌≡◌, ℕ, ◌<◌, ◌≤◌, if◌then◌else◌, List, Option, Some, All}
use Rattle.std.specs.BTreeMap.{insert_entry}
use Rattle.std.specs.Map.{lookup}
use Rattle.std.specs.Option.{is_none}
use Rattle.std.specs.Ordering.{is_eq}
use Rattle.tap_name.specs.declared.slot.Slot.{Slot}
use Rattle.tap_name.specs.Order.{name_cmp}
use Rattle.tap_name.specs.Prefix.{lcp}
use Rattle.tap_link.specs.declared.kind.Kind.TheVariants.{Pin}
use Rattle.tap_table.specs.Levels.{is_kept, sent_from}
use Rattle.tap_table.specs.Table.{TableValue, kind_in}
use Rattle.tap_multicast.specs.declared.cover.Cover.{Cover}
use Rattle.tap_multicast.specs.declared.covers.Covered.{Covered}
use Rattle.tap_multicast.specs.declared.covers.Covered.TheVariants.{Already, Now}
use Rattle.tap_multicast.specs.Offer.{left, offer}
use Rattle.tap_multicast.specs.Targets.{targets}

-- the joiners, ascending, each with the level at which it is covered
abbrev pub CoversValue : Type 0
CoversValue = List (List ℕ × ℕ)

-- the level at which a joiner is covered, if it is
abbrev pub level_kept : CoversValue → List ℕ → Option ℕ
level_kept covers joiner = lookup (λ other. is_eq (name_cmp joiner other)) covers

-- the cover of a joiner of which this level is kept
abbrev pub cover_of : TableValue → Option ℕ → List ℕ → ℕ → ℕ → Cover
cover_of t kept joiner prefix level = record {
  joiner = joiner;
  first = is_none kept;
  prefix = prefix;
  level = level;
  before = sent_from t.settings.digits kept;
}

-- what a cover gives
abbrev pub begun_cover : TableValue → List Slot → Cover → Covered
begun_cover t watch cover = Now cover.first (offer t watch cover) (targets t cover) (left t watch cover)

-- what a word of a joiner, with its prefix, a level and a watch, makes a node do
abbrev pub covered : CoversValue → TableValue → List Slot → List ℕ → ℕ → ℕ → Covered
covered covers t watch joiner prefix level =
    let kept = level_kept covers joiner in
    (if is_kept kept level then Already else begun_cover t watch (cover_of t kept joiner prefix level))

-- the covers after it: the level is kept, unless a level at most this one is
abbrev pub with_cover : CoversValue → List ℕ → ℕ → CoversValue
with_cover covers joiner level =
    if is_kept (level_kept covers joiner) level then covers else insert_entry name_cmp covers joiner level

-- a slot that a joiner with this prefix may watch: its level is at most the prefix, and its digit below the base
pub record MayWatch (base prefix : ℕ) (slot : Slot) : Type 0 where
  pub level : slot.level ≤ prefix
  pub digit : slot.digit < base

-- A word of a joiner that a node may take: it has pinned the joiner, the joiner's prefix is at most the level and at most what
-- the two share, the level is at most the number of digits, and the watch is of the levels up to the prefix.
pub record MayCover (t : TableValue) (watch : List Slot) (joiner : List ℕ) (prefix level : ℕ) : Type 0 where
  pub pinned : kind_in t joiner ≡ Some Pin
  pub within_level : prefix ≤ level
  pub shared : prefix ≤ lcp t.owner joiner
  pub within_digits : level ≤ t.settings.digits
  pub watched : All (MayWatch t.settings.base prefix) watch
