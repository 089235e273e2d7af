-- The pointers of a node: what it knows of each pair of an object and a server.
use Rattle.std.specs.Prelude.{◌≡◌, ℕ, ◌≤◌, min, nat_eq, ◌||◌, Bool, true, false, if◌then◌else◌, List, [], length, map, filter, find, All, Option, None, Some}
use Rattle.std.specs.BTreeMap.{insert_entry, is_at}
use Rattle.std.specs.Cmp.Lexicographic.{pointwise}
use Rattle.std.specs.List.{list_any, reduce}
use Rattle.std.specs.List.Sorted.{IsStrictlySortedBy}
use Rattle.std.specs.Map.{keys_of, lookup}
use Rattle.std.specs.Option.{is_some, option_map, unwrap_or}
use Rattle.tap_name.specs.Order.{name_cmp}
use Rattle.tap_register.specs.Registers.{applied, entry_of, is_newer}
use Rattle.tap_register.specs.declared.registers.Entry.{Entry}
use Rattle.tap_pointer.specs.declared.change.Change.{Change}
use Rattle.tap_pointer.specs.declared.hop.Hop.{Hop}
use Rattle.tap_pointer.specs.declared.pair.Pair.{Pair}
use Rattle.tap_pointer.specs.declared.state.Pointer.{Pointer}
use Rattle.tap_pointer.specs.declared.state.PairState.{PairState}
use Rattle.tap_pointer.specs.Pair.{pair_cmp}

-- the node, and what it knows of each pair, ascending by pair: whether the node itself publishes the object, the register
-- of each sender of Lays, and where the pair is laid on to
pub record PointersValue : Type 0 where
  pub owner : List ℕ
  pub pairs : List (Pair × PairState)

-- the pair of an object and a server, and what a Lay says of it
abbrev pub pair_of : List ℕ → List ℕ → Pair
pair_of object server = record { object = object; server = server }

abbrev pub pointer_at : ℕ → Bool → Pointer
pointer_at level on = record { level = level; on = on }

-- no pointers
abbrev pub no_pointers : List ℕ → PointersValue
no_pointers owner = record { owner = owner; pairs = [] }

-- what is known of a pair that nothing is known of
abbrev pub nothing_known : PairState
nothing_known = record { published = false; registers = []; laid = None }

-- what is known of a pair, among these
abbrev pub state_among : List (Pair × PairState) → Pair → PairState
state_among pairs pair = unwrap_or (lookup (is_at (pair_cmp pair)) pairs) nothing_known

-- what is known of a pair
abbrev pub state_of : PointersValue → Pair → PairState
state_of p pair = state_among p.pairs pair

-- nothing is known of a pair
abbrev pub IsUnknown : PointersValue → Pair → Type 0
IsUnknown p pair = lookup (is_at (pair_cmp pair)) p.pairs ≡ None

-- a sender has sent no Lay of a pair
abbrev pub IsNewSender : PointersValue → Pair → List ℕ → Type 0
IsNewSender p pair from = entry_of name_cmp (state_of p pair).registers from ≡ None

-- the pointers with this known of a pair, and of the others what was
abbrev pub with_state : PointersValue → Pair → PairState → PointersValue
with_state p pair state = record p { pairs = insert_entry pair_cmp p.pairs pair state }

-- the pair of an object that the owner itself serves
abbrev pub own_pair : PointersValue → List ℕ → Pair
own_pair p object = pair_of object p.owner

-- whether the owner publishes an object
abbrev pub owner_publishes : PointersValue → List ℕ → Bool
owner_publishes p object = (state_of p (own_pair p object)).published

-- what is known of a pair once the owner publishes its object, and once it doesn't any more
abbrev pub with_published : PairState → Bool → PairState
with_published state is = record state { published = is }

-- what is known of a pair once it is laid on to a hop, or nowhere
abbrev pub with_laid : PairState → Option Hop → PairState
with_laid state hop = record state { laid = hop }

-- the pointers once the owner publishes an object
abbrev pub published : PointersValue → List ℕ → PointersValue
published p object = let own = own_pair p object in with_state p own (with_published (state_of p own) true)

-- the pointers once the owner has withdrawn an object; one that it doesn't publish changes nothing
abbrev pub withdrawn : PointersValue → List ℕ → PointersValue
withdrawn p object =
    let own = own_pair p object in
    (if owner_publishes p object then with_state p own (with_published (state_of p own) false) else p)

-- the pointers once the owner has withdrawn every object
abbrev pub all_withdrawn : PointersValue → PointersValue
all_withdrawn p = record p { pairs = map (λ e. (e.0, with_published e.1 false)) p.pairs }

-- what is known of a pair after a Lay from a sender: the sender's register takes it if its version is newer
abbrev pub with_lay : PairState → List ℕ → ℕ → Pointer → PairState
with_lay state from version pointer = record state { registers = applied name_cmp state.registers from version pointer }

-- whether a Lay is newer than what the sender's register has
abbrev pub is_news : PointersValue → Pair → List ℕ → ℕ → Bool
is_news p pair from version = is_newer name_cmp (state_of p pair).registers from version

-- the pointers after a Lay; one that isn't newer changes nothing
abbrev pub lay_applied : PointersValue → Pair → List ℕ → ℕ → Pointer → PointersValue
lay_applied p pair from version pointer = with_state p pair (with_lay (state_of p pair) from version pointer)

-- whether a pair is held: the owner publishes it, or the register of a sender is on
abbrev pub is_held : PairState → Bool
is_held state = state.published || list_any (λ r. r.value.on) state.registers

-- whether a pair is held or laid
abbrev pub is_held_or_laid : PairState → Bool
is_held_or_laid state = is_held state || is_some state.laid

-- the levels of the registers that are on
abbrev pub levels_on : List (Entry (List ℕ) Pointer) → List ℕ
levels_on registers = map (λ r. r.value.level) (filter (λ r. r.value.on) registers)

-- the level at which a pair is held: 0 if the owner publishes it, else the least of the registers that are on
abbrev pub level_held : PairState → Option ℕ
level_held state = if state.published then Some 0 else reduce min (levels_on state.registers)

-- the pairs of these that are held, in their order
abbrev pub held_among : List (Pair × PairState) → List Pair
held_among pairs = keys_of (filter (λ e. is_held e.1) pairs)

-- the pairs that are held, ascending
abbrev pub pairs_held : PointersValue → List Pair
pairs_held p = held_among p.pairs

-- how many pairs are held or laid
abbrev pub held_or_laid_count : List (Pair × PairState) → ℕ
held_or_laid_count pairs = length (filter (λ e. is_held_or_laid e.1) pairs)

-- whether a pair was held or laid before a change of what is known of it, and whether it is afterwards
abbrev pub change_between : PairState → PairState → Change
change_between before after = record { was = is_held_or_laid before; is = is_held_or_laid after }

-- the pair is one of this object
abbrev pub is_of : List ℕ → Pair → Bool
is_of object pair = pointwise nat_eq pair.object object

-- the server of the first of these pairs that is held and is one of an object
abbrev pub server_among : List (Pair × PairState) → List ℕ → Option (List ℕ)
server_among pairs object = option_map (λ pair. pair.server) (find (is_of object) (held_among pairs))

-- the least server held for an object, since the pairs ascend
abbrev pub server_for : PointersValue → List ℕ → Option (List ℕ)
server_for p object = server_among p.pairs object

-- what is kept of each pair: the owner alone publishes, as the pair's server, and each register has a level from 1 to the
-- number of digits
pub record IsPairState (owner : List ℕ) (e : Pair × PairState) : Type 0 where
  pub own : e.1.published ≡ true → e.0.server ≡ owner
  pub levels_from : All (λ r. 1 ≤ r.value.level) e.1.registers
  pub levels_to : All (λ r. r.value.level ≤ length e.0.object) e.1.registers

-- A pair isn't held below a level: its registers are of this level or higher ones, and the owner publishes its object only if
-- the level is 0.
pub record IsHeldFrom (level : ℕ) (e : Pair × PairState) : Type 0 where
  pub own : e.1.published ≡ true → level ≡ 0
  pub registers : All (λ r. level ≤ r.value.level) e.1.registers

-- what pointers keep: the pairs ascend
pub record IsPointers (p : PointersValue) : Type 0 where
  pub ascending : IsStrictlySortedBy pair_cmp (keys_of p.pairs)
  pub known : All (IsPairState p.owner) p.pairs
