-- the first words of steps, and which steps there are
use Rattle.std.specs.Prelude.{ℕ, Bool, true, not, List, [], ◌∷◌, codes, bytes_eq, find, Option}
use Rattle.tap_name.specs.Settings.{SettingsValue}
use Rattle.tap_salt.specs.Salt.{is_salted}
use Rattle.tap_scenario.specs.declared.kind.NameKind.TheVariants.{Leave, Root, Table, Pointers, Abandon}
use Rattle.tap_scenario.specs.declared.kind.PairKind.{PairKind}
use Rattle.tap_scenario.specs.declared.kind.PairKind.TheVariants.{Join, Publish, Withdraw, Find, Walk, RootSet}
use Rattle.tap_scenario.specs.declared.kind.PlaceKind.TheVariants.{Deliver, Lose, Repeat}
use Rattle.tap_scenario.specs.declared.kind.Kind.{Kind}
use Rattle.tap_scenario.specs.declared.kind.Kind.TheVariants.{Name, Pair, Place, Settle, Garble, Cut, Tick, Cast}

-- all first words of steps, those that long scenarios have most first
abbrev pub step_kinds : List Kind
step_kinds =
    Pair Walk ∷ Pair Find ∷ Pair Publish ∷ Pair Join ∷ Pair Withdraw ∷ Pair RootSet
    ∷ Name Root ∷ Name Table ∷ Name Leave ∷ Name Pointers ∷ Name Abandon
    ∷ Place Deliver ∷ Place Lose ∷ Place Repeat
    ∷ Settle ∷ Garble ∷ Cut ∷ Tick ∷ Cast ∷ []

-- the first word of the steps of a kind
abbrev pub text_of_kind : Kind → List ℕ
text_of_kind (Name Leave) = codes "leave"
text_of_kind (Name Root) = codes "root"
text_of_kind (Name Table) = codes "table"
text_of_kind (Name Pointers) = codes "pointers"
text_of_kind (Name Abandon) = codes "abandon"
text_of_kind (Pair Join) = codes "join"
text_of_kind (Pair Publish) = codes "publish"
text_of_kind (Pair Withdraw) = codes "withdraw"
text_of_kind (Pair Find) = codes "find"
text_of_kind (Pair Walk) = codes "walk"
text_of_kind (Pair RootSet) = codes "rootset"
text_of_kind (Place Deliver) = codes "deliver"
text_of_kind (Place Lose) = codes "lose"
text_of_kind (Place Repeat) = codes "repeat"
text_of_kind Settle = codes "settle"
text_of_kind Garble = codes "garble"
text_of_kind Cut = codes "cut"
text_of_kind Tick = codes "tick"
text_of_kind Cast = codes "cast"

-- the word between the two names of a step
abbrev pub link_of_pair : PairKind → List ℕ
link_of_pair Join = codes "via"
link_of_pair Publish = codes "at"
link_of_pair Withdraw = codes "at"
link_of_pair Find = codes "from"
link_of_pair Walk = codes "from"
link_of_pair RootSet = codes "from"

-- the kind whose steps begin with a word
abbrev pub kind_of_word : List ℕ → Option Kind
kind_of_word word = find (λ kind. bytes_eq word (text_of_kind kind)) step_kinds

-- whether there are steps of this kind with these settings, in a scenario that is carried or not
abbrev pub is_there : SettingsValue → Bool → Kind → Bool
is_there p carrier (Name kind) = true
is_there p carrier (Pair Join) = true
is_there p carrier (Pair Publish) = true
is_there p carrier (Pair Withdraw) = true
is_there p carrier (Pair Find) = true
is_there p carrier (Pair Walk) = true
is_there p carrier (Pair RootSet) = is_salted p
is_there p carrier (Place Deliver) = true
is_there p carrier (Place Lose) = carrier
is_there p carrier (Place Repeat) = carrier
is_there p carrier Settle = true
is_there p carrier Garble = not carrier
is_there p carrier Cut = not carrier
is_there p carrier Tick = carrier
is_there p carrier Cast = true
