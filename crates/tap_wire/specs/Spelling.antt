-- the one spelling of each frame, and the rules of its fields
use Rattle.std.specs.Prelude.{◌≡◌, ℕ, ◌<◌, ◌≤◌, ◌^◌, Bool, if◌then◌else◌, List, [], ◌∷◌, ◌++◌, length, All, AllPairs, Option, None, Some, IfSome}
use Rattle.std.specs.List.{flat_map}
use Rattle.std.specs.Ordering.{nat_cmp}
use Rattle.std.specs.declared.cmp.Ordering.TheVariants.{Less}
use Rattle.std.specs.Cmp.Lexicographic.{slice_cmp}
use Rattle.byteorder.specs.Endian.{big_bytes}
use Rattle.tap_name.specs.Settings.{SettingsValue}
use Rattle.tap_name.specs.Name.{IsName}
use Rattle.tap_name.specs.declared.slot.Slot.{Slot}
use Rattle.tap_name.specs.declared.slot.Offered.{Offered}
use Rattle.tap_name.specs.Word.{IsWord}
use Rattle.tap_watch.specs.Watch.{SlotsAscend}
use Rattle.tap_wire.specs.declared.frame.Frame.{Frame}
use Rattle.tap_wire.specs.declared.frame.TellFields.{TellFields}
use Rattle.tap_wire.specs.declared.frame.Body.{Body}
use Rattle.tap_wire.specs.declared.frame.Body.TheVariants.{Seek, Tell, Hello, Heard, Ack, Done, Release, Link, Lay, Find, Answer, Leave, Left, Gone, Forget, Cast, CastAck}
use Rattle.tap_wire.specs.Kind.{code_of, kind_of}
use Rattle.tap_wire.specs.Layout.{most_links, most_slots, is_long, version_of}

-- ---- the spelling

-- the byte of a flag
abbrev pub flag : Bool → ℕ
flag b = if b then 1 else 0

-- a slot's level and digit
abbrev pub slot_bytes : Slot → List ℕ
slot_bytes slot = slot.level ∷ slot.digit ∷ []

-- a link's name, and whether it is settled
abbrev pub link_bytes : Offered → List ℕ
link_bytes link = link.name ++ flag link.settled ∷ []

-- a flag, and the name if there is one
abbrev pub optional_bytes : Option (List ℕ) → List ℕ
optional_bytes None = 0 ∷ []
optional_bytes (Some name) = 1 ∷ name

-- the fields of a body, one after another
abbrev pub body_bytes : Body → List ℕ
body_bytes (Seek joiner) = joiner
body_bytes (Tell joiner prefix level session depth watch) =
    joiner ++ prefix ∷ level ∷ [] ++ big_bytes 4 session ++ big_bytes 2 depth ++ flat_map slot_bytes watch
body_bytes (Hello session core links) = big_bytes 4 session ++ flag core ∷ [] ++ flat_map link_bytes links
body_bytes (Heard session) = big_bytes 4 session
body_bytes (Ack session) = big_bytes 4 session
body_bytes Done = []
body_bytes Release = []
body_bytes (Link version on) = big_bytes 4 version ++ flag on ∷ []
body_bytes (Lay object server level version on) = object ++ server ++ level ∷ [] ++ big_bytes 4 version ++ flag on ∷ []
body_bytes (Find ticket object asker level) = big_bytes 4 ticket ++ object ++ asker ++ level ∷ []
body_bytes (Answer ticket server) = big_bytes 4 ticket ++ optional_bytes server
body_bytes (Leave replacement) = optional_bytes replacement
body_bytes Left = []
body_bytes Gone = []
body_bytes Forget = []
body_bytes (Cast cast level session depth word) = big_bytes 4 cast ++ level ∷ [] ++ big_bytes 4 session ++ big_bytes 2 depth ++ word
body_bytes (CastAck session) = big_bytes 4 session

-- the version, the kind, the length of the body, and in the second version the number of digits
abbrev pub head_bytes : SettingsValue → ℕ → ℕ → List ℕ
head_bytes p code len = version_of p ∷ code ∷ [] ++ big_bytes 2 len ++ (if is_long p then p.digits ∷ [] else [])

-- a head, the sender, the receiver and the body
abbrev pub spelling : SettingsValue → Frame → List ℕ
spelling p frame = head_bytes p (code_of (kind_of frame.body)) (length (body_bytes frame.body)) ++ frame.from ++ frame.to
    ++ body_bytes frame.body

-- a Tell with this watch list
abbrev pub tell_frame : List ℕ → List ℕ → TellFields → List Slot → Frame
tell_frame sender receiver fields watch = record {
  from = sender;
  to = receiver;
  body = Tell fields.joiner fields.prefix fields.level fields.session fields.depth watch;
}

-- ---- the rules of the fields

-- from 1 to the number of digits
abbrev pub IsLevel : SettingsValue → ℕ → Type 0
IsLevel p level = (1 ≤ level) × (level ≤ p.digits)

-- the slots of a Tell have levels up to its prefix, and are no more than there are other digits
pub record AreSlots (p : SettingsValue) (prefix : ℕ) (watch : List Slot) : Type 0 where
  pub levels : All (λ slot. slot.level ≤ prefix) watch
  pub digits : All (λ slot. slot.digit < p.base) watch
  pub few : length watch ≤ most_slots p

-- the fields of a Tell keep their rules
pub record IsTell (p : SettingsValue) (joiner : List ℕ) (prefix level session : ℕ) (watch : List Slot) : Type 0 where
  pub joiner_is : IsName p joiner
  pub prefix_below : prefix < p.digits
  pub level_above : prefix < level
  pub level_most : level ≤ p.digits
  pub session_least : 1 ≤ session
  pub slots : AreSlots p prefix watch

-- the links of a Hello ascend by name, and are no more than the most
pub record AreLinks (p : SettingsValue) (links : List Offered) : Type 0 where
  pub names : All (λ link. IsName p link.name) links
  pub ascending : AllPairs (λ a b. slice_cmp nat_cmp a.name b.name ≡ Less) links
  pub few : length links ≤ most_links

-- each field keeps its rule
abbrev pub IsBody : SettingsValue → Body → Type 0
IsBody p (Seek joiner) = IsName p joiner
IsBody p (Tell joiner prefix level session depth watch) = IsTell p joiner prefix level session watch
IsBody p (Hello session core links) = (1 ≤ session) × AreLinks p links
IsBody p (Heard session) = 1 ≤ session
IsBody p (Ack session) = 1 ≤ session
IsBody p Done = Unit {0}
IsBody p Release = Unit {0}
IsBody p (Link version on) = Unit {0}
IsBody p (Lay object server level version on) = IsName p object × IsName p server × IsLevel p level
IsBody p (Find ticket object asker level) = IsName p object × IsName p asker × IsLevel p level
IsBody p (Answer ticket server) = IfSome server (IsName p)
IsBody p (Leave replacement) = IfSome replacement (IsName p)
IsBody p Left = Unit {0}
IsBody p Gone = Unit {0}
IsBody p Forget = Unit {0}
IsBody p (Cast cast level session depth word) = IsLevel p level × (1 ≤ session) × IsWord word
IsBody p (CastAck session) = 1 ≤ session

-- a frame that has a spelling
pub record IsFrame (p : SettingsValue) (frame : Frame) : Type 0 where
  pub sender : IsName p frame.from
  pub receiver : IsName p frame.to
  pub body : IsBody p frame.body

-- what the types of the fields say by themselves: numbers of 32 and 16 bits, and ascending slots
abbrev pub IsTyped : Body → Type 0
IsTyped (Seek joiner) = Unit {0}
IsTyped (Tell joiner prefix level session depth watch) = (session < 2 ^ 32) × (depth < 2 ^ 16) × SlotsAscend watch
IsTyped (Hello session core links) = session < 2 ^ 32
IsTyped (Heard session) = session < 2 ^ 32
IsTyped (Ack session) = session < 2 ^ 32
IsTyped Done = Unit {0}
IsTyped Release = Unit {0}
IsTyped (Link version on) = version < 2 ^ 32
IsTyped (Lay object server level version on) = version < 2 ^ 32
IsTyped (Find ticket object asker level) = ticket < 2 ^ 32
IsTyped (Answer ticket server) = ticket < 2 ^ 32
IsTyped (Leave replacement) = Unit {0}
IsTyped Left = Unit {0}
IsTyped Gone = Unit {0}
IsTyped Forget = Unit {0}
IsTyped (Cast cast level session depth word) = (cast < 2 ^ 32) × (session < 2 ^ 32) × (depth < 2 ^ 16)
IsTyped (CastAck session) = session < 2 ^ 32
