-- how long frames and their parts are, and where they stand
use Rattle.std.specs.Prelude.{◌==◌, ℕ, ◌+◌, ◌*◌, ◌-◌, ◌/◌, ◌%◌, nat_le, nat_lt, Bool, ◌&&◌, ◌||◌, if◌then◌else◌, List, length, Option, None, Some}
use Rattle.tap_name.specs.Settings.{SettingsValue}
use Rattle.tap_wire.specs.declared.kind.Kind.{Kind}
use Rattle.tap_wire.specs.declared.kind.Kind.TheVariants.{Seek, Tell, Hello, Heard, Ack, Done, Release, Link, Lay, Find, Answer, Leave, Left, Gone, Forget, Cast, CastAck}
use Rattle.tap_wire.specs.declared.frame.Body.{Body}
use Rattle.tap_wire.specs.declared.frame.Body.TheVariants as body
use Rattle.tap_wire.specs.Kind.{kind_of}

-- ---- limits

-- the most digits of a name in frames of the first version
abbrev pub most_short_digits : ℕ
most_short_digits = 8

-- the most links of a Hello
abbrev pub most_links : ℕ
most_links = 255

-- the most letters of the word of a Cast
abbrev pub most_letters : ℕ
most_letters = 32

-- the most slots of a Tell: at each level one for each other digit
abbrev pub most_slots : SettingsValue → ℕ
most_slots p = p.digits * (p.base - 1)

-- ---- the head

-- names of more than eight digits have the second version
abbrev pub is_long : SettingsValue → Bool
is_long p = nat_lt most_short_digits p.digits

-- the version of frames
abbrev pub version_of : SettingsValue → ℕ
version_of p = if is_long p then 2 else 1

-- the bytes of a head: the version, the kind, two of the body's length, and in the second version the number of digits
abbrev pub head_len : SettingsValue → ℕ
head_len p = if is_long p then 5 else 4

-- a head, a sender and a receiver
abbrev pub body_start : SettingsValue → ℕ
body_start p = head_len p + 2 * p.digits

-- ---- the bodies

-- the bytes of a slot: its level and its digit
abbrev pub slot_len : ℕ
slot_len = 2

-- the bytes of a link: its name and whether it is settled
abbrev pub link_len : SettingsValue → ℕ
link_len p = p.digits + 1

-- the bytes of a body of this kind without what its length depends on: slots, links, letters, and a name that may be missing
abbrev pub fixed_len : SettingsValue → Kind → ℕ
fixed_len p Seek = p.digits
fixed_len p Tell = p.digits + 8
fixed_len p Hello = 5
fixed_len p Heard = 4
fixed_len p Ack = 4
fixed_len p Done = 0
fixed_len p Release = 0
fixed_len p Link = 5
fixed_len p Lay = 2 * p.digits + 6
fixed_len p Find = 2 * p.digits + 5
fixed_len p Answer = 5
fixed_len p Leave = 1
fixed_len p Left = 0
fixed_len p Gone = 0
fixed_len p Forget = 0
fixed_len p Cast = 11
fixed_len p CastAck = 4

-- so many bytes are a fixed part and then at most so many parts of one size
abbrev pub is_parts : ℕ → ℕ → ℕ → ℕ → Bool
is_parts len fixed size most = nat_le fixed len && ((len - fixed) % size == 0 && nat_le ((len - fixed) / size) most)

-- a body of this kind may have so many bytes
abbrev pub is_length : SettingsValue → Kind → ℕ → Bool
is_length p Seek len = len == fixed_len p Seek
is_length p Tell len = is_parts len (fixed_len p Tell) slot_len (most_slots p)
is_length p Hello len = is_parts len (fixed_len p Hello) (link_len p) most_links
is_length p Heard len = len == fixed_len p Heard
is_length p Ack len = len == fixed_len p Ack
is_length p Done len = len == fixed_len p Done
is_length p Release len = len == fixed_len p Release
is_length p Link len = len == fixed_len p Link
is_length p Lay len = len == fixed_len p Lay
is_length p Find len = len == fixed_len p Find
is_length p Answer len = len == fixed_len p Answer || len == p.digits + fixed_len p Answer
is_length p Leave len = len == fixed_len p Leave || len == p.digits + fixed_len p Leave
is_length p Left len = len == fixed_len p Left
is_length p Gone len = len == fixed_len p Gone
is_length p Forget len = len == fixed_len p Forget
is_length p Cast len = nat_le (fixed_len p Cast + 1) len && nat_le len (fixed_len p Cast + most_letters)
is_length p CastAck len = len == fixed_len p CastAck

-- the bytes of a name that may be missing
abbrev pub name_len : SettingsValue → Option (List ℕ) → ℕ
name_len p None = 0
name_len p (Some name) = p.digits

-- the bytes of what the length of a body depends on
abbrev pub varying_len : SettingsValue → Body → ℕ
varying_len p (body.Seek joiner) = 0
varying_len p (body.Tell joiner prefix level session depth watch) = slot_len * length watch
varying_len p (body.Hello session core links) = link_len p * length links
varying_len p (body.Heard session) = 0
varying_len p (body.Ack session) = 0
varying_len p body.Done = 0
varying_len p body.Release = 0
varying_len p (body.Link version on) = 0
varying_len p (body.Lay object server level version on) = 0
varying_len p (body.Find ticket object asker level) = 0
varying_len p (body.Answer ticket server) = name_len p server
varying_len p (body.Leave replacement) = name_len p replacement
varying_len p body.Left = 0
varying_len p body.Gone = 0
varying_len p body.Forget = 0
varying_len p (body.Cast cast level session depth word) = length word
varying_len p (body.CastAck session) = 0

-- the bytes of a body
abbrev pub body_len : SettingsValue → Body → ℕ
body_len p body = fixed_len p (kind_of body) + varying_len p body
