-- the frame that bytes spell, or the first refusal
use Rattle.std.specs.Prelude.{◌≡◌, ◌==◌, ℕ, ◌+◌, ◌*◌, ◌-◌, ◌/◌, nat_le, nat_lt, not, ◌&&◌, if◌then◌else◌, List, length, slice_index, Option, None, Some, Result, Ok, Err, IsOk, IsOkAnd, IsTrue}
use Rattle.tap_name.specs.Settings.{SettingsValue}
use Rattle.tap_wire.specs.declared.fault.Broken.{Broken}
use Rattle.tap_wire.specs.declared.fault.BodyFault.{BodyFault}
use Rattle.tap_wire.specs.declared.fault.BodyFault.TheVariants as faults
use Rattle.tap_wire.specs.declared.fault.HeadFault.{HeadFault}
use Rattle.tap_wire.specs.declared.fault.HeadFault.TheVariants.{Short, BadVersion, BadKind, BadLength, BadCount, Trailing, BadDigit}
use Rattle.tap_wire.specs.declared.fault.WireFault.{WireFault}
use Rattle.tap_wire.specs.declared.frame.Frame.{Frame}
use Rattle.tap_wire.specs.declared.frame.Head.{Head}
use Rattle.tap_wire.specs.declared.frame.Body.{Body}
use Rattle.tap_wire.specs.declared.frame.Body.TheVariants.{Seek, Tell, Hello, Heard, Ack, Done, Release, Link, Lay, Find, Answer, Leave, Left, Gone, Forget, Cast, CastAck}
use Rattle.tap_wire.specs.declared.kind.Kind.{Kind}
use Rattle.tap_wire.specs.declared.kind.Kind.TheVariants as kinds
use Rattle.tap_wire.specs.declared.opening.Opening.{Opening}
use Rattle.tap_wire.specs.Fault.{fault_of_head, fault_of_body}
use Rattle.tap_wire.specs.Kind.{code_of, kind_of, kind_of_code, has_list}
use Rattle.tap_wire.specs.Layout.{is_long, version_of, head_len, body_start, slot_len, link_len, is_length}
use Rattle.tap_wire.specs.Fields.{◌>>=◌, field, number_at, session_at, level_at, flag_at, digits_at, name_at, optional_at, slots_at, hello_links_at, word_at}

-- the two names, if the bytes are as many as they should be
abbrev pub names_at : SettingsValue → Kind → List ℕ → Result Opening HeadFault
names_at p kind bytes =
    digits_at BadDigit p (head_len p) bytes >>= λ sender.
    digits_at BadDigit p (head_len p + p.digits) bytes >>= λ receiver.
    Ok (record { kind = kind; sender = sender; receiver = receiver })

-- what the head says of the number of bytes
abbrev pub sized : SettingsValue → Kind → ℕ → List ℕ → Result Opening HeadFault
sized p kind len bytes =
    if not (is_length p kind len) then Err (BadLength len)
    else if is_long p && not (slice_index bytes 4 == p.digits) then Err (BadCount (slice_index bytes 4))
    else if nat_lt (length bytes) (body_start p + len) then Err (Short (body_start p + len - length bytes))
    else if nat_lt (body_start p + len) (length bytes) then Err (Trailing (length bytes - (body_start p + len)))
    else names_at p kind bytes

-- the rest of the head of a frame of this kind, if its code is one
abbrev pub of_kind : SettingsValue → Option Kind → List ℕ → Result Opening HeadFault
of_kind p None bytes = Err (BadKind (slice_index bytes 1))
of_kind p (Some kind) bytes = sized p kind (number_at 2 2 bytes) bytes

-- the kind, the sender and the receiver, or the first refusal of a head
abbrev pub opening_of : SettingsValue → List ℕ → Result Opening HeadFault
opening_of p bytes =
    if nat_lt (length bytes) (head_len p) then Err (Short (head_len p - length bytes))
    else if not (slice_index bytes 0 == version_of p) then Err (BadVersion (slice_index bytes 0))
    else of_kind p (kind_of_code (slice_index bytes 1)) bytes

-- the head of a frame
abbrev pub head_of_frame : Frame → Head
head_of_frame frame = record { kind = code_of (kind_of frame.body); from = frame.from; to = frame.to }

-- a head by itself
abbrev pub head_of : SettingsValue → List ℕ → Result Head HeadFault
head_of p bytes = opening_of p bytes >>= λ opening. Ok
    (record { kind = code_of opening.kind; from = opening.sender; to = opening.receiver })

-- the bodies, field by field from the place where they start

-- a Seek: the joiner
abbrev pub seek_at : SettingsValue → ℕ → List ℕ → Result Body Broken
seek_at p start bytes = name_at p start bytes >>= λ joiner. Ok (Seek joiner)

-- the prefix is below the number of digits
abbrev pub prefix_at : SettingsValue → ℕ → List ℕ → Result ℕ Broken
prefix_at p place bytes = field (nat_lt (slice_index bytes place) p.digits) place (slice_index bytes place)

-- the level is above the prefix and at most the number of digits
abbrev pub level_above_at : SettingsValue → ℕ → ℕ → List ℕ → Result ℕ Broken
level_above_at p prefix place bytes =
    field (nat_lt prefix (slice_index bytes place) && nat_le (slice_index bytes place) p.digits) place (slice_index bytes place)

-- a Tell: the joiner, the prefix, the level, the session, the depth and the watch list
unfoldable pub tell_at : SettingsValue → ℕ → List ℕ → Result Body Broken
tell_at p start bytes =
    let at = start + p.digits in
    name_at p start bytes >>= λ joiner.
    prefix_at p at bytes >>= λ prefix.
    level_above_at p prefix (at + 1) bytes >>= λ level.
    session_at (at + 2) bytes >>= λ session.
    slots_at p prefix ((length bytes - (at + 8)) / slot_len) None (at + 8) bytes >>= λ watch.
    Ok (Tell joiner prefix level session (number_at 2 (at + 6) bytes) watch)

-- a Hello: the session, whether its sender is core, and the links
unfoldable pub hello_at : SettingsValue → ℕ → List ℕ → Result Body Broken
hello_at p start bytes =
    session_at start bytes >>= λ session.
    flag_at (start + 4) bytes >>= λ core.
    hello_links_at p ((length bytes - (start + 5)) / link_len p) None (start + 5) bytes >>= λ links.
    Ok (Hello session core links)

-- a Link: the version, and whether there is a link
abbrev pub link_body_at : ℕ → List ℕ → Result Body Broken
link_body_at start bytes = flag_at (start + 4) bytes >>= λ on. Ok (Link (number_at 4 start bytes) on)

-- a Lay: the object, the server, the level, the version, and whether there is a pointer
unfoldable pub lay_at : SettingsValue → ℕ → List ℕ → Result Body Broken
lay_at p start bytes =
    let at = start + 2 * p.digits in
    name_at p start bytes >>= λ object.
    name_at p (start + p.digits) bytes >>= λ server.
    level_at p at bytes >>= λ level.
    flag_at (at + 5) bytes >>= λ on.
    Ok (Lay object server level (number_at 4 (at + 1) bytes) on)

-- a Find: the ticket, the object, the asker and the level
unfoldable pub find_at : SettingsValue → ℕ → List ℕ → Result Body Broken
find_at p start bytes =
    name_at p (start + 4) bytes >>= λ object.
    name_at p (start + 4 + p.digits) bytes >>= λ asker.
    level_at p (start + 4 + 2 * p.digits) bytes >>= λ level.
    Ok (Find (number_at 4 start bytes) object asker level)

-- an Answer: the ticket, and a server if one is found
abbrev pub answer_at : SettingsValue → ℕ → List ℕ → Result Body Broken
answer_at p start bytes = optional_at p (start + 4) bytes >>= λ server. Ok (Answer (number_at 4 start bytes) server)

-- a Leave: a replacement if one is given
abbrev pub leave_at : SettingsValue → ℕ → List ℕ → Result Body Broken
leave_at p start bytes = optional_at p start bytes >>= λ replacement. Ok (Leave replacement)

-- a Cast: the cast, the level, the session, the depth and the word
unfoldable pub cast_at : SettingsValue → ℕ → List ℕ → Result Body Broken
cast_at p start bytes =
    level_at p (start + 4) bytes >>= λ level.
    session_at (start + 5) bytes >>= λ session.
    word_at (start + 11) bytes >>= λ word.
    Ok (Cast (number_at 4 start bytes) level session (number_at 2 (start + 9) bytes) word)

-- the body of a frame of this kind, or the first field that breaks its rule
abbrev pub body_at : SettingsValue → Kind → ℕ → List ℕ → Result Body Broken
body_at p kinds.Seek start bytes = seek_at p start bytes
body_at p kinds.Tell start bytes = tell_at p start bytes
body_at p kinds.Hello start bytes = hello_at p start bytes
body_at p kinds.Heard start bytes = session_at start bytes >>= λ session. Ok (Heard session)
body_at p kinds.Ack start bytes = session_at start bytes >>= λ session. Ok (Ack session)
body_at p kinds.Done start bytes = Ok Done
body_at p kinds.Release start bytes = Ok Release
body_at p kinds.Link start bytes = link_body_at start bytes
body_at p kinds.Lay start bytes = lay_at p start bytes
body_at p kinds.Find start bytes = find_at p start bytes
body_at p kinds.Answer start bytes = answer_at p start bytes
body_at p kinds.Leave start bytes = leave_at p start bytes
body_at p kinds.Left start bytes = Ok Left
body_at p kinds.Gone start bytes = Ok Gone
body_at p kinds.Forget start bytes = Ok Forget
body_at p kinds.Cast start bytes = cast_at p start bytes
body_at p kinds.CastAck start bytes = session_at start bytes >>= λ session. Ok (CastAck session)

-- a step of reading, with its fault as one of the whole frame
abbrev pub in_frame : {X E : Type 0} → (E → WireFault) → Result X E → Result X WireFault
in_frame fault (Ok x) = Ok x
in_frame fault (Err e) = Err (fault e)

-- the frame that the bytes spell, or the first refusal
abbrev pub frame_of : SettingsValue → List ℕ → Result Frame WireFault
frame_of p bytes =
    in_frame fault_of_head (opening_of p bytes) >>= λ opening.
    in_frame (λ b. fault_of_body (faults.Field b)) (body_at p opening.kind (body_start p) bytes) >>= λ body.
    Ok (record { from = opening.sender; to = opening.receiver; body = body })

-- memory is wanted for a frame with a list alone, and never for a refusal
abbrev pub WantsMemory : Result Frame WireFault → Type 0
WantsMemory read = IsOkAnd read (λ frame. IsTrue (has_list (kind_of frame.body)))

-- a reader's fault is the field that breaks its rule, or want of memory for what is read
abbrev pub BodyFails : {X : Type 0} → BodyFault → Result X Broken → Type 0
BodyFails faults.NoMemory read = IsOk read
BodyFails (faults.Field b) read = read ≡ Err b

-- what a reader answered is what is read, or want of memory for it
abbrev pub BodyGives : {X : Type 0} → Result X BodyFault → Result X Broken → Type 0
BodyGives (Ok x) read = read ≡ Ok x
BodyGives (Err e) read = BodyFails e read
