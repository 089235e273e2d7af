-- the kinds of frames, and their codes
use Rattle.std.specs.Prelude.{ℕ, zero, suc, Bool, true, false, List, [], ◌∷◌, slice_get, Option, None}
use Rattle.tap_wire.specs.declared.kind.Kind.{Kind}
use Rattle.tap_wire.specs.declared.kind.Kind.TheVariants.{Seek, Tell, Hello, Heard, Ack, Done, Release, Link, Lay, Find, Answer, Leave, Left, Gone, Forget, Cast, CastAck}
use Rattle.tap_wire.specs.declared.frame.Body.{Body}
use Rattle.tap_wire.specs.declared.frame.Body.TheVariants as body

-- the code of a kind
abbrev pub code_of : Kind → ℕ
code_of Seek = 1
code_of Tell = 2
code_of Hello = 3
code_of Heard = 4
code_of Ack = 5
code_of Done = 6
code_of Release = 7
code_of Link = 8
code_of Lay = 9
code_of Find = 10
code_of Answer = 11
code_of Leave = 12
code_of Left = 13
code_of Gone = 14
code_of Forget = 15
code_of Cast = 16
code_of CastAck = 17

-- the kinds in the order of their codes, from 1
abbrev pub frame_kinds : List Kind
frame_kinds =
    Seek ∷ Tell ∷ Hello ∷ Heard ∷ Ack ∷ Done ∷ Release ∷ Link ∷ Lay ∷ Find ∷ Answer ∷ Leave ∷ Left ∷ Gone ∷ Forget ∷ Cast ∷ CastAck ∷ []

-- the kind with this code
abbrev pub kind_of_code : ℕ → Option Kind
kind_of_code zero = None
kind_of_code (suc before) = slice_get frame_kinds before

-- the kind of a body
abbrev pub kind_of : Body → Kind
kind_of (body.Seek joiner) = Seek
kind_of (body.Tell joiner prefix level session depth watch) = Tell
kind_of (body.Hello session core links) = Hello
kind_of (body.Heard session) = Heard
kind_of (body.Ack session) = Ack
kind_of body.Done = Done
kind_of body.Release = Release
kind_of (body.Link version on) = Link
kind_of (body.Lay object server level version on) = Lay
kind_of (body.Find ticket object asker level) = Find
kind_of (body.Answer ticket server) = Answer
kind_of (body.Leave replacement) = Leave
kind_of body.Left = Left
kind_of body.Gone = Gone
kind_of body.Forget = Forget
kind_of (body.Cast cast level session depth word) = Cast
kind_of (body.CastAck session) = CastAck

-- bodies of these kinds have a list: slots, links or letters
abbrev pub has_list : Kind → Bool
has_list Seek = false
has_list Tell = true
has_list Hello = true
has_list Heard = false
has_list Ack = false
has_list Done = false
has_list Release = false
has_list Link = false
has_list Lay = false
has_list Find = false
has_list Answer = false
has_list Leave = false
has_list Left = false
has_list Gone = false
has_list Forget = false
has_list Cast = true
has_list CastAck = false
