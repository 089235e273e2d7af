-- What a frame says, for proofs that go by its kind: what a Tell says and what a Hello says are in one record each, so that such a proof
-- names none of their fields.
--
-- Cited from outside: by the laws of one move.
-- Cited above: Said, said_of
use Rattle.std.specs.Prelude.{ℕ, Bool, List, Option}
use Rattle.tap_name.specs.declared.slot.Slot.{Slot}
use Rattle.tap_wire.specs.declared.frame.Body.{Body}
use Rattle.tap_wire.specs.declared.frame.Body.TheVariants.{Seek, Tell, Hello, Heard, Ack, Done, Release, Link, Lay, Find, Answer, Leave, Left, Gone, Forget, Cast, CastAck}
use Rattle.tap_wire.specs.declared.frame.TellFields.{TellFields}
use Rattle.tap_safety.specs.Frames.{HelloFields, hello_body, tell_body}

pub data Said : Body → Type 0 where
  IsSeek : (joiner : List ℕ) → Said (Seek joiner)
  IsTell : (tell : TellFields) (watch : List Slot) → Said (tell_body tell watch)
  IsHello : (hello : HelloFields) → Said (hello_body hello)
  IsHeard : (session : ℕ) → Said (Heard session)
  IsAck : (session : ℕ) → Said (Ack session)
  IsDone : Said Done
  IsRelease : Said Release
  IsLink : (version : ℕ) (on : Bool) → Said (Link version on)
  IsLay : {object server : List ℕ} {level version : ℕ} {on : Bool} → Said (Lay object server level version on)
  IsFind : {ticket : ℕ} {object asker : List ℕ} {level : ℕ} → Said (Find ticket object asker level)
  IsAnswer : {ticket : ℕ} {server : Option (List ℕ)} → Said (Answer ticket server)
  IsLeave : (replacement : Option (List ℕ)) → Said (Leave replacement)
  IsLeft : Said Left
  IsGone : Said Gone
  IsForget : Said Forget
  IsCast : {cast level session depth : ℕ} {word : List ℕ} → Said (Cast cast level session depth word)
  IsCastAck : (session : ℕ) → Said (CastAck session)

pub said_of : (body : Body) → Said body
said_of (Seek joiner) = IsSeek joiner
said_of (Tell joiner prefix level session depth watch) =
    IsTell (record { joiner = joiner; prefix = prefix; level = level; session = session; depth = depth }) watch
said_of (Hello session core links) = IsHello (record { session = session; is_core = core; links = links })
said_of (Heard session) = IsHeard session
said_of (Ack session) = IsAck session
said_of Done = IsDone
said_of Release = IsRelease
said_of (Link version on) = IsLink version on
said_of (Lay object server level version on) = IsLay
said_of (Find ticket object asker level) = IsFind
said_of (Answer ticket server) = IsAnswer
said_of (Leave replacement) = IsLeave replacement
said_of Left = IsLeft
said_of Gone = IsGone
said_of Forget = IsForget
said_of (Cast cast level session depth word) = IsCast
said_of (CastAck session) = IsCastAck session
