use Rattle.std.specs.Prelude.{IsTrue}
use Rattle.std.proofs.Common.{◌≡◌, ◌<◌, Ok, All, arith, ap, subst}
use Rattle.std.proofs.lemmas.List.Elements.{All-from_get_or}
use Rattle.tap_wire.specs.Fault.{fault_of_body}
use Rattle.tap_wire.specs.Kind.{has_list}
use Rattle.tap_wire.specs.Names.{opened}
use Rattle.tap_wire.specs.Reading.{BodyFails, body_at}
use Rattle.tap_wire.proofs.Frames.{frame_read, spelled_so, wanting}
use Rattle.tap_wire.proofs.decoding.decode_into.Goals as goal

pub returns-in-Ok-clause-found : goal.returns-in-Ok-clause-found
returns-in-Ok-clause-found c =
    let p = c.args.settings.now in
    let bytes = c.args.bytes.now in
    let o = opened p c.known_kind-kind.result bytes in
    let all : All (λ b. b < 256) bytes = All-from_get_or (λ b. b < 256) bytes 0 (λ i h. omega (arith, c.type_inv.bytes i)) in
    let body = subst (λ k. body_at p o.kind k bytes ≡ Ok c.in-Ok.body) c.body_start-start.ensures.value c.in-Ok.ensures.value in
    let is = spelled_so p _ bytes c.body_start-start.ensures.valid all (frame_read p bytes o c.in-Ok.body c.known_kind-kind.ensures.value.0 body) in
    rw (c.sender_in-frame.ensures, c.receiver_in-frame.ensures) (is.1, is.0)

pub returns-in-Err-NoMemory-clause-memory : goal.returns-in-Err-NoMemory-clause-memory
returns-in-Err-NoMemory-clause-memory c =
    let p = c.args.settings.now in
    let bytes = c.args.bytes.now in
    let o = opened p c.known_kind-kind.result bytes in
    let all : All (λ b. b < 256) bytes = All-from_get_or (λ b. b < 256) bytes 0 (λ i h. omega (arith, c.type_inv.bytes i)) in
    let fails = subst (λ k. BodyFails c.in-Err-NoMemory.field-0 (body_at p o.kind k bytes)) c.body_start-start.ensures.value c.in-Err-NoMemory.ensures.value in
    wanting (λ kind. IsTrue (has_list kind)) p bytes o c.in-Err-NoMemory.field-0 c.body_start-start.ensures.valid all c.known_kind-kind.ensures.value.0
    fails c.in-Err-NoMemory.ensures.memory (ap fault_of_body c.in-Err-NoMemory.field-0-is)
