use Rattle.std.specs.Prelude.{◌≢◌, IsTrue}
use Rattle.std.proofs.Common.{◌≡◌, ◌<◌, ◌∙◌, Ok, Err, All, arith, ap, sym, subst}
use Rattle.std.proofs.lemmas.List.Elements.{All-from_get_or}
use Rattle.std.proofs.lemmas.Result.{err_from_is_err_and}
use Rattle.tap_wire.specs.Kind.{has_list}
use Rattle.tap_wire.specs.declared.kind.Kind.TheVariants.{Cast}
use Rattle.tap_wire.specs.Names.{opened}
use Rattle.tap_wire.specs.Reading.{BodyFails, body_at, frame_of}
use Rattle.tap_wire.proofs.Frames.{reads_back, spelled_so, frame_read, head_refused, body_refused, wanting, only_fault}
use Rattle.tap_wire.proofs.decoding.decode.Goals as goal

pub returns-in_err-kind-clause-only : goal.returns-in_err-kind-clause-only
returns-in_err-kind-clause-only c frame is typed spelled free =
    let p = c.args.settings.now in
    absurd (head_refused p c.args.bytes.now _ frame c.in_err-kind.ensures.value
    (ap (frame_of p) spelled ∙ reads_back p frame c.kind_at.ensures.valid is typed))

pub returns-in_err-body-clause-memory : goal.returns-in_err-body-clause-memory
returns-in_err-body-clause-memory c refused =
    let p = c.args.settings.now in
    let bytes = c.args.bytes.now in
    let o = opened p c.in_ok-kind.kind bytes in
    let fault = c.in_err-body.field-0.0 in
    let all : All (λ b. b < 256) bytes = All-from_get_or (λ b. b < 256) bytes 0 (λ i h. omega (arith, c.type_inv.bytes i)) in
    let made = err_from_is_err_and c.from_residual-in_err-body.result c.from_residual-in_err-body.ensures.1 in
    let fails = subst (λ k. BodyFails fault (body_at p o.kind k bytes)) c.body_start-start.ensures.value c.in_err-body.ensures.value in
    wanting (λ kind. IsTrue (has_list kind)) p bytes o fault c.body_start-start.ensures.valid all c.in_ok-kind.ensures.value.0 fails c.in_err-body.ensures.memory
    (sym made.2 ∙ only_fault _ _ (sym made.1 ∙ refused))

pub returns-in_err-body-clause-letters : goal.returns-in_err-body-clause-letters
returns-in_err-body-clause-letters c refused =
    let p = c.args.settings.now in
    let bytes = c.args.bytes.now in
    let o = opened p c.in_ok-kind.kind bytes in
    let fault = c.in_err-body.field-0.0 in
    let all : All (λ b. b < 256) bytes = All-from_get_or (λ b. b < 256) bytes 0 (λ i h. omega (arith, c.type_inv.bytes i)) in
    let made = err_from_is_err_and c.from_residual-in_err-body.result c.from_residual-in_err-body.ensures.1 in
    let fails = subst (λ k. BodyFails fault (body_at p o.kind k bytes)) c.body_start-start.ensures.value c.in_err-body.ensures.value in
    wanting (λ kind. kind ≢ Cast) p bytes o fault c.body_start-start.ensures.valid all c.in_ok-kind.ensures.value.0 fails c.in_err-body.ensures.letters
    (sym made.2 ∙ only_fault _ _ (sym made.1 ∙ refused))

pub returns-in_err-body-clause-only : goal.returns-in_err-body-clause-only
returns-in_err-body-clause-only c frame is typed spelled free =
    let p = c.args.settings.now in
    let bytes = c.args.bytes.now in
    let o = opened p c.in_ok-kind.kind bytes in
    let fault = c.in_err-body.field-0.0 in
    let made = err_from_is_err_and c.from_residual-in_err-body.result c.from_residual-in_err-body.ensures.1 in
    let fails = subst (λ k. BodyFails fault (body_at p o.kind k bytes)) c.body_start-start.ensures.value c.in_err-body.ensures.value in
    let want = body_refused p bytes o fault frame c.in_ok-kind.ensures.value.0 fails
    (ap (frame_of p) spelled ∙ reads_back p frame c.kind_at.ensures.valid is typed) in
    absurd (free (made.1 ∙ ap Err (made.2 ∙ want)))

pub returns-clause-found : goal.returns-clause-found
returns-clause-found c =
    let p = c.args.settings.now in
    let bytes = c.args.bytes.now in
    let o = opened p c.in_ok-kind.kind bytes in
    let all : All (λ b. b < 256) bytes = All-from_get_or (λ b. b < 256) bytes 0 (λ i h. omega (arith, c.type_inv.bytes i)) in
    let body = subst (λ k. body_at p o.kind k bytes ≡ Ok c.in_ok-body.body) c.body_start-start.ensures.value c.in_ok-body.ensures.value in
    let is = spelled_so p _ bytes c.kind_at.ensures.valid all (frame_read p bytes o c.in_ok-body.body c.in_ok-kind.ensures.value.0 body) in
    rw (c.sender_in.ensures, c.receiver_in.ensures) (is.1, is.0)

pub returns-clause-only : goal.returns-clause-only
returns-clause-only c frame is typed spelled free =
    let p = c.args.settings.now in
    let bytes = c.args.bytes.now in
    let o = opened p c.in_ok-kind.kind bytes in
    let body = subst (λ k. body_at p o.kind k bytes ≡ Ok c.in_ok-body.body) c.body_start-start.ensures.value c.in_ok-body.ensures.value in
    let read = frame_read p bytes o c.in_ok-body.body c.in_ok-kind.ensures.value.0 body in
    rw (c.sender_in.ensures, c.receiver_in.ensures)
    (sym read ∙ ap (frame_of p) spelled ∙ reads_back p frame c.kind_at.ensures.valid is typed)
