-- whole frames: read where they were written, and written as they are read
-- Cited above: head_reads_back, reads_back
use Rattle.std.proofs.Common.{◌≡◌, ◌<◌, ◌≤◌, ◌++◌, ◌+◌, ◌-◌, ℕ, Bool, true, false, cond, List, [], ◌∷◌, length, drop, All, Result, Ok, Err, IsOk, arith, refl, ap, sym, subst, ◌∙◌, append_assoc, length-append}
use Rattle.std.specs.Prelude.{IsOkAnd}
use Rattle.byteorder.specs.Endian.{big_bytes}
use Rattle.byteorder.specs.Numbers.{length-bytes_high_first}
use Rattle.tap_name.specs.Settings.{SettingsValue, AreWithinLimits}
use Rattle.tap_wire.specs.declared.fault.Broken.{Broken}
use Rattle.tap_wire.specs.declared.fault.BodyFault.{BodyFault}
use Rattle.tap_wire.specs.declared.fault.BodyFault.TheVariants as faults
use Rattle.tap_wire.specs.declared.fault.HeadFault.{HeadFault}
use Rattle.tap_wire.specs.declared.fault.HeadFault.TheVariants as head
use Rattle.tap_wire.specs.declared.fault.WireFault.{WireFault}
use Rattle.tap_wire.specs.declared.fault.WireFault.TheVariants.{NoMemory}
use Rattle.tap_wire.specs.declared.frame.Frame.{Frame}
use Rattle.tap_wire.specs.declared.frame.Head.{Head}
use Rattle.tap_wire.specs.declared.kind.Kind.{Kind}
use Rattle.tap_wire.specs.declared.frame.Body.{Body}
use Rattle.tap_wire.specs.declared.opening.Opening.{Opening}
use Rattle.tap_wire.specs.Fault.{fault_of_head, fault_of_body}
use Rattle.tap_wire.specs.Kind.{code_of, kind_of}
use Rattle.tap_wire.specs.Fields.{◌>>=◌, number_at}
use Rattle.tap_wire.specs.Reading.{head_of_frame, head_of, opening_of, body_at, in_frame, frame_of, BodyFails}
use Rattle.tap_wire.specs.Spelling.{body_bytes, spelling, IsFrame, IsTyped}
use Rattle.tap_wire.specs.Layout.{is_length, is_long, version_of, head_len, body_start, body_len}
use Rattle.tap_wire.proofs.ReadingSteps.{bind_ok, bind_is}
use Rattle.tap_wire.proofs.Pieces.{moved, byte_is, past_byte, byte_taken, number_is, past_number, number_taken, name_is, past_name, name_taken}
use Rattle.tap_wire.proofs.ShortBodies.{left}
use Rattle.tap_wire.proofs.Bodies.{body_again, body_taken}
use Rattle.tap_wire.proofs.Lengths.{length-body, long_body, short_enough}
use Rattle.tap_wire.proofs.Openings.{HasHead, count_bytes, count_is, past_count, count_taken, opening_is, opening_parts}

five : (a b c d e f : List ℕ) → a ++ b ++ c ++ (d ++ e ++ f) ≡ a ++ (b ++ (c ++ (d ++ (e ++ f))))
five a b c d e f = append_assoc (a ++ b) c (d ++ e ++ f) ∙ append_assoc a b (c ++ (d ++ e ++ f))
    ∙ ap (λ (x : List ℕ). a ++ (b ++ (c ++ x))) (append_assoc d e f)

grouped : (h d e f : List ℕ) → h ++ d ++ e ++ f ≡ h ++ (d ++ e ++ f)
grouped h d e f = append_assoc (h ++ d) e f ∙ append_assoc h d (e ++ f) ∙ ap (λ (x : List ℕ). h ++ x) (sym (append_assoc d e f))

-- a spelling piece by piece
pub pieces : (p : SettingsValue) (frame : Frame) → spelling p frame ≡
    version_of p ∷ code_of (kind_of frame.body) ∷ (big_bytes 2 (length (body_bytes frame.body))
    ++ (count_bytes (is_long p) p.digits ++ (frame.from ++ (frame.to ++ body_bytes frame.body))))
pieces p frame =
    let first = version_of p ∷ code_of (kind_of frame.body) ∷ [] in
    let len = big_bytes 2 (length (body_bytes frame.body)) in
    let count = count_bytes (is_long p) p.digits in
    grouped (first ++ len ++ count) frame.from frame.to (body_bytes frame.body)
    ∙ five first len count frame.from frame.to (body_bytes frame.body)

-- ---- what is written is read

-- where the pieces of a spelling stand
record Stands (p : SettingsValue) (frame : Frame) (bytes : List ℕ) : Type 0 where
  pub head : HasHead p bytes (record { kind = kind_of frame.body; sender = frame.from; receiver = frame.to })
      (length (body_bytes frame.body))
  pub body : drop (body_start p) bytes ≡ body_bytes frame.body
  pub within : body_start p ≤ length bytes

stands : (p : SettingsValue) (frame : Frame) (bytes : List ℕ) → AreWithinLimits p → IsFrame p frame
    → bytes ≡ version_of p ∷ code_of (kind_of frame.body)
    ∷ (big_bytes 2 (length (body_bytes frame.body)) ++ (count_bytes (is_long p) p.digits
    ++ (frame.from ++ (frame.to ++ body_bytes frame.body))))
    → Stands p frame bytes
stands p frame bytes limits is spelled =
    let B = body_bytes frame.body in
    let len = length B in
    let code = code_of (kind_of frame.body) in
    let names = frame.from ++ (frame.to ++ B) in
    let C = count_bytes (is_long p) p.digits in
    let N = big_bytes 2 len in
    let many : len ≡ body_len p frame.body = length-body p frame.body is.body in
    let fits : len < 65536 = omega (arith, many, short_enough p frame.body limits is.body) in
    let h0 : drop 0 bytes ≡ version_of p ∷ code ∷ (N ++ (C ++ names)) = spelled in
    let h1 : drop 1 bytes ≡ code ∷ (N ++ (C ++ names)) = past_byte bytes 0 (version_of p) (code ∷ (N ++ (C ++ names))) h0 in
    let h2 : drop 2 bytes ≡ N ++ (C ++ names) = past_byte bytes 1 code (N ++ (C ++ names)) h1 in
    let h3 : drop 4 bytes ≡ C ++ names = past_number bytes 2 2 len (C ++ names) h2 in
    let h4 : drop (head_len p) bytes ≡ names = past_count (is_long p) p.digits bytes names h3 in
    let h5 = past_name p bytes (head_len p) frame.from (frame.to ++ B) is.sender h4 in
    let h6 = past_name p bytes (head_len p + p.digits) frame.to B is.receiver h5 in
    let same : head_len p + p.digits + p.digits ≡ body_start p = omega arith in
    let start = moved bytes B (head_len p + p.digits + p.digits) (body_start p) same h6 in
    let size = ap (λ (xs : List ℕ). length xs) spelled in
    let joined = length-append N (C ++ names) in
    let counted = length-append C names in
    let named = length-append frame.from (frame.to ++ B) in
    let ended = length-append frame.to B in
    let number = length-bytes_high_first 2 len in
    let headed : 4 + length C ≡ head_len p = count_len (is_long p) p.digits in
    let whole : length bytes ≡ body_start p + len = omega
    (arith, size, joined, counted, named, ended, number, headed, is.sender.len, is.receiver.len) in
    record {
      head = record {
        version = byte_is bytes 0 (version_of p) (code ∷ (N ++ (C ++ names))) h0;
        kind = byte_is bytes 1 code (N ++ (C ++ names)) h1;
        stated = number_is bytes 2 2 len (C ++ names) fits h2;
        possible = ap (is_length p (kind_of frame.body)) many ∙ long_body p frame.body limits is.body;
        count = count_is (is_long p) p.digits bytes names h3;
        whole = whole;
        sender = name_is head.BadDigit p bytes (head_len p) frame.from (frame.to ++ B) is.sender h4;
        receiver = name_is head.BadDigit p bytes (head_len p + p.digits) frame.to B is.receiver h5;
      };
      body = start;
      within = omega (arith, whole);
    }
  where
    count_len : (long : Bool) (digits : ℕ) → 4 + length (count_bytes long digits) ≡ cond {A = ℕ} long 5 4
    count_len true digits = refl
    count_len false digits = refl

in_frame_is : {X E : Type 0} (fault : E → WireFault) (r : Result X E) (x : X) → r ≡ Ok x → in_frame fault r ≡ Ok x
in_frame_is fault (Ok z) x e = let same : z ≡ x = cc in ap Ok same
in_frame_is fault (Err f) x e = absurd cc

in_frame_ok : {X E : Type 0} (fault : E → WireFault) (r : Result X E) (x : X) → in_frame fault r ≡ Ok x → r ≡ Ok x
in_frame_ok fault (Ok z) x e = let same : z ≡ x = cc in ap Ok same
in_frame_ok fault (Err f) x e = absurd cc

-- how a frame's parts are put together
abbrev framed : Opening → Body → Result Frame WireFault
framed o body = Ok (record { from = o.sender; to = o.receiver; body = body })

abbrev next_body : SettingsValue → List ℕ → Opening → Result Frame WireFault
next_body p bytes o = in_frame (λ b. fault_of_body (faults.Field b)) (body_at p o.kind (body_start p) bytes) >>= λ body. framed o body

-- what the head of a frame says
abbrev headed : Opening → Result Head HeadFault
headed o = Ok (record { kind = code_of o.kind; from = o.sender; to = o.receiver })

-- a frame whose head and body are read
pub frame_read : (p : SettingsValue) (bytes : List ℕ) (o : Opening) (body : Body) → opening_of p bytes ≡ Ok o
    → body_at p o.kind (body_start p) bytes ≡ Ok body → frame_of p bytes ≡ framed o body
frame_read p bytes o body opened read =
    bind_is (in_frame fault_of_head (opening_of p bytes)) (next_body p bytes) o (framed o body)
    (in_frame_is fault_of_head (opening_of p bytes) o opened)
    (bind_is (in_frame (λ b. fault_of_body (faults.Field b)) (body_at p o.kind (body_start p) bytes)) (framed o) body (framed o body)
    (in_frame_is (λ b. fault_of_body (faults.Field b)) (body_at p o.kind (body_start p) bytes) body read) refl)

-- bytes that are a frame have a head, by how it is read
opened_as : (p : SettingsValue) (bytes : List ℕ) (read : Result Opening HeadFault) → opening_of p bytes ≡ read → IsOk (frame_of p bytes)
    → (o : Opening) × (opening_of p bytes ≡ Ok o)
opened_as p bytes (Ok o) e ok = (o, e)
opened_as p bytes (Err fault) e ok =
    let refused : IsOk (in_frame fault_of_head (Err fault) >>= next_body p bytes) =
    subst IsOk (ap (λ r. in_frame fault_of_head r >>= next_body p bytes) e) ok in
    absurd cc

pub frame_opened : (p : SettingsValue) (bytes : List ℕ) → IsOk (frame_of p bytes) → (o : Opening) × (opening_of p bytes ≡ Ok o)
frame_opened p bytes ok = opened_as p bytes (opening_of p bytes) refl ok

-- bytes whose head is refused are no frame
pub head_refused : (p : SettingsValue) (bytes : List ℕ) (fault : HeadFault) (frame : Frame) → opening_of p bytes ≡ Err fault
    → frame_of p bytes ≡ Ok frame → ⊥
head_refused p bytes fault frame refused read =
    let is : frame_of p bytes ≡ Err (fault_of_head fault) = ap (λ r. in_frame fault_of_head r >>= next_body p bytes) refused in
    absurd (let both = sym is ∙ read in cc)

-- of a frame the body isn't read only if memory is wanted
pub body_refused : (p : SettingsValue) (bytes : List ℕ) (o : Opening) (fault : BodyFault) (frame : Frame) → opening_of p bytes ≡ Ok o
    → BodyFails fault (body_at p o.kind (body_start p) bytes) → frame_of p bytes ≡ Ok frame → fault_of_body fault ≡ NoMemory
body_refused p bytes o (faults.Field broken) frame opened fails read =
    let is : frame_of p bytes ≡ Err (fault_of_body (faults.Field broken)) =
    bind_is (in_frame fault_of_head (opening_of p bytes)) (next_body p bytes) o (Err (fault_of_body (faults.Field broken)))
    (in_frame_is fault_of_head (opening_of p bytes) o opened)
    (ap (λ r. in_frame (λ b. fault_of_body (faults.Field b)) r >>= framed o) fails) in
    absurd (let both = sym is ∙ read in cc)
body_refused p bytes o faults.NoMemory frame opened fails read = refl

frame_is : (p : SettingsValue) (frame : Frame) (bytes : List ℕ) → AreWithinLimits p → IsFrame p frame → IsTyped frame.body
    → Stands p frame bytes → frame_of p bytes ≡ Ok frame
frame_is p frame bytes limits is typed h =
    let o : Opening = record { kind = kind_of frame.body; sender = frame.from; receiver = frame.to } in
    let opened = in_frame_is fault_of_head (opening_of p bytes) o (opening_is p bytes o (length (body_bytes frame.body)) h.head) in
    let read = in_frame_is (λ b. fault_of_body (faults.Field b)) (body_at p (kind_of frame.body) (body_start p) bytes) frame.body
    (body_again p (body_start p) bytes frame.body limits h.within is.body typed h.body) in
    bind_is (in_frame fault_of_head (opening_of p bytes)) (next_body p bytes) o (Ok frame) opened
    (bind_is (in_frame (λ b. fault_of_body (faults.Field b)) (body_at p (kind_of frame.body) (body_start p) bytes)) (framed o) frame.body
    (Ok frame) read refl)

pub reads_back : (p : SettingsValue) (frame : Frame) → AreWithinLimits p → IsFrame p frame → IsTyped frame.body
    → frame_of p (spelling p frame) ≡ Ok frame
reads_back p frame limits is typed = frame_is p frame (spelling p frame) limits is typed
    (stands p frame (spelling p frame) limits is (pieces p frame))

-- ---- what is read was written

frame_same : (x y : Frame) → ◌≡◌ {A = Result Frame WireFault} (Ok x) (Ok y) → x ≡ y
frame_same x y e = cc

-- what reading a frame has taken
record Taken (p : SettingsValue) (bytes : List ℕ) (frame : Frame) : Type 0 where
  pub parts : bytes ≡ spelling p frame
  pub rules : IsFrame p frame
  pub typed : IsTyped frame.body

frame_taken : (p : SettingsValue) (bytes : List ℕ) (o : Opening) (body : Body) → AreWithinLimits p → All (λ b. b < 256) bytes
    → HasHead p bytes o (number_at 2 2 bytes)
    → body_at p o.kind (body_start p) bytes ≡ Ok body → Taken p bytes (record { from = o.sender; to = o.receiver; body = body })
frame_taken p bytes o body limits all h e =
    let len = number_at 2 2 bytes in
    let frame : Frame = record { from = o.sender; to = o.receiver; body = body } in
    let start = body_start p in
    let long : length bytes - start ≡ len = omega (arith, h.whole) in
    let read = body_taken p o.kind start bytes body all (omega (arith, h.whole)) (ap (is_length p o.kind) long ∙ h.possible) e in
    let B = body_bytes body in
    let size : len ≡ length B = omega (arith, h.whole, left bytes B start (omega (arith, h.whole)) read.parts) in
    let N = big_bytes 2 len in
    let C = count_bytes (is_long p) p.digits in
    let names = o.sender ++ (o.receiver ++ B) in
    let sender = name_taken head.BadDigit p bytes (head_len p) o.sender (omega (arith, h.whole)) h.sender in
    let receiver = name_taken head.BadDigit p bytes (head_len p + p.digits) o.receiver (omega (arith, h.whole)) h.receiver in
    let same : head_len p + p.digits + p.digits ≡ start = omega arith in
    let t5 : drop (head_len p + p.digits) bytes ≡ o.receiver ++ B = receiver.0
    ∙ ap (λ (xs : List ℕ). o.receiver ++ xs) (ap (λ k. drop k bytes) same ∙ read.parts) in
    let t4 : drop (head_len p) bytes ≡ names = sender.0 ∙ ap (λ (xs : List ℕ). o.sender ++ xs) t5 in
    let t3 : drop 4 bytes ≡ C ++ names = count_taken (is_long p) p.digits bytes (omega (arith, h.whole)) h.count
    ∙ ap (λ (xs : List ℕ). C ++ xs) t4 in
    let t2 : drop 2 bytes ≡ N ++ (C ++ names) = number_taken bytes 2 2 all (omega (arith, h.whole, four_most p))
    ∙ ap (λ (xs : List ℕ). N ++ xs) t3 in
    let t1 : drop 1 bytes ≡ code_of o.kind ∷ (N ++ (C ++ names)) = byte_taken bytes 1 (omega (arith, h.whole, four_most p))
    ∙ ap (λ x. x ∷ drop 2 bytes) h.kind ∙ ap (λ (xs : List ℕ). code_of o.kind ∷ xs) t2 in
    let t0 : bytes ≡ version_of p ∷ code_of o.kind ∷ (N ++ (C ++ names)) =
    byte_taken bytes 0 (omega (arith, h.whole, four_most p)) ∙ ap (λ x. x ∷ drop 1 bytes) h.version
    ∙ ap (λ (xs : List ℕ). version_of p ∷ xs) t1 in
    let kinds : code_of o.kind ≡ code_of (kind_of body) = ap code_of (sym read.same) in
    let spelled : bytes ≡ version_of p ∷ code_of (kind_of body) ∷ (big_bytes 2 (length B) ++ (C ++ names)) =
    t0 ∙ ap (λ k. version_of p ∷ k ∷ (N ++ (C ++ names))) kinds
    ∙ ap (λ l. version_of p ∷ code_of (kind_of body) ∷ (big_bytes 2 l ++ (C ++ names))) size in
    record {
      parts = spelled ∙ sym (pieces p frame);
      rules = record { sender = sender.1; receiver = receiver.1; body = read.rules };
      typed =
          read.typed;
    }
  where
    four_of : (long : Bool) → 4 ≤ cond {A = ℕ} long 5 4
    four_of true = omega arith
    four_of false = omega arith

    four_most : (p : SettingsValue) → 4 ≤ head_len p
    four_most p = four_of (is_long p)

pub spelled_so : (p : SettingsValue) (frame : Frame) (bytes : List ℕ) → AreWithinLimits p → All (λ b. b < 256) bytes
    → frame_of p bytes ≡ Ok frame
    → (bytes ≡ spelling p frame) × IsFrame p frame × IsTyped frame.body
spelled_so p frame bytes limits all e =
    let a = bind_ok (in_frame fault_of_head (opening_of p bytes)) (next_body p bytes) frame e in
    let b = bind_ok (in_frame (λ b. fault_of_body (faults.Field b)) (body_at p a.0.kind (body_start p) bytes)) (framed a.0) frame a.2 in
    let h = opening_parts p bytes a.0 (in_frame_ok fault_of_head (opening_of p bytes) a.0 a.1) in
    let read = in_frame_ok (λ b. fault_of_body (faults.Field b)) (body_at p a.0.kind (body_start p) bytes) b.0 b.1 in
    let taken = frame_taken p bytes a.0 b.0 limits all h read in
    let all_of : Taken p bytes frame = subst (Taken p bytes)
    (frame_same (record { from = a.0.sender; to = a.0.receiver; body = b.0 }) frame b.2) taken in
    (all_of.parts, all_of.rules, all_of.typed)

-- ---- how long a spelling is

pub length-spelling : (p : SettingsValue) (frame : Frame) → AreWithinLimits p → IsFrame p frame
    → length (spelling p frame) ≡ body_start p + length (body_bytes frame.body)
length-spelling p frame limits is = let h = stands p frame (spelling p frame) limits is (pieces p frame) in h.head.whole

-- ---- heads

-- the head of a frame's spelling is that frame's
pub head_reads_back : (p : SettingsValue) (frame : Frame) → AreWithinLimits p → IsFrame p frame
    → head_of p (spelling p frame) ≡ Ok (head_of_frame frame)
head_reads_back p frame limits is =
    let bytes = spelling p frame in
    let o : Opening = record { kind = kind_of frame.body; sender = frame.from; receiver = frame.to } in
    let h = stands p frame bytes limits is (pieces p frame) in
    bind_is (opening_of p bytes) headed o (Ok (head_of_frame frame)) (opening_is p bytes o (length (body_bytes frame.body)) h.head) refl

-- the head of bytes that are a frame is that frame's
pub head_read : (p : SettingsValue) (bytes : List ℕ) (frame : Frame) → AreWithinLimits p → All (λ b. b < 256) bytes
    → frame_of p bytes ≡ Ok frame → head_of p bytes ≡ Ok (head_of_frame frame)
head_read p bytes frame limits all read =
    let is = spelled_so p frame bytes limits all read in ap (head_of p) is.0 ∙ head_reads_back p frame limits is.1

-- so what was read of it is that frame's head
pub head_whole : (p : SettingsValue) (bytes : List ℕ) (o : Opening) (frame : Frame) → AreWithinLimits p → All (λ b. b < 256) bytes
    → opening_of p bytes ≡ Ok o → frame_of p bytes ≡ Ok frame → headed o ≡ Ok (head_of_frame frame)
head_whole p bytes o frame limits all opened read =
    sym (bind_is (opening_of p bytes) headed o (headed o) opened refl) ∙ head_read p bytes frame limits all read

-- ---- want of memory

-- equal answers have equal faults
pub only_fault : (x y : WireFault) → ◌≡◌ {A = Result Frame WireFault} (Err x) (Err y) → x ≡ y
only_fault x y e = cc

-- the frame whose body is read is of the kind that its head says
of_its_kind : (Q : Kind → Type 0) (p : SettingsValue) (bytes : List ℕ) (o : Opening) (read : Result Body Broken) → AreWithinLimits p
    → All (λ b. b < 256) bytes → opening_of p bytes ≡ Ok o → body_at p o.kind (body_start p) bytes ≡ read → IsOk read → Q o.kind
    → IsOkAnd (frame_of p bytes) (λ frame. Q (kind_of frame.body))
of_its_kind Q p bytes o (Err broken) limits all opened e ok holds = absurd cc
of_its_kind Q p bytes o (Ok body) limits all opened e ok holds =
    let h = opening_parts p bytes o opened in
    let long : length bytes - body_start p ≡ number_at 2 2 bytes = omega (arith, h.whole) in
    let taken = body_taken p o.kind (body_start p) bytes body all (omega (arith, h.whole)) (ap (is_length p o.kind) long ∙ h.possible) e in
    let read = frame_read p bytes o body opened e in
    let Of : Result Frame WireFault → Type 0 = λ found. IsOkAnd found (λ frame. Q (kind_of frame.body)) in
    subst Of (sym read) (subst Q (sym taken.same) holds)

-- want of memory comes in place of a frame, and what it says of the head's kind holds of that frame's
pub wanting : (Q : Kind → Type 0) (p : SettingsValue) (bytes : List ℕ) (o : Opening) (fault : BodyFault) → AreWithinLimits p
    → All (λ b. b < 256) bytes → opening_of p bytes ≡ Ok o → BodyFails fault (body_at p o.kind (body_start p) bytes)
    → (◌≡◌ {A = Result Body BodyFault} (Err fault) (Err faults.NoMemory) → Q o.kind) → fault_of_body fault ≡ NoMemory
    → IsOkAnd (frame_of p bytes) (λ frame. Q (kind_of frame.body))
wanting Q p bytes o (faults.Field broken) limits all opened fails holds want = absurd cc
wanting Q p bytes o faults.NoMemory limits all opened fails holds want =
    of_its_kind Q p bytes o (body_at p o.kind (body_start p) bytes) limits all opened refl fails (holds refl)
