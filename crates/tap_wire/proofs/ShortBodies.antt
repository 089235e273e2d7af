-- bodies of few fields: read where they were written, and written as they are read
use Rattle.std.proofs.Common.{◌≡◌, ◌<◌, ◌≤◌, ◌++◌, ◌+◌, ◌^◌, ℕ, suc, Bool, eqb, List, [], ◌∷◌, length, drop, slice_index, All, Option, None, Some, IfSome, Result, Ok, arith, refl, ap, subst, ◌∙◌, inl, inr}
use Rattle.std.proofs.lemmas.Bool.{eqb-true, eqb-false, eq-eqb, ne_eqb, cases_Bool}
use Rattle.std.proofs.lemmas.List.{drop_all, length-drop, append-nil}
use Rattle.byteorder.specs.Endian.{big_bytes}
use Rattle.tap_name.specs.Settings.{SettingsValue}
use Rattle.tap_name.specs.Name.{IsName}
use Rattle.tap_wire.specs.declared.frame.Body.{Body}
use Rattle.tap_wire.specs.declared.frame.Body.TheVariants.{Seek, Link, Answer, Leave}
use Rattle.tap_wire.specs.declared.kind.Kind.TheVariants as kinds
use Rattle.tap_wire.specs.declared.fault.Broken.{Broken}
use Rattle.tap_wire.specs.Fields.{◌>>=◌, field, number_at, session_at, flag_at, name_at, optional_at}
use Rattle.tap_wire.specs.Reading.{seek_at, link_body_at, answer_at, leave_at}
use Rattle.tap_wire.specs.Spelling.{flag, optional_bytes, body_bytes}
use Rattle.tap_wire.proofs.ReadingSteps.{bind_ok, bind_is, field_ok, ok_is}
use Rattle.tap_wire.proofs.Pieces.{byte_is, past_byte, byte_taken, number_is, past_number, number_taken, number_below, name_is, name_taken}
use Rattle.tap_wire.proofs.Links.{flag_is, flag_taken}
use Rattle.tap_wire.proofs.TakesParts.{Takes, session_is, session_taken, ends}

-- the bytes from their end on are none
pub nothing : (bytes : List ℕ) (place : ℕ) → length bytes ≡ place → drop place bytes ≡ []
nothing bytes place e = drop_all place bytes (omega arith)

-- how many bytes there are from a place on
pub left : (bytes piece : List ℕ) (place : ℕ) → place ≤ length bytes → drop place bytes ≡ piece → length bytes ≡ place + length piece
left bytes piece place within here = omega (arith, length-drop place bytes, ap (λ (xs : List ℕ). length xs) here)

-- ---- Seek

pub seek_again : (p : SettingsValue) (start : ℕ) (bytes joiner : List ℕ) → IsName p joiner → drop start bytes ≡ joiner
    → seek_at p start bytes ≡ Ok (Seek joiner)
seek_again p start bytes joiner is here =
    bind_is (name_at p start bytes) (λ name. Ok (Seek name)) joiner (Ok (Seek joiner))
    (name_is (λ at. record { at = at }) p bytes start joiner [] is (ends bytes joiner start here)) refl

pub seek_taken : (p : SettingsValue) (start : ℕ) (bytes : List ℕ) (body : Body) → length bytes ≡ start + p.digits
    → seek_at p start bytes ≡ Ok body → Takes p kinds.Seek start bytes body
seek_taken p start bytes body len e =
    let a = bind_ok (name_at p start bytes) (λ name. Ok (Seek name)) body e in
    let named = name_taken (λ at. record { at = at }) p bytes start a.0 (omega arith) a.1 in
    let whole : drop start bytes ≡ a.0 = named.0 ∙ ap (λ (xs : List ℕ). a.0 ++ xs) (nothing bytes (start + p.digits) len)
    ∙ append-nil a.0 in
    subst (Takes p kinds.Seek start bytes) (ok_is (Seek a.0) body a.2) (record { parts = whole; same = refl; rules = named.1; typed = tt })

-- ---- bodies of one session

-- what a session alone has taken
pub record TakesSession (start : ℕ) (bytes : List ℕ) (session : ℕ) : Type 0 where
  pub parts : drop start bytes ≡ big_bytes 4 session
  pub least : 1 ≤ session
  pub fits : session < 2 ^ 32

pub alone_again : (start : ℕ) (bytes : List ℕ) (session : ℕ) → 1 ≤ session → session < 2 ^ 32 → drop start bytes ≡ big_bytes 4 session
    → session_at start bytes ≡ Ok session
alone_again start bytes session least fits here =
    session_is start bytes session (number_is bytes start 4 session [] fits (ends bytes (big_bytes 4 session) start here)) least

pub alone_taken : (start : ℕ) (bytes : List ℕ) (session : ℕ) → All (λ b. b < 256) bytes → length bytes ≡ start + 4
    → session_at start bytes ≡ Ok session → TakesSession start bytes session
alone_taken start bytes session all len e =
    let is = session_taken start bytes session e in
    let whole : drop start bytes ≡ big_bytes 4 session =
    number_taken bytes start 4 all (omega arith) ∙ ap (λ (xs : List ℕ). big_bytes 4 (number_at 4 start bytes) ++ xs)
    (nothing bytes (start + 4) len)
    ∙ append-nil (big_bytes 4 (number_at 4 start bytes)) ∙ ap (big_bytes 4) is.0 in
    record { parts = whole; least = is.1; fits = subst (λ x. x < 2 ^ 32) is.0 (number_below bytes start 4 all) }

-- ---- Link

pub link_again : (start : ℕ) (bytes : List ℕ) (version : ℕ) (on : Bool) → version < 2 ^ 32 → drop start bytes ≡ body_bytes (Link version on)
    → link_body_at start bytes ≡ Ok (Link version on)
link_again start bytes version on fits here =
    let number = number_is bytes start 4 version (flag on ∷ []) fits here in
    let after = past_number bytes start 4 version (flag on ∷ []) here in
    let set = flag_is (start + 4) bytes on (byte_is bytes (start + 4) (flag on) [] after) in
    bind_is (flag_at (start + 4) bytes) (λ on. Ok (Link (number_at 4 start bytes) on)) on (Ok (Link version on)) set
    (ap (λ v. Ok (Link v on)) number)

pub link_taken : (p : SettingsValue) (start : ℕ) (bytes : List ℕ) (body : Body) → All (λ b. b < 256) bytes → length bytes ≡ start + 5
    → link_body_at start bytes ≡ Ok body → Takes p kinds.Link start bytes body
link_taken p start bytes body all len e =
    let version = number_at 4 start bytes in
    let a = bind_ok (flag_at (start + 4) bytes) (λ on. Ok (Link version on)) body e in
    let set = flag_taken (start + 4) bytes a.0 a.1 in
    let after : drop (start + 4) bytes ≡ flag a.0 ∷ [] =
    byte_taken bytes (start + 4) (omega arith) ∙ ap (λ b. b ∷ drop (start + 4 + 1) bytes) set
    ∙ ap (λ (xs : List ℕ). flag a.0 ∷ xs) (nothing bytes (start + 4 + 1) (omega arith)) in
    let whole = number_taken bytes start 4 all (omega arith) ∙ ap (λ (xs : List ℕ). big_bytes 4 version ++ xs) after in
    subst (Takes p kinds.Link start bytes) (ok_is (Link version a.0) body a.2)
    (record { parts = whole; same = refl; rules = tt; typed = number_below bytes start 4 all })

-- ---- a name that may be there

abbrev with_name : Option (List ℕ) → Result (Option (List ℕ)) Broken
with_name o = Ok o

pub optional_again : (p : SettingsValue) (place : ℕ) (bytes : List ℕ) (name : Option (List ℕ)) → place ≤ length bytes → 1 ≤ p.digits
    → IfSome name (IsName p) → drop place bytes ≡ optional_bytes name
    → optional_at p place bytes ≡ Ok name
optional_again p place bytes None within digits is here =
    let flagged = byte_is bytes place 0 [] here in
    let alone = eq-eqb (length bytes) (place + 1) (left bytes (0 ∷ []) place within here) in
    rw (alone, flagged) refl
optional_again p place bytes (Some name) within digits is here =
    let flagged = byte_is bytes place 1 name here in
    let after = past_byte bytes place 1 name here in
    let len : length bytes ≡ place + suc (length name) = left bytes (1 ∷ name) place within here in
    let more = ne_eqb (length bytes) (place + 1) (λ e. omega (arith, is.len, e, len)) in
    let read : name_at p (place + 1) bytes ≡ Ok name = name_is (λ at. record { at = at }) p bytes (place + 1) name [] is
    (ends bytes name (place + 1) after) in
    rw (more, flagged, read) refl

pub record TakesOptional (p : SettingsValue) (place : ℕ) (bytes : List ℕ) (name : Option (List ℕ)) : Type 0 where
  pub parts : drop place bytes ≡ optional_bytes name
  pub is : IfSome name (IsName p)

pub optional_taken : (p : SettingsValue) (place : ℕ) (bytes : List ℕ) (name : Option (List ℕ)) → place + 1 ≤ length bytes
    → (place + 1 < length bytes → length bytes ≡ place + 1 + p.digits)
    → optional_at p place bytes ≡ Ok name → TakesOptional p place bytes name
optional_taken p place bytes name within exact e =
    elim (cases_Bool (eqb (length bytes) (place + 1))) [
      | inl alone ↦
          let a = field_ok (eqb (slice_index bytes place) 0) place None name (rw alone at e) in
          let none : drop place bytes ≡ 0 ∷ [] =
          byte_taken bytes place (omega arith) ∙ ap (λ b. b ∷ drop (place + 1) bytes) (eqb-true (slice_index bytes place) 0 a.0)
          ∙ ap (λ (xs : List ℕ). 0 ∷ xs) (nothing bytes (place + 1) (eqb-true (length bytes) (place + 1) alone)) in
          subst (TakesOptional p place bytes) a.1 (record { parts = none; is = tt })
      | inr more ↦
          let a = bind_ok (field (eqb (slice_index bytes place) 1) place (place + 1))
          (λ after. name_at p after bytes >>= λ name. with_name (Some name)) name (rw more at e) in
          let flagged = field_ok (eqb (slice_index bytes place) 1) place (place + 1) a.0 a.1 in
          let b = bind_ok (name_at p a.0 bytes) (λ name. with_name (Some name)) name a.2 in
          let differs = eqb-false (length bytes) (place + 1) more in
          let len : length bytes ≡ place + 1 + p.digits = exact (omega (arith, differs)) in
          let named = name_taken (λ at. record { at = at }) p bytes (place + 1) b.0 (omega arith)
          (ap (λ k. name_at p k bytes) flagged.1 ∙ b.1) in
          let whole : drop (place + 1) bytes ≡ b.0 = named.0 ∙ ap (λ (xs : List ℕ). b.0 ++ xs) (nothing bytes (place + 1 + p.digits) len)
          ∙ append-nil b.0 in
          let some : drop place bytes ≡ 1 ∷ b.0 =
          byte_taken bytes place (omega arith) ∙ ap (λ b. b ∷ drop (place + 1) bytes) (eqb-true (slice_index bytes place) 1 flagged.0)
          ∙ ap (λ (xs : List ℕ). 1 ∷ xs) whole in
          subst (TakesOptional p place bytes) (option_is (Some b.0) name b.2) (record { parts = some; is = named.1 })
    ]
  where
    option_is : (x y : Option (List ℕ)) → with_name x ≡ with_name y → x ≡ y
    option_is x y e = cc

-- ---- Answer and Leave

pub answer_again : (p : SettingsValue) (start : ℕ) (bytes : List ℕ) (ticket : ℕ) (server : Option (List ℕ)) → 1 ≤ p.digits
    → start + 4 ≤ length bytes → ticket < 2 ^ 32 → IfSome server (IsName p)
    → drop start bytes ≡ body_bytes (Answer ticket server) → answer_at p start bytes ≡ Ok (Answer ticket server)
answer_again p start bytes ticket server digits within fits is here =
    let number = number_is bytes start 4 ticket (optional_bytes server) fits here in
    let after = past_number bytes start 4 ticket (optional_bytes server) here in
    bind_is (optional_at p (start + 4) bytes) (λ server. Ok (Answer (number_at 4 start bytes) server)) server (Ok (Answer ticket server))
    (optional_again p (start + 4) bytes server within digits is after) (ap (λ t. Ok (Answer t server)) number)

pub answer_taken : (p : SettingsValue) (start : ℕ) (bytes : List ℕ) (body : Body) → All (λ b. b < 256) bytes → start + 5 ≤ length bytes
    → (start + 5 < length bytes → length bytes ≡ start + 5 + p.digits)
    → answer_at p start bytes ≡ Ok body → Takes p kinds.Answer start bytes body
answer_taken p start bytes body all within exact e =
    let ticket = number_at 4 start bytes in
    let a = bind_ok (optional_at p (start + 4) bytes) (λ server. Ok (Answer ticket server)) body e in
    let server = optional_taken p (start + 4) bytes a.0 (omega arith) (λ lt. omega (arith, exact (omega arith))) a.1 in
    let whole = number_taken bytes start 4 all (omega arith) ∙ ap (λ (xs : List ℕ). big_bytes 4 ticket ++ xs) server.parts in
    subst (Takes p kinds.Answer start bytes) (ok_is (Answer ticket a.0) body a.2)
    (record { parts = whole; same = refl; rules = server.is; typed = number_below bytes start 4 all })

pub leave_again : (p : SettingsValue) (start : ℕ) (bytes : List ℕ) (replacement : Option (List ℕ)) → 1 ≤ p.digits → start ≤ length bytes
    → IfSome replacement (IsName p)
    → drop start bytes ≡ optional_bytes replacement → leave_at p start bytes ≡ Ok (Leave replacement)
leave_again p start bytes replacement digits within is here =
    bind_is (optional_at p start bytes) (λ name. Ok (Leave name)) replacement (Ok (Leave replacement))
    (optional_again p start bytes replacement within digits is here) refl

pub leave_taken : (p : SettingsValue) (start : ℕ) (bytes : List ℕ) (body : Body) → start + 1 ≤ length bytes
    → (start + 1 < length bytes → length bytes ≡ start + 1 + p.digits)
    → leave_at p start bytes ≡ Ok body → Takes p kinds.Leave start bytes body
leave_taken p start bytes body within exact e =
    let a = bind_ok (optional_at p start bytes) (λ name. Ok (Leave name)) body e in
    let name = optional_taken p start bytes a.0 within exact a.1 in
    subst (Takes p kinds.Leave start bytes) (ok_is (Leave a.0) body a.2)
    (record { parts = name.parts; same = refl; rules = name.is; typed = tt })
