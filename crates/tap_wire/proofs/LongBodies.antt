-- bodies of several names and numbers: read where they were written, and written as they are read
use Rattle.std.proofs.Common.{◌≡◌, ◌<◌, ◌≤◌, ◌++◌, ◌+◌, ◌*◌, ◌-◌, ◌^◌, ℕ, Bool, List, [], ◌∷◌, length, drop, All, Result, Ok, IsTrue, arith, refl, ap, sym, subst, ◌∙◌}
use Rattle.std.specs.List.{list_all}
use Rattle.std.proofs.lemmas.List.{length-drop}
use Rattle.byteorder.specs.Endian.{big_bytes}
use Rattle.tap_name.specs.Settings.{SettingsValue}
use Rattle.tap_name.specs.Name.{IsName}
use Rattle.tap_name.specs.Word.{is_word_byte, IsWord}
use Rattle.tap_name.proofs.Words.{word_passes, word_where_passes}
use Rattle.tap_wire.specs.declared.frame.Body.{Body}
use Rattle.tap_wire.specs.declared.frame.Body.TheVariants.{Lay, Find, Cast}
use Rattle.tap_wire.specs.declared.kind.Kind.TheVariants as kinds
use Rattle.tap_wire.specs.declared.fault.Broken.{Broken}
use Rattle.tap_wire.specs.Fields.{◌>>=◌, field, number_at, session_at, level_at, flag_at, name_at, word_at}
use Rattle.tap_wire.specs.Reading.{lay_at, find_at, cast_at}
use Rattle.tap_wire.specs.Spelling.{flag, body_bytes, IsLevel}
use Rattle.tap_wire.proofs.ReadingSteps.{bind_ok, bind_is, field_ok, field_is, ok_is}
use Rattle.tap_wire.proofs.Pieces.{moved, byte_is, past_byte, byte_taken, number_is, past_number, number_taken, number_below, name_is, past_name, name_taken}
use Rattle.tap_wire.proofs.Links.{flag_is, flag_taken}
use Rattle.tap_wire.proofs.TakesParts.{Takes, session_is, session_taken, level_is, level_taken, three, four}
use Rattle.tap_wire.proofs.ShortBodies.{nothing}

pub same_place : (bytes : List ℕ) (here there : ℕ) → here ≡ there → drop here bytes ≡ drop there bytes
same_place bytes here there e = ap (λ k. drop k bytes) e

-- ---- Lay

pub lay_again : (p : SettingsValue) (start : ℕ) (bytes object server : List ℕ) (level version : ℕ) (on : Bool) → IsName p object
    → IsName p server → IsLevel p level → version < 2 ^ 32
    → drop start bytes ≡ body_bytes (Lay object server level version on) → lay_at p start bytes ≡ Ok (Lay object server level version on)
unfolding lay_at
lay_again p start bytes object server level version on is_object is_server is_level fits here =
    let at = start + 2 * p.digits in
    let V = big_bytes 4 version in
    let F = flag on ∷ [] in
    let h0 = here ∙ four object server (level ∷ []) V F in
    let h1 = past_name p bytes start object (server ++ (level ∷ (V ++ F))) is_object h0 in
    let h2 = moved bytes (level ∷ (V ++ F)) (start + p.digits + p.digits) at (omega arith)
    (past_name p bytes (start + p.digits) server (level ∷ (V ++ F)) is_server h1) in
    let h3 = past_byte bytes at level (V ++ F) h2 in
    let h4 = moved bytes F (at + 1 + 4) (at + 5) (omega arith) (past_number bytes (at + 1) 4 version F h3) in
    let e0 = name_is (λ at. record { at = at }) p bytes start object (server ++ (level ∷ (V ++ F))) is_object h0 in
    let e1 = name_is (λ at. record { at = at }) p bytes (start + p.digits) server (level ∷ (V ++ F)) is_server h1 in
    let e2 = level_is p at bytes level (byte_is bytes at level (V ++ F) h2) is_level in
    let e3 = number_is bytes (at + 1) 4 version F fits h3 in
    let e4 = flag_is (at + 5) bytes on (byte_is bytes (at + 5) (flag on) [] h4) in
    let whole : Result Body Broken = Ok (Lay object server level version on) in
    bind_is (name_at p start bytes) (λ object. name_at p (start + p.digits) bytes >>= λ server. level_at p at bytes >>=
    λ level. flag_at (at + 5) bytes >>= λ on. Ok (Lay object server level (number_at 4 (at + 1) bytes) on)) object whole e0
    (bind_is (name_at p (start + p.digits) bytes) (λ server. level_at p at bytes >>= λ level. flag_at (at + 5) bytes >>=
    λ on. Ok (Lay object server level (number_at 4 (at + 1) bytes) on)) server whole e1
    (bind_is (level_at p at bytes) (λ level. flag_at (at + 5) bytes >>= λ on. Ok (Lay object server level (number_at 4 (at + 1) bytes) on))
    level whole e2
    (bind_is (flag_at (at + 5) bytes) (λ on. Ok (Lay object server level (number_at 4 (at + 1) bytes) on)) on whole e4
    (ap (λ v. Ok (Lay object server level v on)) e3))))

pub lay_taken : (p : SettingsValue) (start : ℕ) (bytes : List ℕ) (body : Body) → All (λ b. b < 256) bytes
    → length bytes ≡ start + 2 * p.digits + 6 → lay_at p start bytes ≡ Ok body
    → Takes p kinds.Lay start bytes body
unfolding lay_at
lay_taken p start bytes body all len e =
    let at = start + 2 * p.digits in
    let version = number_at 4 (at + 1) bytes in
    let a = bind_ok (name_at p start bytes) (λ object. name_at p (start + p.digits) bytes >>= λ server. level_at p at bytes >>=
    λ level. flag_at (at + 5) bytes >>= λ on. Ok (Lay object server level version on)) body e in
    let b = bind_ok (name_at p (start + p.digits) bytes)
    (λ server. level_at p at bytes >>= λ level. flag_at (at + 5) bytes >>= λ on. Ok (Lay a.0 server level version on)) body a.2 in
    let c = bind_ok (level_at p at bytes) (λ level. flag_at (at + 5) bytes >>= λ on. Ok (Lay a.0 b.0 level version on)) body b.2 in
    let d = bind_ok (flag_at (at + 5) bytes) (λ on. Ok (Lay a.0 b.0 c.0 version on)) body c.2 in
    let object = name_taken (λ at. record { at = at }) p bytes start a.0 (omega arith) a.1 in
    let server = name_taken (λ at. record { at = at }) p bytes (start + p.digits) b.0 (omega arith) b.1 in
    let level = level_taken p at bytes c.0 c.1 in
    let on = flag_taken (at + 5) bytes d.0 d.1 in
    let V = big_bytes 4 version in
    let F = flag d.0 ∷ [] in
    let t4 : drop (at + 5) bytes ≡ F =
    byte_taken bytes (at + 5) (omega arith) ∙ ap (λ x. x ∷ drop (at + 5 + 1) bytes) on
    ∙ ap (λ (xs : List ℕ). flag d.0 ∷ xs) (nothing bytes (at + 5 + 1) (omega arith)) in
    let t3 : drop (at + 1) bytes ≡ V ++ F = number_taken bytes (at + 1) 4 all (omega arith)
    ∙ ap (λ (xs : List ℕ). V ++ xs) (same_place bytes (at + 1 + 4) (at + 5) (omega arith) ∙ t4) in
    let t2 : drop at bytes ≡ c.0 ∷ (V ++ F) = byte_taken bytes at (omega arith) ∙ ap (λ x. x ∷ drop (at + 1) bytes) level.0
    ∙ ap (λ (xs : List ℕ). c.0 ∷ xs) t3 in
    let t1 : drop (start + p.digits) bytes ≡ b.0 ++ (c.0 ∷ (V ++ F)) =
    server.0 ∙ ap (λ (xs : List ℕ). b.0 ++ xs) (same_place bytes (start + p.digits + p.digits) at (omega arith) ∙ t2) in
    let t0 : drop start bytes ≡ body_bytes (Lay a.0 b.0 c.0 version d.0) = object.0 ∙ ap (λ (xs : List ℕ). a.0 ++ xs) t1
    ∙ sym (four a.0 b.0 (c.0 ∷ []) V F) in
    subst (Takes p kinds.Lay start bytes) (ok_is (Lay a.0 b.0 c.0 version d.0) body d.2)
    (record { parts = t0; same = refl; rules = (object.1, server.1, level.1); typed = number_below bytes (at + 1) 4 all })

-- ---- Find

pub find_again : (p : SettingsValue) (start : ℕ) (bytes : List ℕ) (ticket : ℕ) (object asker : List ℕ) (level : ℕ) → IsName p object
    → IsName p asker → IsLevel p level → ticket < 2 ^ 32
    → drop start bytes ≡ body_bytes (Find ticket object asker level) → find_at p start bytes ≡ Ok (Find ticket object asker level)
unfolding find_at
find_again p start bytes ticket object asker level is_object is_asker is_level fits here =
    let first = start + 4 in
    let at = start + 4 + 2 * p.digits in
    let h0 = here ∙ three (big_bytes 4 ticket) object asker (level ∷ []) in
    let h1 = past_number bytes start 4 ticket (object ++ (asker ++ level ∷ [])) h0 in
    let h2 = past_name p bytes first object (asker ++ level ∷ []) is_object h1 in
    let h3 = moved bytes (level ∷ []) (first + p.digits + p.digits) at (omega arith)
    (past_name p bytes (first + p.digits) asker (level ∷ []) is_asker h2) in
    let e0 = number_is bytes start 4 ticket (object ++ (asker ++ level ∷ [])) fits h0 in
    let e1 = name_is (λ at. record { at = at }) p bytes first object (asker ++ level ∷ []) is_object h1 in
    let e2 = name_is (λ at. record { at = at }) p bytes (first + p.digits) asker (level ∷ []) is_asker h2 in
    let e3 = level_is p at bytes level (byte_is bytes at level [] h3) is_level in
    let whole : Result Body Broken = Ok (Find ticket object asker level) in
    bind_is (name_at p first bytes) (λ object. name_at p (first + p.digits) bytes >>= λ asker. level_at p at bytes >>=
    λ level. Ok (Find (number_at 4 start bytes) object asker level)) object whole e1
    (bind_is (name_at p (first + p.digits) bytes) (λ asker. level_at p at bytes >>=
    λ level. Ok (Find (number_at 4 start bytes) object asker level)) asker whole e2
    (bind_is (level_at p at bytes) (λ level. Ok (Find (number_at 4 start bytes) object asker level)) level whole e3
    (ap (λ t. Ok (Find t object asker level)) e0)))

pub find_taken : (p : SettingsValue) (start : ℕ) (bytes : List ℕ) (body : Body) → All (λ b. b < 256) bytes
    → length bytes ≡ start + 2 * p.digits + 5 → find_at p start bytes ≡ Ok body
    → Takes p kinds.Find start bytes body
unfolding find_at
find_taken p start bytes body all len e =
    let first = start + 4 in
    let at = start + 4 + 2 * p.digits in
    let ticket = number_at 4 start bytes in
    let a = bind_ok (name_at p first bytes) (λ object. name_at p (first + p.digits) bytes >>= λ asker. level_at p at bytes >>=
    λ level. Ok (Find ticket object asker level)) body e in
    let b = bind_ok (name_at p (first + p.digits) bytes)
    (λ asker. level_at p at bytes >>= λ level. Ok (Find ticket a.0 asker level)) body a.2 in
    let c = bind_ok (level_at p at bytes) (λ level. Ok (Find ticket a.0 b.0 level)) body b.2 in
    let object = name_taken (λ at. record { at = at }) p bytes first a.0 (omega arith) a.1 in
    let asker = name_taken (λ at. record { at = at }) p bytes (first + p.digits) b.0 (omega arith) b.1 in
    let level = level_taken p at bytes c.0 c.1 in
    let t3 : drop at bytes ≡ c.0 ∷ [] = byte_taken bytes at (omega arith) ∙ ap (λ x. x ∷ drop (at + 1) bytes) level.0
    ∙ ap (λ (xs : List ℕ). c.0 ∷ xs) (nothing bytes (at + 1) (omega arith)) in
    let t2 : drop (first + p.digits) bytes ≡ b.0 ++ c.0 ∷ [] = asker.0
    ∙ ap (λ (xs : List ℕ). b.0 ++ xs) (same_place bytes (first + p.digits + p.digits) at (omega arith) ∙ t3) in
    let t1 : drop first bytes ≡ a.0 ++ (b.0 ++ c.0 ∷ []) = object.0 ∙ ap (λ (xs : List ℕ). a.0 ++ xs) t2 in
    let t0 : drop start bytes ≡ body_bytes (Find ticket a.0 b.0 c.0) =
    number_taken bytes start 4 all (omega arith) ∙ ap (λ (xs : List ℕ). big_bytes 4 ticket ++ xs) t1
    ∙ sym (three (big_bytes 4 ticket) a.0 b.0 (c.0 ∷ [])) in
    subst (Takes p kinds.Find start bytes) (ok_is (Find ticket a.0 b.0 c.0) body c.2)
    (record { parts = t0; same = refl; rules = (object.1, asker.1, level.1); typed = number_below bytes start 4 all })

-- ---- Cast

word_is : (place : ℕ) (bytes word : List ℕ) → IsTrue (list_all is_word_byte word) → drop place bytes ≡ word → word_at place bytes ≡ Ok word
word_is place bytes word letters here =
    ap (λ (xs : List ℕ). field (list_all is_word_byte xs) place xs) here ∙ field_is (list_all is_word_byte word) place word letters

word_taken : (place : ℕ) (bytes word : List ℕ) → word_at place bytes ≡ Ok word → (drop place bytes ≡ word)
    × IsTrue (list_all is_word_byte word)
word_taken place bytes word e =
    let is = field_ok (list_all is_word_byte (drop place bytes)) place (drop place bytes) word e in
    (is.1, subst (λ (xs : List ℕ). IsTrue (list_all is_word_byte xs)) is.1 is.0)

pub cast_again : (p : SettingsValue) (start : ℕ) (bytes : List ℕ) (cast level session depth : ℕ) (word : List ℕ) → IsLevel p level
    → 1 ≤ session → IsWord word → cast < 2 ^ 32 → session < 2 ^ 32 → depth < 2 ^ 16
    → drop start bytes ≡ body_bytes (Cast cast level session depth word) → cast_at p start bytes ≡ Ok (Cast cast level session depth word)
unfolding cast_at
cast_again p start bytes cast level session depth word is_level least is_word fits0 fits1 fits2 here =
    let C = big_bytes 4 cast in
    let S = big_bytes 4 session in
    let D = big_bytes 2 depth in
    let h0 = here ∙ four C (level ∷ []) S D word in
    let h1 = past_number bytes start 4 cast (level ∷ (S ++ (D ++ word))) h0 in
    let h2 = moved bytes (S ++ (D ++ word)) (start + 4 + 1) (start + 5) (omega arith)
    (past_byte bytes (start + 4) level (S ++ (D ++ word)) h1) in
    let h3 = moved bytes (D ++ word) (start + 5 + 4) (start + 9) (omega arith) (past_number bytes (start + 5) 4 session (D ++ word) h2) in
    let h4 = moved bytes word (start + 9 + 2) (start + 11) (omega arith) (past_number bytes (start + 9) 2 depth word h3) in
    let e0 = number_is bytes start 4 cast (level ∷ (S ++ (D ++ word))) fits0 h0 in
    let e1 = level_is p (start + 4) bytes level (byte_is bytes (start + 4) level (S ++ (D ++ word)) h1) is_level in
    let e2 = session_is (start + 5) bytes session (number_is bytes (start + 5) 4 session (D ++ word) fits1 h2) least in
    let e3 = number_is bytes (start + 9) 2 depth word fits2 h3 in
    let e4 = word_is (start + 11) bytes word (word_passes word is_word) h4 in
    let whole : Result Body Broken = Ok (Cast cast level session depth word) in
    let made : ℕ → ℕ → List ℕ → Result Body Broken = λ level session word. Ok
    (Cast (number_at 4 start bytes) level session (number_at 2 (start + 9) bytes) word) in
    bind_is (level_at p (start + 4) bytes) (λ level. session_at (start + 5) bytes >>= λ session. word_at (start + 11) bytes >>=
    λ word. made level session word) level whole e1
    (bind_is (session_at (start + 5) bytes) (λ session. word_at (start + 11) bytes >>= λ word. made level session word) session whole e2
    (bind_is (word_at (start + 11) bytes) (λ word. made level session word) word whole e4
    (ap (λ c. Ok (Cast c level session (number_at 2 (start + 9) bytes) word)) e0 ∙ ap (λ d. Ok (Cast cast level session d word)) e3)))

pub cast_taken : (p : SettingsValue) (start : ℕ) (bytes : List ℕ) (body : Body) → All (λ b. b < 256) bytes → start + 12 ≤ length bytes
    → length bytes ≤ start + 43 → cast_at p start bytes ≡ Ok body
    → Takes p kinds.Cast start bytes body
unfolding cast_at
cast_taken p start bytes body all least most e =
    let cast = number_at 4 start bytes in
    let depth = number_at 2 (start + 9) bytes in
    let a = bind_ok (level_at p (start + 4) bytes) (λ level. session_at (start + 5) bytes >>= λ session. word_at (start + 11) bytes >>=
    λ word. Ok (Cast cast level session depth word)) body e in
    let b = bind_ok (session_at (start + 5) bytes) (λ session. word_at (start + 11) bytes >>= λ word. Ok (Cast cast a.0 session depth word))
    body a.2 in
    let c = bind_ok (word_at (start + 11) bytes) (λ word. Ok (Cast cast a.0 b.0 depth word)) body b.2 in
    let level = level_taken p (start + 4) bytes a.0 a.1 in
    let session = session_taken (start + 5) bytes b.0 b.1 in
    let word = word_taken (start + 11) bytes c.0 c.1 in
    let S = big_bytes 4 b.0 in
    let D = big_bytes 2 depth in
    let t3 : drop (start + 9) bytes ≡ D ++ c.0 = number_taken bytes (start + 9) 2 all (omega arith)
    ∙ ap (λ (xs : List ℕ). D ++ xs) (same_place bytes (start + 9 + 2) (start + 11) (omega arith) ∙ word.0) in
    let t2 : drop (start + 5) bytes ≡ S ++ (D ++ c.0) =
    number_taken bytes (start + 5) 4 all (omega arith) ∙ ap (λ x. big_bytes 4 x ++ drop (start + 5 + 4) bytes) session.0
    ∙ ap (λ (xs : List ℕ). S ++ xs) (same_place bytes (start + 5 + 4) (start + 9) (omega arith) ∙ t3) in
    let t1 : drop (start + 4) bytes ≡ a.0 ∷ (S ++ (D ++ c.0)) =
    byte_taken bytes (start + 4) (omega arith) ∙ ap (λ x. x ∷ drop (start + 4 + 1) bytes) level.0
    ∙ ap (λ (xs : List ℕ). a.0 ∷ xs) (same_place bytes (start + 4 + 1) (start + 5) (omega arith) ∙ t2) in
    let t0 : drop start bytes ≡ body_bytes (Cast cast a.0 b.0 depth c.0) =
    number_taken bytes start 4 all (omega arith) ∙ ap (λ (xs : List ℕ). big_bytes 4 cast ++ xs) t1
    ∙ sym (four (big_bytes 4 cast) (a.0 ∷ []) S D c.0) in
    let many : length c.0 ≡ length bytes - (start + 11) = sym (ap (λ (xs : List ℕ). length xs) word.0) ∙ length-drop (start + 11) bytes in
    subst (Takes p kinds.Cast start bytes) (ok_is (Cast cast a.0 b.0 depth c.0) body c.2) (record {
      parts = t0;
      same = refl;
      rules = (level.1, session.1, word_where_passes c.0 (omega (arith, many)) (omega (arith, many)) word.1);
      typed = (
        number_below bytes start 4 all,
        subst (λ x. x < 2 ^ 32) session.0 (number_below bytes (start + 5) 4 all),
        number_below bytes (start + 9) 2 all,
      );
    })
