-- The bytes of a frame are below 256, and those with a head that is read are few.
use Rattle.std.proofs.Common.{◌≡◌, inl, inr, ℕ, zero, suc, ◌+◌, ◌*◌, ◌<◌, ◌≤◌, Bool, true, false, List, [], ◌∷◌, ◌++◌, length, drop, slice_get, slice_index, All, Option, None, Some, refl, subst, arith}
use Rattle.std.specs.Prelude.{IfSome, IsOk, IsTrue, Result, Ok, Err, nat_le, if◌then◌else◌, ◌&&◌}
use Rattle.std.specs.Int.{byte_at, bytes_high_first}
use Rattle.std.specs.List.{flat_map}
use Rattle.std.proofs.Math.Nat.{mod-lt}
use Rattle.std.proofs.lemmas.Bool.{cases_lt, false≢true, lt-leb, and_right, or_from}
use Rattle.std.proofs.lemmas.List.Elements.{All-append, All-cons, All-head, All-nil, All-tail, All-weaker, All-drop}
use Rattle.std.proofs.lemmas.List.{get_or_past}
use Rattle.byteorder.specs.Endian.{big_bytes}
use Rattle.byteorder.specs.Numbers.{big_from-lt}
use Rattle.tap_name.specs.Name.{IsName}
use Rattle.tap_name.specs.Settings.{AreWithinLimits, SettingsValue}
use Rattle.tap_name.specs.Word.{is_word_byte}
use Rattle.tap_name.specs.declared.slot.Slot.{Slot}
use Rattle.tap_name.specs.declared.slot.Offered.{Offered}
use Rattle.tap_wire.specs.declared.frame.Frame.{Frame}
use Rattle.tap_wire.specs.declared.frame.Body.{Body}
use Rattle.tap_wire.specs.declared.frame.Body.TheVariants.{Seek, Tell, Hello, Heard, Ack, Done, Release, Link, Lay, Find, Answer, Leave, Left, Gone, Forget, Cast, CastAck}
use Rattle.tap_wire.specs.Kind.{code_of, kind_of}
use Rattle.tap_wire.specs.Layout.{is_long, body_start}
use Rattle.tap_wire.specs.Spelling.{IsBody, IsFrame, body_bytes, flag, head_bytes, link_bytes, optional_bytes, slot_bytes, spelling}
use Rattle.tap_wire.specs.declared.frame.Head.{Head}
use Rattle.tap_wire.specs.declared.fault.HeadFault.{HeadFault}
use Rattle.tap_wire.specs.Fields.{number_at}
use Rattle.tap_wire.specs.Reading.{head_of, opening_of}
use Rattle.tap_wire.proofs.Openings.{opening_parts}
use Rattle.tap_wire.proofs.ReadingSteps.{bind_ok}
use Rattle.tap_line.specs.Line.{AreBytes}

-- what holds of all holds of the one at a place
pub All-at : {X : Type 0} (P : X → Type 0) (xs : List X) (i : ℕ) → All P xs → IfSome (slice_get xs i) P
All-at P [] i all = tt
All-at P (x ∷ xs) zero all = All-head P x xs all
All-at P (x ∷ xs) (suc i) all = All-at P xs i (All-tail P x xs all)

-- ---- bytes

abbrev IsByte : ℕ → Type 0
IsByte b = b < 256

-- bytes are below 256 at each place, past the end too
pub bytes_small : (bytes : List ℕ) → AreBytes bytes → (i : ℕ) → slice_index bytes i < 256
bytes_small bytes all i =
    elim (cases_lt i (length bytes)) [
      | inl within ↦ all i 0 within
      | inr past ↦ let none = get_or_past bytes i 0 past in omega (arith, none)
    ]

-- the length that a head says is below 65536
pub length_small : (bytes : List ℕ) → AreBytes bytes → number_at 2 2 bytes < 65536
length_small bytes small = big_from-lt 0 2 (drop 2 bytes) (bytes_small (drop 2 bytes) (All-drop IsByte 2 bytes small))

one_byte : (b : ℕ) → b < 256 → AreBytes (b ∷ [])
one_byte b small = All-cons IsByte b [] small (All-nil IsByte)

more_bytes : (b : ℕ) (bytes : List ℕ) → b < 256 → AreBytes bytes → AreBytes (b ∷ bytes)
more_bytes b bytes small all = All-cons IsByte b bytes small all

both : (xs ys : List ℕ) → AreBytes xs → AreBytes ys → AreBytes (xs ++ ys)
both xs ys one other = All-append IsByte xs ys one other

byte_small : (k n : ℕ) → byte_at k n < 256
byte_small zero n = mod-lt n (omega arith)
byte_small (suc k) n = mod-lt _ (omega arith)

number_bytes : (k n : ℕ) → AreBytes (big_bytes k n)
number_bytes zero n = All-nil IsByte
number_bytes (suc k) n = more_bytes _ (bytes_high_first k n) (byte_small k n) (number_bytes k n)

flag_small : (b : Bool) → flag b < 256
flag_small true = omega arith
flag_small false = omega arith

word_byte_small : (b : ℕ) → IsTrue (is_word_byte b) → b < 256
word_byte_small b is = elim (cases_lt b 256) [
  | inl small ↦ small
  | inr large ↦
      let none : is_word_byte b ≡ false =
      or_from (nat_le 97 b && nat_le b 122) (nat_le 48 b && nat_le b 57)
      (and_right (nat_le 97 b) (nat_le b 122) (lt-leb b 122 (omega (arith, large))))
      (and_right (nat_le 48 b) (nat_le b 57) (lt-leb b 57 (omega (arith, large)))) in
      let wrong : IsTrue false = subst IsTrue none is in
      cc
]

module _ (p : SettingsValue) (limits : AreWithinLimits p) where
  name_bytes : (name : List ℕ) → IsName p name → AreBytes name
  name_bytes name is = λ k d within. let below = is.below k d within in let few = limits.base_to in omega (arith, below, few)

  optional_small : (name : Option (List ℕ)) → IfSome name (IsName p) → AreBytes (optional_bytes name)
  optional_small None is = one_byte 0 (omega arith)
  optional_small (Some name) is = more_bytes 1 name (omega arith) (name_bytes name is)

  slots_small : (prefix : ℕ) (watch : List Slot) → prefix < p.digits → All (λ slot. slot.level ≤ prefix) watch
      → All (λ slot. slot.digit < p.base) watch → AreBytes (flat_map slot_bytes watch)
  slots_small prefix [] below levels digits = All-nil IsByte
  slots_small prefix (slot ∷ watch) below levels digits =
      let level = All-head (λ (s : Slot). s.level ≤ prefix) slot watch levels in
      let digit = All-head (λ (s : Slot). s.digit < p.base) slot watch digits in
      let few = limits.digits_to in
      let base = limits.base_to in
      more_bytes slot.level (slot.digit ∷ flat_map slot_bytes watch) (omega (arith, level, below, few))
      (more_bytes slot.digit (flat_map slot_bytes watch) (omega (arith, digit, base))
      (slots_small prefix watch below (All-tail (λ (s : Slot). s.level ≤ prefix) slot watch levels)
      (All-tail (λ (s : Slot). s.digit < p.base) slot watch digits)))

  links_small : (links : List Offered) → All (λ link. IsName p link.name) links → AreBytes (flat_map link_bytes links)
  links_small [] names = All-nil IsByte
  links_small (link ∷ links) names =
      let Named : Offered → Type 0 = λ l. IsName p l.name in
      both (link_bytes link) (flat_map link_bytes links)
      (both link.name (flag link.settled ∷ []) (name_bytes link.name (All-head Named link links names))
      (one_byte (flag link.settled) (flag_small link.settled)))
      (links_small links (All-tail Named link links names))

  level_small : (level : ℕ) → level ≤ p.digits → level < 256
  level_small level most = let few = limits.digits_to in omega (arith, most, few)

  body_small : (body : Body) → IsBody p body → AreBytes (body_bytes body)
  body_small (Seek joiner) is = name_bytes joiner is
  body_small (Tell joiner prefix level session depth watch) is =
      let below = is.prefix_below in
      let w = flat_map slot_bytes watch in
      let s = big_bytes 4 session in
      let d = big_bytes 2 depth in
      let places = prefix ∷ level ∷ [] in
      both (joiner ++ places ++ s ++ d) w
      (both (joiner ++ places ++ s) d
      (both (joiner ++ places) s
      (both joiner places (name_bytes joiner is.joiner_is)
      (more_bytes prefix (level ∷ []) (level_small prefix (omega (arith, below))) (one_byte level (level_small level is.level_most))))
      (number_bytes 4 session)) (number_bytes 2 depth)) (slots_small prefix watch below is.slots.levels is.slots.digits)
  body_small (Hello session core links) is =
      let l = flat_map link_bytes links in
      both (big_bytes 4 session) (flag core ∷ l) (number_bytes 4 session)
      (more_bytes (flag core) l (flag_small core) (links_small links is.1.names))
  body_small (Heard session) is = number_bytes 4 session
  body_small (Ack session) is = number_bytes 4 session
  body_small Done is = All-nil IsByte
  body_small Release is = All-nil IsByte
  body_small (Link version on) is =
      both (big_bytes 4 version) (flag on ∷ []) (number_bytes 4 version) (one_byte (flag on) (flag_small on))
  body_small (Lay object server level version on) is =
      let v = big_bytes 4 version in
      both (object ++ server ++ level ∷ [] ++ v) (flag on ∷ [])
      (both (object ++ server ++ level ∷ []) v
      (both (object ++ server) (level ∷ [])
      (both object server (name_bytes object is.0) (name_bytes server is.1)) (one_byte level (level_small level is.2.1)))
      (number_bytes 4 version)) (one_byte (flag on) (flag_small on))
  body_small (Find ticket object asker level) is =
      let t = big_bytes 4 ticket in
      both (t ++ object ++ asker) (level ∷ [])
      (both (t ++ object) asker
      (both t object (number_bytes 4 ticket) (name_bytes object is.0)) (name_bytes asker is.1)) (one_byte level (level_small level is.2.1))
  body_small (Answer ticket server) is =
      both (big_bytes 4 ticket) (optional_bytes server) (number_bytes 4 ticket) (optional_small server is)
  body_small (Leave replacement) is = optional_small replacement is
  body_small Left is = All-nil IsByte
  body_small Gone is = All-nil IsByte
  body_small Forget is = All-nil IsByte
  body_small (Cast cast level session depth word) is =
      let d = big_bytes 2 depth ++ word in
      let n = big_bytes 4 session ++ d in
      both (big_bytes 4 cast) (level ∷ n) (number_bytes 4 cast)
      (more_bytes level n (level_small level is.0.1)
      (both (big_bytes 4 session) d (number_bytes 4 session)
      (both (big_bytes 2 depth) word (number_bytes 2 depth)
      (All-weaker (λ b. IsTrue (is_word_byte b)) IsByte word_byte_small word is.2.bytes))))
  body_small (CastAck session) is = number_bytes 4 session

  code_small : (body : Body) → code_of (kind_of body) < 256
  code_small (Seek joiner) = omega arith
  code_small (Tell joiner prefix level session depth watch) = omega arith
  code_small (Hello session core links) = omega arith
  code_small (Heard session) = omega arith
  code_small (Ack session) = omega arith
  code_small Done = omega arith
  code_small Release = omega arith
  code_small (Link version on) = omega arith
  code_small (Lay object server level version on) = omega arith
  code_small (Find ticket object asker level) = omega arith
  code_small (Answer ticket server) = omega arith
  code_small (Leave replacement) = omega arith
  code_small Left = omega arith
  code_small Gone = omega arith
  code_small Forget = omega arith
  code_small (Cast cast level session depth word) = omega arith
  code_small (CastAck session) = omega arith

  head_small : (code len : ℕ) → code < 256 → AreBytes (head_bytes p code len)
  head_small code len small = by_version (is_long p)
    where
      by_version : (long : Bool)
          → AreBytes ((if long then 2 else 1) ∷ code ∷ [] ++ big_bytes 2 len ++ (if long then p.digits ∷ [] else []))
      by_version true =
          let c = p.digits ∷ [] in
          let n = big_bytes 2 len ++ c in
          more_bytes 2 (code ∷ n) (omega arith)
          (more_bytes code n small (both (big_bytes 2 len) c (number_bytes 2 len) (one_byte p.digits (level_small p.digits (omega arith)))))
      by_version false =
          let n = big_bytes 2 len ++ [] in
          more_bytes 1 (code ∷ n) (omega arith)
          (more_bytes code n small (both (big_bytes 2 len) [] (number_bytes 2 len) (All-nil IsByte)))

  pub spelling_small : (frame : Frame) → IsFrame p frame → AreBytes (spelling p frame)
  spelling_small frame is =
      let code = code_of (kind_of frame.body) in
      let len = length (body_bytes frame.body) in
      let b = body_bytes frame.body in
      both (head_bytes p code len ++ frame.from ++ frame.to) b
      (both (head_bytes p code len ++ frame.from) frame.to
      (both (head_bytes p code len) frame.from (head_small code len (code_small frame.body)) (name_bytes frame.from is.sender))
      (name_bytes frame.to is.receiver)) (body_small frame.body is.body)

  -- a head has at most 85 bytes
  pub start_few : body_start p ≤ 85
  start_few = by_version (is_long p)
    where
      by_version : (long : Bool) → (if long then 5 else 4) + 2 * p.digits ≤ 85
      by_version true = let few = limits.digits_to in omega (arith, few)
      by_version false = let few = limits.digits_to in omega (arith, few)

  -- a frame whose head is read has few bytes
  pub sent_short : (bytes : List ℕ) → AreBytes bytes → IsOk (head_of p bytes) → length bytes < 70000
  sent_short bytes small read = by_head (head_of p bytes) refl read
    where
      by_head : (r : Result Head HeadFault) → head_of p bytes ≡ r → IsOk r → length bytes < 70000
      by_head (Ok head) is read =
          let o = bind_ok (opening_of p bytes) _ head is in
          let whole = (opening_parts p bytes o.0 o.1).whole in
          let said = length_small bytes small in
          let start = start_few in
          omega (arith, whole, said, start)
      by_head (Err e) is read = absurd (false≢true read)
