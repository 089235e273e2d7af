-- single fields, and what reading a body has taken
use Rattle.std.proofs.Common.{◌≡◌, ◌≤◌, ◌++◌, ℕ, Bool, true, List, [], drop, slice_index, nat_le, Ok, ap, sym, subst, ◌∙◌, append_assoc}
use Rattle.std.proofs.lemmas.Bool.{le-leb, leb-true, and_from, and_parts}
use Rattle.std.proofs.lemmas.List.{append-nil}
use Rattle.tap_name.specs.Settings.{SettingsValue}
use Rattle.tap_wire.specs.declared.frame.Body.{Body}
use Rattle.tap_wire.specs.declared.kind.Kind.{Kind}
use Rattle.tap_wire.specs.Kind.{kind_of}
use Rattle.tap_wire.specs.Fields.{field, number_at, session_at, level_at, is_level}
use Rattle.tap_wire.specs.Spelling.{body_bytes, IsBody, IsTyped, IsLevel}
use Rattle.tap_wire.proofs.ReadingSteps.{field_ok, field_is}

-- what reading a body of a kind has taken: all bytes from the start on
pub record Takes (p : SettingsValue) (kind : Kind) (start : ℕ) (bytes : List ℕ) (body : Body) : Type 0 where
  pub parts : drop start bytes ≡ body_bytes body
  pub same : kind_of body ≡ kind
  pub rules : IsBody p body
  pub typed : IsTyped body

-- a value that keeps its rule is read
read_is : (rule : ℕ → Bool) (place x y : ℕ) → x ≡ y → rule y ≡ true → field (rule x) place x ≡ Ok y
read_is rule place x y e holds = ap (λ z. field (rule z) place z) e ∙ field_is (rule y) place y holds

read_taken : (rule : ℕ → Bool) (place x y : ℕ) → field (rule x) place x ≡ Ok y → (x ≡ y) × (rule y ≡ true)
read_taken rule place x y e = let is = field_ok (rule x) place x y e in (is.1, subst (λ z. rule z ≡ true) is.1 is.0)

pub session_is : (place : ℕ) (bytes : List ℕ) (session : ℕ) → number_at 4 place bytes ≡ session → 1 ≤ session
    → session_at place bytes ≡ Ok session
session_is place bytes session e least = read_is (λ x. nat_le 1 x) place (number_at 4 place bytes) session e (le-leb 1 session least)

pub session_taken : (place : ℕ) (bytes : List ℕ) (session : ℕ) → session_at place bytes ≡ Ok session → (number_at 4 place bytes ≡ session)
    × (1 ≤ session)
session_taken place bytes session e =
    let is = read_taken (λ x. nat_le 1 x) place (number_at 4 place bytes) session e in (is.0, leb-true 1 session is.1)

level_holds : (p : SettingsValue) (level : ℕ) → IsLevel p level → is_level p level ≡ true
level_holds p level h = and_from (nat_le 1 level) (nat_le level p.digits) (le-leb 1 level h.0) (le-leb level p.digits h.1)

pub level_is : (p : SettingsValue) (place : ℕ) (bytes : List ℕ) (level : ℕ) → slice_index bytes place ≡ level → IsLevel p level
    → level_at p place bytes ≡ Ok level
level_is p place bytes level e h = read_is (is_level p) place (slice_index bytes place) level e (level_holds p level h)

pub level_taken : (p : SettingsValue) (place : ℕ) (bytes : List ℕ) (level : ℕ) → level_at p place bytes ≡ Ok level
    → (slice_index bytes place ≡ level) × IsLevel p level
level_taken p place bytes level e =
    let is = read_taken (is_level p) place (slice_index bytes place) level e in
    let parts = and_parts (nat_le 1 level) (nat_le level p.digits) is.1 in
    (is.0, (leb-true 1 level parts.0, leb-true level p.digits parts.1))

-- nothing follows the last piece
pub ends : (bytes piece : List ℕ) (place : ℕ) → drop place bytes ≡ piece → drop place bytes ≡ piece ++ []
ends bytes piece place here = here ∙ sym (append-nil piece)

pub two : (a b c : List ℕ) → a ++ b ++ c ≡ a ++ (b ++ c)
two a b c = append_assoc a b c

pub three : (a b c d : List ℕ) → a ++ b ++ c ++ d ≡ a ++ (b ++ (c ++ d))
three a b c d = append_assoc (a ++ b) c d ∙ append_assoc a b (c ++ d)

pub four : (a b c d e : List ℕ) → a ++ b ++ c ++ d ++ e ≡ a ++ (b ++ (c ++ (d ++ e)))
four a b c d e = append_assoc (a ++ b ++ c) d e ∙ three a b c (d ++ e)
