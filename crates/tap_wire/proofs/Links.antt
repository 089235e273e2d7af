-- the links of a Hello, one after the other, and flags
use Rattle.std.proofs.Common.{◌≡◌, ◌≢◌, ◌<◌, ◌≤◌, ◌++◌, ◌+◌, ◌*◌, ℕ, zero, suc, min, Bool, true, false, nat_le, nat_lt, eqb, List, [], ◌∷◌, length, drop, get_or, slice_index, All, Option, None, Some, Result, Ok, arith, refl, ap, ap₂, sym, subst, ◌∙◌, append_assoc}
use Rattle.std.specs.List.{flat_map, AllPairs}
use Rattle.std.specs.Ordering.{nat_cmp, is_lt}
use Rattle.std.specs.declared.cmp.Ordering.{Ordering}
use Rattle.std.specs.declared.cmp.Ordering.TheVariants.{Less, Equal, Greater}
use Rattle.std.specs.Cmp.Lexicographic.{slice_cmp, nat_list_cmp_total}
use Rattle.std.proofs.lemmas.Bool.{eqb-true, eqb-false, leb-true}
use Rattle.std.proofs.lemmas.Bool.Decides.{nat_tests}
use Rattle.std.proofs.lemmas.List.Concat.{flat_map-cons}
use Rattle.std.proofs.lemmas.List.Elements.{All-cons, All-nil}
use Rattle.std.proofs.lemmas.List.Kept.{AllPairs-cons}
use Rattle.tap_name.specs.Settings.{SettingsValue}
use Rattle.tap_name.specs.Name.{IsName}
use Rattle.tap_name.specs.declared.slot.Offered.{Offered}
use Rattle.tap_wire.specs.declared.fault.Broken.{Broken}
use Rattle.tap_wire.specs.Fields.{◌>>=◌, field, flag_at, name_at, is_next_name, hello_link_at, hello_links_at}
use Rattle.tap_wire.specs.Spelling.{flag, link_bytes}
use Rattle.tap_wire.proofs.ReadingSteps.{bind_ok, bind_is, field_ok, field_is, ok_is}
use Rattle.tap_wire.proofs.Pieces.{byte_is, past_byte, byte_taken, name_is, past_name, name_taken}

-- ---- flags

pub flag_is : (place : ℕ) (bytes : List ℕ) (on : Bool) → slice_index bytes place ≡ flag on → flag_at place bytes ≡ Ok on
flag_is place bytes true e = ap (λ (x : ℕ). field (nat_le x 1) place (eqb x 1)) e
flag_is place bytes false e = ap (λ (x : ℕ). field (nat_le x 1) place (eqb x 1)) e

which_flag : (x : ℕ) (on : Bool) → x ≤ 1 → eqb x 1 ≡ on → x ≡ flag on
which_flag x true le e = eqb-true x 1 e
which_flag x false le e = omega (arith, eqb-false x 1 e)

pub flag_taken : (place : ℕ) (bytes : List ℕ) (on : Bool) → flag_at place bytes ≡ Ok on → slice_index bytes place ≡ flag on
flag_taken place bytes on e =
    let x = slice_index bytes place in
    let is = field_ok (nat_le x 1) place (eqb x 1) on e in
    which_flag x on (leb-true x 1 is.0) is.1

-- ---- names in their order

abbrev pub name_cmp : List ℕ → List ℕ → Ordering
name_cmp a b = slice_cmp nat_cmp a b

-- two lists compare as their rests do, where the elements before these are equal
same_first : (x y : ℕ) (xs ys : List ℕ) → x ≡ y → name_cmp (x ∷ xs) (y ∷ ys) ≡ name_cmp xs ys
same_first x y xs ys e = grind (arith, nat_tests)

pub same_there : (xs ys : List ℕ) (i : ℕ) → i < length xs → i < length ys → slice_index xs i ≡ slice_index ys i
    → name_cmp (drop (i + 1) xs) (drop (i + 1) ys) ≡ name_cmp (drop i xs) (drop i ys)
same_there xs ys i h g e =
    sym (ap₂ name_cmp (byte_taken xs i h) (byte_taken ys i g)
    ∙ same_first (slice_index xs i) (slice_index ys i) (drop (i + 1) xs) (drop (i + 1) ys) e)

-- they compare as the elements at a place do, if these differ and the rests from it on are compared
pub other_there : (xs ys : List ℕ) (i d : ℕ) → i < length xs → i < length ys → (get_or xs i d ≢ get_or ys i d)
    → is_lt (name_cmp (drop i xs) (drop i ys)) ≡ nat_lt (get_or xs i d) (get_or ys i d)
other_there [] ys i d h g n = absurd (omega arith)
other_there (x ∷ xs) [] i d h g n = absurd (omega arith)
other_there (x ∷ xs) (y ∷ ys) zero d h g n = grind (arith, nat_tests)
other_there (x ∷ xs) (y ∷ ys) (suc i) d h g n = other_there xs ys i d (omega arith) (omega arith) n

-- they compare as their lengths do, past the end of one of them
pub past_one : (xs ys : List ℕ) (i : ℕ) → i ≡ min (length xs) (length ys)
    → is_lt (name_cmp (drop i xs) (drop i ys)) ≡ nat_lt (length xs) (length ys)
past_one [] [] i e = let none : i ≡ 0 = omega arith in rw none refl
past_one [] (y ∷ ys) i e = let none : i ≡ 0 = omega arith in rw none (grind (arith, nat_tests))
past_one (x ∷ xs) [] i e = let none : i ≡ 0 = omega arith in rw none (grind (arith, nat_tests))
past_one (x ∷ xs) (y ∷ ys) zero e = absurd (omega arith)
past_one (x ∷ xs) (y ∷ ys) (suc i) e = past_one xs ys i (omega arith) ∙ grind (arith, nat_tests)

less_from : (o : Ordering) → is_lt o ≡ true → o ≡ Less
less_from Less h = refl
less_from Equal h = absurd cc
less_from Greater h = absurd cc

-- each link has a name, which may follow the name before
abbrev pub Follow : SettingsValue → Option (List ℕ) → List Offered → Type 0
Follow p before [] = Unit {0}
Follow p before (l ∷ ls) = IsName p l.name × (is_next_name before l.name ≡ true) × Follow p (Some l.name) ls

-- ---- what is written is read

link_is : (p : SettingsValue) (before : Option (List ℕ)) (place : ℕ) (bytes rest : List ℕ) (l : Offered) → IsName p l.name
    → is_next_name before l.name ≡ true
    → drop place bytes ≡ l.name ++ (flag l.settled ∷ rest) → hello_link_at p before place bytes ≡ Ok l
link_is p before place bytes rest l is rises here =
    let after = past_name p bytes place l.name (flag l.settled ∷ rest) is here in
    let settled = flag_is (place + p.digits) bytes l.settled (byte_is bytes (place + p.digits) (flag l.settled) rest after) in
    let last : List ℕ → Bool → Result Offered Broken = λ name settled. Ok (record { name = name; settled = settled }) in
    bind_is (name_at p place bytes) (λ name. field (is_next_name before name) place name >>= λ name. flag_at (place + p.digits) bytes >>=
    λ settled. last name settled) l.name (Ok l)
    (name_is (λ at. record { at = at }) p bytes place l.name (flag l.settled ∷ rest) is here)
    (bind_is (field (is_next_name before l.name) place l.name)
    (λ name. flag_at (place + p.digits) bytes >>= λ settled. last name settled) l.name (Ok l)
    (field_is (is_next_name before l.name) place l.name rises)
    (bind_is (flag_at (place + p.digits) bytes) (λ settled. last l.name settled) l.settled (Ok l) settled refl))

pub links_again : (p : SettingsValue) (ls : List Offered) (before : Option (List ℕ)) (place : ℕ) (bytes rest : List ℕ) → Follow p before ls
    → drop place bytes ≡ flat_map link_bytes ls ++ rest → hello_links_at p (length ls) before place bytes ≡ Ok ls
unfolding hello_links_at
links_again p [] before place bytes rest follow here = refl
links_again p (l ∷ ls) before place bytes rest follow here =
    let after = flat_map link_bytes ls ++ rest in
    let split : drop place bytes ≡ l.name ++ (flag l.settled ∷ after) =
    here ∙ ap (λ (xs : List ℕ). xs ++ rest) (flat_map-cons link_bytes l ls) ∙ append_assoc (link_bytes l) (flat_map link_bytes ls) rest
    ∙ append_assoc l.name (flag l.settled ∷ []) after in
    let second = past_name p bytes place l.name (flag l.settled ∷ after) follow.0 split in
    let third = past_byte bytes (place + p.digits) (flag l.settled) after second in
    bind_is (hello_link_at p before place bytes) (λ link. hello_links_at p (length ls) (Some link.name) (place + p.digits + 1) bytes >>=
    λ links. Ok (link ∷ links)) l (Ok (l ∷ ls))
    (link_is p before place bytes after l follow.0 follow.1 split)
    (bind_is (hello_links_at p (length ls) (Some l.name) (place + p.digits + 1) bytes) (λ links. Ok (l ∷ links)) ls (Ok (l ∷ ls))
    (links_again p ls (Some l.name) (place + p.digits + 1) bytes rest follow.2 third) refl)

-- ---- what is read was written

-- what reading links has taken
pub record Takes (p : SettingsValue) (count : ℕ) (before : Option (List ℕ)) (place : ℕ) (bytes : List ℕ) (ls : List Offered) : Type 0 where
  pub parts : drop place bytes ≡ flat_map link_bytes ls ++ drop (place + (p.digits + 1) * count) bytes
  pub many : length ls ≡ count
  pub follow : Follow p before ls

-- what reading one link has taken
record TakesOne (p : SettingsValue) (before : Option (List ℕ)) (place : ℕ) (bytes : List ℕ) (l : Offered) : Type 0 where
  pub parts : drop place bytes ≡ l.name ++ (flag l.settled ∷ drop (place + p.digits + 1) bytes)
  pub name : IsName p l.name
  pub rises : is_next_name before l.name ≡ true

link_taken : (p : SettingsValue) (before : Option (List ℕ)) (place : ℕ) (bytes : List ℕ) (l : Offered) → place + p.digits + 1 ≤ length bytes
    → hello_link_at p before place bytes ≡ Ok l → TakesOne p before place bytes l
link_taken p before place bytes l room e =
    let last : List ℕ → Bool → Result Offered Broken = λ name settled. Ok (record { name = name; settled = settled }) in
    let a = bind_ok (name_at p place bytes) (λ name. field (is_next_name before name) place name >>=
    λ name. flag_at (place + p.digits) bytes >>= λ settled. last name settled) l e in
    let b = bind_ok (field (is_next_name before a.0) place a.0)
    (λ name. flag_at (place + p.digits) bytes >>= λ settled. last name settled) l a.2 in
    let c = bind_ok (flag_at (place + p.digits) bytes) (λ settled. last b.0 settled) l b.2 in
    let rises = field_ok (is_next_name before a.0) place a.0 b.0 b.1 in
    let named = name_taken (λ at. record { at = at }) p bytes place a.0 (omega arith) a.1 in
    let flagged = flag_taken (place + p.digits) bytes c.0 c.1 in
    let made : Offered = record { name = b.0; settled = c.0 } in
    let second : drop (place + p.digits) bytes ≡ flag c.0 ∷ drop (place + p.digits + 1) bytes =
    byte_taken bytes (place + p.digits) (omega arith) ∙ ap (λ x. x ∷ drop (place + p.digits + 1) bytes) flagged in
    let whole : drop place bytes ≡ b.0 ++ (flag c.0 ∷ drop (place + p.digits + 1) bytes) =
    named.0 ∙ ap (λ (xs : List ℕ). a.0 ++ xs) second ∙ ap (λ (xs : List ℕ). xs ++ (flag c.0 ∷ drop (place + p.digits + 1) bytes)) rises.1 in
    subst (TakesOne p before place bytes) (ok_is made l c.2)
    (record {
      parts = whole;
      name = subst (IsName p) rises.1 named.1;
      rises =
          subst (λ name. is_next_name before name ≡ true) rises.1 rises.0;
    })

pub links_taken : (p : SettingsValue) (count : ℕ) (before : Option (List ℕ)) (place : ℕ) (bytes : List ℕ) (ls : List Offered)
    → place + (p.digits + 1) * count ≤ length bytes
    → hello_links_at p count before place bytes ≡ Ok ls → Takes p count before place bytes ls
unfolding hello_links_at
links_taken p zero before place bytes ls room e =
    let none : [] ≡ ls = ok_is [] ls e in
    let same : place ≡ place + (p.digits + 1) * 0 = grind arith in
    subst (Takes p 0 before place bytes) none (record { parts = ap (λ k. drop k bytes) same; many = refl; follow = tt })
links_taken p (suc count) before place bytes ls room e =
    let size = (p.digits + 1) * count in
    let product : (p.digits + 1) * suc count ≡ size + (p.digits + 1) = grind arith in
    let a = bind_ok (hello_link_at p before place bytes) (λ link. hello_links_at p count (Some link.name) (place + p.digits + 1) bytes >>=
    λ links. Ok (link ∷ links)) ls e in
    let l = a.0 in
    let b = bind_ok (hello_links_at p count (Some l.name) (place + p.digits + 1) bytes) (λ links. Ok (l ∷ links)) ls a.2 in
    let one = link_taken p before place bytes l (omega (arith, product)) a.1 in
    let more = links_taken p count (Some l.name) (place + p.digits + 1) bytes b.0 (omega (arith, product)) b.1 in
    let after = drop (place + (p.digits + 1) * suc count) bytes in
    let last : drop (place + p.digits + 1 + size) bytes ≡ after = ap (λ k. drop k bytes) (omega (arith, product)) in
    let rest : drop (place + p.digits + 1) bytes ≡ flat_map link_bytes b.0 ++ after = more.parts
    ∙ ap (λ (xs : List ℕ). flat_map link_bytes b.0 ++ xs) last in
    let whole : drop place bytes ≡ flat_map link_bytes (l ∷ b.0) ++ after =
    one.parts ∙ ap (λ (xs : List ℕ). l.name ++ (flag l.settled ∷ xs)) rest
    ∙ sym (append_assoc l.name (flag l.settled ∷ []) (flat_map link_bytes b.0 ++ after))
    ∙ sym (append_assoc (link_bytes l) (flat_map link_bytes b.0) after)
    ∙ ap (λ (xs : List ℕ). xs ++ after) (sym (flat_map-cons link_bytes l b.0)) in
    subst (Takes p (suc count) before place bytes) (ok_is (l ∷ b.0) ls b.2)
    (record { parts = whole; many = ap suc more.many; follow = (one.name, one.rises, more.follow) })

-- ---- the rules of links one by one, and of all

pub follow_names : (p : SettingsValue) (before : Option (List ℕ)) (ls : List Offered) → Follow p before ls → All (λ l. IsName p l.name) ls
follow_names p before [] follow = All-nil (λ l. IsName p l.name)
follow_names p before (l ∷ ls) follow = All-cons (λ l. IsName p l.name) l ls follow.0 (follow_names p (Some l.name) ls follow.2)

all_follow : (p : SettingsValue) (b : List ℕ) (ls : List Offered) → Follow p (Some b) ls → All (λ l. name_cmp b l.name ≡ Less) ls
all_follow p b [] follow = All-nil (λ l. name_cmp b l.name ≡ Less)
all_follow p b (l ∷ ls) follow =
    let here = less_from (name_cmp b l.name) follow.1 in
    let after = all_follow p l.name ls follow.2 in
    All-cons (λ l. name_cmp b l.name ≡ Less) l ls here (λ k d h. nat_list_cmp_total.trans b l.name (get_or ls k d).name here (after k d h))

pub follow_ascends : (p : SettingsValue) (before : Option (List ℕ)) (ls : List Offered) → Follow p before ls
    → AllPairs (λ a b. name_cmp a.name b.name ≡ Less) ls
follow_ascends p before [] follow = λ i j d lt within. absurd (omega arith)
follow_ascends p before (l ∷ ls) follow =
    AllPairs-cons (λ a b. name_cmp a.name b.name ≡ Less) l ls (all_follow p l.name ls follow.2)
    (follow_ascends p (Some l.name) ls follow.2)

-- the first of these links follows the one before
abbrev FirstFollows : Option (List ℕ) → List Offered → Type 0
FirstFollows None ls = Unit {0}
FirstFollows (Some b) ls = All (λ l. name_cmp b l.name ≡ Less) ls

first_name : (before : Option (List ℕ)) (l : Offered) (ls : List Offered) → FirstFollows before (l ∷ ls)
    → is_next_name before l.name ≡ true
first_name None l ls after = refl
first_name (Some b) l ls after = ap is_lt (after 0 l (omega arith))

pub follow_from : (p : SettingsValue) (before : Option (List ℕ)) (ls : List Offered) → FirstFollows before ls
    → All (λ l. IsName p l.name) ls → AllPairs (λ a b. name_cmp a.name b.name ≡ Less) ls
    → Follow p before ls
follow_from p before [] after names ascending = tt
follow_from p before (l ∷ ls) after names ascending = (
  names 0 l (omega arith),
  first_name before l ls after,
  follow_from p (Some l.name) ls (λ k d h. ascending 0 (suc k) d (omega arith) (omega arith)) (λ k d h. names (suc k) d (omega arith))
      (λ i j d lt within. ascending (suc i) (suc j) d (omega arith) (omega arith)),
)
