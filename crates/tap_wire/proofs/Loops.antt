-- reading a list one by one, as a loop does
use Rattle.std.proofs.Common.{◌≡◌, ℕ, Bool, suc, ◌-◌, ◌+◌, ◌*◌, ◌/◌, ◌≤◌, ◌<◌, List, [], ◌∷◌, ◌++◌, length, Option, None, Some, Result, Ok, Err, IsOk, is_ok, refl, sym, ap, ◌∙◌, append_assoc, arith}
use Rattle.std.proofs.lemmas.List.{append-nil}
use Rattle.std.proofs.Math.Nat.{div-add-mod}
use Rattle.tap_name.specs.Settings.{SettingsValue}
use Rattle.tap_name.specs.declared.slot.Slot.{Slot}
use Rattle.tap_name.specs.declared.slot.Offered.{Offered}
use Rattle.tap_watch.specs.Watch.{SlotsAscend}
use Rattle.tap_wire.specs.declared.fault.Broken.{Broken}
use Rattle.tap_wire.specs.Fields.{◌>>=◌, watch_slot_at, slots_at, hello_link_at, hello_links_at}
use Rattle.tap_wire.proofs.Slots.{slots_taken, follow_ascends}

-- what was read before, and what is still read
abbrev pub with_front : {X : Type 0} → List X → Result (List X) Broken → Result (List X) Broken
with_front front read = read >>= λ xs. Ok (front ++ xs)

regroup : {X : Type 0} (front : List X) (x : X) (read : Result (List X) Broken)
    → with_front front (read >>= λ xs. Ok (x ∷ xs)) ≡ with_front (front ++ x ∷ []) read
regroup {X} front x (Ok xs) = ap (λ (ys : List X). Ok ys) (sym (append_assoc front (x ∷ []) xs))
regroup front x (Err b) = refl

-- ---- slots

pub slots_go_on : (p : SettingsValue) (prefix count i : ℕ) (before : Option Slot) (place : ℕ) (bytes : List ℕ) (front : List Slot)
    (s : Slot) (total : Result (List Slot) Broken) → i < count
    → watch_slot_at p prefix before place bytes ≡ Ok s → with_front front (slots_at p prefix (count - i) before place bytes) ≡ total
    → with_front (front ++ s ∷ []) (slots_at p prefix (count - (i + 1)) (Some s) (place + 2) bytes) ≡ total
unfolding slots_at
slots_go_on p prefix count i before place bytes front s total lt h so_far =
    let k : count - i ≡ suc (count - (i + 1)) = omega arith in
    let one : with_front front (slots_at p prefix (count - i) before place bytes)
    ≡ with_front (front ++ s ∷ []) (slots_at p prefix (count - (i + 1)) (Some s) (place + 2) bytes) =
    ap (λ n. with_front front (slots_at p prefix n before place bytes)) k
    ∙ ap (λ r. with_front front (r >>= λ slot. slots_at p prefix (count - (i + 1)) (Some slot) (place + 2) bytes >>=
    λ slots. Ok (slot ∷ slots))) h
    ∙ regroup front s (slots_at p prefix (count - (i + 1)) (Some s) (place + 2) bytes) in
    sym one ∙ so_far

pub slots_end : (p : SettingsValue) (prefix count i : ℕ) (before : Option Slot) (place : ℕ) (bytes : List ℕ) (front : List Slot)
    (b : Broken) (total : Result (List Slot) Broken) → i < count
    → watch_slot_at p prefix before place bytes ≡ Err b → with_front front (slots_at p prefix (count - i) before place bytes) ≡ total
    → total ≡ Err b
unfolding slots_at
slots_end p prefix count i before place bytes front b total lt h so_far =
    let k : count - i ≡ suc (count - (i + 1)) = omega arith in
    let one : with_front front (slots_at p prefix (count - i) before place bytes) ≡ Err b =
    ap (λ n. with_front front (slots_at p prefix n before place bytes)) k
    ∙ ap (λ r. with_front front (r >>= λ slot. slots_at p prefix (count - (i + 1)) (Some slot) (place + 2) bytes >>=
    λ slots. Ok (slot ∷ slots))) h in
    sym so_far ∙ one

pub slots_done : (p : SettingsValue) (prefix count i : ℕ) (before : Option Slot) (place : ℕ) (bytes : List ℕ) (front : List Slot)
    (total : Result (List Slot) Broken) → count ≤ i
    → with_front front (slots_at p prefix (count - i) before place bytes) ≡ total → total ≡ Ok front
unfolding slots_at
slots_done p prefix count i before place bytes front total le so_far =
    let k : count - i ≡ 0 = omega arith in
    let one : with_front front (slots_at p prefix (count - i) before place bytes) ≡ Ok front =
    ap (λ n. with_front front (slots_at p prefix n before place bytes)) k ∙ ap (λ (ss : List Slot). Ok ss) (append-nil front) in
    sym so_far ∙ one

-- slots that were read ascend
pub slots_ascend : (p : SettingsValue) (prefix start : ℕ) (bytes : List ℕ) (ss : List Slot) → start ≤ length bytes
    → slots_at p prefix ((length bytes - start) / 2) None start bytes ≡ Ok ss → SlotsAscend ss
slots_ascend p prefix start bytes ss within e =
    let count = (length bytes - start) / 2 in
    let taken = slots_taken p prefix count None start bytes ss (omega arith) e in
    follow_ascends p.base prefix None ss taken.follow

-- ---- links

pub links_go_on : (p : SettingsValue) (count i : ℕ) (before : Option (List ℕ)) (place next : ℕ) (bytes : List ℕ) (front : List Offered)
    (l : Offered) (total : Result (List Offered) Broken) → i < count
    → next ≡ place + p.digits + 1 → hello_link_at p before place bytes ≡ Ok l
    → with_front front (hello_links_at p (count - i) before place bytes) ≡ total
    → with_front (front ++ l ∷ []) (hello_links_at p (count - (i + 1)) (Some l.name) next bytes) ≡ total
unfolding hello_links_at
links_go_on p count i before place next bytes front l total lt step h so_far =
    let k : count - i ≡ suc (count - (i + 1)) = omega arith in
    let one : with_front front (hello_links_at p (count - i) before place bytes)
    ≡ with_front (front ++ l ∷ []) (hello_links_at p (count - (i + 1)) (Some l.name) (place + p.digits + 1) bytes) =
    ap (λ n. with_front front (hello_links_at p n before place bytes)) k
    ∙ ap (λ r. with_front front (r >>= λ link. hello_links_at p (count - (i + 1)) (Some link.name) (place + p.digits + 1) bytes >>=
    λ links. Ok (link ∷ links))) h
    ∙ regroup front l (hello_links_at p (count - (i + 1)) (Some l.name) (place + p.digits + 1) bytes) in
    ap (λ k. with_front (front ++ l ∷ []) (hello_links_at p (count - (i + 1)) (Some l.name) k bytes)) step ∙ sym one ∙ so_far

-- a link that was read, by another spelling of its name
pub link_named : (name same : List ℕ) (settled : Bool) (read : Result Offered Broken)
    → read ≡ Ok (record { name = name; settled = settled })
    → name ≡ same → read ≡ Ok (record { name = same; settled = settled })
link_named name same settled read e is = e ∙ ap (λ (n : List ℕ). Ok (record { name = n; settled = settled })) is

pub links_end : (p : SettingsValue) (count i : ℕ) (before : Option (List ℕ)) (place : ℕ) (bytes : List ℕ) (front : List Offered)
    (b : Broken) (total : Result (List Offered) Broken) → i < count
    → hello_link_at p before place bytes ≡ Err b → with_front front (hello_links_at p (count - i) before place bytes) ≡ total
    → total ≡ Err b
unfolding hello_links_at
links_end p count i before place bytes front b total lt h so_far =
    let k : count - i ≡ suc (count - (i + 1)) = omega arith in
    let one : with_front front (hello_links_at p (count - i) before place bytes) ≡ Err b =
    ap (λ n. with_front front (hello_links_at p n before place bytes)) k
    ∙ ap (λ r. with_front front (r >>= λ link. hello_links_at p (count - (i + 1)) (Some link.name) (place + p.digits + 1) bytes >>=
    λ links. Ok (link ∷ links))) h in
    sym so_far ∙ one

pub links_done : (p : SettingsValue) (count i : ℕ) (before : Option (List ℕ)) (place : ℕ) (bytes : List ℕ) (front : List Offered)
    (total : Result (List Offered) Broken) → count ≤ i
    → with_front front (hello_links_at p (count - i) before place bytes) ≡ total → total ≡ Ok front
unfolding hello_links_at
links_done p count i before place bytes front total le so_far =
    let k : count - i ≡ 0 = omega arith in
    let one : with_front front (hello_links_at p (count - i) before place bytes) ≡ Ok front =
    ap (λ n. with_front front (hello_links_at p n before place bytes)) k ∙ ap (λ (ls : List Offered). Ok ls) (append-nil front) in
    sym so_far ∙ one

-- one more link of so many bytes fits if all of them do
pub one_more_fits : (size count i : ℕ) → i < count → i * size + size ≤ size * count
one_more_fits size count i lt = grind arith

-- so many parts as fit into what is left are no longer than it
pub parts_fit : (left size : ℕ) → size * (left / size) ≤ left
parts_fit left size = let whole = div-add-mod left size in omega (arith, whole)

-- ---- if memory was refused

-- nothing was read before, and the rest is still read
pub from_the_start : {X : Type 0} (read : Result (List X) Broken) → with_front [] read ≡ read
from_the_start (Ok xs) = refl
from_the_start (Err b) = refl

-- what was read is a value
pub is_read : {X : Type 0} (read : Result (List X) Broken) (front : List X) → read ≡ Ok front → IsOk read
is_read read front e = ap is_ok e
