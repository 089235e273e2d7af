-- bodies with a list: read where they were written, and written as they are read
use Rattle.std.proofs.Common.{◌≡◌, ◌<◌, ◌≤◌, ◌++◌, ◌+◌, ◌*◌, ◌-◌, ◌/◌, ◌%◌, ◌^◌, ℕ, suc, Bool, nat_lt, nat_le, ◌&&◌, List, [], ◌∷◌, length, drop, slice_index, All, None, Result, Ok, arith, refl, ap, sym, subst, ◌∙◌, length-append}
use Rattle.std.specs.List.{flat_map}
use Rattle.std.proofs.lemmas.Bool.{lt-ltb, ltb-true, le-leb, leb-true, and_from, and_parts}
use Rattle.std.proofs.lemmas.List.{length-drop, append-nil}
use Rattle.std.proofs.lemmas.List.Concat.{flat_map-cons}
use Rattle.std.proofs.lemmas.Nat.{div-mul-add}
use Rattle.std.proofs.Math.Nat.{div-add-mod}
use Rattle.byteorder.specs.Endian.{big_bytes}
use Rattle.tap_name.specs.Settings.{SettingsValue}
use Rattle.tap_name.specs.Name.{IsName}
use Rattle.tap_name.specs.declared.slot.Slot.{Slot}
use Rattle.tap_name.specs.declared.slot.Offered.{Offered}
use Rattle.tap_watch.specs.Watch.{SlotsAscend}
use Rattle.tap_wire.specs.declared.frame.Body.{Body}
use Rattle.tap_wire.specs.declared.frame.Body.TheVariants.{Tell, Hello}
use Rattle.tap_wire.specs.declared.kind.Kind.TheVariants as kinds
use Rattle.tap_wire.specs.declared.fault.Broken.{Broken}
use Rattle.tap_wire.specs.Fields.{◌>>=◌, field, number_at, session_at, flag_at, name_at, slots_at, hello_links_at}
use Rattle.tap_wire.specs.Reading.{prefix_at, level_above_at, tell_at, hello_at}
use Rattle.tap_wire.specs.Spelling.{flag, slot_bytes, link_bytes, body_bytes, IsTell, AreLinks}
use Rattle.tap_wire.proofs.ReadingSteps.{bind_ok, bind_is, field_ok, field_is, ok_is}
use Rattle.tap_wire.proofs.Pieces.{moved, byte_is, past_byte, byte_taken, number_is, past_number, number_taken, number_below, name_is, past_name, name_taken}
use Rattle.tap_wire.proofs.Slots as slots
use Rattle.tap_wire.proofs.Links as links
use Rattle.tap_wire.proofs.Links.{flag_is, flag_taken}
use Rattle.tap_wire.proofs.TakesParts.{Takes, session_is, session_taken, ends, two, four}
use Rattle.tap_wire.proofs.ShortBodies.{nothing}
use Rattle.tap_wire.proofs.LongBodies.{same_place}

-- ---- Tell

pub length-slots : (ss : List Slot) → length (flat_map slot_bytes ss) ≡ 2 * length ss
length-slots [] = refl
length-slots (s ∷ ss) =
    omega (
      arith,
      ap (λ (xs : List ℕ). length xs) (flat_map-cons slot_bytes s ss),
      length-append (slot_bytes s) (flat_map slot_bytes ss),
      length-slots ss,
    )

-- the prefix and the level of a Tell
prefix_is : (p : SettingsValue) (place : ℕ) (bytes : List ℕ) (prefix : ℕ) → slice_index bytes place ≡ prefix → prefix < p.digits
    → prefix_at p place bytes ≡ Ok prefix
prefix_is p place bytes prefix e below = ap (λ x. field (nat_lt x p.digits) place x) e
    ∙ field_is (nat_lt prefix p.digits) place prefix (lt-ltb prefix p.digits below)

prefix_taken : (p : SettingsValue) (place : ℕ) (bytes : List ℕ) (prefix : ℕ) → prefix_at p place bytes ≡ Ok prefix
    → (slice_index bytes place ≡ prefix) × (prefix < p.digits)
prefix_taken p place bytes prefix e =
    let x = slice_index bytes place in
    let is = field_ok (nat_lt x p.digits) place x prefix e in
    (is.1, subst (λ y. y < p.digits) is.1 (ltb-true x p.digits is.0))

level_above_is : (p : SettingsValue) (prefix place : ℕ) (bytes : List ℕ) (level : ℕ) → slice_index bytes place ≡ level → prefix < level
    → level ≤ p.digits → level_above_at p prefix place bytes ≡ Ok level
level_above_is p prefix place bytes level e above most =
    ap (λ x. field (nat_lt prefix x && nat_le x p.digits) place x) e
    ∙ field_is (nat_lt prefix level && nat_le level p.digits) place level
    (and_from (nat_lt prefix level) (nat_le level p.digits) (lt-ltb prefix level above) (le-leb level p.digits most))

level_above_taken : (p : SettingsValue) (prefix place : ℕ) (bytes : List ℕ) (level : ℕ) → level_above_at p prefix place bytes ≡ Ok level
    → (slice_index bytes place ≡ level) × (prefix < level) × (level ≤ p.digits)
level_above_taken p prefix place bytes level e =
    let x = slice_index bytes place in
    let is = field_ok (nat_lt prefix x && nat_le x p.digits) place x level e in
    let parts = and_parts (nat_lt prefix x) (nat_le x p.digits) is.0 in
    (is.1, subst (λ y. prefix < y) is.1 (ltb-true prefix x parts.0), subst (λ y. y ≤ p.digits) is.1 (leb-true x p.digits parts.1))

pub tell_again : (p : SettingsValue) (start : ℕ) (bytes joiner : List ℕ) (prefix level session depth : ℕ) (watch : List Slot)
    → IsTell p joiner prefix level session watch → SlotsAscend watch
    → session < 2 ^ 32 → depth < 2 ^ 16 → drop start bytes ≡ body_bytes (Tell joiner prefix level session depth watch)
    → tell_at p start bytes ≡ Ok (Tell joiner prefix level session depth watch)
unfolding tell_at
tell_again p start bytes joiner prefix level session depth watch is ascending fits0 fits1 here =
    let at = start + p.digits in
    let S = big_bytes 4 session in
    let D = big_bytes 2 depth in
    let W = flat_map slot_bytes watch in
    let h0 = here ∙ four joiner (prefix ∷ level ∷ []) S D W in
    let h1 = past_name p bytes start joiner (prefix ∷ level ∷ (S ++ (D ++ W))) is.joiner_is h0 in
    let h2 = past_byte bytes at prefix (level ∷ (S ++ (D ++ W))) h1 in
    let h3 = moved bytes (S ++ (D ++ W)) (at + 1 + 1) (at + 2) (omega arith) (past_byte bytes (at + 1) level (S ++ (D ++ W)) h2) in
    let h4 = moved bytes (D ++ W) (at + 2 + 4) (at + 6) (omega arith) (past_number bytes (at + 2) 4 session (D ++ W) h3) in
    let h5 = moved bytes W (at + 6 + 2) (at + 8) (omega arith) (past_number bytes (at + 6) 2 depth W h4) in
    let long : length bytes - (at + 8) ≡ 2 * length watch = sym (length-drop (at + 8) bytes) ∙ ap (λ (xs : List ℕ). length xs) h5
    ∙ length-slots watch in
    let count : (length bytes - (at + 8)) / 2 ≡ length watch = omega (arith, long) in
    let follow = slots.follow_from p.base prefix None watch tt is.slots.levels is.slots.digits ascending in
    let e0 = name_is (λ at. record { at = at }) p bytes start joiner (prefix ∷ level ∷ (S ++ (D ++ W))) is.joiner_is h0 in
    let e1 = prefix_is p at bytes prefix (byte_is bytes at prefix (level ∷ (S ++ (D ++ W))) h1) is.prefix_below in
    let e2 = level_above_is p prefix (at + 1) bytes level (byte_is bytes (at + 1) level (S ++ (D ++ W)) h2) is.level_above is.level_most in
    let e3 = session_is (at + 2) bytes session (number_is bytes (at + 2) 4 session (D ++ W) fits0 h3) is.session_least in
    let e4 = number_is bytes (at + 6) 2 depth W fits1 h4 in
    let e5 : slots_at p prefix ((length bytes - (at + 8)) / 2) None (at + 8) bytes ≡ Ok watch =
    ap (λ k. slots_at p prefix k None (at + 8) bytes) count
    ∙ slots.slots_again p prefix watch None (at + 8) bytes [] follow (ends bytes W (at + 8) h5) in
    let whole : Result Body Broken = Ok (Tell joiner prefix level session depth watch) in
    let made : List ℕ → ℕ → ℕ → ℕ → List Slot → Result Body Broken =
    λ joiner prefix level session watch. Ok (Tell joiner prefix level session (number_at 2 (at + 6) bytes) watch) in
    let slots_next : ℕ → Result (List Slot) Broken = λ prefix. slots_at p prefix ((length bytes - (at + 8)) / 2) None (at + 8) bytes in
    bind_is (name_at p start bytes) (λ joiner. prefix_at p at bytes >>= λ prefix. level_above_at p prefix (at + 1) bytes >>=
    λ level. session_at (at + 2) bytes >>= λ session. slots_next prefix >>= λ watch. made joiner prefix level session watch) joiner
    whole e0
    (bind_is (prefix_at p at bytes) (λ prefix. level_above_at p prefix (at + 1) bytes >>= λ level. session_at (at + 2) bytes >>=
    λ session. slots_next prefix >>= λ watch. made joiner prefix level session watch) prefix whole e1
    (bind_is (level_above_at p prefix (at + 1) bytes) (λ level. session_at (at + 2) bytes >>= λ session. slots_next prefix >>=
    λ watch. made joiner prefix level session watch) level whole e2
    (bind_is (session_at (at + 2) bytes) (λ session. slots_next prefix >>= λ watch. made joiner prefix level session watch) session whole e3
    (bind_is (slots_next prefix) (λ watch. made joiner prefix level session watch) watch whole e5
    (ap (λ d. Ok (Tell joiner prefix level session d watch)) e4)))))

pub tell_taken : (p : SettingsValue) (start : ℕ) (bytes : List ℕ) (body : Body) → All (λ b. b < 256) bytes
    → start + p.digits + 8 ≤ length bytes
    → (length bytes - (start + p.digits + 8)) % 2 ≡ 0 → (length bytes - (start + p.digits + 8)) / 2 ≤ p.digits * (p.base - 1)
    → tell_at p start bytes ≡ Ok body → Takes p kinds.Tell start bytes body
unfolding tell_at
tell_taken p start bytes body all room even few e =
    let at = start + p.digits in
    let count = (length bytes - (at + 8)) / 2 in
    let depth = number_at 2 (at + 6) bytes in
    let made : List ℕ → ℕ → ℕ → ℕ → List Slot → Result Body Broken =
    λ joiner prefix level session watch. Ok (Tell joiner prefix level session depth watch) in
    let slots_next : ℕ → Result (List Slot) Broken = λ prefix. slots_at p prefix count None (at + 8) bytes in
    let a = bind_ok (name_at p start bytes) (λ joiner. prefix_at p at bytes >>= λ prefix. level_above_at p prefix (at + 1) bytes >>=
    λ level. session_at (at + 2) bytes >>= λ session. slots_next prefix >>= λ watch. made joiner prefix level session watch) body e in
    let b = bind_ok (prefix_at p at bytes) (λ prefix. level_above_at p prefix (at + 1) bytes >>= λ level. session_at (at + 2) bytes >>=
    λ session. slots_next prefix >>= λ watch. made a.0 prefix level session watch) body a.2 in
    let c = bind_ok (level_above_at p b.0 (at + 1) bytes)
    (λ level. session_at (at + 2) bytes >>= λ session. slots_next b.0 >>= λ watch. made a.0 b.0 level session watch) body b.2 in
    let d = bind_ok (session_at (at + 2) bytes) (λ session. slots_next b.0 >>= λ watch. made a.0 b.0 c.0 session watch) body c.2 in
    let w = bind_ok (slots_next b.0) (λ watch. made a.0 b.0 c.0 d.0 watch) body d.2 in
    let joiner = name_taken (λ at. record { at = at }) p bytes start a.0 (omega arith) a.1 in
    let prefix = prefix_taken p at bytes b.0 b.1 in
    let level = level_above_taken p b.0 (at + 1) bytes c.0 c.1 in
    let session = session_taken (at + 2) bytes d.0 d.1 in
    let fit : at + 8 + 2 * count ≡ length bytes = omega (arith, even) in
    let watch = slots.slots_taken p b.0 count None (at + 8) bytes w.0 (omega (arith, fit)) w.1 in
    let S = big_bytes 4 d.0 in
    let D = big_bytes 2 depth in
    let W = flat_map slot_bytes w.0 in
    let t5 : drop (at + 8) bytes ≡ W = watch.parts ∙ ap (λ (xs : List ℕ). W ++ xs) (nothing bytes (at + 8 + 2 * count) (sym fit))
    ∙ append-nil W in
    let t4 : drop (at + 6) bytes ≡ D ++ W = number_taken bytes (at + 6) 2 all (omega arith)
    ∙ ap (λ (xs : List ℕ). D ++ xs) (same_place bytes (at + 6 + 2) (at + 8) (omega arith) ∙ t5) in
    let t3 : drop (at + 2) bytes ≡ S ++ (D ++ W) =
    number_taken bytes (at + 2) 4 all (omega arith) ∙ ap (λ x. big_bytes 4 x ++ drop (at + 2 + 4) bytes) session.0
    ∙ ap (λ (xs : List ℕ). S ++ xs) (same_place bytes (at + 2 + 4) (at + 6) (omega arith) ∙ t4) in
    let t2 : drop (at + 1) bytes ≡ c.0 ∷ (S ++ (D ++ W)) =
    byte_taken bytes (at + 1) (omega arith) ∙ ap (λ x. x ∷ drop (at + 1 + 1) bytes) level.0
    ∙ ap (λ (xs : List ℕ). c.0 ∷ xs) (same_place bytes (at + 1 + 1) (at + 2) (omega arith) ∙ t3) in
    let t1 : drop at bytes ≡ b.0 ∷ c.0 ∷ (S ++ (D ++ W)) = byte_taken bytes at (omega arith) ∙ ap (λ x. x ∷ drop (at + 1) bytes) prefix.0
    ∙ ap (λ (xs : List ℕ). b.0 ∷ xs) t2 in
    let t0 : drop start bytes ≡ body_bytes (Tell a.0 b.0 c.0 d.0 depth w.0) = joiner.0 ∙ ap (λ (xs : List ℕ). a.0 ++ xs) t1
    ∙ sym (four a.0 (b.0 ∷ c.0 ∷ []) S D W) in
    let rules : IsTell p a.0 b.0 c.0 d.0 w.0 = record {
      joiner_is = joiner.1;
      prefix_below = prefix.1;
      level_above = level.1;
      level_most = level.2;
      session_least = session.1;
      slots = record {
        levels = slots.follow_levels p.base b.0 None w.0 watch.follow;
        digits = slots.follow_digits p.base b.0 None w.0 watch.follow;
        few = omega (arith, watch.many, few);
      };
    } in
    let typed_session : d.0 < 2 ^ 32 = subst (λ x. x < 2 ^ 32) session.0 (number_below bytes (at + 2) 4 all) in
    subst (Takes p kinds.Tell start bytes) (ok_is (Tell a.0 b.0 c.0 d.0 depth w.0) body w.2)
    (record {
      parts = t0;
      same = refl;
      rules = rules;
      typed =
          (typed_session, number_below bytes (at + 6) 2 all, slots.follow_ascends p.base b.0 None w.0 watch.follow);
    })

-- ---- Hello

pub length-links : (p : SettingsValue) (ls : List Offered) → All (λ l. IsName p l.name) ls
    → length (flat_map link_bytes ls) ≡ (p.digits + 1) * length ls
length-links p [] names = grind arith
length-links p (l ∷ ls) names =
    let more = length-links p ls (λ k d h. names (suc k) d (omega arith)) in
    let named = names 0 l (omega arith) in
    let one : length (link_bytes l) ≡ p.digits + 1 = length-append l.name (flag l.settled ∷ []) ∙ ap (λ n. n + 1) named.len in
    let product : (p.digits + 1) * suc (length ls) ≡ (p.digits + 1) * length ls + (p.digits + 1) = grind arith in
    omega (
      arith,
      ap (λ (xs : List ℕ). length xs) (flat_map-cons link_bytes l ls),
      length-append (link_bytes l) (flat_map link_bytes ls),
      more,
      one,
      product,
    )

pub quotient : (size count x : ℕ) → 0 < size → x ≡ size * count → x / size ≡ count
quotient size count x positive e =
    let same : x ≡ count * size + 0 = grind (arith, e) in ap (λ y. y / size) same ∙ div-mul-add count size 0 positive

pub hello_again : (p : SettingsValue) (start : ℕ) (bytes : List ℕ) (session : ℕ) (core : Bool) (ls : List Offered) → 1 ≤ session
    → AreLinks p ls → session < 2 ^ 32
    → drop start bytes ≡ body_bytes (Hello session core ls) → hello_at p start bytes ≡ Ok (Hello session core ls)
unfolding hello_at
hello_again p start bytes session core ls least are fits here =
    let S = big_bytes 4 session in
    let W = flat_map link_bytes ls in
    let h0 = here ∙ two S (flag core ∷ []) W in
    let h1 = past_number bytes start 4 session (flag core ∷ W) h0 in
    let h2 = moved bytes W (start + 4 + 1) (start + 5) (omega arith) (past_byte bytes (start + 4) (flag core) W h1) in
    let long : length bytes - (start + 5) ≡ (p.digits + 1) * length ls = sym (length-drop (start + 5) bytes)
    ∙ ap (λ (xs : List ℕ). length xs) h2 ∙ length-links p ls are.names in
    let count : (length bytes - (start + 5)) / (p.digits + 1)
    ≡ length ls = quotient (p.digits + 1) (length ls) (length bytes - (start + 5)) (omega arith) long in
    let follow = links.follow_from p None ls tt are.names are.ascending in
    let e0 = session_is start bytes session (number_is bytes start 4 session (flag core ∷ W) fits h0) least in
    let e1 = flag_is (start + 4) bytes core (byte_is bytes (start + 4) (flag core) W h1) in
    let e2 : hello_links_at p ((length bytes - (start + 5)) / (p.digits + 1)) None (start + 5) bytes ≡ Ok ls =
    ap (λ k. hello_links_at p k None (start + 5) bytes) count
    ∙ links.links_again p ls None (start + 5) bytes [] follow (ends bytes W (start + 5) h2) in
    let whole : Result Body Broken = Ok (Hello session core ls) in
    let next : Result (List Offered) Broken = hello_links_at p ((length bytes - (start + 5)) / (p.digits + 1)) None (start + 5) bytes in
    let made : ℕ → Bool → List Offered → Result Body Broken = λ session core ls. Ok (Hello session core ls) in
    bind_is (session_at start bytes) (λ session. flag_at (start + 4) bytes >>= λ core. next >>= λ ls. made session core ls) session whole e0
    (bind_is (flag_at (start + 4) bytes) (λ core. next >>= λ ls. made session core ls) core whole e1
    (bind_is next (λ ls. made session core ls) ls whole e2 refl))

pub hello_taken : (p : SettingsValue) (start : ℕ) (bytes : List ℕ) (body : Body) → All (λ b. b < 256) bytes → start + 5 ≤ length bytes
    → (length bytes - (start + 5)) % (p.digits + 1) ≡ 0 → (length bytes - (start + 5)) / (p.digits + 1) ≤ 255
    → hello_at p start bytes ≡ Ok body → Takes p kinds.Hello start bytes body
unfolding hello_at
hello_taken p start bytes body all room even few e =
    let size = p.digits + 1 in
    let left = length bytes - (start + 5) in
    let count = left / size in
    let next : Result (List Offered) Broken = hello_links_at p count None (start + 5) bytes in
    let made : ℕ → Bool → List Offered → Result Body Broken = λ session core ls. Ok (Hello session core ls) in
    let a = bind_ok (session_at start bytes) (λ session. flag_at (start + 4) bytes >>= λ core. next >>= λ ls. made session core ls) body e
    in
    let b = bind_ok (flag_at (start + 4) bytes) (λ core. next >>= λ ls. made a.0 core ls) body a.2 in
    let w = bind_ok next (λ ls. made a.0 b.0 ls) body b.2 in
    let session = session_taken start bytes a.0 a.1 in
    let core = flag_taken (start + 4) bytes b.0 b.1 in
    let whole : size * count + left % size ≡ left = div-add-mod left size in
    let fit : start + 5 + size * count ≡ length bytes = omega (arith, whole, even) in
    let linked = links.links_taken p count None (start + 5) bytes w.0 (omega (arith, fit)) w.1 in
    let S = big_bytes 4 a.0 in
    let W = flat_map link_bytes w.0 in
    let t2 : drop (start + 5) bytes ≡ W = linked.parts ∙ ap (λ (xs : List ℕ). W ++ xs) (nothing bytes (start + 5 + size * count) (sym fit))
    ∙ append-nil W in
    let t1 : drop (start + 4) bytes ≡ flag b.0 ∷ W =
    byte_taken bytes (start + 4) (omega arith) ∙ ap (λ x. x ∷ drop (start + 4 + 1) bytes) core
    ∙ ap (λ (xs : List ℕ). flag b.0 ∷ xs) (same_place bytes (start + 4 + 1) (start + 5) (omega arith) ∙ t2) in
    let t0 : drop start bytes ≡ body_bytes (Hello a.0 b.0 w.0) =
    number_taken bytes start 4 all (omega arith) ∙ ap (λ x. big_bytes 4 x ++ drop (start + 4) bytes) session.0
    ∙ ap (λ (xs : List ℕ). S ++ xs) t1 ∙ sym (two S (flag b.0 ∷ []) W) in
    let are : AreLinks p w.0 = record {
      names = links.follow_names p None w.0 linked.follow;
      ascending = links.follow_ascends p None w.0 linked.follow;
      few = omega (arith, linked.many, few);
    } in
    let typed : a.0 < 2 ^ 32 = subst (λ x. x < 2 ^ 32) session.0 (number_below bytes start 4 all) in
    subst (Takes p kinds.Hello start bytes) (ok_is (Hello a.0 b.0 w.0) body w.2)
    (record { parts = t0; same = refl; rules = (session.1, are); typed = typed })
