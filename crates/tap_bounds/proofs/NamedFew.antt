-- How many Hellos that are sent to a name are from another or name it: at most one of each name and one more.
use Rattle.std.proofs.Common.{◌≡◌, ◌⊎◌, ℕ, nat_eq, ◌+◌, ◌≤◌, Bool, true, false, cond, List, [], ◌∷◌, length, Some, arith, ap, refl, sym, ◌∙◌, inl, inr}
use Rattle.std.specs.Prelude.{count_by, sum_by, ◌&&◌}
use Rattle.std.specs.Cmp.Lexicographic.{pointwise}
use Rattle.std.proofs.Math.Bool.{or-false}
use Rattle.std.proofs.lemmas.Bool.{and_parts, cases_Bool, true≢false}
use Rattle.std.proofs.lemmas.List.Sums.{sum_by-cons}
use Rattle.std.proofs.lemmas.Slice.Eq.{bytes_eq-Decides}
use Rattle.tap_name.specs.Names.{Among, has_name}
use Rattle.tap_join.specs.Hello.{hello_names}
use Rattle.tap_wire.specs.declared.frame.Body.{Body}
use Rattle.tap_wire.specs.declared.frame.Frame.{Frame}
use Rattle.tap_rule.specs.Sent.{IsAmong}
use Rattle.tap_safety.specs.Seeking.{HasNode}
use Rattle.tap_safety.specs.System.{System}
use Rattle.tap_safety.proofs.Said.{Said, said_of}
use Rattle.tap_safety.proofs.Said.Said.{IsHello}
use Rattle.tap_bounds.specs.Hellos.{HellosOnce, is_core_hello, is_joining_hello, says_core}
use Rattle.tap_bounds.specs.Traffic.{Traffic}
use Rattle.tap_bounds.proofs.Counting.{count-cons, count-none}
use Rattle.tap_bounds.specs.OfJoins.{joiner_said}
use Rattle.tap_bounds.proofs.JoinRules.{IsJoinFrame}
use Rattle.tap_bounds.proofs.JoinsKept.{AreOfJoins}
use Rattle.tap_bounds.proofs.Links.{is_naming}
use Rattle.tap_bounds.proofs.Words.{is_named_in}

-- ---- by name

-- whether a frame is the Hello of a core node to this name
abbrev is_core_to : List ℕ → Frame → Bool
is_core_to x f = says_core f.body && pointwise nat_eq f.to x

module _ (x : List ℕ) where
  -- all of these names together
  abbrev from_each : List (List ℕ) → List Frame → ℕ
  from_each names frames = sum_by (λ y. count_by (is_core_hello y x) frames) names

  one_name : (y : List ℕ) (names : List (List ℕ)) (frames : List Frame)
      → from_each (y ∷ names) frames ≡ count_by (is_core_hello y x) frames + from_each names frames
  one_name y names frames = sum_by-cons (λ z. count_by (is_core_hello z x) frames) y names

  -- a frame more is no less
  no_less : (f : Frame) (frames : List Frame) (names : List (List ℕ)) → from_each names frames ≤ from_each names (f ∷ frames)
  no_less f frames [] = omega arith
  no_less f frames (y ∷ names) =
      let rest = no_less f frames names in
      let one = one_name y names frames in
      let two = one_name y names (f ∷ frames) in
      let here = count-cons (is_core_hello y x) f frames in
      omega (arith, rest, one, two, here)

  -- and one more if it is such a Hello, from one of them
  one_more : (f : Frame) (frames : List Frame) (names : List (List ℕ)) → Among f.from names → is_core_to x f ≡ true
      → 1 + from_each names frames ≤ from_each names (f ∷ frames)
  one_more f frames [] among passes = absurd among
  one_more f frames (y ∷ names) (inl same) passes =
      let rest = no_less f frames names in
      let one = one_name y names frames in
      let two = one_name y names (f ∷ frames) in
      let all = count-cons (is_core_hello y x) f frames in
      let from : pointwise nat_eq f.from y ≡ true = (bytes_eq-Decides f.from y).1 same in
      let test : is_core_hello y x f ≡ true = rw from passes in
      let here : cond {A = ℕ} (is_core_hello y x f) 1 0 ≡ 1 = rw test refl in
      omega (arith, rest, one, two, all, here)
  one_more f frames (y ∷ names) (inr later) passes =
      let rest = one_more f frames names later passes in
      let one = one_name y names frames in
      let two = one_name y names (f ∷ frames) in
      let all = count-cons (is_core_hello y x) f frames in
      omega (arith, rest, one, two, all)

  by_sender : (names : List (List ℕ)) (frames : List Frame) → ((f : Frame) → IsAmong f frames → Among f.from names)
      → count_by (is_core_to x) frames ≤ from_each names frames
  by_sender names [] known = omega arith
  by_sender names (f ∷ frames) known =
      let rest = by_sender names frames (λ g among. known g (inr among)) in
      let all = count-cons (is_core_to x) f frames in
      elim (cases_Bool (is_core_to x f)) [
        | inl passes ↦
            let more = one_more f frames names (known f (inl refl)) passes in
            let here : cond {A = ℕ} (is_core_to x f) 1 0 ≡ 1 = rw passes refl in
            omega (arith, rest, all, more, here)
        | inr fails ↦
            let less = no_less f frames names in
            let here : cond {A = ℕ} (is_core_to x f) 1 0 ≡ 0 = rw fails refl in
            omega (arith, rest, all, less, here)
      ]

  one_each : (names : List (List ℕ)) (r : Traffic) → HellosOnce r → from_each names r.sent ≤ length names
  one_each [] r once = omega arith
  one_each (y ∷ names) r once =
      let rest = one_each names r once in
      let one = one_name y names r.sent in
      let most = once.core y x in
      omega (arith, rest, one, most)

-- ---- a Hello that names a name

-- what passes one test passes one of two others: then as many do at most
module _ (t u v : Frame → Bool) where
  either : (frames : List Frame) → ((f : Frame) → IsAmong f frames → t f ≡ true → (u f ≡ true) ⊎ (v f ≡ true))
      → count_by t frames ≤ count_by u frames + count_by v frames
  either [] passes = omega arith
  either (f ∷ frames) passes =
      let rest = either frames (λ g among. passes g (inr among)) in
      let one = count-cons t f frames in
      let two = count-cons u f frames in
      let three = count-cons v f frames in
      let here = first f (passes f (inl refl)) in
      omega (arith, rest, one, two, three, here)
    where
      first : (f : Frame) → (t f ≡ true → (u f ≡ true) ⊎ (v f ≡ true))
          → cond {A = ℕ} (t f) 1 0 ≤ cond {A = ℕ} (u f) 1 0 + cond {A = ℕ} (v f) 1 0
      first f which =
          elim (cases_Bool (t f)) [
            | inl is ↦ elim (which is) [ inl one ↦ rw (is, one) (omega arith) | inr two ↦ rw (is, two) (omega arith) ]
            | inr isnt ↦ rw isnt (omega arith)
          ]

-- such a Hello is that of a core node, or from the name itself
which_hello : (x t from to : List ℕ) {body : Body} → Said body → IsJoinFrame body
    → is_naming x t (record { from = from; to = to; body = body }) ≡ true
    → (is_core_to x (record { from = from; to = to; body = body }) ≡ true)
    ⊎ (is_joining_hello t x (record { from = from; to = to; body = body }) ≡ true)
which_hello x t from to (IsHello hello) of is =
    let parts = and_parts (is_named_in t (hello_names from hello.is_core hello.links)) (pointwise nat_eq to x) is in
    elim (cases_Bool hello.is_core) [
      | inl core ↦ inl (rw (core, parts.1) refl)
      | inr joins ↦
          let alone : is_named_in t (hello_names from hello.is_core []) ≡ true =
          ap (λ ls. is_named_in t (hello_names from hello.is_core ls)) (sym (of joins)) ∙ parts.0 in
          let sender = sym (or-false (pointwise nat_eq from t)) ∙ alone in
          inr (rw (joins, sender, parts.1) refl)
    ]
which_hello x t from to _ of is = cc

-- a Hello goes to a joiner
names_joiner : (x t from to : List ℕ) {body : Body} → Said body → is_naming x t (record { from = from; to = to; body = body }) ≡ true
    → joiner_said (record { from = from; to = to; body = body }) ≡ Some x
names_joiner x t from to (IsHello hello) is =
    ap (λ y. Some y) ((bytes_eq-Decides to x).0 (and_parts (is_named_in t (hello_names from hello.is_core hello.links)) (pointwise nat_eq to x) is).1)
names_joiner x t from to _ is = cc

module _ (members names : List (List ℕ)) (s : System) (r : Traffic) (are : AreOfJoins members s r) (once : HellosOnce r)
    (all : (y : List ℕ) → HasNode s y → Among y names) (x t : List ℕ) where
  -- a member is sent none
  none_to_member : has_name members x ≡ true → count_by (is_naming x t) r.sent ≡ 0
  none_to_member member =
      count-none (is_naming x t) r.sent (λ f among. elim (cases_Bool (is_naming x t f)) [
        | inl is ↦
            let new = are.joiners f x among (names_joiner x t f.from f.to (said_of f.body) is) in
            let wrong : true ≡ false = sym member ∙ new in
            absurd (true≢false wrong)
        | inr isnt ↦ isnt
      ])

  few_to_joiner : count_by (is_naming x t) r.sent ≤ length names + 1
  few_to_joiner =
      let parts = either (is_naming x t) (is_core_to x) (is_joining_hello t x) r.sent
      (λ f among is. which_hello x t f.from f.to (said_of f.body) (are.sent f among) is) in
      let core = by_sender x names r.sent (λ f among. let ends = are.ends f among in all f.from ends.0) in
      let each = one_each x names r once in
      let own = once.joining t x in
      omega (arith, parts, core, each, own)

  pub named_few : count_by (is_naming x t) r.sent ≤ cond {A = ℕ} (has_name members x) 0 (length names + 2)
  named_few =
      elim (cases_Bool (has_name members x)) [
        | inl member ↦ let none = none_to_member member in rw member (omega (arith, none))
        | inr new ↦ let few = few_to_joiner in rw new (omega (arith, few))
      ]
