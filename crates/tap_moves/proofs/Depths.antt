-- A session is less deep than there are open sessions of its joiner, and these are few.
-- Cited above: sessions_shallow, tells_shallow
use Rattle.std.proofs.Common.{◌≡◌, ℕ, zero, suc, ◌+◌, ◌*◌, ◌≤◌, Bool, true, false, List, [], ◌∷◌, ◌++◌, length, map, Option, None, Some, arith, refl, sym, subst, ◌∙◌, inl, inr}
use Rattle.std.proofs.lemmas.List.{length-append, length-map}
use Rattle.tap_name.specs.Names.{Among, has_name}
use Rattle.tap_name.specs.Settings.{SettingsValue}
use Rattle.tap_multicast.specs.Covers.{level_kept}
use Rattle.tap_wire.specs.declared.frame.Frame.{Frame}
use Rattle.tap_rule.specs.Node.{NodeState, Status}
use Rattle.tap_rule.specs.Node.Status.{Ceased, Core, Gone, Joining, Leaving}
use Rattle.tap_rule.specs.Sent.{IsAmong}
use Rattle.tap_rule.proofs.Among.{among-first, among-map, among-second}
use Rattle.tap_safety.specs.FewSessions.{IsOpenOf, SessionsAreFew, most_sessions_for}
use Rattle.tap_safety.specs.Frames.{tell_body}
use Rattle.tap_safety.specs.Invariant.{Basis}
use Rattle.tap_safety.specs.Remembered.{OpenSession}
use Rattle.tap_safety.specs.Sessions.{AreExact, IsOpen}
use Rattle.tap_safety.specs.System.{System}
use Rattle.tap_moves.specs.KnownNames.{AreNodes}
use Rattle.tap_moves.specs.FewMoves.{SessionsAreShallow, TellsAreShallow}

-- ---- lists without repetition

module _ {A : Type 0} where
  abbrev AreDifferent : List A → Type 0
  AreDifferent [] = Unit {0}
  AreDifferent (x ∷ xs) = (IsAmong x xs → ⊥) × AreDifferent xs

  -- the list without one that is among it
  abbrev without : (x : A) (xs : List A) → IsAmong x xs → List A
  without x [] among = absurd among
  without x (y ∷ xs) (inl is) = xs
  without x (y ∷ xs) (inr later) = y ∷ without x xs later

  shorter : (x : A) (xs : List A) → (among : IsAmong x xs) → length (without x xs among) + 1 ≡ length xs
  shorter x [] among = absurd among
  shorter x (y ∷ xs) (inl is) = omega arith
  shorter x (y ∷ xs) (inr later) = let rest = shorter x xs later in omega (arith, rest)

  others_left : (x : A) (xs : List A) → (among : IsAmong x xs) → (z : A) → IsAmong z xs → (z ≡ x → ⊥) → IsAmong z (without x xs among)
  others_left x [] among z there apart = absurd among
  others_left x (y ∷ xs) (inl is) z (inl same) apart = absurd (apart (same ∙ sym is))
  others_left x (y ∷ xs) (inl is) z (inr there) apart = there
  others_left x (y ∷ xs) (inr later) z (inl same) apart = inl same
  others_left x (y ∷ xs) (inr later) z (inr there) apart = inr (others_left x xs later z there apart)

  -- different elements that are all among a list are no more than it has
  no_more : (xs ys : List A) → AreDifferent xs → ((x : A) → IsAmong x xs → IsAmong x ys) → length xs ≤ length ys
  no_more [] ys apart all = omega arith
  no_more (x ∷ xs) ys (fresh, apart) all =
      let here = all x (inl refl) in
      let rest = no_more xs (without x ys here) apart
      (λ z among. others_left x ys here z (all z (inr among)) (λ same. fresh (subst (λ w. IsAmong w xs) same among))) in
      let one = shorter x ys here in
      omega (arith, rest, one)

-- ---- the open sessions of one joiner, by node and number

abbrev Place : Type 0
Place = List ℕ × ℕ

abbrev at_node : List ℕ → ℕ → Place
at_node x k = (x, k)

module _ (p : SettingsValue) (s : System) (b : List ℕ) (few : SessionsAreFew p s) (digits : p.digits ≤ 40) where
  -- a node has at most 42
  most_few : (status : Status) (greeted : Bool) (level : Option ℕ) → most_sessions_for p status greeted level ≤ 42
  most_few Joining true level = omega arith
  most_few Joining false level = omega arith
  most_few Core greeted None = omega arith
  most_few Core greeted (Some level) = omega (arith, digits)
  most_few Leaving greeted None = omega arith
  most_few Leaving greeted (Some level) = omega (arith, digits)
  most_few Gone greeted None = omega arith
  most_few Gone greeted (Some level) = omega (arith, digits)
  most_few Ceased greeted None = omega arith
  most_few Ceased greeted (Some level) = omega (arith, digits)

  -- the numbers at a name, few, and of all that are open there
  record NumbersAt (x : List ℕ) : Type 0 where
    numbers : List ℕ
    at_most : length numbers ≤ 42
    all : (node : NodeState) → s.node x ≡ Some node → (k : ℕ) → IsOpenOf s x b k → IsAmong k numbers

  numbers_at : (x : List ℕ) (found : Option NodeState) → s.node x ≡ found → NumbersAt x
  numbers_at x None none = record {
    numbers = [];
    at_most = omega arith;
    all = λ node is k of. let wrong : None ≡ Some node = sym none ∙ is in absurd (cc);
  }
  numbers_at x (Some node) is =
      let has = few.each x b node is in
      let less = has.few in
      let most = most_few node.status (has_name node.greeted b) (level_kept node.covers b) in
      record { numbers = has.numbers; at_most = omega (arith, less, most); all = λ other there k of. has.all k of }

  abbrev numbers_of : List ℕ → List ℕ
  numbers_of x = (numbers_at x (s.node x) refl).numbers

  abbrev places_of : List (List ℕ) → List Place
  places_of [] = []
  places_of (x ∷ xs) = map (at_node x) (numbers_of x) ++ places_of xs

  places_few : (xs : List (List ℕ)) → length (places_of xs) ≤ length xs * 42
  places_few [] = omega arith
  places_few (x ∷ xs) =
      let rest = places_few xs in
      let whole = length-append (map (at_node x) (numbers_of x)) (places_of xs) in
      let mapped = length-map (numbers_of x) (at_node x) in
      let most = (numbers_at x (s.node x) refl).at_most in
      omega (arith, rest, whole, mapped, most)

  among_places : (xs : List (List ℕ)) (x : List ℕ) (k : ℕ) (node : NodeState) → s.node x ≡ Some node → Among x xs → IsOpenOf s x b k
      → IsAmong (at_node x k) (places_of xs)
  among_places [] x k node is among of = absurd among
  among_places (y ∷ xs) x k node is (inl same) of =
      let here = (numbers_at x (s.node x) refl).all node is k of in
      let mapped = among-map (at_node x) k (numbers_of x) here in
      let there : IsAmong (at_node x k) (map (at_node y) (numbers_of y)) =
      subst (λ z. IsAmong (at_node x k) (map (at_node z) (numbers_of z))) same mapped in
      among-first (at_node x k) (map (at_node y) (numbers_of y)) (places_of xs) there
  among_places (y ∷ xs) x k node is (inr later) of =
      among-second (at_node x k) (map (at_node y) (numbers_of y)) (places_of xs) (among_places xs x k node is later of)

-- ---- up to the root

module _ (s : System) (b : List ℕ) (exact : AreExact s)
    (roots : (x : List ℕ) (k : ℕ) (session : OpenSession) → IsOpen s x k session → session.parent ≡ None → session.depth ≡ 0) where
  -- a session of b is open there, at most so deep
  record IsUpTo (depth : ℕ) (place : Place) : Type 0 where
    session : OpenSession
    is : IsOpen s place.0 place.1 session
    joiner : session.joiner ≡ b
    most : session.depth ≤ depth

  -- as many places as it is deep, and one more
  record Chain (depth : ℕ) : Type 0 where
    places : List Place
    many : length places ≡ depth + 1
    apart : AreDifferent places
    each : (place : Place) → IsAmong place places → IsUpTo depth place

  one_up : (depth : ℕ) (y : List ℕ) (l : ℕ) (o : OpenSession) → IsOpen s y l o → o.joiner ≡ b → o.depth ≡ depth
      → (place : Place) → place ≡ at_node y l → IsUpTo depth place
  one_up depth y l o is joiner deep place same =
      subst (IsUpTo depth) (sym same) (record { session = o; is = is; joiner = joiner; most = omega (arith, deep) })

  single : (y : List ℕ) (l : ℕ) (o : OpenSession) → IsOpen s y l o → o.joiner ≡ b → o.depth ≡ 0 → Chain 0
  single y l o is joiner deep = record {
    places = at_node y l ∷ [];
    many = refl;
    apart = (λ none. none, tt);
    each = λ place among. elim among [ inl same ↦ one_up 0 y l o is joiner deep place same | inr none ↦ absurd none ];
  }

  longer : (depth : ℕ) (y : List ℕ) (l : ℕ) (o : OpenSession) → IsOpen s y l o → o.joiner ≡ b → o.depth ≡ suc depth → Chain depth
      → Chain (suc depth)
  longer depth y l o is joiner deep chain =
      let many = chain.many in
      record {
        places = at_node y l ∷ chain.places;
        many = omega (arith, many);
        apart = (
          λ among.
              let there = chain.each (at_node y l) among in
              let other = there.is in
              let same : there.session ≡ o = cc in
              let most : o.depth ≤ depth = subst (λ (c : OpenSession). c.depth ≤ depth) same there.most in
              omega (arith, most, deep),
          chain.apart,
        );
        each = λ place among. elim among [
          | inl same ↦ one_up (suc depth) y l o is joiner deep place same
          | inr later ↦
              let there = chain.each place later in
              let most = there.most in
              record { session = there.session; is = there.is; joiner = there.joiner; most = omega (arith, most) }
        ];
      }

  chain_at : (depth : ℕ) (y : List ℕ) (l : ℕ) (o : OpenSession) → IsOpen s y l o → o.joiner ≡ b → o.depth ≡ depth
      → (parent : Option (List ℕ × ℕ)) → o.parent ≡ parent → Chain depth
  chain_at zero y l o is joiner deep None top = single y l o is joiner deep
  chain_at zero y l o is joiner deep (Some (x, k)) has =
      let up = exact.parents y l o x k is has in let less = up.depth in absurd (omega (arith, less, deep))
  chain_at (suc depth) y l o is joiner deep None top =
      let none = roots y l o is top in absurd (omega (arith, none, deep))
  chain_at (suc depth) y l o is joiner deep (Some (x, k)) has =
      let up = exact.parents y l o x k is has in
      let less = up.depth in
      longer depth y l o is joiner deep
      (chain_at depth x k up.parent up.is (sym up.joiner ∙ joiner) (omega (arith, less, deep)) up.parent.parent refl)

-- ---- depths

digits_few : (p : SettingsValue) (s : System) → Basis p s → AreNodes p s → p.digits ≤ 40
digits_few p s inv nodes =
    let core = inv.has_core.core in
    let of = nodes.nodes inv.has_core.name core.state core.is in
    let limits = of.is_node.ties.table.limits in
    subst (λ (q : SettingsValue). q.digits ≤ 40) of.settings limits.digits_to

pub sessions_shallow : SessionsAreShallow
sessions_shallow p s x k session inv nodes few is =
    let b = session.joiner in
    let digits = digits_few p s inv nodes in
    let names = inv.few in
    let chain = chain_at s b inv.exact (λ y l o held top. (inv.of_joiners.root y l o held top).1) session.depth x k session is refl refl
    session.parent refl in
    let all = no_more chain.places (places_of p s b few digits names.names) chain.apart
    (λ place among.
    let there = chain.each place among in
    let held = inv.places.places place.0 place.1 there.session there.is in
    among_places p s b few digits names.names place.0 place.1 held.state held.is
    (names.all place.0 (record { state = held.state; is = held.is }))
    (record { session = there.session; is = there.is; joiner = there.joiner })) in
    let most = places_few p s b few digits names.names in
    let many = chain.many in
    let at_most = names.few in
    omega (arith, all, most, many, at_most)

pub tells_shallow : TellsAreShallow
tells_shallow p s from to fields watch inv nodes few way =
    let frame : Frame = record { from = from; to = to; body = tell_body fields watch } in
    let awaited = inv.exact.frames way.number frame from fields.session way.among refl in
    let deep = inv.deeper.depth from to fields watch awaited.session way awaited.is in
    let shallow = sessions_shallow p s from fields.session awaited.session inv nodes few awaited.is in
    omega (arith, deep, shallow)
