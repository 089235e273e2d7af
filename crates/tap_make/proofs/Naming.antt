-- the names that are drawn are those of the definition
use Rattle.std.proofs.Common.{◌≡◌, ℕ, zero, suc, ◌+◌, ◌*◌, ◌%◌, ◌^◌, ◌<◌, List, [], ◌∷◌, map, length, slice_get, Some, refl, sym, ap, subst, ◌∙◌, arith, pow-suc}
use Rattle.std.specs.List.{range_with_len}
use Rattle.std.proofs.lemmas.List.FromFn.{length-map-range_with_len}
use Rattle.std.proofs.lemmas.Nat.{mod_below, pow-add}
use Rattle.tap_make.specs.declared.names.Names.{Names}
use Rattle.tap_make.specs.Draws.{DrawsValue, further}
use Rattle.tap_make.specs.MadeNames.{HasMadeNames, made_node, made_object, marked_name, newcomer}
use Rattle.tap_make.specs.Mixer.{drawn}
use Rattle.tap_make.proofs.LoopLists.{made_at}

-- ---- how far a mixer is

pub further_further : (draws : DrawsValue) (count more whole : ℕ) → count + more ≡ whole
    → further (further draws count) more ≡ further draws whole
further_further draws count more whole sum =
    let at : ℕ → DrawsValue = λ place. record { seed = draws.seed; place = place } in
    ap at (let place : draws.place + count + more ≡ draws.place + whole = omega arith in place)

pub further_more : (draws next last : DrawsValue) (count more whole : ℕ) → next ≡ further draws count → last ≡ further next more
    → count + more ≡ whole → last ≡ further draws whole
further_more draws next last count more whole first second sum =
    second ∙ ap (λ (d : DrawsValue). further d more) first ∙ further_further draws count more whole sum

pub place_is : (draws next : DrawsValue) (count : ℕ) → next ≡ further draws count → next.place ≡ draws.place + count
place_is draws next count at = ap (λ (d : DrawsValue). d.place) at

pub same_names : (joins count : ℕ) (names : Names) (draws next : DrawsValue) → next ≡ further draws count
    → HasMadeNames joins draws.seed names
    → HasMadeNames joins next.seed names
same_names joins count names draws next at are = subst (λ (d : DrawsValue). HasMadeNames joins d.seed names) (sym at) are

-- ---- hexadecimal digits

pub hexadecimal_power : (place : ℕ) → 2 ^ (4 * place) ≡ 16 ^ place
hexadecimal_power zero = refl
hexadecimal_power (suc place) =
    let exponent : 4 * suc place ≡ 4 * place + 4 = omega arith in
    ap (λ k. 2 ^ k) exponent ∙ pow-add 2 (4 * place) 4 ∙ ap (λ n. n * 16) (hexadecimal_power place) ∙ sym (pow-suc 16 place)

-- ---- names that are drawn one after the other

same_marked : (seed other a b p q : ℕ) → seed ≡ other → a ≡ b → p ≡ q → marked_name (drawn seed a) p ≡ marked_name (drawn other b) q
same_marked seed other a b p q one two three =
    ap (λ s. marked_name (drawn s a) p) one ∙ ap (λ k. marked_name (drawn other k) p) two ∙ ap (marked_name (drawn other b)) three

pub map_same : {X : Type 0} (f g : ℕ → X) (places : List ℕ) → ((i : ℕ) → f i ≡ g i) → map f places ≡ map g places
map_same f g [] same = refl
map_same f g (i ∷ places) same = ap (λ x. x ∷ map f places) (same i) ∙ ap (λ xs. g i ∷ xs) (map_same f g places same)

-- the names from this place on, with the places of nodes or objects from `first` on
abbrev pub names_from : DrawsValue → ℕ → ℕ → List (List ℕ)
names_from draws first count = map (λ i. marked_name (drawn draws.seed (draws.place + i)) (first + i)) (range_with_len 0 count)

pub all_made : (joins : ℕ) (names : Names) (d0 d1 d2 : DrawsValue) → d0.place ≡ 0 → d1 ≡ further d0 28 → d2 ≡ further d1 joins
    → names.members ≡ names_from d0 0 28 → names.newcomers ≡ names_from d1 28 joins → names.objects ≡ names_from d2 0 20
    → HasMadeNames joins d0.seed names
all_made joins names d0 d1 d2 none one two members newcomers objects =
    let seed_of : DrawsValue → ℕ = λ d. d.seed in
    let place_of : DrawsValue → ℕ = λ d. d.place in
    let seed1 : d1.seed ≡ d0.seed = ap seed_of one in
    let seed2 : d2.seed ≡ d0.seed = ap seed_of two ∙ seed1 in
    let place1 : d1.place ≡ d0.place + 28 = ap place_of one in
    let place2 : d2.place ≡ d1.place + joins = ap place_of two in
    record {
      members = members ∙ map_same _ (made_node d0.seed) (range_with_len 0 28)
          (λ i. same_marked d0.seed d0.seed (d0.place + i) i (0 + i) i refl (omega arith) (omega arith));
      newcomers = newcomers ∙ map_same _ (newcomer d0.seed) (range_with_len 0 joins)
          (λ i. same_marked d1.seed d0.seed (d1.place + i) (28 + i) (28 + i) (28 + i) seed1 (omega arith) refl);
      objects = objects ∙ map_same _ (made_object joins d0.seed) (range_with_len 0 20)
          (λ i. same_marked d2.seed d0.seed (d2.place + i) (28 + joins + i) (0 + i) i seed2 (omega arith) (omega arith));
    }

-- ---- names that are picked

pub picked : (names : List (List ℕ)) (f : ℕ → List ℕ) (n number : ℕ) (x : List ℕ) → 0 < n → names ≡ map f (range_with_len 0 n)
    → slice_get names (number % length names) ≡ Some x → x ≡ f (number % n)
picked names f n number x some is got =
    let len : length names ≡ n = ap length is ∙ length-map-range_with_len f 0 n in
    let counted : slice_get names (number % n) ≡ Some x = subst (λ k. slice_get names (number % k) ≡ Some x) len got in
    made_at f n (number % n) x (mod_below number n some) (subst (λ l. slice_get l (number % n) ≡ Some x) is counted)

-- how many names there are
pub count_of : (f : ℕ → List ℕ) (n : ℕ) (names : List (List ℕ)) → names ≡ map f (range_with_len 0 n) → length names ≡ n
count_of f n names is = ap length is ∙ length-map-range_with_len f 0 n

pub names_counted : (joins seed start : ℕ) (names : Names) → start ≡ seed → HasMadeNames joins start names
    → (length names.newcomers ≡ joins) × HasMadeNames (length names.newcomers) seed names
names_counted joins seed start names same made =
    let are = subst (λ s. HasMadeNames joins s names) same made in
    let count = count_of (newcomer seed) joins names.newcomers are.newcomers in
    (count, subst (λ n. HasMadeNames n seed names) (sym count) are)
