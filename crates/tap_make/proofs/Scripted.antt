-- the steps that are added are those of the definition
use Rattle.std.proofs.Common.{◌≡◌, ℕ, ◌+◌, ◌*◌, ◌<◌, List, [], ◌∷◌, ◌++◌, map, slice_get, Some, ap, subst, ◌∙◌, append_assoc}
use Rattle.std.specs.List.{range_with_len}
use Rattle.tap_scenario.specs.declared.step.Step.{Step}
use Rattle.tap_scenario.specs.declared.step.Step.TheVariants.{Find, Join, Publish, Settle, SettleMixed, Walk}
use Rattle.tap_make.specs.Draws.{DrawsValue, further}
use Rattle.tap_make.specs.MadeNames.{drawn_member, drawn_object, made_newcomers, made_object, made_objects, newcomer, object_count}
use Rattle.tap_make.specs.MadeSteps.{drawn_walk, lookups_from, made_departures, made_join, made_lookup, made_lookups, made_publication, made_publications, made_steps, made_walk, made_wave, made_waves, publications_from, wave_from, wave_size}
use Rattle.tap_make.proofs.LoopLists.{made_at}

-- ---- names at a place

pub object_at : (joins seed i : ℕ) (objects : List (List ℕ)) (x : List ℕ) → objects ≡ made_objects joins seed → i < object_count
    → slice_get objects i ≡ Some x → x ≡ made_object joins seed i
object_at joins seed i objects x is within got =
    made_at (made_object joins seed) object_count i x within (subst (λ l. slice_get l i ≡ Some x) is got)

pub newcomer_at : (joins seed i : ℕ) (newcomers : List (List ℕ)) (x : List ℕ) → newcomers ≡ made_newcomers joins seed → i < joins
    → slice_get newcomers i ≡ Some x → x ≡ newcomer seed i
newcomer_at joins seed i newcomers x is within got =
    made_at (newcomer seed) joins i x within (subst (λ l. slice_get l i ≡ Some x) is got)

-- two steps more
pub two_more : (before one two : List Step) (x y : Step) → one ≡ before ++ x ∷ [] → two ≡ one ++ y ∷ [] → two ≡ before ++ x ∷ y ∷ []
two_more before one two x y first second = second ∙ ap (λ l. l ++ y ∷ []) first ∙ append_assoc before (x ∷ []) (y ∷ [])

-- ---- single steps

pub publication_made : (joins number : ℕ) (d0 d : DrawsValue) (object server : List ℕ) → d0.place ≡ publications_from joins
    → d ≡ further d0 number → object ≡ made_object joins d0.seed number → server ≡ drawn_member d.seed d.place
    → Publish object server ≡ made_publication joins d0.seed number
publication_made joins number d0 d object server from at is_object is_server =
    ap (λ o. Publish o server) is_object
    ∙ ap (Publish (made_object joins d0.seed number)) (is_server ∙ ap (λ (e : DrawsValue). drawn_member e.seed e.place) at
    ∙ ap (λ p. drawn_member d0.seed (p + number)) from)

pub lookup_made : (joins number : ℕ) (d0 d1 d2 : DrawsValue) (object asker : List ℕ) → d0.place ≡ lookups_from joins
    → d1 ≡ further d0 (2 * number) → d2 ≡ further d1 1 → object ≡ drawn_object joins d1.seed d1.place
    → asker ≡ drawn_member d2.seed d2.place
    → Find object asker ≡ made_lookup joins d0.seed number
lookup_made joins number d0 d1 d2 object asker from first second is_object is_asker =
    let asked : object ≡ drawn_object joins d0.seed (lookups_from joins + 2 * number) =
    is_object ∙ ap (λ (e : DrawsValue). drawn_object joins e.seed e.place) first
    ∙ ap (λ p. drawn_object joins d0.seed (p + 2 * number)) from in
    let by : asker ≡ drawn_member d0.seed (lookups_from joins + 2 * number + 1) =
    is_asker ∙ ap (λ (e : DrawsValue). drawn_member e.seed e.place) second
    ∙ ap (λ (e : DrawsValue). drawn_member e.seed (e.place + 1)) first
    ∙ ap (λ p. drawn_member d0.seed (p + 2 * number + 1)) from in
    ap (λ o. Find o asker) asked ∙ ap (Find (drawn_object joins d0.seed (lookups_from joins + 2 * number))) by

pub walk_made : (joins number : ℕ) (d0 d1 d2 : DrawsValue) (object asker : List ℕ) → d1 ≡ further d0 (2 * number) → d2 ≡ further d1 1
    → object ≡ drawn_object joins d1.seed d1.place → asker ≡ drawn_member d2.seed d2.place
    → Walk object asker ≡ drawn_walk joins d0.seed (d0.place + 2 * number)
walk_made joins number d0 d1 d2 object asker first second is_object is_asker =
    let asked : object ≡ drawn_object joins d0.seed (d0.place + 2 * number) =
    is_object ∙ ap (λ (e : DrawsValue). drawn_object joins e.seed e.place) first in
    let by : asker ≡ drawn_member d0.seed (d0.place + 2 * number + 1) =
    is_asker ∙ ap (λ (e : DrawsValue). drawn_member e.seed e.place) second
    ∙ ap (λ (e : DrawsValue). drawn_member e.seed (e.place + 1)) first in
    ap (λ o. Walk o asker) asked ∙ ap (Walk (drawn_object joins d0.seed (d0.place + 2 * number))) by

pub join_made : (first number : ℕ) (d0 d : DrawsValue) (name via : List ℕ) → d ≡ further d0 number
    → name ≡ newcomer d0.seed (first + number)
    → via ≡ drawn_member d.seed d.place
    → Join name via ≡ Join (newcomer d0.seed (first + number)) (drawn_member d0.seed (d0.place + number))
join_made first number d0 d name via at is_name is_via =
    ap (λ x. Join x via) is_name
    ∙ ap (Join (newcomer d0.seed (first + number))) (is_via ∙ ap (λ (e : DrawsValue). drawn_member e.seed e.place) at)

-- ---- waves

between : (before joined after walked whole : List Step) (step : Step) → after ≡ (before ++ joined) ++ step ∷ []
    → whole ≡ after ++ walked → whole ≡ before ++ (joined ++ step ∷ walked)
between before joined after walked whole step one two =
    two ∙ ap (λ l. l ++ walked) one ∙ append_assoc (before ++ joined) (step ∷ []) walked ∙ append_assoc before joined (step ∷ walked)

pub wave_made : (joins wave size : ℕ) (d0 d1 : DrawsValue) (s0 s1 s2 s3 : List Step) → d0.place ≡ wave_from joins wave
    → size ≡ wave_size joins wave → d1 ≡ further d0 size
    → s1 ≡ s0 ++ map (λ i. Join (newcomer d0.seed (4 * wave + i)) (drawn_member d0.seed (d0.place + i))) (range_with_len 0 size)
    → s2 ≡ s1 ++ SettleMixed (wave + 1) ∷ []
    → s3 ≡ s2 ++ map (λ i. drawn_walk joins d1.seed (d1.place + 2 * i)) (range_with_len 0 5)
    → s3 ≡ s0 ++ made_wave joins d0.seed wave
wave_made joins wave size d0 d1 s0 s1 s2 s3 from sized at joined mixed walked =
    let joins_of : ℕ → List Step = λ p. map (λ i. Join (newcomer d0.seed (4 * wave + i)) (drawn_member d0.seed (p + i)))
    (range_with_len 0 size) in
    let first : s1 ≡ s0 ++ map (made_join joins d0.seed wave) (range_with_len 0 (wave_size joins wave)) =
    joined ∙ ap (λ p. s0 ++ joins_of p) from ∙ ap (λ n. s0 ++ map (made_join joins d0.seed wave) (range_with_len 0 n)) sized in
    let walks_of : DrawsValue → List Step = λ e. map (λ i. drawn_walk joins e.seed (e.place + 2 * i)) (range_with_len 0 5) in
    let later : ℕ → ℕ → List Step = λ p n. walks_of (record { seed = d0.seed; place = p + n }) in
    let second : s3 ≡ s2 ++ map (made_walk joins d0.seed wave) (range_with_len 0 5) =
    walked ∙ ap (λ e. s2 ++ walks_of e) at ∙ ap (λ p. s2 ++ later p size) from ∙ ap (λ n. s2 ++ later (wave_from joins wave) n) sized in
    between s0 (map (made_join joins d0.seed wave) (range_with_len 0 (wave_size joins wave))) s2
    (map (made_walk joins d0.seed wave) (range_with_len 0 5)) s3 (SettleMixed (wave + 1))
    (mixed ∙ ap (λ l. l ++ SettleMixed (wave + 1) ∷ []) first)
    second

-- ---- all steps

pub steps_made : (joins seed : ℕ) (s0 s1 s2 s3 s4 s5 : List Step) → s0 ≡ [] → s1 ≡ s0 ++ made_publications joins seed
    → s2 ≡ s1 ++ Settle ∷ [] → s3 ≡ s2 ++ made_waves joins seed → s4 ≡ s3 ++ made_lookups joins seed → s5 ≡ s4 ++ made_departures joins seed
    → s5 ≡ made_steps joins seed
steps_made joins seed s0 s1 s2 s3 s4 s5 none published settled waves lookups departures =
    let one : s1 ≡ made_publications joins seed = published ∙ ap (λ l. l ++ made_publications joins seed) none in
    let three : s3 ≡ made_publications joins seed ++ Settle ∷ made_waves joins seed =
    waves ∙ ap (λ l. l ++ made_waves joins seed) (settled ∙ ap (λ l. l ++ Settle ∷ []) one)
    ∙ append_assoc (made_publications joins seed) (Settle ∷ []) (made_waves joins seed) in
    departures ∙ ap (λ l. l ++ made_departures joins seed) (lookups ∙ ap (λ l. l ++ made_lookups joins seed) three)
