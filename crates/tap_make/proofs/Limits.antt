-- made scenarios are within the limits of scenarios
-- Cited above: made_well
use Rattle.std.proofs.Common.{◌≡◌, ℕ, zero, suc, ◌+◌, ◌*◌, ◌^◌, ◌<◌, ◌≤◌, false, min, List, [], ◌∷◌, ◌++◌, map, length, get_or, All, flat_map, ap, sym, subst, ◌∙◌, arith, length-append, mul-suc}
use Rattle.std.specs.List.{range_with_len}
use Rattle.std.proofs.lemmas.List.Elements.{All-append, All-cons, All-map, All-nil}
use Rattle.std.proofs.lemmas.List.FromFn.{length-map-range_with_len, length-range_with_len}
use Rattle.tap_name.specs.Name.{IsName}
use Rattle.tap_name.specs.Settings.{SettingsValue}
use Rattle.tap_scenario.specs.declared.step.Step.{Step}
use Rattle.tap_scenario.specs.declared.step.Step.TheVariants.{Depart, Find, Join, Publish, Settle, SettleMixed, Walk}
use Rattle.tap_scenario.specs.Scenario.{IsScript, ScenarioValue}
use Rattle.tap_scenario.specs.Step.{IsStep}
use Rattle.tap_scenario.proofs.StepTexts.{step_of_text-text}
use Rattle.tap_make.specs.WellMade.{IsWellMade}
use Rattle.tap_make.specs.Made.{made, made_settings}
use Rattle.tap_make.specs.MadeNames.{made_members, made_node, marked_name, member_count, newcomer, object_count}
use Rattle.tap_make.specs.MadeSteps.{lookup_count, made_departures, made_join, made_lookup, made_lookups, made_publication, made_publications, made_steps, made_walk, made_wave, made_waves, wave_count, wave_size, wave_walks}
use Rattle.tap_make.proofs.Marked.{distinct_members, distinct_nodes, distinct_objects, marked_name-IsName}

-- ---- lists of a function of the index

All-range : {X : Type 0} (P : X → Type 0) (f : ℕ → X) (n : ℕ) → ((i : ℕ) → P (f i)) → All P (map f (range_with_len 0 n))
All-range P f n all = All-map P f (range_with_len 0 n) (λ k d h. all (get_or (range_with_len 0 n) k d))

All-parts : {X : Type 0} (P : X → Type 0) (f : ℕ → List X) (from n : ℕ) → ((i : ℕ) → i < from + n → All P (f i))
    → All P (flat_map f (range_with_len from n))
All-parts P f from zero all = All-nil P
All-parts P f from (suc n) all =
    All-append P (f from) (flat_map f (range_with_len (from + 1) n)) (all from (omega arith))
    (All-parts P f (from + 1) n (λ i within. all i (omega arith)))

length-parts : {X : Type 0} (f : ℕ → List X) (most : ℕ) (places : List ℕ) → ((i : ℕ) → length (f i) ≤ most)
    → length (flat_map f places) ≤ most * length places
length-parts f most [] few = omega arith
length-parts f most (i ∷ places) few =
    let rest = length-parts f most places few in
    let whole = length-append (f i) (flat_map f places) in
    let more : most * length (i ∷ places) ≡ most * length places + most = mul-suc most (length places) in
    let one = few i in
    omega arith

-- ---- what holds of each step

few_waves : (joins : ℕ) → joins ≤ 100 → wave_count joins ≤ 25
few_waves joins few = omega arith

-- what holds of steps of each kind that are made holds of all steps
module _ (P : Step → Type 0) (settle : P Settle) (mixed : (wave : ℕ) → wave < 100 → P (SettleMixed (wave + 1)))
    (depart : (n p : ℕ) → P (Depart (marked_name n p)))
    (publish : (n p m q : ℕ) → P (Publish (marked_name n p) (marked_name m q)))
    (join : (n p m q : ℕ) → P (Join (marked_name n p) (marked_name m q)))
    (walk : (n p m q : ℕ) → P (Walk (marked_name n p) (marked_name m q)))
    (find : (n p m q : ℕ) → P (Find (marked_name n p) (marked_name m q))) where
  each_publication : (joins seed : ℕ) → All P (made_publications joins seed)
  each_publication joins seed = All-range P (made_publication joins seed) object_count (λ i. publish _ _ _ _)

  one_settle : All P (Settle ∷ [])
  one_settle = All-cons P Settle [] settle (All-nil P)

  each_of_wave : (joins seed wave : ℕ) → wave < 100 → All P (made_wave joins seed wave)
  each_of_wave joins seed wave few =
      All-append P (map (made_join joins seed wave) (range_with_len 0 (wave_size joins wave)))
      (SettleMixed (wave + 1) ∷ map (made_walk joins seed wave) (range_with_len 0 wave_walks))
      (All-range P (made_join joins seed wave) (wave_size joins wave) (λ i. join _ _ _ _))
      (All-cons P (SettleMixed (wave + 1)) (map (made_walk joins seed wave) (range_with_len 0 wave_walks)) (mixed wave few)
      (All-range P (made_walk joins seed wave) wave_walks (λ i. walk _ _ _ _)))

  each_of_waves : (joins seed : ℕ) → joins ≤ 100 → All P (made_waves joins seed)
  each_of_waves joins seed few =
      All-parts P (made_wave joins seed) 0 (wave_count joins)
      (λ i within. each_of_wave joins seed i (let most = few_waves joins few in omega arith))

  each_lookup : (joins seed : ℕ) → All P (made_lookups joins seed)
  each_lookup joins seed =
      All-parts P (λ number. made_lookup joins seed number ∷ Settle ∷ []) 0 lookup_count
      (λ i within. All-cons P (made_lookup joins seed i) (Settle ∷ []) (find _ _ _ _) one_settle)

  each_departure : (joins seed : ℕ) → All P (made_departures joins seed)
  each_departure joins seed =
      All-parts P (λ number. Depart (newcomer seed number) ∷ Settle ∷ []) 0 (min 2 joins)
      (λ i within. All-cons P (Depart (newcomer seed i)) (Settle ∷ []) (depart _ _) one_settle)

  each_step : (joins seed : ℕ) → joins ≤ 100 → All P (made_steps joins seed)
  each_step joins seed few =
      let begun = All-append P (made_publications joins seed) (Settle ∷ made_waves joins seed) (each_publication joins seed)
      (All-cons P Settle (made_waves joins seed) settle (each_of_waves joins seed few)) in
      let asked = All-append P (made_publications joins seed ++ Settle ∷ made_waves joins seed) (made_lookups joins seed) begun
      (each_lookup joins seed) in
      All-append P (made_publications joins seed ++ Settle ∷ made_waves joins seed ++ made_lookups joins seed)
      (made_departures joins seed) asked
      (each_departure joins seed)

-- each step is one of the settings
named : (number place : ℕ) → IsName made_settings (marked_name number place)
named = marked_name-IsName

mixed_fits : (wave : ℕ) → wave < 100 → wave + 1 < 2 ^ 64
mixed_fits wave few = let least : 101 ≤ 2 ^ 64 = omega arith in omega arith

steps_fit : (joins seed : ℕ) → joins ≤ 100 → All (IsStep made_settings false) (made_steps joins seed)
steps_fit joins seed few =
    each_step (IsStep made_settings false) tt mixed_fits (λ n p. named n p) (λ n p m q. (named n p, named m q))
    (λ n p m q. (named n p, named m q)) (λ n p m q. (named n p, named m q)) (λ n p m q. (named n p, named m q)) joins seed few

-- ---- there are few steps

length_of_wave : (joins seed wave : ℕ) → length (made_wave joins seed wave) ≤ 10
length_of_wave joins seed wave =
    let joined = length-map-range_with_len (made_join joins seed wave) 0 (wave_size joins wave) in
    let walked = length-map-range_with_len (made_walk joins seed wave) 0 wave_walks in
    let whole = length-append (map (made_join joins seed wave) (range_with_len 0 (wave_size joins wave)))
    (SettleMixed (wave + 1) ∷ map (made_walk joins seed wave) (range_with_len 0 wave_walks)) in
    omega arith

few_in_waves : (joins seed : ℕ) → joins ≤ 100 → length (made_waves joins seed) ≤ 250
few_in_waves joins seed few =
    let count = few_waves joins few in
    let parts : length (made_waves joins seed) ≤ 10 * length (range_with_len 0 (wave_count joins)) =
    length-parts (made_wave joins seed) 10 (range_with_len 0 (wave_count joins)) (length_of_wave joins seed) in
    let places : length (range_with_len 0 (wave_count joins)) ≡ wave_count joins = length-range_with_len 0 (wave_count joins) in
    omega arith

two_each : (f : ℕ → Step) (n : ℕ) → length (flat_map (λ number. f number ∷ Settle ∷ []) (range_with_len 0 n)) ≤ 2 * n
two_each f n =
    let parts = length-parts (λ number. f number ∷ Settle ∷ []) 2 (range_with_len 0 n) (λ i. omega arith) in
    let places = length-range_with_len 0 n in
    omega arith

few_whole : (first second third fourth : List Step) (step : Step) → length first ≡ 20 → length second ≤ 250 → length third ≤ 60
    → length fourth ≤ 4 → length (first ++ step ∷ second ++ third ++ fourth) ≤ 10000
few_whole first second third fourth step a b c d =
    let begun = length-append first (step ∷ second) in
    let asked = length-append (first ++ step ∷ second) third in
    let whole = length-append (first ++ step ∷ second ++ third) fourth in
    omega (arith, a, b, c, d, begun, asked, whole)

few_steps : (joins seed : ℕ) → joins ≤ 100 → length (made_steps joins seed) ≤ 10000
few_steps joins seed few =
    let leave : length (made_departures joins seed) ≤ 2 * min 2 joins = two_each (λ number. Depart (newcomer seed number)) (min 2 joins) in
    few_whole (made_publications joins seed) (made_waves joins seed) (made_lookups joins seed) (made_departures joins seed) Settle
    (length-map-range_with_len (made_publication joins seed) 0 object_count) (few_in_waves joins seed few)
    (two_each (made_lookup joins seed) lookup_count) (omega arith)

-- ---- the whole scenario

made_script : (joins seed : ℕ) → joins ≤ 100 → IsScript (made joins seed)
made_script joins seed few =
    let count = length-map-range_with_len (made_node seed) 0 member_count in
    record {
      settings = record {
        base_from = omega arith;
        base_to = omega arith;
        digits_from = omega arith;
        digits_to = omega arith;
        width_from = omega arith;
        width_to = omega arith;
      };
      frames_from = omega arith;
      frames_to = omega arith;
      members_from = omega (arith, count);
      members_to = omega (arith, count);
      members = All-range (IsName made_settings) (made_node seed) member_count (λ i. named _ _);
      distinct = distinct_members seed;
      steps_to = few_steps joins seed few;
      steps = steps_fit joins seed few;
    }

pub made_well : (joins seed : ℕ) → joins ≤ 100 → IsWellMade joins seed
made_well joins seed few = record {
  script = made_script joins seed few;
  read_back = λ k d within. step_of_text-text made_settings false (get_or (made_steps joins seed) k d) (omega arith)
      (steps_fit joins seed few k d within);
  nodes = distinct_nodes joins seed few;
  objects = distinct_objects joins seed;
}

-- parts that are those of a made scenario
pub made_of_parts : (joins seed : ℕ) (p : SettingsValue) (members : List (List ℕ)) (steps : List Step) → p ≡ made_settings
    → members ≡ made_members seed → steps ≡ made_steps joins seed
    → record { settings = p; frames = 500000; carrier = false; members = members; steps = steps } ≡ made joins seed
made_of_parts joins seed p members steps settings are_members are_steps =
    let by_settings : SettingsValue → ScenarioValue =
    λ q. record { settings = q; frames = 500000; carrier = false; members = members; steps = steps } in
    let by_members : List (List ℕ) → ScenarioValue =
    λ names. record { settings = made_settings; frames = 500000; carrier = false; members = names; steps = steps } in
    let by_steps : List Step → ScenarioValue =
    λ all. record { settings = made_settings; frames = 500000; carrier = false; members = made_members seed; steps = all } in
    ap by_settings settings ∙ ap by_members are_members ∙ ap by_steps are_steps

pub script_of_parts : (joins seed : ℕ) (p : SettingsValue) (members : List (List ℕ)) (steps : List Step) → joins ≤ 100 → p ≡ made_settings
    → members ≡ made_members seed → steps ≡ made_steps joins seed
    → IsScript (record { settings = p; frames = 500000; carrier = false; members = members; steps = steps })
script_of_parts joins seed p members steps few settings are_members are_steps =
    subst IsScript (sym (made_of_parts joins seed p members steps settings are_members are_steps)) (made_script joins seed few)
