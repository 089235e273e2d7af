-- The steps of a made scenario: the objects are published; the newcomers join in waves, with walks after each; objects are looked
-- up; and two newcomers leave. The numbers that are drawn for them follow those of the names, in the order of the steps.
use Rattle.std.specs.Prelude.{ℕ, ◌+◌, ◌-◌, ◌*◌, min, List, [], ◌∷◌, ◌++◌, map}
use Rattle.std.specs.Int.{div_ceil}
use Rattle.std.specs.List.{flat_map, range_with_len}
use Rattle.tap_scenario.specs.declared.step.Step.{Step}
use Rattle.tap_scenario.specs.declared.step.Step.TheVariants.{Join, Depart, Publish, Find, Walk, Settle, SettleMixed}
use Rattle.tap_make.specs.MadeNames.{member_count, object_count, newcomer, made_object, drawn_member, drawn_object}

-- ---- the objects

-- the place of the first number that a publication draws
abbrev pub publications_from : ℕ → ℕ
publications_from joins = member_count + joins + object_count

-- the publication of the object of this number
abbrev pub made_publication : ℕ → ℕ → ℕ → Step
made_publication joins seed number =
    Publish (made_object joins seed number) (drawn_member seed (publications_from joins + number))

-- each object is published at some member
abbrev pub made_publications : ℕ → ℕ → List Step
made_publications joins seed = map (made_publication joins seed) (range_with_len 0 object_count)

-- ---- the waves

-- how many newcomers a wave has, and how many walks
abbrev pub wave_joins : ℕ
wave_joins = 4

abbrev pub wave_walks : ℕ
wave_walks = 5

-- how many waves there are: the last one may be shorter
abbrev pub wave_count : ℕ → ℕ
wave_count joins = div_ceil joins wave_joins

-- how many newcomers the wave of this number has, from 0
abbrev pub wave_size : ℕ → ℕ → ℕ
wave_size joins wave = min wave_joins (joins - wave_joins * wave)

-- the place of the first number that a wave draws: each wave before it drew one for each newcomer, and two for each walk
abbrev pub wave_from : ℕ → ℕ → ℕ
wave_from joins wave = publications_from joins + object_count + (wave_joins + 2 * wave_walks) * wave

-- the join of a newcomer of a wave
abbrev pub made_join : ℕ → ℕ → ℕ → ℕ → Step
made_join joins seed wave number =
    Join (newcomer seed (wave_joins * wave + number)) (drawn_member seed (wave_from joins wave + number))

-- the walk that draws its object by the number at a place, and its start by the next one
abbrev pub drawn_walk : ℕ → ℕ → ℕ → Step
drawn_walk joins seed place = Walk (drawn_object joins seed place) (drawn_member seed (place + 1))

-- a walk of a wave
abbrev pub made_walk : ℕ → ℕ → ℕ → ℕ → Step
made_walk joins seed wave number = drawn_walk joins seed (wave_from joins wave + wave_size joins wave + 2 * number)

-- the newcomers of a wave join, their frames are taken in the order that the wave's number from 1 mixes, and walks follow
abbrev pub made_wave : ℕ → ℕ → ℕ → List Step
made_wave joins seed wave =
    map (made_join joins seed wave) (range_with_len 0 (wave_size joins wave))
    ++ SettleMixed (wave + 1) ∷ map (made_walk joins seed wave) (range_with_len 0 wave_walks)

-- all waves
abbrev pub made_waves : ℕ → ℕ → List Step
made_waves joins seed = flat_map (made_wave joins seed) (range_with_len 0 (wave_count joins))

-- ---- the lookups

-- how many lookups there are
abbrev pub lookup_count : ℕ
lookup_count = 30

-- the place of the first number that a lookup draws: each wave has drawn two for each walk, and each newcomer one
abbrev pub lookups_from : ℕ → ℕ
lookups_from joins = publications_from joins + object_count + joins + 2 * wave_walks * wave_count joins

-- the lookup of this number
abbrev pub made_lookup : ℕ → ℕ → ℕ → Step
made_lookup joins seed number =
    let place = lookups_from joins + 2 * number in Find (drawn_object joins seed place) (drawn_member seed (place + 1))

-- each lookup, and after it all frames are taken
abbrev pub made_lookups : ℕ → ℕ → List Step
made_lookups joins seed = flat_map (λ number. made_lookup joins seed number ∷ Settle ∷ []) (range_with_len 0 lookup_count)

-- ---- the departures

-- the first newcomer leaves, and the second if there is one; after each all frames are taken
abbrev pub made_departures : ℕ → ℕ → List Step
made_departures joins seed = flat_map (λ number. Depart (newcomer seed number) ∷ Settle ∷ []) (range_with_len 0 (min 2 joins))

-- ---- all steps

abbrev pub made_steps : ℕ → ℕ → List Step
made_steps joins seed =
    made_publications joins seed ++ Settle ∷ made_waves joins seed ++ made_lookups joins seed ++ made_departures joins seed
