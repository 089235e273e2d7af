-- what is read is within its limits
use Rattle.std.proofs.Common.{◌≡◌, ◌&&◌, ℕ, suc, ◌+◌, ◌≤◌, nat_le, Bool, pos, negsuc, arith, List, [], ◌∷◌, ◌++◌, length, length-append, All, None, Some, Result, Ok, Err, refl, ap, inl, inr}
use Rattle.std.specs.Option.{option_and_then, is_some}
use Rattle.std.proofs.lemmas.Bool.{cases_Bool, and_parts, leb-true}
use Rattle.std.proofs.lemmas.Bool.Decides.{nat_tests}
use Rattle.std.proofs.lemmas.List.Elements.{All-nil, All-cons, All-append}
use Rattle.toml.specs.Data.{Data, string, integer, float, boolean, datetime, array, table, Members as Table}
use Rattle.tap_name.specs.Settings.{SettingsValue, AreWithinLimits}
use Rattle.tap_name.specs.Name.{IsName}
use Rattle.tap_name.specs.Names.{are_distinct, AreDistinct}
use Rattle.tap_scenario.specs.declared.fault.Key.{Key}
use Rattle.tap_scenario.specs.declared.fault.Key.TheVariants.{Base, Digits, Width, Frames, Members, Steps}
use Rattle.tap_scenario.specs.declared.fault.Fault.{Fault}
use Rattle.tap_scenario.specs.declared.fault.Fault.TheVariants.{BadValue, BadStep}
use Rattle.tap_scenario.specs.declared.step.Step.{Step}
use Rattle.tap_scenario.specs.Document.{read_at, settings_of_table, default_frames, frames_of_table, members_of_table, steps_with, numbered_steps, steps_from, steps_of_table}
use Rattle.tap_scenario.specs.Key.{value_at}
use Rattle.tap_scenario.specs.Scenario.{IsScript, most_frames, most_members, most_steps}
use Rattle.tap_scenario.specs.Spelling.{name_in}
use Rattle.tap_scenario.specs.Spread.{steps_of_text}
use Rattle.tap_scenario.specs.Step.{IsStep}
use Rattle.tap_scenario.specs.Fault.{◌>>=◌}
use Rattle.tap_scenario.specs.Value.{whole_number, array_of_strings, strings_up_to, names_of_texts, distinct_names, members_of_texts}
use Rattle.tap_name.proofs.Membership.{are_distinct-Decides}
use Rattle.tap_scenario.proofs.Options.{and_then-back, ok_or-Ok, cons_both-back}
use Rattle.tap_scenario.proofs.Spellings.{name_in-IsName}
use Rattle.tap_scenario.proofs.PlainSteps.{steps_of_text-IsStep}

then-Ok : {A B : Type 0} (r : Result A Fault) (next : A → Result B Fault) (y : B) → (r >>= next) ≡ Ok y
    → (x : A) × (r ≡ Ok x) × (next x ≡ Ok y)
then-Ok (Ok x) next y e = (x, refl, e)
then-Ok (Err fault) next y e = absurd (cc)

whole_number-limits : (low high : ℕ) (value : Data) (n : ℕ) → whole_number low high value ≡ Some n → (low ≤ n) × (n ≤ high)
whole_number-limits low high (integer (pos m)) n e =
    elim (cases_Bool (nat_le low m && nat_le m high)) [
      | inl within ↦
          let tests = and_parts (nat_le low m) (nat_le m high) within in
          let same : Some m ≡ Some n = rw within at e in
          let is : m ≡ n = cc in
          rw (← is) (leb-true low m tests.0, leb-true m high tests.1)
      | inr out ↦ absurd (let none : None ≡ Some n = rw out at e in cc)
    ]
whole_number-limits low high (integer (negsuc m)) n e = absurd (cc)
whole_number-limits low high (string text) n e = absurd (cc)
whole_number-limits low high (float x) n e = absurd (cc)
whole_number-limits low high (boolean b) n e = absurd (cc)
whole_number-limits low high (datetime d) n e = absurd (cc)
whole_number-limits low high (array items) n e = absurd (cc)
whole_number-limits low high (table entries) n e = absurd (cc)

number_at-limits : (key : Key) (low high : ℕ) (t : Table) (n : ℕ) → read_at key (whole_number low high) t ≡ Ok n → (low ≤ n) × (n ≤ high)
number_at-limits key low high t n e =
    let value = and_then-back (whole_number low high) (value_at key t) n (ok_or-Ok _ (BadValue key) n e) in
    whole_number-limits low high value.0 n value.2

settings_of_table-limits : (t : Table) (p : SettingsValue) → settings_of_table t ≡ Ok p → AreWithinLimits p
settings_of_table-limits t p e =
    let base = then-Ok (read_at Base (whole_number 2 16) t) _ p e in
    let digits = then-Ok (read_at Digits (whole_number 1 40) t) _ p base.2 in
    let width = then-Ok (read_at Width (whole_number 1 4) t) _ p digits.2 in
    let given : SettingsValue = record { base = base.0; digits = digits.0; width = width.0 } in
    let same : given ≡ p = cc in
    let b = number_at-limits Base 2 16 t base.0 base.1 in
    let d = number_at-limits Digits 1 40 t digits.0 digits.1 in
    let w = number_at-limits Width 1 4 t width.0 width.1 in
    rw (← same) (record { base_from = b.0; base_to = b.1; digits_from = d.0; digits_to = d.1; width_from = w.0; width_to = w.1 })

default_frames-limits : (digits : ℕ) → (1 ≤ default_frames digits) × (default_frames digits ≤ most_frames digits)
default_frames-limits digits = (grind (arith, nat_tests), grind (arith, nat_tests))

frames_of_table-limits : (p : SettingsValue) (t : Table) (n : ℕ) → frames_of_table p t ≡ Ok n → (1 ≤ n) × (n ≤ most_frames p.digits)
frames_of_table-limits p t n e =
    elim (cases_Bool (is_some (value_at Frames t))) [
      | inl there ↦ number_at-limits Frames 1 (most_frames p.digits) t n (rw there at e)
      | inr absent ↦
          let same : Ok (default_frames p.digits) ≡ Ok n = rw absent at e in
          let is : default_frames p.digits ≡ n = cc in
          rw (← is) (default_frames-limits p.digits)
    ]

names_of_texts-names : (p : SettingsValue) (texts : List (List ℕ)) (names : List (List ℕ)) → p.base ≤ 16
    → names_of_texts p texts ≡ Some names
    → (length names ≡ length texts) × All (IsName p) names
names_of_texts-names p [] names small e = let none : [] ≡ names = cc in rw (← none) (refl, All-nil (IsName p))
names_of_texts-names p (text ∷ others) names small e =
    let parts = cons_both-back (name_in p text) (names_of_texts p others) names e in
    let first = name_in-IsName p text parts.0 small parts.2 in
    let rest = names_of_texts-names p others parts.1 small parts.3 in
    rw (← parts.4) (ap suc rest.0, All-cons (IsName p) parts.0 parts.1 first rest.1)

-- what a script has of its members
record AreMembers (p : SettingsValue) (names : List (List ℕ)) : Type 0 where
  from : 1 ≤ length names
  to : length names ≤ most_members
  are_names : All (IsName p) names
  distinct : AreDistinct names

members_of_texts-limits : (p : SettingsValue) (texts names : List (List ℕ)) → p.base ≤ 16 → members_of_texts p texts ≡ Some names
    → AreMembers p names
members_of_texts-limits p texts names small e =
    elim (cases_Bool (nat_le 1 (length texts) && nat_le (length texts) most_members)) [
      | inr out ↦ absurd (let none : None ≡ Some names = rw out at e in cc)
      | inl within ↦
          let tests = and_parts (nat_le 1 (length texts)) (nat_le (length texts) most_members) within in
          let from = leb-true 1 (length texts) tests.0 in
          let to = leb-true (length texts) most_members tests.1 in
          let found = and_then-back distinct_names (names_of_texts p texts) names (rw within at e) in
          let read = names_of_texts-names p texts found.0 small found.1 in
          elim (cases_Bool (are_distinct found.0)) [
            | inr twice ↦ absurd (let none : None ≡ Some names = rw twice at found.2 in cc)
            | inl distinct ↦
                let whole : Some found.0 ≡ Some names = rw distinct at found.2 in
                let same : found.0 ≡ names = cc in
                rw (← same) (record {
                  from = omega arith;
                  to = omega arith;
                  are_names = read.1;
                  distinct =
                      (are_distinct-Decides found.0).0 distinct;
                })
          ]
    ]

members_of_table-limits : (p : SettingsValue) (t : Table) (names : List (List ℕ)) → p.base ≤ 16 → members_of_table p t ≡ Ok names
    → AreMembers p names
members_of_table-limits p t names small e =
    let texts = then-Ok (read_at Members array_of_strings t) _ names e in
    members_of_texts-limits p texts.0 names small (ok_or-Ok _ (BadValue Members) names texts.2)

-- no more steps than a scenario may have, each of them one of these settings
record AreFewSteps (p : SettingsValue) (carrier : Bool) (steps : List Step) : Type 0 where
  few : length steps ≤ most_steps
  each : All (IsStep p carrier) steps

steps_with-back : (p : SettingsValue) (carrier : Bool) (before steps all : List Step) → All (IsStep p carrier) before
    → All (IsStep p carrier) steps → steps_with before steps ≡ Some all → AreFewSteps p carrier all
steps_with-back p carrier before steps all first are e =
    elim (cases_Bool (nat_le (length before + length steps) most_steps)) [
      | inr other ↦ absurd (let none : None ≡ Some all = rw other at e in cc)
      | inl within ↦
          let few = leb-true (length before + length steps) most_steps within in
          let whole : Some (before ++ steps) ≡ Some all = rw within at e in
          let same : before ++ steps ≡ all = cc in
          rw (← same) (record { few = omega (arith, length-append before steps); each = All-append (IsStep p carrier) before steps first are })
    ]

numbered_steps-Ok : (p : SettingsValue) (carrier : Bool) (number : ℕ) (before : List Step) (text : List ℕ) (all : List Step)
    → p.base ≤ 16 → All (IsStep p carrier) before → numbered_steps p carrier number before text ≡ Ok all → AreFewSteps p carrier all
unfolding numbered_steps
numbered_steps-Ok p carrier number before text all small first e =
    let told = ok_or-Ok (option_and_then (steps_with before) (steps_of_text p carrier text)) (BadStep number) all e in
    let read = and_then-back (steps_with before) (steps_of_text p carrier text) all told in
    steps_with-back p carrier before read.0 all first (steps_of_text-IsStep p carrier text read.0 small read.1) read.2

-- the steps of a string more
pub steps_from-more : (p : SettingsValue) (carrier : Bool) (number : ℕ) (before : List Step) (text : List ℕ) (others : List (List ℕ))
    (after : List Step) → numbered_steps p carrier number before text ≡ Ok after
    → steps_from p carrier number before (text ∷ others) ≡ steps_from p carrier (number + 1) after others
steps_from-more p carrier number before text others after e = rw e refl

steps_from-limits : (p : SettingsValue) (carrier : Bool) (number : ℕ) (before : List Step) (texts : List (List ℕ)) (steps : List Step)
    → p.base ≤ 16 → AreFewSteps p carrier before → steps_from p carrier number before texts ≡ Ok steps → AreFewSteps p carrier steps
steps_from-limits p carrier number before [] steps small are e = let same : before ≡ steps = cc in rw (← same) are
steps_from-limits p carrier number before (text ∷ others) steps small are e =
    let read = then-Ok (numbered_steps p carrier number before text) (λ more. steps_from p carrier (number + 1) more others) steps e in
    steps_from-limits p carrier (number + 1) read.0 others steps small
    (numbered_steps-Ok p carrier number before text read.0 small are.each read.1) read.2

steps_of_table-limits : (p : SettingsValue) (carrier : Bool) (t : Table) (steps : List Step) → p.base ≤ 16
    → steps_of_table p carrier t ≡ Ok steps → AreFewSteps p carrier steps
steps_of_table-limits p carrier t steps small e =
    let texts = then-Ok (read_at Steps (strings_up_to most_steps) t) _ steps e in
    let none : AreFewSteps p carrier [] = record { few = omega arith; each = All-nil (IsStep p carrier) } in
    steps_from-limits p carrier 1 [] texts.0 steps small none texts.2

-- the parts that a table gives are a script's
pub IsScript-parts : (t : Table) (p : SettingsValue) (frames : ℕ) (carrier : Bool) (members : List (List ℕ)) (steps : List Step)
    → settings_of_table t ≡ Ok p → frames_of_table p t ≡ Ok frames → members_of_table p t ≡ Ok members
    → steps_of_table p carrier t ≡ Ok steps
    → IsScript (record { settings = p; frames = frames; carrier = carrier; members = members; steps = steps })
IsScript-parts t p frames carrier members steps is_p is_frames is_members is_steps =
    let settings = settings_of_table-limits t p is_p in
    let count = frames_of_table-limits p t frames is_frames in
    let names = members_of_table-limits p t members settings.base_to is_members in
    let read = steps_of_table-limits p carrier t steps settings.base_to is_steps in
    record {
      settings = settings;
      frames_from = count.0;
      frames_to = count.1;
      members_from = names.from;
      members_to = names.to;
      members = names.are_names;
      distinct = names.distinct;
      steps_to = read.few;
      steps = read.each;
    }
