-- the values of an array
use Rattle.std.proofs.Common.{◌≡◌, ◌∙◌, ℕ, ◌+◌, ◌<◌, ◌≤◌, nat_le, arith, inl, inr, if◌then◌else◌, zero, suc, true, false, List, [], ◌∷◌, ◌++◌, length, get_or, drop, map, Option, None, Some, Ok, Err, refl, ap}
use Rattle.std.specs.Option.{ok_or, option_and_then}
use Rattle.std.proofs.lemmas.Bool.{cases_Bool, le-leb}
use Rattle.std.proofs.lemmas.Bool.Decides.{nat_tests}
use Rattle.std.proofs.lemmas.List.{length-map, drop_more}
use Rattle.toml.specs.declared.value.Value.{Value}
use Rattle.toml.specs.Data.{Data, string, integer, float, boolean, datetime, array, table, Members as Table, Items, item, as_str}
use Rattle.toml.specs.View.{view, items_of, items_view}
use Rattle.tap_scenario.specs.declared.fault.Fault.{Fault}
use Rattle.tap_scenario.specs.declared.fault.Fault.TheVariants.{BadValue}
use Rattle.tap_scenario.specs.declared.fault.Key.{Key}
use Rattle.tap_scenario.specs.Document.{read_at}
use Rattle.tap_scenario.specs.Key.{value_at}
use Rattle.tap_scenario.specs.Value.{are_strings, array_of_strings, strings_up_to, texts_of}

-- the names so far stand before those to come
abbrev pub names_before : List (List ℕ) → Option (List (List ℕ)) → Option (List (List ℕ))
names_before names None = None
names_before names (Some others) = Some (names ++ others)

texts_of-length : (values : List Data) → are_strings (items_of values) ≡ true → length (texts_of (items_of values)) ≡ length values
texts_of-length [] h = refl
texts_of-length (string text ∷ others) h = ap suc (texts_of-length others h)
texts_of-length (integer z ∷ others) h = absurd (cc)
texts_of-length (float x ∷ others) h = absurd (cc)
texts_of-length (boolean b ∷ others) h = absurd (cc)
texts_of-length (datetime d ∷ others) h = absurd (cc)
texts_of-length (array items ∷ others) h = absurd (cc)
texts_of-length (table entries ∷ others) h = absurd (cc)

-- an array of strings has as many texts as values
pub length-texts_of : (values : List Value) → are_strings (items_view values) ≡ true → length (texts_of (items_view values)) ≡ length values
length-texts_of values h = texts_of-length (map view values) h ∙ length-map values view

within_limit : (fault : Fault) (most : ℕ) (read : Option (List (List ℕ))) (texts : List (List ℕ)) → ok_or read fault ≡ Ok texts
    → ok_or (option_and_then (λ all. if nat_le (length all) most then Some all else None) read) fault
    ≡ (if nat_le (length texts) most then Ok texts else Err fault)
within_limit fault most None texts e = absurd (cc)
within_limit fault most (Some all) texts e =
    let same : all ≡ texts = cc in
    rw same (elim (cases_Bool (nat_le (length texts) most)) [ inl few ↦ rw few refl | inr many ↦ rw many refl ])

limited : (fault : Fault) (most : ℕ) (value : Option Data) (texts : List (List ℕ))
    → ok_or (option_and_then array_of_strings value) fault ≡ Ok texts
    → ok_or (option_and_then (strings_up_to most) value) fault ≡ (if nat_le (length texts) most then Ok texts else Err fault)
limited fault most None texts e = absurd (cc)
limited fault most (Some value) texts e = within_limit fault most (array_of_strings value) texts e

-- no more strings than there may be are read as they are
pub few_strings : (key : Key) (most : ℕ) (t : Table) (values : List Value)
    → read_at key array_of_strings t ≡ Ok (texts_of (items_view values)) → are_strings (items_view values) ≡ true
    → length values ≤ most → read_at key (strings_up_to most) t ≡ Ok (texts_of (items_view values))
few_strings key most t values read strings few =
    let len = length-texts_of values strings in
    let test : nat_le (length (texts_of (items_view values))) most ≡ true = le-leb _ _ (omega arith) in
    limited (BadValue key) most (value_at key t) (texts_of (items_view values)) read ∙ rw test refl

-- more of them are a bad value
pub many_strings : (key : Key) (most : ℕ) (t : Table) (values : List Value)
    → read_at key array_of_strings t ≡ Ok (texts_of (items_view values)) → are_strings (items_view values) ≡ true
    → most < length values → read_at key (strings_up_to most) t ≡ Err (BadValue key)
many_strings key most t values read strings many =
    let len = length-texts_of values strings in
    let test : nat_le (length (texts_of (items_view values))) most ≡ false = grind (arith, nat_tests) in
    limited (BadValue key) most (value_at key t) (texts_of (items_view values)) read ∙ rw test refl

-- the first of an array of strings has a text
first_string : (value : Data) (others : Items) → are_strings (item value others) ≡ true
    → (text : List ℕ) × (as_str value ≡ Some text) × (are_strings others ≡ true) × (texts_of (item value others) ≡ text ∷ texts_of others)
first_string (string text) others h = (text, refl, h, refl)
first_string (integer z) others h = absurd (cc)
first_string (float x) others h = absurd (cc)
first_string (boolean b) others h = absurd (cc)
first_string (datetime d) others h = absurd (cc)
first_string (array items) others h = absurd (cc)
first_string (table entries) others h = absurd (cc)

strings-drop : (values : List Value) (at : ℕ) → are_strings (items_view values) ≡ true → are_strings (items_view (drop at values)) ≡ true
strings-drop values zero h = h
strings-drop [] (suc at) h = h
strings-drop (value ∷ others) (suc at) h =
    strings-drop others at (first_string (view value) (items_view others) h).2

-- what an array of strings has at a place is the first of the texts from there on
pub text_at : (values : List Value) (at : ℕ) (value : Value) → are_strings (items_view values) ≡ true → at < length values
    → value ≡ get_or values at value
    → (text : List ℕ) × (as_str (view value) ≡ Some text)
    × (texts_of (items_view (drop at values)) ≡ text ∷ texts_of (items_view (drop (at + 1) values)))
text_at values at value strings inside is =
    let here : drop at values ≡ value ∷ drop (at + 1) values = rw (← is) at (drop_more values at value inside) in
    let left : are_strings (items_view (value ∷ drop (at + 1) values)) ≡ true = rw here at (strings-drop values at strings) in
    let first = first_string (view value) (items_view (drop (at + 1) values)) left in
    (first.0, first.1, ap (λ (those : List Value). texts_of (items_view those)) here ∙ first.3)
