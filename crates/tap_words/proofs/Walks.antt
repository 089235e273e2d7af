-- How the command goes over plain words, choice by choice.
use Rattle.std.proofs.Common.{◌≡◌, ◌<◌, ◌++◌, ◌∙◌, ◌^◌, Bool, List, None, Option, Some, [], ap, arith, false, fold, refl, sym, true, ℕ, ◌∷◌}
use Rattle.std.specs.Prelude.{◌==◌, codes, decimal, if◌then◌else◌}
use Rattle.std.specs.List.{list_any}
use Rattle.std.specs.Str.{bytes_eq}
use Rattle.std.proofs.lemmas.List.{map-append}
use Rattle.clap.proofs.OnLiterals.{clap_on_literals}
use Rattle.clap.specs.Faults.{flag_word_fault, settle_fault, step_fault, turn_fault, walk_fault}
use Rattle.clap.specs.Kinds.{or_else}
use Rattle.clap.specs.Lexer.{long_of, short_of}
use Rattle.clap.specs.ValueTests.{is_unsigned_in}
use Rattle.clap.specs.Walk.{Held, Step, Waiting, Walk, arg_by_id, has_row, idle, long_or_other, option, option_word, plain_word, settled, short_or_plain, walked, with_values, without, word_met}
use Rattle.clap.specs.Words.{Kinds, Row, Rule, Shape, Text, built}
use Rattle.clap.specs.declared.parser.matches.ValueSource.TheVariants.{CommandLine}
use Rattle.clap.specs.declared.builder.value_parser.Reading.TheVariants.{AsWritten}
use Rattle.tap_words.specs.Command.{command_app}
use Rattle.tap_words.specs.Plain.{Choice, IsInLimits, are_alike, words_of_choice}
use Rattle.tap_words.specs.Plain.Choice.{brief, make, seed}
use Rattle.tap_words.proofs.Numbers.{decimal_fits, decimal_starts}
use Rattle.tap_words.proofs.Rows.{has_row-among, id_of, row_added, row_of_choice, rows_of_choices, value_of}

abbrev pub shape : Shape
shape = (built command_app).top

-- the walk where nothing stopped it
abbrev pub at : Held → Waiting → Walk
at h w = record { held = h; waiting = w; position = 1; is_trailing = false; stopped = None }

abbrev pub held : List Row → Option (Text × List Text) → Held
held rows pending = record { rows = rows; pending = pending; skip = 0 }

-- ---- a word that doesn't begin with a hyphen is the value of the option that waits

no_long : (d : ℕ) (ds : Text) → (d == 45) ≡ false → long_of (d ∷ ds) ≡ None
no_long d ds plain = rw plain refl

no_short : (d : ℕ) (ds : Text) → (d == 45) ≡ false → short_of (d ∷ ds) ≡ None
no_short d ds plain = rw plain refl

no_dashes : (d : ℕ) (ds : Text) → (d == 45) ≡ false → bytes_eq (d ∷ ds) (45 ∷ 45 ∷ []) ≡ false
no_dashes d ds plain = rw plain refl

second : {A : Type 0} (b : Bool) (x y : A) → b ≡ false → (if b then x else y) ≡ y
second false x y e = refl
second true x y e = cc

long_none : (c : List Rule) (w : Waiting) (word : Text) (o : Option (Text × Option Text)) (h : Held) → o ≡ None
    → long_or_other c w word o h ≡ short_or_plain c w word (short_of word) h
long_none c w word None h e = refl
long_none c w word (Some p) h e = cc

short_none : (c : List Rule) (w : Waiting) (word : Text) (o : Option Text) (h : Held) → o ≡ None
    → short_or_plain c w word o h ≡ plain_word c w word h
short_none c w word None h e = refl
short_none c w word (Some p) h e = cc

word_is : (c : List Rule) (names : List (Text × List Text)) (id : Text) (position d : ℕ) (ds : Text) (h : Held) → (d == 45) ≡ false
    → word_met c names false (option id) position (d ∷ ds) h ≡ plain_word c (option id) (d ∷ ds) h
word_is c names id position d ds h plain =
    second _ _ _ (no_dashes d ds plain)
    ∙ long_none c (option id) (d ∷ ds) _ h (no_long d ds plain)
    ∙ short_none c (option id) (d ∷ ds) _ h (no_short d ds plain)

value_walked : (c : List Rule) (names : List (Text × List Text)) (id : Text) (d : ℕ) (ds : Text) (h : Held) → (d == 45) ≡ false
    → walked c names (at h (option id)) (d ∷ ds)
    ≡ at (option_word (arg_by_id c id) id (d ∷ ds) h).0 (option_word (arg_by_id c id) id (d ∷ ds) h).1
unfolding walked
value_walked c names id d ds h plain = rw (word_is c names id 1 d ds h plain) refl

pub none_of : (a b : Kinds) → a ≡ [] → b ≡ [] → or_else a b ≡ []
none_of a b e f = rw (e, f) refl

flag_none : (s : Shape) (o : Option (Text × Option Text)) (word : Text) (h : Held) → o ≡ None → short_of word ≡ None
    → flag_word_fault s.rules s.args_override_self o word h ≡ []
flag_none s None word h e f = rw f refl
flag_none s (Some p) word h e f = cc

value_fault : (s : Shape) (names : List (Text × List Text)) (id : Text) (d : ℕ) (ds : Text) (h : Held) → (d == 45) ≡ false
    → turn_fault s names (at h (option id)) (d ∷ ds) ≡ []
value_fault s names id d ds h plain =
    none_of _ _
    (second _ _ _ (no_dashes d ds plain) ∙ flag_none s _ (d ∷ ds) h (no_long d ds plain) (no_short d ds plain))
    (ap (λ (m : Held × Step). step_fault s 1 m.0 m.1) (word_is s.rules names id 1 d ds h plain))

-- ---- each word

brief_word : (h : Held) → settle_fault shape.rules false h ≡ [] → has_row (codes "brief") (settled shape.rules h).rows ≡ false
    → turn_fault shape [] (at h idle) (codes "--brief") ≡ []
unfolding clap_on_literals command_app
brief_word h good new = none_of _ _ (none_of _ _ good (rw new refl)) refl

brief_to : (h : Held) → h.skip ≡ 0 → walked shape.rules [] (at h idle) (codes "--brief")
    ≡ at (held (with_values (codes "brief") AsWritten CommandLine (codes "true" ∷ []) (without (codes "brief") (settled shape.rules h).rows)) None) idle
unfolding clap_on_literals command_app
brief_to h e = rw e refl

make_word : (h : Held) → settle_fault shape.rules false h ≡ [] → turn_fault shape [] (at h idle) (codes "--make") ≡ []
unfolding clap_on_literals command_app
make_word h good = none_of _ _ good refl

make_to : (h : Held) → h.skip ≡ 0 → walked shape.rules [] (at h idle) (codes "--make")
    ≡ at (held (settled shape.rules h).rows (Some (codes "make", []))) (option (codes "make"))
unfolding clap_on_literals command_app
make_to h e = rw e refl

seed_word : (h : Held) → settle_fault shape.rules false h ≡ [] → turn_fault shape [] (at h idle) (codes "--seed") ≡ []
unfolding clap_on_literals command_app
seed_word h good = none_of _ _ good refl

seed_to : (h : Held) → h.skip ≡ 0 → walked shape.rules [] (at h idle) (codes "--seed")
    ≡ at (held (settled shape.rules h).rows (Some (codes "seed", []))) (option (codes "seed"))
unfolding clap_on_literals command_app
seed_to h e = rw e refl

-- ---- each value

-- what is held after an option's value, before it is used
abbrev valued : Text → List Row → Text → Held
valued id rows value = held rows (Some (id, value ∷ []))

make_value_to : (rows : List Row) (d : ℕ) (ds : Text) → (d == 45) ≡ false
    → walked shape.rules [] (at (held rows (Some (codes "make", []))) (option (codes "make"))) (d ∷ ds)
    ≡ at (valued (codes "make") rows (d ∷ ds)) idle
unfolding clap_on_literals command_app
make_value_to rows d ds plain = value_walked shape.rules [] (codes "make") d ds (held rows (Some (codes "make", []))) plain

seed_value_to : (rows : List Row) (d : ℕ) (ds : Text) → (d == 45) ≡ false
    → walked shape.rules [] (at (held rows (Some (codes "seed", []))) (option (codes "seed"))) (d ∷ ds)
    ≡ at (valued (codes "seed") rows (d ∷ ds)) idle
unfolding clap_on_literals command_app
seed_value_to rows d ds plain = value_walked shape.rules [] (codes "seed") d ds (held rows (Some (codes "seed", []))) plain

make_good : (rows : List Row) (value : Text) → is_unsigned_in 0 18446744073709551615 value ≡ true → has_row (codes "make") rows ≡ false
    → settle_fault shape.rules false (valued (codes "make") rows value) ≡ []
unfolding clap_on_literals command_app
make_good rows value fits new = rw (new, fits) refl

seed_good : (rows : List Row) (value : Text) → is_unsigned_in 0 18446744073709551615 value ≡ true → has_row (codes "seed") rows ≡ false
    → settle_fault shape.rules false (valued (codes "seed") rows value) ≡ []
unfolding clap_on_literals command_app
seed_good rows value fits new = rw (new, fits) refl

make_rows : (rows : List Row) (value : Text) → (settled shape.rules (valued (codes "make") rows value)).rows
    ≡ with_values (codes "make") AsWritten CommandLine (value ∷ []) (without (codes "make") rows)
unfolding clap_on_literals command_app
make_rows rows value = refl

seed_rows : (rows : List Row) (value : Text) → (settled shape.rules (valued (codes "seed") rows value)).rows
    ≡ with_values (codes "seed") AsWritten CommandLine (value ∷ []) (without (codes "seed") rows)
unfolding clap_on_literals command_app
seed_rows rows value = refl

-- ---- choice by choice

-- what is held after these choices
pub record IsReady (given : List Choice) (h : Held) : Type 0 where
  pub skip : h.skip ≡ 0
  pub fine : settle_fault shape.rules false h ≡ []
  pub rows : (settled shape.rules h).rows ≡ rows_of_choices given

-- the walk takes the words, and is then ready with these choices
pub record Takes (words : List Text) (h : Held) (given : List Choice) : Type 0 where
  pub end : Held
  pub fine : walk_fault shape [] (at h idle) words ≡ []
  pub walks : fold (walked shape.rules []) (at h idle) words ≡ at end idle
  pub ready : IsReady given end

-- no row has the id of a new choice
new_row : (given : List Choice) (h : Held) (choice : Choice) → IsReady given h → list_any (are_alike choice) given ≡ false
    → has_row (id_of choice) (settled shape.rules h).rows ≡ false
new_row given h choice ready new = rw ready.rows (has_row-among choice given ∙ new)

-- the rows with those of a new choice
rows_more : (given : List Choice) (h : Held) (choice : Choice) → IsReady given h → list_any (are_alike choice) given ≡ false
    → with_values (id_of choice) AsWritten CommandLine (value_of choice ∷ []) (without (id_of choice) (settled shape.rules h).rows)
    ≡ rows_of_choices (given ++ choice ∷ [])
rows_more given h choice ready new =
    row_added (id_of choice) (value_of choice) (settled shape.rules h).rows (new_row given h choice ready new)
    ∙ ap (λ rows. rows ++ row_of_choice choice ∷ []) ready.rows ∙ sym (map-append row_of_choice given (choice ∷ []))

one_word : (w : Walk) (word : Text) → turn_fault shape [] w word ≡ [] → walk_fault shape [] w (word ∷ []) ≡ []
unfolding walk_fault
one_word w word here = none_of _ _ here refl

two_words : (w v x : Walk) (word value : Text) → turn_fault shape [] w word ≡ [] → walked shape.rules [] w word ≡ v
    → turn_fault shape [] v value ≡ [] → walked shape.rules [] v value ≡ x → walk_fault shape [] w (word ∷ value ∷ []) ≡ []
unfolding walk_fault
two_words w v x word value here to there on = none_of _ _ here (rw to (none_of _ _ there refl))

two_walked : (w v x : Walk) (word value : Text) → walked shape.rules [] w word ≡ v → walked shape.rules [] v value ≡ x
    → fold (walked shape.rules []) w (word ∷ value ∷ []) ≡ x
two_walked w v x word value to on = rw (to, on) refl

takes_brief : (given : List Choice) (h : Held) → IsReady given h → list_any (are_alike brief) given ≡ false
    → Takes (words_of_choice brief) h (given ++ brief ∷ [])
takes_brief given h ready new =
    let rows = with_values (codes "brief") AsWritten CommandLine (codes "true" ∷ []) (without (codes "brief") (settled shape.rules h).rows) in
    let to = brief_to h ready.skip in
    record {
      end = held rows None;
      fine = one_word (at h idle) (codes "--brief") (brief_word h ready.fine (new_row given h brief ready new));
      walks = to;
      ready = record { skip = refl; fine = refl; rows = rows_more given h brief ready new };
    }

takes_make : (given : List Choice) (h : Held) (joins : ℕ) → IsReady given h → list_any (are_alike (make joins)) given ≡ false → joins < 2 ^ 64
    → Takes (words_of_choice (make joins)) h (given ++ make joins ∷ [])
takes_make given h joins ready new small =
    let text = decimal_starts joins small in
    let rows = (settled shape.rules h).rows in
    let to = make_to h ready.skip in
    let on : walked shape.rules [] (at (held rows (Some (codes "make", []))) (option (codes "make"))) (decimal joins)
    ≡ at (valued (codes "make") rows (decimal joins)) idle =
    rw text.is (make_value_to rows text.first text.rest text.plain) in
    let there : turn_fault shape [] (at (held rows (Some (codes "make", []))) (option (codes "make"))) (decimal joins) ≡ [] =
    rw text.is (value_fault shape [] (codes "make") text.first text.rest (held rows (Some (codes "make", []))) text.plain) in
    record {
      end = valued (codes "make") rows (decimal joins);
      fine = two_words _ _ _ (codes "--make") (decimal joins) (make_word h ready.fine) to there on;
      walks = two_walked _ _ _ (codes "--make") (decimal joins) to on;
      ready = record {
        skip = refl;
        fine = make_good rows (decimal joins) (decimal_fits joins small) (new_row given h (make joins) ready new);
        rows = make_rows rows (decimal joins) ∙ rows_more given h (make joins) ready new;
      };
    }

takes_seed : (given : List Choice) (h : Held) (number : ℕ) → IsReady given h → list_any (are_alike (seed number)) given ≡ false
    → number < 2 ^ 64 → Takes (words_of_choice (seed number)) h (given ++ seed number ∷ [])
takes_seed given h number ready new small =
    let text = decimal_starts number small in
    let rows = (settled shape.rules h).rows in
    let to = seed_to h ready.skip in
    let on : walked shape.rules [] (at (held rows (Some (codes "seed", []))) (option (codes "seed"))) (decimal number)
    ≡ at (valued (codes "seed") rows (decimal number)) idle =
    rw text.is (seed_value_to rows text.first text.rest text.plain) in
    let there : turn_fault shape [] (at (held rows (Some (codes "seed", []))) (option (codes "seed"))) (decimal number) ≡ [] =
    rw text.is (value_fault shape [] (codes "seed") text.first text.rest (held rows (Some (codes "seed", []))) text.plain) in
    record {
      end = valued (codes "seed") rows (decimal number);
      fine = two_words _ _ _ (codes "--seed") (decimal number) (seed_word h ready.fine) to there on;
      walks = two_walked _ _ _ (codes "--seed") (decimal number) to on;
      ready = record {
        skip = refl;
        fine = seed_good rows (decimal number) (decimal_fits number small) (new_row given h (seed number) ready new);
        rows = seed_rows rows (decimal number) ∙ rows_more given h (seed number) ready new;
      };
    }

pub takes_choice : (given : List Choice) (h : Held) (choice : Choice) → IsReady given h → list_any (are_alike choice) given ≡ false
    → IsInLimits choice → Takes (words_of_choice choice) h (given ++ choice ∷ [])
takes_choice given h brief ready new plain = takes_brief given h ready new
takes_choice given h (make joins) ready new plain = takes_make given h joins ready new (omega (arith, plain.1))
takes_choice given h (seed number) ready new plain = takes_seed given h number ready new plain
