-- Plain words are accepted.
use Rattle.std.proofs.Common.{◌≡◌, ◌++◌, ◌∙◌, List, [], All, ap, append_assoc, append-nil, false, fold, inl, inr, refl, ◌∷◌}
use Rattle.std.specs.List.{flat_map, list_any}
use Rattle.std.proofs.lemmas.Bool.{cases_Bool}
use Rattle.std.proofs.lemmas.List.Elements.{All-head, All-tail}
use Rattle.std.proofs.lemmas.List.Concat.{flat_map-cons}
use Rattle.clap.specs.Faults.{built_fault, check_fault, defaults_fault, settle_fault, walk_fault}
use Rattle.clap.specs.Kinds.{or_else}
use Rattle.clap.specs.Simple.{names_of}
use Rattle.clap.specs.Walk.{Held, Walk, finished, idle, nothing_held, settled, walk, walk_from, walked, with_default}
use Rattle.clap.specs.Words.{App, Kinds, Row, Text, built, matches_of}
use Rattle.tap_words.specs.Command.{command_app, faults}
use Rattle.tap_words.specs.Plain.{AreUnlike, Choice, IsInLimits, PlainWordsAreAccepted, are_alike, words_of_choice}
use Rattle.tap_words.specs.Plain.Choice.{brief, make, seed}
use Rattle.tap_words.specs.Words.{asked_by, asked_of_rows}
use Rattle.tap_words.proofs.Ends.{brief_built, choices_said, no_checks, no_defaults, rows_at_end}
use Rattle.tap_words.proofs.Walks.{IsReady, Takes, at, none_of, shape, takes_choice}

-- ---- new choices

-- none of these choices is of a kind that was given
abbrev AreNew : List Choice → List Choice → Type 0
AreNew given [] = Unit {0}
AreNew given (choice ∷ choices) = (list_any (are_alike choice) given ≡ false) × AreNew given choices

alike_sym : (one other : Choice) → are_alike one other ≡ are_alike other one
alike_sym brief brief = refl
alike_sym brief (make joins) = refl
alike_sym brief (seed number) = refl
alike_sym (make joins) brief = refl
alike_sym (make joins) (make others) = refl
alike_sym (make joins) (seed number) = refl
alike_sym (seed number) brief = refl
alike_sym (seed number) (make joins) = refl
alike_sym (seed number) (seed other) = refl

none_more : (choice last : Choice) (given : List Choice) → list_any (are_alike choice) given ≡ false → are_alike choice last ≡ false
    → list_any (are_alike choice) (given ++ last ∷ []) ≡ false
none_more choice last [] none other = rw other refl
none_more choice last (first ∷ given) none other =
    elim (cases_Bool (are_alike choice first)) [
      | inl alike ↦ absurd (let bad = rw alike at none in cc)
      | inr unlike ↦ let others = rw unlike at none in rw unlike (none_more choice last given others other)
    ]

still_new : (given choices : List Choice) (choice : Choice) → AreNew given choices → list_any (are_alike choice) choices ≡ false
    → AreNew (given ++ choice ∷ []) choices
still_new given [] choice new unlike = tt
still_new given (next ∷ choices) choice new unlike =
    elim (cases_Bool (are_alike choice next)) [
      | inl alike ↦ absurd (let bad = rw alike at unlike in cc)
      | inr other ↦
          let others = rw other at unlike in
          (none_more next choice given new.0 (alike_sym next choice ∙ other), still_new given choices choice new.1 others)
    ]

all_new : (choices : List Choice) → AreNew [] choices
all_new [] = tt
all_new (choice ∷ choices) = (refl, all_new choices)

-- ---- all words

fold-append : (w v : Walk) (first rest : List Text) → fold (walked shape.rules []) w first ≡ v
    → fold (walked shape.rules []) w (first ++ rest) ≡ fold (walked shape.rules []) v rest
fold-append w v [] rest to = rw (← to) refl
fold-append w v (word ∷ first) rest to = fold-append (walked shape.rules [] w word) v first rest to

fault-append : (w v : Walk) (first rest : List Text) → walk_fault shape [] w first ≡ [] → fold (walked shape.rules []) w first ≡ v
    → walk_fault shape [] v rest ≡ [] → walk_fault shape [] w (first ++ rest) ≡ []
unfolding walk_fault
fault-append w v [] rest fine to others = rw to others
fault-append w v (word ∷ first) rest fine to others =
    let parts = both_none _ _ fine in
    none_of _ _ parts.0 (fault-append (walked shape.rules [] w word) v first rest parts.1 to others)
  where
    both_none : (a b : Kinds) → or_else a b ≡ [] → (a ≡ []) × (b ≡ [])
    both_none [] b e = (refl, e)
    both_none (k ∷ ks) b e = absurd cc

nothing_more : (w : Walk) → walk_fault shape [] w [] ≡ []
unfolding walk_fault
nothing_more w = refl

takes_each : (given choices : List Choice) (h : Held) → IsReady given h → AreNew given choices → AreUnlike choices → All IsInLimits choices
    → Takes (flat_map words_of_choice choices) h (given ++ choices)
takes_each given [] h ready new unlike plain =
    record { end = h; fine = nothing_more (at h idle); walks = refl; ready = rw (append-nil given) ready }
takes_each given (choice ∷ choices) h ready new unlike plain =
    let one = takes_choice given h choice ready new.0 (All-head IsInLimits choice choices plain) in
    let rest = takes_each (given ++ choice ∷ []) choices one.end one.ready (still_new given choices choice new.1 unlike.0) unlike.1
    (All-tail IsInLimits choice choices plain) in
    let words = words_of_choice choice in
    let others = flat_map words_of_choice choices in
    let split : flat_map words_of_choice (choice ∷ choices) ≡ words ++ others = flat_map-cons words_of_choice choice choices in
    record {
      end = rest.end;
      fine = rw split (fault-append (at h idle) (at one.end idle) words others one.fine one.walks rest.fine);
      walks = rw split (fold-append (at h idle) (at one.end idle) words others one.walks ∙ rest.walks);
      ready = rw append_assoc at rest.ready;
    }

-- ---- the end

-- a command with no subcommand, over a walk that ended well
ended : (b : App) (words : List Text) (h : Held) → walk_fault b.top (names_of b) (walk_from nothing_held) words ≡ []
    → walk b.top.rules (names_of b) nothing_held words ≡ at h idle → settle_fault b.top.rules b.top.args_override_self h ≡ []
    → defaults_fault (settled b.top.rules h).rows b.top.rules ≡ [] → check_fault b.top (finished b.top.rules h) false ≡ []
    → built_fault b nothing_held words ≡ []
ended b words h fine w s d c = rw (w, fine, s, d, c) refl

no_faults : (words : List Text) (h : Held) → walk_fault shape [] (walk_from nothing_held) words ≡ []
    → walk shape.rules [] nothing_held words ≡ at h idle → settle_fault shape.rules false h ≡ [] → faults words ≡ []
unfolding faults command_app
no_faults words h fine w s = ended (built command_app) words h fine w s (no_defaults (settled shape.rules h).rows) (no_checks (finished shape.rules h))

ends_with : (words : List Text) (h : Held) → walk shape.rules [] nothing_held words ≡ at h idle
    → matches_of command_app words ≡ finished shape.rules h
unfolding command_app
ends_with words h w = ap (λ (v : Walk). finished shape.rules v.held) w

accepted : (words : List Text) (rows : List Row) → faults words ≡ [] → matches_of command_app words ≡ rows → asked_by words ≡ asked_of_rows rows
unfolding asked_by
accepted words rows none same = rw (none, same) refl

pub plain_words_are_accepted : PlainWordsAreAccepted
plain_words_are_accepted choices unlike plain =
    let begun : IsReady [] nothing_held = record { skip = refl; fine = refl; rows = refl } in
    let taken = takes_each [] choices nothing_held begun (all_new choices) unlike plain in
    let words = flat_map words_of_choice choices in
    let rows = (settled shape.rules taken.end).rows in
    accepted words (finished shape.rules taken.end) (no_faults words taken.end taken.fine taken.walks taken.ready.fine)
    (ends_with words taken.end taken.walks)
    ∙ ap asked_of_rows (rows_at_end rows ∙ ap (λ given. with_default given brief_built) taken.ready.rows) ∙ choices_said choices plain
