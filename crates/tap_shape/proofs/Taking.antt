-- What the answers about a line say of the text that is taken.
use Rattle.std.proofs.Common.{◌≡◌, ℕ, Bool, true, false, List, [], Option, None, Some, option_map, refl, ap, sym, ◌∙◌}
use Rattle.tap_log.specs.declared.record.Record.{Record}
use Rattle.tap_shape.specs.declared.reader.Begun.{Begun}
use Rattle.tap_shape.specs.Reader.{HasBegun, Start, if_taken, text_taken}
use Rattle.tap_shape.proofs.Accepts.{start}

-- the first line is taken
pub begun_by : (records : List Record) (text : List ℕ) (found : Option Begun) (r : Begun)
    → option_map HasBegun found ≡ text_taken (Start records) text → records ≡ [] → found ≡ Some r → text_taken start text ≡ Some (HasBegun r)
begun_by records text found r reads none is =
    sym (ap (λ (l : List Record). text_taken (Start l) text) none) ∙ sym reads ∙ ap (option_map HasBegun) is

-- or it isn't
pub unbegun_by : (records : List Record) (text : List ℕ) (found : Option Begun)
    → option_map HasBegun found ≡ text_taken (Start records) text → records ≡ [] → ((r : Begun) → found ≡ Some r → ⊥)
    → text_taken start text ≡ None
unbegun_by records text None reads none never = sym (ap (λ (l : List Record). text_taken (Start l) text) none) ∙ sym reads
unbegun_by records text (Some r) reads none never = absurd (never r refl)

-- a further line is taken
pub taken_by : (taken : Bool) (r next : Begun) (text : List ℕ) → option_map HasBegun (if_taken taken next) ≡ text_taken (HasBegun r) text
    → taken ≡ true → text_taken (HasBegun r) text ≡ Some (HasBegun next)
taken_by taken r next text reads is = sym reads ∙ ap (λ t. option_map HasBegun (if_taken t next)) is

-- or it isn't
pub refused_by : (taken : Bool) (r next : Begun) (text : List ℕ) → option_map HasBegun (if_taken taken next) ≡ text_taken (HasBegun r) text
    → taken ≡ false → text_taken (HasBegun r) text ≡ None
refused_by taken r next text reads is = sym reads ∙ ap (λ t. option_map HasBegun (if_taken t next)) is
