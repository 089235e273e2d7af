-- Texts that are written one after another.
-- Cited above: WritesText-then
use Rattle.std.proofs.Common.{◌≡◌, ℕ, List, [], ◌++◌, append_assoc, refl, sym, ◌∙◌, subst, arith}
use Rattle.std.proofs.KnownBytes.{Appends-nil, Appends-trans}
use Rattle.tap_io.specs.Sink.{SinkState}
use Rattle.tap_io.proofs.Following.{Follows-refl, Follows-trans}
use Rattle.tap_io.proofs.Writing.{AppendsPrefixOf-append, Appends-AppendsPrefixOf}
use Rattle.tap_report.specs.Written.{AppendsAll, FirstFails, WritesText, WritesTextAs}
use Rattle.tap_report.specs.declared.written.Written.{Written}
use Rattle.tap_report.specs.declared.written.Written.TheVariants.{All, Failed}

-- two whole texts
AppendsAll-then : (old mid new : SinkState) (text more : List ℕ) → AppendsAll old mid text → AppendsAll mid new more
    → AppendsAll old new (text ++ more)
AppendsAll-then old mid new text more p q = record {
  appends = Appends-trans old.held mid.held new.held text more p.appends q.appends;
  faults = q.faults ∙ p.faults;
}

-- a failure within a text is one within a longer text
FirstFails-append : (old new : SinkState) (text more : List ℕ) → FirstFails old new text → FirstFails old new (text ++ more)
FirstFails-append old new text more f = record { prefix = AppendsPrefixOf-append old new text more f.prefix; risen = f.risen }

-- a whole text, and then a failure within the next
FirstFails-after : (old mid new : SinkState) (text more : List ℕ) → AppendsAll old mid text → FirstFails mid new more
    → FirstFails old new (text ++ more)
FirstFails-after old mid new text more p f = record {
  prefix = Appends-AppendsPrefixOf old mid new text more p.appends f.prefix;
  risen = λ h. f.risen (omega (arith, p.faults));
}

answers_then : (old mid new : SinkState) (text more : List ℕ) (first second third : Written)
    → WritesTextAs old mid text first second → WritesTextAs mid new more second third
    → WritesTextAs old new (text ++ more) first third
answers_then old mid new text more All All All p q = AppendsAll-then old mid new text more p q
answers_then old mid new text more All All Failed p q = FirstFails-after old mid new text more p q
answers_then old mid new text more All Failed All p q = absurd q
answers_then old mid new text more All Failed Failed p q = rw q (FirstFails-append old mid text more p)
answers_then old mid new text more Failed All third p q = absurd p
answers_then old mid new text more Failed Failed All p q = absurd q
answers_then old mid new text more Failed Failed Failed p q = q ∙ p

-- two texts, one after the other
pub WritesText-then : {old mid new : SinkState} {text more : List ℕ} {first second third : Written}
    → WritesText old mid text first second → WritesText mid new more second third → WritesText old new (text ++ more) first third
WritesText-then {old = old} {mid = mid} {new = new} {text = text} {more = more} {first = first} {second = second} {third = third} p q =
    record {
      follows = Follows-trans old mid new p.follows q.follows;
      answer = answers_then old mid new text more first second third p.answer q.answer;
    }

-- the same of a second text that has two parts
pub WritesText-then_two : {old mid new : SinkState} {text : List ℕ} {first second third : Written} (more others : List ℕ)
    → WritesText old mid text first second → WritesText mid new (more ++ others) second third
    → WritesText old new (text ++ more ++ others) first third
WritesText-then_two {old = old} {new = new} {text = text} {first = first} {third = third} more others p q =
    subst (λ all. WritesText old new all first third) (sym (append_assoc text more others)) (WritesText-then p q)

-- two texts, one after the other, as an operator between the two
pub ◌⨾◌ : {old mid new : SinkState} {text more : List ℕ} {first second third : Written}
    → WritesText old mid text first second → WritesText mid new more second third → WritesText old new (text ++ more) first third
p ⨾ q = WritesText-then p q

infixl 10 ◌⨾◌
none_as : (state : SinkState) (so_far : Written) → WritesTextAs state state [] so_far so_far
none_as state All = record { appends = Appends-nil state.held; faults = refl }
none_as state Failed = refl

-- nothing is written
pub WritesText-none : (state : SinkState) (so_far : Written) → WritesText state state [] so_far so_far
WritesText-none state so_far = record { follows = Follows-refl state; answer = none_as state so_far }

-- the same of a text that is empty
pub WritesText-empty : {state : SinkState} {text : List ℕ} {so_far : Written} → text ≡ [] → WritesText state state text so_far so_far
WritesText-empty {state = state} {text = text} {so_far = so_far} empty =
    subst (λ t. WritesText state state t so_far so_far) (sym empty) (WritesText-none state so_far)
