-- Texts that are printed one after another.
use Rattle.std.proofs.Common.{◌≡◌, ℕ, List, [], ◌++◌, append_assoc, append-nil, refl, sym, ap, ◌∙◌, subst}
use Rattle.tap_io.specs.Sink.{SinkState}
use Rattle.tap_report.specs.Printer.{PrinterValue, Prints, Waits, emptied, with_more}
use Rattle.tap_report.specs.Written.{WritesText}
use Rattle.tap_report.specs.declared.written.Written.{Written}
use Rattle.tap_report.proofs.WritesLemmas.{WritesText-none, WritesText-then}

-- what is left of two texts is what is left of the second one
rest_then : (waited text first between more second waits : List ℕ) → waited ++ text ≡ first ++ between
    → between ++ more ≡ second ++ waits → waited ++ (text ++ more) ≡ (first ++ second) ++ waits
rest_then waited text first between more second waits p q =
    sym (append_assoc waited text more) ∙ ap (λ l. l ++ more) p ∙ append_assoc first between more ∙ ap (λ l. first ++ l) q
    ∙ sym (append_assoc first second waits)

-- two texts, one after the other
pub Prints-then : {old mid new : SinkState} {text more : List ℕ} {before between after : PrinterValue}
    → Prints old mid text before between → Prints mid new more between after → Prints old new (text ++ more) before after
Prints-then {text = text} {more = more} {before = before} {between = between} {after = after} p q =
    record {
      done = p.done ++ q.done;
      written = WritesText-then p.written q.written;
      rest = rest_then before.waiting text p.done between.waiting more q.done after.waiting p.rest q.rest;
    }

-- the same of a second text that has two parts
pub Prints-then_two : {old mid new : SinkState} {text : List ℕ} {before between after : PrinterValue} (more others : List ℕ)
    → Prints old mid text before between → Prints mid new (more ++ others) between after
    → Prints old new (text ++ more ++ others) before after
Prints-then_two {old = old} {new = new} {text = text} {before = before} {after = after} more others p q =
    subst (λ all. Prints old new all before after) (sym (append_assoc text more others)) (Prints-then p q)

-- two texts, one after the other, as an operator between the two
pub ◌⨾◌ : {old mid new : SinkState} {text more : List ℕ} {before between after : PrinterValue}
    → Prints old mid text before between → Prints mid new more between after → Prints old new (text ++ more) before after
p ⨾ q = Prints-then p q

infixl 10 ◌⨾◌
-- nothing is printed
pub Prints-none : (state : SinkState) (p : PrinterValue) → Prints state state [] p p
Prints-none state p = record { done = []; written = WritesText-none state p.so_far; rest = append-nil p.waiting }

-- the same of a text that is empty
pub Prints-empty : {state : SinkState} {text : List ℕ} {p : PrinterValue} → text ≡ [] → Prints state state text p p
Prints-empty {state = state} {text = text} {p = p} empty =
    subst (λ t. Prints state state t p p) (sym empty) (Prints-none state p)

-- a text waits
pub Prints-more : (state : SinkState) (p : PrinterValue) (text : List ℕ) → Prints state state text p (with_more p text)
Prints-more state p text = record { done = []; written = WritesText-none state p.so_far; rest = refl }

-- the same, of a printer that was changed so
pub Prints-waits : {state : SinkState} {text : List ℕ} {before after : PrinterValue} → Waits text before after
    → Prints state state text before after
Prints-waits {state = state} {text = text} {before = before} w = rw w.is (Prints-more state before text)

-- two texts wait, one after the other
pub Waits-then : {text more : List ℕ} {before between after : PrinterValue} → Waits text before between → Waits more between after
    → Waits (text ++ more) before after
Waits-then {text = text} {more = more} {before = before} first second = record {
  is =
      second.is ∙ ap (λ p. with_more p more) first.is
      ∙ ap (λ l. record { so_far = before.so_far; waiting = l }) (append_assoc before.waiting text more);
}

-- no text waits
pub Waits-none : (p : PrinterValue) → Waits [] p p
Waits-none p = record { is = ap (λ l. record { so_far = p.so_far; waiting = l }) (sym (append-nil p.waiting)) }

-- what waits is written
pub Prints-flush : {old new : SinkState} (p : PrinterValue) {written : Written} → WritesText old new p.waiting p.so_far written
    → Prints old new [] p (emptied written)
Prints-flush p writes = record { done = p.waiting; written = writes; rest = refl }

-- a text is written at once
pub Prints-at_once : {old new : SinkState} {text : List ℕ} {before after : Written} → WritesText old new text before after
    → Prints old new text (emptied before) (emptied after)
Prints-at_once {text = text} writes = record { done = text; written = writes; rest = sym (append-nil text) }

-- a text that is printed is written, if nothing waits before it and after it
pub Prints-whole : {old new : SinkState} {text : List ℕ} {before after : PrinterValue} → before.waiting ≡ [] → after.waiting ≡ []
    → Prints old new text before after → WritesText old new text before.so_far after.so_far
Prints-whole {old = old} {new = new} {text = text} {before = before} {after = after} none_before none_after p =
    let all : text ≡ p.done =
    ap (λ l. l ++ text) (sym none_before) ∙ p.rest ∙ ap (λ l. p.done ++ l) none_after ∙ append-nil p.done in
    subst (λ t. WritesText old new t before.so_far after.so_far) (sym all) p.written

-- the same of a text after which what waits is written
pub Prints-written : {old mid new : SinkState} {text : List ℕ} {before between after : PrinterValue} {written : Written}
    → before.waiting ≡ [] → Prints old mid text before between → Prints mid new [] between after → after ≡ emptied written
    → WritesText old new text before.so_far written
Prints-written {old = old} {new = new} {text = text} {before = before} {written = written} none_before p q is =
    let whole = Prints-then p (rw is at q) in
    subst (λ t. WritesText old new t before.so_far written) (append-nil text) (Prints-whole none_before refl whole)
