-- A sink over another one, in which bytes wait.
-- Cited above: all_passed_on, first_part
use Rattle.std.proofs.Common.{◌≡◌, ◌≤◌, ℕ, List, [], ◌++◌, length, take, Option, None, Some, refl, ap, sym, subst, ◌∙◌, arith, append-nil, append_assoc, length-append, length-take-le}
use Rattle.std.proofs.KnownBytes.{Appends-kept, Appends-nil, Keeps-refl, Keeps-trans, append_known-grown, append_known-kept, append_known-moved, append_known-passed}
use Rattle.std.proofs.Math.Seq.{take-append_seam, take-length}
use Rattle.std.proofs.lemmas.List.{append_cancel_left, take-take}
use Rattle.std.specs.Io.KnownBytes.{Appends, append_known}
use Rattle.tap_io.specs.BufferedSink.{Flushes, state_over}
use Rattle.tap_io.specs.Sink.{AppendsPrefixOf, Grows, IsAfterWrites, SinkState, Writes}
use Rattle.tap_io.specs.declared.buffered_sink.Flushed.TheVariants.{All}
use Rattle.tap_io.specs.declared.sink.Took.{Took}
use Rattle.tap_io.specs.declared.sink.Took.TheVariants.{Took as TookBytes, Failed}
use Rattle.tap_io.proofs.Following.{Follows-refl, Follows-trans, Grows-trans}

-- What a sink holds grows by a write.
pub Grows-by_write : (old new : SinkState) (bytes : List ℕ) (took : Took) → Writes old new bytes took → Grows old.held new.held
Grows-by_write old new bytes (TookBytes n) w = (take n bytes, w.answer.appends)
Grows-by_write old new bytes Failed w = ([], Appends-kept old.held old.held new.held [] (Appends-nil old.held) w.answer.kept)

-- A sink over another one goes on where that one does.
pub Follows-over : (old new : SinkState) (name name_now : ℕ) (was is : List ℕ) → name_now ≡ name → Grows old.held new.held → IsAfterWrites old new
    → IsAfterWrites (state_over old name was) (state_over new name_now is)
Follows-over old new name name_now was is same grows follows = record { later = follows.later; behind = (same, grows, follows.behind) }

-- Bytes that come to those that wait are taken.
pub waits : (inner : SinkState) (name : ℕ) (was is bytes : List ℕ) → is ≡ was ++ bytes → 1 ≤ length bytes
    → Writes (state_over inner name was) (state_over inner name is) bytes (TookBytes (length bytes))
waits inner name was is bytes grown some =
    let old = append_known inner.held was in
    let new = append_known inner.held is in
    let none : Grows inner.held inner.held = ([], Appends-nil inner.held) in
    let all : Appends old new bytes = append_known-grown old inner.held was is bytes (Keeps-refl old) grown in
    record {
      follows = Follows-over inner inner name name was is refl none (Follows-refl inner);
      answer = record {
        at_least_one = some;
        within = omega arith;
        appends = subst (Appends old new) (sym (take-length bytes)) all;
        faults = refl;
      };
    }

-- Where all that waited is passed on, a write to the sink behind is one to the sink over it.
pub handed_on : (old mid new : SinkState) (name name_now : ℕ) (was is bytes : List ℕ) (took : Took) → name_now ≡ name
    → Flushes old mid was is All → Writes mid new bytes took
    → Writes (state_over old name was) (state_over new name_now is) bytes took
handed_on old mid new name name_now was is bytes (TookBytes n) same flushes writes =
    let f = flushes.answer in
    let w = writes.answer in
    let kept = append_known-moved old.held mid.held was is was f.1 (sym (append-nil was) ∙ sym (rw f.0 refl)) in
    let passed = append_known-passed (append_known old.held was) mid.held new.held is is (take n bytes) [] kept f.0 w.appends
    (sym (append-nil is)) in
    record {
      follows = Follows-over old new name name_now was is same
          (Grows-trans old.held mid.held new.held (was, f.1) (Grows-by_write mid new bytes (TookBytes n) writes))
          (Follows-trans old mid new flushes.follows writes.follows);
      answer = record {
        at_least_one = w.at_least_one;
        within = w.within;
        appends = subst (Appends (append_known old.held was) (append_known new.held is)) (append-nil (take n bytes)) passed;
        faults = w.faults ∙ f.2;
      };
    }
handed_on old mid new name name_now was is bytes Failed same flushes writes =
    let f = flushes.answer in
    let w = writes.answer in
    let kept = append_known-moved old.held mid.held was is was f.1 (sym (append-nil was) ∙ sym (rw f.0 refl)) in
    record {
      follows = Follows-over old new name name_now was is same
          (Grows-trans old.held mid.held new.held (was, f.1) (Grows-by_write mid new bytes Failed writes))
          (Follows-trans old mid new flushes.follows writes.follows);
      answer = record {
        kept = Keeps-trans _ _ _ kept (append_known-kept mid.held new.held is w.kept);
        risen = λ h. w.risen (omega (arith, f.2));
      };
    }

part_of : (old new : Option (List ℕ)) (waiting text : List ℕ) (count : ℕ) → Grows old new → count ≤ length text
    → Appends (append_known old []) (append_known new waiting) (take count text)
    → (n : ℕ) × (n ≤ length text) × Appends old new (take n text)
part_of None new waiting text count grows within all = (0, omega arith, tt)
part_of (Some x) None waiting text count grows within all = absurd grows.1
part_of (Some x) (Some y) waiting text count grows within all =
    let more = grows.0 in
    let joined : x ++ (more ++ waiting) ≡ x ++ take count text =
    sym (append_assoc x more waiting) ∙ ap (λ l. l ++ waiting) (sym grows.1) ∙ all ∙ ap (λ l. l ++ take count text) (append-nil x) in
    let rest = append_cancel_left x (more ++ waiting) (take count text) joined in
    let few : length more ≤ count = omega (arith, ap length rest, length-append more waiting, length-take-le count text within) in
    let front : more ≡ take (length more) text =
    sym (take-append_seam more waiting) ∙ ap (take (length more)) rest ∙ take-take (length more) count text few in
    (length more, omega arith, grows.1 ∙ ap (λ l. x ++ l) front)

-- The sink behind holds a first part of a text of which some was written, and the rest of what was written waits.
pub first_part : (old new : SinkState) (waiting text : List ℕ) (count : ℕ) → Grows old.held new.held → count ≤ length text
    → Appends (append_known old.held []) (append_known new.held waiting) (take count text) → AppendsPrefixOf old new text
first_part old new waiting text count grows within all =
    let part = part_of old.held new.held waiting text count grows within all in
    record { count = part.0; within = part.1; appends = part.2 }

all_of : (old mid new : Option (List ℕ)) (waiting text : List ℕ) → Grows old mid
    → Appends (append_known old []) (append_known mid waiting) text → Appends mid new waiting → Appends old new text
all_of None mid new waiting text grows all last = tt
all_of (Some x) None new waiting text grows all last = absurd grows.1
all_of (Some x) (Some y) None waiting text grows all last = absurd last
all_of (Some x) (Some y) (Some z) waiting text grows all last = last ∙ all ∙ ap (λ l. l ++ text) (append-nil x)

-- Where a text was written, and then all that waits is passed on, the sink behind has appended the text.
pub all_passed_on : (old mid new : SinkState) (waiting text : List ℕ) → Grows old.held mid.held
    → Appends (append_known old.held []) (append_known mid.held waiting) text → Appends mid.held new.held waiting
    → Appends old.held new.held text
all_passed_on old mid new waiting text grows all last = all_of old.held mid.held new.held waiting text grows all last
