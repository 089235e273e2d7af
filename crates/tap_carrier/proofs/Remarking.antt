-- How remarks are added to a log, one after another.
use Rattle.std.proofs.Common.{◌≡◌, ◌≢◌, ◌+◌, false, true, List, [], ◌∷◌, ◌++◌, length, take, Result, Ok, Err, refl, ap, sym, subst, ◌∙◌, arith, append-nil, append_assoc, length-append}
use Rattle.std.proofs.Math.Seq.{take-append-add}
use Rattle.tap_log.specs.declared.record.Record.{Record}
use Rattle.tap_ledger.specs.Woven.{remark_after}
use Rattle.tap_ledger.proofs.Woven.{woven_remark}
use Rattle.tap_engine.specs.declared.stop.Stop.{Stop}
use Rattle.tap_engine.specs.declared.stop.Stop.TheVariants.{Ended, NoMemory, Refused, Spent}
use Rattle.tap_engine.specs.Kinds.{is_finished}
use Rattle.tap_engine.specs.Outcome.{MayGoOn, Remarks, remark_answer}
use Rattle.tap_engine.specs.World.{WorldValue, whole_log}
use Rattle.tap_carrier.specs.Sending.{FallsShort, HasRemarked, RemarksAll}

-- ---- one remark

pub remarked_one : (item : Record) (before after : WorldValue) → Remarks item before (Ok tt) after → HasRemarked (item ∷ []) before after
remarked_one item before after remarks =
    let is : after ≡ record before { added = before.added ++ remark_after before.log item ∷ [] } = remarks.added refl in
    record {
      log = ap whole_log is ∙ woven_remark before.log before.added item;
      plain = ap (λ (w : WorldValue). w.log) is;
      beginning = ap (λ (w : WorldValue). w.beginning) is;
      refused = ap (λ (w : WorldValue). w.refused) is;
      stopped = ap (λ (w : WorldValue). w.stopped) is;
    }

short_one : (item : Record) (before after : WorldValue) → Remarks item before (Err NoMemory) after → FallsShort (item ∷ []) before after
short_one item before after remarks =
    let is : after ≡ record before { stopped = true } = remarks.stopped refl in
    record {
      kept = 0;
      few = omega arith;
      log = ap whole_log is ∙ sym (append-nil (whole_log before));
      plain = ap (λ (w : WorldValue). w.log) is;
      beginning = ap (λ (w : WorldValue). w.beginning) is;
      refused = ap (λ (w : WorldValue). w.refused) is;
    }

abbrev Answer : Type 0
Answer = Result (Unit {0}) Stop

-- no other answer comes
no_other : (item : Record) (before after : WorldValue) (given : Answer) → before.stopped ≡ false → Remarks item before given after
    → given ≢ Err NoMemory → given ≡ Ok tt
no_other item before after given runs remarks other = remarks.answer other ∙ ap remark_answer runs

-- a remark of a world that wasn't stopped
module _ (item : Record) (before after : WorldValue) (runs : before.stopped ≡ false) where
  pub remarks_err : (A IsThen : Type 0) (stop : Stop) → Remarks item before (Err stop) after
      → RemarksAll {A = A} (item ∷ []) IsThen before (Err stop) after
  remarks_err A IsThen NoMemory remarks = short_one item before after remarks
  remarks_err A IsThen Ended remarks =
      let e : Err Ended ≡ Ok tt = no_other item before after (Err Ended) runs remarks (λ (e : Err Ended ≡ Err NoMemory). absurd cc) in absurd cc
  remarks_err A IsThen Spent remarks =
      let e : Err Spent ≡ Ok tt = no_other item before after (Err Spent) runs remarks (λ (e : Err Spent ≡ Err NoMemory). absurd cc) in absurd cc
  remarks_err A IsThen (Refused refusal) remarks =
      let e : Err (Refused refusal) ≡ Ok tt =
      no_other item before after (Err (Refused refusal)) runs remarks (λ (e : Err (Refused refusal) ≡ Err NoMemory). absurd cc) in
      absurd cc

  pub remarks_all : (IsThen : Type 0) (given : Answer) → IsThen → Remarks item before given after
      → RemarksAll (item ∷ []) IsThen before given after
  remarks_all IsThen (Ok done) then remarks = (remarked_one item before after remarks, then)
  remarks_all IsThen (Err stop) then remarks = remarks_err (Unit {0}) IsThen stop remarks

-- ---- several

-- none yet
pub remarked_none : (w : WorldValue) → HasRemarked [] w w
remarked_none w = record { log = sym (append-nil (whole_log w)); plain = refl; beginning = refl; refused = refl; stopped = refl }

-- none at all, for want of memory
pub short_at_once : (item : Record) (items : List Record) (w : WorldValue) → FallsShort (item ∷ items) w w
short_at_once item items w = record {
  kept = 0;
  few = omega arith;
  log = sym (append-nil (whole_log w));
  plain = refl;
  beginning = refl;
  refused = refl;
}

-- some, and then others
pub remarked_more : (xs ys : List Record) (first next last : WorldValue) → HasRemarked xs first next → HasRemarked ys next last
    → HasRemarked (xs ++ ys) first last
remarked_more xs ys first next last one two = record {
  log = two.log ∙ ap (λ l. l ++ ys) one.log ∙ append_assoc (whole_log first) xs ys;
  plain = two.plain ∙ one.plain;
  beginning = two.beginning ∙ one.beginning;
  refused = two.refused ∙ one.refused;
  stopped = two.stopped ∙ one.stopped;
}

-- some, and then not all of the others
pub short_later : (xs ys : List Record) (first next last : WorldValue) → HasRemarked xs first next → FallsShort ys next last
    → FallsShort (xs ++ ys) first last
short_later xs ys first next last one two = record {
  kept = length xs + two.kept;
  few = omega (arith, length-append xs ys, two.few);
  log = two.log ∙ ap (λ l. l ++ take two.kept ys) one.log ∙ append_assoc (whole_log first) xs (take two.kept ys)
      ∙ ap (λ l. whole_log first ++ l) (sym (take-append-add xs ys two.kept));
  plain = two.plain ∙ one.plain;
  beginning = two.beginning ∙ one.beginning;
  refused = two.refused ∙ one.refused;
}

-- not one of them, of which there are more
pub short_of_more : (item : Record) (others : List Record) (first last : WorldValue) → FallsShort (item ∷ []) first last
    → FallsShort (item ∷ others) first last
short_of_more item others first last short =
    let none : short.kept ≡ 0 = let few = short.few in omega arith in
    record {
      kept = 0;
      few = omega arith;
      log = short.log ∙ ap (λ k. whole_log first ++ take k (item ∷ [])) none;
      plain = short.plain;
      beginning = short.beginning;
      refused = short.refused;
    }

-- the world goes on
pub goes_on : (items : List Record) (first last : WorldValue) → HasRemarked items first last → MayGoOn first → MayGoOn last
goes_on items first last remarked may = record {
  noted = remarked.refused ∙ may.noted;
  unfinished = ap is_finished remarked.plain ∙ may.unfinished;
}

-- ---- by the answer

module _ {A : Type 0} (items : List Record) (IsThen : Type 0) (first last : WorldValue) where
  pub all_if_ok : (answer : Result A Stop) (x : A) → answer ≡ Ok x → RemarksAll items IsThen first answer last
      → HasRemarked items first last × IsThen
  all_if_ok answer x is all = subst (λ (r : Result A Stop). RemarksAll items IsThen first r last) is all

  pub short_if_err : (answer : Result A Stop) (stop : Stop) → answer ≡ Err stop → RemarksAll items IsThen first answer last
      → (stop ≡ NoMemory) × FallsShort items first last
  short_if_err answer stop is all = by stop (subst (λ (r : Result A Stop). RemarksAll items IsThen first r last) is all)
    where
      by : (stop : Stop) → RemarksAll {A = A} items IsThen first (Err stop) last → (stop ≡ NoMemory) × FallsShort items first last
      by NoMemory short = (refl, short)
      by Ended short = absurd short
      by Spent short = absurd short
      by (Refused refusal) short = absurd short

  pub all_so : (Then : Type 0) (answer : Result A Stop) → (IsThen → Then) → RemarksAll items IsThen first answer last
      → RemarksAll items Then first answer last
  all_so Then (Ok x) so all = (all.0, so all.1)
  all_so Then (Err NoMemory) so all = all
  all_so Then (Err Ended) so all = all
  all_so Then (Err Spent) so all = all
  all_so Then (Err (Refused refusal)) so all = all
