-- What a world's log has after the course of its run, and that this asks no lookup.
-- Cited above: few_tickets
use Rattle.std.proofs.Common.{◌≡◌, inl, inr, ℕ, ◌+◌, ◌≤◌, Bool, true, false, List, [], ◌∷◌, ◌++◌, length, Option, None, Some, append-nil, length-append, refl, ap, sym, ◌∙◌, arith}
use Rattle.std.proofs.lemmas.List.Elements.{filter_map-append}
use Rattle.tap_scenario.specs.declared.step.Step.{Step}
use Rattle.tap_log.specs.declared.record.Record.{Record}
use Rattle.tap_log.specs.declared.record.Record.TheVariants.{Finished, Spent, Step as StepRecord}
use Rattle.tap_log.specs.declared.record.Refusal.{Refusal}
use Rattle.tap_log.specs.Counts.{ticket_count}
use Rattle.tap_log.specs.Kinds.{asked_ticket, step_of}
use Rattle.tap_log.specs.Log.{begun_steps}
use Rattle.tap_log.proofs.MoreRecords.{ticket_count-append}
use Rattle.tap_runs.specs.Beginning.{Beginning}
use Rattle.tap_readable.proofs.RangeCourses.{numbers_in_range_holds}
use Rattle.tap_engine.specs.Kinds.{most_index}
use Rattle.tap_engine.specs.World.{WorldValue}
use Rattle.tap_engine.specs.WorldLog.{HasGoneTo, IsPending, IsWorldLog, StartsTooMany, TakesTooMany}
use Rattle.tap_engine.proofs.Indices.{few_steps}

-- what holds however a world has gone on from this course
module _ (b : Beginning) (course log : List Record) (Holds : Type 0) (alone : log ≡ course → Holds)
    (finished : log ≡ course ++ Finished (length (begun_steps course)) ∷ [] → Holds)
    (pending : (refusal : Refusal) → IsPending course refusal log → Holds) (taken : TakesTooMany b course log → Holds)
    (started : StartsTooMany b course log → Holds) where
  pub by_ending : (stopped : Bool) (refused : Option Refusal) → HasGoneTo b stopped refused course log → Holds
  by_ending false None (inl same) = alone same
  by_ending false None (inr end) = finished end
  by_ending false (Some refusal) is = pending refusal is
  by_ending true None (inl same) = alone same
  by_ending true None (inr (inl is)) = taken is
  by_ending true None (inr (inr is)) = started is
  by_ending true (Some refusal) is = absurd is

-- ---- lookups

-- the log is the course and records that ask no lookup
pub record AsksNoMore (course log : List Record) : Type 0 where
  pub more : List Record
  pub is : log ≡ course ++ more
  pub none : ticket_count more ≡ 0

step_asks_none : (index : ℕ) (step : Step) → ticket_count (StepRecord index step ∷ []) ≡ 0
unfolding asked_ticket
step_asks_none index step = refl

finished_asks_none : (steps : ℕ) → ticket_count (Finished steps ∷ []) ≡ 0
unfolding asked_ticket
finished_asks_none steps = refl

spent_asks_none : (limit : ℕ) → ticket_count (Spent limit ∷ []) ≡ 0
unfolding asked_ticket
spent_asks_none limit = refl

step_spent_asks_none : (index : ℕ) (step : Step) (limit : ℕ) → ticket_count (StepRecord index step ∷ Spent limit ∷ []) ≡ 0
unfolding asked_ticket
step_spent_asks_none index step limit = refl

pub asks_no_more : (w : WorldValue) (is : IsWorldLog w) → AsksNoMore is.course w.log
asks_no_more w is =
    by_ending w.beginning is.course w.log (AsksNoMore is.course w.log)
    (λ same. record { more = []; is = same ∙ sym (append-nil is.course); none = refl })
    (λ end. record { more = Finished (length (begun_steps is.course)) ∷ []; is = end; none = finished_asks_none (length (begun_steps is.course)) })
    (λ refusal pending. record {
      more = StepRecord pending.index pending.step ∷ [];
      is = pending.log_is;
      none = step_asks_none pending.index pending.step;
    })
    (λ taken. record { more = Spent w.beginning.frames ∷ []; is = taken.log_is; none = spent_asks_none w.beginning.frames })
    (λ started. record {
      more = StepRecord started.index started.step ∷ Spent w.beginning.frames ∷ [];
      is = started.log_is;
      none = step_spent_asks_none started.index started.step w.beginning.frames;
    })
    w.stopped w.refused is.gone_to

-- so lookups are no more than steps may be
pub few_tickets : (w : WorldValue) → IsWorldLog w → ticket_count w.log ≤ most_index
few_tickets w is =
    let m = asks_no_more w is in
    let asked = ap ticket_count m.is ∙ ticket_count-append is.course m.more in
    let none = m.none in
    let steps = ap (λ l. length (begun_steps l)) m.is ∙ ap length (filter_map-append step_of is.course m.more)
    ∙ length-append (begun_steps is.course) (begun_steps m.more) in
    let tickets = numbers_in_range_holds.tickets w.beginning is.course is.is_course is.open_end in
    let few = few_steps w.log is.indices in
    omega (arith, asked, none, steps, tickets, few)
