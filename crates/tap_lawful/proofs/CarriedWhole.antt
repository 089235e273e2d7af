-- The group that comes next in a carried run is a whole one.
-- Cited above: after_alone, is_turn, whole_turn
use Rattle.std.proofs.Common.{◌≡◌, inl, inr, Bool, true, false, not, cond, List, [], ◌∷◌, ◌++◌, get_or, All, refl, ap, sym, subst, ◌∙◌}
use Rattle.std.proofs.lemmas.Bool.{false≢true}
use Rattle.tap_log.specs.declared.record.Record.{Record}
use Rattle.tap_log.specs.declared.record.Record.TheVariants.{Spent, Finished}
use Rattle.tap_log.specs.Kinds.{begins_group}
use Rattle.tap_log.specs.Reduced.{is_added, reduced}
use Rattle.tap_history.specs.GroupLaws.{IsGroup}
use Rattle.tap_history.specs.Groups.{ends_log, is_ended}
use Rattle.tap_history.proofs.Parts.{is_ended-append}
use Rattle.tap_runs.specs.Beginning.{Beginning}
use Rattle.tap_runs.specs.Course.{system_of}
use Rattle.tap_carried.specs.LogTurns.{IsTurn, Turn, group_of_turn}
use Rattle.tap_carried.specs.LogTurns.Turn.{Arrives, Steps, Takes, Ticks}
use Rattle.tap_carried.specs.ReducedRuns.{IsRunOfTurns, TurnFollows}
use Rattle.tap_carried.proofs.BeginningKept.{log_kept}
use Rattle.tap_carried.proofs.PlainRecords.{step_plain, taken_plain}
use Rattle.tap_carried.proofs.ReducedRuns.{runs_reduce}
use Rattle.tap_carried.proofs.TurnGroups.{turn_group}
use Rattle.tap_carried.proofs.TurnsKept.{IsKept}
use Rattle.tap_lawful.proofs.CarriedTurns.{IsTurnGroup}

-- a turn that may follow is one
pub is_turn : (c : Bool) (b : Beginning) (log : List Record) (turn : Turn) → IsKept c log → TurnFollows c b log turn → IsTurn c turn
is_turn c b log (Steps index step items added) kept follows =
    (step_plain b.settings (reduced log) (system_of (reduced log)) kept.reduced_begun kept.uncarried index step items follows.0.0.may, follows.1)
is_turn c b log (Takes packet frame items added) kept follows =
    (taken_plain b.settings (reduced log) (system_of (reduced log)) kept.reduced_begun kept.uncarried frame items follows.0.may, follows.1)
is_turn c b log (Arrives packet added) kept follows = (tt, follows.1)
is_turn c b log (Ticks added) kept follows = (tt, follows.1)

-- ---- a log has ended only if its reduced log has

ended_kept : (item : Record) → ends_log item ≡ true → is_added item ≡ false
unfolding ends_log is_added
ended_kept (Spent limit) is = refl
ended_kept (Finished steps) is = refl
ended_kept item is = absurd (false≢true is)

ended_later : (item : Record) (items : List Record) → is_ended items ≡ true → is_ended (item ∷ items) ≡ true
ended_later item [] is = absurd (false≢true is)
ended_later item (next ∷ items) is = is

ended_so : (left_out : Bool) (item : Record) (items : List Record) → is_ended items ≡ true
    → is_ended (cond {A = List Record} (not left_out) (item ∷ items) items) ≡ true
ended_so true item items is = is
ended_so false item items is = ended_later item items is

reduced_ended : (log : List Record) → is_ended log ≡ true → is_ended (reduced log) ≡ true
reduced_ended [] is = absurd (false≢true is)
reduced_ended (item ∷ []) is = ap (λ b. is_ended (cond {A = List Record} (not b) (item ∷ []) [])) (ended_kept item is) ∙ is
reduced_ended (item ∷ next ∷ items) is = ended_so (is_added item) item (reduced (next ∷ items)) (reduced_ended (next ∷ items) is)

pub going_on : (log : List Record) → is_ended (reduced log) ≡ false → is_ended log ≡ false
going_on log going = by_ended (is_ended log) refl
  where
    by_ended : (ended : Bool) → is_ended log ≡ ended → is_ended log ≡ false
    by_ended true is = absurd (false≢true (sym going ∙ reduced_ended log is))
    by_ended false is = is

-- ---- a whole group

-- this is one whole group of the log, carried or not, and doesn't end it
pub record IsWholeTurn (c : Bool) (log group : List Record) : Type 0 where
  pub first : Record
  pub after : List Record
  pub is : group ≡ first ∷ after
  pub begins : begins_group c first ≡ true
  pub alone : All (λ item. begins_group c item ≡ false) after
  pub whole : IsGroup log first after
  pub going : is_ended (first ∷ after) ≡ false

abbrev pub IsCarriedWhole : List Record → List Record → Type 0
IsCarriedWhole log group = IsWholeTurn true log group

same_tail : {X : Type 0} (x y : X) (xs ys : List X) → x ∷ xs ≡ y ∷ ys → xs ≡ ys
same_tail x y xs ys is = cc

-- what follows its first record begins no group
pub after_alone : (log group : List Record) (first : Record) (items : List Record) → IsCarriedWhole log group → first ∷ items ≡ group
    → All (λ item. begins_group true item ≡ false) items
after_alone log group first items w is =
    subst (All (λ item. begins_group true item ≡ false)) (sym (same_tail first w.first items w.after (is ∙ w.is))) w.alone

module _ (c : Bool) (b : Beginning) (log group : List Record) (run : IsRunOfTurns c b log) (next : IsTurnGroup c b log group)
    (longer : IsRunOfTurns c b (log ++ group)) where
  kept : IsKept c log
  kept = log_kept c log (runs_reduce.turns c b log run)

  whole_with : (first : Record) (after : List Record) → group_of_turn c next.turn ≡ first ∷ after → begins_group c first ≡ true
      → All (λ item. begins_group c item ≡ false) after → IsWholeTurn c log group
  whole_with first after is begins alone =
      let same : group ≡ first ∷ after = sym next.is ∙ is in
      let going : is_ended (log ++ group) ≡ false = going_on (log ++ group) (runs_reduce.run c b (log ++ group) longer).going in
      record {
        first = first;
        after = after;
        is = same;
        begins = begins;
        alone = alone;
        whole = record {
          begun = kept.begun;
          begins = ap (λ d. begins_group d first) kept.carried ∙ begins;
          alone = λ k d within. ap (λ e. begins_group e (get_or after k d)) kept.carried ∙ alone k d within;
        };
        going = sym (is_ended-append log first after) ∙ ap (λ g. is_ended (log ++ g)) (sym same) ∙ going;
      }

  pub whole_turn : IsWholeTurn c log group
  whole_turn =
      elim (turn_group c next.turn (is_turn c b log next.turn kept next.follows)) [
        | inl g ↦ whole_with g.first g.after g.is g.begins g.alone
        | inr g ↦ whole_with g.first g.after g.is g.begins g.alone
      ]
