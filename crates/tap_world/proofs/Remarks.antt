-- What a world keeps when a remark is added, and the room for roots.
use Rattle.std.proofs.Common.{◌≡◌, ℕ, ◌+◌, ◌≤◌, Bool, true, false, not, nat_eq, List, [], ◌∷◌, ◌++◌, length, append-nil, Option, None, Some, Ok, Err, refl, ap, sym, ◌∙◌, arith}
use Rattle.std.specs.Prelude.{◌&&◌, ◌||◌, if◌then◌else◌}
use Rattle.std.specs.List.{list_any}
use Rattle.std.specs.Option.{option_map_or}
use Rattle.std.proofs.lemmas.Bool.{eq-eqb}
use Rattle.std.proofs.lemmas.List.Folds.{list_any-append}
use Rattle.tap_log.specs.declared.record.Record.{Record}
use Rattle.tap_log.specs.declared.record.Record.TheVariants.{Refused, Step as StepRecord}
use Rattle.tap_log.specs.declared.record.Refusal.{Refusal}
use Rattle.tap_log.specs.Log.{last_of}
use Rattle.tap_history.specs.Core.{members_of}
use Rattle.tap_history.specs.Names.{names_of}
use Rattle.tap_ledger.specs.Woven.{Remark, remark_after}
use Rattle.tap_runs.specs.Beginning.{Beginning, begin_record}
use Rattle.tap_runs.specs.Course.{system_of}
use Rattle.tap_engine.specs.KeptEngine.{AreKept, AreReady, room_kept, room_of_record, room_of_roots, world_value}
use Rattle.tap_engine.specs.Kinds.{awaits_roots, begins_roots}
use Rattle.tap_engine.specs.Outcome.{Remarks, remark_answer}
use Rattle.tap_engine.specs.World.{WorldValue}
use Rattle.tap_engine.specs.declared.engine.Engine.{Engine}
use Rattle.tap_engine.specs.declared.stop.Stop.TheVariants.{Ended, NoMemory}
use Rattle.tap_engine.proofs.Keeping.{HasGrown, as_log, begun, kept_same, same_beginning, seen}
use Rattle.tap_engine.proofs.NamedSteps.{nothing_named}

-- ---- the room for roots

-- whether a remark stands after so many plain records
abbrev has_remark : List Record → List Remark → Bool
has_remark log added = list_any (λ r. nat_eq r.plain_before (length log)) added

-- after a record that asks for no roots no room is kept for them
pub no_roots : (log : List Record) (added : List Remark) (item : Record) → last_of log ≡ Some item → begins_roots item ≡ false
    → room_of_roots log added ≡ 0
no_roots log added item last none =
    ap (λ o. if option_map_or begins_roots o false && not (has_remark log added) then 1 else 0) last
    ∙ ap (λ b. if b && not (has_remark log added) then 1 else 0) none

pub refused_begins : (index : ℕ) (refusal : Refusal) → begins_roots (Refused index refusal) ≡ false
unfolding begins_roots
refused_begins index refusal = refl

pub beginning_begins : (b : Beginning) → begins_roots (begin_record b) ≡ false
unfolding begins_roots
beginning_begins b = refl

or_true : (b : Bool) → (b || true) ≡ true
or_true true = refl
or_true false = refl

and_false : (b : Bool) → (b && false) ≡ false
and_false true = refl
and_false false = refl

-- nor is any kept after a remark
told_roots : (log : List Record) (added : List Remark) (item : Record) → room_of_roots log (added ++ remark_after log item ∷ []) ≡ 0
told_roots log added item =
    let stands : Remark → Bool = λ r. nat_eq r.plain_before (length log) in
    let asks = option_map_or begins_roots (last_of log) false in
    let has : has_remark log (added ++ remark_after log item ∷ []) ≡ true =
    list_any-append stands added (remark_after log item ∷ [])
    ∙ ap (λ b. list_any stands added || (b || false)) (eq-eqb (length log) (length log) refl)
    ∙ or_true (list_any stands added) in
    ap (λ b. if asks && not b then 1 else 0) has ∙ ap (λ b. if b then 1 else 0) (and_false asks)

-- a log that ends with a step that asks for roots has room for three records
pub awaits_three : (log : List Record) (added : List Remark) → awaits_roots log added ≡ true
    → room_kept (last_of log) + room_of_roots log added ≡ 3
unfolding begins_roots room_of_record
awaits_three log added awaits = by (last_of log) (both_true (option_map_or begins_roots (last_of log) false) (not (has_remark log added)) awaits)
  where
    both_true : (a b : Bool) → (a && b) ≡ true → a ≡ true
    both_true true b is = refl
    both_true false b is = is

    one : room_of_roots log added ≡ 1
    one = ap (λ b. if b then 1 else 0) awaits

    by : (last : Option Record) → option_map_or begins_roots last false ≡ true → room_kept last + room_of_roots log added ≡ 3
    by None is = absurd (cc)
    by (Some (StepRecord index step)) is = omega (arith, one)
    by (Some item) is = absurd (cc)

-- ---- a remark

module _ (before after : Engine) (ready : AreReady before) (item : Record) (same : after ≡ record before { ledger = after.ledger })
    (log : after.ledger.records ≡ before.ledger.records)
    (added : after.ledger.added ≡ before.ledger.added ++ remark_after before.ledger.records item ∷ [])
    (kept : room_kept (last_of before.ledger.records) ≤ before.ledger.spare → room_kept (last_of before.ledger.records) ≤ after.ledger.spare) where
  remarked_room : room_kept (last_of after.ledger.records) + room_of_roots after.ledger.records after.ledger.added ≤ after.ledger.spare
  remarked_room =
      let was = (ready.kept.go_on refl).room ready.unfinished in
      let stays = kept (omega (arith, was)) in
      let last = ap (λ l. room_kept (last_of l)) log in
      let none : room_of_roots after.ledger.records after.ledger.added ≡ 0 =
      ap (λ l. room_of_roots l after.ledger.added) log ∙ ap (room_of_roots before.ledger.records) added
      ∙ told_roots before.ledger.records before.ledger.added item in
      omega (arith, stays, last, none)

  -- all is kept
  pub remarked_kept : AreKept after None false
  remarked_kept =
      let nothing = append-nil before.ledger.records in
      let grows : HasGrown before after [] = record {
        settings = ap (λ (q : Engine). q.settings) same;
        frames = ap (λ (q : Engine). q.frames) same;
        log = log ∙ sym nothing;
      } in
      kept_same before after [] None ready grows (record { names = ap names_of nothing; system = ap system_of nothing })
      (nothing_named before.settings) (ap (λ (q : Engine). q.overlay) same) (λ unfinished. remarked_room)
      (as_log (seen before) (seen after) (same_beginning before after [] (begun before ready) grows) log refl refl ready.kept.log)

-- ---- what is answered

-- a world that was stopped does nothing
pub told_stopped : (item : Record) (w : WorldValue) → w.stopped ≡ true → Remarks item w (Err Ended) w
told_stopped item w over = record {
  answer = λ other. sym (ap remark_answer over);
  added = λ ok. absurd (cc);
  ended = λ _. refl;
  went_on = λ none. absurd (cc);
  stopped = λ none. absurd (cc);
}

-- want of memory stops it
pub told_short : (item : Record) (w v : WorldValue) → w.stopped ≡ false → v ≡ record w { stopped = true } → Remarks item w (Err NoMemory) v
told_short item w v runs is = record {
  answer = λ other. absurd (other refl);
  added = λ ok. absurd (cc);
  ended = λ ended. absurd (cc);
  went_on = λ _. runs;
  stopped = λ _. is;
}

-- and else the remark is added
pub told_added : (item : Record) (w v : WorldValue) → w.stopped ≡ false
    → v ≡ record w { added = w.added ++ remark_after w.log item ∷ [] } → Remarks item w (Ok tt) v
told_added item w v runs is = record {
  answer = λ other. sym (ap remark_answer runs);
  added = λ _. is;
  ended = λ ended. absurd (cc);
  went_on = λ none. absurd (cc);
  stopped = λ none. absurd (cc);
}

-- what is seen of an engine that has added a remark
pub seen_told : (before after : Engine) (item : Record) (refused : Option Refusal) (stopped : Bool)
    → after ≡ record before { ledger = after.ledger } → after.ledger.records ≡ before.ledger.records
    → after.ledger.added ≡ before.ledger.added ++ remark_after before.ledger.records item ∷ []
    → world_value after refused stopped
    ≡ record (world_value before refused stopped) { added = before.ledger.added ++ remark_after before.ledger.records item ∷ [] }
seen_told before after item refused stopped same log added =
    let Seen : List Record → List Remark → WorldValue = λ l a. record {
      beginning = record { settings = before.settings; frames = before.frames; members = members_of l };
      log = l;
      added = a;
      refused = refused;
      stopped = stopped;
      nodes = before.overlay.nodes;
    } in
    ap (λ (q : Engine). world_value q refused stopped) same
    ∙ ap (λ l. Seen l after.ledger.added) log ∙ ap (Seen before.ledger.records) added
