-- How much of the source was read, and that a read that failed was the last one.
use Rattle.std.proofs.Common.{◌≡◌, ◌≢◌, ◌+◌, ◌⊎◌, ℕ, List, [], Option, None, Some, inl, inr, refl, sym, subst, arith}
use Rattle.std.specs.Prelude.{MatchOption}
use Rattle.std.proofs.KnownBytes.{Consumes-nil}
use Rattle.tap_io.specs.AllBytes.{HasReadAll, HasReadAtMost, HasReadUntilFault, HasReadWithoutFault}
use Rattle.tap_io.specs.Source.{SourceState}
use Rattle.tap_scenario.specs.Scenario.{ScenarioValue}
use Rattle.tap_make.specs.Made.{made}
use Rattle.tap_engine.specs.World.{WorldValue}
use Rattle.tap_words.specs.declared.asked.Asked.{Asked}
use Rattle.tap_top.specs.declared.status.Status.{Status}
use Rattle.tap_top.specs.declared.status.Status.TheVariants.{Done, Usage, TooLong, NotScenario, ReadFault, WriteFault, Spent, NoMemory}
use Rattle.tap_top.specs.Ending.{HasCause, HasCauseOf, HasRunAs}
use Rattle.tap_top.specs.Limits.{most_bytes}
use Rattle.tap_top.specs.Reading.{HasReadScript}
use Rattle.tap_top.specs.Wanted.{IsNotHad, IsUnread, IsWanted}

-- what a status says of the reading, whichever it is
pub record HasReadFor (old new : SourceState) (status : Status) : Type 0 where
  pub read : HasReadAtMost (most_bytes + 1) old new
  pub failed : status ≡ ReadFault → HasReadUntilFault most_bytes old new
  pub no_memory : status ≡ NoMemory → HasReadWithoutFault most_bytes old new
  pub unfailed : status ≢ ReadFault → new.faults ≡ old.faults

one_more : (old new : SourceState) → HasReadAtMost most_bytes old new → HasReadAtMost (most_bytes + 1) old new
one_more old new read = record { bytes = read.bytes; within = omega (arith, read.within); consumes = read.consumes }

-- ---- without a fault

well : (old new : SourceState) (status : Status) → HasReadWithoutFault most_bytes old new → status ≢ ReadFault → HasReadFor old new status
well old new status read other = record {
  read = one_more old new read.read;
  failed = λ is. absurd (other is);
  no_memory = λ is. read;
  unfailed = λ is. read.faults;
}

untouched : (old new : SourceState) → new ≡ old → HasReadWithoutFault most_bytes old new
untouched old new is = subst (HasReadWithoutFault most_bytes old) (sym is) (record {
  read = record { bytes = []; within = omega arith; consumes = Consumes-nil old.left };
  faults = refl;
})

pub all_read : (old new : SourceState) (bytes : List ℕ) → HasReadAll most_bytes old new bytes → HasReadWithoutFault most_bytes old new
all_read old new bytes all = record {
  read = record { bytes = bytes; within = all.within; consumes = all.consumes };
  faults = all.faults;
}

pub script_read : (old new : SourceState) (s : ScenarioValue) → HasReadScript old new s → HasReadWithoutFault most_bytes old new
script_read old new s script = all_read old new script.bytes script.read

wanted_read : (asked : Asked) (old new : SourceState) (s : ScenarioValue) → IsWanted asked old new s → HasReadWithoutFault most_bytes old new
wanted_read asked old new s wanted = by_make asked.make wanted
  where
    by_make : (make : Option ℕ) → MatchOption make (HasReadScript old new s) (λ joins. (s ≡ made joins asked.seed) × (new ≡ old))
        → HasReadWithoutFault most_bytes old new
    by_make None script = script_read old new s script
    by_make (Some joins) is = untouched old new is.1

-- ---- each cause

unread_so : (old new : SourceState) (status : Status) → IsUnread old new status → HasReadFor old new status
unread_so old new ReadFault unread = record {
  read = one_more old new unread.read;
  failed = λ is. unread;
  no_memory = λ is. absurd (cc);
  unfailed = λ other. absurd (other refl);
}
unread_so old new TooLong unread = record {
  read = record { bytes = unread.bytes; within = omega (arith, unread.count); consumes = unread.consumes };
  failed = λ is. absurd (cc);
  no_memory = λ is. absurd (cc);
  unfailed = λ other. unread.faults;
}
unread_so old new (NotScenario fault) unread =
    well old new (NotScenario fault) (all_read old new unread.bytes unread.read) (λ is. cc)
unread_so old new NoMemory unread = well old new NoMemory unread (λ is. cc)
unread_so old new Done unread = absurd unread
unread_so old new Usage unread = absurd unread
unread_so old new WriteFault unread = absurd unread
unread_so old new Spent unread = absurd unread

not_had_so : (asked : Asked) (old new : SourceState) (status : Status) → IsNotHad asked old new status → HasReadFor old new status
not_had_so asked old new status not_had = by_make asked.make not_had
  where
    by_make : (make : Option ℕ) → MatchOption make (IsUnread old new status) (λ joins. (status ≡ NoMemory) × (new ≡ old))
        → HasReadFor old new status
    by_make None unread = unread_so old new status unread
    by_make (Some joins) refused =
        subst (HasReadFor old new) (sym refused.0) (well old new NoMemory (untouched old new refused.1) (λ is. cc))

run_so : (old new : SourceState) (s : ScenarioValue) (status : Status) (world : WorldValue) → HasRunAs s status world
    → HasReadWithoutFault most_bytes old new → HasReadFor old new status
run_so old new s status world run read = well old new status read (λ is. subst (λ other. HasRunAs s other world) is run)

cause_so : (asked : Asked) (old new : SourceState) (world : Option WorldValue) (status : Status) → HasCauseOf asked old new world status
    → HasReadFor old new status
cause_so asked old new None status not_had = not_had_so asked old new status not_had
cause_so asked old new (Some world) status run =
    run_so old new run.script status world run.ended (wanted_read asked old new run.script run.wanted)

refused_so : (old new : SourceState) (status : Status) → new ≡ old → ((status ≡ Usage) ⊎ (status ≡ NoMemory)) → HasReadFor old new status
refused_so old new status is (inl usage) =
    subst (HasReadFor old new) (sym usage) (well old new Usage (untouched old new is) (λ h. cc))
refused_so old new status is (inr memory) =
    subst (HasReadFor old new) (sym memory) (well old new NoMemory (untouched old new is) (λ h. cc))

pub read_for : (asked : Option Asked) (old new : SourceState) (world : Option WorldValue) (status : Status)
    → HasCause asked old new world status → HasReadFor old new status
read_for None old new world status cause = refused_so old new status cause.1 cause.2
read_for (Some asked) old new world status cause = cause_so asked old new world status cause
