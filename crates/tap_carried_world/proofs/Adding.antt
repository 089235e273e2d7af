-- A call adds the group that comes next, or says why it doesn't, by what its world's whole log is then.
use Rattle.std.proofs.Common.{◌≡◌, inl, inr, ℕ, zero, suc, ◌+◌, ◌<◌, ◌≤◌, true, false, List, [], ◌∷◌, ◌++◌, length, take, None, Some, ap, sym, subst, ◌∙◌, arith, append-nil, append_assoc}
use Rattle.tap_scenario.specs.Scenario.{ScenarioValue}
use Rattle.tap_log.specs.declared.record.Record.{Record}
use Rattle.tap_log.specs.declared.record.Record.TheVariants.{Spent}
use Rattle.tap_log.specs.Counts.{sent_count}
use Rattle.tap_engine.specs.World.{WorldValue, whole_log}
use Rattle.tap_lawful.specs.CarriedNext.{carried_next_group}
use Rattle.tap_lawful.specs.CarriedRuns.{IsCarriedPlayed}
use Rattle.tap_carrier.specs.Carrier.{CarrierValue}
use Rattle.tap_carrier.specs.Kept.{KeepsLog}
use Rattle.tap_carried_world.specs.Adds.{HasAdded, HasLacked, HasSpent, IsLeft}
use Rattle.tap_carried_world.specs.Value.{CarriesRun}
use Rattle.tap_carried_world.proofs.Fronts.{front_of}
use Rattle.tap_carried_world.proofs.RunLogs.{Laws, longer}

-- with what the world began stays, no refusal is left to be noted, and it goes on
pub record StillGoes (w v : WorldValue) : Type 0 where
  pub beginning : v.beginning ≡ w.beginning
  pub noted : v.refused ≡ None
  pub unstopped : v.stopped ≡ false

module _ (laws : Laws) (s : ScenarioValue) (w : WorldValue) (c : CarrierValue) (of : CarriesRun s w c) where
  pub has_added : (group : List Record) (v : WorldValue) (d : CarrierValue) → carried_next_group s (whole_log w) ≡ Some group
      → sent_count (whole_log w ++ group) ≤ s.frames → whole_log v ≡ whole_log w ++ group → StillGoes w v
      → KeepsLog s.settings (whole_log w ++ group) d → HasAdded s w v d
  has_added group v d next within log goes keeps = record {
    group = group;
    next = next;
    log = log;
    keeps = record {
      script = of.script;
      goes_on = record {
        played = subst (λ l. IsCarriedPlayed s l) (sym log) (longer laws s of.script (whole_log w) of.goes_on.played group next within);
        beginning = goes.beginning ∙ of.goes_on.beginning;
        noted = goes.noted;
        unstopped = goes.unstopped;
      };
      keeps = subst (λ l. KeepsLog s.settings l d) (sym log) keeps;
    };
  }

pub has_spent : (s : ScenarioValue) (w v : WorldValue) (group : List Record) → carried_next_group s (whole_log w) ≡ Some group
    → s.frames < sent_count (whole_log w ++ group) → whole_log v ≡ whole_log w ++ (take 1 group ++ Spent s.frames ∷ [])
    → IsLeft w v → v.stopped ≡ true → HasSpent s w v
has_spent s w v group next over log left stopped = record {
  log = record { group = group; next = next; over = over; log_is = log };
  left = left;
  stopped = stopped;
}

pub lacks_all : (s : ScenarioValue) (w v : WorldValue) → whole_log v ≡ whole_log w → IsLeft w v → HasLacked s w v
lacks_all s w v log left = record { log = inl log; left = left }

-- some first records of the group stand, or none
pub lacks_front : (s : ScenarioValue) (w v : WorldValue) (group : List Record) (kept : ℕ) → carried_next_group s (whole_log w) ≡ Some group
    → kept < length group → (s.frames < sent_count (whole_log w ++ group) → kept ≤ 1)
    → whole_log v ≡ whole_log w ++ take kept group → IsLeft w v → HasLacked s w v
lacks_front s w v group zero next few over log left = lacks_all s w v (log ∙ append-nil (whole_log w)) left
lacks_front s w v group (suc kept) next few over log left = record {
  log = inr (record {
    group = group;
    next = next;
    kept = suc kept;
    some = omega arith;
    few = few;
    first = λ many. let most = over many in omega (arith, most);
    log_is = log;
  });
  left = left;
}

-- these first records of the group stand, and some of those after them
pub lacks_some : (s : ScenarioValue) (w v : WorldValue) (group first items rest : List Record) (kept : ℕ)
    → carried_next_group s (whole_log w) ≡ Some group → group ≡ first ++ (items ++ rest) → kept ≤ length items
    → length first + kept < length group → (s.frames < sent_count (whole_log w ++ group) → length first + kept ≤ 1)
    → whole_log v ≡ (whole_log w ++ first) ++ take kept items → IsLeft w v → HasLacked s w v
lacks_some s w v group first items rest kept next is few fewer over log left =
    lacks_front s w v group (length first + kept) next fewer over
    (log ∙ append_assoc (whole_log w) first (take kept items)
    ∙ ap (λ l. whole_log w ++ l) (sym (front_of group first items rest kept is few))) left
