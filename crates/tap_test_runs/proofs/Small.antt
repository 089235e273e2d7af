-- A beginning with one member, as the tests make it.
use Rattle.std.proofs.Common.{◌≡◌, ℕ, ◌≤◌, nat_le, Bool, true, false, List, [], ◌∷◌, sym, subst, arith}
use Rattle.std.specs.Prelude.{if◌then◌else◌}
use Rattle.std.proofs.lemmas.List.Elements.{All-cons, All-nil}
use Rattle.tap_name.specs.Name.{IsName}
use Rattle.tap_name.specs.Settings.{AreWithinLimits, SettingsValue}
use Rattle.tap_scenario.specs.Scenario.{most_frames}
use Rattle.tap_runs.specs.Beginning.{IsWithinLimits}

few_frames : (frames digits : ℕ) → frames ≤ 100 → frames ≤ most_frames digits
few_frames frames digits few = by_long (nat_le digits 8)
  where
    by_long : (short : Bool) → frames ≤ (if short then 500000 else 100000)
    by_long true = omega (arith, few)
    by_long false = omega (arith, few)

pub one_begins : (p : SettingsValue) (frames : ℕ) (name : List ℕ) (members : List (List ℕ)) → AreWithinLimits p → 1 ≤ frames → frames ≤ 100
    → IsName p name → members ≡ name ∷ [] → IsWithinLimits (record { settings = p; frames = frames; members = members })
one_begins p frames name members limits from few named is =
    subst (λ m. IsWithinLimits (record { settings = p; frames = frames; members = m })) (sym is) (record {
      settings = limits;
      frames_from = from;
      frames_to = few_frames frames p.digits few;
      members_from = omega arith;
      members_to = omega arith;
      names = All-cons (IsName p) name [] named (All-nil (IsName p));
      distinct = λ i j d less within. absurd (omega (arith, less, within));
    })
