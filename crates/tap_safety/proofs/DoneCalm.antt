-- A Done keeps Covered and Meet: the new core node covers nobody.
use Rattle.std.proofs.Common.{◌≡◌, inl, inr, ℕ, List, [], sym, ap, ◌∙◌}
use Rattle.std.specs.Option.{unwrap_or}
use Rattle.tap_name.specs.Prefix.{lcp}
use Rattle.tap_name.specs.Settings.{SettingsValue}
use Rattle.tap_safety.specs.System.{System, CoversAt, IsCoreNode, IsJoiner}
use Rattle.tap_safety.specs.Regions.{IsIn, prefix_of, surrogate_of}
use Rattle.tap_safety.specs.Parts.{Covered, CoversAndPins, Meet}
use Rattle.tap_safety.specs.DoneStep.{BeforeDone, NothingOnWay, TakesDone}
use Rattle.tap_safety.specs.Filled.{AreFilled}
use Rattle.tap_safety.proofs.Calm.{still_told}
use Rattle.tap_safety.proofs.DoneCover.{cover_kept, low_kept}
use Rattle.tap_safety.proofs.DoneKept.{core_cases, core_on, covers_was, hole_free_kept, joiner_was, keeps, told_on}
use Rattle.tap_safety.proofs.FrameKeeps.{covers_on, pins_back}
use Rattle.tap_safety.proofs.KeptParts.{StaysJoiner}

module _ (p : SettingsValue) (s s' : System) (number : ℕ) (w e : List ℕ) (before : BeforeDone p s) (quiet : NothingOnWay s e)
    (step : TakesDone s s' number w e) where
  surrogate_same : (b : List ℕ) → surrogate_of s' b ≡ surrogate_of s b
  surrogate_same b = ap (λ surrogate. unwrap_or surrogate []) (step.surrogate b)

  prefix_same : (b : List ℕ) → prefix_of s' b ≡ prefix_of s b
  prefix_same b = ap (λ surrogate. lcp surrogate b) (surrogate_same b)

  stays : (b : List ℕ) → IsJoiner s' b → StaysJoiner s s' b
  stays b joiner = record { was = (joiner_was s s' number w e step b joiner).0; is = joiner }

  covers_back : (y b : List ℕ) (level : ℕ) → CoversAt s' y b level → CoversAt s y b level
  covers_back = covers_was s s' number w e step

  -- who covers isn't the new core node
  coverer : (y b : List ℕ) (level : ℕ) → IsCoreNode s' y → CoversAt s' y b level → IsCoreNode s y
  coverer y b level core covers =
      elim (core_cases s s' number w e step y core) [
        | inl old ↦ old
        | inr new ↦
            let mine : CoversAt s e b level = rw new at (covers_back y b level covers) in
            absurd (before.covered.joiners e b level quiet.joiner mine)
      ]

  pub covered_done : Covered p s'
  covered_done = record {
    each = λ y b level core joiner covers.
        let stay = stays b joiner in
        let is = before.covered.each y b level (coverer y b level core covers) stay.was (covers_back y b level covers) in
        let kept = keeps s s' number w e step in
        record {
          inside = record { reach = rw (prefix_same b) is.inside.reach };
          pin = kept.pins y b stay (inl core) is.pin;
          from = rw (prefix_same b) is.from;
          to = is.to;
          given = kept.given b y stay is.given;
        };
    surrogate = λ b joiner.
        let stay = stays b joiner in
        let is = before.covered.surrogate b stay.was in
        rw (surrogate_same b) (
          core_on s s' number w e step (surrogate_of s b) is.0,
          covers_on s s' e step.before step.after step.at step.covers (surrogate_of s b) b (prefix_of s b) is.1,
        );
    joiners = λ y b level joiner covers.
        let stay = stays y joiner in before.covered.joiners y b level stay.was (covers_back y b level covers);
  }

  in_was : (b x : List ℕ) → IsIn s' b x → IsIn s b x
  in_was b x inside = record { reach = rw (prefix_same b) at inside.reach }

  pair_was : (y b d : List ℕ) → CoversAndPins s' y b d → CoversAndPins s y b d
  pair_was y b d pair =
      let one = stays b pair.joiner in
      let two = stays d pair.other in
      record {
        core = coverer y b pair.level pair.core pair.covers;
        joiner = one.was;
        other = two.was;
        apart = pair.apart;
        in_first = in_was b y pair.in_first;
        in_second = in_was d y pair.in_second;
        level = pair.level;
        covers = covers_back y b pair.level pair.covers;
        pin = pins_back s s' e step.before step.after step.at (λ t is. sym (step.links t) ∙ is) y d pair.pin;
      }

  pub meet_done : Meet s'
  meet_done =
      let told = still_told s s' (keeps s s' number w e step) (record { told = told_on s s' number w e step }) in
      record {
        first = λ y b d pair inside.
            told.met y b d (stays b pair.joiner) (stays d pair.other)
            (before.meet.first y b d (pair_was y b d pair) (in_was b d inside));
        second = λ y b d pair inside.
            told.met y d b (stays d pair.other) (stays b pair.joiner)
            (before.meet.second y b d (pair_was y b d pair) (in_was d b inside));
      }

  pub filled_done : AreFilled p s'
  filled_done = record {
    covered = covered_done;
    meet = meet_done;
    cover = cover_kept p s s' number w e before quiet step;
    low = low_kept p s s' number w e before quiet step;
    hole_free = hole_free_kept p s e before quiet s' number w step;
  }
