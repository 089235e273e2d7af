-- What the laws of steps ask for, from the invariant.
use Rattle.std.proofs.Common.{◌≡◌, inl, inr, ℕ, List, None, arith, sym, ◌∙◌}
use Rattle.std.proofs.lemmas.Bool.{cases_lt}
use Rattle.tap_name.specs.Name.{IsName}
use Rattle.tap_name.specs.Prefix.{lcp}
use Rattle.tap_name.specs.Settings.{SettingsValue}
use Rattle.tap_name.specs.declared.slot.Slot.{Slot}
use Rattle.tap_link.specs.declared.kind.Kind.{Kind}
use Rattle.tap_link.specs.declared.kind.Kind.TheVariants.{Pin, Settled, Leaving as LeavingKind}
use Rattle.tap_wire.specs.declared.frame.Body.TheVariants.{Done, Seek}
use Rattle.tap_wire.specs.declared.frame.TellFields.{TellFields}
use Rattle.tap_safety.specs.Frames.{tell_body}
use Rattle.tap_safety.specs.System.{System, HasLink, IsCoreNode, IsJoiner, IsTold, IsUnderWay}
use Rattle.tap_safety.specs.Regions.{Has, Pins}
use Rattle.tap_safety.specs.Filled.{AreFilled}
use Rattle.tap_safety.specs.Parts.{SettledCore}
use Rattle.tap_safety.specs.TellStep.{BeforeTell, IsTellOf}
use Rattle.tap_safety.specs.DoneStep.{BeforeDone, IsSound, NothingOnWay}
use Rattle.tap_safety.specs.SeekStep.{BeforeSeat}
use Rattle.tap_safety.specs.Invariant.{Basis}
use Rattle.tap_safety.proofs.CoverKept.{core_or_joiner}
use Rattle.tap_safety.proofs.Names.{lcp_whole}
use Rattle.tap_safety.proofs.Quiet.{quiet}

module _ (p : SettingsValue) (s : System) (invariant : Basis p s) where
  core_name : (x : List ℕ) → IsCoreNode s x → IsName p x
  core_name x core = invariant.names.each x (record { state = core.state; is = core.is })

  joiner_name : (x : List ℕ) → IsJoiner s x → IsName p x
  joiner_name x joiner = invariant.names.each x (record { state = joiner.state; is = joiner.is })

  settled : SettledCore s
  settled = record { settled = invariant.soft.settled }

  -- a Tell that is under way to a core node
  pub tell_of : (from x : List ℕ) (fields : TellFields) (watch : List Slot) → IsUnderWay s from x (tell_body fields watch)
      → IsCoreNode s x → IsTellOf p s x fields.joiner fields.prefix fields.level
  tell_of from x fields watch way core =
      let sound = invariant.tells.each from x fields watch way in
      let level = sound.level in
      let near = sound.near in
      record {
        core = core;
        joiner = sound.joiner;
        apart = elim (cases_lt (lcp x fields.joiner) p.digits) [
          | inl less ↦ less
          | inr same ↦
              let one = lcp_whole p x fields.joiner (core_name x core) (joiner_name fields.joiner sound.joiner) same in
              absurd (sound.apart one)
        ];
        inside = sound.inside;
        prefix_is = sound.prefix;
        above = invariant.deeper.level from x fields watch way;
        most = omega arith;
      }

  -- nothing of a joiner's own is under way once its Done is
  pub quiet_of : (w e : List ℕ) → IsUnderWay s w e Done → NothingOnWay s e
  quiet_of w e done =
      quiet s e invariant.exact invariant.of_joiners (invariant.of_joiners.dones w e done) invariant.ends_once w done

  module _ (none_departs : s.departing ≡ None) where
    unmarked : (x t : List ℕ) → HasLink s x t LeavingKind → ⊥
    unmarked x t link = invariant.departure.marked x t none_departs link

    pub before_tell : AreFilled p s → BeforeTell p s
    before_tell filled = record {
      names = core_name;
      settled = settled;
      unmarked = unmarked;
      covered = filled.covered;
      hole_free = filled.hole_free;
      cover = filled.cover;
    }

    -- a link to a joiner is a pin
    pinned : (x b : List ℕ) → IsJoiner s b → Has s x b → Pins s x b
    pinned x b joiner has = by has.kind has.link
      where
        by : (kind : Kind) → HasLink s x b kind → Pins s x b
        by Pin link = link
        by Settled link = absurd (core_or_joiner s b (invariant.soft.settled x b link) joiner)
        by LeavingKind link = absurd (unmarked x b link)

    sound : (b x : List ℕ) (level : ℕ) → IsJoiner s b → IsTold s b x level → IsSound p s b x level
    sound b x level joiner told =
        let is = invariant.tells.each told.from x told.fields told.watch told.way in
        record {
          from = told.from;
          core = is.core;
          cover = is.cover;
          covers = rw (← told.joiner) is.covers;
          level_is = sym told.level_is ∙ is.level;
          apart = is.near;
        }

    pub before_done : AreFilled p s → BeforeDone p s
    before_done filled = record {
      core_names = core_name;
      joiner_names = joiner_name;
      pinned = pinned;
      sound = sound;
      covered = filled.covered;
      meet = filled.meet;
      cover = filled.cover;
      low = filled.low;
      hole_free = filled.hole_free;
    }

    pub before_seat : (from x b : List ℕ) → IsUnderWay s from x (Seek b) → IsCoreNode s x → BeforeSeat p s x b
    before_seat from x b way core =
        let seeker = invariant.seekers.seeks from x b way in
        record {
          names = core_name;
          settled = settled;
          unmarked = unmarked;
          core = core;
          seeker = seeker;
          unknown = invariant.seeking.unknown b seeker;
          idle = λ d level covers. invariant.seeking.idle b d level seeker covers;
        }
