-- Seekers stay unknown, and Tells sound, where a step that changes no cover sends no Seek and no Tell.
-- Cited above: seeker_not_soft, seekers_kept, seeking_kept, tells_kept
use Rattle.std.proofs.Common.{◌≡◌, inl, inr, ℕ, List, [], None, Some, refl, sym, ap, ◌∙◌}
use Rattle.std.specs.Option.{unwrap_or}
use Rattle.tap_name.specs.Prefix.{lcp}
use Rattle.tap_name.specs.Settings.{SettingsValue}
use Rattle.tap_wire.specs.declared.frame.Body.TheVariants.{Seek}
use Rattle.tap_wire.specs.declared.frame.TellFields.{TellFields}
use Rattle.tap_rule.specs.Node.Status.{Joining, Ceased as CeasedStatus}
use Rattle.tap_safety.specs.Seeking.{AreOfSeekers, HasNode, HasOneSeek, IsSeeker, IsUnknown, Seeking}
use Rattle.tap_safety.specs.System.{System, HelloNames, IsJoiner, IsUnderWay}
use Rattle.tap_safety.specs.Regions.{prefix_of}
use Rattle.tap_safety.proofs.FrameKeeps.{core_not, one_state}
use Rattle.tap_safety.proofs.LinkKeeps.{offered_among}
use Rattle.tap_safety.specs.Soft.{IsSoft}
use Rattle.tap_safety.specs.Tells.{IsSoundTell, TellsAreSound}
use Rattle.tap_safety.specs.SeekerSteps.{LeavesSeekers, LeavesTells}

module _ (p : SettingsValue) (s s' : System) (leaves : LeavesTells p s s') where
  prefix_same : (b : List ℕ) → IsJoiner s b → prefix_of s' b ≡ prefix_of s b
  prefix_same b joiner = ap (λ surrogate. lcp (unwrap_or surrogate []) b) (leaves.surrogates b joiner)

  -- a sound Tell is sound afterwards
  pub tell_stays : (from to : List ℕ) (fields : TellFields) → IsSoundTell p s from to fields → IsSoundTell p s' from to fields
  tell_stays from to fields sound =
      let now = leaves.covers from fields.joiner sound.cover sound.core sound.joiner sound.covers in
      let same = prefix_same fields.joiner sound.joiner in
      record {
        joiner = leaves.joiners fields.joiner sound.joiner;
        core = leaves.cores from sound.core;
        cover = now.0;
        covers = now.1;
        inside = record { reach = rw same sound.inside.reach };
        apart = sound.apart;
        level = sound.level;
        near = sound.near;
        prefix = sound.prefix ∙ sym same;
        soft = leaves.softs to sound.soft;
      }

  pub tells_kept : TellsAreSound p s → TellsAreSound p s'
  tells_kept tells = record {
    each = λ from to fields watch way.
        elim (leaves.ways from to fields watch way) [
          | inl old ↦ tell_stays from to fields (tells.each from to fields watch old)
          | inr new ↦ new
        ];
  }

-- no seeker is soft
pub seeker_not_soft : (s : System) (x : List ℕ) → IsSeeker s x → IsSoft s x → ⊥
seeker_not_soft s x seeker (inl joiner) =
    let waits = seeker.waits in let started = joiner.started in let no : None ≡ Some joiner.surrogate = sym waits ∙ started in cc
seeker_not_soft s x seeker (inr (inl core)) = core_not s x seeker.state seeker.is (inl seeker.joining) core
seeker_not_soft s x seeker (inr (inr ceased)) =
    let same = one_state s x seeker.state ceased.state seeker.is ceased.is in
    let at : seeker.state.status ≡ ceased.state.status = ap (λ n. n.status) same in
    let no : Joining ≡ CeasedStatus = sym seeker.joining ∙ at ∙ ceased.ceased in
    cc

module _ (s s' : System) (leaves : LeavesSeekers s s') where
  one_seek : (x : List ℕ) → IsSeeker s' x → HasOneSeek s x → HasOneSeek s' x
  one_seek x seeker one = record {
    from = one.from;
    to = one.to;
    number = one.number;
    among = leaves.seeks_on x one.from one.to one.number seeker one.among;
    core = leaves.cores one.to one.core;
    only = λ w t m among. one.only w t m (leaves.seeks_was x w t m among);
  }

  module _ (x : List ℕ) (seeker : IsSeeker s' x) (unknown : IsUnknown s x) where
    apart : (y : List ℕ) → IsSoft s' y → y ≡ x → ⊥
    apart y soft same = seeker_not_soft s' x seeker (rw same at soft)

    offered : (w b : List ℕ) → HelloNames s' w b x → ⊥
    offered w b named =
        elim (leaves.hellos w b named.fields named.way) [
          | inl old ↦ unknown.offered w b (record { fields = named.fields; way = old; named = named.named })
          | inr new ↦
              elim named.named [
                | inr sender ↦ apart w new.from (sym sender.0)
                | inl among ↦
                    let o = offered_among x named.fields.links among in apart o.0.name (new.offers o.0 o.1) (sym o.2)
              ]
        ]

    unknown_kept : IsUnknown s' x
    unknown_kept = record {
      linked = λ y has. elim (leaves.links y x has) [ inl old ↦ unknown.linked y old | inr soft ↦ apart x soft refl ];
      told = λ b t level is.
          elim (leaves.told b t level is) [
            | inl old ↦ unknown.told b t level old
            | inr ends ↦ (λ same. apart b ends.0 same, λ same. apart t ends.1 same)
          ];
      greeted = λ w b hello way.
          elim (leaves.hellos w b hello way) [
            | inl old ↦ unknown.greeted w b hello old
            | inr new ↦ (λ same. apart w new.from same, λ same. apart b new.to same)
          ];
      offered = offered;
      covered = λ y level is. elim (leaves.covers y x level is) [ inl old ↦ unknown.covered y level old | inr soft ↦ apart x soft refl ];
    }

  pub seeking_kept : Seeking s → Seeking s'
  seeking_kept seeking = record {
    seeks = λ x seeker. one_seek x seeker (seeking.seeks x (leaves.was x seeker));
    unknown = λ x seeker. unknown_kept x seeker (seeking.unknown x (leaves.was x seeker));
    idle = λ x d level seeker covers. seeking.idle x d level (leaves.was x seeker) (leaves.idle x d level seeker covers);
    covers = λ y b level is.
        elim (leaves.covers y b level is) [ inl old ↦ leaves.nodes b (seeking.covers y b level old) | inr soft ↦ soft_node s' b soft ];
  }
    where
      soft_node : (s : System) (b : List ℕ) → IsSoft s b → HasNode s b
      soft_node s b (inl joiner) = record { state = joiner.state; is = joiner.is }
      soft_node s b (inr (inl core)) = record { state = core.state; is = core.is }
      soft_node s b (inr (inr ceased)) = record { state = ceased.state; is = ceased.is }

  pub seekers_kept : AreOfSeekers s → AreOfSeekers s'
  seekers_kept of = record {
    seeks = λ from to x way.
        let old : IsUnderWay s from to (Seek x) = record { number = way.number; among = leaves.seeks_was x from to way.number way.among } in
        leaves.still x from to way.number way.among (of.seeks from to x old);
  }
