-- Who is named stays core or soft by a Seek at the surrogate; and what becomes of the joiners.
-- Cited above: joiner_is_new, seat_softs
use Rattle.std.proofs.Common.{◌≡◌, inl, inr, ℕ, List, ◌⊎◌, None, Some, sym, ap, ◌∙◌}
use Rattle.tap_name.specs.Settings.{SettingsValue}
use Rattle.tap_link.specs.declared.kind.Kind.{Kind}
use Rattle.tap_link.specs.declared.kind.Kind.TheVariants.{Pin}
use Rattle.tap_wire.specs.declared.frame.Body.{Body}
use Rattle.tap_wire.specs.declared.frame.Body.TheVariants.{Seek}
use Rattle.tap_rule.specs.Node.{link_to}
use Rattle.tap_safety.specs.System.{System, IsJoiner, IsUnderWay}
use Rattle.tap_safety.specs.Seeking.{IsSeeker}
use Rattle.tap_safety.specs.Soft.{IsSoft, IsSoundBody, IsSoundLink, NamesSoft, SendsSound}
use Rattle.tap_safety.specs.SeekStep.{SeatsJoiner}
use Rattle.tap_safety.specs.Joins.{JoinerIsNew}
use Rattle.tap_safety.proofs.SoftKept.{soft_kept}
use Rattle.tap_safety.proofs.SoftSteps.{links_sound}
use Rattle.tap_safety.proofs.TellKeeps.{core_kept, joiner_after, joiner_before, node_after}
use Rattle.tap_safety.proofs.UnderWay.{was_under_way}

module _ (p : SettingsValue) (s s' : System) (number : ℕ) (w x b : List ℕ) (step : SeatsJoiner p s s' number w x b)
    (seeker : IsSeeker s b) where
  -- a joining node goes on
  joiner_new : IsJoiner s' b
  joiner_new =
      elim (node_after s s' x step.before step.after step.at b seeker.state seeker.is) [
        | inl here ↦
            let same = here.1 in
            let joining = seeker.joining in
            let status = step.covers.status in
            record { state = step.after; is = here.2; joining = cc; surrogate = x; started = step.seated }
        | inr there ↦ record { state = seeker.state; is = there; joining = seeker.joining; surrogate = x; started = step.seated }
      ]

  joiner_on : (d : List ℕ) → IsJoiner s d → IsJoiner s' d
  joiner_on d joiner =
      elim (step.others d) [
        | inl same ↦ rw same joiner_new
        | inr stays ↦ joiner_after s s' x step.before step.after step.at step.covers.status d stays joiner
      ]

  fresh : IsJoiner s b → ⊥
  fresh joiner =
      let waits = seeker.waits in let no : None ≡ Some joiner.surrogate = sym waits ∙ joiner.started in cc

  pub joiner_is_new : JoinerIsNew s s' x b
  joiner_is_new = record {
    on = joiner_on;
    was = was;
    surrogates = λ d joiner. elim (step.others d) [ inl same ↦ absurd (fresh (rw same at joiner)) | inr stays ↦ stays ];
    new = joiner_new;
    fresh = fresh;
    seated = step.seated;
  }
    where
      was : (d : List ℕ) → IsJoiner s' d → IsJoiner s d ⊎ (d ≡ b)
      was d joiner =
          elim (step.others d) [
            | inl same ↦ inr same
            | inr stays ↦ inl (joiner_before s s' x step.before step.after step.at step.covers.status d stays joiner)
          ]

  pub seat_softs : (y : List ℕ) → IsSoft s y → IsSoft s' y
  seat_softs y (inl joiner) = inl (joiner_on y joiner)
  seat_softs y (inr (inl core)) = inr (inl (core_kept s s' x step.before step.after step.at step.covers.status y core))
  seat_softs y (inr (inr ceased)) =
      inr (inr (elim (node_after s s' x step.before step.after step.at y ceased.state ceased.is) [
        | inl here ↦
            let same = here.1 in
            let was = ceased.ceased in
            let status = step.covers.status in
            record { state = step.after; is = here.2; ceased = cc }
        | inr there ↦ record { state = ceased.state; is = there; ceased = ceased.ceased }
      ]))

  pub seat_soft : SendsSound s' step.sent → NamesSoft s → NamesSoft s'
  seat_soft sound soft =
      soft_kept s s' (core_kept s s' x step.before step.after step.at step.covers.status) seat_softs
      (links_sound s s' x step.before step.after step.at new) ways soft
    where
      new : (t : List ℕ) (kind : Kind) → link_to step.after t ≡ Some kind
          → (link_to step.before t ≡ Some kind) ⊎ IsSoundLink s' t kind
      new t kind now =
          elim (step.covers.links t) [
            | inr same ↦ inl (sym same ∙ now)
            | inl is ↦
                let pin : link_to step.after t ≡ Some Pin = ap (λ v. link_to step.after v) is ∙ step.covers.pinned in
                let kind_is : kind ≡ Pin = cc in
                inr (rw (kind_is, is) (inl joiner_new))
          ]

      ways : (from to : List ℕ) (body : Body) → IsUnderWay s' from to body → IsUnderWay s from to body ⊎ IsSoundBody s' from to body
      ways from to body way =
          elim (was_under_way s s' number (record { from = w; to = x; body = Seek b }) step.sent step.taken from to body way) [
            | inl old ↦ inl old
            | inr sends ↦ inr (sound from to body sends)
          ]
