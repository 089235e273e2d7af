-- Nothing of a joiner's own is under way once its Done is.
use Rattle.std.proofs.Common.{inl, inr, ℕ, List, refl, ◌∙◌}
use Rattle.tap_wire.specs.declared.frame.Body.TheVariants.{Done}
use Rattle.tap_wire.specs.declared.frame.Frame.{Frame}
use Rattle.tap_safety.specs.Frames.{hello_body, tell_body}
use Rattle.tap_safety.specs.System.{System, IsJoiner, HelloNames, IsTold, IsUnderWay}
use Rattle.tap_safety.specs.Sessions.{AreExact, IsRootless}
use Rattle.tap_safety.specs.Joins.{AreOfJoiners, EndsOnce}
use Rattle.tap_safety.specs.DoneStep.{NothingOnWay}
use Rattle.tap_safety.proofs.Chains.{no_session}

module _ (s : System) (e : List ℕ) (sound : AreExact s) (whose : AreOfJoiners s) (joiner : IsJoiner s e) where
  quiet_at : IsRootless s e → NothingOnWay s e
  quiet_at rootless = record { joiner = joiner; tells = tells; hellos = hellos }
    where
      tells : (x : List ℕ) (level : ℕ) → IsTold s e x level → ⊥
      tells x level told =
          let frame : Frame = record { from = told.from; to = x; body = tell_body told.fields told.watch } in
          let awaited = sound.frames told.way.number frame told.from told.fields.session told.way.among refl in
          let of = whose.frames told.way.number frame told.from told.fields.session awaited.session told.fields.joiner told.way.among refl
          awaited.is refl in
          no_session s e sound rootless told.from told.fields.session awaited.session awaited.is (of ∙ told.joiner)

      hellos : (w x : List ℕ) → HelloNames s w e x → ⊥
      hellos w x named =
          let frame : Frame = record { from = w; to = e; body = hello_body named.fields } in
          let awaited = sound.frames named.way.number frame w named.fields.session named.way.among refl in
          let of = whose.frames named.way.number frame w named.fields.session awaited.session e named.way.among refl awaited.is refl in
          no_session s e sound rootless w named.fields.session awaited.session awaited.is of

  pub quiet : EndsOnce s → (w : List ℕ) → IsUnderWay s w e Done → NothingOnWay s e
  quiet once w done =
      elim (once.ends e joiner) [ inl root ↦ absurd (root.1.none w done) | inr end ↦ quiet_at end.0 ]
