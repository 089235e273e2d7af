-- A word that is taken keeps the versions.
use Rattle.std.proofs.Common.{◌≡◌, inl, inr, ℕ, ◌<◌, ◌≤◌, List, ◌⊎◌, Option, None, Some, arith, refl, sym, ap, ◌∙◌}
use Rattle.std.proofs.lemmas.Bool.{cases_lt}
use Rattle.tap_wire.specs.declared.frame.Frame.{Frame}
use Rattle.tap_wire.specs.declared.frame.Body.TheVariants.{Link, Release}
use Rattle.tap_safety.specs.Remembered.{TieWord}
use Rattle.tap_safety.specs.System.{System}
use Rattle.tap_safety.specs.Ties.{IsOnWay, IsNoNewer, TakesLink, Versions, word_frame, register_of}

-- of equal frames one is under way if the other is
on_way_at : (s : System) (one two : Frame) → one ≡ two → IsOnWay s two → IsOnWay s one
on_way_at s one two same way = rw same way

module _ (s s' : System) (x t : List ℕ) (w : TieWord) (step : TakesLink s s' x t w) (versions : Versions s) where
  within_kept : (y u : List ℕ) (v : TieWord) → IsNoNewer s y u v → IsNoNewer s' y u v
  within_kept y u v is = record { last = is.last; is = step.last y u ∙ is.is; most = is.most; same = is.same }

  was : (y u : List ℕ) (v : TieWord) → IsOnWay s' (word_frame y u v) → IsOnWay s (word_frame y u v)
  was y u v way =
      elim (step.was (word_frame y u v) way) [
        | inl old ↦ old
        | inr is ↦ let wrong : Link v.version v.on ≡ Release = ap (λ f. f.body) is in cc
      ]

  ways : (y u : List ℕ) (v : TieWord) → IsOnWay s' (word_frame y u v) → IsNoNewer s' y u v
  ways y u v way = within_kept y u v (versions.ways y u v (was y u v way))

  -- the register of the pair has the word that is taken, or what it had
  mine : (kept : Option TieWord) → register_of s t x ≡ kept
      → (register_of s' t x ≡ Some w) ⊎ (register_of s' t x ≡ register_of s t x)
  mine None is = inl (step.new (rw is tt))
  mine (Some kept) is =
      elim (cases_lt kept.version w.version) [
        | inl newer ↦ inl (step.new (rw is newer))
        | inr old ↦ inr (step.old kept is old ∙ sym is)
      ]

  registers : (y u : List ℕ) (v : TieWord) → register_of s' u y ≡ Some v → IsNoNewer s' y u v
  registers y u v is =
      elim (step.registers u y) [
        | inr same ↦ within_kept y u v (versions.registers y u v (sym same ∙ is))
        | inl here ↦
            let at : register_of s' t x ≡ Some v = rw (← here.0, ← here.1) is in
            rw (here.0, here.1) (within_kept x t v (elim (mine (register_of s t x) refl) [
              | inl new ↦ let same : w ≡ v = cc in rw (← same) (versions.ways x t w step.taken)
              | inr old ↦ versions.registers x t v (sym old ∙ at)
            ]))
      ]

  -- if the last word is still on its way, it isn't the one that is taken, which is older
  older : (v : TieWord) → s.last x t ≡ Some v → IsOnWay s' (word_frame x t v) → w.version < v.version
  older v top on_way =
      let within = versions.ways x t w step.taken in
      let is_last = within.is in
      let most = within.most in
      let it : within.last ≡ v = cc in
      elim (cases_lt w.version v.version) [
        | inl less ↦ less
        | inr from ↦
            let high : w.version ≤ v.version = rw it at most in
            let even : w.version ≡ v.version = omega arith in
            let level : w.version ≡ within.last.version = rw it even in
            let taken : word_frame x t w ≡ word_frame x t v = ap (word_frame x t) (within.same level ∙ it) in
            absurd (step.left (on_way_at s' (word_frame x t w) (word_frame x t v) taken on_way))
      ]

  once : (y u : List ℕ) (v kept : TieWord) → s'.last y u ≡ Some v → IsOnWay s' (word_frame y u v) → register_of s' u y ≡ Some kept
      → kept.version < v.version
  once y u v kept last way is =
      let old_last : s.last y u ≡ Some v = sym (step.last y u) ∙ last in
      elim (step.registers u y) [
        | inr same ↦ versions.once y u v kept old_last (was y u v way) (sym same ∙ is)
        | inl here ↦
            let at : register_of s' t x ≡ Some kept = rw (← here.0, ← here.1) is in
            let top : s.last x t ≡ Some v = rw (← here.0, ← here.1) old_last in
            let on_way : IsOnWay s' (word_frame x t v) = rw (← here.0, ← here.1) way in
            elim (mine (register_of s t x) refl) [
              | inr old ↦ versions.once x t v kept top (was x t v on_way) (sym old ∙ at)
              | inl new ↦ let same : w ≡ kept = cc in rw (← same) (older v top on_way)
            ]
      ]

  pub versions_kept : Versions s'
  versions_kept = record { ways = ways; registers = registers; once = once }
