-- A word that is taken keeps the ties.
use Rattle.std.proofs.Common.{◌≡◌, inl, inr, ℕ, ◌≤◌, Bool, true, false, List, ◌⊎◌, Option, None, Some, refl, sym, ap, ◌∙◌}
use Rattle.tap_link.specs.declared.kind.Kind.TheVariants.{Pin}
use Rattle.tap_rule.specs.Node.Status.{Core}
use Rattle.tap_wire.specs.declared.frame.Body.TheVariants.{Link, Release}
use Rattle.tap_safety.specs.Remembered.{TieWord}
use Rattle.tap_safety.specs.System.{System}
use Rattle.tap_safety.specs.Ties.{
  IsNewer,
  IsOnWay,
  LastIs,
  Stands,
  TakesLink,
  TiesAreTold,
  Versions,
  hears_words,
  word_frame,
  link_of,
  register_of,
  release_frame,
  status_of,
}

same_word : (one two : TieWord) → one.version ≡ two.version → one.on ≡ two.on → one ≡ two
same_word one two version on =
    let by_version : ℕ → TieWord = λ n. record { version = n; on = one.on } in
    let by_on : Bool → TieWord = λ b. record { version = two.version; on = b } in
    ap by_version version ∙ ap by_on on

-- a frame of a word is of one pair of names
same_frame : (y u x t : List ℕ) (one two : TieWord) → word_frame y u one ≡ word_frame x t two → (y ≡ x) × (u ≡ t) × (one ≡ two)
same_frame y u x t one two is =
    let body : Link one.version one.on ≡ Link two.version two.on = ap (λ f. f.body) is in
    (ap (λ f. f.from) is, ap (λ f. f.to) is, same_word one two (cc) (cc))

module _ (s s' : System) (x t : List ℕ) (w : TieWord) (step : TakesLink s s' x t w) (ties : TiesAreTold s) (versions : Versions s) where
  -- if the last word is the one that is taken, it is newer than the register's
  newer : (kept : Option TieWord) → register_of s t x ≡ kept → s.last x t ≡ Some w → IsNewer w.version kept
  newer None is last = tt
  newer (Some kept) is last = versions.once x t w kept last step.taken is

  newer_at : s.last x t ≡ Some w → IsNewer w.version (register_of s t x)
  newer_at last = newer (register_of s t x) refl last

  -- the last word still stands
  stands : (y u : List ℕ) (v : TieWord) → s.last y u ≡ Some v → Stands s y u v → Stands s' y u v
  stands y u v last (inl way) =
      elim (step.still (word_frame y u v) way) [
        | inr still ↦ inl still
        | inl is ↦
            let same = same_frame y u x t v w is in
            let at : s.last x t ≡ Some w = rw (← same.0, ← same.1, ← same.2) last in
            inr (rw (same.0, same.1, same.2) (step.new (newer_at at)))
      ]
  stands y u v last (inr stood) =
      elim (step.registers u y) [
        | inr same ↦ inr (same ∙ stood)
        | inl here ↦
            let at : register_of s t x ≡ Some v = rw (← here.0, ← here.1) stood in
            let mine : s.last x t ≡ Some v = rw (← here.0, ← here.1) last in
            let within = versions.ways x t w step.taken in
            let most = within.most in
            let is = within.is in
            let top : within.last ≡ v = cc in
            let low : w.version ≤ v.version = rw (← top) most in
            inr (rw (here.0, here.1) (step.old v at low))
      ]

  last_kept : (y u : List ℕ) (on : Bool) → LastIs s y u on → LastIs s' y u on
  last_kept y u on l =
      record { last = l.last; is = step.last y u ∙ l.is; on_is = l.on_is; stands = stands y u l.last l.is l.stands }

  heard : (u : List ℕ) → hears_words (status_of s' u) → hears_words (status_of s u)
  heard u h = rw step.status at h

  pinned : (y u : List ℕ) → status_of s u ≡ Some Core → link_of s y u ≡ Some Pin
      → ((v : TieWord) × (s'.last y u ≡ Some v) × IsOnWay s' (word_frame y u v)) ⊎ IsOnWay s' (release_frame u y)
  pinned y u core link =
      elim (ties.pinned y u core link) [
        | inr back ↦
            elim (step.still (release_frame u y) back) [
              | inr still ↦ inr still
              | inl is ↦ let wrong : Release ≡ Link w.version w.on = ap (λ f. f.body) is in cc
            ]
        | inl way ↦
            elim (step.still (word_frame y u way.0) way.2) [
              | inr still ↦ inl (way.0, step.last y u ∙ way.1, still)
              | inl is ↦
                  let same = same_frame y u x t way.0 w is in
                  let tied = ties.linked y u Pin (rw core tt) link in
                  let one = way.1 in
                  let two = tied.is in
                  let top : tied.last ≡ way.0 = cc in
                  let on : w.on ≡ true = ap (λ v. v.on) (sym same.2 ∙ sym top) ∙ tied.on_is in
                  let at : s.last x t ≡ Some w = rw (← same.0, ← same.1, ← same.2) way.1 in
                  let status : status_of s t ≡ Some Core = rw (← same.1) core in
                  inr (rw (same.0, same.1) (step.answers (newer_at at) on status))
            ]
      ]

  pub ties_kept : TiesAreTold s'
  ties_kept = record {
    linked = λ y u kind hearing link. last_kept y u true (ties.linked y u kind (heard u hearing) (sym (step.links y u) ∙ link));
    dropped = λ y u v hearing link last.
        last_kept y u false (ties.dropped y u v (heard u hearing) (sym (step.links y u) ∙ link) (sym (step.last y u) ∙ last));
    pinned = λ y u core link. pinned y u (sym (step.status u) ∙ core) (sym (step.links y u) ∙ link);
  }
