-- What follows from the chain of sessions up to the root.
-- Cited above: no_session
use Rattle.std.proofs.Common.{◌≡◌, inl, inr, ℕ, zero, suc, List, [], ◌∷◌, Option, None, Some, arith, refl, sym, ◌∙◌}
use Rattle.tap_wire.specs.declared.frame.Frame.{Frame}
use Rattle.tap_safety.specs.Remembered.{OpenSession}
use Rattle.tap_safety.specs.Remembered.Token.{Way, Child}
use Rattle.tap_safety.specs.System.{System, AmongFrames}
use Rattle.tap_safety.specs.Sessions.{AmongTokens, AreExact, AwaitsLast, Belongs, IsOpen, IsRootless}

module _ (s : System) (b : List ℕ) (sound : AreExact s) (rootless : IsRootless s b) where
  -- there is no session of b at any depth
  none_at : (depth : ℕ) (y : List ℕ) (l : ℕ) (o : OpenSession) → IsOpen s y l o → o.joiner ≡ b → o.depth ≡ depth
      → (parent : Option (List ℕ × ℕ)) → o.parent ≡ parent → ⊥
  none_at depth y l o is joiner deep None top = rootless.none y l o is joiner top
  none_at zero y l o is joiner deep (Some (x, k)) has =
      let up = sound.parents y l o x k is has in let less = up.depth in omega arith
  none_at (suc depth) y l o is joiner deep (Some (x, k)) has =
      let up = sound.parents y l o x k is has in
      let less = up.depth in
      none_at depth x k up.parent up.is (sym up.joiner ∙ joiner) (omega arith) up.parent.parent refl

  pub no_session : (y : List ℕ) (l : ℕ) (o : OpenSession) → IsOpen s y l o → o.joiner ≡ b → ⊥
  no_session y l o is joiner = none_at o.depth y l o is joiner refl o.parent refl

module _ (s : System) (x : List ℕ) (k number : ℕ) (sound : AreExact s) (last : AwaitsLast s x k number) where
  -- the root is the only session of its joiner, at any depth
  only_at : (depth : ℕ) (y : List ℕ) (l : ℕ) (o : OpenSession) → IsOpen s y l o → o.joiner ≡ last.root.joiner → o.depth ≡ depth
      → (parent : Option (List ℕ × ℕ)) → o.parent ≡ parent → (y ≡ x) × (l ≡ k)
  only_at depth y l o is joiner deep None top = sound.roots y x l k o last.root is last.is top last.top joiner
  only_at zero y l o is joiner deep (Some (z, m)) has =
      let up = sound.parents y l o z m is has in let less = up.depth in absurd (omega arith)
  only_at (suc depth) y l o is joiner deep (Some (z, m)) has =
      let up = sound.parents y l o z m is has in
      let less = up.depth in
      let at = only_at depth z m up.parent up.is (sym up.joiner ∙ joiner) (omega arith) up.parent.parent refl in
      let here : IsOpen s x k up.parent = rw (← at.0, ← at.1) up.is in
      let root = last.is in
      let same : up.parent ≡ last.root = cc in
      let among : AmongTokens (Child y l) (Way number ∷ []) = rw (same, last.awaits) at up.among in
      elim among [ inl is_it ↦ cc | inr none ↦ absurd none ]

  pub only_session : (y : List ℕ) (l : ℕ) (o : OpenSession) → IsOpen s y l o → o.joiner ≡ last.root.joiner → (y ≡ x) × (l ≡ k)
  only_session y l o is joiner = only_at o.depth y l o is joiner refl o.parent refl

  -- and the frame that it awaits is the only one that belongs to a session of the joiner
  pub only_frame : (m : ℕ) (f : Frame) (y : List ℕ) (l : ℕ) (o : OpenSession) → AmongFrames m f s.frames → Belongs f y l
      → IsOpen s y l o → o.joiner ≡ last.root.joiner → m ≡ number
  only_frame m f y l o among belongs is joiner =
      let at = only_session y l o is joiner in
      let awaited = sound.frames m f y l among belongs in
      let here : IsOpen s x k awaited.session = rw (← at.0, ← at.1) awaited.is in
      let root = last.is in
      let same : awaited.session ≡ last.root = cc in
      let token : AmongTokens (Way m) (Way number ∷ []) = rw (same, last.awaits) at awaited.among in
      elim token [ inl is_it ↦ cc | inr none ↦ absurd none ]
