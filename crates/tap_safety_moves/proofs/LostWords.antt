-- A frame that its receiver ignores keeps what is said of links.
use Rattle.std.proofs.Common.{◌≡◌, ℕ, Bool, List, Some, ap, sym, subst, ◌∙◌, inl, inr}
use Rattle.tap_name.specs.Settings.{SettingsValue}
use Rattle.tap_link.specs.declared.kind.Kind.TheVariants.{Pin}
use Rattle.tap_wire.specs.declared.frame.Body.{Body}
use Rattle.tap_wire.specs.declared.frame.Body.TheVariants.{Forget, Link, Release}
use Rattle.tap_wire.specs.declared.frame.Frame.{Frame}
use Rattle.tap_rule.specs.RuleLaws.{frame_to}
use Rattle.tap_rule.specs.Node.{NodeState, name_of}
use Rattle.tap_rule.specs.Node.Status.{Ceased as CeasedStatus, Gone}
use Rattle.tap_safety.specs.System.{System}
use Rattle.tap_safety.specs.Ties.{link_of, register_in, register_of, release_frame}
use Rattle.tap_safety.specs.WordSteps.{KeepsForgets, SaysWords}
use Rattle.tap_safety.proofs.LinkKeeps.{status_seen}
use Rattle.tap_safety.proofs.StepLaws.{ceased_words_law, ties_words_law, versions_words_law}
use Rattle.tap_safety.proofs.WordsKept.{at_link}
use Rattle.tap_moves.specs.Delivered.{after_delivery}
use Rattle.tap_moves.specs.TiesLaws.{WordsStand}
use Rattle.tap_moves.specs.PinsRule.{IsEndedStatus}
use Rattle.tap_safety_moves.specs.Ignored.{IgnoresFrame, MayIgnore}
use Rattle.tap_safety_moves.proofs.Lost.{frame_still, linked_same, lost, status_same, way_still, way_was}

-- it is no word
no_word : (node : NodeState) (body : Body) → MayIgnore node body → (version : ℕ) (on : Bool) → Link version on ≡ body → ⊥
no_word node body may version on is = let never : MayIgnore node (Link version on) = rw (← is) at may in never

-- a node that ignores a Release has ended, and so has one that ignores a Forget
release_over : (node : NodeState) (body : Body) → MayIgnore node body → Release ≡ body → IsEndedStatus node.status
release_over node body may is = subst (MayIgnore node) (sym is) may

forget_over : (node : NodeState) (body : Body) → MayIgnore node body → Forget ≡ body → IsEndedStatus node.status
forget_over node body may is = subst (MayIgnore node) (sym is) may

module _ (p : SettingsValue) (s : System) (number : ℕ) (node : NodeState) (from : List ℕ) (body : Body)
    (is : IgnoresFrame p s number node from body) where
  abbrev pub own : List ℕ
  own = name_of node

  abbrev pub left : System
  left = after_delivery p s number

  -- a node that has ended pins nobody
  no_pin : IsEndedStatus node.status → (t : List ℕ) → link_of left own t ≡ Some Pin → ⊥
  no_pin over t pin =
      let was = is.invariant.ended.none own t Pin (at_link s own t Pin (sym (linked_same p s number node from body is own t) ∙ pin)) in
      elim over [
        | inl gone ↦ was.0 (status_seen s own node Gone is.at gone)
        | inr ceased ↦ was.1 (status_seen s own node CeasedStatus is.at ceased)
      ]

  register_same : (t x : List ℕ) → register_of left t x ≡ register_of s t x
  unfolding register_of
  register_same t x = ap (λ node. register_in node x) ((lost p s number node from body is).node t)

  -- a frame of this body goes only to a node that has ended
  ends_pin : (b : Body) (w y : List ℕ) → (b ≡ body → IsEndedStatus node.status) → record { from = w; to = y; body = b } ≡ frame_to node from body
      → (y ≡ own) × (link_of left y w ≡ Some Pin → ⊥)
  ends_pin b w y over same =
      let here : y ≡ own = ap (λ (f : Frame). f.to) same in
      (here, λ pin. no_pin (over (ap (λ (f : Frame). f.body) same)) w (subst (λ z. link_of left z w ≡ Some Pin) here pin))

  says : SaysWords s left own
  says =
      let gone = lost p s number node from body is in
      record {
        status = status_same p s number node from body is;
        registers = register_same;
        others = λ y t. inr (linked_same p s number node from body is y t, gone.words y t);
        mine = λ t. inl (linked_same p s number node from body is own t, gone.words own t);
        still = λ y t word way.
            way_still p s number node from body is y t (Link word.version word.on) (no_word node body is.may word.version word.on) way;
        was = λ y t word way. inl (way_was p s number node from body is y t (Link word.version word.on) way);
        releases = λ t y way.
            elim (frame_still p s number node from body is way.number (release_frame t y) way.among) [
              | inr on ↦ inl (record { number = way.number; among = on })
              | inl same ↦ inr (ends_pin Release t y (release_over node body is.may) same)
            ];
      }

  forgets : KeepsForgets s left own
  forgets = record {
    still = λ n y way.
        elim (frame_still p s number node from body is way.number (record { from = n; to = y; body = Forget }) way.among) [
          | inr on ↦ inl (record { number = way.number; among = on })
          | inl same ↦ inr (ends_pin Forget n y (forget_over node body is.may) same)
        ];
    was = λ n y way. inl (way_was p s number node from body is n y Forget way);
  }

  pub lost_words : WordsStand left
  lost_words = record {
    ties = ties_words_law s left own says is.invariant.ties;
    versions = versions_words_law s left own says is.invariant.versions;
    ceased = ceased_words_law s left own says forgets is.invariant.ceased;
  }
