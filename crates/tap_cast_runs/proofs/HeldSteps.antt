-- A step keeps what is held of answers.
use Rattle.std.proofs.Common.{◌≡◌, ◌≢◌, ◌⊎◌, ℕ, List, Some, ap, sym, subst, ◌∙◌, inl, inr}
use Rattle.tap_name.specs.Settings.{SettingsValue}
use Rattle.tap_rule.specs.Node.{NodeState}
use Rattle.tap_rule.specs.Node.Status.{Joining}
use Rattle.tap_safety.specs.Seeking.{HasNode}
use Rattle.tap_safety.specs.System.{HelloNames, System}
use Rattle.tap_moves.proofs.Got.{same_name}
use Rattle.tap_cast_runs.specs.SlotAnswers.{WatchMemory}
use Rattle.tap_cast_runs.specs.Had.{AnswersAreHeld, IsHad, IsHeld, WasCore, was_core}
use Rattle.tap_cast_runs.proofs.Follow.{FollowsOn}

-- A node changes: it goes on as it may; while it joins it keeps what it has of those that have been core; and a Hello stays on its way, or
-- comes to it, and then it has whom the Hello names.
pub record IsHeldStep (p : SettingsValue) (s s' : System) (x : List ℕ) (before after : NodeState) : Type 0 where
  pub was : s.node x ≡ Some before
  pub is : s'.node x ≡ Some after
  pub others : (y : List ℕ) → (y ≡ x) ⊎ (s'.node y ≡ s.node y)
  pub follows : FollowsOn before.status after.status
  pub links : before.status ≡ Joining → after.status ≡ Joining → (t : List ℕ) → WasCore s t → IsHad p x before t → IsHad p x after t
  pub hellos : (w b t : List ℕ) → HelloNames s w b t
      → HelloNames s' w b t ⊎ ((b ≡ x) × (before.status ≡ Joining → after.status ≡ Joining → t ≢ b → IsHad p x after t))

module _ (p : SettingsValue) (s s' : System) (x : List ℕ) (before after : NodeState) (step : IsHeldStep p s s' x before after) where
  pub still_known : (y : List ℕ) → HasNode s y → HasNode s' y
  still_known y known =
      elim (step.others y) [
        | inl here ↦ record { state = after; is = ap s'.node here ∙ step.is }
        | inr other ↦ record { state = known.state; is = other ∙ known.is }
      ]

  pub still_core : (y : List ℕ) → WasCore s y → WasCore s' y
  still_core y core =
      elim (step.others y) [
        | inl here ↦
            let both : Some core.state ≡ Some before = sym core.is ∙ ap s.node here ∙ step.was in
            let same : core.state ≡ before = cc in
            record {
              state = after;
              is = ap s'.node here ∙ step.is;
              core = step.follows.stays (subst (λ (n : NodeState). was_core n.status) same core.core);
            }
        | inr other ↦ record { state = core.state; is = other ∙ core.is; core = core.core }
      ]

  -- who joins isn't who has been core
  apart : (y b : List ℕ) (node : NodeState) → WasCore s y → s.node b ≡ Some node → node.status ≡ Joining → y ≢ b
  apart y b node core at joins same =
      let both : Some core.state ≡ Some node = sym core.is ∙ ap s.node same ∙ at in
      let one : core.state ≡ node = cc in
      subst was_core joins (subst (λ (n : NodeState). was_core n.status) one core.core)

  held_here : (t : List ℕ) → WasCore s t → before.status ≡ Joining → after.status ≡ Joining → IsHeld p s x before t
      → IsHeld p s' x after t
  held_here t core was joins (inl had) = inl (step.links was joins t core had)
  held_here t core was joins (inr hello) =
      elim (step.hellos hello.0 x t hello.1) [
        | inl stays ↦ inr (hello.0, stays)
        | inr comes ↦ inl (comes.1 was joins (apart t x before core step.was was))
      ]

  held_there : (b t : List ℕ) (node : NodeState) → b ≢ x → IsHeld p s b node t → IsHeld p s' b node t
  held_there b t node other (inl had) = inl had
  held_there b t node other (inr hello) =
      elim (step.hellos hello.0 b t hello.1) [
        | inl stays ↦ inr (hello.0, stays)
        | inr comes ↦ absurd (other comes.0)
      ]

  pub still_held : (b t : List ℕ) → WasCore s t → ((node : NodeState) → s.node b ≡ Some node → node.status ≡ Joining → IsHeld p s b node t)
      → (node : NodeState) → s'.node b ≡ Some node → node.status ≡ Joining → IsHeld p s' b node t
  still_held b t core held node at joins =
      elim (same_name b x) [
        | inl here ↦
            let both : Some after ≡ Some node = sym step.is ∙ ap s'.node (sym here) ∙ at in
            let same : after ≡ node = cc in
            let joins_on : after.status ≡ Joining = subst (λ (n : NodeState). n.status ≡ Joining) (sym same) joins in
            let was = step.follows.joins joins_on in
            let old = held before (ap s.node here ∙ step.was) was in
            subst (λ (n : NodeState). IsHeld p s' b n t) same
            (subst (λ y. IsHeld p s' y after t) (sym here)
            (held_here t core was joins_on (subst (λ y. IsHeld p s y before t) here old)))
        | inr other ↦ elim (step.others b) [
          | inl here ↦ absurd (other here)
          | inr same ↦ held_there b t node other (held node (sym same ∙ at) joins)
        ]
      ]

  pub answers_kept : (r : WatchMemory) → AnswersAreHeld p s r → AnswersAreHeld p s' r
  answers_kept r held = record {
    known = λ answer among. still_known answer.joiner (held.known answer among);
    core = λ answer among. still_core answer.named (held.core answer among);
    held = λ answer among.
        still_held answer.joiner answer.named (held.core answer among) (held.held answer among);
  }
