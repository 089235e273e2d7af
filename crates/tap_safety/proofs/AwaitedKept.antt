-- Each open session still awaits each answer once, of sessions that are there, after each kind of step.
use Rattle.std.proofs.Common.{◌≡◌, inl, inr, ℕ, List, [], ◌∷◌, ◌⊎◌, Option, None, Some, arith, refl, sym, ap, ◌∙◌}
use Rattle.tap_wire.specs.declared.frame.Frame.{Frame}
use Rattle.tap_safety.specs.Remembered.{OpenSession, Token}
use Rattle.tap_safety.specs.Remembered.Token.{Way, Child}
use Rattle.tap_safety.specs.System.{System}
use Rattle.tap_safety.specs.Exchanges.{AreNumbered, Ascend}
use Rattle.tap_safety.specs.Sessions.{AmongTokens, AreExact, IsOpen, for_child, for_way, ways_of}
use Rattle.tap_safety.specs.SessionSteps.{ClosesChild, ClosesRoot, HandsOn, LeavesSessions, OpensChild, OpensRoot, child_of, with_awaits, with_child}
use Rattle.tap_safety.specs.Awaited.{AreApart, AreAwaitedOnce, IsChildOf}
use Rattle.tap_safety.proofs.Apart.{AreDisjoint, for_child-apart, for_way-apart, ways_of-apart, ways_of-child}
use Rattle.tap_safety.proofs.Exchange.{for_child-was, for_way-was}
use Rattle.tap_safety.proofs.Moved.{ascend_from, ascend_under}
use Rattle.tap_safety.proofs.SessionsKept.{same_place, ways_of-has}

-- what is so of an open session
abbrev IsWell : System → List ℕ → ℕ → OpenSession → Type 0
IsWell s x k o = AreApart o.awaits × ((y : List ℕ) (l : ℕ) → AmongTokens (Child y l) o.awaits → IsChildOf s y l x k)

of_each : (s : System) → ((x : List ℕ) (k : ℕ) (o : OpenSession) → IsOpen s x k o → IsWell s x k o) → AreAwaitedOnce s
of_each s each = record {
  children = λ x y k l awaits. (each x k awaits.session awaits.is).1 y l awaits.among;
  apart = λ x k o is. (each x k o is).0;
}

child_in : (s : System) → AreAwaitedOnce s → (x : List ℕ) (k : ℕ) (o : OpenSession) → IsOpen s x k o → (y : List ℕ) (l : ℕ)
    → AmongTokens (Child y l) o.awaits → IsChildOf s y l x k
child_in s sound x k o is y l among = sound.children x y k l (record { session = o; is = is; among = among })

-- the tokens of new frames aren't awaited yet
new_disjoint : (s : System) (sent : List (ℕ × Frame)) (high : ℕ) → AreExact s → AreNumbered s → Ascend s.next sent high
    → (w : List ℕ) (k : ℕ) (o : OpenSession) → IsOpen s w k o → (x : List ℕ) (l : ℕ) → AreDisjoint (ways_of x l sent) o.awaits
new_disjoint s sent high exact numbered new w k o is x l (Way n) here there =
    let comes = ways_of-has x l sent n here in
    let was = exact.ways w k n (record { session = o; is = is; among = there }) in
    let from = ascend_from s.next sent high n comes.frame new comes.among in
    let under = ascend_under 0 s.frames s.next n was.frame numbered.numbers was.among in
    absurd (omega arith)
new_disjoint s sent high exact numbered new w k o is x l (Child y m) here there = ways_of-child x l sent y m here

-- ---- a frame is answered at once

module _ (s s' : System) (number : ℕ) (f : Frame) (w : List ℕ) (k : ℕ) (sent : List (ℕ × Frame))
    (step : HandsOn s s' number f w k sent) (high : ℕ) (exact : AreExact s) (numbered : AreNumbered s) (new : Ascend s.next sent high)
    (sound : AreAwaitedOnce s) where
  abbrev comes : List Token
  comes = ways_of w k sent

  abbrev now : OpenSession
  now = with_awaits step.before (for_way number comes step.before.awaits)

  on : (y : List ℕ) (l : ℕ) (x : List ℕ) (n : ℕ) → IsChildOf s y l x n → IsChildOf s' y l x n
  on y l x n child =
      elim (step.others y l) [
        | inl here ↦
            let at : s.session y l ≡ Some step.before = rw (here.0, here.1) step.was in
            let is = child.is in
            let same : child.child ≡ step.before = cc in
            record {
              child = now;
              is = rw (here.0, here.1) step.is;
              parent = ap (λ o. o.parent) (sym same) ∙ child.parent;
            }
        | inr same ↦ record { child = child.child; is = same ∙ child.is; parent = child.parent }
      ]

  there : IsWell s' w k now
  there = (
    for_way-apart number comes step.before.awaits (sound.apart w k step.before step.was) (ways_of-apart w k s.next high sent new)
        (new_disjoint s sent high exact numbered new w k step.before step.was w k),
    λ y l among.
        elim (for_way-was number comes step.before.awaits (Child y l) among) [
          | inl fresh ↦ absurd (ways_of-child w k sent y l fresh)
          | inr old ↦ on y l w k (child_in s sound w k step.before step.was y l old.1)
        ],
  )

  each : (y : List ℕ) (m : ℕ) (o : OpenSession) → IsOpen s' y m o → IsWell s' y m o
  each y m o is =
      elim (step.others y m) [
        | inl here ↦
            let at : s'.session y m ≡ Some now = rw (here.0, here.1) step.is in
            let same : o ≡ now = cc in
            rw (same, here.0, here.1) there
        | inr same ↦
            let was : IsOpen s y m o = sym same ∙ is in
            (sound.apart y m o was, λ z l among. on z l y m (child_in s sound y m o was z l among))
      ]

  pub handed_on_awaited : AreAwaitedOnce s'
  handed_on_awaited = of_each s' each

-- ---- a session is opened for it

module _ (s s' : System) (number : ℕ) (f : Frame) (w : List ℕ) (k : ℕ) (x : List ℕ) (l : ℕ) (sent : List (ℕ × Frame))
    (step : OpensChild s s' number f w k x l sent) (high : ℕ) (new : Ascend s.next sent high) (sound : AreAwaitedOnce s) where
  abbrev parent_now : OpenSession
  parent_now = with_child step.before number x l

  abbrev child_now : OpenSession
  child_now = child_of step.before w k (ways_of x l sent)

  -- the new session wasn't open
  closed : (y : List ℕ) (m : ℕ) (o : OpenSession) → (y ≡ x) × (m ≡ l) → IsOpen s y m o → ⊥
  closed y m o here is =
      let at : s.session y m ≡ None = rw (here.0, here.1) step.none in let no : Some o ≡ None = sym is ∙ at in cc

  on_opening : (y : List ℕ) (m : ℕ) (z : List ℕ) (n : ℕ) → IsChildOf s y m z n → IsChildOf s' y m z n
  on_opening y m z n child =
      elim (step.others y m) [
        | inl here ↦
            let at : s.session y m ≡ Some step.before = rw (here.0, here.1) step.parent_was in
            let is = child.is in
            let same : child.child ≡ step.before = cc in
            record {
              child = parent_now;
              is = rw (here.0, here.1) step.parent_is;
              parent = ap (λ o. o.parent) (sym same) ∙ child.parent;
            }
        | inr (inl here) ↦ absurd (closed y m child.child here child.is)
        | inr (inr same) ↦ record { child = child.child; is = same ∙ child.is; parent = child.parent }
      ]

  is_child : (y : List ℕ) (m : ℕ) → AmongTokens (Child y m) (Child x l ∷ []) → IsChildOf s' y m w k
  is_child y m (inl is) =
      let node : y ≡ x = cc in
      let number : m ≡ l = cc in
      record { child = child_now; is = rw (node, number) step.child; parent = refl }
  is_child y m (inr none) = absurd none

  disjoint : AreDisjoint (Child x l ∷ []) step.before.awaits
  disjoint token (inl is) there =
      let mine : AmongTokens (Child x l) step.before.awaits = rw (← is) there in
      let child = child_in s sound w k step.before step.parent_was x l mine in
      closed x l child.child (refl, refl) child.is
  disjoint token (inr none) there = none

  parent_there : IsWell s' w k parent_now
  parent_there = (
    for_way-apart number (Child x l ∷ []) step.before.awaits (sound.apart w k step.before step.parent_was) (λ none. none, tt) disjoint,
    λ y m among.
        elim (for_way-was number (Child x l ∷ []) step.before.awaits (Child y m) among) [
          | inl fresh ↦ is_child y m fresh
          | inr old ↦ on_opening y m w k (child_in s sound w k step.before step.parent_was y m old.1)
        ],
  )

  child_there : IsWell s' x l child_now
  child_there = (ways_of-apart x l s.next high sent new, λ y m among. absurd (ways_of-child x l sent y m among))

  each_opened : (y : List ℕ) (m : ℕ) (o : OpenSession) → IsOpen s' y m o → IsWell s' y m o
  each_opened y m o is =
      elim (step.others y m) [
        | inl here ↦
            let at : s'.session y m ≡ Some parent_now = rw (here.0, here.1) step.parent_is in
            let same : o ≡ parent_now = cc in
            rw (same, here.0, here.1) parent_there
        | inr (inl here) ↦
            let at : s'.session y m ≡ Some child_now = rw (here.0, here.1) step.child in
            let same : o ≡ child_now = cc in
            rw (same, here.0, here.1) child_there
        | inr (inr same) ↦
            let was : IsOpen s y m o = sym same ∙ is in
            (sound.apart y m o was, λ z n among. on_opening z n y m (child_in s sound y m o was z n among))
      ]

  pub opened_awaited : AreAwaitedOnce s'
  opened_awaited = of_each s' each_opened

-- ---- a root session is opened

module _ (s s' : System) (number : ℕ) (f : Frame) (x : List ℕ) (l : ℕ) (sent : List (ℕ × Frame))
    (step : OpensRoot s s' number f x l sent) (high : ℕ) (new : Ascend s.next sent high) (sound : AreAwaitedOnce s) where
  on_seating : (y : List ℕ) (m : ℕ) (z : List ℕ) (n : ℕ) → IsChildOf s y m z n → IsChildOf s' y m z n
  on_seating y m z n child =
      elim (step.others y m) [
        | inl here ↦
            let at : s.session y m ≡ None = rw (here.0, here.1) step.none in
            let no : Some child.child ≡ None = sym child.is ∙ at in
            cc
        | inr same ↦ record { child = child.child; is = same ∙ child.is; parent = child.parent }
      ]

  root_there : IsWell s' x l step.root
  root_there =
      let tokens = step.awaits in
      (rw tokens (ways_of-apart x l s.next high sent new), λ y m among. absurd (ways_of-child x l sent y m (rw tokens at among)))

  each_seated : (y : List ℕ) (m : ℕ) (o : OpenSession) → IsOpen s' y m o → IsWell s' y m o
  each_seated y m o is =
      elim (step.others y m) [
        | inl here ↦
            let at : s'.session y m ≡ Some step.root = rw (here.0, here.1) step.is in
            let same : o ≡ step.root = cc in
            rw (same, here.0, here.1) root_there
        | inr same ↦
            let was : IsOpen s y m o = sym same ∙ is in
            (sound.apart y m o was, λ z n among. on_seating z n y m (child_in s sound y m o was z n among))
      ]

  pub root_awaited : AreAwaitedOnce s'
  root_awaited = of_each s' each_seated

-- ---- a session closes, below another

module _ (s s' : System) (number : ℕ) (f : Frame) (x : List ℕ) (k : ℕ) (w : List ℕ) (m : ℕ) (sent : List (ℕ × Frame))
    (step : ClosesChild s s' number f x k w m sent) (high : ℕ) (exact : AreExact s) (numbered : AreNumbered s)
    (new : Ascend s.next sent high) (sound : AreAwaitedOnce s) where
  abbrev passed : List Token
  passed = ways_of w m sent

  abbrev above_now : OpenSession
  above_now = with_awaits step.before (for_child x k passed step.before.awaits)

  on_closing : (y : List ℕ) (l : ℕ) (z : List ℕ) (n : ℕ) → IsChildOf s y l z n → ((y ≡ x) × (l ≡ k)) ⊎ IsChildOf s' y l z n
  on_closing y l z n child =
      elim (step.others y l) [
        | inl here ↦ inl here
        | inr (inl here) ↦
            let at : s.session y l ≡ Some step.before = rw (here.0, here.1) step.parent_was in
            let is = child.is in
            let same : child.child ≡ step.before = cc in
            inr (record {
              child = above_now;
              is = rw (here.0, here.1) step.parent_is;
              parent = ap (λ o. o.parent) (sym same) ∙ child.parent;
            })
        | inr (inr same) ↦ inr (record { child = child.child; is = same ∙ child.is; parent = child.parent })
      ]

  -- the session that is closed isn't awaited above any more
  left : (y : List ℕ) (l : ℕ) → (y ≡ x) × (l ≡ k) → AmongTokens (Child y l) above_now.awaits → ⊥
  left y l here among =
      elim (for_child-was x k passed step.before.awaits (Child y l) among) [
        | inl fresh ↦ ways_of-child w m sent y l fresh
        | inr old ↦ old.0 (rw (here.0, here.1) refl)
      ]

  -- nor elsewhere
  nowhere : (z : List ℕ) (n : ℕ) (o : OpenSession) → IsOpen s' z n o → (y : List ℕ) (l : ℕ) → (y ≡ x) × (l ≡ k)
      → IsChildOf s y l z n → AmongTokens (Child y l) o.awaits → ⊥
  nowhere z n o is y l here child among =
      let at : s.session y l ≡ Some step.closes.session = rw (here.0, here.1) step.closes.was in
      let open_was = child.is in
      let same : child.child ≡ step.closes.session = cc in
      let place = same_place z w n m (sym child.parent ∙ (ap (λ o. o.parent) same ∙ step.above)) in
      let up : s'.session z n ≡ Some above_now = rw (place.0, place.1) step.parent_is in
      let is_up : o ≡ above_now = cc in
      left y l here (rw is_up at among)

  above_there : IsWell s' w m above_now
  above_there = (
    for_child-apart x k passed step.before.awaits (sound.apart w m step.before step.parent_was)
        (ways_of-apart w m s.next high sent new)
        (new_disjoint s sent high exact numbered new w m step.before step.parent_was w m),
    λ y l among.
        elim (for_child-was x k passed step.before.awaits (Child y l) among) [
          | inl fresh ↦ absurd (ways_of-child w m sent y l fresh)
          | inr old ↦
              elim (on_closing y l w m (child_in s sound w m step.before step.parent_was y l old.1)) [
                | inl here ↦ absurd (left y l here among)
                | inr child ↦ child
              ]
        ],
  )

  each_left : (z : List ℕ) (n : ℕ) (o : OpenSession) → IsOpen s' z n o → IsWell s' z n o
  each_left z n o is =
      elim (step.others z n) [
        | inl here ↦
            let at : s'.session z n ≡ None = rw (here.0, here.1) step.closes.gone in
            let no : Some o ≡ None = sym is ∙ at in
            cc
        | inr (inl here) ↦
            let at : s'.session z n ≡ Some above_now = rw (here.0, here.1) step.parent_is in
            let same : o ≡ above_now = cc in
            rw (same, here.0, here.1) above_there
        | inr (inr same) ↦
            let was : IsOpen s z n o = sym same ∙ is in (
              sound.apart z n o was,
              λ y l among.
                  let child = child_in s sound z n o was y l among in
                  elim (on_closing y l z n child) [
                    | inl here ↦ absurd (nowhere z n o is y l here child among)
                    | inr still ↦ still
                  ],
            )
      ]

  pub closed_awaited : AreAwaitedOnce s'
  closed_awaited = of_each s' each_left

-- ---- a root session closes

module _ (s s' : System) (number : ℕ) (f : Frame) (x : List ℕ) (k : ℕ) (sent : List (ℕ × Frame))
    (step : ClosesRoot s s' number f x k sent) (sound : AreAwaitedOnce s) where
  on_end : (y : List ℕ) (l : ℕ) (z : List ℕ) (n : ℕ) → IsChildOf s y l z n → IsChildOf s' y l z n
  on_end y l z n child =
      elim (step.others y l) [
        | inl here ↦
            let at : s.session y l ≡ Some step.closes.session = rw (here.0, here.1) step.closes.was in
            let is = child.is in
            let same : child.child ≡ step.closes.session = cc in
            let no : ◌≡◌ {A = Option (List ℕ × ℕ)} (Some (z, n)) None = sym child.parent ∙ (ap (λ o. o.parent) same ∙ step.top) in
            cc
        | inr same ↦ record { child = child.child; is = same ∙ child.is; parent = child.parent }
      ]

  each_end : (y : List ℕ) (m : ℕ) (o : OpenSession) → IsOpen s' y m o → IsWell s' y m o
  each_end y m o is =
      elim (step.others y m) [
        | inl here ↦
            let at : s'.session y m ≡ None = rw (here.0, here.1) step.closes.gone in
            let no : Some o ≡ None = sym is ∙ at in
            cc
        | inr same ↦
            let was : IsOpen s y m o = sym same ∙ is in
            (sound.apart y m o was, λ z n among. on_end z n y m (child_in s sound y m o was z n among))
      ]

  pub last_awaited : AreAwaitedOnce s'
  last_awaited = of_each s' each_end

-- ---- no session changes

pub left_awaited : (s s' : System) → LeavesSessions s s' → AreAwaitedOnce s → AreAwaitedOnce s'
left_awaited s s' step sound =
    of_each s'
    (λ y m o is.
    let was : IsOpen s y m o = sym (step.sessions y m) ∙ is in (
      sound.apart y m o was,
      λ z n among.
          let child = child_in s sound y m o was z n among in
          record { child = child.child; is = step.sessions z n ∙ child.is; parent = child.parent },
    ))
