-- The bookkeeping of sessions after a step: places, depths, and that each awaits an answer.
-- Cited above: deeper_kept
use Rattle.std.proofs.Common.{◌≡◌, inl, inr, ℕ, ◌+◌, ◌<◌, List, [], ◌⊎◌, None, Some, arith, refl, sym, ap, ◌∙◌}
use Rattle.tap_name.specs.declared.slot.Slot.{Slot}
use Rattle.tap_wire.specs.declared.frame.Frame.{Frame}
use Rattle.tap_wire.specs.declared.frame.TellFields.{TellFields}
use Rattle.tap_safety.specs.Frames.{tell_body}
use Rattle.tap_safety.specs.Remembered.{OpenSession, Token}
use Rattle.tap_safety.specs.Remembered.Token.{Way, Child}
use Rattle.tap_safety.specs.System.{System, AmongFrames, IsUnderWay}
use Rattle.tap_safety.specs.Sessions.{AmongTokens, AreExact, IsOpen, for_child, for_way, ways_of}
use Rattle.tap_safety.specs.SessionSteps.{ClosesChild, ClosesRoot, HandsOn, LeavesSessions, OpensChild, OpensRoot, with_child}
use Rattle.tap_safety.specs.Turns.{Turns, WasOpen}
use Rattle.tap_safety.specs.Bookkeeping.{Await, HasPlace, HavePlaces, KeepsPlaces, SendsDeeper, SendsIn, TellsAreDeeper}
use Rattle.tap_safety.proofs.Exchange.{for_child-new}
use Rattle.tap_safety.proofs.JoinsKept.{one_session}
use Rattle.tap_safety.proofs.SessionsKept.{awaited_up, child_awaited, is_new, is_root, ways_of-among}

module _ (s s' : System) (sent : List (ℕ × Frame)) (t : Turns s s' sent) where
  -- a session that goes on stands where it stood
  place_on : KeepsPlaces s s' → HavePlaces s → (y : List ℕ) (m : ℕ) (o : OpenSession) → WasOpen s s' sent y m o → HasPlace s' y m o
  place_on keeps have y m o was =
      let place = have.places y m was.old was.is in
      let now = keeps.nodes y m place.state place.is place.holds in
      let one = place.opened in
      let two = now.3 in
      record {
        state = now.0;
        is = now.1;
        holds = now.2;
        opened = omega arith;
        other = λ same. place.other (sym was.joiner ∙ same);
        above = λ w k parent. place.above w k (sym was.parent ∙ parent);
      }

  pub places_kept : KeepsPlaces s s' → HavePlaces s → HavePlaces s'
  places_kept keeps have = record {
    places = λ y m o is.
        elim (t.origin y m o is) [
          | inl was ↦ place_on keeps have y m o was
          | inr new ↦ keeps.new y m o is new.none
        ];
  }

  pub deeper_kept : AreExact s → SendsDeeper s' sent → TellsAreDeeper s → TellsAreDeeper s'
  deeper_kept sound sends deeper = record { depth = depth; level = level }
    where
      -- a Tell was under way, or is sent
      tell_was : (from to : List ℕ) (fields : TellFields) (watch : List Slot) → (way : IsUnderWay s' from to (tell_body fields watch))
          → IsUnderWay s from to (tell_body fields watch)
          ⊎ ((m : ℕ) × AmongFrames m (record { from = from; to = to; body = tell_body fields watch }) sent)
      tell_was from to fields watch way =
          let frame : Frame = record { from = from; to = to; body = tell_body fields watch } in
          elim (t.was way.number frame from fields.session way.among refl) [
            | inl old ↦ inl (record { number = way.number; among = old })
            | inr new ↦ inr (way.number, new)
          ]

      depth : (from to : List ℕ) (fields : TellFields) (watch : List Slot) (session : OpenSession)
          → IsUnderWay s' from to (tell_body fields watch) → IsOpen s' from fields.session session → fields.depth ≡ session.depth + 1
      depth from to fields watch session way is =
          elim (tell_was from to fields watch way) [
            | inr new ↦ sends.depth from to fields watch new.0 session new.1 is
            | inl old ↦
                let frame : Frame = record { from = from; to = to; body = tell_body fields watch } in
                let awaited = sound.frames old.number frame from fields.session old.among refl in
                let was = deeper.depth from to fields watch awaited.session old awaited.is in
                elim (t.fate from fields.session awaited.session awaited.is) [
                  | inl on ↦
                      let same = one_session s' from fields.session session on.now is on.is in
                      let deep : session.depth ≡ awaited.session.depth = ap (λ session. session.depth) same ∙ on.depth in
                      omega arith
                  | inr closed ↦ let no : Some session ≡ None = sym is ∙ closed.gone in cc
                ]
          ]

      level : (from to : List ℕ) (fields : TellFields) (watch : List Slot) → IsUnderWay s' from to (tell_body fields watch)
          → fields.prefix < fields.level
      level from to fields watch way =
          elim (tell_was from to fields watch way) [
            | inl old ↦ deeper.level from to fields watch old
            | inr new ↦ sends.level from to fields watch new.0 new.1
          ]

-- ---- each session awaits an answer

not_empty : (token : Token) (tokens : List Token) → AmongTokens token tokens → tokens ≡ [] → ⊥
not_empty token tokens among none = let no : AmongTokens token [] = rw none at among in absurd no

some_way : (x : List ℕ) (k : ℕ) (sent : List (ℕ × Frame)) → SendsIn sent x k → ways_of x k sent ≡ [] → ⊥
some_way x k sent some =
    not_empty (Way some.number) (ways_of x k sent) (ways_of-among x k sent some.number some.frame some.among some.belongs)

-- what a session awaits that is open at a place
awaits_there : (s' : System) (y w : List ℕ) (m k : ℕ) (o : OpenSession) {c : OpenSession} → y ≡ w → m ≡ k → IsOpen s' w k c
    → IsOpen s' y m o → o.awaits ≡ c.awaits
awaits_there s' y w m k o {c = c} node number is mine =
    let there : IsOpen s' y m c = rw (node, number) is in ap (λ session. session.awaits) (one_session s' y m o c mine there)

-- the same of a session that doesn't change
same_await : (s s' : System) (y : List ℕ) (m : ℕ) (o : OpenSession) → Await s → s'.session y m ≡ s.session y m → IsOpen s' y m o
    → o.awaits ≡ [] → ⊥
same_await s s' y m o await same is = await.some y m o (sym same ∙ is)

pub hands_on_await : (s s' : System) (number : ℕ) (f : Frame) (w : List ℕ) (k : ℕ) (sent : List (ℕ × Frame))
    → (step : HandsOn s s' number f w k sent) → (for_way number (ways_of w k sent) step.before.awaits ≡ [] → ⊥) → Await s → Await s'
hands_on_await s s' number f w k sent step some await = record {
  some = λ y m o is.
      elim (step.others y m) [
        | inr same ↦ same_await s s' y m o await same is
        | inl here ↦
            λ none. some (sym (awaits_there s' y w m k o here.0 here.1 step.is is) ∙ none)
      ];
}

pub opens_child_await : (s s' : System) (number : ℕ) (f : Frame) (w : List ℕ) (k : ℕ) (x : List ℕ) (l : ℕ) (sent : List (ℕ × Frame))
    → OpensChild s s' number f w k x l sent → AreExact s → SendsIn sent x l → Await s → Await s'
opens_child_await s s' number f w k x l sent step sound some await = record {
  some = λ y m o is.
      elim (step.others y m) [
        | inl here ↦
            λ none. not_empty (Child x l) (with_child step.before number x l).awaits
            (child_awaited s s' number f w k x l sent step sound)
            (sym (awaits_there s' y w m k o here.0 here.1 step.parent_is is) ∙ none)
        | inr more ↦
            elim more [
              | inr same ↦ same_await s s' y m o await same is
              | inl here ↦
                  let now = is_new s s' number f w k x l sent step sound y m o here is in
                  λ none. some_way x l sent some (sym (ap (λ session. session.awaits) now) ∙ none)
            ]
      ];
}

pub opens_root_await : (s s' : System) (number : ℕ) (f : Frame) (x : List ℕ) (l : ℕ) (sent : List (ℕ × Frame))
    → OpensRoot s s' number f x l sent → AreExact s → SendsIn sent x l → Await s → Await s'
opens_root_await s s' number f x l sent step sound some await = record {
  some = λ y m o is.
      elim (step.others y m) [
        | inr same ↦ same_await s s' y m o await same is
        | inl here ↦
            let now = is_root s s' number f x l sent step sound y m o here is in
            λ none. some_way x l sent some (sym step.awaits ∙ sym (ap (λ session. session.awaits) now) ∙ none)
      ];
}

pub closes_child_await : (s s' : System) (number : ℕ) (f : Frame) (x : List ℕ) (k : ℕ) (w : List ℕ) (m : ℕ) (sent : List (ℕ × Frame))
    → ClosesChild s s' number f x k w m sent → AreExact s → SendsIn sent w m → Await s → Await s'
closes_child_await s s' number f x k w m sent step sound some await = record {
  some = λ y n o is.
      elim (step.others y n) [
        | inl here ↦
            let gone : s'.session y n ≡ None = rw (here.0, here.1) step.closes.gone in
            let no : Some o ≡ None = sym is ∙ gone in
            cc
        | inr more ↦
            elim more [
              | inr same ↦ same_await s s' y n o await same is
              | inl here ↦
                  let new = for_child-new x k (ways_of w m sent) step.before.awaits (Way some.number)
                  (awaited_up s s' number f x k w m sent step sound)
                  (ways_of-among w m sent some.number some.frame some.among some.belongs) in
                  λ none. not_empty (Way some.number) (for_child x k (ways_of w m sent) step.before.awaits) new
                  (sym (awaits_there s' y w n m o here.0 here.1 step.parent_is is) ∙ none)
            ]
      ];
}

pub closes_root_await : (s s' : System) (number : ℕ) (f : Frame) (x : List ℕ) (k : ℕ) (sent : List (ℕ × Frame))
    → ClosesRoot s s' number f x k sent → Await s → Await s'
closes_root_await s s' number f x k sent step await = record {
  some = λ y n o is.
      elim (step.others y n) [
        | inr same ↦ same_await s s' y n o await same is
        | inl here ↦
            let gone : s'.session y n ≡ None = rw (here.0, here.1) step.closes.gone in
            let no : Some o ≡ None = sym is ∙ gone in
            cc
      ];
}

pub leaves_await : (s s' : System) → LeavesSessions s s' → Await s → Await s'
leaves_await s s' step await = record { some = λ y m o is. same_await s s' y m o await (step.sessions y m) is }
