-- What is said of sessions as those of joins is kept by each kind of step.
use Rattle.std.proofs.Common.{◌≡◌, ◌⊎◌, ℕ, ◌+◌, ◌<◌, ◌≤◌, List, [], ◌∷◌, length, None, Some, arith, refl, sym, subst, ap, ◌∙◌, inl, inr}
use Rattle.tap_session.specs.Session.{Session}
use Rattle.tap_wire.specs.declared.frame.Frame.{Frame}
use Rattle.tap_rule.specs.Node.{NodeState, join_session_at}
use Rattle.tap_safety.specs.Bookkeeping.{SendsDeeper, SendsIn}
use Rattle.tap_safety.specs.Counted.{IsKeptSo}
use Rattle.tap_safety.specs.CountSteps.{CountsDown, OthersStay, SessionsStay}
use Rattle.tap_safety.specs.Joins.{AreAbout}
use Rattle.tap_safety.specs.Remembered.{OpenSession, Token}
use Rattle.tap_safety.specs.Remembered.Token.{Way}
use Rattle.tap_safety.specs.Sessions.{AmongTokens, IsOpen, for_way, ways_of}
use Rattle.tap_safety.specs.SessionSteps.{ClosesChild, ClosesRoot, HandsOn, LeavesSessions, OpensChild, OpensRoot, child_of}
use Rattle.tap_safety.specs.Exchanges.{AreNumbered, Ascend, ChangesAt}
use Rattle.tap_safety.specs.System.{System}
use Rattle.tap_safety.specs.Turns.{Turns}
use Rattle.tap_safety.proofs.CountedKept.{counted_answer, counted_answering, counted_closing, counted_last, counted_opening, counted_root, for_way-length}
use Rattle.tap_safety.proofs.PlacesKept.{deeper_kept}
use Rattle.tap_safety.proofs.SessionLaws.{opened_law}
use Rattle.tap_safety.proofs.StepLaws.{await_closing_law, await_handing_on_law, await_last_law, await_opening_law, await_others_law, await_root_law, awaited_closing_law, awaited_handing_on_law, awaited_last_law, awaited_opening_law, awaited_others_law, awaited_root_law, closing_law, closing_turns_law, handing_on_law, handing_on_turns_law, last_answer_law, last_turns_law, opening_turns_law, others_law, root_opened_law, root_turns_law}
use Rattle.tap_moves.proofs.SessionMoves.{left_deeper}
use Rattle.tap_cast_moves.specs.CastSessions.{AreOfCasts, AreSessionsOf}

-- ---- whose a frame is

module _ (v v' : System) (sent : List (ℕ × Frame)) (turns : Turns v v' sent) (parts : AreSessionsOf v) (sends : AreAbout v' sent) where
  of_casts_on : AreOfCasts v'
  of_casts_on = record {
    frames = λ m f x k session b among belongs is of_b. elim (turns.was m f x k among belongs) [
      | inr comes ↦ sends m f x k session b comes belongs is of_b
      | inl old ↦ elim (turns.origin x k session is) [
        | inl was ↦ was.joiner ∙ parts.of_casts.frames m f x k was.old b old belongs was.is of_b
        | inr new ↦
            let awaited = parts.exact.frames m f x k old belongs in
            let one = awaited.is in
            let none = new.none in
            let wrong : Some awaited.session ≡ None = cc in
            absurd (cc)
      ]
    ];
  }

of_casts_left : (v v' : System) → LeavesSessions v v' → AreOfCasts v → AreOfCasts v'
of_casts_left v v' leaves of = record {
  frames = λ m f x k session b among belongs is of_b.
      of.frames m f x k session b (leaves.was m f x k among belongs) belongs (sym (leaves.sessions x k) ∙ is) of_b;
}

-- ---- each kind of step

-- a step by which no session changes: each node keeps its sessions, or has none, and had none open
pub left_parts : (v v' : System) → LeavesSessions v v' → AreSessionsOf v
    → ((x : List ℕ) (now : NodeState) → v'.node x ≡ Some now → ((node : NodeState) × (v.node x ≡ Some node) × SessionsStay node now)
    ⊎ (((k : ℕ) → join_session_at now k ≡ None) × ((k : ℕ) → v.session x k ≡ None)))
    → AreSessionsOf v'
left_parts v v' leaves parts nodes = record {
  exact = others_law v v' leaves parts.exact;
  awaited = awaited_others_law v v' leaves parts.awaited;
  await = await_others_law v v' leaves parts.await;
  counted = record {
    kept = λ x k session state is at.
        let old : IsOpen v x k session = sym (leaves.sessions x k) ∙ is in
        elim (nodes x state at) [
          | inl was ↦
              let kept = parts.counted.kept x k session was.0 old was.1 in (kept.0, was.2 k ∙ kept.1, kept.2)
          | inr none ↦ let no = none.1 k in let wrong : Some session ≡ None = sym old ∙ no in absurd (cc)
        ];
    open_at = λ x k state kept at is.
        elim (nodes x state at) [
          | inl was ↦
              let found = parts.counted.open_at x k was.0 kept was.1 (sym (was.2 k) ∙ is) in (found.0, leaves.sessions x k ∙ found.1)
          | inr none ↦ let no = none.0 k in let wrong : Some kept ≡ None = sym is ∙ no in absurd (cc)
        ];
  };
  deeper = left_deeper v v' leaves parts.deeper;
  of_casts = of_casts_left v v' leaves parts.of_casts;
}

module _ (v v' : System) (number : ℕ) (f : Frame) (sent : List (ℕ × Frame)) (new : Ascend v.next sent v'.next) (numbered : AreNumbered v)
    (parts : AreSessionsOf v) (deep : SendsDeeper v' sent) (sends : AreAbout v' sent) where
  -- what a session that is handed on awaits then
  handed_on : (w : List ℕ) (k : ℕ) (step : HandsOn v v' number f w k sent)
      → length (for_way number (ways_of w k sent) step.before.awaits) + 1 ≡ length (ways_of w k sent) + length step.before.awaits
  handed_on w k step =
      let awaited = parts.exact.frames number f w k step.frames.taken step.belongs in
      let one = awaited.is in
      let other = step.was in
      let same : awaited.session ≡ step.before = cc in
      let among = subst (λ (o : OpenSession). AmongTokens (Way number) o.awaits) same awaited.among in
      for_way-length number (ways_of w k sent) step.before.awaits (parts.awaited.apart w k step.before step.was) among

  some_awaits : (w : List ℕ) (k : ℕ) (step : HandsOn v v' number f w k sent) → 1 ≤ length step.before.awaits
  some_awaits w k step = by step.before.awaits refl
    where
      by : (tokens : List Token) → step.before.awaits ≡ tokens → 1 ≤ length tokens
      by [] none = absurd (parts.await.some w k step.before step.was none)
      by (token ∷ tokens) some = omega arith

  not_empty : (tokens : List Token) → 1 ≤ length tokens → tokens ≡ [] → ⊥
  not_empty tokens some none = let no : 1 ≤ 0 = subst (λ (l : List Token). 1 ≤ length l) none some in absurd (omega (arith, no))

  -- a frame is answered at once
  pub answered_parts : (w : List ℕ) (k : ℕ) (x : List ℕ) (before after : NodeState) → HandsOn v v' number f w k sent
      → ChangesAt v v' x before after → SessionsStay before after → length (ways_of w k sent) ≡ 1 → AreSessionsOf v'
  answered_parts w k x before after step at stay one =
      let long = handed_on w k step in
      let some = some_awaits w k step in
      record {
        exact = handing_on_law v v' number f w k sent step parts.exact;
        awaited = awaited_handing_on_law v v' number f w k sent step new parts.exact numbered parts.awaited;
        await = await_handing_on_law v v' number f w k sent step
            (not_empty (for_way number (ways_of w k sent) step.before.awaits) (omega (arith, long, some, one))) parts.await;
        counted =
            counted_answering v v' number f w k sent x before after step at stay one parts.exact parts.awaited parts.counted;
        deeper = deeper_kept v v' sent (handing_on_turns_law v v' number f w k sent step parts.exact) parts.exact deep parts.deeper;
        of_casts = of_casts_on v v' sent (handing_on_turns_law v v' number f w k sent step parts.exact) parts sends;
      }

  -- an answer that isn't the last one
  pub counted_down_parts : (w : List ℕ) (k : ℕ) (before after : NodeState) (step : HandsOn v v' number f w k sent)
      → ChangesAt v v' w before after → CountsDown before after k → ways_of w k sent ≡ [] → 1 < length step.before.awaits
      → AreSessionsOf v'
  counted_down_parts w k before after step at down none more =
      let long = handed_on w k step in
      let zero = ap length none in
      record {
        exact = handing_on_law v v' number f w k sent step parts.exact;
        awaited = awaited_handing_on_law v v' number f w k sent step new parts.exact numbered parts.awaited;
        await = await_handing_on_law v v' number f w k sent step
            (not_empty (for_way number (ways_of w k sent) step.before.awaits) (omega (arith, long, zero, more))) parts.await;
        counted = counted_answer v v' number f w k sent before after step at down none parts.exact parts.awaited parts.counted;
        deeper = deeper_kept v v' sent (handing_on_turns_law v v' number f w k sent step parts.exact) parts.exact deep parts.deeper;
        of_casts = of_casts_on v v' sent (handing_on_turns_law v v' number f w k sent step parts.exact) parts sends;
      }

  -- a session is opened below another, or for a cast
  pub opened_parts : (w : List ℕ) (k : ℕ) (x : List ℕ) (l : ℕ) (before after : NodeState) (kept : Session)
      → (step : OpensChild v v' number f w k x l sent) → ChangesAt v v' x before after → OthersStay before after l
      → join_session_at after l ≡ Some kept → IsKeptSo kept (child_of step.before w k (ways_of x l sent)) → SendsIn sent x l
      → AreSessionsOf v'
  opened_parts w k x l before after kept step at stay is so some = record {
    exact = opened_law v v' number f w k x l sent step parts.exact;
    awaited = awaited_opening_law v v' number f w k x l sent step new parts.awaited;
    await = await_opening_law v v' number f w k x l sent step parts.exact some parts.await;
    counted =
        counted_opening v v' number f w k x l sent before after kept step at stay is so parts.exact parts.awaited parts.counted;
    deeper = deeper_kept v v' sent (opening_turns_law v v' number f w k x l sent step parts.exact) parts.exact deep parts.deeper;
    of_casts = of_casts_on v v' sent (opening_turns_law v v' number f w k x l sent step parts.exact) parts sends;
  }

  -- one is closed by its last answer: below another, or of a cast
  pub closed_parts : (x : List ℕ) (k : ℕ) (w : List ℕ) (m : ℕ) (before after : NodeState) → ClosesChild v v' number f x k w m sent
      → ChangesAt v v' x before after → OthersStay before after k → join_session_at after k ≡ None → length (ways_of w m sent) ≡ 1
      → SendsIn sent w m → AreSessionsOf v'
  closed_parts x k w m before after step at stay gone one some = record {
    exact = closing_law v v' number f x k w m sent step parts.exact;
    awaited = awaited_closing_law v v' number f x k w m sent step new parts.exact numbered parts.awaited;
    await = await_closing_law v v' number f x k w m sent step parts.exact some parts.await;
    counted =
        counted_closing v v' number f x k w m sent before after step at stay gone one parts.exact parts.awaited parts.counted;
    deeper = deeper_kept v v' sent (closing_turns_law v v' number f x k w m sent step parts.exact) parts.exact deep parts.deeper;
    of_casts = of_casts_on v v' sent (closing_turns_law v v' number f x k w m sent step parts.exact) parts sends;
  }

  pub last_parts : (x : List ℕ) (k : ℕ) (before after : NodeState) → ClosesRoot v v' number f x k sent
      → ChangesAt v v' x before after → OthersStay before after k → join_session_at after k ≡ None → AreSessionsOf v'
  last_parts x k before after step at stay gone = record {
    exact = last_answer_law v v' number f x k sent step parts.exact;
    awaited = awaited_last_law v v' number f x k sent step parts.awaited;
    await = await_last_law v v' number f x k sent step parts.await;
    counted = counted_last v v' number f x k sent before after step at stay gone parts.counted;
    deeper = deeper_kept v v' sent (last_turns_law v v' number f x k sent step parts.exact) parts.exact deep parts.deeper;
    of_casts = of_casts_on v v' sent (last_turns_law v v' number f x k sent step parts.exact) parts sends;
  }

module _ (v v' : System) (number : ℕ) (f : Frame) (sent : List (ℕ × Frame)) (new : Ascend v.next sent v'.next) (parts : AreSessionsOf v)
    (deep : SendsDeeper v' sent) (sends : AreAbout v' sent) where
  -- a root session is opened
  pub rooted_parts : (x : List ℕ) (l : ℕ) (before after : NodeState) (kept : Session)
      → (step : OpensRoot v v' number f x l sent) → ChangesAt v v' x before after → OthersStay before after l
      → join_session_at after l ≡ Some kept → IsKeptSo kept step.root → SendsIn sent x l → AreSessionsOf v'
  rooted_parts x l before after kept step at stay is so some = record {
    exact = root_opened_law v v' number f x l sent step parts.exact;
    awaited = awaited_root_law v v' number f x l sent step new parts.awaited;
    await = await_root_law v v' number f x l sent step parts.exact some parts.await;
    counted = counted_root v v' number f x l sent before after kept step at stay is so parts.counted;
    deeper = deeper_kept v v' sent (root_turns_law v v' number f x l sent step parts.exact) parts.exact deep parts.deeper;
    of_casts = of_casts_on v v' sent (root_turns_law v v' number f x l sent step parts.exact) parts sends;
  }
