-- The sessions that are remembered are those that the nodes keep, after each kind of step.
-- Cited above: counted_answer, counted_answering, counted_closing, counted_last, counted_opening, counted_others, counted_root, for_way-length
use Rattle.std.proofs.Common.{◌≡◌, inl, inr, ℕ, ◌+◌, List, [], ◌∷◌, ◌⊎◌, None, Some, length, arith, refl, sym, ap, ◌∙◌, eqb}
use Rattle.std.proofs.lemmas.Bool.{cases_Bool, eqb-false, eqb-true}
use Rattle.std.proofs.lemmas.List.{length-append}
use Rattle.tap_session.specs.Session.{Session}
use Rattle.tap_wire.specs.declared.frame.Frame.{Frame}
use Rattle.tap_rule.specs.Node.{NodeState, join_session_at}
use Rattle.tap_safety.specs.Remembered.{OpenSession, Token}
use Rattle.tap_safety.specs.Remembered.Token.{Way, Child}
use Rattle.tap_safety.specs.System.{System}
use Rattle.tap_safety.specs.Awaited.{AreApart, AreAwaitedOnce}
use Rattle.tap_safety.specs.Counted.{AreCountedSo, IsKeptSo, kept_parent}
use Rattle.tap_safety.specs.CountSteps.{
  CountedKeptByAnswer,
  CountedKeptByAnswering,
  CountedKeptByClosing,
  CountedKeptByLastAnswer,
  CountedKeptByOpening,
  CountedKeptByOthers,
  CountedKeptByRoot,
  CountsDown,
  OthersStay,
  SessionsStay,
}
use Rattle.tap_safety.specs.SessionSteps.{ClosesChild, ClosesRoot, Exchanges, HandsOn, OpensChild, OpensRoot, child_of, with_awaits, with_child}
use Rattle.tap_safety.specs.Sessions.{AmongTokens, AreExact, Belongs, IsOpen, for_child, for_way, is_place, ways_of}
use Rattle.tap_safety.specs.Exchanges.{ChangesAt}
use Rattle.tap_safety.proofs.Apart.{for_child-none, for_way-none}
use Rattle.tap_safety.proofs.Exchange.{is_place-here, is_place-same}
use Rattle.tap_safety.proofs.SessionsKept.{awaited_up, tokens_at}
use Rattle.tap_safety.proofs.TellKeeps.{node_before}

-- ---- how many are awaited, once others stand in place of one

pub for_way-length : (number : ℕ) (new tokens : List Token) → AreApart tokens → AmongTokens (Way number) tokens
    → length (for_way number new tokens) + 1 ≡ length new + length tokens
unfolding for_way
for_way-length number new [] apart among = absurd among
for_way-length number new (Way other ∷ tokens) (first, apart) among =
    elim (cases_Bool (eqb other number)) [
      | inl here ↦
          let place = eqb-true other number here in
          let gone : AmongTokens (Way number) tokens → ⊥ = λ more. first (rw place more) in
          let rest = for_way-none number new tokens gone in
          let whole = length-append new tokens in
          rw (here, rest) (omega (arith, whole))
      | inr there ↦
          elim among [
            | inl is ↦ absurd (eqb-false other number there (let same : Way number ≡ Way other = is in cc))
            | inr later ↦ let rest = for_way-length number new tokens apart later in rw there (omega arith)
          ]
    ]
for_way-length number new (Child y l ∷ tokens) (first, apart) (inl is) = let wrong : Way number ≡ Child y l = is in cc
for_way-length number new (Child y l ∷ tokens) (first, apart) (inr later) =
    let rest = for_way-length number new tokens apart later in omega arith

pub for_child-length : (x : List ℕ) (k : ℕ) (new tokens : List Token) → AreApart tokens → AmongTokens (Child x k) tokens
    → length (for_child x k new tokens) + 1 ≡ length new + length tokens
unfolding for_child
for_child-length x k new [] apart among = absurd among
for_child-length x k new (Way number ∷ tokens) (first, apart) (inl is) = let wrong : Child x k ≡ Way number = is in cc
for_child-length x k new (Way number ∷ tokens) (first, apart) (inr later) =
    let rest = for_child-length x k new tokens apart later in omega arith
for_child-length x k new (Child y m ∷ tokens) (first, apart) among =
    elim (cases_Bool (is_place x k y m)) [
      | inl here ↦
          let same = is_place-same x k y m here in
          let gone : AmongTokens (Child x k) tokens → ⊥ = λ more. first (rw (same.0, same.1) more) in
          let rest = for_child-none x k new tokens gone in
          let whole = length-append new tokens in
          rw (here, rest) (omega (arith, whole))
      | inr there ↦
          elim among [
            | inl is ↦
                let same : Child x k ≡ Child y m = is in
                let here = is_place-here x k y m (cc) (cc) in
                cc
            | inr later ↦ let rest = for_child-length x k new tokens apart later in rw there (omega arith)
          ]
    ]

-- ---- what all kinds share

-- an open session with the same parent, depth and number of answers
record SameCount (one two : OpenSession) : Type 0 where
  parent : kept_parent one ≡ kept_parent two
  depth : one.depth ≡ two.depth
  waits : length one.awaits ≡ length two.awaits

-- it was open so before, and its node still keeps it
record WasSo (s : System) (x : List ℕ) (before after : NodeState) (y : List ℕ) (m : ℕ) (o : OpenSession) : Type 0 where
  old : OpenSession
  is : IsOpen s y m old
  same : SameCount o old
  stays : y ≡ x → join_session_at after m ≡ join_session_at before m

-- or it is x's, which keeps it so now
record IsMine (x : List ℕ) (after : NodeState) (y : List ℕ) (m : ℕ) (o : OpenSession) : Type 0 where
  here : y ≡ x
  kept : Session
  is : join_session_at after m ≡ Some kept
  so : IsKeptSo kept o

record HasSession (s : System) (y : List ℕ) (m : ℕ) : Type 0 where
  session : OpenSession
  is : IsOpen s y m session

record Keeps (node : NodeState) (n : ℕ) : Type 0 where
  kept : Session
  is : join_session_at node n ≡ Some kept

itself : (o : OpenSession) → SameCount o o
itself o = record { parent = refl; depth = refl; waits = refl }

kept_as : (kept : Session) (one two : OpenSession) → IsKeptSo kept two → SameCount one two → IsKeptSo kept one
kept_as kept one two so same =
    record { parent = so.parent ∙ sym same.parent; depth = so.depth ∙ sym same.depth; waiting = so.waiting ∙ sym same.waits }

module _ (s s' : System) (x : List ℕ) (before after : NodeState) (at : ChangesAt s s' x before after)
    (fate : (y : List ℕ) (m : ℕ) (o : OpenSession) → IsOpen s' y m o → WasSo s x before after y m o ⊎ IsMine x after y m o)
    (back : (y : List ℕ) (m : ℕ) (o : OpenSession) → IsOpen s y m o
    → HasSession s' y m ⊎ ((y ≡ x) × (join_session_at after m ≡ None)))
    (came : (n : ℕ) (kept : Session) → join_session_at after n ≡ Some kept → Keeps before n ⊎ HasSession s' x n)
    (sound : AreCountedSo s) where
  kept_now : (y : List ℕ) (m : ℕ) (o : OpenSession) (state : NodeState) → IsOpen s' y m o → s'.node y ≡ Some state
      → (kept : Session) × (join_session_at state m ≡ Some kept) × IsKeptSo kept o
  kept_now y m o state is node =
      elim (fate y m o is) [
        | inr mine ↦
            let there : s'.node y ≡ Some after = rw mine.here at.is in
            let same : state ≡ after = cc in
            (mine.kept, rw same mine.is, mine.so)
        | inl was ↦
            elim (node_before s s' x before after at y state node) [
              | inl here ↦
                  let old = sound.kept y m was.old before was.is here.2 in
                  let now : join_session_at after m ≡ Some old.0 = was.stays here.0 ∙ old.1 in
                  (old.0, rw here.1 now, kept_as old.0 o was.old old.2 was.same)
              | inr there ↦
                  let old = sound.kept y m was.old state was.is there in (old.0, old.1, kept_as old.0 o was.old old.2 was.same)
            ]
      ]

  open_now : (y : List ℕ) (m : ℕ) (state : NodeState) (kept : Session) → s'.node y ≡ Some state → join_session_at state m ≡ Some kept
      → (session : OpenSession) × IsOpen s' y m session
  open_now y m state kept node is =
      elim (node_before s s' x before after at y state node) [
        | inl here ↦
            let now : join_session_at after m ≡ Some kept = rw (← here.1) is in
            elim (came m kept now) [
              | inr has ↦ (has.session, rw here.0 has.is)
              | inl old ↦
                  let was = sound.open_at y m before old.kept here.2 old.is in
                  elim (back y m was.0 was.1) [
                    | inl has ↦ (has.session, has.is)
                    | inr none ↦ let no : None ≡ Some kept = sym none.1 ∙ now in cc
                  ]
            ]
        | inr there ↦
            let was = sound.open_at y m state kept there is in
            elim (back y m was.0 was.1) [
              | inl has ↦ (has.session, has.is)
              | inr none ↦
                  let mine : s'.node y ≡ Some after = rw none.0 at.is in
                  let same : state ≡ after = cc in
                  let now : join_session_at after m ≡ Some kept = rw (← same) is in
                  let no : None ≡ Some kept = sym none.1 ∙ now in
                  cc
            ]
      ]

  counted : AreCountedSo s'
  counted = record { kept = λ y m o state is node. kept_now y m o state is node; open_at = open_now }

-- the frame's session awaits it
awaits_it : (s s' : System) (number : ℕ) (f : Frame) (w : List ℕ) (k : ℕ) (before : OpenSession) (sent : List (ℕ × Frame))
    → AreExact s → IsOpen s w k before → Exchanges s s' number f sent → Belongs f w k → AmongTokens (Way number) before.awaits
awaits_it s s' number f w k before sent exact was frames belongs =
    let awaited = exact.frames number f w k frames.taken belongs in
    let open_was = awaited.is in
    let same : awaited.session ≡ before = cc in
    tokens_at awaited.session before same (Way number) awaited.among

-- what a node kept, it kept before, but for one
kept_before : (before after : NodeState) (k : ℕ) → OthersStay before after k → (n : ℕ) (kept : Session)
    → join_session_at after n ≡ Some kept → Keeps before n ⊎ (n ≡ k)
kept_before before after k others n kept is =
    elim (others n) [ inl here ↦ inr here | inr same ↦ inl (record { kept = kept; is = sym same ∙ is }) ]

-- ---- a frame is answered

module _ (s s' : System) (number : ℕ) (f : Frame) (w : List ℕ) (k : ℕ) (sent : List (ℕ × Frame))
    (step : HandsOn s s' number f w k sent) (exact : AreExact s) (once : AreAwaitedOnce s) where
  abbrev handed : OpenSession
  handed = with_awaits step.before (for_way number (ways_of w k sent) step.before.awaits)

  handed_length : length handed.awaits + 1 ≡ length (ways_of w k sent) + length step.before.awaits
  handed_length =
      for_way-length number (ways_of w k sent) step.before.awaits (once.apart w k step.before step.was)
      (awaits_it s s' number f w k step.before sent exact step.was step.frames step.belongs)

  handed_back : (y : List ℕ) (m : ℕ) (o : OpenSession) → IsOpen s y m o → HasSession s' y m
  handed_back y m o is =
      elim (step.others y m) [
        | inl here ↦ record { session = handed; is = rw (here.0, here.1) step.is }
        | inr same ↦ record { session = o; is = same ∙ is }
      ]

  module _ (x : List ℕ) (before after : NodeState) (at : ChangesAt s s' x before after) (stay : SessionsStay before after)
      (one : length (ways_of w k sent) ≡ 1) (sound : AreCountedSo s) where
    answering_fate : (y : List ℕ) (m : ℕ) (o : OpenSession) → IsOpen s' y m o → WasSo s x before after y m o ⊎ IsMine x after y m o
    answering_fate y m o is =
        elim (step.others y m) [
          | inl here ↦
              let now : s'.session y m ≡ Some handed = rw (here.0, here.1) step.is in
              let same : o ≡ handed = cc in
              let long = handed_length in
              let count : SameCount handed step.before = record { parent = refl; depth = refl; waits = omega arith } in
              inl (record {
                old = step.before;
                is = rw (here.0, here.1) step.was;
                same = rw same count;
                stays = λ mine. stay m;
              })
          | inr same ↦ inl (record { old = o; is = sym same ∙ is; same = itself o; stays = λ mine. stay m })
        ]

    answering_counted : AreCountedSo s'
    answering_counted =
        counted s s' x before after at answering_fate (λ y m o is. inl (handed_back y m o is))
        (λ n kept is. inl (record { kept = kept; is = sym (stay n) ∙ is })) sound

  module _ (before after : NodeState) (at : ChangesAt s s' w before after) (down : CountsDown before after k)
      (none : ways_of w k sent ≡ []) (sound : AreCountedSo s) where
    shorter : length handed.awaits + 1 ≡ length step.before.awaits
    shorter =
        let long = handed_length in
        let empty : length (ways_of w k sent) ≡ 0 = ap (λ (tokens : List Token). length tokens) none in
        omega arith

    counts_so : IsKeptSo down.now handed
    counts_so =
        let old = sound.kept w k step.before before step.was at.was in
        let was = old.1 in
        let also = down.was in
        let same : old.0 ≡ down.old = cc in
        let so : IsKeptSo down.old step.before = rw (← same) old.2 in
        let waited = so.waiting in
        let one = down.waiting in
        let less = shorter in
        record { parent = down.parent ∙ so.parent; depth = down.depth ∙ so.depth; waiting = omega arith }

    answer_fate : (y : List ℕ) (m : ℕ) (o : OpenSession) → IsOpen s' y m o → WasSo s w before after y m o ⊎ IsMine w after y m o
    answer_fate y m o is =
        elim (step.others y m) [
          | inl here ↦
              let now : s'.session y m ≡ Some handed = rw (here.0, here.1) step.is in
              let same : o ≡ handed = cc in
              inr (record { here = here.0; kept = down.now; is = rw here.1 down.is; so = rw same counts_so })
          | inr same ↦
              let was : IsOpen s y m o = sym same ∙ is in
              inl (record {
                old = o;
                is = was;
                same = itself o;
                stays = λ mine. elim (down.others m) [
                  | inr stays ↦ stays
                  | inl it ↦
                      let now : s'.session y m ≡ Some handed = rw (mine, it) step.is in
                      let old : s.session y m ≡ Some step.before = rw (mine, it) step.was in
                      let one : o ≡ handed = cc in
                      let two : o ≡ step.before = cc in
                      let long : length handed.awaits ≡ length step.before.awaits = ap (λ o. length o.awaits) (sym one ∙ two) in
                      let less = shorter in
                      absurd (omega arith)
                ];
              })
        ]

    answer_counted : AreCountedSo s'
    answer_counted =
        counted s s' w before after at answer_fate (λ y m o is. inl (handed_back y m o is))
        (λ n kept is.
        elim (kept_before before after k down.others n kept is) [
          | inl old ↦ inl old
          | inr here ↦ inr (record { session = handed; is = rw here step.is })
        ])
        sound

pub counted_answering : CountedKeptByAnswering
counted_answering s s' number f w k sent x before after step at stay one exact once sound =
    answering_counted s s' number f w k sent step exact once x before after at stay one sound

pub counted_answer : CountedKeptByAnswer
counted_answer s s' number f w k sent before after step at down none exact once sound =
    answer_counted s s' number f w k sent step exact once before after at down none sound

-- ---- a session is opened

module _ (s s' : System) (number : ℕ) (f : Frame) (w : List ℕ) (k : ℕ) (x : List ℕ) (l : ℕ) (sent : List (ℕ × Frame))
    (before after : NodeState) (kept : Session) (step : OpensChild s s' number f w k x l sent) (at : ChangesAt s s' x before after)
    (others : OthersStay before after l) (keeps : join_session_at after l ≡ Some kept)
    (so : IsKeptSo kept (child_of step.before w k (ways_of x l sent))) (exact : AreExact s) (once : AreAwaitedOnce s) where
  abbrev above : OpenSession
  above = with_child step.before number x l

  abbrev new : OpenSession
  new = child_of step.before w k (ways_of x l sent)

  above_count : SameCount above step.before
  above_count =
      let long = for_way-length number (Child x l ∷ []) step.before.awaits (once.apart w k step.before step.parent_was)
      (awaits_it s s' number f w k step.before sent exact step.parent_was step.frames step.belongs) in
      record { parent = refl; depth = refl; waits = omega arith }

  -- a session that was open isn't the new one
  stays_open : (y : List ℕ) (m : ℕ) (o : OpenSession) → IsOpen s y m o → y ≡ x → join_session_at after m ≡ join_session_at before m
  stays_open y m o is mine =
      elim (others m) [
        | inr stays ↦ stays
        | inl it ↦
            let none : s.session y m ≡ None = rw (mine, it) step.none in let no : Some o ≡ None = sym is ∙ none in cc
      ]

  opening_fate : (y : List ℕ) (m : ℕ) (o : OpenSession) → IsOpen s' y m o → WasSo s x before after y m o ⊎ IsMine x after y m o
  opening_fate y m o is =
      elim (step.others y m) [
        | inl here ↦
            let now : s'.session y m ≡ Some above = rw (here.0, here.1) step.parent_is in
            let same : o ≡ above = cc in
            let was : IsOpen s y m step.before = rw (here.0, here.1) step.parent_was in
            inl (record { old = step.before; is = was; same = rw same above_count; stays = stays_open y m step.before was })
        | inr (inl here) ↦
            let now : s'.session y m ≡ Some new = rw (here.0, here.1) step.child in
            let same : o ≡ new = cc in
            inr (record { here = here.0; kept = kept; is = rw here.1 keeps; so = rw same so })
        | inr (inr same) ↦
            let was : IsOpen s y m o = sym same ∙ is in
            inl (record { old = o; is = was; same = itself o; stays = stays_open y m o was })
      ]

  opening_back : (y : List ℕ) (m : ℕ) (o : OpenSession) → IsOpen s y m o → HasSession s' y m
  opening_back y m o is =
      elim (step.others y m) [
        | inl here ↦ record { session = above; is = rw (here.0, here.1) step.parent_is }
        | inr (inl here) ↦ record { session = new; is = rw (here.0, here.1) step.child }
        | inr (inr same) ↦ record { session = o; is = same ∙ is }
      ]

  opening_counted : AreCountedSo s → AreCountedSo s'
  opening_counted =
      counted s s' x before after at opening_fate (λ y m o is. inl (opening_back y m o is))
      (λ n now is.
      elim (kept_before before after l others n now is) [
        | inl old ↦ inl old
        | inr here ↦ inr (record { session = new; is = rw here step.child })
      ])

pub counted_opening : CountedKeptByOpening
counted_opening s s' number f w k x l sent before after kept step at others keeps so exact once =
    opening_counted s s' number f w k x l sent before after kept step at others keeps so exact once

module _ (s s' : System) (number : ℕ) (f : Frame) (x : List ℕ) (l : ℕ) (sent : List (ℕ × Frame)) (before after : NodeState)
    (kept : Session) (step : OpensRoot s s' number f x l sent) (at : ChangesAt s s' x before after) (others : OthersStay before after l)
    (keeps : join_session_at after l ≡ Some kept) (so : IsKeptSo kept step.root) where
  seating_fate : (y : List ℕ) (m : ℕ) (o : OpenSession) → IsOpen s' y m o → WasSo s x before after y m o ⊎ IsMine x after y m o
  seating_fate y m o is =
      elim (step.others y m) [
        | inl here ↦
            let now : s'.session y m ≡ Some step.root = rw (here.0, here.1) step.is in
            let same : o ≡ step.root = cc in
            inr (record { here = here.0; kept = kept; is = rw here.1 keeps; so = rw same so })
        | inr same ↦
            let was : IsOpen s y m o = sym same ∙ is in
            inl (record {
              old = o;
              is = was;
              same = itself o;
              stays = λ mine. elim (others m) [
                | inr stays ↦ stays
                | inl it ↦
                    let none : s.session y m ≡ None = rw (mine, it) step.none in let no : Some o ≡ None = sym was ∙ none in cc
              ];
            })
      ]

  seating_back : (y : List ℕ) (m : ℕ) (o : OpenSession) → IsOpen s y m o → HasSession s' y m
  seating_back y m o is =
      elim (step.others y m) [
        | inl here ↦ record { session = step.root; is = rw (here.0, here.1) step.is }
        | inr same ↦ record { session = o; is = same ∙ is }
      ]

  seating_counted : AreCountedSo s → AreCountedSo s'
  seating_counted =
      counted s s' x before after at seating_fate (λ y m o is. inl (seating_back y m o is))
      (λ n now is.
      elim (kept_before before after l others n now is) [
        | inl old ↦ inl old
        | inr here ↦ inr (record { session = step.root; is = rw here step.is })
      ])

pub counted_root : CountedKeptByRoot
counted_root s s' number f x l sent before after kept step at others keeps so =
    seating_counted s s' number f x l sent before after kept step at others keeps so

-- ---- a session is closed

-- what a node keeps after it has closed this one, it kept
kept_still : (before after : NodeState) (k : ℕ) → OthersStay before after k → join_session_at after k ≡ None → (n : ℕ) (kept : Session)
    → join_session_at after n ≡ Some kept → Keeps before n
kept_still before after k others gone n kept is =
    elim (kept_before before after k others n kept is) [
      | inl old ↦ old
      | inr here ↦
          let none : join_session_at after n ≡ None = rw here gone in let no : Some kept ≡ None = sym is ∙ none in cc
    ]

module _ (s s' : System) (x : List ℕ) (k : ℕ) (before after : NodeState) (others : OthersStay before after k)
    (closed : s'.session x k ≡ None) where
  -- an open session isn't the one that is closed
  stays_there : (y : List ℕ) (m : ℕ) (o : OpenSession) → IsOpen s' y m o → y ≡ x → join_session_at after m ≡ join_session_at before m
  stays_there y m o is mine =
      elim (others m) [
        | inr stays ↦ stays
        | inl it ↦
            let none : s'.session y m ≡ None = rw (mine, it) closed in let no : Some o ≡ None = sym is ∙ none in cc
      ]

module _ (s s' : System) (number : ℕ) (f : Frame) (x : List ℕ) (k : ℕ) (w : List ℕ) (m : ℕ) (sent : List (ℕ × Frame))
    (before after : NodeState) (step : ClosesChild s s' number f x k w m sent) (at : ChangesAt s s' x before after)
    (others : OthersStay before after k) (gone : join_session_at after k ≡ None) (one : length (ways_of w m sent) ≡ 1)
    (exact : AreExact s) (once : AreAwaitedOnce s) where
  abbrev passed : OpenSession
  passed = with_awaits step.before (for_child x k (ways_of w m sent) step.before.awaits)

  passed_count : SameCount passed step.before
  passed_count =
      let long = for_child-length x k (ways_of w m sent) step.before.awaits (once.apart w m step.before step.parent_was)
      (awaited_up s s' number f x k w m sent step exact) in
      record { parent = refl; depth = refl; waits = omega arith }

  closing_fate : (y : List ℕ) (n : ℕ) (o : OpenSession) → IsOpen s' y n o → WasSo s x before after y n o ⊎ IsMine x after y n o
  closing_fate y n o is =
      elim (step.others y n) [
        | inl here ↦
            let none : s'.session y n ≡ None = rw (here.0, here.1) step.closes.gone in let no : Some o ≡ None = sym is ∙ none in cc
        | inr (inl here) ↦
            let now : s'.session y n ≡ Some passed = rw (here.0, here.1) step.parent_is in
            let same : o ≡ passed = cc in
            inl (record {
              old = step.before;
              is = rw (here.0, here.1) step.parent_was;
              same = rw same passed_count;
              stays = stays_there s s' x k before after others step.closes.gone y n o is;
            })
        | inr (inr same) ↦
            inl (record {
              old = o;
              is = sym same ∙ is;
              same = itself o;
              stays = stays_there s s' x k before after others step.closes.gone y n o is;
            })
      ]

  closing_back : (y : List ℕ) (n : ℕ) (o : OpenSession) → IsOpen s y n o
      → HasSession s' y n ⊎ ((y ≡ x) × (join_session_at after n ≡ None))
  closing_back y n o is =
      elim (step.others y n) [
        | inl here ↦ inr (here.0, rw here.1 gone)
        | inr (inl here) ↦ inl (record { session = passed; is = rw (here.0, here.1) step.parent_is })
        | inr (inr same) ↦ inl (record { session = o; is = same ∙ is })
      ]

  closing_counted : AreCountedSo s → AreCountedSo s'
  closing_counted =
      counted s s' x before after at closing_fate closing_back (λ n kept is. inl (kept_still before after k others gone n kept is))

pub counted_closing : CountedKeptByClosing
counted_closing s s' number f x k w m sent before after step at others gone one exact once =
    closing_counted s s' number f x k w m sent before after step at others gone one exact once

module _ (s s' : System) (number : ℕ) (f : Frame) (x : List ℕ) (k : ℕ) (sent : List (ℕ × Frame)) (before after : NodeState)
    (step : ClosesRoot s s' number f x k sent) (at : ChangesAt s s' x before after) (others : OthersStay before after k)
    (gone : join_session_at after k ≡ None) where
  last_fate : (y : List ℕ) (n : ℕ) (o : OpenSession) → IsOpen s' y n o → WasSo s x before after y n o ⊎ IsMine x after y n o
  last_fate y n o is =
      elim (step.others y n) [
        | inl here ↦
            let none : s'.session y n ≡ None = rw (here.0, here.1) step.closes.gone in let no : Some o ≡ None = sym is ∙ none in cc
        | inr same ↦
            inl (record {
              old = o;
              is = sym same ∙ is;
              same = itself o;
              stays = stays_there s s' x k before after others step.closes.gone y n o is;
            })
      ]

  last_back : (y : List ℕ) (n : ℕ) (o : OpenSession) → IsOpen s y n o → HasSession s' y n ⊎ ((y ≡ x) × (join_session_at after n ≡ None))
  last_back y n o is =
      elim (step.others y n) [
        | inl here ↦ inr (here.0, rw here.1 gone)
        | inr same ↦ inl (record { session = o; is = same ∙ is })
      ]

  last_counted : AreCountedSo s → AreCountedSo s'
  last_counted =
      counted s s' x before after at last_fate last_back (λ n kept is. inl (kept_still before after k others gone n kept is))

pub counted_last : CountedKeptByLastAnswer
counted_last s s' number f x k sent before after step at others gone =
    last_counted s s' number f x k sent before after step at others gone

pub counted_others : CountedKeptByOthers
counted_others s s' x before after step at stay =
    counted s s' x before after at
    (λ y m o is. inl (record { old = o; is = sym (step.sessions y m) ∙ is; same = itself o; stays = λ mine. stay m }))
    (λ y m o is. inl (record { session = o; is = step.sessions y m ∙ is }))
    (λ n kept is. inl (record { kept = kept; is = sym (stay n) ∙ is }))
