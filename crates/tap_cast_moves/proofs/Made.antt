-- What becomes of open sessions by a step that opens one, hands one on, closes one, or leaves all as they are.
use Rattle.std.proofs.Common.{◌≡◌, ◌≢◌, ◌⊎◌, ℕ, ◌+◌, List, [], ◌∷◌, Option, None, Some, ap, refl, sym, ◌∙◌, inl, inr}
use Rattle.std.proofs.lemmas.Bool.{cases_Bool}
use Rattle.tap_session.specs.Session.{Session}
use Rattle.tap_wire.specs.declared.frame.Frame.{Frame}
use Rattle.tap_safety.specs.Remembered.{OpenSession, Token}
use Rattle.tap_safety.specs.Remembered.Token.{Child, Way}
use Rattle.tap_safety.specs.Sessions.{AmongTokens, AreExact, Awaits, Belongs, IsOpen, IsRootless, for_child, for_way, is_place, session_named, ways_of}
use Rattle.tap_safety.specs.SessionSteps.{Closes, ClosesChild, ClosesRoot, Exchanges, HandsOn, LeavesSessions, OpensChild, OpensRoot, child_of, with_awaits}
use Rattle.tap_safety.specs.System.{System, AmongFrames}
use Rattle.tap_safety.specs.Turned.{Taking, awaits_changed, awaits_put, closed_by, joiner_of, opened_by, parent_in, passed_up, place_above, remembered_as, session_put, sessions_with}
use Rattle.tap_safety.proofs.Exchange.{is_place-here, is_place-same}

-- ---- sessions by place

put_here : (sessions : List ℕ → ℕ → Option OpenSession) (x : List ℕ) (k : ℕ) (session : Option OpenSession)
    → session_put sessions x k session x k ≡ session
put_here sessions x k session = rw (is_place-here x k x k refl refl) refl

put_other : (sessions : List ℕ → ℕ → Option OpenSession) (x : List ℕ) (k : ℕ) (session : Option OpenSession) (y : List ℕ) (m : ℕ)
    → ((y ≡ x) × (m ≡ k)) ⊎ (session_put sessions x k session y m ≡ sessions y m)
put_other sessions x k session y m =
    elim (cases_Bool (is_place x k y m)) [ inl here ↦ inl (is_place-same x k y m here) | inr there ↦ inr (rw there refl) ]

-- of another node's session nothing changes
put_apart : (sessions : List ℕ → ℕ → Option OpenSession) (x : List ℕ) (k : ℕ) (session : Option OpenSession) (y : List ℕ) (m : ℕ)
    → y ≢ x → session_put sessions x k session y m ≡ sessions y m
put_apart sessions x k session y m apart =
    elim (put_other sessions x k session y m) [ inl here ↦ absurd (apart here.0) | inr there ↦ there ]

-- what an open session awaits is changed
awaits_here : (sessions : List ℕ → ℕ → Option OpenSession) (w : List ℕ) (k : ℕ) (change : List Token → List Token) (o : OpenSession)
    → sessions w k ≡ Some o → awaits_put sessions w k change w k ≡ Some (record o { awaits = change o.awaits })
awaits_here sessions w k change o is = rw (is_place-here w k w k refl refl, is) refl

awaits_other : (sessions : List ℕ → ℕ → Option OpenSession) (w : List ℕ) (k : ℕ) (change : List Token → List Token) (y : List ℕ) (m : ℕ)
    → ((y ≡ w) × (m ≡ k)) ⊎ (awaits_put sessions w k change y m ≡ sessions y m)
awaits_other sessions w k change y m = put_other sessions w k (awaits_changed change (sessions w k)) y m

-- a session that is remembered as opened for a frame is a child of the one that awaited the frame
child_is : (joiner w : List ℕ) (k depth : ℕ) (awaits : List Token) (before : OpenSession) (above : Option (List ℕ × ℕ)) → before.joiner ≡ joiner
    → depth ≡ before.depth + 1 → above ≡ Some (w, k)
    → ◌≡◌ {A = OpenSession} (record { joiner = joiner; parent = above; depth = depth; awaits = awaits })
    (child_of before w k awaits)
child_is joiner w k depth awaits before above same deep at = rw (same, deep, at) refl

-- a frame of no session belongs to none
unnamed : (f g : Frame) (y : List ℕ) (k : ℕ) → f ≡ g → session_named g.body g.from g.to ≡ None → Belongs f y k → ⊥
unnamed f g y k is none belongs =
    let wrong : ◌≡◌ {A = Option (List ℕ × ℕ)} None (Some (y, k)) =
    sym none ∙ ap (λ (h : Frame). session_named h.body h.from h.to) (sym is) ∙ belongs in
    absurd (cc)

at_number : (m n : ℕ) (g : Frame) (frames : List (ℕ × Frame)) → m ≡ n → AmongFrames m g frames → AmongFrames n g frames
at_number m n g frames same among = rw (← same) among

-- after the step, the sessions are remembered as the node has left them
abbrev pub IsRecalled : System → System → Taking → Type 0
IsRecalled v v' t = (y : List ℕ) (k : ℕ) → v'.session y k ≡ sessions_with v.session t y k

-- the frame is taken, and these are sent
abbrev pub IsExchanged : System → System → Taking → Type 0
IsExchanged v v' t = Exchanges v v' t.number t.frame t.sent

-- what is sent in a session is sent in this one
abbrev pub AsksAt : Taking → List ℕ → ℕ → Type 0
AsksAt t w k = (m : ℕ) (g : Frame) (y : List ℕ) (n : ℕ) → AmongFrames m g t.sent → Belongs g y n → (y ≡ w) × (n ≡ k)

abbrev pub AsksNone : Taking → Type 0
AsksNone t = (m : ℕ) (g : Frame) (y : List ℕ) (n : ℕ) → AmongFrames m g t.sent → Belongs g y n → ⊥

-- the session of the node awaits the frame alone
pub record IsLast (v : System) (t : Taking) (k : ℕ) : Type 0 where
  pub session : OpenSession
  pub is : IsOpen v t.frame.to k session
  pub only : (token : Token) → AmongTokens token session.awaits → token ≡ Way t.number

module _ (v v' : System) (t : Taking) (remembers : IsRecalled v v' t) (swap : IsExchanged v v' t) (exact : AreExact v)
  where
    abbrev own : List ℕ
    own = t.frame.to

    -- ---- a frame of no session

    pub leaves_sessions : session_named t.frame.body t.frame.from t.frame.to ≡ None → closed_by t.frame.body t.after ≡ None
        → opened_by t ≡ None → AsksNone t → LeavesSessions v v'
    leaves_sessions named closed opened asks = record {
      sessions = λ y m. remembers y m ∙ rw (named, closed, opened) refl;
      still = λ m f y k among belongs. elim (swap.still m f among) [
        | inl same ↦
            let is = swap.was_one t.number f t.frame (at_number m t.number f v.frames same among) swap.taken in
            absurd (unnamed f t.frame y k is named belongs)
        | inr on ↦ on
      ];
      was = λ m f y k among belongs. elim (swap.was m f among) [
        | inl old ↦ old
        | inr comes ↦ absurd (asks m f y k comes belongs)
      ];
      is_one = swap.is_one;
    }

    -- ---- a frame of a session

    module _ (w : List ℕ) (k : ℕ) (named : session_named t.frame.body t.frame.from t.frame.to ≡ Some (w, k)) where
      pub awaited : Awaits v w k (Way t.number)
      awaited = exact.frames t.number t.frame w k swap.taken named

      abbrev handed : List ℕ → ℕ → Option OpenSession
      handed = awaits_put v.session w k (for_way t.number (ways_of w k t.sent))

      handed_here : handed w k ≡ Some (with_awaits awaited.session (for_way t.number (ways_of w k t.sent) awaited.session.awaits))
      handed_here = awaits_here v.session w k (for_way t.number (ways_of w k t.sent)) awaited.session awaited.is

      handed_other : (y : List ℕ) (m : ℕ) → ((y ≡ w) × (m ≡ k)) ⊎ (handed y m ≡ v.session y m)
      handed_other = awaits_other v.session w k (for_way t.number (ways_of w k t.sent))

      pub hands_on : closed_by t.frame.body t.after ≡ None → opened_by t ≡ None → AsksAt t w k
          → HandsOn v v' t.number t.frame w k t.sent
      hands_on closed opened asks =
          let now : (y : List ℕ) (m : ℕ) → v'.session y m ≡ handed y m =
          λ y m. remembers y m ∙ rw (named, closed, opened) refl in
          record {
            frames = swap;
            belongs = named;
            before = awaited.session;
            was = awaited.is;
            is = now w k ∙ handed_here;
            others = λ y m. elim (handed_other y m) [ inl here ↦ inl here | inr there ↦ inr (now y m ∙ there) ];
            asks = asks;
          }

      module _ (session : Session) (opened : opened_by t ≡ Some session) (closed : closed_by t.frame.body t.after ≡ None)
          (apart : w ≢ own) (none : v.session own session.id ≡ None) (above : place_above session.parent ≡ Some (w, k))
          (joiner : awaited.session.joiner ≡ joiner_of t.frame.body) (deep : session.depth ≡ awaited.session.depth + 1)
          (asks : AsksAt t own session.id) where
        pub opens_child : OpensChild v v' t.number t.frame w k own session.id t.sent
        opens_child =
            let child = for_way t.number (Child own session.id ∷ []) in
            let given = awaits_put v.session w k child in
            let now : (y : List ℕ) (m : ℕ) → v'.session y m ≡ session_put given own session.id (Some (remembered_as t session)) y m =
            λ y m. remembers y m ∙ rw (named, closed, opened) refl in
            record {
              frames = swap;
              belongs = named;
              before = awaited.session;
              parent_was = awaited.is;
              parent_is = now w k ∙ put_apart given own session.id (Some (remembered_as t session)) w k apart
                  ∙ awaits_here v.session w k child awaited.session awaited.is;
              none = none;
              child = now own session.id ∙ put_here given own session.id (Some (remembered_as t session))
                  ∙ ap Some (child_is (joiner_of t.frame.body) w k session.depth (ways_of own session.id t.sent) awaited.session
                  (place_above session.parent) joiner deep above);
              others = λ y m. elim (put_other given own session.id (Some (remembered_as t session)) y m) [
                | inl here ↦ inr (inl here)
                | inr there ↦ elim (awaits_other v.session w k child y m) [
                  | inl parent ↦ inl parent
                  | inr other ↦ inr (inr (now y m ∙ there ∙ other))
                ]
              ];
              asks = asks;
            }

    -- ---- a session that is opened for a cast

    module _ (session : Session) (named : session_named t.frame.body t.frame.from t.frame.to ≡ None)
        (opened : opened_by t ≡ Some session) (closed : closed_by t.frame.body t.after ≡ None)
        (none : v.session own session.id ≡ None) (top : place_above session.parent ≡ None) (deep : session.depth ≡ 0)
        (rootless : IsRootless v (joiner_of t.frame.body)) (asks : AsksAt t own session.id) where
      pub opens_root : (step : OpensRoot v v' t.number t.frame own session.id t.sent) × (step.root ≡ remembered_as t session)
      opens_root =
          let now : (y : List ℕ) (m : ℕ) → v'.session y m ≡ session_put v.session own session.id (Some (remembered_as t session)) y m =
          λ y m. remembers y m ∙ rw (named, closed, opened) refl in (
            record {
              frames = swap;
              apart = λ y n belongs. unnamed t.frame t.frame y n refl named belongs;
              none = none;
              root = remembered_as t session;
              is = now own session.id ∙ put_here v.session own session.id (Some (remembered_as t session));
              top = top;
              deep = deep;
              awaits = refl;
              rootless = rootless;
              others = λ y m. elim (put_other v.session own session.id (Some (remembered_as t session)) y m) [
                | inl here ↦ inl here
                | inr there ↦ inr (now y m ∙ there)
              ];
              asks = asks;
            },
            refl,
          )

    -- ---- the last answer of a session

    module _ (k : ℕ) (last : IsLast v t k) (named : session_named t.frame.body t.frame.from t.frame.to ≡ Some (own, k))
        (closed : closed_by t.frame.body t.after ≡ Some k) (opened : opened_by t ≡ None) where
      abbrev handed_own : List ℕ → ℕ → Option OpenSession
      handed_own = handed own k named

      awaited_is : (awaited own k named).session ≡ last.session
      awaited_is = let one = (awaited own k named).is in let other = last.is in cc

      parent_kept : parent_in (handed_own own k) ≡ last.session.parent
      parent_kept = ap parent_in (handed_here own k named) ∙ ap (λ (o : OpenSession). o.parent) awaited_is

      after_closing : (above : Option (List ℕ × ℕ)) → parent_in (handed_own own k) ≡ above → (y : List ℕ) (m : ℕ)
          → v'.session y m ≡ session_put (passed_up handed_own t k above) own k None y m
      after_closing above parent y m = remembers y m ∙ rw (named, closed, opened, parent) refl

      abbrev closes : v'.session own k ≡ None → Closes v v' own k t.number
      closes gone = record { session = last.session; was = last.is; only = last.only; gone = gone }

      pub closes_root : last.session.parent ≡ None → AsksNone t → ClosesRoot v v' t.number t.frame own k t.sent
      closes_root top asks =
          let now = after_closing None (parent_kept ∙ top) in
          record {
            frames = swap;
            belongs = named;
            closes = closes (now own k ∙ put_here handed_own own k None);
            top = top;
            others = λ y n. elim (put_other handed_own own k None y n) [
              | inl here ↦ inl here
              | inr there ↦ elim (handed_other own k named y n) [ inl here ↦ inl here | inr stays ↦ inr (now y n ∙ there ∙ stays) ]
            ];
            asks = asks;
          }

      pub closes_child : (w : List ℕ) (m : ℕ) → last.session.parent ≡ Some (w, m) → w ≢ own → AsksAt t w m
          → ClosesChild v v' t.number t.frame own k w m t.sent
      closes_child w m above apart asks =
          let parent = exact.parents own k last.session w m last.is above in
          let passed = awaits_put handed_own w m (for_child own k (ways_of w m t.sent)) in
          let now = after_closing (Some (w, m)) (parent_kept ∙ above) in
          let was : handed_own w m ≡ Some parent.parent = elim (handed_other own k named w m) [
            | inl here ↦ absurd (apart here.0)
            | inr stays ↦ stays ∙ parent.is
          ] in
          record {
            frames = swap;
            belongs = named;
            closes = closes (now own k ∙ put_here passed own k None);
            above = above;
            before = parent.parent;
            parent_was = parent.is;
            parent_is = now w m ∙ put_apart passed own k None w m apart
                ∙ awaits_here handed_own w m (for_child own k (ways_of w m t.sent)) parent.parent was;
            others = λ y n. elim (put_other passed own k None y n) [
              | inl here ↦ inl here
              | inr there ↦ elim (awaits_other handed_own w m (for_child own k (ways_of w m t.sent)) y n) [
                | inl up ↦ inr (inl up)
                | inr stays ↦ elim (handed_other own k named y n) [
                  | inl here ↦ inl here
                  | inr same ↦ inr (inr (now y n ∙ there ∙ stays ∙ same))
                ]
              ]
            ];
            asks = asks;
          }
