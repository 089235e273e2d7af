-- The sessions are exact after each kind of step.
-- Cited above: placed_at, same_place, ways_of-has
use Rattle.std.proofs.Common.{◌≡◌, inl, inr, ℕ, true, List, [], ◌∷◌, ◌⊎◌, Option, None, Some, refl, sym, ap, ◌∙◌}
use Rattle.std.proofs.lemmas.Bool.{cases_Bool, true≢false}
use Rattle.tap_wire.specs.declared.frame.Frame.{Frame}
use Rattle.tap_safety.specs.Remembered.{OpenSession, Token}
use Rattle.tap_safety.specs.Remembered.Token.{Way, Child}
use Rattle.tap_safety.specs.System.{System, AmongFrames}
use Rattle.tap_safety.specs.Sessions.{AmongTokens, AreExact, Belongs, HasFrame, HasParent, IsOpen, for_child, for_way, is_placed, session_named, ways_of}
use Rattle.tap_safety.specs.SessionSteps.{
  ClosesChild,
  ClosesRoot,
  Exchanges,
  HandsOn,
  LeavesSessions,
  OpensChild,
  OpensRoot,
  with_awaits,
  child_of,
  with_child,
}
use Rattle.tap_safety.proofs.Exchange.{
  for_child-new,
  for_child-stays,
  for_child-was,
  for_way-new,
  for_way-stays,
  for_way-was,
  is_place-here,
  is_place-same,
}
use Rattle.tap_safety.specs.Turns.{IsNewlyOpen, SessionGoesOn, Turns, WasOpen}
use Rattle.tap_safety.proofs.Turns.{turned_exact}

-- ---- places

-- the parts of a session's place
pub same_place : (x y : List ℕ) (k l : ℕ) → ◌≡◌ {A = Option (List ℕ × ℕ)} (Some (x, k)) (Some (y, l)) → (x ≡ y) × (k ≡ l)
same_place x y k l is =
    let place : Option (List ℕ × ℕ) → List ℕ × ℕ = place_or (x, k) in
    let same = ap place is in
    let node : List ℕ × ℕ → List ℕ = λ place. place.0 in
    let number : List ℕ × ℕ → ℕ = λ place. place.1 in
    (ap node same, ap number same)
  where
    place_or : List ℕ × ℕ → Option (List ℕ × ℕ) → List ℕ × ℕ
    place_or default None = default
    place_or default (Some place) = place

-- a frame belongs to one session
pub one_owner : (f : Frame) (x y : List ℕ) (k l : ℕ) → Belongs f x k → Belongs f y l → (x ≡ y) × (k ≡ l)
one_owner f x y k l one two = same_place x y k l (sym one ∙ two)

-- the same of equal frames and places
belongs_to : (f : Frame) (y x : List ℕ) (m l : ℕ) → y ≡ x → m ≡ l → Belongs f x l → Belongs f y m
belongs_to f y x m l node number belongs = rw (node, number) belongs

belongs_at : (f g : Frame) (y : List ℕ) (l : ℕ) → f ≡ g → Belongs f y l → Belongs g y l
belongs_at f g y l is belongs = rw (← is) belongs

among_at : (m number : ℕ) (f : Frame) (frames : List (ℕ × Frame)) → m ≡ number → AmongFrames m f frames
    → AmongFrames number f frames
among_at m number f frames is among = rw (← is) among

has_at : (frames : List (ℕ × Frame)) (n : ℕ) (y x : List ℕ) (m l : ℕ) → y ≡ x → m ≡ l → HasFrame frames n x l → HasFrame frames n y m
has_at frames n y x m l node number has =
    record { frame = has.frame; among = has.among; belongs = belongs_to has.frame y x m l node number has.belongs }

pub tokens_at : (one two : OpenSession) → one ≡ two → (token : Token) → AmongTokens token one.awaits → AmongTokens token two.awaits
tokens_at one two same token among = rw (← same) among

way_number : (n m : ℕ) → Way n ≡ Way m → n ≡ m
way_number n m same = cc

-- ---- the tokens of frames

placed : (o : Option (List ℕ × ℕ)) (x : List ℕ) (k : ℕ) → is_placed o x k ≡ true → o ≡ Some (x, k)
placed None x k is = absurd (true≢false (sym is))
placed (Some (y, m)) x k is =
    let same = is_place-same x k y m is in
    let by_node : List ℕ → Option (List ℕ × ℕ) = λ z. Some (z, m) in
    let by_number : ℕ → Option (List ℕ × ℕ) = λ n. Some (x, n) in
    ap by_node same.0 ∙ ap by_number same.1

pub placed_at : (o : Option (List ℕ × ℕ)) (x : List ℕ) (k : ℕ) → o ≡ Some (x, k) → is_placed o x k ≡ true
placed_at o x k is = rw is (is_place-here x k x k refl refl)

pub ways_of-has : (x : List ℕ) (k : ℕ) (fs : List (ℕ × Frame)) (m : ℕ) → AmongTokens (Way m) (ways_of x k fs) → HasFrame fs m x k
unfolding ways_of
ways_of-has x k [] m among = absurd among
ways_of-has x k (f ∷ fs) m among =
    elim (cases_Bool (is_placed (session_named f.1.body f.1.from f.1.to) x k)) [
      | inl here ↦
          let parts : (Way m ≡ Way f.0) ⊎ AmongTokens (Way m) (ways_of x k fs) = rw here at among in
          elim parts [
            | inl is ↦ record {
              frame = f.1;
              among = inl (way_number m f.0 is, refl);
              belongs = placed (session_named f.1.body f.1.from f.1.to) x k here;
            }
            | inr later ↦
                let rest = ways_of-has x k fs m later in
                record { frame = rest.frame; among = inr rest.among; belongs = rest.belongs }
          ]
      | inr apart ↦
          let later : AmongTokens (Way m) (ways_of x k fs) = rw apart at among in
          let rest = ways_of-has x k fs m later in
          record { frame = rest.frame; among = inr rest.among; belongs = rest.belongs }
    ]

pub ways_of-among : (x : List ℕ) (k : ℕ) (fs : List (ℕ × Frame)) (m : ℕ) (f : Frame) → AmongFrames m f fs → Belongs f x k
    → AmongTokens (Way m) (ways_of x k fs)
unfolding ways_of
ways_of-among x k [] m f among belongs = absurd among
ways_of-among x k (g ∷ gs) m f (inl is) belongs =
    let at : Belongs g.1 x k = belongs_at f g.1 x k is.1 belongs in
    let here : is_placed (session_named g.1.body g.1.from g.1.to) x k ≡ true =
    placed_at (session_named g.1.body g.1.from g.1.to) x k at in
    rw here (inl (ap (λ n. Way n) is.0))
ways_of-among x k (g ∷ gs) m f (inr later) belongs =
    elim (cases_Bool (is_placed (session_named g.1.body g.1.from g.1.to) x k)) [
      | inl here ↦ rw here (inr (ways_of-among x k gs m f later belongs))
      | inr apart ↦ rw apart (ways_of-among x k gs m f later belongs)
    ]

-- ---- what all kinds share

module _ (s s' : System) (number : ℕ) (f : Frame) (sent : List (ℕ × Frame)) (ex : Exchanges s s' number f sent)
    (left : (y : List ℕ) (m : ℕ) (o : OpenSession) → IsOpen s' y m o → Belongs f y m → AmongTokens (Way number) o.awaits → ⊥) where
  -- a frame that is awaited still is under way
  still_way : (y : List ℕ) (m : ℕ) (o : OpenSession) → IsOpen s' y m o → (n : ℕ) → AmongTokens (Way n) o.awaits
      → (g : Frame) → AmongFrames n g s.frames → Belongs g y m → AmongFrames n g s'.frames
  still_way y m o is n token g among belongs =
      elim (ex.still n g among) [
        | inr still ↦ still
        | inl it ↦
            let there = among_at n number g s.frames it among in
            let same : g ≡ f = ex.was_one number g f there ex.taken in
            let mine : AmongTokens (Way number) o.awaits = rw (← it) token in
            absurd (left y m o is (belongs_at g f y m same belongs) mine)
      ]

  on_same : (y : List ℕ) (m : ℕ) (o : OpenSession) → s'.session y m ≡ s.session y m → IsOpen s y m o → SessionGoesOn s s' y m o
  on_same y m o same is = record {
    now = o;
    is = same ∙ is;
    joiner = refl;
    depth = refl;
    parent = refl;
    children = λ z n c opened among. among;
    ways = λ n g among belongs token. token;
  }

  was_same : (y : List ℕ) (m : ℕ) (o : OpenSession) → s'.session y m ≡ s.session y m → IsOpen s' y m o → WasOpen s s' sent y m o
  was_same y m o same is = record {
    old = o;
    is = sym same ∙ is;
    joiner = refl;
    depth = refl;
    parent = refl;
    ways = λ n token. inr (token, still_way y m o is n token);
  }

  -- a frame that is under way isn't the taken one
  other_way : (n : ℕ) (g : Frame) → AmongFrames n g s'.frames → Way n ≡ Way number → ⊥
  other_way n g among same = ex.gone g (among_at n number g s'.frames (way_number n number same) among)

  -- the session of the frame, in which other tokens stand in its place
  module _ (w : List ℕ) (k : ℕ) (before : OpenSession) (new : List Token) (was : IsOpen s w k before)
      (is_now : IsOpen s' w k (with_awaits before (for_way number new before.awaits))) where
    abbrev now_there : OpenSession
    now_there = with_awaits before (for_way number new before.awaits)

    on_there : (y : List ℕ) (m : ℕ) (o : OpenSession) → (y ≡ w) × (m ≡ k) → IsOpen s y m o → SessionGoesOn s s' y m o
    on_there y m o here is =
        let at : s.session y m ≡ Some before = rw (here.0, here.1) was in
        let same : o ≡ before = cc in
        record {
          now = now_there;
          is = rw (here.0, here.1) is_now;
          joiner = ap (λ session. session.joiner) (sym same);
          depth = ap (λ session. session.depth) (sym same);
          parent = ap (λ session. session.parent) (sym same);
          children = λ z n c opened among.
              for_way-stays number new before.awaits (Child z n) (λ no. let wrong : Child z n ≡ Way number = no in cc)
              (tokens_at o before same (Child z n) among);
          ways = λ n g among belongs token.
              for_way-stays number new before.awaits (Way n) (other_way n g among) (tokens_at o before same (Way n) token);
        }

    was_there : (y : List ℕ) (m : ℕ) (o : OpenSession) → (y ≡ w) × (m ≡ k)
        → ((n : ℕ) → AmongTokens (Way n) new → HasFrame sent n w k) → IsOpen s' y m o → WasOpen s s' sent y m o
    was_there y m o here comes is =
        let at : s'.session y m ≡ Some now_there = rw (here.0, here.1) is_now in
        let same : o ≡ now_there = cc in
        record {
          old = before;
          is = rw (here.0, here.1) was;
          joiner = ap (λ session. session.joiner) same;
          depth = ap (λ session. session.depth) same;
          parent = ap (λ session. session.parent) same;
          ways = λ n token.
              elim (for_way-was number new before.awaits (Way n) (tokens_at o now_there same (Way n) token)) [
                | inl fresh ↦ inl (has_at sent n y w m k here.0 here.1 (comes n fresh))
                | inr old ↦ inr (old.1, still_way y m o is n token)
              ];
        }

-- ---- a frame is answered at once

module _ (s s' : System) (number : ℕ) (f : Frame) (w : List ℕ) (k : ℕ) (sent : List (ℕ × Frame))
    (step : HandsOn s s' number f w k sent) (sound : AreExact s) where
  abbrev comes : List Token
  comes = ways_of w k sent

  abbrev now : OpenSession
  now = with_awaits step.before (for_way number comes step.before.awaits)

  left : (y : List ℕ) (m : ℕ) (o : OpenSession) → IsOpen s' y m o → Belongs f y m → AmongTokens (Way number) o.awaits → ⊥
  left y m o is belongs token =
      let here = one_owner f y w m k belongs step.belongs in
      let at : s'.session y m ≡ Some now = rw (here.0, here.1) step.is in
      let same : o ≡ now = cc in
      elim (for_way-was number comes step.before.awaits (Way number) (tokens_at o now same (Way number) token)) [
        | inl fresh ↦
            let has = ways_of-has w k sent number fresh in
            step.frames.gone has.frame (step.frames.sends number has.frame has.among)
        | inr old ↦ absurd (old.0 refl)
      ]

  pub hands_on_origin : (y : List ℕ) (m : ℕ) (o : OpenSession) → IsOpen s' y m o → WasOpen s s' sent y m o
  hands_on_origin y m o is =
      elim (step.others y m) [
        | inl here ↦
            was_there s s' number f sent step.frames left w k step.before comes step.was step.is y m o here
            (λ n token. ways_of-has w k sent n token) is
        | inr same ↦ was_same s s' number f sent step.frames left y m o same is
      ]

  pub hands_on_turns : Turns s s' sent
  hands_on_turns = record {
    fate = λ y m o is.
        elim (step.others y m) [
          | inl here ↦ inl (on_there s s' number f sent step.frames left w k step.before comes step.was step.is y m o here is)
          | inr same ↦ inl (on_same s s' number f sent step.frames left y m o same is)
        ];
    origin = λ y m o is. inl (hands_on_origin y m o is);
    one = λ y z m n o c is also none other.
        let was = hands_on_origin y m o is in let there = was.is in let no : Some was.old ≡ None = sym there ∙ none in cc;
    was = λ m g y n among belongs. step.frames.was m g among;
    sends = step.frames.sends;
    asks = λ m g y n among belongs.
        let here = step.asks m g y n among belongs in
        let awaited = sound.frames number f w k step.frames.taken step.belongs in
        let was = awaited.is in
        let at = step.was in
        let same : awaited.session ≡ step.before = cc in
        let mine : AmongTokens (Way number) step.before.awaits =
        tokens_at awaited.session step.before same (Way number) awaited.among in
        let new : AmongTokens (Way m) comes = ways_of-among w k sent m g among (rw (here.0, here.1) at belongs) in
        rw (here.0, here.1) (record {
          session = now;
          is = step.is;
          among = for_way-new number comes step.before.awaits (Way m) mine new;
        });
    is_one = step.frames.is_one;
  }

  pub handed_on_exact : AreExact s'
  handed_on_exact = turned_exact s s' sent hands_on_turns sound

-- ---- a session is opened for it

module _ (s s' : System) (number : ℕ) (f : Frame) (w : List ℕ) (k : ℕ) (x : List ℕ) (l : ℕ) (sent : List (ℕ × Frame))
    (step : OpensChild s s' number f w k x l sent) (sound : AreExact s) where
  abbrev comes_child : List Token
  comes_child = Child x l ∷ []

  abbrev parent_now : OpenSession
  parent_now = with_child step.before number x l

  abbrev new : OpenSession
  new = child_of step.before w k (ways_of x l sent)

  no_way : (n : ℕ) → AmongTokens (Way n) comes_child → ⊥
  no_way n (inl is) = let wrong : Way n ≡ Child x l = is in cc
  no_way n (inr none) = none

  left_child : (y : List ℕ) (m : ℕ) (o : OpenSession) → IsOpen s' y m o → Belongs f y m → AmongTokens (Way number) o.awaits → ⊥
  left_child y m o is belongs token =
      let here = one_owner f y w m k belongs step.belongs in
      let at : s'.session y m ≡ Some parent_now = rw (here.0, here.1) step.parent_is in
      let same : o ≡ parent_now = cc in
      elim (for_way-was number comes_child step.before.awaits (Way number) (tokens_at o parent_now same (Way number) token)) [
        | inl fresh ↦ no_way number fresh
        | inr old ↦ old.0 refl
      ]

  -- what stands in the place of the new session
  pub is_new : (y : List ℕ) (m : ℕ) (o : OpenSession) → (y ≡ x) × (m ≡ l) → IsOpen s' y m o → o ≡ new
  is_new y m o here is = let at : s'.session y m ≡ Some new = rw (here.0, here.1) step.child in cc

  -- the new session is awaited in place of the frame
  pub child_awaited : AmongTokens (Child x l) parent_now.awaits
  child_awaited =
      let awaited = sound.frames number f w k step.frames.taken step.belongs in
      let was = awaited.is in
      let old = step.parent_was in
      let same : awaited.session ≡ step.before = cc in
      for_way-new number comes_child step.before.awaits (Child x l)
      (tokens_at awaited.session step.before same (Way number) awaited.among) (inl refl)

  above : (y : List ℕ) (m : ℕ) (o : OpenSession) → (y ≡ x) × (m ≡ l) → IsOpen s' y m o → (z : List ℕ) (n : ℕ)
      → o.parent ≡ Some (z, n) → HasParent s' y m o z n
  above y m o here is z n parent =
      let same = is_new y m o here is in
      let top : o.parent ≡ Some (w, k) = ap (λ session. session.parent) same in
      let place = same_place z w n k (sym parent ∙ top) in
      record {
        parent = parent_now;
        is = rw (place.0, place.1) step.parent_is;
        among = rw (here.0, here.1) child_awaited;
        joiner = ap (λ session. session.joiner) same;
        depth = ap (λ session. session.depth) same;
      }

  child_origin : (y : List ℕ) (m : ℕ) (o : OpenSession) → IsOpen s' y m o → WasOpen s s' sent y m o ⊎ IsNewlyOpen s s' sent y m o
  child_origin y m o is =
      elim (step.others y m) [
        | inl here ↦
            inl (was_there s s' number f sent step.frames left_child w k step.before comes_child step.parent_was step.parent_is y m o
            here (λ n token. absurd (no_way n token)) is)
        | inr more ↦
            elim more [
              | inr same ↦ inl (was_same s s' number f sent step.frames left_child y m o same is)
              | inl here ↦
                  let same = is_new y m o here is in
                  inr (record {
                    none = rw (here.0, here.1) step.none;
                    ways = λ n token.
                        has_at sent n y x m l here.0 here.1 (ways_of-has x l sent n (tokens_at o new same (Way n) token));
                    above = above y m o here is;
                    root = λ top.
                        let parent : o.parent ≡ Some (w, k) = ap (λ session. session.parent) same in
                        let no : None ≡ Some (w, k) = sym top ∙ parent in
                        cc;
                  })
            ]
      ]

  -- a place where no session was open, and one is
  pub new_place : (y : List ℕ) (m : ℕ) (o : OpenSession) → IsOpen s' y m o → s.session y m ≡ None → (y ≡ x) × (m ≡ l)
  new_place y m o is none =
      elim (step.others y m) [
        | inl here ↦ let was : s.session y m ≡ Some step.before = rw (here.0, here.1) step.parent_was in cc
        | inr more ↦ elim more [ inl here ↦ here | inr same ↦ let no : Some o ≡ None = sym is ∙ same ∙ none in cc ]
      ]

  pub opens_child_turns : Turns s s' sent
  opens_child_turns = record {
    fate = λ y m o is.
        elim (step.others y m) [
          | inl here ↦
              inl (on_there s s' number f sent step.frames left_child w k step.before comes_child step.parent_was step.parent_is y m
              o here is)
          | inr more ↦
              elim more [
                | inl here ↦ let none : s.session y m ≡ None = rw (here.0, here.1) step.none in cc
                | inr same ↦ inl (on_same s s' number f sent step.frames left_child y m o same is)
              ]
        ];
    origin = child_origin;
    one = λ y z m n o c is also none other.
        let one = new_place y m o is none in let two = new_place z n c also other in (one.0 ∙ sym two.0, one.1 ∙ sym two.1);
    was = λ m g y n among belongs. step.frames.was m g among;
    sends = step.frames.sends;
    asks = λ m g y n among belongs.
        let here = step.asks m g y n among belongs in
        rw (here.0, here.1) (record {
          session = new;
          is = step.child;
          among = ways_of-among x l sent m g among (rw (here.0, here.1) at belongs);
        });
    is_one = step.frames.is_one;
  }

  pub child_exact : AreExact s'
  child_exact = turned_exact s s' sent opens_child_turns sound

-- ---- a root session is opened

module _ (s s' : System) (number : ℕ) (f : Frame) (x : List ℕ) (l : ℕ) (sent : List (ℕ × Frame))
    (step : OpensRoot s s' number f x l sent) (sound : AreExact s) where
  left_root : (y : List ℕ) (m : ℕ) (o : OpenSession) → IsOpen s' y m o → Belongs f y m → AmongTokens (Way number) o.awaits → ⊥
  left_root y m o is belongs token = step.apart y m belongs

  pub is_root : (y : List ℕ) (m : ℕ) (o : OpenSession) → (y ≡ x) × (m ≡ l) → IsOpen s' y m o → o ≡ step.root
  is_root y m o here is = let at : s'.session y m ≡ Some step.root = rw (here.0, here.1) step.is in cc

  pub root_place : (y : List ℕ) (m : ℕ) (o : OpenSession) → IsOpen s' y m o → s.session y m ≡ None → (y ≡ x) × (m ≡ l)
  root_place y m o is none =
      elim (step.others y m) [ inl here ↦ here | inr same ↦ let no : Some o ≡ None = sym is ∙ same ∙ none in cc ]

  pub opens_root_turns : Turns s s' sent
  opens_root_turns = record {
    fate = λ y m o is.
        elim (step.others y m) [
          | inl here ↦ let none : s.session y m ≡ None = rw (here.0, here.1) step.none in cc
          | inr same ↦ inl (on_same s s' number f sent step.frames left_root y m o same is)
        ];
    origin = λ y m o is.
        elim (step.others y m) [
          | inr same ↦ inl (was_same s s' number f sent step.frames left_root y m o same is)
          | inl here ↦
              let same = is_root y m o here is in
              let awaits : o.awaits ≡ ways_of x l sent = ap (λ session. session.awaits) same ∙ step.awaits in
              inr (record {
                none = rw (here.0, here.1) step.none;
                ways = λ n token. has_at sent n y x m l here.0 here.1 (ways_of-has x l sent n (rw (← awaits) token));
                above = λ w k parent.
                    let top : o.parent ≡ None = ap (λ session. session.parent) same ∙ step.top in
                    let no : None ≡ Some (w, k) = sym top ∙ parent in
                    cc;
                root = λ top. rw same step.rootless;
              })
        ];
    one = λ y z m n o c is also none other.
        let one = root_place y m o is none in let two = root_place z n c also other in (one.0 ∙ sym two.0, one.1 ∙ sym two.1);
    was = λ m g y n among belongs. step.frames.was m g among;
    sends = step.frames.sends;
    asks = λ m g y n among belongs.
        let here = step.asks m g y n among belongs in
        rw (here.0, here.1) (record {
          session = step.root;
          is = step.is;
          among = rw step.awaits (ways_of-among x l sent m g among (rw (here.0, here.1) at belongs));
        });
    is_one = step.frames.is_one;
  }

  pub root_exact : AreExact s'
  root_exact = turned_exact s s' sent opens_root_turns sound

-- ---- a session is closed

module _ (s s' : System) (number : ℕ) (f : Frame) (x : List ℕ) (k : ℕ) (w : List ℕ) (m : ℕ) (sent : List (ℕ × Frame))
    (step : ClosesChild s s' number f x k w m sent) (sound : AreExact s) where
  abbrev passed : List Token
  passed = ways_of w m sent

  abbrev up_now : OpenSession
  up_now = with_awaits step.before (for_child x k passed step.before.awaits)

  left_closed : (y : List ℕ) (n : ℕ) (o : OpenSession) → IsOpen s' y n o → Belongs f y n → AmongTokens (Way number) o.awaits → ⊥
  left_closed y n o is belongs token =
      let here = one_owner f y x n k belongs step.belongs in
      let gone : s'.session y n ≡ None = rw (here.0, here.1) step.closes.gone in
      let no : Some o ≡ None = sym is ∙ gone in
      cc

  pub closed_origin : (y : List ℕ) (n : ℕ) (o : OpenSession) → IsOpen s' y n o → WasOpen s s' sent y n o
  closed_origin y n o is =
      elim (step.others y n) [
        | inl here ↦
            let gone : s'.session y n ≡ None = rw (here.0, here.1) step.closes.gone in
            let no : Some o ≡ None = sym is ∙ gone in
            cc
        | inr more ↦
            elim more [
              | inr same ↦ was_same s s' number f sent step.frames left_closed y n o same is
              | inl here ↦
                  let at : s'.session y n ≡ Some up_now = rw (here.0, here.1) step.parent_is in
                  let same : o ≡ up_now = cc in
                  record {
                    old = step.before;
                    is = rw (here.0, here.1) step.parent_was;
                    joiner = ap (λ session. session.joiner) same;
                    depth = ap (λ session. session.depth) same;
                    parent = ap (λ session. session.parent) same;
                    ways = λ l token.
                        elim (for_child-was x k passed step.before.awaits (Way l) (tokens_at o up_now same (Way l) token)) [
                          | inl fresh ↦ inl (has_at sent l y w n m here.0 here.1 (ways_of-has w m sent l fresh))
                          | inr old ↦
                              inr (old.1, still_way s s' number f sent step.frames left_closed y n o is l token)
                        ];
                  }
            ]
      ]

  -- the session that is closed was awaited
  pub awaited_up : AmongTokens (Child x k) step.before.awaits
  awaited_up =
      let up = sound.parents x k step.closes.session w m step.closes.was step.above in
      let is = up.is in
      let was = step.parent_was in
      let same : up.parent ≡ step.before = cc in
      tokens_at up.parent step.before same (Child x k) up.among

  pub closes_child_turns : Turns s s' sent
  closes_child_turns = record {
    fate = λ y n o is.
        elim (step.others y n) [
          | inl here ↦
              let at : s.session y n ≡ Some step.closes.session = rw (here.0, here.1) step.closes.was in
              let same : o ≡ step.closes.session = cc in
              inr (record {
                gone = rw (here.0, here.1) step.closes.gone;
                children = λ z l token.
                    let no = step.closes.only (Child z l) (tokens_at o step.closes.session same (Child z l) token) in cc;
                ways = λ l g among token.
                    other_way s s' number f sent step.frames left_closed l g among
                    (step.closes.only (Way l) (tokens_at o step.closes.session same (Way l) token));
              })
          | inr more ↦
              elim more [
                | inr same ↦ inl (on_same s s' number f sent step.frames left_closed y n o same is)
                | inl here ↦
                    let at : s.session y n ≡ Some step.before = rw (here.0, here.1) step.parent_was in
                    let same : o ≡ step.before = cc in
                    inl (record {
                      now = up_now;
                      is = rw (here.0, here.1) step.parent_is;
                      joiner = ap (λ session. session.joiner) (sym same);
                      depth = ap (λ session. session.depth) (sym same);
                      parent = ap (λ session. session.parent) (sym same);
                      children = λ z l c opened among.
                          for_child-stays x k passed step.before.awaits (Child z l) (other_child z l c opened)
                          (tokens_at o step.before same (Child z l) among);
                      ways = λ l g among belongs token.
                          for_child-stays x k passed step.before.awaits (Way l) (λ no. let wrong : Way l ≡ Child x k = no in cc)
                          (tokens_at o step.before same (Way l) token);
                    })
              ]
        ];
    origin = λ y n o is. inl (closed_origin y n o is);
    one = λ y z l n o c is also none other.
        let was = closed_origin y l o is in let there = was.is in let no : Some was.old ≡ None = sym there ∙ none in cc;
    was = λ l g y n among belongs. step.frames.was l g among;
    sends = step.frames.sends;
    asks = λ l g y n among belongs.
        let here = step.asks l g y n among belongs in
        let new : AmongTokens (Way l) passed = ways_of-among w m sent l g among (rw (here.0, here.1) at belongs) in
        rw (here.0, here.1) (record {
          session = up_now;
          is = step.parent_is;
          among = for_child-new x k passed step.before.awaits (Way l) awaited_up new;
        });
    is_one = step.frames.is_one;
  }
    where
      other_child : (z : List ℕ) (l : ℕ) (c : OpenSession) → IsOpen s' z l c → Child z l ≡ Child x k → ⊥
      other_child z l c opened same =
          let node : z ≡ x = cc in
          let place : l ≡ k = cc in
          let gone : s'.session z l ≡ None = rw (node, place) step.closes.gone in
          let no : Some c ≡ None = sym opened ∙ gone in
          cc

  pub closed_exact : AreExact s'
  closed_exact = turned_exact s s' sent closes_child_turns sound

module _ (s s' : System) (number : ℕ) (f : Frame) (x : List ℕ) (k : ℕ) (sent : List (ℕ × Frame))
    (step : ClosesRoot s s' number f x k sent) (sound : AreExact s) where
  left_last : (y : List ℕ) (n : ℕ) (o : OpenSession) → IsOpen s' y n o → Belongs f y n → AmongTokens (Way number) o.awaits → ⊥
  left_last y n o is belongs token =
      let here = one_owner f y x n k belongs step.belongs in
      let gone : s'.session y n ≡ None = rw (here.0, here.1) step.closes.gone in
      let no : Some o ≡ None = sym is ∙ gone in
      cc

  pub last_origin : (y : List ℕ) (n : ℕ) (o : OpenSession) → IsOpen s' y n o → WasOpen s s' sent y n o
  last_origin y n o is =
      elim (step.others y n) [
        | inl here ↦
            let gone : s'.session y n ≡ None = rw (here.0, here.1) step.closes.gone in
            let no : Some o ≡ None = sym is ∙ gone in
            cc
        | inr same ↦ was_same s s' number f sent step.frames left_last y n o same is
      ]

  pub closes_root_turns : Turns s s' sent
  closes_root_turns = record {
    fate = λ y n o is.
        elim (step.others y n) [
          | inl here ↦
              let at : s.session y n ≡ Some step.closes.session = rw (here.0, here.1) step.closes.was in
              let same : o ≡ step.closes.session = cc in
              inr (record {
                gone = rw (here.0, here.1) step.closes.gone;
                children = λ z l token.
                    let no = step.closes.only (Child z l) (tokens_at o step.closes.session same (Child z l) token) in cc;
                ways = λ l g among token.
                    other_way s s' number f sent step.frames left_last l g among
                    (step.closes.only (Way l) (tokens_at o step.closes.session same (Way l) token));
              })
          | inr same ↦ inl (on_same s s' number f sent step.frames left_last y n o same is)
        ];
    origin = λ y n o is. inl (last_origin y n o is);
    one = λ y z l n o c is also none other.
        let was = last_origin y l o is in let there = was.is in let no : Some was.old ≡ None = sym there ∙ none in cc;
    was = λ l g y n among belongs. step.frames.was l g among;
    sends = step.frames.sends;
    asks = λ l g y n among belongs. absurd (step.asks l g y n among belongs);
    is_one = step.frames.is_one;
  }

  pub last_exact : AreExact s'
  last_exact = turned_exact s s' sent closes_root_turns sound

-- ---- no session changes

module _ (s s' : System) (step : LeavesSessions s s') where
  pub leaves_turns : Turns s s' []
  leaves_turns = record {
    fate = λ y m o is. inl (record {
      now = o;
      is = step.sessions y m ∙ is;
      joiner = refl;
      depth = refl;
      parent = refl;
      children = λ z n c opened among. among;
      ways = λ n g among belongs token. token;
    });
    origin = λ y m o is. inl (record {
      old = o;
      is = sym (step.sessions y m) ∙ is;
      joiner = refl;
      depth = refl;
      parent = refl;
      ways = λ n token. inr (token, λ g among belongs. step.still n g y m among belongs);
    });
    one = λ y z m n o c is also none other. let no : Some o ≡ None = sym is ∙ step.sessions y m ∙ none in cc;
    was = λ m g y n among belongs. inl (step.was m g y n among belongs);
    sends = λ m g among. absurd among;
    asks = λ m g y n among belongs. absurd among;
    is_one = step.is_one;
  }

  pub left_exact : AreExact s → AreExact s'
  left_exact sound = turned_exact s s' [] leaves_turns sound
