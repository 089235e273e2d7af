-- What a move leaves of frames, nodes and words.
-- Cited above: ascend_below, ascend_from, ascend_numbered, ascend_one, ascend_under, delivers, found, lost, numbers_sent, numbers_taken, starts,
-- with_at-here, with_at-others
use Rattle.std.proofs.Common.{◌≡◌, inl, inr, ℕ, ◌+◌, ◌<◌, ◌≤◌, true, false, List, [], ◌∷◌, ◌++◌, ◌⊎◌, Option, None, Some, length, arith, refl, sym, ap, ◌∙◌, eqb}
use Rattle.std.proofs.lemmas.Bool.{cases_Bool, eqb-true, eq-eqb, ne_eqb}
use Rattle.std.proofs.lemmas.List.{append_assoc, append-nil}
use Rattle.std.proofs.lemmas.Slice.Eq.{bytes_eq-Decides}
use Rattle.std.specs.Prelude.{bytes_eq}
use Rattle.tap_name.specs.Settings.{SettingsValue}
use Rattle.tap_wire.specs.declared.frame.Frame.{Frame}
use Rattle.tap_rule.specs.Node.{NodeState}
use Rattle.tap_rule.specs.Event.{Start}
use Rattle.tap_rule.specs.Event.Event.{Starts, Takes}
use Rattle.tap_rule.specs.Act.{act}
use Rattle.tap_safety.specs.Remembered.{TieWord}
use Rattle.tap_safety.specs.System.{System, AmongFrames}
use Rattle.tap_safety.specs.Exchanges.{AreNumbered, Ascend, HasSent, IsTaken, numbered_from, with_at}
use Rattle.tap_safety.specs.Move.Move.{Begins, Delivers}
use Rattle.tap_safety.specs.Moved.{IsDelivered, IsLost, IsStarted, last_after, moved, numbered_frame, starter, until_rest, with_begun, with_taken, without_number}
use Rattle.tap_safety.specs.Moved.{without_frame, words_with}

-- ---- one name changes

module _ {A : Type 0} (of : List ℕ → A) (x : List ℕ) (value : A) where
  pub with_at-here : with_at of x value x ≡ value
  with_at-here = let here : bytes_eq x x ≡ true = (bytes_eq-Decides x x).1 refl in rw here refl

  pub with_at-others : (y : List ℕ) → (y ≡ x) ⊎ (with_at of x value y ≡ of y)
  with_at-others y =
      elim (cases_Bool (bytes_eq y x)) [ inl is ↦ inl ((bytes_eq-Decides y x).0 is) | inr apart ↦ inr (rw apart refl) ]

-- the last words of a name that sends, and of others
module _ (last : List ℕ → List ℕ → Option TieWord) (x : List ℕ) (sent : List Frame) where
  pub words_here : (t : List ℕ) → words_with last x sent x t ≡ last_after sent t (last x t)
  words_here t = ap (λ words. words t) (with_at-here last x (λ t. last_after sent t (last x t)))

  pub words_others : (y t : List ℕ) → (y ≡ x) ⊎ (words_with last x sent y t ≡ last y t)
  words_others y t =
      elim (with_at-others last x (λ t. last_after sent t (last x t)) y) [
        | inl here ↦ inl here
        | inr same ↦ inr (ap (λ words. words t) same)
      ]

-- ---- the frame of a number

-- what stands before and after it
pub record IsSplit (number : ℕ) (frame : Frame) (frames : List (ℕ × Frame)) : Type 0 where
  pub front : List (ℕ × Frame)
  pub back : List (ℕ × Frame)
  pub is : frames ≡ front ++ (number, frame) ∷ back
  pub rest : without_frame number frames ≡ front ++ back

pub split : (number : ℕ) (frame : Frame) (frames : List (ℕ × Frame)) → numbered_frame number frames ≡ Some frame
    → IsSplit number frame frames
unfolding numbered_frame without_frame
split number frame [] is = cc
split number frame (f ∷ fs) is =
    elim (cases_Bool (eqb f.0 number)) [
      | inl here ↦
          let found : Some f.1 ≡ Some frame = rw here at is in
          let same : f.1 ≡ frame = cc in
          let place : f.0 ≡ number = eqb-true f.0 number here in
          let whole : f ≡ (number, frame) = pair_is f number frame place same in
          record { front = []; back = fs; is = ap (λ g. g ∷ fs) whole; rest = rw here refl }
      | inr apart ↦
          let later : numbered_frame number fs ≡ Some frame = rw apart at is in
          let rest = split number frame fs later in
          record {
            front = f ∷ rest.front;
            back = rest.back;
            is = ap (λ gs. f ∷ gs) rest.is;
            rest = rw apart (ap (λ gs. f ∷ gs) rest.rest);
          }
    ]
  where
    pair_is : (f : ℕ × Frame) (number : ℕ) (frame : Frame) → f.0 ≡ number → f.1 ≡ frame
        → ◌≡◌ {A = ℕ × Frame} f (number, frame)
    pair_is f number frame one two =
        let by_number : ℕ → ℕ × Frame = λ n. (n, f.1) in
        let by_frame : Frame → ℕ × Frame = λ g. (number, g) in
        ap by_number one ∙ ap by_frame two

-- ---- numbers

pub ascend_lower : (low from : ℕ) (fs : List (ℕ × Frame)) (high : ℕ) → low ≤ from → Ascend from fs high → Ascend low fs high
ascend_lower low from [] high less ascend = omega arith
ascend_lower low from (f ∷ fs) high less (least, later) = (omega arith, later)

pub ascend_without : (low : ℕ) (front : List (ℕ × Frame)) (f : ℕ × Frame) (back : List (ℕ × Frame)) (high : ℕ)
    → Ascend low (front ++ f ∷ back) high → Ascend low (front ++ back) high
ascend_without low [] f back high (least, later) = ascend_lower low (f.0 + 1) back high (omega arith) later
ascend_without low (g ∷ gs) f back high (least, later) = (least, ascend_without (g.0 + 1) gs f back high later)

pub ascend_append : (low : ℕ) (fs gs : List (ℕ × Frame)) (between high : ℕ) → Ascend low fs between → Ascend between gs high
    → Ascend low (fs ++ gs) high
ascend_append low [] gs between high one two = ascend_lower low between gs high one two
ascend_append low (f ∷ fs) gs between high (least, later) two = (least, ascend_append (f.0 + 1) fs gs between high later two)

pub ascend_numbered : (n : ℕ) (sent : List Frame) → Ascend n (numbered_from n sent) (n + length sent)
ascend_numbered n [] = omega arith
ascend_numbered n (frame ∷ frames) =
    let later = ascend_numbered (n + 1) frames in
    let end : n + 1 + length frames ≡ n + length (frame ∷ frames) = omega arith in
    (omega arith, rw (← end) later)

-- a frame among them has a number from the least on
pub ascend_from : (low : ℕ) (fs : List (ℕ × Frame)) (high m : ℕ) (f : Frame) → Ascend low fs high → AmongFrames m f fs → low ≤ m
ascend_from low [] high m f ascend among = absurd among
ascend_from low (g ∷ gs) high m f (least, later) (inl is) = let place = is.0 in omega arith
ascend_from low (g ∷ gs) high m f (least, later) (inr among) =
    let more = ascend_from (g.0 + 1) gs high m f later among in omega arith

-- and below the end
pub ascend_below : (low : ℕ) (fs : List (ℕ × Frame)) (high : ℕ) → Ascend low fs high → low ≤ high
ascend_below low [] high ascend = ascend
ascend_below low (g ∷ gs) high (least, later) = let more = ascend_below (g.0 + 1) gs high later in omega arith

pub ascend_under : (low : ℕ) (fs : List (ℕ × Frame)) (high m : ℕ) (f : Frame) → Ascend low fs high → AmongFrames m f fs → m < high
ascend_under low [] high m f ascend among = absurd among
ascend_under low (g ∷ gs) high m f (least, later) (inl is) =
    let place = is.0 in let more = ascend_below (g.0 + 1) gs high later in omega arith
ascend_under low (g ∷ gs) high m f (least, later) (inr among) = ascend_under (g.0 + 1) gs high m f later among

-- no two of them have one number
pub ascend_one : (low : ℕ) (fs : List (ℕ × Frame)) (high m : ℕ) (f g : Frame) → Ascend low fs high → AmongFrames m f fs
    → AmongFrames m g fs → f ≡ g
ascend_one low [] high m f g ascend one two = absurd one
ascend_one low (h ∷ hs) high m f g (least, later) (inl one) (inl two) = one.1 ∙ sym two.1
ascend_one low (h ∷ hs) high m f g (least, later) (inl one) (inr two) =
    let place = one.0 in let more = ascend_from (h.0 + 1) hs high m g later two in absurd (omega arith)
ascend_one low (h ∷ hs) high m f g (least, later) (inr one) (inl two) =
    let place = two.0 in let more = ascend_from (h.0 + 1) hs high m f later one in absurd (omega arith)
ascend_one low (h ∷ hs) high m f g (least, later) (inr one) (inr two) = ascend_one (h.0 + 1) hs high m f g later one two

-- the frame of a number is found
pub found : (number : ℕ) (frame : Frame) (low : ℕ) (frames : List (ℕ × Frame)) (high : ℕ) → Ascend low frames high
    → AmongFrames number frame frames → numbered_frame number frames ≡ Some frame
unfolding numbered_frame
found number frame low [] high ascend among = absurd among
found number frame low (f ∷ fs) high (least, later) (inl is) =
    let here : eqb f.0 number ≡ true = eq-eqb f.0 number (sym is.0) in
    let same : Some f.1 ≡ Some frame = ap (λ g. Some g) (sym is.1) in
    rw here same
found number frame low (f ∷ fs) high (least, later) (inr among) =
    let more = ascend_from (f.0 + 1) fs high number frame later among in
    let apart : eqb f.0 number ≡ false = ne_eqb f.0 number (λ same. omega arith) in
    rw apart (found number frame (f.0 + 1) fs high later among)

-- a step that takes a frame keeps the numbers, and one that takes none
pub numbers_taken : (s s' : System) (number : ℕ) (frame : Frame) (sent : List Frame) → IsTaken s s' number frame sent
    → AreNumbered s → AreNumbered s'
numbers_taken s s' number frame sent taken are =
    let was : Ascend 0 (taken.front ++ (number, frame) ∷ taken.back) s.next = rw taken.before at are.numbers in
    let rest = ascend_without 0 taken.front (number, frame) taken.back s.next was in
    let all = ascend_append 0 (taken.front ++ taken.back) (numbered_from s.next sent) s.next (s.next + length sent) rest
    (ascend_numbered s.next sent) in
    let frames : s'.frames ≡ taken.front ++ taken.back ++ numbered_from s.next sent =
    taken.after ∙ sym (append_assoc taken.front taken.back (numbered_from s.next sent)) in
    record { numbers = rw (frames, taken.next) all }

pub numbers_sent : (s s' : System) (sent : List Frame) → HasSent s s' sent → AreNumbered s → AreNumbered s'
numbers_sent s s' sent has are =
    let all = ascend_append 0 s.frames (numbered_from s.next sent) s.next (s.next + length sent) are.numbers
    (ascend_numbered s.next sent) in
    record { numbers = rw (has.after, has.next) all }

-- ---- moves

-- what a node has taken
module _ (p : SettingsValue) (s : System) (number : ℕ) (frame : Frame) (node : NodeState)
    (is : numbered_frame number s.frames ≡ Some frame) (at : s.node frame.to ≡ Some node) where
  after : moved p s (Delivers number) ≡ with_taken s number frame node (act node (Takes frame))
  unfolding moved
  after = rw (is, at) refl

  pub delivers : IsDelivered p s number frame node
  delivers =
      let cut = split number frame s.frames is in
      let acted = act node (Takes frame) in
      let there = after in
      record {
        taken = rw there (record {
          front = cut.front;
          back = cut.back;
          before = cut.is;
          after = rw cut.rest (append_assoc cut.front cut.back (numbered_from s.next acted.sent));
          next = refl;
        });
        at = rw there (record {
          was = at;
          is = with_at-here s.node frame.to (Some acted.state);
          others = with_at-others s.node frame.to (Some acted.state);
        });
        done = rw there (record {
          is = with_at-here s.node frame.to (Some acted.state);
          others = with_at-others s.node frame.to (Some acted.state);
          words = words_here s.last frame.to acted.sent;
          others_words = words_others s.last frame.to acted.sent;
        });
      }

-- what is left of a frame that nobody takes
module _ (p : SettingsValue) (s : System) (number : ℕ) (frame : Frame)
    (is : numbered_frame number s.frames ≡ Some frame) (nobody : s.node frame.to ≡ None) where
  after_lost : moved p s (Delivers number) ≡ until_rest (without_number s number)
  unfolding moved
  after_lost = rw (is, nobody) refl

  pub lost : IsLost p s number frame
  lost =
      let cut = split number frame s.frames is in
      let there = after_lost in
      record {
        taken = rw there (record {
          front = cut.front;
          back = cut.back;
          before = cut.is;
          after = cut.rest ∙ sym (ap (λ gs. cut.front ++ gs) (append-nil cut.back));
          next = omega arith;
        });
        node = λ x. rw there refl;
        words = λ x t. rw there refl;
        surrogate = λ b. rw there refl;
        session = λ x k. rw there refl;
      }

-- what a node has started
module _ (p : SettingsValue) (s : System) (x : List ℕ) (start : Start) (node : NodeState) (is : starter p s x start ≡ Some node) where
  after_start : moved p s (Begins x start) ≡ with_begun s x start (Some node)
  unfolding moved
  after_start = rw is refl

  pub starts : IsStarted p s x start node
  starts =
      let acted = act node (Starts start) in
      let there = after_start in
      record {
        sent = rw there (record { after = refl; next = refl });
        done = rw there (record {
          is = with_at-here s.node x (Some acted.state);
          others = with_at-others s.node x (Some acted.state);
          words = words_here s.last x acted.sent;
          others_words = words_others s.last x acted.sent;
        });
        surrogate = λ b. rw there refl;
        session = λ y k. rw there refl;
      }
