-- The numbers that were taken, after one is entered and after one is given back.
use Rattle.std.proofs.Common.{◌≡◌, ℕ, Bool, true, false, not, ◌&&◌, ◌||◌, cond, List, refl, sym, ap, ap₂, subst, ◌∙◌, true≢false}
use Rattle.tap_carry.specs.Inbox.{InboxValue, has_arrived, has_pair}
use Rattle.tap_carry.specs.Names.{is_same}
use Rattle.tap_host.specs.Intake.{IsIntake}
use Rattle.tap_host.proofs.Ways.{one_pair}

abbrev pub Pairs : Type 0
Pairs = List (List ℕ × ℕ)

-- one number more has arrived
abbrev pub Arrives : InboxValue → InboxValue → List ℕ → ℕ → Type 0
Arrives before after from seq = (x : List ℕ) (k : ℕ) → has_arrived after x k ≡ (has_arrived before x k || is_same from seq x k)

-- one pair is put in or taken out
abbrev pub PairIs : Pairs → Pairs → List ℕ → ℕ → Bool → Type 0
PairIs before after from seq there = (x : List ℕ) (k : ℕ) → has_pair after x k ≡ cond (is_same from seq x k) there (has_pair before x k)

pub not_true : (b : Bool) → true ≡ not b → b ≡ false
not_true true e = e
not_true false e = refl

pub not_false : (b : Bool) → false ≡ not b → b ≡ true
not_false true e = refl
not_false false e = e

first_by : (a r s : Bool) → (r ≡ true → a ≡ true) → (s ≡ true → a ≡ false) → ((a || s) && not r) ≡ ((a && not r) || s)
first_by true r true there new = absurd (true≢false (new refl))
first_by true true false there new = refl
first_by true false false there new = refl
first_by false true s there new = absurd (true≢false (sym (there refl)))
first_by false false true there new = refl
first_by false false false there new = refl

again_by : (a r s : Bool) → ((a || s) && not (cond s false r)) ≡ ((a && not r) || s)
again_by true true true = refl
again_by true false true = refl
again_by false true true = refl
again_by false false true = refl
again_by true true false = refl
again_by true false false = refl
again_by false true false = refl
again_by false false false = refl

back_by : (a r s : Bool) → (a && not (cond s true r)) ≡ ((a && not r) && not s)
back_by true true true = refl
back_by true false true = refl
back_by false r true = refl
back_by true true false = refl
back_by true false false = refl
back_by false r false = refl

module _ (inbox inbox' : InboxValue) (refused : Pairs) (from : List ℕ) (seq : ℕ) where
  -- a number that hadn't arrived
  pub entered_first : IsIntake inbox refused → Arrives inbox inbox' from seq → has_arrived inbox from seq ≡ false → (x : List ℕ) (k : ℕ)
      → (has_arrived inbox' x k && not (has_pair refused x k)) ≡ ((has_arrived inbox x k && not (has_pair refused x k)) || is_same from seq x k)
  entered_first kept arrives new x k =
      ap (λ b. b && not (has_pair refused x k)) (arrives x k)
      ∙ first_by (has_arrived inbox x k) (has_pair refused x k) (is_same from seq x k) (kept x k)
      (λ is. let one = one_pair from seq x k is in
      subst (λ n. has_arrived inbox x n ≡ false) one.1 (subst (λ y. has_arrived inbox y seq ≡ false) one.0 new))

  module _ (refused' : Pairs) (arrives : Arrives inbox inbox' from seq) (taken_out : PairIs refused refused' from seq false) where
    -- one that had been given back, or was there
    pub entered_again : (x : List ℕ) (k : ℕ)
        → (has_arrived inbox' x k && not (has_pair refused' x k)) ≡ ((has_arrived inbox x k && not (has_pair refused x k)) || is_same from seq x k)
    entered_again x k =
        ap₂ (λ a r. a && not r) (arrives x k) (taken_out x k)
        ∙ again_by (has_arrived inbox x k) (has_pair refused x k) (is_same from seq x k)

    pub entered_kept : IsIntake inbox refused → IsIntake inbox' refused'
    entered_kept kept x k here = by (is_same from seq x k) refl (taken_out x k)
      where
        by : (same : Bool) → is_same from seq x k ≡ same → has_pair refused' x k ≡ cond same false (has_pair refused x k) → has_arrived inbox' x k ≡ true
        by true is out = absurd (true≢false (sym here ∙ out))
        by false is out = arrives x k ∙ ap (λ b. b || is_same from seq x k) (kept x k (sym out ∙ here))

-- one is given back
module _ (inbox : InboxValue) (refused refused' : Pairs) (from : List ℕ) (seq : ℕ) (put_in : PairIs refused refused' from seq true) where
  pub given_back : (x : List ℕ) (k : ℕ)
      → (has_arrived inbox x k && not (has_pair refused' x k)) ≡ ((has_arrived inbox x k && not (has_pair refused x k)) && not (is_same from seq x k))
  given_back x k =
      ap (λ r. has_arrived inbox x k && not r) (put_in x k) ∙ back_by (has_arrived inbox x k) (has_pair refused x k) (is_same from seq x k)

  pub back_kept : IsIntake inbox refused → has_arrived inbox from seq ≡ true → IsIntake inbox refused'
  back_kept kept arrived x k here = by (is_same from seq x k) refl (put_in x k)
    where
      by : (same : Bool) → is_same from seq x k ≡ same → has_pair refused' x k ≡ cond same true (has_pair refused x k) → has_arrived inbox x k ≡ true
      by true is out =
          let one = one_pair from seq x k is in
          subst (λ n. has_arrived inbox x n ≡ true) one.1 (subst (λ y. has_arrived inbox y seq ≡ true) one.0 arrived)
      by false is out = kept x k (sym out ∙ here)

-- what was taken has arrived
pub taken_arrived : (a r : Bool) → (a && not r) ≡ true → a ≡ true
taken_arrived true r e = refl
taken_arrived false r e = e
