-- What has arrived at an inbox: a number that has arrived, one beyond a gap, and one that fills a gap.
use Rattle.std.proofs.Common.{◌≡◌, ℕ, ◌+◌, ◌<◌, ◌≤◌, ◌^◌, true, false, Bool, nat_eq, nat_le, nat_lt, not, ◌&&◌, ◌||◌, List, refl, sym, ap, ◌∙◌, arith, cond, if◌then◌else◌, ◌⊎◌, inl, inr, true≢false}
use Rattle.std.proofs.lemmas.Bool.{and_parts, cases_eq, eqb-true, false_from_ne_true}
use Rattle.std.proofs.lemmas.Bool.Decides.{nat_tests}
use Rattle.tap_carry.specs.Names.{is_name, is_same, number_of}
use Rattle.tap_carry.specs.Inbox.{InboxValue, has_pair, has_arrived, ArrivesIn}
use Rattle.tap_carry.specs.InboxKept.{IsInbox, ArePassed}
use Rattle.tap_carry.proofs.Ways.{same_name}

-- none is passed
pub passed-none : (pairs : List (List ℕ × ℕ)) (from : List ℕ) (seq : ℕ) → ArePassed pairs pairs from seq seq
passed-none pairs from seq = record {
  order = omega arith;
  taken = λ k above within. absurd (omega arith);
  left = λ x k. none (is_name from x) (has_pair pairs x k) k;
}
  where
    none : (b o : Bool) (k : ℕ) → o ≡ (o && not (b && nat_lt seq k && nat_le k seq))
    none b o k = grind (arith, nat_tests)

-- one more is passed
pub passed-more : (before between after : List (List ℕ × ℕ)) (from : List ℕ) (seq end : ℕ) → ArePassed before between from seq end
    → has_pair between from (end + 1) ≡ true
    → ((x : List ℕ) (k : ℕ) → has_pair after x k ≡ cond (is_same from (end + 1) x k) false (has_pair between x k))
    → ArePassed before after from seq (end + 1)
passed-more before between after from seq end passed next updates = record {
  order = omega (arith, passed.order);
  taken = λ k above within. taken k above within (cases_eq k (end + 1));
  left = λ x k. left (is_name from x) (has_pair before x k) (has_pair between x k) (has_pair after x k) k (updates x k) (passed.left x k);
}
  where
    was : has_pair before from (end + 1) ≡ true
    was = (and_parts (has_pair before from (end + 1)) (not (is_name from from && nat_lt seq (end + 1) && nat_le (end + 1) end))
        (sym (passed.left from (end + 1)) ∙ next)).0

    taken : (k : ℕ) → seq < k → k ≤ end + 1 → (k ≡ end + 1) ⊎ (k ≡ end + 1 → ⊥) → has_pair before from k ≡ true
    taken k above within (inl same) = rw same was
    taken k above within (inr other) = passed.taken k above (not_last other within)
      where
        not_last : (k ≡ end + 1 → ⊥) → k ≤ end + 1 → k ≤ end
        not_last other within = grind arith

    left : (b o m a : Bool) (k : ℕ) → a ≡ cond (b && nat_eq (end + 1) k) false m → m ≡ (o && not (b && nat_lt seq k && nat_le k end))
        → a ≡ (o && not (b && nat_lt seq k && nat_le k (end + 1)))
    left true o m a k is was = let order = passed.order in grind (arith, nat_tests)
    left false o m a k is was = is ∙ was

-- a number that has arrived arrives again
pub arrives-again : (box : InboxValue) (from : List ℕ) (seq : ℕ) → has_arrived box from seq ≡ true → ArrivesIn box box from seq
arrives-again box from seq was = record { is = λ x k. again x k (is_same from seq x k) refl }
  where
    again : (x : List ℕ) (k : ℕ) (b : Bool) → is_same from seq x k ≡ b → has_arrived box x k ≡ (has_arrived box x k || b)
    again x k false is = or-false (has_arrived box x k)
      where
        or-false : (b : Bool) → b ≡ (b || false)
        or-false true = refl
        or-false false = refl
    again x k true is =
        let both = and_parts (is_name from x) (nat_eq seq k) is in
        let here : has_arrived box x k ≡ true = rw (← same_name from x both.0, ← eqb-true seq k both.1) was in
        rw here refl

-- a number that is reached has arrived
pub reached-arrived : (box : InboxValue) (from : List ℕ) (seq : ℕ) → 1 ≤ seq → seq ≤ number_of box.reached from → has_arrived box from seq ≡ true
reached-arrived box from seq least within = by (has_pair box.beyond from seq) (number_of box.reached from) within
  where
    by : (o : Bool) (reached : ℕ) → seq ≤ reached → ((nat_le 1 seq && nat_le seq reached) || o) ≡ true
    by o reached within = grind (arith, nat_tests)

-- one that isn't reached has arrived exactly if it is kept beyond a gap
pub beyond-arrived : (box : InboxValue) (from : List ℕ) (seq : ℕ) → number_of box.reached from < seq → has_arrived box from seq ≡ has_pair box.beyond from seq
beyond-arrived box from seq above = by (has_pair box.beyond from seq) (number_of box.reached from) above
  where
    by : (o : Bool) (reached : ℕ) → reached < seq → ((nat_le 1 seq && nat_le seq reached) || o) ≡ o
    by o reached above = grind (arith, nat_tests)

-- a number beyond a gap arrives
pub arrives-beyond : (box after : InboxValue) (from : List ℕ) (seq : ℕ) → after.reached ≡ box.reached
    → ((x : List ℕ) (k : ℕ) → has_pair after.beyond x k ≡ cond (is_same from seq x k) true (has_pair box.beyond x k))
    → ArrivesIn box after from seq
arrives-beyond box after from seq same updates = record {
  is = λ x k. rw (same, updates x k) (by (nat_le 1 k && nat_le k (number_of box.reached x)) (has_pair box.beyond x k) (is_same from seq x k));
}
  where
    by : (r o s : Bool) → (r || cond s true o) ≡ ((r || o) || s)
    by true o s = refl
    by false true true = refl
    by false true false = refl
    by false false true = refl
    by false false false = refl

-- the gaps stay if a number arrives beyond one
pub gap-beyond : (reached before after : List (List ℕ × ℕ)) (from : List ℕ) (seq : ℕ) → IsInbox reached before
    → number_of reached from + 1 < seq → seq < 2 ^ 32
    → ((x : List ℕ) (k : ℕ) → has_pair after x k ≡ cond (is_same from seq x k) true (has_pair before x k)) → IsInbox reached after
gap-beyond reached before after from seq is above within updates = record { gap = λ x k there. gap x k there (is_same from seq x k) refl }
  where
    gap : (x : List ℕ) (k : ℕ) → has_pair after x k ≡ true → (b : Bool) → is_same from seq x k ≡ b → (number_of reached x + 1 < k) × (k < 2 ^ 32)
    gap x k there true e =
        let both = and_parts (is_name from x) (nat_eq seq k) e in
        rw (← same_name from x both.0, ← eqb-true seq k both.1) (above, within)
    gap x k there false e = is.gap x k (rw (updates x k, e) at there)

-- the number after the last one of a sender arrives, and with it those after it that are there
module _ (reached reached' before after : List (List ℕ × ℕ)) (from : List ℕ) (seq end : ℕ) (passed : ArePassed before after from seq end)
    (next : seq ≡ number_of reached from + 1)
    (raised : (x : List ℕ) → number_of reached' x ≡ (if is_name from x then end else number_of reached x)) where
  pub arrives-next : ArrivesIn (record { reached = reached; beyond = before }) (record { reached = reached'; beyond = after }) from seq
  arrives-next = record { is = λ x k. by x k (is_name from x) refl }
    where
      here : (o : Bool) (k r : ℕ) → seq ≡ r + 1 → (seq < k → k ≤ end → o ≡ true)
          → ((nat_le 1 k && nat_le k end) || (o && not (true && nat_lt seq k && nat_le k end)))
          ≡ (((nat_le 1 k && nat_le k r) || o) || (true && nat_eq seq k))
      here true k r next taken = let order = passed.order in grind (arith, nat_tests)
      here false k r next taken = let order = passed.order in grind (arith, nat_tests)

      there : (r o : Bool) → (r || (o && not false)) ≡ ((r || o) || false)
      there true o = refl
      there false true = refl
      there false false = refl

      by : (x : List ℕ) (k : ℕ) (b : Bool) → is_name from x ≡ b
          → has_arrived (record { reached = reached'; beyond = after }) x k
          ≡ (has_arrived (record { reached = reached; beyond = before }) x k || is_same from seq x k)
      by x k true is =
          let same = same_name from x is in
          let there : seq < k → k ≤ end → has_pair before x k ≡ true = rw (← same) (passed.taken k) in
          let at : seq ≡ number_of reached x + 1 = rw (← same) next in
          rw (raised x, passed.left x k, is) (here (has_pair before x k) k (number_of reached x) at there)
      by x k false is = rw (raised x, passed.left x k, is) (there (nat_le 1 k && nat_le k (number_of reached x)) (has_pair before x k))

  -- and the gaps stay
  pub gap-next : IsInbox reached before → has_pair after from (end + 1) ≡ false → IsInbox reached' after
  gap-next is none = record { gap = λ x k there. by x k there (is_name from x) refl }
    where
      by : (x : List ℕ) (k : ℕ) → has_pair after x k ≡ true → (b : Bool) → is_name from x ≡ b → (number_of reached' x + 1 < k) × (k < 2 ^ 32)
      by x k there b e =
          let both = and_parts (has_pair before x k) (not (is_name from x && nat_lt seq k && nat_le k end)) (sym (passed.left x k) ∙ there) in
          let was = is.gap x k both.0 in
          case x k b e there was both.1
        where
          later : (k r : ℕ) → seq ≡ r + 1 → r + 1 < k → (k ≡ end + 1 → ⊥) → not (nat_lt seq k && nat_le k end) ≡ true → end + 1 < k
          later k r at above other beyond = grind (arith, nat_tests)

          case : (x : List ℕ) (k : ℕ) (b : Bool) → is_name from x ≡ b → has_pair after x k ≡ true
              → (number_of reached x + 1 < k) × (k < 2 ^ 32) → not (is_name from x && nat_lt seq k && nat_le k end) ≡ true
              → (number_of reached' x + 1 < k) × (k < 2 ^ 32)
          case x k false e there was left = (rw (raised x, e) was.0, was.1)
          case x k true e there was left =
              let same = same_name from x e in
              let at : seq ≡ number_of reached x + 1 = rw (← same) next in
              let here : has_pair after from k ≡ true = rw (← same) at there in
              let other : k ≡ end + 1 → ⊥ = λ q. true≢false (sym here ∙ ap (λ n. has_pair after from n) q ∙ none) in
              let beyond : not (nat_lt seq k && nat_le k end) ≡ true = rw e at left in
              (rw (raised x, e) (later k (number_of reached x) at was.0 other beyond), was.1)

-- the number after the last one of a sender hasn't arrived
pub fresh : (box : InboxValue) (from : List ℕ) (seq : ℕ) → IsInbox box.reached box.beyond → seq ≡ number_of box.reached from + 1
    → has_arrived box from seq ≡ false
fresh box from seq is next =
    beyond-arrived box from seq (omega arith)
    ∙ false_from_ne_true (has_pair box.beyond from seq) (λ there. let gap = (is.gap from seq there).0 in absurd (omega arith))
