-- What awaits, of the frames that were sent: after one more is sent, after one is acknowledged, and after others are left out.
use Rattle.std.proofs.Common.{◌≡◌, ℕ, suc, ◌+◌, ◌<◌, ◌≤◌, Bool, true, false, not, ◌&&◌, ◌||◌, List, [], ◌∷◌, ◌++◌, length, get_or, drop, drop-cons, All, AllPairs, Result, Ok, Err, OnErr, refl, sym, ap, subst, ◌∙◌, cond, inl, inr, arith, true≢false, if◌then◌else◌}
use Rattle.std.specs.Bool.{OnFalse}
use Rattle.std.specs.List.{filter, list_any}
use Rattle.std.proofs.lemmas.Bool.{cases_Bool, false_from_ne_true}
use Rattle.std.proofs.lemmas.List.{length-append}
use Rattle.std.proofs.lemmas.List.Elements.{All-filter, All-push, All-tail, filter-append}
use Rattle.std.proofs.lemmas.List.Folds.{list_any-append}
use Rattle.std.proofs.lemmas.List.Kept.{AllPairs-filter}
use Rattle.std.proofs.lemmas.List.Quantifiers.{all_pairs_push}
use Rattle.std.proofs.lemmas.List.Sums.{count_by-le-length, length-filter}
use Rattle.tap_carry.specs.declared.outbox.Await.{Await}
use Rattle.tap_carry.specs.Inbox.{has_pair}
use Rattle.tap_carry.specs.Names.{is_name, is_same, number_of}
use Rattle.tap_carry.specs.Outbox.{AreAwaiting, OutboxValue, await_with, awaits_less, is_await, most_frames}
use Rattle.tap_carry.specs.OutboxKept.{IsOutbox, LeavesOut, awaits_of, is_among}
use Rattle.tap_carry.proofs.Ways.{name-itself, one_pair, pair-itself, same-turned, same_name}

abbrev pub Pairs : Type 0
Pairs = List (List ℕ × ℕ)

abbrev pub box_of : List Await → Pairs → ℕ → OutboxValue
box_of awaits last next = record { awaits = awaits; last = last; next = next }

or_nothing : (b : Bool) → (b || false) ≡ b
or_nothing true = refl
or_nothing false = refl

or_true : (b : Bool) → (b || true) ≡ true
or_true true = refl
or_true false = refl

and_nothing : (b : Bool) → false ≡ (b && false)
and_nothing true = refl
and_nothing false = refl

pub on_err : {A E P : Type 0} (r : Result A E) → P → OnErr r P
on_err (Ok x) p = tt
on_err (Err x) p = p

-- ---- what is found

pub found-sent : (awaits : List Await) (to : List ℕ) (seq frame : ℕ) (x : List ℕ) (k : ℕ)
    → list_any (is_await x k) (awaits ++ await_with to seq frame ∷ []) ≡ (list_any (is_await x k) awaits || is_same to seq x k)
found-sent awaits to seq frame x k =
    list_any-append (is_await x k) awaits (await_with to seq frame ∷ [])
    ∙ ap (λ b. list_any (is_await x k) awaits || b) (or_nothing (is_same to seq x k))

-- of each receiver and number after one is left out
pub found-less : (awaits : List Await) (from : List ℕ) (seq : ℕ) (x : List ℕ) (k : ℕ)
    → list_any (is_await x k) (awaits_less awaits from seq) ≡ (list_any (is_await x k) awaits && not (is_same from seq x k))
found-less awaits from seq x k = by awaits (is_same from seq x k) refl
  where
    and_true : (p q : Bool) → (p || (q && true)) ≡ ((p || q) && true)
    and_true true q = refl
    and_true false q = refl

    and_false : (p q : Bool) → (p && false) ≡ (q && false)
    and_false true true = refl
    and_false true false = refl
    and_false false true = refl
    and_false false false = refl

    by : (awaits : List Await) (b : Bool) → is_same from seq x k ≡ b
        → list_any (is_await x k) (awaits_less awaits from seq) ≡ (list_any (is_await x k) awaits && not b)
    by [] b e = refl
    by (a ∷ awaits) true e =
        let same = one_pair from seq x k e in
        elim (cases_Bool (is_await from seq a)) [
          | inl here ↦ rw here (by awaits true e ∙ and_false (list_any (is_await x k) awaits) (is_await x k a || list_any (is_await x k) awaits))
          | inr other ↦
              let apart : is_await x k a ≡ false = subst (λ n. is_await x n a ≡ false) same.1 (subst (λ y. is_await y seq a ≡ false) same.0 other) in
              rw (other, apart) (by awaits true e)
        ]
    by (a ∷ awaits) false e = elim (cases_Bool (is_await from seq a)) [
      | inl here ↦
          let one = one_pair a.to a.seq from seq here in
          let apart : is_await x k a ≡ false = rw (one.0, one.1) e in
          rw (here, apart) (by awaits false e)
      | inr other ↦ rw other (ap (λ b. is_await x k a || b) (by awaits false e) ∙ and_true (is_await x k a) (list_any (is_await x k) awaits))
    ]

none-found : (test : Await → Bool) (awaits : List Await) → All (λ a. test a ≡ false) awaits → list_any test awaits ≡ false
none-found test [] none = refl
none-found test (a ∷ awaits) none =
    let here : test a ≡ false = none 0 a (omega arith) in
    rw here (none-found test awaits (All-tail (λ a. test a ≡ false) a awaits none))

-- those are found in what awaits that were sent and are among the ways
found-among : (ways : Pairs) (x : List ℕ) (k : ℕ) (sent : List Await)
    → list_any (is_await x k) (awaits_of sent ways) ≡ (has_pair ways x k && list_any (is_await x k) sent)
found-among ways x k [] = and_nothing (has_pair ways x k)
found-among ways x k (a ∷ sent) = by (found-among ways x k sent) (is_await x k a) refl (is_among ways a) refl
  where
    by : list_any (is_await x k) (awaits_of sent ways) ≡ (has_pair ways x k && list_any (is_await x k) sent)
        → (p : Bool) → is_await x k a ≡ p → (q : Bool) → is_among ways a ≡ q
        → list_any (is_await x k) (awaits_of (a ∷ sent) ways) ≡ (has_pair ways x k && list_any (is_await x k) (a ∷ sent))
    by rest true e true f =
        let one = one_pair a.to a.seq x k e in
        let here : has_pair ways x k ≡ true = rw (← one.0, ← one.1) f in
        rw (f, e, here) refl
    by rest true e false f =
        let one = one_pair a.to a.seq x k e in
        let here : has_pair ways x k ≡ false = rw (← one.0, ← one.1) f in
        let none : list_any (is_await x k) (awaits_of sent ways) ≡ false = rest ∙ ap (λ b. b && list_any (is_await x k) sent) here in
        rw (f, here) none
    by rest false e true f = rw (f, e) rest
    by rest false e false f = rw (f, e) rest

-- ---- what is left out

-- leaving out what isn't there changes nothing
less-none : (from : List ℕ) (seq : ℕ) (awaits : List Await) → list_any (is_await from seq) awaits ≡ false → awaits_less awaits from seq ≡ awaits
less-none from seq [] none = refl
less-none from seq (a ∷ awaits) none = by (less-none from seq awaits) (is_await from seq a) refl
  where
    by : (list_any (is_await from seq) awaits ≡ false → awaits_less awaits from seq ≡ awaits)
        → (b : Bool) → is_await from seq a ≡ b → awaits_less (a ∷ awaits) from seq ≡ a ∷ awaits
    by less true e =
        let found : true ≡ false = sym (ap (λ b. b || list_any (is_await from seq) awaits) e) ∙ none in
        absurd (true≢false found)
    by less false e =
        let rest : list_any (is_await from seq) awaits ≡ false = sym (ap (λ b. b || list_any (is_await from seq) awaits) e) ∙ none in
        rw e (ap (λ (l : List Await). a ∷ l) (less rest))

abbrev pub AreApart : List Await → Type 0
AreApart awaits = AllPairs (λ a b. is_await a.to a.seq b ≡ false) awaits

-- and what is there is there once
length-less : (from : List ℕ) (seq : ℕ) (awaits : List Await) → AreApart awaits → list_any (is_await from seq) awaits ≡ true
    → length (awaits_less awaits from seq) + 1 ≡ length awaits
length-less from seq [] apart found = absurd (true≢false (sym found))
length-less from seq (a ∷ awaits) apart found =
    by (length-less from seq awaits (λ i j d lt within. apart (suc i) (suc j) d (omega arith) (omega arith))) (is_await from seq a) refl
  where
    by : (list_any (is_await from seq) awaits ≡ true → length (awaits_less awaits from seq) + 1 ≡ length awaits)
        → (b : Bool) → is_await from seq a ≡ b → length (awaits_less (a ∷ awaits) from seq) + 1 ≡ length (a ∷ awaits)
    by less true e =
        let one = one_pair a.to a.seq from seq e in
        let others : All (λ b. is_await a.to a.seq b ≡ false) awaits = λ k d within. apart 0 (suc k) d (omega arith) (omega arith) in
        let none : list_any (is_await from seq) awaits ≡ false =
        rw (← one.0, ← one.1) (none-found (is_await a.to a.seq) awaits others) in
        let same = ap (λ (l : List Await). length l) (less-none from seq awaits none) in
        rw e (omega (arith, same))
    by less false e =
        let rest : list_any (is_await from seq) awaits ≡ true = sym (ap (λ b. b || list_any (is_await from seq) awaits) e) ∙ found in
        let fewer = less rest in
        rw e (omega (arith, fewer))

filter-twice : (test : Await → Bool) (awaits : List Await) → filter test (filter test awaits) ≡ filter test awaits
filter-twice test [] = refl
filter-twice test (a ∷ awaits) = by (filter-twice test awaits) (test a) refl
  where
    by : filter test (filter test awaits) ≡ filter test awaits → (b : Bool) → test a ≡ b → filter test (filter test (a ∷ awaits)) ≡ filter test (a ∷ awaits)
    by rest true e = rw e (rw e (ap (λ (l : List Await). a ∷ l) rest))
    by rest false e = rw e rest

-- what awaits from a place of what was sent on
pub awaits-next : (ways : Pairs) (sent : List Await) (at : ℕ) (d : Await) → at < length sent
    → awaits_of (drop at sent) ways
    ≡ cond (is_among ways (get_or sent at d)) (get_or sent at d ∷ awaits_of (drop (at + 1) sent) ways) (awaits_of (drop (at + 1) sent) ways)
awaits-next ways sent at d within =
    let e : suc at ≡ at + 1 = omega arith in
    ap (λ (l : List Await). awaits_of l ways) (drop-cons sent at d within ∙ ap (λ (i : ℕ). get_or sent at d ∷ drop i sent) e)

pub awaits-among : (ways : Pairs) (sent : List Await) (at : ℕ) (d : Await) → at < length sent → is_among ways (get_or sent at d) ≡ true
    → awaits_of (drop at sent) ways ≡ get_or sent at d ∷ awaits_of (drop (at + 1) sent) ways
awaits-among ways sent at d within here =
    awaits-next ways sent at d within
    ∙ ap (λ b. cond b (get_or sent at d ∷ awaits_of (drop (at + 1) sent) ways) (awaits_of (drop (at + 1) sent) ways)) here

pub awaits-other : (ways : Pairs) (sent : List Await) (at : ℕ) (d : Await) → at < length sent → is_among ways (get_or sent at d) ≡ false
    → awaits_of (drop at sent) ways ≡ awaits_of (drop (at + 1) sent) ways
awaits-other ways sent at d within other =
    awaits-next ways sent at d within
    ∙ ap (λ b. cond b (get_or sent at d ∷ awaits_of (drop (at + 1) sent) ways) (awaits_of (drop (at + 1) sent) ways)) other

-- others are left out
pub left-awaits : (sent : List Await) (ways : Pairs) (left : List Await) → LeavesOut ways sent left → awaits_of left ways ≡ awaits_of sent ways
left-awaits sent ways left (inl same) = ap (λ (l : List Await). awaits_of l ways) same
left-awaits sent ways left (inr less) = ap (λ (l : List Await). awaits_of l ways) less ∙ filter-twice (is_among ways) sent

-- what awaits if none is among the ways
pub none-awaits : (ways : Pairs) (sent : List Await) → length ways ≡ 0 → [] ≡ awaits_of sent ways
none-awaits [] [] none = refl
none-awaits [] (a ∷ sent) none = none-awaits [] sent none
none-awaits (way ∷ ways) sent none = absurd (omega (arith, none))

-- no more awaits than was sent
awaits-most : (ways : Pairs) (sent : List Await) → length (awaits_of sent ways) ≤ length sent
awaits-most ways sent = omega (arith, length-filter (is_among ways) sent, count_by-le-length (is_among ways) sent)

-- all that was sent awaits if as much does
pub awaits-all : (ways : Pairs) (sent : List Await) → length (awaits_of sent ways) ≡ length sent → awaits_of sent ways ≡ sent
awaits-all ways [] size = refl
awaits-all ways (a ∷ sent) size = by (awaits-all ways sent) (is_among ways a) refl
  where
    by : (length (awaits_of sent ways) ≡ length sent → awaits_of sent ways ≡ sent)
        → (b : Bool) → is_among ways a ≡ b → awaits_of (a ∷ sent) ways ≡ a ∷ sent
    by rest true e =
        let fewer : length (a ∷ awaits_of sent ways) ≡ length (a ∷ sent) =
        sym (ap (λ b. length (cond b (a ∷ awaits_of sent ways) (awaits_of sent ways))) e) ∙ size in
        let size_is : length (awaits_of sent ways) ≡ length sent = omega (arith, fewer) in
        rw e (ap (λ (l : List Await). a ∷ l) (rest size_is))
    by rest false e =
        let same : length (awaits_of sent ways) ≡ length (a ∷ sent) =
        sym (ap (λ b. length (cond b (a ∷ awaits_of sent ways) (awaits_of sent ways))) e) ∙ size in
        absurd (omega (arith, same, awaits-most ways sent))

-- ---- an outbox

module _ (sent : List Await) (ways last : Pairs) (next : ℕ) (is : IsOutbox sent ways last next) where
  pub are_awaiting : AreAwaiting (box_of (awaits_of sent ways) last next)
  are_awaiting = record {
    ascending = AllPairs-filter (λ a b. a.frame < b.frame) (is_among ways) sent is.valid.ascending;
    apart = AllPairs-filter (λ a b. is_await a.to a.seq b ≡ false) (is_among ways) sent is.valid.apart;
    sent = All-filter (is_among ways) (λ a. a.frame < next) sent is.valid.sent;
    given = All-filter (is_among ways) (λ a. (1 ≤ a.seq) × (a.seq ≤ number_of last a.to)) sent is.valid.given;
  }

  -- what is among the ways awaits
  pub among-awaits : (x : List ℕ) (k : ℕ) → has_pair ways x k ≡ list_any (is_await x k) (awaits_of sent ways)
  among-awaits x k = by (has_pair ways x k) refl ∙ sym (found-among ways x k sent)
    where
      by : (b : Bool) → has_pair ways x k ≡ b → has_pair ways x k ≡ (has_pair ways x k && list_any (is_await x k) sent)
      by true e = rw e (sym (is.there x k e))
      by false e = rw e refl

  -- others are left out
  pub outbox-left : (sent' : List Await) → LeavesOut ways sent sent' → IsOutbox sent' ways last next
  outbox-left sent' (inl same) = subst (λ (l : List Await). IsOutbox l ways last next) (sym same) is
  outbox-left sent' (inr left) = subst (λ (l : List Await). IsOutbox l ways last next) (sym left) (record {
    valid = are_awaiting;
    there = λ x k e. sym (among-awaits x k) ∙ e;
    counted = is.counted ∙ ap (λ (l : List Await). length l) (sym (filter-twice (is_among ways) sent));
    few = is.few;
    most = is.most;
  })

  -- room was asked for, and nothing else changes
  pub outbox-asked : (left asked : List Await) (ways' last' : Pairs) → LeavesOut ways sent left → asked ≡ left → ways' ≡ ways → last' ≡ last
      → IsOutbox asked ways' last' next
  outbox-asked left asked ways' last' leaves same same_ways same_last = rw (same, same_ways, same_last) (outbox-left left leaves)

  pub value-asked : (left asked : List Await) (ways' last' : Pairs) → LeavesOut ways sent left → asked ≡ left → ways' ≡ ways → last' ≡ last
      → box_of (awaits_of asked ways') last' next ≡ box_of (awaits_of sent ways) last next
  value-asked left asked ways' last' leaves same same_ways same_last =
      rw (same, same_ways, same_last) (ap (λ (l : List Await). box_of l last next) (left-awaits sent ways left leaves))

  -- a frame is acknowledged
  module _ (after : Pairs) (from : List ℕ) (seq : ℕ)
      (takes : (x : List ℕ) (k : ℕ) → has_pair after x k ≡ cond (is_same from seq x k) false (has_pair ways x k)) where
    awaits-taken : (sent : List Await) → awaits_of sent after ≡ awaits_less (awaits_of sent ways) from seq
    awaits-taken [] = refl
    awaits-taken (a ∷ sent) =
        by (awaits-taken sent) (is_await from seq a) refl (is_among ways a) refl
        (takes a.to a.seq ∙ ap (λ b. cond b false (is_among ways a)) (same-turned from seq a.to a.seq))
      where
        by : awaits_of sent after ≡ awaits_less (awaits_of sent ways) from seq → (p : Bool) → is_await from seq a ≡ p
            → (q : Bool) → is_among ways a ≡ q → is_among after a ≡ cond (is_await from seq a) false (is_among ways a)
            → awaits_of (a ∷ sent) after ≡ awaits_less (awaits_of (a ∷ sent) ways) from seq
        by rest true e true f is =
            let gone : is_among after a ≡ false = is ∙ ap (λ b. cond b false (is_among ways a)) e in
            rw (gone, f) (rw e rest)
        by rest true e false f is =
            let gone : is_among after a ≡ false = is ∙ ap (λ b. cond b false (is_among ways a)) e in
            rw (gone, f) rest
        by rest false e true f is =
            let stays : is_among after a ≡ true = is ∙ ap (λ b. cond b false (is_among ways a)) e ∙ f in
            rw (stays, f) (rw e (ap (λ (l : List Await). a ∷ l) rest))
        by rest false e false f is =
            let stays : is_among after a ≡ false = is ∙ ap (λ b. cond b false (is_among ways a)) e ∙ f in
            rw (stays, f) rest

    pub awaits-acked : awaits_of sent after ≡ awaits_less (awaits_of sent ways) from seq
    awaits-acked = awaits-taken sent

    -- what isn't among the ways isn't acknowledged
    pub acked-same : (left : List Await) → LeavesOut after sent left → (found : Bool) → found ≡ has_pair ways from seq
        → OnFalse found (box_of (awaits_of left after) last next ≡ box_of (awaits_of sent ways) last next)
    acked-same left leaves true there = tt
    acked-same left leaves false there =
        ap (λ (l : List Await). box_of l last next)
        (left-awaits sent after left leaves
        ∙ awaits-acked
        ∙ less-none from seq (awaits_of sent ways) (sym (among-awaits from seq) ∙ sym there))

    pub outbox-acked : (found : Bool) → found ≡ has_pair ways from seq → length after + (if found then 1 else 0) ≡ length ways
        → IsOutbox sent after last next
    outbox-acked found there size = record {
      valid = is.valid;
      there = λ x k e. is.there x k (was x k (is_same from seq x k) refl (sym (takes x k) ∙ e));
      counted = counted found there size;
      few = is.few;
      most = is.most;
    }
      where
        was : (x : List ℕ) (k : ℕ) (b : Bool) → is_same from seq x k ≡ b
            → cond (is_same from seq x k) false (has_pair ways x k) ≡ true → has_pair ways x k ≡ true
        was x k true t e = absurd (true≢false (sym e ∙ ap (λ b. cond b false (has_pair ways x k)) t))
        was x k false t e = sym (ap (λ b. cond b false (has_pair ways x k)) t) ∙ e

        counted : (found : Bool) → found ≡ has_pair ways from seq → length after + (if found then 1 else 0) ≡ length ways
            → length after ≡ length (awaits_of sent after)
        counted true there size =
            let less = length-less from seq (awaits_of sent ways) are_awaiting.apart (sym (among-awaits from seq) ∙ sym there) in
            omega (arith, size, less, is.counted, ap (λ (l : List Await). length l) awaits-acked)
        counted false there size =
            let same = less-none from seq (awaits_of sent ways) (sym (among-awaits from seq) ∙ sym there) in
            omega (arith, size, is.counted, ap (λ (l : List Await). length l) (awaits-acked ∙ same))

  -- a frame is sent
  module _ (to : List ℕ) (seq frame : ℕ) (given : seq ≡ number_of last to + 1) where
    -- no frame has this number yet
    pub fresh : All (λ a. is_await to seq a ≡ false) sent
    fresh k d within =
        let a : Await = get_or sent k d in
        false_from_ne_true (is_await to seq a) (λ e.
        let one = one_pair a.to a.seq to seq e in
        let most = (is.valid.given k d within).1 in
        let here = ap (λ (x : List ℕ). number_of last x) one.0 in
        absurd (omega (arith, given, most, here, one.1)))

    pub not-among : has_pair ways to seq ≡ false
    not-among = false_from_ne_true (has_pair ways to seq)
        (λ e. absurd (true≢false (sym (is.there to seq e) ∙ none-found (is_await to seq) sent fresh)))

    module _ (after : Pairs) (puts : (x : List ℕ) (k : ℕ) → has_pair after x k ≡ cond (is_same to seq x k) true (has_pair ways x k)) where
      among-still : (sent : List Await) → All (λ a. is_await to seq a ≡ false) sent → awaits_of sent after ≡ awaits_of sent ways
      among-still [] others = refl
      among-still (a ∷ sent) others =
          let other : is_await to seq a ≡ false = others 0 a (omega arith) in
          let same : is_among after a ≡ is_among ways a =
          puts a.to a.seq ∙ ap (λ b. cond b true (is_among ways a)) (same-turned to seq a.to a.seq ∙ other) in
          let rest = among-still sent (All-tail (λ a. is_await to seq a ≡ false) a sent others) in
          ap (λ b. cond b (a ∷ awaits_of sent after) (awaits_of sent after)) same
          ∙ ap (λ (l : List Await). cond (is_among ways a) (a ∷ l) l) rest

      pub awaits-sent : awaits_of (sent ++ await_with to seq frame ∷ []) after ≡ awaits_of sent ways ++ await_with to seq frame ∷ []
      awaits-sent =
          let here : has_pair after to seq ≡ true = puts to seq ∙ ap (λ b. cond b true (has_pair ways to seq)) (pair-itself to seq) in
          filter-append (is_among after) sent (await_with to seq frame ∷ [])
          ∙ ap (λ b. awaits_of sent after ++ cond b (await_with to seq frame ∷ []) []) here
          ∙ ap (λ (l : List Await). l ++ await_with to seq frame ∷ []) (among-still sent fresh)

      module _ (last' : Pairs) (numbers : (x : List ℕ) → number_of last' x ≡ (if is_name to x then number_of last to + 1 else number_of last x))
          (above : next ≤ frame) where
        grows : (x : List ℕ) (b : Bool) → is_name to x ≡ b → number_of last' x ≡ (if b then number_of last to + 1 else number_of last x)
            → number_of last x ≤ number_of last' x
        grows x true t n = let here = ap (λ (y : List ℕ). number_of last y) (same_name to x t) in omega (arith, here, n)
        grows x false t n = omega (arith, n)

        valid-sent : AreAwaiting (box_of (sent ++ await_with to seq frame ∷ []) last' (frame + 1))
        valid-sent = record {
          ascending = all_pairs_push (λ a b. a.frame < b.frame) sent (await_with to seq frame) is.valid.ascending
              (λ k d within. let below = is.valid.sent k d within in omega (arith, below, above));
          apart = all_pairs_push (λ a b. is_await a.to a.seq b ≡ false) sent (await_with to seq frame) is.valid.apart
              (λ k d within. same-turned to seq (get_or sent k d).to (get_or sent k d).seq ∙ fresh k d within);
          sent = All-push (λ a. a.frame < frame + 1) sent (await_with to seq frame)
              (λ k d within. let below = is.valid.sent k d within in omega (arith, below, above)) (omega arith);
          given = All-push (λ a. (1 ≤ a.seq) × (a.seq ≤ number_of last' a.to)) sent (await_with to seq frame)
              (λ k d within.
              let was = is.valid.given k d within in
              let a : Await = get_or sent k d in
              let more = grows a.to (is_name to a.to) refl (numbers a.to) in
              (was.0, omega (arith, was.1, more)))
              (omega (arith, given), omega (arith, given, mine));
        }
          where
            mine : number_of last' to ≡ number_of last to + 1
            mine = numbers to ∙ ap (λ b. if b then number_of last to + 1 else number_of last to) (name-itself to)

        pub outbox-sent : frame < most_frames → length after ≡ length ways + 1
            → IsOutbox (sent ++ await_with to seq frame ∷ []) after last' (frame + 1)
        outbox-sent below size = record {
          valid = valid-sent;
          there = λ x k e. found-sent sent to seq frame x k ∙ there x k (is_same to seq x k) refl (sym (puts x k) ∙ e);
          counted =
              let more = ap (λ (l : List Await). length l) awaits-sent in
              omega (arith, size, is.counted, more, length-append (awaits_of sent ways) (await_with to seq frame ∷ []));
          few = λ x. few x (is_name to x) (numbers x);
          most = omega (arith, below);
        }
          where
            there : (x : List ℕ) (k : ℕ) (b : Bool) → is_same to seq x k ≡ b → cond (is_same to seq x k) true (has_pair ways x k) ≡ true
                → (list_any (is_await x k) sent || is_same to seq x k) ≡ true
            there x k true t e = ap (λ b. list_any (is_await x k) sent || b) t ∙ or_true (list_any (is_await x k) sent)
            there x k false t e =
                let was : has_pair ways x k ≡ true = sym (ap (λ b. cond b true (has_pair ways x k)) t) ∙ e in
                ap (λ b. b || is_same to seq x k) (is.there x k was)

            few : (x : List ℕ) (b : Bool) → number_of last' x ≡ (if b then number_of last to + 1 else number_of last x) → number_of last' x ≤ frame + 1
            few x true n = let most = is.few to in omega (arith, n, most, above)
            few x false n = let most = is.few x in omega (arith, n, most, above)
