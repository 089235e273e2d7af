-- Of records that may be added, a first part may be, and then the others.
-- Cited above: can_first, can_rest
use Rattle.std.proofs.Common.{◌≡◌, ℕ, ◌+◌, ◌<◌, ◌≤◌, true, List, [], ◌∷◌, ◌++◌, length, take, drop, All, Option, refl, ap, sym, subst, ◌∙◌, arith, append_assoc, length-append}
use Rattle.std.specs.List.{filter_map, range_with_len}
use Rattle.std.proofs.Math.Seq.{take-append_seam}
use Rattle.std.proofs.lemmas.List.Elements.{All-head, All-tail, All-cons, filter_map-append}
use Rattle.std.proofs.lemmas.List.FromFn.{length-range_with_len}
use Rattle.tap_log.specs.declared.record.Record.{Record}
use Rattle.tap_log.specs.Counts.{sent_count, ticket_count}
use Rattle.tap_log.specs.Kinds.{asked_ticket, sent_number, taken_number}
use Rattle.tap_log.proofs.MoreRecords.{sent_count-append, ticket_count-append}
use Rattle.tap_history.proofs.Numbering.{range-append}
use Rattle.tap_ledger.specs.Added.{CanAdd, is_plain, most_ledger_frames}

-- what holds of each element of two lists holds of each element of the first
All-first : {X : Type 0} (P : X → Type 0) (xs ys : List X) → All P (xs ++ ys) → All P xs
All-first P [] ys all = λ k d within. absurd (omega arith)
All-first P (x ∷ xs) ys all = All-cons P x xs (All-head P x (xs ++ ys) all) (All-first P xs ys (All-tail P x (xs ++ ys) all))

-- and of the second
All-rest : {X : Type 0} (P : X → Type 0) (xs ys : List X) → All P (xs ++ ys) → All P ys
All-rest P [] ys all = all
All-rest P (x ∷ xs) ys all = All-rest P xs ys (All-tail P x (xs ++ ys) all)

-- without the first of two lists, the second is left
drop-append_seam : {X : Type 0} (xs ys : List X) → drop (length xs) (xs ++ ys) ≡ ys
drop-append_seam [] ys = refl
drop-append_seam (x ∷ xs) ys = drop-append_seam xs ys

-- lists of one length that begin two equal lists are equal, and so is what follows them
same_first : {X : Type 0} (a b c d : List X) → length a ≡ length c → a ++ b ≡ c ++ d → a ≡ c
same_first a b c d size is =
    sym (take-append_seam a b) ∙ ap (take (length a)) is ∙ ap (λ n. take n (c ++ d)) size ∙ take-append_seam c d

same_rest : {X : Type 0} (a b c d : List X) → length a ≡ length c → a ++ b ≡ c ++ d → b ≡ d
same_rest a b c d size is =
    sym (drop-append_seam a b) ∙ ap (drop (length a)) is ∙ ap (λ n. drop n (c ++ d)) size ∙ drop-append_seam c d

-- numbers that go on from n, by parts
in_parts : (h : Record → Option ℕ) (n : ℕ) (xs ys : List Record)
    → filter_map h (xs ++ ys) ≡ range_with_len n (length (filter_map h (xs ++ ys)))
    → filter_map h xs ++ filter_map h ys
    ≡ range_with_len n (length (filter_map h xs)) ++ range_with_len (n + length (filter_map h xs)) (length (filter_map h ys))
in_parts h n xs ys is =
    let a = filter_map h xs in
    let b = filter_map h ys in
    let size : length (filter_map h (xs ++ ys)) ≡ length a + length b = ap length (filter_map-append h xs ys) ∙ length-append a b in
    sym (filter_map-append h xs ys) ∙ is ∙ ap (range_with_len n) size ∙ sym (range-append n (length a) (length b))

-- the numbers of the first part go on from n
first_on : (h : Record → Option ℕ) (n : ℕ) (xs ys : List Record)
    → filter_map h (xs ++ ys) ≡ range_with_len n (length (filter_map h (xs ++ ys)))
    → filter_map h xs ≡ range_with_len n (length (filter_map h xs))
first_on h n xs ys is =
    let a = filter_map h xs in
    let b = filter_map h ys in
    same_first a b (range_with_len n (length a)) (range_with_len (n + length a) (length b))
    (sym (length-range_with_len n (length a))) (in_parts h n xs ys is)

-- the numbers of the others go on from where those of the first part end
rest_on : (h : Record → Option ℕ) (n : ℕ) (xs ys : List Record)
    → filter_map h (xs ++ ys) ≡ range_with_len n (length (filter_map h (xs ++ ys)))
    → filter_map h ys ≡ range_with_len (n + length (filter_map h xs)) (length (filter_map h ys))
rest_on h n xs ys is =
    let a = filter_map h xs in
    let b = filter_map h ys in
    same_rest a b (range_with_len n (length a)) (range_with_len (n + length a) (length b))
    (sym (length-range_with_len n (length a))) (in_parts h n xs ys is)

-- numbers below one bound are below a greater one
below_more : (n m : ℕ) (numbers : List ℕ) → n ≤ m → All (λ number. number < n) numbers → All (λ number. number < m) numbers
below_more n m numbers more below k d within = let one = below k d within in omega (arith, more, one)

-- the numbers of frames that are taken, by parts
taken_parts : (n : ℕ) (xs ys : List Record) → All (λ number. number < n) (filter_map taken_number (xs ++ ys))
    → All (λ number. number < n) (filter_map taken_number xs ++ filter_map taken_number ys)
taken_parts n xs ys below =
    let Below : List ℕ → Type 0 = λ l. All (λ number. number < n) l in subst Below (filter_map-append taken_number xs ys) below

-- a first part of the records may be added
pub can_first : (log xs ys : List Record) → CanAdd log (xs ++ ys) → CanAdd log xs
can_first log xs ys can =
    let all = sent_count-append log (xs ++ ys) in
    let parts = sent_count-append xs ys in
    let first = sent_count-append log xs in
    let within = can.within in
    record {
      plain = All-first (λ item. is_plain item ≡ true) xs ys can.plain;
      numbers = record {
        sent = first_on sent_number (sent_count log) xs ys can.numbers.sent;
        taken = All-first (λ number. number < sent_count log) (filter_map taken_number xs) (filter_map taken_number ys)
            (taken_parts (sent_count log) xs ys can.numbers.taken);
        asked = first_on asked_ticket (1 + ticket_count log) xs ys can.numbers.asked;
      };
      within = omega (arith, all, parts, first, within);
    }

-- once it is, the others may be
pub can_rest : (log xs ys : List Record) → CanAdd log (xs ++ ys) → CanAdd (log ++ xs) ys
can_rest log xs ys can =
    let first = sent_count-append log xs in
    let asked = ticket_count-append log xs in
    let next : 1 + ticket_count log + ticket_count xs ≡ 1 + ticket_count (log ++ xs) = omega (arith, asked) in
    let more : sent_count log ≤ sent_count (log ++ xs) = omega (arith, first) in
    let Within : List Record → Type 0 = λ l. sent_count l ≤ most_ledger_frames in
    record {
      plain = All-rest (λ item. is_plain item ≡ true) xs ys can.plain;
      numbers = record {
        sent = rest_on sent_number (sent_count log) xs ys can.numbers.sent
            ∙ ap (λ n. range_with_len n (sent_count ys)) (sym first);
        taken = below_more (sent_count log) (sent_count (log ++ xs)) (filter_map taken_number ys) more
            (All-rest (λ number. number < sent_count log) (filter_map taken_number xs) (filter_map taken_number ys)
            (taken_parts (sent_count log) xs ys can.numbers.taken));
        asked = rest_on asked_ticket (1 + ticket_count log) xs ys can.numbers.asked
            ∙ ap (λ n. range_with_len n (ticket_count ys)) next;
      };
      within = subst Within (sym (append_assoc log xs ys)) can.within;
    }
