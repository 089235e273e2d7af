-- A ticket is of one lookup.
use Rattle.std.proofs.Common.{◌≡◌, ◌⊎◌, inl, inr, ℕ, zero, suc, ◌+◌, ◌≤◌, ◌<◌, true, false, List, [], ◌∷◌, None, arith, refl, ap, sym, subst, ◌∙◌}
use Rattle.std.specs.Prelude.{◌==◌, ◌&&◌, ◌||◌, nat_eq}
use Rattle.std.specs.Cmp.Lexicographic.{pointwise}
use Rattle.std.specs.List.{cons_option, filter_map, range_with_len}
use Rattle.std.proofs.lemmas.Bool.{and_parts, cases_Bool, eqb-true, ne_eqb, true≢false}
use Rattle.std.proofs.lemmas.Slice.Eq.{bytes_eq-Decides}
use Rattle.tap_log.specs.Kinds.{asked_ticket}
use Rattle.tap_log.specs.declared.record.Record.{Record}
use Rattle.tap_log.specs.declared.record.Record.TheVariants.{Asked}
use Rattle.tap_runs.specs.Beginning.{Beginning}
use Rattle.tap_runs.proofs.Frames.{frames_kept}
use Rattle.tap_safe_runs.specs.Safe.{IsRun}
use Rattle.tap_pointer_moves.specs.LookupFrames.{one_if}
use Rattle.tap_pointer_runs.specs.AnsweredOnce.{asks_under, times_asked}
use Rattle.tap_pointer_runs.specs.LookupAnswers.{asks_for, was_asked}
use Rattle.tap_pointer_runs.proofs.LookupsCounted.{times-cons, unasked}

-- a record that asks for a lookup, or one that asks for none
record IsAsk (item : Record) : Type 0 where
  ticket : ℕ
  object : List ℕ
  asker : List ℕ
  is : item ≡ Asked ticket object asker

record AsksNone (item : Record) : Type 0 where
  none : asked_ticket item ≡ None
  never : (ticket : ℕ) (object : List ℕ) → asks_for item ticket object ≡ false

ask_or_none : (item : Record) → IsAsk item ⊎ AsksNone item
unfolding asked_ticket
ask_or_none (Asked ticket object asker) = inl (record { ticket = ticket; object = object; asker = asker; is = refl })
ask_or_none _ = inr (record { none = refl; never = λ ticket object. refl })

-- the tickets of these records are these numbers, in order
abbrev AreFrom : List Record → ℕ → ℕ → Type 0
AreFrom items from count = filter_map asked_ticket items ≡ range_with_len from count

-- a record that asks is the first of these, and the others follow
record IsFirst (ticket : ℕ) (items : List Record) (from : ℕ) : Type 0 where
  here : ticket ≡ from
  count : ℕ
  later : AreFrom items (from + 1) count

first_of_numbers : (ticket : ℕ) (object asker : List ℕ) (items : List Record) (from count : ℕ)
    → AreFrom (Asked ticket object asker ∷ items) from count → IsFirst ticket items from
unfolding asked_ticket
first_of_numbers ticket object asker items from zero are =
    let wrong : ticket ∷ filter_map asked_ticket items ≡ [] = are in absurd (cc)
first_of_numbers ticket object asker items from (suc count) are =
    let both : ticket ∷ filter_map asked_ticket items ≡ from ∷ range_with_len (from + 1) count = are in
    record { here = cc; count = count; later = cc }

others_of_numbers : (item : Record) (items : List Record) (from count : ℕ) → AsksNone item → AreFrom (item ∷ items) from count
    → AreFrom items from count
others_of_numbers item items from count asks are =
    sym (ap (λ one. cons_option one (filter_map asked_ticket items)) asks.none) ∙ are

-- the records go on with one that asks for none
passed : (item : Record) (items : List Record) (ticket : ℕ) (object : List ℕ) → asks_for item ticket object ≡ false
    → was_asked (item ∷ items) ticket object ≡ true → was_asked items ticket object ≡ true
passed item items ticket object none is = sym (ap (λ b. b || was_asked items ticket object) none) ∙ is

-- who is asked for among them has one of the numbers
asked_from : (items : List Record) (from count ticket : ℕ) (object : List ℕ) → AreFrom items from count → was_asked items ticket object ≡ true
    → from ≤ ticket
asked_from [] from count ticket object are is = absurd (true≢false (sym is))
asked_from (item ∷ items) from count ticket object are is =
    elim (ask_or_none item) [
      | inr asks ↦
          asked_from items from count ticket object (others_of_numbers item items from count asks are)
          (passed item items ticket object (asks.never ticket object) is)
      | inl ask ↦
          let first = first_of_numbers ask.ticket ask.object ask.asker items from count
          (subst (λ i. AreFrom (i ∷ items) from count) ask.is are) in
          let there : was_asked (Asked ask.ticket ask.object ask.asker ∷ items) ticket object ≡ true =
          subst (λ i. was_asked (i ∷ items) ticket object ≡ true) ask.is is in
          elim (cases_Bool (asks_for (Asked ask.ticket ask.object ask.asker) ticket object)) [
            | inl asks ↦
                let number = (and_parts (nat_eq ask.ticket ticket) (pointwise nat_eq ask.object object) asks).0 in
                let same = eqb-true ask.ticket ticket number in
                let here = first.here in
                omega (arith, same, here)
            | inr other ↦
                let later = asked_from items (from + 1) first.count ticket object first.later
                (passed (Asked ask.ticket ask.object ask.asker) items ticket object other there) in
                omega (arith, later)
          ]
    ]

-- the first of them asks for the object of its ticket
asked_first_of : (ticket : ℕ) (sought asker : List ℕ) (items : List Record) (from number : ℕ) (object : List ℕ)
    → IsFirst ticket items from → number ≡ from → was_asked (Asked ticket sought asker ∷ items) number object ≡ true → sought ≡ object
asked_first_of ticket sought asker items from number object first same is =
    elim (cases_Bool (asks_for (Asked ticket sought asker) number object)) [
      | inl asks ↦
          (bytes_eq-Decides sought object).0 (and_parts (nat_eq ticket number) (pointwise nat_eq sought object) asks).1
      | inr other ↦
          let later = asked_from items (from + 1) first.count number object first.later
          (passed (Asked ticket sought asker) items number object other is) in
          absurd (omega (arith, later, same))
    ]

-- of the first record that asks and those after it, if the same is so of those
one_of_first : (number : ℕ) (sought asker : List ℕ) (items : List Record) (from count ticket : ℕ) (one two : List ℕ)
    → AreFrom (Asked number sought asker ∷ items) from count
    → ((count : ℕ) → AreFrom items (from + 1) count → was_asked items ticket one ≡ true → was_asked items ticket two ≡ true → one ≡ two)
    → was_asked (Asked number sought asker ∷ items) ticket one ≡ true → was_asked (Asked number sought asker ∷ items) ticket two ≡ true
    → one ≡ two
one_of_first number sought asker items from count ticket one two are others first second =
    let head = first_of_numbers number sought asker items from count are in
    elim (cases_Bool (nat_eq number ticket)) [
      | inl is ↦
          let place : ticket ≡ from = sym (eqb-true number ticket is) ∙ head.here in
          sym (asked_first_of number sought asker items from ticket one head place first)
          ∙ asked_first_of number sought asker items from ticket two head place second
      | inr apart ↦
          others head.count head.later
          (passed (Asked number sought asker) items ticket one (ap (λ b. b && pointwise nat_eq sought one) apart) first)
          (passed (Asked number sought asker) items ticket two (ap (λ b. b && pointwise nat_eq sought two) apart) second)
    ]

one_object : (items : List Record) (from count ticket : ℕ) (one two : List ℕ) → AreFrom items from count
    → was_asked items ticket one ≡ true → was_asked items ticket two ≡ true → one ≡ two
one_object [] from count ticket one two are first second = absurd (true≢false (sym first))
one_object (item ∷ items) from count ticket one two are first second =
    elim (ask_or_none item) [
      | inr asks ↦
          one_object items from count ticket one two (others_of_numbers item items from count asks are)
          (passed item items ticket one (asks.never ticket one) first) (passed item items ticket two (asks.never ticket two) second)
      | inl ask ↦
          one_of_first ask.ticket ask.object ask.asker items from count ticket one two
          (subst (λ i. AreFrom (i ∷ items) from count) ask.is are)
          (λ more later there here. one_object items (from + 1) more ticket one two later there here)
          (subst (λ i. was_asked (i ∷ items) ticket one ≡ true) ask.is first)
          (subst (λ i. was_asked (i ∷ items) ticket two ≡ true) ask.is second)
    ]

-- So a run has asked for one object under a ticket at most.
pub asked_once : (b : Beginning) (log : List Record) → IsRun b log → (ticket : ℕ) (one two : List ℕ) → was_asked log ticket one ≡ true
    → was_asked log ticket two ≡ true → one ≡ two
asked_once b log run ticket one two = one_object log 1 _ ticket one two (frames_kept b log run.course run.going).log_is.asked

-- ---- how often a ticket is asked for

asks_is : (ticket number : ℕ) (object asker : List ℕ) → asks_under ticket (Asked number object asker) ≡ (number == ticket)
unfolding asks_under
asks_is ticket number object asker = refl

-- the first record asks under the ticket as its number is this one
asks_first : (ticket : ℕ) (item : Record) (ask : IsAsk item) → one_if (asks_under ticket item) ≡ one_if (ask.ticket == ticket)
asks_first ticket item ask =
    ap (λ i. one_if (asks_under ticket i)) ask.is ∙ ap one_if (asks_is ticket ask.ticket ask.object ask.asker)

-- no lower ticket is among these, and none is twice
none_below : (ticket : ℕ) (items : List Record) (from count : ℕ) → AreFrom items from count → ticket < from → times_asked ticket items ≡ 0
none_below ticket [] from count are below = refl
none_below ticket (item ∷ items) from count are below =
    let all = times-cons (asks_under ticket) item items in
    elim (ask_or_none item) [
      | inr asks ↦
          let first = ap one_if (unasked ticket item asks.none) in
          let others = none_below ticket items from count (others_of_numbers item items from count asks are) below in
          omega (arith, all, first, others)
      | inl ask ↦
          let head = first_of_numbers ask.ticket ask.object ask.asker items from count
          (subst (λ i. AreFrom (i ∷ items) from count) ask.is are) in
          let here = head.here in
          let apart = ap one_if (ne_eqb ask.ticket ticket (λ is. absurd (omega (arith, is, here, below)))) in
          let first = asks_first ticket item ask in
          let others = none_below ticket items (from + 1) head.count head.later (omega (arith, below)) in
          omega (arith, all, first, apart, others)
    ]

one_at_most : (ticket : ℕ) (items : List Record) (from count : ℕ) → AreFrom items from count → times_asked ticket items ≤ 1
one_at_most ticket [] from count are = omega arith
one_at_most ticket (item ∷ items) from count are =
    let all = times-cons (asks_under ticket) item items in
    elim (ask_or_none item) [
      | inr asks ↦
          let first = ap one_if (unasked ticket item asks.none) in
          let others = one_at_most ticket items from count (others_of_numbers item items from count asks are) in
          omega (arith, all, first, others)
      | inl ask ↦
          let head = first_of_numbers ask.ticket ask.object ask.asker items from count
          (subst (λ i. AreFrom (i ∷ items) from count) ask.is are) in
          let here = head.here in
          let first = asks_first ticket item ask in
          elim (cases_Bool (ask.ticket == ticket)) [
            | inl is ↦
                let same = eqb-true ask.ticket ticket is in
                let one = ap one_if is in
                let others = none_below ticket items (from + 1) head.count head.later (omega (arith, same, here)) in
                omega (arith, all, first, one, others)
            | inr apart ↦
                let none = ap one_if apart in
                let others = one_at_most ticket items (from + 1) head.count head.later in
                omega (arith, all, first, none, others)
          ]
    ]

-- So a run has asked for one lookup at most under a ticket.
pub asked_at_most_once : (b : Beginning) (log : List Record) → IsRun b log → (ticket : ℕ) → times_asked ticket log ≤ 1
asked_at_most_once b log run ticket = one_at_most ticket log 1 _ (frames_kept b log run.course run.going).log_is.asked
