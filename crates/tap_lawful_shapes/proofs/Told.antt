-- The numbers of frames, of answers, and of casts that go on: so each record of a run without roots has its whole shape.
use Rattle.std.proofs.Common.{◌≡◌, inl, inr, ℕ, ◌≤◌, ◌^◌, Bool, true, List, [], ◌∷◌, ◌++◌, length, All, Option, None, Some, refl, sym, subst, ap, ◌∙◌, arith, append_assoc}
use Rattle.std.specs.Prelude.{IfSome, nat_eq, ◌==◌, ◌||◌, if◌then◌else◌}
use Rattle.std.specs.Cmp.Lexicographic.{pointwise}
use Rattle.std.specs.List.{cons_option, filter_map, sum_by}
use Rattle.std.proofs.Math.Seq.{take-length}
use Rattle.std.proofs.lemmas.Bool.{and_from, and_parts, cases_Bool, eq-eqb, eqb-true}
use Rattle.std.proofs.lemmas.List.Elements.{All-append, All-cons, All-head, All-nil, All-tail, filter_map-append}
use Rattle.std.proofs.lemmas.List.Sums.{sum_by-append, sum_by-cons}
use Rattle.std.proofs.lemmas.Slice.Eq.{bytes_eq-Decides}
use Rattle.tap_name.specs.Name.{IsName}
use Rattle.tap_name.specs.Settings.{SettingsValue}
use Rattle.tap_log.specs.declared.record.Pair.{Pair}
use Rattle.tap_log.specs.declared.record.Record.{Record}
use Rattle.tap_log.specs.declared.record.Record.TheVariants.{Sent, Taken, Asked, Answered, Published, Reached, Closed}
use Rattle.tap_log.specs.Counts.{cast_count, sent_count}
use Rattle.tap_log.specs.Kinds.{published_pair, sent_number, taken_number}
use Rattle.tap_line.specs.Line.{IsServer}
use Rattle.tap_shape.specs.Shape.{IsShaped}
use Rattle.tap_history.specs.Moments.{is_moment}
use Rattle.tap_history.specs.Published.{has_pair, same_pair}
use Rattle.tap_pointer.specs.Pointers.{pair_of}
use Rattle.tap_runs.specs.Beginning.{Beginning, begin_record}
use Rattle.tap_runs.specs.Observed.{pair_line}
use Rattle.tap_runs.proofs.Frames.{frames_kept}
use Rattle.tap_readable.proofs.RangeCourses.{numbers_in_range_holds}
use Rattle.tap_safe_runs.specs.Safe.{IsRun}
use Rattle.tap_pointer_runs.specs.LookupAnswers.{AnswersWerePublished, asks_for, was_asked}
use Rattle.tap_pointer_runs.proofs.RunAnswers.{answers_at}
use Rattle.tap_pointer_moves.specs.LookupAnswers.{IsAnswerOf}
use Rattle.tap_pointer_runs.specs.Paths.{was_published}
use Rattle.tap_cast_moves.specs.Remembered.{CastRun}
use Rattle.tap_cast_runs.specs.ReachedOnce.{RunIsToldOnce, is_closed, is_reached, says_closed, says_reached}
use Rattle.tap_cast_runs.specs.RunCasts.{RunCastsAreNumbered, casts_of}
use Rattle.tap_lawful_shapes.proofs.Groups.{IsLow, IsNearRun, numbers_below, sent_few}
use Rattle.tap_lawful_shapes.proofs.Near.{AreNear, IsNear}

-- What is used of casts. The law has it from laws of casts, which it calls.
pub record CastsAreKnown : Type 0 where
  pub once : RunIsToldOnce
  pub numbered : RunCastsAreNumbered

-- ---- what earlier records say

-- the ticket of a lookup that was asked, and the server of a pair that was published
unfoldable IsEarlier : SettingsValue → Record → Type 0
IsEarlier p (Asked ticket object asker) = IsLow ticket
IsEarlier p (Published object server) = IsName p server
IsEarlier p other = Unit {0}

module _ (p : SettingsValue) where
  earlier : (c : Bool) (item : Record) → IsNear p c item → IsEarlier p item
  unfolding IsEarlier IsNear IsShaped
  earlier c (Asked ticket object asker) near = near.0
  earlier c (Published object server) near = near.1
  earlier c item near = tt

  ticket_of : (item : Record) (ticket : ℕ) (object : List ℕ) → IsEarlier p item → asks_for item ticket object ≡ true → IsLow ticket
  unfolding IsEarlier
  ticket_of (Asked number name asker) ticket object is asks =
      let same = eqb-true number ticket (and_parts (nat_eq number ticket) (pointwise nat_eq name object) asks).0 in
      subst IsLow same is
  ticket_of item ticket object is asks = absurd (cc)

  asked_low : (items : List Record) (ticket : ℕ) (object : List ℕ) → All (IsEarlier p) items → was_asked items ticket object ≡ true → IsLow ticket
  asked_low [] ticket object all asked = absurd (cc)
  asked_low (item ∷ items) ticket object all asked = elim (cases_Bool (asks_for item ticket object)) [
    | inl here ↦ ticket_of item ticket object (All-head (IsEarlier p) item items all) here
    | inr not_here ↦
        asked_low items ticket object (All-tail (IsEarlier p) item items all)
        (ap (λ b. b || was_asked items ticket object) (sym not_here) ∙ asked)
  ]

  abbrev HasServer : Pair → Type 0
  HasServer pair = IsName p pair.server

  pair_server : (item : Record) → IsEarlier p item → IfSome (published_pair item) HasServer
  unfolding IsEarlier published_pair
  pair_server (Published object server) is = is
  pair_server item is = tt

  pairs_servers : (items : List Record) → All (IsEarlier p) items → All HasServer (filter_map published_pair items)
  pairs_servers [] all = All-nil HasServer
  pairs_servers (item ∷ items) all =
      by_one (published_pair item) (pair_server item (All-head (IsEarlier p) item items all)) (filter_map published_pair items)
      (pairs_servers items (All-tail (IsEarlier p) item items all))
    where
      by_one : (one : Option Pair) → IfSome one HasServer → (rest : List Pair) → All HasServer rest → All HasServer (cons_option one rest)
      by_one None is rest all = all
      by_one (Some pair) is rest all = All-cons HasServer pair rest is all

  among_pairs : (pairs : List Pair) (pair : Pair) → All HasServer pairs → has_pair pairs pair ≡ true → IsName p pair.server
  among_pairs [] pair all has = absurd (cc)
  among_pairs (first ∷ pairs) pair all has = elim (cases_Bool (same_pair first pair)) [
    | inl here ↦
        let same = (bytes_eq-Decides first.server pair.server).0
        (and_parts (pointwise nat_eq first.object pair.object) (pointwise nat_eq first.server pair.server) here).1 in
        subst (IsName p) same (All-head HasServer first pairs all)
    | inr not_here ↦
        among_pairs pairs pair (All-tail HasServer first pairs all) (ap (λ b. b || has_pair pairs pair) (sym not_here) ∙ has)
  ]

  served_named : (items : List Record) (server : Option (List ℕ)) (object : List ℕ) → All (IsEarlier p) items
      → ((name : List ℕ) → server ≡ Some name → was_published items (pair_of object name) ≡ true) → IsServer p server
  served_named items None object all served = tt
  served_named items (Some name) object all served =
      among_pairs (filter_map published_pair items) (pair_line (pair_of object name)) (pairs_servers items all) (served name refl)

-- ---- the numbers of frames, of answers, and of casts that go on

-- what holds of all holds of the later ones
pub All-later : {X : Type 0} (P : X → Type 0) (xs ys : List X) → All P (xs ++ ys) → All P ys
All-later P [] ys all = all
All-later P (x ∷ xs) ys all = All-later P xs ys (All-tail P x (xs ++ ys) all)

module _ (known : CastsAreKnown) (b : Beginning) (c : Bool) (log : List Record) (far : IsNearRun b c log)
    (whole : is_moment log (length log) ≡ true) where
  abbrev p : SettingsValue
  p = b.settings

  abbrev run : IsRun b log
  run = far.run

  casts_few : cast_count log ≤ 10000
  casts_few = let casts = numbers_in_range_holds.casts b log run.course run.going in let few = far.steps in omega (arith, casts, few)

  -- a number that a record tells is one of those of the log
  told_here : (told : Record → Option ℕ) (before after : List Record) (item : Record) (number : ℕ) → log ≡ before ++ item ∷ after
      → told item ≡ Some number → All IsLow (filter_map told log) → IsLow number
  told_here told before after item number is tells all =
      let parts : All IsLow (filter_map told before ++ filter_map told (item ∷ after)) =
      subst (All IsLow) (ap (filter_map told) is ∙ filter_map-append told before (item ∷ after)) all in
      let here : All IsLow (cons_option (told item) (filter_map told after)) =
      All-later IsLow (filter_map told before) (filter_map told (item ∷ after)) parts in
      All-head IsLow number (filter_map told after)
      (subst (λ o. All IsLow (cons_option o (filter_map told after))) tells here)

  sent_low : All IsLow (filter_map sent_number log)
  sent_low =
      let kept = (frames_kept b log run.course run.going).log_is in
      let few = sent_few b log run in
      subst (All IsLow) (sym kept.sent) (numbers_below (sent_count log) 0 (2 ^ 32) (omega (arith, few)))

  taken_low : All IsLow (filter_map taken_number log)
  taken_low =
      let kept = (frames_kept b log run.course run.going).log_is in
      let most = sent_few b log run in
      λ k d within. let one = kept.taken k d within in omega (arith, one, most)

  -- ---- answers

  answers : AnswersWerePublished p log
  answers = subst (AnswersWerePublished p) (take-length log) (answers_at b log (length log) run whole)

  answered_fits : (before after : List Record) (ticket : ℕ) (server : Option (List ℕ)) → log ≡ before ++ Answered ticket server ∷ after
      → All (IsEarlier p) before → IsLow ticket × IsServer p server
  answered_fits before after ticket server is first =
      let answer : IsAnswerOf (was_asked before) (was_published before) ticket server = answers before after ticket server is in
      (asked_low p before ticket answer.object first answer.asks, served_named p before server answer.object first answer.served)

  -- ---- casts

  -- a cast of which the log says something has begun
  known_cast : (cast : ℕ) (begun : Option CastRun) → (casts_of log).cast cast ≡ begun → (begun ≡ None → ⊥) → IsLow cast
  known_cast cast None is not_none = absurd (not_none refl)
  known_cast cast (Some told) is not_none =
      let most = (known.numbered b log run).most cast told is in
      let all = casts_few in
      omega (arith, most, all)

  -- a record that says something is counted in the log
  once_here : (says : Record → Bool) (before after : List Record) (item : Record) → log ≡ before ++ item ∷ after → says item ≡ true
      → 1 ≤ sum_by (λ other. if says other then 1 else 0) log
  once_here says before after item is says_so =
      let counts : Record → ℕ = λ other. if says other then 1 else 0 in
      let parts = ap (sum_by counts) is ∙ sum_by-append counts before (item ∷ after) in
      let here = sum_by-cons counts item after in
      let one : ◌≡◌ {A = ℕ} (if says item then 1 else 0) 1 = ap (λ b. if b then 1 else 0) says_so in
      omega (arith, parts, here, one)

  same_number : (n : ℕ) → (n == n) ≡ true
  same_number n = eq-eqb n n refl

  same_name : (name : List ℕ) → pointwise nat_eq name name ≡ true
  same_name name = (bytes_eq-Decides name name).1 refl

  reached_low : (before after : List Record) (cast : ℕ) (name : List ℕ) → log ≡ before ++ Reached cast name ∷ after → IsLow cast
  unfolding says_reached
  reached_low before after cast name is =
      let told = (known.once b log run).reached cast name in
      let one = once_here (says_reached cast name) before after (Reached cast name) is
      (and_from (cast == cast) (pointwise nat_eq name name) (same_number cast) (same_name name)) in
      known_cast cast ((casts_of log).cast cast) refl (λ none.
      let nothing : ◌≡◌ {A = ℕ} (if is_reached ((casts_of log).cast cast) name then 1 else 0) 0 =
      ap (λ o. if is_reached o name then 1 else 0) none in
      omega (arith, told, one, nothing))

  closed_low : (before after : List Record) (cast : ℕ) → log ≡ before ++ Closed cast ∷ after → IsLow cast
  unfolding says_closed
  closed_low before after cast is =
      let told = (known.once b log run).closed cast in
      let one = once_here (says_closed cast) before after (Closed cast) is (same_number cast) in
      known_cast cast ((casts_of log).cast cast) refl (λ none.
      let nothing : ◌≡◌ {A = ℕ} (if is_closed ((casts_of log).cast cast) then 1 else 0) 0 = ap (λ o. if is_closed o then 1 else 0) none in
      omega (arith, told, one, nothing))

  -- ---- each record

  shaped_one : (before after : List Record) (item : Record) → log ≡ before ++ item ∷ after → All (IsEarlier p) before → IsNear p c item
      → IsShaped p c item
  unfolding IsNear IsShaped sent_number taken_number
  shaped_one before after (Sent number bytes) is first near =
      (told_here sent_number before after (Sent number bytes) number is refl sent_low, near)
  shaped_one before after (Taken number) is first near = told_here taken_number before after (Taken number) number is refl taken_low
  shaped_one before after (Answered ticket server) is first near = answered_fits before after ticket server is first
  shaped_one before after (Reached cast name) is first near = (reached_low before after cast name is, near)
  shaped_one before after (Closed cast) is first near = closed_low before after cast is
  shaped_one before after item is first near = near

  shaped_from : (before items : List Record) → log ≡ before ++ items → All (IsEarlier p) before → AreNear p c items → All (IsShaped p c) items
  shaped_from before [] is first near = All-nil (IsShaped p c)
  shaped_from before (item ∷ items) is first near =
      let here = All-head (IsNear p c) item items near in
      All-cons (IsShaped p c) item items (shaped_one before items item is first here)
      (shaped_from (before ++ item ∷ []) items (is ∙ sym (append_assoc before (item ∷ []) items))
      (All-append (IsEarlier p) before (item ∷ []) first (All-cons (IsEarlier p) item [] (earlier p c item here) (All-nil (IsEarlier p))))
      (All-tail (IsNear p c) item items near))

  pub shaped_later : All (IsShaped p c) far.later
  unfolding IsEarlier
  shaped_later =
      shaped_from (begin_record b ∷ []) far.later far.is
      (All-cons (IsEarlier p) (begin_record b) [] tt (All-nil (IsEarlier p))) far.near
