-- How many Tells of a joiner a node sends another at a step, beside those that its cover allowed before.
use Rattle.std.proofs.Common.{◌≡◌, ◌≢◌, ◌==◌, ℕ, nat_eq, ◌+◌, ◌≤◌, ◌<◌, Bool, true, false, cond, List, [], ◌∷◌, ◌++◌, length, map, Option, None, Some, is_none, arith, ap, refl, sym, subst, ◌∙◌, inl, inr}
use Rattle.std.specs.Prelude.{count_by, not, nat_le, nat_lt, ◌&&◌}
use Rattle.std.specs.Cmp.Lexicographic.{pointwise}
use Rattle.std.proofs.lemmas.Bool.{and_parts, cases_Bool, cases_lt, le-leb, leb-true, lt-leb, ltb-true, true≢false}
use Rattle.std.proofs.lemmas.List.Elements.{All-head, All-tail}
use Rattle.std.proofs.lemmas.Slice.Eq.{bytes_eq-Decides}
use Rattle.std.proofs.lemmas.List.{map-append}
use Rattle.tap_name.specs.Name.{IsName}
use Rattle.tap_name.specs.Names.{Among, are_distinct, has_name}
use Rattle.tap_name.specs.Prefix.{lcp}
use Rattle.tap_name.specs.declared.slot.Offered.{Offered}
use Rattle.tap_name.specs.declared.slot.Slot.{Slot}
use Rattle.tap_name.proofs.Membership.{are_distinct-Decides, has_name-Decides}
use Rattle.tap_table.specs.Levels.{is_kept}
use Rattle.tap_table.specs.Table.{IsTable, TableValue, pinned as table_pinned}
use Rattle.tap_table.proofs.KeptTable.{IsTable-pinned}
use Rattle.tap_multicast.specs.Covers.{begun_cover, cover_of, level_kept, with_cover}
use Rattle.tap_multicast.specs.Offer.{left, offer}
use Rattle.tap_multicast.specs.Targets.{targets}
use Rattle.tap_multicast.specs.declared.covers.Covered.TheVariants.{Already}
use Rattle.tap_multicast.specs.declared.target.Target.{Target}
use Rattle.tap_multicast.proofs.KeptLevels.{cover_anew, others_keep}
use Rattle.tap_multicast.proofs.Telling.{IsTarget, targets_are, targets_distinct}
use Rattle.tap_join.specs.Hello.{words_of}
use Rattle.tap_table.specs.declared.tie.Tie.{Tie}
use Rattle.tap_wire.specs.declared.frame.Body.{Body}
use Rattle.tap_rule.specs.Answers.{answer_for, next_number, with_session}
use Rattle.tap_rule.specs.Covering.{Request, answers_awaited, covers_as, greeting, pins_and_covers, tell_for, with_level}
use Rattle.tap_rule.specs.KeptNode.{IsNode}
use Rattle.tap_rule.specs.Node.{IsRunning, NodeState, level_of, name_of, settings_of}
use Rattle.tap_rule.specs.Reaction.{Message, Reaction, message, pin_word, sends, with_pin, with_words}
use Rattle.tap_rule.specs.Sending.{message_frame}
use Rattle.tap_rule.specs.Sent.{IsAmong}
use Rattle.tap_rule.proofs.Among.{among-map_from}
use Rattle.tap_moves.proofs.Got.{among_all}
use Rattle.tap_bounds.specs.Tells.{is_tell, most_tells, tells_of}
use Rattle.tap_bounds.proofs.Counting.{CountsMessages, count-append, count-cons, count-none}
use Rattle.tap_bounds.proofs.TellRules.{AreUntold, IsUntold, Untold, answer_plain}
use Rattle.tap_safety.proofs.Said.{Said, said_of}
use Rattle.tap_safety.proofs.Said.Said.{IsTell}

-- ---- the test

no_and : (a : Bool) → (a && false) ≡ false
no_and true = refl
no_and false = refl

both_and : (a c d : Bool) → cond {A = ℕ} (a && (c && d)) 1 0 ≤ cond {A = ℕ} d 1 0
both_and true true true = omega arith
both_and true true false = omega arith
both_and true false true = omega arith
both_and true false false = omega arith
both_and false c true = omega arith
both_and false c false = omega arith

pub tell_tests : (x o b : List ℕ) → CountsMessages (is_tell x o b)
tell_tests x o b = record { links = λ own word. refl; lays = λ own l. refl }

-- what a node sends isn't from another name
pub tell_from : (own x o b : List ℕ) → x ≢ own → (m : Message) → is_tell x o b (message_frame own m) ≡ false
tell_from own x o b other m =
    elim (cases_Bool (pointwise nat_eq own x)) [
      | inl same ↦ absurd (other (sym ((bytes_eq-Decides own x).0 same)))
      | inr apart ↦ rw apart (no_and (tells_of b m.body))
    ]

untold : (own x o b : List ℕ) (to : List ℕ) {body : Body} → Said body → IsUntold body → is_tell x o b (message_frame own (message to body)) ≡ false
untold own x o b to (IsTell tell watch) is = absurd is
untold own x o b to _ is = refl

pub none_told : (own x o b : List ℕ) (messages : List Message) → AreUntold messages
    → count_by (is_tell x o b) (map (message_frame own) messages) ≡ 0
none_told own x o b [] all = refl
none_told own x o b (m ∷ messages) all =
    let here : is_tell x o b (message_frame own m) ≡ false =
    untold own x o b m.to (said_of m.body) (All-head (λ n. IsUntold n.body) m messages all) in
    let first : cond {A = ℕ} (is_tell x o b (message_frame own m)) 1 0 ≡ 0 = rw here refl in
    let others = none_told own x o b messages (All-tail (λ n. IsUntold n.body) m messages all) in
    let both = count-cons (is_tell x o b) (message_frame own m) (map (message_frame own) messages) in
    omega (arith, first, others, both)

-- ---- how much a cover allows

pub most_is_two : (kept : Option ℕ) (shared : ℕ) → most_tells kept shared ≤ 2
most_is_two None shared = omega arith
most_is_two (Some level) shared = by (nat_le level shared)
  where
    by : (test : Bool) → cond {A = ℕ} test 2 1 ≤ 2
    by true = omega arith
    by false = omega arith

le_true : (a b : ℕ) → a ≤ b → nat_le a b ≡ true
le_true a b below = le-leb a b below

allows_two : (level shared : ℕ) → level ≤ shared → most_tells (Some level) shared ≡ 2
allows_two level shared below = rw (le_true level shared below) refl

allows_one : (level shared : ℕ) → shared < level → most_tells (Some level) shared ≡ 1
allows_one level shared below = rw (lt-leb level shared below) refl

some_allows : (level shared : ℕ) → 1 ≤ most_tells (Some level) shared
some_allows level shared =
    elim (cases_lt shared level) [
      | inl below ↦ let one = allows_one level shared below in omega (arith, one)
      | inr above ↦ let two = allows_two level shared above in omega (arith, two)
    ]

-- a lower level allows as many
lower_allows : (level before shared : ℕ) → level ≤ before → most_tells (Some before) shared ≤ most_tells (Some level) shared
lower_allows level before shared lower =
    elim (cases_lt shared before) [
      | inl below ↦
          let one = allows_one before shared below in
          let some = some_allows level shared in
          omega (arith, one, some)
      | inr above ↦
          let two = allows_two before shared above in
          let more = allows_two level shared (omega (arith, above, lower)) in
          omega (arith, two, more)
    ]

-- ---- names that differ

abbrev names_count : List ℕ → List (List ℕ) → ℕ
names_count o names = count_by (λ (y : List ℕ). pointwise nat_eq y o) names

named_among : (o : List ℕ) (names : List (List ℕ)) → IsAmong o names → Among o names
named_among o [] among = absurd among
named_among o (y ∷ ys) (inl is) = inl is
named_among o (y ∷ ys) (inr later) = inr (named_among o ys later)

-- no name is one of them twice
once : (o : List ℕ) (names : List (List ℕ)) → are_distinct names ≡ true → names_count o names ≤ 1
once o [] distinct = omega arith
once o (y ∷ ys) distinct =
    let parts = and_parts (not (has_name ys y)) (are_distinct ys) distinct in
    let all = count-cons (λ (z : List ℕ). pointwise nat_eq z o) y ys in
    elim (cases_Bool (pointwise nat_eq y o)) [
      | inl same ↦
          let first : cond {A = ℕ} (pointwise nat_eq y o) 1 0 ≡ 1 = rw same refl in
          let is_o = (bytes_eq-Decides y o).0 same in
          let others = count-none (λ (z : List ℕ). pointwise nat_eq z o) ys (λ z among. apart parts.0 is_o z among) in
          omega (arith, all, first, others)
      | inr differs ↦
          let first : cond {A = ℕ} (pointwise nat_eq y o) 1 0 ≡ 0 = rw differs refl in
          let others = once o ys parts.1 in
          omega (arith, all, first, others)
    ]
  where
    apart : not (has_name ys y) ≡ true → y ≡ o → (z : List ℕ) → IsAmong z ys → pointwise nat_eq z o ≡ false
    apart new same z among =
        elim (cases_Bool (pointwise nat_eq z o)) [
          | inl is ↦
              let z_is : z ≡ y = (bytes_eq-Decides z o).0 is ∙ sym same in
              let has : has_name ys y ≡ true = (has_name-Decides ys y).1 (subst (λ n. Among n ys) z_is (named_among z ys among)) in
              let wrong : not true ≡ true = ap not (sym has) ∙ new in
              absurd (cc)
          | inr differs ↦ differs
        ]

-- if one of them is this name, it is among them
found_name : (o : List ℕ) (names : List (List ℕ)) → 1 ≤ names_count o names → IsAmong o names
found_name o [] some = absurd (omega arith)
found_name o (y ∷ ys) some =
    elim (cases_Bool (pointwise nat_eq y o)) [
      | inl same ↦ inl (sym ((bytes_eq-Decides y o).0 same))
      | inr differs ↦
          let first : cond {A = ℕ} (pointwise nat_eq y o) 1 0 ≡ 0 = rw differs refl in
          let all = count-cons (λ (z : List ℕ). pointwise nat_eq z o) y ys in
          inr (found_name o ys (omega (arith, some, first, all)))
    ]

-- ---- the Tells of a cover

module _ (own o b : List ℕ) (request : Request) (session : ℕ) (watch : List Slot) where
  told_names : (told : List Target)
      → count_by (is_tell own o b) (map (message_frame own) (map (tell_for request session watch) told))
      ≤ names_count o (map (λ (t : Target). t.to) told)
  told_names [] = omega arith
  told_names (target ∷ told) =
      let one = count-cons (is_tell own o b) (message_frame own (tell_for request session watch target))
      (map (message_frame own) (map (tell_for request session watch) told)) in
      let two = count-cons (λ (z : List ℕ). pointwise nat_eq z o) target.to (map (λ (t : Target). t.to) told) in
      let here = both_and (pointwise nat_eq request.joiner b) (pointwise nat_eq own own) (pointwise nat_eq target.to o) in
      let others = told_names told in
      omega (arith, one, two, here, others)

  -- of another joiner there are none
  told_others : pointwise nat_eq request.joiner b ≡ false → (told : List Target)
      → count_by (is_tell own o b) (map (message_frame own) (map (tell_for request session watch) told)) ≡ 0
  told_others apart [] = refl
  told_others apart (target ∷ told) =
      let one = count-cons (is_tell own o b) (message_frame own (tell_for request session watch target))
      (map (message_frame own) (map (tell_for request session watch) told)) in
      let first : cond {A = ℕ} (is_tell own o b (message_frame own (tell_for request session watch target))) 1 0 ≡ 0 = rw apart refl in
      let others = told_others apart told in
      omega (arith, one, first, others)

  greeted_none : (first : Bool) (offered : List Offered)
      → count_by (is_tell own o b) (map (message_frame own) (greeting request session first offered)) ≡ 0
  greeted_none true offered = refl
  greeted_none false offered = refl

-- ---- a rule

-- what is sent, with what the cover allowed before, is at most what it allows afterwards; a node that ends sends none
pub record Grows (node : NodeState) (r : Reaction) : Type 0 where
  pub runs : IsRunning r.state.status → IsRunning node.status
  pub each : (o b : List ℕ) → IsRunning r.state.status
      → count_by (is_tell (name_of node) o b) (map (message_frame (name_of node)) r.messages)
      + most_tells (level_of node b) (lcp (name_of node) o) ≤ most_tells (level_kept r.state.covers b) (lcp (name_of node) o)
  pub ended : (o b : List ℕ) → (IsRunning r.state.status → ⊥)
      → count_by (is_tell (name_of node) o b) (map (message_frame (name_of node)) r.messages) ≤ 0

pub untold_grows : (node : NodeState) (r : Reaction) → Untold node r → Grows node r
untold_grows node r is = record {
  runs = is.runs;
  each = λ o b running.
      let none = none_told (name_of node) (name_of node) o b r.messages is.messages in
      elim is.covers [
        | inl same ↦
            let alike : most_tells (level_kept r.state.covers b) (lcp (name_of node) o) ≡ most_tells (level_of node b) (lcp (name_of node) o) =
            ap (λ covers. most_tells (level_kept covers b) (lcp (name_of node) o)) same in
            omega (arith, none, alike)
        | inr over ↦ absurd (over running)
      ];
  ended = λ o b over. let none = none_told (name_of node) (name_of node) o b r.messages is.messages in omega (arith, none);
}

-- ---- the rule of a cover

module _ (node : NodeState) (is : IsNode node) (request : Request) (named : IsName (settings_of node) request.joiner)
    (apart : request.joiner ≢ name_of node) (running : IsRunning node.status) where
  abbrev own : List ℕ
  own = name_of node

  abbrev t : TableValue
  t = table_pinned node.ties.table request.joiner

  abbrev pinning : NodeState
  pinning = with_pin node request.joiner

  valid : IsTable t
  valid = IsTable-pinned node.ties.table request.joiner is.ties.table named apart

  module _ (kept : Option ℕ) where
    abbrev told : List Target
    told = targets t (cover_of t kept request.joiner request.prefix request.level)

    abbrev names : List (List ℕ)
    names = map (λ (target : Target). target.to) told

    one_each : (o : List ℕ) → names_count o names ≤ 1
    one_each o =
        once o names
        ((are_distinct-Decides names).1 (targets_distinct t valid (cover_of t kept request.joiner request.prefix request.level)))

    target_found : (o : List ℕ) → 1 ≤ names_count o names
        → (target : Target) × IsTarget t (cover_of t kept request.joiner request.prefix request.level) target × (o ≡ target.to)
    target_found o some =
        let found = among-map_from (λ (target : Target). target.to) o told (found_name o names some) in (
          found.0,
          among_all (IsTarget t (cover_of t kept request.joiner request.prefix request.level)) told
              (targets_are t valid (cover_of t kept request.joiner request.prefix request.level)) found.0 found.1,
          found.2,
        )

  -- who is told at a level below the one before shares at least as many digits as the new level, and fewer than the one before
  told_between : (before : ℕ) (o : List ℕ) → 1 ≤ names_count o (names (Some before))
      → (request.level ≤ lcp own o) × (lcp own o < before)
  told_between before o some =
      let found = target_found (Some before) o some in
      let at : lcp own found.0.to ≡ lcp own o = ap (lcp own) (sym found.2) in
      elim found.1.which [
        | inl now ↦
            let parts = and_parts (nat_le request.level (lcp own found.0.to)) (nat_lt (lcp own found.0.to) before) now.0 in
            let low = leb-true request.level (lcp own found.0.to) parts.0 in
            let high = ltb-true (lcp own found.0.to) before parts.1 in
            (omega (arith, low, at), omega (arith, high, at))
        | inr introduced ↦ absurd (true≢false (sym introduced.0))
      ]

  grown : (kept : Option ℕ) (o : List ℕ) → is_kept kept request.level ≡ false
      → names_count o (names kept) + most_tells kept (lcp own o) ≤ most_tells (Some request.level) (lcp own o)
  grown None o fresh =
      let one = one_each None o in
      let some = some_allows request.level (lcp own o) in
      omega (arith, one, some)
  grown (Some before) o fresh =
      let lower : request.level < before = not_kept before request.level fresh in
      let one = one_each (Some before) o in
      elim (cases_lt 0 (names_count o (names (Some before)))) [
        | inl some ↦
            let between = told_between before o (omega (arith, some)) in
            let few = allows_one before (lcp own o) between.1 in
            let more = allows_two request.level (lcp own o) between.0 in
            omega (arith, one, few, more)
        | inr none ↦
            let less = lower_allows request.level before (lcp own o) (omega (arith, lower)) in
            omega (arith, none, less)
      ]
    where
      not_kept : (before level : ℕ) → nat_le before level ≡ false → level < before
      not_kept before level fresh =
          elim (cases_lt level before) [
            | inl below ↦ below
            | inr above ↦ absurd (true≢false (sym (le_true before level above) ∙ fresh))
          ]

  -- a reaction that leaves this cover, and sends at most its Tells
  module _ (kept : Option ℕ) (kept_is : level_kept node.covers request.joiner ≡ kept) (fresh : is_kept kept request.level ≡ false)
      (r : Reaction) (covers : r.state.covers ≡ with_cover node.covers request.joiner request.level)
      (status : r.state.status ≡ node.status) where
    abbrev count : List ℕ → List ℕ → ℕ
    count o b = count_by (is_tell own o b) (map (message_frame own) r.messages)

    grows_so : ((o b : List ℕ) → pointwise nat_eq request.joiner b ≡ false → count o b ≡ 0)
        → ((o : List ℕ) → count o request.joiner ≤ names_count o (names kept)) → Grows node r
    grows_so others few = record {
      runs = λ runs. subst IsRunning status runs;
      each = λ o b runs. each o b;
      ended = λ o b over. absurd (over (subst IsRunning (sym status) running));
    }
      where
        each : (o b : List ℕ) → count o b + most_tells (level_of node b) (lcp own o)
            ≤ most_tells (level_kept r.state.covers b) (lcp own o)
        each o b =
            elim (cases_Bool (pointwise nat_eq request.joiner b)) [
              | inl same ↦
                  subst (λ c. count o c + most_tells (level_of node c) (lcp own o) ≤ most_tells (level_kept r.state.covers c) (lcp own o))
                  ((bytes_eq-Decides request.joiner b).0 same) (of_joiner o)
              | inr differs ↦ of_other o b differs
            ]
          where
            of_joiner : (o : List ℕ) → count o request.joiner + most_tells (level_of node request.joiner) (lcp own o)
                ≤ most_tells (level_kept r.state.covers request.joiner) (lcp own o)
            of_joiner o =
                let new = few o in
                let before : most_tells (level_of node request.joiner) (lcp own o) ≡ most_tells kept (lcp own o) =
                ap (λ k. most_tells k (lcp own o)) kept_is in
                let level = (cover_anew node.covers t request.watch request.joiner request.prefix request.level
                (ap (λ k. is_kept k request.level) kept_is ∙ fresh)).1 in
                let after : most_tells (level_kept r.state.covers request.joiner) (lcp own o) ≡ most_tells (Some request.level) (lcp own o) =
                ap (λ cs. most_tells (level_kept cs request.joiner) (lcp own o)) covers ∙ ap (λ k. most_tells k (lcp own o)) level in
                let all = grown kept o fresh in
                omega (arith, new, before, after, all)

            of_other : (o b : List ℕ) → pointwise nat_eq request.joiner b ≡ false
                → count o b + most_tells (level_of node b) (lcp own o) ≤ most_tells (level_kept r.state.covers b) (lcp own o)
            of_other o b differs =
                let none = others o b differs in
                let other : b ≢ request.joiner =
                λ same. true≢false (sym ((bytes_eq-Decides request.joiner b).1 (sym same)) ∙ differs) in
                let after : most_tells (level_kept r.state.covers b) (lcp own o) ≡ most_tells (level_of node b) (lcp own o) =
                ap (λ cs. most_tells (level_kept cs b) (lcp own o)) covers
                ∙ ap (λ k. most_tells k (lcp own o))
                (others_keep node.covers t request.watch request.joiner request.prefix request.level b other) in
                omega (arith, none, after)

  -- ---- what it sends: the answer of the parent alone, or the Tells

  abbrev answers : List Message
  answers = answer_for request.parent ∷ []

  answers_none : (o b : List ℕ) → count_by (is_tell own o b) (map (message_frame own) answers) ≡ 0
  answers_none o b = none_told own own o b answers (answer_plain request.parent)

  module _ (kept : Option ℕ) (kept_is : level_kept node.covers request.joiner ≡ kept) where
    abbrev spread_told : List Message
    spread_told = map (tell_for request (next_number pinning)
        (left t request.watch (cover_of t kept request.joiner request.prefix request.level))) (told kept)

    abbrev greets : List Message
    greets = greeting request (next_number pinning) (is_none kept)
        (offer t request.watch (cover_of t kept request.joiner request.prefix request.level))

    told_in_all : (o b : List ℕ) → count_by (is_tell own o b) (map (message_frame own) (greets ++ spread_told))
        ≡ count_by (is_tell own o b) (map (message_frame own) spread_told)
    told_in_all o b =
        let none = greeted_none own o b request (next_number pinning)
        (left t request.watch (cover_of t kept request.joiner request.prefix request.level)) (is_none kept)
        (offer t request.watch (cover_of t kept request.joiner request.prefix request.level)) in
        let parts = ap (count_by (is_tell own o b)) (map-append (message_frame own) greets spread_told) in
        let both = count-append (is_tell own o b) (map (message_frame own) greets) (map (message_frame own) spread_told) in
        omega (arith, none, parts, both)

    spread_grows : (words : List Tie) → is_kept kept request.level ≡ false → (waiting : ℕ) (alone : Bool) → Grows node (with_words words (cond alone
        (sends (with_level pinning request) answers)
        (sends (with_session (with_level pinning request) request.parent request.depth waiting) (greets ++ spread_told))))
    spread_grows words fresh waiting true =
        grows_so kept kept_is fresh (with_words words (sends (with_level pinning request) answers)) refl refl
        (λ o b apart. answers_none o b) (λ o. let none = answers_none o request.joiner in omega (arith, none))
    spread_grows words fresh waiting false =
        grows_so kept kept_is fresh
        (with_words words
        (sends (with_session (with_level pinning request) request.parent request.depth waiting) (greets ++ spread_told))) refl refl
        (λ o b apart. told_in_all o b
        ∙ told_others own o b request (next_number pinning)
        (left t request.watch (cover_of t kept request.joiner request.prefix request.level)) apart (told kept))
        (λ o.
        let all = told_in_all o request.joiner in
        let few = told_names own o request.joiner request (next_number pinning)
        (left t request.watch (cover_of t kept request.joiner request.prefix request.level)) (told kept) in
        omega (arith, all, few))

    covers_grow : (words : List Tie) (already : Bool) → is_kept kept request.level ≡ already → Grows node (with_words words (covers_as pinning request
        (cond already Already (begun_cover t request.watch (cover_of t kept request.joiner request.prefix request.level)))))
    covers_grow words true was =
        untold_grows node (with_words words (sends pinning answers))
        (record { messages = answer_plain request.parent; covers = inl refl; runs = λ runs. runs })
    covers_grow words false fresh =
        let waiting = answers_awaited (is_none kept) (length (told kept)) in spread_grows words fresh waiting (waiting == 0)

  pub pins_grow : Grows node (pins_and_covers node request)
  pins_grow =
      covers_grow (level_kept node.covers request.joiner) refl (words_of (pin_word node request.joiner))
      (is_kept (level_kept node.covers request.joiner) request.level) refl
