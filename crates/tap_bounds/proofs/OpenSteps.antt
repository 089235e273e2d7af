-- How many sessions of one joiner a rule has a node open, beside those that its state allowed before.
use Rattle.std.proofs.Common.{◌≡◌, ◌≢◌, ◌⊎◌, ◌==◌, ℕ, nat_eq, ◌+◌, ◌≤◌, Bool, true, false, cond, if◌then◌else◌, List, [], ◌∷◌, ◌++◌, length, map, Option, None, Some, is_none, arith, ap, refl, sym, subst, ◌∙◌, inl, inr}
use Rattle.std.specs.Prelude.{◌&&◌}
use Rattle.std.specs.Cmp.Lexicographic.{pointwise}
use Rattle.std.proofs.lemmas.Bool.{cases_Bool, cases_lt, true≢false}
use Rattle.std.proofs.lemmas.List.Elements.{All-cons, All-nil}
use Rattle.std.proofs.lemmas.Slice.Eq.{bytes_eq-Decides}
use Rattle.tap_name.specs.Names.{has_name}
use Rattle.tap_name.specs.Settings.{SettingsValue}
use Rattle.tap_table.specs.Levels.{is_kept}
use Rattle.tap_table.specs.Table.{TableValue, pinned as table_pinned}
use Rattle.tap_table.specs.declared.tie.Tie.{Tie}
use Rattle.tap_multicast.specs.Covers.{begun_cover, cover_of, level_kept, with_cover}
use Rattle.tap_multicast.specs.declared.covers.Covered.TheVariants.{Already}
use Rattle.tap_multicast.specs.Offer.{left, offer}
use Rattle.tap_multicast.specs.Targets.{targets}
use Rattle.tap_multicast.proofs.KeptLevels.{cover_anew, kept_exactly, others_keep}
use Rattle.tap_join.specs.Hello.{words_of}
use Rattle.tap_join.specs.declared.sought.Sought.{Sought}
use Rattle.tap_join.specs.declared.sought.Sought.TheVariants.{Forward, Surrogate}
use Rattle.tap_wire.specs.declared.frame.Body.TheVariants.{Ack, Seek}
use Rattle.tap_wire.specs.declared.frame.TellFields.{TellFields}
use Rattle.tap_rule.specs.Answers.{answer_for, next_number, with_session}
use Rattle.tap_rule.specs.Covering.{Request, answers_awaited, covers_as, first_request, greeting, pins_and_covers, takes_seek_as, tell_for, with_level}
use Rattle.tap_rule.specs.Joining.{takes_tell_joining, welcomes}
use Rattle.tap_rule.specs.Node.{IsRunning, NodeState, Status, level_of}
use Rattle.tap_rule.specs.Node.Status.{Ceased, Core, Gone, Joining, Leaving}
use Rattle.tap_rule.specs.Reaction.{Message, Reaction, message, pin_word, sends, with_pin, with_words}
use Rattle.tap_bounds.specs.Openings.{most_covering, most_opened}
use Rattle.tap_bounds.proofs.Greeted.{greeted_more}
use Rattle.tap_bounds.proofs.HelloRules.{IsUngreeting, Ungreeting, answer_plain, keeps}
use Rattle.tap_bounds.proofs.OpenRules.{OpensNone}

-- ---- what a state allows

module _ (p : SettingsValue) where
  covering_least : (kept : Option ℕ) → 1 ≤ most_covering p kept
  covering_least None = omega arith
  covering_least (Some level) = omega arith

  covering_most : (kept : Option ℕ) → most_covering p kept ≤ p.digits + 2
  covering_most None = omega arith
  covering_most (Some level) = omega arith

  one_or_none : (test : Bool) → cond {A = ℕ} test 1 0 ≤ 1
  one_or_none true = omega arith
  one_or_none false = omega arith

  pub opened_most : (status : Status) (node : NodeState) (b : List ℕ) → most_opened p status node b ≤ p.digits + 2
  opened_most Joining node b = let one = one_or_none (has_name node.greeted b) in omega (arith, one)
  opened_most Core node b = covering_most (level_of node b)
  opened_most Leaving node b = covering_most (level_of node b)
  opened_most Gone node b = omega arith
  opened_most Ceased node b = omega arith

  running_most : (status : Status) (node : NodeState) (b : List ℕ) → IsRunning status
      → most_opened p status node b ≤ most_covering p (level_of node b)
  running_most Joining node b runs =
      let one = one_or_none (has_name node.greeted b) in
      let least = covering_least (level_of node b) in
      omega (arith, one, least)
  running_most Core node b runs = omega arith
  running_most Leaving node b runs = omega arith
  running_most Gone node b runs = absurd runs
  running_most Ceased node b runs = absurd runs

  -- a lower level allows one more
  anew_more : (kept : Option ℕ) (level : ℕ) → is_kept kept level ≡ false → level ≤ p.digits
      → 1 + most_covering p kept ≤ most_covering p (Some level)
  anew_more None level fresh inside = omega (arith, inside)
  anew_more (Some old) level fresh inside =
      elim (cases_lt level old) [
        | inl less ↦ omega (arith, inside, less)
        | inr most ↦
            let is = (kept_exactly (Some old) level).1 (old, refl, most) in
            absurd (true≢false (sym is ∙ fresh))
      ]

-- ---- a rule

-- It opens a session of this joiner, or none; and with it the state allows afterwards what it allowed before.
pub record Opens (p : SettingsValue) (node : NodeState) (joiner : List ℕ) (r : Reaction) : Type 0 where
  pub more : Bool
  pub opened : r.state.sessions.opened ≡ node.sessions.opened + cond {A = ℕ} more 1 0
  pub few : (b : List ℕ) → cond {A = ℕ} (more && pointwise nat_eq joiner b) 1 0 + most_opened p node.status node b
      ≤ most_opened p r.state.status r.state b

module _ (p : SettingsValue) (node : NodeState) (joiner : List ℕ) where
  -- a running node keeps its covers
  runs_most : (after : NodeState) (b : List ℕ) → (after.covers ≡ node.covers) ⊎ (IsRunning after.status → ⊥)
      → (IsRunning after.status → IsRunning node.status) → IsRunning after.status
      → most_opened p node.status node b ≤ most_covering p (level_of after b)
  runs_most after b (inr over) runs running = absurd (over running)
  runs_most after b (inl same) runs running =
      let most = running_most p node.status node b (runs running) in
      let alike = ap (λ cs. most_covering p (level_kept cs b)) same in
      omega (arith, most, alike)

  same_most : (after : NodeState) (b : List ℕ) (status : Status) → after.status ≡ status
      → (after.covers ≡ node.covers) ⊎ (IsRunning after.status → ⊥)
      → (after.status ≡ Joining → (node.status ≡ Joining) × (after.greeted ≡ node.greeted))
      → (IsRunning after.status → IsRunning node.status) → most_opened p node.status node b ≤ most_opened p status after b
  same_most after b Joining at covers greeted runs =
      let both = greeted at in
      let was = ap (λ (st : Status). most_opened p st node b) both.0 in
      let same = ap (λ (names : List (List ℕ)). cond {A = ℕ} (has_name names b) 1 0) both.1 in
      omega (arith, was, same)
  same_most after b Core at covers greeted runs = runs_most after b covers runs (subst IsRunning (sym at) tt)
  same_most after b Leaving at covers greeted runs = runs_most after b covers runs (subst IsRunning (sym at) tt)
  same_most after b Gone at covers greeted runs = opened_most p node.status node b
  same_most after b Ceased at covers greeted runs = opened_most p node.status node b

  pub none_most : (r : Reaction) → Ungreeting node r → (b : List ℕ)
      → most_opened p node.status node b ≤ most_opened p r.state.status r.state b
  none_most r is b = same_most r.state b r.state.status refl is.covers is.greeted is.runs

  pub none_opens : (r : Reaction) → Ungreeting node r → OpensNone node r → Opens p node joiner r
  none_opens r is none = record {
    more = false;
    opened = omega (arith, none);
    few = λ b. let most = none_most r is b in omega (arith, most);
  }

-- ---- the rule of a cover

module _ (p : SettingsValue) (node : NodeState) (request : Request) (at : node.status ≡ Core) (inside : request.level ≤ p.digits) where
  abbrev t : TableValue
  t = table_pinned node.ties.table request.joiner

  abbrev pinning : NodeState
  pinning = with_pin node request.joiner

  abbrev answers : List Message
  answers = answer_for request.parent ∷ []

  -- the joiner is covered anew
  module _ (kept : Option ℕ) (kept_is : level_kept node.covers request.joiner ≡ kept) where
    abbrev now : List ℕ → ℕ
    now b = most_covering p (level_kept (with_cover node.covers request.joiner request.level) b)

    for_joiner : is_kept kept request.level ≡ false → 1 + most_covering p (level_of node request.joiner) ≤ now request.joiner
    for_joiner fresh =
        let more = anew_more p kept request.level fresh inside in
        let before = ap (most_covering p) kept_is in
        let level = (cover_anew node.covers t request.watch request.joiner request.prefix request.level
        (ap (λ k. is_kept k request.level) kept_is ∙ fresh)).1 in
        let after = ap (most_covering p) level in
        omega (arith, more, before, after)

    for_each : is_kept kept request.level ≡ false → (b : List ℕ)
        → cond {A = ℕ} (pointwise nat_eq request.joiner b) 1 0 + most_covering p (level_of node b) ≤ now b
    for_each fresh b =
        elim (cases_Bool (pointwise nat_eq request.joiner b)) [
          | inl same ↦
              let one : cond {A = ℕ} (pointwise nat_eq request.joiner b) 1 0 ≡ 1 = rw same refl in
              let more = subst (λ c. 1 + most_covering p (level_of node c) ≤ now c) ((bytes_eq-Decides request.joiner b).0 same)
              (for_joiner fresh) in
              omega (arith, one, more)
          | inr differs ↦
              let none : cond {A = ℕ} (pointwise nat_eq request.joiner b) 1 0 ≡ 0 = rw differs refl in
              let other : b ≢ request.joiner =
              λ same. true≢false (sym ((bytes_eq-Decides request.joiner b).1 (sym same)) ∙ differs) in
              let alike = ap (most_covering p) (others_keep node.covers t request.watch request.joiner request.prefix request.level b other) in
              omega (arith, none, alike)
        ]

    opens_so : (more : Bool) (r : Reaction) → is_kept kept request.level ≡ false
        → r.state.sessions.opened ≡ node.sessions.opened + cond {A = ℕ} more 1 0
        → r.state.covers ≡ with_cover node.covers request.joiner request.level → r.state.status ≡ node.status
        → Opens p node request.joiner r
    opens_so more r fresh opened covers status = record {
      more = more;
      opened = opened;
      few = λ b.
          let all = for_each fresh b in
          let less = fewer more (pointwise nat_eq request.joiner b) in
          let was = ap (λ (st : Status). most_opened p st node b) at in
          let is = ap (λ (st : Status). most_opened p st r.state b) (status ∙ at) in
          let same = ap (λ cs. most_covering p (level_kept cs b)) covers in
          omega (arith, all, less, was, is, same);
    }
      where
        fewer : (c d : Bool) → cond {A = ℕ} (c && d) 1 0 ≤ cond {A = ℕ} d 1 0
        fewer true d = omega arith
        fewer false true = omega arith
        fewer false false = omega arith

    abbrev told : List Message
    told =
        let cover = cover_of t kept request.joiner request.prefix request.level in
        greeting request (next_number pinning) (is_none kept) (offer t request.watch cover)
        ++ map (tell_for request (next_number pinning) (left t request.watch cover)) (targets t cover)

    spread_opens : (words : List Tie) → is_kept kept request.level ≡ false → (waiting : ℕ) (alone : Bool)
        → Opens p node request.joiner (with_words words (cond alone
        (sends (with_level pinning request) answers)
        (sends (with_session (with_level pinning request) request.parent request.depth waiting) told)))
    spread_opens words fresh waiting true =
        opens_so false (with_words words (sends (with_level pinning request) answers)) fresh (omega arith) refl refl
    spread_opens words fresh waiting false =
        opens_so true
        (with_words words (sends (with_session (with_level pinning request) request.parent request.depth waiting) told)) fresh refl refl refl

    covers_opens : (words : List Tie) (already : Bool) → is_kept kept request.level ≡ already
        → Opens p node request.joiner (with_words words (covers_as pinning request
        (cond already Already (begun_cover t request.watch (cover_of t kept request.joiner request.prefix request.level)))))
    covers_opens words true was =
        none_opens p node request.joiner (with_words words (sends pinning answers)) (keeps node _ refl refl refl (answer_plain request.parent))
        refl
    covers_opens words false fresh =
        let waiting = answers_awaited (is_none kept) (length (targets t (cover_of t kept request.joiner request.prefix request.level))) in
        spread_opens words fresh waiting (waiting == 0)

  pub pins_opens : Opens p node request.joiner (pins_and_covers node request)
  pins_opens =
      covers_opens (level_kept node.covers request.joiner) refl (words_of (pin_word node request.joiner))
      (is_kept (level_kept node.covers request.joiner) request.level) refl

-- a Seek, whose surrogate's prefix is within the digits
pub seeks_opens : (p : SettingsValue) (node : NodeState) (joiner : List ℕ) (found : Sought) → node.status ≡ Core
    → ((prefix : ℕ) → found ≡ Surrogate prefix → prefix ≤ p.digits) → Opens p node joiner (takes_seek_as node joiner found)
seeks_opens p node joiner (Forward next) at inside =
    none_opens p node joiner (takes_seek_as node joiner (Forward next)) (keeps node _ refl refl refl
    (All-cons (λ m. IsUngreeting m.body) (message next (Seek joiner)) [] tt (All-nil (λ m. IsUngreeting m.body)))) refl
seeks_opens p node joiner (Surrogate prefix) at inside =
    pins_opens p node (first_request node joiner prefix) at (inside prefix refl)

-- ---- the rule of a Tell at a joining node

module _ (p : SettingsValue) (node : NodeState) (from : List ℕ) (tell : TellFields) (at : node.status ≡ Joining) where
  abbrev met : Reaction
  met = with_words (words_of (pin_word node tell.joiner)) (welcomes (with_pin node tell.joiner) from tell)

  welcomed : has_name node.greeted tell.joiner ≡ false → Opens p node tell.joiner met
  welcomed new = record {
    more = true;
    opened = refl;
    few = λ b.
        let more = greeted_more node.greeted tell.joiner new b in
        let was = ap (λ (st : Status). most_opened p st node b) at in
        let is = ap (λ (st : Status). most_opened p st met.state b) at in
        omega (arith, more, was, is);
  }

  by_before : (before : Bool) → has_name node.greeted tell.joiner ≡ before
      → Opens p node tell.joiner (with_words (words_of (pin_word node tell.joiner)) (if before
      then sends (with_pin node tell.joiner) (message from (Ack tell.session) ∷ [])
      else welcomes (with_pin node tell.joiner) from tell))
  by_before true is =
      none_opens p node tell.joiner (with_words (words_of (pin_word node tell.joiner))
      (sends (with_pin node tell.joiner) (message from (Ack tell.session) ∷ []))) (keeps node _ refl refl refl
      (All-cons (λ m. IsUngreeting m.body) (message from (Ack tell.session)) [] tt (All-nil (λ m. IsUngreeting m.body)))) refl
  by_before false is = welcomed is

  pub meets_opens : Opens p node tell.joiner (takes_tell_joining node from tell)
  meets_opens = by_before (has_name node.greeted tell.joiner) refl
