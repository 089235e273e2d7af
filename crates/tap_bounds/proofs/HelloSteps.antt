-- How many Hellos a rule has a node send a joiner, beside those that its state allowed before.
use Rattle.std.proofs.Common.{◌≡◌, ◌≢◌, ◌⊎◌, ◌==◌, ℕ, nat_eq, ◌+◌, ◌≤◌, Bool, true, false, cond, if◌then◌else◌, List, [], ◌∷◌, ◌++◌, length, map, Option, None, Some, is_none, arith, ap, refl, sym, subst, ◌∙◌, inl, inr}
use Rattle.std.specs.Prelude.{count_by, ◌&&◌}
use Rattle.std.specs.Cmp.Lexicographic.{pointwise}
use Rattle.std.proofs.lemmas.Bool.{cases_Bool, true≢false}
use Rattle.std.proofs.lemmas.List.{map-append}
use Rattle.std.proofs.lemmas.List.Elements.{All-cons, All-head, All-map, All-nil, All-tail}
use Rattle.std.proofs.lemmas.Slice.Eq.{bytes_eq-Decides}
use Rattle.tap_name.specs.Names.{has_name}
use Rattle.tap_name.specs.declared.slot.Offered.{Offered}
use Rattle.tap_name.specs.declared.slot.Slot.{Slot}
use Rattle.tap_table.specs.Levels.{is_kept}
use Rattle.tap_table.specs.Table.{TableValue, pinned as table_pinned}
use Rattle.tap_table.specs.declared.tie.Tie.{Tie}
use Rattle.tap_multicast.specs.Covers.{begun_cover, cover_of, level_kept, with_cover}
use Rattle.tap_multicast.specs.Offer.{left, offer}
use Rattle.tap_multicast.specs.Targets.{targets}
use Rattle.tap_multicast.specs.declared.covers.Covered.TheVariants.{Already}
use Rattle.tap_multicast.specs.declared.target.Target.{Target}
use Rattle.tap_multicast.proofs.KeptLevels.{cover_anew, others_keep}
use Rattle.tap_join.specs.Hello.{words_of}
use Rattle.tap_wire.specs.declared.frame.Body.{Body}
use Rattle.tap_wire.specs.declared.frame.Body.TheVariants.{Ack}
use Rattle.tap_wire.specs.declared.frame.Frame.{Frame}
use Rattle.tap_wire.specs.declared.frame.TellFields.{TellFields}
use Rattle.tap_rule.specs.Answers.{answer_for, next_number, with_session}
use Rattle.tap_rule.specs.Covering.{Request, answers_awaited, covers_as, greeting, pins_and_covers, tell_for, with_level}
use Rattle.tap_rule.specs.Joining.{takes_tell_joining, welcomes}
use Rattle.tap_rule.specs.Node.{IsRunning, NodeState, Status, level_of, name_of}
use Rattle.tap_rule.specs.Node.Status.{Ceased, Core, Gone, Joining, Leaving}
use Rattle.tap_rule.specs.Reaction.{Message, Reaction, message, pin_word, sends, with_pin, with_words}
use Rattle.tap_rule.specs.Sending.{message_frame}
use Rattle.tap_rule.specs.Hellos.{core_hello, joining_hello}
use Rattle.tap_bounds.specs.Hellos.{if_covered, is_core_hello, is_joining_hello, most_as_core, most_as_joining, says_core, says_joining}
use Rattle.tap_bounds.proofs.Counting.{CountsMessages, count-append, count-cons}
use Rattle.tap_bounds.proofs.Greeted.{greeted_more}
use Rattle.tap_bounds.proofs.HelloRules.{AreUngreeting, IsUngreeting, Ungreeting, answer_plain, keeps}
use Rattle.tap_safety.proofs.Said.{Said, said_of}
use Rattle.tap_safety.proofs.Said.Said.{IsHello}

-- ---- tests

no_and : (a : Bool) → (a && false) ≡ false
no_and true = refl
no_and false = refl

pub core_tests : (x b : List ℕ) → CountsMessages (is_core_hello x b)
core_tests x b = record { links = λ own word. refl; lays = λ own l. refl }

pub joining_tests : (x b : List ℕ) → CountsMessages (is_joining_hello x b)
joining_tests x b = record { links = λ own word. refl; lays = λ own l. refl }

-- what a node sends isn't from another name
pub core_from : (own x b : List ℕ) → x ≢ own → (m : Message) → is_core_hello x b (message_frame own m) ≡ false
core_from own x b other m =
    elim (cases_Bool (pointwise nat_eq own x)) [
      | inl same ↦ absurd (other (sym ((bytes_eq-Decides own x).0 same)))
      | inr apart ↦ rw apart (no_and (says_core m.body))
    ]

pub joining_from : (own x b : List ℕ) → x ≢ own → (m : Message) → is_joining_hello x b (message_frame own m) ≡ false
joining_from own x b other m =
    elim (cases_Bool (pointwise nat_eq own x)) [
      | inl same ↦ absurd (other (sym ((bytes_eq-Decides own x).0 same)))
      | inr apart ↦ rw apart (no_and (says_joining m.body))
    ]

ungreeting_core : {body : Body} → Said body → IsUngreeting body → says_core body ≡ false
ungreeting_core (IsHello hello) is = absurd is
ungreeting_core _ is = refl

ungreeting_joining : {body : Body} → Said body → IsUngreeting body → says_joining body ≡ false
ungreeting_joining (IsHello hello) is = absurd is
ungreeting_joining _ is = refl

pub none_core : (own x b : List ℕ) (messages : List Message) → AreUngreeting messages
    → count_by (is_core_hello x b) (map (message_frame own) messages) ≡ 0
none_core own x b [] all = refl
none_core own x b (m ∷ messages) all =
    let here = ungreeting_core (said_of m.body) (All-head (λ n. IsUngreeting n.body) m messages all) in
    let first : cond {A = ℕ} (is_core_hello x b (message_frame own m)) 1 0 ≡ 0 = rw here refl in
    let others = none_core own x b messages (All-tail (λ n. IsUngreeting n.body) m messages all) in
    let both = count-cons (is_core_hello x b) (message_frame own m) (map (message_frame own) messages) in
    omega (arith, first, others, both)

pub none_joining : (own x b : List ℕ) (messages : List Message) → AreUngreeting messages
    → count_by (is_joining_hello x b) (map (message_frame own) messages) ≡ 0
none_joining own x b [] all = refl
none_joining own x b (m ∷ messages) all =
    let here = ungreeting_joining (said_of m.body) (All-head (λ n. IsUngreeting n.body) m messages all) in
    let first : cond {A = ℕ} (is_joining_hello x b (message_frame own m)) 1 0 ≡ 0 = rw here refl in
    let others = none_joining own x b messages (All-tail (λ n. IsUngreeting n.body) m messages all) in
    let both = count-cons (is_joining_hello x b) (message_frame own m) (map (message_frame own) messages) in
    omega (arith, first, others, both)

-- ---- what a state allows

covered_once : (kept : Option ℕ) → if_covered kept ≤ 1
covered_once None = omega arith
covered_once (Some level) = omega arith

pub core_most : (status : Status) (node : NodeState) (b : List ℕ) → most_as_core status node b ≤ 1
core_most Joining node b = covered_once (level_of node b)
core_most Core node b = covered_once (level_of node b)
core_most Leaving node b = covered_once (level_of node b)
core_most Gone node b = omega arith
core_most Ceased node b = omega arith

core_running : (status : Status) (node : NodeState) (b : List ℕ) → IsRunning status → most_as_core status node b ≡ if_covered (level_of node b)
core_running Joining node b runs = refl
core_running Core node b runs = refl
core_running Leaving node b runs = refl
core_running Gone node b runs = absurd runs
core_running Ceased node b runs = absurd runs

core_over : (status : Status) (node : NodeState) (b : List ℕ) → (IsRunning status → ⊥) → most_as_core status node b ≡ 1
core_over Joining node b over = absurd (over tt)
core_over Core node b over = absurd (over tt)
core_over Leaving node b over = absurd (over tt)
core_over Gone node b over = refl
core_over Ceased node b over = refl

one_or_none : (test : Bool) → cond {A = ℕ} test 1 0 ≤ 1
one_or_none true = omega arith
one_or_none false = omega arith

pub joining_most : (status : Status) (node : NodeState) (b : List ℕ) → most_as_joining status node b ≤ 1
joining_most Joining node b = one_or_none (has_name node.greeted b)
joining_most Core node b = omega arith
joining_most Leaving node b = omega arith
joining_most Gone node b = omega arith
joining_most Ceased node b = omega arith

joining_other : (status : Status) (node : NodeState) (b : List ℕ) → (status ≡ Joining → ⊥) → most_as_joining status node b ≡ 1
joining_other Joining node b other = absurd (other refl)
joining_other Core node b other = refl
joining_other Leaving node b other = refl
joining_other Gone node b other = refl
joining_other Ceased node b other = refl

runs_or_not : (status : Status) → IsRunning status ⊎ (IsRunning status → ⊥)
runs_or_not Joining = inl tt
runs_or_not Core = inl tt
runs_or_not Leaving = inl tt
runs_or_not Gone = inr (λ runs. runs)
runs_or_not Ceased = inr (λ runs. runs)

joins_or_not : (status : Status) → (status ≡ Joining) ⊎ (status ≡ Joining → ⊥)
joins_or_not Joining = inl refl
joins_or_not Core = inr (λ is. cc)
joins_or_not Leaving = inr (λ is. cc)
joins_or_not Gone = inr (λ is. cc)
joins_or_not Ceased = inr (λ is. cc)

-- ---- a rule

-- what is sent, with what the state allowed before, is at most what it allows afterwards
pub record Greets (node : NodeState) (r : Reaction) : Type 0 where
  pub core : (b : List ℕ) → count_by (is_core_hello (name_of node) b) (map (message_frame (name_of node)) r.messages)
      + most_as_core node.status node b ≤ most_as_core r.state.status r.state b
  pub joining : (b : List ℕ) → count_by (is_joining_hello (name_of node) b) (map (message_frame (name_of node)) r.messages)
      + most_as_joining node.status node b ≤ most_as_joining r.state.status r.state b

-- covers that stay allow as many
same_core : (node after : NodeState) (b : List ℕ) → (after.covers ≡ node.covers) ⊎ (IsRunning after.status → ⊥)
    → (IsRunning after.status → IsRunning node.status) → most_as_core node.status node b ≤ most_as_core after.status after b
same_core node after b covers runs =
    elim (runs_or_not after.status) [
      | inl running ↦ elim covers [
        | inl same ↦
            let one = core_running after.status after b running in
            let two = core_running node.status node b (runs running) in
            let alike : if_covered (level_of after b) ≡ if_covered (level_of node b) = ap (λ cs. if_covered (level_kept cs b)) same in
            omega (arith, one, two, alike)
        | inr over ↦ absurd (over running)
      ]
      | inr over ↦
          let one = core_over after.status after b over in
          let most = core_most node.status node b in
          omega (arith, one, most)
    ]

same_joining : (node after : NodeState) (b : List ℕ)
    → (after.status ≡ Joining → (node.status ≡ Joining) × (has_name node.greeted b ≡ true → has_name after.greeted b ≡ true))
    → most_as_joining node.status node b ≤ most_as_joining after.status after b
same_joining node after b greeted =
    elim (joins_or_not after.status) [
      | inl joins ↦ let both = greeted joins in rw (joins, both.0) (by (has_name node.greeted b) refl both.1)
      | inr other ↦
          let one = joining_other after.status after b other in
          let most = joining_most node.status node b in
          omega (arith, one, most)
    ]
  where
    by : (was : Bool) → has_name node.greeted b ≡ was → (has_name node.greeted b ≡ true → has_name after.greeted b ≡ true)
        → cond {A = ℕ} (has_name node.greeted b) 1 0 ≤ cond {A = ℕ} (has_name after.greeted b) 1 0
    by true is stays = let now = stays is in rw (is, now) (omega arith)
    by false is stays = rw is (omega arith)

pub ungreeting_greets : (node : NodeState) (r : Reaction) → Ungreeting node r → Greets node r
ungreeting_greets node r is = record {
  core = λ b.
      let none = none_core (name_of node) (name_of node) b r.messages is.messages in
      let less = same_core node r.state b is.covers is.runs in
      omega (arith, none, less);
  joining = λ b.
      let none = none_joining (name_of node) (name_of node) b r.messages is.messages in
      let less = same_joining node r.state b (λ joins.
      let both = is.greeted joins in (both.0, λ has. ap (λ names. has_name names b) both.1 ∙ has)) in
      omega (arith, none, less);
}

-- ---- the rule of a cover

both_and : (c d : Bool) → cond {A = ℕ} (c && d) 1 0 ≤ cond {A = ℕ} d 1 0
both_and true true = omega arith
both_and true false = omega arith
both_and false true = omega arith
both_and false false = omega arith

-- one for the joiner, if the cover is its first
abbrev pub first_one : Option ℕ → Bool → ℕ
first_one None test = cond test 1 0
first_one (Some level) test = 0

module _ (node : NodeState) (request : Request) (at : node.status ≡ Core) where
  abbrev own : List ℕ
  own = name_of node

  abbrev t : TableValue
  t = table_pinned node.ties.table request.joiner

  abbrev pinning : NodeState
  pinning = with_pin node request.joiner

  module _ (kept : Option ℕ) (kept_is : level_kept node.covers request.joiner ≡ kept) (fresh : is_kept kept request.level ≡ false)
      (r : Reaction) (covers : r.state.covers ≡ with_cover node.covers request.joiner request.level)
      (status : r.state.status ≡ node.status) where
    abbrev core_count : List ℕ → ℕ
    core_count b = count_by (is_core_hello own b) (map (message_frame own) r.messages)

    abbrev joining_count : List ℕ → ℕ
    joining_count b = count_by (is_joining_hello own b) (map (message_frame own) r.messages)

    greets_so : ((b : List ℕ) → core_count b ≤ first_one kept (pointwise nat_eq request.joiner b))
        → ((b : List ℕ) → joining_count b ≤ 0) → Greets node r
    greets_so few none = record {
      core = λ b.
          let one = core_running node.status node b (subst IsRunning (sym at) tt) in
          let two = core_running r.state.status r.state b (subst IsRunning (sym (status ∙ at)) tt) in
          let more = covered_more b in
          omega (arith, one, two, more);
      joining = λ b.
          let zero = none b in
          let one = joining_other r.state.status r.state b (λ is. core_is_not (sym (status ∙ at) ∙ is)) in
          let most = joining_most node.status node b in
          omega (arith, zero, one, most);
    }
      where
        core_is_not : Core ≡ Joining → ⊥
        core_is_not is = cc

        of_joiner : (k : Option ℕ) → core_count request.joiner ≤ first_one k (pointwise nat_eq request.joiner request.joiner)
            → core_count request.joiner + if_covered k ≤ 1
        of_joiner None few_now =
            let most = one_or_none (pointwise nat_eq request.joiner request.joiner) in omega (arith, few_now, most)
        of_joiner (Some before) few_now = omega (arith, few_now)

        of_other : (k : Option ℕ) (b : List ℕ) → pointwise nat_eq request.joiner b ≡ false
            → core_count b ≤ first_one k (pointwise nat_eq request.joiner b) → core_count b ≤ 0
        of_other None b differs few_now =
            let zero : cond {A = ℕ} (pointwise nat_eq request.joiner b) 1 0 ≡ 0 = rw differs refl in omega (arith, few_now, zero)
        of_other (Some before) b differs few_now = few_now

        covered_more : (b : List ℕ) → core_count b + if_covered (level_of node b) ≤ if_covered (level_of r.state b)
        covered_more b =
            elim (cases_Bool (pointwise nat_eq request.joiner b)) [
              | inl same ↦
                  subst (λ c. core_count c + if_covered (level_of node c) ≤ if_covered (level_of r.state c))
                  ((bytes_eq-Decides request.joiner b).0 same) joiner_more
              | inr differs ↦
                  let zero = of_other kept b differs (few b) in
                  let other : b ≢ request.joiner =
                  λ same. true≢false (sym ((bytes_eq-Decides request.joiner b).1 (sym same)) ∙ differs) in
                  let after : if_covered (level_of r.state b) ≡ if_covered (level_of node b) =
                  ap (λ cs. if_covered (level_kept cs b)) covers
                  ∙ ap if_covered (others_keep node.covers t request.watch request.joiner request.prefix request.level b other) in
                  omega (arith, zero, after)
            ]
          where
            joiner_more : core_count request.joiner + if_covered (level_of node request.joiner)
                ≤ if_covered (level_of r.state request.joiner)
            joiner_more =
                let all = of_joiner kept (few request.joiner) in
                let before : if_covered (level_of node request.joiner) ≡ if_covered kept = ap if_covered kept_is in
                let level = (cover_anew node.covers t request.watch request.joiner request.prefix request.level
                (ap (λ k. is_kept k request.level) kept_is ∙ fresh)).1 in
                let after : if_covered (level_of r.state request.joiner) ≡ 1 =
                ap (λ cs. if_covered (level_kept cs request.joiner)) covers ∙ ap if_covered level in
                omega (arith, all, before, after)

  abbrev answers : List Message
  answers = answer_for request.parent ∷ []

  module _ (kept : Option ℕ) (kept_is : level_kept node.covers request.joiner ≡ kept) where
    abbrev told : List Target
    told = targets t (cover_of t kept request.joiner request.prefix request.level)

    abbrev rest : List Slot
    rest = left t request.watch (cover_of t kept request.joiner request.prefix request.level)

    abbrev tells : List Message
    tells = map (tell_for request (next_number pinning) rest) told

    abbrev offered : List Offered
    offered = offer t request.watch (cover_of t kept request.joiner request.prefix request.level)

    abbrev greets : List Message
    greets = greeting request (next_number pinning) (is_none kept) offered

    tells_plain : AreUngreeting tells
    tells_plain =
        All-map (λ m. IsUngreeting m.body) (tell_for request (next_number pinning) rest) told
        (λ k d within. tt)

    greets_core : (k : Option ℕ) (b : List ℕ)
        → count_by (is_core_hello own b) (map (message_frame own) (greeting request (next_number pinning) (is_none k) offered))
        ≤ first_one k (pointwise nat_eq request.joiner b)
    greets_core None b =
        let one = count-cons (is_core_hello own b)
        (message_frame own (message request.joiner (core_hello (next_number pinning) offered))) [] in
        let less = both_and (pointwise nat_eq own own) (pointwise nat_eq request.joiner b) in
        omega (arith, one, less)
    greets_core (Some before) b = omega arith

    greets_joining : (k : Option ℕ) (b : List ℕ)
        → count_by (is_joining_hello own b) (map (message_frame own) (greeting request (next_number pinning) (is_none k) offered)) ≤ 0
    greets_joining None b =
        let one = count-cons (is_joining_hello own b)
        (message_frame own (message request.joiner (core_hello (next_number pinning) offered))) [] in
        omega (arith, one)
    greets_joining (Some before) b = omega arith

    core_in_all : (b : List ℕ) → count_by (is_core_hello own b) (map (message_frame own) (greets ++ tells))
        ≤ first_one kept (pointwise nat_eq request.joiner b)
    core_in_all b =
        let none = none_core own own b tells tells_plain in
        let some = greets_core kept b in
        let parts = ap (count_by (is_core_hello own b)) (map-append (message_frame own) greets tells) in
        let both = count-append (is_core_hello own b) (map (message_frame own) greets) (map (message_frame own) tells) in
        omega (arith, none, some, parts, both)

    joining_in_all : (b : List ℕ) → count_by (is_joining_hello own b) (map (message_frame own) (greets ++ tells)) ≤ 0
    joining_in_all b =
        let none = none_joining own own b tells tells_plain in
        let some = greets_joining kept b in
        let parts = ap (count_by (is_joining_hello own b)) (map-append (message_frame own) greets tells) in
        let both = count-append (is_joining_hello own b) (map (message_frame own) greets) (map (message_frame own) tells) in
        omega (arith, none, some, parts, both)

    spread_greets : (words : List Tie) → is_kept kept request.level ≡ false → (waiting : ℕ) (alone : Bool)
        → Greets node (with_words words (cond alone
        (sends (with_level pinning request) answers)
        (sends (with_session (with_level pinning request) request.parent request.depth waiting) (greets ++ tells))))
    spread_greets words fresh waiting true =
        greets_so kept kept_is fresh (with_words words (sends (with_level pinning request) answers)) refl refl
        (λ b. let none = none_core own own b answers (answer_plain request.parent) in omega (arith, none))
        (λ b. let none = none_joining own own b answers (answer_plain request.parent) in omega (arith, none))
    spread_greets words fresh waiting false =
        greets_so kept kept_is fresh
        (with_words words (sends (with_session (with_level pinning request) request.parent request.depth waiting) (greets ++ tells)))
        refl refl core_in_all joining_in_all

    covers_greet : (words : List Tie) (already : Bool) → is_kept kept request.level ≡ already
        → Greets node (with_words words (covers_as pinning request
        (cond already Already (begun_cover t request.watch (cover_of t kept request.joiner request.prefix request.level)))))
    covers_greet words true was =
        ungreeting_greets node (with_words words (sends pinning answers)) (keeps node _ refl refl refl (answer_plain request.parent))
    covers_greet words false fresh =
        let waiting = answers_awaited (is_none kept) (length told) in spread_greets words fresh waiting (waiting == 0)

  pub pins_greet : Greets node (pins_and_covers node request)
  pins_greet =
      covers_greet (level_kept node.covers request.joiner) refl (words_of (pin_word node request.joiner))
      (is_kept (level_kept node.covers request.joiner) request.level) refl

-- ---- the rule of a Tell at a joining node

module _ (node : NodeState) (from : List ℕ) (tell : TellFields) (at : node.status ≡ Joining) where
  abbrev met : Reaction
  met = with_words (words_of (pin_word node tell.joiner)) (welcomes (with_pin node tell.joiner) from tell)

  abbrev welcome : Frame
  welcome = message_frame (name_of node) (message tell.joiner (joining_hello (next_number (with_pin node tell.joiner))))

  welcomed : has_name node.greeted tell.joiner ≡ false → Greets node met
  welcomed new = record {
    core = λ b.
        let one = count-cons (is_core_hello (name_of node) b) welcome [] in
        let less = same_core node met.state b (inl refl) (λ runs. runs) in
        omega (arith, one, less);
    joining = λ b.
        let one = count-cons (is_joining_hello (name_of node) b) welcome [] in
        let less = both_and (pointwise nat_eq (name_of node) (name_of node)) (pointwise nat_eq tell.joiner b) in
        let more = greeted_more node.greeted tell.joiner new b in
        let was : most_as_joining node.status node b ≡ cond {A = ℕ} (has_name node.greeted b) 1 0 = rw at refl in
        let now : most_as_joining met.state.status met.state b ≡ cond {A = ℕ} (has_name (node.greeted ++ tell.joiner ∷ []) b) 1 0 =
        rw at refl in
        omega (arith, one, less, more, was, now);
  }

  by_before : (before : Bool) → has_name node.greeted tell.joiner ≡ before
      → Greets node (with_words (words_of (pin_word node tell.joiner)) (if before
      then sends (with_pin node tell.joiner) (message from (Ack tell.session) ∷ [])
      else welcomes (with_pin node tell.joiner) from tell))
  by_before true is =
      ungreeting_greets node _ (keeps node (with_words (words_of (pin_word node tell.joiner))
      (sends (with_pin node tell.joiner) (message from (Ack tell.session) ∷ []))) refl refl refl
      (All-cons (λ m. IsUngreeting m.body) (message from (Ack tell.session)) [] tt (All-nil (λ m. IsUngreeting m.body))))
  by_before false is = welcomed is

  pub meets_greet : Greets node (takes_tell_joining node from tell)
  meets_greet = by_before (has_name node.greeted tell.joiner) refl
