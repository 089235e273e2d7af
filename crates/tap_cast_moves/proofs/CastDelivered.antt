-- A Cast that is delivered keeps all that is said of casts.
use Rattle.std.proofs.Common.{◌≡◌, ◌⊎◌, ℕ, ◌+◌, ◌<◌, ◌≤◌, Bool, true, false, List, [], ◌∷◌, Option, None, Some, arith, refl, sym, ap, subst, ◌∙◌, inl, inr}
use Rattle.std.specs.Option.{is_none}
use Rattle.std.proofs.lemmas.Bool.{cases_Bool, cases_eq, cases_lt, le-leb, true≢false}
use Rattle.tap_name.specs.Prefix.{lcp}
use Rattle.tap_name.specs.Settings.{SettingsValue}
use Rattle.tap_name.proofs.Prefixes.{lcp-whole}
use Rattle.tap_session.specs.declared.parent.Parent.TheVariants.{Node}
use Rattle.tap_table.specs.Levels.{is_kept, sent_from}
use Rattle.tap_table.specs.Table.{IsTable}
use Rattle.tap_cast.specs.declared.casts.CastTurn.{CastTurn}
use Rattle.tap_cast.specs.declared.casts.CastTurn.TheVariants.{Already, Now}
use Rattle.tap_cast.specs.declared.target.CastTarget.{CastTarget}
use Rattle.tap_cast.specs.Casts.{level_of_cast, turn_of, with_cast}
use Rattle.tap_cast.specs.Targets.{cast_targets, told_at}
use Rattle.tap_cast.proofs.Casting.{IsTarget, targets_are}
use Rattle.tap_cast.proofs.KeptLevels.{cast_again, cast_anew, kept_exactly, others_keep}
use Rattle.tap_wire.specs.declared.frame.Body.{Body}
use Rattle.tap_wire.specs.declared.frame.Body.TheVariants.{Cast}
use Rattle.tap_wire.specs.declared.frame.Frame.{Frame}
use Rattle.tap_rule.specs.Casts.{Copy, cast_for, cast_news, casts_as, takes_cast_outside}
use Rattle.tap_rule.specs.Event.{Acted}
use Rattle.tap_rule.specs.FrameRules.{frame_at_ceased, frame_at_core, frame_at_joining, rule_of_frame}
use Rattle.tap_rule.specs.RuleLaws.{IsCarriedOut, frame_to}
use Rattle.tap_rule.specs.Node.{NodeState, Status, name_of}
use Rattle.tap_rule.specs.Node.Status.{Ceased, Core, Gone, Joining, Leaving}
use Rattle.tap_rule.specs.Reaction.{Reaction}
use Rattle.tap_rule.specs.Sent.{IsAmong}
use Rattle.tap_rule.proofs.Among.{among-map}
use Rattle.tap_rule.proofs.CarriedOut.{frame_law}
use Rattle.tap_safety.specs.Parts.{HoleFree}
use Rattle.tap_safety.specs.Remembered.{Leaver}
use Rattle.tap_safety.specs.Exchanges.{ChangesAt}
use Rattle.tap_safety.specs.System.{System, AmongFrames, IsCoreNode}
use Rattle.tap_safety.proofs.UnderWay.{among_numbered}
use Rattle.tap_moves.specs.ByRule.{taken_at}
use Rattle.tap_moves.specs.InvariantLaws.{IsDelivery}
use Rattle.tap_moves.proofs.Got.{among_all}
use Rattle.tap_moves.proofs.InvariantMoves.{core_name}
use Rattle.tap_cast_moves.specs.Audience.{CastsAreSound}
use Rattle.tap_cast_moves.specs.Cover.{IsCastDue, IsCastServed}
use Rattle.tap_cast_moves.specs.KeptCasts.{IsKeptCast}
use Rattle.tap_cast_moves.specs.News.{NewsAreTrue}
use Rattle.tap_cast_moves.specs.Recalled.{is_core_status}
use Rattle.tap_cast_moves.specs.Remembered.{CastMemory, CastRun}
use Rattle.tap_cast_moves.specs.CastSessions.{IsCastWay, takes_casts}
use Rattle.tap_cast_moves.proofs.AsideKept.{core_node, core_status}
use Rattle.tap_cast_moves.proofs.AsideMade.{frames_swap}
use Rattle.tap_cast_moves.proofs.CastKept.{CastMove, IsTakenFor, moved_both}
use Rattle.tap_cast_moves.proofs.CastMade.{later, node_changes, recall}
use Rattle.tap_cast_moves.proofs.CastSent.{IsAnswer}
use Rattle.tap_cast_moves.proofs.CastTaken.{answered_sessions, becomes, cast_parts, cast_way, nothing_true, spread_sessions}
use Rattle.tap_cast_moves.proofs.Noted.{HasBecome, RunBecomes, RunsBecome}
use Rattle.tap_cast_moves.proofs.CastsQuiet.{casts_quiet}
use Rattle.tap_cast_moves.proofs.Targets.{TakesCasts, sent_on, target_takes}

none_if : (kept : Option ℕ) → is_none kept ≡ true → kept ≡ None
none_if None is = refl
none_if (Some k) wrong = absurd (true≢false (sym wrong))

-- a core node stays core, if the one node that changes keeps its status
pub core_stays : (s s' : System) (x : List ℕ) (before after : NodeState) → ChangesAt s s' x before after → after.status ≡ before.status
    → (y : List ℕ) → IsCoreNode s y → IsCoreNode s' y
core_stays s s' x before after at same y core =
    elim (at.others y) [
      | inl here ↦
          let was = at.was in
          let mine : s.node x ≡ Some core.state = ap s.node (sym here) ∙ core.is in
          let one : before ≡ core.state = cc in
          core_node s' y after (ap s'.node here ∙ at.is)
          (ap is_core_status same ∙ ap (λ (n : NodeState). is_core_status n.status) one ∙ core_status s y core)
      | inr other ↦ core_node s' y core.state (other ∙ core.is) (core_status s y core)
    ]

-- a Cast that is due is due still
pub due_still : (s s' : System) (d : ℕ) (e : List ℕ) (above : ℕ) → (due : IsCastDue s d e above)
    → AmongFrames due.way.number (record { from = due.from; to = due.to; body = Cast d due.level due.session due.depth due.word }) s'.frames
    → IsCoreNode s' due.to → IsCastDue s' d e above
due_still s s' d e above due among core = record {
  from = due.from;
  to = due.to;
  level = due.level;
  session = due.session;
  depth = due.depth;
  word = due.word;
  way = record { number = due.way.number; among = among };
  core = core;
  higher = due.higher;
  shared = due.shared;
}

module _ (p : SettingsValue) (s : System) (r : CastMemory) (number : ℕ) (node : NodeState) (from : List ℕ)
    (cast level session depth : ℕ) (word : List ℕ) (is : IsDelivery p s number node from (Cast cast level session depth word))
    (free : HoleFree p s) (sound : CastsAreSound p s r) where
  abbrev body : Body
  body = Cast cast level session depth word

  abbrev own : List ℕ
  own = name_of node

  abbrev s' : System
  s' = later p s r number node from body is

  abbrev r' : CastMemory
  r' = recall p s r number node from body is

  abbrev acted : Acted
  acted = taken_at node from body

  -- what is said of casts is kept, and its news are true
  abbrev pub KeepsAndTells : Type 0
  KeepsAndTells = CastsAreSound p s' r' × NewsAreTrue s r r' own acted.news

  abbrev copy : Copy
  copy = record { cast = cast; level = level; parent = Node from session; depth = depth; word = word }

  way : IsCastWay p s r from own cast level depth
  way = cast_way p s r number node from cast level session depth word is sound.sessions

  at : ChangesAt s s' own node acted.state
  at = node_changes p s r number node from body is

  -- nobody departs
  peace : s.departing ≡ None
  peace = by s.departing refl
    where
      by : (departing : Option Leaver) → s.departing ≡ departing → s.departing ≡ None
      by None none = none
      by (Some leaver) departs =
          let quiet = (casts_quiet p s r is.invariant sound.sessions).ways leaver departs in
          absurd (quiet.casts from own cast level session depth word (record { number = number; among = is.among }))

  -- ---- Casts on their way

  module _ (status : acted.state.status ≡ node.status) where
    due_on : (d : ℕ) (e : List ℕ) (above : ℕ) → IsCastDue s d e above → IsCastDue s' d e above ⊎ IsTakenFor s own cast level true d e above
    due_on d e above due =
        let f : Frame = record { from = due.from; to = due.to; body = Cast d due.level due.session due.depth due.word } in
        let swap = frames_swap p s r number node from body is in
        elim (swap.still due.way.number f due.way.among) [
          | inr on ↦ inl (due_still s s' d e above due on (core_stays s s' own node acted.state at status due.to due.core))
          | inl same ↦
              let one = swap.was_one due.way.number f (frame_to node from body) due.way.among
              (subst (λ n. AmongFrames n (frame_to node from body) s.frames) (sym same) swap.taken) in
              let to_is : due.to ≡ own = ap (λ (g : Frame). g.to) one in
              let parts = cast_parts d cast due.level level due.session session due.depth depth due.word word (ap (λ (g : Frame). g.body) one)
              in
              let level_is = parts.1 in
              let higher = due.higher in
              inr (record {
                is_taken = refl;
                it = parts.0;
                core = subst (IsCoreNode s) to_is due.core;
                higher = omega (arith, higher, level_is);
                shared = elim due.shared [
                  | inl mine ↦ inl (sym to_is ∙ mine)
                  | inr shares ↦ inr (subst (λ z. level ≤ lcp z e) to_is (subst (λ l. l ≤ lcp due.to e) level_is shares))
                ];
              })
        ]

  one_run : (d : ℕ) (one other : CastRun) → r'.cast d ≡ Some one → r'.cast d ≡ Some other → one ≡ other
  one_run d one other is_one is_other = cc

  on_run : (first closed : Bool) → RunsBecome r r' own cast first closed → (d : ℕ) (run : CastRun) → r.cast d ≡ Some run
      → (now : CastRun) × (r'.cast d ≡ Some now) × RunBecomes own cast first closed d run now
  on_run first closed become d run there = let will = become.on d run there in (will.now, will.is, will.becomes)

  -- ---- it is answered, and nothing else changes

  module _ (rule : Reaction) (carried : IsCarriedOut node rule acted) (news : rule.news ≡ cast_news cast false false)
      (status : rule.state.status ≡ node.status) (casts : rule.state.casts ≡ node.casts)
      (answer : IsAnswer rule.messages from session) (sessions : rule.state.cast_sessions ≡ node.cast_sessions)
      (numbers : rule.state.cast_numbers ≡ node.cast_numbers)
      (knows : IsCoreNode s own → (kept : ℕ) × (level_of_cast node.casts cast ≡ Some kept) × (kept ≤ level)) where
    become : RunsBecome r r' own cast false false
    become = becomes p s r number node from cast level session depth word is sound.sessions rule carried false news

    -- what it keeps serves whom the Cast would have served
    serves : IsCoreNode s own → (e : List ℕ) (now : CastRun) → r'.cast cast ≡ Some now → now.audience e ≡ true → (own ≡ e → ⊥)
        → level ≤ lcp own e → IsCastServed s' cast now e (lcp own e)
    serves core e now started of apart reach =
        let kept = knows core in
        let found = become.was cast now started in
        let low = kept.2 in
        elim (sound.cover.served own e cast kept.0 found.run (record {
          state = node;
          is = is.at;
          keeps = kept.1;
          started = found.was;
          audience = subst (λ (a : List ℕ → Bool). a e ≡ true) found.becomes.audience of;
          apart = apart;
          reach = omega (arith, low, reach);
        })) [
          | inl reached ↦ inl (found.becomes.reached_on e reached)
          | inr due ↦ elim (due_on (carried.status ∙ status) cast e (lcp own e) due) [
            | inl still ↦ inr still
            | inr taken ↦ let higher = taken.higher in absurd (omega (arith, higher, reach))
          ]
        ]

    answered_move : CastMove p s s' r r' own cast level true false false false node acted.state acted.news
    answered_move = record {
      at = at;
      news_is = carried.news ∙ news;
      unkept_first = λ wrong. nothing_true wrong;
      still_open = λ wrong. nothing_true wrong;
      now_started = let will = become.on cast way.run way.started in (will.now, will.is);
      first_reaches = λ wrong. nothing_true wrong;
      now_closes = λ wrong. nothing_true wrong;
      keeps = record {
        status = carried.status ∙ status;
        levels = λ d. inl (ap (λ cs. level_of_cast cs d) (carried.casts ∙ casts));
        below = λ wrong. nothing_true wrong;
      };
      core = λ either. elim either [ inl wrong ↦ nothing_true wrong | inr wrong ↦ nothing_true wrong ];
      was = λ d now there. inl (become.was d now there);
      now_kept = λ wrong. nothing_true wrong;
      anew_is = λ wrong. nothing_true wrong;
      first_kept = λ wrong. nothing_true wrong;
      on_run = on_run false false become;
      caster_now = λ wrong. nothing_true wrong;
      due_on = due_on (carried.status ∙ status);
      reached_own = λ takes core now started.
          let kept = knows core in
          let found = become.was cast now started in
          let has = sound.kept.kept own node cast kept.0 is.at kept.1 in
          let there = has.started in
          let was = found.was in
          let same : has.run ≡ found.run = cc in
          found.becomes.reached_on own (subst (λ (run : CastRun). run.reached own ≡ true) same has.reached);
      own_serves = λ either. serves;
    }

    pub answered_sound : KeepsAndTells
    answered_sound =
        moved_both p s s' r r' own cast level true false false false node acted.state acted.news answered_move sound
        (answered_sessions p s r number node from cast level session depth word is sound.sessions rule carried false news status answer
        sessions numbers)

  -- ---- it is sent on, at a core node that keeps no level of at most its own

  module _ (core_is : node.status ≡ Core) (kept : Option ℕ) (kept_is : level_of_cast node.casts cast ≡ kept)
      (fresh : is_kept kept level ≡ false) where
    abbrev to : ℕ
    to = sent_from node.ties.table.settings.digits kept

    abbrev all_targets : List CastTarget
    all_targets = cast_targets node.ties.table level to

    abbrev next : ℕ
    next = node.cast_sessions.opened + 1

    valid : IsTable node.ties.table
    valid = (is.nodes.nodes own node is.at).is_node.ties.table

    digits_are : node.ties.table.settings.digits ≡ p.digits
    digits_are = ap (λ (q : SettingsValue). q.digits) (is.nodes.nodes own node is.at).settings

    own_core : IsCoreNode s own
    own_core = core_node s own node is.at (ap is_core_status core_is)

    -- the level that was kept is above
    below : (k : ℕ) → level_of_cast node.casts cast ≡ Some k → level < k
    below k there = by k (sym kept_is ∙ there) (cases_lt level k)
      where
        by : (k : ℕ) → kept ≡ Some k → (level < k) ⊎ (k ≤ level) → level < k
        by k same (inl less) = less
        by k same (inr most) =
            let test : is_kept kept level ≡ true = rw same (le-leb k level most) in absurd (true≢false (sym test ∙ fresh))

    within : to ≤ p.digits
    within = by kept kept_is
      where
        by : (k : Option ℕ) → level_of_cast node.casts cast ≡ k → sent_from node.ties.table.settings.digits k ≤ p.digits
        by None none = omega (arith, digits_are)
        by (Some k) there = (sound.kept.kept own node cast k is.at there).within

    are_targets : (target : CastTarget) → IsAmong target all_targets → IsTarget node.ties.table level to target × TakesCasts s target.to
    are_targets target among =
        let each = among_all (IsTarget node.ties.table level to) all_targets (targets_are node.ties.table valid level to) target among in
        (each, target_takes p s node is.invariant peace valid is.at level to target each)

    module _ (rule : Reaction) (carried : IsCarriedOut node rule acted) (news : rule.news ≡ cast_news cast (is_none kept) false)
        (status : rule.state.status ≡ node.status) (casts : rule.state.casts ≡ with_cast node.casts cast level)
        (sends : (target : CastTarget) → IsAmong target all_targets → IsAmong (cast_for copy next target) rule.messages) where
      now_become : RunsBecome r r' own cast (is_none kept) false
      now_become = becomes p s r number node from cast level session depth word is sound.sessions rule carried (is_none kept) news

      status_is : acted.state.status ≡ node.status
      status_is = carried.status ∙ status

      -- the copy for a target is on its way
      copy_sent : (target : CastTarget) → IsAmong target all_targets
          → (m : ℕ) × AmongFrames m (record { from = own; to = target.to; body = Cast cast target.level next (depth + 1) word }) s'.frames
      copy_sent target among =
          let there = carried.sent.named (cast_for copy next target) (sends target among) in
          let numbered = among_numbered s.next acted.sent own target.to (Cast cast target.level next (depth + 1) word) there in (
            numbered.0,
            (frames_swap p s r number node from body is).sends numbered.0
                (record { from = own; to = target.to; body = Cast cast target.level next (depth + 1) word }) numbered.1,
          )

      kept_now : IsKeptCast p r' own cast level
      kept_now =
          let will = now_become.on cast way.run way.started in
          let same_level = will.becomes.level in
          let from_is = way.from in
          let begins = way.begins in
          record {
            run = will.now;
            started = will.is;
            reached = by will.now will.becomes kept kept_is;
            from = omega (arith, same_level, from_is);
            within = way.within;
            begins = subst (λ z. will.now.level ≤ lcp z own) (sym will.becomes.caster) (omega (arith, same_level, begins));
          }
        where
          by : (now : CastRun) → RunBecomes own cast (is_none kept) false cast way.run now → (k : Option ℕ) → level_of_cast node.casts cast ≡ k
              → now.reached own ≡ true
          by now become None none =
              become.reached_new (ap is_none (sym kept_is ∙ none)) refl
          by now become (Some k) there =
              let has = sound.kept.kept own node cast k is.at there in
              let one = has.started in
              let other = way.started in
              let same : has.run ≡ way.run = cc in
              become.reached_on own (subst (λ (run : CastRun). run.reached own ≡ true) same has.reached)

      level_now : level_of_cast acted.state.casts cast ≡ Some level
      level_now =
          ap (λ cs. level_of_cast cs cast) (carried.casts ∙ casts)
          ∙ (cast_anew node.casts node.ties.table cast level (ap (λ k. is_kept k level) kept_is ∙ fresh)).1

      levels : (d : ℕ) → (level_of_cast acted.state.casts d ≡ level_of_cast node.casts d)
          ⊎ ((d ≡ cast) × (true ≡ true) × (level_of_cast acted.state.casts cast ≡ Some level))
      levels d = elim (cases_eq d cast) [
        | inl same ↦ inr (same, refl, level_now)
        | inr apart ↦ inl (
            ap (λ cs. level_of_cast cs d) (carried.casts ∙ casts)
            ∙ others_keep node.casts node.ties.table cast level d apart
            )
      ]

      -- e is served at once, if the run isn't closed
      serve_open : (e : List ℕ) (now : CastRun) → (become : HasBecome r.cast own cast (is_none kept) false cast now) → IsCoreNode s e
          → now.audience e ≡ true → (own ≡ e → ⊥) → level ≤ lcp own e → IsCastServed s' cast now e (lcp own e)
      serve_open e now become core of apart reach = by (cases_lt (lcp own e) to)
        where
          sent_now : lcp own e < to → IsCastServed s' cast now e (lcp own e)
          sent_now high =
              let on = sent_on p s node is.invariant peace valid is.at level to e reach high free own_core core (omega (arith, high, within)) in
              let frame = copy_sent (told_at (lcp own e + 1) on.name) on.among in
              let near = on.near in
              inr (record {
                from = own;
                to = on.name;
                level = lcp own e + 1;
                session = next;
                depth = depth + 1;
                word = word;
                way = record { number = frame.0; among = frame.1 };
                core = core_stays s s' own node acted.state at status_is on.name on.core;
                higher = omega arith;
                shared = inr (omega (arith, near));
              })

          -- it was sent on over these levels before
          sent_before : (k : Option ℕ) → kept ≡ k → to ≤ lcp own e → IsCastServed s' cast now e (lcp own e)
          sent_before None none low =
              let mine = (core_name p s is.nodes own own_core).len in
              let other = (core_name p s is.nodes e core).len in
              let all : p.digits ≤ lcp own e =
              subst (λ n. n ≤ lcp own e) (ap (sent_from node.ties.table.settings.digits) none ∙ digits_are) low in
              absurd (apart (lcp-whole own e (mine ∙ sym other) (omega (arith, mine, all))))
          sent_before (Some k) same low =
              let reach_k : k ≤ lcp own e = subst (λ n. n ≤ lcp own e) (ap (sent_from node.ties.table.settings.digits) same) low in
              elim (sound.cover.served own e cast k become.run (record {
                state = node;
                is = is.at;
                keeps = kept_is ∙ same;
                started = become.was;
                audience = subst (λ (a : List ℕ → Bool). a e ≡ true) become.becomes.audience of;
                apart = apart;
                reach = reach_k;
              })) [
                | inl reached ↦ inl (become.becomes.reached_on e reached)
                | inr due ↦ elim (due_on status_is cast e (lcp own e) due) [
                  | inl still ↦ inr still
                  | inr taken ↦ let higher = taken.higher in absurd (omega (arith, higher, reach))
                ]
              ]

          by : (lcp own e < to) ⊎ (to ≤ lcp own e) → IsCastServed s' cast now e (lcp own e)
          by (inl high) = sent_now high
          by (inr low) = sent_before kept refl low

      serves_now : IsCoreNode s own → (e : List ℕ) (now : CastRun) → r'.cast cast ≡ Some now → now.audience e ≡ true → (own ≡ e → ⊥)
          → level ≤ lcp own e → IsCastServed s' cast now e (lcp own e)
      serves_now core e now started of apart reach =
          let become = now_become.was cast now started in
          let before = subst (λ (a : List ℕ → Bool). a e ≡ true) become.becomes.audience of in
          let audience = sound.audience.each cast become.run become.was in
          elim (cases_Bool become.run.closed) [
            | inl over ↦ inl (become.becomes.reached_on e (audience.reached over e before))
            | inr still ↦ serve_open e now become (audience.core still e before) of apart reach
          ]

      pub sent_on_move : CastMove p s s' r r' own cast level true (is_none kept) false true node acted.state acted.news
      sent_on_move = record {
        at = at;
        news_is = carried.news ∙ news;
        unkept_first = λ first. kept_is ∙ none_if kept first;
        still_open = λ wrong. nothing_true wrong;
        now_started = let will = now_become.on cast way.run way.started in (will.now, will.is);
        first_reaches = λ first. (now_become.on cast way.run way.started).becomes.reached_new first refl;
        now_closes = λ wrong. nothing_true wrong;
        keeps = record { status = status_is; levels = levels; below = λ anew. below };
        core = λ either. ap is_core_status core_is;
        was = λ d now there. inl (now_become.was d now there);
        now_kept = λ anew. kept_now;
        anew_is = λ anew. level_now;
        first_kept = λ first none.
            let wrong : ◌≡◌ {A = Option ℕ} None (Some level) = sym none ∙ level_now in cc;
        on_run = on_run (is_none kept) false now_become;
        caster_now = λ anew now started mine.
            let become = now_become.was cast now started in
            let caster : become.run.caster ≡ own = sym become.becomes.caster ∙ mine in
            let there = sound.kept.caster node cast become.run become.was (ap s.node caster ∙ is.at) (ap is_core_status core_is) in
            let less = below become.run.level there in
            let one = way.started in
            let other = become.was in
            let same : way.run ≡ become.run = cc in
            let most = subst (λ (run : CastRun). run.level ≤ level) same way.from in
            absurd (omega (arith, less, most));
        due_on = due_on status_is;
        reached_own = λ takes core now started.
            let one = kept_now.started in
            let same : kept_now.run ≡ now = cc in
            subst (λ (run : CastRun). run.reached own ≡ true) same kept_now.reached;
        own_serves = λ either. serves_now;
      }

    -- with targets, or without
    to_targets : (targets : List CastTarget) → all_targets ≡ targets → (rule : Reaction)
        → rule ≡ casts_as node copy (Now (is_none kept) targets) → IsCarriedOut node rule acted → KeepsAndTells
    to_targets [] none rule same carried =
        let has : IsCarriedOut node (casts_as node copy (Now (is_none kept) [])) acted = subst (λ r. IsCarriedOut node r acted) same carried in
        moved_both p s s' r r' own cast level true (is_none kept) false true node acted.state acted.news
        (sent_on_move (casts_as node copy (Now (is_none kept) [])) has refl refl refl (λ target among.
        absurd (subst (IsAmong target) none among))) sound
        (answered_sessions p s r number node from cast level session depth word is sound.sessions
        (casts_as node copy (Now (is_none kept) [])) has (is_none kept) refl refl refl refl refl)
    to_targets (target ∷ targets) are rule same carried =
        let sent_rule = casts_as node copy (Now (is_none kept) (target ∷ targets)) in
        let has : IsCarriedOut node sent_rule acted = subst (λ r. IsCarriedOut node r acted) same carried in
        moved_both p s s' r r' own cast level true (is_none kept) false true node acted.state acted.news
        (sent_on_move sent_rule has refl refl refl (λ t among.
        among-map (cast_for copy next) t (target ∷ targets) (subst (IsAmong t) are among))) sound
        (spread_sessions p s r number node from cast level session depth word is sound.sessions sent_rule has (is_none kept) refl core_is refl
        to within (target ∷ targets) (λ t among. are_targets t (subst (IsAmong t) (sym are) among)) refl (omega arith) refl refl)

    pub sent_on_sound : IsCarriedOut node (casts_as node copy (Now (is_none kept) all_targets)) acted → KeepsAndTells
    sent_on_sound carried = to_targets all_targets refl (casts_as node copy (Now (is_none kept) all_targets)) refl carried

  -- ---- by the receiver's status

  at_core : node.status ≡ Core → KeepsAndTells
  unfolding frame_at_core
  at_core core_is = by (level_of_cast node.casts cast) refl (is_kept (level_of_cast node.casts cast) level) refl
    where
      ruled : (turn : CastTurn) → turn_of node.casts node.ties.table cast level ≡ turn → IsCarriedOut node (casts_as node copy turn) acted
      ruled turn same =
          frame_law node (frame_to node from body) (casts_as node copy turn) is.known
          (ap (λ status. rule_of_frame status node from body) core_is ∙ ap (λ t. Some (casts_as node copy t)) same)

      again : is_kept (level_of_cast node.casts cast) level ≡ true → KeepsAndTells
      again kept =
          let carried = ruled Already (cast_again node.casts node.ties.table cast level kept).0 in
          answered_sound (casts_as node copy Already) carried refl refl refl refl refl refl
          (λ core. let least = (kept_exactly (level_of_cast node.casts cast) level).0 kept in (least.0, least.1, least.2))

      by : (kept : Option ℕ) → level_of_cast node.casts cast ≡ kept → (already : Bool) → is_kept (level_of_cast node.casts cast) level ≡ already
          → KeepsAndTells
      by kept same true already = again already
      by kept same false anew =
          let fresh : is_kept kept level ≡ false = ap (λ k. is_kept k level) (sym same) ∙ anew in
          sent_on_sound core_is kept same fresh
          (ruled (Now (is_none kept) (cast_targets node.ties.table level (sent_from node.ties.table.settings.digits kept)))
          ((cast_anew node.casts node.ties.table cast level anew).0 ∙ ap (λ k. Now (is_none k)
          (cast_targets node.ties.table level (sent_from node.ties.table.settings.digits k))) same))

  -- a joining or ceased node answers it
  elsewhere : (is_core_status node.status ≡ false) → rule_of_frame node.status node from body ≡ Some (takes_cast_outside node from session)
      → KeepsAndTells
  elsewhere no_core ruled =
      let carried = frame_law node (frame_to node from body) (takes_cast_outside node from session) is.known ruled in
      answered_sound (takes_cast_outside node from session) carried refl refl refl refl refl refl (λ core.
      let here = core.is in
      let there = is.at in
      let same : core.state ≡ node = cc in
      let core_then : is_core_status node.status ≡ true =
      subst (λ (n : NodeState). is_core_status n.status ≡ true) same (core_status s own core) in
      absurd (true≢false (sym core_then ∙ no_core)))

  pub cast_delivered : KeepsAndTells
  unfolding frame_at_joining frame_at_ceased
  cast_delivered = by node.status refl
    where
      takes : takes_casts node.status
      takes =
          let here = way.is in
          let there = is.at in
          let same : way.state ≡ node = cc in
          subst (λ (n : NodeState). takes_casts n.status) same way.takes

      by : (status : Status) → node.status ≡ status → KeepsAndTells
      by Joining same = elsewhere (ap is_core_status same) (ap (λ status. rule_of_frame status node from body) same)
      by Core same = at_core same
      by Leaving same = absurd (subst takes_casts same takes)
      by Gone same = absurd (subst takes_casts same takes)
      by Ceased same = elsewhere (ap is_core_status same) (ap (λ status. rule_of_frame status node from body) same)
