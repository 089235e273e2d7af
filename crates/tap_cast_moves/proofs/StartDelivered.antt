-- The start of a cast keeps all that is said of casts.
use Rattle.std.proofs.Common.{◌≡◌, ◌⊎◌, ℕ, ◌+◌, ◌<◌, ◌≤◌, nat_le, Bool, true, false, List, [], ◌∷◌, Option, None, Some, arith, refl, sym, ap, subst, ◌∙◌, inl, inr}
use Rattle.std.proofs.lemmas.Bool.{and_parts, cases_eq, cases_lt, true≢false}
use Rattle.tap_name.specs.Prefix.{lcp}
use Rattle.tap_name.specs.Settings.{SettingsValue}
use Rattle.tap_name.proofs.Prefixes.{lcp-itself, lcp-whole}
use Rattle.tap_session.specs.declared.parent.Parent.TheVariants.{Root}
use Rattle.tap_table.specs.Levels.{is_kept}
use Rattle.tap_table.specs.Table.{IsTable}
use Rattle.tap_cast.specs.declared.casts.CastTurn.TheVariants.{Now}
use Rattle.tap_cast.specs.declared.target.CastTarget.{CastTarget}
use Rattle.tap_cast.specs.Casts.{level_of_cast, turn_of, with_cast}
use Rattle.tap_cast.specs.Targets.{cast_targets, told_at}
use Rattle.tap_cast.proofs.Casting.{IsTarget, targets_are}
use Rattle.tap_cast.proofs.KeptLevels.{cast_anew, others_keep}
use Rattle.tap_wire.specs.declared.frame.Body.TheVariants.{Cast}
use Rattle.tap_wire.specs.declared.frame.Frame.{Frame}
use Rattle.tap_rule.specs.Act.{act}
use Rattle.tap_rule.specs.Casts.{Copy, cast_for, cast_news, casts_as}
use Rattle.tap_rule.specs.Event.{Acted, Start}
use Rattle.tap_rule.specs.Event.Event.{Starts}
use Rattle.tap_rule.specs.Event.Start.{Cast as StartCast}
use Rattle.tap_rule.specs.RuleLaws.{IsCarriedOut}
use Rattle.tap_rule.specs.Node.{NodeState, name_of}
use Rattle.tap_rule.specs.Reaction.{Reaction}
use Rattle.tap_rule.specs.Sent.{IsAmong}
use Rattle.tap_rule.specs.StartRules.{rule_of_start}
use Rattle.tap_rule.proofs.Among.{among-map}
use Rattle.tap_rule.proofs.CarriedOut.{start_law}
use Rattle.tap_safety.specs.Invariant.{Basis}
use Rattle.tap_safety.specs.Move.{MayCast}
use Rattle.tap_safety.specs.Move.Move.{Begins}
use Rattle.tap_safety.specs.Parts.{HoleFree}
use Rattle.tap_safety.specs.Exchanges.{ChangesAt, numbered_from}
use Rattle.tap_safety.specs.System.{System, AmongFrames, IsCoreNode}
use Rattle.tap_safety.proofs.Moved.{starts}
use Rattle.tap_safety.proofs.UnderWay.{among_numbered, among_right}
use Rattle.tap_moves.specs.Delivered.{after_start}
use Rattle.tap_moves.specs.KnownNames.{AreNodes}
use Rattle.tap_moves.proofs.Got.{among_all}
use Rattle.tap_moves.proofs.InvariantMoves.{core_name}
use Rattle.tap_cast_moves.specs.Audience.{CastsAreSound}
use Rattle.tap_cast_moves.specs.Cover.{IsCastServed}
use Rattle.tap_cast_moves.specs.News.{NewsAreTrue}
use Rattle.tap_cast_moves.specs.Recalled.{is_core, is_core_status, recalled, run_begun, runs_begun}
use Rattle.tap_cast_moves.specs.Remembered.{CastMemory, CastRun}
use Rattle.tap_cast_moves.proofs.AsideKept.{core_node}
use Rattle.tap_cast_moves.proofs.AsideMade.{start_still}
use Rattle.tap_cast_moves.proofs.CastDelivered.{core_stays, due_still}
use Rattle.tap_cast_moves.proofs.CastKept.{CastMove, IsBegun, moved_both}
use Rattle.tap_cast_moves.proofs.CastTaken.{nothing_true}
use Rattle.tap_cast_moves.proofs.Noted.{HasBecome, RunBecomes, noted_on}
use Rattle.tap_cast_moves.proofs.StartTaken.{begun_here, begun_on, begun_other, closed_at_once, root_opened, runs_are, start_was_run}
use Rattle.tap_cast_moves.proofs.Targets.{TakesCasts, sent_on, target_takes}

module _ (p : SettingsValue) (s : System) (r : CastMemory) (x : List ℕ) (cast level : ℕ) (word : List ℕ) (basis : Basis p s)
    (nodes : AreNodes p s) (may : MayCast p s x cast level word) (fresh : r.cast cast ≡ None) (free : HoleFree p s)
    (sound : CastsAreSound p s r) where
  abbrev start : Start
  start = StartCast cast level word

  abbrev node : NodeState
  node = may.acts.state

  abbrev own : List ℕ
  own = name_of node

  abbrev acted : Acted
  acted = act node (Starts start)

  abbrev s' : System
  s' = after_start p s x start

  abbrev r' : CastMemory
  r' = recalled p s r (Begins x start)

  abbrev copy : Copy
  copy = record { cast = cast; level = level; parent = Root own; depth = 0; word = word }

  abbrev next : ℕ
  next = node.cast_sessions.opened + 1

  abbrev all_targets : List CastTarget
  all_targets = cast_targets node.ties.table level node.ties.table.settings.digits

  name_is : own ≡ x
  name_is = (nodes.nodes x node may.acts.is).name

  valid : IsTable node.ties.table
  valid = (nodes.nodes x node may.acts.is).is_node.ties.table

  digits_are : node.ties.table.settings.digits ≡ p.digits
  digits_are = ap (λ (q : SettingsValue). q.digits) (nodes.nodes x node may.acts.is).settings

  own_at : s.node own ≡ Some node
  own_at = ap s.node name_is ∙ may.acts.is

  own_core : IsCoreNode s x
  own_core = core_node s x node may.acts.is (ap is_core_status may.acts.core)

  changes : ChangesAt s s' x node acted.state
  changes =
      let done = (starts p s x start node may.acts.is).done in record { was = may.acts.is; is = done.is; others = done.others }

  -- nobody keeps it yet
  unkept : level_of_cast node.casts cast ≡ None
  unkept = may.unmet

  turn_is : turn_of node.casts node.ties.table cast level ≡ Now true all_targets
  turn_is = rw unkept refl

  carried_as : (targets : List CastTarget) → all_targets ≡ targets → IsCarriedOut node (casts_as node copy (Now true targets)) acted
  carried_as targets same =
      start_law node start (casts_as node copy (Now true targets))
      (ap (λ status. rule_of_start status node start) may.acts.core ∙ ap (λ t. Some (casts_as node copy t)) turn_is
      ∙ ap (λ ts. Some (casts_as node copy (Now true ts))) same)

  are_targets : (target : CastTarget) → IsAmong target all_targets → IsTarget node.ties.table level p.digits target × TakesCasts s target.to
  are_targets target among =
      let each = among_all (IsTarget node.ties.table level node.ties.table.settings.digits) all_targets
      (targets_are node.ties.table valid level node.ties.table.settings.digits) target among in (
        subst (λ d. IsTarget node.ties.table level d target) digits_are each,
        target_takes p s node basis may.acts.none_departs valid own_at level node.ties.table.settings.digits target each,
      )

  own_reach : level ≤ lcp x x
  own_reach =
      let itself = lcp-itself x in
      let len = (core_name p s nodes x own_core).len in
      let most = may.within in
      omega (arith, itself, len, most)

  module _ (rule : Reaction) (carried : IsCarriedOut node rule acted) (closed : Bool) (news : acted.news ≡ cast_news cast true closed)
      (status : rule.state.status ≡ node.status) (casts : rule.state.casts ≡ with_cast node.casts cast level)
      (sends : (target : CastTarget) → IsAmong target all_targets → IsAmong (cast_for copy next target) rule.messages) where
    become_of : (d : ℕ) (now : CastRun) → r'.cast d ≡ Some now → HasBecome (runs_begun s r x start) x cast true closed d now
    become_of = start_was_run p s r x cast level word basis nodes may fresh sound.sessions closed news

    will_of : (d : ℕ) (run : CastRun) → runs_begun s r x start d ≡ Some run
        → (now : CastRun) × (r'.cast d ≡ Some now) × RunBecomes x cast true closed d run now
    will_of d run there =
        let will = noted_on (runs_begun s r x start) x cast true closed d run there in
        (will.now, runs_are p s r x cast level word basis nodes may fresh sound.sessions closed news d ∙ will.is, will.becomes)

    begun_now : (now : CastRun) × (r'.cast cast ≡ Some now) × RunBecomes x cast true closed cast (run_begun s x level) now
    begun_now = will_of cast (run_begun s x level) (begun_here p s r x cast level word basis nodes may fresh sound.sessions)

    status_is : acted.state.status ≡ node.status
    status_is = carried.status ∙ status

    level_now : level_of_cast acted.state.casts cast ≡ Some level
    level_now =
        ap (λ cs. level_of_cast cs cast) (carried.casts ∙ casts)
        ∙ (cast_anew node.casts node.ties.table cast level (ap (λ k. is_kept k level) unkept)).1

    levels : (d : ℕ) → (level_of_cast acted.state.casts d ≡ level_of_cast node.casts d)
        ⊎ ((d ≡ cast) × (true ≡ true) × (level_of_cast acted.state.casts cast ≡ Some level))
    levels d = elim (cases_eq d cast) [
      | inl same ↦ inr (same, refl, level_now)
      | inr apart ↦ inl (
          ap (λ cs. level_of_cast cs d) (carried.casts ∙ casts) ∙ others_keep node.casts node.ties.table cast level d apart
          )
    ]

    -- what the started cast is
    is_begun : (now : CastRun) → HasBecome (runs_begun s r x start) x cast true closed cast now → IsBegun s r x cast level cast now
    is_begun now become =
        let was = become.was in
        let begun = begun_here p s r x cast level word basis nodes may fresh sound.sessions in
        let same : become.run ≡ run_begun s x level = cc in
        record {
          it = refl;
          fresh = fresh;
          inside = own_reach;
          caster = become.becomes.caster ∙ ap (λ (run : CastRun). run.caster) same;
          level_is = become.becomes.level ∙ ap (λ (run : CastRun). run.level) same;
          audience = become.becomes.audience ∙ ap (λ (run : CastRun). run.audience) same;
          reached = λ y reached. elim (become.becomes.reached_was y reached) [
            | inl old ↦
                let wrong : false ≡ true = ap (λ (run : CastRun). run.reached y) (sym same) ∙ old in absurd (true≢false (sym wrong))
            | inr new ↦ new.2
          ];
          itself = become.becomes.reached_new refl refl;
        }

    was_run : (d : ℕ) (now : CastRun) → r'.cast d ≡ Some now
        → HasBecome r.cast x cast true closed d now ⊎ (IsBegun s r x cast level d now × (true ≡ true))
    was_run d now started =
        elim (cases_eq d cast) [
          | inl same ↦
              let here : r'.cast cast ≡ Some now = ap r'.cast (sym same) ∙ started in
              inr (subst (λ k. IsBegun s r x cast level k now) (sym same) (is_begun now (become_of cast now here)), refl)
          | inr apart ↦
              let become = become_of d now started in
              inl (record {
                run = become.run;
                was = sym (begun_other p s r x cast level word basis nodes may fresh sound.sessions d apart) ∙ become.was;
                becomes = become.becomes;
              })
        ]

    copy_sent : (target : CastTarget) → IsAmong target all_targets
        → (m : ℕ) × AmongFrames m (record { from = own; to = target.to; body = Cast cast target.level next (0 + 1) word }) s'.frames
    copy_sent target among =
        let there = carried.sent.named (cast_for copy next target) (sends target among) in
        let numbered = among_numbered s.next acted.sent own target.to (Cast cast target.level next (0 + 1) word) there in
        let after = (starts p s x start node may.acts.is).sent.after in
        let f : Frame = record { from = own; to = target.to; body = Cast cast target.level next (0 + 1) word } in (
          numbered.0,
          subst (AmongFrames numbered.0 f) (sym after)
              (among_right numbered.0 f s.frames (numbered_from s.next acted.sent) numbered.1),
        )

    serves : (e : List ℕ) (now : CastRun) → r'.cast cast ≡ Some now → now.audience e ≡ true → (x ≡ e → ⊥) → level ≤ lcp x e
        → IsCastServed s' cast now e (lcp x e)
    serves e now started of apart reach = subst (λ z. IsCastServed s' cast now e (lcp z e)) name_is (by (cases_lt (lcp own e) p.digits))
      where
        core : IsCoreNode s e
        core =
            let begun = is_begun now (become_of cast now started) in
            let parts = and_parts (is_core (s.node e)) (nat_le level (lcp x e))
            (subst (λ (a : List ℕ → Bool). a e ≡ true) begun.audience of) in
            found_core e (s.node e) refl parts.0
          where
            found_core : (y : List ℕ) (found : Option NodeState) → s.node y ≡ found → is_core found ≡ true → IsCoreNode s y
            found_core y None is none = absurd (true≢false (sym none))
            found_core y (Some state) is is_so = core_node s y state is is_so

        by : (lcp own e < p.digits) ⊎ (p.digits ≤ lcp own e) → IsCastServed s' cast now e (lcp own e)
        by (inl high) =
            let low : level ≤ lcp own e = subst (λ z. level ≤ lcp z e) (sym name_is) reach in
            let on = sent_on p s node basis may.acts.none_departs valid own_at level node.ties.table.settings.digits e low
            (omega (arith, high, digits_are)) free (subst (IsCoreNode s) (sym name_is) own_core) core high in
            let frame = copy_sent (told_at (lcp own e + 1) on.name) on.among in
            let near = on.near in
            inr (record {
              from = own;
              to = on.name;
              level = lcp own e + 1;
              session = next;
              depth = 0 + 1;
              word = word;
              way = record { number = frame.0; among = frame.1 };
              core = core_stays s s' x node acted.state changes status_is on.name on.core;
              higher = omega arith;
              shared = inr (omega (arith, near));
            })
        by (inr all) =
            let mine = (core_name p s nodes x own_core).len in
            let other = (core_name p s nodes e core).len in
            let whole : p.digits ≤ lcp x e = subst (λ z. p.digits ≤ lcp z e) name_is all in
            absurd (apart (lcp-whole x e (mine ∙ sym other) (omega (arith, mine, whole))))

    start_move : CastMove p s s' r r' x cast level false true closed true node acted.state acted.news
    start_move = record {
      at = changes;
      news_is = news;
      unkept_first = λ first. unkept;
      still_open = λ is run there over. let wrong : ◌≡◌ {A = Option CastRun} None (Some run) = sym fresh ∙ there in cc;
      now_started = (begun_now.0, begun_now.1);
      first_reaches = λ first. begun_now.2.reached_new refl refl;
      now_closes = λ is. begun_now.2.closed_new is refl;
      keeps = record {
        status = status_is;
        levels = levels;
        below = λ anew k there. let wrong : ◌≡◌ {A = Option ℕ} None (Some k) = sym unkept ∙ there in absurd (cc);
      };
      core = λ either. ap is_core_status may.acts.core;
      was = was_run;
      now_kept = λ anew. record {
        run = begun_now.0;
        started = begun_now.1;
        reached = begun_now.2.reached_new refl refl;
        from = let same = begun_now.2.level in omega (arith, same);
        within = may.within;
        begins = let same = begun_now.2.level in
            subst (λ z. begun_now.0.level ≤ lcp z x) (sym begun_now.2.caster) (omega (arith, same, own_reach));
      };
      anew_is = λ anew. level_now;
      first_kept = λ first none. let wrong : ◌≡◌ {A = Option ℕ} None (Some level) = sym none ∙ level_now in cc;
      on_run = λ d run there. will_of d run (begun_on p s r x cast level word basis nodes may fresh sound.sessions d run there);
      caster_now = λ anew now started mine. sym (is_begun now (become_of cast now started)).level_is;
      due_on = λ d e above due. inl (due_still s s' d e above due
          (start_still p s r x start node may.acts.is due.way.number
          (record { from = due.from; to = due.to; body = Cast d due.level due.session due.depth due.word }) due.way.among)
          (core_stays s s' x node acted.state changes status_is due.to due.core));
      reached_own = λ wrong. nothing_true wrong;
      own_serves = λ either core. serves;
    }

  to_targets : (targets : List CastTarget) → all_targets ≡ targets → CastsAreSound p s' r' × NewsAreTrue s r r' x acted.news
  to_targets [] none =
      let carried = carried_as [] none in
      moved_both p s s' r r' x cast level false true true true node acted.state acted.news
      (start_move (casts_as node copy (Now true [])) carried true carried.news refl refl
      (λ target among. absurd (subst (IsAmong target) none among))) sound
      (closed_at_once p s r x cast level word basis nodes may fresh sound.sessions (casts_as node copy (Now true [])) carried carried.news refl
      refl refl refl)
  to_targets (target ∷ targets) are =
      let rule = casts_as node copy (Now true (target ∷ targets)) in
      let carried = carried_as (target ∷ targets) are in
      moved_both p s s' r r' x cast level false true false true node acted.state acted.news
      (start_move rule carried false carried.news refl refl
      (λ t among. among-map (cast_for copy next) t (target ∷ targets) (subst (IsAmong t) are among))) sound
      (root_opened p s r x cast level word basis nodes may fresh sound.sessions rule carried carried.news refl (target ∷ targets)
      (λ t among. are_targets t (subst (IsAmong t) (sym are) among)) refl (omega arith) refl refl)

  pub cast_started : CastsAreSound p s' r' × NewsAreTrue s r r' x acted.news
  cast_started = to_targets all_targets refl
