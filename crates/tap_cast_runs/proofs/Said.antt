-- Each cast that is remembered was said to begin; and what is remembered of it as it begins stays so up to the end of the log.
use Rattle.std.proofs.Common.{◌≡◌, inl, inr, ℕ, false, List, [], ◌∷◌, ◌++◌, Option, None, Some, refl, ap, sym, subst, ◌∙◌, append-nil, append_assoc}
use Rattle.tap_log.specs.declared.record.Record.{Record}
use Rattle.tap_log.specs.declared.record.Record.TheVariants.{CastFrom}
use Rattle.tap_history.specs.Groups.{EachGroupFrom, is_ended, records_of}
use Rattle.tap_rule.specs.Sent.{IsAmong}
use Rattle.tap_rule.proofs.Among.{among-first, among-second}
use Rattle.tap_safety.specs.Move.{Move}
use Rattle.tap_runs.specs.Beginning.{Beginning, IsWithinLimits, begin_record}
use Rattle.tap_runs.specs.Course.{Follows, IsCourse, move_of_group, system_of}
use Rattle.tap_runs.specs.Named.{HaveNames}
use Rattle.tap_runs.proofs.CourseGrows.{by_groups}
use Rattle.tap_safe_runs.specs.Safe.{IsRun}
use Rattle.tap_safe_runs.proofs.Safe.{run_more, steps_after, steps_before}
use Rattle.tap_cast_moves.specs.Remembered.{CastMemory, CastRun}
use Rattle.tap_cast_runs.specs.Begun.{StaysBegun}
use Rattle.tap_cast_runs.specs.RunCasts.{casts_of, recalled_by}
use Rattle.tap_cast_runs.proofs.CastsBegun.{begins_right, casts_stay_begun}
use Rattle.tap_cast_runs.proofs.Casts.{group_casts, grown_casts, recalled_some, start_casts}

-- ---- up to the end of the log

same_run : (one other : CastRun) → Some one ≡ Some other → one ≡ other
same_run one other is = cc

module _ (b : Beginning) where
  pub stays_to_end : (before : List Record) (groups : List (List Record)) (cast : ℕ) (run : CastRun) → IsRun b before
      → HaveNames b.settings (records_of groups) → EachGroupFrom (Follows b) before groups → (casts_of before).cast cast ≡ Some run
      → StaysBegun (before ++ records_of groups) cast run
  stays_to_end before [] cast run going names each is =
      subst (λ l. StaysBegun l cast run) (sym (append-nil before))
      (record { now = run; started = is; caster = refl; level = refl; audience = refl })
  stays_to_end before (group ∷ groups) cast run going names each is =
      let steps = steps_before b.settings group (records_of groups) names in
      let first = casts_stay_begun b before group cast run going each.0 steps is in
      let last = stays_to_end (before ++ group) groups cast first.now (run_more b before group going each.0 steps)
      (steps_after b.settings group (records_of groups) names) each.1 first.started in
      subst (λ l. StaysBegun l cast run) (append_assoc before group (records_of groups))
      (record {
        now = last.now;
        started = last.started;
        caster = last.caster ∙ first.caster;
        level = last.level ∙ first.level;
        audience = last.audience ∙ first.audience;
      })

-- ---- a cast that is remembered

-- the log says that the cast begins, with its caster and prefix
pub record IsSaid (log : List Record) (cast : ℕ) (run : CastRun) : Type 0 where
  pub word : List ℕ
  pub there : IsAmong (CastFrom cast word run.level run.caster) log

abbrev AreSaid : List Record → Type 0
AreSaid log = (cast : ℕ) (run : CastRun) → (casts_of log).cast cast ≡ Some run → IsSaid log cast run

-- as of a cast with the same caster and prefix
said_alike : (log : List Record) (cast level : ℕ) (word caster : List ℕ) (run : CastRun) → level ≡ run.level → caster ≡ run.caster
    → IsAmong (CastFrom cast word level caster) log → IsSaid log cast run
said_alike log cast level word caster run same_level same_caster there = record {
  word = word;
  there =
      subst (λ x. IsAmong (CastFrom cast word run.level x) log) same_caster
      (subst (λ l. IsAmong (CastFrom cast word l caster) log) same_level there);
}

module _ (b : Beginning) (log group : List Record) (going : IsRun b log) (follows : Follows b log group) (steps : HaveNames b.settings group)
    (said : AreSaid log) (cast : ℕ) (now : CastRun) (is : (casts_of (log ++ group)).cast cast ≡ Some now) where
  -- one that was remembered before
  said_before : (run : CastRun) → (casts_of log).cast cast ≡ Some run → IsSaid (log ++ group) cast now
  said_before run there =
      let stays = casts_stay_begun b log group cast run going follows steps there in
      let same = same_run stays.now now (sym stays.started ∙ is) in
      let before = said cast run there in
      said_alike (log ++ group) cast run.level before.word run.caster now (sym stays.level ∙ ap (λ (r : CastRun). r.level) same)
      (sym stays.caster ∙ ap (λ (r : CastRun). r.caster) same)
      (among-first (CastFrom cast before.word run.level run.caster) log group before.there)

  -- one that begins with this group
  said_now : (level : ℕ) (word caster : List ℕ) → IsAmong (CastFrom cast word level caster) group → IsSaid (log ++ group) cast now
  said_now level word caster among =
      let begun = begins_right b log group going steps follows cast level word caster among in
      let same = same_run begun.run now (sym begun.started ∙ is) in
      said_alike (log ++ group) cast level word caster now (sym begun.level_is ∙ ap (λ (r : CastRun). r.level) same)
      (sym begun.caster_is ∙ ap (λ (r : CastRun). r.caster) same) (among-second (CastFrom cast word level caster) log group among)

  said_by : (move : Option Move) → move_of_group log group ≡ move → IsSaid (log ++ group) cast now
  said_by move same =
      by move same
      (ap (λ (m : CastMemory). m.cast cast)
      (sym (grown_casts b log group going.course going.going follows ∙ ap (recalled_by b.settings (system_of log) (casts_of log)) same)) ∙ is)
    where
      by : (move : Option Move) → move_of_group log group ≡ move
          → (recalled_by b.settings (system_of log) (casts_of log) move).cast cast ≡ Some now → IsSaid (log ++ group) cast now
      by None none there = said_before now there
      by (Some one) some there =
          elim (recalled_some b.settings (system_of log) (casts_of log) one cast now there) [
            | inl old ↦ said_before old.0 old.1
            | inr new ↦
                let tells = (group_casts b.settings log group (system_of log) one cast follows.may some new).2 in
                said_now tells.level tells.word tells.caster tells.there
          ]

module _ (b : Beginning) where
  -- if the log's steps have names of the settings
  abbrev AreSaidIf : List Record → Type 0
  AreSaidIf log = HaveNames b.settings log → AreSaid log

  keeps_said : (log group : List Record) → IsCourse b log → is_ended log ≡ false → Follows b log group → AreSaidIf log
      → AreSaidIf (log ++ group)
  keeps_said log group course going follows said names cast run is =
      let before = steps_before b.settings log group names in
      said_by b log group (record { course = course; going = going; steps = before }) follows (steps_after b.settings log group names)
      (said before) cast run is (move_of_group log group) refl

  none_said : IsWithinLimits b → AreSaid (begin_record b ∷ [])
  none_said limits cast run is =
      let wrong : ◌≡◌ {A = Option CastRun} None (Some run) = ap (λ (m : CastMemory). m.cast cast) (sym (start_casts b limits)) ∙ is in
      absurd (cc)

  pub are_said : (log : List Record) (cast : ℕ) (run : CastRun) → IsRun b log → (casts_of log).cast cast ≡ Some run → IsSaid log cast run
  are_said log cast run going is =
      by_groups b AreSaidIf keeps_said (λ names. none_said going.course.limits) log going.course going.going going.steps cast run is
