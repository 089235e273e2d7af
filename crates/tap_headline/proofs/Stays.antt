-- What is said of pointers, lookups, casts, sessions and watch lists stays so with the ending of a log.
use Rattle.std.proofs.Common.{◌≡◌, inl, inr, ℕ, true, false, All, List, [], ◌∷◌, ◌++◌, Option, append_assoc, arith, refl, ap, sym, subst, ◌∙◌}
use Rattle.std.specs.Prelude.{◌↔◌, if◌then◌else◌}
use Rattle.std.proofs.lemmas.List.Elements.{All-head, All-tail, All-weaker}
use Rattle.std.proofs.lemmas.List.Sums.{sum_by-append, sum_by-cons}
use Rattle.tap_name.specs.Names.{Among}
use Rattle.tap_name.specs.declared.slot.Slot.{Slot}
use Rattle.tap_watch.specs.Watch.{IsWatched}
use Rattle.tap_scenario.specs.declared.step.Step.{Step}
use Rattle.tap_scenario.specs.declared.step.Step.TheVariants.{Find}
use Rattle.tap_wire.specs.declared.frame.Body.{Body}
use Rattle.tap_wire.specs.declared.frame.Body.TheVariants.{Ack, CastAck, Heard}
use Rattle.tap_log.specs.declared.record.Record.{Record}
use Rattle.tap_log.specs.declared.record.Record.TheVariants.{Answered, Asked, CastFrom, Closed, Core, Reached, Step as StepRecord}
use Rattle.tap_history.specs.Groups.{EachGroup}
use Rattle.tap_history.specs.Published.{has_pair}
use Rattle.tap_surrogate.specs.Nodes.{core_links}
use Rattle.tap_surrogate.specs.Walk.{walk}
use Rattle.tap_rule.specs.Sent.{IsAmong}
use Rattle.tap_safe_runs.proofs.Ended.{run_is_open}
use Rattle.tap_safe_runs.proofs.Splits.{all_at, parted_where}
use Rattle.tap_safety.specs.AtRest.{system_at_rest}
use Rattle.tap_safety.specs.System.{CoversAt, IsUnderWay, System}
use Rattle.tap_runs.specs.Beginning.{Beginning, begin_record}
use Rattle.tap_runs.specs.Course.{system_of}
use Rattle.tap_runs.specs.Observed.{nodes_of, pair_line}
use Rattle.tap_pointer_runs.specs.Paths.{HoldsPair, IsPublishedIn, PointersOnTheirPaths}
use Rattle.tap_pointer_runs.specs.Alone.{LookupsAloneAreExact}
use Rattle.tap_pointer_runs.specs.AnsweredOnce.{LookupsAreAnswered}
use Rattle.tap_pointer_runs.specs.LookupAnswers.{AnswersWerePublished}
use Rattle.tap_pointer_runs.specs.NoServer.{AnsweredNoneWereDisturbed, LookupsEndWithoutServer}
use Rattle.tap_pointer_runs.proofs.Endings.{answered_kept, disturbed_kept, ends_kept}
use Rattle.tap_pointer_runs.proofs.Unanswered.{IsUnanswered, IsUnasked}
use Rattle.tap_cast_runs.specs.ReachAll.{CastsReachAll, HasReachedAll, ReachesWhomItHasTo, ReachesWhomItMay}
use Rattle.tap_cast_runs.specs.AwaitedAnswers.{AnswersAreAwaited, HasCastSession, HasJoinSession, RestHasNoCastSessions}
use Rattle.tap_cast_runs.specs.ReachedOnce.{closed_count, reached_count, says_closed, says_reached}
use Rattle.tap_cast_runs.specs.SlotAnswers.{FirstCover, WatchMemory, had_primary, none_answered}
use Rattle.tap_cast_runs.specs.Chains.{ChainLeadsTo}
use Rattle.tap_cast_runs.specs.Clause.{CoreHasAnswersNow, WatchClauseHolds}
use Rattle.tap_cast_runs.specs.Runs.{watch_recalled_by, watches_after, watches_from, watches_of}
use Rattle.tap_cast_runs.specs.Watched.{CoveredFirst, IsAnswered}
use Rattle.tap_cast_runs.proofs.ChainsTold.{told_longer}
use Rattle.tap_headline.proofs.Ended.{IsEnded, IsPlain, one_plain, step_plain}
use Rattle.tap_headline.proofs.KeptByEnds.{IsKept, each_group, rest_before}
use Rattle.tap_headline.proofs.Memory.{Remembers, memory_stays}

-- ---- pointers

pub pointers_stay : IsKept PointersOnTheirPaths
pointers_stay b log ending ended moment paths rest x pair =
    let p = b.settings in
    let was = paths (rest_before b log ending ended rest) x pair in
    subst (λ (s : System). HoldsPair s x pair ↔ (IsPublishedIn (log ++ ending) pair
    × Among x (walk p.base (core_links (nodes_of s)) pair.server pair.object))) (sym ended.same.system)
    (subst (λ l. HoldsPair (system_of log) x pair ↔ ((has_pair l (pair_line pair) ≡ true)
    × Among x (walk p.base (core_links (nodes_of (system_of log))) pair.server pair.object))) (sym ended.same.published) was)

-- ---- lookups

no_answer : (ticket : ℕ) (server : Option (List ℕ)) → IsPlain (Answered ticket server) → ⊥
unfolding IsPlain
no_answer ticket server plain = plain

-- where a log with an ending has an answer, the log has it
pub record HasAnswer (log before : List Record) (ticket : ℕ) (server : Option (List ℕ)) : Type 0 where
  pub after : List Record
  pub is : log ≡ before ++ Answered ticket server ∷ after

answer_before : (b : Beginning) (log ending before after : List Record) (ticket : ℕ) (server : Option (List ℕ)) → IsEnded b log ending
    → log ++ ending ≡ before ++ Answered ticket server ∷ after → HasAnswer log before ticket server
answer_before b log ending before after ticket server ended is =
    elim (parted_where log ending before (Answered ticket server ∷ after) is) [
      | inl past ↦
          absurd (no_answer ticket server (all_at IsPlain ending past.middle (Answered ticket server) after ended.plain past.back))
      | inr within ↦
          let same : Answered ticket server ≡ within.first = cc in
          record { after = within.middle; is = within.front ∙ ap (λ item. before ++ item ∷ within.middle) (sym same) }
    ]

pub answers_stay : IsKept AnswersWerePublished
answers_stay b log ending ended moment answers before after ticket server is =
    let at = answer_before b log ending before after ticket server ended is in
    answers before at.after ticket server at.is

pub lookups_stay : IsKept LookupsAloneAreExact
lookups_stay b log ending ended moment exact before between after ticket answered object asker server asked none =
    let first = StepRecord asked.index (Find object asker) in
    let front = before ++ first ∷ Asked ticket object asker ∷ between in
    let at = answer_before b log ending front after answered server ended
    (asked.is ∙ sym (append_assoc before (first ∷ Asked ticket object asker ∷ between) (Answered answered server ∷ after))) in
    exact before between at.after ticket answered object asker server (record {
      index = asked.index;
      is = at.is ∙ append_assoc before (first ∷ Asked ticket object asker ∷ between) (Answered answered server ∷ at.after);
      rest = asked.rest;
    }) none

plain_unanswered : (item : Record) → IsPlain item → IsUnanswered item
unfolding IsPlain
plain_unanswered (Answered ticket server) plain = absurd plain
plain_unanswered item plain = tt

plain_unasked : (item : Record) → IsPlain item → IsUnasked item
unfolding IsPlain
plain_unasked (Asked ticket object asker) plain = absurd plain
plain_unasked item plain = tt

pub answered_lookups_stay : IsKept LookupsAreAnswered
answered_lookups_stay b log ending ended moment =
    answered_kept b.settings log ending (All-weaker IsPlain IsUnasked plain_unasked ending ended.plain)
    (All-weaker IsPlain IsUnanswered plain_unanswered ending ended.plain) (rest_before b log ending ended)

pub lookup_ends_stay : IsKept LookupsEndWithoutServer
lookup_ends_stay b log ending ended moment =
    ends_kept b.settings log ending (run_is_open b log ended.run).uncarried ended.uncarried
    (All-weaker IsPlain IsUnanswered plain_unanswered ending ended.plain)

pub disturbed_lookups_stay : IsKept AnsweredNoneWereDisturbed
disturbed_lookups_stay b log ending ended moment =
    disturbed_kept b.settings log ending (run_is_open b log ended.run).uncarried ended.uncarried
    (All-weaker IsPlain IsUnanswered plain_unanswered ending ended.plain) ended.same.system ended.same.published moment ended.last

-- ---- casts

plain_reaches_none : (cast : ℕ) (name : List ℕ) (item : Record) → IsPlain item → says_reached cast name item ≡ false
unfolding IsPlain says_reached
plain_reaches_none cast name (Reached other there) plain = absurd plain
plain_reaches_none cast name item plain = refl

plain_closes_none : (cast : ℕ) (item : Record) → IsPlain item → says_closed cast item ≡ false
unfolding IsPlain says_closed
plain_closes_none cast (Closed other) plain = absurd plain
plain_closes_none cast item plain = refl

none_reached : (cast : ℕ) (name : List ℕ) (items : List Record) → All IsPlain items → reached_count cast name items ≡ 0
none_reached cast name [] plain = refl
none_reached cast name (item ∷ items) plain =
    let here : ◌≡◌ {A = ℕ} (if says_reached cast name item then 1 else 0) 0 =
    ap (λ one. if one then 1 else 0) (plain_reaches_none cast name item (All-head IsPlain item items plain)) in
    let later = none_reached cast name items (All-tail IsPlain item items plain) in
    let both = sum_by-cons (λ one. if says_reached cast name one then 1 else 0) item items in
    omega (arith, here, later, both)

none_closed : (cast : ℕ) (items : List Record) → All IsPlain items → closed_count cast items ≡ 0
none_closed cast [] plain = refl
none_closed cast (item ∷ items) plain =
    let here : ◌≡◌ {A = ℕ} (if says_closed cast item then 1 else 0) 0 =
    ap (λ one. if one then 1 else 0) (plain_closes_none cast item (All-head IsPlain item items plain)) in
    let later = none_closed cast items (All-tail IsPlain item items plain) in
    let both = sum_by-cons (λ one. if says_closed cast one then 1 else 0) item items in
    omega (arith, here, later, both)

-- a step alone begins no cast
no_cast_begins : (cast level : ℕ) (word caster : List ℕ) (index : ℕ) (step : Step)
    → IsAmong (CastFrom cast word level caster) (StepRecord index step ∷ []) → ⊥
no_cast_begins cast level word caster index step (inl same) =
    let wrong : CastFrom cast word level caster ≡ StepRecord index step = same in cc
no_cast_begins cast level word caster index step (inr none) = none

module _ (b : Beginning) (log ending : List Record) (ended : IsEnded b log ending) where
  reached_stays : (cast : ℕ) (name : List ℕ) → reached_count cast name (log ++ ending) ≡ reached_count cast name log
  reached_stays cast name =
      let both = sum_by-append (λ item. if says_reached cast name item then 1 else 0) log ending in
      let none = none_reached cast name ending ended.plain in
      omega (arith, both, none)

  closed_stays : (cast : ℕ) → closed_count cast (log ++ ending) ≡ closed_count cast log
  closed_stays cast =
      let both = sum_by-append (λ item. if says_closed cast item then 1 else 0) log ending in
      let none = none_closed cast ending ended.plain in
      omega (arith, both, none)

  has_reached : (before : List Record) (cast level : ℕ) (caster : List ℕ) → HasReachedAll before log cast level caster
      → HasReachedAll before (log ++ ending) cast level caster
  has_reached before cast level caster has = record {
    all = λ closed name of. reached_stays cast name ∙ has.all (sym (closed_stays cast) ∙ closed) name of;
    rest = λ rest. closed_stays cast ∙ has.rest (rest_before b log ending ended rest);
  }

  casts_right : EachGroup ReachesWhomItMay log → EachGroup ReachesWhomItMay (log ++ ending)
  casts_right =
      each_group b log ending ended ReachesWhomItMay ReachesWhomItMay (λ before group right. right)
      (λ index step cast name is.
      let none = none_reached cast name (StepRecord index step ∷ []) (one_plain (StepRecord index step) (step_plain index step)) in
      absurd (omega (arith, is, none)))

  casts_all : EachGroup (ReachesWhomItHasTo log) log → EachGroup (ReachesWhomItHasTo (log ++ ending)) (log ++ ending)
  casts_all =
      each_group b log ending ended (ReachesWhomItHasTo log) (ReachesWhomItHasTo (log ++ ending))
      (λ before group has cast level word caster says. has_reached before cast level caster (has cast level word caster says))
      (λ index step cast level word caster says. absurd (no_cast_begins cast level word caster index step says))

pub casts_stay : IsKept CastsReachAll
casts_stay b log ending ended moment casts = record {
  reached = λ cast name.
      let same = reached_stays b log ending ended cast name in
      let once = casts.reached cast name in omega (arith, same, once);
  closed = λ cast.
      let same = closed_stays b log ending ended cast in
      let once = casts.closed cast in omega (arith, same, once);
  right = casts_right b log ending ended casts.right;
  all = casts_all b log ending ended casts.all;
}

-- ---- sessions

module _ (s t : System) (same : t ≡ s) where
  with_join_session : (to : List ℕ) (session : ℕ) → HasJoinSession s to session → HasJoinSession t to session
  with_join_session to session = subst (λ u. HasJoinSession u to session) (sym same)

  with_cast_session : (to : List ℕ) (session : ℕ) → HasCastSession s to session → HasCastSession t to session
  with_cast_session to session = subst (λ u. HasCastSession u to session) (sym same)

  was_under_way : (from to : List ℕ) (body : Body) → IsUnderWay t from to body → IsUnderWay s from to body
  was_under_way from to body = subst (λ u. IsUnderWay u from to body) same

pub awaited_stay : IsKept AnswersAreAwaited
awaited_stay b log ending ended moment awaited =
    let s = system_of log in
    let t = system_of (log ++ ending) in
    let same = ended.same.system in
    record {
      heards = λ from to session way.
          with_join_session s t same to session (awaited.heards from to session (was_under_way s t same from to (Heard session) way));
      acks = λ from to session way.
          with_join_session s t same to session (awaited.acks from to session (was_under_way s t same from to (Ack session) way));
      cast_acks = λ from to session way.
          with_cast_session s t same to session (awaited.cast_acks from to session (was_under_way s t same from to (CastAck session) way));
    }

pub cast_sessions_stay : IsKept RestHasNoCastSessions
cast_sessions_stay b log ending ended moment none rest x node number at =
    none (rest_before b log ending ended rest) x node number (sym (ap (λ (s : System). s.node x) ended.same.system) ∙ at)

-- ---- watch lists

watches_remember : Remembers WatchMemory (λ p s r move. watch_recalled_by s r move) watches_after
watches_remember = record {
  stays = λ p s r. refl;
  none = λ p before s r. refl;
  more = λ p before s r group groups. refl;
}

watches_begin : (b : Beginning) (groups : List (List Record)) → watches_from (begin_record b ∷ []) groups
    ≡ watches_after b.settings (begin_record b ∷ []) (system_at_rest b.settings b.members) none_answered groups
unfolding watches_from
watches_begin b groups = refl

same_watches : (b : Beginning) (log ending : List Record) → IsEnded b log ending → watches_of (log ++ ending) ≡ watches_of log
same_watches b log ending ended =
    memory_stays WatchMemory (λ p s r move. watch_recalled_by s r move) watches_after watches_remember b log ending ended watches_from none_answered
    (watches_begin b)

-- a step alone says of nobody that it is core
no_core_said : (n : List ℕ) (index : ℕ) (step : Step) → IsAmong (Core n) (StepRecord index step ∷ []) → ⊥
no_core_said n index step (inl same) = let wrong : Core n ≡ StepRecord index step = same in cc
no_core_said n index step (inr none) = none

-- the first covers are the same
module _ (b : Beginning) (log ending : List Record) (ended : IsEnded b log ending) where
  same_cover : (cover : FirstCover) → IsAmong cover (watches_of (log ++ ending)).covers → IsAmong cover (watches_of log).covers
  same_cover cover = subst (λ (r : WatchMemory). IsAmong cover r.covers) (same_watches b log ending ended)

pub watches_stay : IsKept WatchClauseHolds
watches_stay b log ending ended moment clause =
    let p = b.settings in
    let watches = same_watches b log ending ended in
    record {
      first = subst (λ s. (w n : List ℕ) (level : ℕ) → CoversAt s w n level → CoveredFirst (watches_of (log ++ ending)) w n)
          (sym ended.same.system)
          (subst (λ r. (w n : List ℕ) (level : ℕ) → CoversAt (system_of log) w n level → CoveredFirst r w n) (sym watches) clause.first);
      led = λ cover among.
          subst (λ s. ChainLeadsTo s cover.chain cover.table.owner cover.joiner cover.prefix) (sym ended.same.system)
          (clause.led cover (same_cover b log ending ended cover among));
      told = λ cover among.
          told_longer p log ending cover.joiner cover.chain (clause.told cover (same_cover b log ending ended cover among));
      answered = subst (λ (r : WatchMemory). (cover : FirstCover) → IsAmong cover r.covers → (slot : Slot)
          → IsWatched p cover.joiner cover.prefix slot → had_primary cover slot ≡ true → IsAnswered r cover.joiner slot cover.chain)
          (sym watches) clause.answered;
      core = each_group b log ending ended (CoreHasAnswersNow p) (CoreHasAnswersNow p) (λ before group has. has)
          (λ index step n says. absurd (no_core_said n index step says)) clause.core;
    }
