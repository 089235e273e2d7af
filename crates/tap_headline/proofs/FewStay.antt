-- How few frames are sent of joins alone, and of lookups and publications that start at rest, stays so with the ending of a log.
use Rattle.std.proofs.Common.{◌≡◌, inl, inr, ℕ, ◌≤◌, not, All, List, [], ◌∷◌, ◌++◌, length, filter, None, append-nil, append_assoc, arith, refl, ap, sym, subst, ◌∙◌}
use Rattle.std.specs.Prelude.{fold, is_some}
use Rattle.std.specs.List.{cons_option, filter_map}
use Rattle.std.proofs.lemmas.List.Elements.{All-head, All-tail, filter_map-append}
use Rattle.tap_scenario.specs.declared.step.Step.{Step}
use Rattle.tap_scenario.specs.declared.step.Step.TheVariants.{Find, Publish}
use Rattle.tap_log.specs.declared.record.Record.{Record}
use Rattle.tap_log.specs.declared.record.Record.TheVariants.{Asked, Published, Sent, Step as StepRecord}
use Rattle.tap_log.specs.Counts.{sent_count}
use Rattle.tap_log.specs.Kinds.{sent_number}
use Rattle.tap_history.specs.Core.{accepted_steps, joins_of, members_of}
use Rattle.tap_history.specs.Names.{with_name}
use Rattle.tap_history.specs.StepAsks.{is_start, join_name}
use Rattle.tap_history.proofs.Less.{filter-twice}
use Rattle.tap_runs.specs.Beginning.{Beginning}
use Rattle.tap_safe_runs.proofs.Ended.{run_is_open, starts_no_join as no_start_joins}
use Rattle.tap_safe_runs.specs.Accepting.{AcceptNoStart}
use Rattle.tap_safe_runs.proofs.Splits.{all_at, none_in_first, parted_where}
use Rattle.tap_bounds_runs.specs.AtRest.{LookupsAtRestSendFew, PublicationsAtRestSendFew}
use Rattle.tap_bounds_runs.specs.Joins.{AcceptsJoinsAlone, JoinsSendFew, is_other_start, most_of_joins}
use Rattle.tap_headline.proofs.Ended.{IsEnded, IsPlain}
use Rattle.tap_headline.proofs.KeptByEnds.{IsKept}
use Rattle.tap_headline.proofs.Starts.{named_by_starts}

plain_sends_none : (item : Record) → IsPlain item → sent_number item ≡ None
unfolding IsPlain sent_number
plain_sends_none (Sent number bytes) plain = absurd plain
plain_sends_none item plain = refl

none_sent : (items : List Record) → All IsPlain items → filter_map sent_number items ≡ []
none_sent [] plain = refl
none_sent (item ∷ items) plain =
    ap (λ one. cons_option one (filter_map sent_number items)) (plain_sends_none item (All-head IsPlain item items plain))
    ∙ none_sent items (All-tail IsPlain item items plain)

-- records with such ones after them send no more frames
sent_with : (middle ending after : List Record) → All IsPlain ending → after ≡ middle ++ ending → sent_count after ≡ sent_count middle
sent_with middle ending after plain is =
    ap sent_count is
    ∙ ap length (filter_map-append sent_number middle ending ∙ ap (λ l. filter_map sent_number middle ++ l) (none_sent ending plain)
    ∙ append-nil (filter_map sent_number middle))

members_stay : (log ending : List Record) → 1 ≤ length log → members_of (log ++ ending) ≡ members_of log
members_stay [] ending begun = absurd (omega (arith, begun))
members_stay (first ∷ items) ending begun = refl

-- the starts that are no joins are among the starts
other_starts : (steps : List Step) → filter is_other_start steps ≡ filter (λ step. not (is_some (join_name step))) (filter is_start steps)
other_starts steps = filter-twice is_start (λ step. not (is_some (join_name step))) is_other_start (λ step. refl) steps

module _ (b : Beginning) (log ending : List Record) (ended : IsEnded b log ending) where
  abbrev longer : List Record
  longer = log ++ ending

  pub same_sent : sent_count longer ≡ sent_count log
  same_sent = sent_with log ending longer ended.plain refl

  same_joins : joins_of longer ≡ joins_of log
  same_joins =
      sym (named_by_starts join_name no_start_joins (accepted_steps longer)) ∙ ap (filter_map join_name) ended.same.starts
      ∙ named_by_starts join_name no_start_joins (accepted_steps log)

  accepted_before : AcceptsJoinsAlone longer → AcceptsJoinsAlone log
  accepted_before alone =
      other_starts (accepted_steps log) ∙ ap (filter (λ step. not (is_some (join_name step)))) (sym ended.same.starts)
      ∙ sym (other_starts (accepted_steps longer)) ∙ alone

pub joins_stay : IsKept JoinsSendFew
joins_stay b log ending ended moment few alone =
    let p = b.settings in
    let longer = log ++ ending in
    let members = members_stay log ending (run_is_open b log ended.run).begun in
    let was = few (accepted_before b log ending ended alone) in
    subst (λ l. sent_count longer ≤ most_of_joins p (length l) (length (fold with_name [] (members_of longer ++ l))))
    (sym (same_joins b log ending ended))
    (subst (λ l. sent_count longer ≤ most_of_joins p (length (joins_of log)) (length (fold with_name [] (l ++ joins_of log)))) (sym members)
    (subst (λ n. n ≤ most_of_joins p (length (joins_of log)) (length (fold with_name [] (members_of log ++ joins_of log))))
    (sym (same_sent b log ending ended)) was))

-- ---- at rest

-- a start and what is said of it first stand in the log, and what comes after them in the longer log has the ending last
record StandsInLog (log ending before : List Record) (first second : Record) (after : List Record) : Type 0 where
  middle : List Record
  is : log ≡ before ++ first ∷ second ∷ middle
  after_is : after ≡ middle ++ ending

stands_in_log : (log ending before : List Record) (first second : Record) (after : List Record) → All IsPlain ending → (IsPlain second → ⊥)
    → log ++ ending ≡ before ++ first ∷ second ∷ after → StandsInLog log ending before first second after
stands_in_log log ending before first second after plain other is =
    let front = before ++ first ∷ [] in
    let parts : log ++ ending ≡ front ++ second ∷ after = is ∙ sym (append_assoc before (first ∷ []) (second ∷ after)) in
    elim (parted_where log ending front (second ∷ after) parts) [
      | inl past ↦ absurd (other (all_at IsPlain ending past.middle second after plain past.back))
      | inr within ↦
          let back = within.back in
          let same : second ≡ within.first = cc in
          record {
            middle = within.middle;
            is =
                within.front ∙ ap (λ item. front ++ item ∷ within.middle) (sym same)
                ∙ append_assoc before (first ∷ []) (second ∷ within.middle);
            after_is = let rest : after ≡ within.middle ++ ending = cc in rest;
          }
    ]

no_asked : (ticket : ℕ) (object asker : List ℕ) → IsPlain (Asked ticket object asker) → ⊥
unfolding IsPlain
no_asked ticket object asker plain = plain

no_published : (object server : List ℕ) → IsPlain (Published object server) → ⊥
unfolding IsPlain
no_published object server plain = plain

pub lookup_frames_stay : IsKept LookupsAtRestSendFew
lookup_frames_stay b log ending ended moment few before after ticket object asker asked none =
    let first = StepRecord asked.index (Find object asker) in
    let second = Asked ticket object asker in
    let stands = stands_in_log log ending before first second after ended.plain (no_asked ticket object asker) asked.is in
    let was = few before stands.middle ticket object asker (record { index = asked.index; is = stands.is; rest = asked.rest })
    (none_in_first stands.middle ending (subst AcceptNoStart stands.after_is none)) in
    let same = sent_with stands.middle ending after ended.plain stands.after_is in
    omega (arith, was, same)

pub publication_frames_stay : IsKept PublicationsAtRestSendFew
publication_frames_stay b log ending ended moment few before after object server published none =
    let first = StepRecord published.index (Publish object server) in
    let second = Published object server in
    let stands = stands_in_log log ending before first second after ended.plain (no_published object server) published.is in
    let was = few before stands.middle object server (record { index = published.index; is = stands.is; rest = published.rest })
    (none_in_first stands.middle ending (subst AcceptNoStart stands.after_is none)) in
    let same = sent_with stands.middle ending after ended.plain stands.after_is in
    omega (arith, was, same)
