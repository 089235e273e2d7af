-- What is remembered beside the system, group by group, is the same once a log has its ending.
use Rattle.std.proofs.Common.{◌≡◌, inl, inr, List, [], ◌∷◌, ◌++◌, Option, None, ap, sym, ◌∙◌, append-nil, append_assoc}
use Rattle.tap_name.specs.Settings.{SettingsValue}
use Rattle.tap_log.specs.declared.record.Record.{Record}
use Rattle.tap_log.specs.declared.record.Record.TheVariants.{Step as StepRecord}
use Rattle.tap_history.specs.Groups.{beginning_of, groups_of, records_of}
use Rattle.tap_safety.specs.AtRest.{system_at_rest}
use Rattle.tap_safety.specs.Move.{Move}
use Rattle.tap_safety.specs.System.{System}
use Rattle.tap_runs.specs.Beginning.{Beginning, begin_record}
use Rattle.tap_runs.specs.Course.{move_of_group, moved_by}
use Rattle.tap_runs.proofs.CourseGrows.{log_is}
use Rattle.tap_headline.proofs.Ended.{IsEnded, beginning_stays}

-- What is remembered after some groups that follow a log: each recalls its move, and what makes none leaves it.
pub record Remembers (M : Type 0) (recall : SettingsValue → System → M → Option Move → M)
    (after : SettingsValue → List Record → System → M → List (List Record) → M) : Type 0 where
  pub stays : (p : SettingsValue) (s : System) (r : M) → recall p s r None ≡ r
  pub none : (p : SettingsValue) (before : List Record) (s : System) (r : M) → after p before s r [] ≡ r
  pub more : (p : SettingsValue) (before : List Record) (s : System) (r : M) (group : List Record) (groups : List (List Record))
      → after p before s r (group ∷ groups)
      ≡ after p (before ++ group) (moved_by p s (move_of_group before group)) (recall p s r (move_of_group before group)) groups

module _ (M : Type 0) (recall : SettingsValue → System → M → Option Move → M)
    (after : SettingsValue → List Record → System → M → List (List Record) → M) (remembers : Remembers M recall after) where
  -- one more group that moves nothing leaves what is remembered
  after_still : (p : SettingsValue) (before : List Record) (s : System) (r : M) (groups : List (List Record)) (group : List Record)
      → move_of_group (before ++ records_of groups) group ≡ None → after p before s r (groups ++ group ∷ []) ≡ after p before s r groups
  after_still p before s r [] group still =
      let none : move_of_group before group ≡ None = ap (λ l. move_of_group l group) (sym (append-nil before)) ∙ still in
      remembers.more p before s r group []
      ∙ remembers.none p (before ++ group) (moved_by p s (move_of_group before group)) (recall p s r (move_of_group before group))
      ∙ ap (recall p s r) none ∙ remembers.stays p s r ∙ sym (remembers.none p before s r)
  after_still p before s r (one ∷ groups) group still =
      let next = moved_by p s (move_of_group before one) in
      let recalled = recall p s r (move_of_group before one) in
      remembers.more p before s r one (groups ++ group ∷ [])
      ∙ after_still p (before ++ one) next recalled groups group
      (ap (λ l. move_of_group l group) (append_assoc before one (records_of groups)) ∙ still)
      ∙ sym (remembers.more p before s r one groups)

  -- so it is the same once a log has its ending
  module _ (b : Beginning) (log ending : List Record) (ended : IsEnded b log ending) (from : List Record → List (List Record) → M) (first : M)
      (begins : (groups : List (List Record)) → from (begin_record b ∷ []) groups
      ≡ after b.settings (begin_record b ∷ []) (system_at_rest b.settings b.members) first groups) where
    pub memory_stays : from (beginning_of (log ++ ending)) (groups_of (log ++ ending)) ≡ from (beginning_of log) (groups_of log)
    memory_stays =
        let start = begin_record b ∷ [] in
        let rest = system_at_rest b.settings b.members in
        ap (λ l. from l (groups_of (log ++ ending))) (beginning_stays b log ending ended) ∙
        elim ended.groups [
          | inl same ↦ ap (from (beginning_of log)) same
          | inr one ↦
              let group = StepRecord one.index one.step ∷ [] in
              let still : move_of_group (start ++ records_of (groups_of log)) group ≡ None =
              ap (λ l. move_of_group l group) (log_is b log ended.run.course ended.run.going) ∙ one.still in
              ap (from (beginning_of log)) one.groups ∙ ap (λ l. from l (groups_of log ++ group ∷ [])) ended.run.course.begins
              ∙ begins (groups_of log ++ group ∷ []) ∙ after_still b.settings start rest first (groups_of log) group still
              ∙ sym (begins (groups_of log)) ∙ ap (λ l. from l (groups_of log)) (sym ended.run.course.begins)
        ]
