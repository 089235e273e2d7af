-- The core names of a log are distinct, once a group has added one that is new.
use Rattle.std.proofs.Common.{◌≡◌, inl, inr, ℕ, Bool, true, false, not, List, [], ◌∷◌, ◌++◌, refl, ap, sym, subst, cond, ◌∙◌, append-nil}
use Rattle.std.specs.List.{filter_map}
use Rattle.std.proofs.lemmas.Bool.{and_from, and_parts, cases_Bool}
use Rattle.tap_name.specs.Names.{Among, are_distinct, has_name, names_without}
use Rattle.tap_name.proofs.Membership.{among-append, among-names_without, has_name-no}
use Rattle.tap_log.specs.declared.record.Record.{Record}
use Rattle.tap_log.specs.Kinds.{core_name}
use Rattle.tap_history.specs.Core.{core_of, gone_of}
use Rattle.tap_history.specs.GroupLaws.{IsGroup}
use Rattle.tap_history.proofs.Telling.{core_of-group}
use Rattle.tap_runs.proofs.Nodes.{one_if}

-- ---- distinct names

-- distinct names without some are distinct
fewer_distinct : (names others : List (List ℕ)) → are_distinct names ≡ true → are_distinct (names_without names others) ≡ true
fewer_distinct [] others is = refl
fewer_distinct (x ∷ names) others is =
    let parts = and_parts (not (has_name names x)) (are_distinct names) is in
    let left = names_without names others in
    let rest : are_distinct left ≡ true = fewer_distinct names others parts.1 in
    let apart : not (has_name left x) ≡ true =
    (has_name-no left x).1 (λ among. (has_name-no names x).0 parts.0 ((among-names_without names others x).0 among).0) in
    let both : are_distinct (x ∷ left) ≡ true = and_from (not (has_name left x)) (are_distinct left) apart rest in
    elim (cases_Bool (has_name others x)) [
      | inl gone ↦ subst (λ b. are_distinct (cond {A = List (List ℕ)} (not b) (x ∷ left) left) ≡ true) (sym gone) rest
      | inr stays ↦ subst (λ b. are_distinct (cond {A = List (List ℕ)} (not b) (x ∷ left) left) ≡ true) (sym stays) both
    ]

-- with one more name, which is new, they are distinct too
more_distinct : (names : List (List ℕ)) (x : List ℕ) → (Among x names → ⊥) → are_distinct names ≡ true
    → are_distinct (names ++ x ∷ []) ≡ true
more_distinct [] x new is = refl
more_distinct (y ∷ names) x new is =
    let parts = and_parts (not (has_name names y)) (are_distinct names) is in
    let more = names ++ x ∷ [] in
    let rest : are_distinct more ≡ true = more_distinct names x (λ among. new (inr among)) parts.1 in
    let apart : not (has_name more y) ≡ true =
    (has_name-no more y).1 (λ among. elim ((among-append names (x ∷ []) y).0 among) [
      | inl one ↦ (has_name-no names y).0 parts.0 one
      | inr other ↦ elim other [ inl same ↦ new (inl (sym same)) | inr never ↦ never ]
    ]) in
    and_from (not (has_name more y)) (are_distinct more) apart rest

-- ---- the core names of a log

-- a group adds at most one core name, and that one is new
pub record AddsCore (log group : List Record) : Type 0 where
  pub name : List ℕ
  pub comes : Bool
  pub is : filter_map core_name group ≡ one_if comes name
  pub new : comes ≡ true → has_name (core_of log) name ≡ false

module _ (log : List Record) (first : Record) (after : List Record) (group : IsGroup log first after) where
  -- the core names with the one that the group adds, if it adds one that isn't gone
  distinct_with : (adds : AddsCore log (first ∷ after)) → are_distinct (core_of log) ≡ true
      → (comes : Bool) → adds.comes ≡ comes → (ended : Bool) → has_name (gone_of log) adds.name ≡ ended
      → are_distinct (core_of log ++ names_without (one_if comes adds.name) (gone_of log)) ≡ true
  distinct_with adds distinct false is ended gone = ap are_distinct (append-nil (core_of log)) ∙ distinct
  distinct_with adds distinct true is true gone =
      ap (λ b. are_distinct (core_of log ++ cond {A = List (List ℕ)} (not b) (adds.name ∷ []) [])) gone
      ∙ ap are_distinct (append-nil (core_of log)) ∙ distinct
  distinct_with adds distinct true is false gone =
      let none : not (has_name (core_of log) adds.name) ≡ true = ap not (adds.new is) in
      ap (λ b. are_distinct (core_of log ++ cond {A = List (List ℕ)} (not b) (adds.name ∷ []) [])) gone
      ∙ more_distinct (core_of log) adds.name ((has_name-no (core_of log) adds.name).0 none) distinct

  -- so the core names are distinct after the group, too
  pub distinct_after : AddsCore log (first ∷ after) → are_distinct (core_of log) ≡ true
      → are_distinct (core_of (log ++ first ∷ after)) ≡ true
  distinct_after adds distinct =
      ap are_distinct (core_of-group log first after group)
      ∙ ap (λ l. are_distinct (names_without (core_of log ++ names_without l (gone_of log)) (gone_of (first ∷ after)))) adds.is
      ∙ fewer_distinct (core_of log ++ names_without (one_if adds.comes adds.name) (gone_of log)) (gone_of (first ∷ after))
      (distinct_with adds distinct adds.comes refl (has_name (gone_of log) adds.name) refl)
