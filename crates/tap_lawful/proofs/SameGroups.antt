-- Two logs in which one and the same group comes next are the same, or one goes on after the other.
-- Cited above: begins_with, Compared, GoesOn
use Rattle.std.proofs.Common.{◌≡◌, ◌⊎◌, inl, inr, false, List, [], ◌∷◌, ◌++◌, length, take, Option, Some, refl, ap, sym, subst, ◌∙◌, append-nil, append_assoc}
use Rattle.std.proofs.Math.Seq.{take-append_seam}
use Rattle.tap_log.specs.declared.record.Record.{Record}
use Rattle.tap_history.specs.Groups.{EachGroup, EachGroupFrom, beginning_of, groups_of, is_ended, records_of}
use Rattle.tap_history.proofs.Parts.{log_is_groups}
use Rattle.tap_lawful.specs.PlayedLaws.{BeginsWith}

-- a list begins with its front
pub begins_with : (first rest log : List Record) → log ≡ first ++ rest → BeginsWith first log
begins_with first rest log is = ap (take (length first)) is ∙ take-append_seam first rest

module _ (next : List Record → Option (List Record)) where
  -- the group is the one that comes next
  abbrev pub Comes : List Record → List Record → Type 0
  Comes before group = next before ≡ Some group

  -- after the one log a group comes with which the other one goes on
  pub record GoesOn (one other : List Record) : Type 0 where
    pub group : List Record
    pub later : List Record
    pub comes : Comes one group
    pub is : other ≡ (one ++ group) ++ later

  -- two logs are the same, or one goes on
  abbrev pub Compared : List Record → List Record → Type 0
  Compared one other = (one ≡ other) ⊎ (GoesOn one other ⊎ GoesOn other one)

  compared : (before : List Record) (ones others : List (List Record)) → EachGroupFrom Comes before ones
      → EachGroupFrom Comes before others → Compared (before ++ records_of ones) (before ++ records_of others)
  compared before [] [] each also = inl refl
  compared before [] (other ∷ others) each also =
      inr (inl (record {
        group = other;
        later = records_of others;
        comes = subst (λ l. Comes l other) (sym (append-nil before)) also.0;
        is = sym (append_assoc before other (records_of others))
            ∙ ap (λ l. (l ++ other) ++ records_of others) (sym (append-nil before));
      }))
  compared before (one ∷ ones) [] each also =
      inr (inr (record {
        group = one;
        later = records_of ones;
        comes = subst (λ l. Comes l one) (sym (append-nil before)) each.0;
        is = sym (append_assoc before one (records_of ones)) ∙ ap (λ l. (l ++ one) ++ records_of ones) (sym (append-nil before));
      }))
  compared before (one ∷ ones) (other ∷ others) each also =
      let same : one ≡ other = let both = sym each.0 ∙ also.0 in cc in
      let rest = compared (before ++ one) ones others each.1
      (subst (λ g. EachGroupFrom Comes (before ++ g) others) (sym same) also.1) in
      let all : (before ++ one) ++ records_of others ≡ before ++ records_of (other ∷ others) =
      append_assoc before one (records_of others) ∙ ap (λ g. before ++ (g ++ records_of others)) same in
      subst (λ l. Compared l (before ++ records_of (other ∷ others))) (append_assoc before one (records_of ones))
      (subst (Compared ((before ++ one) ++ records_of ones)) all rest)

  -- logs that begin with these records and haven't ended
  pub logs_compared : (start one other : List Record) → beginning_of one ≡ start → beginning_of other ≡ start
      → is_ended one ≡ false → is_ended other ≡ false → EachGroup Comes one → EachGroup Comes other → Compared one other
  logs_compared start one other begins starts going goes each also =
      let from : List Record → Type 0 = λ l. EachGroupFrom Comes l (groups_of one) in
      let onward : List Record → Type 0 = λ l. EachGroupFrom Comes l (groups_of other) in
      let one_is : start ++ records_of (groups_of one) ≡ one =
      ap (λ l. l ++ records_of (groups_of one)) (sym begins) ∙ log_is_groups one going in
      let other_is : start ++ records_of (groups_of other) ≡ other =
      ap (λ l. l ++ records_of (groups_of other)) (sym starts) ∙ log_is_groups other goes in
      subst (λ l. Compared l other) one_is
      (subst (Compared (start ++ records_of (groups_of one))) other_is
      (compared start (groups_of one) (groups_of other) (subst from begins each) (subst onward starts also)))
