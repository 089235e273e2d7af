-- A number above those of all casts that a node has met stays one, if it is raised by the news of each step.
use Rattle.std.proofs.Common.{◌≡◌, ◌<◌, ◌≤◌, ℕ, Bool, true, false, cond, List, [], ◌∷◌, Some, refl, sym, subst, ap, ◌∙◌, arith, true≢false}
use Rattle.std.specs.Prelude.{if◌then◌else◌}
use Rattle.std.specs.BTreeMap.{insert_entry}
use Rattle.std.specs.Map.{keys_of}
use Rattle.std.specs.Option.{is_none}
use Rattle.std.specs.Ordering.{is_eq, nat_cmp}
use Rattle.std.specs.declared.cmp.Ordering.{Ordering}
use Rattle.std.specs.declared.cmp.Ordering.TheVariants.{Less, Equal, Greater}
use Rattle.std.proofs.lemmas.List.Elements.{All-nil, All-head, All-tail}
use Rattle.std.proofs.lemmas.Map.Views.{All-keys-insert_entry}
use Rattle.std.proofs.lemmas.Map.Lookups.{exact_unsigned}
use Rattle.tap_table.specs.Table.{TableValue}
use Rattle.tap_table.specs.Levels.{is_kept, sent_from}
use Rattle.tap_cast.specs.declared.casts.CastTurn.{CastTurn}
use Rattle.tap_cast.specs.declared.casts.CastTurn.TheVariants.{Already, Now}
use Rattle.tap_cast.specs.declared.target.CastTarget.{CastTarget}
use Rattle.tap_cast.specs.Targets.{cast_targets}
use Rattle.tap_cast.specs.Casts.{CastsValue, level_of_cast, turn_of, with_cast}
use Rattle.tap_wire.specs.declared.frame.Frame.{Frame}
use Rattle.tap_rule.specs.Node.{NodeState, Status}
use Rattle.tap_rule.specs.Event.{Acted, News, Start}
use Rattle.tap_rule.specs.Event.Event.{Starts, Takes}
use Rattle.tap_rule.specs.Event.News.{Nothing, Core, Gone, Answered, Cast}
use Rattle.tap_rule.specs.Reaction.{Reaction}
use Rattle.tap_rule.specs.Casts.{Copy, cast_news, is_root}
use Rattle.tap_rule.specs.Act.{act}
use Rattle.tap_rule.specs.RuleLaws.{IsCarriedOut}
use Rattle.tap_rule.proofs.Cases.{Cause, RuleCase}
use Rattle.tap_rule.proofs.Cases.RuleCase.{CastsAlone, CastsOn, HasCeased, IsGoneNow}
use Rattle.tap_rule.proofs.EachAct.{each_start, each_take}
use Rattle.tap_node_common.specs.StepsAs.{news_seen}
use Rattle.tap_host.specs.Actor.{AreMetBelow, below_after}

-- the number after news of the rule
abbrev pub raised : ℕ → News → ℕ
raised below news = below_after below (news_seen news)

-- it doesn't fall
at_least : (below : ℕ) (news : News) → below ≤ raised below news
at_least below Nothing = omega arith
at_least below Core = omega arith
at_least below Gone = omega arith
at_least below (Answered ticket server) = omega arith
at_least below (Cast cast true closed) = omega arith
at_least below (Cast cast false closed) = omega arith

higher : (a b : ℕ) (casts : CastsValue) → a ≤ b → AreMetBelow a casts → AreMetBelow b casts
higher a b casts up met = λ k d within. let least = met k d within in omega (arith, least, up)

equal_of : (order : Ordering) → is_eq order ≡ true → order ≡ Equal
equal_of Less is = absurd (true≢false (sym is))
equal_of Equal is = refl
equal_of Greater is = absurd (true≢false (sym is))

-- a cast that was met is below it
pub known_below : (below cast : ℕ) (casts : CastsValue) → AreMetBelow below casts → is_none (level_of_cast casts cast) ≡ false → cast < below
known_below below cast [] met known = absurd (true≢false known)
known_below below cast (e ∷ es) met known =
    by (is_eq (nat_cmp cast e.0)) refl (λ more. known_below below cast es (All-tail (λ other. other < below) e.0 (keys_of es) met) more)
  where
    by : (same : Bool) → is_eq (nat_cmp cast e.0) ≡ same → (is_none (level_of_cast es cast) ≡ false → cast < below) → cast < below
    by true is others =
        let one : cast ≡ e.0 = exact_unsigned cast e.0 (equal_of (nat_cmp cast e.0) is) in
        let least : e.0 < below = All-head (λ other. other < below) e.0 (keys_of es) met in
        omega (arith, one, least)
    by false is others = others (ap (λ b. is_none (cond b (Some e.1) (level_of_cast es cast))) (sym is) ∙ known)

-- a cast is met
met_more : (below : ℕ) (casts : CastsValue) (cast level : ℕ) → AreMetBelow below casts → cast < below → AreMetBelow below (with_cast casts cast level)
met_more below casts cast level met up = by_test (is_kept (level_of_cast casts cast) level)
  where
    by_test : (kept : Bool) → AreMetBelow below (if kept then casts else insert_entry nat_cmp casts cast level)
    by_test true = met
    by_test false = All-keys-insert_entry nat_cmp cast level (λ other. other < below) casts met up

-- whether a cast is met for the first time
is_first : (casts : CastsValue) (t : TableValue) (cast level : ℕ) (first : Bool) (targets : List CastTarget)
    → turn_of casts t cast level ≡ Now first targets → is_none (level_of_cast casts cast) ≡ first
is_first casts t cast level first targets turn = by (is_kept (level_of_cast casts cast) level) refl
  where
    first_of : CastTurn → Bool
    first_of Already = false
    first_of (Now anew others) = anew

    turn_if : Bool → CastTurn
    turn_if kept =
        cond kept Already (Now (is_none (level_of_cast casts cast)) (cast_targets t level (sent_from t.settings.digits (level_of_cast casts cast))))

    by : (kept : Bool) → is_kept (level_of_cast casts cast) level ≡ kept → is_none (level_of_cast casts cast) ≡ first
    by true is = absurd (let bad : Already ≡ Now first targets = ap turn_if (sym is) ∙ turn in cc)
    by false is = ap first_of (ap turn_if (sym is) ∙ turn)

-- what a rule leaves
record RuleMet (below : ℕ) (r : Reaction) : Type 0 where
  met : AreMetBelow (raised below r.news) r.state.casts

module _ (node : NodeState) (below : ℕ) (met : AreMetBelow below node.casts) where
  abbrev pub RaisesTo : News → CastsValue → Type 0
  RaisesTo news casts = AreMetBelow (raised below news) casts

  -- casts that stay
  stays : (r : Reaction) → r.state.casts ≡ node.casts → RuleMet below r
  stays r same = record {
    met = subst (RaisesTo r.news) (sym same) (higher below (raised below r.news) node.casts (at_least below r.news) met);
  }

  -- a cast is sent on
  sent_on : (copy : Copy) (closed first : Bool) → is_none (level_of_cast node.casts copy.cast) ≡ first
      → RaisesTo (cast_news copy.cast first closed) (with_cast node.casts copy.cast copy.level)
  sent_on copy closed true is =
      let up = raised below (Cast copy.cast true closed) in
      met_more up node.casts copy.cast copy.level (higher below up node.casts (at_least below (Cast copy.cast true closed)) met) (omega arith)
  sent_on copy closed false is =
      higher below (raised below (cast_news copy.cast false closed)) (with_cast node.casts copy.cast copy.level)
      (at_least below (cast_news copy.cast false closed))
      (met_more below node.casts copy.cast copy.level met (known_below below copy.cast node.casts met is))

  rule_met : {status : Status} {cause : Cause} {r : Reaction} → RuleCase node status cause r → RuleMet below r
  rule_met (HasCeased given_up) = record { met = All-nil (λ cast. cast < below) }
  rule_met (IsGoneNow parting none) = record { met = All-nil (λ cast. cast < below) }
  rule_met (CastsAlone {copy = copy} {first = first} of is) = record {
    met = sent_on copy (is_root copy.parent) first (is_first node.casts node.ties.table copy.cast copy.level first [] is);
  }
  rule_met (CastsOn {copy = copy} {first = first} {target = target} {targets = targets} of is) = record {
    met = sent_on copy false first (is_first node.casts node.ties.table copy.cast copy.level first (target ∷ targets) is);
  }
  rule_met _ = stays _ refl

  -- what a step leaves
  abbrev pub ActsMet : Acted → Type 0
  ActsMet acted = RaisesTo acted.news acted.state.casts

  carried : {cause : Cause} (r : Reaction) (acted : Acted) → RuleCase node node.status cause r → IsCarriedOut node r acted → ActsMet acted
  carried r acted case out =
      subst (λ news. RaisesTo news acted.state.casts) (sym out.news) (subst (RaisesTo r.news) (sym out.casts) ((rule_met case).met))

  pub takes_met : (frame : Frame) → ActsMet (act node (Takes frame))
  takes_met frame = each_take node ActsMet met frame met (λ fit r acted case out. carried r acted case out)

  pub starts_met : (start : Start) → ActsMet (act node (Starts start))
  starts_met start = each_start node ActsMet met start (λ r acted case out. carried r acted case out)
