-- Which pairs a log has as published after one more group.
use Rattle.std.proofs.Common.{◌≡◌, ℕ, nat_eq, not, Bool, true, false, cond, List, [], ◌∷◌, ◌++◌, filter, refl, ap, sym, ◌∙◌}
use Rattle.std.specs.Prelude.{◌&&◌, ◌||◌}
use Rattle.std.specs.Cmp.Lexicographic.{pointwise}
use Rattle.std.specs.List.{filter_map}
use Rattle.std.proofs.lemmas.Bool.{and_parts}
use Rattle.std.proofs.lemmas.List.Elements.{filter_map-append}
use Rattle.std.proofs.lemmas.List.Folds.{list_any-append}
use Rattle.std.proofs.lemmas.Slice.Eq.{bytes_eq-Decides}
use Rattle.tap_name.specs.Names.{has_name}
use Rattle.tap_log.specs.declared.record.Pair as logged
use Rattle.tap_log.specs.declared.record.Record.{Record}
use Rattle.tap_log.specs.Kinds.{is_carried, withdrawn_pair}
use Rattle.tap_history.specs.Core.{accepted_in, accepted_steps, departures_of}
use Rattle.tap_history.specs.GroupLaws.{IsGroup, accepted_of}
use Rattle.tap_history.specs.Published.{has_pair, pairs_less, published_of, same_pair, unwithdrawn_pairs, without_servers}
use Rattle.tap_history.specs.StepAsks.{depart_name}
use Rattle.tap_history.proofs.OneMoreGroup.{accepted_in-group, is_carried-group}
use Rattle.tap_history.proofs.Telling.{published_of-group}

-- ---- pairs among others

pub and_false : (b : Bool) → (b && false) ≡ false
and_false true = refl
and_false false = refl

pub or_false : (b : Bool) → (b || false) ≡ b
or_false true = refl
or_false false = refl

make_pair : List ℕ → List ℕ → logged.Pair
make_pair object server = record { object = object; server = server }

-- two pairs that are the same are one
pub same_pair_is : (a b : logged.Pair) → same_pair a b ≡ true → a ≡ b
unfolding make_pair
same_pair_is a b same =
    let parts = and_parts (pointwise nat_eq a.object b.object) (pointwise nat_eq a.server b.server) same in
    let object = (bytes_eq-Decides a.object b.object).0 parts.0 in
    let server = (bytes_eq-Decides a.server b.server).0 parts.1 in
    ap (λ n. make_pair n a.server) object ∙ ap (make_pair b.object) server

-- a pair is among those that pass exactly if it passes and is among all
pub has_filter : (passes : logged.Pair → Bool) (pairs : List logged.Pair) (q : logged.Pair)
    → has_pair (filter passes pairs) q ≡ (passes q && has_pair pairs q)
has_filter passes [] q = sym (and_false (passes q))
has_filter passes (x ∷ pairs) q = by_test (passes x) refl (same_pair x q) refl (has_filter passes pairs q)
  where
    by_test : (pass : Bool) → passes x ≡ pass → (same : Bool) → same_pair x q ≡ same
        → has_pair (filter passes pairs) q ≡ (passes q && has_pair pairs q)
        → has_pair (cond {A = List logged.Pair} pass (x ∷ filter passes pairs) (filter passes pairs)) q
        ≡ (passes q && (same || has_pair pairs q))
    by_test true is true at rest =
        let all : passes q ≡ true = ap passes (sym (same_pair_is x q at)) ∙ is in
        ap (λ b. b || has_pair (filter passes pairs) q) at ∙ sym (ap (λ b. b && true) all)
    by_test true is false at rest = ap (λ b. b || has_pair (filter passes pairs) q) at ∙ rest
    by_test false is true at rest =
        let none : passes q ≡ false = ap passes (sym (same_pair_is x q at)) ∙ is in
        rest ∙ ap (λ b. b && has_pair pairs q) none ∙ sym (ap (λ b. b && true) none)
    by_test false is false at rest = rest

has_without : (servers : List (List ℕ)) (pairs : List logged.Pair) (q : logged.Pair)
    → has_pair (without_servers servers pairs) q ≡ (not (has_name servers q.server) && has_pair pairs q)
has_without servers pairs q = has_filter (λ pair. not (has_name servers pair.server)) pairs q

has_less : (ended pairs : List logged.Pair) (q : logged.Pair)
    → has_pair (pairs_less pairs ended) q ≡ (not (has_pair ended q) && has_pair pairs q)
has_less ended pairs q = has_filter (λ pair. not (has_pair ended pair)) pairs q

-- ---- one more group

module _ (log : List Record) (first : Record) (after : List Record) (group : IsGroup log first after) (uncarried : is_carried log ≡ false)
    (left : List (List ℕ)) (named : filter_map depart_name (accepted_in false (first ∷ after)) ≡ left) where
  named_here : filter_map depart_name (accepted_of log (first ∷ after)) ≡ left
  named_here = ap (λ c. filter_map depart_name (accepted_in c (first ∷ after))) uncarried ∙ named

  -- who has left is joined by those who leave with the group
  pub departures_after : departures_of (log ++ first ∷ after) ≡ departures_of log ++ left
  departures_after =
      ap (filter_map depart_name)
      (ap (λ c. accepted_in c (log ++ first ∷ after)) (is_carried-group (is_carried log) log first after group.begins)
      ∙ accepted_in-group (is_carried log) log first after group.begins)
      ∙ filter_map-append depart_name (accepted_steps log) (accepted_of log (first ∷ after))
      ∙ ap (λ l. departures_of log ++ l) named_here

  -- and the published pairs are those that were, but for these that are withdrawn, with these that are new
  pub published_after : (ended new : List logged.Pair) → filter_map withdrawn_pair (first ∷ after) ≡ ended
      → unwithdrawn_pairs (first ∷ after) ≡ new → (q : logged.Pair)
      → has_pair (published_of (log ++ first ∷ after)) q
      ≡ (not (has_name left q.server) && ((not (has_pair ended q) && has_pair (published_of log) q)
      || (not (has_name (departures_of log) q.server) && has_pair new q)))
  published_after ended new withdrawn is q =
      let kept : List logged.Pair = pairs_less (published_of log) ended in
      let come : List logged.Pair = without_servers (departures_of log) new in
      let whole : published_of (log ++ first ∷ after) ≡ without_servers left (kept ++ come) =
      published_of-group log first after group
      ∙ ap (λ l. without_servers l (pairs_less (published_of log) (filter_map withdrawn_pair (first ∷ after))
      ++ without_servers (departures_of log) (unwithdrawn_pairs (first ∷ after)))) named_here
      ∙ ap (λ l. without_servers left (pairs_less (published_of log) l
      ++ without_servers (departures_of log) (unwithdrawn_pairs (first ∷ after)))) withdrawn
      ∙ ap (λ l. without_servers left (kept ++ without_servers (departures_of log) l)) is in
      ap (λ l. has_pair l q) whole ∙ has_without left (kept ++ come) q
      ∙ ap (λ b. not (has_name left q.server) && b) (list_any-append (λ other. same_pair other q) kept come)
      ∙ ap (λ b. not (has_name left q.server) && (b || has_pair come q)) (has_less ended (published_of log) q)
      ∙ ap (λ b. not (has_name left q.server) && ((not (has_pair ended q) && has_pair (published_of log) q) || b))
      (has_without (departures_of log) new q)
