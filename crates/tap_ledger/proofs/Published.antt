-- Which pairs are published after one more record.
use Rattle.std.proofs.Common.{◌≡◌, ℕ, Bool, true, false, not, List, [], ◌∷◌, ◌++◌, filter, nat_eq, Option, None, Some, refl, ap, ◌∙◌, cond}
use Rattle.std.specs.Prelude.{◌&&◌, ◌||◌, option_and_then}
use Rattle.std.specs.Cmp.Lexicographic.{pointwise}
use Rattle.std.proofs.lemmas.List.Folds.{list_any-append}
use Rattle.std.proofs.lemmas.Slice.Eq.{bytes_eq-Decides}
use Rattle.tap_name.specs.Names.{has_name}
use Rattle.tap_log.specs.declared.record.Pair.{Pair}
use Rattle.tap_log.specs.declared.record.Record.{Record}
use Rattle.tap_log.specs.Kinds.{is_carried, published_pair, withdrawn_pair}
use Rattle.tap_log.specs.MoreRecords.{at_most_one}
use Rattle.tap_log.specs.Log.{last_of}
use Rattle.tap_history.specs.Core.{departures_of}
use Rattle.tap_history.specs.Published.{has_pair, pairs_less, published_of, same_pair, without_servers}
use Rattle.tap_history.specs.StepAsks.{depart_name}
use Rattle.tap_history.proofs.RecordChanges.{published_of-push}
use Rattle.tap_ledger.specs.NameLists.{accepted_after}
use Rattle.tap_ledger.specs.Pairs.{has_after, is_name, is_this_pair}
use Rattle.tap_ledger.proofs.Accepted.{named}
use Rattle.tap_ledger.proofs.Conditions.{and_no, both_left, both_right, or_no, passes_or}

make_pair : List ℕ → List ℕ → Pair
make_pair object server = record { object = object; server = server }

-- pairs that pass the test for equality are equal
pub same_pair_is : (x q : Pair) → same_pair x q ≡ true → x ≡ q
unfolding make_pair
same_pair_is x q same =
    let o = pointwise nat_eq x.object q.object in
    let s = pointwise nat_eq x.server q.server in
    let object = (bytes_eq-Decides x.object q.object).0 (both_left o s same) in
    let server = (bytes_eq-Decides x.server q.server).0 (both_right o s same) in
    ap (λ n. make_pair n x.server) object ∙ ap (make_pair q.object) server

-- a pair is among those of which the first one stays or goes
has_first : (passes : Bool) (x : Pair) (pairs : List Pair) (q : Pair)
    → has_pair (cond {A = List Pair} passes (x ∷ pairs) pairs) q
    ≡ cond {A = Bool} passes (same_pair x q || has_pair pairs q) (has_pair pairs q)
has_first true x pairs q = refl
has_first false x pairs q = refl

-- a pair is among those that pass exactly if it passes and is among all
pub has_filter : (p : Pair → Bool) (pairs : List Pair) (q : Pair) → has_pair (filter p pairs) q ≡ (p q && has_pair pairs q)
has_filter p [] q = and_no (p q)
has_filter p (x ∷ pairs) q =
    has_first (p x) x (filter p pairs) q
    ∙ ap (λ f. cond {A = Bool} (p x) (same_pair x q || f) f) (has_filter p pairs q)
    ∙ passes_or (p x) (same_pair x q) (p q) (has_pair pairs q) (λ same. ap p (same_pair_is x q same))

-- a pair is among at most one if it is that one
has_one : (one : Option Pair) (q : Pair) → has_pair (at_most_one one) q ≡ is_this_pair one q
has_one None q = refl
has_one (Some x) q = or_no (same_pair x q)

-- a name is among at most one if it is that one
pub has_one_name : (one : Option (List ℕ)) (name : List ℕ) → has_name (at_most_one one) name ≡ is_name one name
has_one_name None name = refl
has_one_name (Some x) name = or_no (pointwise nat_eq x name)

-- a pair is among those without some servers if it is among all, and its server is none of these
has_without : (servers : List (List ℕ)) (pairs : List Pair) (q : Pair)
    → has_pair (without_servers servers pairs) q ≡ (not (has_name servers q.server) && has_pair pairs q)
has_without servers pairs q = has_filter (λ pair. not (has_name servers pair.server)) pairs q

-- a pair is among the first but the second ones if it is among the first and not the second
has_less : (ended pairs : List Pair) (q : Pair) → has_pair (pairs_less pairs ended) q ≡ (not (has_pair ended q) && has_pair pairs q)
has_less ended pairs q = has_filter (λ pair. not (has_pair ended pair)) pairs q

-- all of this together
has_all : (published : List Pair) (departed : List (List ℕ)) (departs : Option (List ℕ)) (withdrawn one : Option Pair) (q : Pair)
    → has_pair (without_servers (at_most_one departs)
    (pairs_less published (at_most_one withdrawn) ++ without_servers departed (at_most_one one))) q
    ≡ has_after (has_pair published) withdrawn one departed departs q
has_all published departed departs withdrawn one q =
    let left = pairs_less published (at_most_one withdrawn) in
    let new = without_servers departed (at_most_one one) in
    let goes = not (is_name departs q.server) in
    has_without (at_most_one departs) (left ++ new) q
    ∙ ap (λ b. not b && has_pair (left ++ new) q) (has_one_name departs q.server)
    ∙ ap (λ b. goes && b) (list_any-append (λ other. same_pair other q) left new)
    ∙ ap (λ b. goes && (b || has_pair new q)) (has_less (at_most_one withdrawn) published q
    ∙ ap (λ b. not b && has_pair published q) (has_one withdrawn q))
    ∙ ap (λ b. goes && ((not (is_this_pair withdrawn q) && has_pair published q) || b)) (has_without departed (at_most_one one) q
    ∙ ap (λ b. not (has_name departed q.server) && b) (has_one one q))

-- which pairs are published after one more record of a log that isn't carried
pub published_after : (log : List Record) (item : Record) → is_carried log ≡ false → (q : Pair)
    → has_pair (published_of (log ++ item ∷ [])) q
    ≡ has_after (has_pair (published_of log)) (withdrawn_pair item) (published_pair item) (departures_of log)
    (option_and_then depart_name (accepted_after (last_of log) item)) q
published_after log item uncarried q =
    let all : List (List ℕ) → List Pair = λ servers. without_servers servers
    (pairs_less (published_of log) (at_most_one (withdrawn_pair item))
    ++ without_servers (departures_of log) (at_most_one (published_pair item))) in
    ap (λ l. has_pair l q) (published_of-push log item)
    ∙ ap (λ servers. has_pair (all servers) q) (named depart_name log item uncarried)
    ∙ has_all (published_of log) (departures_of log) (option_and_then depart_name (accepted_after (last_of log) item))
    (withdrawn_pair item) (published_pair item) q
