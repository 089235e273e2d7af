-- The end of a step, from that of its rule.
-- Cited above: one_offer, one_word, runs_or_ended
use Rattle.std.proofs.Common.{◌≡◌, ◌⊎◌, ℕ, ◌+◌, Bool, List, [], length, map, Option, None, Some, true, false, arith, sym, ap, subst, ◌∙◌, inl, inr}
use Rattle.std.proofs.lemmas.List.{append-nil}
use Rattle.tap_table.specs.Ties.{TiesValue, stamp_after, tie_where}
use Rattle.tap_depart.specs.ToldLeave.{offer_tells_if}
use Rattle.tap_join.specs.Hello.{words_of}
use Rattle.tap_pointer.specs.declared.lay.Lay.{Lay}
use Rattle.tap_pointer.specs.Pointers.{PointersValue}
use Rattle.tap_pointer.specs.Reconcile.{reconcile_lays, reconciled}
use Rattle.tap_rule.specs.Node.{IsRunning, NodeState, Status, name_of}
use Rattle.tap_rule.specs.Node.Status.{Joining, Core, Leaving, Gone, Ceased}
use Rattle.tap_rule.specs.Event.{Acted}
use Rattle.tap_rule.specs.Event.News.{Nothing}
use Rattle.tap_rule.specs.Reaction.{Message, Reaction, sends}
use Rattle.tap_rule.specs.Sending.{by_receiver, message_frame}
use Rattle.tap_rule.specs.Sent.{AreSentInOrder}
use Rattle.tap_rule.specs.Completed.{CastsAlike, IsCompleted, RestAlike, SendsAlone, SendsAt, lays_after}
use Rattle.tap_rule.specs.LinkSteps.{AllAlike}
use Rattle.tap_rule.specs.RuleLaws.{IsCarriedOut, lays_for}

-- the step of a node that hasn't ended, whose rule has taken a number of the stamp for each of its words
pub completed_by : (node : NodeState) (r : Reaction) (acted : Acted) → IsCarriedOut node r acted → IsRunning r.state.status
    → r.state.stamp ≡ node.stamp + length r.words → IsCompleted node r.state.pointers r.words r.messages r.news acted
completed_by node r acted carried runs stamped =
    let end = carried.running runs in
    let lays : lays_for r ≡ lays_after node r.state.pointers r.words acted =
    ap (λ last. reconcile_lays r.state.ties.table last r.state.pointers) stamped
    ∙ ap (λ (t : TiesValue). reconcile_lays t.table (node.stamp + length r.words) r.state.pointers) (sym carried.ties) in
    record {
      pointers = end.pointers ∙ ap (λ (t : TiesValue). reconciled t.table r.state.pointers) (sym carried.ties);
      stamp = end.stamp ∙ ap (λ last. last + length (lays_for r)) stamped
          ∙ ap (λ (l : List Lay). node.stamp + length r.words + length l) lays;
      sent = subst (λ (l : List Lay). AreSentInOrder (name_of node) r.words r.messages l acted.sent) lays end.sent;
      news = carried.news;
      taken = carried.taken;
    }

-- what a rule leaves alone, its step leaves alone
pub casts_by : {node : NodeState} {r : Reaction} {acted : Acted} → IsCarriedOut node r acted → r.state.casts ≡ node.casts
    → r.state.cast_sessions ≡ node.cast_sessions → r.state.cast_numbers ≡ node.cast_numbers → CastsAlike node acted.state
casts_by carried casts sessions numbers = record {
  casts = carried.casts ∙ casts;
  sessions = carried.cast_sessions ∙ sessions;
  numbers = carried.cast_numbers ∙ numbers;
}

pub rest_by : {node : NodeState} {r : Reaction} {acted : Acted} → IsCarriedOut node r acted → r.state.awaited ≡ node.awaited
    → r.state.casts ≡ node.casts → r.state.cast_sessions ≡ node.cast_sessions → r.state.cast_numbers ≡ node.cast_numbers
    → RestAlike node acted.state
rest_by carried awaited casts sessions numbers =
    record { awaited = carried.awaited ∙ awaited; casts = casts_by carried casts sessions numbers }

-- a rule that changes the pointers and the stamp alone leaves all else alone
pub alike_by : {node : NodeState} {r : Reaction} {acted : Acted} → IsCarriedOut node r acted
    → r.state ≡ record node { pointers = r.state.pointers; stamp = r.state.stamp } → AllAlike node acted.state
alike_by carried same = record {
  joins = record {
    status = carried.status ∙ ap (λ (s : NodeState). s.status) same;
    covers = carried.covers ∙ ap (λ (s : NodeState). s.covers) same;
    greeted = carried.greeted ∙ ap (λ (s : NodeState). s.greeted) same;
    abandoned = carried.abandoned ∙ ap (λ (s : NodeState). s.abandoned) same;
  };
  ties = carried.ties ∙ ap (λ (s : NodeState). s.ties) same;
  sessions = carried.sessions ∙ ap (λ (s : NodeState). s.sessions) same;
  rest = rest_by carried (ap (λ (s : NodeState). s.awaited) same) (ap (λ (s : NodeState). s.casts) same)
      (ap (λ (s : NodeState). s.cast_sessions) same) (ap (λ (s : NodeState). s.cast_numbers) same);
}

-- messages alone, of a node of whatever status that keeps its pointers and its stamp
pub sends_at : (node after : NodeState) (messages : List Message) (acted : Acted) → IsCarriedOut node (sends after messages) acted
    → after.status ≡ node.status → after.pointers ≡ node.pointers → after.stamp ≡ node.stamp → (status : Status)
    → node.status ≡ status → SendsAt status node messages acted
unfolding by_receiver
sends_at node after messages acted carried same pointers stamp = by_status
  where
    runs : IsRunning after.status → IsCompleted node node.pointers [] messages Nothing acted
    runs running =
        subst (λ (p : PointersValue). IsCompleted node p [] messages Nothing acted) pointers
        (completed_by node (sends after messages) acted carried running (omega (arith, stamp)))

    has_ended : (IsRunning after.status → ⊥) → SendsAlone node messages acted
    has_ended ended =
        let said = carried.ended ended in
        record {
          pointers = ap (λ (s : NodeState). s.pointers) said.state ∙ pointers;
          stamp = ap (λ (s : NodeState). s.stamp) said.state ∙ stamp;
          sent = said.sent.all ∙ append-nil (map (message_frame (name_of node)) messages);
          news = carried.news;
          taken = carried.taken;
        }

    by_status : (status : Status) → node.status ≡ status → SendsAt status node messages acted
    by_status Joining is = runs (rw (same ∙ is) tt)
    by_status Core is = runs (rw (same ∙ is) tt)
    by_status Leaving is = runs (rw (same ∙ is) tt)
    by_status Gone is = has_ended (λ running. let no : ⊥ = rw (same ∙ is) at running in no)
    by_status Ceased is = has_ended (λ running. let no : ⊥ = rw (same ∙ is) at running in no)

-- a word takes one number, if there is one
pub one_word : (is : Bool) (to : List ℕ) (last : ℕ) (on : Bool)
    → stamp_after last (tie_where is to (last + 1) on) ≡ last + length (words_of (tie_where is to (last + 1) on))
one_word true to last on = omega arith
one_word false to last on = omega arith

pub one_offer : (ties : TiesValue) (last : ℕ) (taken : Option (List ℕ))
    → stamp_after last (offer_tells_if ties last taken) ≡ last + length (words_of (offer_tells_if ties last taken))
one_offer ties last None = omega arith
one_offer ties last (Some name) = one_word _ name last true

-- a node that joins or is core hasn't ended, and neither has one that is core or leaving
pub early_runs : (status : Status) → (status ≡ Joining) ⊎ (status ≡ Core) → IsRunning status
early_runs status (inl is) = rw is tt
early_runs status (inr is) = rw is tt

pub late_runs : (status : Status) → (status ≡ Core) ⊎ (status ≡ Leaving) → IsRunning status
late_runs status (inl is) = rw is tt
late_runs status (inr is) = rw is tt

-- a node has ended, or it hasn't
pub runs_or_ended : (status : Status) → IsRunning status ⊎ (IsRunning status → ⊥)
runs_or_ended Joining = inl tt
runs_or_ended Core = inl tt
runs_or_ended Leaving = inl tt
runs_or_ended Gone = inr (λ runs. runs)
runs_or_ended Ceased = inr (λ runs. runs)
