-- What the steps about pointers and lookups change.
-- Cited above: find_law, found_law, lay_law, lookup_law, publish_law
use Rattle.std.proofs.Common.{◌≡◌, ◌⊎◌, ℕ, List, Option, None, Some, Bool, arith, refl, sym, ◌∙◌, inl, inr}
use Rattle.tap_table.specs.declared.next.Next.{Next}
use Rattle.tap_table.specs.declared.next.Next.TheVariants.{Root, Hop}
use Rattle.tap_pointer.specs.Pointers.{pair_of, server_for}
use Rattle.tap_wire.specs.declared.frame.Body.TheVariants.{Lay, Find, Answer}
use Rattle.tap_rule.specs.Node.{IsRunning, NodeState}
use Rattle.tap_rule.specs.Node.Status.{Core, Leaving}
use Rattle.tap_rule.specs.Event.{Acted}
use Rattle.tap_rule.specs.Event.Start.{Publish, Withdraw, Find as StartFind}
use Rattle.tap_rule.specs.FrameRules.{frame_at_core, frame_at_leaving, rule_of_frame}
use Rattle.tap_rule.specs.Pointers.{next_hop, starts_find, starts_find_on, starts_find_with, starts_publish, starts_withdraw, takes_answer, takes_find, takes_find_on, takes_find_with, takes_lay}
use Rattle.tap_rule.specs.PointerSteps.{FindStep, LookupStep}
use Rattle.tap_rule.specs.RuleLaws.{FindLaw, FoundLaw, IsCarriedOut, LayLaw, LookupLaw, PublishLaw, WithdrawLaw, frame_to}
use Rattle.tap_rule.proofs.CarriedOut.{frame_law, start_law}
use Rattle.tap_rule.proofs.Completed.{alike_by, completed_by, late_runs}

-- the rules of these kinds
lay_rule : (node : NodeState) (from object server : List ℕ) (level version : ℕ) (on : Bool)
    → (node.status ≡ Core) ⊎ (node.status ≡ Leaving)
    → rule_of_frame node.status node from (Lay object server level version on)
    ≡ Some (takes_lay node from (pair_of object server) level version on)
unfolding frame_at_core frame_at_leaving
lay_rule node from object server level version on (inl at) = rw at refl
lay_rule node from object server level version on (inr at) = rw at refl

find_rule : (node : NodeState) (from : List ℕ) (ticket : ℕ) (object asker : List ℕ) (level : ℕ)
    → (node.status ≡ Core) ⊎ (node.status ≡ Leaving)
    → rule_of_frame node.status node from (Find ticket object asker level) ≡ Some (takes_find node ticket object asker level)
unfolding frame_at_core frame_at_leaving
find_rule node from ticket object asker level (inl at) = rw at refl
find_rule node from ticket object asker level (inr at) = rw at refl

answer_rule : (node : NodeState) (from : List ℕ) (ticket : ℕ) (server : Option (List ℕ))
    → (node.status ≡ Core) ⊎ (node.status ≡ Leaving)
    → rule_of_frame node.status node from (Answer ticket server) ≡ Some (takes_answer node ticket server)
unfolding frame_at_core frame_at_leaving
answer_rule node from ticket server (inl at) = rw at refl
answer_rule node from ticket server (inr at) = rw at refl

pub lay_law : LayLaw
lay_law node from object server level version on at taken =
    let frame = frame_to node from (Lay object server level version on) in
    let carried = frame_law node frame _ taken (lay_rule node from object server level version on at) in
    record { alike = alike_by carried refl; completed = completed_by node _ _ carried (late_runs node.status at) (omega arith) }

pub found_law : FoundLaw
found_law node from ticket server at taken =
    let frame = frame_to node from (Answer ticket server) in
    let carried = frame_law node frame _ taken (answer_rule node from ticket server at) in
    record { alike = alike_by carried refl; completed = completed_by node _ _ carried (late_runs node.status at) (omega arith) }

pub publish_law : PublishLaw
publish_law node object at =
    let carried = start_law node (Publish object) (starts_publish node object) (rw at refl) in
    record { alike = alike_by carried refl; completed = completed_by node _ _ carried (rw at tt) (omega arith) }

pub withdraw_law : WithdrawLaw
withdraw_law node object at =
    let carried = start_law node (Withdraw object) (starts_withdraw node object) (rw at refl) in
    record { alike = alike_by carried refl; completed = completed_by node _ _ carried (rw at tt) (omega arith) }

module _ (node : NodeState) (ticket : ℕ) (object : List ℕ) (acted : Acted) (runs : IsRunning node.status) where
  -- a Find, by what is held of its object, and by the next hop
  module _ (asker : List ℕ) (level : ℕ) where
    found_at : (next : Next) → server_for node.pointers object ≡ None → next_hop node object level ≡ next
        → IsCarriedOut node (takes_find_on node ticket object asker next) acted → FindStep node ticket object asker level acted
    found_at Root none is carried = record {
      alike = alike_by carried refl;
      served = λ server some. let both : None ≡ Some server = sym none ∙ some in absurd cc;
      goes_on = λ to after unheld hop. let both : Root ≡ Hop to after = sym is ∙ hop in absurd cc;
      at_root = λ unheld root. completed_by node _ acted carried runs (omega arith);
    }
    found_at (Hop to after) none is carried = record {
      alike = alike_by carried refl;
      served = λ server some. let both : None ≡ Some server = sym none ∙ some in absurd cc;
      goes_on = λ to' after' unheld hop.
          let both : Hop to after ≡ Hop to' after' = sym is ∙ hop in
          let same_to : to ≡ to' = cc in
          let same_level : after ≡ after' = cc in
          rw (← same_to, ← same_level) (completed_by node _ acted carried runs (omega arith));
      at_root = λ unheld root. let both : Hop to after ≡ Root = sym is ∙ root in absurd cc;
    }

    found_by : (held : Option (List ℕ)) → server_for node.pointers object ≡ held
        → IsCarriedOut node (takes_find_with node ticket object asker level held) acted → FindStep node ticket object asker level acted
    found_by None is carried = found_at (next_hop node object level) is refl carried
    found_by (Some server) is carried = record {
      alike = alike_by carried refl;
      served = λ other some.
          let both : Some server ≡ Some other = sym is ∙ some in
          let same : server ≡ other = cc in rw (← same) (completed_by node _ acted carried runs (omega arith));
      goes_on = λ to after unheld hop. let both : Some server ≡ None = sym is ∙ unheld in absurd cc;
      at_root = λ unheld root. let both : Some server ≡ None = sym is ∙ unheld in absurd cc;
    }

  -- and the start of a lookup
  asked_at : (next : Next) → server_for node.pointers object ≡ None → next_hop node object 0 ≡ next
      → IsCarriedOut node (starts_find_on node ticket object next) acted → LookupStep node ticket object acted
  asked_at Root none is carried = record {
    alike = alike_by carried refl;
    served = λ server some. let both : None ≡ Some server = sym none ∙ some in absurd cc;
    goes_on = λ to after unheld hop. let both : Root ≡ Hop to after = sym is ∙ hop in absurd cc;
    at_root = λ unheld root. completed_by node _ acted carried runs (omega arith);
  }
  asked_at (Hop to after) none is carried = record {
    alike = alike_by carried refl;
    served = λ server some. let both : None ≡ Some server = sym none ∙ some in absurd cc;
    goes_on = λ to' after' unheld hop.
        let both : Hop to after ≡ Hop to' after' = sym is ∙ hop in
        let same_to : to ≡ to' = cc in
        let same_level : after ≡ after' = cc in
        rw (← same_to, ← same_level) (completed_by node _ acted carried runs (omega arith));
    at_root = λ unheld root. let both : Hop to after ≡ Root = sym is ∙ root in absurd cc;
  }

  asked_by : (held : Option (List ℕ)) → server_for node.pointers object ≡ held
      → IsCarriedOut node (starts_find_with node ticket object held) acted → LookupStep node ticket object acted
  asked_by None is carried = asked_at (next_hop node object 0) is refl carried
  asked_by (Some server) is carried = record {
    alike = alike_by carried refl;
    served = λ other some.
        let both : Some server ≡ Some other = sym is ∙ some in
        let same : server ≡ other = cc in rw (← same) (completed_by node _ acted carried runs (omega arith));
    goes_on = λ to after unheld hop. let both : Some server ≡ None = sym is ∙ unheld in absurd cc;
    at_root = λ unheld root. let both : Some server ≡ None = sym is ∙ unheld in absurd cc;
  }

pub find_law : FindLaw
find_law node from ticket object asker level at taken =
    found_by node ticket object _ (late_runs node.status at) asker level (server_for node.pointers object) refl
    (frame_law node (frame_to node from (Find ticket object asker level)) (takes_find node ticket object asker level) taken
    (find_rule node from ticket object asker level at))

pub lookup_law : LookupLaw
lookup_law node ticket object at =
    asked_by node ticket object _ (rw at tt) (server_for node.pointers object) refl
    (start_law node (StartFind ticket object) (starts_find node ticket object) (rw at refl))
