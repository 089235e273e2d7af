-- A Done at a joining node, and a Tell at a core node, are those of which the laws of systems speak.
use Rattle.std.proofs.Common.{◌≡◌, ◌⊎◌, ℕ, true, List, Some, ap, sym, ◌∙◌, inl, inr}
use Rattle.tap_link.specs.declared.kind.Kind.TheVariants.{Pin}
use Rattle.tap_table.specs.Table.{kind_in}
use Rattle.tap_table.specs.Ties.{TiesValue}
use Rattle.tap_table.specs.Levels.{is_kept}
use Rattle.tap_multicast.specs.Covers.{level_kept}
use Rattle.tap_multicast.proofs.KeptLevels.{kept_exactly}
use Rattle.tap_rule.specs.Covering.{Request, request_of}
use Rattle.tap_rule.specs.Event.{Acted}
use Rattle.tap_multicast.specs.declared.covers.Covered.TheVariants.{Already}
use Rattle.tap_rule.specs.JoinSteps.{CoverStep, CoversAs}
use Rattle.tap_rule.specs.Node.{NodeState, level_of, link_to}
use Rattle.tap_rule.proofs.CoverSteps.{tell_law}
use Rattle.tap_rule.proofs.JoinSteps.{done_law, tell_fits}
use Rattle.tap_safety.specs.Frames.{tell_body}
use Rattle.tap_wire.specs.declared.frame.Body.TheVariants.{Done}
use Rattle.tap_moves.specs.ByRule.{taken_at}
use Rattle.tap_moves.specs.StepsMade.{DoneIsMade, KnownTellIsMade, NewTellIsMade}
use Rattle.tap_moves.proofs.CoverMade.{covers_anew}

pub done_is_made : DoneIsMade
done_is_made s s' number node from taken surrogates joining joined =
    let step = done_law node from joining joined taken.known in
    record {
      before = node;
      after = (taken_at node from Done).state;
      sent = (taken_at node from Done).sent;
      taken = taken.taken;
      at = taken.at;
      was = joining;
      is = step.status;
      links = λ t. ap (λ (ties : TiesValue). kind_in ties.table t) step.ties;
      covers = λ b. ap (λ c. level_kept c b) step.covers;
      surrogate = surrogates;
    }

-- what a node does that covers the joiner already at the level or below it
pub covers_stay : (node : NodeState) (request : Request) (acted : Acted) → CoverStep node request acted
    → is_kept (level_of node request.joiner) request.level ≡ true → acted.state.covers ≡ node.covers
covers_stay node request acted step kept =
    let same : CoversAs node request acted Already = rw kept at step.covers in same.0

-- a link to a joiner that was pinned, and is, stays
links_stay : (before after : NodeState) (joiner t : List ℕ) → (t ≡ joiner) ⊎ (link_to after t ≡ link_to before t)
    → link_to before joiner ≡ Some Pin → link_to after joiner ≡ Some Pin → link_to after t ≡ link_to before t
links_stay before after joiner t (inl same) was is = ap (link_to after) same ∙ is ∙ sym was ∙ ap (link_to before) (sym same)
links_stay before after joiner t (inr stays) was is = stays

pub known_tell_is_made : KnownTellIsMade
known_tell_is_made s s' number node from tell watch kept taken surrogates at name pinned level most =
    let step = tell_law node from tell watch taken.is_node.ties name at taken.known in
    let test = (kept_exactly (level_of node tell.joiner) tell.level).1 (kept, level, most) in
    let same = covers_stay node (request_of from tell watch) (taken_at node from (tell_body tell watch)) step test in
    record {
      before = node;
      after = (taken_at node from (tell_body tell watch)).state;
      sent = (taken_at node from (tell_body tell watch)).sent;
      taken = taken.taken;
      at = taken.at;
      status = step.status;
      links = λ t.
          links_stay node (taken_at node from (tell_body tell watch)).state tell.joiner t (step.pins.others t) pinned step.pins.pinned;
      covers = λ d. ap (λ c. level_kept c d) same;
      kept = kept;
      covered = level;
      most = most;
      surrogate = surrogates;
    }

pub new_tell_is_made : NewTellIsMade
new_tell_is_made s s' number node from tell watch taken surrogates at name anew =
    let step = tell_law node from tell watch taken.is_node.ties name at taken.known in
    record {
      before = node;
      after = (taken_at node from (tell_body tell watch)).state;
      sent = (taken_at node from (tell_body tell watch)).sent;
      taken = taken.taken;
      at = taken.at;
      covers =
          covers_anew node (request_of from tell watch) (taken_at node from (tell_body tell watch)) taken.is_node.ties name
          (tell_fits node from tell watch taken.known) anew step;
      surrogate = surrogates;
    }
