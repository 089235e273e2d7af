-- What a walk reads of the nodes stays after a move, if lookups alone are under way before and after it.
-- Cited above: lookups_before
use Rattle.std.proofs.Common.{◌≡◌, ◌⊎◌, ℕ, Bool, List, Option, None, Some, refl, ap, sym, ◌∙◌, inl, inr}
use Rattle.std.specs.Prelude.{option_and_then}
use Rattle.std.specs.Option.{option_map}
use mathlib.Core.Path.{fun_ext}
use Rattle.tap_name.specs.Settings.{SettingsValue}
use Rattle.tap_table.specs.Table.{TableValue}
use Rattle.tap_surrogate.specs.Nodes.{Nodes}
use Rattle.tap_wire.specs.declared.frame.Body.{Body}
use Rattle.tap_wire.specs.declared.frame.Body.TheVariants.{Answer, Find, Seek}
use Rattle.tap_wire.specs.declared.frame.Frame.{Frame}
use Rattle.tap_rule.specs.Act.{act}
use Rattle.tap_rule.specs.Event.{Start}
use Rattle.tap_rule.specs.Event.Event.{Starts, Takes}
use Rattle.tap_rule.specs.Event.Start.{Abandon, Cast, Find as StartFind, Join, Leave, Publish, Withdraw}
use Rattle.tap_rule.specs.Node.{NodeState, Status, joiner}
use Rattle.tap_rule.specs.QuietSteps.{IsQuiet}
use Rattle.tap_rule.specs.Reaction.{message}
use Rattle.tap_rule.proofs.QuietSteps.{quiet_law, quiet_start_law}
use Rattle.tap_rule.proofs.StartSteps.{give_up_law, seek_start_law}
use Rattle.tap_safety.specs.Move.{may_start}
use Rattle.tap_safety.specs.Moved.{starter}
use Rattle.tap_safety.specs.Exchanges.{numbered_from}
use Rattle.tap_safety.specs.System.{System, AmongFrames, IsUnderWay}
use Rattle.tap_safety.proofs.Moved.{delivers, found, starts}
use Rattle.tap_safety.proofs.UnderWay.{among_left, among_numbered, among_right}
use Rattle.tap_runs.specs.Observed.{nodes_of, is_core_node, counts_as_core, table_of_node, word_of_status}
use Rattle.tap_moves.specs.Delivered.{after_delivery, after_start}
use Rattle.tap_safety_moves.specs.Sound.{Sound}
use Rattle.tap_pointer_moves.specs.NoServer.{AreLookups, IsLookup}
use Rattle.tap_pointer_moves.proofs.LookupRules.{IsNoLeave}

-- ---- one node changes

-- it keeps its status and its links
pub record KeepsTies (before after : NodeState) : Type 0 where
  pub status : after.status ≡ before.status
  pub ties : after.ties ≡ before.ties

table_kept : (before after : NodeState) → KeepsTies before after → table_of_node after ≡ table_of_node before
table_kept before after kept =
    ap (λ (status : Status). option_map (λ word. after.ties.table) (word_of_status status)) kept.status
    ∙ ap (λ t. option_map (λ word. t.table) (word_of_status before.status)) kept.ties

core_kept : (before after : NodeState) → KeepsTies before after → counts_as_core after.status ≡ counts_as_core before.status
core_kept before after kept = ap counts_as_core kept.status

module _ (s s' : System) (x : List ℕ) (before after : NodeState) (was : s.node x ≡ Some before) (is : s'.node x ≡ Some after)
    (others : (y : List ℕ) → (y ≡ x) ⊎ (s'.node y ≡ s.node y)) (kept : KeepsTies before after) where
  table_same : (y : List ℕ) → option_and_then table_of_node (s'.node y) ≡ option_and_then table_of_node (s.node y)
  table_same y =
      elim (others y) [
        | inr same ↦ ap (option_and_then table_of_node) same
        | inl here ↦
            ap (option_and_then table_of_node) (ap s'.node here ∙ is) ∙ table_kept before after kept
            ∙ sym (ap (option_and_then table_of_node) (ap s.node here ∙ was))
      ]

  core_same : (y : List ℕ) → is_core_node (s'.node y) ≡ is_core_node (s.node y)
  core_same y =
      elim (others y) [
        | inr same ↦ ap is_core_node same
        | inl here ↦
            ap is_core_node (ap s'.node here ∙ is) ∙ core_kept before after kept ∙ sym (ap is_core_node (ap s.node here ∙ was))
      ]

  pub nodes_same : nodes_of s' ≡ nodes_of s
  nodes_same =
      let tables : (nodes_of s').table_of ≡ (nodes_of s).table_of = fun_ext table_same in
      let cores : (nodes_of s').core ≡ (nodes_of s).core = fun_ext core_same in
      let with_both : (List ℕ → Option TableValue) → (List ℕ → Bool) → Nodes = λ t c. record { table_of = t; core = c } in
      ap (λ (t : List ℕ → Option TableValue). with_both t (nodes_of s').core) tables
      ∙ ap (λ (c : List ℕ → Bool). with_both (nodes_of s).table_of c) cores

-- ---- a frame

lookup_quiet : (body : Body) → IsLookup body → IsQuiet body
lookup_quiet (Find ticket object asker level) is = tt
lookup_quiet (Answer ticket server) is = tt
lookup_quiet _ is = absurd is

pub delivered_nodes : (p : SettingsValue) (s : System) (number : ℕ) (frame : Frame) (node : NodeState) → Sound p s → AreLookups s
    → AmongFrames number frame s.frames → s.node frame.to ≡ Some node → nodes_of (after_delivery p s number) ≡ nodes_of s
delivered_nodes p s number frame node sound lookups among at =
    let step = delivers p s number frame node (found number frame 0 s.frames s.next sound.invariant.basis.numbered.numbers among) at in
    let is = lookups.each frame.from frame.to frame.body (record { number = number; among = among }) in
    let quiet = quiet_law node frame (lookup_quiet frame.body is) in
    nodes_same s (after_delivery p s number) frame.to node (act node (Takes frame)).state at step.done.is step.done.others
    (record { status = quiet.status; ties = quiet.ties })

-- ---- a start

-- what was under way is so still
pub started_still : (p : SettingsValue) (s : System) (x : List ℕ) (start : Start) (node : NodeState) → starter p s x start ≡ Some node
    → (from to : List ℕ) (body : Body) → IsUnderWay s from to body → IsUnderWay (after_start p s x start) from to body
started_still p s x start node is from to body way =
    let step = starts p s x start node is in
    let f : Frame = record { from = from; to = to; body = body } in
    record {
      number = way.number;
      among = rw step.sent.after (among_left way.number f s.frames (numbered_from s.next (act node (Starts start)).sent) way.among);
    }

pub lookups_before : (p : SettingsValue) (s : System) (x : List ℕ) (start : Start) (node : NodeState) → starter p s x start ≡ Some node
    → AreLookups (after_start p s x start) → AreLookups s
lookups_before p s x start node is lookups =
    record { each = λ from to body way. lookups.each from to body (started_still p s x start node is from to body way) }

module _ (p : SettingsValue) (s : System) (x : List ℕ) where
  -- a node that isn't new keeps its status and its links, unless it leaves
  kept_by : (start : Start) (node : NodeState) → IsNoLeave start → may_start p s x start → s.node x ≡ Some node
      → KeepsTies node (act node (Starts start)).state
  kept_by (Join via) node stays may at = let wrong : None ≡ Some node = sym may.fresh ∙ at in absurd (cc)
  kept_by Abandon node stays may at =
      let found = may.is in
      let same : may.state ≡ node = cc in
      let step = give_up_law node (sym (ap (λ (n : NodeState). n.status) same) ∙ may.joining) in
      record { status = step.status; ties = step.ties }
  kept_by Leave node stays may at = absurd stays
  kept_by (Publish object) node stays may at =
      let quiet = quiet_start_law node (Publish object) tt in record { status = quiet.status; ties = quiet.ties }
  kept_by (Withdraw object) node stays may at =
      let quiet = quiet_start_law node (Withdraw object) tt in record { status = quiet.status; ties = quiet.ties }
  kept_by (StartFind ticket object) node stays may at =
      let quiet = quiet_start_law node (StartFind ticket object) tt in record { status = quiet.status; ties = quiet.ties }
  kept_by (Cast cast level word) node stays may at =
      let quiet = quiet_start_law node (Cast cast level word) tt in record { status = quiet.status; ties = quiet.ties }

  pub started_nodes : (start : Start) (node : NodeState) → IsNoLeave start → may_start p s x start → s.node x ≡ Some node
      → starter p s x start ≡ Some node → nodes_of (after_start p s x start) ≡ nodes_of s
  started_nodes start node stays may at is =
      let step = starts p s x start node is in
      nodes_same s (after_start p s x start) x node (act node (Starts start)).state at step.done.is step.done.others
      (kept_by start node stays may at)

  -- whoever joins sends a Seek
  pub joins_aloud : (via : List ℕ) → AreLookups (after_start p s x (Join via)) → ⊥
  joins_aloud via lookups =
      let node = joiner p x in
      let step = starts p s x (Join via) node refl in
      let sent = (seek_start_law node via refl).sent.named (message via (Seek x)) (inl refl) in
      let f : Frame = record { from = x; to = via; body = Seek x } in
      let new = among_numbered s.next (act node (Starts (Join via))).sent x via (Seek x) sent in
      lookups.each x via (Seek x) (record {
        number = new.0;
        among = rw step.sent.after
            (among_right new.0 f s.frames (numbered_from s.next (act node (Starts (Join via))).sent) new.1);
      })
