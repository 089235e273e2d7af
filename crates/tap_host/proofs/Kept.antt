-- What an actor keeps at each step of its node.
use Rattle.std.proofs.Common.{◌≡◌, ◌≢◌, ℕ, Bool, true, false, cond, List, Option, None, Some, Result, Ok, Err, arith, refl, sym, subst, ap, ◌∙◌, inl, inr, ◌⊎◌, true≢false}
use Rattle.tap_name.specs.Settings.{SettingsValue}
use Rattle.tap_wire.specs.declared.fault.WireFault.{WireFault}
use Rattle.tap_wire.specs.declared.frame.Frame.{Frame}
use Rattle.tap_wire.specs.Reading.{frame_of}
use Rattle.tap_rule.specs.Node.{settings_of}
use Rattle.tap_rule.specs.Event.{Start}
use Rattle.tap_rule.specs.Event.Event.{Starts, Takes}
use Rattle.tap_rule.specs.Act.{act}
use Rattle.tap_rule.specs.Strange.{is_own_name, is_strange}
use Rattle.tap_node.specs.declared.fault.NodeFault.{NodeFault}
use Rattle.tap_node.specs.declared.fault.NodeFault.TheVariants.{Wire, NotMine, Strange, NoMemory, Ended}
use Rattle.tap_node.specs.declared.turn.Turn.{Turn}
use Rattle.tap_node.specs.Node.{NodeValue, node_status, status_seen}
use Rattle.tap_node.specs.Outcome.{AnswersAs, Outcome, acted_as, at_frame, at_read, refused_by, start_outcome, take_outcome}
use Rattle.std.specs.Option.{is_none}
use Rattle.std.proofs.lemmas.Bool.{leb-true}
use Rattle.tap_cast.specs.Casts.{CastsValue, level_of_cast}
use Rattle.tap_node.specs.declared.status.NodeStatus.TheVariants as seen
use Rattle.tap_host_line.specs.declared.line.Start.{Start as StartLine}
use Rattle.tap_host_line.specs.declared.line.Start.TheVariants as line
use Rattle.tap_host.specs.Actor.{AreMetBelow, IsKept, IsUnmet, below_given, has_start, is_new}
use Rattle.tap_host.proofs.CastsMet.{known_below, starts_met, takes_met}

-- after an outcome the casts that were met are below the number
abbrev pub OutcomeMet : ℕ → Outcome → Type 0
OutcomeMet below outcome = outcome.node.ended ≡ false → AreMetBelow (below_given below outcome.answer) outcome.node.state.casts

module _ (node : NodeValue) (below : ℕ) (met : node.ended ≡ false → AreMetBelow below node.state.casts) where
  by_frame : node.ended ≡ false → (frame : Frame) → OutcomeMet below (at_frame node frame)
  by_frame runs frame = by (is_own_name node.state frame.to) (is_strange node.state frame)
    where
      by : (own strange : Bool) → OutcomeMet below (cond own
          (cond strange (refused_by node Strange) (acted_as node.state (act node.state (Takes frame)))) (refused_by node (NotMine frame.to)))
      by true true = met
      by true false = λ _. takes_met node.state below (met runs) frame
      by false strange = met

  by_read : node.ended ≡ false → (read : Result Frame WireFault) → OutcomeMet below (at_read node read)
  by_read runs (Ok frame) = by_frame runs frame
  by_read runs (Err fault) = met

  pub take_met : (bytes : List ℕ) → OutcomeMet below (take_outcome node bytes)
  take_met bytes = by node.ended refl
    where
      by : (ended : Bool) → node.ended ≡ ended
          → OutcomeMet below (cond ended (refused_by node Ended) (at_read node (frame_of (settings_of node.state) bytes)))
      by true is = met
      by false is = by_read is (frame_of (settings_of node.state) bytes)

  pub start_met : (start : Start) → OutcomeMet below (start_outcome node start)
  start_met start = by node.ended refl
    where
      by : (ended : Bool) → node.ended ≡ ended
          → OutcomeMet below (cond ended (refused_by node Ended) (acted_as node.state (act node.state (Starts start))))
      by true is = met
      by false is = λ _. starts_met node.state below (met is) start

-- memory was refused, or not
is_memory : (given : Result Turn NodeFault) → (given ≡ Err NoMemory) ⊎ (given ≢ Err NoMemory)
is_memory (Ok turn) = inr (λ e. cc)
is_memory (Err (Wire fault)) = inr (λ e. cc)
is_memory (Err (NotMine name)) = inr (λ e. cc)
is_memory (Err Strange) = inr (λ e. cc)
is_memory (Err NoMemory) = inl refl
is_memory (Err Ended) = inr (λ e. cc)

-- what is kept after an answer
pub kept_after : (p : SettingsValue) (before after : NodeValue) (below : ℕ) (outcome : Outcome) (given : Result Turn NodeFault)
    → IsKept p before below → OutcomeMet below outcome → AnswersAs outcome before given after → IsKept p after (below_given below given)
kept_after p before after below outcome given kept met answers = record {
  settings = answers.settings ∙ kept.settings;
  met = λ runs. elim (is_memory given) [
    | inl memory ↦ absurd (true≢false (sym (answers.ended memory) ∙ runs))
    | inr other ↦
        let same = answers.answer other in
        let node = answers.node other in
        subst (λ g. AreMetBelow (below_given below g) after.state.casts) (sym same)
        (subst (λ (n : NodeValue). n.ended ≡ false → AreMetBelow (below_given below outcome.answer) n.state.casts) (sym node) met runs)
  ];
}

-- ---- starts

-- a node that has a start takes steps
pub runs_if : (node : NodeValue) (begun : StartLine) → has_start (node_status node) begun ≡ true → node.ended ≡ false
runs_if node begun there = by node.ended there
  where
    by : (ended : Bool) → has_start (cond ended seen.Ended (status_seen node.state.status)) begun ≡ true → ended ≡ false
    by true none = absurd (true≢false (sym none))
    by false some = refl

-- a start of a node that takes steps is refused by nothing but want of memory
pub start_wants : (node after : NodeValue) (begun : Start) (given : Result Turn NodeFault) (cause : NodeFault) → node.ended ≡ false
    → AnswersAs (start_outcome node begun) node given after → given ≡ Err cause → cause ≡ NoMemory
start_wants node after begun given cause runs answers is = elim (is_memory given) [
  | inl memory ↦ let same = sym is ∙ memory in cc
  | inr other ↦ absurd (by node.ended runs (sym is ∙ answers.answer other))
]
  where
    by : (ended : Bool) → ended ≡ false
        → Err cause ≡ (cond ended (refused_by node Ended) (acted_as node.state (act node.state (Starts begun)))).answer → ⊥
    by true ends same = true≢false ends
    by false ends same = cc

-- a cast with a number that is new wasn't met
pub unmet_if : (below : ℕ) (casts : CastsValue) → AreMetBelow below casts → (begun : StartLine) → is_new below begun ≡ true → IsUnmet casts begun
unmet_if below casts met (line.Cast number level word) new = by (level_of_cast casts number) refl
  where
    by : (kept : Option ℕ) → level_of_cast casts number ≡ kept → kept ≡ None
    by None is = refl
    by (Some k) is =
        let low = known_below below number casts met (ap is_none is) in
        let high = leb-true below number new in
        absurd (omega (arith, low, high))
unmet_if below casts met (line.Join via) new = tt
unmet_if below casts met line.Abandon new = tt
unmet_if below casts met (line.Publish object) new = tt
unmet_if below casts met (line.Withdraw object) new = tt
unmet_if below casts met (line.Find ticket object) new = tt
unmet_if below casts met line.Leave new = tt
