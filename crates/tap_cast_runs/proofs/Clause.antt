-- The watch clause holds of each run.
-- Cited above: clause_at
use Rattle.std.proofs.Common.{◌≡◌, ◌≢◌, ◌⊎◌, ℕ, List, ◌++◌, take, None, Some, ap, sym, subst, ◌∙◌, inl, inr}
use Rattle.tap_name.specs.Name.{IsName}
use Rattle.tap_name.specs.Settings.{SettingsValue}
use Rattle.tap_name.specs.Slot.{Fits}
use Rattle.tap_name.specs.declared.slot.Slot.{Slot}
use Rattle.tap_link.specs.declared.kind.Kind.{Kind}
use Rattle.tap_link.specs.declared.kind.Kind.TheVariants.{Settled}
use Rattle.tap_table.specs.Table.{IsTable, place_of, slot_numbered}
use Rattle.tap_table.proofs.Fitting.{no_slot_of_itself, slot_of_other}
use Rattle.tap_table.proofs.Found.{linked_is_name, linked_is_other}
use Rattle.tap_table.proofs.Slots.{number_back, place_inside}
use Rattle.tap_wire.specs.declared.frame.Body.TheVariants.{Done}
use Rattle.tap_log.specs.declared.record.Record.{Record}
use Rattle.tap_rule.specs.RuleLaws.{frame_to}
use Rattle.tap_rule.specs.Node.{NodeState, link_to}
use Rattle.tap_rule.specs.Sent.{IsAmong}
use Rattle.tap_safety.specs.System.{System}
use Rattle.tap_moves.specs.ByRule.{taken_at}
use Rattle.tap_moves.specs.Delivered.{after_delivery}
use Rattle.tap_moves.specs.InvariantLaws.{IsDelivery}
use Rattle.tap_moves.proofs.InvariantMoves.{due}
use Rattle.tap_moves.proofs.MovesMade.{by_rule}
use Rattle.tap_runs.specs.Beginning.{Beginning}
use Rattle.tap_runs.specs.Course.{Follows, move_of_group, moved_by, system_of}
use Rattle.tap_runs.specs.Named.{HaveNames}
use Rattle.tap_runs.proofs.Frames.{taken_moves}
use Rattle.tap_runs.proofs.CourseGrows.{grown_system}
use Rattle.tap_safety_moves.specs.Sound.{Sound}
use Rattle.tap_safety_moves.proofs.Delivered.{is_delivery}
use Rattle.tap_safe_runs.specs.Lawful.{beginning_in}
use Rattle.tap_safe_runs.specs.Moments.{AtEachMoment}
use Rattle.tap_safe_runs.specs.Safe.{IsRun}
use Rattle.tap_safe_runs.proofs.Lawful.{lawful_logs_are_safe}
use Rattle.tap_safe_runs.proofs.Safe.{run_at_moment, run_more, runs_are_sound}
use Rattle.tap_safe_runs.proofs.Each.{each_of_run}
use Rattle.tap_cast_runs.specs.SlotAnswers.{Answer, WatchMemory}
use Rattle.tap_cast_runs.specs.Clause.{CoreHasAnswersNow, HasAnswers, HasLinkIn, IsFullIn, LawfulWatchClauseHolds, WatchClauseHolds}
use Rattle.tap_cast_runs.specs.Had.{InOneSlot, IsHad}
use Rattle.tap_cast_runs.specs.Recalled.{asked_at, recalled_asked}
use Rattle.tap_cast_runs.specs.Runs.{watch_recalled_by, watches_of}
use Rattle.tap_cast_runs.proofs.Becomes.{TakesDone, takes_done}
use Rattle.tap_cast_runs.proofs.Asks.{delivery_recalls}
use Rattle.tap_cast_runs.proofs.ChainsTold.{run_told}
use Rattle.tap_cast_runs.proofs.Runs.{grown_watches, run_answers_kept, run_chains_kept, run_core_has, run_watches_kept}

-- ---- slots

same_slot : (one other : Slot) → Some one ≡ Some other → one ≡ other
same_slot one other is = cc

-- a name that stands in one slot with a name that fits it fits it too
fits_alike : (p : SettingsValue) (owner t name : List ℕ) (slot : Slot) → IsName p owner → IsName p t → t ≢ owner → IsName p name
    → Fits owner name slot → InOneSlot p owner t name → Fits owner t slot
fits_alike p owner t name slot is_owner is_t other is_name fits one =
    let apart : name ≢ owner = λ same.
    (let wrong : None ≡ Some slot = sym (no_slot_of_itself owner) ∙ subst (λ x. Fits owner x slot) same fits in absurd (cc)) in
    let place = same_slot (place_of owner name) slot (sym (slot_of_other p owner name is_owner is_name apart) ∙ fits) in
    let there = number_back p.base (place_of owner t) (place_inside p owner t is_owner is_t other).1 in
    let here = number_back p.base (place_of owner name) (place_inside p owner name is_owner is_name apart).1 in
    slot_of_other p owner t is_owner is_t other ∙ ap Some (sym there ∙ ap (slot_numbered p.base) one ∙ here ∙ place)

module _ (p : SettingsValue) (s : System) (sound : Sound p s) (n : List ℕ) (node : NodeState) (at : s.node n ≡ Some node) where
  valid : IsTable node.ties.table
  valid = (sound.nodes.nodes n node at).is_node.ties.table

  linked_name : (t : List ℕ) (kind : Kind) → link_to node t ≡ Some kind → IsName p t
  linked_name t kind link = subst (λ q. IsName q t) (sound.nodes.nodes n node at).settings (linked_is_name node.ties.table valid t kind link)

  linked_other : (t : List ℕ) (kind : Kind) → link_to node t ≡ Some kind → t ≢ n
  linked_other t kind link same =
      linked_is_other node.ties.table valid t kind link (same ∙ sym (sound.nodes.nodes n node at).name)

  -- what is had of a name is had in its slot
  had_in : (name : List ℕ) (slot : Slot) → IsName p name → Fits n name slot → IsHad p n node name
      → HasLinkIn n node slot name ⊎ IsFullIn p n node slot
  had_in name slot is_name fits (inl link) = inl (record { kind = link.0; link = link.1; fits = fits })
  had_in name slot is_name fits (inr full) =
      let is_owner = sound.invariant.basis.names.each n (record { state = node; is = at }) in
      inr (record {
        names = full.names;
        ascending = full.ascending;
        many = full.many;
        each = λ t among.
            let is = full.each t among in
            (is.0, fits_alike p n t name slot is_owner (linked_name t Settled is.0) (linked_other t Settled is.0) is_name fits is.1);
      })

-- ---- a group that takes a Done

module _ (b : Beginning) (before group : List Record) (run : IsRun b before) (follows : Follows b before group)
    (steps : HaveNames b.settings group) (n : List ℕ) (done : TakesDone (system_of before) group n) where
  abbrev p : SettingsValue
  p = b.settings

  abbrev s : System
  s = system_of before

  abbrev r : WatchMemory
  r = watches_of before

  abbrev after : NodeState
  after = (taken_at done.node done.from Done).state

  delivery : IsDelivery p s done.number done.node done.from Done
  delivery =
      is_delivery p s done.number (frame_to done.node done.from Done) done.node (runs_are_sound b before run) done.among done.at

  system_is : system_of (before ++ group) ≡ after_delivery p s done.number
  system_is =
      grown_system b before group run.course run.going follows
      ∙ ap (λ g. moved_by p s (move_of_group before g)) done.group_is
      ∙ ap (moved_by p s) (taken_moves before done.number done.items)

  -- nothing is answered
  watches_are : watches_of (before ++ group) ≡ r
  watches_are =
      grown_watches b before group run.course run.going follows
      ∙ ap (λ g. watch_recalled_by s r (move_of_group before g)) done.group_is
      ∙ ap (watch_recalled_by s r) (taken_moves before done.number done.items)
      ∙ delivery_recalls p s r done.number done.node done.from Done delivery
      ∙ ap (λ status. recalled_asked r done.node (asked_at status done.node done.from Done)) done.joins

  after_at : (system_of (before ++ group)).node n ≡ Some after
  after_at =
      ap (λ (t : System). t.node n) system_is ∙ ap (after_delivery p s done.number).node (sym done.name)
      ∙ (by_rule p s done.number done.node done.from Done (due p s done.number done.node done.from Done delivery)).at.is

  has_answer : (answer : Answer) → IsAmong answer r.answers → answer.joiner ≡ n
      → HasLinkIn n after answer.slot answer.named ⊎ IsFullIn p n after answer.slot
  has_answer answer among mine =
      let sound = runs_are_sound b before run in
      let core = (run_answers_kept b before run).core answer among in
      let is_name = sound.invariant.basis.names.each answer.named (record { state = core.state; is = core.is }) in
      let fits = subst (λ x. Fits x answer.named answer.slot) mine ((run_watches_kept b before run).fits answer among) in
      let had = run_core_has b before done.number done.from done.node run done.among done.at done.goes_on answer among
      (mine ∙ sym done.name) in
      had_in p (system_of (before ++ group)) (runs_are_sound b (before ++ group) (run_more b before group run follows steps)) n after after_at
      answer.named answer.slot is_name fits (subst (λ x. IsHad p x after answer.named) done.name had)

  has_answers : HasAnswers p (before ++ group) n
  has_answers = record {
    node = after;
    is = after_at;
    has = λ answer among. has_answer answer (subst (λ (m : WatchMemory). IsAmong answer m.answers) watches_are among);
  }

-- ---- each moment

pub run_clause : (b : Beginning) (log : List Record) → IsRun b log → WatchClauseHolds b.settings log
run_clause b log run =
    let watches = run_watches_kept b log run in
    record {
      first = watches.first;
      led = (run_chains_kept b log run).covers;
      told = run_told b log run;
      answered = watches.covers;
      core = each_of_run b log (CoreHasAnswersNow b.settings)
          (λ before group stands n among.
          has_answers b before group stands.run stands.follows stands.steps n
          (takes_done b before n group stands.run stands.follows among)) run;
    }

pub clause_at : AtEachMoment WatchClauseHolds
clause_at b log m run is = run_clause b (take m log) (run_at_moment b log m run is)

pub lawful_clause : LawfulWatchClauseHolds
lawful_clause s log valid played m = clause_at (beginning_in s) log m (lawful_logs_are_safe.runs s log valid played)
