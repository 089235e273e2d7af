-- Each possible move keeps that few Tells are sent; so it holds at each moment of a run.
-- Cited above: run_tells_few
use Rattle.std.proofs.Common.{◌≡◌, ◌≢◌, ◌⊎◌, ℕ, ◌+◌, ◌≤◌, false, List, [], ◌∷◌, ◌++◌, Option, None, Some, arith, ap, refl, sym, subst, ◌∙◌, inl, inr}
use Rattle.std.specs.Prelude.{IfSome, count_by}
use Rattle.std.proofs.lemmas.List.Elements.{All-cons, All-nil}
use Rattle.std.proofs.lemmas.Option.{IfSome_then}
use Rattle.tap_name.specs.Prefix.{lcp}
use Rattle.tap_name.specs.Settings.{SettingsValue}
use Rattle.tap_name.specs.declared.slot.Slot.{Slot}
use Rattle.tap_join.specs.Seek.{sought}
use Rattle.tap_join.specs.declared.sought.Sought.{Sought}
use Rattle.tap_join.specs.declared.sought.Sought.TheVariants.{Forward, Surrogate}
use Rattle.tap_wire.specs.declared.frame.Body.{Body}
use Rattle.tap_wire.specs.declared.frame.Body.TheVariants.{Seek}
use Rattle.tap_wire.specs.declared.frame.Frame.{Frame}
use Rattle.tap_wire.specs.declared.frame.TellFields.{TellFields}
use Rattle.tap_rule.specs.Act.{act}
use Rattle.tap_rule.specs.Covering.{first_request, request_of, takes_seek_as}
use Rattle.tap_rule.specs.Event.{Acted, Start}
use Rattle.tap_rule.specs.Event.Event.{Starts, Takes}
use Rattle.tap_rule.specs.Event.Start.{Join, Abandon, Publish, Withdraw, Find, Leave, Cast}
use Rattle.tap_rule.specs.FrameRules.{frame_at_core, rule_of_frame}
use Rattle.tap_rule.specs.RuleLaws.{IsCarriedOut, IsIgnored, frame_to}
use Rattle.tap_rule.specs.Node.{IsRunning, NodeState, Status, joiner, level_of, name_of}
use Rattle.tap_rule.specs.Node.Status.{Ceased, Core, Gone, Joining, Leaving}
use Rattle.tap_rule.specs.Reaction.{Reaction, message}
use Rattle.tap_rule.specs.Sending.{message_frame}
use Rattle.tap_rule.specs.StartRules.{rule_of_start}
use Rattle.tap_rule.specs.Strange.{is_strange}
use Rattle.tap_rule.proofs.CarriedOut.{frame_law, start_law, unruled_law, unruled_start_law}
use Rattle.tap_rule.proofs.JoinSteps.{tell_fits}
use Rattle.tap_safety.specs.AtRest.{system_at_rest}
use Rattle.tap_safety.specs.Frames.{tell_body}
use Rattle.tap_safety.specs.Move.{Move, may_start}
use Rattle.tap_safety.specs.Move.Move.{Begins, Delivers}
use Rattle.tap_safety.specs.Moved.{moved, starter}
use Rattle.tap_safety.specs.System.{System, AmongFrames}
use Rattle.tap_safety.proofs.Moved.{starts}
use Rattle.tap_safety.proofs.Said.{Said, said_of}
use Rattle.tap_safety.proofs.Said.Said.{IsSeek, IsTell}
use Rattle.tap_moves.specs.ByRule.{taken_at}
use Rattle.tap_moves.specs.Delivered.{after_delivery, after_start}
use Rattle.tap_moves.specs.InvariantLaws.{IsDelivery}
use Rattle.tap_moves.proofs.Got.{same_name}
use Rattle.tap_moves.proofs.InvariantMoves.{due, name_at, of_node, seeker_not_core, way}
use Rattle.tap_moves.proofs.MovesMade.{by_rule, is_found}
use Rattle.tap_safety_moves.specs.SoundMoves.{after_moves, may_run}
use Rattle.tap_safety_moves.specs.Sound.{Sound}
use Rattle.tap_safety_moves.proofs.Members.{sound_at_rest}
use Rattle.tap_safety_moves.proofs.SoundMoves.{move_keeps}
use Rattle.tap_safety_moves.proofs.Delivered.{is_delivery}
use Rattle.tap_bounds.specs.FewSent.{traffic_of}
use Rattle.tap_bounds.specs.Tells.{MoveKeepsTells, RunTellsFew, TellsAreFew, TellsAtRest, is_tell, most_tells, tells_sent}
use Rattle.tap_bounds.specs.Traffic.{Traffic, no_traffic, sent_by, traffic_after}
use Rattle.tap_bounds.proofs.Counting.{count-append, count-map_none, counted}
use Rattle.tap_bounds.proofs.TellRules.{IsUntold, Untold, elsewhere_untold, rule_untold, start_untold}
use Rattle.tap_bounds.proofs.TellSteps.{Grows, most_is_two, pins_grow, tell_from, tell_tests, untold_grows}

-- ---- what a node does

-- the Tells that a node sends, with those that its cover allowed before, are at most those that it allows afterwards; a node that has
-- ended sends none; and nobody sends in another's name
pub record ActedGrows (node : NodeState) (acted : Acted) : Type 0 where
  pub runs : IsRunning acted.state.status → IsRunning node.status
  pub each : (o b : List ℕ) → IsRunning acted.state.status
      → count_by (is_tell (name_of node) o b) acted.sent + most_tells (level_of node b) (lcp (name_of node) o)
      ≤ most_tells (level_of acted.state b) (lcp (name_of node) o)
  pub ended : (o b : List ℕ) → (IsRunning acted.state.status → ⊥) → count_by (is_tell (name_of node) o b) acted.sent ≤ 0
  pub others : (x o b : List ℕ) → x ≢ name_of node → count_by (is_tell x o b) acted.sent ≤ 0

carried_grows : (node : NodeState) (r : Reaction) (acted : Acted) → IsCarriedOut node r acted → Grows node r → ActedGrows node acted
carried_grows node r acted carried grows = record {
  runs = λ runs. grows.runs (subst IsRunning carried.status runs);
  each = λ o b runs.
      let all = counted (is_tell own o b) (tell_tests own o b) node r acted carried in
      let more = grows.each o b (subst IsRunning carried.status runs) in
      let same : most_tells (level_of acted.state b) (lcp own o) ≡ most_tells (level_of r.state b) (lcp own o) =
      ap (λ cs. most_tells (Rattle.tap_multicast.specs.Covers.level_kept cs b) (lcp own o)) carried.covers in
      omega (arith, all, more, same);
  ended = λ o b over.
      let all = counted (is_tell own o b) (tell_tests own o b) node r acted carried in
      let none = grows.ended o b (λ runs. over (subst IsRunning (sym carried.status) runs)) in
      omega (arith, all, none);
  others = λ x o b other.
      let all = counted (is_tell x o b) (tell_tests x o b) node r acted carried in
      let none = count-map_none (is_tell x o b) (message_frame own) (tell_from own x o b other) r.messages in
      omega (arith, all, none);
}
  where
    own : List ℕ
    own = name_of node

ignored_grows : (node : NodeState) (acted : Acted) → IsIgnored node acted → ActedGrows node acted
ignored_grows node acted ignored = record {
  runs = λ runs. subst (λ (n : NodeState). IsRunning n.status) ignored.state runs;
  each = λ o b runs.
      let none = ap (count_by (is_tell (name_of node) o b)) ignored.sent in
      let same : most_tells (level_of acted.state b) (lcp (name_of node) o) ≡ most_tells (level_of node b) (lcp (name_of node) o) =
      ap (λ (n : NodeState). most_tells (level_of n b) (lcp (name_of node) o)) ignored.state in
      omega (arith, none, same);
  ended = λ o b over. let none = ap (count_by (is_tell (name_of node) o b)) ignored.sent in omega (arith, none);
  others = λ x o b other. let none = ap (count_by (is_tell x o b)) ignored.sent in omega (arith, none);
}

frame_grows : (node : NodeState) (frame : Frame) → is_strange node frame ≡ false
    → IfSome (rule_of_frame node.status node frame.from frame.body) (Grows node) → ActedGrows node (act node (Takes frame))
frame_grows node frame fits grows = by (rule_of_frame node.status node frame.from frame.body) refl grows
  where
    by : (rule : Option Reaction) → rule_of_frame node.status node frame.from frame.body ≡ rule → IfSome rule (Grows node)
        → ActedGrows node (act node (Takes frame))
    by None is grows = ignored_grows node (act node (Takes frame)) (unruled_law node frame is)
    by (Some r) is grows = carried_grows node r (act node (Takes frame)) (frame_law node frame r fits is) grows

start_grows : (node : NodeState) (start : Start) → ActedGrows node (act node (Starts start))
start_grows node start = by (rule_of_start node.status node start) refl (start_untold node node.status refl start)
  where
    by : (rule : Option Reaction) → rule_of_start node.status node start ≡ rule → IfSome rule (Untold node)
        → ActedGrows node (act node (Starts start))
    by None is untold = ignored_grows node (act node (Starts start)) (unruled_start_law node start is)
    by (Some r) is untold =
        carried_grows node r (act node (Starts start)) (start_law node start r is) (untold_grows node r untold)

-- ---- what it does at a frame

module _ (p : SettingsValue) (s : System) (number : ℕ) (node : NodeState) (from : List ℕ) where
  elsewhere : (body : Body) → (node.status ≡ Core → ⊥) → IfSome (rule_of_frame node.status node from body) (Grows node)
  elsewhere body other =
      IfSome_then (rule_of_frame node.status node from body) (elsewhere_untold node from node.status refl other body) (untold_grows node)

  seeking : (next b : List ℕ) → Untold node (takes_seek_as node b (Forward next))
  seeking next b = record {
    messages = All-cons (λ m. IsUntold m.body) (message next (Seek b)) [] tt (All-nil (λ m. IsUntold m.body));
    covers = inl refl;
    runs = λ runs. runs;
  }

  core_seek : (b : List ℕ) → IsDelivery p s number node from (Seek b) → node.status ≡ Core
      → IfSome (rule_of_frame Core node from (Seek b)) (Grows node)
  unfolding frame_at_core
  core_seek b is at = at_core (sought node.ties.table b)
    where
      at_core : (found : Sought) → Grows node (takes_seek_as node b found)
      at_core (Forward next) = untold_grows node (takes_seek_as node b (Forward next)) (seeking next b)
      at_core (Surrogate prefix) =
          let seeker = is.invariant.seekers.seeks from (name_of node) b (way p s number node from (Seek b) is) in
          pins_grow node (due p s number node from (Seek b) is).is_node (first_request node b prefix)
          (of_node p s number node from (Seek b) is b (name_at p s is.nodes b seeker.state seeker.is))
          (λ same. seeker_not_core s b seeker (record { state = node; is = ap s.node same ∙ is.at; core = inl at }))
          (subst IsRunning (sym at) tt)

  core_tell : (tell : TellFields) (watch : List Slot) → IsDelivery p s number node from (tell_body tell watch) → node.status ≡ Core
      → IfSome (rule_of_frame Core node from (tell_body tell watch)) (Grows node)
  unfolding frame_at_core
  core_tell tell watch is at =
      let body = (is.invariant.spelled.each number (frame_to node from (tell_body tell watch)) is.among).body in
      pins_grow node (due p s number node from (tell_body tell watch) is).is_node (request_of from tell watch)
      (of_node p s number node from (tell_body tell watch) is tell.joiner body.joiner_is)
      (tell_fits node from tell watch is.known).apart (subst IsRunning (sym at) tt)

  -- a Seek and a Tell: at a core node, or elsewhere
  by_status : (body : Body) → (node.status ≡ Core → IfSome (rule_of_frame Core node from body) (Grows node)) → (status : Status)
      → node.status ≡ status → IfSome (rule_of_frame node.status node from body) (Grows node)
  by_status body core Core at = subst (λ status. IfSome (rule_of_frame status node from body) (Grows node)) (sym at) (core at)
  by_status body core Joining at = elsewhere body (λ is. let wrong : Joining ≡ Core = sym at ∙ is in absurd (cc))
  by_status body core Leaving at = elsewhere body (λ is. let wrong : Leaving ≡ Core = sym at ∙ is in absurd (cc))
  by_status body core Gone at = elsewhere body (λ is. let wrong : Gone ≡ Core = sym at ∙ is in absurd (cc))
  by_status body core Ceased at = elsewhere body (λ is. let wrong : Ceased ≡ Core = sym at ∙ is in absurd (cc))

  rule_grows : (body : Body) → Said body → IsDelivery p s number node from body → IfSome (rule_of_frame node.status node from body) (Grows node)
  rule_grows _ (IsSeek b) is = by_status (Seek b) (core_seek b is) node.status refl
  rule_grows _ (IsTell tell watch) is = by_status (tell_body tell watch) (core_tell tell watch is) node.status refl
  rule_grows body _ is =
      IfSome_then (rule_of_frame node.status node from body) (rule_untold node from node.status refl body tt) (untold_grows node)

  pub taken_grows : (body : Body) → IsDelivery p s number node from body → ActedGrows node (taken_at node from body)
  taken_grows body is = frame_grows node (frame_to node from body) is.known (rule_grows body (said_of body) is)

-- ---- what that makes of a system

runs_or_not : (status : Status) → IsRunning status ⊎ (IsRunning status → ⊥)
runs_or_not Joining = inl tt
runs_or_not Core = inl tt
runs_or_not Leaving = inl tt
runs_or_not Gone = inr (λ runs. runs)
runs_or_not Ceased = inr (λ runs. runs)

module _ (s s' : System) (r r' : Traffic) (node : NodeState) (acted : Acted) (at : s'.node (name_of node) ≡ Some acted.state)
    (others : (y : List ℕ) → (y ≡ name_of node) ⊎ (s'.node y ≡ s.node y)) (all : r'.sent ≡ r.sent ++ acted.sent)
    (grows : ActedGrows node acted)
    (old : (o b : List ℕ) → IsRunning node.status → tells_sent r (name_of node) o b ≤ most_tells (level_of node b) (lcp (name_of node) o))
    (few : TellsAreFew s r) where
  abbrev own : List ℕ
  own = name_of node

  total : (x o b : List ℕ) → tells_sent r' x o b ≡ tells_sent r x o b + count_by (is_tell x o b) acted.sent
  total x o b = ap (count_by (is_tell x o b)) all ∙ count-append (is_tell x o b) r.sent acted.sent

  own_running : (o b : List ℕ) → IsRunning acted.state.status → tells_sent r' own o b ≤ most_tells (level_of acted.state b) (lcp own o)
  own_running o b runs =
      let sum = total own o b in
      let before = old o b (grows.runs runs) in
      let more = grows.each o b runs in
      omega (arith, sum, before, more)

  own_within : (o b : List ℕ) → tells_sent r' own o b ≤ 2
  own_within o b =
      elim (runs_or_not acted.state.status) [
        | inl runs ↦
            let few_now = own_running o b runs in
            let two = most_is_two (level_of acted.state b) (lcp own o) in
            omega (arith, few_now, two)
        | inr over ↦
            let sum = total own o b in
            let none = grows.ended o b over in
            let before = few.within own o b in
            omega (arith, sum, none, before)
      ]

  within : (x o b : List ℕ) → tells_sent r' x o b ≤ 2
  within x o b =
      elim (same_name x own) [
        | inl same ↦ subst (λ y. tells_sent r' y o b ≤ 2) (sym same) (own_within o b)
        | inr other ↦
            let sum = total x o b in
            let none = grows.others x o b other in
            let before = few.within x o b in
            omega (arith, sum, none, before)
      ]

  running : (x : List ℕ) (n : NodeState) → s'.node x ≡ Some n → IsRunning n.status → (o b : List ℕ)
      → tells_sent r' x o b ≤ most_tells (level_of n b) (lcp x o)
  running x n is runs o b =
      elim (same_name x own) [
        | inl same ↦
            let here : Some acted.state ≡ Some n = sym at ∙ ap s'.node (sym same) ∙ is in
            let state : acted.state ≡ n = cc in
            subst (λ y. tells_sent r' y o b ≤ most_tells (level_of n b) (lcp y o)) (sym same)
            (subst (λ (m : NodeState). tells_sent r' own o b ≤ most_tells (level_of m b) (lcp own o)) state
            (own_running o b (subst (λ (m : NodeState). IsRunning m.status) (sym state) runs)))
        | inr other ↦
            let sum = total x o b in
            let none = grows.others x o b other in
            let before = few.running x n (kept other ∙ is) runs o b in
            omega (arith, sum, none, before)
      ]
    where
      kept : x ≢ own → s.node x ≡ s'.node x
      kept other = elim (others x) [ inl same ↦ absurd (other same) | inr stays ↦ sym stays ]

  fresh : (x : List ℕ) → s'.node x ≡ None → (o b : List ℕ) → tells_sent r' x o b ≡ 0
  fresh x nobody o b =
      elim (same_name x own) [
        | inl same ↦
            let wrong : ◌≡◌ {A = Option NodeState} None (Some acted.state) = sym nobody ∙ ap s'.node same ∙ at in
            absurd (cc)
        | inr other ↦
            let sum = total x o b in
            let none = grows.others x o b other in
            let before = few.fresh x (kept other) o b in
            omega (arith, sum, none, before)
      ]
    where
      kept : x ≢ own → s.node x ≡ None
      kept other = elim (others x) [ inl same ↦ absurd (other same) | inr stays ↦ sym stays ∙ nobody ]

  pub tells_kept : TellsAreFew s' r'
  tells_kept = record { within = within; running = running; fresh = fresh }

-- ---- frames

delivery_keeps : (p : SettingsValue) (s : System) (r : Traffic) (number : ℕ) (node : NodeState) (from : List ℕ) (body : Body)
    → IsDelivery p s number node from body → TellsAreFew s r
    → TellsAreFew (after_delivery p s number) (traffic_after p s r (Delivers number))
unfolding sent_by
delivery_keeps p s r number node from body is few =
    let comes = due p s number node from body is in
    let step = by_rule p s number node from body comes in
    let here = is.at in
    let sent : sent_by p s (Delivers number) ≡ (taken_at node from body).sent = rw (is_found p s number node from body comes, here) refl in
    tells_kept s (after_delivery p s number) r (traffic_after p s r (Delivers number)) node (taken_at node from body) step.at.is
    step.at.others (ap (λ fs. r.sent ++ fs) sent) (taken_grows p s number node from body is)
    (λ o b runs. few.running (name_of node) node is.at runs o b) few

frame_keeps : (p : SettingsValue) (s : System) (r : Traffic) (number : ℕ) (frame : Frame) (node : NodeState) → Sound p s
    → TellsAreFew s r → AmongFrames number frame s.frames → s.node frame.to ≡ Some node
    → TellsAreFew (after_delivery p s number) (traffic_after p s r (Delivers number))
frame_keeps p s r number frame node sound few among at =
    delivery_keeps p s r number node frame.from frame.body (is_delivery p s number frame node sound among at) few

-- ---- starts

starter_keeps : (p : SettingsValue) (s : System) (r : Traffic) (start : Start) (node : NodeState)
    → starter p s (name_of node) start ≡ Some node
    → ((o b : List ℕ) → IsRunning node.status → tells_sent r (name_of node) o b ≤ most_tells (level_of node b) (lcp (name_of node) o))
    → TellsAreFew s r → TellsAreFew (after_start p s (name_of node) start) (traffic_after p s r (Begins (name_of node) start))
unfolding sent_by
starter_keeps p s r start node there old few =
    let done = (starts p s (name_of node) start node there).done in
    let sent : sent_by p s (Begins (name_of node) start) ≡ (act node (Starts start)).sent = rw there refl in
    tells_kept s (after_start p s (name_of node) start) r (traffic_after p s r (Begins (name_of node) start)) node
    (act node (Starts start)) done.is done.others (ap (λ fs. r.sent ++ fs) sent) (start_grows node start) old few

-- a node that is there starts something
here_keeps : (p : SettingsValue) (s : System) (r : Traffic) (x : List ℕ) (start : Start) (node : NodeState) → s.node x ≡ Some node
    → starter p s x start ≡ Some node → Sound p s → TellsAreFew s r
    → TellsAreFew (after_start p s x start) (traffic_after p s r (Begins x start))
here_keeps p s r x start node at there sound few =
    let name : name_of node ≡ x = (sound.nodes.nodes x node at).name in
    subst (λ y. TellsAreFew (after_start p s y start) (traffic_after p s r (Begins y start))) name
    (starter_keeps p s r start node (subst (λ y. starter p s y start ≡ Some node) (sym name) there)
    (λ o b runs. few.running (name_of node) node (ap s.node name ∙ at) runs o b) few)

start_keeps : (p : SettingsValue) (s : System) (r : Traffic) (x : List ℕ) (start : Start) → may_start p s x start → Sound p s
    → TellsAreFew s r → TellsAreFew (after_start p s x start) (traffic_after p s r (Begins x start))
start_keeps p s r x (Join via) may sound few =
    starter_keeps p s r (Join via) (joiner p x) refl (λ o b runs.
    let none = few.fresh x may.fresh o b in omega (arith, none)) few
start_keeps p s r x Abandon may sound few = here_keeps p s r x Abandon may.state may.is may.is sound few
start_keeps p s r x Leave may sound few = here_keeps p s r x Leave may.acts.state may.acts.is may.acts.is sound few
start_keeps p s r x (Publish object) may sound few =
    here_keeps p s r x (Publish object) may.acts.state may.acts.is may.acts.is sound few
start_keeps p s r x (Withdraw object) may sound few =
    here_keeps p s r x (Withdraw object) may.acts.state may.acts.is may.acts.is sound few
start_keeps p s r x (Find ticket object) may sound few =
    here_keeps p s r x (Find ticket object) may.acts.state may.acts.is may.acts.is sound few
start_keeps p s r x (Cast cast level word) may sound few =
    here_keeps p s r x (Cast cast level word) may.acts.state may.acts.is may.acts.is sound few

-- ---- moves, and runs

pub move_keeps_tells : MoveKeepsTells
move_keeps_tells p s r (Begins x start) may sound few = start_keeps p s r x start may sound few
move_keeps_tells p s r (Delivers number) may sound few =
    frame_keeps p s r number may.frame may.receiver.state sound few may.among may.receiver.is

pub tells_at_rest : TellsAtRest
tells_at_rest p members are = record {
  within = λ x o b. omega arith;
  running = λ x node at runs o b. omega arith;
  fresh = λ x nobody o b. omega arith;
}

run_from : (p : SettingsValue) (s : System) (r : Traffic) (moves : List Move) → Sound p s → TellsAreFew s r → may_run p s moves
    → TellsAreFew (after_moves p s moves) (traffic_of p s r moves)
run_from p s r [] sound few may = few
run_from p s r (move ∷ moves) sound few may =
    run_from p (moved p s move) (traffic_after p s r move) moves (move_keeps p s move may.0 sound)
    (move_keeps_tells p s r move may.0 sound few) may.1

pub run_tells_few : RunTellsFew
run_tells_few p members moves are may =
    run_from p (system_at_rest p members) no_traffic moves (sound_at_rest p members are) (tells_at_rest p members are) may
