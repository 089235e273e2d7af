-- Each possible move keeps that of whichever frames as many were sent as were taken and are under way.
-- Cited above: heards_by_hellos, run_knows_all
use Rattle.std.proofs.Common.{◌≡◌, ℕ, ◌+◌, Bool, List, [], ◌∷◌, ◌++◌, Some, arith, ap, refl}
use Rattle.std.specs.Prelude.{count_by}
use Rattle.tap_name.specs.Settings.{SettingsValue}
use Rattle.tap_wire.specs.declared.frame.Frame.{Frame}
use Rattle.tap_rule.specs.Act.{act}
use Rattle.tap_rule.specs.Event.{Start}
use Rattle.tap_rule.specs.Event.Event.{Starts, Takes}
use Rattle.tap_rule.specs.Event.Start.{Join, Abandon, Publish, Withdraw, Find, Leave, Cast}
use Rattle.tap_rule.specs.Node.{NodeState, joiner}
use Rattle.tap_safety.specs.AtRest.{system_at_rest}
use Rattle.tap_safety.specs.Move.{Move, may_start}
use Rattle.tap_safety.specs.Move.Move.{Begins, Delivers}
use Rattle.tap_safety.specs.Moved.{moved, numbered_frame, starter}
use Rattle.tap_safety.specs.Exchanges.{IsTaken, numbered_from}
use Rattle.tap_safety.specs.System.{System}
use Rattle.tap_safety.proofs.Moved.{delivers, found, starts}
use Rattle.tap_safety_moves.specs.SoundMoves.{after_moves, may_run}
use Rattle.tap_safety_moves.specs.Sound.{Sound}
use Rattle.tap_safety_moves.proofs.Members.{sound_at_rest}
use Rattle.tap_safety_moves.proofs.SoundMoves.{move_keeps}
use Rattle.tap_bounds.specs.Few.{is_hello_to}
use Rattle.tap_bounds.specs.FewSent.{traffic_of}
use Rattle.tap_bounds.specs.Taken.{AllAreKnown, HeardsByHellos, KnownAtRest, MoveKeepsKnown, RunKnowsAll}
use Rattle.tap_bounds.specs.Traffic.{Traffic, frames_taken_by, no_traffic, sent_by, traffic_after}
use Rattle.tap_bounds.proofs.Counting.{count-append, count-cons}

module _ (counts : Frame → Bool) where
  abbrev ways : List (ℕ × Frame) → ℕ
  ways frames = count_by (λ (f : ℕ × Frame). counts f.1) frames

  -- numbers don't matter
  numbered_count : (n : ℕ) (sent : List Frame) → ways (numbered_from n sent) ≡ count_by counts sent
  numbered_count n [] = refl
  numbered_count n (f ∷ fs) =
      let one = count-cons (λ (g : ℕ × Frame). counts g.1) (n, f) (numbered_from (n + 1) fs) in
      let two = count-cons counts f fs in
      let others = numbered_count (n + 1) fs in
      omega (arith, one, two, others)

  -- a frame is taken, and these are sent
  taken_count : (s s' : System) (number : ℕ) (frame : Frame) (sent : List Frame) → IsTaken s s' number frame sent
      → ways s'.frames + count_by counts (frame ∷ []) ≡ ways s.frames + count_by counts sent
  taken_count s s' number frame sent taken =
      let test = λ (f : ℕ × Frame). counts f.1 in
      let new = numbered_from s.next sent in
      let before = ap ways taken.before in
      let one = count-append test taken.front ((number, frame) ∷ taken.back) in
      let two = count-cons test (number, frame) taken.back in
      let after = ap ways taken.after in
      let three = count-append test taken.front (taken.back ++ new) in
      let four = count-append test taken.back new in
      let five = numbered_count s.next sent in
      let six = count-cons counts frame [] in
      omega (arith, before, one, two, after, three, four, five, six)

-- ---- moves

delivery_known : (p : SettingsValue) (s : System) (r : Traffic) (number : ℕ) (frame : Frame) (node : NodeState)
    → numbered_frame number s.frames ≡ Some frame → s.node frame.to ≡ Some node → AllAreKnown s r
    → AllAreKnown (moved p s (Delivers number)) (traffic_after p s r (Delivers number))
unfolding sent_by frames_taken_by
delivery_known p s r number frame node is at known = record {
  each = λ counts.
      let sent : sent_by p s (Delivers number) ≡ (act node (Takes frame)).sent = rw (is, at) refl in
      let taken : frames_taken_by s (Delivers number) ≡ frame ∷ [] = rw is refl in
      let one = count-append counts r.sent (sent_by p s (Delivers number)) in
      let two = ap (count_by counts) sent in
      let three = count-append counts r.taken (frames_taken_by s (Delivers number)) in
      let four = ap (count_by counts) taken in
      let ways = taken_count counts s (moved p s (Delivers number)) number frame (act node (Takes frame)).sent
      (delivers p s number frame node is at).taken in
      let before = known.each counts in
      omega (arith, one, two, three, four, ways, before);
}

start_known : (p : SettingsValue) (s : System) (r : Traffic) (x : List ℕ) (start : Start) (node : NodeState)
    → starter p s x start ≡ Some node → AllAreKnown s r → AllAreKnown (moved p s (Begins x start)) (traffic_after p s r (Begins x start))
unfolding sent_by frames_taken_by
start_known p s r x start node there known = record {
  each = λ counts.
      let sent : sent_by p s (Begins x start) ≡ (act node (Starts start)).sent = rw there refl in
      let one = count-append counts r.sent (sent_by p s (Begins x start)) in
      let two = ap (count_by counts) sent in
      let none : frames_taken_by s (Begins x start) ≡ [] = refl in
      let three = count-append counts r.taken (frames_taken_by s (Begins x start)) in
      let four = ap (count_by counts) none in
      let after = ap (count_by (λ (f : ℕ × Frame). counts f.1)) (starts p s x start node there).sent.after in
      let five = count-append (λ (f : ℕ × Frame). counts f.1) s.frames (numbered_from s.next (act node (Starts start)).sent) in
      let six = numbered_count counts s.next (act node (Starts start)).sent in
      let before = known.each counts in
      omega (arith, one, two, three, four, after, five, six, before);
}

begins_known : (p : SettingsValue) (s : System) (r : Traffic) (x : List ℕ) (start : Start) → may_start p s x start → AllAreKnown s r
    → AllAreKnown (moved p s (Begins x start)) (traffic_after p s r (Begins x start))
begins_known p s r x (Join via) may known = start_known p s r x (Join via) (joiner p x) refl known
begins_known p s r x Abandon may known = start_known p s r x Abandon may.state may.is known
begins_known p s r x Leave may known = start_known p s r x Leave may.acts.state may.acts.is known
begins_known p s r x (Publish object) may known = start_known p s r x (Publish object) may.acts.state may.acts.is known
begins_known p s r x (Withdraw object) may known = start_known p s r x (Withdraw object) may.acts.state may.acts.is known
begins_known p s r x (Find ticket object) may known = start_known p s r x (Find ticket object) may.acts.state may.acts.is known
begins_known p s r x (Cast cast level word) may known = start_known p s r x (Cast cast level word) may.acts.state may.acts.is known

pub move_keeps_known : MoveKeepsKnown
move_keeps_known p s r (Begins x start) may sound known = begins_known p s r x start may known
move_keeps_known p s r (Delivers number) may sound known =
    delivery_known p s r number may.frame may.receiver.state
    (found number may.frame 0 s.frames s.next sound.invariant.basis.numbered.numbers may.among) may.receiver.is known

pub known_at_rest : KnownAtRest
known_at_rest p members are = record { each = λ counts. refl }

run_from : (p : SettingsValue) (s : System) (r : Traffic) (moves : List Move) → Sound p s → AllAreKnown s r → may_run p s moves
    → AllAreKnown (after_moves p s moves) (traffic_of p s r moves)
run_from p s r [] sound known may = known
run_from p s r (move ∷ moves) sound known may =
    run_from p (moved p s move) (traffic_after p s r move) moves (move_keeps p s move may.0 sound)
    (move_keeps_known p s r move may.0 sound known) may.1

pub run_knows_all : RunKnowsAll
run_knows_all p members moves are may =
    run_from p (system_at_rest p members) no_traffic moves (sound_at_rest p members are) (known_at_rest p members are) may

pub heards_by_hellos : HeardsByHellos
heards_by_hellos p s r b known few =
    let all = known.each (is_hello_to b) in
    let some = few.heards.each b in
    omega (arith, all, some)
