-- Each possible move keeps what is said of the frames of joins; so it holds at each moment of a run.
-- Cited above: run_sends_few
use Rattle.std.proofs.Common.{◌≡◌, ◌⊎◌, ℕ, nat_eq, ◌≤◌, true, cond, List, [], ◌∷◌, ◌++◌, Option, None, Some, arith, ap, refl, sym, subst, ◌∙◌, inl, inr}
use Rattle.std.specs.Prelude.{count_by}
use Rattle.std.specs.Cmp.Lexicographic.{pointwise}
use Rattle.std.proofs.lemmas.Bool.{cases_Bool}
use Rattle.std.proofs.lemmas.Slice.Eq.{bytes_eq-Decides}
use Rattle.tap_name.specs.Settings.{SettingsValue}
use Rattle.tap_join.specs.Seek.{sought}
use Rattle.tap_join.specs.declared.sought.Sought.{Sought}
use Rattle.tap_join.specs.declared.sought.Sought.TheVariants.{Forward, Surrogate}
use Rattle.tap_wire.specs.declared.frame.Body.{Body}
use Rattle.tap_wire.specs.declared.frame.Body.TheVariants.{Seek}
use Rattle.tap_wire.specs.declared.frame.Frame.{Frame}
use Rattle.tap_rule.specs.Act.{act}
use Rattle.tap_rule.specs.Event.{Start}
use Rattle.tap_rule.specs.Event.Event.{Starts}
use Rattle.tap_rule.specs.Event.Start.{Join, Abandon, Publish, Withdraw, Find, Leave, Cast}
use Rattle.tap_rule.specs.RuleLaws.{frame_to}
use Rattle.tap_rule.specs.Node.{NodeState, Status, joiner}
use Rattle.tap_rule.specs.Node.Status.{Ceased, Core, Gone, Joining, Leaving}
use Rattle.tap_rule.specs.Sent.{IsAmong}
use Rattle.tap_safety.specs.AtRest.{system_at_rest}
use Rattle.tap_safety.specs.Move.{MayJoin, Move, may_start}
use Rattle.tap_safety.specs.Move.Move.{Begins, Delivers}
use Rattle.tap_safety.specs.Moved.{moved, starter}
use Rattle.tap_safety.specs.Exchanges.{numbered_from}
use Rattle.tap_safety.specs.SessionSteps.{Exchanges}
use Rattle.tap_safety.specs.System.{System, AmongFrames}
use Rattle.tap_safety.proofs.Moved.{starts}
use Rattle.tap_moves.specs.ByRule.{taken_at}
use Rattle.tap_moves.specs.Delivered.{IsArriving, after_delivery, after_start}
use Rattle.tap_moves.specs.InvariantLaws.{IsDelivery}
use Rattle.tap_moves.proofs.Exchanged.{exchanges, in_either, sent_numbered}
use Rattle.tap_moves.proofs.InvariantMoves.{due}
use Rattle.tap_moves.proofs.MovesMade.{by_rule, is_found}
use Rattle.tap_safety_moves.specs.SoundMoves.{after_moves, may_run}
use Rattle.tap_safety_moves.specs.Sound.{Sound}
use Rattle.tap_safety_moves.proofs.Members.{sound_at_rest}
use Rattle.tap_safety_moves.proofs.SoundMoves.{move_keeps}
use Rattle.tap_safety_moves.proofs.Delivered.{is_delivery}
use Rattle.tap_bounds.specs.Few.{FewAreSent, HeardsAreFew, is_heard_from, is_hello_to}
use Rattle.tap_bounds.specs.FewSent.{FewAtRest, MoveKeepsFew, RunSendsFew, traffic_of}
use Rattle.tap_bounds.specs.Traffic.{Traffic, frames_taken_by, no_traffic, sent_by, traffic_after}
use Rattle.tap_bounds.proofs.Counting.{count-append}
use Rattle.tap_bounds.proofs.PlainRules.{IsNoJoin}
use Rattle.tap_bounds.proofs.SeekMoves.{SendsFew, SendsOn, SendsOne, forward_few, seeks_kept}
use Rattle.tap_bounds.proofs.Sent.{IsNoSeek, elsewhere_brings, heards_at_frame, heards_at_start, join_brings, no_join_seeks, no_seek_brings, surrogate_brings}

-- ---- Heards

heards_kept : (r r' : Traffic) (sent taken : List Frame) → r'.sent ≡ r.sent ++ sent → r'.taken ≡ r.taken ++ taken
    → ((b : List ℕ) → count_by (is_heard_from b) sent ≤ count_by (is_hello_to b) taken) → HeardsAreFew r → HeardsAreFew r'
heards_kept r r' sent taken all_sent all_taken few heards = record {
  each = λ b.
      let one = ap (count_by (is_heard_from b)) all_sent in
      let two = count-append (is_heard_from b) r.sent sent in
      let three = ap (count_by (is_hello_to b)) all_taken in
      let four = count-append (is_hello_to b) r.taken taken in
      let now = few b in
      let before = heards.each b in
      omega (arith, one, two, three, four, now, before);
}

-- ---- frames

module _ (p : SettingsValue) (s : System) (r : Traffic) (number : ℕ) (node : NodeState) (from : List ℕ) (body : Body)
    (is : IsDelivery p s number node from body) (few : FewAreSent p s r) where
  abbrev s' : System
  s' = after_delivery p s number

  abbrev r' : Traffic
  r' = traffic_after p s r (Delivers number)

  abbrev sent : List Frame
  sent = (taken_at node from body).sent

  comes : IsArriving s number node from body
  comes = due p s number node from body is

  sent_is : sent_by p s (Delivers number) ≡ sent
  unfolding sent_by
  sent_is = rw (is_found p s number node from body comes, is.at) refl

  taken_is : frames_taken_by s (Delivers number) ≡ frame_to node from body ∷ []
  unfolding frames_taken_by
  taken_is = rw (is_found p s number node from body comes) refl

  exchange : Exchanges s s' number (frame_to node from body) (numbered_from s.next sent)
  exchange = exchanges s s' number (frame_to node from body) sent (by_rule p s number node from body comes).taken comes.numbers

  sends_on : SendsOn s s' r r' sent
  sends_on = record {
    all = ap (λ fs. r.sent ++ fs) sent_is;
    was = λ m f among. elim (exchange.was m f among) [ inl old ↦ inl old | inr new ↦ inr (sent_numbered m f s.next sent new) ];
    nodes = nodes;
  }
    where
      nodes : (b : List ℕ) → s'.node b ≡ None → s.node b ≡ None
      nodes b nobody =
          let at = (by_rule p s number node from body comes).at in
          elim (at.others b) [
            | inl same ↦
                let here = at.is in
                let wrong : ◌≡◌ {A = Option NodeState} None (Some (taken_at node from body).state) =
                sym nobody ∙ ap s'.node same ∙ here in
                absurd (cc)
            | inr kept ↦ sym kept ∙ nobody
          ]

  pub frame_few : SendsFew p s' r sent → FewAreSent p s' r'
  frame_few sends = record {
    seeks = seeks_kept p s s' r r' sent sends_on sends few.seeks;
    heards = heards_kept r r' sent (frame_to node from body ∷ []) (ap (λ fs. r.sent ++ fs) sent_is)
        (ap (λ fs. r.taken ++ fs) taken_is) (λ b. heards_at_frame b node from body) few.heards;
  }

module _ (p : SettingsValue) (s : System) (r : Traffic) (number : ℕ) (node : NodeState) (from : List ℕ) (few : FewAreSent p s r) where
  abbrev Few : Body → Type 0
  Few body = FewAreSent p (after_delivery p s number) (traffic_after p s r (Delivers number))

  other_few : (body : Body) → IsNoSeek body → IsDelivery p s number node from body → Few body
  other_few body other is =
      frame_few p s r number node from body is few (λ b. inl (no_seek_brings b node (frame_to node from body) other))

  seek_few : (joiner : List ℕ) → IsDelivery p s number node from (Seek joiner) → Few (Seek joiner)
  seek_few joiner is = frame_few p s r number node from (Seek joiner) is few (by_status node.status refl)
    where
      by_found : node.status ≡ Core → (found : Sought) → sought node.ties.table joiner ≡ found
          → SendsFew p (after_delivery p s number) r (taken_at node from (Seek joiner)).sent
      by_found at (Forward next) found = forward_few p s r number node from joiner next is at found few.seeks
      by_found at (Surrogate prefix) found = λ b. inl (surrogate_brings b node from joiner prefix found)

      elsewhere : (node.status ≡ Core → ⊥) → SendsFew p (after_delivery p s number) r (taken_at node from (Seek joiner)).sent
      elsewhere other = λ b. inl (elsewhere_brings b node from joiner other)

      by_status : (status : Status) → node.status ≡ status
          → SendsFew p (after_delivery p s number) r (taken_at node from (Seek joiner)).sent
      by_status Core at = by_found at (sought node.ties.table joiner) refl
      by_status Joining at = elsewhere (λ core. let wrong : Joining ≡ Core = sym at ∙ core in absurd (cc))
      by_status Leaving at = elsewhere (λ core. let wrong : Leaving ≡ Core = sym at ∙ core in absurd (cc))
      by_status Gone at = elsewhere (λ core. let wrong : Gone ≡ Core = sym at ∙ core in absurd (cc))
      by_status Ceased at = elsewhere (λ core. let wrong : Ceased ≡ Core = sym at ∙ core in absurd (cc))

  by_body : (body : Body) → IsDelivery p s number node from body → Few body
  by_body (Seek joiner) is = seek_few joiner is
  by_body body is = other_few body tt is

delivery_keeps : (p : SettingsValue) (s : System) (r : Traffic) (number : ℕ) (frame : Frame) (node : NodeState) → Sound p s
    → FewAreSent p s r → AmongFrames number frame s.frames → s.node frame.to ≡ Some node
    → FewAreSent p (after_delivery p s number) (traffic_after p s r (Delivers number))
delivery_keeps p s r number frame node sound few among at =
    by_body p s r number node frame.from few frame.body (is_delivery p s number frame node sound among at)

-- ---- starts

module _ (p : SettingsValue) (s : System) (r : Traffic) (x : List ℕ) (start : Start) (node : NodeState)
    (there : starter p s x start ≡ Some node) (few : FewAreSent p s r) where
  abbrev s'' : System
  s'' = after_start p s x start

  abbrev r'' : Traffic
  r'' = traffic_after p s r (Begins x start)

  abbrev begun : List Frame
  begun = (act node (Starts start)).sent

  begun_is : sent_by p s (Begins x start) ≡ begun
  unfolding sent_by
  begun_is = rw there refl

  none_taken : frames_taken_by s (Begins x start) ≡ []
  unfolding frames_taken_by
  none_taken = refl

  was_or_begun : (m : ℕ) (f : Frame) → AmongFrames m f s''.frames → AmongFrames m f s.frames ⊎ IsAmong f begun
  was_or_begun m f among =
      let step = starts p s x start node there in
      elim (in_either m f s.frames (numbered_from s.next begun) (subst (λ fs. AmongFrames m f fs) step.sent.after among)) [
        | inl old ↦ inl old
        | inr new ↦ inr (sent_numbered m f s.next begun new)
      ]

  pub starter_stays : (b : List ℕ) → s''.node b ≡ None → (b ≡ x → ⊥) × (s.node b ≡ None)
  starter_stays b nobody =
      let done = (starts p s x start node there).done in
      let here = done.is in
      let apart : b ≡ x → ⊥ = λ same.
      let wrong : ◌≡◌ {A = Option NodeState} None (Some (act node (Starts start)).state) = sym nobody ∙ ap s''.node same ∙ here in
      absurd (cc) in
      elim (done.others b) [ inl same ↦ absurd (apart same) | inr kept ↦ (apart, sym kept ∙ nobody) ]

  pub start_few : SendsFew p s'' r begun → FewAreSent p s'' r''
  start_few sends = record {
    seeks = seeks_kept p s s'' r r'' begun (record {
      all = ap (λ fs. r.sent ++ fs) begun_is;
      was = was_or_begun;
      nodes = λ b nobody. (starter_stays b nobody).1;
    }) sends few.seeks;
    heards = heards_kept r r'' begun [] (ap (λ fs. r.sent ++ fs) begun_is) (ap (λ fs. r.taken ++ fs) none_taken)
        (λ b. heards_at_start b node start) few.heards;
  }

  pub no_join_few : IsNoJoin start → FewAreSent p s'' r''
  no_join_few other = start_few (λ b. inl (no_join_seeks b node start other))

-- a join brings one Seek, of a name of which none was sent
join_few : (p : SettingsValue) (s : System) (r : Traffic) (x via : List ℕ) → MayJoin p s x via → Sound p s → (few : FewAreSent p s r)
    → FewAreSent p (after_start p s x (Join via)) (traffic_after p s r (Begins x (Join via)))
join_few p s r x via may sound few = start_few p s r x (Join via) (joiner p x) refl few sends
  where
    digits_from : 1 ≤ p.digits
    digits_from =
        let of = sound.nodes.nodes via may.core.state may.core.is in
        subst (λ (q : SettingsValue). 1 ≤ q.digits) of.settings of.is_node.ties.table.limits.digits_from

    own : SendsOne p (after_start p s x (Join via)) r (act (joiner p x) (Starts (Join via))).sent x
    own =
        let brings = join_brings x (joiner p x) via in
        let itself : pointwise nat_eq x x ≡ true = (bytes_eq-Decides x x).1 refl in
        let one : cond {A = ℕ} (pointwise nat_eq x x) 1 0 ≡ 1 = rw itself refl in
        let none = few.seeks.fresh x may.fresh in
        let from = digits_from in
        record {
          most = 0;
          before = omega (arith, none);
          one = omega (arith, brings, one);
          within = omega (arith, from);
          ways = λ m w to among. omega arith;
          there = λ nobody. (starter_stays p s r x (Join via) (joiner p x) refl few x nobody).0 refl;
        }

    sends : SendsFew p (after_start p s x (Join via)) r (act (joiner p x) (Starts (Join via))).sent
    sends b =
        elim (cases_Bool (pointwise nat_eq x b)) [
          | inl same ↦
              inr (subst (SendsOne p (after_start p s x (Join via)) r (act (joiner p x) (Starts (Join via))).sent)
              ((bytes_eq-Decides x b).0 same) own)
          | inr apart ↦
              let brings = join_brings b (joiner p x) via in
              let other : cond {A = ℕ} (pointwise nat_eq x b) 1 0 ≡ 0 = rw apart refl in
              inl (omega (arith, brings, other))
        ]

start_keeps : (p : SettingsValue) (s : System) (r : Traffic) (x : List ℕ) (start : Start) → may_start p s x start → Sound p s
    → FewAreSent p s r → FewAreSent p (after_start p s x start) (traffic_after p s r (Begins x start))
start_keeps p s r x (Join via) may sound few = join_few p s r x via may sound few
start_keeps p s r x Abandon may sound few = no_join_few p s r x Abandon may.state may.is few tt
start_keeps p s r x Leave may sound few = no_join_few p s r x Leave may.acts.state may.acts.is few tt
start_keeps p s r x (Publish object) may sound few = no_join_few p s r x (Publish object) may.acts.state may.acts.is few tt
start_keeps p s r x (Withdraw object) may sound few = no_join_few p s r x (Withdraw object) may.acts.state may.acts.is few tt
start_keeps p s r x (Find ticket object) may sound few = no_join_few p s r x (Find ticket object) may.acts.state may.acts.is few tt
start_keeps p s r x (Cast cast level word) may sound few =
    no_join_few p s r x (Cast cast level word) may.acts.state may.acts.is few tt

-- ---- moves, and runs

pub move_keeps_few : MoveKeepsFew
move_keeps_few p s r (Begins x start) may sound few = start_keeps p s r x start may sound few
move_keeps_few p s r (Delivers number) may sound few =
    delivery_keeps p s r number may.frame may.receiver.state sound few may.among may.receiver.is

pub few_at_rest : FewAtRest
few_at_rest p members are = record {
  seeks = record { within = λ b. omega arith; ways = λ m from to b among. absurd among; fresh = λ b nobody. refl };
  heards = record { each = λ b. omega arith };
}

run_from : (p : SettingsValue) (s : System) (r : Traffic) (moves : List Move) → Sound p s → FewAreSent p s r → may_run p s moves
    → FewAreSent p (after_moves p s moves) (traffic_of p s r moves)
run_from p s r [] sound few may = few
run_from p s r (move ∷ moves) sound few may =
    run_from p (moved p s move) (traffic_after p s r move) moves (move_keeps p s move may.0 sound)
    (move_keeps_few p s r move may.0 sound few) may.1

pub run_sends_few : RunSendsFew
run_sends_few p members moves are may =
    run_from p (system_at_rest p members) no_traffic moves (sound_at_rest p members are) (few_at_rest p members are) may
