-- How many frames of a lookup are under way, after each move.
-- Cited above: lookups_go_on
use Rattle.std.proofs.Common.{◌≡◌, ◌⊎◌, ℕ, ◌+◌, List, [], ◌∷◌, ◌++◌, Some, arith, refl, ap, sym, subst, ◌∙◌, inl, inr}
use Rattle.std.specs.Option.{option_map}
use Rattle.std.specs.Prelude.{count_by}
use Rattle.std.proofs.lemmas.List.Sums.{sum_by-append, sum_by-cons}
use Rattle.tap_name.specs.Settings.{SettingsValue}
use Rattle.tap_wire.specs.declared.frame.Body.{Body}
use Rattle.tap_wire.specs.declared.frame.Body.TheVariants.{Answer, Find}
use Rattle.tap_wire.specs.declared.frame.Frame.{Frame}
use Rattle.tap_rule.specs.Act.{act}
use Rattle.tap_rule.specs.Event.{Start}
use Rattle.tap_rule.specs.Event.Event.{Starts, Takes}
use Rattle.tap_rule.specs.Event.Start.{Find as StartFind, Join}
use Rattle.tap_rule.specs.Node.{NodeState, joiner}
use Rattle.tap_rule.specs.Node.Status.{Core, Leaving}
use Rattle.tap_safety.specs.Exchanges.{IsTaken, numbered_from}
use Rattle.tap_safety.specs.Move.{may_start}
use Rattle.tap_safety.specs.Move.Move.{Begins, Delivers}
use Rattle.tap_safety.specs.Moved.{starter}
use Rattle.tap_safety.specs.System.{System, AmongFrames, IsCoreNode}
use Rattle.tap_safety.proofs.Moved.{delivers, found, starts}
use Rattle.tap_moves.specs.Delivered.{after_delivery, after_start}
use Rattle.tap_safety_moves.specs.Sound.{Sound}
use Rattle.tap_safety_moves.proofs.Delivered.{is_delivery, is_to_receiver}
use Rattle.tap_pointer_moves.proofs.Publications.{starter_of}
use Rattle.tap_pointer_moves.specs.LookupAnswers.{news_of, news_of_frame}
use Rattle.tap_pointer_moves.specs.LookupFrames.{LookupsGoOn, NoLookupFramesAtRest, is_its_answer, is_its_start, is_noted_in, is_of_ticket, lookup_frames, one_if}
use Rattle.tap_pointer_moves.specs.Lookups.{LookupsGoToCore}
use Rattle.tap_pointer_moves.specs.NoServer.{IsLookup}
use Rattle.tap_pointer_moves.proofs.LookupFramesSent.{IsCarriedOn, frame_goes_on, frames_of_it, start_goes_on}

-- ---- frames with their numbers

module _ (ticket : ℕ) where
  abbrev ways : List (ℕ × Frame) → ℕ
  ways frames = count_by (λ (f : ℕ × Frame). is_of_ticket ticket f.1.body) frames

  abbrev weight : ℕ × Frame → ℕ
  weight f = one_if (is_of_ticket ticket f.1.body)

  numbered_ways : (n : ℕ) (sent : List Frame) → ways (numbered_from n sent) ≡ frames_of_it ticket sent
  numbered_ways n [] = refl
  numbered_ways n (f ∷ fs) =
      let one = sum_by-cons weight (n, f) (numbered_from (n + 1) fs) in
      let two = sum_by-cons (λ (g : Frame). one_if (is_of_ticket ticket g.body)) f fs in
      let others = numbered_ways (n + 1) fs in
      omega (arith, one, two, others)

  -- a frame is taken, and these are sent
  taken_ways : (s s' : System) (number : ℕ) (frame : Frame) (sent : List Frame) → IsTaken s s' number frame sent
      → ways s'.frames + one_if (is_of_ticket ticket frame.body) ≡ ways s.frames + frames_of_it ticket sent
  taken_ways s s' number frame sent taken =
      let new = numbered_from s.next sent in
      let before = ap ways taken.before in
      let one = sum_by-append weight taken.front ((number, frame) ∷ taken.back) in
      let two = sum_by-cons weight (number, frame) taken.back in
      let after = ap ways taken.after in
      let three = sum_by-append weight taken.front (taken.back ++ new) in
      let four = sum_by-append weight taken.back new in
      let five = numbered_ways s.next sent in
      omega (arith, before, one, two, after, three, four, five)

module _ (p : SettingsValue) (s : System) (ticket : ℕ) (sound : Sound p s) (cores : LookupsGoToCore s) where
  -- ---- a frame

  module _ (number : ℕ) (frame : Frame) (node : NodeState) (among : AmongFrames number frame s.frames) (at : s.node frame.to ≡ Some node)
    where
      core_here : IsCoreNode s frame.to → (node.status ≡ Core) ⊎ (node.status ≡ Leaving)
      core_here core =
          let there = core.is in
          let same : core.state ≡ node = cc in
          subst (λ (n : NodeState). (n.status ≡ Core) ⊎ (n.status ≡ Leaving)) same core.core

      among_as : (body : Body) → frame.body ≡ body
          → AmongFrames number (record { from = frame.from; to = frame.to; body = body }) s.frames
      among_as body is = subst (λ b. AmongFrames number (record { from = frame.from; to = frame.to; body = b }) s.frames) is among

      -- the receiver of a Find or an Answer is core
      is_late : (body : Body) → frame.body ≡ body → IsLookup body → (node.status ≡ Core) ⊎ (node.status ≡ Leaving)
      is_late (Find number object asker level) is lookup =
          core_here (cores.finds frame.from frame.to number object asker level (record { number = _; among = among_as _ is })).receiver
      is_late (Answer number server) is lookup =
          core_here (cores.answers frame.from frame.to number server (record { number = _; among = among_as _ is }))
      is_late _ is lookup = absurd lookup

      carried_on : IsCarriedOn ticket (is_of_ticket ticket frame.body) (act node (Takes frame))
      carried_on =
          subst (λ f. IsCarriedOn ticket (is_of_ticket ticket frame.body) (act node (Takes f)))
          (sym (is_to_receiver p s number frame node sound among at))
          (frame_goes_on ticket node frame.from frame.body (is_delivery p s number frame node sound among at).known (is_late frame.body refl))

      delivered_on : lookup_frames ticket s
          ≡ lookup_frames ticket (after_delivery p s number) + one_if (is_noted_in ticket (news_of p s (Delivers number)))
      delivered_on =
          let acted = act node (Takes frame) in
          let is = found number frame 0 s.frames s.next sound.invariant.basis.numbered.numbers among in
          let ways = taken_ways ticket s (after_delivery p s number) number frame acted.sent (delivers p s number frame node is at).taken in
          let on = carried_on in
          let news : news_of p s (Delivers number) ≡ Some acted.news =
          ap (news_of_frame s) is ∙ ap (option_map (λ n. (act n (Takes frame)).news)) at in
          let noted : one_if (is_noted_in ticket (news_of p s (Delivers number))) ≡ one_if (is_its_answer ticket acted.news) =
          ap (λ n. one_if (is_noted_in ticket n)) news in
          omega (arith, ways, on, noted)

  -- ---- a start

  module _ (x : List ℕ) (start : Start) where
    started_on : (node : NodeState) → starter p s x start ≡ Some node
        → ((number : ℕ) (object : List ℕ) → start ≡ StartFind number object → node.status ≡ Core)
        → lookup_frames ticket s + one_if (is_its_start ticket start)
        ≡ lookup_frames ticket (after_start p s x start) + one_if (is_noted_in ticket (news_of p s (Begins x start)))
    started_on node is core =
        let acted = act node (Starts start) in
        let after = ap (ways ticket) (starts p s x start node is).sent.after in
        let both = sum_by-append (weight ticket) s.frames (numbered_from s.next acted.sent) in
        let new = numbered_ways ticket s.next acted.sent in
        let on = start_goes_on ticket node start core in
        let news : news_of p s (Begins x start) ≡ Some acted.news = ap (option_map (λ n. (act n (Starts start)).news)) is in
        let noted : one_if (is_noted_in ticket (news_of p s (Begins x start))) ≡ one_if (is_its_answer ticket acted.news) =
        ap (λ n. one_if (is_noted_in ticket n)) news in
        omega (arith, after, both, new, on, noted)

    -- who starts a lookup is core
    asker_core : (node : NodeState) → s.node x ≡ Some node → may_start p s x start → (number : ℕ) (object : List ℕ)
        → start ≡ StartFind number object → node.status ≡ Core
    asker_core node at may number object is =
        let asks : may_start p s x (StartFind number object) = subst (may_start p s x) is may in
        let there = asks.acts.is in
        let same : asks.acts.state ≡ node = cc in
        subst (λ (n : NodeState). n.status ≡ Core) same asks.acts.core

    begins_on : may_start p s x start → lookup_frames ticket s + one_if (is_its_start ticket start)
        ≡ lookup_frames ticket (after_start p s x start) + one_if (is_noted_in ticket (news_of p s (Begins x start)))
    begins_on may =
        elim (starter_of p s x start may) [
          | inl joins ↦
              started_on (joiner p x) (ap (starter p s x) joins.1)
              (λ number object is. let wrong : Join joins.0 ≡ StartFind number object = sym joins.1 ∙ is in absurd (cc))
          | inr st ↦ started_on st.node st.is (asker_core st.node st.at may)
        ]

-- ---- all moves

pub lookups_go_on : LookupsGoOn
lookups_go_on p s (Begins x start) ticket may sound cores = begins_on p s ticket sound cores x start may
lookups_go_on p s (Delivers number) ticket may sound cores =
    let on = delivered_on p s ticket sound cores number may.frame may.receiver.state may.among may.receiver.is in omega (arith, on)

pub no_lookup_frames_at_rest : NoLookupFramesAtRest
no_lookup_frames_at_rest p members ticket are = refl
