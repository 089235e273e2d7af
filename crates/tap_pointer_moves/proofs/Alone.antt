-- A lookup that is made alone changes no node, goes along its walk, and is answered exactly.
-- Cited above: lookup_begins_alone, lookup_goes_on_alone
use Rattle.std.proofs.Common.{◌≡◌, ◌⊎◌, ℕ, ◌+◌, false, List, [], ◌∷◌, ◌++◌, map, All, Option, None, Some, refl, ap, sym, subst, ◌∙◌, inl, inr}
use Rattle.std.specs.Option.{option_map}
use Rattle.std.proofs.lemmas.List.Elements.{All-cons, All-nil}
use Rattle.tap_name.specs.Settings.{SettingsValue}
use Rattle.tap_table.specs.declared.next.Next.{Next}
use Rattle.tap_table.specs.declared.next.Next.TheVariants.{Hop as HopTo, Root}
use Rattle.tap_pointer.specs.Pointers.{server_for}
use Rattle.tap_pointer.specs.Reconcile.{AreLaid}
use Rattle.tap_pointer.proofs.Laws.{laid_sends_nothing}
use Rattle.tap_wire.specs.declared.frame.Body.{Body}
use Rattle.tap_wire.specs.declared.frame.Body.TheVariants.{Answer, Find}
use Rattle.tap_wire.specs.declared.frame.Frame.{Frame}
use Rattle.tap_rule.specs.Act.{act}
use Rattle.tap_rule.specs.Completed.{IsCompleted, lays_after}
use Rattle.tap_rule.specs.Event.{Acted, News}
use Rattle.tap_rule.specs.Event.Event.{Starts, Takes}
use Rattle.tap_rule.specs.Event.News.{Answered}
use Rattle.tap_rule.specs.Event.Start.{Find as StartFind}
use Rattle.tap_rule.specs.RuleLaws.{frame_to}
use Rattle.tap_rule.specs.Node.{IsRunning, NodeState, Status, name_of}
use Rattle.tap_rule.specs.Node.Status.{Core, Leaving}
use Rattle.tap_rule.specs.PointerSteps.{FindStep, FoundStep, LookupStep}
use Rattle.tap_rule.specs.Pointers.{next_hop}
use Rattle.tap_rule.specs.Reaction.{Message, message}
use Rattle.tap_rule.specs.Sending.{by_receiver, lay_frame, message_frame}
use Rattle.tap_rule.specs.Sent.{IsAmong}
use Rattle.tap_rule.specs.LinkSteps.{AllAlike}
use Rattle.tap_rule.specs.Strange.{is_strange}
use Rattle.tap_rule.proofs.Among.{among-either, among-map_from}
use Rattle.tap_rule.proofs.PointerSteps.{find_law, found_law, lookup_law}
use Rattle.tap_safety.specs.Move.{may_start}
use Rattle.tap_safety.specs.Exchanges.{numbered_from}
use Rattle.tap_safety.specs.System.{System, AmongFrames, IsCoreNode, IsUnderWay}
use Rattle.tap_safety.proofs.Moved.{delivers, found, starts}
use Rattle.tap_moves.specs.Delivered.{after_delivery, after_start}
use Rattle.tap_moves.proofs.Exchanged.{exchanges, in_either, sent_numbered}
use Rattle.tap_moves.proofs.Got.{among_all}
use Rattle.tap_safety_moves.specs.Sound.{Sound}
use Rattle.tap_safety_moves.proofs.Consequences.{none_is_strange}
use Rattle.tap_pointer_moves.specs.LaysTold.{PointersStand}
use Rattle.tap_pointer_moves.specs.Alone.{GoesAlone, IsAlike, IsExact, IsOfLookup, IsOnWalk, LookupBeginsAlone, LookupGoesOnAlone, WasAlike}
use Rattle.tap_pointer_moves.specs.LookupAnswers.{news_of_frame}
use Rattle.tap_pointer_moves.specs.Lookups.{LookupsGoToCore}
use Rattle.tap_pointer_moves.proofs.LookupActs.{frame_acts, only_core, start_acts}
use Rattle.tap_pointer_moves.proofs.LookupsKept.{none_departs}
use Rattle.tap_pointer_moves.proofs.LookupAnswers.{some_news}
use Rattle.tap_pointer_moves.proofs.Rest.{answers_exactly, walk_begins, walk_on}
use Rattle.tap_pointer_moves.proofs.LookupRules.{AnsweredAtOnce, AskNotes, AskSays, FoundNotes, FoundSays}

-- ---- a step that is about lookups alone

-- a Find or an Answer
abbrev IsLookup : Body → Type 0
IsLookup (Find ticket object asker level) = Unit {0}
IsLookup (Answer ticket server) = Unit {0}
IsLookup other = ⊥

-- a node stays what it was, and sends nothing but such frames
record StaysAlike (node : NodeState) (acted : Acted) : Type 0 where
  alike : IsAlike node acted.state
  sent : (f : Frame) → IsAmong f acted.sent → IsLookup f.body

module _ (node : NodeState) (acted : Acted) (laid : AreLaid node.ties.table node.pointers) (same : AllAlike node acted.state) where
  stays_alike : (messages : List Message) (noted : News) → IsCompleted node node.pointers [] messages noted acted
      → All (λ (m : Message). IsLookup m.body) messages → StaysAlike node acted
  unfolding by_receiver
  stays_alike messages noted completed are =
      let laid_now : AreLaid acted.state.ties.table node.pointers = subst (λ ties. AreLaid ties.table node.pointers) (sym same.ties) laid in
      let nothing = laid_sends_nothing acted.state.ties.table (node.stamp + 0) node.pointers laid_now in
      record {
        alike = record { status = same.joins.status; ties = same.ties; pointers = completed.pointers ∙ nothing.1 };
        sent = λ f among.
            let named : List Frame = map (message_frame (name_of node)) messages in
            let lays : List Frame = map (lay_frame (name_of node)) (lays_after node node.pointers [] acted) in
            let there : IsAmong f (named ++ lays) = subst (IsAmong f) completed.sent.all among in
            elim (among-either f named lays there) [
              | inl one ↦
                  let found = among-map_from (message_frame (name_of node)) f messages one in
                  subst (λ (g : Frame). IsLookup g.body) (sym found.2)
                  (among_all (λ (m : Message). IsLookup m.body) messages are found.0 found.1)
              | inr lay ↦
                  let none : lays ≡ [] = ap (map (lay_frame (name_of node))) nothing.0 in
                  let never : IsAmong f [] = subst (IsAmong f) none lay in
                  absurd never
            ];
      }

  no_message : All (λ (m : Message). IsLookup m.body) []
  no_message = All-nil (λ (m : Message). IsLookup m.body)

  one_message : (to : List ℕ) (body : Body) → IsLookup body → All (λ (m : Message). IsLookup m.body) (message to body ∷ [])
  one_message to body is = All-cons (λ (m : Message). IsLookup m.body) (message to body) [] is no_message

find_stays : (node : NodeState) (ticket : ℕ) (object asker : List ℕ) (level : ℕ) (acted : Acted) → AreLaid node.ties.table node.pointers
    → FindStep node ticket object asker level acted → StaysAlike node acted
find_stays node ticket object asker level acted laid step =
    by_server (server_for node.pointers object) refl
  where
    by_next : server_for node.pointers object ≡ None → (next : Next) → next_hop node object level ≡ next → StaysAlike node acted
    by_next none Root hop =
        stays_alike node acted laid step.alike _ _ (step.at_root none hop) (one_message node acted laid step.alike _ _ tt)
    by_next none (HopTo to next) hop =
        stays_alike node acted laid step.alike _ _ (step.goes_on to next none hop) (one_message node acted laid step.alike _ _ tt)

    by_server : (server : Option (List ℕ)) → server_for node.pointers object ≡ server → StaysAlike node acted
    by_server None none = by_next none (next_hop node object level) refl
    by_server (Some server) held =
        stays_alike node acted laid step.alike _ _ (step.served server held) (one_message node acted laid step.alike _ _ tt)

lookup_stays : (node : NodeState) (ticket : ℕ) (object : List ℕ) (acted : Acted) → AreLaid node.ties.table node.pointers
    → LookupStep node ticket object acted → StaysAlike node acted
lookup_stays node ticket object acted laid step = by_server (server_for node.pointers object) refl
  where
    by_next : server_for node.pointers object ≡ None → (next : Next) → next_hop node object 0 ≡ next → StaysAlike node acted
    by_next none Root hop =
        stays_alike node acted laid step.alike _ _ (step.at_root none hop) (no_message node acted laid step.alike)
    by_next none (HopTo to next) hop =
        stays_alike node acted laid step.alike _ _ (step.goes_on to next none hop) (one_message node acted laid step.alike _ _ tt)

    by_server : (server : Option (List ℕ)) → server_for node.pointers object ≡ server → StaysAlike node acted
    by_server None none = by_next none (next_hop node object 0) refl
    by_server (Some server) held =
        stays_alike node acted laid step.alike _ _ (step.served server held) (no_message node acted laid step.alike)

found_stays : (node : NodeState) (ticket : ℕ) (server : Option (List ℕ)) (acted : Acted) → AreLaid node.ties.table node.pointers
    → FoundStep node ticket server acted → StaysAlike node acted
found_stays node ticket server acted laid step =
    stays_alike node acted laid step.alike _ _ step.completed (no_message node acted laid step.alike)

late_runs : (status : Status) → (status ≡ Core) ⊎ (status ≡ Leaving) → IsRunning status
late_runs status (inl core) = subst IsRunning (sym core) tt
late_runs status (inr leaving) = subst IsRunning (sym leaving) tt

-- ---- since the system was at rest

alike_on : (before node after : NodeState) → IsAlike before node → IsAlike node after → IsAlike before after
alike_on before node after first second = record {
  status = second.status ∙ first.status;
  ties = second.ties ∙ first.ties;
  pointers = second.pointers ∙ first.pointers;
}

module _ (p : SettingsValue) (rest : System) (asker : List ℕ) (ticket : ℕ) (object : List ℕ) (sound_rest : Sound p rest)
    (stand : PointersStand rest) (quiet : rest.frames ≡ []) (asks : may_start p rest asker (StartFind ticket object)) where
  asker_core : IsCoreNode rest asker
  asker_core = record { state = asks.acts.state; is = asks.acts.is; core = inl asks.acts.core }

  abbrev OfLookup : List ℕ → Body → Type 0
  OfLookup to body = IsOfLookup p rest ticket object asker to body

  module _ (s s' : System) (x : List ℕ) (node : NodeState) (acted : Acted) (at : s.node x ≡ Some node) (stays : StaysAlike node acted)
      (nodes : (y : List ℕ) (there : NodeState) → s.node y ≡ Some there → WasAlike rest y there) (is : s'.node x ≡ Some acted.state)
      (others : (y : List ℕ) → (y ≡ x) ⊎ (s'.node y ≡ s.node y)) where
    nodes_after : (y : List ℕ) (there : NodeState) → s'.node y ≡ Some there → WasAlike rest y there
    nodes_after y there found =
        elim (others y) [
          | inl here ↦
              let mine : s'.node y ≡ Some acted.state = ap s'.node here ∙ is in
              let same : acted.state ≡ there = cc in
              let was = nodes x node at in
              record {
                before = was.before;
                was = ap rest.node here ∙ was.was;
                alike = subst (IsAlike was.before) same (alike_on was.before node acted.state was.alike stays.alike);
              }
          | inr same ↦ nodes y there (sym same ∙ found)
        ]

  -- ---- the start

  pub begins_alone : GoesAlone p rest ticket object asker (after_start p rest asker (StartFind ticket object))
      × ((number : ℕ) (server : Option (List ℕ)) → option_map (λ node. (act node (Starts (StartFind ticket object))).news) (rest.node asker) ≡ Some (Answered number server)
      → (number ≡ ticket) × IsExact rest object server)
  begins_alone =
      let node = asks.acts.state in
      let at = asks.acts.is in
      let core = asks.acts.core in
      let start = StartFind ticket object in
      let acted = act node (Starts start) in
      let s' = after_start p rest asker start in
      let of = sound_rest.nodes.nodes asker node at in
      let laid = of.laid (late_runs node.status (inl core)) in
      let stays = lookup_stays node ticket object acted laid (lookup_law node ticket object core) in
      let step = starts p rest asker start node at in
      let first = walk_begins p rest object asker in
      let alike : WasAlike rest asker node = record { before = node; was = at; alike = record { status = refl; ties = refl; pointers = refl } } in
      let exactly = λ (level : ℕ) (server : Option (List ℕ)).
      answers_exactly p rest sound_rest stand quiet object asks.name asker asker_core asker node level server alike core
      of.is_node.pointers.ascending in (
        record {
          nodes = nodes_after rest s' asker node acted at stays
              (λ y there found. record { before = there; was = found; alike = record { status = refl; ties = refl; pointers = refl } })
              step.done.is step.done.others;
          frames = λ from to body way.
              let f : Frame = record { from = from; to = to; body = body } in
              elim (in_either way.number f rest.frames (numbered_from rest.next acted.sent) (rw step.sent.after at way.among)) [
                | inl old ↦ let never : AmongFrames way.number f [] = rw quiet at old in absurd never
                | inr new ↦
                    let among = sent_numbered way.number f rest.next acted.sent new in
                    sent_ok node at core first to body ((start_acts node start).sent f among) (stays.sent f among)
              ];
        },
        λ number server noted.
            let news = some_news (rest.node asker) node (λ n. (act n (Starts start)).news) (Answered number server) at noted in
            let once : AnsweredAtOnce node start number server = subst (AskNotes node start) news (start_acts node start).news in
            let starts_it = once.is in
            let objects : object ≡ once.object = cc in
            let held : server_for node.pointers object ≡ server = ap (server_for node.pointers) objects ∙ once.held in
            let ends = λ (none : server ≡ None). ap (λ o. next_hop node o 0) objects ∙ once.ends none in
            let numbers : number ≡ ticket = cc in
            (numbers, exactly 0 server first held ends),
      )
    where
      sent_ok : (node : NodeState) → rest.node asker ≡ Some node → node.status ≡ Core → IsOnWalk p rest object asker asker 0 → (to : List ℕ)
          (body : Body) → AskSays node (StartFind ticket object) to body → IsLookup body → IsOfLookup p rest ticket object asker to body
      sent_ok node at core first to (Find number sought by next) says is =
          let starts_it = says.is in
          let objects : sought ≡ object = cc in
          let own : by ≡ asker = says.own ∙ (sound_rest.nodes.nodes asker node at).name in
          let hop : next_hop node object 0 ≡ HopTo to next = ap (λ o. next_hop node o 0) (sym objects) ∙ says.hop in
          let numbers : number ≡ ticket = cc in (
            numbers,
            objects,
            own,
            walk_on p rest sound_rest stand quiet object asks.name asker asker_core asker node 0 to next at core first hop,
          )
      sent_ok node at core first to (Answer number server) says is = absurd says
      sent_ok node at core first to _ says is = absurd is

  -- ---- a frame

  -- such a frame is a Find or an Answer
  abbrev IsFindOrAnswer : Body → Type 0
  IsFindOrAnswer body =
      ((number : ℕ) × (sought : List ℕ) × (by : List ℕ) × (level : ℕ) × (body ≡ Find number sought by level))
      ⊎ ((number : ℕ) × (server : Option (List ℕ)) × (body ≡ Answer number server))

  kind_of : (to : List ℕ) (body : Body) → IsOfLookup p rest ticket object asker to body → IsFindOrAnswer body
  kind_of to (Find number sought by level) of = inl (number, sought, by, level, refl)
  kind_of to (Answer number server) of = inr (number, server, refl)
  kind_of to _ of = absurd of

  module _ (s : System) (number : ℕ) (frame : Frame) (node : NodeState) (sound : Sound p s) (cores : LookupsGoToCore s)
      (alone : GoesAlone p rest ticket object asker s) (among : AmongFrames number frame s.frames) (at : s.node frame.to ≡ Some node) where
    way : IsUnderWay s frame.from frame.to frame.body
    way = record { number = number; among = among }

    of_it : IsOfLookup p rest ticket object asker frame.to frame.body
    of_it = alone.frames frame.from frame.to frame.body way

    core_here : IsCoreNode s frame.to → s.departing ≡ None → node.status ≡ Core
    core_here core none =
        let there = core.is in
        let same : core.state ≡ node = cc in
        subst (λ (n : NodeState). n.status ≡ Core) same (only_core p s sound none frame.to core)

    as_body : (body : Body) → frame.body ≡ body → IsUnderWay s frame.from frame.to body
    as_body body is = subst (IsUnderWay s frame.from frame.to) is way

    frame_is : (body : Body) → frame.body ≡ body → frame ≡ frame_to node frame.from body
    frame_is body is =
        ap (λ y. record { from = frame.from; to = y; body = frame.body }) (sym (sound.nodes.nodes frame.to node at).name)
        ∙ ap (λ b. record { from = frame.from; to = name_of node; body = b }) is

    known : (body : Body) → frame.body ≡ body → is_strange node (frame_to node frame.from body) ≡ false
    known body is =
        ap (is_strange node) (sym (frame_is body is)) ∙ none_is_strange p s number frame node sound among at

    -- its receiver is core, and stays what it was
    abbrev Receives : Type 0
    Receives = (node.status ≡ Core) × StaysAlike node (act node (Takes frame))

    receives_find : (ticket : ℕ) (sought by : List ℕ) (level : ℕ) → frame.body ≡ Find ticket sought by level → Receives
    receives_find ticket sought by level is =
        let body = Find ticket sought by level in
        let there = as_body body is in
        let core = core_here (cores.finds frame.from frame.to ticket sought by level there).receiver
        (none_departs p s sound frame.from frame.to body there (λ may. may)) in
        let laid = (sound.nodes.nodes frame.to node at).laid (late_runs node.status (inl core)) in
        let step = find_law node frame.from ticket sought by level (inl core) (known body is) in (
          core,
          subst (λ f. StaysAlike node (act node (Takes f))) (sym (frame_is body is)) (find_stays node ticket sought by level _ laid step),
        )

    receives_answer : (ticket : ℕ) (server : Option (List ℕ)) → frame.body ≡ Answer ticket server → Receives
    receives_answer ticket server is =
        let body = Answer ticket server in
        let there = as_body body is in
        let core = core_here (cores.answers frame.from frame.to ticket server there)
        (none_departs p s sound frame.from frame.to body there (λ may. may)) in
        let laid = (sound.nodes.nodes frame.to node at).laid (late_runs node.status (inl core)) in
        let step = found_law node frame.from ticket server (inl core) (known body is) in (
          core,
          subst (λ f. StaysAlike node (act node (Takes f))) (sym (frame_is body is)) (found_stays node ticket server _ laid step),
        )

    receives : Receives
    receives =
        elim (kind_of frame.to frame.body of_it) [
          | inl find ↦ receives_find find.0 find.1 find.2 find.3 find.4
          | inr answer ↦ receives_answer answer.0 answer.1 answer.2
        ]

    -- what it sends is of the lookup again
    sends_on : (to : List ℕ) (body : Body) → FoundSays node frame.body to body → IsLookup body → IsOfLookup p rest ticket object asker to body
    sends_on to (Find named sought by next) says is =
        let was = alone.nodes frame.to node at in
        let of : IsOfLookup p rest ticket object asker frame.to (Find named sought by says.level) =
        subst (IsOfLookup p rest ticket object asker frame.to) says.is of_it in
        let before : was.before.status ≡ Core = sym was.alike.status ∙ receives.0 in
        let hop : next_hop was.before object says.level ≡ HopTo to next =
        ap (λ ties. next_hop (record node { ties = ties }) object says.level) (sym was.alike.ties)
        ∙ ap (λ o. next_hop node o says.level) (sym of.1) ∙ says.hop in (
          of.0,
          of.1,
          of.2,
          walk_on p rest sound_rest stand quiet object asks.name asker asker_core frame.to was.before says.level to next was.was before of.3
              hop,
        )
    sends_on to (Answer named server) says is =
        let was = alone.nodes frame.to node at in
        let of : IsOfLookup p rest ticket object asker frame.to (Find named says.object to says.level) =
        subst (IsOfLookup p rest ticket object asker frame.to) says.is of_it in
        let held : server_for node.pointers object ≡ server = ap (server_for node.pointers) (sym of.1) ∙ says.held in
        let ends = λ (none : server ≡ None). ap (λ o. next_hop node o says.level) (sym of.1) ∙ says.ends none in (
          of.0,
          answers_exactly p rest sound_rest stand quiet object asks.name asker asker_core frame.to node says.level server was receives.0
              (sound.nodes.nodes frame.to node at).is_node.pointers.ascending of.3 held ends,
        )
    sends_on to _ says is = absurd is

    pub goes_on_alone : GoesAlone p rest ticket object asker (after_delivery p s number)
    goes_on_alone =
        let s' = after_delivery p s number in
        let acted = act node (Takes frame) in
        let step = delivers p s number frame node (found number frame 0 s.frames s.next sound.invariant.basis.numbered.numbers among) at in
        let frames = exchanges s s' number frame acted.sent step.taken sound.invariant.basis.numbered in
        let acts = frame_acts node frame in
        let stays = receives.1 in
        record {
          nodes = nodes_after s s' frame.to node acted at stays alone.nodes step.done.is step.done.others;
          frames = λ from to body way.
              let f : Frame = record { from = from; to = to; body = body } in
              elim (frames.was way.number f way.among) [
                | inl old ↦ alone.frames from to body (record { number = way.number; among = old })
                | inr new ↦
                    let sent = sent_numbered way.number f s.next acted.sent new in
                    sends_on to body (acts.sent f sent) (stays.sent f sent)
              ];
        }

    pub noted_alone : (named : ℕ) (server : Option (List ℕ)) → (act node (Takes frame)).news ≡ Answered named server
        → (named ≡ ticket) × IsExact rest object server
    noted_alone named server noted =
        let is : frame.body ≡ Answer named server = subst (FoundNotes frame.body) noted (frame_acts node frame).news in
        subst (IsOfLookup p rest ticket object asker frame.to) is of_it

-- ---- the laws

pub lookup_begins_alone : LookupBeginsAlone
lookup_begins_alone p rest asker ticket object sound stand quiet asks = begins_alone p rest asker ticket object sound stand quiet asks

pub lookup_goes_on_alone : LookupGoesOnAlone
lookup_goes_on_alone p rest s asker ticket object number sound_rest stand quiet asks sound cores alone may =
    let frame = may.frame in
    let node = may.receiver.state in
    let at = may.receiver.is in (
      goes_on_alone p rest asker ticket object sound_rest stand quiet asks s number frame node sound cores alone may.among at,
      λ answered server noted.
          let is = found number frame 0 s.frames s.next sound.invariant.basis.numbered.numbers may.among in
          let there : news_of_frame s (Some frame) ≡ Some (Answered answered server) = ap (news_of_frame s) (sym is) ∙ noted in
          noted_alone p rest asker ticket object sound_rest stand quiet asks s number frame node sound cores alone may.among at answered
          server
          (some_news (s.node frame.to) node (λ n. (act n (Takes frame)).news) (Answered answered server) at there),
    )
