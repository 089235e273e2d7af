-- What is so of a system and its frames while nothing but joins is started, and that a move of such a run keeps it.
-- Cited above: joiner_joins
use Rattle.std.proofs.Common.{◌≡◌, ◌⊎◌, ℕ, true, false, List, [], ◌∷◌, ◌++◌, map, Option, None, Some, ap, refl, sym, subst, ◌∙◌, inl, inr}
use Rattle.std.proofs.lemmas.Bool.{cases_Bool}
use Rattle.std.proofs.lemmas.List.Elements.{All-head, All-tail}
use Rattle.tap_name.specs.Names.{has_name}
use Rattle.tap_name.specs.Settings.{SettingsValue}
use Rattle.tap_pointer.specs.Pointers.{PointersValue}
use Rattle.tap_pointer.specs.Reconcile.{lays_numbered, layings_to_wanted, with_wanted}
use Rattle.tap_wire.specs.declared.frame.Body.{Body}
use Rattle.tap_wire.specs.declared.frame.Body.TheVariants.{Heard}
use Rattle.tap_wire.specs.declared.frame.Frame.{Frame}
use Rattle.tap_rule.specs.Event.{Acted}
use Rattle.tap_rule.specs.RuleLaws.{IsCarriedOut, IsIgnored, lays_for}
use Rattle.tap_rule.specs.Node.{IsRunning, NodeState, Status, name_of}
use Rattle.tap_rule.specs.Node.Status.{Ceased, Core, Gone, Joining, Leaving}
use Rattle.tap_rule.specs.Reaction.{Message, Reaction}
use Rattle.tap_rule.specs.Sending.{by_receiver, lay_frame, link_frame, message_frame}
use Rattle.tap_rule.specs.Sent.{IsAmong}
use Rattle.tap_rule.proofs.Among.{among-either, among-map_from}
use Rattle.tap_safety.specs.Seeking.{HasNode}
use Rattle.tap_safety.specs.System.{System, AmongFrames, IsJoiner}
use Rattle.tap_safety.specs.Sessions.{Belongs}
use Rattle.tap_safety.specs.Joins.{about}
use Rattle.tap_safety.proofs.Said.{Said, said_of}
use Rattle.tap_safety.proofs.Said.Said.{IsDone, IsHeard, IsHello, IsLink, IsSeek, IsTell}
use Rattle.tap_safety.specs.Frames.{hello_body}
use Rattle.tap_safety_moves.specs.Sound.{Sound}
use Rattle.tap_bounds.specs.Traffic.{Traffic}
use Rattle.tap_bounds.specs.OfJoins.{IsJoinBody, SentAreOfJoins, joiner_named, joiner_said}
use Rattle.tap_bounds.proofs.JoinRules.{AreJoinMessages, IsJoinFrame, IsJoinMessage, IsJoinStep, IsPlainNode, JoinsOrIsCore}
use Rattle.tap_bounds.proofs.Made.{IsMade}

-- ---- frames

pub of_message : {body : Body} → Said body → IsJoinMessage body → IsJoinFrame body
of_message (IsLink version on) is = tt
of_message _ is = is

pub of_frame : {body : Body} → Said body → IsJoinFrame body → IsJoinBody body
of_frame (IsHello hello) is = tt
of_frame _ is = is

-- ---- what a node does

pub record ActsInJoin (node : NodeState) (acted : Acted) : Type 0 where
  pub state : IsPlainNode acted.state
  pub core : node.status ≡ Core → acted.state.status ≡ Core
  pub sent : (f : Frame) → IsAmong f acted.sent → IsJoinFrame f.body

pub runs_on : (status : Status) → JoinsOrIsCore status → IsRunning status
runs_on Joining is = tt
runs_on Core is = tt
runs_on Leaving is = tt
runs_on Gone is = is
runs_on Ceased is = is

among_messages : (messages : List Message) (m : Message) → AreJoinMessages messages → IsAmong m messages → IsJoinMessage m.body
among_messages [] m all among = absurd among
among_messages (n ∷ messages) m all (inl is) =
    subst (λ (k : Message). IsJoinMessage k.body) (sym is) (All-head (λ k. IsJoinMessage k.body) n messages all)
among_messages (n ∷ messages) m all (inr later) =
    among_messages messages m (All-tail (λ k. IsJoinMessage k.body) n messages all) later

module _ (node : NodeState) (r : Reaction) (acted : Acted) (carried : IsCarriedOut node r acted) (body : Body)
    (step : IsJoinStep node body r) where
  runs : IsRunning r.state.status
  runs = runs_on r.state.status step.state.status

  -- no pair is known, so no Lay is due
  pub none_laid : lays_for r ≡ []
  none_laid = ap (λ pairs. lays_numbered r.state.stamp (layings_to_wanted r.state.ties.table pairs)) step.state.pairs

  sent_by_join : (f : Frame) → IsAmong f acted.sent → IsJoinFrame f.body
  sent_by_join f among =
      let own = name_of node in
      let links = map (link_frame own) (by_receiver r.words) in
      let named = map (message_frame own) r.messages in
      let laid = map (lay_frame own) (lays_for r) in
      let all = (carried.running runs).sent.all in
      elim (among-either f links (named ++ laid) (subst (IsAmong f) all among)) [
        | inl link ↦
            let (word, of, is) = among-map_from (link_frame own) f (by_receiver r.words) link in
            subst (λ (g : Frame). IsJoinFrame g.body) (sym is) tt
        | inr later ↦ elim (among-either f named laid later) [
          | inl message ↦
              let (m, of, is) = among-map_from (message_frame own) f r.messages message in
              subst (λ (g : Frame). IsJoinFrame g.body) (sym is) (of_message (said_of m.body) (among_messages r.messages m step.messages of))
          | inr lay ↦
              let no : IsAmong f [] = subst (λ lays. IsAmong f (map (lay_frame own) lays)) none_laid lay in
              absurd no
        ]
      ]

  pub carried_acts : ActsInJoin node acted
  carried_acts = record {
    state = record {
      status = subst JoinsOrIsCore (sym carried.status) step.state.status;
      goes_on = carried.abandoned ∙ step.state.goes_on;
      pairs = ap (λ (q : PointersValue). q.pairs) (carried.running runs).pointers
          ∙ ap (map (with_wanted r.state.ties.table)) step.state.pairs;
    };
    core = λ at. carried.status ∙ step.core at;
    sent = sent_by_join;
  }

pub ignored_acts : (node : NodeState) (acted : Acted) → IsIgnored node acted → IsPlainNode node → ActsInJoin node acted
ignored_acts node acted ignored is = record {
  state = subst IsPlainNode (sym ignored.state) is;
  core = λ at. ap (λ (n : NodeState). n.status) ignored.state ∙ at;
  sent = λ f among. let no : IsAmong f [] = subst (IsAmong f) ignored.sent among in absurd no;
}

-- ---- joiners

-- there is a joining node of this name
pub record IsJoining (s : System) (x : List ℕ) : Type 0 where
  pub state : NodeState
  pub is : s.node x ≡ Some state
  pub joining : state.status ≡ Joining

pub of_joiner : (s : System) (x : List ℕ) → IsJoiner s x → IsJoining s x
of_joiner s x joiner = record { state = joiner.state; is = joiner.is; joining = joiner.joining }

module _ (p : SettingsValue) (s : System) (sound : Sound p s) (m : ℕ) (from to : List ℕ) where
  abbrev frame_of : Body → Frame
  frame_of body = record { from = from; to = to; body = body }

  -- the frame belongs to an open session, which is of a joiner
  in_session : (body : Body) (x : List ℕ) (k : ℕ) (b : List ℕ) → AmongFrames m (frame_of body) s.frames
      → Belongs (frame_of body) x k → about (frame_of body) ≡ Some b
      → IsJoining s b
  in_session body x k b among belongs about =
      let basis = sound.invariant.basis in
      let awaits = basis.exact.frames m (frame_of body) x k among belongs in
      let same = basis.of_joiners.frames m (frame_of body) x k awaits.session b among belongs awaits.is about in
      of_joiner s b (subst (IsJoiner s) same (basis.of_joiners.opened x k awaits.session awaits.is))

  -- whose join a frame under way is of, it still joins
  body_joins : {body : Body} → Said body → (b : List ℕ) → AmongFrames m (frame_of body) s.frames → joiner_named body from to ≡ Some b → IsJoining s b
  body_joins (IsSeek joiner) b among is =
      let seeker = sound.invariant.basis.seekers.seeks from to joiner (record { number = m; among = among }) in
      let same : joiner ≡ b = cc in
      subst (IsJoining s) same (record { state = seeker.state; is = seeker.is; joining = seeker.joining })
  body_joins (IsTell tell watch) b among is =
      let told = sound.invariant.basis.tells.each from to tell watch (record { number = m; among = among }) in
      let same : tell.joiner ≡ b = cc in
      subst (IsJoining s) same (of_joiner s tell.joiner told.joiner)
  body_joins (IsHello hello) b among is = in_session (hello_body hello) from hello.session b among refl is
  body_joins (IsHeard session) b among is = in_session (Heard session) to session b among refl is
  body_joins IsDone b among is =
      let same : to ≡ b = cc in
      subst (IsJoining s) same (of_joiner s to (sound.invariant.basis.of_joiners.dones from to (record { number = m; among = among })))
  body_joins _ b among is = cc

pub joiner_joins : (p : SettingsValue) (s : System) (m : ℕ) (f : Frame) (b : List ℕ) → Sound p s → AmongFrames m f s.frames
    → joiner_said f ≡ Some b → IsJoining s b
joiner_joins p s m f b sound among is = body_joins p s sound m f.from f.to (said_of f.body) b among is

-- ---- systems

-- there is a core node of this name, and it doesn't leave
pub record IsCoreAt (s : System) (x : List ℕ) : Type 0 where
  pub state : NodeState
  pub is : s.node x ≡ Some state
  pub core : state.status ≡ Core

-- Each node joins or is core, each member is core, and all frames under way and all that were sent are of joins.
pub record AreOfJoins (members : List (List ℕ)) (s : System) (r : Traffic) : Type 0 where
  pub nodes : (x : List ℕ) (node : NodeState) → s.node x ≡ Some node → IsPlainNode node
  pub core : (x : List ℕ) → has_name members x ≡ true → IsCoreAt s x
  pub ways : (m : ℕ) (f : Frame) → AmongFrames m f s.frames → IsJoinFrame f.body
  pub sent : (f : Frame) → IsAmong f r.sent → IsJoinFrame f.body
  pub joiners : (f : Frame) (b : List ℕ) → IsAmong f r.sent → joiner_said f ≡ Some b → has_name members b ≡ false
  pub ends : (f : Frame) → IsAmong f r.sent → HasNode s f.from × HasNode s f.to

-- no node joins and is core
not_both : (s : System) (b : List ℕ) → IsJoining s b → IsCoreAt s b → ⊥
not_both s b joining at =
    let same : Some joining.state ≡ Some at.state = sym joining.is ∙ at.is in
    let state : joining.state ≡ at.state = cc in
    let wrong : Joining ≡ Core = sym joining.joining ∙ ap (λ (n : NodeState). n.status) state ∙ at.core in
    cc

-- so who joins is no member, if all members are core
new_by_core : (members : List (List ℕ)) (s : System) (b : List ℕ) → ((x : List ℕ) → has_name members x ≡ true → IsCoreAt s x)
    → IsJoining s b → has_name members b ≡ false
new_by_core members s b core joining =
    elim (cases_Bool (has_name members b)) [
      | inl has ↦ absurd (not_both s b joining (core b has))
      | inr hasnt ↦ hasnt
    ]

pub joining_is_new : (members : List (List ℕ)) (s : System) (r : Traffic) (b : List ℕ) → AreOfJoins members s r → IsJoining s b
    → has_name members b ≡ false
joining_is_new members s r b are joining = new_by_core members s b are.core joining

module _ (p : SettingsValue) (members : List (List ℕ)) (s s' : System) (r r' : Traffic) (node : NodeState) (own : List ℕ) (acted : Acted)
    (frames : List Frame) (made : IsMade s s' r r' own acted frames) (was : (s.node own ≡ Some node) ⊎ (s.node own ≡ None))
    (acts : ActsInJoin node acted) (sound : Sound p s') (are : AreOfJoins members s r) where
  nodes_kept : (x : List ℕ) (n : NodeState) → s'.node x ≡ Some n → IsPlainNode n
  nodes_kept x n is =
      elim (made.others x) [
        | inl same ↦
            let here : Some acted.state ≡ Some n = sym made.at ∙ ap s'.node (sym same) ∙ is in
            let state : acted.state ≡ n = cc in
            subst IsPlainNode state acts.state
        | inr stays ↦ are.nodes x n (sym stays ∙ is)
      ]

  -- a member that does something was core before
  own_member : (at : IsCoreAt s own) → IsCoreAt s' own
  own_member at =
      elim was [
        | inl is ↦
            let same : Some at.state ≡ Some node = sym at.is ∙ is in
            let state : at.state ≡ node = cc in
            let before : node.status ≡ Core = ap (λ (n : NodeState). n.status) (sym state) ∙ at.core in
            record { state = acted.state; is = made.at; core = acts.core before }
        | inr none ↦ let wrong : ◌≡◌ {A = Option NodeState} None (Some at.state) = sym none ∙ at.is in absurd (cc)
      ]

  members_kept : (x : List ℕ) → has_name members x ≡ true → IsCoreAt s' x
  members_kept x has =
      let at = are.core x has in
      elim (made.others x) [
        | inl same ↦ subst (IsCoreAt s') (sym same) (own_member (subst (IsCoreAt s) same at))
        | inr stays ↦ record { state = at.state; is = stays ∙ at.is; core = at.core }
      ]

  node_kept : (x : List ℕ) → HasNode s x → HasNode s' x
  node_kept x has =
      elim (made.others x) [
        | inl same ↦ record { state = acted.state; is = ap s'.node same ∙ made.at }
        | inr stays ↦ record { state = has.state; is = stays ∙ has.is }
      ]

  old_or_new : (f : Frame) → IsAmong f r'.sent → IsAmong f r.sent ⊎ IsAmong f acted.sent
  old_or_new f among = among-either f r.sent acted.sent (subst (IsAmong f) made.sent among)

  new_joiner : (f : Frame) (b : List ℕ) → IsAmong f acted.sent → joiner_said f ≡ Some b → has_name members b ≡ false
  new_joiner f b among is =
      let (m, way) = made.new f among in new_by_core members s' b members_kept (joiner_joins p s' m f b sound way is)

  pub joins_kept : AreOfJoins members s' r'
  joins_kept = record {
    nodes = nodes_kept;
    core = members_kept;
    ways = λ m f among. elim (made.was m f among) [ inl old ↦ are.ways m f old | inr new ↦ acts.sent f new ];
    sent = λ f among. elim (old_or_new f among) [ inl old ↦ are.sent f old | inr new ↦ acts.sent f new ];
    joiners = λ f b among is. elim (old_or_new f among) [ inl old ↦ are.joiners f b old is | inr new ↦ new_joiner f b new is ];
    ends = λ f among. elim (old_or_new f among) [
      | inl old ↦ let ends = are.ends f old in (node_kept f.from ends.0, node_kept f.to ends.1)
      | inr new ↦ let (m, way) = made.new f new in sound.invariant.basis.ends.known m f way
    ];
  }

pub are_of_joins : (members : List (List ℕ)) (s : System) (r : Traffic) → AreOfJoins members s r → SentAreOfJoins members s r
are_of_joins members s r are = record {
  kinds = λ f among. of_frame (said_of f.body) (are.sent f among);
  joiners = are.joiners;
  ends = are.ends;
}
