-- Frames go between two nodes, and who asks can be answered, after each frame and each start.
-- Cited above: askers_at_rest, frame_ends, start_ends
use Rattle.std.proofs.Common.{◌≡◌, ◌≢◌, ◌⊎◌, ℕ, ◌<◌, ◌≤◌, Bool, true, false, List, [], ◌∷◌, filter, All, Option, None, Some, arith, ap, refl, sym, subst, ◌∙◌, inl, inr}
use Rattle.std.specs.Prelude.{IfSome}
use Rattle.std.proofs.lemmas.Bool.{cases_Bool}
use Rattle.std.proofs.lemmas.List.Elements.{All-filter, All-map, All-nil, All-weaker}
use Rattle.tap_name.specs.Name.{IsName}
use Rattle.tap_name.specs.Names.{Among, has_name}
use Rattle.tap_name.specs.Prefix.{lcp}
use Rattle.tap_name.specs.Settings.{AreWithinLimits, SettingsValue}
use Rattle.tap_name.proofs.Prefixes.{lcp-itself}
use Rattle.tap_register.specs.declared.registers.Entry.{Entry}
use Rattle.tap_session.specs.declared.parent.Parent.{Parent}
use Rattle.tap_session.specs.declared.parent.Parent.TheVariants.{Node, Root}
use Rattle.tap_session.specs.Session.{Session}
use Rattle.tap_link.specs.declared.kind.Kind.{Kind}
use Rattle.tap_link.specs.declared.kind.Kind.TheVariants.{Leaving as LeavingKind, Pin, Settled}
use Rattle.tap_table.specs.Ties.{holders_on, is_on, says_on}
use Rattle.tap_table.proofs.Found.{linked_is_other}
use Rattle.tap_table.proofs.HoldersFound.{on_exactly}
use Rattle.tap_wire.specs.Spelling.{IsFrame}
use Rattle.tap_wire.specs.declared.frame.Body.{Body}
use Rattle.tap_wire.specs.declared.frame.Body.TheVariants.{Find, Leave, Seek}
use Rattle.tap_wire.specs.declared.frame.Frame.{Frame}
use Rattle.tap_rule.specs.Act.{act}
use Rattle.tap_rule.specs.Event.{Acted, Start}
use Rattle.tap_rule.specs.Event.Event.{Starts, Takes}
use Rattle.tap_rule.specs.Event.Start.{Abandon, Cast as StartCast, Find as StartFind, Join, Leave as StartLeave, Publish, Withdraw}
use Rattle.tap_rule.specs.KeptNode.{IsNode, IsStart}
use Rattle.tap_rule.specs.RuleLaws.{frame_to}
use Rattle.tap_rule.specs.Node.{IsRunning, NodeState, join_session_at, joiner, link_to, member_at_rest, name_of, settings_of, word_of}
use Rattle.tap_rule.specs.Node.Status.{Joining}
use Rattle.tap_rule.specs.Sent.{IsAmong}
use Rattle.tap_rule.specs.Strange.{is_strange}
use Rattle.tap_rule.proofs.EndSteps.{unlinked}
use Rattle.tap_rule.proofs.Fit.{fit_law}
use Rattle.tap_rule.proofs.KeptNode.{joiner_law}
use Rattle.tap_safety.specs.AtRest.{member_of, system_at_rest}
use Rattle.tap_safety.specs.Counted.{parent_at}
use Rattle.tap_safety.specs.Frames.{HelloFields, hello_body, tell_body}
use Rattle.tap_safety.specs.Invariant.{Basis}
use Rattle.tap_safety.specs.KnownLaws.{SeatsNodes, SendsAway}
use Rattle.tap_safety.specs.Move.Move.{Delivers}
use Rattle.tap_safety.specs.Moved.{HasDone, moved, numbered_frame, starter, taking}
use Rattle.tap_safety.specs.Remembered.{Leaver, OpenSession}
use Rattle.tap_safety.specs.Seeking.{HasNode}
use Rattle.tap_safety.specs.Sessions.{IsOpen}
use Rattle.tap_safety.specs.Soft.{IsSoft}
use Rattle.tap_safety.specs.Exchanges.{numbered_from}
use Rattle.tap_safety.specs.System.{System, AmongFrames, HasLink, IsCoreNode}
use Rattle.tap_safety.specs.Ties.{register_in, register_of, tie_word_kept}
use Rattle.tap_safety.specs.Turned.{opened_by, seated, surrogates_with}
use Rattle.tap_safety.proofs.Known.{ends_frame, ends_start}
use Rattle.tap_safety.proofs.LinkKeeps.{some_state}
use Rattle.tap_safety.proofs.Moved.{delivers, found, starts, with_at-others}
use Rattle.tap_safety.proofs.Said.{Said, said_of}
use Rattle.tap_safety.proofs.Said.Said.{IsFind, IsHello, IsLeave, IsSeek, IsTell}
use Rattle.tap_moves.specs.Delivered.{after_delivery, after_start}
use Rattle.tap_moves.specs.KnownNames.{AreNodes, IsNodeOf}
use Rattle.tap_moves.proofs.Exchanged.{exchanges, in_either, sent_numbered}
use Rattle.tap_moves.proofs.Got.{all_among, among_all}
use Rattle.tap_moves.specs.EndMoves.{AskersAtRest, FrameEnds, HasAsker, HaveAskers, HaveBothEnds, IsAnswerable, StartEnds}
use Rattle.tap_moves.proofs.Receivers.{AreLaidTo, HaveParents, IsLaidTo, IsToLink, laid_to}
use Rattle.tap_moves.proofs.RulesSend.{AreLinks, CastParent, JoinParent, Names, StartNames, frame_sends, start_sends}
use Rattle.tap_moves.proofs.StepSends.{IsGoing, StepSends, started_sends, taken_sends}

-- another node
abbrev IsOther : System → List ℕ → List ℕ → Type 0
IsOther s own t = HasNode s t × (t ≡ own → ⊥)

soft_node : (s : System) (x : List ℕ) → IsSoft s x → HasNode s x
soft_node s x (inl joins) = record { state = joins.state; is = joins.is }
soft_node s x (inr (inl core)) = record { state = core.state; is = core.is }
soft_node s x (inr (inr ceased)) = record { state = ceased.state; is = ceased.is }

core_node : (s : System) (x : List ℕ) → IsCoreNode s x → HasNode s x
core_node s x core = record { state = core.state; is = core.is }

as_name : (x : List ℕ) (names : List (List ℕ)) → IsAmong x names → Among x names
as_name x [] among = among
as_name x (y ∷ names) (inl same) = inl same
as_name x (y ∷ names) (inr later) = inr (as_name x names later)

-- ---- what is known of a node and of those whom it knows

module _ (p : SettingsValue) (s : System) (inv : Basis p s) (nodes : AreNodes p s) (askers : HaveAskers s) (x : List ℕ)
    (node : NodeState) (at : s.node x ≡ Some node) where
  abbrev of : IsNodeOf p x node
  of = nodes.nodes x node at

  abbrev own : List ℕ
  own = name_of node

  abbrev P : List ℕ → Type 0
  P = IsOther s (name_of node)

  abbrev Q : List ℕ → Type 0
  Q = HasNode s

  marked_node : (t : List ℕ) → HasLink s x t LeavingKind → HasNode s t
  marked_node t link = by_departing s.departing refl
    where
      by_departing : (departing : Option Leaver) → s.departing ≡ departing → HasNode s t
      by_departing None none = absurd (inv.departure.marked x t none link)
      by_departing (Some leaver) departs =
          let during = inv.departure.during leaver departs in
          let same = during.marked x t link in
          subst (HasNode s) (sym same) (elim during.ends [
            | inl leaves ↦
                let state = some_state s leaver.name _ leaves in
                record { state = state.0; is = state.1 }
            | inr gone ↦
                let state = some_state s leaver.name _ gone in
                record { state = state.0; is = state.1 }
          ])

  linked_node : (t : List ℕ) (kind : Kind) → link_to node t ≡ Some kind → HasNode s t
  linked_node t Pin found = soft_node s t (inv.soft.pins x t (record { state = node; is = at; link = found }))
  linked_node t Settled found = core_node s t (inv.soft.settled x t (record { state = node; is = at; link = found }))
  linked_node t LeavingKind found = marked_node t (record { state = node; is = at; link = found })

  links_known : AreLinks P Q node.ties.table
  links_known t kind found =
      (linked_node t kind found, λ same. linked_is_other node.ties.table of.is_node.ties.table t kind found same)

  -- a holder that is on has said so
  register_is : (t : List ℕ) → register_of s x t ≡ register_in (Some node) t
  unfolding register_of
  register_is t = ap (λ n. register_in n t) at

  holder_node : (t : List ℕ) → Among t (holders_on node.ties) → HasNode s t
  holder_node t among = by_entry (word_of node t) refl ((on_exactly node.ties of.is_node.ties t).0 among)
    where
      by_entry : (found : Option (Entry (List ℕ) Bool)) → word_of node t ≡ found → is_on node.ties t ≡ true → HasNode s t
      by_entry None none on =
          let off : is_on node.ties t ≡ false = ap says_on none in
          let wrong : false ≡ true = sym off ∙ on in
          absurd (cc)
      by_entry (Some e) some on =
          let kept = register_is t ∙ ap tie_word_kept some in
          let last = inv.versions.registers t x (record { version = e.version; on = e.value }) kept in
          inv.ends.senders t x last.last last.is

  holders_other : All (λ t. t ≢ name_of node) (holders_on node.ties)
  holders_other =
      All-map (λ t. t ≢ name_of node) (λ (e : Entry (List ℕ) Bool). e.key) (filter (λ e. e.value) node.ties.holders)
      (All-filter (λ (e : Entry (List ℕ) Bool). e.value) (λ e. e.key ≢ name_of node) node.ties.holders of.is_node.ties.others)

  holders_known : All P (holders_on node.ties)
  holders_known =
      all_among P (holders_on node.ties) (λ t among. (
        holder_node t (as_name t (holders_on node.ties) among),
        among_all (λ u. u ≢ name_of node) (holders_on node.ties) holders_other t among,
      ))

  -- who asked for a session of a join
  parent_known : (k : ℕ) (session : OpenSession) → IsOpen s x k session → (above : Option (List ℕ × ℕ)) → session.parent ≡ above
      → JoinParent P Q (parent_at session.joiner above)
  parent_known k session held None top =
      let joins = inv.of_joiners.opened x k session held in
      let here = inv.places.places x k session held in
      (record { state = joins.state; is = joins.is }, λ same. here.other (same ∙ of.name))
  parent_known k session held (Some (w, m)) above =
      let up = inv.exact.parents x k session w m held above in
      let there = inv.places.places w m up.parent up.is in
      let here = inv.places.places x k session held in (
        record { state = there.state; is = there.is },
        λ same. here.above w m above (same ∙ of.name),
      )

  parents_known : (k : ℕ) (a : Session) → join_session_at node k ≡ Some a → JoinParent P Q a.parent
  parents_known k a found =
      let held = inv.counted.open_at x k node a at found in
      let kept = inv.counted.kept x k held.0 node held.1 at in
      let first = kept.1 in
      let same : a ≡ kept.0 = cc in
      subst (JoinParent P Q) (sym (ap (λ (b : Session). b.parent) same ∙ kept.2.parent))
      (parent_known k held.0 held.1 held.0.parent refl)

  -- and for one of casts
  cast_parent : (parent : Parent) → IsAnswerable s x parent → CastParent P Q parent
  cast_parent (Root name) asks = tt
  cast_parent (Node name session) asks = (asks.0, λ same. asks.1 (same ∙ of.name))

  casts_known : HaveParents (CastParent P Q) node.cast_sessions
  casts_known =
      All-weaker (λ (a : Session). IsAnswerable s x a.parent) (λ a. CastParent P Q a.parent) (λ a asks. cast_parent a.parent asks)
      node.cast_sessions.sessions (askers.casts x node at)

  laid_known : IsRunning node.status → AreLaidTo P node.pointers
  laid_known runs =
      laid_to P node.ties.table of.is_node.ties.table links_known node.pointers.owner node.pointers.pairs of.is_node.objects
      of.is_node.pointers.known (of.laid runs)

  -- ---- whom a frame names

  module _ (number : ℕ) (from : List ℕ) (sender : P from) where
    hello_known : (hello : HelloFields) → AmongFrames number (record { from = from; to = x; body = hello_body hello }) s.frames
        → All (IsToLink P) hello.links
    hello_known hello among =
        all_among (IsToLink P) hello.links (λ offered there.
        let sound = inv.soft.hellos from x hello (record { number = number; among = among }) offered (inr there) in (
          elim (cases_Bool offered.settled) [
            | inl settled ↦ core_node s offered.name (sound.core settled)
            | inr joining ↦ soft_node s offered.name (sound.soft joining)
          ],
          λ same. sound.apart (same ∙ of.name),
        ))

    find_known : (ticket : ℕ) (object asker : List ℕ) (level : ℕ)
        → AmongFrames number (record { from = from; to = x; body = Find ticket object asker level }) s.frames → level ≤ p.digits
        → P asker × Q asker × (lcp (name_of node) asker < level)
    find_known ticket object asker level among most =
        let asks = askers.finds number ticket from x object asker level among in
        let far : lcp (name_of node) asker < level = subst (λ y. lcp y asker < level) (sym of.name) asks.far in
        let len = of.is_node.ties.table.owner.len in
        let digits = ap (λ (q : SettingsValue). q.digits) of.settings in (
          (
            asks.known,
            λ same.
                let whole : lcp (name_of node) asker ≡ p.digits =
                ap (lcp (name_of node)) same ∙ lcp-itself (name_of node) ∙ len ∙ digits in
                omega (arith, far, whole, most),
          ),
          asks.known,
          far,
        )

    names_known : {body : Body} → Said body → AmongFrames number (record { from = from; to = x; body = body }) s.frames
        → is_strange node (frame_to node from body) ≡ false → IsFrame p (record { from = from; to = x; body = body })
        → Names P Q node body
    names_known (IsSeek b) among known fields =
        let seeker = inv.seekers.seeks from x b (record { number = number; among = among }) in
        let fit = (fit_law node (frame_to node from (Seek b)) of.is_node.ties).0 known in
        (record { state = seeker.state; is = seeker.is }, fit.body.apart)
    names_known (IsTell tell watch) among known fields =
        let sound = inv.tells.each from x tell watch (record { number = number; among = among }) in
        let joins = sound.joiner in
        let fit = (fit_law node (frame_to node from (tell_body tell watch)) of.is_node.ties).0 known in
        (record { state = joins.state; is = joins.is }, fit.body.apart)
    names_known (IsHello hello) among known fields = hello_known hello among
    names_known (IsLeave replacement) among known fields =
        λ name given apart. (
          core_node s name (inv.soft.leaves from x name (record {
            number = number;
            among =
                subst (λ r. AmongFrames number (record { from = from; to = x; body = Leave r }) s.frames) given among;
          })),
          apart,
        )
    names_known (IsFind {ticket = ticket} {object = object} {asker = asker} {level = level}) among known fields =
        find_known ticket object asker level among fields.body.2.1
    names_known _ among known fields = tt

  -- ---- the step

  pub frame_step : (number : ℕ) (from : List ℕ) (body : Body) → AmongFrames number (record { from = from; to = x; body = body }) s.frames
      → StepSends P Q node of.is_node (act node (Takes (record { from = from; to = x; body = body })))
  frame_step number from body among =
      let frame : Frame = record { from = from; to = x; body = body } in
      let fields = inv.spelled.each number frame among in
      let here = subst (λ q. IsFrame q frame) (sym of.settings) fields in
      let sender : P from = ((inv.ends.known number frame among).0, λ same. inv.ends.apart number frame among (same ∙ of.name)) in
      taken_sends P Q node of.is_node casts_known frame here (λ known.
      let there : is_strange node (frame_to node from body) ≡ false = known in
      frame_sends P Q node of.is_node links_known holders_known parents_known casts_known laid_known from here.sender sender node.status
      refl body here.body (names_known number from sender (said_of body) among there fields) there)

  pub start_step : (start : Start) → IsStart (settings_of node) start → StartNames P Q node start
      → StepSends P Q node of.is_node (act node (Starts start))
  start_step start named names =
      let mine : Q (name_of node) = record { state = node; is = ap s.node of.name ∙ at } in
      started_sends P Q node of.is_node casts_known start named
      (start_sends P Q node of.is_node links_known holders_known parents_known casts_known laid_known mine node.status refl start names)

-- ---- the system after it

-- a node stays one
there_on : (s s' : System) (x : List ℕ) (acted : Acted) → HasDone s s' x acted.state acted.sent → (y : List ℕ) → HasNode s y → HasNode s' y
there_on s s' x acted done y there =
    elim (done.others y) [
      | inl here ↦ record { state = acted.state; is = ap s'.node here ∙ done.is }
      | inr same ↦ record { state = there.state; is = same ∙ there.is }
    ]

module _ (s s' : System) (x : List ℕ) (node : NodeState) (is : IsNode node) (acted : Acted) (Q : List ℕ → Type 0) (name : name_of node ≡ x)
    (done : HasDone s s' x acted.state acted.sent) (sends : StepSends (IsOther s (name_of node)) Q node is acted)
    (known : (y : List ℕ) → Q y → HasNode s' y) where
  node_on : (y : List ℕ) → HasNode s y → HasNode s' y
  node_on = there_on s s' x acted done

  goes : (f : Frame) → IsAmong f acted.sent → IsGoing (IsOther s (name_of node)) Q node is f
  goes f among = among_all (IsGoing (IsOther s (name_of node)) Q node is) acted.sent sends.frames f among

  pub away : SendsAway s x acted.sent
  away f among = let one = goes f among in (one.0 ∙ name, λ same. one.1.1 (same ∙ sym name), one.1.0)

  answerable_on : (y : List ℕ) (parent : Parent) → IsAnswerable s y parent → IsAnswerable s' y parent
  answerable_on y (Root root) asks = tt
  answerable_on y (Node w session) asks = (node_on w asks.0, asks.1)

  answerable_now : (y : List ℕ) → y ≡ x → (parent : Parent) → CastParent (IsOther s (name_of node)) Q parent → IsAnswerable s' y parent
  answerable_now y here (Root root) asks = tt
  answerable_now y here (Node w session) asks = (node_on w asks.0, λ same. asks.1 (same ∙ here ∙ sym name))

  pub askers_after : ((m : ℕ) (f : Frame) → AmongFrames m f s'.frames → AmongFrames m f s.frames
      ⊎ AmongFrames m f (numbered_from s.next acted.sent)) → HaveAskers s → HaveAskers s'
  askers_after came askers = record { finds = finds; casts = casts }
    where
      finds : (number ticket : ℕ) (from to object asker : List ℕ) (level : ℕ)
          → AmongFrames number (record { from = from; to = to; body = Find ticket object asker level }) s'.frames
          → HasAsker s' to asker level
      finds number ticket from to object asker level among =
          let frame : Frame = record { from = from; to = to; body = Find ticket object asker level } in
          elim (came number frame among) [
            | inl old ↦
                let asks = askers.finds number ticket from to object asker level old in
                record { known = node_on asker asks.known; far = asks.far }
            | inr new ↦
                let one = goes frame (sent_numbered number frame s.next acted.sent new) in
                record { known = known asker one.2.0; far = one.2.1 }
          ]

      casts : (y : List ℕ) (now : NodeState) → s'.node y ≡ Some now → All (λ a. IsAnswerable s' y a.parent) now.cast_sessions.sessions
      casts y now there =
          elim (done.others y) [
            | inl here ↦
                let mine : s'.node y ≡ Some acted.state = ap s'.node here ∙ done.is in
                let same : acted.state ≡ now = cc in
                subst (λ (n : NodeState). All (λ (a : Session). IsAnswerable s' y a.parent) n.cast_sessions.sessions) same
                (All-weaker (λ (a : Session). CastParent (IsOther s (name_of node)) Q a.parent) (λ a. IsAnswerable s' y a.parent)
                (λ a asks. answerable_now y here a.parent asks) acted.state.cast_sessions.sessions sends.casts)
            | inr stays ↦
                All-weaker (λ (a : Session). IsAnswerable s y a.parent) (λ a. IsAnswerable s' y a.parent)
                (λ a asks. answerable_on y a.parent asks) now.cast_sessions.sessions (askers.casts y now (sym stays ∙ there))
          ]

-- who gets a surrogate is a node
seats_by : (s : System) (self x b y : List ℕ) (Q : List ℕ → Type 0) (opened : Option Session)
    → IfSome opened (λ a. JoinParent (IsOther s self) Q a.parent) → surrogates_with s.surrogate x opened b ≡ Some y
    → (s.surrogate b ≡ Some y) ⊎ HasNode s b
seats_by s self x b y Q None asks is = inl is
seats_by s self x b y Q (Some a) asks is = by_parent a.parent asks is
  where
    by_parent : (parent : Parent) → JoinParent (IsOther s self) Q parent → seated s.surrogate x parent b ≡ Some y
        → (s.surrogate b ≡ Some y) ⊎ HasNode s b
    by_parent (Root j) asks is =
        elim (with_at-others s.surrogate j (Some x) b) [
          | inl same ↦ inr (subst (HasNode s) (sym same) asks.0)
          | inr stays ↦ inl (sym stays ∙ is)
        ]
    by_parent (Node w session) asks is = inl is

surrogates_after : (p : SettingsValue) (s : System) (number : ℕ) (frame : Frame) (node : NodeState)
    → numbered_frame number s.frames ≡ Some frame → s.node frame.to ≡ Some node → (b : List ℕ)
    → (moved p s (Delivers number)).surrogate b
    ≡ surrogates_with s.surrogate frame.to (opened_by (taking s number frame node (act node (Takes frame)))) b
unfolding moved
surrogates_after p s number frame node is at b = rw (is, at) refl

pub frame_ends : FrameEnds
frame_ends p s number frame node inv nodes askers among at =
    let s' = after_delivery p s number in
    let acted = act node (Takes frame) in
    let of = nodes.nodes frame.to node at in
    let is_found = found number frame 0 s.frames s.next inv.numbered.numbers among in
    let step = delivers p s number frame node is_found at in
    let sends = frame_step p s inv nodes askers frame.to node at number frame.from frame.body among in
    let seats : SeatsNodes s s' = λ b y is.
    seats_by s (name_of node) frame.to b y (HasNode s) (opened_by (taking s number frame node acted)) sends.opens
    (sym (surrogates_after p s number frame node is_found at b) ∙ is) in
    record {
      ends =
          ends_frame s s' number frame frame.to acted.state acted.sent step.taken step.done
          (away s s' frame.to node of.is_node acted (HasNode s) of.name step.done sends (there_on s s' frame.to acted step.done)) seats
          inv.ends;
      askers =
          askers_after s s' frame.to node of.is_node acted (HasNode s) of.name step.done sends (there_on s s' frame.to acted step.done)
          (exchanges s s' number frame acted.sent step.taken inv.numbered).was askers;
    }

-- ---- starts

-- a node that is there
there_ends : (p : SettingsValue) (s : System) (x : List ℕ) (start : Start) (node : NodeState) → Basis p s → (nodes : AreNodes p s)
    → HaveAskers s → s.node x ≡ Some node → starter p s x start ≡ Some node → IsStart (settings_of node) start
    → StartNames (IsOther s (name_of node)) (HasNode s) node start → HaveBothEnds (after_start p s x start)
there_ends p s x start node inv nodes askers at is named names =
    let s' = after_start p s x start in
    let acted = act node (Starts start) in
    let of = nodes.nodes x node at in
    let step = starts p s x start node is in
    let sends = start_step p s inv nodes askers x node at start named names in
    record {
      ends =
          ends_start s s' x acted.state acted.sent step.sent step.done
          (away s s' x node of.is_node acted (HasNode s) of.name step.done sends (there_on s s' x acted step.done))
          (λ b y seat. inl (sym (step.surrogate b) ∙ seat)) inv.ends;
      askers =
          askers_after s s' x node of.is_node acted (HasNode s) of.name step.done sends (there_on s s' x acted step.done)
          (λ m f among. in_either m f s.frames (numbered_from s.next acted.sent) (rw step.sent.after at among)) askers;
    }

-- a new name joins: it has no link, no holder, no session and no pair
join_ends : (p : SettingsValue) (s : System) (x via : List ℕ) → Basis p s → AreNodes p s → HaveAskers s → AreWithinLimits p
    → IsName p x → s.node x ≡ None → IsCoreNode s via → HaveBothEnds (after_start p s x (Join via))
join_ends p s x via inv nodes askers limits name fresh core =
    let s' = after_start p s x (Join via) in
    let node = joiner p x in
    let is = joiner_law p x limits name in
    let acted = act (joiner p x) (Starts (Join via)) in
    let step = starts p s x (Join via) (joiner p x) refl in
    let mine : HasNode s' x = record { state = acted.state; is = step.done.is } in
    let other : IsOther s x via = (
      core_node s via core,
      λ same.
          let there = core.is in
          let none : s.node via ≡ None = ap s.node same ∙ fresh in
          let wrong : None ≡ Some core.state = sym none ∙ there in
          cc,
    ) in
    let sends : StepSends (IsOther s x) (HasNode s') (joiner p x) is acted =
    started_sends (IsOther s x) (HasNode s') (joiner p x) is (All-nil (λ (a : Session). CastParent (IsOther s x) (HasNode s') a.parent))
    (Join via) tt
    (start_sends (IsOther s x) (HasNode s') (joiner p x) is
    (λ t kind found.
    let none = unlinked p x t in
    let wrong : None ≡ Some kind = sym none ∙ found in
    absurd (cc))
    (All-nil (IsOther s x))
    (λ k a found. let wrong : ◌≡◌ {A = Option Session} None (Some a) = found in absurd (cc))
    (All-nil (λ (a : Session). CastParent (IsOther s x) (HasNode s') a.parent)) (λ runs. All-nil (IsLaidTo (IsOther s x))) mine Joining refl
    (Join via) other) in
    record {
      ends =
          ends_start s s' x acted.state acted.sent step.sent step.done
          (away s s' x (joiner p x) is acted (HasNode s') refl step.done sends (λ y there. there))
          (λ b y seat. inl (sym (step.surrogate b) ∙ seat)) inv.ends;
      askers =
          askers_after s s' x (joiner p x) is acted (HasNode s') refl step.done sends (λ y there. there)
          (λ m f among. in_either m f s.frames (numbered_from s.next acted.sent) (rw step.sent.after at among)) askers;
    }

of_settings : (p : SettingsValue) (s : System) (x : List ℕ) (node : NodeState) (object : List ℕ) → IsNodeOf p x node → IsName p object
    → IsName (settings_of node) object
of_settings p s x node object of name = subst (λ q. IsName q object) (sym of.settings) name

pub start_ends : StartEnds
start_ends p s x (Join via) inv nodes askers may named =
    let core = nodes.nodes via may.core.state may.core.is in
    let limits = subst AreWithinLimits core.settings core.is_node.ties.table.limits in
    join_ends p s x via inv nodes askers limits may.name may.fresh may.core
start_ends p s x Abandon inv nodes askers may named = there_ends p s x Abandon may.state inv nodes askers may.is may.is tt tt
start_ends p s x StartLeave inv nodes askers may named =
    there_ends p s x StartLeave may.acts.state inv nodes askers may.acts.is may.acts.is tt tt
start_ends p s x (Publish object) inv nodes askers may named =
    there_ends p s x (Publish object) may.acts.state inv nodes askers may.acts.is may.acts.is
    (of_settings p s x may.acts.state object (nodes.nodes x may.acts.state may.acts.is) named) tt
start_ends p s x (Withdraw object) inv nodes askers may named =
    there_ends p s x (Withdraw object) may.acts.state inv nodes askers may.acts.is may.acts.is tt tt
start_ends p s x (StartFind ticket object) inv nodes askers may named =
    there_ends p s x (StartFind ticket object) may.acts.state inv nodes askers may.acts.is may.acts.is tt
    (of_settings p s x may.acts.state object (nodes.nodes x may.acts.state may.acts.is) named)
start_ends p s x (StartCast cast level word) inv nodes askers may named =
    there_ends p s x (StartCast cast level word) may.acts.state inv nodes askers may.acts.is may.acts.is tt tt

-- ---- at rest

member_casts : (s : System) (p : SettingsValue) (members : List (List ℕ)) (x : List ℕ) (found : Option NodeState) (node : NodeState)
    → found ≡ Some node → ((is : NodeState) → found ≡ Some is → is.cast_sessions.sessions ≡ [])
    → All (λ (a : Session). IsAnswerable s x a.parent) node.cast_sessions.sessions
member_casts s p members x found node is none =
    subst (λ sessions. All (λ (a : Session). IsAnswerable s x a.parent) sessions) (sym (none node is))
    (All-nil (λ (a : Session). IsAnswerable s x a.parent))

pub askers_at_rest : AskersAtRest
askers_at_rest p members are = record {
  finds = λ number ticket from to object asker level among. absurd among;
  casts = λ x node is. member_casts (system_at_rest p members) p members x (member_of p members x) node is (λ n there. no_casts x n there);
}
  where
    no_casts : (x : List ℕ) (n : NodeState) → member_of p members x ≡ Some n → n.cast_sessions.sessions ≡ []
    no_casts x n there =
        elim (cases_Bool (has_name members x)) [
          | inl has ↦
              let one : Some (member_at_rest p members x) ≡ Some n = rw has at there in
              let same : member_at_rest p members x ≡ n = cc in
              ap (λ (m : NodeState). m.cast_sessions.sessions) (sym same)
          | inr none ↦ let wrong : None ≡ Some n = rw none at there in absurd (cc)
        ]
