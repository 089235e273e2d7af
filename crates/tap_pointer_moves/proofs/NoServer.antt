-- Where answers without a server come from, and that Finds stay on the walks of their objects while lookups alone are under way.
-- Cited above: ends_at_once_are_exact, ends_of_walks_are_exact, finds_stay_on_walks, none_comes_from_ends, none_is_noted_at_ends
use Rattle.std.proofs.Common.{◌≡◌, ◌⊎◌, ℕ, true, List, None, Some, refl, ap, sym, subst, ◌∙◌, inl, inr}
use Rattle.tap_name.specs.Settings.{SettingsValue}
use Rattle.tap_surrogate.specs.Entered.{walk_entered}
use Rattle.tap_surrogate.specs.Nodes.{Nodes, core_links}
use Rattle.tap_table.specs.declared.next.Next.TheVariants.{Hop as HopTo, Root}
use Rattle.tap_pointer.specs.Pointers.{is_held, pair_of, server_for, state_of}
use Rattle.tap_wire.specs.declared.frame.Body.TheVariants.{Answer, Find}
use Rattle.tap_wire.specs.declared.frame.Frame.{Frame}
use Rattle.tap_runs.specs.Observed.{nodes_of}
use Rattle.tap_rule.specs.Act.{act}
use Rattle.tap_rule.specs.Event.{Start}
use Rattle.tap_rule.specs.Event.Event.{Starts}
use Rattle.tap_rule.specs.Event.News.{Answered}
use Rattle.tap_rule.specs.Event.Start.{Abandon, Cast, Find as StartFind, Join, Leave, Publish, Withdraw}
use Rattle.tap_rule.specs.Node.{NodeState}
use Rattle.tap_rule.specs.Node.Status.{Core}
use Rattle.tap_rule.specs.Pointers.{next_hop}
use Rattle.tap_rule.specs.Sent.{IsAmong}
use Rattle.tap_safety.specs.Move.{may_start}
use Rattle.tap_safety.specs.Move.Move.{Begins, Delivers}
use Rattle.tap_safety.specs.Moved.{starter}
use Rattle.tap_safety.specs.System.{System, AmongFrames, IsCoreNode, IsUnderWay}
use Rattle.tap_moves.specs.Delivered.{after_delivery, after_start}
use Rattle.tap_safety_moves.specs.Sound.{Sound}
use Rattle.tap_pointer_moves.specs.Paths.{IsPublished}
use Rattle.tap_pointer_moves.specs.LaysTold.{PointersStand}
use Rattle.tap_pointer_moves.proofs.Chains.{entry_at}
use Rattle.tap_pointer_moves.proofs.Paths.{core_at_rest}
use Rattle.tap_pointer_moves.proofs.Publications.{starter_of}
use Rattle.tap_pointer_moves.specs.Alone.{IsOnWalk}
use Rattle.tap_pointer_moves.specs.Lookups.{LookupsGoToCore}
use Rattle.tap_pointer_moves.specs.NoServer.{AreLookups, ComesOn, EndsAt, EndsOfWalksAreExact, FindsStayOnWalks, NoneComesFromEnds, NoneIsNotedAtEnds}
use Rattle.tap_pointer_moves.proofs.LookupActs.{frame_step, only_core, start_acts, start_came}
use Rattle.tap_pointer_moves.proofs.LookupAnswers.{some_news}
use Rattle.tap_pointer_moves.proofs.AsAtRest.{as_at_rest}
use Rattle.tap_pointer_moves.proofs.Emptied.{core_on, emptied}
use Rattle.tap_pointer_moves.proofs.Held.{none_held}
use Rattle.tap_pointer_moves.proofs.LookupsKept.{find_spelled, none_departs}
use Rattle.tap_pointer_moves.proofs.Rest.{ends_at, walk_begins, walk_on}
use Rattle.tap_pointer_moves.proofs.LookupRules.{AnsweredAtOnce, AskNotes, AskSays, IsNoLeave}
use Rattle.tap_pointer_moves.proofs.Walks.{delivered_nodes, joins_aloud, lookups_before, started_nodes}

-- ---- where a lookup ends

-- a node that has no server of an object holds no pair of it
ends_here : (s : System) (x object : List ℕ) (level : ℕ) (node : NodeState) → s.node x ≡ Some node
    → server_for node.pointers object ≡ None → next_hop node object level ≡ Root → EndsAt s x object level
ends_here s x object level node at none last = record {
  state = node;
  is = at;
  none = λ server holds.
      let found = holds.is in
      let same : holds.state ≡ node = cc in
      let held : is_held (state_of node.pointers (pair_of object server)) ≡ true =
      subst (λ (n : NodeState). is_held (state_of n.pointers (pair_of object server)) ≡ true) same holds.held in
      none_held object server node.pointers.pairs none held;
  last = last;
}

pub none_comes_from_ends : NoneComesFromEnds
none_comes_from_ends p s number from to ticket may sound way =
    let frame = may.frame in
    let node = may.receiver.state in
    let at = may.receiver.is in
    elim ((frame_step p s sound number frame node may.among at).came from to (Answer ticket None) way) [
      | inl old ↦ inl old
      | inr new ↦ inr (
        new.object,
        record {
          from = frame.from;
          to = frame.to;
          asker = to;
          level = new.level;
          among = subst (λ b. AmongFrames number (record { from = frame.from; to = frame.to; body = b }) s.frames) new.is may.among;
          ends = ends_here s frame.to new.object new.level node at new.held (new.ends refl);
        },
      )
    ]

pub none_is_noted_at_ends : NoneIsNotedAtEnds
none_is_noted_at_ends p s x ticket object may sound noted =
    let node = may.acts.state in
    let at = may.acts.is in
    let start = StartFind ticket object in
    let news = some_news (s.node x) node (λ n. (act n (Starts start)).news) (Answered ticket None) at noted in
    let once : AnsweredAtOnce node start ticket None = subst (AskNotes node start) news (start_acts node start).news in
    let starts_it = once.is in
    let objects : once.object ≡ object = cc in
    let held : server_for node.pointers object ≡ None = ap (server_for node.pointers) (sym objects) ∙ once.held in
    ends_here s x object 0 node at held (ap (λ o. next_hop node o 0) (sym objects) ∙ once.ends refl)

-- ---- the ends of walks

pub ends_of_walks_are_exact : EndsOfWalksAreExact
ends_of_walks_are_exact p s x object asker level sound stand lookups name asks core on ends server published =
    let rest = as_at_rest p s sound stand lookups in
    let there : IsCoreNode (emptied s) x = record { state = core.state; is = core.is; core = core.core } in
    let found = core.is in
    let is = ends.is in
    let same : core.state ≡ ends.state = cc in
    let status = subst (λ (n : NodeState). n.status ≡ Core) same (core_at_rest p (emptied s) rest.sound rest.stand refl x there) in
    let holds = ends_at p (emptied s) rest.sound rest.stand refl object name asker (core_on s asker asks) x ends.state level is status on
    ends.last server (record { state = published.state; is = published.is; published = published.published }) in
    ends.none server (record { state = holds.state; is = holds.is; held = holds.held })

-- so it is where a lookup ends at its asker
pub ends_at_once_are_exact : (p : SettingsValue) (s : System) (x object : List ℕ) (ticket : ℕ) → Sound p s → PointersStand s → AreLookups s
    → may_start p s x (StartFind ticket object) → EndsAt s x object 0 → (server : List ℕ) → IsPublished s (pair_of object server) → ⊥
ends_at_once_are_exact p s x object ticket sound stand lookups may ends =
    let core : IsCoreNode s x = record { state = may.acts.state; is = may.acts.is; core = inl may.acts.core } in
    ends_of_walks_are_exact p s x object x 0 sound stand lookups may.name core core (walk_begins p s object x) ends

-- ---- Finds on their walks

-- where a walk enters a node stays as long as what it reads of the nodes does
on_still : (p : SettingsValue) (s s' : System) (object asker to : List ℕ) (level : ℕ) → nodes_of s' ≡ nodes_of s
    → IsOnWalk p s object asker to level → IsOnWalk p s' object asker to level
on_still p s s' object asker to level same on =
    subst (λ (n : Nodes). IsAmong (entry_at to level) (walk_entered p.base (core_links n) asker object)) (sym same) on

-- a Find that was under way before is still on its walk
module _ (p : SettingsValue) (s s' : System) (stays : AreLookups s → nodes_of s' ≡ nodes_of s) where
  was_on : (from to : List ℕ) (ticket : ℕ) (object asker : List ℕ) (level : ℕ)
      → IsUnderWay s from to (Find ticket object asker level) → ComesOn p s s' ticket object asker to level
  was_on from to ticket object asker level way = record {
    from = from;
    at = to;
    entered = level;
    way = way;
    on = λ lookups on. on_still p s s' object asker to level (stays lookups) on;
  }

module _ (p : SettingsValue) (s : System) (number : ℕ) (frame : Frame) (node : NodeState) (sound : Sound p s) (stand : PointersStand s)
    (cores : LookupsGoToCore s) (among : AmongFrames number frame s.frames) (at : s.node frame.to ≡ Some node) where
  stays : AreLookups s → nodes_of (after_delivery p s number) ≡ nodes_of s
  stays lookups = delivered_nodes p s number frame node sound lookups among at

  -- a Find that is taken goes on along its walk
  goes_on : (to : List ℕ) (ticket : ℕ) (object asker : List ℕ) (level next : ℕ) → frame.body ≡ Find ticket object asker level
      → next_hop node object level ≡ HopTo to next → ComesOn p s (after_delivery p s number) ticket object asker to next
  goes_on to ticket object asker level next is hop =
      let way : IsUnderWay s frame.from frame.to (Find ticket object asker level) = record {
        number = number;
        among = subst (λ b. AmongFrames number (record { from = frame.from; to = frame.to; body = b }) s.frames) is among;
      } in
      let due = cores.finds frame.from frame.to ticket object asker level way in
      let name = (find_spelled p s sound frame.from frame.to ticket object asker level way).0 in
      let calm = none_departs p s sound frame.from frame.to (Find ticket object asker level) way (λ may. may) in
      let core = due.receiver in
      let found = core.is in
      let same : core.state ≡ node = cc in
      let status = subst (λ (n : NodeState). n.status ≡ Core) same (only_core p s sound calm frame.to core) in
      record {
        from = frame.from;
        at = frame.to;
        entered = level;
        way = way;
        on = λ lookups on.
            let rest = as_at_rest p s sound stand lookups in
            on_still p s (after_delivery p s number) object asker to next (stays lookups)
            (walk_on p (emptied s) rest.sound rest.stand refl object name asker (core_on s asker due.asks) frame.to node level to next at
            status on hop);
      }

  delivered_on : (from to : List ℕ) (ticket : ℕ) (object asker : List ℕ) (level : ℕ)
      → IsUnderWay (after_delivery p s number) from to (Find ticket object asker level)
      → ComesOn p s (after_delivery p s number) ticket object asker to level
  delivered_on from to ticket object asker level way =
      elim ((frame_step p s sound number frame node among at).came from to (Find ticket object asker level) way) [
        | inl old ↦ was_on p s (after_delivery p s number) stays from to ticket object asker level old
        | inr new ↦ goes_on to ticket object asker new.level level new.is new.hop
      ]

module _ (p : SettingsValue) (s : System) (x : List ℕ) (start : Start) (sound : Sound p s) (stand : PointersStand s)
    (may : may_start p s x start) where
  -- while a frame is under way nobody starts to leave
  no_leave : (kind : Start) → start ≡ kind → (from to : List ℕ) (ticket : ℕ) (object asker : List ℕ) (level : ℕ)
      → IsUnderWay s from to (Find ticket object asker level) → IsNoLeave kind
  no_leave Leave is from to ticket object asker level way =
      let leaves = subst (may_start p s x) is may in
      let none = leaves.rest in
      let among = way.among in
      absurd (subst (AmongFrames way.number (record { from = from; to = to; body = Find ticket object asker level })) none among)
  no_leave (Join via) is from to ticket object asker level way = tt
  no_leave Abandon is from to ticket object asker level way = tt
  no_leave (Publish published) is from to ticket object asker level way = tt
  no_leave (Withdraw withdrawn) is from to ticket object asker level way = tt
  no_leave (StartFind other sought) is from to ticket object asker level way = tt
  no_leave (Cast cast depth word) is from to ticket object asker level way = tt

  -- a lookup that starts begins its walk
  starts_on : (node : NodeState) → s.node x ≡ Some node → starter p s x start ≡ Some node → AreLookups (after_start p s x start)
      → (to : List ℕ) (ticket : ℕ) (object asker : List ℕ) (level : ℕ) → AskSays node start to (Find ticket object asker level)
      → IsOnWalk p (after_start p s x start) object asker to level
  starts_on node at is lookups to ticket object asker level says =
      let asks = subst (may_start p s x) says.is may in
      let before = lookups_before p s x start node is lookups in
      let rest = as_at_rest p s sound stand before in
      let core : IsCoreNode s x = record { state = asks.acts.state; is = asks.acts.is; core = inl asks.acts.core } in
      let own : asker ≡ x = says.own ∙ (sound.nodes.nodes x node at).name in
      let found = asks.acts.is in
      let same : asks.acts.state ≡ node = cc in
      let status = subst (λ (n : NodeState). n.status ≡ Core) same asks.acts.core in
      let first = walk_begins p s object x in
      let on = walk_on p (emptied s) rest.sound rest.stand refl object asks.name x (core_on s x core) x node 0 to level at status first
      says.hop in
      let stays : IsNoLeave start = subst IsNoLeave (sym says.is) tt in
      subst (λ y. IsOnWalk p (after_start p s x start) object y to level) (sym own)
      (on_still p s (after_start p s x start) object x to level (started_nodes p s x start node stays may at is) on)

  started_on : (node : NodeState) → s.node x ≡ Some node → starter p s x start ≡ Some node → AreLookups (after_start p s x start)
      → (from to : List ℕ) (ticket : ℕ) (object asker : List ℕ) (level : ℕ)
      → IsUnderWay (after_start p s x start) from to (Find ticket object asker level)
      → ComesOn p s (after_start p s x start) ticket object asker to level ⊎ IsOnWalk p (after_start p s x start) object asker to level
  started_on node at is lookups from to ticket object asker level way =
      elim (start_came p s sound x start node is from to (Find ticket object asker level) way) [
        | inl old ↦
            let stays = no_leave start refl from to ticket object asker level old in
            inl (was_on p s (after_start p s x start) (λ before. started_nodes p s x start node stays may at is) from to ticket object asker
            level old)
        | inr new ↦ inr (starts_on node at is lookups to ticket object asker level new)
      ]

pub finds_stay_on_walks : FindsStayOnWalks
finds_stay_on_walks p s (Begins x start) may sound stand cores lookups from to ticket object asker level way =
    elim (starter_of p s x start may) [
      | inl joins ↦
          absurd (joins_aloud p s x joins.0 (subst (λ w. AreLookups (after_start p s x w)) joins.1 lookups))
      | inr st ↦ started_on p s x start sound stand may st.node st.at st.is lookups from to ticket object asker level way
    ]
finds_stay_on_walks p s (Delivers number) may sound stand cores lookups from to ticket object asker level way =
    inl (delivered_on p s number may.frame may.receiver.state sound stand cores may.among may.receiver.is from to ticket object asker level way)
