-- Where lookups go, after each move.
-- Cited above: find_spelled, lookups_at_rest, lookups_kept
use Rattle.std.proofs.Common.{◌≡◌, ℕ, ◌≤◌, List, length, Option, None, Some, arith, refl, ap, sym, subst, ◌∙◌, inl, inr}
use Rattle.tap_name.specs.Name.{IsName}
use Rattle.tap_name.specs.Prefix.{lcp}
use Rattle.tap_name.specs.Settings.{SettingsValue}
use Rattle.tap_name.proofs.Prefixes.{lcp-itself}
use Rattle.tap_table.specs.Next.{IsHop}
use Rattle.tap_table.specs.declared.next.Next.TheVariants.{Hop as HopTo}
use Rattle.tap_table.proofs.Hops.{hop_exactly, hop_is}
use Rattle.tap_wire.specs.Spelling.{IsBody}
use Rattle.tap_wire.specs.declared.frame.Body.{Body}
use Rattle.tap_wire.specs.declared.frame.Body.TheVariants.{Answer, Find}
use Rattle.tap_wire.specs.declared.frame.Frame.{Frame}
use Rattle.tap_rule.specs.Event.{Start}
use Rattle.tap_rule.specs.Event.Start.{Abandon, Cast, Find as StartFind, Join, Leave, Publish, Withdraw}
use Rattle.tap_rule.specs.Node.{NodeState, joiner}
use Rattle.tap_rule.specs.Pointers.{next_hop}
use Rattle.tap_safety.specs.Departing.{may_be_then}
use Rattle.tap_safety.specs.Move.{may_start}
use Rattle.tap_safety.specs.Move.Move.{Begins, Delivers}
use Rattle.tap_safety.specs.Moved.{starter}
use Rattle.tap_safety.specs.Remembered.{Leaver}
use Rattle.tap_safety.specs.System.{System, AmongFrames, IsCoreNode, IsUnderWay}
use Rattle.tap_moves.specs.Delivered.{after_delivery, after_start}
use Rattle.tap_safety_moves.specs.Sound.{Sound}
use Rattle.tap_safety_moves.proofs.SoundMoves.{move_keeps}
use Rattle.tap_pointer_moves.proofs.Publications.{starter_of}
use Rattle.tap_pointer_moves.specs.Lookups.{LookupsAtRest, LookupsGoToCore, LookupsKept, NeverComesBack}
use Rattle.tap_pointer_moves.proofs.LookupActs.{LookupStep, frame_step, new_step, start_step}
use Rattle.tap_pointer_moves.proofs.LookupRules.{AskSays, FoundSays, IsNoLeave}

module _ (p : SettingsValue) (s : System) (sound : Sound p s) where
  -- nobody departs while such a frame is under way
  pub none_departs : (from to : List ℕ) (body : Body) → IsUnderWay s from to body → (may_be_then body → ⊥) → s.departing ≡ None
  none_departs from to body way never = by s.departing refl
    where
      by : (departing : Option Leaver) → s.departing ≡ departing → s.departing ≡ None
      by None none = none
      by (Some leaver) departs = absurd (never ((sound.invariant.basis.departure.during leaver departs).frames from to body way))

  -- what a Find says is spelled: an object, an asker, and a level of theirs
  pub find_spelled : (from to : List ℕ) (ticket : ℕ) (object asker : List ℕ) (level : ℕ)
      → IsUnderWay s from to (Find ticket object asker level) → IsBody p (Find ticket object asker level)
  find_spelled from to ticket object asker level way =
      (sound.invariant.basis.spelled.each way.number (record { from = from; to = to; body = Find ticket object asker level }) way.among).body

  -- a hop goes to a core node
  pub hop_core : (x : List ℕ) (node : NodeState) (object to : List ℕ) (level next : ℕ) → s.node x ≡ Some node → IsName p object
      → level ≤ length object → next_hop node object level ≡ HopTo to next → IsCoreNode s to
  hop_core x node object to level next at name inside hop =
      let of = sound.nodes.nodes x node at in
      let t = node.ties.table in
      let named : IsName t.settings object = subst (λ q. IsName q object) (sym of.settings) name in
      let hops : IsHop t level to next = hop_is t object to next level of.is_node.ties.table named ((hop_exactly t object to next level inside).0 hop) in
      sound.invariant.basis.soft.settled x to (record { state = node; is = at; link = hops.settled })

module _ (p : SettingsValue) (s s' : System) (sound : Sound p s) (sound_now : Sound p s') (before : LookupsGoToCore s)
    (Says : List ℕ → Body → Type 0) (Stays : Type 0) (step : LookupStep Says Stays s s')
    (calm : (from to : List ℕ) (body : Body) → IsUnderWay s from to body → Stays)
    (asked : (to : List ℕ) (ticket : ℕ) (object asker : List ℕ) (level : ℕ) → Says to (Find ticket object asker level)
    → IsCoreNode s' to × IsCoreNode s' asker)
    (answered : (to : List ℕ) (ticket : ℕ) (server : Option (List ℕ)) → Says to (Answer ticket server) → IsCoreNode s' to) where
  core_still : (from to : List ℕ) (body : Body) → IsUnderWay s from to body → (may_be_then body → ⊥) → (y : List ℕ) → IsCoreNode s y
      → IsCoreNode s' y
  core_still from to body way never y core =
      step.core (calm from to body way) (none_departs p s sound from to body way never) y core

  go_to_core : LookupsGoToCore s'
  go_to_core = record {
    finds = λ from to ticket object asker level way.
        let far = (sound_now.askers.finds way.number ticket from to object asker level way.among).far in
        elim (step.came from to (Find ticket object asker level) way) [
          | inl old ↦
              let due = before.finds from to ticket object asker level old in
              record {
                receiver = core_still from to (Find ticket object asker level) old (λ may. may) to due.receiver;
                asks = core_still from to (Find ticket object asker level) old (λ may. may) asker due.asks;
                far = far;
              }
          | inr new ↦ let ends = asked to ticket object asker level new in record { receiver = ends.0; asks = ends.1; far = far }
        ];
    answers = λ from to ticket server way. elim (step.came from to (Answer ticket server) way) [
      | inl old ↦
          core_still from to (Answer ticket server) old (λ may. may) to (before.answers from to ticket server old)
      | inr new ↦ answered to ticket server new
    ];
  }

-- ---- a frame

module _ (p : SettingsValue) (s : System) (number : ℕ) (frame : Frame) (node : NodeState) (sound : Sound p s)
    (sound_now : Sound p (after_delivery p s number)) (before : LookupsGoToCore s) (among : AmongFrames number frame s.frames)
    (at : s.node frame.to ≡ Some node) where
  abbrev after : System
  after = after_delivery p s number

  -- a Find that is taken is under way
  pub find_way : (ticket : ℕ) (object asker : List ℕ) (level : ℕ) → frame.body ≡ Find ticket object asker level
      → IsUnderWay s frame.from frame.to (Find ticket object asker level)
  find_way ticket object asker level is =
      record {
        number = number;
        among = subst (λ b. AmongFrames number (record { from = frame.from; to = frame.to; body = b }) s.frames) is among;
      }

  core_after : (ticket : ℕ) (object asker : List ℕ) (level : ℕ) → frame.body ≡ Find ticket object asker level → (y : List ℕ)
      → IsCoreNode s y → IsCoreNode (after_delivery p s number) y
  core_after ticket object asker level is y core =
      let way = find_way ticket object asker level is in
      let none = none_departs p s sound frame.from frame.to (Find ticket object asker level) way (λ may. may) in
      (frame_step p s sound number frame node among at).core tt none y core

  pub delivered_kept : LookupsGoToCore (after_delivery p s number)
  delivered_kept =
      go_to_core p s (after_delivery p s number) sound sound_now before (FoundSays node frame.body) (Unit {0})
      (frame_step p s sound number frame node among at) (λ from to body way. tt)
      (λ to ticket object asker next says.
      let way = find_way ticket object asker says.level says.is in
      let due = before.finds frame.from frame.to ticket object asker says.level way in
      let spelled = find_spelled p s sound frame.from frame.to ticket object asker says.level way in
      let name : IsName p object = spelled.0 in
      let inside : says.level ≤ length object = let len = name.len in subst (λ n. says.level ≤ n) (sym len) spelled.2.1 in
      let core = hop_core p s sound frame.to node object to says.level next at name inside says.hop in (
        core_after ticket object asker says.level says.is to core,
        core_after ticket object asker says.level says.is asker due.asks,
      ))
      (λ to ticket server says.
      let way = find_way ticket says.object to says.level says.is in
      let due = before.finds frame.from frame.to ticket says.object to says.level way in
      core_after ticket says.object to says.level says.is to due.asks)

-- ---- a start

module _ (p : SettingsValue) (s : System) (x : List ℕ) (start : Start) (sound : Sound p s)
    (sound_now : Sound p (after_start p s x start)) (before : LookupsGoToCore s) (may : may_start p s x start) where
  -- nobody leaves while a frame is under way
  calm : (from to : List ℕ) (body : Body) → IsUnderWay s from to body → IsNoLeave start
  calm from to body way = by start refl
    where
      by : (kind : Start) → start ≡ kind → IsNoLeave kind
      by Leave is =
          let leaves = subst (may_start p s x) is may in
          let none = leaves.rest in
          let among = way.among in
          absurd (subst (AmongFrames way.number (record { from = from; to = to; body = body })) none among)
      by (Join via) is = tt
      by Abandon is = tt
      by (Publish object) is = tt
      by (Withdraw object) is = tt
      by (StartFind ticket object) is = tt
      by (Cast cast level word) is = tt

  calm_start : (from to : List ℕ) (body : Body) → IsUnderWay s from to body → IsNoLeave start
  calm_start from to body way = calm from to body way

  started_kept : (node : NodeState) → s.node x ≡ Some node → starter p s x start ≡ Some node → LookupsGoToCore (after_start p s x start)
  started_kept node at is =
      let step = start_step p s sound x start node is at in
      go_to_core p s (after_start p s x start) sound sound_now before (AskSays node start) (IsNoLeave start) step calm_start
      (λ to ticket object asker next says.
      let asks : may_start p s x (StartFind ticket object) = subst (may_start p s x) says.is may in
      let none = asks.acts.none_departs in
      let stays : IsNoLeave start = subst IsNoLeave (sym says.is) tt in
      let core = hop_core p s sound x node object to 0 next at asks.name (omega arith) says.hop in
      let own : asker ≡ x = says.own ∙ (sound.nodes.nodes x node at).name in
      let mine : IsCoreNode s x = record { state = asks.acts.state; is = asks.acts.is; core = inl asks.acts.core } in (
        step.core stays none to core,
        step.core stays none asker (subst (IsCoreNode s) (sym own) mine),
      ))
      (λ to ticket server says. absurd says)

  joined_kept : (via : List ℕ) → start ≡ Join via → LookupsGoToCore (after_start p s x start)
  joined_kept via is =
      let joins : may_start p s x (Join via) = subst (may_start p s x) is may in
      let starting : starter p s x start ≡ Some (joiner p x) = ap (starter p s x) is in
      go_to_core p s (after_start p s x start) sound sound_now before (AskSays (joiner p x) start) (IsNoLeave start)
      (new_step p s sound x start (joiner p x) starting joins.fresh) calm_start
      (λ to ticket object asker next says. let wrong : Join via ≡ StartFind ticket object = sym is ∙ says.is in absurd (cc))
      (λ to ticket server says. absurd says)

  pub start_kept : LookupsGoToCore (after_start p s x start)
  start_kept =
      elim (starter_of p s x start may) [
        | inl joins ↦ joined_kept joins.0 joins.1
        | inr st ↦ started_kept st.node st.at st.is
      ]

-- ---- all moves

pub lookups_kept : LookupsKept
lookups_kept p s (Begins x start) may sound before =
    start_kept p s x start sound (move_keeps p s (Begins x start) may sound) before may
lookups_kept p s (Delivers number) may sound before =
    delivered_kept p s number may.frame may.receiver.state sound (move_keeps p s (Delivers number) may sound) before may.among
    may.receiver.is

pub lookups_at_rest : LookupsAtRest
lookups_at_rest p members are = record {
  finds = λ from to ticket object asker level way. absurd way.among;
  answers = λ from to ticket server way. absurd way.among;
}

pub never_back : NeverComesBack
never_back p s from to ticket object asker level sound before way same =
    let due = before.finds from to ticket object asker level way in
    let spelled = find_spelled p s sound from to ticket object asker level way in
    let most = spelled.2.1 in
    let len = spelled.1.len in
    let all : lcp to asker ≡ length asker = ap (λ y. lcp y asker) same ∙ lcp-itself asker in
    let far = due.far in
    omega (arith, all, most, len, far)
