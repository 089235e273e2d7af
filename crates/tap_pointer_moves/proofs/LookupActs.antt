-- What a step of a node says of lookups, and what it leaves of core nodes.
-- Cited above: start_acts
use Rattle.std.proofs.Common.{◌≡◌, ◌⊎◌, ℕ, Bool, true, false, List, [], All, Option, None, Some, refl, ap, sym, subst, ◌∙◌, inl, inr}
use Rattle.std.specs.Prelude.{IfSome}
use Rattle.tap_name.specs.Settings.{SettingsValue}
use Rattle.tap_wire.specs.declared.frame.Body.{Body}
use Rattle.tap_wire.specs.declared.frame.Frame.{Frame}
use Rattle.tap_rule.specs.Act.{act}
use Rattle.tap_rule.specs.Event.{Acted, News, Start}
use Rattle.tap_rule.specs.Event.Event.{Starts, Takes}
use Rattle.tap_rule.specs.FrameRules.{rule_of_frame}
use Rattle.tap_rule.specs.RuleLaws.{IsCarriedOut, IsIgnored}
use Rattle.tap_rule.specs.Node.{NodeState, name_of}
use Rattle.tap_rule.specs.Node.Status.{Core, Leaving}
use Rattle.tap_rule.specs.Reaction.{Message, Reaction}
use Rattle.tap_rule.specs.Sent.{AreSent, IsAmong}
use Rattle.tap_rule.specs.StartRules.{rule_of_start}
use Rattle.tap_rule.specs.Strange.{is_strange}
use Rattle.tap_rule.proofs.CarriedOut.{frame_law, start_law, strange_law, unruled_law, unruled_start_law}
use Rattle.tap_safety.specs.Moved.{starter}
use Rattle.tap_safety.specs.Exchanges.{numbered_from}
use Rattle.tap_safety.specs.System.{System, AmongFrames, IsCoreNode, IsUnderWay}
use Rattle.tap_safety.proofs.LinkKeeps.{status_seen}
use Rattle.tap_safety.proofs.Moved.{delivers, found, starts}
use Rattle.tap_moves.specs.Delivered.{after_delivery, after_start}
use Rattle.tap_moves.proofs.Exchanged.{exchanges, in_either, sent_numbered}
use Rattle.tap_moves.proofs.Got.{among_all}
use Rattle.tap_safety_moves.specs.Sound.{Sound}
use Rattle.tap_pointer_moves.proofs.LookupRules.{AskNotes, AskRule, AskSays, FoundNotes, FoundRule, FoundSays, IsAside, IsLookupRule, IsNoLeave, ask_free, found_free, frame_rule, start_rule}

-- ---- one node acts

-- what it sends and notes of lookups is what it may, and if it is core it stays so if so it is to be
pub record LookupActs (Says : List ℕ → Body → Type 0) (Notes : News → Type 0) (Stays : Type 0) (node : NodeState) (acted : Acted) : Type 0
  where
    pub sent : (f : Frame) → IsAmong f acted.sent → Says f.to f.body
    pub news : Notes acted.news
    pub status : Stays → node.status ≡ Core → acted.state.status ≡ Core

module _ (Says : List ℕ → Body → Type 0) (Notes : News → Type 0) (Stays : Type 0)
    (free : (to : List ℕ) (body : Body) → IsAside body → Says to body) (nothing : Notes News.Nothing) where
  said_sent : (own : List ℕ) (r : Reaction) (sent : List Frame) → AreSent own r.words r.messages sent
      → All (λ (m : Message). Says m.to m.body) r.messages → (f : Frame) → IsAmong f sent → Says f.to f.body
  said_sent own r sent are says f among =
      elim (are.each f among) [
        | inl link ↦ free f.to f.body (subst (λ (g : Frame). IsAside g.body) (sym link.is) tt)
        | inr (inl named) ↦
            subst (λ (g : Frame). Says g.to g.body) (sym named.is)
            (among_all (λ (m : Message). Says m.to m.body) r.messages says named.message named.among)
        | inr (inr lay) ↦ free f.to f.body (subst (λ (g : Frame). IsAside g.body) (sym lay.is) tt)
      ]

  pub carried : (node : NodeState) (r : Reaction) (acted : Acted) → IsCarriedOut node r acted → IsLookupRule Says Notes Stays node r
      → LookupActs Says Notes Stays node acted
  carried node r acted out rule = record {
    sent = said_sent (name_of node) r acted.sent out.sent rule.messages;
    news = subst Notes (sym out.news) rule.news;
    status = λ stays core. out.status ∙ rule.status stays core;
  }

  pub ignored : (node : NodeState) (acted : Acted) → IsIgnored node acted → LookupActs Says Notes Stays node acted
  ignored node acted same = record {
    sent = λ f among. let none : IsAmong f [] = subst (IsAmong f) same.sent among in absurd none;
    news = subst Notes (sym same.news) nothing;
    status = λ stays core. ap (λ (n : NodeState). n.status) same.state ∙ core;
  }

abbrev pub FrameActs : NodeState → Frame → Type 0
FrameActs node frame = LookupActs (FoundSays node frame.body) (FoundNotes frame.body) (Unit {0}) node (act node (Takes frame))

pub frame_acts : (node : NodeState) (frame : Frame) → FrameActs node frame
frame_acts node frame = by_test (is_strange node frame) refl
  where
    by_rule : is_strange node frame ≡ false → (rule : Option Reaction) → rule_of_frame node.status node frame.from frame.body ≡ rule
        → IfSome rule (FoundRule node frame.body) → FrameActs node frame
    by_rule known None is rule =
        ignored (FoundSays node frame.body) (FoundNotes frame.body) (Unit {0}) (found_free node frame.body) tt node (act node (Takes frame))
        (unruled_law node frame is)
    by_rule known (Some r) is rule =
        carried (FoundSays node frame.body) (FoundNotes frame.body) (Unit {0}) (found_free node frame.body) tt node r
        (act node (Takes frame)) (frame_law node frame r known is) rule

    by_test : (strange : Bool) → is_strange node frame ≡ strange → FrameActs node frame
    by_test true is =
        ignored (FoundSays node frame.body) (FoundNotes frame.body) (Unit {0}) (found_free node frame.body) tt node (act node (Takes frame))
        (strange_law node frame is).0
    by_test false is =
        by_rule is (rule_of_frame node.status node frame.from frame.body) refl (frame_rule node frame.from frame.body)

abbrev pub StartActs : NodeState → Start → Type 0
StartActs node start = LookupActs (AskSays node start) (AskNotes node start) (IsNoLeave start) node (act node (Starts start))

pub start_acts : (node : NodeState) (start : Start) → StartActs node start
start_acts node start = by_rule (rule_of_start node.status node start) refl (start_rule node start)
  where
    by_rule : (rule : Option Reaction) → rule_of_start node.status node start ≡ rule → IfSome rule (AskRule node start)
        → StartActs node start
    by_rule None is rule =
        ignored (AskSays node start) (AskNotes node start) (IsNoLeave start) (ask_free node start) tt node (act node (Starts start))
        (unruled_start_law node start is)
    by_rule (Some r) is rule =
        carried (AskSays node start) (AskNotes node start) (IsNoLeave start) (ask_free node start) tt node r (act node (Starts start))
        (start_law node start r is) rule

-- ---- in a system

-- What is under way of lookups was so, or may be said; and while nobody departs a core node stays core, if so it is to be.
pub record LookupStep (Says : List ℕ → Body → Type 0) (Stays : Type 0) (s s' : System) : Type 0 where
  pub came : (from to : List ℕ) (body : Body) → IsUnderWay s' from to body → IsUnderWay s from to body ⊎ Says to body
  pub core : Stays → s.departing ≡ None → (y : List ℕ) → IsCoreNode s y → IsCoreNode s' y

module _ (p : SettingsValue) (s : System) (sound : Sound p s) where
  -- while nobody departs a core node isn't leaving
  pub only_core : s.departing ≡ None → (y : List ℕ) → (core : IsCoreNode s y) → core.state.status ≡ Core
  only_core none y core =
      elim (core.core) [
        | inl is ↦ is
        | inr leaves ↦
            absurd (sound.invariant.basis.departure.leaving y none (status_seen s y core.state Leaving core.is leaves))
      ]

  pub core_on : (s' : System) (x : List ℕ) (node after : NodeState) (Stays : Type 0) → s.node x ≡ Some node → s'.node x ≡ Some after
      → ((y : List ℕ) → (y ≡ x) ⊎ (s'.node y ≡ s.node y)) → (Stays → node.status ≡ Core → after.status ≡ Core) → Stays
      → s.departing ≡ None → (y : List ℕ) → IsCoreNode s y → IsCoreNode s' y
  core_on s' x node after Stays was is others status stays none y core =
      elim (others y) [
        | inl here ↦
            let there : s.node y ≡ Some node = ap s.node here ∙ was in
            let found = core.is in
            let same : core.state ≡ node = cc in
            let before : node.status ≡ Core = subst (λ (n : NodeState). n.status ≡ Core) same (only_core none y core) in
            record { state = after; is = ap s'.node here ∙ is; core = inl (status stays before) }
        | inr same ↦ record { state = core.state; is = same ∙ core.is; core = core.core }
      ]

  module _ (number : ℕ) (frame : Frame) (node : NodeState) (among : AmongFrames number frame s.frames) (at : s.node frame.to ≡ Some node)
    where
      pub frame_step : LookupStep (FoundSays node frame.body) (Unit {0}) s (after_delivery p s number)
      frame_step =
          let s' = after_delivery p s number in
          let acted = act node (Takes frame) in
          let step = delivers p s number frame node (found number frame 0 s.frames s.next sound.invariant.basis.numbered.numbers among) at in
          let frames = exchanges s s' number frame acted.sent step.taken sound.invariant.basis.numbered in
          let acts = frame_acts node frame in
          record {
            came = λ from to body way.
                let f : Frame = record { from = from; to = to; body = body } in
                elim (frames.was way.number f way.among) [
                  | inl old ↦ inl (record { number = way.number; among = old })
                  | inr new ↦ inr (acts.sent f (sent_numbered way.number f s.next acted.sent new))
                ];
            core = core_on s' frame.to node acted.state (Unit {0}) at step.done.is step.done.others acts.status;
          }

  module _ (x : List ℕ) (start : Start) (node : NodeState) (is : starter p s x start ≡ Some node) where
    pub start_came : (from to : List ℕ) (body : Body) → IsUnderWay (after_start p s x start) from to body
        → IsUnderWay s from to body ⊎ AskSays node start to body
    start_came from to body way =
        let acted = act node (Starts start) in
        let step = starts p s x start node is in
        let f : Frame = record { from = from; to = to; body = body } in
        elim (in_either way.number f s.frames (numbered_from s.next acted.sent) (rw step.sent.after at way.among)) [
          | inl old ↦ inl (record { number = way.number; among = old })
          | inr new ↦ inr ((start_acts node start).sent f (sent_numbered way.number f s.next acted.sent new))
        ]

    pub start_step : s.node x ≡ Some node → LookupStep (AskSays node start) (IsNoLeave start) s (after_start p s x start)
    start_step at =
        let step = starts p s x start node is in
        record {
          came = start_came;
          core =
              core_on (after_start p s x start) x node (act node (Starts start)).state (IsNoLeave start) at step.done.is step.done.others
              (start_acts node start).status;
        }

    pub new_step : s.node x ≡ None → LookupStep (AskSays node start) (IsNoLeave start) s (after_start p s x start)
    new_step fresh =
        let step = starts p s x start node is in
        record {
          came = start_came;
          core = λ stays none y core. elim (step.done.others y) [
            | inl here ↦
                let found = core.is in
                let gone : s.node y ≡ None = ap s.node here ∙ fresh in
                let wrong : None ≡ Some core.state = sym gone ∙ found in
                absurd (cc)
            | inr same ↦ record { state = core.state; is = same ∙ core.is; core = core.core }
          ];
        }
