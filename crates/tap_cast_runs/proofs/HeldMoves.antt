-- Each move keeps what is held of answers, of those that were given before.
use Rattle.std.proofs.Common.{◌≡◌, ◌≢◌, ◌⊎◌, ℕ, true, List, [], ◌∷◌, Option, None, Some, ap, refl, sym, subst, ◌∙◌, inl, inr}
use Rattle.tap_name.specs.Settings.{SettingsValue}
use Rattle.tap_name.specs.declared.slot.Offered.{Offered}
use Rattle.tap_join.specs.Hello.{hello_names}
use Rattle.tap_table.specs.Table.{kind_in}
use Rattle.tap_table.specs.Ties.{TiesValue}
use Rattle.tap_wire.specs.declared.frame.Body.{Body}
use Rattle.tap_wire.specs.declared.frame.Body.TheVariants.{Forget}
use Rattle.tap_wire.specs.declared.frame.Frame.{Frame}
use Rattle.tap_rule.specs.Act.{act}
use Rattle.tap_rule.specs.Event.{Acted, Start}
use Rattle.tap_rule.specs.Event.Event.{Starts}
use Rattle.tap_rule.specs.Event.Start.{Abandon, Cast as StartCast, Find as StartFind, Join, Leave as StartLeave, Publish, Withdraw}
use Rattle.tap_rule.specs.RuleLaws.{frame_to}
use Rattle.tap_rule.specs.Node.{NodeState, link_to, name_of, settings_of}
use Rattle.tap_rule.specs.Node.Status.{Ceased, Core, Joining}
use Rattle.tap_rule.specs.Sent.{IsAmong}
use Rattle.tap_rule.proofs.QuietSteps.{quiet_start_law}
use Rattle.tap_rule.proofs.StartSteps.{give_up_law}
use Rattle.tap_safety.specs.Frames.{HelloFields, hello_body}
use Rattle.tap_safety.specs.Move.{may_start}
use Rattle.tap_safety.specs.Moved.{starter}
use Rattle.tap_safety.specs.Exchanges.{numbered_from}
use Rattle.tap_safety.specs.System.{AmongOffered, HelloNames, System}
use Rattle.tap_safety.specs.Ties.{status_of}
use Rattle.tap_safety.proofs.Moved.{starts}
use Rattle.tap_safety.proofs.UnderWay.{among_left, still_under_way}
use Rattle.tap_safety.proofs.Said.{said_of}
use Rattle.tap_moves.specs.ByRule.{taken_at}
use Rattle.tap_moves.specs.Delivered.{after_delivery, after_start}
use Rattle.tap_moves.specs.InvariantLaws.{IsDelivery}
use Rattle.tap_moves.proofs.InvariantMoves.{due, way}
use Rattle.tap_moves.proofs.MovesMade.{by_rule}
use Rattle.tap_cast_runs.specs.SlotAnswers.{WatchMemory}
use Rattle.tap_cast_runs.specs.Had.{AnswersAreHeld, IsHad, WasCore, was_core}
use Rattle.tap_cast_runs.proofs.Follow.{frame_follows, start_follows}
use Rattle.tap_cast_runs.proofs.Full.{full_stays}
use Rattle.tap_cast_runs.proofs.HeldSteps.{IsHeldStep}
use Rattle.tap_cast_runs.proofs.Joining.{Forgotten, KeepsLinks, joining_keeps, offered_had}

-- whom a Forget names has ceased
not_core : (s : System) (x : List ℕ) → status_of s x ≡ Some Ceased → WasCore s x → ⊥
unfolding status_of
not_core s x ceased core =
    let here : status_of s x ≡ Some core.state.status = rw core.is refl in
    let both : Some core.state.status ≡ Some Ceased = sym here ∙ ceased in
    let same : core.state.status ≡ Ceased = cc in
    subst was_core same core.core

-- what is named is the sender, or one of the links
named_offered : (w t : List ℕ) (hello : HelloFields) → AmongOffered t hello.links ⊎ ((t ≡ w) × (hello.is_core ≡ true))
    → (offered : Offered) × IsAmong offered (hello_names w hello.is_core hello.links) × (offered.name ≡ t)
named_offered w t hello (inr own) =
    (record { name = w; settled = hello.is_core }, inl refl, sym own.0)
named_offered w t hello (inl link) =
    let found = by hello.links link in (found.0, inr found.1, found.2)
  where
    by : (links : List Offered) → AmongOffered t links → (offered : Offered) × IsAmong offered links × (offered.name ≡ t)
    by [] among = absurd among
    by (one ∷ others) (inl is) = (one, inl refl, sym is)
    by (one ∷ others) (inr later) = let found = by others later in (found.0, inr found.1, found.2)

-- ---- a frame that is delivered

module _ (p : SettingsValue) (s : System) (number : ℕ) (node : NodeState) (from : List ℕ) (body : Body)
    (is : IsDelivery p s number node from body) where
  abbrev after : System
  after = after_delivery p s number

  abbrev own : List ℕ
  own = name_of node

  abbrev acted : Acted
  acted = taken_at node from body

  settings : settings_of node ≡ p
  settings = (is.nodes.nodes own node is.at).settings

  not_forgotten : (t : List ℕ) → WasCore s t → Forgotten from body t → ⊥
  not_forgotten t core = by body is
    where
      by : (b : Body) → IsDelivery p s number node from b → Forgotten from b t → ⊥
      by Forget comes same =
          not_core s from (comes.invariant.ceased.forgets from own (way p s number node from Forget comes))
          (subst (WasCore s) same core)
      by _ comes never = never

  links_kept : node.status ≡ Joining → acted.state.status ≡ Joining → (t : List ℕ) → WasCore s t → IsHad p own node t
      → IsHad p own acted.state t
  links_kept was joins t core had =
      let keeps = joining_keeps p s number node from body (said_of body) is was joins in
      by keeps had
    where
      by : KeepsLinks node acted.state (Forgotten from body) → IsHad p own node t → IsHad p own acted.state t
      by keeps (inl link) =
          elim (keeps.linked t link.0 link.1) [
            | inl stays ↦ subst (λ q. IsHad q own acted.state t) settings stays
            | inr gone ↦ absurd (not_forgotten t core gone)
          ]
      by keeps (inr full) = inr (full_stays p own node acted.state t keeps.settled full)

  -- a Hello that is taken
  hello_had : (hello : HelloFields) → body ≡ hello_body hello → (t : List ℕ)
      → AmongOffered t hello.links ⊎ ((t ≡ from) × (hello.is_core ≡ true)) → node.status ≡ Joining → t ≢ own
      → IsHad p own acted.state t
  hello_had hello same t named was apart =
      let comes : IsDelivery p s number node from (hello_body hello) = subst (IsDelivery p s number node from) same is in
      let found = named_offered from t hello named in
      let other : found.0.name ≢ own = λ mine. apart (sym found.2 ∙ mine) in
      let had = offered_had p s number node from hello comes was found.0 found.1 other in
      let here : IsHad (settings_of node) own (taken_at node from (hello_body hello)).state t =
      subst (IsHad (settings_of node) own (taken_at node from (hello_body hello)).state) found.2 had in
      subst (λ q. IsHad q own acted.state t) settings
      (subst (λ b. IsHad (settings_of node) own (taken_at node from b).state t) (sym same) here)

  hello_goes : (w b t : List ℕ) → HelloNames s w b t
      → HelloNames after w b t ⊎ ((b ≡ own) × (node.status ≡ Joining → acted.state.status ≡ Joining → t ≢ b → IsHad p own acted.state t))
  hello_goes w b t named =
      let step = by_rule p s number node from body (due p s number node from body is) in
      elim (still_under_way s after number (frame_to node from body) acted.sent step.taken w b (hello_body named.fields) named.way) [
        | inl stays ↦ inl (record { fields = named.fields; way = stays; named = named.named })
        | inr taken ↦
            let to : b ≡ own = ap (λ (f : Frame). f.to) taken in
            let sender : w ≡ from = ap (λ (f : Frame). f.from) taken in
            let says : hello_body named.fields ≡ body = ap (λ (f : Frame). f.body) taken in
            let mine = subst (λ y. AmongOffered t named.fields.links ⊎ ((t ≡ y) × (named.fields.is_core ≡ true))) sender named.named in
            inr (to, λ was joins apart. hello_had named.fields (sym says) t mine was (λ same. apart (same ∙ sym to)))
      ]

  pub delivery_step : IsHeldStep p s after own node acted.state
  delivery_step =
      let step = by_rule p s number node from body (due p s number node from body is) in
      record {
        was = is.at;
        is = step.at.is;
        others = step.at.others;
        follows = frame_follows node from body is.known;
        links = links_kept;
        hellos = hello_goes;
      }

-- ---- a start

module _ (p : SettingsValue) (s : System) (x : List ℕ) (start : Start) (node : NodeState) (is : starter p s x start ≡ Some node)
    (at : s.node x ≡ Some node) (may : may_start p s x start) where
  abbrev begun : System
  begun = after_start p s x start

  abbrev done : Acted
  done = act node (Starts start)

  start_core : start ≡ StartLeave → node.status ≡ Core
  start_core leaves = by start may leaves
    where
      by : (one : Start) → may_start p s x one → one ≡ StartLeave → node.status ≡ Core
      by StartLeave allowed same =
          let there = allowed.acts.is in
          let both : Some allowed.acts.state ≡ Some node = sym there ∙ at in
          let one : allowed.acts.state ≡ node = cc in
          subst (λ (n : NodeState). n.status ≡ Core) one allowed.acts.core
      by (Join via) allowed same = cc
      by Abandon allowed same = cc
      by (Publish object) allowed same = cc
      by (Withdraw object) allowed same = cc
      by (StartFind ticket object) allowed same = cc
      by (StartCast cast level word) allowed same = cc

  ties_stay : node.status ≡ Joining → done.state.ties ≡ node.ties
  ties_stay joins = by start may start_core
    where
      by : (one : Start) → may_start p s x one → (one ≡ StartLeave → node.status ≡ Core) → (act node (Starts one)).state.ties ≡ node.ties
      by (Join via) allowed core = let wrong : ◌≡◌ {A = Option NodeState} None (Some node) = sym allowed.fresh ∙ at in absurd (cc)
      by Abandon allowed core = (give_up_law node joins).ties
      by StartLeave allowed core = let wrong : Joining ≡ Core = sym joins ∙ core refl in absurd (cc)
      by (Publish object) allowed core = (quiet_start_law node (Publish object) tt).ties
      by (Withdraw object) allowed core = (quiet_start_law node (Withdraw object) tt).ties
      by (StartFind ticket object) allowed core = (quiet_start_law node (StartFind ticket object) tt).ties
      by (StartCast cast level word) allowed core = (quiet_start_law node (StartCast cast level word) tt).ties

  start_had : node.status ≡ Joining → (t : List ℕ) → IsHad p x node t → IsHad p x done.state t
  start_had joins t had =
      let look = λ (y : List ℕ). ap (λ (ties : TiesValue). kind_in ties.table y) (ties_stay joins) in
      by look had
    where
      by : ((y : List ℕ) → link_to done.state y ≡ link_to node y) → IsHad p x node t → IsHad p x done.state t
      by look (inl link) = inl (link.0, look t ∙ link.1)
      by look (inr full) = inr (full_stays p x node done.state t (λ y settled. look y ∙ settled) full)

  pub start_step : IsHeldStep p s begun x node done.state
  start_step =
      let step = starts p s x start node is in
      record {
        was = at;
        is = step.done.is;
        others = step.done.others;
        follows = start_follows node start start_core;
        links = λ was joins t core had. start_had was t had;
        hellos = λ w b t named.
            let frame : Frame = record { from = w; to = b; body = hello_body named.fields } in
            inl (record {
              fields = named.fields;
              way = record {
                number = named.way.number;
                among =
                    rw step.sent.after (among_left named.way.number frame s.frames (numbered_from s.next done.sent) named.way.among);
              };
              named = named.named;
            });
      }

-- a new name starts to join: nothing was answered for it, and it has not been core
module _ (p : SettingsValue) (s : System) (x via : List ℕ) (fresh : s.node x ≡ None) (r : WatchMemory) (held : AnswersAreHeld p s r) where
  abbrev anew : System
  anew = after_start p s x (Join via)

  stays : (y : List ℕ) (node : NodeState) → s.node y ≡ Some node → anew.node y ≡ Some node
  stays y node at =
      let step = starts p s x (Join via) _ refl in
      elim (step.done.others y) [
        | inl here ↦ let wrong : ◌≡◌ {A = Option NodeState} None (Some node) = sym fresh ∙ ap s.node (sym here) ∙ at in absurd (cc)
        | inr other ↦ other ∙ at
      ]

  pub join_held : AnswersAreHeld p anew r
  join_held =
      let step = starts p s x (Join via) _ refl in
      record {
        known = λ answer among.
            let known = held.known answer among in
            record { state = known.state; is = stays answer.joiner known.state known.is };
        core = λ answer among.
            let core = held.core answer among in
            record { state = core.state; is = stays answer.named core.state core.is; core = core.core };
        held = λ answer among node at joins.
            let known = held.known answer among in
            let there = stays answer.joiner known.state known.is in
            let both : Some known.state ≡ Some node = sym there ∙ at in
            let same : known.state ≡ node = cc in
            let before : s.node answer.joiner ≡ Some node = known.is ∙ ap Some same in
            elim (held.held answer among node before joins) [
              | inl had ↦ inl had
              | inr hello ↦
                  let named = hello.1 in
                  let frame : Frame = record { from = hello.0; to = answer.joiner; body = hello_body named.fields } in
                  inr (
                    hello.0,
                    record {
                      fields = named.fields;
                      way = record {
                        number = named.way.number;
                        among =
                            rw step.sent.after (among_left named.way.number frame s.frames (numbered_from s.next _) named.way.among);
                      };
                      named = named.named;
                    },
                  )
            ];
      }
