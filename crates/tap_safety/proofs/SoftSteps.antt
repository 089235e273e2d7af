-- Who is named stays core or soft by a Tell at a core node, a Seek at the surrogate, a Done, and starts.
-- Cited above: links_sound, softs_same, start_ways
use Rattle.std.proofs.Common.{◌≡◌, inl, inr, ℕ, List, ◌⊎◌, None, Some, sym, ap, ◌∙◌}
use Rattle.tap_name.specs.declared.slot.Slot.{Slot}
use Rattle.tap_link.specs.declared.kind.Kind.{Kind}
use Rattle.tap_link.specs.declared.kind.Kind.TheVariants.{Pin}
use Rattle.tap_wire.specs.declared.frame.Body.{Body}
use Rattle.tap_wire.specs.declared.frame.Body.TheVariants.{Done}
use Rattle.tap_wire.specs.declared.frame.Frame.{Frame}
use Rattle.tap_wire.specs.declared.frame.TellFields.{TellFields}
use Rattle.tap_rule.specs.Node.{NodeState, link_to}
use Rattle.tap_rule.specs.Node.Status.{Joining, Ceased as CeasedStatus}
use Rattle.tap_safety.specs.Frames.{tell_body}
use Rattle.tap_safety.specs.System.{System, HasLink, IsJoiner, IsUnderWay}
use Rattle.tap_safety.specs.Exchanges.{ChangesAt, HasSent, IsSent, numbered_from}
use Rattle.tap_safety.specs.Soft.{AreSound, IsSoft, IsSoundBody, IsSoundLink, NamesSoft, SendsSound}
use Rattle.tap_safety.specs.DoneStep.{TakesDone}
use Rattle.tap_safety.specs.TellStep.{TakesKnownTell, TakesTell}
use Rattle.tap_safety.specs.FrameSteps.{StartsJoin, StartsPlainly}
use Rattle.tap_safety.proofs.DoneKept.{core_on}
use Rattle.tap_safety.proofs.SoftKept.{sent_sound, soft_kept}
use Rattle.tap_safety.proofs.StartKeeps.{join_cores, node_was, old_node}
use Rattle.tap_safety.proofs.TellKeeps.{core_kept, joiner_after, node_after, node_before}
use Rattle.tap_safety.proofs.UnderWay.{among_either, among_sent, was_under_way}

-- soft nodes stay if statuses and surrogates do
pub softs_same : (s s' : System) (x : List ℕ) (before after : NodeState) → ChangesAt s s' x before after → after.status ≡ before.status
    → ((b : List ℕ) → s'.surrogate b ≡ s.surrogate b) → (y : List ℕ) → IsSoft s y → IsSoft s' y
softs_same s s' x before after at status surrogate y (inr (inl core)) = inr (inl (core_kept s s' x before after at status y core))
softs_same s s' x before after at status surrogate y (inl joiner) =
    inl (joiner_after s s' x before after at status y (surrogate y) joiner)
softs_same s s' x before after at status surrogate y (inr (inr ceased)) =
    inr (inr (elim (node_after s s' x before after at y ceased.state ceased.is) [
      | inl here ↦
          let same = here.1 in let was = ceased.ceased in record { state = after; is = here.2; ceased = cc }
      | inr there ↦ record { state = ceased.state; is = there; ceased = ceased.ceased }
    ]))

-- a link after the step was there, or is new and sound
pub links_sound : (s s' : System) (x : List ℕ) (before after : NodeState) → ChangesAt s s' x before after
    → ((t : List ℕ) (kind : Kind) → link_to after t ≡ Some kind → (link_to before t ≡ Some kind) ⊎ IsSoundLink s' t kind)
    → (y t : List ℕ) (kind : Kind) → HasLink s' y t kind → HasLink s y t kind ⊎ IsSoundLink s' t kind
links_sound s s' x before after at new y t kind link =
    elim (node_before s s' x before after at y link.state link.is) [
      | inr there ↦ inl (record { state = link.state; is = there; link = link.link })
      | inl here ↦
          let now : link_to after t ≡ Some kind = rw (← here.1) link.link in
          elim (new t kind now) [
            | inl old ↦ inl (record { state = before; is = here.2; link = old })
            | inr is ↦ inr is
          ]
    ]

-- a Tell that a core node takes anew: it pins its joiner
pub tell_soft : (s s' : System) (number : ℕ) (w x : List ℕ) (tell : TellFields) (watch : List Slot)
    → (step : TakesTell s s' number w x tell watch) → IsJoiner s tell.joiner → SendsSound s' step.sent → NamesSoft s → NamesSoft s'
tell_soft s s' number w x tell watch step joiner sound soft =
    soft_kept s s' (core_kept s s' x step.before step.after step.at step.covers.status) softs
    (links_sound s s' x step.before step.after step.at new) ways soft
  where
    softs : (y : List ℕ) → IsSoft s y → IsSoft s' y
    softs = softs_same s s' x step.before step.after step.at step.covers.status step.surrogate

    new : (t : List ℕ) (kind : Kind) → link_to step.after t ≡ Some kind → (link_to step.before t ≡ Some kind) ⊎ IsSoundLink s' t kind
    new t kind now =
        elim (step.covers.links t) [
          | inr same ↦ inl (sym same ∙ now)
          | inl is ↦
              let pin : link_to step.after t ≡ Some Pin = ap (λ v. link_to step.after v) is ∙ step.covers.pinned in
              let kind_is : kind ≡ Pin = cc in
              inr (rw (kind_is, is) (softs tell.joiner (inl joiner)))
        ]

    ways : (from to : List ℕ) (body : Body) → IsUnderWay s' from to body → IsUnderWay s from to body ⊎ IsSoundBody s' from to body
    ways from to body way =
        elim (was_under_way s s' number (record { from = w; to = x; body = tell_body tell watch }) step.sent step.taken from to body way) [
          | inl old ↦ inl old
          | inr sends ↦ inr (sound from to body sends)
        ]

pub known_soft : (s s' : System) (number : ℕ) (w x : List ℕ) (tell : TellFields) (watch : List Slot)
    → (step : TakesKnownTell s s' number w x tell watch) → SendsSound s' step.sent → NamesSoft s → NamesSoft s'
known_soft s s' number w x tell watch step sound soft =
    soft_kept s s' (core_kept s s' x step.before step.after step.at step.status)
    (softs_same s s' x step.before step.after step.at step.status step.surrogate)
    (links_sound s s' x step.before step.after step.at (λ t kind now. inl (sym (step.links t) ∙ now))) ways soft
  where
    ways : (from to : List ℕ) (body : Body) → IsUnderWay s' from to body → IsUnderWay s from to body ⊎ IsSoundBody s' from to body
    ways from to body way =
        elim (was_under_way s s' number (record { from = w; to = x; body = tell_body tell watch }) step.sent step.taken from to body way) [
          | inl old ↦ inl old
          | inr sends ↦ inr (sound from to body sends)
        ]

-- a Done: soft nodes stay so, since the joiner is core now
pub done_softs : (s s' : System) (number : ℕ) (w e : List ℕ) → TakesDone s s' number w e → (y : List ℕ) → IsSoft s y → IsSoft s' y
done_softs s s' number w e step y (inr (inl core)) = inr (inl (core_on s s' number w e step y core))
done_softs s s' number w e step y (inl joiner) =
    elim (node_after s s' e step.before step.after step.at y joiner.state joiner.is) [
      | inl here ↦ inr (inl (record { state = step.after; is = here.2; core = inl step.is }))
      | inr there ↦
          inl (record {
            state = joiner.state;
            is = there;
            joining = joiner.joining;
            surrogate = joiner.surrogate;
            started = step.surrogate y ∙ joiner.started;
          })
    ]
done_softs s s' number w e step y (inr (inr ceased)) =
    elim (node_after s s' e step.before step.after step.at y ceased.state ceased.is) [
      | inl here ↦
          let was = step.was in
          let at : ceased.state.status ≡ step.before.status = ap (λ n. n.status) here.1 in
          let no : CeasedStatus ≡ Joining = sym ceased.ceased ∙ at ∙ was in
          cc
      | inr there ↦ inr (inr (record { state = ceased.state; is = there; ceased = ceased.ceased }))
    ]

pub done_soft : (s s' : System) (number : ℕ) (w e : List ℕ) (step : TakesDone s s' number w e) → SendsSound s' step.sent → NamesSoft s
    → NamesSoft s'
done_soft s s' number w e step sound soft =
    soft_kept s s' (core_on s s' number w e step) (done_softs s s' number w e step)
    (links_sound s s' e step.before step.after step.at (λ t kind now. inl (sym (step.links t) ∙ now))) ways soft
  where
    ways : (from to : List ℕ) (body : Body) → IsUnderWay s' from to body → IsUnderWay s from to body ⊎ IsSoundBody s' from to body
    ways from to body way =
        elim (was_under_way s s' number (record { from = w; to = e; body = Done }) step.sent step.taken from to body way) [
          | inl old ↦ inl old
          | inr sends ↦ inr (sound from to body sends)
        ]

-- what comes after a start is sent
pub start_ways : (s s' : System) (sent : List Frame) → HasSent s s' sent → (from to : List ℕ) (body : Body) → IsUnderWay s' from to body
    → IsUnderWay s from to body ⊎ IsSent sent from to body
start_ways s s' sent has from to body way =
    let frame : Frame = record { from = from; to = to; body = body } in
    elim (among_either way.number frame s.frames (numbered_from s.next sent) (rw has.after at way.among)) [
      | inl old ↦ inl (record { number = way.number; among = old })
      | inr new ↦ inr (among_sent s.next sent way.number frame new)
    ]

pub start_soft : (s s' : System) (x : List ℕ) (start : StartsPlainly s s' x) → AreSound s' x start.messages → NamesSoft s → NamesSoft s'
start_soft s s' x start sound soft =
    soft_kept s s' (core_kept s s' x start.before start.after start.at start.stays.status)
    (softs_same s s' x start.before start.after start.at start.stays.status start.surrogate)
    (links_sound s s' x start.before start.after start.at (λ t kind now. inl (sym (start.links t) ∙ now))) ways soft
  where
    ways : (from to : List ℕ) (body : Body) → IsUnderWay s' from to body → IsUnderWay s from to body ⊎ IsSoundBody s' from to body
    ways from to body way =
        elim (start_ways s s' start.sent start.has_sent from to body way) [
          | inl old ↦ inl old
          | inr sends ↦ inr (sent_sound s' x start.words start.messages start.sent start.are sound from to body sends)
        ]

pub join_soft : (s s' : System) (x : List ℕ) (start : StartsJoin s s' x) → AreSound s' x start.messages → NamesSoft s → NamesSoft s'
join_soft s s' x start sound soft = soft_kept s s' (join_cores s s' x start) softs links ways soft
  where
    softs : (y : List ℕ) → IsSoft s y → IsSoft s' y
    softs y (inl joiner) = inl (record {
      state = joiner.state;
      is = old_node s s' x start y joiner.state joiner.is;
      joining = joiner.joining;
      surrogate = joiner.surrogate;
      started = start.surrogate y ∙ joiner.started;
    })
    softs y (inr (inl core)) = inr (inl (join_cores s s' x start y core))
    softs y (inr (inr ceased)) =
        inr (inr (record { state = ceased.state; is = old_node s s' x start y ceased.state ceased.is; ceased = ceased.ceased }))

    links : (y t : List ℕ) (kind : Kind) → HasLink s' y t kind → HasLink s y t kind ⊎ IsSoundLink s' t kind
    links y t kind link =
        elim (node_was s s' x start y link.state link.is) [
          | inr there ↦ inl (record { state = link.state; is = there; link = link.link })
          | inl new ↦
              let none : link_to link.state t ≡ None = rw new.1 (start.links t) in
              let no : None ≡ Some kind = sym none ∙ link.link in
              cc
        ]

    ways : (from to : List ℕ) (body : Body) → IsUnderWay s' from to body → IsUnderWay s from to body ⊎ IsSoundBody s' from to body
    ways from to body way =
        elim (start_ways s s' start.sent start.has_sent from to body way) [
          | inl old ↦ inl old
          | inr sends ↦ inr (sent_sound s' x start.words start.messages start.sent start.are sound from to body sends)
        ]
