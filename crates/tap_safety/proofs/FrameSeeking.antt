-- Seekers and Tells after a frame whose taker stays what it is, and sends nobody on.
-- Cited above: frame_joiners, node_stays, seeker_back, seeker_stays
use Rattle.std.proofs.Common.{◌≡◌, inl, inr, ℕ, List, ◌⊎◌, Some, sym, ap, ◌∙◌}
use Rattle.tap_name.specs.Settings.{SettingsValue}
use Rattle.tap_link.specs.declared.kind.Kind.{Kind}
use Rattle.tap_link.specs.declared.kind.Kind.TheVariants.{Pin, Settled, Leaving as LeavingKind}
use Rattle.tap_wire.specs.declared.frame.Body.{Body}
use Rattle.tap_wire.specs.declared.frame.Body.TheVariants.{Seek}
use Rattle.tap_wire.specs.declared.frame.Frame.{Frame}
use Rattle.tap_rule.specs.Node.{NodeState, link_to}
use Rattle.tap_safety.specs.Frames.{hello_body, tell_body}
use Rattle.tap_safety.specs.System.{System, IsJoiner, IsTold, IsUnderWay}
use Rattle.tap_safety.specs.Regions.{Has}
use Rattle.tap_safety.specs.Exchanges.{ChangesAt, numbered_from}
use Rattle.tap_safety.specs.Seeking.{HasNode, IsSeeker}
use Rattle.tap_safety.specs.Soft.{AreQuiet, IsQuietBody, IsSoft, IsSoundLink}
use Rattle.tap_safety.specs.SeekerSteps.{AmongSeeks, LeavesSeekers, LeavesTells}
use Rattle.tap_safety.specs.FrameSteps.{TakesFrame}
use Rattle.tap_safety.specs.Joins.{JoinersStay}
use Rattle.tap_safety.proofs.FrameKeeps.{covers_on, frame_adds_none, frame_cores}
use Rattle.tap_safety.proofs.SoftKept.{frame_softs, sent_each}
use Rattle.tap_safety.proofs.TellKeeps.{covers_same, joiner_after, node_after, node_before}
use Rattle.tap_safety.proofs.UnderWay.{among_out, among_sent, among_was, told_by, was_under_way}

-- a link of a kind that is sound is to a soft node
pub sound_soft : (s : System) (t : List ℕ) (kind : Kind) → IsSoundLink s t kind → IsSoft s t
sound_soft s t Pin sound = sound
sound_soft s t Settled sound = inr (inl sound)
sound_soft s t LeavingKind sound = absurd sound

-- what a step at one node leaves of the nodes; and of a joining node that isn't started, if statuses stay, and its surrogate
module _ (s s' : System) (x : List ℕ) (before after : NodeState) (at : ChangesAt s s' x before after) where
  pub node_stays : (y : List ℕ) → HasNode s y → HasNode s' y
  node_stays y node =
      elim (node_after s s' x before after at y node.state node.is) [
        | inl here ↦ record { state = after; is = here.2 }
        | inr there ↦ record { state = node.state; is = there }
      ]

  module _ (status : after.status ≡ before.status) (y : List ℕ) (surrogate : s'.surrogate y ≡ s.surrogate y) where
    pub seeker_stays : IsSeeker s y → IsSeeker s' y
    seeker_stays seeker =
        let waits = surrogate ∙ seeker.waits in
        elim (node_after s s' x before after at y seeker.state seeker.is) [
          | inl here ↦
              let same = here.1 in
              let joining = seeker.joining in
              record { state = after; is = here.2; joining = cc; waits = waits }
          | inr there ↦ record { state = seeker.state; is = there; joining = seeker.joining; waits = waits }
        ]

    pub seeker_back : IsSeeker s' y → IsSeeker s y
    seeker_back seeker =
        let waits = sym surrogate ∙ seeker.waits in
        elim (node_before s s' x before after at y seeker.state seeker.is) [
          | inl here ↦
              let same = here.1 in
              let joining = seeker.joining in
              record { state = before; is = here.2; joining = cc; waits = waits }
          | inr there ↦ record { state = seeker.state; is = there; joining = seeker.joining; waits = waits }
        ]

module _ (s s' : System) (number : ℕ) (frame : Frame) (step : TakesFrame s s' number frame) where
  -- joiners are as before
  pub frame_joiners : (b : List ℕ) → IsJoiner s b → IsJoiner s' b
  frame_joiners b = joiner_after s s' frame.to step.before step.after step.at step.stays.status b (step.surrogate b)

  pub frame_joiners_stay : JoinersStay s s'
  frame_joiners_stay = record {
    on = frame_joiners;
    was = (frame_adds_none s s' number frame step).joiners;
    surrogates = λ b joiner. step.surrogate b;
  }

  -- so are seekers
  pub seeker_on : (x : List ℕ) → IsSeeker s x → IsSeeker s' x
  seeker_on x = seeker_stays s s' frame.to step.before step.after step.at step.stays.status x (step.surrogate x)

  pub seeker_was : (x : List ℕ) → IsSeeker s' x → IsSeeker s x
  seeker_was x = seeker_back s s' frame.to step.before step.after step.at step.stays.status x (step.surrogate x)

  pub node_on : (y : List ℕ) → HasNode s y → HasNode s' y
  node_on = node_stays s s' frame.to step.before step.after step.at

  module _ (quiet : AreQuiet s' frame.to step.messages) where
    -- what comes is quiet
    quiet_way : (from to : List ℕ) (body : Body) → IsUnderWay s' from to body → IsUnderWay s from to body ⊎ IsQuietBody s' from to body
    quiet_way from to body way =
        elim (was_under_way s s' number frame step.sent step.taken from to body way) [
          | inl old ↦ inl old
          | inr sends ↦
              inr (sent_each frame.to step.words step.messages step.sent step.are (λ from to body. IsQuietBody s' from to body)
              (λ to version on. tt) (λ to object server level version on. tt) quiet from to body sends)
        ]

    pub frame_leaves_tells : (p : SettingsValue) → LeavesTells p s s'
    frame_leaves_tells p = record {
      cores = frame_cores s s' number frame step;
      softs = frame_softs s s' number frame step;
      covers = λ y b level core joiner covers.
          (level, covers_on s s' frame.to step.before step.after step.at step.stays.covers y b level covers);
      joiners = frame_joiners;
      surrogates = λ b joiner. step.surrogate b;
      ways = λ from to fields watch way.
          elim (quiet_way from to (tell_body fields watch) way) [ inl old ↦ inl old | inr wrong ↦ absurd wrong ];
    }

    told_was : (b t : List ℕ) (level : ℕ) → IsTold s' b t level → IsTold s b t level ⊎ (IsSoft s' b × IsSoft s' t)
    told_was b t level told =
        elim (quiet_way told.from t (tell_body told.fields told.watch) told.way) [
          | inl old ↦ inl (told_by s' s b t level told old)
          | inr wrong ↦ absurd wrong
        ]

    -- a Seek that is under way was, at its number
    seek_was : (x from to : List ℕ) (m : ℕ) → AmongSeeks s' x from to m → AmongSeeks s x from to m
    seek_was x from to m among =
        let seek : Frame = record { from = from; to = to; body = Seek x } in
        elim (among_was m number seek frame step.taken.front step.taken.back (numbered_from s.next step.sent)
        (rw step.taken.after at among)) [
          | inl old ↦ rw step.taken.before old
          | inr new ↦
              absurd (sent_each frame.to step.words step.messages step.sent step.are (λ from to body. IsQuietBody s' from to body)
              (λ to version on. tt) (λ to object server level version on. tt) quiet from to (Seek x)
              (among_sent s.next step.sent m seek new))
        ]

    -- and stays, if none is taken
    seek_on : ((x : List ℕ) → frame.body ≡ Seek x → ⊥) → (x from to : List ℕ) (m : ℕ) → AmongSeeks s x from to m
        → AmongSeeks s' x from to m
    seek_on apart x from to m among =
        let seek : Frame = record { from = from; to = to; body = Seek x } in
        elim (among_out m number seek frame step.taken.front step.taken.back (numbered_from s.next step.sent)
        (rw step.taken.before at among)) [
          | inl still ↦ rw step.taken.after still
          | inr is ↦ absurd (apart x (sym (ap (λ f. f.body) is.1)))
        ]

    pub frame_leaves_seekers : ((x : List ℕ) → frame.body ≡ Seek x → ⊥)
        → ((t : List ℕ) (kind : Kind) → link_to step.after t ≡ Some kind → (link_to step.before t ≡ Some kind) ⊎ IsSoundLink s' t kind)
        → LeavesSeekers s s'
    frame_leaves_seekers apart new = record {
      was = seeker_was;
      cores = frame_cores s s' number frame step;
      nodes = node_on;
      links = links;
      told = told_was;
      hellos = λ w b hello way.
          elim (quiet_way w b (hello_body hello) way) [
            | inl old ↦ inl old
            | inr ends ↦ inr (record { from = ends.0; to = ends.1; offers = ends.2 })
          ];
      covers = λ y b level covers. inl (covers_same s s' frame.to step.before step.after step.at step.stays.covers y b level covers);
      idle = λ x d level seeker covers. covers_same s s' frame.to step.before step.after step.at step.stays.covers x d level covers;
      seeks_on = λ x from to m seeker among. seek_on apart x from to m among;
      seeks_was = seek_was;
      still = λ x from to m among seeker. seeker_on x seeker;
    }
      where
        links : (y z : List ℕ) → Has s' y z → Has s y z ⊎ IsSoft s' z
        links y z has =
            elim (node_before s s' frame.to step.before step.after step.at y has.link.state has.link.is) [
              | inr there ↦
                  inl (record { kind = has.kind; link = record { state = has.link.state; is = there; link = has.link.link } })
              | inl here ↦
                  let now : link_to step.after z ≡ Some has.kind = rw (← here.1) has.link.link in
                  elim (new z has.kind now) [
                    | inl old ↦ inl (record { kind = has.kind; link = record { state = step.before; is = here.2; link = old } })
                    | inr sound ↦ inr (sound_soft s' z has.kind sound)
                  ]
            ]
