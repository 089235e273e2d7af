-- Seekers stay unknown, and Tells sound, when a core node covers a joiner, and when a joiner becomes core.
-- Cited above: cover_leaves_seekers, cover_leaves_tells, joiners_same
use Rattle.std.proofs.Common.{◌≡◌, inl, inr, ℕ, List, [], ◌⊎◌, Some, refl, sym, ap, ◌∙◌}
use Rattle.std.specs.Option.{unwrap_or}
use Rattle.tap_name.specs.Prefix.{lcp}
use Rattle.tap_name.specs.Settings.{SettingsValue}
use Rattle.tap_name.specs.declared.slot.Slot.{Slot}
use Rattle.tap_rule.specs.Node.{NodeState, level_kept, link_to}
use Rattle.tap_wire.specs.declared.frame.Body.{Body}
use Rattle.tap_wire.specs.declared.frame.Body.TheVariants.{Done, Seek}
use Rattle.tap_wire.specs.declared.frame.Frame.{Frame}
use Rattle.tap_wire.specs.declared.frame.TellFields.{TellFields}
use Rattle.tap_safety.specs.Frames.{HelloFields, hello_body, tell_body}
use Rattle.tap_safety.specs.System.{System, CoversAt, IsCoreNode, IsJoiner, IsTold, IsUnderWay}
use Rattle.tap_safety.specs.Regions.{Has, prefix_of}
use Rattle.tap_safety.specs.Exchanges.{AreNumbered, ChangesAt, IsTaken, numbered_from}
use Rattle.tap_safety.specs.Seeking.{IsSeeker, Seeking}
use Rattle.tap_safety.specs.Soft.{IsSoft}
use Rattle.tap_safety.specs.Tells.{IsSoundTell, TellsAreSound}
use Rattle.tap_safety.specs.SeekerSteps.{AmongSeeks, AreSoftEnds, IsCoverBody, LeavesSeekers, LeavesTells, SendsCovers}
use Rattle.tap_safety.specs.TellStep.{TakesKnownTell, TakesTell}
use Rattle.tap_safety.specs.SeekStep.{SeatsJoiner}
use Rattle.tap_safety.specs.DoneStep.{NothingOnWay, TakesDone}
use Rattle.tap_safety.specs.SessionSteps.{Exchanges}
use Rattle.tap_safety.proofs.DoneKept.{core_on, now_core}
use Rattle.tap_safety.proofs.Exchanged.{exchanged}
use Rattle.tap_safety.proofs.FrameKeeps.{core_not, covers_on}
use Rattle.tap_safety.proofs.FrameSeeking.{node_stays, seeker_back, seeker_stays}
use Rattle.tap_safety.proofs.SeatSoft.{joiner_is_new, seat_softs}
use Rattle.tap_safety.proofs.SeekingKept.{seeker_not_soft}
use Rattle.tap_safety.proofs.SoftSteps.{done_softs, softs_same}
use Rattle.tap_safety.proofs.TellKeeps.{core_kept, covers_same, node_after, node_before}
use Rattle.tap_safety.proofs.UnderWay.{among_out, among_sent, among_was, told_by, was_under_way}

-- ---- what comes

module _ (p : SettingsValue) (s s' : System) (number : ℕ) (frame : Frame) (sent : List Frame)
    (taken : IsTaken s s' number frame sent) (sends : SendsCovers p s' sent) where
  cover_way : (from to : List ℕ) (body : Body) → IsUnderWay s' from to body → IsUnderWay s from to body ⊎ IsCoverBody p s' from to body
  cover_way from to body way =
      elim (was_under_way s s' number frame sent taken from to body way) [
        | inl old ↦ inl old
        | inr comes ↦ inr (sends from to body comes)
      ]

  cover_told : (b t : List ℕ) (level : ℕ) → IsTold s' b t level → IsTold s b t level ⊎ (IsSoft s' b × IsSoft s' t)
  cover_told b t level told =
      elim (cover_way told.from t (tell_body told.fields told.watch) told.way) [
        | inl old ↦ inl (told_by s' s b t level told old)
        | inr sound ↦ let soft : IsSoft s' told.fields.joiner = inl sound.joiner in inr (rw told.joiner at soft, sound.soft)
      ]

  cover_hellos : (w b : List ℕ) (hello : HelloFields) → IsUnderWay s' w b (hello_body hello)
      → IsUnderWay s w b (hello_body hello) ⊎ AreSoftEnds s' w b hello
  cover_hellos w b hello way =
      elim (cover_way w b (hello_body hello) way) [
        | inl old ↦ inl old
        | inr ends ↦ inr (record { from = ends.0; to = ends.1; offers = ends.2 })
      ]

  -- a Seek that is under way was, at its number; and one that isn't taken stays
  cover_seek_was : (y from to : List ℕ) (m : ℕ) → AmongSeeks s' y from to m → AmongSeeks s y from to m
  cover_seek_was y from to m among =
      let seek : Frame = record { from = from; to = to; body = Seek y } in
      elim (among_was m number seek frame taken.front taken.back (numbered_from s.next sent) (rw taken.after at among)) [
        | inl old ↦ rw taken.before old
        | inr new ↦ absurd (sends from to (Seek y) (among_sent s.next sent m seek new))
      ]

  cover_seek_on : (y from to : List ℕ) (m : ℕ) → (frame.body ≡ Seek y → ⊥) → AmongSeeks s y from to m → AmongSeeks s' y from to m
  cover_seek_on y from to m apart among =
      let seek : Frame = record { from = from; to = to; body = Seek y } in
      elim (among_out m number seek frame taken.front taken.back (numbered_from s.next sent) (rw taken.before at among)) [
        | inl still ↦ rw taken.after still
        | inr is ↦ absurd (apart (sym (ap (λ f. f.body) is.1)))
      ]

-- ---- what the links and covers are, if those of b alone change

module _ (s s' : System) (x : List ℕ) (before after : NodeState) (at : ChangesAt s s' x before after) (b : List ℕ) where
  link_or : ((t : List ℕ) → (t ≡ b) ⊎ (link_to after t ≡ link_to before t)) → (y z : List ℕ) → Has s' y z → Has s y z ⊎ (z ≡ b)
  link_or links y z has =
      elim (node_before s s' x before after at y has.link.state has.link.is) [
        | inr there ↦ inl (record { kind = has.kind; link = record { state = has.link.state; is = there; link = has.link.link } })
        | inl here ↦
            let now : link_to after z ≡ Some has.kind = rw (← here.1) has.link.link in
            elim (links z) [
              | inl is ↦ inr is
              | inr same ↦ inl (record { kind = has.kind; link = record { state = before; is = here.2; link = sym same ∙ now } })
            ]
      ]

  cover_or : ((d : List ℕ) → (d ≡ b) ⊎ (level_kept after.covers d ≡ level_kept before.covers d)) → (y d : List ℕ) (level : ℕ)
      → CoversAt s' y d level → CoversAt s y d level ⊎ ((y ≡ x) × (d ≡ b))
  cover_or covers y d level cover =
      elim (node_before s s' x before after at y cover.state cover.is) [
        | inr there ↦ inl (record { state = cover.state; is = there; cover = cover.cover })
        | inl here ↦
            let now : level_kept after.covers d ≡ Some level = rw (← here.1) cover.cover in
            elim (covers d) [
              | inl is ↦ inr (here.0, is)
              | inr same ↦ inl (record { state = before; is = here.2; cover = sym same ∙ now })
            ]
      ]

  -- each cover stays one, if b is covered afterwards
  cover_still : ((d : List ℕ) → (d ≡ b) ⊎ (level_kept after.covers d ≡ level_kept before.covers d)) → (c : ℕ)
      → level_kept after.covers b ≡ Some c → (y d : List ℕ) (level : ℕ) → CoversAt s y d level → (now : ℕ) × CoversAt s' y d now
  cover_still covers c covered y d level cover =
      elim (node_after s s' x before after at y cover.state cover.is) [
        | inr there ↦ (level, record { state = cover.state; is = there; cover = cover.cover })
        | inl here ↦
            elim (covers d) [
              | inl is ↦
                  let mine : level_kept after.covers d ≡ Some c = ap (λ v. level_kept after.covers v) is ∙ covered in
                  (c, record { state = after; is = here.2; cover = mine })
              | inr same ↦
                  let old : level_kept before.covers d ≡ Some level = rw (← here.1) cover.cover in
                  (level, record { state = after; is = here.2; cover = same ∙ old })
            ]
      ]

-- ---- a core node covers a joiner

module _ (p : SettingsValue) (s s' : System) (number : ℕ) (frame : Frame) (sent : List Frame)
    (taken : IsTaken s s' number frame sent) (sends : SendsCovers p s' sent) (x : List ℕ) (before after : NodeState)
    (at : ChangesAt s s' x before after) (status : after.status ≡ before.status) (b : List ℕ) (soft : IsSoft s' b)
    (surrogates : (d : List ℕ) → (d ≡ b) ⊎ (s'.surrogate d ≡ s.surrogate d))
    (covers : (d : List ℕ) → (d ≡ b) ⊎ (level_kept after.covers d ≡ level_kept before.covers d)) where
  seeker_was : (y : List ℕ) → IsSeeker s' y → IsSeeker s y
  seeker_was y seeker =
      elim (surrogates y) [
        | inl is ↦ absurd (seeker_not_soft s' y seeker (rw is soft))
        | inr same ↦ seeker_back s s' x before after at status y same seeker
      ]

  pub cover_leaves_seekers : IsCoreNode s x → ((t : List ℕ) → (t ≡ b) ⊎ (link_to after t ≡ link_to before t))
      → ((y : List ℕ) → IsSeeker s' y → frame.body ≡ Seek y → ⊥)
      → ((from to : List ℕ) (m : ℕ) → AmongSeeks s' b from to m → IsSeeker s b → ⊥) → LeavesSeekers s s'
  cover_leaves_seekers core links apart gone = record {
    was = seeker_was;
    cores = core_kept s s' x before after at status;
    nodes = node_stays s s' x before after at;
    links = λ y z has. elim (link_or s s' x before after at b links y z has) [ inl old ↦ inl old | inr is ↦ inr (rw is soft) ];
    told = cover_told p s s' number frame sent taken sends;
    hellos = cover_hellos p s s' number frame sent taken sends;
    covers = λ y d level cover.
        elim (cover_or s s' x before after at b covers y d level cover) [ inl old ↦ inl old | inr is ↦ inr (rw is.1 soft) ];
    idle = λ y d level seeker cover.
        elim (cover_or s s' x before after at b covers y d level cover) [
          | inl old ↦ old
          | inr is ↦
              let was = seeker_was y seeker in
              absurd (core_not s y was.state was.is (inl was.joining) (rw is.0 core))
        ];
    seeks_on = λ y from to m seeker among. cover_seek_on p s s' number frame sent taken sends y from to m (apart y seeker) among;
    seeks_was = cover_seek_was p s s' number frame sent taken sends;
    still = λ y from to m among seeker.
        elim (surrogates y) [
          | inl is ↦ absurd (gone from to m (rw is at among) (rw is at seeker))
          | inr same ↦ seeker_stays s s' x before after at status y same seeker
        ];
  }

  pub cover_leaves_tells : ((y : List ℕ) → IsSoft s y → IsSoft s' y) → ((d : List ℕ) → IsJoiner s d → IsJoiner s' d)
      → ((d : List ℕ) → IsJoiner s d → s'.surrogate d ≡ s.surrogate d) → (c : ℕ) → level_kept after.covers b ≡ Some c
      → LeavesTells p s s'
  cover_leaves_tells softs joiners same c covered = record {
    cores = core_kept s s' x before after at status;
    softs = softs;
    covers = λ y d level core joiner cover. cover_still s s' x before after at b covers c covered y d level cover;
    joiners = joiners;
    surrogates = same;
    ways = λ from to fields watch way. cover_way p s s' number frame sent taken sends from to (tell_body fields watch) way;
  }

-- ---- a Tell

-- a joiner stays one, if statuses and surrogates do
pub joiners_same : (s s' : System) (x : List ℕ) (before after : NodeState) → ChangesAt s s' x before after → after.status ≡ before.status
    → ((b : List ℕ) → s'.surrogate b ≡ s.surrogate b) → (d : List ℕ) → IsJoiner s d → IsJoiner s' d
joiners_same s s' x before after at status surrogate d joiner =
    let started = surrogate d ∙ joiner.started in
    elim (node_after s s' x before after at d joiner.state joiner.is) [
      | inl here ↦
          let same = here.1 in
          let joining = joiner.joining in
          record { state = after; is = here.2; joining = cc; surrogate = joiner.surrogate; started = started }
      | inr there ↦
          record { state = joiner.state; is = there; joining = joiner.joining; surrogate = joiner.surrogate; started = started }
    ]

module _ (p : SettingsValue) (s s' : System) (number : ℕ) (w x : List ℕ) (tell : TellFields) (watch : List Slot)
    (joiner : IsJoiner s tell.joiner) where
  not_seek : (y : List ℕ) → tell_body tell watch ≡ Seek y → ⊥
  not_seek y is = let wrong : tell_body tell watch ≡ Seek y = is in cc

  module _ (step : TakesTell s s' number w x tell watch) (sends : SendsCovers p s' step.sent) where
    abbrev tell_frame : Frame
    tell_frame = record { from = w; to = x; body = tell_body tell watch }

    soft_there : IsSoft s' tell.joiner
    soft_there = softs_same s s' x step.before step.after step.at step.covers.status step.surrogate tell.joiner (inl joiner)

    pub tell_leaves_seekers : IsCoreNode s x → LeavesSeekers s s'
    tell_leaves_seekers core =
        cover_leaves_seekers p s s' number tell_frame step.sent step.taken sends x step.before step.after step.at step.covers.status
        tell.joiner soft_there (λ d. inr (step.surrogate d)) step.covers.covers core step.covers.links (λ y seeker. not_seek y)
        (λ from to m among seeker. seeker_not_soft s tell.joiner seeker (inl joiner))

    pub tell_leaves_tells : LeavesTells p s s'
    tell_leaves_tells =
        cover_leaves_tells p s s' number tell_frame step.sent step.taken sends x step.before step.after step.at step.covers.status
        tell.joiner soft_there (λ d. inr (step.surrogate d)) step.covers.covers
        (softs_same s s' x step.before step.after step.at step.covers.status step.surrogate)
        (joiners_same s s' x step.before step.after step.at step.covers.status step.surrogate) (λ d is. step.surrogate d)
        tell.level step.covers.covered

  module _ (step : TakesKnownTell s s' number w x tell watch) (sends : SendsCovers p s' step.sent) where
    abbrev known_frame : Frame
    known_frame = record { from = w; to = x; body = tell_body tell watch }

    known_soft : IsSoft s' tell.joiner
    known_soft = softs_same s s' x step.before step.after step.at step.status step.surrogate tell.joiner (inl joiner)

    pub known_leaves_seekers : IsCoreNode s x → LeavesSeekers s s'
    known_leaves_seekers core =
        cover_leaves_seekers p s s' number known_frame step.sent step.taken sends x step.before step.after step.at step.status
        tell.joiner known_soft (λ d. inr (step.surrogate d)) (λ d. inr (step.covers d)) core (λ t. inr (step.links t))
        (λ y seeker. not_seek y) (λ from to m among seeker. seeker_not_soft s tell.joiner seeker (inl joiner))

    pub known_leaves_tells : LeavesTells p s s'
    known_leaves_tells =
        cover_leaves_tells p s s' number known_frame step.sent step.taken sends x step.before step.after step.at step.status
        tell.joiner known_soft (λ d. inr (step.surrogate d)) (λ d. inr (step.covers d))
        (softs_same s s' x step.before step.after step.at step.status step.surrogate)
        (joiners_same s s' x step.before step.after step.at step.status step.surrogate) (λ d is. step.surrogate d)
        step.kept (step.covers tell.joiner ∙ step.covered)

-- ---- a Seek at the surrogate

module _ (p : SettingsValue) (s s' : System) (number : ℕ) (w x b : List ℕ) (step : SeatsJoiner p s s' number w x b)
    (seeker : IsSeeker s b) (sends : SendsCovers p s' step.sent) where
  abbrev seek_frame : Frame
  seek_frame = record { from = w; to = x; body = Seek b }

  seated : IsSoft s' b
  seated = inl (joiner_is_new p s s' number w x b step seeker).new

  -- the one Seek of b is taken
  seek_gone : Seeking s → AreNumbered s → (from to : List ℕ) (m : ℕ) → AmongSeeks s' b from to m → ⊥
  seek_gone seeking numbered from to m among =
      let ex : Exchanges s s' number seek_frame (numbered_from s.next step.sent) =
      exchanged s s' number seek_frame step.sent step.taken numbered in
      let one = seeking.seeks b seeker in
      let was = cover_seek_was p s s' number seek_frame step.sent step.taken sends b from to m among in
      let first = one.only from to m was in
      let second = one.only w x number ex.taken in
      let same : m ≡ number = first ∙ sym second in
      ex.gone (record { from = from; to = to; body = Seek b }) (rw (← same) among)

  pub seat_leaves_seekers : IsCoreNode s x → Seeking s → AreNumbered s → LeavesSeekers s s'
  seat_leaves_seekers core seeking numbered =
      cover_leaves_seekers p s s' number seek_frame step.sent step.taken sends x step.before step.after step.at step.covers.status
      b seated step.others step.covers.covers core step.covers.links
      (λ y now is. let same : b ≡ y = cc in seeker_not_soft s' y now (rw (← same) seated))
      (λ from to m among was. seek_gone seeking numbered from to m among)

  pub seat_leaves_tells : LeavesTells p s s'
  seat_leaves_tells =
      let new = joiner_is_new p s s' number w x b step seeker in
      cover_leaves_tells p s s' number seek_frame step.sent step.taken sends x step.before step.after step.at step.covers.status
      b seated step.others step.covers.covers (seat_softs p s s' number w x b step seeker) new.on new.surrogates (lcp x b)
      step.covers.covered

-- ---- a Done

module _ (p : SettingsValue) (s s' : System) (number : ℕ) (w e : List ℕ) (step : TakesDone s s' number w e)
    (joiner : IsJoiner s e) (sends : SendsCovers p s' step.sent) where
  abbrev done_frame : Frame
  done_frame = record { from = w; to = e; body = Done }

  done_soft : IsSoft s' e
  done_soft = inr (inl (now_core s s' number w e step))

  done_seeker_was : (y : List ℕ) → IsSeeker s' y → IsSeeker s y
  done_seeker_was y seeker =
      let waits = sym (step.surrogate y) ∙ seeker.waits in
      elim (node_before s s' e step.before step.after step.at y seeker.state seeker.is) [
        | inl here ↦ absurd (seeker_not_soft s' y seeker (rw here.0 done_soft))
        | inr there ↦ record { state = seeker.state; is = there; joining = seeker.joining; waits = waits }
      ]

  done_seeker_on : (y : List ℕ) → IsSeeker s y → IsSeeker s' y
  done_seeker_on y seeker =
      let waits = step.surrogate y ∙ seeker.waits in
      elim (node_after s s' e step.before step.after step.at y seeker.state seeker.is) [
        | inl here ↦ let was : IsSeeker s e = rw here.0 at seeker in absurd (seeker_not_soft s e was (inl joiner))
        | inr there ↦ record { state = seeker.state; is = there; joining = seeker.joining; waits = waits }
      ]

  pub done_leaves_seekers : LeavesSeekers s s'
  done_leaves_seekers = record {
    was = done_seeker_was;
    cores = core_on s s' number w e step;
    nodes = node_stays s s' e step.before step.after step.at;
    links = λ y z has.
        elim (link_or s s' e step.before step.after step.at e (λ t. inr (step.links t)) y z has) [
          | inl old ↦ inl old
          | inr is ↦ inr (rw is done_soft)
        ];
    told = cover_told p s s' number done_frame step.sent step.taken sends;
    hellos = cover_hellos p s s' number done_frame step.sent step.taken sends;
    covers = λ y d level cover. inl (covers_same s s' e step.before step.after step.at step.covers y d level cover);
    idle = λ y d level seeker cover. covers_same s s' e step.before step.after step.at step.covers y d level cover;
    seeks_on = λ y from to m seeker among.
        cover_seek_on p s s' number done_frame step.sent step.taken sends y from to m
        (λ is. let wrong : Done ≡ Seek y = is in cc) among;
    seeks_was = cover_seek_was p s s' number done_frame step.sent step.taken sends;
    still = λ y from to m among seeker. done_seeker_on y seeker;
  }

  -- a joiner whose Tells are under way isn't the one that becomes core
  done_joiner_on : (d : List ℕ) → (d ≡ e → ⊥) → IsJoiner s d → IsJoiner s' d
  done_joiner_on d apart other =
      elim (node_after s s' e step.before step.after step.at d other.state other.is) [
        | inl here ↦ absurd (apart here.0)
        | inr there ↦ record {
          state = other.state;
          is = there;
          joining = other.joining;
          surrogate = other.surrogate;
          started = step.surrogate d ∙ other.started;
        }
      ]

  done_tell : (from to : List ℕ) (fields : TellFields) → (fields.joiner ≡ e → ⊥) → IsSoundTell p s from to fields
      → IsSoundTell p s' from to fields
  done_tell from to fields apart sound =
      let same : prefix_of s' fields.joiner ≡ prefix_of s fields.joiner =
      ap (λ surrogate. lcp (unwrap_or surrogate []) fields.joiner) (step.surrogate fields.joiner) in
      record {
        joiner = done_joiner_on fields.joiner apart sound.joiner;
        core = core_on s s' number w e step from sound.core;
        cover = sound.cover;
        covers = covers_on s s' e step.before step.after step.at step.covers from fields.joiner sound.cover sound.covers;
        inside = record { reach = rw same sound.inside.reach };
        apart = sound.apart;
        level = sound.level;
        near = sound.near;
        prefix = sound.prefix ∙ sym same;
        soft = done_softs s s' number w e step to sound.soft;
      }

  pub done_tells : NothingOnWay s e → TellsAreSound p s → TellsAreSound p s'
  done_tells quiet tells = record {
    each = λ from to fields watch way.
        elim (cover_way p s s' number done_frame step.sent step.taken sends from to (tell_body fields watch) way) [
          | inr new ↦ new
          | inl old ↦
              let apart : fields.joiner ≡ e → ⊥ =
              λ same. quiet.tells to fields.level
              (record { from = from; fields = fields; watch = watch; way = old; joiner = same; level_is = refl }) in
              done_tell from to fields apart (tells.each from to fields watch old)
        ];
  }
