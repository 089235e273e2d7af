-- Seekers stay unknown when a Seek goes on, and each still has its one Seek.
use Rattle.std.proofs.Common.{◌≡◌, inl, inr, ℕ, List, [], ◌∷◌, ◌⊎◌, Some, refl, sym, ap, ◌∙◌}
use Rattle.tap_wire.specs.declared.frame.Body.{Body}
use Rattle.tap_wire.specs.declared.frame.Body.TheVariants.{Seek}
use Rattle.tap_wire.specs.declared.frame.Frame.{Frame}
use Rattle.tap_rule.specs.Node.{link_to}
use Rattle.tap_safety.specs.Frames.{HelloFields, hello_body, tell_body}
use Rattle.tap_safety.specs.System.{System, AmongFrames, CoversAt, IsCoreNode, IsTold, IsUnderWay}
use Rattle.tap_safety.specs.Regions.{Has}
use Rattle.tap_safety.specs.Exchanges.{AreNumbered, numbered_from}
use Rattle.tap_safety.specs.SessionSteps.{Exchanges}
use Rattle.tap_safety.specs.Seeking.{AreOfSeekers, HasOneSeek, IsUnknown, Seeking}
use Rattle.tap_safety.specs.SeekerSteps.{SeekGoesOn}
use Rattle.tap_safety.proofs.Exchanged.{exchanged}
use Rattle.tap_safety.proofs.FrameKeeps.{frame_cores}
use Rattle.tap_safety.proofs.FrameSeeking.{node_on, seeker_on, seeker_was}
use Rattle.tap_safety.proofs.TellKeeps.{covers_same, node_before}
use Rattle.tap_safety.proofs.UnderWay.{told_by}

module _ (s s' : System) (number : ℕ) (w x b t : List ℕ) (goes : SeekGoesOn s s' number w x b t) (are : AreNumbered s) where
  abbrev was : Frame
  was = record { from = w; to = x; body = Seek b }

  abbrev is : Frame
  is = record { from = x; to = t; body = Seek b }

  ex : Exchanges s s' number was (numbered_from s.next goes.step.sent)
  ex = exchanged s s' number was goes.step.sent goes.step.taken are

  sent_is : numbered_from s.next goes.step.sent ≡ (s.next, is) ∷ []
  sent_is = ap (λ sent. numbered_from s.next sent) goes.sent

  came : (m : ℕ) (f : Frame) → AmongFrames m f s'.frames → AmongFrames m f s.frames ⊎ ((m ≡ s.next) × (f ≡ is))
  came m f among =
      elim (ex.was m f among) [
        | inl old ↦ inl old
        | inr new ↦
            let one : AmongFrames m f ((s.next, is) ∷ []) = rw sent_is at new in
            elim one [ inl it ↦ inr it | inr none ↦ absurd none ]
      ]

  came_as : (from to : List ℕ) (body : Body) → IsUnderWay s' from to body → IsUnderWay s from to body ⊎ (body ≡ Seek b)
  came_as from to body way =
      elim (came way.number (record { from = from; to = to; body = body }) way.among) [
        | inl old ↦ inl (record { number = way.number; among = old })
        | inr new ↦ inr (ap (λ f. f.body) new.1)
      ]

  hello_was : (v d : List ℕ) (hello : HelloFields) → IsUnderWay s' v d (hello_body hello) → IsUnderWay s v d (hello_body hello)
  hello_was v d hello way =
      elim (came_as v d (hello_body hello) way) [ inl old ↦ old | inr same ↦ let wrong : hello_body hello ≡ Seek b = same in cc ]

  told_was : (d u : List ℕ) (level : ℕ) → IsTold s' d u level → IsTold s d u level
  told_was d u level told =
      elim (came_as told.from u (tell_body told.fields told.watch) told.way) [
        | inl old ↦ told_by s' s d u level told old
        | inr same ↦ let wrong : tell_body told.fields told.watch ≡ Seek b = same in cc
      ]

  has_was : (y z : List ℕ) → Has s' y z → Has s y z
  has_was y z has =
      elim (node_before s s' x goes.step.before goes.step.after goes.step.at y has.link.state has.link.is) [
        | inr there ↦ record { kind = has.kind; link = record { state = has.link.state; is = there; link = has.link.link } }
        | inl here ↦
            let now : link_to goes.step.after z ≡ Some has.kind = rw (← here.1) has.link.link in
            record { kind = has.kind; link = record { state = goes.step.before; is = here.2; link = sym (goes.links z) ∙ now } }
      ]

  covers_were : (y d : List ℕ) (level : ℕ) → CoversAt s' y d level → CoversAt s y d level
  covers_were = covers_same s s' x goes.step.before goes.step.after goes.step.at goes.step.stays.covers

  cores : (y : List ℕ) → IsCoreNode s y → IsCoreNode s' y
  cores = frame_cores s s' number was goes.step

  unknown_on : (y : List ℕ) → IsUnknown s y → IsUnknown s' y
  unknown_on y unknown = record {
    linked = λ z has. unknown.linked z (has_was z y has);
    told = λ d u level told. unknown.told d u level (told_was d u level told);
    greeted = λ v d hello way. unknown.greeted v d hello (hello_was v d hello way);
    offered = λ v d named.
        unknown.offered v d (record { fields = named.fields; way = hello_was v d named.fields named.way; named = named.named });
    covered = λ z level covers. unknown.covered z level (covers_were z y level covers);
  }

  -- a Seek of a name is one of b, if it is the one that is taken or the one that is sent
  same_seek : (y from to u v : List ℕ)
      → ◌≡◌ {A = Frame} (record { from = from; to = to; body = Seek y }) (record { from = u; to = v; body = Seek b }) → y ≡ b
  same_seek y from to u v same = let body : Seek y ≡ Seek b = ap (λ f. f.body) same in cc

  -- the one that is taken is gone
  not_taken : (m : ℕ) (f : Frame) → m ≡ number → AmongFrames m f s'.frames → ⊥
  not_taken m f same among = ex.gone f (rw (← same) among)

  one_gone : (y : List ℕ) (one : HasOneSeek s y) → one.number ≡ number → HasOneSeek s' y
  one_gone y one it =
      let there : AmongFrames number (record { from = one.from; to = one.to; body = Seek y }) s.frames = rw (← it) one.among in
      let same = ex.was_one number (record { from = one.from; to = one.to; body = Seek y }) was there ex.taken in
      let mine = same_seek y one.from one.to w x same in
      record {
        from = x;
        to = t;
        number = s.next;
        among = rw mine (ex.sends s.next is (rw sent_is (inl (refl, refl))));
        core = cores t goes.core;
        only = λ v u m among.
            elim (came m (record { from = v; to = u; body = Seek y }) among) [
              | inr new ↦ new.0
              | inl old ↦
                  let first = one.only v u m old in
                  absurd (not_taken m (record { from = v; to = u; body = Seek y }) (first ∙ it) among)
            ];
      }

  one_on : (y : List ℕ) (one : HasOneSeek s y) → AmongFrames one.number (record { from = one.from; to = one.to; body = Seek y }) s'.frames
      → HasOneSeek s' y
  one_on y one still = record {
    from = one.from;
    to = one.to;
    number = one.number;
    among = still;
    core = cores one.to one.core;
    only = λ v u m among.
        elim (came m (record { from = v; to = u; body = Seek y }) among) [
          | inl old ↦ one.only v u m old
          | inr new ↦
              let mine = same_seek y v u x t new.1 in
              let taken : AmongFrames number (record { from = w; to = x; body = Seek y }) s.frames = rw mine ex.taken in
              let it = one.only w x number taken in
              absurd (not_taken one.number (record { from = one.from; to = one.to; body = Seek y }) (sym it) still)
        ];
  }

  seek_on : (y : List ℕ) → HasOneSeek s y → HasOneSeek s' y
  seek_on y one =
      elim (ex.still one.number (record { from = one.from; to = one.to; body = Seek y }) one.among) [
        | inl it ↦ one_gone y one it
        | inr still ↦ one_on y one still
      ]

  pub goes_on_seeking : Seeking s → Seeking s'
  goes_on_seeking seeking = record {
    seeks = λ y seeker. seek_on y (seeking.seeks y (seeker_was s s' number was goes.step y seeker));
    unknown = λ y seeker. unknown_on y (seeking.unknown y (seeker_was s s' number was goes.step y seeker));
    idle = λ y d level seeker covers.
        seeking.idle y d level (seeker_was s s' number was goes.step y seeker) (covers_were y d level covers);
    covers = λ y d level covers. node_on s s' number was goes.step d (seeking.covers y d level (covers_were y d level covers));
  }

  pub goes_on_seekers : AreOfSeekers s → AreOfSeekers s'
  goes_on_seekers of = record {
    seeks = λ from to y way.
        elim (came way.number (record { from = from; to = to; body = Seek y }) way.among) [
          | inl old ↦
              seeker_on s s' number was goes.step y (of.seeks from to y (record { number = way.number; among = old }))
          | inr new ↦
              let mine = same_seek y from to x t new.1 in
              let seeker = of.seeks w x b (record { number = number; among = ex.taken }) in
              rw mine (seeker_on s s' number was goes.step b seeker)
        ];
  }
