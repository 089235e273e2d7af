-- Seekers stay unknown when a new name starts to join, and when a Seek goes on.
use Rattle.std.proofs.Common.{◌≡◌, inl, inr, ℕ, List, [], ◌∷◌, ◌++◌, ◌⊎◌, None, Some, refl, sym, ap, ◌∙◌}
use Rattle.std.proofs.lemmas.Bool.{cases_Bool}
use Rattle.tap_name.specs.Settings.{SettingsValue}
use Rattle.tap_link.specs.declared.kind.Kind.{Kind}
use Rattle.tap_link.specs.declared.kind.Kind.TheVariants.{Pin, Settled, Leaving as LeavingKind}
use Rattle.tap_wire.specs.declared.frame.Body.{Body}
use Rattle.tap_wire.specs.declared.frame.Body.TheVariants.{Seek}
use Rattle.tap_wire.specs.declared.frame.Frame.{Frame}
use Rattle.tap_rule.specs.Node.{link_to}
use Rattle.tap_safety.specs.Frames.{HelloFields, hello_body, tell_body}
use Rattle.tap_safety.specs.System.{System, AmongFrames, HasLink, HelloNames, IsTold, IsUnderWay}
use Rattle.tap_safety.specs.Regions.{Has}
use Rattle.tap_safety.specs.Exchanges.{numbered_from}
use Rattle.tap_safety.specs.Seeking.{AreOfSeekers, HasNode, HasOneSeek, IsSeeker, IsUnknown, Seeking}
use Rattle.tap_safety.specs.Soft.{IsSoft}
use Rattle.tap_safety.specs.FrameSteps.{StartsJoin}
use Rattle.tap_safety.specs.SeekerSteps.{BeforeJoin, SeeksBy, seek_frame}
use Rattle.tap_safety.proofs.LinkKeeps.{offered_named}
use Rattle.tap_safety.proofs.StartKeeps.{join_cores, join_covers_was, node_was, old_node}
use Rattle.tap_safety.proofs.UnderWay.{among_either, among_left, among_right, told_by}

-- a soft node is there
soft_there : (s : System) (b : List ℕ) → IsSoft s b → HasNode s b
soft_there s b (inl joiner) = record { state = joiner.state; is = joiner.is }
soft_there s b (inr (inl core)) = record { state = core.state; is = core.is }
soft_there s b (inr (inr ceased)) = record { state = ceased.state; is = ceased.is }

module _ (p : SettingsValue) (s s' : System) (x via : List ℕ) (start : StartsJoin s s' x) (seeks : SeeksBy s s' x via start)
    (before : BeforeJoin p s) (seeking : Seeking s) (of : AreOfSeekers s) where
  abbrev seek : Frame
  seek = seek_frame x via

  frames : s'.frames ≡ s.frames ++ (s.next, seek) ∷ []
  frames = start.has_sent.after ∙ ap (λ sent. s.frames ++ numbered_from s.next sent) seeks.sent

  -- the new name wasn't there
  absent : HasNode s x → ⊥
  absent node = let fresh = start.fresh in let is = node.is in let no : None ≡ Some node.state = sym fresh ∙ is in cc

  not_there : (y : List ℕ) → HasNode s y → y ≡ x → ⊥
  not_there y node same = absent (rw same at node)

  -- a frame that comes is the Seek
  came : (m : ℕ) (f : Frame) → AmongFrames m f s'.frames → AmongFrames m f s.frames ⊎ ((m ≡ s.next) × (f ≡ seek))
  came m f among =
      elim (among_either m f s.frames ((s.next, seek) ∷ []) (rw frames at among)) [
        | inl old ↦ inl old
        | inr new ↦ elim new [ inl is ↦ inr is | inr none ↦ absurd none ]
      ]

  came_as : (from to : List ℕ) (body : Body) → IsUnderWay s' from to body → IsUnderWay s from to body ⊎ (body ≡ Seek x)
  came_as from to body way =
      elim (came way.number (record { from = from; to = to; body = body }) way.among) [
        | inl old ↦ inl (record { number = way.number; among = old })
        | inr is ↦ inr (ap (λ f. f.body) is.1)
      ]

  hello_was : (w b : List ℕ) (hello : HelloFields) → IsUnderWay s' w b (hello_body hello) → IsUnderWay s w b (hello_body hello)
  hello_was w b hello way =
      elim (came_as w b (hello_body hello) way) [ inl old ↦ old | inr is ↦ let no : hello_body hello ≡ Seek x = is in cc ]

  told_was : (b t : List ℕ) (level : ℕ) → IsTold s' b t level → IsTold s b t level
  told_was b t level told =
      elim (came_as told.from t (tell_body told.fields told.watch) told.way) [
        | inl old ↦ told_by s' s b t level told old
        | inr is ↦ let no : tell_body told.fields told.watch ≡ Seek x = is in cc
      ]

  has_was : (y z : List ℕ) → Has s' y z → Has s y z
  has_was y z has =
      elim (node_was s s' x start y has.link.state has.link.is) [
        | inr there ↦ record { kind = has.kind; link = record { state = has.link.state; is = there; link = has.link.link } }
        | inl new ↦
            let none : link_to has.link.state z ≡ None = rw new.1 (start.links z) in
            let link = has.link.link in
            let no : None ≡ Some has.kind = sym none ∙ link in
            cc
      ]

  names_was : (w b z : List ℕ) → HelloNames s' w b z → HelloNames s w b z
  names_was w b z named = record { fields = named.fields; way = hello_was w b named.fields named.way; named = named.named }

  -- nothing named it
  linked_there : (y z : List ℕ) → Has s y z → HasNode s z
  linked_there y z has = by has.kind has.link
    where
      by : (kind : Kind) → HasLink s y z kind → HasNode s z
      by Pin link = soft_there s z (before.soft.pins y z link)
      by Settled link = soft_there s z (inr (inl (before.soft.settled y z link)))
      by LeavingKind link = absurd (before.unmarked y z link)

  named_there : (w b z : List ℕ) → HelloNames s w b z → HasNode s z
  named_there w b z named =
      let o = offered_named w z named.fields named.named in
      let sound = before.soft.hellos w b named.fields named.way o.0 o.1 in
      rw o.2 (elim (cases_Bool o.0.settled) [
        | inl says ↦ soft_there s o.0.name (inr (inl (sound.core says)))
        | inr says ↦ soft_there s o.0.name (sound.soft says)
      ])

  told_there : (b t : List ℕ) (level : ℕ) → IsTold s b t level → HasNode s b × HasNode s t
  told_there b t level told =
      let sound = before.tells.each told.from t told.fields told.watch told.way in
      let joiner = soft_there s told.fields.joiner (inl sound.joiner) in
      (rw (← told.joiner) joiner, soft_there s t sound.soft)

  greeted_there : (w b : List ℕ) (hello : HelloFields) → IsUnderWay s w b (hello_body hello) → HasNode s w × HasNode s b
  greeted_there w b hello way =
      before.ends.known way.number (record { from = w; to = b; body = hello_body hello }) way.among

  unknown_new : IsUnknown s' x
  unknown_new = record {
    linked = λ y has. absent (linked_there y x (has_was y x has));
    told = λ b t level told.
        let ends = told_there b t level (told_was b t level told) in (not_there b ends.0, not_there t ends.1);
    greeted = λ w b hello way.
        let ends = greeted_there w b hello (hello_was w b hello way) in (not_there w ends.0, not_there b ends.1);
    offered = λ w b named. absent (named_there w b x (names_was w b x named));
    covered = λ y level covers. absent (seeking.covers y x level (join_covers_was s s' x start y x level covers));
  }

  one_new : HasOneSeek s' x
  one_new = record {
    from = x;
    to = via;
    number = s.next;
    among = rw frames (among_right s.next seek s.frames ((s.next, seek) ∷ []) (inl (refl, refl)));
    core = join_cores s s' x start via seeks.core;
    only = λ w t m among.
        elim (came m (record { from = w; to = t; body = Seek x }) among) [
          | inr is ↦ is.0
          | inl old ↦
              let seeker = of.seeks w t x (record { number = m; among = old }) in
              absurd (absent (record { state = seeker.state; is = seeker.is }))
        ];
  }

  -- a seeker is the new one, or was one
  seeker_was : (y : List ℕ) → IsSeeker s' y → IsSeeker s y ⊎ (y ≡ x)
  seeker_was y seeker =
      elim (node_was s s' x start y seeker.state seeker.is) [
        | inl new ↦ inr new.0
        | inr there ↦
            inl (record { state = seeker.state; is = there; joining = seeker.joining; waits = sym (start.surrogate y) ∙ seeker.waits })
      ]

  one_on : (y : List ℕ) → IsSeeker s y → HasOneSeek s y → HasOneSeek s' y
  one_on y seeker one = record {
    from = one.from;
    to = one.to;
    number = one.number;
    among = rw frames
        (among_left one.number (record { from = one.from; to = one.to; body = Seek y }) s.frames ((s.next, seek) ∷ []) one.among);
    core = join_cores s s' x start one.to one.core;
    only = λ w t m among.
        elim (came m (record { from = w; to = t; body = Seek y }) among) [
          | inl old ↦ one.only w t m old
          | inr is ↦
              let body : Seek y ≡ Seek x = ap (λ f. f.body) is.1 in
              let same : y ≡ x = cc in
              absurd (not_there y (record { state = seeker.state; is = seeker.is }) same)
        ];
  }

  unknown_on : (y : List ℕ) → IsUnknown s y → IsUnknown s' y
  unknown_on y unknown = record {
    linked = λ z has. unknown.linked z (has_was z y has);
    told = λ b t level told. unknown.told b t level (told_was b t level told);
    greeted = λ w b hello way. unknown.greeted w b hello (hello_was w b hello way);
    offered = λ w b named. unknown.offered w b (names_was w b y named);
    covered = λ z level covers. unknown.covered z level (join_covers_was s s' x start z y level covers);
  }

  pub join_seeking : Seeking s'
  join_seeking = record {
    seeks = λ y seeker.
        elim (seeker_was y seeker) [
          | inl old ↦ one_on y old (seeking.seeks y old)
          | inr new ↦ rw new one_new
        ];
    unknown = λ y seeker.
        elim (seeker_was y seeker) [
          | inl old ↦ unknown_on y (seeking.unknown y old)
          | inr new ↦ rw new unknown_new
        ];
    idle = λ y d level seeker covers.
        let old = join_covers_was s s' x start y d level covers in
        elim (seeker_was y seeker) [
          | inl was ↦ seeking.idle y d level was old
          | inr new ↦ not_there y (record { state = old.state; is = old.is }) new
        ];
    covers = λ y b level covers.
        let node = seeking.covers y b level (join_covers_was s s' x start y b level covers) in
        record { state = node.state; is = old_node s s' x start b node.state node.is };
  }

  pub join_seekers : AreOfSeekers s'
  join_seekers = record {
    seeks = λ from to y way.
        elim (came way.number (record { from = from; to = to; body = Seek y }) way.among) [
          | inl old ↦
              let seeker = of.seeks from to y (record { number = way.number; among = old }) in
              record {
                state = seeker.state;
                is = old_node s s' x start y seeker.state seeker.is;
                joining = seeker.joining;
                waits = start.surrogate y ∙ seeker.waits;
              }
          | inr is ↦
              let body : Seek y ≡ Seek x = ap (λ f. f.body) is.1 in
              let same : y ≡ x = cc in
              rw same (record {
                state = start.after;
                is = start.is;
                joining = start.joining;
                waits = start.surrogate x ∙ start.unstarted;
              })
        ];
  }
