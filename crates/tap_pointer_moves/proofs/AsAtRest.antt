-- While lookups alone are under way a system is as one at rest: without its frames it has the whole invariant, and pointers stand.
use Rattle.std.proofs.Common.{◌≡◌, ◌⊎◌, ℕ, List, [], ◌∷◌, slice_index_or, None, refl, ap, subst, inl, inr}
use Rattle.tap_name.specs.Settings.{SettingsValue}
use Rattle.tap_pointer.specs.declared.pair.Pair.{Pair}
use Rattle.tap_session.specs.declared.parent.Parent.{Parent}
use Rattle.tap_session.specs.declared.parent.Parent.TheVariants.{Node, Root}
use Rattle.tap_wire.specs.declared.frame.Frame.{Frame}
use Rattle.tap_rule.specs.Node.Status.{Joining}
use Rattle.tap_safety.specs.FewSessions.{SessionsAreFew}
use Rattle.tap_safety.specs.Filled.{AreFilled}
use Rattle.tap_safety.specs.Parts.{HoleFree}
use Rattle.tap_safety.specs.Rest.{Rest}
use Rattle.tap_safety.specs.System.{System, IsJoiner, IsUnderWay}
use Rattle.tap_safety.specs.Ties.{status_of}
use Rattle.tap_safety.proofs.LinkKeeps.{status_seen}
use Rattle.tap_safety.proofs.Rest.{rest_holds}
use Rattle.tap_safety_moves.specs.Sound.{Sound}
use Rattle.tap_pointer_moves.specs.Said.{IsLastLay, IsLaySaid, LayWord, laid_of, pointer_register_of}
use Rattle.tap_pointer_moves.specs.LaysTold.{AreLaysStamped, AreTold, PointersStand}
use Rattle.tap_pointer_moves.proofs.Paths.{pointers_on_paths}
use Rattle.tap_pointer_moves.specs.NoServer.{AreLookups, PointersOnPathsBeside}
use Rattle.tap_pointer_moves.proofs.Emptied.{core_on, core_was, emptied, emptied_basis, link_on, lookup_calm, node_on}
use Rattle.tap_pointer_moves.proofs.LookupsKept.{none_departs}

-- ---- the whole invariant

-- who is answered in the end: nobody at a root, and else a node
parent_cases : (parent : Parent) → ((name : List ℕ) × (parent ≡ Root name))
    ⊎ ((name : List ℕ) × (session : ℕ) × (parent ≡ Node name session))
parent_cases (Root name) = inl (name, refl)
parent_cases (Node name session) = inr (name, session, refl)

module _ (p : SettingsValue) (s : System) (sound : Sound p s) (lookups : AreLookups s) (calm : s.departing ≡ None) where
  left : Rest (emptied s)
  left = rest_holds p (emptied s) (emptied_basis p s sound.invariant.basis lookups calm) refl

  no_joiner : (x : List ℕ) → IsJoiner (emptied s) x → ⊥
  no_joiner x one = left.joining x (status_seen (emptied s) x one.state Joining one.is one.joining)

  hole_free : HoleFree p (emptied s)
  hole_free = record {
    filled = λ x y one other apart.
        let near = sound.invariant.filled.hole_free.filled x y (core_was s x one) (core_was s y other) apart in
        record {
          to = near.to;
          core = core_on s near.to near.core;
          near = near.near;
          kind = near.kind;
          link = link_on s x near.to near.kind near.link;
        };
  }

  filled : AreFilled p (emptied s)
  filled = record {
    covered = record {
      each = λ w b level core joiner. absurd (no_joiner b joiner);
      surrogate = λ b joiner. absurd (no_joiner b joiner);
      joiners = λ x b level joiner covers. no_joiner x joiner;
    };
    meet = record {
      first = λ w b y both. absurd (no_joiner b both.joiner);
      second = λ w b y both. absurd (no_joiner b both.joiner);
    };
    cover = record { served = λ w b y level claim. absurd (no_joiner b claim.joiner) };
    low = record { given = λ a b joiner. absurd (no_joiner a joiner) };
    hole_free = hole_free;
  }

  few : SessionsAreFew p (emptied s)
  few = record {
    each = λ x b node is.
        let has = sound.few.each x b node is in
        record {
          numbers = has.numbers;
          few = has.few;
          all = λ k one. has.all k (record { session = one.session; is = one.is; joiner = one.joiner });
        };
  }

  emptied_sound : Sound p (emptied s)
  emptied_sound = record {
    invariant = record { basis = emptied_basis p s sound.invariant.basis lookups calm; filled = filled };
    nodes = record { nodes = sound.nodes.nodes };
    askers = record {
      finds = λ number ticket from to object asker level among. absurd among;
      casts = λ x node is k d inside. elim (parent_cases (slice_index_or node.cast_sessions.sessions k d).parent) [
        | inl root ↦ rw root.1 tt
        | inr one ↦
            let was = sound.askers.casts x node is k d inside in
            let there = rw one.2 at was in
            rw one.2 (node_on s one.0 there.0, there.1)
      ];
    };
    few = few;
    shallow = record { each = λ number frame among. absurd among };
  }

-- ---- pointers

module _ (s : System) (stand : PointersStand s) (lookups : AreLookups s) where
  said_was : (x t : List ℕ) (pair : Pair) (word : LayWord) → IsLaySaid (emptied s) x t pair word → IsLaySaid s x t pair word
  unfolding pointer_register_of
  said_was x t pair word (inl way) = absurd way.among
  said_was x t pair word (inr kept) = inr kept

  said_on : (x t : List ℕ) (pair : Pair) (word : LayWord) → IsLaySaid s x t pair word → IsLaySaid (emptied s) x t pair word
  unfolding pointer_register_of
  said_on x t pair word (inl way) = absurd (lookups.each _ _ _ way)
  said_on x t pair word (inr kept) = inr kept

  last_on : (x t : List ℕ) (pair : Pair) (word : LayWord) → IsLastLay s x t pair word → IsLastLay (emptied s) x t pair word
  last_on x t pair word last = record {
    said = said_on x t pair word last.said;
    last = λ other said. last.last other (said_was x t pair other said);
  }

  told : AreTold (emptied s)
  unfolding status_of laid_of
  told = record {
    laid = λ x t pair level hears laid.
        let one = stand.told.laid x t pair level hears laid in
        record { word = one.word; last = last_on x t pair one.word one.last; on = one.on; level_is = one.level_is };
    off = λ x t pair hears none. elim (stand.told.off x t pair hears none) [
      | inl untold ↦ inl (λ word said. untold word (said_was x t pair word said))
      | inr one ↦ inr (record { word = one.word; last = last_on x t pair one.word one.last; off = one.off })
    ];
  }

  stamped : AreLaysStamped (emptied s)
  stamped = record {
    known = λ x t pair word said. node_on s x (stand.stamped.known x t pair word (said_was x t pair word said));
    once = λ x t pair one other first second.
        stand.stamped.once x t pair one other (said_was x t pair one first) (said_was x t pair other second);
    stamp = λ x t pair word node is runs said. stand.stamped.stamp x t pair word node is runs (said_was x t pair word said);
  }

  emptied_stands : PointersStand (emptied s)
  emptied_stands = record {
    nothing = record { nothing = stand.nothing.nothing };
    told = told;
    stamped = stamped;
    ends = record { ends = λ x t pair word way. absurd way.among };
    registers = record { ascending = stand.registers.ascending };
    leavers = record { unpublished = stand.leavers.unpublished };
  }

-- ---- as at rest

pub record IsAsAtRest (p : SettingsValue) (s : System) : Type 0 where
  pub sound : Sound p (emptied s)
  pub stand : PointersStand (emptied s)

pub as_at_rest : (p : SettingsValue) (s : System) → Sound p s → PointersStand s → AreLookups s → IsAsAtRest p s
as_at_rest p s sound stand lookups = by s.frames refl
  where
    by : (frames : List (ℕ × Frame)) → s.frames ≡ frames → IsAsAtRest p s
    by [] none =
        let with_frames : List (ℕ × Frame) → System = λ frames. record s { frames = frames } in
        let same : s ≡ emptied s = ap with_frames none in
        record { sound = subst (Sound p) same sound; stand = subst PointersStand same stand }
    by (f ∷ frames) some =
        let way : IsUnderWay s f.1.from f.1.to f.1.body = record { number = f.0; among = rw some (inl (refl, refl)) } in
        let is = lookups.each f.1.from f.1.to f.1.body way in
        let calm = none_departs p s sound f.1.from f.1.to f.1.body way (lookup_calm f.1.body is) in
        record { sound = emptied_sound p s sound lookups calm; stand = emptied_stands s stand lookups }

pub pointers_on_paths_beside : PointersOnPathsBeside
pointers_on_paths_beside p s x pair sound stand lookups =
    let rest = as_at_rest p s sound stand lookups in
    let law = pointers_on_paths p (emptied s) x pair rest.sound rest.stand refl in (
      λ holds.
          let both = law.0 (record { state = holds.state; is = holds.is; held = holds.held }) in
          (record { state = both.0.state; is = both.0.is; published = both.0.published }, both.1),
      λ (published, on_path).
          let holds = law.1 (record { state = published.state; is = published.is; published = published.published }, on_path) in
          record { state = holds.state; is = holds.is; held = holds.held },
    )
