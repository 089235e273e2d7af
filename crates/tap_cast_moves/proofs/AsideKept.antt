-- A step that isn't about casts keeps all that is said of them.
use Rattle.std.proofs.Common.{◌≡◌, ◌⊎◌, ℕ, true, false, List, Option, None, Some, refl, sym, ap, subst, ◌∙◌, inl, inr}
use Rattle.std.specs.Option.{option_map}
use Rattle.std.proofs.lemmas.Bool.{true≢false}
use Rattle.tap_name.specs.Settings.{SettingsValue}
use Rattle.tap_cast.specs.Casts.{level_of_cast}
use Rattle.tap_session.specs.Sessions.{session_of}
use Rattle.tap_wire.specs.declared.frame.Body.TheVariants.{Cast}
use Rattle.tap_wire.specs.declared.frame.Frame.{Frame}
use Rattle.tap_rule.specs.Casts.{cast_of}
use Rattle.tap_rule.specs.Node.{NodeState, Status, join_session_at}
use Rattle.tap_rule.specs.Node.Status.{Ceased, Core, Gone, Joining, Leaving}
use Rattle.tap_safety.specs.CountSteps.{SessionsStay}
use Rattle.tap_safety.specs.Remembered.{OpenSession}
use Rattle.tap_safety.specs.SessionSteps.{LeavesSessions}
use Rattle.tap_safety.specs.System.{System, AmongFrames, IsCoreNode}
use Rattle.tap_cast_moves.specs.Audience.{CastAudience, CastsAreSound}
use Rattle.tap_cast_moves.specs.Cover.{CastCover}
use Rattle.tap_cast_moves.specs.KeptCasts.{CastsKept, JoinsNoMore}
use Rattle.tap_cast_moves.specs.Recalled.{is_core_status}
use Rattle.tap_cast_moves.specs.Remembered.{CastMemory, CastRun}
use Rattle.tap_cast_moves.specs.SeenCasts.{cast_name, seen, seen_frame, seen_node, seen_session}
use Rattle.tap_cast_moves.specs.CastSessions.{AreSessionsOf, CastSessions, HasCastEnd, HasCastPlace, IsCastWay, NoCastGoesOn, takes_casts}
use Rattle.tap_cast_moves.proofs.AsideRules.{GoesOn, HasNoCasts, KeepsCasts, StartsToLeave}
use Rattle.tap_cast_moves.proofs.Turning.{left_parts}
use Rattle.tap_cast_moves.proofs.View.{among_seen, session_seen}

-- ---- how a node passes such a step

-- a core or leaving node leaves or is gone
pub record LeavesSo (before after : NodeState) : Type 0 where
  pub core : is_core_status before.status ≡ true
  pub leaves : StartsToLeave before after

-- its join was given up
pub record GivesUp (before after : NodeState) : Type 0 where
  pub joins : before.status ≡ Joining
  pub ceases : after.status ≡ Ceased
  pub none : HasNoCasts after

abbrev pub IsPast : CastMemory → NodeState → NodeState → Type 0
IsPast r before after = GoesOn before after ⊎ (GivesUp before after ⊎ (LeavesSo before after × NoCastGoesOn r))

-- it is new
pub record IsNewcomer (s : System) (x : List ℕ) (after : NodeState) : Type 0 where
  pub fresh : s.node x ≡ None
  pub none : HasNoCasts after
  pub joins : after.status ≡ Joining

pub record HasPassed (s : System) (r : CastMemory) (x : List ℕ) (after : NodeState) : Type 0 where
  pub before : NodeState
  pub was : s.node x ≡ Some before
  pub past : IsPast r before after

pub record GoesPast (s' : System) (r : CastMemory) (x : List ℕ) (before : NodeState) : Type 0 where
  pub after : NodeState
  pub is : s'.node x ≡ Some after
  pub past : IsPast r before after

-- a step that isn't about casts
pub record AsideStep (s s' : System) (r r' : CastMemory) : Type 0 where
  pub leaves : LeavesSessions (seen s r) (seen s' r')
  pub was : (x : List ℕ) (after : NodeState) → s'.node x ≡ Some after → HasPassed s r x after ⊎ IsNewcomer s x after
  pub on : (x : List ℕ) (before : NodeState) → s.node x ≡ Some before → GoesPast s' r x before
  pub runs : (cast : ℕ) → r'.cast cast ≡ r.cast cast
  pub ways : (m : ℕ) (from to : List ℕ) (cast level session depth : ℕ) (word : List ℕ)
      → AmongFrames m (record { from = from; to = to; body = Cast cast level session depth word }) s'.frames
      → AmongFrames m (record { from = from; to = to; body = Cast cast level session depth word }) s.frames
  pub still : (m : ℕ) (from to : List ℕ) (cast level session depth : ℕ) (word : List ℕ)
      → AmongFrames m (record { from = from; to = to; body = Cast cast level session depth word }) s.frames
      → AmongFrames m (record { from = from; to = to; body = Cast cast level session depth word }) s'.frames

-- ---- statuses

core_is : (status : Status) → (status ≡ Core) ⊎ (status ≡ Leaving) → is_core_status status ≡ true
core_is status (inl core) = rw core refl
core_is status (inr leaving) = rw leaving refl

is_core_of : (status : Status) → is_core_status status ≡ true → (status ≡ Core) ⊎ (status ≡ Leaving)
is_core_of Joining is = cc
is_core_of Core is = inl refl
is_core_of Leaving is = inr refl
is_core_of Gone is = cc
is_core_of Ceased is = cc

pub core_node : (s : System) (x : List ℕ) (state : NodeState) → s.node x ≡ Some state → is_core_status state.status ≡ true → IsCoreNode s x
core_node s x state is core = record { state = state; is = is; core = is_core_of state.status core }

pub core_status : (s : System) (x : List ℕ) (core : IsCoreNode s x) → is_core_status core.state.status ≡ true
core_status s x core = core_is core.state.status core.core

-- a joining node isn't core
joins_no_core : (status : Status) → status ≡ Joining → is_core_status status ≡ true → ⊥
joins_no_core status joins core = let wrong : is_core_status Joining ≡ true = subst (λ t. is_core_status t ≡ true) joins core in cc

joins_not : (status : Status) → status ≡ Joining → status ≡ Core → ⊥
joins_not status joins core = joins_no_core status joins (core_is status (inl core))

-- ---- a node that keeps no cast

no_level : (node : NodeState) (cast level : ℕ) → HasNoCasts node → level_of_cast node.casts cast ≡ Some level → ⊥
no_level node cast level none is =
    let nothing : ◌≡◌ {A = Option ℕ} None (Some level) = ap (λ casts. level_of_cast casts cast) (sym none.casts) ∙ is in
    cc

level_same : (before after : NodeState) (cast : ℕ) → KeepsCasts before after → level_of_cast after.casts cast ≡ level_of_cast before.casts cast
level_same before after cast keeps = ap (λ casts. level_of_cast casts cast) keeps.casts

no_session : (node : NodeState) (k : ℕ) → HasNoCasts node → join_session_at (seen_node node) k ≡ None
no_session node k none =
    session_seen node k ∙ ap (λ sessions. option_map (seen_session node) (session_of sessions.sessions k)) none.sessions

stay : (before after : NodeState) → KeepsCasts before after → SessionsStay (seen_node before) (seen_node after)
stay before after keeps k = session_seen after k ∙ rw (keeps.sessions, keeps.numbers) refl ∙ sym (session_seen before k)

-- what is seen of a node
pub unseen : (found : Option NodeState) (node : NodeState) → option_map seen_node found ≡ Some node
    → (state : NodeState) × (found ≡ Some state) × (node ≡ seen_node state)
unseen None node is = cc
unseen (Some state) node is = (state, refl, cc)

one_run : (r : CastMemory) (cast : ℕ) (one other : CastRun) → r.cast cast ≡ Some one → r.cast cast ≡ Some other → one ≡ other
one_run r cast one other is there = cc

one_state : (s : System) (x : List ℕ) (one other : NodeState) → s.node x ≡ Some one → s.node x ≡ Some other → one ≡ other
one_state s x one other is there = cc

-- ---- the parts

module _ (p : SettingsValue) (s s' : System) (r r' : CastMemory) (step : AsideStep s s' r r') (sound : CastsAreSound p s r) where
  run_was : (cast : ℕ) (run : CastRun) → r'.cast cast ≡ Some run → r.cast cast ≡ Some run
  run_was cast run is = sym (step.runs cast) ∙ is

  run_on : (cast : ℕ) (run : CastRun) → r.cast cast ≡ Some run → r'.cast cast ≡ Some run
  run_on cast run is = step.runs cast ∙ is

  open_was : (x : List ℕ) (k : ℕ) (o : OpenSession) → r'.session x k ≡ Some o → r.session x k ≡ Some o
  open_was x k o is = sym (step.leaves.sessions x k) ∙ is

  -- no session is open at a node that isn't core
  none_open : (x : List ℕ) → ((state : NodeState) → s.node x ≡ Some state → state.status ≡ Core → ⊥) → (k : ℕ) → r.session x k ≡ None
  none_open x never k = by (r.session x k) refl
    where
      by : (o : Option OpenSession) → r.session x k ≡ o → r.session x k ≡ None
      by None is = is
      by (Some o) is = let place = sound.sessions.places x k o is in absurd (never place.state place.is place.core)

  -- ---- sessions

  node_was : (x : List ℕ) (now : NodeState) → (seen s' r').node x ≡ Some now
      → ((node : NodeState) × ((seen s r).node x ≡ Some node) × SessionsStay node now)
      ⊎ (((k : ℕ) → join_session_at now k ≡ None) × ((k : ℕ) → r.session x k ≡ None))
  node_was x now is =
      let found = unseen (s'.node x) now is in
      elim (step.was x found.0 found.1) [
        | inl passed ↦ by_past found.0 found.2 passed.before passed.was passed.past
        | inr new ↦ inr (
          λ k. ap (λ n. join_session_at n k) found.2 ∙ no_session found.0 k new.none,
          none_open x (λ state there core. let none = new.fresh in let wrong : ◌≡◌ {A = Option NodeState} None (Some state) = sym none ∙ there in cc),
        )
      ]
    where
      kept : (after : NodeState) → now ≡ seen_node after → (before : NodeState) → s.node x ≡ Some before → KeepsCasts before after
          → (node : NodeState) × ((seen s r).node x ≡ Some node) × SessionsStay node now
      kept after same before was keeps =
          (seen_node before, ap (option_map seen_node) was, λ k. ap (λ n. join_session_at n k) same ∙ stay before after keeps k)

      by_past : (after : NodeState) → now ≡ seen_node after → (before : NodeState) → s.node x ≡ Some before → IsPast r before after
          → ((node : NodeState) × ((seen s r).node x ≡ Some node) × SessionsStay node now)
          ⊎ (((k : ℕ) → join_session_at now k ≡ None) × ((k : ℕ) → r.session x k ≡ None))
      by_past after same before was (inl goes) = inl (kept after same before was goes.keeps)
      by_past after same before was (inr (inl up)) = inr (
        λ k. ap (λ n. join_session_at n k) same ∙ no_session after k up.none,
        none_open x (λ state is core. joins_not before.status up.joins (ap (λ (n : NodeState). n.status) (one_state s x before state was is) ∙ core)),
      )
      by_past after same before was (inr (inr leaves)) =
          elim leaves.0.leaves.leaves [
            | inl keeps ↦ inl (kept after same before was keeps.0)
            | inr none ↦ inr (λ k. ap (λ n. join_session_at n k) same ∙ no_session after k none.0, leaves.1.sessions x)
          ]

  parts_on : AreSessionsOf (seen s' r')
  parts_on = left_parts (seen s r) (seen s' r') step.leaves sound.sessions.sessions node_was

  -- a place stays
  place_on : (x : List ℕ) (k : ℕ) (o : OpenSession) → r'.session x k ≡ Some o → HasCastPlace p s' r' x k o
  place_on x k o is = by_past (step.on x place.state place.is)
    where
      was : r.session x k ≡ Some o
      was = open_was x k o is

      place : HasCastPlace p s r x k o
      place = sound.sessions.places x k o was

      by_past : GoesPast s' r x place.state → HasCastPlace p s' r' x k o
      by_past past = elim past.past [
        | inl goes ↦ elim goes.goes [
          | inl same ↦
              let number : cast_of past.after k ≡ cast_of place.state k = rw goes.keeps.numbers refl in
              record {
                state = past.after;
                is = past.is;
                core = same ∙ place.core;
                from = place.from;
                opened = rw goes.keeps.sessions place.opened;
                cast = place.cast ∙ ap cast_name (sym number);
                run = place.run;
                started = ap r'.cast number ∙ run_on (cast_of place.state k) place.run place.started;
                root = place.root;
                above = place.above;
                shallow = place.shallow;
              }
          | inr joined ↦ absurd (joins_not place.state.status joined.0 place.core)
        ]
        | inr (inl up) ↦ absurd (joins_not place.state.status up.joins place.core)
        | inr (inr leaves) ↦
            let none = leaves.1.sessions x k in
            let wrong : ◌≡◌ {A = Option OpenSession} (Some o) None = sym was ∙ none in
            absurd (cc)
      ]

  -- who answers a Cast goes on to
  way_on : (number : ℕ) (from to : List ℕ) (cast level session depth : ℕ) (word : List ℕ)
      → AmongFrames number (record { from = from; to = to; body = Cast cast level session depth word }) s'.frames
      → IsCastWay p s' r' from to cast level depth
  way_on number from to cast level session depth word among =
      by_past (step.on to way.state way.is)
    where
      old : AmongFrames number (record { from = from; to = to; body = Cast cast level session depth word }) s.frames
      old = step.ways number from to cast level session depth word among

      way : IsCastWay p s r from to cast level depth
      way = sound.sessions.ways number from to cast level session depth word old

      stands : (after : NodeState) → s'.node to ≡ Some after → takes_casts after.status → IsCastWay p s' r' from to cast level depth
      stands after is takes = record {
        state = after;
        is = is;
        takes = takes;
        run = way.run;
        started = run_on cast way.run way.started;
        from = way.from;
        within = way.within;
        begins = way.begins;
        shallow = way.shallow;
        level_is = way.level_is;
        sent_within = way.sent_within;
      }

      by_past : GoesPast s' r to way.state → IsCastWay p s' r' from to cast level depth
      by_past past = elim past.past [
        | inl goes ↦ elim goes.goes [
          | inl same ↦ stands past.after past.is (subst takes_casts (sym same) way.takes)
          | inr joined ↦ stands past.after past.is (subst takes_casts (sym joined.1) tt)
        ]
        | inr (inl up) ↦ stands past.after past.is (subst takes_casts (sym up.ceases) tt)
        | inr (inr leaves) ↦
            let f : Frame = record { from = from; to = to; body = Cast cast level session depth word } in
            let awaited = sound.sessions.sessions.exact.frames number (seen_frame f) from session (among_seen number f s.frames old) refl in
            let none = leaves.1.sessions from session in
            let wrong : ◌≡◌ {A = Option OpenSession} (Some awaited.session) None = sym awaited.is ∙ none in
            absurd (cc)
      ]

  end_on : (cast : ℕ) (run : CastRun) → r'.cast cast ≡ Some run → HasCastEnd (seen s' r') cast run
  end_on cast run is =
      let old = sound.sessions.ends cast run (run_was cast run is) in
      record {
        open_root = λ goes_on.
            let root = old.open_root goes_on in
            record {
              at = root.at;
              number = root.number;
              session = root.session;
              is = step.leaves.sessions root.at root.number ∙ root.is;
              joiner = root.joiner;
              top = root.top;
            };
        closed = λ closed.
            let none = old.closed closed in
            record { none = λ x k session is joiner top. none.none x k session (open_was x k session is) joiner top };
      }

  sessions_on : CastSessions p s' r'
  sessions_on = record { sessions = parts_on; places = place_on; ways = way_on; ends = end_on }

  -- ---- who keeps a cast

  -- a node that keeps a cast kept it at the same level, and is core as before, or the cast is closed
  record KeptSo (x : List ℕ) (after : NodeState) (cast level : ℕ) : Type 0 where
    before : NodeState
    was : s.node x ≡ Some before
    keeps : level_of_cast before.casts cast ≡ Some level
    core : is_core_status after.status ≡ true

  kept_so : (x : List ℕ) (after : NodeState) (cast level : ℕ) → s'.node x ≡ Some after → level_of_cast after.casts cast ≡ Some level
      → KeptSo x after cast level
  kept_so x after cast level is keeps =
      elim (step.was x after is) [
        | inl passed ↦ by_past passed
        | inr new ↦ absurd (no_level after cast level new.none keeps)
      ]
    where
      by_past : HasPassed s r x after → KeptSo x after cast level
      by_past passed = elim passed.past [
        | inl goes ↦
            let old = sym (level_same passed.before after cast goes.keeps) ∙ keeps in
            let core = sound.kept.core x passed.before cast level passed.was old in
            record {
              before = passed.before;
              was = passed.was;
              keeps = old;
              core = elim goes.goes [
                | inl same ↦ ap is_core_status same ∙ core
                | inr joined ↦ ap is_core_status joined.1
              ];
            }
        | inr (inl up) ↦ absurd (no_level after cast level up.none keeps)
        | inr (inr leaves) ↦ elim leaves.0.leaves.leaves [
          | inl on ↦ record {
            before = passed.before;
            was = passed.was;
            keeps = sym (level_same passed.before after cast on.0) ∙ keeps;
            core = ap is_core_status on.1;
          }
          | inr none ↦ absurd (no_level after cast level none.0 keeps)
        ]
      ]

  -- a core node was core and keeps the same casts, or it joined
  record CoreSo (x : List ℕ) (after : NodeState) : Type 0 where
    before : NodeState
    was : s.node x ≡ Some before
    keeps : KeepsCasts before after
    core : (is_core_status before.status ≡ true) ⊎ (before.status ≡ Joining)

  core_so : (x : List ℕ) (after : NodeState) → s'.node x ≡ Some after → is_core_status after.status ≡ true → CoreSo x after
  core_so x after is core =
      elim (step.was x after is) [
        | inl passed ↦ by_past passed
        | inr new ↦ absurd (joins_no_core after.status new.joins core)
      ]
    where
      by_past : HasPassed s r x after → CoreSo x after
      by_past passed = elim passed.past [
        | inl goes ↦ record {
          before = passed.before;
          was = passed.was;
          keeps = goes.keeps;
          core = elim goes.goes [
            | inl same ↦ inl (ap is_core_status (sym same) ∙ core)
            | inr joined ↦ inr joined.0
          ];
        }
        | inr (inl up) ↦ let wrong : is_core_status Ceased ≡ true = subst (λ t. is_core_status t ≡ true) up.ceases core in absurd (cc)
        | inr (inr leaves) ↦ elim leaves.0.leaves.leaves [
          | inl on ↦ record { before = passed.before; was = passed.was; keeps = on.0; core = inl leaves.0.core }
          | inr none ↦ let wrong : is_core_status Gone ≡ true = subst (λ t. is_core_status t ≡ true) none.1 core in absurd (cc)
        ]
      ]

  -- whom a cast has reached was not joining
  joins_no_more : (x : List ℕ) → JoinsNoMore s x → JoinsNoMore s' x
  joins_no_more x been = let past = step.on x been.state been.is in
      record { state = past.after; is = past.is; over = λ joins. by_past past joins past.past }
    where
      by_past : (past : GoesPast s' r x been.state) → past.after.status ≡ Joining → IsPast r been.state past.after → ⊥
      by_past past joins (inl goes) = elim goes.goes [
        | inl same ↦ been.over (sym same ∙ joins)
        | inr joined ↦ been.over joined.0
      ]
      by_past past joins (inr (inl up)) = been.over up.joins
      by_past past joins (inr (inr leaves)) = elim leaves.0.leaves.leaves [
        | inl on ↦ let wrong : Leaving ≡ Joining = sym on.1 ∙ joins in cc
        | inr none ↦ let wrong : Gone ≡ Joining = sym none.1 ∙ joins in cc
      ]

  kept_on : CastsKept p s' r'
  kept_on = record {
    kept = λ x state cast level is keeps.
        let so = kept_so x state cast level is keeps in
        let old = sound.kept.kept x so.before cast level so.was so.keeps in
        record {
          run = old.run;
          started = run_on cast old.run old.started;
          reached = old.reached;
          from = old.from;
          within = old.within;
          begins = old.begins;
        };
    core = λ x state cast level is keeps. (kept_so x state cast level is keeps).core;
    reached = λ x state cast run is core started reached none.
        let so = core_so x state is core in
        let old = run_was cast run started in
        elim so.core [
          | inl was ↦ sound.kept.reached x so.before cast run so.was was old reached (sym (level_same so.before state cast so.keeps) ∙ none)
          | inr joins ↦
              let been = sound.kept.names x cast run old reached in
              been.over (ap (λ (n : NodeState). n.status) (one_state s x been.state so.before been.is so.was) ∙ joins)
        ];
    caster = λ state cast run started is core.
        let so = core_so run.caster state is core in
        let old = run_was cast run started in
        elim so.core [
          | inl was ↦ level_same so.before state cast so.keeps ∙ sound.kept.caster so.before cast run old so.was was
          | inr joins ↦
              let been = sound.kept.names run.caster cast run old (sound.kept.itself cast run old) in
              absurd (been.over (ap (λ (n : NodeState). n.status) (one_state s run.caster been.state so.before been.is so.was) ∙ joins))
        ];
    itself = λ cast run started. sound.kept.itself cast run (run_was cast run started);
    names = λ x cast run started reached. joins_no_more x (sound.kept.names x cast run (run_was cast run started) reached);
  }

  -- ---- whom it will reach

  -- a core node stays core, or no cast goes on
  core_on : (x : List ℕ) → IsCoreNode s x → IsCoreNode s' x ⊎ NoCastGoesOn r
  core_on x core = by_past (step.on x core.state core.is)
    where
      by_past : GoesPast s' r x core.state → IsCoreNode s' x ⊎ NoCastGoesOn r
      by_past past = elim past.past [
        | inl goes ↦ elim goes.goes [
          | inl same ↦ inl (core_node s' x past.after past.is (ap is_core_status same ∙ core_status s x core))
          | inr joined ↦ inl (core_node s' x past.after past.is (ap is_core_status joined.1))
        ]
        | inr (inl up) ↦ absurd (joins_no_core core.state.status up.joins (core_status s x core))
        | inr (inr leaves) ↦ inr leaves.1
      ]

  cover_on : CastCover s' r'
  cover_on = record {
    served = λ x e cast level run claim.
        let so = kept_so x claim.state cast level claim.is claim.keeps in
        let started = run_was cast run claim.started in
        elim (sound.cover.served x e cast level run (record {
          state = so.before;
          is = so.was;
          keeps = so.keeps;
          started = started;
          audience = claim.audience;
          apart = claim.apart;
          reach = claim.reach;
        })) [
          | inl reached ↦ inl reached
          | inr due ↦ elim (core_on due.to due.core) [
            | inl core ↦ inr (record {
              from = due.from;
              to = due.to;
              level = due.level;
              session = due.session;
              depth = due.depth;
              word = due.word;
              way = record {
                number = due.way.number;
                among = step.still due.way.number due.from due.to cast due.level due.session due.depth due.word due.way.among;
              };
              core = core;
              higher = due.higher;
              shared = due.shared;
            })
            | inr none ↦ inl ((sound.audience.each cast run started).reached (none.closed cast run started) e claim.audience)
          ]
        ];
  }

  audience_on : CastAudience s' r'
  audience_on = record {
    each = λ cast run started.
        let was = run_was cast run started in
        let old = sound.audience.each cast run was in
        record {
          core = λ goes_on e of. elim (core_on e (old.core goes_on e of)) [
            | inl core ↦ core
            | inr none ↦
                let closed = none.closed cast run was in let wrong : true ≡ false = sym closed ∙ goes_on in absurd (true≢false wrong)
          ];
          reached = old.reached;
          begins = old.begins;
          caster = old.caster;
        };
  }

  pub aside_kept : CastsAreSound p s' r'
  aside_kept = record { sessions = sessions_on; kept = kept_on; cover = cover_on; audience = audience_on }
