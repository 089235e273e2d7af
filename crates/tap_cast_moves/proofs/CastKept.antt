-- Who keeps a cast, whom it will reach, and its audience, after a move that is about casts.
use Rattle.std.proofs.Common.{false, ◌≡◌, ◌⊎◌, ℕ, ◌<◌, ◌≤◌, nat_le, Bool, true, List, Option, None, Some, arith, refl, sym, ap, subst, ◌∙◌, inl, inr}
use Rattle.std.proofs.lemmas.Bool.{and_from, and_parts, cases_Bool, le-leb, leb-true, true≢false}
use Rattle.tap_name.specs.Prefix.{lcp}
use Rattle.tap_name.specs.Settings.{SettingsValue}
use Rattle.tap_cast.specs.Casts.{level_of_cast}
use Rattle.tap_wire.specs.declared.frame.Body.TheVariants.{Cast}
use Rattle.tap_wire.specs.declared.frame.Frame.{Frame}
use Rattle.tap_rule.specs.Casts.{cast_news}
use Rattle.tap_rule.specs.Event.{News}
use Rattle.tap_rule.specs.Event.News.{Cast as CastNews}
use Rattle.tap_rule.specs.Node.{NodeState}
use Rattle.tap_rule.specs.Node.Status.{Joining}
use Rattle.tap_safety.specs.Exchanges.{ChangesAt}
use Rattle.tap_safety.specs.System.{System, IsCoreNode}
use Rattle.tap_safety.proofs.Chains.{no_session}
use Rattle.tap_moves.proofs.Got.{same_name}
use Rattle.tap_cast_moves.specs.Audience.{CastsAreSound, IsAudience}
use Rattle.tap_cast_moves.specs.Cover.{CastCover, IsCastClaim, IsCastDue, IsCastServed}
use Rattle.tap_cast_moves.specs.KeptCasts.{CastsKept, JoinsNoMore, IsKeptCast}
use Rattle.tap_cast_moves.specs.News.{IsTrueNews, NewsAreTrue}
use Rattle.tap_cast_moves.specs.Recalled.{audience_of, is_core, is_core_status}
use Rattle.tap_cast_moves.specs.Remembered.{CastMemory, CastRun}
use Rattle.tap_cast_moves.specs.SeenCasts.{cast_name, seen, seen_frame}
use Rattle.tap_cast_moves.specs.CastSessions.{CastSessions}
use Rattle.tap_cast_moves.proofs.AsideKept.{core_node, core_status}
use Rattle.tap_cast_moves.proofs.Noted.{HasBecome, RunBecomes}
use Rattle.tap_cast_moves.proofs.View.{among_seen}

-- ---- a cast that is closed has reached its audience

module _ (p : SettingsValue) (s : System) (r : CastMemory) (sessions : CastSessions p s r) (kept : CastsKept p s r) (cover : CastCover s r)
  where
    -- no Cast of a closed cast is under way
    none_due : (cast : ℕ) (run : CastRun) (e : List ℕ) (above : ℕ) → r.cast cast ≡ Some run → run.closed ≡ true → IsCastDue s cast e above → ⊥
    none_due cast run e above started closed due =
        let f : Frame = record { from = due.from; to = due.to; body = Cast cast due.level due.session due.depth due.word } in
        let seen_way = among_seen due.way.number f s.frames due.way.among in
        let awaited = sessions.sessions.exact.frames due.way.number (seen_frame f) due.from due.session seen_way refl in
        let joiner = sessions.sessions.of_casts.frames due.way.number (seen_frame f) due.from due.session awaited.session (cast_name cast)
        seen_way refl awaited.is refl in
        no_session (seen s r) (cast_name cast) sessions.sessions.exact ((sessions.ends cast run started).closed closed) due.from due.session
        awaited.session awaited.is joiner

    pub closed_reaches : (cast : ℕ) (run : CastRun) → r.cast cast ≡ Some run → run.closed ≡ true → IsCoreNode s run.caster
        → ((e : List ℕ) → run.audience e ≡ true → run.level ≤ lcp run.caster e) → (e : List ℕ) → run.audience e ≡ true → run.reached e ≡ true
    closed_reaches cast run started closed core begins e of =
        elim (same_name run.caster e) [
          | inl same ↦ subst (λ x. run.reached x ≡ true) same (kept.itself cast run started)
          | inr apart ↦
              elim (cover.served run.caster e cast run.level run (record {
                state = core.state;
                is = core.is;
                keeps = kept.caster core.state cast run started core.is (core_status s run.caster core);
                started = started;
                audience = of;
                apart = apart;
                reach = begins e of;
              })) [
                | inl reached ↦ reached
                | inr due ↦ absurd (none_due cast run e (lcp run.caster e) started closed due)
              ]
        ]

-- ---- a move that is about casts

-- a cast that starts, at this node and to this prefix
pub record IsBegun (s : System) (r : CastMemory) (x : List ℕ) (c level : ℕ) (d : ℕ) (now : CastRun) : Type 0 where
  pub it : d ≡ c
  pub fresh : r.cast c ≡ None
  pub inside : level ≤ lcp x x
  pub caster : now.caster ≡ x
  pub level_is : now.level ≡ level
  pub audience : now.audience ≡ audience_of s x level
  pub reached : (y : List ℕ) → now.reached y ≡ true → y ≡ x
  pub itself : now.reached x ≡ true

-- x, which goes on as it was, keeps the cast at this level anew, and every other cast as before
pub record KeepsAnew (before after : NodeState) (c level : ℕ) (anew : Bool) : Type 0 where
  pub status : after.status ≡ before.status
  pub levels : (d : ℕ) → (level_of_cast after.casts d ≡ level_of_cast before.casts d)
      ⊎ ((d ≡ c) × (anew ≡ true) × (level_of_cast after.casts c ≡ Some level))
  pub below : anew ≡ true → (k : ℕ) → level_of_cast before.casts c ≡ Some k → level < k

-- a Cast that was due is due still, or it is taken by x
pub record IsTakenFor (s : System) (x : List ℕ) (c level : ℕ) (takes : Bool) (d : ℕ) (e : List ℕ) (above : ℕ) : Type 0 where
  pub is_taken : takes ≡ true
  pub it : d ≡ c
  pub core : IsCoreNode s x
  pub higher : above < level
  pub shared : (x ≡ e) ⊎ (level ≤ lcp x e)

-- A move by which x does something about the cast c: a Cast at this level is taken, or the cast starts, or one of its sessions has an answer
-- more.
pub record CastMove (p : SettingsValue) (s s' : System) (r r' : CastMemory) (x : List ℕ) (c level : ℕ) (takes first closed anew : Bool)
    (before after : NodeState) (told : News) : Type 0 where
  pub at : ChangesAt s s' x before after
  pub news_is : told ≡ cast_news c first closed
  pub unkept_first : first ≡ true → level_of_cast before.casts c ≡ None
  pub still_open : closed ≡ true → (run : CastRun) → r.cast c ≡ Some run → run.closed ≡ true → ⊥
  pub now_started : (now : CastRun) × (r'.cast c ≡ Some now)
  pub first_reaches : first ≡ true → now_started.0.reached x ≡ true
  pub now_closes : closed ≡ true → now_started.0.closed ≡ true
  pub keeps : KeepsAnew before after c level anew
  pub core : (first ≡ true) ⊎ (anew ≡ true) → is_core_status before.status ≡ true
  pub was : (d : ℕ) (now : CastRun) → r'.cast d ≡ Some now → HasBecome r.cast x c first closed d now ⊎ (IsBegun s r x c level d now × (anew ≡ true))
  pub now_kept : anew ≡ true → IsKeptCast p r' x c level
  pub anew_is : anew ≡ true → level_of_cast after.casts c ≡ Some level
  pub first_kept : first ≡ true → level_of_cast after.casts c ≡ None → ⊥
  pub on_run : (d : ℕ) (run : CastRun) → r.cast d ≡ Some run → (now : CastRun) × (r'.cast d ≡ Some now) × RunBecomes x c first closed d run now
  pub caster_now : anew ≡ true → (now : CastRun) → r'.cast c ≡ Some now → now.caster ≡ x → level ≡ now.level
  -- Casts on their way
  pub due_on : (d : ℕ) (e : List ℕ) (above : ℕ) → IsCastDue s d e above → IsCastDue s' d e above ⊎ IsTakenFor s x c level takes d e above
  pub reached_own : takes ≡ true → IsCoreNode s x → (now : CastRun) → r'.cast c ≡ Some now → now.reached x ≡ true
  pub own_serves : (takes ≡ true) ⊎ (anew ≡ true) → IsCoreNode s x → (e : List ℕ) (now : CastRun) → r'.cast c ≡ Some now → now.audience e ≡ true → (x ≡ e → ⊥)
      → level ≤ lcp x e → IsCastServed s' c now e (lcp x e)

module _ (p : SettingsValue) (s s' : System) (r r' : CastMemory) (x : List ℕ) (c level : ℕ) (takes first closed anew : Bool)
    (before after : NodeState) (told : News)
    (move : CastMove p s s' r r' x c level takes first closed anew before after told) (sound : CastsAreSound p s r) where
  -- ---- nodes

  -- a node as it was
  record IsEarlier (y : List ℕ) (state : NodeState) : Type 0 where
    old : NodeState
    was : s.node y ≡ Some old
    status : state.status ≡ old.status
    levels : (d : ℕ) → (level_of_cast state.casts d ≡ level_of_cast old.casts d)
        ⊎ ((y ≡ x) × (d ≡ c) × (anew ≡ true) × (level_of_cast state.casts c ≡ Some level))

  earlier : (y : List ℕ) (state : NodeState) → s'.node y ≡ Some state → IsEarlier y state
  earlier y state is =
      elim (move.at.others y) [
        | inl here ↦
            let now = move.at.is in
            let mine : s'.node x ≡ Some state = ap s'.node (sym here) ∙ is in
            let same : after ≡ state = cc in
            record {
              old = before;
              was = ap s.node here ∙ move.at.was;
              status = subst (λ (n : NodeState). n.status ≡ before.status) same move.keeps.status;
              levels = λ d. subst (λ (n : NodeState). (level_of_cast n.casts d ≡ level_of_cast before.casts d)
                  ⊎ ((y ≡ x) × (d ≡ c) × (anew ≡ true) × (level_of_cast n.casts c ≡ Some level))) same (elim (move.keeps.levels d) [
                    | inl stays ↦ inl stays
                    | inr other ↦ inr (here, other.0, other.1, other.2)
                  ]);
            }
        | inr other ↦ record { old = state; was = sym other ∙ is; status = refl; levels = λ d. inl refl }
      ]

  -- a node as it is then
  record IsLater (y : List ℕ) (state : NodeState) : Type 0 where
    now : NodeState
    is : s'.node y ≡ Some now
    status : now.status ≡ state.status

  later : (y : List ℕ) (state : NodeState) → s.node y ≡ Some state → IsLater y state
  later y state is =
      elim (move.at.others y) [
        | inl here ↦
            let was = move.at.was in
            let mine : s.node x ≡ Some state = ap s.node (sym here) ∙ is in
            let same : before ≡ state = cc in
            record {
              now = after;
              is = ap s'.node here ∙ move.at.is;
              status = subst (λ (n : NodeState). after.status ≡ n.status) same move.keeps.status;
            }
        | inr other ↦ record { now = state; is = other ∙ is; status = refl }
      ]

  core_on : (y : List ℕ) → IsCoreNode s y → IsCoreNode s' y
  core_on y core =
      let then = later y core.state core.is in
      core_node s' y then.now then.is (ap is_core_status then.status ∙ core_status s y core)

  own_core : is_core_status before.status ≡ true → IsCoreNode s x
  own_core core = core_node s x before move.at.was core

  been_on : (y : List ℕ) → JoinsNoMore s y → JoinsNoMore s' y
  been_on y been =
      let then = later y been.state been.is in
      record { state = then.now; is = then.is; over = λ joins. been.over (sym then.status ∙ joins) }

  core_been : is_core_status before.status ≡ true → JoinsNoMore s' x
  core_been core = been_on x (record {
    state = before;
    is = move.at.was;
    over = λ joins. let wrong : is_core_status Joining ≡ true = subst (λ t. is_core_status t ≡ true) joins core in cc;
  })

  -- nobody kept a cast that starts
  unkept : (y : List ℕ) (state : NodeState) (d level : ℕ) → r.cast d ≡ None → s.node y ≡ Some state
      → level_of_cast state.casts d ≡ Some level → ⊥
  unkept y state d level none is keeps =
      let kept = sound.kept.kept y state d level is keeps in
      let wrong : ◌≡◌ {A = Option CastRun} None (Some kept.run) = sym none ∙ kept.started in
      cc

  -- ---- who keeps a cast

  kept_so : (y : List ℕ) (state : NodeState) (d l : ℕ) → s'.node y ≡ Some state → level_of_cast state.casts d ≡ Some l
      → IsKeptCast p r' y d l
  kept_so y state d l is keeps = by (earlier y state is)
    where
      by_old : (old : NodeState) → s.node y ≡ Some old → level_of_cast old.casts d ≡ Some l → IsKeptCast p r' y d l
      by_old old was there =
          let kept = sound.kept.kept y old d l was there in
          let then = move.on_run d kept.run kept.started in
          let same_level = then.2.level in
          let from = kept.from in
          let begins = kept.begins in
          record {
            run = then.0;
            started = then.1;
            reached = then.2.reached_on y kept.reached;
            from = omega (arith, same_level, from);
            within = kept.within;
            begins = subst (λ z. then.0.level ≤ lcp z y) (sym then.2.caster) (omega (arith, same_level, begins));
          }

      by : IsEarlier y state → IsKeptCast p r' y d l
      by early = elim (early.levels d) [
        | inl same ↦ by_old early.old early.was (sym same ∙ keeps)
        | inr anew_here ↦
            let there : level_of_cast state.casts c ≡ Some l = ap (level_of_cast state.casts) (sym anew_here.1) ∙ keeps in
            let level_is = anew_here.3 in
            let one : ◌≡◌ {A = Option ℕ} (Some level) (Some l) = sym level_is ∙ there in
            let same : level ≡ l = cc in
            subst (λ k. IsKeptCast p r' y d k) same
            (subst (λ k. IsKeptCast p r' y k level) (sym anew_here.1)
            (subst (λ z. IsKeptCast p r' z c level) (sym anew_here.0) (move.now_kept anew_here.2)))
      ]

  core_so : (y : List ℕ) (state : NodeState) (d l : ℕ) → s'.node y ≡ Some state → level_of_cast state.casts d ≡ Some l
      → is_core_status state.status ≡ true
  core_so y state d l is keeps =
      let early = earlier y state is in
      elim (early.levels d) [
        | inl same ↦ ap is_core_status early.status ∙ sound.kept.core y early.old d l early.was (sym same ∙ keeps)
        | inr anew_here ↦
            let was = move.at.was in
            let mine : s.node x ≡ Some early.old = ap s.node (sym anew_here.0) ∙ early.was in
            let same : before ≡ early.old = cc in
            ap is_core_status early.status ∙ subst (λ (n : NodeState). is_core_status n.status ≡ true) same (move.core (inr anew_here.2))
      ]

  reached_so : (y : List ℕ) (state : NodeState) (d : ℕ) (run : CastRun) → s'.node y ≡ Some state → is_core_status state.status ≡ true
      → r'.cast d ≡ Some run → run.reached y ≡ true → level_of_cast state.casts d ≡ None → ⊥
  reached_so y state d run is core started reached none = by (earlier y state is)
    where
      at_own : y ≡ x → d ≡ c → first ≡ true → ⊥
      at_own here it is_first =
          let now = move.at.is in
          let mine : s'.node x ≡ Some state = ap s'.node (sym here) ∙ is in
          let same : after ≡ state = cc in
          move.first_kept is_first
          (subst (λ k. level_of_cast after.casts k ≡ None) it (subst (λ (n : NodeState). level_of_cast n.casts d ≡ None) (sym same) none))

      by_same : (early : IsEarlier y state) → level_of_cast state.casts d ≡ level_of_cast early.old.casts d → ⊥
      by_same early same =
          elim (move.was d run started) [
            | inl become ↦ elim (become.becomes.reached_was y reached) [
              | inl old ↦
                  sound.kept.reached y early.old d become.run early.was (ap is_core_status (sym early.status) ∙ core) become.was old
                  (sym same ∙ none)
              | inr new ↦ at_own new.2 new.1 new.0
            ]
            | inr begun ↦
                let here = begun.0.reached y reached in
                let now = move.at.is in
                let mine : s'.node x ≡ Some state = ap s'.node (sym here) ∙ is in
                let one : after ≡ state = cc in
                let none_there : level_of_cast after.casts c ≡ None =
                subst (λ k. level_of_cast after.casts k ≡ None) begun.0.it
                (subst (λ (n : NodeState). level_of_cast n.casts d ≡ None) (sym one) none) in
                let wrong : ◌≡◌ {A = Option ℕ} None (Some level) = sym none_there ∙ move.anew_is begun.1 in
                absurd (cc)
          ]

      by : IsEarlier y state → ⊥
      by early = elim (early.levels d) [
        | inl same ↦ by_same early same
        | inr anew_here ↦
            let there : level_of_cast state.casts c ≡ None = ap (level_of_cast state.casts) (sym anew_here.1) ∙ none in
            let wrong : ◌≡◌ {A = Option ℕ} None (Some level) = sym there ∙ anew_here.3 in
            cc
      ]

  caster_so : (state : NodeState) (d : ℕ) (run : CastRun) → r'.cast d ≡ Some run → s'.node run.caster ≡ Some state
      → is_core_status state.status ≡ true → level_of_cast state.casts d ≡ Some run.level
  caster_so state d run started is core = by (earlier run.caster state is)
    where
      by_same : (early : IsEarlier run.caster state) → level_of_cast state.casts d ≡ level_of_cast early.old.casts d
          → level_of_cast state.casts d ≡ Some run.level
      by_same early same =
          elim (move.was d run started) [
            | inl become ↦
                let was : s.node become.run.caster ≡ Some early.old = ap s.node (sym become.becomes.caster) ∙ early.was in
                same
                ∙ sound.kept.caster early.old d become.run become.was was (ap is_core_status (sym early.status) ∙ core)
                ∙ ap Some (sym become.becomes.level)
            | inr begun ↦
                let now = move.at.is in
                let mine : s'.node x ≡ Some state = ap s'.node (sym begun.0.caster) ∙ is in
                let one : after ≡ state = cc in
                ap (λ (n : NodeState). level_of_cast n.casts d) (sym one) ∙ ap (level_of_cast after.casts) begun.0.it
                ∙ move.anew_is begun.1 ∙ ap Some (sym begun.0.level_is)
          ]

      by : IsEarlier run.caster state → level_of_cast state.casts d ≡ Some run.level
      by early = elim (early.levels d) [
        | inl same ↦ by_same early same
        | inr anew_here ↦
            ap (level_of_cast state.casts) anew_here.1 ∙ anew_here.3
            ∙ ap Some (move.caster_now anew_here.2 run (ap r'.cast (sym anew_here.1) ∙ started) anew_here.0)
      ]

  names_so : (y : List ℕ) (d : ℕ) (run : CastRun) → r'.cast d ≡ Some run → run.reached y ≡ true → JoinsNoMore s' y
  names_so y d run started reached =
      elim (move.was d run started) [
        | inl become ↦ elim (become.becomes.reached_was y reached) [
          | inl old ↦ been_on y (sound.kept.names y d become.run become.was old)
          | inr new ↦ subst (JoinsNoMore s') (sym new.2) (core_been (move.core (inl new.0)))
        ]
        | inr begun ↦ subst (JoinsNoMore s') (sym (begun.0.reached y reached)) (core_been (move.core (inr begun.1)))
      ]

  itself_so : (d : ℕ) (run : CastRun) → r'.cast d ≡ Some run → run.reached run.caster ≡ true
  itself_so d run started =
      elim (move.was d run started) [
        | inl become ↦
            subst (λ z. run.reached z ≡ true) (sym become.becomes.caster)
            (become.becomes.reached_on become.run.caster (sound.kept.itself d become.run become.was))
        | inr begun ↦ subst (λ z. run.reached z ≡ true) (sym begun.0.caster) begun.0.itself
      ]

  pub moved_kept : CastsKept p s' r'
  moved_kept =
      record { kept = kept_so; core = core_so; reached = reached_so; caster = caster_so; itself = itself_so; names = names_so }

  -- ---- whom it will reach

  -- a name that a later Cast serves is served
  further : (d : ℕ) (now : CastRun) (e : List ℕ) (low high : ℕ) → low ≤ high → IsCastServed s' d now e high → IsCastServed s' d now e low
  further d now e low high less (inl reached) = inl reached
  further d now e low high less (inr due) =
      let higher = due.higher in
      inr (record {
        from = due.from;
        to = due.to;
        level = due.level;
        session = due.session;
        depth = due.depth;
        word = due.word;
        way = due.way;
        core = due.core;
        higher = omega (arith, less, higher);
        shared = due.shared;
      })

  taken_serves : (d : ℕ) (now : CastRun) (e : List ℕ) (low : ℕ) → r'.cast d ≡ Some now → now.audience e ≡ true
      → IsTakenFor s x c level takes d e low → IsCastServed s' d now e low
  taken_serves d now e low started of taken =
      elim (same_name x e) [
        | inl same ↦ inl (subst (λ z. now.reached z ≡ true) same (move.reached_own taken.is_taken taken.core now here))
        | inr apart ↦ elim taken.shared [
          | inl same ↦ absurd (apart same)
          | inr shares ↦
              let higher = taken.higher in
              further d now e low (lcp x e) (omega (arith, higher, shares))
              (subst (λ k. IsCastServed s' k now e (lcp x e)) (sym taken.it) (move.own_serves (inl taken.is_taken) taken.core e now here of apart shares))
        ]
      ]
    where
      here : r'.cast c ≡ Some now
      here = ap r'.cast (sym taken.it) ∙ started

  served_so : (y e : List ℕ) (d l : ℕ) (now : CastRun) → IsCastClaim s' r' y e d l now → IsCastServed s' d now e (lcp y e)
  served_so y e d l now claim = by (earlier y claim.state claim.is)
    where
      by_old : (old : NodeState) → s.node y ≡ Some old → level_of_cast old.casts d ≡ Some l → IsCastServed s' d now e (lcp y e)
      by_old old was keeps =
          elim (move.was d now claim.started) [
            | inl become ↦
                elim (sound.cover.served y e d l become.run (record {
                  state = old;
                  is = was;
                  keeps = keeps;
                  started = become.was;
                  audience = subst (λ (a : List ℕ → Bool). a e ≡ true) become.becomes.audience claim.audience;
                  apart = claim.apart;
                  reach = claim.reach;
                })) [
                  | inl reached ↦ inl (become.becomes.reached_on e reached)
                  | inr due ↦ elim (move.due_on d e (lcp y e) due) [
                    | inl still ↦ inr still
                    | inr taken ↦ taken_serves d now e (lcp y e) claim.started claim.audience taken
                  ]
                ]
            | inr begun ↦
                absurd (unkept y old c l begun.0.fresh was (ap (level_of_cast old.casts) (sym begun.0.it) ∙ keeps))
          ]

      by : IsEarlier y claim.state → IsCastServed s' d now e (lcp y e)
      by early = elim (early.levels d) [
        | inl same ↦ by_old early.old early.was (sym same ∙ claim.keeps)
        | inr anew_here ↦
            let there : level_of_cast claim.state.casts c ≡ Some l = ap (level_of_cast claim.state.casts) (sym anew_here.1) ∙ claim.keeps in
            let one : ◌≡◌ {A = Option ℕ} (Some level) (Some l) = sym anew_here.3 ∙ there in
            let same : level ≡ l = cc in
            let reach : level ≤ lcp x e = subst (λ z. level ≤ lcp z e) anew_here.0 (subst (λ k. k ≤ lcp y e) (sym same) claim.reach) in
            subst (λ z. IsCastServed s' d now e (lcp z e)) (sym anew_here.0)
            (subst (λ k. IsCastServed s' k now e (lcp x e)) (sym anew_here.1)
            (move.own_serves (inr anew_here.2) (own_core (move.core (inr anew_here.2))) e now (ap r'.cast (sym anew_here.1) ∙ claim.started) claim.audience
            (λ is. claim.apart (anew_here.0 ∙ is)) reach))
      ]

  pub moved_cover : CastCover s' r'
  moved_cover = record { served = served_so }

  -- ---- its audience

  found_core : (y : List ℕ) (found : Option NodeState) → s.node y ≡ found → is_core found ≡ true → IsCoreNode s y
  found_core y None is core = absurd (true≢false (sym core))
  found_core y (Some state) is core = core_node s y state is core

  module _ (sessions : CastSessions p s' r') where
    audience_so : (d : ℕ) (now : CastRun) → r'.cast d ≡ Some now → IsAudience s' now
    audience_so d now started = elim (move.was d now started) [ inl become ↦ by_old become | inr begun ↦ by_begun begun.0 begun.1 ]
      where
        by_old : HasBecome r.cast x c first closed d now → IsAudience s' now
        by_old become = record {
          core = λ goes_on e of. elim (cases_Bool become.run.closed) [
            | inl over ↦ absurd (true≢false (sym (become.becomes.closed_on over) ∙ goes_on))
            | inr still ↦ core_on e (old.core still e (of_before e of))
          ];
          reached = λ over e of. elim (cases_Bool become.run.closed) [
            | inl before_it ↦ become.becomes.reached_on e (old.reached before_it e (of_before e of))
            | inr still ↦
                closed_reaches p s' r' sessions moved_kept moved_cover d now started over
                (subst (IsCoreNode s') (sym become.becomes.caster) (core_on become.run.caster (old.core still become.run.caster old.caster)))
                begins e of
          ];
          begins = begins;
          caster = subst (λ (a : List ℕ → Bool). a now.caster ≡ true) (sym become.becomes.audience)
              (subst (λ z. become.run.audience z ≡ true) (sym become.becomes.caster) old.caster);
        }
          where
            old : IsAudience s become.run
            old = sound.audience.each d become.run become.was

            of_before : (e : List ℕ) → now.audience e ≡ true → become.run.audience e ≡ true
            of_before e of = subst (λ (a : List ℕ → Bool). a e ≡ true) become.becomes.audience of

            begins : (e : List ℕ) → now.audience e ≡ true → now.level ≤ lcp now.caster e
            begins e of =
                let level_is = become.becomes.level in
                let shares = old.begins e (of_before e of) in
                subst (λ z. now.level ≤ lcp z e) (sym become.becomes.caster) (omega (arith, level_is, shares))

        by_begun : IsBegun s r x c level d now → anew ≡ true → IsAudience s' now
        by_begun begun is_anew = record {
          core = λ goes_on e of. core_on e (found_core e (s.node e) refl (parts e of).0);
          reached = λ over e of.
              closed_reaches p s' r' sessions moved_kept moved_cover d now started over
              (subst (IsCoreNode s') (sym begun.caster) (core_on x (own_core core_then))) begins e of;
          begins = begins;
          caster =
              subst (λ (a : List ℕ → Bool). a now.caster ≡ true) (sym begun.audience)
              (subst (λ z. audience_of s x level z ≡ true) (sym begun.caster) own_of);
        }
          where
            core_then : is_core_status before.status ≡ true
            core_then = move.core (inr is_anew)

            parts : (e : List ℕ) → now.audience e ≡ true → (is_core (s.node e) ≡ true) × (nat_le level (lcp x e) ≡ true)
            parts e of =
                and_parts (is_core (s.node e)) (nat_le level (lcp x e)) (subst (λ (a : List ℕ → Bool). a e ≡ true) begun.audience of)

            begins : (e : List ℕ) → now.audience e ≡ true → now.level ≤ lcp now.caster e
            begins e of =
                let level_is = begun.level_is in
                let shares = leb-true level (lcp x e) (parts e of).1 in
                subst (λ z. now.level ≤ lcp z e) (sym begun.caster) (omega (arith, level_is, shares))

            own_of : audience_of s x level x ≡ true
            own_of =
                and_from (is_core (s.node x)) (nat_le level (lcp x x)) (ap is_core move.at.was ∙ core_then)
                (le-leb level (lcp x x) begun.inside)

    pub moved_sound : CastsAreSound p s' r'
    moved_sound = record { sessions = sessions; kept = moved_kept; cover = moved_cover; audience = record { each = audience_so } }

    -- ---- its news

    news_parts : (cast : ℕ) (reached over : Bool) → cast_news c first closed ≡ CastNews cast reached over
        → (cast ≡ c) × (reached ≡ first) × (over ≡ closed)
    news_parts cast reached over same = by first closed same
      where
        by : (one other : Bool) → cast_news c one other ≡ CastNews cast reached over → (cast ≡ c) × (reached ≡ one) × (over ≡ other)
        by true other is = (cc, cc, cc)
        by false true is = (cc, cc, cc)
        by false false is = cc

    true_news : IsTrueNews s r r' x c first closed
    true_news = record {
      now = move.now_started.0;
      started = move.now_started.1;
      core = λ is. own_core (move.core (inl is));
      begins = λ is.
          let core = core_on x (own_core (move.core (inl is))) in
          begins_there core.state core.is (level_of_cast core.state.casts c) refl
          (moved_kept.reached x core.state c move.now_started.0 core.is (core_status s' x core) move.now_started.1 (move.first_reaches is));
      reaches = move.first_reaches;
      anew = λ is run there reached.
          sound.kept.reached x before c run move.at.was (move.core (inl is)) there reached (move.unkept_first is);
      ends = move.now_closes;
      all = λ is e of. (audience_so c move.now_started.0 move.now_started.1).reached (move.now_closes is) e of;
      open_before = move.still_open;
    }
      where
        begins_there : (state : NodeState) → s'.node x ≡ Some state → (kept : Option ℕ) → level_of_cast state.casts c ≡ kept
            → (level_of_cast state.casts c ≡ None → ⊥) → move.now_started.0.level ≤ lcp move.now_started.0.caster x
        begins_there state is None none never = absurd (never none)
        begins_there state is (Some l) keeps never =
            let has = moved_kept.kept x state c l is keeps in
            let one = has.started in
            let other = move.now_started.1 in
            let same : has.run ≡ move.now_started.0 = cc in
            subst (λ (run : CastRun). run.level ≤ lcp run.caster x) same has.begins

    pub moved_news : NewsAreTrue s r r' x told
    moved_news cast reached over is =
        let parts = news_parts cast reached over (sym move.news_is ∙ is) in
        subst (λ k. IsTrueNews s r r' x k reached over) (sym parts.0)
        (subst (λ b. IsTrueNews s r r' x c b over) (sym parts.1) (subst (λ b. IsTrueNews s r r' x c first b) (sym parts.2) true_news))

    pub moved_both : CastsAreSound p s' r' × NewsAreTrue s r r' x told
    moved_both = (moved_sound, moved_news)
