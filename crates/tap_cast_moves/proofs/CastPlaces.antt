-- The places of sessions of casts and of Casts under way, and the ends of casts, after a move that is about casts.
use Rattle.std.proofs.Common.{◌≡◌, ◌⊎◌, ℕ, ◌≤◌, Bool, true, false, List, None, Some, arith, refl, sym, ap, subst, ◌∙◌, inl, inr}
use Rattle.std.proofs.lemmas.Bool.{cases_Bool, true≢false}
use Rattle.tap_name.specs.Prefix.{lcp}
use Rattle.tap_name.specs.Settings.{SettingsValue}
use Rattle.tap_wire.specs.declared.frame.Body.TheVariants.{Cast}
use Rattle.tap_wire.specs.declared.frame.Frame.{Frame}
use Rattle.tap_rule.specs.Casts.{cast_of}
use Rattle.tap_rule.specs.Node.{NodeState}
use Rattle.tap_safety.specs.Joins.{HasRoot}
use Rattle.tap_safety.specs.Remembered.{OpenSession}
use Rattle.tap_safety.specs.Sessions.{IsRootless}
use Rattle.tap_safety.specs.Exchanges.{ChangesAt}
use Rattle.tap_safety.specs.System.{System, AmongFrames}
use Rattle.tap_safety.specs.Turns.{Turns}
use Rattle.tap_cast_moves.specs.Remembered.{CastMemory, CastRun}
use Rattle.tap_cast_moves.specs.SeenCasts.{cast_name, seen}
use Rattle.tap_cast_moves.specs.CastSessions.{CastSessions, HasCastEnd, HasCastPlace, IsCastWay, takes_casts}
use Rattle.tap_cast_moves.proofs.CastTurns.{ClosesRootOf, OpensRootOf, root_on, rootless_on}
use Rattle.tap_cast_moves.proofs.Noted.{HasBecome, RunsBecome}

-- a node that does something about casts stays what it is, and the sessions that it had are of the same casts
pub record StaysCasting (before after : NodeState) : Type 0 where
  pub status : after.status ≡ before.status
  pub opened : before.cast_sessions.opened ≤ after.cast_sessions.opened
  pub numbers : (k : ℕ) → 1 ≤ k → k ≤ before.cast_sessions.opened → cast_of after k ≡ cast_of before k

-- a cast that was started is so still, by the same caster and to the same prefix
pub record RunGoesOn (r' : CastMemory) (d : ℕ) (run : CastRun) : Type 0 where
  pub now : CastRun
  pub is : r'.cast d ≡ Some now
  pub caster : now.caster ≡ run.caster
  pub level : now.level ≡ run.level

pub run_goes_on : (r r' : CastMemory) (x : List ℕ) (c : ℕ) (first closed : Bool) → RunsBecome r r' x c first closed → (d : ℕ) (run : CastRun)
    → r.cast d ≡ Some run → RunGoesOn r' d run
run_goes_on r r' x c first closed become d run is =
    let will = become.on d run is in
    record { now = will.now; is = will.is; caster = will.becomes.caster; level = will.becomes.level }

module _ (p : SettingsValue) (s s' : System) (r r' : CastMemory) (x : List ℕ) (before after : NodeState) (at : ChangesAt s s' x before after)
    (stays : StaysCasting before after) (sound : CastSessions p s r)
    (runs : (d : ℕ) (run : CastRun) → r.cast d ≡ Some run → RunGoesOn r' d run) where
  -- how a node is afterwards
  record IsLaterNode (y : List ℕ) (state : NodeState) : Type 0 where
    now : NodeState
    is : s'.node y ≡ Some now
    casting : StaysCasting state now

  later_node : (y : List ℕ) (state : NodeState) → s.node y ≡ Some state → IsLaterNode y state
  later_node y state is =
      elim (at.others y) [
        | inl here ↦
            let was = at.was in
            let mine : s.node x ≡ Some state = ap s.node (sym here) ∙ is in
            let same : before ≡ state = cc in
            record { now = after; is = ap s'.node here ∙ at.is; casting = subst (λ n. StaysCasting n after) same stays }
        | inr other ↦ record {
          now = state;
          is = other ∙ is;
          casting = record { status = refl; opened = omega arith; numbers = λ k from to. refl };
        }
      ]

  -- ---- places

  pub place_on : (y : List ℕ) (m : ℕ) (o old : OpenSession) → HasCastPlace p s r y m old → o.joiner ≡ old.joiner → o.depth ≡ old.depth
      → o.parent ≡ old.parent → HasCastPlace p s' r' y m o
  place_on y m o old place joiner depth parent =
      let later = later_node y place.state place.is in
      let number = later.casting.numbers m place.from place.opened in
      let goes = runs (cast_of place.state m) place.run place.started in
      let more = later.casting.opened in
      let least = place.opened in
      let shallow = place.shallow in
      record {
        state = later.now;
        is = later.is;
        core = later.casting.status ∙ place.core;
        from = place.from;
        opened = omega (arith, more, least);
        cast = joiner ∙ place.cast ∙ ap cast_name (sym number);
        run = goes.now;
        started = ap r'.cast number ∙ goes.is;
        root = λ top. goes.caster ∙ place.root (sym parent ∙ top);
        above = λ w k up. place.above w k (sym parent ∙ up);
        shallow = omega (arith, depth, shallow);
      }

  pub places_on : (sent : List (ℕ × Frame)) → Turns (seen s r) (seen s' r') sent
      → ((y : List ℕ) (m : ℕ) (o : OpenSession) → r'.session y m ≡ Some o → r.session y m ≡ None → HasCastPlace p s' r' y m o)
      → (y : List ℕ) (m : ℕ) (o : OpenSession) → r'.session y m ≡ Some o → HasCastPlace p s' r' y m o
  places_on sent turns new y m o is =
      elim (turns.origin y m o is) [
        | inl was ↦ place_on y m o was.old (sound.places y m was.old was.is) was.joiner was.depth was.parent
        | inr fresh ↦ new y m o is fresh.none
      ]

  -- ---- Casts under way

  way_on : (w to : List ℕ) (cast level depth : ℕ) → IsCastWay p s r w to cast level depth → IsCastWay p s' r' w to cast level depth
  way_on w to cast level depth way =
      let later = later_node to way.state way.is in
      let goes = runs cast way.run way.started in
      let from = way.from in
      let begins = way.begins in
      record {
        state = later.now;
        is = later.is;
        takes = subst takes_casts (sym later.casting.status) way.takes;
        run = goes.now;
        started = goes.is;
        from = subst (λ l. l ≤ level) (sym goes.level) from;
        within = way.within;
        begins = subst (λ c. goes.now.level ≤ lcp c to) (sym goes.caster) (subst (λ l. l ≤ lcp way.run.caster to) (sym goes.level) begins);
        shallow = way.shallow;
        level_is = way.level_is;
        sent_within = subst (λ c. goes.now.level ≤ lcp c w) (sym goes.caster)
            (subst (λ l. l ≤ lcp way.run.caster w) (sym goes.level) way.sent_within);
      }

  -- this Cast was under way, or is sent as it may be
  abbrev pub CastWas : Type 0
  CastWas = (number : ℕ) (from to : List ℕ) (cast level session depth : ℕ) (word : List ℕ)
      → AmongFrames number (record { from = from; to = to; body = Cast cast level session depth word }) s'.frames
      → AmongFrames number (record { from = from; to = to; body = Cast cast level session depth word }) s.frames
      ⊎ IsCastWay p s' r' from to cast level depth

  pub ways_on : CastWas → (number : ℕ) (from to : List ℕ) (cast level session depth : ℕ) (word : List ℕ)
      → AmongFrames number (record { from = from; to = to; body = Cast cast level session depth word }) s'.frames
      → IsCastWay p s' r' from to cast level depth
  ways_on was number from to cast level session depth word among =
      elim (was number from to cast level session depth word among) [
        | inl old ↦ way_on from to cast level depth (sound.ways number from to cast level session depth word old)
        | inr way ↦ way
      ]

-- ---- ends of casts

module _ (s s' : System) (r r' : CastMemory) (x : List ℕ) (c : ℕ) (first closed : Bool) (become : RunsBecome r r' x c first closed)
    (sent : List (ℕ × Frame)) (turns : Turns (seen s r) (seen s' r') sent) where
  pub ends_on : ((cast : ℕ) (run : CastRun) → r.cast cast ≡ Some run → HasCastEnd (seen s r) cast run)
      → ((d : ℕ) → (closed ≡ true → d ≡ c → ⊥) → ClosesRootOf (seen s r) (seen s' r') (cast_name d))
      → ((d : ℕ) → OpensRootOf (seen s r) (seen s' r') (cast_name d))
      → (closed ≡ true → IsRootless (seen s' r') (cast_name c))
      → (d : ℕ) (now : CastRun) → r'.cast d ≡ Some now → HasCastEnd (seen s' r') d now
  ends_on ends closes opens last d now is = record { open_root = open_root; closed = is_closed }
    where
      was : HasBecome r.cast x c first closed d now
      was = become.was d now is

      old : HasCastEnd (seen s r) d was.run
      old = ends d was.run was.was

      open_root : now.closed ≡ false → HasRoot (seen s' r') (cast_name d)
      open_root goes_on =
          elim (cases_Bool was.run.closed) [
            | inl over ↦ absurd (true≢false (sym (was.becomes.closed_on over) ∙ goes_on))
            | inr still ↦
                root_on (seen s r) (seen s' r') sent turns (cast_name d)
                (closes d (λ is same. true≢false (sym (was.becomes.closed_new is same) ∙ goes_on))) (old.open_root still)
          ]

      is_closed : now.closed ≡ true → IsRootless (seen s' r') (cast_name d)
      is_closed over =
          elim (was.becomes.closed_was over) [
            | inl before ↦ rootless_on (seen s r) (seen s' r') sent turns (cast_name d) (opens d) (old.closed before)
            | inr new ↦ subst (λ e. IsRootless (seen s' r') (cast_name e)) (sym new.1) (last new.0)
          ]
