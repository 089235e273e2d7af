-- In each run an answer that is outstanding comes to an open session, and at rest no session of casts is open.
-- Cited above: answers_awaited_at, rest_sessions_at
use Rattle.std.proofs.Common.{◌≡◌, ℕ, List, take, Option, None, Some, refl, ap, sym, ◌∙◌}
use Rattle.std.specs.Option.{option_map}
use Rattle.tap_name.specs.Settings.{SettingsValue}
use Rattle.tap_session.specs.Session.{Session}
use Rattle.tap_wire.specs.declared.frame.Body.{Body}
use Rattle.tap_wire.specs.declared.frame.Body.TheVariants.{Ack, CastAck, Heard}
use Rattle.tap_log.specs.declared.record.Record.{Record}
use Rattle.tap_rule.specs.CastSteps.{cast_session_at}
use Rattle.tap_rule.specs.Node.{NodeState, join_session_at}
use Rattle.tap_safety.specs.Invariant.{Basis}
use Rattle.tap_safety.specs.Remembered.{OpenSession}
use Rattle.tap_safety.specs.Sessions.{Belongs}
use Rattle.tap_safety.specs.System.{IsUnderWay, System}
use Rattle.tap_runs.specs.Beginning.{Beginning}
use Rattle.tap_runs.specs.Course.{system_of}
use Rattle.tap_safe_runs.specs.Lawful.{beginning_in}
use Rattle.tap_safe_runs.specs.SafeLogs.{OfLawfulLogs}
use Rattle.tap_safe_runs.specs.Moments.{AtEachMoment}
use Rattle.tap_safe_runs.specs.Safe.{IsRun}
use Rattle.tap_safe_runs.proofs.Lawful.{lawful_logs_are_safe}
use Rattle.tap_safe_runs.proofs.Safe.{run_at_moment, runs_are_sound}
use Rattle.tap_cast_moves.specs.Remembered.{CastMemory}
use Rattle.tap_cast_moves.specs.SeenCasts.{seen_node, seen_session}
use Rattle.tap_cast_moves.specs.CastSessions.{CastSessions}
use Rattle.tap_cast_moves.proofs.View.{among_seen, session_seen}
use Rattle.tap_cast_runs.specs.RunCasts.{casts_of}
use Rattle.tap_cast_runs.specs.AwaitedAnswers.{AnswersAreAwaited, HasCastSession, HasJoinSession, RestHasNoCastSessions}
use Rattle.tap_cast_runs.proofs.Casts.{rest_no_casts, run_casts_kept}

-- ---- answers of joins

module _ (p : SettingsValue) (s : System) (basis : Basis p s) (from to : List ℕ) (body : Body) (session : ℕ) (way : IsUnderWay s from to body)
    (belongs : Belongs (record { from = from; to = to; body = body }) to session) where
  has_join_session : HasJoinSession s to session
  has_join_session =
      let awaits = basis.exact.frames way.number (record { from = from; to = to; body = body }) to session way.among belongs in
      let place = basis.places.places to session awaits.session awaits.is in
      let kept = basis.counted.kept to session awaits.session place.state awaits.is place.is in
      record { state = place.state; is = place.is; session = kept.0; open_session = kept.1 }

-- ---- answers of casts

module _ (p : SettingsValue) (s : System) (r : CastMemory) (sound : CastSessions p s r) where
  -- a session that is seen is one of casts
  of_seen : (node : NodeState) (number : ℕ) (kept : Session) → join_session_at (seen_node node) number ≡ Some kept
      → (session : Session) × (cast_session_at node number ≡ Some session)
  of_seen node number kept is = by (cast_session_at node number) refl
    where
      by : (found : Option Session) → cast_session_at node number ≡ found → (session : Session) × (cast_session_at node number ≡ Some session)
      by None none =
          let wrong : None ≡ Some kept = ap (option_map (seen_session node)) (sym none) ∙ sym (session_seen node number) ∙ is in absurd (cc)
      by (Some session) there = (session, there)

  has_cast_session : (from to : List ℕ) (number : ℕ) → IsUnderWay s from to (CastAck number) → HasCastSession s to number
  has_cast_session from to number way =
      let seen_among = among_seen way.number (record { from = from; to = to; body = CastAck number }) s.frames way.among in
      let awaits = sound.sessions.exact.frames way.number (record { from = from; to = to; body = Ack number }) to number seen_among refl in
      let place = sound.places to number awaits.session awaits.is in
      let kept = sound.sessions.counted.kept to number awaits.session (seen_node place.state) awaits.is (ap (option_map seen_node) place.is) in
      let found = of_seen place.state number kept.0 kept.1 in
      record { state = place.state; is = place.is; session = found.0; open_session = found.1 }

  -- while no session is remembered, no node has one
  none_kept : ((x : List ℕ) (number : ℕ) → r.session x number ≡ None) → (x : List ℕ) (node : NodeState) (number : ℕ)
      → s.node x ≡ Some node → cast_session_at node number ≡ None
  none_kept none x node number at = by (cast_session_at node number) refl
    where
      by : (found : Option Session) → cast_session_at node number ≡ found → cast_session_at node number ≡ None
      by None nothing = nothing
      by (Some session) there =
          let remembered = sound.sessions.counted.open_at x number (seen_node node) (seen_session node session)
          (ap (option_map seen_node) at) (session_seen node number ∙ ap (option_map (seen_session node)) there) in
          let wrong : ◌≡◌ {A = Option OpenSession} None (Some remembered.0) = sym (none x number) ∙ remembered.1 in
          absurd (cc)

-- ---- runs

pub run_answers_awaited : (b : Beginning) (log : List Record) → IsRun b log → AnswersAreAwaited b.settings log
run_answers_awaited b log run =
    let basis = (runs_are_sound b log run).invariant.basis in
    record {
      heards = λ from to session way. has_join_session b.settings (system_of log) basis from to (Heard session) session way refl;
      acks = λ from to session way. has_join_session b.settings (system_of log) basis from to (Ack session) session way refl;
      cast_acks = λ from to session way.
          has_cast_session b.settings (system_of log) (casts_of log) (run_casts_kept b log run).sessions from to session way;
    }

run_rest_sessions : (b : Beginning) (log : List Record) → IsRun b log → RestHasNoCastSessions b.settings log
run_rest_sessions b log run rest =
    none_kept b.settings (system_of log) (casts_of log) (run_casts_kept b log run).sessions (rest_no_casts b log run rest).sessions

-- ---- each moment

pub answers_awaited_at : AtEachMoment AnswersAreAwaited
answers_awaited_at b log m run is = run_answers_awaited b (take m log) (run_at_moment b log m run is)

pub rest_sessions_at : AtEachMoment RestHasNoCastSessions
rest_sessions_at b log m run is = run_rest_sessions b (take m log) (run_at_moment b log m run is)

pub lawful_answers_awaited : OfLawfulLogs AnswersAreAwaited
lawful_answers_awaited s log valid played m = answers_awaited_at (beginning_in s) log m (lawful_logs_are_safe.runs s log valid played)

pub lawful_rest_sessions : OfLawfulLogs RestHasNoCastSessions
lawful_rest_sessions s log valid played m = rest_sessions_at (beginning_in s) log m (lawful_logs_are_safe.runs s log valid played)
