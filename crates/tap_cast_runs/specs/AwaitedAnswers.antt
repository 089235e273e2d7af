-- The sessions of the nodes of a run: each answer that is outstanding comes to one that is open, and at rest no session of casts is open.
--
-- Rule: docs/FORMATS.md, "The course of a run".
use Rattle.std.specs.Prelude.{◌≡◌, ℕ, true, List, None, Some}
use Rattle.tap_name.specs.Settings.{SettingsValue}
use Rattle.tap_session.specs.Session.{Session}
use Rattle.tap_wire.specs.declared.frame.Body.TheVariants.{Ack, CastAck, Heard}
use Rattle.tap_log.specs.declared.record.Record.{Record}
use Rattle.tap_history.specs.Moments.{is_rest}
use Rattle.tap_rule.specs.CastSteps.{cast_session_at}
use Rattle.tap_rule.specs.Node.{NodeState, join_session_at}
use Rattle.tap_safety.specs.System.{IsUnderWay, System}
use Rattle.tap_runs.specs.Course.{system_of}

-- x is a node with an open session of a join, which has this number
pub record HasJoinSession (s : System) (x : List ℕ) (number : ℕ) : Type 0 where
  pub state : NodeState
  pub is : s.node x ≡ Some state
  pub session : Session
  pub open_session : join_session_at state number ≡ Some session

-- and one with an open session of casts
pub record HasCastSession (s : System) (x : List ℕ) (number : ℕ) : Type 0 where
  pub state : NodeState
  pub is : s.node x ≡ Some state
  pub session : Session
  pub open_session : cast_session_at state number ≡ Some session

-- Each Heard and each Ack that is outstanding names an open session of a join at its receiver, and each CastAck one of casts.
pub record AnswersAreAwaited (p : SettingsValue) (log : List Record) : Type 0 where
  pub heards : (from to : List ℕ) (session : ℕ) → IsUnderWay (system_of log) from to (Heard session)
      → HasJoinSession (system_of log) to session
  pub acks : (from to : List ℕ) (session : ℕ) → IsUnderWay (system_of log) from to (Ack session)
      → HasJoinSession (system_of log) to session
  pub cast_acks : (from to : List ℕ) (session : ℕ) → IsUnderWay (system_of log) from to (CastAck session)
      → HasCastSession (system_of log) to session

-- at rest no session of casts is open at any node
abbrev pub RestHasNoCastSessions : SettingsValue → List Record → Type 0
RestHasNoCastSessions p log = is_rest log ≡ true → (x : List ℕ) (node : NodeState) (number : ℕ) → (system_of log).node x ≡ Some node
    → cast_session_at node number ≡ None
