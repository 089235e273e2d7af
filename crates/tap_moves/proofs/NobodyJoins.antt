-- While a node departs nobody joins: what is said of seekers, of sessions and of joiners says nothing then.
use Rattle.std.proofs.Common.{◌≡◌, ℕ, List, Option, None, Some}
use Rattle.tap_name.specs.Settings.{SettingsValue}
use Rattle.tap_link.specs.declared.kind.Kind.{Kind}
use Rattle.tap_session.specs.Session.{Session}
use Rattle.tap_wire.specs.declared.frame.Body.{Body}
use Rattle.tap_wire.specs.declared.frame.Body.TheVariants.{Seek}
use Rattle.tap_rule.specs.Node.{NodeState, join_session_at}
use Rattle.tap_rule.specs.Node.Status.{Joining}
use Rattle.tap_safety.specs.Departing.{WhileDeparting, may_be_then}
use Rattle.tap_safety.specs.Filled.{AreFilled}
use Rattle.tap_safety.specs.Frames.{tell_body}
use Rattle.tap_safety.specs.Joins.{AreOfJoiners}
use Rattle.tap_safety.specs.Parts.{HoleFree}
use Rattle.tap_safety.specs.Remembered.{Leaver, OpenSession}
use Rattle.tap_safety.specs.Seeking.{HasNode, IsSeeker}
use Rattle.tap_safety.specs.Sessions.{IsOpen, session_named}
use Rattle.tap_safety.specs.Exchanges.{AreNumbered}
use Rattle.tap_safety.specs.System.{System, CoversAt, HasLink, IsCoreNode, IsJoiner}
use Rattle.tap_safety.specs.Regions.{Has}
use Rattle.tap_safety.proofs.LinkKeeps.{status_seen}
use Rattle.tap_safety.proofs.Moved.{ascend_one}
use Rattle.tap_safety.proofs.Said.{Said, said_of}
use Rattle.tap_safety.proofs.Said.Said.{IsAck, IsHeard, IsHello, IsTell}
use Rattle.tap_moves.specs.CalmMoves.{AreSought}
use Rattle.tap_moves.specs.PartMoves.{HaveSessions}

-- a frame of a session isn't under way then
belongs_never : {body : Body} → Said body → (from to : List ℕ) (x : List ℕ) (k : ℕ) → may_be_then body
    → ◌≡◌ {A = Option (List ℕ × ℕ)} (session_named body from to) (Some (x, k)) → ⊥
belongs_never (IsTell tell watch) from to x k may is = may
belongs_never (IsHello hello) from to x k may is = may
belongs_never (IsHeard session) from to x k may is = may
belongs_never (IsAck session) from to x k may is = may
belongs_never _ from to x k may is = let wrong : ◌≡◌ {A = Option (List ℕ × ℕ)} None (Some (x, k)) = is in cc

module _ (p : SettingsValue) (s : System) (leaver : Leaver) (during : WhileDeparting s leaver) where
  pub no_joiner : (b : List ℕ) → IsJoiner s b → ⊥
  no_joiner b joiner = during.joining b (status_seen s b joiner.state Joining joiner.is joiner.joining)

  no_seeker : (b : List ℕ) → IsSeeker s b → ⊥
  no_seeker b seeker = during.joining b (status_seen s b seeker.state Joining seeker.is seeker.joining)

  -- without joiners tables without holes are all that is said of covers and joiners
  pub filled_now : HoleFree p s → AreFilled p s
  filled_now holes = record {
    covered = record {
      each = λ w b level core joiner covers. absurd (no_joiner b joiner);
      surrogate = λ b joiner. absurd (no_joiner b joiner);
      joiners = λ x b level joiner covers. no_joiner x joiner;
    };
    meet = record {
      first = λ w b e both inside. absurd (no_joiner b both.joiner);
      second = λ w b e both inside. absurd (no_joiner b both.joiner);
    };
    cover = record { served = λ w b e level claim. absurd (no_joiner b claim.joiner) };
    low = record { given = λ a b joiner core least. absurd (no_joiner a joiner) };
    hole_free = holes;
  }

  pub sought_now : ((y b : List ℕ) (level : ℕ) → CoversAt s y b level → HasNode s b) → AreSought p s
  sought_now covers = record {
    seeking = record {
      seeks = λ x seeker. absurd (no_seeker x seeker);
      unknown = λ x seeker. absurd (no_seeker x seeker);
      idle = λ x d level seeker is. no_seeker x seeker;
      covers = covers;
    };
    seekers = record { seeks = λ from to x way. absurd (during.frames from to (Seek x) way) };
    tells = record { each = λ from to fields watch way. absurd (during.frames from to (tell_body fields watch) way) };
  }

  -- no session is open, since it would be a joiner's
  module _ (numbers : AreNumbered s) (joiners : AreOfJoiners s)
      (kept : (x : List ℕ) (k : ℕ) (state : NodeState) (session : Session) → s.node x ≡ Some state → join_session_at state k ≡ Some session
      → ⊥) where
    no_session : (x : List ℕ) (k : ℕ) (session : OpenSession) → IsOpen s x k session → ⊥
    no_session x k session opened = no_joiner session.joiner (joiners.opened x k session opened)

    pub sessions_now : HaveSessions s
    sessions_now = record {
      exact = record {
        frames = λ number f x k among belongs.
            let may = during.frames f.from f.to f.body (record { number = number; among = among }) in
            absurd (belongs_never (said_of f.body) f.from f.to x k may belongs);
        ways = λ x k number awaits. absurd (no_session x k awaits.session awaits.is);
        parents = λ y l child x k opened above. absurd (no_session y l child opened);
        roots = λ x y k l one two opened other top same mine. absurd (no_session x k one opened);
        numbers = λ number f g one two. ascend_one 0 s.frames s.next number f g numbers.numbers one two;
      };
      awaited = record {
        children = λ x y k l awaits. absurd (no_session x k awaits.session awaits.is);
        apart = λ x k session opened. absurd (no_session x k session opened);
      };
      await = record { some = λ x k session opened none. no_session x k session opened };
      counted = record {
        kept = λ x k session state opened at. absurd (no_session x k session opened);
        open_at = λ x k state session at has. absurd (kept x k state session at has);
      };
      deeper = record {
        depth = λ from to fields watch session way opened. absurd (during.frames from to (tell_body fields watch) way);
        level = λ from to fields watch way. absurd (during.frames from to (tell_body fields watch) way);
      };
      places = record { places = λ x k session opened. absurd (no_session x k session opened) };
    }

-- ---- tables

-- tables have no holes, if the core nodes are the same, and links to them stay
pub holes_stay : (p : SettingsValue) (s s' : System) → ((y : List ℕ) → IsCoreNode s' y → IsCoreNode s y)
    → ((y : List ℕ) → IsCoreNode s y → IsCoreNode s' y)
    → ((x t : List ℕ) (kind : Kind) → IsCoreNode s t → HasLink s x t kind → Has s' x t) → HoleFree p s → HoleFree p s'
holes_stay p s s' was on links holes = record {
  filled = λ x e core other inside.
      let near = holes.filled x e (was x core) (was e other) inside in
      let has = links x near.to near.kind near.core near.link in
      record { to = near.to; core = on near.to near.core; near = near.near; kind = has.kind; link = has.link };
}
