-- What the news of a node say of casts.
use Rattle.std.specs.Prelude.{◌≡◌, ℕ, ◌≤◌, Bool, true, List, Option, None, Some}
use Rattle.std.specs.Option.{option_map}
use Rattle.tap_name.specs.Prefix.{lcp}
use Rattle.tap_name.specs.Settings.{SettingsValue}
use Rattle.tap_wire.specs.declared.frame.Frame.{Frame}
use Rattle.tap_rule.specs.Act.{act}
use Rattle.tap_rule.specs.Event.{News}
use Rattle.tap_rule.specs.Event.Event.{Starts, Takes}
use Rattle.tap_rule.specs.Event.News.{Cast}
use Rattle.tap_safety.specs.Move.{Move, may_move}
use Rattle.tap_safety.specs.Move.Move.{Begins, Delivers}
use Rattle.tap_safety.specs.Moved.{numbered_frame, starter}
use Rattle.tap_safety.specs.System.{System, IsCoreNode}
use Rattle.tap_safety_moves.specs.Sound.{Sound}
use Rattle.tap_cast_moves.specs.Audience.{CastsAreSound}
use Rattle.tap_cast_moves.specs.SoundCasts.{IsNewCast}
use Rattle.tap_cast_moves.specs.Recalled.{recalled}
use Rattle.tap_cast_moves.specs.Remembered.{CastMemory, CastRun}

-- What x says of a cast is so. If the cast has reached it, x is core and begins with the prefix, and the cast hadn't reached it before. If
-- the cast is closed, it has reached all of its audience, and wasn't closed before.
pub record IsTrueNews (s : System) (r r' : CastMemory) (x : List ℕ) (cast : ℕ) (reached closed : Bool) : Type 0 where
  pub now : CastRun
  pub started : r'.cast cast ≡ Some now
  pub core : reached ≡ true → IsCoreNode s x
  pub begins : reached ≡ true → now.level ≤ lcp now.caster x
  pub reaches : reached ≡ true → now.reached x ≡ true
  pub anew : reached ≡ true → (run : CastRun) → r.cast cast ≡ Some run → run.reached x ≡ true → ⊥
  pub ends : closed ≡ true → now.closed ≡ true
  pub all : closed ≡ true → (e : List ℕ) → now.audience e ≡ true → now.reached e ≡ true
  pub open_before : closed ≡ true → (run : CastRun) → r.cast cast ≡ Some run → run.closed ≡ true → ⊥

abbrev pub NewsAreTrue : System → CastMemory → CastMemory → List ℕ → News → Type 0
NewsAreTrue s r r' x news = (cast : ℕ) (reached closed : Bool) → news ≡ Cast cast reached closed → IsTrueNews s r r' x cast reached closed

-- ---- the news of a move, and whose they are

abbrev pub named_news_of_frame : System → Option Frame → Option (List ℕ × News)
named_news_of_frame s None = None
named_news_of_frame s (Some frame) = option_map (λ node. (frame.to, (act node (Takes frame)).news)) (s.node frame.to)

abbrev pub named_news_of : SettingsValue → System → Move → Option (List ℕ × News)
named_news_of p s (Begins x start) = option_map (λ node. (x, (act node (Starts start)).news)) (starter p s x start)
named_news_of p s (Delivers number) = named_news_of_frame s (numbered_frame number s.frames)

-- what is said of casts at a possible move is so
abbrev pub MoveNewsAreTrue : Type 0
MoveNewsAreTrue = (p : SettingsValue) (s : System) (r : CastMemory) (move : Move) (x : List ℕ) (news : News) → may_move p s move
    → IsNewCast r move → Sound p s → CastsAreSound p s r → named_news_of p s move ≡ Some (x, news)
    → NewsAreTrue s r (recalled p s r move) x news
