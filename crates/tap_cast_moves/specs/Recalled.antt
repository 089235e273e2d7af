-- What is remembered of the casts of a system after a move.
use Rattle.std.specs.Prelude.{ℕ, nat_eq, nat_le, Bool, true, false, ◌==◌, ◌&&◌, ◌||◌, if◌then◌else◌, List, ◌+◌, length, Option, None, Some}
use Rattle.std.specs.Cmp.Lexicographic.{pointwise}
use Rattle.std.specs.Option.{option_map}
use Rattle.tap_name.specs.Prefix.{lcp}
use Rattle.tap_name.specs.Settings.{SettingsValue}
use Rattle.tap_wire.specs.declared.frame.Frame.{Frame}
use Rattle.tap_rule.specs.Act.{act}
use Rattle.tap_rule.specs.Event.{Acted, News, Start}
use Rattle.tap_rule.specs.Event.Event.{Starts, Takes}
use Rattle.tap_rule.specs.Event.News.{Cast as CastNews}
use Rattle.tap_rule.specs.Event.Start.{Cast as StartCast}
use Rattle.tap_rule.specs.Node.{NodeState, Status}
use Rattle.tap_rule.specs.Node.Status.{Core, Leaving}
use Rattle.tap_safety.specs.Move.{Move}
use Rattle.tap_safety.specs.Move.Move.{Begins, Delivers}
use Rattle.tap_safety.specs.Moved.{numbered_frame, starter}
use Rattle.tap_safety.specs.Exchanges.{numbered_from}
use Rattle.tap_safety.specs.System.{System}
use Rattle.tap_safety.specs.Turned.{Taking, sessions_with}
use Rattle.tap_cast_moves.specs.Remembered.{CastMemory, CastRun}
use Rattle.tap_cast_moves.specs.SeenCasts.{seen_frame, seen_frames, seen_node, seen_start}

-- ---- casts

-- whether this is a core node; a leaving node counts as core
abbrev pub is_core_status : Status → Bool
is_core_status Core = true
is_core_status Leaving = true
is_core_status other = false

abbrev pub is_core : Option NodeState → Bool
is_core None = false
is_core (Some node) = is_core_status node.status

-- the core nodes that share so many digits with this one
abbrev pub audience_of : System → List ℕ → ℕ → List ℕ → Bool
audience_of s x level y = is_core (s.node y) && nat_le level (lcp x y)

-- in this place stands this
abbrev pub run_put : (ℕ → Option CastRun) → ℕ → Option CastRun → ℕ → Option CastRun
run_put runs cast run other = if other == cast then run else runs other

-- a cast as it starts: it has reached nobody
abbrev pub run_begun : System → List ℕ → ℕ → CastRun
run_begun s x level =
    record { caster = x; level = level; audience = audience_of s x level; reached = λ y. false; closed = false }

abbrev pub runs_begun : System → CastMemory → List ℕ → Start → ℕ → Option CastRun
runs_begun s r x (StartCast cast level word) = run_put r.cast cast (Some (run_begun s x level))
runs_begun s r x other = r.cast

-- it has reached this name, and is closed, or one of the two
abbrev pub run_marked : List ℕ → Bool → Bool → CastRun → CastRun
run_marked x reached closed run =
    record run { reached = λ y. (reached && pointwise nat_eq y x) || run.reached y; closed = closed || run.closed }

-- what the news of a node say of casts
abbrev pub runs_noted : (ℕ → Option CastRun) → List ℕ → News → ℕ → Option CastRun
runs_noted runs x (CastNews cast reached closed) = run_put runs cast (option_map (run_marked x reached closed) (runs cast))
runs_noted runs x other = runs

-- ---- moves

-- a frame that is taken, as casts are seen
abbrev pub seen_taking : System → ℕ → Frame → NodeState → Acted → Taking
seen_taking s number frame node acted = record {
  number = number;
  frame = frame;
  before = seen_node node;
  after = seen_node acted.state;
  sent = seen_frames (numbered_from s.next acted.sent);
}

-- a node has done this, at such a frame
abbrev pub recalled_after : System → CastMemory → (ℕ → Option CastRun) → ℕ → Frame → NodeState → Acted → CastMemory
recalled_after s r runs number frame node acted = record {
  session = sessions_with r.session (seen_taking s number frame node acted);
  cast = runs_noted runs frame.to acted.news;
}

-- the frame as which a start is seen, with a number of its own
abbrev pub start_frame : List ℕ → Start → Frame
start_frame x start = record { from = x; to = x; body = seen_start start }

abbrev pub recalled_start : System → CastMemory → List ℕ → Start → Option NodeState → CastMemory
recalled_start s r x start None = r
recalled_start s r x start (Some node) =
    let acted = act node (Starts start) in
    recalled_after s r (runs_begun s r x start) (s.next + length acted.sent) (start_frame x start) node acted

abbrev pub recalled_frame : System → CastMemory → ℕ → Frame → Option NodeState → CastMemory
recalled_frame s r number frame None = r
recalled_frame s r number frame (Some node) =
    recalled_after s r r.cast number (seen_frame frame) node (act node (Takes frame))

abbrev pub recalled_delivery : System → CastMemory → ℕ → Option Frame → CastMemory
recalled_delivery s r number None = r
recalled_delivery s r number (Some frame) = recalled_frame s r number frame (s.node frame.to)

-- what is remembered after a move
unfoldable pub recalled : SettingsValue → System → CastMemory → Move → CastMemory
recalled p s r (Begins x start) = recalled_start s r x start (starter p s x start)
recalled p s r (Delivers number) = recalled_delivery s r number (numbered_frame number s.frames)
