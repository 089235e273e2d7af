-- How many frames of a lookup are under way, and what a move makes of their number.
use Rattle.std.specs.Prelude.{◌≡◌, ◌==◌, ℕ, ◌+◌, Bool, false, if◌then◌else◌, List, Option, None, Some, count_by}
use Rattle.tap_name.specs.Settings.{SettingsValue}
use Rattle.tap_wire.specs.declared.frame.Body.{Body}
use Rattle.tap_wire.specs.declared.frame.Body.TheVariants.{Answer, Find}
use Rattle.tap_wire.specs.declared.frame.Frame.{Frame}
use Rattle.tap_rule.specs.Event.{News, Start}
use Rattle.tap_rule.specs.Event.News.{Answered}
use Rattle.tap_rule.specs.Event.Start.{Find as StartFind}
use Rattle.tap_safety.specs.AtRest.{AreMembers, system_at_rest}
use Rattle.tap_safety.specs.Move.{Move, may_move}
use Rattle.tap_safety.specs.Move.Move.{Begins, Delivers}
use Rattle.tap_safety.specs.Moved.{moved}
use Rattle.tap_safety.specs.System.{System}
use Rattle.tap_safety_moves.specs.Sound.{Sound}
use Rattle.tap_pointer_moves.specs.LookupAnswers.{news_of}
use Rattle.tap_pointer_moves.specs.Lookups.{LookupsGoToCore}

-- this is a Find or an Answer of the lookup of this ticket
abbrev pub is_of_ticket : ℕ → Body → Bool
is_of_ticket ticket (Find number object asker level) = number == ticket
is_of_ticket ticket (Answer number server) = number == ticket
is_of_ticket ticket other = false

-- how many frames of the lookup are under way
abbrev pub lookup_frames : ℕ → System → ℕ
lookup_frames ticket s = count_by (λ (f : ℕ × Frame). is_of_ticket ticket f.1.body) s.frames

-- the lookup starts with this, and so with this move
abbrev pub is_its_start : ℕ → Start → Bool
is_its_start ticket (StartFind number object) = number == ticket
is_its_start ticket other = false

abbrev pub is_started_by : ℕ → Move → Bool
is_started_by ticket (Begins x start) = is_its_start ticket start
is_started_by ticket (Delivers number) = false

-- the news say that it is answered, and so do those of a move
abbrev pub is_its_answer : ℕ → News → Bool
is_its_answer ticket (Answered number server) = number == ticket
is_its_answer ticket other = false

abbrev pub is_noted_in : ℕ → Option News → Bool
is_noted_in ticket None = false
is_noted_in ticket (Some news) = is_its_answer ticket news

-- one if it is so, and none if it isn't
abbrev pub one_if : Bool → ℕ
one_if there = if there then 1 else 0

-- with the members at rest no frame of it is under way
abbrev pub NoLookupFramesAtRest : Type 0
NoLookupFramesAtRest = (p : SettingsValue) (members : List (List ℕ)) (ticket : ℕ) → AreMembers p members
    → lookup_frames ticket (system_at_rest p members) ≡ 0

-- A possible move neither loses a lookup nor doubles it. As many of its frames are under way before the move, with one for its start if it starts
-- with the move, as after it, with one for its answer if the move notes it.
abbrev pub LookupsGoOn : Type 0
LookupsGoOn = (p : SettingsValue) (s : System) (move : Move) (ticket : ℕ) → may_move p s move → Sound p s → LookupsGoToCore s
    → lookup_frames ticket s + one_if (is_started_by ticket move)
    ≡ lookup_frames ticket (moved p s move) + one_if (is_noted_in ticket (news_of p s move))
