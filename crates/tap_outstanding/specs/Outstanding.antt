-- Which frames are outstanding: those that were sent and not yet taken.
use Rattle.std.specs.Prelude.{ℕ, ◌==◌, ◌+◌, ◌-◌, ◌<◌, zero, suc, List, [], ◌∷◌, ◌++◌, All, AllPairs, Option, option_and_then, slice_get}
use Rattle.std.specs.List.{position, remove}
use Rattle.tap_outstanding.specs.declared.outstanding.Flight.{Flight}

-- how many frames were sent, those that are outstanding, in the order in which they were sent, and for how many more there is room
pub record OutstandingValue : Type 0 where
  pub sent : ℕ
  pub frames : List Flight
  pub room : ℕ

-- how many frames may be sent
abbrev pub most_sent : ℕ
most_sent = 4000000000

abbrev pub frame_with : ℕ → ℕ → Flight
frame_with number record_place = record { number = number; record_place = record_place }

-- the frames from a number on, of which there are the places of their records and marks, 1 for those that are outstanding
abbrev pub flights_from : ℕ → List ℕ → List ℕ → List Flight
flights_from number [] marks = []
flights_from number (place ∷ places) [] = []
flights_from number (place ∷ places) (zero ∷ marks) = flights_from (suc number) places marks
flights_from number (place ∷ places) (suc mark ∷ marks) = frame_with number place ∷ flights_from (suc number) places marks

-- the frame that is sent next
abbrev pub next_flight : OutstandingValue → ℕ → Flight
next_flight s record_place = frame_with s.sent record_place

-- one more frame is sent; it uses up room if there is any
abbrev pub sent_with : OutstandingValue → ℕ → OutstandingValue
sent_with s record_place = record {
  sent = s.sent + 1;
  frames = s.frames ++ next_flight s record_place ∷ [];
  room = s.room - 1;
}

-- the frame at this place is taken, if there is one
abbrev pub taken_at_place : OutstandingValue → ℕ → OutstandingValue
taken_at_place s place = record s { frames = remove s.frames place }

-- the place of the frame with this number
abbrev pub place_of_number : List Flight → ℕ → Option ℕ
place_of_number frames number = position (λ f. f.number == number) frames

-- the frame with this number, if it is outstanding
abbrev pub frame_of_number : List Flight → ℕ → Option Flight
frame_of_number frames number = option_and_then (slice_get frames) (place_of_number frames number)

-- the numbers ascend, and each was sent
pub record AreOutstanding (s : OutstandingValue) : Type 0 where
  pub ascending : AllPairs (λ a b. a.number < b.number) s.frames
  pub given : All (λ f. f.number < s.sent) s.frames
