-- The outbox of a node: what it sent that awaits its acknowledgement.
use Rattle.std.specs.Prelude.{◌≡◌, ℕ, ◌+◌, ◌<◌, ◌≤◌, Bool, false, not, if◌then◌else◌, List, [], ◌∷◌, ◌++◌, filter, All, AllPairs}
use Rattle.std.specs.List.{list_any}
use Rattle.tap_carry.specs.declared.outbox.Await.{Await}
use Rattle.tap_carry.specs.Names.{is_name, is_same, number_of}

-- what awaits its acknowledgement, ascending by frame; the last number for each receiver; and the least frame that may be sent, one
-- above the last that was sent
pub record OutboxValue : Type 0 where
  pub awaits : List Await
  pub last : List (List ℕ × ℕ)
  pub next : ℕ

-- the last number for a receiver, 0 if none was given
abbrev pub last_to : OutboxValue → List ℕ → ℕ
last_to box to = number_of box.last to

-- this is what awaits the acknowledgement of this number from this receiver
abbrev pub is_await : List ℕ → ℕ → Await → Bool
is_await to seq item = is_same item.to item.seq to seq

-- whether the frame of this number to this receiver awaits its acknowledgement
abbrev pub awaits_one : OutboxValue → List ℕ → ℕ → Bool
awaits_one box to seq = list_any (is_await to seq) box.awaits

abbrev pub await_with : List ℕ → ℕ → ℕ → Await
await_with to seq frame = record { to = to; seq = seq; frame = frame }

-- A frame is sent: it awaits with the number after the last one for its receiver, and other receivers' numbers stay.
pub record SendsTo (before after : OutboxValue) (to : List ℕ) (frame : ℕ) : Type 0 where
  pub awaits : after.awaits ≡ before.awaits ++ await_with to (last_to before to + 1) frame ∷ []
  pub last : (x : List ℕ) → last_to after x ≡ (if is_name to x then last_to before to + 1 else last_to before x)
  pub next : after.next ≡ frame + 1

-- what awaits without the frame of this number to this receiver
abbrev pub awaits_less : List Await → List ℕ → ℕ → List Await
awaits_less awaits to seq = filter (λ item. not (is_await to seq item)) awaits

-- the frame of this number to this receiver is acknowledged
abbrev pub acked_by : OutboxValue → List ℕ → ℕ → OutboxValue
acked_by box from seq = record box { awaits = awaits_less box.awaits from seq }

-- The frames that await ascend, and no two have one receiver and one number. Each was sent, with a number that was given.
pub record AreAwaiting (box : OutboxValue) : Type 0 where
  pub ascending : AllPairs (λ a b. a.frame < b.frame) box.awaits
  pub apart : AllPairs (λ a b. is_await a.to a.seq b ≡ false) box.awaits
  pub sent : All (λ a. a.frame < box.next) box.awaits
  pub given : All (λ a. (1 ≤ a.seq) × (a.seq ≤ last_to box a.to)) box.awaits

-- frames have numbers below this one
abbrev pub most_frames : ℕ
most_frames = 4000000000
