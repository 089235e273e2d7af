-- Which frames of which senders were taken.
use Rattle.std.specs.Prelude.{◌≡◌, ℕ, Bool, true, not, ◌&&◌, List}
use Rattle.tap_carry.specs.Inbox.{InboxValue, has_arrived, has_pair}

-- the inbox, and the senders and numbers that were entered there of frames that were then refused
pub record IntakeValue : Type 0 where
  pub inbox : InboxValue
  pub refused : List (List ℕ × ℕ)

-- whether the frame of this number of a sender was taken
abbrev pub has_taken : IntakeValue → List ℕ → ℕ → Bool
has_taken taken from seq = has_arrived taken.inbox from seq && not (has_pair taken.refused from seq)

-- each number that was given back was entered
abbrev pub IsIntake : InboxValue → List (List ℕ × ℕ) → Type 0
IsIntake inbox refused = (from : List ℕ) (seq : ℕ) → has_pair refused from seq ≡ true → has_arrived inbox from seq ≡ true
