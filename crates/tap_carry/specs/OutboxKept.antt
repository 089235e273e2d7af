-- What an outbox keeps.
use Rattle.std.specs.Prelude.{◌≡◌, ℕ, ◌≤◌, Bool, true, ◌⊎◌, List, filter, length}
use Rattle.std.specs.List.{list_any}
use Rattle.tap_carry.specs.declared.outbox.Await.{Await}
use Rattle.tap_carry.specs.Inbox.{has_pair}
use Rattle.tap_carry.specs.Names.{number_of}
use Rattle.tap_carry.specs.Outbox.{AreAwaiting, is_await, most_frames}

-- whether the receiver and the number of a frame are among these
abbrev pub is_among : List (List ℕ × ℕ) → Await → Bool
is_among ways item = has_pair ways item.to item.seq

-- what awaits: of the frames that were sent those whose receiver and number are among these
abbrev pub awaits_of : List Await → List (List ℕ × ℕ) → List Await
awaits_of sent ways = filter (is_among ways) sent

-- of what was sent all is kept, or all that awaits
abbrev pub LeavesOut : List (List ℕ × ℕ) → List Await → List Await → Type 0
LeavesOut ways before after = (after ≡ before) ⊎ (after ≡ awaits_of before ways)

-- Frames that were sent ascend, with numbers that were given, and no two have one receiver and one number. What awaits was sent, each
-- once. No more numbers were given for a receiver than frames may have been sent.
pub record IsOutbox (sent : List Await) (ways last : List (List ℕ × ℕ)) (next : ℕ) : Type 0 where
  pub valid : AreAwaiting (record { awaits = sent; last = last; next = next })
  pub there : (to : List ℕ) (seq : ℕ) → has_pair ways to seq ≡ true → list_any (is_await to seq) sent ≡ true
  pub counted : length ways ≡ length (awaits_of sent ways)
  pub few : (to : List ℕ) → number_of last to ≤ next
  pub most : next ≤ most_frames
