-- What the maps of an inbox keep.
use Rattle.std.specs.Prelude.{◌≡◌, ℕ, ◌+◌, ◌<◌, ◌≤◌, ◌^◌, true, not, ◌&&◌, nat_lt, nat_le, List}
use Rattle.tap_carry.specs.Names.{is_name, number_of}
use Rattle.tap_carry.specs.Inbox.{has_pair}

-- Each number that is kept by itself lies beyond a gap: the one after those that have all arrived is missing.
pub record IsInbox (reached beyond : List (List ℕ × ℕ)) : Type 0 where
  pub gap : (from : List ℕ) (seq : ℕ) → has_pair beyond from seq ≡ true → (number_of reached from + 1 < seq) × (seq < 2 ^ 32)

-- the numbers of a sender after `seq`, up to `end`, were there, and are taken out
pub record ArePassed (before after : List (List ℕ × ℕ)) (from : List ℕ) (seq end : ℕ) : Type 0 where
  pub order : seq ≤ end
  pub taken : (k : ℕ) → seq < k → k ≤ end → has_pair before from k ≡ true
  pub left : (x : List ℕ) (k : ℕ) → has_pair after x k ≡ (has_pair before x k && not (is_name from x && nat_lt seq k && nat_le k end))
