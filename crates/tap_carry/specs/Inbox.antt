-- The inbox of a node: which numbers of which senders have arrived.
use Rattle.std.specs.Prelude.{◌≡◌, ℕ, nat_le, Bool, ◌&&◌, ◌||◌, List}
use Rattle.std.specs.List.{list_any}
use Rattle.tap_carry.specs.Names.{is_same, number_of}

-- For each sender the number up to which all have arrived, and those beyond that have.
pub record InboxValue : Type 0 where
  pub reached : List (List ℕ × ℕ)
  pub beyond : List (List ℕ × ℕ)

-- whether this pair of a name and a number is among these
abbrev pub has_pair : List (List ℕ × ℕ) → List ℕ → ℕ → Bool
has_pair pairs name number = list_any (λ p. is_same name number p.0 p.1) pairs

-- whether the number of a sender has arrived
abbrev pub has_arrived : InboxValue → List ℕ → ℕ → Bool
has_arrived box from seq = (nat_le 1 seq && nat_le seq (number_of box.reached from)) || has_pair box.beyond from seq

-- a number of a sender arrives, and no other does
pub record ArrivesIn (before after : InboxValue) (from : List ℕ) (seq : ℕ) : Type 0 where
  pub is : (x : List ℕ) (k : ℕ) → has_arrived after x k ≡ (has_arrived before x k || is_same from seq x k)
