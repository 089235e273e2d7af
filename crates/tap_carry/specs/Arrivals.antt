-- Calls of an inbox, one after another.
--
-- Rule: docs/PROTOCOL.md, "Packets".
use Rattle.std.specs.Prelude.{◌≡◌, ℕ, Bool, not, ◌&&◌, List, [], ◌∷◌, Option, None, Some, is_some}
use Rattle.std.specs.List.{list_any}
use Rattle.tap_carry.specs.Names.{is_same}
use Rattle.tap_carry.specs.Inbox.{InboxValue, has_arrived, ArrivesIn}

-- a call of `arrived`: the sender, the number and the answer, none if it was refused
pub record Arrival : Type 0 where
  pub from : List ℕ
  pub seq : ℕ
  pub answer : Option Bool

-- What a call answers and makes of an inbox: a refused one changes nothing, and another answers whether the number hadn't arrived.
abbrev pub IsAnswered : Option Bool → InboxValue → InboxValue → List ℕ → ℕ → Type 0
IsAnswered None before after from seq = after ≡ before
IsAnswered (Some first) before after from seq = (first ≡ not (has_arrived before from seq)) × ArrivesIn before after from seq

-- these calls, one after another
abbrev pub AreArrivals : List Arrival → InboxValue → InboxValue → Type 0
AreArrivals [] before after = after ≡ before
AreArrivals (call ∷ calls) before after =
    (next : InboxValue) × IsAnswered call.answer before next call.from call.seq × AreArrivals calls next after

-- the inbox in which nothing has arrived
abbrev pub no_arrivals : InboxValue
no_arrivals = record { reached = []; beyond = [] }

-- a call for this sender and number that wasn't refused
abbrev pub is_call_for : List ℕ → ℕ → Arrival → Bool
is_call_for from seq call = is_some call.answer && is_same call.from call.seq from seq

-- Of all calls of an inbox, the first one for a sender and number that isn't refused answers true, and no other one does.
abbrev pub FirstIsTrue : Type 0
FirstIsTrue = (earlier : List Arrival) (from : List ℕ) (seq : ℕ) (first : Bool) (before after : InboxValue)
    → AreArrivals earlier no_arrivals before → IsAnswered (Some first) before after from seq
    → first ≡ not (list_any (is_call_for from seq) earlier)
