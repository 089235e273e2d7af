-- After calls of an inbox, the numbers that have arrived are those of the calls that weren't refused.
use Rattle.std.proofs.Common.{◌≡◌, ℕ, Bool, true, false, not, ◌&&◌, ◌||◌, List, [], ◌∷◌, Option, None, Some, is_some, refl, ap, ◌∙◌, arith}
use Rattle.std.proofs.lemmas.Bool.Decides.{nat_tests}
use Rattle.std.specs.List.{list_any}
use Rattle.tap_carry.specs.Names.{is_same}
use Rattle.tap_carry.specs.Inbox.{InboxValue, has_arrived}
use Rattle.tap_carry.specs.Arrivals.{Arrival, AreArrivals, FirstIsTrue, IsAnswered, is_call_for, no_arrivals}

or_assoc : (p q r : Bool) → ((p || q) || r) ≡ (p || (q || r))
or_assoc true q r = refl
or_assoc false q r = refl

or_nothing : (p : Bool) → p ≡ (p || false)
or_nothing true = refl
or_nothing false = refl

-- one call
arrived-by : (answer : Option Bool) (before after : InboxValue) (from : List ℕ) (seq : ℕ) (x : List ℕ) (k : ℕ)
    → IsAnswered answer before after from seq → has_arrived after x k ≡ (has_arrived before x k || (is_some answer && is_same from seq x k))
arrived-by None before after from seq x k is = ap (λ (box : InboxValue). has_arrived box x k) is ∙ or_nothing (has_arrived before x k)
arrived-by (Some first) before after from seq x k is = is.1.is x k

-- and several
pub arrived-after : (calls : List Arrival) (before after : InboxValue) (x : List ℕ) (k : ℕ) → AreArrivals calls before after
    → has_arrived after x k ≡ (has_arrived before x k || list_any (is_call_for x k) calls)
arrived-after [] before after x k are = ap (λ (box : InboxValue). has_arrived box x k) are ∙ or_nothing (has_arrived before x k)
arrived-after (call ∷ calls) before after x k are =
    arrived-after calls are.0 after x k are.2
    ∙ ap (λ b. b || list_any (is_call_for x k) calls) (arrived-by call.answer before are.0 call.from call.seq x k are.1)
    ∙ or_assoc (has_arrived before x k) (is_call_for x k call) (list_any (is_call_for x k) calls)

pub first_is_true : FirstIsTrue
first_is_true earlier from seq first before after are is =
    is.0 ∙ ap not (arrived-after earlier no_arrivals before from seq are ∙ ap (λ b. b || list_any (is_call_for from seq) earlier) (none seq))
  where
    none : (seq : ℕ) → has_arrived no_arrivals from seq ≡ false
    none seq = grind (arith, nat_tests)
