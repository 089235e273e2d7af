-- texts without line feeds: of steps, refusals and faults
use Rattle.std.proofs.Common.{◌≡◌, ◌==◌, ℕ, ◌^◌, ◌<◌, ◌≤◌, Bool, true, false, not, arith, List, [], ◌∷◌, ◌++◌, decimal, codes, refl}
use Rattle.std.specs.List.{list_all}
use Rattle.std.proofs.lemmas.Bool.{not-true}
use Rattle.std.proofs.lemmas.List.Elements.{All-append}
use Rattle.std.proofs.lemmas.List.Sums.{AllPass-from_list_all}
use Rattle.tap_name.specs.Settings.{SettingsValue}
use Rattle.tap_name.specs.Name.{text_of_name}
use Rattle.tap_scenario.specs.Step.{IsStep, text_of_prefix, text_of_step}
use Rattle.tap_scenario.specs.declared.step.Step.{Step}
use Rattle.tap_scenario.specs.declared.step.Step.TheVariants.{Join, Depart, Publish, Withdraw, Find, Walk, Root, Deliver, Settle, SettleNewest, SettleMixed, Table, Pointers, Garble, Cut, Abandon, Tick, Lose, Repeat, RootSet, Cast}
use Rattle.tap_wire.specs.declared.fault.WireFault.{WireFault}
use Rattle.tap_wire.specs.declared.fault.WireFault.TheVariants as fault
use Rattle.tap_log.specs.declared.record.Refusal.{Refusal}
use Rattle.tap_log.specs.declared.record.Refusal.TheVariants as refusal
use Rattle.tap_report.specs.Frames.{words_of_fault}
use Rattle.tap_report.specs.Refusal.{words_of_refusal}
use Rattle.tap_line.specs.Laws.{HasNoFeed}
use Rattle.tap_line.specs.Line.{IsFault, IsRefusal}
use Rattle.tap_line.proofs.Plain.{name_plain, number_plain, plain_no_feed, word_plain}

-- there is no line feed in this, by a test
pub told_no_feed : (text : List ℕ) → list_all (λ byte. not (byte == 10)) text ≡ true → HasNoFeed text
told_no_feed text passes = λ k d h. not-true _ (AllPass-from_list_all (λ byte. not (byte == 10)) text passes k d h)

pub both_no_feed : (text more : List ℕ) → HasNoFeed text → HasNoFeed more → HasNoFeed (text ++ more)
both_no_feed text more one other = All-append (λ byte. (byte == 10) ≡ false) text more one other

pub name_no_feed : (name : List ℕ) → HasNoFeed (text_of_name name)
name_no_feed name = plain_no_feed (text_of_name name) (name_plain name)

pub number_no_feed : (n limit : ℕ) → n < limit → limit ≤ 2 ^ 64 → HasNoFeed (decimal n)
number_no_feed n limit below most = plain_no_feed (decimal n) (number_plain n limit below most)

prefix_no_feed : (prefix : List ℕ) → HasNoFeed (text_of_prefix prefix)
prefix_no_feed [] = told_no_feed (codes "*") refl
prefix_no_feed (digit ∷ digits) = name_no_feed (digit ∷ digits)

-- a word and a name
named : (word name : List ℕ) → list_all (λ byte. not (byte == 10)) word ≡ true → HasNoFeed (word ++ text_of_name name)
named word name passes = both_no_feed word (text_of_name name) (told_no_feed word passes) (name_no_feed name)

-- a word and a name, and another after a word of its own
paired : (word name link other : List ℕ) → list_all (λ byte. not (byte == 10)) word ≡ true → list_all (λ byte. not (byte == 10)) link ≡ true
    → HasNoFeed (word ++ text_of_name name ++ link ++ text_of_name other)
paired word name link other passes also =
    both_no_feed (word ++ text_of_name name ++ link) (text_of_name other)
    (both_no_feed (word ++ text_of_name name) link (named word name passes) (told_no_feed link also)) (name_no_feed other)

-- a word and a number
counted : (word : List ℕ) (n limit : ℕ) → list_all (λ byte. not (byte == 10)) word ≡ true → n < limit → limit ≤ 2 ^ 64
    → HasNoFeed (word ++ decimal n)
counted word n limit passes below most =
    both_no_feed word (decimal n) (told_no_feed word passes) (number_no_feed n limit below most)

-- a number after a text and a word
then_number : (text link : List ℕ) (n limit : ℕ) → HasNoFeed text → list_all (λ byte. not (byte == 10)) link ≡ true → n < limit
    → limit ≤ 2 ^ 64 → HasNoFeed (text ++ link ++ decimal n)
then_number text link n limit none passes below most =
    both_no_feed (text ++ link) (decimal n) (both_no_feed text link none (told_no_feed link passes)) (number_no_feed n limit below most)

-- the text of a step
pub step_no_feed : (p : SettingsValue) (carrier : Bool) (step : Step) → IsStep p carrier step → HasNoFeed (text_of_step step)
step_no_feed p carrier (Join name via) is = paired (codes "join ") name (codes " via ") via refl refl
step_no_feed p carrier (Depart name) is = named (codes "leave ") name refl
step_no_feed p carrier (Publish object server) is = paired (codes "publish ") object (codes " at ") server refl refl
step_no_feed p carrier (Withdraw object server) is = paired (codes "withdraw ") object (codes " at ") server refl refl
step_no_feed p carrier (Find object asker) is = paired (codes "find ") object (codes " from ") asker refl refl
step_no_feed p carrier (Walk object asker) is = paired (codes "walk ") object (codes " from ") asker refl refl
step_no_feed p carrier (Root object) is = named (codes "root ") object refl
step_no_feed p carrier (Deliver place) is = counted (codes "deliver ") place (2 ^ 32) refl is (omega arith)
step_no_feed p carrier Settle is = told_no_feed (codes "settle") refl
step_no_feed p carrier SettleNewest is = told_no_feed (codes "settle newest") refl
step_no_feed p carrier (SettleMixed seed) is = counted (codes "settle mixed ") seed (2 ^ 64) refl is (omega arith)
step_no_feed p carrier (Table name) is = named (codes "table ") name refl
step_no_feed p carrier (Pointers name) is = named (codes "pointers ") name refl
step_no_feed p carrier (Garble place at byte) is =
    then_number (codes "garble " ++ decimal place ++ codes " " ++ decimal at) (codes " ") byte 256
    (then_number (codes "garble " ++ decimal place) (codes " ") at (2 ^ 32) (counted (codes "garble ") place (2 ^ 32) refl is.1 (omega arith)) refl
    is.2 (omega arith)) refl is.3 (omega arith)
step_no_feed p carrier (Cut place bytes) is =
    then_number (codes "cut " ++ decimal place) (codes " ") bytes (2 ^ 32) (counted (codes "cut ") place (2 ^ 32) refl is.1 (omega arith)) refl is.2
    (omega arith)
step_no_feed p carrier (Abandon name) is = named (codes "abandon ") name refl
step_no_feed p carrier Tick is = told_no_feed (codes "tick") refl
step_no_feed p carrier (Lose place) is = counted (codes "lose ") place (2 ^ 32) refl is.1 (omega arith)
step_no_feed p carrier (Repeat place) is = counted (codes "repeat ") place (2 ^ 32) refl is.1 (omega arith)
step_no_feed p carrier (RootSet object asker) is = paired (codes "rootset ") object (codes " from ") asker refl refl
step_no_feed p carrier (Cast word prefix asker) is =
    let begun = both_no_feed (codes "cast ") word (told_no_feed (codes "cast ") refl) (plain_no_feed word (word_plain word is.0)) in
    let to = both_no_feed (codes "cast " ++ word) (codes " to ") begun (told_no_feed (codes " to ") refl) in
    let there = both_no_feed (codes "cast " ++ word ++ codes " to ") (text_of_prefix prefix) to (prefix_no_feed prefix) in
    let from =
    both_no_feed (codes "cast " ++ word ++ codes " to " ++ text_of_prefix prefix) (codes " from ") there (told_no_feed (codes " from ") refl) in
    both_no_feed (codes "cast " ++ word ++ codes " to " ++ text_of_prefix prefix ++ codes " from ") (text_of_name asker) from (name_no_feed asker)

-- the words of a refusal
pub refusal_no_feed : (p : SettingsValue) (why : Refusal) → IsRefusal p why → HasNoFeed (words_of_refusal why)
refusal_no_feed p refusal.NoSuchNode is = told_no_feed (codes "no such node") refl
refusal_no_feed p refusal.NotCore is = told_no_feed (codes "not core") refl
refusal_no_feed p (refusal.Departing leaver) is = named (codes "departing ") leaver refl
refusal_no_feed p (refusal.NotAtRest count) is = counted (codes "not at rest ") count (2 ^ 32) refl is (omega arith)
refusal_no_feed p refusal.NameTaken is = told_no_feed (codes "name taken") refl
refusal_no_feed p refusal.TooManyNodes is = told_no_feed (codes "too many nodes") refl
refusal_no_feed p refusal.LastNode is = told_no_feed (codes "last node") refl
refusal_no_feed p refusal.AlreadyPublished is = told_no_feed (codes "already published") refl
refusal_no_feed p refusal.NotPublished is = told_no_feed (codes "not published") refl
refusal_no_feed p (refusal.NoSuchFlight count) is = counted (codes "no such flight ") count (2 ^ 32) refl is (omega arith)
refusal_no_feed p (refusal.NoSuchByte count) is = counted (codes "no such byte ") count (2 ^ 32) refl is (omega arith)
refusal_no_feed p refusal.Readable is = told_no_feed (codes "readable") refl
refusal_no_feed p refusal.NotJoining is = told_no_feed (codes "not joining") refl
refusal_no_feed p refusal.AlreadyAbandoned is = told_no_feed (codes "already abandoned") refl
refusal_no_feed p (refusal.TooManyPackets count) is = counted (codes "too many packets ") count (2 ^ 32) refl is (omega arith)
refusal_no_feed p refusal.NotInPrefix is = told_no_feed (codes "not in prefix") refl

-- the words of a fault
pub fault_no_feed : (why : WireFault) → IsFault why → HasNoFeed (words_of_fault why)
fault_no_feed (fault.Short n) is = counted (codes "short ") n (2 ^ 64) refl is (omega arith)
fault_no_feed (fault.BadVersion n) is = counted (codes "bad version ") n 256 refl is (omega arith)
fault_no_feed (fault.BadKind n) is = counted (codes "bad kind ") n 256 refl is (omega arith)
fault_no_feed (fault.BadLength n) is = counted (codes "bad length ") n (2 ^ 16) refl is (omega arith)
fault_no_feed (fault.BadCount n) is = counted (codes "bad count ") n 256 refl is (omega arith)
fault_no_feed (fault.Trailing n) is = counted (codes "trailing ") n (2 ^ 64) refl is (omega arith)
fault_no_feed (fault.BadDigit n) is = counted (codes "bad digit ") n (2 ^ 64) refl is (omega arith)
fault_no_feed (fault.BadBody n) is = counted (codes "bad body ") n (2 ^ 64) refl is (omega arith)
fault_no_feed fault.NoMemory is = absurd is
