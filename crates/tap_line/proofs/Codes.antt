-- the codes of refusals
use Rattle.std.proofs.Common.{◌≡◌, ℕ, decimal, Some, refl}
use Rattle.std.specs.Fmt.{digits}
use Rattle.tap_line.specs.declared.refusals.RefusalKind.{RefusalKind}
use Rattle.tap_line.specs.declared.refusals.RefusalKind.TheVariants.{NoSuchNode, NotCore, Departing, NotAtRest, NameTaken, TooManyNodes, LastNode, AlreadyPublished, NotPublished, NoSuchFlight, NoSuchByte, Readable, NotJoining, AlreadyAbandoned, TooManyPackets, NotInPrefix}
use Rattle.tap_line.specs.Refusal.{chosen_refusal, text_of_code}

-- the number of a code
abbrev pub number_of : RefusalKind → ℕ
number_of NoSuchNode = 1
number_of NotCore = 2
number_of Departing = 3
number_of NotAtRest = 4
number_of NameTaken = 5
number_of TooManyNodes = 6
number_of LastNode = 7
number_of AlreadyPublished = 8
number_of NotPublished = 9
number_of NoSuchFlight = 10
number_of NoSuchByte = 11
number_of Readable = 12
number_of NotJoining = 13
number_of AlreadyAbandoned = 14
number_of TooManyPackets = 15
number_of NotInPrefix = 16

-- its text
pub code_text : (kind : RefusalKind) → text_of_code kind ≡ decimal (number_of kind)
unfolding digits
code_text NoSuchNode = refl
code_text NotCore = refl
code_text Departing = refl
code_text NotAtRest = refl
code_text NameTaken = refl
code_text TooManyNodes = refl
code_text LastNode = refl
code_text AlreadyPublished = refl
code_text NotPublished = refl
code_text NoSuchFlight = refl
code_text NoSuchByte = refl
code_text Readable = refl
code_text NotJoining = refl
code_text AlreadyAbandoned = refl
code_text TooManyPackets = refl
code_text NotInPrefix = refl

-- it tells the refusal
pub code_chosen : (kind : RefusalKind) → chosen_refusal (text_of_code kind) ≡ Some kind
code_chosen NoSuchNode = refl
code_chosen NotCore = refl
code_chosen Departing = refl
code_chosen NotAtRest = refl
code_chosen NameTaken = refl
code_chosen TooManyNodes = refl
code_chosen LastNode = refl
code_chosen AlreadyPublished = refl
code_chosen NotPublished = refl
code_chosen NoSuchFlight = refl
code_chosen NoSuchByte = refl
code_chosen Readable = refl
code_chosen NotJoining = refl
code_chosen AlreadyAbandoned = refl
code_chosen TooManyPackets = refl
code_chosen NotInPrefix = refl
