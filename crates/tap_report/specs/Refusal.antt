-- how a refusal is printed
use Rattle.std.specs.Prelude.{ℕ, List, ◌++◌, codes}
use Rattle.tap_log.specs.declared.record.Refusal.{Refusal}
use Rattle.tap_log.specs.declared.record.Refusal.TheVariants.{NoSuchNode, NotCore, Departing, NotAtRest, NameTaken, TooManyNodes, LastNode, AlreadyPublished, NotPublished, NoSuchFlight, NoSuchByte, Readable, NotJoining, AlreadyAbandoned, TooManyPackets, NotInPrefix}
use Rattle.tap_report.specs.Shapes.{name_after, number_after}

-- the number by which it is known
abbrev pub code_of_refusal : Refusal → ℕ
code_of_refusal NoSuchNode = 1
code_of_refusal NotCore = 2
code_of_refusal (Departing leaver) = 3
code_of_refusal (NotAtRest outstanding) = 4
code_of_refusal NameTaken = 5
code_of_refusal TooManyNodes = 6
code_of_refusal LastNode = 7
code_of_refusal AlreadyPublished = 8
code_of_refusal NotPublished = 9
code_of_refusal (NoSuchFlight count) = 10
code_of_refusal (NoSuchByte length) = 11
code_of_refusal Readable = 12
code_of_refusal NotJoining = 13
code_of_refusal AlreadyAbandoned = 14
code_of_refusal (TooManyPackets made) = 15
code_of_refusal NotInPrefix = 16

-- what it says
abbrev pub words_of_refusal : Refusal → List ℕ
words_of_refusal NoSuchNode = codes "no such node"
words_of_refusal NotCore = codes "not core"
words_of_refusal (Departing leaver) = name_after (codes "departing ") leaver
words_of_refusal (NotAtRest outstanding) = number_after (codes "not at rest ") outstanding
words_of_refusal NameTaken = codes "name taken"
words_of_refusal TooManyNodes = codes "too many nodes"
words_of_refusal LastNode = codes "last node"
words_of_refusal AlreadyPublished = codes "already published"
words_of_refusal NotPublished = codes "not published"
words_of_refusal (NoSuchFlight count) = number_after (codes "no such flight ") count
words_of_refusal (NoSuchByte length) = number_after (codes "no such byte ") length
words_of_refusal Readable = codes "readable"
words_of_refusal NotJoining = codes "not joining"
words_of_refusal AlreadyAbandoned = codes "already abandoned"
words_of_refusal (TooManyPackets made) = number_after (codes "too many packets ") made
words_of_refusal NotInPrefix = codes "not in prefix"

-- the line of a refused step
abbrev pub refused_line : ℕ → Refusal → List ℕ
refused_line index refusal =
    number_after (codes "refused ") index ++ number_after (codes " ") (code_of_refusal refusal) ++ codes " " ++ words_of_refusal refusal
