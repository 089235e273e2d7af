-- The kinds of line, and their first words.
use Rattle.std.specs.Prelude.{ℕ, List, [], ◌∷◌, codes}
use Rattle.tap_log.specs.declared.record.Record.TheVariants as item
use Rattle.tap_line.specs.declared.kind.NumberKind.{NumberKind}
use Rattle.tap_line.specs.declared.kind.NumberKind.TheVariants.{Taken, Spent, Done, Arrived, Lost, Closed}
use Rattle.tap_line.specs.declared.kind.NameKind.{NameKind}
use Rattle.tap_line.specs.declared.kind.NameKind.TheVariants.{Core, Gone, Abandoned, Member}
use Rattle.tap_line.specs.declared.kind.PairKind.{PairKind}
use Rattle.tap_line.specs.declared.kind.PairKind.TheVariants.{Rooted, Published, Withdrawn}
use Rattle.tap_line.specs.declared.kind.Kind.{Kind}
use Rattle.tap_line.specs.declared.kind.Kind.TheVariants.{Number, Name, Pair, Begin, Step, Sent, Walked, Asked, Answered, Table, Link, Pointers, Pointer, Refused, Garbled, Carrier, Packet, Ticked, RootSet, Cast, Reached, End}
use Rattle.tap_line.specs.declared.line.Line.{Line}
use Rattle.tap_line.specs.declared.line.Line.TheVariants as line

-- all kinds, those that long texts have most first
abbrev pub line_kinds : List Kind
line_kinds =
    Sent ∷ Number Taken ∷ Packet ∷ Number Arrived ∷ Link ∷ Pointer ∷ Step ∷ Ticked ∷ Number Lost ∷ Walked
    ∷ Name Core ∷ Name Gone ∷ Reached ∷ Asked ∷ Answered ∷ Pair Published ∷ Pair Withdrawn ∷ Table ∷ Pointers
    ∷ Cast ∷ Number Closed ∷ Refused ∷ Garbled ∷ Pair Rooted ∷ RootSet ∷ Name Abandoned ∷ Name Member
    ∷ Begin ∷ Carrier ∷ Number Spent ∷ Number Done ∷ End ∷ []

-- the first word of the lines of a kind
abbrev pub text_of_kind : Kind → List ℕ
text_of_kind (Number Taken) = codes "taken"
text_of_kind (Number Spent) = codes "spent"
text_of_kind (Number Done) = codes "done"
text_of_kind (Number Arrived) = codes "arrived"
text_of_kind (Number Lost) = codes "lost"
text_of_kind (Number Closed) = codes "closed"
text_of_kind (Name Core) = codes "core"
text_of_kind (Name Gone) = codes "gone"
text_of_kind (Name Abandoned) = codes "abandoned"
text_of_kind (Name Member) = codes "member"
text_of_kind (Pair Rooted) = codes "rooted"
text_of_kind (Pair Published) = codes "published"
text_of_kind (Pair Withdrawn) = codes "withdrawn"
text_of_kind Begin = codes "begin"
text_of_kind Step = codes "step"
text_of_kind Sent = codes "sent"
text_of_kind Walked = codes "walked"
text_of_kind Asked = codes "asked"
text_of_kind Answered = codes "answered"
text_of_kind Table = codes "table"
text_of_kind Link = codes "link"
text_of_kind Pointers = codes "pointers"
text_of_kind Pointer = codes "pointer"
text_of_kind Refused = codes "refused"
text_of_kind Garbled = codes "garbled"
text_of_kind Carrier = codes "carrier"
text_of_kind Packet = codes "packet"
text_of_kind Ticked = codes "ticked"
text_of_kind RootSet = codes "rootset"
text_of_kind Cast = codes "cast"
text_of_kind Reached = codes "reached"
text_of_kind End = codes "tapestry:"

-- the line of a kind with one number
abbrev pub line_of_number : NumberKind → ℕ → Line
line_of_number Taken number = line.Whole (item.Taken number)
line_of_number Spent number = line.Whole (item.Spent number)
line_of_number Done number = line.Whole (item.Finished number)
line_of_number Arrived number = line.Whole (item.Arrived number)
line_of_number Lost number = line.Whole (item.Lost number)
line_of_number Closed number = line.Whole (item.Closed number)

-- the line of a kind with one name
abbrev pub line_of_name : NameKind → List ℕ → Line
line_of_name Core name = line.Whole (item.Core name)
line_of_name Gone name = line.Whole (item.Gone name)
line_of_name Abandoned name = line.Whole (item.Abandoned name)
line_of_name Member name = line.Member name

-- the line of a kind with an object and a node
abbrev pub line_of_pair : PairKind → List ℕ → List ℕ → Line
line_of_pair Rooted object node = line.Whole (item.RootOf object node)
line_of_pair Published object node = line.Whole (item.Published object node)
line_of_pair Withdrawn object node = line.Whole (item.Withdrawn object node)
