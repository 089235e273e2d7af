-- Lines out: the text of each.
--
-- Rule: docs/NETWORK.md, "Lines".
use Rattle.std.specs.Prelude.{ℕ, if◌then◌else◌, List, [], ◌++◌, codes, decimal, Option, None, Some}
use Rattle.hex.specs.Hex.{encode_lower}
use Rattle.tap_name.specs.Name.{Name, text_of_name}
use Rattle.tap_node_common.specs.declared.news.News.{News}
use Rattle.tap_node_common.specs.declared.news.News.TheVariants.{Nothing, Core, Gone, Answered, Cast}
use Rattle.tap_host_line.specs.declared.why.Why.{Why}
use Rattle.tap_host_line.specs.declared.why.Why.TheVariants as why

-- a packet to hand on: to whom, the number of its frame, and the frame
abbrev pub text_of_packet : Name → ℕ → List ℕ → List ℕ
text_of_packet to seq frame =
    codes "packet " ++ text_of_name to ++ codes " " ++ decimal seq ++ codes " " ++ encode_lower frame ++ codes "\n"

-- an acknowledgement to hand on: to whom, and of which number
abbrev pub text_of_ack : Name → ℕ → List ℕ
text_of_ack to seq = codes "ack " ++ text_of_name to ++ codes " " ++ decimal seq ++ codes "\n"

-- a start was taken
abbrev pub text_of_begun : List ℕ
text_of_begun = codes "begun\n"

-- why a line wasn't taken
abbrev pub word_of_why : Why → List ℕ
word_of_why why.Line = codes "line"
word_of_why why.Late = codes "late"
word_of_why why.Stranger = codes "stranger"
word_of_why why.Status = codes "status"
word_of_why why.Number = codes "number"
word_of_why why.Damaged = codes "damaged"
word_of_why why.Foreign = codes "foreign"
word_of_why why.Strange = codes "strange"
word_of_why why.Room = codes "room"

-- the line of this number wasn't taken
abbrev pub text_of_refused : ℕ → Why → List ℕ
text_of_refused number because = codes "refused " ++ decimal number ++ codes " " ++ word_of_why because ++ codes "\n"

-- who answers a lookup
abbrev pub text_of_lookup_server : Option Name → List ℕ
text_of_lookup_server None = codes "none"
text_of_lookup_server (Some server) = codes "server " ++ text_of_name server

-- the news of a step
abbrev pub text_of_news : News → List ℕ
text_of_news Nothing = []
text_of_news Core = codes "core\n"
text_of_news Gone = codes "gone\n"
text_of_news (Answered ticket server) =
    codes "answered " ++ decimal ticket ++ codes " " ++ text_of_lookup_server server ++ codes "\n"
text_of_news (Cast cast reached closed) =
    (if reached then codes "reached " ++ decimal cast ++ codes "\n" else [])
    ++ (if closed then codes "closed " ++ decimal cast ++ codes "\n" else [])

-- what the node is, by a word
abbrev pub text_of_status : List ℕ → List ℕ
text_of_status word = codes "status " ++ word ++ codes "\n"

-- how many there are of what this word says
abbrev pub text_of_count : List ℕ → ℕ → List ℕ
text_of_count word count = word ++ codes " " ++ decimal count ++ codes "\n"
