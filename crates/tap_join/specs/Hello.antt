-- What a joining node does at a Hello: one after another, it takes the sender and the links as names that it is offered.
use Rattle.std.specs.Prelude.{ℕ, nat_eq, Bool, if◌then◌else◌, List, [], ◌∷◌, ◌++◌, Option, None, Some}
use Rattle.std.specs.Cmp.Lexicographic.{pointwise}
use Rattle.tap_name.specs.declared.slot.Offered.{Offered}
use Rattle.tap_table.specs.declared.tie.Tie.{Tie}
use Rattle.tap_table.specs.Ties.{TiesValue, offer_tells, offered, pin_tells, pinned, stamp_after}

-- whether a name is that of the node itself
abbrev pub is_own : TiesValue → Offered → Bool
is_own ties link = pointwise nat_eq link.name ties.table.owner

-- the ties after one name: offered if it is a core node's, pinned otherwise, and as they were if it is the node's own
abbrev pub with_offered : TiesValue → Offered → TiesValue
with_offered ties link =
    if is_own ties link then ties else (if link.settled then offered ties link.name else pinned ties link.name)

-- and the word for its node, if a link was added
abbrev pub offered_tells : TiesValue → ℕ → Offered → Option Tie
offered_tells ties last link =
    if is_own ties link then None else (if link.settled then offer_tells ties last link.name else pin_tells ties last link.name)

-- the words that there are: one or none
abbrev pub words_of : Option Tie → List Tie
words_of None = []
words_of (Some tie) = tie ∷ []

-- the ties after these names, one after another
abbrev pub after_links : TiesValue → List Offered → TiesValue
after_links ties [] = ties
after_links ties (link ∷ links) = after_links (with_offered ties link) links

-- and the words for their nodes, in this order
abbrev pub links_tell : TiesValue → ℕ → List Offered → List Tie
links_tell ties last [] = []
links_tell ties last (link ∷ links) =
    let word = offered_tells ties last link in words_of word ++ links_tell (with_offered ties link) (stamp_after last word) links

-- the names of a Hello: its sender, which is a core node if the flag says so, and then its links
abbrev pub hello_names : List ℕ → Bool → List Offered → List Offered
hello_names from core links = record { name = from; settled = core } ∷ links

-- the ties after a Hello, and the words that it makes the node send
abbrev pub after_hello : TiesValue → List ℕ → Bool → List Offered → TiesValue
after_hello ties from core links = after_links ties (hello_names from core links)

abbrev pub hello_tells : TiesValue → ℕ → List ℕ → Bool → List Offered → List Tie
hello_tells ties last from core links = links_tell ties last (hello_names from core links)
