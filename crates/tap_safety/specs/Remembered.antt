-- What is remembered of a system beside its nodes and frames: the sessions of joins, the words of links, and a departure.
use Rattle.std.specs.Prelude.{ℕ, Bool, List, Option}
use Rattle.tap_link.specs.declared.kind.Kind.{Kind}

-- what stands for an answer that is to come: a frame under way, by its number, or an open session of another node
pub data Token : Type 0 where
  Way : ℕ → Token
  Child : List ℕ → ℕ → Token

-- an open session: its joiner; the session that it answers in the end, by its node and number, none if it is the root; how many
-- Tells led to it from the root; and the answers that it awaits
pub record OpenSession : Type 0 where
  pub joiner : List ℕ
  pub parent : Option (List ℕ × ℕ)
  pub depth : ℕ
  pub awaits : List Token

-- what a Link says: its version, and whether the link is there
pub record TieWord : Type 0 where
  pub version : ℕ
  pub on : Bool

-- the node that departs: its name, and its links and holders at the start
pub record Leaver : Type 0 where
  pub name : List ℕ
  pub links : List ℕ → Option Kind
  pub holders : List (List ℕ)
