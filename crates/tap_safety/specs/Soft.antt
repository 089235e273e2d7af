-- Whom links and frames name: settled links and what is said to be core are core, and what is pinned has at least been started.
use Rattle.std.specs.Prelude.{◌≡◌, ℕ, true, false, List, ◌⊎◌, Option, None, Some}
use Rattle.tap_name.specs.declared.slot.Offered.{Offered}
use Rattle.tap_link.specs.declared.kind.Kind.{Kind}
use Rattle.tap_link.specs.declared.kind.Kind.TheVariants.{Pin, Settled, Leaving as LeavingKind}
use Rattle.tap_rule.specs.Node.{NodeState, hello_names, link_to}
use Rattle.tap_wire.specs.declared.frame.Body.{Body}
use Rattle.tap_wire.specs.declared.frame.Body.TheVariants.{Hello, Leave, Release, Seek, Tell}
use Rattle.tap_wire.specs.declared.frame.Frame.{Frame}
use Rattle.tap_rule.specs.Node.Status.{Ceased as CeasedStatus}
use Rattle.tap_rule.specs.Reaction.{Message}
use Rattle.tap_rule.specs.Sent.{IsAmong}
use Rattle.tap_safety.specs.Frames.{HelloFields, hello_body}
use Rattle.tap_safety.specs.Exchanges.{IsSent}
use Rattle.tap_safety.specs.System.{System, HasLink, IsCoreNode, IsJoiner, IsUnderWay}

-- there is a node of this name that has ceased
pub record IsCeased (s : System) (x : List ℕ) : Type 0 where
  pub state : NodeState
  pub is : s.node x ≡ Some state
  pub ceased : state.status ≡ CeasedStatus

-- a joiner, a core node or one that has ceased: a joining node that isn't started, and one that is gone, is none
abbrev pub IsSoft : System → List ℕ → Type 0
IsSoft s x = IsJoiner s x ⊎ (IsCoreNode s x ⊎ IsCeased s x)

-- the names that a Hello offers, its sender the first
abbrev pub Offers : List ℕ → HelloFields → Offered → Type 0
Offers w hello offered = IsAmong offered (hello_names w hello.is_core hello.links)

-- what a Hello to b may offer: another node, and a core one if it says so
pub record IsSoundOffer (s : System) (b : List ℕ) (offered : Offered) : Type 0 where
  pub core : offered.settled ≡ true → IsCoreNode s offered.name
  pub soft : offered.settled ≡ false → IsSoft s offered.name
  pub apart : offered.name ≡ b → ⊥

-- Settled: settled links, the names that a Hello says to be core, the senders of Releases and replacements are core; and pins and the other
-- names of a Hello are soft.
pub record NamesSoft (s : System) : Type 0 where
  pub settled : (x t : List ℕ) → HasLink s x t Settled → IsCoreNode s t
  pub pins : (x t : List ℕ) → HasLink s x t Pin → IsSoft s t
  pub hellos : (w b : List ℕ) (hello : HelloFields) → IsUnderWay s w b (hello_body hello) → (offered : Offered)
      → Offers w hello offered → IsSoundOffer s b offered
  pub releases : (t x : List ℕ) → IsUnderWay s t x Release → IsCoreNode s t
  pub leaves : (n x r : List ℕ) → IsUnderWay s n x (Leave (Some r)) → IsCoreNode s r

-- a link of this kind is to such a node; none is marked as leaving
abbrev pub IsSoundLink : System → List ℕ → Kind → Type 0
IsSoundLink s t Pin = IsSoft s t
IsSoundLink s t Settled = IsCoreNode s t
IsSoundLink s t LeavingKind = ⊥

-- each new link is to such a node
abbrev pub AddsSoundLinks : System → NodeState → NodeState → Type 0
AddsSoundLinks s before after =
    (t : List ℕ) (kind : Kind) → link_to after t ≡ Some kind → (link_to before t ≡ Some kind) ⊎ IsSoundLink s t kind

abbrev pub IsSoundReplacement : System → Option (List ℕ) → Type 0
IsSoundReplacement s None = Unit
IsSoundReplacement s (Some r) = IsCoreNode s r

-- a frame with these ends may say this
abbrev pub IsSoundBody : System → List ℕ → List ℕ → Body → Type 0
IsSoundBody s from to (Hello session core links) =
    (offered : Offered) → IsAmong offered (hello_names from core links) → IsSoundOffer s to offered
IsSoundBody s from to Release = IsCoreNode s from
IsSoundBody s from to (Leave replacement) = IsSoundReplacement s replacement
IsSoundBody s from to other = Unit

-- each frame that is sent
abbrev pub SendsSound : System → List Frame → Type 0
SendsSound s sent = (from to : List ℕ) (body : Body) → IsSent sent from to body → IsSoundBody s from to body

-- each message that x sends
abbrev pub AreSound : System → List ℕ → List Message → Type 0
AreSound s x messages = (m : Message) → IsAmong m messages → IsSoundBody s x m.to m.body

-- a frame with these ends sends nobody on, and names soft nodes alone
abbrev pub IsQuietBody : System → List ℕ → List ℕ → Body → Type 0
IsQuietBody s from to (Seek joiner) = ⊥
IsQuietBody s from to (Tell joiner prefix level session depth watch) = ⊥
IsQuietBody s from to (Hello session core links) =
    IsSoft s from × IsSoft s to × ((offered : Offered) → IsAmong offered links → IsSoft s offered.name)
IsQuietBody s from to other = Unit

-- each message that x sends
abbrev pub AreQuiet : System → List ℕ → List Message → Type 0
AreQuiet s x messages = (m : Message) → IsAmong m messages → IsQuietBody s x m.to m.body
