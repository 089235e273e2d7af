-- What a step leaves of seekers and of Tells, so that they stay as they are to be.
use Rattle.std.specs.Prelude.{◌≡◌, ℕ, List, [], ◌∷◌, ◌⊎◌}
use Rattle.tap_name.specs.Settings.{SettingsValue}
use Rattle.tap_name.specs.declared.slot.Offered.{Offered}
use Rattle.tap_name.specs.declared.slot.Slot.{Slot}
use Rattle.tap_link.specs.declared.kind.Kind.TheVariants.{Leaving as LeavingKind}
use Rattle.tap_wire.specs.declared.frame.Body.{Body}
use Rattle.tap_wire.specs.declared.frame.Body.TheVariants.{Seek, Tell}
use Rattle.tap_wire.specs.declared.frame.Frame.{Frame}
use Rattle.tap_wire.specs.declared.frame.TellFields.{TellFields}
use Rattle.tap_rule.specs.Sent.{IsAmong}
use Rattle.tap_safety.specs.Frames.{HelloFields, hello_body, tell_body}
use Rattle.tap_safety.specs.System.{System, AmongFrames, CoversAt, HasLink, IsCoreNode, IsJoiner, IsTold, IsUnderWay}
use Rattle.tap_safety.specs.Regions.{Has}
use Rattle.tap_safety.specs.Seeking.{HasNode, IsSeeker}
use Rattle.tap_safety.specs.Soft.{IsQuietBody, IsSoft, NamesSoft}
use Rattle.tap_safety.specs.Exchanges.{IsSent}
use Rattle.tap_safety.specs.Bookkeeping.{HaveEnds}
use Rattle.tap_safety.specs.FrameSteps.{LinksStay, StartsJoin, TakesFrame}
use Rattle.tap_safety.specs.Tells.{IsSoundTell, TellsAreSound}

-- the ends of a Hello, and whom it offers, are soft
pub record AreSoftEnds (s : System) (w b : List ℕ) (hello : HelloFields) : Type 0 where
  pub from : IsSoft s w
  pub to : IsSoft s b
  pub offers : (o : Offered) → IsAmong o hello.links → IsSoft s o.name

-- What may be sent when a joiner is covered, or becomes core: a Tell is sound, and any other frame is quiet, so that a Hello goes between
-- soft nodes and offers such, and there is no Seek.
abbrev pub IsCoverBody : SettingsValue → System → List ℕ → List ℕ → Body → Type 0
IsCoverBody p s from to (Tell joiner prefix level session depth watch) =
    IsSoundTell p s from to (record { joiner = joiner; prefix = prefix; level = level; session = session; depth = depth })
IsCoverBody p s from to other = IsQuietBody s from to other

-- each frame that is sent
abbrev pub SendsCovers : SettingsValue → System → List Frame → Type 0
SendsCovers p s sent = (from to : List ℕ) (body : Body) → IsSent sent from to body → IsCoverBody p s from to body

-- a Seek of x from one name to another, by its number
abbrev pub AmongSeeks : System → List ℕ → List ℕ → List ℕ → ℕ → Type 0
AmongSeeks s x from to m = AmongFrames m (record { from = from; to = to; body = Seek x }) s.frames

-- No joining node that isn't started is new; the Seeks of those that are left stay, and none comes; and each link, Tell, Hello and cover
-- that is new is of soft nodes.
pub record LeavesSeekers (s s' : System) : Type 0 where
  pub was : (x : List ℕ) → IsSeeker s' x → IsSeeker s x
  pub cores : (y : List ℕ) → IsCoreNode s y → IsCoreNode s' y
  pub nodes : (y : List ℕ) → HasNode s y → HasNode s' y
  pub links : (y z : List ℕ) → Has s' y z → Has s y z ⊎ IsSoft s' z
  pub told : (b t : List ℕ) (level : ℕ) → IsTold s' b t level → IsTold s b t level ⊎ (IsSoft s' b × IsSoft s' t)
  pub hellos : (w b : List ℕ) (hello : HelloFields) → IsUnderWay s' w b (hello_body hello)
      → IsUnderWay s w b (hello_body hello) ⊎ AreSoftEnds s' w b hello
  pub covers : (y b : List ℕ) (level : ℕ) → CoversAt s' y b level → CoversAt s y b level ⊎ IsSoft s' b
  pub idle : (x d : List ℕ) (level : ℕ) → IsSeeker s' x → CoversAt s' x d level → CoversAt s x d level
  pub seeks_on : (x from to : List ℕ) (m : ℕ) → IsSeeker s' x → AmongSeeks s x from to m → AmongSeeks s' x from to m
  pub seeks_was : (x from to : List ℕ) (m : ℕ) → AmongSeeks s' x from to m → AmongSeeks s x from to m
  pub still : (x from to : List ℕ) (m : ℕ) → AmongSeeks s' x from to m → IsSeeker s x → IsSeeker s' x

-- Joiners, core nodes, soft nodes and covers stay, and each Tell that is new is sound.
pub record LeavesTells (p : SettingsValue) (s s' : System) : Type 0 where
  pub cores : (y : List ℕ) → IsCoreNode s y → IsCoreNode s' y
  pub softs : (y : List ℕ) → IsSoft s y → IsSoft s' y
  pub covers : (y b : List ℕ) (level : ℕ) → IsCoreNode s y → IsJoiner s b → CoversAt s y b level → (c : ℕ) × CoversAt s' y b c
  pub joiners : (b : List ℕ) → IsJoiner s b → IsJoiner s' b
  pub surrogates : (b : List ℕ) → IsJoiner s b → s'.surrogate b ≡ s.surrogate b
  pub ways : (from to : List ℕ) (fields : TellFields) (watch : List Slot) → IsUnderWay s' from to (tell_body fields watch)
      → IsUnderWay s from to (tell_body fields watch) ⊎ IsSoundTell p s' from to fields

abbrev pub seek_frame : List ℕ → List ℕ → Frame
seek_frame x via = record { from = x; to = via; body = Seek x }

-- who starts to join sends its Seek, and nothing else, to a core node
pub record SeeksBy (s s' : System) (x via : List ℕ) (start : StartsJoin s s' x) : Type 0 where
  pub sent : start.sent ≡ seek_frame x via ∷ []
  pub core : IsCoreNode s via

-- what is to hold before, so that nothing names the new name
pub record BeforeJoin (p : SettingsValue) (s : System) : Type 0 where
  pub soft : NamesSoft s
  pub tells : TellsAreSound p s
  pub ends : HaveEnds s
  pub unmarked : (x t : List ℕ) → HasLink s x t LeavingKind → ⊥

-- A Seek goes on: its taker stays what it is, with its links, and sends it to a core node, and nothing else.
pub record SeekGoesOn (s s' : System) (number : ℕ) (w x b t : List ℕ) : Type 0 where
  pub step : TakesFrame s s' number (record { from = w; to = x; body = Seek b })
  pub links : LinksStay step.before step.after
  pub sent : step.sent ≡ record { from = x; to = t; body = Seek b } ∷ []
  pub core : IsCoreNode s t
