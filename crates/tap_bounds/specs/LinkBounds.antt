-- How many Links and Releases are sent in a run in which nothing but joins is started.
use Rattle.std.specs.Prelude.{ℕ, nat_eq, ◌+◌, ◌≤◌, Bool, true, false, not, ◌&&◌, if◌then◌else◌, List, length, count_by}
use Rattle.std.specs.Cmp.Lexicographic.{pointwise}
use Rattle.tap_name.specs.Names.{Among, has_name}
use Rattle.tap_name.specs.Settings.{SettingsValue}
use Rattle.tap_wire.specs.declared.frame.Body.{Body}
use Rattle.tap_wire.specs.declared.frame.Body.TheVariants.{Link, Release}
use Rattle.tap_wire.specs.declared.frame.Frame.{Frame}
use Rattle.tap_safety.specs.AtRest.{AreMembers, system_at_rest}
use Rattle.tap_safety.specs.Move.{Move}
use Rattle.tap_safety.specs.Seeking.{HasNode}
use Rattle.tap_safety_moves.specs.SoundMoves.{after_moves, may_run}
use Rattle.tap_bounds.specs.FewSent.{traffic_of}
use Rattle.tap_bounds.specs.Traffic.{Traffic, no_traffic}
use Rattle.tap_bounds.specs.OfJoins.{JoinsAlone}

-- whether a body is a Link that says that there is a link, one that says that there is none any more, and a Release
abbrev pub links_on : Body → Bool
links_on (Link version on) = on
links_on other = false

abbrev pub links_off : Body → Bool
links_off (Link version on) = not on
links_off other = false

abbrev pub releases_pin : Body → Bool
releases_pin Release = true
releases_pin other = false

-- whether a frame is one, from one name to another
abbrev pub is_link_on : List ℕ → List ℕ → Frame → Bool
is_link_on x t f = links_on f.body && (pointwise nat_eq f.from x && pointwise nat_eq f.to t)

abbrev pub is_link_off : List ℕ → List ℕ → Frame → Bool
is_link_off x t f = links_off f.body && (pointwise nat_eq f.from x && pointwise nat_eq f.to t)

abbrev pub is_release : List ℕ → List ℕ → Frame → Bool
is_release x t f = releases_pin f.body && (pointwise nat_eq f.from x && pointwise nat_eq f.to t)

-- A name says to another that it has a link to it: at most once for the join of the other, and at most as often as there are names, and
-- twice more, for the Hellos of its own join; a member has no join. It says at most as often that there is none any more, and the other
-- sends it at most as many Releases.
pub record LinkFramesAreFew (members names : List (List ℕ)) (r : Traffic) : Type 0 where
  pub on : (x t : List ℕ) → count_by (is_link_on x t) r.sent
      ≤ (if has_name members t then 0 else 1) + (if has_name members x then 0 else length names + 2)
  pub off : (x t : List ℕ) → count_by (is_link_off x t) r.sent ≤ count_by (is_link_on x t) r.sent
  pub releases : (x t : List ℕ) → count_by (is_release t x) r.sent ≤ count_by (is_link_on x t) r.sent

-- So it is at each moment of each run from members at rest in which nothing but joins is started, if these are the names of all nodes.
abbrev pub RunLinksFew : Type 0
RunLinksFew = (p : SettingsValue) (members names : List (List ℕ)) (moves : List Move) → AreMembers p members
    → may_run p (system_at_rest p members) moves → JoinsAlone moves
    → ((x : List ℕ) → HasNode (after_moves p (system_at_rest p members) moves) x → Among x names)
    → LinkFramesAreFew members names (traffic_of p (system_at_rest p members) no_traffic moves)
