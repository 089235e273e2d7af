-- How few Links and Releases are sent in a run of joins alone.
-- Cited above: run_links_few
use Rattle.std.proofs.Common.{◌≡◌, ℕ, ◌≤◌, Bool, true, false, cond, List, [], ◌∷◌, Option, None, Some, arith, refl}
use Rattle.tap_name.specs.Names.{Among, has_name}
use Rattle.tap_name.specs.Settings.{SettingsValue}
use Rattle.tap_link.specs.declared.kind.Kind.{Kind}
use Rattle.tap_link.specs.declared.kind.Kind.TheVariants.{Leaving as LeavingKind, Pin, Settled}
use Rattle.tap_rule.specs.Event.{Start}
use Rattle.tap_rule.specs.Event.Start.{Join}
use Rattle.tap_rule.specs.Node.{NodeState, Status, link_to}
use Rattle.tap_rule.specs.Node.Status.{Ceased, Core, Gone, Joining, Leaving}
use Rattle.tap_safety.specs.AtRest.{AreMembers, system_at_rest}
use Rattle.tap_safety.specs.Move.{Move, may_move}
use Rattle.tap_safety.specs.Move.Move.{Begins, Delivers}
use Rattle.tap_safety.specs.Moved.{moved}
use Rattle.tap_safety.specs.Seeking.{HasNode}
use Rattle.tap_safety.specs.System.{System}
use Rattle.tap_safety.specs.Ties.{link_in, status_in}
use Rattle.tap_safety_moves.specs.SoundMoves.{after_moves, may_run}
use Rattle.tap_safety_moves.specs.Sound.{Sound}
use Rattle.tap_safety_moves.proofs.Consequences.{nothing_is_left}
use Rattle.tap_safety_moves.proofs.Members.{sound_at_rest}
use Rattle.tap_safety_moves.proofs.SoundMoves.{move_keeps}
use Rattle.tap_bounds.specs.Hellos.{HellosOnce}
use Rattle.tap_bounds.specs.FewSent.{traffic_of}
use Rattle.tap_bounds.specs.Taken.{AllAreKnown}
use Rattle.tap_bounds.specs.Traffic.{Traffic, no_traffic, traffic_after}
use Rattle.tap_bounds.proofs.HelloMoves.{few_are_once, run_hellos_few}
use Rattle.tap_bounds.proofs.KnownTaken.{run_knows_all}
use Rattle.tap_bounds.specs.LinkBounds.{LinkFramesAreFew, RunLinksFew, is_link_on}
use Rattle.tap_bounds.specs.OfJoins.{IsOfJoin, JoinsAlone}
use Rattle.tap_bounds.proofs.JoinsKept.{AreOfJoins}
use Rattle.tap_bounds.proofs.Links.{is_naming, most_for, most_new}
use Rattle.tap_bounds.proofs.LinkMoves.{delivery_links, join_links}
use Rattle.tap_bounds.proofs.LinkSteps.{LinksAreFew}
use Rattle.tap_bounds.proofs.NamedFew.{named_few}
use Rattle.tap_bounds.proofs.OfJoins.{move_of_joins, of_joins_at_rest}
use Rattle.tap_bounds.proofs.ReleaseMoves.{ReleasesAreFew, delivery_releases, join_releases, owed_in}
use Rattle.tap_bounds.proofs.Words.{if_pinned, linked_most}

-- all that is said of such a run
record IsFewOfJoins (members : List (List ℕ)) (s : System) (r : Traffic) : Type 0 where
  joins : AreOfJoins members s r
  links : LinksAreFew members s r
  releases : ReleasesAreFew s r

-- ---- moves

module _ (p : SettingsValue) (members : List (List ℕ)) (s : System) (r : Traffic) (sound : Sound p s) (few : IsFewOfJoins members s r) where
  start_keeps : (x : List ℕ) (start : Start) → may_move p s (Begins x start) → IsOfJoin (Begins x start)
      → IsFewOfJoins members (moved p s (Begins x start)) (traffic_after p s r (Begins x start))
  start_keeps x (Join via) may of = record {
    joins = move_of_joins p members s r sound few.joins (Begins x (Join via)) may of;
    links = join_links p members s r sound few.joins few.links x via may;
    releases = join_releases p members s r sound few.joins few.releases x via may;
  }
  start_keeps x _ may of = absurd of

  few_kept : (move : Move) → may_move p s move → IsOfJoin move → IsFewOfJoins members (moved p s move) (traffic_after p s r move)
  few_kept (Begins x start) may of = start_keeps x start may of
  few_kept (Delivers number) may of = record {
    joins = move_of_joins p members s r sound few.joins (Delivers number) may of;
    links = delivery_links p members s r sound few.joins few.links number may.frame may.receiver.state may.among may.receiver.is;
    releases = delivery_releases p members s r sound few.joins few.releases number may.frame may.receiver.state may.among
        may.receiver.is;
  }

-- ---- at rest

module _ (p : SettingsValue) (members : List (List ℕ)) (are : AreMembers p members) where
  abbrev rest : System
  rest = system_at_rest p members

  -- no member pins another
  none_pinned : (x t : List ℕ) (at : Option NodeState) → rest.node x ≡ at → if_pinned (link_in at t) ≡ 0
  none_pinned x t None is = refl
  none_pinned x t (Some node) is = by (link_to node t) refl
    where
      by : (found : Option Kind) → link_to node t ≡ found → if_pinned found ≡ 0
      by None link = refl
      by (Some Pin) link =
          absurd ((nothing_is_left p rest (sound_at_rest p members are) refl).pins x t (record { state = node; is = is; link = link }))
      by (Some Settled) link = refl
      by (Some LeavingKind) link = refl

  none_owed : (t x : List ℕ) (has : Bool) → has_name members t ≡ has → owed_in (rest.node t) x ≡ 0
  none_owed t x true is = rw is refl
  none_owed t x false is = rw is refl

  few_at_rest : IsFewOfJoins members rest no_traffic
  few_at_rest = record {
    joins = of_joins_at_rest p members are;
    links = record {
      on = λ x t. omega arith;
      off = λ x t. let none = none_pinned x t (rest.node x) refl in omega (arith, none);
    };
    releases = record { each = λ t x. let none = none_owed t x (has_name members t) refl in omega (arith, none) };
  }

-- ---- runs

run_from : (p : SettingsValue) (members : List (List ℕ)) (s : System) (r : Traffic) (moves : List Move) → Sound p s
    → IsFewOfJoins members s r → may_run p s moves → JoinsAlone moves
    → IsFewOfJoins members (after_moves p s moves) (traffic_of p s r moves)
run_from p members s r [] sound few may alone = few
run_from p members s r (move ∷ moves) sound few may alone =
    run_from p members (moved p s move) (traffic_after p s r move) moves (move_keeps p s move may.0 sound)
    (few_kept p members s r sound few move may.0 alone.0) may.1 alone.1

most_of_status : (status : Option Status) (found : Option Kind) → most_new status found ≤ 1
most_of_status None found = omega arith
most_of_status (Some Joining) found = linked_most found
most_of_status (Some Core) found = omega arith
most_of_status (Some Leaving) found = omega arith
most_of_status (Some Gone) found = omega arith
most_of_status (Some Ceased) found = omega arith

most_of : (member : Bool) (status : Option Status) (found : Option Kind) → most_for member status found ≤ cond {A = ℕ} member 0 1
most_of true status found = omega arith
most_of false status found = most_of_status status found

-- what follows, if each name sends another few Hellos, and what is taken was sent
frames_few : (members names : List (List ℕ)) (s : System) (r : Traffic) → IsFewOfJoins members s r → HellosOnce r → AllAreKnown s r
    → ((y : List ℕ) → HasNode s y → Among y names) → LinkFramesAreFew members names r
frames_few members names s r few once known all = record {
  on = λ x t.
      let links = few.links.on x t in
      let taken = known.each (is_naming x t) in
      let named = named_few members names s r few.joins once all x t in
      let most = most_of (has_name members t) (status_in (s.node t)) (link_in (s.node x) t) in
      omega (arith, links, taken, named, most);
  off = λ x t. let links = few.links.off x t in omega (arith, links);
  releases = λ x t.
      let each = few.releases.each t x in
      let taken = known.each (is_link_on x t) in
      omega (arith, each, taken);
}

pub run_links_few : RunLinksFew
run_links_few p members names moves are may alone all =
    let s = after_moves p (system_at_rest p members) moves in
    let r = traffic_of p (system_at_rest p members) no_traffic moves in
    let few = run_from p members (system_at_rest p members) no_traffic moves (sound_at_rest p members are) (few_at_rest p members are)
    may alone in
    let once = few_are_once s r (run_hellos_few p members moves are may) in
    frames_few members names s r few once (run_knows_all p members moves are may) all
