-- The basis of the invariant, and the whole of it, once a node has started something but a departure.
-- Cited above: start_keeps, start_keeps_filled
use Rattle.std.proofs.Common.{ℕ, List}
use Rattle.tap_name.specs.Settings.{SettingsValue}
use Rattle.tap_rule.specs.Event.{Start}
use Rattle.tap_rule.specs.Event.Start.{Abandon, Cast, Find, Join, Leave, Publish, Withdraw}
use Rattle.tap_safety.specs.Invariant.{Basis}
use Rattle.tap_safety.specs.Move.{may_start}
use Rattle.tap_safety.specs.System.{System}
use Rattle.tap_moves.specs.Delivered.{after_start}
use Rattle.tap_moves.specs.InvariantLaws.{IsNew}
use Rattle.tap_moves.specs.KnownNames.{AreNodes}
use Rattle.tap_moves.proofs.PartsMade.{start_keeps_parts}
use Rattle.tap_moves.proofs.SessionMoves.{start_names}
use Rattle.tap_moves.proofs.StartsMade.{start_fills}
use Rattle.tap_moves.proofs.Starts.{start_ended, start_stamped}
use Rattle.tap_moves.proofs.EndMoves.{start_ends}
use Rattle.tap_moves.proofs.FewMoves.{start_few}
use Rattle.tap_moves.proofs.StartMoves.{never_started, start_joins}
use Rattle.tap_moves.specs.EndMoves.{HaveAskers}
use Rattle.tap_moves.specs.Starts.{IsNoDeparture, StartIsNamed, StartKeeps, StartKeepsFilled}
use Rattle.tap_moves.proofs.PeaceStarts.{start_peaceful}
use Rattle.tap_moves.proofs.SeekStarts.{start_seeks}
use Rattle.tap_moves.proofs.SessionStarts.{start_awaits, start_books, start_core, start_places}
use Rattle.tap_moves.proofs.SoftStarts.{start_soft}
use Rattle.tap_moves.proofs.WordStarts.{start_words}

-- an object that is published or looked up is a name, and what is cast a word
pub start_is_named : StartIsNamed
start_is_named p s x (Join via) may = tt
start_is_named p s x Abandon may = tt
start_is_named p s x Leave may = tt
start_is_named p s x (Publish object) may = may.name
start_is_named p s x (Withdraw object) may = tt
start_is_named p s x (Find ticket object) may = may.name
start_is_named p s x (Cast cast level word) may = may.is_word

-- a new name was never started
start_is_new : (p : SettingsValue) (s : System) (x : List ℕ) (start : Start) → Basis p s → may_start p s x start → IsNoDeparture start
    → IsNew s x start
start_is_new p s x (Join via) inv may stays = never_started p s x inv may.fresh
start_is_new p s x Abandon inv may stays = tt
start_is_new p s x Leave inv may stays = stays
start_is_new p s x (Publish object) inv may stays = tt
start_is_new p s x (Withdraw object) inv may stays = tt
start_is_new p s x (Find ticket object) inv may stays = tt
start_is_new p s x (Cast cast level word) inv may stays = tt

-- the basis of the invariant, of its parts
whole : (p : SettingsValue) (s : System) (x : List ℕ) (start : Start) → Basis p s → AreNodes p s → HaveAskers s → may_start p s x start
    → IsNoDeparture start → Basis p (after_start p s x start)
whole p s x start inv nodes askers may stays =
    let new = start_is_new p s x start inv may stays in
    let named = start_is_named p s x start may in
    let seeks = start_seeks p s x start inv may stays in
    let words = start_words p s x start inv may stays in
    let books = start_books p s x start inv may stays in
    let peace = start_peaceful p s x start inv may stays in
    let joins = start_joins p s x start inv may in
    let names = start_names p s x start inv nodes may named in
    record {
      soft = start_soft p s x start inv may stays;
      seeking = seeks.seeking;
      exact = (start_fills p s x start inv nodes may new).1;
      awaited = start_awaits p s x start inv may stays;
      of_joiners = joins.of_joiners;
      tells = seeks.tells;
      counted = books.counted;
      ceased = words.ceased;
      ties = words.ties;
      departure = peace.departure;
      notices = peace.notices;
      seekers = seeks.seekers;
      ends_once = joins.ends_once;
      await = books.await;
      deeper = books.deeper;
      places = start_places p s x start inv may stays;
      ends = (start_ends p s x start inv nodes askers may named).ends;
      versions = words.versions;
      stamped = start_stamped p s x start inv nodes may new;
      ended = start_ended p s x start inv nodes may new;
      has_core = start_core p s x start inv may stays;
      numbered = names.numbered;
      names = names.names;
      few = names.few;
      spelled = names.spelled;
    }

pub start_keeps : StartKeeps
start_keeps p s x start inv nodes askers few may stays =
    let named = start_is_named p s x start may in (
      whole p s x start inv nodes askers may stays,
      (start_keeps_parts p s x start nodes inv.spelled may named).0,
      (start_ends p s x start inv nodes askers may named).askers,
      start_few p s x start inv may few,
    )

pub start_keeps_filled : StartKeepsFilled
start_keeps_filled p s x start inv nodes may stays filled =
    (start_fills p s x start inv nodes may (start_is_new p s x start inv may stays)).0 filled
