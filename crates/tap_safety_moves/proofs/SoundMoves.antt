-- Each possible move keeps the whole invariant, and its basis from itself alone outside departures.
-- Cited above: move_keeps, run_is_sound
use Rattle.std.proofs.Common.{◌≡◌, ◌⊎◌, ℕ, List, [], ◌∷◌, None, refl, inl, inr}
use Rattle.tap_name.specs.Settings.{SettingsValue}
use Rattle.tap_wire.specs.declared.frame.Body.{Body}
use Rattle.tap_wire.specs.declared.frame.Body.TheVariants.{Done, Forget, Gone, Leave, Left, Release}
use Rattle.tap_rule.specs.Event.{Start}
use Rattle.tap_rule.specs.Event.Start.{Leave as StartLeave}
use Rattle.tap_rule.specs.FrameRules.{frame_at_ceased, rule_of_frame}
use Rattle.tap_rule.specs.RuleLaws.{frame_to}
use Rattle.tap_rule.specs.Node.{NodeState, Status}
use Rattle.tap_rule.proofs.CarriedOut.{unruled_law}
use Rattle.tap_safety.specs.AtRest.{system_at_rest}
use Rattle.tap_safety.specs.Bookkeeping.{AreStamped, EndedHaveNoLinks, HasCore}
use Rattle.tap_safety.specs.FewSessions.{SessionsAreFew}
use Rattle.tap_safety.specs.Move.{MayArrive, Move, may_start}
use Rattle.tap_safety.specs.Move.Move.{Begins, Delivers}
use Rattle.tap_safety.specs.Filled.{AreFilled}
use Rattle.tap_safety.specs.Moved.{moved}
use Rattle.tap_safety.specs.Notices.{IsNotice}
use Rattle.tap_safety.specs.Soft.{NamesSoft}
use Rattle.tap_safety.specs.System.{System}
use Rattle.tap_moves.specs.CalmMoves.{AreSought}
use Rattle.tap_moves.specs.Delivered.{after_delivery, after_start}
use Rattle.tap_moves.specs.InvariantLaws.{IsDelivery, IsFilledThere, IsTakenThere}
use Rattle.tap_moves.specs.TiesLaws.{WordsStand}
use Rattle.tap_moves.proofs.DeeperMoves.{frame_deeper}
use Rattle.tap_moves.proofs.CountMoves.{frame_counts}
use Rattle.tap_moves.proofs.EndedMoves.{frame_ended}
use Rattle.tap_moves.proofs.InvariantMoves.{frame_exact, frame_fills}
use Rattle.tap_moves.proofs.PartsMade.{parts_kept, start_keeps_parts}
use Rattle.tap_moves.proofs.SessionMoves.{frame_awaits, frame_core, frame_names, frame_places}
use Rattle.tap_moves.specs.EndMoves.{HaveAskers}
use Rattle.tap_moves.specs.PinsRule.{IsEndedStatus}
use Rattle.tap_moves.proofs.EndMoves.{frame_ends, start_ends}
use Rattle.tap_moves.proofs.FewMoves.{frame_few, start_few}
use Rattle.tap_moves.proofs.JoinMoves.{frame_joins}
use Rattle.tap_moves.proofs.NoticeMoves.{notice_few}
use Rattle.tap_moves.specs.GivenUp.{EndsGivenUp}
use Rattle.tap_moves.proofs.CoverMoves.{taken_seeks, taken_soft}
use Rattle.tap_moves.proofs.GivenUp.{given_up_ended, given_up_fills, given_up_seeks, given_up_soft, given_up_stamped}
use Rattle.tap_moves.proofs.GivenUpWords.{given_up_words}
use Rattle.tap_moves.proofs.StampMoves.{taken_stamped}
use Rattle.tap_moves.proofs.WordMoves.{taken_words}
use Rattle.tap_safety_moves.specs.Arrivals.{Arrives, IsSetApart}
use Rattle.tap_safety_moves.proofs.Arrivals.{arrives_at, taken_where_due}
use Rattle.tap_safety_moves.proofs.NotStrange.{others_are_delivered}
use Rattle.tap_moves.specs.Starts.{IsNoDeparture}
use Rattle.tap_moves.proofs.WholeStarts.{start_keeps, start_keeps_filled}
use Rattle.tap_moves.proofs.AllParts.{leaving_keeps, notice_keeps}
use Rattle.tap_moves.proofs.DepartingMoves.{frame_in_order}
use Rattle.tap_safety_moves.specs.Ignored.{IgnoresFrame}
use Rattle.tap_safety_moves.specs.SoundMoves.{BasisKeeps, MoveKeeps, RunIsSound, may_run, after_moves}
use Rattle.tap_safety_moves.specs.Shallow.{AreShallow}
use Rattle.tap_safety_moves.specs.Sound.{Sound, SoundBasis}
use Rattle.tap_safety_moves.proofs.Ignored.{ignored_basis}
use Rattle.tap_safety_moves.proofs.Lost.{lost_filled}
use Rattle.tap_safety_moves.proofs.Members.{sound_at_rest}
use Rattle.tap_safety_moves.proofs.Shallow.{comes_shallow, shallow_delivered, shallow_started}
use Rattle.tap_safety_moves.proofs.Together.{KeepsBoth, basis_of, put_together, with_tables}

-- ---- a frame that isn't strange

-- what is shown in one way of the Done of a join that was given up, and in another of each other frame where a rule takes it
record IsTakenSo (p : SettingsValue) (s : System) : Type 0 where
  soft : NamesSoft s
  has_core : HasCore s
  ended : EndedHaveNoLinks s
  sought : AreSought p s
  words : WordsStand s
  stamped : AreStamped s

module _ (p : SettingsValue) (s : System) (number : ℕ) (node : NodeState) (from : List ℕ) (body : Body)
    (is : IsDelivery p s number node from body) where
  abbrev after : System
  after = after_delivery p s number

  -- with what is shown in one way of all these
  taken_basis : IsTakenThere node body → (IsNotice body → ⊥) → HaveAskers s → SessionsAreFew p s → AreShallow s → IsTakenSo p after
      → SoundBasis p after
  taken_basis there no_notice askers few shallow so =
      let frame = frame_to node from body in
      let counts = frame_counts p s number node from body is there in
      put_together p after (record {
        soft = so.soft;
        has_core = so.has_core;
        ended = so.ended;
        sought = so.sought;
        sessions = record {
          exact = frame_exact p s number node from body is there;
          awaited = frame_awaits p s number node from body is there;
          await = counts.await;
          counted = counts.counted;
          deeper = frame_deeper p s number node from body is there;
          places = frame_places p s number node from body is there;
        };
        joiners = frame_joins p s number node from body is there;
        words = so.words;
        stamped = so.stamped;
        order = frame_in_order p s number node from body is no_notice;
        named = frame_names p s number frame node is.invariant is.nodes is.among is.at;
        ends = frame_ends p s number frame node is.invariant is.nodes askers is.among is.at;
        nodes = (parts_kept p s number frame node is.nodes is.invariant.spelled is.invariant.numbered is.among is.at).0;
        few = frame_few p s number node from body is there few;
        shallow = shallow_delivered p s number frame node is.nodes is.invariant.numbered is.among is.at shallow;
      })

  filled_so : IsFilledThere node body → IsTakenThere node body → IsTakenSo p after
  filled_so filled there = record {
    soft = taken_soft p s number node from body is filled;
    has_core = frame_core p s number node from body is there;
    ended = frame_ended p s number node from body is filled;
    sought = taken_seeks p s number node from body is filled;
    words = taken_words p s number node from body is filled;
    stamped = taken_stamped p s number node from body is filled;
  }

  -- a notice
  notice_sound : IsNotice body → AreFilled p s → HaveAskers s → SessionsAreFew p s → AreShallow s → Sound p after
  notice_sound notice filled askers few shallow =
      let frame = frame_to node from body in
      record {
        invariant = notice_keeps p s number node from body is filled askers notice;
        nodes = (parts_kept p s number frame node is.nodes is.invariant.spelled is.invariant.numbered is.among is.at).0;
        askers = (frame_ends p s number frame node is.invariant is.nodes askers is.among is.at).askers;
        few = notice_few p s number node from body is notice few;
        shallow = shallow_delivered p s number frame node is.nodes is.invariant.numbered is.among is.at shallow;
      }

-- the Done of a join that was given up
given_up_so : (p : SettingsValue) (s : System) (number : ℕ) (node : NodeState) (from : List ℕ) → EndsGivenUp p s number node from
    → IsTakenSo p (after_delivery p s number)
given_up_so p s number node from ends = record {
  soft = given_up_soft p s number node from ends;
  has_core = frame_core p s number node from Done ends.delivery tt;
  ended = given_up_ended p s number node from ends;
  sought = given_up_seeks p s number node from ends;
  words = given_up_words p s number node from ends;
  stamped = given_up_stamped p s number node from ends;
}

-- ---- a frame that is ignored

-- a node that has ended has no rule for a Release and a Forget
no_rule : (status : Status) (node : NodeState) (from : List ℕ) → IsEndedStatus status
    → (rule_of_frame status node from Release ≡ None) × (rule_of_frame status node from Forget ≡ None)
unfolding frame_at_ceased
no_rule status node from (inl gone) = rw gone (refl, refl)
no_rule status node from (inr ceased) = rw ceased (refl, refl)

-- ---- a frame that comes to a node

-- it is a notice, or isn't
notice_or_not : (body : Body) → IsNotice body ⊎ (IsNotice body → ⊥)
notice_or_not (Leave replacement) = inl tt
notice_or_not Left = inl tt
notice_or_not Gone = inl tt
notice_or_not _ = inr (λ never. never)

module _ (p : SettingsValue) (s : System) (number : ℕ) (node : NodeState) (from : List ℕ) (sound : SoundBasis p s) where
  -- a Release or a Forget at a node that has ended
  ignored_both : (body : Body) → IgnoresFrame p s number node from body → KeepsBoth p s (after_delivery p s number)
  ignored_both body is = (ignored_basis p s number node from body is sound, λ filled. lost_filled p s number node from body is filled)

  -- a frame that is set apart: the Done of a join that was given up, and these
  apart_both : (body : Body) → IsDelivery p s number node from body → IsSetApart node body → KeepsBoth p s (after_delivery p s number)
  apart_both Done is apart =
      let ends : EndsGivenUp p s number node from = record { delivery = is; given_up = apart } in (
        taken_basis p s number node from Done is tt (λ never. never) sound.askers sound.few sound.shallow
            (given_up_so p s number node from ends),
        λ filled. given_up_fills p s number node from ends filled,
      )
  apart_both Release is apart = ignored_both Release (record {
    invariant = sound.basis;
    among = is.among;
    at = is.at;
    ignored = unruled_law node (frame_to node from Release) (no_rule node.status node from apart).0;
    may = apart;
  })
  apart_both Forget is apart = ignored_both Forget (record {
    invariant = sound.basis;
    among = is.among;
    at = is.at;
    ignored = unruled_law node (frame_to node from Forget) (no_rule node.status node from apart).1;
    may = apart;
  })
  apart_both _ is apart = absurd apart

  -- no frame is strange to the node to which it comes
  is_delivered : (body : Body) → Arrives p s number node from body → IsDelivery p s number node from body
  is_delivered body here =
      others_are_delivered p s number node from body here
      (comes_shallow p s number (frame_to node from body) node sound here.among here.at)

  -- each frame but a notice
  comes_both : (body : Body) → Arrives p s number node from body → (IsNotice body → ⊥) → KeepsBoth p s (after_delivery p s number)
  comes_both body here no_notice =
      let is = is_delivered body here in
      let due = taken_where_due p s number node from body here no_notice in
      elim due.1 [
        | inl there ↦ (
          taken_basis p s number node from body is due.0 no_notice sound.askers sound.few sound.shallow
              (filled_so p s number node from body is there due.0),
          λ filled. frame_fills p s number node from body is filled there,
        )
        | inr apart ↦ apart_both body is apart
      ]

-- each frame
comes_sound : (p : SettingsValue) (s : System) (number : ℕ) (node : NodeState) (from : List ℕ) (body : Body) → Sound p s
    → Arrives p s number node from body → Sound p (after_delivery p s number)
comes_sound p s number node from body sound here =
    let sound_basis = basis_of p s sound in
    elim (notice_or_not body) [
      | inl notice ↦
          notice_sound p s number node from body (is_delivered p s number node from sound_basis body here) notice sound.invariant.filled
          sound.askers sound.few sound.shallow
      | inr no_notice ↦
          let both = comes_both p s number node from sound_basis body here no_notice in
          with_tables p (after_delivery p s number) both.0 (both.1 sound.invariant.filled)
    ]

-- ---- a start

-- it is a departure, or isn't
departure_or_not : (start : Start) → (start ≡ StartLeave) ⊎ IsNoDeparture start
departure_or_not StartLeave = inl refl
departure_or_not _ = inr tt

leaving_sound : (p : SettingsValue) (s : System) (x : List ℕ) → Sound p s → may_start p s x StartLeave → Sound p (after_start p s x StartLeave)
leaving_sound p s x sound may =
    let inv = sound.invariant.basis in
    record {
      invariant = leaving_keeps p s x sound.invariant sound.nodes sound.askers may;
      nodes = (start_keeps_parts p s x StartLeave sound.nodes inv.spelled may tt).0;
      askers = (start_ends p s x StartLeave inv sound.nodes sound.askers may tt).askers;
      few = start_few p s x StartLeave inv may sound.few;
      shallow = shallow_started p s x StartLeave sound.nodes may sound.shallow;
    }

-- each other start
begins_both : (p : SettingsValue) (s : System) (x : List ℕ) (start : Start) → SoundBasis p s → may_start p s x start → IsNoDeparture start
    → KeepsBoth p s (after_start p s x start)
begins_both p s x start sound may stays =
    let keeps = start_keeps p s x start sound.basis sound.nodes sound.askers sound.few may stays in (
      record {
        basis = keeps.0;
        nodes = keeps.1;
        askers = keeps.2;
        few = keeps.3;
        shallow = shallow_started p s x start sound.nodes may sound.shallow;
      },
      λ filled. start_keeps_filled p s x start sound.basis sound.nodes may stays filled,
    )

begins_sound : (p : SettingsValue) (s : System) (x : List ℕ) (start : Start) → Sound p s → may_start p s x start
    → (start ≡ StartLeave) ⊎ IsNoDeparture start → Sound p (after_start p s x start)
begins_sound p s x start sound may (inl leaves) =
    rw leaves (leaving_sound p s x sound (rw leaves at may))
begins_sound p s x start sound may (inr stays) =
    let both = begins_both p s x start (basis_of p s sound) may stays in
    with_tables p (after_start p s x start) both.0 (both.1 sound.invariant.filled)

-- ---- every move

-- a frame that is delivered comes to its receiver
delivered_arrives : (p : SettingsValue) (s : System) (number : ℕ) (may : MayArrive s number) → SoundBasis p s
    → Arrives p s number may.receiver.state may.frame.from may.frame.body
delivered_arrives p s number may sound =
    (arrives_at p s number may.frame may.receiver.state sound.basis sound.nodes sound.few may.among may.receiver.is).1

pub move_keeps : MoveKeeps
move_keeps p s (Begins x start) may sound = begins_sound p s x start sound may (departure_or_not start)
move_keeps p s (Delivers number) may sound =
    comes_sound p s number may.receiver.state may.frame.from may.frame.body sound (delivered_arrives p s number may (basis_of p s sound))

pub basis_keeps : BasisKeeps
basis_keeps p s (Begins x start) may stays sound = (begins_both p s x start sound may stays).0
basis_keeps p s (Delivers number) may no_notice sound =
    (comes_both p s number may.receiver.state may.frame.from sound may.frame.body (delivered_arrives p s number may sound)
    (no_notice may.frame may.among)).0

run_sound : (p : SettingsValue) (s : System) (moves : List Move) → may_run p s moves → Sound p s → Sound p (after_moves p s moves)
run_sound p s [] may sound = sound
run_sound p s (move ∷ moves) may sound = run_sound p (moved p s move) moves may.1 (move_keeps p s move may.0 sound)

pub run_is_sound : RunIsSound
run_is_sound p members moves are may = run_sound p (system_at_rest p members) moves may (sound_at_rest p members are)
