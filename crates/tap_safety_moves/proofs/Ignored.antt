-- A frame that its receiver ignores keeps the whole invariant.
use Rattle.std.proofs.Common.{◌≡◌, ℕ, List, false, arith, refl, sym, ◌∙◌, inr}
use Rattle.tap_name.specs.Settings.{SettingsValue}
use Rattle.tap_wire.specs.declared.frame.Body.{Body}
use Rattle.tap_wire.specs.declared.frame.Body.TheVariants.{Gone, Leave, Left}
use Rattle.tap_rule.specs.RuleLaws.{frame_to}
use Rattle.tap_rule.specs.Node.{NodeState, name_of}
use Rattle.tap_safety.specs.FewSessions.{SessionsAreFew}
use Rattle.tap_safety.specs.Notices.{IsNotice}
use Rattle.tap_safety.specs.System.{System}
use Rattle.tap_safety.proofs.CountedKept.{counted_others}
use Rattle.tap_safety.proofs.FewSessions.{few_sessions_kept}
use Rattle.tap_safety.proofs.StepLaws.{await_others_law, awaited_others_law, others_law}
use Rattle.tap_moves.specs.Delivered.{after_delivery}
use Rattle.tap_moves.proofs.PartsMade.{parts_kept}
use Rattle.tap_moves.proofs.SessionMoves.{frame_names, left_deeper}
use Rattle.tap_moves.specs.JoinMoves.{HaveJoiners}
use Rattle.tap_moves.proofs.EndMoves.{frame_ends}
use Rattle.tap_moves.proofs.LeavesJoins.{joins_others_law}
use Rattle.tap_safety_moves.specs.Arrivals.{Arrives, is_deepest_copy}
use Rattle.tap_safety_moves.proofs.NotStrange.{others_are_delivered}
use Rattle.tap_moves.specs.DepartingMoves.{DepartsInOrder}
use Rattle.tap_moves.specs.PartMoves.{HaveSessions}
use Rattle.tap_moves.proofs.DepartingMoves.{frame_in_order}
use Rattle.tap_safety_moves.specs.Ignored.{IgnoredKeeps, IgnoresFrame, MayIgnore}
use Rattle.tap_safety_moves.specs.Sound.{SoundBasis}
use Rattle.tap_safety_moves.proofs.Lost.{dones, joiners, leaves, lost, lost_core, lost_ended, lost_filled, lost_places, lost_seeking, lost_soft, lost_stamped, lost_tells, takes_frame}
use Rattle.tap_safety_moves.proofs.LostWords.{lost_words}
use Rattle.tap_safety_moves.proofs.Shallow.{comes_shallow, shallow_delivered}
use Rattle.tap_safety_moves.proofs.Together.{basis_of, put_together, with_tables}

-- such a frame is no notice
no_notice : (node : NodeState) (body : Body) → MayIgnore node body → IsNotice body → ⊥
no_notice node (Leave replacement) may notice = absurd may
no_notice node Left may notice = absurd may
no_notice node Gone may notice = absurd may
no_notice node _ may notice = absurd notice

module _ (p : SettingsValue) (s : System) (number : ℕ) (node : NodeState) (from : List ℕ) (body : Body)
    (is : IgnoresFrame p s number node from body) where
  abbrev after : System
  after = after_delivery p s number

  lost_order : Arrives p s number node from body → is_deepest_copy body ≡ false → DepartsInOrder after
  lost_order arrives shallow =
      frame_in_order p s number node from body (others_are_delivered p s number node from body arrives shallow)
      (no_notice node body is.may)

  lost_sessions : HaveSessions after
  lost_sessions =
      let left = leaves p s number node from body is in
      let step = takes_frame p s number node from body is in
      record {
        exact = others_law s after left is.invariant.exact;
        awaited = awaited_others_law s after left is.invariant.awaited;
        await = await_others_law s after left is.invariant.await;
        counted = counted_others s after (name_of node) node node left step.at (λ n. refl) is.invariant.counted;
        deeper = left_deeper s after left is.invariant.deeper;
        places = lost_places p s number node from body is;
      }

  lost_joiners : HaveJoiners after
  lost_joiners =
      let left = leaves p s number node from body is in
      let joins = joins_others_law s after left (joiners p s number node from body is) (dones p s number node from body is) in
      record { of_joiners = joins.0 is.invariant.of_joiners; ends_once = joins.1 is.invariant.ends_once }

  lost_few : SessionsAreFew p s → SessionsAreFew p after
  lost_few few =
      let gone = lost p s number node from body is in
      few_sessions_kept p s after
      (λ x b k of. record { session = of.session; is = sym (gone.session x k) ∙ of.is; joiner = of.joiner })
      (λ x b now there. inr (now, sym (gone.node x) ∙ there, omega arith)) few

-- the basis is kept
pub ignored_basis : (p : SettingsValue) (s : System) (number : ℕ) (node : NodeState) (from : List ℕ) (body : Body)
    → IgnoresFrame p s number node from body → SoundBasis p s → SoundBasis p (after_delivery p s number)
ignored_basis p s number node from body is sound =
    let seeking = lost_seeking p s number node from body is in
    let frame = frame_to node from body in
    put_together p (after_delivery p s number) (record {
      soft = lost_soft p s number node from body is;
      has_core = lost_core p s number node from body is;
      ended = lost_ended p s number node from body is;
      sought = record { seeking = seeking.0; seekers = seeking.1; tells = lost_tells p s number node from body is };
      sessions = lost_sessions p s number node from body is;
      joiners = lost_joiners p s number node from body is;
      words = lost_words p s number node from body is;
      stamped = lost_stamped p s number node from body is;
      order =
          lost_order p s number node from body is (record {
            invariant = is.invariant;
            nodes = sound.nodes;
            few = sound.few;
            among = is.among;
            at = is.at;
          }) (comes_shallow p s number frame node sound is.among is.at);
      named = frame_names p s number frame node is.invariant sound.nodes is.among is.at;
      ends = frame_ends p s number frame node is.invariant sound.nodes sound.askers is.among is.at;
      nodes = (parts_kept p s number frame node sound.nodes is.invariant.spelled is.invariant.numbered is.among is.at).0;
      few = lost_few p s number node from body is sound.few;
      shallow = shallow_delivered p s number frame node sound.nodes is.invariant.numbered is.among is.at sound.shallow;
    })

pub ignored_keeps : IgnoredKeeps
ignored_keeps p s number node from body is sound =
    with_tables p (after_delivery p s number) (ignored_basis p s number node from body is (basis_of p s sound))
    (lost_filled p s number node from body is sound.invariant.filled)
