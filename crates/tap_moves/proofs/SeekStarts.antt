-- Who isn't started stays known to nobody but its one Seek, and Tells sound, once a node has started something.
use Rattle.std.proofs.Common.{ℕ, List, ◌≡◌, ap, ◌∙◌, inl, inr}
use Rattle.tap_name.specs.Settings.{SettingsValue}
use Rattle.tap_name.specs.declared.slot.Slot.{Slot}
use Rattle.tap_multicast.specs.Covers.{level_kept}
use Rattle.tap_wire.specs.declared.frame.Body.TheVariants.{Seek}
use Rattle.tap_wire.specs.declared.frame.TellFields.{TellFields}
use Rattle.tap_rule.specs.Act.{act}
use Rattle.tap_rule.specs.Event.{Acted, Start}
use Rattle.tap_rule.specs.Event.Event.{Starts}
use Rattle.tap_rule.specs.Event.Start.{Join}
use Rattle.tap_rule.specs.Node.{NodeState}
use Rattle.tap_safety.specs.Frames.{hello_body, tell_body}
use Rattle.tap_safety.specs.Invariant.{Basis}
use Rattle.tap_safety.specs.SeekerSteps.{BeforeJoin, LeavesSeekers, LeavesTells}
use Rattle.tap_safety.specs.Soft.{IsSoft}
use Rattle.tap_safety.specs.System.{System, IsUnderWay}
use Rattle.tap_safety.proofs.FrameKeeps.{covers_on}
use Rattle.tap_safety.proofs.FrameSeeking.{node_stays, seeker_back, seeker_stays}
use Rattle.tap_safety.proofs.SoftSteps.{softs_same}
use Rattle.tap_safety.proofs.StartKeeps.{join_cores, old_node}
use Rattle.tap_safety.proofs.StepLaws.{seeking_join_law, seeking_law, tells_law}
use Rattle.tap_safety.proofs.TellKeeps.{core_kept, covers_same, joiner_after}
use Rattle.tap_safety.proofs.UnderWay.{told_by}
use Rattle.tap_moves.specs.CalmMoves.{AreSought}
use Rattle.tap_moves.specs.Delivered.{after_start}
use Rattle.tap_moves.specs.Starts.{StartSeeks}
use Rattle.tap_moves.proofs.StartKinds.{StartsAlike, StartsAnew, alike_among_on, alike_among_was, alike_changes, alike_link_was, alike_way_was, anew_start, anew_ways, by_kind}

-- ---- a node stays what it is

module _ (p : SettingsValue) (s : System) (x : List ℕ) (start : Start) (node : NodeState) (is : StartsAlike p s x start node) where
  abbrev after : System
  after = after_start p s x start

  abbrev acted : Acted
  acted = act node (Starts start)

  same_covers : (d : List ℕ) → level_kept acted.state.covers d ≡ level_kept node.covers d
  same_covers d = ap (λ c. level_kept c d) is.alike.covers

  -- seekers stay, with their Seeks, and nothing new names one
  leaves_seekers : LeavesSeekers s after
  leaves_seekers =
      let at = alike_changes p s x start node is in
      let status = is.alike.status in
      record {
        was = λ y. seeker_back s after x node acted.state at status y (is.step.surrogate y);
        cores = core_kept s after x node acted.state at status;
        nodes = node_stays s after x node acted.state at;
        links = λ y z has. inl (record { kind = has.kind; link = alike_link_was p s x start node is y z has.kind has.link });
        told = λ b t level told.
            inl (told_by after s b t level told
            (alike_way_was p s x start node is told.from t (tell_body told.fields told.watch) (λ never. never) told.way));
        hellos = λ w b hello way. inl (alike_way_was p s x start node is w b (hello_body hello) (λ never. never) way);
        covers = λ y b level covers. inl (covers_same s after x node acted.state at same_covers y b level covers);
        idle = λ y d level seeker covers. covers_same s after x node acted.state at same_covers y d level covers;
        seeks_on = λ y from to m seeker among.
            alike_among_on p s x start node is m (record { from = from; to = to; body = Seek y }) among;
        seeks_was = λ y from to m among.
            alike_among_was p s x start node is m (record { from = from; to = to; body = Seek y }) (λ never. never) among;
        still = λ y from to m among seeker. seeker_stays s after x node acted.state at status y (is.step.surrogate y) seeker;
      }

  -- core nodes, joiners and covers stay, and no Tell is new
  leaves_tells : LeavesTells p s after
  leaves_tells =
      let at = alike_changes p s x start node is in
      let status = is.alike.status in
      record {
        cores = core_kept s after x node acted.state at status;
        softs = softs_same s after x node acted.state at status is.step.surrogate;
        covers = λ y b level core joiner covers. (level, covers_on s after x node acted.state at same_covers y b level covers);
        joiners = λ b joiner. joiner_after s after x node acted.state at status b (is.step.surrogate b) joiner;
        surrogates = λ b joiner. is.step.surrogate b;
        ways = λ from to fields watch way.
            inl (alike_way_was p s x start node is from to (tell_body fields watch) (λ never. never) way);
      }

  alike_seeks : Basis p s → AreSought p after
  alike_seeks inv =
      let kept = seeking_law s after leaves_seekers in
      record {
        seeking = kept.0 inv.seeking;
        seekers = kept.1 inv.seekers;
        tells = tells_law p s after leaves_tells inv.tells;
      }

-- ---- a new name starts to join

module _ (p : SettingsValue) (s : System) (x via : List ℕ) (is : StartsAnew p s x via) where
  abbrev begun : System
  begun = after_start p s x (Join via)

  -- who was soft is so
  anew_softs : (y : List ℕ) → IsSoft s y → IsSoft begun y
  anew_softs y (inl joiner) = inl (record {
    state = joiner.state;
    is = old_node s begun x (anew_start p s x via is) y joiner.state joiner.is;
    joining = joiner.joining;
    surrogate = joiner.surrogate;
    started = is.step.surrogate y ∙ joiner.started;
  })
  anew_softs y (inr (inl core)) = inr (inl (join_cores s begun x (anew_start p s x via is) y core))
  anew_softs y (inr (inr ceased)) = inr (inr (record {
    state = ceased.state;
    is = old_node s begun x (anew_start p s x via is) y ceased.state ceased.is;
    ceased = ceased.ceased;
  }))

  -- a Tell that is under way was
  anew_tell_was : (from to : List ℕ) (fields : TellFields) (watch : List Slot) → IsUnderWay begun from to (tell_body fields watch)
      → IsUnderWay s from to (tell_body fields watch)
  anew_tell_was from to fields watch way =
      elim (anew_ways p s x via is from to (tell_body fields watch) way) [
        | inl old ↦ old
        | inr seek ↦ let wrong : tell_body fields watch ≡ Seek x = seek in cc
      ]

  anew_tells : LeavesTells p s begun
  anew_tells =
      let start = anew_start p s x via is in
      record {
        cores = join_cores s begun x start;
        softs = anew_softs;
        covers = λ y b level core joiner covers. (
          level,
          record { state = covers.state; is = old_node s begun x start y covers.state covers.is; cover = covers.cover },
        );
        joiners = λ b joiner. record {
          state = joiner.state;
          is = old_node s begun x start b joiner.state joiner.is;
          joining = joiner.joining;
          surrogate = joiner.surrogate;
          started = is.step.surrogate b ∙ joiner.started;
        };
        surrogates = λ b joiner. is.step.surrogate b;
        ways = λ from to fields watch way. inl (anew_tell_was from to fields watch way);
      }

  -- nothing named the new name, and its Seek goes to a core node
  anew_seeks : Basis p s → AreSought p begun
  anew_seeks inv =
      let before : BeforeJoin p s = record {
        soft = inv.soft;
        tells = inv.tells;
        ends = inv.ends;
        unmarked = λ y t link. inv.departure.marked y t is.was_none link;
      } in
      let kept = seeking_join_law p s begun x via (anew_start p s x via is) (record { sent = is.sent; core = is.core }) before inv.seeking
      inv.seekers in
      record { seeking = kept.0; seekers = kept.1; tells = tells_law p s begun anew_tells inv.tells }

pub start_seeks : StartSeeks
start_seeks p s x start inv may stays =
    by_kind p s x start (λ after. AreSought p after) inv may stays (λ via is. anew_seeks p s x via is inv)
    (λ node is. alike_seeks p s x start node is inv)
