-- The packet at a place of those under way, as the log and the net have it.
use Rattle.std.proofs.Common.{◌≡◌, ℕ, ◌<◌, false, List, length, get_or, Some, ap, subst, ◌∙◌}
use Rattle.std.specs.Prelude.{Contains, slice_get}
use Rattle.std.specs.Option.{option_map}
use Rattle.std.proofs.lemmas.List.Elements.{Contains-get_or}
use Rattle.std.proofs.lemmas.Option.{get_or_from_slice_get, slice_get-get_or, slice_get_within}
use Rattle.tap_name.specs.Settings.{SettingsValue}
use Rattle.tap_log.specs.declared.record.Record.{Record}
use Rattle.tap_carry.specs.Net.{NetValue}
use Rattle.tap_packets.specs.Matching.{NetMatches, numbered_along}
use Rattle.tap_packets.specs.Packets.{PacketLine, lines_under_way}
use Rattle.tap_packets.specs.Sequence.{frame_ways}
use Rattle.tap_packets.proofs.BoxesByRecord.{boxes_answer_holds}

-- the packet at this place
pub record IsAtPlace (log : List Record) (place : ℕ) : Type 0 where
  pub line : PacketLine
  pub at : slice_get (lines_under_way log) place ≡ Some line

pub packet_there : (log : List Record) (place : ℕ) → place < length (lines_under_way log) → IsAtPlace log place
packet_there log place within =
    let none : PacketLine = record { number = 0; frame = 0; ack = false } in
    record { line = get_or (lines_under_way log) place none; at = slice_get-get_or (lines_under_way log) place none within }

module _ (p : SettingsValue) (log : List Record) (net : NetValue) (match : NetMatches p log net) (place : ℕ) (line : PacketLine)
    (at : slice_get (lines_under_way log) place ≡ Some line) where
  pub in_net : slice_get net.packets place ≡ Some (numbered_along (frame_ways p log) line)
  in_net = boxes_answer_holds.looked p log net place match ∙ ap (option_map (numbered_along (frame_ways p log))) at

  pub place_in_net : place < length net.packets
  place_in_net = slice_get_within net.packets place (numbered_along (frame_ways p log) line) in_net

  -- it is under way
  pub under_way_at : Contains (lines_under_way log) line
  under_way_at =
      subst (Contains (lines_under_way log)) (get_or_from_slice_get (lines_under_way log) place line line at)
      (Contains-get_or (lines_under_way log) place line (slice_get_within (lines_under_way log) place line at))
