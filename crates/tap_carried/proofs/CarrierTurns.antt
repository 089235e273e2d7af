-- The turns of a carrier, and that of a root set, may follow.
-- Cited above: carrier_turns_follow
use Rattle.std.proofs.Common.{ℕ, List, [], ◌∷◌, All, refl, ap, map}
use Rattle.std.specs.List.{filter_map}
use Rattle.std.proofs.lemmas.Bool.{false≢true}
use Rattle.std.proofs.lemmas.List.Elements.{All-append, All-cons, All-nil}
use Rattle.tap_log.specs.declared.record.Record.{Record}
use Rattle.tap_log.specs.declared.record.Record.TheVariants.{Lost, RootsOf}
use Rattle.tap_log.specs.Counts.{packet_count}
use Rattle.tap_log.specs.Kinds.{begins_group, sent_number}
use Rattle.tap_log.specs.Reduced.{is_added}
use Rattle.tap_history.specs.StepAsks.{actor_of}
use Rattle.tap_carried.specs.CarrierTurns.{CarrierTurnsFollow, packets_sent}
use Rattle.tap_carried.specs.LogTurns.{IsAddedRecord}
use Rattle.tap_packets.specs.Groups.{data_lines, data_packets}
use Rattle.tap_packets.specs.Packets.{PacketLine, packet_record}

packet_added : (line : PacketLine) → IsAddedRecord (packet_record line)
unfolding is_added begins_group
packet_added line = record { left_out = refl; carried = refl }

lost_added : (packet : ℕ) → IsAddedRecord (Lost packet)
unfolding is_added begins_group
lost_added packet = record { left_out = refl; carried = refl }

roots_added : (object asker : List ℕ) (roots : List (List ℕ)) → IsAddedRecord (RootsOf object asker roots)
unfolding is_added begins_group
roots_added object asker roots = record { left_out = refl; carried = refl }

one_added : (item : Record) → IsAddedRecord item → All IsAddedRecord (item ∷ [])
one_added item is = All-cons IsAddedRecord item [] is (All-nil IsAddedRecord)

lines_added : (lines : List PacketLine) → All IsAddedRecord (map packet_record lines)
lines_added [] = All-nil IsAddedRecord
lines_added (line ∷ lines) =
    All-cons IsAddedRecord (packet_record line) (map packet_record lines) (packet_added line) (lines_added lines)

packets_added : (log : List Record) (frames : List ℕ) → All IsAddedRecord (data_packets log frames)
packets_added log frames = lines_added (data_lines (packet_count log) frames)

pub carrier_turns_follow : CarrierTurnsFollow
unfolding actor_of
carrier_turns_follow = record {
  step = λ b log index step items follows names.
      ((follows, names), (packets_added log (filter_map sent_number items), λ starts none. ap (packets_sent log) none));
  lost = λ b log index place packet follows.
      ((follows, tt), (one_added (Lost packet) (lost_added packet), λ starts none. absurd (false≢true starts)));
  repeated = λ b log index place line follows.
      ((follows, tt), (one_added (packet_record line) (packet_added line), λ starts none. absurd (false≢true starts)));
  roots = λ carried b log index object asker found follows.
      ((follows, tt), (one_added (RootsOf object asker found) (roots_added object asker found), λ starts none. absurd (false≢true starts)));
  taken = λ b log packet frame items ack follows. (
    follows,
    All-append IsAddedRecord (packets_sent log items) (packet_record ack ∷ [])
        (packets_added log (filter_map sent_number items)) (one_added (packet_record ack) (packet_added ack)),
  );
  again = λ b log packet ack. (tt, (one_added (packet_record ack) (packet_added ack), refl));
  acknowledged = λ b log packet. (tt, (All-nil IsAddedRecord, refl));
  ticks = λ b log frames. (tt, (packets_added log frames, refl));
}
