-- How the packets of a tick are made, one after another.
use Rattle.std.proofs.Common.{◌≡◌, ◌<◌, ◌≤◌, ℕ, ◌+◌, false, List, [], ◌∷◌, ◌++◌, length, drop, get_or, map, take, Some, refl, ap, sym, subst, ◌∙◌, arith}
use Rattle.std.specs.Prelude.{slice_get}
use Rattle.std.specs.Option.{IfSome}
use Rattle.std.proofs.lemmas.List.{get_or-map, length-take-le, take_all}
use Rattle.std.proofs.lemmas.Option.{slice_get-get_or}
use Rattle.tap_name.specs.Settings.{SettingsValue}
use Rattle.tap_log.specs.declared.record.Record.{Record}
use Rattle.tap_log.specs.declared.record.Record.TheVariants.{Packet as PacketRecord, Ticked}
use Rattle.tap_log.specs.Counts.{packet_count}
use Rattle.tap_log.specs.Kinds.{arrived_number, sent_number}
use Rattle.tap_log.specs.Log.{EachFrom}
use Rattle.tap_history.specs.Moments.{awaiting}
use Rattle.tap_carry.specs.Net.{most_packets}
use Rattle.tap_carry.specs.declared.net.Packet.{Packet}
use Rattle.tap_engine.specs.World.{WorldValue, whole_log}
use Rattle.tap_packets.specs.Groups.CarrierMove.{Ticks}
use Rattle.tap_packets.specs.Groups.{data_line, data_lines, data_packets, tick_group}
use Rattle.tap_packets.specs.Matching.{packet_along}
use Rattle.tap_packets.specs.MayCome.{KeepsPackets, MayBeMade, MayCome}
use Rattle.tap_packets.specs.Packets.{PacketLine, packet_record}
use Rattle.tap_packets.specs.Sequence.{frame_ways}
use Rattle.tap_packets.proofs.GroupsCome.{groups_follow_hold}
use Rattle.tap_packets.proofs.OneRecord.{ArePlain, kept-one, plain-packets, ways-plain}
use Rattle.tap_packets.proofs.RecordsCome.{line-of-packet, next-ticked}
use Rattle.tap_carrier.specs.Carrier.{CarrierValue}
use Rattle.tap_carrier.specs.Kept.{Keeps, KeepsLog}
use Rattle.tap_carrier.specs.Sending.{FallsShort, HasPut, HasRemarked, put_record}
use Rattle.tap_carrier.proofs.DataPackets.{packets_more}
use Rattle.tap_carrier.proofs.KeptCarrier.{keeps_plain, keeps_put, keeps_ticked}
use Rattle.tap_carrier.proofs.LogPlaces.{each_later, parted, take_one}
use Rattle.tap_carrier.proofs.Remarking.{remarked_more, short_later, short_of_more}

-- the records of a tick up to the packets of so many frames
abbrev pub ticked_to : ℕ → List Record → List Record
ticked_to place log = Ticked ∷ data_packets log (take place (awaiting log))

-- the packets of a tick
abbrev pub tick_packets : SettingsValue → List Record → List Packet
tick_packets p log = map (λ frame. packet_along (frame_ways p log) (data_line 0 frame)) (awaiting log)

-- the packets of so many frames were made
pub record TicksTo (p : SettingsValue) (place : ℕ) (first w : WorldValue) (c : CarrierValue) : Type 0 where
  pub remarked : HasRemarked (ticked_to place (whole_log first)) first w
  pub keeps : KeepsLog p (whole_log w) c
  pub kept : KeepsPackets (whole_log w)

plain_ticked : (items : List Record) → ArePlain items → ArePlain (Ticked ∷ items)
unfolding sent_number arrived_number
plain_ticked items plain = ((refl, refl), plain)

-- a carrier keeps the log with a record that both lists have
keeps_both : (p : SettingsValue) (log : List Record) (item : Record) (c : CarrierValue) → KeepsPackets log → MayCome log item
    → ArePlain (item ∷ []) → Keeps p log (log ++ item ∷ []) c → KeepsLog p (log ++ item ∷ []) c
keeps_both p log item c kept next plain keeps = keeps_plain p log (log ++ item ∷ []) (item ∷ []) c kept (next, tt) plain keeps

module _ (p : SettingsValue) (first : WorldValue) where
  abbrev log : List Record
  log = whole_log first

  abbrev frames : List ℕ
  frames = awaiting log

  -- once it is told that it ticks
  pub ticks_none : (w : WorldValue) (c : CarrierValue) → KeepsPackets log → KeepsLog p log c → HasRemarked (Ticked ∷ []) first w
      → TicksTo p 0 first w c
  ticks_none w c kept keeps remarked = record {
    remarked = remarked;
    keeps = subst (λ l. KeepsLog p l c) (sym remarked.log)
        (keeps_both p log Ticked c kept (next-ticked log) (plain_ticked [] tt) (keeps_ticked p log log c kept keeps));
    kept = subst KeepsPackets (sym remarked.log) (kept-one log Ticked kept (next-ticked log));
  }

  -- at the end
  pub remarked_tick : (place : ℕ) (w : WorldValue) (c : CarrierValue) → length frames ≤ place → TicksTo p place first w c
      → HasRemarked (tick_group log) first w
  remarked_tick place w c all so = subst (λ l. HasRemarked (Ticked ∷ data_packets log l) first w) (take_all place frames all) so.remarked

  -- at a frame
  module _ (place : ℕ) (w : WorldValue) (c : CarrierValue) (kept : KeepsPackets log) (within : place < length frames)
      (so : TicksTo p place first w c) where
    abbrev frame : ℕ
    frame = get_or frames place 0

    at : slice_get frames place ≡ Some frame
    at = slice_get-get_or frames place 0 within

    abbrev rest : List ℕ
    rest = drop (place + 1) frames

    abbrev number : ℕ
    number = packet_count log + length (take place frames)

    abbrev line : PacketLine
    line = data_line number frame

    abbrev others : List Record
    others = map packet_record (data_lines (number + 1) rest)

    all_packets : tick_group log ≡ ticked_to place log ++ packet_record line ∷ others
    all_packets =
        ap (λ l. Ticked ∷ data_packets log l) (parted frames place frame at)
        ∙ ap (λ l. Ticked ∷ l) (packets_more log (take place frames) (frame ∷ rest))

    follow : EachFrom MayCome (log ++ ticked_to place log) (packet_record line ∷ others)
    follow =
        each_later MayCome log (ticked_to place log) (packet_record line ∷ others)
        (subst (EachFrom MayCome log) all_packets (groups_follow_hold.moves log Ticks kept tt))

    comes : MayCome (whole_log w) (packet_record line)
    comes = subst (λ l. MayCome l (packet_record line)) (sym so.remarked.log) follow.0

    may_be_made : MayBeMade (whole_log w) line
    may_be_made =
        let h : IfSome (Some line) (MayBeMade (whole_log w)) =
        subst (λ o. IfSome o (MayBeMade (whole_log w))) (line-of-packet line) comes.makes in
        h

    made_is : c.boxes.net.made ≡ number
    made_is = so.keeps.boxes.net.made ∙ sym may_be_made.number

    pub room_to_tick : packet_count log + length frames ≤ most_packets → c.boxes.net.made < most_packets
    room_to_tick room =
        let size = length-take-le place frames (omega (arith, within)) in
        let made = made_is in
        omega (arith, size, made, room, within)

    -- the packet that was gathered for it
    module _ (packet : Packet) (is : packet ≡ packet_along (frame_ways p log) (data_line 0 frame)) where
      put_is : put_record c packet ≡ packet_record line
      put_is = ap (put_record c) is ∙ ap (λ n. PacketRecord n frame false) made_is

      ways : frame_ways p (whole_log w) ≡ frame_ways p log
      ways =
          ap (frame_ways p) so.remarked.log
          ∙ ways-plain p log (ticked_to place log)
          (plain_ticked (data_packets log (take place frames)) (plain-packets (data_lines (packet_count log) (take place frames))))

      goes_along : packet ≡ packet_along (frame_ways p (whole_log w)) line
      goes_along = is ∙ ap (λ ws. packet_along ws line) (sym ways)

      pub ticks_one : (last : WorldValue) (after : CarrierValue) → HasPut packet c after → HasRemarked (put_record c packet ∷ []) w last
          → TicksTo p (place + 1) first last after
      ticks_one last after put remarked =
          let grown : whole_log last ≡ whole_log w ++ packet_record line ∷ [] =
          remarked.log ∙ ap (λ x. whole_log w ++ x ∷ []) put_is in
          let items : ticked_to place log ++ put_record c packet ∷ [] ≡ ticked_to (place + 1) log =
          ap (λ x. ticked_to place log ++ x ∷ []) put_is
          ∙ sym (ap (λ l. Ticked ∷ data_packets log l) (take_one frames place frame at)
          ∙ ap (λ l. Ticked ∷ l) (packets_more log (take place frames) (frame ∷ []))) in
          let sent : Keeps p (whole_log w) (whole_log w ++ packet_record line ∷ []) after =
          keeps_put p (whole_log w) (whole_log w) line c after so.kept may_be_made (subst (λ q. HasPut q c after) goes_along put) so.keeps in
          record {
            remarked = subst (λ l. HasRemarked l first last) items
                (remarked_more (ticked_to place log) (put_record c packet ∷ []) first w last so.remarked remarked);
            keeps = subst (λ l. KeepsLog p l after) (sym grown)
                (keeps_both p (whole_log w) (packet_record line) after so.kept comes (plain-packets (line ∷ [])) sent);
            kept = subst KeepsPackets (sym grown) (kept-one (whole_log w) (packet_record line) so.kept comes);
          }

      pub short_tick : (last : WorldValue) → FallsShort (put_record c packet ∷ []) w last → FallsShort (tick_group log) first last
      short_tick last short =
          subst (λ l. FallsShort l first last) (ap (λ x. ticked_to place log ++ x ∷ others) put_is ∙ sym all_packets)
          (short_later (ticked_to place log) (put_record c packet ∷ others) first w last so.remarked
          (short_of_more (put_record c packet) others w last short))

    -- the packet at this place of those gathered
    pub gathered : (packets : List Packet) (packet : Packet) → packets ≡ tick_packets p log → packet ≡ get_or packets place packet
        → packet ≡ packet_along (frame_ways p log) (data_line 0 frame)
    gathered packets packet are is =
        is ∙ ap (λ l. get_or l place packet) are
        ∙ get_or-map (λ f. packet_along (frame_ways p log) (data_line 0 f)) frames place 0 packet within
