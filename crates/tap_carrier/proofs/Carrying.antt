-- How the data packets of the frames of a group are made, one after another.
use Rattle.std.proofs.Common.{◌≡◌, ◌<◌, ◌≤◌, ℕ, zero, suc, ◌+◌, Bool, false, List, [], ◌∷◌, ◌++◌, length, drop, map, take, None, Option, Some, refl, ap, sym, subst, ◌∙◌, arith, append-nil, append_assoc, length-append}
use Rattle.std.specs.Prelude.{slice_get}
use Rattle.std.specs.List.{cons_option}
use Rattle.std.specs.Option.{IfSome}
use Rattle.std.proofs.lemmas.Bool.{false≢true}
use Rattle.std.proofs.lemmas.List.{get_or_at, take_all}
use Rattle.std.proofs.lemmas.List.Elements.{filter_map-append}
use Rattle.std.proofs.lemmas.Option.{get_or_from_slice_get, slice_get_within}
use Rattle.tap_name.specs.Settings.{SettingsValue}
use Rattle.tap_log.specs.declared.record.Record.{Record}
use Rattle.tap_log.specs.declared.record.Record.TheVariants.{Arrived, Packet as PacketRecord}
use Rattle.tap_log.specs.Counts.{packet_count, sent_count}
use Rattle.tap_log.specs.Kinds.{arrived_number, ended_number, sent_number}
use Rattle.tap_log.specs.Log.{EachFrom, EachRecord}
use Rattle.tap_log.specs.MoreRecords.{at_most_one}
use Rattle.tap_log.proofs.MoreRecords.{EachRecord-push, filter_map-push, sent_count-append}
use Rattle.tap_carry.specs.Net.{most_packets}
use Rattle.tap_carry.specs.Outbox.{last_to, most_frames}
use Rattle.tap_carry.specs.declared.net.Packet.{Packet}
use Rattle.tap_engine.specs.World.{WorldValue, whole_log}
use Rattle.tap_packets.specs.Groups.{data_line, data_lines, data_packets}
use Rattle.tap_packets.specs.Matching.{packet_along}
use Rattle.tap_packets.specs.MayCome.{KeepsPackets, MayBeMade, MayCome}
use Rattle.tap_packets.specs.Packets.{PacketLine, frames_sent, packet_record, packets_ended}
use Rattle.tap_packets.specs.Sequence.{Way, frame_ways, no_way, sent_way, sequence_in, way_at, way_between}
use Rattle.tap_packets.proofs.BoxesByRecord.{boxes_answer_holds}
use Rattle.tap_packets.proofs.GroupsCome.{groups_follow_hold}
use Rattle.tap_packets.proofs.OneRecord.{along-later, awaiting-most, plain-packets}
use Rattle.tap_packets.proofs.RecordsCome.{next-packet}
use Rattle.tap_packets.proofs.StableWays.{ways-size}
use Rattle.tap_boxes.specs.Boxes.{BoxesValue, outbox_of}
use Rattle.tap_boxes.specs.Changes.{packet_to_send, with_packet}
use Rattle.tap_carrier.specs.declared.sending.Sending.{Sending}
use Rattle.tap_carrier.specs.Carrier.{CarrierValue}
use Rattle.tap_carrier.specs.Kept.{Keeps, KeepsLog}
use Rattle.tap_carrier.specs.Sending.{FallsShort, HasCarried, HasHead, HasPut, HasRemarked, IsSentBy, IsToCarry, packets_since, put_record}
use Rattle.tap_carrier.proofs.DataPackets.{count_with, packets_more}
use Rattle.tap_carrier.proofs.KeptCarrier.{keeps_plain, keeps_put, keeps_sends}
use Rattle.tap_carrier.proofs.LogPlaces.{drop_one, drop_parted, drop_taken, each_first, each_later, parted, take_one}
use Rattle.tap_carrier.proofs.Remarking.{remarked_more, remarked_none, short_later, short_of_more}

-- ---- one frame

-- the way of a frame that a record sends
way_sent : (p : SettingsValue) (log : List Record) (item : Record) (way : Way) → sent_way p item ≡ Some way
    → way_at (frame_ways p (log ++ item ∷ [])) (sent_count log) ≡ way
way_sent p log item way goes =
    let ways : frame_ways p (log ++ item ∷ []) ≡ frame_ways p log ++ way ∷ [] =
    filter_map-push (sent_way p) log item ∙ ap (λ o. frame_ways p log ++ at_most_one o) goes in
    ap (λ l. way_at l (sent_count log)) ways
    ∙ get_or_at (frame_ways p log) way [] no_way (sent_count log) (ways-size p log)

-- a packet on a way, with a sequence number
packet_with : Way → ℕ → ℕ → Packet
packet_with way seq frame = record { from = way.from; to = way.to; seq = seq; frame = frame; ack = false }

-- the data packet that its sender's outbox makes of a frame is the one that goes its way
sends_along : (p : SettingsValue) (log : List Record) (item : Record) (from to : List ℕ) (frame number : ℕ) (c : CarrierValue)
    (sent later : List Record) → Keeps p log sent c → sent_way p item ≡ Some (way_between from to) → frame ≡ sent_count log
    → sent_number item ≡ Some frame
    → packet_to_send c.boxes from to frame ≡ packet_along (frame_ways p ((log ++ item ∷ []) ++ later)) (data_line number frame)
unfolding packet_with
sends_along p log item from to frame number c sent later keeps goes is tells =
    let ways = frame_ways p (log ++ item ∷ []) in
    let seq : last_to (outbox_of c.boxes.outboxes from) to + 1 ≡ sequence_in ways (sent_count log) =
    boxes_answer_holds.sends p log (outbox_of c.boxes.outboxes) item (way_between from to) keeps.boxes.outboxes goes in
    let one : sent_count (item ∷ []) ≡ 1 = ap (λ o. length (cons_option o [])) tells in
    let counted = sent_count-append log (item ∷ []) in
    ap (λ s. packet_with (way_between from to) s frame) (seq ∙ ap (sequence_in ways) (sym is))
    ∙ ap (λ w. packet_with w (sequence_in ways frame) frame) (sym (way_sent p log item (way_between from to) goes) ∙ ap (way_at ways) (sym is))
    ∙ sym (along-later p (log ++ item ∷ []) later (data_line number frame) (omega (arith, one, counted, is)))

abbrev carrier : BoxesValue → Bool → ℕ → CarrierValue
carrier boxes resending resent = record { boxes = boxes; resending = resending; resent = resent }

-- after the frame was put into its outbox, its packet was put into the net
puts_then : (sending : Sending) (before after : CarrierValue) (carried : HasCarried sending before after)
    → HasPut (packet_to_send before.boxes sending.from sending.to sending.number) (record before { boxes = carried.sent }) after
puts_then sending before after carried =
    let boxes = with_packet carried.sent (packet_to_send before.boxes sending.from sending.to sending.number) in
    ap (λ b. carrier b after.resending after.resent) carried.puts ∙ ap (λ b. carrier boxes b after.resent) carried.resending
    ∙ ap (carrier boxes before.resending) carried.resent

-- ---- one record after another

-- the frames that are sent between two places, and their packets
abbrev pub frames_between : ℕ → ℕ → List Record → List ℕ
frames_between from place log = frames_sent (drop from (take place log))

abbrev pub packets_between : ℕ → ℕ → WorldValue → List Record
packets_between from place w = data_packets (whole_log w) (frames_between from place (whole_log w))

-- up to this place the frames of the group have their packets
pub record CarriesTo (p : SettingsValue) (from place : ℕ) (first w : WorldValue) (c : CarrierValue) : Type 0 where
  pub remarked : HasRemarked (packets_between from place first) first w
  pub keeps : Keeps p (take place (whole_log first)) (whole_log w) c
  pub follow : EachRecord MayCome (whole_log w)

-- an element of the first of two lists
at_first : {X : Type 0} (xs ys : List X) (i : ℕ) (x : X) → i < length xs → slice_get (xs ++ ys) i ≡ Some x → slice_get xs i ≡ Some x
at_first [] ys i x within at = absurd (omega arith)
at_first (y ∷ xs) ys zero x within at = at
at_first (y ∷ xs) ys (suc i) x within at = at_first xs ys i x (let less : i < length xs = omega arith in less) at

module _ (p : SettingsValue) (from place end : ℕ) (first w : WorldValue) (c : CarrierValue) (so : CarriesTo p from place first w c)
    (log records : List Record) (ends : end ≡ length log) (was : log ≡ whole_log first) (now : records ≡ whole_log w) where
  -- the log has grown only
  pub end_within : end ≤ length records
  end_within =
      let size = ap length so.remarked.log ∙ length-append (whole_log first) (packets_between from place first) in
      let before = ap length was in
      let after = ap length now in
      omega (arith, size, before, after, ends)

  -- so a record of the group is there still
  pub item_there : (item : Record) → place < end → slice_get records place ≡ Some item → slice_get (whole_log first) place ≡ Some item
  item_there item early at =
      let before = ap length was in
      at_first (whole_log first) (packets_between from place first) place item (omega (arith, early, ends, before))
      (ap (λ l. slice_get l place) (sym (now ∙ so.remarked.log)) ∙ at)

-- no packet ends with a record if none does with several
no_ended : (xs : List ℕ) (o : Option ℕ) (ys : List ℕ) → xs ++ cons_option o ys ≡ [] → o ≡ None
no_ended [] None ys none = refl
no_ended [] (Some n) ys none = absurd cc
no_ended (x ∷ xs) o ys none = absurd cc

no_arrival : (item : Record) → ended_number item ≡ None → arrived_number item ≡ None
unfolding ended_number arrived_number
no_arrival (Arrived packet) none = absurd cc
no_arrival item none = refl

module _ (p : SettingsValue) (from : ℕ) (first : WorldValue) (start : CarrierValue) (is : IsToCarry p from first start) where
  abbrev log : List Record
  log = whole_log first

  none_between : frames_between from from log ≡ []
  none_between = ap frames_sent (drop_taken from log is.within)

  pub carries_none : CarriesTo p from from first first start
  carries_none = record {
    remarked = subst (λ l. HasRemarked l first first) (sym (ap (data_packets log) none_between)) (remarked_none first);
    keeps = is.keeps;
    follow = is.follow;
  }

  -- at the end
  module _ (w : WorldValue) (c : CarrierValue) (so : CarriesTo p from (length log) first w c) where
    abbrev all : List Record
    all = packets_since from first

    whole : take (length log) log ≡ log
    whole = take_all (length log) log (omega arith)

    pub remarked_all : HasRemarked all first w
    remarked_all = subst (λ l. HasRemarked (data_packets log (frames_sent (drop from l))) first w) whole so.remarked

    pub keeps_all : KeepsLog p (whole_log w) c
    keeps_all =
        let sent : Keeps p log (whole_log w) c = subst (λ l. Keeps p l (whole_log w) c) whole so.keeps in
        let follow : EachFrom MayCome log all = each_later MayCome [] log all (subst (EachRecord MayCome) remarked_all.log so.follow) in
        subst (λ l. Keeps p l (whole_log w) c) (sym remarked_all.log)
        (keeps_plain p log (whole_log w) all c (groups_follow_hold.kept log is.follow) follow
        (plain-packets (data_lines (packet_count log) (frames_sent (drop from log)))) sent)

  -- at a record
  module _ (place : ℕ) (item : Record) (w : WorldValue) (c : CarrierValue) (early : from ≤ place)
      (at : slice_get log place ≡ Some item) (so : CarriesTo p from place first w c) where
    abbrev before : List Record
    before = take place log

    abbrev rest : List Record
    rest = drop (place + 1) log

    abbrev frames : List ℕ
    frames = frames_between from place log

    each : EachRecord MayCome (before ++ item ∷ rest)
    each = subst (EachRecord MayCome) (parted log place item at) is.follow

    comes : MayCome before item
    comes = (each_later MayCome [] before (item ∷ rest) each).0

    kept_before : KeepsPackets before
    kept_before = groups_follow_hold.kept before (each_first MayCome [] before (item ∷ rest) each)

    kept_now : KeepsPackets (whole_log w)
    kept_now = groups_follow_hold.kept (whole_log w) so.follow

    pub has_head : HasHead p item
    has_head =
        subst (HasHead p) (get_or_from_slice_get log place item item at) (is.heads place item (slice_get_within log place item at))

    no_end : ended_number item ≡ None
    no_end =
        no_ended (packets_ended (drop from before)) (ended_number item) (packets_ended rest)
        (sym (ap packets_ended (drop_parted log place item at from early)
        ∙ filter_map-append ended_number (drop from before) (item ∷ rest)) ∙ is.ends)

    next_frames : frames_between from (place + 1) log ≡ frames ++ at_most_one (sent_number item)
    next_frames = ap frames_sent (drop_one log place item at from early) ∙ filter_map-push sent_number (drop from before) item

    -- a record that sends nothing
    pub carries_same : sent_number item ≡ None → CarriesTo p from (place + 1) first w c
    carries_same none =
        let same : frames_between from (place + 1) log ≡ frames =
        next_frames ∙ ap (λ o. frames ++ at_most_one o) none ∙ append-nil frames in
        record {
          remarked = subst (λ l. HasRemarked (data_packets log l) first w) (sym same) so.remarked;
          keeps = subst (λ l. Keeps p l (whole_log w) c) (sym (take_one log place item at))
              (keeps_plain p before (whole_log w) (item ∷ []) c kept_before (comes, tt) ((none, no_arrival item no_end), tt) so.keeps);
          follow = so.follow;
        }

    -- one that sends a frame
    module _ (sending : Sending) (by : IsSentBy p item sending) where
      abbrev number : ℕ
      number = sending.number

      abbrev packet : Packet
      packet = packet_to_send c.boxes sending.from sending.to number

      numbered : number ≡ sent_count before
      numbered =
          let h : IfSome (Some number) (λ n. n ≡ sent_count before) =
          subst (λ o. IfSome o (λ n. n ≡ sent_count before)) by.number comes.sends in
          h

      more_frames : frames_between from (place + 1) log ≡ frames ++ number ∷ []
      more_frames = next_frames ∙ ap (λ o. frames ++ at_most_one o) by.number

      all_frames : frames_sent (drop from log) ≡ frames ++ number ∷ frames_sent rest
      all_frames =
          ap frames_sent (drop_parted log place item at from early) ∙ filter_map-append sent_number (drop from before) (item ∷ rest)
          ∙ ap (λ o. frames ++ cons_option o (frames_sent rest)) by.number

      made_so_far : packet_count (whole_log w) ≡ packet_count log + length frames
      made_so_far = ap packet_count so.remarked.log ∙ count_with log frames

      low : number < sent_count log
      low =
          let sum = ap sent_count (parted log place item at) ∙ sent_count-append before (item ∷ rest) in
          let one : sent_count (item ∷ rest) ≡ sent_count rest + 1 =
          ap (λ o. length (cons_option o (frames_sent rest))) by.number ∙ (let e : length (number ∷ frames_sent rest) ≡ sent_count rest + 1 = omega arith in e) in
          omega (arith, sum, one, numbered)

      pub room_for_one : c.boxes.net.made < most_packets
      room_for_one =
          let sum = ap length all_frames ∙ length-append frames (number ∷ frames_sent rest) in
          let made = so.keeps.boxes.net.made in
          let most = is.room in
          omega (arith, sum, made, made_so_far, most)

      pub is_above : (outbox_of c.boxes.outboxes sending.from).next ≤ number
      is_above = let most = so.keeps.boxes.outboxes.most sending.from in omega (arith, most, numbered)

      pub is_few : number < most_frames
      is_few = let most = is.frames in omega (arith, most, low)

      pub few_await : c.boxes.outboxes.awaiting ≤ number
      few_await =
          let count = so.keeps.boxes.awaiting in
          let most = awaiting-most before in
          omega (arith, count, most, numbered)

      abbrev line : PacketLine
      line = data_line (packet_count (whole_log w)) number

      put_is : put_record c packet ≡ packet_record line
      put_is = ap (λ n. PacketRecord n number false) so.keeps.boxes.net.made

      next_is : packet_record line ≡ packet_record (data_line (packet_count log + length frames) number)
      next_is = ap (λ n. PacketRecord n number false) made_so_far

      may_be_made : MayBeMade (whole_log w) line
      may_be_made =
          let sum = ap sent_count so.remarked.log ∙ sent_count-append log (packets_between from place first) in
          record { number = refl; frame = omega (arith, sum, low); taken = λ ack. absurd (false≢true ack) }

      whole_parts : whole_log w ≡ (before ++ item ∷ []) ++ (rest ++ packets_between from place first)
      whole_parts =
          let packets = packets_between from place first in
          so.remarked.log ∙ ap (λ l. l ++ packets) (parted log place item at) ∙ append_assoc before (item ∷ rest) packets
          ∙ sym (append_assoc before (item ∷ []) (rest ++ packets))

      goes_along : packet ≡ packet_along (frame_ways p (whole_log w)) line
      goes_along =
          sends_along p before item sending.from sending.to number (packet_count (whole_log w)) c (whole_log w)
          (rest ++ packets_between from place first) so.keeps by.way numbered by.number
          ∙ ap (λ l. packet_along (frame_ways p l) line) (sym whole_parts)

      keeps_more : (after : CarrierValue) → HasCarried sending c after
          → Keeps p (before ++ item ∷ []) (whole_log w ++ packet_record line ∷ []) after
      keeps_more after carried =
          let mid : CarrierValue = record c { boxes = carried.sent } in
          let sent : Keeps p (before ++ item ∷ []) (whole_log w) mid =
          keeps_sends p before (whole_log w) item sending.from sending.to number c carried.sent kept_before comes numbered by.number by.way
          carried.sends so.keeps in
          let put : HasPut (packet_along (frame_ways p (whole_log w)) line) mid after =
          subst (λ q. HasPut q mid after) goes_along (puts_then sending c after carried) in
          keeps_put p (before ++ item ∷ []) (whole_log w) line mid after kept_now may_be_made put sent

      pub carries_one : (last : WorldValue) (after : CarrierValue) → HasCarried sending c after
          → HasRemarked (put_record c packet ∷ []) w last → CarriesTo p from (place + 1) first last after
      carries_one last after carried remarked =
          let grown : whole_log last ≡ whole_log w ++ packet_record line ∷ [] =
          remarked.log ∙ ap (λ x. whole_log w ++ x ∷ []) put_is in
          let items : packets_between from place first ++ put_record c packet ∷ [] ≡ packets_between from (place + 1) first =
          ap (λ x. packets_between from place first ++ x ∷ []) (put_is ∙ next_is)
          ∙ sym (ap (data_packets log) more_frames ∙ packets_more log frames (number ∷ [])) in
          record {
            remarked = subst (λ l. HasRemarked l first last) items
                (remarked_more (packets_between from place first) (put_record c packet ∷ []) first w last so.remarked remarked);
            keeps = subst (λ l. Keeps p l (whole_log last) after) (sym (take_one log place item at))
                (subst (λ l. Keeps p (before ++ item ∷ []) l after) (sym grown) (keeps_more after carried));
            follow = subst (EachRecord MayCome) (sym grown)
                (EachRecord-push MayCome (whole_log w) (packet_record line) so.follow (next-packet (whole_log w) line may_be_made));
          }

      pub short_here : (last : WorldValue) → FallsShort (put_record c packet ∷ []) w last → FallsShort (packets_since from first) first last
      short_here last short =
          let others = map packet_record (data_lines ((packet_count log + length frames) + 1) (frames_sent rest)) in
          let items : packets_between from place first ++ put_record c packet ∷ others ≡ packets_since from first =
          ap (λ x. packets_between from place first ++ x ∷ others) (put_is ∙ next_is)
          ∙ sym (ap (data_packets log) all_frames ∙ packets_more log frames (number ∷ frames_sent rest)) in
          subst (λ l. FallsShort l first last) items
          (short_later (packets_between from place first) (put_record c packet ∷ others) first w last so.remarked
          (short_of_more (put_record c packet) others w last short))
