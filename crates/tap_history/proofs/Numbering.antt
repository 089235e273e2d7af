-- What one more group changes if frames, tickets and packets are numbered on: frames and packets that wait, and their places.
-- Cited above: numbered-group, outstanding-group, range-append
use Rattle.std.proofs.Common.{◌≡◌, ℕ, zero, suc, ◌+◌, ◌<◌, ◌≤◌, false, not, nat_eq, filter, List, [], ◌∷◌, ◌++◌, length, get_or, All, Option, None, Some, refl, ap, sym, subst, ◌∙◌, arith, length-append, cond, Bool, true, append-nil}
use Rattle.std.specs.Prelude.{◌||◌, if◌then◌else◌, ◌&&◌, option_and_then, slice_get}
use Rattle.std.specs.List.{filter_map, cons_option, range_with_len}
use Rattle.std.proofs.lemmas.Bool.{ne_eqb}
use Rattle.std.proofs.lemmas.List.Elements.{All-append, All-head, All-tail, filter_map-append, filter-append, All-cons}
use Rattle.std.proofs.lemmas.List.FromFn.{get_or-range_with_len, length-range_with_len}
use Rattle.tap_log.specs.declared.record.Record.{Record}
use Rattle.tap_log.specs.Kinds.{asked_ticket, gone_name, sent_number, taken_number, abandoned_name, arrived_number, ended_number, packet_frame, packet_number}
use Rattle.tap_history.specs.Moments.{has_number, numbers_less, outstanding, acknowledged, acknowledged_by, acknowledged_by_all, awaiting, under_way}
use Rattle.tap_history.specs.Core.{gone_of, abandoned_of, ceased_of}
use Rattle.tap_name.specs.Names.{has_name}
use Rattle.tap_log.specs.Counts.{sent_count, ticket_count, packet_count}
use Rattle.tap_history.specs.GroupLaws.{IsNumbered, NumbersOn, ArePacketsNumbered, PacketsNumberOn}
use Rattle.tap_history.proofs.Less.{less_by-more}
use Rattle.tap_log.specs.declared.record.Record.TheVariants.{Arrived, Lost, Packet}
use Rattle.tap_log.specs.Frames.{bytes_of}
use Rattle.tap_log.specs.MoreRecords.{first_of_both}
use Rattle.tap_log.proofs.MoreRecords.{bytes_of-append, packet_count-append, sent_count-append}
use Rattle.tap_history.specs.Flights.{bytes_at}
use Rattle.tap_history.proofs.Acknowledging.{unacknowledged-twice}
use Rattle.tap_history.proofs.RecordChanges.{bytes_at-by}

-- ---- numbers

-- numbers from n on aren't among numbers below n
below_all : (n number : ℕ) (ended : List ℕ) → n ≤ number → All (λ other. other < n) ended → has_number ended number ≡ false
below_all n number [] above all = refl
below_all n number (other ∷ ended) above all =
    let below = All-head (λ o. o < n) other ended all in
    ap (λ b. b || has_number ended number) (ne_eqb other number (λ is. absurd (omega (arith, is, below, above))))
    ∙ below_all n number ended above (All-tail (λ o. o < n) other ended all)

numbers_less-above : (n : ℕ) (numbers ended : List ℕ) → All (λ number. n ≤ number) numbers → All (λ other. other < n) ended
    → numbers_less numbers ended ≡ numbers
numbers_less-above n [] ended above below = refl
numbers_less-above n (number ∷ numbers) ended above below =
    ap (λ b. cond {A = List ℕ} (not b) (number ∷ numbers_less numbers ended) (numbers_less numbers ended))
    (below_all n number ended (All-head (λ o. n ≤ o) number numbers above) below)
    ∙ ap (λ l. number ∷ l) (numbers_less-above n numbers ended (All-tail (λ o. n ≤ o) number numbers above) below)

range_above : (n count a : ℕ) → n ≤ a → (k d : ℕ) → k < length (range_with_len a count) → n ≤ get_or (range_with_len a count) k d
range_above n count a above k d within =
    let size = length-range_with_len a count in
    let is = get_or-range_with_len a count k d (omega (arith, size)) in omega (arith, is)

pub range-append : (a n m : ℕ) → range_with_len a n ++ range_with_len (a + n) m ≡ range_with_len a (n + m)
range-append a zero m =
    ap (λ k. range_with_len k m) (let e : a + 0 ≡ a = omega arith in e) ∙ ap (range_with_len a) (let e : m ≡ 0 + m = omega arith in e)
range-append a (suc n) m =
    ap (λ k. a ∷ (range_with_len (a + 1) n ++ range_with_len k m)) (let e : a + suc n ≡ (a + 1) + n = omega arith in e)
    ∙ ap (λ l. a ∷ l) (range-append (a + 1) n m)
    ∙ ap (range_with_len a) (let e : suc (n + m) ≡ suc n + m = omega arith in e)

-- ---- frames and tickets that are numbered one after another

counted-append : (h : Record → Option ℕ) (start : ℕ) (log more : List Record) (count : ℕ)
    → filter_map h log ≡ range_with_len start (length (filter_map h log))
    → filter_map h more ≡ range_with_len (start + length (filter_map h log)) count
    → filter_map h (log ++ more) ≡ range_with_len start (length (filter_map h (log ++ more)))
counted-append h start log more count before next =
    let n = length (filter_map h log) in
    let all : filter_map h (log ++ more) ≡ range_with_len start (n + count) =
    filter_map-append h log more ∙ ap (λ l. l ++ filter_map h more) before ∙ ap (λ l. range_with_len start n ++ l) next
    ∙ range-append start n count in
    all ∙ ap (range_with_len start) (sym (ap length all ∙ length-range_with_len start (n + count)))

below_more : (n m : ℕ) (numbers : List ℕ) → n ≤ m → All (λ number. number < n) numbers → All (λ number. number < m) numbers
below_more n m numbers le below = λ k d within. let here = below k d within in omega (arith, here, le)

-- numbers that go on from n, after others and less some below n
numbers-group : (h k : Record → Option ℕ) (n count : ℕ) (log group : List Record) → filter_map h group ≡ range_with_len n count
    → All (λ number. number < n) (filter_map k log) → All (λ number. number < n) (filter_map k group)
    → numbers_less (filter_map h (log ++ group)) (filter_map k (log ++ group))
    ≡ numbers_less (numbers_less (filter_map h log) (filter_map k log)) (filter_map k group) ++ filter_map h group
numbers-group h k n count log group on old new =
    let ended = filter_map k log in
    let ends = filter_map k group in
    let more = filter_map h group in
    let left = numbers_less (filter_map h log) ended in
    let Above : List ℕ → Type 0 = λ l. All (λ number. n ≤ number) l in
    let above : Above more = subst Above (sym on) (range_above n count n (omega arith)) in
    ap (λ l. numbers_less l (filter_map k (log ++ group))) (filter_map-append h log group)
    ∙ ap (numbers_less (filter_map h log ++ more)) (filter_map-append k log group)
    ∙ less_by-more nat_eq (filter_map h log) more ended ends
    ∙ ap (λ l. numbers_less (left ++ l) ends) (numbers_less-above n more ended above old)
    ∙ filter-append (λ number. not (has_number ends number)) left more
    ∙ ap (λ l. numbers_less left ends ++ l) (numbers_less-above n more ends above new)

pub outstanding-group : (log group : List Record) → IsNumbered log → NumbersOn log group
    → outstanding (log ++ group) ≡ numbers_less (outstanding log) (filter_map taken_number group) ++ filter_map sent_number group
outstanding-group log group numbered on =
    numbers-group sent_number taken_number (sent_count log) (sent_count group) log group on.sent numbered.taken on.taken

pub numbered-group : (log group : List Record) → IsNumbered log → NumbersOn log group → IsNumbered (log ++ group)
numbered-group log group numbered on =
    let n = sent_count log in
    let Below : List ℕ → Type 0 = λ l. All (λ number. number < sent_count (log ++ group)) l in
    let size : sent_count (log ++ group) ≡ n + sent_count group =
    ap length (filter_map-append sent_number log group) ∙ length-append (filter_map sent_number log) (filter_map sent_number group) in
    let more : n ≤ sent_count (log ++ group) = omega (arith, size) in
    record {
      sent = counted-append sent_number 0 log group (sent_count group) numbered.sent
          (on.sent ∙ ap (λ k. range_with_len k (sent_count group)) (let e : n ≡ 0 + n = omega arith in e));
      taken = subst Below (sym (filter_map-append taken_number log group))
          (All-append (λ number. number < sent_count (log ++ group)) (filter_map taken_number log) (filter_map taken_number group)
          (below_more n (sent_count (log ++ group)) (filter_map taken_number log) more numbered.taken)
          (below_more n (sent_count (log ++ group)) (filter_map taken_number group) more on.taken));
      asked = counted-append asked_ticket 1 log group (ticket_count group) numbered.asked on.asked;
    }

-- ---- frames by their places, and nodes that gave up

pub places-group : (log group : List Record) → IsNumbered log → NumbersOn log group → (place : ℕ)
    → bytes_at (log ++ group) place ≡ option_and_then (λ number. first_of_both (bytes_of log number) (bytes_of group number))
    (slice_get (numbers_less (outstanding log) (filter_map taken_number group) ++ filter_map sent_number group) place)
places-group log group numbered on place =
    bytes_at-by (log ++ group) _ (λ number. first_of_both (bytes_of log number) (bytes_of group number)) place
    (outstanding-group log group numbered on) (λ number. bytes_of-append log group number)

pub ceased-group : (log group : List Record)
    → ceased_of (log ++ group) ≡ filter (has_name (gone_of log ++ gone_of group)) (abandoned_of log ++ abandoned_of group)
ceased-group log group =
    ap (λ l. filter (has_name l) (abandoned_of (log ++ group))) (filter_map-append gone_name log group)
    ∙ ap (filter (has_name (gone_of log ++ gone_of group))) (filter_map-append abandoned_name log group)

-- ---- packets

no_ack : (ack : Bool) (frame : ℕ) (others : List ℕ) → cons_option (if ack && false then Some frame else None) others ≡ others
no_ack true frame others = refl
no_ack false frame others = refl

-- packets from c on aren't among those below c
none_acknowledged : (c : ℕ) (packets : List ℕ) (group : List Record) → All (λ number. c ≤ number) (filter_map packet_number group)
    → All (λ number. number < c) packets → acknowledged_by_all packets group ≡ []
unfolding acknowledged_by packet_number
none_acknowledged c packets [] above below = refl
none_acknowledged c packets (Packet made frame ack ∷ group) above below =
    let others = filter_map packet_number group in
    ap (λ b. cons_option (if ack && b then Some frame else None) (acknowledged_by_all packets group))
    (below_all c made packets (All-head (λ number. c ≤ number) made others above) below)
    ∙ no_ack ack frame (acknowledged_by_all packets group)
    ∙ none_acknowledged c packets group (All-tail (λ number. c ≤ number) made others above) below
none_acknowledged c packets (item ∷ group) above below = none_acknowledged c packets group above below

below_with : (n : ℕ) (there : Bool) (frame : ℕ) (others : List ℕ) → frame < n → All (λ other. other < n) others
    → All (λ other. other < n) (cons_option (if there then Some frame else None) others)
below_with n true frame others here rest = All-cons (λ other. other < n) frame others here rest
below_with n false frame others here rest = rest

-- frames that are acknowledged are frames of packets
acknowledged_below : (n : ℕ) (packets : List ℕ) (log : List Record) → All (λ frame. frame < n) (filter_map packet_frame log)
    → All (λ frame. frame < n) (acknowledged_by_all packets log)
unfolding acknowledged_by packet_frame
acknowledged_below n packets [] below = below
acknowledged_below n packets (Packet made frame ack ∷ log) below =
    let others = filter_map packet_frame log in
    below_with n (ack && has_number packets made) frame (acknowledged_by_all packets log) (All-head (λ f. f < n) frame others below)
    (acknowledged_below n packets log (All-tail (λ f. f < n) frame others below))
acknowledged_below n packets (item ∷ log) below = acknowledged_below n packets log below

-- packets that arrive are among those that arrive or are lost
arrived_below : (c : ℕ) (log : List Record) → All (λ packet. packet < c) (filter_map ended_number log)
    → All (λ packet. packet < c) (filter_map arrived_number log)
unfolding ended_number arrived_number
arrived_below c [] below = below
arrived_below c (Arrived packet ∷ log) below =
    let others = filter_map ended_number log in
    All-cons (λ p. p < c) packet (filter_map arrived_number log) (All-head (λ p. p < c) packet others below)
    (arrived_below c log (All-tail (λ p. p < c) packet others below))
arrived_below c (Lost packet ∷ log) below =
    arrived_below c log (All-tail (λ p. p < c) packet (filter_map ended_number log) below)
arrived_below c (item ∷ log) below = arrived_below c log below

pub under_way-group : (log group : List Record) → ArePacketsNumbered log → PacketsNumberOn log group
    → under_way (log ++ group) ≡ numbers_less (under_way log) (filter_map ended_number group) ++ filter_map packet_number group
under_way-group log group numbered on =
    numbers-group packet_number ended_number (packet_count log) (packet_count group) log group on.made numbered.ended on.ended

-- the frames that are acknowledged after a group: by packets that were made before it
acknowledged-group : (log group : List Record) → ArePacketsNumbered log → PacketsNumberOn log group
    → acknowledged (log ++ group) ≡ acknowledged_by_all (filter_map arrived_number log ++ filter_map arrived_number group) log
acknowledged-group log group numbered on =
    let c = packet_count log in
    let old = filter_map arrived_number log in
    let new = filter_map arrived_number group in
    let Above : List ℕ → Type 0 = λ l. All (λ number. c ≤ number) l in
    let above : Above (filter_map packet_number group) = subst Above (sym on.made) (range_above c (packet_count group) c (omega arith)) in
    let below = All-append (λ number. number < c) old new (arrived_below c log numbered.ended) (arrived_below c group on.ended) in
    ap (λ p. acknowledged_by_all p (log ++ group)) (filter_map-append arrived_number log group)
    ∙ filter_map-append (acknowledged_by (old ++ new)) log group
    ∙ ap (λ l. acknowledged_by_all (old ++ new) log ++ l) (none_acknowledged c (old ++ new) group above below)
    ∙ append-nil (acknowledged_by_all (old ++ new) log)

pub awaiting-group : (log group : List Record) → IsNumbered log → NumbersOn log group → ArePacketsNumbered log → PacketsNumberOn log group
    → awaiting (log ++ group)
    ≡ numbers_less (awaiting log) (acknowledged_by_all (filter_map arrived_number group) log) ++ filter_map sent_number group
awaiting-group log group numbered on packets packets_on =
    let n = sent_count log in
    let old = filter_map arrived_number log in
    let new = filter_map arrived_number group in
    let acked = acknowledged_by_all (old ++ new) log in
    let frames = filter_map sent_number log in
    let more = filter_map sent_number group in
    let Above : List ℕ → Type 0 = λ l. All (λ number. n ≤ number) l in
    let above : Above more = subst Above (sym on.sent) (range_above n (sent_count group) n (omega arith)) in
    ap (λ l. numbers_less l (acknowledged (log ++ group))) (filter_map-append sent_number log group)
    ∙ ap (numbers_less (frames ++ more)) (acknowledged-group log group packets packets_on)
    ∙ filter-append (λ number. not (has_number acked number)) frames more
    ∙ ap (λ l. numbers_less frames acked ++ l)
    (numbers_less-above n more acked above (acknowledged_below n (old ++ new) log packets.frames))
    ∙ ap (λ l. l ++ more) (unacknowledged-twice old new frames log)

pub packets_numbered-group : (log group : List Record) → ArePacketsNumbered log → PacketsNumberOn log group
    → ArePacketsNumbered (log ++ group)
packets_numbered-group log group numbered on =
    let c = packet_count log in
    let d = packet_count (log ++ group) in
    let n = sent_count (log ++ group) in
    let made : d ≡ c + packet_count group = packet_count-append log group in
    let sent : n ≡ sent_count log + sent_count group = sent_count-append log group in
    let Ended : List ℕ → Type 0 = λ l. All (λ number. number < d) l in
    let Sent : List ℕ → Type 0 = λ l. All (λ frame. frame < n) l in
    record {
      made = counted-append packet_number 0 log group (packet_count group) numbered.made
          (on.made ∙ ap (λ k. range_with_len k (packet_count group)) (let e : c ≡ 0 + c = omega arith in e));
      ended = subst Ended (sym (filter_map-append ended_number log group))
          (All-append (λ number. number < d) (filter_map ended_number log) (filter_map ended_number group)
          (below_more c d (filter_map ended_number log) (omega (arith, made)) numbered.ended)
          (below_more c d (filter_map ended_number group) (omega (arith, made)) on.ended));
      frames = subst Sent (sym (filter_map-append packet_frame log group))
          (All-append (λ frame. frame < n) (filter_map packet_frame log) (filter_map packet_frame group)
          (below_more (sent_count log) n (filter_map packet_frame log) (omega (arith, sent)) numbered.frames) on.frames);
    }
