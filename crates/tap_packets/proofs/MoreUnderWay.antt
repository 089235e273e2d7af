-- What more records at the end of a log change in what is under way.
use Rattle.std.proofs.Common.{◌≡◌, ℕ, ◌+◌, ◌<◌, ◌≤◌, Bool, true, false, not, nat_eq, List, [], ◌∷◌, ◌++◌, Option, None, Some, refl, ap, sym, ◌∙◌, arith, subst, inl, inr, append-nil}
use Rattle.std.specs.Prelude.{◌&&◌, ◌||◌, if◌then◌else◌}
use Rattle.std.specs.List.{filter_map, cons_option}
use Rattle.std.proofs.lemmas.Bool.{ne_eqb, eq-eqb}
use Rattle.std.proofs.lemmas.List.{map-id}
use Rattle.std.proofs.lemmas.List.Elements.{filter-append, filter_map-append}
use Rattle.tap_log.specs.declared.record.Record.{Record}
use Rattle.tap_log.specs.declared.record.Record.TheVariants.{Packet, Arrived, Lost}
use Rattle.tap_log.specs.Kinds.{sent_number, taken_number, arrived_number, ended_number}
use Rattle.tap_log.specs.Counts.{sent_count, packet_count}
use Rattle.tap_history.specs.Moments.{has_number, numbers_less, outstanding, acknowledged, acknowledged_by, acknowledged_by_all, awaiting}
use Rattle.tap_history.proofs.Less.{filter-twice, not_or}
use Rattle.tap_packets.specs.Packets.{frames_sent, frames_taken, PacketLine, made_packet, packet_lines, packets_ended, line_numbers, line_frames, lines_less, lines_under_way}
use Rattle.tap_packets.proofs.KeptForms.{AmongLines, Keeps, GoesOn}
use Rattle.tap_packets.proofs.NumbersInRows.{AreFrom, AreBelow, below-append, has-append, has-below, less-above, less-group}

-- ---- acknowledgements

-- the packets that arrived, by their numbers
abbrev pub packets_arrived : List Record → List ℕ
packets_arrived log = filter_map arrived_number log

-- the frame that a packet acknowledges, if it is among those that have arrived
abbrev acknowledges : List ℕ → PacketLine → Option ℕ
acknowledges packets line = (if line.ack && has_number packets line.number then Some line.frame else None)

-- the frames that these packets acknowledge once those of these numbers have arrived
abbrev pub acknowledged_lines : List ℕ → List PacketLine → List ℕ
acknowledged_lines packets lines = filter_map (acknowledges packets) lines

abbrev pub acknowledged_of : List Record → List ℕ
acknowledged_of log = acknowledged_lines (packets_arrived log) (packet_lines log)

acknowledged-same : (packets : List ℕ) (log : List Record) → acknowledged_by_all packets log ≡ acknowledged_lines packets (packet_lines log)
unfolding acknowledged_by made_packet
acknowledged-same packets [] = refl
acknowledged-same packets (Packet number frame ack ∷ log) =
    ap (λ l. cons_option (if ack && has_number packets number then Some frame else None) l) (acknowledged-same packets log)
acknowledged-same packets (item ∷ log) = acknowledged-same packets log

-- the frames that a log acknowledges are those that its packets acknowledge
pub acknowledged-is : (log : List Record) → acknowledged log ≡ acknowledged_of log
acknowledged-is log = acknowledged-same (packets_arrived log) log

-- a test of a list that begins with this element, if it is there
picked : Bool → Bool → Bool → Bool
picked there test others = if there then test || others else others

any-picked : (there : Bool) (frame number : ℕ) (others : List ℕ)
    → has_number (cons_option (if there then Some frame else None) others) number
    ≡ picked there (nat_eq frame number) (has_number others number)
unfolding picked
any-picked true frame number others = refl
any-picked false frame number others = refl

picked-or : (a b test x y : Bool) → picked (a || b) test (x || y) ≡ (picked a test x || picked b test y)
unfolding picked
picked-or true true true x y = refl
picked-or true true false x y = refl
picked-or true false true x y = refl
picked-or true false false x y = refl
picked-or false true true true y = refl
picked-or false true true false y = refl
picked-or false true false x y = refl
picked-or false false test x y = refl

and-or : (a x y : Bool) → (a && (x || y)) ≡ ((a && x) || (a && y))
and-or true x y = refl
and-or false x y = refl

-- a frame is acknowledged by the packets and more of them if it is by the first ones or by the others
acknowledged-or : (old new : List ℕ) (number : ℕ) (lines : List PacketLine)
    → has_number (acknowledged_lines (old ++ new) lines) number
    ≡ (has_number (acknowledged_lines old lines) number || has_number (acknowledged_lines new lines) number)
acknowledged-or old new number [] = refl
acknowledged-or old new number (line ∷ lines) =
    let before = line.ack && has_number old line.number in
    let now = line.ack && has_number new line.number in
    let test = nat_eq line.frame number in
    let both : (line.ack && has_number (old ++ new) line.number) ≡ (before || now) =
    ap (λ b. line.ack && b) (has-append old new line.number) ∙ and-or line.ack (has_number old line.number) (has_number new line.number) in
    any-picked (line.ack && has_number (old ++ new) line.number) line.frame number (acknowledged_lines (old ++ new) lines)
    ∙ ap (λ b. picked b test (has_number (acknowledged_lines (old ++ new) lines) number)) both
    ∙ ap (picked (before || now) test) (acknowledged-or old new number lines)
    ∙ picked-or before now test (has_number (acknowledged_lines old lines) number) (has_number (acknowledged_lines new lines) number)
    ∙ ap (λ b. b || picked now test (has_number (acknowledged_lines new lines) number))
    (sym (any-picked before line.frame number (acknowledged_lines old lines)))
    ∙ ap (λ b. has_number (acknowledged_lines old (line ∷ lines)) number || b)
    (sym (any-picked now line.frame number (acknowledged_lines new lines)))

unacknowledged-twice : (old new frames : List ℕ) (lines : List PacketLine)
    → numbers_less frames (acknowledged_lines (old ++ new) lines)
    ≡ numbers_less (numbers_less frames (acknowledged_lines old lines)) (acknowledged_lines new lines)
unacknowledged-twice old new frames lines =
    filter-twice (λ n. not (has_number (acknowledged_lines old lines) n)) (λ n. not (has_number (acknowledged_lines new lines) n))
    (λ n. not (has_number (acknowledged_lines (old ++ new) lines) n))
    (λ n. ap not (acknowledged-or old new n lines)
    ∙ not_or (has_number (acknowledged_lines old lines) n) (has_number (acknowledged_lines new lines) n)) frames

no_ack : (ack : Bool) (frame : ℕ) (others : List ℕ) → cons_option (if ack && false then Some frame else None) others ≡ others
no_ack true frame others = refl
no_ack false frame others = refl

-- packets from the bound on aren't among those below it
pub none-acknowledged : (c a : ℕ) (old : List ℕ) (lines : List PacketLine) → c ≤ a → AreFrom a (line_numbers lines) → AreBelow c old
    → acknowledged_lines old lines ≡ []
none-acknowledged c a old [] le from below = refl
none-acknowledged c a old (line ∷ lines) le from below =
    let e = from.0 in
    ap (λ b. cons_option (if line.ack && b then Some line.frame else None) (acknowledged_lines old lines))
    (has-below c line.number old (omega arith) below)
    ∙ no_ack line.ack line.frame (acknowledged_lines old lines)
    ∙ none-acknowledged c (a + 1) old lines (omega arith) from.1 below

below-with : (n : ℕ) (there : Bool) (frame : ℕ) (others : List ℕ) → frame < n → AreBelow n others
    → AreBelow n (cons_option (if there then Some frame else None) others)
below-with n true frame others here rest = (here, rest)
below-with n false frame others here rest = rest

-- frames that are acknowledged are frames of packets
pub acknowledged-below : (n : ℕ) (numbers : List ℕ) (lines : List PacketLine) → AreBelow n (line_frames lines)
    → AreBelow n (acknowledged_lines numbers lines)
acknowledged-below n numbers [] below = tt
acknowledged-below n numbers (line ∷ lines) below =
    below-with n (line.ack && has_number numbers line.number) line.frame (acknowledged_lines numbers lines) below.0
    (acknowledged-below n numbers lines below.1)

last : (a test : Bool) → picked (a && true) test false ≡ (a && test)
unfolding picked
last true true = refl
last true false = refl
last false test = refl

-- packets in a row have numbers from the first on
pub above : (a : ℕ) (line : PacketLine) (lines : List PacketLine) → AreFrom a (line_numbers lines) → AmongLines line lines → a ≤ line.number
above a line [] from among = absurd among
above a line (other ∷ lines) from (inl is) = let e = from.0 in let own = ap (λ (l : PacketLine). l.number) is in omega arith
above a line (other ∷ lines) from (inr later) = let low = above (a + 1) line lines from.1 later in omega arith

-- a packet of this number alone acknowledges its own frame
pub acknowledged-one : (a g : ℕ) (line : PacketLine) (lines : List PacketLine) → AreFrom a (line_numbers lines) → AmongLines line lines
    → has_number (acknowledged_lines (line.number ∷ []) lines) g ≡ (line.ack && nat_eq line.frame g)
acknowledged-one a g line [] from among = absurd among
acknowledged-one a g line (other ∷ lines) from (inl is) =
    let here : nat_eq line.number other.number ≡ true = eq-eqb line.number other.number (ap (λ l. l.number) is) in
    let own = ap (λ l. l.number) is in
    let e = from.0 in
    let low : AreBelow (a + 1) (line.number ∷ []) = (omega arith, tt) in
    let none = none-acknowledged (a + 1) (a + 1) (line.number ∷ []) lines (omega arith) from.1 low in
    any-picked (other.ack && (nat_eq line.number other.number || false)) other.frame g (acknowledged_lines (line.number ∷ []) lines)
    ∙ ap (λ t. picked (other.ack && (t || false)) (nat_eq other.frame g) (has_number (acknowledged_lines (line.number ∷ []) lines) g)) here
    ∙ ap (λ l. picked (other.ack && true) (nat_eq other.frame g) (has_number l g)) none
    ∙ last other.ack (nat_eq other.frame g)
    ∙ ap (λ (l : PacketLine). l.ack && nat_eq l.frame g) (sym is)
acknowledged-one a g line (other ∷ lines) from (inr later) =
    let apart : nat_eq line.number other.number ≡ false =
    ne_eqb line.number other.number (let low = above (a + 1) line lines from.1 later in let e = from.0 in λ h. absurd (omega arith)) in
    ap (λ t. has_number
    (cons_option (if other.ack && (t || false) then Some other.frame else None) (acknowledged_lines (line.number ∷ []) lines)) g) apart
    ∙ ap (λ l. has_number l g) (no_ack other.ack other.frame (acknowledged_lines (line.number ∷ []) lines))
    ∙ acknowledged-one (a + 1) g line lines from.1 later

-- packets that arrive are among those that arrive or are lost
pub arrived-below : (c : ℕ) (log : List Record) → AreBelow c (packets_ended log) → AreBelow c (packets_arrived log)
unfolding ended_number arrived_number
arrived-below c [] below = tt
arrived-below c (Arrived packet ∷ log) below = (below.0, arrived-below c log below.1)
arrived-below c (Lost packet ∷ log) below = arrived-below c log below.1
arrived-below c (item ∷ log) below = arrived-below c log below

-- ---- after some more records

pub outstanding-group : (log group : List Record) → Keeps log → GoesOn log group → AreBelow (sent_count log) (frames_taken group)
    → outstanding (log ++ group) ≡ numbers_less (outstanding log) (frames_taken group) ++ frames_sent group
outstanding-group log group kept on taken =
    ap (λ l. numbers_less l (frames_taken (log ++ group))) (filter_map-append sent_number log group)
    ∙ ap (numbers_less (frames_sent log ++ frames_sent group)) (filter_map-append taken_number log group)
    ∙ less-group (λ n. n) (sent_count log) (frames_sent log) (frames_sent group) (frames_taken log) (frames_taken group)
    (subst (AreFrom (sent_count log)) (sym (map-id (frames_sent group))) on.sent) kept.taken taken

pub under_way-lines : (log group : List Record) → Keeps log → GoesOn log group
    → lines_under_way (log ++ group) ≡ lines_less (lines_under_way log) (packets_ended group) ++ packet_lines group
under_way-lines log group kept on =
    ap (λ l. lines_less l (packets_ended (log ++ group))) (filter_map-append made_packet log group)
    ∙ ap (lines_less (packet_lines log ++ packet_lines group)) (filter_map-append ended_number log group)
    ∙ less-group (λ (l : PacketLine). l.number) (packet_count log) (packet_lines log) (packet_lines group) (packets_ended log)
    (packets_ended group)
    on.made kept.ended on.ended

-- the frames that are acknowledged after a group: by packets that were made before it
acknowledged-group : (log group : List Record) → Keeps log → GoesOn log group
    → acknowledged_of (log ++ group) ≡ acknowledged_lines (packets_arrived log ++ packets_arrived group) (packet_lines log)
acknowledged-group log group kept on =
    let c = packet_count log in
    let all = packets_arrived log ++ packets_arrived group in
    let below =
    below-append c (packets_arrived log) (packets_arrived group) (arrived-below c log kept.ended) (arrived-below c group on.ended) in
    ap (λ p. acknowledged_lines p (packet_lines (log ++ group))) (filter_map-append arrived_number log group)
    ∙ ap (acknowledged_lines all) (filter_map-append made_packet log group)
    ∙ filter_map-append (acknowledges all) (packet_lines log) (packet_lines group)
    ∙ ap (λ l. acknowledged_lines all (packet_lines log) ++ l) (none-acknowledged c c all (packet_lines group) (omega arith) on.made below)
    ∙ append-nil (acknowledged_lines all (packet_lines log))

abbrev awaiting_of : List Record → List ℕ
awaiting_of log = numbers_less (frames_sent log) (acknowledged_of log)

awaiting-lines : (log group : List Record) → Keeps log → GoesOn log group
    → awaiting_of (log ++ group)
    ≡ numbers_less (awaiting_of log) (acknowledged_lines (packets_arrived group) (packet_lines log)) ++ frames_sent group
awaiting-lines log group kept on =
    let n = sent_count log in
    let acked = acknowledged_lines (packets_arrived log ++ packets_arrived group) (packet_lines log) in
    let frames = frames_sent log in
    let more = frames_sent group in
    let from = subst (AreFrom n) (sym (map-id more)) on.sent in
    ap (λ l. numbers_less l (acknowledged_of (log ++ group))) (filter_map-append sent_number log group)
    ∙ ap (numbers_less (frames ++ more)) (acknowledged-group log group kept on)
    ∙ filter-append (λ number. not (has_number acked number)) frames more
    ∙ ap (λ l. numbers_less frames acked ++ l)
    (less-above (λ n. n) n n more acked from (omega arith)
    (acknowledged-below n (packets_arrived log ++ packets_arrived group) (packet_lines log) kept.frames))
    ∙ ap (λ l. l ++ more) (unacknowledged-twice (packets_arrived log) (packets_arrived group) frames (packet_lines log))

pub awaiting-group : (log group : List Record) → Keeps log → GoesOn log group
    → awaiting (log ++ group) ≡ numbers_less (awaiting log)
    (acknowledged_lines (packets_arrived group) (packet_lines log)) ++ frames_sent group
awaiting-group log group kept on =
    ap (numbers_less (frames_sent (log ++ group))) (acknowledged-is (log ++ group))
    ∙ awaiting-lines log group kept on
    ∙ ap (λ l. numbers_less (numbers_less (frames_sent log) l)
    (acknowledged_lines (packets_arrived group) (packet_lines log)) ++ frames_sent group)
    (sym (acknowledged-is log))
