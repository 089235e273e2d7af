-- What all outboxes keep, sorted, is a data packet for each frame that awaits its acknowledgement.
use Rattle.std.proofs.Common.{◌≡◌, ℕ, ◌<◌, ◌≤◌, Bool, true, false, nat_eq, List, [], ◌∷◌, ◌++◌, length, map, filter, Option, Some, None, unwrap_or, is_some, refl, ap, sym, ◌∙◌, cond, arith, subst, inl, inr, get_or, All, AllPairs}
use Rattle.std.specs.Prelude.{◌||◌}
use Rattle.std.specs.List.{AllByRecursion, IsDistinct, flat_map, list_any}
use Rattle.std.specs.List.Sorted.{IsPermutation}
use Rattle.std.specs.Map.{keys_of, lookup}
use Rattle.std.proofs.lemmas.Bool.{cases_Bool, cases_eq, eq-eqb, ne_eqb, false≢true}
use Rattle.std.proofs.lemmas.List.{get_or-map, length-map, map-append}
use Rattle.std.proofs.lemmas.List.Elements.{All-append, All-head, All-map, All-nil, All-tail}
use Rattle.std.proofs.lemmas.List.Folds.{list_any_at}
use Rattle.std.proofs.lemmas.List.Sorted.{All-permutation, IsPermutation-map}
use Rattle.std.proofs.lemmas.Map.Made.{is_some-lookup}
use Rattle.tap_name.specs.Settings.{SettingsValue}
use Rattle.tap_log.specs.declared.record.Record.{Record}
use Rattle.tap_history.specs.Moments.{awaiting, has_number}
use Rattle.tap_carry.specs.declared.net.Packet.{Packet}
use Rattle.tap_carry.specs.declared.outbox.Await.{Await}
use Rattle.tap_carry.specs.Names.{is_name}
use Rattle.tap_carry.specs.NetKept.{no_packet}
use Rattle.tap_carry.specs.Outbox.{OutboxValue}
use Rattle.tap_packets.specs.Groups.{data_line}
use Rattle.tap_packets.specs.Matching.{AreSenders, Outboxes, OutboxesMatch, await_of, awaits_from, data_packet_of, frames_kept, is_from, no_frames, packet_along, times_named}
use Rattle.tap_packets.specs.MayCome.{KeepsPackets}
use Rattle.tap_packets.specs.Sequence.{Way, frame_ways, way_at}
use Rattle.tap_packets.proofs.GatheredAwaits.{gathered-in-order, outboxes_together_holds}
use Rattle.tap_packets.proofs.SameWays.{name_is, name_itself}
use Rattle.tap_packets.proofs.StableWays.{awaits-cons}
use Rattle.tap_boxes.specs.Boxes.{OutboxesValue, outbox_in, outbox_of, packets_kept}

-- ---- by name

-- the data packets of what the outboxes of these names keep
abbrev packets_named : Outboxes → List (List ℕ) → List Packet
packets_named boxes names = flat_map (λ name. map (data_packet_of name) (boxes name).awaits) names

apart-flips : (a b : List ℕ) → is_name a b ≡ false → is_name b a ≡ false
apart-flips a b apart = elim (cases_Bool (is_name b a)) [
  | inl same ↦ absurd (false≢true (sym apart ∙ ap (is_name a) (name_is b a same) ∙ name_itself a))
  | inr other ↦ other
]

-- other names find their outboxes without this one
without : (first : List ℕ × OutboxValue) (others : List (List ℕ × OutboxValue)) (names : List (List ℕ))
    → AllByRecursion (λ name. is_name first.0 name ≡ false) names
    → packets_named (outbox_in (first ∷ others)) names ≡ packets_named (outbox_in others) names
without first others [] apart = refl
without first others (name ∷ names) apart =
    let box : Bool → OutboxValue = λ b. unwrap_or (cond {A = Option OutboxValue} b (Some first.1) (lookup (is_name name) others)) no_frames in
    ap (λ b. map (data_packet_of name) (box b).awaits ++ packets_named (outbox_in (first ∷ others)) names) (apart-flips first.0 name apart.0)
    ∙ ap (λ l. map (data_packet_of name) (outbox_in others name).awaits ++ l) (without first others names apart.1)

-- what is kept, by name
kept-named : (boxes : List (List ℕ × OutboxValue)) → IsDistinct is_name (keys_of boxes)
    → flat_map (λ (entry : List ℕ × OutboxValue). map (data_packet_of entry.0) entry.1.awaits) boxes ≡ packets_named (outbox_in boxes) (keys_of boxes)
unfolding IsDistinct
kept-named [] distinct = refl
kept-named (first ∷ others) distinct =
    let box : Bool → OutboxValue = λ b.
    unwrap_or (cond {A = Option OutboxValue} b (Some first.1) (lookup (is_name first.0) others)) no_frames in
    ap (λ l. map (data_packet_of first.0) first.1.awaits ++ l)
    (kept-named others distinct.1 ∙ sym (without first others (keys_of others) distinct.0))
    ∙ ap (λ b. map (data_packet_of first.0) (box b).awaits ++ packets_named (outbox_in (first ∷ others)) (keys_of others))
    (sym (name_itself first.0))

frames-of-one : (name : List ℕ) (items : List Await)
    → map (λ (packet : Packet). packet.frame) (map (data_packet_of name) items) ≡ map (λ (item : Await). item.frame) items
frames-of-one name [] = refl
frames-of-one name (item ∷ items) = ap (λ l. item.frame ∷ l) (frames-of-one name items)

frames-named : (boxes : Outboxes) (names : List (List ℕ))
    → map (λ (packet : Packet). packet.frame) (packets_named boxes names) ≡ frames_kept boxes names
frames-named boxes [] = refl
frames-named boxes (name ∷ names) =
    map-append (λ (packet : Packet). packet.frame) (map (data_packet_of name) (boxes name).awaits) (packets_named boxes names)
    ∙ ap (λ l. l ++ map (λ (packet : Packet). packet.frame) (packets_named boxes names)) (frames-of-one name (boxes name).awaits)
    ∙ ap (λ l. map (λ (item : Await). item.frame) (boxes name).awaits ++ l) (frames-named boxes names)

-- ---- what a packet tells of itself

-- the packet is the data packet of its frame
abbrev IsOfFrame : List Way → Packet → Type 0
IsOfFrame ways packet = packet ≡ packet_along ways (data_line 0 packet.frame)

named-own : (p : SettingsValue) (log : List Record) (boxes : Outboxes) (names : List (List ℕ)) → OutboxesMatch p log boxes
    → All (IsOfFrame (frame_ways p log)) (packets_named boxes names)
named-own p log boxes [] match = All-nil (IsOfFrame (frame_ways p log))
named-own p log boxes (name ∷ names) match =
    All-append (IsOfFrame (frame_ways p log)) (map (data_packet_of name) (boxes name).awaits) (packets_named boxes names)
    (All-map (IsOfFrame (frame_ways p log)) (data_packet_of name) (boxes name).awaits
    (outboxes_together_holds.packets p log boxes name 0 match))
    (named-own p log boxes names match)

made-again : (ways : List Way) (packets : List Packet) → All (IsOfFrame ways) packets
    → packets ≡ map (λ frame. packet_along ways (data_line 0 frame)) (map (λ (packet : Packet). packet.frame) packets)
made-again ways [] own = refl
made-again ways (packet ∷ packets) own =
    ap (λ x. x ∷ packets) (All-head (IsOfFrame ways) packet packets own)
    ∙ ap (λ l. packet_along ways (data_line 0 packet.frame) ∷ l)
    (made-again ways packets (All-tail (IsOfFrame ways) packet packets own))

-- ---- each sender has an outbox

unnamed : (boxes : List (List ℕ × OutboxValue)) (name : List ℕ) → list_any (is_name name) (keys_of boxes) ≡ false
    → outbox_in boxes name ≡ no_frames
unnamed boxes name none = none-is (lookup (is_name name) boxes) (is_some-lookup (is_name name) boxes ∙ none)
  where
    none-is : (o : Option OutboxValue) → is_some o ≡ false → unwrap_or o no_frames ≡ no_frames
    none-is None none = refl
    none-is (Some box) there = absurd (false≢true (sym there))

nothing-kept : {X : Type 0} (b : Bool) (x : X) (xs : List X) → cond {A = List X} b (x ∷ xs) xs ≡ [] → (b ≡ false) × (xs ≡ [])
nothing-kept true x xs none = absurd (let size = ap length none in omega (arith, size))
nothing-kept false x xs none = (refl, none)

-- what awaits is kept by its sender
some-from : (ways : List Way) (frames : List ℕ) (frame : ℕ) → has_number frames frame ≡ true
    → awaits_from ways frames (way_at ways frame).from ≡ [] → ⊥
some-from ways [] frame there none = false≢true there
some-from ways (first ∷ frames) frame there none =
    let name = (way_at ways frame).from in
    let parts = nothing-kept (is_from ways name first) (await_of ways first) (awaits_from ways frames name)
    (sym (awaits-cons ways name first frames) ∙ none) in
    elim (cases_eq first frame) [
      | inl same ↦ false≢true (sym parts.0 ∙ ap (λ k. is_name (way_at ways k).from name) same ∙ name_itself name)
      | inr other ↦ some-from ways frames frame (sym (ap (λ b. b || has_number frames frame) (ne_eqb first frame other)) ∙ there) parts.1
    ]

sender-named : (p : SettingsValue) (log : List Record) (outboxes : OutboxesValue) (frame : ℕ) → OutboxesMatch p log (outbox_of outboxes)
    → has_number (awaiting log) frame ≡ true
    → list_any (is_name (way_at (frame_ways p log) frame).from) (keys_of outboxes.boxes) ≡ true
sender-named p log outboxes frame match there =
    let name = (way_at (frame_ways p log) frame).from in
    elim (cases_Bool (list_any (is_name name) (keys_of outboxes.boxes))) [
      | inl is ↦ is
      | inr none ↦
          absurd (some-from (frame_ways p log) (awaiting log) frame there
          (sym (match.awaits name) ∙ ap (λ (box : OutboxValue). box.awaits) (unnamed outboxes.boxes name none)))
    ]

-- of distinct names each is there once
not-named : (names : List (List ℕ)) (name other : List ℕ) → AllByRecursion (λ one. is_name other one ≡ false) names → name ≡ other
    → times_named names name ≡ 0
not-named [] name other apart same = refl
not-named (one ∷ names) name other apart same =
    ap (λ b. length (cond {A = List (List ℕ)} b (one ∷ filter (is_name name) names) (filter (is_name name) names)))
    (ap (λ n. is_name n one) same ∙ apart.0)
    ∙ not-named names name other apart.1 same

named-once : (names : List (List ℕ)) (name : List ℕ) → IsDistinct is_name names → list_any (is_name name) names ≡ true
    → times_named names name ≡ 1
unfolding IsDistinct
named-once [] name distinct there = absurd (false≢true there)
named-once (first ∷ names) name distinct there =
    let rest = filter (is_name name) names in
    let size : Bool → ℕ = λ b. length (cond {A = List (List ℕ)} b (first ∷ rest) rest) in
    elim (cases_Bool (is_name name first)) [
      | inl same ↦
          let none = not-named names name first distinct.0 (name_is name first same) in
          ap size same ∙ (let one : size true ≡ 1 = omega (arith, none) in one)
      | inr apart ↦
          ap size apart ∙ named-once names name distinct.1 (sym (ap (λ b. b || list_any (is_name name) names) apart) ∙ there)
    ]

senders-named : (p : SettingsValue) (log : List Record) (outboxes : OutboxesValue) → IsDistinct is_name (keys_of outboxes.boxes)
    → OutboxesMatch p log (outbox_of outboxes) → AreSenders (frame_ways p log) (keys_of outboxes.boxes) (awaiting log)
senders-named p log outboxes distinct match k d within =
    let frame = get_or (awaiting log) k d in
    named-once (keys_of outboxes.boxes) (way_at (frame_ways p log) frame).from distinct
    (sender-named p log outboxes frame match
    (list_any_at (λ other. nat_eq other frame) (awaiting log) k d within (eq-eqb frame frame refl)))

-- ---- all of them, in order

ordered-frames : (packets : List Packet) → AllPairs (λ a b. a.frame ≤ b.frame) packets
    → AllPairs (λ frame other. frame ≤ other) (map (λ (packet : Packet). packet.frame) packets)
ordered-frames packets ordered i j d less within =
    let frame : Packet → ℕ = λ packet. packet.frame in
    let size = length-map packets frame in
    let low : i < length packets = omega (arith, less, within, size) in
    let high : j < length packets = omega (arith, within, size) in
    let one = get_or-map frame packets i no_packet d low in
    let two = get_or-map frame packets j no_packet d high in
    let le = ordered i j no_packet less high in
    omega (arith, one, two, le)

pub gathered : (p : SettingsValue) (log : List Record) (outboxes : OutboxesValue) (packets : List Packet)
    → IsDistinct is_name (keys_of outboxes.boxes) → OutboxesMatch p log (outbox_of outboxes) → KeepsPackets log
    → IsPermutation (packets_kept outboxes) packets → AllPairs (λ a b. a.frame ≤ b.frame) packets
    → packets ≡ map (λ frame. packet_along (frame_ways p log) (data_line 0 frame)) (awaiting log)
gathered p log outboxes packets distinct match keeps moved ordered =
    let ways = frame_ways p log in
    let boxes = outbox_of outboxes in
    let names = keys_of outboxes.boxes in
    let frame : Packet → ℕ = λ packet. packet.frame in
    let named : IsPermutation (packets_named boxes names) packets =
    subst (λ l. IsPermutation l packets) (kept-named outboxes.boxes distinct) moved in
    let frames : map frame packets ≡ awaiting log =
    gathered-in-order p log boxes names (map frame packets) keeps match (senders-named p log outboxes distinct match)
    (subst (λ l. IsPermutation l (map frame packets)) (frames-named boxes names)
    (IsPermutation-map frame (packets_named boxes names) packets named))
    (ordered-frames packets ordered) in
    made-again ways packets (All-permutation (IsOfFrame ways) (packets_named boxes names) packets named (named-own p log boxes names match))
    ∙ ap (map (λ frame. packet_along ways (data_line 0 frame))) frames
