-- The packets of numbers, as a slab keeps them under keys: what they are after one is put and one is taken.
use Rattle.std.proofs.Common.{◌≡◌, ◌≢◌, ◌==◌, ℕ, zero, suc, ◌+◌, ◌<◌, ◌≤◌, List, [], ◌∷◌, ◌++◌, length, get_or, All, AllPairs, Option, None, Some, IsSome, is_some, unwrap_or, true≢false, slice_get, refl, sym, ap, ap₂, subst, ◌∙◌, arith, if◌then◌else◌}
use Rattle.std.specs.List.{remove}
use Rattle.std.specs.Option.{option_map}
use Rattle.std.proofs.lemmas.List.{get_or-map, length-append, length-map}
use Rattle.std.proofs.lemmas.List.Edits.{length-remove}
use Rattle.std.proofs.lemmas.Option.{slice_get-map, slice_get_within}
use Rattle.std.proofs.lemmas.List.Elements.{All-cons, All-tail}
use Rattle.std.proofs.lemmas.List.Kept.{AllPairs-cons}
use Rattle.slab.specs.Slab.{Slab, Updates, get, slab_len}
use Rattle.tap_outstanding.specs.Outstanding.{frame_with, AreOutstanding, OutstandingValue, taken_at_place as outstanding_taken}
use Rattle.tap_outstanding.specs.declared.outstanding.Flight.{Flight}
use Rattle.tap_carry.specs.declared.net.Packet.{Packet}
use Rattle.tap_carry.specs.declared.net.Numbered.{Numbered}
use Rattle.tap_carry.specs.Net.{NetValue, most_packets, numbered, packet_of, packets_less, put_with, taken_at, AreUnderWay}
use Rattle.tap_carry.specs.NetKept.{IsNet, KeysApart, no_packet, packet_at, packets_of}
use Rattle.tap_carry.proofs.Packets.{AreAscending, All-at, packet_of-put, remove-less}

-- the numbers of flights ascend
abbrev pub FlightsAscend : List Flight → Type 0
FlightsAscend flights = AllPairs (λ a b. a.number < b.number) flights

module _ (ended : ℕ) (packets : Slab Packet) where
  pub length-packets_of : (flights : List Flight) → length (packets_of ended packets flights) ≡ length flights
  length-packets_of flights = length-map flights (λ (f : Flight). numbered (ended + f.number) (packet_at packets f.record_place))

  -- the numbers stay in order, and below the one that is given next
  pub ascending-packets_of : (flights : List Flight) → FlightsAscend flights → AreAscending (packets_of ended packets flights)
  ascending-packets_of flights are i j d lt within =
      let size = length-packets_of flights in
      let f : Flight = frame_with 0 0 in
      let at_i = get_or-map (λ (f : Flight). numbered (ended + f.number) (packet_at packets f.record_place)) flights i f d (omega arith) in
      let at_j = get_or-map (λ (f : Flight). numbered (ended + f.number) (packet_at packets f.record_place)) flights j f d (omega arith) in
      rw (at_i, at_j) (let lower = are i j f lt (omega arith) in omega arith)

  pub All-packets_of : (P : ℕ → Type 0) (flights : List Flight) → All (λ f. P (ended + f.number)) flights → All (λ p. P p.number) (packets_of ended packets flights)
  All-packets_of P flights all k d within =
      let size = length-packets_of flights in
      let f : Flight = frame_with 0 0 in
      rw (get_or-map (λ (f : Flight). numbered (ended + f.number) (packet_at packets f.record_place)) flights k f d (omega arith)) (all k f (omega arith))

  pub under_way : (places : OutstandingValue) → AreOutstanding places
      → AreUnderWay (record { made = ended + places.sent; packets = packets_of ended packets places.frames })
  under_way places are = record {
    ascending = ascending-packets_of places.frames are.ascending;
    given = All-packets_of (λ n. n < ended + places.sent) places.frames (λ k d within. let below = are.given k d within in omega arith);
  }

module _ (ended : ℕ) (before after : Slab Packet) where
  -- as long as the slab has the same under each key, the packets are the same
  pub packets_of-same : (flights : List Flight) → All (λ f. get after f.record_place ≡ get before f.record_place) flights
      → packets_of ended after flights ≡ packets_of ended before flights
  packets_of-same [] all = refl
  packets_of-same (f ∷ flights) all =
      let here : get after f.record_place ≡ get before f.record_place = all 0 f (omega arith) in
      rw here (ap (λ (l : List Numbered). numbered (ended + f.number) (packet_at before f.record_place) ∷ l)
      (packets_of-same flights (All-tail (λ f. get after f.record_place ≡ get before f.record_place) f flights all)))

  -- one more is put
  pub packets_of-put : (flights : List Flight) (number key : ℕ) (packet : Packet) → Updates before after key (Some packet)
      → All (λ f. f.record_place ≢ key) flights
      → packets_of ended after (flights ++ frame_with number key ∷ []) ≡ packets_of ended before flights ++ numbered (ended + number) packet ∷ []
  packets_of-put [] number key packet updates apart = rw updates.changed refl
  packets_of-put (f ∷ flights) number key packet updates apart =
      let here : get after f.record_place ≡ get before f.record_place = updates.others f.record_place (apart 0 f (omega arith)) in
      rw here (ap (λ (l : List Numbered). numbered (ended + f.number) (packet_at before f.record_place) ∷ l)
      (packets_of-put flights number key packet updates (All-tail (λ f. f.record_place ≢ key) f flights apart)))

-- what holds of each element holds of each but one
All-remove : {X : Type 0} (P : X → Type 0) (xs : List X) (place : ℕ) → All P xs → All P (remove xs place)
All-remove P [] zero all = λ k d within. absurd (omega arith)
All-remove P [] (suc place) all = λ k d within. absurd (omega arith)
All-remove P (x ∷ xs) zero all = All-tail P x xs all
All-remove P (x ∷ xs) (suc place) all = All-cons P x (remove xs place) (all 0 x (omega arith)) (All-remove P xs place (All-tail P x xs all))

-- what holds of each element and of one more holds of all of them
All-last : {X : Type 0} (P : X → Type 0) (xs : List X) (x : X) → All P xs → P x → All P (xs ++ x ∷ [])
All-last P [] x all last = All-cons P x [] last (λ k d within. absurd (omega arith))
All-last P (y ∷ xs) x all last = All-cons P y (xs ++ x ∷ []) (all 0 y (omega arith)) (All-last P xs x (All-tail P y xs all) last)

-- the first of flights with keys apart, and the others
apart-first : (f : Flight) (flights : List Flight) → AllPairs KeysApart (f ∷ flights) → All (KeysApart f) flights
apart-first f flights are k d within = are 0 (suc k) d (omega arith) (omega arith)

apart-tail : (f : Flight) (flights : List Flight) → AllPairs KeysApart (f ∷ flights) → AllPairs KeysApart flights
apart-tail f flights are i j d lt within = are (suc i) (suc j) d (omega arith) (omega arith)

-- without the one at a place, all keys are others
others-apart : (flight : Flight) (flights : List Flight) (place : ℕ) → AllPairs KeysApart flights → slice_get flights place ≡ Some flight
    → All (λ f. f.record_place ≢ flight.record_place) (remove flights place)
others-apart flight [] place are at = cc
others-apart flight (f ∷ flights) zero are at = λ k d within e.
    let same : f ≡ flight = cc in
    apart-first f flights are k d within (ap (λ (x : Flight). x.record_place) same ∙ sym e)
others-apart flight (f ∷ flights) (suc place) are at =
    All-cons (λ g. g.record_place ≢ flight.record_place) f (remove flights place)
    (All-at (KeysApart f) flights place flight (apart-first f flights are) at)
    (others-apart flight flights place (apart-tail f flights are) at)

-- the keys of those that are left are apart
apart-removed : (flights : List Flight) (place : ℕ) → AllPairs KeysApart flights → AllPairs KeysApart (remove flights place)
apart-removed [] zero are = λ i j d lt within. absurd (omega arith)
apart-removed [] (suc place) are = λ i j d lt within. absurd (omega arith)
apart-removed (f ∷ flights) zero are = apart-tail f flights are
apart-removed (f ∷ flights) (suc place) are =
    AllPairs-cons KeysApart f (remove flights place) (All-remove (KeysApart f) flights place (apart-first f flights are))
    (apart-removed flights place (apart-tail f flights are))

-- and so they are with one more
apart-put : (flights : List Flight) (flight : Flight) → AllPairs KeysApart flights → All (λ f. f.record_place ≢ flight.record_place) flights
    → AllPairs KeysApart (flights ++ flight ∷ [])
apart-put [] flight are all = AllPairs-cons KeysApart flight [] (λ k d within. absurd (omega arith)) (λ i j d lt within. absurd (omega arith))
apart-put (f ∷ flights) flight are all =
    AllPairs-cons KeysApart f (flights ++ flight ∷ [])
    (All-last (KeysApart f) flights flight (apart-first f flights are) (all 0 f (omega arith)))
    (apart-put flights flight (apart-tail f flights are) (All-tail (λ f. f.record_place ≢ flight.record_place) f flights all))

module _ (ended : ℕ) (before after : Slab Packet) (flight : Flight) (updates : Updates before after flight.record_place None) where
  -- one is taken
  pub packets_of-taken : (flights : List Flight) (place : ℕ) → All (λ f. f.record_place ≢ flight.record_place) (remove flights place)
      → slice_get flights place ≡ Some flight → packets_of ended after (remove flights place) ≡ remove (packets_of ended before flights) place
  packets_of-taken [] place apart at = cc
  packets_of-taken (f ∷ flights) zero apart at =
      packets_of-same ended before after flights (λ k d within. updates.others (get_or flights k d).record_place (apart k d within))
  packets_of-taken (f ∷ flights) (suc place) apart at =
      let here : get after f.record_place ≡ get before f.record_place = updates.others f.record_place (apart 0 f (omega arith)) in
      rw here (ap (λ (l : List Numbered). numbered (ended + f.number) (packet_at before f.record_place) ∷ l)
      (packets_of-taken flights place (All-tail (λ f. f.record_place ≢ flight.record_place) f (remove flights place) apart) at))

-- what contracts see of a net
abbrev pub net_of : ℕ → OutstandingValue → Slab Packet → NetValue
net_of ended places packets = record { made = ended + places.sent; packets = packets_of ended packets places.frames }

no_frames : (frames : List Flight) → length frames ≡ 0 → frames ≡ []
no_frames [] none = refl
no_frames (f ∷ frames) none = absurd (omega arith)

module _ (ended : ℕ) (places : OutstandingValue) (before : Slab Packet) (room : ℕ) (is : IsNet ended places before room) where
  -- no packet is kept under a key that is free
  free-apart : (key : ℕ) → get before key ≡ None → All (λ f. f.record_place ≢ key) places.frames
  free-apart key free k d within e =
      let there : IsSome (get before key) = subst (λ n. IsSome (get before n)) e (is.kept k d within) in
      absurd (true≢false (sym there ∙ ap is_some free))

  -- numbers fit
  pub fits : (place : ℕ) (flight : Flight) → slice_get places.frames place ≡ Some flight → ended + flight.number < most_packets
  fits place flight at =
      let below = All-at (λ (f : Flight). f.number < places.sent) places.frames place flight is.given at in
      omega (arith, below, is.most)

  -- all have ended, and their places are forgotten
  module _ (fresh : OutstandingValue) (is_fresh : fresh ≡ record { sent = 0; frames = []; room = 0 }) (none : length places.frames ≡ 0) where
    pub value-forgotten : net_of (ended + places.sent) fresh before ≡ net_of ended places before
    value-forgotten =
        rw (is_fresh, no_frames places.frames none)
        (ap (λ (made : ℕ). record { made = made; packets = [] }) (zero_more (ended + places.sent)))
      where
        zero_more : (n : ℕ) → n + 0 ≡ n
        zero_more n = omega arith

    pub net-forgotten : IsNet (ended + places.sent) fresh before 0
    net-forgotten = rw is_fresh (record {
      kept = λ k d within. absurd (omega arith);
      apart = λ i j d lt within. absurd (omega arith);
      given = λ k d within. absurd (omega arith);
      few = is.few ∙ none;
      spare = omega arith;
      most = omega (arith, is.most);
    })

  -- one more is put
  module _ (left : OutstandingValue) (after : Slab Packet) (packet : Packet) (key : ℕ)
      (frames : left.frames ≡ places.frames ++ frame_with places.sent key ∷ [])
      (free : get before key ≡ None) (updates : Updates before after key (Some packet)) where
    pub value-put : left.sent ≡ places.sent + 1 → net_of ended left after ≡ put_with (net_of ended places before) packet
    value-put sent =
        let made : ended + left.sent ≡ ended + places.sent + 1 = omega (arith, sent) in
        ap₂ (λ (n : ℕ) (l : List Numbered). record { made = n; packets = l }) made
        (ap (packets_of ended after) frames ∙ packets_of-put ended before after places.frames places.sent key packet updates (free-apart key free))

    pub net-put : (more : ℕ) → left.sent ≡ places.sent + 1 → slab_len after ≡ slab_len before + 1 → more ≤ left.room
        → ended + places.sent < most_packets → IsNet ended left after more
    net-put more sent len spare few = record {
      kept = rw frames (All-last (λ f. IsSome (get after f.record_place)) places.frames (frame_with places.sent key)
          (λ k d within. rw (updates.others (get_or places.frames k d).record_place (free-apart key free k d within)) (is.kept k d within))
          (ap is_some updates.changed));
      apart = rw frames (apart-put places.frames (frame_with places.sent key) is.apart (free-apart key free));
      given = rw (frames, sent) (All-last (λ f. f.number < places.sent + 1) places.frames (frame_with places.sent key)
          (λ k d within. let below = is.given k d within in omega arith) (omega arith));
      few = len ∙ rw frames (omega (arith, is.few, length-append places.frames (frame_with places.sent key ∷ [])));
      spare = spare;
      most = omega (arith, sent, few);
    }

  pub found-put : (value : NetValue) (packet : Packet) (n : ℕ) → value ≡ put_with (net_of ended places before) packet
      → packet_of value.packets n ≡ (if n == ended + places.sent then Some packet else packet_of (packets_of ended before places.frames) n)
  found-put value packet n e =
      ap (λ (v : NetValue). packet_of v.packets n) e
      ∙ packet_of-put (packets_of ended before places.frames) (ended + places.sent) packet n
      (All-packets_of ended before (λ n. n < ended + places.sent) places.frames (λ k d within. let below = is.given k d within in omega arith))

  -- one is taken
  module _ (are : AreOutstanding places) (place : ℕ) (flight : Flight) (at : slice_get places.frames place ≡ Some flight)
      (left : OutstandingValue) (taken : left ≡ outstanding_taken places place) (after : Slab Packet)
      (updates : Updates before after flight.record_place None) where
    apart : All (λ f. f.record_place ≢ flight.record_place) (remove places.frames place)
    apart = others-apart flight places.frames place is.apart at

    pub value-taken : net_of ended left after ≡ taken_at (net_of ended places before) place
    value-taken = rw taken (ap (λ (l : List Numbered). record { made = ended + places.sent; packets = l })
        (packets_of-taken ended before after flight updates places.frames place apart at))

    pub packet-taken : (packet : Packet) → Some packet ≡ get before flight.record_place
        → Some (numbered (ended + flight.number) packet) ≡ slice_get (packets_of ended before places.frames) place
    packet-taken packet found =
        sym (slice_get-map (λ (f : Flight). numbered (ended + f.number) (packet_at before f.record_place)) places.frames place
        ∙ ap (option_map (λ (f : Flight). numbered (ended + f.number) (packet_at before f.record_place))) at
        ∙ ap (λ (o : Option Packet). Some (numbered (ended + flight.number) (unwrap_or o no_packet))) (sym found))

    pub less-taken : (packet : Packet) → Some packet ≡ get before flight.record_place
        → packets_of ended after left.frames ≡ packets_less (packets_of ended before places.frames) (ended + flight.number)
    less-taken packet found =
        ap (λ (v : NetValue). v.packets) value-taken
        ∙ remove-less (packets_of ended before places.frames) place (numbered (ended + flight.number) packet)
        (ascending-packets_of ended before places.frames are.ascending) (sym (packet-taken packet found))

    pub net-taken : slab_len after + 1 ≡ slab_len before → IsNet ended left after room
    net-taken len = rw taken (record {
      kept = λ k d within.
          rw (updates.others (get_or (remove places.frames place) k d).record_place (apart k d within))
          (All-remove (λ f. IsSome (get before f.record_place)) places.frames place is.kept k d within);
      apart = apart-removed places.frames place is.apart;
      given = All-remove (λ f. f.number < places.sent) places.frames place is.given;
      few = omega (arith, len, is.few, length-remove places.frames place (slice_get_within places.frames place flight at));
      spare = is.spare;
      most = is.most;
    })
