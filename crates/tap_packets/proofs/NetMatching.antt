-- The net has what the log says is under way: kept by each record.
use Rattle.std.proofs.Common.{◌≡◌, ℕ, ◌+◌, ◌<◌, Bool, true, false, not, nat_eq, List, [], ◌∷◌, ◌++◌, length, map, filter, Option, None, Some, refl, ap, sym, ◌∙◌, cond, arith, subst, append-nil}
use Rattle.std.specs.Prelude.{◌||◌}
use Rattle.std.specs.Option.{IfSome}
use Rattle.std.proofs.lemmas.List.{map-append}
use Rattle.std.proofs.lemmas.List.Elements.{filter_map-append, filter_agree}
use Rattle.tap_name.specs.Settings.{SettingsValue}
use Rattle.tap_log.specs.declared.record.Record.{Record}
use Rattle.tap_log.specs.Kinds.{ended_number}
use Rattle.tap_log.specs.Counts.{sent_count, packet_count}
use Rattle.tap_log.specs.MoreRecords.{at_most_one}
use Rattle.tap_log.proofs.MoreRecords.{packet_count-append}
use Rattle.tap_history.specs.Moments.{has_number}
use Rattle.tap_carry.specs.Net.{NetValue, numbered, put_with}
use Rattle.tap_carry.specs.declared.net.Numbered.{Numbered}
use Rattle.tap_packets.specs.MayCome.{MayBeMade, MayCome}
use Rattle.tap_packets.specs.Matching.{packet_along, numbered_along, NetMatches, net_less}
use Rattle.tap_packets.specs.Packets.{PacketLine, made_packet, packet_lines, packets_ended, line_frames, lines_less, lines_under_way}
use Rattle.tap_packets.specs.Sequence.{Way, sent_way, frame_ways}
use Rattle.tap_packets.proofs.KeptForms.{count_is, Keeps}
use Rattle.tap_packets.proofs.KeptPackets.{frames-one, single-on}
use Rattle.tap_packets.proofs.MoreUnderWay.{under_way-lines}
use Rattle.tap_packets.proofs.NumbersInRows.{AreBelow, less-none}
use Rattle.tap_packets.proofs.StableWays.{ways-size, lines-stay}

over : {X Y : Type 0} (b : Bool) (f : X → Y) (x : X) (xs : List X)
    → cond {A = List Y} b (f x ∷ map f xs) (map f xs) ≡ map f (cond {A = List X} b (x ∷ xs) xs)
over true f x xs = refl
over false f x xs = refl

or-false : (b : Bool) → (b || false) ≡ b
or-false true = refl
or-false false = refl

kept-frames : (n : ℕ) (b : Bool) (line : PacketLine) (lines : List PacketLine) → line.frame < n → AreBelow n (line_frames lines)
    → AreBelow n (line_frames (cond {A = List PacketLine} b (line ∷ lines) lines))
kept-frames n true line lines low rest = (low, rest)
kept-frames n false line lines low rest = rest

filter-map : {X Y : Type 0} (p : Y → Bool) (f : X → Y) (xs : List X) → filter p (map f xs) ≡ map f (filter (λ x. p (f x)) xs)
filter-map p f [] = refl
filter-map {X} {Y} p f (x ∷ xs) =
    ap (λ l. cond {A = List Y} (p (f x)) (f x ∷ l) l) (filter-map p f xs) ∙ over (p (f x)) f x (filter (λ x. p (f x)) xs)

frames-filter : (n : ℕ) (p : PacketLine → Bool) (lines : List PacketLine) → AreBelow n (line_frames lines)
    → AreBelow n (line_frames (filter p lines))
frames-filter n p [] below = tt
frames-filter n p (line ∷ lines) below = kept-frames n (p line) line (filter p lines) below.0 (frames-filter n p lines below.1)

-- the net after a record, by the ways before it
net-lines : (settings : SettingsValue) (log : List Record) (item : Record) → Keeps log → MayCome log item
    → map (numbered_along (frame_ways settings (log ++ item ∷ []))) (lines_under_way (log ++ item ∷ []))
    ≡ map (numbered_along (frame_ways settings log)) (lines_less (lines_under_way log) (at_most_one (ended_number item)))
    ++ map (numbered_along (frame_ways settings log)) (at_most_one (made_packet item))
net-lines settings log item kept next =
    let all = log ++ item ∷ [] in
    let ws = frame_ways settings log in
    let more = at_most_one (sent_way settings item) in
    let left = lines_less (lines_under_way log) (at_most_one (ended_number item)) in
    let made = at_most_one (made_packet item) in
    let size = ways-size settings log in
    let Below : List PacketLine → ℕ → Type 0 = λ l n. AreBelow n (line_frames l) in
    let flying : Below left (sent_count log) =
    frames-filter (sent_count log) (λ (l : PacketLine). not (has_number (at_most_one (ended_number item)) l.number)) (lines_under_way log)
    (frames-filter (sent_count log) (λ (l : PacketLine). not (has_number (packets_ended log) l.number)) (packet_lines log) kept.frames) in
    ap (λ w. map (numbered_along w) (lines_under_way all)) (filter_map-append (sent_way settings) log (item ∷ []))
    ∙ ap (map (numbered_along (ws ++ more))) (under_way-lines log (item ∷ []) kept (single-on log item kept next))
    ∙ map-append (numbered_along (ws ++ more)) left made
    ∙ ap (λ l. l ++ map (numbered_along (ws ++ more)) made) (lines-stay ws more left (subst (Below left) (sym size) flying))
    ∙ ap (λ l. map (numbered_along ws) left ++ l)
    (lines-stay ws more made (subst (Below made) (sym size) (frames-one log (made_packet item) next.makes)))

count-one : (log : List Record) (item : Record)
    → packet_count (log ++ item ∷ []) ≡ packet_count log + length (at_most_one (made_packet item))
count-one log item = packet_count-append log (item ∷ []) ∙ ap (λ k. packet_count log + k) (count_is (item ∷ []))

module _ (settings : SettingsValue) (log : List Record) (item : Record) (net : NetValue) (kept : Keeps log) (next : MayCome log item)
    (match : NetMatches settings log net) where
  abbrev all : List Record
  all = log ++ item ∷ []

  abbrev ws : List Way
  ws = frame_ways settings log

  abbrev after : Option PacketLine → Option ℕ → List Numbered
  after made ended =
      map (numbered_along ws) (lines_less (lines_under_way log) (at_most_one ended)) ++ map (numbered_along ws) (at_most_one made)

  lines-are : (made : Option PacketLine) (ended : Option ℕ) → made_packet item ≡ made → ended_number item ≡ ended
      → map (numbered_along (frame_ways settings all)) (lines_under_way all) ≡ after made ended
  lines-are made ended m e =
      net-lines settings log item kept next ∙ ap (λ o. after o (ended_number item)) m ∙ ap (after made) e

  none-less : map (numbered_along ws) (lines_less (lines_under_way log) []) ≡ net.packets
  none-less =
      ap (map (numbered_along ws)) (less-none (λ (l : PacketLine). l.number) (lines_under_way log)) ∙ sym match.packets

  pub net-others : made_packet item ≡ None → ended_number item ≡ None → NetMatches settings all net
  net-others no_packet no_end =
      let size = count-one log item ∙ ap (λ o. packet_count log + length (at_most_one o)) no_packet in
      let made = match.made in
      record {
        made = omega (arith, size, made);
        packets = sym (lines-are None None no_packet no_end
            ∙ append-nil (map (numbered_along ws) (lines_less (lines_under_way log) [])) ∙ none-less);
      }

  pub net-put : (line : PacketLine) → made_packet item ≡ Some line → ended_number item ≡ None
      → NetMatches settings all (put_with net (packet_along ws line))
  net-put line packet no_end =
      let may : IfSome (Some line) (MayBeMade log) = subst (λ o. IfSome o (MayBeMade log)) packet next.makes in
      let is : MayBeMade log line = may in
      let size = count-one log item ∙ ap (λ o. packet_count log + length (at_most_one o)) packet in
      let made = match.made in
      let number : net.made ≡ line.number = made ∙ sym is.number in
      record {
        made = omega (arith, size, made);
        packets = ap (λ k. net.packets ++ numbered k (packet_along ws line) ∷ []) number
            ∙ sym (lines-are (Some line) None packet no_end ∙ ap (λ l. l ++ numbered_along ws line ∷ []) none-less);
      }

  pub net-taken : (number : ℕ) → made_packet item ≡ None → ended_number item ≡ Some number → NetMatches settings all (net_less net number)
  net-taken number no_packet ends =
      let size = count-one log item ∙ ap (λ o. packet_count log + length (at_most_one o)) no_packet in
      let made = match.made in
      let other : PacketLine → Bool = λ l. not (nat_eq number l.number) in
      record {
        made = omega (arith, size, made);
        packets = ap (filter (λ (x : Numbered). not (nat_eq number x.number))) match.packets
            ∙ filter-map (λ (x : Numbered). not (nat_eq number x.number)) (numbered_along ws) (lines_under_way log)
            ∙ ap (map (numbered_along ws)) (filter_agree other (λ l. not (nat_eq number l.number || false))
            (λ l. ap not (sym (or-false (nat_eq number l.number)))) (lines_under_way log))
            ∙ sym (lines-are None (Some number) no_packet ends
            ∙ append-nil (map (numbered_along ws) (lines_less (lines_under_way log) (number ∷ []))));
      }
