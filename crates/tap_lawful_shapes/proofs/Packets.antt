-- The numbers of the packets of a carried log.
use Rattle.std.proofs.Common.{◌≡◌, inl, inr, ℕ, ◌<◌, ◌^◌, true, false, List, [], ◌∷◌, ◌++◌, All, sym, subst, ap, ◌∙◌, arith, append_assoc}
use Rattle.std.specs.Prelude.{nat_eq, not, ◌||◌}
use Rattle.std.specs.List.{filter_map}
use Rattle.std.proofs.lemmas.Bool.{cases_Bool, eqb-true}
use Rattle.std.proofs.lemmas.List.Elements.{All-append, All-cons, All-filter, All-head, All-nil, All-tail, filter_map-append}
use Rattle.tap_log.specs.declared.record.Record.{Record}
use Rattle.tap_log.specs.declared.record.Record.TheVariants.{Arrived, Lost, Packet}
use Rattle.tap_log.specs.Counts.{packet_count, sent_count}
use Rattle.tap_log.specs.Kinds.{ended_number, packet_number}
use Rattle.tap_log.specs.Log.{EachFrom}
use Rattle.tap_log.specs.Reduced.{is_added}
use Rattle.tap_log.proofs.MoreRecords.{packet_count-append}
use Rattle.tap_history.specs.Moments.{has_number, under_way}
use Rattle.tap_packets.specs.MayCome.{MayBeMade, MayCome}
use Rattle.tap_packets.specs.Packets.{made_packet}
use Rattle.tap_lawful.proofs.Played.{sent_count-append}
use Rattle.tap_lawful_shapes.proofs.Groups.{IsLow}

-- the numbers of a packet that is made, arrives or is lost
unfoldable pub FitsPackets : Record → Type 0
FitsPackets (Packet number frame ack) = IsLow number × IsLow frame
FitsPackets (Arrived packet) = IsLow packet
FitsPackets (Lost packet) = IsLow packet
FitsPackets other = Unit {0}

pub kept_packets : (item : Record) → is_added item ≡ false → FitsPackets item
unfolding is_added FitsPackets
kept_packets (Packet number frame ack) kept = absurd (cc)
kept_packets (Arrived packet) kept = absurd (cc)
kept_packets (Lost packet) kept = absurd (cc)
kept_packets item kept = tt

-- one of these numbers is low
pub among_low : (numbers : List ℕ) (number : ℕ) → All IsLow numbers → has_number numbers number ≡ true → IsLow number
among_low [] number all has = absurd (cc)
among_low (first ∷ numbers) number all has =
    let rest = among_low numbers number (All-tail IsLow first numbers all) in
    elim (cases_Bool (nat_eq first number)) [
      | inl same ↦ subst IsLow (eqb-true first number same) (All-head IsLow first numbers all)
      | inr other ↦ rest (ap (λ b. b || has_number numbers number) (sym other) ∙ has)
    ]

-- a packet that is under way was made
pub under_way_low : (log : List Record) (number : ℕ) → All IsLow (filter_map packet_number log) → has_number (under_way log) number ≡ true
    → IsLow number
under_way_low log number made has =
    among_low (under_way log) number
    (All-filter (λ other. not (has_number (filter_map ended_number log) other)) IsLow (filter_map packet_number log) made) has

-- ---- each record

one_made : (item : Record) → FitsPackets item → All IsLow (filter_map packet_number (item ∷ []))
unfolding FitsPackets packet_number
one_made (Packet number frame ack) fits = All-cons IsLow number [] fits.0 (All-nil IsLow)
one_made item fits = All-nil IsLow

module _ (before : List Record) (made : All IsLow (filter_map packet_number before)) (packets : packet_count before < 2 ^ 32)
    (frames : sent_count before < 2 ^ 32) where
  one_fits : (item : Record) → MayCome before item → FitsPackets item
  unfolding FitsPackets made_packet ended_number
  one_fits (Packet number frame ack) may =
      let makes : MayBeMade before (record { number = number; frame = frame; ack = ack }) = may.makes in
      let same = makes.number in
      let sent = makes.frame in
      (omega (arith, same, packets), omega (arith, sent, frames))
  one_fits (Arrived packet) may = under_way_low before packet made may.ends
  one_fits (Lost packet) may = under_way_low before packet made may.ends
  one_fits item may = tt

  -- with it, the packets that were made are low still
  made_more : (item : Record) → FitsPackets item → All IsLow (filter_map packet_number (before ++ item ∷ []))
  made_more item fits =
      subst (All IsLow) (sym (filter_map-append packet_number before (item ∷ [])))
      (All-append IsLow (filter_map packet_number before) (filter_map packet_number (item ∷ [])) made (one_made item fits))

pub packets_fit : (before items : List Record) → EachFrom MayCome before items → All IsLow (filter_map packet_number before)
    → packet_count (before ++ items) < 2 ^ 32 → sent_count (before ++ items) < 2 ^ 32 → All FitsPackets items
packets_fit before [] each made packets frames = All-nil FitsPackets
packets_fit before (item ∷ items) each made packets frames =
    let some = packet_count-append before (item ∷ items) in
    let sent = sent_count-append before (item ∷ items) in
    let here = one_fits before made (omega (arith, packets, some)) (omega (arith, frames, sent)) item each.0 in
    let same = sym (append_assoc before (item ∷ []) items) in
    All-cons FitsPackets item items here
    (packets_fit (before ++ item ∷ []) items each.1
    (made_more before made (omega (arith, packets, some)) (omega (arith, frames, sent)) item here)
    (subst (λ l. packet_count l < 2 ^ 32) same packets) (subst (λ l. sent_count l < 2 ^ 32) same frames))
