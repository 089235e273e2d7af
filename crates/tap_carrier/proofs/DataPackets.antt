-- The data packets of several frames, one after another.
use Rattle.std.proofs.Common.{◌≡◌, ℕ, ◌+◌, List, [], ◌∷◌, ◌++◌, length, map, refl, ap, ◌∙◌, arith}
use Rattle.std.proofs.lemmas.List.{map-append}
use Rattle.tap_log.specs.declared.record.Record.{Record}
use Rattle.tap_log.specs.Counts.{packet_count}
use Rattle.tap_log.specs.Kinds.{packet_number}
use Rattle.tap_log.proofs.MoreRecords.{packet_count-append}
use Rattle.tap_packets.specs.Groups.{data_line, data_lines, data_packets}
use Rattle.tap_packets.specs.Packets.{packet_record}

lines_more : (number : ℕ) (xs ys : List ℕ) → data_lines number (xs ++ ys) ≡ data_lines number xs ++ data_lines (number + length xs) ys
lines_more number [] ys = ap (λ n. data_lines n ys) (omega arith)
lines_more number (x ∷ xs) ys =
    let next : (number + 1) + length xs ≡ number + length (x ∷ xs) = omega arith in
    ap (λ l. data_line number x ∷ l) (lines_more (number + 1) xs ys ∙ ap (λ n. data_lines (number + 1) xs ++ data_lines n ys) next)

-- those of some frames, and then those of the others
pub packets_more : (log : List Record) (xs ys : List ℕ)
    → data_packets log (xs ++ ys) ≡ data_packets log xs ++ map packet_record (data_lines (packet_count log + length xs) ys)
packets_more log xs ys =
    ap (map packet_record) (lines_more (packet_count log) xs ys)
    ∙ map-append packet_record (data_lines (packet_count log) xs) (data_lines (packet_count log + length xs) ys)

counted : (number : ℕ) (frames : List ℕ) → packet_count (map packet_record (data_lines number frames)) ≡ length frames
unfolding packet_number
counted number [] = refl
counted number (frame ∷ frames) = let rest = counted (number + 1) frames in omega (arith, rest)

-- how many packets there are with them
pub count_with : (log : List Record) (frames : List ℕ)
    → packet_count (log ++ data_packets log frames) ≡ packet_count log + length frames
count_with log frames =
    packet_count-append log (data_packets log frames) ∙ ap (λ k. packet_count log + k) (counted (packet_count log) frames)
