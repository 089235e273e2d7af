use Rattle.std.proofs.Common.{◌≡◌, ◌∙◌, List, ℕ, None, Some, ◌∷◌, ap, sym}
use Rattle.std.specs.Prelude.{option_map}
use Rattle.tap_scenario.specs.Words.{words}
use Rattle.tap_host_line.specs.declared.line.Line.TheVariants.{Packet}
use Rattle.tap_host_line.specs.Line.{frame_of_word, packet_line_of_words}
use Rattle.tap_host_line.proofs.Packets.{no_packet, packet_read}
use Rattle.tap_host_line.proofs.reading.read_packet.Goals as goal

pub returns-in-Some-2-clause-value : goal.returns-in-Some-2-clause-value
returns-in-Some-2-clause-value c =
    let from = c.in-Some.from.now in
    let seq = c.in-Some-next.seq.now in
    let text = c.in-Some-text.frame.now in
    let all : c.args.words ≡ from ∷ seq ∷ words text =
    c.in-Some.ensures
    ∙ ap (λ (others : List (List ℕ)). from ∷ others)
    (c.in-Some-next.ensures ∙ ap (λ (others : List (List ℕ)). seq ∷ others) (sym c.in-Some-text.ensures)) in
    let framed : Some c.in-Some-2.bytes.items ≡ frame_of_word text =
    sym (ap (option_map (λ found. found.items)) c.in-Some-2.is) ∙ c.in_ok-bytes.ensures in
    ap (λ (frame : List ℕ). Some (Packet c.in-Some-Some.from c.in-Some-Some.seq frame)) c.from_vec.ensures
    ∙ sym (packet_read c.args.settings.now from seq text c.in-Some-Some.from c.in-Some-Some.seq c.in-Some-2.bytes.items
    c.in-Some-Some.ensures.value c.in-Some-Some.ensures'.value framed)
    ∙ ap (packet_line_of_words c.args.settings.now) (sym all)

pub returns-in-None-clause-value : goal.returns-in-None-clause-value
returns-in-None-clause-value c =
    let from = c.in-Some.from.now in
    let seq = c.in-Some-next.seq.now in
    let text = c.in-Some-text.frame.now in
    let all : c.args.words ≡ from ∷ seq ∷ words text =
    c.in-Some.ensures
    ∙ ap (λ (others : List (List ℕ)). from ∷ others)
    (c.in-Some-next.ensures ∙ ap (λ (others : List (List ℕ)). seq ∷ others) (sym c.in-Some-text.ensures)) in
    let framed : None ≡ frame_of_word text = sym (ap (option_map (λ found. found.items)) c.in-None.is) ∙ c.in_ok-bytes.ensures in
    sym (no_packet c.args.settings.now from seq text framed) ∙ ap (packet_line_of_words c.args.settings.now) (sym all)
