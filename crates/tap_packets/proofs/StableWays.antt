-- A frame keeps its way and its sequence number while the log grows.
-- Cited above: awaits-cons, ways-size
use Rattle.std.proofs.Common.{◌≡◌, ℕ, ◌+◌, ◌<◌, Bool, true, false, nat_eq, List, [], ◌∷◌, ◌++◌, length, map, filter, take, refl, ap, sym, ◌∙◌, cond, arith, inl, inr}
use Rattle.std.specs.Prelude.{◌&&◌, ◌||◌, if◌then◌else◌}
use Rattle.std.proofs.lemmas.Bool.{ne_eqb, eq-eqb, cases_eq, and_from, false_from_ne_true}
use Rattle.std.proofs.lemmas.List.{map-append, get_or_append_left, take-append-le}
use Rattle.std.proofs.lemmas.List.Elements.{filter-append}
use Rattle.tap_name.specs.Settings.{SettingsValue}
use Rattle.tap_log.specs.declared.record.Record.{Record}
use Rattle.tap_log.specs.declared.record.Record.TheVariants.{Sent}
use Rattle.tap_log.specs.Kinds.{sent_number}
use Rattle.tap_log.specs.Counts.{sent_count}
use Rattle.tap_history.specs.Moments.{has_number}
use Rattle.tap_carry.specs.Names.{is_name}
use Rattle.tap_carry.specs.Outbox.{await_with}
use Rattle.tap_carry.specs.declared.outbox.Await.{Await}
use Rattle.tap_carry.specs.Net.{numbered}
use Rattle.tap_carry.specs.declared.net.Numbered.{Numbered}
use Rattle.tap_packets.specs.Matching.{is_from, await_of, awaits_from, any_has_sequence, numbered_along}
use Rattle.tap_packets.specs.Packets.{PacketLine, line_frames}
use Rattle.tap_packets.specs.Sequence.{Way, sent_way, frame_ways, is_way, way_count, no_way, way_at, sequence_in, has_sequence}
use Rattle.tap_packets.proofs.NumbersInRows.{AreBelow}
use Rattle.tap_packets.proofs.SameWays.{way_itself}
use Rattle.tap_packets.proofs.SequenceNumbers.{tells_one}

pub ways-size : (settings : SettingsValue) (log : List Record) → length (frame_ways settings log) ≡ sent_count log
unfolding sent_number sent_way
ways-size settings [] = refl
ways-size settings (Sent number bytes ∷ log) = let rest = ways-size settings log in omega (arith, rest)
ways-size settings (item ∷ log) = ways-size settings log

pub way-stays : (ws more : List Way) (f : ℕ) → f < length ws → way_at (ws ++ more) f ≡ way_at ws f
way-stays ws more f low = get_or_append_left ws more no_way f low

pub sequence-stays : (ws more : List Way) (f : ℕ) → f < length ws → sequence_in (ws ++ more) f ≡ sequence_in ws f
sequence-stays ws more f low =
    ap (λ l. way_count l (way_at (ws ++ more) f) + 1) (take-append-le f ws more (omega arith))
    ∙ ap (λ w. way_count (take f ws) w + 1) (way-stays ws more f low)

-- ---- packets

with_way : PacketLine → Way → ℕ → Numbered
with_way line way seq =
    numbered line.number (record {
      from = if line.ack then way.to else way.from;
      to = if line.ack then way.from else way.to;
      seq = seq;
      frame = line.frame;
      ack = line.ack;
    })

-- a packet goes the same way as frames are sent later
pub numbered-stay : (ws more : List Way) (line : PacketLine) → line.frame < length ws
    → numbered_along (ws ++ more) line ≡ numbered_along ws line
unfolding with_way
numbered-stay ws more line low =
    ap (λ w. with_way line w (sequence_in (ws ++ more) line.frame)) (way-stays ws more line.frame low)
    ∙ ap (with_way line (way_at ws line.frame)) (sequence-stays ws more line.frame low)

pub lines-stay : (ws more : List Way) (lines : List PacketLine) → AreBelow (length ws) (line_frames lines)
    → map (numbered_along (ws ++ more)) lines ≡ map (numbered_along ws) lines
lines-stay ws more [] below = refl
lines-stay ws more (line ∷ lines) below =
    ap (λ x. x ∷ map (numbered_along (ws ++ more)) lines) (numbered-stay ws more line below.0)
    ∙ ap (λ l. numbered_along ws line ∷ l) (lines-stay ws more lines below.1)

-- ---- frames taken

tells-stay : (ws more : List Way) (way : Way) (seq f : ℕ) → f < length ws → has_sequence (ws ++ more) way seq f ≡ has_sequence ws way seq f
tells-stay ws more way seq f low =
    ap (λ w. is_way w way && nat_eq (sequence_in (ws ++ more) f) seq) (way-stays ws more f low)
    ∙ ap (λ s. is_way (way_at ws f) way && nat_eq s seq) (sequence-stays ws more f low)

pub told-stays : (ws more : List Way) (frames : List ℕ) (way : Way) (seq : ℕ) → AreBelow (length ws) frames
    → any_has_sequence (ws ++ more) frames way seq ≡ any_has_sequence ws frames way seq
told-stays ws more [] way seq below = refl
told-stays ws more (f ∷ frames) way seq below =
    ap (λ b. b || any_has_sequence (ws ++ more) frames way seq) (tells-stay ws more way seq f below.0)
    ∙ ap (λ b. has_sequence ws way seq f || b) (told-stays ws more frames way seq below.1)

pub tells-is : (ws : List Way) (f g : ℕ) → f < length ws → g < length ws → has_sequence ws (way_at ws f) (sequence_in ws f) g ≡ nat_eq g f
tells-is ws f g fin gin =
    let own : has_sequence ws (way_at ws f) (sequence_in ws f) f ≡ true =
    and_from (is_way (way_at ws f) (way_at ws f)) (nat_eq (sequence_in ws f) (sequence_in ws f)) (way_itself (way_at ws f))
    (eq-eqb (sequence_in ws f) (sequence_in ws f) refl) in
    elim (cases_eq g f) [
      | inl e ↦ ap (has_sequence ws (way_at ws f) (sequence_in ws f)) e ∙ own ∙ sym (eq-eqb g f e)
      | inr ne ↦
          false_from_ne_true (has_sequence ws (way_at ws f) (sequence_in ws f) g)
          (λ is. ne (tells_one ws (way_at ws f) (sequence_in ws f) g f gin fin is own))
          ∙ sym (ne_eqb g f ne)
    ]

-- the inbox of a frame's receiver knows of its sequence number exactly if the frame is among those
pub told-has : (ws : List Way) (frames : List ℕ) (f : ℕ) → f < length ws → AreBelow (length ws) frames
    → any_has_sequence ws frames (way_at ws f) (sequence_in ws f) ≡ has_number frames f
told-has ws [] f low below = refl
told-has ws (g ∷ frames) f low below =
    ap (λ b. b || any_has_sequence ws frames (way_at ws f) (sequence_in ws f)) (tells-is ws f g low below.0)
    ∙ ap (λ b. nat_eq g f || b) (told-has ws frames f low below.1)

-- ---- frames that await

await-stays : (ws more : List Way) (f : ℕ) → f < length ws → await_of (ws ++ more) f ≡ await_of ws f
await-stays ws more f low =
    ap (λ (w : Way). await_with w.to (sequence_in (ws ++ more) f) f) (way-stays ws more f low)
    ∙ ap (λ seq. await_with (way_at ws f).to seq f) (sequence-stays ws more f low)

keep : {X Y : Type 0} (b : Bool) (x : X) (y : Y) (h : X → Y) (xs : List X) (ys : List Y) → h x ≡ y → map h xs ≡ ys
    → map h (cond {A = List X} b (x ∷ xs) xs) ≡ cond {A = List Y} b (y ∷ ys) ys
keep true x y h xs ys one rest = ap (λ a. a ∷ map h xs) one ∙ ap (λ l. y ∷ l) rest
keep false x y h xs ys one rest = rest

-- what a node's outbox keeps, one frame after the other
abbrev pub awaits_step : List Way → List ℕ → ℕ → List Await → List Await
awaits_step ws name f rest = cond {A = List Await} (is_from ws name f) (await_of ws f ∷ rest) rest

pub awaits-cons : (ws : List Way) (name : List ℕ) (f : ℕ) (frames : List ℕ)
    → awaits_from ws (f ∷ frames) name ≡ awaits_step ws name f (awaits_from ws frames name)
awaits-cons ws name f frames =
    keep (is_from ws name f) f (await_of ws f) (await_of ws) (filter (is_from ws name) frames) (awaits_from ws frames name) refl refl

pub awaits-append : (ws : List Way) (name : List ℕ) (xs ys : List ℕ)
    → awaits_from ws (xs ++ ys) name ≡ awaits_from ws xs name ++ awaits_from ws ys name
awaits-append ws name xs ys =
    ap (map (await_of ws)) (filter-append (is_from ws name) xs ys)
    ∙ map-append (await_of ws) (filter (is_from ws name) xs) (filter (is_from ws name) ys)

pub awaits-stay : (ws more : List Way) (name : List ℕ) (frames : List ℕ) → AreBelow (length ws) frames
    → awaits_from (ws ++ more) frames name ≡ awaits_from ws frames name
awaits-stay ws more name [] below = refl
awaits-stay ws more name (f ∷ frames) below =
    let rest = awaits_from (ws ++ more) frames name in
    awaits-cons (ws ++ more) name f frames
    ∙ ap (λ b. cond {A = List Await} b (await_of (ws ++ more) f ∷ rest) rest) (ap (λ (w : Way). is_name w.from name) (way-stays ws more f below.0))
    ∙ ap (λ a. cond {A = List Await} (is_from ws name f) (a ∷ rest) rest) (await-stays ws more f below.0)
    ∙ ap (awaits_step ws name f) (awaits-stay ws more name frames below.1)
    ∙ sym (awaits-cons ws name f frames)
