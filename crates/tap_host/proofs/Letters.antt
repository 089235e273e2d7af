-- The letters that await, after one more is sent and after one is acknowledged.
use Rattle.std.proofs.Common.{◌≡◌, ℕ, ◌+◌, ◌<◌, Bool, true, false, not, cond, List, [], ◌∷◌, ◌++◌, map, All, refl, sym, subst, ap, ap₂, ◌∙◌, unwrap_or}
use Rattle.std.specs.List.{filter}
use Rattle.std.proofs.lemmas.List.Elements.{All-head, All-tail}
use Rattle.tap_carry.specs.declared.outbox.Await.{Await}
use Rattle.tap_carry.specs.Names.{number_of}
use Rattle.tap_carry.specs.Outbox.{AreAwaiting, OutboxValue, SendsTo, acked_by, await_with, awaits_less, is_await, last_to}
use Rattle.tap_host.specs.Mail.{AreNumbered, Letter, MailValue, is_letter, letter_in, mail_acked, mail_seen, mail_sent}
use Rattle.tap_host.proofs.Numbered.{Frames, other_last, own_last}

-- one more frame is kept
module _ (frames : Frames) (number : ℕ) (frame : List ℕ) where
  abbrev with_last : Frames
  with_last = frames ++ (number, frame) ∷ []

  letter_stays : (item : Await) → item.frame < number → letter_in with_last item ≡ letter_in frames item
  letter_stays item less =
      ap (λ o. record { to = item.to; seq = item.seq; frame = unwrap_or o [] }) (other_last frames number item.frame frame less)

  letters_stay : (awaits : List Await) → All (λ a. a.frame < number) awaits → map (letter_in with_last) awaits ≡ map (letter_in frames) awaits
  letters_stay [] given = refl
  letters_stay (item ∷ items) given =
      ap₂ (λ (l : Letter) ls. l ∷ ls) (letter_stays item (All-head (λ a. a.frame < number) item items given))
      (letters_stay items (All-tail (λ a. a.frame < number) item items given))

-- one is acknowledged
pub letters_less : (frames : Frames) (from : List ℕ) (seq : ℕ) (awaits : List Await)
    → map (letter_in frames) (awaits_less awaits from seq) ≡ filter (λ letter. not (is_letter from seq letter)) (map (letter_in frames) awaits)
letters_less frames from seq [] = refl
letters_less frames from seq (item ∷ items) = by (is_await from seq item) (letters_less frames from seq items)
  where
    rest : List Letter
    rest = filter (λ letter. not (is_letter from seq letter)) (map (letter_in frames) items)

    by : (same : Bool) → map (letter_in frames) (awaits_less items from seq) ≡ rest
        → map (letter_in frames) (cond (not same) (item ∷ awaits_less items from seq) (awaits_less items from seq))
        ≡ cond (not same) (letter_in frames item ∷ rest) rest
    by true more = more
    by false more = ap (λ ls. letter_in frames item ∷ ls) more

-- ---- the mail

abbrev pub mail_of : OutboxValue → Frames → MailValue
mail_of box frames = record { letters = map (letter_in frames) box.awaits; last = box.last; sent = box.next }

pub acked_mail : (box box' : OutboxValue) (frames : Frames) (from : List ℕ) (seq : ℕ) → box' ≡ acked_by box from seq
    → mail_seen (mail_of box' frames) ≡ mail_acked (mail_seen (mail_of box frames)) from seq
acked_mail box box' frames from seq is =
    ap (λ (b : OutboxValue). mail_seen (mail_of b frames)) is
    ∙ ap (λ (l : List Letter). record { letters = l; last = number_of box.last; sent = box.next }) (letters_less frames from seq box.awaits)

map_push : (f : Await → Letter) (items : List Await) (item : Await) → map f (items ++ item ∷ []) ≡ map f items ++ f item ∷ []
map_push f [] item = refl
map_push f (first ∷ items) item = ap (λ l. f first ∷ l) (map_push f items item)

pub sent_mail : (box box' : OutboxValue) (frames : Frames) (to : List ℕ) (number : ℕ) (frame : List ℕ) → AreAwaiting box
    → AreNumbered frames box.next → number ≡ box.next → SendsTo box box' to number
    → mail_seen (mail_of box' (frames ++ (number, frame) ∷ [])) ≡ mail_sent (mail_seen (mail_of box frames)) to frame
sent_mail box box' frames to number frame valid numbered is sends =
    let after = frames ++ (number, frame) ∷ [] in
    let letter : Letter = record { to = to; seq = last_to box to + 1; frame = frame } in
    let below : All (λ a. a.0 < number) frames = subst (λ n. All (λ a. a.0 < n) frames) (sym is) numbered.below in
    let given : All (λ a. a.frame < number) box.awaits = subst (λ n. All (λ a. a.frame < n) box.awaits) (sym is) valid.sent in
    let there : letter_in after (await_with to (last_to box to + 1) number) ≡ letter =
    ap (λ o. record { to = to; seq = last_to box to + 1; frame = unwrap_or o [] }) (own_last frames number frame below) in
    let letters : map (letter_in after) box'.awaits ≡ map (letter_in frames) box.awaits ++ letter ∷ [] =
    ap (map (letter_in after)) sends.awaits
    ∙ map_push (letter_in after) box.awaits (await_with to (last_to box to + 1) number)
    ∙ ap₂ (λ (ls : List Letter) l. ls ++ l ∷ []) (letters_stay frames number frame box.awaits given) there in
    λ i. record { letters = letters i; last = λ x. sends.last x i; sent = (sends.next ∙ ap (λ n. n + 1) is) i }
