-- The letters of a node: frames that it has sent, and that await their acknowledgement.
--
-- Rule: docs/PROTOCOL.md, "Packets".
use Rattle.std.specs.Prelude.{ℕ, ◌+◌, ◌<◌, nat_eq, not, if◌then◌else◌, Bool, List, [], ◌∷◌, ◌++◌, filter, All, AllPairs, Result, Ok, Err, unwrap_or}
use Rattle.std.specs.List.{flat_map}
use Rattle.std.specs.Map.{lookup}
use Rattle.tap_name.specs.Name.{Name}
use Rattle.tap_name.specs.Settings.{SettingsValue}
use Rattle.tap_wire.specs.declared.fault.HeadFault.{HeadFault}
use Rattle.tap_wire.specs.declared.frame.Head.{Head}
use Rattle.tap_wire.specs.Reading.{head_of}
use Rattle.tap_carry.specs.declared.outbox.Await.{Await}
use Rattle.tap_carry.specs.Names.{is_name, is_same, number_of}
use Rattle.tap_host_line.specs.Texts.{text_of_packet}

-- a frame that awaits its acknowledgement: the receiver, its number there, and its bytes
pub record Letter : Type 0 where
  pub to : Name
  pub seq : ℕ
  pub frame : List ℕ

-- what is kept: the letters in the order of sending, the last number for each receiver, and how many were sent
pub record MailValue : Type 0 where
  pub letters : List Letter
  pub last : List (List ℕ × ℕ)
  pub sent : ℕ

-- what a step sees of it: the last number for a receiver is 0 if none was given
pub record MailSeen : Type 0 where
  pub letters : List Letter
  pub last : Name → ℕ
  pub sent : ℕ

abbrev pub mail_seen : MailValue → MailSeen
mail_seen mail = record { letters = mail.letters; last = number_of mail.last; sent = mail.sent }

abbrev pub empty_mail : MailSeen
empty_mail = record { letters = []; last = λ to. 0; sent = 0 }

-- the bytes that are kept by a frame's number
abbrev pub frame_at : List (ℕ × List ℕ) → ℕ → List ℕ
frame_at frames number = unwrap_or (lookup (nat_eq number) frames) []

-- frames are kept in the order of their numbers, each below the next number
pub record AreNumbered (frames : List (ℕ × List ℕ)) (next : ℕ) : Type 0 where
  pub ascending : AllPairs (λ a b. a.0 < b.0) frames
  pub below : All (λ a. a.0 < next) frames

-- the letter of what awaits
abbrev pub letter_in : List (ℕ × List ℕ) → Await → Letter
letter_in frames item = record { to = item.to; seq = item.seq; frame = frame_at frames item.frame }

-- a frame is sent: it awaits with the number after the last one for its receiver
abbrev pub mail_sent : MailSeen → Name → List ℕ → MailSeen
mail_sent mail to frame = record {
  letters = mail.letters ++ record { to = to; seq = mail.last to + 1; frame = frame } ∷ [];
  last = λ x. if is_name to x then mail.last to + 1 else mail.last x;
  sent = mail.sent + 1;
}

-- the letter of this number to this receiver
abbrev pub is_letter : Name → ℕ → Letter → Bool
is_letter to seq letter = is_same letter.to letter.seq to seq

-- it is acknowledged
abbrev pub mail_acked : MailSeen → Name → ℕ → MailSeen
mail_acked mail from seq = record mail { letters = filter (λ letter. not (is_letter from seq letter)) mail.letters }

-- ---- what is written

-- the packets of letters
abbrev pub text_of_letter : Letter → List ℕ
text_of_letter letter = text_of_packet letter.to letter.seq letter.frame

abbrev pub text_of_letters : List Letter → List ℕ
text_of_letters letters = flat_map text_of_letter letters

-- the mail and the text so far, after one more frame is posted to the receiver that its head names
abbrev pub posts_by : MailSeen × List ℕ → List ℕ → Result Head HeadFault → MailSeen × List ℕ
posts_by so_far frame (Ok head) =
    (mail_sent so_far.0 head.to frame, so_far.1 ++ text_of_packet head.to (so_far.0.last head.to + 1) frame)
posts_by so_far frame (Err fault) = so_far

-- the same after these frames
abbrev pub posts : SettingsValue → MailSeen × List ℕ → List (List ℕ) → MailSeen × List ℕ
posts p so_far [] = so_far
posts p so_far (frame ∷ frames) = posts p (posts_by so_far frame (head_of p frame)) frames
