-- What more records at the end of a log change in what its records tell.
use Rattle.std.specs.Prelude.{◌≡◌, ◌≢◌, ℕ, ◌+◌, Bool, false, ◌&&◌, if◌then◌else◌, List, [], ◌∷◌, ◌++◌, length, fold, Option, None, Some, is_some}
use Rattle.std.specs.List.{cons_option}
use Rattle.tap_log.specs.declared.record.Record.{Record}
use Rattle.tap_log.specs.declared.record.Record.TheVariants.{Carrier}
use Rattle.tap_log.specs.Kinds.{asked_ticket, begun_cast, is_carried, packet_number, sent_number, step_of}
use Rattle.tap_log.specs.Log.{begun_steps}
use Rattle.tap_log.specs.Counts.{cast_count, packet_count, resends_after, resent_count, resent_from, sent_count, ticket_count}
use Rattle.tap_log.specs.Frames.{bytes_of, sent_bytes}

-- the one thing that there may be, as a list
abbrev pub at_most_one : {X : Type 0} → Option X → List X
at_most_one one = cons_option one []

-- the first one of two things that there may be
abbrev pub first_of_both : {X : Type 0} → Option X → Option X → Option X
first_of_both None other = other
first_of_both (Some x) other = Some x

-- the last step of a log sends packets once more
abbrev pub is_resending : List Record → Bool
is_resending log = fold resends_after false log

-- One more record adds what it tells; a frame that was sent keeps its bytes.
pub record OneMoreRecord : Type 0 where
  pub carried : (log : List Record) (item : Record) → item ≢ Carrier → is_carried (log ++ item ∷ []) ≡ is_carried log
  pub steps : (log : List Record) (item : Record) → begun_steps (log ++ item ∷ []) ≡ begun_steps log ++ at_most_one (step_of item)
  pub sent : (log : List Record) (item : Record)
      → sent_count (log ++ item ∷ []) ≡ sent_count log + length (at_most_one (sent_number item))
  pub packets : (log : List Record) (item : Record)
      → packet_count (log ++ item ∷ []) ≡ packet_count log + length (at_most_one (packet_number item))
  pub tickets : (log : List Record) (item : Record)
      → ticket_count (log ++ item ∷ []) ≡ ticket_count log + length (at_most_one (asked_ticket item))
  pub casts : (log : List Record) (item : Record)
      → cast_count (log ++ item ∷ []) ≡ cast_count log + length (at_most_one (begun_cast item))
  pub resent : (log : List Record) (item : Record)
      → resent_count (log ++ item ∷ [])
      ≡ resent_count log + (if is_resending log && is_some (packet_number item) then 1 else 0)
  pub resending : (log : List Record) (item : Record)
      → is_resending (log ++ item ∷ []) ≡ resends_after (is_resending log) item
  pub bytes : (log : List Record) (item : Record) (number : ℕ)
      → bytes_of (log ++ item ∷ []) number ≡ first_of_both (bytes_of log number) (sent_bytes number item)

-- More records, as those of one group, add what they tell: their counts, and the bytes of frames that weren't sent before.
pub record MoreRecords : Type 0 where
  pub sent : (log more : List Record) → sent_count (log ++ more) ≡ sent_count log + sent_count more
  pub packets : (log more : List Record) → packet_count (log ++ more) ≡ packet_count log + packet_count more
  pub tickets : (log more : List Record) → ticket_count (log ++ more) ≡ ticket_count log + ticket_count more
  pub casts : (log more : List Record) → cast_count (log ++ more) ≡ cast_count log + cast_count more
  pub resent : (log more : List Record) → resent_count (log ++ more) ≡ resent_count log + resent_from (is_resending log) more
  pub resending : (log more : List Record) → is_resending (log ++ more) ≡ fold resends_after (is_resending log) more
  pub bytes : (log more : List Record) (number : ℕ)
      → bytes_of (log ++ more) number ≡ first_of_both (bytes_of log number) (bytes_of more number)
