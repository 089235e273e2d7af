-- Each frame is taken at most once, and exactly once at rest.
-- Cited above: taken_once_holds
use Rattle.std.proofs.Common.{◌≡◌, ℕ, suc, ◌<◌, ◌≤◌, Bool, true, false, not, nat_eq, List, [], ◌∷◌, ◌++◌, length, filter, None, Some, refl, ap, sym, ◌∙◌, cond, arith, subst, inl, inr, ◌⊎◌, append-nil, append_assoc}
use Rattle.std.specs.Prelude.{◌&&◌, ◌||◌, if◌then◌else◌}
use Rattle.std.specs.List.{cons_option}
use Rattle.std.proofs.lemmas.Bool.{ne_eqb, eq-eqb, eqb-true, cases_Bool, cases_eq, or_cases, or_left, or_right, or_parts, and_parts, false≢true}
use Rattle.tap_log.specs.declared.record.Record.{Record}
use Rattle.tap_log.specs.declared.record.Record.TheVariants.{Taken}
use Rattle.tap_log.specs.Kinds.{taken_number}
use Rattle.tap_log.specs.Counts.{sent_count}
use Rattle.tap_log.specs.Log.{EachFrom, EachRecord}
use Rattle.tap_history.specs.Moments.{has_number, numbers_less, outstanding, acknowledged, awaiting}
use Rattle.tap_packets.specs.MayCome.{HasJustArrived, MayCome}
use Rattle.tap_packets.specs.PacketLaws.{times_taken, TakenOnce}
use Rattle.tap_packets.specs.Packets.{frames_sent, frames_taken, PacketLine, packet_lines}
use Rattle.tap_packets.proofs.GroupsCome.{sent-taken}
use Rattle.tap_packets.proofs.KeptForms.{AcknowledgeOnly, Keeps, keeps_from}
use Rattle.tap_packets.proofs.MoreUnderWay.{packets_arrived, acknowledged_lines, acknowledged-is}
use Rattle.tap_packets.proofs.NumbersInRows.{AreDistinct, has-less}

-- ---- how often a number is there

none-of : (n : ℕ) (xs : List ℕ) → has_number xs n ≡ false → length (filter (λ other. nat_eq other n) xs) ≡ 0
none-of n [] gone = refl
none-of n (x ∷ xs) gone =
    let parts = or_parts (nat_eq x n) (has_number xs n) gone in
    ap (λ b. length (cond {A = List ℕ} b (x ∷ filter (λ other. nat_eq other n) xs) (filter (λ other. nat_eq other n) xs))) parts.0
    ∙ none-of n xs parts.1

one-of : (n : ℕ) (xs : List ℕ) → AreDistinct xs → has_number xs n ≡ true → length (filter (λ other. nat_eq other n) xs) ≡ 1
one-of n [] distinct there = absurd (false≢true there)
one-of n (x ∷ xs) distinct there =
    let rest = filter (λ other. nat_eq other n) xs in
    elim (cases_eq x n) [
      | inl same ↦
          ap (λ b. length (cond {A = List ℕ} b (x ∷ rest) rest)) (eq-eqb x n same)
          ∙ ap suc (none-of n xs (ap (has_number xs) (sym same) ∙ distinct.0))
      | inr apart ↦
          ap (λ b. length (cond {A = List ℕ} b (x ∷ rest) rest)) (ne_eqb x n apart)
          ∙ one-of n xs distinct.1 (ap (λ b. b || has_number xs n) (sym (ne_eqb x n apart)) ∙ there)
    ]

taken-most : (log : List Record) (frame : ℕ) → Keeps log → times_taken log frame ≤ 1
taken-most log frame kept =
    elim (cases_Bool (has_number (frames_taken log) frame)) [
      | inl there ↦ let one = one-of frame (frames_taken log) kept.once there in omega arith
      | inr gone ↦ let none = none-of frame (frames_taken log) gone in omega arith
    ]

taken-all : (log : List Record) (frame : ℕ) → Keeps log → outstanding log ≡ [] → frame < sent_count log → times_taken log frame ≡ 1
taken-all log frame kept none low =
    one-of frame (frames_taken log) kept.once (sent-taken log frame kept low (ap (λ l. has_number l frame) none))

-- ---- right after an arrival

follow-at : (log before after : List Record) (item : Record) → EachFrom MayCome log (before ++ item ∷ after) → MayCome (log ++ before) item
follow-at log [] after item follow = subst (λ l. MayCome l item) (sym (append-nil log)) follow.0
follow-at log (x ∷ before) after item follow =
    subst (λ l. MayCome l item) (append_assoc log (x ∷ []) before) (follow-at (log ++ x ∷ []) before after item follow.1)

due-of : (log : List Record) (frame : ℕ) → MayCome log (Taken frame) → HasJustArrived log frame
unfolding taken_number
due-of log frame next = next.takes

taken-arrives : (log before after : List Record) (frame : ℕ) → EachRecord MayCome log → log ≡ before ++ Taken frame ∷ after
    → HasJustArrived before frame
taken-arrives log before after frame follow is =
    due-of before frame (follow-at [] before after (Taken frame) (subst (EachRecord MayCome) is follow))

-- ---- settled

-- a list less another is empty exactly if each of the first is among the second
less-empty : (xs ended : List ℕ) → ((g : ℕ) → has_number xs g ≡ true → has_number ended g ≡ true) → numbers_less xs ended ≡ []
less-empty [] ended all = refl
less-empty (x ∷ xs) ended all =
    ap (λ b. cond {A = List ℕ} (not b) (x ∷ numbers_less xs ended) (numbers_less xs ended))
    (all x (or_left (nat_eq x x) (has_number xs x) (eq-eqb x x refl)))
    ∙ less-empty xs ended (λ g is. all g (or_right (nat_eq x g) (has_number xs g) is))

empty-less : (xs ended : List ℕ) (g : ℕ) → numbers_less xs ended ≡ [] → has_number xs g ≡ true → has_number ended g ≡ true
empty-less xs ended g none there =
    let was = sym (has-less xs ended g) ∙ ap (λ l. has_number l g) none in
    elim (cases_Bool (has_number ended g)) [
      | inl is ↦ is
      | inr isnt ↦ absurd (false≢true (sym was ∙ ap (λ b. b && not (has_number ended g)) there ∙ ap not isnt))
    ]

acked-step : (passes : Bool) (frame g : ℕ) (others : List ℕ)
    → has_number (cons_option (if passes then Some frame else None) others) g ≡ true
    → ((passes ≡ true) × (frame ≡ g)) ⊎ (has_number others g ≡ true)
acked-step true frame g others is =
    elim (or_cases (nat_eq frame g) (has_number others g) is) [ inl here ↦ inl (refl, eqb-true frame g here) | inr later ↦ inr later ]
acked-step false frame g others is = inr is

-- a frame that is acknowledged is among those of which these packets are acknowledgements
acked-among : (numbers frames : List ℕ) (lines : List PacketLine) (g : ℕ) → AcknowledgeOnly frames lines
    → has_number (acknowledged_lines numbers lines) g ≡ true
    → has_number frames g ≡ true
acked-among numbers frames [] g acks is = absurd (false≢true is)
acked-among numbers frames (line ∷ lines) g acks is =
    elim (acked-step (line.ack && has_number numbers line.number) line.frame g (acknowledged_lines numbers lines) is) [
      | inl here ↦
          let parts = and_parts line.ack (has_number numbers line.number) here.0 in
          ap (has_number frames) (sym here.1) ∙ acks.0 parts.0
      | inr later ↦ acked-among numbers frames lines g acks.1 later
    ]

settled-still : (log : List Record) → Keeps log → awaiting log ≡ [] → outstanding log ≡ []
settled-still log kept none =
    less-empty (frames_sent log) (frames_taken log) (λ g there.
    acked-among (packets_arrived log) (frames_taken log) (packet_lines log) g kept.acks
    (ap (λ l. has_number l g) (sym (acknowledged-is log)) ∙ empty-less (frames_sent log) (acknowledged log) g none there))

pub taken_once_holds : TakenOnce
taken_once_holds = record {
  most = λ log frame kept. taken-most log frame (keeps_from log kept);
  arrives = taken-arrives;
  all = λ log frame kept. taken-all log frame (keeps_from log kept);
  settled = λ log kept. settled-still log (keeps_from log kept);
}
