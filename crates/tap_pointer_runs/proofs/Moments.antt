-- The moments of a log with one more group, and what has disturbed lookups so far.
use Rattle.std.proofs.Common.{◌≡◌, ◌⊎◌, inl, inr, ℕ, ◌<◌, ◌≤◌, true, List, [], ◌∷◌, ◌++◌, length, take, arith, refl, ap, sym, subst, ◌∙◌, length-append}
use Rattle.std.specs.Prelude.{drop, nat_eq}
use Rattle.std.specs.Cmp.Lexicographic.{pointwise}
use Rattle.std.proofs.Math.Seq.{drop-append_seam, take-append_seam, take-length}
use Rattle.std.proofs.lemmas.Bool.{cases_Bool, cases_lt, true≢false}
use Rattle.std.proofs.lemmas.List.{drop-append-le, take-append-le}
use Rattle.std.proofs.lemmas.Slice.Eq.{bytes_eq-Decides}
use Rattle.tap_pointer.specs.Pointers.{pair_of}
use Rattle.tap_wire.specs.declared.frame.Body.{Body}
use Rattle.tap_wire.specs.declared.frame.Body.TheVariants.{Answer, Find}
use Rattle.tap_wire.specs.declared.frame.Frame.{Frame}
use Rattle.tap_log.specs.declared.record.Pair.{Pair}
use Rattle.tap_log.specs.declared.record.Record.{Record}
use Rattle.tap_history.specs.Moments.{is_moment}
use Rattle.tap_history.specs.Published.{has_pair, published_of}
use Rattle.tap_history.proofs.Instants.{moment-within}
use Rattle.tap_history.proofs.OneMoreGroup.{is_moment-earlier, is_moment-end, is_moment-within}
use Rattle.tap_safety.specs.System.{AmongFrames}
use Rattle.tap_runs.specs.Course.{system_of}
use Rattle.tap_runs.specs.Observed.{pair_line}
use Rattle.tap_runs.proofs.Within.{IsWhole}
use Rattle.tap_pointer_runs.specs.Paths.{IsPublishedIn}
use Rattle.tap_pointer_moves.specs.NoServer.{AreLookups, IsLookup}
use Rattle.tap_pointer_runs.specs.LookupAnswers.{was_asked}
use Rattle.tap_pointer_runs.specs.NoServer.{EndsAsAsked, EndsAsTaken, HasEndedBy, IsDisturbed, WasDisturbed}

-- ---- one more group

module _ (log group : List Record) (whole : IsWhole log group) where
  abbrev longer : List Record
  longer = log ++ group

  pub longer_is : log ++ group ≡ log ++ whole.first ∷ whole.after
  longer_is = ap (λ g. log ++ g) whole.is

  -- the moments that there were are moments still
  pub earlier_moment : (m : ℕ) → m ≤ length log → is_moment (log ++ group) m ≡ is_moment log m
  earlier_moment m below =
      ap (λ l. is_moment l m) longer_is ∙ is_moment-earlier log whole.first whole.after whole.whole m below

  -- the end of the group is the only other one
  pub end_moment : is_moment (log ++ group) (length (log ++ group)) ≡ true
  end_moment =
      subst (λ l. is_moment l (length l) ≡ true) (sym longer_is) (is_moment-end log whole.first whole.after whole.whole)

  pub moment_before : (m : ℕ) → is_moment (log ++ group) m ≡ true → m < length (log ++ group) → m ≤ length log
  moment_before m is below =
      elim (cases_lt (length log) m) [
        | inr within ↦ omega (arith, within)
        | inl above ↦
            let less : m < length (log ++ whole.first ∷ whole.after) = subst (λ l. m < length l) longer_is below in
            let none = is_moment-within log whole.first whole.after whole.whole m above less in
            let there : is_moment (log ++ whole.first ∷ whole.after) m ≡ true = subst (λ l. is_moment l m ≡ true) longer_is is in
            absurd (true≢false (sym there ∙ none))
      ]

-- ---- whether a lookup is disturbed

-- nothing disturbs a lookup of the object
pub record IsClear (log : List Record) (object : List ℕ) : Type 0 where
  pub server : List ℕ
  pub published : IsPublishedIn log (pair_of object server)
  pub lookups : AreLookups (system_of log)

pair_or_none : (pairs : List Pair) (object : List ℕ)
    → ((server : List ℕ) × (has_pair pairs (pair_line (pair_of object server)) ≡ true))
    ⊎ ((server : List ℕ) → has_pair pairs (pair_line (pair_of object server)) ≡ true → ⊥)
pair_or_none [] object = inr (λ server is. true≢false (sym is))
pair_or_none (pair ∷ pairs) object =
    elim (cases_Bool (pointwise nat_eq pair.object object)) [
      | inl same ↦
          let server : pointwise nat_eq pair.server pair.server ≡ true = (bytes_eq-Decides pair.server pair.server).1 refl in
          inl (pair.server, rw (same, server) refl)
      | inr apart ↦
          elim (pair_or_none pairs object) [
            | inl one ↦ inl (one.0, rw apart one.1)
            | inr none ↦ inr (λ server is. none server (rw apart at is))
          ]
    ]

lookup_or_not : (body : Body) → IsLookup body ⊎ (IsLookup body → ⊥)
lookup_or_not (Find ticket object asker level) = inl tt
lookup_or_not (Answer ticket server) = inl tt
lookup_or_not _ = inr (λ is. is)

-- all of these frames are of lookups, or one isn't
record HasOther (frames : List (ℕ × Frame)) : Type 0 where
  number : ℕ
  frame : Frame
  among : AmongFrames number frame frames
  other : IsLookup frame.body → ⊥

lookups_or_other : (frames : List (ℕ × Frame))
    → ((number : ℕ) (frame : Frame) → AmongFrames number frame frames → IsLookup frame.body) ⊎ HasOther frames
lookups_or_other [] = inl (λ number frame among. absurd among)
lookups_or_other (f ∷ fs) =
    elim (lookup_or_not f.1.body) [
      | inr other ↦ inr (record { number = f.0; frame = f.1; among = inl (refl, refl); other = other })
      | inl is ↦
          elim (lookups_or_other fs) [
            | inr one ↦ inr (record { number = one.number; frame = one.frame; among = inr one.among; other = one.other })
            | inl all ↦ inl (λ number frame among. elim among [
              | inl here ↦ subst (λ (g : Frame). IsLookup g.body) (sym here.1) is
              | inr later ↦ all number frame later
            ])
          ]
    ]

pub disturbed_or_clear : (log : List Record) (object : List ℕ) → IsDisturbed log object ⊎ IsClear log object
disturbed_or_clear log object =
    elim (pair_or_none (published_of log) object) [
      | inr none ↦ inl (inl none)
      | inl one ↦
          elim (lookups_or_other (system_of log).frames) [
            | inr busy ↦
                inl (inr (record {
                  from = busy.frame.from;
                  to = busy.frame.to;
                  body = busy.frame.body;
                  way = record { number = busy.number; among = busy.among };
                  other = busy.other;
                }))
            | inl all ↦
                inr (record {
                  server = one.0;
                  published = one.1;
                  lookups = record {
                    each = λ from to body way. all way.number (record { from = from; to = to; body = body }) way.among;
                  };
                })
          ]
    ]

-- ---- what was so at a moment

-- since a lookup was asked for there was a moment at which it was disturbed
pub record HasBeenDisturbed (log : List Record) (ticket : ℕ) (object : List ℕ) : Type 0 where
  pub at : ℕ
  pub moment : is_moment log at ≡ true
  pub asked : was_asked (take at log) ticket object ≡ true
  pub disturbed : IsDisturbed (take at log) object

-- at its end a log is disturbed, or clear
pub now_disturbed : (log : List Record) (ticket : ℕ) (object : List ℕ) → is_moment log (length log) ≡ true
    → was_asked log ticket object ≡ true → HasBeenDisturbed log ticket object ⊎ IsClear log object
now_disturbed log ticket object moment asked =
    elim (disturbed_or_clear log object) [
      | inr clear ↦ inr clear
      | inl disturbed ↦
          let whole = sym (take-length log) in
          inl (record {
            at = length log;
            moment = moment;
            asked = subst (λ l. was_asked l ticket object ≡ true) whole asked;
            disturbed = subst (λ l. IsDisturbed l object) whole disturbed;
          })
    ]

-- ---- the end of a lookup, in a longer log

-- the lookup ends as this log goes on with these records
abbrev pub EndsWhere : ℕ → List ℕ → List Record → List Record → Type 0
EndsWhere ticket object start later = EndsAsTaken start later ticket object ⊎ EndsAsAsked start later ticket object

-- so it does with more records after them
ends_more : (more : List Record) (ticket : ℕ) (object : List ℕ) (start later : List Record) → EndsWhere ticket object start later
    → EndsWhere ticket object start (later ++ more)
ends_more more ticket object start later (inl taken) =
    inl (record { number = taken.number; items = taken.items ++ more; is = ap (λ l. l ++ more) taken.is; ends = taken.ends })
ends_more more ticket object start later (inr asked) =
    inr (record {
      index = asked.index;
      asker = asked.asker;
      items = asked.items ++ more;
      is = ap (λ l. l ++ more) asked.is;
      ends = asked.ends;
    })

pub ends_longer : (log more : List Record) (ticket : ℕ) (object : List ℕ) (m : ℕ) → m ≤ length log
    → EndsWhere ticket object (take m log) (drop m log) → EndsWhere ticket object (take m (log ++ more)) (drop m (log ++ more))
ends_longer log more ticket object m below ends =
    subst (λ l. EndsWhere ticket object (take m (log ++ more)) l) (sym (drop-append-le m log more below))
    (subst (λ l. EndsWhere ticket object l (drop m log ++ more)) (sym (take-append-le m log more below))
    (ends_more more ticket object (take m log) (drop m log) ends))

-- ---- with one more group

module _ (log group : List Record) (whole : IsWhole log group) (ticket : ℕ) (object : List ℕ) where
  -- the log up to a moment that there was
  take_still : (m : ℕ) → m ≤ length log → take m log ≡ take m (log ++ group)
  take_still m below = sym (take-append-le m log group below)

  pub disturbed_still : HasBeenDisturbed log ticket object → HasBeenDisturbed (log ++ group) ticket object
  disturbed_still was =
      let below = moment-within log was.at was.moment in
      let same = take_still was.at below in
      record {
        at = was.at;
        moment = earlier_moment log group whole was.at below ∙ was.moment;
        asked = subst (λ l. was_asked l ticket object ≡ true) same was.asked;
        disturbed = subst (λ l. IsDisturbed l object) same was.disturbed;
      }

  -- so it is of an answer in the group
  pub disturbed_by : (middle : List Record) → HasBeenDisturbed (log ++ group) ticket object
      → WasDisturbed (log ++ group) (log ++ middle) ticket object
  disturbed_by middle was = record {
    at = was.at;
    moment = was.moment;
    asked = was.asked;
    until = λ other is below.
        let end = moment-within (log ++ group) was.at was.moment in
        let less = moment_before log group whole other is (omega (arith, below, end)) in
        let size = length-append log middle in
        omega (arith, less, size);
    disturbed = was.disturbed;
  }

  -- and still of one before it
  pub answered_still : (before : List Record) → WasDisturbed log before ticket object → WasDisturbed (log ++ group) before ticket object
  answered_still before was =
      let below = moment-within log was.at was.moment in
      let same = take_still was.at below in
      record {
        at = was.at;
        moment = earlier_moment log group whole was.at below ∙ was.moment;
        asked = subst (λ l. was_asked l ticket object ≡ true) same was.asked;
        until = λ other is less.
            was.until other (sym (earlier_moment log group whole other (omega (arith, less, below))) ∙ is) less;
        disturbed = subst (λ l. IsDisturbed l object) same was.disturbed;
      }

  -- a lookup that has ended has ended still
  pub ended_still : (before : List Record) → HasEndedBy log before ticket object → HasEndedBy (log ++ group) before ticket object
  ended_still before was =
      let below = moment-within log was.at was.moment in
      record {
        at = was.at;
        moment = earlier_moment log group whole was.at below ∙ was.moment;
        earlier = was.earlier;
        ends = ends_longer log group ticket object was.at below was.ends;
      }

  -- it ends with the group if this takes its last Find, or asks for it
  pub ends_now : (before : List Record) → is_moment log (length log) ≡ true → length log ≤ length before → EndsWhere ticket object log group
      → HasEndedBy (log ++ group) before ticket object
  ends_now before moment below ends =
      let here : length log ≤ length log = omega arith in
      record {
        at = length log;
        moment = earlier_moment log group whole (length log) here ∙ moment;
        earlier = below;
        ends =
            subst (λ l. EndsWhere ticket object (take (length log) (log ++ group)) l) (sym (drop-append_seam log group))
            (subst (λ l. EndsWhere ticket object l group) (sym (take-append_seam log group)) ends);
      }

-- an answer that comes later has this before it, too
pub ended_later : (log before later : List Record) (ticket : ℕ) (object : List ℕ) → length before ≤ length later
    → HasEndedBy log before ticket object → HasEndedBy log later ticket object
ended_later log before later ticket object longer was = record {
  at = was.at;
  moment = was.moment;
  earlier = let less = was.earlier in omega (arith, less, longer);
  ends = was.ends;
}
