-- What a log tells is what its reduced log tells.
-- Cited above: kept_sent, kept_steps, reduced_tells
use Rattle.std.proofs.Common.{◌≡◌, ℕ, Bool, true, false, not, List, [], ◌∷◌, slice_get, Option, None, Some, refl, ap, sym, ◌∙◌, cond}
use Rattle.std.specs.Prelude.{if◌then◌else◌}
use Rattle.std.specs.List.{filter_map, cons_option}
use Rattle.std.proofs.lemmas.Bool.{false≢true}
use Rattle.tap_log.specs.declared.record.Pair.{Pair}
use Rattle.tap_log.specs.declared.record.Record.{Record}
use Rattle.tap_log.specs.declared.record.Record.TheVariants.{Step, Sent, Taken, Core, Gone, Asked, Published, Withdrawn, Abandoned, CastFrom}
use Rattle.tap_log.specs.Frames.{bytes_of, sent_bytes}
use Rattle.tap_log.specs.Kinds.{abandoned_name, asked_ticket, begun_cast, core_name, gone_name, published_pair, sent_number, step_of, taken_number, withdrawn_pair}
use Rattle.tap_log.specs.Reduced.{is_added, reduced}
use Rattle.tap_history.specs.Moments.{is_still, is_none, numbers_less, outstanding}
use Rattle.tap_history.specs.Published.{has_pair, unwithdrawn_pair, unwithdrawn_pairs}

-- one record more, which tells nothing of this kind if it is left out
one_told : {Y : Type 0} (h : Record → Option Y) (b : Bool) (item : Record) (rest : List Record) (ys : List Y) → (b ≡ true → h item ≡ None)
    → filter_map h rest ≡ ys → filter_map h (cond {A = List Record} (not b) (item ∷ rest) rest) ≡ cons_option (h item) ys
one_told h true item rest ys none is = is ∙ ap (λ o. cons_option o ys) (sym (none refl))
one_told h false item rest ys none is = ap (cons_option (h item)) is

-- what the reduced log leaves out tells nothing of this kind
abbrev pub IsToldByPlain : {Y : Type 0} → (Record → Option Y) → Type 0
IsToldByPlain h = (item : Record) → is_added item ≡ true → h item ≡ None

pub reduced_tells : {Y : Type 0} (h : Record → Option Y) → IsToldByPlain h → (log : List Record) → filter_map h (reduced log) ≡ filter_map h log
reduced_tells h none [] = refl
reduced_tells h none (item ∷ log) = one_told h (is_added item) item (reduced log) (filter_map h log) (none item) (reduced_tells h none log)

pub kept_sent : IsToldByPlain sent_number
unfolding is_added sent_number
kept_sent (Sent number bytes) is = absurd (false≢true is)
kept_sent item is = refl

pub kept_taken : IsToldByPlain taken_number
unfolding is_added taken_number
kept_taken (Taken number) is = absurd (false≢true is)
kept_taken item is = refl

pub kept_steps : IsToldByPlain step_of
unfolding is_added
kept_steps (Step index s) is = absurd (false≢true is)
kept_steps item is = refl

pub kept_asked : IsToldByPlain asked_ticket
unfolding is_added asked_ticket
kept_asked (Asked ticket object asker) is = absurd (false≢true is)
kept_asked item is = refl

pub kept_casts : IsToldByPlain begun_cast
unfolding is_added begun_cast
kept_casts (CastFrom cast word level name) is = absurd (false≢true is)
kept_casts item is = refl

pub kept_core : IsToldByPlain core_name
unfolding is_added core_name
kept_core (Core name) is = absurd (false≢true is)
kept_core item is = refl

pub kept_gone : IsToldByPlain gone_name
unfolding is_added gone_name
kept_gone (Gone name) is = absurd (false≢true is)
kept_gone item is = refl

pub kept_abandoned : IsToldByPlain abandoned_name
unfolding is_added abandoned_name
kept_abandoned (Abandoned name) is = absurd (false≢true is)
kept_abandoned item is = refl

pub kept_published : IsToldByPlain published_pair
unfolding is_added published_pair
kept_published (Published object server) is = absurd (false≢true is)
kept_published item is = refl

pub kept_withdrawn : IsToldByPlain withdrawn_pair
unfolding is_added withdrawn_pair
kept_withdrawn (Withdrawn object server) is = absurd (false≢true is)
kept_withdrawn item is = refl

pub kept_bytes : (number : ℕ) → IsToldByPlain (sent_bytes number)
unfolding is_added sent_bytes
kept_bytes number (Sent sent bytes) is = absurd (false≢true is)
kept_bytes number item is = refl

-- ---- so frames are those of the reduced log

pub reduced_outstanding : (log : List Record) → outstanding (reduced log) ≡ outstanding log
reduced_outstanding log =
    ap (λ l. numbers_less l (filter_map taken_number (reduced log))) (reduced_tells sent_number kept_sent log)
    ∙ ap (numbers_less (filter_map sent_number log)) (reduced_tells taken_number kept_taken log)

pub reduced_still : (log : List Record) → is_still (reduced log) ≡ is_still log
reduced_still log = ap is_none (reduced_outstanding log)

pub reduced_bytes : (log : List Record) (number : ℕ) → bytes_of (reduced log) number ≡ bytes_of log number
reduced_bytes log number = ap (λ l. slice_get l 0) (reduced_tells (sent_bytes number) (kept_bytes number) log)

-- ---- and pairs that no later record withdraws

same_unwithdrawn : (pair : Option Pair) (log : List Record) → unwithdrawn_pair pair (reduced log) ≡ unwithdrawn_pair pair log
same_unwithdrawn None log = refl
same_unwithdrawn (Some pair) log =
    ap (λ l. if has_pair l pair then None else Some pair) (reduced_tells withdrawn_pair kept_withdrawn log)

one_added : (b : Bool) (item : Record) (log : List Record) → is_added item ≡ b → unwithdrawn_pairs (reduced log) ≡ unwithdrawn_pairs log
    → unwithdrawn_pairs (cond {A = List Record} (not b) (item ∷ reduced log) (reduced log)) ≡ unwithdrawn_pairs (item ∷ log)
one_added true item log is rest =
    rest ∙ ap (λ o. cons_option (unwithdrawn_pair o log) (unwithdrawn_pairs log)) (sym (kept_published item is))
one_added false item log is rest =
    ap (λ o. cons_option o (unwithdrawn_pairs (reduced log))) (same_unwithdrawn (published_pair item) log)
    ∙ ap (cons_option (unwithdrawn_pair (published_pair item) log)) rest

pub reduced_pairs : (log : List Record) → unwithdrawn_pairs (reduced log) ≡ unwithdrawn_pairs log
reduced_pairs [] = refl
reduced_pairs (item ∷ log) = one_added (is_added item) item log refl (reduced_pairs log)
