-- Which frames await their acknowledgement after one more record.
use Rattle.std.proofs.Common.{◌≡◌, ℕ, Bool, true, false, List, [], ◌∷◌, ◌++◌, not, nat_eq, None, Some, refl, ap, sym, ◌∙◌}
use Rattle.std.specs.Prelude.{◌&&◌, ◌||◌, if◌then◌else◌}
use Rattle.std.specs.List.{filter_map, cons_option}
use Rattle.std.proofs.lemmas.List.Folds.{list_any-append}
use Rattle.tap_log.specs.declared.record.Record.{Record}
use Rattle.tap_log.specs.declared.record.Record.TheVariants.{Arrived, Packet}
use Rattle.tap_log.specs.Kinds.{arrived_number, sent_number}
use Rattle.tap_log.specs.MoreRecords.{at_most_one}
use Rattle.tap_log.proofs.MoreRecords.{filter_map-push, filter_map-same}
use Rattle.tap_history.specs.Moments.{acknowledged, acknowledged_by, acknowledged_by_all, awaiting, has_number, numbers_less}
use Rattle.tap_history.proofs.Less.{filter-twice, less_by-more, not_or}

-- no packet arrives
pub awaiting-push : (log : List Record) (item : Record) → arrived_number item ≡ None
    → awaiting (log ++ item ∷ [])
    ≡ numbers_less (awaiting log ++ numbers_less (at_most_one (sent_number item)) (acknowledged log))
    (at_most_one (acknowledged_by (filter_map arrived_number log) item))
awaiting-push log item none =
    let packets = filter_map arrived_number log in
    let all = log ++ item ∷ [] in
    ap (λ p. numbers_less (filter_map sent_number all) (acknowledged_by_all p all)) (filter_map-same arrived_number log item none)
    ∙ ap (λ sent. numbers_less sent (acknowledged_by_all packets all)) (filter_map-push sent_number log item)
    ∙ ap (numbers_less (filter_map sent_number log ++ at_most_one (sent_number item))) (filter_map-push (acknowledged_by packets) log item)
    ∙ less_by-more nat_eq (filter_map sent_number log) (at_most_one (sent_number item)) (acknowledged log)
    (at_most_one (acknowledged_by packets item))

-- a test of a list that begins with this element, if it is there
picked : Bool → Bool → Bool → Bool
picked there test others = if there then test || others else others

any-picked : (there : Bool) (frame number : ℕ) (others : List ℕ)
    → has_number (cons_option (if there then Some frame else None) others) number
    ≡ picked there (nat_eq frame number) (has_number others number)
unfolding picked
any-picked true frame number others = refl
any-picked false frame number others = refl

picked-or : (a b test x y : Bool) → picked (a || b) test (x || y) ≡ (picked a test x || picked b test y)
unfolding picked
picked-or true true true x y = refl
picked-or true true false x y = refl
picked-or true false true x y = refl
picked-or true false false x y = refl
picked-or false true true true y = refl
picked-or false true true false y = refl
picked-or false true false x y = refl
picked-or false false test x y = refl

and-or : (a x y : Bool) → (a && (x || y)) ≡ ((a && x) || (a && y))
and-or true x y = refl
and-or false x y = refl

-- a frame is acknowledged by the packets and more of them if it is by the first ones or by the others
acknowledged-or : (packets more : List ℕ) (number : ℕ) (log : List Record)
    → has_number (acknowledged_by_all (packets ++ more) log) number
    ≡ (has_number (acknowledged_by_all packets log) number || has_number (acknowledged_by_all more log) number)
unfolding acknowledged_by
acknowledged-or packets more number [] = refl
acknowledged-or packets more number (Packet made frame ack ∷ log) =
    let before = ack && has_number packets made in
    let now = ack && has_number more made in
    let test = nat_eq frame number in
    let both : (ack && has_number (packets ++ more) made) ≡ (before || now) =
    ap (λ b. ack && b) (list_any-append (λ other. nat_eq other made) packets more)
    ∙ and-or ack (has_number packets made) (has_number more made) in
    any-picked (ack && has_number (packets ++ more) made) frame number (acknowledged_by_all (packets ++ more) log)
    ∙ ap (λ b. picked b test (has_number (acknowledged_by_all (packets ++ more) log) number)) both
    ∙ ap (picked (before || now) test) (acknowledged-or packets more number log)
    ∙ picked-or before now test (has_number (acknowledged_by_all packets log) number) (has_number (acknowledged_by_all more log) number)
    ∙ ap (λ b. b || picked now test (has_number (acknowledged_by_all more log) number))
    (sym (any-picked before frame number (acknowledged_by_all packets log)))
    ∙ ap (λ b. has_number (acknowledged_by_all packets (Packet made frame ack ∷ log)) number || b)
    (sym (any-picked now frame number (acknowledged_by_all more log)))
acknowledged-or packets more number (item ∷ log) = acknowledged-or packets more number log

-- of the frames that aren't acknowledged by the first packets, those that aren't by the others
pub unacknowledged-twice : (packets more frames : List ℕ) (log : List Record)
    → numbers_less frames (acknowledged_by_all (packets ++ more) log)
    ≡ numbers_less (numbers_less frames (acknowledged_by_all packets log)) (acknowledged_by_all more log)
unacknowledged-twice packets more frames log =
    filter-twice (λ n. not (has_number (acknowledged_by_all packets log) n)) (λ n. not (has_number (acknowledged_by_all more log) n))
    (λ n. not (has_number (acknowledged_by_all (packets ++ more) log) n))
    (λ n. ap not (acknowledged-or packets more n log)
    ∙ not_or (has_number (acknowledged_by_all packets log) n) (has_number (acknowledged_by_all more log) n)) frames

sent-arrived : (packet : ℕ) → sent_number (Arrived packet) ≡ None
unfolding sent_number
sent-arrived packet = refl

acknowledged-arrived : (packets : List ℕ) (packet : ℕ) → acknowledged_by packets (Arrived packet) ≡ None
unfolding acknowledged_by
acknowledged-arrived packets packet = refl

arrived-arrived : (packet : ℕ) → arrived_number (Arrived packet) ≡ Some packet
unfolding arrived_number
arrived-arrived packet = refl

-- a packet arrives
pub awaiting-arrived : (log : List Record) (packet : ℕ)
    → awaiting (log ++ Arrived packet ∷ []) ≡ numbers_less (awaiting log) (acknowledged_by_all (packet ∷ []) log)
awaiting-arrived log packet =
    let item = Arrived packet in
    let packets = filter_map arrived_number log in
    let one = packet ∷ [] in
    let all = log ++ item ∷ [] in
    ap (λ p. numbers_less (filter_map sent_number all) (acknowledged_by_all p all))
    (filter_map-push arrived_number log item ∙ ap (λ o. packets ++ at_most_one o) (arrived-arrived packet))
    ∙ ap (λ sent. numbers_less sent (acknowledged_by_all (packets ++ one) all)) (filter_map-same sent_number log item (sent-arrived packet))
    ∙ ap (numbers_less (filter_map sent_number log)) (filter_map-same (acknowledged_by (packets ++ one)) log item
    (acknowledged-arrived (packets ++ one) packet))
    ∙ unacknowledged-twice packets one (filter_map sent_number log) log
