-- What a ledger keeps beside its log, after one more record.
use Rattle.std.proofs.Common.{◌≡◌, ℕ, ◌+◌, ◌<◌, ◌≤◌, Bool, true, false, not, List, [], ◌∷◌, ◌++◌, length, nat_eq, AllPairs, Option, None, Some, refl, ap, sym, subst, ◌∙◌, arith, length-append}
use Rattle.std.specs.Prelude.{◌&&◌, ◌||◌, option_and_then}
use Rattle.std.specs.Cmp.Lexicographic.{pointwise}
use Rattle.std.proofs.lemmas.List.Elements.{All-head}
use Rattle.std.proofs.lemmas.List.Folds.{list_any-append}
use Rattle.tap_name.specs.Settings.{SettingsValue}
use Rattle.tap_outstanding.specs.Outstanding.{OutstandingValue}
use Rattle.tap_log.specs.declared.record.Pair.{Pair}
use Rattle.tap_log.specs.declared.record.Record.{Record}
use Rattle.tap_log.specs.declared.record.Record.TheVariants.{Begin, Carrier, Packet, Arrived, Ticked, Lost, RootsOf}
use Rattle.tap_log.specs.Kinds.{asked_ticket, begin_members, begins_group, begun_cast, packet_number, published_pair, withdrawn_pair}
use Rattle.tap_log.specs.MoreRecords.{at_most_one}
use Rattle.tap_log.specs.Log.{last_of}
use Rattle.tap_log.specs.Reduced.{is_added, reduced}
use Rattle.tap_log.proofs.MoreRecords.{filter_map-push, last_of-push, one_more_record_holds}
use Rattle.tap_history.specs.Departing.{departing_of}
use Rattle.tap_history.specs.Published.{has_pair, published_of}
use Rattle.tap_history.specs.Refusals.{begin_settings}
use Rattle.tap_history.specs.StepAsks.{depart_name}
use Rattle.tap_history.proofs.Numbering.{numbered-group}
use Rattle.tap_ledger.specs.Added.{CanAdd, is_plain}
use Rattle.tap_ledger.specs.Flights.{followed}
use Rattle.tap_ledger.specs.KeptLedger.{AreFlights, IsKeepable, IsLast, Kept, Leaves, leaver_next}
use Rattle.tap_ledger.specs.NameLists.{NameLists, accepted_after, lists_after}
use Rattle.tap_name.specs.Names.{has_name}
use Rattle.tap_ledger.specs.Pairs.{has_after, has_key, is_name, is_this_pair, key_after, stays_published}
use Rattle.tap_ledger.specs.Woven.{remark_after, remarks_of}
use Rattle.tap_ledger.proofs.Accepted.{lists_push}
use Rattle.tap_ledger.proofs.Conditions.{stays_or_comes}
use Rattle.tap_ledger.proofs.Departing.{leaves_push}
use Rattle.tap_ledger.proofs.Frames.{flights_push, flights_remark, get_last, get_more}
use Rattle.tap_ledger.proofs.Published.{has_one_name, published_after}
use Rattle.tap_ledger.proofs.Woven.{reduced_plain, reduced_remark, remarks_more, remarks_plain}

-- ---- plain records

-- a plain record is no beginning
plain_members : (item : Record) → is_plain item ≡ true → begin_members item ≡ []
unfolding is_plain begin_members
plain_members (Begin settings frames members) plain = absurd (cc)
plain_members item plain = refl

-- nor does it make the log a carried one
plain_carrier : is_plain Carrier ≡ true → ⊥
unfolding is_plain
plain_carrier plain = cc

-- nor is it of a packet
plain_packet : (item : Record) → is_plain item ≡ true → packet_number item ≡ None
unfolding is_plain packet_number
plain_packet (Packet number frame ack) plain = absurd (cc)
plain_packet item plain = refl

-- nor does a carrier tell it alone
plain_told : (item : Record) → is_plain item ≡ true → is_added item ≡ false
unfolding is_plain is_added
plain_told Carrier plain = absurd (cc)
plain_told (Packet number frame ack) plain = absurd (cc)
plain_told (Arrived packet) plain = absurd (cc)
plain_told Ticked plain = absurd (cc)
plain_told (Lost packet) plain = absurd (cc)
plain_told (RootsOf object asker roots) plain = absurd (cc)
plain_told item plain = refl

-- the settings stay those of the beginning
settings_stay : (log : List Record) (item : Record) → 1 ≤ length log → begin_settings (log ++ item ∷ []) ≡ begin_settings log
unfolding begin_settings
settings_stay [] item begun = absurd (omega arith)
settings_stay (Begin settings frames members ∷ items) item begun = refl
settings_stay (first ∷ items) item begun = refl

-- one record that may be added is plain
plain_item : (log : List Record) (item : Record) → CanAdd log (item ∷ []) → is_plain item ≡ true
plain_item log item can = All-head (λ other. is_plain other ≡ true) item [] can.plain

-- and no remark
no_remark : (log : List Record) (item : Record) → CanAdd log (item ∷ []) → is_added item ≡ false
no_remark log item can = plain_told item (plain_item log item can)

-- a log that can be kept can be kept with one more record
keepable_push : (settings : SettingsValue) (log : List Record) (item : Record) → CanAdd log (item ∷ []) → IsKeepable settings log
    → IsKeepable settings (log ++ item ∷ [])
keepable_push settings log item can is =
    let plain = plain_item log item can in
    let Plain : Record → Type 0 = λ other. is_plain other ≡ true in
    let size = length-append log (item ∷ []) in
    let begun = is.begun in
    record {
      begun = omega (arith, size, begun);
      begins = settings_stay log item is.begun ∙ is.begins;
      uncarried = one_more_record_holds.carried log item (λ same. plain_carrier (subst Plain same plain)) ∙ is.uncarried;
      numbered = numbered-group log (item ∷ []) is.numbered can.numbers;
      no_packets = filter_map-push packet_number log item
          ∙ ap (λ l. l ++ at_most_one (packet_number item)) is.no_packets ∙ ap at_most_one (plain_packet item plain);
    }

-- which pairs are there afterwards depends on which were there
has_after-same : (has other : Pair → Bool) (withdrawn published : Option Pair) (departed : List (List ℕ))
    (departs : Option (List ℕ)) (q : Pair)
    → has q ≡ other q → has_after has withdrawn published departed departs q ≡ has_after other withdrawn published departed departs q
has_after-same has other withdrawn published departed departs q same =
    ap (λ b. not (is_name departs q.server)
    && ((not (is_this_pair withdrawn q) && b) || (not (has_name departed q.server) && is_this_pair published q))) same

-- A pair stays published if it was and isn't withdrawn, or is published now, and its server neither departed nor departs.
stays_after : (has : Pair → Bool) (withdrawn published : Option Pair) (departed : List (List ℕ)) (departs : Option (List ℕ)) (q : Pair)
    → (key_after has withdrawn published q && not (has_name (departed ++ at_most_one departs) q.server))
    ≡ has_after (λ pair. has pair && not (has_name departed pair.server)) withdrawn published departed departs q
stays_after has withdrawn published departed departs q =
    ap (λ b. key_after has withdrawn published q && not b)
    (list_any-append (λ other. pointwise nat_eq other q.server) departed (at_most_one departs)
    ∙ ap (λ b. has_name departed q.server || b) (has_one_name departs q.server))
    ∙ stays_or_comes (is_this_pair published q) (is_this_pair withdrawn q) (has q) (has_name departed q.server) (is_name departs q.server)

-- ---- the last record

-- one more plain record is the last one
last_push : (log whole : List Record) (item : Record) → IsLast (log ++ item ∷ []) (whole ++ item ∷ []) (length whole)
last_push log whole item = record {
  within = let size = length-append whole (item ∷ []) in omega (arith, size);
  there = get_last whole item ∙ sym (last_of-push log item);
}

-- a log that has begun has a last record
has_last : (log : List Record) → 1 ≤ length log → last_of log ≡ None → ⊥
has_last [] begun none = absurd (omega (arith, begun))
has_last (item ∷ []) begun none = absurd (cc)
has_last (item ∷ next ∷ items) begun none = has_last (next ∷ items) (omega arith) none

-- the last plain record stays where it is when a remark comes
last_stays : (log whole : List Record) (item : Record) (place : ℕ) → 1 ≤ length log → IsLast log whole place
    → IsLast log (whole ++ item ∷ []) place
last_stays log whole item place begun is = by (last_of log) refl
  where
    by : (last : Option Record) → last_of log ≡ last → IsLast log (whole ++ item ∷ []) place
    by None none = absurd (has_last log begun none)
    by (Some last) some = record {
      within = let size = length-append whole (item ∷ []) in let within = is.within in omega (arith, size, within);
      there = get_more whole (item ∷ []) place last (is.there ∙ some) ∙ sym some;
    }

-- all that is kept, after one more record
pub kept_push : (log whole : List Record) (settings : SettingsValue) (frames : OutstandingValue) (lists : NameLists)
    (keys : List (List ℕ × List ℕ)) (tickets casts : ℕ) (leaver : Option (List ℕ)) (last : ℕ) (item : Record)
    (frames' : OutstandingValue) (lists' : NameLists) (keys' : List (List ℕ × List ℕ)) (tickets' casts' : ℕ) (leaver' : Option (List ℕ))
    → Kept log whole settings frames lists keys tickets casts leaver last
    → CanAdd log (item ∷ [])
    → AllPairs (λ a b. a.number < b.number) frames.frames
    → frames' ≡ followed frames (length whole) item
    → lists' ≡ lists_after lists (accepted_after (last_of log) item) item
    → ((q : Pair) → has_key keys' q ≡ key_after (has_key keys) (withdrawn_pair item) (published_pair item) q)
    → tickets' ≡ tickets + length (at_most_one (asked_ticket item))
    → casts' ≡ casts + length (at_most_one (begun_cast item))
    → leaver' ≡ leaver_next (begins_group false item) (departing_of log)
    (option_and_then depart_name (accepted_after (last_of log) item)) leaver
    → Kept (log ++ item ∷ []) (whole ++ item ∷ []) settings frames' lists' keys' tickets' casts' leaver' (length whole)
kept_push log whole settings frames lists keys tickets casts leaver last item frames' lists' keys' tickets' casts' leaver' kept can ascending
    frames_are lists_are has_is tickets_are casts_are leaver_is =
    let new = log ++ item ∷ [] in
    let is = kept.begins in
    let members = plain_members item (plain_item log item can) in
    let departs = option_and_then depart_name (accepted_after (last_of log) item) in
    record {
      begins = keepable_push settings log item can is;
      flights = subst (AreFlights new (whole ++ item ∷ [])) (sym frames_are) (flights_push log whole frames item is.numbered can.numbers ascending kept.flights);
      names = lists_are ∙ ap (λ l. lists_after l (accepted_after (last_of log) item) item) kept.names
          ∙ sym (lists_push log item members is.uncarried);
      pairs = λ q. ap (λ b. b && not (has_name lists'.departed q.server)) (has_is q)
          ∙ ap (λ l. key_after (has_key keys) (withdrawn_pair item) (published_pair item) q && not (has_name l.departed q.server)) lists_are
          ∙ stays_after (has_key keys) (withdrawn_pair item) (published_pair item) lists.departed departs q
          ∙ has_after-same (stays_published keys lists.departed) (has_pair (published_of log)) (withdrawn_pair item) (published_pair item)
          lists.departed departs q (kept.pairs q)
          ∙ ap (λ l. has_after (has_pair (published_of log)) (withdrawn_pair item) (published_pair item) l.departed departs q) kept.names
          ∙ sym (published_after log item is.uncarried q);
      asked = tickets_are ∙ ap (λ n. n + length (at_most_one (asked_ticket item))) kept.asked
          ∙ sym (one_more_record_holds.tickets log item);
      begun = casts_are ∙ ap (λ n. n + length (at_most_one (begun_cast item))) kept.begun ∙ sym (one_more_record_holds.casts log item);
      leaves = subst (Leaves new) (sym leaver_is) (leaves_push log leaver item is.begun is.uncarried kept.leaves);
      ends = last_push log whole item;
    }

-- and after a remark
pub kept_remark : (log whole : List Record) (settings : SettingsValue) (frames : OutstandingValue) (lists : NameLists)
    (keys : List (List ℕ × List ℕ)) (tickets casts : ℕ) (leaver : Option (List ℕ)) (last : ℕ) (item : Record)
    → Kept log whole settings frames lists keys tickets casts leaver last
    → Kept log (whole ++ item ∷ []) settings frames lists keys tickets casts leaver last
kept_remark log whole settings frames lists keys tickets casts leaver last item kept = record {
  begins = kept.begins;
  flights = flights_remark log whole frames item kept.flights;
  names = kept.names;
  pairs = kept.pairs;
  asked = kept.asked;
  begun = kept.begun;
  leaves = kept.leaves;
  ends = last_stays log whole item last kept.begins.begun kept.ends;
}

-- what is kept after one more plain record, in the words of the whole log alone
pub kept_whole : (Keeps : List Record → List Record → ℕ → Type 0) (whole new : List Record) (place : ℕ) (item : Record)
    → CanAdd (reduced whole) (item ∷ []) → new ≡ whole ++ item ∷ [] → place ≡ length whole
    → Keeps (reduced whole ++ item ∷ []) (whole ++ item ∷ []) (length whole) → Keeps (reduced new) new place
kept_whole Keeps whole new place item can is at keeps =
    subst (λ w. Keeps (reduced w) w place) (sym is)
    (subst (λ l. Keeps l (whole ++ item ∷ []) place) (sym (reduced_plain whole item (no_remark (reduced whole) item can)))
    (subst (Keeps (reduced whole ++ item ∷ []) (whole ++ item ∷ [])) (sym at) keeps))

-- the plain records are then one more
pub records_more : (whole new : List Record) (item : Record) → CanAdd (reduced whole) (item ∷ []) → new ≡ whole ++ item ∷ []
    → reduced new ≡ reduced whole ++ item ∷ []
records_more whole new item can is = ap reduced is ∙ reduced_plain whole item (no_remark (reduced whole) item can)

-- and the remarks are as before
pub added_stay : (whole new : List Record) (item : Record) → CanAdd (reduced whole) (item ∷ []) → new ≡ whole ++ item ∷ []
    → remarks_of new ≡ remarks_of whole
added_stay whole new item can is = ap remarks_of is ∙ remarks_plain whole item (no_remark (reduced whole) item can)

-- after a remark it is what it was
pub kept_told : (whole new : List Record) (settings : SettingsValue) (frames : OutstandingValue) (lists : NameLists)
    (keys : List (List ℕ × List ℕ)) (tickets casts : ℕ) (leaver : Option (List ℕ)) (last : ℕ) (item : Record)
    → is_added item ≡ true → new ≡ whole ++ item ∷ []
    → Kept (reduced whole) whole settings frames lists keys tickets casts leaver last
    → Kept (reduced new) new settings frames lists keys tickets casts leaver last
kept_told whole new settings frames lists keys tickets casts leaver last item added is kept =
    let Keeps : List Record → List Record → Type 0 = λ l w. Kept l w settings frames lists keys tickets casts leaver last in
    subst (λ w. Keeps (reduced w) w) (sym is)
    (subst (λ l. Keeps l (whole ++ item ∷ [])) (sym (reduced_remark whole item added))
    (kept_remark (reduced whole) whole settings frames lists keys tickets casts leaver last item kept))

-- and so are the plain records
pub records_stay : (whole new : List Record) (item : Record) → is_added item ≡ true → new ≡ whole ++ item ∷ [] → reduced new ≡ reduced whole
records_stay whole new item added is = ap reduced is ∙ reduced_remark whole item added

-- the remarks are one more
pub added_more : (whole new : List Record) (item : Record) → is_added item ≡ true → new ≡ whole ++ item ∷ []
    → remarks_of new ≡ remarks_of whole ++ remark_after (reduced whole) item ∷ []
added_more whole new item added is = ap remarks_of is ∙ remarks_more whole item added
