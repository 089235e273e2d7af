-- What a ledger keeps beside a log that has its beginning alone.
use Rattle.std.proofs.Common.{◌≡◌, ℕ, ◌<◌, false, not, List, [], ◌∷◌, None, inl, refl, ap, sym, subst, ◌∙◌, arith}
use Rattle.std.specs.Prelude.{◌&&◌}
use Rattle.std.specs.List.{filter_map}
use Rattle.std.proofs.lemmas.List.Elements.{All-cons}
use Rattle.tap_name.specs.Names.{has_name}
use Rattle.tap_name.specs.Settings.{SettingsValue}
use Rattle.tap_outstanding.specs.Outstanding.{OutstandingValue}
use Rattle.tap_log.specs.declared.record.Pair.{Pair}
use Rattle.tap_log.specs.declared.record.Record.TheVariants.{Begin}
use Rattle.tap_log.specs.Kinds.{abandoned_name, asked_ticket, begun_cast, gone_name, packet_number, sent_number, step_of, taken_number}
use Rattle.tap_log.specs.Reduced.{is_added, reduced}
use Rattle.tap_log.proofs.MoreRecords.{carried_alone}
use Rattle.tap_history.specs.Published.{has_pair}
use Rattle.tap_history.specs.Refusals.{begin_settings}
use Rattle.tap_history.specs.StepAsks.{depart_name}
use Rattle.tap_history.proofs.RecordChanges.{record_changes_hold}
use Rattle.tap_ledger.specs.KeptLedger.{AreFlights, IsFlight, IsKeepable, Kept}
use Rattle.tap_ledger.specs.Ledger.{LedgerValue}
use Rattle.tap_ledger.specs.NameLists.{NameLists, lists_of, lists_of_members}
use Rattle.tap_ledger.specs.Pairs.{has_key}
use Rattle.tap_ledger.specs.Woven.{remarks_of}
use Rattle.tap_ledger.proofs.Accepted.{make_lists}
use Rattle.tap_ledger.proofs.Departing.{All-none}

no_frames : OutstandingValue
no_frames = record { sent = 0; frames = []; room = 0 }

-- a beginning alone is a log that can be kept
keepable_begin : (p : SettingsValue) (limit : ℕ) (members : List (List ℕ)) → IsKeepable p (Begin p limit members ∷ [])
unfolding begin_settings sent_number taken_number asked_ticket packet_number
keepable_begin p limit members = record {
  begun = omega arith;
  begins = refl;
  uncarried = carried_alone (Begin p limit members);
  numbered = record {
    sent = refl;
    taken = All-none (λ number. number < 0);
    asked = refl;
  };
  no_packets = refl;
}

-- no frame is outstanding then
no_flights : (p : SettingsValue) (limit : ℕ) (members : List (List ℕ)) → AreFlights (Begin p limit members ∷ []) (Begin p limit members ∷ []) no_frames
unfolding no_frames sent_number taken_number
no_flights p limit members = record {
  sent = refl;
  numbers = refl;
  each = All-none (IsFlight (Begin p limit members ∷ []) (Begin p limit members ∷ []));
}

-- the members are core, present and all names that there are
lists_begin : (p : SettingsValue) (limit : ℕ) (members : List (List ℕ)) → lists_of (Begin p limit members ∷ []) ≡ lists_of_members members
unfolding make_lists gone_name abandoned_name
lists_begin p limit members =
    let new = record_changes_hold.begins p limit members in
    let log = Begin p limit members ∷ [] in
    let all = lists_of log in
    let is = lists_of_members members in
    ap (λ l. make_lists l all.present all.names all.gone all.abandoned all.departed) new.core
    ∙ ap (λ l. make_lists is.core l all.names all.gone all.abandoned all.departed) new.present
    ∙ ap (λ l. make_lists is.core is.present l all.gone all.abandoned all.departed) new.names
    ∙ ap (λ l. make_lists is.core is.present is.names all.gone all.abandoned (filter_map depart_name l)) new.accepted

-- all that is kept at the beginning
pub kept_begin : (p : SettingsValue) (limit : ℕ) (members : List (List ℕ)) (frames : OutstandingValue) (lists : NameLists)
    (keys : List (List ℕ × List ℕ)) → frames ≡ record { sent = 0; frames = []; room = 0 } → lists ≡ lists_of_members members
    → ((q : Pair) → has_key keys q ≡ false) → Kept (Begin p limit members ∷ []) (Begin p limit members ∷ []) p frames lists keys 0 0 None 0
unfolding no_frames asked_ticket begun_cast
kept_begin p limit members frames lists keys frames_are lists_are none =
    let log = Begin p limit members ∷ [] in
    let new = record_changes_hold.begins p limit members in
    record {
      begins = keepable_begin p limit members;
      flights = subst (AreFlights log log) (sym frames_are) (no_flights p limit members);
      names = lists_are ∙ sym (lists_begin p limit members);
      pairs = λ q. ap (λ b. b && not (has_name lists.departed q.server)) (none q) ∙ sym (ap (λ l. has_pair l q) new.published);
      asked = refl;
      begun = refl;
      leaves = inl (record {
        none = All-cons (λ item. step_of item ≡ None) (Begin p limit members) [] refl (All-none (λ item. step_of item ≡ None));
        nobody = refl;
      });
      ends = record { within = omega arith; there = refl };
    }

-- a beginning alone is plain
pub begin_plain : (p : SettingsValue) (limit : ℕ) (members : List (List ℕ)) → is_added (Begin p limit members) ≡ false
unfolding is_added
begin_plain p limit members = refl

-- nothing was remarked then
pub begin_view : (p : SettingsValue) (limit : ℕ) (members : List (List ℕ))
    → ◌≡◌ {A = LedgerValue} (record {
      records = reduced (Begin p limit members ∷ []);
      added = remarks_of (Begin p limit members ∷ []);
      spare = 0;
    }) (record { records = Begin p limit members ∷ []; added = []; spare = 0 })
unfolding is_added
begin_view p limit members = refl
