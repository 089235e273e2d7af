-- A new carrier keeps what the beginning of a carried log says.
use Rattle.std.proofs.Common.{◌≡◌, ℕ, false, List, [], ◌∷◌, ◌++◌, length, refl, ap, sym, subst, ◌∙◌}
use Rattle.tap_name.specs.Settings.{SettingsValue}
use Rattle.tap_log.specs.declared.record.Record.TheVariants.{Carrier}
use Rattle.tap_log.specs.Counts.{resends_after, resent_count}
use Rattle.tap_log.specs.Kinds.{packet_number, sent_number}
use Rattle.tap_log.specs.MoreRecords.{is_resending}
use Rattle.tap_history.specs.Moments.{awaiting}
use Rattle.tap_ledger.specs.Woven.{woven}
use Rattle.tap_ledger.proofs.Woven.{woven_nothing}
use Rattle.tap_engine.specs.World.{HasBegun, WorldValue, whole_log}
use Rattle.tap_packets.specs.PacketLaws.{carried_beginning}
use Rattle.tap_packets.proofs.BoxesBegin.{inboxes-begin, net-begins, outboxes-begin}
use Rattle.tap_boxes.specs.Boxes.{empty_boxes, inbox_of, outbox_of}
use Rattle.tap_runs.specs.Beginning.{Beginning, begin_record}
use Rattle.tap_carrier.specs.Carrier.{CarrierValue}
use Rattle.tap_carrier.specs.Kept.{KeepsLog}
use Rattle.tap_carrier.specs.Sending.{HasRemarked}

-- nothing is made yet
abbrev pub new_carrier : CarrierValue
new_carrier = record { boxes = empty_boxes; resending = false; resent = 0 }

none_await : (settings : SettingsValue) (frames : ℕ) (members : List (List ℕ)) → length (awaiting (carried_beginning settings frames members)) ≡ 0
unfolding sent_number
none_await settings frames members = refl

not_resending : (settings : SettingsValue) (frames : ℕ) (members : List (List ℕ))
    → is_resending (carried_beginning settings frames members) ≡ false
unfolding resends_after
not_resending settings frames members = refl

none_resent : (settings : SettingsValue) (frames : ℕ) (members : List (List ℕ)) → resent_count (carried_beginning settings frames members) ≡ 0
unfolding resends_after packet_number
none_resent settings frames members = refl

keeps_beginning : (settings : SettingsValue) (frames : ℕ) (members : List (List ℕ))
    → KeepsLog settings (carried_beginning settings frames members) new_carrier
keeps_beginning settings frames members = record {
  boxes = record {
    outboxes = outboxes-begin settings frames members (outbox_of empty_boxes.outboxes) (λ name. refl);
    awaiting = sym (none_await settings frames members);
    inboxes = inboxes-begin settings frames members (inbox_of empty_boxes.inboxes) (λ name. refl);
    net = net-begins settings frames members;
  };
  resending = sym (not_resending settings frames members);
  resent = sym (none_resent settings frames members);
}

whole_begun : (b : Beginning) (first : WorldValue) → HasBegun b first → whole_log first ≡ begin_record b ∷ []
whole_begun b first begun = ap (woven first.log) begun.added ∙ woven_nothing first.log ∙ begun.log

-- after the world has begun, and the log says that it is carried
pub keeps_new : (b : Beginning) (first w : WorldValue) → HasBegun b first → HasRemarked (Carrier ∷ []) first w
    → KeepsLog b.settings (whole_log w) new_carrier
keeps_new b first w begun remarked =
    subst (λ l. KeepsLog b.settings l new_carrier) (sym (remarked.log ∙ ap (λ l. l ++ Carrier ∷ []) (whole_begun b first begun)))
    (keeps_beginning b.settings b.frames b.members)
