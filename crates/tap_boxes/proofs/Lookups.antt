-- What is found of each name after the box of one name changes.
use Rattle.std.proofs.Common.{◌≡◌, ℕ, List, Option, Some, unwrap_or, ap, sym, ◌∙◌, cond, subst, inl, inr}
use Rattle.std.specs.Map.{lookup}
use Rattle.std.proofs.lemmas.Bool.{cases_Bool}
use Rattle.tap_carry.specs.Arrivals.{no_arrivals}
use Rattle.tap_carry.specs.Inbox.{ArrivesIn, InboxValue}
use Rattle.tap_carry.specs.Names.{is_name}
use Rattle.tap_carry.specs.Outbox.{OutboxValue, SendsTo, acked_by}
use Rattle.tap_packets.specs.Matching.{ArrivesAt, IsAckedAt, OtherBoxesStay, SendsFrom, no_frames}
use Rattle.tap_packets.proofs.SameWays.{name_is, name_itself}
use Rattle.tap_boxes.specs.Boxes.{InboxesValue, inbox_of, outbox_in}

-- the box of a name, or the empty one if it has none
abbrev pub box_at : {V : Type 0} → V → List (List ℕ × V) → List ℕ → V
box_at empty boxes name = unwrap_or (lookup (is_name name) boxes) empty

-- this is the box of the name now, and other names have theirs
abbrev pub IsUpdated : {V : Type 0} → List (List ℕ × V) → List (List ℕ × V) → List ℕ → V → Type 0
IsUpdated before after name box =
    (other : List ℕ) → lookup (is_name other) after ≡ cond (is_name name other) (Some box) (lookup (is_name other) before)

pub box-found : {V : Type 0} (empty : V) (boxes : List (List ℕ × V)) (name : List ℕ) (o : Option V) → lookup (is_name name) boxes ≡ o
    → box_at empty boxes name ≡ unwrap_or o empty
box-found empty boxes name o is = ap (λ found. unwrap_or found empty) is

box-here : {V : Type 0} (empty : V) (before after : List (List ℕ × V)) (name : List ℕ) (box : V) → IsUpdated before after name box
    → box_at empty after name ≡ box
box-here empty before after name box updated =
    ap (λ found. unwrap_or found empty) (updated name)
    ∙ ap (λ b. unwrap_or (cond b (Some box) (lookup (is_name name) before)) empty) (name_itself name)

boxes-stay : {V : Type 0} (empty : V) (before after : List (List ℕ × V)) (name : List ℕ) (box : V) → IsUpdated before after name box
    → OtherBoxesStay (box_at empty before) (box_at empty after) name
boxes-stay empty before after name box updated other = elim (cases_Bool (is_name name other)) [
  | inl same ↦ inl (sym (name_is name other same))
  | inr apart ↦
      inr (ap (λ found. unwrap_or found empty) (updated other)
      ∙ ap (λ b. unwrap_or (cond b (Some box) (lookup (is_name other) before)) empty) apart)
]

-- ---- outboxes

pub sends-in : (before after : List (List ℕ × OutboxValue)) (from to : List ℕ) (frame : ℕ) (box sent : OutboxValue)
    → outbox_in before from ≡ box → IsUpdated before after from sent → SendsTo box sent to frame
    → SendsFrom (outbox_in before) (outbox_in after) from to frame
sends-in before after from to frame box sent is updated sends = record {
  here = subst (λ b. SendsTo b (outbox_in after from) to frame) (sym is)
      (subst (λ a. SendsTo box a to frame) (sym (box-here no_frames before after from sent updated)) sends);
  others = boxes-stay no_frames before after from sent updated;
}

pub acked-in : (before after : List (List ℕ × OutboxValue)) (name from : List ℕ) (seq : ℕ) (box acked : OutboxValue)
    → outbox_in before name ≡ box → IsUpdated before after name acked → acked ≡ acked_by box from seq
    → IsAckedAt (outbox_in before) (outbox_in after) name from seq
acked-in before after name from seq box acked is updated acks = record {
  here = box-here no_frames before after name acked updated ∙ acks ∙ ap (λ b. acked_by b from seq) (sym is);
  others = boxes-stay no_frames before after name acked updated;
}

-- ---- inboxes

pub arrives-in : (before after : InboxesValue) (name from : List ℕ) (seq : ℕ) (box arrived : InboxValue)
    → inbox_of before name ≡ box → IsUpdated before after name arrived → ArrivesIn box arrived from seq
    → ArrivesAt (inbox_of before) (inbox_of after) name from seq
arrives-in before after name from seq box arrived is updated arrives = record {
  here = subst (λ b. ArrivesIn b (inbox_of after name) from seq) (sym is)
      (subst (λ a. ArrivesIn box a from seq) (sym (box-here no_arrivals before after name arrived updated)) arrives);
  others = boxes-stay no_arrivals before after name arrived updated;
}
