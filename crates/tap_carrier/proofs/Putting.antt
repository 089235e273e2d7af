-- A carrier after a packet was put.
use Rattle.std.proofs.Common.{◌≡◌, ℕ, ◌+◌, Bool, true, false, ap, sym, subst, ◌∙◌, arith}
use Rattle.std.specs.Prelude.{if◌then◌else◌}
use Rattle.tap_carry.specs.declared.net.Packet.{Packet}
use Rattle.tap_boxes.specs.Boxes.{BoxesValue}
use Rattle.tap_boxes.specs.Changes.{with_packet}
use Rattle.tap_carrier.specs.Carrier.{CarrierValue}
use Rattle.tap_carrier.specs.Sending.{HasPut}

-- a carrier of these parts
abbrev pub carrier_of : BoxesValue → Bool → ℕ → CarrierValue
carrier_of boxes resending resent = record { boxes = boxes; resending = resending; resent = resent }

module _ (boxes after : BoxesValue) (resending : Bool) (resent : ℕ) (before new : CarrierValue) (packet : Packet)
    (was : carrier_of boxes resending resent ≡ before) (put : after ≡ with_packet boxes packet) where
  counts_if : (b : Bool) → resending ≡ b → new ≡ carrier_of after resending (resent + (if b then 1 else 0)) → HasPut packet before new
  counts_if b is now =
      subst (λ c. HasPut packet c new) was
      (now ∙ ap (λ x. carrier_of x resending (resent + (if b then 1 else 0))) put
      ∙ ap (λ x. carrier_of (with_packet boxes packet) resending (resent + (if x then 1 else 0))) (sym is))

  -- it counts if the last step sends packets once more
  pub put_counted : resending ≡ true → new ≡ carrier_of after resending (resent + 1) → HasPut packet before new
  put_counted is now = counts_if true is now

  -- and else it doesn't
  pub put_alone : resending ≡ false → new ≡ carrier_of after resending resent → HasPut packet before new
  put_alone is now =
      let none : resent ≡ resent + 0 = omega arith in counts_if false is (now ∙ ap (carrier_of after resending) none)
