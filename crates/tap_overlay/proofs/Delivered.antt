-- A frame that is delivered: what its receiver is, and what is told of it.
use Rattle.std.proofs.Common.{◌≡◌, ℕ, List, None, Some, Result, Ok, Err, refl, sym, subst}
use Rattle.std.specs.Prelude.{IsOk, IsOkAnd, IsSomeAnd}
use Rattle.std.proofs.lemmas.Slice.Eq.{bytes_eq-Decides}
use Rattle.tap_name.specs.Settings.{SettingsValue}
use Rattle.tap_wire.specs.declared.fault.WireFault.{WireFault}
use Rattle.tap_wire.specs.declared.frame.Frame.{Frame}
use Rattle.tap_wire.specs.Spelling.{IsFrame}
use Rattle.tap_rule.specs.Node.{name_of}
use Rattle.tap_node.specs.Node.{NodeValue, running}
use Rattle.tap_overlay.specs.Overlay.{HasNameAndSettings, HaveOwnNames, node_among}
use Rattle.tap_overlay.specs.Step.{MayDeliver, MayHeed}

-- the node that is found is the receiver
pub heeded : (frame : Frame) (nodes : List (List ℕ × NodeValue)) (node : NodeValue)
    → IsSomeAnd (node_among nodes frame.to) (MayHeed frame) → node_among nodes frame.to ≡ Some node → MayHeed frame node
heeded frame nodes node may found = subst (λ o. IsSomeAnd o (MayHeed frame)) found may

-- one is found
pub none_there : (frame : Frame) (nodes : List (List ℕ × NodeValue)) → IsSomeAnd (node_among nodes frame.to) (MayHeed frame)
    → node_among nodes frame.to ≡ None → ⊥
none_there frame nodes may none = subst (λ o. IsSomeAnd o (MayHeed frame)) none may

-- the receiver of a frame that may be delivered may take it
pub may_heed : (p : SettingsValue) (nodes : List (List ℕ × NodeValue)) (frame : Frame) → HaveOwnNames p nodes → IsFrame p frame
    → MayDeliver nodes frame → IsSomeAnd (node_among nodes frame.to) (MayHeed frame)
may_heed p nodes frame own is_frame may =
    let named : HasNameAndSettings p frame.to (running may.node) = own frame.to (running may.node) may.there in
    subst (λ o. IsSomeAnd o (MayHeed frame)) (sym may.there) (record {
      runs = refl;
      room = may.room;
      is_frame = subst (λ q. IsFrame q frame) (sym named.settings_are) is_frame;
      own = (bytes_eq-Decides frame.to (name_of may.node)).1 (sym named.name_is);
      fits = may.fits;
    })

-- what is told of each frame that is read, of a frame that was
pub of_read : (P : Frame → Type 0) (read : Result Frame WireFault) (frame : Frame) → IsOkAnd read P → read ≡ Ok frame → P frame
of_read P read frame all is = subst (λ r. IsOkAnd r P) is all

-- what each frame that is read keeps to is told of bytes that are a frame
pub is_read : (P : Frame → Type 0) (read : Result Frame WireFault) → IsOkAnd read P → IsOk read
is_read P (Ok frame) all = refl
is_read P (Err fault) all = absurd all
