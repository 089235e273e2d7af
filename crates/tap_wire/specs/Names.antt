-- the two names of a frame, in place
use Rattle.std.specs.Prelude.{◌≡◌, ℕ, ◌+◌, List, take, drop, Result, Ok, Err}
use Rattle.tap_name.specs.Settings.{SettingsValue}
use Rattle.tap_name.specs.Name.{IsName}
use Rattle.tap_wire.specs.declared.fault.HeadFault.{HeadFault}
use Rattle.tap_wire.specs.declared.kind.Kind.{Kind}
use Rattle.tap_wire.specs.declared.opening.Opening.{Opening}
use Rattle.tap_wire.specs.Layout.{head_len}

-- the bytes of the sender, right after the head
abbrev pub sender_in : SettingsValue → List ℕ → List ℕ
sender_in p bytes = take p.digits (drop (head_len p) bytes)

-- the bytes of the receiver, right after the sender
abbrev pub receiver_in : SettingsValue → List ℕ → List ℕ
receiver_in p bytes = take p.digits (drop (head_len p + p.digits) bytes)

-- the kind and the two names in place
abbrev pub opened : SettingsValue → Kind → List ℕ → Opening
opened p kind bytes = record { kind = kind; sender = sender_in p bytes; receiver = receiver_in p bytes }

-- both names are names
pub record HeadHasNames (p : SettingsValue) (bytes : List ℕ) : Type 0 where
  pub sender : IsName p (sender_in p bytes)
  pub receiver : IsName p (receiver_in p bytes)

-- what was found of a head is what is read: the kind, with the two names in place, or the refusal
abbrev pub HeadGives : SettingsValue → List ℕ → Result Kind HeadFault → Result Opening HeadFault → Type 0
HeadGives p bytes (Ok kind) read = (read ≡ Ok (opened p kind bytes)) × HeadHasNames p bytes
HeadGives p bytes (Err fault) read = read ≡ Err fault
