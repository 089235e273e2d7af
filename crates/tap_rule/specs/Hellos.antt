-- What a Hello says, and the Hellos that nodes send, in a session of their own.
--
-- Rule: docs/PROTOCOL.md, "Hello".
use Rattle.std.specs.Prelude.{ℕ, Bool, true, false, List, []}
use Rattle.tap_name.specs.declared.slot.Offered.{Offered}
use Rattle.tap_wire.specs.declared.frame.Body.{Body}
use Rattle.tap_wire.specs.declared.frame.Body.TheVariants.{Hello}

-- what a Hello says: the session, whether its sender is core, and the links that it offers
pub record HelloFields : Type 0 where
  pub session : ℕ
  pub is_core : Bool
  pub links : List Offered

-- a Hello that says this
abbrev pub hello_body : HelloFields → Body
hello_body fields = Hello fields.session fields.is_core fields.links

-- that of a joining node, which offers nothing
abbrev pub joining_hello : ℕ → Body
joining_hello session = hello_body (record { session = session; is_core = false; links = [] })

-- what a core node says, with the links that it offers, and its Hello
abbrev pub core_says : ℕ → List Offered → HelloFields
core_says session links = record { session = session; is_core = true; links = links }

abbrev pub core_hello : ℕ → List Offered → Body
core_hello session links = hello_body (core_says session links)
