-- A step that keeps the links to joiners, and in the slot of each core link a link to a core node, keeps what follows from them.
use Rattle.std.proofs.Common.{◌≡◌, inl, inr, ℕ, ◌+◌, ◌<◌, List, [], ◌⊎◌, arith, ap}
use Rattle.std.specs.Option.{unwrap_or}
use Rattle.tap_name.specs.Prefix.{lcp}
use Rattle.tap_name.proofs.Prefixes.{lcp-least, lcp-triangle}
use Rattle.tap_link.specs.declared.kind.Kind.{Kind}
use Rattle.tap_safety.specs.System.{System, HasLink, HelloNames, IsCoreNode, IsJoiner}
use Rattle.tap_safety.specs.Regions.{Has, IsGiven}
use Rattle.tap_safety.specs.Parts.{HasNear}
use Rattle.tap_safety.proofs.KeptParts.{Keeps, StaysJoiner}

-- y has a core node: z, or one of its slot
pub record HasInSlot (s : System) (y z : List ℕ) : Type 0 where
  pub to : List ℕ
  pub core : IsCoreNode s to
  pub has : Has s y to
  pub same : (to ≡ z) ⊎ (lcp y z < lcp z to)

-- who is in the slot of one that is nearer to e than y is, is nearer to e than y is
pub nearer : (y z e to : List ℕ) → lcp y e < lcp e z → (to ≡ z) ⊎ (lcp y z < lcp z to) → lcp y e < lcp e to
nearer y z e to near (inl is) = rw is near
nearer y z e to near (inr within) =
    let sides = lcp-triangle y e z in
    let shared = sides.below near in
    let reach = lcp-least e z to (lcp y e + 1) (omega arith) (omega arith) in
    omega arith

module _ (s s' : System) (cores : (y : List ℕ) → IsCoreNode s y → IsCoreNode s' y)
    (joined : (y b : List ℕ) (kind : Kind) → IsJoiner s b → HasLink s y b kind → HasLink s' y b kind)
    (slots : (y z : List ℕ) → IsCoreNode s z → Has s y z → HasInSlot s' y z)
    (heard : (v b z : List ℕ) → HelloNames s v b z
    → HelloNames s' v b z ⊎ ((IsJoiner s z → Has s' b z) × (IsCoreNode s z → HasInSlot s' b z)))
    (surrogate : (b : List ℕ) → StaysJoiner s s' b → s'.surrogate b ≡ s.surrogate b) where
  given_by : (b e z : List ℕ) → lcp b e < lcp e z → HasInSlot s' b z → IsGiven s' b e
  given_by b e z near slot = record {
    by = slot.to;
    core = slot.core;
    near = nearer b z e slot.to near slot.same;
    knows = record { known = inl slot.has };
  }

  given_kept : (b e : List ℕ) → IsGiven s b e → IsGiven s' b e
  given_kept b e given =
      elim given.knows.known [
        | inl has ↦ given_by b e given.by given.near (slots b given.by given.core has)
        | inr by ↦
            elim (heard by.0 b given.by by.1) [
              | inl still ↦ record {
                by = given.by;
                core = cores given.by given.core;
                near = given.near;
                knows = record { known = inr (by.0, still) };
              }
              | inr taken ↦ given_by b e given.by given.near (taken.1 given.core)
            ]
      ]

  filled_kept : (x e : List ℕ) → HasNear s x e → HasNear s' x e
  filled_kept x e near =
      let has : Has s x near.to = record { kind = near.kind; link = near.link } in
      let slot = slots x near.to near.core has in
      let one = near.near in
      record { to = slot.to; core = slot.core; near = nearer x near.to e slot.to one slot.same; kind = slot.has.kind; link = slot.has.link }

  pub keeps_near : Keeps s s'
  keeps_near = record {
    cores = cores;
    pins = λ y b joiner kept pin. joined y b _ joiner.was pin;
    has = λ y b joiner other has. record { kind = has.kind; link = joined y b has.kind joiner.was has.link };
    given = λ b e joiner given. given_kept b e given;
    filled = λ y e core other near. filled_kept y e near;
    prefix = λ b joiner. ap (λ surrogate. lcp (unwrap_or surrogate []) b) (surrogate b joiner);
    named = λ v b y joiner other is.
        elim (heard v b y is) [ inl still ↦ inr still | inr taken ↦ inl (taken.0 other.was) ];
  }
