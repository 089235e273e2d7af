-- A step that keeps core nodes, links, Hellos and surrogates keeps what follows from them.
use Rattle.std.proofs.Common.{◌≡◌, inl, inr, ℕ, List, [], ap}
use Rattle.std.specs.Option.{unwrap_or}
use Rattle.tap_name.specs.Prefix.{lcp}
use Rattle.tap_link.specs.declared.kind.Kind.{Kind}
use Rattle.tap_link.specs.declared.kind.Kind.TheVariants.{Pin}
use Rattle.tap_safety.specs.System.{System, HasLink, IsCoreNode, HelloNames}
use Rattle.tap_safety.specs.Regions.{Has, Knows}
use Rattle.tap_safety.specs.Parts.{HasNear}
use Rattle.tap_safety.proofs.KeptParts.{Keeps}

module _ (s s' : System) (cores : (y : List ℕ) → IsCoreNode s y → IsCoreNode s' y)
    (links : (y z : List ℕ) (kind : Kind) → HasLink s y z kind → HasLink s' y z kind)
    (named : (v b z : List ℕ) → HelloNames s v b z → HelloNames s' v b z)
    (surrogate : (b : List ℕ) → s'.surrogate b ≡ s.surrogate b) where
  has_kept : (y z : List ℕ) → Has s y z → Has s' y z
  has_kept y z has = record { kind = has.kind; link = links y z has.kind has.link }

  -- what a node knew it knows
  pub knows_kept : (b y : List ℕ) → Knows s b y → Knows s' b y
  knows_kept b y knows =
      record { known = elim knows.known [ inl has ↦ inl (has_kept b y has) | inr by ↦ inr (by.0, named by.0 b y by.1) ] }

  -- and a slot that was filled is filled
  pub near_kept : (x y : List ℕ) → HasNear s x y → HasNear s' x y
  near_kept x y near = record {
    to = near.to;
    core = cores near.to near.core;
    near = near.near;
    kind = near.kind;
    link = links x near.to near.kind near.link;
  }

  pub keeps_all : Keeps s s'
  keeps_all = record {
    cores = cores;
    pins = λ y b joiner kept pin. links y b Pin pin;
    has = λ y b joiner other has. has_kept y b has;
    given = λ b e joiner given.
        record { by = given.by; core = cores given.by given.core; near = given.near; knows = knows_kept b given.by given.knows };
    filled = λ y e core other near. near_kept y e near;
    prefix = λ b joiner. ap (λ surrogate. lcp (unwrap_or surrogate []) b) (surrogate b);
    named = λ v b y joiner other is. inr (named v b y is);
  }
