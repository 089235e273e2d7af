-- A link as contracts see it.
use Rattle.tap_link.specs.declared.kind.Kind.{Kind}
use Rattle.tap_link.specs.declared.kind.Kind.TheVariants.{Settled, Leaving}

-- whom a link names, and what it is
pub record LinkEntry (K : Type 0) : Type 0 where
  pub target : K
  pub kind : Kind

-- the link to the same target, settled
abbrev pub settled : {K : Type 0} → LinkEntry K → LinkEntry K
settled e = record e { kind = Settled }

-- the link to the same target, marked as leaving
abbrev pub leaving : {K : Type 0} → LinkEntry K → LinkEntry K
leaving e = record e { kind = Leaving }
