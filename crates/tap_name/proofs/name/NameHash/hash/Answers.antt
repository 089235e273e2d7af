use Rattle.std.proofs.Common.{List, ℕ, ap, ◌∙◌}
use Rattle.tap_name.proofs.Packed.{is_packed}
use Rattle.tap_name.proofs.name.NameHash.hash.Goals as goal

pub returns : goal.returns
returns g c =
    c.write.ensures
    ∙ ap (λ (bytes : List ℕ). g.H.Hasher.write c.args.state.now bytes)
    (is_packed c.self.inside.pairs c.self.inside.len c.args.self.now c.self.invariant c.self.view_is)
