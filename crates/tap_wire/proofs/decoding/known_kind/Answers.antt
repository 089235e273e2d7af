use Rattle.std.specs.Prelude.{IsTrue}
use Rattle.std.proofs.Common.{◌≡◌, ◌-◌, length, Option, Some, Ok, sym, subst, ◌∙◌}
use Rattle.tap_wire.specs.declared.kind.Kind.{Kind}
use Rattle.tap_wire.specs.Layout.{body_start, is_length}
use Rattle.tap_wire.specs.Names.{HeadHasNames, opened}
use Rattle.tap_wire.specs.Reading.{opening_of}
use Rattle.tap_wire.proofs.Frames.{frame_opened}
use Rattle.tap_wire.proofs.RightHeads.{head_known}
use Rattle.tap_wire.proofs.decoding.known_kind.Goals as goal

-- one option has one value
same_kind : (one other : Kind) → ◌≡◌ {A = Option Kind} (Some one) (Some other) → one ≡ other
same_kind one other e = cc

pub returns-clause-value : goal.returns-clause-value
returns-clause-value c =
    let p = c.args.settings.now in
    let bytes = c.args.bytes.now in
    let o = frame_opened p bytes c.requires in
    let known = head_known p bytes o.0 o.1 in
    let same : o.0.kind ≡ c.in-Some.kind = same_kind o.0.kind c.in-Some.kind (sym known.code ∙ sym c.of_code.ensures ∙ c.in-Some.is) in
    subst (λ kind. (opening_of p bytes ≡ Ok (opened p kind bytes)) × HeadHasNames p bytes) same known.gives

pub returns-clause-long : goal.returns-clause-long
returns-clause-long c =
    let p = c.args.settings.now in
    let bytes = c.args.bytes.now in
    let o = frame_opened p bytes c.requires in
    let known = head_known p bytes o.0 o.1 in
    let same : o.0.kind ≡ c.in-Some.kind = same_kind o.0.kind c.in-Some.kind (sym known.code ∙ sym c.of_code.ensures ∙ c.in-Some.is) in
    subst (λ kind. IsTrue (is_length p kind (length bytes - body_start p))) same known.long
