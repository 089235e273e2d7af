use Rattle.std.proofs.Common.{◌<◌, ◌+◌, ◌∙◌, ◌*◌, arith, ap, length-set, set, sym, take}
use Rattle.std.proofs.lemmas.List.Elements.{All-get_or}
use Rattle.tap_name.proofs.Halves.{joined-all, joined-more}
use Rattle.tap_name.proofs.name.put_joined.Goals as goal

pub pair_of-requires-clause-first : goal.pair_of-requires-clause-first
pair_of-requires-clause-first c =
    All-get_or (λ digit. digit < 16) c.args.digits.now (2 * c.loop-at.at) 0 (omega arith) c.requires.digits

pub pair_of-requires-clause-second : goal.pair_of-requires-clause-second
pair_of-requires-clause-second c =
    All-get_or (λ digit. digit < 16) c.args.digits.now (2 * c.loop-at.at + 1) 0 (omega arith) c.requires.digits

pub loop-at-preserved : goal.loop-at-preserved
loop-at-preserved c = record {
  room = c.loop-at.invariant.room ∙ ap (λ n. 2 * n) (sym (length-set c.loop-at.pairs _ _));
  written = ap (λ pair. take (c.loop-at.at + 1) (set c.loop-at.pairs c.loop-at.at pair)) c.pair_of.ensures
      ∙ joined-more c.loop-at.pairs c.args.digits.now c.loop-at.at (omega arith) c.loop-at.invariant.room c.loop-at.invariant.written;
}

pub returns : goal.returns
returns c =
    joined-all c.loop-at.pairs c.args.digits.now c.loop-at.at (omega arith) c.loop-at.invariant.room c.loop-at.invariant.written
