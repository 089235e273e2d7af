use Rattle.std.proofs.Common.{◌∙◌, [], ◌∷◌, ◌++◌, ap, arith}
use Rattle.tap_ledger.specs.Ledger.{LedgerValue}
use Rattle.tap_ledger.specs.Woven.{remark_after}
use Rattle.tap_ledger.proofs.Keeping.{added_more, kept_told, records_stay}
use Rattle.tap_ledger.proofs.ledger.Ledger.remark.Goals as goal

pub invariant_of-self : goal.invariant_of-self
invariant_of-self c =
    let l = c.self.inside in
    let item = c.args.item in
    let room = c.self.invariant.room in
    let most = c.self.invariant.most in
    record {
      kept = kept_told l.log.records c.push_reserved.new.self.records l.settings l.frames l.roll.lists l.pairs.keys l.tickets l.casts
          l.leaver l.last item c.requires c.push_reserved.ensures.records c.self.invariant.kept;
      within = omega arith;
      most = omega (arith, most);
      room = record {
        in_log = let was = room.in_log in omega (arith, was, c.push_reserved.ensures.spare);
        in_frames = let was = room.in_frames in omega (arith, was);
        in_roll = let was = room.in_roll in omega (arith, was);
        in_pairs = let was = room.in_pairs in omega (arith, was);
      };
    }

pub returns-clause-records : goal.returns-clause-records
returns-clause-records c =
    records_stay c.self.inside.log.records c.push_reserved.new.self.records c.args.item c.requires c.push_reserved.ensures.records
    ∙ ap (λ (l : LedgerValue). l.records) c.self.view_is

pub returns-clause-ok : goal.returns-clause-ok
returns-clause-ok c =
    let item = c.args.item in
    added_more c.self.inside.log.records c.push_reserved.new.self.records item c.requires c.push_reserved.ensures.records
    ∙ ap (λ (l : LedgerValue). l.added ++ remark_after l.records item ∷ []) c.self.view_is
