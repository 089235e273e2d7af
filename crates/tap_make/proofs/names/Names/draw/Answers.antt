use Rattle.std.proofs.Common.{◌+◌, arith, refl}
use Rattle.tap_make.proofs.Naming.{all_made, further_more}
use Rattle.tap_make.proofs.names.Names.draw.Goals as goal

pub returns-clause-names : goal.returns-clause-names
returns-clause-names c =
    all_made c.args.joins
    (record { members = c.in_ok-members.members; newcomers = c.in_ok-newcomers.newcomers; objects = c.in_ok-objects.objects })
    c.args.draws.now c.draw_names.new.draws c.draw_names-2.new.draws c.requires.first
    c.in_ok-members.ensures.draws c.in_ok-newcomers.ensures.draws
    c.in_ok-members.ensures.names c.in_ok-newcomers.ensures.names c.in_ok-objects.ensures.names

pub returns-clause-draws : goal.returns-clause-draws
returns-clause-draws c =
    further_more c.args.draws.now c.draw_names-2.new.draws c.draw_names-3.new.draws (28 + c.args.joins) 20 (48 + c.args.joins)
    (further_more c.args.draws.now c.draw_names.new.draws c.draw_names-2.new.draws 28 c.args.joins (28 + c.args.joins)
    c.in_ok-members.ensures.draws c.in_ok-newcomers.ensures.draws refl)
    c.in_ok-objects.ensures.draws (omega arith)
