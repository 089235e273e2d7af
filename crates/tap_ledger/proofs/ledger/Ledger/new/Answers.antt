use Rattle.std.proofs.Common.{◌≡◌, ◌∙◌, [], ◌∷◌, ◌++◌, List, None, ap, sym, subst, arith}
use Rattle.tap_log.specs.declared.record.Record.{Record}
use Rattle.tap_log.specs.declared.record.Record.TheVariants.{Begin}
use Rattle.tap_log.specs.Log.{LogValue}
use Rattle.tap_log.specs.Reduced.{reduced}
use Rattle.tap_ledger.specs.KeptLedger.{Kept}
use Rattle.tap_ledger.specs.Ledger.{LedgerValue}
use Rattle.tap_ledger.specs.Woven.{remarks_of}
use Rattle.tap_ledger.specs.NameLists.{RollValue, lists_of_members}
use Rattle.tap_ledger.proofs.LedgerBegun.{begin_plain, begin_view, kept_begin}
use Rattle.tap_ledger.proofs.Woven.{reduced_plain}
use Rattle.tap_ledger.proofs.ledger.Ledger.new.Goals as goal

pub invariant_of-result : goal.invariant_of-result
invariant_of-result c =
    let settings = c.args.settings.now in
    let frames = c.args.frames in
    let members = c.args.members.now in
    let roll = c.in_ok-roll.roll in
    let pairs = c.new-2.result in
    let copied : c.from_vec.result ≡ members = c.from_vec.ensures ∙ c.in_ok-from_slice.ensures.items ∙ c.as_slice-2.ensures in
    let log : c.push.new.self.records ≡ Begin settings frames members ∷ [] = c.in_ok-push.ensures.ok
    ∙ ap (λ (l : LogValue). l.records ++ Begin settings frames c.from_vec.result ∷ []) c.new-log.ensures
    ∙ ap (λ m. Begin settings frames m ∷ []) copied in
    let lists : roll.lists ≡ lists_of_members members = ap (λ (r : RollValue). r.lists) c.in_ok-roll.ensures
    ∙ ap lists_of_members c.as_slice.ensures in
    let Keeps : List Record → List Record → Type 0 = λ l w. Kept l w settings c.new.result roll.lists pairs.keys 0 0 None 0 in
    let first = Begin settings frames members in
    record {
      kept = subst (λ w. Keeps (reduced w) w) (sym log) (subst (λ l. Keeps l (first ∷ [])) (sym (reduced_plain [] first (begin_plain settings frames members)))
          (kept_begin settings frames members c.new.result roll.lists pairs.keys c.new.ensures lists c.new-2.ensures.none));
      within = omega arith;
      most = omega arith;
      room = record { in_log = omega arith; in_frames = omega arith; in_roll = omega arith; in_pairs = omega arith };
    }

pub returns : goal.returns
returns c =
    let settings = c.args.settings.now in
    let frames = c.args.frames in
    let members = c.args.members.now in
    let copied : c.from_vec.result ≡ members = c.from_vec.ensures ∙ c.in_ok-from_slice.ensures.items ∙ c.as_slice-2.ensures in
    let log : c.push.new.self.records ≡ Begin settings frames members ∷ [] = c.in_ok-push.ensures.ok
    ∙ ap (λ (l : LogValue). l.records ++ Begin settings frames c.from_vec.result ∷ []) c.new-log.ensures
    ∙ ap (λ m. Begin settings frames m ∷ []) copied in
    let View : List Record → LedgerValue = λ l. record { records = reduced l; added = remarks_of l; spare = 0 } in
    ap View log ∙ begin_view settings frames members
