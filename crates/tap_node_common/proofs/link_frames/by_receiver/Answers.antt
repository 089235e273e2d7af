use Rattle.std.proofs.Common.{◌≡◌, length, arith, ap, rules, sym, ◌∙◌}
use Rattle.std.specs.Prelude.{vec_len}
use Rattle.tap_rule.specs.Sending.{by_receiver}
use Rattle.tap_node_common.proofs.ByReceiver.{one_by_receiver, sorted_by_closure}
use Rattle.tap_node_common.proofs.link_frames.by_receiver.Goals as goal
use Rattle.tap_node_common.proofs.link_frames.by_receiver.Goals.{then-len-gt1+in_ok-sort_by, else-len-gt1}

pub returns : goal.returns
returns c =
    elim c.if-len-gt1.branch [
      | then-len-gt1+in_ok-sort_by w ↦
          ap (λ words. words.items) w.words-is
          ∙ sorted_by_closure c.into_vec-words.result.items w.sort_by.new.self.items (w.in_ok-sort_by.ensures.sorted)
          w.in_ok-sort_by.ensures.stable (λ a r f' k. search rules)
          ∙ ap by_receiver c.into_vec-words.ensures
      | else-len-gt1 w ↦
          let len : vec_len c.into_vec-words.result ≡ length c.into_vec-words.result.items =
          omega (arith, c.into_vec-words.result.ok.0) in
          ap (λ words. words.items) w.words-is ∙ c.into_vec-words.ensures
          ∙ sym (one_by_receiver c.args.words (omega (arith, ap length c.into_vec-words.ensures)))
    ]
