-- A carried run makes few packets, however it ends.
use Rattle.std.proofs.Common.{◌≡◌, inl, inr, ℕ, ◌≤◌, List, [], ◌∷◌, ◌++◌, drop, take, refl, ap, sym, subst, ◌∙◌, arith}
use Rattle.std.proofs.lemmas.Bool.{cases_lt}
use Rattle.std.proofs.lemmas.List.{take-append-drop}
use Rattle.tap_scenario.specs.Scenario.{ScenarioValue}
use Rattle.tap_log.specs.declared.record.Record.{Record}
use Rattle.tap_log.specs.declared.record.Record.TheVariants.{Finished, Spent}
use Rattle.tap_log.specs.Counts.{packet_count, sent_count}
use Rattle.tap_log.specs.Kinds.{packet_number}
use Rattle.tap_log.proofs.MoreRecords.{packet_count-append}
use Rattle.tap_lawful.specs.CarriedRuns.{IsCarriedCut, IsCarriedLogOf, IsCarriedPlayed, IsCarriedScript, IsCarriedSpent}
use Rattle.tap_lawful.proofs.CarriedGrowth.{carried_more}
use Rattle.tap_lawful.proofs.CarriedRunMoves.{carried_groups_move}
use Rattle.tap_headline.specs.Carried.{MakesFewPackets}
use Rattle.tap_headline.proofs.Openings.{opening_makes, opening_of}

-- ---- records that make none

finished_makes : (steps : ℕ) → packet_count (Finished steps ∷ []) ≡ 0
unfolding packet_number
finished_makes steps = refl

spent_makes : (frames : ℕ) → packet_count (Spent frames ∷ []) ≡ 0
unfolding packet_number
spent_makes frames = refl

-- some first records make no more packets than all
front_makes : (n : ℕ) (items : List Record) → packet_count (take n items) ≤ packet_count items
front_makes n items =
    let parts = packet_count-append (take n items) (drop n items) in
    let whole = ap packet_count (take-append-drop n items) in
    omega (arith, parts, whole)

-- ---- however it has ended

module _ (s : ScenarioValue) (script : IsCarriedScript s) (played : List Record) (is_played : IsCarriedPlayed s played) where
  played_few : MakesFewPackets s played
  played_few = carried_groups_move.packets s played script is_played

  followed_few : (more : List Record) → packet_count more ≡ 0 → MakesFewPackets s (played ++ more)
  followed_few more none =
      let parts = packet_count-append played more in
      let few = played_few in
      omega (arith, parts, none, few)

  spent_few : (log : List Record) → IsCarriedSpent s played log → MakesFewPackets s log
  spent_few log spent =
      let opening = opening_of s played spent.group spent.next in
      let end = Spent s.frames ∷ [] in
      let one : take 1 spent.group ≡ opening.first ∷ [] = ap (take 1) (sym opening.is) in
      let none : packet_count (take 1 spent.group ++ end) ≡ 0 =
      ap (λ l. packet_count (l ++ end)) one ∙ opening_makes opening.first end opening.opens ∙ spent_makes s.frames in
      subst (MakesFewPackets s) (sym spent.log_is) (followed_few (take 1 spent.group ++ end) none)

  cut_few : (log : List Record) → IsCarriedCut s played log → MakesFewPackets s log
  cut_few log cut =
      let group = cut.group in
      subst (MakesFewPackets s) (sym cut.log_is) (
      elim (cases_lt s.frames (sent_count (played ++ group))) [
        | inl over ↦
            let opening = opening_of s played group cut.next in
            let front : take cut.kept group ≡ opening.first ∷ [] = ap (λ k. take k group) (cut.first over) ∙ ap (take 1) (sym opening.is) in
            followed_few (take cut.kept group) (ap packet_count front ∙ opening_makes opening.first [] opening.opens)
        | inr within ↦
            let longer = carried_more s played group script is_played cut.next within in
            let all = carried_groups_move.packets s (played ++ group) script longer in
            let parts = packet_count-append played group in
            let some = packet_count-append played (take cut.kept group) in
            let fewer = front_makes cut.kept group in
            omega (arith, all, parts, some, fewer)
      ]
      )

pub few_made : (s : ScenarioValue) (log : List Record) → IsCarriedScript s → IsCarriedLogOf s log → MakesFewPackets s log
few_made s log script of =
    elim of.ending [
      | inl same ↦ subst (MakesFewPackets s) (sym same) (played_few s script of.played of.is_played)
      | inr (inl (inl finished)) ↦
          subst (MakesFewPackets s) (sym finished.log_is) (followed_few s script of.played of.is_played _ (finished_makes _))
      | inr (inl (inr spent)) ↦ spent_few s script of.played of.is_played log spent
      | inr (inr cut) ↦ cut_few s script of.played of.is_played log cut
    ]
