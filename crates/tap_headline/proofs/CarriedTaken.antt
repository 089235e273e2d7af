-- In a carried run each frame is taken once at most, and exactly once at rest, also once how the run has ended stands after its log.
use Rattle.std.proofs.Common.{◌≡◌, inl, inr, ℕ, ◌<◌, ◌≤◌, true, not, nat_eq, List, [], ◌∷◌, ◌++◌, length, take, drop, filter, None, Some, refl, ap, sym, subst, ◌∙◌, arith, append_assoc}
use Rattle.std.specs.Prelude.{◌&&◌, ◌||◌}
use Rattle.std.specs.List.{cons_option, filter_map}
use Rattle.std.proofs.lemmas.Bool.{and_parts, cases_lt}
use Rattle.std.proofs.lemmas.List.{take-append-drop}
use Rattle.std.proofs.lemmas.List.Elements.{filter_map-append}
use Rattle.tap_scenario.specs.Scenario.{ScenarioValue}
use Rattle.tap_log.specs.declared.record.Record.{Record}
use Rattle.tap_log.specs.declared.record.Record.TheVariants.{Finished, Spent, Taken}
use Rattle.tap_log.specs.Counts.{sent_count}
use Rattle.tap_log.specs.Kinds.{is_carried, sent_number, taken_number}
use Rattle.tap_log.specs.Log.{EachFrom, EachRecord}
use Rattle.tap_log.proofs.MoreRecords.{filter_map-same}
use Rattle.tap_history.specs.Moments.{awaiting, is_none, is_rest, is_still, outstanding, under_way}
use Rattle.tap_packets.specs.MayCome.{KeepsPackets, MayCome}
use Rattle.tap_packets.specs.PacketLaws.{times_taken}
use Rattle.tap_packets.proofs.GroupsCome.{groups_follow_hold}
use Rattle.tap_packets.proofs.TakenOnce.{taken_once_holds}
use Rattle.tap_lawful.specs.CarriedNext.{carried_next_group}
use Rattle.tap_lawful.specs.CarriedRuns.{IsCarriedCut, IsCarriedFinished, IsCarriedLogOf, IsCarriedPlayed, IsCarriedScript, IsCarriedSpent}
use Rattle.tap_lawful.proofs.CarriedGrowth.{carried_more}
use Rattle.tap_lawful.proofs.CarriedRunMoves.{carried_groups_move}
use Rattle.tap_headline.specs.Carried.{AreTakenFromPackets, IsAllTakenAtRest}
use Rattle.tap_headline.proofs.CarriedEnds.{finished_tells, spent_tells, two_tell}
use Rattle.tap_headline.proofs.Openings.{IsOpening, opening_of, opening_sends, opening_takes}

-- ---- what a log keeps, its front keeps

each_front : (P : List Record → Record → Type 0) (before xs ys : List Record) → EachFrom P before (xs ++ ys) → EachFrom P before xs
each_front P before [] ys each = tt
each_front P before (x ∷ xs) ys each = (each.0, each_front P (before ++ x ∷ []) xs ys each.1)

front_comes : (log : List Record) (m : ℕ) → EachRecord MayCome log → EachRecord MayCome (take m log)
front_comes log m each = each_front MayCome [] (take m log) (drop m log) (subst (EachRecord MayCome) (sym (take-append-drop m log)) each)

pub front_keeps : (s : ScenarioValue) (log : List Record) (m : ℕ) → IsCarriedScript s → IsCarriedPlayed s log → KeepsPackets (take m log)
front_keeps s log m script played =
    groups_follow_hold.kept (take m log) (front_comes log m (carried_groups_move.records s log script played))

-- ---- each once

none_outstanding : (frames : List ℕ) → is_none frames ≡ true → frames ≡ []
none_outstanding [] is = refl
none_outstanding (frame ∷ frames) is = absurd (cc)

-- at rest no frame is outstanding
rest_none : (log : List Record) → is_rest log ≡ true → outstanding log ≡ []
rest_none log rest =
    none_outstanding (outstanding log)
    (and_parts (is_still log) (not (is_carried log) || (is_none (under_way log) && is_none (awaiting log))) rest).0

pub all_taken : (log : List Record) → KeepsPackets log → IsAllTakenAtRest log
all_taken log keeps rest frame sent = taken_once_holds.all log frame keeps (rest_none log rest) sent

-- a log that says the same of frames
module _ (log longer : List Record) (sent : filter_map sent_number longer ≡ filter_map sent_number log)
    (taken : filter_map taken_number longer ≡ filter_map taken_number log) where
  same_times : (frame : ℕ) → times_taken longer frame ≡ times_taken log frame
  same_times frame = ap (λ l. length (filter (λ other. nat_eq other frame) l)) taken

  once_still : KeepsPackets log → (frame : ℕ) → times_taken longer frame ≤ 1
  once_still keeps frame =
      let same = same_times frame in let most = taken_once_holds.most log frame keeps in omega (arith, same, most)

  all_still : outstanding longer ≡ outstanding log → KeepsPackets log → IsAllTakenAtRest longer
  all_still frames keeps rest frame below =
      same_times frame
      ∙ taken_once_holds.all log frame keeps (sym frames ∙ rest_none longer rest) (subst (λ l. frame < length l) sent below)

-- ---- from packets

some_none : (frame : ℕ) (xs ys : List ℕ) → xs ++ frame ∷ ys ≡ [] → ⊥
some_none frame [] ys is = absurd (cc)
some_none frame (x ∷ xs) ys is = absurd (cc)

taken_here : (frame : ℕ) (before after : List Record)
    → filter_map taken_number (before ++ Taken frame ∷ after) ≡ filter_map taken_number before ++ frame ∷ filter_map taken_number after
unfolding taken_number
taken_here frame before after = filter_map-append taken_number before (Taken frame ∷ after)

-- what is taken in a log is taken before its ending, if this takes nothing
taken_before : (log ending before after : List Record) (frame : ℕ) → filter_map taken_number ending ≡ []
    → log ++ ending ≡ before ++ Taken frame ∷ after → (rest : List Record) × (log ≡ before ++ Taken frame ∷ rest)
taken_before [] ending before after frame none is =
    absurd (some_none frame (filter_map taken_number before) (filter_map taken_number after)
    (sym (taken_here frame before after) ∙ ap (filter_map taken_number) (sym is) ∙ none))
taken_before (item ∷ items) ending [] after frame none is = let same : item ≡ Taken frame = cc in (items, ap (λ x. x ∷ items) same)
taken_before (item ∷ items) ending (first ∷ before) after frame none is =
    let same : item ≡ first = cc in
    let later : items ++ ending ≡ before ++ Taken frame ∷ after = cc in
    let rest = taken_before items ending before after frame none later in
    (rest.0, ap (λ l. item ∷ l) rest.1 ∙ ap (λ x. x ∷ (before ++ Taken frame ∷ rest.0)) same)

-- so with its ending
arrived_still : (log ending : List Record) → EachRecord MayCome log → filter_map taken_number ending ≡ [] → AreTakenFromPackets (log ++ ending)
arrived_still log ending each none before after frame is =
    let rest = taken_before log ending before after frame none is in taken_once_holds.arrives log before rest.0 frame each rest.1

-- ---- with the ending

-- how many frames may be sent, after the first record of a group
cut_once : (log : List Record) (first : Record) (limit : ℕ) → IsOpening first → KeepsPackets log → (frame : ℕ)
    → times_taken (log ++ first ∷ Spent limit ∷ []) frame ≤ 1
cut_once log first limit opens keeps =
    once_still log (log ++ first ∷ Spent limit ∷ []) (two_tell sent_number log first (Spent limit) (opening_sends first opens) (spent_tells limit).0)
    (two_tell taken_number log first (Spent limit) (opening_takes first opens) (spent_tells limit).1) keeps

pub cut_all : (log : List Record) (first : Record) (limit : ℕ) → IsOpening first → KeepsPackets log
    → outstanding (log ++ first ∷ Spent limit ∷ []) ≡ outstanding log → IsAllTakenAtRest (log ++ first ∷ Spent limit ∷ [])
cut_all log first limit opens keeps frames =
    all_still log (log ++ first ∷ Spent limit ∷ []) (two_tell sent_number log first (Spent limit) (opening_sends first opens) (spent_tells limit).0)
    (two_tell taken_number log first (Spent limit) (opening_takes first opens) (spent_tells limit).1) frames keeps

finished_once : (log : List Record) (steps : ℕ) → KeepsPackets log → (frame : ℕ) → times_taken (log ++ Finished steps ∷ []) frame ≤ 1
finished_once log steps keeps =
    once_still log (log ++ Finished steps ∷ []) (filter_map-same sent_number log (Finished steps) (finished_tells steps).0)
    (filter_map-same taken_number log (Finished steps) (finished_tells steps).1) keeps

pub finished_all : (log : List Record) (steps : ℕ) → KeepsPackets log → outstanding (log ++ Finished steps ∷ []) ≡ outstanding log
    → IsAllTakenAtRest (log ++ Finished steps ∷ [])
finished_all log steps keeps frames =
    all_still log (log ++ Finished steps ∷ []) (filter_map-same sent_number log (Finished steps) (finished_tells steps).0)
    (filter_map-same taken_number log (Finished steps) (finished_tells steps).1) frames keeps

-- ---- however a carried run has ended

module _ (s : ScenarioValue) (script : IsCarriedScript s) (played : List Record) (is_played : IsCarriedPlayed s played) where
  pub played_keeps : KeepsPackets played
  played_keeps = groups_follow_hold.kept played (carried_groups_move.records s played script is_played)

  -- of the group that comes next some records stand
  cut_comes : (group : List Record) (kept : ℕ) → carried_next_group s played ≡ Some group → sent_count (played ++ group) ≤ s.frames
      → EachRecord MayCome (played ++ take kept group)
  cut_comes group kept comes within =
      let all = carried_groups_move.records s (played ++ group) script (carried_more s played group script is_played comes within) in
      let parts : played ++ group ≡ (played ++ take kept group) ++ drop kept group =
      ap (λ g. played ++ g) (sym (take-append-drop kept group)) ∙ sym (append_assoc played (take kept group) (drop kept group)) in
      each_front MayCome [] (played ++ take kept group) (drop kept group) (subst (EachRecord MayCome) parts all)

  -- or its first one alone
  first_once : (group : List Record) → carried_next_group s played ≡ Some group → (frame : ℕ)
      → times_taken (played ++ take 1 group) frame ≤ 1
  first_once group comes =
      let opening = opening_of s played group comes in
      let one : take 1 group ≡ opening.first ∷ [] = ap (take 1) (sym opening.is) in
      subst (λ l. (frame : ℕ) → times_taken (played ++ l) frame ≤ 1) (sym one)
      (once_still played (played ++ opening.first ∷ [])
      (filter_map-same sent_number played opening.first (opening_sends opening.first opening.opens))
      (filter_map-same taken_number played opening.first (opening_takes opening.first opening.opens)) played_keeps)

  stopped_once : (log : List Record) → IsCarriedCut s played log → (frame : ℕ) → times_taken log frame ≤ 1
  stopped_once log cut =
      subst (λ l. (frame : ℕ) → times_taken l frame ≤ 1) (sym cut.log_is) (
      elim (cases_lt s.frames (sent_count (played ++ cut.group))) [
        | inl over ↦
            subst (λ k. (frame : ℕ) → times_taken (played ++ take k cut.group) frame ≤ 1) (sym (cut.first over)) (first_once cut.group cut.next)
        | inr within ↦ λ frame.
            let front = played ++ take cut.kept cut.group in
            taken_once_holds.most front frame (groups_follow_hold.kept front (cut_comes cut.group cut.kept cut.next within))
      ]
      )

  spent_once : (log : List Record) → IsCarriedSpent s played log → (frame : ℕ) → times_taken log frame ≤ 1
  spent_once log spent =
      let opening = opening_of s played spent.group spent.next in
      let one : take 1 spent.group ≡ opening.first ∷ [] = ap (take 1) (sym opening.is) in
      subst (λ l. (frame : ℕ) → times_taken l frame ≤ 1)
      (sym (spent.log_is ∙ ap (λ l. played ++ (l ++ Spent s.frames ∷ [])) one))
      (cut_once played opening.first s.frames opening.opens played_keeps)

  once_played : (log : List Record) → log ≡ played → (frame : ℕ) → times_taken log frame ≤ 1
  once_played log same =
      subst (λ l. (frame : ℕ) → times_taken l frame ≤ 1) (sym same) (λ frame. taken_once_holds.most played frame played_keeps)

  once_finished : (log : List Record) → IsCarriedFinished s played log → (frame : ℕ) → times_taken log frame ≤ 1
  once_finished log finished =
      subst (λ l. (frame : ℕ) → times_taken l frame ≤ 1) (sym finished.log_is) (finished_once played (length s.steps) played_keeps)

pub each_once : (s : ScenarioValue) (log : List Record) → IsCarriedScript s → IsCarriedLogOf s log → (frame : ℕ) → times_taken log frame ≤ 1
each_once s log script of =
    elim of.ending [
      | inl same ↦ once_played s script of.played of.is_played log same
      | inr (inl (inl finished)) ↦ once_finished s script of.played of.is_played log finished
      | inr (inl (inr spent)) ↦ spent_once s script of.played of.is_played log spent
      | inr (inr cut) ↦ stopped_once s script of.played of.is_played log cut
    ]

-- ---- from packets, however it has ended

one_takes : (item : Record) → taken_number item ≡ None → filter_map taken_number (item ∷ []) ≡ []
one_takes item none = ap (λ o. cons_option o []) none

two_take : (one other : Record) → taken_number one ≡ None → taken_number other ≡ None → filter_map taken_number (one ∷ other ∷ []) ≡ []
two_take one other first second =
    ap (λ o. cons_option o (filter_map taken_number (other ∷ []))) first ∙ one_takes other second

module _ (s : ScenarioValue) (script : IsCarriedScript s) (played : List Record) (is_played : IsCarriedPlayed s played) where
  comes : EachRecord MayCome played
  comes = carried_groups_move.records s played script is_played

  stopped_arrived : (log : List Record) → IsCarriedCut s played log → AreTakenFromPackets log
  stopped_arrived log cut =
      let o = opening_of s played cut.group cut.next in
      subst AreTakenFromPackets (sym cut.log_is) (
      elim (cases_lt s.frames (sent_count (played ++ cut.group))) [
        | inl over ↦
            subst (λ l. AreTakenFromPackets (played ++ l)) (sym (ap (λ k. take k cut.group) (cut.first over) ∙ ap (take 1) (sym o.is)))
            (arrived_still played (o.first ∷ []) comes (one_takes o.first (opening_takes o.first o.opens)))
        | inr within ↦
            let front = played ++ take cut.kept cut.group in
            λ before after frame is.
            taken_once_holds.arrives front before after frame (cut_comes s script played is_played cut.group cut.kept cut.next within) is
      ]
      )

  spent_arrived : (log : List Record) → IsCarriedSpent s played log → AreTakenFromPackets log
  spent_arrived log spent =
      let o = opening_of s played spent.group spent.next in
      subst AreTakenFromPackets
      (sym (spent.log_is ∙ ap (λ l. played ++ (l ++ Spent s.frames ∷ [])) (ap (take 1) (sym o.is))))
      (arrived_still played (o.first ∷ Spent s.frames ∷ []) comes
      (two_take o.first (Spent s.frames) (opening_takes o.first o.opens) (spent_tells s.frames).1))

  finished_arrived : (log : List Record) → IsCarriedFinished s played log → AreTakenFromPackets log
  finished_arrived log finished =
      subst AreTakenFromPackets (sym finished.log_is)
      (arrived_still played (Finished (length s.steps) ∷ []) comes (one_takes (Finished (length s.steps)) (finished_tells (length s.steps)).1))

  played_arrived : (log : List Record) → log ≡ played → AreTakenFromPackets log
  played_arrived log same =
      subst AreTakenFromPackets (sym same) (λ before after frame is. taken_once_holds.arrives played before after frame comes is)

pub all_arrived : (s : ScenarioValue) (log : List Record) → IsCarriedScript s → IsCarriedLogOf s log → AreTakenFromPackets log
all_arrived s log script of =
    elim of.ending [
      | inl same ↦ played_arrived s script of.played of.is_played log same
      | inr (inl (inl finished)) ↦ finished_arrived s script of.played of.is_played log finished
      | inr (inl (inr spent)) ↦ spent_arrived s script of.played of.is_played log spent
      | inr (inr cut) ↦ stopped_arrived s script of.played of.is_played log cut
    ]
