-- What a world adds to its log may be added to a ledger.
-- Cited above: finished_fits, limit_fits, refused_fits, step_fits
use Rattle.std.proofs.Common.{◌≡◌, ◌⊎◌, inl, inr, ℕ, ◌+◌, ◌<◌, ◌≤◌, nat_le, Bool, true, false, List, [], ◌∷◌, ◌++◌, length, map, All, Option, None, Some, refl, ap, sym, subst, ◌∙◌, arith}
use Rattle.std.specs.Prelude.{if◌then◌else◌, option_and_then}
use Rattle.std.specs.List.{filter_map, range_with_len}
use Rattle.std.specs.Option.{option_map}
use Rattle.std.proofs.lemmas.List.Elements.{All-append, All-cons, All-nil}
use Rattle.std.proofs.lemmas.List.FromFn.{length-range_with_len}
use Rattle.tap_name.specs.Root.{root}
use Rattle.tap_name.specs.Settings.{SettingsValue}
use Rattle.tap_scenario.specs.declared.step.Step.{Step}
use Rattle.tap_scenario.specs.declared.step.Step.TheVariants.{Publish, Withdraw, Find, Abandon, Cast, Walk, Root, Table, Pointers, Garble, Cut}
use Rattle.tap_scenario.specs.Scenario.{most_frames as most_sent}
use Rattle.tap_table.specs.Table.{rows}
use Rattle.tap_wire.specs.declared.fault.WireFault.{WireFault}
use Rattle.tap_wire.specs.declared.frame.Frame.{Frame}
use Rattle.tap_log.specs.declared.record.LinkLine.{LinkLine}
use Rattle.tap_log.specs.declared.record.NodeWord.{NodeWord}
use Rattle.tap_log.specs.declared.record.Record.{Record}
use Rattle.tap_log.specs.declared.record.Record.TheVariants.{Closed, Finished, Reached, Refused, RootOf, Spent, Step as StepRecord, TableOf, Taken}
use Rattle.tap_log.specs.declared.record.Refusal.{Refusal}
use Rattle.tap_log.specs.Counts.{sent_count, ticket_count}
use Rattle.tap_log.specs.Kinds.{asked_ticket, sent_number, taken_number}
use Rattle.tap_log.specs.MoreRecords.{at_most_one}
use Rattle.tap_log.proofs.MoreRecords.{sent_count-append}
use Rattle.tap_history.specs.Groups.{is_ended}
use Rattle.tap_history.specs.Refusals.{first_refusal}
use Rattle.tap_rule.specs.Act.{act}
use Rattle.tap_rule.specs.Event.{Acted, Event, News, Start}
use Rattle.tap_rule.specs.Event.Event.{Starts, Takes}
use Rattle.tap_rule.specs.Event.News.{Nothing, Core as CoreNews, Gone as GoneNews, Answered as AnsweredNews, Cast as CastNews}
use Rattle.tap_rule.specs.Node.{NodeState}
use Rattle.tap_safety.specs.Moved.{numbered_frame, starter}
use Rattle.tap_safety.specs.System.{System}
use Rattle.tap_runs.specs.Acts.{acted_records, if_so, news_after, news_before, sent_records}
use Rattle.tap_runs.specs.Beginning.{Beginning, IsWithinLimits}
use Rattle.tap_runs.specs.Course.{FollowStep, Follows, IsCourse, IsRefused, MayFollow, is_choice, move_of_group, moved_by, system_of}
use Rattle.tap_runs.specs.Damage.{copied_number, fault_of_copy, garbled}
use Rattle.tap_runs.specs.Group.{accepted_records, received_records, records_of_act, records_unless, start_at, started_records}
use Rattle.tap_runs.specs.Observed.{link_line, observed, pointers_record, table_record, word_of_status}
use Rattle.tap_runs.specs.Starts.{announced}
use Rattle.tap_runs.proofs.Frames.{Exchanges, exchange, frames_kept}
use Rattle.tap_history.specs.Core.{core_of}
use Rattle.tap_ledger.specs.Added.{CanAdd, is_plain, most_ledger_frames}

-- the record is no beginning, and is of no packet
abbrev pub Plain : Record → Type 0
Plain item = is_plain item ≡ true

one : (item : Record) → Plain item → All Plain (item ∷ [])
one item plain = All-cons Plain item [] plain (All-nil Plain)

-- ---- what a node does

sent_plain : (p : SettingsValue) (number : ℕ) (frames : List Frame) → All Plain (sent_records p number frames)
unfolding is_plain
sent_plain p number [] = All-nil Plain
sent_plain p number (frame ∷ frames) = All-cons Plain _ (sent_records p (number + 1) frames) refl (sent_plain p (number + 1) frames)

so_plain : (there : Bool) (item : Record) → Plain item → All Plain (if_so there item)
so_plain true item plain = one item plain
so_plain false item plain = All-nil Plain

before_plain : (name : List ℕ) (news : News) → All Plain (news_before name news)
unfolding is_plain news_before
before_plain name Nothing = All-nil Plain
before_plain name CoreNews = one _ refl
before_plain name GoneNews = one _ refl
before_plain name (AnsweredNews ticket server) = All-nil Plain
before_plain name (CastNews cast reached closed) = so_plain reached (Reached cast name) refl

after_plain : (news : News) → All Plain (news_after news)
unfolding is_plain news_after
after_plain Nothing = All-nil Plain
after_plain CoreNews = All-nil Plain
after_plain GoneNews = All-nil Plain
after_plain (AnsweredNews ticket server) = one _ refl
after_plain (CastNews cast reached closed) = so_plain closed (Closed cast) refl

acted_plain : (p : SettingsValue) (number : ℕ) (name : List ℕ) (acted : Acted) → All Plain (acted_records p number name acted)
acted_plain p number name acted =
    All-append Plain (news_before name acted.news) (sent_records p number acted.sent ++ news_after acted.news)
    (before_plain name acted.news)
    (All-append Plain (sent_records p number acted.sent) (news_after acted.news) (sent_plain p number acted.sent) (after_plain acted.news))

act_plain : (p : SettingsValue) (log : List Record) (name : List ℕ) (node : Option NodeState) (event : Event)
    → All Plain (records_of_act p log name node event)
act_plain p log name None event = All-nil Plain
act_plain p log name (Some node) event = acted_plain p (sent_count log) name (act node event)

-- ---- what follows a step

announced_plain : (log : List Record) (step : Step) → All Plain (announced log step)
unfolding is_plain announced
announced_plain log (Publish object server) = one _ refl
announced_plain log (Withdraw object server) = one _ refl
announced_plain log (Find object asker) = one _ refl
announced_plain log (Abandon name) = one _ refl
announced_plain log (Cast word prefix asker) = one _ refl
announced_plain log step = All-nil Plain

root_plain : (object : List ℕ) (name : Option (List ℕ)) → All Plain (at_most_one (option_map (RootOf object) name))
unfolding is_plain
root_plain object None = All-nil Plain
root_plain object (Some name) = one _ refl

pointers_plain : (name : List ℕ) (node : Option NodeState) → All Plain (at_most_one (option_map (pointers_record name) node))
unfolding is_plain
pointers_plain name None = All-nil Plain
pointers_plain name (Some node) = one _ refl

worded_plain : (name : List ℕ) (links : List LinkLine) (word : Option NodeWord)
    → All Plain (at_most_one (option_map (λ w. TableOf name w links) word))
unfolding is_plain
worded_plain name links None = All-nil Plain
worded_plain name links (Some word) = one _ refl

table_plain : (name : List ℕ) (node : Option NodeState) → All Plain (at_most_one (option_and_then (table_record name) node))
table_plain name None = All-nil Plain
table_plain name (Some node) = worded_plain name (map link_line (rows node.ties.table)) (word_of_status node.status)

damage_plain : (number : Option ℕ) (fault : Option WireFault) → All Plain (at_most_one (garbled number fault))
unfolding is_plain
damage_plain None fault = All-nil Plain
damage_plain (Some number) None = All-nil Plain
damage_plain (Some number) (Some fault) = one _ refl

started_plain : (p : SettingsValue) (log : List Record) (s : System) (step : Step) (start : Option (List ℕ × Start))
    → All Plain (started_records p log s step start)
started_plain p log s step None = All-nil Plain
started_plain p log s step (Some (name, start)) =
    All-append Plain (announced log step) (records_of_act p log name (starter p s name start) (Starts start)) (announced_plain log step)
    (act_plain p log name (starter p s name start) (Starts start))

accepted_plain : (p : SettingsValue) (log : List Record) (s : System) (step : Step) → All Plain (accepted_records p log s step)
unfolding is_plain accepted_records observed
accepted_plain p log s (Walk object asker) = one _ refl
accepted_plain p log s (Root object) = root_plain object (root p.base (core_of log) object)
accepted_plain p log s (Table name) = table_plain name (s.node name)
accepted_plain p log s (Pointers name) = pointers_plain name (s.node name)
accepted_plain p log s (Garble place at byte) =
    damage_plain (copied_number log (Garble place at byte)) (fault_of_copy p log (Garble place at byte))
accepted_plain p log s (Cut place bytes) = damage_plain (copied_number log (Cut place bytes)) (fault_of_copy p log (Cut place bytes))
accepted_plain p log s step = started_plain p log s step (start_at log step)

unless_plain : (p : SettingsValue) (log : List Record) (s : System) (index : ℕ) (step : Step) (refusal : Option Refusal)
    → All Plain (records_unless p log s index step refusal)
unfolding is_plain
unless_plain p log s index step (Some refusal) = one _ refl
unless_plain p log s index step None = accepted_plain p log s step

choice_plain : (index : ℕ) (items : List Record) → (items ≡ []) ⊎ IsRefused index items → All Plain items
unfolding is_plain
choice_plain index items (inl none) = subst (All Plain) (sym none) (All-nil Plain)
choice_plain index items (inr refused) = subst (All Plain) (sym refused.is) (one _ refl)

follow_plain : (choice : Bool) (p : SettingsValue) (log : List Record) (s : System) (index : ℕ) (step : Step) (items : List Record)
    → FollowStep choice p log s index step items → All Plain items
follow_plain true p log s index step items follow = choice_plain index items follow
follow_plain false p log s index step items follow =
    subst (All Plain) (sym follow) (unless_plain p log s index step (first_refusal log step))

received_plain : (p : SettingsValue) (log : List Record) (s : System) (frame : Option Frame) → All Plain (received_records p log s frame)
received_plain p log s None = All-nil Plain
received_plain p log s (Some frame) = act_plain p log frame.to (s.node frame.to) (Takes frame)

group_plain : (p : SettingsValue) (log : List Record) (s : System) (group : List Record) → MayFollow p log s group → All Plain group
unfolding is_plain MayFollow
group_plain p log s (StepRecord index step ∷ items) may =
    All-cons Plain (StepRecord index step) items refl (follow_plain (is_choice step) p log s index step items may)
group_plain p log s (Taken number ∷ items) may =
    All-cons Plain (Taken number) items refl
    (subst (All Plain) (sym may.are) (received_plain p log s (numbered_frame number s.frames)))
group_plain p log s group may = absurd may

-- ---- how many frames

few_frames : (digits : ℕ) → most_sent digits ≤ most_ledger_frames
few_frames digits = by_long (nat_le digits 8)
  where
    by_long : (short : Bool) → (if short then 500000 else 100000) ≤ most_ledger_frames
    by_long true = omega arith
    by_long false = omega arith

pub limit_fits : (b : Beginning) → IsWithinLimits b → b.frames ≤ most_ledger_frames
limit_fits b limits =
    let most = limits.frames_to in
    let few = few_frames b.settings.digits in
    omega (arith, most, few)

-- ---- what may be added

-- a group that may follow
pub group_fits : (b : Beginning) (log group : List Record) → IsCourse b log → is_ended log ≡ false → Follows b log group → CanAdd log group
group_fits b log group course going follows =
    let s = system_of log in
    let kept = frames_kept b log course going in
    let e : Exchanges b.settings log group s (moved_by b.settings s (move_of_group log group)) =
    exchange b.settings log s kept.agree kept.system_is group follows.may in
    let count : sent_count group ≡ length e.sent = ap length e.sending ∙ length-range_with_len s.next (length e.sent) in
    record {
      plain = group_plain b.settings log s group follows.may;
      numbers = record {
        sent = e.sending ∙ ap (λ n. range_with_len n (length e.sent)) kept.agree.next ∙ ap (range_with_len (sent_count log)) (sym count);
        taken = subst (λ n. All (λ number. number < n) (filter_map taken_number group)) kept.agree.next e.below;
        asked = e.asked;
      };
      within = let within = follows.within in let fits = limit_fits b course.limits in omega (arith, within, fits);
    }

-- records that send, take and ask nothing
pub silent_fits : (log items : List Record) → All Plain items → filter_map sent_number items ≡ [] → filter_map taken_number items ≡ []
    → filter_map asked_ticket items ≡ [] → sent_count log ≤ most_ledger_frames → CanAdd log items
silent_fits log items plain sent taken asked few = record {
  plain = plain;
  numbers = record {
    sent = sent ∙ ap (λ l. range_with_len (sent_count log) (length l)) (sym sent);
    taken = subst (All (λ number. number < sent_count log)) (sym taken) (All-nil (λ number. number < sent_count log));
    asked = asked ∙ ap (λ l. range_with_len (1 + ticket_count log) (length l)) (sym asked);
  };
  within =
      let all = sent_count-append log items in
      let size : sent_count items ≡ 0 = ap length sent in
      omega (arith, all, size, few);
}

-- a step alone, a refusal, and an end
pub step_fits : (log : List Record) (index : ℕ) (step : Step) → sent_count log ≤ most_ledger_frames → CanAdd log (StepRecord index step ∷ [])
unfolding is_plain sent_number taken_number asked_ticket
step_fits log index step few = silent_fits log (StepRecord index step ∷ []) (one _ refl) refl refl refl few

pub refused_fits : (log : List Record) (index : ℕ) (refusal : Refusal) → sent_count log ≤ most_ledger_frames
    → CanAdd log (Refused index refusal ∷ [])
unfolding is_plain sent_number taken_number asked_ticket
refused_fits log index refusal few = silent_fits log (Refused index refusal ∷ []) (one _ refl) refl refl refl few

pub spent_fits : (log : List Record) (limit : ℕ) → sent_count log ≤ most_ledger_frames → CanAdd log (Spent limit ∷ [])
unfolding is_plain sent_number taken_number asked_ticket
spent_fits log limit few = silent_fits log (Spent limit ∷ []) (one _ refl) refl refl refl few

pub finished_fits : (log : List Record) (steps : ℕ) → sent_count log ≤ most_ledger_frames → CanAdd log (Finished steps ∷ [])
unfolding is_plain sent_number taken_number asked_ticket
finished_fits log steps few = silent_fits log (Finished steps ∷ []) (one _ refl) refl refl refl few

-- a step alone sends nothing
pub step_sent : (log : List Record) (index : ℕ) (step : Step) → sent_count (log ++ StepRecord index step ∷ []) ≡ sent_count log
unfolding sent_number
step_sent log index step = let all = sent_count-append log (StepRecord index step ∷ []) in omega (arith, all)
