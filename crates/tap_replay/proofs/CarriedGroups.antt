-- What the last step of a carried run has chosen, and how many steps were begun, after one more group.
use Rattle.std.proofs.Common.{◌≡◌, ℕ, ◌+◌, Bool, true, false, List, [], ◌∷◌, ◌++◌, length, All, Option, None, Some, refl, ap, sym, ◌∙◌, arith, append-nil, length-append}
use Rattle.std.specs.Prelude.{fold, map}
use Rattle.std.specs.List.{filter_map}
use Rattle.std.proofs.lemmas.Bool.{false≢true}
use Rattle.std.proofs.lemmas.List.Elements.{All-append, All-cons, All-head, All-nil, All-tail, filter_map-append}
use Rattle.std.proofs.lemmas.List.Sums.{fold-append}
use Rattle.tap_name.specs.Settings.{SettingsValue}
use Rattle.tap_wire.specs.declared.frame.Frame.{Frame}
use Rattle.tap_log.specs.declared.record.Record.{Record}
use Rattle.tap_log.specs.declared.record.Record.TheVariants.{Arrived, Taken, Ticked}
use Rattle.tap_log.specs.Kinds.{step_of}
use Rattle.tap_log.specs.Reduced.{reduced}
use Rattle.tap_history.specs.Moments.{awaiting, has_number, outstanding}
use Rattle.tap_rule.specs.Act.{act}
use Rattle.tap_rule.specs.Event.{Event, News}
use Rattle.tap_rule.specs.Event.News.{Nothing, Core as CoreNews, Gone as GoneNews, Answered as AnsweredNews, Cast as CastNews}
use Rattle.tap_rule.specs.Node.{NodeState}
use Rattle.tap_runs.specs.Acts.{if_so, news_after, news_before, sent_records}
use Rattle.tap_runs.specs.Course.{system_of}
use Rattle.tap_runs.specs.Group.{received_records, records_of_act}
use Rattle.tap_safety.specs.Moved.{numbered_frame}
use Rattle.tap_safety.specs.System.{System}
use Rattle.tap_packets.specs.Groups.{ack_line, arrival_group, arrival_records, data_lines, data_packets, tick_group}
use Rattle.tap_packets.specs.Packets.{PacketLine, frames_sent, packet_record}
use Rattle.tap_lawful.specs.CarriedDue.{CarriedChoice, carried_choice, choice_after, no_choice}
use Rattle.tap_lawful.specs.CarriedNext.{reduced_taken_records}
use Rattle.tap_lawful.specs.Next.{begun_count}
use Rattle.tap_replay.specs.CarriedChosen.{AreChosen, as_chosen}
use Rattle.tap_replay.specs.Choice.{IsChoiceOf, one_more_taken}
use Rattle.tap_replay.specs.Ticks.{ticks_left}
use Rattle.tap_replay.specs.declared.choice.Choice.{Choice}
use Rattle.tap_replay.specs.declared.choice.Choice.TheVariants.{Nothing}
use Rattle.tap_replay.specs.declared.ticks.Ticks.{Ticks}
use Rattle.tap_replay.specs.declared.ticks.Ticks.TheVariants.{Never}
use Rattle.tap_replay.proofs.CarriedChoosing.{ticks_more}

-- ---- records that choose nothing

-- a record that says nothing of what is chosen, and begins no step
record IsIdle (item : Record) : Type 0 where
  leaves : (choice : CarriedChoice) → choice_after choice item ≡ choice
  begins : step_of item ≡ None

idle_choice : (choice : CarriedChoice) (items : List Record) → All IsIdle items → fold choice_after choice items ≡ choice
idle_choice choice [] all = refl
idle_choice choice (item ∷ items) all =
    ap (λ c. fold choice_after c items) ((All-head IsIdle item items all).leaves choice)
    ∙ idle_choice choice items (All-tail IsIdle item items all)

idle_steps : (items : List Record) → All IsIdle items → filter_map step_of items ≡ []
idle_steps [] all = refl
idle_steps (item ∷ items) all =
    filter_map-append step_of (item ∷ []) items
    ∙ ap (λ steps. steps ++ filter_map step_of items) (none_of item (All-head IsIdle item items all).begins)
    ∙ idle_steps items (All-tail IsIdle item items all)
  where
    none_of : (item : Record) → step_of item ≡ None → filter_map step_of (item ∷ []) ≡ []
    none_of item none = rw none refl

-- ---- what a node does

sent_idle : (p : SettingsValue) (number : ℕ) (frames : List Frame) → All IsIdle (sent_records p number frames)
unfolding choice_after
sent_idle p number [] = All-nil IsIdle
sent_idle p number (frame ∷ frames) =
    All-cons IsIdle _ (sent_records p (number + 1) frames) (record { leaves = λ choice. refl; begins = refl }) (sent_idle p (number + 1) frames)

so_idle : (so : Bool) (item : Record) → IsIdle item → All IsIdle (if_so so item)
so_idle true item idle = All-cons IsIdle item [] idle (All-nil IsIdle)
so_idle false item idle = All-nil IsIdle

before_idle : (name : List ℕ) (news : News) → All IsIdle (news_before name news)
unfolding choice_after news_before
before_idle name Nothing = All-nil IsIdle
before_idle name CoreNews = All-cons IsIdle _ [] (record { leaves = λ choice. refl; begins = refl }) (All-nil IsIdle)
before_idle name GoneNews = All-cons IsIdle _ [] (record { leaves = λ choice. refl; begins = refl }) (All-nil IsIdle)
before_idle name (AnsweredNews ticket server) = All-nil IsIdle
before_idle name (CastNews cast reached closed) = so_idle reached _ (record { leaves = λ choice. refl; begins = refl })

after_idle : (news : News) → All IsIdle (news_after news)
unfolding choice_after news_after
after_idle Nothing = All-nil IsIdle
after_idle CoreNews = All-nil IsIdle
after_idle GoneNews = All-nil IsIdle
after_idle (AnsweredNews ticket server) = All-cons IsIdle _ [] (record { leaves = λ choice. refl; begins = refl }) (All-nil IsIdle)
after_idle (CastNews cast reached closed) = so_idle closed _ (record { leaves = λ choice. refl; begins = refl })

act_idle : (p : SettingsValue) (log : List Record) (name : List ℕ) (node : Option NodeState) (event : Event)
    → All IsIdle (records_of_act p log name node event)
act_idle p log name None event = All-nil IsIdle
act_idle p log name (Some node) event =
    All-append IsIdle _ _ (before_idle name (act node event).news)
    (All-append IsIdle _ _ (sent_idle p _ (act node event).sent) (after_idle (act node event).news))

received_idle : (p : SettingsValue) (log : List Record) (s : System) (frame : Option Frame) → All IsIdle (received_records p log s frame)
received_idle p log s None = All-nil IsIdle
received_idle p log s (Some frame) = act_idle p log frame.to (s.node frame.to) _

taken_idle : (p : SettingsValue) (log : List Record) (frame : ℕ) → All IsIdle (reduced_taken_records p log frame)
taken_idle p log frame =
    let s = system_of (reduced log) in received_idle p (reduced log) s (numbered_frame frame s.frames)

-- ---- packets

packets_idle : (lines : List PacketLine) → All IsIdle (map packet_record lines)
unfolding choice_after
packets_idle [] = All-nil IsIdle
packets_idle (line ∷ lines) =
    All-cons IsIdle (packet_record line) (map packet_record lines) (record { leaves = λ choice. refl; begins = refl }) (packets_idle lines)

taking_idle : (frame : ℕ) → IsIdle (Taken frame)
unfolding choice_after
taking_idle frame = record { leaves = λ choice. refl; begins = refl }

arriving_idle : (log : List Record) (line : PacketLine) (items : List Record) → All IsIdle items → (ack waits : Bool)
    → All IsIdle (arrival_records log line items ack waits)
arriving_idle log line items all true waits = All-nil IsIdle
arriving_idle log line items all false true =
    All-cons IsIdle _ _ (taking_idle line.frame)
    (All-append IsIdle items _ all
    (All-append IsIdle (data_packets log (frames_sent items)) _ (packets_idle (data_lines _ (frames_sent items))) (packets_idle (ack_line _ line.frame ∷ []))))
arriving_idle log line items all false false = packets_idle (ack_line _ line.frame ∷ [])

-- ---- groups

module _ (log : List Record) (first : Record) (items : List Record) (all : All IsIdle items) where
  choice_of_group : carried_choice (log ++ first ∷ items) ≡ choice_after (carried_choice log) first
  choice_of_group =
      fold-append choice_after no_choice log (first ∷ items) ∙ idle_choice (choice_after (carried_choice log) first) items all

  steps_of_group : begun_count (log ++ first ∷ items) ≡ begun_count log + length (filter_map step_of (first ∷ []))
  steps_of_group =
      ap length (filter_map-append step_of log (first ∷ items)) ∙ length-append (filter_map step_of log) (filter_map step_of (first ∷ items))
      ∙ ap (λ steps. begun_count log + length steps)
      (filter_map-append step_of (first ∷ []) items ∙ ap (λ steps. filter_map step_of (first ∷ []) ++ steps) (idle_steps items all)
      ∙ append-nil (filter_map step_of (first ∷ [])))

-- what is chosen after one more packet that has arrived, and after one more tick
abbrev pub one_more_arrived : CarriedChoice → CarriedChoice
one_more_arrived c = record { step = c.step; arrived = c.arrived + 1; ticked = c.ticked; refused = c.refused }

abbrev pub one_more_ticked : CarriedChoice → CarriedChoice
one_more_ticked c = record { step = c.step; arrived = c.arrived; ticked = c.ticked + 1; refused = c.refused }

module _ (p : SettingsValue) (log : List Record) (line : PacketLine) where
  arrived : List Record
  arrived = arrival_group log line (reduced_taken_records p log line.frame)

  arrived_idle : All IsIdle (arrival_records log line (reduced_taken_records p log line.frame) line.ack (has_number (outstanding log) line.frame))
  arrived_idle = arriving_idle log line (reduced_taken_records p log line.frame) (taken_idle p log line.frame) line.ack _

  pub choice_arrived : carried_choice (log ++ arrival_group log line (reduced_taken_records p log line.frame)) ≡ one_more_arrived (carried_choice log)
  unfolding choice_after
  choice_arrived = choice_of_group log (Arrived line.number) _ arrived_idle

  pub begun_arrived : begun_count (log ++ arrival_group log line (reduced_taken_records p log line.frame)) ≡ begun_count log
  begun_arrived = steps_of_group log (Arrived line.number) _ arrived_idle ∙ (let none : begun_count log + 0 ≡ begun_count log = omega arith in none)

pub choice_ticked : (log : List Record) → carried_choice (log ++ tick_group log) ≡ one_more_ticked (carried_choice log)
unfolding choice_after
choice_ticked log = choice_of_group log Ticked _ (packets_idle (data_lines _ (awaiting log)))

pub begun_ticked : (log : List Record) → begun_count (log ++ tick_group log) ≡ begun_count log
begun_ticked log =
    steps_of_group log Ticked _ (packets_idle (data_lines _ (awaiting log)))
    ∙ (let none : begun_count log + 0 ≡ begun_count log = omega arith in none)

-- ---- what is chosen then

pub chosen_arrived : (c : CarriedChoice) (choice after : Choice) (ticks : Ticks) → AreChosen c choice ticks → c.refused ≡ false
    → IsChoiceOf (one_more_taken (as_chosen c)) after → AreChosen (one_more_arrived c) after ticks
chosen_arrived c choice after ticks are accepted chosen = record {
  refused = λ refused. absurd (false≢true (sym accepted ∙ refused));
  chosen = λ _. chosen;
  none = are.none;
  ticked = are.ticked;
}

pub chosen_ticked : (c : CarriedChoice) (choice : Choice) (ticks : Ticks) → AreChosen c choice ticks
    → AreChosen (one_more_ticked c) choice (ticks_left ticks)
chosen_ticked c choice ticks are = record {
  refused = λ refused. let both = are.refused refused in (both.0, ap ticks_left both.1);
  chosen = are.chosen;
  none = λ none. ap ticks_left (are.none none);
  ticked = λ step is accepted. ticks_more step c.ticked ticks (are.ticked step is accepted);
}

-- before the first group nothing is chosen
pub nothing_chosen_yet : AreChosen no_choice Nothing Never
nothing_chosen_yet = record {
  refused = λ _. (refl, refl);
  chosen = λ _ count. refl;
  none = λ _. refl;
  ticked = λ step is. absurd (cc);
}
