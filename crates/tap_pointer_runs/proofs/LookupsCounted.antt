-- How often the records of a group ask for a lookup, and answer it.
use Rattle.std.proofs.Common.{◌≡◌, ℕ, ◌+◌, Bool, true, false, List, [], ◌∷◌, ◌++◌, length, All, Option, None, Some, arith, refl, ap, ◌∙◌}
use Rattle.std.specs.Option.{option_map}
use Rattle.std.specs.Prelude.{count_by}
use Rattle.std.proofs.lemmas.List.Elements.{All-head, All-tail, All-weaker}
use Rattle.std.proofs.lemmas.List.Sums.{sum_by-append, sum_by-cons}
use Rattle.tap_name.specs.Settings.{SettingsValue}
use Rattle.tap_scenario.specs.declared.step.Step.{Step}
use Rattle.tap_scenario.specs.declared.step.Step.TheVariants.{Abandon, Cast, Depart, Find, Join, Publish, Withdraw}
use Rattle.tap_wire.specs.Spelling.{spelling}
use Rattle.tap_wire.specs.declared.frame.Frame.{Frame}
use Rattle.tap_log.specs.Counts.{sent_count}
use Rattle.tap_log.specs.Kinds.{asked_ticket}
use Rattle.tap_log.specs.declared.record.Record.{Record}
use Rattle.tap_log.specs.declared.record.Record.TheVariants.{Answered, Asked, Closed, Core, Gone, Reached, Sent, Step as StepRecord, Taken}
use Rattle.tap_history.specs.StepAsks.{actor_of}
use Rattle.tap_rule.specs.Act.{act}
use Rattle.tap_rule.specs.Event.{Acted, Event, News, Start}
use Rattle.tap_rule.specs.Event.Event.{Takes}
use Rattle.tap_rule.specs.Event.News.{Answered as AnsweredNews, Cast as CastNews, Core as CoreNews, Gone as GoneNews, Nothing}
use Rattle.tap_rule.specs.Event.Start.{Abandon as StartAbandon, Cast as StartCast, Find as StartFind, Join as StartJoin, Leave as StartLeave, Publish as StartPublish, Withdraw as StartWithdraw}
use Rattle.tap_rule.specs.Node.{NodeState}
use Rattle.tap_safety.specs.System.{System}
use Rattle.tap_runs.specs.Acts.{acted_records, if_so, news_after, news_before, sent_records}
use Rattle.tap_runs.specs.Group.{received_records, records_of_act, start_at}
use Rattle.tap_runs.specs.Starts.{announced, next_cast, next_ticket, start_of_step}
use Rattle.tap_runs.proofs.Nodes.{start_in}
use Rattle.tap_runs.proofs.Within.{IsQuiet}
use Rattle.tap_pointer_moves.specs.LookupAnswers.{news_of_frame}
use Rattle.tap_pointer_moves.specs.LookupFrames.{is_its_answer, is_its_start, is_noted_in, one_if}
use Rattle.tap_pointer_runs.specs.AnsweredOnce.{answers_under, asks_under, times_answered, times_asked}
use Rattle.tap_pointer_runs.proofs.Unanswered.{IsUnanswered, IsUnasked}

module _ (t : Record → Bool) where
  pub times-append : (xs ys : List Record) → count_by t (xs ++ ys) ≡ count_by t xs + count_by t ys
  times-append xs ys = sum_by-append (λ item. one_if (t item)) xs ys

  pub times-cons : (item : Record) (items : List Record) → count_by t (item ∷ items) ≡ one_if (t item) + count_by t items
  times-cons item items = sum_by-cons (λ one. one_if (t one)) item items

  one_time : (item : Record) → count_by t (item ∷ []) ≡ one_if (t item)
  one_time item = let all = times-cons item [] in omega (arith, all)

  pub no_times : (items : List Record) → All (λ item. t item ≡ false) items → count_by t items ≡ 0
  no_times [] none = refl
  no_times (item ∷ items) none =
      let all = times-cons item items in
      let first : one_if (t item) ≡ 0 = ap one_if (All-head (λ one. t one ≡ false) item items none) in
      let others = no_times items (All-tail (λ one. t one ≡ false) item items none) in
      omega (arith, all, first, others)

  -- ---- what a node does

  -- Of what the log says of what a node does it passes answers alone.
  pub record PassesAnswers : Type 0 where
    pub core : (name : List ℕ) → t (Core name) ≡ false
    pub gone : (name : List ℕ) → t (Gone name) ≡ false
    pub reached : (cast : ℕ) (name : List ℕ) → t (Reached cast name) ≡ false
    pub closed : (cast : ℕ) → t (Closed cast) ≡ false
    pub sent : (number : ℕ) (bytes : List ℕ) → t (Sent number bytes) ≡ false

  -- how many answers among the news pass it
  abbrev news_times : News → ℕ
  news_times (AnsweredNews number server) = one_if (t (Answered number server))
  news_times other = 0

  module _ (passes : PassesAnswers) where
    no_time : (item : Record) → t item ≡ false → count_by t (item ∷ []) ≡ 0
    no_time item none = one_time item ∙ ap one_if none

    so_times : (there : Bool) (item : Record) → t item ≡ false → count_by t (if_so there item) ≡ 0
    so_times true item none = no_time item none
    so_times false item none = refl

    before_times : (name : List ℕ) (news : News) → count_by t (news_before name news) ≡ 0
    unfolding news_before
    before_times name Nothing = refl
    before_times name CoreNews = no_time (Core name) (passes.core name)
    before_times name GoneNews = no_time (Gone name) (passes.gone name)
    before_times name (AnsweredNews number server) = refl
    before_times name (CastNews cast reached closed) = so_times reached (Reached cast name) (passes.reached cast name)

    sent_times : (p : SettingsValue) (number : ℕ) (frames : List Frame) → count_by t (sent_records p number frames) ≡ 0
    sent_times p number [] = refl
    sent_times p number (frame ∷ frames) =
        let all = times-cons (Sent number (spelling p frame)) (sent_records p (number + 1) frames) in
        let first = ap one_if (passes.sent number (spelling p frame)) in
        let others = sent_times p (number + 1) frames in
        omega (arith, all, first, others)

    after_times : (news : News) → count_by t (news_after news) ≡ news_times news
    unfolding news_after
    after_times Nothing = refl
    after_times CoreNews = refl
    after_times GoneNews = refl
    after_times (AnsweredNews number server) = one_time (Answered number server)
    after_times (CastNews cast reached closed) = so_times closed (Closed cast) (passes.closed cast)

    pub acted_times : (p : SettingsValue) (number : ℕ) (name : List ℕ) (acted : Acted)
        → count_by t (acted_records p number name acted) ≡ news_times acted.news
    acted_times p number name acted =
        let all = times-append (news_before name acted.news) (sent_records p number acted.sent ++ news_after acted.news) in
        let later = times-append (sent_records p number acted.sent) (news_after acted.news) in
        let one = before_times name acted.news in
        let two = sent_times p number acted.sent in
        let three = after_times acted.news in
        omega (arith, all, later, one, two, three)

-- ---- of one ticket

module _ (ticket : ℕ) where
  asking_passes : PassesAnswers (asks_under ticket)
  unfolding asks_under
  asking_passes = record {
    core = λ name. refl;
    gone = λ name. refl;
    reached = λ cast name. refl;
    closed = λ cast. refl;
    sent = λ number bytes. refl;
  }

  answering_passes : PassesAnswers (answers_under ticket)
  unfolding answers_under
  answering_passes = record {
    core = λ name. refl;
    gone = λ name. refl;
    reached = λ cast name. refl;
    closed = λ cast. refl;
    sent = λ number bytes. refl;
  }

  asks_no_news : (news : News) → news_times (asks_under ticket) news ≡ 0
  unfolding asks_under
  asks_no_news (AnsweredNews number server) = refl
  asks_no_news _ = refl

  answers_news : (news : News) → news_times (answers_under ticket) news ≡ one_if (is_its_answer ticket news)
  unfolding answers_under
  answers_news (AnsweredNews number server) = refl
  answers_news _ = refl

  module _ (p : SettingsValue) (log : List Record) where
    -- what a node does asks for no lookup, and answers the one that it notes
    pub act_asks : (name : List ℕ) (node : Option NodeState) (event : Event) → times_asked ticket (records_of_act p log name node event) ≡ 0
    act_asks name None event = refl
    act_asks name (Some node) event =
        acted_times (asks_under ticket) asking_passes p (sent_count log) name (act node event) ∙ asks_no_news (act node event).news

    pub act_answers : (name : List ℕ) (node : Option NodeState) (event : Event)
        → times_answered ticket (records_of_act p log name node event)
        ≡ one_if (is_noted_in ticket (option_map (λ one. (act one event).news) node))
    act_answers name None event = refl
    act_answers name (Some node) event =
        acted_times (answers_under ticket) answering_passes p (sent_count log) name (act node event) ∙ answers_news (act node event).news

    pub receive_asks : (s : System) (frame : Option Frame) → times_asked ticket (received_records p log s frame) ≡ 0
    receive_asks s None = refl
    receive_asks s (Some frame) = act_asks frame.to (s.node frame.to) (Takes frame)

    pub receive_answers : (s : System) (frame : Option Frame)
        → times_answered ticket (received_records p log s frame) ≡ one_if (is_noted_in ticket (news_of_frame s frame))
    receive_answers s None = refl
    receive_answers s (Some frame) = act_answers frame.to (s.node frame.to) (Takes frame)

  -- ---- the other records of a group

  pub step_asks : (index : ℕ) (step : Step) → asks_under ticket (StepRecord index step) ≡ false
  unfolding asks_under
  step_asks index step = refl

  pub step_answers : (index : ℕ) (step : Step) → answers_under ticket (StepRecord index step) ≡ false
  unfolding answers_under
  step_answers index step = refl

  pub taken_asks : (number : ℕ) → asks_under ticket (Taken number) ≡ false
  unfolding asks_under
  taken_asks number = refl

  pub taken_answers : (number : ℕ) → answers_under ticket (Taken number) ≡ false
  unfolding answers_under
  taken_answers number = refl

  pub unasked : (item : Record) → asked_ticket item ≡ None → asks_under ticket item ≡ false
  unfolding asks_under asked_ticket
  unasked (Asked number object asker) none = absurd (cc)
  unasked item none = refl

  asks_none : (item : Record) → IsUnasked item → asks_under ticket item ≡ false
  unfolding asks_under
  asks_none (Asked number object asker) none = absurd none
  asks_none item none = refl

  unanswered : (item : Record) → IsUnanswered item → answers_under ticket item ≡ false
  unfolding answers_under
  unanswered (Answered number server) none = absurd none
  unanswered item none = refl

  -- what asks for none asks for none under this ticket, as what is only seen or refused; and what answers none answers none
  pub all_unasked_times : (items : List Record) → All IsUnasked items → times_asked ticket items ≡ 0
  all_unasked_times items none =
      no_times (asks_under ticket) items
      (All-weaker IsUnasked (λ item. asks_under ticket item ≡ false) asks_none items none)

  pub quiet_asks : (items : List Record) → All IsQuiet items → times_asked ticket items ≡ 0
  quiet_asks items quiet =
      no_times (asks_under ticket) items
      (All-weaker IsQuiet (λ item. asks_under ticket item ≡ false) (λ item is. unasked item is.asked) items quiet)

  pub all_unanswered_times : (items : List Record) → All IsUnanswered items → times_answered ticket items ≡ 0
  all_unanswered_times items none =
      no_times (answers_under ticket) items
      (All-weaker IsUnanswered (λ item. answers_under ticket item ≡ false) unanswered items none)

  -- ---- what is said of a start first

  -- a lookup is asked for exactly if it starts
  pub announced_asks : (log : List Record) (step : Step) (name : List ℕ) (start : Start) → start_at log step ≡ Some (name, start)
      → times_asked ticket (announced log step) ≡ one_if (is_its_start ticket start)
  unfolding actor_of start_of_step announced asks_under
  announced_asks log (Find object asker) name start at =
      let is : StartFind (next_ticket log) object ≡ start = ap (start_in (StartFind (next_ticket log) object)) at in
      one_time (asks_under ticket) (Asked (next_ticket log) object asker) ∙ ap (λ one. one_if (is_its_start ticket one)) is
  announced_asks log (Join newcomer via) name start at =
      ap (λ one. one_if (is_its_start ticket one)) (ap (start_in (StartJoin via)) at)
  announced_asks log (Depart node) name start at =
      ap (λ one. one_if (is_its_start ticket one)) (ap (start_in StartLeave) at)
  announced_asks log (Publish object server) name start at =
      ap (λ one. one_if (is_its_start ticket one)) (ap (start_in (StartPublish object)) at)
  announced_asks log (Withdraw object server) name start at =
      ap (λ one. one_if (is_its_start ticket one)) (ap (start_in (StartWithdraw object)) at)
  announced_asks log (Abandon node) name start at =
      ap (λ one. one_if (is_its_start ticket one)) (ap (start_in StartAbandon) at)
  announced_asks log (Cast word prefix asker) name start at =
      ap (λ one. one_if (is_its_start ticket one)) (ap (start_in (StartCast (next_cast log) (length prefix) word)) at)
  announced_asks log step name start at = absurd (cc)
