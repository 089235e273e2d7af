-- How many steps, lookups and casts the records of a group are of: of each lookup and cast there is a step.
use Rattle.std.proofs.Common.{◌≡◌, ℕ, ◌+◌, ◌≤◌, Bool, true, false, List, [], ◌∷◌, ◌++◌, length, All, Option, None, Some, refl, ap, subst, ◌∙◌, arith}
use Rattle.std.specs.List.{filter_map}
use Rattle.std.proofs.lemmas.List.{length-append}
use Rattle.std.proofs.lemmas.List.Elements.{filter_map-append}
use Rattle.tap_name.specs.Settings.{SettingsValue}
use Rattle.tap_scenario.specs.declared.step.Step.{Step}
use Rattle.tap_scenario.specs.declared.step.Step.TheVariants.{Join, Depart, Publish, Withdraw, Find, Abandon, Cast}
use Rattle.tap_wire.specs.declared.frame.Frame.{Frame}
use Rattle.tap_wire.specs.Spelling.{spelling}
use Rattle.tap_log.specs.declared.record.Record.{Record}
use Rattle.tap_log.specs.declared.record.Record.TheVariants.{Step as StepRecord, Taken, Sent, Core, Gone, Answered, Reached, Closed}
use Rattle.tap_log.specs.Counts.{cast_count, sent_count}
use Rattle.tap_log.specs.Kinds.{asked_ticket, begun_cast, step_of}
use Rattle.tap_rule.specs.Node.{NodeState}
use Rattle.tap_rule.specs.Event.{Acted, Event, News, Start}
use Rattle.tap_rule.specs.Event.Event.{Takes}
use Rattle.tap_rule.specs.Event.News.{Nothing, Core as CoreNews, Gone as GoneNews, Answered as AnsweredNews, Cast as CastNews}
use Rattle.tap_rule.specs.Event.Start.{Join as StartJoin, Abandon as StartAbandon, Publish as StartPublish, Withdraw as StartWithdraw, Find as StartFind, Leave as StartLeave, Cast as StartCast}
use Rattle.tap_rule.specs.Act.{act}
use Rattle.tap_safety.specs.System.{System}
use Rattle.tap_runs.specs.Acts.{acted_records, if_so, news_after, news_before, sent_records}
use Rattle.tap_runs.specs.Group.{received_records, records_of_act, start_at}
use Rattle.tap_runs.specs.Starts.{announced, next_cast, next_ticket, start_of_step}
use Rattle.tap_runs.proofs.Frames.{none_of}
use Rattle.tap_runs.proofs.Nodes.{start_in}
use Rattle.tap_runs.proofs.Within.{IsQuiet}
use Rattle.tap_history.specs.StepAsks.{actor_of}
use Rattle.tap_readable.proofs.RangeRules.{StartsCastTo}

-- how many of these records tell so
abbrev pub told : {Y : Type 0} → (Record → Option Y) → List Record → ℕ
told h items = length (filter_map h items)

pub told_more : {Y : Type 0} (h : Record → Option Y) (log group : List Record) → told h (log ++ group) ≡ told h log + told h group
told_more h log group = ap length (filter_map-append h log group) ∙ length-append (filter_map h log) (filter_map h group)

-- ---- what a node does tells of no lookup that is asked, and of no cast that begins

-- what such records tell
record TellsNothing {Y : Type 0} (h : Record → Option Y) : Type 0 where
  core : (name : List ℕ) → h (Core name) ≡ None
  gone : (name : List ℕ) → h (Gone name) ≡ None
  reached : (cast : ℕ) (name : List ℕ) → h (Reached cast name) ≡ None
  sent : (number : ℕ) (bytes : List ℕ) → h (Sent number bytes) ≡ None
  answered : (ticket : ℕ) (server : Option (List ℕ)) → h (Answered ticket server) ≡ None
  closed : (cast : ℕ) → h (Closed cast) ≡ None

module _ {Y : Type 0} (h : Record → Option Y) (nothing : TellsNothing h) where
  one_told : (item : Record) → h item ≡ None → told h (item ∷ []) ≡ 0
  one_told item none = ap (λ one. told (λ i. one) (item ∷ [])) none

  if_told : (there : Bool) (item : Record) → h item ≡ None → told h (if_so there item) ≡ 0
  if_told true item none = one_told item none
  if_told false item none = refl

  before_told : (name : List ℕ) (news : News) → told h (news_before name news) ≡ 0
  unfolding news_before
  before_told name Nothing = refl
  before_told name CoreNews = one_told _ (nothing.core name)
  before_told name GoneNews = one_told _ (nothing.gone name)
  before_told name (AnsweredNews ticket server) = refl
  before_told name (CastNews cast reached closed) = if_told reached _ (nothing.reached cast name)

  after_told : (news : News) → told h (news_after news) ≡ 0
  unfolding news_after
  after_told Nothing = refl
  after_told CoreNews = refl
  after_told GoneNews = refl
  after_told (AnsweredNews ticket server) = one_told _ (nothing.answered ticket server)
  after_told (CastNews cast reached closed) = if_told closed _ (nothing.closed cast)

  sent_told : (p : SettingsValue) (number : ℕ) (frames : List Frame) → told h (sent_records p number frames) ≡ 0
  sent_told p number [] = refl
  sent_told p number (frame ∷ frames) =
      let item = Sent number (spelling p frame) in
      let all = told_more h (item ∷ []) (sent_records p (number + 1) frames) in
      let first = one_told item (nothing.sent number (spelling p frame)) in
      let rest = sent_told p (number + 1) frames in
      omega (arith, all, first, rest)

  acted_told : (p : SettingsValue) (number : ℕ) (name : List ℕ) (acted : Acted) → told h (acted_records p number name acted) ≡ 0
  acted_told p number name acted =
      let sent = sent_records p number acted.sent in
      let all = told_more h (news_before name acted.news) (sent ++ news_after acted.news) in
      let later = told_more h sent (news_after acted.news) in
      let before = before_told name acted.news in
      let between = sent_told p number acted.sent in
      let after = after_told acted.news in
      omega (arith, all, later, before, between, after)

  act_told : (p : SettingsValue) (log : List Record) (name : List ℕ) (node : Option NodeState) (event : Event)
      → told h (records_of_act p log name node event) ≡ 0
  act_told p log name None event = refl
  act_told p log name (Some node) event = acted_told p (sent_count log) name (act node event)

  received_told : (p : SettingsValue) (log : List Record) (s : System) (frame : Option Frame)
      → told h (received_records p log s frame) ≡ 0
  received_told p log s None = refl
  received_told p log s (Some frame) = act_told p log frame.to (s.node frame.to) (Takes frame)

asks_nothing : TellsNothing asked_ticket
unfolding asked_ticket
asks_nothing = record {
  core = λ name. refl;
  gone = λ name. refl;
  reached = λ cast name. refl;
  sent = λ number bytes. refl;
  answered = λ ticket server. refl;
  closed = λ cast. refl;
}

casts_nothing : TellsNothing begun_cast
unfolding begun_cast
casts_nothing = record {
  core = λ name. refl;
  gone = λ name. refl;
  reached = λ cast name. refl;
  sent = λ number bytes. refl;
  answered = λ ticket server. refl;
  closed = λ cast. refl;
}

-- ---- what is said of a start first

one_asked : (log : List Record) (step : Step) → told asked_ticket (announced log step) ≤ 1
unfolding announced asked_ticket
one_asked log (Publish object server) = omega arith
one_asked log (Withdraw object server) = omega arith
one_asked log (Find object asker) = omega arith
one_asked log (Abandon name) = omega arith
one_asked log (Cast word prefix asker) = omega arith
one_asked log step = omega arith

one_begun : (log : List Record) (step : Step) → told begun_cast (announced log step) ≤ 1
unfolding announced begun_cast
one_begun log (Publish object server) = omega arith
one_begun log (Withdraw object server) = omega arith
one_begun log (Find object asker) = omega arith
one_begun log (Abandon name) = omega arith
one_begun log (Cast word prefix asker) = omega arith
one_begun log step = omega arith

-- a cast that is started has the number of those that then have begun
module _ (log : List Record) (name : List ℕ) (start : Start) where
  same_start : (m : ℕ) (x : List ℕ) (first : Start) → ◌≡◌ {A = Option (List ℕ × Start)} (Some (x, first)) (Some (name, start))
      → StartsCastTo m first → StartsCastTo m start
  same_start m x first at up = subst (StartsCastTo m) (ap (start_in first) at) up

  pub numbered_start : (step : Step) → start_at log step ≡ Some (name, start)
      → StartsCastTo (cast_count log + told begun_cast (announced log step)) start
  unfolding actor_of start_of_step announced begun_cast
  numbered_start (Join newcomer via) at = same_start _ newcomer (StartJoin via) at tt
  numbered_start (Depart node) at = same_start _ node StartLeave at tt
  numbered_start (Publish object server) at = same_start _ server (StartPublish object) at tt
  numbered_start (Withdraw object server) at = same_start _ server (StartWithdraw object) at tt
  numbered_start (Find object asker) at = same_start _ asker (StartFind (next_ticket log) object) at tt
  numbered_start (Abandon node) at = same_start _ node StartAbandon at tt
  numbered_start (Cast word prefix asker) at =
      same_start _ asker (StartCast (next_cast log) (length prefix) word) at (omega arith)
  numbered_start step at = absurd (cc)

-- ---- groups

-- the records of a group that is a step's
module _ (index : ℕ) (step : Step) (items : List Record) where
  pub one_step : 1 ≤ told step_of (StepRecord index step ∷ items)
  one_step = omega arith

  pub step_asked : told asked_ticket (StepRecord index step ∷ items) ≡ told asked_ticket items
  unfolding asked_ticket
  step_asked = refl

  pub step_begun : told begun_cast (StepRecord index step ∷ items) ≡ told begun_cast items
  unfolding begun_cast
  step_begun = refl

-- what stands after a step that only sees something or is refused
module _ (items : List Record) (quiet : All IsQuiet items) where
  pub quiet_asked : told asked_ticket items ≡ 0
  quiet_asked = ap length (none_of asked_ticket items (λ k d within. (quiet k d within).asked))

  pub quiet_begun : told begun_cast items ≡ 0
  quiet_begun = ap length (none_of begun_cast items (λ k d within. (quiet k d within).cast))

-- what stands after one that starts something
module _ (p : SettingsValue) (log : List Record) (step : Step) (name : List ℕ) (node : Option NodeState) (event : Event) where
  abbrev pub started : List Record
  started = announced log step ++ records_of_act p log name node event

  pub started_asked : told asked_ticket started ≤ 1
  started_asked =
      let all = told_more asked_ticket (announced log step) (records_of_act p log name node event) in
      let first = one_asked log step in
      let none = act_told asked_ticket asks_nothing p log name node event in
      omega (arith, all, first, none)

  pub started_begun : told begun_cast started ≡ told begun_cast (announced log step)
  started_begun =
      let all = told_more begun_cast (announced log step) (records_of_act p log name node event) in
      let none = act_told begun_cast casts_nothing p log name node event in
      omega (arith, all, none)

  pub started_one : told begun_cast started ≤ 1
  started_one = let same = started_begun in let first = one_begun log step in omega (arith, same, first)

-- the records of a group of a frame that is taken
module _ (p : SettingsValue) (log : List Record) (s : System) (number : ℕ) (frame : Option Frame) where
  pub taken_asked : told asked_ticket (Taken number ∷ received_records p log s frame) ≡ 0
  unfolding asked_ticket
  taken_asked = received_told asked_ticket asks_nothing p log s frame

  pub taken_begun : told begun_cast (Taken number ∷ received_records p log s frame) ≡ 0
  unfolding begun_cast
  taken_begun = received_told begun_cast casts_nothing p log s frame
