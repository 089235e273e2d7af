-- What the records of one more group answer.
use Rattle.std.proofs.Common.{◌≡◌, ℕ, ◌+◌, Bool, true, false, List, [], ◌∷◌, ◌++◌, All, Option, None, Some, refl, ap, sym, subst, ◌∙◌, append-nil, append_assoc}
use Rattle.std.specs.Prelude.{◌||◌}
use Rattle.std.specs.Option.{option_map}
use Rattle.std.proofs.lemmas.List.Elements.{All-append, All-cons, All-head, All-nil, All-tail, All-weaker}
use Rattle.std.proofs.lemmas.List.Folds.{list_any-append}
use Rattle.tap_name.specs.Settings.{SettingsValue}
use Rattle.tap_wire.specs.declared.frame.Frame.{Frame}
use Rattle.tap_log.specs.Counts.{sent_count}
use Rattle.tap_log.specs.declared.record.Record.{Record}
use Rattle.tap_log.specs.declared.record.Record.TheVariants.{Answered}
use Rattle.tap_rule.specs.Act.{act}
use Rattle.tap_rule.specs.Event.{Acted, Event, News}
use Rattle.tap_rule.specs.Event.Event.{Takes}
use Rattle.tap_rule.specs.Event.News.{Answered as AnsweredNews, Cast as CastNews, Core as CoreNews, Gone as GoneNews, Nothing}
use Rattle.tap_rule.specs.Node.{NodeState}
use Rattle.tap_safety.specs.System.{System}
use Rattle.tap_runs.specs.Acts.{acted_records, if_so, news_after, news_before, sent_records}
use Rattle.tap_runs.specs.Group.{received_records, records_of_act}
use Rattle.tap_pointer_runs.specs.Paths.{was_published}
use Rattle.tap_pointer_runs.proofs.ServersGrow.{was_grows}
use Rattle.tap_pointer_moves.specs.LookupAnswers.{IsAnswerOf, LookupsAreOf, news_of_frame}
use Rattle.tap_pointer_runs.specs.LookupAnswers.{asks_for, was_asked}
use Rattle.tap_pointer_runs.proofs.Unanswered.{IsUnanswered, one_unanswered}

-- ---- a log that grows

pub asked_grows : (log more : List Record) (ticket : ℕ) (object : List ℕ) → was_asked log ticket object ≡ true
    → was_asked (log ++ more) ticket object ≡ true
asked_grows log more ticket object is =
    list_any-append (λ item. asks_for item ticket object) log more ∙ ap (λ b. b || was_asked more ticket object) is

answer_grows : (log more : List Record) (ticket : ℕ) (server : Option (List ℕ))
    → IsAnswerOf (was_asked log) (was_published log) ticket server
    → IsAnswerOf (was_asked (log ++ more)) (was_published (log ++ more)) ticket server
answer_grows log more ticket server of = record {
  object = of.object;
  asks = asked_grows log more ticket of.object of.asks;
  served = λ name is. was_grows log more _ (of.served name is);
}

pub lookups_grow : (log more : List Record) (s : System) → LookupsAreOf (was_asked log) (was_published log) s
    → LookupsAreOf (was_asked (log ++ more)) (was_published (log ++ more)) s
lookups_grow log more s are = record {
  finds = λ from to ticket object asker level way.
      asked_grows log more ticket object (are.finds from to ticket object asker level way);
  answers = λ from to ticket server way. answer_grows log more ticket server (are.answers from to ticket server way);
}

-- ---- answers

-- the record, if it is an answer, is one that the log before it bears out
abbrev pub AnswerHolds : List Record → Record → Type 0
AnswerHolds before (Answered ticket server) = IsAnswerOf (was_asked before) (was_published before) ticket server
AnswerHolds before other = Unit {0}

abbrev pub EachHolds : List Record → List Record → Type 0
EachHolds before [] = Unit {0}
EachHolds before (item ∷ items) = AnswerHolds before item × EachHolds (before ++ item ∷ []) items

holds_grows : (log more : List Record) (item : Record) → AnswerHolds log item → AnswerHolds (log ++ more) item
holds_grows log more (Answered ticket server) holds = answer_grows log more ticket server holds
holds_grows log more _ holds = tt

pub unanswered_holds : (log : List Record) (item : Record) → IsUnanswered item → AnswerHolds log item
unanswered_holds log (Answered ticket server) none = absurd none
unanswered_holds log _ none = tt

pub all_unanswered : (log items : List Record) → All IsUnanswered items → All (AnswerHolds log) items
all_unanswered log items none = All-weaker IsUnanswered (AnswerHolds log) (λ item is. unanswered_holds log item is) items none

-- what a log bears out it does also with more
pub each_all : (log items : List Record) → All (AnswerHolds log) items → EachHolds log items
each_all log [] all = tt
each_all log (item ∷ items) all = (
  All-head (AnswerHolds log) item items all,
  each_all (log ++ item ∷ []) items
      (All-weaker (AnswerHolds log) (AnswerHolds (log ++ item ∷ [])) (λ other holds. holds_grows log (item ∷ []) other holds) items
      (All-tail (AnswerHolds log) item items all)),
)

pub each_append : (log xs ys : List Record) → EachHolds log xs → EachHolds (log ++ xs) ys → EachHolds log (xs ++ ys)
each_append log [] ys first second = subst (λ l. EachHolds l ys) (append-nil log) second
each_append log (x ∷ xs) ys first second =
    (first.0, each_append (log ++ x ∷ []) xs ys first.1 (subst (λ l. EachHolds l ys) (sym (append_assoc log (x ∷ []) xs)) second))

-- so it is of each answer of a log
pub each_split : (start log before after : List Record) (ticket : ℕ) (server : Option (List ℕ)) → EachHolds start log
    → log ≡ before ++ Answered ticket server ∷ after → IsAnswerOf (was_asked (start ++ before)) (was_published (start ++ before)) ticket server
each_split start [] [] after ticket server each is = absurd (cc)
each_split start [] (item ∷ before) after ticket server each is = absurd (cc)
each_split start (first ∷ log) [] after ticket server each is =
    let here : first ≡ Answered ticket server = cc in
    let holds : AnswerHolds start (Answered ticket server) = subst (AnswerHolds start) here each.0 in
    subst (λ l. IsAnswerOf (was_asked l) (was_published l) ticket server) (sym (append-nil start)) holds
each_split start (first ∷ log) (item ∷ before) after ticket server each is =
    let here : first ≡ item = cc in
    let rest : log ≡ before ++ Answered ticket server ∷ after = cc in
    let there = each_split (start ++ first ∷ []) log before after ticket server each.1 rest in
    let same : (start ++ first ∷ []) ++ before ≡ start ++ item ∷ before = append_assoc start (first ∷ []) before ∙ ap (λ i. start ++ i ∷ before) here in
    subst (λ l. IsAnswerOf (was_asked l) (was_published l) ticket server) same there

-- ---- what a node does

so_unanswered : (there : Bool) (item : Record) → IsUnanswered item → All IsUnanswered (if_so there item)
so_unanswered true item is = All-cons IsUnanswered item [] is (All-nil IsUnanswered)
so_unanswered false item is = All-nil IsUnanswered

module _ (Holds : Record → Type 0) (free : (item : Record) → IsUnanswered item → Holds item) where
  free_all : (items : List Record) → All IsUnanswered items → All Holds items
  free_all items none = All-weaker IsUnanswered Holds (λ item is. free item is) items none

  before_free : (name : List ℕ) (news : News) → All IsUnanswered (news_before name news)
  unfolding news_before
  before_free name Nothing = All-nil IsUnanswered
  before_free name CoreNews = one_unanswered _ tt
  before_free name GoneNews = one_unanswered _ tt
  before_free name (AnsweredNews ticket server) = All-nil IsUnanswered
  before_free name (CastNews cast reached closed) = so_unanswered reached _ tt

  sent_free : (p : SettingsValue) (number : ℕ) (frames : List Frame) → All IsUnanswered (sent_records p number frames)
  sent_free p number [] = All-nil IsUnanswered
  sent_free p number (frame ∷ frames) = All-cons IsUnanswered _ (sent_records p (number + 1) frames) tt (sent_free p (number + 1) frames)

  after_all : (news : News) → ((ticket : ℕ) (server : Option (List ℕ)) → news ≡ AnsweredNews ticket server → Holds (Answered ticket server))
      → All Holds (news_after news)
  unfolding news_after
  after_all Nothing known = All-nil Holds
  after_all CoreNews known = All-nil Holds
  after_all GoneNews known = All-nil Holds
  after_all (AnsweredNews ticket server) known = All-cons Holds _ [] (known ticket server refl) (All-nil Holds)
  after_all (CastNews cast reached closed) known = free_all _ (so_unanswered closed _ tt)

  -- what holds of each record but answers, and of the answer that is noted, holds of each record of what a node does
  pub acted_all : (p : SettingsValue) (number : ℕ) (name : List ℕ) (acted : Acted)
      → ((ticket : ℕ) (server : Option (List ℕ)) → acted.news ≡ AnsweredNews ticket server → Holds (Answered ticket server))
      → All Holds (acted_records p number name acted)
  acted_all p number name acted known =
      All-append Holds (news_before name acted.news) (sent_records p number acted.sent ++ news_after acted.news)
      (free_all _ (before_free name acted.news))
      (All-append Holds (sent_records p number acted.sent) (news_after acted.news) (free_all _ (sent_free p number acted.sent))
      (after_all acted.news known))

pub acted_unanswered : (p : SettingsValue) (number : ℕ) (name : List ℕ) (acted : Acted)
    → ((ticket : ℕ) (server : Option (List ℕ)) → acted.news ≡ AnsweredNews ticket server → ⊥)
    → All IsUnanswered (acted_records p number name acted)
acted_unanswered p number name acted never = acted_all IsUnanswered (λ item is. is) p number name acted never

-- so it is of each record of what a node does at an event, and as it takes a frame
module _ (Holds : Record → Type 0) (free : (item : Record) → IsUnanswered item → Holds item) (p : SettingsValue) (log : List Record) where
  pub act_all : (name : List ℕ) (node : Option NodeState) (event : Event)
      → ((ticket : ℕ) (server : Option (List ℕ)) → option_map (λ one. (act one event).news) node ≡ Some (AnsweredNews ticket server)
      → Holds (Answered ticket server))
      → All Holds (records_of_act p log name node event)
  act_all name None event known = All-nil Holds
  act_all name (Some node) event known =
      acted_all Holds free p (sent_count log) name (act node event) (λ ticket server is. known ticket server (ap Some is))

  pub receive_all : (s : System) (frame : Option Frame)
      → ((ticket : ℕ) (server : Option (List ℕ)) → news_of_frame s frame ≡ Some (AnsweredNews ticket server) → Holds (Answered ticket server))
      → All Holds (received_records p log s frame)
  receive_all s None known = All-nil Holds
  receive_all s (Some frame) known = act_all frame.to (s.node frame.to) (Takes frame) known
