-- Each record by itself has its shape, but for some numbers, if a node does what it tells.
use Rattle.std.proofs.Common.{◌≡◌, ℕ, ◌+◌, Bool, true, false, List, [], ◌∷◌, ◌++◌, All, Option, None, Some, refl, sym, subst}
use Rattle.std.specs.Prelude.{IsOk}
use Rattle.std.proofs.lemmas.List.Elements.{All-append, All-cons, All-head, All-nil, All-tail}
use Rattle.tap_name.specs.Name.{IsName}
use Rattle.tap_name.specs.Settings.{AreWithinLimits, SettingsValue}
use Rattle.tap_wire.specs.declared.frame.Frame.{Frame}
use Rattle.tap_wire.specs.Spelling.{IsFrame, spelling}
use Rattle.tap_wire.proofs.Frames.{head_reads_back}
use Rattle.tap_log.specs.Counts.{sent_count}
use Rattle.tap_log.specs.declared.record.Record.{Record}
use Rattle.tap_log.specs.declared.record.Record.TheVariants.{Sent, Taken, Core, Gone, Answered, Reached, Closed}
use Rattle.tap_line.specs.Line.{IsSent}
use Rattle.tap_shape.specs.Shape.{IsShaped}
use Rattle.tap_rule.specs.Node.{NodeState}
use Rattle.tap_rule.specs.Event.{Acted, Event, News}
use Rattle.tap_rule.specs.Event.News.{Nothing, Core as IsCore, Gone as IsGone, Answered as IsAnswered, Cast as IsCast}
use Rattle.tap_rule.specs.Act.{act}
use Rattle.tap_runs.specs.Acts.{acted_records, if_so, news_after, news_before, sent_records}
use Rattle.tap_runs.specs.Group.{records_of_act}
use Rattle.tap_lawful_shapes.proofs.Bytes.{spelling_small}

-- The shape of a record, but for the numbers that only the whole log tells: those of frames, of answers, and of casts that go on. Those of packets
-- are looked at apart.
unfoldable pub IsNear : SettingsValue → Bool → Record → Type 0
IsNear p carried (Sent number bytes) = IsSent p bytes
IsNear p carried (Taken number) = Unit {0}
IsNear p carried (Answered ticket server) = Unit {0}
IsNear p carried (Reached cast name) = IsName p name
IsNear p carried (Closed cast) = Unit {0}
IsNear p carried other = IsShaped p carried other

abbrev pub AreNear : SettingsValue → Bool → List Record → Type 0
AreNear p carried items = All (IsNear p carried) items

module _ (p : SettingsValue) (c : Bool) where
  pub none_near : AreNear p c []
  none_near = All-nil (IsNear p c)

  pub one_near : (item : Record) → IsNear p c item → AreNear p c (item ∷ [])
  one_near item is = All-cons (IsNear p c) item [] is (All-nil (IsNear p c))

  pub more_near : (item : Record) (items : List Record) → IsNear p c item → AreNear p c items → AreNear p c (item ∷ items)
  more_near item items is all = All-cons (IsNear p c) item items is all

  pub both_near : (items others : List Record) → AreNear p c items → AreNear p c others → AreNear p c (items ++ others)
  both_near items others one other = All-append (IsNear p c) items others one other

  -- ---- what a node does

  module _ (limits : AreWithinLimits p) where
    frame_sent : (frame : Frame) → IsFrame p frame → IsSent p (spelling p frame)
    frame_sent frame is = record {
      each = spelling_small p limits frame is;
      head = subst IsOk (sym (head_reads_back p frame limits is)) refl;
    }

    sent_near : (number : ℕ) (frames : List Frame) → All (IsFrame p) frames → AreNear p c (sent_records p number frames)
    unfolding IsNear
    sent_near number [] spelled = none_near
    sent_near number (frame ∷ frames) spelled =
        more_near (Sent number (spelling p frame)) (sent_records p (number + 1) frames)
        (frame_sent frame (All-head (IsFrame p) frame frames spelled))
        (sent_near (number + 1) frames (All-tail (IsFrame p) frame frames spelled))

    so_near : (there : Bool) (item : Record) → IsNear p c item → AreNear p c (if_so there item)
    so_near true item is = one_near item is
    so_near false item is = none_near

    before_near : (name : List ℕ) (news : News) → IsName p name → AreNear p c (news_before name news)
    unfolding news_before IsNear IsShaped
    before_near name Nothing is = none_near
    before_near name IsCore is = one_near (Core name) is
    before_near name IsGone is = one_near (Gone name) is
    before_near name (IsAnswered ticket server) is = none_near
    before_near name (IsCast cast reached closed) is = so_near reached (Reached cast name) is

    after_near : (news : News) → AreNear p c (news_after news)
    unfolding news_after IsNear
    after_near Nothing = none_near
    after_near IsCore = none_near
    after_near IsGone = none_near
    after_near (IsAnswered ticket server) = one_near (Answered ticket server) tt
    after_near (IsCast cast reached closed) = so_near closed (Closed cast) tt

    acted_near : (number : ℕ) (name : List ℕ) (acted : Acted) → IsName p name → All (IsFrame p) acted.sent
        → AreNear p c (acted_records p number name acted)
    acted_near number name acted is spelled =
        both_near (news_before name acted.news) (sent_records p number acted.sent ++ news_after acted.news) (before_near name acted.news is)
        (both_near (sent_records p number acted.sent) (news_after acted.news) (sent_near number acted.sent spelled) (after_near acted.news))

    -- what the node there does at an event
    pub act_near : (before : List Record) (name : List ℕ) (node : Option NodeState) (event : Event)
        → ((n : NodeState) → node ≡ Some n → IsName p name × All (IsFrame p) (act n event).sent)
        → AreNear p c (records_of_act p before name node event)
    act_near before name None event is = none_near
    act_near before name (Some node) event is =
        let so = is node refl in acted_near (sent_count before) name (act node event) so.0 so.1
