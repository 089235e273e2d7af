-- What comes of a step of a node, and which frames it has taken then.
use Rattle.std.proofs.Common.{◌≡◌, ℕ, ◌+◌, Bool, true, false, not, ◌&&◌, ◌||◌, cond, List, [], ◌∷◌, ◌++◌, length, Result, Ok, Err, refl, sym, ap, subst, ◌∙◌, append_assoc}
use Rattle.std.specs.Prelude.{◌≢◌, IfOk, nat_le}
use Rattle.tap_name.specs.Settings.{SettingsValue}
use Rattle.tap_wire.specs.declared.fault.HeadFault.{HeadFault}
use Rattle.tap_wire.specs.declared.frame.Head.{Head}
use Rattle.tap_wire.specs.Reading.{frame_of, head_of}
use Rattle.tap_node.specs.declared.fault.NodeFault.{NodeFault}
use Rattle.tap_node.specs.declared.turn.Turn.{Turn}
use Rattle.tap_node.specs.declared.fault.NodeFault.TheVariants.{Ended, NoMemory, NotMine, Strange}
use Rattle.tap_node.specs.Node.{NodeValue, has_room_left, node_status, running}
use Rattle.tap_node.specs.Outcome.{AnswersAs, Outcome, acted_as, at_frame, at_read, refused_by, start_outcome, take_outcome}
use Rattle.tap_rule.specs.Act.{act}
use Rattle.tap_rule.specs.Event.Event.{Takes}
use Rattle.tap_rule.specs.Strange.{is_own_name, is_strange}
use Rattle.tap_wire.specs.declared.fault.WireFault.{WireFault}
use Rattle.tap_wire.specs.declared.frame.Frame.{Frame}
use Rattle.tap_rule.specs.Node.{member_at_rest, name_of, settings_of}
use Rattle.tap_name.specs.Name.{Name}
use Rattle.tap_name.specs.Names.{has_name}
use Rattle.tap_host_line.specs.declared.line.Start.{Start as StartLine}
use Rattle.tap_host_line.specs.declared.why.Why.{Why}
use Rattle.tap_host_line.specs.declared.why.Why.TheVariants as why
use Rattle.tap_carry.specs.Names.{is_same}
use Rattle.tap_carry.specs.Outbox.{most_frames}
use Rattle.tap_host_line.specs.Texts.{text_of_ack, text_of_begun, text_of_news, text_of_packet}
use Rattle.tap_host.specs.declared.host.Going.{Going}
use Rattle.tap_host.specs.declared.host.Going.TheVariants.{On}
use Rattle.std.proofs.lemmas.Result.{IfOk-weaker}
use Rattle.tap_host.specs.Host.{HostSeen, Stepped, TakesStep, after_node_answer, after_step, at_members, at_number, at_start, full, host_goes_on, host_seen, host_settings, refused, turned, why_of, with_frame_taken, with_node}
use Rattle.tap_host.specs.Actor.{ActorValue, below_after, has_start, is_new, start_of}
use Rattle.tap_host.specs.Intake.{IntakeValue, has_taken}
use Rattle.tap_host.specs.Mail.{MailSeen, MailValue, mail_seen, mail_sent, posts, posts_by}
use Rattle.tap_host.proofs.Ways.{one_pair, pair-itself}

-- ---- what was taken

or_nothing : (b : Bool) → (b || false) ≡ b
or_nothing true = refl
or_nothing false = refl

module _ (was : Name → ℕ → Bool) (new : IntakeValue) (from : List ℕ) (seq : ℕ)
    (enters : (x : List ℕ) (k : ℕ) → has_taken new x k ≡ (was x k || is_same from seq x k)) where
  pub taken_now : has_taken new ≡ (λ x k. was x k || is_same from seq x k)
  taken_now = λ i x k. enters x k i

  pub there : has_taken new from seq ≡ true
  there = enters from seq ∙ by (was from seq)
    where
      by : (b : Bool) → (b || is_same from seq from seq) ≡ true
      by true = refl
      by false = pair-itself from seq

  -- a number that was taken before
  pub taken_again : was from seq ≡ true → has_taken new ≡ was
  taken_again before = λ i x k. (enters x k ∙ by x k (is_same from seq x k) refl) i
    where
      by : (x : List ℕ) (k : ℕ) (same : Bool) → is_same from seq x k ≡ same → (was x k || same) ≡ was x k
      by x k false is = or_nothing (was x k)
      by x k true is =
          let one = one_pair from seq x k is in
          let known : was x k ≡ true = subst (λ n. was x n ≡ true) one.1 (subst (λ y. was y seq ≡ true) one.0 before) in
          ap (λ b. b || true) known ∙ sym known

  -- one that is given back
  pub taken_back : (back : IntakeValue) → was from seq ≡ false
      → ((x : List ℕ) (k : ℕ) → has_taken back x k ≡ (has_taken new x k && not (is_same from seq x k))) → has_taken back ≡ was
  taken_back back before gives = λ i x k. (gives x k ∙ ap (λ b. b && not (is_same from seq x k)) (enters x k) ∙ by x k (is_same from seq x k) refl) i
    where
      plain : (b : Bool) → ((b || false) && true) ≡ b
      plain true = refl
      plain false = refl

      none : (b : Bool) → ((b || true) && false) ≡ false
      none true = refl
      none false = refl

      by : (x : List ℕ) (k : ℕ) (same : Bool) → is_same from seq x k ≡ same → ((was x k || same) && not same) ≡ was x k
      by x k false is = plain (was x k)
      by x k true is =
          let one = one_pair from seq x k is in
          let unknown : was x k ≡ false = subst (λ n. was x n ≡ false) one.1 (subst (λ y. was y seq ≡ false) one.0 before) in
          none (was x k) ∙ sym unknown

-- ---- what is sent

-- a text before what is posted stays before it
pub posts_after : (p : SettingsValue) (mail : MailSeen) (front text : List ℕ) (frames : List (List ℕ))
    → posts p (mail, front ++ text) frames ≡ ((posts p (mail, text) frames).0, front ++ (posts p (mail, text) frames).1)
posts_after p mail front text [] = refl
posts_after p mail front text (frame ∷ frames) = by (head_of p frame) (λ mail' text'. posts_after p mail' front text' frames)
  where
    After : MailSeen → List ℕ → Type 0
    After mail' text' = posts p (mail', front ++ text') frames ≡ ((posts p (mail', text') frames).0, front ++ (posts p (mail', text') frames).1)

    by : (head : Result Head HeadFault) → ((mail' : MailSeen) (text' : List ℕ) → After mail' text')
        → posts p (posts_by (mail, front ++ text) frame head) frames
        ≡ ((posts p (posts_by (mail, text) frame head) frames).0, front ++ (posts p (posts_by (mail, text) frame head) frames).1)
    by (Err fault) others = others mail text
    by (Ok head) others =
        ap (λ t. posts p (mail_sent mail head.to frame, t) frames) (append_assoc front text (text_of_packet head.to (mail.last head.to + 1) frame))
        ∙ others (mail_sent mail head.to frame) (text ++ text_of_packet head.to (mail.last head.to + 1) frame)

-- what a turn prints after a text, is it and then what the turn prints
pub turned_after : (host now : HostSeen) (turn : Turn) (before front between after : List ℕ) (going : Going) → between ≡ before ++ front
    → TakesStep (turned host turn between) now [] after going → TakesStep (turned host turn front) now before after going
turned_after host now turn before front between after going is takes =
    let p = host_settings host in
    let news = text_of_news turn.news in
    let same : posts p (host.mail, between ++ news) turn.sent
    ≡ ((posts p (host.mail, front ++ news) turn.sent).0, before ++ (posts p (host.mail, front ++ news) turn.sent).1) =
    ap (λ t. posts p (host.mail, t ++ news) turn.sent) is
    ∙ ap (λ t. posts p (host.mail, t) turn.sent) (append_assoc before front news)
    ∙ posts_after p host.mail before (front ++ news) turn.sent in
    record {
      text = takes.text ∙ ap (λ (so_far : MailSeen × List ℕ). so_far.1) same;
      going = takes.going;
      host = λ on. takes.host on ∙ ap (λ (so_far : MailSeen × List ℕ). record host { mail = so_far.0; begun = true }) same;
    }

-- ---- what comes of an answer

pub after_turn : (before host : HostSeen) (number : ℕ) (front : List ℕ) (outcome : Outcome) (node : NodeValue) (turn : Turn)
    → outcome.answer ≡ Ok turn → outcome.node ≡ node → nat_le (host.mail.sent + length turn.sent) most_frames ≡ true
    → after_step before host number front outcome ≡ turned (with_node host node turn) turn front
after_turn before host number front outcome node turn answer is room =
    ap (λ a. after_node_answer before host number front outcome.node a) answer
    ∙ ap (λ n. after_node_answer before host number front n (Ok turn)) is
    ∙ ap (λ b. cond b (turned (with_node host node turn) turn front) (full before number)) room

pub after_full : (before host : HostSeen) (number : ℕ) (front : List ℕ) (outcome : Outcome) (turn : Turn)
    → outcome.answer ≡ Ok turn → nat_le (host.mail.sent + length turn.sent) most_frames ≡ false
    → after_step before host number front outcome ≡ full before number
after_full before host number front outcome turn answer room =
    ap (λ a. after_node_answer before host number front outcome.node a) answer
    ∙ ap (λ b. cond b (turned (with_node host outcome.node turn) turn front) (full before number)) room

pub after_fault : (before host : HostSeen) (number : ℕ) (front : List ℕ) (outcome : Outcome) (fault : NodeFault)
    → outcome.answer ≡ Err fault → after_step before host number front outcome ≡ refused before number (why_of fault)
after_fault before host number front outcome fault answer = ap (λ a. after_node_answer before host number front outcome.node a) answer

-- a turn, or a fault that isn't want of memory, is the answer of the outcome
pub turn_answer : (outcome : Outcome) (before after : NodeValue) (given : Result Turn NodeFault) (turn : Turn)
    → AnswersAs outcome before given after → given ≡ Ok turn → (outcome.answer ≡ Ok turn) × (outcome.node ≡ after)
turn_answer outcome before after given turn answers is =
    let other : given ≢ Err NoMemory = λ e. let bad : Ok turn ≡ Err NoMemory = sym is ∙ e in cc in
    (sym (answers.answer other) ∙ is, sym (answers.node other))

abbrev fault_in : Result Turn NodeFault → NodeFault
fault_in (Ok turn) = NoMemory
fault_in (Err cause) = cause

pub fault_answer : (outcome : Outcome) (before after : NodeValue) (given : Result Turn NodeFault) (fault : NodeFault)
    → AnswersAs outcome before given after → given ≡ Err fault → fault ≢ NoMemory → (outcome.answer ≡ Err fault) × (after ≡ outcome.node)
fault_answer outcome before after given fault answers is some =
    let other : given ≢ Err NoMemory = λ e. some (ap fault_in (sym is ∙ e)) in
    (sym (answers.answer other) ∙ is, answers.node other)

-- a node that refuses is as it was
abbrev pub IsSame : NodeValue → NodeFault → Outcome → Type 0
IsSame node fault outcome = outcome.answer ≡ Err fault → outcome.node ≡ node

same_frame : (node : NodeValue) (fault : NodeFault) (frame : Frame) → IsSame node fault (at_frame node frame)
same_frame node fault frame = by (is_own_name node.state frame.to) (is_strange node.state frame)
  where
    by : (own strange : Bool) → IsSame node fault (cond own
        (cond strange (refused_by node Strange) (acted_as node.state (act node.state (Takes frame)))) (refused_by node (NotMine frame.to)))
    by true true = λ e. refl
    by true false = λ e. absurd (cc)
    by false strange = λ e. refl

same_read : (node : NodeValue) (fault : NodeFault) (read : Result Frame WireFault) → IsSame node fault (at_read node read)
same_read node fault (Ok frame) = same_frame node fault frame
same_read node fault (Err cause) = λ e. refl

pub same_taken : (node : NodeValue) (fault : NodeFault) (bytes : List ℕ) → IsSame node fault (take_outcome node bytes)
same_taken node fault bytes = by node.ended
  where
    by : (ended : Bool) → IsSame node fault (cond ended (refused_by node Ended) (at_read node (frame_of (settings_of node.state) bytes)))
    by true = λ e. refl
    by false = same_read node fault (frame_of (settings_of node.state) bytes)

-- ---- what is taken

module _ {E : Type 0} (answer : Result Going E) (step : Stepped) (now : HostSeen) (before after : List ℕ) where
  pub refuses_as : (h : HostSeen) (number : ℕ) (because : Why) → step ≡ refused h number because → now ≡ h
      → IfOk answer (λ going. (host : HostSeen) → TakesStep (refused host number because) host before after going)
      → IfOk answer (TakesStep step now before after)
  refuses_as h number because is same given =
      IfOk-weaker answer (λ going. (host : HostSeen) → TakesStep (refused host number because) host before after going)
      (TakesStep step now before after)
      (λ going takes. subst (λ s. TakesStep s now before after going) (sym is)
      (subst (λ n. TakesStep (refused h number because) n before after going) (sym same) (takes h))) given

  pub fills_as : (h : HostSeen) (number : ℕ) → step ≡ full h number
      → IfOk answer (λ going. (before' host : HostSeen) → TakesStep (full before' number) host before after going)
      → IfOk answer (TakesStep step now before after)
  fills_as h number is given =
      IfOk-weaker answer (λ going. (before' host : HostSeen) → TakesStep (full before' number) host before after going)
      (TakesStep step now before after)
      (λ going takes. subst (λ s. TakesStep s now before after going) (sym is) (takes h now)) given

  pub turns_as : (host host' : HostSeen) (turn : Turn) (front between : List ℕ) → step ≡ turned host' turn front → host ≡ host'
      → between ≡ before ++ front → IfOk answer (TakesStep (turned host turn between) now [] after) → IfOk answer (TakesStep step now before after)
  turns_as host host' turn front between is same texts given =
      IfOk-weaker answer (TakesStep (turned host turn between) now [] after) (TakesStep step now before after)
      (λ going takes. subst (λ s. TakesStep s now before after going) (sym is)
      (turned_after host' now turn before front between after going texts
      (subst (λ h. TakesStep (turned h turn between) now [] after going) same takes))) given

-- a step that is that of a frame whose number was entered
pub entered_as : {E : Type 0} (answer : Result Going E) (h entered : HostSeen) (step : Stepped) (now : HostSeen) (number : ℕ) (from : List ℕ) (seq : ℕ)
    (front : List ℕ) (outcome : Outcome) (before after : List ℕ) → step ≡ after_step h (with_frame_taken h from seq) number front outcome
    → entered ≡ with_frame_taken h from seq → IfOk answer (TakesStep (after_step h entered number front outcome) now before after)
    → IfOk answer (TakesStep step now before after)
entered_as answer h entered step now number from seq front outcome before after is same given =
    subst (λ s. IfOk answer (TakesStep s now before after)) (ap (λ x. after_step h x number front outcome) same ∙ sym is) given

pub goes_as : (step : Stepped) (now : HostSeen) (before after : List ℕ) (host : HostSeen) (text : List ℕ) → step ≡ host_goes_on host text → now ≡ host
    → after ≡ before ++ text → TakesStep step now before after On
goes_as step now before after host text is same texts =
    subst (λ s. TakesStep s now before after On) (sym is) (record { text = texts; going = refl; host = λ _. same })

-- ---- by the kind of a line

module _ (a : ActorValue) (m : MailValue) (i : IntakeValue) (begun : Bool) where
  abbrev pub seen_host : HostSeen
  seen_host = host_seen (record { actor = a; mail = m; intake = i; begun = begun })

  -- a packet
  module _ (number : ℕ) (from : List ℕ) (seq : ℕ) (frame : List ℕ) where
    abbrev pub stepped : Stepped
    stepped = after_step seen_host (with_frame_taken seen_host from seq) number (text_of_ack from seq) (take_outcome a.node frame)

    abbrev unless_taken : Bool → Bool → Stepped
    unless_taken taken room =
        cond taken (host_goes_on seen_host (text_of_ack from seq)) (cond (not room) (full seen_host number) stepped)

    pub number_again : has_taken i from seq ≡ true → at_number seen_host number from seq frame ≡ host_goes_on seen_host (text_of_ack from seq)
    number_again taken = ap (λ b. unless_taken b (has_room_left a.node)) taken

    pub number_full : has_taken i from seq ≡ false → has_room_left a.node ≡ false → at_number seen_host number from seq frame ≡ full seen_host number
    number_full taken room = ap (λ b. unless_taken b (has_room_left a.node)) taken ∙ ap (λ r. unless_taken false r) room

    pub number_steps : has_taken i from seq ≡ false → has_room_left a.node ≡ true → at_number seen_host number from seq frame ≡ stepped
    number_steps taken room = ap (λ b. unless_taken b (has_room_left a.node)) taken ∙ ap (λ r. unless_taken false r) room

  -- members
  module _ (number : ℕ) (names : List (List ℕ)) where
    abbrev joined : Stepped
    joined = host_goes_on (record seen_host {
      actor = record { node = running (member_at_rest (settings_of a.node.state) names (name_of a.node.state)); casts_below = 0 };
      begun = true;
    }) text_of_begun

    abbrev unless_begun : Bool → Bool → Stepped
    unless_begun late named =
        cond late (refused seen_host number why.Late) (cond (not named) (refused seen_host number why.Stranger) joined)

    pub members_late : begun ≡ true → at_members seen_host number names ≡ refused seen_host number why.Late
    members_late late = ap (λ b. unless_begun b (has_name names (name_of a.node.state))) late

    pub members_strange : begun ≡ false → has_name names (name_of a.node.state) ≡ false
        → at_members seen_host number names ≡ refused seen_host number why.Stranger
    members_strange late named = ap (λ b. unless_begun b (has_name names (name_of a.node.state))) late ∙ ap (λ n. unless_begun false n) named

    pub members_join : begun ≡ false → has_name names (name_of a.node.state) ≡ true → at_members seen_host number names ≡ joined
    members_join late named = ap (λ b. unless_begun b (has_name names (name_of a.node.state))) late ∙ ap (λ n. unless_begun false n) named

  -- a start
  module _ (number : ℕ) (start : StartLine) where
    abbrev starting : Stepped
    starting = after_step seen_host seen_host number text_of_begun (start_outcome a.node (start_of start))

    abbrev unless_there : Bool → Bool → Bool → Stepped
    unless_there there new room =
        cond (not there) (refused seen_host number why.Status)
        (cond (not new) (refused seen_host number why.Number) (cond (not room) (full seen_host number) starting))

    pub start_none : has_start (node_status a.node) start ≡ false → at_start seen_host number start ≡ refused seen_host number why.Status
    start_none there = ap (λ b. unless_there b (is_new a.casts_below start) (has_room_left a.node)) there

    pub start_old : has_start (node_status a.node) start ≡ true → is_new a.casts_below start ≡ false
        → at_start seen_host number start ≡ refused seen_host number why.Number
    start_old there new =
        ap (λ b. unless_there b (is_new a.casts_below start) (has_room_left a.node)) there ∙ ap (λ n. unless_there true n (has_room_left a.node)) new

    pub start_full : has_start (node_status a.node) start ≡ true → is_new a.casts_below start ≡ true → has_room_left a.node ≡ false
        → at_start seen_host number start ≡ full seen_host number
    start_full there new room =
        ap (λ b. unless_there b (is_new a.casts_below start) (has_room_left a.node)) there
        ∙ ap (λ n. unless_there true n (has_room_left a.node)) new ∙ ap (λ r. unless_there true true r) room

    pub start_steps : has_start (node_status a.node) start ≡ true → is_new a.casts_below start ≡ true → has_room_left a.node ≡ true
        → at_start seen_host number start ≡ starting
    start_steps there new room =
        ap (λ b. unless_there b (is_new a.casts_below start) (has_room_left a.node)) there
        ∙ ap (λ n. unless_there true n (has_room_left a.node)) new ∙ ap (λ r. unless_there true true r) room

-- an actor that has acted, and what it has taken
pub acted_host : (a x : ActorValue) (m : MailValue) (i i' : IntakeValue) (begun : Bool) (taken : Name → ℕ → Bool) (turn : Turn)
    → x.casts_below ≡ below_after a.casts_below turn.news → has_taken i' ≡ taken
    → seen_host x m i' begun ≡ with_node (record (seen_host a m i begun) { taken = taken }) x.node turn
acted_host a x m i i' begun taken turn below same = λ j. record {
  actor = record { node = x.node; casts_below = below j };
  mail = mail_seen m;
  taken = same j;
  begun = begun;
}
