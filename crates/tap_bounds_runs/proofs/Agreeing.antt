-- The frames that the moves of a run have sent and taken are those of its log.
use Rattle.std.proofs.Common.{◌≡◌, inl, inr, ℕ, suc, ◌+◌, Bool, true, false, List, [], ◌∷◌, ◌++◌, map, length, get_or, All, Option, None, Some, refl, ap, sym, subst, ◌∙◌, append-nil}
use Rattle.std.specs.List.{filter_map}
use Rattle.std.proofs.lemmas.List.{length-map, map-append}
use Rattle.std.proofs.lemmas.List.Elements.{All-head, All-tail, filter_map-append}
use Rattle.tap_name.specs.Settings.{SettingsValue}
use Rattle.tap_scenario.specs.declared.step.Step.{Step}
use Rattle.tap_scenario.specs.declared.step.Step.TheVariants.{Abandon, Cast, Find, Publish, Withdraw}
use Rattle.tap_wire.specs.declared.frame.Frame.{Frame}
use Rattle.tap_wire.specs.Spelling.{spelling}
use Rattle.tap_log.specs.Counts.{sent_count}
use Rattle.tap_log.specs.Frames.{bytes_of}
use Rattle.tap_log.specs.Kinds.{begins_group, sent_number, taken_number}
use Rattle.tap_log.specs.MoreRecords.{at_most_one, first_of_both}
use Rattle.tap_log.specs.declared.record.Record.{Record}
use Rattle.tap_log.specs.declared.record.Record.TheVariants.{Sent, Step as StepRecord, Taken}
use Rattle.tap_log.proofs.MoreRecords.{bytes_of-append}
use Rattle.tap_history.specs.Groups.{is_ended}
use Rattle.tap_rule.specs.Act.{act}
use Rattle.tap_rule.specs.Event.{Acted, News, Start}
use Rattle.tap_rule.specs.Event.Event.{Starts, Takes}
use Rattle.tap_rule.specs.Event.News.{Answered as AnsweredNews, Cast as CastNews, Core as CoreNews, Gone as GoneNews, Nothing}
use Rattle.tap_rule.specs.Node.{NodeState}
use Rattle.tap_safety.specs.Move.{MayArrive, Move, may_move}
use Rattle.tap_safety.specs.Move.Move.{Delivers}
use Rattle.tap_safety.specs.Moved.{numbered_frame, starter}
use Rattle.tap_safety.specs.System.{AmongFrames, System}
use Rattle.tap_safety.proofs.Moved.{found}
use Rattle.tap_runs.specs.Acts.{acted_records, if_so, news_after, news_before, sent_records}
use Rattle.tap_runs.specs.Beginning.{Beginning, begin_record}
use Rattle.tap_runs.specs.Course.{Follows, IsCourse, MayFollow, move_of_group, system_of}
use Rattle.tap_runs.specs.Group.{received_records, records_of_act}
use Rattle.tap_runs.specs.CourseLaws.{HasBytes}
use Rattle.tap_runs.specs.Named.{HaveNames}
use Rattle.tap_runs.specs.Starts.{announced}
use Rattle.tap_runs.proofs.Frames.{course_frames_holds, none_of, starting_moves, step_moves, taken_moves}
use Rattle.tap_runs.proofs.CourseGrows.{by_groups, grown}
use Rattle.tap_runs.proofs.Within.{IsIdle, IsStarting, Within, step_kind, step_within, taken_within}
use Rattle.tap_safe_runs.specs.Safe.{IsRun}
use Rattle.tap_safe_runs.proofs.Possible.{group_may_move}
use Rattle.tap_safe_runs.proofs.Safe.{run_begins, runs_are_sound, steps_after, steps_before}
use Rattle.tap_bounds.specs.FewSent.{traffic_of}
use Rattle.tap_bounds.specs.Traffic.{Traffic, frames_taken_by, no_traffic, one_or_none, sent_at_delivery, sent_at_frame, sent_at_start, sent_by}
use Rattle.tap_bounds_runs.specs.Traffic.{TrafficAgrees, bytes_sent, moves_of, traffic_in}
use Rattle.tap_bounds_runs.proofs.RunMoves.{grown_moves, rest, run_goes, start_moves, traffic_is, traffic_more}

-- ---- the records of what a node does

so_silent : (there : Bool) (item : Record) → bytes_sent item ≡ None → filter_map bytes_sent (if_so there item) ≡ []
so_silent true item none = ap at_most_one none
so_silent false item none = refl

before_silent : (name : List ℕ) (news : News) → filter_map bytes_sent (news_before name news) ≡ []
unfolding news_before bytes_sent
before_silent name Nothing = refl
before_silent name CoreNews = refl
before_silent name GoneNews = refl
before_silent name (AnsweredNews ticket server) = refl
before_silent name (CastNews cast reached closed) = so_silent reached _ refl

after_silent : (news : News) → filter_map bytes_sent (news_after news) ≡ []
unfolding news_after bytes_sent
after_silent Nothing = refl
after_silent CoreNews = refl
after_silent GoneNews = refl
after_silent (AnsweredNews ticket server) = refl
after_silent (CastNews cast reached closed) = so_silent closed _ refl

announced_silent : (log : List Record) (step : Step) → filter_map bytes_sent (announced log step) ≡ []
unfolding announced bytes_sent
announced_silent log (Publish object server) = refl
announced_silent log (Withdraw object server) = refl
announced_silent log (Find object asker) = refl
announced_silent log (Abandon name) = refl
announced_silent log (Cast word prefix asker) = refl
announced_silent log step = refl

module _ (p : SettingsValue) where
  abbrev texts : List Frame → List (List ℕ)
  texts = map (spelling p)

  sent_texts : (number : ℕ) (frames : List Frame) → filter_map bytes_sent (sent_records p number frames) ≡ texts frames
  unfolding bytes_sent
  sent_texts number [] = refl
  sent_texts number (frame ∷ frames) = ap (λ l. spelling p frame ∷ l) (sent_texts (number + 1) frames)

  acted_texts : (number : ℕ) (name : List ℕ) (acted : Acted)
      → filter_map bytes_sent (acted_records p number name acted) ≡ texts acted.sent
  acted_texts number name acted =
      let sent = sent_records p number acted.sent in
      let after = news_after acted.news in
      filter_map-append bytes_sent (news_before name acted.news) (sent ++ after)
      ∙ ap (λ l. l ++ filter_map bytes_sent (sent ++ after)) (before_silent name acted.news)
      ∙ filter_map-append bytes_sent sent after
      ∙ ap (λ l. filter_map bytes_sent sent ++ l) (after_silent acted.news)
      ∙ append-nil (filter_map bytes_sent sent) ∙ sent_texts number acted.sent

  start_texts : (log : List Record) (name : List ℕ) (start : Start) (node : Option NodeState)
      → filter_map bytes_sent (records_of_act p log name node (Starts start)) ≡ texts (sent_at_start start node)
  start_texts log name start None = refl
  start_texts log name start (Some node) = acted_texts (sent_count log) name (act node (Starts start))

  frame_texts : (log : List Record) (frame : Frame) (node : Option NodeState)
      → filter_map bytes_sent (records_of_act p log frame.to node (Takes frame)) ≡ texts (sent_at_frame frame node)
  frame_texts log frame None = refl
  frame_texts log frame (Some node) = acted_texts (sent_count log) frame.to (act node (Takes frame))

  received_texts : (log : List Record) (s : System) (frame : Option Frame)
      → filter_map bytes_sent (received_records p log s frame) ≡ texts (sent_at_delivery s frame)
  received_texts log s None = refl
  received_texts log s (Some frame) = frame_texts log frame (s.node frame.to)

-- ---- the records of a group

-- what a move sends and takes, if there is one
abbrev pub sent_with : SettingsValue → System → Option Move → List Frame
sent_with p s None = []
sent_with p s (Some move) = sent_by p s move

abbrev taken_with : System → Option Move → List Frame
taken_with s None = []
taken_with s (Some move) = frames_taken_by s move

sends_none : (item : Record) → sent_number item ≡ None → bytes_sent item ≡ None
unfolding sent_number bytes_sent
sends_none (Sent number bytes) none = absurd (cc)
sends_none item none = refl

takes_none : (item : Record) → begins_group false item ≡ false → taken_number item ≡ None
unfolding begins_group taken_number
takes_none (Taken number) none = absurd (cc)
takes_none item none = refl

none_taken : (items : List Record) → All Within items → filter_map taken_number items ≡ []
none_taken items within = none_of taken_number items (λ k d there. takes_none (get_or items k d) (within k d there).0)

module _ (p : SettingsValue) (log : List Record) (s : System) where
  idle_sends : (index : ℕ) (step : Step) (items : List Record) → IsIdle log step items
      → filter_map bytes_sent (StepRecord index step ∷ items)
      ≡ map (spelling p) (sent_with p s (move_of_group log (StepRecord index step ∷ items)))
  unfolding bytes_sent
  idle_sends index step items idle =
      none_of bytes_sent items (λ k d there. sends_none (get_or items k d) (idle.quiet k d there).sent)
      ∙ ap (λ m. map (spelling p) (sent_with p s m)) (sym (step_moves log index step items ∙ idle.still))

  start_sends : (index : ℕ) (step : Step) (items : List Record) → IsStarting p log s step items
      → filter_map bytes_sent (StepRecord index step ∷ items)
      ≡ map (spelling p) (sent_with p s (move_of_group log (StepRecord index step ∷ items)))
  unfolding bytes_sent sent_by
  start_sends index step items starting =
      let node = starter p s starting.name starting.start in
      let does = records_of_act p log starting.name node (Starts starting.start) in
      ap (filter_map bytes_sent) starting.are
      ∙ filter_map-append bytes_sent (announced log step) does
      ∙ ap (λ l. l ++ filter_map bytes_sent does) (announced_silent log step)
      ∙ start_texts p log starting.name starting.start node
      ∙ ap (λ m. map (spelling p) (sent_with p s m)) (sym (starting_moves p log s index step items starting))

  taken_sends : (number : ℕ) (items : List Record) → items ≡ received_records p log s (numbered_frame number s.frames)
      → filter_map bytes_sent (Taken number ∷ items) ≡ map (spelling p) (sent_with p s (move_of_group log (Taken number ∷ items)))
  unfolding bytes_sent sent_by
  taken_sends number items are =
      ap (filter_map bytes_sent) are ∙ received_texts p log s (numbered_frame number s.frames)
      ∙ ap (λ m. map (spelling p) (sent_with p s m)) (sym (taken_moves log number items))

  -- a group says that those frames are sent which its move sends
  pub group_sends : (group : List Record) → MayFollow p log s group
      → filter_map bytes_sent group ≡ map (spelling p) (sent_with p s (move_of_group log group))
  unfolding MayFollow
  group_sends (StepRecord index step ∷ items) may =
      elim (step_kind p log s index step items may) [
        | inl idle ↦ idle_sends index step items idle
        | inr starting ↦ start_sends index step items starting
      ]
  group_sends (Taken number ∷ items) may = taken_sends number items may.are
  group_sends group may = absurd may

-- ---- frames that are taken

under_way : (P : ℕ × Frame → Type 0) (number : ℕ) (frame : Frame) (frames : List (ℕ × Frame)) → All P frames
    → AmongFrames number frame frames → P (number, frame)
under_way P number frame [] all among = absurd among
under_way P number frame (f ∷ frames) all (inl (same, is)) =
    let both : f ≡ (number, frame) = ap (λ n. (n, f.1)) (sym same) ∙ ap (λ g. (number, g)) (sym is) in
    subst P both (All-head P f frames all)
under_way P number frame (f ∷ frames) all (inr later) = under_way P number frame frames (All-tail P f frames all) later

module _ (b : Beginning) (log group : List Record) (run : IsRun b log) (follows : Follows b log group)
    (names : HaveNames b.settings group) where
  abbrev TakesSo : List Record → Type 0
  TakesSo items =
      map (bytes_of log) (filter_map taken_number items)
      ≡ map (λ frame. Some (spelling b.settings frame)) (taken_with (system_of log) (move_of_group log items))

  step_takes : (index : ℕ) (step : Step) (items : List Record) → All Within items → IsIdle log step items
      → TakesSo (StepRecord index step ∷ items)
  unfolding taken_number
  step_takes index step items within idle =
      ap (map (bytes_of log)) (none_taken items within)
      ∙ ap (λ m. map (λ frame. Some (spelling b.settings frame)) (taken_with (system_of log) m))
      (sym (step_moves log index step items ∙ idle.still))

  start_takes : (index : ℕ) (step : Step) (items : List Record) → All Within items
      → IsStarting b.settings log (system_of log) step items → TakesSo (StepRecord index step ∷ items)
  unfolding taken_number frames_taken_by
  start_takes index step items within starting =
      ap (map (bytes_of log)) (none_taken items within)
      ∙ ap (λ m. map (λ frame. Some (spelling b.settings frame)) (taken_with (system_of log) m))
      (sym (starting_moves b.settings log (system_of log) index step items starting))

  frame_takes : (number : ℕ) (items : List Record) → All Within items → MayArrive (system_of log) number → TakesSo (Taken number ∷ items)
  unfolding taken_number frames_taken_by
  frame_takes number items within may =
      let sound = runs_are_sound b log run in
      let frames = course_frames_holds b log run.course run.going in
      let is : numbered_frame number (system_of log).frames ≡ Some may.frame =
      found number may.frame 0 (system_of log).frames (system_of log).next sound.invariant.basis.numbered.numbers may.among in
      let has : bytes_of log number ≡ Some (spelling b.settings may.frame) =
      under_way (HasBytes b.settings log) number may.frame (system_of log).frames frames.bytes may.among in
      ap (λ l. map (bytes_of log) (number ∷ l)) (none_taken items within)
      ∙ ap (λ one. one ∷ []) has
      ∙ ap (λ f. map (λ frame. Some (spelling b.settings frame)) (one_or_none f)) (sym is)
      ∙ ap (λ m. map (λ frame. Some (spelling b.settings frame)) (taken_with (system_of log) m)) (sym (taken_moves log number items))

  group_takes : (group : List Record) → MayFollow b.settings log (system_of log) group
      → ((move : Move) → move_of_group log group ≡ Some move → may_move b.settings (system_of log) move) → TakesSo group
  unfolding MayFollow
  group_takes (StepRecord index step ∷ items) may possible =
      let within = step_within b.settings log (system_of log) index step items may in
      elim (step_kind b.settings log (system_of log) index step items may) [
        | inl idle ↦ step_takes index step items within idle
        | inr starting ↦ start_takes index step items within starting
      ]
  group_takes (Taken number ∷ items) may possible =
      frame_takes number items (taken_within b.settings log (system_of log) number items may)
      (possible (Delivers number) (taken_moves log number items))
  group_takes group may possible = absurd may

-- ---- a longer log

texts_stay : (p : SettingsValue) (log more : List Record) (numbers : List ℕ) (frames : List Frame)
    → map (bytes_of log) numbers ≡ map (λ frame. Some (spelling p frame)) frames
    → map (bytes_of (log ++ more)) numbers ≡ map (λ frame. Some (spelling p frame)) frames
texts_stay p log more [] [] are = refl
texts_stay p log more [] (frame ∷ frames) are = absurd (cc)
texts_stay p log more (number ∷ numbers) [] are = absurd (cc)
texts_stay p log more (number ∷ numbers) (frame ∷ frames) are =
    let here : bytes_of log number ≡ Some (spelling p frame) = cc in
    let later : map (bytes_of log) numbers ≡ map (λ f. Some (spelling p f)) frames = cc in
    ap (λ b. b ∷ map (bytes_of (log ++ more)) numbers)
    (bytes_of-append log more number ∙ ap (λ b. first_of_both b (bytes_of more number)) here)
    ∙ ap (λ l. Some (spelling p frame) ∷ l) (texts_stay p log more numbers frames later)

-- ---- the traffic after one more move

module _ (p : SettingsValue) (s : System) (r : Traffic) where
  pub sent_one : (move : Option Move) → (traffic_of p s r (at_most_one move)).sent ≡ r.sent ++ sent_with p s move
  sent_one None = sym (append-nil r.sent)
  sent_one (Some move) = refl

  taken_one : (move : Option Move) → (traffic_of p s r (at_most_one move)).taken ≡ r.taken ++ taken_with s move
  taken_one None = sym (append-nil r.taken)
  taken_one (Some move) = refl

-- the traffic of a log, and that of it with one more move, if there is one
pub traffic_with : (b : Beginning) (log : List Record) → IsRun b log → (move : Option Move)
    → traffic_of b.settings (rest b) no_traffic (moves_of log ++ at_most_one move)
    ≡ traffic_of b.settings (system_of log) (traffic_in log) (at_most_one move)
traffic_with b log run move =
    let p = b.settings in
    traffic_more p (rest b) no_traffic (moves_of log) (at_most_one move)
    ∙ ap (λ s. traffic_of p s (traffic_of p (rest b) no_traffic (moves_of log)) (at_most_one move)) (sym (run_goes b log run).system)
    ∙ ap (λ r. traffic_of p (system_of log) r (at_most_one move)) (sym (traffic_is b log run.course))

-- ---- each log of a run

module _ (b : Beginning) where
  grown_traffic : (log group : List Record) → IsRun b log → IsCourse b (log ++ group) → Follows b log group
      → traffic_in (log ++ group)
      ≡ traffic_of b.settings (system_of log) (traffic_in log) (at_most_one (move_of_group log group))
  grown_traffic log group run longer follows =
      traffic_is b (log ++ group) longer
      ∙ ap (traffic_of b.settings (rest b) no_traffic) (grown_moves b log group run.course run.going follows)
      ∙ traffic_with b log run (move_of_group log group)

  agrees_more : (log group : List Record) → IsRun b log → Follows b log group → HaveNames b.settings group
      → TrafficAgrees b.settings log (traffic_in log) → TrafficAgrees b.settings (log ++ group) (traffic_in (log ++ group))
  agrees_more log group run follows names agrees =
      let p = b.settings in
      let s = system_of log in
      let r = traffic_in log in
      let move = move_of_group log group in
      let longer = grown b log group run.course run.going follows in
      let sound = runs_are_sound b log run in
      let text : Frame → Option (List ℕ) = λ frame. Some (spelling p frame) in
      let first = filter_map taken_number log in
      let later = filter_map taken_number group in
      let takes = group_takes b log group run follows names group follows.may
      (λ one is. group_may_move b log group one run.course run.going sound.invariant.basis follows names is) in
      subst (TrafficAgrees p (log ++ group)) (sym (grown_traffic log group run longer follows)) (record {
        sent =
            filter_map-append bytes_sent log group ∙ ap (λ l. l ++ filter_map bytes_sent group) agrees.sent
            ∙ ap (λ l. map (spelling p) r.sent ++ l) (group_sends p log s group follows.may)
            ∙ sym (map-append (spelling p) r.sent (sent_with p s move)) ∙ ap (map (spelling p)) (sym (sent_one p s r move));
        taken =
            ap (map (bytes_of (log ++ group))) (filter_map-append taken_number log group)
            ∙ map-append (bytes_of (log ++ group)) first later
            ∙ ap (λ l. l ++ map (bytes_of (log ++ group)) later) (texts_stay p log group first r.taken agrees.taken)
            ∙ ap (λ l. map text r.taken ++ l) (texts_stay p log group later (taken_with s move) takes)
            ∙ sym (map-append text r.taken (taken_with s move)) ∙ ap (map text) (sym (taken_one p s r move));
      })

  abbrev AgreesIf : List Record → Type 0
  AgreesIf log = HaveNames b.settings log → TrafficAgrees b.settings log (traffic_in log)

  agrees_grow : (log group : List Record) → IsCourse b log → is_ended log ≡ false → Follows b log group → AgreesIf log
      → AgreesIf (log ++ group)
  agrees_grow log group course going follows agrees steps =
      let before = steps_before b.settings log group steps in
      agrees_more log group (record { course = course; going = going; steps = before }) follows (steps_after b.settings log group steps)
      (agrees before)

  agrees_first : IsRun b (begin_record b ∷ []) → TrafficAgrees b.settings (begin_record b ∷ []) (traffic_in (begin_record b ∷ []))
  unfolding bytes_sent taken_number
  agrees_first run =
      let none : traffic_in (begin_record b ∷ []) ≡ no_traffic =
      traffic_is b (begin_record b ∷ []) run.course ∙ ap (traffic_of b.settings (rest b) no_traffic) (start_moves b run.course.limits) in
      subst (TrafficAgrees b.settings (begin_record b ∷ [])) (sym none) (record { sent = refl; taken = refl })

  pub run_agrees : (log : List Record) → IsRun b log → TrafficAgrees b.settings log (traffic_in log)
  run_agrees log run =
      by_groups b AgreesIf agrees_grow (λ steps. agrees_first (run_begins b run.course.limits)) log run.course run.going run.steps

-- ---- how many were sent

counted_texts : (log : List Record) → sent_count log ≡ length (filter_map bytes_sent log)
unfolding sent_number bytes_sent
counted_texts [] = refl
counted_texts (Sent number bytes ∷ items) = ap suc (counted_texts items)
counted_texts (item ∷ items) = counted_texts items

-- as many as the log says
pub sent_is : (p : SettingsValue) (log : List Record) (frames : List Frame) → filter_map bytes_sent log ≡ map (spelling p) frames
    → sent_count log ≡ length frames
sent_is p log frames are = counted_texts log ∙ ap length are ∙ length-map frames (spelling p)
