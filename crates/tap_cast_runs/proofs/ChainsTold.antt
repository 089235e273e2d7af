-- In each run the log says of each chain that each of its nodes but the last was told of the joiner by the next one.
-- Cited above: told_longer
use Rattle.std.proofs.Common.{◌≡◌, ℕ, nat_eq, false, All, List, [], ◌∷◌, ◌++◌, Option, None, Some, ap, refl, sym, subst, ◌∙◌, inl, inr}
use Rattle.std.proofs.lemmas.Bool.{cases_Bool, eqb-true}
use Rattle.std.proofs.lemmas.List.Elements.{All-head, All-tail}
use Rattle.tap_name.specs.Settings.{SettingsValue}
use Rattle.tap_name.specs.declared.slot.Slot.{Slot}
use Rattle.tap_join.specs.Seek.{sought}
use Rattle.tap_join.specs.declared.sought.Sought.{Sought}
use Rattle.tap_join.specs.declared.sought.Sought.TheVariants.{Forward, Surrogate}
use Rattle.tap_wire.specs.Spelling.{spelling}
use Rattle.tap_wire.specs.declared.frame.Body.{Body}
use Rattle.tap_wire.specs.declared.frame.Frame.{Frame}
use Rattle.tap_wire.specs.declared.frame.TellFields.{TellFields}
use Rattle.tap_log.specs.Frames.{bytes_of, sent_bytes}
use Rattle.tap_log.specs.declared.record.Record.{Record}
use Rattle.tap_log.specs.declared.record.Record.TheVariants.{Sent}
use Rattle.tap_history.specs.Groups.{is_ended}
use Rattle.tap_rule.specs.Covering.{Request, first_request, request_of}
use Rattle.tap_rule.specs.Node.{NodeState, name_of}
use Rattle.tap_rule.specs.Sent.{IsAmong}
use Rattle.tap_rule.proofs.Among.{among-first}
use Rattle.tap_safety.specs.Frames.{tell_body}
use Rattle.tap_safety.specs.Move.{Move, may_move}
use Rattle.tap_safety.specs.Move.Move.{Begins, Delivers}
use Rattle.tap_safety.specs.Moved.{moved}
use Rattle.tap_safety.specs.System.{AmongFrames, IsUnderWay, System}
use Rattle.tap_safety.proofs.Said.{Said, said_of}
use Rattle.tap_safety.proofs.Said.Said.{IsSeek, IsTell}
use Rattle.tap_moves.specs.InvariantLaws.{IsDelivery}
use Rattle.tap_runs.specs.Beginning.{Beginning, begin_record}
use Rattle.tap_runs.specs.Course.{Follows, IsCourse, move_of_group, moved_by, system_of}
use Rattle.tap_runs.specs.CourseLaws.{HasBytes}
use Rattle.tap_runs.specs.Named.{HaveNames}
use Rattle.tap_runs.proofs.Frames.{course_frames_holds}
use Rattle.tap_runs.proofs.CourseGrows.{by_groups, grown_system, start_system}
use Rattle.tap_safety_moves.proofs.Delivered.{is_delivery}
use Rattle.tap_safe_runs.specs.Safe.{IsRun}
use Rattle.tap_safe_runs.proofs.Possible.{group_may_move}
use Rattle.tap_safe_runs.proofs.Safe.{run_begins, runs_are_sound, steps_after, steps_before}
use Rattle.tap_cast_runs.specs.SlotAnswers.{FirstCover, WatchMemory, none_answered}
use Rattle.tap_cast_runs.specs.Chains.{ChainIsTold, ChainsAre, HasTold}
use Rattle.tap_cast_runs.specs.Recalled.{asked, asked_at_core, asked_by_seek, chain_to, recalled_asked, watch_recalled}
use Rattle.tap_cast_runs.specs.Runs.{watch_recalled_by, watches_of}
use Rattle.tap_cast_runs.proofs.Asks.{core_asks, core_only, delivery_recalls}
use Rattle.tap_cast_runs.proofs.Chains.{OfChain, StaysSo, chains_stay, cover_chains, none_chains, start_chains}
use Rattle.tap_cast_runs.proofs.Runs.{grown_watches, start_watches}

-- ---- what was sent

-- a frame whose bytes the log has was sent
bytes_sent : (log : List Record) (number : ℕ) (bytes : List ℕ) → bytes_of log number ≡ Some bytes → IsAmong (Sent number bytes) log
unfolding sent_bytes
bytes_sent [] number bytes is = absurd (cc)
bytes_sent (Sent other there ∷ items) number bytes is =
    elim (cases_Bool (nat_eq other number)) [
      | inl same ↦
          let both : Some there ≡ Some bytes = rw same at is in
          let one : there ≡ bytes = cc in
          inl (ap (λ n. Sent n bytes) (sym (eqb-true other number same)) ∙ ap (λ l. Sent other l) (sym one))
      | inr apart ↦
          let later : bytes_of items number ≡ Some bytes = rw apart at is in inr (bytes_sent items number bytes later)
    ]
bytes_sent (item ∷ items) number bytes is = inr (bytes_sent items number bytes is)

bytes_among : (p : SettingsValue) (log : List Record) (frames : List (ℕ × Frame)) (number : ℕ) (frame : Frame) → All (HasBytes p log) frames
    → AmongFrames number frame frames → bytes_of log number ≡ Some (spelling p frame)
bytes_among p log [] number frame all among = absurd among
bytes_among p log (f ∷ fs) number frame all (inl (same, is)) =
    ap (bytes_of log) same ∙ All-head (HasBytes p log) f fs all ∙ ap (λ g. Some (spelling p g)) (sym is)
bytes_among p log (f ∷ fs) number frame all (inr later) =
    bytes_among p log fs number frame (All-tail (HasBytes p log) f fs all) later

-- ---- chains

-- a chain begins with its node, and is one of Tells
record IsTold (p : SettingsValue) (log : List Record) (chain : List (List ℕ)) (x b : List ℕ) (prefix : ℕ) : Type 0 where
  above : List (List ℕ)
  first : chain ≡ x ∷ above
  told : ChainIsTold p log b chain

pub told_longer : (p : SettingsValue) (log more : List Record) (b : List ℕ) (chain : List (List ℕ)) → ChainIsTold p log b chain
    → ChainIsTold p (log ++ more) b chain
told_longer p log more b [] told = tt
told_longer p log more b (x ∷ []) told = tt
told_longer p log more b (x ∷ y ∷ others) told = (
  record {
    number = told.0.number;
    tell = told.0.tell;
    watch = told.0.watch;
    joiner = told.0.joiner;
    sent = among-first (Sent told.0.number _) log more told.0.sent;
  },
  told_longer p log more b (y ∷ others) told.1,
)

told_stays : (p : SettingsValue) (log more : List Record) → StaysSo (IsTold p log) (IsTold p (log ++ more))
told_stays p log more chain x b prefix is =
    record { above = is.above; first = is.first; told = told_longer p log more b chain is.told }

-- the chain to a node that was told by the first of a chain
told_on : (p : SettingsValue) (log : List Record) (chain : List (List ℕ)) (x y b : List ℕ) (prefix : ℕ) → IsTold p log chain x b prefix
    → HasTold p log x y b → IsTold p log (y ∷ chain) y b prefix
told_on p log chain x y b prefix is told = record {
  above = chain;
  first = refl;
  told =
      subst (λ l. ChainIsTold p log b (y ∷ l)) (sym is.first) (told, subst (ChainIsTold p log b) is.first is.told);
}

-- ---- one more group

module _ (b : Beginning) (log group : List Record) (run : IsRun b log) (follows : Follows b log group) (steps : HaveNames b.settings group)
    (chains : ChainsAre (IsTold b.settings log) (system_of log) (watches_of log)) where
  abbrev p : SettingsValue
  p = b.settings

  abbrev s : System
  s = system_of log

  abbrev r : WatchMemory
  r = watches_of log

  abbrev Before : OfChain
  Before = IsTold p log

  abbrev After : OfChain
  After = IsTold p (log ++ group)

  stay : StaysSo Before After
  stay = told_stays p log group

  -- a Tell that is under way was sent
  tell_sent : (from to : List ℕ) (tell : TellFields) (watch : List Slot) → IsUnderWay s from to (tell_body tell watch)
      → HasTold p (log ++ group) from to tell.joiner
  tell_sent from to tell watch way =
      let frame : Frame = record { from = from; to = to; body = tell_body tell watch } in
      let bytes = bytes_among p log s.frames way.number frame (course_frames_holds b log run.course run.going).bytes way.among in
      record {
        number = way.number;
        tell = tell;
        watch = watch;
        joiner = refl;
        sent = among-first (Sent way.number (spelling p frame)) log group (bytes_sent log way.number (spelling p frame) bytes);
      }

  module _ (number : ℕ) (node : NodeState) (from : List ℕ) where
    seek_told : (joiner : List ℕ) (found : Sought) (request : Request) → asked_by_seek node joiner found ≡ Some request
        → After (chain_to r node request) (name_of node) request.joiner request.prefix
    seek_told joiner (Forward next) request asks = absurd (cc)
    seek_told joiner (Surrogate prefix) request asks =
        let same : first_request node joiner prefix ≡ request = cc in
        subst (λ (q : Request). After (chain_to r node q) (name_of node) q.joiner q.prefix) same
        (record { above = []; first = refl; told = tt })

    body_told : {body : Body} → Said body → (request : Request) → IsDelivery p s number node from body
        → asked_at_core node from body ≡ Some request → After (chain_to r node request) (name_of node) request.joiner request.prefix
    body_told (IsSeek joiner) request is asks = seek_told joiner (sought node.ties.table joiner) request asks
    body_told (IsTell tell watch) request is asks =
        let same : request_of from tell watch ≡ request = cc in
        let way : IsUnderWay s from (name_of node) (tell_body tell watch) = record { number = number; among = is.among } in
        subst (λ (q : Request). After (chain_to r node q) (name_of node) q.joiner q.prefix) same
        (told_on p (log ++ group) (r.chain from tell.session) from (name_of node) tell.joiner tell.prefix
        (stay (r.chain from tell.session) from tell.joiner tell.prefix (chains.tells from (name_of node) tell watch way))
        (tell_sent from (name_of node) tell watch way))
    body_told _ request is asks = absurd (cc)

  delivery_told : (number : ℕ) (node : NodeState) (from : List ℕ) (body : Body) → IsDelivery p s number node from body
      → ChainsAre After (moved p s (Delivers number)) (watch_recalled s r (Delivers number))
  delivery_told number node from body is =
      subst (ChainsAre After (moved p s (Delivers number))) (sym (delivery_recalls p s r number node from body is))
      (by (asked node from body) refl)
    where
      by : (found : Option Request) → asked node from body ≡ found → ChainsAre After (moved p s (Delivers number)) (recalled_asked r node found)
      by None none = none_chains p s r number node from body is Before After stay chains none
      by (Some request) asks =
          let core = core_only node.status node from body request asks in
          cover_chains p s r number node from body is Before After stay chains request
          (core_asks node from (said_of body) request core.0 is.known core.1) (body_told number node from (said_of body) request is core.1)

  move_told : (move : Move) → may_move p s move → ChainsAre After (moved p s move) (watch_recalled s r move)
  unfolding watch_recalled
  move_told (Begins x start) may = start_chains Before After stay p s x start r chains
  move_told (Delivers number) may =
      delivery_told number may.receiver.state may.frame.from may.frame.body
      (is_delivery p s number may.frame may.receiver.state (runs_are_sound b log run) may.among may.receiver.is)

  group_told : ChainsAre After (system_of (log ++ group)) (watches_of (log ++ group))
  group_told =
      subst (λ t. ChainsAre After t (watches_of (log ++ group))) (sym (grown_system b log group run.course run.going follows))
      (subst (ChainsAre After (moved_by p s (move_of_group log group))) (sym (grown_watches b log group run.course run.going follows))
      (by (move_of_group log group) refl))
    where
      by : (move : Option Move) → move_of_group log group ≡ move → ChainsAre After (moved_by p s move) (watch_recalled_by s r move)
      by None none = chains_stay Before After stay s s r (λ from to tell watch way. way) chains
      by (Some move) is =
          move_told move (group_may_move b log group move run.course run.going (runs_are_sound b log run).invariant.basis follows steps is)

-- ---- runs

module _ (b : Beginning) where
  abbrev IsToldLog : List Record → Type 0
  IsToldLog log = ChainsAre (IsTold b.settings log) (system_of log) (watches_of log)

  -- if the log's steps have names of the settings
  abbrev IsToldIf : List Record → Type 0
  IsToldIf log = HaveNames b.settings log → IsToldLog log

  keeps : (log group : List Record) → IsCourse b log → is_ended log ≡ false → Follows b log group → IsToldIf log → IsToldIf (log ++ group)
  keeps log group course going follows told names =
      let before = steps_before b.settings log group names in
      group_told b log group (record { course = course; going = going; steps = before }) follows (steps_after b.settings log group names)
      (told before)

  none_told : (s : System) (r : WatchMemory) (log : List Record) → s.frames ≡ [] → r ≡ none_answered → ChainsAre (IsTold b.settings log) s r
  none_told s r log no_frames none = record {
    tells = λ from to tell watch way.
        absurd (subst (AmongFrames way.number (record { from = from; to = to; body = tell_body tell watch })) no_frames way.among);
    covers = λ cover among. absurd (subst (λ (m : WatchMemory). IsAmong cover m.covers) none among);
  }

  start_told : (run : IsRun b (begin_record b ∷ [])) → IsToldLog (begin_record b ∷ [])
  start_told run =
      none_told (system_of (begin_record b ∷ [])) (watches_of (begin_record b ∷ [])) (begin_record b ∷ [])
      (ap (λ (s : System). s.frames) (start_system b)) (start_watches b run.course.limits)

pub run_told : (b : Beginning) (log : List Record) → IsRun b log → (cover : FirstCover) → IsAmong cover (watches_of log).covers
    → ChainIsTold b.settings log cover.joiner cover.chain
run_told b log run cover among =
    let all = by_groups b (IsToldIf b) (keeps b) (λ names. start_told b (run_begins b run.course.limits)) log run.course run.going run.steps in
    (all.covers cover among).told
