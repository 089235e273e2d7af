-- The sessions of casts after the start of a cast: it is closed at once, or its root session is opened.
use Rattle.std.proofs.Common.{◌≡◌, ◌⊎◌, ◌==◌, ℕ, ◌+◌, ◌-◌, ◌<◌, ◌≤◌, Bool, true, false, List, [], ◌∷◌, ◌++◌, length, map, Option, None, Some, arith, refl, sym, ap, subst, ◌∙◌, inl, inr, eqb-true}
use Rattle.std.specs.List.{slice_index_or}
use Rattle.std.proofs.lemmas.Bool.{cases_Bool, true≢false}
use Rattle.std.proofs.lemmas.List.{length-map}
use Rattle.tap_name.specs.Prefix.{lcp}
use Rattle.tap_name.specs.Settings.{SettingsValue}
use Rattle.tap_name.proofs.Prefixes.{lcp-itself}
use Rattle.tap_moves.proofs.InvariantMoves.{name_at}
use Rattle.tap_session.specs.declared.parent.Parent.TheVariants.{Root}
use Rattle.tap_session.specs.Session.{Session, SessionsValue}
use Rattle.tap_session.specs.Sessions.{opened_with}
use Rattle.tap_cast.specs.declared.target.CastTarget.{CastTarget}
use Rattle.tap_cast.proofs.Casting.{IsTarget}
use Rattle.tap_wire.specs.declared.frame.Body.TheVariants.{Cast}
use Rattle.tap_wire.specs.declared.frame.Frame.{Frame}
use Rattle.tap_rule.specs.Act.{act}
use Rattle.tap_rule.specs.Casts.{Copy, cast_for, cast_news, cast_of}
use Rattle.tap_rule.specs.Event.{Acted, Start}
use Rattle.tap_rule.specs.Event.Event.{Starts}
use Rattle.tap_rule.specs.Event.Start.{Cast as StartCast}
use Rattle.tap_rule.specs.KeptNode.{IsNode}
use Rattle.tap_rule.specs.RuleLaws.{IsCarriedOut}
use Rattle.tap_rule.specs.Node.{NodeState, name_of}
use Rattle.tap_rule.specs.Reaction.{Reaction}
use Rattle.tap_rule.specs.Sending.{message_frame}
use Rattle.tap_rule.specs.Sent.{IsAmong}
use Rattle.tap_rule.proofs.Among.{among-map_from}
use Rattle.tap_rule.proofs.AnswerSteps.{same_number}
use Rattle.tap_safety.specs.Counted.{kept_parent}
use Rattle.tap_safety.specs.CountSteps.{SessionsStay}
use Rattle.tap_safety.specs.Invariant.{Basis}
use Rattle.tap_safety.specs.Joins.{HasRoot}
use Rattle.tap_safety.specs.Move.{MayCast}
use Rattle.tap_safety.specs.Move.Move.{Begins}
use Rattle.tap_safety.specs.Remembered.{OpenSession}
use Rattle.tap_safety.specs.Sessions.{Belongs, IsRootless, session_named, ways_of}
use Rattle.tap_safety.specs.SessionSteps.{Exchanges, LeavesSessions, OpensRoot}
use Rattle.tap_safety.specs.Exchanges.{Ascend, ChangesAt, numbered_from}
use Rattle.tap_safety.specs.System.{System, AmongFrames}
use Rattle.tap_safety.specs.Turned.{Taking, remembered_as}
use Rattle.tap_safety.proofs.Moved.{ascend_numbered, ascend_one, ascend_under, numbers_sent, starts}
use Rattle.tap_moves.specs.Delivered.{after_start}
use Rattle.tap_moves.specs.KnownNames.{AreNodes}
use Rattle.tap_moves.proofs.Exchanged.{in_either, in_first}
use Rattle.tap_safety.proofs.UnderWay.{among_right as in_second}
use Rattle.tap_moves.proofs.SessionsMade.{none_opened}
use Rattle.tap_cast_moves.specs.Recalled.{recalled, run_begun, runs_begun, runs_noted, seen_taking, start_frame}
use Rattle.tap_cast_moves.specs.Remembered.{CastMemory, CastRun}
use Rattle.tap_cast_moves.specs.SeenCasts.{cast_name, seen, seen_frame, seen_frames, seen_node}
use Rattle.tap_cast_moves.specs.CastSessions.{AreSessionsOf, CastSessions, HasCastEnd, HasCastPlace, IsCastWay}
use Rattle.tap_cast_moves.proofs.AsideMade.{start_one, start_runs, start_sessions, start_still, start_was}
use Rattle.tap_cast_moves.proofs.CastMade.{sessions_stay}
use Rattle.tap_cast_moves.proofs.CastPlaces.{RunGoesOn, StaysCasting, place_on, ways_on}
use Rattle.tap_cast_moves.proofs.CastSent.{cast_of_next, cast_of_stays, copies_about, copies_ask, copies_deeper, copies_in, nothing_asks, opened_here, opened_now, opened_session, others_stay}
use Rattle.tap_cast_moves.proofs.CastTaken.{IsSentCast, cast_parts, nothing_true, sent_cast}
use Rattle.tap_cast_moves.proofs.Made.{opens_root}
use Rattle.tap_cast_moves.proofs.Noted.{HasBecome, noted_on, noted_was}
use Rattle.tap_cast_moves.proofs.Targets.{TakesCasts}
use Rattle.tap_cast_moves.proofs.Turning.{left_parts, rooted_parts}
use Rattle.tap_cast_moves.proofs.View.{AreSeenIn, among_seen, ascend_seen, changes_seen, seen_among, sends_in, ways_by_rule}

module _ (p : SettingsValue) (s : System) (r : CastMemory) (x : List ℕ) (cast level : ℕ) (word : List ℕ) (basis : Basis p s)
    (nodes : AreNodes p s) (may : MayCast p s x cast level word) (fresh : r.cast cast ≡ None) (sound : CastSessions p s r) where
  abbrev start : Start
  start = StartCast cast level word

  abbrev node : NodeState
  node = may.acts.state

  abbrev acted : Acted
  acted = act node (Starts start)

  abbrev s' : System
  s' = after_start p s x start

  abbrev r' : CastMemory
  r' = recalled p s r (Begins x start)

  abbrev runs : ℕ → Option CastRun
  runs = runs_begun s r x start

  abbrev sent : List (ℕ × Frame)
  sent = seen_frames (numbered_from s.next acted.sent)

  abbrev number : ℕ
  number = s.next + length acted.sent

  abbrev f : Frame
  f = start_frame x start

  abbrev t : Taking
  t = seen_taking s number f node acted

  abbrev next : ℕ
  next = node.cast_sessions.opened + 1

  are_node : IsNode node
  are_node = (nodes.nodes x node may.acts.is).is_node

  name_is : name_of node ≡ x
  name_is = (nodes.nodes x node may.acts.is).name

  changes : ChangesAt s s' x node acted.state
  changes =
      let done = (starts p s x start node may.acts.is).done in record { was = may.acts.is; is = done.is; others = done.others }

  -- ---- casts

  pub begun_here : runs cast ≡ Some (run_begun s x level)
  begun_here = rw (same_number cast) refl

  pub begun_other : (d : ℕ) → (d ≡ cast → ⊥) → runs d ≡ r.cast d
  begun_other d apart = elim (cases_Bool (d == cast)) [
    | inl same ↦ absurd (apart (eqb-true d cast same))
    | inr other ↦ rw other refl
  ]

  not_fresh : (d : ℕ) (run : CastRun) → r.cast d ≡ Some run → d ≡ cast → ⊥
  not_fresh d run is same =
      let wrong : ◌≡◌ {A = Option CastRun} None (Some run) = sym fresh ∙ ap r.cast (sym same) ∙ is in cc

  pub begun_on : (d : ℕ) (run : CastRun) → r.cast d ≡ Some run → runs d ≡ Some run
  begun_on d run is = begun_other d (not_fresh d run is) ∙ is

  module _ (closed : Bool) (news : acted.news ≡ cast_news cast true closed) where
    pub runs_are : (d : ℕ) → r'.cast d ≡ runs_noted runs x (cast_news cast true closed) d
    runs_are d = start_runs p s r x start node may.acts.is d ∙ ap (λ n. runs_noted runs x n d) news

    pub start_was_run : (d : ℕ) (now : CastRun) → r'.cast d ≡ Some now → HasBecome runs x cast true closed d now
    start_was_run d now is = noted_was runs x cast true closed d now (sym (runs_are d) ∙ is)

    begun_goes_on : (d : ℕ) (run : CastRun) → runs d ≡ Some run → RunGoesOn r' d run
    begun_goes_on d run is =
        let will = noted_on runs x cast true closed d run is in
        record { now = will.now; is = runs_are d ∙ will.is; caster = will.becomes.caster; level = will.becomes.level }

    run_on : (d : ℕ) (run : CastRun) → r.cast d ≡ Some run → RunGoesOn r' d run
    run_on d run is = begun_goes_on d run (begun_on d run is)

    run_now : RunGoesOn r' cast (run_begun s x level)
    run_now = begun_goes_on cast (run_begun s x level) begun_here

  -- no session is of the cast before
  none_of_it : (y : List ℕ) (m : ℕ) (o : OpenSession) → r.session y m ≡ Some o → o.joiner ≡ cast_name cast → ⊥
  none_of_it y m o is joiner =
      let place = sound.places y m o is in
      let same : cast_name (cast_of place.state m) ≡ cast_name cast = sym place.cast ∙ joiner in
      not_fresh (cast_of place.state m) place.run place.started (cc)

  rootless : IsRootless (seen s r) (cast_name cast)
  rootless = record { none = λ y m o is joiner top. none_of_it y m o is joiner }

  other_name : (d : ℕ) → cast_name d ≡ cast_name cast → d ≡ cast
  other_name d same = cc

  module _ (rule : Reaction) (carried : IsCarriedOut node rule acted) where
    way_was : (m : ℕ) (w to : List ℕ) (c l k d : ℕ) (text : List ℕ)
        → AmongFrames m (record { from = w; to = to; body = Cast c l k d text }) s'.frames
        → AmongFrames m (record { from = w; to = to; body = Cast c l k d text }) s.frames
        ⊎ IsSentCast (name_of node) rule.messages (record { from = w; to = to; body = Cast c l k d text })
    way_was m w to c l k d text among =
        elim (start_was p s r x start node may.acts.is m (record { from = w; to = to; body = Cast c l k d text }) among) [
          | inl old ↦ inl old
          | inr new ↦ inr (sent_cast (name_of node) rule s.next acted.sent carried.sent m w to c l k d text new)
        ]

    -- ---- it is closed at once

    module _ (news : acted.news ≡ cast_news cast true true) (status : rule.state.status ≡ node.status) (none : rule.messages ≡ [])
        (sessions : rule.state.cast_sessions ≡ node.cast_sessions) (numbers : rule.state.cast_numbers ≡ node.cast_numbers) where
      asks : (m : ℕ) (g : Frame) (y : List ℕ) (n : ℕ) → AmongFrames m g sent → Belongs g y n → ⊥
      asks = nothing_asks (name_of node) rule.messages none rule.words s.next acted.sent carried.sent

      leaves : LeavesSessions (seen s r) (seen s' r')
      leaves =
          let opened = none_opened (seen_node node).sessions (seen_node acted.state).sessions
          (ap (λ (o : SessionsValue). o.opened) (carried.cast_sessions ∙ sessions)) in
          record {
            sessions = λ y k. start_sessions p s r x start node may.acts.is y k ∙ rw opened refl;
            still = λ m g y k among belongs.
                let found = seen_among m g s.frames among in
                subst (λ h. AmongFrames m h (seen_frames s'.frames)) (sym found.is)
                (among_seen m found.frame s'.frames (start_still p s r x start node may.acts.is m found.frame found.among));
            was = λ m g y k among belongs.
                let found = seen_among m g s'.frames among in
                elim (start_was p s r x start node may.acts.is m found.frame found.among) [
                  | inl old ↦
                      subst (λ h. AmongFrames m h (seen_frames s.frames)) (sym found.is) (among_seen m found.frame s.frames old)
                  | inr new ↦
                      absurd (asks m (seen_frame found.frame) y k (among_seen m found.frame (numbered_from s.next acted.sent) new)
                      (subst (λ h. Belongs h y k) found.is belongs))
                ];
            is_one = λ m g other one two.
                let first = seen_among m g s'.frames one in
                let second = seen_among m other s'.frames two in
                first.is
                ∙ ap seen_frame (start_one p s r x start node may.acts.is basis.numbered m first.frame second.frame first.among second.among)
                ∙ sym second.is;
          }

      seen_at : ChangesAt (seen s r) (seen s' r') x (seen_node node) (seen_node acted.state)
      seen_at = changes_seen s s' r r' x node acted.state changes

      still_casting : StaysCasting node acted.state
      still_casting = record {
        status = carried.status ∙ status;
        opened = let same = carried.cast_sessions ∙ sessions in rw same (omega arith);
        numbers = λ k low high. ap (λ ns. slice_index_or ns (k - 1) 0) (carried.cast_numbers ∙ numbers);
      }

      end_on : (d : ℕ) (now : CastRun) → r'.cast d ≡ Some now → HasCastEnd (seen s' r') d now
      end_on d now is = by (start_was_run true news d now is)
        where
          rootless_now : (b : List ℕ) → IsRootless (seen s r) b → IsRootless (seen s' r') b
          rootless_now b free =
              record { none = λ y m o there joiner top. free.none y m o (sym (leaves.sessions y m) ∙ there) joiner top }

          by : HasBecome runs x cast true true d now → HasCastEnd (seen s' r') d now
          by was = elim (cases_Bool (d == cast)) [
            | inl same ↦
                let here = eqb-true d cast same in
                record {
                  open_root = λ goes_on. absurd (true≢false (sym (was.becomes.closed_new refl here) ∙ goes_on));
                  closed = λ over. subst (λ e. IsRootless (seen s' r') (cast_name e)) (sym here) (rootless_now (cast_name cast) rootless);
                }
            | inr other ↦
                let apart : d ≡ cast → ⊥ = λ here. true≢false (sym (same_number cast) ∙ ap (λ n. n == cast) (sym here) ∙ other) in
                let old = sound.ends d was.run (sym (begun_other d apart) ∙ was.was) in
                record {
                  open_root = λ goes_on.
                      elim (cases_Bool was.run.closed) [
                        | inl over ↦ absurd (true≢false (sym (was.becomes.closed_on over) ∙ goes_on))
                        | inr still ↦
                            let root = old.open_root still in
                            record {
                              at = root.at;
                              number = root.number;
                              session = root.session;
                              is = leaves.sessions root.at root.number ∙ root.is;
                              joiner = root.joiner;
                              top = root.top;
                            }
                      ];
                  closed = λ over.
                      elim (was.becomes.closed_was over) [
                        | inl before ↦ rootless_now (cast_name d) (old.closed before)
                        | inr new ↦ absurd (apart new.1)
                      ];
                }
          ]

      pub closed_at_once : CastSessions p s' r'
      closed_at_once = record {
        sessions = left_parts (seen s r) (seen s' r') leaves sound.sessions (λ y now there. elim (seen_at.others y) [
          | inl here ↦
              let mine : (seen s' r').node x ≡ Some now = ap (seen s' r').node (sym here) ∙ there in
              let is_now = seen_at.is in
              let same : seen_node acted.state ≡ now = cc in
              inl (
                seen_node node,
                ap (seen s r).node here ∙ seen_at.was,
                subst (SessionsStay (seen_node node)) same
                    (sessions_stay node acted.state (carried.cast_sessions ∙ sessions) (carried.cast_numbers ∙ numbers)),
              )
          | inr other ↦ inl (now, sym other ∙ there, λ k. refl)
        ]);
        places = λ y m o there.
            place_on p s s' r r' x node acted.state changes still_casting sound (run_on true news) y m o o
            (sound.places y m o (sym (leaves.sessions y m) ∙ there)) refl refl refl;
        ways = ways_on p s s' r r' x node acted.state changes still_casting sound (run_on true news)
            (λ m w to c l k d text among. elim (way_was m w to c l k d text among) [
              | inl old ↦ inl old
              | inr new ↦ absurd (subst (IsAmong new.message) none new.among)
            ]);
        ends = end_on;
      }

    -- ---- its root session is opened

    module _ (news : acted.news ≡ cast_news cast true false) (status : rule.state.status ≡ node.status) (targets : List CastTarget)
        (are : (target : CastTarget) → IsAmong target targets → IsTarget node.ties.table level p.digits target × TakesCasts s target.to)
        (copies : rule.messages
        ≡ map (cast_for (record { cast = cast; level = level; parent = Root (name_of node); depth = 0; word = word }) next) targets)
        (some : 1 ≤ length targets)
        (opens : rule.state.cast_sessions ≡ opened_with node.cast_sessions (Root (name_of node)) 0 (length targets))
        (numbers : rule.state.cast_numbers ≡ node.cast_numbers ++ cast ∷ []) where
      abbrev copy : Copy
      copy = record { cast = cast; level = level; parent = Root (name_of node); depth = 0; word = word }

      abbrev opened_so : acted.state.cast_sessions ≡ opened_with node.cast_sessions (Root (name_of node)) 0 (length targets)
      opened_so = carried.cast_sessions ∙ opens

      abbrev numbers_so : acted.state.cast_numbers ≡ node.cast_numbers ++ cast ∷ []
      numbers_so = carried.cast_numbers ∙ numbers

      abbrev opened_now_is : Session
      opened_now_is =
          opened_session node acted.state (Root (name_of node)) 0 (length targets) cast are_node.cast_sessions are_node.cast_numbers opened_so
          numbers_so

      -- the system with the start as a frame under way
      abbrev with_start : System
      with_start = record (seen s r) { frames = seen_frames s.frames ++ (number, f) ∷ [] }

      start_either : (m : ℕ) (g : Frame) → AmongFrames m g with_start.frames
          → AmongFrames m g (seen_frames s.frames) ⊎ ((m ≡ number) × (g ≡ f))
      start_either m g among =
          elim (in_either m g (seen_frames s.frames) ((number, f) ∷ []) among) [
            | inl old ↦ inl old
            | inr (inl here) ↦ inr here
            | inr (inr nothing) ↦ absurd nothing
          ]

      seen_ascend : Ascend 0 (seen_frames s.frames) s.next
      seen_ascend = ascend_seen 0 s.frames s.next basis.numbered.numbers

      below_next : (m : ℕ) (g : Frame) → AmongFrames m g (seen_frames s.frames) → m < s.next
      below_next m g among = ascend_under 0 (seen_frames s.frames) s.next m g seen_ascend among

      later_ascend : Ascend 0 (seen_frames s'.frames) s'.next
      later_ascend =
          ascend_seen 0 s'.frames s'.next (numbers_sent s s' acted.sent (starts p s x start node may.acts.is).sent basis.numbered).numbers

      started_either : (m : ℕ) (g : Frame) → AmongFrames m g (seen_frames s'.frames)
          → AmongFrames m g (seen_frames s.frames) ⊎ AmongFrames m g sent
      started_either m g among =
          let found = seen_among m g s'.frames among in
          elim (start_was p s r x start node may.acts.is m found.frame found.among) [
            | inl old ↦ inl (subst (λ h. AmongFrames m h (seen_frames s.frames)) (sym found.is) (among_seen m found.frame s.frames old))
            | inr new ↦ inr (subst (λ h. AmongFrames m h sent) (sym found.is) (among_seen m found.frame (numbered_from s.next acted.sent) new))
          ]

      old_still : (m : ℕ) (g : Frame) → AmongFrames m g (seen_frames s.frames) → AmongFrames m g (seen_frames s'.frames)
      old_still m g among =
          let found = seen_among m g s.frames among in
          subst (λ h. AmongFrames m h (seen_frames s'.frames)) (sym found.is)
          (among_seen m found.frame s'.frames (start_still p s r x start node may.acts.is m found.frame found.among))

      swap : Exchanges with_start (seen s' r') number f sent
      swap = record {
        taken = in_second number f (seen_frames s.frames) ((number, f) ∷ []) (inl (refl, refl));
        gone = λ g among.
            let less = ascend_under 0 (seen_frames s'.frames) s'.next number g later_ascend among in
            let most = (starts p s x start node may.acts.is).sent.next in
            omega (arith, less, most);
        still = λ m g among. elim (start_either m g among) [ inl old ↦ inr (old_still m g old) | inr here ↦ inl here.0 ];
        was = λ m g among. elim (started_either m g among) [
          | inl old ↦ inl (in_first m g (seen_frames s.frames) ((number, f) ∷ []) old)
          | inr new ↦ inr new
        ];
        sends = λ m g among.
            let found = seen_among m g (numbered_from s.next acted.sent) among in
            let there = (starts p s x start node may.acts.is).sent.after in
            subst (λ h. AmongFrames m h (seen_frames s'.frames)) (sym found.is)
            (among_seen m found.frame s'.frames (subst (AmongFrames m found.frame) (sym there)
            (in_second m found.frame s.frames (numbered_from s.next acted.sent) found.among)));
        was_one = λ m g other one two. elim (start_either m g one) [
          | inl old ↦ elim (start_either m other two) [
            | inl older ↦ ascend_one 0 (seen_frames s.frames) s.next m g other seen_ascend old older
            | inr here ↦ let less = below_next m g old in let same = here.0 in absurd (omega (arith, less, same))
          ]
          | inr here ↦ elim (start_either m other two) [
            | inl older ↦ let less = below_next m other older in let same = here.0 in absurd (omega (arith, less, same))
            | inr there ↦ here.1 ∙ sym there.1
          ]
        ];
        is_one = λ m g other one two. ascend_one 0 (seen_frames s'.frames) s'.next m g other later_ascend one two;
      }

      leaves_start : LeavesSessions (seen s r) with_start
      leaves_start = record {
        sessions = λ y k. refl;
        still = λ m g y k among belongs. in_first m g (seen_frames s.frames) ((number, f) ∷ []) among;
        was = λ m g y k among belongs. elim (start_either m g among) [
          | inl old ↦ old
          | inr here ↦
              let none : ◌≡◌ {A = Option (List ℕ × ℕ)} None (Some (y, k)) =
              ap (λ (h : Frame). session_named h.body h.from h.to) (sym here.1) ∙ belongs in
              absurd (cc)
        ];
        is_one = swap.was_one;
      }

      parts_before : AreSessionsOf with_start
      parts_before = left_parts (seen s r) with_start leaves_start sound.sessions (λ y now there. inl (now, there, λ k. refl))

      -- the number is new
      none_next : r.session x next ≡ None
      none_next = by (r.session x next) refl
        where
          by : (found : Option OpenSession) → r.session x next ≡ found → r.session x next ≡ None
          by None nothing = nothing
          by (Some o) there =
              let place = sound.places x next o there in
              let at = may.acts.is in
              let here = place.is in
              let same : place.state ≡ node = cc in
              let most : next ≤ node.cast_sessions.opened = subst (λ (n : NodeState). next ≤ n.cast_sessions.opened) same place.opened in
              absurd (omega (arith, most))

      -- what is sent, as the node's own
      copies_ask_here : (m : ℕ) (g : Frame) (y : List ℕ) (n : ℕ) → AmongFrames m g sent → Belongs g y n → (y ≡ x) × (n ≡ next)
      copies_ask_here m g y n among belongs =
          let place = copies_ask (name_of node) copy next targets rule.messages copies rule.words s.next acted.sent carried.sent m g y n among
          belongs in
          (place.0 ∙ name_is, place.1)

      rooted : (step : OpensRoot with_start (seen s' r') number f x next sent) × (step.root ≡ remembered_as t opened_now_is)
      rooted =
          opens_root with_start (seen s' r') t (start_sessions p s r x start node may.acts.is) swap parts_before.exact opened_now_is refl
          (opened_now node acted.state (Root (name_of node)) 0 (length targets) cast are_node.cast_sessions are_node.cast_numbers opened_so
          numbers_so)
          refl none_next refl refl (record { none = λ y m o is joiner top. none_of_it y m o is joiner }) copies_ask_here

      step : OpensRoot with_start (seen s' r') number f x next sent
      step = rooted.0

      root_is : step.root ≡ remembered_as t opened_now_is
      unfolding step
      root_is = rooted.1

      number_is : cast_of acted.state next ≡ cast
      number_is =
          cast_of_next node acted.state (Root (name_of node)) 0 (length targets) cast are_node.cast_sessions are_node.cast_numbers opened_so
          numbers_so

      open_here : (o : OpenSession) → r'.session x next ≡ Some o → o ≡ remembered_as t opened_now_is
      open_here o there = let root = step.is in let same : o ≡ step.root = cc in same ∙ root_is

      counts : length (ways_of x next sent) ≡ length targets
      counts =
          ways_by_rule node rule acted x next s.next carried
          (subst (λ z. AreSeenIn (name_of node) rule.messages z next) name_is (copies_in (name_of node) copy next targets rule.messages copies))
          ∙ ap length copies ∙ length-map targets (cast_for copy next)

      above : (target : CastTarget) → IsAmong target targets → 0 < target.level
      above target among = let more = (are target among).0.above in omega (arith, more)

      parts_then : AreSessionsOf (seen s' r')
      parts_then =
          let at = changes_seen s s' r r' x node acted.state changes in
          let grown = (starts p s x start node may.acts.is).sent.next in
          let new = ascend_seen s.next (numbered_from s.next acted.sent) (s.next + length acted.sent) (ascend_numbered s.next acted.sent) in
          let root = step.root in
          let joiner : root.joiner ≡ cast_name cast = ap (λ (o : OpenSession). o.joiner) root_is in
          let deep : root.depth ≡ 0 = ap (λ (o : OpenSession). o.depth) root_is in
          let is_root_open : r'.session (name_of node) next ≡ Some root = ap (λ z. r'.session z next) name_is ∙ step.is in
          rooted_parts with_start (seen s' r') number f sent (subst (λ n. Ascend s.next sent n) (sym grown) new) parts_before
          (copies_deeper (name_of node) copy next targets rule.messages copies rule.words s.next acted.sent carried.sent (seen s' r') root
          is_root_open joiner deep above)
          (copies_about (name_of node) copy next targets rule.messages copies rule.words s.next acted.sent carried.sent (seen s' r') root
          is_root_open joiner deep)
          x next (seen_node node) (seen_node acted.state) opened_now_is step (record { was = at.was; is = at.is; others = at.others })
          (others_stay node acted.state (Root (name_of node)) 0 (length targets) cast are_node.cast_sessions are_node.cast_numbers opened_so
          numbers_so)
          (opened_here node acted.state (Root (name_of node)) 0 (length targets) cast are_node.cast_sessions are_node.cast_numbers opened_so
          numbers_so)
          (record {
            parent = ap (λ c. Root (cast_name c)) number_is ∙ ap kept_parent (sym root_is);
            depth = ap (λ (o : OpenSession). o.depth) (sym root_is);
            waiting = sym counts ∙ ap (λ (o : OpenSession). length o.awaits) (sym root_is);
          })
          (sends_in x next sent (ways_of x next sent) refl (omega (arith, some, counts)))

      casting : StaysCasting node acted.state
      casting = record {
        status = carried.status ∙ status;
        opened = let same = carried.cast_sessions ∙ opens in rw same (omega arith);
        numbers = λ k low high. cast_of_stays node acted.state (cast ∷ []) k (carried.cast_numbers ∙ numbers) low
            (let counted = are_node.cast_numbers in omega (arith, counted, high));
      }

      now_run : RunGoesOn r' cast (run_begun s x level)
      now_run = run_now false news

      new_place : (o : OpenSession) → r'.session x next ≡ Some o → HasCastPlace p s' r' x next o
      new_place o there =
          let same = open_here o there in
          let deep : o.depth ≡ 0 = ap (λ (c : OpenSession). c.depth) same in
          record {
            state = acted.state;
            is = changes.is;
            core = carried.status ∙ status ∙ may.acts.core;
            from = omega arith;
            opened = let now = carried.cast_sessions ∙ opens in rw now (omega arith);
            cast = ap (λ (c : OpenSession). c.joiner) same ∙ ap cast_name (sym number_is);
            run = now_run.now;
            started = ap r'.cast number_is ∙ now_run.is;
            root = λ top. now_run.caster;
            above = λ w k up mine.
                let wrong : ◌≡◌ {A = Option (List ℕ × ℕ)} None (Some (w, k)) =
                sym (ap (λ (c : OpenSession). c.parent) same) ∙ up in
                cc;
            shallow = omega (arith, deep);
          }

      place_now : (y : List ℕ) (m : ℕ) (o : OpenSession) → r'.session y m ≡ Some o → HasCastPlace p s' r' y m o
      place_now y m o there =
          elim (step.others y m) [
            | inl here ↦
                subst (λ z. HasCastPlace p s' r' z m o) (sym here.0)
                (subst (λ k. HasCastPlace p s' r' x k o) (sym here.1)
                (new_place o (ap (λ z. r'.session z next) (sym here.0) ∙ ap (r'.session y) (sym here.1) ∙ there)))
            | inr same ↦
                place_on p s s' r r' x node acted.state changes casting sound (run_on false news) y m o o
                (sound.places y m o (sym same ∙ there)) refl refl refl
          ]

      target_way : (target : CastTarget) → IsAmong target targets → IsCastWay p s' r' x target.to cast target.level 1
      target_way target among =
          let is_target = (are target among).0 in
          let takes = (are target among).1 in
          let level_is = is_target.level in
          let higher = is_target.above in
          let same_level = now_run.level in
          let shares : level ≤ lcp (name_of node) target.to = omega (arith, level_is, higher) in
          record {
            state = takes.state;
            is = elim (changes.others target.to) [
              | inl here ↦ absurd (is_target.other (here ∙ sym name_is))
              | inr same ↦ same ∙ takes.is
            ];
            takes = takes.takes;
            run = now_run.now;
            started = now_run.is;
            from = omega (arith, same_level, higher);
            within = is_target.within;
            begins = subst (λ c. now_run.now.level ≤ lcp c target.to) (name_is ∙ sym now_run.caster) (omega (arith, same_level, shares));
            shallow = omega (arith, higher);
            level_is = sym level_is ∙ ap (λ z. lcp z target.to + 1) name_is;
            sent_within = subst (λ c. now_run.now.level ≤ lcp c x) (sym now_run.caster)
                (let itself = lcp-itself x in let len = (name_at p s nodes x node may.acts.is).len in let most = may.within in
                omega (arith, same_level, itself, len, most));
          }

      sent_way : (m : ℕ) (w to : List ℕ) (c l k d : ℕ) (text : List ℕ)
          → IsSentCast (name_of node) rule.messages (record { from = w; to = to; body = Cast c l k d text }) → IsCastWay p s' r' w to c l d
      sent_way m w to c l k d text is_sent =
          let found = among-map_from (cast_for copy next) is_sent.message targets (subst (IsAmong is_sent.message) copies is_sent.among) in
          let frame = is_sent.is ∙ ap (message_frame (name_of node)) found.2 in
          let from_is : w ≡ x = ap (λ (g : Frame). g.from) frame ∙ name_is in
          let to_is : to ≡ found.0.to = ap (λ (g : Frame). g.to) frame in
          let parts = cast_parts c cast l found.0.level k next d (0 + 1) text word (ap (λ (g : Frame). g.body) frame) in
          let one : d ≡ 1 = parts.2 ∙ (omega arith) in
          rw (from_is, to_is, parts.0, parts.1, one) (target_way found.0 found.1)

      end_now : (d : ℕ) (now : CastRun) → r'.cast d ≡ Some now → HasCastEnd (seen s' r') d now
      end_now d now is = by (start_was_run false news d now is)
        where
          by : HasBecome runs x cast true false d now → HasCastEnd (seen s' r') d now
          by was = elim (cases_Bool (d == cast)) [
            | inl same ↦
                let here = eqb-true d cast same in
                record {
                  open_root = λ goes_on. record {
                    at = x;
                    number = next;
                    session = step.root;
                    is = step.is;
                    joiner = ap (λ (o : OpenSession). o.joiner) root_is ∙ ap cast_name (sym here);
                    top = step.top;
                  };
                  closed = λ over. elim (was.becomes.closed_was over) [
                    | inl before ↦
                        let there : runs cast ≡ Some was.run = ap runs (sym here) ∙ was.was in
                        let begun = begun_here in
                        let it : was.run ≡ run_begun s x level = cc in
                        absurd (true≢false (sym before ∙ ap (λ (run : CastRun). run.closed) it))
                    | inr new ↦ nothing_true new.0
                  ];
                }
            | inr other ↦
                let apart : d ≡ cast → ⊥ = λ here. true≢false (sym (same_number cast) ∙ ap (λ n. n == cast) (sym here) ∙ other) in
                let old = sound.ends d was.run (sym (begun_other d apart) ∙ was.was) in
                record {
                  open_root = λ goes_on.
                      elim (cases_Bool was.run.closed) [
                        | inl over ↦ absurd (true≢false (sym (was.becomes.closed_on over) ∙ goes_on))
                        | inr still ↦ root_then d (old.open_root still)
                      ];
                  closed = λ over.
                      elim (was.becomes.closed_was over) [
                        | inl before ↦ rootless_then d apart (old.closed before)
                        | inr new ↦ absurd (apart new.1)
                      ];
                }
          ]
            where
              root_then : (d : ℕ) → HasRoot (seen s r) (cast_name d) → HasRoot (seen s' r') (cast_name d)
              root_then d root = record {
                at = root.at;
                number = root.number;
                session = root.session;
                is = elim (step.others root.at root.number) [
                  | inl here ↦
                      let there : r.session x next ≡ Some root.session =
                      ap (λ z. r.session z next) (sym here.0) ∙ ap (r.session root.at) (sym here.1) ∙ root.is in
                      let none = none_next in
                      let wrong : ◌≡◌ {A = Option OpenSession} None (Some root.session) = sym none ∙ there in
                      absurd (cc)
                  | inr same ↦ same ∙ root.is
                ];
                joiner = root.joiner;
                top = root.top;
              }

              rootless_then : (d : ℕ) → (d ≡ cast → ⊥) → IsRootless (seen s r) (cast_name d) → IsRootless (seen s' r') (cast_name d)
              rootless_then d apart free = record {
                none = λ y m o there joiner top. elim (step.others y m) [
                  | inl here ↦
                      let mine : r'.session x next ≡ Some o =
                      ap (λ z. r'.session z next) (sym here.0) ∙ ap (r'.session y) (sym here.1) ∙ there in
                      let it = open_here o mine in
                      apart (other_name d (sym joiner ∙ ap (λ (c : OpenSession). c.joiner) it))
                  | inr same ↦ free.none y m o (sym same ∙ there) joiner top
                ];
              }

      pub root_opened : CastSessions p s' r'
      root_opened = record {
        sessions = parts_then;
        places = place_now;
        ways = ways_on p s s' r r' x node acted.state changes casting sound (run_on false news)
            (λ m w to c l k d text among. elim (way_was m w to c l k d text among) [
              | inl old ↦ inl old
              | inr new ↦ inr (sent_way m w to c l k d text new)
            ]);
        ends = end_now;
      }
