-- What the nodes of a system have counted, before a move and after it.
use Rattle.std.proofs.Common.{◌≡◌, ◌⊎◌, inl, inr, ℕ, suc, ◌+◌, ◌-◌, ◌≤◌, List, [], ◌∷◌, ◌++◌, length, get_or, All, Option, None, Some, refl, ap, sym, subst, eqb, ◌∙◌, arith}
use Rattle.std.specs.Prelude.{IfSome}
use Rattle.std.proofs.lemmas.Bool.{cases_Bool}
use Rattle.std.proofs.lemmas.List.{length-append}
use Rattle.std.proofs.lemmas.List.Elements.{All-append, All-cons, All-head, All-nil, All-tail}
use Rattle.tap_name.specs.Settings.{SettingsValue}
use Rattle.tap_cast.specs.Casts.{CastsValue}
use Rattle.tap_wire.specs.declared.frame.Body.{Body}
use Rattle.tap_wire.specs.declared.frame.Frame.{Frame}
use Rattle.tap_rule.specs.Node.{NodeState, joiner}
use Rattle.tap_rule.specs.Event.{Acted, Start}
use Rattle.tap_rule.specs.Event.Event.{Starts, Takes}
use Rattle.tap_rule.specs.Event.Start.{Join}
use Rattle.tap_rule.specs.Act.{act}
use Rattle.tap_safety.specs.Move.Move.{Begins, Delivers}
use Rattle.tap_safety.specs.Moved.{moved, numbered_frame, starter, without_frame}
use Rattle.tap_safety.specs.Exchanges.{numbered_from}
use Rattle.tap_safety.specs.System.{System}
use Rattle.tap_safety.proofs.Moved.{delivers, lost, starts}
use Rattle.tap_safety.proofs.Said.{Said, said_of}
use Rattle.tap_safety.proofs.Said.Said.{IsCast}
use Rattle.tap_readable.proofs.RangeRules.{AreMetTo, IsCastTo, StartsCastTo}
use Rattle.tap_readable.proofs.RangeActs.{AreSentTo, Counts, frame_counts, start_counts, start_opens}

-- What a node has counted if so many steps were run, so many frames were sent, and so many of these are under way. Each session, and each
-- number of its stamp, took a frame that was sent. The first frame of all opened no session of joins, since a start sent it. A pair that
-- is known took a step, or a frame that is no longer under way. And the casts that it has met have at most this number.
pub record HasCounted (n steps sent waiting : ℕ) (node : NodeState) : Type 0 where
  pub sessions : node.sessions.opened ≤ sent - 1
  pub cast_sessions : node.cast_sessions.opened ≤ sent
  pub stamp : node.stamp ≤ sent
  pub pairs : length node.pointers.pairs + waiting ≤ steps + sent
  pub casts : AreMetTo n node.casts

-- each node of the system has counted so; and the copies of casts that are under way are of casts of at most this number
pub record HaveCounted (n steps : ℕ) (s : System) : Type 0 where
  pub nodes : (x : List ℕ) → IfSome (s.node x) (HasCounted n steps s.next (length s.frames))
  pub copies : All (λ f. IsCastTo n f.1.body) s.frames
  pub waiting : length s.frames ≤ s.next

-- ---- more may be counted

-- of casts of a greater number
module _ (n n' : ℕ) (more : n ≤ n') where
  cast_to_more : (f : Frame) → IsCastTo n f.body → IsCastTo n' f.body
  cast_to_more f up = by_said (said_of f.body) up
    where
      by_said : {body : Body} → Said body → IsCastTo n body → IsCastTo n' body
      by_said IsCast up = omega (arith, up, more)
      by_said _ up = tt

  met_to_more : (casts : CastsValue) → AreMetTo n casts → AreMetTo n' casts
  met_to_more casts met = λ k d within. let up = met k d within in omega (arith, up, more)

-- of more steps, more frames sent and fewer under way
counted_on : (n steps sent waiting n' steps' sent' waiting' : ℕ) (node : NodeState) → n ≤ n' → steps ≤ steps' → sent ≤ sent'
    → waiting' + sent ≤ waiting + sent' → HasCounted n steps sent waiting node → HasCounted n' steps' sent' waiting' node
counted_on n steps sent waiting n' steps' sent' waiting' node casts_up steps_up sent_up waiting_down has = record {
  sessions = let least = has.sessions in omega (arith, least, sent_up);
  cast_sessions = let least = has.cast_sessions in omega (arith, least, sent_up);
  stamp = let least = has.stamp in omega (arith, least, sent_up);
  pairs = let least = has.pairs in omega (arith, least, steps_up, waiting_down);
  casts = met_to_more n n' casts_up node.casts has.casts;
}

-- and so the whole system has counted of more steps
pub count_on : (n steps n' steps' : ℕ) (s : System) → n ≤ n' → steps ≤ steps' → HaveCounted n steps s → HaveCounted n' steps' s
count_on n steps n' steps' s casts_up steps_up have = record {
  nodes = λ x. on (s.node x) (have.nodes x);
  copies = λ k d within. cast_to_more n n' casts_up (get_or s.frames k d).1 (have.copies k d within);
  waiting = have.waiting;
}
  where
    on : (node : Option NodeState) → IfSome node (HasCounted n steps s.next (length s.frames))
        → IfSome node (HasCounted n' steps' s.next (length s.frames))
    on None has = tt
    on (Some node) has =
        counted_on n steps s.next (length s.frames) n' steps' s.next (length s.frames) node casts_up steps_up (omega arith)
        (omega arith) has

-- ---- frames

-- a frame that is found is one that is then left out; what holds of the frames holds of it, of those left, and of those sent
module _ (number : ℕ) (frame : Frame) where
  left_out_size : (fs : List (ℕ × Frame)) → numbered_frame number fs ≡ Some frame → length fs ≡ length (without_frame number fs) + 1
  unfolding numbered_frame without_frame
  left_out_size [] is = absurd (cc)
  left_out_size (f ∷ fs) is =
      elim (cases_Bool (eqb f.0 number)) [
        | inl here ↦ rw here (omega arith)
        | inr apart ↦
            let found : numbered_frame number fs ≡ Some frame = rw apart at is in
            let later = left_out_size fs found in
            rw apart (omega (arith, later))
      ]

  found_to : (n : ℕ) (fs : List (ℕ × Frame)) → numbered_frame number fs ≡ Some frame → All (λ f. IsCastTo n f.1.body) fs
      → IsCastTo n frame.body
  unfolding numbered_frame
  found_to n [] is all = absurd (cc)
  found_to n (f ∷ fs) is all =
      elim (cases_Bool (eqb f.0 number)) [
        | inl here ↦
            let found : Some f.1 ≡ Some frame = rw here at is in
            let same : f.1 ≡ frame = cc in
            subst (λ (g : Frame). IsCastTo n g.body) same (All-head (λ f. IsCastTo n f.1.body) f fs all)
        | inr apart ↦
            let found : numbered_frame number fs ≡ Some frame = rw apart at is in
            found_to n fs found (All-tail (λ f. IsCastTo n f.1.body) f fs all)
      ]

left_to : (n number : ℕ) (fs : List (ℕ × Frame)) → All (λ f. IsCastTo n f.1.body) fs
    → All (λ f. IsCastTo n f.1.body) (without_frame number fs)
unfolding without_frame
left_to n number [] all = all
left_to n number (f ∷ fs) all =
    let To : ℕ × Frame → Type 0 = λ f. IsCastTo n f.1.body in
    let rest = left_to n number fs (All-tail To f fs all) in
    elim (cases_Bool (eqb f.0 number)) [
      | inl here ↦ rw here (All-tail To f fs all)
      | inr apart ↦ rw apart (All-cons To f (without_frame number fs) (All-head To f fs all) rest)
    ]

sent_size : (number : ℕ) (frames : List Frame) → length (numbered_from number frames) ≡ length frames
sent_size number [] = refl
sent_size number (frame ∷ frames) = ap suc (sent_size (number + 1) frames)

sent_to : (n number : ℕ) (frames : List Frame) → AreSentTo n frames → All (λ f. IsCastTo n f.1.body) (numbered_from number frames)
sent_to n number [] all = All-nil (λ f. IsCastTo n f.1.body)
sent_to n number (frame ∷ frames) all =
    let To : Frame → Type 0 = λ f. IsCastTo n f.body in
    All-cons (λ f. IsCastTo n f.1.body) (number, frame) (numbered_from (number + 1) frames) (All-head To frame frames all)
    (sent_to n (number + 1) frames (All-tail To frame frames all))

-- ---- a node acts

-- A node has acted, some frames are left and others were sent. Either a step was run, or a frame was taken: so one pair more may be known.
module _ (n steps steps' : ℕ) (s s' : System) (x : List ℕ) (acted : Acted) (kept : List (ℕ × Frame))
    (frames : s'.frames ≡ kept ++ numbered_from s.next acted.sent) (next : s'.next ≡ s.next + length acted.sent)
    (is : s'.node x ≡ Some acted.state) (others : (y : List ℕ) → (y ≡ x) ⊎ (s'.node y ≡ s.node y))
    (steps_up : steps ≤ steps') (one_more : steps + length kept + 1 ≤ steps' + length s.frames)
    (kept_to : All (λ f. IsCastTo n f.1.body) kept) (have : HaveCounted n steps s) where
  -- how many frames are then under way
  frames_size : length s'.frames ≡ length kept + length acted.sent
  frames_size =
      ap length frames ∙ length-append kept (numbered_from s.next acted.sent)
      ∙ ap (λ size. length kept + size) (sent_size s.next acted.sent)

  -- a node that doesn't act
  other_counted : (node : Option NodeState) → IfSome node (HasCounted n steps s.next (length s.frames)) → length kept ≤ length s.frames
      → IfSome node (HasCounted n steps' s'.next (length s'.frames))
  other_counted None has few = tt
  other_counted (Some node) has few =
      let size = frames_size in
      counted_on n steps s.next (length s.frames) n steps' s'.next (length s'.frames) node (omega arith) steps_up
      (omega (arith, next)) (omega (arith, next, size, few)) has

  -- the one that acts, which had counted so before
  acted_counted : (before : NodeState) → HasCounted n steps s.next (length s.frames) before → Counts n before acted
      → acted.state.sessions.opened ≤ s'.next - 1 → HasCounted n steps' s'.next (length s'.frames) acted.state
  acted_counted before had counts opened =
      let size = frames_size in
      record {
        sessions = opened;
        cast_sessions = let least = had.cast_sessions in let less = counts.cast_sessions in omega (arith, least, less, next);
        stamp = let least = had.stamp in let less = counts.stamp in omega (arith, least, less, next);
        pairs = let least = had.pairs in let less = counts.pairs in omega (arith, least, less, next, size, one_more);
        casts = counts.casts;
      }

  -- and so all of them
  have_acted : (before : NodeState) → HasCounted n steps s.next (length s.frames) before → Counts n before acted
      → acted.state.sessions.opened ≤ s'.next - 1 → length kept ≤ length s.frames → HaveCounted n steps' s'
  have_acted before had counts opened few = record {
    nodes = λ y. elim (others y) [
      | inl same ↦ subst (λ z. IfSome (s'.node z) (HasCounted n steps' s'.next (length s'.frames))) (sym same)
          (subst (λ node. IfSome node (HasCounted n steps' s'.next (length s'.frames))) (sym is)
          (acted_counted before had counts opened))
      | inr stays ↦ subst (λ node. IfSome node (HasCounted n steps' s'.next (length s'.frames))) (sym stays)
          (other_counted (s.node y) (have.nodes y) few)
    ];
    copies =
        subst (All (λ f. IsCastTo n f.1.body)) (sym frames)
        (All-append (λ f. IsCastTo n f.1.body) kept (numbered_from s.next acted.sent) kept_to
        (sent_to n s.next acted.sent counts.copies));
    waiting = let size = frames_size in let most = have.waiting in omega (arith, size, next, most, few);
  }

-- ---- moves

module _ (p : SettingsValue) (n steps : ℕ) (s : System) (have : HaveCounted n steps s) where
  -- a joiner has counted nothing
  joiner_counted : (x : List ℕ) → HasCounted n steps s.next (length s.frames) (joiner p x)
  joiner_counted x = record {
    sessions = omega arith;
    cast_sessions = omega arith;
    stamp = omega arith;
    pairs = let most = have.waiting in omega (arith, most);
    casts = All-nil (λ cast. cast ≤ n);
  }

  -- a node that is there
  there_counted : (x : List ℕ) (node : NodeState) (of : Option NodeState) → s.node x ≡ of → of ≡ Some node
      → HasCounted n steps s.next (length s.frames) node
  there_counted x node None at is = absurd (cc)
  there_counted x node (Some other) at is =
      let here : s.node x ≡ Some node = at ∙ is in
      subst (λ found. IfSome found (HasCounted n steps s.next (length s.frames))) here (have.nodes x)

  starter_counted : (x : List ℕ) (start : Start) (node : NodeState) → starter p s x start ≡ Some node
      → HasCounted n steps s.next (length s.frames) node
  starter_counted x (Join via) node is =
      let same : joiner p x ≡ node = cc in subst (HasCounted n steps s.next (length s.frames)) same (joiner_counted x)
  starter_counted x _ node is = there_counted x node (s.node x) refl is

  start_stays : (x : List ℕ) (start : Start) → starter p s x start ≡ None → moved p s (Begins x start) ≡ s
  unfolding moved
  start_stays x start none = rw none refl

  -- a start, with one step more
  starting_by : (x : List ℕ) (start : Start) → StartsCastTo n start → (node : Option NodeState) → starter p s x start ≡ node
      → HaveCounted n (steps + 1) (moved p s (Begins x start))
  starting_by x start up None is =
      subst (HaveCounted n (steps + 1)) (sym (start_stays x start is))
      (count_on n steps n (steps + 1) s (omega arith) (omega arith) have)
  starting_by x start up (Some node) is =
      let did = starts p s x start node is in
      let had = starter_counted x start node is in
      let counts = start_counts n node had.casts start up in
      let opened = start_opens node start in
      let least = had.sessions in
      let next = did.sent.next in
      have_acted n steps (steps + 1) s (moved p s (Begins x start)) x (act node (Starts start)) s.frames did.sent.after next
      did.done.is did.done.others (omega arith) (omega arith) have.copies have node had counts (omega (arith, opened, least, next))
      (omega arith)

  pub starting_counts : (x : List ℕ) (start : Start) → StartsCastTo n start → HaveCounted n (steps + 1) (moved p s (Begins x start))
  starting_counts x start up = starting_by x start up (starter p s x start) refl

  -- a frame is taken
  module _ (number : ℕ) where
    nothing_taken : numbered_frame number s.frames ≡ None → moved p s (Delivers number) ≡ s
    unfolding moved
    nothing_taken none = rw none refl

    module _ (frame : Frame) (found : numbered_frame number s.frames ≡ Some frame) where
      abbrev kept : List (ℕ × Frame)
      kept = without_frame number s.frames

      frames_after : (node : NodeState) → s.node frame.to ≡ Some node
          → (moved p s (Delivers number)).frames ≡ kept ++ numbered_from s.next (act node (Takes frame)).sent
      unfolding moved
      frames_after node at = rw (found, at) refl

      frames_left : s.node frame.to ≡ None → (moved p s (Delivers number)).frames ≡ kept
      unfolding moved
      frames_left nobody = rw (found, nobody) refl

      -- by nobody
      lost_counts : s.node frame.to ≡ None → HaveCounted n steps (moved p s (Delivers number))
      lost_counts nobody =
          let s' = moved p s (Delivers number) in
          let gone = lost p s number frame found nobody in
          let next = gone.taken.next in
          let frames = frames_left nobody in
          let size : length s'.frames ≡ length kept = ap length frames in
          let one = left_out_size number frame s.frames found in
          let most = have.waiting in
          record {
            nodes = λ x. subst (λ node. IfSome node (HasCounted n steps s'.next (length s'.frames))) (sym (gone.node x))
                (on (s.node x) (have.nodes x) (omega (arith, next)) (omega (arith, next, size, one)));
            copies = subst (All (λ f. IsCastTo n f.1.body)) (sym frames) (left_to n number s.frames have.copies);
            waiting = omega (arith, next, size, one, most);
          }
        where
          on : (node : Option NodeState) → IfSome node (HasCounted n steps s.next (length s.frames))
              → s.next ≤ (moved p s (Delivers number)).next
              → length (moved p s (Delivers number)).frames + s.next ≤ length s.frames + (moved p s (Delivers number)).next
              → IfSome node (HasCounted n steps (moved p s (Delivers number)).next (length (moved p s (Delivers number)).frames))
          on None has sent_up waiting_down = tt
          on (Some node) has sent_up waiting_down =
              counted_on n steps _ _ n steps _ _ node (omega arith) (omega arith) sent_up waiting_down has

      -- by its receiver
      heard_counts : (node : NodeState) → s.node frame.to ≡ Some node → HaveCounted n steps (moved p s (Delivers number))
      heard_counts node at =
          let did = delivers p s number frame node found at in
          let had = there_counted frame.to node (s.node frame.to) refl at in
          let counts = frame_counts n node had.casts frame (found_to number frame n s.frames found have.copies) in
          let one = left_out_size number frame s.frames found in
          let most = have.waiting in
          let least = had.sessions in
          let more = counts.sessions in
          let next = did.taken.next in
          have_acted n steps steps s (moved p s (Delivers number)) frame.to (act node (Takes frame)) kept (frames_after node at) next
          did.done.is did.done.others (omega arith) (omega (arith, one)) (left_to n number s.frames have.copies) have node had counts
          (omega (arith, one, most, least, more, next)) (omega (arith, one))

      taken_by : (node : Option NodeState) → s.node frame.to ≡ node → HaveCounted n steps (moved p s (Delivers number))
      taken_by None at = lost_counts at
      taken_by (Some node) at = heard_counts node at

    taking_by : (frame : Option Frame) → numbered_frame number s.frames ≡ frame → HaveCounted n steps (moved p s (Delivers number))
    taking_by None is = subst (HaveCounted n steps) (sym (nothing_taken is)) have
    taking_by (Some frame) is = taken_by frame is (s.node frame.to) refl

    pub taking_counts : HaveCounted n steps (moved p s (Delivers number))
    taking_counts = taking_by (numbered_frame number s.frames) refl
