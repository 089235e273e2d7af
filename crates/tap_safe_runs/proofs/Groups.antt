-- In a course the core names are distinct, and a join is given up exactly if the log says so.
use Rattle.std.proofs.Common.{◌≡◌, ◌⊎◌, inl, inr, ℕ, ◌≤◌, Bool, true, false, not, List, [], ◌∷◌, ◌++◌, length, All, Option, None, Some, refl, ap, sym, subst, ◌∙◌}
use Rattle.std.specs.Prelude.{◌&&◌, ◌||◌, if◌then◌else◌}
use Rattle.std.specs.List.{filter_map}
use Rattle.std.proofs.lemmas.Bool.{cases_Bool}
use Rattle.tap_name.specs.Names.{are_distinct, has_name}
use Rattle.tap_name.specs.Settings.{SettingsValue}
use Rattle.tap_name.proofs.Membership.{are_distinct-Decides}
use Rattle.tap_scenario.specs.declared.step.Step.{Step}
use Rattle.tap_scenario.specs.declared.step.Step.TheVariants.{Abandon}
use Rattle.tap_wire.specs.declared.frame.Frame.{Frame}
use Rattle.tap_log.specs.declared.record.Record.{Record}
use Rattle.tap_log.specs.declared.record.Record.TheVariants.{Step as StepRecord, Taken}
use Rattle.tap_log.specs.Counts.{sent_count}
use Rattle.tap_log.specs.Kinds.{abandoned_name, core_name, is_carried}
use Rattle.tap_history.specs.Core.{abandoned_of, core_of}
use Rattle.tap_history.specs.GroupLaws.{IsGroup}
use Rattle.tap_history.specs.Groups.{is_ended}
use Rattle.tap_history.specs.Refusals.{first_refusal}
use Rattle.tap_history.specs.StepAsks.{abandon_name, asked_node}
use Rattle.tap_history.proofs.RecordChanges.{record_changes_hold}
use Rattle.tap_rule.specs.Act.{act}
use Rattle.tap_rule.specs.Event.{News}
use Rattle.tap_rule.specs.Event.Event.{Starts, Takes}
use Rattle.tap_rule.specs.Event.Start.{Abandon as StartAbandon}
use Rattle.tap_rule.specs.Node.{NodeState, Status, joiner, member_at_rest}
use Rattle.tap_rule.specs.Node.Status.{Ceased, Core, Gone, Joining, Leaving}
use Rattle.tap_rule.proofs.StartSteps.{give_up_law}
use Rattle.tap_safety.specs.Move.Move.{Begins, Delivers}
use Rattle.tap_safety.specs.Moved.{moved, numbered_frame, starter}
use Rattle.tap_safety.specs.System.{System}
use Rattle.tap_safety.proofs.Moved.{delivers, lost, starts}
use Rattle.tap_runs.specs.Acts.{acted_records}
use Rattle.tap_runs.specs.Beginning.{Beginning, begin_record}
use Rattle.tap_runs.specs.Course.{Follows, IsCourse, MayFollow, move_of_group, moved_by, system_of}
use Rattle.tap_runs.specs.Group.{received_records, records_of_act, start_at}
use Rattle.tap_runs.specs.Observed.{counts_as_core, has_ended, is_core_node}
use Rattle.tap_runs.specs.Starts.{announced}
use Rattle.tap_runs.proofs.Frames.{none_of, starting_moves, step_moves, taken_moves}
use Rattle.tap_runs.proofs.CourseGrows.{by_groups, grown_system, start_system, starts_begun, starts_uncarried}
use Rattle.tap_runs.proofs.Nodes.{Agree, asked_is_present, nodes_agree, one_if, starts_of, step_begins, taken_begins}
use Rattle.tap_runs.proofs.Status.{IsNoted, frame_noted, start_noted, tells_core, tells_gone}
use Rattle.tap_runs.proofs.Within.{IsIdle, IsStarting, Within, is_group, step_kind, step_within, taken_within}
use Rattle.tap_safe_runs.proofs.Accepted.{gives_up_joining}
use Rattle.tap_safe_runs.proofs.Distinct.{distinct_after}
use Rattle.tap_safe_runs.proofs.GivenUp.{GivesUp, GoesOn, frame_goes_on, start_goes_on}
use Rattle.tap_safe_runs.proofs.There.{IsJoiningNode, joining_there}
use Rattle.tap_safe_runs.proofs.ToldCore.{abandons, announced_given, core_alone, core_started, core_step, core_taken, given_alone, given_announced, given_idle, given_started, given_taken, giving_up, said_before, said_now, said_where}

-- ---- nodes whose join is given up

-- the node has ended, or it joins and its join is given up
abbrev HasGivenUp : NodeState → Type 0
HasGivenUp node = (has_ended node.status ≡ true) ⊎ ((node.status ≡ Joining) × (node.abandoned ≡ true))

-- there is such a node of this name
pub record IsGivenUp (s : System) (x : List ℕ) : Type 0 where
  pub state : NodeState
  pub is : s.node x ≡ Some state
  pub so : HasGivenUp state

-- who is neither core nor has ended joins
joins_if : (status : Status) → counts_as_core status ≡ false → has_ended status ≡ false → status ≡ Joining
joins_if Joining core ended = refl
joins_if Core core ended = absurd (cc)
joins_if Leaving core ended = absurd (cc)
joins_if Gone core ended = absurd (cc)
joins_if Ceased core ended = absurd (cc)

-- it stays so, whatever its node does
stays_given_up : (gives_up : Type 0) (before after : NodeState) (news : News) → GoesOn gives_up before after news
    → IsNoted before.status after.status news → HasGivenUp before → HasGivenUp after
stays_given_up gives_up before after news on noted (inl ended) = inl (noted.ended ∙ ap (λ b. b || tells_gone news) ended)
stays_given_up gives_up before after news on noted (inr (joins, given_up)) =
    elim (cases_Bool (has_ended after.status)) [
      | inl ended ↦ inl ended
      | inr runs ↦
          let quiet : tells_core news ≡ false = elim (cases_Bool (tells_core news)) [
            | inl core ↦ let wrong : true ≡ false = sym given_up ∙ (on.core core).1 in absurd (cc)
            | inr none ↦ none
          ] in
          let core : counts_as_core after.status ≡ false =
          noted.core ∙ ap (λ b. (counts_as_core before.status || b) && not (tells_gone news)) quiet
          ∙ ap (λ s. (counts_as_core s || false) && not (tells_gone news)) joins in
          inr (joins_if after.status core runs, on.stays given_up runs)
    ]

-- ---- one more group

-- The core names of the log are distinct. A join is given up only if the log says so, and whoever is said to have given up has ended, or
-- joins and is to give up.
pub record IsTold (log : List Record) (s : System) : Type 0 where
  pub distinct : are_distinct (core_of log) ≡ true
  pub said : (x : List ℕ) (node : NodeState) → s.node x ≡ Some node → node.abandoned ≡ true → has_name (abandoned_of log) x ≡ true
  pub given_up : (x : List ℕ) → has_name (abandoned_of log) x ≡ true → IsGivenUp s x

-- a group in which the node of a name acts, which was there, or is new and hasn't given up
record IsActing (gives_up : Type 0) (group : List Record) (s s' : System) : Type 0 where
  name : List ℕ
  node : NodeState
  now : NodeState
  news : News
  on : GoesOn gives_up node now news
  noted : IsNoted node.status now.status news
  was : ((s.node name ≡ None) × (node.abandoned ≡ false)) ⊎ (s.node name ≡ Some node)
  core : filter_map core_name group ≡ one_if (tells_core news) name
  gives : gives_up → has_name (abandoned_of group) name ≡ true
  given : (x : List ℕ) → has_name (abandoned_of group) x ≡ true → (x ≡ name) × HasGivenUp now
  is : s'.node name ≡ Some now
  others : (y : List ℕ) → (y ≡ name) ⊎ (s'.node y ≡ s.node y)

-- no name is among none
no_name : (x : List ℕ) (names : List (List ℕ)) → names ≡ [] → has_name names x ≡ true → ⊥
no_name x names none has = let wrong : false ≡ true = sym (ap (λ l. has_name l x) none) ∙ has in cc

module _ (p : SettingsValue) (log : List Record) (s : System) (begun : 1 ≤ length log) (uncarried : is_carried log ≡ false)
    (agree : Agree log s) (told : IsTold log s) where
  -- a group that tells of no node
  same_told : (first : Record) (after : List Record) (s' : System) → IsGroup log first after → filter_map core_name (first ∷ after) ≡ []
      → abandoned_of (first ∷ after) ≡ [] → ((x : List ℕ) → s'.node x ≡ s.node x) → IsTold (log ++ first ∷ after) s'
  same_told first after s' group none silent same = record {
    distinct =
        distinct_after log first after group (record { name = []; comes = false; is = none; new = λ comes. absurd (cc) }) told.distinct;
    said = λ x node is given_up. said_before log (first ∷ after) x (told.said x node (sym (same x) ∙ is) given_up);
    given_up = λ x is. elim (said_where log (first ∷ after) x is) [
      | inl before ↦
          let has = told.given_up x before in
          record { state = has.state; is = same x ∙ has.is; so = has.so }
      | inr now ↦ absurd (no_name x (abandoned_of (first ∷ after)) silent now)
    ];
  }

  -- a group in which a node acts
  module _ (gives_up : Type 0) (first : Record) (after : List Record) (s' : System) (group : IsGroup log first after)
      (acting : IsActing gives_up (first ∷ after) s s') where
    -- who becomes core wasn't
    wasnt_core : acting.node.status ≡ Joining → has_name (core_of log) acting.name ≡ false
    wasnt_core joins =
        elim acting.was [
          | inl new ↦ agree.core acting.name ∙ ap is_core_node new.0
          | inr there ↦ agree.core acting.name ∙ ap is_core_node there ∙ ap counts_as_core joins
        ]

    -- of the node that acts: its join is given up only if the log says so
    said_here : acting.now.abandoned ≡ true → has_name (abandoned_of (log ++ first ∷ after)) acting.name ≡ true
    said_here given_up =
        elim (acting.on.given_up given_up) [
          | inl before ↦ elim acting.was [
            | inl new ↦ let wrong : true ≡ false = sym before ∙ new.1 in absurd (cc)
            | inr there ↦ said_before log (first ∷ after) acting.name (told.said acting.name acting.node there before)
          ]
          | inr gives ↦ said_now log (first ∷ after) acting.name (acting.gives gives)
        ]

    -- of the node that acts
    given_here : has_name (abandoned_of log) acting.name ≡ true → IsGivenUp s' acting.name
    given_here before =
        let has = told.given_up acting.name before in
        elim acting.was [
          | inl new ↦ let wrong : None ≡ Some has.state = sym new.0 ∙ has.is in absurd (cc)
          | inr there ↦
              let same : has.state ≡ acting.node = let one : Some has.state ≡ Some acting.node = sym has.is ∙ there in cc in
              record {
                state = acting.now;
                is = acting.is;
                so = stays_given_up gives_up acting.node acting.now acting.news acting.on acting.noted (subst HasGivenUp same has.so);
              }
        ]

    -- whoever was said to give up before still gives up, or has ended
    given_up_before : (x : List ℕ) → has_name (abandoned_of log) x ≡ true → IsGivenUp s' x
    given_up_before x before =
        elim (acting.others x) [
          | inl same ↦
              subst (IsGivenUp s') (sym same) (given_here (subst (λ y. has_name (abandoned_of log) y ≡ true) same before))
          | inr stays ↦
              let has = told.given_up x before in
              record { state = has.state; is = stays ∙ has.is; so = has.so }
        ]

    -- and so does whoever is said to now
    given_up_after : (x : List ℕ) → has_name (abandoned_of (log ++ first ∷ after)) x ≡ true → IsGivenUp s' x
    given_up_after x is =
        elim (said_where log (first ∷ after) x is) [
          | inl before ↦ given_up_before x before
          | inr now ↦
              let given = acting.given x now in
              record { state = acting.now; is = ap s'.node given.0 ∙ acting.is; so = given.1 }
        ]

    -- so the log tells of nodes as before
    acts_told : IsTold (log ++ first ∷ after) s'
    acts_told = record {
      distinct = distinct_after log first after group (record {
        name = acting.name;
        comes = tells_core acting.news;
        is = acting.core;
        new = λ comes. wasnt_core (acting.on.core comes).0;
      }) told.distinct;
      said = λ x other there given_up. elim (acting.others x) [
        | inl same ↦
            let found : Some acting.now ≡ Some other = sym acting.is ∙ ap s'.node (sym same) ∙ there in
            let one : acting.now ≡ other = cc in
            subst (λ y. has_name (abandoned_of (log ++ first ∷ after)) y ≡ true) (sym same)
            (said_here (ap (λ (n : NodeState). n.abandoned) one ∙ given_up))
        | inr stays ↦ said_before log (first ∷ after) x (told.said x other (sym stays ∙ there) given_up)
      ];
      given_up = given_up_after;
    }

  -- ---- a step

  -- who is to give its join up joins
  gives_up_joins : (name : List ℕ) → first_refusal log (Abandon name) ≡ None → IsJoiningNode s name
  unfolding asked_node abandon_name
  gives_up_joins name accepted =
      joining_there s name (sym (agree.present name) ∙ asked_is_present log (Abandon name) name accepted refl)
      (sym (agree.core name) ∙ gives_up_joining log (Abandon name) accepted name refl)

  module _ (index : ℕ) (step : Step) (items : List Record) (within : All Within items) where
    -- the records of a step are a group
    step_group : IsGroup log (StepRecord index step) items
    step_group = is_group log (StepRecord index step) items begun uncarried (step_begins index step) within

    -- a step that moves nothing
    idle_told : IsIdle log step items → abandoned_of (StepRecord index step ∷ items) ≡ [] → IsTold (log ++ StepRecord index step ∷ items) s
    idle_told idle silent =
        same_told (StepRecord index step) items s step_group
        (core_step index step items ∙ none_of core_name items (λ k d there. (idle.quiet k d there).core)) silent (λ x. refl)

  module _ (index : ℕ) (step : Step) (items : List Record) (within : All Within items) (starting : IsStarting p log s step items) where
    abbrev does : NodeState → List Record
    does node = announced log step ++ acted_records p (sent_count log) starting.name (act node (Starts starting.start))

    abbrev begun_so : System
    begun_so = moved p s (Begins starting.name starting.start)

    module _ (node : NodeState) (begins : starter p s starting.name starting.start ≡ Some node)
        (was : ((s.node starting.name ≡ None) × (node.abandoned ≡ false)) ⊎ (s.node starting.name ≡ Some node)) where
      abbrev left : NodeState
      left = (act node (Starts starting.start)).state

      gives_so : GivesUp starting.start → has_name (abandoned_of (StepRecord index step ∷ does node)) starting.name ≡ true
      gives_so gives =
          ap (λ l. has_name l starting.name)
          (given_started p log index step (sent_count log) starting.name (act node (Starts starting.start)))
          ∙ ap (λ st. has_name (abandoned_of (announced log st)) starting.name)
          (giving_up log step starting.name starting.start starting.at gives)
          ∙ given_announced log starting.name

      -- whoever the step says to give up is the node that starts it, and does
      given_so : (x : List ℕ) → step ≡ Abandon x → (x ≡ starting.name) × HasGivenUp left
      given_so x is =
          let at : start_at log (Abandon x) ≡ Some (starting.name, starting.start) =
          sym (ap (start_at log) is) ∙ starting.at in
          let both = abandons log x starting.name starting.start at in
          let joins = gives_up_joins x (sym (ap (first_refusal log) is) ∙ starting.accepted) in
          let here : s.node starting.name ≡ Some joins.state = sym (ap s.node both.0) ∙ joins.is in
          let status : node.status ≡ Joining = elim was [
            | inl new ↦ let wrong : None ≡ Some joins.state = sym new.0 ∙ here in absurd (cc)
            | inr there ↦
                let one : Some joins.state ≡ Some node = sym here ∙ there in
                let same : joins.state ≡ node = cc in
                ap (λ (n : NodeState). n.status) (sym same) ∙ joins.joining
          ] in
          let law = give_up_law node status in
          let up : HasGivenUp (act node (Starts StartAbandon)).state = inr (law.status ∙ status, law.abandoned) in
          (both.0, subst (λ start. HasGivenUp (act node (Starts start)).state) both.1 up)

      acting_start : IsActing (GivesUp starting.start) (StepRecord index step ∷ does node) s begun_so
      acting_start =
          let did = (starts p s starting.name starting.start node begins).done in
          let acted = act node (Starts starting.start) in
          record {
            name = starting.name;
            node = node;
            now = left;
            news = acted.news;
            on = start_goes_on node starting.start;
            noted = start_noted node starting.start;
            was = was;
            core = core_started p log index step (sent_count log) starting.name acted;
            gives = gives_so;
            given = λ x has.
                given_so x (announced_given log step x
                (sym (ap (λ l. has_name l x) (given_started p log index step (sent_count log) starting.name acted)) ∙ has));
            is = did.is;
            others = did.others;
          }

      starts_told : IsTold (log ++ StepRecord index step ∷ items) begun_so
      starts_told =
          let are : items ≡ does node =
          starting.are ∙ ap (λ n. announced log step ++ records_of_act p log starting.name n (Starts starting.start)) begins in
          subst (λ l. IsTold (log ++ StepRecord index step ∷ l) begun_so) (sym are)
          (acts_told (GivesUp starting.start) (StepRecord index step) (does node) begun_so
          (step_group index step (does node) (subst (All Within) are within)) acting_start)

    -- and of either kind: the node is new, or was there
    starting_told : IsTold (log ++ StepRecord index step ∷ items) begun_so
    starting_told =
        elim (starts_of p log s agree step starting.name starting.start starting.accepted starting.at) [
          | inl new ↦ starts_told (joiner p starting.name) (ap (starter p s starting.name) new.start_is) (inl (new.none, refl))
          | inr there ↦ starts_told there.node there.starts (inr there.is)
        ]

  -- ---- a frame that is taken: no node is told of if there is no such frame, or if its receiver is none
  module _ (number : ℕ) where
    -- the records of a frame that is taken are a group
    taken_group : (items : List Record) → All Within items → IsGroup log (Taken number) items
    taken_group items within = is_group log (Taken number) items begun uncarried (taken_begins number) within

    -- without such a frame nothing changes
    nothing_taken : numbered_frame number s.frames ≡ None → moved p s (Delivers number) ≡ s
    unfolding moved
    nothing_taken is = rw is refl

    -- the receiver acts
    receiver_told : (frame : Frame) (node : NodeState) → numbered_frame number s.frames ≡ Some frame → s.node frame.to ≡ Some node
        → All Within (acted_records p (sent_count log) frame.to (act node (Takes frame)))
        → IsTold (log ++ Taken number ∷ acted_records p (sent_count log) frame.to (act node (Takes frame))) (moved p s (Delivers number))
    receiver_told frame node is at within =
        let did = (delivers p s number frame node is at).done in
        let acted = act node (Takes frame) in
        let records = acted_records p (sent_count log) frame.to acted in
        acts_told ⊥ (Taken number) records (moved p s (Delivers number)) (taken_group records within) (record {
          name = frame.to;
          node = node;
          now = acted.state;
          news = acted.news;
          on = frame_goes_on node frame;
          noted = frame_noted node frame;
          was = inr at;
          core = core_taken p number (sent_count log) frame.to acted;
          gives = λ never. absurd never;
          given = λ x has.
              absurd (no_name x (abandoned_of (Taken number ∷ records)) (given_taken p number (sent_count log) frame.to acted) has);
          is = did.is;
          others = did.others;
        })

    -- a frame, if there is one
    taken_told : (frame : Option Frame) → numbered_frame number s.frames ≡ frame → All Within (received_records p log s frame)
        → IsTold (log ++ Taken number ∷ received_records p log s frame) (moved p s (Delivers number))
    taken_told None is within =
        same_told (Taken number) [] (moved p s (Delivers number)) (taken_group [] within) (core_alone number) (given_alone number)
        (λ x. ap (λ t. t.node x) (nothing_taken is))
    taken_told (Some frame) is within = by_node (s.node frame.to) refl within
      where
        by_node : (node : Option NodeState) → s.node frame.to ≡ node → All Within (records_of_act p log frame.to node (Takes frame))
            → IsTold (log ++ Taken number ∷ records_of_act p log frame.to node (Takes frame)) (moved p s (Delivers number))
        by_node None at all =
            same_told (Taken number) [] (moved p s (Delivers number)) (taken_group [] all) (core_alone number) (given_alone number)
            (lost p s number frame is at).node
        by_node (Some node) at all = receiver_told frame node is at all

  -- each group that may follow
  told_step : (group : List Record) → MayFollow p log s group → IsTold (log ++ group) (moved_by p s (move_of_group log group))
  unfolding MayFollow
  told_step (StepRecord index step ∷ items) may =
      let within = step_within p log s index step items may in
      elim (step_kind p log s index step items may) [
        | inl idle ↦
            subst (λ m. IsTold (log ++ StepRecord index step ∷ items) (moved_by p s m)) (sym (step_moves log index step items ∙ idle.still))
            (idle_told index step items within idle (given_idle p log s index step items idle.still may))
        | inr starting ↦
            subst (λ m. IsTold (log ++ StepRecord index step ∷ items) (moved_by p s m))
            (sym (starting_moves p log s index step items starting))
            (starting_told index step items within starting)
      ]
  told_step (Taken number ∷ items) may =
      let within = subst (All Within) may.are (taken_within p log s number items may) in
      subst (λ m. IsTold (log ++ Taken number ∷ items) (moved_by p s m)) (sym (taken_moves log number items))
      (subst (λ l. IsTold (log ++ Taken number ∷ l) (moved p s (Delivers number))) (sym may.are)
      (taken_told number (numbered_frame number s.frames) refl within))
  told_step group may = absurd may

-- ---- a course

module _ (b : Beginning) where
  -- no member's join is given up
  member_goes_on : (there : Bool) (x : List ℕ) (node : NodeState)
      → (if there then Some (member_at_rest b.settings b.members x) else None) ≡ Some node → node.abandoned ≡ false
  member_goes_on true x node is =
      let same : member_at_rest b.settings b.members x ≡ node = cc in ap (λ (n : NodeState). n.abandoned) (sym same)
  member_goes_on false x node is = absurd (cc)

  -- the beginning says of nobody to give up
  none_given : abandoned_of (begin_record b ∷ []) ≡ []
  unfolding abandoned_name
  none_given = refl

  -- the beginning
  begin_told : are_distinct b.members ≡ true → IsTold (begin_record b ∷ []) (system_of (begin_record b ∷ []))
  begin_told distinct =
      subst (IsTold (begin_record b ∷ [])) (sym (start_system b)) (record {
        distinct = ap are_distinct (record_changes_hold.begins b.settings b.frames b.members).core ∙ distinct;
        said = λ x node is given_up.
            let wrong : true ≡ false = sym given_up ∙ member_goes_on (has_name b.members x) x node is in absurd (cc);
        given_up = λ x is. absurd (no_name x (abandoned_of (begin_record b ∷ [])) none_given is);
      })

  -- one more group of a course
  told_grow : (log group : List Record) → IsCourse b log → is_ended log ≡ false → Follows b log group → IsTold log (system_of log)
      → IsTold (log ++ group) (system_of (log ++ group))
  told_grow log group course going follows told =
      subst (IsTold (log ++ group)) (sym (grown_system b log group course going follows))
      (told_step b.settings log (system_of log) (starts_begun log (begin_record b) course.begins)
      (starts_uncarried log (begin_record b) course.begins) (nodes_agree b log course going) told group follows.may)

  -- so it is in each course
  pub is_told : (log : List Record) → IsCourse b log → is_ended log ≡ false → IsTold log (system_of log)
  is_told log course going =
      by_groups b (λ l. IsTold l (system_of l)) told_grow (begin_told ((are_distinct-Decides b.members).1 course.limits.distinct))
      log course going
