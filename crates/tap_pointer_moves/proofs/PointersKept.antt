-- Pointers stand at rest, and after each possible move.
-- Cited above: pointers_at_rest, pointers_kept
use Rattle.std.proofs.Common.{false, ◌≡◌, ◌⊎◌, ℕ, ◌+◌, ◌≤◌, List, [], ◌∷◌, ◌++◌, Option, None, Some, refl, ap, sym, subst, ◌∙◌, inl, inr}
use Rattle.tap_name.specs.Name.{IsName}
use Rattle.tap_name.specs.Order.{name_cmp}
use Rattle.tap_name.specs.Settings.{AreWithinLimits, SettingsValue}
use Rattle.tap_register.specs.Registers.{IsAscending}
use Rattle.tap_pointer.specs.declared.hop.Hop.{Hop}
use Rattle.tap_pointer.specs.declared.pair.Pair.{Pair}
use Rattle.tap_pointer.specs.Due.{hop_due}
use Rattle.tap_wire.specs.Spelling.{IsBody}
use Rattle.tap_wire.specs.declared.frame.Body.{Body}
use Rattle.tap_wire.specs.declared.frame.Body.TheVariants.{Lay}
use Rattle.tap_wire.specs.declared.frame.Frame.{Frame}
use Rattle.tap_rule.specs.Act.{act}
use Rattle.tap_rule.specs.Event.{Acted, Start}
use Rattle.tap_rule.specs.Event.Event.{Starts, Takes}
use Rattle.tap_rule.specs.Event.Start.{Abandon, Cast, Find, Join, Leave, Publish, Withdraw}
use Rattle.tap_rule.specs.KeptNode.{IsNode}
use Rattle.tap_rule.specs.Node.{IsRunning, NodeState, Status, joiner}
use Rattle.tap_rule.specs.Node.Status.{Ceased, Core, Gone, Joining, Leaving}
use Rattle.tap_rule.specs.Sent.{IsAmong}
use Rattle.tap_rule.specs.StartRules.{rule_of_start}
use Rattle.tap_rule.specs.Casts.{starts_cast}
use Rattle.tap_rule.specs.Ceasing.{starts_abandon}
use Rattle.tap_rule.specs.Joining.{starts_join}
use Rattle.tap_rule.specs.Leaving.{starts_leave}
use Rattle.tap_rule.specs.Pointers.{starts_find, starts_publish, starts_withdraw}
use Rattle.tap_rule.specs.Reaction.{Reaction}
use Rattle.tap_rule.proofs.KeptNode.{joiner_law}
use Rattle.tap_rule.proofs.StartSteps.{seek_start_law}
use Rattle.tap_pointer.proofs.Due.{none_due}
use Rattle.tap_safety.specs.AtRest.{system_at_rest}
use Rattle.tap_safety.specs.Move.{Move, may_start}
use Rattle.tap_safety.specs.Move.Move.{Begins, Delivers}
use Rattle.tap_safety.specs.Moved.{moved, starter}
use Rattle.tap_safety.specs.Seeking.{HasNode}
use Rattle.tap_safety.specs.Exchanges.{numbered_from}
use Rattle.tap_safety.specs.System.{System, AmongFrames}
use Rattle.tap_safety.specs.Ties.{IsOnWay, hears_words, status_in, status_of}
use Rattle.tap_safety.proofs.Moved.{delivers, found, starts}
use Rattle.tap_moves.specs.Delivered.{after_delivery, after_start}
use Rattle.tap_moves.specs.KnownNames.{IsNodeOf}
use Rattle.tap_moves.proofs.Exchanged.{exchanges, in_either, in_first, sent_numbered}
use Rattle.tap_safety_moves.specs.SoundMoves.{after_moves, may_run}
use Rattle.tap_safety_moves.specs.Sound.{Sound}
use Rattle.tap_safety_moves.proofs.Consequences.{none_is_strange}
use Rattle.tap_safety_moves.proofs.Members.{node_is_member, sound_at_rest}
use Rattle.tap_safety_moves.proofs.SoundMoves.{move_keeps}
use Rattle.tap_pointer_moves.specs.PointersKept.{PointersAtRest, PointersKept, PointersStandInRuns}
use Rattle.tap_pointer_moves.specs.Said.{IsLastLay, IsLaySaid, LayWord, laid_in, laid_of, lay_word_frame, pointer_register_of, word_kept_in}
use Rattle.tap_pointer_moves.specs.LaysTold.{HasNoPointers, IsSeasoned, PointersStand, hop_at}
use Rattle.tap_pointer_moves.proofs.Hearing.{publishes, registers_of}
use Rattle.tap_pointer_moves.proofs.PointerRules.{IsNoLay, KnowsByStatus, nothing_published}
use Rattle.tap_pointer_moves.proofs.PointerRules as rules
use Rattle.tap_pointer_moves.proofs.ActsKeep.{Acts, acts_keeps}
use Rattle.tap_pointer_moves.proofs.Turns.{IsHeard, Says, StartTurns, frame_turns, lay_saying, none_ascend, nothing_kept, nothing_laid, start_turns}
use Rattle.tap_pointer_moves.proofs.Wanted.{laid_at_core, laid_at_seasoned}

-- ---- frames that are sent

in_second : (m : ℕ) (f : Frame) (xs ys : List (ℕ × Frame)) → AmongFrames m f ys → AmongFrames m f (xs ++ ys)
in_second m f [] ys among = among
in_second m f (x ∷ xs) ys among = inr (in_second m f xs ys among)

numbered_sent : (f : Frame) (next : ℕ) (sent : List Frame) → IsAmong f sent → (m : ℕ) × AmongFrames m f (numbered_from next sent)
numbered_sent f next [] among = absurd among
numbered_sent f next (g ∷ gs) (inl is) = (next, inl (refl, is))
numbered_sent f next (g ∷ gs) (inr later) = let rest = numbered_sent f (next + 1) gs later in (rest.0, inr rest.1)

-- ---- a frame

-- a body is a Lay, or none
record SaysLay (body : Body) : Type 0 where
  pair : Pair
  word : LayWord
  is : body ≡ Lay pair.object pair.server word.level word.version word.on

lay_or_not : (body : Body) → IsNoLay body ⊎ SaysLay body
lay_or_not (Lay object server level version on) =
    inr (record {
      pair = record { object = object; server = server };
      word = record { version = version; level = level; on = on };
      is = refl;
    })
lay_or_not _ = inl tt

late_runs : (status : Status) → IsSeasoned status → IsRunning status → (status ≡ Core) ⊎ (status ≡ Leaving)
late_runs Joining seasoned runs = absurd seasoned
late_runs Core seasoned runs = inl refl
late_runs Leaving seasoned runs = inr refl
late_runs Gone seasoned runs = absurd runs
late_runs Ceased seasoned runs = absurd seasoned

module _ (p : SettingsValue) (s : System) (number : ℕ) (frame : Frame) (node : NodeState) (sound : Sound p s) (stand : PointersStand s)
    (among : AmongFrames number frame s.frames) (at : s.node frame.to ≡ Some node) where
  pub of : IsNodeOf p frame.to node
  of = sound.nodes.nodes frame.to node at

  pub without : KnowsByStatus node
  without = record {
    none = λ none. stand.nothing.nothing frame.to node at none;
    leaver = λ leaving pair. stand.leavers.unpublished frame.to node pair at leaving;
  }

  level_fits : (body : Body) → IsBody p body → rules.HasLevel node of.is_node without frame.from body
  level_fits (Lay object server level version on) is =
      let len = is.0.len in (is.2.0, subst (λ n. level ≤ n) (sym len) is.2.1)
  level_fits _ is = tt

  lay_is : SaysLay frame.body → (lay : SaysLay frame.body) × (frame ≡ lay_word_frame frame.from frame.to lay.pair lay.word)
  lay_is lay = (lay, ap (λ b. record { from = frame.from; to = frame.to; body = b }) lay.is)

  heard : IsHeard node of.is_node without frame
  heard = record {
    levels = level_fits frame.body (sound.invariant.basis.spelled.each number frame among).body;
    ruled = λ runs. elim (lay_or_not frame.body) [
      | inl no_lay ↦ inl no_lay
      | inr lay ↦
          let is = lay_is lay in
          let way : IsOnWay s (lay_word_frame frame.from frame.to is.0.pair is.0.word) =
          record { number = number; among = subst (λ f. AmongFrames number f s.frames) is.1 among } in
          let ends = stand.ends.ends frame.from frame.to is.0.pair is.0.word way in
          let one : Some ends.state ≡ Some node = sym ends.is ∙ at in
          let same : ends.state ≡ node = cc in
          let seasoned : IsSeasoned node.status = subst (λ (n : NodeState). IsSeasoned n.status) same ends.seasoned in
          inr (late_runs node.status seasoned runs, none_is_strange p s number frame node sound among at)
    ];
  }

  pub acts : Acts (Says node of.is_node without frame) (publishes node.pointers) s (after_delivery p s number) frame.to node
      (act node (Takes frame))
  acts =
      let s' = after_delivery p s number in
      let acted = act node (Takes frame) in
      let step = delivers p s number frame node (found number frame 0 s.frames s.next sound.invariant.basis.numbered.numbers among) at in
      let frames = exchanges s s' number frame acted.sent step.taken sound.invariant.basis.numbered in
      record {
        own = of.name;
        at = step.at;
        turn = frame_turns node of.is_node without frame heard;
        came = λ x t pair word way. elim (frames.was way.number (lay_word_frame x t pair word) way.among) [
          | inl old ↦ inl (record { number = way.number; among = old })
          | inr new ↦ inr (sent_numbered way.number (lay_word_frame x t pair word) s.next acted.sent new)
        ];
        sent = λ f is.
            let numbered = numbered_sent f s.next acted.sent is in
            record { number = numbered.0; among = frames.sends numbered.0 f numbered.1 };
        still = λ x t pair word way. elim (frames.still way.number (lay_word_frame x t pair word) way.among) [
          | inl same ↦
              let there : AmongFrames number (lay_word_frame x t pair word) s.frames =
              subst (λ m. AmongFrames m (lay_word_frame x t pair word) s.frames) same way.among in
              let one : lay_word_frame x t pair word ≡ frame = frames.was_one number (lay_word_frame x t pair word) frame there among in
              inr (
                ap (λ (f : Frame). f.to) one,
                (ap (λ (f : Frame). f.from) one, sym (ap (λ (f : Frame). f.body) one)),
              )
          | inr stays ↦ inl (record { number = way.number; among = stays })
        ];
        taken = λ x pair word says.
            let is : frame ≡ lay_word_frame x frame.to pair word =
            ap (λ y. record { from = y; to = frame.to; body = frame.body }) (sym says.0)
            ∙ ap (λ b. record { from = x; to = frame.to; body = b }) says.1 in
            record { number = number; among = subst (λ f. AmongFrames number f s.frames) is among };
      }

  pub delivered_stand : Sound p (after_delivery p s number) → PointersStand (after_delivery p s number)
  delivered_stand sound_after =
      acts_keeps (Says node of.is_node without frame) (publishes node.pointers) s (after_delivery p s number) frame.to node
      (act node (Takes frame)) acts stand (laid_at_seasoned p s sound stand.nothing)
      (λ nothing. laid_at_seasoned p (after_delivery p s number) sound_after nothing)

-- ---- a start of a node that is there

module _ (p : SettingsValue) (s : System) (x : List ℕ) (start : Start) (node : NodeState) (sound : Sound p s) (stand : PointersStand s)
    (at : s.node x ≡ Some node) (is : starter p s x start ≡ Some node) (ruled : rule_of_start node.status node start ≡ None → ⊥) where
  pub starts_of : IsNodeOf p x node
  starts_of = sound.nodes.nodes x node at

  pub starts_without : KnowsByStatus node
  starts_without = record {
    none = λ none. stand.nothing.nothing x node at none;
    leaver = λ leaving pair. stand.leavers.unpublished x node pair at leaving;
  }

  pub start_acts : Acts (rules.NoneTaken node starts_of.is_node starts_without) (rules.publishes_by node starts_of.is_node starts_without start)
      s (after_start p s x start) x node (act node (Starts start))
  start_acts =
      let s' = after_start p s x start in
      let acted = act node (Starts start) in
      let step = starts p s x start node is in
      record {
        own = starts_of.name;
        at = record { was = at; is = step.done.is; others = step.done.others };
        turn = start_turns node starts_of.is_node starts_without start ruled;
        came = λ y t pair word way.
            elim (in_either way.number (lay_word_frame y t pair word) s.frames (numbered_from s.next acted.sent)
            (rw step.sent.after at way.among)) [
              | inl old ↦ inl (record { number = way.number; among = old })
              | inr new ↦ inr (sent_numbered way.number (lay_word_frame y t pair word) s.next acted.sent new)
            ];
        sent = λ f among.
            let numbered = numbered_sent f s.next acted.sent among in
            record {
              number = numbered.0;
              among = rw step.sent.after (in_second numbered.0 f s.frames (numbered_from s.next acted.sent) numbered.1);
            };
        still = λ y t pair word way.
            inl (record {
              number = way.number;
              among = rw step.sent.after
                  (in_first way.number (lay_word_frame y t pair word) s.frames (numbered_from s.next acted.sent) way.among);
            });
        taken = λ y pair word taken. absurd taken;
      }

  pub started_stand : Sound p (after_start p s x start) → PointersStand (after_start p s x start)
  started_stand sound_after =
      acts_keeps (rules.NoneTaken node starts_of.is_node starts_without) (rules.publishes_by node starts_of.is_node starts_without start)
      s (after_start p s x start) x node (act node (Starts start)) start_acts stand (laid_at_seasoned p s sound stand.nothing)
      (λ nothing. laid_at_seasoned p (after_start p s x start) sound_after nothing)

-- ---- a node that is new

module _ (p : SettingsValue) (s : System) (x via : List ℕ) (sound : Sound p s) (stand : PointersStand s) (fresh : s.node x ≡ None)
    (limits : AreWithinLimits p) (name : IsName p x) where
  abbrev new : NodeState
  new = joiner p x

  abbrev after : System
  after = after_start p s x (Join via)

  abbrev acted : Acted
  acted = act (joiner p x) (Starts (Join via))

  new_is : IsNode new
  new_is = joiner_law p x limits name

  new_knows : KnowsByStatus (joiner p x)
  new_knows = record { none = λ none. refl; leaver = λ leaving pair. refl }

  new_turn : StartTurns (joiner p x) new_is new_knows (Join via) acted
  new_turn =
      start_turns (joiner p x) new_is new_knows (Join via) (λ none.
      let ruled : ◌≡◌ {A = Option Reaction} (Some (starts_join (joiner p x) via)) None = none in cc)

  pub still_joins : acted.state.status ≡ Joining
  still_joins = (seek_start_law (joiner p x) via refl).joins.status

  pub knows_nothing : acted.state.pointers.pairs ≡ []
  knows_nothing = (new_turn.runs (subst IsRunning (sym still_joins) tt)).nothing still_joins

  -- it sends no Lay
  sends_none : (y t : List ℕ) (pair : Pair) (word : LayWord) → IsAmong (lay_word_frame y t pair word) acted.sent → ⊥
  sends_none y t pair word among =
      let lay = new_turn.sent_from y t pair word among in
      let due = new_turn.due (lay_saying t pair word) lay.1 in
      let laid = nothing_laid acted.state.pointers knows_nothing pair in
      let wrong : None ≡ Some (hop_at t word.level) =
      sym (none_due word.on None) ∙ ap (λ h. hop_due word.on None h) (sym laid) ∙ due in
      cc

  pub now_is : after.node x ≡ Some acted.state
  now_is = (starts p s x (Join via) (joiner p x) refl).done.is

  pub others : (y : List ℕ) → (y ≡ x) ⊎ (after.node y ≡ s.node y)
  others = (starts p s x (Join via) (joiner p x) refl).done.others

  -- what is on its way is as before
  pub way_was : (y t : List ℕ) (pair : Pair) (word : LayWord) → IsOnWay after (lay_word_frame y t pair word)
      → IsOnWay s (lay_word_frame y t pair word)
  way_was y t pair word way =
      let step = starts p s x (Join via) (joiner p x) refl in
      elim (in_either way.number (lay_word_frame y t pair word) s.frames (numbered_from s.next acted.sent)
      (rw step.sent.after at way.among)) [
        | inl old ↦ record { number = way.number; among = old }
        | inr sent ↦
            absurd (sends_none y t pair word (sent_numbered way.number (lay_word_frame y t pair word) s.next acted.sent sent))
      ]

  way_is : (y t : List ℕ) (pair : Pair) (word : LayWord) → IsOnWay s (lay_word_frame y t pair word)
      → IsOnWay after (lay_word_frame y t pair word)
  way_is y t pair word way =
      let step = starts p s x (Join via) (joiner p x) refl in
      record {
        number = way.number;
        among =
            rw step.sent.after (in_first way.number (lay_word_frame y t pair word) s.frames (numbered_from s.next acted.sent) way.among);
      }

  -- and so is what is kept, and what is laid
  pub register_same : (t : List ℕ) (pair : Pair) (y : List ℕ) → pointer_register_of after t pair y ≡ pointer_register_of s t pair y
  unfolding pointer_register_of
  register_same t pair y =
      elim (others t) [
        | inl here ↦
            let now : word_kept_in (after.node t) pair y ≡ None =
            ap (λ n. word_kept_in n pair y) (ap after.node here ∙ now_is) ∙ nothing_kept acted.state.pointers knows_nothing pair y in
            now ∙ sym (ap (λ n. word_kept_in n pair y) (ap s.node here ∙ fresh))
        | inr same ↦ ap (λ n. word_kept_in n pair y) same
      ]

  laid_same : (y : List ℕ) (pair : Pair) → laid_of after y pair ≡ laid_of s y pair
  unfolding laid_of
  laid_same y pair =
      elim (others y) [
        | inl here ↦
            ap (λ n. laid_in n pair) (ap after.node here ∙ now_is) ∙ nothing_laid acted.state.pointers knows_nothing pair
            ∙ sym (ap (λ n. laid_in n pair) (ap s.node here ∙ fresh))
        | inr same ↦ ap (λ n. laid_in n pair) same
      ]

  said_was : (y t : List ℕ) (pair : Pair) (word : LayWord) → IsLaySaid after y t pair word → IsLaySaid s y t pair word
  said_was y t pair word (inl way) = inl (way_was y t pair word way)
  said_was y t pair word (inr kept) = inr (sym (register_same t pair y) ∙ kept)

  said_is : (y t : List ℕ) (pair : Pair) (word : LayWord) → IsLaySaid s y t pair word → IsLaySaid after y t pair word
  said_is y t pair word (inl way) = inl (way_is y t pair word way)
  said_is y t pair word (inr kept) = inr (register_same t pair y ∙ kept)

  last_is : (y t : List ℕ) (pair : Pair) (word : LayWord) → IsLastLay s y t pair word → IsLastLay after y t pair word
  last_is y t pair word last = record {
    said = said_is y t pair word last.said;
    last = λ other said. last.last other (said_was y t pair other said);
  }

  was_nobody : HasNode s x → ⊥
  was_nobody has = let there = has.is in let wrong : None ≡ Some has.state = sym fresh ∙ there in cc

  -- who hears words did before, but for the new node, to which nobody has said a word, and at which nobody has laid a pair
  heard_before : (t : List ℕ) → hears_words (status_of after t) → (t ≡ x) ⊎ hears_words (status_of s t)
  unfolding status_of
  heard_before t hears =
      elim (others t) [
        | inl here ↦ inl here
        | inr same ↦ inr (subst (λ n. hears_words (status_in n)) same hears)
      ]

  untold_new : (y t : List ℕ) (pair : Pair) (word : LayWord) → t ≡ x → IsLaySaid s y t pair word → ⊥
  unfolding pointer_register_of
  untold_new y t pair word here (inl way) =
      was_nobody (subst (HasNode s) here (sound.invariant.basis.ends.known way.number (lay_word_frame y t pair word) way.among).1)
  untold_new y t pair word here (inr kept) = none_kept kept
    where
      none_kept : pointer_register_of s t pair y ≡ Some word → ⊥
      none_kept kept =
          let wrong : None ≡ Some word = sym (ap (λ n. word_kept_in n pair y) (ap s.node here ∙ fresh)) ∙ kept in cc

  pub joined_stand : PointersStand after
  joined_stand = record {
    nothing = record {
      nothing = λ y node is none. elim (others y) [
        | inl here ↦
            let one : Some acted.state ≡ Some node = sym (ap after.node here ∙ now_is) ∙ is in
            let same : acted.state ≡ node = cc in
            subst (λ (n : NodeState). n.pointers.pairs ≡ []) same knows_nothing
        | inr same ↦ stand.nothing.nothing y node (sym same ∙ is) none
      ];
    };
    told = record {
      laid = λ y t pair level hears laid.
          let before : laid_of s y pair ≡ Some (hop_at t level) = sym (laid_same y pair) ∙ laid in
          elim (heard_before t hears) [
            | inl here ↦
                let core = (laid_at_core p s sound stand.nothing y pair (hop_at t level) before).core in
                absurd (was_nobody (subst (HasNode s) here (record { state = core.state; is = core.is })))
            | inr heard ↦
                let told = stand.told.laid y t pair level heard before in
                record { word = told.word; last = last_is y t pair told.word told.last; on = told.on; level_is = told.level_is }
          ];
      off = λ y t pair hears none. elim (heard_before t hears) [
        | inl here ↦ inl (λ word said. untold_new y t pair word here (said_was y t pair word said))
        | inr heard ↦ elim (stand.told.off y t pair heard (λ level laid. none level (laid_same y pair ∙ laid))) [
          | inl untold ↦ inl (λ word said. untold word (said_was y t pair word said))
          | inr told ↦ inr (record { word = told.word; last = last_is y t pair told.word told.last; off = told.off })
        ]
      ];
    };
    stamped = record {
      known = λ y t pair word said. there_on y (stand.stamped.known y t pair word (said_was y t pair word said));
      once = λ y t pair one other said also same.
          stand.stamped.once y t pair one other (said_was y t pair one said) (said_was y t pair other also) same;
      stamp = λ y t pair word node is runs said. elim (others y) [
        | inl here ↦
            absurd (was_nobody (subst (HasNode s) here (stand.stamped.known y t pair word (said_was y t pair word said))))
        | inr same ↦ stand.stamped.stamp y t pair word node (sym same ∙ is) runs (said_was y t pair word said)
      ];
    };
    ends = record {
      ends = λ y t pair word way.
          let ends = stand.ends.ends y t pair word (way_was y t pair word way) in
          elim (others t) [
            | inl here ↦ absurd (was_nobody (subst (HasNode s) here (record { state = ends.state; is = ends.is })))
            | inr same ↦ record { state = ends.state; is = same ∙ ends.is; seasoned = ends.seasoned }
          ];
    };
    registers = record {
      ascending = λ y node pair is. elim (others y) [
        | inl here ↦
            let one : Some acted.state ≡ Some node = sym (ap after.node here ∙ now_is) ∙ is in
            let same : acted.state ≡ node = cc in
            subst (λ (n : NodeState). IsAscending name_cmp (registers_of n.pointers pair)) same
            (none_ascend acted.state.pointers knows_nothing pair)
        | inr same ↦ stand.registers.ascending y node pair (sym same ∙ is)
      ];
    };
    leavers = record {
      unpublished = λ y node pair is leaving. elim (others y) [
        | inl here ↦
            let one : Some acted.state ≡ Some node = sym (ap after.node here ∙ now_is) ∙ is in
            let same : acted.state ≡ node = cc in
            subst (λ (n : NodeState). publishes n.pointers pair ≡ false) same
            (nothing_published acted.state.pointers knows_nothing pair)
        | inr same ↦ stand.leavers.unpublished y node pair (sym same ∙ is) leaving
      ];
    };
  }
    where
      there_on : (y : List ℕ) → HasNode s y → HasNode after y
      there_on y has =
          elim (others y) [
            | inl here ↦ absurd (was_nobody (subst (HasNode s) here has))
            | inr same ↦ record { state = has.state; is = same ∙ has.is }
          ]

-- ---- all moves

-- a start that a core node makes
abbrev pub IsOfCore : Start → Type 0
IsOfCore (Join via) = ⊥
IsOfCore Abandon = ⊥
IsOfCore _ = Unit {0}

-- there is a rule for what may be started
pub there_is_rule : (p : SettingsValue) (s : System) (x : List ℕ) (start : Start) (node : NodeState) → s.node x ≡ Some node
    → ((node.status ≡ Joining) × (start ≡ Abandon)) ⊎ ((node.status ≡ Core) × IsOfCore start)
    → rule_of_start node.status node start ≡ None → ⊥
there_is_rule p s x start node at (inl (joining, abandons)) none =
    let wrong : ◌≡◌ {A = Option Reaction} (Some (starts_abandon node)) None =
    ap (λ w. rule_of_start Joining node w) (sym abandons) ∙ ap (λ st. rule_of_start st node start) (sym joining) ∙ none in
    cc
there_is_rule p s x start node at (inr (core, of)) none =
    core_rule start of (ap (λ st. rule_of_start st node start) (sym core) ∙ none)
  where
    core_rule : (w : Start) → IsOfCore w → rule_of_start Core node w ≡ None → ⊥
    core_rule (Join via) of none = of
    core_rule Abandon of none = of
    core_rule Leave of none = let wrong : ◌≡◌ {A = Option Reaction} (Some (starts_leave node)) None = none in cc
    core_rule (Publish object) of none =
        let wrong : ◌≡◌ {A = Option Reaction} (Some (starts_publish node object)) None = none in cc
    core_rule (Withdraw object) of none = let wrong : ◌≡◌ {A = Option Reaction} (Some (starts_withdraw node object)) None = none in cc
    core_rule (Find ticket object) of none = let wrong : ◌≡◌ {A = Option Reaction} (Some (starts_find node ticket object)) None = none in cc
    core_rule (Cast cast level word) of none =
        let wrong : ◌≡◌ {A = Option Reaction} (Some (starts_cast node cast level word)) None = none in cc

start_stands : (p : SettingsValue) (s : System) (x : List ℕ) (start : Start) → Sound p s → PointersStand s → may_start p s x start
    → Sound p (after_start p s x start) → PointersStand (after_start p s x start)
start_stands p s x (Join via) sound stand may then =
    let core = sound.nodes.nodes via may.core.state may.core.is in
    let limits = subst AreWithinLimits core.settings core.is_node.ties.table.limits in
    joined_stand p s x via sound stand may.fresh limits may.name
start_stands p s x Abandon sound stand may then =
    started_stand p s x Abandon may.state sound stand may.is may.is
    (there_is_rule p s x Abandon may.state may.is (inl (may.joining, refl))) then
start_stands p s x Leave sound stand may then =
    started_stand p s x Leave may.acts.state sound stand may.acts.is may.acts.is
    (there_is_rule p s x Leave may.acts.state may.acts.is (inr (may.acts.core, tt))) then
start_stands p s x (Publish object) sound stand may then =
    started_stand p s x (Publish object) may.acts.state sound stand may.acts.is may.acts.is
    (there_is_rule p s x (Publish object) may.acts.state may.acts.is (inr (may.acts.core, tt))) then
start_stands p s x (Withdraw object) sound stand may then =
    started_stand p s x (Withdraw object) may.acts.state sound stand may.acts.is may.acts.is
    (there_is_rule p s x (Withdraw object) may.acts.state may.acts.is (inr (may.acts.core, tt))) then
start_stands p s x (Find ticket object) sound stand may then =
    started_stand p s x (Find ticket object) may.acts.state sound stand may.acts.is may.acts.is
    (there_is_rule p s x (Find ticket object) may.acts.state may.acts.is (inr (may.acts.core, tt))) then
start_stands p s x (Cast cast level word) sound stand may then =
    started_stand p s x (Cast cast level word) may.acts.state sound stand may.acts.is may.acts.is
    (there_is_rule p s x (Cast cast level word) may.acts.state may.acts.is (inr (may.acts.core, tt))) then

pub pointers_kept : PointersKept
pointers_kept p s (Begins x start) may sound stand =
    start_stands p s x start sound stand may (move_keeps p s (Begins x start) may sound)
pointers_kept p s (Delivers number) may sound stand =
    delivered_stand p s number may.frame may.receiver.state sound stand may.among may.receiver.is
    (move_keeps p s (Delivers number) may sound)

-- ---- at rest

module _ (p : SettingsValue) (members : List (List ℕ)) where
  abbrev rest : System
  rest = system_at_rest p members

  pub none_known : (x : List ℕ) (node : NodeState) → rest.node x ≡ Some node → node.pointers.pairs ≡ []
  none_known x node is = ap (λ (n : NodeState). n.pointers.pairs) (node_is_member p members x node is).1

  core_all : (x : List ℕ) (node : NodeState) → rest.node x ≡ Some node → HasNoPointers node.status → ⊥
  core_all x node is none = subst HasNoPointers (ap (λ (n : NodeState). n.status) (node_is_member p members x node is).1) none

  none_kept_at : (t : List ℕ) (pair : Pair) (y : List ℕ) (word : LayWord) → pointer_register_of rest t pair y ≡ Some word → ⊥
  unfolding pointer_register_of
  none_kept_at t pair y word kept = by_node (rest.node t) refl
    where
      by_node : (found : Option NodeState) → rest.node t ≡ found → ⊥
      by_node None is = let wrong : None ≡ Some word = sym (ap (λ n. word_kept_in n pair y) is) ∙ kept in cc
      by_node (Some node) is =
          let none = nothing_kept node.pointers (none_known t node is) pair y in
          let wrong : None ≡ Some word = sym none ∙ sym (ap (λ n. word_kept_in n pair y) is) ∙ kept in cc

  none_laid_at : (x : List ℕ) (pair : Pair) (hop : Hop) → laid_of rest x pair ≡ Some hop → ⊥
  unfolding laid_of
  none_laid_at x pair hop laid = by_node (rest.node x) refl
    where
      by_node : (found : Option NodeState) → rest.node x ≡ found → ⊥
      by_node None is = let wrong : None ≡ Some hop = sym (ap (λ n. laid_in n pair) is) ∙ laid in cc
      by_node (Some node) is =
          let none = nothing_laid node.pointers (none_known x node is) pair in
          let wrong : None ≡ Some hop = sym none ∙ sym (ap (λ n. laid_in n pair) is) ∙ laid in cc

  pub none_said : (x t : List ℕ) (pair : Pair) (word : LayWord) → IsLaySaid rest x t pair word → ⊥
  none_said x t pair word (inl way) = absurd way.among
  none_said x t pair word (inr kept) = none_kept_at t pair x word kept

pub pointers_at_rest : PointersAtRest
pointers_at_rest p members are = record {
  nothing = record { nothing = λ x node is none. absurd (core_all p members x node is none) };
  told = record {
    laid = λ x t pair level hears laid. absurd (none_laid_at p members x pair (hop_at t level) laid);
    off = λ x t pair hears none. inl (λ word said. none_said p members x t pair word said);
  };
  stamped = record {
    known = λ x t pair word said. absurd (none_said p members x t pair word said);
    once = λ x t pair one other said also same. absurd (none_said p members x t pair one said);
    stamp = λ x t pair word node is runs said. absurd (none_said p members x t pair word said);
  };
  ends = record { ends = λ x t pair word way. absurd way.among };
  registers = record { ascending = λ x node pair is. none_ascend node.pointers (none_known p members x node is) pair };
  leavers = record { unpublished = λ x node pair is leaving. nothing_published node.pointers (none_known p members x node is) pair };
}

-- ---- runs

run_stands : (p : SettingsValue) (s : System) (moves : List Move) → may_run p s moves → Sound p s → PointersStand s
    → PointersStand (after_moves p s moves)
run_stands p s [] may sound stand = stand
run_stands p s (move ∷ moves) may sound stand =
    run_stands p (moved p s move) moves may.1 (move_keeps p s move may.0 sound) (pointers_kept p s move may.0 sound stand)

pub pointers_stand_in_runs : PointersStandInRuns
pointers_stand_in_runs p members moves are may =
    run_stands p (system_at_rest p members) moves may (sound_at_rest p members are) (pointers_at_rest p members are)
