-- What a whole step of a node makes of its pointers, and the Lays that it sends.
use Rattle.std.proofs.Common.{◌≡◌, ◌⊎◌, ℕ, ◌+◌, ◌≤◌, Bool, true, false, List, [], ◌++◌, map, length, All, Option, None, Some, refl, ap, sym, subst, ◌∙◌, arith, inl, inr}
use Rattle.std.specs.Prelude.{IfSome}
use Rattle.tap_name.specs.Order.{name_cmp}
use Rattle.tap_register.specs.Registers.{IsAscending}
use Rattle.tap_table.specs.Table.{TableValue}
use Rattle.tap_table.specs.declared.tie.Tie.{Tie}
use Rattle.tap_pointer.specs.declared.hop.Hop.{Hop}
use Rattle.tap_pointer.specs.declared.lay.Lay as lay
use Rattle.tap_pointer.specs.declared.pair.Pair.{Pair}
use Rattle.tap_pointer.specs.Due.{IsDue, hop_due, hop_of_lay, laid_at, pair_of_lay, wanted_at}
use Rattle.tap_pointer.specs.Pointers.{PointersValue, state_among}
use Rattle.tap_pointer.specs.Reconcile.{clear_lays, reconcile_lays, reconciled}
use Rattle.tap_pointer.proofs.Due.{clear_lays-due, clear_lays-sent, clear_lays-versions, none_due, reconcile_lays-due, reconcile_lays-sent, reconcile_lays-versions}
use Rattle.tap_wire.specs.declared.frame.Body.TheVariants.{Lay, Link}
use Rattle.tap_wire.specs.declared.frame.Frame.{Frame}
use Rattle.tap_rule.specs.Act.{act, carried_out, completed, follows, refuses}
use Rattle.tap_rule.specs.Event.{Acted, Start}
use Rattle.tap_rule.specs.Event.Event.{Starts, Takes}
use Rattle.tap_rule.specs.FrameRules.{frame_at_core, frame_at_leaving, rule_of_frame}
use Rattle.tap_rule.specs.KeptNode.{IsNode}
use Rattle.tap_rule.specs.Node.{IsRunning, NodeState, Status, name_of}
use Rattle.tap_rule.specs.Node.Status.{Ceased, Core, Gone, Joining, Leaving}
use Rattle.tap_rule.specs.Pointers.{reconciles}
use Rattle.tap_rule.specs.Reaction.{Message, Reaction}
use Rattle.tap_rule.specs.Sending.{by_receiver, frames_of, lay_frame, link_frame, message_frame}
use Rattle.tap_rule.specs.Sent.{IsAmong}
use Rattle.tap_rule.specs.StartRules.{rule_of_start}
use Rattle.tap_rule.specs.Strange.{is_strange}
use Rattle.tap_rule.proofs.Among.{among-either, among-map, among-map_from, among-second}
use Rattle.tap_moves.proofs.Got.{among_all}
use Rattle.tap_pointer_moves.specs.Said.{LayWord, lay_word_frame, lay_word_kept}
use Rattle.tap_pointer_moves.specs.LaysTold.{HasNoPointers}
use Rattle.tap_pointer_moves.proofs.Hearing.{Hears, hears_none, hears_then, publishes, reconciled_kept, reconciled_laid, reconciled_publishes, reconciled_registers, registers_of}
use Rattle.tap_pointer_moves.proofs.RisingStamps.{Rise, contains_among, rise_lower, rise_numbered}
use Rattle.tap_pointer_moves.proofs.PointerRules.{ClearsAll, IsNoLay, KnowsByStatus, MayBecome, RuleTurn, SaysNoLay, frame_turn, may_stay, nothing_published, over_nothing, start_turn}
use Rattle.tap_pointer_moves.proofs.PointerRules as rules

-- the Lay that says this to t of a pair
abbrev pub lay_saying : List ℕ → Pair → LayWord → lay.Lay
lay_saying t pair word = record {
  to = t;
  object = pair.object;
  server = pair.server;
  level = word.level;
  version = word.version;
  on = word.on;
}

-- a node that runs on: its stamp has given the numbers of its Lays, it has heard what was taken, and publishes so; and while it joins it
-- knows nothing of any pair
pub record GoesOn (Taken : List ℕ → Pair → LayWord → Type 0) (now : Pair → Bool) (node : NodeState) (top : ℕ) (acted : Acted) : Type 0 where
  pub before : IsRunning node.status
  pub stamp : top ≤ acted.state.stamp
  pub hears : Hears Taken node.pointers acted.state.pointers
  pub ascend : (pair : Pair) → IsAscending name_cmp (registers_of node.pointers pair)
      → IsAscending name_cmp (registers_of acted.state.pointers pair)
  pub nothing : acted.state.status ≡ Joining → acted.state.pointers.pairs ≡ []
  pub leaving : acted.state.status ≡ Leaving → (pair : Pair) → publishes acted.state.pointers pair ≡ false

-- A step: its Lays are those that are due, from where pairs were laid to where they are, with numbers from the stamp on.
pub record PointerTurn (Taken : List ℕ → Pair → LayWord → Type 0) (now : Pair → Bool) (node : NodeState) (acted : Acted) : Type 0 where
  pub lays : List lay.Lay
  pub sent_from : (x t : List ℕ) (pair : Pair) (word : LayWord) → IsAmong (lay_word_frame x t pair word) acted.sent
      → (x ≡ name_of node) × IsAmong (lay_saying t pair word) lays
  pub sent_to : (t : List ℕ) (pair : Pair) (word : LayWord) → IsAmong (lay_saying t pair word) lays
      → IsAmong (lay_word_frame (name_of node) t pair word) acted.sent
  pub top : ℕ
  pub rise : Rise node.stamp lays top
  pub due : (l : lay.Lay) → IsAmong l lays
      → hop_due l.on (laid_at node.pointers (pair_of_lay l)) (laid_at acted.state.pointers (pair_of_lay l)) ≡ Some (hop_of_lay l)
  pub told : (pair : Pair) (on : Bool) (hop : Hop) → hop_due on (laid_at node.pointers pair) (laid_at acted.state.pointers pair) ≡ Some hop
      → (version : ℕ) × IsAmong (lay_saying hop.to pair (record { version = version; level = hop.level; on = on })) lays
  pub becomes : MayBecome node.status acted.state.status
  pub publishes_so : (pair : Pair) → publishes acted.state.pointers pair ≡ now pair
  pub runs : IsRunning acted.state.status → GoesOn Taken now node top acted
  pub over : (IsRunning acted.state.status → ⊥) → acted.state.pointers.pairs ≡ []

-- nothing is laid if nothing is known
pub nothing_laid : (p : PointersValue) → p.pairs ≡ [] → (pair : Pair) → laid_at p pair ≡ None
nothing_laid p none pair = ap (λ pairs. (state_among pairs pair).laid) none

-- nothing is kept if nothing is known
pub nothing_kept : (p : PointersValue) → p.pairs ≡ [] → (pair : Pair) (x : List ℕ) → lay_word_kept p pair x ≡ None
nothing_kept p none pair x = ap (λ pairs. lay_word_kept (record { owner = p.owner; pairs = pairs }) pair x) none

-- and there are no registers
pub none_ascend : (p : PointersValue) → p.pairs ≡ [] → (pair : Pair) → IsAscending name_cmp (registers_of p pair)
none_ascend p none pair =
    let same : registers_of p pair ≡ [] = ap (λ pairs. (state_among pairs pair).registers) none in
    subst (IsAscending name_cmp) (sym same) (λ i j d less inside. absurd (omega (arith, less, inside)))

-- ---- the frames of a reaction

module _ (from : List ℕ) (r : Reaction) (messages : All SaysNoLay r.messages) where
  pub frames_from : (x t : List ℕ) (pair : Pair) (word : LayWord) → IsAmong (lay_word_frame x t pair word) (frames_of from r)
      → (x ≡ from) × IsAmong (lay_saying t pair word) r.lays
  frames_from x t pair word among =
      let frame : Frame = lay_word_frame x t pair word in
      let links : List Frame = map (link_frame from) (by_receiver r.words) in
      let named : List Frame = map (message_frame from) r.messages in
      let laid : List Frame = map (lay_frame from) r.lays in
      elim (among-either frame links (named ++ laid) among) [
        | inl link ↦
            let found = among-map_from (link_frame from) frame (by_receiver r.words) link in
            absurd (no_link found.0 (ap (λ (f : Frame). f.body) found.2))
        | inr later ↦ elim (among-either frame named laid later) [
          | inl message ↦
              let found = among-map_from (message_frame from) frame r.messages message in
              absurd (no_message found.0 (among_all SaysNoLay r.messages messages found.0 found.1) (ap (λ (f : Frame). f.body) found.2))
          | inr lays ↦
              let found = among-map_from (lay_frame from) frame r.lays lays in
              let sender : x ≡ from = ap (λ (f : Frame). f.from) found.2 in
              let same = lay_is found.0 (ap (λ (f : Frame). f.to) found.2) (ap (λ (f : Frame). f.body) found.2) in
              (sender, subst (λ l. IsAmong l r.lays) same found.1)
        ]
      ]
    where
      no_link : (tie : Tie) → Lay pair.object pair.server word.level word.version word.on ≡ Link tie.version tie.on → ⊥
      no_link tie is = cc

      no_message : (m : Message) → SaysNoLay m → Lay pair.object pair.server word.level word.version word.on ≡ m.body → ⊥
      no_message m no_lay is = subst IsNoLay (sym is) no_lay

      lay_is : (l : lay.Lay) → t ≡ l.to → Lay pair.object pair.server word.level word.version word.on ≡ Lay l.object l.server l.level l.version l.on → l ≡ lay_saying t pair word
      lay_is l to is =
          let objects : l.object ≡ pair.object = cc in
          let servers : l.server ≡ pair.server = cc in
          let levels : l.level ≡ word.level = cc in
          let versions : l.version ≡ word.version = cc in
          let ons : l.on ≡ word.on = cc in
          ap (λ n. record { to = n; object = l.object; server = l.server; level = l.level; version = l.version; on = l.on }) (sym to)
          ∙ ap (λ n. record { to = t; object = n; server = l.server; level = l.level; version = l.version; on = l.on }) objects
          ∙ ap (λ n. record { to = t; object = pair.object; server = n; level = l.level; version = l.version; on = l.on }) servers
          ∙ ap (λ n. record { to = t; object = pair.object; server = pair.server; level = n; version = l.version; on = l.on }) levels
          ∙ ap (λ n. record { to = t; object = pair.object; server = pair.server; level = word.level; version = n; on = l.on }) versions
          ∙ ap (λ n. record { to = t; object = pair.object; server = pair.server; level = word.level; version = word.version; on = n }) ons

  pub frames_to : (t : List ℕ) (pair : Pair) (word : LayWord) → IsAmong (lay_saying t pair word) r.lays
      → IsAmong (lay_word_frame from t pair word) (frames_of from r)
  frames_to t pair word among =
      let frame : Frame = lay_word_frame from t pair word in
      among-second frame (map (link_frame from) (by_receiver r.words)) (map (message_frame from) r.messages ++ map (lay_frame from) r.lays)
      (among-second frame (map (message_frame from) r.messages) (map (lay_frame from) r.lays)
      (among-map (lay_frame from) (lay_saying t pair word) r.lays among))

-- ---- a step by a rule

module _ (Taken : List ℕ → Pair → LayWord → Type 0) (now : Pair → Bool) (node : NodeState) (r : Reaction) (turn : RuleTurn Taken now node r) where
  abbrev from : List ℕ
  from = name_of node

  -- a node that goes on lays its pairs as wanted
  reconciling : IsRunning r.state.status → PointerTurn Taken now node (carried_out (name_of node) (reconciles r))
  reconciling runs =
      let on = turn.runs runs in
      let t : TableValue = r.state.ties.table in
      let q : PointersValue = r.state.pointers in
      let last : ℕ = r.state.stamp in
      let rising = rise_numbered last (reconcile_lays t last q) (reconcile_lays-versions t last q) in
      record {
        lays = reconcile_lays t last q;
        sent_from = frames_from (name_of node) (reconciles r) turn.messages;
        sent_to = frames_to (name_of node) (reconciles r) turn.messages;
        top = last + length (reconcile_lays t last q);
        rise = rise_lower node.stamp last (reconcile_lays t last q) (last + length (reconcile_lays t last q)) on.stamp rising;
        due = λ l among.
            let is = among_all (IsDue (laid_at q) (wanted_at t q)) (reconcile_lays t last q) (reconcile_lays-due t last q on.are) l among in
            ap (λ h. hop_due l.on h (laid_at (reconciled t q) (pair_of_lay l))) (sym (on.laid (pair_of_lay l)))
            ∙ ap (λ h. hop_due l.on (laid_at q (pair_of_lay l)) h) (reconciled_laid q t (pair_of_lay l)) ∙ is;
        told = λ pair on_is hop due.
            let is : hop_due on_is (laid_at q pair) (wanted_at t q pair) ≡ Some hop =
            ap (λ h. hop_due on_is (laid_at q pair) h) (sym (reconciled_laid q t pair))
            ∙ ap (λ h. hop_due on_is h (laid_at (reconciled t q) pair)) (on.laid pair) ∙ due in
            let sent = reconcile_lays-sent t last q pair on_is hop is in (
              sent.0,
              contains_among (reconcile_lays t last q)
                  (lay_saying hop.to pair (record { version = sent.0; level = hop.level; on = on_is })) sent.1,
            );
        becomes = turn.becomes;
        publishes_so = λ pair. reconciled_publishes q t pair ∙ on.publishes_so pair;
        runs = λ still. record {
          before = on.before;
          stamp = omega arith;
          hears = hears_then Taken node.pointers q (reconciled t q) on.hears (reconciled_kept q t);
          ascend = λ pair ascending.
              subst (IsAscending name_cmp) (sym (reconciled_registers q t pair)) (on.ascend pair ascending);
          nothing = λ joining. ap (map _) (on.nothing joining);
          leaving = λ leaving pair. reconciled_publishes q t pair ∙ on.publishes_so pair ∙ on.leaving leaving pair;
        };
        over = λ ended. absurd (ended runs);
      }

  -- one that ends clears them
  ending : (IsRunning r.state.status → ⊥) → PointerTurn Taken now node (carried_out (name_of node) r)
  ending over =
      let end : ClearsAll now node r = turn.ends over in
      let q : PointersValue = end.pointers in
      let last : ℕ = end.last in
      let after = nothing_laid r.state.pointers end.nothing in
      let rising = rise_numbered last (clear_lays last q) (clear_lays-versions last q) in
      record {
        lays = r.lays;
        sent_from = frames_from (name_of node) r turn.messages;
        sent_to = frames_to (name_of node) r turn.messages;
        top = last + length (clear_lays last q);
        rise = subst (λ ls. Rise node.stamp ls (last + length (clear_lays last q))) (sym end.lays)
            (rise_lower node.stamp last (clear_lays last q) (last + length (clear_lays last q)) end.stamp rising);
        due = λ l among.
            let there : IsAmong l (clear_lays last q) = subst (λ ls. IsAmong l ls) end.lays among in
            let is = among_all (IsDue (laid_at q) (λ pair. None)) (clear_lays last q) (clear_lays-due last q end.are) l there in
            ap (λ h. hop_due l.on h (laid_at r.state.pointers (pair_of_lay l))) (sym (end.laid (pair_of_lay l)))
            ∙ ap (λ h. hop_due l.on (laid_at q (pair_of_lay l)) h) (after (pair_of_lay l)) ∙ is;
        told = λ pair on_is hop due.
            let is : hop_due on_is (laid_at q pair) None ≡ Some hop =
            ap (λ h. hop_due on_is (laid_at q pair) h) (sym (after pair))
            ∙ ap (λ h. hop_due on_is h (laid_at r.state.pointers pair)) (end.laid pair) ∙ due in
            told_off q last on_is pair hop is end.lays;
        becomes = turn.becomes;
        publishes_so = λ pair. nothing_published r.state.pointers end.nothing pair ∙ sym (end.unpublished pair);
        runs = λ runs. absurd (over runs);
        over = λ ended. end.nothing;
      }
    where
      laid_is : (laid : Option Hop) (hop : Hop) → hop_due false laid None ≡ Some hop → laid ≡ Some hop
      laid_is None hop is = let wrong : ◌≡◌ {A = Option Hop} None (Some hop) = is in cc
      laid_is (Some laid) hop is = is

      told_off : (q : PointersValue) (last : ℕ) (on : Bool) (pair : Pair) (hop : Hop) → hop_due on (laid_at q pair) None ≡ Some hop
          → r.lays ≡ clear_lays last q
          → (version : ℕ) × IsAmong (lay_saying hop.to pair (record { version = version; level = hop.level; on = on })) r.lays
      told_off q last true pair hop is same = let wrong : ◌≡◌ {A = Option Hop} None (Some hop) = is in absurd (cc)
      told_off q last false pair hop is same =
          let sent = clear_lays-sent last q pair hop (laid_is (laid_at q pair) hop is) in (
            sent.0,
            subst (λ ls. IsAmong (lay_saying hop.to pair (record { version = sent.0; level = hop.level; on = false })) ls) (sym same)
                (contains_among (clear_lays last q)
                (lay_saying hop.to pair (record { version = sent.0; level = hop.level; on = false })) sent.1),
          )

  completes : (status : Status) → r.state.status ≡ status → PointerTurn Taken now node (carried_out (name_of node) (completed status r))
  completes Joining at = reconciling (subst IsRunning (sym at) tt)
  completes Core at = reconciling (subst IsRunning (sym at) tt)
  completes Leaving at = reconciling (subst IsRunning (sym at) tt)
  completes Gone at = ending (λ runs. subst IsRunning at runs)
  completes Ceased at = ending (λ runs. subst IsRunning at runs)

-- ---- a step

module _ (node : NodeState) (is : IsNode node) (knows : KnowsByStatus node) where
  -- a node that stays, and sends nothing; if it runs, nothing is taken
  idles : (Taken : List ℕ → Pair → LayWord → Type 0)
      → (IsRunning node.status → (x : List ℕ) (pair : Pair) (word : LayWord) → Taken x pair word → ⊥) → (acted : Acted)
      → acted.state ≡ node → acted.sent ≡ [] → PointerTurn Taken (publishes node.pointers) node acted
  idles Taken none acted state sent = record {
    lays = [];
    sent_from = λ x t pair word among. absurd (subst (λ frames. IsAmong (lay_word_frame x t pair word) frames) sent among);
    sent_to = λ t pair word among. absurd among;
    top = node.stamp;
    rise = omega arith;
    due = λ l among. absurd among;
    told = λ pair on hop due.
        let same : laid_at node.pointers pair ≡ laid_at acted.state.pointers pair =
        ap (λ (n : NodeState). laid_at n.pointers pair) (sym state) in
        let wrong : None ≡ Some hop =
        sym (none_due on (laid_at acted.state.pointers pair))
        ∙ ap (λ h. hop_due on h (laid_at acted.state.pointers pair)) (sym same) ∙ due in
        absurd (cc);
    becomes = subst (λ (n : NodeState). MayBecome node.status n.status) (sym state) (may_stay node.status);
    publishes_so = λ pair. ap (λ (n : NodeState). publishes n.pointers pair) state;
    runs = λ runs.
        let before : IsRunning node.status = subst (λ (n : NodeState). IsRunning n.status) state runs in
        record {
          before = before;
          stamp = let same : acted.state.stamp ≡ node.stamp = ap (λ (n : NodeState). n.stamp) state in omega (arith, same);
          hears = hears_none Taken node.pointers acted.state.pointers (none before) (λ pair x. ap (λ (n : NodeState). lay_word_kept n.pointers pair x) state);
          ascend = λ pair. subst (λ (n : NodeState). IsAscending name_cmp (registers_of n.pointers pair)) (sym state);
          nothing = λ joining.
              let status : acted.state.status ≡ node.status = ap (λ (n : NodeState). n.status) state in
              ap (λ (n : NodeState). n.pointers.pairs) state ∙ knows.none (subst HasNoPointers (sym joining ∙ status) tt);
          leaving = λ leaving pair.
              let status : acted.state.status ≡ node.status = ap (λ (n : NodeState). n.status) state in
              ap (λ (n : NodeState). publishes n.pointers pair) state ∙ knows.leaver (sym status ∙ leaving) pair;
        };
    over = λ over.
        ap (λ (n : NodeState). n.pointers.pairs) state
        ∙ knows.none (over_nothing node.status (λ runs. over (subst (λ (n : NodeState). IsRunning n.status) (sym state) runs)));
  }

  -- what a frame says that the node takes
  abbrev pub Says : Frame → List ℕ → Pair → LayWord → Type 0
  Says frame = rules.TakenBy node is knows frame.from frame.body

  abbrev pub FrameTurns : Frame → Acted → Type 0
  FrameTurns frame acted = PointerTurn (Says frame) (publishes node.pointers) node acted

  -- a Lay that comes to a node that runs isn't strange there, and has a rule
  pub record IsHeard (frame : Frame) : Type 0 where
    pub levels : rules.HasLevel node is knows frame.from frame.body
    pub ruled : IsRunning node.status → IsNoLay frame.body ⊎ (((node.status ≡ Core) ⊎ (node.status ≡ Leaving)) × (is_strange node frame ≡ false))

  unheard : (frame : Frame) → IsNoLay frame.body → (x : List ℕ) (pair : Pair) (word : LayWord) → Says frame x pair word → ⊥
  unheard frame no_lay x pair word says = subst IsNoLay says.1 no_lay

  -- there is a rule for a Lay at a core or leaving node
  lay_ruled : (frame : Frame) (x : List ℕ) (pair : Pair) (word : LayWord) → Says frame x pair word
      → (node.status ≡ Core) ⊎ (node.status ≡ Leaving) → rule_of_frame node.status node frame.from frame.body ≡ None → ⊥
  unfolding frame_at_core frame_at_leaving
  lay_ruled frame x pair word says (inl core) none =
      let wrong : rule_of_frame Core node frame.from (Lay pair.object pair.server word.level word.version word.on) ≡ None =
      ap (λ b. rule_of_frame Core node frame.from b) (sym says.1) ∙ ap (λ s. rule_of_frame s node frame.from frame.body) (sym core) ∙ none in
      cc
  lay_ruled frame x pair word says (inr leaving) none =
      let wrong : rule_of_frame Leaving node frame.from (Lay pair.object pair.server word.level word.version word.on) ≡ None =
      ap (λ b. rule_of_frame Leaving node frame.from b) (sym says.1) ∙ ap (λ s. rule_of_frame s node frame.from frame.body) (sym leaving)
      ∙ none in
      cc

  none_ruled : (frame : Frame) → IsHeard frame → rule_of_frame node.status node frame.from frame.body ≡ None → IsRunning node.status
      → (x : List ℕ) (pair : Pair) (word : LayWord) → Says frame x pair word → ⊥
  none_ruled frame heard none runs x pair word says =
      elim (heard.ruled runs) [
        | inl no_lay ↦ unheard frame no_lay x pair word says
        | inr late ↦ lay_ruled frame x pair word says late.0 none
      ]

  followed : (frame : Frame) → IsHeard frame → (rule : Option Reaction) → rule_of_frame node.status node frame.from frame.body ≡ rule
      → FrameTurns frame (follows node rule)
  followed frame heard None at = idles (Says frame) (none_ruled frame heard at) (follows node None) refl refl
  followed frame heard (Some r) at =
      completes (Says frame) (publishes node.pointers) node r
      (subst (λ rule. IfSome rule (rules.FrameTurn node is knows frame.from frame.body)) at
      (frame_turn node is knows frame.from node.status refl frame.body heard.levels)) r.state.status refl

  pub frame_turns : (frame : Frame) → IsHeard frame → FrameTurns frame (act node (Takes frame))
  unfolding act
  frame_turns frame heard = by_test (is_strange node frame) refl
    where
      by_test : (strange : Bool) → is_strange node frame ≡ strange → FrameTurns frame (act node (Takes frame))
      by_test true at =
          rw at (idles (Says frame) (λ runs x pair word says. elim (heard.ruled runs) [
            | inl no_lay ↦ unheard frame no_lay x pair word says
            | inr late ↦ let wrong : true ≡ false = sym at ∙ late.1 in cc
          ]) (refuses node) refl refl)
      by_test false at = rw at (followed frame heard (rule_of_frame node.status node frame.from frame.body) refl)

  -- ---- a start

  abbrev pub StartTurns : Start → Acted → Type 0
  StartTurns start acted = PointerTurn (rules.NoneTaken node is knows) (rules.publishes_by node is knows start) node acted

  started : (start : Start) → (rule : Option Reaction) → (rule ≡ None → ⊥) → rule_of_start node.status node start ≡ rule
      → StartTurns start (follows node rule)
  started start None some at = absurd (some refl)
  started start (Some r) some at =
      completes (rules.NoneTaken node is knows) (rules.publishes_by node is knows start) node r
      (subst (λ rule. IfSome rule (rules.StartTurn node is knows start)) at (start_turn node is knows node.status refl start))
      r.state.status refl

  pub start_turns : (start : Start) → (rule_of_start node.status node start ≡ None → ⊥) → StartTurns start (act node (Starts start))
  unfolding act
  start_turns start some = started start (rule_of_start node.status node start) some refl
