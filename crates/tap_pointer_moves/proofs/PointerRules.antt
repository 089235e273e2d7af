-- What a rule makes of the pointers of a node, before they are laid as wanted.
-- Cited above: nothing_published
use Rattle.std.proofs.Common.{◌≡◌, ℕ, ◌+◌, ◌≤◌, Bool, true, false, List, [], length, All, refl, ap, sym, subst, ◌∙◌, arith, inl, inr}
use Rattle.std.specs.Prelude.{IfSome, if◌then◌else◌}
use Rattle.std.proofs.lemmas.List.Elements.{All-nil}
use Rattle.tap_name.specs.Order.{name_cmp}
use Rattle.tap_register.specs.Registers.{IsAscending}
use Rattle.tap_table.specs.Ties.{marked}
use Rattle.tap_depart.specs.Leaving.{names_but}
use Rattle.tap_depart.specs.ToldLeave.{taken_in}
use Rattle.tap_pointer.specs.declared.pair.Pair.{Pair}
use Rattle.tap_pointer.specs.Due.{laid_at}
use Rattle.tap_pointer.specs.Pointers.{IsPointers, PointersValue, all_withdrawn, own_pair, pair_of, published, state_among, withdrawn}
use Rattle.tap_pointer.specs.Reconcile.{clear_lays, layings_to_none, lays_numbered}
use Rattle.tap_pointer.proofs.Laws.{are-all_withdrawn, are-lay_applied, are-published, are-withdrawn, is_same}
use Rattle.tap_wire.specs.declared.frame.Body.{Body}
use Rattle.tap_wire.specs.declared.frame.Body.TheVariants.{Done, Lay, Left}
use Rattle.tap_rule.proofs.Completed.{one_offer, one_word}
use Rattle.tap_pointer_moves.specs.Said.{LayWord, lay_word_kept}
use Rattle.tap_pointer_moves.specs.LaysTold.{HasNoPointers}
use Rattle.tap_pointer_moves.proofs.Hearing.{Hears, IsOf, all_withdrawn_kept, all_withdrawn_laid, all_withdrawn_publishes, all_withdrawn_registers, heard, heard_ascends, heard_laid, heard_publishes, hears_lay, hears_none, published_kept, published_laid, published_publishes, published_registers, publishes, registers_of, withdrawn_kept, withdrawn_laid, withdrawn_publishes, withdrawn_registers}
use Rattle.tap_rule.specs.Node.{IsRunning, NodeState, Status}
use Rattle.tap_rule.specs.Node.Status.{Joining, Core, Leaving, Gone as GoneStatus, Ceased}
use Rattle.tap_rule.specs.Event.{Start}
use Rattle.tap_rule.specs.Event.Start.{Publish, Withdraw, Leave as StartLeave}
use Rattle.tap_rule.specs.KeptNode.{IsNode}
use Rattle.tap_rule.specs.Reaction.{Message, Reaction, with_pin}
use Rattle.tap_rule.specs.Ceasing.{ceases}
use Rattle.tap_rule.specs.Joining.{becomes_core}
use Rattle.tap_rule.specs.Covering.{Request}
use Rattle.tap_rule.specs.Casts.{Copy}
use Rattle.tap_rule.specs.Leaving.{finishes, with_departure}
use Rattle.tap_rule.specs.Pointers.{starts_publish, starts_withdraw, takes_lay}
use Rattle.tap_rule.specs.FrameRules.{rule_of_frame}
use Rattle.tap_rule.specs.StartRules.{rule_of_start}
use Rattle.tap_rule.proofs.Cases.{Cause, IsAnswer, IsAsked, IsCast, IsLate, IsNamed, RuleCase}
use Rattle.tap_rule.proofs.Cases.Cause.{Takes, Starts}
use Rattle.tap_rule.proofs.Cases.IsAnswer.{ByHeard, ByAck}
use Rattle.tap_rule.proofs.Cases.IsAsked.{BySeek, ByTell}
use Rattle.tap_rule.proofs.Cases.IsCast.{ByStart, ByCopy}
use Rattle.tap_rule.proofs.Cases.IsNamed.{FirstSeek}
use Rattle.tap_rule.proofs.Cases.IsParting.{StartsLeaving, OneLeft}
use Rattle.tap_rule.proofs.Cases.RuleCase.{CastBefore, CastsAlone, CastsOn, Closes, Counts, CoveredBefore, CoversAlone, CoversOn, GreetedBefore, Greets, HasCeased, IsCoreNow, IsGoneNow, IsGreeted, IsReleased, MarksLeaver, Publishes, TakesPointer, TellsHolders, WithdrawsIt}
use Rattle.tap_rule.proofs.Named.{each_case}

-- ---- what a rule makes

-- a body is no Lay
abbrev pub IsNoLay : Body → Type 0
IsNoLay (Lay object server level version on) = ⊥
IsNoLay _ = Unit {0}

-- a message is none
abbrev pub SaysNoLay : Message → Type 0
SaysNoLay m = IsNoLay m.body

-- what a node of this status may be after a step
abbrev pub MayBecome : Status → Status → Type 0
MayBecome Joining after = Unit {0}
MayBecome Core Joining = ⊥
MayBecome Core Core = Unit {0}
MayBecome Core Leaving = Unit {0}
MayBecome Core GoneStatus = Unit {0}
MayBecome Core Ceased = ⊥
MayBecome Leaving Joining = ⊥
MayBecome Leaving Core = ⊥
MayBecome Leaving Leaving = Unit {0}
MayBecome Leaving GoneStatus = Unit {0}
MayBecome Leaving Ceased = ⊥
MayBecome GoneStatus Joining = ⊥
MayBecome GoneStatus Core = ⊥
MayBecome GoneStatus Leaving = ⊥
MayBecome GoneStatus GoneStatus = Unit {0}
MayBecome GoneStatus Ceased = ⊥
MayBecome Ceased Joining = ⊥
MayBecome Ceased Core = ⊥
MayBecome Ceased Leaving = ⊥
MayBecome Ceased GoneStatus = ⊥
MayBecome Ceased Ceased = Unit {0}

pub may_stay : (status : Status) → MayBecome status status
may_stay Joining = tt
may_stay Core = tt
may_stay Leaving = tt
may_stay GoneStatus = tt
may_stay Ceased = tt

-- a node that has ended has no pointers
pub over_nothing : (status : Status) → (IsRunning status → ⊥) → HasNoPointers status
over_nothing Joining over = absurd (over tt)
over_nothing Core over = absurd (over tt)
over_nothing Leaving over = absurd (over tt)
over_nothing GoneStatus over = tt
over_nothing Ceased over = tt

-- a node that joins or has ended knows nothing of any pair, and one that leaves publishes nothing
pub record KnowsByStatus (node : NodeState) : Type 0 where
  pub none : HasNoPointers node.status → node.pointers.pairs ≡ []
  pub leaver : node.status ≡ Leaving → (pair : Pair) → publishes node.pointers pair ≡ false

-- nothing is published if nothing is known
pub nothing_published : (p : PointersValue) → p.pairs ≡ [] → (pair : Pair) → publishes p pair ≡ false
nothing_published p none pair = ap (λ pairs. (state_among pairs pair).published) none

-- A node that runs on: its pointers are pointers, laid as before, with the words heard that are taken, and with these publications; and its
-- stamp hasn't fallen.
pub record RunsOn (Taken : List ℕ → Pair → LayWord → Type 0) (now : Pair → Bool) (node : NodeState) (r : Reaction) : Type 0 where
  pub before : IsRunning node.status
  pub stamp : node.stamp ≤ r.state.stamp
  pub are : IsPointers r.state.pointers
  pub laid : (pair : Pair) → laid_at r.state.pointers pair ≡ laid_at node.pointers pair
  pub hears : Hears Taken node.pointers r.state.pointers
  pub ascend : (pair : Pair) → IsAscending name_cmp (registers_of node.pointers pair)
      → IsAscending name_cmp (registers_of r.state.pointers pair)
  pub publishes_so : (pair : Pair) → publishes r.state.pointers pair ≡ now pair
  pub nothing : r.state.status ≡ Joining → r.state.pointers.pairs ≡ []
  pub leaving : r.state.status ≡ Leaving → (pair : Pair) → now pair ≡ false

-- A node that ends: it clears these pointers, laid as before, with numbers after its stamp's, knows nothing of any pair, and publishes
-- nothing.
pub record ClearsAll (now : Pair → Bool) (node : NodeState) (r : Reaction) : Type 0 where
  pub pointers : PointersValue
  pub last : ℕ
  pub lays : r.lays ≡ clear_lays last pointers
  pub stamp : node.stamp ≤ last
  pub are : IsPointers pointers
  pub laid : (pair : Pair) → laid_at pointers pair ≡ laid_at node.pointers pair
  pub nothing : r.state.pointers.pairs ≡ []
  pub unpublished : (pair : Pair) → now pair ≡ false

pub record RuleTurn (Taken : List ℕ → Pair → LayWord → Type 0) (now : Pair → Bool) (node : NodeState) (r : Reaction) : Type 0 where
  pub messages : All SaysNoLay r.messages
  pub becomes : MayBecome node.status r.state.status
  pub runs : IsRunning r.state.status → RunsOn Taken now node r
  pub ends : (IsRunning r.state.status → ⊥) → ClearsAll now node r

-- ---- rules that leave the pointers alone

module _ (node : NodeState) where
  -- the status and the pointers stay, the stamp doesn't fall, and no Lay is sent
  pub record IsQuietly (r : Reaction) : Type 0 where
    pub messages : All SaysNoLay r.messages
    pub status : r.state.status ≡ node.status
    pub pointers : r.state.pointers ≡ node.pointers
    pub stamp : node.stamp ≤ r.state.stamp
    pub lays : r.lays ≡ []

  quietly : (r : Reaction) → r.state.status ≡ node.status → r.state.pointers ≡ node.pointers → node.stamp ≤ r.state.stamp → r.lays ≡ []
      → All SaysNoLay r.messages → IsQuietly r
  quietly r status pointers stamp lays messages =
      record { messages = messages; status = status; pointers = pointers; stamp = stamp; lays = lays }

  -- the stamp stays, or has numbered some
  same : (a : ℕ) → a ≤ a
  same a = omega arith

  grown : (after before more : ℕ) → after ≡ before + more → before ≤ after
  grown after before more is = omega (arith, is)

  pin_stamp : (joiner : List ℕ) → node.stamp ≤ (with_pin node joiner).stamp
  pin_stamp joiner = grown _ _ _ (one_word _ joiner node.stamp true)

-- what a node publishes once it has started something
abbrev pub published_by : NodeState → Start → Pair → Bool
published_by node (Publish object) pair = if is_same pair (own_pair node.pointers object) then true else publishes node.pointers pair
published_by node (Withdraw object) pair = if is_same pair (own_pair node.pointers object) then false else publishes node.pointers pair
published_by node StartLeave pair = false
published_by node _ pair = publishes node.pointers pair

-- ---- all rules

module _ (node : NodeState) (is : IsNode node) (knows : KnowsByStatus node) where
  none_to_clear : (last : ℕ) (p : PointersValue) → p.pairs ≡ [] → [] ≡ clear_lays last p
  none_to_clear last p none = ap (λ pairs. lays_numbered last (layings_to_none pairs)) (sym none)

  -- a node that runs on with its pointers
  module _ (Taken : List ℕ → Pair → LayWord → Type 0) (none : (x : List ℕ) (pair : Pair) (word : LayWord) → Taken x pair word → ⊥) where
    runs_alike : (r : Reaction) → IsRunning node.status
        → ((status : Status) → (status ≡ Core → ⊥) → r.state.status ≡ status → node.status ≡ status)
        → r.state.pointers ≡ node.pointers → node.stamp ≤ r.state.stamp → RunsOn Taken (publishes node.pointers) node r
    runs_alike r before still pointers stamp = record {
      before = before;
      stamp = stamp;
      are = subst IsPointers (sym pointers) is.pointers;
      laid = λ pair. ap (λ p. laid_at p pair) pointers;
      hears = hears_none Taken node.pointers r.state.pointers none (λ pair x. ap (λ p. lay_word_kept p pair x) pointers);
      ascend = λ pair. subst (λ p. IsAscending name_cmp (registers_of p pair)) (sym pointers);
      publishes_so = λ pair. ap (λ p. publishes p pair) pointers;
      nothing = λ joining. ap (λ (p : PointersValue). p.pairs) pointers ∙ knows.none (subst HasNoPointers (sym (still Joining (λ same. cc) joining)) tt);
      leaving = λ leaving. knows.leaver (still Leaving (λ same. cc) leaving);
    }

    quiet : (r : Reaction) → IsQuietly node r → RuleTurn Taken (publishes node.pointers) node r
    quiet r q = record {
      messages = q.messages;
      becomes = subst (MayBecome node.status) (sym q.status) (may_stay node.status);
      runs = λ runs. runs_alike r (subst IsRunning q.status runs) (λ status apart is. sym q.status ∙ is) q.pointers q.stamp;
      ends = λ over.
          let without = knows.none (over_nothing node.status (λ runs. over (subst IsRunning (sym q.status) runs))) in
          record {
            pointers = node.pointers;
            last = node.stamp;
            lays = q.lays ∙ none_to_clear node.stamp node.pointers without;
            stamp = omega arith;
            are = is.pointers;
            laid = λ pair. refl;
            nothing = ap (λ (p : PointersValue). p.pairs) q.pointers ∙ without;
            unpublished = nothing_published node.pointers without;
          };
    }

  -- a node that ends
  ended_so : (Taken : List ℕ → Pair → LayWord → Type 0) (now : Pair → Bool) (r : Reaction) → MayBecome node.status r.state.status
      → (IsRunning r.state.status → ⊥) → All SaysNoLay r.messages → ClearsAll now node r → RuleTurn Taken now node r
  ended_so Taken now r becomes over messages clears =
      record { messages = messages; becomes = becomes; runs = λ runs. absurd (over runs); ends = λ has. clears }

  -- one that goes on
  goes_on : (Taken : List ℕ → Pair → LayWord → Type 0) (now : Pair → Bool) (r : Reaction) → MayBecome node.status r.state.status
      → IsRunning r.state.status → All SaysNoLay r.messages → RunsOn Taken now node r → RuleTurn Taken now node r
  goes_on Taken now r becomes runs messages on =
      record { messages = messages; becomes = becomes; runs = λ still. on; ends = λ over. absurd (over runs) }

  -- ---- frames

  -- the words that a frame of this sender says
  abbrev pub TakenBy : List ℕ → Body → List ℕ → Pair → LayWord → Type 0
  TakenBy from body x pair word = (x ≡ from) × (body ≡ Lay pair.object pair.server word.level word.version word.on)

  abbrev pub FrameTurn : List ℕ → Body → Reaction → Type 0
  FrameTurn from body r = RuleTurn (TakenBy from body) (publishes node.pointers) node r

  module _ (from : List ℕ) where
    no_lay : (body : Body) → IsNoLay body → (x : List ℕ) (pair : Pair) (word : LayWord) → TakenBy from body x pair word → ⊥
    no_lay body is_no x pair word taken = subst IsNoLay taken.1 is_no

    -- a Lay, at a core or leaving node
    module _ (object server : List ℕ) (level version : ℕ) (on : Bool) where
      abbrev said : LayWord
      said = record { version = version; level = level; on = on }

      abbrev about : Pair
      about = pair_of object server

      abbrev body_is : Body
      body_is = Lay object server level version on

      taken_of : (x : List ℕ) (pair : Pair) (word : LayWord) → IsOf node.pointers about from said x pair word
          → TakenBy from body_is x pair word
      taken_of x pair word of = (
        of.0,
        sym (ap (λ (q : Pair). Lay q.object q.server word.level word.version word.on) of.1
            ∙ ap (λ (w : LayWord). Lay object server w.level w.version w.on) of.2),
      )

      word_is : (word : LayWord) → word.version ≡ version → word.level ≡ level → word.on ≡ on → word ≡ said
      word_is word versions levels ons =
          let one : word ≡ record { version = version; level = word.level; on = word.on } =
          ap (λ v. record { version = v; level = word.level; on = word.on }) versions in
          let two : record { version = version; level = word.level; on = word.on } ≡ record { version = version; level = level; on = word.on } =
          ap (λ l. record { version = version; level = l; on = word.on }) levels in
          let three : record { version = version; level = level; on = word.on } ≡ said =
          ap (λ b. record { version = version; level = level; on = b }) ons in
          one ∙ two ∙ three

      pair_is : (pair : Pair) → pair.object ≡ object → pair.server ≡ server → pair ≡ about
      pair_is pair objects servers =
          let one : pair ≡ pair_of object pair.server = ap (λ o. pair_of o pair.server) objects in
          one ∙ ap (pair_of object) servers

      of_taken : (x : List ℕ) (pair : Pair) (word : LayWord) → TakenBy from body_is x pair word
          → IsOf node.pointers about from said x pair word
      of_taken x pair word taken =
          let is = taken.1 in
          let objects : pair.object ≡ object = cc in
          let servers : pair.server ≡ server = cc in
          let levels : word.level ≡ level = cc in
          let versions : word.version ≡ version = cc in
          let ons : word.on ≡ on = cc in
          (taken.0, pair_is pair objects servers, word_is word versions levels ons)

      hears_it : Hears (TakenBy from body_is) node.pointers (heard node.pointers about from said)
      hears_it =
          let hears = hears_lay node.pointers about from said in
          record {
            came = λ x pair word kept. elim (hears.came x pair word kept) [
              | inl was ↦ inl was
              | inr of ↦ inr (taken_of x pair word of)
            ];
            stays = λ x pair word kept. elim (hears.stays x pair word kept) [
              | inl still ↦ inl still
              | inr newer ↦ inr (newer.0, taken_of x pair newer.0 newer.1, newer.2, newer.3)
            ];
            took = λ x pair word taken. hears.took x pair word (of_taken x pair word taken);
          }

      lay_turn : IsRunning node.status → (node.status ≡ Joining → ⊥) → (1 ≤ level) → (level ≤ length object)
          → FrameTurn from body_is (takes_lay node from about level version on)
      lay_turn runs apart least most =
          goes_on (TakenBy from body_is) (publishes node.pointers) (takes_lay node from about level version on) (may_stay node.status) runs
          (All-nil SaysNoLay) (record {
            before = runs;
            stamp = omega arith;
            are = are-lay_applied node.pointers is.pointers about from version (record { level = level; on = on }) least most;
            laid = heard_laid node.pointers about from said;
            hears = hears_it;
            ascend = heard_ascends node.pointers about from said;
            publishes_so = heard_publishes node.pointers about from said;
            nothing = λ joining. absurd (apart joining);
            leaving = λ leaving. knows.leaver leaving;
          })

    -- the level of a Lay is one of its object's
    abbrev pub HasLevel : Body → Type 0
    HasLevel (Lay object server level version on) = (1 ≤ level) × (level ≤ length object)
    HasLevel _ = Unit {0}

  -- nothing is heard at a start
  abbrev pub NoneTaken : List ℕ → Pair → LayWord → Type 0
  NoneTaken x pair word = ⊥

  abbrev pub publishes_by : Start → Pair → Bool
  publishes_by start pair = published_by node start pair

  abbrev pub StartTurn : Start → Reaction → Type 0
  StartTurn start r = RuleTurn NoneTaken (publishes_by start) node r

  none_taken : (x : List ℕ) (pair : Pair) (word : LayWord) → NoneTaken x pair word → ⊥
  none_taken x pair word taken = taken

  -- ---- each rule

  -- what is heard, and what is published afterwards
  abbrev TakenAt : Cause → List ℕ → Pair → LayWord → Type 0
  TakenAt (Takes from body) = TakenBy from body
  TakenAt (Starts start) = NoneTaken

  abbrev now_at : Cause → Pair → Bool
  now_at (Takes from body) = publishes node.pointers
  now_at (Starts start) = publishes_by start

  abbrev Turn : Cause → Reaction → Type 0
  Turn cause r = RuleTurn (TakenAt cause) (now_at cause) node r

  -- neither a word of a pointer comes nor a publication
  abbrev IsStill : Cause → Type 0
  IsStill (Takes from body) = IsNoLay body
  IsStill (Starts (Publish object)) = ⊥
  IsStill (Starts (Withdraw object)) = ⊥
  IsStill (Starts StartLeave) = ⊥
  IsStill (Starts _) = Unit {0}

  still : (cause : Cause) → IsStill cause → (r : Reaction) → IsQuietly node r → Turn cause r
  still (Takes from body) is_no r q = quiet (TakenBy from body) (no_lay from body is_no) r q
  still (Starts (Publish object)) is_still r q = absurd is_still
  still (Starts (Withdraw object)) is_still r q = absurd is_still
  still (Starts StartLeave) is_still r q = absurd is_still
  still (Starts _) is_still r q = quiet NoneTaken none_taken r q

  asked_still : {cause : Cause} {request : Request} → IsAsked node cause request → IsStill cause
  asked_still (BySeek ends) = tt
  asked_still ByTell = tt

  cast_still : {cause : Cause} {copy : Copy} → IsCast node cause copy → IsStill cause
  cast_still ByStart = tt
  cast_still ByCopy = tt

  answer_still : {session : ℕ} {body : Body} → IsAnswer session body → IsNoLay body
  answer_still ByHeard = tt
  answer_still ByAck = tt

  abbrev BringsLevel : Cause → Type 0
  BringsLevel (Takes from body) = HasLevel from body
  BringsLevel (Starts start) = Unit {0}

  late_runs : {status : Status} → IsLate status → node.status ≡ status → IsRunning node.status × (node.status ≡ Joining → ⊥)
  late_runs IsLate.IsCore at = (subst IsRunning (sym at) tt, λ joining. let wrong : Joining ≡ Core = sym joining ∙ at in cc)
  late_runs IsLate.IsLeaving at = (subst IsRunning (sym at) tt, λ joining. let wrong : Joining ≡ Leaving = sym joining ∙ at in cc)

  -- a node that is gone clears its pointers, laid as before
  gone_so : (Taken : List ℕ → Pair → LayWord → Type 0) (now : Pair → Bool) (leaving : NodeState) → MayBecome node.status GoneStatus
      → leaving.stamp ≡ node.stamp → IsPointers leaving.pointers → ((pair : Pair) → laid_at leaving.pointers pair ≡ laid_at node.pointers pair)
      → ((pair : Pair) → now pair ≡ false) → All SaysNoLay (finishes leaving).messages → RuleTurn Taken now node (finishes leaving)
  gone_so Taken now leaving may_end stamp are laid unpublished sent =
      ended_so Taken now (finishes leaving) may_end (λ runs. runs) sent (record {
        pointers = leaving.pointers;
        last = _;
        lays = refl;
        stamp = omega (arith, stamp);
        are = are;
        laid = laid;
        nothing = refl;
        unpublished = unpublished;
      })

  case_turn : {status : Status} (cause : Cause) {r : Reaction} → RuleCase node status cause r → node.status ≡ status → BringsLevel cause
      → All SaysNoLay r.messages → Turn cause r
  case_turn cause (HasCeased {from = from} given_up) at levels sent =
      let without = knows.none (subst HasNoPointers (sym at) tt) in
      ended_so (TakenBy from Done) (publishes node.pointers) (ceases node) (subst (λ s. MayBecome s Ceased) (sym at) tt) (λ runs. runs)
      sent (record {
        pointers = node.pointers;
        last = node.stamp;
        lays = none_to_clear node.stamp node.pointers without;
        stamp = omega arith;
        are = is.pointers;
        laid = λ pair. refl;
        nothing = refl;
        unpublished = nothing_published node.pointers without;
      })
  case_turn cause (IsCoreNow {from = from} goes) at levels sent =
      goes_on (TakenBy from Done) (publishes node.pointers) (becomes_core node) (subst (λ s. MayBecome s Core) (sym at) tt) tt sent
      (runs_alike (TakenBy from Done) (no_lay from Done tt) (becomes_core node) (subst IsRunning (sym at) tt)
      (λ status apart is. absurd (apart (sym is))) refl (omega arith))
  case_turn cause (TakesPointer {from = from} {object = object} {server = server} {level = level} {version = version} {on = on} late) at levels sent =
      let runs = late_runs late at in lay_turn from object server level version on runs.0 runs.1 levels.0 levels.1
  case_turn cause (Publishes {object = object}) at levels sent =
      goes_on NoneTaken (publishes_by (Publish object)) (starts_publish node object) (may_stay node.status) (subst IsRunning (sym at) tt)
      sent (record {
        before = subst IsRunning (sym at) tt;
        stamp = omega arith;
        are = are-published node.pointers is.pointers object;
        laid = published_laid node.pointers object;
        hears = hears_none NoneTaken node.pointers (published node.pointers object) none_taken (published_kept node.pointers object);
        ascend = λ pair. subst (IsAscending name_cmp) (sym (published_registers node.pointers object pair));
        publishes_so = published_publishes node.pointers object;
        nothing = λ joining. let wrong : Joining ≡ Core = sym joining ∙ at in cc;
        leaving = λ leaving. let wrong : Leaving ≡ Core = sym leaving ∙ at in absurd (cc);
      })
  case_turn cause (WithdrawsIt {object = object}) at levels sent =
      goes_on NoneTaken (publishes_by (Withdraw object)) (starts_withdraw node object) (may_stay node.status) (subst IsRunning (sym at) tt)
      sent (record {
        before = subst IsRunning (sym at) tt;
        stamp = omega arith;
        are = are-withdrawn node.pointers is.pointers object;
        laid = withdrawn_laid node.pointers object;
        hears = hears_none NoneTaken node.pointers (withdrawn node.pointers object) none_taken (withdrawn_kept node.pointers object);
        ascend = λ pair. subst (IsAscending name_cmp) (sym (withdrawn_registers node.pointers object pair));
        publishes_so = withdrawn_publishes node.pointers object;
        nothing = λ joining. let wrong : Joining ≡ Core = sym joining ∙ at in cc;
        leaving = λ leaving. let wrong : Leaving ≡ Core = sym leaving ∙ at in absurd (cc);
      })
  case_turn cause (TellsHolders some) at levels sent =
      goes_on NoneTaken (publishes_by StartLeave) _ (subst (λ s. MayBecome s Leaving) (sym at) tt) tt sent (record {
        before = subst IsRunning (sym at) tt;
        stamp = omega arith;
        are = are-all_withdrawn node.pointers is.pointers;
        laid = all_withdrawn_laid node.pointers;
        hears = hears_none NoneTaken node.pointers (all_withdrawn node.pointers) none_taken (all_withdrawn_kept node.pointers);
        ascend = λ pair. subst (IsAscending name_cmp) (sym (all_withdrawn_registers node.pointers pair));
        publishes_so = all_withdrawn_publishes node.pointers;
        nothing = λ joining. let wrong : Leaving ≡ Joining = joining in cc;
        leaving = λ leaving pair. refl;
      })
  case_turn cause (IsGoneNow StartsLeaving none) at levels sent =
      gone_so NoneTaken (publishes_by StartLeave) (with_departure node) (subst (λ s. MayBecome s GoneStatus) (sym at) tt) refl
      (are-all_withdrawn node.pointers is.pointers) (all_withdrawn_laid node.pointers) (λ pair. refl) sent
  case_turn cause (IsGoneNow (OneLeft {from = from}) none) at levels sent =
      gone_so (TakenBy from Left) (publishes node.pointers) (record node { awaited = names_but node.awaited from })
      (subst (λ s. MayBecome s GoneStatus) (sym at) tt) refl is.pointers
      (λ pair. refl) (knows.leaver at) sent
  case_turn cause (GreetedBefore before) at levels sent = still cause tt _ (quietly node _ refl refl (pin_stamp node _) refl sent)
  case_turn cause (Greets before) at levels sent = still cause tt _ (quietly node _ refl refl (pin_stamp node _) refl sent)
  case_turn cause IsGreeted at levels sent = still cause tt _ (quietly node _ refl refl (omega arith) refl sent)
  case_turn cause (IsReleased {from = from} early) at levels sent =
      still cause tt _ (quietly node _ refl refl (grown node _ _ _ (one_word _ from node.stamp false)) refl sent)
  case_turn cause (MarksLeaver {from = from} {replacement = replacement}) at levels sent =
      still cause tt _ (quietly node _ refl refl
      (grown node _ _ _ (one_offer (marked node.ties from) node.stamp (taken_in (marked node.ties from) from replacement))) refl sent)
  case_turn cause (Counts at' kind none) at levels sent = still cause (answer_still kind) _ (quietly node _ refl refl (same node _) refl sent)
  case_turn cause (Closes at' kind closed) at levels sent = still cause (answer_still kind) _ (quietly node _ refl refl (same node _) refl sent)
  case_turn cause (CoveredBefore asked turn) at levels sent = still cause (asked_still asked) _ (quietly node _ refl refl (pin_stamp node _) refl sent)
  case_turn cause (CoversAlone asked turn zero) at levels sent = still cause (asked_still asked) _ (quietly node _ refl refl (pin_stamp node _) refl sent)
  case_turn cause (CoversOn asked turn some) at levels sent = still cause (asked_still asked) _ (quietly node _ refl refl (pin_stamp node _) refl sent)
  case_turn cause (CastBefore of turn) at levels sent = still cause (cast_still of) _ (quietly node _ refl refl (same node _) refl sent)
  case_turn cause (CastsAlone of turn) at levels sent = still cause (cast_still of) _ (quietly node _ refl refl (same node _) refl sent)
  case_turn cause (CastsOn of turn) at levels sent = still cause (cast_still of) _ (quietly node _ refl refl (same node _) refl sent)
  case_turn cause _ at levels sent = still cause tt _ (quietly node _ refl refl (same node _) refl sent)

  no_lays : {status : Status} {cause : Cause} (m : Message) → IsNamed node status cause m → SaysNoLay m
  no_lays m FirstSeek = tt
  no_lays m _ = tt

  pub frame_turn : (from : List ℕ) (status : Status) → node.status ≡ status → (body : Body) → HasLevel from body
      → IfSome (rule_of_frame status node from body) (FrameTurn from body)
  frame_turn from status at body levels =
      each_case node SaysNoLay (FrameTurn from body) status (Takes from body) no_lays (λ r case. case_turn (Takes from body) case at levels)

  pub start_turn : (status : Status) → node.status ≡ status → (start : Start) → IfSome (rule_of_start status node start) (StartTurn start)
  start_turn status at start =
      each_case node SaysNoLay (StartTurn start) status (Starts start) no_lays (λ r case. case_turn (Starts start) case at tt)
