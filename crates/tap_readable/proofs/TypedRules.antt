-- What each rule sends is typed: numbers of sessions, tickets and casts, versions and depths fit their fields, and slots ascend.
use Rattle.std.proofs.Common.{◌≡◌, ℕ, ◌+◌, ◌<◌, ◌≤◌, ◌^◌, true, false, List, [], length, All, refl, sym, subst, arith}
use Rattle.std.specs.Prelude.{IfSome}
use Rattle.std.proofs.lemmas.List.Elements.{All-nil}
use Rattle.tap_session.specs.declared.parent.Parent.{Parent}
use Rattle.tap_session.specs.Sessions.{answered_at}
use Rattle.tap_table.specs.ByName.{targets_by_name}
use Rattle.tap_table.specs.Ties.{marked}
use Rattle.tap_join.specs.Hello.{hello_names, words_of}
use Rattle.tap_depart.specs.ToldLeave.{taken_in}
use Rattle.tap_pointer.specs.Reconcile.{clear_lays}
use Rattle.tap_pointer.proofs.Due.{clear_lays-versions}
use Rattle.tap_watch.specs.Watch.{SlotsAscend}
use Rattle.tap_watch.proofs.Levels.{levels_ascend}
use Rattle.tap_wire.specs.declared.frame.Body.{Body}
use Rattle.tap_wire.specs.declared.frame.Body.TheVariants.{Tell, Cast}
use Rattle.tap_wire.specs.Spelling.{IsTyped}
use Rattle.tap_rule.specs.Node.{NodeState, Status, settings_of}
use Rattle.tap_rule.specs.Event.{Start}
use Rattle.tap_rule.specs.Event.Start.{Find as StartFind, Cast as StartCast}
use Rattle.tap_rule.specs.Reaction.{Message, Reaction, pin_word, with_pin}
use Rattle.tap_rule.specs.Answers.{with_session}
use Rattle.tap_rule.specs.Covering.{Request}
use Rattle.tap_rule.specs.Leaving.{finishes, last_words}
use Rattle.tap_rule.specs.Casts.{Copy}
use Rattle.tap_rule.specs.FrameRules.{rule_of_frame}
use Rattle.tap_rule.specs.StartRules.{rule_of_start}
use Rattle.tap_rule.proofs.Completed.{one_offer, one_word}
use Rattle.tap_rule.proofs.Cases.{Cause, IsAsked, IsCast, IsNamed, IsParting, RuleCase}
use Rattle.tap_rule.proofs.Cases.Cause.{Takes, Starts}
use Rattle.tap_rule.proofs.Cases.IsAsked.{BySeek, ByTell}
use Rattle.tap_rule.proofs.Cases.IsCast.{ByStart, ByCopy}
use Rattle.tap_rule.proofs.Cases.IsParting.{StartsLeaving, OneLeft}
use Rattle.tap_rule.proofs.Cases.IsNamed.{AckBack, AnswerBack, CastAckBack, CastOn, ClosingAck, ClosingCastAck, FirstFind, HeardBack, CoreHello, JoiningHello, NextFind, TellOn}
use Rattle.tap_rule.proofs.Cases.RuleCase.{CastsOn, Closes, ClosesCast, Counts, CountsCast, CoveredBefore, CoversAlone, CoversOn, GreetedBefore, Greets, HasCeased, IsGoneNow, IsGreeted, IsReleased, MarksLeaver}
use Rattle.tap_rule.proofs.Named.{each_case}
use Rattle.tap_readable.proofs.Typed.{AreLaysTo, AreWordsTo, HaveTypedParents, IsTypedParent, KnowsTyped, LeavesAscending, closed_parent, covered_ascends, lays_to, links_to, no_words, off_to, offer_to, parents-answered, parents-opened, word_to}

-- ---- what comes and goes

-- one deeper has 16 bits too
abbrev pub IsShallow : Body → Type 0
IsShallow (Tell joiner prefix level session depth watch) = depth + 1 < 2 ^ 16
IsShallow (Cast cast level session depth word) = depth + 1 < 2 ^ 16
IsShallow _ = Unit {0}

-- a ticket and a cast that are begun have 32 bits
abbrev pub IsTypedStart : Start → Type 0
IsTypedStart (StartFind ticket object) = ticket < 2 ^ 32
IsTypedStart (StartCast cast level word) = cast < 2 ^ 32
IsTypedStart _ = Unit {0}

abbrev IsTypedMessage : Message → Type 0
IsTypedMessage m = IsTyped m.body

abbrev pub AreTyped : List Message → Type 0
AreTyped messages = All IsTypedMessage messages

-- What a rule leaves and sends: who asked is typed, and so are the messages; and the words and the Lays take the numbers after the stamp's
-- last.
pub record IsTypedRule (node : NodeState) (r : Reaction) : Type 0 where
  pub knows : KnowsTyped r.state
  pub stamp : r.state.stamp ≤ node.stamp + length r.words
  pub words : AreWordsTo (node.stamp + length r.words) r.words
  pub messages : AreTyped r.messages
  pub lays : AreLaysTo (node.stamp + length r.words + length r.lays) r.lays

as_many : (a b : ℕ) → a ≡ b → a ≤ b
as_many a b same = omega (arith, same)

and_more : (a b c : ℕ) → a ≡ b → a ≤ b + c
and_more a b c same = omega (arith, same)

-- ---- rules

module _ (node : NodeState) (knows : KnowsTyped node) where
  -- who asked stays
  alike : (after : NodeState) → after.sessions ≡ node.sessions → after.cast_sessions ≡ node.cast_sessions → KnowsTyped after
  alike after sessions casts = record {
    parents = subst HaveTypedParents (sym sessions) knows.parents;
    cast_parents = subst HaveTypedParents (sym casts) knows.cast_parents;
  }

  -- these words and messages are sent, and no Lay
  says : (r : Reaction) → KnowsTyped r.state → r.state.stamp ≤ node.stamp + length r.words
      → AreWordsTo (node.stamp + length r.words) r.words → r.lays ≡ [] → AreTyped r.messages → IsTypedRule node r
  says r after stamp words lays messages = record {
    knows = after;
    stamp = stamp;
    words = words;
    messages = messages;
    lays = subst (λ (l : _). AreLaysTo (node.stamp + length r.words + length l) l) (sym lays) (All-nil (λ lay. lay.version ≤ node.stamp + length r.words + 0));
  }

  -- no word either, and the stamp stays
  plain : (r : Reaction) → KnowsTyped r.state → r.state.stamp ≡ node.stamp → r.words ≡ [] → r.lays ≡ [] → AreTyped r.messages
      → IsTypedRule node r
  plain r after stamp words lays messages =
      says r after (and_more _ _ (length r.words) stamp)
      (subst (λ w. AreWordsTo (node.stamp + length w) w) (sym words) (no_words (node.stamp + 0))) lays messages

  -- and who asked stays
  only_sends : (r : Reaction) → r.state.sessions ≡ node.sessions → r.state.cast_sessions ≡ node.cast_sessions
      → r.state.stamp ≡ node.stamp → r.words ≡ [] → r.lays ≡ [] → AreTyped r.messages → IsTypedRule node r
  only_sends r sessions casts stamp words lays messages = plain r (alike r.state sessions casts) stamp words lays messages

  -- a node that has ended keeps its sessions of joins alone
  over : (after : NodeState) → after.sessions ≡ node.sessions → after.cast_sessions.sessions ≡ [] → KnowsTyped after
  over after sessions casts = record {
    parents = subst HaveTypedParents (sym sessions) knows.parents;
    cast_parents = subst (λ l. All (λ s. IsTypedParent s.parent) l) (sym casts) (All-nil (λ s. IsTypedParent s.parent));
  }

  -- the words take the numbers after the stamp's last
  with_words_to : (r : Reaction) → r.state.sessions ≡ node.sessions → r.state.cast_sessions ≡ node.cast_sessions
      → r.state.stamp ≡ node.stamp + length r.words → AreWordsTo (node.stamp + length r.words) r.words → r.lays ≡ [] → AreTyped r.messages
      → IsTypedRule node r
  with_words_to r sessions casts stamp words lays sent = says r (alike r.state sessions casts) (as_many _ _ stamp) words lays sent

  pin_words : (joiner : List ℕ) → AreWordsTo (node.stamp + length (words_of (pin_word node joiner))) (words_of (pin_word node joiner))
  pin_words joiner = word_to _ joiner node.stamp true

  pin_stamp : (joiner : List ℕ) → (with_pin node joiner).stamp ≡ node.stamp + length (words_of (pin_word node joiner))
  pin_stamp joiner = one_word _ joiner node.stamp true

  -- a session of joins more, and one of casts
  opens : (after : NodeState) (parent : Parent) (depth waiting : ℕ) → after.sessions ≡ node.sessions
      → after.cast_sessions ≡ node.cast_sessions → IsTypedParent parent → KnowsTyped (with_session after parent depth waiting)
  opens after parent depth waiting sessions casts is =
      let all = alike after sessions casts in
      record { parents = parents-opened after.sessions parent depth waiting all.parents is; cast_parents = all.cast_parents }

  -- a session of either kind has one answer more
  counted : (session : ℕ) → KnowsTyped (record node { sessions = answered_at node.sessions session })
  counted session =
      record { parents = parents-answered node.sessions session knows.parents; cast_parents = knows.cast_parents }

  cast_counted : (session : ℕ) → KnowsTyped (record node { cast_sessions = answered_at node.cast_sessions session })
  cast_counted session =
      record { parents = knows.parents; cast_parents = parents-answered node.cast_sessions session knows.cast_parents }

  parting_stays : {status : Status} {cause : Cause} {leaving : NodeState} → IsParting node status cause leaving
      → (leaving.sessions ≡ node.sessions) × (leaving.stamp ≡ node.stamp)
  parting_stays StartsLeaving = (refl, refl)
  parting_stays OneLeft = (refl, refl)

  finishing : (leaving : NodeState) → leaving.sessions ≡ node.sessions → leaving.stamp ≡ node.stamp
      → AreTyped (finishes leaving).messages → IsTypedRule node (finishes leaving)
  finishing leaving sessions stamp sent =
      let words = last_words leaving in
      let number = leaving.stamp + length words in record {
        knows = over _ sessions refl;
        stamp = omega arith;
        words = subst (λ s. AreWordsTo (s + length words) words) stamp (off_to leaving.stamp (targets_by_name leaving.ties.table));
        messages = sent;
        lays = subst (λ s. AreLaysTo (s + length words + length (clear_lays number leaving.pointers)) (clear_lays number leaving.pointers)) stamp
            (lays_to number (clear_lays number leaving.pointers) (clear_lays-versions number leaving.pointers));
      }

  -- ---- at a node with room for one more session of each kind

  module _ (room : node.sessions.opened + 1 < 2 ^ 32) (cast_room : node.cast_sessions.opened + 1 < 2 ^ 32) where
    -- what comes is typed and shallow
    abbrev BringsTyped : Cause → Type 0
    BringsTyped (Takes from body) = IsTyped body × IsShallow body
    BringsTyped (Starts start) = IsTypedStart start

    asked_by : {cause : Cause} {request : Request} → IsAsked node cause request → BringsTyped cause
        → IsTypedParent request.parent × (request.depth + 1 < 2 ^ 16) × SlotsAscend request.watch
    asked_by (BySeek {joiner = joiner} {prefix = prefix} on) is = (tt, omega arith, levels_ascend (settings_of node).base joiner (prefix + 1))
    asked_by ByTell is = (is.0.0, is.1, is.0.2)

    cast_by : {cause : Cause} {copy : Copy} → IsCast node cause copy → BringsTyped cause
        → (copy.cast < 2 ^ 32) × IsTypedParent copy.parent × (copy.depth + 1 < 2 ^ 16)
    cast_by ByStart is = (is, tt, omega arith)
    cast_by ByCopy is = (is.0.0, is.0.1, is.1)

    named_typed : {status : Status} {cause : Cause} → BringsTyped cause → (m : Message) → IsNamed node status cause m → IsTypedMessage m
    named_typed is m (TellOn {request = request} k default asked turn within) =
        let by = asked_by asked is in (
          room,
          by.1,
          subst LeavesAscending turn
              (covered_ascends node.covers (with_pin node request.joiner).ties.table request.watch request.joiner request.prefix
              request.level by.2),
        )
    named_typed is m (CoreHello asked turn) = room
    named_typed is m JoiningHello = room
    named_typed is m HeardBack = is.0
    named_typed is m AckBack = is.0.0
    named_typed is m (ClosingAck {session = session} kind closed) = closed_parent node.sessions session _ knows.parents closed
    named_typed is m (FirstFind none hop) = is
    named_typed is m (NextFind none hop) = is.0
    named_typed is m (AnswerBack held ends) = is.0
    named_typed is m (CastOn k default of turn within) = let by = cast_by of is in (by.0, cast_room, by.2)
    named_typed is m CastAckBack = is.0.1
    named_typed is m (ClosingCastAck {session = session} closed) = closed_parent node.cast_sessions session _ knows.cast_parents closed
    named_typed is m _ = tt

    case_typed : {status : Status} {cause : Cause} {r : Reaction} → RuleCase node status cause r → BringsTyped cause → AreTyped r.messages
        → IsTypedRule node r
    case_typed (GreetedBefore before) is sent = with_words_to _ refl refl (pin_stamp _) (pin_words _) refl sent
    case_typed (Greets before) is sent = says _ (opens _ _ _ 1 refl refl is.0.0) (as_many _ _ (pin_stamp _)) (pin_words _) refl sent
    case_typed (IsGreeted {from = from} {core = core} {links = links}) is sent =
        with_words_to _ refl refl refl (links_to node.ties node.stamp (hello_names from core links)) refl sent
    case_typed (HasCeased given_up) is sent =
        says _ (over _ refl refl) (omega arith) (off_to node.stamp (targets_by_name node.ties.table)) refl sent
    case_typed (IsReleased {from = from} at) is sent =
        with_words_to _ refl refl (one_word _ from node.stamp false) (word_to _ from node.stamp false) refl sent
    case_typed (Counts {session = session} at kind none) is sent = plain _ (counted session) refl refl refl sent
    case_typed (Closes {session = session} at kind closed) is sent = plain _ (counted session) refl refl refl sent
    case_typed (CoveredBefore asked turn) is sent = with_words_to _ refl refl (pin_stamp _) (pin_words _) refl sent
    case_typed (CoversAlone asked turn zero) is sent = with_words_to _ refl refl (pin_stamp _) (pin_words _) refl sent
    case_typed (CoversOn asked turn some) is sent =
        says _ (opens _ _ _ _ refl refl (asked_by asked is).0) (as_many _ _ (pin_stamp _)) (pin_words _) refl sent
    case_typed (MarksLeaver {from = from} {replacement = replacement}) is sent =
        let taken = taken_in (marked node.ties from) from replacement in
        with_words_to _ refl refl (one_offer (marked node.ties from) node.stamp taken) (offer_to (marked node.ties from) node.stamp taken)
        refl sent
    case_typed (CastsOn {copy = copy} of turn) is sent =
        plain _ (record {
          parents = knows.parents;
          cast_parents = parents-opened node.cast_sessions copy.parent copy.depth _ knows.cast_parents (cast_by of is).1;
        }) refl refl refl sent
    case_typed (CountsCast {session = session} none) is sent = plain _ (cast_counted session) refl refl refl sent
    case_typed (ClosesCast {session = session} closed) is sent = plain _ (cast_counted session) refl refl refl sent
    case_typed (IsGoneNow {leaving = leaving} parting none) is sent =
        let stays = parting_stays parting in finishing leaving stays.0 stays.1 sent
    case_typed _ is sent = only_sends _ refl refl refl refl refl sent

    pub rule_typed : (from : List ℕ) (status : Status) (body : Body) → IsTyped body → IsShallow body
        → IfSome (rule_of_frame status node from body) (IsTypedRule node)
    rule_typed from status body is shallow =
        each_case node IsTypedMessage (IsTypedRule node) status (Takes from body) (named_typed (is, shallow)) (λ r case. case_typed case (is, shallow))

    pub start_typed : (status : Status) (start : Start) → IsTypedStart start → IfSome (rule_of_start status node start) (IsTypedRule node)
    start_typed status start is =
        each_case node IsTypedMessage (IsTypedRule node) status (Starts start) (named_typed is) (λ r case. case_typed case is)
