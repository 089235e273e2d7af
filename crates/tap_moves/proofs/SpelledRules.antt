-- What each rule leaves and sends: a node that speaks of names, and frames that have spellings.
-- Cited above: frame_spelled, SaysNames, start_spelled
use Rattle.std.proofs.Common.{◌≡◌, ℕ, ◌+◌, ◌≤◌, Bool, cond, List, [], ◌∷◌, length, get_or, Option, None, Some, is_none, All, true, false, arith, refl, sym, subst, ◌-◌, ◌<◌}
use Rattle.std.specs.Prelude.{IfSome}
use Rattle.std.proofs.lemmas.List.Elements.{All-cons, All-map, All-nil}
use Rattle.tap_name.specs.Name.{IsName}
use Rattle.tap_name.specs.Settings.{SettingsValue}
use Rattle.tap_name.specs.Word.{IsWord}
use Rattle.tap_name.proofs.Prefixes.{lcp-is}
use Rattle.tap_session.specs.declared.parent.Parent.TheVariants.{Node}
use Rattle.tap_table.specs.ByName.{targets_by_name}
use Rattle.tap_table.specs.Levels.{is_kept, sent_from}
use Rattle.tap_table.specs.declared.next.Next.TheVariants.{Hop}
use Rattle.tap_table.specs.declared.tie.Tie.{Tie}
use Rattle.tap_table.specs.Ties.{holders_on, off_ties}
use Rattle.tap_table.proofs.Slots.{place_inside}
use Rattle.tap_join.specs.Hello.{words_of, hello_names}
use Rattle.tap_join.specs.Seek.{sought}
use Rattle.tap_pointer.proofs.Laws.{are-all_withdrawn}
use Rattle.tap_pointer.specs.Pointers.{PointersValue, all_withdrawn, pair_of, pointer_at, state_of, with_lay, with_published}
use Rattle.tap_depart.specs.Leaving.{notice_for, started_leaving}
use Rattle.tap_depart.specs.Replacement.{replacement_for}
use Rattle.tap_depart.specs.declared.notice.Notice.{Notice}
use Rattle.tap_depart.proofs.Notices.{told_is_new}
use Rattle.tap_depart.proofs.Replacements.{replacement_fits}
use Rattle.tap_cast.specs.declared.casts.CastTurn.TheVariants.{Already, Now as CastNow}
use Rattle.tap_cast.specs.declared.target.CastTarget.{CastTarget}
use Rattle.tap_cast.specs.Casts.{level_of_cast, turn_of}
use Rattle.tap_cast.specs.Targets.{cast_targets}
use Rattle.tap_cast.proofs.Casting.{targets_are}
use Rattle.tap_wire.specs.declared.frame.Body.{Body}
use Rattle.tap_wire.specs.declared.frame.Body.TheVariants.{Forget, Gone, Leave, Release, Seek}
use Rattle.tap_wire.specs.declared.frame.TellFields.{TellFields}
use Rattle.tap_wire.specs.Spelling.{IsBody, IsLevel, AreLinks}
use Rattle.tap_rule.specs.Casts.{Copy}
use Rattle.tap_rule.specs.Event.{Start}
use Rattle.tap_rule.specs.Event.Start.{Join}
use Rattle.tap_rule.specs.FrameRules.{rule_of_frame}
use Rattle.tap_rule.specs.KeptNode.{IsNode}
use Rattle.tap_rule.specs.RuleLaws.{frame_to, tell_of}
use Rattle.tap_rule.specs.Leaving.{leave_for, leave_word}
use Rattle.tap_rule.specs.Node.{NodeState, Status, joiner, name_of, settings_of}
use Rattle.tap_rule.specs.Node.Status.{Ceased, Gone as GoneStatus}
use Rattle.tap_rule.specs.Pointers.{next_hop}
use Rattle.tap_rule.specs.Reaction.{Message, Reaction, pin_word}
use Rattle.tap_rule.specs.StartRules.{rule_of_start}
use Rattle.tap_rule.specs.Strange.{is_strange}
use Rattle.tap_rule.proofs.OneName.{not_own}
use Rattle.tap_moves.specs.KnownNames.{AreNamedPairs, IsNamedPair, IsNamedStart, IsParent, KnowsNames, HaveParents}
use Rattle.tap_moves.proofs.FewLinks.{few-forgotten, few-released, few-removed, few-told, targets_named, few-pinned, few-hello}
use Rattle.tap_moves.proofs.Spelled.{cleared_named, closed_parent, laid_among, named-published, named-put, named-withdrawn, next_named, parents-answered, parents-opened, server_named, IsNamedLay}
use Rattle.std.proofs.Math.Nat.{mul-le-mul_right}
use Rattle.tap_table.specs.Table.{TableValue, pinned as table_pinned}
use Rattle.tap_watch.proofs.Watches.{IsWatch-full, length-full}
use Rattle.tap_multicast.specs.declared.covers.Covered.{Covered}
use Rattle.tap_name.specs.declared.slot.Slot.{Slot}
use Rattle.tap_cast.specs.declared.casts.CastTurn.{CastTurn}
use Rattle.tap_join.specs.declared.sought.Sought.TheVariants.{Surrogate}
use Rattle.tap_join.proofs.Seeking.{forward_is, surrogate_is}
use Rattle.tap_rule.specs.Covering.{Request, first_request, request_of}
use Rattle.tap_rule.proofs.CoverSteps.{seek_fits}
use Rattle.tap_rule.proofs.JoinSteps.{tell_fits}
use Rattle.tap_rule.proofs.Fit.{fit_law}
use Rattle.tap_rule.proofs.Cases.{Cause, IsAsked, IsCast, IsNamed, RuleCase, rule_of, turn_for}
use Rattle.tap_rule.proofs.Cases.Cause.{Takes, Starts}
use Rattle.tap_rule.proofs.Cases.IsAsked.{BySeek, ByTell}
use Rattle.tap_rule.proofs.Cases.IsCast.{ByStart, ByCopy}
use Rattle.tap_rule.proofs.Cases.IsParting.{StartsLeaving, OneLeft}
use Rattle.tap_rule.proofs.Cases.IsNamed.{FirstSeek, NextSeek, TellOn, CoreHello, JoiningHello, HeardBack, AckBack, DoneBack, ClosingAck, ClosingDone, HolderRelease, LinkRelease, HolderForget, LinkForget, FirstFind, NextFind, AnswerBack, HolderLeave, LeftBack, HolderGone, CastOn, CastAckBack, ClosingCastAck}
use Rattle.tap_rule.proofs.Cases.RuleCase.{GreetedBefore, Greets, IsGreeted, HasCeased, IsReleased, IsForgottenBy, Counts, Closes, CoveredBefore, CoversAlone, CoversOn, MarksLeaver, DropsLeaver, CastsOn, CountsCast, ClosesCast, Publishes, WithdrawsIt, TakesPointer, TellsHolders, IsGoneNow}
use Rattle.tap_rule.proofs.Named.{each_case}
use Rattle.tap_moves.proofs.SpelledJoins.{IsForName, IsSpelled, IsSpelledMessage, IsSpelledRequest, IsSpelledTurn, ended_knows, hello_named, holders_named, off_named, turn_spelled, word_named}

-- a name that there may be
given_name : (p : SettingsValue) (replacement : Option (List ℕ)) → IfSome replacement (IsName p) → (name : List ℕ)
    → replacement ≡ Some name → IsName p name
given_name p replacement is name given = subst (λ r. IfSome r (IsName p)) given is

some_named : (p : SettingsValue) (found : Option (List ℕ)) → ((name : List ℕ) → found ≡ Some name → IsName p name)
    → IfSome found (IsName p)
some_named p None each = tt
some_named p (Some name) each = each name refl

module _ (node : NodeState) (is : IsNode node) (has : KnowsNames (settings_of node) node) where
  abbrev p : SettingsValue
  p = settings_of node

  -- a join is also by a name
  abbrev pub SaysNames : Start → Type 0
  SaysNames (Join via) = IsName p via
  SaysNames begun = IsNamedStart p begun

  -- a frame is from a name, its fields keep their rules, and it isn't strange
  abbrev IsSaid : Cause → Type 0
  IsSaid (Takes from body) = IsName p from × IsBody p body × (is_strange node (frame_to node from body) ≡ false)
  IsSaid (Starts begun) = SaysNames begun

  -- ---- requests and casts

  surrogate_request : (from joiner : List ℕ) (prefix : ℕ) → IsName p joiner → is_strange node (frame_to node from (Seek joiner)) ≡ false
      → sought node.ties.table joiner ≡ Surrogate prefix → IsSpelledRequest node (first_request node joiner prefix)
  surrogate_request from joiner prefix name taken found =
      let fit = seek_fits node from joiner prefix taken found in
      let near = (surrogate_is node.ties.table is.ties.table joiner name fit.apart prefix found).0 in
      let inside = (place_inside p (name_of node) joiner is.ties.table.owner name fit.apart).0 in
      let below : prefix < p.digits = omega (arith, near, lcp-is (name_of node) joiner, inside) in
      let watch = IsWatch-full p joiner prefix in
      let len = length-full p joiner prefix name below in
      let least : prefix + 1 ≤ p.digits = omega (arith, below) in
      record {
        is_name = name;
        apart = fit.apart;
        pin = fit.pin;
        parent = name;
        few = few-pinned node (frame_to node from (Seek joiner)) is.ties taken joiner name fit.apart refl;
        within = omega arith;
        shared = omega (arith, near);
        most = omega (arith, below);
        slots = record {
          levels = λ k d inside. (watch.watched k d inside).level;
          digits = λ k d inside. (watch.watched k d inside).digit;
          few = omega (arith, len, mul-le-mul_right (p.base - 1) least);
        };
      }

  told_request : (from : List ℕ) (tell : TellFields) (watch : List Slot) → IsSaid (Takes from (tell_of tell watch))
      → IsSpelledRequest node (request_of from tell watch)
  told_request from tell watch said =
      let fit = (fit_law node (frame_to node from (tell_of tell watch)) is.ties).0 said.2 in
      let above = said.1.level_above in
      record {
        is_name = said.1.joiner_is;
        apart = fit.body.apart;
        pin = (tell_fits node from tell watch said.2).pin;
        parent = (said.0, said.1.session_least);
        few = few-pinned node (frame_to node from (tell_of tell watch)) is.ties said.2 tell.joiner said.1.joiner_is fit.body.apart refl;
        within = omega (arith, above);
        shared = fit.body.shared;
        most = said.1.level_most;
        slots = said.1.slots;
      }

  asked_request : {cause : Cause} {request : Request} → IsAsked node cause request → IsSaid cause → IsSpelledRequest node request
  asked_request (BySeek {from = from} {joiner = joiner} {prefix = prefix} found) said = surrogate_request from joiner prefix said.1 said.2 found
  asked_request (ByTell {from = from} {watch = watch}) said = told_request from _ watch said

  asked_turn : {cause : Cause} {request : Request} {turn : Covered} (asked : IsAsked node cause request) (said : IsSaid cause)
      → turn_for node request ≡ turn → IsSpelledTurn node is request (asked_request asked said) turn
  asked_turn {request = request} asked said now =
      subst (IsSpelledTurn node is request (asked_request asked said)) now (turn_spelled node is request (asked_request asked said))

  cast_copy : {cause : Cause} {copy : Copy} → IsCast node cause copy → IsSaid cause → IsParent p copy.parent × IsWord copy.word
  cast_copy ByStart said = (is.ties.table.owner, said)
  cast_copy ByCopy said = ((said.0, said.1.1), said.1.2)

  -- a target of a cast is a name, at a level
  abbrev AreNamedTargets : CastTurn → Type 0
  AreNamedTargets Already = Unit {0}
  AreNamedTargets (CastNow first targets) = All (λ target. IsName p target.to × IsLevel p target.level) targets

  target_named : (from to : ℕ) → All (λ (target : CastTarget). IsName p target.to × IsLevel p target.level)
      (cast_targets node.ties.table from to)
  target_named from to k d inside =
      let target = targets_are node.ties.table is.ties.table from to k d inside in
      let shared = (place_inside p (name_of node) _ is.ties.table.owner target.is_name target.other).0 in (
        target.is_name,
        (omega (arith, target.above), omega (arith, target.level, shared, lcp-is (name_of node) (get_or (cast_targets node.ties.table from to) k d).to)),
      )

  cast_turn : (copy : Copy) → AreNamedTargets (turn_of node.casts node.ties.table copy.cast copy.level)
  cast_turn copy = by_kept (level_of_cast node.casts copy.cast) (is_kept (level_of_cast node.casts copy.cast) copy.level)
    where
      by_kept : (kept : Option ℕ) (already : Bool) → AreNamedTargets
          (cond already Already (CastNow (is_none kept) (cast_targets node.ties.table copy.level (sent_from node.ties.table.settings.digits kept))))
      by_kept kept true = tt
      by_kept kept false = target_named copy.level (sent_from node.ties.table.settings.digits kept)

  -- ---- messages

  no_links : AreLinks p []
  no_links = record {
    names = λ k d inside. absurd (omega arith);
    ascending = λ i j d before inside. absurd (omega arith);
    few = omega arith;
  }

  notice_spelled : All (λ (n : Notice). IsSpelledMessage p (leave_for n)) (started_leaving node.ties).notices
  notice_spelled =
      All-map (λ (n : Notice). IsSpelledMessage p (leave_for n)) (notice_for node.ties.table) (holders_on node.ties) (λ k d inside.
      record {
        to = holders_named node.ties is.ties k d inside;
        body = some_named p (replacement_for node.ties.table (get_or (holders_on node.ties) k d)) (λ name given.
            (replacement_fits node.ties.table is.ties.table (get_or (holders_on node.ties) k d) (holders_named node.ties is.ties k d inside)
            name given).is_name);
      })

  -- where a lookup goes next
  hop_named : (object : List ℕ) (level : ℕ) → IsName p object → level ≤ p.digits → (to : List ℕ) (next : ℕ)
      → next_hop node object level ≡ Hop to next → IsName p to × IsLevel p next
  hop_named object level name most to next goes =
      let len = name.len in next_named node.ties.table is.ties.table object name level (omega (arith, len, most)) to next goes

  named_spelled : {status : Status} {cause : Cause} → IsSaid cause → (m : Message) → IsNamed node status cause m → IsSpelledMessage p m
  named_spelled said m FirstSeek = record { to = said; body = is.ties.table.owner }
  named_spelled said m (NextSeek {from = from} {joiner = joiner} {next = next} found) =
      let fit = (fit_law node (frame_to node from (Seek joiner)) is.ties).0 said.2 in
      record { to = (forward_is node.ties.table is.ties.table joiner said.1 fit.body.apart next found).is_name; body = said.1 }
  named_spelled said m (TellOn k default asked now within) =
      let tell = (asked_turn asked said now).1 k default within in record { to = tell.0; body = tell.1 }
  named_spelled said m (CoreHello asked now) =
      record { to = (asked_request asked said).is_name; body = (omega arith, (asked_turn asked said now).0 refl) }
  named_spelled said m JoiningHello = record { to = said.1.joiner_is; body = (omega arith, no_links) }
  named_spelled said m HeardBack = record { to = said.0; body = said.1.0 }
  named_spelled said m AckBack = record { to = said.0; body = said.1.session_least }
  named_spelled said m DoneBack = record { to = said.1; body = tt }
  named_spelled said m (ClosingAck {session = session} kind closed) =
      let parent = closed_parent p node.sessions session _ has.parents closed in record { to = parent.0; body = parent.1 }
  named_spelled said m (ClosingDone {session = session} kind closed) =
      record { to = closed_parent p node.sessions session _ has.parents closed; body = tt }
  named_spelled said m (HolderRelease k default keeps_on within) = record { to = holders_named node.ties is.ties k default within; body = tt }
  named_spelled said m LinkRelease = record { to = said.0; body = tt }
  named_spelled said m (HolderForget k default given_up within) = record { to = holders_named node.ties is.ties k default within; body = tt }
  named_spelled said m LinkForget = record { to = said.0; body = tt }
  named_spelled said m (FirstFind {object = object} none goes) =
      let hop = hop_named object 0 said (omega arith) _ _ goes in record { to = hop.0; body = (said, is.ties.table.owner, hop.1) }
  named_spelled said m (NextFind {object = object} none goes) =
      let hop = hop_named object _ said.1.0 said.1.2.1 _ _ goes in record { to = hop.0; body = (said.1.0, said.1.1, hop.1) }
  named_spelled said m (AnswerBack {object = object} found ends) = record {
    to = said.1.1;
    body = subst (λ server. IfSome server (IsName p)) found (server_named p object node.pointers.pairs has.pairs);
  }
  named_spelled said m (HolderLeave k default within) = notice_spelled k default within
  named_spelled said m LeftBack = record { to = said.0; body = tt }
  named_spelled said m (HolderGone k default StartsLeaving within) = record { to = holders_named node.ties is.ties k default within; body = tt }
  named_spelled said m (HolderGone k default OneLeft within) = record { to = holders_named node.ties is.ties k default within; body = tt }
  named_spelled said m (CastOn {copy = copy} k default of now within) =
      let target = subst AreNamedTargets now (cast_turn copy) k default within in
      record { to = target.0; body = (target.1, omega arith, (cast_copy of said).1) }
  named_spelled said m CastAckBack = record { to = said.0; body = said.1.1 }
  named_spelled said m (ClosingCastAck {session = session} closed) =
      let parent = closed_parent p node.cast_sessions session _ has.cast_parents closed in record { to = parent.0; body = parent.1 }

  -- ---- rules

  -- these are no Lays
  spelled : (r : Reaction) → KnowsNames p r.state → All (IsForName p) r.words → r.lays ≡ [] → All (IsSpelledMessage p) r.messages
      → IsSpelled p r
  spelled r knows words none sent =
      record { knows = knows; words = words; messages = sent; lays = subst (All (IsNamedLay p)) (sym none) (All-nil (IsNamedLay p)) }

  -- nor words
  quiet : (r : Reaction) → KnowsNames p r.state → r.words ≡ [] → r.lays ≡ [] → All (IsSpelledMessage p) r.messages → IsSpelled p r
  quiet r knows none lays sent = spelled r knows (subst (All (IsForName p)) (sym none) (All-nil (IsForName p))) lays sent

  -- the pairs stay
  knows : (after : NodeState) → after.pointers ≡ node.pointers → length (targets_by_name after.ties.table) ≤ 255
      → HaveParents p after.sessions → HaveParents p after.cast_sessions → KnowsNames p after
  knows after pointers few parents casts = record {
    parents = parents;
    cast_parents = casts;
    pairs = subst (AreNamedPairs p) (sym pointers) has.pairs;
    few = few;
  }

  -- all that it knows stays
  keeps : (r : Reaction) → r.state.pointers ≡ node.pointers → r.state.ties.table ≡ node.ties.table → r.state.sessions ≡ node.sessions
      → r.state.cast_sessions ≡ node.cast_sessions → r.words ≡ [] → r.lays ≡ [] → All (IsSpelledMessage p) r.messages → IsSpelled p r
  keeps r pointers table sessions casts words lays sent =
      quiet r (knows r.state pointers (subst (λ (u : TableValue). length (targets_by_name u) ≤ 255) (sym table) has.few)
      (subst (HaveParents p) (sym sessions) has.parents) (subst (HaveParents p) (sym casts) has.cast_parents)) words lays sent

  -- only its pairs change
  with_pairs : (pointers : PointersValue) → AreNamedPairs p pointers → KnowsNames p (record node { pointers = pointers })
  with_pairs pointers named = record { parents = has.parents; cast_parents = has.cast_parents; pairs = named; few = has.few }

  -- the owner of its pairs is a name
  owner_named : IsName p node.pointers.owner
  owner_named = subst (IsName p) (sym is.owner) is.ties.table.owner

  -- it has pinned the joiner of a request, and has these sessions
  pinned_spelled : (request : Request) → IsSpelledRequest node request → (r : Reaction) → r.state.pointers ≡ node.pointers
      → r.state.ties.table ≡ table_pinned node.ties.table request.joiner → HaveParents p r.state.sessions
      → r.state.cast_sessions ≡ node.cast_sessions → r.words ≡ words_of (pin_word node request.joiner) → r.lays ≡ []
      → All (IsSpelledMessage p) r.messages → IsSpelled p r
  pinned_spelled request fits r pointers table parents casts words lays sent =
      spelled r (knows r.state pointers (subst (λ (u : TableValue). length (targets_by_name u) ≤ 255) (sym table) fits.few) parents
      (subst (HaveParents p) (sym casts) has.cast_parents))
      (subst (All (IsForName p)) (sym words) (word_named p _ request.joiner (node.stamp + 1) true fits.is_name)) lays sent

  -- the word about a replacement
  leave_named : (from : List ℕ) (replacement : Option (List ℕ)) → IsSaid (Takes from (Leave replacement)) → (word : Option Tie)
      → leave_word node from replacement ≡ word → All (IsForName p) (words_of word)
  leave_named from replacement said None same = All-nil (IsForName p)
  leave_named from replacement said (Some tie) same =
      let other = not_own node (frame_to node from (Leave replacement)) said.2 in
      let given = given_name p replacement said.1 in
      let new = told_is_new node.ties from replacement is.ties said.0 other given node.stamp tie same in
      All-cons (IsForName p) tie [] (given tie.to new.given) (All-nil (IsForName p))

  last_named : All (IsForName p) (off_ties node.stamp (targets_by_name node.ties.table))
  last_named = off_named p node.stamp (targets_by_name node.ties.table) (targets_named node.ties.table is.ties.table)

  withdrawn_pairs : AreNamedPairs p (all_withdrawn node.pointers)
  withdrawn_pairs =
      All-map (IsNamedPair p) (λ e. (e.0, with_published e.1 false)) node.pointers.pairs
      (λ k d inside. let one = has.pairs k d inside in record { server = one.server; laid = one.laid })

  withdrawn_objects : All (λ e. IsName p e.0.object) (all_withdrawn node.pointers).pairs
  withdrawn_objects =
      All-map (λ e. IsName p e.0.object) (λ e. (e.0, with_published e.1 false)) node.pointers.pairs is.objects

  case_spelled : {status : Status} {cause : Cause} {r : Reaction} → RuleCase node status cause r → IsSaid cause
      → All (IsSpelledMessage p) r.messages → IsSpelled p r
  case_spelled {cause = cause} (GreetedBefore before) said sent =
      pinned_spelled _ (asked_request {cause = cause} ByTell said) _ refl refl has.parents refl refl refl sent
  case_spelled {cause = cause} (Greets {from = from} {session = session} {depth = depth} before) said sent =
      pinned_spelled _ (asked_request {cause = cause} ByTell said) _ refl refl
      (parents-opened p node.sessions (Node from session) depth 1 has.parents (said.0, said.1.session_least)) refl refl refl sent
  case_spelled (IsGreeted {from = from} {core = core} {links = links}) said sent =
      spelled _ (knows _ refl (few-hello node from _ is.ties said.2 said.0 said.1.1.names) has.parents has.cast_parents)
      (hello_named p (hello_names from core links) node.ties node.stamp
      (All-cons (λ link. IsName p link.name) (record { name = from; settled = core }) links said.0 said.1.1.names)) refl sent
  case_spelled (HasCeased given_up) said sent = spelled _ (ended_knows node Ceased is has) last_named refl sent
  case_spelled (IsReleased {from = from} early) said sent =
      let other = not_own node (frame_to node from Release) said.2 in
      spelled _ (knows _ refl (few-released node (frame_to node from Release) is.ties said.2 from said.0 other) has.parents has.cast_parents)
      (word_named p _ from (node.stamp + 1) false said.0) refl sent
  case_spelled (IsForgottenBy {from = from} early) said sent =
      let other = not_own node (frame_to node from Forget) said.2 in
      quiet _ (knows _ refl (few-forgotten node (frame_to node from Forget) is.ties said.2 from said.0 other) has.parents has.cast_parents) refl refl sent
  case_spelled (Counts {session = session} at kind others) said sent =
      quiet _ (knows _ refl has.few (parents-answered p node.sessions session has.parents) has.cast_parents) refl refl sent
  case_spelled (Closes {session = session} at kind closed) said sent =
      quiet _ (knows _ refl has.few (parents-answered p node.sessions session has.parents) has.cast_parents) refl refl sent
  case_spelled (CoveredBefore {request = request} asked now) said sent =
      pinned_spelled request (asked_request asked said) _ refl refl has.parents refl refl refl sent
  case_spelled (CoversAlone {request = request} asked now zero) said sent =
      pinned_spelled request (asked_request asked said) _ refl refl has.parents refl refl refl sent
  case_spelled (CoversOn {request = request} asked now some) said sent =
      let fits = asked_request asked said in
      pinned_spelled request fits _ refl refl (parents-opened p node.sessions request.parent request.depth _ has.parents fits.parent) refl refl refl
      sent
  case_spelled (MarksLeaver {from = from} {replacement = replacement}) said sent =
      let frame = frame_to node from (Leave replacement) in
      let few = few-told node frame is.ties said.2 from said.0 (not_own node frame said.2) replacement (given_name p replacement said.1)
      (λ name given. given) in
      spelled _ (knows _ refl few has.parents has.cast_parents) (leave_named from replacement said _ refl) refl sent
  case_spelled (DropsLeaver {from = from}) said sent =
      let other = not_own node (frame_to node from Gone) said.2 in
      quiet _ (knows _ refl (few-removed node (frame_to node from Gone) is.ties said.2 from said.0 other) has.parents has.cast_parents) refl refl sent
  case_spelled (CastsOn {copy = copy} {target = target} {targets = targets} of now) said sent =
      quiet _ (knows _ refl has.few has.parents (parents-opened p node.cast_sessions copy.parent copy.depth (length (target ∷ targets)) has.cast_parents
      (cast_copy of said).0)) refl refl sent
  case_spelled (CountsCast {session = session} others) said sent =
      quiet _ (knows _ refl has.few has.parents (parents-answered p node.cast_sessions session has.cast_parents)) refl refl sent
  case_spelled (ClosesCast {session = session} closed) said sent =
      quiet _ (knows _ refl has.few has.parents (parents-answered p node.cast_sessions session has.cast_parents)) refl refl sent
  case_spelled (Publishes {object = object}) said sent =
      quiet _ (with_pairs _ (named-published p node.pointers object owner_named has.pairs)) refl refl sent
  case_spelled (WithdrawsIt {object = object}) said sent =
      quiet _ (with_pairs _ (named-withdrawn p node.pointers object owner_named has.pairs)) refl refl sent
  case_spelled (TakesPointer {from = from} {object = object} {server = server} {level = level} {version = version} {on = on} late) said sent =
      let pair = pair_of object server in
      quiet _ (with_pairs _ (named-put p node.pointers pair (with_lay (state_of node.pointers pair) from version (pointer_at level on)) said.1.1
      (laid_among p node.pointers.pairs pair has.pairs) has.pairs)) refl refl sent
  case_spelled (TellsHolders some) said sent =
      quiet _ (record { parents = has.parents; cast_parents = has.cast_parents; pairs = withdrawn_pairs; few = has.few }) refl refl sent
  case_spelled (IsGoneNow StartsLeaving last) said sent = record {
    knows = ended_knows node GoneStatus is has;
    words = last_named;
    messages = sent;
    lays = cleared_named p _ (all_withdrawn node.pointers) (are-all_withdrawn node.pointers is.pointers) withdrawn_pairs withdrawn_objects;
  }
  case_spelled (IsGoneNow OneLeft last) said sent = record {
    knows = ended_knows node GoneStatus is has;
    words = last_named;
    messages = sent;
    lays = cleared_named p _ node.pointers is.pointers has.pairs is.objects;
  }
  case_spelled _ said sent = keeps _ refl refl refl refl refl refl sent

  spells : (status : Status) (cause : Cause) → IsSaid cause → IfSome (rule_of status node cause) (IsSpelled p)
  spells status cause said = each_case node _ (IsSpelled p) status cause (named_spelled said) (λ r case. case_spelled case said)

  pub frame_spelled : (from : List ℕ) → IsName p from → (status : Status) (body : Body) → IsBody p body
      → is_strange node (frame_to node from body) ≡ false → IfSome (rule_of_frame status node from body) (IsSpelled p)
  frame_spelled from is_from status body keeps taken = spells status (Takes from body) (is_from, keeps, taken)

  pub start_spelled : (status : Status) (begun : Start) → SaysNames begun → IfSome (rule_of_start status node begun) (IsSpelled p)
  start_spelled status begun named = spells status (Starts begun) named
