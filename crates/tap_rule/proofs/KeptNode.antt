-- What each step of a node keeps: that it has ties and sessions, its name and the settings.
-- Cited above: joiner_law, kept_law, member_law, start_kept_law
use Rattle.std.proofs.Common.{◌≡◌, ◌≢◌, ◌==◌, ℕ, ◌+◌, ◌≤◌, Bool, List, [], ◌∷◌, ◌++◌, length, Option, Some, None, All, get_or, true, false, arith, refl, sym, ap, subst, ◌∙◌, inl, inr, length-append}
use Rattle.std.specs.Prelude.{IfSome}
use Rattle.std.specs.BTreeMap.{insert_entry, is_at}
use Rattle.std.specs.List.Sorted.{IsStrictlySortedBy}
use Rattle.std.specs.Map.{keys_of, lookup}
use Rattle.std.specs.Option.{unwrap_or}
use Rattle.std.specs.Ordering.{nat_cmp}
use Rattle.std.proofs.lemmas.Bool.{eqb-false, true≢false}
use Rattle.std.proofs.lemmas.Cmp.{nat_cmp_total, nat_list_cmp_total}
use Rattle.std.proofs.lemmas.List.Elements.{All-map, All-nil}
use Rattle.std.proofs.lemmas.Map.Views.{All-keys-insert_entry}
use Rattle.tap_name.specs.Name.{IsName}
use Rattle.tap_name.specs.Order.{name_cmp, sorted}
use Rattle.tap_name.specs.Settings.{AreWithinLimits, SettingsValue}
use Rattle.tap_name.proofs.Membership.{among_at}
use Rattle.tap_name.proofs.Sorted.{sorted-ascending, sorted-names}
use Rattle.tap_session.specs.Session.{SessionsValue}
use Rattle.tap_session.specs.Sessions.{AreSessions}
use Rattle.tap_session.proofs.Transitions.{AreSessions-answered, AreSessions-none, AreSessions-opened}
use Rattle.tap_table.specs.Table.{IsTable, empty_table}
use Rattle.tap_table.specs.Ties.{AreTies, TiesValue}
use Rattle.tap_table.proofs.AtRest.{AreTies-at_rest}
use Rattle.tap_table.proofs.Slots.{empty_is, empty_sets-are}
use Rattle.tap_table.proofs.TiesKept.{AreTies-forgotten, AreTies-held_word, AreTies-pinned, AreTies-released, AreTies-removed}
use Rattle.tap_join.specs.Hello.{hello_names}
use Rattle.tap_join.proofs.Hellos.{AreTies-after_hello, owner_stays, settings_stay}
use Rattle.tap_depart.proofs.Notices.{AreTies-told, told_owner, told_settings}
use Rattle.tap_cast.specs.Casts.{CastsValue, level_of_cast, with_cast}
use Rattle.tap_multicast.specs.Covers.{CoversValue, level_kept, with_cover}
use Rattle.tap_pointer.specs.declared.pair.Pair.{Pair}
use Rattle.tap_pointer.specs.declared.state.PairState.{PairState}
use Rattle.tap_pointer.specs.Pair.{pair_cmp, pair_cmp-total}
use Rattle.tap_pointer.specs.Pointers.{IsPointers, PointersValue, all_withdrawn, lay_applied, no_pointers, nothing_known, own_pair, owner_publishes, pair_of, pointer_at, published, state_of, with_lay, with_published, with_state, withdrawn}
use Rattle.tap_pointer.specs.Reconcile.{reconciled, with_wanted}
use Rattle.tap_pointer.proofs.Entries.{All-put, sorted-put}
use Rattle.tap_pointer.proofs.Known.{All-found, pair_cmp-equal}
use Rattle.tap_pointer.proofs.Laws.{are-all_withdrawn, are-lay_applied, are-none, are-published, are-reconciled, are-withdrawn}
use Rattle.tap_table.specs.Levels.{is_kept}
use Rattle.tap_wire.specs.Spelling.{IsBody}
use Rattle.tap_wire.specs.declared.frame.Body.TheVariants.{Release, Link, Leave, Gone, Forget}
use Rattle.tap_rule.specs.Node.{NodeState, Status, ended, joiner, member_at_rest, name_of, settings_of}
use Rattle.tap_rule.specs.Event.{Acted}
use Rattle.tap_rule.specs.Reaction.{Reaction, with_pin}
use Rattle.tap_rule.specs.Strange.{is_strange}
use Rattle.tap_rule.specs.Covering.{Request}
use Rattle.tap_rule.specs.KeptNode.{IsNode, IsStart, KeepsNode}
use Rattle.tap_rule.specs.RuleLaws.{IsCarriedOut, JoinerLaw, KeptLaw, MemberLaw, StartKeptLaw, frame_to}
use Rattle.tap_rule.proofs.Completed.{runs_or_ended}
use Rattle.tap_rule.proofs.CoverSteps.{seek_fits}
use Rattle.tap_rule.proofs.JoinSteps.{tell_fits}
use Rattle.tap_rule.proofs.OneName.{not_own}
use Rattle.tap_rule.proofs.Cases.{Cause, IsAsked, RuleCase}
use Rattle.tap_rule.proofs.Cases.Cause.{Takes, Starts}
use Rattle.tap_rule.proofs.Cases.IsAsked.{BySeek, ByTell}
use Rattle.tap_rule.proofs.Cases.IsParting.{StartsLeaving, OneLeft}
use Rattle.tap_rule.proofs.Cases.RuleCase.{CastsAlone, CastsOn, Closes, ClosesCast, Counts, CountsCast, CoveredBefore, CoversAlone, CoversOn, DropsLeaver, GreetedBefore, Greets, HasCeased, HearsAlone, HearsNew, HearsOld, IsForgottenBy, IsGoneNow, IsGreeted, IsReleased, MarksLeaver, Publishes, TakesPointer, TellsHolders, WithdrawsIt}
use Rattle.tap_rule.proofs.EachAct.{each_start, each_take}

-- the object of a pair is a name
abbrev HasName : SettingsValue → Pair × PairState → Type 0
HasName p e = IsName p e.0.object

-- a node without links has ties
no_ties : (p : SettingsValue) (name : List ℕ) → AreWithinLimits p → IsName p name
    → AreTies (record { table = empty_table p name; holders = [] })
no_ties p name limits is_name = record {
  table = subst IsTable (empty_is p name) (empty_sets-are p name limits is_name).valid;
  ascending = λ i j d before within. absurd (omega arith);
  names = λ i d within. absurd (omega arith);
  others = λ i d within. absurd (omega arith);
}

-- what else a node keeps: its pointers, the joiners that it covers, the casts that it has met, and those of its sessions
record AreKept (p : SettingsValue) (name : List ℕ) (known : PointersValue) (levels : CoversValue) (met : CastsValue) (list : List ℕ)
    (opened : ℕ) : Type 0 where
  pointers : IsPointers known
  owner : known.owner ≡ name
  objects : All (HasName p) known.pairs
  covers : IsStrictlySortedBy name_cmp (keys_of levels)
  joiners : All (IsName p) (keys_of levels)
  casts : IsStrictlySortedBy nat_cmp (keys_of met)
  numbers : length list ≡ opened

nothing_kept : (p : SettingsValue) (name : List ℕ) → AreKept p name (no_pointers name) [] [] [] 0
unfolding IsStrictlySortedBy
nothing_kept p name = record {
  pointers = are-none name;
  owner = refl;
  objects = All-nil (HasName p);
  covers = tt;
  joiners = All-nil (IsName p);
  casts = tt;
  numbers = refl;
}

-- a node of these
as_node : (node : NodeState) → AreTies node.ties → AreSessions node.sessions → AreSessions node.cast_sessions
    → AreKept (settings_of node) (name_of node) node.pointers node.covers node.casts node.cast_numbers node.cast_sessions.opened
    → IsNode node
as_node node ties sessions casts kept = record {
  ties = ties;
  sessions = sessions;
  cast_sessions = casts;
  cast_numbers = kept.numbers;
  pointers = kept.pointers;
  owner = kept.owner;
  objects = kept.objects;
  covers = kept.covers;
  joiners = kept.joiners;
  casts = kept.casts;
}

pub joiner_law : JoinerLaw
joiner_law p name limits is_name =
    as_node (joiner p name) (no_ties p name limits is_name) AreSessions-none AreSessions-none (nothing_kept p name)

pub member_law : MemberLaw
member_law p members name limits is_name are_names distinct =
    let names = sorted-names p members are_names in
    let each : All (IsName p) (sorted members) =
    λ i d within. names (get_or (sorted members) i d) (among_at (sorted members) i d within) in
    as_node (member_at_rest p members name)
    (AreTies-at_rest p name (sorted members) limits is_name each (sorted-ascending members distinct)) AreSessions-none AreSessions-none
    (nothing_kept p name)

-- a number that isn't none is one or more
some_awaited : (waiting : ℕ) → (waiting == 0) ≡ false → 1 ≤ waiting
some_awaited waiting some = let apart = eqb-false waiting 0 some in omega arith

module _ (node : NodeState) (is : IsNode node) where
  keeps : (after : NodeState) → AreTies after.ties → name_of after ≡ name_of node → settings_of after ≡ settings_of node
      → AreSessions after.sessions → AreSessions after.cast_sessions
      → AreKept (settings_of node) (name_of node) after.pointers after.covers after.casts after.cast_numbers after.cast_sessions.opened
      → KeepsNode node after
  keeps after ties name settings sessions casts kept =
      let of : SettingsValue → List ℕ → Type 0 =
      λ p own. AreKept p own after.pointers after.covers after.casts after.cast_numbers after.cast_sessions.opened in
      let named : of (settings_of node) (name_of after) = subst (of (settings_of node)) (sym name) kept in
      let all : of (settings_of after) (name_of after) = subst (λ (p : SettingsValue). of p (name_of after)) (sym settings) named in
      record { node = as_node after ties sessions casts all; name = name; settings = settings }

  -- what is kept beside ties and sessions, and what is once other pointers are known, another joiner is covered or a cast is met
  same : AreKept (settings_of node) (name_of node) node.pointers node.covers node.casts node.cast_numbers node.cast_sessions.opened
  same = record {
    pointers = is.pointers;
    owner = is.owner;
    objects = is.objects;
    covers = is.covers;
    joiners = is.joiners;
    casts = is.casts;
    numbers = is.cast_numbers;
  }

  with_pointers : (known : PointersValue) → IsPointers known → known.owner ≡ node.pointers.owner
      → All (HasName (settings_of node)) known.pairs
      → AreKept (settings_of node) (name_of node) known node.covers node.casts node.cast_numbers node.cast_sessions.opened
  with_pointers known are owner objects = record {
    pointers = are;
    owner = owner ∙ is.owner;
    objects = objects;
    covers = is.covers;
    joiners = is.joiners;
    casts = is.casts;
    numbers = is.cast_numbers;
  }

  -- pairs that are put in have objects that are names, if this one is
  put_named : (pair : Pair) (state : PairState) → IsName (settings_of node) pair.object
      → All (HasName (settings_of node)) (with_state node.pointers pair state).pairs
  put_named pair state is_name =
      All-put pair_cmp-total pair state (HasName (settings_of node))
      (λ other tied. subst (λ (o : Pair). IsName (settings_of node) o.object) (pair_cmp-equal pair other tied) is_name)
      node.pointers.pairs is.objects

  with_taken_lay : (from object server : List ℕ) (level version : ℕ) (on : Bool) → IsName (settings_of node) object → 1 ≤ level
      → level ≤ (settings_of node).digits
      → AreKept (settings_of node) (name_of node)
      (lay_applied node.pointers (pair_of object server) from version (pointer_at level on)) node.covers node.casts node.cast_numbers
      node.cast_sessions.opened
  with_taken_lay from object server level version on is_name least most =
      let pair = pair_of object server in
      with_pointers _
      (are-lay_applied node.pointers is.pointers pair from version (pointer_at level on) least (rw is_name.len most)) refl
      (put_named pair (with_lay (state_of node.pointers pair) from version (pointer_at level on)) is_name)

  with_published_object : (object : List ℕ) → IsName (settings_of node) object
      → AreKept (settings_of node) (name_of node) (published node.pointers object) node.covers node.casts node.cast_numbers
      node.cast_sessions.opened
  with_published_object object is_name =
      let own = own_pair node.pointers object in
      with_pointers _ (are-published node.pointers is.pointers object) refl
      (put_named own (with_published (state_of node.pointers own) true) is_name)

  -- a pair of which something is known has an object that is a name
  module _ (object : List ℕ) where
    abbrev own : Pair
    own = own_pair node.pointers object

    abbrev unpublished : PointersValue
    unpublished = with_state node.pointers own (with_published (state_of node.pointers own) false)

    named_if_published : (found : Option PairState) → lookup (is_at (pair_cmp own)) node.pointers.pairs ≡ found
        → owner_publishes node.pointers object ≡ true → IsName (settings_of node) object
    named_if_published None found is_published =
        let nothing : state_of node.pointers own ≡ nothing_known = ap (λ (f : Option PairState). unwrap_or f nothing_known) found in
        let wrong : false ≡ true = sym (ap (λ (s : PairState). s.published) nothing) ∙ is_published in absurd (true≢false (sym wrong))
    named_if_published (Some state) found is_published =
        All-found (HasName (settings_of node)) own state node.pointers.pairs is.objects found

    withdrawn_as : (is : Bool) → owner_publishes node.pointers object ≡ is
        → AreKept (settings_of node) (name_of node) (withdrawn node.pointers object) node.covers node.casts node.cast_numbers
        node.cast_sessions.opened
    withdrawn_as true is_published =
        let all : IsPointers (withdrawn node.pointers object) = are-withdrawn node.pointers is.pointers object in
        let are : IsPointers unpublished = rw is_published at all in
        let is_name = named_if_published (lookup (is_at (pair_cmp own)) node.pointers.pairs) refl is_published in
        rw is_published
        (with_pointers unpublished are refl (put_named own (with_published (state_of node.pointers own) false) is_name))
    withdrawn_as false is_published = rw is_published same

    with_withdrawn_object : AreKept (settings_of node) (name_of node) (withdrawn node.pointers object) node.covers node.casts
        node.cast_numbers node.cast_sessions.opened
    with_withdrawn_object = withdrawn_as (owner_publishes node.pointers object) refl

  with_all_withdrawn : AreKept (settings_of node) (name_of node) (all_withdrawn node.pointers) node.covers node.casts node.cast_numbers
      node.cast_sessions.opened
  with_all_withdrawn =
      with_pointers _ (are-all_withdrawn node.pointers is.pointers) refl
      (All-map (HasName (settings_of node)) (λ e. (e.0, with_published e.1 false)) node.pointers.pairs is.objects)

  with_joiner : (joiner : List ℕ) (level : ℕ) → IsName (settings_of node) joiner
      → AreKept (settings_of node) (name_of node) node.pointers (with_cover node.covers joiner level) node.casts node.cast_numbers
      node.cast_sessions.opened
  with_joiner joiner level is_name = by_case (is_kept (level_kept node.covers joiner) level) refl
    where
      by_case : (kept : Bool) → is_kept (level_kept node.covers joiner) level ≡ kept
          → AreKept (settings_of node) (name_of node) node.pointers (with_cover node.covers joiner level) node.casts node.cast_numbers
          node.cast_sessions.opened
      by_case true kept = rw kept same
      by_case false kept =
          rw kept (record {
            pointers = is.pointers;
            owner = is.owner;
            objects = is.objects;
            covers = sorted-put nat_list_cmp_total joiner level node.covers is.covers;
            joiners = All-keys-insert_entry name_cmp joiner level (IsName (settings_of node)) node.covers is.joiners is_name;
            casts = is.casts;
            numbers = is.cast_numbers;
          })

  with_met_cast : (cast level : ℕ) (list : List ℕ) (opened : ℕ) → length list ≡ opened
      → AreKept (settings_of node) (name_of node) node.pointers node.covers (with_cast node.casts cast level) list opened
  with_met_cast cast level list opened numbers = by_case (is_kept (level_of_cast node.casts cast) level) refl
    where
      as_sorted : (met : CastsValue) → IsStrictlySortedBy nat_cmp (keys_of met)
          → AreKept (settings_of node) (name_of node) node.pointers node.covers met list opened
      as_sorted met sorted = record {
        pointers = is.pointers;
        owner = is.owner;
        objects = is.objects;
        covers = is.covers;
        joiners = is.joiners;
        casts = sorted;
        numbers = numbers;
      }

      by_case : (kept : Bool) → is_kept (level_of_cast node.casts cast) level ≡ kept
          → AreKept (settings_of node) (name_of node) node.pointers node.covers (with_cast node.casts cast level) list opened
      by_case true kept = rw kept (as_sorted node.casts is.casts)
      by_case false kept =
          rw kept (as_sorted (insert_entry nat_cmp node.casts cast level) (sorted-put nat_cmp_total cast level node.casts is.casts))

  -- a node that has ended
  ended_kept : (status : Status) → KeepsNode node (ended status node)
  ended_kept status =
      keeps _ (no_ties (settings_of node) (name_of node) is.ties.table.limits is.ties.table.owner) refl refl is.sessions AreSessions-none
      (nothing_kept (settings_of node) (name_of node))

  -- ---- each rule

  -- what comes: a frame that has a spelling and isn't strange, or a start of a name
  abbrev Brings : Cause → Type 0
  Brings (Takes from body) =
      IsName (settings_of node) from × IsBody (settings_of node) body × (is_strange node (frame_to node from body) ≡ false)
  Brings (Starts begun) = IsStart (settings_of node) begun

  -- who is pinned is a name, and another one
  abbrev IsOther : List ℕ → Type 0
  IsOther joiner = IsName (settings_of node) joiner × (joiner ≢ name_of node)

  asked_other : {cause : Cause} {request : Request} → IsAsked node cause request → Brings cause → IsOther request.joiner
  asked_other (BySeek {from = from} {joiner = joiner} {prefix = prefix} ends) brings =
      (brings.1, (seek_fits node from joiner prefix brings.2 ends).apart)
  asked_other ByTell brings = (brings.1.joiner_is, (tell_fits node _ _ _ brings.2).apart)

  pinned_are : (joiner : List ℕ) → IsOther joiner → AreTies (with_pin node joiner).ties
  pinned_are joiner other = AreTies-pinned node.ties joiner is.ties other.0 other.1

  case_kept : {status : Status} {cause : Cause} {r : Reaction} → RuleCase node status cause r → Brings cause → KeepsNode node r.state
  case_kept (GreetedBefore before) brings =
      keeps _ (pinned_are _ (brings.1.joiner_is, (tell_fits node _ _ _ brings.2).apart)) refl refl is.sessions is.cast_sessions same
  case_kept (Greets before) brings =
      keeps _ (pinned_are _ (brings.1.joiner_is, (tell_fits node _ _ _ brings.2).apart)) refl refl
      (AreSessions-opened node.sessions is.sessions _ _ 1 (omega arith)) is.cast_sessions same
  case_kept (IsGreeted {from = from} {core = core} {links = links}) brings =
      keeps _
      (AreTies-after_hello (settings_of node) (name_of node) node.ties (is.ties, refl, refl) from core links brings.0 brings.1.1.names)
      (owner_stays (hello_names from core links) node.ties) (settings_stay (hello_names from core links) node.ties)
      is.sessions is.cast_sessions same
  case_kept (HasCeased given_up) brings = ended_kept _
  case_kept (IsGoneNow StartsLeaving none) brings = ended_kept _
  case_kept (IsGoneNow OneLeft none) brings = ended_kept _
  case_kept (HearsAlone {from = from} {version = version} {on = on}) brings =
      keeps _ (AreTies-held_word node.ties from is.ties brings.0 (not_own node (frame_to node from (Link version on)) brings.2) version on)
      refl refl is.sessions is.cast_sessions same
  case_kept (HearsOld {from = from} {version = version} {on = on} late new) brings =
      keeps _ (AreTies-held_word node.ties from is.ties brings.0 (not_own node (frame_to node from (Link version on)) brings.2) version on)
      refl refl is.sessions is.cast_sessions same
  case_kept (HearsNew {from = from} {version = version} {on = on} late new) brings =
      keeps _ (AreTies-held_word node.ties from is.ties brings.0 (not_own node (frame_to node from (Link version on)) brings.2) version on)
      refl refl is.sessions is.cast_sessions same
  case_kept (IsReleased {from = from} early) brings =
      keeps _ (AreTies-released node.ties from is.ties brings.0 (not_own node (frame_to node from Release) brings.2)) refl refl
      is.sessions is.cast_sessions same
  case_kept (IsForgottenBy {from = from} early) brings =
      keeps _ (AreTies-forgotten node.ties from is.ties brings.0 (not_own node (frame_to node from Forget) brings.2)) refl refl
      is.sessions is.cast_sessions same
  case_kept (DropsLeaver {from = from}) brings =
      keeps _ (AreTies-removed node.ties from is.ties brings.0 (not_own node (frame_to node from Gone) brings.2)) refl refl
      is.sessions is.cast_sessions same
  case_kept (MarksLeaver {from = from} {replacement = replacement}) brings =
      let apart = not_own node (frame_to node from (Leave replacement)) brings.2 in
      let given : (name : List ℕ) → replacement ≡ Some name → IsName (settings_of node) name =
      λ name is_name. subst (λ r. IfSome r (IsName (settings_of node))) is_name brings.1 in
      keeps _ (AreTies-told node.ties from replacement is.ties brings.0 apart given)
      (told_owner node.ties from replacement is.ties brings.0 apart given)
      (told_settings node.ties from replacement is.ties brings.0 apart given) is.sessions is.cast_sessions same
  case_kept (Counts {session = session} at kind none) brings =
      keeps _ is.ties refl refl (AreSessions-answered node.sessions is.sessions session) is.cast_sessions same
  case_kept (Closes {session = session} at kind closed) brings =
      keeps _ is.ties refl refl (AreSessions-answered node.sessions is.sessions session) is.cast_sessions same
  case_kept (CoveredBefore asked turn) brings =
      keeps _ (pinned_are _ (asked_other asked brings)) refl refl is.sessions is.cast_sessions same
  case_kept (CoversAlone {request = request} asked turn zero) brings =
      let other = asked_other asked brings in
      keeps _ (pinned_are _ other) refl refl is.sessions is.cast_sessions (with_joiner request.joiner request.level other.0)
  case_kept (CoversOn {request = request} asked turn some) brings =
      let other = asked_other asked brings in
      keeps _ (pinned_are _ other) refl refl (AreSessions-opened node.sessions is.sessions _ _ _ (some_awaited _ some)) is.cast_sessions
      (with_joiner request.joiner request.level other.0)
  case_kept (CastsAlone {copy = copy} of turn) brings =
      keeps _ is.ties refl refl is.sessions is.cast_sessions
      (with_met_cast copy.cast copy.level node.cast_numbers node.cast_sessions.opened is.cast_numbers)
  case_kept (CastsOn {copy = copy} {target = target} {targets = targets} of turn) brings =
      keeps _ is.ties refl refl is.sessions
      (AreSessions-opened node.cast_sessions is.cast_sessions copy.parent copy.depth (length (target ∷ targets)) (omega arith))
      (with_met_cast copy.cast copy.level (node.cast_numbers ++ copy.cast ∷ []) (node.cast_sessions.opened + 1)
      (length-append node.cast_numbers (copy.cast ∷ []) ∙ ap (λ n. n + 1) is.cast_numbers))
  case_kept (CountsCast {session = session} none) brings =
      keeps _ is.ties refl refl is.sessions (AreSessions-answered node.cast_sessions is.cast_sessions session) same
  case_kept (ClosesCast {session = session} closed) brings =
      keeps _ is.ties refl refl is.sessions (AreSessions-answered node.cast_sessions is.cast_sessions session) same
  case_kept (TakesPointer {from = from} {object = object} {server = server} {level = level} {version = version} {on = on} late) brings =
      keeps _ is.ties refl refl is.sessions is.cast_sessions
      (with_taken_lay from object server level version on brings.1.0 brings.1.2.0 brings.1.2.1)
  case_kept (Publishes {object = object}) brings = keeps _ is.ties refl refl is.sessions is.cast_sessions (with_published_object object brings)
  case_kept (WithdrawsIt {object = object}) brings = keeps _ is.ties refl refl is.sessions is.cast_sessions (with_withdrawn_object object)
  case_kept (TellsHolders some) brings = keeps _ is.ties refl refl is.sessions is.cast_sessions with_all_withdrawn
  case_kept _ brings = keeps _ is.ties refl refl is.sessions is.cast_sessions same

  -- what is kept of pointers
  record AreKnown (known : PointersValue) : Type 0 where
    pointers : IsPointers known
    owner : known.owner ≡ name_of node
    objects : All (HasName (settings_of node)) known.pairs

  -- what a rule keeps, its step keeps
  carried_kept : (r : Reaction) (acted : Acted) → IsCarriedOut node r acted → KeepsNode node r.state → KeepsNode node acted.state
  carried_kept r acted carried kept =
      keeps acted.state (subst AreTies (sym carried.ties) kept.node.ties)
      (ap (λ (t : TiesValue). t.table.owner) carried.ties ∙ kept.name)
      (ap (λ (t : TiesValue). t.table.settings) carried.ties ∙ kept.settings)
      (subst AreSessions (sym carried.sessions) kept.node.sessions)
      (subst AreSessions (sym carried.cast_sessions) kept.node.cast_sessions)
      (record {
        pointers = known.pointers;
        owner = known.owner;
        objects = known.objects;
        covers = subst (λ (c : CoversValue). IsStrictlySortedBy name_cmp (keys_of c)) (sym carried.covers) kept.node.covers;
        joiners =
            subst (λ (c : CoversValue). All (IsName (settings_of node)) (keys_of c)) (sym carried.covers)
            (subst (λ (p : SettingsValue). All (IsName p) (keys_of r.state.covers)) kept.settings kept.node.joiners);
        casts = subst (λ (c : CastsValue). IsStrictlySortedBy nat_cmp (keys_of c)) (sym carried.casts) kept.node.casts;
        numbers = ap length carried.cast_numbers ∙ kept.node.cast_numbers
            ∙ ap (λ (c : SessionsValue). c.opened) (sym carried.cast_sessions);
      })
    where
      objects : All (HasName (settings_of node)) r.state.pointers.pairs
      objects = subst (λ (p : SettingsValue). All (HasName p) r.state.pointers.pairs) kept.settings kept.node.objects

      known_as : (known : PointersValue) → acted.state.pointers ≡ known → IsPointers known
          → known.owner ≡ r.state.pointers.owner → All (HasName (settings_of node)) known.pairs → AreKnown acted.state.pointers
      known_as known same are owner named = record {
        pointers = subst IsPointers (sym same) are;
        owner = ap (λ (p : PointersValue). p.owner) same ∙ owner ∙ kept.node.owner ∙ kept.name;
        objects = subst (λ (p : PointersValue). All (HasName (settings_of node)) p.pairs) (sym same) named;
      }

      known : AreKnown acted.state.pointers
      known = elim (runs_or_ended r.state.status) [
        | inl runs ↦
            known_as (reconciled r.state.ties.table r.state.pointers) (carried.running runs).pointers
            (are-reconciled r.state.pointers kept.node.pointers r.state.ties.table) refl
            (All-map (HasName (settings_of node)) (with_wanted r.state.ties.table) r.state.pointers.pairs objects)
        | inr ended ↦
            known_as r.state.pointers (ap (λ (s : NodeState). s.pointers) (carried.ended ended).state) kept.node.pointers refl objects
      ]

  unchanged : KeepsNode node node
  unchanged = keeps node is.ties refl refl is.sessions is.cast_sessions same

pub kept_law : KeptLaw
kept_law node frame is is_frame =
    each_take node (λ acted. KeepsNode node acted.state) (unchanged node is) frame (unchanged node is)
    (λ known r acted case carried. carried_kept node is r acted carried (case_kept node is case (is_frame.sender, is_frame.body, known)))

pub start_kept_law : StartKeptLaw
start_kept_law node start is is_start =
    each_start node (λ acted. KeepsNode node acted.state) (unchanged node is) start
    (λ r acted case carried. carried_kept node is r acted carried (case_kept node is case is_start))
