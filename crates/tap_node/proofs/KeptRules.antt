-- A node stays sound at each rule.
use Rattle.std.proofs.Common.{◌≡◌, ℕ, ◌≤◌, List, [], ◌∷◌, length, map, Option, Some, None, All, true, false, arith, refl, sym, ap, subst, inl, inr, ◌⊎◌, zero, suc, slice_get}
use Rattle.std.proofs.lemmas.Bool.{cases_Bool, or_parts, true≢false}
use Rattle.std.specs.Prelude.{IfSome, ◌||◌}
use Rattle.tap_depart.proofs.Notices.{AreTies-told, new_is_told, told_is_new, told_owner}
use Rattle.tap_depart.specs.ToldLeave.{told_leave}
use Rattle.tap_join.proofs.Hellos.{AreTies-after_hello, hello_new_links, owner_stays}
use Rattle.tap_join.specs.Hello.{after_hello, hello_names}
use Rattle.tap_link.specs.declared.kind.Kind.{Kind}
use Rattle.tap_name.specs.Name.{IsName}
use Rattle.tap_name.specs.Names.{Among}
use Rattle.tap_name.specs.Settings.{SettingsValue}
use Rattle.tap_name.specs.declared.slot.Offered.{Offered}
use Rattle.tap_node.proofs.Few.{few-pinned, few_after}
use Rattle.tap_node.proofs.KeptSound.{KeepsSound, keeps_all, keeps_pointers, keeps, keeps_ended, keeps_links}
use Rattle.tap_node_common.proofs.Pairs.{named-all_withdrawn, named-put}
use Rattle.tap_node_common.proofs.Parents.{parents-answered, parents-opened}
use Rattle.tap_node_common.specs.SoundNode.{IsParent, IsSoundNode, knows_pairs}
use Rattle.tap_pointer.specs.Pointers.{own_pair, owner_publishes, pair_of, withdrawn}
use Rattle.tap_rule.proofs.CoverSteps.{seek_fits}
use Rattle.tap_rule.proofs.JoinSteps.{tell_fits}
use Rattle.tap_rule.proofs.OneName.{not_own}
use Rattle.tap_rule.specs.Hellos.{HelloFields, hello_body}
use Rattle.tap_rule.specs.Casts.{Copy}
use Rattle.tap_rule.specs.Covering.{Request}
use Rattle.tap_rule.specs.Event.{Start}
use Rattle.tap_rule.specs.RuleLaws.{frame_to}
use Rattle.tap_rule.specs.Node.{NodeState, Status, name_of, settings_of}
use Rattle.tap_rule.specs.Reaction.{with_pin, Reaction}
use Rattle.tap_rule.specs.Strange.{is_own_name, is_strange, is_strange_body, is_too_many, names_to_link, name_if}
use Rattle.tap_session.specs.Sessions.{answered_at}
use Rattle.tap_table.proofs.Sizes.{length-forgotten_rows, length-released_rows, length-removed_rows}
use Rattle.tap_table.proofs.Targets.{linked_is_target}
use Rattle.tap_table.specs.ByName.{targets_by_name}
use Rattle.tap_table.specs.Table.{kind_in, rows}
use Rattle.tap_table.specs.Ties.{AreTies}
use Rattle.tap_wire.specs.Spelling.{IsBody}
use Rattle.tap_wire.specs.declared.frame.Frame.{Frame}
use Rattle.tap_wire.specs.declared.frame.TellFields.{TellFields}
use Rattle.tap_session.specs.declared.parent.Parent.TheVariants.{Node}
use Rattle.tap_wire.specs.declared.frame.Body.TheVariants.{Seek, Tell, Release, Leave, Gone, Forget}
use Rattle.tap_rule.specs.Node.Status.{Core, Gone as GoneStatus, Ceased}
use Rattle.tap_rule.specs.Event.Start.{Publish, Withdraw}
use Rattle.tap_rule.proofs.Cases.{Cause, IsAsked, IsCast, IsLate, RuleCase, rule_of}
use Rattle.tap_rule.proofs.Cases.Cause.{Takes, Starts}
use Rattle.tap_rule.proofs.Cases.IsAsked.{BySeek, ByTell}
use Rattle.tap_rule.proofs.Cases.IsParting.{StartsLeaving, OneLeft}
use Rattle.tap_rule.proofs.Cases.IsCast.{ByStart, ByCopy}
use Rattle.tap_rule.proofs.Cases.RuleCase.{GreetedBefore, Greets, IsGreeted, HasCeased, IsCoreNow, IsReleased, IsForgottenBy, Counts, Closes, CoveredBefore, CoversAlone, CoversOn, MarksLeaver, DropsLeaver, CastsOn, CountsCast, ClosesCast, Publishes, WithdrawsIt, TakesPointer, TellsHolders, IsGoneNow}
use Rattle.tap_rule.proofs.EachRule.{each_rule}

-- a replacement that is given is a name
given_name : (p : SettingsValue) (replacement : Option (List ℕ)) → IfSome replacement (IsName p) → (name : List ℕ)
    → replacement ≡ Some name → IsName p name
given_name p replacement is name given = subst (λ r. IfSome r (IsName p)) given is

among_given : (replacement : Option (List ℕ)) (name : List ℕ) → replacement ≡ Some name → Among name (name_if replacement)
among_given replacement name given = rw given (inl refl)

-- the names that a frame could link are few if it isn't strange
enough : (node : NodeState) (frame : Frame) → is_strange node frame ≡ false
    → is_too_many node (names_to_link frame.from frame.body) ≡ false
enough node frame taken =
    (or_parts (is_own_name node frame.from || is_strange_body node frame.body)
    (is_too_many node (names_to_link frame.from frame.body)) taken).1

-- a link of a list is among its names
among_links : (links : List Offered) (i : ℕ) (link : Offered) → slice_get links i ≡ Some link → Among link.name (map (λ l. l.name) links)
among_links [] i link got = cc
among_links (first ∷ links) zero link got = let same : first ≡ link = cc in inl (ap (λ (l : Offered). l.name) (sym same))
among_links (first ∷ links) (suc i) link got = inr (among_links links i link got)

module _ (node : NodeState) (sound : IsSoundNode node) where
  ties : AreTies node.ties
  ties = sound.valid.ties

  -- what a start names is a name
  abbrev pub StartsNamed : Start → Type 0
  StartsNamed (Publish object) = IsName (settings_of node) object
  StartsNamed (Withdraw object) = IsName (settings_of node) object
  StartsNamed _ = Unit {0}

  -- what comes to the node: a frame from a name that isn't strange, or such a start
  abbrev pub IsSaid : Cause → Type 0
  IsSaid (Takes from body) = IsName (settings_of node) from × IsBody (settings_of node) body × (is_strange node (frame_to node from body) ≡ false)
  IsSaid (Starts begun) = StartsNamed begun

  -- ---- links, sessions and pairs

  module _ (from : List ℕ) (is_from : IsName (settings_of node) from) where
    few_after_hello : (hello : HelloFields) → All (λ link. IsName (settings_of node) link.name) hello.links
        → is_strange node (frame_to node from (hello_body hello)) ≡ false
        → length (rows (after_hello node.ties from hello.is_core hello.links).table) ≤ 255
    unfolding names_to_link
    few_after_hello hello names taken =
        let after = after_hello node.ties from hello.is_core hello.links in
        let offered = hello_names from hello.is_core hello.links in
        let are = AreTies-after_hello (settings_of node) (name_of node) node.ties (ties, refl, refl) from hello.is_core hello.links is_from names in
        few_after node.ties.table after.table are.table (owner_stays offered node.ties)
        (from ∷ map (λ link. link.name) hello.links)
        (λ x kind is.
        elim (hello_new_links (settings_of node) (name_of node) node.ties (ties, refl, refl) from hello.is_core hello.links is_from names x kind is) [
          | inl was ↦ inl (linked_is_target node.ties.table ties.table x kind was)
          | inr new ↦
              let among = among_links offered new.0 new.1 new.2 in
              inr (subst (λ y. Among y (from ∷ map (λ link. link.name) hello.links)) (sym new.3) among)
        ])
        (enough node (frame_to node from (hello_body hello)) taken)

    few_after_leave : (replacement : Option (List ℕ)) → IfSome replacement (IsName (settings_of node))
        → is_strange node (frame_to node from (Leave replacement)) ≡ false → length (rows (told_leave node.ties from replacement).table) ≤ 255
    unfolding names_to_link
    few_after_leave replacement is taken =
        let apart = not_own node (frame_to node from (Leave replacement)) taken in
        let given = given_name (settings_of node) replacement is in
        let after = told_leave node.ties from replacement in
        few_after node.ties.table after.table (AreTies-told node.ties from replacement ties is_from apart given).table
        (told_owner node.ties from replacement ties is_from apart given) (name_if replacement)
        (λ x kind now. by_kind x kind now (kind_in node.ties.table x) refl) (enough node (frame_to node from (Leave replacement)) taken)
      where
        by_kind : (x : List ℕ) (kind : Kind) → kind_in (told_leave node.ties from replacement).table x ≡ Some kind → (was : Option Kind)
            → kind_in node.ties.table x ≡ was → Among x (targets_by_name node.ties.table) ⊎ Among x (name_if replacement)
        by_kind x kind now (Some before) was = inl (linked_is_target node.ties.table ties.table x before was)
        by_kind x kind now None was =
            let apart = not_own node (frame_to node from (Leave replacement)) taken in
            let given = given_name (settings_of node) replacement is in
            let word = new_is_told node.ties from replacement ties is_from apart given 0 x kind was now in
            inr (among_given replacement x (told_is_new node.ties from replacement ties is_from apart given 0 _ word).given)

  asked_few : {cause : Cause} {request : Request} → IsAsked node cause request → IsSaid cause
      → length (rows (with_pin node request.joiner).ties.table) ≤ 255
  unfolding names_to_link
  asked_few (BySeek {from = from} {joiner = joiner} {prefix = prefix} found) said =
      few-pinned node.ties.table joiner ties.table said.1 (seek_fits node from joiner prefix said.2 found).apart
      (enough node (frame_to node from (Seek joiner)) said.2)
  asked_few (ByTell {from = from} {joiner = joiner} {prefix = prefix} {level = level} {session = session} {depth = depth} {watch = watch}) said =
      let tell : TellFields = record { joiner = joiner; prefix = prefix; level = level; session = session; depth = depth } in
      few-pinned node.ties.table joiner ties.table said.1.joiner_is (tell_fits node from tell watch said.2).apart
      (enough node (frame_to node from (Tell joiner prefix level session depth watch)) said.2)

  asked_parent : {cause : Cause} {request : Request} → IsAsked node cause request → IsSaid cause → IsParent (settings_of node) request.parent
  asked_parent (BySeek found) said = said.1
  asked_parent ByTell said = (said.0, said.1.session_least)

  cast_parent : {cause : Cause} {copy : Copy} → IsCast node cause copy → IsSaid cause → IsParent (settings_of node) copy.parent
  cast_parent ByStart said = sound.valid.ties.table.owner
  cast_parent ByCopy said = (said.0, said.1.1)

  late_knows : {status : Status} → IsLate status → node.status ≡ status → knows_pairs node.status ≡ true
  late_knows IsLate.IsCore at = rw at refl
  late_knows IsLate.IsLeaving at = rw at refl

  -- the pair of an object that the node serves itself is one of names
  own_named : (object : List ℕ) → IsName (settings_of node) object
      → IsName (settings_of node) (own_pair node.pointers object).object × IsName (settings_of node) (own_pair node.pointers object).server
  own_named object is_name = (is_name, rw sound.valid.owner sound.valid.ties.table.owner)

  withdrawn_sound : (object : List ℕ) → IsName (settings_of node) object → node.status ≡ Core
      → KeepsSound node (record node { pointers = withdrawn node.pointers object })
  withdrawn_sound object is_name at =
      elim (cases_Bool (owner_publishes node.pointers object)) [
        | inl is ↦
            rw is (keeps_pointers node sound _
            (named-put (settings_of node) node.pointers (own_pair node.pointers object) _ (own_named object is_name) sound.pairs)
            (rw at refl) refl refl refl)
        | inr is_not ↦ rw is_not (keeps_all node sound _ refl refl refl refl refl)
      ]

  -- ---- rules

  -- a name is linked, or a link is taken out; a session is answered, and one is opened
  relinked : (after : NodeState) → after.pointers ≡ node.pointers → after.status ≡ node.status → length (rows after.ties.table) ≤ 255
      → after.sessions ≡ node.sessions → after.cast_sessions ≡ node.cast_sessions → KeepsSound node after
  relinked after pointers status few sessions casts =
      keeps node sound after pointers status few (rw sessions sound.parents) (rw casts sound.cast_parents)

  answers : (session : ℕ) → KeepsSound node (record node { sessions = answered_at node.sessions session })
  answers session =
      keeps_links node sound _ refl refl refl (parents-answered (settings_of node) node.sessions session sound.parents) sound.cast_parents

  answers_cast : (session : ℕ) → KeepsSound node (record node { cast_sessions = answered_at node.cast_sessions session })
  answers_cast session =
      keeps_links node sound _ refl refl refl sound.parents (parents-answered (settings_of node) node.cast_sessions session sound.cast_parents)

  case_sound : {status : Status} {cause : Cause} {r : Reaction} → RuleCase node status cause r → node.status ≡ status → IsSaid cause
      → KeepsSound node r.state
  case_sound {cause = cause} (GreetedBefore before) at said = relinked _ refl refl (asked_few {cause = cause} ByTell said) refl refl
  case_sound {cause = cause} (Greets {from = from} {session = session} {depth = depth} before) at said =
      keeps node sound _ refl refl (asked_few {cause = cause} ByTell said)
      (parents-opened (settings_of node) node.sessions (Node from session) depth 1 sound.parents (said.0, said.1.session_least)) sound.cast_parents
  case_sound (IsGreeted {from = from}) at said = relinked _ refl refl (few_after_hello from said.0 _ said.1.1.names said.2) refl refl
  case_sound (IsCoreNow keeps_on) at said = record {
    pairs = sound.pairs;
    alone = λ none. absurd (true≢false none);
    few = sound.few;
    parents = sound.parents;
    cast_parents = sound.cast_parents;
  }
  case_sound (HasCeased given_up) at said = keeps_ended node sound Ceased
  case_sound (IsReleased {from = from} early) at said =
      let len = length-released_rows node.ties.table from ties.table said.0 (not_own node (frame_to node from Release) said.2) in
      let few = sound.few in relinked _ refl refl (omega (arith, len, few)) refl refl
  case_sound (IsForgottenBy {from = from} early) at said =
      let len = length-forgotten_rows node.ties.table from ties.table said.0 (not_own node (frame_to node from Forget) said.2) in
      let few = sound.few in relinked _ refl refl (omega (arith, len, few)) refl refl
  case_sound (Counts {session = session} of kind others) at said = answers session
  case_sound (Closes {session = session} of kind closed) at said = answers session
  case_sound (CoveredBefore asked turn) at said = relinked _ refl refl (asked_few asked said) refl refl
  case_sound (CoversAlone asked turn none) at said = relinked _ refl refl (asked_few asked said) refl refl
  case_sound (CoversOn {request = request} asked turn some) at said =
      keeps node sound _ refl refl (asked_few asked said)
      (parents-opened (settings_of node) node.sessions request.parent request.depth _ sound.parents (asked_parent asked said)) sound.cast_parents
  case_sound (MarksLeaver {from = from} {replacement = replacement}) at said =
      relinked _ refl refl (few_after_leave from said.0 replacement said.1 said.2) refl refl
  case_sound (DropsLeaver {from = from}) at said =
      let len = length-removed_rows node.ties.table from ties.table said.0 (not_own node (frame_to node from Gone) said.2) in
      let few = sound.few in relinked _ refl refl (omega (arith, len, few)) refl refl
  case_sound (CastsOn {copy = copy} of turn) at said =
      keeps_links node sound _ refl refl refl sound.parents
      (parents-opened (settings_of node) node.cast_sessions copy.parent copy.depth _ sound.cast_parents (cast_parent of said))
  case_sound (CountsCast {session = session} others) at said = answers_cast session
  case_sound (ClosesCast {session = session} closed) at said = answers_cast session
  case_sound (Publishes {object = object}) at said =
      keeps_pointers node sound _
      (named-put (settings_of node) node.pointers (own_pair node.pointers object) _ (own_named object said) sound.pairs) (rw at refl) refl refl refl
  case_sound (WithdrawsIt {object = object}) at said = withdrawn_sound object said at
  case_sound (TakesPointer {object = object} {server = server} late) at said =
      keeps_pointers node sound _
      (named-put (settings_of node) node.pointers (pair_of object server) _ (said.1.0, said.1.1) sound.pairs) (late_knows late at) refl refl refl
  case_sound (TellsHolders some) at said =
      keeps_pointers node sound _ (named-all_withdrawn (settings_of node) node.pointers sound.pairs) refl refl refl refl
  case_sound (IsGoneNow StartsLeaving last) at said = keeps_ended node sound GoneStatus
  case_sound (IsGoneNow OneLeft last) at said = keeps_ended node sound GoneStatus
  case_sound _ at said = keeps_all node sound _ refl refl refl refl refl

  pub rule_sound : (cause : Cause) → IsSaid cause → IfSome (rule_of node.status node cause) (λ r. KeepsSound node r.state)
  rule_sound cause said = each_rule node (λ r. KeepsSound node r.state) node.status cause (λ r case. case_sound case refl said)
