-- To whom each rule has a node send: to its links and holders, and to those who ask it.
use Rattle.std.proofs.Common.{◌≡◌, ◌≢◌, ◌⊎◌, ◌==◌, ◌||◌, ℕ, ◌+◌, ◌<◌, ◌≤◌, nat_eq, Bool, true, false, cond, if◌then◌else◌, List, [], length, All, Option, None, Some, is_none, arith, ap, refl, sym, subst, ◌∙◌, inl, inr}
use Rattle.std.specs.Prelude.{IfSome}
use Rattle.std.specs.Cmp.Lexicographic.{pointwise}
use Rattle.std.proofs.lemmas.Bool.{cases_Bool}
use Rattle.std.proofs.lemmas.Cmp.{nat_list_cmp_total}
use Rattle.std.proofs.lemmas.List.Elements.{All-cons, All-map, All-nil}
use Rattle.std.proofs.lemmas.Slice.Eq.{bytes_eq-Decides}
use Rattle.tap_name.specs.Name.{IsName}
use Rattle.tap_name.specs.Order.{name_cmp}
use Rattle.tap_name.specs.Prefix.{lcp}
use Rattle.tap_name.proofs.Prefixes.{lcp-sym, lcp-triangle}
use Rattle.tap_name.specs.declared.slot.Offered.{Offered}
use Rattle.tap_session.specs.declared.parent.Parent.{Parent}
use Rattle.tap_session.specs.declared.parent.Parent.TheVariants.{Node, Root}
use Rattle.tap_session.specs.Session.{Session}
use Rattle.tap_session.specs.Sessions.{AreSessions, opened_with, session_of}
use Rattle.tap_link.specs.declared.kind.Kind.{Kind}
use Rattle.tap_link.specs.declared.kind.Kind.TheVariants.{Pin, Settled}
use Rattle.tap_link.proofs.Least.{least_settled_is}
use Rattle.tap_link.proofs.TargetKinds.{kind_forgotten, kind_marked, kind_offered, kind_pinned, kind_released, kind_removed}
use Rattle.tap_table.specs.ByName.{targets_by_name}
use Rattle.tap_table.specs.Levels.{is_kept, sent_from}
use Rattle.tap_table.specs.Next.{IsHop}
use Rattle.tap_table.specs.Table.{IsTable, TableValue, has_room_near, kind_in, links_near, pinned as table_pinned}
use Rattle.tap_table.specs.declared.next.Next.TheVariants.{Hop as HopTo}
use Rattle.tap_table.specs.Ties.{TiesValue, forgotten, holders_on, marked, off_ties, released, removed}
use Rattle.tap_table.proofs.Hops.{hop_exactly, hop_is}
use Rattle.tap_table.proofs.KeptTable.{IsTable-pinned}
use Rattle.tap_table.proofs.LookUps.{kind_in-forgotten, kind_in-marked, kind_in-offered, kind_in-pinned, kind_in-released, kind_in-removed}
use Rattle.tap_table.proofs.Near.{number_near}
use Rattle.tap_table.proofs.Primaries.{primary_near}
use Rattle.tap_table.proofs.TiesKept.{AreTies-marked}
use Rattle.tap_pointer.specs.Pointers.{all_withdrawn, pair_of, pointer_at, state_of, with_lay, with_published}
use Rattle.tap_pointer.proofs.Laws.{are-all_withdrawn}
use Rattle.tap_multicast.specs.declared.target.Target.{Target}
use Rattle.tap_multicast.specs.Covers.{begun_cover, cover_of, level_kept}
use Rattle.tap_multicast.specs.Targets.{targets}
use Rattle.tap_multicast.proofs.Telling.{targets_are}
use Rattle.tap_cast.specs.declared.casts.CastTurn.TheVariants.{Already as CastAlready, Now as CastNow}
use Rattle.tap_cast.specs.declared.target.CastTarget.{CastTarget}
use Rattle.tap_cast.specs.Casts.{level_of_cast, turn_of}
use Rattle.tap_cast.specs.Targets.{cast_targets}
use Rattle.tap_cast.proofs.Casting.{targets_are as cast_targets_are}
use Rattle.tap_depart.specs.Leaving.{notice_for, started_leaving}
use Rattle.tap_depart.specs.ToldLeave.{has_settled_near, offered_if, offer_tells_if, taken_in}
use Rattle.tap_depart.specs.declared.notice.Notice.{Notice}
use Rattle.tap_join.specs.Hello.{after_hello, hello_names, words_of}
use Rattle.tap_join.proofs.Hellos.{new_links}
use Rattle.tap_join.proofs.Seeking.{forward_is}
use Rattle.tap_wire.specs.Spelling.{IsBody}
use Rattle.tap_wire.specs.declared.frame.Body.{Body}
use Rattle.tap_wire.specs.declared.frame.TellFields.{TellFields}
use Rattle.tap_rule.specs.Casts.{Copy}
use Rattle.tap_rule.specs.Covering.{Request}
use Rattle.tap_rule.specs.Event.{News, Start}
use Rattle.tap_rule.specs.FrameRules.{rule_of_frame}
use Rattle.tap_rule.specs.KeptNode.{IsNode}
use Rattle.tap_rule.specs.RuleLaws.{frame_to}
use Rattle.tap_rule.specs.Leaving.{leave_for}
use Rattle.tap_rule.specs.Node.{IsRunning, NodeState, Status, ended, join_session_at, name_of, settings_of}
use Rattle.tap_rule.specs.Node.Status.{Ceased, Gone as GoneStatus}
use Rattle.tap_rule.specs.Pointers.{next_hop}
use Rattle.tap_rule.specs.Reaction.{Message, Reaction, pin_word, stays}
use Rattle.tap_rule.specs.StartRules.{rule_of_start}
use Rattle.tap_rule.specs.Strange.{is_strange}
use Rattle.tap_rule.proofs.CoverSteps.{seek_fits}
use Rattle.tap_rule.proofs.EndSteps.{unlinked}
use Rattle.tap_rule.proofs.Fit.{fit_law}
use Rattle.tap_rule.proofs.JoinSteps.{tell_fits}
use Rattle.tap_rule.proofs.OneName.{not_own, others_stay}
use Rattle.tap_table.proofs.Targets.{target_is_linked}
use Rattle.tap_moves.proofs.SessionsMade.{none_opened, opened_found}
use Rattle.tap_moves.proofs.Got.{all_among, among_all, among_got}
use Rattle.tap_moves.proofs.Receivers.{AreLaidTo, HaveParents, IsLaidTo, IsToLay, IsToLink, IsToWord, cleared_to, closed_by, hello_to, laid_in, off_to, parent_closed, parents_answered, parents_opened, published_to, put_to, withdrawn_to, word_to}
use Rattle.tap_multicast.specs.declared.covers.Covered.{Covered}
use Rattle.tap_multicast.specs.declared.covers.Covered.TheVariants.{Already, Now}
use Rattle.tap_cast.specs.declared.casts.CastTurn.{CastTurn}
use Rattle.tap_pointer.specs.declared.lay.Lay.{Lay as LaySent}
use Rattle.tap_wire.specs.declared.frame.Body.TheVariants.{Find, Forget, Gone, Hello, Leave, Release, Seek, Tell}
use Rattle.tap_rule.specs.Event.Start.{Find as StartFind, Join}
use Rattle.tap_rule.proofs.Cases.{Cause, IsAsked, IsCast, IsNamed, RuleCase, rule_of, turn_for}
use Rattle.tap_rule.proofs.Cases.Cause.{Takes, Starts}
use Rattle.tap_rule.proofs.Cases.IsAsked.{BySeek, ByTell}
use Rattle.tap_rule.proofs.Cases.IsCast.{ByStart, ByCopy}
use Rattle.tap_rule.proofs.Cases.IsParting.{StartsLeaving, OneLeft}
use Rattle.tap_rule.proofs.Cases.IsNamed.{FirstSeek, NextSeek, TellOn, CoreHello, JoiningHello, DoneBack, ClosingAck, ClosingDone, HolderRelease, HolderForget, FirstFind, NextFind, AnswerBack, HolderLeave, HolderGone, CastOn, ClosingCastAck}
use Rattle.tap_rule.proofs.Cases.RuleCase.{GreetedBefore, Greets, IsGreeted, IsCoreNow, HasCeased, IsReleased, IsForgottenBy, CoveredBefore, CoversAlone, CoversOn, MarksLeaver, DropsLeaver, CastsOn, CountsCast, ClosesCast, Publishes, WithdrawsIt, TakesPointer, TellsHolders, IsGoneNow}
use Rattle.tap_rule.proofs.Named.{each_case}

module _ (P Q : List ℕ → Type 0) where
  -- ---- what a rule has a node send

  -- a Find is of such an asker, and goes to where fewer digits are shared with it than its level
  abbrev pub AskedBy : List ℕ → Body → Type 0
  AskedBy to (Find ticket object asker level) = Q asker × (lcp to asker < level)
  AskedBy to other = Unit {0}

  -- a message goes to such a node
  abbrev pub Goes : Message → Type 0
  Goes m = P m.to × AskedBy m.to m.body

  -- who is answered in the end of a session of a join, and of one of casts, at whose root nobody is
  abbrev pub JoinParent : Parent → Type 0
  JoinParent (Root joiner) = P joiner
  JoinParent (Node name session) = P name

  abbrev pub CastParent : Parent → Type 0
  CastParent (Root name) = Unit {0}
  CastParent (Node name session) = P name

  abbrev pub AreLinks : TableValue → Type 0
  AreLinks t = (name : List ℕ) (kind : Kind) → kind_in t name ≡ Some kind → P name

  -- the session that the node has opened, if it has opened one, is asked for by such
  abbrev pub OpensFor : NodeState → NodeState → Type 0
  OpensFor node after =
      IfSome (if after.sessions.opened == node.sessions.opened then None else session_of after.sessions.sessions after.sessions.opened)
      (λ a. JoinParent a.parent)

  -- Words, messages and Lays go to such nodes; and the node that is left has links to such alone, lays pairs on to such while it runs, and
  -- its sessions of casts are asked for by such.
  pub record SendsTo (node : NodeState) (r : Reaction) : Type 0 where
    pub words : All (IsToWord P) r.words
    pub messages : All Goes r.messages
    pub lays : All (IsToLay P) r.lays
    pub links : AreLinks r.state.ties.table
    pub laid : IsRunning r.state.status → AreLaidTo P r.state.pointers
    pub casts : HaveParents CastParent r.state.cast_sessions
    pub opens : OpensFor node r.state

  -- whom a frame names that a rule may then send to: joiners, links, replacements and askers
  abbrev pub Names : NodeState → Body → Type 0
  Names node (Seek joiner) = P joiner
  Names node (Tell joiner prefix level session depth watch) = P joiner
  Names node (Hello session core links) = All (IsToLink P) links
  Names node (Leave replacement) = (name : List ℕ) → replacement ≡ Some name → name ≢ name_of node → P name
  Names node (Find ticket object asker level) = P asker × Q asker × (lcp (name_of node) asker < level)
  Names node other = Unit {0}

  -- a join is by such a node, and what is looked up is a name
  abbrev pub StartNames : NodeState → Start → Type 0
  StartNames node (Join via) = P via
  StartNames node (StartFind ticket object) = IsName (settings_of node) object
  StartNames node start = Unit {0}

  -- no session is opened
  pub none_opens : (node after : NodeState) → after.sessions.opened ≡ node.sessions.opened → OpensFor node after
  none_opens node after same =
      subst (λ found. IfSome found (λ a. JoinParent a.parent)) (sym (none_opened node.sessions after.sessions same)) tt

  -- one is
  one_opens : (node after : NodeState) (parent : Parent) (depth waiting : ℕ) → AreSessions node.sessions
      → after.sessions ≡ opened_with node.sessions parent depth waiting → JoinParent parent → OpensFor node after
  one_opens node after parent depth waiting are same asks =
      subst (λ found. IfSome found (λ a. JoinParent a.parent))
      (sym (opened_found node.sessions after.sessions parent depth waiting are same)) asks

  -- ---- changes of one link

  pinned_links : (t : TableValue) → IsTable t → (name : List ℕ) → IsName t.settings name → name ≢ t.owner → P name → AreLinks t
      → AreLinks (table_pinned t name)
  pinned_links t valid name is_name apart is links other kind found =
      elim (others_stay name other kind_pinned _ (kind_in t other) (kind_in-pinned t name valid is_name apart other)) [
        | inl same ↦ subst P (sym same) is
        | inr stays ↦ links other kind (sym stays ∙ found)
      ]

  module _ (node : NodeState) (is : IsNode node) (links : AreLinks node.ties.table) (holders : All P (holders_on node.ties))
      (parents : (k : ℕ) (a : Session) → join_session_at node k ≡ Some a → JoinParent a.parent)
      (casts : HaveParents CastParent node.cast_sessions)
      (laid : IsRunning node.status → AreLaidTo P node.pointers) where
    abbrev t0 : TableValue
    t0 = node.ties.table

    -- a frame is from such a node, whose name is one, it keeps the rules of its fields, names such, and isn't strange
    abbrev IsSaid : Cause → Type 0
    IsSaid (Takes from body) = IsName (settings_of node) from × P from × IsBody (settings_of node) body × Names node body
        × (is_strange node (frame_to node from body) ≡ false)
    IsSaid (Starts start) = Q (name_of node) × StartNames node start

    -- the targets of the table
    targets_to : All P (targets_by_name t0)
    targets_to =
        all_among P (targets_by_name t0) (λ x among.
        let found = target_is_linked t0 is.ties.table x among in links x found.0 found.1)

    -- ---- requests and casts

    record IsRequestTo (request : Request) : Type 0 where
      is_name : IsName (settings_of node) request.joiner
      apart : request.joiner ≢ name_of node
      joiner : P request.joiner
      parent : JoinParent request.parent

    request_to : {cause : Cause} {request : Request} → IsAsked node cause request → IsSaid cause → IsRequestTo request
    request_to (BySeek {from = from} {joiner = joiner} {prefix = prefix} found) said =
        record { is_name = said.2; apart = (seek_fits node from joiner prefix said.4 found).apart; joiner = said.3; parent = said.3 }
    request_to (ByTell {from = from} {joiner = joiner} {prefix = prefix} {level = level} {session = session} {depth = depth} {watch = watch}) said =
        let tell : TellFields = record { joiner = joiner; prefix = prefix; level = level; session = session; depth = depth } in
        record { is_name = said.2.joiner_is; apart = (tell_fits node from tell watch said.4).apart; joiner = said.3; parent = said.1 }

    module _ {request : Request} (fits : IsRequestTo request) where
      links_with : AreLinks (table_pinned t0 request.joiner)
      links_with = pinned_links t0 is.ties.table request.joiner fits.is_name fits.apart fits.joiner links

      pin_to : All (IsToWord P) (words_of (pin_word node request.joiner))
      pin_to = word_to P _ request.joiner (node.stamp + 1) true fits.joiner

      -- whom a cover tells
      abbrev TellsSuch : Covered → Type 0
      TellsSuch Already = Unit {0}
      TellsSuch (Now first offered told rest) = All (λ (target : Target). P target.to) told

      tells_such : TellsSuch (turn_for node request)
      tells_such = by_kept (level_kept node.covers request.joiner) (is_kept (level_kept node.covers request.joiner) request.level)
        where
          t : TableValue
          t = table_pinned t0 request.joiner

          by_kept : (kept : Option ℕ) (already : Bool)
              → TellsSuch (cond already Already (begun_cover t request.watch (cover_of t kept request.joiner request.prefix request.level)))
          by_kept kept true = tt
          by_kept kept false = λ k d inside.
              let valid = IsTable-pinned t0 request.joiner is.ties.table fits.is_name fits.apart in
              let target = targets_are t valid (cover_of t kept request.joiner request.prefix request.level) k d inside in
              links_with _ target.kind target.linked

    cast_parent : {cause : Cause} {copy : Copy} → IsCast node cause copy → IsSaid cause → CastParent copy.parent
    cast_parent ByStart said = tt
    cast_parent ByCopy said = said.1

    cast_target_to : (from to : ℕ) → All (λ (target : CastTarget). P target.to) (cast_targets t0 from to)
    cast_target_to from to k d inside =
        let target = cast_targets_are t0 is.ties.table from to k d inside in
        elim target.which [
          | inl primary ↦ links _ Settled (primary_settled _ primary)
          | inr pin ↦ links _ Pin pin.1
        ]
      where
        primary_settled : (name : List ℕ) → primary_near t0 name ≡ Some name → kind_in t0 name ≡ Some Settled
        primary_settled name found =
            (least_settled_is name_cmp nat_list_cmp_total (links_near t0 name) name
            (is.ties.table.sets (number_near t0 name)).ascending found).settled

    -- whom a cast goes to
    abbrev CastsToSuch : CastTurn → Type 0
    CastsToSuch CastAlready = Unit {0}
    CastsToSuch (CastNow first targets) = All (λ (target : CastTarget). P target.to) targets

    casts_to_such : (copy : Copy) → CastsToSuch (turn_of node.casts t0 copy.cast copy.level)
    casts_to_such copy = by_kept (level_of_cast node.casts copy.cast) (is_kept (level_of_cast node.casts copy.cast) copy.level)
      where
        by_kept : (kept : Option ℕ) (already : Bool) → CastsToSuch
            (cond already CastAlready (CastNow (is_none kept) (cast_targets t0 copy.level (sent_from t0.settings.digits kept))))
        by_kept kept true = tt
        by_kept kept false = cast_target_to copy.level (sent_from t0.settings.digits kept)

    -- ---- lookups

    -- a hop goes to a link, at a level at which fewer digits are shared with the asker
    hop_asked : (object asker : List ℕ) (level : ℕ) → IsName (settings_of node) object → level ≤ length object
        → (to : List ℕ) (next : ℕ) → next_hop node object level ≡ HopTo to next → IsHop t0 level to next
    hop_asked object asker level name inside to next found =
        hop_is t0 object to next level is.ties.table name ((hop_exactly t0 object to next level inside).0 found)

    farther : (asker to : List ℕ) (level next : ℕ) → lcp (name_of node) asker < level → IsHop t0 level to next → lcp to asker < next
    farther asker to level next far hop =
        let above = hop.above in
        let shared = hop.shared in
        let sides = lcp-triangle asker (name_of node) to in
        let one = lcp-sym asker (name_of node) in
        let other = lcp-sym asker to in
        let same = sides.below (omega (arith, far, above, shared, one)) in
        omega (arith, far, above, one, other, same)

    -- ---- messages

    notices_go : All (λ (n : Notice). Goes (leave_for n)) (started_leaving node.ties).notices
    notices_go = All-map (λ (n : Notice). Goes (leave_for n)) (notice_for t0) (holders_on node.ties) (λ k d inside. (holders k d inside, tt))

    named_goes : {status : Status} {cause : Cause} → IsSaid cause → (m : Message) → IsNamed node status cause m → Goes m
    named_goes said m FirstSeek = (said.1, tt)
    named_goes said m (NextSeek {from = from} {joiner = joiner} {next = next} found) =
        let fit = (fit_law node (frame_to node from (Seek joiner)) is.ties).0 said.4 in
        (links next Settled (forward_is t0 is.ties.table joiner said.2 fit.body.apart next found).settled, tt)
    named_goes said m (TellOn {request = request} k d asked now within) =
        let fits = request_to asked said in (subst (TellsSuch fits) now (tells_such fits) k d within, tt)
    named_goes said m (CoreHello asked now) = ((request_to asked said).joiner, tt)
    named_goes said m JoiningHello = (said.3, tt)
    named_goes said m DoneBack = (said.3, tt)
    named_goes said m (ClosingAck {session = session} kind closed) =
        (closed_by JoinParent (join_session_at node session) _ (λ a found. parents session a found) closed, tt)
    named_goes said m (ClosingDone {session = session} kind closed) =
        (closed_by JoinParent (join_session_at node session) _ (λ a found. parents session a found) closed, tt)
    named_goes said m (HolderRelease k d keeps_on within) = (holders k d within, tt)
    named_goes said m (HolderForget k d given_up within) = (holders k d within, tt)
    named_goes said m (FirstFind {object = object} {to = to} {level = level} none goes) =
        let hop = hop_asked object (name_of node) 0 said.1 (omega arith) to level goes in
        let shared = hop.shared in
        let swap = lcp-sym to (name_of node) in
        (links to Settled hop.settled, (said.0, omega (arith, shared, swap)))
    named_goes said m (NextFind {object = object} {asker = asker} {to = to} {level = level} {further = further} none goes) =
        let len = said.2.0.len in
        let most = said.2.2.1 in
        let hop = hop_asked object asker level said.2.0 (omega (arith, len, most)) to further goes in
        (links to Settled hop.settled, (said.3.1, farther asker to level further said.3.2 hop))
    named_goes said m (AnswerBack found ends) = (said.3.0, tt)
    named_goes said m (HolderLeave k d within) = notices_go k d within
    named_goes said m (HolderGone k d StartsLeaving within) = (holders k d within, tt)
    named_goes said m (HolderGone k d OneLeft within) = (holders k d within, tt)
    named_goes said m (CastOn {copy = copy} k d of now within) = (subst CastsToSuch now (casts_to_such copy) k d within, tt)
    named_goes said m (ClosingCastAck {session = session} closed) = (parent_closed CastParent node.cast_sessions session _ casts closed, tt)
    named_goes said m _ = (said.1, tt)

    -- ---- links

    module _ (from : List ℕ) (is_from : IsName (settings_of node) from) (sender : P from) where
      -- a link changes to the sender alone
      of_sender : (after : TableValue) → ((name : List ℕ) → (name ≡ from) ⊎ (kind_in after name ≡ kind_in t0 name)) → AreLinks after
      of_sender after stay name kind found =
          elim (stay name) [
            | inl same ↦ subst P (sym same) sender
            | inr stays ↦ links name kind (sym stays ∙ found)
          ]

      -- a Hello
      hello_links : (core : Bool) (offers : List Offered) → All (λ (link : Offered). IsName (settings_of node) link.name) offers
          → All (IsToLink P) offers → AreLinks (after_hello node.ties from core offers).table
      hello_links core offers names all name kind found =
          let first : Offered = record { name = from; settled = core } in
          elim (new_links (settings_of node) (name_of node) (hello_names from core offers) node.ties
          (All-cons (λ (link : Offered). IsName (settings_of node) link.name) first offers is_from names) (is.ties, refl, refl) name kind
          found) [
            | inl old ↦ links name kind old
            | inr new ↦
                let among = among_got new.1 (hello_names from core offers) new.0 new.2 in
                let there = among_all (IsToLink P) (hello_names from core offers) (All-cons (IsToLink P) first offers sender all) new.1
                among in
                subst P (sym new.3) there
          ]

      -- a Leave
      abbrev after_mark : TiesValue
      after_mark = marked node.ties from

      marked_links : from ≢ name_of node → AreLinks after_mark.table
      marked_links apart =
          of_sender after_mark.table (λ name.
          others_stay from name kind_marked _ (kind_in t0 name) (kind_in-marked t0 from is.ties.table is_from apart name))

      taken_given : (given name : List ℕ) (test : Bool) → cond test None (Some given) ≡ Some name → given ≡ name
      taken_given given name true taken = absurd (cc)
      taken_given given name false taken = cc

      taken_apart : (given name : List ℕ) → taken_in after_mark from (Some given) ≡ Some name → given ≢ name_of node
      taken_apart given name taken same =
          let own : pointwise nat_eq given after_mark.table.owner ≡ true = (bytes_eq-Decides given after_mark.table.owner).1 same in
          elim (cases_Bool (has_settled_near after_mark from)) [
            | inl settled ↦ let wrong : None ≡ Some name = rw settled at taken in absurd (cc)
            | inr none ↦ let wrong : None ≡ Some name = rw (none, own) at taken in absurd (cc)
          ]

      -- a replacement that is taken, if one is
      record TakesIn (found : Option (List ℕ)) : Type 0 where
        links_then : AreLinks (offered_if after_mark found).table
        word : (last : ℕ) → All (IsToWord P) (words_of (offer_tells_if after_mark last found))

      takes_in : from ≢ name_of node → (replacement : Option (List ℕ)) → IfSome replacement (IsName (settings_of node))
          → ((name : List ℕ) → replacement ≡ Some name → name ≢ name_of node → P name) → (found : Option (List ℕ))
          → taken_in after_mark from replacement ≡ found → TakesIn found
      takes_in apart replacement given goes None same =
          record { links_then = marked_links apart; word = λ last. All-nil (IsToWord P) }
      takes_in apart None given goes (Some name) same = let wrong : None ≡ Some name = same in absurd (cc)
      takes_in apart (Some r) given goes (Some name) same =
          let one : r ≡ name = taken_given r name (has_settled_near after_mark from || pointwise nat_eq r after_mark.table.owner) same in
          let is_name = subst (IsName (settings_of node)) one given in
          let other : name ≢ name_of node = λ own. taken_apart r name same (one ∙ own) in
          let to : P name = goes name (ap Some one) other in
          let are = AreTies-marked node.ties from is.ties is_from apart in
          record {
            links_then = λ found_name kind found.
                elim (others_stay name found_name (kind_offered (has_room_near after_mark.table name)) _
                (kind_in after_mark.table found_name)
                (kind_in-offered after_mark.table name are.table is_name other found_name)) [
                  | inl is_it ↦ subst P (sym is_it) to
                  | inr stays ↦ marked_links apart found_name kind (sym stays ∙ found)
                ];
            word = λ last. word_to P _ name (last + 1) true to;
          }

    ended_links : (status : Status) → AreLinks (ended status node).ties.table
    ended_links status name kind found =
        let none = unlinked (settings_of node) (name_of node) name in
        let wrong : None ≡ Some kind = sym none ∙ found in
        absurd (cc)

    -- ---- rules

    -- no Lay is sent, and no session of a join is opened; or one is
    no_words : All (IsToWord P) []
    no_words = All-nil (IsToWord P)

    unopened : (r : Reaction) → AreLinks r.state.ties.table → (IsRunning r.state.status → AreLaidTo P r.state.pointers)
        → HaveParents CastParent r.state.cast_sessions → r.state.sessions.opened ≡ node.sessions.opened → All (IsToWord P) r.words
        → r.lays ≡ [] → All Goes r.messages → SendsTo node r
    unopened r to pairs parents opened words none sent = record {
      words = words;
      messages = sent;
      lays = subst (All (IsToLay P)) (sym none) (All-nil (IsToLay P));
      links = to;
      laid = pairs;
      casts = parents;
      opens = none_opens node r.state opened;
    }

    opening : (r : Reaction) (parent : Parent) (depth waiting : ℕ) → r.state.sessions ≡ opened_with node.sessions parent depth waiting
        → JoinParent parent → AreLinks r.state.ties.table → (IsRunning r.state.status → AreLaidTo P r.state.pointers)
        → HaveParents CastParent r.state.cast_sessions → All (IsToWord P) r.words → r.lays ≡ [] → All Goes r.messages → SendsTo node r
    opening r parent depth waiting same asks to pairs parents words none sent = record {
      words = words;
      messages = sent;
      lays = subst (All (IsToLay P)) (sym none) (All-nil (IsToLay P));
      links = to;
      laid = pairs;
      casts = parents;
      opens = one_opens node r.state parent depth waiting is.sessions same asks;
    }

    -- the node has ended
    ending : (status : Status) → (IsRunning status → ⊥) → (lays : List LaySent) → All (IsToLay P) lays → (messages : List Message)
        → All Goes messages → (news : News) → SendsTo node (record {
          state = ended status node;
          words = off_ties node.stamp (targets_by_name t0);
          messages = messages;
          lays = lays;
          news = news;
        })
    ending status over lays to messages sent news = record {
      words = off_to P node.stamp (targets_by_name t0) targets_to;
      messages = sent;
      lays = to;
      links = ended_links status;
      laid = λ runs. absurd (over runs);
      casts = All-nil (λ a. CastParent a.parent);
      opens = none_opens node (ended status node) refl;
    }

    withdrawn_all : IsRunning node.status → AreLaidTo P (all_withdrawn node.pointers)
    withdrawn_all runs = All-map (IsLaidTo P) (λ e. (e.0, with_published e.1 false)) node.pointers.pairs (laid runs)

    case_sends : {status : Status} {cause : Cause} {r : Reaction} → RuleCase node status cause r → node.status ≡ status → IsSaid cause
        → All Goes r.messages → SendsTo node r
    case_sends {cause = cause} (GreetedBefore before) at said sent =
        let fits = request_to {cause = cause} ByTell said in unopened _ (links_with fits) laid casts refl (pin_to fits) refl sent
    case_sends {cause = cause} (Greets {from = from} {session = session} {depth = depth} before) at said sent =
        let fits = request_to {cause = cause} ByTell said in
        opening _ (Node from session) depth 1 refl said.1 (links_with fits) laid casts (pin_to fits) refl sent
    case_sends (IsGreeted {from = from} {core = core} {links = offers}) at said sent =
        unopened _ (hello_links from said.0 said.1 core offers said.2.1.names said.3) laid casts refl
        (hello_to P (hello_names from core offers) node.ties node.stamp
        (All-cons (IsToLink P) (record { name = from; settled = core }) offers said.1 said.3)) refl sent
    case_sends (IsCoreNow keeps_on) at said sent = unopened _ links (λ still. laid (subst IsRunning (sym at) tt)) casts refl no_words refl sent
    case_sends (HasCeased given_up) at said sent = ending Ceased (λ runs. runs) _ (All-nil (IsToLay P)) _ sent _
    case_sends (IsReleased {from = from} early) at said sent =
        let apart = not_own node (frame_to node from Release) said.4 in
        let to = of_sender from said.0 said.1 (released node.ties from).table (λ name.
        others_stay from name (kind_released (has_room_near t0 from)) _ (kind_in t0 name)
        (kind_in-released t0 from is.ties.table said.0 apart name)) in
        unopened _ to laid casts refl (word_to P _ from (node.stamp + 1) false said.1) refl sent
    case_sends (IsForgottenBy {from = from} early) at said sent =
        let apart = not_own node (frame_to node from Forget) said.4 in
        let to = of_sender from said.0 said.1 (forgotten node.ties from).table (λ name.
        others_stay from name kind_forgotten _ (kind_in t0 name) (kind_in-forgotten t0 from is.ties.table said.0 apart name)) in
        unopened _ to laid casts refl no_words refl sent
    case_sends (CoveredBefore asked now) at said sent =
        let fits = request_to asked said in unopened _ (links_with fits) laid casts refl (pin_to fits) refl sent
    case_sends (CoversAlone asked now none) at said sent =
        let fits = request_to asked said in unopened _ (links_with fits) laid casts refl (pin_to fits) refl sent
    case_sends (CoversOn {request = request} asked now some) at said sent =
        let fits = request_to asked said in
        opening _ request.parent request.depth _ refl fits.parent (links_with fits) laid casts (pin_to fits) refl sent
    case_sends (MarksLeaver {from = from} {replacement = replacement}) at said sent =
        let apart = not_own node (frame_to node from (Leave replacement)) said.4 in
        let taken = takes_in from said.0 said.1 apart replacement said.2 said.3 (taken_in (marked node.ties from) from replacement) refl in
        unopened _ taken.links_then laid casts refl (taken.word node.stamp) refl sent
    case_sends (DropsLeaver {from = from}) at said sent =
        let apart = not_own node (frame_to node from Gone) said.4 in
        let to = of_sender from said.0 said.1 (removed node.ties from).table (λ name.
        others_stay from name kind_removed _ (kind_in t0 name) (kind_in-removed t0 from is.ties.table said.0 apart name)) in
        unopened _ to laid casts refl no_words refl sent
    case_sends (CastsOn {copy = copy} of now) at said sent =
        unopened _ links laid (parents_opened CastParent node.cast_sessions copy.parent copy.depth _ casts (cast_parent of said)) refl no_words refl sent
    case_sends (CountsCast {session = session} others) at said sent =
        unopened _ links laid (parents_answered CastParent node.cast_sessions session casts) refl no_words refl sent
    case_sends (ClosesCast {session = session} closed) at said sent =
        unopened _ links laid (parents_answered CastParent node.cast_sessions session casts) refl no_words refl sent
    case_sends (Publishes {object = object}) at said sent =
        unopened _ links (λ runs. published_to P node.pointers object (laid runs)) casts refl no_words refl sent
    case_sends (WithdrawsIt {object = object}) at said sent =
        unopened _ links (λ runs. withdrawn_to P node.pointers object (laid runs)) casts refl no_words refl sent
    case_sends (TakesPointer {from = from} {object = object} {server = server} {level = level} {version = version} {on = on} late) at said sent =
        let pair = pair_of object server in
        unopened _ links (λ runs. put_to P node.pointers pair (with_lay (state_of node.pointers pair) from version (pointer_at level on))
        (laid_in P node.pointers pair (laid runs)) (laid runs)) casts refl no_words refl sent
    case_sends (TellsHolders some) at said sent =
        unopened _ links (λ still. withdrawn_all (subst IsRunning (sym at) tt)) casts refl no_words refl sent
    case_sends (IsGoneNow StartsLeaving last) at said sent =
        let to = withdrawn_all (subst IsRunning (sym at) tt) in
        ending GoneStatus (λ runs. runs) _ (cleared_to P _ (all_withdrawn node.pointers) (are-all_withdrawn node.pointers is.pointers) to) _ sent _
    case_sends (IsGoneNow OneLeft last) at said sent =
        ending GoneStatus (λ runs. runs) _ (cleared_to P _ node.pointers is.pointers (laid (subst IsRunning (sym at) tt))) _ sent _
    case_sends _ at said sent = unopened _ links laid casts refl no_words refl sent

    rule_sends : (status : Status) → node.status ≡ status → (cause : Cause) → IsSaid cause → IfSome (rule_of status node cause) (SendsTo node)
    rule_sends status at cause said = each_case node _ (SendsTo node) status cause (named_goes said) (λ r case. case_sends case at said)

    pub frame_sends : (from : List ℕ) → IsName (settings_of node) from → P from → (status : Status) → node.status ≡ status → (body : Body)
        → IsBody (settings_of node) body → Names node body → is_strange node (frame_to node from body) ≡ false
        → IfSome (rule_of_frame status node from body) (SendsTo node)
    frame_sends from is_from sender status at body fields names known =
        rule_sends status at (Takes from body) (is_from, sender, fields, names, known)

    pub start_sends : Q (name_of node) → (status : Status) → node.status ≡ status → (start : Start) → StartNames node start
        → IfSome (rule_of_start status node start) (SendsTo node)
    start_sends own status at start names = rule_sends status at (Starts start) (own, names)
