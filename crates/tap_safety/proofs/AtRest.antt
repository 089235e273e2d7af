-- The members of an overlay at rest have the invariant.
-- Cited above: at_rest_law
use Rattle.std.proofs.Common.{◌≡◌, ◌≢◌, inl, inr, ℕ, zero, suc, ◌*◌, ◌<◌, ◌≤◌, true, Bool, List, [], ◌∷◌, ◌⊎◌, Option, None, Some, All, map, filter, take, arith, refl, sym, ap, ◌∙◌}
use Rattle.std.specs.Ordering.{is_eq}
use Rattle.std.proofs.lemmas.Bool.{cases_Bool, cases_lt, true≢false}
use Rattle.std.proofs.lemmas.List.{get_or_past}
use Rattle.std.proofs.lemmas.List.FromFn.{length-map-range_with_len}
use Rattle.tap_name.specs.Name.{IsName}
use Rattle.tap_name.specs.Names.{Among, has_name}
use Rattle.tap_name.specs.Order.{AreAscending, sorted}
use Rattle.tap_name.specs.Prefix.{lcp}
use Rattle.tap_name.specs.Settings.{SettingsValue}
use Rattle.tap_name.specs.Slot.{slot_at}
use Rattle.tap_name.proofs.Membership.{has_name-Decides}
use Rattle.tap_name.proofs.Names.{All-among, among-filter, among-filter_from, among-take}
use Rattle.tap_name.proofs.Sorted.{among-sorted, sorted-ascending}
use Rattle.tap_link.specs.declared.kind.Kind.{Kind}
use Rattle.tap_link.specs.declared.kind.Kind.TheVariants.{Pin, Settled, Leaving as LeavingKind}
use Rattle.tap_link.specs.LinkSet.{kind_of}
use Rattle.tap_register.specs.declared.registers.Entry.{Entry}
use Rattle.tap_register.specs.Registers.{entry_of}
use Rattle.tap_session.specs.Session.{Session}
use Rattle.tap_table.specs.Members.{first_fitting, fitting, holds, is_slot, settled_links, table_at_rest}
use Rattle.tap_table.specs.Table.{kind_in, links_near, name_cmp, place_of, slot_number, slot_numbered}
use Rattle.tap_table.proofs.AtRest.{links_at_rest}
use Rattle.tap_table.proofs.Fitting.{no_slot_of_itself, slot_of_other}
use Rattle.tap_table.proofs.Held.{holds_exactly}
use Rattle.tap_table.proofs.Holding.{word_of as holder_word}
use Rattle.tap_table.proofs.Least.{is_slot-from, is_slot-to}
use Rattle.tap_table.proofs.Near.{tied_itself, tied_names}
use Rattle.tap_rule.specs.Node.{NodeState, Status, join_session_at, level_kept, link_to, member_at_rest}
use Rattle.tap_rule.specs.Node.Status.{Ceased as CeasedStatus, Core, Gone, Joining, Leaving}
use Rattle.tap_safety.specs.AtRest.{AreMembers, InvariantAtRest, system_at_rest, word_at_rest}
use Rattle.tap_safety.specs.Bookkeeping.{HasCore}
use Rattle.tap_safety.specs.Filled.{AreFilled}
use Rattle.tap_safety.specs.Invariant.{Basis}
use Rattle.tap_safety.specs.Parts.{HasNear}
use Rattle.tap_safety.specs.Remembered.{OpenSession, TieWord}
use Rattle.tap_safety.specs.Seeking.{IsSeeker}
use Rattle.tap_safety.specs.Sessions.{IsOpen}
use Rattle.tap_safety.specs.System.{System, CoversAt, HasLink, IsCoreNode, IsJoiner}
use Rattle.tap_safety.specs.Ties.{IsNoNewer, link_in, link_of, register_in, register_of, status_in, status_of, tie_word_kept}
use Rattle.tap_safety.proofs.Names.{lcp_itself, same_slot_near}
use Rattle.tap_safety.proofs.WordsKept.{at_link}

-- ---- lists of links and of words

-- the kind of a settled link, and its target
settled_kind : (targets : List (List ℕ)) (t : List ℕ) (kind : Kind) → kind_of name_cmp (settled_links targets) t ≡ Some kind
    → (kind ≡ Settled) × Among t targets
settled_kind [] t kind is = let no : None ≡ Some kind = is in cc
settled_kind (x ∷ xs) t kind is =
    elim (cases_Bool (is_eq (name_cmp t x))) [
      | inl tied ↦
          let found : Some Settled ≡ Some kind = rw tied at is in
          let same : kind ≡ Settled = cc in
          (same, inl (tied_names t x tied))
      | inr apart ↦ let rest = settled_kind xs t kind (rw apart at is) in (rest.0, inr rest.1)
    ]

-- the words of these names are found by them
word_found : (names : List (List ℕ)) (x : List ℕ) → Among x names → entry_of name_cmp (map holder_word names) x ≡ Some (holder_word x)
word_found [] x among = absurd among
word_found (y ∷ ys) x among =
    elim (cases_Bool (is_eq (name_cmp y x))) [
      | inl tied ↦ rw tied (ap (λ name. Some (holder_word name)) (tied_names y x tied))
      | inr apart ↦
          elim among [
            | inl is ↦ absurd (true≢false (sym (tied_itself y) ∙ (ap (λ name. is_eq (name_cmp y name)) (sym is) ∙ apart)))
            | inr later ↦ rw apart (word_found ys x later)
          ]
    ]

word_from : (names : List (List ℕ)) (x : List ℕ) (e : Entry (List ℕ) Bool) → entry_of name_cmp (map holder_word names) x ≡ Some e
    → Among x names × (e ≡ holder_word x)
word_from [] x e is = let no : None ≡ Some e = is in cc
word_from (y ∷ ys) x e is =
    elim (cases_Bool (is_eq (name_cmp y x))) [
      | inl tied ↦
          let same = tied_names y x tied in
          let found : Some (holder_word y) ≡ Some e = rw tied at is in
          let entry : e ≡ holder_word y = cc in
          (inl (sym same), entry ∙ ap holder_word same)
      | inr apart ↦ let rest = word_from ys x e (rw apart at is) in (inr rest.0, rest.1)
    ]

-- of names of which one is there, the first ones are some
first_there : (n : ℕ) (names : List (List ℕ)) (x : List ℕ) → 1 ≤ n → Among x names → (first : List ℕ) × Among first (take n names)
first_there zero names x some among = absurd (omega arith)
first_there (suc n) [] x some among = absurd among
first_there (suc n) (y ∷ ys) x some among = (y, inl refl)

module _ (p : SettingsValue) (members : List (List ℕ)) (are : AreMembers p members) where
  abbrev s : System
  s = system_at_rest p members

  abbrev names : List (List ℕ)
  names = sorted members

  name_of : (x : List ℕ) → Among x names → IsName p x
  name_of x among = are.names x ((among-sorted members x).1 among)

  each_name : All (IsName p) names
  each_name = All-among (IsName p) names name_of

  ascending : AreAscending names
  ascending = sorted-ascending members are.distinct

  -- ---- nodes

  node_at : (x : List ℕ) → Among x members → s.node x ≡ Some (member_at_rest p members x)
  node_at x among = let has : has_name members x ≡ true = (has_name-Decides members x).1 among in rw has refl

  node_is : (x : List ℕ) (state : NodeState) → s.node x ≡ Some state → Among x members × (state ≡ member_at_rest p members x)
  node_is x state is =
      elim (cases_Bool (has_name members x)) [
        | inl has ↦
            let now : Some (member_at_rest p members x) ≡ Some state = rw has at is in ((has_name-Decides members x).0 has, cc)
        | inr none ↦ let no : None ≡ Some state = rw none at is in cc
      ]

  -- what is so of the node of a name is so of a member
  by_node : {A : Type 0} (x : List ℕ) (look : Option NodeState → Option A) (value : A) → look None ≡ None
      → look (s.node x) ≡ Some value → Among x members × (look (Some (member_at_rest p members x)) ≡ Some value)
  by_node {A = A} x look value none is =
      elim (cases_Bool (has_name members x)) [
        | inl has ↦
            let among = (has_name-Decides members x).0 has in (among, sym (ap look (node_at x among)) ∙ is)
        | inr hasnt ↦
            let nobody : s.node x ≡ None = rw hasnt refl in
            let no : ◌≡◌ {A = Option A} None (Some value) = sym none ∙ (sym (ap look nobody) ∙ is) in
            cc
      ]

  status_is : (x : List ℕ) (status : Status) → status_of s x ≡ Some status → Among x members × (status ≡ Core)
  unfolding status_of
  status_is x status is = let member = by_node x status_in status refl is in let core : Some Core ≡ Some status = member.1 in (member.0, cc)

  core_at : (x : List ℕ) → Among x members → IsCoreNode s x
  core_at x among = record { state = member_at_rest p members x; is = node_at x among; core = inl refl }

  core_is : (x : List ℕ) → IsCoreNode s x → Among x names
  core_is x core = (among-sorted members x).0 (node_is x core.state core.is).0

  -- a node is core, and no other
  not_so : (x : List ℕ) (state : NodeState) (status : Status) → s.node x ≡ Some state → state.status ≡ status → status ≡ Core
  not_so x state status is has = let member = (node_is x state is).1 in sym has ∙ ap (λ node. node.status) member

  -- ---- links

  links_are : (x t : List ℕ) → ((targets : List (List ℕ)) × (links_near (table_at_rest p x names) t ≡ settled_links targets)
      × (targets ≡ first_fitting p x (slot_numbered p.base (slot_number p.base (place_of x t))) names))
      ⊎ (links_near (table_at_rest p x names) t ≡ [])
  links_are x t =
      let number = slot_number p.base (place_of x t) in
      elim (cases_lt number (p.base * p.digits)) [
        | inl inside ↦
            inl (first_fitting p x (slot_numbered p.base number) names, links_at_rest p x names number inside, refl)
        | inr past ↦
            let few = length-map-range_with_len (λ n. settled_links (first_fitting p x (slot_numbered p.base n) names)) 0
            (p.base * p.digits) in
            inr (get_or_past (table_at_rest p x names).slots number [] (omega arith))
      ]

  link_is : (x t : List ℕ) (kind : Kind) → kind_in (table_at_rest p x names) t ≡ Some kind → (kind ≡ Settled) × Among t names
  link_is x t kind is =
      elim (links_are x t) [
        | inr none ↦ let no : None ≡ Some kind = sym (ap (λ links. kind_of name_cmp links t) none) ∙ is in cc
        | inl some ↦
            let there : kind_of name_cmp (settled_links some.0) t ≡ Some kind =
            sym (ap (λ links. kind_of name_cmp links t) some.1) ∙ is in
            let found = settled_kind some.0 t kind there in
            let slot = slot_numbered p.base (slot_number p.base (place_of x t)) in
            let target : Among t (take p.width (fitting x slot names)) = rw some.2 at found.1 in
            let fits = among-take p.width (fitting x slot names) t target in
            (found.0, (among-filter (λ name. is_slot slot (slot_at x name)) names t fits).0)
      ]

  has_link : (x t : List ℕ) (kind : Kind) → HasLink s x t kind → (kind ≡ Settled) × Among t members
  has_link x t kind link =
      let member = node_is x link.state link.is in
      let there : kind_in (table_at_rest p x names) t ≡ Some kind = sym (ap (λ node. link_to node t) member.1) ∙ link.link in
      let found = link_is x t kind there in
      (found.0, (among-sorted members t).1 found.1)

  link_found : (x t : List ℕ) (kind : Kind) → link_of s x t ≡ Some kind
      → Among x members × (kind_in (table_at_rest p x names) t ≡ Some kind)
  unfolding link_of
  link_found x t kind is = by_node x (λ node. link_in node t) kind refl is

  -- ---- words

  abbrev word : TieWord
  word = record { version = 0; on = true }

  last_of : (x t : List ℕ) (kind : Kind) → link_of s x t ≡ Some kind → s.last x t ≡ Some word
  unfolding link_of
  last_of x t kind is = ap word_at_rest is

  last_none : (x t : List ℕ) (said : TieWord) → link_of s x t ≡ None → s.last x t ≡ Some said → ⊥
  unfolding link_of
  last_none x t said none is = let no : None ≡ Some said = sym (ap word_at_rest none) ∙ is in cc

  last_node : (x t : List ℕ) (said : TieWord) → s.last x t ≡ Some said → Among x members × (said ≡ word)
  last_node x t said is =
      let member = by_node x (λ node. word_at_rest (link_in node t)) said refl is in (member.0, says (link_in (Some (member_at_rest p members x)) t) member.1)
    where
      says : (kind : Option Kind) → word_at_rest kind ≡ Some said → said ≡ word
      says None is = let no : None ≡ Some said = is in cc
      says (Some kind) is = let same : Some word ≡ Some said = is in cc

  last_target : (x t : List ℕ) (said : TieWord) → s.last x t ≡ Some said → Among t members
  last_target x t said is = by (link_of s x t) refl
    where
      by : (kind : Option Kind) → link_of s x t ≡ kind → Among t members
      by None none = absurd (last_none x t said none is)
      by (Some kind) link = (has_link x t kind (at_link s x t kind link)).1

  -- a register has the word of each member that has a link
  registered : (x t : List ℕ) → Among x members → Among t members → kind_in (table_at_rest p x names) t ≡ Some Settled
      → register_of s t x ≡ Some word
  unfolding register_of
  registered x t among other link =
      let mine = (among-sorted members x).0 among in
      let theirs = (among-sorted members t).0 other in
      let held = (holds_exactly p names are.limits each_name ascending t x (name_of t theirs) (name_of x mine)).1 link in
      let there = among-filter_from (holds p t names) names x mine held in
      ap (λ node. register_in node x) (node_at t other) ∙ ap tie_word_kept (word_found (filter (holds p t names) names) x there)

  register_is : (x t : List ℕ) (said : TieWord) → register_of s t x ≡ Some said
      → (said ≡ word) × (kind_in (table_at_rest p x names) t ≡ Some Settled) × Among x members
  unfolding register_of
  register_is x t said is =
      let member = by_node t (λ node. register_in node x) said refl is in
      let theirs = (among-sorted members t).0 member.0 in
      from theirs (entry_of name_cmp (map holder_word (filter (holds p t names) names)) x) refl member.1
    where
      from : Among t names → (entry : Option (Entry (List ℕ) Bool))
          → entry_of name_cmp (map holder_word (filter (holds p t names) names)) x ≡ entry → tie_word_kept entry ≡ Some said
          → (said ≡ word) × (kind_in (table_at_rest p x names) t ≡ Some Settled) × Among x members
      from theirs None entry is = let no : None ≡ Some said = is in cc
      from theirs (Some e) entry is =
          let found = word_from (filter (holds p t names) names) x e entry in
          let holder = among-filter (holds p t names) names x found.0 in
          let link = (holds_exactly p names are.limits each_name ascending t x (name_of t theirs) (name_of x holder.0)).0 holder.1 in
          let kept : Some word ≡ Some said = ap (λ entry. tie_word_kept (Some entry)) (sym found.1) ∙ is in
          (cc, link, (among-sorted members x).1 holder.0)

  -- ---- no slot of a member is empty that another fits

  near : (x e : List ℕ) → IsCoreNode s x → IsCoreNode s e → lcp x e < p.digits → HasNear s x e
  near x e core other apart =
      let mine = core_is x core in
      let theirs = core_is e other in
      let one = name_of x mine in
      let two = name_of e theirs in
      let differ : e ≢ x = λ same. let whole = lcp_itself p x one in let less : lcp x x < p.digits = rw same at apart in omega arith in
      let slot = place_of x e in
      let test : List ℕ → Bool = λ name. is_slot slot (slot_at x name) in
      let fits = is_slot-from slot (slot_at x e) (slot_of_other p x e one two differ) in
      let width = are.limits.width_from in
      let first = first_there p.width (fitting x slot names) e width (among-filter_from test names e theirs fits) in
      let found = among-filter test names first.0 (among-take p.width (fitting x slot names) first.0 first.1) in
      let place = is_slot-to slot (slot_at x first.0) found.1 in
      let name = name_of first.0 found.0 in
      let away : first.0 ≢ x = λ same.
      let wrong : None ≡ Some slot = sym (no_slot_of_itself x) ∙ ap (slot_at x) (sym same) ∙ place in cc in
      let both : Some (place_of x first.0) ≡ Some slot = sym (slot_of_other p x first.0 one name away) ∙ place in
      let same_slot : place_of x first.0 ≡ slot = cc in
      let held : holds p first.0 names x ≡ true =
      (has_name-Decides (first_fitting p x (place_of x first.0) names) first.0).1 (rw same_slot first.1) in
      let link = (holds_exactly p names are.limits each_name ascending first.0 x name one).0 held in
      let member = (among-sorted members x).1 mine in
      record {
        to = first.0;
        core = core_at first.0 ((among-sorted members first.0).1 found.0);
        near = same_slot_near p x e first.0 two name apart same_slot;
        kind = Settled;
        link = record { state = member_at_rest p members x; is = node_at x member; link = link };
      }

  -- ---- what there is none of

  no_joiner : (x : List ℕ) → IsJoiner s x → ⊥
  no_joiner x joiner = let no : None ≡ Some joiner.surrogate = joiner.started in cc

  no_seeker : (x : List ℕ) → IsSeeker s x → ⊥
  no_seeker x seeker = let no : Joining ≡ Core = not_so x seeker.state Joining seeker.is seeker.joining in cc

  no_session : (x : List ℕ) (k : ℕ) (o : OpenSession) → IsOpen s x k o → ⊥
  no_session x k o is = let no : None ≡ Some o = is in cc

  no_cover : (x b : List ℕ) (level : ℕ) → CoversAt s x b level → ⊥
  no_cover x b level covers =
      let member = (node_is x covers.state covers.is).1 in
      let no : None ≡ Some level = sym (ap (λ node. level_kept node.covers b) member) ∙ covers.cover in
      cc

  kept_none : (x : List ℕ) (k : ℕ) (state : NodeState) (kept : Session) → s.node x ≡ Some state → join_session_at state k ≡ Some kept → ⊥
  kept_none x k state kept is session =
      let member = (node_is x state is).1 in
      let no : None ≡ Some kept = sym (ap (λ node. join_session_at node k) member) ∙ session in
      cc

  no_kind : (x t : List ℕ) (kind : Kind) → HasLink s x t kind → kind ≡ Settled
  no_kind x t kind link = (has_link x t kind link).0

  -- ---- the parts

  filled : AreFilled p s
  filled = record {
    covered = record {
      each = λ w b level core joiner covers. absurd (no_joiner b joiner);
      surrogate = λ b joiner. absurd (no_joiner b joiner);
      joiners = λ x b level joiner covers. no_joiner x joiner;
    };
    meet = record {
      first = λ w b e pair inside. absurd (no_joiner b pair.joiner);
      second = λ w b e pair inside. absurd (no_joiner b pair.joiner);
    };
    cover = record { served = λ w b e level claim. absurd (no_joiner b claim.joiner) };
    low = record { given = λ a b joiner core less. absurd (no_joiner a joiner) };
    hole_free = record { filled = near };
  }

  no_newer : (x t : List ℕ) (said : TieWord) → register_of s t x ≡ Some said → IsNoNewer s x t said
  unfolding link_of
  no_newer x t said is =
      let found = register_is x t said is in
      let link : link_of s x t ≡ Some Settled = ap (λ node. link_in node t) (node_at x found.2) ∙ found.1 in
      rw found.0 (record { last = word; is = last_of x t Settled link; most = omega arith; same = λ same. refl })

  some_core : (all : List (List ℕ)) → members ≡ all → HasCore s
  some_core [] none = absurd (are.some none)
  some_core (x ∷ xs) is = record { name = x; core = core_at x (rw is (inl refl)) }

  basis : Basis p s
  basis = record {
    soft = record {
      settled = λ x t link. core_at t (has_link x t Settled link).1;
      pins = λ x t link. let no : Pin ≡ Settled = no_kind x t Pin link in cc;
      hellos = λ w b hello way. absurd way.among;
      releases = λ t x way. absurd way.among;
      leaves = λ n x r way. absurd way.among;
    };
    seeking = record {
      seeks = λ x seeker. absurd (no_seeker x seeker);
      unknown = λ x seeker. absurd (no_seeker x seeker);
      idle = λ x d level seeker covers. no_seeker x seeker;
      covers = λ y b level covers. absurd (no_cover y b level covers);
    };
    exact = record {
      frames = λ m f x k among. absurd among;
      ways = λ x k m awaits. absurd (no_session x k awaits.session awaits.is);
      parents = λ y l child x k is. absurd (no_session y l child is);
      roots = λ x y k l one two is. absurd (no_session x k one is);
      numbers = λ m f g among. absurd among;
    };
    awaited = record {
      children = λ x y k l awaits. absurd (no_session x k awaits.session awaits.is);
      apart = λ x k o is. absurd (no_session x k o is);
    };
    of_joiners = record {
      opened = λ x k o is. absurd (no_session x k o is);
      root = λ x k o is. absurd (no_session x k o is);
      frames = λ m f x k o b among. absurd among;
      dones = λ w b way. absurd way.among;
    };
    tells = record { each = λ from to fields watch way. absurd way.among };
    counted = record {
      kept = λ x k o state is. absurd (no_session x k o is);
      open_at = λ x k state kept is session. absurd (kept_none x k state kept is session);
    };
    ceased = record {
      joining = λ x n core pins status. let no : Joining ≡ Core = (status_is n Joining status).1 in cc;
      ceased = λ x n core pins status. let no : CeasedStatus ≡ Core = (status_is n CeasedStatus status).1 in cc;
      forgets = λ n x way. absurd way.among;
    };
    ties = record {
      linked = λ x t kind hears link.
          let found = link_found x t kind link in
          let is = link_is x t kind found.1 in
          record {
            last = word;
            is = last_of x t kind link;
            on_is = refl;
            stands = inr (registered x t found.0 ((among-sorted members t).1 is.1) (rw is.0 at found.1));
          };
      dropped = λ x t said hears none last. absurd (last_none x t said none last);
      pinned = λ x t core pin.
          let found = link_found x t Pin pin in let no : Pin ≡ Settled = (link_is x t Pin found.1).0 in cc;
    };
    departure = record {
      during = λ leaver departs. let no : None ≡ Some leaver = departs in cc;
      marked = λ x t none link. let no : LeavingKind ≡ Settled = no_kind x t LeavingKind link in cc;
      leaving = λ x none status. let no : Leaving ≡ Core = (status_is x Leaving status).1 in cc;
    };
    notices = record {
      none = λ x t body none way. absurd way.among;
      leaves = λ x a r way. absurd way.among;
      lefts = λ a x way. absurd way.among;
      one = λ x a awaits. let no : Leaving ≡ Core = not_so x awaits.state Leaving awaits.is awaits.leaving in cc;
      gones = λ x t way. absurd way.among;
      answered = λ leaver a departs. let no : None ≡ Some leaver = departs in cc;
      words = λ leaver x t version departs. let no : None ≡ Some leaver = departs in cc;
    };
    seekers = record { seeks = λ from to x way. absurd way.among };
    ends_once = record { ends = λ b joiner. absurd (no_joiner b joiner) };
    await = record { some = λ x k o is none. no_session x k o is };
    deeper = record {
      depth = λ from to fields watch o way. absurd way.among;
      level = λ from to fields watch way. absurd way.among;
    };
    places = record { places = λ x k o is. absurd (no_session x k o is) };
    ends = record {
      apart = λ m f among. absurd among;
      known = λ m f among. absurd among;
      senders = λ x t said is.
          let member = last_node x t said is in record { state = member_at_rest p members x; is = node_at x member.0 };
      receivers = λ x t said is. record { state = member_at_rest p members t; is = node_at t (last_target x t said is) };
      surrogates = λ b x is. let no : None ≡ Some x = is in cc;
    };
    versions = record {
      ways = λ x t said way. absurd way.among;
      registers = λ x t said is. no_newer x t said is;
      once = λ x t said kept last way. absurd way.among;
    };
    stamped = record {
      once = λ x t said m k among. absurd among;
      stamp = λ x t said state is table last.
          let zero_is : said.version ≡ 0 = ap (λ w. w.version) (last_node x t said last).1 in omega arith;
    };
    ended = record {
      none = λ x t kind link. (
        λ gone. let no : Gone ≡ Core = (status_is x Gone gone).1 in cc,
        λ ceased. let no : CeasedStatus ≡ Core = (status_is x CeasedStatus ceased).1 in cc,
      );
    };
    has_core = some_core members refl;
    numbered = record { numbers = omega arith };
    names = record { each = λ x node. are.names x (node_is x node.state node.is).0 };
    few = record { names = members; few = are.few; all = λ x node. (node_is x node.state node.is).0 };
    spelled = record { each = λ m f among. absurd among };
  }

pub at_rest_law : InvariantAtRest
at_rest_law p members are = record { basis = basis p members are; filled = filled p members are }
