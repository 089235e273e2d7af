-- A system in which lookups alone are under way, without its frames: the basis of the invariant holds of it.
use Rattle.std.proofs.Common.{◌≡◌, ℕ, Bool, List, [], Option, None, Some, arith, refl, sym, ◌∙◌, inl, inr}
use Rattle.tap_name.specs.Settings.{SettingsValue}
use Rattle.tap_link.specs.declared.kind.Kind.{Kind}
use Rattle.tap_wire.specs.declared.frame.Body.{Body}
use Rattle.tap_wire.specs.declared.frame.Body.TheVariants.{Answer, Find, Seek}
use Rattle.tap_rule.specs.Node.Status.{Leaving}
use Rattle.tap_safety.specs.Awaited.{AreAwaitedOnce}
use Rattle.tap_safety.specs.Bookkeeping.{EndedHaveNoLinks, HasCore, HaveEnds, HavePlaces, NodesHaveNames}
use Rattle.tap_safety.specs.Ceased.{Ceased, IsRegistered}
use Rattle.tap_safety.specs.Departing.{Departure, may_be_then}
use Rattle.tap_safety.specs.Invariant.{Basis}
use Rattle.tap_safety.specs.Joins.{AreOfJoiners, EndsOnce}
use Rattle.tap_safety.specs.Notices.{Notices}
use Rattle.tap_safety.specs.Remembered.{Leaver, Token}
use Rattle.tap_safety.specs.Seeking.{HasNode, IsSeeker, Seeking}
use Rattle.tap_safety.specs.Sessions.{AreExact, Awaits, session_named}
use Rattle.tap_safety.specs.Soft.{IsSoft, NamesSoft}
use Rattle.tap_safety.specs.Spelled.{AreAtMost, most_names}
use Rattle.tap_safety.specs.System.{System, AmongFrames, CoversAt, HasLink, IsCoreNode, IsJoiner, IsUnderWay}
use Rattle.tap_safety.specs.Ties.{LastIs, TiesAreTold, Versions, link_of, register_of, status_of}
use Rattle.tap_safety.proofs.LinkKeeps.{status_seen}
use Rattle.tap_pointer_moves.specs.NoServer.{AreLookups, IsLookup}

-- the system, with no frame under way
abbrev pub emptied : System → System
emptied s = record s { frames = [] }

-- such a frame is of no session, and none while a node departs
lookup_unnamed : (body : Body) (from to : List ℕ) → IsLookup body → ◌≡◌ {A = Option (List ℕ × ℕ)} (session_named body from to) None
lookup_unnamed (Find ticket object asker level) from to is = refl
lookup_unnamed (Answer ticket server) from to is = refl
lookup_unnamed _ from to is = absurd is

pub lookup_calm : (body : Body) → IsLookup body → may_be_then body → ⊥
lookup_calm (Find ticket object asker level) is may = may
lookup_calm (Answer ticket server) is may = may
lookup_calm _ is may = absurd is

-- ---- nodes stay

module _ (s : System) where
  abbrev e : System
  e = emptied s

  pub node_on : (x : List ℕ) → HasNode s x → HasNode (emptied s) x
  node_on x node = record { state = node.state; is = node.is }

  pub node_was : (x : List ℕ) → HasNode (emptied s) x → HasNode s x
  node_was x node = record { state = node.state; is = node.is }

  pub core_on : (x : List ℕ) → IsCoreNode s x → IsCoreNode (emptied s) x
  core_on x core = record { state = core.state; is = core.is; core = core.core }

  pub core_was : (x : List ℕ) → IsCoreNode (emptied s) x → IsCoreNode s x
  core_was x core = record { state = core.state; is = core.is; core = core.core }

  pub link_on : (x t : List ℕ) (kind : Kind) → HasLink s x t kind → HasLink (emptied s) x t kind
  link_on x t kind link = record { state = link.state; is = link.is; link = link.link }

  pub link_was : (x t : List ℕ) (kind : Kind) → HasLink (emptied s) x t kind → HasLink s x t kind
  link_was x t kind link = record { state = link.state; is = link.is; link = link.link }

  joiner_on : (x : List ℕ) → IsJoiner s x → IsJoiner (emptied s) x
  joiner_on x one =
      record { state = one.state; is = one.is; joining = one.joining; surrogate = one.surrogate; started = one.started }

  joiner_was : (x : List ℕ) → IsJoiner (emptied s) x → IsJoiner s x
  joiner_was x one =
      record { state = one.state; is = one.is; joining = one.joining; surrogate = one.surrogate; started = one.started }

  soft_on : (x : List ℕ) → IsSoft s x → IsSoft (emptied s) x
  soft_on x (inl joiner) = inl (joiner_on x joiner)
  soft_on x (inr (inl core)) = inr (inl (core_on x core))
  soft_on x (inr (inr one)) = inr (inr (record { state = one.state; is = one.is; ceased = one.ceased }))

  cover_was : (x b : List ℕ) (level : ℕ) → CoversAt (emptied s) x b level → CoversAt s x b level
  cover_was x b level covers = record { state = covers.state; is = covers.is; cover = covers.cover }

  awaits_was : (x : List ℕ) (k : ℕ) (token : Token) → Awaits (emptied s) x k token → Awaits s x k token
  awaits_was x k token awaits = record { session = awaits.session; is = awaits.is; among = awaits.among }

  registered_on : (x n : List ℕ) → IsRegistered s x n → IsRegistered (emptied s) x n
  unfolding register_of
  registered_on x n kept = record { word = kept.word; on = kept.on; is = kept.is }

-- ---- the parts of the basis

module _ (p : SettingsValue) (s : System) (basis : Basis p s) (lookups : AreLookups s) (calm : s.departing ≡ None) where
  -- no frame of another kind is under way
  never : (from to : List ℕ) (body : Body) → (IsLookup body → ⊥) → IsUnderWay s from to body → ⊥
  never from to body other way = other (lookups.each from to body way)

  never_at : (number : ℕ) (from to : List ℕ) (body : Body) → (IsLookup body → ⊥)
      → AmongFrames number (record { from = from; to = to; body = body }) s.frames → ⊥
  never_at number from to body other among = never from to body other (record { number = number; among = among })

  soft : NamesSoft (emptied s)
  soft = record {
    settled = λ x t link. core_on s t (basis.soft.settled x t (link_was s x t _ link));
    pins = λ x t link. soft_on s t (basis.soft.pins x t (link_was s x t _ link));
    hellos = λ w b hello way offered offers. absurd way.among;
    releases = λ t x way. absurd way.among;
    leaves = λ n x r way. absurd way.among;
  }

  no_seeker : (x : List ℕ) → IsSeeker (emptied s) x → ⊥
  no_seeker x seeker =
      let one = basis.seeking.seeks x
      (record { state = seeker.state; is = seeker.is; joining = seeker.joining; waits = seeker.waits }) in
      never_at one.number one.from one.to (Seek x) (λ is. is) one.among

  seeking : Seeking (emptied s)
  seeking = record {
    seeks = λ x seeker. absurd (no_seeker x seeker);
    unknown = λ x seeker. absurd (no_seeker x seeker);
    idle = λ x d level seeker covers. no_seeker x seeker;
    covers = λ y b level covers. node_on s b (basis.seeking.covers y b level (cover_was s y b level covers));
  }

  none_awaited : (x : List ℕ) (k number : ℕ) → Awaits (emptied s) x k (Token.Way number) → ⊥
  none_awaited x k number awaits =
      let has = basis.exact.ways x k number (awaits_was s x k (Token.Way number) awaits) in
      let frame = has.frame in
      let is = lookups.each frame.from frame.to frame.body (record { number = number; among = has.among }) in
      let wrong : ◌≡◌ {A = Option (List ℕ × ℕ)} None (Some (x, k)) =
      sym (lookup_unnamed frame.body frame.from frame.to is) ∙ has.belongs in
      cc

  exact : AreExact (emptied s)
  exact = record {
    frames = λ number f x k among belongs. absurd among;
    ways = λ x k number awaits. absurd (none_awaited x k number awaits);
    parents = λ y l child x k is parent.
        let has = basis.exact.parents y l child x k is parent in
        record { parent = has.parent; is = has.is; among = has.among; joiner = has.joiner; depth = has.depth };
    roots = basis.exact.roots;
    numbers = λ number f g one two. absurd one;
  }

  awaited : AreAwaitedOnce (emptied s)
  awaited = record {
    children = λ x y k l awaits.
        let child = basis.awaited.children x y k l (awaits_was s x k (Token.Child y l) awaits) in
        record { child = child.child; is = child.is; parent = child.parent };
    apart = basis.awaited.apart;
  }

  of_joiners : AreOfJoiners (emptied s)
  of_joiners = record {
    opened = λ x k session is. joiner_on s session.joiner (basis.of_joiners.opened x k session is);
    root = basis.of_joiners.root;
    frames = λ m f x k session b among belongs is about. absurd among;
    dones = λ w b way. absurd way.among;
  }

  ends_once : EndsOnce (emptied s)
  ends_once = record {
    ends = λ b joiner. elim (basis.ends_once.ends b (joiner_was s b joiner)) [
      | inl root ↦
          let has = root.0 in
          inl (
            record { at = has.at; number = has.number; session = has.session; is = has.is; joiner = has.joiner; top = has.top },
            record { none = λ w way. absurd way.among },
          )
      | inr ended ↦ absurd (never_at ended.1.number ended.1.from b _ (λ is. is) ended.1.among)
    ];
  }

  ceased : Ceased (emptied s)
  unfolding status_of
  ceased = record {
    joining = λ x n joins pin status. elim (basis.ceased.joining x n joins (link_was s x n _ pin) status) [
      | inl kept ↦ inl (registered_on s x n kept)
      | inr says ↦ absurd (never _ _ _ (λ is. is) says.way)
    ];
    ceased = λ x n joins pin status. elim (basis.ceased.ceased x n joins (link_was s x n _ pin) status) [
      | inl says ↦ absurd (never _ _ _ (λ is. is) says.way)
      | inr forget ↦ absurd (never _ _ _ (λ is. is) forget)
    ];
    forgets = λ n x way. absurd way.among;
  }

  last_on : (x t : List ℕ) (on : Bool) → LastIs s x t on → LastIs (emptied s) x t on
  unfolding register_of
  last_on x t on one = record {
    last = one.last;
    is = one.is;
    on_is = one.on_is;
    stands = elim one.stands [
      | inl way ↦ absurd (never _ _ _ (λ is. is) way)
      | inr kept ↦ inr kept
    ];
  }

  ties : TiesAreTold (emptied s)
  unfolding status_of link_of
  ties = record {
    linked = λ x t kind hears link. last_on x t _ (basis.ties.linked x t kind hears link);
    dropped = λ x t word hears none last. last_on x t _ (basis.ties.dropped x t word hears none last);
    pinned = λ x t core link. elim (basis.ties.pinned x t core link) [
      | inl said ↦ absurd (never _ _ _ (λ is. is) said.2)
      | inr released ↦ absurd (never _ _ _ (λ is. is) released)
    ];
  }

  nobody_departs : {A : Type 0} → (leaver : Leaver) → s.departing ≡ Some leaver → A
  nobody_departs leaver departs = let wrong : None ≡ Some leaver = sym calm ∙ departs in absurd (cc)

  departure : Departure (emptied s)
  unfolding status_of
  departure = record {
    during = λ leaver departs. nobody_departs leaver departs;
    marked = λ x t none link. basis.departure.marked x t none (link_was s x t _ link);
    leaving = basis.departure.leaving;
  }

  notices : Notices (emptied s)
  notices = record {
    none = λ x t body none way. absurd way.among;
    leaves = λ x a replacement way. absurd way.among;
    lefts = λ a x way. absurd way.among;
    one = λ x a awaits. absurd (basis.departure.leaving x calm (status_seen s x awaits.state Leaving awaits.is awaits.leaving));
    gones = λ x t way. absurd way.among;
    answered = λ leaver a departs. nobody_departs leaver departs;
    words = λ leaver x t version departs. nobody_departs leaver departs;
  }

  places : HavePlaces (emptied s)
  places = record {
    places = λ x k session is.
        let place = basis.places.places x k session is in
        record {
          state = place.state;
          is = place.is;
          holds = place.holds;
          opened = place.opened;
          other = place.other;
          above = place.above;
        };
  }

  ends : HaveEnds (emptied s)
  ends = record {
    apart = λ number f among. absurd among;
    known = λ number f among. absurd among;
    senders = λ x t word last. node_on s x (basis.ends.senders x t word last);
    receivers = λ x t word last. node_on s t (basis.ends.receivers x t word last);
    surrogates = λ b x started. node_on s b (basis.ends.surrogates b x started);
  }

  versions : Versions (emptied s)
  unfolding register_of
  versions = record {
    ways = λ x t word way. absurd way.among;
    registers = λ x t word kept.
        let newest = basis.versions.registers x t word kept in
        record { last = newest.last; is = newest.is; most = newest.most; same = newest.same };
    once = λ x t word kept last way. absurd way.among;
  }

  ended : EndedHaveNoLinks (emptied s)
  unfolding status_of
  ended = record { none = λ x t kind link. basis.ended.none x t kind (link_was s x t kind link) }

  has_core : HasCore (emptied s)
  has_core = record { name = basis.has_core.name; core = core_on s basis.has_core.name basis.has_core.core }

  names : NodesHaveNames p (emptied s)
  names = record { each = λ x node. basis.names.each x (node_was s x node) }

  few : AreAtMost (emptied s) most_names
  few = record { names = basis.few.names; few = basis.few.few; all = λ x node. basis.few.all x (node_was s x node) }

  pub emptied_basis : Basis p (emptied s)
  emptied_basis = record {
    soft = soft;
    seeking = seeking;
    exact = exact;
    awaited = awaited;
    of_joiners = of_joiners;
    tells = record { each = λ from to fields watch way. absurd way.among };
    counted = record { kept = basis.counted.kept; open_at = basis.counted.open_at };
    ceased = ceased;
    ties = ties;
    departure = departure;
    notices = notices;
    seekers = record { seeks = λ from to x way. absurd way.among };
    ends_once = ends_once;
    await = record { some = basis.await.some };
    deeper = record {
      depth = λ from to fields watch session way. absurd way.among;
      level = λ from to fields watch way. absurd way.among;
    };
    places = places;
    ends = ends;
    versions = versions;
    stamped = record {
      once = λ x t word m n one two. absurd one;
      stamp = basis.stamped.stamp;
    };
    ended = ended;
    has_core = has_core;
    numbered = record { numbers = omega arith };
    names = names;
    few = few;
    spelled = record { each = λ number f among. absurd among };
  }
