-- At rest pointers stand exactly on their paths.
-- Cited above: pointers_on_paths
use Rattle.std.proofs.Common.{◌≡◌, ◌⊎◌, ℕ, zero, suc, ◌<◌, ◌≤◌, true, false, All, List, [], ◌∷◌, drop, length, map, slice_index_or, IsSomeAnd, Option, None, Some, refl, ap, sym, subst, ◌∙◌, arith, inl, inr}
use Rattle.std.specs.Option.{unwrap_or}
use Rattle.std.proofs.lemmas.Option.{slice_get-get_or}
use Rattle.tap_name.specs.Name.{IsName}
use Rattle.tap_name.specs.Names.{Among}
use Rattle.tap_name.specs.Order.{name_cmp}
use Rattle.tap_name.specs.Settings.{SettingsValue}
use Rattle.tap_register.specs.Registers.{entry_of}
use Rattle.tap_register.specs.declared.registers.Entry.{Entry}
use Rattle.tap_link.specs.Entry as links
use Rattle.tap_link.specs.declared.kind.Kind.{Kind}
use Rattle.tap_link.specs.declared.kind.Kind.TheVariants.{Leaving as LeavingKind, Pin, Settled}
use Rattle.tap_table.specs.Next.{next_from}
use Rattle.tap_table.specs.Table.{TableValue, kind_in}
use Rattle.tap_table.specs.declared.next.Next.TheVariants.{Hop as HopTo}
use Rattle.tap_table.proofs.Found.{kind_of_target}
use Rattle.tap_pointer.specs.declared.hop.Hop.{Hop}
use Rattle.tap_pointer.specs.declared.pair.Pair.{Pair}
use Rattle.tap_pointer.specs.declared.state.PairState.{PairState}
use Rattle.tap_pointer.specs.declared.state.Pointer.{Pointer}
use Rattle.tap_pointer.specs.Due.{laid_at, wanted_at}
use Rattle.tap_pointer.specs.Pointers.{IsPairState, is_held, level_held, nothing_known, state_among, state_of}
use Rattle.tap_pointer.specs.Reconcile.{hop_from, hop_of}
use Rattle.tap_pointer.proofs.Known.{All-found}
use Rattle.tap_surrogate.specs.Entered.{AreEntered, Entered, IsChain, next_of, walk_entered}
use Rattle.tap_surrogate.specs.Nodes.{HasSettledCoreLinks, IsSettledTable, core_links}
use Rattle.tap_surrogate.proofs.Chains.{chain_law_holds}
use Rattle.tap_surrogate.proofs.Entering.{entered_begins, entered_law_holds}
use Rattle.tap_runs.specs.Observed.{nodes_of}
use Rattle.tap_rule.specs.Node.{IsRunning, NodeState, Status, settings_of}
use Rattle.tap_rule.specs.Node.Status.{Ceased, Core, Gone, Joining, Leaving}
use Rattle.tap_rule.specs.Sent.{IsAmong}
use Rattle.tap_safety.specs.Rest.{Rest}
use Rattle.tap_safety.specs.System.{System, IsCoreNode}
use Rattle.tap_safety.specs.Ties.{hears_words, status_in, status_of}
use Rattle.tap_moves.proofs.Got.{among_all, same_name}
use Rattle.tap_moves.proofs.InvariantMoves.{core_name}
use Rattle.tap_safety_moves.specs.Sound.{Sound}
use Rattle.tap_safety_moves.proofs.Consequences.{nothing_is_left}
use Rattle.tap_safety_moves.proofs.Walks.{core_listed, core_read, read_core, tables_hole_free, walks_lead}
use Rattle.tap_pointer_moves.specs.Paths.{IsPublished, PointersOnPaths, path_of}
use Rattle.tap_pointer_moves.specs.Said.{IsLaySaid, LayWord, laid_in, laid_of, lay_word_kept, pointer_register_of, word_in_entry, word_kept_in}
use Rattle.tap_pointer_moves.specs.LaysTold.{HasNoPointers, PointersStand, hop_at}
use Rattle.tap_pointer_moves.proofs.Chains.{IsWithin, chain_all, chain_next, entered_once, entry_at, in_turn}
use Rattle.tap_pointer_moves.proofs.Levels.{IsHeldBy, held_at, held_below, held_if_level, level_if_held}
use Rattle.tap_pointer_moves.proofs.ActsKeep.{runs_hears}
use Rattle.tap_pointer_moves.proofs.Wanted.{has_laid, laid_as_wanted, laid_at_core, level_known}

-- an entry of a register, by the word that it keeps
record KeepsWord (found : Option (Entry (List ℕ) Pointer)) (word : LayWord) : Type 0 where
  entry : Entry (List ℕ) Pointer
  is : found ≡ Some entry
  on : entry.value.on ≡ word.on
  level : entry.value.level ≡ word.level

keeps_word : (found : Option (Entry (List ℕ) Pointer)) (word : LayWord) → word_in_entry found ≡ Some word → KeepsWord found word
keeps_word None word is = let wrong : ◌≡◌ {A = Option LayWord} None (Some word) = is in absurd (cc)
keeps_word (Some e) word is =
    let same : record { version = e.version; level = e.value.level; on = e.value.on } ≡ word = cc in
    record { entry = e; is = refl; on = ap (λ (w : LayWord). w.on) same; level = ap (λ (w : LayWord). w.level) same }

-- whether a pair is laid at a node
laid_there : (laid : Option Hop) (t : List ℕ)
    → ((level : ℕ) × (laid ≡ Some (hop_at t level))) ⊎ ((level : ℕ) → laid ≡ Some (hop_at t level) → ⊥)
laid_there None t = inr (λ level is. let wrong : ◌≡◌ {A = Option Hop} None (Some (hop_at t level)) = is in cc)
laid_there (Some hop) t =
    elim (same_name hop.to t) [
      | inl same ↦ inl (hop.level, ap (λ n. Some (hop_at n hop.level)) same)
      | inr apart ↦
          inr (λ level is.
          let same : hop ≡ hop_at t level = cc in
          apart (ap (λ (h : Hop). h.to) same))
    ]

-- a node of which something is held isn't one that knows nothing
pub held_status : (status : Status) → (HasNoPointers status → ⊥) → (status ≡ Core) ⊎ (status ≡ Leaving)
held_status Joining some = absurd (some tt)
held_status Core some = inl refl
held_status Leaving some = inr refl
held_status Gone some = absurd (some tt)
held_status Ceased some = absurd (some tt)

module _ (p : SettingsValue) (s : System) (sound : Sound p s) (stand : PointersStand s) (rest : s.frames ≡ []) where
  left : Rest s
  left = nothing_is_left p s sound rest

  -- ---- the nodes that hold pairs

  status_at : (x : List ℕ) (node : NodeState) → s.node x ≡ Some node → status_of s x ≡ Some node.status
  unfolding status_of
  status_at x node at = ap status_in at

  -- who holds a pair is core
  holder_core : (x : List ℕ) (node : NodeState) (pair : Pair) → s.node x ≡ Some node → is_held (state_of node.pointers pair) ≡ true
      → node.status ≡ Core
  holder_core x node pair at held =
      elim (held_status node.status (λ none.
      let pairs = stand.nothing.nothing x node at none in
      let wrong : false ≡ true = sym (ap (λ ps. is_held (state_among ps pair)) pairs) ∙ held in
      cc)) [
        | inl core ↦ core
        | inr leaving ↦ absurd (left.leaving x (status_at x node at ∙ ap Some leaving))
      ]

  core_runs : (node : NodeState) → node.status ≡ Core → IsRunning node.status
  core_runs node core = subst IsRunning (sym core) tt

  core_hears : (x : List ℕ) (node : NodeState) → s.node x ≡ Some node → node.status ≡ Core → hears_words (status_of s x)
  core_hears x node at core =
      subst hears_words (sym (status_at x node at)) (runs_hears node.status (core_runs node core))

  pub core_at_rest : (x : List ℕ) → (core : IsCoreNode s x) → core.state.status ≡ Core
  core_at_rest x core =
      elim core.core [
        | inl is ↦ is
        | inr leaving ↦ absurd (left.leaving x (status_at x core.state core.is ∙ ap Some leaving))
      ]

  pub table_at : (x : List ℕ) (node : NodeState) → s.node x ≡ Some node → node.status ≡ Core → (nodes_of s).table_of x ≡ Some node.ties.table
  table_at x node at core = rw (at, core) refl

  -- ---- tables at rest

  settled : (x : List ℕ) (node : NodeState) → s.node x ≡ Some node → (to : List ℕ) (kind : Kind) → kind_in node.ties.table to ≡ Some kind
      → kind ≡ Settled
  settled x node at to Pin is = absurd (left.pins x to (record { state = node; is = at; link = is }))
  settled x node at to Settled is = refl
  settled x node at to LeavingKind is = absurd (left.marked x to (record { state = node; is = at; link = is }))

  links_settled : (x : List ℕ) (node : NodeState) → s.node x ≡ Some node → HasSettledCoreLinks (nodes_of s) node.ties.table
  links_settled x node at =
      let of = sound.nodes.nodes x node at in
      let t = node.ties.table in
      let kind_is = λ (number k : ℕ) (d : links.LinkEntry (List ℕ)) (inside : k < length (slice_index_or t.slots number [])).
      kind_of_target t of.is_node.ties.table number (slice_index_or (slice_index_or t.slots number []) k d) k
      (slice_get-get_or (slice_index_or t.slots number []) k d inside) in
      record {
        settled = λ number k d inside. settled x node at _ _ (kind_is number k d inside);
        core = λ number k d inside.
            let e : links.LinkEntry (List ℕ) = slice_index_or (slice_index_or t.slots number []) k d in
            let same = settled x node at e.target e.kind (kind_is number k d inside) in
            let link : kind_in t e.target ≡ Some Settled = kind_is number k d inside ∙ ap Some same in
            read_core s e.target (sound.invariant.basis.soft.settled x e.target (record { state = node; is = at; link = link }));
      }

  pub tables_settled : (x : List ℕ) → (nodes_of s).core x ≡ true
      → IsSomeAnd ((nodes_of s).table_of x) (IsSettledTable p (nodes_of s) x)
  tables_settled x is =
      let core = core_read s x is in
      let at = core.is in
      let of = sound.nodes.nodes x core.state at in
      let table = table_at x core.state at (core_at_rest x core) in
      subst (λ found. IsSomeAnd found (IsSettledTable p (nodes_of s) x)) (sym table) (record {
        of_owner = record { owner_is = of.name; settings_are = of.settings };
        valid = of.is_node.ties.table;
        links = links_settled x core.state at;
      })

  -- ---- what is said at rest is kept

  module _ (pair : Pair) where
    kept_of : (h x : List ℕ) (node : NodeState) (word : LayWord) → s.node x ≡ Some node → IsLaySaid s h x pair word
        → lay_word_kept node.pointers pair h ≡ Some word
    unfolding pointer_register_of
    kept_of h x node word at (inl way) = let there = way.among in absurd (rw rest at there)
    kept_of h x node word at (inr kept) = sym (ap (λ n. word_kept_in n pair h) at) ∙ kept

    said_of : (h x : List ℕ) (node : NodeState) (word : LayWord) → s.node x ≡ Some node → lay_word_kept node.pointers pair h ≡ Some word
        → IsLaySaid s h x pair word
    unfolding pointer_register_of
    said_of h x node word at kept = inr (ap (λ n. word_kept_in n pair h) at ∙ kept)

    -- where a pair is laid it is held, at no higher level
    laid_is_held : (h x : List ℕ) (level : ℕ) (node : NodeState) → s.node x ≡ Some node → node.status ≡ Core
        → laid_of s h pair ≡ Some (hop_at x level)
        → (least : ℕ) × (level_held (state_of node.pointers pair) ≡ Some least) × (least ≤ level)
    laid_is_held h x level node at core laid =
        let told = stand.told.laid h x pair level (core_hears x node at core) laid in
        let kept = keeps_word (entry_of name_cmp (state_of node.pointers pair).registers h) told.word
        (kept_of h x node told.word at told.last.said) in
        let held = held_below (state_of node.pointers pair) h kept.entry (stand.registers.ascending x node pair at) kept.is
        (kept.on ∙ told.on) in
        let same : kept.entry.value.level ≡ level = kept.level ∙ told.level_is in
        let less = held.2 in
        (held.0, held.1, omega (arith, less, same))

    -- where a register is on, its sender has laid the pair
    held_is_laid : (x : List ℕ) (node : NodeState) → s.node x ≡ Some node → node.status ≡ Core → (entry : Entry (List ℕ) Pointer)
        → entry_of name_cmp (state_of node.pointers pair).registers entry.key ≡ Some entry → entry.value.on ≡ true
        → laid_of s entry.key pair ≡ Some (hop_at x entry.value.level)
    held_is_laid x node at core entry found on = by_laid (laid_there (laid_of s entry.key pair) x)
      where
        kept : lay_word_kept node.pointers pair entry.key ≡ Some (record { version = entry.version; level = entry.value.level; on = entry.value.on })
        kept = ap word_in_entry found

        by_laid : ((level : ℕ) × (laid_of s entry.key pair ≡ Some (hop_at x level)))
            ⊎ ((level : ℕ) → laid_of s entry.key pair ≡ Some (hop_at x level) → ⊥)
            → laid_of s entry.key pair ≡ Some (hop_at x entry.value.level)
        by_laid (inl (level, laid)) =
            let told = stand.told.laid entry.key x pair level (core_hears x node at core) laid in
            let same : Some (record { version = entry.version; level = entry.value.level; on = entry.value.on }) ≡ Some told.word =
            sym kept ∙ kept_of entry.key x node told.word at told.last.said in
            let one : record { version = entry.version; level = entry.value.level; on = entry.value.on } ≡ told.word = cc in
            let levels : level ≡ entry.value.level = sym told.level_is ∙ sym (ap (λ (w : LayWord). w.level) one) in
            laid ∙ ap (λ l. Some (hop_at x l)) levels
        by_laid (inr none) =
            absurd (elim (stand.told.off entry.key x pair (core_hears x node at core) none) [
              | inl untold ↦
                  untold (record { version = entry.version; level = entry.value.level; on = entry.value.on })
                  (said_of entry.key x node (record { version = entry.version; level = entry.value.level; on = entry.value.on }) at kept)
              | inr told ↦
                  let same : Some (record { version = entry.version; level = entry.value.level; on = entry.value.on }) ≡ Some told.word =
                  sym kept ∙ kept_of entry.key x node told.word at told.last.said in
                  let one : record { version = entry.version; level = entry.value.level; on = entry.value.on } ≡ told.word = cc in
                  let wrong : true ≡ false = sym on ∙ ap (λ (w : LayWord). w.on) one ∙ told.off in
                  cc
            ])

    -- ---- the path of a pair that is published

    abbrev entered : List Entered
    entered = walk_entered p.base (core_links (nodes_of s)) pair.server pair.object

    -- what is known of the path
    record IsPath : Type 0 where
      chain : IsChain (next_of (nodes_of s) pair.object) entered
      turn : AreEntered p (path_of p s pair) entered
      within : (e : Entered) → IsAmong e entered → IsWithin p.digits e
      after : List Entered
      begins : entered ≡ entry_at pair.server 0 ∷ after

    -- a pair of which something is held is one of a name
    held_name : (x : List ℕ) (node : NodeState) → s.node x ≡ Some node → (level : ℕ) → level_held (state_of node.pointers pair) ≡ Some level
        → IsName p pair.object × ((state_of node.pointers pair).published ≡ true → pair.server ≡ x)
    held_name x node at level held =
        let of = sound.nodes.nodes x node at in
        let there = level_known node.pointers pair level held in
        let name = All-found (λ e. IsName (settings_of node) e.0.object) pair there.0 node.pointers.pairs of.is_node.objects there.1 in
        let known = All-found (IsPairState node.pointers.owner) pair there.0 node.pointers.pairs of.is_node.pointers.known there.1 in
        let found : state_of node.pointers pair ≡ there.0 = ap (λ found. unwrap_or found nothing_known) there.1 in (
          subst (λ q. IsName q pair.object) of.settings name,
          λ published. known.own (sym (ap (λ (st : PairState). st.published) found) ∙ published) ∙ of.is_node.owner ∙ of.name,
        )

    among_path : (e : Entered) (es : List Entered) → IsAmong e es → Among e.node (map (λ (f : Entered). f.node) es)
    among_path e [] among = absurd among
    among_path e (f ∷ es) (inl same) = inl (ap (λ (g : Entered). g.node) same)
    among_path e (f ∷ es) (inr later) = inr (among_path e es later)

    path_among : (x : List ℕ) (es : List Entered) → Among x (map (λ (f : Entered). f.node) es)
        → (e : Entered) × IsAmong e es × (x ≡ e.node)
    path_among x [] among = absurd among
    path_among x (f ∷ es) (inl same) = (f, inl refl, same)
    path_among x (f ∷ es) (inr later) = let rest = path_among x es later in (rest.0, inr rest.1, rest.2)

    level_of : (es : List Entered) → All (λ (e : Entered). e.level ≤ p.digits) es → (e : Entered) → IsAmong e es → e.level ≤ p.digits
    level_of es all e among = among_all (λ (e : Entered). e.level ≤ p.digits) es all e among

    published_path : IsPublished s pair → IsPath
    published_path published =
        let held : level_held (state_of published.state.pointers pair) ≡ Some 0 = let is = published.published in rw is refl in
        let name = (held_name pair.server published.state published.is 0 held).0 in
        let core = holder_core pair.server published.state pair published.is (held_if_level (state_of published.state.pointers pair) 0 held) in
        let is_core : IsCoreNode s pair.server = record { state = published.state; is = published.is; core = inl core } in
        let names = core_listed p s sound in
        let free = tables_hole_free p s names.0 sound names.1 in
        let server_among = (names.1 pair.server).1 is_core in
        let turn = entered_law_holds p names.0 (core_links (nodes_of s)) free pair.server pair.object server_among name in
        let leads = walks_lead p s names.0 pair.server pair.object sound names.1 server_among name in
        let start = entered_begins p.base (core_links (nodes_of s)) (entry_at pair.server 0) 0 (drop 0 pair.object) in
        record {
          chain = chain_law_holds p (nodes_of s) tables_settled pair.server pair.object (read_core s pair.server is_core) name;
          turn = turn;
          within = λ e among.
              let on_path : Among e.node (path_of p s pair) = subst (Among e.node) turn.nodes (among_path e entered among) in
              let node_core = (names.1 e.node).0 (leads.over_core e.node on_path) in
              record {
                named = (core_name p s sound.nodes e.node node_core).len;
                level = level_of entered turn.levels e among;
              };
          after = start.0;
          begins = start.1;
        }

    -- ---- whoever holds the pair is on its path, where the walk enters it at the level at which it holds it

    abbrev Reached : List ℕ → ℕ → Type 0
    Reached x level = IsPublished s pair × IsAmong (entry_at x level) entered

    pub reached : (most level : ℕ) → level < most → (x : List ℕ) (node : NodeState) → s.node x ≡ Some node
        → level_held (state_of node.pointers pair) ≡ Some level → Reached x level
    reached zero level below x node at held = absurd (omega (arith, below))
    reached (suc most) level below x node at held =
        by_holder (λ level less h node at held. reached most level less h node at held)
        (held_at (state_of node.pointers pair) level (stand.registers.ascending x node pair at) held)
      where
        core : node.status ≡ Core
        core = holder_core x node pair at (held_if_level (state_of node.pointers pair) level held)

        by_holder : ((level : ℕ) → level < most → (h : List ℕ) (node : NodeState) → s.node h ≡ Some node
            → level_held (state_of node.pointers pair) ≡ Some level → Reached h level)
            → (((state_of node.pointers pair).published ≡ true) × (level ≡ 0)) ⊎ IsHeldBy (state_of node.pointers pair) level
            → Reached x level
        by_holder before (inl (published, zero_is)) =
            let here : pair.server ≡ x = (held_name x node at level held).1 published in
            let is : IsPublished s pair = record { state = node; is = ap s.node here ∙ at; published = published } in
            let path = published_path is in
            let first : IsAmong (entry_at pair.server 0) entered = subst (IsAmong (entry_at pair.server 0)) (sym path.begins) (inl refl) in (
              is,
              subst (λ l. IsAmong (entry_at x l) entered) (sym zero_is) (subst (λ y. IsAmong (entry_at y 0) entered) here first),
            )
        by_holder before (inr by) =
            let laid : laid_of s by.entry.key pair ≡ Some (hop_at x level) =
            held_is_laid x node at core by.entry by.found by.on ∙ ap (λ l. Some (hop_at x l)) by.level_is in
            let has = has_laid p s sound stand.nothing by.entry.key pair (hop_at x level) laid in
            let above = has.wanted.hops.above in
            let earlier = before has.wanted.level (omega (arith, above, below)) by.entry.key has.node has.at has.wanted.held in
            let path = published_path earlier.0 in
            let sender_core = holder_core by.entry.key has.node pair has.at
            (held_if_level (state_of has.node.pointers pair) has.wanted.level has.wanted.held) in
            let leads : next_of (nodes_of s) pair.object (entry_at by.entry.key has.wanted.level) ≡ HopTo x level =
            rw (table_at by.entry.key has.node has.at sender_core) has.wanted.next in (
              earlier.0,
              chain_next (next_of (nodes_of s) pair.object) entered (entry_at by.entry.key has.wanted.level) x level path.chain earlier.1
                  leads,
            )

    -- ---- and whoever the walk enters holds the pair, at the level at which it is entered

    record HoldsAt (e : Entered) : Type 0 where
      node : NodeState
      at : s.node e.node ≡ Some node
      held : level_held (state_of node.pointers pair) ≡ Some e.level

    laid_at_node : (x : List ℕ) (node : NodeState) → s.node x ≡ Some node → laid_of s x pair ≡ laid_at node.pointers pair
    unfolding laid_of
    laid_at_node x node at = ap (λ n. laid_in n pair) at

    next_holds : IsPath → (a b : Entered) → HoldsAt a → next_of (nodes_of s) pair.object a ≡ HopTo b.node b.level → IsAmong b entered
        → HoldsAt b
    next_holds path a b holds leads among =
        let core = holder_core a.node holds.node pair holds.at (held_if_level (state_of holds.node.pointers pair) a.level holds.held) in
        let of = sound.nodes.nodes a.node holds.node holds.at in
        let t : TableValue = holds.node.ties.table in
        let next : next_from t a.level (drop a.level pair.object) ≡ HopTo b.node b.level = rw (table_at a.node holds.node holds.at core) at leads in
        let wanted : wanted_at t holds.node.pointers pair ≡ Some (hop_at b.node b.level) =
        ap (hop_from t pair.object) holds.held ∙ ap hop_of next in
        let laid : laid_at holds.node.pointers pair ≡ Some (hop_at b.node b.level) =
        laid_as_wanted holds.node.pointers pair t (of.laid (core_runs holds.node core)) ∙ wanted in
        let laid_of_it = laid_at_node a.node holds.node holds.at ∙ laid in
        let to_core = (laid_at_core p s sound stand.nothing a.node pair (hop_at b.node b.level) laid_of_it).core in
        let least = laid_is_held a.node b.node b.level to_core.state to_core.is (core_at_rest b.node to_core) laid_of_it in
        let there = (reached (suc least.0) least.0 (omega arith) b.node to_core.state to_core.is least.1).1 in
        let one = entered_once p.digits entered (in_turn entered path.turn.in_turn) path.within (entry_at b.node least.0) b there among refl in
        record { node = to_core.state; at = to_core.is; held = least.1 ∙ ap (λ (e : Entered). Some e.level) one }

    all_hold : IsPublished s pair → (e : Entered) → IsAmong e entered → HoldsAt e
    all_hold published e among =
        let path = published_path published in
        let next = next_of (nodes_of s) pair.object in
        let first : HoldsAt (entry_at pair.server 0) =
        record { node = published.state; at = published.is; held = let is = published.published in rw is refl } in
        chain_all next HoldsAt (λ f. IsAmong f entered) (next_holds path) (entry_at pair.server 0) path.after
        (λ f there. subst (IsAmong f) (sym path.begins) there) (subst (IsChain next) path.begins path.chain) first e
        (subst (IsAmong e) path.begins among)

pub pointers_on_paths : PointersOnPaths
pointers_on_paths p s x pair sound stand rest = (
  λ holds.
      let level = level_if_held (state_of holds.state.pointers pair) holds.held in
      let there = reached p s sound stand rest pair (suc level.0) level.0 (omega arith) x holds.state holds.is level.1 in
      let path = published_path p s sound stand rest pair there.0 in (
        there.0,
        subst (Among x) path.turn.nodes
            (among_path p s sound stand rest pair (entry_at x level.0)
            (walk_entered p.base (core_links (nodes_of s)) pair.server pair.object) there.1),
      ),
  λ (published, on_path).
      let path = published_path p s sound stand rest pair published in
      let found = path_among p s sound stand rest pair x (walk_entered p.base (core_links (nodes_of s)) pair.server pair.object)
      (subst (Among x) (sym path.turn.nodes) on_path) in
      let holds = all_hold p s sound stand rest pair published found.0 found.1 in
      record {
        state = holds.node;
        is = ap s.node found.2 ∙ holds.at;
        held = held_if_level (state_of holds.node.pointers pair) found.0.level holds.held;
      },
)
