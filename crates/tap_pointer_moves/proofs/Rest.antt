-- What lookups find at rest: along a walk the servers that publish the object, and at its end each of them.
use Rattle.std.proofs.Common.{◌≡◌, ◌⊎◌, ℕ, true, false, List, [], ◌∷◌, drop, map, Option, None, Some, refl, ap, sym, subst, ◌∙◌, inl, inr}
use Rattle.std.specs.List.{last_or}
use Rattle.std.specs.List.Sorted.{IsStrictlySortedBy}
use Rattle.std.specs.Map.{keys_of}
use Rattle.tap_name.specs.Name.{IsName}
use Rattle.tap_name.specs.Names.{Among}
use Rattle.tap_name.specs.Settings.{SettingsValue}
use Rattle.tap_table.specs.declared.next.Next.{Next}
use Rattle.tap_table.specs.declared.next.Next.TheVariants.{Hop as HopTo, Root}
use Rattle.tap_pointer.specs.declared.pair.Pair.{Pair}
use Rattle.tap_pointer.specs.Pair.{pair_cmp}
use Rattle.tap_pointer.specs.Pointers.{is_held, pair_of, server_for, state_of}
use Rattle.tap_surrogate.specs.Entered.{AreEntered, Entered, IsChain, next_of, walk_entered}
use Rattle.tap_surrogate.specs.WalkLaws.{LeadsToRoot}
use Rattle.tap_surrogate.specs.Nodes.{core_links}
use Rattle.tap_surrogate.specs.Walk.{walk, walk_end}
use Rattle.tap_surrogate.proofs.Chains.{chain_law_holds}
use Rattle.tap_surrogate.proofs.Entering.{entered_begins, entered_law_holds}
use Rattle.tap_runs.specs.Observed.{nodes_of}
use Rattle.tap_rule.specs.Node.{NodeState}
use Rattle.tap_rule.specs.Node.Status.{Core}
use Rattle.tap_rule.specs.Pointers.{next_hop}
use Rattle.tap_rule.specs.Sent.{IsAmong}
use Rattle.tap_safety.specs.System.{System, IsCoreNode}
use Rattle.tap_safety_moves.specs.Sound.{Sound}
use Rattle.tap_safety_moves.proofs.Walks.{core_listed, read_core, tables_hole_free, walks_lead}
use Rattle.tap_pointer_moves.specs.Paths.{HoldsPair, IsPublished, path_of}
use Rattle.tap_pointer_moves.specs.LaysTold.{PointersStand}
use Rattle.tap_pointer_moves.proofs.Chains.{chain_next, entry_at}
use Rattle.tap_pointer_moves.proofs.Paths.{held_status, pointers_on_paths, table_at, tables_settled}
use Rattle.tap_pointer_moves.proofs.PointerRules.{nothing_published}
use Rattle.tap_pointer_moves.specs.Alone.{IsExact, IsOnWalk, WasAlike}
use Rattle.tap_pointer_moves.proofs.Held.{none_held, server_held}

-- ---- the end of a walk

chain_last : (next : Entered → Next) (before : Option (List ℕ)) (es : List Entered) (e : Entered) → IsChain next es → IsAmong e es
    → next e ≡ Root → last_or before (map (λ (f : Entered). f.node) es) ≡ Some e.node
chain_last next before [] e chain among root = absurd among
chain_last next before (a ∷ []) e chain (inl same) root = ap (λ (f : Entered). Some f.node) (sym same)
chain_last next before (a ∷ []) e chain (inr later) root = absurd later
chain_last next before (a ∷ b ∷ es) e (first, chain) (inl same) root =
    let wrong : Root ≡ HopTo b.node b.level = sym root ∙ ap next same ∙ first in absurd (cc)
chain_last next before (a ∷ b ∷ es) e (first, chain) (inr later) root = chain_last next (Some a.node) (b ∷ es) e chain later root

last_among : (x : List ℕ) (before : Option (List ℕ)) (path : List (List ℕ)) → last_or before path ≡ Some x
    → (before ≡ Some x) ⊎ Among x path
last_among x before [] is = inl is
last_among x before (y ∷ path) is =
    elim (last_among x (Some y) path is) [
      | inl here ↦ let same : x ≡ y = cc in inr (inl same)
      | inr later ↦ inr (inr later)
    ]

-- ---- the beginning of a walk

-- a walk enters its first node at level 0
pub walk_begins : (p : SettingsValue) (s : System) (object asker : List ℕ) → IsOnWalk p s object asker asker 0
walk_begins p s object asker =
    let begins = entered_begins p.base (core_links (nodes_of s)) (entry_at asker 0) 0 (drop 0 object) in
    subst (IsAmong (entry_at asker 0)) (sym begins.1) (inl refl)

-- ---- a system at rest

module _ (p : SettingsValue) (s : System) (sound : Sound p s) (stand : PointersStand s) (rest : s.frames ≡ []) where
  -- who serves a pair is core
  server_core : (pair : Pair) → IsPublished s pair → IsCoreNode s pair.server
  server_core pair published =
      let node = published.state in
      let status = held_status node.status (λ none.
      let pairs = stand.nothing.nothing pair.server node published.is none in
      let wrong : false ≡ true = sym (nothing_published node.pointers pairs pair) ∙ published.published in
      cc) in
      record { state = node; is = published.is; core = status }

  module _ (object : List ℕ) (name : IsName p object) where
    -- what is known of the walk of the object from a core node
    record IsWalk (from : List ℕ) : Type 0 where
      chain : IsChain (next_of (nodes_of s) object) (walk_entered p.base (core_links (nodes_of s)) from object)
      turn : AreEntered p (walk p.base (core_links (nodes_of s)) from object) (walk_entered p.base (core_links (nodes_of s)) from object)
      core : List (List ℕ)
      leads : LeadsToRoot p core from object (walk p.base (core_links (nodes_of s)) from object)

    walks : (from : List ℕ) → IsCoreNode s from → IsWalk from
    walks from is_core =
        let names = core_listed p s sound in
        let free = tables_hole_free p s names.0 sound names.1 in
        let among = (names.1 from).1 is_core in
        record {
          chain = chain_law_holds p (nodes_of s) (tables_settled p s sound stand rest) from object (read_core s from is_core) name;
          turn = entered_law_holds p names.0 (core_links (nodes_of s)) free from object among name;
          core = names.0;
          leads = walks_lead p s names.0 from object sound names.1 among name;
        }

    -- two walks end at the same node
    same_end : (a b : List ℕ) → IsCoreNode s a → IsCoreNode s b
        → walk_end (walk p.base (core_links (nodes_of s)) a object) ≡ walk_end (walk p.base (core_links (nodes_of s)) b object)
    same_end a b one other =
        let names = core_listed p s sound in
        (walks_lead p s names.0 a object sound names.1 ((names.1 a).1 one) name).ends
        ∙ sym (walks_lead p s names.0 b object sound names.1 ((names.1 b).1 other) name).ends

    module _ (asker : List ℕ) (asker_core : IsCoreNode s asker) where
      next_is : (x : List ℕ) (node : NodeState) (level : ℕ) → s.node x ≡ Some node → node.status ≡ Core
          → next_of (nodes_of s) object (entry_at x level) ≡ next_hop node object level
      next_is x node level at core = rw (table_at p s sound stand rest x node at core) refl

      -- a next hop leads along the walk
      pub walk_on : (x : List ℕ) (node : NodeState) (level : ℕ) (to : List ℕ) (next : ℕ) → s.node x ≡ Some node → node.status ≡ Core
          → IsOnWalk p s object asker x level → next_hop node object level ≡ HopTo to next → IsOnWalk p s object asker to next
      walk_on x node level to next at core on hop =
          chain_next (next_of (nodes_of s) object) (walk_entered p.base (core_links (nodes_of s)) asker object) (entry_at x level) to next
          (walks asker asker_core).chain on (next_is x node level at core ∙ hop)

      -- where there is no next hop each pair of the object is held that is published
      pub ends_at : (x : List ℕ) (node : NodeState) (level : ℕ) → s.node x ≡ Some node → node.status ≡ Core
          → IsOnWalk p s object asker x level → next_hop node object level ≡ Root → (server : List ℕ)
          → IsPublished s (pair_of object server) → HoldsPair s x (pair_of object server)
      ends_at x node level at core on root server published =
          let mine = walks asker asker_core in
          let theirs = server_core (pair_of object server) published in
          let entered = walk_entered p.base (core_links (nodes_of s)) asker object in
          let last : last_or None (map (λ (f : Entered). f.node) entered) ≡ Some x =
          chain_last (next_of (nodes_of s) object) None entered (entry_at x level) mine.chain on (next_is x node level at core ∙ root) in
          let end : walk_end (walk p.base (core_links (nodes_of s)) asker object) ≡ Some x =
          ap (λ l. last_or None l) (sym mine.turn.nodes) ∙ last in
          let there : walk_end (path_of p s (pair_of object server)) ≡ Some x = sym (same_end asker server asker_core theirs) ∙ end in
          elim (last_among x None (path_of p s (pair_of object server)) there) [
            | inl wrong ↦ absurd (cc)
            | inr among ↦ (pointers_on_paths p s x (pair_of object server) sound stand rest).1 (published, among)
          ]

      -- So what a node of the walk answers is exact: the least server that it holds, and none where there is no next hop.
      pub answers_exactly : (x : List ℕ) (node : NodeState) (level : ℕ) (server : Option (List ℕ)) → WasAlike s x node → node.status ≡ Core
          → IsStrictlySortedBy pair_cmp (keys_of node.pointers.pairs) → IsOnWalk p s object asker x level → server_for node.pointers object ≡ server
          → (server ≡ None → next_hop node object level ≡ Root) → IsExact s object server
      answers_exactly x node level (Some server) was core sorted on held ends =
          let is : is_held (state_of node.pointers (pair_of object server)) ≡ true =
          server_held object server node.pointers.pairs sorted held in
          ((pointers_on_paths p s x (pair_of object server) sound stand rest).0 (record {
            state = was.before;
            is = was.was;
            held = sym (ap (λ q. is_held (state_of q (pair_of object server))) was.alike.pointers) ∙ is;
          })).0
      answers_exactly x node level None was core sorted on held ends = λ server published.
          let before : was.before.status ≡ Core = sym was.alike.status ∙ core in
          let root : next_hop was.before object level ≡ Root =
          ap (λ ties. next_hop (record node { ties = ties }) object level) (sym was.alike.ties) ∙ ends refl in
          let holds = ends_at x was.before level was.was before on root server published in
          let found = holds.is in
          let at = was.was in
          let same : holds.state ≡ was.before = cc in
          let held_there : is_held (state_of was.before.pointers (pair_of object server)) ≡ true =
          subst (λ (n : NodeState). is_held (state_of n.pointers (pair_of object server)) ≡ true) same holds.held in
          none_held object server node.pointers.pairs held (ap (λ q. is_held (state_of q (pair_of object server))) was.alike.pointers ∙ held_there)
