-- A frame that isn't strange leaves a node no more links than it may have.
-- Cited above: none_linked
use Rattle.std.proofs.Common.{◌≡◌, ◌≢◌, ◌⊎◌, ℕ, zero, suc, ◌≤◌, List, [], ◌∷◌, length, get_or, map, slice_get, Option, None, Some, All, false, refl, sym, ap, subst, ◌∙◌, inl, inr}
use Rattle.std.specs.Ordering.{is_eq}
use Rattle.std.proofs.lemmas.Bool.{cases_Bool}
use Rattle.tap_name.specs.Name.{IsName}
use Rattle.tap_name.specs.Names.{Among}
use Rattle.tap_name.specs.Order.{name_cmp}
use Rattle.tap_name.specs.Settings.{SettingsValue}
use Rattle.tap_name.specs.declared.slot.Offered.{Offered}
use Rattle.tap_name.proofs.Membership.{among_at}
use Rattle.tap_name.proofs.Sorted.{distinct-from_ascending}
use Rattle.tap_link.specs.declared.kind.Kind.{Kind}
use Rattle.tap_link.proofs.TargetKinds.{kind_forgotten, kind_released, kind_removed}
use Rattle.tap_table.specs.ByName.{targets_by_name}
use Rattle.tap_table.specs.Table.{IsTable, TableValue, empty_table, forgotten, has_room_near, kind_in, pinned, released, removed}
use Rattle.tap_table.specs.Ties.{AreTies}
use Rattle.tap_table.proofs.Found.{linked_is_name, linked_is_other}
use Rattle.tap_table.proofs.KeptTable.{IsTable-forgotten, IsTable-pinned, IsTable-released, IsTable-removed}
use Rattle.tap_table.proofs.LookUps.{by_rule, kind_in-forgotten, kind_in-pinned, kind_in-released, kind_in-removed}
use Rattle.tap_table.proofs.NewLinks.{pinned_rule_new}
use Rattle.tap_table.proofs.Targets.{target_is_linked, targets-ascending}
use Rattle.tap_join.specs.Hello.{after_hello, hello_names}
use Rattle.tap_join.proofs.Hellos.{AreTies-after_hello, hello_new_links, owner_stays}
use Rattle.tap_depart.specs.ToldLeave.{told_leave}
use Rattle.tap_depart.proofs.Notices.{AreTies-told, new_is_told, told_is_new, told_owner}
use Rattle.tap_wire.specs.declared.frame.Frame.{Frame}
use Rattle.tap_rule.specs.Fit.{CouldLink, IsFit}
use Rattle.tap_rule.specs.Hellos.{HelloFields, hello_body}
use Rattle.tap_rule.specs.RuleLaws.{frame_to}
use Rattle.tap_rule.specs.Node.{NodeState, link_to, name_of, settings_of}
use Rattle.tap_rule.specs.Strange.{is_strange}
use Rattle.tap_rule.proofs.EndSteps.{unlinked}
use Rattle.tap_rule.proofs.Fit.{fit_law}

-- a kind that is known isn't none
known_kind : (found : Option Kind) (kind : Kind) → found ≡ Some kind → found ≢ None
known_kind found kind is none = let wrong : None ≡ Some kind = sym none ∙ is in cc

-- each target of a table is a name
pub targets_named : (t : TableValue) → IsTable t → All (IsName t.settings) (targets_by_name t)
targets_named t valid k d within =
    let x = get_or (targets_by_name t) k d in
    let found = target_is_linked t valid x (among_at (targets_by_name t) k d within) in
    linked_is_name t valid x found.0 found.1

-- a table without links has no target
pub none_linked : (p : SettingsValue) (owner : List ℕ) → IsTable (empty_table p owner) → targets_by_name (empty_table p owner) ≡ []
none_linked p owner valid = by_targets (targets_by_name (empty_table p owner)) refl
  where
    by_targets : (targets : List (List ℕ)) → targets_by_name (empty_table p owner) ≡ targets → targets ≡ []
    by_targets [] is = refl
    by_targets (x ∷ targets) is =
        let found = target_is_linked (empty_table p owner) valid x (rw is (inl refl)) in
        let wrong : None ≡ Some found.0 = sym (unlinked p owner x) ∙ found.1 in
        cc

-- by a rule that leaves none where there is none, whoever has a link had one
was_linked : (name other : List ℕ) (rule : Option Kind → Option Kind) (found : Option Kind) (kind : Kind) → rule None ≡ None
    → by_rule name other rule found ≡ Some kind → found ≢ None
was_linked name other rule found kind none is same =
    let now : by_rule name other rule None ≡ Some kind = subst (λ f. by_rule name other rule f ≡ Some kind) same is in
    elim (cases_Bool (is_eq (name_cmp other name))) [
      | inl tied ↦
          let here : rule None ≡ Some kind = rw tied at now in
          let wrong : None ≡ Some kind = sym none ∙ here in
          cc
      | inr apart ↦
          let wrong : None ≡ Some kind = rw apart at now in
          cc
    ]

module _ (node : NodeState) (frame : Frame) (ties : AreTies node.ties) (taken : is_strange node frame ≡ false) where
  -- whoever has a link after the frame has one before it, or could get one by it
  abbrev pub MayHave : List ℕ → Type 0
  MayHave x = (link_to node x ≢ None) ⊎ CouldLink frame.from frame.body x

  pub few_by_fit : (after : TableValue) → IsTable after → after.owner ≡ name_of node
      → ((x : List ℕ) (kind : Kind) → kind_in after x ≡ Some kind → MayHave x) → length (targets_by_name after) ≤ 255
  few_by_fit after valid owner new =
      let fit : IsFit node frame = (fit_law node frame ties).0 taken in
      fit.few (targets_by_name after) (distinct-from_ascending (targets_by_name after) (targets-ascending after valid))
      (λ x among.
      let found = target_is_linked after valid x among in
      record { apart = λ is. linked_is_other after valid x found.0 found.1 (is ∙ sym owner); linked = new x found.0 found.1 })

  module _ (name : List ℕ) (is_name : IsName node.ties.table.settings name) (apart : name ≢ node.ties.table.owner) where
    pub few-pinned : CouldLink frame.from frame.body name → length (targets_by_name (pinned node.ties.table name)) ≤ 255
    few-pinned could =
        few_by_fit (pinned node.ties.table name) (IsTable-pinned node.ties.table name ties.table is_name apart) refl (λ x kind is.
        elim (pinned_rule_new name x (link_to node x) kind (sym (kind_in-pinned node.ties.table name ties.table is_name apart x) ∙ is)) [
          | inl was ↦ inl (known_kind (link_to node x) kind was)
          | inr new ↦ inr (subst (CouldLink frame.from frame.body) (sym new.0) could)
        ])

    pub few-released : length (targets_by_name (released node.ties.table name)) ≤ 255
    few-released =
        few_by_fit (released node.ties.table name) (IsTable-released node.ties.table name ties.table is_name apart) refl (λ x kind is.
        inl (was_linked name x (kind_released (has_room_near node.ties.table name)) (link_to node x) kind refl
        (sym (kind_in-released node.ties.table name ties.table is_name apart x) ∙ is)))

    pub few-forgotten : length (targets_by_name (forgotten node.ties.table name)) ≤ 255
    few-forgotten =
        few_by_fit (forgotten node.ties.table name) (IsTable-forgotten node.ties.table name ties.table is_name apart) refl (λ x kind is.
        inl (was_linked name x kind_forgotten (link_to node x) kind refl
        (sym (kind_in-forgotten node.ties.table name ties.table is_name apart x) ∙ is)))

    pub few-removed : length (targets_by_name (removed node.ties.table name)) ≤ 255
    few-removed =
        few_by_fit (removed node.ties.table name) (IsTable-removed node.ties.table name ties.table is_name apart) refl (λ x kind is.
        inl (was_linked name x kind_removed (link_to node x) kind refl
        (sym (kind_in-removed node.ties.table name ties.table is_name apart x) ∙ is)))

    -- after the notice of a departure, with a replacement that the frame names
    pub few-told : (replacement : Option (List ℕ))
        → ((other : List ℕ) → replacement ≡ Some other → IsName node.ties.table.settings other)
        → ((other : List ℕ) → replacement ≡ Some other → CouldLink frame.from frame.body other)
        → length (targets_by_name (told_leave node.ties name replacement).table) ≤ 255
    few-told replacement given could =
        let after = told_leave node.ties name replacement in
        few_by_fit after.table (AreTies-told node.ties name replacement ties is_name apart given).table
        (told_owner node.ties name replacement ties is_name apart given) (λ x kind is. by_kind x kind is (link_to node x) refl)
      where
        by_kind : (x : List ℕ) (kind : Kind) → kind_in (told_leave node.ties name replacement).table x ≡ Some kind
            → (was : Option Kind) → link_to node x ≡ was → MayHave x
        by_kind x kind is (Some before) was = inl (known_kind (link_to node x) before was)
        by_kind x kind is None was =
            let word = new_is_told node.ties name replacement ties is_name apart given 0 x kind was is in
            inr (could x (told_is_new node.ties name replacement ties is_name apart given 0 _ word).given)

-- a link of a list is among its names
among_links : (links : List Offered) (i : ℕ) (link : Offered) → slice_get links i ≡ Some link → Among link.name (map (λ l. l.name) links)
among_links [] i link got = cc
among_links (first ∷ links) zero link got = let same : first ≡ link = cc in inl (ap (λ (l : Offered). l.name) (sym same))
among_links (first ∷ links) (suc i) link got = inr (among_links links i link got)

-- after a Hello
pub few-hello : (node : NodeState) (from : List ℕ) (hello : HelloFields) → AreTies node.ties
    → is_strange node (frame_to node from (hello_body hello)) ≡ false → IsName (settings_of node) from
    → All (λ link. IsName (settings_of node) link.name) hello.links
    → length (targets_by_name (after_hello node.ties from hello.is_core hello.links).table) ≤ 255
few-hello node from hello ties taken sender names =
    let after = after_hello node.ties from hello.is_core hello.links in
    let frame = frame_to node from (hello_body hello) in
    few_by_fit node frame ties taken after.table
    (AreTies-after_hello (settings_of node) (name_of node) node.ties (ties, refl, refl) from hello.is_core hello.links sender names).table
    (owner_stays (hello_names from hello.is_core hello.links) node.ties) (λ x kind is.
    elim (hello_new_links (settings_of node) (name_of node) node.ties (ties, refl, refl) from hello.is_core hello.links sender names x kind is) [
      | inl was ↦ inl (known_kind (link_to node x) kind was)
      | inr new ↦ inr (named x new.0 new.1 new.2 new.3)
    ])
  where
    named : (x : List ℕ) (i : ℕ) (link : Offered) → slice_get (hello_names from hello.is_core hello.links) i ≡ Some link → x ≡ link.name
        → (x ≡ from) ⊎ Among x (map (λ l. l.name) hello.links)
    named x i link got same = subst (λ y. (y ≡ from) ⊎ Among y (map (λ l. l.name) hello.links)) (sym same)
        (among_links (hello_names from hello.is_core hello.links) i link got)
