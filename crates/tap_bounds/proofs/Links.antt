-- What a rule of joins says of links, beside what the links of its node allow.
use Rattle.std.proofs.Common.{◌≡◌, ◌≢◌, ◌⊎◌, ℕ, nat_eq, ◌+◌, ◌≤◌, Bool, true, false, cond, List, [], Option, None, Some, arith, ap, refl, sym, subst, ◌∙◌, inl, inr, is_none}
use Rattle.std.specs.Prelude.{All, if◌then◌else◌, ◌&&◌}
use Rattle.std.specs.Cmp.Lexicographic.{pointwise}
use Rattle.tap_name.specs.declared.slot.Offered.{Offered}
use Rattle.tap_name.specs.Name.{IsName}
use Rattle.tap_name.specs.Names.{has_name}
use Rattle.tap_link.specs.declared.kind.Kind.{Kind}
use Rattle.tap_table.specs.Table.{TableValue, kind_in}
use Rattle.tap_table.specs.Ties.{TiesValue, pinned}
use Rattle.tap_join.specs.Hello.{hello_names, words_of}
use Rattle.tap_join.proofs.Hellos.{AreOf, IsNamed, all_named}
use Rattle.tap_wire.specs.declared.frame.Body.{Body}
use Rattle.tap_wire.specs.declared.frame.Body.TheVariants.{Hello}
use Rattle.tap_wire.specs.declared.frame.Frame.{Frame}
use Rattle.tap_rule.specs.Joining.{takes_hello}
use Rattle.tap_rule.specs.Links.{takes_release}
use Rattle.tap_rule.specs.Node.{NodeState, Status, link_to, name_of, settings_of}
use Rattle.tap_rule.specs.Node.Status.{Ceased, Core, Gone, Joining, Leaving}
use Rattle.tap_rule.specs.KeptNode.{IsNode}
use Rattle.tap_rule.specs.Reaction.{Reaction, pin_word}
use Rattle.tap_safety.specs.Frames.{HelloFields, hello_body}
use Rattle.tap_safety.specs.System.{System}
use Rattle.tap_safety.specs.Ties.{status_in}
use Rattle.tap_moves.proofs.Got.{same_name}
use Rattle.tap_bounds.proofs.Words.{Adds, Drops, adds_pinned, apart_test, drops_released, if_linked, if_pinned, is_named_in, linked_most, links_add, links_few, off_to, on_elsewhere, on_to, released_elsewhere}

-- ---- what is allowed

-- whether a frame is a Hello to a name that is from another, or names it
abbrev pub names_in : Body → List ℕ → List ℕ → Bool
names_in (Hello session core links) from t = is_named_in t (hello_names from core links)
names_in other from t = false

abbrev pub is_naming : List ℕ → List ℕ → Frame → Bool
is_naming x t f = names_in f.body f.from t && pointwise nat_eq f.to x

abbrev pub most_new : Option Status → Option Kind → ℕ
most_new None found = 0
most_new (Some Joining) found = if_linked found
most_new (Some other) found = 1

-- How many Links with on 1 a node has sent a name at most, beside those for Hellos: none if that is a member, or no node; while it joins
-- one if there is a link to it, and else none; and then one.
abbrev pub most_for : Bool → Option Status → Option Kind → ℕ
most_for member status found = if member then 0 else most_new status found

new_grows : (status : Option Status) (one two : Option Kind) → if_linked one ≤ if_linked two → most_new status one ≤ most_new status two
new_grows None one two less = omega arith
new_grows (Some Joining) one two less = less
new_grows (Some Core) one two less = omega arith
new_grows (Some Leaving) one two less = omega arith
new_grows (Some Gone) one two less = omega arith
new_grows (Some Ceased) one two less = omega arith

pub more_for_link : (member : Bool) (status : Option Status) (one two : Option Kind) → if_linked one ≤ if_linked two
    → most_for member status one ≤ most_for member status two
more_for_link true status one two less = omega arith
more_for_link false status one two less = new_grows status one two less

-- a status that a name may have later in such a run
abbrev pub MayBecome : Option Status → Option Status → Type 0
MayBecome before after = (after ≡ before) ⊎ ((before ≡ None) ⊎ ((before ≡ Some Joining) × (after ≡ Some Core)))

pub more_for_status : (member : Bool) (before after : Option Status) (found : Option Kind) → MayBecome before after
    → most_for member before found ≤ most_for member after found
more_for_status true before after found may = omega arith
more_for_status false before after found (inl same) = let is = ap (λ st. most_new st found) same in omega (arith, is)
more_for_status false before after found (inr (inl none)) = let is = ap (λ st. most_new st found) none in omega (arith, is)
more_for_status false before after found (inr (inr both)) =
    let one = ap (λ st. most_new st found) both.0 in
    let two = ap (λ st. most_new st found) both.1 in
    let most = linked_most found in
    omega (arith, one, two, most)

-- ---- rules

-- What a rule says of links to a name is at most what the frame that is taken names, and what is allowed afterwards beside what was before;
-- and what it says that is gone was pinned, or is said to be there.
pub record LinksStep (members : List (List ℕ)) (s : System) (node : NodeState) (named : List ℕ → ℕ) (r : Reaction) : Type 0 where
  pub on : (t : List ℕ) → on_to t r.words + most_for (has_name members t) (status_in (s.node t)) (link_to node t)
      ≤ named t + most_for (has_name members t) (status_in (s.node t)) (link_to r.state t)
  pub pins : (t : List ℕ) → if_pinned (link_to r.state t) + off_to t r.words ≤ if_pinned (link_to node t) + on_to t r.words

module _ (members : List (List ℕ)) (s : System) (node : NodeState) (named : List ℕ → ℕ) (r : Reaction) where
  -- no word is said, and the table stays
  pub still : r.words ≡ [] → r.state.ties.table ≡ node.ties.table → LinksStep members s node named r
  still none same = record {
    on = λ t.
        let words = ap (on_to t) none in
        let most = ap (λ (table : TableValue). most_for (has_name members t) (status_in (s.node t)) (kind_in table t)) same in
        omega (arith, words, most);
    pins = λ t.
        let on = ap (on_to t) none in
        let off = ap (off_to t) none in
        let pin = ap (λ (table : TableValue). if_pinned (kind_in table t)) same in
        omega (arith, on, off, pin);
  }

-- the rule pins a name, and says the word for it
pub record IsPinning (node : NodeState) (b : List ℕ) (r : Reaction) : Type 0 where
  pub words : r.words ≡ words_of (pin_word node b)
  pub ties : r.state.ties ≡ pinned node.ties b

module _ (members : List (List ℕ)) (s : System) (node : NodeState) (is : IsNode node) (named : List ℕ → ℕ) where
  -- a joiner that is no member is pinned
  module _ (b : List ℕ) (r : Reaction) (pins : IsPinning node b r) (name : IsName (settings_of node) b) (apart : b ≢ name_of node)
      (new : has_name members b ≡ false) (joins : status_in (s.node b) ≡ Some Joining) where
    adds : (t : List ℕ) → Adds t r.words (link_to node t) (link_to r.state t)
    adds t =
        subst (λ words. Adds t words (link_to node t) (link_to r.state t)) (sym pins.words)
        (subst (λ (ties : TiesValue). Adds t (words_of (pin_word node b)) (link_to node t) (kind_in ties.table t)) (sym pins.ties)
        (adds_pinned node.ties node.stamp b is.ties.table name apart t))

    none_elsewhere : (t : List ℕ) → t ≢ b → on_to t r.words ≡ 0
    none_elsewhere t other =
        ap (on_to t) pins.words
        ∙ on_elsewhere t b (node.stamp + 1) (is_none (link_to node b)) true (apart_test b t (λ same. other (sym same)))

    of_joiner : (t : List ℕ) (found : Option Kind) → t ≡ b
        → most_for (has_name members t) (status_in (s.node t)) found ≡ if_linked found
    of_joiner t found same =
        let member : has_name members t ≡ false = ap (has_name members) same ∙ new in
        let status : status_in (s.node t) ≡ Some Joining = ap (λ u. status_in (s.node u)) same ∙ joins in
        rw (member, status) refl

    pub pins_links : LinksStep members s node named r
    pins_links = record {
      on = λ t. elim (same_name t b) [
        | inl same ↦
            let one = of_joiner t (link_to node t) same in
            let two = of_joiner t (link_to r.state t) same in
            let more = (adds t).on in
            omega (arith, one, two, more)
        | inr other ↦
            let none = none_elsewhere t other in
            let linked = (adds t).on in
            let more = more_for_link (has_name members t) (status_in (s.node t)) (link_to node t) (link_to r.state t)
            (omega (arith, linked)) in
            omega (arith, none, more)
      ];
      pins = λ t. (adds t).pins;
    }

  -- a release from a core node
  module _ (from : List ℕ) (name : IsName (settings_of node) from) (apart : from ≢ name_of node)
      (core : status_in (s.node from) ≡ Some Core) where
    drops : (t : List ℕ) → Drops t (takes_release node from).words (link_to node t) (link_to (takes_release node from).state t)
    drops t = drops_released node.ties node.stamp from is.ties.table name apart t

    same_for_core : (t : List ℕ) (one two : Option Kind) → t ≡ from
        → most_for (has_name members t) (status_in (s.node t)) one ≡ most_for (has_name members t) (status_in (s.node t)) two
    same_for_core t one two same =
        let status : status_in (s.node t) ≡ Some Core = ap (λ u. status_in (s.node u)) same ∙ core in
        rw status refl

    pub releases_links : LinksStep members s node named (takes_release node from)
    releases_links = record {
      on = λ t.
          let none = (drops t).on in
          elim (same_name t from) [
            | inl same ↦
                let most = same_for_core t (link_to node t) (link_to (takes_release node from).state t) same in omega (arith, none, most)
            | inr other ↦
                let kept = ap (λ found. most_for (has_name members t) (status_in (s.node t)) found)
                (released_elsewhere node.ties node.stamp from is.ties.table name apart t other) in
                omega (arith, none, kept)
          ];
      pins = λ t. let none = (drops t).on in let pins = (drops t).pins in omega (arith, none, pins);
    }

-- a Hello, whose names are names of the settings
module _ (members : List (List ℕ)) (s : System) (node : NodeState) (is : IsNode node) (from : List ℕ) (hello : HelloFields)
    (sender : IsName (settings_of node) from) (names : All (λ (o : Offered). IsName (settings_of node) o.name) hello.links) where
  abbrev greeted : Reaction
  greeted = takes_hello node from hello.session hello.is_core hello.links

  are : AreOf (settings_of node) (name_of node) node.ties
  are = (is.ties, refl, refl)

  all : All (IsNamed (settings_of node) (name_of node)) (hello_names from hello.is_core hello.links)
  all = all_named (settings_of node) (name_of node) node.ties are from hello.is_core hello.links sender names

  hello_adds : (t : List ℕ) → Adds t greeted.words (link_to node t) (link_to greeted.state t)
  hello_adds t = links_add (settings_of node) (name_of node) t (hello_names from hello.is_core hello.links) node.ties node.stamp all are

  pub hello_links : LinksStep members s node (λ t. cond (names_in (hello_body hello) from t) 1 0) greeted
  hello_links = record {
    on = λ t.
        let linked = (hello_adds t).on in
        let more = more_for_link (has_name members t) (status_in (s.node t)) (link_to node t) (link_to greeted.state t)
        (omega (arith, linked)) in
        let few = links_few (settings_of node) (name_of node) t (hello_names from hello.is_core hello.links) node.ties node.stamp all are in
        omega (arith, more, few);
    pins = λ t. (hello_adds t).pins;
  }
