-- What a step at one node leaves as it was: the statuses and links of the others, and who awaits whom.
use Rattle.std.proofs.Common.{◌≡◌, inl, inr, ℕ, List, [], ◌⊎◌, Option, None, Some, refl, sym, ap, subst, ◌∙◌}
use Rattle.tap_name.specs.Names.{Among}
use Rattle.tap_link.specs.declared.kind.Kind.{Kind}
use Rattle.tap_link.specs.declared.kind.Kind.TheVariants.{Settled, Leaving as LeavingKind}
use Rattle.tap_rule.specs.Node.{NodeState, Status, link_to}
use Rattle.tap_rule.specs.Node.Status.{Core, Leaving}
use Rattle.tap_safety.specs.System.{System, HasLink, IsCoreNode}
use Rattle.tap_safety.specs.Departing.{Departs, FitsSlot, HasOther, HasReplaced, WhileLeaving}
use Rattle.tap_safety.specs.Notices.{HasAnswered, IsAwaiting, UntilRest}
use Rattle.tap_safety.specs.Remembered.{Leaver}
use Rattle.tap_safety.specs.Exchanges.{ChangesAt}
use Rattle.tap_safety.specs.Ties.{link_in, link_of, status_in, status_of}
use Rattle.tap_safety.proofs.LinkKeeps.{some_state, status_seen}
use Rattle.tap_safety.proofs.TellKeeps.{node_after, node_before}

-- a link is of one kind
pub one_kind : (s : System) (x t : List ℕ) (one other : Kind) → HasLink s x t one → HasLink s x t other → one ≡ other
one_kind s x t one other first second =
    let a = first.is in
    let b = second.is in
    let c = first.link in
    let d = second.link in
    let node : first.state ≡ second.state = cc in
    let same : Some one ≡ Some other = sym c ∙ ap (λ n. link_to n t) node ∙ d in
    cc

-- nothing that it can be is no kind
pub no_kind : (kind : Option Kind) → ((k : Kind) → kind ≡ Some k → ⊥) → kind ≡ None
no_kind None none = refl
no_kind (Some k) none = absurd (none k refl)

-- a node has one status
pub one_status : (s : System) (x : List ℕ) (one other : Status) → status_of s x ≡ Some one → status_of s x ≡ Some other → one ≡ other
one_status s x one other first second = let same : Some one ≡ Some other = sym first ∙ second in cc

-- whoever awaits an answer leaves
pub awaiting_leaves : (s : System) (x a : List ℕ) → IsAwaiting s x a → status_of s x ≡ Some Leaving
awaiting_leaves s x a awaiting = status_seen s x awaiting.state Leaving awaiting.is awaiting.leaving

module _ (s s' : System) (x : List ℕ) (before after : NodeState) (at : ChangesAt s s' x before after) where
  -- links of other nodes stay
  pub link_apart : (y t : List ℕ) → (y ≡ x) ⊎ (link_of s' y t ≡ link_of s y t)
  unfolding link_of
  link_apart y t = elim (at.others y) [ inl here ↦ inl here | inr same ↦ inr (ap (λ node. link_in node t) same) ]

  -- and so do their statuses
  pub status_apart : (y : List ℕ) → (y ≡ x) ⊎ (status_of s' y ≡ status_of s y)
  unfolding status_of
  status_apart y = elim (at.others y) [ inl here ↦ inl here | inr same ↦ inr (ap status_in same) ]

  -- ---- if the node stays what it is

  module _ (status : after.status ≡ before.status) where
    -- then each status is as before
    pub status_same : (y : List ℕ) → status_of s' y ≡ status_of s y
    unfolding status_of
    status_same y =
        elim (at.others y) [
          | inr same ↦ ap status_in same
          | inl here ↦
              let was : s.node y ≡ Some before = ap s.node here ∙ at.was in
              let now : s'.node y ≡ Some after = ap s'.node here ∙ at.is in
              ap status_in now ∙ ap (λ n. Some n) status ∙ sym (ap status_in was)
        ]

    -- so each core node was one, and the other way round
    pub core_was : (y : List ℕ) → IsCoreNode s' y → IsCoreNode s y
    core_was y core =
        elim core.core [
          | inl is ↦
              let node = some_state s y Core (sym (status_same y) ∙ status_seen s' y core.state Core core.is is) in
              record { state = node.0; is = node.1; core = inl node.2 }
          | inr is ↦
              let node = some_state s y Leaving (sym (status_same y) ∙ status_seen s' y core.state Leaving core.is is) in
              record { state = node.0; is = node.1; core = inr node.2 }
        ]

    pub core_on : (y : List ℕ) → IsCoreNode s y → IsCoreNode s' y
    core_on y core =
        elim core.core [
          | inl is ↦
              let node = some_state s' y Core (status_same y ∙ status_seen s y core.state Core core.is is) in
              record { state = node.0; is = node.1; core = inl node.2 }
          | inr is ↦
              let node = some_state s' y Leaving (status_same y ∙ status_seen s y core.state Leaving core.is is) in
              record { state = node.0; is = node.1; core = inr node.2 }
        ]

    -- another core node of a slot was there before
    pub other_was : (a n : List ℕ) → HasOther s' a n → HasOther s a n
    other_was a n other =
        record { other = other.other; core = core_was other.other other.core; apart = other.apart; near = other.near }

    -- and whom it awaits

    module _ (awaited : after.awaited ≡ before.awaited) where
      -- then each answer that was awaited is, and no other
      pub awaits_on : (y a : List ℕ) → IsAwaiting s y a → IsAwaiting s' y a
      awaits_on y a awaiting =
          elim (node_after s s' x before after at y awaiting.state awaiting.is) [
            | inr there ↦ record { state = awaiting.state; is = there; leaving = awaiting.leaving; awaits = awaiting.awaits }
            | inl here ↦
                let same : awaiting.state ≡ before = here.1 in
                record {
                  state = after;
                  is = here.2;
                  leaving = status ∙ ap (λ (n : NodeState). n.status) (sym same) ∙ awaiting.leaving;
                  awaits = subst (Among a) (ap (λ (n : NodeState). n.awaited) same ∙ sym awaited) awaiting.awaits;
                }
          ]

      pub awaits_was : (y a : List ℕ) → IsAwaiting s' y a → IsAwaiting s y a
      awaits_was y a awaiting =
          elim (node_before s s' x before after at y awaiting.state awaiting.is) [
            | inr there ↦ record { state = awaiting.state; is = there; leaving = awaiting.leaving; awaits = awaiting.awaits }
            | inl here ↦
                let same : awaiting.state ≡ after = here.1 in
                record {
                  state = before;
                  is = here.2;
                  leaving = sym status ∙ ap (λ (n : NodeState). n.status) (sym same) ∙ awaiting.leaving;
                  awaits = subst (Among a) (ap (λ (n : NodeState). n.awaited) same ∙ awaited) awaiting.awaits;
                }
          ]

-- ---- slots and the leaver

-- a slot that is filled stays so, if the link is marked yet, and settled links of the node stay
pub replaced_on : (s s' : System) (a n : List ℕ) → (HasOther s' a n → HasOther s a n) → HasLink s' a n LeavingKind
    → ((to : List ℕ) → HasLink s a to Settled → HasLink s' a to Settled) → HasReplaced s a n → HasReplaced s' a n
replaced_on s s' a n others marked settled replaced = record {
  marked = marked;
  filled = λ other.
      let by = replaced.filled (others other) in
      (by.0, settled by.0 by.1, by.2);
}

-- a replacement fits its slot as before
pub fits_on : (s s' : System) (a n : List ℕ) (replacement : Option (List ℕ)) → (HasOther s' a n → HasOther s a n)
    → FitsSlot s a n replacement → FitsSlot s' a n replacement
fits_on s s' a n None others none = λ other. none (others other)
fits_on s s' a n (Some r) others fits = fits

-- a leaving node that keeps its links, and whom it awaits, goes on as before, if nobody new has a link to it
pub leaving_on : (s s' : System) (leaver : Leaver) (old new : NodeState) → new.awaited ≡ old.awaited
    → ((t : List ℕ) → link_to new t ≡ link_to old t)
    → ((y : List ℕ) (kind : Kind) → HasLink s' y leaver.name kind → HasLink s y leaver.name kind)
    → WhileLeaving s leaver old → WhileLeaving s' leaver new
leaving_on s s' leaver old new awaited links linked was = record {
  some = λ none. was.some (sym awaited ∙ none);
  holders = λ a among. was.holders a (subst (Among a) awaited among);
  links = λ t. links t ∙ was.links t;
  settled = λ t kind link. was.settled t kind (sym (links t) ∙ link);
  linked = λ y kind link. was.linked y kind (linked y kind link);
}

-- whoever departs after a step did so before it, and when nobody does any more no frame is under way
pub leaver_stays : (s s' : System) → UntilRest s s' → (leaver : Leaver) → Departs s leaver → (other : Leaver) → Departs s' other
    → leaver ≡ other
leaver_stays s s' rest leaver departs other departs' =
    let same : Some leaver ≡ Some other = sym departs ∙ rest.1 other departs' in cc

-- and when nobody does any more, no frame is under way
pub over_at_rest : (s s' : System) → UntilRest s s' → (leaver : Leaver) → Departs s leaver → s'.departing ≡ None → s'.frames ≡ []
over_at_rest s s' rest leaver departs over = elim (rest.0 over) [
  | inl none ↦ let wrong : Some leaver ≡ None = sym departs ∙ none in cc
  | inr none ↦ none
]

-- who held the leaver at its start, and is awaited no more, has answered
abbrev pub HaveAnswered : System → Leaver → Type 0
HaveAnswered s leaver =
    (a : List ℕ) → Among a leaver.holders → (IsAwaiting s leaver.name a → ⊥) → HasAnswered s a leaver.name
