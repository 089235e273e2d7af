-- What the Leave of a node makes of the links of a holder.
use Rattle.std.proofs.Common.{◌≡◌, ◌≢◌, inl, inr, ℕ, ◌+◌, ◌<◌, true, is_some, List, ◌⊎◌, Option, None, Some, arith, refl, sym, ap, subst, ◌∙◌}
use Rattle.tap_name.specs.Name.{IsName}
use Rattle.tap_name.specs.Prefix.{lcp}
use Rattle.tap_name.proofs.Near.{same_slot_where_near}
use Rattle.tap_name.proofs.Prefixes.{lcp-sym}
use Rattle.tap_link.specs.declared.kind.Kind.{Kind}
use Rattle.tap_link.specs.declared.kind.Kind.TheVariants.{Settled, Leaving as LeavingKind}
use Rattle.tap_table.specs.declared.tie.Tie.{Tie}
use Rattle.tap_table.specs.Table.{kind_in}
use Rattle.tap_table.specs.Ties.{AreTies, TiesValue}
use Rattle.tap_table.proofs.Primaries.{primary_near}
use Rattle.tap_join.specs.Hello.{words_of}
use Rattle.tap_depart.specs.ToldLeave.{has_settled_near, told_leave}
use Rattle.tap_depart.proofs.Notices.{AreTies-told, leaver_marked, links_stay, new_is_told, slot_filled, told_is_new, told_owner, told_settings}
use Rattle.tap_rule.specs.Leaving.{leave_word}
use Rattle.tap_rule.specs.Node.{NodeState, link_to, name_of, settings_of}
use Rattle.tap_rule.specs.Sent.{IsAmong}
use Rattle.tap_safety.specs.FrameSteps.{HasSettledNear}
use Rattle.tap_moves.proofs.Nearness.{primary_stands_near}

-- the word for the replacement: it has the next number, and says that there is a link, which there is
pub record IsLeaveWord (node after : NodeState) (replacement : Option (List ℕ)) (tie : Tie) : Type 0 where
  pub given : replacement ≡ Some tie.to
  pub version : tie.version ≡ node.stamp + 1
  pub on : tie.on ≡ true
  pub now : link_to after tie.to ≡ Some Settled

-- At a node that had a settled link to n: that link is marked, and the others stay; a new one is a settled link to the replacement, which
-- alone is told of it; and if a replacement was given, a settled link is in the slot of n.
pub record HeedsLeave (node after : NodeState) (n : List ℕ) (replacement : Option (List ℕ)) (words : List Tie) : Type 0 where
  pub marked : link_to after n ≡ Some LeavingKind
  pub stay : (t : List ℕ) (kind : Kind) → (t ≡ n → ⊥) → link_to node t ≡ Some kind → link_to after t ≡ Some kind
  pub new : (t : List ℕ) (kind : Kind) → (t ≡ n → ⊥) → link_to after t ≡ Some kind
      → (link_to node t ≡ Some kind) ⊎ ((replacement ≡ Some t) × (kind ≡ Settled))
  pub filled : (r : List ℕ) → replacement ≡ Some r → HasSettledNear after (name_of node) n
  pub told : (tie : Tie) → IsAmong tie words → IsLeaveWord node after replacement tie
  pub once : (one two : Tie) → IsAmong one words → IsAmong two words → one ≡ two
  pub said : (t : List ℕ) (kind : Kind) → link_to node t ≡ None → link_to after t ≡ Some kind
      → (tie : Tie) × IsAmong tie words × (tie.to ≡ t)

-- a slot with a settled link has a first one
has_first : (found : Option (List ℕ)) → is_some found ≡ true → (first : List ℕ) × (found ≡ Some first)
has_first None some = cc
has_first (Some first) some = (first, refl)

-- the one word is the one that there is
one_of : (word : Option Tie) (tie : Tie) → IsAmong tie (words_of word) → word ≡ Some tie
one_of None tie among = absurd among
one_of (Some word) tie (inl same) = ap (λ w. Some w) (sym same)
one_of (Some word) tie (inr never) = absurd never

module _ (node after : NodeState) (n : List ℕ) (replacement : Option (List ℕ)) (are : AreTies node.ties)
    (is_name : IsName (settings_of node) n) (apart : n ≢ name_of node)
    (names : (r : List ℕ) → replacement ≡ Some r → IsName (settings_of node) r) (settled : link_to node n ≡ Some Settled)
    (fits : (r : List ℕ) → replacement ≡ Some r → (r ≢ n) × (lcp (name_of node) n < lcp n r))
    (kinds : (r : List ℕ) (kind : Kind) → replacement ≡ Some r → link_to node r ≡ Some kind → kind ≡ Settled)
    (is : after.ties ≡ told_leave node.ties n replacement) where
  abbrev told : TiesValue
  told = told_leave node.ties n replacement

  -- the links of the node are those of its ties then
  link_is : (t : List ℕ) → link_to after t ≡ kind_in told.table t
  link_is t = ap (λ (ties : TiesValue). kind_in ties.table t) is

  -- a name that has no link and gets one is the replacement
  new_link : (t : List ℕ) (kind : Kind) → link_to node t ≡ None → kind_in told.table t ≡ Some kind
      → (replacement ≡ Some t) × (kind ≡ Settled)
  new_link t kind none now =
      let tells = new_is_told node.ties n replacement are is_name apart names 0 t kind none now in
      let word = told_is_new node.ties n replacement are is_name apart names 0 _ tells in
      let same : Some kind ≡ Some Settled = sym now ∙ word.now in
      (word.given, cc)

  new_or_old : (t : List ℕ) (kind : Kind) → (t ≡ n → ⊥) → (found : Option Kind) → link_to node t ≡ found
      → kind_in told.table t ≡ Some kind → (link_to node t ≡ Some kind) ⊎ ((replacement ≡ Some t) × (kind ≡ Settled))
  new_or_old t kind other None none now = inr (new_link t kind none now)
  new_or_old t kind other (Some was) had now =
      let stays = links_stay node.ties n replacement are is_name apart names t was other had in
      let same : Some was ≡ Some kind = sym stays ∙ now in
      inl (had ∙ same)

  -- the first settled link of the slot stands near the leaver
  near_by : has_settled_near told n ≡ true → HasSettledNear after (name_of node) n
  near_by some =
      let first = has_first (primary_near told.table n) some in
      let owner = told_owner node.ties n replacement are is_name apart names in
      let valid = (AreTies-told node.ties n replacement are is_name apart names).table in
      let name_there = subst (λ q. IsName q n) (sym (told_settings node.ties n replacement are is_name apart names)) is_name in
      let stands = primary_stands_near told.table valid n first.0 name_there (λ same. apart (same ∙ owner)) first.1 in
      record {
        to = first.0;
        settled = link_is first.0 ∙ stands.0;
        near = subst (λ own. lcp own n < lcp n first.0) owner stands.2;
      }

  filled_by : (r : List ℕ) → replacement ≡ Some r → (found : Option Kind) → link_to node r ≡ found
      → HasSettledNear after (name_of node) n
  filled_by r given None none =
      let fit = fits r given in
      let other : r ≢ name_of node = λ same.
      let near = fit.1 in
      let level = ap (lcp n) same in
      let swap = lcp-sym n (name_of node) in
      omega (arith, near, level, swap) in
      let name_own = are.table.owner in
      let own_len = name_own.len in
      let len = is_name.len in
      let slot = (same_slot_where_near (name_of node) n r (own_len ∙ sym len) fit.1).1 in
      near_by (slot_filled node.ties n replacement are is_name apart names r given other slot none)
  filled_by r given (Some kind) had =
      let fit = fits r given in
      let is_settled = had ∙ ap (λ k. Some k) (kinds r kind given had) in
      record {
        to = r;
        settled = link_is r ∙ links_stay node.ties n replacement are is_name apart names r Settled fit.0 is_settled;
        near = fit.1;
      }

  pub heeds_leave : HeedsLeave node after n replacement (words_of (leave_word node n replacement))
  heeds_leave = record {
    marked = link_is n ∙ leaver_marked node.ties n replacement are is_name apart names settled;
    stay = λ t kind other had. link_is t ∙ links_stay node.ties n replacement are is_name apart names t kind other had;
    new = λ t kind other now. new_or_old t kind other (link_to node t) refl (sym (link_is t) ∙ now);
    filled = λ r given. filled_by r given (link_to node r) refl;
    told = λ tie among.
        let word = told_is_new node.ties n replacement are is_name apart names node.stamp tie
        (one_of (leave_word node n replacement) tie among) in
        record { given = word.given; version = word.version; on = word.on; now = link_is tie.to ∙ word.now };
    once = λ one two first second.
        let here = one_of (leave_word node n replacement) one first in
        let there = one_of (leave_word node n replacement) two second in
        let same : Some one ≡ Some two = sym here ∙ there in cc;
    said = λ t kind none now.
        let tells = new_is_told node.ties n replacement are is_name apart names node.stamp t kind none (sym (link_is t) ∙ now) in
        let tie : Tie = record { to = t; version = node.stamp + 1; on = true } in
        (tie, subst (λ word. IsAmong tie (words_of word)) (sym tells) (inl refl), refl);
  }
