-- How many Releases a rule of joins has its node send a name, beside those that it owes it.
use Rattle.std.proofs.Common.{◌≡◌, ◌≢◌, ◌⊎◌, ℕ, nat_eq, ◌+◌, ◌<◌, ◌≤◌, suc, Bool, true, false, cond, if◌then◌else◌, List, [], ◌∷◌, get_or, length, map, Option, None, Some, arith, ap, refl, sym, subst, ◌∙◌, inl, inr}
use Rattle.std.specs.Prelude.{count_by, ◌&&◌, nat_lt}
use Rattle.std.specs.Ordering.{is_eq}
use Rattle.std.specs.declared.cmp.Ordering.TheVariants.{Less}
use Rattle.std.specs.Cmp.Lexicographic.{pointwise}
use Rattle.std.proofs.lemmas.Bool.{and_parts, cases_Bool}
use Rattle.std.proofs.lemmas.List.Elements.{All-head, All-tail}
use Rattle.tap_register.specs.declared.registers.Entry.{Entry}
use Rattle.tap_register.specs.Registers.{IsAscending, entry_of, newest}
use Rattle.tap_table.specs.Table.{name_cmp}
use Rattle.tap_table.specs.Ties.{TiesValue, held_word, is_on, says_on}
use Rattle.tap_table.proofs.Holders.{on}
use Rattle.tap_table.proofs.HoldersFound.{entry_of-held_word}
use Rattle.tap_table.proofs.Near.{apart_names, tied_itself}
use Rattle.tap_wire.specs.declared.frame.Body.{Body}
use Rattle.tap_wire.specs.declared.frame.Body.TheVariants.{Release}
use Rattle.tap_rule.specs.KeptNode.{IsNode}
use Rattle.tap_rule.specs.Node.{NodeState, Status, name_of}
use Rattle.tap_rule.specs.Node.Status.{Ceased, Core, Gone, Joining, Leaving}
use Rattle.tap_rule.specs.Joining.{becomes_core}
use Rattle.tap_rule.specs.Links.{is_new_link, takes_link_joining, with_word}
use Rattle.tap_rule.specs.Reaction.{Message, Reaction, message, sends, to_each}
use Rattle.tap_rule.specs.Sending.{message_frame}
use Rattle.tap_moves.proofs.Got.{same_name}
use Rattle.tap_bounds.proofs.Counting.{count-cons}
use Rattle.tap_bounds.specs.LinkBounds.{is_release, releases_pin}
use Rattle.tap_bounds.proofs.JoinRules.{AreUnreleasing, IsUnreleasing}
use Rattle.tap_bounds.proofs.Words.{apart_test, same_test}

-- ---- what is owed

abbrev pub owed_by : Status → TiesValue → List ℕ → ℕ
owed_by Joining ties x = cond (is_on ties x) 1 0
owed_by other ties x = 0

-- how many Releases a node owes a name: while it joins one if that is a holder that is on, and else none
abbrev pub owed : NodeState → List ℕ → ℕ
owed node x = owed_by node.status node.ties x

-- a rule sends, with what is owed afterwards, at most what was owed before, and these more
pub record ReleasesStep (node : NodeState) (said : List ℕ → ℕ) (r : Reaction) : Type 0 where
  pub each : (x : List ℕ) → count_by (is_release (name_of node) x) (map (message_frame (name_of node)) r.messages) + owed r.state x
      ≤ owed node x + said x

-- ---- counts of Releases

unreleasing_test : (body : Body) → IsUnreleasing body → releases_pin body ≡ false
unreleasing_test Release is = absurd is
unreleasing_test other is = refl

pub none_released : (own t x : List ℕ) (messages : List Message) → AreUnreleasing messages
    → count_by (is_release t x) (map (message_frame own) messages) ≡ 0
none_released own t x [] all = refl
none_released own t x (m ∷ messages) all =
    let here = unreleasing_test m.body (All-head (λ n. IsUnreleasing n.body) m messages all) in
    let first : cond {A = ℕ} (is_release t x (message_frame own m)) 1 0 ≡ 0 = rw here refl in
    let others = none_released own t x messages (All-tail (λ n. IsUnreleasing n.body) m messages all) in
    let both = count-cons (is_release t x) (message_frame own m) (map (message_frame own) messages) in
    omega (arith, first, others, both)

abbrev Word : Type 0
Word = Entry (List ℕ) Bool

module _ (own x : List ℕ) where
  -- how many of these names are x, as many Releases it is sent
  abbrev released_to : List (List ℕ) → ℕ
  released_to names = count_by (is_release own x) (map (message_frame own) (to_each Release names))

  one_more : (name : List ℕ) (names : List (List ℕ))
      → released_to (name ∷ names) ≡ cond {A = ℕ} (pointwise nat_eq name x) 1 0 + released_to names
  one_more name names =
      let own_is = same_test own in
      let all = count-cons (is_release own x) (message_frame own (message name Release))
      (map (message_frame own) (to_each Release names)) in
      let here : cond {A = ℕ} (is_release own x (message_frame own (message name Release))) 1 0
      ≡ cond {A = ℕ} (pointwise nat_eq name x) 1 0 = rw own_is refl in
      omega (arith, all, here)

  -- none of the holders that come after x is x
  none_later : (words : List Word) → ((j : ℕ) (d : Word) → j < length words → name_cmp x (get_or words j d).key ≡ Less)
      → released_to (on words) ≡ 0
  none_later [] above = refl
  none_later (w ∷ words) above =
      let rest = none_later words (λ j d within. above (suc j) d (omega arith)) in
      elim (cases_Bool w.value) [
        | inl is ↦
            let less : name_cmp x w.key ≡ Less = above 0 w (omega arith) in
            let apart : w.key ≢ x = λ same.
            let tied : is_eq (name_cmp x w.key) ≡ true = ap (λ k. is_eq (name_cmp x k)) same ∙ tied_itself x in
            let untied : is_eq (name_cmp x w.key) ≡ false = ap is_eq less in
            let wrong : true ≡ false = sym tied ∙ untied in cc in
            let more = one_more w.key (on words) in
            let here : cond {A = ℕ} (pointwise nat_eq w.key x) 1 0 ≡ 0 = rw (apart_test w.key x apart) refl in
            rw is (omega (arith, rest, more, here))
        | inr isnt ↦ rw isnt rest
      ]

  on_here : (w : Word) (words : List Word) → IsAscending name_cmp (w ∷ words) → w.key ≡ x
      → released_to (on (w ∷ words)) ≤ cond {A = ℕ} w.value 1 0
  on_here w words ascending same =
      let rest = none_later words (λ j d within. subst (λ k. name_cmp k (get_or words j d).key ≡ Less) same
      (ascending 0 (suc j) d (omega arith) (omega arith))) in
      elim (cases_Bool w.value) [
        | inl is ↦
            let more = one_more w.key (on words) in
            let here : cond {A = ℕ} (pointwise nat_eq w.key x) 1 0 ≡ 1 = rw (same, same_test x) refl in
            rw is (omega (arith, rest, more, here))
        | inr isnt ↦ rw isnt (omega (arith, rest))
      ]

  on_elsewhere : (w : Word) (words : List Word) → w.key ≢ x → released_to (on (w ∷ words)) ≡ released_to (on words)
  on_elsewhere w words apart =
      elim (cases_Bool w.value) [
        | inl is ↦
            let more = one_more w.key (on words) in
            let here : cond {A = ℕ} (pointwise nat_eq w.key x) 1 0 ≡ 0 = rw (apart_test w.key x apart) refl in
            rw is (omega (arith, more, here))
        | inr isnt ↦ rw isnt refl
      ]

  -- a holder is on once, if its word says so
  on_once : (words : List Word) → IsAscending name_cmp words
      → released_to (on words) ≤ cond {A = ℕ} (says_on (entry_of name_cmp words x)) 1 0
  on_once [] ascending = omega arith
  on_once (w ∷ words) ascending =
      elim (same_name w.key x) [
        | inl same ↦
            let tied : is_eq (name_cmp w.key x) ≡ true = ap (λ k. is_eq (name_cmp k x)) same ∙ tied_itself x in
            let one = on_here w words ascending same in
            rw tied one
        | inr apart ↦
            let untied = apart_names w.key x apart in
            let rest = on_once words (λ i j d before within. ascending (suc i) (suc j) d (omega arith) (omega arith)) in
            let same = on_elsewhere w words apart in
            rw untied (omega (arith, rest, same))
      ]

-- ---- rules

-- such messages alone, while status and holders stay
pub stays_owed : (node : NodeState) (said : List ℕ → ℕ) (r : Reaction) → AreUnreleasing r.messages → r.state.status ≡ node.status
    → r.state.ties.holders ≡ node.ties.holders → ReleasesStep node said r
stays_owed node said r all status holders = record {
  each = λ x.
      let none = none_released (name_of node) (name_of node) x r.messages all in
      let one = ap (λ st. owed_by st r.state.ties x) status in
      let two = same_owed node.status x in
      omega (arith, none, one, two);
}
  where
    same_owed : (status : Status) (x : List ℕ) → owed_by status r.state.ties x ≡ owed_by status node.ties x
    same_owed Joining x = ap (λ (ws : List Word). cond {A = ℕ} (says_on (entry_of name_cmp ws x)) 1 0) holders
    same_owed Core x = refl
    same_owed Leaving x = refl
    same_owed Gone x = refl
    same_owed Ceased x = refl

-- a node that becomes core sends what it owes
pub pays_owed : (node : NodeState) (said : List ℕ → ℕ) → IsNode node → node.status ≡ Joining
    → ReleasesStep node said (becomes_core node)
pays_owed node said is at = record {
  each = λ x.
      let once = on_once (name_of node) x node.ties.holders is.ties.ascending in
      let before : owed node x ≡ cond {A = ℕ} (is_on node.ties x) 1 0 = ap (λ st. owed_by st node.ties x) at in
      omega (arith, once, before);
}

-- one for a Link that says that there is a link, if it is from this name
abbrev pub said_on : List ℕ → Bool → List ℕ → ℕ
said_on from on x = cond (on && pointwise nat_eq from x) 1 0

-- the newer of two words says no more than both
newest_on : (before : Option Word) (word : Word) → says_on (Some (newest before word)) ≡ true
    → (says_on before ≡ true) ⊎ (word.value ≡ true)
newest_on None word is = inr is
newest_on (Some old) word is = by (nat_lt old.version word.version) is
  where
    by : (newer : Bool) → (if newer then word else old).value ≡ true → (old.value ≡ true) ⊎ (word.value ≡ true)
    by true says = inr says
    by false says = inl says

module _ (ties : TiesValue) (from : List ℕ) (version : ℕ) (on : Bool) (x : List ℕ) where
  abbrev after : Bool
  after = is_on (held_word ties from version on) x

  on_later : after ≡ true → (is_on ties x ≡ true) ⊎ ((on ≡ true) × (from ≡ x))
  on_later is =
      let entry = entry_of-held_word ties from version on x in
      elim (same_name from x) [
        | inl same ↦
            let tied : is_eq (name_cmp from x) ≡ true = ap (λ k. is_eq (name_cmp k x)) same ∙ tied_itself x in
            let word : Word = record { key = from; version = version; value = on } in
            let here : entry_of name_cmp (held_word ties from version on).holders x
            ≡ Some (newest (entry_of name_cmp ties.holders from) word) = entry ∙ rw tied refl in
            elim (newest_on (entry_of name_cmp ties.holders from) word (ap says_on (sym here) ∙ is)) [
              | inl was ↦ inl (ap (λ k. says_on (entry_of name_cmp ties.holders k)) (sym same) ∙ was)
              | inr new ↦ inr (new, same)
            ]
        | inr apart ↦
            let untied = apart_names from x apart in
            let kept : entry_of name_cmp (held_word ties from version on).holders x ≡ entry_of name_cmp ties.holders x =
            entry ∙ rw untied refl in
            inl (ap says_on (sym kept) ∙ is)
      ]

  pub word_owes : cond {A = ℕ} after 1 0 ≤ cond {A = ℕ} (is_on ties x) 1 0 + said_on from on x
  word_owes =
      elim (cases_Bool after) [
        | inl is ↦ elim (on_later is) [
          | inl was ↦ rw (is, was) (omega arith)
          | inr new ↦
              let one : said_on from on x ≡ 1 = rw (new.0, new.1, same_test x) refl in
              rw is (omega (arith, one))
        ]
        | inr isnt ↦ rw isnt (omega arith)
      ]

-- a joining node that hears a word owes one more at most
pub hears_owed : (node : NodeState) (from : List ℕ) (version : ℕ) (on : Bool) → node.status ≡ Joining
    → ReleasesStep node (said_on from on) (takes_link_joining node from version on)
hears_owed node from version on at = record {
  each = λ x.
      let before : owed node x ≡ cond {A = ℕ} (is_on node.ties x) 1 0 = ap (λ st. owed_by st node.ties x) at in
      let now : owed (takes_link_joining node from version on).state x ≡ cond {A = ℕ} (is_on (held_word node.ties from version on) x) 1 0 =
      ap (λ st. owed_by st (held_word node.ties from version on) x) at in
      let more = word_owes node.ties from version on x in
      omega (arith, before, now, more);
}

-- a core node that hears a word answers it at most once
pub answers_owed : (node : NodeState) (from : List ℕ) (version : ℕ) (on new : Bool) → is_new_link node from version on ≡ new
    → node.status ≡ Core
    → ReleasesStep node (said_on from on) (sends (with_word node from version on) (if new then message from Release ∷ [] else []))
answers_owed node from version on new is at = record {
  each = λ x.
      let now : owed (with_word node from version on) x ≡ 0 = ap (λ st. owed_by st (held_word node.ties from version on) x) at in
      let sent = by new is x in
      omega (arith, now, sent);
}
  where
    by : (new : Bool) → is_new_link node from version on ≡ new → (x : List ℕ)
        → count_by (is_release (name_of node) x) (map (message_frame (name_of node)) (if new then message from Release ∷ [] else []))
        ≤ said_on from on x
    by true is x =
        let says : on ≡ true = (and_parts _ on is).1 in
        let one = one_more (name_of node) x from [] in
        let same : said_on from on x ≡ cond {A = ℕ} (pointwise nat_eq from x) 1 0 = rw says refl in
        omega (arith, one, same)
    by false is x = omega arith
