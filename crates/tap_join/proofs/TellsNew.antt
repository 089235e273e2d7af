-- Whom a Hello makes a joining node tell: exactly the nodes to which it has a new link, each once, with the next numbers.
-- Cited above: hello_tells_new, TellsNew
use Rattle.std.proofs.Common.{◌≡◌, ◌≢◌, ◌&&◌, ℕ, ◌+◌, ◌<◌, zero, suc, Bool, true, Option, None, Some, List, [], ◌∷◌, ◌++◌, slice_get, All, arith, ap, sym, refl, ◌∙◌, inl, inr}
use Rattle.std.specs.Option.{is_none}
use Rattle.std.proofs.lemmas.Bool.{and_parts}
use Rattle.std.proofs.lemmas.List.Elements.{All-head, All-tail}
use Rattle.tap_name.specs.declared.slot.Offered.{Offered}
use Rattle.tap_name.specs.Name.{IsName}
use Rattle.tap_name.specs.Settings.{SettingsValue}
use Rattle.tap_link.specs.declared.kind.Kind.{Kind}
use Rattle.tap_link.specs.declared.kind.Kind.TheVariants.{Pin, Settled}
use Rattle.tap_link.proofs.TargetKinds.{kind_offered, kind_pinned}
use Rattle.tap_table.specs.declared.tie.Tie.{Tie}
use Rattle.tap_table.specs.Table.{has_room_near, kind_in}
use Rattle.tap_table.specs.Ties.{TiesValue, stamp_after}
use Rattle.tap_table.proofs.LookUps.{kind_in-offered, kind_in-pinned, of_itself}
use Rattle.tap_table.proofs.NewLinks.{link_word, offered_rule_new, pinned_rule_new, word_given}
use Rattle.tap_join.specs.Hello.{after_hello, after_links, hello_names, hello_tells, links_tell, offered_tells, with_offered, words_of}
use Rattle.tap_join.proofs.Hellos.{AreOf, HasLink, IsNamed, all_named, kind_stays, links_stay, named, of_one, offered_cases}

-- The words that some ties make a node give, which it had before and has after: they are for exactly the nodes that are
-- newly linked, one for each, with the numbers after the last one, in order.
pub record TellsNew (before after : TiesValue) (last : ℕ) (told : List Tie) : Type 0 where
  pub numbered : (i : ℕ) (tie : Tie) → slice_get told i ≡ Some tie → (tie.version ≡ last + i + 1) × (tie.on ≡ true)
  pub newly : (i : ℕ) (tie : Tie) → slice_get told i ≡ Some tie → (kind_in before.table tie.to ≡ None) × HasLink after tie.to
  pub each : (name : List ℕ) → kind_in before.table name ≡ None → HasLink after name
      → (i : ℕ) × (tie : Tie) × (slice_get told i ≡ Some tie) × (tie.to ≡ name)
  pub once : (i j : ℕ) (one other : Tie) → i < j → slice_get told i ≡ Some one → slice_get told j ≡ Some other → one.to ≢ other.to

-- each link stays, with its kind
abbrev KeepsLinks : TiesValue → TiesValue → Type 0
KeepsLinks before after = (name : List ℕ) (kind : Kind) → kind_in before.table name ≡ Some kind → kind_in after.table name ≡ Some kind

no_kind : (found : Option Kind) → is_none found ≡ true → found ≡ None
no_kind None is = refl
no_kind (Some kind) is = cc

module _ (p : SettingsValue) (owner : List ℕ) where
  -- a word for one name of a Hello is for a node that had no link, and has one now
  record IsNewWord (before after : TiesValue) (last : ℕ) (tie : Tie) : Type 0 where
    version : tie.version ≡ last + 1
    on : tie.on ≡ true
    was : kind_in before.table tie.to ≡ None
    now : HasLink after tie.to

  module _ (ties : TiesValue) (link : Offered) (is_name : IsNamed p owner link) (are : AreOf p owner ties) (last : ℕ) where
    new_word : (after : TiesValue) (kind : Kind) (tie : Tie) → link_word last link.name ≡ tie → kind_in ties.table link.name ≡ None
        → kind_in after.table link.name ≡ Some kind → IsNewWord ties after last tie
    new_word after kind tie same was now =
        let to : link.name ≡ tie.to = ap (λ (w : Tie). w.to) same in
        record {
          version = sym (ap (λ (w : Tie). w.version) same);
          on = sym (ap (λ (w : Tie). w.on) same);
          was = ap (kind_in ties.table) (sym to) ∙ was;
          now = (kind, ap (kind_in after.table) (sym to) ∙ now);
        }

    word_is_new : (tie : Tie) → offered_tells ties last link ≡ Some tie → IsNewWord ties (with_offered ties link) last tie
    word_is_new tie =
        offered_cases (λ after word. word ≡ Some tie → IsNewWord ties after last tie) ties last link (λ own is. cc)
        (λ apart core is. let room = has_room_near ties.table link.name in
        let given = word_given (is_none (kind_in ties.table link.name) && room) last link.name tie is in
        let parts = and_parts (is_none (kind_in ties.table link.name)) room given.0 in
        let was = no_kind (kind_in ties.table link.name) parts.0 in
        let now = kind_in-offered ties.table link.name are.0.table (named p owner ties link is_name are) apart link.name
        ∙ of_itself link.name (kind_offered room) (kind_in ties.table link.name) in
        new_word _ Settled tie given.1 was (now ∙ rw (was, parts.1) refl))
        (λ apart joining is. let given = word_given (is_none (kind_in ties.table link.name)) last link.name tie is in
        let was = no_kind (kind_in ties.table link.name) given.0 in
        let now = kind_in-pinned ties.table link.name are.0.table (named p owner ties link is_name are) apart link.name
        ∙ of_itself link.name kind_pinned (kind_in ties.table link.name) in
        new_word _ Pin tie given.1 was (now ∙ rw was refl))

    -- and a node that is newly linked has its word
    new_has_word : (name : List ℕ) (kind : Kind) → kind_in ties.table name ≡ None → kind_in (with_offered ties link).table name ≡ Some kind
        → offered_tells ties last link ≡ Some (link_word last name)
    new_has_word name kind was =
        offered_cases (λ after word. kind_in after.table name ≡ Some kind → word ≡ Some (link_word last name)) ties last link
        (λ own is. let wrong : None ≡ Some kind = sym was ∙ is in cc)
        (λ apart core is. let room = has_room_near ties.table link.name in
        let ruled = sym (kind_in-offered ties.table link.name are.0.table (named p owner ties link is_name are) apart name) ∙ is in
        elim (offered_rule_new link.name name room (kind_in ties.table name) kind ruled) [
          | inl there ↦ let wrong : None ≡ Some kind = sym was ∙ there in cc
          | inr new ↦
              let absent : kind_in ties.table link.name ≡ None = ap (kind_in ties.table) (sym new.0) ∙ was in
              rw (absent, new.2) (ap (λ n. Some (link_word last n)) (sym new.0))
        ])
        (λ apart joining is. let ruled =
        sym (kind_in-pinned ties.table link.name are.0.table (named p owner ties link is_name are) apart name) ∙ is in
        elim (pinned_rule_new link.name name (kind_in ties.table name) kind ruled) [
          | inl there ↦ let wrong : None ≡ Some kind = sym was ∙ there in cc
          | inr new ↦
              let absent : kind_in ties.table link.name ≡ None = ap (kind_in ties.table) (sym new.0) ∙ was in
              rw absent (ap (λ n. Some (link_word last n)) (sym new.0))
        ])

    -- what has no link after one name had none before
    unlinked_before : (name : List ℕ) → kind_in (with_offered ties link).table name ≡ None → kind_in ties.table name ≡ None
    unlinked_before name none = by_kind (kind_in ties.table name) refl
      where
        by_kind : (found : Option Kind) → kind_in ties.table name ≡ found → kind_in ties.table name ≡ None
        by_kind None is = is
        by_kind (Some kind) is =
            let stays = kind_stays p owner ties link is_name are name kind is in let wrong : None ≡ Some kind = sym none ∙ stays in cc

    -- the words for one name and for the names after it
    module _ (after : TiesValue) (stays : KeepsLinks (with_offered ties link) after) where
      abbrev next : TiesValue
      next = with_offered ties link

      without_word : (told : List Tie) → offered_tells ties last link ≡ None → TellsNew next after last told
          → TellsNew ties after last told
      without_word told none rest =
          record {
            numbered = rest.numbered;
            newly = λ i tie got. let new = rest.newly i tie got in (unlinked_before tie.to new.0, new.1);
            each = λ name was has. by_kind name was has (kind_in next.table name) refl;
            once = rest.once;
          }
        where
          by_kind : (name : List ℕ) → kind_in ties.table name ≡ None → HasLink after name → (found : Option Kind)
              → kind_in next.table name ≡ found → (i : ℕ) × (tie : Tie) × (slice_get told i ≡ Some tie) × (tie.to ≡ name)
          by_kind name was has None is = rest.each name is has
          by_kind name was has (Some kind) is =
              let wrong : None ≡ Some (link_word last name) = sym none ∙ new_has_word name kind was is in cc

      with_word : (told : List Tie) (tie : Tie) → offered_tells ties last link ≡ Some tie → TellsNew next after tie.version told
          → TellsNew ties after last (tie ∷ told)
      with_word told tie some rest = record { numbered = numbers; newly = new; each = all; once = twice }
        where
          first : IsNewWord ties next last tie
          first = word_is_new tie some

          numbers : (i : ℕ) (word : Tie) → slice_get (tie ∷ told) i ≡ Some word → (word.version ≡ last + i + 1) × (word.on ≡ true)
          numbers zero word got =
              let same : tie ≡ word = cc in
              let version = sym (ap (λ (w : Tie). w.version) same) ∙ first.version in
              (omega (arith, version), sym (ap (λ (w : Tie). w.on) same) ∙ first.on)
          numbers (suc i) word got =
              let later = rest.numbered i word got in let version = first.version in (omega (arith, later.0, version), later.1)

          new : (i : ℕ) (word : Tie) → slice_get (tie ∷ told) i ≡ Some word → (kind_in ties.table word.to ≡ None) × HasLink after word.to
          new zero word got =
              let same : tie ≡ word = cc in
              let to : tie.to ≡ word.to = ap (λ (w : Tie). w.to) same in (
                ap (kind_in ties.table) (sym to) ∙ first.was,
                (first.now.0, ap (kind_in after.table) (sym to) ∙ stays tie.to first.now.0 first.now.1),
              )
          new (suc i) word got = let later = rest.newly i word got in (unlinked_before word.to later.0, later.1)

          by_kind : (name : List ℕ) → kind_in ties.table name ≡ None → HasLink after name → (found : Option Kind)
              → kind_in next.table name ≡ found → (i : ℕ) × (word : Tie) × (slice_get (tie ∷ told) i ≡ Some word) × (word.to ≡ name)
          by_kind name was has None is = let later = rest.each name is has in (suc later.0, later.1, later.2, later.3)
          by_kind name was has (Some kind) is =
              let same : Some tie ≡ Some (link_word last name) = sym some ∙ new_has_word name kind was is in
              let named : tie ≡ link_word last name = cc in
              (0, tie, refl, ap (λ (w : Tie). w.to) named)

          all : (name : List ℕ) → kind_in ties.table name ≡ None → HasLink after name
              → (i : ℕ) × (word : Tie) × (slice_get (tie ∷ told) i ≡ Some word) × (word.to ≡ name)
          all name was has = by_kind name was has (kind_in next.table name) refl

          twice : (i j : ℕ) (one other : Tie) → i < j → slice_get (tie ∷ told) i ≡ Some one → slice_get (tie ∷ told) j ≡ Some other
              → one.to ≢ other.to
          twice i zero one other before got_one got_other same = absurd (omega (arith, before))
          twice zero (suc j) one other before got_one got_other same =
              let is : tie ≡ one = cc in
              let later = rest.newly j other got_other in
              let to : tie.to ≡ other.to = ap (λ (w : Tie). w.to) is ∙ same in
              let wrong : None ≡ Some first.now.0 = sym later.0 ∙ ap (kind_in next.table) (sym to) ∙ first.now.1 in cc
          twice (suc i) (suc j) one other before got_one got_other same =
              rest.once i j one other (omega (arith, before)) got_one got_other same

  -- the words for the names of a list, one after another
  pub links_tell_new : (links : List Offered) (ties : TiesValue) (last : ℕ) → All (IsNamed p owner) links → AreOf p owner ties
      → TellsNew ties (after_links ties links) last (links_tell ties last links)
  links_tell_new [] ties last names are =
      record {
        numbered = λ i tie got. cc;
        newly = λ i tie got. cc;
        each = λ name was has. let wrong : None ≡ Some has.0 = sym was ∙ has.1 in cc;
        once = λ i j one other before got_one got_other same. cc;
      }
  links_tell_new (link ∷ links) ties last names are =
      let is_name = All-head (IsNamed p owner) link links names in
      let others = All-tail (IsNamed p owner) link links names in
      let next_are = of_one p owner ties link is_name are in
      by_word is_name (links_stay p owner links (with_offered ties link) others next_are)
      (λ n. links_tell_new links (with_offered ties link) n others next_are) (offered_tells ties last link) refl
    where
      after : TiesValue
      after = after_links (with_offered ties link) links

      by_word : IsNamed p owner link → KeepsLinks (with_offered ties link) after
          → ((n : ℕ) → TellsNew (with_offered ties link) after n (links_tell (with_offered ties link) n links))
          → (word : Option Tie) → offered_tells ties last link ≡ word
          → TellsNew ties after last (words_of word ++ links_tell (with_offered ties link) (stamp_after last word) links)
      by_word is_name stays rest None none =
          without_word ties link is_name are last after stays (links_tell (with_offered ties link) last links) none (rest last)
      by_word is_name stays rest (Some tie) some =
          with_word ties link is_name are last after stays (links_tell (with_offered ties link) tie.version links) tie some
          (rest tie.version)

  -- a Hello makes the node tell exactly those to which it has a new link
  pub hello_tells_new : (ties : TiesValue) (last : ℕ) (from : List ℕ) (core : Bool) (links : List Offered) → AreOf p owner ties
      → IsName p from → All (IsNamed p owner) links
      → TellsNew ties (after_hello ties from core links) last (hello_tells ties last from core links)
  hello_tells_new ties last from core links are sender names =
      links_tell_new (hello_names from core links) ties last (all_named p owner ties are from core links sender names) are
