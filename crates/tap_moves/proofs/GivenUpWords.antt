-- The Done of a join that was given up: what is said of links stands.
-- Cited above: given_up_words
use Rattle.std.proofs.Common.{◌≡◌, ◌⊎◌, ℕ, zero, suc, ◌+◌, ◌<◌, ◌≤◌, Bool, true, false, List, [], ◌∷◌, Option, None, Some, slice_get, arith, ap, refl, sym, subst, ◌∙◌, inl, inr}
use Rattle.std.proofs.lemmas.Bool.{cases_lt}
use Rattle.std.proofs.lemmas.Option.{get_or_from_slice_get}
use Rattle.tap_name.specs.Names.{AreDistinct}
use Rattle.tap_name.specs.Order.{name_cmp}
use Rattle.tap_name.specs.Settings.{SettingsValue}
use Rattle.tap_name.proofs.Sorted.{distinct-from_ascending}
use Rattle.tap_link.specs.declared.kind.Kind.{Kind}
use Rattle.tap_link.specs.declared.kind.Kind.TheVariants.{Pin}
use Rattle.tap_register.specs.Registers.{entry_of}
use Rattle.tap_register.specs.declared.registers.Entry.{Entry}
use Rattle.tap_table.specs.ByName.{targets_by_name}
use Rattle.tap_table.specs.Ties.{holders_on, off_ties, says_on}
use Rattle.tap_table.specs.declared.tie.Tie.{Tie}
use Rattle.tap_table.proofs.HoldersFound.{on_exactly}
use Rattle.tap_table.proofs.OffTies.{linked_is_let_go}
use Rattle.tap_table.proofs.Targets.{targets-ascending}
use Rattle.tap_wire.specs.declared.frame.Body.TheVariants.{Done, Forget, Link, Release}
use Rattle.tap_wire.specs.declared.frame.Frame.{Frame}
use Rattle.tap_rule.specs.EndSteps.{words_at_end}
use Rattle.tap_rule.specs.Event.{Acted}
use Rattle.tap_rule.specs.RuleLaws.{frame_to}
use Rattle.tap_rule.specs.Node.{NodeState, link_to, name_of, word_of}
use Rattle.tap_rule.specs.Node.Status.{Ceased as CeasedStatus, Core, Joining}
use Rattle.tap_rule.specs.Reaction.{Message, message}
use Rattle.tap_rule.specs.Sent.{IsAmong}
use Rattle.tap_rule.proofs.Among.{among-map, among-map_from}
use Rattle.tap_safety.specs.Bookkeeping.{has_table}
use Rattle.tap_safety.specs.Ceased.{Ceased, CoreOrJoining, SaysSo}
use Rattle.tap_safety.specs.Remembered.{TieWord}
use Rattle.tap_safety.specs.Exchanges.{IsSent}
use Rattle.tap_safety.specs.System.{System, IsUnderWay}
use Rattle.tap_safety.specs.Ties.{IsNoNewer, IsOnWay, LastIs, Stands, TiesAreTold, Versions, hears_words, link_in, link_of, register_in, register_of, status_in, status_of, tie_word_kept, word_frame}
use Rattle.tap_safety.specs.Regions.{Pins}
use Rattle.tap_safety.proofs.FrameWords.{last_cases}
use Rattle.tap_safety.proofs.UnderWay.{sent_under_way, was_under_way}
use Rattle.tap_safety.proofs.WordsKept.{at_link, link_at}
use Rattle.tap_moves.specs.ByRule.{taken_at}
use Rattle.tap_moves.specs.Delivered.{after_delivery}
use Rattle.tap_moves.specs.InvariantLaws.{IsDelivery}
use Rattle.tap_moves.specs.TiesLaws.{WordsStand}
use Rattle.tap_moves.proofs.Got.{among_got, same_name}
use Rattle.tap_moves.proofs.InvariantMoves.{due}
use Rattle.tap_moves.specs.GivenUp.{GivenUpWords}
use Rattle.tap_moves.proofs.GivenUp.{joins, off_numbered, step, still, taken}
use Rattle.tap_moves.proofs.LinkEnds.{joining_said}
use Rattle.tap_moves.proofs.Stamped.{got_among, got_within}
use Rattle.tap_moves.proofs.WordsAnew.{among_names, has_done, is_taken}

-- ---- the words for the links that are let go

off_target : (last : ℕ) (names : List (List ℕ)) (i : ℕ) (word : Tie) → slice_get (off_ties last names) i ≡ Some word
    → slice_get names i ≡ Some word.to
off_target last [] i word got = cc
off_target last (name ∷ names) zero word got =
    let same : record { to = name; version = last + 1; on = false } ≡ word = cc in
    ap (λ (w : Tie). Some w.to) same
off_target last (name ∷ names) (suc i) word got = off_target (last + 1) names i word got

off_off : (last : ℕ) (names : List (List ℕ)) (word : Tie) → IsAmong word (off_ties last names) → word.on ≡ false
off_off last [] word among = absurd among
off_off last (name ∷ names) word (inl is) = ap (λ (w : Tie). w.on) is
off_off last (name ∷ names) word (inr later) = off_off (last + 1) names word later

-- of one place there is one word
same_place : (words : List Tie) (i j : ℕ) (one two : Tie) → i ≡ j → slice_get words i ≡ Some one → slice_get words j ≡ Some two → one ≡ two
same_place words i j one two place first second =
    let both : Some one ≡ Some two = sym first ∙ ap (slice_get words) place ∙ second in cc

-- of two places of distinct names the names differ
places_differ : (names : List (List ℕ)) → AreDistinct names → (i j : ℕ) (a b : List ℕ) → i < j → slice_get names i ≡ Some a
    → slice_get names j ≡ Some b → a ≡ b → ⊥
places_differ names distinct i j a b less first second same =
    distinct i j a less (got_within names j b second)
    (get_or_from_slice_get names i a a first ∙ same ∙ sym (get_or_from_slice_get names j b a second))

-- of one name there is one word
off_once : (last : ℕ) (names : List (List ℕ)) → AreDistinct names → (one two : Tie) → IsAmong one (off_ties last names)
    → IsAmong two (off_ties last names) → one.to ≡ two.to → one ≡ two
off_once last names distinct one two first second same =
    let at = got_among one (off_ties last names) first in
    let other = got_among two (off_ties last names) second in
    let here = off_target last names at.0 one at.1 in
    let there = off_target last names other.0 two other.1 in
    elim (cases_lt at.0 other.0) [
      | inl less ↦ absurd (places_differ names distinct at.0 other.0 one.to two.to less here there same)
      | inr most ↦ elim (cases_lt other.0 at.0) [
        | inl less ↦ absurd (places_differ names distinct other.0 at.0 two.to one.to less there here (sym same))
        | inr least ↦
            same_place (off_ties last names) at.0 other.0 one two (omega (arith, most, least)) at.1 other.1
      ]
    ]

-- a word of this node to t, as a tie
record IsSaidTo (own : List ℕ) (words : List Tie) (y t : List ℕ) (word : TieWord) : Type 0 where
  from : y ≡ own
  tie : Tie
  among : IsAmong tie words
  to : t ≡ tie.to
  version : word.version ≡ tie.version
  on : word.on ≡ tie.on

same_word : (one two : TieWord) → one.version ≡ two.version → one.on ≡ two.on → one ≡ two
same_word one two version on =
    let by_version : ℕ → TieWord = λ n. record { version = n; on = one.on } in
    let by_on : Bool → TieWord = λ b. record { version = two.version; on = b } in
    ap by_version version ∙ ap by_on on

module _ (p : SettingsValue) (s : System) (number : ℕ) (node : NodeState) (from : List ℕ) (is : IsDelivery p s number node from Done)
    (given_up : node.abandoned ≡ true) where
  abbrev after : System
  after = after_delivery p s number

  abbrev acted : Acted
  acted = taken_at node from Done

  abbrev own : List ℕ
  own = name_of node

  abbrev words : List Tie
  words = words_at_end node

  -- ---- look-ups

  status_there : (y : List ℕ) → (y ≡ own → ⊥) → status_of after y ≡ status_of s y
  unfolding status_of
  status_there y apart =
      elim ((taken p s number node from is given_up).at.others y) [ inl here ↦ absurd (apart here) | inr same ↦ ap status_in same ]

  status_was : status_of s own ≡ Some Joining
  unfolding status_of
  status_was = ap status_in is.at ∙ ap (λ status. Some status) (joins p s number node from is given_up)

  status_now : status_of after own ≡ Some CeasedStatus
  unfolding status_of
  status_now =
      ap status_in (taken p s number node from is given_up).at.is
      ∙ ap (λ status. Some status) (step p s number node from is given_up).status

  link_there : (y t : List ℕ) → (y ≡ own → ⊥) → link_of after y t ≡ link_of s y t
  unfolding link_of
  link_there y t apart =
      elim ((taken p s number node from is given_up).at.others y) [
        | inl here ↦ absurd (apart here)
        | inr same ↦ ap (λ n. link_in n t) same
      ]

  link_now : (t : List ℕ) → link_of after own t ≡ None
  unfolding link_of
  link_now t =
      ap (λ n. link_in n t) (taken p s number node from is given_up).at.is ∙ (step p s number node from is given_up).unlinked t

  link_was : (t : List ℕ) → link_of s own t ≡ link_to node t
  unfolding link_of
  link_was t = ap (λ n. link_in n t) is.at

  register_there : (t y : List ℕ) → (t ≡ own → ⊥) → register_of after t y ≡ register_of s t y
  unfolding register_of
  register_there t y apart =
      elim ((taken p s number node from is given_up).at.others t) [
        | inl here ↦ absurd (apart here)
        | inr same ↦ ap (λ n. register_in n y) same
      ]

  register_now : (y : List ℕ) → register_of after own y ≡ None
  unfolding register_of
  register_now y =
      ap (λ n. register_in n y) (taken p s number node from is given_up).at.is
      ∙ ap (λ holders. tie_word_kept (entry_of name_cmp holders y)) (step p s number node from is given_up).unheld

  register_was : (y : List ℕ) → register_of s own y ≡ tie_word_kept (word_of node y)
  unfolding register_of
  register_was y = ap (λ n. register_in n y) is.at

  last_there : (y t : List ℕ) → (y ≡ own → ⊥) → after.last y t ≡ s.last y t
  last_there y t apart =
      elim ((has_done p s number node from Done is).others_words y t) [ inl here ↦ absurd (apart here) | inr same ↦ same ]

  -- who hears words is another node, and so is who has a link
  hearer_apart : (t : List ℕ) → hears_words (status_of after t) → t ≡ own → ⊥
  hearer_apart t hears here =
      let never : ⊥ = subst hears_words (ap (status_of after) here ∙ status_now) hears in never

  linked_apart : (y t : List ℕ) (kind : Kind) → link_of after y t ≡ Some kind → y ≡ own → ⊥
  linked_apart y t kind link here =
      let wrong : None ≡ Some kind = sym (link_now t) ∙ ap (λ v. link_of after v t) (sym here) ∙ link in cc

  hears_was : (t : List ℕ) → hears_words (status_of after t) → hears_words (status_of s t)
  hears_was t hears = subst hears_words (status_there t (hearer_apart t hears)) hears

  -- ---- words under way

  word_still : (y t : List ℕ) (word : TieWord) → IsOnWay s (word_frame y t word) → IsOnWay after (word_frame y t word)
  word_still y t word way = still p s number node from is given_up y t (Link word.version word.on) (λ same. cc) way

  said_to : (y t : List ℕ) (word : TieWord) → IsSent acted.sent y t (Link word.version word.on) → IsSaidTo own words y t word
  said_to y t word sends =
      elim ((step p s number node from is given_up).sent.each (record { from = y; to = t; body = Link word.version word.on }) sends) [
        | inl link ↦
            let body : Link word.version word.on ≡ Link link.word.version link.word.on = ap (λ (f : Frame). f.body) link.is in
            let version : word.version ≡ link.word.version = cc in
            let on : word.on ≡ link.word.on = cc in
            record {
              from = ap (λ (f : Frame). f.from) link.is;
              tie = link.word;
              among = link.among;
              to = ap (λ (f : Frame). f.to) link.is;
              version = version;
              on = on;
            }
        | inr (inl named) ↦
            let found = among-map_from (λ name. message name Forget) named.message (holders_on node.ties) named.among in
            let wrong : Link word.version word.on ≡ Forget =
            ap (λ (f : Frame). f.body) named.is ∙ ap (λ (n : Message). n.body) found.2 in
            absurd (cc)
        | inr (inr lay) ↦ let wrong = ap (λ (f : Frame). f.body) lay.is in absurd (cc)
      ]

  word_was : (y t : List ℕ) (word : TieWord) → IsOnWay after (word_frame y t word)
      → IsOnWay s (word_frame y t word) ⊎ IsSaidTo own words y t word
  word_was y t word way =
      elim (was_under_way s after number (frame_to node from Done) acted.sent (is_taken p s number node from Done is) y t
      (Link word.version word.on) way) [
        | inl old ↦ inl old
        | inr sends ↦ inr (said_to y t word sends)
      ]

  -- a word that is said has a number that the stamp had not given
  above_stamp : (y t : List ℕ) (word : TieWord) → IsSaidTo own words y t word → node.stamp < word.version
  above_stamp y t word said =
      let at = got_among said.tie words said.among in
      let number = off_numbered node.stamp (targets_by_name node.ties.table) at.0 said.tie at.1 in
      let same = said.version in
      omega (arith, number, same)

  -- and the last word before has one that it had
  below_stamp : (t : List ℕ) (word : TieWord) → s.last own t ≡ Some word → word.version ≤ node.stamp
  below_stamp t word last =
      is.invariant.stamped.stamp own t word node is.at (subst has_table (sym (joins p s number node from is given_up)) tt) last

  said_once : (t : List ℕ) (one two : TieWord) → IsSaidTo own words own t one → IsSaidTo own words own t two → one ≡ two
  said_once t one two first second =
      let ties = (due p s number node from Done is).is_node.ties in
      let names = targets_by_name node.ties.table in
      let tie : first.tie ≡ second.tie =
      off_once node.stamp names (distinct-from_ascending names (targets-ascending node.ties.table ties.table)) first.tie second.tie
      first.among second.among (sym first.to ∙ second.to) in
      same_word one two (first.version ∙ ap (λ (w : Tie). w.version) tie ∙ sym second.version)
      (first.on ∙ ap (λ (w : Tie). w.on) tie ∙ sym second.on)

  -- the node's last word to t is the one before, if it says none, or the one that it says
  last_now : (t : List ℕ) → ((after.last own t ≡ s.last own t) × ((word : TieWord) → IsSaidTo own words own t word → ⊥))
      ⊎ ((word : TieWord) × (after.last own t ≡ Some word) × IsSaidTo own words own t word)
  last_now t =
      let done = has_done p s number node from Done is in
      elim (last_cases acted.sent t (s.last own t)) [
        | inl none ↦ inl (
          done.words t ∙ none.0,
          λ word said. none.1 own word.version word.on (sent_of t word said),
        )
        | inr some ↦
            let said = said_to some.2.from t some.0 some.2.among in
            let mine : IsSaidTo own words own t some.0 = record {
              from = refl;
              tie = said.tie;
              among = said.among;
              to = said.to;
              version = said.version;
              on = said.on;
            } in
            inr (some.0, done.words t ∙ some.1, mine)
      ]
    where
      sent_of : (t : List ℕ) (word : TieWord) → IsSaidTo own words own t word → IsSent acted.sent own t (Link word.version word.on)
      sent_of t word said =
          let there = (step p s number node from is given_up).sent.links said.tie said.among in
          rw (said.to, said.version, said.on) there

  way_of : (t : List ℕ) (word : TieWord) → IsSaidTo own words own t word → IsOnWay after (word_frame own t word)
  way_of t word said =
      let there = (step p s number node from is given_up).sent.links said.tie said.among in
      let sends : IsSent acted.sent own t (Link word.version word.on) = rw (said.to, said.version, said.on) there in
      sent_under_way s after number (frame_to node from Done) acted.sent (is_taken p s number node from Done is) own t
      (Link word.version word.on) sends

  -- a node to which it had a link is told
  told_off : (t : List ℕ) (kind : Kind) → link_to node t ≡ Some kind → (word : TieWord) × IsSaidTo own words own t word
  told_off t kind link =
      let ties = (due p s number node from Done is).is_node.ties in
      let found = linked_is_let_go node.ties.table ties.table node.stamp t kind link in
      let tie : Tie = record { to = t; version = node.stamp + found.0 + 1; on = false } in (
        record { version = node.stamp + found.0 + 1; on = false },
        record {
          from = refl;
          tie = tie;
          among = among_got tie words found.0 found.1;
          to = refl;
          version = refl;
          on = refl;
        },
      )

  -- ---- ties

  stands_on : (y t : List ℕ) (word : TieWord) → (t ≡ own → ⊥) → Stands s y t word → Stands after y t word
  stands_on y t word apart (inl way) = inl (word_still y t word way)
  stands_on y t word apart (inr stood) = inr (register_there t y apart ∙ stood)

  last_on : (y t : List ℕ) (on : Bool) → (t ≡ own → ⊥) → after.last y t ≡ s.last y t → LastIs s y t on → LastIs after y t on
  last_on y t on apart same l =
      record { last = l.last; is = same ∙ l.is; on_is = l.on_is; stands = stands_on y t l.last apart l.stands }

  -- the node has no link to t any more
  let_go : (t : List ℕ) (word : TieWord) → hears_words (status_of after t) → after.last own t ≡ Some word → LastIs after own t false
  let_go t word hears last =
      elim (last_now t) [
        | inr said ↦ record {
          last = said.0;
          is = said.1;
          on_is = said.2.on ∙ off_off node.stamp (targets_by_name node.ties.table) said.2.tie said.2.among;
          stands = inl (way_of t said.0 said.2);
        }
        | inl stays ↦
            let unlinked : (kind : Option Kind) → link_to node t ≡ kind → link_to node t ≡ None = λ kind link. by kind link stays.1 in
            let none : link_of s own t ≡ None = link_was t ∙ unlinked (link_to node t) refl in
            last_on own t false (hearer_apart t hears) stays.0
            (is.invariant.ties.dropped own t word (hears_was t hears) none (sym stays.0 ∙ last))
      ]
    where
      by : (kind : Option Kind) → link_to node t ≡ kind → ((word : TieWord) → IsSaidTo own words own t word → ⊥) → link_to node t ≡ None
      by None link silent = link
      by (Some kind) link silent = let said = told_off t kind link in absurd (silent said.0 said.1)

  core_hears : (t : List ℕ) → status_of after t ≡ Some Core → hears_words (status_of after t)
  core_hears t core = subst hears_words (sym core) tt

  ties_stand : TiesAreTold after
  ties_stand = record {
    linked = λ y t kind hears link.
        let apart = linked_apart y t kind link in
        last_on y t true (hearer_apart t hears) (last_there y t apart)
        (is.invariant.ties.linked y t kind (hears_was t hears) (sym (link_there y t apart) ∙ link));
    dropped = λ y t word hears none last. elim (same_name y own) [
      | inr apart ↦
          last_on y t false (hearer_apart t hears) (last_there y t apart)
          (is.invariant.ties.dropped y t word (hears_was t hears) (sym (link_there y t apart) ∙ none) (sym (last_there y t apart) ∙ last))
      | inl here ↦
          subst (λ v. LastIs after v t false) (sym here)
          (let_go t word hears (ap (λ v. after.last v t) (sym here) ∙ last))
    ];
    pinned = λ y t core pin.
        let apart = linked_apart y t Pin pin in
        let other = hearer_apart t (core_hears t core) in
        elim (is.invariant.ties.pinned y t (sym (status_there t other) ∙ core) (sym (link_there y t apart) ∙ pin)) [
          | inl said ↦ inl (said.0, last_there y t apart ∙ said.1, word_still y t said.0 said.2)
          | inr free ↦ inr (still p s number node from is given_up t y Release (λ same. cc) free)
        ];
  }

  -- ---- versions

  -- what was no newer than the last word is so
  within_on : (y t : List ℕ) (word : TieWord) → IsNoNewer s y t word → IsNoNewer after y t word
  within_on y t word old =
      elim (same_name y own) [
        | inr apart ↦ record { last = old.last; is = last_there y t apart ∙ old.is; most = old.most; same = old.same }
        | inl here ↦
            subst (λ v. IsNoNewer after v t word) (sym here)
            (mine t word (subst (λ v. IsNoNewer s v t word) here old))
      ]
    where
      mine : (t : List ℕ) (word : TieWord) → IsNoNewer s own t word → IsNoNewer after own t word
      mine t word old =
          elim (last_now t) [
            | inl stays ↦ record { last = old.last; is = stays.0 ∙ old.is; most = old.most; same = old.same }
            | inr said ↦
                let above = above_stamp own t said.0 said.2 in
                let below = below_stamp t old.last old.is in
                let most = old.most in
                record {
                  last = said.0;
                  is = said.1;
                  most = omega (arith, above, below, most);
                  same = λ level. absurd (omega (arith, above, below, most, level));
                }
          ]

  new_within : (t : List ℕ) (word : TieWord) → IsSaidTo own words own t word → IsNoNewer after own t word
  new_within t word said =
      elim (last_now t) [
        | inl stays ↦ absurd (stays.1 word said)
        | inr now ↦
            let same = said_once t now.0 word now.2 said in
            record { last = word; is = now.1 ∙ ap (λ w. Some w) same; most = omega arith; same = λ level. refl }
      ]

  ways_within : (y t : List ℕ) (word : TieWord) → IsOnWay after (word_frame y t word) → IsNoNewer after y t word
  ways_within y t word way =
      elim (word_was y t word way) [
        | inl old ↦ within_on y t word (is.invariant.versions.ways y t word old)
        | inr said ↦
            let mine : IsSaidTo own words own t word = record {
              from = refl;
              tie = said.tie;
              among = said.among;
              to = said.to;
              version = said.version;
              on = said.on;
            } in
            subst (λ v. IsNoNewer after v t word) (sym said.from) (new_within t word mine)
      ]

  -- a register that has a word is another node's
  register_apart : (t y : List ℕ) (word : TieWord) → register_of after t y ≡ Some word → t ≡ own → ⊥
  register_apart t y word stood here =
      let wrong : None ≡ Some word = sym (register_now y) ∙ ap (λ v. register_of after v y) (sym here) ∙ stood in cc

  register_had : (t y : List ℕ) (word : TieWord) → register_of after t y ≡ Some word → register_of s t y ≡ Some word
  register_had t y word stood = sym (register_there t y (register_apart t y word stood)) ∙ stood

  once_mine : (t : List ℕ) (word kept : TieWord) → after.last own t ≡ Some word → IsOnWay after (word_frame own t word)
      → register_of s t own ≡ Some kept → kept.version < word.version
  once_mine t word kept last way stood =
      elim (last_now t) [
        | inl stays ↦ elim (word_was own t word way) [
          | inl old ↦ is.invariant.versions.once own t word kept (sym stays.0 ∙ last) old stood
          | inr said ↦ absurd (stays.1 word said)
        ]
        | inr said ↦
            let old = is.invariant.versions.registers own t kept stood in
            let both : Some said.0 ≡ Some word = sym said.1 ∙ last in
            let same : said.0 ≡ word = cc in
            let level : said.0.version ≡ word.version = ap (λ (w : TieWord). w.version) same in
            let above = above_stamp own t said.0 said.2 in
            let below = below_stamp t old.last old.is in
            let most = old.most in
            omega (arith, above, below, most, level)
      ]

  once_kept : (y t : List ℕ) (word kept : TieWord) → after.last y t ≡ Some word → IsOnWay after (word_frame y t word)
      → register_of after t y ≡ Some kept → kept.version < word.version
  once_kept y t word kept last way stood =
      let had = register_had t y kept stood in
      elim (same_name y own) [
        | inr apart ↦ elim (word_was y t word way) [
          | inl old ↦ is.invariant.versions.once y t word kept (sym (last_there y t apart) ∙ last) old had
          | inr said ↦ absurd (apart said.from)
        ]
        | inl here ↦
            once_mine t word kept (ap (λ v. after.last v t) (sym here) ∙ last) (subst (λ v. IsOnWay after (word_frame v t word)) here way)
            (ap (λ v. register_of s t v) (sym here) ∙ had)
      ]

  versions_stand : Versions after
  versions_stand = record {
    ways = ways_within;
    registers = λ y t word stood. within_on y t word (is.invariant.versions.registers y t word (register_had t y word stood));
    once = once_kept;
  }

  -- ---- nodes that have ceased

  -- a word that the register keeps is of a holder, and it is told to forget
  forgotten : (y : List ℕ) (word : TieWord) → register_of s own y ≡ Some word → word.on ≡ true → IsUnderWay after own y Forget
  forgotten y word stood on =
      let ties = (due p s number node from Done is).is_node.ties in
      let holds = by (word_of node y) (sym (register_was y) ∙ stood) in
      let among = (on_exactly node.ties ties y).1 holds in
      let mine = among-map (λ name. message name Forget) y (holders_on node.ties) (among_names y (holders_on node.ties) among) in
      sent_under_way s after number (frame_to node from Done) acted.sent (is_taken p s number node from Done is) own y Forget
      ((step p s number node from is given_up).sent.named (message y Forget) mine)
    where
      by : (entry : Option (Entry (List ℕ) Bool)) → tie_word_kept entry ≡ Some word → says_on entry ≡ true
      by None kept = let no : None ≡ Some word = kept in absurd (cc)
      by (Some entry) kept =
          let same : Some (record { version = entry.version; on = entry.value }) ≡ Some word = kept in
          let on_is : entry.value ≡ word.on = cc in
          on_is ∙ on

  says_on_way : (y n : List ℕ) → SaysSo s y n → SaysSo after y n
  says_on_way y n says = record { word = says.word; on = says.on; way = word_still y n says.word says.way }

  pin_was : (y n : List ℕ) → Pins after y n → (y ≡ own → ⊥) → Pins s y n
  pin_was y n pin apart = at_link s y n Pin (sym (link_there y n apart) ∙ link_at after y n Pin pin)

  either_was : (y : List ℕ) → (y ≡ own → ⊥) → CoreOrJoining after y → CoreOrJoining s y
  either_was y apart (inl core) = inl (sym (status_there y apart) ∙ core)
  either_was y apart (inr joining) = inr (sym (status_there y apart) ∙ joining)

  -- who pins the node has said so, or is told to forget
  pinned_own : (y : List ℕ) → Pins s y own → CoreOrJoining s y → SaysSo after y own ⊎ IsUnderWay after own y Forget
  pinned_own y pin either =
      elim (is.invariant.ceased.joining y own either pin status_was) [
        | inl registered ↦ inr (forgotten y registered.word registered.is registered.on)
        | inr says ↦ inl (says_on_way y own says)
      ]

  ceased_stand : Ceased after
  ceased_stand = record {
    joining = λ y n either pin joining. joining_said after ties_stand y n pin joining;
    ceased = λ y n either pin has_ended.
        let apart = linked_apart y n Pin (link_at after y n Pin pin) in
        elim (same_name n own) [
          | inl here ↦
              let to_own : Pins s y own = subst (λ v. Pins s y v) here (pin_was y n pin apart) in
              subst (λ v. SaysSo after y v ⊎ IsUnderWay after v y Forget) (sym here) (pinned_own y to_own (either_was y apart either))
          | inr other ↦
              elim (is.invariant.ceased.ceased y n (either_was y apart either) (pin_was y n pin apart)
              (sym (status_there n other) ∙ has_ended)) [
                | inl says ↦ inl (says_on_way y n says)
                | inr way ↦ inr (still p s number node from is given_up n y Forget (λ same. cc) way)
              ]
        ];
    forgets = λ n y way.
        elim (was_under_way s after number (frame_to node from Done) acted.sent (is_taken p s number node from Done is) n y Forget way) [
          | inl old ↦
              let had = is.invariant.ceased.forgets n y old in
              elim (same_name n own) [
                | inr other ↦ status_there n other ∙ had
                | inl here ↦ ap (status_of after) here ∙ status_now
              ]
          | inr sends ↦
              elim ((step p s number node from is given_up).sent.each (record { from = n; to = y; body = Forget }) sends) [
                | inl link ↦ let wrong = ap (λ (f : Frame). f.body) link.is in cc
                | inr (inl named) ↦ ap (status_of after) (ap (λ (f : Frame). f.from) named.is) ∙ status_now
                | inr (inr lay) ↦ let wrong = ap (λ (f : Frame). f.body) lay.is in cc
              ]
        ];
  }

  words_stand : WordsStand after
  words_stand = record { ties = ties_stand; versions = versions_stand; ceased = ceased_stand }

pub given_up_words : GivenUpWords
given_up_words p s number node from ends = words_stand p s number node from ends.delivery ends.given_up
