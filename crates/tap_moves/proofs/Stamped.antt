-- A node stamps its words: what its rule says has numbers that its stamp had not given, and then has.
use Rattle.std.proofs.Common.{◌≡◌, ℕ, zero, suc, ◌+◌, ◌<◌, ◌≤◌, Bool, true, false, List, [], ◌∷◌, ◌++◌, map, cond, length, Some, slice_get, arith, ap, refl, sym, subst, ◌∙◌, inl, inr}
use Rattle.tap_name.specs.Order.{name_cmp}
use Rattle.std.specs.Ordering.{is_gt}
use Rattle.tap_table.specs.declared.tie.Tie.{Tie}
use Rattle.tap_table.specs.Ties.{stamp_after, tie_where}
use Rattle.tap_join.specs.Hello.{words_of}
use Rattle.tap_wire.specs.declared.frame.Body.TheVariants.{Link}
use Rattle.tap_wire.specs.declared.frame.Frame.{Frame}
use Rattle.tap_rule.specs.Event.{Acted}
use Rattle.tap_rule.specs.RuleLaws.{IsCarriedOut, lays_for}
use Rattle.tap_rule.specs.Node.{NodeState, name_of}
use Rattle.tap_rule.specs.Reaction.{Message, Reaction}
use Rattle.tap_rule.specs.Sending.{by_receiver, inserted_by_receiver, lay_frame, link_frame, message_frame}
use Rattle.tap_rule.specs.Sent.{AreSentInOrder, IsAmong}
use Rattle.tap_rule.proofs.Among.{among-by_receiver_from, among-either, among-inserted_from, among-map_from}
use Rattle.tap_rule.proofs.Completed.{runs_or_ended}
use Rattle.tap_pointer.specs.declared.lay.Lay.{Lay}
use Rattle.tap_safety.specs.Bookkeeping.{has_table}
use Rattle.tap_safety.specs.KnownLaws.{LinksAreOnce, Stamps}
use Rattle.tap_safety.specs.Exchanges.{IsSent}

-- ---- words that differ

-- each word differs from those after it
abbrev pub AreApart : List Tie → Type 0
AreApart [] = Unit {0}
AreApart (word ∷ words) = (IsAmong word words → ⊥) × AreApart words

inserted_apart : (word : Tie) (words : List Tie) → (IsAmong word words → ⊥) → AreApart words → AreApart (inserted_by_receiver word words)
unfolding inserted_by_receiver
inserted_apart word [] fresh apart = (fresh, tt)
inserted_apart word (first ∷ others) fresh apart =
    by (is_gt (name_cmp word.to first.to)) (inserted_apart word others (λ later. fresh (inr later)) apart.1)
  where
    by : (above : Bool) → AreApart (inserted_by_receiver word others)
        → AreApart (cond above (first ∷ inserted_by_receiver word others) (word ∷ first ∷ others))
    by true rest = (
      λ among. elim (among-inserted_from first word others among) [
        | inl same ↦ fresh (inl (sym same))
        | inr there ↦ apart.0 there
      ],
      rest,
    )
    by false rest = (fresh, apart)

receiver_apart : (words : List Tie) → AreApart words → AreApart (by_receiver words)
unfolding by_receiver
receiver_apart [] apart = tt
receiver_apart (word ∷ words) apart =
    inserted_apart word (by_receiver words) (λ among. apart.0 (among-by_receiver_from word words among)) (receiver_apart words apart.1)

-- what is among a list stands at a place of it
pub got_among : {A : Type 0} (x : A) (xs : List A) → IsAmong x xs → (k : ℕ) × (slice_get xs k ≡ Some x)
got_among x [] among = absurd among
got_among x (y ∷ ys) (inl is) = (zero, ap Some (sym is))
got_among x (y ∷ ys) (inr later) = let rest = got_among x ys later in (suc rest.0, rest.1)

-- words with the numbers after the last one, in order, differ
numbered_apart : (last : ℕ) (words : List Tie)
    → ((i : ℕ) (word : Tie) → slice_get words i ≡ Some word → word.version ≡ last + i + 1) → AreApart words
numbered_apart last [] numbered = tt
numbered_apart last (word ∷ words) numbered = (
  λ among.
      let at = got_among word words among in
      let first = numbered zero word refl in
      let later = numbered (suc at.0) word at.1 in
      omega (arith, first, later),
  numbered_apart (last + 1) words (λ i other got. let is = numbered (suc i) other got in omega (arith, is)),
)

-- ---- new words

-- each word has a number after this one, and up to that one, and no two are the same
pub record AreNewWords (last now : ℕ) (words : List Tie) : Type 0 where
  pub each : (word : Tie) → IsAmong word words → (last < word.version) × (word.version ≤ now)
  pub apart : AreApart words
  pub most : last ≤ now

pub none_new : (last : ℕ) → AreNewWords last last []
none_new last = record { each = λ word among. absurd among; apart = tt; most = omega arith }

pub one_new : (told : Bool) (to : List ℕ) (last : ℕ) (on : Bool)
    → AreNewWords last (stamp_after last (tie_where told to (last + 1) on)) (words_of (tie_where told to (last + 1) on))
one_new false to last on = none_new last
one_new true to last on = record {
  each = λ word among. elim among [
    | inl is ↦ let version : word.version ≡ last + 1 = ap (λ (w : Tie). w.version) is in (omega (arith, version), omega (arith, version))
    | inr never ↦ absurd never
  ];
  apart = (λ never. never, tt);
  most = omega arith;
}

pub got_within : {A : Type 0} (xs : List A) (k : ℕ) (x : A) → slice_get xs k ≡ Some x → k < length xs
got_within [] k x got = cc
got_within (y ∷ ys) zero x got = omega arith
got_within (y ∷ ys) (suc k) x got = let rest = got_within ys k x got in omega (arith, rest)

pub numbered_new : (last : ℕ) (words : List Tie)
    → ((i : ℕ) (word : Tie) → slice_get words i ≡ Some word → word.version ≡ last + i + 1)
    → AreNewWords last (last + length words) words
numbered_new last words numbered = record {
  each = λ word among.
      let at = got_among word words among in
      let version = numbered at.0 word at.1 in
      let within = got_within words at.0 word at.1 in
      (omega (arith, version), omega (arith, version, within));
  apart = numbered_apart last words numbered;
  most = omega arith;
}

-- ---- frames

-- no frame is a Link
abbrev pub NoLinks : List Frame → Type 0
NoLinks sent = (frame : Frame) → IsAmong frame sent → (version : ℕ) (on : Bool) → frame.body ≡ Link version on → ⊥

none_once : (sent : List Frame) → NoLinks sent → LinksAreOnce sent
none_once [] none = tt
none_once (frame ∷ frames) none =
    (λ version on is among. none frame (inl refl) version on is, none_once frames (λ f later. none f (inr later)))

-- a Link is of one word
same_tie : (own : List ℕ) (one two : Tie) → link_frame own one ≡ link_frame own two → one ≡ two
same_tie own one two is =
    let body : Link one.version one.on ≡ Link two.version two.on = ap (λ (f : Frame). f.body) is in
    let version : one.version ≡ two.version = cc in
    let on : one.on ≡ two.on = cc in
    let by_to : List ℕ → Tie = λ to. record { to = to; version = one.version; on = one.on } in
    let by_version : ℕ → Tie = λ n. record { to = two.to; version = n; on = one.on } in
    let by_on : Bool → Tie = λ b. record { to = two.to; version = two.version; on = b } in
    ap by_to (ap (λ (f : Frame). f.to) is) ∙ ap by_version version ∙ ap by_on on

links_once : (own : List ℕ) (words : List Tie) (rest : List Frame) → AreApart words → NoLinks rest
    → LinksAreOnce (map (link_frame own) words ++ rest)
links_once own [] rest apart none = none_once rest none
links_once own (word ∷ words) rest apart none = (
  λ version on is among. elim (among-either (link_frame own word) (map (link_frame own) words) rest among) [
    | inl later ↦
        let found = among-map_from (link_frame own) (link_frame own word) words later in
        apart.0 (subst (λ other. IsAmong other words) (sym (same_tie own word found.0 found.2)) found.1)
    | inr other ↦ none (link_frame own word) other word.version word.on refl
  ],
  links_once own words rest apart.1 none,
)

-- the messages and the Lays of a step are no Links
rest_no_links : (own : List ℕ) (messages : List Message) (lays : List Lay)
    → ((m : Message) → IsAmong m messages → (version : ℕ) (on : Bool) → m.body ≡ Link version on → ⊥)
    → NoLinks (map (message_frame own) messages ++ map (lay_frame own) lays)
rest_no_links own messages lays none frame among version on is =
    elim (among-either frame (map (message_frame own) messages) (map (lay_frame own) lays) among) [
      | inl named ↦
          let found = among-map_from (message_frame own) frame messages named in
          none found.0 found.1 version on (ap (λ (f : Frame). f.body) (sym found.2) ∙ is)
      | inr later ↦
          let found = among-map_from (lay_frame own) frame lays later in
          let wrong : (lay_frame own found.0).body ≡ Link version on = ap (λ (f : Frame). f.body) (sym found.2) ∙ is in cc
    ]

pub in_order_once : (own : List ℕ) (words : List Tie) (messages : List Message) (lays : List Lay) (sent : List Frame)
    → AreSentInOrder own words messages lays sent → AreApart words
    → ((m : Message) → IsAmong m messages → (version : ℕ) (on : Bool) → m.body ≡ Link version on → ⊥) → LinksAreOnce sent
in_order_once own words messages lays sent order apart none =
    subst LinksAreOnce (sym order.all)
    (links_once own (by_receiver words) (map (message_frame own) messages ++ map (lay_frame own) lays) (receiver_apart words apart)
    (rest_no_links own messages lays none))

-- ---- a rule

-- The words of a rule are new, and its stamp has given them; its messages are no Links; and a node that has a table afterwards, or words to
-- say, had one.
pub record IsStampedRule (node : NodeState) (r : Reaction) : Type 0 where
  pub words : AreNewWords node.stamp r.state.stamp r.words
  pub messages : (m : Message) → IsAmong m r.messages → (version : ℕ) (on : Bool) → m.body ≡ Link version on → ⊥
  pub table : has_table r.state.status → has_table node.status
  pub speaks : (word : Tie) → IsAmong word r.words → has_table node.status

-- a word that is sent
record IsWordSent (own : List ℕ) (words : List Tie) (w t : List ℕ) (version : ℕ) (on : Bool) : Type 0 where
  from : w ≡ own
  tie : Tie
  among : IsAmong tie words
  same : version ≡ tie.version

module _ (node : NodeState) (r : Reaction) (acted : Acted) (carried : IsCarriedOut node r acted) (rule : IsStampedRule node r) where
  abbrev own : List ℕ
  own = name_of node

  word_sent : (w t : List ℕ) (version : ℕ) (on : Bool) → IsSent acted.sent w t (Link version on) → IsWordSent own r.words w t version on
  word_sent w t version on sends =
      elim (carried.sent.each (record { from = w; to = t; body = Link version on }) sends) [
        | inl link ↦
            let body : Link version on ≡ Link link.word.version link.word.on = ap (λ (f : Frame). f.body) link.is in
            let same : version ≡ link.word.version = cc in
            record { from = ap (λ (f : Frame). f.from) link.is; tie = link.word; among = link.among; same = same }
        | inr (inl named) ↦
            absurd (rule.messages named.message named.among version on (sym (ap (λ (f : Frame). f.body) named.is)))
        | inr (inr lay) ↦
            let wrong : Link version on ≡ (lay_frame own lay.lay).body = ap (λ (f : Frame). f.body) lay.is in absurd (cc)
      ]

  sent_once : LinksAreOnce acted.sent
  sent_once =
      elim (runs_or_ended r.state.status) [
        | inl runs ↦ in_order_once own r.words r.messages (lays_for r) acted.sent (carried.running runs).sent rule.words.apart rule.messages
        | inr ended ↦ in_order_once own r.words r.messages r.lays acted.sent (carried.ended ended).sent rule.words.apart rule.messages
      ]

  pub rule_stamps : Stamps node acted.state own acted.sent
  rule_stamps = record {
    table = λ table.
        let most = rule.words.most in
        let rises = carried.stamp in
        (rule.table (subst has_table carried.status table), omega (arith, most, rises));
    from = λ w t version on sends.
        let word = word_sent w t version on sends in (word.from, rule.speaks word.tie word.among);
    new = λ w t version on sends.
        let word = word_sent w t version on sends in
        let new = (rule.words.each word.tie word.among).0 in
        let same = word.same in
        omega (arith, new, same);
    given = λ table w t version on sends.
        let word = word_sent w t version on sends in
        let given = (rule.words.each word.tie word.among).1 in
        let same = word.same in
        let rises = carried.stamp in
        omega (arith, given, same, rises);
    once = sent_once;
  }

-- a node that sends no Link, and keeps its status
pub silent_stamps : (node : NodeState) (acted : Acted) (x : List ℕ) → acted.state.status ≡ node.status
    → node.stamp ≤ acted.state.stamp → NoLinks acted.sent → Stamps node acted.state x acted.sent
silent_stamps node acted x status stamp none = record {
  table = λ table. (subst has_table status table, stamp);
  from = λ w t version on sends. absurd (none (record { from = w; to = t; body = Link version on }) sends version on refl);
  new = λ w t version on sends. absurd (none (record { from = w; to = t; body = Link version on }) sends version on refl);
  given = λ table w t version on sends. absurd (none (record { from = w; to = t; body = Link version on }) sends version on refl);
  once = none_once acted.sent none;
}
