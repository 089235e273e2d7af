-- How many Links with on 1 and with on 0 a step of joins sends, beside what the links of its node allow; and that a move keeps how few
-- there are.
use Rattle.std.proofs.Common.{◌≡◌, ◌≢◌, ℕ, ◌+◌, ◌≤◌, Bool, false, cond, List, [], ◌∷◌, ◌++◌, map, Option, Some, arith, ap, refl, sym, subst, ◌∙◌, inl, inr}
use Rattle.std.specs.Prelude.{count_by, not}
use Rattle.std.proofs.lemmas.List.Elements.{All-head, All-tail}
use Rattle.std.proofs.Math.Bool.{and-false}
use Rattle.std.proofs.lemmas.List.Sorted.{sum_by-IsPermutation}
use Rattle.tap_name.specs.Names.{has_name}
use Rattle.tap_link.specs.declared.kind.Kind.{Kind}
use Rattle.tap_table.specs.declared.tie.Tie.{Tie}
use Rattle.tap_table.specs.Table.{kind_in}
use Rattle.tap_table.specs.Ties.{TiesValue}
use Rattle.tap_pointer.specs.declared.lay.Lay.{Lay}
use Rattle.tap_wire.specs.declared.frame.Body.{Body}
use Rattle.tap_wire.specs.declared.frame.Body.TheVariants.{Link}
use Rattle.tap_wire.specs.declared.frame.Frame.{Frame}
use Rattle.tap_rule.specs.Event.{Acted}
use Rattle.tap_rule.specs.RuleLaws.{IsCarriedOut, IsIgnored, lays_for}
use Rattle.tap_rule.specs.Node.{IsRunning, NodeState, Status, link_to, name_of}
use Rattle.tap_rule.specs.Node.Status.{Ceased, Core, Gone, Joining, Leaving}
use Rattle.tap_rule.specs.Reaction.{Message, Reaction}
use Rattle.tap_rule.specs.Sending.{by_receiver, lay_frame, link_frame, message_frame}
use Rattle.tap_safety.specs.System.{System}
use Rattle.tap_safety.specs.Ties.{link_in, status_in}
use Rattle.tap_moves.proofs.Got.{same_name}
use Rattle.tap_bounds.specs.Traffic.{Traffic}
use Rattle.tap_bounds.proofs.Counting.{count-append, count-cons, count-map_none, count-none}
use Rattle.tap_bounds.specs.LinkBounds.{is_link_off, is_link_on, links_off, links_on}
use Rattle.tap_bounds.proofs.JoinRules.{AreJoinMessages, IsJoinMessage, IsJoinStep, JoinsOrIsCore}
use Rattle.tap_bounds.proofs.JoinsKept.{runs_on}
use Rattle.tap_bounds.proofs.Links.{LinksStep, MayBecome, is_naming, more_for_status, most_for}
use Rattle.tap_bounds.proofs.Made.{IsMade}
use Rattle.tap_bounds.proofs.Words.{apart_test, if_pinned, off_to, on_to, same_test, says_off_to, says_on_to}

-- ---- counts of words

count-map : {X Y : Type 0} (t : X → Bool) (f : Y → X) (ys : List Y) → count_by t (map f ys) ≡ count_by (λ y. t (f y)) ys
count-map t f [] = refl
count-map t f (y ∷ ys) =
    let one = count-cons t (f y) (map f ys) in
    let two = count-cons (λ z. t (f z)) y ys in
    let others = count-map t f ys in
    omega (arith, one, two, others)

count-same : {X : Type 0} (t u : X → Bool) → ((x : X) → t x ≡ u x) → (xs : List X) → count_by t xs ≡ count_by u xs
count-same t u same [] = refl
count-same t u same (x ∷ xs) =
    let one = count-cons t x xs in
    let two = count-cons u x xs in
    let here : cond {A = ℕ} (t x) 1 0 ≡ cond {A = ℕ} (u x) 1 0 = ap (λ b. cond {A = ℕ} b 1 0) (same x) in
    let others = count-same t u same xs in
    omega (arith, one, two, here, others)

-- Of the frames of a step as many pass a test as of its words, if no Lay passes it, and no message.
module _ (c : Frame → Bool) (lays : (own : List ℕ) (l : Lay) → c (lay_frame own l) ≡ false) where
  pub counted_words : (node : NodeState) (r : Reaction) (acted : Acted) → IsCarriedOut node r acted → IsRunning r.state.status
      → count_by c (map (message_frame (name_of node)) r.messages) ≡ 0
      → count_by c acted.sent ≡ count_by (λ w. c (link_frame (name_of node) w)) r.words
  counted_words node r acted carried runs none =
      let own = name_of node in
      let links = map (link_frame own) (by_receiver r.words) in
      let named = map (message_frame own) r.messages in
      let laid = map (lay_frame own) (lays_for r) in
      let sent = (carried.running runs).sent in
      let all = ap (count_by c) sent.all in
      let one = count-append c links (named ++ laid) in
      let two = count-append c named laid in
      let no_lay = count-map_none c (lay_frame own) (lays own) (lays_for r) in
      let words = count-map c (link_frame own) (by_receiver r.words) in
      let order : count_by (λ w. c (link_frame own w)) (by_receiver r.words) ≡ count_by (λ w. c (link_frame own w)) r.words =
      sum_by-IsPermutation (λ w. cond {A = ℕ} (c (link_frame own w)) 1 0) r.words (by_receiver r.words) sent.same in
      omega (arith, all, one, two, no_lay, words, order, none)

-- ---- Links

on_lays : (x t own : List ℕ) (l : Lay) → is_link_on x t (lay_frame own l) ≡ false
on_lays x t own l = refl

off_lays : (x t own : List ℕ) (l : Lay) → is_link_off x t (lay_frame own l) ≡ false
off_lays x t own l = refl

-- no message is a Link
message_on : (body : Body) → IsJoinMessage body → links_on body ≡ false
message_on (Link version on) is = absurd is
message_on other is = refl

message_off : (body : Body) → IsJoinMessage body → links_off body ≡ false
message_off (Link version on) is = absurd is
message_off other is = refl

module _ (own x t : List ℕ) where
  none_on : (messages : List Message) → AreJoinMessages messages → count_by (is_link_on x t) (map (message_frame own) messages) ≡ 0
  none_on [] all = refl
  none_on (m ∷ messages) all =
      let here = message_on m.body (All-head (λ n. IsJoinMessage n.body) m messages all) in
      let first : cond {A = ℕ} (is_link_on x t (message_frame own m)) 1 0 ≡ 0 = rw here refl in
      let others = none_on messages (All-tail (λ n. IsJoinMessage n.body) m messages all) in
      let both = count-cons (is_link_on x t) (message_frame own m) (map (message_frame own) messages) in
      omega (arith, first, others, both)

  none_off : (messages : List Message) → AreJoinMessages messages → count_by (is_link_off x t) (map (message_frame own) messages) ≡ 0
  none_off [] all = refl
  none_off (m ∷ messages) all =
      let here = message_off m.body (All-head (λ n. IsJoinMessage n.body) m messages all) in
      let first : cond {A = ℕ} (is_link_off x t (message_frame own m)) 1 0 ≡ 0 = rw here refl in
      let others = none_off messages (All-tail (λ n. IsJoinMessage n.body) m messages all) in
      let both = count-cons (is_link_off x t) (message_frame own m) (map (message_frame own) messages) in
      omega (arith, first, others, both)

  -- a word of another name isn't of this one
  on_from_other : x ≢ own → (w : Tie) → is_link_on x t (link_frame own w) ≡ false
  on_from_other other w = let apart = apart_test own x (λ same. other (sym same)) in rw apart (and-false w.on)

  off_from_other : x ≢ own → (w : Tie) → is_link_off x t (link_frame own w) ≡ false
  off_from_other other w = let apart = apart_test own x (λ same. other (sym same)) in rw apart (and-false (not w.on))

on_from_own : (own t : List ℕ) (w : Tie) → is_link_on own t (link_frame own w) ≡ says_on_to t w
on_from_own own t w = rw (same_test own) refl

off_from_own : (own t : List ℕ) (w : Tie) → is_link_off own t (link_frame own w) ≡ says_off_to t w
off_from_own own t w = rw (same_test own) refl

-- ---- a step

-- Of a step: what it sends of links is at most what the frames name that it takes, and what is allowed afterwards beside what was before;
-- and nobody sends in another's name.
pub record ActsOnLinks (members : List (List ℕ)) (s : System) (node : NodeState) (acted : Acted) (named : List ℕ → ℕ) : Type 0 where
  pub on : (t : List ℕ) → count_by (is_link_on (name_of node) t) acted.sent
      + most_for (has_name members t) (status_in (s.node t)) (link_to node t)
      ≤ named t + most_for (has_name members t) (status_in (s.node t)) (link_to acted.state t)
  pub off : (t : List ℕ) → if_pinned (link_to acted.state t) + count_by (is_link_off (name_of node) t) acted.sent
      ≤ if_pinned (link_to node t) + count_by (is_link_on (name_of node) t) acted.sent
  pub no_on : (x t : List ℕ) → x ≢ name_of node → count_by (is_link_on x t) acted.sent ≡ 0
  pub no_off : (x t : List ℕ) → x ≢ name_of node → count_by (is_link_off x t) acted.sent ≡ 0

module _ (members : List (List ℕ)) (s : System) (node : NodeState) (r : Reaction) (acted : Acted) (carried : IsCarriedOut node r acted)
    (body : Body) (step : IsJoinStep node body r) where
  abbrev own : List ℕ
  own = name_of node

  runs : IsRunning r.state.status
  runs = runs_on r.state.status step.state.status

  on_words : (x t : List ℕ) → count_by (is_link_on x t) acted.sent ≡ count_by (λ w. is_link_on x t (link_frame own w)) r.words
  on_words x t = counted_words (is_link_on x t) (on_lays x t) node r acted carried runs (none_on own x t r.messages step.messages)

  off_words : (x t : List ℕ) → count_by (is_link_off x t) acted.sent ≡ count_by (λ w. is_link_off x t (link_frame own w)) r.words
  off_words x t = counted_words (is_link_off x t) (off_lays x t) node r acted carried runs (none_off own x t r.messages step.messages)

  own_on : (t : List ℕ) → count_by (is_link_on own t) acted.sent ≡ on_to t r.words
  own_on t = on_words own t ∙ count-same (λ w. is_link_on own t (link_frame own w)) (says_on_to t) (on_from_own own t) r.words

  own_off : (t : List ℕ) → count_by (is_link_off own t) acted.sent ≡ off_to t r.words
  own_off t = off_words own t ∙ count-same (λ w. is_link_off own t (link_frame own w)) (says_off_to t) (off_from_own own t) r.words

  same_link : (t : List ℕ) → link_to acted.state t ≡ link_to r.state t
  same_link t = ap (λ (ties : TiesValue). kind_in ties.table t) carried.ties

  pub acts_on_links : (named : List ℕ → ℕ) → LinksStep members s node named r → ActsOnLinks members s node acted named
  acts_on_links named links = record {
    on = λ t.
        let count = own_on t in
        let same = ap (λ found. most_for (has_name members t) (status_in (s.node t)) found) (same_link t) in
        let more = links.on t in
        omega (arith, count, same, more);
    off = λ t.
        let on = own_on t in
        let off = own_off t in
        let same = ap if_pinned (same_link t) in
        let more = links.pins t in
        omega (arith, on, off, same, more);
    no_on = λ x t other. on_words x t
        ∙ count-none (λ w. is_link_on x t (link_frame own w)) r.words (λ w among. on_from_other own x t other w);
    no_off = λ x t other. off_words x t
        ∙ count-none (λ w. is_link_off x t (link_frame own w)) r.words (λ w among. off_from_other own x t other w);
  }

pub ignored_on_links : (members : List (List ℕ)) (s : System) (node : NodeState) (acted : Acted) (named : List ℕ → ℕ)
    → IsIgnored node acted → ActsOnLinks members s node acted named
ignored_on_links members s node acted named ignored = record {
  on = λ t.
      let none = ap (count_by (is_link_on (name_of node) t)) ignored.sent in
      let same = ap (λ (n : NodeState). most_for (has_name members t) (status_in (s.node t)) (link_to n t)) ignored.state in
      omega (arith, none, same);
  off = λ t.
      let on = ap (count_by (is_link_on (name_of node) t)) ignored.sent in
      let off = ap (count_by (is_link_off (name_of node) t)) ignored.sent in
      let same = ap (λ (n : NodeState). if_pinned (link_to n t)) ignored.state in
      omega (arith, on, off, same);
  no_on = λ x t other. ap (count_by (is_link_on x t)) ignored.sent;
  no_off = λ x t other. ap (count_by (is_link_off x t)) ignored.sent;
}

-- ---- a system

-- Of two names: of Links with on 1 there are at most as many as Hellos that were taken name the other, and as are allowed beside; and of
-- those with on 0, with a pin that is there, at most as many as of those with on 1.
pub record LinksAreFew (members : List (List ℕ)) (s : System) (r : Traffic) : Type 0 where
  pub on : (x t : List ℕ) → count_by (is_link_on x t) r.sent
      ≤ count_by (is_naming x t) r.taken + most_for (has_name members t) (status_in (s.node t)) (link_in (s.node x) t)
  pub off : (x t : List ℕ) → count_by (is_link_off x t) r.sent + if_pinned (link_in (s.node x) t) ≤ count_by (is_link_on x t) r.sent

module _ (members : List (List ℕ)) (s s' : System) (r r' : Traffic) (node : NodeState) (acted : Acted) (frames : List Frame)
    (made : IsMade s s' r r' (name_of node) acted frames) (was : (t : List ℕ) → link_in (s.node (name_of node)) t ≡ link_to node t)
    (grows : (t : List ℕ) → MayBecome (status_in (s.node t)) (status_in (s'.node t)))
    (acts : ActsOnLinks members s node acted (λ t. count_by (is_naming (name_of node) t) frames)) (few : LinksAreFew members s r) where
  abbrev self : List ℕ
  self = name_of node

  abbrev before : List ℕ → Option Kind → ℕ
  before t found = most_for (has_name members t) (status_in (s.node t)) found

  abbrev after : List ℕ → Option Kind → ℕ
  after t found = most_for (has_name members t) (status_in (s'.node t)) found

  more : (t : List ℕ) (found : Option Kind) → before t found ≤ after t found
  more t found = more_for_status (has_name members t) (status_in (s.node t)) (status_in (s'.node t)) found (grows t)

  total : (test : Frame → Bool) → count_by test r'.sent ≡ count_by test r.sent + count_by test acted.sent
  total test = ap (count_by test) made.sent ∙ count-append test r.sent acted.sent

  taken : (test : Frame → Bool) → count_by test r'.taken ≡ count_by test r.taken + count_by test frames
  taken test = ap (count_by test) made.taken ∙ count-append test r.taken frames

  now : (t : List ℕ) → link_in (s'.node self) t ≡ link_to acted.state t
  now t = ap (λ n. link_in n t) made.at

  self_on : (t : List ℕ) → count_by (is_link_on self t) r'.sent ≤ count_by (is_naming self t) r'.taken + after t (link_in (s'.node self) t)
  self_on t =
      let sum = total (is_link_on self t) in
      let names = taken (is_naming self t) in
      let old = few.on self t in
      let link = ap (before t) (was t) in
      let step = acts.on t in
      let grown = more t (link_to acted.state t) in
      let here = ap (after t) (now t) in
      omega (arith, sum, names, old, link, step, grown, here)

  self_off : (t : List ℕ) → count_by (is_link_off self t) r'.sent + if_pinned (link_in (s'.node self) t)
      ≤ count_by (is_link_on self t) r'.sent
  self_off t =
      let off = total (is_link_off self t) in
      let on = total (is_link_on self t) in
      let old = few.off self t in
      let link = ap if_pinned (was t) in
      let step = acts.off t in
      let here = ap if_pinned (now t) in
      omega (arith, off, on, old, link, step, here)

  other_on : (x t : List ℕ) → x ≢ self → s'.node x ≡ s.node x
      → count_by (is_link_on x t) r'.sent ≤ count_by (is_naming x t) r'.taken + after t (link_in (s'.node x) t)
  other_on x t other stays =
      let sum = total (is_link_on x t) in
      let none = acts.no_on x t other in
      let names = taken (is_naming x t) in
      let old = few.on x t in
      let grown = more t (link_in (s.node x) t) in
      let same = ap (λ n. after t (link_in n t)) stays in
      omega (arith, sum, none, names, old, grown, same)

  other_off : (x t : List ℕ) → x ≢ self → s'.node x ≡ s.node x
      → count_by (is_link_off x t) r'.sent + if_pinned (link_in (s'.node x) t) ≤ count_by (is_link_on x t) r'.sent
  other_off x t other stays =
      let off = total (is_link_off x t) in
      let on = total (is_link_on x t) in
      let no_off = acts.no_off x t other in
      let no_on = acts.no_on x t other in
      let old = few.off x t in
      let same = ap (λ n. if_pinned (link_in n t)) stays in
      omega (arith, off, on, no_off, no_on, old, same)

  stays : (x : List ℕ) → x ≢ self → s'.node x ≡ s.node x
  stays x other = elim (made.others x) [ inl same ↦ absurd (other same) | inr is ↦ is ]

  pub links_kept : LinksAreFew members s' r'
  links_kept = record {
    on = λ x t. elim (same_name x self) [
      | inl same ↦
          subst (λ y. count_by (is_link_on y t) r'.sent ≤ count_by (is_naming y t) r'.taken + after t (link_in (s'.node y) t)) (sym same)
          (self_on t)
      | inr other ↦ other_on x t other (stays x other)
    ];
    off = λ x t. elim (same_name x self) [
      | inl same ↦
          subst (λ y. count_by (is_link_off y t) r'.sent + if_pinned (link_in (s'.node y) t) ≤ count_by (is_link_on y t) r'.sent)
          (sym same) (self_off t)
      | inr other ↦ other_off x t other (stays x other)
    ];
  }

-- ---- statuses

pub may_become : (before after : Status) → JoinsOrIsCore before → JoinsOrIsCore after → (before ≡ Core → after ≡ Core)
    → MayBecome (Some before) (Some after)
may_become Joining Joining was is core = inl refl
may_become Joining Core was is core = inr (inr (refl, refl))
may_become Core after was is core = inl (ap (λ st. Some st) (core refl))
may_become Joining Leaving was is core = absurd is
may_become Joining Gone was is core = absurd is
may_become Joining Ceased was is core = absurd is
may_become Leaving after was is core = absurd was
may_become Gone after was is core = absurd was
may_become Ceased after was is core = absurd was
