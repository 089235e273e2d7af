-- What is said of links after each notice, and once a node has started to leave.
use Rattle.std.proofs.Common.{◌≡◌, inl, inr, ℕ, zero, suc, ◌+◌, ◌<◌, Bool, false, List, [], ◌∷◌, ◌++◌, length, map, Option, None, Some, is_none, slice_get, arith, refl, sym, ap, subst, ◌∙◌}
use Rattle.std.proofs.lemmas.Bool.{cases_eq, cases_lt}
use Rattle.std.proofs.lemmas.Option.{get_or_from_slice_get}
use Rattle.tap_name.specs.Names.{AreDistinct}
use Rattle.tap_name.specs.Order.{name_cmp}
use Rattle.tap_name.specs.Settings.{SettingsValue}
use Rattle.tap_name.proofs.Sorted.{distinct-from_ascending}
use Rattle.tap_register.specs.Registers.{entry_of}
use Rattle.tap_register.specs.declared.registers.Entry.{Entry}
use Rattle.tap_link.specs.declared.kind.Kind.{Kind}
use Rattle.tap_link.specs.declared.kind.Kind.TheVariants.{Settled}
use Rattle.tap_table.specs.declared.tie.Tie.{Tie}
use Rattle.tap_table.specs.ByName.{targets_by_name}
use Rattle.tap_table.specs.Table.{kind_in}
use Rattle.tap_table.specs.Ties.{AreTies, TiesValue, holders_on, off_ties}
use Rattle.tap_table.proofs.OffTies.{linked_is_let_go}
use Rattle.tap_table.proofs.Targets.{targets-ascending}
use Rattle.tap_depart.specs.Leaving.{names_but, started_leaving}
use Rattle.tap_depart.proofs.Notices.{told_holders}
use Rattle.tap_join.specs.Hello.{words_of}
use Rattle.tap_wire.specs.declared.frame.Body.{Body}
use Rattle.tap_wire.specs.declared.frame.Body.TheVariants.{Gone, Leave, Left, Link}
use Rattle.tap_wire.specs.declared.frame.Frame.{Frame}
use Rattle.tap_rule.specs.Act.{act}
use Rattle.tap_rule.specs.EndSteps.{EndStep, words_at_end}
use Rattle.tap_rule.specs.Event.{Acted}
use Rattle.tap_rule.specs.Event.Event.{Starts}
use Rattle.tap_rule.specs.Event.Start.{Leave as StartLeave}
use Rattle.tap_rule.specs.RuleLaws.{frame_to}
use Rattle.tap_rule.specs.Leaving.{leave_for, leave_word}
use Rattle.tap_rule.specs.Node.{NodeState, link_to, name_of, word_of}
use Rattle.tap_rule.specs.Node.Status.{Core, Gone as GoneStatus}
use Rattle.tap_rule.specs.Reaction.{Message, message, to_each}
use Rattle.tap_rule.specs.Sent.{AreSent, IsAmong}
use Rattle.tap_rule.proofs.CarriedOut.{unruled_law}
use Rattle.tap_rule.proofs.EndSteps.{gone_law, leave_law}
use Rattle.tap_safety.specs.Bookkeeping.{has_table}
use Rattle.tap_safety.specs.Invariant.{Invariant}
use Rattle.tap_safety.specs.Move.{MayLeave}
use Rattle.tap_safety.specs.Notices.{IsNotice}
use Rattle.tap_safety.specs.Remembered.{TieWord}
use Rattle.tap_safety.specs.Exchanges.{ChangesAt, IsSent, numbered_from}
use Rattle.tap_safety.specs.System.{System, AmongFrames, IsUnderWay}
use Rattle.tap_safety.specs.Ties.{IsOnWay, hears_words, register_in, register_of, status_of, tie_word_kept, word_frame}
use Rattle.tap_safety.proofs.LinkKeeps.{status_seen}
use Rattle.tap_safety.proofs.UnderWay.{among_numbered, among_sent, sent_under_way, still_under_way, was_under_way}
use Rattle.tap_moves.specs.ByRule.{taken_at}
use Rattle.tap_moves.specs.Delivered.{after_delivery, after_start}
use Rattle.tap_moves.specs.InvariantLaws.{IsDelivery}
use Rattle.tap_moves.specs.KnownNames.{AreNodes}
use Rattle.tap_moves.specs.TiesLaws.{WordsStand}
use Rattle.tap_moves.proofs.Got.{among_got, same_name}
use Rattle.tap_moves.proofs.InvariantMoves.{due, sender_name}
use Rattle.tap_moves.proofs.GivenUp.{off_numbered}
use Rattle.tap_moves.proofs.Silent.{silent_stand}
use Rattle.tap_moves.proofs.Stamped.{got_among, got_within}
use Rattle.tap_moves.proofs.WordsAnew.{changes_at, has_done, is_taken, stood}
use Rattle.tap_moves.specs.PartMoves.{LeavingWords, NoticeWords}
use Rattle.tap_moves.proofs.Alike.{status_apart, status_same}
use Rattle.tap_moves.proofs.Holders.{off_off}
use Rattle.tap_moves.proofs.DepartureMoves.{from_gone, gone_unruled, is_core_or_not, leave_core, leave_heeds, leave_link, leave_name, left_end, left_leaving, left_step, sender_apart}
use Rattle.tap_moves.proofs.PartMoves.{leaving_during, notice_during}
use Rattle.tap_moves.proofs.LeaveStamps.{farewell_no_link, leave_no_link, left_no_link, no_message}
use Rattle.tap_moves.proofs.LeaveStarts.{changes, ends as leaver_ends, law, leaver_of, own as leaver_own, step as leaver_step, ties as leaver_ties}
use Rattle.tap_moves.proofs.WordsKept.{enough_stand}
use Rattle.tap_moves.proofs.WordsSaid.{TellsLinks, says_enough}

-- ---- the words of a node that ends

-- the word in a place is for the name there
off_target : (last : ℕ) (names : List (List ℕ)) (i : ℕ) (word : Tie) → slice_get (off_ties last names) i ≡ Some word
    → slice_get names i ≡ Some word.to
off_target last [] i word got = cc
off_target last (name ∷ names) zero word got =
    let same : record { to = name; version = last + 1; on = false } ≡ word = cc in
    ap (λ (w : Tie). Some w.to) same
off_target last (name ∷ names) (suc i) word got = off_target (last + 1) names i word got

-- of one place there is one word
same_place : (words : List Tie) (i j : ℕ) (one two : Tie) → i ≡ j → slice_get words i ≡ Some one → slice_get words j ≡ Some two → one ≡ two
same_place words i j one two place first second =
    let both : Some one ≡ Some two = sym first ∙ ap (slice_get words) place ∙ second in cc

-- of two places of distinct names the names differ
places_differ : (names : List (List ℕ)) → AreDistinct names → (i j : ℕ) (a b : List ℕ) → i < j → slice_get names i ≡ Some a
    → slice_get names j ≡ Some b → a ≡ b → ⊥
places_differ names distinct i j a b less first second same =
    distinct i j a less (got_within names j b second)
    (get_or_from_slice_get names i a a first ∙ same ∙ sym (get_or_from_slice_get names j b a second))

-- of one name there is one word
off_once : (last : ℕ) (names : List (List ℕ)) → AreDistinct names → (one two : Tie) → IsAmong one (off_ties last names)
    → IsAmong two (off_ties last names) → one.to ≡ two.to → one ≡ two
off_once last names distinct one two first second same =
    let at = got_among one (off_ties last names) first in
    let other = got_among two (off_ties last names) second in
    let here = off_target last names at.0 one at.1 in
    let there = off_target last names other.0 two other.1 in
    elim (cases_lt at.0 other.0) [
      | inl less ↦ absurd (places_differ names distinct at.0 other.0 one.to two.to less here there same)
      | inr most ↦ elim (cases_lt other.0 at.0) [
        | inl less ↦ absurd (places_differ names distinct other.0 at.0 two.to one.to less there here (sym same))
        | inr least ↦ same_place (off_ties last names) at.0 other.0 one two (omega (arith, most, least)) at.1 other.1
      ]
    ]

-- a node that is gone has said of each link that it has none, and has no register
end_tells : (s' : System) (node : NodeState) (acted : Acted) → AreTies node.ties → EndStep node GoneStatus Gone acted
    → TellsLinks s' node acted.state (words_at_end node)
end_tells s' node acted ties end =
    let names = targets_by_name node.ties.table in
    record {
      on = λ word among kind link. let wrong : None ≡ Some kind = sym (end.unlinked word.to) ∙ link in cc;
      off = λ word among none. off_off node.stamp names word among;
      newer = λ word among.
          let at = got_among word (words_at_end node) among in
          let number = off_numbered node.stamp names at.0 word at.1 in
          omega (arith, number);
      once = λ one two first second same.
          off_once node.stamp names (distinct-from_ascending names (targets-ascending node.ties.table ties.table)) one two first second
          same;
      unsaid = λ t hears silent. ap is_none (end.unlinked t) ∙ sym (ap is_none (let_go t silent (link_to node t) refl));
      register = λ holder word stood.
          let none : word_of acted.state holder ≡ None =
          ap (λ (words : List (Entry (List ℕ) Bool)). entry_of name_cmp words holder) end.unheld in
          let wrong : None ≡ Some word = sym (ap tie_word_kept none) ∙ stood in cc;
    }
  where
    -- of whom nothing is said it had no link to
    let_go : (t : List ℕ) → ((word : Tie) → IsAmong word (words_at_end node) → word.to ≡ t → ⊥) → (found : Option Kind)
        → link_to node t ≡ found → link_to node t ≡ None
    let_go t silent None link = link
    let_go t silent (Some kind) link =
        let found = linked_is_let_go node.ties.table ties.table node.stamp t kind link in
        let tie : Tie = record { to = t; version = node.stamp + found.0 + 1; on = false } in
        absurd (silent tie (among_got tie (words_at_end node) found.0 found.1) refl)

-- the register of a node that keeps its holders
same_words : (before after : NodeState) → after.ties.holders ≡ before.ties.holders → (holder : List ℕ)
    → tie_word_kept (word_of after holder) ≡ tie_word_kept (word_of before holder)
same_words before after same holder =
    ap (λ (words : List (Entry (List ℕ) Bool)). tie_word_kept (entry_of name_cmp words holder)) same

-- a node that says nothing, with the holders that it had, and the links to those that hear words
silent_tells : (s' : System) (before after : NodeState) → after.ties.holders ≡ before.ties.holders
    → ((t : List ℕ) → hears_words (status_of s' t) → link_to after t ≡ link_to before t) → TellsLinks s' before after []
silent_tells s' before after holders links = record {
  on = λ word among kind link. absurd among;
  off = λ word among none. absurd among;
  newer = λ word among. absurd among;
  once = λ one two first second same. absurd first;
  unsaid = λ t hears silent. ap is_none (links t hears);
  register = λ holder word stood. sym (same_words before after holders holder) ∙ stood;
}

-- so a look-up in its register gives the same
register_same : (s s' : System) (x : List ℕ) (before after : NodeState) → ChangesAt s s' x before after
    → after.ties.holders ≡ before.ties.holders → (y : List ℕ) → register_of s' x y ≡ register_of s x y
unfolding register_of
register_same s s' x before after at same y =
    ap (λ node. register_in node y) at.is ∙ same_words before after same y ∙ sym (ap (λ node. register_in node y) at.was)

-- ---- a notice is taken

-- a notice is no Link
notice_no_link : (body : Body) (version : ℕ) (on : Bool) → IsNotice body → Link version on ≡ body → ⊥
notice_no_link body version on notice is = let never : IsNotice (Link version on) = subst IsNotice (sym is) notice in never

module _ (p : SettingsValue) (s : System) (number : ℕ) (node : NodeState) (from : List ℕ) (body : Body)
    (is : IsDelivery p s number node from body) (notice : IsNotice body) where
  abbrev after : System
  after = after_delivery p s number

  abbrev acted : Acted
  acted = taken_at node from body

  abbrev own : List ℕ
  own = name_of node

  word_still : (y t : List ℕ) (word : TieWord) → IsOnWay s (word_frame y t word) → IsOnWay after (word_frame y t word)
  word_still y t word way =
      elim (still_under_way s after number (frame_to node from body) acted.sent (is_taken p s number node from body is) y t
      (Link word.version word.on) way) [
        | inl on ↦ on
        | inr same ↦ absurd (notice_no_link body word.version word.on notice (ap (λ (f : Frame). f.body) same))
      ]

  -- what is said of links stands, if the node has told of those that come or go
  told_stand : (words : List Tie) (messages : List Message) → AreSent own words messages acted.sent
      → ((m : Message) → IsAmong m messages → (version : ℕ) (on : Bool) → m.body ≡ Link version on → ⊥)
      → TellsLinks after node acted.state words → has_table node.status
      → ((t : List ℕ) → hears_words (status_of after t) → hears_words (status_of s t))
      → ((y : List ℕ) → hears_words (status_of after own) → register_of after own y ≡ register_of s own y) → WordsStand after
  told_stand words messages are none tells table hears registers =
      let during = notice_during p s number node from body is notice in
      let taken = is_taken p s number node from body is in
      let frame = frame_to node from body in
      let says = says_enough s after own node acted.state words messages acted.sent are none (changes_at p s number node from body is)
      (has_done p s number node from body is) tells (λ t old last. is.invariant.stamped.stamp own t old node is.at table last) hears
      registers word_still (λ y t word way. was_under_way s after number frame acted.sent taken y t (Link word.version word.on) way)
      (λ y t b sends. sent_under_way s after number frame acted.sent taken y t b sends) in
      enough_stand s after says during.0 during.1 is.invariant.ties is.invariant.versions

  hears_same : acted.state.status ≡ node.status → (t : List ℕ) → hears_words (status_of after t) → hears_words (status_of s t)
  hears_same status t hears =
      subst hears_words (status_same s after own node acted.state (changes_at p s number node from body is) status t) hears

-- a node that is gone hears no words, and the others are as before
ended_hears : (s s' : System) (x : List ℕ) (before after : NodeState) → ChangesAt s s' x before after → after.status ≡ GoneStatus
    → (t : List ℕ) → hears_words (status_of s' t) → hears_words (status_of s t)
ended_hears s s' x before after at gone t hears =
    elim (status_apart s s' x before after at t) [
      | inr same ↦ subst hears_words same hears
      | inl here ↦
          let never : ⊥ = subst hears_words (ap (status_of s') here ∙ status_seen s' x after GoneStatus at.is gone) hears in absurd never
    ]

-- and its own register is nobody's
ended_deaf : (s s' : System) (x : List ℕ) (before after : NodeState) → ChangesAt s s' x before after → after.status ≡ GoneStatus
    → (y : List ℕ) → hears_words (status_of s' x) → register_of s' x y ≡ register_of s x y
ended_deaf s s' x before after at gone y hears =
    let never : ⊥ = subst hears_words (status_seen s' x after GoneStatus at.is gone) hears in absurd never

-- ---- each notice

module _ (p : SettingsValue) (s : System) (number : ℕ) (node : NodeState) (from : List ℕ) where
  abbrev own_name : List ℕ
  own_name = name_of node

  -- a Leave
  module _ (replacement : Option (List ℕ)) (is : IsDelivery p s number node from (Leave replacement)) where
    abbrev leave_acted : Acted
    leave_acted = taken_at node from (Leave replacement)

    leave_ties : AreTies node.ties
    leave_ties = (due p s number node from (Leave replacement) is).is_node.ties

    leave_holders : leave_acted.state.ties.holders ≡ node.ties.holders
    leave_holders =
        let step = leave_law node from replacement (leave_core p s number node from replacement is) is.known in
        ap (λ (u : TiesValue). u.holders) step.ties
        ∙ told_holders node.ties from replacement leave_ties (sender_name p s number node from (Leave replacement) is)
        (sender_apart p s number node from (Leave replacement) is tt) (leave_name p s number node from replacement is)

    -- the link to the leaver is marked, and each other one stays, or is told
    leave_unsaid : (t : List ℕ)
        → ((word : Tie) → IsAmong word (words_of (leave_word node from replacement)) → word.to ≡ t → ⊥)
        → is_none (link_to leave_acted.state t) ≡ is_none (link_to node t)
    leave_unsaid t silent = elim (same_name t from) [
      | inl here ↦
          let heeds = leave_heeds p s number node from replacement is in
          let was = leave_link p s number node from replacement is in
          ap is_none (ap (link_to leave_acted.state) here ∙ heeds.marked) ∙ sym (ap is_none (ap (link_to node) here ∙ was))
      | inr other ↦ by other (link_to node t) refl (link_to leave_acted.state t) refl
    ]
      where
        by : (t ≡ from → ⊥) → (was : Option Kind) → link_to node t ≡ was → (now : Option Kind) → link_to leave_acted.state t ≡ now
            → is_none (link_to leave_acted.state t) ≡ is_none (link_to node t)
        by other (Some kind) had now is_now =
            let stays = (leave_heeds p s number node from replacement is).stay t kind other had in
            ap is_none stays ∙ sym (ap is_none had)
        by other None none None is_now = ap is_none is_now ∙ sym (ap is_none none)
        by other None none (Some kind) is_now =
            let said = (leave_heeds p s number node from replacement is).said t kind none is_now in
            absurd (silent said.0 said.1 said.2)

    leave_stand : WordsStand (after_delivery p s number)
    leave_stand =
        let body = Leave replacement in
        let at = leave_core p s number node from replacement is in
        let step = leave_law node from replacement at is.known in
        let heeds = leave_heeds p s number node from replacement is in
        let words = words_of (leave_word node from replacement) in
        told_stand p s number node from body is tt words (message from Left ∷ []) step.sent (left_no_link from)
        (record {
          on = λ word among kind link. (heeds.told word among).on;
          off = λ word among none.
              let now = (heeds.told word among).now in
              let wrong : None ≡ Some Settled = sym none ∙ now in cc;
          newer = λ word among. let version = (heeds.told word among).version in omega (arith, version);
          once = λ one two first second same. heeds.once one two first second;
          unsaid = λ t hears silent. leave_unsaid t silent;
          register = λ holder word stood. sym (same_words node leave_acted.state leave_holders holder) ∙ stood;
        })
        (subst has_table (sym at) tt) (hears_same p s number node from body is tt step.joins.status)
        (λ y hears. register_same s (after_delivery p s number) own_name node leave_acted.state (changes_at p s number node from body is)
        leave_holders y)

  -- a Gone
  module _ (is : IsDelivery p s number node from Gone) where
    abbrev gone_acted : Acted
    gone_acted = taken_at node from Gone

    gone_at_core : node.status ≡ Core → WordsStand (after_delivery p s number)
    gone_at_core at =
        let s' = after_delivery p s number in
        let ties = (due p s number node from Gone is).is_node.ties in
        let step = gone_law node from ties (sender_name p s number node from Gone is) at is.known in
        let status = status_same s s' own_name node gone_acted.state (changes_at p s number node from Gone is) step.joins.status in
        let has_gone : status_of s' from ≡ Some GoneStatus = status from ∙ from_gone p s number node from is in
        told_stand p s number node from Gone is tt [] [] step.sent no_message
        (silent_tells s' node gone_acted.state step.holders (λ t hears. elim (step.others t) [
          | inr same ↦ same
          | inl here ↦
              let never : ⊥ = subst hears_words (ap (status_of s') here ∙ has_gone) hears in absurd never
        ]))
        (subst has_table (sym at) tt) (hears_same p s number node from Gone is tt step.joins.status)
        (λ y hears. register_same s s' own_name node gone_acted.state (changes_at p s number node from Gone is) step.holders y)

    gone_stand : WordsStand (after_delivery p s number)
    gone_stand = elim (is_core_or_not node.status) [
      | inl at ↦ gone_at_core at
      | inr other ↦
          let ignored = unruled_law node (frame_to node from Gone) (gone_unruled node.status node from other) in
          silent_stand s (after_delivery p s number) number (frame_to node from Gone) node gone_acted
          (is_taken p s number node from Gone is) (changes_at p s number node from Gone is)
          (has_done p s number node from Gone is)
          (record {
            status = ap (λ (n : NodeState). n.status) ignored.state;
            ties = ap (λ (n : NodeState). n.ties) ignored.state;
            no_word = λ w t b sends. let never : IsSent [] w t b = subst (λ sent. IsSent sent w t b) ignored.sent sends in absurd never;
          })
          tt (stood p s number node from Gone is)
    ]

  -- a Left
  module _ (is : IsDelivery p s number node from Left) where
    abbrev left_acted : Acted
    left_acted = taken_at node from Left

    left_stand : WordsStand (after_delivery p s number)
    left_stand =
        let s' = after_delivery p s number in
        let at = changes_at p s number node from Left is in
        let table : has_table node.status = subst has_table (sym (left_leaving p s number node from is)) tt in
        elim (cases_eq (length (names_but node.awaited from)) 0) [
          | inl last ↦
              let end = left_end p s number node from is last in
              let ties = (due p s number node from Left is).is_node.ties in
              told_stand p s number node from Left is tt (words_at_end node) (to_each Gone (holders_on node.ties)) end.sent
              (farewell_no_link (holders_on node.ties)) (end_tells s' node left_acted ties end) table
              (ended_hears s s' own_name node left_acted.state at end.status) (ended_deaf s s' own_name node left_acted.state at end.status)
          | inr others ↦
              let step = (left_step p s number node from is).waits others in
              let holders = ap (λ (u : TiesValue). u.holders) step.1 in
              told_stand p s number node from Left is tt [] [] step.4 no_message
              (silent_tells s' node left_acted.state holders (λ t hears. ap (λ (u : TiesValue). kind_in u.table t) step.1)) table
              (hears_same p s number node from Left is tt step.0.status)
              (λ y hears. register_same s s' own_name node left_acted.state at holders y)
        ]

pub notice_words : NoticeWords
notice_words p s number node from (Leave replacement) is notice = leave_stand p s number node from replacement is
notice_words p s number node from Left is notice = left_stand p s number node from is
notice_words p s number node from Gone is notice = gone_stand p s number node from is
notice_words p s number node from _ is notice = absurd notice

-- ---- the start of a departure

module _ (p : SettingsValue) (s : System) (x : List ℕ) (inv : Invariant p s) (nodes : AreNodes p s) (may : MayLeave s x) where
  abbrev node : NodeState
  node = may.acts.state

  abbrev left : System
  left = after_start p s x StartLeave

  abbrev starts_acted : Acted
  starts_acted = act node (Starts StartLeave)

  -- no frame was under way, and those are that are sent
  frames_are : left.frames ≡ numbered_from s.next starts_acted.sent
  frames_are = (leaver_step p s x inv nodes may).sent.after ∙ ap (λ fs. fs ++ numbered_from s.next starts_acted.sent) may.rest

  none_before : (y t : List ℕ) (word : TieWord) → IsOnWay s (word_frame y t word) → IsOnWay left (word_frame y t word)
  none_before y t word way =
      let never : AmongFrames way.number (word_frame y t word) [] =
      subst (AmongFrames way.number (word_frame y t word)) may.rest way.among in absurd never

  sent_now : (y t : List ℕ) (word : TieWord) → IsOnWay left (word_frame y t word) → IsSent starts_acted.sent y t (Link word.version word.on)
  sent_now y t word way =
      among_sent s.next starts_acted.sent way.number (word_frame y t word)
      (subst (AmongFrames way.number (word_frame y t word)) frames_are way.among)

  sent_way : (y t : List ℕ) (body : Body) → IsSent starts_acted.sent y t body → IsUnderWay left y t body
  sent_way y t body sends =
      let new = among_numbered s.next starts_acted.sent y t body sends in
      record {
        number = new.0;
        among = subst (AmongFrames new.0 (record { from = y; to = t; body = body })) (sym frames_are) new.1;
      }

  starts_told : (words : List Tie) (messages : List Message) → AreSent x words messages starts_acted.sent
      → ((m : Message) → IsAmong m messages → (version : ℕ) (on : Bool) → m.body ≡ Link version on → ⊥)
      → TellsLinks left node starts_acted.state words
      → ((t : List ℕ) → hears_words (status_of left t) → hears_words (status_of s t))
      → ((y : List ℕ) → hears_words (status_of left x) → register_of left x y ≡ register_of s x y) → WordsStand left
  starts_told words messages are none tells hears registers =
      let table : has_table node.status = subst has_table (sym may.acts.core) tt in
      let says = says_enough s left x node starts_acted.state words messages starts_acted.sent are none (changes p s x inv nodes may)
      (leaver_step p s x inv nodes may).done tells (λ t old last. inv.basis.stamped.stamp x t old node may.acts.is table last) hears
      registers
      none_before (λ y t word way. inr (sent_now y t word way)) sent_way in
      enough_stand s left says (leaver_of x node) (leaving_during p s x inv nodes may) inv.basis.ties inv.basis.versions

  -- the leaver heard words before, as a core node
  hears_before : (t : List ℕ) → hears_words (status_of left t) → hears_words (status_of s t)
  hears_before t hears =
      elim (status_apart s left x node starts_acted.state (changes p s x inv nodes may) t) [
        | inr same ↦ subst hears_words same hears
        | inl here ↦
            subst hears_words (sym (ap (status_of s) here ∙ status_seen s x node Core may.acts.is may.acts.core)) tt
      ]

  starts_stand : WordsStand left
  starts_stand = elim (cases_eq (length (holders_on node.ties)) 0) [
    | inl none ↦
        let end = leaver_ends p s x inv nodes may none in
        let at = changes p s x inv nodes may in
        let are = subst (λ n. AreSent n (words_at_end node) (to_each Gone (holders_on node.ties)) starts_acted.sent)
        (leaver_own p s x inv nodes may) end.sent in
        starts_told (words_at_end node) (to_each Gone (holders_on node.ties)) are (farewell_no_link (holders_on node.ties))
        (end_tells left node starts_acted (leaver_ties p s x inv nodes may) end)
        (ended_hears s left x node starts_acted.state at end.status) (ended_deaf s left x node starts_acted.state at end.status)
    | inr some ↦
        let waits = (law p s x inv nodes may).waits some in
        let holders = ap (λ (u : TiesValue). u.holders) waits.1 in
        let messages = map leave_for (started_leaving node.ties).notices in
        let are = subst (λ n. AreSent n [] messages starts_acted.sent) (leaver_own p s x inv nodes may) waits.4 in
        starts_told [] messages are (leave_no_link p s x inv nodes may)
        (silent_tells left node starts_acted.state holders (λ t hears. ap (λ (u : TiesValue). kind_in u.table t) waits.1)) hears_before
        (λ y hears. register_same s left x node starts_acted.state (changes p s x inv nodes may) holders y)
  ]

pub leaving_words : LeavingWords
leaving_words p s x inv nodes may = starts_stand p s x inv nodes may
