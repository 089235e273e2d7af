-- What is remembered grows at a cover, and the chain of the session alone that it opens changes, of which no Tell is under way before.
use Rattle.std.proofs.Common.{◌≡◌, ◌==◌, ℕ, ◌+◌, ◌≤◌, nat_eq, true, List, arith, refl, subst, inl, inr, Bool, false, Contains}
use Rattle.std.specs.Cmp.Lexicographic.{pointwise}
use Rattle.std.proofs.lemmas.Bool.{and_parts, cases_Bool, eq-eqb, eqb-true}
use Rattle.std.proofs.lemmas.Slice.Eq.{bytes_eq-Decides}
use Rattle.tap_name.specs.Settings.{SettingsValue}
use Rattle.tap_name.specs.declared.slot.Slot.{Slot}
use Rattle.tap_wire.specs.declared.frame.Body.{Body}
use Rattle.tap_wire.specs.declared.frame.TellFields.{TellFields}
use Rattle.tap_rule.specs.Covering.{Request}
use Rattle.tap_rule.specs.Node.{NodeState, name_of, level_of}
use Rattle.tap_safety.specs.Frames.{tell_body}
use Rattle.tap_safety.specs.Sessions.{is_place}
use Rattle.tap_safety.specs.System.{System, IsUnderWay}
use Rattle.tap_moves.specs.InvariantLaws.{IsDelivery}
use Rattle.tap_cast_runs.specs.SlotAnswers.{WatchMemory, Answer, FirstCover, answer_of, answers_for}
use Rattle.tap_cast_runs.specs.Recalled.{chain_to, recalled_cover, recalled_first, table_for}
use Rattle.std.specs.Option.{is_none}
use Rattle.tap_multicast.specs.Offer.{answers}
use Rattle.tap_rule.specs.Sent.{IsAmong}
use Rattle.tap_moves.proofs.InvariantMoves.{way}
use Rattle.tap_cast_runs.specs.Watched.{IsAnswered}
use Rattle.tap_cast_runs.proofs.Spread.{own_or_primary, among_left, among_right, answered_among, answers_with}

-- ---- what is remembered grows

module _ (r : WatchMemory) (node : NodeState) (request : Request) where
  abbrev own : List ℕ
  own = name_of node

  abbrev r' : WatchMemory
  r' = recalled_cover r node request

  pub more_answers : (answer : Answer) → IsAmong answer r.answers → IsAmong answer r'.answers
  more_answers answer among = by (is_none (level_of node request.joiner))
    where
      by : (first : Bool) → IsAmong answer (recalled_first r node request first).answers
      by true = among_right answer (answers_for (table_for node request) request.joiner request.watch) r.answers among
      by false = among

  pub still_answered : (b : List ℕ) (slot : Slot) (chain longer : List (List ℕ)) → ((y : List ℕ) → IsAmong y chain → IsAmong y longer)
      → IsAnswered r b slot chain → IsAnswered r' b slot longer
  still_answered b slot chain longer within is = record {
    answer = is.answer;
    among = more_answers is.answer is.among;
    joiner_is = is.joiner_is;
    slot_is = is.slot_is;
    by = within is.answer.answerer is.by;
    own_or_primary = is.own_or_primary;
  }

  pub more_covers : (cover : FirstCover) → IsAmong cover r.covers → IsAmong cover r'.covers
  more_covers cover among = by (is_none (level_of node request.joiner))
    where
      by : (first : Bool) → IsAmong cover (recalled_first r node request first).covers
      by true = inr among
      by false = among

  -- a slot of the watch that a first cover answers
  pub answered_now : is_none (level_of node request.joiner) ≡ true → (slot : Slot) → Contains request.watch slot
      → answers (table_for node request) request.joiner slot ≡ true → IsAnswered r' request.joiner slot (chain_to r node request)
  answered_now first slot there answered =
      let t = table_for node request in
      let found = answers_with t request.joiner slot answered in
      let answer = answer_of t request.joiner slot found.0 in
      record {
        answer = answer;
        among =
            let there : IsAmong answer (recalled_first r node request true).answers =
            among_left answer (answers_for t request.joiner request.watch) r.answers
            (answered_among t request.joiner request.watch slot found.0 there found.1) in
            rw first there;
        joiner_is = refl;
        slot_is = refl;
        by = inl refl;
        own_or_primary = elim (own_or_primary t request.joiner slot found.0 found.1) [ inl mine ↦ inl mine.0 | inr primary ↦ inr primary ];
      }

-- ---- chains

module _ (p : SettingsValue) (s : System) (r : WatchMemory) (number : ℕ) (node : NodeState) (from : List ℕ) (body : Body)
    (is : IsDelivery p s number node from body) (request : Request) where
  abbrev now : WatchMemory
  now = recalled_cover r node request

  -- the session that is opened next has no Tell under way
  is_new : (w t : List ℕ) (tell : TellFields) (watch : List Slot) → IsUnderWay s w t (tell_body tell watch)
      → w ≡ name_of node → tell.session ≡ node.sessions.opened + 1 → ⊥
  is_new w t tell watch way mine next =
      let awaits = is.invariant.exact.frames way.number (record { from = w; to = t; body = tell_body tell watch }) w tell.session way.among
      refl in
      let place = is.invariant.places.places w tell.session awaits.session awaits.is in
      let here = is.at in
      let there = place.is in
      let same : place.state ≡ node = cc in
      let most : tell.session ≤ node.sessions.opened = subst (λ (n : NodeState). tell.session ≤ n.sessions.opened) same place.opened in
      omega (arith, most, next)

  pub old_chain : (w t : List ℕ) (tell : TellFields) (watch : List Slot) → IsUnderWay s w t (tell_body tell watch)
      → now.chain w tell.session ≡ r.chain w tell.session
  old_chain w t tell watch way =
      elim (cases_Bool (is_place (name_of node) (node.sessions.opened + 1) w tell.session)) [
        | inl here ↦
            let both = and_parts (pointwise nat_eq w (name_of node)) (tell.session == node.sessions.opened + 1) here in
            absurd (is_new w t tell watch way ((bytes_eq-Decides w (name_of node)).0 both.0)
            (eqb-true tell.session (node.sessions.opened + 1) both.1))
        | inr other ↦ rw other refl
      ]

  pub new_chain : now.chain (name_of node) (node.sessions.opened + 1) ≡ chain_to r node request
  new_chain =
      let name : pointwise nat_eq (name_of node) (name_of node) ≡ true = (bytes_eq-Decides (name_of node) (name_of node)).1 refl in
      let next : (node.sessions.opened + 1 == node.sessions.opened + 1) ≡ true =
      eq-eqb (node.sessions.opened + 1) (node.sessions.opened + 1) refl in
      rw (name, next) refl
