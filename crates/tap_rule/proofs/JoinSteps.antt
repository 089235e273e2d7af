-- What Tell, Hello and Done change at a joining node.
-- Cited above: done_law, hello_law, IsTellFit, meet_law, tell_fits
use Rattle.std.proofs.Common.{◌≡◌, ◌≢◌, ◌⊎◌, ◌||◌, ℕ, ◌+◌, nat_lt, ◌==◌, Bool, cond, List, [], ◌∷◌, ◌++◌, Option, Some, None, true, false, arith, refl, sym, ap, ◌∙◌, inl, inr}
use Rattle.std.specs.Prelude.{bytes_eq}
use Rattle.std.proofs.lemmas.Bool.{cases_Bool, or_parts, or_right, true≢false}
use Rattle.std.proofs.lemmas.Slice.Eq.{bytes_eq-Decides}
use Rattle.tap_name.specs.Name.{IsName}
use Rattle.tap_name.specs.Names.{has_name}
use Rattle.tap_name.specs.Prefix.{lcp}
use Rattle.tap_name.specs.declared.slot.Slot.{Slot}
use Rattle.tap_link.specs.declared.kind.Kind.{Kind}
use Rattle.tap_link.specs.declared.kind.Kind.TheVariants.{Pin, Settled, Leaving}
use Rattle.tap_link.proofs.TargetKinds.{kind_pinned}
use Rattle.tap_table.specs.declared.tie.Tie.{Tie}
use Rattle.tap_table.specs.Table.{kind_in}
use Rattle.tap_table.specs.Ties.{AreTies, TiesValue, pinned}
use Rattle.tap_table.proofs.LookUps.{by_rule, kind_in-pinned, of_itself}
use Rattle.tap_join.specs.Hello.{words_of}
use Rattle.tap_wire.specs.declared.frame.TellFields.{TellFields}
use Rattle.tap_wire.specs.declared.frame.Body.TheVariants.{Ack, Done}
use Rattle.tap_rule.specs.Node.{IsRunning, NodeState, link_to, name_of, settings_of}
use Rattle.tap_rule.specs.Event.{Acted}
use Rattle.tap_rule.specs.Reaction.{message, pin_word, sends, with_pin, with_words}
use Rattle.tap_rule.specs.Strange.{is_no_pin, is_own_name, is_strange, is_strange_body, is_strange_tell, is_too_many, most_depth, names_to_link}
use Rattle.tap_rule.specs.FrameRules.{frame_at_joining}
use Rattle.tap_rule.specs.Joining.{becomes_core, takes_hello, takes_tell_joining, welcomes}
use Rattle.tap_rule.specs.Sending.{link_frame}
use Rattle.tap_rule.specs.Sent.{IsAmong}
use Rattle.tap_rule.specs.JoinSteps.{MeetStep, PinStep}
use Rattle.tap_rule.specs.RuleLaws.{DoneLaw, HelloLaw, IsCarriedOut, MeetLaw, frame_to, tell_of}
use Rattle.tap_rule.specs.Hellos.{hello_body, joining_hello}
use Rattle.tap_rule.proofs.CarriedOut.{frame_law}
use Rattle.tap_rule.proofs.Completed.{completed_by, one_word, rest_by}
use Rattle.tap_rule.proofs.OneName.{others_stay}

-- a pin leaves a pin, unless there was another link
pin_left : (kind : Option Kind) → is_no_pin kind ≡ false → kind_pinned kind ≡ Some Pin
pin_left None pin = refl
pin_left (Some Pin) pin = refl
pin_left (Some Settled) pin = absurd (true≢false pin)
pin_left (Some Leaving) pin = absurd (true≢false pin)

module _ (node : NodeState) (joiner : List ℕ) (acted : Acted) (ties : AreTies node.ties) (is_name : IsName (settings_of node) joiner)
    (apart : joiner ≢ name_of node) (pin : is_no_pin (link_to node joiner) ≡ false) where
  pub pin_step : acted.state.ties ≡ pinned node.ties joiner
      → ((word : Tie) → IsAmong word (words_of (pin_word node joiner)) → IsAmong (link_frame (name_of node) word) acted.sent)
      → PinStep node joiner acted
  pin_step are links =
      let link : (name : List ℕ) → link_to acted.state name ≡ by_rule joiner name kind_pinned (link_to node name) =
      λ name. ap (λ (t : TiesValue). kind_in t.table name) are ∙ kind_in-pinned node.ties.table joiner ties.table is_name apart name in
      record {
        holders = ap (λ (t : TiesValue). t.holders) are;
        others = λ name. others_stay joiner name kind_pinned (link_to acted.state name) (link_to node name) (link name);
        pinned = link joiner ∙ of_itself joiner kind_pinned (link_to node joiner) ∙ pin_left (link_to node joiner) pin;
        says_so = λ none.
            let word : Tie = record { to = joiner; version = node.stamp + 1; on = true } in
            let among : IsAmong word (words_of (pin_word node joiner)) = rw none (inl refl) in links word among;
      }

-- what isn't strange about a Tell: its joiner is another node, and is pinned if there is a link to it
pub record IsTellFit (node : NodeState) (joiner : List ℕ) : Type 0 where
  pub apart : joiner ≢ name_of node
  pub pin : is_no_pin (link_to node joiner) ≡ false

pub tell_fits : (node : NodeState) (from : List ℕ) (tell : TellFields) (watch : List Slot)
    → is_strange node (frame_to node from (tell_of tell watch)) ≡ false → IsTellFit node tell.joiner
unfolding is_strange_body
tell_fits node from tell watch taken =
    let many = is_too_many node (names_to_link from (tell_of tell watch)) in
    let body = or_parts (is_own_name node from) (is_strange_tell node tell.joiner tell.prefix tell.depth)
    (or_parts (is_own_name node from || is_strange_tell node tell.joiner tell.prefix tell.depth) many taken).0 in
    let deep = tell.depth == most_depth in
    let long = nat_lt (lcp (name_of node) tell.joiner) tell.prefix in
    let linked = is_no_pin (link_to node tell.joiner) in
    let own = is_own_name node tell.joiner in
    let first = or_parts (own || linked || long) deep body.1 in
    let second = or_parts (own || linked) long first.0 in
    let third = or_parts own linked second.0 in
    record {
      apart = λ is. true≢false (sym ((bytes_eq-Decides tell.joiner (name_of node)).1 is) ∙ third.0);
      pin = third.1;
    }

-- a name that was added is there
added : (names : List (List ℕ)) (name : List ℕ) → has_name (names ++ name ∷ []) name ≡ true
added [] name = rw ((bytes_eq-Decides name name).1 refl) refl
added (first ∷ others) name = or_right _ _ (added others name)

-- and of others it stays so whether they are
added_others : (names : List (List ℕ)) (name other : List ℕ)
    → (other ≡ name) ⊎ (has_name (names ++ name ∷ []) other ≡ has_name names other)
added_others [] name other = elim (cases_Bool (bytes_eq name other)) [
  | inl same ↦ inl (sym ((bytes_eq-Decides name other).0 same))
  | inr apart ↦ inr (rw apart refl)
]
added_others (first ∷ others) name other = elim (added_others others name other) [
  | inl is ↦ inl is
  | inr same ↦ inr (ap (λ b. bytes_eq first other || b) same)
]

module _ (node : NodeState) (from : List ℕ) (tell : TellFields) (acted : Acted) (ties : AreTies node.ties)
    (is_name : IsName (settings_of node) tell.joiner) (fits : IsTellFit node tell.joiner) (runs : IsRunning node.status) where
  met_as : (before : Bool) → has_name node.greeted tell.joiner ≡ before
      → IsCarriedOut node (with_words (words_of (pin_word node tell.joiner)) (cond before
      (sends (with_pin node tell.joiner) (message from (Ack tell.session) ∷ [])) (welcomes (with_pin node tell.joiner) from tell))) acted
      → MeetStep node from tell acted
  met_as true is carried = record {
    status = carried.status;
    covers = carried.covers;
    pins = pin_step node tell.joiner acted ties is_name fits.apart fits.pin carried.ties carried.sent.links;
    greeted_before = λ before. (carried.sessions, carried.greeted, carried.sent.named (message from (Ack tell.session)) (inl refl));
    greets = λ new. absurd (true≢false (sym is ∙ new));
    abandoned = carried.abandoned;
    rest = rest_by carried refl refl refl refl;
    greeted = λ name. inr (ap (λ (names : List (List ℕ)). has_name names name) carried.greeted);
    answers = λ before. completed_by node _ acted carried runs (one_word _ tell.joiner node.stamp true);
    welcomes = λ new. absurd (true≢false (sym is ∙ new));
  }
  met_as false is carried = record {
    status = carried.status;
    covers = carried.covers;
    pins = pin_step node tell.joiner acted ties is_name fits.apart fits.pin carried.ties carried.sent.links;
    greeted_before = λ before. absurd (true≢false (sym before ∙ is));
    greets = λ new. (
      carried.sessions,
      rw carried.greeted (added node.greeted tell.joiner),
      carried.sent.named (message tell.joiner (joining_hello (node.sessions.opened + 1))) (inl refl),
    );
    abandoned = carried.abandoned;
    rest = rest_by carried refl refl refl refl;
    greeted = λ name. elim (added_others node.greeted tell.joiner name) [
      | inl is ↦ inl is
      | inr same ↦ inr (ap (λ (names : List (List ℕ)). has_name names name) carried.greeted ∙ same)
    ];
    answers = λ before. absurd (true≢false (sym before ∙ is));
    welcomes = λ new. completed_by node _ acted carried runs (one_word _ tell.joiner node.stamp true);
  }

pub meet_law : MeetLaw
unfolding frame_at_joining
meet_law node from tell watch ties is_name at taken =
    met_as node from tell _ ties is_name (tell_fits node from tell watch taken) (rw at tt) (has_name node.greeted tell.joiner) refl
    (frame_law node (frame_to node from (tell_of tell watch)) (takes_tell_joining node from tell) taken (rw at refl))

pub hello_law : HelloLaw
unfolding frame_at_joining
hello_law node from hello at taken =
    let frame = frame_to node from (hello_body hello) in
    let carried = frame_law node frame (takes_hello node from hello.session hello.is_core hello.links) taken (rw at refl) in
    record {
      joins = record { status = carried.status; covers = carried.covers; greeted = carried.greeted; abandoned = carried.abandoned };
      sessions = carried.sessions;
      ties = carried.ties;
      sent = carried.sent;
      rest = rest_by carried refl refl refl refl;
      completed = completed_by node _ _ carried (rw at tt) refl;
    }

pub done_law : DoneLaw
unfolding frame_at_joining
done_law node from at joined taken =
    let carried = frame_law node (frame_to node from Done) (becomes_core node) taken (rw (at, joined) refl) in
    record {
      status = carried.status;
      ties = carried.ties;
      covers = carried.covers;
      sessions = carried.sessions;
      news = carried.news;
      sent = carried.sent;
      greeted = carried.greeted;
      abandoned = carried.abandoned;
      rest = rest_by carried refl refl refl refl;
      completed = completed_by node _ _ carried tt (omega arith);
    }
