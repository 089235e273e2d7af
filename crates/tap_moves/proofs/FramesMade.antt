-- Tells at joining and ceased nodes, Hellos, Releases and Forgets are those of which the laws of systems speak.
use Rattle.std.proofs.Common.{◌≡◌, ◌≢◌, ◌⊎◌, ℕ, ◌+◌, ◌<◌, Bool, cond, List, [], ◌∷◌, Option, None, Some, true, false, ap, refl, sym, subst, ◌∙◌, inl, inr}
use Rattle.std.proofs.lemmas.Bool.{cases_Bool}
use Rattle.tap_name.specs.Name.{IsName}
use Rattle.tap_name.specs.Prefix.{lcp}
use Rattle.tap_name.specs.declared.slot.Offered.{Offered}
use Rattle.tap_name.specs.declared.slot.Slot.{Slot}
use Rattle.tap_link.specs.declared.kind.Kind.{Kind}
use Rattle.tap_link.specs.declared.kind.Kind.TheVariants.{Leaving, Pin, Settled}
use Rattle.tap_link.specs.LinkSet.{is_pinned}
use Rattle.tap_table.specs.Table.{has_room_near, kind_in}
use Rattle.tap_table.specs.Ties.{AreTies, TiesValue}
use Rattle.tap_table.proofs.Found.{linked_is_other}
use Rattle.tap_table.proofs.Primaries.{full_has_primary}
use Rattle.tap_name.specs.Names.{has_name}
use Rattle.tap_join.specs.Hello.{after_hello, hello_names, words_of}
use Rattle.tap_join.proofs.Hellos.{AreTies-after_hello, IsServed, all_named, hello_links_stay, hello_new_links, hello_serves, owner_stays, settings_stay}
use Rattle.tap_wire.specs.declared.frame.Body.TheVariants.{Ack, Forget, Heard, Release}
use Rattle.tap_wire.specs.declared.frame.Frame.{Frame}
use Rattle.tap_wire.specs.declared.frame.TellFields.{TellFields}
use Rattle.tap_rule.specs.Event.{Acted}
use Rattle.tap_rule.specs.Joining.{hello_words, takes_tell_joining, welcomes}
use Rattle.tap_rule.specs.RuleLaws.{IsCarriedOut, frame_to}
use Rattle.tap_rule.specs.Links.{release_word}
use Rattle.tap_rule.specs.Reaction.{Message, message, pin_word, sends, with_pin, with_words}
use Rattle.tap_rule.specs.LinkSteps.{ForgetStep, ReleaseStep}
use Rattle.tap_rule.specs.Node.{NodeState, link_to, name_of, settings_of}
use Rattle.tap_rule.specs.Sent.{AreSent, IsAmong}
use Rattle.tap_rule.proofs.CarriedOut.{frame_law}
use Rattle.tap_rule.proofs.JoinSteps.{hello_law, meet_law, tell_fits}
use Rattle.tap_rule.proofs.LinkSteps.{forget_law, release_law}
use Rattle.tap_rule.specs.Ceasing.{takes_tell_ceased}
use Rattle.tap_rule.specs.Node.Status.{Joining}
use Rattle.tap_rule.specs.Strange.{is_strange}
use Rattle.tap_rule.specs.FrameRules.{frame_at_ceased, frame_at_joining}
use Rattle.tap_rule.specs.Hellos.{joining_hello}
use Rattle.tap_safety.specs.Frames.{HelloFields, hello_body, tell_body}
use Rattle.tap_safety.specs.FrameSteps.{ComesFrom, HasSettledNear}
use Rattle.tap_moves.specs.ByRule.{taken_at}
use Rattle.tap_moves.specs.FrameLaws.{AreOfferedNames, CeasedTellIsMade, ForgetIsMade, HelloIsMade, JoiningTellIsMade, ReleaseIsMade}
use Rattle.tap_moves.proofs.CoverMade.{none_or_pin}
use Rattle.tap_moves.proofs.Got.{among_all, among_got}
use Rattle.tap_moves.proofs.Nearness.{primary_stands_near}
use Rattle.tap_moves.proofs.Plain.{takes_frame}

pub ceased_tell_is_made : CeasedTellIsMade
unfolding frame_at_ceased
ceased_tell_is_made s s' number node from tell watch taken surrogates at =
    let frame = frame_to node from (tell_body tell watch) in
    let carried = frame_law node frame (takes_tell_ceased node from tell.session) taken.known (rw at refl) in
    record {
      step =
          takes_frame s s' number node from (tell_body tell watch) taken surrogates carried.status carried.covers []
          (message from (Ack tell.session) ∷ []) carried.sent;
      ceased = at;
      answers = refl;
      links = λ t. ap (λ (ties : TiesValue). kind_in ties.table t) carried.ties;
    }

-- what a joining node sends at a Tell: its word, if the link is new, and a Hello to the joiner, or an Ack
pub record MeetsSo (node : NodeState) (from : List ℕ) (tell : TellFields) (sent : List Frame) : Type 0 where
  pub messages : List Message
  pub are : AreSent (name_of node) (words_of (pin_word node tell.joiner)) messages sent
  pub answers : (messages ≡ message from (Ack tell.session) ∷ [])
      ⊎ ((session : ℕ) × (messages ≡ message tell.joiner (joining_hello session) ∷ []))

meets_so : (node : NodeState) (from : List ℕ) (tell : TellFields) (acted : Acted) (before : Bool)
    → IsCarriedOut node (with_words (words_of (pin_word node tell.joiner)) (cond before
    (sends (with_pin node tell.joiner) (message from (Ack tell.session) ∷ [])) (welcomes (with_pin node tell.joiner) from tell))) acted
    → MeetsSo node from tell acted.sent
meets_so node from tell acted true carried =
    record { messages = message from (Ack tell.session) ∷ []; are = carried.sent; answers = inl refl }
meets_so node from tell acted false carried = record {
  messages = message tell.joiner (joining_hello (node.sessions.opened + 1)) ∷ [];
  are = carried.sent;
  answers = inr (node.sessions.opened + 1, refl);
}

pub meets_sent : (node : NodeState) (from : List ℕ) (tell : TellFields) (watch : List Slot)
    → is_strange node (frame_to node from (tell_body tell watch)) ≡ false → node.status ≡ Joining
    → MeetsSo node from tell (taken_at node from (tell_body tell watch)).sent
unfolding frame_at_joining
meets_sent node from tell watch known at =
    let carried = frame_law node (frame_to node from (tell_body tell watch)) (takes_tell_joining node from tell) known (rw at refl) in
    meets_so node from tell (taken_at node from (tell_body tell watch)) (has_name node.greeted tell.joiner) carried

pub joining_tell_is_made : JoiningTellIsMade
joining_tell_is_made s s' number node from tell watch taken surrogates at name =
    let step = meet_law node from tell watch taken.is_node.ties name at taken.known in
    let fits = tell_fits node from tell watch taken.known in
    let sent = meets_sent node from tell watch taken.known at in
    record {
      step =
          takes_frame s s' number node from (tell_body tell watch) taken surrogates step.status step.covers
          (words_of (pin_word node tell.joiner)) sent.messages sent.are;
      joining = at;
      linked = none_or_pin (link_to node tell.joiner) fits.pin;
      pinned = step.pins.pinned;
      links = step.pins.others;
      answers = sent.answers;
    }

-- ---- a Hello

near_at : (one other t f : List ℕ) → one ≡ other → lcp one t < lcp t f → lcp other t < lcp t f
near_at one other t f same near = subst (λ own. lcp own t < lcp t f) same near

module _ (node : NodeState) (from : List ℕ) (hello : HelloFields) (ties : AreTies node.ties) (sender : IsName (settings_of node) from)
    (names : AreOfferedNames (settings_of node) hello.links) where
  abbrev offered_names : List Offered
  offered_names = hello_names from hello.is_core hello.links

  -- the ties after the Hello
  abbrev left_ties : TiesValue
  left_ties = after_hello node.ties from hello.is_core hello.links

  are_left : AreTies left_ties
  are_left =
      AreTies-after_hello (settings_of node) (name_of node) node.ties (ties, refl, refl) from hello.is_core hello.links sender names

  -- a name of the Hello is linked, or a core node's whose slot has a settled link
  module _ (after : NodeState) (are : after.ties ≡ left_ties) (offered : Offered) where
    served : IsName (settings_of node) offered.name → offered.name ≢ name_of node → IsServed left_ties offered
        → ((kind : Kind) × (link_to after offered.name ≡ Some kind))
        ⊎ ((offered.settled ≡ true) × HasSettledNear after (name_of node) offered.name)
    served name apart (inl has) = inl (has.0, ap (λ (t : TiesValue). kind_in t.table offered.name) are ∙ has.1)
    served name apart (inr full) =
        let owner = owner_stays offered_names node.ties in
        let settings = settings_stay offered_names node.ties in
        let first = full_has_primary left_ties.table offered.name are_left.table full.1 in
        let stands = primary_stands_near left_ties.table are_left.table offered.name first.0
        (subst (λ p. IsName p offered.name) (sym settings) name) (λ same. apart (same ∙ owner)) first.1 in
        inr (
          full.0,
          record {
            to = first.0;
            settled = ap (λ (t : TiesValue). kind_in t.table first.0) are ∙ stands.0;
            near = near_at left_ties.table.owner (name_of node) offered.name first.0 owner stands.2;
          },
        )

    had : IsAmong offered offered_names → offered.name ≢ name_of node
        → ((kind : Kind) × (link_to after offered.name ≡ Some kind))
        ⊎ ((offered.settled ≡ true) × HasSettledNear after (name_of node) offered.name)
    had among apart =
        let all = all_named (settings_of node) (name_of node) node.ties (ties, refl, refl) from hello.is_core hello.links sender names in
        let serves = hello_serves (settings_of node) (name_of node) node.ties (ties, refl, refl) from hello.is_core hello.links sender names
        in
        served (among_all (λ (o : Offered). IsName (settings_of node) o.name) offered_names all offered among) apart
        (among_all (λ (o : Offered). o.name ≢ name_of node → IsServed left_ties o) offered_names serves offered among apart)

  -- each link stays, and a new one comes from a name
  kept : (t : List ℕ) (kind : Kind) → link_to node t ≡ Some kind → kind_in left_ties.table t ≡ Some kind
  kept = hello_links_stay (settings_of node) (name_of node) node.ties (ties, refl, refl) from hello.is_core hello.links sender names

  new : (t : List ℕ) (kind : Kind) → kind_in left_ties.table t ≡ Some kind → (link_to node t ≡ Some kind) ⊎ ComesFrom from hello t kind
  new t kind is =
      elim (hello_new_links (settings_of node) (name_of node) node.ties (ties, refl, refl) from hello.is_core hello.links sender names
      t kind is) [
        | inl was ↦ inl was
        | inr comes ↦ inr (record {
          offered = comes.1;
          offers = among_got comes.1 offered_names comes.0 comes.2;
          name = sym comes.3;
          kind_is = comes.4;
        })
      ]

pub hello_is_made : HelloIsMade
hello_is_made s s' number node from hello taken surrogates at sender names =
    let ties = taken.is_node.ties in
    let step = hello_law node from hello at taken.known in
    let after = (taken_at node from (hello_body hello)).state in
    record {
      step =
          takes_frame s s' number node from (hello_body hello) taken surrogates step.joins.status step.joins.covers
          (hello_words node from hello.is_core hello.links) (message from (Heard hello.session) ∷ []) step.sent;
      joining = at;
      answers = refl;
      kept = λ t kind is.
          ap (λ (t' : TiesValue). kind_in t'.table t) step.ties ∙ kept node from hello ties sender names t kind is;
      had = λ offered among apart. had node from hello ties sender names after step.ties offered among apart;
      new = λ t kind is.
          new node from hello ties sender names t kind (sym (ap (λ (t' : TiesValue). kind_in t'.table t) step.ties) ∙ is);
    }

-- ---- Release and Forget

-- whether there is a pin
unpinned_or_pin : (kind : Option Kind) → (is_pinned kind ≡ false) ⊎ (kind ≡ Some Pin)
unpinned_or_pin None = inl refl
unpinned_or_pin (Some Pin) = inr refl
unpinned_or_pin (Some Settled) = inl refl
unpinned_or_pin (Some Leaving) = inl refl

not_settled : (kind : Option Kind) → kind ≡ Some Settled → kind ≡ Some Pin → ⊥
not_settled kind settled pin = let wrong : Some Settled ≡ Some Pin = sym settled ∙ pin in cc

module _ (node : NodeState) (from : List ℕ) (acted : Acted) (ties : AreTies node.ties) (name : IsName (settings_of node) from)
    (step : ReleaseStep node from acted) where
  -- a pin that is dropped leaves a slot with a settled link
  dropped : link_to node from ≡ Some Pin → has_room_near node.ties.table from ≡ false → HasSettledNear acted.state (name_of node) from
  dropped pin full =
      let first = full_has_primary node.ties.table from ties.table full in
      let apart = linked_is_other node.ties.table ties.table from Pin pin in
      let stands = primary_stands_near node.ties.table ties.table from first.0 name apart first.1 in
      record {
        to = first.0;
        settled = elim (step.others first.0) [
          | inl same ↦ absurd (not_settled (link_to node first.0) stands.0 (ap (link_to node) same ∙ pin))
          | inr stays ↦ stays ∙ stands.0
        ];
        near = stands.2;
      }

  released_as : (link_to acted.state from ≡ link_to node from)
      ⊎ ((link_to node from ≡ Some Pin) × ((link_to acted.state from ≡ Some Settled)
      ⊎ ((link_to acted.state from ≡ None) × HasSettledNear acted.state (name_of node) from)))
  released_as =
      elim (unpinned_or_pin (link_to node from)) [
        | inl none ↦ inl (step.unpinned none)
        | inr pin ↦ elim (cases_Bool (has_room_near node.ties.table from)) [
          | inl room ↦ inr (pin, inl (step.settles pin room))
          | inr full ↦ inr (pin, inr ((step.drops pin full).0, dropped pin full))
        ]
      ]

pub release_is_made : ReleaseIsMade
release_is_made s s' number node from taken surrogates at name =
    let step = release_law node from taken.is_node.ties name at taken.known in
    record {
      step =
          takes_frame s s' number node from Release taken surrogates step.joins.status step.joins.covers
          (words_of (release_word node from)) [] step.sent;
      silent = refl;
      others = step.others;
      released = released_as node from (taken_at node from Release) taken.is_node.ties name step;
    }

forgotten_as : (node : NodeState) (from : List ℕ) (acted : Acted) → ForgetStep node from acted
    → (link_to acted.state from ≡ link_to node from) ⊎ ((link_to node from ≡ Some Pin) × (link_to acted.state from ≡ None))
forgotten_as node from acted step =
    elim (unpinned_or_pin (link_to node from)) [
      | inl none ↦ inl (step.unpinned none)
      | inr pin ↦ inr (pin, step.forgets pin)
    ]

pub forget_is_made : ForgetIsMade
forget_is_made s s' number node from taken surrogates at name =
    let step = forget_law node from taken.is_node.ties name at taken.known in
    record {
      step = takes_frame s s' number node from Forget taken surrogates step.joins.status step.joins.covers [] [] step.sent;
      silent = refl;
      others = step.others;
      forgotten = forgotten_as node from (taken_at node from Forget) step;
    }
