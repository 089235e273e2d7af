-- What Release, Forget and Link change.
-- Cited above: forget_law, link_law, release_law
use Rattle.std.proofs.Common.{◌≡◌, ◌≢◌, ◌⊎◌, ℕ, ◌+◌, Bool, List, [], ◌∷◌, Option, Some, false, arith, refl, sym, ap, subst, ◌∙◌, inl, inr, if◌then◌else◌}
use Rattle.std.specs.Ordering.{is_eq}
use Rattle.std.proofs.lemmas.Bool.{and_right, cases_Bool}
use Rattle.std.proofs.lemmas.Cmp.{nat_list_cmp_total}
use Rattle.tap_name.specs.Name.{IsName}
use Rattle.tap_name.specs.Order.{name_cmp}
use Rattle.tap_register.proofs.Applied.{entry_of-applied}
use Rattle.tap_link.specs.declared.kind.Kind.{Kind}
use Rattle.tap_link.proofs.TargetKinds.{kind_forgotten, kind_released}
use Rattle.tap_register.specs.Registers.{entry_of, newest, supersedes}
use Rattle.tap_table.specs.declared.tie.Tie.{Tie}
use Rattle.tap_table.specs.Table.{has_room_near, kind_in}
use Rattle.tap_table.specs.Ties.{AreTies, TiesValue}
use Rattle.tap_table.proofs.LookUps.{by_rule, kind_in-forgotten, kind_in-released, of_itself}
use Rattle.tap_table.proofs.Near.{tied_itself, tied_names}
use Rattle.tap_join.specs.Hello.{words_of}
use Rattle.tap_wire.specs.declared.frame.Body.TheVariants.{Release, Link, Forget}
use Rattle.tap_rule.specs.Node.{IsRunning, NodeState, link_to, name_of, settings_of, word_of}
use Rattle.tap_rule.specs.Node.Status.{Joining, Core, Leaving}
use Rattle.tap_rule.specs.Event.{Acted}
use Rattle.tap_rule.specs.Event.News.{Nothing}
use Rattle.tap_rule.specs.Reaction.{Message, message, sends}
use Rattle.tap_rule.specs.FrameRules.{frame_at_core, frame_at_joining, frame_at_leaving, rule_of_frame}
use Rattle.tap_rule.specs.Links.{release_answer, release_word, takes_forget, takes_link, takes_link_joining, takes_release, with_word}
use Rattle.tap_rule.specs.Sent.{AreSent, IsAmong}
use Rattle.tap_rule.specs.LinkSteps.{ForgetStep, LinkStep, ReleaseStep}
use Rattle.tap_rule.specs.RuleLaws.{ForgetLaw, IsCarriedOut, LinkLaw, ReleaseLaw, frame_to}
use Rattle.tap_rule.specs.Completed.{IsCompleted}
use Rattle.tap_rule.proofs.CarriedOut.{frame_law}
use Rattle.tap_rule.proofs.Completed.{completed_by, early_runs, one_word, rest_by}
use Rattle.tap_rule.proofs.OneName.{not_own, others_stay}

module _ (node : NodeState) (from : List ℕ) (acted : Acted) (ties : AreTies node.ties) (is_name : IsName (settings_of node) from)
    (apart : from ≢ name_of node) (runs : IsRunning node.status) where
  released_step : IsCarriedOut node (takes_release node from) acted → ReleaseStep node from acted
  released_step carried =
      let rule : Option Kind → Option Kind = kind_released (has_room_near node.ties.table from) in
      let link : (name : List ℕ) → link_to acted.state name ≡ by_rule from name rule (link_to node name) =
      λ name. ap (λ (t : TiesValue). kind_in t.table name) carried.ties
      ∙ kind_in-released node.ties.table from ties.table is_name apart name in
      let own : link_to acted.state from ≡ rule (link_to node from) = link from ∙ of_itself from rule (link_to node from) in
      record {
        joins = record { status = carried.status; covers = carried.covers; greeted = carried.greeted; abandoned = carried.abandoned };
        sessions = carried.sessions;
        holders = ap (λ (t : TiesValue). t.holders) carried.ties;
        others = λ name. others_stay from name rule (link_to acted.state name) (link_to node name) (link name);
        unpinned = λ none. own ∙ rw none refl;
        settles = λ pin room. own ∙ rw (pin, room) refl;
        drops = λ pin full. (
          own ∙ rw (pin, full) refl,
          let word : Tie = record { to = from; version = node.stamp + 1; on = false } in
              let among : IsAmong word (words_of (release_word node from)) = rw (pin, full) (inl refl) in carried.sent.links word among,
        );
        sent = carried.sent;
        rest = rest_by carried refl refl refl refl;
        completed = completed_by node _ acted carried runs (one_word _ from node.stamp false);
      }

  forgotten_step : IsCarriedOut node (takes_forget node from) acted → ForgetStep node from acted
  forgotten_step carried =
      let link : (name : List ℕ) → link_to acted.state name ≡ by_rule from name kind_forgotten (link_to node name) =
      λ name. ap (λ (t : TiesValue). kind_in t.table name) carried.ties
      ∙ kind_in-forgotten node.ties.table from ties.table is_name apart name in
      let own : link_to acted.state from ≡ kind_forgotten (link_to node from) =
      link from ∙ of_itself from kind_forgotten (link_to node from) in
      record {
        joins = record { status = carried.status; covers = carried.covers; greeted = carried.greeted; abandoned = carried.abandoned };
        sessions = carried.sessions;
        holders = ap (λ (t : TiesValue). t.holders) carried.ties;
        others = λ name. others_stay from name kind_forgotten (link_to acted.state name) (link_to node name) (link name);
        unpinned = λ none. own ∙ rw none refl;
        forgets = λ pin. own ∙ rw pin refl;
        sent = carried.sent;
        rest = rest_by carried refl refl refl refl;
        completed = completed_by node _ acted carried runs (omega arith);
      }

-- the rules of these kinds
release_rule : (node : NodeState) (from : List ℕ) → (node.status ≡ Joining) ⊎ (node.status ≡ Core)
    → rule_of_frame node.status node from Release ≡ Some (takes_release node from)
unfolding frame_at_joining frame_at_core
release_rule node from (inl at) = rw at refl
release_rule node from (inr at) = rw at refl

forget_rule : (node : NodeState) (from : List ℕ) → (node.status ≡ Joining) ⊎ (node.status ≡ Core)
    → rule_of_frame node.status node from Forget ≡ Some (takes_forget node from)
unfolding frame_at_joining frame_at_core
forget_rule node from (inl at) = rw at refl
forget_rule node from (inr at) = rw at refl

pub release_law : ReleaseLaw
release_law node from ties is_name at taken =
    let frame = frame_to node from Release in
    released_step node from _ ties is_name (not_own node frame taken) (early_runs node.status at)
    (frame_law node frame (takes_release node from) taken (release_rule node from at))

pub forget_law : ForgetLaw
forget_law node from ties is_name at taken =
    let frame = frame_to node from Forget in
    forgotten_step node from _ ties is_name (not_own node frame taken) (early_runs node.status at)
    (frame_law node frame (takes_forget node from) taken (forget_rule node from at))

module _ (node : NodeState) (holder : List ℕ) (version : ℕ) (on : Bool) (acted : Acted) where
  -- the word of each name after the word of a holder
  heard_word : acted.state.ties ≡ (with_word node holder version on).ties → (name : List ℕ) → word_of acted.state name
      ≡ (if is_eq (name_cmp holder name)
      then Some (newest (word_of node holder) (record { key = holder; version = version; value = on }))
      else word_of node name)
  heard_word is name =
      ap (λ (t : TiesValue). entry_of name_cmp t.holders name) is
      ∙ entry_of-applied name_cmp nat_list_cmp_total node.ties.holders holder version on name

  heard_step : (messages : List Message) → IsCarriedOut node (sends (with_word node holder version on) messages) acted
      → ((node.status ≡ Core) ⊎ (node.status ≡ Leaving) → messages ≡ release_answer node holder version on)
      → (node.status ≡ Joining → messages ≡ []) → IsRunning node.status
      → (messages ≡ release_answer node holder version on) ⊎ (messages ≡ [])
      → LinkStep node holder version on acted
  heard_step messages carried answered unanswered runs either = record {
    joins = record { status = carried.status; covers = carried.covers; greeted = carried.greeted; abandoned = carried.abandoned };
    sessions = carried.sessions;
    table = ap (λ (t : TiesValue). t.table) carried.ties;
    others = λ name. elim (cases_Bool (is_eq (name_cmp holder name))) [
      | inl tied ↦ inl (sym (tied_names holder name tied))
      | inr apart ↦ inr (heard_word carried.ties name ∙ rw apart refl)
    ];
    word = heard_word carried.ties holder ∙ rw (tied_itself holder) refl;
    answers = λ at new is_on.
        let due : IsAmong (message holder Release) (release_answer node holder version on) = rw (new, is_on) (inl refl) in
        carried.sent.named (message holder Release) (subst (IsAmong (message holder Release)) (sym (answered at)) due);
    silent = λ why. subst (λ m. AreSent (name_of node) [] m acted.sent) (none why) carried.sent;
    rest = rest_by carried refl refl refl refl;
    answers_alone = λ at new is_on.
        let due : release_answer node holder version on ≡ message holder Release ∷ [] = rw (new, is_on) refl in
        subst (λ m. IsCompleted node node.pointers [] m Nothing acted) (answered at ∙ due) whole;
    completed = λ why. subst (λ m. IsCompleted node node.pointers [] m Nothing acted) (none why) whole;
  }
    where
      whole : IsCompleted node node.pointers [] messages Nothing acted
      whole = completed_by node _ acted carried runs (omega arith)

      no_answer : (supersedes version (word_of node holder) ≡ false) ⊎ (on ≡ false) → release_answer node holder version on ≡ []
      no_answer (inl old) = rw old refl
      no_answer (inr off) = rw (off, and_right (supersedes version (word_of node holder)) false refl) refl

      none : (node.status ≡ Joining) ⊎ ((supersedes version (word_of node holder) ≡ false) ⊎ (on ≡ false)) → messages ≡ []
      none (inl joining) = unanswered joining
      none (inr why) = elim either [ inl is ↦ is ∙ no_answer why | inr is ↦ is ]

-- no node has two statuses
not_both : {A : Type 0} (node : NodeState) → node.status ≡ Joining → (node.status ≡ Core) ⊎ (node.status ≡ Leaving) → A
not_both node joining (inl core) = let both : Joining ≡ Core = sym joining ∙ core in absurd cc
not_both node joining (inr leaving) = let both : Joining ≡ Leaving = sym joining ∙ leaving in absurd cc

pub link_law : LinkLaw
unfolding frame_at_joining frame_at_core frame_at_leaving
link_law node holder version on (inl at) taken =
    let frame = frame_to node holder (Link version on) in
    heard_step node holder version on _ [] (frame_law node frame (takes_link_joining node holder version on) taken (rw at refl))
    (λ other. not_both node at other) (λ joining. refl) (rw at tt) (inr refl)
link_law node holder version on (inr (inl at)) taken =
    let frame = frame_to node holder (Link version on) in
    heard_step node holder version on _ (release_answer node holder version on)
    (frame_law node frame (takes_link node holder version on) taken (rw at refl))
    (λ core. refl) (λ joining. not_both node joining (inl at)) (rw at tt) (inl refl)
link_law node holder version on (inr (inr at)) taken =
    let frame = frame_to node holder (Link version on) in
    heard_step node holder version on _ (release_answer node holder version on)
    (frame_law node frame (takes_link node holder version on) taken (rw at refl))
    (λ leaving. refl) (λ joining. not_both node joining (inr at)) (rw at tt) (inl refl)
