-- How many frames of a lookup a node sends as it takes a frame, or starts something.
use Rattle.std.proofs.Common.{◌≡◌, ◌⊎◌, ℕ, ◌+◌, Bool, false, List, [], ◌∷◌, map, drop, Option, None, Some, arith, refl, ap, subst, inl, inr}
use Rattle.std.specs.Prelude.{◌==◌, count_by}
use Rattle.std.proofs.lemmas.List.Sums.{sum_by-cons}
use Rattle.tap_table.specs.Next.{next_from}
use Rattle.tap_table.specs.declared.next.Next.{Next}
use Rattle.tap_table.specs.declared.next.Next.TheVariants.{Hop, Root}
use Rattle.tap_pointer.specs.declared.lay.Lay.{Lay}
use Rattle.tap_pointer.specs.Pointers.{server_for}
use Rattle.tap_wire.specs.declared.frame.Body.{Body}
use Rattle.tap_wire.specs.declared.frame.Body.TheVariants.{Answer, Find}
use Rattle.tap_wire.specs.declared.frame.Frame.{Frame}
use Rattle.tap_rule.specs.Act.{act}
use Rattle.tap_rule.specs.Completed.{IsCompleted, lays_after}
use Rattle.tap_rule.specs.Event.{Acted, News, Start}
use Rattle.tap_rule.specs.Event.Event.{Starts, Takes}
use Rattle.tap_rule.specs.Event.News.{Answered, Nothing}
use Rattle.tap_rule.specs.Event.Start.{Find as StartFind}
use Rattle.tap_rule.specs.Node.{NodeState, name_of}
use Rattle.tap_rule.specs.Node.Status.{Core, Leaving}
use Rattle.tap_rule.specs.PointerSteps.{FindStep, LookupStep}
use Rattle.tap_rule.specs.Reaction.{Message, message}
use Rattle.tap_rule.specs.RuleLaws.{frame_to}
use Rattle.tap_rule.specs.Sending.{by_receiver, lay_frame, message_frame}
use Rattle.tap_rule.specs.Sent.{IsAmong}
use Rattle.tap_rule.specs.Strange.{is_strange}
use Rattle.tap_rule.proofs.PointerSteps.{find_law, found_law, lookup_law}
use Rattle.tap_moves.specs.ByRule.{taken_at}
use Rattle.tap_pointer_moves.specs.LookupFrames.{is_its_answer, is_its_start, is_of_ticket, one_if}
use Rattle.tap_pointer_moves.specs.NoServer.{IsLookup}
use Rattle.tap_pointer_moves.proofs.LookupActs.{frame_acts, start_acts}
use Rattle.tap_pointer_moves.proofs.LookupRules.{AskNotes, AskSays, FoundNotes, FoundSays, IsAside}

module _ (ticket : ℕ) where
  -- how many of these frames are of the lookup
  abbrev pub frames_of_it : List Frame → ℕ
  frames_of_it sent = count_by (λ (f : Frame). is_of_ticket ticket f.body) sent

  -- A node has sent as many frames of the lookup, with one for its answer if it notes this, as it has got of it: one or none.
  abbrev pub IsCarriedOn : Bool → Acted → Type 0
  IsCarriedOn got acted = frames_of_it acted.sent + one_if (is_its_answer ticket acted.news) ≡ one_if got

  first_and_others : (f : Frame) (fs : List Frame) → frames_of_it (f ∷ fs) ≡ one_if (is_of_ticket ticket f.body) + frames_of_it fs
  first_and_others f fs = sum_by-cons (λ (g : Frame). one_if (is_of_ticket ticket g.body)) f fs

  -- ---- what isn't about lookups

  none_of_it : (sent : List Frame) → ((f : Frame) → IsAmong f sent → is_of_ticket ticket f.body ≡ false) → frames_of_it sent ≡ 0
  none_of_it [] none = refl
  none_of_it (f ∷ fs) none =
      let all = first_and_others f fs in
      let first : one_if (is_of_ticket ticket f.body) ≡ 0 = ap one_if (none f (inl refl)) in
      let others = none_of_it fs (λ g among. none g (inr among)) in
      omega (arith, all, first, others)

  found_aside : (node : NodeState) (taken : Body) (to : List ℕ) (body : Body) → IsAside taken → FoundSays node taken to body
      → is_of_ticket ticket body ≡ false
  found_aside node taken to (Find number object asker level) aside says = absurd (subst IsAside says.is aside)
  found_aside node taken to (Answer number server) aside says = absurd (subst IsAside says.is aside)
  found_aside node taken to _ aside says = refl

  found_unanswered : (taken : Body) (news : News) → IsAside taken → FoundNotes taken news → is_its_answer ticket news ≡ false
  found_unanswered taken (Answered number server) aside notes = absurd (subst IsAside notes aside)
  found_unanswered taken _ aside notes = refl

  aside_frame : (node : NodeState) (frame : Frame) → IsAside frame.body → IsCarriedOn false (act node (Takes frame))
  aside_frame node frame aside =
      let acts = frame_acts node frame in
      let acted = act node (Takes frame) in
      let none = none_of_it acted.sent (λ f among. found_aside node frame.body f.to f.body aside (acts.sent f among)) in
      let quiet = ap one_if (found_unanswered frame.body acted.news aside acts.news) in
      omega (arith, none, quiet)

  -- a start of no lookup
  abbrev IsNoLookup : Start → Type 0
  IsNoLookup (StartFind number object) = ⊥
  IsNoLookup other = Unit {0}

  ask_aside : (node : NodeState) (start : Start) (to : List ℕ) (body : Body) → IsNoLookup start → AskSays node start to body
      → is_of_ticket ticket body ≡ false
  ask_aside node start to (Find number object asker level) other says = absurd (subst IsNoLookup says.is other)
  ask_aside node start to (Answer number server) other says = absurd says
  ask_aside node start to _ other says = refl

  ask_unanswered : (node : NodeState) (start : Start) (news : News) → IsNoLookup start → AskNotes node start news
      → is_its_answer ticket news ≡ false
  ask_unanswered node start (Answered number server) other notes = absurd (subst IsNoLookup notes.is other)
  ask_unanswered node start _ other notes = refl

  aside_start : (node : NodeState) (start : Start) → IsNoLookup start → IsCarriedOn false (act node (Starts start))
  aside_start node start other =
      let acts = start_acts node start in
      let acted = act node (Starts start) in
      let none = none_of_it acted.sent (λ f among. ask_aside node start f.to f.body other (acts.sent f among)) in
      let quiet = ap one_if (ask_unanswered node start acted.news other acts.news) in
      omega (arith, none, quiet)

  -- ---- a step of one message, or of none

  no_lay_of_it : (own : List ℕ) (lays : List Lay) → frames_of_it (map (lay_frame own) lays) ≡ 0
  no_lay_of_it own [] = refl
  no_lay_of_it own (l ∷ lays) =
      let all = first_and_others (lay_frame own l) (map (lay_frame own) lays) in
      let others = no_lay_of_it own lays in
      omega (arith, all, others)

  module _ (node : NodeState) (acted : Acted) where
    abbrev laid : List Frame
    laid = map (lay_frame (name_of node)) (lays_after node node.pointers [] acted)

    none_laid : frames_of_it laid ≡ 0
    none_laid = no_lay_of_it (name_of node) (lays_after node node.pointers [] acted)

    one_sent_on : (m : Message) (number : ℕ) → is_of_ticket ticket m.body ≡ (number == ticket)
        → IsCompleted node node.pointers [] (m ∷ []) Nothing acted → IsCarriedOn (number == ticket) acted
    unfolding by_receiver
    one_sent_on m number is completed =
        let all : frames_of_it acted.sent ≡ frames_of_it (message_frame (name_of node) m ∷ laid) = ap frames_of_it completed.sent.all in
        let both = first_and_others (message_frame (name_of node) m) laid in
        let none = none_laid in
        let quiet = ap (λ n. one_if (is_its_answer ticket n)) completed.news in
        let same = ap one_if is in
        omega (arith, all, both, none, quiet, same)

    answer_noted : (number : ℕ) (server : Option (List ℕ)) → IsCompleted node node.pointers [] [] (Answered number server) acted
        → IsCarriedOn (number == ticket) acted
    unfolding by_receiver
    answer_noted number server completed =
        let all : frames_of_it acted.sent ≡ frames_of_it laid = ap frames_of_it completed.sent.all in
        let none = none_laid in
        let said = ap (λ n. one_if (is_its_answer ticket n)) completed.news in
        omega (arith, all, none, said)

  -- ---- a frame

  module _ (node : NodeState) (from : List ℕ) where
    find_goes_on : (number : ℕ) (object asker : List ℕ) (level : ℕ) → (node.status ≡ Core) ⊎ (node.status ≡ Leaving)
        → is_strange node (frame_to node from (Find number object asker level)) ≡ false
        → IsCarriedOn (number == ticket) (taken_at node from (Find number object asker level))
    find_goes_on number object asker level at known =
        by_server (find_law node from number object asker level at known) (server_for node.pointers object) refl
      where
        by_next : FindStep node number object asker level (taken_at node from (Find number object asker level))
            → server_for node.pointers object ≡ None → (next : Next) → next_from node.ties.table level (drop level object) ≡ next
            → IsCarriedOn (number == ticket) (taken_at node from (Find number object asker level))
        by_next step none Root found =
            one_sent_on node (taken_at node from (Find number object asker level)) (message asker (Answer number None)) number refl
            (step.at_root none found)
        by_next step none (Hop to next) found =
            one_sent_on node (taken_at node from (Find number object asker level)) (message to (Find number object asker next)) number refl
            (step.goes_on to next none found)

        by_server : FindStep node number object asker level (taken_at node from (Find number object asker level))
            → (server : Option (List ℕ)) → server_for node.pointers object ≡ server
            → IsCarriedOn (number == ticket) (taken_at node from (Find number object asker level))
        by_server step (Some server) held =
            one_sent_on node (taken_at node from (Find number object asker level)) (message asker (Answer number (Some server))) number refl
            (step.served server held)
        by_server step None none = by_next step none (next_from node.ties.table level (drop level object)) refl

    -- a Find is sent on, or its Answer, and an Answer is noted; of another frame nothing is said of lookups
    pub frame_goes_on : (body : Body) → is_strange node (frame_to node from body) ≡ false
        → (IsLookup body → (node.status ≡ Core) ⊎ (node.status ≡ Leaving)) → IsCarriedOn (is_of_ticket ticket body) (taken_at node from body)
    frame_goes_on (Find number object asker level) known late = find_goes_on number object asker level (late tt) known
    frame_goes_on (Answer number server) known late =
        answer_noted node (taken_at node from (Answer number server)) number server (found_law node from number server (late tt) known).completed
    frame_goes_on body known late = aside_frame node (frame_to node from body) tt

  -- ---- a start

  module _ (node : NodeState) where
    lookup_begins : (number : ℕ) (object : List ℕ) → node.status ≡ Core
        → IsCarriedOn (number == ticket) (act node (Starts (StartFind number object)))
    lookup_begins number object at = by_server (lookup_law node number object at) (server_for node.pointers object) refl
      where
        by_next : LookupStep node number object (act node (Starts (StartFind number object))) → server_for node.pointers object ≡ None
            → (next : Next) → next_from node.ties.table 0 object ≡ next
            → IsCarriedOn (number == ticket) (act node (Starts (StartFind number object)))
        by_next step none Root found = answer_noted node (act node (Starts (StartFind number object))) number None (step.at_root none found)
        by_next step none (Hop to next) found =
            one_sent_on node (act node (Starts (StartFind number object))) (message to (Find number object (name_of node) next)) number refl
            (step.goes_on to next none found)

        by_server : LookupStep node number object (act node (Starts (StartFind number object))) → (server : Option (List ℕ))
            → server_for node.pointers object ≡ server → IsCarriedOn (number == ticket) (act node (Starts (StartFind number object)))
        by_server step (Some server) held =
            answer_noted node (act node (Starts (StartFind number object))) number (Some server) (step.served server held)
        by_server step None none = by_next step none (next_from node.ties.table 0 object) refl

    -- a lookup that starts sends a Find, or is answered at once; with another start nothing is said of lookups
    pub start_goes_on : (start : Start) → ((number : ℕ) (object : List ℕ) → start ≡ StartFind number object → node.status ≡ Core)
        → IsCarriedOn (is_its_start ticket start) (act node (Starts start))
    start_goes_on (StartFind number object) core = lookup_begins number object (core number object refl)
    start_goes_on start core = aside_start node start tt
