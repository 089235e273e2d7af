-- Which moves have a node cover a joiner, and what is known of one that a frame asks for: a start has nobody do so.
use Rattle.std.proofs.Common.{◌≡◌, ◌≢◌, ◌⊎◌, ◌==◌, ℕ, ◌+◌, ◌≤◌, Bool, true, false, cond, List, [], ◌∷◌, ◌++◌, length, map, Option, None, Some, arith, ap, refl, sym, subst, ◌∙◌, inl, inr}
use Rattle.tap_name.specs.Settings.{SettingsValue}
use Rattle.tap_name.specs.declared.slot.Slot.{Slot}
use Rattle.tap_table.specs.Table.{IsTable}
use Rattle.tap_wire.specs.declared.frame.Body.{Body}
use Rattle.tap_wire.specs.declared.frame.Body.TheVariants.{Seek}
use Rattle.tap_wire.specs.declared.frame.Frame.{Frame}
use Rattle.tap_wire.specs.declared.frame.TellFields.{TellFields}
use Rattle.tap_multicast.specs.declared.covers.Covered.{Covered}
use Rattle.tap_multicast.specs.declared.covers.Covered.TheVariants.{Already, Now}
use Rattle.tap_multicast.specs.Covers.{MayCover, MayWatch, level_kept, with_cover}
use Rattle.tap_multicast.proofs.KeptLevels.{others_keep}
use Rattle.tap_join.specs.Hello.{words_of}
use Rattle.tap_join.specs.Seek.{sought}
use Rattle.tap_join.specs.declared.sought.Sought.{Sought}
use Rattle.tap_join.specs.declared.sought.Sought.TheVariants.{Forward, Surrogate}
use Rattle.tap_rule.specs.Act.{act}
use Rattle.tap_rule.specs.Answers.{answer_for, with_session}
use Rattle.tap_rule.specs.Covering.{Request, answers_awaited, covers_as, first_request, greeting, pins_and_covers, request_of, takes_seek, takes_seek_as, takes_tell, tell_for, with_level}
use Rattle.tap_rule.specs.Event.{Acted, Start}
use Rattle.tap_rule.specs.Event.Event.{Starts}
use Rattle.tap_rule.specs.Event.Start.{Abandon, Cast as StartCast, Find as StartFind, Join, Leave as StartLeave, Publish, Withdraw}
use Rattle.tap_rule.specs.FrameRules.{frame_at_core}
use Rattle.tap_rule.specs.JoinSteps.{found_for}
use Rattle.tap_rule.specs.RuleLaws.{IsCarriedOut, frame_to}
use Rattle.tap_rule.specs.Node.{NodeState, Status, joiner, level_of, name_of, settings_of}
use Rattle.tap_rule.specs.Node.Status.{Joining, Core, Leaving, Gone, Ceased}
use Rattle.tap_rule.specs.Reaction.{Message, pin_word, sends, with_pin, with_words}
use Rattle.tap_rule.specs.Strange.{is_strange}
use Rattle.tap_rule.proofs.CarriedOut.{frame_law}
use Rattle.tap_rule.proofs.CoverSteps.{seek_fits}
use Rattle.tap_rule.proofs.JoinSteps.{IsTellFit, tell_fits}
use Rattle.tap_safety.specs.Frames.{tell_body}
use Rattle.tap_safety.specs.Move.Move.{Delivers}
use Rattle.tap_safety.specs.Moved.{moved, starter}
use Rattle.tap_safety.specs.Exchanges.{numbered_from}
use Rattle.tap_safety.specs.System.{CoversAt, System, IsUnderWay}
use Rattle.tap_safety.proofs.Moved.{starts}
use Rattle.tap_safety.proofs.UnderWay.{among_either, among_sent}
use Rattle.tap_safety.proofs.Said.{Said}
use Rattle.tap_safety.proofs.Said.Said.{IsSeek, IsTell}
use Rattle.tap_moves.specs.ByRule.{taken_at}
use Rattle.tap_moves.specs.Delivered.{after_start}
use Rattle.tap_moves.specs.InvariantLaws.{IsDelivery}
use Rattle.tap_moves.proofs.CoverMade.{joiner_link, with_joiner_is}
use Rattle.tap_moves.proofs.Nearness.{name_inside}
use Rattle.tap_table.specs.Ties.{AreTies}
use Rattle.tap_rule.proofs.Fit.{fit_law}
use Rattle.tap_join.proofs.Seeking.{surrogate_is}
use Rattle.tap_name.specs.Name.{IsName}
use Rattle.tap_name.specs.Prefix.{lcp}
use Rattle.std.proofs.lemmas.List.Elements.{All-nil}
use Rattle.tap_moves.proofs.InvariantMoves.{due, name_at, of_node, told_name, way}
use Rattle.tap_moves.proofs.MovesMade.{is_found}
use Rattle.tap_cast_runs.specs.SlotAnswers.{WatchMemory}
use Rattle.tap_cast_runs.specs.Recalled.{asked, asked_at, asked_at_core, asked_by_seek, recalled_asked, table_for, watch_recalled}
use Rattle.tap_cast_runs.specs.Watched.{WatchesAreSound}
use Rattle.tap_cast_runs.proofs.Aside.{LeavesCovers, start_aside}

-- ---- a move that has nobody cover a joiner

-- what a node covers that leaves its covers
pub covered_before : (before after : NodeState) → LeavesCovers before after → (b : List ℕ) (level : ℕ)
    → level_kept after.covers b ≡ Some level → level_kept before.covers b ≡ Some level
covered_before before after (inl same) b level is = ap (λ covers. level_kept covers b) (sym same) ∙ is
covered_before before after (inr none) b level is =
    let wrong : ◌≡◌ {A = Option ℕ} None (Some level) = ap (λ covers. level_kept covers b) (sym none) ∙ is in absurd (cc)

-- a node changes: what covers afterwards is it, or did before
pub changed_cover : (s s' : System) (x : List ℕ) (after : NodeState) → s'.node x ≡ Some after
    → ((y : List ℕ) → (y ≡ x) ⊎ (s'.node y ≡ s.node y)) → (y b : List ℕ) (level : ℕ) → CoversAt s' y b level
    → ((y ≡ x) × (level_kept after.covers b ≡ Some level)) ⊎ CoversAt s y b level
changed_cover s s' x after is others y b level covers =
    elim (others y) [
      | inl here ↦
          let both : Some after ≡ Some covers.state = sym is ∙ ap s'.node (sym here) ∙ covers.is in
          let same : after ≡ covers.state = cc in
          inl (here, ap (λ (n : NodeState). level_kept n.covers b) same ∙ covers.cover)
      | inr other ↦ inr (record { state = covers.state; is = sym other ∙ covers.is; cover = covers.cover })
    ]

-- each Tell that is under way was, and each cover
pub record IsAside (s s' : System) : Type 0 where
  pub tells : (from to : List ℕ) (tell : TellFields) (watch : List Slot) → IsUnderWay s' from to (tell_body tell watch)
      → IsUnderWay s from to (tell_body tell watch)
  pub covers : (x b : List ℕ) (level : ℕ) → CoversAt s' x b level → CoversAt s x b level

pub aside_kept : (p : SettingsValue) (s s' : System) (r : WatchMemory) → IsAside s s' → WatchesAreSound p s r → WatchesAreSound p s' r
aside_kept p s s' r aside sound = record {
  tells = λ from to tell watch way. sound.tells from to tell watch (aside.tells from to tell watch way);
  waits = λ from to tell watch way. sound.waits from to tell watch (aside.tells from to tell watch way);
  fits = sound.fits;
  covers = sound.covers;
  first = λ x b level covers. sound.first x b level (aside.covers x b level covers);
}

module _ (p : SettingsValue) (s : System) (x : List ℕ) (start : Start) where
  abbrev s' : System
  s' = after_start p s x start

  -- what the starter covers it covered before
  starter_covers : (begun : Start) (node : NodeState) → starter p s x begun ≡ Some node → (b : List ℕ) (level : ℕ)
      → level_kept node.covers b ≡ Some level → CoversAt s x b level
  starter_covers (Join via) node is b level kept =
      let fresh : joiner p x ≡ node = cc in
      let wrong : ◌≡◌ {A = Option ℕ} None (Some level) = ap (λ (n : NodeState). level_kept n.covers b) fresh ∙ kept in
      absurd (cc)
  starter_covers Abandon node is b level kept = record { state = node; is = is; cover = kept }
  starter_covers StartLeave node is b level kept = record { state = node; is = is; cover = kept }
  starter_covers (Publish object) node is b level kept = record { state = node; is = is; cover = kept }
  starter_covers (Withdraw object) node is b level kept = record { state = node; is = is; cover = kept }
  starter_covers (StartFind ticket object) node is b level kept = record { state = node; is = is; cover = kept }
  starter_covers (StartCast cast level word) node is b level' kept = record { state = node; is = is; cover = kept }

  pub begins_aside : (node : NodeState) → starter p s x start ≡ Some node → IsAside s s'
  begins_aside node is =
      let acted = act node (Starts start) in
      let acts = start_aside node start in
      let step = starts p s x start node is in
      record {
        tells = λ from to tell watch way.
            let frame : Frame = record { from = from; to = to; body = tell_body tell watch } in
            elim (among_either way.number frame s.frames (numbered_from s.next acted.sent) (rw step.sent.after at way.among)) [
              | inl old ↦ record { number = way.number; among = old }
              | inr new ↦
                  absurd (acts.no_tell from to tell watch (among_sent s.next acted.sent way.number frame new))
            ];
        covers = λ y b level covers.
            elim (changed_cover s s' x acted.state step.done.is step.done.others y b level covers) [
              | inl here ↦
                  subst (λ z. CoversAt s z b level) (sym here.0)
                  (starter_covers start node is b level (covered_before node acted.state acts.covers b level here.1))
              | inr other ↦ other
            ];
      }

  pub nothing_begins : starter p s x start ≡ None → s' ≡ s
  unfolding moved
  nothing_begins none = rw none refl

  -- whatever a node starts
  pub start_keeps : (r : WatchMemory) → WatchesAreSound p s r → WatchesAreSound p s' r
  start_keeps r sound = by (starter p s x start) refl
    where
      by : (found : Option NodeState) → starter p s x start ≡ found → WatchesAreSound p s' r
      by None none = subst (λ t. WatchesAreSound p t r) (sym (nothing_begins none)) sound
      by (Some node) is = aside_kept p s s' r (begins_aside node is) sound

-- ---- a frame that asks for a cover

-- what the node does then is to pin the joiner and cover it
seek_asks : (node : NodeState) (from joiner : List ℕ) (found : Sought) (request : Request) (acted : Acted)
    → asked_by_seek node joiner found ≡ Some request → IsCarriedOut node (takes_seek_as node joiner found) acted
    → IsCarriedOut node (pins_and_covers node request) acted
seek_asks node from joiner (Forward next) request acted is carried = absurd (cc)
seek_asks node from joiner (Surrogate prefix) request acted is carried =
    let same : first_request node joiner prefix ≡ request = cc in
    subst (λ q. IsCarriedOut node (pins_and_covers node q) acted) same carried

pub core_asks : (node : NodeState) (from : List ℕ) {body : Body} → Said body → (request : Request) → node.status ≡ Core
    → is_strange node (frame_to node from body) ≡ false → asked_at_core node from body ≡ Some request
    → IsCarriedOut node (pins_and_covers node request) (taken_at node from body)
unfolding frame_at_core
core_asks node from (IsSeek joiner) request at known is =
    seek_asks node from joiner (sought node.ties.table joiner) request (taken_at node from (Seek joiner)) is
    (frame_law node (frame_to node from (Seek joiner)) (takes_seek node joiner) known (rw at refl))
core_asks node from (IsTell tell watch) request at known is =
    let same : request_of from tell watch ≡ request = cc in
    subst (λ q. IsCarriedOut node (pins_and_covers node q) (taken_at node from (tell_body tell watch))) same
    (frame_law node (frame_to node from (tell_body tell watch)) (takes_tell node from tell watch) known (rw at refl))
core_asks node from _ request at known is = absurd (cc)

pub core_only : (status : Status) (node : NodeState) (from : List ℕ) (body : Body) (request : Request)
    → asked_at status node from body ≡ Some request → (status ≡ Core) × (asked_at_core node from body ≡ Some request)
core_only Core node from body request is = (refl, is)
core_only Joining node from body request is = absurd (cc)
core_only Leaving node from body request is = absurd (cc)
core_only Gone node from body request is = absurd (cc)
core_only Ceased node from body request is = absurd (cc)

-- the covers that it then has: of others those that it had
spread_covers : (node : NodeState) (request : Request) (acted : Acted) (messages : List Message) (waiting : ℕ) (none : Bool)
    → IsCarriedOut node (with_words (words_of (pin_word node request.joiner)) (cond none
    (sends (with_level (with_pin node request.joiner) request) (answer_for request.parent ∷ []))
    (sends (with_session (with_level (with_pin node request.joiner) request) request.parent request.depth waiting) messages))) acted
    → acted.state.covers ≡ with_cover node.covers request.joiner request.level
spread_covers node request acted messages waiting true carried = carried.covers
spread_covers node request acted messages waiting false carried = carried.covers

found_covers : (node : NodeState) (request : Request) (acted : Acted) (found : Covered)
    → IsCarriedOut node (with_words (words_of (pin_word node request.joiner)) (covers_as (with_pin node request.joiner) request found)) acted
    → (acted.state.covers ≡ node.covers) ⊎ (acted.state.covers ≡ with_cover node.covers request.joiner request.level)
found_covers node request acted Already carried = inl carried.covers
found_covers node request acted (Now first offer told left) carried =
    inr (spread_covers node request acted (greeting request (node.sessions.opened + 1) first offer
    ++ map (tell_for request (node.sessions.opened + 1) left) told) (answers_awaited first (length told))
    (answers_awaited first (length told) == 0) carried)

pub others_covered : (node : NodeState) (request : Request) (acted : Acted) → IsCarriedOut node (pins_and_covers node request) acted
    → (b : List ℕ) → b ≢ request.joiner → level_kept acted.state.covers b ≡ level_of node b
others_covered node request acted carried b apart =
    elim (found_covers node request acted (found_for node request) carried) [
      | inl same ↦ ap (λ covers. level_kept covers b) same
      | inr covers ↦
          ap (λ covers. level_kept covers b) covers
          ∙ others_keep node.covers (table_for node request) request.watch request.joiner request.prefix request.level b apart
    ]

-- what is known of a cover that is asked for: the table with the joiner pinned is one, and the joiner may be covered
pub record IsCovering (node : NodeState) (request : Request) : Type 0 where
  pub valid : IsTable (table_for node request)
  pub may : MayCover (table_for node request) [] request.joiner request.prefix request.prefix

covering : (node : NodeState) (request : Request) → AreTies node.ties → IsName (settings_of node) request.joiner
    → IsTellFit node request.joiner → request.prefix ≤ lcp (name_of node) request.joiner → IsCovering node request
covering node request ties name fits shared =
    let inside = name_inside node.ties.table ties.table request.joiner name fits.apart in
    record {
      valid = with_joiner_is node request.joiner ties name fits;
      may = record {
        pinned = joiner_link node request.joiner ties name fits;
        within_level = omega arith;
        shared = shared;
        within_digits = omega (arith, shared, inside);
        watched = All-nil (MayWatch (settings_of node).base request.prefix);
      };
    }

-- a joiner that a node pins and covers leaves a table
module _ (p : SettingsValue) (s : System) (number : ℕ) (node : NodeState) (from : List ℕ) where
  seek_table : (joiner : List ℕ) (found : Sought) (request : Request) → IsDelivery p s number node from (Seek joiner)
      → sought node.ties.table joiner ≡ found → asked_by_seek node joiner found ≡ Some request → IsCovering node request
  seek_table joiner (Forward next) request is found asks = absurd (cc)
  seek_table joiner (Surrogate prefix) request is found asks =
      let same : first_request node joiner prefix ≡ request = cc in
      let ties = (due p s number node from (Seek joiner) is).is_node.ties in
      let seeker = is.invariant.seekers.seeks from (name_of node) joiner (way p s number node from (Seek joiner) is) in
      let name = of_node p s number node from (Seek joiner) is joiner (name_at p s is.nodes joiner seeker.state seeker.is) in
      let fits = seek_fits node from joiner prefix is.known found in
      let shared = (surrogate_is node.ties.table ties.table joiner name fits.apart prefix found).0 in
      subst (IsCovering node) same (covering node (first_request node joiner prefix) ties name fits (omega (arith, shared)))

  pub table_stays : {body : Body} → Said body → (request : Request) → IsDelivery p s number node from body
      → asked_at_core node from body ≡ Some request → IsCovering node request
  table_stays (IsSeek joiner) request is asks = seek_table joiner (sought node.ties.table joiner) request is refl asks
  table_stays (IsTell tell watch) request is asks =
      let same : request_of from tell watch ≡ request = cc in
      let ties = (due p s number node from (tell_body tell watch) is).is_node.ties in
      let fit = (fit_law node (frame_to node from (tell_body tell watch)) ties).0 is.known in
      subst (IsCovering node) same
      (covering node (request_of from tell watch) ties (told_name p s number node from tell watch is)
      (tell_fits node from tell watch is.known) fit.body.shared)
  table_stays _ request is asks = absurd (cc)

-- ---- a frame that is delivered

-- what is remembered after it
pub delivery_recalls : (p : SettingsValue) (s : System) (r : WatchMemory) (number : ℕ) (node : NodeState) (from : List ℕ) (body : Body)
    → IsDelivery p s number node from body → watch_recalled s r (Delivers number) ≡ recalled_asked r node (asked node from body)
unfolding watch_recalled
delivery_recalls p s r number node from body is = rw (is_found p s number node from body (due p s number node from body is), is.at) refl
