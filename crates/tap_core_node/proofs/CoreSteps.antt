-- The steps of a core node at links, lookups and departures, from the frames that were added.
use Rattle.std.proofs.Common.{◌≡◌, ◌≢◌, ℕ, Bool, true, List, [], ◌∷◌, ◌++◌, Option, Some, refl, sym, ap, subst, ◌∙◌, append-nil}
use Rattle.tap_name.specs.Name.{IsName}
use Rattle.tap_session.specs.Session.{SessionsValue}
use Rattle.tap_session.specs.Sessions.{answer_to, answered_at}
use Rattle.tap_table.specs.Ties.{TiesValue, forgotten, held_word, released, removed, stamp_after}
use Rattle.tap_table.proofs.Primaries.{primary_near}
use Rattle.tap_depart.specs.ToldLeave.{told_leave}
use Rattle.tap_join.specs.Hello.{words_of}
use Rattle.tap_wire.specs.declared.frame.Body.TheVariants.{Left}
use Rattle.tap_rule.specs.Answers.{answer_sends, takes_heard_or_ack}
use Rattle.tap_rule.specs.Event.News.{Answered as AnsweredNews, Nothing as NothingNews}
use Rattle.tap_rule.specs.Leaving.{leave_word, takes_gone, takes_leave}
use Rattle.tap_rule.specs.Links.{release_answer, release_word, takes_forget, takes_link, takes_release, with_word}
use Rattle.tap_rule.specs.Node.{IsRunning, NodeState, join_session_at, name_of, settings_of}
use Rattle.tap_rule.specs.Node.Status.{Core}
use Rattle.tap_rule.specs.Pointers.{lays_due, takes_answer, with_reconciled}
use Rattle.tap_rule.specs.Reaction.{Message, message, stays, with_ties}
use Rattle.tap_node_common.specs.declared.news.News.TheVariants.{Answered, Nothing}
use Rattle.tap_node_common.specs.Sender.{lay_bytes, message_bytes, node_sender, word_bytes}
use Rattle.tap_node_common.specs.SoundNode.{IsSoundNode}
use Rattle.tap_node_common.specs.StepsAs.{FollowsAs, StepsAs}
use Rattle.tap_node_common.proofs.Followed.{follows_rule}
use Rattle.tap_node_common.proofs.ReactionSteps.{messages_step, reconciled_step, silent_step, words_step}
use Rattle.tap_core_node.specs.Primaries.{has_other_primary}
use Rattle.tap_core_node.proofs.Followed.{follows_quiet}
use Rattle.tap_core_node.proofs.Laid.{laid-forgotten, laid-released, laid-removed, laid-told_leave}

module _ (node : NodeState) (sound : IsSoundNode node) (core : node.status ≡ Core) (before : List (List ℕ)) where
  -- an answer to a session of joins
  pub answered_follows : (session : ℕ) (sessions : SessionsValue) (sent : List (List ℕ)) → sessions ≡ answered_at node.sessions session
      → sent ≡ before ++ message_bytes (node_sender node) (answer_sends (answer_to (join_session_at node session)))
      → FollowsAs node (Some (takes_heard_or_ack node session)) (record node { sessions = sessions }) before sent Nothing
  answered_follows session sessions sent same is =
      let after : NodeState = record node { sessions = answered_at node.sessions session } in
      let messages = answer_sends (answer_to (join_session_at node session)) in
      rw same (follows_quiet node (takes_heard_or_ack node session) after before sent Nothing
      (record { status = core; lays = refl; laid = sound.laid }) (messages_step node after messages NothingNews before sent is))

  -- the word of a holder
  pub heard_follows : (holder : List ℕ) (version : ℕ) (on : Bool) (ties : TiesValue) (sent : List (List ℕ))
      → ties ≡ held_word node.ties holder version on
      → sent ≡ before ++ message_bytes (node_sender node) (release_answer node holder version on)
      → FollowsAs node (Some (takes_link node holder version on)) (record node { ties = ties }) before sent Nothing
  heard_follows holder version on ties sent same is =
      let after : NodeState = with_word node holder version on in
      rw same (follows_quiet node (takes_link node holder version on) after before sent Nothing
      (record { status = core; lays = refl; laid = sound.laid })
      (messages_step node after (release_answer node holder version on) NothingNews before sent is))

  -- a lookup that is answered
  pub found_follows : (ticket : ℕ) (server : Option (List ℕ))
      → FollowsAs node (Some (takes_answer node ticket server)) node before before (Answered ticket server)
  found_follows ticket server =
      follows_quiet node (takes_answer node ticket server) node before before (Answered ticket server)
      (record { status = core; lays = refl; laid = sound.laid }) (silent_step node node (AnsweredNews ticket server) before)

  module _ (from : List ℕ) (is_name : IsName (settings_of node) from) (other : from ≢ name_of node) where
    -- a Forget
    pub forgotten_follows : (ties : TiesValue) → ties ≡ forgotten node.ties from
        → FollowsAs node (Some (takes_forget node from)) (record node { ties = ties }) before before Nothing
    forgotten_follows ties same =
        let after : NodeState = record node { ties = forgotten node.ties from } in
        rw same (follows_quiet node (takes_forget node from) after before before Nothing
        (record {
          status = core;
          lays = refl;
          laid = laid-forgotten node.ties.table from sound.valid.ties.table is_name other node.pointers sound.laid;
        })
        (silent_step node after NothingNews before))

    -- a Release: the slot's primary is the same, or all pairs are laid as wanted
    abbrev let_go : NodeState
    let_go = with_ties (released node.ties from) (release_word node from) node

    released_step : (sent : List (List ℕ)) → sent ≡ before ++ word_bytes (node_sender node) (words_of (release_word node from))
        → StepsAs node (takes_release node from) let_go before sent Nothing
    released_step sent is =
        words_step node let_go (words_of (release_word node from)) [] NothingNews before sent (is ∙ sym (append-nil _))

    pub released_quietly : (ties : TiesValue) (stamp : ℕ) (sent : List (List ℕ)) → ties ≡ released node.ties from
        → stamp ≡ stamp_after node.stamp (release_word node from)
        → sent ≡ before ++ word_bytes (node_sender node) (words_of (release_word node from))
        → primary_near ties.table from ≡ primary_near node.ties.table from
        → FollowsAs node (Some (takes_release node from)) (record node { ties = ties; stamp = stamp }) before sent Nothing
    released_quietly ties stamp sent same numbered is alike =
        rw (same, numbered) (follows_quiet node (takes_release node from) let_go before sent Nothing
        (record {
          status = core;
          lays = refl;
          laid = laid-released node.ties.table from sound.valid.ties.table is_name other
              (sym (ap (λ (t : TiesValue). primary_near t.table from) same) ∙ alike) node.pointers sound.laid;
        })
        (released_step sent is))

    pub released_and_laid : (after middle : NodeState) (added sent : List (List ℕ)) → middle ≡ let_go
        → added ≡ before ++ word_bytes (node_sender node) (words_of (release_word node from)) → after ≡ with_reconciled middle
        → sent ≡ added ++ lay_bytes (node_sender middle) (lays_due middle)
        → FollowsAs node (Some (takes_release node from)) after before sent Nothing
    released_and_laid after middle added sent same words laid lays =
        follows_rule node (takes_release node from) after before sent Nothing (subst IsRunning (sym core) tt)
        (reconciled_step node (takes_release node from) after let_go before added sent Nothing refl (released_step added words)
        (laid ∙ ap with_reconciled same) (lays ∙ ap (λ m. added ++ lay_bytes (node_sender m) (lays_due m)) same))

    -- a Leave of a node that isn't the slot's primary
    pub left_quietly : (replacement : Option (List ℕ)) (ties : TiesValue) (stamp : ℕ) (added sent : List (List ℕ))
        → has_other_primary node.ties.table from ≡ true → ties ≡ told_leave node.ties from replacement
        → stamp ≡ stamp_after node.stamp (leave_word node from replacement)
        → added ≡ before ++ word_bytes (node_sender node) (words_of (leave_word node from replacement))
        → sent ≡ added ++ message_bytes (node_sender node) (message from Left ∷ [])
        → FollowsAs node (Some (takes_leave node from replacement)) (record node { ties = ties; stamp = stamp }) before sent Nothing
    left_quietly replacement ties stamp added sent is_other same numbered words is =
        let word = leave_word node from replacement in
        let after : NodeState = with_ties (told_leave node.ties from replacement) word node in
        let messages : List Message = message from Left ∷ [] in
        rw (same, numbered) (follows_quiet node (takes_leave node from replacement) after before sent Nothing
        (record {
          status = core;
          lays = refl;
          laid = laid-told_leave node.ties from sound.valid.ties.table is_name other is_other replacement node.pointers sound.laid;
        })
        (words_step node after (words_of word) messages NothingNews before sent
        (is ∙ ap (λ first. first ++ message_bytes (node_sender node) messages) words)))

    -- a Gone that leaves the slot's primary
    pub removed_quietly : (ties : TiesValue) → ties ≡ removed node.ties from
        → primary_near ties.table from ≡ primary_near node.ties.table from
        → FollowsAs node (Some (takes_gone node from)) (record node { ties = ties }) before before Nothing
    removed_quietly ties same alike =
        let after : NodeState = record node { ties = removed node.ties from } in
        rw same (follows_quiet node (takes_gone node from) after before before Nothing
        (record {
          status = core;
          lays = refl;
          laid = laid-removed node.ties.table from sound.valid.ties.table is_name other
              (sym (ap (λ (t : TiesValue). primary_near t.table from) same) ∙ alike) node.pointers sound.laid;
        })
        (silent_step node after NothingNews before))

-- a change without frames, after which all pairs are laid as wanted
pub silent_and_laid : (node changed after middle : NodeState) (before sent : List (List ℕ)) → changed.status ≡ Core
    → node_sender changed ≡ node_sender node → middle ≡ changed → after ≡ with_reconciled middle
    → sent ≡ before ++ lay_bytes (node_sender middle) (lays_due middle)
    → FollowsAs node (Some (stays changed)) after before sent Nothing
silent_and_laid node changed after middle before sent core own same laid lays =
    follows_rule node (stays changed) after before sent Nothing (subst IsRunning (sym core) tt)
    (reconciled_step node (stays changed) after changed before before sent Nothing refl (silent_step node changed NothingNews before)
    (laid ∙ ap with_reconciled same)
    (lays ∙ ap (λ m. before ++ lay_bytes (node_sender m) (lays_due m)) same ∙ ap (λ s. before ++ lay_bytes s (lays_due changed)) own))
