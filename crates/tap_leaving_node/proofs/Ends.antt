-- The start and the end of a departure, from the frames that were added.
use Rattle.std.proofs.Common.{◌≡◌, ℕ, ◌+◌, ◌≤◌, List, [], ◌∷◌, ◌++◌, map, drop, length, slice_get, Some, refl, sym, ap, ◌∙◌, append_assoc}
use Rattle.std.proofs.lemmas.Option.{get_or_from_slice_get, slice_get_within}
use Rattle.tap_table.specs.ByName.{targets_by_name}
use Rattle.tap_table.specs.Ties.{holders_on}
use Rattle.tap_table.proofs.OffTies.{length-off_ties}
use Rattle.tap_depart.specs.declared.notice.Notice.{Notice}
use Rattle.tap_pointer.specs.Pointers.{PointersValue}
use Rattle.tap_pointer.specs.Reconcile.{clear_lays, reconciled}
use Rattle.tap_wire.specs.declared.frame.Body.TheVariants.{Gone}
use Rattle.tap_wire.specs.declared.frame.Frame.{Frame}
use Rattle.tap_node_common.proofs.OneSent.{all_sent, one_sent}
use Rattle.tap_rule.specs.Event.News.{Nothing as NothingNews}
use Rattle.tap_rule.specs.Leaving.{finishes, last_words, leave_for}
use Rattle.tap_rule.specs.Node.{NodeState, name_of, settings_of}
use Rattle.tap_rule.specs.Node.Status.{Gone as GoneStatus}
use Rattle.tap_rule.specs.Pointers.{lays_due, reconciles}
use Rattle.tap_rule.specs.Reaction.{Message, sends, to_each}
use Rattle.tap_rule.specs.Sending.{message_frame}
use Rattle.tap_node_common.specs.declared.news.News.TheVariants.{Gone as GoneNews, Nothing}
use Rattle.tap_node_common.specs.declared.sender.Sender.{Sender}
use Rattle.tap_node_common.specs.Sender.{lay_bytes, message_bytes, node_sender, word_bytes}
use Rattle.tap_node_common.specs.States.{ended_state}
use Rattle.tap_node_common.specs.StepsAs.{StepsAs}
use Rattle.tap_node_common.proofs.ReactionSteps.{messages_step, reconciled_is, reconciled_step}

-- the Leave of one more notice is sent, and at last all are
module _ (sender : Sender) (notices : List Notice) (sent whole : List (List ℕ)) where
  leave_frame : Notice → Frame
  leave_frame notice = message_frame sender.name (leave_for notice)

  leave_frames : List Notice → List Frame
  leave_frames some = map (message_frame sender.name) (map leave_for some)

  pub notice_sent : (i : ℕ) (notice : Notice) (now : List (List ℕ)) → slice_get notices i ≡ Some notice
      → now ≡ sent ++ message_bytes sender (leave_for notice ∷ [])
      → sent ++ message_bytes sender (map leave_for (drop i notices)) ≡ whole
      → now ++ message_bytes sender (map leave_for (drop (i + 1) notices)) ≡ whole
  unfolding leave_frame leave_frames
  notice_sent i notice now got is was =
      rw is (one_sent sender.settings leave_frame leave_frames refl (λ x xs. refl) notices i notice notice sent whole
      (slice_get_within notices i notice got) (sym (get_or_from_slice_get notices i notice notice got)) was)

  pub all_notices_sent : (i : ℕ) → length notices ≤ i → sent ++ message_bytes sender (map leave_for (drop i notices)) ≡ whole
      → sent ≡ whole
  unfolding leave_frame leave_frames
  all_notices_sent i past was = all_sent sender.settings leave_frame leave_frames refl (λ x xs. refl) notices i sent whole past was

module _ (node : NodeState) where
  -- messages are sent, and all pairs are laid as wanted
  pub notices_step : (messages : List Message) (pointers : PointersValue) (stamp : ℕ) (before added sent : List (List ℕ))
      → added ≡ before ++ message_bytes (node_sender node) messages
      → pointers ≡ reconciled node.ties.table node.pointers → stamp ≡ node.stamp + length (lays_due node)
      → sent ≡ added ++ lay_bytes (node_sender node) (lays_due node)
      → StepsAs node (reconciles (sends node messages)) (record node { pointers = pointers; stamp = stamp }) before sent Nothing
  notices_step messages pointers stamp before added sent is same numbered lays =
      reconciled_step node (sends node messages) (record node { pointers = pointers; stamp = stamp }) node before added sent Nothing refl
      (messages_step node node messages NothingNews before added is) (reconciled_is node pointers stamp same numbered) lays

  -- the words, the Gones and the Lays of its end are sent
  pub finished_step : (before worded gone sent : List (List ℕ)) → worded ≡ before ++ word_bytes (node_sender node) (last_words node)
      → gone ≡ worded ++ message_bytes (node_sender node) (to_each Gone (holders_on node.ties))
      → sent ≡ gone ++ lay_bytes (node_sender node) (clear_lays (node.stamp + length (targets_by_name node.ties.table)) node.pointers)
      → StepsAs node (finishes node) (ended_state GoneStatus (settings_of node) (name_of node) node.sessions) before sent GoneNews
  finished_step before worded gone sent words gones lays =
      let word = word_bytes (node_sender node) (last_words node) in
      let each = message_bytes (node_sender node) (to_each Gone (holders_on node.ties)) in
      let numbers = length-off_ties node.stamp (targets_by_name node.ties.table) in
      let last = lay_bytes (node_sender node) (clear_lays (node.stamp + length (last_words node)) node.pointers) in
      let cleared : sent ≡ gone ++ last =
      lays ∙ ap (λ n. gone ++ lay_bytes (node_sender node) (clear_lays (node.stamp + n) node.pointers)) (sym numbers) in
      let added : gone ++ last ≡ ((before ++ word) ++ each) ++ last = ap (λ l. l ++ last) (gones ∙ ap (λ l. l ++ each) words) in
      record {
        state = refl;
        frames = cleared ∙ added ∙ append_assoc (before ++ word) each last ∙ append_assoc before word (each ++ last);
        noted = refl;
      }
