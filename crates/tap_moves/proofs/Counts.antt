-- How many of the frames that a step sends belong to a session: no Link and no Lay, and each message that is sent in it.
use Rattle.std.proofs.Common.{◌≡◌, ℕ, ◌+◌, Bool, true, false, List, [], ◌∷◌, ◌++◌, length, map, if◌then◌else◌, arith, ap, refl, sym, subst, ◌∙◌, inl, inr}
use Rattle.std.specs.List.{sum_by}
use Rattle.std.proofs.lemmas.List.Sums.{sum_by-append, sum_by-cons}
use Rattle.tap_table.specs.declared.tie.Tie.{Tie}
use Rattle.tap_pointer.specs.declared.lay.Lay.{Lay}
use Rattle.tap_wire.specs.declared.frame.Frame.{Frame}
use Rattle.tap_rule.specs.Completed.{SendsAt}
use Rattle.tap_rule.specs.Event.{Acted}
use Rattle.tap_rule.specs.RuleLaws.{IsCarriedOut}
use Rattle.tap_rule.specs.Node.{IsRunning, NodeState, Status, name_of}
use Rattle.tap_rule.specs.Node.Status.{Ceased, Core, Gone, Joining, Leaving}
use Rattle.tap_rule.specs.Reaction.{Message, Reaction}
use Rattle.tap_rule.specs.Sending.{by_receiver, lay_frame, link_frame, message_frame}
use Rattle.tap_rule.specs.Sent.{AreSentInOrder, IsAmong}
use Rattle.tap_safety.specs.Remembered.{Token}
use Rattle.tap_safety.specs.Remembered.Token.{Way}
use Rattle.tap_safety.specs.Sessions.{Belongs, is_placed, session_named, ways_of}
use Rattle.tap_safety.specs.Exchanges.{numbered_from}
use Rattle.tap_safety.proofs.SessionsKept.{placed_at}

-- one for a frame of this session, and none for another
abbrev ones : List ℕ → ℕ → Frame → ℕ
ones x k f = if is_placed (session_named f.body f.from f.to) x k then 1 else 0

ways_sum : (x : List ℕ) (k n : ℕ) (sent : List Frame) → length (ways_of x k (numbered_from n sent)) ≡ sum_by (ones x k) sent
unfolding ways_of
ways_sum x k n [] = refl
ways_sum x k n (f ∷ fs) =
    let rest = ways_sum x k (n + 1) fs in
    let all = sum_by-cons (ones x k) f fs in
    let first = one_or_none (is_placed (session_named f.body f.from f.to) x k) (Way n) (ways_of x k (numbered_from (n + 1) fs)) in
    omega (arith, rest, all, first)
  where
    one_or_none : (here : Bool) (way : Token) (tokens : List Token)
        → length (if here then way ∷ tokens else tokens) ≡ (if here then 1 else 0) + length tokens
    one_or_none true way tokens = omega arith
    one_or_none false way tokens = omega arith

links_sum : (own x : List ℕ) (k : ℕ) (words : List Tie) → sum_by (ones x k) (map (link_frame own) words) ≡ 0
links_sum own x k [] = refl
links_sum own x k (word ∷ words) = links_sum own x k words

lays_sum : (own x : List ℕ) (k : ℕ) (lays : List Lay) → sum_by (ones x k) (map (lay_frame own) lays) ≡ 0
lays_sum own x k [] = refl
lays_sum own x k (lay ∷ lays) = lays_sum own x k lays

-- each of these is sent in the session
abbrev pub AreIn : List ℕ → List Message → List ℕ → ℕ → Type 0
AreIn own messages x k = (m : Message) → IsAmong m messages → Belongs (message_frame own m) x k

messages_sum : (own x : List ℕ) (k : ℕ) (messages : List Message) → AreIn own messages x k
    → sum_by (ones x k) (map (message_frame own) messages) ≡ length messages
messages_sum own x k [] are = refl
messages_sum own x k (m ∷ ms) are =
    let rest = messages_sum own x k ms (λ n among. are n (inr among)) in
    let here = placed_at (session_named m.body own m.to) x k (are m (inl refl)) in
    let one : ones x k (message_frame own m) ≡ 1 = rw here refl in
    let all = sum_by-cons (ones x k) (message_frame own m) (map (message_frame own) ms) in
    omega (arith, rest, one, all)

-- of a step that sends in order, as many as there are messages
pub ways_count : (own x : List ℕ) (k n : ℕ) (words : List Tie) (messages : List Message) (lays : List Lay) (sent : List Frame)
    → AreSentInOrder own words messages lays sent → AreIn own messages x k
    → length (ways_of x k (numbered_from n sent)) ≡ length messages
ways_count own x k n words messages lays sent order are =
    let links = map (link_frame own) (by_receiver words) in
    let named = map (message_frame own) messages in
    let laid = map (lay_frame own) lays in
    let whole : length (ways_of x k (numbered_from n sent)) ≡ sum_by (ones x k) (links ++ (named ++ laid)) =
    ways_sum x k n sent ∙ ap (sum_by (ones x k)) order.all in
    let parts = sum_by-append (ones x k) links (named ++ laid) in
    let others = sum_by-append (ones x k) named laid in
    let no_link = links_sum own x k (by_receiver words) in
    let each = messages_sum own x k messages are in
    let no_lay = lays_sum own x k lays in
    omega (arith, whole, parts, others, no_link, each, no_lay)

-- so it is of a step of any status that sends these messages
pub ways_at : (status : Status) (node : NodeState) (messages : List Message) (acted : Acted) (x : List ℕ) (k n : ℕ)
    → SendsAt status node messages acted → AreIn (name_of node) messages x k
    → length (ways_of x k (numbered_from n acted.sent)) ≡ length messages
ways_at Joining node messages acted x k n step are = ways_count (name_of node) x k n [] messages _ acted.sent step.sent are
ways_at Core node messages acted x k n step are = ways_count (name_of node) x k n [] messages _ acted.sent step.sent are
ways_at Leaving node messages acted x k n step are = ways_count (name_of node) x k n [] messages _ acted.sent step.sent are
ways_at Gone node messages acted x k n step are =
    ways_sum x k n acted.sent ∙ ap (sum_by (ones x k)) step.sent ∙ messages_sum (name_of node) x k messages are
ways_at Ceased node messages acted x k n step are =
    ways_sum x k n acted.sent ∙ ap (sum_by (ones x k)) step.sent ∙ messages_sum (name_of node) x k messages are

-- and of one that a rule says
pub ways_by_rule : (node : NodeState) (r : Reaction) (acted : Acted) (x : List ℕ) (k n : ℕ) → IsCarriedOut node r acted
    → AreIn (name_of node) r.messages x k → length (ways_of x k (numbered_from n acted.sent)) ≡ length r.messages
ways_by_rule node r acted x k n carried are = by_status r.state.status refl
  where
    runs : IsRunning r.state.status → length (ways_of x k (numbered_from n acted.sent)) ≡ length r.messages
    runs running = ways_count (name_of node) x k n r.words r.messages _ acted.sent (carried.running running).sent are

    ended : (IsRunning r.state.status → ⊥) → length (ways_of x k (numbered_from n acted.sent)) ≡ length r.messages
    ended never = ways_count (name_of node) x k n r.words r.messages _ acted.sent (carried.ended never).sent are

    by_status : (status : Status) → r.state.status ≡ status → length (ways_of x k (numbered_from n acted.sent)) ≡ length r.messages
    by_status Joining is = runs (subst IsRunning (sym is) tt)
    by_status Core is = runs (subst IsRunning (sym is) tt)
    by_status Leaving is = runs (subst IsRunning (sym is) tt)
    by_status Gone is = ended (λ running. subst IsRunning is running)
    by_status Ceased is = ended (λ running. subst IsRunning is running)
