-- What a node starts, but a departure: it changes no link and says no word.
use Rattle.std.proofs.Common.{◌≡◌, ℕ, ◌≤◌, Bool, List, [], ◌∷◌, None, Some, arith, ap, refl, sym, subst, ◌∙◌, inl, inr}
use Rattle.tap_name.specs.Settings.{SettingsValue}
use Rattle.tap_table.specs.Table.{kind_in}
use Rattle.tap_table.specs.Ties.{TiesValue}
use Rattle.tap_wire.specs.declared.frame.Body.TheVariants.{Link, Seek}
use Rattle.tap_wire.specs.declared.frame.Frame.{Frame}
use Rattle.tap_rule.specs.Act.{act}
use Rattle.tap_rule.specs.Event.{Acted, Start}
use Rattle.tap_rule.specs.Event.Event.{Starts}
use Rattle.tap_rule.specs.Event.Start.{Abandon, Cast, Find, Join, Leave, Publish, Withdraw}
use Rattle.tap_rule.specs.Node.{NodeState, joiner, name_of}
use Rattle.tap_rule.specs.Node.Status.{Ceased, Gone, Joining}
use Rattle.tap_rule.specs.QuietSteps.{IsQuiet, IsQuietStart}
use Rattle.tap_rule.specs.Reaction.{Message, message}
use Rattle.tap_rule.specs.Sent.{AreSent, IsAmong}
use Rattle.tap_rule.proofs.QuietSteps.{quiet_start_law}
use Rattle.tap_rule.proofs.StartSteps.{give_up_law, seek_start_law}
use Rattle.tap_safety.specs.Bookkeeping.{AreStamped, EndedHaveNoLinks}
use Rattle.tap_safety.specs.Invariant.{Basis}
use Rattle.tap_safety.specs.Move.{MayGiveUp}
use Rattle.tap_safety.specs.Moved.{IsStarted, starter}
use Rattle.tap_safety.specs.Exchanges.{ChangesAt}
use Rattle.tap_safety.specs.System.{System}
use Rattle.tap_safety.proofs.Known.{ended_kept, stamps_join, stamps_start}
use Rattle.tap_safety.proofs.LinkKeeps.{status_seen}
use Rattle.tap_safety.proofs.Moved.{starts}
use Rattle.tap_moves.specs.Delivered.{after_start}
use Rattle.tap_moves.specs.StartedNodes.{StartEnded, StartStamped}
use Rattle.tap_moves.proofs.Stamped.{NoLinks, silent_stamps}

-- ---- what is sent

-- a node that says no word, and of whose messages none is a Link, sends none
no_links_sent : (own : List ℕ) (messages : List Message) (sent : List Frame) → AreSent own [] messages sent
    → ((m : Message) → IsAmong m messages → (version : ℕ) (on : Bool) → m.body ≡ Link version on → ⊥) → NoLinks sent
no_links_sent own messages sent are each frame among version on is =
    elim (are.each frame among) [
      | inl link ↦ absurd link.among
      | inr (inl named) ↦
          each named.message named.among version on (sym (ap (λ (f : Frame). f.body) named.is) ∙ is)
      | inr (inr lay) ↦ let wrong = sym (ap (λ (f : Frame). f.body) lay.is) ∙ is in cc
    ]

-- ---- a start at which the node keeps its status and its ties

module _ (p : SettingsValue) (s : System) (x : List ℕ) (start : Start) (node : NodeState) (at : s.node x ≡ Some node)
    (step : IsStarted p s x start node) (status : (act node (Starts start)).state.status ≡ node.status) where
  abbrev after : System
  after = after_start p s x start

  abbrev acted : Acted
  acted = act node (Starts start)

  changes : ChangesAt s after x node acted.state
  changes = record { was = at; is = step.done.is; others = step.done.others }

  plain_ended : acted.state.ties ≡ node.ties → EndedHaveNoLinks s → EndedHaveNoLinks after
  plain_ended ties ended =
      ended_kept s after x acted.state acted.sent step.done (λ t kind link.
      let had = sym (ap (λ (u : TiesValue). kind_in u.table t) ties) ∙ link in
      let never = ended.none x t kind (record { state = node; is = at; link = had }) in (
        λ gone. never.0 (status_seen s x node Gone at (sym status ∙ gone)),
        λ ceased. never.1 (status_seen s x node Ceased at (sym status ∙ ceased)),
      )) ended

  plain_stamped : node.stamp ≤ acted.state.stamp → NoLinks acted.sent → Basis p s → AreStamped after
  plain_stamped stamp none inv =
      stamps_start s after x node acted.state acted.sent step.sent changes step.done (silent_stamps node acted x status stamp none)
      inv.versions inv.stamped

-- ---- a publication, a withdrawal, a lookup or a cast

module _ (p : SettingsValue) (s : System) (x : List ℕ) (start : Start) (node : NodeState) (at : s.node x ≡ Some node)
    (starter_is : starter p s x start ≡ Some node) (quiet : IsQuietStart start) (inv : Basis p s) where
  quiet_ended : EndedHaveNoLinks (after_start p s x start)
  quiet_ended =
      let law = quiet_start_law node start quiet in
      plain_ended p s x start node at (starts p s x start node starter_is) law.status law.ties inv.ended

  quiet_stamped : AreStamped (after_start p s x start)
  quiet_stamped =
      let law = quiet_start_law node start quiet in
      plain_stamped p s x start node at (starts p s x start node starter_is) law.status law.stamp (λ frame among version on is.
      let never : IsQuiet (Link version on) = subst IsQuiet is (law.sent frame among) in never) inv

-- ---- a join that is given up

module _ (p : SettingsValue) (s : System) (x : List ℕ) (may : MayGiveUp s x) (inv : Basis p s) where
  gives_up_ended : EndedHaveNoLinks (after_start p s x Abandon)
  gives_up_ended =
      let law = give_up_law may.state may.joining in
      plain_ended p s x Abandon may.state may.is (starts p s x Abandon may.state may.is) law.status law.ties inv.ended

  gives_up_stamped : AreStamped (after_start p s x Abandon)
  gives_up_stamped =
      let law = give_up_law may.state may.joining in
      let stamp = law.completed.stamp in
      plain_stamped p s x Abandon may.state may.is (starts p s x Abandon may.state may.is) law.status (omega (arith, stamp))
      (no_links_sent (name_of may.state) [] (act may.state (Starts Abandon)).sent law.sent (λ m among. absurd among)) inv

-- ---- a new name that starts to join

module _ (p : SettingsValue) (s : System) (x via : List ℕ) (fresh : s.node x ≡ None) (inv : Basis p s) where
  abbrev joins : Acted
  joins = act (joiner p x) (Starts (Join via))

  begins : IsStarted p s x (Join via) (joiner p x)
  begins = starts p s x (Join via) (joiner p x) refl

  join_ended : EndedHaveNoLinks (after_start p s x (Join via))
  join_ended =
      let status : joins.state.status ≡ Joining = (seek_start_law (joiner p x) via refl).joins.status in
      ended_kept s (after_start p s x (Join via)) x joins.state joins.sent begins.done (λ t kind link. (
        λ gone. let wrong : Joining ≡ Gone = sym status ∙ gone in cc,
        λ ceased. let wrong : Joining ≡ Ceased = sym status ∙ ceased in cc,
      )) inv.ended

  -- a Seek is no Link
  seek_no_link : (m : Message) → IsAmong m (message via (Seek x) ∷ []) → (version : ℕ) (on : Bool) → m.body ≡ Link version on → ⊥
  seek_no_link m (inl same) version on is =
      let wrong : Seek x ≡ Link version on = ap (λ (n : Message). n.body) (sym same) ∙ is in cc
  seek_no_link m (inr never) version on is = never

  join_stamped : AreStamped (after_start p s x (Join via))
  join_stamped =
      let law = seek_start_law (joiner p x) via refl in
      let none = no_links_sent x (message via (Seek x) ∷ []) joins.sent law.sent seek_no_link in
      stamps_join s (after_start p s x (Join via)) x joins.state joins.sent begins.sent begins.done fresh
      (λ w t version on sends. none (record { from = w; to = t; body = Link version on }) sends version on refl) inv.ends inv.stamped

-- ---- from the invariant

pub start_ended : StartEnded
start_ended p s x (Join via) inv nodes may new = join_ended p s x via may.fresh inv
start_ended p s x Abandon inv nodes may new = gives_up_ended p s x may inv
start_ended p s x Leave inv nodes may new = absurd new
start_ended p s x (Publish object) inv nodes may new =
    quiet_ended p s x (Publish object) may.acts.state may.acts.is may.acts.is tt inv
start_ended p s x (Withdraw object) inv nodes may new =
    quiet_ended p s x (Withdraw object) may.acts.state may.acts.is may.acts.is tt inv
start_ended p s x (Find ticket object) inv nodes may new =
    quiet_ended p s x (Find ticket object) may.acts.state may.acts.is may.acts.is tt inv
start_ended p s x (Cast cast level word) inv nodes may new =
    quiet_ended p s x (Cast cast level word) may.acts.state may.acts.is may.acts.is tt inv

pub start_stamped : StartStamped
start_stamped p s x (Join via) inv nodes may new = join_stamped p s x via may.fresh inv
start_stamped p s x Abandon inv nodes may new = gives_up_stamped p s x may inv
start_stamped p s x Leave inv nodes may new = absurd new
start_stamped p s x (Publish object) inv nodes may new =
    quiet_stamped p s x (Publish object) may.acts.state may.acts.is may.acts.is tt inv
start_stamped p s x (Withdraw object) inv nodes may new =
    quiet_stamped p s x (Withdraw object) may.acts.state may.acts.is may.acts.is tt inv
start_stamped p s x (Find ticket object) inv nodes may new =
    quiet_stamped p s x (Find ticket object) may.acts.state may.acts.is may.acts.is tt inv
start_stamped p s x (Cast cast level word) inv nodes may new =
    quiet_stamped p s x (Cast cast level word) may.acts.state may.acts.is may.acts.is tt inv
