-- Whether a node opens a session at a frame, of whose joiner, and that it opens none at a start.
use Rattle.std.proofs.Common.{◌≡◌, ℕ, nat_eq, ◌+◌, ◌≤◌, Bool, false, cond, List, [], Option, None, Some, arith, ap, refl, ◌∙◌}
use Rattle.std.specs.Prelude.{IfSome, ◌&&◌}
use Rattle.std.specs.Cmp.Lexicographic.{pointwise}
use Rattle.std.proofs.lemmas.List.Elements.{All-cons, All-nil}
use Rattle.tap_name.specs.Prefix.{lcp}
use Rattle.tap_name.specs.Settings.{SettingsValue}
use Rattle.tap_name.specs.declared.slot.Slot.{Slot}
use Rattle.tap_name.proofs.Prefixes.{lcp-most}
use Rattle.tap_link.specs.LinkSet.{least_settled}
use Rattle.tap_table.specs.Table.{TableValue, links_near}
use Rattle.tap_session.specs.Session.{SessionsValue}
use Rattle.tap_join.specs.Seek.{sought, sought_by}
use Rattle.tap_join.specs.declared.sought.Sought.TheVariants.{Surrogate}
use Rattle.tap_multicast.specs.Covers.{level_kept}
use Rattle.tap_wire.specs.Spelling.{IsBody}
use Rattle.tap_wire.specs.declared.frame.Body.{Body}
use Rattle.tap_wire.specs.declared.frame.Body.TheVariants.{Ack, Seek}
use Rattle.tap_wire.specs.declared.frame.Frame.{Frame}
use Rattle.tap_wire.specs.declared.frame.TellFields.{TellFields}
use Rattle.tap_rule.specs.Act.{act}
use Rattle.tap_rule.specs.Ceasing.{takes_tell_ceased}
use Rattle.tap_rule.specs.Covering.{request_of}
use Rattle.tap_rule.specs.Event.{Acted, Start}
use Rattle.tap_rule.specs.Event.Event.{Starts, Takes}
use Rattle.tap_rule.specs.FrameRules.{frame_at_ceased, frame_at_core, frame_at_joining, frame_at_leaving, rule_of_frame}
use Rattle.tap_rule.specs.RuleLaws.{IsCarriedOut, IsIgnored}
use Rattle.tap_rule.specs.Node.{NodeState, Status, name_of}
use Rattle.tap_rule.specs.Node.Status.{Ceased, Core, Gone, Joining, Leaving}
use Rattle.tap_rule.specs.Reaction.{Reaction, message}
use Rattle.tap_rule.specs.StartRules.{rule_of_start}
use Rattle.tap_rule.specs.Strange.{is_strange}
use Rattle.tap_rule.proofs.CarriedOut.{frame_law, start_law, unruled_law, unruled_start_law}
use Rattle.tap_safety.specs.Frames.{tell_body}
use Rattle.tap_safety.specs.Turned.{joiner_of}
use Rattle.tap_safety.proofs.Said.{Said}
use Rattle.tap_safety.proofs.Said.Said.{IsSeek, IsTell}
use Rattle.tap_moves.specs.KnownNames.{IsNodeOf}
use Rattle.tap_bounds.specs.Openings.{most_covering, most_opened}
use Rattle.tap_bounds.proofs.HelloRules.{IsUngreeting, Ungreeting, keeps, rule_ungreeting, start_ungreeting}
use Rattle.tap_bounds.proofs.OpenRules.{OpensNone, rule_opens_none, start_opens_none}
use Rattle.tap_bounds.proofs.OpenSteps.{Opens, meets_opens, none_most, none_opens, pins_opens, seeks_opens}

-- ---- what a node does

-- of a step: it opens one of this joiner, or none
pub record ActedOpens (p : SettingsValue) (node : NodeState) (b : List ℕ) (more : Bool) (acted : Acted) : Type 0 where
  pub opened : acted.state.sessions.opened ≡ node.sessions.opened + cond {A = ℕ} more 1 0
  pub few : (d : List ℕ) → cond {A = ℕ} (more && pointwise nat_eq b d) 1 0 + most_opened p node.status node d
      ≤ most_opened p acted.state.status acted.state d

-- what a state allows rests on its status, its covers and whom it has greeted
alike_most : (p : SettingsValue) (one two : NodeState) (b : List ℕ) → one.status ≡ two.status → one.covers ≡ two.covers
    → one.greeted ≡ two.greeted → most_opened p one.status one b ≡ most_opened p two.status two b
alike_most p one two b status covers greeted = ap (λ s. most_opened p s one b) status ∙ by two.status
  where
    by : (s : Status) → most_opened p s one b ≡ most_opened p s two b
    by Joining = rw greeted refl
    by Core = ap (λ cs. most_covering p (level_kept cs b)) covers
    by Leaving = ap (λ cs. most_covering p (level_kept cs b)) covers
    by Gone = refl
    by Ceased = refl

carried_opens : (p : SettingsValue) (node : NodeState) (b : List ℕ) (r : Reaction) (acted : Acted) → IsCarriedOut node r acted
    → (opens : Opens p node b r) → ActedOpens p node b opens.more acted
carried_opens p node b r acted carried opens = record {
  opened = ap (λ (s : SessionsValue). s.opened) carried.sessions ∙ opens.opened;
  few = λ d.
      let more = opens.few d in
      let same = alike_most p acted.state r.state d carried.status carried.covers carried.greeted in
      omega (arith, more, same);
}

ignored_opens : (p : SettingsValue) (node : NodeState) (b : List ℕ) (acted : Acted) → IsIgnored node acted → ActedOpens p node b false acted
ignored_opens p node b acted ignored = record {
  opened = let same = ap (λ (n : NodeState). n.sessions.opened) ignored.state in omega (arith, same);
  few = λ d. let same = ap (λ (n : NodeState). most_opened p n.status n d) ignored.state in omega (arith, same);
}

-- of a frame: whether it opens one
pub record FrameOpens (p : SettingsValue) (node : NodeState) (b : List ℕ) (acted : Acted) : Type 0 where
  pub more : Bool
  pub opens : ActedOpens p node b more acted

pub frame_opens : (p : SettingsValue) (node : NodeState) (b : List ℕ) (frame : Frame) → is_strange node frame ≡ false
    → IfSome (rule_of_frame node.status node frame.from frame.body) (Opens p node b) → FrameOpens p node b (act node (Takes frame))
frame_opens p node b frame fits opens = by (rule_of_frame node.status node frame.from frame.body) refl opens
  where
    by : (rule : Option Reaction) → rule_of_frame node.status node frame.from frame.body ≡ rule → IfSome rule (Opens p node b)
        → FrameOpens p node b (act node (Takes frame))
    by None is opens =
        record { more = false; opens = ignored_opens p node b (act node (Takes frame)) (unruled_law node frame is) }
    by (Some r) is opens =
        record { more = opens.more; opens = carried_opens p node b r (act node (Takes frame)) (frame_law node frame r fits is) opens }

-- a rule that opens none, by what is known of it
both_none : (p : SettingsValue) (node : NodeState) (b : List ℕ) (rule : Option Reaction)
    → IfSome rule (Ungreeting node) → IfSome rule (OpensNone node) → IfSome rule (Opens p node b)
both_none p node b None plain none = tt
both_none p node b (Some r) plain none = none_opens p node b r plain none

pub start_opens : (p : SettingsValue) (node : NodeState) (start : Start) → ActedOpens p node [] false (act node (Starts start))
start_opens p node start =
    by (rule_of_start node.status node start) refl (start_ungreeting node node.status refl start) (start_opens_none node node.status start)
  where
    by : (rule : Option Reaction) → rule_of_start node.status node start ≡ rule → IfSome rule (Ungreeting node)
        → IfSome rule (OpensNone node) → ActedOpens p node [] false (act node (Starts start))
    by None is plain none = ignored_opens p node [] (act node (Starts start)) (unruled_start_law node start is)
    by (Some r) is plain none =
        carried_opens p node [] r (act node (Starts start)) (start_law node start r is) (record {
          more = false;
          opened = omega (arith, none);
          few = λ b. let most = none_most p node [] r plain b in omega (arith, most);
        })

-- ---- what it does at a frame

-- the prefix of a surrogate is what it shares with the joiner
surrogate_prefix : (t : TableValue) (b : List ℕ) (prefix : ℕ) → sought t b ≡ Surrogate prefix → prefix ≡ lcp t.owner b
surrogate_prefix t b prefix is = by (least_settled (links_near t b)) is
  where
    by : (found : Option (List ℕ)) → sought_by found (lcp t.owner b) ≡ Surrogate prefix → prefix ≡ lcp t.owner b
    by None is = cc
    by (Some next) is = cc

module _ (p : SettingsValue) (node : NodeState) (from : List ℕ) (of : IsNodeOf p (name_of node) node) where
  seek_rule : (b : List ℕ) (status : Status) → node.status ≡ status → IfSome (rule_of_frame status node from (Seek b)) (Opens p node b)
  unfolding frame_at_joining frame_at_core frame_at_leaving frame_at_ceased
  seek_rule b Joining at = tt
  seek_rule b Core at =
      seeks_opens p node b (sought node.ties.table b) at (λ prefix is.
      let near = surrogate_prefix node.ties.table b prefix is in
      let most = (lcp-most (name_of node) b).0 in
      let long = of.is_node.ties.table.owner.len in
      let digits = ap (λ (q : SettingsValue). q.digits) of.settings in
      omega (arith, near, most, long, digits))
  seek_rule b Leaving at = tt
  seek_rule b Gone at = tt
  seek_rule b Ceased at = tt

  tell_rule : (tell : TellFields) (watch : List Slot) → tell.level ≤ p.digits → (status : Status) → node.status ≡ status
      → IfSome (rule_of_frame status node from (tell_body tell watch)) (Opens p node tell.joiner)
  unfolding frame_at_joining frame_at_core frame_at_leaving frame_at_ceased
  tell_rule tell watch inside Joining at = meets_opens p node from tell at
  tell_rule tell watch inside Core at = pins_opens p node (request_of from tell watch) at inside
  tell_rule tell watch inside Leaving at = tt
  tell_rule tell watch inside Gone at = tt
  tell_rule tell watch inside Ceased at =
      none_opens p node tell.joiner (takes_tell_ceased node from tell.session) (keeps node (takes_tell_ceased node from tell.session) refl refl refl
      (All-cons (λ m. IsUngreeting m.body) (message from (Ack tell.session)) [] tt (All-nil (λ m. IsUngreeting m.body)))) refl

  pub rule_opens : (body : Body) → Said body → IsBody p body → IfSome (rule_of_frame node.status node from body) (Opens p node (joiner_of body))
  rule_opens _ (IsSeek b) spelled = seek_rule b node.status refl
  rule_opens _ (IsTell tell watch) spelled = tell_rule tell watch spelled.level_most node.status refl
  rule_opens body _ spelled =
      both_none p node (joiner_of body) (rule_of_frame node.status node from body) (rule_ungreeting node from node.status refl body tt)
      (rule_opens_none node from node.status body tt)
