-- What the steps change at which a node leaves or ends, and those of its holders.
-- Cited above: cease_law, gone_law, leave_law, left_law, unlinked
use Rattle.std.proofs.Common.{◌≡◌, ◌≢◌, ◌==◌, ℕ, ◌*◌, Bool, cond, List, [], length, get_or, replicate, None, true, false, arith, refl, ap, subst, ◌∙◌, inl, inr, eqb-true}
use Rattle.std.proofs.lemmas.Bool.{cases_lt, eqb-false}
use Rattle.std.proofs.lemmas.List.{get_or-replicate, get_or_past, length-replicate}
use Rattle.tap_name.specs.Name.{IsName}
use Rattle.tap_name.specs.Settings.{SettingsValue}
use Rattle.tap_link.specs.LinkSet.{kind_of}
use Rattle.tap_link.proofs.TargetKinds.{kind_removed}
use Rattle.tap_table.specs.Table.{SlotLinks, empty_table, kind_in, name_cmp, place_of, slot_number}
use Rattle.tap_table.specs.Ties.{AreTies, TiesValue, holders_on, marked}
use Rattle.tap_table.proofs.LookUps.{by_rule, kind_in-removed, of_itself}
use Rattle.tap_depart.specs.Leaving.{names_but}
use Rattle.tap_depart.specs.ToldLeave.{taken_in}
use Rattle.tap_pointer.specs.declared.lay.Lay.{Lay}
use Rattle.tap_wire.specs.declared.frame.Body.{Body}
use Rattle.tap_wire.specs.declared.frame.Body.TheVariants.{Done, Leave, Left, Forget, Gone}
use Rattle.tap_rule.specs.Node.{IsRunning, NodeState, Status, ended, link_to, name_of, settings_of}
use Rattle.tap_rule.specs.Node.Status.{Leaving, Gone as GoneStatus, Ceased}
use Rattle.tap_rule.specs.Event.{Acted}
use Rattle.tap_rule.specs.Event.News.{Gone as GoneNews}
use Rattle.tap_rule.specs.Reaction.{Reaction, sends, to_each}
use Rattle.tap_rule.specs.Sent.{AreSentInOrder}
use Rattle.tap_rule.specs.Ceasing.{ceases}
use Rattle.tap_rule.specs.Leaving.{finishes, takes_gone, takes_leave, takes_left}
use Rattle.tap_rule.specs.FrameRules.{frame_at_core, frame_at_joining, frame_at_leaving}
use Rattle.tap_rule.specs.EndSteps.{EndStep, GoneStep, IsEmptied, LeftStep, lays_at_end, words_at_end}
use Rattle.tap_rule.specs.RuleLaws.{CeaseLaw, GoneLaw, IsCarriedOut, LeaveLaw, LeftLaw, frame_to}
use Rattle.tap_rule.proofs.CarriedOut.{frame_law}
use Rattle.tap_rule.proofs.Completed.{casts_by, completed_by, one_offer, rest_by}
use Rattle.tap_rule.proofs.OneName.{not_own, others_stay}

-- no slot of a table without links has one
no_links : (n number : ℕ) → get_or {A = SlotLinks} (replicate n []) number [] ≡ []
no_links n number =
    elim (cases_lt number n) [
      | inl inside ↦ get_or-replicate n number [] [] inside
      | inr past ↦ get_or_past (replicate n []) number [] (omega (arith, length-replicate {A = SlotLinks} n []))
    ]

pub unlinked : (p : SettingsValue) (owner name : List ℕ) → kind_in (empty_table p owner) name ≡ None
unlinked p owner name =
    ap (λ (links : SlotLinks). kind_of name_cmp links name) (no_links (p.base * p.digits) (slot_number p.base (place_of owner name)))

-- what is left of a node that has ended
emptied : (node : NodeState) (end : Status) (after : NodeState) → after ≡ ended end node → IsEmptied node after
emptied node end after is = record {
  name = ap name_of is;
  settings = ap settings_of is;
  stamp = ap (λ (s : NodeState). s.stamp) is;
  covers = ap (λ (s : NodeState). s.covers) is;
  greeted = ap (λ (s : NodeState). s.greeted) is;
  abandoned = ap (λ (s : NodeState). s.abandoned) is;
  pointers = ap (λ (s : NodeState). s.pointers) is;
  awaited = ap (λ (s : NodeState). s.awaited) is;
  casts = ap (λ (s : NodeState). s.casts) is;
  cast_sessions = ap (λ (s : NodeState). s.cast_sessions) is;
  cast_numbers = ap (λ (s : NodeState). s.cast_numbers) is;
}

-- the rule of a node that ends, with these Lays
abbrev ending : NodeState → Status → Body → List Lay → Reaction
ending node end farewell lays = record {
  state = ended end node;
  words = words_at_end node;
  messages = to_each farewell (holders_on node.ties);
  lays = lays;
  news = GoneNews;
}

pub end_step : (node : NodeState) (end : Status) (farewell : Body) (lays : List Lay) (acted : Acted) → (IsRunning end → ⊥)
    → lays ≡ lays_at_end end node → IsCarriedOut node (ending node end farewell lays) acted → EndStep node end farewell acted
end_step node end farewell lays acted has same carried =
    let said = carried.ended has in
    record {
      status = carried.status;
      unlinked = λ name. ap (λ (t : TiesValue). kind_in t.table name) carried.ties ∙ unlinked (settings_of node) (name_of node) name;
      unheld = ap (λ (t : TiesValue). t.holders) carried.ties;
      sessions = carried.sessions;
      news = carried.news;
      sent = carried.sent;
      emptied = emptied node end acted.state said.state;
      in_order =
          subst (λ l. AreSentInOrder (name_of node) (words_at_end node) (to_each farewell (holders_on node.ties)) l acted.sent) same
          said.sent;
      taken = carried.taken;
    }

-- Done, at a node whose join was given up
pub cease_law : CeaseLaw
unfolding frame_at_joining
cease_law node from at given_up taken =
    end_step node Ceased Forget [] _ (λ runs. runs) refl
    (frame_law node (frame_to node from Done) (ceases node) taken (rw (at, given_up) refl))

pub leave_law : LeaveLaw
unfolding frame_at_core
leave_law node from replacement at taken =
    let carried = frame_law node (frame_to node from (Leave replacement)) (takes_leave node from replacement) taken (rw at refl) in
    record {
      joins = record { status = carried.status; covers = carried.covers; greeted = carried.greeted; abandoned = carried.abandoned };
      sessions = carried.sessions;
      ties = carried.ties;
      sent = carried.sent;
      rest = rest_by carried refl refl refl refl;
      completed =
          completed_by node _ _ carried (rw at tt)
          (one_offer (marked node.ties from) node.stamp (taken_in (marked node.ties from) from replacement));
    }

module _ (node : NodeState) (from : List ℕ) (acted : Acted) (at : node.status ≡ Leaving) where
  left_as : (last : Bool) → (length (names_but node.awaited from) == 0) ≡ last
      → IsCarriedOut node (cond last (finishes (record node { awaited = names_but node.awaited from }))
      (sends (record node { awaited = names_but node.awaited from }) [])) acted
      → LeftStep node from acted
  left_as true is carried = record {
    waits = λ some. absurd (some (eqb-true (length (names_but node.awaited from)) 0 is));
    finishes = λ none. end_step node GoneStatus Gone _ acted (λ runs. runs) refl carried;
  }
  left_as false is carried = record {
    waits = λ some. (
      record { status = carried.status; covers = carried.covers; greeted = carried.greeted; abandoned = carried.abandoned },
      carried.ties,
      carried.sessions,
      carried.awaited,
      carried.sent,
      casts_by carried refl refl refl,
      completed_by node _ acted carried (rw at tt) (omega arith),
    );
    finishes = λ none. absurd (eqb-false (length (names_but node.awaited from)) 0 is none);
  }

pub left_law : LeftLaw
unfolding frame_at_leaving
left_law node from at taken =
    left_as node from _ at (length (names_but node.awaited from) == 0) refl
    (frame_law node (frame_to node from Left) (takes_left node from) taken (rw at refl))

module _ (node : NodeState) (from : List ℕ) (acted : Acted) (ties : AreTies node.ties) (is_name : IsName (settings_of node) from)
    (apart : from ≢ name_of node) (runs : IsRunning node.status) where
  taken_out_step : IsCarriedOut node (takes_gone node from) acted → GoneStep node from acted
  taken_out_step carried =
      let link : (name : List ℕ) → link_to acted.state name ≡ by_rule from name kind_removed (link_to node name) =
      λ name. ap (λ (t : TiesValue). kind_in t.table name) carried.ties
      ∙ kind_in-removed node.ties.table from ties.table is_name apart name in
      let own : link_to acted.state from ≡ kind_removed (link_to node from) =
      link from ∙ of_itself from kind_removed (link_to node from) in
      record {
        joins = record { status = carried.status; covers = carried.covers; greeted = carried.greeted; abandoned = carried.abandoned };
        sessions = carried.sessions;
        holders = ap (λ (t : TiesValue). t.holders) carried.ties;
        others = λ name. others_stay from name kind_removed (link_to acted.state name) (link_to node name) (link name);
        removed = λ settled. own ∙ rw settled refl;
        kept = λ pin. own ∙ rw pin refl;
        sent = carried.sent;
        rest = rest_by carried refl refl refl refl;
        completed = completed_by node _ acted carried runs (omega arith);
      }

pub gone_law : GoneLaw
unfolding frame_at_core
gone_law node from ties is_name at taken =
    let frame = frame_to node from Gone in
    taken_out_step node from _ ties is_name (not_own node frame taken) (rw at tt)
    (frame_law node frame (takes_gone node from) taken (rw at refl))
