-- What a node sends when it covers a joiner is sound: its Tells are, its Hello goes between soft nodes and offers such, and no notice is
-- among them.
use Rattle.std.proofs.Common.{◌≡◌, ℕ, ◌+◌, ◌<◌, ◌≤◌, true, List, [], Some, arith, sym, subst, ◌∙◌, inl, inr}
use Rattle.std.specs.Option.{is_none}
use Rattle.std.proofs.lemmas.Bool.{cases_Bool, true≢false}
use Rattle.std.proofs.lemmas.List.Elements.{All-nil}
use Rattle.tap_name.specs.Name.{IsName}
use Rattle.tap_name.specs.Prefix.{lcp}
use Rattle.tap_name.specs.Settings.{SettingsValue}
use Rattle.tap_name.specs.declared.slot.Offered.{Offered}
use Rattle.tap_name.proofs.Prefixes.{lcp-sym}
use Rattle.tap_link.specs.declared.kind.Kind.{Kind}
use Rattle.tap_link.specs.declared.kind.Kind.TheVariants.{Leaving as LeavingKind, Pin, Settled}
use Rattle.tap_session.specs.declared.parent.Parent.{Parent}
use Rattle.tap_session.specs.declared.parent.Parent.TheVariants.{Node, Root}
use Rattle.tap_table.specs.Table.{IsTable, TableValue}
use Rattle.tap_table.specs.Ties.{AreTies}
use Rattle.tap_multicast.specs.declared.target.Target.{Target}
use Rattle.tap_multicast.specs.Covers.{MayCover, MayWatch, cover_of}
use Rattle.tap_multicast.proofs.Offers.{IsOffered, offers_are}
use Rattle.tap_multicast.proofs.Regions.{targets_near}
use Rattle.tap_multicast.proofs.Telling.{IsTarget, targets_are}
use Rattle.tap_join.specs.Hello.{hello_names}
use Rattle.tap_rule.specs.Answers.{answer_for}
use Rattle.tap_rule.specs.Covering.{Request, pins_and_covers}
use Rattle.tap_rule.specs.Event.{Acted}
use Rattle.tap_rule.specs.RuleLaws.{IsCarriedOut}
use Rattle.tap_rule.specs.Node.{NodeState, level_of, link_to, name_of, settings_of}
use Rattle.tap_rule.specs.Sent.{IsAmong}
use Rattle.tap_rule.proofs.JoinSteps.{IsTellFit}
use Rattle.tap_safety.specs.Notices.{IsNotice}
use Rattle.tap_safety.specs.SeekerSteps.{IsCoverBody, SendsCovers}
use Rattle.tap_safety.specs.Soft.{IsSoft, IsSoundBody, IsSoundLink, IsSoundOffer, SendsSound}
use Rattle.tap_safety.specs.Exchanges.{IsSent}
use Rattle.tap_safety.specs.System.{System, CoversAt, IsCoreNode, IsJoiner}
use Rattle.tap_safety.specs.Tells.{IsSoundTell}
use Rattle.tap_safety.specs.Regions.{prefix_of}
use Rattle.tap_wire.specs.declared.frame.Body.{Body}
use Rattle.tap_moves.proofs.CoverMade.{hello_made, joiner_link, linked_inside, other_link, settled_before, told_targets, with_joiner, with_joiner_is}
use Rattle.tap_moves.proofs.Got.{among_all}
use Rattle.tap_moves.proofs.CoverSent.{covers_send}

-- What is known once a core node has covered a joiner as it was asked: it covers it at some level, its links are sound, and the request
-- is of the joiner's prefix.
pub record HasCovered (p : SettingsValue) (s : System) (node : NodeState) (request : Request) : Type 0 where
  pub ties : AreTies node.ties
  pub settings : settings_of node ≡ p
  pub name : IsName (settings_of node) request.joiner
  pub fits : IsTellFit node request.joiner
  pub core : IsCoreNode s (name_of node)
  pub joiner : IsJoiner s request.joiner
  pub links : (t : List ℕ) (kind : Kind) → link_to node t ≡ Some kind → IsSoundLink s t kind
  pub prefix : request.prefix ≡ prefix_of s request.joiner
  pub level : ℕ
  pub covers : CoversAt s (name_of node) request.joiner level
  pub within : request.prefix ≤ request.level
  pub shared : request.prefix ≤ lcp (name_of node) request.joiner
  pub most : request.level ≤ (settings_of node).digits

-- a sound link is to a soft node
sound_soft : (s : System) (t : List ℕ) (kind : Kind) → IsSoundLink s t kind → IsSoft s t
sound_soft s t Pin soft = soft
sound_soft s t Settled core = inr (inl core)
sound_soft s t LeavingKind never = absurd never

-- and so is a sound offer
offer_soft : (s : System) (b : List ℕ) (o : Offered) → IsSoundOffer s b o → IsSoft s o.name
offer_soft s b o sound = elim (cases_Bool o.settled) [
  | inl settled ↦ inr (inl (sound.core settled))
  | inr joining ↦ sound.soft joining
]

-- an answer is sound, and no notice
answer_covers : (p : SettingsValue) (s : System) (from : List ℕ) (parent : Parent)
    → IsCoverBody p s from (answer_for parent).to (answer_for parent).body
answer_covers p s from (Root joiner) = tt
answer_covers p s from (Node name session) = tt

answer_sound : (s : System) (from : List ℕ) (parent : Parent) → IsSoundBody s from (answer_for parent).to (answer_for parent).body
answer_sound s from (Root joiner) = tt
answer_sound s from (Node name session) = tt

answer_no_notice : (parent : Parent) → IsNotice (answer_for parent).body → ⊥
answer_no_notice (Root joiner) notice = notice
answer_no_notice (Node name session) notice = notice

module _ (p : SettingsValue) (s : System) (node : NodeState) (request : Request) (is : HasCovered p s node request) where
  abbrev own : List ℕ
  own = name_of node

  abbrev table : TableValue
  table = with_joiner node request.joiner is.ties is.name is.fits

  valid : IsTable table
  valid = with_joiner_is node request.joiner is.ties is.name is.fits

  may : MayCover table [] request.joiner request.prefix request.level
  may = record {
    pinned = joiner_link node request.joiner is.ties is.name is.fits;
    within_level = is.within;
    shared = is.shared;
    within_digits = is.most;
    watched = All-nil (MayWatch (settings_of node).base request.prefix);
  }

  tell_sound : (session depth : ℕ) (target : Target) → IsAmong target (told_targets node request) → IsSoundTell p s own target.to (record {
    joiner = request.joiner;
    prefix = request.prefix;
    level = target.level;
    session = session;
    depth = depth;
  })
  tell_sound session depth target among =
      let cover = cover_of table (level_of node request.joiner) request.joiner request.prefix request.level in
      let told = among_all (IsTarget table cover) (told_targets node request) (targets_are table valid cover) target among in
      let region = targets_near table valid [] request.joiner request.prefix request.level may (level_of node request.joiner) target told in
      let link : link_to node target.to ≡ Some told.kind =
      sym (other_link node request.joiner is.ties is.name is.fits target.to told.not_joiner) ∙ told.linked in
      let inside = linked_inside node request.joiner is.ties is.name is.fits target.to told.kind link in
      let near = region.near in
      let swap = lcp-sym request.joiner target.to in
      let prefix = is.prefix in
      record {
        joiner = is.joiner;
        core = is.core;
        cover = is.level;
        covers = is.covers;
        inside = record { reach = omega (arith, near, swap, prefix) };
        apart = told.not_joiner;
        level = told.level;
        near = subst (λ (q : SettingsValue). lcp own target.to < q.digits) is.settings inside.2;
        prefix = is.prefix;
        soft = sound_soft s target.to told.kind (is.links target.to told.kind link);
      }

  offer_sound : is_none (level_of node request.joiner) ≡ true → (o : Offered) → IsAmong o (hello_made node request).links
      → IsSoundOffer s request.joiner o
  offer_sound first o among =
      let cover = cover_of table (level_of node request.joiner) request.joiner request.prefix request.level in
      let offered = among_all (IsOffered table request.watch request.joiner) (hello_made node request).links
      (offers_are table valid request.watch cover first) o among in
      elim offered.which [
        | inl pin ↦
            let link : link_to node o.name ≡ Some Pin =
            sym (other_link node request.joiner is.ties is.name is.fits o.name pin.2) ∙ pin.1 in
            record {
              core = λ settled. absurd (true≢false (sym settled ∙ pin.0));
              soft = λ joining. is.links o.name Pin link;
              apart = pin.2;
            }
        | inr settled ↦
            let before = settled_before node request.joiner is.ties is.name is.fits o.name settled.1 in
            record {
              core = λ here. is.links o.name Settled before.1;
              soft = λ joining. absurd (true≢false (sym settled.0 ∙ joining));
              apart = before.0;
            }
      ]

  -- the node itself is the first of the names of its Hello
  named_sound : is_none (level_of node request.joiner) ≡ true → (o : Offered)
      → IsAmong o (hello_names own true (hello_made node request).links) → IsSoundOffer s request.joiner o
  named_sound first o (inl same) =
      let mine : IsSoundOffer s request.joiner (record { name = own; settled = true }) = record {
        core = λ settled. is.core;
        soft = λ joining. absurd (true≢false joining);
        apart = λ here. is.fits.apart (sym here);
      } in
      subst (IsSoundOffer s request.joiner) (sym same) mine
  named_sound first o (inr later) = offer_sound first o later

  module _ (acted : Acted) (carried : IsCarriedOut node (pins_and_covers node request) acted) where
    pub sends_covers : SendsCovers p s acted.sent
    sends_covers =
        covers_send (λ from to body. IsCoverBody p s from to body) node request acted carried (λ to version on. tt)
        (λ to object server level version on. tt) (answer_covers p s own request.parent)
        (λ first. (inr (inl is.core), inl is.joiner, λ o among. offer_soft s request.joiner o (offer_sound first o among)))
        (λ left target among. tell_sound (node.sessions.opened + 1) (request.depth + 1) target among)

    pub sends_sound : SendsSound s acted.sent
    sends_sound =
        covers_send (λ from to body. IsSoundBody s from to body) node request acted carried (λ to version on. tt)
        (λ to object server level version on. tt) (answer_sound s own request.parent) (λ first o among. named_sound first o among)
        (λ left target among. tt)

-- no notice is sent
pub sends_no_notice : (node : NodeState) (request : Request) (acted : Acted) → IsCarriedOut node (pins_and_covers node request) acted
    → (from to : List ℕ) (body : Body) → IsSent acted.sent from to body → IsNotice body → ⊥
sends_no_notice node request acted carried =
    covers_send (λ from to body. IsNotice body → ⊥) node request acted carried (λ to version on notice. notice)
    (λ to object server level version on notice. notice) (answer_no_notice request.parent) (λ first notice. notice)
    (λ left target among notice. notice)
