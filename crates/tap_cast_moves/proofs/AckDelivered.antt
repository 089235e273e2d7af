-- A CastAck that is delivered keeps all that is said of casts.
use Rattle.std.proofs.Common.{Some, refl, true, ◌≡◌, ◌⊎◌, ℕ, false, List, sym, ap, subst, inl, inr}
use Rattle.tap_name.specs.Settings.{SettingsValue}
use Rattle.tap_cast.specs.Casts.{level_of_cast}
use Rattle.tap_wire.specs.declared.frame.Body.TheVariants.{Cast, CastAck}
use Rattle.tap_wire.specs.declared.frame.Frame.{Frame}
use Rattle.tap_rule.specs.Event.{Acted}
use Rattle.tap_rule.specs.RuleLaws.{frame_to}
use Rattle.tap_rule.specs.Node.{NodeState, name_of}
use Rattle.tap_safety.specs.Exchanges.{ChangesAt}
use Rattle.tap_safety.specs.System.{System, AmongFrames}
use Rattle.tap_moves.specs.ByRule.{taken_at}
use Rattle.tap_moves.specs.InvariantLaws.{IsDelivery}
use Rattle.tap_cast_moves.specs.Audience.{CastsAreSound}
use Rattle.tap_cast_moves.specs.Cover.{IsCastDue}
use Rattle.tap_cast_moves.specs.News.{NewsAreTrue}
use Rattle.tap_cast_moves.specs.Remembered.{CastMemory, CastRun}
use Rattle.tap_cast_moves.proofs.AckTaken.{AckIsTaken, ack, ack_becomes, ack_cast, ack_is_taken, ack_open, ack_stays, ack_started}
use Rattle.tap_cast_moves.proofs.AsideMade.{frames_swap}
use Rattle.tap_cast_moves.proofs.CastDelivered.{core_stays, due_still}
use Rattle.tap_cast_moves.proofs.CastKept.{CastMove, IsTakenFor, moved_both}
use Rattle.tap_cast_moves.proofs.CastMade.{later, node_changes, recall}
use Rattle.tap_cast_moves.proofs.CastTaken.{nothing_true}
use Rattle.tap_cast_moves.proofs.Noted.{RunsBecome, WillBecome}
use Rattle.tap_safety.proofs.Chains.{no_session}
use Rattle.tap_rule.specs.Casts.{cast_news}
use Rattle.tap_cast_moves.specs.SeenCasts.{cast_name, seen}

module _ (p : SettingsValue) (s : System) (r : CastMemory) (number : ℕ) (node : NodeState) (from : List ℕ) (k : ℕ)
    (is : IsDelivery p s number node from (CastAck k)) (sound : CastsAreSound p s r) where
  abbrev own : List ℕ
  own = name_of node

  abbrev s' : System
  s' = later p s r number node from (CastAck k) is

  abbrev r' : CastMemory
  r' = recall p s r number node from (CastAck k) is

  abbrev acted : Acted
  acted = taken_at node from (CastAck k)

  taken : AckIsTaken p s r number node from k is sound.sessions
  taken = ack_is_taken p s r number node from k is sound.sessions

  at : ChangesAt s s' own node acted.state
  at = node_changes p s r number node from (CastAck k) is

  status : acted.state.status ≡ node.status
  status = (ack_stays p s r number node from k is sound.sessions).status

  cast : ℕ
  cast = ack_cast p s r number node from k is sound.sessions

  become : RunsBecome r r' own cast false taken.closed
  unfolding cast
  become = ack_becomes p s r number node from k is sound.sessions taken.closed taken.news

  -- its casts stay
  casts_same : acted.state.casts ≡ node.casts
  casts_same = (ack p s r number node from k is sound.sessions).casts

  -- each Cast that is due is due still, since a CastAck is taken
  due_on : (d : ℕ) (e : List ℕ) (above : ℕ) → IsCastDue s d e above → IsCastDue s' d e above ⊎ IsTakenFor s own cast 0 false d e above
  due_on d e above due =
      let f : Frame = record { from = due.from; to = due.to; body = Cast d due.level due.session due.depth due.word } in
      let swap = frames_swap p s r number node from (CastAck k) is in
      elim (swap.still due.way.number f due.way.among) [
        | inr on ↦ inl (due_still s s' d e above due on (core_stays s s' own node acted.state at status due.to due.core))
        | inl same ↦
            let one = swap.was_one due.way.number f (frame_to node from (CastAck k)) due.way.among
            (subst (λ n. AmongFrames n (frame_to node from (CastAck k)) s.frames) (sym same) swap.taken) in
            let wrong : Cast d due.level due.session due.depth due.word ≡ CastAck k = ap (λ (g : Frame). g.body) one in
            absurd (cc)
      ]

  news_here : acted.news ≡ cast_news cast false taken.closed
  unfolding cast
  news_here = taken.news

  -- the cast isn't closed, since one of its sessions is open
  open_still : (run : CastRun) → r.cast cast ≡ Some run → run.closed ≡ true → ⊥
  unfolding cast
  open_still run started over =
      let there = ack_open p s r number node from k is sound.sessions in
      no_session (seen s r) (cast_name cast) sound.sessions.sessions.exact ((sound.sessions.ends cast run started).closed over) own k there.0
      there.1 there.2

  now_run : WillBecome r'.cast own cast false taken.closed cast (ack_started p s r number node from k is sound.sessions).0
  unfolding cast
  now_run =
      let run = ack_started p s r number node from k is sound.sessions in become.on cast run.0 run.1

  ack_move : CastMove p s s' r r' own cast 0 false false taken.closed false node acted.state acted.news
  ack_move = record {
    at = at;
    news_is = news_here;
    unkept_first = λ wrong. nothing_true wrong;
    still_open = λ is. open_still;
    now_started = (now_run.now, now_run.is);
    first_reaches = λ wrong. nothing_true wrong;
    now_closes = λ is. now_run.becomes.closed_new is refl;
    keeps = record {
      status = status;
      levels = λ d. inl (ap (λ cs. level_of_cast cs d) casts_same);
      below = λ wrong. nothing_true wrong;
    };
    core = λ either. elim either [ inl wrong ↦ nothing_true wrong | inr wrong ↦ nothing_true wrong ];
    was = λ d now there. inl (become.was d now there);
    now_kept = λ wrong. nothing_true wrong;
    anew_is = λ wrong. nothing_true wrong;
    first_kept = λ wrong. nothing_true wrong;
    on_run = λ d run there. let will = become.on d run there in (will.now, will.is, will.becomes);
    caster_now = λ wrong. nothing_true wrong;
    due_on = due_on;
    reached_own = λ wrong. nothing_true wrong;
    own_serves = λ either. elim either [ inl wrong ↦ nothing_true wrong | inr wrong ↦ nothing_true wrong ];
  }

  pub ack_delivered : CastsAreSound p s' r' × NewsAreTrue s r r' own acted.news
  ack_delivered =
      moved_both p s s' r r' own cast 0 false false taken.closed false node acted.state acted.news ack_move sound taken.sessions
