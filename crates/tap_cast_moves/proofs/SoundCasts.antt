-- Each possible move keeps what is said of casts; so it holds at each moment of a run.
-- Cited above: casts_at_rest, casts_quietly, move_keeps_casts, news_are_true, rest_closes
use Rattle.std.proofs.Common.{◌≡◌, ℕ, Bool, true, false, List, [], ◌∷◌, Option, None, Some, refl, sym, ap, subst, ◌∙◌}
use Rattle.std.specs.Option.{option_map}
use Rattle.tap_name.specs.Settings.{SettingsValue}
use Rattle.tap_name.specs.Names.{has_name}
use Rattle.tap_cast.specs.Casts.{level_of_cast}
use Rattle.tap_session.specs.Session.{Session}
use Rattle.tap_wire.specs.declared.frame.Body.{Body}
use Rattle.tap_wire.specs.declared.frame.Body.TheVariants.{Cast, CastAck}
use Rattle.tap_wire.specs.declared.frame.Frame.{Frame}
use Rattle.tap_rule.specs.Act.{act}
use Rattle.tap_rule.specs.Event.{News, Start}
use Rattle.tap_rule.specs.Event.Event.{Starts, Takes}
use Rattle.tap_rule.specs.Node.Status.{Core}
use Rattle.tap_rule.specs.Event.Start.{Join, Abandon, Publish, Withdraw, Find as StartFind, Leave as StartLeave, Cast as StartCast}
use Rattle.tap_rule.specs.Node.{NodeState, join_session_at, member_at_rest, name_of}
use Rattle.tap_safety.specs.AtRest.{member_of, system_at_rest}
use Rattle.tap_safety.specs.Move.{Move, may_start}
use Rattle.tap_safety.specs.Move.Move.{Begins, Delivers}
use Rattle.tap_safety.specs.Moved.{moved, starter}
use Rattle.tap_safety.proofs.Moved.{found}
use Rattle.tap_moves.specs.ByRule.{taken_at}
use Rattle.tap_safety.specs.System.{System, AmongFrames}
use Rattle.tap_moves.specs.Delivered.{after_delivery}
use Rattle.tap_moves.specs.InvariantLaws.{IsDelivery}
use Rattle.tap_safety_moves.specs.SoundMoves.{after_moves, may_run}
use Rattle.tap_safety_moves.specs.Sound.{Sound}
use Rattle.tap_safety_moves.proofs.Delivered.{is_delivery, is_to_receiver}
use Rattle.tap_safety_moves.proofs.Members.{sound_at_rest}
use Rattle.tap_safety_moves.proofs.SoundMoves.{move_keeps}
use Rattle.tap_cast_moves.specs.Audience.{CastsAreSound}
use Rattle.tap_cast_moves.specs.SoundCasts.{AreNewCasts, CastsAtRest, CastsQuietly, IsNewCast, MoveKeepsCasts, RestClosesCasts, RunCastsAreSound, recalled_moves}
use Rattle.tap_cast_moves.specs.News.{MoveNewsAreTrue, NewsAreTrue, named_news_of_frame}
use Rattle.tap_cast_moves.specs.Recalled.{recalled}
use Rattle.tap_cast_moves.specs.Remembered.{CastMemory, no_casts}
use Rattle.tap_cast_moves.specs.SeenCasts.{seen_node}
use Rattle.tap_cast_moves.proofs.AckDelivered.{ack_delivered}
use Rattle.tap_cast_moves.proofs.AsideKept.{aside_kept, unseen}
use Rattle.tap_cast_moves.proofs.AsideMade.{IsNoCast, aside_frame, aside_start, delivered_aside, leave_start, start_is_aside}
use Rattle.tap_cast_moves.proofs.AsideRules.{IsAside, IsAsideNews}
use Rattle.tap_cast_moves.proofs.CastDelivered.{cast_delivered}
use Rattle.tap_cast_moves.proofs.CastsQuiet.{casts_quiet, no_cast_goes_on, rest_quiet}
use Rattle.tap_cast_moves.proofs.StartDelivered.{cast_started}

-- news that aren't about casts say nothing false of them
aside_news_true : (s : System) (r r' : CastMemory) (x : List ℕ) (news : News) → IsAsideNews news → NewsAreTrue s r r' x news
aside_news_true s r r' x news aside cast reached closed is = absurd (subst IsAsideNews is aside)

-- ---- frames

module _ (p : SettingsValue) (s : System) (r : CastMemory) (number : ℕ) (node : NodeState) (from : List ℕ) (sound : Sound p s)
    (casts : CastsAreSound p s r) where
  -- what is said of casts is kept, and the news are true
  abbrev Kept : Body → Type 0
  Kept body = CastsAreSound p (after_delivery p s number) (recalled p s r (Delivers number))
      × NewsAreTrue s r (recalled p s r (Delivers number)) (name_of node) (taken_at node from body).news

  aside : (body : Body) → IsDelivery p s number node from body → IsAside body → Kept body
  aside body is other = (
    aside_kept p s (after_delivery p s number) r (recalled p s r (Delivers number))
        (delivered_aside p s r number node from body is other casts) casts,
    aside_news_true s r (recalled p s r (Delivers number)) (name_of node) (taken_at node from body).news
        (aside_frame node from body is.known other).0.news,
  )

  by_body : (body : Body) → IsDelivery p s number node from body → Kept body
  by_body (Cast cast level session depth word) is =
      cast_delivered p s r number node from cast level session depth word is sound.invariant.filled.hole_free casts
  by_body (CastAck session) is = ack_delivered p s r number node from session is casts
  by_body body is = aside body is tt

delivery_keeps : (p : SettingsValue) (s : System) (r : CastMemory) (number : ℕ) (frame : Frame) (node : NodeState) → Sound p s
    → CastsAreSound p s r → AmongFrames number frame s.frames → s.node frame.to ≡ Some node
    → CastsAreSound p (after_delivery p s number) (recalled p s r (Delivers number))
    × NewsAreTrue s r (recalled p s r (Delivers number)) frame.to (act node (Takes frame)).news
delivery_keeps p s r number frame node sound casts among at =
    let both = by_body p s r number node frame.from sound casts frame.body (is_delivery p s number frame node sound among at) in (
      both.0,
      subst (λ f. NewsAreTrue s r (recalled p s r (Delivers number)) f.to (act node (Takes f)).news)
          (sym (is_to_receiver p s number frame node sound among at)) both.1,
    )

-- ---- starts

abbrev AfterStart : SettingsValue → System → CastMemory → List ℕ → Start → Type 0
AfterStart p s r x start = CastsAreSound p (moved p s (Begins x start)) (recalled p s r (Begins x start))
    × ((node : NodeState) → starter p s x start ≡ Some node
    → NewsAreTrue s r (recalled p s r (Begins x start)) x (act node (Starts start)).news)

aside_starts : (p : SettingsValue) (s : System) (r : CastMemory) (x : List ℕ) (start : Start) → may_start p s x start → IsNoCast start
    → Sound p s → CastsAreSound p s r
    → ((node : NodeState) → starter p s x start ≡ Some node → IsAsideNews (act node (Starts start)).news) → AfterStart p s r x start
aside_starts p s r x start may other sound casts told = (
  aside_kept p s (moved p s (Begins x start)) r (recalled p s r (Begins x start))
      (start_is_aside p s r x start sound.invariant.basis may other casts) casts,
  λ node is. aside_news_true s r (recalled p s r (Begins x start)) x (act node (Starts start)).news (told node is),
)

start_keeps : (p : SettingsValue) (s : System) (r : CastMemory) (x : List ℕ) (start : Start) → may_start p s x start
    → IsNewCast r (Begins x start) → Sound p s → CastsAreSound p s r → AfterStart p s r x start
start_keeps p s r x (StartCast cast level word) may fresh sound casts =
    let both = cast_started p s r x cast level word sound.invariant.basis sound.nodes may fresh sound.invariant.filled.hole_free casts in (
      both.0,
      λ node is.
          let here = may.acts.is in
          let same : may.acts.state ≡ node = cc in
          subst (λ n. NewsAreTrue s r (recalled p s r (Begins x (StartCast cast level word))) x (act n (Starts (StartCast cast level word))).news)
          same both.1,
    )
start_keeps p s r x (Join via) may fresh sound casts =
    aside_starts p s r x (Join via) may tt sound casts (λ node is. (aside_start node (Join via) tt).0.news)
start_keeps p s r x Abandon may fresh sound casts =
    aside_starts p s r x Abandon may tt sound casts (λ node is. (aside_start node Abandon tt).0.news)
start_keeps p s r x (Publish object) may fresh sound casts =
    aside_starts p s r x (Publish object) may tt sound casts (λ node is. (aside_start node (Publish object) tt).0.news)
start_keeps p s r x (Withdraw object) may fresh sound casts =
    aside_starts p s r x (Withdraw object) may tt sound casts (λ node is. (aside_start node (Withdraw object) tt).0.news)
start_keeps p s r x (StartFind ticket object) may fresh sound casts =
    aside_starts p s r x (StartFind ticket object) may tt sound casts (λ node is. (aside_start node (StartFind ticket object) tt).0.news)
start_keeps p s r x StartLeave may fresh sound casts =
    aside_starts p s r x StartLeave may tt sound casts (λ node is.
    let here = may.acts.is in
    let same : may.acts.state ≡ node = cc in
    (leave_start node (subst (λ (n : NodeState). n.status ≡ Core) same may.acts.core)).0.news)

pub move_keeps_casts : MoveKeepsCasts
move_keeps_casts p s r (Begins x start) may fresh sound casts = (start_keeps p s r x start may fresh sound casts).0
move_keeps_casts p s r (Delivers number) may fresh sound casts =
    (delivery_keeps p s r number may.frame may.receiver.state sound casts may.among may.receiver.is).0

pub news_are_true : MoveNewsAreTrue
news_are_true p s r (Begins x start) y news may fresh sound casts is = by (starter p s x start) refl is
  where
    by : (found : Option NodeState) → starter p s x start ≡ found
        → option_map {U = List ℕ × News} (λ node. (x, (act node (Starts start)).news)) found ≡ Some (y, news)
        → NewsAreTrue s r (recalled p s r (Begins x start)) y news
    by None there told = cc
    by (Some node) there told =
        let same : ◌≡◌ {A = List ℕ × News} (x, (act node (Starts start)).news) (y, news) = cc in
        subst (λ (pair : List ℕ × News). NewsAreTrue s r (recalled p s r (Begins x start)) pair.0 pair.1) same
        ((start_keeps p s r x start may fresh sound casts).1 node there)
news_are_true p s r (Delivers number) y news may fresh sound casts is =
    let there = found number may.frame 0 s.frames s.next sound.invariant.basis.numbered.numbers may.among in
    let told : ◌≡◌ {A = Option (List ℕ × News)} (Some (may.frame.to, (act may.receiver.state (Takes may.frame)).news)) (Some (y, news)) =
    sym (ap (named_news_of_frame s) there
    ∙ ap (option_map {U = List ℕ × News} (λ node. (may.frame.to, (act node (Takes may.frame)).news))) may.receiver.is) ∙ is in
    let same : ◌≡◌ {A = List ℕ × News} (may.frame.to, (act may.receiver.state (Takes may.frame)).news) (y, news) = cc in
    subst (λ (pair : List ℕ × News). NewsAreTrue s r (recalled p s r (Delivers number)) pair.0 pair.1) same
    (delivery_keeps p s r number may.frame may.receiver.state sound casts may.among may.receiver.is).1

-- ---- members at rest

rest_session : (p : SettingsValue) (members : List (List ℕ)) (x : List ℕ) (state : NodeState) → member_of p members x ≡ Some state
    → (state.casts ≡ []) × ((k : ℕ) → join_session_at (seen_node state) k ≡ None)
rest_session p members x state is = by (has_name members x) refl
  where
    by : (member : Bool) → has_name members x ≡ member
        → (state.casts ≡ []) × ((k : ℕ) → join_session_at (seen_node state) k ≡ None)
    by true there =
        let here : Some (member_at_rest p members x) ≡ Some state = rw there at is in
        let same : member_at_rest p members x ≡ state = cc in
        subst (λ (n : NodeState). (n.casts ≡ []) × ((k : ℕ) → join_session_at (seen_node n) k ≡ None)) same (refl, λ k. refl)
    by false there = let here : ◌≡◌ {A = Option NodeState} None (Some state) = rw there at is in cc

pub casts_at_rest : CastsAtRest
casts_at_rest p members are = record {
  sessions = record {
    sessions = record {
      exact = record {
        frames = λ number f x k among belongs. absurd among;
        ways = λ x k number awaits. never awaits.is;
        parents = λ y l child x k is above. never is;
        roots = λ x y k l one two is there top bottom same. never is;
        numbers = λ number f g one two. absurd one;
      };
      awaited = record { children = λ x y k l awaits. never awaits.is; apart = λ x k session is. never is };
      await = record { some = λ x k session is none. never is };
      counted = record {
        kept = λ x k session state is at. never is;
        open_at = λ x k state kept at is.
            let found = unseen (member_of p members x) state at in
            let none = (rest_session p members x found.0 found.1).1 k in
            let wrong : ◌≡◌ {A = Option Session} None (Some kept) =
            sym none ∙ ap (λ n. join_session_at n k) (sym found.2) ∙ is in
            absurd (cc);
      };
      deeper = record {
        depth = λ from to fields watch session way is. never is;
        level = λ from to fields watch way. absurd way.among;
      };
      of_casts = record { frames = λ m f x k session b among belongs is of. absurd among };
    };
    places = λ x k session is. never is;
    ways = λ number from to cast level session depth word among. absurd among;
    ends = λ cast run is. never is;
  };
  kept = record {
    kept = λ x state cast level is keeps. no_level x state cast level is keeps;
    core = λ x state cast level is keeps. no_level x state cast level is keeps;
    reached = λ x state cast run is core started reached none. never started;
    caster = λ state cast run started is core. never started;
    itself = λ cast run started. never started;
    names = λ x cast run started reached. never started;
  };
  cover = record { served = λ x e cast level run claim. never claim.started };
  audience = record { each = λ cast run started. never started };
}
  where
    never : {A B : Type 0} {a : A} → ◌≡◌ {A = Option A} None (Some a) → B
    never wrong = absurd (cc)

    no_level : {B : Type 0} (x : List ℕ) (state : NodeState) (cast level : ℕ) → member_of p members x ≡ Some state
        → level_of_cast state.casts cast ≡ Some level → B
    no_level x state cast level is keeps =
        let none = (rest_session p members x state is).0 in
        let wrong : ◌≡◌ {A = Option ℕ} None (Some level) = ap (λ cs. level_of_cast cs cast) (sym none) ∙ keeps in
        absurd (cc)

-- ---- quiet, and runs

pub casts_quietly : CastsQuietly
casts_quietly p s r sound casts = casts_quiet p s r sound.invariant.basis casts.sessions

pub rest_closes : RestClosesCasts
rest_closes p s r casts rest = no_cast_goes_on p s r casts.sessions (rest_quiet s rest)

run_from : (p : SettingsValue) (s : System) (r : CastMemory) (moves : List Move) → Sound p s → CastsAreSound p s r → may_run p s moves
    → AreNewCasts p s r moves → CastsAreSound p (after_moves p s moves) (recalled_moves p s r moves)
run_from p s r [] sound casts may fresh = casts
run_from p s r (move ∷ moves) sound casts may fresh =
    run_from p (moved p s move) (recalled p s r move) moves (move_keeps p s move may.0 sound)
    (move_keeps_casts p s r move may.0 fresh.0 sound casts) may.1 fresh.1

pub run_casts : RunCastsAreSound
run_casts p members moves are may fresh =
    run_from p (system_at_rest p members) no_casts moves (sound_at_rest p members are) (casts_at_rest p members are) may fresh
