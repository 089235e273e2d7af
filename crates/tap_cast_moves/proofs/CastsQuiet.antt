-- While no Cast and no CastAck is under way no session of casts is open, and each cast is closed; so it is while a node departs.
use Rattle.std.proofs.Common.{◌≡◌, ℕ, zero, suc, ◌+◌, ◌<◌, Bool, true, false, List, [], ◌∷◌, Option, None, Some, arith, refl, ap, subst, ◌∙◌, inl}
use Rattle.tap_name.specs.Settings.{SettingsValue}
use Rattle.tap_wire.specs.declared.frame.Body.{Body}
use Rattle.tap_wire.specs.declared.frame.Body.TheVariants.{Cast, CastAck}
use Rattle.tap_wire.specs.declared.frame.Frame.{Frame}
use Rattle.tap_safety.specs.Invariant.{Basis}
use Rattle.tap_safety.specs.Remembered.{Leaver, OpenSession, Token}
use Rattle.tap_safety.specs.Remembered.Token.{Child, Way}
use Rattle.tap_safety.specs.Sessions.{Belongs}
use Rattle.tap_safety.specs.System.{System, AmongFrames}
use Rattle.tap_cast_moves.specs.Remembered.{CastMemory, CastRun}
use Rattle.tap_cast_moves.specs.SeenCasts.{seen_frame, seen_frames}
use Rattle.tap_cast_moves.specs.CastSessions.{CastSessions, CastsAreQuiet, NoCastGoesOn, NoCastWays}
use Rattle.tap_cast_moves.proofs.View.{seen_among}

module _ (p : SettingsValue) (s : System) (r : CastMemory) (sound : CastSessions p s r) (none : NoCastWays s) where
  -- no frame belongs to a session
  none_belongs : (m : ℕ) (g : Frame) (x : List ℕ) (k : ℕ) → AmongFrames m g (seen_frames s.frames) → Belongs g x k → ⊥
  none_belongs m g x k among belongs =
      let found = seen_among m g s.frames among in
      by found.frame.from found.frame.to found.frame.body found.among (subst (λ h. Belongs h x k) found.is belongs)
    where
      by : (from to : List ℕ) (body : Body) → AmongFrames m (record { from = from; to = to; body = body }) s.frames
          → Belongs (seen_frame (record { from = from; to = to; body = body })) x k → ⊥
      by from to (Cast cast level session depth word) there belongs =
          none.casts from to cast level session depth word (record { number = m; among = there })
      by from to (CastAck session) there belongs = none.acks from to session (record { number = m; among = there })
      by from to _ there belongs = cc

  -- an open session has a deeper one below it
  record HasDeeper (o : OpenSession) : Type 0 where
    at : List ℕ
    number : ℕ
    below : OpenSession
    is : r.session at number ≡ Some below
    deeper : below.depth ≡ o.depth + 1

  deeper : (x : List ℕ) (k : ℕ) (o : OpenSession) → r.session x k ≡ Some o → HasDeeper o
  deeper x k o is = by o.awaits refl
    where
      by : (tokens : List Token) → o.awaits ≡ tokens → HasDeeper o
      by [] nothing = absurd (sound.sessions.await.some x k o is nothing)
      by (Way m ∷ tokens) some =
          let has = sound.sessions.exact.ways x k m (record { session = o; is = is; among = rw some (inl refl) }) in
          absurd (none_belongs m has.frame x k has.among has.belongs)
      by (Child y l ∷ tokens) some =
          let child = sound.sessions.awaited.children x y k l (record { session = o; is = is; among = rw some (inl refl) }) in
          let up = sound.sessions.exact.parents y l child.child x k child.is child.parent in
          let open_up = up.is in
          let same : up.parent ≡ o = cc in
          record {
            at = y;
            number = l;
            below = child.child;
            is = child.is;
            deeper = up.depth ∙ ap (λ o. o.depth + 1) same;
          }

  none_above : (n : ℕ) (x : List ℕ) (k : ℕ) (o : OpenSession) → r.session x k ≡ Some o → p.digits < o.depth + n → ⊥
  none_above zero x k o is above = let most = (sound.places x k o is).shallow in omega (arith, most, above)
  none_above (suc n) x k o is above =
      let next = deeper x k o is in
      let more = next.deeper in
      none_above n next.at next.number next.below next.is (omega (arith, more, above))

  pub no_session : (x : List ℕ) (k : ℕ) (o : OpenSession) → r.session x k ≡ Some o → ⊥
  no_session x k o is = none_above (p.digits + 1) x k o is (omega arith)

  pub no_cast_goes_on : NoCastGoesOn r
  no_cast_goes_on = record {
    sessions = λ x k. by_session x k (r.session x k) refl;
    closed = λ cast run started. by_closed cast run started run.closed refl;
  }
    where
      by_session : (x : List ℕ) (k : ℕ) (o : Option OpenSession) → r.session x k ≡ o → r.session x k ≡ None
      by_session x k None is = is
      by_session x k (Some o) is = absurd (no_session x k o is)

      by_closed : (cast : ℕ) (run : CastRun) → r.cast cast ≡ Some run → (closed : Bool) → run.closed ≡ closed → run.closed ≡ true
      by_closed cast run started true is = is
      by_closed cast run started false is =
          let root = (sound.ends cast run started).open_root is in absurd (no_session root.at root.number root.session root.is)

-- no Cast is under way while a node departs
departing_quiet : (p : SettingsValue) (s : System) (leaver : Leaver) → Basis p s → s.departing ≡ Some leaver → NoCastWays s
departing_quiet p s leaver basis departs =
    let during = basis.departure.during leaver departs in
    record {
      casts = λ from to cast level session depth word way. during.frames from to (Cast cast level session depth word) way;
      acks = λ from to session way. during.frames from to (CastAck session) way;
    }

pub rest_quiet : (s : System) → s.frames ≡ [] → NoCastWays s
rest_quiet s rest = record {
  casts = λ from to cast level session depth word way. let among = way.among in rw rest at among;
  acks = λ from to session way. let among = way.among in rw rest at among;
}

pub casts_quiet : (p : SettingsValue) (s : System) (r : CastMemory) → Basis p s → CastSessions p s r → CastsAreQuiet s r
casts_quiet p s r basis sound = record {
  ways = λ leaver departs. departing_quiet p s leaver basis departs;
  goes_on = λ leaver departs. no_cast_goes_on p s r sound (departing_quiet p s leaver basis departs);
}
