-- The Leave of a node at one of its holders: the holder marks its link, has its slot filled by another, and answers.
use Rattle.std.proofs.Common.{◌≡◌, ◌≢◌, inl, inr, ℕ, ◌+◌, ◌<◌, true, List, [], ◌∷◌, ◌++◌, ◌⊎◌, Option, None, Some, length, map, refl, sym, ap, subst, ◌∙◌}
use Rattle.tap_name.specs.Names.{Among}
use Rattle.tap_name.specs.Prefix.{lcp}
use Rattle.tap_link.specs.declared.kind.Kind.{Kind}
use Rattle.tap_link.specs.declared.kind.Kind.TheVariants.{Pin, Settled, Leaving as LeavingKind}
use Rattle.tap_table.specs.declared.tie.Tie.{Tie}
use Rattle.tap_pointer.specs.declared.lay.Lay as lay
use Rattle.tap_wire.specs.declared.frame.Body.{Body}
use Rattle.tap_wire.specs.declared.frame.Body.TheVariants.{Forget, Gone, Lay, Leave, Left, Link, Release}
use Rattle.tap_wire.specs.declared.frame.Frame.{Frame}
use Rattle.tap_rule.specs.Node.{NodeState, link_to, name_of}
use Rattle.tap_rule.specs.Node.Status.{Ceased as CeasedStatus, Core, Gone as GoneStatus, Leaving}
use Rattle.tap_rule.specs.Reaction.{Message, message}
use Rattle.tap_rule.specs.Sending.{by_receiver, lay_frame, link_frame}
use Rattle.tap_rule.specs.Sent.{AreSent, AreSentInOrder, IsAmong}
use Rattle.tap_rule.proofs.Among.{among-map_from}
use Rattle.tap_safety.specs.Bookkeeping.{HaveEnds}
use Rattle.tap_safety.specs.Remembered.{Leaver}
use Rattle.tap_safety.specs.System.{System, AmongFrames, HasLink, IsCoreNode, IsUnderWay}
use Rattle.tap_safety.specs.Departing.{Departs, Departure, FitsSlot, HasOther, HasReplaced, WhileDeparting, WhileLeaving, may_be_then}
use Rattle.tap_safety.specs.FrameSteps.{TakesFrame}
use Rattle.tap_safety.specs.Notices.{HasAnswered, HasOneNotice, IsAwaiting, IsBetween, Notices, UntilRest}
use Rattle.tap_safety.specs.Soft.{NamesSoft}
use Rattle.tap_safety.specs.Exchanges.{AreNumbered, IsSent, numbered_from}
use Rattle.tap_safety.specs.Ties.{status_of}
use Rattle.tap_safety.proofs.Exchanged.{exchanged}
use Rattle.tap_safety.proofs.LinkKeeps.{status_seen}
use Rattle.tap_safety.proofs.NoticesKept.{gone_leaver_stays}
use Rattle.tap_safety.proofs.TellKeeps.{node_before}
use Rattle.tap_safety.proofs.UnderWay.{among_sent, among_there, was_under_way}
use Rattle.tap_safety.proofs.WordsKept.{at_link, link_at}
use Rattle.tap_moves.proofs.Got.{same_name}
use Rattle.tap_moves.specs.DepartingMoves.{DepartsInOrder}
use Rattle.tap_moves.proofs.Alike.{HaveAnswered, awaiting_leaves, awaits_on, awaits_was, core_on, core_was, fits_on, leaver_stays, link_apart, one_kind, one_status, other_was, over_at_rest, replaced_on, status_same}
use Rattle.tap_moves.proofs.LeaveMade.{HeedsLeave}
use Rattle.tap_moves.proofs.OneFrame.{only_after, sent_after}
use Rattle.tap_name.specs.Settings.{SettingsValue}
use Rattle.tap_safety.specs.Bookkeeping.{EndedHaveNoLinks, HasCore}
use Rattle.tap_safety.specs.Frames.{hello_body}
use Rattle.tap_safety.specs.Parts.{HoleFree}
use Rattle.tap_moves.specs.PartMoves.{HaveTables}
use Rattle.tap_moves.proofs.NobodyJoins.{filled_now, holes_stay}
use Rattle.tap_safety.specs.Regions.{Has}

-- A Leave of n at x: x stays what it is, with whom it awaits; its links are as the Leave has them; and it sends its word for the
-- replacement, a Left to n, and Lays.
pub record TakesLeave (s s' : System) (number : ℕ) (n x : List ℕ) (replacement : Option (List ℕ)) : Type 0 where
  pub step : TakesFrame s s' number (record { from = n; to = x; body = Leave replacement })
  pub name : name_of step.before ≡ x
  pub awaited : step.after.awaited ≡ step.before.awaited
  pub heeds : HeedsLeave step.before step.after n replacement step.words
  pub lays : List lay.Lay
  pub are : AreSent x step.words (message n Left ∷ []) step.sent
  pub in_order : AreSentInOrder x step.words (message n Left ∷ []) lays step.sent

-- what x sends then: a word for the replacement, a Left to n, or a Lay
abbrev IsAnswer : List ℕ → List ℕ → Option (List ℕ) → List ℕ → List ℕ → Body → Type 0
IsAnswer n x replacement from to (Link version on) = (from ≡ x) × (replacement ≡ Some to)
IsAnswer n x replacement from to Left = (from ≡ x) × (to ≡ n)
IsAnswer n x replacement from to (Lay object server level version on) = Unit {0}
IsAnswer n x replacement from to _ = ⊥

-- such a frame may be under way while a node departs
answer_may_be : (n x : List ℕ) (replacement : Option (List ℕ)) (from to : List ℕ) (body : Body) → IsAnswer n x replacement from to body
    → may_be_then body
answer_may_be n x replacement from to (Link version on) answer = tt
answer_may_be n x replacement from to Left answer = tt
answer_may_be n x replacement from to (Lay object server level version on) answer = tt
answer_may_be n x replacement from to _ answer = absurd answer

-- neither a word nor a Lay is a notice
word_no_notice : (y a x : List ℕ) (word : Tie) (f : Frame) → IsBetween y a f → f ≡ link_frame x word → ⊥
word_no_notice y a x word f (inl leave) is =
    let wrong : Leave leave.0 ≡ Link word.version word.on = ap (λ (g : Frame). g.body) (sym leave.1 ∙ is) in cc
word_no_notice y a x word f (inr left) is =
    let wrong : Left ≡ Link word.version word.on = ap (λ (g : Frame). g.body) (sym left ∙ is) in cc

pub lay_no_notice : (y a x : List ℕ) (l : lay.Lay) (f : Frame) → IsBetween y a f → f ≡ lay_frame x l → ⊥
lay_no_notice y a x l f (inl leave) is =
    let wrong : Leave leave.0 ≡ (lay_frame x l).body = ap (λ (g : Frame). g.body) (sym leave.1 ∙ is) in cc
lay_no_notice y a x l f (inr left) is = let wrong : Left ≡ (lay_frame x l).body = ap (λ (g : Frame). g.body) (sym left ∙ is) in cc

module _ (s s' : System) (number : ℕ) (n x : List ℕ) (replacement : Option (List ℕ)) (takes : TakesLeave s s' number n x replacement)
    (rest : UntilRest s s') (leaver : Leaver) (departs : Departs s leaver) (departure : Departure s) (notices : Notices s)
    (soft : NamesSoft s) (numbers : AreNumbered s) (ends : HaveEnds s) where
  abbrev frame : Frame
  frame = record { from = n; to = x; body = Leave replacement }

  abbrev step : TakesFrame s s' number frame
  step = takes.step

  before : WhileDeparting s leaver
  before = departure.during leaver departs

  among : AmongFrames number frame s.frames
  among = rw step.taken.before (among_there number frame step.taken.front step.taken.back)

  way : IsUnderWay s n x (Leave replacement)
  way = record { number = number; among = among }

  awaiting : IsAwaiting s n x
  awaiting = notices.leaves n x replacement way

  n_leaves : status_of s n ≡ Some Leaving
  n_leaves = awaiting_leaves s n x awaiting

  is_leaver : n ≡ leaver.name
  is_leaver = (before.leaves n x replacement way).0

  settled : HasLink s x n Settled
  settled = (before.leaves n x replacement way).1

  fits : FitsSlot s x n replacement
  fits = (before.leaves n x replacement way).2

  apart : x ≢ n
  apart same = ends.apart number frame among (sym same)

  same : (y : List ℕ) → status_of s' y ≡ status_of s y
  same = status_same s s' x step.before step.after step.at step.stays.status

  others : (a m : List ℕ) → HasOther s' a m → HasOther s a m
  others = other_was s s' x step.before step.after step.at step.stays.status

  -- ---- what is under way

  sent_so : (y t : List ℕ) (body : Body) → IsSent step.sent y t body → IsAnswer n x replacement y t body
  sent_so y t body sends =
      elim (takes.are.each (record { from = y; to = t; body = body }) sends) [
        | inl link ↦
            subst (λ (f : Frame). IsAnswer n x replacement f.from f.to f.body) (sym link.is)
            (refl, (takes.heeds.told link.word link.among).given)
        | inr (inl named) ↦
            subst (λ (f : Frame). IsAnswer n x replacement f.from f.to f.body) (sym named.is) (left_so named.message named.among)
        | inr (inr lay) ↦ subst (λ (f : Frame). IsAnswer n x replacement f.from f.to f.body) (sym lay.is) tt
      ]
    where
      left_so : (m : Message) → IsAmong m (message n Left ∷ []) → IsAnswer n x replacement x m.to m.body
      left_so m (inl is) = subst (λ (k : Message). IsAnswer n x replacement x k.to k.body) (sym is) (refl, refl)
      left_so m (inr never) = absurd never

  was_or_sent : (y t : List ℕ) (body : Body) → IsUnderWay s' y t body → IsUnderWay s y t body ⊎ IsAnswer n x replacement y t body
  was_or_sent y t body now =
      elim (was_under_way s s' number frame step.sent step.taken y t body now) [
        | inl old ↦ inl old
        | inr sends ↦ inr (sent_so y t body sends)
      ]

  way_was : (y t : List ℕ) (body : Body) → (IsAnswer n x replacement y t body → ⊥) → IsUnderWay s' y t body → IsUnderWay s y t body
  way_was y t body other now = elim (was_or_sent y t body now) [ inl old ↦ old | inr new ↦ absurd (other new) ]

  -- the one notice between n and x was the Leave that is taken
  was_one : (m : ℕ) (f : Frame) → IsBetween n x f → AmongFrames m f s.frames → m ≡ number
  was_one m f between old =
      let one = notices.one n x awaiting in
      one.only m f old between ∙ sym (one.only number frame among (inl (replacement, refl)))

  is_gone : (f : Frame) → AmongFrames number f s'.frames → ⊥
  is_gone = (exchanged s s' number frame step.sent step.taken numbers).gone

  still : (m : ℕ) (f : Frame) → AmongFrames m f s.frames → (m ≡ number) ⊎ AmongFrames m f s'.frames
  still = (exchanged s s' number frame step.sent step.taken numbers).still

  was : (m : ℕ) (f : Frame) → AmongFrames m f s'.frames → AmongFrames m f s.frames ⊎ AmongFrames m f (numbered_from s.next step.sent)
  was = (exchanged s s' number frame step.sent step.taken numbers).was

  no_leave : (r : Option (List ℕ)) → IsUnderWay s' n x (Leave r) → ⊥
  no_leave r now =
      let f : Frame = record { from = n; to = x; body = Leave r } in
      elim (was now.number f now.among) [
        | inl old ↦ is_gone f (subst (λ m. AmongFrames m f s'.frames) (was_one now.number f (inl (r, refl)) old) now.among)
        | inr new ↦ sent_so n x (Leave r) (among_sent s.next step.sent now.number f new)
      ]

  -- ---- links

  now_at : s'.node x ≡ Some step.after
  now_at = step.at.is

  marked_now : HasLink s' x n LeavingKind
  marked_now = record { state = step.after; is = now_at; link = takes.heeds.marked }

  not_marked : (a : List ℕ) → a ≡ x → HasLink s a n LeavingKind → ⊥
  not_marked a here marked =
      let wrong = one_kind s x n LeavingKind Settled (subst (λ y. HasLink s y n LeavingKind) here marked) settled in cc

  link_on : (y t : List ℕ) (kind : Kind) → HasLink s y t kind → ((y ≡ x) × (t ≡ n)) ⊎ HasLink s' y t kind
  link_on y t kind link =
      elim (link_apart s s' x step.before step.after step.at y t) [
        | inr stays ↦ inr (at_link s' y t kind (stays ∙ link_at s y t kind link))
        | inl here ↦ elim (same_name t n) [
          | inl gone ↦ inl (here, gone)
          | inr other ↦
              let was : s.node x ≡ Some link.state = ap s.node (sym here) ∙ link.is in
              let at = step.at.was in
              let state : step.before ≡ link.state = cc in
              let had : link_to step.before t ≡ Some kind = ap (λ (m : NodeState). link_to m t) state ∙ link.link in
              inr (record { state = step.after; is = ap s'.node here ∙ now_at; link = takes.heeds.stay t kind other had })
        ]
      ]

  -- a link that is new is the marked one to n, or a settled one to the replacement
  abbrev IsNew : List ℕ → List ℕ → Kind → Type 0
  IsNew y t kind = (y ≡ x) × (((t ≡ n) × (kind ≡ LeavingKind)) ⊎ ((replacement ≡ Some t) × (kind ≡ Settled)))

  new_here : (y t : List ℕ) (kind : Kind) → y ≡ x → s.node y ≡ Some step.before → link_to step.after t ≡ Some kind
      → HasLink s y t kind ⊎ IsNew y t kind
  new_here y t kind here at now =
      elim (same_name t n) [
        | inl gone ↦
            let same : Some LeavingKind ≡ Some kind = sym takes.heeds.marked ∙ ap (link_to step.after) (sym gone) ∙ now in
            inr (here, inl (gone, cc))
        | inr other ↦ elim (takes.heeds.new t kind other now) [
          | inl had ↦ inl (record { state = step.before; is = at; link = had })
          | inr new ↦ inr (here, inr new)
        ]
      ]

  link_was : (y t : List ℕ) (kind : Kind) → HasLink s' y t kind → HasLink s y t kind ⊎ IsNew y t kind
  link_was y t kind link =
      elim (node_before s s' x step.before step.after step.at y link.state link.is) [
        | inr there ↦ inl (record { state = link.state; is = there; link = link.link })
        | inl here ↦ new_here y t kind here.0 here.2 (ap (λ (m : NodeState). link_to m t) (sym here.1) ∙ link.link)
      ]

  -- ---- slots

  still_replaced : (a : List ℕ) → HasReplaced s a n → HasReplaced s' a n
  still_replaced a replaced =
      replaced_on s s' a n (others a n) (stays_there a LeavingKind n replaced replaced.marked) (λ to link. stays_there a Settled to replaced link)
      replaced
    where
      -- a node whose link to n is marked isn't x
      stays_there : (a : List ℕ) (kind : Kind) (t : List ℕ) → HasReplaced s a n → HasLink s a t kind → HasLink s' a t kind
      stays_there a kind t replaced link =
          elim (link_on a t kind link) [ inl both ↦ absurd (not_marked a both.0 replaced.marked) | inr stays ↦ stays ]

  filled_here : (given : Option (List ℕ)) → replacement ≡ given → HasOther s' x n
      → (to : List ℕ) × HasLink s' x to Settled × (lcp x n < lcp n to)
  filled_here None none other = absurd (subst (FitsSlot s x n) none fits (others x n other))
  filled_here (Some r) given other =
      let near = takes.heeds.filled r given in (
        near.to,
        record { state = step.after; is = now_at; link = near.settled },
        subst (λ own. lcp own n < lcp n near.to) takes.name near.near,
      )

  replaced_now : HasReplaced s' x n
  replaced_now = record { marked = marked_now; filled = filled_here replacement refl }

  -- ---- the leaver

  leaver_goes_on : (state : NodeState) → s'.node leaver.name ≡ Some state → state.status ≡ Leaving → WhileLeaving s' leaver state
  leaver_goes_on state is leaving =
      let not_here : leaver.name ≢ x = λ here. apart (sym here ∙ sym is_leaver) in
      let at : s.node leaver.name ≡ Some state = elim (step.at.others leaver.name) [
        | inl here ↦ absurd (not_here here)
        | inr same ↦ sym same ∙ is
      ] in
      let was = before.goes state at leaving in
      record {
        some = was.some;
        holders = was.holders;
        links = was.links;
        settled = was.settled;
        linked = λ y kind link. elim (link_was y leaver.name kind link) [
          | inl old ↦ was.linked y kind old
          | inr new ↦
              subst (λ a. Among a leaver.holders) (sym new.0)
              (was.linked x Settled (subst (λ m. HasLink s x m Settled) is_leaver settled))
        ];
      }

  -- ---- while it goes on

  not_pin : (y t : List ℕ) → IsNew y t Pin → ⊥
  not_pin y t new = elim new.1 [ inl marked ↦ (let wrong = marked.1 in cc) | inr settled ↦ (let wrong = settled.1 in cc) ]

  new_marked : (y t : List ℕ) → IsNew y t LeavingKind → t ≡ leaver.name
  new_marked y t new = elim new.1 [ inl marked ↦ marked.0 ∙ is_leaver | inr settled ↦ (let wrong = settled.1 in cc) ]

  -- the replacement isn't the leaver
  given_apart : (t : List ℕ) → replacement ≡ Some t → t ≡ leaver.name → ⊥
  given_apart t given here = (subst (FitsSlot s x n) given fits).0 (here ∙ sym is_leaver)

  -- who is still to take its Leave has its link as it was
  link_waits : (y a : List ℕ) (r : Option (List ℕ)) → IsUnderWay s' y a (Leave r) → HasLink s a y Settled → HasLink s' a y Settled
  link_waits y a r now link =
      elim (link_on a y Settled link) [
        | inr stays ↦ stays
        | inl both ↦
            let from_n = subst (λ f. IsUnderWay s' f a (Leave r)) both.1 now in
            absurd (no_leave r (subst (λ t. IsUnderWay s' n t (Leave r)) both.0 from_n))
      ]

  pub still_departing : WhileDeparting s' leaver
  still_departing = record {
    joining = λ y joining. before.joining y (sym (same y) ∙ joining);
    pins = λ y t pin. elim (link_was y t Pin pin) [ inl old ↦ before.pins y t old | inr new ↦ not_pin y t new ];
    marked = λ y t marked. elim (link_was y t LeavingKind marked) [ inl old ↦ before.marked y t old | inr new ↦ new_marked y t new ];
    leaving = λ y leaving. before.leaving y (sym (same y) ∙ leaving);
    frames = λ y t body now. elim (was_or_sent y t body now) [
      | inl old ↦ before.frames y t body old
      | inr new ↦ answer_may_be n x replacement y t body new
    ];
    ends = inl (same leaver.name ∙ ap (status_of s) (sym is_leaver) ∙ n_leaves);
    goes = leaver_goes_on;
    gone = λ gone y kind link.
        let leaves = same leaver.name ∙ ap (status_of s) (sym is_leaver) ∙ n_leaves in
        let wrong = one_status s' leaver.name GoneStatus Leaving gone leaves in cc;
    leaves = λ y a r now.
        let so = before.leaves y a r (way_was y a (Leave r) (λ never. never) now) in
        (so.0, link_waits y a r now so.1, fits_on s s' a y r (others a y) so.2);
    lefts = λ a y now. elim (was_or_sent a y Left now) [
      | inl old ↦
          let so = before.lefts a y old in
          let to_n : y ≡ n = so.0 ∙ sym is_leaver in
          (so.0, subst (HasReplaced s' a) (sym to_n) (still_replaced a (subst (HasReplaced s a) to_n so.1)))
      | inr new ↦
          (new.1 ∙ is_leaver, subst (λ m. HasReplaced s' a m) (sym new.1) (subst (λ b. HasReplaced s' b n) (sym new.0) replaced_now))
    ];
    quiet = λ y t version now. elim (was_or_sent y t (Link version true) now) [
      | inl old ↦ before.quiet y t version old
      | inr new ↦ (given_apart t new.1, λ here. apart (sym new.0 ∙ here ∙ sym is_leaver))
    ];
    releases = λ y t now. before.releases y t (way_was y t Release (λ never. never) now);
    forgets = λ y t now. before.forgets y t (way_was y t Forget (λ never. never) now);
  }

  -- ---- the Left that is sent

  abbrev left_frame : Frame
  left_frame = record { from = x; to = n; body = Left }

  abbrev links_sent : List Frame
  links_sent = map (link_frame x) (by_receiver step.words)

  abbrev lays_sent : List Frame
  lays_sent = map (lay_frame x) takes.lays

  sent_is : step.sent ≡ links_sent ++ left_frame ∷ lays_sent
  sent_is = takes.in_order.all

  left_among : AmongFrames (s.next + length links_sent) left_frame s'.frames
  left_among =
      (exchanged s s' number frame step.sent step.taken numbers).sends (s.next + length links_sent) left_frame
      (subst (λ sent. AmongFrames (s.next + length links_sent) left_frame (numbered_from s.next sent)) (sym sent_is)
      (sent_after s.next links_sent left_frame lays_sent))

  only_left : (m : ℕ) (f : Frame) → AmongFrames m f s'.frames → IsBetween n x f → m ≡ s.next + length links_sent
  only_left m f now between =
      elim (was m f now) [
        | inl old ↦ absurd (is_gone f (subst (λ k. AmongFrames k f s'.frames) (was_one m f between old) now))
        | inr new ↦
            only_after (IsBetween n x) s.next links_sent left_frame lays_sent
            (λ g front so.
            let found = among-map_from (link_frame x) g (by_receiver step.words) front in word_no_notice n x x found.0 g so found.2)
            (λ g back so. let found = among-map_from (lay_frame x) g takes.lays back in lay_no_notice n x x found.0 g so found.2) m f
            (subst (λ sent. AmongFrames m f (numbered_from s.next sent)) sent_is new) between
      ]

  goes_on : s'.departing ≡ None → ⊥
  goes_on over =
      let left : AmongFrames (s.next + length links_sent) left_frame [] =
      subst (AmongFrames (s.next + length links_sent) left_frame) (over_at_rest s s' rest leaver departs over) left_among in left

  -- ---- notices

  on : (y a : List ℕ) → IsAwaiting s y a → IsAwaiting s' y a
  on = awaits_on s s' x step.before step.after step.at step.stays.status takes.awaited

  one_here : HasOneNotice s' n x
  one_here = record {
    number = s.next + length links_sent;
    frame = left_frame;
    among = left_among;
    between = inr refl;
    only = λ m f now between. only_left m f now between;
  }

  -- of another holder the notice stays
  one_there : (y a : List ℕ) → a ≢ x → HasOneNotice s y a → HasOneNotice s' y a
  one_there y a other one = record {
    number = one.number;
    frame = one.frame;
    among = elim (still one.number one.frame one.among) [
      | inr stays ↦ stays
      | inl taken ↦
          let mine = subst (λ m. AmongFrames m one.frame s.frames) taken one.among in
          let is = (exchanged s s' number frame step.sent step.taken numbers).was_one number one.frame frame mine among in
          absurd (taken_apart one.frame one.between is)
    ];
    between = one.between;
    only = λ m f now between. elim (was m f now) [
      | inl old ↦ one.only m f old between
      | inr new ↦ absurd (sent_apart f between (sent_so f.from f.to f.body (among_sent s.next step.sent m f new)))
    ];
  }
    where
      taken_apart : (f : Frame) → IsBetween y a f → f ≡ frame → ⊥
      taken_apart f (inl leave) is = other (ap (λ (g : Frame). g.to) (sym leave.1 ∙ is))
      taken_apart f (inr left) is = let wrong : Left ≡ Leave replacement = ap (λ (g : Frame). g.body) (sym left ∙ is) in cc

      sent_apart : (f : Frame) → IsBetween y a f → IsAnswer n x replacement f.from f.to f.body → ⊥
      sent_apart f (inl leave) answer =
          let never : ⊥ = subst (λ (g : Frame). IsAnswer n x replacement g.from g.to g.body) leave.1 answer in never
      sent_apart f (inr left) answer =
          let from : (a ≡ x) × (y ≡ n) = subst (λ (g : Frame). IsAnswer n x replacement g.from g.to g.body) left answer in
          other from.0

  one_each : (y a : List ℕ) → IsAwaiting s' y a → HasOneNotice s' y a
  one_each y a now =
      let old = awaits_was s s' x step.before step.after step.at step.stays.status takes.awaited y a now in
      let leaves : y ≡ n = before.leaving y (awaiting_leaves s y a old) ∙ sym is_leaver in
      elim (same_name a x) [
        | inl here ↦ subst (λ m. HasOneNotice s' m a) (sym leaves) (subst (HasOneNotice s' n) (sym here) one_here)
        | inr other ↦ one_there y a other (notices.one y a old)
      ]

  -- who has answered has its slot filled yet, since the leaver isn't gone
  answered_on : (a : List ℕ) → HasAnswered s a leaver.name → HasAnswered s' a leaver.name
  answered_on a (inl replaced) =
      inl (subst (HasReplaced s' a) is_leaver (still_replaced a (subst (HasReplaced s a) (sym is_leaver) replaced)))
  answered_on a (inr unlinked) =
      let wrong = one_status s leaver.name GoneStatus Leaving unlinked.1 (ap (status_of s) (sym is_leaver) ∙ n_leaves) in cc

  answered : HaveAnswered s' leaver
  answered a holds none =
      answered_on a (notices.answered leaver a departs holds (λ awaits. none (on leaver.name a awaits)))

  -- the replacement is core, and doesn't leave
  given_hears : (t : List ℕ) → replacement ≡ Some t → (status_of s' t ≡ Some Leaving → ⊥) × (status_of s' t ≡ Some CeasedStatus → ⊥)
  given_hears t given =
      let core = soft.leaves n x t (subst (λ r. IsUnderWay s n x (Leave r)) given way) in
      let other : status_of s t ≡ Some Leaving → ⊥ = λ leaving. given_apart t given (before.leaving t leaving) in (
        λ leaving. other (sym (same t) ∙ leaving),
        λ ceased. elim core.core [
          | inl at ↦
              let now = same t ∙ status_seen s t core.state Core core.is at in
              let wrong = one_status s' t CeasedStatus Core ceased now in cc
          | inr at ↦ other (status_seen s t core.state Leaving core.is at)
        ],
      )

  same_leaver : (other : Leaver) → Departs s' other → leaver ≡ other
  same_leaver = leaver_stays s s' rest leaver departs

  pub leave_in_order : DepartsInOrder s'
  leave_in_order = record {
    departure = record {
      during = λ other departs'. subst (WhileDeparting s') (same_leaver other departs') still_departing;
      marked = λ y t over link. goes_on over;
      leaving = λ y over leaving. goes_on over;
    };
    notices = record {
      none = λ y t body over now notice. goes_on over;
      leaves = λ y a r now. on y a (notices.leaves y a r (way_was y a (Leave r) (λ never. never) now));
      lefts = λ a y now. elim (was_or_sent a y Left now) [
        | inl old ↦ on y a (notices.lefts a y old)
        | inr new ↦ on y a (subst (λ m. IsAwaiting s m a) (sym new.1) (subst (IsAwaiting s n) (sym new.0) awaiting))
      ];
      one = one_each;
      gones = λ y t now. gone_leaver_stays s s' rest same y t now (notices.gones y t (way_was y t Gone (λ never. never) now));
      answered = λ other a departs' mine none. subst (HaveAnswered s') (same_leaver other departs') answered a mine none;
      words = λ other y t version departs' now. elim (was_or_sent y t (Link version true) now) [
        | inl old ↦
            let so = notices.words leaver y t version departs old in
            (λ leaving. so.0 (sym (same t) ∙ leaving), λ ceased. so.1 (sym (same t) ∙ ceased))
        | inr new ↦ given_hears t new.1
      ];
    };
  }

  -- ---- tables

  on_core : (y : List ℕ) → IsCoreNode s y → IsCoreNode s' y
  on_core = core_on s s' x step.before step.after step.at step.stays.status

  -- a link stays, of another kind perhaps
  has_yet : (y t : List ℕ) (kind : Kind) → HasLink s y t kind → Has s' y t
  has_yet y t kind link =
      elim (link_on y t kind link) [
        | inr stays ↦ record { kind = kind; link = stays }
        | inl both ↦
            let at_x = subst (λ m. HasLink s' x m LeavingKind) (sym both.1) marked_now in
            record { kind = LeavingKind; link = subst (λ z. HasLink s' z t LeavingKind) (sym both.0) at_x }
      ]

  leave_soft : NamesSoft s'
  leave_soft = record {
    settled = λ y t link. elim (link_was y t Settled link) [
      | inl old ↦ on_core t (soft.settled y t old)
      | inr new ↦ elim new.1 [
        | inl marked ↦ (let wrong = marked.1 in cc)
        | inr given ↦ on_core t (soft.leaves n x t (subst (λ r. IsUnderWay s n x (Leave r)) given.0 way))
      ]
    ];
    pins = λ y t pin. absurd (still_departing.pins y t pin);
    hellos = λ w b hello now. absurd (still_departing.frames w b (hello_body hello) now);
    releases = λ t y now. on_core t (soft.releases t y (way_was t y Release (λ never. never) now));
    leaves = λ m y r now. on_core r (soft.leaves m y r (way_was m y (Leave (Some r)) (λ never. never) now));
  }

  pub leave_tables : (p : SettingsValue) → HoleFree p s → HasCore s → EndedHaveNoLinks s → HaveTables p s'
  leave_tables p holes has ended = record {
    filled = filled_now p s' leaver still_departing
        (holes_stay p s s' (core_was s s' x step.before step.after step.at step.stays.status) on_core
        (λ y t kind core link. has_yet y t kind link) holes);
    soft = leave_soft;
    has_core = record { name = has.name; core = on_core has.name has.core };
    ended = record { none = runs };
  }
    where
      runs : (y t : List ℕ) (kind : Kind) → HasLink s' y t kind
          → (status_of s' y ≡ Some GoneStatus → ⊥) × (status_of s' y ≡ Some CeasedStatus → ⊥)
      runs y t kind link =
          elim (link_was y t kind link) [
            | inl old ↦
                let was = ended.none y t kind old in
                (λ gone. was.0 (sym (same y) ∙ gone), λ ceased. was.1 (sym (same y) ∙ ceased))
            | inr new ↦
                let was = ended.none x n Settled settled in
                let there = same y ∙ ap (status_of s) new.0 in
                (λ gone. was.0 (sym there ∙ gone), λ ceased. was.1 (sym there ∙ ceased))
          ]
