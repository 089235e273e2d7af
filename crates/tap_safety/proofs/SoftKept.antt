-- Who is named stays core or soft, if the links that are new and the messages that are sent are sound.
-- Cited above: forget_links, frame_softs, hello_links, joining_links, not_new, one_sound, only_message, release_links, sent_each, soft_kept
use Rattle.std.proofs.Common.{◌≡◌, inl, inr, ℕ, Bool, true, false, List, [], ◌∷◌, ◌⊎◌, None, Some, refl, sym, ap, ◌∙◌}
use Rattle.std.proofs.lemmas.Bool.{true≢false}
use Rattle.tap_name.specs.declared.slot.Offered.{Offered}
use Rattle.tap_name.specs.declared.slot.Slot.{Slot}
use Rattle.tap_link.specs.declared.kind.Kind.{Kind}
use Rattle.tap_link.specs.declared.kind.Kind.TheVariants.{Pin, Settled}
use Rattle.tap_table.specs.declared.tie.Tie.{Tie}
use Rattle.tap_wire.specs.declared.frame.Body.{Body}
use Rattle.tap_wire.specs.declared.frame.Body.TheVariants.{Ack, Forget, Heard, Lay, Leave, Link, Release}
use Rattle.tap_wire.specs.declared.frame.Frame.{Frame}
use Rattle.tap_wire.specs.declared.frame.TellFields.{TellFields}
use Rattle.tap_rule.specs.Node.{NodeState, link_to}
use Rattle.tap_rule.specs.Reaction.{Message, message}
use Rattle.tap_rule.specs.Sending.{lay_frame, link_frame, message_frame}
use Rattle.tap_rule.specs.Sent.{AreSent, IsAmong}
use Rattle.tap_rule.specs.Hellos.{joining_hello}
use Rattle.tap_safety.specs.Frames.{HelloFields, hello_body, tell_body}
use Rattle.tap_safety.specs.System.{System, HasLink, IsCoreNode, IsJoiner, IsUnderWay}
use Rattle.tap_safety.specs.Exchanges.{IsSent}
use Rattle.tap_safety.specs.Soft.{AddsSoundLinks, AreSound, IsSoft, IsSoundBody, IsSoundLink, IsSoundOffer, NamesSoft}
use Rattle.tap_safety.specs.FrameSteps.{LinksStay, TakesForget, TakesFrame, TakesHello, TakesPlainly, TakesRelease, TakesTellCeased, TakesTellJoining, kind_offered}
use Rattle.tap_safety.proofs.FrameKeeps.{frame_cores}
use Rattle.tap_safety.proofs.LinkKeeps.{release_core}
use Rattle.tap_safety.proofs.TellKeeps.{node_after, node_before}
use Rattle.tap_safety.proofs.UnderWay.{taken_under_way, was_under_way}

-- what is so of words of links, of Lays and of each message is so of all that is sent
pub sent_each : (x : List ℕ) (words : List Tie) (messages : List Message) (sent : List Frame) → AreSent x words messages sent
    → (P : List ℕ → List ℕ → Body → Type 0) → ((to : List ℕ) (version : ℕ) (on : Bool) → P x to (Link version on))
    → ((to object server : List ℕ) (level version : ℕ) (on : Bool) → P x to (Lay object server level version on))
    → ((m : Message) → IsAmong m messages → P x m.to m.body) → (from to : List ℕ) (body : Body) → IsSent sent from to body
    → P from to body
sent_each x words messages sent are P links lays named from to body is =
    elim (are.each (record { from = from; to = to; body = body }) is) [
      | inl link ↦
          ends (link_frame x link.word) (record { from = from; to = to; body = body }) (sym link.is)
          (links link.word.to link.word.version link.word.on)
      | inr more ↦
          elim more [
            | inl message ↦
                ends (message_frame x message.message) (record { from = from; to = to; body = body }) (sym message.is)
                (named message.message message.among)
            | inr lay ↦
                ends (lay_frame x lay.lay) (record { from = from; to = to; body = body }) (sym lay.is)
                (lays lay.lay.to lay.lay.object lay.lay.server lay.lay.level lay.lay.version lay.lay.on)
          ]
    ]
  where
    ends : (one two : Frame) → one ≡ two → P one.from one.to one.body → P two.from two.to two.body
    ends one two same so = rw (← same) so

-- what is sent is sound, if the messages are
pub sent_sound : (s : System) (x : List ℕ) (words : List Tie) (messages : List Message) (sent : List Frame)
    → AreSent x words messages sent → AreSound s x messages → (from to : List ℕ) (body : Body) → IsSent sent from to body
    → IsSoundBody s from to body
sent_sound s x words messages sent are sound =
    sent_each x words messages sent are (λ from to body. IsSoundBody s from to body) (λ to version on. tt)
    (λ to object server level version on. tt) sound

-- a message of a list of one
pub only_message : (m one : Message) → IsAmong m (one ∷ []) → m ≡ one
only_message m one (inl is) = is
only_message m one (inr none) = absurd none

pub one_sound : (s : System) (x : List ℕ) (one : Message) → IsSoundBody s x one.to one.body → AreSound s x (one ∷ [])
one_sound s x one sound m among = let same = only_message m one among in rw same sound

module _ (s s' : System) (cores : (y : List ℕ) → IsCoreNode s y → IsCoreNode s' y)
    (softs : (y : List ℕ) → IsSoft s y → IsSoft s' y)
    (links : (y t : List ℕ) (kind : Kind) → HasLink s' y t kind → HasLink s y t kind ⊎ IsSoundLink s' t kind)
    (ways : (from to : List ℕ) (body : Body) → IsUnderWay s' from to body → IsUnderWay s from to body ⊎ IsSoundBody s' from to body)
    (soft : NamesSoft s) where
  offer_kept : (b : List ℕ) (o : Offered) → IsSoundOffer s b o → IsSoundOffer s' b o
  offer_kept b o sound = record {
    core = λ says. cores o.name (sound.core says);
    soft = λ says. softs o.name (sound.soft says);
    apart = sound.apart;
  }

  pub soft_kept : NamesSoft s'
  soft_kept = record {
    settled = λ y t link. elim (links y t Settled link) [ inl old ↦ cores t (soft.settled y t old) | inr new ↦ new ];
    pins = λ y t link. elim (links y t Pin link) [ inl old ↦ softs t (soft.pins y t old) | inr new ↦ new ];
    hellos = λ w b hello way o offers.
        elim (ways w b (hello_body hello) way) [
          | inl old ↦ offer_kept b o (soft.hellos w b hello old o offers)
          | inr new ↦ new o offers
        ];
    releases = λ t y way. elim (ways t y Release way) [ inl old ↦ cores t (soft.releases t y old) | inr new ↦ new ];
    leaves = λ n y r way.
        elim (ways n y (Leave (Some r)) way) [ inl old ↦ cores r (soft.leaves n y r old) | inr new ↦ new ];
  }

module _ (s s' : System) (number : ℕ) (frame : Frame) (step : TakesFrame s s' number frame) where
  pub frame_softs : (y : List ℕ) → IsSoft s y → IsSoft s' y
  frame_softs y (inr (inl core)) = inr (inl (frame_cores s s' number frame step y core))
  frame_softs y (inl joiner) =
      let started = step.surrogate y ∙ joiner.started in
      inl (elim (node_after s s' frame.to step.before step.after step.at y joiner.state joiner.is) [
        | inl here ↦
            let same = here.1 in
            let joining = joiner.joining in
            let status = step.stays.status in
            record { state = step.after; is = here.2; joining = cc; surrogate = joiner.surrogate; started = started }
        | inr there ↦
            record { state = joiner.state; is = there; joining = joiner.joining; surrogate = joiner.surrogate; started = started }
      ])
  frame_softs y (inr (inr ceased)) =
      inr (inr (elim (node_after s s' frame.to step.before step.after step.at y ceased.state ceased.is) [
        | inl here ↦
            let same = here.1 in
            let was = ceased.ceased in
            let status = step.stays.status in
            record { state = step.after; is = here.2; ceased = cc }
        | inr there ↦ record { state = ceased.state; is = there; ceased = ceased.ceased }
      ]))

  pub frame_soft : ((t : List ℕ) (kind : Kind) → link_to step.after t ≡ Some kind
      → (link_to step.before t ≡ Some kind) ⊎ IsSoundLink s' t kind)
      → AreSound s' frame.to step.messages → NamesSoft s → NamesSoft s'
  frame_soft new sound soft = soft_kept s s' (frame_cores s s' number frame step) frame_softs links ways soft
    where
      links : (y t : List ℕ) (kind : Kind) → HasLink s' y t kind → HasLink s y t kind ⊎ IsSoundLink s' t kind
      links y t kind link =
          elim (node_before s s' frame.to step.before step.after step.at y link.state link.is) [
            | inr there ↦ inl (record { state = link.state; is = there; link = link.link })
            | inl here ↦
                let now : link_to step.after t ≡ Some kind = rw (← here.1) link.link in
                elim (new t kind now) [
                  | inl old ↦ inl (record { state = step.before; is = here.2; link = old })
                  | inr is ↦ inr is
                ]
          ]

      ways : (from to : List ℕ) (body : Body) → IsUnderWay s' from to body → IsUnderWay s from to body ⊎ IsSoundBody s' from to body
      ways from to body way =
          elim (was_under_way s s' number frame step.sent step.taken from to body way) [
            | inl old ↦ inl old
            | inr sends ↦ inr (sent_sound s' frame.to step.words step.messages step.sent step.are sound from to body sends)
          ]

-- a link that stays isn't new
pub not_new : (s : System) (before after : NodeState) → LinksStay before after → (t : List ℕ) (kind : Kind) → link_to after t ≡ Some kind
    → (link_to before t ≡ Some kind) ⊎ IsSoundLink s t kind
not_new s before after stay t kind now = inl (sym (stay t) ∙ now)

pub plain_soft : (s s' : System) (number : ℕ) (frame : Frame) (plain : TakesPlainly s s' number frame)
    → AreSound s' frame.to plain.step.messages → NamesSoft s → NamesSoft s'
plain_soft s s' number frame plain sound soft =
    frame_soft s s' number frame plain.step (not_new s' plain.step.before plain.step.after plain.links) sound soft

pub ceased_soft : (s s' : System) (number : ℕ) (w x : List ℕ) (tell : TellFields) (watch : List Slot)
    → TakesTellCeased s s' number w x tell watch → NamesSoft s → NamesSoft s'
ceased_soft s s' number w x tell watch ceased soft =
    frame_soft s s' number (record { from = w; to = x; body = tell_body tell watch }) ceased.step
    (not_new s' ceased.step.before ceased.step.after ceased.links)
    (rw ceased.answers (one_sound s' x (message w (Ack tell.session)) tt)) soft

-- the joiner of the Tell is pinned
pub joining_links : (s s' : System) (number : ℕ) (w x : List ℕ) (tell : TellFields) (watch : List Slot)
    (joining : TakesTellJoining s s' number w x tell watch) → IsJoiner s tell.joiner
    → AddsSoundLinks s' joining.step.before joining.step.after
joining_links s s' number w x tell watch joining joiner t kind now =
    elim (joining.links t) [
      | inr same ↦ inl (sym same ∙ now)
      | inl is ↦
          let pin : link_to joining.step.after t ≡ Some Pin = rw is joining.pinned in
          let kind_is : kind ≡ Pin = cc in
          let on = frame_softs s s' number (record { from = w; to = x; body = tell_body tell watch }) joining.step tell.joiner (inl joiner)
          in
          inr (rw (kind_is, is) on)
    ]

-- and hears of the node, which is a joiner
pub joining_soft : (s s' : System) (number : ℕ) (w x : List ℕ) (tell : TellFields) (watch : List Slot)
    → TakesTellJoining s s' number w x tell watch → IsJoiner s tell.joiner → IsJoiner s x → (x ≡ tell.joiner → ⊥)
    → NamesSoft s → NamesSoft s'
joining_soft s s' number w x tell watch joining joiner here apart soft =
    frame_soft s s' number frame joining.step (joining_links s s' number w x tell watch joining joiner) sound soft
  where
    frame : Frame
    frame = record { from = w; to = x; body = tell_body tell watch }

    on : (y : List ℕ) → IsSoft s y → IsSoft s' y
    on = frame_softs s s' number frame joining.step

    greets : (session : ℕ) → IsSoundBody s' x tell.joiner (joining_hello session)
    greets session o (inl is) =
        let name : o.name ≡ x = ap (λ o. o.name) is in
        let says : o.settled ≡ false = ap (λ o. o.settled) is in
        record {
          core = λ no. absurd (true≢false (sym no ∙ says));
          soft = λ yes. rw name (on x (inl here));
          apart = λ same. apart (sym name ∙ same);
        }
    greets session o (inr none) = absurd none

    sound : AreSound s' x joining.step.messages
    sound =
        elim joining.answers [
          | inl ack ↦ rw ack (one_sound s' x (message w (Ack tell.session)) tt)
          | inr hello ↦
              rw hello.1 (one_sound s' x (message tell.joiner (joining_hello hello.0)) (greets hello.0))
        ]

module _ (s s' : System) (number : ℕ) (w b : List ℕ) (hello : HelloFields) (step : TakesHello s s' number w b hello) (soft : NamesSoft s) where
  offer_sound : (o : Offered) → IsSoundOffer s b o → (flag : _) → o.settled ≡ flag → IsSoundLink s' o.name (kind_offered o)
  offer_sound o sound true says =
      rw says (frame_cores s s' number (record { from = w; to = b; body = hello_body hello }) step.step o.name (sound.core says))
  offer_sound o sound false says =
      rw says (frame_softs s s' number (record { from = w; to = b; body = hello_body hello }) step.step o.name (sound.soft says))

  -- each link that a Hello brings is to such a node as the Hello says
  pub hello_links : AddsSoundLinks s' step.step.before step.step.after
  hello_links t kind now =
      elim (step.new t kind now) [
        | inl old ↦ inl old
        | inr comes ↦
            let way = taken_under_way s s' number (record { from = w; to = b; body = hello_body hello }) step.step.sent step.step.taken in
            let sound = soft.hellos w b hello way comes.offered comes.offers in
            inr (rw (comes.kind_is, ← comes.name) (offer_sound comes.offered sound comes.offered.settled refl))
      ]

pub hello_soft : (s s' : System) (number : ℕ) (w b : List ℕ) (hello : HelloFields) → TakesHello s s' number w b hello → NamesSoft s
    → NamesSoft s'
hello_soft s s' number w b hello step soft =
    frame_soft s s' number (record { from = w; to = b; body = hello_body hello }) step.step (hello_links s s' number w b hello step soft)
    (rw step.answers (one_sound s' b (message w (Heard hello.session)) tt)) soft

-- a pin that a Release settles is on its sender, which is core
pub release_links : (s s' : System) (number : ℕ) (t x : List ℕ) (step : TakesRelease s s' number t x) → NamesSoft s
    → AddsSoundLinks s' step.step.before step.step.after
release_links s s' number t x step soft u kind now =
    elim (step.others u) [
      | inr same ↦ inl (sym same ∙ now)
      | inl here ↦
          let mine : link_to step.step.after t ≡ Some kind = sym (ap (λ v. link_to step.step.after v) here) ∙ now in
          elim step.released [
            | inl same ↦ inl (rw here (sym same ∙ mine))
            | inr settles ↦
                elim settles.1 [
                  | inl settled ↦ let kind_is : kind ≡ Settled = cc in inr (rw (kind_is, here) core)
                  | inr dropped ↦ let none = dropped.0 in let no : None ≡ Some kind = sym none ∙ mine in cc
                ]
          ]
    ]
  where
    core : IsCoreNode s' t
    core =
        frame_cores s s' number (record { from = t; to = x; body = Release }) step.step t (release_core s s' number t x step soft)

pub release_soft : (s s' : System) (number : ℕ) (t x : List ℕ) → TakesRelease s s' number t x → NamesSoft s → NamesSoft s'
release_soft s s' number t x step soft =
    frame_soft s s' number (record { from = t; to = x; body = Release }) step.step (release_links s s' number t x step soft)
    (rw step.silent (λ m none. absurd none)) soft

-- a Forget brings no link
pub forget_links : (s s' : System) (number : ℕ) (n x : List ℕ) (step : TakesForget s s' number n x)
    → AddsSoundLinks s' step.step.before step.step.after
forget_links s s' number n x step u kind now =
    elim (step.others u) [
      | inr same ↦ inl (sym same ∙ now)
      | inl here ↦
          let mine : link_to step.step.after n ≡ Some kind = sym (ap (λ v. link_to step.step.after v) here) ∙ now in
          elim step.forgotten [
            | inl same ↦ inl (rw here (sym same ∙ mine))
            | inr gone ↦ let none = gone.1 in let no : None ≡ Some kind = sym none ∙ mine in cc
          ]
    ]

pub forget_soft : (s s' : System) (number : ℕ) (n x : List ℕ) → TakesForget s s' number n x → NamesSoft s → NamesSoft s'
forget_soft s s' number n x step soft =
    frame_soft s s' number (record { from = n; to = x; body = Forget }) step.step (forget_links s s' number n x step)
    (rw step.silent (λ m none. absurd none)) soft
