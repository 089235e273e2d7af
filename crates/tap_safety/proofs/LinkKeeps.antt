-- What a Hello, a Release and a Forget keep.
-- Cited above: some_state, status_at, status_seen
use Rattle.std.proofs.Common.{◌≡◌, inl, inr, ℕ, true, List, [], ◌∷◌, ◌⊎◌, Option, None, Some, refl, sym, ap, ◌∙◌}
use Rattle.std.proofs.lemmas.Bool.{cases_Bool}
use Rattle.tap_name.specs.Settings.{SettingsValue}
use Rattle.tap_name.specs.declared.slot.Offered.{Offered}
use Rattle.tap_link.specs.declared.kind.Kind.{Kind}
use Rattle.tap_link.specs.declared.kind.Kind.TheVariants.{Pin, Settled}
use Rattle.tap_wire.specs.declared.frame.Body.TheVariants.{Forget, Release}
use Rattle.tap_wire.specs.declared.frame.Frame.{Frame}
use Rattle.tap_rule.specs.Node.{NodeState, Status, link_to}
use Rattle.tap_rule.specs.Node.Status.{Ceased as CeasedStatus}
use Rattle.tap_rule.specs.Sent.{IsAmong}
use Rattle.tap_safety.specs.Frames.{HelloFields, hello_body, tell_body}
use Rattle.tap_safety.specs.System.{System, AmongOffered, HasLink, HelloNames, IsCoreNode, IsJoiner, IsUnderWay}
use Rattle.tap_safety.specs.Regions.{Has}
use Rattle.tap_safety.specs.Soft.{NamesSoft, Offers}
use Rattle.tap_safety.specs.Ties.{status_in, status_of}
use Rattle.tap_safety.specs.FrameSteps.{HasSettledNear, TakesForget, TakesHello, TakesRelease, kind_offered}
use Rattle.tap_safety.specs.Filled.{AreFilled}
use Rattle.tap_safety.proofs.Calm.{filled_calm, still_told}
use Rattle.tap_safety.proofs.CoverKept.{core_or_joiner}
use Rattle.tap_safety.proofs.FrameKeeps.{
  core_not,
  frame_adds_no_cover,
  frame_adds_none,
  frame_cores,
  frame_no_hello,
  frame_no_tell,
  joiner_not_ceased,
  link_on,
  pins_back,
  pins_elsewhere,
}
use Rattle.tap_safety.proofs.KeepsNear.{HasInSlot, keeps_near}
use Rattle.tap_safety.proofs.KeptParts.{Keeps}
use Rattle.tap_safety.proofs.TellKeeps.{node_after}
use Rattle.tap_safety.proofs.UnderWay.{still_under_way, taken_under_way}

-- a link that stays, to a core node
stays_in_slot : (s s' : System) (y z : List ℕ) → IsCoreNode s' z → Has s' y z → HasInSlot s' y z
stays_in_slot s s' y z core has = record { to = z; core = core; has = has; same = inl refl }

-- ---- Release

module _ (s s' : System) (number : ℕ) (t x : List ℕ) (step : TakesRelease s s' number t x) (soft : NamesSoft s) where
  abbrev release : Frame
  release = record { from = t; to = x; body = Release }

  abbrev was : NodeState
  was = step.step.before

  abbrev is : NodeState
  is = step.step.after

  pub release_core : IsCoreNode s t
  release_core = soft.releases t x (taken_under_way s s' number release step.step.sent step.step.taken)

  cores : (y : List ℕ) → IsCoreNode s y → IsCoreNode s' y
  cores = frame_cores s s' number release step.step

  stay : (u : List ℕ) (kind : Kind) → (u ≡ t → ⊥) → link_to was u ≡ Some kind → link_to is u ≡ Some kind
  stay u kind apart old = elim (step.others u) [ inl here ↦ absurd (apart here) | inr same ↦ same ∙ old ]

  -- the slot of the sender stays filled, at the node itself
  slot_here : (kind : Kind) → link_to was t ≡ Some kind → HasInSlot s' x t
  slot_here kind old =
      elim step.released [
        | inl same ↦
            stays_in_slot s s' x t (cores t release_core)
            (record { kind = kind; link = record { state = is; is = step.step.at.is; link = same ∙ old } })
        | inr settles ↦
            elim settles.1 [
              | inl settled ↦
                  stays_in_slot s s' x t (cores t release_core)
                  (record { kind = Settled; link = record { state = is; is = step.step.at.is; link = settled } })
              | inr dropped ↦ by_other dropped.0 dropped.1
            ]
      ]
    where
      by_other : link_to is t ≡ None → HasSettledNear is x t → HasInSlot s' x t
      by_other none near =
          elim (step.others near.to) [
            | inl here ↦
                let settled : link_to is t ≡ Some Settled = sym (ap (λ v. link_to is v) here) ∙ near.settled in
                let no : None ≡ Some Settled = sym none ∙ settled in
                cc
            | inr same ↦
                let old : HasLink s x near.to Settled =
                record { state = was; is = step.step.at.was; link = sym same ∙ near.settled } in
                record {
                  to = near.to;
                  core = cores near.to (soft.settled x near.to old);
                  has = record { kind = Settled; link = record { state = is; is = step.step.at.is; link = near.settled } };
                  same = inr near.near;
                }
          ]

  slots : (y z : List ℕ) → IsCoreNode s z → Has s y z → HasInSlot s' y z
  slots y z core has =
      elim (node_after s s' x was is step.step.at y has.link.state has.link.is) [
        | inr there ↦
            stays_in_slot s s' y z (cores z core)
            (record { kind = has.kind; link = record { state = has.link.state; is = there; link = has.link.link } })
        | inl here ↦
            let old : link_to was z ≡ Some has.kind = rw (← here.1) has.link.link in
            elim (step.others z) [
              | inl sender ↦
                  let mine : link_to was t ≡ Some has.kind = sym (ap (λ v. link_to was v) sender) ∙ old in
                  rw (here.0, sender) (slot_here has.kind mine)
              | inr same ↦
                  stays_in_slot s s' y z (cores z core)
                  (record { kind = has.kind; link = record { state = is; is = here.2; link = same ∙ old } })
            ]
      ]

  pub release_keeps : Keeps s s'
  release_keeps =
      keeps_near s s' cores
      (λ y b kind joiner link.
      link_on s s' x was is step.step.at y b kind
      (stay b kind (λ sender. core_or_joiner s t release_core (rw sender at joiner))) link)
      slots
      (λ v b z named. inl (frame_no_hello s s' number release step.step (λ hello same. let no : Release ≡ hello_body hello = same in cc)
      v b z named))
      (λ u stays. step.step.surrogate u)

  -- no pin is new
  pin_back : (u : List ℕ) → link_to is u ≡ Some Pin → link_to was u ≡ Some Pin
  pin_back u now =
      elim (step.others u) [
        | inr same ↦ sym same ∙ now
        | inl here ↦
            let mine : link_to is t ≡ Some Pin = sym (ap (λ v. link_to is v) here) ∙ now in
            elim step.released [
              | inl same ↦ rw here (sym same ∙ mine)
              | inr settles ↦ rw here settles.0
            ]
      ]

  pub release_filled : (p : SettingsValue) → AreFilled p s → AreFilled p s'
  release_filled p filled =
      filled_calm p s s' release_keeps (frame_adds_none s s' number release step.step)
      (frame_adds_no_cover s s' number release step.step
      (λ y e core pin. pins_back s s' x was is step.step.at pin_back y e pin))
      (still_told s s' release_keeps (frame_no_tell s s' number release step.step
      (λ tell watch same. let no : Release ≡ tell_body tell watch = same in cc))) filled

-- ---- Forget

-- the status of a node
pub status_at : (s : System) (x : List ℕ) (state : NodeState) → s.node x ≡ Some state → status_of s x ≡ Some state.status
unfolding status_of
status_at s x state is = ap status_in is

pub status_seen : (s : System) (x : List ℕ) (state : NodeState) (status : Status) → s.node x ≡ Some state → state.status ≡ status
    → status_of s x ≡ Some status
status_seen s x state status is so = status_at s x state is ∙ ap (λ status. Some status) so

pub some_state : (s : System) (x : List ℕ) (status : Status) → status_of s x ≡ Some status
    → (state : NodeState) × (s.node x ≡ Some state) × (state.status ≡ status)
unfolding status_of
some_state s x status is = by (s.node x) refl is
  where
    by : (o : Option NodeState) → s.node x ≡ o → status_in o ≡ Some status
        → (state : NodeState) × (s.node x ≡ Some state) × (state.status ≡ status)
    by None at has = cc
    by (Some state) at has = (state, at, cc)

pub forget_way : (s s' : System) (number : ℕ) (n x : List ℕ) → TakesForget s s' number n x → IsUnderWay s n x Forget
forget_way s s' number n x step =
    taken_under_way s s' number (record { from = n; to = x; body = Forget }) step.step.sent step.step.taken

module _ (s s' : System) (number : ℕ) (n x : List ℕ) (step : TakesForget s s' number n x)
    (ceased : status_of s n ≡ Some CeasedStatus) where
  abbrev forget : Frame
  forget = record { from = n; to = x; body = Forget }

  no_core : IsCoreNode s n → ⊥
  no_core = let state = some_state s n CeasedStatus ceased in core_not s n state.0 state.1 (inr state.2)

  no_joiner : IsJoiner s n → ⊥
  no_joiner = let state = some_state s n CeasedStatus ceased in joiner_not_ceased s n state.0 state.1 state.2

  forget_cores : (y : List ℕ) → IsCoreNode s y → IsCoreNode s' y
  forget_cores = frame_cores s s' number forget step.step

  forget_stay : (u : List ℕ) (kind : Kind) → (u ≡ n → ⊥) → link_to step.step.before u ≡ Some kind
      → link_to step.step.after u ≡ Some kind
  forget_stay u kind apart old = elim (step.others u) [ inl here ↦ absurd (apart here) | inr same ↦ same ∙ old ]

  forget_link : (y z : List ℕ) (kind : Kind) → (z ≡ n → ⊥) → HasLink s y z kind → HasLink s' y z kind
  forget_link y z kind apart link =
      link_on s s' x step.step.before step.step.after step.step.at y z kind (forget_stay z kind apart) link

  pub forget_keeps : Keeps s s'
  forget_keeps =
      keeps_near s s' forget_cores (λ y b kind joiner link. forget_link y b kind (λ sender. no_joiner (rw sender at joiner)) link)
      (λ y z core has.
      stays_in_slot s s' y z (forget_cores z core)
      (record { kind = has.kind; link = forget_link y z has.kind (λ sender. no_core (rw sender at core)) has.link }))
      (λ v b z named. inl (frame_no_hello s s' number forget step.step (λ hello same. let no : Forget ≡ hello_body hello = same in cc)
      v b z named))
      (λ u stays. step.step.surrogate u)

  forget_pin_back : (u : List ℕ) → link_to step.step.after u ≡ Some Pin → link_to step.step.before u ≡ Some Pin
  forget_pin_back u now =
      elim (step.others u) [
        | inr same ↦ sym same ∙ now
        | inl here ↦
            let mine : link_to step.step.after n ≡ Some Pin = rw (← here) now in
            elim step.forgotten [ inl same ↦ rw here (sym same ∙ mine) | inr gone ↦ rw here gone.0 ]
      ]

  pub forget_filled : (p : SettingsValue) → AreFilled p s → AreFilled p s'
  forget_filled p filled =
      filled_calm p s s' forget_keeps (frame_adds_none s s' number forget step.step)
      (frame_adds_no_cover s s' number forget step.step
      (λ y e core pin. pins_back s s' x step.step.before step.step.after step.step.at forget_pin_back y e pin))
      (still_told s s' forget_keeps (frame_no_tell s s' number forget step.step
      (λ tell watch same. let no : Forget ≡ tell_body tell watch = same in cc))) filled

-- ---- Hello

-- a name that a Hello names is offered
pub offered_among : (z : List ℕ) (links : List Offered) → AmongOffered z links → (o : Offered) × IsAmong o links × (z ≡ o.name)
offered_among z [] among = absurd among
offered_among z (o ∷ os) (inl is) = (o, inl refl, is)
offered_among z (o ∷ os) (inr later) = let rest = offered_among z os later in (rest.0, inr rest.1, rest.2)

pub offered_named : (w z : List ℕ) (hello : HelloFields) → AmongOffered z hello.links ⊎ ((z ≡ w) × (hello.is_core ≡ true))
    → (o : Offered) × Offers w hello o × (z ≡ o.name)
offered_named w z hello (inl among) = let rest = offered_among z hello.links among in (rest.0, inr rest.1, rest.2)
offered_named w z hello (inr sender) = (record { name = w; settled = hello.is_core }, inl refl, sender.0)

module _ (s s' : System) (number : ℕ) (w b : List ℕ) (hello : HelloFields) (step : TakesHello s s' number w b hello)
    (soft : NamesSoft s) where
  abbrev hello_frame : Frame
  hello_frame = record { from = w; to = b; body = hello_body hello }

  abbrev then_was : NodeState
  then_was = step.step.before

  abbrev then_is : NodeState
  then_is = step.step.after

  hello_way : IsUnderWay s w b (hello_body hello)
  hello_way = taken_under_way s s' number hello_frame step.step.sent step.step.taken

  hello_cores : (y : List ℕ) → IsCoreNode s y → IsCoreNode s' y
  hello_cores = frame_cores s s' number hello_frame step.step

  hello_link : (y z : List ℕ) (kind : Kind) → HasLink s y z kind → HasLink s' y z kind
  hello_link y z kind link = link_on s s' b then_was then_is step.step.at y z kind (step.kept z kind) link

  -- a settled link of the receiver is to a core node
  settled_core : (u : List ℕ) → link_to then_is u ≡ Some Settled → IsCoreNode s u
  settled_core u settled =
      elim (step.new u Settled settled) [
        | inl old ↦ soft.settled b u (record { state = then_was; is = step.step.at.was; link = old })
        | inr comes ↦
            let sound = soft.hellos w b hello hello_way comes.offered comes.offers in
            rw (← comes.name) (sound.core (says_core comes.offered comes.kind_is))
      ]
    where
      says_core : (o : Offered) → Settled ≡ kind_offered o → o.settled ≡ true
      says_core o kind =
          elim (cases_Bool o.settled) [ inl is ↦ is | inr not ↦ let no : Settled ≡ Pin = rw not at kind in cc ]

  -- who is named is had, or one of its slot is
  heard_of : (o : Offered) → Offers w hello o → (IsJoiner s o.name → Has s' b o.name) × (IsCoreNode s o.name → HasInSlot s' b o.name)
  heard_of o offers =
      let sound = soft.hellos w b hello hello_way o offers in
      elim (step.had o offers sound.apart) [
        | inl has ↦
            let link : Has s' b o.name = record { kind = has.0; link = record { state = then_is; is = step.step.at.is; link = has.1 } } in
            (λ joiner. link, λ core. stays_in_slot s s' b o.name (hello_cores o.name core) link)
        | inr near ↦ (
          λ joiner. absurd (core_or_joiner s o.name (sound.core near.0) joiner),
          λ core. record {
            to = near.1.to;
            core = hello_cores near.1.to (settled_core near.1.to near.1.settled);
            has = record { kind = Settled; link = record { state = then_is; is = step.step.at.is; link = near.1.settled } };
            same = inr near.1.near;
          },
        )
      ]

  heard : (v d z : List ℕ) → HelloNames s v d z
      → HelloNames s' v d z ⊎ ((IsJoiner s z → Has s' d z) × (IsCoreNode s z → HasInSlot s' d z))
  heard v d z named =
      elim (still_under_way s s' number hello_frame step.step.sent step.step.taken v d (hello_body named.fields) named.way) [
        | inl way ↦ inl (record { fields = named.fields; way = way; named = named.named })
        | inr same ↦
            let from : v ≡ w = ap (λ f. f.from) same in
            let to : d ≡ b = ap (λ f. f.to) same in
            let body : hello_body named.fields ≡ hello_body hello = ap (λ f. f.body) same in
            let links : named.fields.links ≡ hello.links = cc in
            let core : named.fields.is_core ≡ hello.is_core = cc in
            let says : AmongOffered z hello.links ⊎ ((z ≡ w) × (hello.is_core ≡ true)) = rw (← links, ← core, ← from) named.named in
            let o = offered_named w z hello says in
            let of = heard_of o.0 o.1 in
            inr (rw (to, o.2) of)
      ]

  pub hello_keeps : Keeps s s'
  hello_keeps =
      keeps_near s s' hello_cores (λ y d kind joiner link. hello_link y d kind link)
      (λ y z core has.
      stays_in_slot s s' y z (hello_cores z core) (record { kind = has.kind; link = hello_link y z has.kind has.link }))
      heard (λ u stays. step.step.surrogate u)

  pub hello_filled : (p : SettingsValue) → AreFilled p s → AreFilled p s'
  hello_filled p filled =
      filled_calm p s s' hello_keeps (frame_adds_none s s' number hello_frame step.step)
      (frame_adds_no_cover s s' number hello_frame step.step
      (pins_elsewhere s s' b then_was then_is step.step.at (core_not s b then_was step.step.at.was (inl step.joining))))
      (still_told s s' hello_keeps (frame_no_tell s s' number hello_frame step.step
      (λ tell watch same. let no : hello_body hello ≡ tell_body tell watch = same in cc))) filled
