-- A step at one node that says of each link that it changes, whatever else the node becomes: seen with the status and the covers that the
-- node had, and with the surrogates of before, it is one of which the laws of words speak. What stands so stands, if the status stays.
use Rattle.std.proofs.Common.{◌≡◌, ◌⊎◌, ℕ, Bool, true, false, List, Option, Some, ap, refl, sym, subst, ◌∙◌, inl, inr}
use Rattle.tap_link.specs.declared.kind.Kind.TheVariants.{Pin}
use Rattle.tap_table.specs.declared.tie.Tie.{Tie}
use Rattle.tap_wire.specs.declared.frame.Body.TheVariants.{Forget}
use Rattle.tap_wire.specs.declared.frame.Frame.{Frame}
use Rattle.tap_rule.specs.Node.{NodeState}
use Rattle.tap_rule.specs.Reaction.{Message}
use Rattle.tap_rule.specs.Sent.{AreSent}
use Rattle.tap_safety.specs.Bookkeeping.{AreStamped, has_table}
use Rattle.tap_safety.specs.Ceased.{Ceased, CoreOrJoining, IsRegistered, SaysSo}
use Rattle.tap_safety.specs.FrameSteps.{TakesFrame}
use Rattle.tap_safety.specs.Moved.{HasDone}
use Rattle.tap_safety.specs.Remembered.{TieWord}
use Rattle.tap_safety.specs.Exchanges.{ChangesAt, IsTaken, with_at}
use Rattle.tap_safety.specs.System.{System, IsUnderWay}
use Rattle.tap_safety.specs.Ties.{IsNoNewer, IsOnWay, LastIs, Stands, TiesAreTold, Versions, hears_words, link_in, link_of, register_in, register_of, release_frame, status_in, status_of, word_frame}
use Rattle.tap_safety.specs.Regions.{Pins}
use Rattle.tap_safety.specs.WordSteps.{SaysLinks, SaysNoMore}
use Rattle.tap_safety.proofs.Moved.{with_at-here, with_at-others}
use Rattle.tap_safety.proofs.StepLaws.{ceased_words_law, ties_words_law, versions_words_law, words_said_law}
use Rattle.tap_safety.proofs.WordsKept.{at_link, link_at}
use Rattle.tap_moves.specs.TiesLaws.{WordsStand}

module _ (s s' : System) (number : ℕ) (frame : Frame) (before after : NodeState) (sent : List Frame)
    (taken : IsTaken s s' number frame sent) (at : ChangesAt s s' frame.to before after) (done : HasDone s s' frame.to after sent) where
  -- the node with the status and the covers that it had
  abbrev pub seen : NodeState
  seen = record after { status = before.status; covers = before.covers }

  -- the system with this node
  abbrev pub as_before : System
  as_before = record s' { node = with_at s'.node frame.to (Some seen); surrogate = s.surrogate }

  -- ---- what is said stands there

  seen_at : ChangesAt s as_before frame.to before seen
  seen_at = record {
    was = at.was;
    is = with_at-here s'.node frame.to (Some seen);
    others = λ y. elim (with_at-others s'.node frame.to (Some seen) y) [
      | inl here ↦ inl here
      | inr stays ↦ elim (at.others y) [ inl here ↦ inl here | inr same ↦ inr (stays ∙ same) ]
    ];
  }

  seen_done : HasDone s as_before frame.to seen sent
  seen_done = record { is = seen_at.is; others = seen_at.others; words = done.words; others_words = done.others_words }

  abbrev seen_step : (words : List Tie) (messages : List Message) → AreSent frame.to words messages sent
      → TakesFrame s as_before number frame
  seen_step words messages are = record {
    before = before;
    after = seen;
    words = words;
    messages = messages;
    sent = sent;
    are = are;
    taken = record { front = taken.front; back = taken.back; before = taken.before; after = taken.after; next = taken.next };
    at = seen_at;
    stays = record { status = refl; covers = λ d. refl };
    surrogate = λ b. refl;
  }

  seen_says : (words : List Tie) → SaysLinks before after words → SaysLinks before seen words
  seen_says words says = record {
    unsaid = says.unsaid;
    on = says.on;
    off = says.off;
    newer = says.newer;
    once = says.once;
    register = says.register;
  }

  seen_no_more : (messages : List Message) → SaysNoMore frame after messages → SaysNoMore frame seen messages
  seen_no_more messages no_more = record {
    link = no_more.link;
    release = no_more.release;
    forget = no_more.forget;
    no_link = no_more.no_link;
    no_forget = no_more.no_forget;
  }

  pub stand_there : (words : List Tie) (messages : List Message) → AreSent frame.to words messages sent → SaysLinks before after words
      → SaysNoMore frame after messages → AreStamped s → has_table before.status → WordsStand s → WordsStand as_before
  stand_there words messages are says no_more stamped table stand =
      let said = words_said_law s as_before number frame (seen_step words messages are) seen_done (seen_says words says)
      (seen_no_more messages no_more) stamped table in
      record {
        ties = ties_words_law s as_before frame.to said.0 stand.ties;
        versions = versions_words_law s as_before frame.to said.0 stand.versions;
        ceased = ceased_words_law s as_before frame.to said.0 said.1 stand.ceased;
      }

  -- ---- look-ups

  -- what depends on neither status nor covers is the same
  seen_in : {A : Type 0} (f : Option NodeState → A) → f (Some seen) ≡ f (Some after) → (y : List ℕ) → f (as_before.node y) ≡ f (s'.node y)
  seen_in f same y =
      elim (with_at-others s'.node frame.to (Some seen) y) [
        | inr stays ↦ ap f stays
        | inl here ↦
            subst (λ z. f (as_before.node z) ≡ f (s'.node z)) (sym here)
            (ap f (with_at-here s'.node frame.to (Some seen)) ∙ same ∙ ap f (sym at.is))
      ]

  pub link_seen : (y t : List ℕ) → link_of as_before y t ≡ link_of s' y t
  unfolding link_of
  link_seen y t = seen_in (λ node. link_in node t) refl y

  pub register_seen : (t y : List ℕ) → register_of as_before t y ≡ register_of s' t y
  unfolding register_of
  register_seen t y = seen_in (λ node. register_in node y) refl t

  -- statuses are the same, but that of the node itself
  pub status_cases : (y : List ℕ) → (y ≡ frame.to) ⊎ (status_of as_before y ≡ status_of s' y)
  unfolding status_of
  status_cases y =
      elim (with_at-others s'.node frame.to (Some seen) y) [ inl here ↦ inl here | inr stays ↦ inr (ap status_in stays) ]

  pub status_then : status_of as_before frame.to ≡ Some before.status
  unfolding status_of
  status_then = ap status_in (with_at-here s'.node frame.to (Some seen))

  pub status_now : status_of s' frame.to ≡ Some after.status
  unfolding status_of
  status_now = ap status_in at.is

  -- ---- and what stands there stands

  pub way_back : (f : Frame) → IsOnWay as_before f → IsOnWay s' f
  way_back f way = record { number = way.number; among = way.among }

  pub way_there : (f : Frame) → IsOnWay s' f → IsOnWay as_before f
  way_there f way = record { number = way.number; among = way.among }

  stands_back : (x t : List ℕ) (word : TieWord) → Stands as_before x t word → Stands s' x t word
  stands_back x t word (inl way) = inl (way_back (word_frame x t word) way)
  stands_back x t word (inr stood) = inr (sym (register_seen t x) ∙ stood)

  pub last_back : (x t : List ℕ) (on : Bool) → LastIs as_before x t on → LastIs s' x t on
  last_back x t on l = record { last = l.last; is = l.is; on_is = l.on_is; stands = stands_back x t l.last l.stands }

  within_back : (x t : List ℕ) (word : TieWord) → IsNoNewer as_before x t word → IsNoNewer s' x t word
  within_back x t word is = record { last = is.last; is = is.is; most = is.most; same = is.same }

  pub versions_back : Versions as_before → Versions s'
  versions_back versions = record {
    ways = λ x t word way. within_back x t word (versions.ways x t word (way_there (word_frame x t word) way));
    registers = λ x t word is. within_back x t word (versions.registers x t word (register_seen t x ∙ is));
    once = λ x t word kept last way is.
        versions.once x t word kept last (way_there (word_frame x t word) way) (register_seen t x ∙ is);
  }

  pub pins_there : (x t : List ℕ) → Pins s' x t → Pins as_before x t
  pins_there x t pin = at_link as_before x t Pin (link_seen x t ∙ link_at s' x t Pin pin)

  says_back : (x n : List ℕ) → SaysSo as_before x n → SaysSo s' x n
  says_back x n says = record { word = says.word; on = says.on; way = way_back (word_frame x n says.word) says.way }

  pub joining_back : (x n : List ℕ) → IsRegistered as_before x n ⊎ SaysSo as_before x n → IsRegistered s' x n ⊎ SaysSo s' x n
  joining_back x n (inl registered) =
      inl (record { word = registered.word; on = registered.on; is = sym (register_seen n x) ∙ registered.is })
  joining_back x n (inr says) = inr (says_back x n says)

  pub ceased_back : (x n : List ℕ) → SaysSo as_before x n ⊎ IsUnderWay as_before n x Forget → SaysSo s' x n ⊎ IsUnderWay s' n x Forget
  ceased_back x n (inl says) = inl (says_back x n says)
  ceased_back x n (inr way) = inr (record { number = way.number; among = way.among })

  forget_there : (n x : List ℕ) → IsUnderWay s' n x Forget → IsUnderWay as_before n x Forget
  forget_there n x way = record { number = way.number; among = way.among }

  -- ---- if the status stays

  module _ (stays : after.status ≡ before.status) where
    status_seen : (y : List ℕ) → status_of as_before y ≡ status_of s' y
    status_seen y =
        elim (status_cases y) [
          | inr same ↦ same
          | inl here ↦
              subst (λ z. status_of as_before z ≡ status_of s' z) (sym here)
              (status_then ∙ ap (λ status. Some status) (sym stays) ∙ sym status_now)
        ]

    hears_there : (t : List ℕ) → hears_words (status_of s' t) → hears_words (status_of as_before t)
    hears_there t hears = subst hears_words (sym (status_seen t)) hears

    either_there : (x : List ℕ) → CoreOrJoining s' x → CoreOrJoining as_before x
    either_there x (inl core) = inl (status_seen x ∙ core)
    either_there x (inr joins) = inr (status_seen x ∙ joins)

    same_ties : TiesAreTold as_before → TiesAreTold s'
    same_ties ties = record {
      linked = λ x t kind hears link. last_back x t true (ties.linked x t kind (hears_there t hears) (link_seen x t ∙ link));
      dropped = λ x t word hears none last.
          last_back x t false (ties.dropped x t word (hears_there t hears) (link_seen x t ∙ none) last);
      pinned = λ x t core pin. elim (ties.pinned x t (status_seen t ∙ core) (link_seen x t ∙ pin)) [
        | inl said ↦ inl (said.0, said.1, way_back (word_frame x t said.0) said.2)
        | inr released ↦ inr (way_back (release_frame t x) released)
      ];
    }

    same_ceased : Ceased as_before → Ceased s'
    same_ceased ceased = record {
      joining = λ x n either pin joins.
          joining_back x n (ceased.joining x n (either_there x either) (pins_there x n pin) (status_seen n ∙ joins));
      ceased = λ x n either pin ended.
          ceased_back x n (ceased.ceased x n (either_there x either) (pins_there x n pin) (status_seen n ∙ ended));
      forgets = λ n x way. sym (status_seen n) ∙ ceased.forgets n x (forget_there n x way);
    }

    pub stand_now : WordsStand as_before → WordsStand s'
    stand_now stand = record {
      ties = same_ties stand.ties;
      versions = versions_back stand.versions;
      ceased = same_ceased stand.ceased;
    }
