-- How few Seeks of a joiner are sent: what a step keeps that sends none of it, or one more.
use Rattle.std.proofs.Common.{◌≡◌, ◌≢◌, ◌⊎◌, ℕ, nat_eq, ◌+◌, ◌≤◌, true, cond, List, [], ◌∷◌, ◌++◌, length, Option, None, Some, arith, ap, refl, sym, subst, ◌∙◌, inl, inr}
use Rattle.std.specs.Prelude.{count_by}
use Rattle.std.specs.Cmp.Lexicographic.{pointwise}
use Rattle.std.proofs.lemmas.Bool.{cases_Bool, cases_lt}
use Rattle.std.proofs.lemmas.Slice.Eq.{bytes_eq-Decides}
use Rattle.tap_name.specs.Name.{IsName}
use Rattle.tap_name.specs.Prefix.{lcp}
use Rattle.tap_name.specs.Settings.{SettingsValue}
use Rattle.tap_name.proofs.Prefixes.{lcp-most, lcp-whole}
use Rattle.tap_table.specs.Table.{kind_in}
use Rattle.tap_link.specs.declared.kind.Kind.TheVariants.{Settled}
use Rattle.tap_join.specs.Seek.{sought}
use Rattle.tap_join.specs.declared.sought.Sought.TheVariants.{Forward}
use Rattle.tap_join.proofs.Seeking.{forward_is}
use Rattle.tap_wire.specs.declared.frame.Body.TheVariants.{Seek}
use Rattle.tap_wire.specs.declared.frame.Frame.{Frame}
use Rattle.tap_rule.specs.RuleLaws.{frame_to}
use Rattle.tap_rule.specs.Node.{NodeState, name_of, settings_of}
use Rattle.tap_rule.specs.Node.Status.{Core}
use Rattle.tap_rule.specs.Sending.{message_frame}
use Rattle.tap_rule.specs.Reaction.{message}
use Rattle.tap_rule.specs.Sent.{IsAmong}
use Rattle.tap_safety.specs.Seeking.{IsSeeker}
use Rattle.tap_safety.specs.SessionSteps.{Exchanges}
use Rattle.tap_safety.specs.Exchanges.{numbered_from}
use Rattle.tap_safety.specs.System.{System, AmongFrames}
use Rattle.tap_moves.specs.ByRule.{taken_at}
use Rattle.tap_moves.specs.Delivered.{after_delivery}
use Rattle.tap_moves.specs.InvariantLaws.{IsDelivery}
use Rattle.tap_moves.proofs.Exchanged.{exchanges, sent_numbered}
use Rattle.tap_moves.proofs.InvariantMoves.{due, name_at, of_node, seeker_not_core, way}
use Rattle.tap_moves.proofs.MovesMade.{by_rule}
use Rattle.tap_moves.proofs.SeekGoesOn.{goes_on_sent}
use Rattle.tap_bounds.specs.Few.{SeeksAreFew, is_seek_of, seeks_sent}
use Rattle.tap_bounds.specs.Traffic.{Traffic}
use Rattle.tap_bounds.proofs.Counting.{count-append, count-cons, count-some}

-- a name is itself
same_name : (b : List ℕ) → pointwise nat_eq b b ≡ true
same_name b = (bytes_eq-Decides b b).1 refl

-- ---- steps

-- a step after which these were sent too: what is under way was so before, or is sent; and who is a node stays one
pub record SendsOn (s s' : System) (r r' : Traffic) (sent : List Frame) : Type 0 where
  pub all : r'.sent ≡ r.sent ++ sent
  pub was : (m : ℕ) (f : Frame) → AmongFrames m f s'.frames → AmongFrames m f s.frames ⊎ IsAmong f sent
  pub nodes : (b : List ℕ) → s'.node b ≡ None → s.node b ≡ None

-- one Seek of this joiner more may be sent, to where at least as many digits are shared with it as were sent before; and no other is
-- under way
pub record SendsOne (p : SettingsValue) (s' : System) (r : Traffic) (sent : List Frame) (b : List ℕ) : Type 0 where
  pub most : ℕ
  pub before : seeks_sent r b ≤ most
  pub one : count_by (is_seek_of b) sent ≤ 1
  pub within : most + 1 ≤ p.digits
  pub ways : (m : ℕ) (from to : List ℕ) → AmongFrames m (record { from = from; to = to; body = Seek b }) s'.frames → most ≤ lcp to b
  pub there : s'.node b ≡ None → ⊥

-- of each joiner none is sent, or one more
abbrev pub SendsFew : SettingsValue → System → Traffic → List Frame → Type 0
SendsFew p s' r sent = (b : List ℕ) → (count_by (is_seek_of b) sent ≤ 0) ⊎ SendsOne p s' r sent b

module _ (p : SettingsValue) (s s' : System) (r r' : Traffic) (sent : List Frame) (on : SendsOn s s' r r' sent)
    (few : SendsFew p s' r sent) (seeks : SeeksAreFew p s r) where
  total : (b : List ℕ) → seeks_sent r' b ≡ seeks_sent r b + count_by (is_seek_of b) sent
  total b = ap (count_by (is_seek_of b)) on.all ∙ count-append (is_seek_of b) r.sent sent

  within : (b : List ℕ) → seeks_sent r' b ≤ p.digits
  within b =
      let all = total b in
      let old = seeks.within b in
      elim (few b) [
        | inl none ↦ omega (arith, all, old, none)
        | inr one ↦
            let before = one.before in
            let more = one.one in
            let room = one.within in
            omega (arith, all, before, more, room)
      ]

  ways : (m : ℕ) (from to b : List ℕ) → AmongFrames m (record { from = from; to = to; body = Seek b }) s'.frames
      → seeks_sent r' b ≤ lcp to b + 1
  ways m from to b among = by (few b)
    where
      all : seeks_sent r' b ≡ seeks_sent r b + count_by (is_seek_of b) sent
      all = total b

      by : (count_by (is_seek_of b) sent ≤ 0) ⊎ SendsOne p s' r sent b → seeks_sent r' b ≤ lcp to b + 1
      by (inl none) =
          elim (on.was m (record { from = from; to = to; body = Seek b }) among) [
            | inl old ↦ let before = seeks.ways m from to b old in omega (arith, all, none, before)
            | inr new ↦
                let some =
                count-some (is_seek_of b) sent (record { from = from; to = to; body = Seek b }) new (same_name b) in
                omega (arith, none, some)
          ]
      by (inr one) =
          let before = one.before in
          let more = one.one in
          let near = one.ways m from to among in
          omega (arith, all, before, more, near)

  fresh : (b : List ℕ) → s'.node b ≡ None → seeks_sent r' b ≡ 0
  fresh b nobody =
      let all = total b in
      let old = seeks.fresh b (on.nodes b nobody) in
      elim (few b) [ inl none ↦ omega (arith, all, old, none) | inr one ↦ absurd (one.there nobody) ]

  pub seeks_kept : SeeksAreFew p s' r'
  seeks_kept = record { within = within; ways = ways; fresh = fresh }

-- ---- a Seek that goes on

module _ (p : SettingsValue) (s : System) (r : Traffic) (number : ℕ) (node : NodeState) (from joiner next : List ℕ)
    (is : IsDelivery p s number node from (Seek joiner)) (at : node.status ≡ Core)
    (found : sought node.ties.table joiner ≡ Forward next) (seeks : SeeksAreFew p s r) where
  abbrev own : List ℕ
  own = name_of node

  abbrev s' : System
  s' = after_delivery p s number

  abbrev sent : List Frame
  sent = (taken_at node from (Seek joiner)).sent

  seeker : IsSeeker s joiner
  seeker = is.invariant.seekers.seeks from own joiner (way p s number node from (Seek joiner) is)

  sent_is : sent ≡ message_frame own (message next (Seek joiner)) ∷ []
  sent_is = goes_on_sent p s number node from joiner next is at found

  exchange : Exchanges s s' number (frame_to node from (Seek joiner)) (numbered_from s.next sent)
  exchange =
      let here = due p s number node from (Seek joiner) is in
      exchanges s s' number (frame_to node from (Seek joiner)) sent (by_rule p s number node from (Seek joiner) here).taken here.numbers

  joiner_named : IsName (settings_of node) joiner
  joiner_named = of_node p s number node from (Seek joiner) is joiner (name_at p s is.nodes joiner seeker.state seeker.is)

  abbrev Nearer : Type 0
  Nearer = (lcp own joiner + 1 ≤ lcp next joiner) × (lcp next joiner + 1 ≤ p.digits)

  nearer : Nearer
  nearer =
      let here = due p s number node from (Seek joiner) is in
      let of = is.nodes.nodes own node is.at in
      let forward = forward_is node.ties.table here.is_node.ties.table joiner joiner_named
      (λ same. seeker_not_core s joiner seeker (record { state = node; is = ap s.node same ∙ is.at; core = inl at })) next found in
      let long : length next ≡ p.digits = forward.is_name.len ∙ ap (λ (q : SettingsValue). q.digits) of.settings in
      let wide : length joiner ≡ p.digits = joiner_named.len ∙ ap (λ (q : SettingsValue). q.digits) of.settings in
      let apart : next ≢ joiner = λ same. (is.invariant.seeking.unknown joiner seeker).linked own (record {
        kind = Settled;
        link = record { state = node; is = is.at; link = ap (kind_in node.ties.table) (sym same) ∙ forward.settled };
      }) in
      let near = forward.nearer in
      let most = (lcp-most next joiner).0 in
      let less : length next ≤ lcp next joiner → ⊥ = λ all. apart (lcp-whole next joiner (long ∙ sym wide) all) in
      (near, shorter (lcp next joiner) (length next) p.digits long most less)
    where
      shorter : (shared most digits : ℕ) → most ≡ digits → shared ≤ most → (most ≤ shared → ⊥) → shared + 1 ≤ digits
      shorter shared most digits same below less =
          elim (cases_lt shared most) [ inl lower ↦ omega (arith, lower, same) | inr not ↦ absurd (less (omega (arith, not))) ]

  -- every Seek of the joiner under way is the new one
  to_next : (m : ℕ) (w to : List ℕ) → AmongFrames m (record { from = w; to = to; body = Seek joiner }) s'.frames → to ≡ next
  to_next m w to among =
      elim (exchange.was m (record { from = w; to = to; body = Seek joiner }) among) [
        | inl old ↦
            let one = is.invariant.seeking.seeks joiner seeker in
            let same : m ≡ number = one.only w to m old ∙ sym (one.only from own number is.among) in
            absurd (exchange.gone (record { from = w; to = to; body = Seek joiner })
            (subst (λ n. AmongFrames n (record { from = w; to = to; body = Seek joiner }) s'.frames) same among))
        | inr new ↦ sent_to (sent_numbered m (record { from = w; to = to; body = Seek joiner }) s.next sent new)
      ]
    where
      sent_to : IsAmong (record { from = w; to = to; body = Seek joiner }) sent → to ≡ next
      sent_to inside =
          elim (subst (λ fs. IsAmong (record { from = w; to = to; body = Seek joiner }) fs) sent_is inside) [
            | inl same ↦ ap (λ (f : Frame). f.to) same
            | inr none ↦ absurd none
          ]

  -- of the joiner one more is sent
  one_more : SendsOne p s' r sent joiner
  one_more =
      let near = nearer in
      let one = ap (count_by (is_seek_of joiner)) sent_is in
      let single = count-cons (is_seek_of joiner) (message_frame own (message next (Seek joiner))) [] in
      let itself : cond {A = ℕ} (pointwise nat_eq joiner joiner) 1 0 ≡ 1 = rw (same_name joiner) refl in
      let first = near.0 in
      let second = near.1 in
      record {
        most = lcp own joiner + 1;
        before = seeks.ways number from own joiner is.among;
        one = omega (arith, one, single, itself);
        within = omega (arith, first, second);
        ways = λ m w to among. subst (λ t. lcp own joiner + 1 ≤ lcp t joiner) (sym (to_next m w to among)) first;
        there = λ nobody. still_there nobody;
      }
    where
      still_there : s'.node joiner ≡ None → ⊥
      still_there nobody =
          let here = due p s number node from (Seek joiner) is in
          elim ((by_rule p s number node from (Seek joiner) here).at.others joiner) [
            | inl same ↦ seeker_not_core s joiner seeker (record { state = node; is = ap s.node same ∙ is.at; core = inl at })
            | inr kept ↦
                let there = seeker.is in
                let wrong : ◌≡◌ {A = Option NodeState} None (Some seeker.state) = sym nobody ∙ kept ∙ there in
                absurd (cc)
          ]

  -- and of others none
  pub forward_few : SendsFew p s' r sent
  forward_few b =
      elim (cases_Bool (pointwise nat_eq joiner b)) [
        | inl same ↦ inr (subst (SendsOne p s' r sent) ((bytes_eq-Decides joiner b).0 same) one_more)
        | inr apart ↦
            let one = ap (count_by (is_seek_of b)) sent_is in
            let single = count-cons (is_seek_of b) (message_frame own (message next (Seek joiner))) [] in
            let other : cond {A = ℕ} (pointwise nat_eq joiner b) 1 0 ≡ 0 = rw apart refl in
            inl (omega (arith, one, single, other))
      ]
