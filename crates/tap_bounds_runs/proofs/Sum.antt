-- The sum over joiners and names: in a run in which nothing but joins is started few frames are sent.
use Rattle.std.proofs.Common.{◌≡◌, ◌⊎◌, inl, inr, ℕ, ◌+◌, ◌*◌, ◌≤◌, Bool, true, false, List, [], ◌∷◌, ◌++◌, length, Option, None, Some, arith, refl, sym, subst, ◌∙◌, length-append}
use Rattle.std.specs.Prelude.{◌&&◌, nat_eq, count_by, if◌then◌else◌}
use Rattle.std.specs.Cmp.Lexicographic.{pointwise}
use Rattle.std.specs.List.{sum_by}
use Rattle.std.proofs.Math.Nat.{mul-le-mul_left}
use Rattle.std.proofs.lemmas.Bool.{and_from, and_parts, cases_Bool}
use Rattle.tap_name.specs.Names.{Among, has_name}
use Rattle.tap_name.specs.Settings.{SettingsValue}
use Rattle.tap_name.proofs.Membership.{among-append, has_name-Decides}
use Rattle.tap_wire.specs.declared.frame.Body.{Body}
use Rattle.tap_wire.specs.declared.frame.Body.TheVariants.{Done, Heard, Seek}
use Rattle.tap_wire.specs.declared.frame.Frame.{Frame}
use Rattle.tap_rule.specs.Node.{NodeState}
use Rattle.tap_rule.specs.Sent.{IsAmong}
use Rattle.tap_safety.specs.AtRest.{system_at_rest}
use Rattle.tap_safety.specs.System.{System}
use Rattle.tap_safety.proofs.Said.{Said, said_of}
use Rattle.tap_safety.proofs.Said.Said.{IsTell, IsHello}
use Rattle.tap_safety_moves.specs.SoundMoves.{after_moves}
use Rattle.tap_moves.proofs.WordsAnew.{among_names}
use Rattle.tap_bounds.specs.Acks.{AcksAreFew, is_ack, is_ack_from, is_tell_body, is_tell_to}
use Rattle.tap_bounds.specs.Dones.{DonesAreFew, is_done_body, is_done_to}
use Rattle.tap_bounds.specs.Few.{FewAreSent, is_heard, is_heard_from, is_hello, is_hello_to, is_seek_of}
use Rattle.tap_bounds.specs.Hellos.{HellosOnce, is_core_hello, is_joining_hello}
use Rattle.tap_bounds.specs.Taken.{AllAreKnown}
use Rattle.tap_bounds.specs.Tells.{TellsAreFew, is_tell, tells_of}
use Rattle.tap_bounds.specs.FewSent.{traffic_of}
use Rattle.tap_bounds.specs.Traffic.{Traffic, no_traffic}
use Rattle.tap_bounds.proofs.AckMoves.{run_acks_few}
use Rattle.tap_bounds.proofs.Dones.{run_dones_few}
use Rattle.tap_bounds.proofs.HelloMoves.{few_are_once, run_hellos_few}
use Rattle.tap_bounds.proofs.FewSent.{run_sends_few}
use Rattle.tap_bounds.proofs.KnownTaken.{heards_by_hellos, run_knows_all}
use Rattle.tap_bounds.proofs.TellMoves.{run_tells_few}
use Rattle.tap_bounds.specs.LinkBounds.{LinkFramesAreFew, links_off, links_on, releases_pin}
use Rattle.tap_bounds.specs.OfJoins.{SentAreOfJoins, joiner_said}
use Rattle.tap_bounds.proofs.LinkRuns.{run_links_few}
use Rattle.tap_bounds.proofs.OfJoins.{run_sent_are_of_joins}
use Rattle.tap_bounds_runs.specs.Joins.{RunJoinsSendFew, joined_in, most_of_joins}
use Rattle.tap_bounds_runs.proofs.ByKind.{all_kinds, by_joiner, by_receiver, by_sender, is_seek, itself, with_body}
use Rattle.tap_bounds_runs.proofs.NamedRuns.{AreNamed, run_named}
use Rattle.tap_bounds_runs.proofs.Sums.{count-either, count-passing, sum-failing, sum-grid, sum-less, sum-most}

-- what is said of the frames of a run of joins alone
pub record AllAreFew (p : SettingsValue) (members joiners : List (List ℕ)) (s : System) (r : Traffic) : Type 0 where
  pub of : SentAreOfJoins members s r
  pub named : AreNamed (members ++ joiners) s r
  pub known : AllAreKnown s r
  pub few : FewAreSent p s r
  pub tells : TellsAreFew s r
  pub acks : AcksAreFew s r
  pub hellos : HellosOnce r
  pub dones : DonesAreFew s r
  pub links : LinkFramesAreFew members (members ++ joiners) r

as_name : (x : List ℕ) (names : List (List ℕ)) → IsAmong x names → Among x names
as_name x [] among = among
as_name x (y ∷ names) (inl same) = inl same
as_name x (y ∷ names) (inr later) = inr (as_name x names later)

-- ---- whose join a frame is of

seek_of : (f : Frame) (body : Body) → f.body ≡ body → is_seek body ≡ true
    → (b : List ℕ) × (joiner_said f ≡ Some b) × (is_seek_of b f ≡ true)
seek_of f (Seek joiner) at is = (joiner, rw at refl, rw at (itself joiner))
seek_of f _ at is = absurd (cc)

tell_of : (f : Frame) {body : Body} → Said body → f.body ≡ body → is_tell_body body ≡ true
    → (b : List ℕ) × (joiner_said f ≡ Some b) × (tells_of b f.body ≡ true)
tell_of f (IsTell tell watch) at is = (tell.joiner, rw at refl, rw at (itself tell.joiner))
tell_of f _ at is = absurd (cc)

hello_of : (f : Frame) {body : Body} → Said body → f.body ≡ body → is_hello body ≡ true → joiner_said f ≡ Some f.to
hello_of f (IsHello hello) at is = rw at refl
hello_of f _ at is = absurd (cc)

heard_of : (f : Frame) (body : Body) → f.body ≡ body → is_heard body ≡ true → joiner_said f ≡ Some f.from
heard_of f (Heard session) at is = rw at refl
heard_of f _ at is = absurd (cc)

done_of : (f : Frame) (body : Body) → f.body ≡ body → is_done_body body ≡ true → joiner_said f ≡ Some f.to
done_of f Done at is = rw at refl
done_of f _ at is = absurd (cc)

-- a Hello is one of a core node or of a joining one
hello_from : {body : Body} → Said body → (x b : List ℕ) (f : Frame) → f.body ≡ body → is_hello body ≡ true → pointwise nat_eq f.to b ≡ true
    → pointwise nat_eq f.from x ≡ true → (is_core_hello x b f ≡ true) ⊎ (is_joining_hello x b f ≡ true)
hello_from (IsHello hello) x b f at is to from = elim (cases_Bool hello.is_core) [
  | inl core ↦ inl (rw (at, core, from, to) refl)
  | inr joins ↦ inr (rw (at, joins, from, to) refl)
]
hello_from _ x b f at is to from = absurd (cc)

module _ (p : SettingsValue) (members joiners : List (List ℕ)) (s : System) (r : Traffic) (all : AllAreFew p members joiners s r) where
  abbrev names : List (List ℕ)
  names = members ++ joiners

  abbrev name_total : ℕ
  name_total = length names

  abbrev joiner_total : ℕ
  joiner_total = length joiners

  -- ---- the names

  joiner_named : (f : Frame) (b : List ℕ) → IsAmong f r.sent → joiner_said f ≡ Some b → IsAmong b joiners
  joiner_named f b among is =
      let has = all.named.nodes b (all.named.joiners f b among is) in
      let new = all.of.joiners f b among is in
      elim ((among-append members joiners b).0 has) [
        | inl member ↦
            let wrong : true ≡ false = sym ((has_name-Decides members b).1 member) ∙ new in absurd (cc)
        | inr joins ↦ among_names b joiners joins
      ]

  from_named : (f : Frame) → IsAmong f r.sent → IsAmong f.from names
  from_named f among = among_names f.from names (all.named.nodes f.from (all.of.ends f among).0)

  to_named : (f : Frame) → IsAmong f r.sent → IsAmong f.to names
  to_named f among = among_names f.to names (all.named.nodes f.to (all.of.ends f among).1)

  -- ---- Seeks and Dones

  seeks : with_body is_seek r.sent ≤ joiner_total * p.digits
  seeks =
      let over = by_joiner r.sent joiners joiner_named (λ f. is_seek f.body) is_seek_of (λ f is.
      let of = seek_of f f.body refl is in record { joiner = of.0; is = of.1; passes = of.2 }) in
      let each = sum-most (λ b. count_by (is_seek_of b) r.sent) p.digits all.few.seeks.within joiners in
      omega (arith, over, each)

  dones : with_body is_done_body r.sent ≤ joiner_total * 1
  dones =
      let over = by_joiner r.sent joiners joiner_named (λ f. is_done_body f.body) is_done_to (λ f is.
      record {
        joiner = f.to;
        is = done_of f f.body refl is;
        passes = and_from (is_done_body f.body) (pointwise nat_eq f.to f.to) is (itself f.to);
      }) in
      let each = sum-most (λ b. count_by (is_done_to b) r.sent) 1 all.dones.within joiners in
      omega (arith, over, each)

  -- ---- Tells and Acks

  tells_by_ends : (b : List ℕ) → count_by (λ f. tells_of b f.body) r.sent ≤ name_total * (name_total * 2)
  tells_by_ends b =
      let t : Frame → Bool = λ f. tells_of b f.body in
      let over = by_sender r.sent names from_named to_named t in
      let from : (x : List ℕ) → count_by (λ f. t f && pointwise nat_eq f.from x) r.sent ≤ name_total * 2 =
      λ x.
      let more = by_receiver r.sent names from_named to_named t x in
      let each = sum-most (λ y. count_by (is_tell x y b) r.sent) 2 (λ y. all.tells.within x y b) names in
      omega (arith, more, each) in
      let each = sum-most (λ x. count_by (λ f. t f && pointwise nat_eq f.from x) r.sent) (name_total * 2) from names in
      omega (arith, over, each)

  tells : with_body is_tell_body r.sent ≤ joiner_total * (name_total * (name_total * 2))
  tells =
      let over = by_joiner r.sent joiners joiner_named (λ f. is_tell_body f.body) (λ b f. tells_of b f.body) (λ f is.
      let of = tell_of f (said_of f.body) refl is in record { joiner = of.0; is = of.1; passes = of.2 }) in
      let each = sum-most (λ b. count_by (λ f. tells_of b f.body) r.sent) (name_total * (name_total * 2)) tells_by_ends joiners in
      omega (arith, over, each)

  -- those to a name
  tells_to : (x : List ℕ) → count_by (is_tell_to x) r.sent ≤ joiner_total * (name_total * 2)
  tells_to x =
      let u : List ℕ → Frame → Bool = λ b f. tells_of b f.body && pointwise nat_eq f.to x in
      let over = by_joiner r.sent joiners joiner_named (is_tell_to x) u (λ f is.
      let parts = and_parts (is_tell_body f.body) (pointwise nat_eq f.to x) is in
      let of = tell_of f (said_of f.body) refl parts.0 in
      record { joiner = of.0; is = of.1; passes = and_from (tells_of of.0 f.body) (pointwise nat_eq f.to x) of.2 parts.1 }) in
      let of_one : (b : List ℕ) → count_by (u b) r.sent ≤ name_total * 2 = λ b.
      let more = by_sender r.sent names from_named to_named (u b) in
      let from : (y : List ℕ) → count_by (λ f. u b f && pointwise nat_eq f.from y) r.sent ≤ 2 = λ y.
      let within = all.tells.within y x b in
      let same = count-passing (λ f. u b f && pointwise nat_eq f.from y) (is_tell y x b) (λ f is.
      let parts = and_parts (u b f) (pointwise nat_eq f.from y) is in
      let inner = and_parts (tells_of b f.body) (pointwise nat_eq f.to x) parts.0 in
      and_from (tells_of b f.body) (pointwise nat_eq f.from y && pointwise nat_eq f.to x) inner.0
      (and_from (pointwise nat_eq f.from y) (pointwise nat_eq f.to x) parts.1 inner.1)) r.sent in
      omega (arith, within, same) in
      let each = sum-most (λ y. count_by (λ f. u b f && pointwise nat_eq f.from y) r.sent) 2 from names in
      omega (arith, more, each) in
      let each = sum-most (λ b. count_by (u b) r.sent) (name_total * 2) of_one joiners in
      omega (arith, over, each)

  acks_from : (x : List ℕ) → count_by (is_ack_from x) r.sent ≤ joiner_total * (name_total * 2)
  acks_from x = by_node (s.node x) refl
    where
      by_node : (node : Option NodeState) → s.node x ≡ node → count_by (is_ack_from x) r.sent ≤ joiner_total * (name_total * 2)
      by_node None is = let none = all.acks.fresh x is in omega (arith, none)
      by_node (Some node) is =
          let sent = all.acks.each x node is in
          let taken = all.known.each (is_tell_to x) in
          let few = tells_to x in
          omega (arith, sent, taken, few)

  acks : with_body is_ack r.sent ≤ name_total * (joiner_total * (name_total * 2))
  acks =
      let over = by_sender r.sent names from_named to_named (λ f. is_ack f.body) in
      let each = sum-most (λ x. count_by (is_ack_from x) r.sent) (joiner_total * (name_total * 2)) acks_from names in
      omega (arith, over, each)

  -- ---- Hellos and Heards

  hellos_to : (b : List ℕ) → count_by (is_hello_to b) r.sent ≤ name_total * 2
  hellos_to b =
      let over = by_sender r.sent names from_named to_named (is_hello_to b) in
      let from : (x : List ℕ) → count_by (λ f. is_hello_to b f && pointwise nat_eq f.from x) r.sent ≤ 2 = λ x.
      let core = all.hellos.core x b in
      let joining = all.hellos.joining x b in
      let either = count-either (λ f. is_hello_to b f && pointwise nat_eq f.from x) (is_core_hello x b) (is_joining_hello x b) (λ f is.
      let parts = and_parts (is_hello_to b f) (pointwise nat_eq f.from x) is in
      let inner = and_parts (is_hello f.body) (pointwise nat_eq f.to b) parts.0 in
      hello_from (said_of f.body) x b f refl inner.0 inner.1 parts.1) r.sent in
      omega (arith, core, joining, either) in
      let each = sum-most (λ x. count_by (λ f. is_hello_to b f && pointwise nat_eq f.from x) r.sent) 2 from names in
      omega (arith, over, each)

  hellos : with_body is_hello r.sent ≤ joiner_total * (name_total * 2)
  hellos =
      let over = by_joiner r.sent joiners joiner_named (λ f. is_hello f.body) is_hello_to (λ f is.
      record {
        joiner = f.to;
        is = hello_of f (said_of f.body) refl is;
        passes = and_from (is_hello f.body) (pointwise nat_eq f.to f.to) is (itself f.to);
      }) in
      let each = sum-most (λ b. count_by (is_hello_to b) r.sent) (name_total * 2) hellos_to joiners in
      omega (arith, over, each)

  heards : with_body is_heard r.sent ≤ joiner_total * (name_total * 2)
  heards =
      let over = by_joiner r.sent joiners joiner_named (λ f. is_heard f.body) is_heard_from (λ f is.
      record {
        joiner = f.from;
        is = heard_of f f.body refl is;
        passes = and_from (is_heard f.body) (pointwise nat_eq f.from f.from) is (itself f.from);
      }) in
      let from : (b : List ℕ) → count_by (is_heard_from b) r.sent ≤ name_total * 2 = λ b.
      let heard = heards_by_hellos p s r b all.known all.few in
      let hello = hellos_to b in
      omega (arith, heard, hello) in
      let each = sum-most (λ b. count_by (is_heard_from b) r.sent) (name_total * 2) from joiners in
      omega (arith, over, each)

  -- ---- Links and Releases

  -- one for each that has joined, and so many more
  abbrev new : List ℕ → ℕ
  new x = if has_name members x then 0 else 1

  abbrev more : List ℕ → ℕ
  more x = if has_name members x then 0 else name_total + 2

  a_member : (x : List ℕ) → IsAmong x members → has_name members x ≡ true
  a_member x among = (has_name-Decides members x).1 (as_name x members among)

  both_few : sum_by new names + sum_by more names ≤ joiner_total + joiner_total * (name_total + 2)
  both_few =
      let one : sum_by new names ≤ joiner_total * 1 = sum-failing (has_name members) 1 members joiners a_member in
      let two : sum_by more names ≤ joiner_total * (name_total + 2) =
      sum-failing (has_name members) (name_total + 2) members joiners a_member in
      omega (arith, one, two)

  -- at most so many pass a test, if between two names as many do as one number says of the receiver and another one of the sender
  abbrev most_between : ℕ
  most_between = name_total * (joiner_total + joiner_total * (name_total + 2))

  between : (t : Frame → Bool) (f g : List ℕ → ℕ)
      → sum_by f names + sum_by g names ≤ joiner_total + joiner_total * (name_total + 2)
      → ((x y : List ℕ) → count_by (λ h. t h && (pointwise nat_eq h.from x && pointwise nat_eq h.to y)) r.sent ≤ f y + g x)
      → count_by t r.sent ≤ most_between
  between t f g few each =
      let over = by_sender r.sent names from_named to_named t in
      let inner = sum-less (λ x. count_by (λ h. t h && pointwise nat_eq h.from x) r.sent) (λ x. sum_by (λ y. f y + g x) names) (λ x.
      let ends = by_receiver r.sent names from_named to_named t x in
      let less = sum-less (λ y. count_by (λ h. t h && (pointwise nat_eq h.from x && pointwise nat_eq h.to y)) r.sent) (λ y. f y + g x)
      (each x) names in
      omega (arith, ends, less)) names in
      let grid = sum-grid f g names in
      let times : name_total * (sum_by f names + sum_by g names) ≤ most_between = mul-le-mul_left name_total few in
      omega (arith, over, inner, grid, times)

  on : with_body links_on r.sent ≤ most_between
  on = between (λ f. links_on f.body) new more both_few all.links.on

  off : with_body links_off r.sent ≤ most_between
  off =
      between (λ f. links_off f.body) new more both_few (λ x y.
      let fewer = all.links.off x y in
      let few = all.links.on x y in
      omega (arith, fewer, few))

  released : with_body releases_pin r.sent ≤ most_between
  released =
      let few = both_few in
      between (λ f. releases_pin f.body) more new (omega (arith, few)) (λ x y.
      let fewer = all.links.releases y x in
      let links = all.links.on y x in
      omega (arith, fewer, links))

  -- ---- all

  pub in_all : length r.sent ≤ most_of_joins p (length joiners) (length (members ++ joiners))
  in_all =
      let kinds = all_kinds r.sent all.of.kinds in
      omega (arith, kinds, seeks, dones, tells, acks, hellos, heards, on, off, released)

-- ---- runs

pub run_joins_send_few : RunJoinsSendFew
run_joins_send_few p members moves are may alone =
    let rest = system_at_rest p members in
    let s = after_moves p rest moves in
    let r = traffic_of p rest no_traffic moves in
    let joiners = joined_in moves in
    let named = run_named p members moves are may alone in
    let few : AllAreFew p members joiners s r = record {
      of = run_sent_are_of_joins p members moves are may alone;
      named = named;
      known = run_knows_all p members moves are may;
      few = run_sends_few p members moves are may;
      tells = run_tells_few p members moves are may;
      acks = run_acks_few p members moves are may;
      hellos = few_are_once s r (run_hellos_few p members moves are may);
      dones = run_dones_few p members moves are may;
      links = run_links_few p members (members ++ joiners) moves are may alone named.nodes;
    } in
    subst (λ n. length r.sent ≤ most_of_joins p (length joiners) n) (length-append members joiners) (in_all p members joiners s r few)
