-- What a step sees of a node: its table, and the pairs that it holds.
use Rattle.std.proofs.Common.{◌≡◌, inl, inr, ℕ, suc, ◌+◌, ◌*◌, ◌/◌, ◌%◌, ◌<◌, ◌≤◌, ◌^◌, Bool, true, false, List, [], ◌∷◌, length, map, filter, get_or, All, Option, None, Some, subst, arith}
use Rattle.std.specs.Prelude.{nat_lt, ◌&&◌, is_some}
use Rattle.std.specs.Option.{option_map}
use Rattle.std.specs.List.{enumerate_from, flat_map}
use Rattle.std.proofs.Math.Nat.{mod-lt}
use Rattle.std.proofs.lemmas.Bool.{cases_Bool, ltb-true, or_left}
use Rattle.std.proofs.lemmas.Nat.{div_below}
use Rattle.std.proofs.lemmas.List.{length-map}
use Rattle.std.proofs.lemmas.List.Concat.{flat_map-cons}
use Rattle.std.proofs.lemmas.List.Elements.{All-append, All-filter, All-map, All-nil}
use Rattle.tap_name.specs.Name.{IsName}
use Rattle.tap_name.specs.Settings.{SettingsValue}
use Rattle.tap_table.specs.Table.{IsTable, Row, SlotLinks, TableValue, rows, rows_of}
use Rattle.tap_pointer.specs.Pointers.{held_among, held_or_laid_count, is_held, is_held_or_laid, pairs_held}
use Rattle.tap_pointer.specs.declared.pair.Pair.{Pair}
use Rattle.tap_pointer.specs.declared.state.PairState.{PairState}
use Rattle.tap_node_common.specs.SoundNode.{has_numbers_left, join_sessions_limit, pairs_limit, stamp_limit}
use Rattle.tap_node_common.proofs.Rows.{rows_by_name}
use Rattle.tap_session.specs.Session.{most_sessions}
use Rattle.tap_log.specs.declared.record.NodeWord.{NodeWord}
use Rattle.tap_log.specs.declared.record.Record.TheVariants.{TableOf}
use Rattle.tap_log.specs.MoreRecords.{at_most_one}
use Rattle.tap_line.specs.Line.{IsLink}
use Rattle.tap_shape.specs.Shape.{AreLinks, ArePairs, IsPair, IsShaped}
use Rattle.tap_rule.specs.Node.{NodeState, settings_of}
use Rattle.tap_moves.specs.KnownNames.{IsNodeOf}
use Rattle.tap_runs.specs.Observed.{link_line, pair_line, pointers_record, table_record, word_of_status}
use Rattle.tap_lawful_shapes.proofs.Near.{AreNear, IsNear, none_near, one_near}

-- ---- tables

module _ (p : SettingsValue) (some : 0 < p.base) (few : p.digits ≤ 40) where
  abbrev Fits : Row → Type 0
  Fits row = IsLink p (link_line row)

  -- the links of one slot, whose number is one of a table's
  slot_lines : (number : ℕ) (links : SlotLinks) → number < p.digits * p.base → All (λ e. IsName p e.target) links
      → All Fits (rows_of p.base (number, links))
  slot_lines number links inside names =
      let level : number / p.base < p.digits = div_below number p.base p.digits some inside in
      All-map Fits (λ e. record { slot = record { level = number / p.base; digit = number % p.base }; entry = e }) links
      (λ i e within. record {
        level = omega (arith, level, few);
        digit = mod-lt number some;
        name = names i e within;
      })

  slots_lines : (first : ℕ) (slots : List SlotLinks) → first + length slots ≤ p.digits * p.base
      → ((number : ℕ) → All (λ e. IsName p e.target) (get_or slots number []))
      → All Fits (flat_map (rows_of p.base) (enumerate_from first slots))
  slots_lines first [] inside names = All-nil Fits
  slots_lines first (links ∷ slots) inside names =
      rw (flat_map-cons (rows_of p.base) (first, links) (enumerate_from (first + 1) slots)) (
      All-append Fits (rows_of p.base (first, links)) (flat_map (rows_of p.base) (enumerate_from (first + 1) slots))
      (slot_lines first links (omega (arith, inside)) (names 0))
      (slots_lines (first + 1) slots (omega (arith, inside)) (λ number. names (suc number))))

rows_lines : (t : TableValue) → IsTable t → All (λ row. IsLink t.settings (link_line row)) (rows t)
rows_lines t valid =
    let from = valid.limits.base_from in
    let few = valid.limits.digits_to in
    let size : t.settings.base * t.settings.digits ≡ t.settings.digits * t.settings.base = grind arith in
    let count = valid.count in
    slots_lines t.settings (omega (arith, from)) (omega (arith, few)) 0 t.slots (omega (arith, size, count))
    (λ number k d within. (valid.standing number k d within).is_name)

-- ---- pointers

filter_fewer : {X : Type 0} (p q : X → Bool) → ((x : X) → p x ≡ true → q x ≡ true) → (xs : List X) → length (filter p xs) ≤ length (filter q xs)
filter_fewer p q more [] = omega arith
filter_fewer p q more (x ∷ xs) =
    let rest = filter_fewer p q more xs in
    elim (cases_Bool (p x)) [
      | inl passes ↦ let too = more x passes in rw (passes, too) (omega (arith, rest))
      | inr fails ↦ rw fails (elim (cases_Bool (q x)) [
        | inl other ↦ rw other (omega (arith, rest))
        | inr none ↦ rw none rest
      ])
    ]

held_few : (pairs : List (Pair × PairState)) → length (held_among pairs) ≤ held_or_laid_count pairs
held_few pairs =
    let size = length-map (filter (λ e. is_held e.1) pairs) (λ (e : Pair × PairState). e.0) in
    let few = filter_fewer (λ (e : Pair × PairState). is_held e.1) (λ e. is_held_or_laid e.1)
    (λ e held. or_left (is_held e.1) (is_some e.1.laid) held) pairs in
    omega (arith, size, few)

last_part : (a b c d : Bool) → (a && b && c && d) ≡ true → d ≡ true
last_part true true true d is = is
last_part true true false d is = absurd (cc)
last_part true false c d is = absurd (cc)
last_part false b c d is = absurd (cc)

-- ---- a node

module _ (p : SettingsValue) (c : Bool) (x : List ℕ) (node : NodeState) (is : IsNodeOf p x node) where
  pub node_named : IsName p x
  node_named = subst (λ q. IsName q x) is.settings (subst (IsName (settings_of node)) is.name is.is_node.ties.table.owner)

  lines_near : All (IsLink p) (map link_line (rows node.ties.table))
  lines_near =
      subst (λ (q : SettingsValue). All (IsLink q) (map link_line (rows node.ties.table))) is.settings
      (All-map (IsLink (settings_of node)) link_line (rows node.ties.table) (rows_lines node.ties.table is.is_node.ties.table))

  lines_few : length (map link_line (rows node.ties.table)) < 2 ^ 64
  lines_few =
      let size = length-map (rows node.ties.table) link_line in
      let same = rows_by_name node.ties.table is.is_node.ties.table in
      let few : _ ≤ 255 = is.knows.few in
      omega (arith, size, same, few)

  pub table_near : (name : List ℕ) → IsName p name → AreNear p c (at_most_one (table_record name node))
  unfolding IsNear IsShaped
  table_near name named = by_word (word_of_status node.status)
    where
      by_word : (word : Option NodeWord)
          → AreNear p c (at_most_one (option_map (λ w. TableOf name w (map link_line (rows node.ties.table))) word))
      by_word None = none_near p c
      by_word (Some word) =
          let links : AreLinks p (map link_line (rows node.ties.table)) = record { few = lines_few; each = lines_near } in
          one_near p c (TableOf name word (map link_line (rows node.ties.table))) (named, links)

  pairs_near : All (IsPair p) (map pair_line (pairs_held node.pointers))
  pairs_near =
      let pairs = node.pointers.pairs in
      let Named : Pair × PairState → Type 0 = λ e. IsPair p (pair_line e.0) in
      let all : All Named pairs = λ k d within.
      let server = is.knows.pairs k d within in
      (subst (λ (q : SettingsValue). IsName q (get_or pairs k d).0.object) is.settings (is.is_node.objects k d within), server.server) in
      All-map (IsPair p) pair_line (pairs_held node.pointers)
      (All-map (λ pair. IsPair p (pair_line pair)) (λ (e : Pair × PairState). e.0) (filter (λ e. is_held e.1) pairs)
      (All-filter (λ (e : Pair × PairState). is_held e.1) Named pairs all))

  pairs_few : has_numbers_left node ≡ true → length (map pair_line (pairs_held node.pointers)) < 2 ^ 64
  pairs_few left =
      let count = held_or_laid_count node.pointers.pairs in
      let last : nat_lt count pairs_limit ≡ true =
      last_part (nat_lt node.sessions.opened join_sessions_limit) (nat_lt node.cast_sessions.opened most_sessions) (nat_lt node.stamp stamp_limit)
      (nat_lt count pairs_limit) left in
      let few = ltb-true count pairs_limit last in
      let held = held_few node.pointers.pairs in
      let size = length-map (pairs_held node.pointers) pair_line in
      omega (arith, few, held, size)

  pub pointers_near : (name : List ℕ) → IsName p name → has_numbers_left node ≡ true → AreNear p c (pointers_record name node ∷ [])
  unfolding IsNear IsShaped
  pointers_near name named left =
      let pairs : ArePairs p (map pair_line (pairs_held node.pointers)) = record { few = pairs_few left; each = pairs_near } in
      one_near p c (pointers_record name node) (named, pairs)
