-- The words of a Hello, one name at a time.
use Rattle.std.proofs.Common.{◌≡◌, ℕ, ◌+◌, ◌≤◌, Bool, true, false, Option, None, Some, List, ◌++◌, drop, length, slice_get, arith, ap, refl, ◌∙◌, inl, inr}
use Rattle.std.specs.Prelude.{◌&&◌}
use Rattle.std.specs.Option.{is_none}
use Rattle.std.proofs.lemmas.Bool.{cases_Bool}
use Rattle.std.proofs.lemmas.List.{length-append}
use Rattle.tap_name.specs.declared.slot.Offered.{Offered}
use Rattle.tap_table.specs.declared.tie.Tie.{Tie}
use Rattle.tap_table.specs.Table.{has_room_near, kind_in}
use Rattle.tap_table.specs.Ties.{TiesValue, stamp_after, tie_where}
use Rattle.tap_table.proofs.OneAdded.{added, drop_got}
use Rattle.tap_join.specs.Hello.{after_links, is_own, links_tell, offered_tells, with_offered, words_of}

-- the stamp after a word stands one further, and without one where it stood
stamp_of_word : (told : Bool) (to : List ℕ) (last : ℕ)
    → stamp_after last (tie_where told to (last + 1) true) ≡ last + length (words_of (tie_where told to (last + 1) true))
stamp_of_word true to last = refl
stamp_of_word false to last = omega arith

pub stamp_counts : (ties : TiesValue) (last : ℕ) (link : Offered)
    → stamp_after last (offered_tells ties last link) ≡ last + length (words_of (offered_tells ties last link))
stamp_counts ties last link =
    let absent = is_none (kind_in ties.table link.name) in
    elim (cases_Bool (is_own ties link)) [
      | inl own ↦ rw own (omega arith)
      | inr other ↦ elim (cases_Bool link.settled) [
        | inl core ↦ rw (other, core) (stamp_of_word (absent && has_room_near ties.table link.name) link.name last)
        | inr not_core ↦ rw (other, not_core) (stamp_of_word absent link.name last)
      ]
    ]

-- the names of a Hello from one on: it is taken, and then the others
module _ (ties : TiesValue) (last : ℕ) (links : List Offered) (i : ℕ) (link : Offered) (got : slice_get links i ≡ Some link) where
  pub after_next : after_links ties (drop i links) ≡ after_links (with_offered ties link) (drop (i + 1) links)
  after_next = ap (after_links ties) (drop_got links i link got)

  pub tells_next : links_tell ties last (drop i links)
      ≡ words_of (offered_tells ties last link)
      ++ links_tell (with_offered ties link) (last + length (words_of (offered_tells ties last link))) (drop (i + 1) links)
  tells_next =
      let first = words_of (offered_tells ties last link) in
      let tell : ℕ → List Tie = λ n. first ++ links_tell (with_offered ties link) n (drop (i + 1) links) in
      ap (links_tell ties last) (drop_got links i link got) ∙ ap tell (stamp_counts ties last link)

-- after one name of a Hello more: what is told, and where the stamp stands
module _ (ties : TiesValue) (last : ℕ) (links : List Offered) (i : ℕ) (link : Offered) (got : slice_get links i ≡ Some link) where
  abbrev word : List Tie
  word = words_of (offered_tells ties last link)

  abbrev others : List Tie
  others = links_tell (with_offered ties link) (last + length word) (drop (i + 1) links)

  pub told_left : (done all : List Tie) → done ++ links_tell ties last (drop i links) ≡ all → (done ++ word) ++ others ≡ all
  told_left done all was =
      added done word others (links_tell ties last (drop i links)) all (tells_next ties last links i link got) was

  pub stamps_left : (all : ℕ) → last + length (links_tell ties last (drop i links)) ≡ all → last + length word + length others ≡ all
  stamps_left all was =
      let len = ap length (tells_next ties last links i link got) ∙ length-append word others in omega (arith, len, was)

  -- a word takes one number at most
  one_word : (told : Option Tie) → length (words_of told) ≤ 1
  one_word None = omega arith
  one_word (Some tie) = omega arith

  pub one_number : length word ≤ 1
  one_number = one_word (offered_tells ties last link)
