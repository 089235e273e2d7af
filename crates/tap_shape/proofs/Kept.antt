-- A line that is taken keeps what holds of a reader.
use Rattle.std.proofs.Common.{◌≡◌, inl, inr, ℕ, ◌-◌, nat_le, Bool, true, List, [], ◌∷◌, ◌++◌, Option, None, Some, option_map, refl, sym, subst, arith, length-append}
use Rattle.std.specs.Prelude.{option_and_then}
use Rattle.std.proofs.lemmas.Bool.{and_parts, cases_Bool, leb-true}
use Rattle.std.proofs.lemmas.List.Elements.{All-nil, All-push}
use Rattle.tap_name.specs.Name.{IsName}
use Rattle.tap_scenario.specs.Scenario.{most_frames}
use Rattle.tap_log.specs.declared.record.LinkLine.{LinkLine}
use Rattle.tap_log.specs.declared.record.Pair.{Pair}
use Rattle.tap_log.specs.declared.record.Record.{Record}
use Rattle.tap_log.specs.declared.record.Record.TheVariants as item
use Rattle.tap_log.specs.Kinds.{is_carried}
use Rattle.tap_line.specs.declared.line.Beginning.{Beginning}
use Rattle.tap_line.specs.declared.line.Line.{Line}
use Rattle.tap_line.specs.declared.line.Line.TheVariants as line
use Rattle.tap_line.specs.Line.{IsBeginning, IsLine, IsLink, IsWhole}
use Rattle.tap_shape.specs.declared.reader.Begun.{Begun}
use Rattle.tap_shape.specs.declared.reader.Open.{Open}
use Rattle.tap_shape.specs.declared.reader.Open.TheVariants.{Members, Ready, Links, Pairs, Over}
use Rattle.tap_shape.specs.Shape.{IsPair, IsShaped}
use Rattle.tap_shape.specs.Reader.{after, begun, closed, line_taken, link_with, may_send, member_with, pair_with, steps_with}
use Rattle.tap_shape.proofs.Distinct.{distinct_push}
use Rattle.tap_shape.proofs.Order.{further_taken, member_taken, same_number}
use Rattle.tap_shape.proofs.Valid.{IsBegun, IsCounted, IsOpenWith, closed_carried, closed_counted, counted_push, steps_counted, steps_few}

-- what a first line that is taken says
pub record FirstTaken (first : Beginning) (next : Begun) : Type 0 where
  pub may : may_send first.settings first.frames ≡ true
  pub is : record { settings = first.settings; records = []; steps = 0; pending = Members first.frames [] } ≡ next

pub first_taken : (first : Beginning) (next : Begun) → begun [] first ≡ Some next → FirstTaken first next
first_taken first next begins =
    elim (cases_Bool (may_send first.settings first.frames)) [
      | inl may ↦
          let it : Some (record { settings = first.settings; records = []; steps = 0; pending = Members first.frames [] }) ≡ Some next =
          rw may at begins in record { may = may; is = cc }
      | inr never ↦ absurd (let it : None ≡ Some next = rw never at begins in cc)
    ]

-- a beginning whose run may send so many frames
pub first_kept : (first : Beginning) (next : Begun) → IsBeginning first → FirstTaken first next → IsBegun next
first_kept first next is taken =
    let both = and_parts (nat_le 1 first.frames) (nat_le first.frames (most_frames first.settings.digits)) taken.may in
    subst IsBegun taken.is (record {
      limits = is.limits;
      first = refl;
      none = refl;
      frames_from = leb-true 1 first.frames both.0;
      frames_to = leb-true first.frames (most_frames first.settings.digits) both.1;
      few = omega arith;
      names = All-nil (IsName first.settings);
      distinct = λ i j d less within. absurd (omega (arith, within));
    })

-- a record of one line may stand after a beginning
whole_shaped : (p : _) (carrier : Bool) (entry : Record) → IsWhole p carrier entry → IsShaped p carrier entry
unfolding IsShaped
whole_shaped p carrier (item.Begin settings frames members) is = absurd is
whole_shaped p carrier (item.TableOf name status links) is = absurd is
whole_shaped p carrier (item.PointersOf name pairs) is = absurd is
whole_shaped p carrier entry is = is

module _ (r next : Begun) (valid : IsBegun r) where
  opened_kept : (pending : Open)
      → ((done : List Record) → IsCounted r.settings done r.steps → IsOpenWith r.settings done r.steps pending)
      → (found : Option (List Record)) → closed r ≡ found → option_map (after r r.steps pending) found ≡ Some next → IsBegun next
  opened_kept pending made None closes is = absurd (cc)
  opened_kept pending made (Some done) closes is =
      let same : after r r.steps pending done ≡ next = cc in
      subst IsBegun same (made done (closed_counted r.settings r.records done r.steps r.pending valid closes))

  whole_kept : (entry : Record) → IsWhole r.settings (is_carried r.records) entry → (steps : Option ℕ) → steps_with r.steps entry ≡ steps
      → (found : Option (List Record)) → closed r ≡ found
      → option_and_then (λ n. option_map (λ records. after r n Ready (records ++ entry ∷ [])) found) steps ≡ Some next → IsBegun next
  whole_kept entry fits None counts found closes is = absurd (cc)
  whole_kept entry fits (Some n) counts None closes is = absurd (cc)
  whole_kept entry fits (Some n) counts (Some done) closes is =
      let same : after r n Ready (done ++ entry ∷ []) ≡ next = cc in
      let counted = closed_counted r.settings r.records done r.steps r.pending valid closes in
      let carried = closed_carried r.settings r.records done r.pending closes in
      let shaped = whole_shaped r.settings (is_carried r.records) entry fits in
      subst IsBegun same
      (counted_push r.settings done entry r.steps n counted (subst (λ c. IsShaped r.settings c entry) (sym carried) shaped)
      (steps_counted r.steps n entry (steps_few r.settings done r.steps counted) counts))

  member_kept : (name : List ℕ) → IsName r.settings name → (pending : Open) → IsOpenWith r.settings r.records r.steps pending
      → member_with r name pending ≡ Some next → IsBegun next
  member_kept name named (Members frames members) opening is =
      let taken = member_taken r frames members name next is in
      let less = taken.few in
      let size = length-append members (name ∷ []) in
      subst IsBegun taken.is (record {
        limits = opening.limits;
        first = opening.first;
        none = opening.none;
        frames_from = opening.frames_from;
        frames_to = opening.frames_to;
        few = omega (arith, less, size);
        names = All-push (IsName r.settings) members name opening.names named;
        distinct = distinct_push members name opening.distinct taken.new;
      })
  member_kept name named Ready opening is = absurd (cc)
  member_kept name named (Links n s l m) opening is = absurd (cc)
  member_kept name named (Pairs n l m) opening is = absurd (cc)
  member_kept name named Over opening is = absurd (cc)

  link_kept : (one : LinkLine) → IsLink r.settings one → (pending : Open) → IsOpenWith r.settings r.records r.steps pending
      → link_with r one pending ≡ Some next → IsBegun next
  link_kept one fits (Links name status links left) open_with is =
      let taken = further_taken left (after r r.steps (Links name status (links ++ one ∷ []) (left - 1)) r.records) next is in
      let few = open_with.2 in
      let size = same_number links one left taken.0 in
      subst IsBegun taken.1
      (open_with.0, open_with.1, (omega (arith, few, size)), All-push (IsLink r.settings) links one open_with.3 fits)
  link_kept one fits (Members f m) open_with is = absurd (cc)
  link_kept one fits Ready open_with is = absurd (cc)
  link_kept one fits (Pairs n l m) open_with is = absurd (cc)
  link_kept one fits Over open_with is = absurd (cc)

  pair_kept : (one : Pair) → IsPair r.settings one → (pending : Open) → IsOpenWith r.settings r.records r.steps pending
      → pair_with r one pending ≡ Some next → IsBegun next
  pair_kept one fits (Pairs name pairs left) open_with is =
      let taken = further_taken left (after r r.steps (Pairs name (pairs ++ one ∷ []) (left - 1)) r.records) next is in
      let few = open_with.2 in
      let size = same_number pairs one left taken.0 in
      subst IsBegun taken.1
      (open_with.0, open_with.1, (omega (arith, few, size)), All-push (IsPair r.settings) pairs one open_with.3 fits)
  pair_kept one fits (Members f m) open_with is = absurd (cc)
  pair_kept one fits Ready open_with is = absurd (cc)
  pair_kept one fits (Links n s l m) open_with is = absurd (cc)
  pair_kept one fits Over open_with is = absurd (cc)

  -- each line that is taken
  pub line_kept : (l : Line) → IsLine r.settings (is_carried r.records) l → line_taken r l ≡ Some next → IsBegun next
  line_kept (line.Whole entry) fits is = whole_kept entry fits (steps_with r.steps entry) refl (closed r) refl is
  line_kept (line.Begin first) fits is = absurd (cc)
  line_kept (line.Member name) fits is = member_kept name fits r.pending valid is
  line_kept (line.Table name status left) fits is =
      opened_kept (Links name status [] left)
      (λ done counted. (counted, fits.0, (let few = fits.1 in omega (arith, few)), All-nil (IsLink r.settings))) (closed r) refl is
  line_kept (line.Link one) fits is = link_kept one fits r.pending valid is
  line_kept (line.Pointers name left) fits is =
      opened_kept (Pairs name [] left)
      (λ done counted. (counted, fits.0, (let few = fits.1 in omega (arith, few)), All-nil (IsPair r.settings))) (closed r) refl is
  line_kept (line.Pointer one) fits is = pair_kept one fits r.pending valid is
  line_kept line.End fits is = opened_kept Over (λ done counted. counted) (closed r) refl is
