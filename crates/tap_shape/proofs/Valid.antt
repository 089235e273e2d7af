-- What holds of a reader: its records are a shape, or it is at the beginning; and its numbers and names are those of lines.
use Rattle.std.proofs.Common.{◌≡◌, inl, inr, ℕ, ◌+◌, ◌^◌, ◌<◌, ◌≤◌, nat_le, All, Bool, List, [], ◌∷◌, ◌++◌, length, None, Some, refl, ap, sym, subst, ◌∙◌, arith, length-append}
use Rattle.std.proofs.lemmas.Bool.{cases_Bool, leb-false}
use Rattle.std.proofs.lemmas.List.Elements.{All-nil, All-push}
use Rattle.tap_name.specs.Settings.{AreWithinLimits, SettingsValue}
use Rattle.tap_name.specs.Name.{IsName}
use Rattle.tap_name.specs.Names.{AreDistinct}
use Rattle.tap_scenario.specs.Scenario.{IsScript, most_frames, most_members, most_steps}
use Rattle.tap_log.specs.declared.record.Record.{Record}
use Rattle.tap_log.specs.declared.record.Record.TheVariants as item
use Rattle.tap_log.specs.Kinds.{is_carried, step_of}
use Rattle.tap_log.specs.Log.{begun_steps}
use Rattle.tap_log.specs.MoreRecords.{at_most_one}
use Rattle.tap_log.proofs.MoreRecords.{carried_alone, carried_second, carried_third, is_carried-push, one_more_record_holds}
use Rattle.tap_line.specs.Line.{IsLink}
use Rattle.tap_shape.specs.declared.reader.Begun.{Begun}
use Rattle.tap_shape.specs.declared.reader.Open.{Open}
use Rattle.tap_shape.specs.declared.reader.Open.TheVariants.{Members, Ready, Links, Pairs, Over}
use Rattle.tap_shape.specs.Shape.{IsPair, IsShape, IsShaped}
use Rattle.tap_shape.specs.Reader.{closed_with, one_step_more, steps_with}
use Rattle.tap_shape.proofs.Order.{ends_above_zero, ends_at_zero}

-- ---- what holds

-- a shape with these settings and so many steps
pub record IsCounted (p : SettingsValue) (records : List Record) (steps : ℕ) : Type 0 where
  pub shape : IsShape records
  pub settings : shape.settings ≡ p
  pub count : steps ≡ length (begun_steps records)

-- a beginning whose members may go on
pub record IsOpening (p : SettingsValue) (records : List Record) (steps frames : ℕ) (members : List (List ℕ)) : Type 0 where
  pub limits : AreWithinLimits p
  pub first : records ≡ []
  pub none : steps ≡ 0
  pub frames_from : 1 ≤ frames
  pub frames_to : frames ≤ most_frames p.digits
  pub few : length members ≤ most_members
  pub names : All (IsName p) members
  pub distinct : AreDistinct members

-- what stands before what is open, and what is known of it
abbrev pub IsOpenWith : SettingsValue → List Record → ℕ → Open → Type 0
IsOpenWith p records steps (Members frames members) = IsOpening p records steps frames members
IsOpenWith p records steps Ready = IsCounted p records steps
IsOpenWith p records steps (Links name status links left) =
    IsCounted p records steps × IsName p name × (length links + left < 2 ^ 64) × All (IsLink p) links
IsOpenWith p records steps (Pairs name pairs left) =
    IsCounted p records steps × IsName p name × (length pairs + left < 2 ^ 64) × All (IsPair p) pairs
IsOpenWith p records steps Over = IsCounted p records steps

abbrev pub IsBegun : Begun → Type 0
IsBegun r = IsOpenWith r.settings r.records r.steps r.pending

-- ---- a shape with one record more

-- a record may stand after others whether these make a log carried or not, if it may stand there in the longer log
pub carried_push : (p : SettingsValue) (first : Record) (items : List Record) (entry : Record)
    → IsShaped p (is_carried (first ∷ items)) entry → IsShaped p (is_carried (first ∷ (items ++ entry ∷ []))) entry
unfolding IsShaped
carried_push p first [] item.Carrier is = tt
carried_push p first [] entry is =
    subst (λ c. IsShaped p c entry) (carried_alone first ∙ sym (carried_second first entry (λ same. absurd (cc)))) is
carried_push p first (next ∷ items) entry is =
    subst (λ c. IsShaped p c entry) (carried_third first next items (items ++ entry ∷ [])) is

-- those before it may stand there too
earlier_push : (p : SettingsValue) (first : Record) (items : List Record) (entry : Record)
    → All (IsShaped p (is_carried (first ∷ items))) items → All (IsShaped p (is_carried (first ∷ (items ++ entry ∷ [])))) items
earlier_push p first [] entry all = All-nil (IsShaped p (is_carried (first ∷ entry ∷ [])))
earlier_push p first (next ∷ items) entry all =
    subst (λ c. All (IsShaped p c) (next ∷ items)) (carried_third first next items (items ++ entry ∷ [])) all

-- a beginning is as good in a log that is carried as in one that isn't
pub any_carrier : (p : SettingsValue) (frames : ℕ) (members : List (List ℕ)) (c d : Bool)
    → IsScript (record { settings = p; frames = frames; carrier = c; members = members; steps = [] })
    → IsScript (record { settings = p; frames = frames; carrier = d; members = members; steps = [] })
any_carrier p frames members c d is = record {
  settings = is.settings;
  frames_from = is.frames_from;
  frames_to = is.frames_to;
  members_from = is.members_from;
  members_to = is.members_to;
  members = is.members;
  distinct = is.distinct;
  steps_to = omega arith;
  steps = λ k d less. absurd (omega (arith, less));
}

begun_push : (p : SettingsValue) (frames : ℕ) (members : List (List ℕ)) (items : List Record) (entry : Record)
    → IsScript (record { settings = p; frames = frames; carrier = is_carried (item.Begin p frames members ∷ items); members = members; steps = [] })
    → All (IsShaped p (is_carried (item.Begin p frames members ∷ items))) items
    → IsShaped p (is_carried (item.Begin p frames members ∷ items)) entry
    → length (begun_steps (item.Begin p frames members ∷ (items ++ entry ∷ []))) ≤ most_steps
    → IsShape (item.Begin p frames members ∷ (items ++ entry ∷ []))
begun_push p frames members items entry valid all is few =
    let first = item.Begin p frames members in
    let longer = is_carried (first ∷ (items ++ entry ∷ [])) in
    record {
      settings = p;
      frames = frames;
      members = members;
      items = items ++ entry ∷ [];
      is = refl;
      valid = any_carrier p frames members (is_carried (first ∷ items)) longer valid;
      few = few;
      shaped = All-push (IsShaped p longer) items entry (earlier_push p first items entry all) (carried_push p first items entry is);
    }

-- how many steps there are with one record more
pub record Counts (steps next : ℕ) (entry : Record) : Type 0 where
  pub is : next ≡ steps + length (at_most_one (step_of entry))
  pub few : next ≤ most_steps

one_more : (steps next : ℕ) → one_step_more steps ≡ Some next → (next ≡ steps + 1) × (next ≤ most_steps)
one_more steps next is =
    elim (cases_Bool (nat_le most_steps steps)) [
      | inl full ↦ absurd (let it : None ≡ Some next = rw full at is in cc)
      | inr room ↦
          let it : Some (steps + 1) ≡ Some next = rw room at is in
          let same : steps + 1 ≡ next = cc in
          let less = leb-false most_steps steps room in
          (sym same, omega (arith, same, less))
    ]

pub steps_counted : (steps next : ℕ) (entry : Record) → steps ≤ most_steps → steps_with steps entry ≡ Some next → Counts steps next entry
unfolding steps_with
steps_counted steps next (item.Step index step) few is =
    let both = one_more steps next is in record { is = both.0; few = both.1 }
steps_counted steps next entry few is =
    let same : steps ≡ next = cc in
    record { is = sym same ∙ (let none : steps ≡ steps + 0 = omega arith in none); few = subst (λ n. n ≤ most_steps) same few }

pub steps_few : (p : SettingsValue) (records : List Record) (steps : ℕ) → IsCounted p records steps → steps ≤ most_steps
steps_few p records steps counted = subst (λ n. n ≤ most_steps) (sym counted.count) counted.shape.few

-- a shape with one record more is one
pub counted_push : (p : SettingsValue) (records : List Record) (entry : Record) (steps next : ℕ) → IsCounted p records steps
    → IsShaped p (is_carried records) entry → Counts steps next entry → IsCounted p (records ++ entry ∷ []) next
unfolding begun_push
counted_push p records entry steps next counted is counts =
    let shape = counted.shape in
    let q = shape.settings in
    let form = item.Begin q shape.frames shape.members ∷ shape.items in
    let all_steps : length (begun_steps (records ++ entry ∷ [])) ≡ next =
    ap length (one_more_record_holds.steps records entry) ∙ length-append (begun_steps records) (at_most_one (step_of entry))
    ∙ ap (λ n. n + length (at_most_one (step_of entry))) (sym counted.count) ∙ sym counts.is in
    let same_steps : length (begun_steps (form ++ entry ∷ [])) ≡ next = ap (λ l. length (begun_steps (l ++ entry ∷ []))) (sym shape.is) ∙ all_steps in
    subst (λ l. IsCounted p (l ++ entry ∷ []) next) (sym shape.is)
    (record {
      shape = begun_push q shape.frames shape.members shape.items entry
          (any_carrier q shape.frames shape.members (is_carried records) (is_carried form) shape.valid)
          (subst (λ l. All (IsShaped q (is_carried l)) shape.items) shape.is shape.shaped)
          (subst (λ s. IsShaped s (is_carried form) entry) (sym counted.settings) (subst (λ l. IsShaped p (is_carried l) entry) shape.is is))
          (subst (λ n. n ≤ most_steps) (sym same_steps) counts.few);
      settings = counted.settings;
      count = sym same_steps;
    })

-- ---- what is closed is a shape

begun_alone : (p : SettingsValue) (frames : ℕ) (members : List (List ℕ)) → IsOpening p [] 0 frames members → 1 ≤ length members
    → IsCounted p (item.Begin p frames members ∷ []) 0
begun_alone p frames members opening some = record {
  shape = record {
    settings = p;
    frames = frames;
    members = members;
    items = [];
    is = refl;
    valid = record {
      settings = opening.limits;
      frames_from = opening.frames_from;
      frames_to = opening.frames_to;
      members_from = some;
      members_to = opening.few;
      members = opening.names;
      distinct = opening.distinct;
      steps_to = omega arith;
      steps = λ k d less. absurd (omega (arith, less));
    };
    few = omega arith;
    shaped = All-nil (IsShaped p (is_carried (item.Begin p frames members ∷ [])));
  };
  settings = refl;
  count = refl;
}

pub opening_closes : (p : SettingsValue) (records : List Record) (steps frames : ℕ) (members : List (List ℕ))
    → IsOpening p records steps frames members → 1 ≤ length members → IsCounted p (records ++ item.Begin p frames members ∷ []) steps
opening_closes p records steps frames members opening some =
    let again : IsOpening p [] 0 frames members = record {
      limits = opening.limits;
      first = refl;
      none = refl;
      frames_from = opening.frames_from;
      frames_to = opening.frames_to;
      few = opening.few;
      names = opening.names;
      distinct = opening.distinct;
    } in
    subst (λ l. IsCounted p (l ++ item.Begin p frames members ∷ []) steps) (sym opening.first)
    (subst (IsCounted p (item.Begin p frames members ∷ [])) (sym opening.none) (begun_alone p frames members again some))

-- a table or pointers are no step
table_counts : (name : List ℕ) (status : _) (links : _) (steps : ℕ) → steps ≤ most_steps → Counts steps steps (item.TableOf name status links)
table_counts name status links steps few = record { is = (let none : steps ≡ steps + 0 = omega arith in none); few = few }

pointers_count : (name : List ℕ) (pairs : _) (steps : ℕ) → steps ≤ most_steps → Counts steps steps (item.PointersOf name pairs)
pointers_count name pairs steps few = record { is = (let none : steps ≡ steps + 0 = omega arith in none); few = few }

pub table_push : (p : SettingsValue) (records : List Record) (steps : ℕ) (name : List ℕ) (status : _) (links : _) → IsCounted p records steps
    → IsName p name → length links < 2 ^ 64 → All (IsLink p) links → IsCounted p (records ++ item.TableOf name status links ∷ []) steps
unfolding IsShaped
table_push p records steps name status links counted named few each =
    counted_push p records (item.TableOf name status links) steps steps counted (named, record { few = few; each = each })
    (table_counts name status links steps (steps_few p records steps counted))

pub pointers_push : (p : SettingsValue) (records : List Record) (steps : ℕ) (name : List ℕ) (pairs : _) → IsCounted p records steps
    → IsName p name → length pairs < 2 ^ 64 → All (IsPair p) pairs → IsCounted p (records ++ item.PointersOf name pairs ∷ []) steps
unfolding IsShaped
pointers_push p records steps name pairs counted named few each =
    counted_push p records (item.PointersOf name pairs) steps steps counted (named, record { few = few; each = each })
    (pointers_count name pairs steps (steps_few p records steps counted))

pub closed_counted : (p : SettingsValue) (records done : List Record) (steps : ℕ) (pending : Open) → IsOpenWith p records steps pending
    → closed_with p records pending ≡ Some done → IsCounted p done steps
closed_counted p records done steps (Members frames members) valid is =
    let both = ends_above_zero (length members) (records ++ item.Begin p frames members ∷ []) done is in
    subst (λ l. IsCounted p l steps) both.1 (opening_closes p records steps frames members valid both.0)
closed_counted p records done steps Ready valid is = let same : records ≡ done = cc in subst (λ l. IsCounted p l steps) same valid
closed_counted p records done steps (Links name status links left) valid is =
    let both = ends_at_zero left (records ++ item.TableOf name status links ∷ []) done is in
    let few = valid.2 in
    subst (λ l. IsCounted p l steps) both.1
    (table_push p records steps name status links valid.0 valid.1 (omega (arith, few)) valid.3)
closed_counted p records done steps (Pairs name pairs left) valid is =
    let both = ends_at_zero left (records ++ item.PointersOf name pairs ∷ []) done is in
    let few = valid.2 in
    subst (λ l. IsCounted p l steps) both.1 (pointers_push p records steps name pairs valid.0 valid.1 (omega (arith, few)) valid.3)
closed_counted p records done steps Over valid is = absurd (cc)

-- what is closed is carried as the records before it are
pub closed_carried : (p : SettingsValue) (records done : List Record) (pending : Open) → closed_with p records pending ≡ Some done
    → is_carried done ≡ is_carried records
closed_carried p records done (Members frames members) is =
    let both = ends_above_zero (length members) (records ++ item.Begin p frames members ∷ []) done is in
    ap is_carried (sym both.1) ∙ is_carried-push records (item.Begin p frames members) (λ same. absurd (cc))
closed_carried p records done Ready is = let same : records ≡ done = cc in ap is_carried (sym same)
closed_carried p records done (Links name status links left) is =
    let both = ends_at_zero left (records ++ item.TableOf name status links ∷ []) done is in
    ap is_carried (sym both.1) ∙ is_carried-push records (item.TableOf name status links) (λ same. absurd (cc))
closed_carried p records done (Pairs name pairs left) is =
    let both = ends_at_zero left (records ++ item.PointersOf name pairs ∷ []) done is in
    ap is_carried (sym both.1) ∙ is_carried-push records (item.PointersOf name pairs) (λ same. absurd (cc))
closed_carried p records done Over is = absurd (cc)
