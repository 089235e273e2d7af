-- The scenario that a log tells of itself, if it begins with the log of a run.
use Rattle.std.proofs.Common.{◌≡◌, inl, inr, ℕ, Bool, true, false, cond, List, [], ◌∷◌, ◌++◌, take, All, Some, refl, ap, sym, subst, ◌∙◌, append-nil, append_assoc}
use Rattle.std.specs.List.{take_while}
use Rattle.std.proofs.Math.Seq.{take-append_seam}
use Rattle.std.proofs.lemmas.List.Elements.{All-append, All-cons, All-head, All-nil, All-tail}
use Rattle.std.proofs.lemmas.List.Sums.{take_while-cons}
use Rattle.tap_scenario.specs.Scenario.{IsScript, ScenarioValue}
use Rattle.tap_scenario.specs.declared.step.Step.{Step}
use Rattle.tap_log.specs.declared.record.Record.{Record}
use Rattle.tap_log.specs.declared.record.Record.TheVariants.{Carrier, Finished}
use Rattle.tap_log.specs.Kinds.{is_carried}
use Rattle.tap_log.specs.Log.{begun_steps}
use Rattle.tap_runs.specs.Beginning.{Beginning, begin_record}
use Rattle.tap_carried.specs.LogTurns.{beginning_records}
use Rattle.tap_lawful.specs.Next.{beginning_in, begun_count}
use Rattle.tap_lawful.specs.Runs.{IsRunSoFar, comes_next, next_records}
use Rattle.tap_lawful.proofs.Alike.{begun-append}
use Rattle.tap_lawful.proofs.CarriedAlike.{arrives_alike, begins_alike, ticks_alike}
use Rattle.tap_lawful.proofs.CarriedComing.{carried_coming}
use Rattle.tap_lawful.proofs.Runs.{runs_by_carrier}
use Rattle.tap_lawful.proofs.UncarriedLogs.{one_alike}
use Rattle.tap_own_scripts.specs.Own.{goes_on, own_script, own_steps}
use Rattle.tap_own_scripts.proofs.Fronts.{all_front}
use Rattle.tap_own_scripts.proofs.Logs.{by_runs}
use Rattle.tap_own_scripts.proofs.NextGroups.{GoesOn, IsInside, Opens, inside_steps, shape}

-- ---- own steps

take_while-front : (front rest : List Record) → All GoesOn front → take_while goes_on (front ++ rest) ≡ front ++ take_while goes_on rest
take_while-front [] rest all = refl
take_while-front (item ∷ front) rest all =
    take_while-cons goes_on item (front ++ rest)
    ∙ ap (λ b. cond {A = List Record} b (item ∷ take_while goes_on (front ++ rest)) []) (All-head GoesOn item front all)
    ∙ ap (λ l. item ∷ l) (take_while-front front rest (All-tail GoesOn item front all))

own_steps-front : (front rest : List Record) → All GoesOn front → own_steps (front ++ rest) ≡ begun_steps front ++ own_steps rest
own_steps-front front rest all = ap begun_steps (take_while-front front rest all) ∙ begun-append front (take_while goes_on rest)

-- a `Finished` ends the own steps
pub own_steps-finished : (steps : ℕ) (rest : List Record) → own_steps (Finished steps ∷ rest) ≡ []
unfolding goes_on
own_steps-finished steps rest = refl

-- ---- the own scenario

-- the log begins as a run of the scenario does, and doesn't say that all steps were run
pub record IsTold (s : ScenarioValue) (log : List Record) : Type 0 where
  pub items : List Record
  pub is : log ≡ begin_record (beginning_in s) ∷ items
  pub goes : All GoesOn items

pub told-append : (s : ScenarioValue) (log more : List Record) → IsTold s log → All GoesOn more → IsTold s (log ++ more)
told-append s log more told goes = record {
  items = told.items ++ more;
  is = ap (λ l. l ++ more) told.is;
  goes = All-append GoesOn told.items more told.goes goes;
}

-- the scenario begins so too, and its steps are those that the log has begun, and more
pub record Continues (s o : ScenarioValue) (log : List Record) (more : List Step) : Type 0 where
  pub beginning : beginning_in o ≡ beginning_in s
  pub carrier : o.carrier ≡ s.carrier
  pub steps : o.steps ≡ begun_steps log ++ more

pub own_begun : (s : ScenarioValue) (front after : List Record) → IsTold s front → is_carried (front ++ after) ≡ s.carrier
    → Continues s (own_script (front ++ after)) front (own_steps after)
unfolding own_script
own_begun s front after told carried =
    let items = told.items in
    let whole : own_script (front ++ after) ≡ own_script (begin_record (beginning_in s) ∷ (items ++ after)) =
    ap (λ l. own_script (l ++ after)) told.is in
    record {
      beginning = ap beginning_in whole;
      carrier = ap (λ o. o.carrier) whole ∙ ap (λ l. is_carried (l ++ after)) (sym told.is) ∙ carried;
      steps = ap (λ o. o.steps) whole ∙ own_steps-front items after told.goes ∙ ap (λ l. begun_steps l ++ own_steps after) (sym told.is);
    }

pub same_script : (o other : ScenarioValue) → beginning_in o ≡ beginning_in other → o.carrier ≡ other.carrier → o.steps ≡ other.steps
    → o ≡ other
same_script o other beginning carrier steps =
    ap (λ b. record { settings = b.settings; frames = b.frames; carrier = o.carrier; members = b.members; steps = o.steps }) beginning
    ∙ ap (λ c. record { settings = other.settings; frames = other.frames; carrier = c; members = other.members; steps = o.steps }) carrier
    ∙ ap (λ l. record { settings = other.settings; frames = other.frames; carrier = other.carrier; members = other.members; steps = l }) steps

-- ---- what holds of a scenario that begins so

module _ (s o : ScenarioValue) (log : List Record) (more : List Step) (continues : Continues s o log more) where
  pub same_frames : o.frames ≡ s.frames
  same_frames = ap (λ b. b.frames) continues.beginning

  -- the log of a run is one of its runs
  pub continues_played : IsRunSoFar s log → IsRunSoFar o log
  continues_played played = runs_by_carrier.alike s o log continues.carrier played (record {
    beginning = continues.beginning;
    steps = ap (take (begun_count log)) continues.steps ∙ take-append_seam (begun_steps log) more;
  })

  -- it begins as each front of the log does
  pub continues_front : (front rest : List Record) → log ≡ front ++ rest → Continues s o front (begun_steps rest ++ more)
  continues_front front rest is = record {
    beginning = continues.beginning;
    carrier = continues.carrier;
    steps = continues.steps ∙ ap (λ l. begun_steps l ++ more) is ∙ ap (λ l. l ++ more) (begun-append front rest)
        ∙ append_assoc (begun_steps front) (begun_steps rest) more;
  }

-- the group that comes next is the same
module _ (s o : ScenarioValue) (log group : List Record) (more : List Step) (continues : Continues s o (log ++ group) more) where
  same_settings : o.settings ≡ s.settings
  same_settings = ap (λ b. b.settings) continues.beginning

  abbrev count : ℕ
  count = begun_count (log ++ group)

  first_steps : take count o.steps ≡ begun_steps (log ++ (group ++ []))
  first_steps =
      ap (take count) continues.steps ∙ take-append_seam (begun_steps (log ++ group)) more
      ∙ ap (λ g. begun_steps (log ++ g)) (sym (append-nil group))

  again_by : (c : Bool) → comes_next c s log ≡ Some group → comes_next c o log ≡ Some group
  again_by true comes =
      elim (carried_coming s log group comes) [
        | inl arrives ↦ arrives_alike s o same_settings log group arrives
        | inr (inl ticks) ↦ ticks_alike s o same_settings log group ticks
        | inr (inr begun) ↦ begins_alike s o same_settings log group [] count begun first_steps
      ]
  again_by false comes = one_alike s o same_settings log group [] count comes first_steps

  pub comes_again : next_records s log ≡ Some group → next_records o log ≡ Some group
  comes_again comes =
      subst (λ c. comes_next c o log ≡ Some group) (sym continues.carrier) (again_by s.carrier comes)

-- ---- what stands of a group

-- These records stand of a group: the first one begins a step exactly if the group does, and the others begin none.
pub record IsTail (group tail : List Record) : Type 0 where
  pub head : Record
  pub rest : List Record
  pub is : tail ≡ head ∷ rest
  pub goes : GoesOn head
  pub begins : begun_steps (head ∷ []) ≡ begun_steps group
  pub inside : All IsInside rest

inside_goes : (items : List Record) → All IsInside items → All GoesOn items
inside_goes items all = λ k d there. (all k d there).goes

pub tail_goes : (group tail : List Record) → IsTail group tail → All GoesOn tail
tail_goes group tail t =
    subst (All GoesOn) (sym t.is) (All-cons GoesOn t.head t.rest t.goes (inside_goes t.rest t.inside))

one_begins : (head : Record) (rest : List Record) → All IsInside rest → begun_steps (head ∷ rest) ≡ begun_steps (head ∷ [])
one_begins head rest inside =
    begun-append (head ∷ []) rest ∙ ap (λ l. begun_steps (head ∷ []) ++ l) (inside_steps rest inside) ∙ append-nil (begun_steps (head ∷ []))

tail_begins : (group tail : List Record) → IsTail group tail → begun_steps tail ≡ begun_steps group
tail_begins group tail t = ap begun_steps t.is ∙ one_begins t.head t.rest t.inside ∙ t.begins

-- the first record of a group begins what the group begins
pub opens_begins : (group : List Record) (o : Opens group) → begun_steps (o.first ∷ []) ≡ begun_steps group
opens_begins group o = sym (one_begins o.first o.after o.inside) ∙ ap begun_steps (sym o.is)

-- the group itself
pub whole_tail : (group : List Record) → Opens group → IsTail group group
whole_tail group o = record {
  head = o.first;
  rest = o.after;
  is = o.is;
  goes = o.goes;
  begins = opens_begins group o;
  inside = o.inside;
}

-- a front of such records is one
pub tail_front : (group tail : List Record) (next : Record) (more rest : List Record) → IsTail group tail → tail ≡ next ∷ (more ++ rest)
    → IsTail group (next ∷ more)
tail_front group tail next more rest t is =
    let both : t.head ∷ t.rest ≡ next ∷ (more ++ rest) = sym t.is ∙ is in
    let same : t.head ≡ next = cc in
    let later : t.rest ≡ more ++ rest = cc in
    record {
      head = next;
      rest = more;
      is = refl;
      goes = subst GoesOn same t.goes;
      begins = ap (λ item. begun_steps (item ∷ [])) (sym same) ∙ t.begins;
      inside = all_front IsInside more rest (subst (All IsInside) later t.inside);
    }

-- with what stands of a group the scenario has its step
pub continues_tail : (s o : ScenarioValue) (log group tail : List Record) (more : List Step) → IsTail group tail
    → Continues s o (log ++ tail) more → Continues s o (log ++ group) more
continues_tail s o log group tail more t continues = record {
  beginning = continues.beginning;
  carrier = continues.carrier;
  steps = continues.steps ∙ ap (λ l. l ++ more)
      (begun-append log tail ∙ ap (λ l. begun_steps log ++ l) (tail_begins group tail t) ∙ sym (begun-append log group));
}

-- ---- each log of a run

beginning_told : (c : Bool) (b : Beginning) → (items : List Record) × (beginning_records c b ≡ begin_record b ∷ items) × All GoesOn items
unfolding goes_on
beginning_told true b = (Carrier ∷ [], refl, All-cons GoesOn Carrier [] refl (All-nil GoesOn))
beginning_told false b = ([], refl, All-nil GoesOn)

pub played_told : (s : ScenarioValue) → IsScript s → (log : List Record) → IsRunSoFar s log → IsTold s log
played_told s valid =
    by_runs s valid (IsTold s)
    (λ log group played told comes within.
    let h = shape s log group valid played comes in
    told-append s log group told (tail_goes group group (whole_tail group h.opens)))
    (let first = beginning_told s.carrier (beginning_in s) in record { items = first.0; is = first.1; goes = first.2 })
