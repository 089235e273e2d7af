-- The own scenario of a shape is within its limits.
use Rattle.std.proofs.Common.{◌≡◌, ◌≤◌, ℕ, Bool, List, [], ◌∷◌, get_or, length, refl, ap, sym, subst, ◌∙◌, arith, All}
use Rattle.std.proofs.lemmas.List.Elements.{All-cons, All-head, All-nil, All-tail}
use Rattle.std.proofs.lemmas.List.Sums.{take_while-cons}
use Rattle.tap_name.specs.Settings.{SettingsValue}
use Rattle.tap_scenario.specs.Scenario.{IsScript, ScenarioValue, most_steps}
use Rattle.tap_scenario.specs.Step.{IsStep}
use Rattle.tap_scenario.specs.declared.step.Step.{Step}
use Rattle.tap_log.specs.declared.record.Record.{Record}
use Rattle.tap_log.specs.declared.record.Record.TheVariants.{Begin, Carrier, Step as StepRecord}
use Rattle.tap_log.specs.Kinds.{is_carried}
use Rattle.tap_log.specs.Log.{begun_steps}
use Rattle.tap_carried.specs.LogTurns.{beginning_records}
use Rattle.tap_lawful.specs.Next.{beginning_in}
use Rattle.tap_lawful.specs.PlayedLaws.{BeginsWith}
use Rattle.tap_shape.specs.Shape.{IsShape, IsShaped}
use Rattle.tap_own_scripts.specs.Own.{goes_on, own_script, own_steps}
use Rattle.tap_own_scripts.specs.OwnLaws.{TellsScript}
use Rattle.tap_own_scripts.proofs.OwnScripts.{own_scripts_hold}

-- each step of such records is one of the settings
steps_fit : (p : SettingsValue) (carried : Bool) (items : List Record) → All (IsShaped p carried) items → All (IsStep p carried) (begun_steps items)
unfolding IsShaped
steps_fit p carried [] all = All-nil (IsStep p carried)
steps_fit p carried (StepRecord index step ∷ items) all =
    All-cons (IsStep p carried) step (begun_steps items) (All-head (IsShaped p carried) (StepRecord index step) items all).1
    (steps_fit p carried items (All-tail (IsShaped p carried) (StepRecord index step) items all))
steps_fit p carried (other ∷ items) all = steps_fit p carried items (All-tail (IsShaped p carried) other items all)

shape_tells : (log : List Record) → IsShape log → TellsScript log
unfolding own_script
shape_tells log shape =
    subst TellsScript (sym shape.is) (record {
      beginning = subst (λ l. IsScript (record { settings = shape.settings; frames = shape.frames; carrier = is_carried l; members = shape.members; steps = [] })) shape.is shape.valid;
      few = subst (λ l. length (begun_steps l) ≤ most_steps) shape.is shape.few;
      steps = subst (λ l. All (IsStep shape.settings (is_carried l)) (begun_steps shape.items)) shape.is
          (steps_fit shape.settings (is_carried log) shape.items shape.shaped);
    })

-- so it is one that a player runs
pub own_valid : (log : List Record) → IsShape log → IsScript (own_script log)
own_valid log shape = own_scripts_hold.told log (shape_tells log shape)

-- ---- with what the log begins

begin_steps : (p : SettingsValue) (frames : ℕ) (members : List (List ℕ)) (items : List Record)
    → own_steps (Begin p frames members ∷ items) ≡ own_steps items
unfolding goes_on
begin_steps p frames members items = ap begun_steps (take_while-cons goes_on (Begin p frames members) items)

begun_script : (p : SettingsValue) (frames : ℕ) (members : List (List ℕ)) (items : List Record)
    → own_script (Begin p frames members ∷ items) ≡ record {
      settings = p;
      frames = frames;
      carrier = is_carried (Begin p frames members ∷ items);
      members = members;
      steps = own_steps (Begin p frames members ∷ items);
    }
unfolding own_script
begun_script p frames members items =
    ap {B = ScenarioValue} (λ steps. record {
      settings = p;
      frames = frames;
      carrier = is_carried (Begin p frames members ∷ items);
      members = members;
      steps = steps;
    }) (sym (begin_steps p frames members items))

own_is : (log : List Record) (first : Record) (p : SettingsValue) (frames : ℕ) (members : List (List ℕ)) → IsShape log
    → first ≡ get_or log 0 first → first ≡ Begin p frames members
    → own_script log ≡ record { settings = p; frames = frames; carrier = is_carried log; members = members; steps = own_steps log }
own_is [] first p frames members shape at is = let none = ap length shape.is in absurd (omega (arith, none))
own_is (item ∷ items) first p frames members shape at is =
    let here : item ≡ Begin p frames members = sym at ∙ is in
    subst (λ x. own_script (x ∷ items) ≡ record { settings = p; frames = frames; carrier = is_carried (x ∷ items); members = members; steps = own_steps (x ∷ items) })
    (sym here) (begun_script p frames members items)

-- by the first record, whether the log is carried, and the steps
pub own_made : (log : List Record) (first : Record) (p : SettingsValue) (frames : ℕ) (members : List (List ℕ)) (carried : Bool) (steps : List Step)
    → IsShape log → first ≡ get_or log 0 first → first ≡ Begin p frames members → carried ≡ is_carried log → steps ≡ own_steps log
    → own_script log ≡ record { settings = p; frames = frames; carrier = carried; members = members; steps = steps }
own_made log first p frames members carried steps shape at is carrier begun =
    own_is log first p frames members shape at is
    ∙ ap {B = ScenarioValue} (λ b. record { settings = p; frames = frames; carrier = b; members = members; steps = own_steps log }) (sym carrier)
    ∙ ap {B = ScenarioValue} (λ l. record { settings = p; frames = frames; carrier = carried; members = members; steps = l }) (sym begun)

-- the log begins as its own scenario does
begins_by : (p : SettingsValue) (frames : ℕ) (members : List (List ℕ)) (items : List Record)
    → BeginsWith (beginning_records (is_carried (Begin p frames members ∷ items)) (record { settings = p; frames = frames; members = members }))
    (Begin p frames members ∷ items)
unfolding is_carried
begins_by p frames members [] = refl
begins_by p frames members (Carrier ∷ items) = refl
begins_by p frames members (other ∷ items) = refl

own_begins_by : (p : SettingsValue) (frames : ℕ) (members : List (List ℕ)) (items : List Record)
    → BeginsWith (beginning_records (own_script (Begin p frames members ∷ items)).carrier (beginning_in (own_script (Begin p frames members ∷ items))))
    (Begin p frames members ∷ items)
unfolding own_script
own_begins_by p frames members items = begins_by p frames members items

pub own_begins : (log : List Record) → IsShape log
    → BeginsWith (beginning_records (own_script log).carrier (beginning_in (own_script log))) log
own_begins log shape =
    subst (λ l. BeginsWith (beginning_records (own_script l).carrier (beginning_in (own_script l))) l) (sym shape.is)
    (own_begins_by shape.settings shape.frames shape.members shape.items)
