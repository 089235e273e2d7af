-- `==` decides whether two records are the same: of one kind, with the same values.
-- Of an enum each line below is a variant, in the order of the declaration, and has an equality for each of its fields, in their order.
use denote.Enum.Declared.{values_one}
use Rattle.std.proofs.Common.{◌≡◌, ℕ, Bool, true, false, List, ◌⊎◌, inl, inr, ⊎_elim, None, Some, refl, ap, Decides, nat_eq}
use Rattle.std.specs.Prelude.{◌&&◌}
use Rattle.std.specs.Option.{option_eq, unwrap_or}
use Rattle.std.specs.Cmp.{booleans_Decides}
use Rattle.std.specs.Cmp.Lexicographic.{pointwise}
use Rattle.std.proofs.lemmas.Bool.Decides.{Decides-and, Decides-eqb}
use Rattle.std.proofs.lemmas.Slice.Eq.{slice_eq-Decides}
use Rattle.tap_name.specs.Settings.{SettingsValue}
use Rattle.tap_name.specs.declared.slot.Slot.{Slot}
use Rattle.tap_name.specs.contracts.settings.SettingsPartialEq.TheImpl as settings
use Rattle.tap_name.specs.contracts.slot.SlotPartialEq.TheImpl as slot
use Rattle.tap_scenario.specs.declared.step.Step.{Step}
use Rattle.tap_scenario.specs.contracts.step.Step as step
use Rattle.tap_scenario.specs.contracts.step.StepPartialEq.TheImpl as steps
use Rattle.tap_wire.specs.declared.fault.WireFault.{WireFault}
use Rattle.tap_wire.specs.contracts.fault.WireFault as fault
use Rattle.tap_wire.specs.contracts.fault.WireFaultPartialEq.TheImpl as faults
use Rattle.tap_log.specs.declared.record.NodeWord.{NodeWord}
use Rattle.tap_log.specs.declared.record.NodeWord.TheVariants as node
use Rattle.tap_log.specs.declared.record.LinkWord.{LinkWord}
use Rattle.tap_log.specs.declared.record.LinkWord.TheVariants as link
use Rattle.tap_log.specs.declared.record.LinkLine.{LinkLine}
use Rattle.tap_log.specs.declared.record.Pair.{Pair}
use Rattle.tap_log.specs.declared.record.Refusal.{Refusal}
use Rattle.tap_log.specs.declared.record.Record.{Record}
use Rattle.tap_log.specs.contracts.record.Refusal as refusal
use Rattle.tap_log.specs.contracts.record.Record as log
use Rattle.tap_log.specs.contracts.record.NodeWordPartialEq.TheImpl as node_words
use Rattle.tap_log.specs.contracts.record.LinkWordPartialEq.TheImpl as link_words
use Rattle.tap_log.specs.contracts.record.LinkLinePartialEq.TheImpl as lines
use Rattle.tap_log.specs.contracts.record.PairPartialEq.TheImpl as pairs
use Rattle.tap_log.specs.contracts.record.RefusalPartialEq.TheImpl as refusals
use Rattle.tap_log.specs.contracts.record.RecordPartialEq.TheImpl as records

infixr 40 ◌and◌
infixr 30 ◌or◌
-- the test is true exactly of two values that are equal
abbrev pub IsEquality : {A : Type 0} → (A → A → Bool) → Type 0
IsEquality {A} E = (a b : A) → Decides (E a b) (a ≡ b)

-- ---- from the fields to a variant, and from the variants to the whole

-- a variant with no fields
bare : IsEquality (λ (a b : Unit {0}). true)
bare a b = (λ h. refl, λ e. refl)

-- the last field
last : {A : Type 0} {E : A → A → Bool} → IsEquality E → IsEquality (λ (a b : A × Unit {0}). E a.0 b.0)
last field a b = (λ h. λ i. ((field a.0 b.0).0 h i, tt), λ e. (field a.0 b.0).1 (ap (λ v. v.0) e))

-- a field and the later ones
◌and◌ : {A B : Type 0} {E : A → A → Bool} {F : B → B → Bool} → IsEquality E → IsEquality F
    → IsEquality (λ (a b : A × B). E a.0 b.0 && F a.1 b.1)
◌and◌ {E = E} {F} field later a b =
    let both = Decides-and (E a.0 b.0) (F a.1 b.1) (field a.0 b.0) (later a.1 b.1) in
    (λ h. λ i. ((both.0 h).0 i, (both.0 h).1 i), λ e. both.1 (ap (λ v. v.0) e, ap (λ v. v.1) e))

-- a variant and the later ones
◌or◌ : {A B : Type 0} {E : A → A → Bool} {F : B → B → Bool} → IsEquality E → IsEquality F
    → IsEquality (λ (c d : A ⊎ B). ⊎_elim (λ a. ⊎_elim (λ b. E a b) (λ _. false) d) (λ a. ⊎_elim (λ _. false) (λ b. F a b) d) c)
◌or◌ variant later (inl a) (inl b) = (λ h. ap inl ((variant a b).0 h), λ e. (variant a b).1 (ap (⊎_elim (λ x. x) (λ _. a)) e))
◌or◌ variant later (inl a) (inr b) = (λ h. absurd (cc), λ e. absurd (cc))
◌or◌ variant later (inr a) (inl b) = (λ h. absurd (cc), λ e. absurd (cc))
◌or◌ variant later (inr a) (inr b) = (λ h. ap inr ((later a b).0 h), λ e. (later a b).1 (ap (⊎_elim (λ _. a) (λ x. x)) e))

-- after the last variant
end : IsEquality (λ (a b : ⊥). absurd a)
end a b = absurd a

-- two values are equal if what they hold is
through : {A B : Type 0} {E : B → B → Bool} (f : A → B) → ((a b : A) → f a ≡ f b → a ≡ b) → IsEquality E
    → IsEquality (λ (a b : A). E (f a) (f b))
through f one held a b = (λ h. one a b ((held (f a) (f b)).0 h), λ e. (held (f a) (f b)).1 (ap f e))

-- ---- names, numbers and lists

listed : {A : Type 0} {E : A → A → Bool} → IsEquality E → IsEquality (pointwise E)
listed {E = E} item a b = slice_eq-Decides item a b (pointwise E a b) refl

number_eq : IsEquality nat_eq
number_eq = Decides-eqb

pub name_eq : IsEquality (pointwise nat_eq)
name_eq = listed number_eq

pub names_eq : IsEquality (pointwise (pointwise nat_eq))
names_eq = listed name_eq

pub some_name_eq : IsEquality (option_eq (pointwise nat_eq))
some_name_eq None None = (λ h. refl, λ e. refl)
some_name_eq (Some a) (Some b) = (λ h. ap Some ((name_eq a b).0 h), λ e. (name_eq a b).1 (ap (λ o. unwrap_or o a) e))
some_name_eq None (Some b) = (λ h. absurd (cc), λ e. absurd (cc))
some_name_eq (Some a) None = (λ h. absurd (cc), λ e. absurd (cc))

-- ---- what records hold

pub settings_eq : IsEquality {A = SettingsValue} (settings.ghosts).eq
settings_eq =
    let held : SettingsValue → ℕ × (ℕ × (ℕ × Unit {0})) = λ s. (s.base, (s.digits, (s.width, tt))) in
    let make : ℕ × (ℕ × (ℕ × Unit {0})) → SettingsValue = λ v. record { base = v.0; digits = v.1.0; width = v.1.1.0 } in
    through held (λ a b e. ap make e) (number_eq and number_eq and last number_eq)

pub slot_eq : IsEquality {A = Slot} (slot.ghosts).eq
slot_eq =
    let held : Slot → ℕ × (ℕ × Unit {0}) = λ s. (s.level, (s.digit, tt)) in
    let make : ℕ × (ℕ × Unit {0}) → Slot = λ v. record { level = v.0; digit = v.1.0 } in
    through held (λ a b e. ap make e) (number_eq and last number_eq)

pub node_word_eq : IsEquality {A = NodeWord} (node_words.ghosts).eq
node_word_eq node.Joining node.Joining = (λ _. refl, λ _. refl)
node_word_eq node.Core node.Core = (λ _. refl, λ _. refl)
node_word_eq node.Leaving node.Leaving = (λ _. refl, λ _. refl)
node_word_eq a b = (λ h. absurd (cc), λ r. absurd (cc))

pub link_word_eq : IsEquality {A = LinkWord} (link_words.ghosts).eq
link_word_eq link.Pin link.Pin = (λ _. refl, λ _. refl)
link_word_eq link.Settled link.Settled = (λ _. refl, λ _. refl)
link_word_eq link.Leaving link.Leaving = (λ _. refl, λ _. refl)
link_word_eq a b = (λ h. absurd (cc), λ r. absurd (cc))

pub line_eq : IsEquality {A = LinkLine} (lines.ghosts).eq
line_eq =
    let held : LinkLine → Slot × (List ℕ × (LinkWord × Unit {0})) = λ l. (l.slot, (l.name, (l.kind, tt))) in
    let make : Slot × (List ℕ × (LinkWord × Unit {0})) → LinkLine = λ v. record { slot = v.0; name = v.1.0; kind = v.1.1.0 } in
    through held (λ a b e. ap make e) (slot_eq and name_eq and last link_word_eq)

pub pair_eq : IsEquality {A = Pair} (pairs.ghosts).eq
pair_eq =
    let held : Pair → List ℕ × (List ℕ × Unit {0}) = λ p. (p.object, (p.server, tt)) in
    let make : List ℕ × (List ℕ × Unit {0}) → Pair = λ v. record { object = v.0; server = v.1.0 } in
    through held (λ a b e. ap make e) (name_eq and last name_eq)

pub refusal_eq : IsEquality {A = Refusal} (refusals.ghosts).eq
refusal_eq = through refusal.as_values (values_one refusal.enum) (
    bare
    or bare
    or last name_eq
    or last number_eq
    or bare
    or bare
    or bare
    or bare
    or bare
    or last number_eq
    or last number_eq
    or bare
    or bare
    or bare
    or last number_eq
    or bare
    or end
    )

pub fault_eq : IsEquality {A = WireFault} (faults.ghosts).eq
fault_eq = through fault.as_values (values_one fault.enum) (
    last number_eq
    or last number_eq
    or last number_eq
    or last number_eq
    or last number_eq
    or last number_eq
    or last number_eq
    or last number_eq
    or bare
    or end
    )

pub step_eq : IsEquality {A = Step} (steps.ghosts).eq
step_eq = through step.as_values (values_one step.enum) (
    name_eq and last name_eq
    or last name_eq
    or name_eq and last name_eq
    or name_eq and last name_eq
    or name_eq and last name_eq
    or name_eq and last name_eq
    or last name_eq
    or last number_eq
    or bare
    or bare
    or last number_eq
    or last name_eq
    or last name_eq
    or number_eq and number_eq and last number_eq
    or number_eq and last number_eq
    or last name_eq
    or bare
    or last number_eq
    or last number_eq
    or name_eq and last name_eq
    or name_eq and name_eq and last name_eq
    or end
    )

-- ---- records

pub record_eq : IsEquality {A = Record} (records.ghosts).eq
record_eq = through log.as_values (values_one log.enum) (
    settings_eq and number_eq and last names_eq
    or number_eq and last step_eq
    or number_eq and last name_eq
    or last number_eq
    or last name_eq
    or last name_eq
    or name_eq and last names_eq
    or name_eq and last name_eq
    or number_eq and name_eq and last name_eq
    or number_eq and last some_name_eq
    or name_eq and last name_eq
    or name_eq and last name_eq
    or name_eq and node_word_eq and last (listed line_eq)
    or name_eq and last (listed pair_eq)
    or number_eq and last refusal_eq
    or last number_eq
    or last number_eq
    or number_eq and last fault_eq
    or last name_eq
    or bare
    or number_eq and number_eq and last booleans_Decides
    or last number_eq
    or bare
    or last number_eq
    or name_eq and name_eq and last names_eq
    or number_eq and name_eq and number_eq and last name_eq
    or number_eq and last name_eq
    or last number_eq
    or end
    )
