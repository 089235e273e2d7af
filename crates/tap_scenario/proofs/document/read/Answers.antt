use Rattle.std.proofs.Common.{◌≡◌, ◌∙◌, ℕ, List, Bool, true, false, Option, Some, None, Ok, Err, refl, ap, sym, subst}
use Rattle.std.proofs.lemmas.Result.{err_from_is_err_and}
use Rattle.std.proofs.lemmas.Str.{IsUtf8-from_is_utf8, is_utf8-from_IsUtf8}
use Rattle.std.specs.Option.{ok_or}
use Rattle.std.specs.Str.{is_utf8, IsUtf8}
use Rattle.toml.specs.Data.{Members as Table}
use Rattle.toml.specs.Parse.{parse_document}
use Rattle.toml.specs.View.{table_view}
use Rattle.tap_scenario.specs.declared.fault.Fault.{Fault}
use Rattle.tap_scenario.specs.declared.fault.Fault.TheVariants.{NotUtf8, NotToml}
use Rattle.tap_scenario.specs.declared.fault.ReadRefusal.{ReadRefusal}
use Rattle.tap_scenario.specs.declared.fault.ReadRefusal.TheVariants.{Fault as Refused, NoMemory}
use Rattle.tap_scenario.specs.Document.{scenario_of, scenario_of_document, scenario_of_table}
use Rattle.tap_scenario.specs.ReadRefusal.{AnswersUnlessMemory, TellsFault}
use Rattle.tap_scenario.proofs.Options.{ok_or-Ok}
use Rattle.tap_scenario.proofs.document.read.Goals as goal

not_text : (bytes : List ℕ) → (IsUtf8 bytes → ⊥) → scenario_of bytes ≡ Err NotUtf8
unfolding scenario_of
not_text bytes h = go (is_utf8 bytes) refl
  where
    go : (t : Bool) → is_utf8 bytes ≡ t → scenario_of bytes ≡ Err NotUtf8
    go true e = absurd (h (IsUtf8-from_is_utf8 bytes e))
    go false e = rw e refl

text : (bytes : List ℕ) (document : Option Table) → IsUtf8 bytes → parse_document bytes ≡ document
    → scenario_of bytes ≡ scenario_of_document document
unfolding scenario_of
text bytes document h e = rw (is_utf8-from_IsUtf8 bytes h, e) refl

not_table : (document : Option Table) (fault : Fault) → ok_or document NotToml ≡ Err fault → scenario_of_document document ≡ Err fault
not_table None fault e = let same : NotToml ≡ fault = cc in ap Err same
not_table (Some table) fault e = absurd (cc)

unread : (bytes : List ℕ) (refusal : ReadRefusal) → IsUtf8 bytes → TellsFault (ok_or (parse_document bytes) NotToml) refusal
    → AnswersUnlessMemory (scenario_of bytes) (Err refusal)
unread bytes NoMemory h told = tt
unread bytes (Refused fault) h told = text bytes (parse_document bytes) h refl ∙ not_table (parse_document bytes) fault told

read : (bytes : List ℕ) (table : Table) → IsUtf8 bytes → ok_or (parse_document bytes) NotToml ≡ Ok table
    → scenario_of bytes ≡ scenario_of_table table
read bytes table h told = text bytes (Some table) h (ok_or-Ok (parse_document bytes) NotToml table told)

pub returns-in-Err-clause-value : goal.returns-in-Err-clause-value
returns-in-Err-clause-value c = not_text _ c.in-Err.ensures.cases.0

pub returns-in_err-table-clause-value : goal.returns-in_err-table-clause-value
returns-in_err-table-clause-value c =
    let bytes = c.args.bytes.now in
    let refusal = c.in_err-table.field-0.0 in
    let same : c.in-Ok.text.now ≡ bytes = c.in-Ok.ensures.cases.0 in
    let told : TellsFault (ok_or (parse_document bytes) NotToml) refusal =
    subst (λ text. TellsFault (ok_or (parse_document text) NotToml) refusal) same c.in_err-table.ensures in
    let made = err_from_is_err_and c.from_residual.result c.from_residual.ensures.1 in
    let is : c.from_residual.result ≡ Err refusal = made.1 ∙ ap Err made.2 in
    subst (AnswersUnlessMemory (scenario_of bytes)) (sym is) (unread bytes refusal c.in-Ok.ensures.cases.1 told)

pub returns-clause-value : goal.returns-clause-value
returns-clause-value c =
    let bytes = c.args.bytes.now in
    let table = table_view c.in_ok-table.table in
    let same : c.in-Ok.text.now ≡ bytes = c.in-Ok.ensures.cases.0 in
    let told : ok_or (parse_document bytes) NotToml ≡ Ok table =
    subst (λ text. ok_or (parse_document text) NotToml ≡ Ok table) same c.in_ok-table.ensures in
    subst (λ read. AnswersUnlessMemory read c.read_table.result) (sym (read bytes table c.in-Ok.ensures.cases.1 told)) c.read_table.ensures.value
