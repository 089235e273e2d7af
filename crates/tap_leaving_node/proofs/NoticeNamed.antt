-- The notices of a leaving node are for names, and of names.
use Rattle.std.proofs.Common.{◌≡◌, ℕ, List, slice_get, Option, None, Some, All, refl, subst}
use Rattle.std.specs.Prelude.{IfSome}
use Rattle.std.proofs.lemmas.List.Elements.{All-get_or, All-map}
use Rattle.std.proofs.lemmas.Option.{get_or_from_slice_get, slice_get_within}
use Rattle.tap_name.specs.Name.{IsName}
use Rattle.tap_table.specs.Table.{IsTable, TableValue}
use Rattle.tap_table.specs.Ties.{AreTies, TiesValue, holders_on}
use Rattle.tap_depart.specs.declared.notice.Notice.{Notice}
use Rattle.tap_depart.specs.Leaving.{notice_for, started_leaving}
use Rattle.tap_depart.specs.Replacement.{replacement_for}
use Rattle.tap_depart.proofs.Replacements.{replacement_fits}
use Rattle.tap_node_common.proofs.Ending.{holders_named}

module _ (t : TableValue) (valid : IsTable t) where
  -- the replacement for a holder is a name
  replacement_named : (holder : List ℕ) → IsName t.settings holder → (found : Option (List ℕ)) → replacement_for t holder ≡ found
      → IfSome found (IsName t.settings)
  replacement_named holder is_name None is = tt
  replacement_named holder is_name (Some name) is = (replacement_fits t valid holder is_name name is).is_name

module _ (ties : TiesValue) (are : AreTies ties) where
  -- a notice is for a name, and its replacement is one
  abbrev pub IsNamedNotice : Notice → Type 0
  IsNamedNotice notice = IsName ties.table.settings notice.to × IfSome notice.replacement (IsName ties.table.settings)

  notices_named : All IsNamedNotice (started_leaving ties).notices
  notices_named =
      All-map IsNamedNotice (notice_for ties.table) (holders_on ties) (λ k d within.
      let is_name = holders_named ties are k d within in
      (is_name, replacement_named ties.table are.table _ is_name _ refl))

  pub notice_named : (notices : List Notice) (i : ℕ) (notice : Notice) → notices ≡ (started_leaving ties).notices
      → slice_get notices i ≡ Some notice → IsNamedNotice notice
  notice_named notices i notice same got =
      let among : slice_get (started_leaving ties).notices i ≡ Some notice = rw same at got in
      let within = slice_get_within (started_leaving ties).notices i notice among in
      subst IsNamedNotice (get_or_from_slice_get (started_leaving ties).notices i notice notice among)
      (All-get_or IsNamedNotice (started_leaving ties).notices i notice within notices_named)
