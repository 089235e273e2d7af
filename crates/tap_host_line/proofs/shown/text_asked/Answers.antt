use Rattle.std.proofs.Common.{◌≡◌, ◌∙◌, ◌⊎◌, [], ◌∷◌, ap, inl, inr, refl, true}
use Rattle.std.specs.Prelude.{◌≢◌}
use Rattle.std.specs.List.{AllPass}
use Rattle.std.proofs.lemmas.Bool.{false≢true}
use Rattle.std.proofs.lemmas.List.Elements.{All-head, All-tail}
use Rattle.clap.specs.Words.{HasKind, IsAmong, Kinds, kind_of}
use Rattle.clap.specs.declared.error.Error.{Error}
use Rattle.clap.specs.declared.error.kind.ErrorKind.{ErrorKind}
use Rattle.clap.specs.declared.error.kind.ErrorKind.TheVariants.{DisplayHelp, DisplayVersion, OutOfMemory}
use Rattle.tap_host_line.specs.Command.{asks_for_text}
use Rattle.tap_host_line.proofs.shown.text_asked.Goals as goal

-- the kinds that ask for a text
are_these : (kind : ErrorKind) → asks_for_text kind ≡ true → (kind ≡ DisplayHelp) ⊎ (kind ≡ DisplayVersion)
are_these DisplayHelp asks = inl refl
are_these DisplayVersion asks = inr refl
are_these _ asks = absurd (false≢true asks)

-- each of some that all do
each_asks : (kinds : Kinds) (kind : ErrorKind) → AllPass asks_for_text kinds → IsAmong kind kinds → asks_for_text kind ≡ true
each_asks [] kind all among = absurd among
each_asks (first ∷ kinds) kind all (inl is) = ap asks_for_text is ∙ All-head (λ kind. asks_for_text kind ≡ true) first kinds all
each_asks (first ∷ kinds) kind all (inr among) = each_asks kinds kind (All-tail (λ kind. asks_for_text kind ≡ true) first kinds all) among

-- an error of another kind doesn't come if all that may come ask for a text
no_other : (kinds : Kinds) (e : Error) → HasKind kinds e → kind_of e ≢ OutOfMemory → kind_of e ≢ DisplayHelp → kind_of e ≢ DisplayVersion
    → AllPass asks_for_text kinds → kinds ≡ []
no_other kinds e (inl memory) enough no_help no_version all = absurd (enough memory)
no_other kinds e (inr among) enough no_help no_version all =
    let asks = are_these (kind_of e) (each_asks kinds (kind_of e) all among) in
    absurd (elim asks [ inl help ↦ no_help help | inr version ↦ no_version version ])

pub returns : goal.returns
returns c =
    no_other _ c.in-Err.error c.in-Err.ensures.faults (λ e. c.in_default.not-OutOfMemory (c.kind.ensures ∙ e))
    (λ e. c.in_default.not-DisplayHelp (c.kind.ensures ∙ e)) (λ e. c.in_default.not-DisplayVersion (c.kind.ensures ∙ e))
