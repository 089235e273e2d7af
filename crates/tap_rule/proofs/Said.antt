-- What the words mean by which rules and laws name what is sent and noted.
-- Cited above: cast_of_law
use Rattle.std.proofs.Common.{◌≡◌, ℕ, ◌+◌, ◌-◌, List, [], ◌∷◌, length, get_or, map, true, false, arith, refl, ap, ◌∙◌, inl, inr}
use Rattle.std.proofs.Math.Seq.{get_or-append_seam}
use Rattle.std.proofs.lemmas.List.Elements.{All-map}
use Rattle.tap_wire.specs.declared.frame.Body.{Body}
use Rattle.tap_rule.specs.Reaction.{Message, message, to_each}
use Rattle.tap_rule.specs.RuleLaws.{CastNewsLaw, CastOfLaw, LayFrameLaw, LinkFrameLaw, MessageFrameLaw, ToEachLaw}

pub message_frame_law : MessageFrameLaw
message_frame_law from to body = record { sender = refl; receiver = refl; said = refl }

pub link_frame_law : LinkFrameLaw
link_frame_law from to version on = record { sender = refl; receiver = refl; said = refl }

pub lay_frame_law : LayFrameLaw
lay_frame_law from to object server level version on = record { sender = refl; receiver = refl; said = refl }

receivers_each : (body : Body) (names : List (List ℕ)) → map (λ (m : Message). m.to) (to_each body names) ≡ names
receivers_each body [] = refl
receivers_each body (name ∷ names) = ap (λ (rest : List (List ℕ)). name ∷ rest) (receivers_each body names)

pub to_each_law : ToEachLaw
to_each_law body names = record {
  receivers = receivers_each body names;
  said = All-map (λ (m : Message). m.body ≡ body) (λ name. message name body) names (λ k d within. refl);
}

pub cast_news_law : CastNewsLaw
cast_news_law cast true true = record { nothing = (λ none. absurd cc, λ neither. absurd cc); noted = λ either. refl }
cast_news_law cast true false = record { nothing = (λ none. absurd cc, λ neither. absurd cc); noted = λ either. refl }
cast_news_law cast false true = record { nothing = (λ none. absurd cc, λ neither. absurd cc); noted = λ either. refl }
cast_news_law cast false false = record {
  nothing = (λ none. (refl, refl), λ neither. refl);
  noted = λ either. elim either [ inl reached ↦ absurd cc | inr closed ↦ absurd cc ];
}

pub cast_of_law : CastOfLaw
cast_of_law node before after cast is =
    let at : length before + 1 - 1 ≡ length before = omega arith in
    ap (λ number. get_or node.cast_numbers number 0) at ∙ ap (λ (numbers : List ℕ). get_or numbers (length before) 0) is
    ∙ get_or-append_seam before cast after 0
