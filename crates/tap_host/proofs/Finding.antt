-- What a look at bytes finds, and the bytes of a line.
use Rattle.std.proofs.Common.{◌≡◌, ◌≢◌, ◌<◌, ◌≤◌, ℕ, suc, ◌+◌, List, [], ◌∷◌, ◌++◌, length, take, drop, get_or, get_or-take, drop-cons, append_assoc, take-append-drop, length-take-le, sym, ap, subst, ◌∙◌, arith}
use Rattle.std.specs.Prelude.{None, Some, Option, Ok, Err, Result, unwrap_or}
use Rattle.std.proofs.KnownBytes.{Consumes-trans}
use Rattle.std.proofs.lemmas.Bool.{eqb-true, eq-eqb}
use Rattle.std.proofs.lemmas.List.{take_all}
use Rattle.std.proofs.lemmas.List.Elements.{All-from_get_or}
use Rattle.memchr.specs.Find.{IsFirstByte, Nowhere, Passes, is_byte}
use Rattle.tap_io.specs.Source.{SourceState}
use Rattle.tap_host.specs.declared.status.HostStatus.{HostStatus}
use Rattle.tap_host.specs.declared.status.HostStatus.TheVariants.{NoMemory}
use Rattle.tap_host.specs.Run.{HasNoEnd, IsLineText, IsTooLong, most_line, with_end}
use Rattle.tap_host.specs.Taking.{FindsLine, IsFirstLine, LooksAs, LosesMore, ReadsMore}

-- the first bytes have no end if it stands at none of their places
before_end : (bytes : List ℕ) (n : ℕ) → n ≤ length bytes → Nowhere (Passes (is_byte 10) bytes) 0 n → HasNoEnd (take n bytes)
before_end bytes n within none =
    let size : length (take n bytes) ≡ n = length-take-le n bytes within in
    All-from_get_or (λ byte. byte ≢ 10) (take n bytes) 0 (λ k inside is.
    let below : k < n = omega (arith, inside, size) in
    none k (omega arith) below (eq-eqb (get_or bytes k 0) 10 (sym (get_or-take n bytes k 0 below) ∙ is)))

pub too_long : (bytes : List ℕ) (end : Option ℕ) → IsFirstByte (is_byte 10) bytes end → most_line < unwrap_or end (length bytes)
    → IsTooLong bytes
too_long bytes None none more = record {
  more = more;
  no_end = before_end bytes (most_line + 1) (omega (arith, more)) (λ k low high. none k low (omega (arith, high, more)));
}
too_long bytes (Some len) first more = record {
  more = omega (arith, more, first.0.high);
  no_end = before_end bytes (most_line + 1) (omega (arith, more, first.0.high)) (λ k low high. first.0.before k low (omega (arith, high, more)));
}

pub looks : (bytes : List ℕ) (end : Option ℕ) → IsFirstByte (is_byte 10) bytes end → unwrap_or end (length bytes) ≤ most_line
    → LooksAs bytes (Ok end)
looks bytes None none within = record {
  no_end = subst HasNoEnd (take_all (length bytes) bytes (omega arith)) (before_end bytes (length bytes) (omega arith) none);
  within = within;
}
looks bytes (Some len) first within = record { end = first; within = within }

module _ (bytes : List ℕ) (len : ℕ) (first : IsFirstLine bytes len) where
  -- the first line with its end, and what stands after it
  pub line_end : bytes ≡ with_end (take len bytes) ++ drop (len + 1) bytes
  line_end =
      let here : get_or bytes len 0 ≡ 10 = eqb-true (get_or bytes len 0) 10 first.end.1 in
      let next : suc len ≡ len + 1 = omega arith in
      sym (take-append-drop len bytes)
      ∙ ap (λ l. take len bytes ++ l)
      (drop-cons bytes len 0 first.end.0.high ∙ ap (λ b. b ∷ drop (suc len) bytes) here ∙ ap (λ n. 10 ∷ drop n bytes) next)
      ∙ sym (append_assoc (take len bytes) (10 ∷ []) (drop (len + 1) bytes))

  pub line_text : IsLineText (take len bytes)
  line_text = record {
    no_end = before_end bytes len (omega (arith, first.end.0.high)) first.end.0.before;
    within = omega (arith, length-take-le len bytes (omega (arith, first.end.0.high)), first.within);
  }

-- memory was refused for what was read last
pub loses : (had waiting has : List ℕ) (old mid new : SourceState) (found : Result ℕ HostStatus) → found ≡ Err NoMemory
    → ReadsMore had waiting old mid → LosesMore mid new → FindsLine had has old new found
loses had waiting has old mid new found is reads lost = rw is (record {
  more = reads.more ++ lost.more;
  read = Consumes-trans old.left mid.left new.left reads.more lost.more reads.read lost.read;
  answer = (tt, lost.faults ∙ reads.faults);
})
