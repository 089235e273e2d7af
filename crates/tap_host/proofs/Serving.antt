-- A run over the lines that were taken so far, with one line more, and at its end.
use Rattle.std.proofs.Common.{◌≡◌, ℕ, ◌+◌, All, List, [], ◌∷◌, ◌++◌, take, drop, append-nil, append_assoc, refl, sym, ap, subst, ◌∙◌, inl, inr}
use Rattle.std.specs.Prelude.{None, Some, Ok, Err}
use Rattle.std.specs.Io.KnownBytes.{Consumes}
use Rattle.std.proofs.KnownBytes.{Appends-nil, Consumes-nil, Consumes-trans}
use Rattle.std.proofs.lemmas.List.Concat.{flat_map-append}
use Rattle.std.proofs.lemmas.List.Elements.{All-nil, All-push}
use Rattle.std.proofs.lemmas.List.Sums.{fold-append}
use Rattle.tap_io.specs.Faults.{greatest_count}
use Rattle.tap_io.specs.Sink.{SinkState}
use Rattle.tap_io.specs.Source.{SourceState}
use Rattle.tap_io.proofs.Following.{Follows-refl}
use Rattle.tap_report.specs.declared.written.Written.{Written}
use Rattle.tap_report.specs.declared.written.Written.TheVariants.{All as Whole, Failed}
use Rattle.tap_report.specs.Written.{WritesText}
use Rattle.tap_report.proofs.WritesLemmas.{WritesText-then}
use Rattle.tap_host.specs.declared.host.Going.TheVariants.{On}
use Rattle.tap_host.specs.declared.status.HostStatus.{HostStatus}
use Rattle.tap_host.specs.declared.status.HostStatus.TheVariants.{Done, ReadFault, Usage, TooLong, Cut, WriteFault, NoRoom, NoMemory}
use Rattle.tap_host.specs.Host.{HostSeen, Stepped, host_line}
use Rattle.tap_host.specs.Run.{HasServed, IsCause, IsLineText, Served, faults_by, host_lines, next_served, none_served, text_of_lines, with_end, with_step, written_by}
use Rattle.tap_host.specs.Taking.{FindsLine, IsFirstLine, TakesLine}
use Rattle.tap_host.proofs.Finding.{line_end, line_text}

-- These lines were taken, and each left room. No byte was read but theirs and those that wait, and all that they bring was written.
pub record GoesOn (start : HostSeen) (old new : SourceState) (before after : SinkState) (now : HostSeen) (waiting : List ℕ) (taken : ℕ)
    : Type 0 where
  pub lines : List (List ℕ)
  pub each : All IsLineText lines
  pub read : Consumes old.left new.left (text_of_lines lines ++ waiting)
  pub faults : new.faults ≡ old.faults
  pub written : WritesText before after (host_lines start lines).text Whole Whole
  pub going : (host_lines start lines).going ≡ On
  pub host : now ≡ (host_lines start lines).host
  pub count : taken ≡ (host_lines start lines).count

-- ---- lines, with one more

lines_push : (lines : List (List ℕ)) (line : List ℕ) → text_of_lines (lines ++ line ∷ []) ≡ text_of_lines lines ++ with_end line
lines_push lines line =
    flat_map-append with_end lines (line ∷ []) ∙ ap (λ l. text_of_lines lines ++ l) (append-nil (with_end line))

serves_push : (start : HostSeen) (lines : List (List ℕ)) (line : List ℕ)
    → host_lines start (lines ++ line ∷ []) ≡ next_served (host_lines start lines).going (host_lines start lines) line
serves_push start lines line =
    fold-append (λ so_far x. next_served so_far.going so_far x) (none_served start) lines (line ∷ [])

-- nothing is written
pub none_written : (sink : SinkState) → WritesText sink sink [] Whole Whole
none_written sink = record {
  follows = Follows-refl sink;
  answer = record { appends = Appends-nil sink.held; faults = refl };
}

pub begins : (start : HostSeen) (source : SourceState) (sink : SinkState) (waiting : List ℕ) → waiting ≡ []
    → GoesOn start source source sink sink start waiting 0
begins start source sink waiting none = record {
  lines = [];
  each = All-nil IsLineText;
  read = subst (Consumes source.left source.left) (sym none) (Consumes-nil source.left);
  faults = refl;
  written = none_written sink;
  going = refl;
  host = refl;
  count = refl;
}

module _ (start : HostSeen) (old mid new : SourceState) (before between : SinkState) (host : HostSeen) (had has : List ℕ) (count : ℕ)
    (goes : GoesOn start old mid before between host had count) where
  -- ---- more is read

  more_read : (more : List ℕ) → Consumes mid.left new.left more → Consumes old.left new.left (text_of_lines goes.lines ++ (had ++ more))
  more_read more read =
      subst (Consumes old.left new.left) (append_assoc (text_of_lines goes.lines) had more)
      (Consumes-trans old.left mid.left new.left (text_of_lines goes.lines ++ had) more goes.read read)

  pub reads_on : (len : ℕ) → FindsLine had has mid new (Ok len) → GoesOn start old new before between host has count
  reads_on len finds = record {
    lines = goes.lines;
    each = goes.each;
    read = subst (λ bytes. Consumes old.left new.left (text_of_lines goes.lines ++ bytes)) (sym finds.answer.0) (more_read finds.more finds.read);
    faults = finds.answer.2 ∙ goes.faults;
    written = goes.written;
    going = goes.going;
    host = goes.host;
    count = goes.count;
  }

  -- no line comes
  ends_as : (status : HostStatus) (rest : List ℕ) → Consumes old.left new.left (text_of_lines goes.lines ++ rest)
      → new.faults ≡ faults_by status mid.faults → written_by status ≡ Whole → IsCause status (host_lines start goes.lines) rest new
      → HasServed start old new before between status
  ends_as status rest read faults whole cause = record {
    lines = goes.lines;
    each = goes.each;
    rest = rest;
    read = read;
    faults = faults ∙ ap (faults_by status) goes.faults;
    written = subst (λ w. WritesText before between (host_lines start goes.lines).text Whole w) (sym whole) goes.written;
    cause = cause;
  }

  pub reads_none : (status : HostStatus) → FindsLine had has mid new (Err status) → HasServed start old new before between status
  reads_none Done finds = ends_as Done _ (more_read finds.more finds.read) finds.answer.1 refl (goes.going, finds.answer.0)
  reads_none Cut finds = ends_as Cut _ (more_read finds.more finds.read) finds.answer.1 refl (goes.going, finds.answer.0)
  reads_none ReadFault finds = ends_as ReadFault _ (more_read finds.more finds.read) finds.answer.1 refl (goes.going, finds.answer.0)
  reads_none TooLong finds = ends_as TooLong _ (more_read finds.more finds.read) finds.answer.1 refl (goes.going, finds.answer.0)
  reads_none NoMemory finds = ends_as NoMemory _ (more_read finds.more finds.read) finds.answer.1 refl (goes.going, finds.answer.0)
  reads_none Usage finds = absurd finds.answer.0
  reads_none WriteFault finds = absurd finds.answer.0
  reads_none NoRoom finds = absurd finds.answer.0

module _ (start : HostSeen) (old new : SourceState) (before between after : SinkState) (host now : HostSeen) (waiting : List ℕ) (count len : ℕ)
    (goes : GoesOn start old new before between host waiting count) (first : IsFirstLine waiting len) where
  -- ---- a line is taken

  abbrev line : List ℕ
  line = take len waiting

  abbrev step : Stepped
  step = host_line host (count + 1) line

  abbrev lines : List (List ℕ)
  lines = goes.lines ++ line ∷ []

  each : All IsLineText lines
  each = All-push IsLineText goes.lines line goes.each (line_text waiting len first)

  read : Consumes old.left new.left (text_of_lines lines ++ drop (len + 1) waiting)
  read =
      subst (Consumes old.left new.left)
      (ap (λ l. text_of_lines goes.lines ++ l) (line_end waiting len first)
      ∙ sym (append_assoc (text_of_lines goes.lines) (with_end line) (drop (len + 1) waiting))
      ∙ ap (λ l. l ++ drop (len + 1) waiting) (sym (lines_push goes.lines line)))
      goes.read

  -- what comes of the line is what comes of it after those before it
  served : host_lines start lines ≡ with_step (host_lines start goes.lines) step
  served =
      serves_push start goes.lines line ∙ ap (λ going. next_served going (host_lines start goes.lines) line) goes.going
      ∙ ap (λ h. with_step (host_lines start goes.lines) (host_line h ((host_lines start goes.lines).count + 1) line)) (sym goes.host)
      ∙ ap (λ n. with_step (host_lines start goes.lines) (host_line host (n + 1) line)) (sym goes.count)

  writes : (written : Written) → WritesText between after step.text Whole written
      → WritesText before after (host_lines start lines).text Whole written
  writes written wrote =
      subst (λ text. WritesText before after text Whole written) (ap (λ (s : Served). s.text) (sym served)) (WritesText-then goes.written wrote)

  pub takes_on : (rest : List ℕ) → rest ≡ drop (len + 1) waiting → TakesLine step now between after None
      → GoesOn start old new before after now rest (count + 1)
  takes_on rest is takes = record {
    lines = lines;
    each = each;
    read = subst (λ bytes. Consumes old.left new.left (text_of_lines lines ++ bytes)) (sym is) read;
    faults = goes.faults;
    written = writes Whole takes.2;
    going = ap (λ (s : Served). s.going) served ∙ takes.0;
    host = takes.1 ∙ ap (λ (s : Served). s.host) (sym served);
    count = ap (λ n. n + 1) goes.count ∙ ap (λ (s : Served). s.count) (sym served);
  }

  pub takes_last : (status : HostStatus) → TakesLine step now between after (Some status) → HasServed start old new before after status
  takes_last NoRoom takes = record {
    lines = lines;
    each = each;
    rest = drop (len + 1) waiting;
    read = read;
    faults = goes.faults;
    written = writes Whole takes.1;
    cause = inl (ap (λ (s : Served). s.going) served ∙ takes.0);
  }
  takes_last WriteFault takes = record {
    lines = lines;
    each = each;
    rest = drop (len + 1) waiting;
    read = read;
    faults = goes.faults;
    written = writes Failed takes;
    cause = tt;
  }
  takes_last NoMemory takes = record {
    lines = goes.lines;
    each = goes.each;
    rest = waiting;
    read = goes.read;
    faults = goes.faults;
    written = subst (λ s. WritesText before s (host_lines start goes.lines).text Whole Whole) (sym takes) goes.written;
    cause = (goes.going, tt);
  }
  takes_last Done takes = absurd takes
  takes_last Cut takes = absurd takes
  takes_last ReadFault takes = absurd takes
  takes_last TooLong takes = absurd takes
  takes_last Usage takes = absurd takes

-- there is no number for one more line
pub counts_all : (start : HostSeen) (old new : SourceState) (before after : SinkState) (host : HostSeen) (waiting : List ℕ) (count : ℕ)
    → GoesOn start old new before after host waiting count → count ≡ greatest_count → HasServed start old new before after NoRoom
counts_all start old new before after host waiting count goes all = record {
  lines = goes.lines;
  each = goes.each;
  rest = waiting;
  read = goes.read;
  faults = goes.faults;
  written = goes.written;
  cause = inr (sym goes.count ∙ all);
}
