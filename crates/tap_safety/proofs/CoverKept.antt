-- Cover is kept by a Tell that is taken anew at a core node.
-- Cited above: core_or_joiner
use Rattle.std.proofs.Common.{◌≡◌, inl, inr, ℕ, ◌+◌, ◌<◌, ◌≤◌, List, ◌⊎◌, Option, None, Some, arith, refl, sym, ap, ◌∙◌}
use Rattle.std.proofs.lemmas.Bool.{cases_lt}
use Rattle.tap_name.specs.declared.slot.Slot.{Slot}
use Rattle.tap_name.specs.Prefix.{lcp}
use Rattle.tap_name.specs.Settings.{SettingsValue}
use Rattle.tap_name.proofs.Prefixes.{lcp-least, lcp-sym, lcp-triangle}
use Rattle.tap_link.specs.declared.kind.Kind.{Kind}
use Rattle.tap_link.specs.declared.kind.Kind.TheVariants.{Pin, Settled, Leaving as LeavingKind}
use Rattle.tap_rule.specs.Node.{level_kept, link_to}
use Rattle.tap_wire.specs.declared.frame.Frame.{Frame}
use Rattle.tap_wire.specs.declared.frame.TellFields.{TellFields}
use Rattle.tap_rule.specs.Node.Status.{Core, Leaving, Joining}
use Rattle.tap_safety.specs.Frames.{hello_body, tell_body}
use Rattle.tap_safety.specs.System.{System, IsCoreNode, IsJoiner, HasLink, CoversAt, IsTold}
use Rattle.tap_safety.specs.Regions.{IsGiven, IsReached, HaveMet, IsServed}
use Rattle.tap_safety.specs.Parts.{IsClaim, Cover, HasNear}
use Rattle.tap_safety.specs.TellStep.{Tells, IsNewlyCovered, TakesTell, BeforeTell, IsTellOf}
use Rattle.tap_safety.proofs.CoverStep.{cover_step}
use Rattle.tap_safety.proofs.KeptParts.{Keeps, StaysJoiner, served_kept}
use Rattle.tap_safety.proofs.Names.{lcp_itself}
use Rattle.tap_safety.proofs.TellKeeps.{adds_none, keeps, node_before, takes_one}
use Rattle.tap_safety.proofs.UnderWay.{sent_under_way}

-- no core node is joining
pub core_or_joiner : (s : System) (x : List ℕ) → IsCoreNode s x → IsJoiner s x → ⊥
core_or_joiner s x core joiner =
    let one = core.is in
    let two = joiner.is in
    let same : core.state ≡ joiner.state = cc in
    let joining : core.state.status ≡ Joining = ap (λ n. n.status) same ∙ joiner.joining in
    elim core.core [
      | inl is ↦ let no : Core ≡ Joining = sym is ∙ joining in cc
      | inr leaving ↦ let no : Leaving ≡ Joining = sym leaving ∙ joining in cc
    ]

-- a Tell to a core node of the slot of e serves e
pub serves_near : (s : System) (x b e t : List ℕ) (level : ℕ) → IsTold s b t level → IsCoreNode s t → level ≡ lcp x t + 1
    → lcp x e < lcp e t → IsReached s b e (lcp x e)
serves_near s x b e t level told core is near =
    let sides = lcp-triangle x e t in
    let shared = sides.below near in
    let back = lcp-sym e t in
    record { to = t; level = level; told = told; core = core; higher = omega arith; shared = omega arith }

module _ (s s' : System) (number : ℕ) (w x : List ℕ) (tell : TellFields) (watch : List Slot)
    (step : TakesTell s s' number w x tell watch) where
  abbrev taken_tell : Frame
  taken_tell = record { from = w; to = x; body = tell_body tell watch }

  -- the Tells that are sent are under way
  pub tells_way : (t : List ℕ) → Tells step.sent x tell.joiner t → IsTold s' tell.joiner t (lcp x t + 1)
  tells_way t tells = record {
    from = x;
    fields = tells.fields;
    watch = tells.watch;
    way = sent_under_way s s' number taken_tell step.sent step.taken x t (tell_body tells.fields tells.watch) tells.sends;
    joiner = tells.joiner;
    level_is = tells.level;
  }

  -- a cover of after the step was there, or is the new one
  pub covers_cases : (v b : List ℕ) (level : ℕ) → CoversAt s' v b level
      → CoversAt s v b level ⊎ ((v ≡ x) × (b ≡ tell.joiner) × (level ≡ tell.level))
  covers_cases v b level covers =
      elim (node_before s s' x step.before step.after step.at v covers.state covers.is) [
        | inr there ↦ inl (record { state = covers.state; is = there; cover = covers.cover })
        | inl here ↦
            let cover : level_kept step.after.covers b ≡ Some level = rw (← here.1) covers.cover in
            elim (step.covers.covers b) [
              | inr same ↦ inl (record { state = step.before; is = here.2; cover = sym same ∙ cover })
              | inl mine ↦
                  let stands : level_kept step.after.covers b ≡ Some tell.level = rw mine step.covers.covered in
                  let level_is : level ≡ tell.level = cc in
                  inr (here.0, mine, level_is)
            ]
      ]

  module _ (p : SettingsValue) (before : BeforeTell p s) (is : IsTellOf p s x tell.joiner tell.prefix tell.level) where
    kept : Keeps s s'
    kept = keeps s s' number w x tell watch step

    -- a core node of a level that the cover newly reaches is told of, or will be
    newly : (e : List ℕ) → IsCoreNode s e → lcp x e < p.digits → IsNewlyCovered step.before x tell.joiner tell.level e
        → IsReached s' tell.joiner e (lcp x e)
    newly e core apart new =
        let filled = before.hole_free.filled x e is.core core apart in
        let here = step.at.was in
        let sides = lcp-triangle x e filled.to in
        let near = filled.near in
        let level : lcp x filled.to ≡ lcp x e = omega (arith, sides.below) in
        let reaches : IsNewlyCovered step.before x tell.joiner tell.level filled.to = record {
          from = let from = new.from in omega arith;
          to = λ kept_at at. let to = new.to kept_at at in omega arith;
        } in
        by_kind filled level reaches filled.kind refl
      where
        by_kind : (filled : HasNear s x e) → lcp x filled.to ≡ lcp x e
            → IsNewlyCovered step.before x tell.joiner tell.level filled.to → (kind : Kind) → filled.kind ≡ kind
            → IsReached s' tell.joiner e (lcp x e)
        by_kind filled level reaches Pin kind =
            let here = step.at.was in
            let at = filled.link.is in
            let same : filled.link.state ≡ step.before = cc in
            let pin : link_to step.before filled.to ≡ Some Pin = rw (← same, ← kind) filled.link.link in
            let other : filled.to ≡ tell.joiner → ⊥ = λ joins. core_or_joiner s tell.joiner (rw joins at filled.core) is.joiner in
            let told = tells_way filled.to (step.covers.pins filled.to pin other reaches) in
            serves_near s' x tell.joiner e filled.to (lcp x filled.to + 1) told (kept.cores filled.to filled.core) refl filled.near
        by_kind filled level reaches Settled kind =
            let here = step.at.was in
            let at = filled.link.is in
            let same : filled.link.state ≡ step.before = cc in
            let settled : link_to step.before filled.to ≡ Some Settled = rw (← same, ← kind) filled.link.link in
            let first = step.covers.primaries filled.to settled reaches in
            let primary = first.primary in
            let core : IsCoreNode s primary =
            before.settled.settled x primary (record { state = step.before; is = step.at.was; link = first.settled }) in
            let one = filled.near in
            let two = first.near in
            let three = lcp-least e filled.to primary (lcp x e + 1) (omega arith) (omega arith) in
            serves_near s' x tell.joiner e primary (lcp x primary + 1) (tells_way primary first.tells) (kept.cores primary core)
            (refl {a = lcp x primary + 1}) (omega arith)
        by_kind filled level reaches LeavingKind kind =
            let link : HasLink s x filled.to LeavingKind = rw kind at filled.link in
            absurd (before.unmarked x filled.to link)

    -- each core node that the new level reaches was served, or is now
    own : (e : List ℕ) → IsCoreNode s e → lcp x e < p.digits → tell.level ≤ lcp x e → StaysJoiner s s' tell.joiner
        → (old : Option ℕ) → level_kept step.before.covers tell.joiner ≡ old → IsServed s' tell.joiner e (lcp x e)
    own e core apart reach joiner None old =
        inr (newly e core apart (record { from = reach; to = λ kept_at at. cc }))
    own e core apart reach joiner (Some c) old =
        elim (cases_lt (lcp x e) c) [
          | inl below ↦ inr (newly e core apart (record { from = reach; to = λ d at. let same : c ≡ d = cc in omega arith }))
          | inr from ↦
              let covers : CoversAt s x tell.joiner c = record { state = step.before; is = step.at.was; cover = old } in
              let claim : IsClaim p s x tell.joiner e c =
              record { core = is.core; joiner = is.joiner; covers = covers; other = core; reach = from; apart = apart } in
              elim (served_kept s s' x tell.joiner tell.level kept (takes_one s s' number w x tell watch step) tell.joiner e (lcp x e)
              joiner (kept.cores e core) (before.cover.served x tell.joiner e c claim)) [
                | inl served ↦ served
                | inr low ↦ let no = low.1 in absurd (omega arith)
              ]
        ]

    -- the node itself pins the joiner, which is given its slot
    pub met : StaysJoiner s s' tell.joiner → (old : Option ℕ) → level_kept step.before.covers tell.joiner ≡ old
        → HaveMet s' tell.joiner x
    met joiner old was =
        record { pin = record { state = step.after; is = step.at.is; link = step.covers.pinned }; given = given old was }
      where
        given : (old : Option ℕ) → level_kept step.before.covers tell.joiner ≡ old → IsGiven s' tell.joiner x
        given None was =
            let hello = step.covers.greets was in
            let way = sent_under_way s s' number taken_tell step.sent step.taken x tell.joiner (hello_body hello.fields) hello.sends in
            let all = lcp_itself p x (before.names x is.core) in
            let apart = is.apart in
            let back = lcp-sym x tell.joiner in
            record {
              by = x;
              core = kept.cores x is.core;
              near = omega arith;
              knows = record { known = inr (x, record { fields = hello.fields; way = way; named = inr (refl, hello.is_core) }) };
            }
        given (Some c) was =
            let covers : CoversAt s x tell.joiner c = record { state = step.before; is = step.at.was; cover = was } in
            let cover = before.covered.each x tell.joiner c is.core is.joiner covers in
            kept.given tell.joiner x joiner cover.given

    pub cover_kept : Cover p s'
    cover_kept =
        cover_step p s s' x tell.joiner tell.level kept (adds_none s s' number w x tell watch step)
        (takes_one s s' number w x tell watch step) before.names is.core before.cover
        (λ e core reach apart joiner. own e core apart reach joiner (level_kept step.before.covers tell.joiner) refl)
        (λ joiner. met joiner (level_kept step.before.covers tell.joiner) refl)
        covers_cases
