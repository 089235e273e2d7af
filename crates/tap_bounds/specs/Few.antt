-- How many frames of a join were sent.
use Rattle.std.specs.Prelude.{◌≡◌, ℕ, nat_eq, ◌+◌, ◌≤◌, Bool, true, false, ◌&&◌, List, None, count_by}
use Rattle.std.specs.Cmp.Lexicographic.{pointwise}
use Rattle.tap_name.specs.Prefix.{lcp}
use Rattle.tap_name.specs.Settings.{SettingsValue}
use Rattle.tap_wire.specs.declared.frame.Body.{Body}
use Rattle.tap_wire.specs.declared.frame.Body.TheVariants.{Seek}
use Rattle.tap_wire.specs.declared.frame.Frame.{Frame}
use Rattle.tap_wire.specs.declared.kind.Kind.{Kind}
use Rattle.tap_wire.specs.declared.kind.Kind.TheVariants.{Heard, Hello}
use Rattle.tap_wire.specs.Kind.{kind_of}
use Rattle.tap_safety.specs.System.{System, AmongFrames}
use Rattle.tap_bounds.specs.Traffic.{Traffic}

-- ---- which frames are counted

-- whether a body is the Seek of this joiner
abbrev pub seeks_for : List ℕ → Body → Bool
seeks_for b (Seek joiner) = pointwise nat_eq joiner b
seeks_for b other = false

abbrev is_heard_kind : Kind → Bool
is_heard_kind Heard = true
is_heard_kind other = false

abbrev pub is_heard : Body → Bool
is_heard body = is_heard_kind (kind_of body)

abbrev is_hello_kind : Kind → Bool
is_hello_kind Hello = true
is_hello_kind other = false

abbrev pub is_hello : Body → Bool
is_hello body = is_hello_kind (kind_of body)

-- whether a frame is the Seek of this joiner, a Heard from this one, and a Hello to it
abbrev pub is_seek_of : List ℕ → Frame → Bool
is_seek_of b f = seeks_for b f.body

abbrev pub is_heard_from : List ℕ → Frame → Bool
is_heard_from b f = is_heard f.body && pointwise nat_eq f.from b

abbrev pub is_hello_to : List ℕ → Frame → Bool
is_hello_to b f = is_hello f.body && pointwise nat_eq f.to b

-- ---- how many there are

-- how many Seeks of this joiner were sent
abbrev pub seeks_sent : Traffic → List ℕ → ℕ
seeks_sent r b = count_by (is_seek_of b) r.sent

-- Of each joiner at most as many Seeks were sent as names have digits; while one is on its way, at most one more than its receiver shares
-- digits with the joiner; and none of a name that is no node.
pub record SeeksAreFew (p : SettingsValue) (s : System) (r : Traffic) : Type 0 where
  pub within : (b : List ℕ) → seeks_sent r b ≤ p.digits
  pub ways : (number : ℕ) (from to b : List ℕ)
      → AmongFrames number (record { from = from; to = to; body = Seek b }) s.frames → seeks_sent r b ≤ lcp to b + 1
  pub fresh : (b : List ℕ) → s.node b ≡ None → seeks_sent r b ≡ 0

-- each name has sent at most as many Heards as it has taken Hellos
pub record HeardsAreFew (r : Traffic) : Type 0 where
  pub each : (b : List ℕ) → count_by (is_heard_from b) r.sent ≤ count_by (is_hello_to b) r.taken

-- Few: both.
pub record FewAreSent (p : SettingsValue) (s : System) (r : Traffic) : Type 0 where
  pub seeks : SeeksAreFew p s r
  pub heards : HeardsAreFew r
