-- When a call may fail, and what a call took out of a source or put into a sink.
use Rattle.std.specs.Prelude.{◌≡◌, ℕ, ◌+◌, ◌-◌, ◌^◌, ◌≤◌, min, List, length, take, Option, Result, OnErr, is_err}
use Rattle.std.specs.Prelude.{if◌then◌else◌}
use Rattle.std.specs.Io.KnownBytes.{Consumes, Appends}

-- one more, or the same at the greatest u64
abbrev pub one_more : ℕ → ℕ
one_more n = min (n + 1) (2 ^ 64 - 1)

-- the count of faults after a call: it rises at a failure, and stands still otherwise
abbrev pub faults_after : {T E : Type 0} → Result T E → ℕ → ℕ
faults_after result before = if is_err result then one_more before else before

-- the count rose, or stands at the greatest u64
abbrev pub Rose : ℕ → ℕ → Type 0
Rose before now = one_more before ≤ now

-- the count of faults does not fall, and where the call fails it rose, or stands at the greatest u64
pub record HasCause {T E : Type 0} (before now : ℕ) (result : Result T E) : Type 0 where
  pub later : before ≤ now
  pub failed : OnErr result (Rose before now)

-- a source gave n bytes, and no more
pub record TakesOut (n : ℕ) (before now : Option (List ℕ)) : Type 0 where
  pub bytes : List ℕ
  pub count : length bytes ≡ n
  pub taken : Consumes before now bytes

-- a source gave at most n bytes
pub record TakesOutAtMost (n : ℕ) (before now : Option (List ℕ)) : Type 0 where
  pub bytes : List ℕ
  pub count : length bytes ≤ n
  pub taken : Consumes before now bytes

-- a sink took a prefix of the text, and no more
pub record TakesPrefix (text : List ℕ) (before now : Option (List ℕ)) : Type 0 where
  pub count : ℕ
  pub within : count ≤ length text
  pub taken : Appends before now (take count text)
