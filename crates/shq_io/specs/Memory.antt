-- A source and a sink in memory: what they keep, and what a call answers and leaves.
use Rattle.std.specs.Prelude.{ℕ, ◌+◌, ◌-◌, ◌^◌, min, List, [], length, take, drop, ◌++◌, Bool, nat_eq, nat_lt, nat_le}
use Rattle.std.specs.Prelude.{◌&&◌, ◌||◌, if◌then◌else◌}
use Rattle.std.specs.List.{list_any}
use Rattle.shq_io.specs.Causes.{one_more}

-- the call after so many calls is one of those that fail
abbrev pub fails_after : List ℕ → ℕ → Bool
fails_after failing calls = list_any (λ n. nat_eq n (one_more calls)) failing

-- the bytes that are left, the most that a call gives, the numbers of the calls that fail, and the counts of the
-- calls and of the faults
pub record SourceState : Type 0 where
  pub unread : List ℕ
  pub step : ℕ
  pub failing : List ℕ
  pub calls : ℕ
  pub faults : ℕ

-- a source that was not called yet
abbrev pub fresh_source : List ℕ → ℕ → List ℕ → SourceState
fresh_source bytes step failing = record { unread = bytes; step = step; failing = failing; calls = 0; faults = 0 }

-- the next call fails
abbrev pub read_fails : SourceState → Bool
read_fails s = fails_after s.failing s.calls

-- how many bytes a call gives that does not fail and has room for so many
abbrev pub read_count : SourceState → ℕ → ℕ
read_count s room = min (min (length s.unread) room) s.step

-- what a call leaves
abbrev pub after_read : SourceState → ℕ → SourceState
after_read s room =
    if read_fails s then record s { calls = one_more s.calls; faults = one_more s.faults }
    else record s { calls = one_more s.calls; unread = drop (read_count s room) s.unread }

-- the bytes that were taken, how many may be, the most that a call takes, the numbers of the calls that fail, and
-- the counts of the calls and of the faults
pub record SinkState : Type 0 where
  pub kept : List ℕ
  pub room : ℕ
  pub step : ℕ
  pub failing : List ℕ
  pub calls : ℕ
  pub faults : ℕ

-- a sink that was not called yet
abbrev pub fresh_sink : ℕ → ℕ → List ℕ → SinkState
fresh_sink room step failing = record { kept = []; room = room; step = step; failing = failing; calls = 0; faults = 0 }

-- the next call fails, at a piece: its number is listed, or the piece is not empty and there is no room
abbrev pub write_fails : SinkState → List ℕ → Bool
write_fails s piece = fails_after s.failing s.calls || (nat_lt 0 (length piece) && nat_le s.room (length s.kept))

-- how many bytes of a piece a call takes that does not fail
abbrev pub write_count : SinkState → List ℕ → ℕ
write_count s piece = min (min (length piece) (s.room - length s.kept)) s.step

-- what a call leaves
abbrev pub after_write : SinkState → List ℕ → SinkState
after_write s piece =
    if write_fails s piece then record s { calls = one_more s.calls; faults = one_more s.faults }
    else record s { calls = one_more s.calls; kept = s.kept ++ take (write_count s piece) piece }

-- the first bytes that a sink which never fails was given, as many as it has room for, how many that is, and how many
-- bytes it was given
pub record SureState : Type 0 where
  pub kept : List ℕ
  pub room : ℕ
  pub count : ℕ

-- a sink that was given nothing yet
abbrev pub roomy_sink : ℕ → SureState
roomy_sink room = record { kept = []; room = room; count = 0 }

-- all that it was given is kept
abbrev pub tells : SureState → Bool
tells s = nat_le s.count s.room

-- what it is after a piece more
abbrev pub after_taking : SureState → List ℕ → SureState
after_taking s piece =
    record s { kept = take s.room (s.kept ++ piece); count = min (s.count + length piece) (2 ^ 64 - 1) }
