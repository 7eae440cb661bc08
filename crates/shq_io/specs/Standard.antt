-- What a source over a reader and a sink over a writer keep.
use Rattle.std.specs.Prelude.{ℕ, List, take, Option, Result, IfOk}
use Rattle.std.specs.Io.KnownBytes.{Appends}
use Rattle.shq_io.specs.declared.standard.StdSource.{StdSource}
use Rattle.shq_io.specs.declared.standard.StdSink.{StdSink}

-- the reader that a source keeps
abbrev pub reader : {R : Type 0} → StdSource R → R
reader s = s.inner

-- how many calls of a source failed
abbrev pub source_faults : {R : Type 0} → StdSource R → ℕ
source_faults s = s.faults

-- the writer that a sink keeps
abbrev pub writer : {W : Type 0} → StdSink W → W
writer s = s.inner

-- how many calls of a sink failed
abbrev pub sink_faults : {W : Type 0} → StdSink W → ℕ
sink_faults s = s.faults

-- what a writer tells of its bytes has grown by those of the piece that were taken
abbrev pub HasGrown : {E : Type 0} → Option (List ℕ) → Option (List ℕ) → Result ℕ E → List ℕ → Type 0
HasGrown before now result piece = IfOk result (λ n. Appends before now (take n piece))
