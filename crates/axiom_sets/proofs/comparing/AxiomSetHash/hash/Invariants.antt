use Rattle.std.proofs.Common.{◌≡◌}
use Rattle.std.specs.Prelude.{fold}
use Rattle.std.specs.Hash as fed
use Rattle.std.specs.List.{flat_map}
use Rattle.axiom_sets.specs.Compared.{limited_writes}
use Rattle.axiom_sets.proofs.comparing.AxiomSetHash.hash.Given as goal

abbrev pub invariant-loop-number : goal.invariant-loop-number
invariant-loop-number g l =
    fold g.H.Hasher.write l.state (flat_map fed.u32 l.number-iterator)
    ≡ fold g.H.Hasher.write l.fn.state (limited_writes l.self)
