use Rattle.std.proofs.Common.{◌≡◌, ◌<◌, length, drop}
use Rattle.shq_nnf.specs.Parts.{disjoint_parts, part_in}
use Rattle.shq_nnf.proofs.parts.pair_at.Given as goal

-- the pair is at this place among those of the classes from here on
abbrev pub invariant-loop-first : goal.invariant-loop-first
invariant-loop-first l = record {
  listed : l.rest < length (disjoint_parts (drop l.first l.classes));
  same : part_in (disjoint_parts (drop l.first l.classes)) l.rest ≡ part_in (disjoint_parts l.classes) l.place;
}
