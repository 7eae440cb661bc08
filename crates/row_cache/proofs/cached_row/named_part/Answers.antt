use Rattle.std.proofs.Common.{◌-◌, arith, inl, inr, sym, ◌∙◌}
use Rattle.axiom_sets.specs.Sets.{member_list}
use Rattle.row_cache.proofs.Named.{axiom_in_limit, not_named, no_part, part_there}
use Rattle.row_cache.proofs.cached_row.named_part.Goals as goal
use Rattle.row_cache.proofs.cached_row.named_part.Goals.{then-part-lt1-via-then-part-lt1}
use Rattle.row_cache.proofs.cached_row.named_part.Goals.{then-part-lt1-via-else-part-lt1+then-part-part_count}

pub returns-then-not-is_named-clause-part : goal.returns-then-not-is_named-clause-part
returns-then-not-is_named-clause-part c =
    not_named c.args.ontology.now.axioms (member_list c.args.named.now) c.args.axiom c.args.part c.args.concepts.now
    (sym c.if-not-is_named.true ∙ c.is_named.ensures.named)

pub axiom-numbered-requires-clause-low : goal.axiom-numbered-requires-clause-low
axiom-numbered-requires-clause-low c =
    (c.requires.numbers c.args.axiom (c.is_named.ensures.member c.if-not-is_named.false)).0

pub axiom-numbered-requires-clause-high : goal.axiom-numbered-requires-clause-high
axiom-numbered-requires-clause-high c =
    (c.requires.numbers c.args.axiom (c.is_named.ensures.member c.if-not-is_named.false)).1

pub part_count-requires : goal.part_count-requires
part_count-requires c =
    (axiom_in_limit c.args.ontology.now.axioms (c.args.axiom - 1) c.axiom-numbered.result.now c.requires.within
    c.axiom-numbered.ensures).1

pub returns-then-part-lt1-clause-part : goal.returns-then-part-lt1-clause-part
returns-then-part-lt1-clause-part c =
    let n = c.axiom-numbered.result.now in
    elim c.then-part-lt1.branch [
      | then-part-lt1-via-then-part-lt1 w ↦
          no_part c.args.ontology.now.axioms (member_list c.args.named.now) c.args.axiom c.args.part c.args.concepts.now
          n c.axiom-numbered.ensures (inl (omega (arith, w.if-part-lt1.true)))
      | then-part-lt1-via-else-part-lt1+then-part-part_count w ↦
          no_part c.args.ontology.now.axioms (member_list c.args.named.now) c.args.axiom c.args.part c.args.concepts.now
          n c.axiom-numbered.ensures
          (inr (omega (arith, w.if-part-part_count.true, w.part_count.ensures)))
    ]

pub part-requires-clause-counts : goal.part-requires-clause-counts
part-requires-clause-counts c =
    (axiom_in_limit c.args.ontology.now.axioms (c.args.axiom - 1) c.axiom-numbered.result.now c.requires.within
    c.axiom-numbered.ensures).0

pub returns-clause-part : goal.returns-clause-part
returns-clause-part c =
    part_there c.args.ontology.now.axioms (member_list c.args.named.now) c.args.axiom c.args.part c.part.new.self
    c.axiom-numbered.result.now c.in_ok-part.part c.axiom-numbered.ensures
    (sym c.if-not-is_named.false ∙ c.is_named.ensures.named) (omega (arith, c.if-part-lt1.false))
    (omega (arith, c.if-part-part_count.false, c.part_count.ensures)) c.in_ok-part.ensures.part
