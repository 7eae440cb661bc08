use Rattle.std.proofs.Common.{◌≡◌, arith, ap, length}
use Rattle.shq_terms.specs.Concept.{some_of, all_of, at_least, exactly}
use Rattle.shq_terms.specs.Depth.{depth}
use Rattle.shq_terms.proofs.Depth.{depth_at}
use Rattle.ofn_writer.proofs.Listed.{listed_at}
use Rattle.ofn_writer.proofs.concepts.+concepts.Goals as goal

pub put_spaced-put_concept-requires : goal.put_spaced-put_concept-requires
put_spaced-put_concept-requires t c = (
  omega (
    arith,
    c.decreases,
    ap depth c.part-item.is,
    depth_at c.args.parts.now c.loop-part.part-index c.part-item.result c.loop-part-test.true,
  ),
  (listed_at (length c.args.ontology.now.classes) (length c.args.ontology.now.roles) c.args.parts.now
      c.loop-part.part-index c.part-item.result c.part-item.is c.loop-part-test.true c.loop-part.invariant.listed).0,
)

pub put_concept-returns-in-SomeOf : goal.put_concept-returns-in-SomeOf
put_concept-returns-in-SomeOf t c =
    let is : c.args.concept.now ≡ some_of c.in-SomeOf.role c.deref-in-SomeOf.result.now = cc in
    rw is c.put_restriction.ensures

pub put_concept-returns-in-AllOf : goal.put_concept-returns-in-AllOf
put_concept-returns-in-AllOf t c =
    let is : c.args.concept.now ≡ all_of c.in-AllOf.role c.deref-in-AllOf.result.now = cc in
    rw is c.put_restriction-in-AllOf.ensures

pub put_concept-returns-in-Min : goal.put_concept-returns-in-Min
put_concept-returns-in-Min t c =
    let is : c.args.concept.now ≡ at_least c.in-Min.number c.in-Min.role c.deref-in-Min.result.now = cc in
    rw is c.put_cardinality.ensures

pub put_concept-returns-in-Exact : goal.put_concept-returns-in-Exact
put_concept-returns-in-Exact t c =
    let is : c.args.concept.now ≡ exactly c.in-Exact.number c.in-Exact.role c.deref-in-Exact.result.now = cc in
    rw is c.put_cardinality-in-Exact.ensures
