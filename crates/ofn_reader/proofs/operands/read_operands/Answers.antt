use Rattle.std.proofs.Common.{refl}
use Rattle.std.specs.Prelude.{IfOk}
use Rattle.ofn_tree.specs.Items.{items_of}
use Rattle.ofn_expressions.specs.Walk.{Judged}
use Rattle.ofn_reader.specs.Axioms.{operand_tests, MeansAxiom}
use Rattle.ofn_reader.specs.declared.keywords.AxiomKind.TheVariants as K
use Rattle.ofn_reader.proofs.Few.{three_items, two_items, one_item, some_items}
use Rattle.ofn_reader.proofs.operands.read_operands.Goals as goal

pub returns-in-SubClassOf-clause-tests : goal.returns-in-SubClassOf-clause-tests
returns-in-SubClassOf-clause-tests c =
    two_items
    (λ m is. Judged c.read_sub_class.result c.args.state.now.counts (operand_tests c.args.prefixes.now m (items_of is))
    c.read_sub_class.new.state.counts)
    c.args.kind K.SubClassOf c.args.items.now c.in-SubClassOf.is c.requires c.index-items-0.result
    c.index-items-1.result c.index-items-0.is c.index-items-1.is (λ n. refl) c.read_sub_class.ensures.tests

pub returns-in-SubClassOf-clause-value : goal.returns-in-SubClassOf-clause-value
returns-in-SubClassOf-clause-value c =
    two_items
    (λ m is. IfOk c.read_sub_class.result
    (MeansAxiom c.args.prefixes.now c.read_sub_class.new.state.counts m (items_of is)))
    c.args.kind K.SubClassOf c.args.items.now c.in-SubClassOf.is c.requires c.index-items-0.result
    c.index-items-1.result c.index-items-0.is c.index-items-1.is (λ n. refl) c.read_sub_class.ensures.value

pub returns-in-DisjointUnion-clause-tests : goal.returns-in-DisjointUnion-clause-tests
returns-in-DisjointUnion-clause-tests c =
    some_items
    (λ m is. Judged c.read_disjoint_union.result c.args.state.now.counts
    (operand_tests c.args.prefixes.now m (items_of is)) c.read_disjoint_union.new.state.counts)
    c.args.kind K.DisjointUnion c.args.items.now c.in-DisjointUnion.is c.requires
    c.index-items-0-in-DisjointUnion.result c.split_at.result.1.now c.index-items-0-in-DisjointUnion.is
    c.split_at.ensures.back (λ n. refl) c.read_disjoint_union.ensures.tests

pub returns-in-DisjointUnion-clause-value : goal.returns-in-DisjointUnion-clause-value
returns-in-DisjointUnion-clause-value c =
    some_items
    (λ m is. IfOk c.read_disjoint_union.result
    (MeansAxiom c.args.prefixes.now c.read_disjoint_union.new.state.counts m (items_of is)))
    c.args.kind K.DisjointUnion c.args.items.now c.in-DisjointUnion.is c.requires
    c.index-items-0-in-DisjointUnion.result c.split_at.result.1.now c.index-items-0-in-DisjointUnion.is
    c.split_at.ensures.back (λ n. refl) c.read_disjoint_union.ensures.value

pub returns-in-SubRole-clause-tests : goal.returns-in-SubRole-clause-tests
returns-in-SubRole-clause-tests c =
    two_items
    (λ m is. Judged c.read_sub_role.result c.args.state.now.counts (operand_tests c.args.prefixes.now m (items_of is))
    c.read_sub_role.new.state.counts)
    c.args.kind K.SubRole c.args.items.now c.in-SubRole.is c.requires c.index-items-0-in-SubRole.result
    c.index-items-1-in-SubRole.result c.index-items-0-in-SubRole.is c.index-items-1-in-SubRole.is (λ n. refl)
    c.read_sub_role.ensures.tests

pub returns-in-SubRole-clause-value : goal.returns-in-SubRole-clause-value
returns-in-SubRole-clause-value c =
    two_items
    (λ m is. IfOk c.read_sub_role.result
    (MeansAxiom c.args.prefixes.now c.read_sub_role.new.state.counts m (items_of is)))
    c.args.kind K.SubRole c.args.items.now c.in-SubRole.is c.requires c.index-items-0-in-SubRole.result
    c.index-items-1-in-SubRole.result c.index-items-0-in-SubRole.is c.index-items-1-in-SubRole.is (λ n. refl)
    c.read_sub_role.ensures.value

pub returns-in-Domain-clause-tests : goal.returns-in-Domain-clause-tests
returns-in-Domain-clause-tests c =
    two_items
    (λ m is. Judged c.read_domain.result c.args.state.now.counts (operand_tests c.args.prefixes.now m (items_of is))
    c.read_domain.new.state.counts)
    c.args.kind K.Domain c.args.items.now c.in-Domain.is c.requires c.index-items-0-in-Domain.result
    c.index-items-1-in-Domain.result c.index-items-0-in-Domain.is c.index-items-1-in-Domain.is (λ n. refl)
    c.read_domain.ensures.tests

pub returns-in-Domain-clause-value : goal.returns-in-Domain-clause-value
returns-in-Domain-clause-value c =
    two_items
    (λ m is. IfOk c.read_domain.result (MeansAxiom c.args.prefixes.now c.read_domain.new.state.counts m (items_of is)))
    c.args.kind K.Domain c.args.items.now c.in-Domain.is c.requires c.index-items-0-in-Domain.result
    c.index-items-1-in-Domain.result c.index-items-0-in-Domain.is c.index-items-1-in-Domain.is (λ n. refl)
    c.read_domain.ensures.value

pub returns-in-Range-clause-tests : goal.returns-in-Range-clause-tests
returns-in-Range-clause-tests c =
    two_items
    (λ m is. Judged c.read_range.result c.args.state.now.counts (operand_tests c.args.prefixes.now m (items_of is))
    c.read_range.new.state.counts)
    c.args.kind K.Range c.args.items.now c.in-Range.is c.requires c.index-items-0-in-Range.result
    c.index-items-1-in-Range.result c.index-items-0-in-Range.is c.index-items-1-in-Range.is (λ n. refl)
    c.read_range.ensures.tests

pub returns-in-Range-clause-value : goal.returns-in-Range-clause-value
returns-in-Range-clause-value c =
    two_items
    (λ m is. IfOk c.read_range.result (MeansAxiom c.args.prefixes.now c.read_range.new.state.counts m (items_of is)))
    c.args.kind K.Range c.args.items.now c.in-Range.is c.requires c.index-items-0-in-Range.result
    c.index-items-1-in-Range.result c.index-items-0-in-Range.is c.index-items-1-in-Range.is (λ n. refl)
    c.read_range.ensures.value

pub returns-in-Functional-clause-tests : goal.returns-in-Functional-clause-tests
returns-in-Functional-clause-tests c =
    one_item (λ m is. Judged c.read_functional.result c.args.state.now.counts
    (operand_tests c.args.prefixes.now m (items_of is)) c.read_functional.new.state.counts)
    c.args.kind K.Functional c.args.items.now c.in-Functional.is c.requires c.index-items-0-in-Functional.result
    c.index-items-0-in-Functional.is (λ n. refl) c.read_functional.ensures.tests

pub returns-in-Functional-clause-value : goal.returns-in-Functional-clause-value
returns-in-Functional-clause-value c =
    one_item (λ m is. IfOk c.read_functional.result
    (MeansAxiom c.args.prefixes.now c.read_functional.new.state.counts m (items_of is)))
    c.args.kind K.Functional c.args.items.now c.in-Functional.is c.requires c.index-items-0-in-Functional.result
    c.index-items-0-in-Functional.is (λ n. refl) c.read_functional.ensures.value

pub returns-in-Transitive-clause-tests : goal.returns-in-Transitive-clause-tests
returns-in-Transitive-clause-tests c =
    one_item (λ m is. Judged c.read_transitive.result c.args.state.now.counts
    (operand_tests c.args.prefixes.now m (items_of is)) c.read_transitive.new.state.counts)
    c.args.kind K.Transitive c.args.items.now c.in-Transitive.is c.requires c.index-items-0-in-Transitive.result
    c.index-items-0-in-Transitive.is (λ n. refl) c.read_transitive.ensures.tests

pub returns-in-Transitive-clause-value : goal.returns-in-Transitive-clause-value
returns-in-Transitive-clause-value c =
    one_item (λ m is. IfOk c.read_transitive.result
    (MeansAxiom c.args.prefixes.now c.read_transitive.new.state.counts m (items_of is)))
    c.args.kind K.Transitive c.args.items.now c.in-Transitive.is c.requires c.index-items-0-in-Transitive.result
    c.index-items-0-in-Transitive.is (λ n. refl) c.read_transitive.ensures.value

pub returns-in-Member-clause-tests : goal.returns-in-Member-clause-tests
returns-in-Member-clause-tests c =
    two_items
    (λ m is. Judged c.read_member_axiom.result c.args.state.now.counts
    (operand_tests c.args.prefixes.now m (items_of is)) c.read_member_axiom.new.state.counts)
    c.args.kind K.Member c.args.items.now c.in-Member.is c.requires c.index-items-0-in-Member.result
    c.index-items-1-in-Member.result c.index-items-0-in-Member.is c.index-items-1-in-Member.is (λ n. refl)
    c.read_member_axiom.ensures.tests

pub returns-in-Member-clause-value : goal.returns-in-Member-clause-value
returns-in-Member-clause-value c =
    two_items
    (λ m is. IfOk c.read_member_axiom.result
    (MeansAxiom c.args.prefixes.now c.read_member_axiom.new.state.counts m (items_of is)))
    c.args.kind K.Member c.args.items.now c.in-Member.is c.requires c.index-items-0-in-Member.result
    c.index-items-1-in-Member.result c.index-items-0-in-Member.is c.index-items-1-in-Member.is (λ n. refl)
    c.read_member_axiom.ensures.value

pub returns-in-Pair-clause-tests : goal.returns-in-Pair-clause-tests
returns-in-Pair-clause-tests c =
    three_items
    (λ m is. Judged c.read_pair_axiom.result c.args.state.now.counts (operand_tests c.args.prefixes.now m (items_of is))
    c.read_pair_axiom.new.state.counts)
    c.args.kind K.Pair c.args.items.now c.in-Pair.is c.requires c.index-items-0-in-Pair.result
    c.index-items-1-in-Pair.result c.index-items-2.result c.index-items-0-in-Pair.is c.index-items-1-in-Pair.is
    c.index-items-2.is (λ n. refl) c.read_pair_axiom.ensures.tests

pub returns-in-Pair-clause-value : goal.returns-in-Pair-clause-value
returns-in-Pair-clause-value c =
    three_items
    (λ m is. IfOk c.read_pair_axiom.result
    (MeansAxiom c.args.prefixes.now c.read_pair_axiom.new.state.counts m (items_of is)))
    c.args.kind K.Pair c.args.items.now c.in-Pair.is c.requires c.index-items-0-in-Pair.result
    c.index-items-1-in-Pair.result c.index-items-2.result c.index-items-0-in-Pair.is c.index-items-1-in-Pair.is
    c.index-items-2.is (λ n. refl) c.read_pair_axiom.ensures.value
