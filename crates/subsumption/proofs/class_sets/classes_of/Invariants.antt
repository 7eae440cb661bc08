use Rattle.std.proofs.Common.{◌≡◌, ◌++◌, ◌-◌, map, true}
use Rattle.std.specs.Prelude.{nat_lt}
use Rattle.std.specs.List.{list_all}
use Rattle.axiom_sets.specs.Sets.{member_list}
use Rattle.subsumption.proofs.class_sets.classes_of.Given as goal

abbrev pub invariant-loop-number : goal.invariant-loop-number
invariant-loop-number l = record {
  listed : l.classes.items ++ map (λ k. k - 1) l.number-iterator ≡ map (λ k. k - 1) (member_list l.set);
  from_one : list_all (λ k. nat_lt 0 k) l.number-iterator ≡ true;
}
