-- The text of a workload is short enough to be read.
use Rattle.std.proofs.Common.{ℕ, zero, suc, ◌+◌, ◌*◌, ◌≤◌, List, ◌++◌, length, arith, length-append, codes, decimal}
use Rattle.std.proofs.lemmas.Fmt.{length-decimal-le}
use Rattle.workload.specs.WorkloadText.{line, kernel_text, with_two, with_three, some_text, two_text, all_text}
use Rattle.workload.specs.WorkloadText.{either_text, group_text, groups_text, workload_text}

short_number : (k : ℕ) → k ≤ 4000 → length (decimal k) ≤ 4
short_number k small = length-decimal-le 4 k (omega arith) (omega arith) (omega arith)

two_short : (k : ℕ) (first second last : List ℕ) → k ≤ 4000
    → length (line (with_two k first second last)) ≤ length first + length second + length last + 9
two_short k first second last small = let short = short_number k small in simp length-append (omega arith)

three_short : (k : ℕ) (first second third last : List ℕ) → k ≤ 4000
    → length (line (with_three k first second third last))
    ≤ length first + length second + length third + length last + 13
three_short k first second third last small = let short = short_number k small in simp length-append (omega arith)

group_short : (k : ℕ) → k ≤ 4000 → length (group_text k) ≤ 300
group_short k small =
    let some = two_short k (codes "SubClassOf(:A") (codes " ObjectSomeValuesFrom(:r :B") (codes "))") small in
    let two = two_short k (codes "SubClassOf(:A") (codes " ObjectMinCardinality(2 :s :B") (codes "))") small in
    let all = two_short k (codes "SubClassOf(:B") (codes " ObjectAllValuesFrom(:r :C") (codes "))") small in
    let either = three_short k (codes "SubClassOf(:C") (codes " ObjectUnionOf(:A") (codes " :D") (codes "))") small in
    omega (
      arith,
      some,
      two,
      all,
      either,
      length-append (line (some_text k) ++ line (two_text k) ++ line (all_text k)) (line (either_text k)),
      length-append (line (some_text k) ++ line (two_text k)) (line (all_text k)),
      length-append (line (some_text k)) (line (two_text k)),
    )

groups_short : (n : ℕ) → n ≤ 4000 → length (groups_text n) ≤ 300 * n
groups_short zero small = omega arith
groups_short (suc n) small = omega (
  arith,
  length-append (groups_text n) (group_text (n + 1)),
  groups_short n (omega arith),
  group_short (n + 1) (omega arith),
)

kernel_short : length kernel_text ≤ 1000
kernel_short = simp length-append (omega arith)

pub workload_short : (n : ℕ) → n ≤ 4000 → length (workload_text n) ≤ 4294967293
unfolding workload_text
workload_short n small = omega (
  arith,
  kernel_short,
  groups_short n small,
  length-append (kernel_text ++ groups_text n) (line (codes ")")),
  length-append kernel_text (groups_text n),
)
