-- How many classes of an individual are open.
use Rattle.std.proofs.Common.{◌≡◌, ℕ, ◌+◌, ◌<◌, ◌≤◌, true, List, arith}
use Rattle.axiom_sets.specs.Sets.{Limited}
use Rattle.shq_meaning.specs.Below.{count_below}
use Rattle.subsumption.proofs.PassingCounts.{count_more}
use Rattle.realizer.specs.Asked.{is_open, IsCloser}

abbrev pub open_count : ℕ → List Limited → ℕ → Limited → ℕ
open_count count rows a types = count_below count (is_open rows a types)

-- they get fewer as one is settled
pub fewer_open : (count a x : ℕ) (rows rows' : List Limited) (types types' : Limited) → x < count
    → is_open rows a types x ≡ true → IsCloser count rows types rows' types' a x
    → open_count count rows' a types' < open_count count rows a types
fewer_open count a x rows rows' types types' lx open_yet closer =
    let less : count_below count (is_open rows' a types') + 1 ≤ count_below count (is_open rows a types) =
    count_more count (is_open rows' a types') (is_open rows a types) x lx closer.fewer closer.settled open_yet in
    omega (arith, less)
