use Rattle.std.proofs.Common.{◌≡◌, sym, ap, subst, ℕ, ◌+◌, ◌<◌, ◌&&◌, Bool, true, false, List, arith}
use Rattle.std.specs.FinSet as sets
use Rattle.axiom_sets.specs.Sets.{Limited}
use Rattle.subsumption.proofs.United.{IsGrown, row_has, asked_row, passes_over, takes_in}
use Rattle.subsumption.proofs.matrix.unite_rows_where.Goals as goal
use Rattle.subsumption.proofs.matrix.unite_rows_where.Goals.{then-has, else-has}

pub loop-place-preserved : goal.loop-place-preserved
loop-place-preserved c =
    let old = c.args.rows.now in
    let rows = c.loop-place.rows in
    let added = c.args.added.now in
    let column = c.args.column in
    let place = c.loop-place.place in
    let test : ℕ → ℕ → Bool = λ x y. row_has old x column && sets.contains added.members (y + 1) in
    let Next : List Limited → Type 0 = λ rs. IsGrown added.limit (place + 1) test old rs in
    let lt : place < added.limit = omega arith in
    elim c.if-has.branch [
      | then-has w ↦
          let is : row_has old place column ≡ true =
          asked_row added.limit place test old rows c.loop-place.invariant lt _ column true w.if-has.ensures in
          subst Next (sym w.rows-is)
          (takes_in added.limit place test old rows c.loop-place.invariant added.members w.put_all.new.self _ lt
          w.put_all.ensures.limit w.put_all.ensures.members
          (λ y. ap (λ (b : Bool). b && sets.contains added.members (y + 1)) is))
      | else-has w ↦
          let is : row_has old place column ≡ false =
          asked_row added.limit place test old rows c.loop-place.invariant lt _ column false w.if-has.ensures in
          subst Next (sym w.rows-is)
          (passes_over added.limit place test old rows c.loop-place.invariant
          (λ y. ap (λ (b : Bool). b && sets.contains added.members (y + 1)) is))
    ]
