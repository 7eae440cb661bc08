use Rattle.std.proofs.Common.{◌∙◌, arith, inl, inr}
use Rattle.row_cache.proofs.Named.{among_members, no_member}
use Rattle.row_cache.proofs.cached_row.is_named.Goals as goal
use Rattle.row_cache.proofs.cached_row.is_named.Goals.{then-axiom-lt1-via-then-axiom-lt1}
use Rattle.row_cache.proofs.cached_row.is_named.Goals.{then-axiom-lt1-via-else-axiom-lt1+then-axiom-limit}

pub returns-then-axiom-lt1-clause-named : goal.returns-then-axiom-lt1-clause-named
returns-then-axiom-lt1-clause-named c =
    let s = c.args.named.now in
    elim c.then-axiom-lt1.branch [
      | then-axiom-lt1-via-then-axiom-lt1 w ↦
          no_member s c.args.axiom c.limit-limit.ensures.within (inl (omega (arith, w.if-axiom-lt1.true)))
      | then-axiom-lt1-via-else-axiom-lt1+then-axiom-limit w ↦
          no_member s c.args.axiom c.limit-limit.ensures.within
          (inr (omega (arith, w.if-axiom-limit.true, c.limit-limit.ensures.limit)))
    ]

pub returns-clause-named : goal.returns-clause-named
returns-clause-named c =
    c.has.ensures
    ∙ among_members c.args.named.now c.args.axiom (omega (arith, c.if-axiom-lt1.false))
    (omega (arith, c.if-axiom-limit.false, c.limit-limit.ensures.limit))
