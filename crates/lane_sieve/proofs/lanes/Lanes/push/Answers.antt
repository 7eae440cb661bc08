use Rattle.std.proofs.Common.{◌≡◌, ◌∙◌, [], ◌∷◌, ap, arith, length, false, true}
use Rattle.std.proofs.lemmas.List.{length-append}
use Rattle.std.specs.Prelude.{not, is_ok}
use Rattle.lane_sieve.proofs.Columns.{firsts-push, firsts-undo}
use Rattle.lane_sieve.proofs.lanes.Lanes.push.Goals as goal

pub invariant_of-self-then-is_err : goal.invariant_of-self-then-is_err
invariant_of-self-then-is_err c =
    let refused : is_ok c.push-2.result ≡ false = c.is_err.ensures.negation ∙ ap not c.if-is_err.true in
    let items = rw refused at c.push-2.ensures.items in
    let len = rw refused at c.push-2.ensures.len in
    let whole : c.len-then-is_err.result ≡ length c.self.inside.prints.items =
    omega (arith, c.len-then-is_err.ensures, len) in
    rw (c.truncate.ensures.items, c.in_ok-push.ensures.items, whole, items)
    (c.self.invariant.0, firsts-undo _ _ _ c.self.invariant.1)

pub invariant_of-self-else-is_err : goal.invariant_of-self-else-is_err
invariant_of-self-else-is_err c =
    let done : is_ok c.push-2.result ≡ true = c.is_err.ensures.negation ∙ ap not c.if-is_err.false in
    let items = rw done at c.push-2.ensures.items in
    let len = rw done at c.push-2.ensures.len in
    let more = length-append c.self.inside.prints.items (c.args.print ∷ []) in
    rw (c.in_ok-push.ensures.items, items)
    (omega (arith, more, c.len.ensures, c.if-len.false), firsts-push _ _ c.args.print (omega arith) c.self.invariant.1)
