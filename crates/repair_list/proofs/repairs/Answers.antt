use Rattle.std.proofs.Common.{◌≡◌, ◌∙◌, ◌+◌, ◌<◌, ◌≤◌, ◌++◌, ◌∷◌, [], List, length, take, sym, ap, subst, arith}
use Rattle.std.proofs.lemmas.List.{get_or-take, length-take-le, take_all, take_more}
use Rattle.axiom_sets.specs.Sets.{Limited}
use Rattle.repair_list.specs.Alone.{AreRepairs, IsRepairAdded}
use Rattle.repair_list.proofs.Alone.{left_limits, list_limits, repairs_more}
use Rattle.repair_list.proofs.repairs.Goals as goal

pub add_repair-requires-clause-limits : goal.add_repair-requires-clause-limits
add_repair-requires-clause-limits c =
    let found = c.args.found.now in
    let lt : c.loop-place.place < length found.leaves.items =
    omega (arith, c.loop-place-test.true, c.len-place-end.ensures, found.leaves.ok.0) in
    left_limits found.justifications.items found.leaves.items c.requires c.index.result.now
    (c.loop-place.place, lt, sym c.index.ensures) c.deref.result.now c.deref.ensures.value

pub add_repair-requires-clause-list_limits : goal.add_repair-requires-clause-list_limits
add_repair-requires-clause-list_limits c =
    let found = c.args.found.now in
    let leaves = found.leaves.items in
    let p = c.loop-place.place in
    let lt : p < length leaves = omega (arith, c.loop-place-test.true, c.len-place-end.ensures, found.leaves.ok.0) in
    let short : length (take p leaves) ≡ p = length-take-le p leaves (omega arith) in
    list_limits found.justifications.items leaves c.requires c.index.result.now (p, lt, sym c.index.ensures)
    c.loop-place.list.items
    (λ x x_at.
    let at = ((c.loop-place.invariant.members x).0 x_at).0 in
    let low : at.0 < p = omega (arith, at.1, short) in
    (at.0, omega arith, sym (get_or-take p leaves at.0 x low) ∙ at.2))

pub loop-place-preserved : goal.loop-place-preserved
loop-place-preserved c =
    let found = c.args.found.now in
    let justifications = found.justifications.items in
    let leaves = found.leaves.items in
    let p = c.loop-place.place in
    let leaf = c.index.result.now in
    let old = c.loop-place.list.items in
    let new = c.add_repair.new.list.items in
    let lt : p < length leaves = omega (arith, c.loop-place-test.true, c.len-place-end.ensures, found.leaves.ok.0) in
    let longer : take (p + 1) leaves ≡ take p leaves ++ leaf ∷ [] =
    take_more leaves p leaf lt ∙ ap (λ (x : Limited). take p leaves ++ x ∷ []) (sym c.index.ensures) in
    let added : IsRepairAdded justifications old leaf new =
    subst (λ (js : List Limited). IsRepairAdded js old leaf new) c.deref.ensures.value
    c.in_ok-add_repair.ensures.added in
    record {
      order = c.in_ok-add_repair.ensures.order;
      members =
          repairs_more justifications (take p leaves) (take (p + 1) leaves) old new leaf longer added
          c.loop-place.invariant.members;
    }

pub returns-clause-repairs : goal.returns-clause-repairs
returns-clause-repairs c =
    let found = c.args.found.now in
    let leaves = found.leaves.items in
    let past : length leaves ≤ c.loop-place.place =
    omega (arith, c.loop-place-test.false, c.len-place-end.ensures, found.leaves.ok.0) in
    subst (λ (xs : List Limited). AreRepairs found.justifications.items xs c.loop-place.list.items)
    (take_all c.loop-place.place leaves past) c.loop-place.invariant.members
