use Rattle.std.proofs.Common.{◌+◌, ◌++◌, List, [], ℕ, take, get_or, ap, sym, subst, ◌∙◌}
use Rattle.std.proofs.lemmas.List.{take_more}
use Rattle.search_rules.specs.Lists.{option_list}
use Rattle.search_rules.proofs.Carrying.{CarriesTo, carries_first, carries_more}
use Rattle.search_rules.proofs.carries.carried.Goals as goal

pub loop-lower-init : goal.loop-lower-init
loop-lower-init c =
    subst (λ (l : List (ℕ × ℕ)). CarriesTo c.args.concepts.now c.args.roles.now c.args.role c.args.filler [] l)
    (sym (c.in_ok-push_some.ensures
    ∙ ap (λ (l : List (ℕ × ℕ)). l ++ option_list c.own_carry-own.result) c.new-pairs.ensures))
    (carries_first c.args.concepts.now c.args.roles.now c.args.role c.args.filler c.args.number c.requires.shape
    c.own_carry-own.result c.own_carry-own.ensures)

pub loop-lower-preserved : goal.loop-lower-preserved
loop-lower-preserved c =
    let i = c.loop-lower.lower-index in
    let ts = c.args.transitive.now in
    subst
    (λ (l : List (ℕ × ℕ)). CarriesTo c.args.concepts.now c.args.roles.now c.args.role c.args.filler (take (i + 1) ts) l)
    (sym c.in_ok-push_some-2.ensures)
    (subst (λ (ls : List ℕ). CarriesTo c.args.concepts.now c.args.roles.now c.args.role c.args.filler ls
    (c.loop-lower.pairs ++ option_list c.carry_of-pair.result))
    (sym (take_more ts i 0 c.loop-lower-test.true))
    (carries_more c.args.concepts.now c.args.roles.now c.args.role c.args.filler (take i ts) (get_or ts i 0)
    c.loop-lower.pairs c.carry_of-pair.result c.loop-lower.invariant (c.requires.each i 0 c.loop-lower-test.true)
    c.carry_of-pair.ensures))
