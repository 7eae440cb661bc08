use Rattle.std.proofs.Common.{◌≡◌, ◌-◌, List, length, take, drop, ap, ◌∙◌, arith}
use Rattle.std.specs.Prelude.{count_by}
use Rattle.std.proofs.lemmas.List.{length-take}
use Rattle.completion_tree.specs.declared.tree.Entry.{Entry}
use Rattle.completion_tree.specs.Trail.{is_fact, is_same}
use Rattle.completion_tree.proofs.Entries.{take-rest}
use Rattle.completion_tree.proofs.Places.{fewer, places_cut}
use Rattle.completion_tree.proofs.trail.Trail.cut.Goals as goal

pub overflow_sub-len : goal.overflow_sub-len
overflow_sub-len g c =
    let es = c.self.inside.entries.items in
    let n = c.args.len in
    let facts : c.facts_among-facts.result ≡ count_by is_fact (drop n es) =
    c.facts_among-facts.ensures
    ∙ ap (λ (us : List Entry). count_by is_fact (take (length us - n) (drop n us))) c.deref.ensures.value
    ∙ ap (count_by is_fact) (take-rest n es) in
    omega (
      arith,
      fewer is_fact es c.self.inside.facts.items n c.facts_among-facts.result c.self.invariant.0 facts,
      c.len.ensures,
    )

pub overflow_sub-len-2 : goal.overflow_sub-len-2
overflow_sub-len-2 g c =
    let es = c.self.inside.entries.items in
    let n = c.args.len in
    let joins : c.joins_among-joins.result ≡ count_by is_same (drop n es) =
    c.joins_among-joins.ensures
    ∙ ap (λ (us : List Entry). count_by is_same (take (length us - n) (drop n us))) c.deref-2.ensures.value
    ∙ ap (count_by is_same) (take-rest n es) in
    omega (
      arith,
      fewer is_same es c.self.inside.joins.items n c.joins_among-joins.result c.self.invariant.1 joins,
      c.len-2.ensures,
    )

pub invariant_of-self : goal.invariant_of-self
invariant_of-self g c =
    let es = c.self.inside.entries.items in
    let n = c.args.len in
    let facts : c.facts_among-facts.result ≡ count_by is_fact (drop n es) =
    c.facts_among-facts.ensures
    ∙ ap (λ (us : List Entry). count_by is_fact (take (length us - n) (drop n us))) c.deref.ensures.value
    ∙ ap (count_by is_fact) (take-rest n es) in
    let joins : c.joins_among-joins.result ≡ count_by is_same (drop n es) =
    c.joins_among-joins.ensures
    ∙ ap (λ (us : List Entry). count_by is_same (take (length us - n) (drop n us))) c.deref-2.ensures.value
    ∙ ap (count_by is_same) (take-rest n es) in
    let put = c.truncate-3.ensures.items in (
      places_cut is_fact es c.truncate-3.new.self.items c.self.inside.facts.items c.truncate.new.self.items n
          c.facts_among-facts.result c.len.result c.self.invariant.0 facts (omega (arith, c.len.ensures))
          c.truncate.ensures.items put,
      places_cut is_same es c.truncate-3.new.self.items c.self.inside.joins.items c.truncate-2.new.self.items n
          c.joins_among-joins.result c.len-2.result c.self.invariant.1 joins (omega (arith, c.len-2.ensures))
          c.truncate-2.ensures.items put,
      omega (arith, ap length put, length-take n es, c.self.invariant.2),
    )
