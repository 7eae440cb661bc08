use Rattle.std.proofs.Common.{◌≡◌, ◌∙◌, ℕ, length, refl, ap, sym, subst}
use Rattle.std.proofs.lemmas.Result.{IfOk-weaker}
use Rattle.axiom_sets.specs.Sets.{IsWithin}
use Rattle.query_asker.specs.AskerLists.{AskerLists}
use Rattle.query_asker.specs.Asking.{IsPartIn, IsLocalPart, lists_of}
use Rattle.query_asker.proofs.Local.{is_local}
use Rattle.query_asker.proofs.asker.Asker.local_part.Goals as goal

pub returns : goal.returns
returns c =
    let i = c.self.inside in
    let s = c.args.set.now in
    let limit : s.limit ≡ length i.oracle.ontology.axioms =
    c.requires ∙ ap (λ (a : AskerLists). length a.ontology.axioms) (sym c.self.view_is) in
    let within : IsWithin (length i.oracle.ontology.axioms) s.members =
    subst (λ (n : ℕ). IsWithin n s.members) limit c.limit-limit.ensures.within in
    let a = lists_of i.oracle i.query.now i.among i.first i.asks in
    record {
      part = IfOk-weaker c.part_in.result (IsPartIn i.among s) (IsLocalPart c.args.self.now s)
          (λ p h. subst (λ (b : AskerLists). IsLocalPart b s p) c.self.view_is
          (is_local a i.among s p refl c.self.invariant.can_ask.keeps within h))
          c.part_in.ensures;
    }
