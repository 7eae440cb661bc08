-- What is refuted follows in every world.
use Rattle.std.proofs.Common.{◌≡◌, ℕ, ◌+◌, ◌<◌, List, [], ◌∷◌, Option, Some, None, refl, arith}
use Rattle.shq_nnf.specs.Concept.{Concept}
use Rattle.shq_nnf.specs.Numbered.{Numbered}
use Rattle.role_box.specs.On.{On}
use Rattle.role_box.specs.On.TheVariants.{Any, Individual}
use Rattle.role_box.specs.Shape.{Shape}
use Rattle.role_box.specs.Line.{Line, Tree, node, Trees, no_trees, tree}
use Rattle.role_box.specs.Rules.{Question, on_any, Known, children_of, nothing_known}
use Rattle.role_box.specs.Valid.{concept_at, IsShut, AreShut, IsRefutation}
use Rattle.refutation_truth.specs.Theory.{named_axioms, theory_of, node_in_question, question_of}
use Rattle.all_worlds.specs.Worlds.{World, IsIn, MeetsAll, IsSo}
use Rattle.all_worlds.specs.Laws.{RefutationsHoldIn, RefutationsHoldByAllIn, RefutationsOnAnyHoldIn}
use Rattle.all_worlds.proofs.Stable.{stable}
use Rattle.all_worlds.proofs.Models.{Model}
use Rattle.all_worlds.proofs.Lines.{MeetsQuestion, NoneHasModel, OneHasModelIf, begun, blank, line_one}
use Rattle.all_worlds.proofs.Named.{meets_theory, given_true, any_node, individual_node, meets_named}

-- none of the branches that a line leaves has a model, and its premises hold
abbrev NoneHasModelOf : {d : Type 0} → World d → ℕ → Option (List Known) → Type 0
NoneHasModelOf w named None = ⊥
NoneHasModelOf w named (Some ks) = NoneHasModel w named ks

not_both : {d : Type 0} (w : World d) (named : ℕ) (o : Option (List Known)) → NoneHasModelOf w named o
    → ¬ OneHasModelIf w named o
not_both w named None none one = none
not_both w named (Some ks) none one = one none

module _ {d : Type 0} (w : World d) (named : ℕ) (q : Question) (concept : ℕ → Option Concept) (v : d)
    (t : MeetsQuestion w named q v) where
  mutual
    shut_has_none : (s : Tree) (k : Known) → IsShut q concept k s → ¬ Model w named k
    shut_has_none (node line kids) k shut m =
        not_both w named (children_of q concept k line) (shut_have_none kids (children_of q concept k line) shut)
        (line_one w named q concept v t k m line)

    shut_have_none : (ss : Trees) (o : Option (List Known)) → AreShut q concept o ss → NoneHasModelOf w named o
    shut_have_none no_trees None shut = shut
    shut_have_none (tree s ss) None shut = shut
    shut_have_none no_trees (Some []) shut = tt
    shut_have_none (tree s ss) (Some []) shut = tt
    shut_have_none no_trees (Some (k ∷ ks)) shut = absurd shut
    shut_have_none (tree s ss) (Some (k ∷ ks)) shut = (shut_has_none s k shut.0, shut_have_none ss (Some ks) shut.1)

-- what is refuted is met nowhere
met_nowhere : {d : Type 0} (w : World d) (named : ℕ) (q : Question) (shapes : List Shape) (lines : List Line)
    → IsRefutation q shapes lines → (v : d) → ¬ MeetsQuestion w named q v
met_nowhere w named q shapes lines h v t =
    shut_has_none w named q (concept_at shapes) v t h.tree nothing_known h.is_shut
    (blank w named q (concept_at shapes) v t)

module _ {d : Type 0} (w : World d) where
  -- where no member is what a question asks for, what the query asks is so
  module _ (k : ℕ) (axioms : List Numbered) (ks : List ℕ) (sub sup : Concept) (on : On)
      (unmet : (v : d) → ¬ MeetsQuestion w k (question_of k axioms ks (record { sub = sub; sup = sup; on = on })) v)
      (m : MeetsAll w (named_axioms axioms ks)) where
    no_counter : (v : d) → (node_in_question k on < k + 1 → begun w k v (node_in_question k on) ≡ v) → IsIn w sub v
        → IsIn w sup v
    no_counter v at inside =
        stable w sup v
        (λ out.
        unmet v
        (record {
          theory_met = meets_theory w axioms ks m;
          facts_met = given_true w axioms k ks m;
          are_first = omega arith;
          is_at = at;
          in_sub = inside;
          not_in_sup = out;
        }))

  pub so_where_unmet : (k : ℕ) (axioms : List Numbered) (ks : List ℕ) (sub sup : Concept) (on : On)
      → ((v : d) → ¬ MeetsQuestion w k (question_of k axioms ks (record { sub = sub; sup = sup; on = on })) v)
      → MeetsAll w (named_axioms axioms ks) → IsSo w sub sup on
  so_where_unmet k axioms ks sub sup Any unmet m =
      λ v. no_counter k axioms ks sub sup Any unmet m v (λ lt. any_node w k v)
  so_where_unmet k axioms ks sub sup (Individual a) unmet m =
      no_counter k axioms ks sub sup (Individual a) unmet m (w.individual a) (individual_node w k a)

  pub refuted_holds : RefutationsHoldIn w
  refuted_holds k axioms ks q shapes lines h m =
      so_where_unmet k axioms ks q.sub q.sup q.on (met_nowhere w k (question_of k axioms ks q) shapes lines h) m

  pub refuted_holds_by_all : RefutationsHoldByAllIn w
  refuted_holds_by_all k axioms ks q shapes lines h m =
      refuted_holds k axioms ks q shapes lines h (meets_named w axioms ks m)

  -- ---- without individuals

  any_inside : (axioms : List Numbered) (ks : List ℕ) (sub sup : Concept) (shapes : List Shape) (lines : List Line)
      → IsRefutation (on_any (theory_of axioms ks) sub sup) shapes lines → MeetsAll w (named_axioms axioms ks)
      → (v : d) → IsIn w sub v → IsIn w sup v
  any_inside axioms ks sub sup shapes lines h m v inside =
      stable w sup v
      (λ out.
      met_nowhere w 0 (on_any (theory_of axioms ks) sub sup) shapes lines h v
      (record {
        theory_met = meets_theory w axioms ks m;
        facts_met = λ a p f e. cc;
        are_first = omega arith;
        is_at = λ lt. refl;
        in_sub = inside;
        not_in_sup = out;
      }))

  pub refuted_on_any_holds : RefutationsOnAnyHoldIn w
  refuted_on_any_holds axioms ks sub sup Any shapes lines h m = any_inside axioms ks sub sup shapes lines h m
  refuted_on_any_holds axioms ks sub sup (Individual a) shapes lines h m =
      any_inside axioms ks sub sup shapes lines h m (w.individual a)
