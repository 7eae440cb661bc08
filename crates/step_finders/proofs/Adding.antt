-- Why what is found is to be added, and why nothing is.
use Rattle.std.proofs.Common.{◌≡◌, ℕ, ◌<◌, eqb, true, false, List, length, get_or, ap, ◌∙◌, sym, subst}
use Rattle.std.specs.List.{Contains}
use Rattle.std.proofs.lemmas.Bool.{eqb-true}
use Rattle.std.proofs.lemmas.List.Elements.{All-contains}
use Rattle.calculus_specs.specs.Shape.{Shape, shape_of}
use Rattle.calculus_specs.specs.Shape.Shape.{intersection, all_of}
use Rattle.calculus_specs.specs.declared.facts.Fact.{Fact}
use Rattle.calculus_specs.specs.State.{node_count_from, has, is_successor}
use Rattle.tableau_specs.specs.Steps.{SearchContext, below_of}
use Rattle.tableau_specs.specs.Steps.Adds.{by_and, by_all, by_carry}
use Rattle.calculus_specs.specs.Listed.{IsLabel}
use Rattle.step_finders.specs.declared.reason.Addition.{Addition}
use Rattle.step_finders.specs.declared.reason.Reason.{Reason}
use Rattle.step_finders.specs.declared.reason.Reason.TheVariants as R
use Rattle.step_finders.specs.Found.{Files, IsCarry, AreCarries, AreCarriesOf, LacksAtEnd, AllCarried, NoneToCarry}
use Rattle.step_finders.specs.Found.{NoneByShape, NoneByConcepts}
use Rattle.step_finders.specs.Reasons.{IsAddition}
use Rattle.step_finders.proofs.Edges.{where_any, edge_of_kind, edge_to_next}

abbrev pub added : ℕ → ℕ → Reason → Addition
added x d reason = record { node = x; concept = d; reason = reason }

module _ (w : SearchContext) (files : Files) (fs : List (Fact ℕ)) (x c : ℕ) where
  pub part_adds : (parts : List ℕ) (d : ℕ) → x < node_count_from w.first fs → has fs x c ≡ true
      → shape_of w.table c ≡ intersection parts → Contains parts d → has fs x d ≡ false
      → IsAddition w fs files (added x d (R.And c))
  part_adds parts d lt h sh m out = record {
    adds = by_and x c d parts lt h sh m;
    lacks = out;
    reason = record { is_node = lt; holds = h; parts = parts; shape = sh; is_part = m };
  }

  pub all_adds : (s e q y : ℕ) → x < node_count_from w.first fs → has fs x c ≡ true → shape_of w.table c ≡ all_of s e
      → LacksAtEnd w fs x s e q y → IsAddition w fs files (added y e (R.All x q c))
  all_adds s e q y lt h sh at =
      let is_edge = edge_to_next w.first fs q x y lt at.next in
      record {
        adds =
            by_all x y c s e lt is_edge.end_is_node h sh
            (edge_of_kind fs (λ r. below_of w r s) q x y at.role_below is_edge.leads);
        lacks = at.lacks;
        reason = record { is_edge = is_edge; holds = h; role = s; shape = sh; role_below = at.role_below };
      }

  pub carry_adds : (s e : ℕ) (pairs : List (ℕ × ℕ)) (pair : ℕ × ℕ) (q y : ℕ) → x < node_count_from w.first fs
      → has fs x c ≡ true → shape_of w.table c ≡ all_of s e
      → AreCarries w s e pairs → Contains pairs pair → LacksAtEnd w fs x pair.0 pair.1 q y
      → IsAddition w fs files (added y pair.1 (R.Carry x q pair.0 c))
  carry_adds s e pairs pair q y lt h sh are m at =
      let i = All-contains (IsCarry w s e) pairs pair are.each m in
      let is_edge = edge_to_next w.first fs q x y lt at.next in
      record {
        adds = by_carry x y c s pair.0 e pair.1
            (record {
              begin_is_node = lt;
              end_is_node = is_edge.end_is_node;
              holds = h;
              shape = sh;
              transitive = i.transitive;
              role_below = i.role_below;
              edge = edge_of_kind fs (λ r. below_of w r pair.0) q x y at.role_below is_edge.leads;
            })
            i.shape;
        lacks = at.lacks;
        reason = record {
          is_edge = is_edge;
          holds = h;
          role = s;
          filler = e;
          shape = sh;
          transitive = i.transitive;
          over_below = i.role_below;
          role_below = at.role_below;
          carried = i.shape;
        };
      }

module _ (w : SearchContext) (fs : List (Fact ℕ)) (x c : ℕ) where
  pub the_carries : (s e : ℕ) (pairs : List (ℕ × ℕ)) → shape_of w.table c ≡ all_of s e
      → AreCarriesOf w (shape_of w.table c) pairs → AreCarries w s e pairs
  the_carries s e pairs sh h = subst (λ (t : Shape). AreCarriesOf w t pairs) sh h

  pub none_to_carry : (s e : ℕ) (pairs : List (ℕ × ℕ)) → shape_of w.table c ≡ all_of s e
      → AreCarriesOf w (shape_of w.table c) pairs → AllCarried w fs x pairs → NoneToCarry w fs x s e
  none_to_carry s e pairs sh are all = record {
    carried = λ t y transitive below next.
        let h = the_carries s e pairs sh are in
        where_any (λ p. eqb p.0 t) ((d : ℕ) × (shape_of w.table d ≡ all_of t e) × (has fs y d ≡ true)) pairs
        (λ k q lt hit.
        let p : ℕ × ℕ = get_or pairs k q in
        let at : p.0 ≡ t = eqb-true p.0 t hit in
        let i = h.each k q lt in (
          p.1,
          i.shape ∙ ap (λ (u : ℕ). all_of u e) at,
          (all k q lt).have y (subst (λ (u : ℕ). is_successor fs (λ r. below_of w r u) x y ≡ true) (sym at) next),
        ))
        (h.every t transitive below);
  }

  pub none_by_label : (cs : List ℕ) → IsLabel fs x cs
      → ((k d : ℕ) → k < length cs → NoneByShape w fs x (shape_of w.table (get_or cs k d))) → NoneByConcepts w fs x
  none_by_label cs label each = record {
    none = λ e h.
        where_any (λ d. eqb d e) (NoneByShape w fs x (shape_of w.table e)) cs
        (λ k d lt hit. subst (λ (f : ℕ). NoneByShape w fs x (shape_of w.table f)) (eqb-true (get_or cs k d) e hit)
        (each k d lt))
        (label e ∙ h);
  }
