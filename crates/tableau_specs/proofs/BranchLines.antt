-- Choices as rule lines.
use Rattle.std.proofs.Common.{◌≡◌, ℕ, zero, suc, ◌+◌, ◌<◌, ◌≤◌, ◌&&◌, Bool, true, List, [], ◌∷◌, map, length, get_or}
use Rattle.std.proofs.Common.{Option, Some, None, refl, ap, ◌∙◌, sym, arith}
use Rattle.std.specs.List.{slice_get}
use Rattle.std.specs.Option.{option_map}
use Rattle.std.proofs.lemmas.Option.{slice_get-map, slice_get_within}
use Rattle.std.proofs.lemmas.List.{length-map}
use Rattle.std.proofs.lemmas.List.Elements.{All-contains}
use Rattle.calculus_specs.specs.Concept.{Concept, top}
use Rattle.calculus_specs.specs.Normal.{negated_form}
use Rattle.calculus_specs.specs.Shape.{Shape, shape_of}
use Rattle.calculus_specs.specs.Shape.Shape.{union as or_shape}
use Rattle.calculus_specs.specs.Tree.{tree_of, trees_of}
use Rattle.calculus_specs.proofs.Unique.{part_list-parts_of}
use Rattle.calculus_specs.specs.declared.facts.Fact.{Fact}
use Rattle.calculus_specs.specs.declared.facts.Fact.TheVariants.{Has, Apart, Same}
use Rattle.calculus_specs.specs.State.{node_count_from, has, is_successor}
use Rattle.calculus_specs.specs.Reading.{read_fact}
use Rattle.calculus_specs.specs.Rules.{Question, Known, when, with_facts, or_children, choose_children, knows}
use Rattle.tableau_specs.specs.declared.Branch.{Branch}
use Rattle.tableau_specs.specs.declared.Branch.TheVariants.{Or, Choose, Pair}
use Rattle.tableau_specs.specs.Clash.{filled_successors}
use Rattle.tableau_specs.proofs.PlainClash.{successor_is_node, filled_are_successors}
use Rattle.tableau_specs.specs.Steps.{SearchContext, below_of, MayBranch, IsAlternative}
use Rattle.tableau_specs.specs.Steps.MayBranch.{on_union, on_filler, on_pair}
use Rattle.tableau_specs.specs.Steps.IsAlternative.{of_union, of_filler, of_complement, of_joining, of_parting}
use Rattle.tableau_specs.proofs.Listed.{most_listed}
use Rattle.tableau_specs.specs.Lines.{known_by, known_with, children_in, line_of_branch, disjuncts, alternatives}
use Rattle.tableau_specs.specs.Lines.{children_of_branch}
use Rattle.tableau_specs.specs.LineLaws.{IsOver, IsNumbered, AlternativesAreChildren, BranchIsLine}
use Rattle.tableau_specs.proofs.KnownFacts.{is_known, at_shape, concept_reads}

-- ---- the alternatives of a branch

module _ (table : List Shape) where
  abbrev read : Fact ℕ → Fact Concept
  read = read_fact (tree_of table)

  -- each alternative is in its place
  union_place : (x c : ℕ) (s : Shape) (k d : ℕ) (parts : List ℕ) → shape_of table c ≡ s → s ≡ or_shape parts
      → slice_get parts k ≡ Some d
      → slice_get (map (λ p. Has x (tree_of table p)) (disjuncts (shape_of table c))) k ≡ Some (read (Has x d))
  union_place x c s k d parts sh e at =
      ap (λ (s' : Shape). slice_get (map (λ p. Has x (tree_of table p)) (disjuncts s')) k) (sh ∙ e)
      ∙ slice_get-map (λ p. Has x (tree_of table p)) parts k
      ∙ ap (option_map (λ p. Has x (tree_of table p))) at

  in_place : (b : Branch) (k n : ℕ) (f : Fact ℕ) → n ≡ k + 1 → IsAlternative table b n f
      → slice_get (alternatives table b) k ≡ Some (read f)
  in_place b k n f e (of_union x c i d parts sh at) =
      let same : i ≡ k = omega (arith, e) in
      union_place x c (or_shape parts) k d parts sh refl (ap (slice_get parts) (sym same) ∙ at)
  in_place b k n f e (of_filler y c) =
      let same : 0 ≡ k = omega (arith, e) in ap (slice_get (alternatives table (Choose y c))) (sym same)
  in_place b k n f e (of_complement y c d neg) =
      let same : 1 ≡ k = omega (arith, e) in
      ap (slice_get (alternatives table (Choose y c))) (sym same)
      ∙ ap (λ (t : Concept). Some (Has y t)) (sym neg.negates)
  in_place b k n f e (of_joining y z) =
      let same : 0 ≡ k = omega (arith, e) in ap (slice_get (alternatives table (Pair y z))) (sym same)
  in_place b k n f e (of_parting y z) =
      let same : 1 ≡ k = omega (arith, e) in ap (slice_get (alternatives table (Pair y z))) (sym same)

  -- what stands in a place is an alternative
  record FromPlace (b : Branch) (k : ℕ) (t : Fact Concept) : Type 0 where
    fact : Fact ℕ
    is_alternative : IsAlternative table b (k + 1) fact
    is_read : t ≡ read fact

  none_there : {A : Type 0} (P : Type 0) (xs : List A) (k : ℕ) (x : A) → length xs ≤ k → slice_get xs k ≡ Some x → P
  none_there P xs k x le h = absurd (omega (arith, le, slice_get_within xs k x h))

  union_part : (x c k : ℕ) (parts : List ℕ) (o : Option ℕ) (t : Fact Concept) → shape_of table c ≡ or_shape parts
      → slice_get parts k ≡ o
      → option_map (λ p. Has x (tree_of table p)) o ≡ Some t → FromPlace (Or x c) k t
  union_part x c k parts None t sh at h = cc
  union_part x c k parts (Some d) t sh at h =
      let e : t ≡ Has x (tree_of table d) = cc in
      record { fact = Has x d; is_alternative = of_union x c k d parts sh at; is_read = e }

  union_from : (x c k : ℕ) (s : Shape) (t : Fact Concept) → shape_of table c ≡ s
      → slice_get (map (λ p. Has x (tree_of table p)) (disjuncts s)) k ≡ Some t → FromPlace (Or x c) k t
  union_from x c k (or_shape parts) t sh h =
      union_part x c k parts (slice_get parts k) t sh refl
      (sym (slice_get-map (λ p. Has x (tree_of table p)) parts k) ∙ h)
  union_from x c k _ t sh h = none_there (FromPlace (Or x c) k t) [] k t (omega arith) h

  from_place : (b : Branch) → IsNumbered table b → (k : ℕ) (t : Fact Concept)
      → slice_get (alternatives table b) k ≡ Some t → FromPlace b k t
  from_place (Or x c) numbered k t h = union_from x c k (shape_of table c) t refl h
  from_place (Choose y e) numbered zero t h = record { fact = Has y e; is_alternative = of_filler y e; is_read = cc }
  from_place (Choose y e) numbered (suc zero) t h =
      let same : t ≡ Has y (negated_form (tree_of table e)) = cc in
      record {
        fact = Has y numbered.0;
        is_alternative = of_complement y e numbered.0 numbered.1;
        is_read = same ∙ ap (Has y) (sym numbered.1.negates);
      }
  from_place (Choose y e) numbered (suc (suc k)) t h =
      none_there (FromPlace (Choose y e) (suc (suc k)) t) (alternatives table (Choose y e)) (suc (suc k)) t
      (omega arith) h
  from_place (Pair y z) numbered zero t h = record { fact = Same y z; is_alternative = of_joining y z; is_read = cc }
  from_place (Pair y z) numbered (suc zero) t h =
      record { fact = Apart y z; is_alternative = of_parting y z; is_read = cc }
  from_place (Pair y z) numbered (suc (suc k)) t h =
      none_there (FromPlace (Pair y z) (suc (suc k)) t) (alternatives table (Pair y z)) (suc (suc k)) t (omega arith) h

  -- numbers of alternatives
  numbers_within : (b : Branch) (n : ℕ) (f : Fact ℕ) → IsAlternative table b n f
      → (0 < n) × (n ≤ length (alternatives table b))
  numbers_within b n f (of_union x c k d parts sh at) =
      let same : length (alternatives table (Or x c)) ≡ length parts =
      length-map (disjuncts (shape_of table c)) (λ p. Has x (tree_of table p))
      ∙ ap (λ (s : Shape). length (disjuncts s)) sh in
      (omega arith, omega (arith, same, slice_get_within parts k d at))
  numbers_within b n f (of_filler y e) = (omega arith, omega arith)
  numbers_within b n f (of_complement y e d neg) = (omega arith, omega arith)
  numbers_within b n f (of_joining y z) = (omega arith, omega arith)
  numbers_within b n f (of_parting y z) = (omega arith, omega arith)

  -- ---- the children of a branch

  module _ (first : ℕ) (fs : List (Fact ℕ)) where
    child_of : (b : Branch) (k : ℕ) (o : Option (Fact Concept)) (child : Known) → IsNumbered table b
        → slice_get (alternatives table b) k ≡ o
        → option_map (known_with first table fs) o ≡ Some child
        → (f : Fact ℕ) × IsAlternative table b (k + 1) f × (child ≡ known_with first table fs (read f))
    child_of b k None child numbered at h = cc
    child_of b k (Some t) child numbered at h =
        let r = from_place b numbered k t at in
        let e : child ≡ known_with first table fs t = cc in
        (r.fact, r.is_alternative, e ∙ ap (known_with first table fs) r.is_read)

    pub alternatives_are_children : (b : Branch) → AlternativesAreChildren first table fs b
    alternatives_are_children b = record {
      each =
          λ k f alt. slice_get-map (known_with first table fs) (alternatives table b) k
          ∙ ap (option_map (known_with first table fs)) (in_place b k (k + 1) f refl alt);
      only = λ numbered k child h.
          child_of b k (slice_get (alternatives table b) k) child numbered refl
          (sym (slice_get-map (known_with first table fs) (alternatives table b) k) ∙ h);
      in_range = λ n f alt.
          let r = numbers_within b n f alt in
          (r.0, omega (arith, r.1, length-map (alternatives table b) (known_with first table fs)));
    }

-- ---- the line of a branch

module _ (w : SearchContext) (q : Question) (fs : List (Fact ℕ)) (over : IsOver w fs) where
  abbrev state : Known
  state = known_by w.first w.table fs

  union_children : (x : ℕ) (parts : List ℕ)
      → map {B = Known} (λ d. with_facts state (Has x d ∷ [])) (map (λ c. get_or (trees_of w.table) c top) parts)
      ≡ map (known_with w.first w.table fs) (map (λ d. Has x (tree_of w.table d)) parts)
  union_children x [] = refl
  union_children x (d ∷ ds) =
      ap (λ (l : List Known). known_with w.first w.table fs (Has x (tree_of w.table d)) ∷ l) (union_children x ds)

  or_gives : (x c : ℕ) (parts : List ℕ) → x < node_count_from w.first fs → has fs x c ≡ true
      → shape_of w.table c ≡ or_shape parts
      → children_in w q fs (line_of_branch (Or x c)) ≡ Some (children_of_branch w.first w.table fs (Or x c))
  or_gives x c parts lt h sh =
      at_shape w q fs over x c (or_shape parts) (or_children state x) lt h sh (λ e. cc)
      ∙ ap (λ (l : List Concept). Some (map (λ d. with_facts state (Has x d ∷ [])) l))
      (part_list-parts_of (map (λ c. get_or (trees_of w.table) c top) parts))
      ∙ ap (λ (l : List Known). Some l) (union_children x parts)
      ∙ ap
      (λ (s : Shape). Some (map (known_with w.first w.table fs) (map (λ d. Has x (tree_of w.table d)) (disjuncts s))))
      (sym sh)

  gives : (b : Branch) → MayBranch w fs b
      → children_in w q fs (line_of_branch b) ≡ Some (children_of_branch w.first w.table fs b)
  gives b (on_union x c parts lt h sh none) = or_gives x c parts lt h sh
  gives b (on_filler x c n s e y lt h sh next none out) =
      let et = most_listed w over.is_table c n s e sh in
      let known = is_known w q fs over y (successor_is_node w.first fs (λ r. below_of w r s) x y next) in
      ap (choose_children state y) (concept_reads w q fs over e et)
      ∙ ap (λ (t : Bool). when t (Some (children_of_branch w.first w.table fs (Choose y e)))) known
  gives b (on_pair x c n s e y z lt h sh more cy cz ne apart) =
      let test : ℕ → Type 0 = λ v. is_successor fs (λ r. below_of w r s) x v ≡ true in
      let all = filled_are_successors w.first (below_of w) fs x s e in
      let ky =
      is_known w q fs over y
      (successor_is_node w.first fs (λ r. below_of w r s) x y
      (All-contains test (filled_successors w.first (below_of w) fs x s e) y all cy)) in
      let kz =
      is_known w q fs over z
      (successor_is_node w.first fs (λ r. below_of w r s) x z
      (All-contains test (filled_successors w.first (below_of w) fs x s e) z all cz)) in
      ap (λ (t : Bool). when (t && knows state z) (Some (children_of_branch w.first w.table fs (Pair y z)))) ky
      ∙ ap (λ (t : Bool). when t (Some (children_of_branch w.first w.table fs (Pair y z)))) kz

  pub branch_is_line : (b : Branch) → MayBranch w fs b → BranchIsLine w q fs b
  branch_is_line b may =
      record { children = gives b may; alternatives = alternatives_are_children w.table w.first fs b }
