-- What lines leave of a branch, by the shape of the concept from which they go on.
use Rattle.std.proofs.Common.{◌≡◌, ℕ, ◌&&◌, ltb, Bool, true, false, List, [], ◌∷◌, ◌++◌, map, length, Option, Some}
use Rattle.std.proofs.Common.{None, refl, ap, subst, sym, ◌∙◌, Bor, arith}
use Rattle.std.specs.List.{list_all}
use Rattle.std.proofs.lemmas.Bool.{and_parts, and_from, ltb-true, lt-ltb}
use Rattle.shq_terms.specs.Concept.{Concept, name, complement, all_of}
use Rattle.calculus_specs.specs.Normal.{negated_form}
use Rattle.calculus_specs.specs.Shape.{Shape}
use Rattle.calculus_specs.specs.Shape.Shape.{intersection, union, name as name_shape, all_of as all_shape}
use Rattle.calculus_specs.specs.Tree.{tree_of}
use Rattle.shq_nnf.specs.Numbers.{Extends, IsNumber}
use Rattle.shq_nnf.specs.Shapes.{form_of}
use Rattle.shq_nnf.specs.declared.shapes.Shape.{Shape as Shown}
use Rattle.shq_nnf.specs.declared.shapes.Shape.TheVariants as S
use Rattle.shq_nnf.proofs.Numbers.{tree_stays, length_extends}
use Rattle.calculus_specs.proofs.Unique.{part_list-parts_of}
use Rattle.calculus_specs.specs.declared.facts.Fact.{Fact}
use Rattle.calculus_specs.specs.declared.facts.Fact.TheVariants.{Has}
use Rattle.calculus_specs.specs.State.{has_tree, has_edge}
use Rattle.calculus_specs.specs.Reading.{read_facts, is_fact_listed, are_listed}
use Rattle.branch_facts.specs.NumberedBranch.{NumberedBranch as Branch}
use Rattle.calculus_specs.specs.Line.{Line}
use Rattle.calculus_specs.specs.Line.Line.{and_line, or_line, all_line, carry_line, choose_line, clash_line}
use Rattle.calculus_specs.specs.Rules.{Known, knows, when, and_children, or_children, all_children, carry_children}
use Rattle.calculus_specs.specs.Rules.{clash_children}
use Rattle.calculus_specs.specs.Rules.{with_facts as known_with}
use Rattle.refutation_rules.specs.declared.outcome.Outcome.{Outcome}
use Rattle.refutation_rules.specs.declared.outcome.Outcome.TheVariants.{Closed, More, Branches}
use Rattle.refutation_rules.specs.Outcomes.{known_of, branch_with_facts, children_after, IsFitIfSome, AddsIfSome}
use Rattle.refutation_rules.specs.Outcomes.{BranchesInto}
use Rattle.refutation_rules.specs.RefutationContext.{RefutationContext, theory, line_children, IsSameButTable}
use Rattle.refutation_rules.specs.RefutationContext.{IsOutcome, IsHeldShape, LineAdds, LinePassesOn, LineChooses}
use Rattle.refutation_rules.specs.RefutationContext.{LineCloses}
use Rattle.refutation_rules.proofs.Reading.{facts_more, known_stays}
use Rattle.refutation_rules.proofs.Contexts.{line_stays}

-- facts more, over numbers and over trees
pub known_more : (table : List Shape) (k : Branch) (items : List (Fact ℕ)) (gs : List (Fact Concept))
    → read_facts (tree_of table) items ≡ gs
    → known_with (known_of table k) gs ≡ known_of table (branch_with_facts k items)
known_more table k items gs e =
    ap (λ (fs : List (Fact Concept)). record { nodes = k.nodes; facts = fs })
    (ap (λ (l : List (Fact Concept)). read_facts (tree_of table) k.facts ++ l) (sym e)
    ∙ sym (facts_more table k.facts items))

read_all : (table : List Shape) (x : ℕ) (cs : List ℕ)
    → read_facts (tree_of table) (map (Has x) cs) ≡ map (Has x) (map (tree_of table) cs)
read_all table x [] = refl
read_all table x (c ∷ cs) = ap (λ (l : List (Fact Concept)). Has x (tree_of table c) ∷ l) (read_all table x cs)

listed_all : (n x : ℕ) (cs : List ℕ) → list_all (λ c. ltb c n) cs ≡ true → are_listed n (map (Has x) cs) ≡ true
listed_all n x [] h = refl
listed_all n x (c ∷ cs) h =
    let p = and_parts (ltb c n) (list_all (λ d. ltb d n) cs) h in
    and_from (ltb c n) (are_listed n (map (Has x) cs)) p.0 (listed_all n x cs p.1)

-- ---- intersections and unions

pub and_more : (f : RefutationContext) (k : Branch) (x c : ℕ) (parts : List ℕ) (items : List (Fact ℕ))
    → IsHeldShape f k x c (intersection parts) → items ≡ map (Has x) parts
    → (line_children f k (and_line x c) ≡ Some (known_of f.table (branch_with_facts k items) ∷ []))
    × (are_listed (length f.table) items ≡ true)
and_more f k x c parts items h e =
    let trees = map (tree_of f.table) parts in
    let known = known_of f.table k in (
      h.goes_on (and_children known x)
          ∙ ap (λ (l : List Concept). Some (known_with known (map (Has x) l) ∷ [])) (part_list-parts_of trees)
          ∙ ap (λ (m : Known). Some (m ∷ []))
          (known_more f.table k items (map (Has x) trees)
          (ap (read_facts (tree_of f.table)) e ∙ read_all f.table x parts)),
      ap (are_listed (length f.table)) e ∙ listed_all (length f.table) x parts h.parts_below,
    )

pub and_none : (f : RefutationContext) (k : Branch) (x c : ℕ) (s : Shown) → IsHeldShape f k x c (form_of s)
    → ((parts : Bor (List ℕ)) → s ≡ S.And parts → ⊥) → line_children f k (and_line x c) ≡ None
and_none f k x c (S.And parts) h other = absurd (other parts refl)
and_none f k x c _ h other = h.goes_on (and_children (known_of f.table k) x)

or_each : (table : List Shape) (k : Branch) (x : ℕ) (cs : List ℕ)
    → map (λ (d : Concept). known_with (known_of table k) (Has x d ∷ [])) (map (tree_of table) cs)
    ≡ map (known_of table) (map (λ (f : Fact ℕ). branch_with_facts k (f ∷ [])) (map (Has x) cs))
or_each table k x [] = refl
or_each table k x (c ∷ cs) =
    let head = known_more table k (Has x c ∷ []) (Has x (tree_of table c) ∷ []) refl in
    let tail = or_each table k x cs in
    λ i. head i ∷ tail i

pub or_more : (f : RefutationContext) (k : Branch) (x c : ℕ) (parts : List ℕ) (items : List (Fact ℕ))
    → IsHeldShape f k x c (union parts) → items ≡ map (Has x) parts
    → (line_children f k (or_line x c)
    ≡ Some (map (known_of f.table) (map (λ (g : Fact ℕ). branch_with_facts k (g ∷ [])) items)))
    × (are_listed (length f.table) items ≡ true)
or_more f k x c parts items h e =
    let trees = map (tree_of f.table) parts in
    let known = known_of f.table k in (
      h.goes_on (or_children known x)
          ∙ ap (λ (l : List Concept). Some (map (λ (d : Concept). known_with known (Has x d ∷ [])) l))
          (part_list-parts_of trees)
          ∙ ap (λ (l : List Known). Some l) (or_each f.table k x parts)
          ∙ ap
          (λ (l : List (Fact ℕ)). Some (map (known_of f.table) (map (λ (g : Fact ℕ). branch_with_facts k (g ∷ [])) l)))
          (sym e),
      ap (are_listed (length f.table)) e ∙ listed_all (length f.table) x parts h.parts_below,
    )

pub or_none : (f : RefutationContext) (k : Branch) (x c : ℕ) (s : Shown) → IsHeldShape f k x c (form_of s)
    → ((parts : Bor (List ℕ)) → s ≡ S.Or parts → ⊥) → line_children f k (or_line x c) ≡ None
or_none f k x c (S.Or parts) h other = absurd (other parts refl)
or_none f k x c _ h other = h.goes_on (or_children (known_of f.table k) x)

-- ---- universal restrictions

pub one_fact : (table : List Shape) (k : Branch) (y n : ℕ)
    → known_with (known_of table k) (Has y (tree_of table n) ∷ []) ≡ known_of table (branch_with_facts k (Has y n ∷ []))
one_fact table k y n = known_more table k (Has y n ∷ []) (Has y (tree_of table n) ∷ []) refl

module _ (f : RefutationContext) (k : Branch) (x y c s e : ℕ) (h : IsHeldShape f k x c (all_shape s e)) where
  abbrev known : Known
  known = known_of f.table k

  abbrev leads : Bool
  leads = knows known y && has_edge known.facts (λ r. (theory f).below r s) x y

  abbrev carries : ℕ → Bool
  carries t =
      (theory f).is_transitive t && (theory f).below t s && knows known y
      && has_edge known.facts (λ r. (theory f).below r t) x y

  pub all_adds : leads ≡ true → LineAdds f k (all_line x y c) y (Some e)
  all_adds is = (
    ltb-true e (length f.table) h.parts_below,
    h.goes_on (all_children (theory f) known x y)
        ∙ ap (λ (b : Bool). when b (Some (known_with known (Has y (tree_of f.table e) ∷ []) ∷ []))) is
        ∙ ap (λ (m : Known). Some (m ∷ [])) (one_fact f.table k y e),
  )

  pub all_lacks : leads ≡ false → line_children f k (all_line x y c) ≡ None
  all_lacks is =
      h.goes_on (all_children (theory f) known x y)
      ∙ ap (λ (b : Bool). when b (Some (known_with known (Has y (tree_of f.table e) ∷ []) ∷ []))) is

  pub carry_passes : (t : ℕ) → carries t ≡ true → LinePassesOn f k x y t c (Some e)
  carry_passes t is = (
    ltb-true e (length f.table) h.parts_below,
    h.goes_on (carry_children (theory f) known x y t)
        ∙ ap (λ (b : Bool). when b (Some (known_with known (Has y (all_of t (tree_of f.table e)) ∷ []) ∷ []))) is,
  )

  pub carry_lacks : (t : ℕ) → carries t ≡ false → line_children f k (carry_line x y t c) ≡ None
  carry_lacks t is =
      h.goes_on (carry_children (theory f) known x y t)
      ∙ ap (λ (b : Bool). when b (Some (known_with known (Has y (all_of t (tree_of f.table e)) ∷ []) ∷ []))) is

pub all_none : (f : RefutationContext) (k : Branch) (x y c : ℕ) (s : Shown) → IsHeldShape f k x c (form_of s)
    → ((r e : ℕ) → s ≡ S.AllOf r e → ⊥) → line_children f k (all_line x y c) ≡ None
all_none f k x y c (S.AllOf r e) h other = absurd (other r e refl)
all_none f k x y c _ h other = h.goes_on (all_children (theory f) (known_of f.table k) x y)

pub carry_none : (f : RefutationContext) (k : Branch) (x y t c : ℕ) (s : Shown) → IsHeldShape f k x c (form_of s)
    → ((r e : ℕ) → s ≡ S.AllOf r e → ⊥) → line_children f k (carry_line x y t c) ≡ None
carry_none f k x y t c (S.AllOf r e) h other = absurd (other r e refl)
carry_none f k x y t c _ h other = h.goes_on (carry_children (theory f) (known_of f.table k) x y t)

-- what a role passes on, by a number for it in a longer table
pub carried : (f g : RefutationContext) (k : Branch) (x y t c e n : ℕ) → IsSameButTable f g → Extends f.table g.table
    → are_listed (length f.table) k.facts ≡ true → LinePassesOn f k x y t c (Some e)
    → IsNumber g.table n (all_of t (tree_of f.table e)) → LineAdds g k (carry_line x y t c) y (Some n)
carried f g k x y t c e n same kept listed passes is = (
  is.listed,
  line_stays f g k (carry_line x y t c) same kept listed
      ∙ passes.1
      ∙ (λ i. Some
      (known_with (sym (known_stays f.table g.table k kept listed) i) (Has y (sym is.stands_for i) ∷ []) ∷ []))
      ∙ ap (λ (m : Known). Some (m ∷ [])) (one_fact g.table k y n),
)

-- ---- one fact more

pub added : (f : RefutationContext) (k : Branch) (line : Line) (y : ℕ) (found : Option ℕ) (o : Option Outcome)
    → LineAdds f k line y found → AddsIfSome y found o → IsOutcome f k line o
added f k line y None o adds is = record {
  children = adds ∙ sym (ap (children_after f.table k) is);
  fit = subst (λ (p : Option Outcome). IsFitIfSome (length f.table) k p) (sym is) tt;
}
added f k line y (Some n) (Some (More fs)) adds is = record {
  children = adds.1 ∙ ap (λ (l : List (Fact ℕ)). Some (known_of f.table (branch_with_facts k l) ∷ [])) (sym is);
  fit =
      ap (are_listed (length f.table)) is
      ∙ and_from (ltb n (length f.table)) true (lt-ltb n (length f.table) adds.0) refl;
}
added f k line y (Some n) _ adds is = absurd is

-- ---- two branches, and none

pub two_branches : (f : RefutationContext) (k : Branch) (line : Line) (a b : Fact ℕ) (o : Option Outcome)
    → line_children f k line
    ≡ Some (known_of f.table (branch_with_facts k (a ∷ [])) ∷ known_of f.table (branch_with_facts k (b ∷ [])) ∷ [])
    → is_fact_listed (length f.table) a ≡ true → is_fact_listed (length f.table) b ≡ true → BranchesInto (a ∷ b ∷ []) o
    → IsOutcome f k line o
two_branches f k line a b (Some (Branches fs)) e la lb are = record {
  children =
      e ∙ ap
      (λ (l : List (Fact ℕ)). Some (map (known_of f.table) (map (λ (g : Fact ℕ). branch_with_facts k (g ∷ [])) l)))
      (sym are);
  fit =
      ap (are_listed (length f.table)) are
      ∙ and_from (is_fact_listed (length f.table) a) (is_fact_listed (length f.table) b && true) la
      (and_from (is_fact_listed (length f.table) b) true lb refl);
}
two_branches f k line a b _ e la lb are = absurd are

pub closed : (f : RefutationContext) (k : Branch) (line : Line) (b : Bool) (o : Option Outcome)
    → line_children f k line ≡ when b (Some []) → o ≡ when b (Some Closed) → IsOutcome f k line o
closed f k line true o e is = record {
  children = e ∙ sym (ap (children_after f.table k) is);
  fit = subst (λ (p : Option Outcome). IsFitIfSome (length f.table) k p) (sym is) tt;
}
closed f k line false o e is = record {
  children = e ∙ sym (ap (children_after f.table k) is);
  fit = subst (λ (p : Option Outcome). IsFitIfSome (length f.table) k p) (sym is) tt;
}

pub closed_by : (f : RefutationContext) (k : Branch) (line : Line) (a b : Bool) (o : Option Outcome)
    → line_children f k line ≡ when a (Some []) → b ≡ a → o ≡ when b (Some Closed) → IsOutcome f k line o
closed_by f k line a b o e same is = closed f k line b o (e ∙ ap (λ (t : Bool). when t (Some [])) (sym same)) is

pub chosen : (f g : RefutationContext) (k : Branch) (y c n d : ℕ) (o : Option Outcome) → IsSameButTable f g
    → Extends f.table g.table → are_listed (length f.table) k.facts ≡ true → LineChooses f k y c (Some n)
    → IsNumber g.table d (negated_form (tree_of f.table n)) → BranchesInto (Has y n ∷ Has y d ∷ []) o
    → IsOutcome g k (choose_line y c) o
chosen f g k y c n d o same kept listed is negated are =
    let number : IsNumber g.table n (tree_of f.table n) = record {
      listed = omega (arith, is.0, length_extends f.table g.table kept);
      stands_for = tree_stays f.table g.table kept n is.0;
    } in
    two_branches g k (choose_line y c) (Has y n) (Has y d) o
    (line_stays f g k (choose_line y c) same kept listed
    ∙ is.1
    ∙ (λ i. Some (known_with (sym (known_stays f.table g.table k kept listed) i) (Has y (sym number.stands_for i) ∷ [])
    ∷ known_with (sym (known_stays f.table g.table k kept listed) i) (Has y (sym negated.stands_for i) ∷ []) ∷ []))
    ∙ (λ i. Some (one_fact g.table k y n i ∷ one_fact g.table k y d i ∷ [])))
    (lt-ltb n (length g.table) number.listed) (lt-ltb d (length g.table) negated.listed) are

pub class_held : (f : RefutationContext) (k : Branch) (x c a : ℕ) → IsHeldShape f k x c (name_shape a)
    → LineCloses f k x c (Some a)
class_held f k x c a h = h.goes_on (clash_children (known_of f.table k) x)

pub class_none : (f : RefutationContext) (k : Branch) (x c : ℕ) (s : Shown) → IsHeldShape f k x c (form_of s)
    → ((a : ℕ) → s ≡ S.Name a → ⊥) → line_children f k (clash_line x c) ≡ None
class_none f k x c (S.Name a) h other = absurd (other a refl)
class_none f k x c _ h other = h.goes_on (clash_children (known_of f.table k) x)

pub clashes : (f g : RefutationContext) (k : Branch) (x c a n : ℕ) (b : Bool) (o : Option Outcome) → IsSameButTable f g
    → Extends f.table g.table → are_listed (length f.table) k.facts ≡ true → LineCloses f k x c (Some a)
    → IsNumber g.table n (complement (name a)) → b ≡ has_tree (known_of g.table k).facts x (tree_of g.table n)
    → o ≡ when b (Some Closed) → IsOutcome g k (clash_line x c) o
clashes f g k x c a n b o same kept listed is number e done =
    closed g k (clash_line x c) b o
    (line_stays f g k (clash_line x c) same kept listed
    ∙ is
    ∙ (λ i. when (has_tree (sym (known_stays f.table g.table k kept listed) i).facts x (sym number.stands_for i))
    (Some []))
    ∙ ap (λ (t : Bool). when t (Some [])) (sym e))
    done
