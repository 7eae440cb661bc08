-- One line more.
use Rattle.std.proofs.Common.{◌≡◌, Bool, true, false, List, [], ◌∷◌, ◌++◌, map, length, Option, Some}
use Rattle.std.proofs.Common.{None, refl, ap, ◌∙◌, sym, subst}
use Rattle.std.specs.Prelude.{is_some}
use Rattle.std.specs.Option.{option_map}
use Rattle.std.proofs.lemmas.List.{map-append}
use Rattle.std.proofs.lemmas.List.Elements.{All-head, All-tail, All-append}
use Rattle.calculus_specs.specs.Shape.{Shape}
use Rattle.ontology_limits.specs.Numbers.{Extends}
use Rattle.refutation_rules.specs.NumberedBranch.{NumberedBranch as Branch}
use Rattle.calculus_specs.specs.Line.{Line}
use Rattle.calculus_specs.specs.Rules.{Known}
use Rattle.calculus_specs.specs.Valid.{concept_at, open_after}
use Rattle.refutation_rules.specs.declared.outcome.Outcome.{Outcome}
use Rattle.refutation_rules.specs.Outcomes.{known_of, branches_after, children_after, IsFitIfSome, IsBranch}
use Rattle.refutation_rules.specs.RefutationContext.{RefutationContext, question, line_children, IsSameButTable}
use Rattle.refutation_rules.proofs.Reading.{known_stays, branch_stays}
use Rattle.refutation_rules.proofs.Contexts.{line_stays}
use Rattle.refutation_check.specs.Open.{Open, branches, branches_of, are_known, AreNumberedBranches}
use Rattle.refutation_check.specs.Steps.{left_by_line, IsLeft, IsLeftIf, IsPutIf, IsReadyIf}
use Rattle.refutation_check.proofs.Begun.{all_begun}
use Rattle.refutation_check.proofs.Children.{ready_if, children_are}

-- ---- over a longer table

all_known : (a b : List Shape) (ks : List Branch) → Extends a b → AreNumberedBranches (length a) ks
    → are_known b ks ≡ are_known a ks
all_known a b [] e h = refl
all_known a b (k ∷ ks) e h =
    let head = known_stays a b k e (All-head (IsBranch (length a)) k ks h).listed in
    let tail = all_known a b ks e (All-tail (IsBranch (length a)) k ks h) in
    λ i. head i ∷ tail i

pub all_stay : (a b : List Shape) (ks : List Branch) → Extends a b → AreNumberedBranches (length a) ks
    → AreNumberedBranches (length b) ks
all_stay a b ks e h i d l = branch_stays a b _ e (h i d l)

-- ---- what is known when a line has been read

pub record IsMove (f g : RefutationContext) (o : Open) (line : Line) (out : Option Outcome) : Type 0 where
  pub «open» : o.closed ≡ false
  pub are : AreNumberedBranches (length f.table) (branches o)
  pub same : IsSameButTable f g
  pub kept : Extends f.table g.table
  pub children : line_children g o.branch line ≡ children_after g.table o.branch out
  pub fit : IsFitIfSome (length g.table) o.branch out

pub move : (f g : RefutationContext) (o : Open) (line : Line) (out : Option Outcome) (k : Branch) (b : Bool)
    → b ≡ o.closed → b ≡ false → k ≡ o.branch → AreNumberedBranches (length f.table) (branches o)
    → IsSameButTable f g → Extends f.table g.table → line_children g k line ≡ children_after g.table k out
    → IsFitIfSome (length g.table) k out → IsMove f g o line out
move f g o line out k b is not_closed e are same kept left fit = record {
  «open» = sym is ∙ not_closed;
  are = are;
  same = same;
  kept = kept;
  children = subst (λ (j : Branch). line_children g j line ≡ children_after g.table j out) e left;
  fit = subst (λ (j : Branch). IsFitIfSome (length g.table) j out) e fit;
}

module _ (f g : RefutationContext) (o : Open) (line : Line) where
  all_are : (out : Option Outcome) → IsMove f g o line out → AreNumberedBranches (length f.table) (o.branch ∷ o.waiting)
  all_are out h =
      subst (λ (b : Bool). AreNumberedBranches (length f.table) (branches_of b o.branch o.waiting)) h.open h.are

  abbrev on : List Known → List Known
  on new = new ++ are_known f.table o.waiting

  left_is : (out : Option Outcome) → IsMove f g o line out
      → left_by_line f o line ≡ option_map on (children_after g.table o.branch out)
  left_is out h =
      let first = All-head (IsBranch (length f.table)) o.branch o.waiting (all_are out h) in
      ap (λ (b : Bool). open_after (question f) (concept_at f.shapes)
      (are_known f.table (branches_of b o.branch o.waiting)) line)
      h.open
      ∙ ap (option_map on) (sym (line_stays f g o.branch line h.same h.kept first.listed) ∙ h.children)

  left_some : (out : Outcome) (p : Open) → IsMove f g o line (Some out)
      → branches p ≡ branches_after o.branch out ++ o.waiting → IsLeft (left_by_line f o line) g p
  left_some out p h e =
      let are = all_are (Some out) h in
      let first =
      branch_stays f.table g.table o.branch h.kept (All-head (IsBranch (length f.table)) o.branch o.waiting are) in
      let rest = All-tail (IsBranch (length f.table)) o.branch o.waiting are in
      let begun =
      all_begun (question g) (concept_at g.shapes) g.table line out o.branch.nodes o.branch.facts h.children h.fit in
      let new = children_are (length g.table) o.branch out first h.fit begun in
      let waiting =
      ap (λ (l : List Known). map (known_of g.table) (branches_after o.branch out) ++ l)
      (sym (all_known f.table g.table o.waiting h.kept rest)) in
      let both = sym (map-append (known_of g.table) (branches_after o.branch out) o.waiting) in
      record {
        are = left_is (Some out) h ∙ ap (λ (l : List Known). Some l) (waiting ∙ both ∙ ap (are_known g.table) (sym e));
        listed =
            subst (λ (ks : List Branch). AreNumberedBranches (length g.table) ks) (sym e)
            (All-append (IsBranch (length g.table)) (branches_after o.branch out) o.waiting new
            (all_stay f.table g.table o.waiting h.kept rest));
      }

  pub left_if : (out : Option Outcome) (p : Open) → IsMove f g o line out → IsPutIf o out p
      → IsLeftIf (is_some out) (left_by_line f o line) g p
  left_if None p h e = left_is None h
  left_if (Some out) p h e = left_some out p h e

  pub ready : (out : Option Outcome) → IsMove f g o line out → IsReadyIf o out
  ready out h =
      ready_if (length g.table) o out
      (branch_stays f.table g.table o.branch h.kept
      (All-head (IsBranch (length f.table)) o.branch o.waiting (all_are out h)))
      h.fit

pub none_left : (f : RefutationContext) (o : Open) (line : Line) → o.closed ≡ true → left_by_line f o line ≡ None
none_left f o line h =
    ap (λ (b : Bool). open_after (question f) (concept_at f.shapes)
    (are_known f.table (branches_of b o.branch o.waiting)) line)
    h
