-- Several lines, and where they break the rules.
use Rattle.std.proofs.Common.{◌≡◌, ℕ, suc, ◌+◌, ◌<◌, Bool, true, false, List, [], ◌∷◌, ◌++◌, map, take, drop, length}
use Rattle.std.proofs.Common.{get_or, Option, Some, None, refl, ap, ◌∙◌, sym, subst, arith, drop-cons}
use Rattle.std.specs.Option.{option_and_then}
use Rattle.std.proofs.lemmas.List.{take_more, get_or-map, length-map}
use Rattle.shq_terms.specs.Concept.{Concept}
use Rattle.refutation_rules.specs.RuleLine.{line_of}
use Rattle.refutation_rules.specs.Line.{Line as Kept}
use Rattle.calculus_specs.specs.Line.{Line}
use Rattle.calculus_specs.specs.Rules.{Question, Known, nothing_known}
use Rattle.calculus_specs.specs.Valid.{concept_at, open_after, open_after_all, Breaks}
use Rattle.refutation_rules.specs.Theory.{question_of}
use Rattle.refutation_rules.specs.RefutationContext.{RefutationContext, question, IsSameButTable}
use Rattle.refutation_check.specs.declared.checking.Verdict.TheVariants.{Rejected}
use Rattle.refutation_check.specs.Open.{Open, branches, are_known, AreNumberedBranches}
use Rattle.refutation_check.specs.Steps.{left_by_line, left_by_lines, IsLeftIf, IsReadAs}

module _ (q : Question) (concept : ℕ → Option Concept) where
  abbrev goes_on : List Line → List Known → Option (List Known)
  goes_on lines ks = open_after_all q concept ks lines

  after_one : (one rest both : List Known → Option (List Known))
      → ((ks : List Known) → both ks ≡ option_and_then rest (one ks)) → (o : Option (List Known))
      → option_and_then both o ≡ option_and_then rest (option_and_then one o)
  after_one one rest both h None = refl
  after_one one rest both h (Some ks) = h ks

  after_more : (lines rest : List Line) (ks : List Known)
      → goes_on (lines ++ rest) ks ≡ option_and_then (goes_on rest) (goes_on lines ks)
  after_more [] rest ks = refl
  after_more (line ∷ lines) rest ks =
      after_one (goes_on lines) (goes_on rest) (goes_on (lines ++ rest)) (after_more lines rest)
      (open_after q concept ks line)

  only : (o : Option (List Known)) → option_and_then (goes_on []) o ≡ o
  only None = refl
  only (Some ks) = refl

  pub one_more : (lines : List Line) (line : Line) (ks left : List Known) → goes_on lines ks ≡ Some left
      → goes_on (lines ++ line ∷ []) ks ≡ open_after q concept left line
  one_more lines line ks left e =
      after_more lines (line ∷ []) ks ∙ ap (option_and_then (goes_on (line ∷ []))) e
      ∙ only (open_after q concept left line)

  pub at_line : (ks : List Known) (line : Line) (lines : List Line) → open_after q concept ks line ≡ None
      → Breaks q concept ks (line ∷ lines)
  at_line [] line lines e = e
  at_line (k ∷ ks) line lines e = e

-- ---- a context over a longer table

pub same_twice : (f g h : RefutationContext) → IsSameButTable f g → IsSameButTable g h → IsSameButTable f h
same_twice f g h a b = record {
  individuals = b.individuals ∙ a.individuals;
  axioms = b.axioms ∙ a.axioms;
  named = b.named ∙ a.named;
  query = b.query ∙ a.query;
  shapes = b.shapes ∙ a.shapes;
}

same_left : (f g : RefutationContext) (o : Open) (line : Line) → IsSameButTable f g
    → left_by_line g o line ≡ open_after (question f) (concept_at f.shapes) (are_known g.table (branches o)) line
same_left f g o line same i =
    open_after (question_of (same.individuals i) (same.axioms i) (same.named i) (same.query i))
    (concept_at (same.shapes i)) (are_known g.table (branches o)) line

-- ---- lines that were read

-- so many lines of a refutation leave the branches that are open now
pub record IsRead (f g : RefutationContext) (o : Open) (lines : List Line) (count : ℕ) : Type 0 where
  pub left : left_by_lines f (take count lines) ≡ Some (are_known g.table (branches o))
  pub are : AreNumberedBranches (length g.table) (branches o)
  pub same : IsSameButTable f g

module _ (f g : RefutationContext) (o : Open) (lines : List Kept) (place : ℕ) (kept : Kept) where
  abbrev all : List Line
  all = map line_of lines

  is_here : kept ≡ get_or lines place kept → place < length lines → line_of kept ≡ get_or all place (line_of kept)
  is_here is l = ap line_of is ∙ sym (get_or-map line_of lines place kept (line_of kept) l)

  within : place < length lines → place < length all
  within l = omega (arith, length-map lines line_of)

  pub read_on : (h : RefutationContext) (p : Open) (b : Bool) → kept ≡ get_or lines place kept → place < length lines
      → IsRead f g o all place → b ≡ true → IsLeftIf b (left_by_line g o (line_of kept)) h p → IsSameButTable g h
      → IsRead f h p all (place + 1)
  read_on h p b is l read e moved same =
      let left = subst (λ (c : Bool). IsLeftIf c (left_by_line g o (line_of kept)) h p) e moved in
      let taken =
      take_more all place (line_of kept) (within l)
      ∙ ap (λ (m : Line). take place all ++ m ∷ []) (sym (is_here is l)) in
      let more =
      one_more (question f) (concept_at f.shapes) (take place all) (line_of kept) (nothing_known ∷ [])
      (are_known g.table (branches o)) read.left in
      record {
        left = ap (left_by_lines f) taken ∙ more ∙ sym (same_left f g o (line_of kept) read.same) ∙ left.are;
        are = left.listed;
        same = same_twice f g h read.same same;
      }

  pub broken : (h : RefutationContext) (p : Open) (b : Bool) → kept ≡ get_or lines place kept → place < length lines
      → IsRead f g o all place → b ≡ false → IsLeftIf b (left_by_line g o (line_of kept)) h p
      → IsReadAs f all (Rejected (place + 1))
  broken h p b is l read e moved =
      let left = subst (λ (c : Bool). IsLeftIf c (left_by_line g o (line_of kept)) h p) e moved in
      let none = sym (same_left f g o (line_of kept) read.same) ∙ left in
      let rest =
      drop-cons all place (line_of kept) (within l)
      ∙ ap (λ (m : Line). m ∷ drop (suc place) all) (sym (is_here is l)) in
      let known = are_known g.table (branches o) in
      let breaks = at_line (question f) (concept_at f.shapes) known (line_of kept) (drop (suc place) all) none in
      let in_all = within l in
      record {
        count = place;
        counts = refl;
        within = omega arith;
        left = known;
        before = read.left;
        breaks = subst (λ (ls : List Line). Breaks (question f) (concept_at f.shapes) known ls) (sym rest) breaks;
      }
