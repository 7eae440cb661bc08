-- A worked document: its text of reasons, and what is no log of them.
use Rattle.std.specs.Prelude.{◌≡◌, ℕ, ◌||◌, Bool, false, nat_eq, List, [], ◌∷◌, ◌++◌, codes, refl}
use Rattle.std.proofs.Common.{ap, ◌∙◌, arith}
use Rattle.std.specs.FinSet as set
use Rattle.std.specs.Fmt.{digits}
use Rattle.std.specs.List.{list_any}
use Rattle.std.proofs.lemmas.List.Elements.{All-head}
use Rattle.lane_sieve.specs.Sets.{passing}
use Rattle.axiom_sets.specs.Sets.{Limited}
use Rattle.shq_terms.specs.Concept.{name}
use Rattle.shq_terms.specs.Listed.{Listed}
use Rattle.shq_terms.specs.declared.axioms.Axiom.TheVariants.{SubClassOf, Member}
use Rattle.shq_terms.specs.declared.axioms.On.TheVariants.{Individual}
use Rattle.shq_terms.specs.declared.axioms.Query.{Query}
use Rattle.ofn_writer.specs.Canonical.{line}
use Rattle.realizer.specs.Entry.{Entry}
use Rattle.realizer.specs.Entry.TheVariants.{Test}
use Rattle.realizer.specs.TestEnd.TheVariants.{No}
use Rattle.realizer.specs.HonestLog.{IsTestOf}
use Rattle.job_inputs.specs.SetText.{numbers_text}
use Rattle.pinpointing_jobs.specs.SetLists.{axiom_lines}
use Rattle.realizer.specs.Instances.{instance_query}
use Rattle.individual_jobs.specs.ReasonLists.{ReasonLists}
use Rattle.individual_jobs.specs.Reasons.{reasons_text}
use Rattle.individual_jobs.specs.ReasonLogs.{IsBlock, AreBlocks}
use Rattle.individual_jobs.specs.Answers.{StopsAt}

-- ---- the text: A is part of B, x is in A, y is in B, and z is declared

abbrev three_axioms : Listed
three_axioms = record {
  axioms =
      record { «axiom» = SubClassOf (name 0) (name 1); line = 3 }
      ∷ record { «axiom» = Member (name 0) 0; line = 4 }
      ∷ record { «axiom» = Member (name 1) 1; line = 5 }
      ∷ [];
  classes = codes "http://e.org/A" ∷ codes "http://e.org/B" ∷ [];
  roles = [];
  individuals = codes "http://e.org/x" ∷ codes "http://e.org/y" ∷ codes "http://e.org/z" ∷ [];
}

abbrev numbers : List ℕ → Limited
numbers ks = record { limit = 3; members = set.from_list ks }

-- x is in B by axioms 1 and 2, y by axiom 3, and z is not
abbrev two_instances : List ReasonLists
two_instances =
    record { individual = 0; justifications = numbers (1 ∷ 2 ∷ []) ∷ [] }
    ∷ record { individual = 1; justifications = numbers (3 ∷ []) ∷ [] }
    ∷ []

-- the same text by tests which numbers are in the two sets
abbrev text_by : (ℕ → Bool) → (ℕ → Bool) → List ℕ
text_by of_x of_y =
    (line (codes "instance <http://e.org/x> justifications 1") ++ ((line (numbers_text (passing of_x 0 4)) ++ [])
    ++ (line (codes "instance <http://e.org/y> justifications 1")
    ++ ((line (numbers_text (passing of_y 0 4)) ++ []) ++ []))))
    ++ axiom_lines three_axioms (λ k. of_x k || (of_y k || false)) 1 three_axioms.axioms

abbrev is_in : List ℕ → ℕ → Bool
is_in ks k = list_any (λ y. nat_eq y k) ks

abbrev in_set : List ℕ → ℕ → Bool
in_set ks k = set.contains (numbers ks).members k

are_in : (ks : List ℕ) → in_set ks ≡ is_in ks
are_in ks = λ i k. set.contains-from_list_nat ks k i

by_tests : reasons_text three_axioms two_instances ≡ text_by (in_set (1 ∷ 2 ∷ [])) (in_set (3 ∷ []))
unfolding digits
by_tests = refl

by_lists :
    text_by (is_in (1 ∷ 2 ∷ [])) (is_in (3 ∷ []))
    ≡ line (codes "instance <http://e.org/x> justifications 1")
    ++ (line (codes "1 2")
    ++ (line (codes "instance <http://e.org/y> justifications 1")
    ++ (line (codes "3")
    ++ (line (codes "axiom 1 line 3 SubClassOf(<http://e.org/A> <http://e.org/B>)")
    ++ (line (codes "axiom 2 line 4 ClassAssertion(<http://e.org/A> <http://e.org/x>)")
    ++ line (codes "axiom 3 line 5 ClassAssertion(<http://e.org/B> <http://e.org/y>)"))))))
unfolding passing digits
by_lists = refl

-- each axiom has one line behind all sets, and an individual that is no instance has none
pub two_instances_have_a_text :
    reasons_text three_axioms two_instances
    ≡ line (codes "instance <http://e.org/x> justifications 1")
    ++ (line (codes "1 2")
    ++ (line (codes "instance <http://e.org/y> justifications 1")
    ++ (line (codes "3")
    ++ (line (codes "axiom 1 line 3 SubClassOf(<http://e.org/A> <http://e.org/B>)")
    ++ (line (codes "axiom 2 line 4 ClassAssertion(<http://e.org/A> <http://e.org/x>)")
    ++ line (codes "axiom 3 line 5 ClassAssertion(<http://e.org/B> <http://e.org/y>)"))))))
two_instances_have_a_text =
    by_tests
    ∙ ap (λ (test : ℕ → Bool). text_by test (in_set (3 ∷ []))) (are_in (1 ∷ 2 ∷ []))
    ∙ ap (text_by (is_in (1 ∷ 2 ∷ []))) (are_in (3 ∷ []))
    ∙ by_lists

-- where there is no instance, nothing is written
pub no_instance_has_no_text : reasons_text three_axioms [] ≡ []
no_instance_has_no_text = axioms_of_none
  where
    axioms_of_none : axiom_lines three_axioms (λ k. false) 1 three_axioms.axioms ≡ []
    axioms_of_none = refl

-- ---- the log

abbrev test_of : ℕ → Entry
test_of a = Test (numbers (1 ∷ 2 ∷ [])) (instance_query (name 1) a) 4 No

-- a block has no test of another individual
pub mixed_is_no_block : ¬ IsBlock three_axioms (instance_query (name 1) 0) (test_of 1 ∷ [])
mixed_is_no_block h =
    let same : instance_query (name 1) 1 ≡ instance_query (name 1) 0 =
    All-head (IsTestOf (instance_query (name 1) 0)) (test_of 1) [] h.tests in
    let on : Individual 1 ≡ Individual 0 = ap (λ (q : Query). q.on) same in
    let clash : ◌≡◌ {A = ℕ} 1 0 = cc in
    omega (arith, clash)

-- so blocks that are swapped are not those of the individuals whose places they have
pub swapped_are_no_blocks : ¬ AreBlocks three_axioms (name 1) ((test_of 1 ∷ []) ∷ (test_of 0 ∷ []) ∷ [])
swapped_are_no_blocks h = mixed_is_no_block (h 0 (test_of 1 ∷ []) refl)

-- a run that stops begins no search behind the one that it leaves
pub two_are_not_left : ¬ StopsAt three_axioms (instance_query (name 1) 0) ((test_of 0 ∷ []) ∷ (test_of 1 ∷ []) ∷ [])
two_are_not_left h = h
