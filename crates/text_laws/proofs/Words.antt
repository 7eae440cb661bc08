-- Each word is a keyword, or the tests of its group fail.
use Rattle.std.proofs.Common.{◌≡◌, ℕ, Bool, true, false, cond, List, [], ◌∷◌, Option, Some, None, Ok, refl, ap, sym}
use Rattle.std.proofs.Common.{◌∙◌, subst, codes, bytes_eq}
use Rattle.std.proofs.lemmas.Slice.Eq.{bytes_eq-Decides}
use Rattle.ofn_tree.specs.Items.{group_item, Items}
use Rattle.ofn_expressions.specs.Counts.{Counts}
use Rattle.ofn_expressions.specs.Walk.{shape, outside, walked}
use Rattle.ofn_expressions.specs.Names.{Prefix}
use Rattle.ofn_expressions.specs.Constructs.{excluded_class, excluded_axiom}
use Rattle.ofn_expressions.specs.Keywords.{class_keyword, keyword_else}
use Rattle.ofn_expressions.specs.Classes.{each_class, class_tests, group_tests}
use Rattle.ofn_expressions.specs.declared.construct.Construct.{Construct}
use Rattle.ofn_reader.specs.Keywords.{axiom_keyword, axiom_else, entity_keyword}
use Rattle.ofn_reader.specs.Groups.{without_annotations}
use Rattle.ofn_reader.specs.Declarations.{entity_tests, entity_group_tests}
use Rattle.ofn_reader.specs.Axioms.{axiom_tests, axiom_group_tests}
use Rattle.text_laws.proofs.Counting.{never}

passed : {X : Type 0} (a b : X) (v : Bool) → v ≡ false → cond v a b ≡ b
passed a b v h = ap (λ w. cond w a b) h

same : (v w : List ℕ) → bytes_eq v w ≡ true → w ≡ v
same v w h = sym ((bytes_eq-Decides v w).0 h)

-- w is this word or another
word_or : (P : List ℕ → Type 0) (w word : List ℕ) → P word → (bytes_eq w word ≡ false → P w) → P w
word_or P w word here other = by (bytes_eq w word) refl
  where
    by : (v : Bool) → bytes_eq w word ≡ v → P w
    by true h = subst P (same w word h) here
    by false h = other h

-- ---- class expressions

-- no group of this name has tests that hold
abbrev pub NoClass : List ℕ → Type 0
NoClass w = (ps : List Prefix) (n : ℕ) (is : Items) (s new : Counts)
    → walked s (class_tests ps (group_item (Some w) is n)) ≡ Ok new → ⊥

other_class : (w : List ℕ) → class_keyword w ≡ keyword_else (excluded_class w) → NoClass w
other_class w is ps n items s new h =
    by (excluded_class w) (sym (ap (λ k. walked s (group_tests ps k n items (each_class ps items))) is) ∙ h)
  where
    by : (e : Option Construct) → walked s (group_tests ps (keyword_else e) n items (each_class ps items)) ≡ Ok new → ⊥
    by (Some c) g = never s new (outside n c) [] refl g
    by None g = never s new (shape n false) [] refl g

no_class_word : (w : List ℕ) → bytes_eq w (codes "ObjectIntersectionOf") ≡ false
    → bytes_eq w (codes "ObjectUnionOf") ≡ false → bytes_eq w (codes "ObjectComplementOf") ≡ false
    → bytes_eq w (codes "ObjectSomeValuesFrom") ≡ false
    → bytes_eq w (codes "ObjectAllValuesFrom") ≡ false → bytes_eq w (codes "ObjectMinCardinality") ≡ false
    → bytes_eq w (codes "ObjectMaxCardinality") ≡ false → bytes_eq w (codes "ObjectExactCardinality") ≡ false
    → class_keyword w ≡ keyword_else (excluded_class w)
unfolding class_keyword
no_class_word w a b c d e f g h =
    passed _ _ _ a ∙ passed _ _ _ b ∙ passed _ _ _ c ∙ passed _ _ _ d ∙ passed _ _ _ e ∙ passed _ _ _ f ∙ passed _ _ _ g
    ∙ passed _ _ _ h

pub class_words : (P : List ℕ → Type 0) → P (codes "ObjectIntersectionOf") → P (codes "ObjectUnionOf")
    → P (codes "ObjectComplementOf") → P (codes "ObjectSomeValuesFrom") → P (codes "ObjectAllValuesFrom")
    → P (codes "ObjectMinCardinality") → P (codes "ObjectMaxCardinality") → P (codes "ObjectExactCardinality")
    → ((w : List ℕ) → NoClass w → P w) → (w : List ℕ) → P w
class_words P p1 p2 p3 p4 p5 p6 p7 p8 other w =
    word_or P w (codes "ObjectIntersectionOf") p1 (λ a.
    word_or P w (codes "ObjectUnionOf") p2 (λ b.
    word_or P w (codes "ObjectComplementOf") p3 (λ c.
    word_or P w (codes "ObjectSomeValuesFrom") p4 (λ d.
    word_or P w (codes "ObjectAllValuesFrom") p5 (λ e.
    word_or P w (codes "ObjectMinCardinality") p6 (λ f.
    word_or P w (codes "ObjectMaxCardinality") p7 (λ g.
    word_or P w (codes "ObjectExactCardinality") p8 (λ h.
    other w (other_class w (no_class_word w a b c d e f g h))))))))))

-- ---- axioms

abbrev pub NoAxiom : List ℕ → Type 0
NoAxiom w = (ps : List Prefix) (n : ℕ) (is : Items) (s new : Counts)
    → walked s (axiom_tests ps (group_item (Some w) is n)) ≡ Ok new → ⊥

other_axiom : (w : List ℕ) → axiom_keyword w ≡ axiom_else (excluded_axiom w) → NoAxiom w
other_axiom w is ps n items s new h =
    by (excluded_axiom w) (sym (ap (λ k. walked s (axiom_group_tests ps k n (without_annotations items))) is) ∙ h)
  where
    by : (e : Option Construct) → walked s (axiom_group_tests ps (axiom_else e) n (without_annotations items)) ≡ Ok new
        → ⊥
    by (Some c) g = never s new (outside n c) [] refl g
    by None g = never s new (shape n false) [] refl g

no_axiom_word : (w : List ℕ) → bytes_eq w (codes "SubClassOf") ≡ false → bytes_eq w (codes "EquivalentClasses") ≡ false
    → bytes_eq w (codes "DisjointClasses") ≡ false → bytes_eq w (codes "DisjointUnion") ≡ false
    → bytes_eq w (codes "SubObjectPropertyOf") ≡ false → bytes_eq w (codes "EquivalentObjectProperties") ≡ false
    → bytes_eq w (codes "ObjectPropertyDomain") ≡ false → bytes_eq w (codes "ObjectPropertyRange") ≡ false
    → bytes_eq w (codes "FunctionalObjectProperty") ≡ false → bytes_eq w (codes "TransitiveObjectProperty") ≡ false
    → bytes_eq w (codes "ClassAssertion") ≡ false → bytes_eq w (codes "ObjectPropertyAssertion") ≡ false
    → bytes_eq w (codes "SameIndividual") ≡ false → bytes_eq w (codes "DifferentIndividuals") ≡ false
    → bytes_eq w (codes "Declaration") ≡ false → bytes_eq w (codes "Annotation") ≡ false
    → bytes_eq w (codes "AnnotationAssertion") ≡ false → bytes_eq w (codes "SubAnnotationPropertyOf") ≡ false
    → bytes_eq w (codes "AnnotationPropertyDomain") ≡ false → bytes_eq w (codes "AnnotationPropertyRange") ≡ false
    → axiom_keyword w ≡ axiom_else (excluded_axiom w)
unfolding axiom_keyword
no_axiom_word w a1 a2 a3 a4 a5 a6 a7 a8 a9 a10 a11 a12 a13 a14 a15 a16 a17 a18 a19 a20 =
    passed _ _ _ a1 ∙ passed _ _ _ a2 ∙ passed _ _ _ a3 ∙ passed _ _ _ a4 ∙ passed _ _ _ a5 ∙ passed _ _ _ a6
    ∙ passed _ _ _ a7 ∙ passed _ _ _ a8 ∙ passed _ _ _ a9 ∙ passed _ _ _ a10 ∙ passed _ _ _ a11 ∙ passed _ _ _ a12
    ∙ passed _ _ _ a13 ∙ passed _ _ _ a14 ∙ passed _ _ _ a15 ∙ passed _ _ _ a16 ∙ passed _ _ _ a17 ∙ passed _ _ _ a18
    ∙ passed _ _ _ a19 ∙ passed _ _ _ a20

-- each keyword, and each other word
pub keyword_words : (P : List ℕ → Type 0) → P (codes "SubClassOf") → P (codes "EquivalentClasses")
    → P (codes "DisjointClasses") → P (codes "DisjointUnion") → P (codes "SubObjectPropertyOf")
    → P (codes "EquivalentObjectProperties") → P (codes "ObjectPropertyDomain") → P (codes "ObjectPropertyRange")
    → P (codes "FunctionalObjectProperty") → P (codes "TransitiveObjectProperty") → P (codes "ClassAssertion")
    → P (codes "ObjectPropertyAssertion") → P (codes "SameIndividual") → P (codes "DifferentIndividuals")
    → P (codes "Declaration") → P (codes "Annotation") → P (codes "AnnotationAssertion")
    → P (codes "SubAnnotationPropertyOf") → P (codes "AnnotationPropertyDomain") → P (codes "AnnotationPropertyRange")
    → ((w : List ℕ) → axiom_keyword w ≡ axiom_else (excluded_axiom w) → P w) → (w : List ℕ) → P w
keyword_words P p1 p2 p3 p4 p5 p6 p7 p8 p9 p10 p11 p12 p13 p14 p15 p16 p17 p18 p19 p20 other w =
    word_or P w (codes "SubClassOf") p1 (λ a1.
    word_or P w (codes "EquivalentClasses") p2 (λ a2.
    word_or P w (codes "DisjointClasses") p3 (λ a3.
    word_or P w (codes "DisjointUnion") p4 (λ a4.
    word_or P w (codes "SubObjectPropertyOf") p5 (λ a5.
    word_or P w (codes "EquivalentObjectProperties") p6 (λ a6.
    word_or P w (codes "ObjectPropertyDomain") p7 (λ a7.
    word_or P w (codes "ObjectPropertyRange") p8 (λ a8.
    word_or P w (codes "FunctionalObjectProperty") p9 (λ a9.
    word_or P w (codes "TransitiveObjectProperty") p10 (λ a10.
    word_or P w (codes "ClassAssertion") p11 (λ a11.
    word_or P w (codes "ObjectPropertyAssertion") p12 (λ a12.
    word_or P w (codes "SameIndividual") p13 (λ a13.
    word_or P w (codes "DifferentIndividuals") p14 (λ a14.
    word_or P w (codes "Declaration") p15 (λ a15.
    word_or P w (codes "Annotation") p16 (λ a16.
    word_or P w (codes "AnnotationAssertion") p17 (λ a17.
    word_or P w (codes "SubAnnotationPropertyOf") p18 (λ a18.
    word_or P w (codes "AnnotationPropertyDomain") p19 (λ a19.
    word_or P w (codes "AnnotationPropertyRange") p20 (λ a20.
    other w (no_axiom_word w a1 a2 a3 a4 a5 a6 a7 a8 a9 a10 a11 a12 a13 a14 a15 a16 a17 a18 a19 a20)))))))))))))))))))))

pub axiom_words : (P : List ℕ → Type 0) → P (codes "SubClassOf") → P (codes "EquivalentClasses")
    → P (codes "DisjointClasses") → P (codes "DisjointUnion") → P (codes "SubObjectPropertyOf")
    → P (codes "EquivalentObjectProperties") → P (codes "ObjectPropertyDomain") → P (codes "ObjectPropertyRange")
    → P (codes "FunctionalObjectProperty") → P (codes "TransitiveObjectProperty") → P (codes "ClassAssertion")
    → P (codes "ObjectPropertyAssertion") → P (codes "SameIndividual") → P (codes "DifferentIndividuals")
    → P (codes "Declaration") → P (codes "Annotation") → P (codes "AnnotationAssertion")
    → P (codes "SubAnnotationPropertyOf") → P (codes "AnnotationPropertyDomain") → P (codes "AnnotationPropertyRange")
    → ((w : List ℕ) → NoAxiom w → P w) → (w : List ℕ) → P w
axiom_words P p1 p2 p3 p4 p5 p6 p7 p8 p9 p10 p11 p12 p13 p14 p15 p16 p17 p18 p19 p20 other =
    keyword_words P p1 p2 p3 p4 p5 p6 p7 p8 p9 p10 p11 p12 p13 p14 p15 p16 p17 p18 p19 p20
    (λ w is. other w (other_axiom w is))

-- ---- entities

abbrev pub NoEntity : List ℕ → Type 0
NoEntity w = (ps : List Prefix) (n : ℕ) (is : Items) (s new : Counts)
    → walked s (entity_tests ps (group_item (Some w) is n)) ≡ Ok new → ⊥

no_entity_word : (w : List ℕ) → bytes_eq w (codes "Class") ≡ false → bytes_eq w (codes "ObjectProperty") ≡ false
    → bytes_eq w (codes "NamedIndividual") ≡ false → bytes_eq w (codes "DataProperty") ≡ false
    → bytes_eq w (codes "AnnotationProperty") ≡ false → bytes_eq w (codes "Datatype") ≡ false
    → (ps : List Prefix) (n : ℕ) (is : Items) → entity_tests ps (group_item (Some w) is n) ≡ shape n false ∷ []
unfolding entity_keyword
no_entity_word w a1 a2 a3 a4 a5 a6 ps n is =
    ap (λ k. entity_group_tests ps k n is)
    (passed _ _ _ a1 ∙ passed _ _ _ a2 ∙ passed _ _ _ a3 ∙ passed _ _ _ a4 ∙ passed _ _ _ a5 ∙ passed _ _ _ a6)

pub entity_words : (P : List ℕ → Type 0) → P (codes "Class") → P (codes "ObjectProperty") → P (codes "NamedIndividual")
    → P (codes "DataProperty") → P (codes "AnnotationProperty") → P (codes "Datatype")
    → ((w : List ℕ) → NoEntity w → P w) → (w : List ℕ) → P w
entity_words P p1 p2 p3 p4 p5 p6 other w =
    word_or P w (codes "Class") p1 (λ a1.
    word_or P w (codes "ObjectProperty") p2 (λ a2.
    word_or P w (codes "NamedIndividual") p3 (λ a3.
    word_or P w (codes "DataProperty") p4 (λ a4.
    word_or P w (codes "AnnotationProperty") p5 (λ a5.
    word_or P w (codes "Datatype") p6 (λ a6.
    other w (λ ps n is s new h. never s new (shape n false) [] refl
    (ap (walked s) (sym (no_entity_word w a1 a2 a3 a4 a5 a6 ps n is)) ∙ h))))))))
