-- The lines of a workload as phrases.
use Rattle.std.proofs.Common.{◌≡◌, ℕ, zero, suc, ◌+◌, List, [], ◌∷◌, ◌++◌, length, drop, refl, ap, sym, ◌∙◌}
use Rattle.std.proofs.Common.{append_assoc, append-nil, length-append, arith, codes, decimal}
use Rattle.std.proofs.Math.Seq.{drop-append_seam}
use Rattle.workload.specs.WorkloadText as text
use Rattle.workload.specs.WorkloadText.{kernel_text, groups_text, group_text, workload_text}
use Rattle.ofn_writer.specs.Canonical.{iri_text, line}
use Rattle.text_laws.proofs.Phrases.{Phrase, word, call, text_of, lines_text}
use Rattle.text_laws.proofs.Terms.{two, three}
use Rattle.text_laws.proofs.Texts.{lines_append}
use Rattle.workload.specs.WorkloadAxioms.{prefix_iri_of_workloads}

-- a name behind the empty prefix
abbrev pub local_word : List ℕ → Phrase
local_word local = word (58 ∷ local)

abbrev pub sub_phrase : List ℕ → Phrase → Phrase
sub_phrase local p = call (codes "SubClassOf") (two (local_word local) p)

-- ---- the kernel

abbrev pub both_phrase : List ℕ → List ℕ → Phrase
both_phrase first second = call (codes "ObjectIntersectionOf") (two (local_word first) (local_word second))

abbrev pub kernel_phrases : List Phrase
kernel_phrases =
    sub_phrase (codes "Q0") (local_word (codes "Q1"))
    ∷ sub_phrase (codes "Q0") (both_phrase (codes "Q1") (codes "P0"))
    ∷ sub_phrase (codes "Q1") (local_word (codes "Q2"))
    ∷ sub_phrase (codes "Q1") (both_phrase (codes "Q2") (codes "P1"))
    ∷ sub_phrase (codes "Q2") (local_word (codes "Q3"))
    ∷ sub_phrase (codes "Q2") (both_phrase (codes "Q3") (codes "P2"))
    ∷ call (codes "SubObjectPropertyOf") (two (local_word (codes "s")) (local_word (codes "r")))
    ∷ []

-- ---- a group, by the digits of its number

abbrev pub some_phrase : List ℕ → Phrase
some_phrase d =
    sub_phrase (65 ∷ d) (call (codes "ObjectSomeValuesFrom") (two (local_word (codes "r")) (local_word (66 ∷ d))))

abbrev pub two_phrase : List ℕ → Phrase
two_phrase d =
    sub_phrase (65 ∷ d)
    (call (codes "ObjectMinCardinality") (three (word (codes "2")) (local_word (codes "s")) (local_word (66 ∷ d))))

abbrev pub all_phrase : List ℕ → Phrase
all_phrase d =
    sub_phrase (66 ∷ d) (call (codes "ObjectAllValuesFrom") (two (local_word (codes "r")) (local_word (67 ∷ d))))

abbrev pub either_phrase : List ℕ → Phrase
either_phrase d = sub_phrase (67 ∷ d) (call (codes "ObjectUnionOf") (two (local_word (65 ∷ d)) (local_word (68 ∷ d))))

abbrev pub group_phrases : ℕ → List Phrase
group_phrases k =
    some_phrase (decimal k) ∷ two_phrase (decimal k) ∷ all_phrase (decimal k) ∷ either_phrase (decimal k) ∷ []

abbrev pub workload_phrases : ℕ → List Phrase
workload_phrases zero = kernel_phrases
workload_phrases (suc n) = workload_phrases n ++ group_phrases (n + 1)

-- ---- their texts

-- the brackets behind the last name, and all brackets of `++` to the right
two_holes : (f d s : List ℕ)
    → f ++ ((d ++ (s ++ (((d ++ []) ++ 41 ∷ []) ++ []))) ++ 41 ∷ []) ≡ f ++ d ++ s ++ d ++ (41 ∷ (41 ∷ []))
two_holes f d s = simp (append_assoc, append-nil) refl

three_holes : (f d s t : List ℕ)
    → f ++ ((d ++ (s ++ (((d ++ (t ++ (d ++ []))) ++ 41 ∷ []) ++ []))) ++ 41 ∷ [])
    ≡ f ++ d ++ s ++ d ++ t ++ d ++ (41 ∷ (41 ∷ []))
three_holes f d s t = simp (append_assoc, append-nil) refl

module _ (d : List ℕ) where
  some_written : text_of (some_phrase d)
      ≡ codes "SubClassOf(:A" ++ d ++ codes " ObjectSomeValuesFrom(:r :B" ++ d ++ codes "))"
  some_written = two_holes (codes "SubClassOf(:A") d (codes " ObjectSomeValuesFrom(:r :B")

  two_written : text_of (two_phrase d)
      ≡ codes "SubClassOf(:A" ++ d ++ codes " ObjectMinCardinality(2 :s :B" ++ d ++ codes "))"
  two_written = two_holes (codes "SubClassOf(:A") d (codes " ObjectMinCardinality(2 :s :B")

  all_written : text_of (all_phrase d)
      ≡ codes "SubClassOf(:B" ++ d ++ codes " ObjectAllValuesFrom(:r :C" ++ d ++ codes "))"
  all_written = two_holes (codes "SubClassOf(:B") d (codes " ObjectAllValuesFrom(:r :C")

  either_written : text_of (either_phrase d)
      ≡ codes "SubClassOf(:C" ++ d ++ codes " ObjectUnionOf(:A" ++ d ++ codes " :D" ++ d ++ codes "))"
  either_written = three_holes (codes "SubClassOf(:C") d (codes " ObjectUnionOf(:A") (codes " :D")

-- lines one after another
four : (a b c d : List ℕ) → a ++ (b ++ (c ++ (d ++ []))) ≡ a ++ b ++ c ++ d
four a b c d = simp (append_assoc, append-nil) refl

group_written : (k : ℕ) → lines_text (group_phrases k) ≡ group_text k
group_written k =
    (λ i. line (some_written (decimal k) i)
    ++ (line (two_written (decimal k) i)
    ++ (line (all_written (decimal k) i) ++ (line (either_written (decimal k) i) ++ []))))
    ∙ four (line (text.some_text k)) (line (text.two_text k)) (line (text.all_text k)) (line (text.either_text k))

-- ---- the whole text

abbrev pub ontology_iri : List ℕ
ontology_iri = codes "http://example.org/w"

-- some text behind the two lines that begin a document, and behind it the bracket that closes it
abbrev pub opened : List ℕ → List ℕ
opened inner =
    codes "Prefix"
    ++ (40 ∷ (58
    ∷ (61 ∷ (iri_text prefix_iri_of_workloads
    ++ (41 ∷ (10 ∷ (codes "Ontology" ++ (40 ∷ (iri_text ontology_iri ++ (10 ∷ (inner ++ (41 ∷ (10 ∷ [])))))))))))))

abbrev pub header : List ℕ
header =
    codes "Prefix"
    ++ (40 ∷ (58
    ∷ (61 ∷ (iri_text prefix_iri_of_workloads
    ++ (41 ∷ (10 ∷ (codes "Ontology" ++ (40 ∷ (iri_text ontology_iri ++ (10 ∷ []))))))))))

kernel_written : kernel_text ≡ header ++ lines_text kernel_phrases
kernel_written = refl

front_written : (n : ℕ) → kernel_text ++ groups_text n ≡ header ++ lines_text (workload_phrases n)
front_written zero = append-nil kernel_text ∙ kernel_written
front_written (suc n) =
    sym (append_assoc kernel_text (groups_text n) (group_text (n + 1)))
    ∙ (λ i. front_written n i ++ sym (group_written (n + 1)) i)
    ∙ append_assoc header (lines_text (workload_phrases n)) (lines_text (group_phrases (n + 1)))
    ∙ ap (λ l. header ++ l) (sym (lines_append (workload_phrases n) (group_phrases (n + 1))))

pub text_is : (n : ℕ) → workload_text n ≡ opened (lines_text (workload_phrases n))
unfolding workload_text
text_is n =
    ap (λ l. l ++ (41 ∷ (10 ∷ []))) (front_written n)
    ∙ append_assoc header (lines_text (workload_phrases n)) (41 ∷ (10 ∷ []))

-- ---- what stands behind the last bracket

-- a line feed
pub behind_bracket : (inner : List ℕ) → drop (66 + length inner + 1) (opened inner) ≡ 10 ∷ []
behind_bracket inner =
    let front : List ℕ = (header ++ inner) ++ 41 ∷ [] in
    let whole : front ++ 10 ∷ [] ≡ opened inner =
    append_assoc (header ++ inner) (41 ∷ []) (10 ∷ []) ∙ append_assoc header inner (41 ∷ (10 ∷ [])) in
    let size : length front ≡ 66 + length inner + 1 =
    omega (arith, length-append (header ++ inner) (41 ∷ []), length-append header inner) in
    (λ i. drop (sym size i) (sym whole i)) ∙ drop-append_seam front (10 ∷ [])
