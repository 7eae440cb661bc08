-- The count of the parts of each kind of axiom.
use Rattle.std.proofs.Common.{◌≡◌, ℕ, suc, zero, ◌+◌, ◌-◌, ◌*◌, List, [], ◌∷◌, ◌++◌, map, length, refl, ap, sym, ◌∙◌}
use Rattle.std.proofs.Common.{arith, length-append}
use Rattle.std.proofs.lemmas.List.{length-map}
use Rattle.shq_terms.specs.Concept.{Concept, part_list}
use Rattle.shq_terms.specs.declared.axioms.Axiom.{Axiom}
use Rattle.shq_terms.specs.declared.axioms.Axiom.TheVariants as A
use Rattle.ontology_limits.specs.Facts.{same_facts, apart_facts, facts_of}
use Rattle.ontology_limits.specs.Parts.{axiom_parts, disjoint_parts, union_parts}
use Rattle.ontology_limits.proofs.Pairs.{pair_total, length_equivalent, length_union}
use Rattle.ofn_tree.specs.Items.{Items, no_items, item}
use Rattle.ofn_expressions.specs.Counts.{Counts}
use Rattle.ofn_expressions.specs.Names.{Prefix, iri_of}
use Rattle.ofn_expressions.specs.Classes.{item_count, class_named, concepts_of}
use Rattle.ofn_expressions.specs.Individuals.{individuals_of}
use Rattle.ofn_reader.specs.declared.keywords.AxiomKind.TheVariants as K
use Rattle.ofn_reader.specs.Axioms.{pair_count, parts_by_item_count}
use Rattle.text_laws.specs.PartLaws.{PartsAreCounted}

none_made : (a : Axiom) → [] ≡ a ∷ [] → ⊥
none_made a is = cc is

-- the count of a made axiom is that of the one which it equals
along : (made : Axiom) (a : Axiom) (n : ℕ) → n ≡ length (axiom_parts made) + length (facts_of made) → made ∷ [] ≡ a ∷ []
    → n ≡ length (axiom_parts a) + length (facts_of a)
along made a n told is =
    let same : made ≡ a = cc is in told ∙ ap (λ x. length (axiom_parts x) + length (facts_of x)) same

-- an axiom of classes gives no facts, and an assertion has no parts
no_facts : (n k : ℕ) → n ≡ k → n ≡ k + 0
no_facts n k same = omega (arith, same)

no_parts : (n k : ℕ) → n ≡ k → n ≡ 0 + k
no_parts n k same = omega (arith, same)

module _ (ps : List Prefix) (s : Counts) where
  as_many : (is : Items) → length (part_list (concepts_of ps s is)) ≡ item_count is
  as_many no_items = refl
  as_many (item i is) = omega (arith, as_many is)

  as_many_individuals : (is : Items) → length (individuals_of ps s is) ≡ item_count is
  as_many_individuals no_items = refl
  as_many_individuals (item i is) = omega (arith, as_many_individuals is)

pub pairs_counted : (cs : List Concept) (n : ℕ) → length cs ≡ n → pair_count n ≡ length (disjoint_parts cs)
pairs_counted cs n same =
    let total : 2 * length (disjoint_parts cs) ≡ n * (n - 1) = pair_total cs ∙ ap (λ k. k * (k - 1)) same in
    omega (arith, total)

-- each individual is the same as the next
pub same_counted : (as_ : List ℕ) → length as_ - 1 ≡ length (same_facts as_)
same_counted [] = refl
same_counted (a ∷ []) = refl
same_counted (a ∷ b ∷ bs) = let rest = same_counted (b ∷ bs) in omega (arith, rest)

times_step : (m : ℕ) → 2 * m + m * (m - 1) ≡ suc m * m
times_step zero = refl
times_step (suc k) = grind arith

mapped_length : {A : Type 0} (f : ℕ → A) (as_ : List ℕ) (rest : List A)
    → length (map f as_ ++ rest) ≡ length as_ + length rest
mapped_length f as_ rest = omega (arith, length-append (map f as_) rest, length-map as_ f)

apart_next : (a : ℕ) (as_ : List ℕ) → length (apart_facts (a ∷ as_)) ≡ length as_ + length (apart_facts as_)
apart_next a as_ = mapped_length _ as_ (apart_facts as_)

apart_total : (as_ : List ℕ) → 2 * length (apart_facts as_) ≡ length as_ * (length as_ - 1)
apart_total [] = refl
apart_total (a ∷ as_) =
    let m = length as_ in
    let here : 2 * length (apart_facts (a ∷ as_)) ≡ 2 * m + 2 * length (apart_facts as_) =
    omega (arith, apart_next a as_) in
    let less : suc m - 1 ≡ m = omega arith in
    here ∙ ap (λ k. 2 * m + k) (apart_total as_) ∙ times_step m ∙ sym (ap (λ k. suc m * k) less)

-- each individual is apart from each later one
pub apart_counted : (as_ : List ℕ) (n : ℕ) → length as_ ≡ n → pair_count n ≡ length (apart_facts as_)
apart_counted as_ n same =
    let total : 2 * length (apart_facts as_) ≡ n * (n - 1) = apart_total as_ ∙ ap (λ k. k * (k - 1)) same in
    omega (arith, total)

union_counted : (c : Concept) (cs : List Concept) (n : ℕ) → length cs ≡ n
    → parts_by_item_count K.DisjointUnion (n + 1) ≡ length (union_parts c cs)
union_counted c cs n same =
    let less : n + 1 - 1 ≡ n = omega arith in
    let pairs = ap pair_count less ∙ pairs_counted cs n same in
    omega (arith, pairs, length_union c cs, same)

pub parts_counted : PartsAreCounted
parts_counted ps s K.SubClassOf no_items a is = absurd (none_made a is)
parts_counted ps s K.SubClassOf (item c no_items) a is = absurd (none_made a is)
parts_counted ps s K.SubClassOf (item c (item d more)) a is = along _ a 1 refl is
parts_counted ps s K.EquivalentClasses is a made =
    along (A.EquivalentClasses (part_list (concepts_of ps s is))) a (item_count is)
    (no_facts (item_count is) _ (sym (length_equivalent (part_list (concepts_of ps s is)) ∙ as_many ps s is))) made
parts_counted ps s K.DisjointClasses is a made =
    along (A.DisjointClasses (part_list (concepts_of ps s is))) a (pair_count (item_count is))
    (no_facts (pair_count (item_count is)) _
    (pairs_counted (part_list (concepts_of ps s is)) (item_count is) (as_many ps s is)))
    made
parts_counted ps s K.DisjointUnion no_items a is = absurd (none_made a is)
parts_counted ps s K.DisjointUnion (item c is) a made =
    along (A.DisjointUnion (class_named s (iri_of ps c)) (part_list (concepts_of ps s is))) a
    (parts_by_item_count K.DisjointUnion (item_count is + 1))
    (no_facts (parts_by_item_count K.DisjointUnion (item_count is + 1)) _
    (union_counted (class_named s (iri_of ps c)) (part_list (concepts_of ps s is)) (item_count is) (as_many ps s is)))
    made
parts_counted ps s K.SubRole no_items a is = absurd (none_made a is)
parts_counted ps s K.SubRole (item r no_items) a is = absurd (none_made a is)
parts_counted ps s K.SubRole (item r (item q more)) a is = along _ a 0 refl is
parts_counted ps s K.EquivalentRoles is a made = along _ a 0 refl made
parts_counted ps s K.Domain no_items a is = absurd (none_made a is)
parts_counted ps s K.Domain (item r no_items) a is = absurd (none_made a is)
parts_counted ps s K.Domain (item r (item c more)) a is = along _ a 1 refl is
parts_counted ps s K.Range no_items a is = absurd (none_made a is)
parts_counted ps s K.Range (item r no_items) a is = absurd (none_made a is)
parts_counted ps s K.Range (item r (item c more)) a is = along _ a 1 refl is
parts_counted ps s K.Functional no_items a is = absurd (none_made a is)
parts_counted ps s K.Functional (item r more) a is = along _ a 1 refl is
parts_counted ps s K.Transitive no_items a is = absurd (none_made a is)
parts_counted ps s K.Transitive (item r more) a is = along _ a 0 refl is
parts_counted ps s K.Member no_items a is = absurd (none_made a is)
parts_counted ps s K.Member (item c no_items) a is = absurd (none_made a is)
parts_counted ps s K.Member (item c (item i more)) a is = along _ a 1 refl is
parts_counted ps s K.Pair no_items a is = absurd (none_made a is)
parts_counted ps s K.Pair (item r no_items) a is = absurd (none_made a is)
parts_counted ps s K.Pair (item r (item i no_items)) a is = absurd (none_made a is)
parts_counted ps s K.Pair (item r (item i (item j more))) a is = along _ a 1 refl is
parts_counted ps s K.SameAll is a made =
    along (A.SameAll (individuals_of ps s is)) a (item_count is - 1)
    (no_parts (item_count is - 1) _
    (ap (λ n. n - 1) (sym (as_many_individuals ps s is)) ∙ same_counted (individuals_of ps s is)))
    made
parts_counted ps s K.Different is a made =
    along (A.Different (individuals_of ps s is)) a (pair_count (item_count is))
    (no_parts (pair_count (item_count is)) _
    (apart_counted (individuals_of ps s is) (item_count is) (as_many_individuals ps s is)))
    made
