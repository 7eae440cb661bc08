-- Parts by their places.
use Rattle.std.proofs.Common.{◌≡◌, ℕ, zero, suc, ◌+◌, ◌-◌, ◌*◌, ◌<◌, ◌≤◌, List, [], ◌∷◌, map, length, get_or, drop}
use Rattle.std.proofs.Common.{refl, ap, sym, ◌∙◌, subst, inl, inr, arith, length-append}
use Rattle.std.proofs.lemmas.Bool.{cases_lt}
use Rattle.std.proofs.lemmas.List.{get_or_append_left, get_or-append_right, get_or-map, get_or_default, length-map}
use Rattle.shq_meaning.specs.Concept.{Concept, top}
use Rattle.calculus_specs.specs.Rows.{Part, inclusion, conjuncts_in, inclusion_of}
use Rattle.calculus_specs.specs.Shape.{Shape}
use Rattle.calculus_specs.specs.Tree.{tree_of}
use Rattle.shq_nnf.specs.declared.parts.Part.{Part as Kept}
use Rattle.shq_nnf.specs.Parts.{StandsForPart, disjoint_pair, disjoint_parts, chain_parts, equivalent_parts}
use Rattle.shq_nnf.specs.Parts.{union_parts, part_in}
use Rattle.shq_nnf.specs.Numbers.{IsNumber, Extends}
use Rattle.shq_nnf.proofs.Numbers.{tree_stays}

pub part_along : (t : List Shape) (p : Kept) (a a' b b' : Concept) → a ≡ a' → b ≡ b'
    → StandsForPart t p (inclusion (conjuncts_in a) b) → StandsForPart t p (inclusion (conjuncts_in a') b')
part_along t p a a' b b' e f h = subst (λ (q : Part). StandsForPart t p q) (λ i. inclusion (conjuncts_in (e i)) (f i)) h

-- two numbers that were found one after the other
pub part_of_numbers : (t u : List Shape) (p : Kept) (first second : ℕ) (a b : Concept) → Extends t u
    → IsNumber t first a → IsNumber u second b
    → StandsForPart u p (inclusion (conjuncts_in (tree_of u first)) (tree_of u second))
    → StandsForPart u p (inclusion (conjuncts_in a) b)
part_of_numbers t u p first second a b e is two h =
    part_along u p (tree_of u first) a (tree_of u second) b (tree_stays t u e first is.listed ∙ is.stands_for)
    two.stands_for h

abbrev nothing : Part
nothing = inclusion [] top

pub pair_here : (c : Concept) (cs : List Concept) (place : ℕ) (d : Concept) → place < length cs → d ≡ get_or cs place d
    → disjoint_pair c d ≡ part_in (disjoint_parts (c ∷ cs)) place
pair_here c cs place d lt is =
    ap (disjoint_pair c) is ∙ sym (get_or-map (disjoint_pair c) cs place d nothing lt)
    ∙ sym (get_or_append_left (map (disjoint_pair c) cs) (disjoint_parts cs) nothing place
    (omega (arith, length-map cs (disjoint_pair c))))

pub pair_later : (c : Concept) (cs : List Concept) (place : ℕ) → length cs ≤ place
    → part_in (disjoint_parts cs) (place - length cs) ≡ part_in (disjoint_parts (c ∷ cs)) place
pair_later c cs place le =
    sym (get_or-append_right (map (disjoint_pair c) cs) (disjoint_parts cs) (length cs) place nothing
    (length-map cs (disjoint_pair c)) le)

pub length_pairs : (c : Concept) (cs : List Concept)
    → length (disjoint_parts (c ∷ cs)) ≡ length cs + length (disjoint_parts cs)
length_pairs c cs =
    omega (arith, length-append (map (disjoint_pair c) cs) (disjoint_parts cs), length-map cs (disjoint_pair c))

times_step : (m : ℕ) → 2 * m + m * (m - 1) ≡ suc m * m
times_step zero = refl
times_step (suc k) = grind arith

pub pair_total : (cs : List Concept) → 2 * length (disjoint_parts cs) ≡ length cs * (length cs - 1)
pair_total [] = refl
pair_total (c ∷ cs) =
    let m = length cs in
    let here : 2 * length (disjoint_parts (c ∷ cs)) ≡ 2 * m + 2 * length (disjoint_parts cs) =
    omega (arith, length_pairs c cs) in
    let less : suc m - 1 ≡ m = omega arith in
    here ∙ ap (λ k. 2 * m + k) (pair_total cs) ∙ times_step m ∙ sym (ap (λ k. suc m * k) less)

chain_here : (first : Concept) (cs : List Concept) (i : ℕ) (d : Concept) → i + 1 < length cs
    → part_in (chain_parts first cs) i ≡ inclusion_of (get_or cs i d) (get_or cs (i + 1) d)
chain_here first [] i d lt = absurd (omega arith)
chain_here first (c ∷ []) i d lt = absurd (omega arith)
chain_here first (c ∷ e ∷ es) zero d lt = refl
chain_here first (c ∷ e ∷ es) (suc i) d lt =
    let there : suc (i + 1) ≡ suc i + 1 = omega arith in
    chain_here first (e ∷ es) i d (omega arith)
    ∙ ap (λ k. inclusion_of (get_or (e ∷ es) i d) (get_or (c ∷ e ∷ es) k d)) there

chain_last : (first : Concept) (cs : List Concept) (i : ℕ) (d : Concept) → i + 1 ≡ length cs
    → part_in (chain_parts first cs) i ≡ inclusion_of (get_or cs i d) first
chain_last first [] i d e = absurd (omega arith)
chain_last first (c ∷ []) zero d e = refl
chain_last first (c ∷ []) (suc i) d e = absurd (omega arith)
chain_last first (c ∷ k ∷ ks) zero d e = absurd (omega arith)
chain_last first (c ∷ k ∷ ks) (suc i) d e = chain_last first (k ∷ ks) i d (omega arith)

pub length_chain : (first : Concept) (cs : List Concept) → length (chain_parts first cs) ≡ length cs
length_chain first [] = refl
length_chain first (c ∷ []) = refl
length_chain first (c ∷ d ∷ ds) = ap suc (length_chain first (d ∷ ds))

pub length_equivalent : (cs : List Concept) → length (equivalent_parts cs) ≡ length cs
length_equivalent [] = refl
length_equivalent (c ∷ cs) = length_chain c (c ∷ cs)

pub equivalent_at : (cs : List Concept) (i k : ℕ) (d e : Concept) → i < length cs → (i + 1 < length cs → k ≡ i + 1)
    → (length cs ≤ i + 1 → k ≡ 0) → d ≡ get_or cs i d → e ≡ get_or cs k e
    → inclusion_of d e ≡ part_in (equivalent_parts cs) i
equivalent_at [] i k d e lt next first is there = absurd (omega arith)
equivalent_at (c ∷ cs) i k d e lt next first is there = elim (cases_lt (i + 1) (length (c ∷ cs))) [
  | inl less ↦
      (λ j. inclusion_of (is j)
      ((there ∙ ap (λ n. get_or (c ∷ cs) n e) (next less) ∙ get_or_default (c ∷ cs) (i + 1) e d less) j))
      ∙ sym (chain_here c (c ∷ cs) i d less)
  | inr last ↦
      (λ j. inclusion_of (is j) ((there ∙ ap (λ n. get_or (c ∷ cs) n e) (first last)) j))
      ∙ sym (chain_last c (c ∷ cs) i d (omega arith))
]

pub union_at : (a : Concept) (cs : List Concept) (i : ℕ) (d : Concept) → i < length cs → d ≡ get_or cs i d
    → inclusion_of d a ≡ part_in (union_parts a cs) (i + 1)
union_at a cs i d lt is =
    let there : i + 1 ≡ suc i = omega arith in
    ap (λ k. inclusion_of k a) is ∙ sym (get_or-map (λ c. inclusion_of c a) cs i d nothing lt)
    ∙ sym (get_or_append_left (map (λ c. inclusion_of c a) cs) (disjoint_parts cs) nothing i
    (omega (arith, length-map cs (λ c. inclusion_of c a))))
    ∙ sym (ap (part_in (union_parts a cs)) there)

pub union_later : (a : Concept) (cs : List Concept) (i : ℕ) → length cs ≤ i
    → part_in (disjoint_parts cs) (i - length cs) ≡ part_in (union_parts a cs) (i + 1)
union_later a cs i le =
    let there : i + 1 ≡ suc i = omega arith in
    sym (get_or-append_right (map (λ c. inclusion_of c a) cs) (disjoint_parts cs) (length cs) i nothing
    (length-map cs (λ c. inclusion_of c a)) le)
    ∙ sym (ap (part_in (union_parts a cs)) there)

pub length_union : (a : Concept) (cs : List Concept)
    → length (union_parts a cs) ≡ 1 + length cs + length (disjoint_parts cs)
length_union a cs = omega
    (arith, length-append (map (λ c. inclusion_of c a) cs) (disjoint_parts cs), length-map cs (λ c. inclusion_of c a))

-- the pairs of a class with those after it come before the pairs of these
pub pair_found : (cs : List Concept) (i place : ℕ) (first second : Concept) → i + 1 + place < length cs
    → first ≡ get_or cs i first → second ≡ get_or cs (i + 1 + place) second
    → disjoint_pair first second ≡ part_in (disjoint_parts (drop i cs)) place
pair_found [] i place first second lt is there = absurd (omega arith)
pair_found (c ∷ cs) zero place first second lt is there =
    let next : 0 + 1 + place ≡ suc place = omega arith in
    ap (λ k. disjoint_pair k second) is
    ∙ pair_here c cs place second (omega arith) (there ∙ ap (λ k. get_or (c ∷ cs) k second) next)
pair_found (c ∷ cs) (suc i) place first second lt is there =
    let next : suc i + 1 + place ≡ suc (i + 1 + place) = omega arith in
    pair_found cs i place first second (omega arith) is (there ∙ ap (λ k. get_or (c ∷ cs) k second) next)

pub pair_after : (cs : List Concept) (i place : ℕ) → i < length cs → length cs - i - 1 ≤ place
    → part_in (disjoint_parts (drop (i + 1) cs)) (place - (length cs - i - 1))
    ≡ part_in (disjoint_parts (drop i cs)) place
pair_after [] i place lt le = absurd (omega arith)
pair_after (c ∷ cs) zero place lt le =
    let later : length (c ∷ cs) - 0 - 1 ≡ length cs = omega arith in
    ap (λ k. part_in (disjoint_parts cs) (place - k)) later ∙ pair_later c cs place (omega arith)
pair_after (c ∷ cs) (suc i) place lt le =
    let later : length (c ∷ cs) - suc i - 1 ≡ length cs - i - 1 = omega arith in
    let next : suc i + 1 ≡ suc (i + 1) = omega arith in
    (λ j. part_in (disjoint_parts (drop (next j) (c ∷ cs))) (place - later j))
    ∙ pair_after cs i place (omega arith) (omega arith)

pub pairs_after : (cs : List Concept) (i place : ℕ) → i < length cs → length cs - i - 1 ≤ place
    → place < length (disjoint_parts (drop i cs))
    → place - (length cs - i - 1) < length (disjoint_parts (drop (i + 1) cs))
pairs_after [] i place lt le listed = absurd (omega arith)
pairs_after (c ∷ cs) zero place lt le listed = omega (arith, length_pairs c cs)
pairs_after (c ∷ cs) (suc i) place lt le listed =
    let next : suc i + 1 ≡ suc (i + 1) = omega arith in
    let more : place - (length cs - i - 1) < length (disjoint_parts (drop (i + 1) cs)) =
    pairs_after cs i place (omega arith) (omega arith) listed in
    subst (λ k. place - (length (c ∷ cs) - suc i - 1) < length (disjoint_parts (drop k (c ∷ cs)))) (sym next)
    (omega (arith, more))

pub no_pairs : (cs : List Concept) (i : ℕ) → length cs ≤ i → length (disjoint_parts (drop i cs)) ≡ 0
no_pairs [] zero le = refl
no_pairs [] (suc i) le = refl
no_pairs (c ∷ cs) zero le = absurd (omega arith)
no_pairs (c ∷ cs) (suc i) le = no_pairs cs i (omega arith)
