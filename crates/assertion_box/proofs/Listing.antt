-- The facts of axioms, put one after another.
use Rattle.std.proofs.Common.{◌≡◌, ℕ, zero, suc, ◌+◌, ◌-◌, ◌<◌, ◌≤◌, Option, Some, List, [], ◌∷◌, ◌++◌, map, length}
use Rattle.std.proofs.Common.{get_or, drop, refl, ap, sym, subst, ◌∙◌, arith, append_assoc, append-nil, drop-cons}
use Rattle.std.proofs.Common.{add-one}
use Rattle.std.specs.Prelude.{slice_get}
use Rattle.std.proofs.lemmas.List.{length-map}
use Rattle.refutation_truth.specs.Concept.{Concept}
use Rattle.refutation_truth.specs.Numbered.{Numbered}
use Rattle.calculus_specs.specs.declared.facts.Fact.{Fact}
use Rattle.calculus_specs.specs.declared.facts.Fact.TheVariants.{Apart}
use Rattle.refutation_truth.specs.Facts.{same_facts, apart_facts}
use Rattle.assertion_box.specs.Stated.{Stated, own_facts, own_facts_in, numbered_facts, stated_facts}

-- the later facts count on
pub numbered-append : (k first : ℕ) (fs gs : List (Fact Concept))
    → numbered_facts k first (fs ++ gs) ≡ numbered_facts k first fs ++ numbered_facts k (first + length fs) gs
numbered-append k first [] gs = ap (λ (n : ℕ). numbered_facts k n gs) (omega arith)
numbered-append k first (f ∷ fs) gs =
    ap (λ (ss : List Stated). record { axiom_number = k; place = first; fact = f } ∷ ss)
    (numbered-append k (first + 1) fs gs
    ∙ ap (λ (n : ℕ). numbered_facts k (first + 1) fs ++ numbered_facts k n gs) (omega arith))

pub length-numbered : (k first : ℕ) (fs : List (Fact Concept)) → length (numbered_facts k first fs) ≡ length fs
length-numbered k first [] = refl
length-numbered k first (f ∷ fs) = ap (λ (n : ℕ). suc n) (length-numbered k (first + 1) fs)

-- one fact is put
pub one_put : (k n : ℕ) (ss all : List Stated) (f : Fact Concept) (fs gs : List (Fact Concept)) → gs ≡ f ∷ fs
    → ss ++ numbered_facts k n gs ≡ all
    → (ss ++ numbered_facts k n (f ∷ [])) ++ numbered_facts k (n + 1) fs ≡ all
one_put k n ss all f fs gs is before =
    append_assoc ss (numbered_facts k n (f ∷ [])) (numbered_facts k (n + 1) fs)
    ∙ ap (λ (hs : List (Fact Concept)). ss ++ numbered_facts k n hs) (sym is)
    ∙ before

-- several are put
pub some_put : (k n m : ℕ) (ss all : List Stated) (fs gs : List (Fact Concept)) → length fs ≡ m
    → ss ++ numbered_facts k n (fs ++ gs) ≡ all
    → (ss ++ numbered_facts k n fs) ++ numbered_facts k (n + m) gs ≡ all
some_put k n m ss all fs gs long before =
    append_assoc ss (numbered_facts k n fs) (numbered_facts k (n + m) gs)
    ∙ ap (λ (i : ℕ). ss ++ (numbered_facts k n fs ++ numbered_facts k (n + i) gs)) (sym long)
    ∙ ap (λ (hs : List Stated). ss ++ hs) (sym (numbered-append k n fs gs))
    ∙ before

-- nothing is left to put
pub none_left : (k n : ℕ) (ss all : List Stated) (gs : List (Fact Concept)) → gs ≡ []
    → ss ++ numbered_facts k n gs ≡ all → ss ≡ all
none_left k n ss all gs none before =
    sym (append-nil ss) ∙ ap (λ (hs : List (Fact Concept)). ss ++ numbered_facts k n hs) (sym none) ∙ before

pub drop_next : (xs : List ℕ) (i : ℕ) (x : ℕ) → i < length xs → x ≡ get_or xs i 0 → drop i xs ≡ x ∷ drop (i + 1) xs
drop_next xs i x lt is = rw (add-one, is) (drop-cons xs i 0 lt)

-- one individual more is set apart from those after it
pub aparts_put : (k place first : ℕ) (individuals : List ℕ) (ss all new : List Stated) (x : ℕ) (later : List ℕ)
    → first < length individuals → x ≡ get_or individuals first 0 → later ≡ drop (first + 1) individuals
    → new ≡ ss ++ numbered_facts k place (map (Apart x) later)
    → ss ++ numbered_facts k place (apart_facts (drop first individuals)) ≡ all
    → new ++ numbered_facts k (place + length later) (apart_facts (drop (first + 1) individuals)) ≡ all
aparts_put k place first individuals ss all new x later lt is rest put before =
    let e : drop first individuals ≡ x ∷ later =
    drop_next individuals first x lt is ∙ ap (λ (ys : List ℕ). x ∷ ys) (sym rest) in
    ap
    (λ (ts : List Stated). ts ++ numbered_facts k (place + length later) (apart_facts (drop (first + 1) individuals)))
    put
    ∙ ap (λ (ys : List ℕ). (ss ++ numbered_facts k place (map (Apart x) later))
    ++ numbered_facts k (place + length later) (apart_facts ys))
    (sym rest)
    ∙ some_put k place (length later) ss all (map (Apart x) later) (apart_facts later) (length-map later (Apart x))
    (ap (λ (ys : List ℕ). ss ++ numbered_facts k place (apart_facts ys)) (sym e) ∙ before)

pub length-aparts : (k place : ℕ) (x : ℕ) (later : List ℕ)
    → length (numbered_facts k place (map (Apart x) later)) ≡ length later
length-aparts k place x later = length-numbered k place (map (Apart x) later) ∙ length-map later (Apart x)

-- one individual alone is the same as no other
pub few_same : (xs : List ℕ) → length xs ≤ 1 → same_facts xs ≡ []
few_same [] le = refl
few_same (x ∷ []) le = refl
few_same (x ∷ y ∷ ys) le = absurd (omega (arith, le))

slice_get_read : (xs : List Numbered) (k : ℕ) (x : Numbered) → k < length xs → x ≡ get_or xs k x
    → slice_get xs k ≡ Some x
slice_get_read [] k x lt e = absurd (omega arith)
slice_get_read (y ∷ ys) zero x lt e = ap (λ (z : Numbered). Some z) (sym e)
slice_get_read (y ∷ ys) (suc k) x lt e = slice_get_read ys k x (omega arith) e

-- the facts of one axiom more
pub stated_more : (axioms : List Numbered) (only : List ℕ) (i : ℕ) (item : Numbered) (found all : List Stated)
    → i < length only → get_or only i 0 - 1 < length axioms → item ≡ get_or axioms (get_or only i 0 - 1) item
    → found ++ stated_facts axioms (drop i only) ≡ all
    → (found ++ numbered_facts (get_or only i 0) 1 (own_facts (get_or axioms (get_or only i 0 - 1) item).axiom))
    ++ stated_facts axioms (drop (i + 1) only)
    ≡ all
stated_more axioms only i item found all within lt read before =
    let number = get_or only i 0 in
    let rest = drop (suc i) only in
    let e : drop i only ≡ number ∷ rest = drop-cons only i 0 within in
    let got : slice_get axioms (number - 1) ≡ Some item = slice_get_read axioms (number - 1) item lt read in
    let earlier :
    found ++ (numbered_facts number 1 (own_facts_in (slice_get axioms (number - 1))) ++ stated_facts axioms rest)
    ≡ all = subst (λ (ks : List ℕ). found ++ stated_facts axioms ks ≡ all) e before in
    let earlier' : found ++ (numbered_facts number 1 (own_facts item.axiom) ++ stated_facts axioms rest) ≡ all =
    subst
    (λ (o : Option Numbered). found ++ (numbered_facts number 1 (own_facts_in o) ++ stated_facts axioms rest) ≡ all) got
    earlier in
    let now : (found ++ numbered_facts number 1 (own_facts item.axiom)) ++ stated_facts axioms (drop (i + 1) only)
    ≡ all = rw (add-one, append_assoc) earlier' in
    subst (λ (n : Numbered). (found ++ numbered_facts number 1 (own_facts n.axiom))
    ++ stated_facts axioms (drop (i + 1) only)
    ≡ all)
    read now
