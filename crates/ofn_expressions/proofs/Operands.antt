-- What the items of a restriction and of a cardinality stand for.
use Rattle.std.proofs.Common.{◌≡◌, ℕ, zero, suc, ◌≤◌, List, [], ◌∷◌, true, false, length, get_or, Result, Ok, Err, drop}
use Rattle.std.proofs.Common.{ap, sym, ◌∙◌, arith}
use Rattle.std.specs.Prelude.{nat_lt, IfOk}
use Rattle.std.proofs.lemmas.Bool.{and_from}
use Rattle.shq_terms.specs.Concept.{Concept}
use Rattle.shq_terms.specs.Uses.{uses_listed}
use Rattle.ofn_tree.specs.Items.{Item, items_of, nesting_all}
use Rattle.ofn_expressions.specs.Counts.{Counts}
use Rattle.ofn_expressions.specs.Names.{Prefix}
use Rattle.ofn_expressions.specs.Walk.{walked}
use Rattle.ofn_expressions.specs.Classes.{class_tests, each_class, joined, concept_of, concepts_of, role_of}
use Rattle.ofn_expressions.specs.Classes.{cardinality_of, fits, made, made_of, first, quantified, bounded, Keeps}
use Rattle.ofn_expressions.specs.Classes.{IsListed, IsListedRole, Means, MeansRole}
use Rattle.ofn_expressions.specs.declared.refusal.Refusal.{Refusal}
use Rattle.ofn_expressions.specs.declared.keywords.ClassKeyword.{ClassKeyword}
use Rattle.ofn_expressions.specs.declared.keywords.ClassKeyword.TheVariants.{Cardinality}
use Rattle.ofn_expressions.specs.declared.keywords.Keyword.TheVariants.{Class}
use Rattle.ofn_expressions.specs.declared.keywords.Quantifier.{Quantifier}
use Rattle.ofn_expressions.specs.declared.keywords.Quantifier.TheVariants as Q
use Rattle.ofn_expressions.specs.declared.keywords.Bound.{Bound}
use Rattle.ofn_expressions.specs.declared.keywords.Bound.TheVariants as B
use Rattle.ofn_expressions.proofs.Kept.{keeps_keeps, walked_keeps}

pub nesting_rest : (n : ℕ) (is : List Item) → nesting_all (items_of (drop n is)) ≤ nesting_all (items_of is)
nesting_rest zero is = omega arith
nesting_rest (suc n) [] = omega arith
nesting_rest (suc n) (i ∷ is) = omega (arith, nesting_rest n is)

quantified_listed : (q : Quantifier) (s : Counts) (r : ℕ) (c : Concept) → IsListedRole s r → IsListed s c
    → IsListed s (quantified q r c)
quantified_listed Q.Some s r c role filler =
    and_from (nat_lt r (length s.roles)) (uses_listed (length s.classes) (length s.roles) c) role filler
quantified_listed Q.All s r c role filler =
    and_from (nat_lt r (length s.roles)) (uses_listed (length s.classes) (length s.roles) c) role filler

bounded_listed : (b : Bound) (s : Counts) (n r : ℕ) (c : Concept) → IsListedRole s r → IsListed s c
    → IsListed s (bounded b n r c)
bounded_listed B.AtLeast s n r c role filler =
    and_from (nat_lt r (length s.roles)) (uses_listed (length s.classes) (length s.roles) c) role filler
bounded_listed B.AtMost s n r c role filler =
    and_from (nat_lt r (length s.roles)) (uses_listed (length s.classes) (length s.roles) c) role filler
bounded_listed B.Exactly s n r c role filler =
    and_from (nat_lt r (length s.roles)) (uses_listed (length s.classes) (length s.roles) c) role filler

-- a role that was read, and then its filler
pub restriction_means : (ps : List Prefix) (q : Quantifier) (role filler : Item) (mid new : Counts) (r : ℕ)
    (c : Concept)
    → MeansRole ps mid role r → walked mid (class_tests ps filler) ≡ Ok new → Means ps new filler c
    → (later : Counts) → Keeps new later
    → (quantified q (role_of ps later role) (concept_of ps later filler) ≡ quantified q r c)
    × IsListed later (quantified q r c)
restriction_means ps q role filler mid new r c said read means later keeps =
    let one = said later (keeps_keeps mid new later (walked_keeps mid (class_tests ps filler) new read) keeps) in
    let two = means later keeps in
    ((λ i. quantified q (one.0 i) (two.0 i)), quantified_listed q later r c one.1 two.1)

-- a role that was read, and then the filler that there may be
pub cardinality_means : (ps : List Prefix) (b : Bound) (n m : ℕ) (role : Item) (filler : List Item) (mid new : Counts)
    (r : ℕ) (c : Concept)
    → n ≡ m → MeansRole ps mid role r → walked mid (joined (each_class ps (items_of filler))) ≡ Ok new
    → ((later : Counts) → Keeps new later → (first (concepts_of ps later (items_of filler)) ≡ c) × IsListed later c)
    → (later : Counts) → Keeps new later
    → (bounded b n (role_of ps later role) (first (concepts_of ps later (items_of filler))) ≡ bounded b m r c)
    × IsListed later (bounded b m r c)
cardinality_means ps b n m role filler mid new r c number said read means later keeps =
    let one =
    said later
    (keeps_keeps mid new later (walked_keeps mid (joined (each_class ps (items_of filler))) new read) keeps) in
    let two = means later keeps in
    ((λ i. bounded b (number i) (one.0 i) (two.0 i)), bounded_listed b later m r c one.1 two.1)

cardinality_made : (ps : List Prefix) (b : Bound) (items : List Item) (x y : Item) → x ≡ get_or items 0 x
    → y ≡ get_or items 1 y → fits (Cardinality b) (length items) ≡ true → (s : Counts)
    → made_of ps s (Cardinality b) (items_of items) (concepts_of ps s (items_of items))
    ≡ bounded b (cardinality_of x) (role_of ps s y) (first (concepts_of ps s (items_of (drop 2 items))))
cardinality_made ps b [] x y at_x at_y ok s = let clash : false ≡ true = ok in absurd (cc clash)
cardinality_made ps b (i ∷ []) x y at_x at_y ok s = let clash : false ≡ true = ok in absurd (cc clash)
cardinality_made ps b (i ∷ (j ∷ rest)) x y at_x at_y ok s =
    λ k. bounded b (cardinality_of (sym at_x k)) (role_of ps s (sym at_y k)) (first (concepts_of ps s (items_of rest)))

-- the expression of a number, a role and the items after them is that of the whole group
pub cardinality_value : (ps : List Prefix) (k : ClassKeyword) (b : Bound) (items rest : List Item) (x y : Item)
    (r : Result Concept Refusal) (new : Counts)
    → k ≡ Cardinality b → x ≡ get_or items 0 x → y ≡ get_or items 1 y → rest ≡ drop 2 items
    → fits k (length items) ≡ true
    → IfOk r (λ c. (later : Counts) → Keeps new later
    → (bounded b (cardinality_of x) (role_of ps later y) (first (concepts_of ps later (items_of rest))) ≡ c)
    × IsListed later c)
    → IfOk r (λ c. (later : Counts) → Keeps new later
    → (made ps later (Class k) (items_of items) (concepts_of ps later (items_of items)) ≡ c) × IsListed later c)
cardinality_value ps k b items rest x y (Err e) new is at_x at_y behind ok means = tt
cardinality_value ps k b items rest x y (Ok c) new is at_x at_y behind ok means = λ later keeps.
    let told = means later keeps in (
      ap (λ l. made_of ps later l (items_of items) (concepts_of ps later (items_of items))) is
          ∙ cardinality_made ps b items x y at_x at_y (sym (ap (λ l. fits l (length items)) is) ∙ ok) later
          ∙ ap (λ l. bounded b (cardinality_of x) (role_of ps later y) (first (concepts_of ps later (items_of l))))
          (sym behind)
          ∙ told.0,
      told.1,
    )
