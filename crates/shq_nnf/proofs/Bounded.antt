-- The normal forms of cardinalities and of their fillers.
use Rattle.std.proofs.Common.{◌≡◌, ℕ, zero, suc, ◌<◌, Bool, true, false, not, List, [], ◌∷◌, map, length, get_or, arith}
use Rattle.std.proofs.Common.{refl, ap, sym, ◌∙◌}
use Rattle.std.proofs.lemmas.Bool.{and_parts}
use Rattle.shq_meaning.specs.Concept.{Concept, intersection, union, parts_of}
use Rattle.calculus_specs.specs.Normal.{and_of, or_of, normal_form, negated_form, normal_forms, negated_forms}
use Rattle.calculus_specs.specs.Shape.{Shape}
use Rattle.calculus_specs.specs.Tree.{tree_of}
use Rattle.shq_nnf.specs.declared.counts.Bound.{Bound}
use Rattle.shq_nnf.specs.declared.counts.Bound.TheVariants.{AtLeast, AtMost, Exactly}
use Rattle.shq_nnf.specs.Bounds.{signed_form, joined_form, bound_form, uses_plain, uses_negated}
use Rattle.shq_nnf.specs.Counts.{has_counts_within, have_counts_within}
use Rattle.shq_nnf.specs.Numbers.{Extends, IsNumber}
use Rattle.shq_nnf.proofs.Numbers.{tree_stays, number_stays}

exactly_form : (negated : Bool) (n r : ℕ) (c d : Concept)
    → joined_form negated (bound_form AtLeast negated n r c d ∷ bound_form AtMost negated n r c d ∷ [])
    ≡ bound_form Exactly negated n r c d
exactly_form true n r c d = refl
exactly_form false n r c d = refl

-- first the one bound, then the other, each over the same two numbers
pub exactly_of : (a b c : List Shape) (negated : Bool) (n r plain complement least most : ℕ) → plain < length a
    → complement < length a → Extends a b → Extends b c
    → IsNumber b least (bound_form AtLeast negated n r (tree_of a plain) (tree_of a complement))
    → IsNumber c most (bound_form AtMost negated n r (tree_of b plain) (tree_of b complement))
    → joined_form negated (tree_of c least ∷ tree_of c most ∷ [])
    ≡ bound_form Exactly negated n r (tree_of a plain) (tree_of a complement)
exactly_of a b c negated n r plain complement least most lt mt e f first second =
    let p = tree_stays a b e plain lt in
    let q = tree_stays a b e complement mt in
    let one =
    (number_stays b c least (bound_form AtLeast negated n r (tree_of a plain) (tree_of a complement)) f
    first).stands_for in
    let two : tree_of c most ≡ bound_form AtMost negated n r (tree_of a plain) (tree_of a complement) =
    second.stands_for ∙ (λ i. bound_form AtMost negated n r (p i) (q i)) in
    (λ i. joined_form negated (one i ∷ two i ∷ [])) ∙ exactly_form negated n r (tree_of a plain) (tree_of a complement)

-- only what is used matters
pub bound_form_used : (b : Bound) (negated : Bool) (n r : ℕ) (c d c' d' : Concept)
    → (uses_plain b negated n ≡ true → c ≡ c') → (uses_negated b negated n ≡ true → d ≡ d')
    → bound_form b negated n r c d ≡ bound_form b negated n r c' d'
bound_form_used AtLeast false zero r c d c' d' e f = refl
bound_form_used AtLeast false (suc zero) r c d c' d' e f = ap (λ k. bound_form AtLeast false 1 r k d) (e refl)
bound_form_used AtLeast false (suc (suc n)) r c d c' d' e f =
    ap (λ k. bound_form AtLeast false (suc (suc n)) r k d) (e refl)
bound_form_used AtLeast true zero r c d c' d' e f = refl
bound_form_used AtLeast true (suc zero) r c d c' d' e f = ap (λ k. bound_form AtLeast true 1 r c k) (f refl)
bound_form_used AtLeast true (suc (suc n)) r c d c' d' e f =
    ap (λ k. bound_form AtLeast true (suc (suc n)) r k d) (e refl)
bound_form_used AtMost false zero r c d c' d' e f = ap (λ k. bound_form AtMost false 0 r c k) (f refl)
bound_form_used AtMost false (suc n) r c d c' d' e f = ap (λ k. bound_form AtMost false (suc n) r k d) (e refl)
bound_form_used AtMost true zero r c d c' d' e f = ap (λ k. bound_form AtMost true 0 r k d) (e refl)
bound_form_used AtMost true (suc n) r c d c' d' e f = ap (λ k. bound_form AtMost true (suc n) r k d) (e refl)
bound_form_used Exactly false zero r c d c' d' e f = ap (λ k. bound_form Exactly false 0 r c k) (f refl)
bound_form_used Exactly false (suc zero) r c d c' d' e f = ap (λ k. bound_form Exactly false 1 r k d) (e refl)
bound_form_used Exactly false (suc (suc n)) r c d c' d' e f =
    ap (λ k. bound_form Exactly false (suc (suc n)) r k d) (e refl)
bound_form_used Exactly true zero r c d c' d' e f = ap (λ k. bound_form Exactly true 0 r k d) (e refl)
bound_form_used Exactly true (suc zero) r c d c' d' e f = λ i. bound_form Exactly true 1 r (e refl i) (f refl i)
bound_form_used Exactly true (suc (suc n)) r c d c' d' e f =
    ap (λ k. bound_form Exactly true (suc (suc n)) r k d) (e refl)

-- ---- lists of forms

pub normal_list : (cs : List Concept) → normal_forms (parts_of cs) ≡ map normal_form cs
normal_list [] = refl
normal_list (c ∷ cs) = ap (λ (l : List Concept). normal_form c ∷ l) (normal_list cs)

pub negated_list : (cs : List Concept) → negated_forms (parts_of cs) ≡ map negated_form cs
negated_list [] = refl
negated_list (c ∷ cs) = ap (λ (l : List Concept). negated_form c ∷ l) (negated_list cs)

pub intersection_form : (negated : Bool) (cs : List Concept)
    → joined_form negated (map (signed_form negated) cs) ≡ signed_form negated (intersection (parts_of cs))
intersection_form true cs = sym (ap or_of (negated_list cs))
intersection_form false cs = sym (ap and_of (normal_list cs))

pub union_form : (negated : Bool) (cs : List Concept)
    → joined_form (not negated) (map (signed_form negated) cs) ≡ signed_form negated (union (parts_of cs))
union_form true cs = sym (ap and_of (negated_list cs))
union_form false cs = sym (ap or_of (normal_list cs))

pub counts_at : (limit : ℕ) (cs : List Concept) (i : ℕ) (d : Concept) → i < length cs
    → have_counts_within limit (parts_of cs) ≡ true → has_counts_within limit (get_or cs i d) ≡ true
counts_at limit [] i d lt h = absurd (omega arith)
counts_at limit (c ∷ cs) zero d lt h =
    (and_parts (has_counts_within limit c) (have_counts_within limit (parts_of cs)) h).0
counts_at limit (c ∷ cs) (suc i) d lt h =
    counts_at limit cs i d (omega arith)
    (and_parts (has_counts_within limit c) (have_counts_within limit (parts_of cs)) h).1
