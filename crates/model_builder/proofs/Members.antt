-- What the members say that are collected element by element.
use Rattle.std.proofs.Common.{◌≡◌, ℕ, ◌+◌, ◌<◌, ◌&&◌, ◌||◌, Bool, true, false, eqb, List, [], ◌∷◌, ◌++◌, get_or, refl}
use Rattle.std.proofs.Common.{ap, ◌∙◌, sym, subst, eq-eqb}
use Rattle.std.specs.Prelude.{nat_lt, All}
use Rattle.std.specs.List.{list_any}
use Rattle.std.proofs.Math.Bool.{or-false, and-or_distrib_left, and-false}
use Rattle.std.proofs.lemmas.Bool.{and_parts, and_from, eqb-true, ltb-true}
use Rattle.std.proofs.lemmas.List.Folds.{list_any-append, list_any_at}
use Rattle.shq_terms.proofs.Bools.{same_truth}
use Rattle.calculus_specs.specs.Shape.{Shape, shape_of}
use Rattle.calculus_specs.specs.Shape.Shape.{top, bottom, name, not_name, intersection, union, some_of, all_of}
use Rattle.calculus_specs.specs.Shape.Shape.{at_least, at_most}
use Rattle.calculus_specs.specs.declared.facts.Fact.{Fact}
use Rattle.calculus_specs.specs.State.{label}
use Rattle.calculus_specs.specs.Listed.{IsLabel}
use Rattle.calculus_specs.proofs.State.{any-label}
use Rattle.tableau_specs.specs.Steps.{is_named}
use Rattle.search_laws.proofs.CounterModelNodes.{member, any_more}
use Rattle.model_builder.specs.declared.structure_model.Member.{Member}
use Rattle.model_builder.specs.Structure.{is_member_of}
use Rattle.model_builder.proofs.Tests.{lt_none, lt_more}
use Rattle.model_builder.specs.Collected.{class_in, member_of, members_by, has_class, AreMembers}

-- ---- truth tables

-- what holds of one number more
pub join_last : (l e h q : Bool) → (e ≡ true → q ≡ h) → ((l && h) || (e && q)) ≡ ((l || e) && h)
join_last true true h q same = ap (λ (b : Bool). h || b) (same refl) ∙ itself h
  where
    itself : (b : Bool) → (b || b) ≡ b
    itself true = refl
    itself false = refl
join_last false true h q same = same refl
join_last true false h q same = or-false h
join_last false false h q same = refl

-- ---- the members of one element

same_number : (a b : ℕ) → eqb a b ≡ eqb b a
same_number a b =
    same_truth (eqb a b) (eqb b a) (λ h. eq-eqb b a (sym (eqb-true a b h))) (λ h. eq-eqb a b (sym (eqb-true b a h)))

named : (v a b x : ℕ) → is_member_of (member_of v (class_in (name b))) a x ≡ (eqb v x && eqb a b)
named v a b x = or-false (eqb b a && eqb v x) ∙ swapped (eqb b a) (eqb v x) (eqb a b) (same_number b a)
  where
    swapped : (p q r : Bool) → p ≡ r → (p && q) ≡ (q && r)
    swapped true true r h = h
    swapped true false r h = refl
    swapped false true r h = h
    swapped false false r h = refl

member_named : (v a x : ℕ) (s : Shape) → is_member_of (member_of v (class_in s)) a x ≡ (eqb v x && is_named a s)
member_named v a x (name b) = named v a b x
member_named v a x top = sym (and-false (eqb v x))
member_named v a x bottom = sym (and-false (eqb v x))
member_named v a x (not_name b) = sym (and-false (eqb v x))
member_named v a x (intersection cs) = sym (and-false (eqb v x))
member_named v a x (union cs) = sym (and-false (eqb v x))
member_named v a x (some_of r c) = sym (and-false (eqb v x))
member_named v a x (all_of r c) = sym (and-false (eqb v x))
member_named v a x (at_least n r c) = sym (and-false (eqb v x))
member_named v a x (at_most n r c) = sym (and-false (eqb v x))

members_named : (table : List Shape) (v a x : ℕ) (cs : List ℕ)
    → is_member_of (members_by table v cs) a x ≡ (eqb v x && list_any (λ c. is_named a (shape_of table c)) cs)
members_named table v a x [] = sym (and-false (eqb v x))
members_named table v a x (c ∷ cs) =
    list_any-append (λ (m : Member). eqb m.class a && eqb m.element x) (member_of v (class_in (shape_of table c)))
    (members_by table v cs)
    ∙ (λ i. member_named v a x (shape_of table c) i || members_named table v a x cs i)
    ∙ sym
    (and-or_distrib_left (eqb v x) (is_named a (shape_of table c)) (list_any (λ d. is_named a (shape_of table d)) cs))

-- ---- labels

any_of : (p : ℕ → Bool) (cs : List ℕ) (c : ℕ) → p c ≡ true → list_any (λ d. eqb d c) cs ≡ true → list_any p cs ≡ true
any_of p cs c h is = any_more (λ d. eqb d c) p (λ d e. subst (λ (k : ℕ). p k ≡ true) (sym (eqb-true d c e)) h) cs is

-- lists that have the same numbers have the same passing numbers
any_alike : (p : ℕ → Bool) (cs ds : List ℕ) → ((c : ℕ) → list_any (λ d. eqb d c) cs ≡ list_any (λ d. eqb d c) ds)
    → list_any p cs ≡ true → list_any p ds ≡ true
any_alike p cs ds same h = let m = member p cs h in any_of p ds m.it m.passes (sym (same m.it) ∙ m.is_in)

label_any : (fs : List (Fact ℕ)) (x : ℕ) (cs : List ℕ) (p : ℕ → Bool) → IsLabel fs x cs
    → list_any p cs ≡ list_any p (label fs x)
label_any fs x cs p is =
    let same : (c : ℕ) → list_any (λ d. eqb d c) cs ≡ list_any (λ d. eqb d c) (label fs x) =
    λ c. is c ∙ sym (any-label fs x c) in
    same_truth (list_any p cs) (list_any p (label fs x)) (any_alike p cs (label fs x) same)
    (any_alike p (label fs x) cs (λ c. sym (same c)))

-- ---- all elements

pub members_none : (table : List Shape) (fs : List (Fact ℕ)) (originals : List ℕ) → AreMembers table fs originals 0 []
members_none table fs originals a v =
    sym (ap (λ (b : Bool). b && has_class table fs (get_or originals v 0) a) (lt_none v))

pub members_more : (table : List Shape) (fs : List (Fact ℕ)) (originals : List ℕ) (n : ℕ) (old new : List Member)
    (cs : List ℕ)
    → AreMembers table fs originals n old → IsLabel fs (get_or originals n 0) cs → new ≡ old ++ members_by table n cs
    → AreMembers table fs originals (n + 1) new
members_more table fs originals n old new cs before is put a v =
    ap (λ (ms : List Member). is_member_of ms a v) put
    ∙ list_any-append (λ (m : Member). eqb m.class a && eqb m.element v) old (members_by table n cs)
    ∙ (λ i. before a v i || members_named table n a v cs i)
    ∙ join_last (nat_lt v n) (eqb n v) (has_class table fs (get_or originals v 0) a)
    (list_any (λ c. is_named a (shape_of table c)) cs) here
    ∙ ap (λ (b : Bool). b && has_class table fs (get_or originals v 0) a) (sym (lt_more n v))
  where
    here : eqb n v ≡ true
        → list_any (λ c. is_named a (shape_of table c)) cs ≡ has_class table fs (get_or originals v 0) a
    here e =
        label_any fs (get_or originals n 0) cs (λ c. is_named a (shape_of table c)) is
        ∙ ap (λ (k : ℕ). has_class table fs (get_or originals k 0) a) (eqb-true n v e)

pub members_inside : (table : List Shape) (fs : List (Fact ℕ)) (originals : List ℕ) (n : ℕ) (ms : List Member)
    → AreMembers table fs originals n ms → All (λ (m : Member). m.element < n) ms
members_inside table fs originals n ms are k d lt =
    let m = get_or ms k d in
    let found : is_member_of ms m.class m.element ≡ true =
    list_any_at (λ (u : Member). eqb u.class m.class && eqb u.element m.element) ms k d lt
    (and_from (eqb m.class m.class) (eqb m.element m.element) (eq-eqb m.class m.class refl)
    (eq-eqb m.element m.element refl)) in
    ltb-true m.element n
    (and_parts (nat_lt m.element n) (has_class table fs (get_or originals m.element 0) m.class)
    (sym (are m.class m.element) ∙ found)).0
