-- Items as a list, and one more of them read.
use Rattle.std.proofs.Common.{◌≡◌, ℕ, zero, suc, ◌+◌, ◌<◌, ◌≤◌, List, [], ◌∷◌, ◌++◌, length, get_or, drop, drop-cons}
use Rattle.std.proofs.Common.{Result, Ok, Err, refl, ap, sym, ◌∙◌, subst, add-one, append_assoc, append-nil, arith}
use Rattle.std.specs.Prelude.{nat_lt}
use Rattle.std.specs.List.{list_all}
use Rattle.std.proofs.lemmas.List.{drop_all}
use Rattle.std.proofs.lemmas.Bool.{and_parts}
use Rattle.shq_terms.specs.Concept.{Concept, Parts, no_parts, part, parts_of}
use Rattle.shq_terms.specs.Uses.{uses_listed, parts_use_listed}
use Rattle.ofn_tree.specs.Items.{Item, items_of, nesting, nesting_all}
use Rattle.ofn_expressions.specs.Counts.{Counts}
use Rattle.ofn_expressions.specs.Walk.{Test, walked}
use Rattle.ofn_expressions.specs.Classes.{item_count, class_tests, classes_tests, role_tests, roles_tests, concepts_of}
use Rattle.ofn_expressions.specs.Classes.{roles_of, Keeps, IsListed, AreListed, IsListedRole, AreListedRoles, Means}
use Rattle.ofn_expressions.specs.Classes.{MeanAll, MeansRole, MeanRoles}
use Rattle.ofn_expressions.specs.Names.{Prefix}
use Rattle.ofn_expressions.specs.Parts.{put_parts}
use Rattle.ofn_expressions.specs.declared.refusal.Refusal.{Refusal}
use Rattle.ofn_expressions.proofs.Walks.{goes_on, stops}
use Rattle.ofn_expressions.proofs.Kept.{keeps_keeps, walked_keeps}

pub item_count_is : (is : List Item) → item_count (items_of is) ≡ length is
item_count_is [] = refl
item_count_is (i ∷ is) = omega (arith, item_count_is is)

pub nesting_at : (is : List Item) (k : ℕ) (d : Item) → k < length is
    → nesting (get_or is k d) ≤ nesting_all (items_of is)
nesting_at [] k d h = absurd (omega arith)
nesting_at (i ∷ is) zero d h = omega arith
nesting_at (i ∷ is) (suc k) d h = omega (arith, nesting_at is k d (omega arith))

put_parts-nil : (cs : List Concept) → put_parts cs no_parts ≡ parts_of cs
put_parts-nil [] = refl
put_parts-nil (c ∷ cs) = ap (part c) (put_parts-nil cs)

put_parts-push : (cs : List Concept) (c : Concept) (ps : Parts) → put_parts (cs ++ c ∷ []) ps ≡ put_parts cs (part c ps)
put_parts-push [] c ps = refl
put_parts-push (d ∷ cs) c ps = ap (part d) (put_parts-push cs c ps)

-- expressions whose names are listed, and one more
listed_push : (s : Counts) (cs : List Concept) (c : Concept) → AreListed s (parts_of cs) → IsListed s c
    → AreListed s (parts_of (cs ++ c ∷ []))
listed_push s [] c all one = rw one
listed_push s (d ∷ cs) c all one =
    let both =
    and_parts (uses_listed (length s.classes) (length s.roles) d)
    (parts_use_listed (length s.classes) (length s.roles) (parts_of cs)) all in
    rw both.0 (listed_push s cs c both.1 one)

-- the tests of items one after another, by those of each
module _ (f : Item → List Test) (all : List Item → List Test)
    (cons : (i : Item) (is : List Item) → all (i ∷ is) ≡ f i ++ all is) (items : List Item) (k : ℕ) where
  module _ (i : Item) (at : i ≡ get_or items k i) (inside : k < length items) where
    opened : drop k items ≡ i ∷ drop (k + 1) items
    opened = rw add-one (drop-cons items k i inside) ∙ ap (λ j. j ∷ drop (k + 1) items) (sym at)

    next : all (drop k items) ≡ f i ++ all (drop (k + 1) items)
    next = ap all opened ∙ cons i (drop (k + 1) items)

    pub tests_step : (s mid : Counts) (told : Result Counts Refusal) → walked s (f i) ≡ Ok mid
        → told ≡ walked s (all (drop k items)) → told ≡ walked mid (all (drop (k + 1) items))
    tests_step s mid told one so_far = so_far ∙ ap (walked s) next ∙ goes_on s mid (f i) (all (drop (k + 1) items)) one

    pub tests_stop : (s : Counts) (e : Refusal) (told : Result Counts Refusal) → walked s (f i) ≡ Err e
        → told ≡ walked s (all (drop k items)) → told ≡ Err e
    tests_stop s e told one so_far = so_far ∙ ap (walked s) next ∙ stops s (f i) (all (drop (k + 1) items)) e one

pub classes_cons : (ps : List Prefix) (i : Item) (is : List Item)
    → classes_tests ps (i ∷ is) ≡ class_tests ps i ++ classes_tests ps is
classes_cons ps i is = refl

abbrev pub all_roles_tests : List Prefix → List Item → List Test
all_roles_tests ps is = roles_tests ps (items_of is)

pub roles_cons : (ps : List Prefix) (i : Item) (is : List Item)
    → all_roles_tests ps (i ∷ is) ≡ role_tests ps i ++ all_roles_tests ps is
roles_cons ps i is = refl

-- what the expressions so far and the items from the place k on stand for
abbrev pub MeanFrom : List Prefix → Counts → List Item → ℕ → List Concept → Type 0
MeanFrom ps s items k cs = (later : Counts) → Keeps s later
    → (put_parts cs (concepts_of ps later (items_of (drop k items))) ≡ concepts_of ps later (items_of items))
    × AreListed later (parts_of cs)

-- the same of roles
abbrev pub RolesFrom : List Prefix → Counts → List Item → ℕ → List ℕ → Type 0
RolesFrom ps s items k rs = (later : Counts) → Keeps s later
    → (rs ++ roles_of ps later (items_of (drop k items)) ≡ roles_of ps later (items_of items)) × AreListedRoles later rs

roles_push : (s : Counts) (rs : List ℕ) (r : ℕ) → AreListedRoles s rs → IsListedRole s r
    → AreListedRoles s (rs ++ r ∷ [])
roles_push s [] r all one = rw one
roles_push s (q ∷ rs) r all one =
    let both = and_parts (nat_lt q (length s.roles)) (list_all (λ x. nat_lt x (length s.roles)) rs) all in
    rw both.0 (roles_push s rs r both.1 one)

module _ (ps : List Prefix) (items : List Item) (k : ℕ) (i : Item) (at : i ≡ get_or items k i)
    (inside : k < length items) where
  cut : items_of (drop k items) ≡ items_of (i ∷ drop (k + 1) items)
  cut = ap items_of (rw add-one (drop-cons items k i inside) ∙ ap (λ j. j ∷ drop (k + 1) items) (sym at))

  pub value_step : (s mid : Counts) (c : Concept) (cs new : List Concept) → walked s (class_tests ps i) ≡ Ok mid
      → Means ps mid i c → new ≡ cs ++ c ∷ [] → MeanFrom ps s items k cs → MeanFrom ps mid items (k + 1) new
  value_step s mid c cs new one means pushed told later keeps =
      let rest : Parts = concepts_of ps later (items_of (drop (k + 1) items)) in
      let before = told later (keeps_keeps s mid later (walked_keeps s (class_tests ps i) mid one) keeps) in
      let here = means later keeps in (
        ap (λ l. put_parts l rest) pushed ∙ put_parts-push cs c rest
            ∙ ap (λ d. put_parts cs (part d rest)) (sym here.0)
            ∙ ap (λ js. put_parts cs (concepts_of ps later js)) (sym cut)
            ∙ before.0,
        subst (λ (l : List Concept). AreListed later (parts_of l)) (sym pushed)
            (listed_push later cs c before.1 here.1),
      )

  pub roles_step : (s mid : Counts) (r : ℕ) (rs new : List ℕ) → walked s (role_tests ps i) ≡ Ok mid
      → MeansRole ps mid i r → new ≡ rs ++ r ∷ [] → RolesFrom ps s items k rs → RolesFrom ps mid items (k + 1) new
  roles_step s mid r rs new one means pushed told later keeps =
      let rest : List ℕ = roles_of ps later (items_of (drop (k + 1) items)) in
      let before = told later (keeps_keeps s mid later (walked_keeps s (role_tests ps i) mid one) keeps) in
      let here = means later keeps in (
        ap (λ l. l ++ rest) pushed ∙ append_assoc rs (r ∷ []) rest
            ∙ ap (λ q. rs ++ q ∷ rest) (sym here.0)
            ∙ ap (λ js. rs ++ roles_of ps later js) (sym cut)
            ∙ before.0,
        subst (AreListedRoles later) (sym pushed) (roles_push later rs r before.1 here.1),
      )

pub value_done : (ps : List Prefix) (items : List Item) (k : ℕ) → length items ≤ k → (s : Counts) (cs : List Concept)
    → MeanFrom ps s items k cs → MeanAll ps s (items_of items) (parts_of cs)
value_done ps items k past s cs told later keeps =
    let t = told later keeps in (
      sym t.0 ∙ ap (λ (l : List Item). put_parts cs (concepts_of ps later (items_of l))) (drop_all k items past)
          ∙ put_parts-nil cs,
      t.1,
    )

pub roles_done : (ps : List Prefix) (items : List Item) (k : ℕ) → length items ≤ k → (s : Counts) (rs : List ℕ)
    → RolesFrom ps s items k rs → MeanRoles ps s (items_of items) rs
roles_done ps items k past s rs told later keeps =
    let t = told later keeps in (
      sym t.0 ∙ ap (λ (l : List Item). rs ++ roles_of ps later (items_of l)) (drop_all k items past) ∙ append-nil rs,
      t.1,
    )
