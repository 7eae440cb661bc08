-- Links that lead from representatives to lesser ones: the walk from a node along its own links ends where all links
-- lead it.
use Rattle.std.proofs.Common.{◌≡◌, ℕ, min, max, ◌<◌, ◌≤◌, Bool, true, false, cond, List, [], ◌∷◌, ◌++◌, length, take}
use Rattle.std.proofs.Common.{get_or, refl, ap, sym, subst, ◌∙◌, inl, inr, Option, Some, None, arith, length-append}
use Rattle.std.proofs.Common.{take-take}
use Rattle.std.specs.Prelude.{◌==◌, nat_eq}
use Rattle.std.specs.Map.{lookup}
use Rattle.std.proofs.lemmas.List.{take-append-le, get_or-take, length-take}
use Rattle.std.proofs.Math.Seq.{take-append_seam, get_or-append_seam}
use Rattle.std.proofs.Math.ListN.{get_or-append}
use Rattle.std.proofs.lemmas.Bool.{cases_eq, cases_lt, eq-eqb, ne_eqb}
use Rattle.indexmap.specs.IndexMap.{IndexMap, insert_entry}
use Rattle.indexmap.proofs.CallerLemmas.{insert_entry-new}
use Rattle.calculus_specs.proofs.Joined.{by_last}
use Rattle.branch_facts.specs.Seen.{renamed, through, IsLink, AreLinks}
use Rattle.branch_facts.proofs.Reps.{through-snoc, when_equal, unless_equal}

-- ---- none, the first ones, and one more

is_link_again : {ls ks : List (ℕ × ℕ)} {l k : ℕ × ℕ} → ls ≡ ks → l ≡ k → IsLink ks k → IsLink ls l
is_link_again {ls} {ks} {l} {k} lists links is =
    subst (λ us. IsLink us l) (sym lists) (subst (IsLink ks) (sym links) is)

pub no_links : AreLinks []
no_links = record { each = λ p d lt. absurd (omega arith) }

pub first_links : (m : ℕ) (ls : List (ℕ × ℕ)) → AreLinks ls → AreLinks (take m ls)
first_links m ls are = record {
  each = λ p d lt.
      let within : p < m = omega (arith, lt, length-take m ls) in
      is_link_again (take-take p m ls (omega (arith, within))) (get_or-take m ls p d within)
      (are.each p d (omega (arith, lt, length-take m ls)));
}

pub one_more_link : (ls : List (ℕ × ℕ)) (l : ℕ × ℕ) → AreLinks ls → IsLink ls l → AreLinks (ls ++ l ∷ [])
one_more_link ls l are is = record {
  each = λ p d lt. elim (cases_lt p (length ls)) [
    | inl before ↦
        is_link_again (take-append-le p ls (l ∷ []) (omega (arith, before))) (get_or-append ls (l ∷ []) d p before)
        (are.each p d before)
    | inr last ↦
        let at : p ≡ length ls = omega (arith, lt, last, length-append ls (l ∷ [])) in
        is_link_again (ap (λ n. take n (ls ++ l ∷ [])) at ∙ take-append_seam ls (l ∷ []))
        (ap (λ n. get_or (ls ++ l ∷ []) n d) at ∙ get_or-append_seam ls l [] d) is
  ];
}

-- links with a last one are such links before it, and it is one after these
all_but_last : (ls : List (ℕ × ℕ)) (l : ℕ × ℕ) → AreLinks (ls ++ l ∷ []) → AreLinks ls
all_but_last ls l are = subst AreLinks (take-append_seam ls (l ∷ [])) (first_links (length ls) (ls ++ l ∷ []) are)

last_is_link : (ls : List (ℕ × ℕ)) (l : ℕ × ℕ) → AreLinks (ls ++ l ∷ []) → IsLink ls l
last_is_link ls l are =
    is_link_again (sym (take-append_seam ls (l ∷ []))) (sym (get_or-append_seam ls l [] l))
    (are.each (length ls) l (omega (arith, length-append ls (l ∷ []))))

-- ---- one step of the walk

renamed_high : (high low : ℕ) → renamed high low high ≡ low
renamed_high high low = when_equal high high low high refl

renamed_low : (high low : ℕ) → renamed high low low ≡ low
renamed_low high low = elim (cases_eq low high) [
  | inl same ↦ when_equal low high low low same
  | inr differ ↦ unless_equal low high low low differ
]

renamed_other : (high low x : ℕ) → (x ≡ high → ⊥) → renamed high low x ≡ x
renamed_other high low x differ = unless_equal x high low x differ

-- the link of a node leads to a lesser one, from which all links lead to the same; where it has none, they leave it as
-- it is
abbrev pub IsStep : List (ℕ × ℕ) → ℕ → Option ℕ → Type 0
IsStep ls x None = through ls x ≡ x
IsStep ls x (Some y) = (y < x) × (through ls y ≡ through ls x)

-- the link of a node among links and one more
abbrev or_last : Option ℕ → ℕ → ℕ → ℕ → Option ℕ
or_last None high low x = cond (x == high) (Some low) None
or_last (Some y) high low x = Some y

lookup-snoc : (ls : List (ℕ × ℕ)) (high low x : ℕ)
    → lookup (λ y. x == y) (ls ++ (high, low) ∷ []) ≡ or_last (lookup (λ y. x == y) ls) high low x
lookup-snoc [] high low x = refl
lookup-snoc (l ∷ ls) high low x =
    by (x == l.0) (lookup (λ y. x == y) (ls ++ (high, low) ∷ [])) (lookup (λ y. x == y) ls) (lookup-snoc ls high low x)
  where
    by : (b : Bool) (o p : Option ℕ) → o ≡ or_last p high low x
        → cond b (Some l.1) o ≡ or_last (cond b (Some l.1) p) high low x
    by true o p e = refl
    by false o p e = e

step_more : (ls : List (ℕ × ℕ)) (high low x : ℕ) → IsLink ls (high, low) → (o : Option ℕ) → IsStep ls x o
    → IsStep (ls ++ (high, low) ∷ []) x (or_last o high low x)
step_more ls high low x is (Some y) (falls, same) =
    (falls, through-snoc ls high low y ∙ ap (renamed high low) same ∙ sym (through-snoc ls high low x))
step_more ls high low x is None stays = elim (cases_eq x high) [
  | inl same ↦
      let ends = through-snoc ls high low x ∙ ap (renamed high low) (stays ∙ same) ∙ renamed_high high low in
      let again = through-snoc ls high low low ∙ ap (renamed high low) is.to_representative ∙ renamed_low high low in
      let found : cond (x == high) (Some low) None ≡ Some low = ap (λ b. cond b (Some low) None) (eq-eqb x high same) in
      subst (IsStep (ls ++ (high, low) ∷ []) x) (sym found) (omega (arith, is.falls, same), again ∙ sym ends)
  | inr differ ↦
      let none : cond (x == high) (Some low) None ≡ None = ap (λ b. cond b (Some low) None) (ne_eqb x high differ) in
      subst (IsStep (ls ++ (high, low) ∷ []) x) (sym none)
      (through-snoc ls high low x ∙ ap (renamed high low) stays ∙ renamed_other high low x differ)
]

pub step : (ls : List (ℕ × ℕ)) → AreLinks ls → (x : ℕ) → IsStep ls x (lookup (λ y. x == y) ls)
step = by_last {X = ℕ × ℕ} (λ ls. AreLinks ls → (x : ℕ) → IsStep ls x (lookup (λ y. x == y) ls)) (λ are x. refl)
    (λ ls l ih are x. subst (IsStep (ls ++ l ∷ []) x) (sym (lookup-snoc ls l.0 l.1 x))
    (step_more ls l.0 l.1 x (last_is_link ls l are) (lookup (λ y. x == y) ls) (ih (all_but_last ls l are) x)))

-- ---- where links lead

through-le : (ls : List (ℕ × ℕ)) → AreLinks ls → (x : ℕ) → through ls x ≤ x
through-le = by_last {X = ℕ × ℕ} (λ ls. AreLinks ls → (x : ℕ) → through ls x ≤ x) (λ are x. omega arith)
    (λ ls l ih are x.
    let before = ih (all_but_last ls l are) x in
    let falls = (last_is_link ls l are).falls in
    elim (cases_eq (through ls x) l.0) [
      | inl same ↦
          let ends = through-snoc ls l.0 l.1 x ∙ ap (renamed l.0 l.1) same ∙ renamed_high l.0 l.1 in
          omega (arith, before, falls, same, ends)
      | inr differ ↦
          let ends = through-snoc ls l.0 l.1 x ∙ renamed_other l.0 l.1 (through ls x) differ in
          omega (arith, before, ends)
    ])

-- a representative has no link
pub no_link : (ls : List (ℕ × ℕ)) → AreLinks ls → (x : ℕ) → through ls x ≡ x → lookup (λ y. x == y) ls ≡ None
no_link ls are x stays = by (lookup (λ y. x == y) ls) (step ls are x)
  where
    by : (o : Option ℕ) → IsStep ls x o → o ≡ None
    by None s = refl
    by (Some y) (falls, same) = absurd (omega (arith, falls, same, stays, through-le ls are y))

-- the greater and the lesser of two nodes that the links leave as they are
pub greater_is : (ls : List (ℕ × ℕ)) (x y : ℕ) → through ls x ≡ x → through ls y ≡ y → through ls (max x y) ≡ max x y
greater_is ls x y at_x at_y = elim (cases_lt x y) [
  | inl less ↦ let is : max x y ≡ y = omega (arith, less) in ap (through ls) is ∙ at_y ∙ sym is
  | inr most ↦ let is : max x y ≡ x = omega (arith, most) in ap (through ls) is ∙ at_x ∙ sym is
]

pub lesser_is : (ls : List (ℕ × ℕ)) (x y : ℕ) → through ls x ≡ x → through ls y ≡ y → through ls (min x y) ≡ min x y
lesser_is ls x y at_x at_y = elim (cases_lt x y) [
  | inl less ↦ let is : min x y ≡ x = omega (arith, less) in ap (through ls) is ∙ at_x ∙ sym is
  | inr most ↦ let is : min x y ≡ y = omega (arith, most) in ap (through ls) is ∙ at_y ∙ sym is
]

-- what a map of links has after one more is inserted
pub adds_link : {S : Type 0} (links : IndexMap ℕ ℕ S) (high low : ℕ) → AreLinks links.entries
    → through links.entries high ≡ high
    → insert_entry nat_eq links.entries high low ≡ links.entries ++ (high, low) ∷ []
adds_link links high low are stays = insert_entry-new nat_eq links high low (no_link links.entries are high stays)
