-- One, two or three items, as the kind of an axiom asks.
use Rattle.std.proofs.Common.{◌≡◌, ℕ, List, [], ◌∷◌, true, false, length, get_or, drop, ap, sym, ◌∙◌, subst, arith}
use Rattle.std.proofs.lemmas.Bool.{eqb-true}
use Rattle.std.specs.Prelude.{nat_eq, nat_le}
use Rattle.ofn_tree.specs.Items.{Item}
use Rattle.ofn_reader.specs.Axioms.{axiom_fits}
use Rattle.ofn_reader.specs.declared.keywords.AxiomKeyword.{AxiomKeyword}
use Rattle.ofn_reader.specs.declared.keywords.AxiomKind.{AxiomKind}

two : (items : List Item) (x y : Item) → x ≡ get_or items 0 x → y ≡ get_or items 1 y → nat_eq (length items) 2 ≡ true
    → x ∷ y ∷ [] ≡ items
two [] x y at_x at_y count = let clash : false ≡ true = count in absurd (cc clash)
two (i ∷ []) x y at_x at_y count = let clash : false ≡ true = count in absurd (cc clash)
two (i ∷ (j ∷ [])) x y at_x at_y count = λ k. at_x k ∷ at_y k ∷ []
two (i ∷ (j ∷ (h ∷ rest))) x y at_x at_y count =
    let n : length (i ∷ (j ∷ (h ∷ rest))) ≡ 2 = eqb-true (length (i ∷ (j ∷ (h ∷ rest)))) 2 count in
    absurd (omega (arith, n))

one : (items : List Item) (x : Item) → x ≡ get_or items 0 x → nat_eq (length items) 1 ≡ true → x ∷ [] ≡ items
one [] x at_x count = let clash : false ≡ true = count in absurd (cc clash)
one (i ∷ []) x at_x count = λ k. at_x k ∷ []
one (i ∷ (j ∷ rest)) x at_x count =
    let n : length (i ∷ (j ∷ rest)) ≡ 1 = eqb-true (length (i ∷ (j ∷ rest))) 1 count in absurd (omega (arith, n))

three : (items : List Item) (x y z : Item) → x ≡ get_or items 0 x → y ≡ get_or items 1 y → z ≡ get_or items 2 z
    → nat_eq (length items) 3 ≡ true → x ∷ y ∷ z ∷ [] ≡ items
three [] x y z at_x at_y at_z count = let clash : false ≡ true = count in absurd (cc clash)
three (i ∷ []) x y z at_x at_y at_z count = let clash : false ≡ true = count in absurd (cc clash)
three (i ∷ (j ∷ [])) x y z at_x at_y at_z count = let clash : false ≡ true = count in absurd (cc clash)
three (i ∷ (j ∷ (h ∷ []))) x y z at_x at_y at_z count = λ k. at_x k ∷ at_y k ∷ at_z k ∷ []
three (i ∷ (j ∷ (h ∷ (g ∷ rest)))) x y z at_x at_y at_z count =
    let n : length (i ∷ (j ∷ (h ∷ (g ∷ rest)))) ≡ 3 = eqb-true (length (i ∷ (j ∷ (h ∷ (g ∷ rest))))) 3 count in
    absurd (omega (arith, n))

some : (items rest : List Item) (x : Item) → x ≡ get_or items 0 x → rest ≡ drop 1 items → nat_le 3 (length items) ≡ true
    → x ∷ rest ≡ items
some [] rest x at_x behind count = let clash : false ≡ true = count in absurd (cc clash)
some (i ∷ is) rest x at_x behind count = λ k. at_x k ∷ behind k

-- the same of two items that a query has
pub two_asked : (P : AxiomKeyword → List Item → Type 0) (k l : AxiomKeyword) (items : List Item) (x y : Item) → k ≡ l
    → x ≡ get_or items 0 x → y ≡ get_or items 1 y → length items ≡ 2 → P l (x ∷ y ∷ []) → P k items
two_asked P k l items x y is at_x at_y count told =
    subst (λ m. P m items) (sym is) (subst (P l) (two items x y at_x at_y (ap (λ n. nat_eq n 2) count)) told)

module _ (P : AxiomKind → List Item → Type 0) (k l : AxiomKind) (items : List Item) (is : k ≡ l)
    (fits : axiom_fits k (length items) ≡ true) where
  fits_as : axiom_fits l (length items) ≡ true
  fits_as = sym (ap (λ m. axiom_fits m (length items)) is) ∙ fits

  pub two_items : (x y : Item) → x ≡ get_or items 0 x → y ≡ get_or items 1 y → ((n : ℕ) → axiom_fits l n ≡ nat_eq n 2)
      → P l (x ∷ y ∷ []) → P k items
  two_items x y at_x at_y asks told =
      subst (λ m. P m items) (sym is) (subst (P l) (two items x y at_x at_y (sym (asks (length items)) ∙ fits_as)) told)

  pub three_items : (x y z : Item) → x ≡ get_or items 0 x → y ≡ get_or items 1 y → z ≡ get_or items 2 z
      → ((n : ℕ) → axiom_fits l n ≡ nat_eq n 3) → P l (x ∷ y ∷ z ∷ []) → P k items
  three_items x y z at_x at_y at_z asks told =
      subst (λ m. P m items) (sym is)
      (subst (P l) (three items x y z at_x at_y at_z (sym (asks (length items)) ∙ fits_as)) told)

  pub one_item : (x : Item) → x ≡ get_or items 0 x → ((n : ℕ) → axiom_fits l n ≡ nat_eq n 1) → P l (x ∷ []) → P k items
  one_item x at_x asks told =
      subst (λ m. P m items) (sym is) (subst (P l) (one items x at_x (sym (asks (length items)) ∙ fits_as)) told)

  pub some_items : (x : Item) (rest : List Item) → x ≡ get_or items 0 x → rest ≡ drop 1 items
      → ((n : ℕ) → axiom_fits l n ≡ nat_le 3 n) → P l (x ∷ rest) → P k items
  some_items x rest at_x behind asks told =
      subst (λ m. P m items) (sym is)
      (subst (P l) (some items rest x at_x behind (sym (asks (length items)) ∙ fits_as)) told)
