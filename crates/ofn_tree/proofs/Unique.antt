-- Items that are made of the same marks are equal.
use Rattle.std.proofs.Common.{◌≡◌, List, [], ◌∷◌, ◌++◌, refl, ap, sym, ◌∙◌, append_assoc}
use Rattle.ofn_tree.specs.Token.{PlainToken}
use Rattle.ofn_tree.specs.Items.{Item, name_item, iri_item, literal_item, sign_item, group_item, Items, no_items, item}
use Rattle.ofn_tree.specs.Items.{items_of, Mark, closing, written, written_all, IsTree}

-- no item begins with a closing bracket
closes_no_item : (i : Item) (r s : List Mark) → closing ∷ s ≡ written i ++ r → ⊥
closes_no_item (name_item w l) r s e = cc
closes_no_item (iri_item w l) r s e = cc
closes_no_item (literal_item l) r s e = cc
closes_no_item (sign_item k l) r s e = cc
closes_no_item (group_item h is l) r s e = cc

mutual
  same_item : (i j : Item) (r s : List Mark) → written i ++ r ≡ written j ++ s → (i ≡ j) × (r ≡ s)
  same_item (name_item w l) (name_item v m) r s e = (cc, cc)
  same_item (name_item w l) (iri_item v m) r s e = cc
  same_item (name_item w l) (literal_item m) r s e = cc
  same_item (name_item w l) (sign_item k m) r s e = cc
  same_item (name_item w l) (group_item h js m) r s e = cc
  same_item (iri_item w l) (name_item v m) r s e = cc
  same_item (iri_item w l) (iri_item v m) r s e = (cc, cc)
  same_item (iri_item w l) (literal_item m) r s e = cc
  same_item (iri_item w l) (sign_item k m) r s e = cc
  same_item (iri_item w l) (group_item h js m) r s e = cc
  same_item (literal_item l) (name_item v m) r s e = cc
  same_item (literal_item l) (iri_item v m) r s e = cc
  same_item (literal_item l) (literal_item m) r s e = (cc, cc)
  same_item (literal_item l) (sign_item k m) r s e = cc
  same_item (literal_item l) (group_item h js m) r s e = cc
  same_item (sign_item k l) (name_item v m) r s e = cc
  same_item (sign_item k l) (iri_item v m) r s e = cc
  same_item (sign_item k l) (literal_item m) r s e = cc
  same_item (sign_item k l) (sign_item j m) r s e = (cc, cc)
  same_item (sign_item k l) (group_item h js m) r s e = cc
  same_item (group_item h is l) (name_item v m) r s e = cc
  same_item (group_item h is l) (iri_item v m) r s e = cc
  same_item (group_item h is l) (literal_item m) r s e = cc
  same_item (group_item h is l) (sign_item k m) r s e = cc
  same_item (group_item h is l) (group_item g js m) r s e =
      let behind : (written_all is ++ closing ∷ []) ++ r ≡ (written_all js ++ closing ∷ []) ++ s = cc in
      let inside : written_all is ++ closing ∷ r ≡ written_all js ++ closing ∷ s =
      sym (append_assoc (written_all is) (closing ∷ []) r) ∙ behind ∙ append_assoc (written_all js) (closing ∷ []) s in
      let both = same_items is js r s inside in
      (cc (both.0), both.1)

  same_items : (is js : Items) (r s : List Mark) → written_all is ++ closing ∷ r ≡ written_all js ++ closing ∷ s
      → (is ≡ js) × (r ≡ s)
  same_items no_items no_items r s e = (refl, cc)
  same_items no_items (item j js) r s e =
      absurd
      (closes_no_item j (written_all js ++ closing ∷ s) r (e ∙ append_assoc (written j) (written_all js) (closing ∷ s)))
  same_items (item i is) no_items r s e =
      absurd (closes_no_item i (written_all is ++ closing ∷ r) s
      (sym e ∙ append_assoc (written i) (written_all is) (closing ∷ r)))
  same_items (item i is) (item j js) r s e =
      let opened : written i ++ (written_all is ++ closing ∷ r) ≡ written j ++ (written_all js ++ closing ∷ s) =
      sym (append_assoc (written i) (written_all is) (closing ∷ r)) ∙ e
      ∙ append_assoc (written j) (written_all js) (closing ∷ s) in
      let first = same_item i j _ _ opened in
      let rest = same_items is js r s first.1 in
      (cc (first.0, rest.0), rest.1)

list_of : Items → List Item
list_of no_items = []
list_of (item i is) = i ∷ list_of is

list_of-items : (is : List Item) → list_of (items_of is) ≡ is
unfolding list_of
list_of-items [] = refl
list_of-items (i ∷ is) = ap (λ js. i ∷ js) (list_of-items is)

pub unique : (ts : List PlainToken) (is js : List Item) → IsTree ts is → IsTree ts js → is ≡ js
unique ts is js p q =
    let closed : written_all (items_of is) ++ closing ∷ [] ≡ written_all (items_of js) ++ closing ∷ [] =
    ap (λ (l : List Mark). l ++ closing ∷ []) (p.made ∙ sym q.made) in
    sym (list_of-items is) ∙ ap list_of ((same_items (items_of is) (items_of js) [] [] closed).0) ∙ list_of-items js
