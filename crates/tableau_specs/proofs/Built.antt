-- Trails each of whose items rests on what stands before it.
use Rattle.std.proofs.Common.{◌≡◌, ℕ, ◌<◌, ◌⊎◌, ◌≤◌, List, [], ◌∷◌, ◌++◌, length, take, get_or, refl, ap, sym, subst}
use Rattle.std.proofs.Common.{arith, inl, inr, length-append}
use Rattle.std.proofs.lemmas.List.{get_or_append_left, get_or_push, take-append-le, take_at, take-take, get_or-take}
use Rattle.std.proofs.lemmas.List.{length-take-le}
use Rattle.std.proofs.lemmas.Bool.{cases_lt}
use Rattle.calculus_specs.specs.declared.facts.Fact.{Fact}
use Rattle.calculus_specs.specs.declared.facts.Fact.TheVariants.{Has, Edge, Apart, Same}
use Rattle.calculus_specs.specs.State.{node_count_from}
use Rattle.calculus_specs.proofs.Joined.{by_last}
use Rattle.tableau_specs.specs.declared.Branch.{Branch}
use Rattle.tableau_specs.specs.declared.Branch.TheVariants.{Or, Choose, Pair}
use Rattle.tableau_specs.specs.declared.Choice.{Choice}
use Rattle.tableau_specs.specs.declared.Item.{Item}
use Rattle.tableau_specs.specs.declared.Item.TheVariants.{Fact as Says, Mark}
use Rattle.tableau_specs.specs.Items.{facts_of}
use Rattle.tableau_specs.specs.StepLaws.{AreSiblings}
use Rattle.calculus_specs.specs.Joins.{rep}

-- ---- the facts of longer trails

pub facts_of-snoc : (is : List Item) (f : Fact ℕ) → facts_of (is ++ Says f ∷ []) ≡ facts_of is ++ f ∷ []
facts_of-snoc [] f = refl
facts_of-snoc (Says g ∷ is) f = ap (λ (fs : List (Fact ℕ)). g ∷ fs) (facts_of-snoc is f)
facts_of-snoc (Mark c ∷ is) f = facts_of-snoc is f

pub facts_of-mark : (is : List Item) (c : Choice) → facts_of (is ++ Mark c ∷ []) ≡ facts_of is
facts_of-mark [] c = refl
facts_of-mark (Says g ∷ is) c = ap (λ (fs : List (Fact ℕ)). g ∷ fs) (facts_of-mark is c)
facts_of-mark (Mark d ∷ is) c = facts_of-mark is c

-- there are `first` first nodes, and facts with G are given
module _ (first : ℕ) (G : Fact ℕ → Type 0) where
  -- ---- what an item rests on

  abbrev pub SupportsBranch : List (Fact ℕ) → Branch → Type 0
  SupportsBranch fs (Or x c) = x < node_count_from first fs
  SupportsBranch fs (Choose y e) = y < node_count_from first fs
  SupportsBranch fs (Pair y z) = AreSiblings fs y z

  abbrev pub Supports : List (Fact ℕ) → Item → Type 0
  Supports fs (Says (Has x c)) = x < node_count_from first fs
  Supports fs (Says (Edge r x y)) = (x < node_count_from first fs) × ((y ≡ node_count_from first fs) ⊎ G (Edge r x y))
  Supports fs (Says (Apart y z)) = (y < node_count_from first fs) × (z < node_count_from first fs)
      × (¬ (rep fs y ≡ rep fs z) ⊎ G (Apart y z))
  Supports fs (Says (Same y z)) = AreSiblings fs y z ⊎ G (Same y z)
  Supports fs (Mark c) = SupportsBranch fs c.branch

  abbrev pub IsBuilt : List Item → Type 0
  IsBuilt is = (place : ℕ) (d : Item) → place < length is → Supports (facts_of (take place is)) (get_or is place d)

  pub built_none : IsBuilt []
  built_none place d lt = absurd (omega arith)

  pub built_push : (is : List Item) (i : Item) → IsBuilt is → Supports (facts_of is) i → IsBuilt (is ++ i ∷ [])
  built_push is i h here place d lt =
      elim (cases_lt place (length is)) [
        | inl low ↦
            rw (get_or_append_left is (i ∷ []) d place low, take-append-le place is (i ∷ []) (omega arith))
            (h place d low)
        | inr high ↦
            let e : length is ≡ place = omega (arith, length-append is (i ∷ [])) in
            rw (get_or_push is i d place e, take_at is (i ∷ []) place e) here
      ]

  pub built_take : (is : List Item) (n : ℕ) → IsBuilt is → n ≤ length is → IsBuilt (take n is)
  built_take is n h le place d lt =
      let lt' : place < n = omega (arith, length-take-le n is le) in
      rw (take-take place n is (omega arith), get_or-take n is place d lt') (h place d (omega arith))

  -- the last item
  pub built_last : (is : List Item) (i : Item) → IsBuilt (is ++ i ∷ []) → Supports (facts_of is) i
  built_last is i h =
      let at = h (length is) i (omega (arith, length-append is (i ∷ []))) in
      rw (get_or_push is i i (length is) refl, take_at is (i ∷ []) (length is) refl) at at

  pub built_front : (is : List Item) (i : Item) → IsBuilt (is ++ i ∷ []) → IsBuilt is
  built_front is i h =
      subst IsBuilt (take_at is (i ∷ []) (length is) refl)
      (built_take (is ++ i ∷ []) (length is) h (omega (arith, length-append is (i ∷ []))))

  one_more : (P : List (Fact ℕ) → Type 0)
      → ((fs : List (Fact ℕ)) (f : Fact ℕ) → Supports fs (Says f) → P fs → P (fs ++ f ∷ []))
      → (is : List Item) (i : Item) → (IsBuilt is → P (facts_of is)) → IsBuilt (is ++ i ∷ [])
      → P (facts_of (is ++ i ∷ []))
  one_more P step is (Says f) ih h =
      subst P (sym (facts_of-snoc is f))
      (step (facts_of is) f (built_last is (Says f) h) (ih (built_front is (Says f) h)))
  one_more P step is (Mark c) ih h = subst P (sym (facts_of-mark is c)) (ih (built_front is (Mark c) h))

  -- what holds of no facts, and of one fact more that rests on those before it, holds of a built trail
  pub built_facts : (P : List (Fact ℕ) → Type 0) → P []
      → ((fs : List (Fact ℕ)) (f : Fact ℕ) → Supports fs (Says f) → P fs → P (fs ++ f ∷ []))
      → (is : List Item) → IsBuilt is → P (facts_of is)
  built_facts P base step = by_last (λ (is : List Item). IsBuilt is → P (facts_of is)) (λ h. base) (one_more P step)
