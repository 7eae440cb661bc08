-- Facts that make no node.
use Rattle.std.proofs.Common.{◌≡◌, ℕ, ◌<◌, ◌≤◌, ltb, eqb, cond, Bool, true, List, [], ◌∷◌, ◌++◌, Some, None}
use Rattle.std.proofs.Common.{refl, ap, ◌∙◌, sym, arith, inl, inr}
use Rattle.std.proofs.lemmas.Bool.{cases_Bool, and_parts, ltb-true, ne_eqb}
use Rattle.calculus_specs.specs.Shape.{Shape}
use Rattle.calculus_specs.specs.declared.facts.Fact.{Fact}
use Rattle.calculus_specs.specs.declared.facts.Fact.TheVariants.{Has, Edge, Apart, Same}
use Rattle.calculus_specs.specs.State.{node_count_from, first_origin, speaks_below}
use Rattle.tableau_specs.specs.declared.Branch.{Branch}
use Rattle.tableau_specs.specs.Steps.{SearchContext, IsGiven, IsAlternative}
use Rattle.tableau_specs.specs.Steps.IsAlternative.{of_union, of_filler, of_complement, of_joining, of_parting}
use Rattle.tableau_specs.proofs.GenerateLines.{count-append}
use Rattle.tableau_specs.proofs.Legal.{given_on_first}
use Rattle.tableau_specs.proofs.TreeShaped.{none_or_some, first_le, count-edge}
use Rattle.search_laws.proofs.Counts.{count_front}

-- an edge makes none where it leads to a first node
abbrev pub IsPlain : ℕ → Fact ℕ → Type 0
IsPlain first (Edge r x y) = y < first
IsPlain first (Has x c) = Unit {0}
IsPlain first (Apart x y) = Unit {0}
IsPlain first (Same x y) = Unit {0}

pub plain_count : (first : ℕ) (fs : List (Fact ℕ)) (f : Fact ℕ) → IsPlain first f
    → node_count_from first (fs ++ f ∷ []) ≡ node_count_from first fs
plain_count first fs (Has x c) h = omega (arith, count-append first fs (Has x c ∷ []), count_front first [] fs)
plain_count first fs (Apart x y) h = omega (arith, count-append first fs (Apart x y ∷ []), count_front first [] fs)
plain_count first fs (Same x y) h = omega (arith, count-append first fs (Same x y ∷ []), count_front first [] fs)
plain_count first fs (Edge r x y) h = omega (arith, h, count-edge first fs r x y, first_le first fs)

pub alternative_plain : (first : ℕ) (table : List Shape) (b : Branch) (k : ℕ) (f : Fact ℕ) → IsAlternative table b k f
    → IsPlain first f
alternative_plain first table b k f (of_union x c k' d parts sh read) = tt
alternative_plain first table b k f (of_filler y e) = tt
alternative_plain first table b k f (of_complement y e d neg) = tt
alternative_plain first table b k f (of_joining y z) = tt
alternative_plain first table b k f (of_parting y z) = tt

-- a given fact speaks of first nodes alone
pub given_plain : (w : SearchContext) (f : Fact ℕ) → IsGiven w f → IsPlain w.first f
given_plain w f g = low f (given_on_first w f g)
  where
    low : (f : Fact ℕ) → speaks_below w.first f ≡ true → IsPlain w.first f
    low (Has x c) h = tt
    low (Apart x y) h = tt
    low (Same x y) h = tt
    low (Edge r x y) h = ltb-true y w.first (and_parts (ltb x w.first) (ltb y w.first) h).1

-- ---- where edges begin

pub origin-append : (fs gs : List (Fact ℕ)) (z : ℕ) → first_origin fs z ≡ None
    → first_origin (fs ++ gs) z ≡ first_origin gs z
origin-append [] gs z h = refl
origin-append (Has x c ∷ fs) gs z h = origin-append fs gs z h
origin-append (Apart x y ∷ fs) gs z h = origin-append fs gs z h
origin-append (Same x y ∷ fs) gs z h = origin-append fs gs z h
origin-append (Edge r x y ∷ fs) gs z h = elim (cases_Bool (eqb y z)) [
  | inl hit ↦ (let k : Some x ≡ None = rw hit at h in cc)
  | inr miss ↦ rw miss (origin-append fs gs z (rw miss at h))
]

pub origin_keeps : (fs gs : List (Fact ℕ)) (z p : ℕ) → first_origin fs z ≡ Some p → first_origin (fs ++ gs) z ≡ Some p
origin_keeps [] gs z p h = cc
origin_keeps (Has x c ∷ fs) gs z p h = origin_keeps fs gs z p h
origin_keeps (Apart x y ∷ fs) gs z p h = origin_keeps fs gs z p h
origin_keeps (Same x y ∷ fs) gs z p h = origin_keeps fs gs z p h
origin_keeps (Edge r x y ∷ fs) gs z p h = elim (cases_Bool (eqb y z)) [
  | inl hit ↦ rw hit (rw hit at h)
  | inr miss ↦ rw miss (origin_keeps fs gs z p (rw miss at h))
]

-- a node that is no first one has the parent that it had
pub plain_origin : (first : ℕ) (fs : List (Fact ℕ)) (f : Fact ℕ) → IsPlain first f → (z : ℕ) → first ≤ z
    → first_origin (fs ++ f ∷ []) z ≡ first_origin fs z
plain_origin first fs f p z from = none_or_some (first_origin fs z) (first_origin (fs ++ f ∷ []) z ≡ first_origin fs z)
    (λ q e. origin_keeps fs (f ∷ []) z q e ∙ sym e)
    (λ e. origin-append fs (f ∷ []) z e ∙ no_edge f p ∙ sym e)
  where
    no_edge : (g : Fact ℕ) → IsPlain first g → first_origin (g ∷ []) z ≡ None
    no_edge (Has x c) h = refl
    no_edge (Apart x y) h = refl
    no_edge (Same x y) h = refl
    no_edge (Edge r x y) h =
        ap (λ (b : Bool). cond b (Some x) None) (ne_eqb y z (λ e. absurd (omega (arith, e, h, from))))
