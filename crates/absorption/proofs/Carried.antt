-- What is needed stays while the table grows.
use Rattle.std.proofs.Common.{◌≡◌, ℕ, ◌+◌, ◌<◌, Bool, true, ltb, List, ◌++◌, drop, length, refl, ap, sym, subst, ◌∙◌}
use Rattle.std.proofs.Common.{arith, inl, inr}
use Rattle.std.proofs.lemmas.Bool.{cases_lt, ltb-true}
use Rattle.std.proofs.lemmas.List.{take-append-drop, get_or_append_left}
use Rattle.calculus_specs.specs.Normal.{negated_form}
use Rattle.calculus_specs.specs.Shape.{Shape, shape_of, has_parts_below, IsTable}
use Rattle.calculus_specs.specs.Shape.Shape.{top, all_of, at_most}
use Rattle.calculus_specs.specs.Tree.{tree_of, IsComplement}
use Rattle.row_cache.specs.Numbers.{Extends, IsNumber}
use Rattle.row_cache.proofs.Numbers.{length_extends, tree_stays}
use Rattle.row_cache.specs.RoleAxiom.{RoleAxiom}
use Rattle.row_cache.specs.Steps.{is_transitive}
use Rattle.row_cache.specs.Paths.{is_below}
use Rattle.tableau_specs.proofs.Listed.{listed}
use Rattle.absorption.specs.declared.closing.Need.TheVariants.{Nothing, Complement, Carries}
use Rattle.absorption.specs.Closed.{IsClosed}
use Rattle.absorption.specs.Needed.{need_of_shape, HasAll, HasNeeded, HasTransitiveRoles, AreCarried}

-- ---- numbers keep their shapes

pub shape_stays : (a b : List Shape) → Extends a b → (c : ℕ) → c < length a → shape_of b c ≡ shape_of a c
shape_stays a b e c lt =
    let is : b ≡ a ++ drop (length a) b =
    sym (take-append-drop (length a) b) ∙ ap (λ (l : List Shape). l ++ drop (length a) b) e in
    ap (λ (t : List Shape). shape_of t c) is ∙ get_or_append_left a (drop (length a) b) top c lt

pub all_stays : (a b : List Shape) (t e : ℕ) → Extends a b → HasAll a t e → HasAll b t e
all_stays a b t e grown h = (h.0, omega (arith, h.1, length_extends a b grown), shape_stays a b grown h.0 h.1 ∙ h.2)

-- what a number of the table has as its filler is below it
filler_below : (table : List Shape) → IsTable table → (c e : ℕ) (s : Shape) → c < length table → shape_of table c ≡ s
    → has_parts_below c s ≡ ltb e c → e < c
filler_below table good c e s lt is parts =
    ltb-true e c (sym parts ∙ sym (ap (has_parts_below c) is) ∙ good.parts_below c lt)

pub most_filler : (table : List Shape) → IsTable table → (c n s e : ℕ) → c < length table
    → shape_of table c ≡ at_most n s e → e < length table
most_filler table good c n s e lt is = let less = filler_below table good c e (at_most n s e) lt is refl in omega arith

complement_stays : (a b : List Shape) (e d : ℕ) → Extends a b → e < length a → IsComplement a e d → IsComplement b e d
complement_stays a b e d grown lt h = record {
  listed = omega (arith, h.listed, length_extends a b grown);
  negates = tree_stays a b grown d h.listed ∙ h.negates ∙ ap negated_form (sym (tree_stays a b grown e lt));
}

module _ (below : ℕ → ℕ → Bool) (is_transitive : ℕ → Bool) where
  pub needed_stays : (a b : List Shape) → IsTable a → Extends a b → (c : ℕ) → c < length a
      → HasNeeded below is_transitive a c → HasNeeded below is_transitive b c
  needed_stays a b good grown c lt h =
      let same = shape_stays a b grown c lt in record {
        complements = λ n s e is.
            let before : shape_of a c ≡ at_most n s e = sym same ∙ is in
            let w = h.complements n s e before in
            (w.0, complement_stays a b e w.0 grown (most_filler a good c n s e lt before) w.1);
        carried = λ s e t is on under. all_stays a b t e grown (h.carried s e t (sym same ∙ is) on under);
      }

  -- where each number has what it needs, the table is closed
  pub all_closed : (table : List Shape) → ((c : ℕ) → c < length table → HasNeeded below is_transitive table c)
      → IsClosed below is_transitive table
  all_closed table each = record {
    complements = λ c n s e is. (each c (listed table c (λ k. cc))).complements n s e is;
    carried =
        λ c s e t is on under. (let w = (each c (listed table c (λ k. cc))).carried s e t is on under in (w.0, w.2));
  }

  -- one number more
  pub more_needed : (a b : List Shape) (next : ℕ) → IsTable a → Extends a b → next < length a
      → ((c : ℕ) → c < next → HasNeeded below is_transitive a c) → HasNeeded below is_transitive b next
      → (c : ℕ) → c < next + 1 → HasNeeded below is_transitive b c
  more_needed a b next good grown lt before here c less = elim (cases_lt c next) [
    | inl earlier ↦ needed_stays a b good grown c (omega arith) (before c earlier)
    | inr later ↦ let same : next ≡ c = omega arith in subst (λ (k : ℕ). HasNeeded below is_transitive b k) same here
  ]

  -- ---- a number that needs nothing, a complement, or what is carried

  pub nothing_needed : (table : List Shape) (c : ℕ) → Nothing ≡ need_of_shape (shape_of table c)
      → HasNeeded below is_transitive table c
  nothing_needed table c e = record {
    complements = λ n s f is. (let k = e ∙ ap need_of_shape is in cc);
    carried = λ s f t is on under. (let k = e ∙ ap need_of_shape is in cc);
  }

  pub complement_needed : (a b : List Shape) (c e d : ℕ) → Extends a b → c < length a → e < length a
      → Complement e ≡ need_of_shape (shape_of a c) → IsNumber b d (negated_form (tree_of a e))
      → HasNeeded below is_transitive b c
  complement_needed a b c e d grown lt less need is =
      let same = shape_stays a b grown c lt in record {
        complements = λ n s f shape.
            let k : Complement e ≡ Complement f = need ∙ ap need_of_shape (sym same ∙ shape) in
            let filler : e ≡ f = cc in (
              d,
              subst (λ (g : ℕ). IsComplement b g d) filler (record {
                listed = is.listed;
                negates = is.stands_for ∙ ap negated_form (sym (tree_stays a b grown e less));
              }),
            );
        carried = λ s f t shape on under. (let k = need ∙ ap need_of_shape (sym same ∙ shape) in cc);
      }

pub carried_needed : (roles : List RoleAxiom) (found : List ℕ) (a b : List Shape) (c s e : ℕ) → Extends a b
    → c < length a → Carries s e ≡ need_of_shape (shape_of a c) → HasTransitiveRoles roles found
    → AreCarried (is_below roles) b found s e
    → HasNeeded (is_below roles) (is_transitive roles) b c
carried_needed roles found a b c s e grown lt need has carried =
    let same = shape_stays a b grown c lt in record {
      complements = λ n r f shape. (let k = need ∙ ap need_of_shape (sym same ∙ shape) in cc);
      carried = λ r f t shape on under.
          let k : Carries s e ≡ Carries r f = need ∙ ap need_of_shape (sym same ∙ shape) in
          let role : s ≡ r = cc in
          let filler : e ≡ f = cc in
          elim (has.every t r on under) [
            | inl itself ↦
                (c, omega (arith, lt, length_extends a b grown), shape ∙ ap (λ (q : ℕ). all_of q f) (sym itself))
            | inr other ↦
                subst (λ (g : ℕ). HasAll b t g) filler
                (carried.each t other (subst (λ (q : ℕ). is_below roles t q ≡ true) (sym role) under))
          ];
    }

-- what a number needs by its need
pub filler_of_need : (table : List Shape) → IsTable table → (c e : ℕ) → c < length table
    → Complement e ≡ need_of_shape (shape_of table c) → e < length table
filler_of_need table good c e lt need = by (shape_of table c) refl need
  where
    by : (s : Shape) → shape_of table c ≡ s → Complement e ≡ need_of_shape s → e < length table
    by (at_most n r f) is k =
        let same : f ≡ e = cc in
        let less = filler_below table good c f (at_most n r f) lt is refl in
        omega arith
    by (all_of r f) is k = cc
    by _ is k = cc
