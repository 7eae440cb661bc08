-- The trails that a search reaches keep steps: all where no mark has gone on to a later alternative.
use Rattle.std.proofs.Common.{◌≡◌, ℕ, zero, suc, ◌+◌, ◌<◌, List, [], ◌∷◌, ◌++◌, length, take, refl, sym, subst, arith}
use Rattle.std.proofs.Common.{length-append}
use Rattle.tableau_specs.specs.declared.Item.{Item}
use Rattle.tableau_specs.specs.declared.Item.TheVariants.{Fact as Says, Mark}
use Rattle.tableau_specs.specs.Items.{says}
use Rattle.tableau_specs.specs.Steps.{SearchContext, IsLegal, IsAlternative, next_choice}
use Rattle.tableau_specs.specs.Steps.IsLegal.{add, give, generate, choose, back}
use Rattle.tableau_specs.specs.Reached.{start, Follows}
use Rattle.search_laws.specs.BoundLaws.{AreAtFirst}
use Rattle.search_laws.specs.KeptSteps.{IsGrown}
use Rattle.search_laws.proofs.Grown.{cut, AreOnes, ones_front, ones_back, alternatives_from_one}
use Rattle.search_laws.specs.KeptSteps.IsGrown.{at_first, by_add, by_give, by_make, by_choice}
use Rattle.search_laws.proofs.Tally.{first_front, first_back}

ones_more : (ns ms : List ℕ) → AreOnes ns → AreOnes ms → AreOnes (ns ++ ms)
ones_more [] ms h g = g
ones_more (n ∷ ns) ms h g = (h.0, ones_more ns ms h.1 g)

pub ones : (w : SearchContext) (at a b : ℕ) (ns : List ℕ) (trail : List Item) → IsGrown w (start at a b) ns trail
    → AreAtFirst trail → AreOnes ns
ones w at a b ns trail at_first h = tt
ones w at a b ns trail (by_add ms old x d g adds out) h =
    ones_more ms (1 ∷ []) (ones w at a b ms old g (first_front old (says (_ ∷ [])) h)) (refl, tt)
ones w at a b ns trail (by_give ms old f g is_given out) h =
    ones_more ms (1 ∷ []) (ones w at a b ms old g (first_front old (says (f ∷ [])) h)) (refl, tt)
ones w at a b ns trail (by_make ms old new g makes) h =
    ones_more ms (1 ∷ []) (ones w at a b ms old g (first_front old (says new) h)) (refl, tt)
ones w at a b ns trail (by_choice ms old c f g may alt) h =
    ones_more ms (c.alternative ∷ []) (ones w at a b ms old g (first_front old (Mark c ∷ Says f ∷ []) h))
    ((first_back old (Mark c ∷ Says f ∷ []) h).0, tt)

-- the steps that the trail keeps, and how their numbers come from those before the last step
pub record IsKeeping (w : SearchContext) (at a b k : ℕ) (trail : List Item) : Type 0 where
  pub numbers : List ℕ
  pub grown : IsGrown w (start at a b) numbers trail
  pub all_are_kept : AreOnes numbers → k ≡ length numbers

-- one step more: its number stands at the end, or a number is one more and what stood after it is gone
pub data IsNext : List ℕ → List ℕ → Type 0 where
  on : (ns : List ℕ) (n : ℕ) → 0 < n → IsNext ns (ns ++ n ∷ [])
  back_at : (before after : List ℕ) (n : ℕ) → IsNext (before ++ n ∷ after) (before ++ (n + 1) ∷ [])

pub record NextGrown (w : SearchContext) (at a b : ℕ) (ns : List ℕ) (trail : List Item) : Type 0 where
  pub numbers : List ℕ
  pub grown : IsGrown w (start at a b) numbers trail
  pub is_next : IsNext ns numbers

pub one_step : (w : SearchContext) (at a b : ℕ) (ns : List ℕ) (old new : List Item) → IsGrown w (start at a b) ns old
    → IsLegal w old new → NextGrown w at a b ns new
one_step w at a b ns old new g (add x d nc adds out) =
    record { numbers = ns ++ 1 ∷ []; grown = by_add ns old x d g adds out; is_next = on ns 1 (omega arith) }
one_step w at a b ns old new g (give f nc is_given out) =
    record { numbers = ns ++ 1 ∷ []; grown = by_give ns old f g is_given out; is_next = on ns 1 (omega arith) }
one_step w at a b ns old new g (generate fs nc makes) =
    record { numbers = ns ++ 1 ∷ []; grown = by_make ns old fs g makes; is_next = on ns 1 (omega arith) }
one_step w at a b ns old new g (choose c f nc may one alt) = record {
  numbers = ns ++ c.alternative ∷ [];
  grown = by_choice ns old c f g may (subst (λ (k : ℕ). IsAlternative w.table c.branch k f) (sym one) alt);
  is_next = on ns c.alternative (omega (arith, one));
}
one_step w at a b ns old new g (back place c f clash read alt) =
    let k = cut w at a b ns old g place c read in
    record {
      numbers = k.before ++ (c.alternative + 1) ∷ [];
      grown = by_choice k.before (take place old) (next_choice w c) f k.grown k.may alt;
      is_next =
          subst (λ (ms : List ℕ). IsNext ms (k.before ++ (c.alternative + 1) ∷ [])) (sym k.numbers)
          (back_at k.before k.after c.alternative);
    }

abbrev pub AllPositive : List ℕ → Type 0
AllPositive [] = Unit {0}
AllPositive (n ∷ ns) = (0 < n) × AllPositive ns

positive_at : (before : List ℕ) (n : ℕ) (after : List ℕ) → AllPositive (before ++ n ∷ after) → 0 < n
positive_at [] n after h = h.0
positive_at (m ∷ before) n after h = positive_at before n after h.1

positive_more : (ns ms : List ℕ) → AllPositive ns → AllPositive ms → AllPositive (ns ++ ms)
positive_more [] ms h g = g
positive_more (n ∷ ns) ms h g = (h.0, positive_more ns ms h.1 g)

pub positive : (w : SearchContext) (at a b : ℕ) (ns : List ℕ) (trail : List Item) → IsGrown w (start at a b) ns trail
    → AllPositive ns
positive w at a b ns trail at_first = tt
positive w at a b ns trail (by_add ms old x d g adds out) =
    positive_more ms (1 ∷ []) (positive w at a b ms old g) (omega arith, tt)
positive w at a b ns trail (by_give ms old f g is_given out) =
    positive_more ms (1 ∷ []) (positive w at a b ms old g) (omega arith, tt)
positive w at a b ns trail (by_make ms old new g makes) =
    positive_more ms (1 ∷ []) (positive w at a b ms old g) (omega arith, tt)
positive w at a b ns trail (by_choice ms old c f g may alt) =
    positive_more ms (c.alternative ∷ []) (positive w at a b ms old g)
    (alternatives_from_one w.table c.branch c.alternative f alt, tt)

-- where all numbers are 1, a step more was none back, or the number before was 0
next_kept : (k : ℕ) (ns ms : List ℕ) → IsNext ns ms → AllPositive ns → (AreOnes ns → k ≡ length ns) → AreOnes ms
    → suc k ≡ length ms
next_kept k ns ms (on ns' n pos) all imp h = omega (arith, imp (ones_front ns' (n ∷ []) h), length-append ns' (n ∷ []))
next_kept k ns ms (back_at before after n) all imp h =
    absurd (omega (arith, (ones_back before ((n + 1) ∷ []) h).0, positive_at before n after all))

pub keeping : (w : SearchContext) (at a b k : ℕ) (trail : List Item) → Follows w (start at a b) k trail
    → IsKeeping w at a b k trail
keeping w at a b zero trail r =
    record { numbers = []; grown = subst (IsGrown w (start at a b) []) (sym r) at_first; all_are_kept = λ h. refl }
keeping w at a b (suc k) trail r =
    let before = keeping w at a b k r.0 r.1 in
    let next = one_step w at a b before.numbers r.0 trail before.grown r.2 in
    record {
      numbers = next.numbers;
      grown = next.grown;
      all_are_kept =
          next_kept k before.numbers next.numbers next.is_next (positive w at a b before.numbers r.0 before.grown)
          before.all_are_kept;
    }
