-- What is not outside of a class expression is in it.
use Rattle.std.proofs.Common.{◌≡◌, Bool, true, false}
use Rattle.std.proofs.lemmas.Bool.{false≢true}
use Rattle.shq_nnf.specs.Concept.{Concept, top, bottom, name, complement, intersection, union, some_of, all_of}
use Rattle.shq_nnf.specs.Concept.{at_least, at_most, exactly, Parts, no_parts, part}
use Rattle.all_worlds.specs.Worlds.{World, IsIn, IsInAll, IsInNone}

pub is_true : (b : Bool) → ¬ ¬ (b ≡ true) → b ≡ true
is_true true h = λ i. true
is_true false h = absurd (h (λ e. false≢true e))

module _ {d : Type 0} (w : World d) where
  mutual
    pub stable : (c : Concept) (x : d) → ¬ ¬ IsIn w c x → IsIn w c x
    stable top x h = tt
    stable bottom x h = h (λ k. k)
    stable (name a) x h = is_true (w.in_class a x) h
    stable (complement c) x h = λ k. h (λ n. n k)
    stable (intersection cs) x h = all_stable cs x h
    stable (union cs) x h = λ k. h (λ n. n k)
    stable (some_of r c) x h = λ k. h (λ s. s k)
    stable (all_of r c) x h = λ y e. stable c y (λ n. h (λ a. n (a y e)))
    stable (at_least n r c) x h = λ k. h (λ s. s k)
    stable (at_most n r c) x h = λ ys m. h (λ a. a ys m)
    stable (exactly n r c) x h = (λ k. h (λ s. s.0 k), λ ys m. h (λ a. a.1 ys m))

    all_stable : (cs : Parts) (x : d) → ¬ ¬ IsInAll w cs x → IsInAll w cs x
    all_stable no_parts x h = tt
    all_stable (part c cs) x h = (stable c x (λ n. h (λ p. n p.0)), all_stable cs x (λ n. h (λ p. n p.1)))

  pub none_stable : (cs : Parts) (x : d) → ¬ ¬ IsInNone w cs x → IsInNone w cs x
  none_stable no_parts x h = tt
  none_stable (part c cs) x h = (λ i. h (λ p. p.0 i), none_stable cs x (λ n. h (λ p. n p.1)))
