-- The elements at which parts may be true, from those of each part.
use Rattle.std.proofs.Common.{◌≡◌, ℕ, zero, suc, ◌+◌, ◌<◌, ◌≤◌, Bool, true, false, ◌&&◌, ◌||◌, List, [], ◌∷◌, length}
use Rattle.std.proofs.Common.{take, get_or, Option, Some, None, refl, ap, sym, ◌∙◌, subst, inl, inr, ◌⊎◌, arith}
use Rattle.std.specs.Prelude.{nat_lt, if◌then◌else◌}
use Rattle.std.specs.List.{list_any}
use Rattle.std.proofs.lemmas.Bool.{or_from, and_right, cases_lt}
use Rattle.std.proofs.lemmas.Bool.Decides.{nat_tests}
use Rattle.std.proofs.lemmas.List.Folds.{list_any_more}
use Rattle.shq_terms.specs.Concept.{Concept, parts_of}
use Rattle.shq_meaning.specs.Truth.{Interpretation, holds, hold_all, hold_any}
use Rattle.finite_model.specs.Next.{FailsBetween, IsNextAt, IsNext, least}

module _ (size from : ℕ) where
  -- a test that fails wherever the other does
  pub next_weaker : (p q : ℕ → Bool) → ((k : ℕ) → p k ≡ false → q k ≡ false) → (r : Option ℕ) → IsNext size from p r
      → IsNext size from q r
  next_weaker p q weaker None next = record { fails = λ k low high. weaker k (next.fails k low high) }
  next_weaker p q weaker (Some x) next = record {
    reached = next.reached;
    below = next.below;
    passed_over = record { fails = λ k low high. weaker k (next.passed_over.fails k low high) };
  }

  -- either of two tests
  pub next_of_two : (p q : ℕ → Bool) (a b r : Option ℕ) → IsNext size from p a → IsNext size from q b → r ≡ least a b
      → IsNext size from (λ x. p x || q x) r
  next_of_two p q a b r f g is = subst (IsNext size from (λ x. p x || q x)) (sym is) (by a b f g)
    where
      lesser : (x y : ℕ) → IsNextAt size from p x → IsNextAt size from q y → (v : Bool) → nat_lt x y ≡ v
          → IsNextAt size from (λ k. p k || q k) (if v then x else y)
      lesser x y s t true h =
          let less : x < y = grind (arith, nat_tests) in
          record {
            reached = s.reached;
            below = s.below;
            passed_over = record {
              fails =
                  λ k low high. or_from (p k) (q k) (s.passed_over.fails k low high)
                  (t.passed_over.fails k low (omega arith));
            };
          }
      lesser x y s t false h =
          let more : y ≤ x = grind (arith, nat_tests) in
          record {
            reached = t.reached;
            below = t.below;
            passed_over = record {
              fails =
                  λ k low high. or_from (p k) (q k) (s.passed_over.fails k low (omega arith))
                  (t.passed_over.fails k low high);
            };
          }

      by : (c d : Option ℕ) → IsNext size from p c → IsNext size from q d
          → IsNext size from (λ k. p k || q k) (least c d)
      by (Some x) (Some y) s t = lesser x y s t (nat_lt x y) refl
      by (Some x) None s t = record {
        reached = s.reached;
        below = s.below;
        passed_over = record {
          fails =
              λ k low high. or_from (p k) (q k) (s.passed_over.fails k low high)
              (t.fails k low (omega (arith, s.below)));
        };
      }
      by None (Some y) s t = record {
        reached = t.reached;
        below = t.below;
        passed_over = record {
          fails =
              λ k low high. or_from (p k) (q k) (s.fails k low (omega (arith, t.below)))
              (t.passed_over.fails k low high);
        };
      }
      by None None s t = record { fails = λ k low high. or_from (p k) (q k) (s.fails k low high) (t.fails k low high) }

-- the least of what is next in each of a list
module _ {A : Type 0} (size from : ℕ) (p : A → ℕ → Bool) (parts : List A) (n : ℕ) (d part : A) (less : n < length parts)
    (is : part ≡ get_or parts n d) where
  pub more_of_any : (so_far found r : Option ℕ) → IsNext size from (λ x. list_any (λ a. p a x) (take n parts)) so_far
      → IsNext size from (p part) found → r ≡ least so_far found
      → IsNext size from (λ x. list_any (λ a. p a x) (take (n + 1) parts)) r
  more_of_any so_far found r f g at =
      next_weaker size from (λ x. list_any (λ a. p a x) (take n parts) || p part x)
      (λ x. list_any (λ a. p a x) (take (n + 1) parts))
      (λ k h. list_any_more (λ a. p a k) parts n d less
      ∙ ap (λ a. list_any (λ b. p b k) (take n parts) || p a k) (sym is) ∙ h)
      r (next_of_two size from (λ x. list_any (λ a. p a x) (take n parts)) (p part) so_far found r f g at)

module _ (i : Interpretation) where
  -- a part that fails
  all_fails : (parts : List Concept) (n : ℕ) (d : Concept) (k : ℕ) → n < length parts
      → holds i (get_or parts n d) k ≡ false → hold_all i (parts_of parts) k ≡ false
  all_fails [] n d k less h = absurd (omega arith)
  all_fails (c ∷ cs) zero d k less h = ap (λ b. b && hold_all i (parts_of cs) k) h
  all_fails (c ∷ cs) (suc n) d k less h =
      and_right (holds i c k) (hold_all i (parts_of cs) k) (all_fails cs n d k (omega arith) h)

  module _ (size from next : ℕ) (parts : List Concept) (n : ℕ) (part : Concept) (less : n < length parts)
      (is : part ≡ get_or parts n part) (so_far : IsNextAt size from (hold_all i (parts_of parts)) next) where
    fails_then : (to k : ℕ) → FailsBetween next to (holds i part) → from ≤ k → k < to → (k < next) ⊎ (next ≤ k)
        → hold_all i (parts_of parts) k ≡ false
    fails_then to k more low high (inl before) = so_far.passed_over.fails k low before
    fails_then to k more low high (inr after) =
        all_fails parts n part k less (ap (λ c. holds i c k) (sym is) ∙ more.fails k after high)

    pub no_more_of_all : FailsBetween next size (holds i part) → FailsBetween from size (hold_all i (parts_of parts))
    no_more_of_all more = record { fails = λ k low high. fails_then size k more low high (cases_lt k next) }

    pub more_of_all : (x : ℕ) → IsNextAt size next (holds i part) x → IsNextAt size from (hold_all i (parts_of parts)) x
    more_of_all x more = record {
      reached = omega (arith, so_far.reached, more.reached);
      below = more.below;
      passed_over = record { fails = λ k low high. fails_then x k more.passed_over low high (cases_lt k next) };
    }

  any_is : (cs : List Concept) (x : ℕ) → hold_any i (parts_of cs) x ≡ list_any (λ c. holds i c x) cs
  any_is [] x = refl
  any_is (c ∷ cs) x = ap (λ b. holds i c x || b) (any_is cs x)

  module _ (size from : ℕ) (parts : List Concept) (n : ℕ) (part : Concept) (less : n < length parts)
      (is : part ≡ get_or parts n part) where
    pub more_of_parts : (so_far found r : Option ℕ) → IsNext size from (hold_any i (parts_of (take n parts))) so_far
        → IsNext size from (holds i part) found → r ≡ least so_far found
        → IsNext size from (hold_any i (parts_of (take (n + 1) parts))) r
    more_of_parts so_far found r f g at =
        let before =
        next_weaker size from (hold_any i (parts_of (take n parts))) (λ x. list_any (λ c. holds i c x) (take n parts))
        (λ k h. sym (any_is (take n parts) k) ∙ h) so_far f in
        next_weaker size from (λ x. list_any (λ c. holds i c x) (take (n + 1) parts))
        (hold_any i (parts_of (take (n + 1) parts))) (λ k h. any_is (take (n + 1) parts) k ∙ h)
        r (more_of_any size from (holds i) parts n part part less is so_far found r before g at)
