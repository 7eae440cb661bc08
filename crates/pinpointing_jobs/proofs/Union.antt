-- The union of a list of sets, one set after another.
use Rattle.std.proofs.Common.{◌≡◌, ℕ, ◌+◌, ◌<◌, ◌||◌, Bool, false, List, length, get_or, take, sym, ap, ◌∙◌}
use Rattle.std.specs.Cmp.{nat_cmp_total}
use Rattle.std.specs.Ordering.{nat_cmp}
use Rattle.std.specs.FinSet as set
use Rattle.std.proofs.Math.Bool.{or-false, or_assoc}
use Rattle.std.proofs.lemmas.List.Folds.{list_any_more}
use Rattle.lane_sieve.specs.Sets.{NumberSet}
use Rattle.axiom_sets.specs.Sets.{Limited}
use Rattle.pinpointing_jobs.specs.SetLists.{is_listed}

-- a union that began with nothing
pub none_listed : (sets : List Limited) (s union : NumberSet) → s ≡ set.empty
    → ((k : ℕ) → set.contains union k ≡ (set.contains s k || is_listed sets k)) → set.contains union ≡ is_listed sets
none_listed sets s union e same =
    let each : (k : ℕ) → set.contains union k ≡ is_listed sets k = λ k.
    let none : set.contains s k ≡ false = ap (λ (t : NumberSet). set.contains t k) e ∙ set.contains-empty nat_cmp k in
    same k ∙ ap (λ (b : Bool). b || is_listed sets k) none in
    λ i k. each k i

pub none_more : (s : NumberSet) (k : ℕ) → set.contains s k ≡ (set.contains s k || false)
none_more s k = sym (or-false (set.contains s k))

pub one_more : (sets : List Limited) (i : ℕ) (s : Limited) (first before after : NumberSet) → i < length sets
    → s ≡ get_or sets i s → after ≡ set.union before s.members
    → ((k : ℕ) → set.contains before k ≡ (set.contains first k || is_listed (take i sets) k)) → (k : ℕ)
    → set.contains after k ≡ (set.contains first k || is_listed (take (i + 1) sets) k)
one_more sets i s first before after lt at e same k =
    ap (λ (t : NumberSet). set.contains t k) e
    ∙ set.contains-union nat_cmp_total before s.members k
    ∙ ap (λ (b : Bool). b || set.contains s.members k) (same k)
    ∙ or_assoc (set.contains first k) (is_listed (take i sets) k) (set.contains s.members k)
    ∙ ap (λ (t : Limited). set.contains first k || (is_listed (take i sets) k || set.contains t.members k)) at
    ∙ ap (λ (b : Bool). set.contains first k || b)
    (sym (list_any_more (λ (t : Limited). set.contains t.members k) sets i s lt))
