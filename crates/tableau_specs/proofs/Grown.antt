-- What facts say once new nodes are made.
use Rattle.std.proofs.Common.{◌≡◌, ℕ, zero, suc, ◌+◌, ◌<◌, ◌≤◌, ◌&&◌, ◌||◌, max, eqb, Bool, true, false, List, [], ◌∷◌}
use Rattle.std.proofs.Common.{◌++◌, refl, ap, ◌∙◌, sym, arith, inl, inr}
use Rattle.std.specs.List.{list_any}
use Rattle.std.proofs.lemmas.List.Folds.{list_any-append}
use Rattle.std.proofs.lemmas.Bool.{ne_eqb, eqb-true, or_cases, cases_Bool}
use Rattle.std.proofs.Math.Bool.{or-false, or_assoc, and-false, and-or_distrib_right, and-or_distrib_left}
use Rattle.calculus_specs.specs.declared.facts.Fact.{Fact}
use Rattle.calculus_specs.specs.declared.facts.Fact.TheVariants.{Has, Edge, Apart, Same}
use Rattle.calculus_specs.specs.Joins.{rep, rep_from, rep_after}
use Rattle.calculus_specs.specs.State.{node_count_from, gives_concept, gives_edge, gives_apart, has, has_edge}
use Rattle.calculus_specs.specs.State.{are_apart, new_nodes, apart_from, pairwise_apart, fresh_facts, speak_of_nodes}
use Rattle.calculus_specs.proofs.Joined.{rep-le}
use Rattle.tableau_specs.proofs.TreeShaped.{first_le, apart_are_nodes}
use Rattle.tableau_specs.proofs.Bare.{own_rep}
use Rattle.std.proofs.lemmas.Bool.Decides.{nat_tests}

-- whether a is one of the n nodes from `first` on
abbrev pub in_run : ℕ → ℕ → ℕ → Bool
in_run a first zero = false
in_run a first (suc n) = eqb first a || in_run a (first + 1) n

pub before_run : (a first n : ℕ) → a < first → in_run a first n ≡ false
before_run a first zero lt = refl
before_run a first (suc n) lt =
    rw (ne_eqb first a (λ e. absurd (omega (arith, e, lt)))) (before_run a (first + 1) n (omega (arith, lt)))

pub from_run : (a first n : ℕ) → in_run a first n ≡ true → first ≤ a
from_run a first zero h = cc
from_run a first (suc n) h = elim (or_cases (eqb first a) (in_run a (first + 1) n) h) [
  | inl here ↦ omega (arith, eqb-true first a here)
  | inr later ↦ omega (arith, from_run a (first + 1) n later)
]

-- ---- representatives

rep_from-append : (m : ℕ → ℕ) (fs gs : List (Fact ℕ)) → rep_from m (fs ++ gs) ≡ rep_from (rep_from m fs) gs
rep_from-append m [] gs = refl
rep_from-append m (f ∷ fs) gs = rep_from-append (rep_after m f) fs gs

reps_nodes : (m : ℕ → ℕ) (x s e first n : ℕ) → rep_from m (new_nodes x s e first n) ≡ m
reps_nodes m x s e first zero = refl
reps_nodes m x s e first (suc n) = reps_nodes m x s e (first + 1) n

reps_apart : (m : ℕ → ℕ) (y z n : ℕ) → rep_from {C = ℕ} m (apart_from y z n) ≡ m
reps_apart m y z zero = refl
reps_apart m y z (suc n) = reps_apart m y (z + 1) n

reps_pairs : (m : ℕ → ℕ) (first n : ℕ) → rep_from {C = ℕ} m (pairwise_apart first n) ≡ m
reps_pairs m first zero = refl
reps_pairs m first (suc n) =
    rep_from-append m (apart_from first (first + 1) n) (pairwise_apart (first + 1) n)
    ∙ ap (λ (k : ℕ → ℕ). rep_from {C = ℕ} k (pairwise_apart (first + 1) n)) (reps_apart m first (first + 1) n)
    ∙ reps_pairs m (first + 1) n

pub reps_fresh : (m : ℕ → ℕ) (x s e first n : ℕ) → rep_from m (fresh_facts x s e first n) ≡ m
reps_fresh m x s e first n =
    rep_from-append m (new_nodes x s e first n) (pairwise_apart first n)
    ∙ ap (λ (k : ℕ → ℕ). rep_from {C = ℕ} k (pairwise_apart first n)) (reps_nodes m x s e first n)
    ∙ reps_pairs m first n

-- ---- nodes

count-append : (base : ℕ) (fs gs : List (Fact ℕ))
    → node_count_from base (fs ++ gs) ≡ max (node_count_from base fs) (node_count_from base gs)
count-append base [] gs = omega (arith, first_le base gs)
count-append base (Has v c ∷ fs) gs = count-append base fs gs
count-append base (Edge r v w ∷ fs) gs = omega (arith, count-append base fs gs)
count-append base (Apart v w ∷ fs) gs = count-append base fs gs
count-append base (Same v w ∷ fs) gs = count-append base fs gs

count_nodes : (base x s e first n : ℕ) → base ≤ first
    → max first (node_count_from base (new_nodes x s e first n)) ≡ first + n
count_nodes base x s e first zero le = omega (arith, le)
count_nodes base x s e first (suc n) le = omega (arith, le, count_nodes base x s e (first + 1) n (omega arith))

count_apart : (base y z n : ℕ) → node_count_from {C = ℕ} base (apart_from y z n) ≡ base
count_apart base y z zero = refl
count_apart base y z (suc n) = count_apart base y (z + 1) n

count_pairs : (base first n : ℕ) → node_count_from {C = ℕ} base (pairwise_apart first n) ≡ base
count_pairs base first zero = refl
count_pairs base first (suc n) = omega (
  arith,
  count-append base (apart_from first (first + 1) n) (pairwise_apart (first + 1) n),
  count_apart base first (first + 1) n,
  count_pairs base (first + 1) n,
)

-- ---- what the new facts give

nothing_in : (p : Fact ℕ → Bool) → ((y z : ℕ) → p (Apart y z) ≡ false) → (y z n : ℕ)
    → list_any p (apart_from y z n) ≡ false
nothing_in p none y z zero = refl
nothing_in p none y z (suc n) = rw (none y z) (nothing_in p none y (z + 1) n)

nothing_in_pairs : (p : Fact ℕ → Bool) → ((y z : ℕ) → p (Apart y z) ≡ false) → (first n : ℕ)
    → list_any p (pairwise_apart first n) ≡ false
nothing_in_pairs p none first zero = refl
nothing_in_pairs p none first (suc n) =
    list_any-append p (apart_from first (first + 1) n) (pairwise_apart (first + 1) n)
    ∙ rw (nothing_in p none first (first + 1) n) (nothing_in_pairs p none (first + 1) n)

-- of the new facts, those on nodes that are apart aside
without_pairs : (p : Fact ℕ → Bool) → ((y z : ℕ) → p (Apart y z) ≡ false) → (x s e first n : ℕ)
    → list_any p (fresh_facts x s e first n) ≡ list_any p (new_nodes x s e first n)
without_pairs p none x s e first n =
    list_any-append p (new_nodes x s e first n) (pairwise_apart first n)
    ∙ ap (λ (b : Bool). list_any p (new_nodes x s e first n) || b) (nothing_in_pairs p none first n)
    ∙ or-false (list_any p (new_nodes x s e first n))

not_both : (a y z : ℕ) → y < z → ((eqb y a && eqb z a) || (eqb y a && eqb z a)) ≡ false
not_both a y z lt = grind (arith, nat_tests)

-- nodes from `low` on are alone
module _ (m : ℕ → ℕ) (low : ℕ) (alone : (z : ℕ) → low ≤ z → m z ≡ z) where
  new_concepts : (kind : ℕ → Bool) (a x s e first n : ℕ) → low ≤ first
      → list_any (gives_concept kind m a) (new_nodes x s e first n) ≡ (in_run a first n && kind e)
  new_concepts kind a x s e first zero le = refl
  new_concepts kind a x s e first (suc n) le =
      ap (λ (k : ℕ). (eqb k a && kind e) || list_any (gives_concept kind m a) (new_nodes x s e (first + 1) n))
      (alone first le)
      ∙ ap (λ (b : Bool). (eqb first a && kind e) || b) (new_concepts kind a x s e (first + 1) n (omega (arith, le)))
      ∙ sym (and-or_distrib_right (eqb first a) (in_run a (first + 1) n) (kind e))

  new_edges : (roles : ℕ → Bool) (from to x s e first n : ℕ) → low ≤ first
      → list_any (gives_edge roles m from to) (new_nodes x s e first n)
      ≡ ((roles s && eqb (m x) from) && in_run to first n)
  new_edges roles from to x s e first zero le = sym (and-false (roles s && eqb (m x) from))
  new_edges roles from to x s e first (suc n) le =
      ap (λ (k : ℕ). (roles s && eqb (m x) from && eqb k to)
      || list_any (gives_edge roles m from to) (new_nodes x s e (first + 1) n))
      (alone first le)
      ∙ ap (λ (b : Bool). (roles s && eqb (m x) from && eqb first to) || b)
      (new_edges roles from to x s e (first + 1) n (omega (arith, le)))
      ∙ sym (and-or_distrib_left (roles s && eqb (m x) from) (eqb first to) (in_run to (first + 1) n))

  -- no two older nodes become apart
  older_apart : (a b y z n : ℕ) → a < low → b < low → low ≤ y → low ≤ z
      → list_any (gives_apart {C = ℕ} m a b) (apart_from y z n) ≡ false
  older_apart a b y z zero la lb ly lz = refl
  older_apart a b y z (suc n) la lb ly lz =
      rw (
        alone y ly,
        ne_eqb y a (λ e. absurd (omega (arith, e, la, ly))),
        ne_eqb y b (λ e. absurd (omega (arith, e, lb, ly))),
      ) (older_apart a b y (z + 1) n la lb ly (omega (arith, lz)))

  older_pairs : (a b first n : ℕ) → a < low → b < low → low ≤ first
      → list_any (gives_apart {C = ℕ} m a b) (pairwise_apart first n) ≡ false
  older_pairs a b first zero la lb le = refl
  older_pairs a b first (suc n) la lb le =
      list_any-append (gives_apart {C = ℕ} m a b) (apart_from first (first + 1) n) (pairwise_apart (first + 1) n)
      ∙ rw (older_apart a b first (first + 1) n la lb le (omega (arith, le)))
      (older_pairs a b (first + 1) n la lb (omega (arith, le)))

  -- and no node becomes apart from itself
  none_apart : (a y z n : ℕ) → low ≤ y → y < z → list_any (gives_apart {C = ℕ} m a a) (apart_from y z n) ≡ false
  none_apart a y z zero le lt = refl
  none_apart a y z (suc n) le lt =
      rw (alone y le, alone z (omega (arith, le, lt)), not_both a y z lt)
      (none_apart a y (z + 1) n le (omega (arith, lt)))

  none_pairs : (a first n : ℕ) → low ≤ first → list_any (gives_apart {C = ℕ} m a a) (pairwise_apart first n) ≡ false
  none_pairs a first zero le = refl
  none_pairs a first (suc n) le =
      list_any-append (gives_apart {C = ℕ} m a a) (apart_from first (first + 1) n) (pairwise_apart (first + 1) n)
      ∙ rw (none_apart a first (first + 1) n le (omega arith)) (none_pairs a (first + 1) n (omega (arith, le)))

  nodes_not_apart : (a b x s e first n : ℕ) → list_any (gives_apart {C = ℕ} m a b) (new_nodes x s e first n) ≡ false
  nodes_not_apart a b x s e first zero = refl
  nodes_not_apart a b x s e first (suc n) = nodes_not_apart a b x s e (first + 1) n

-- ---- once the nodes are made

-- what fs' says, which is fs with n new nodes from `first` on, that have e, at the ends of edges of s from x
pub record IsGrown (base : ℕ) (fs fs' : List (Fact ℕ)) (x s e first n : ℕ) : Type 0 where
  pub reps : rep fs' ≡ rep fs
  pub nodes : node_count_from base fs' ≡ first + n
  pub holds : (y c : ℕ) → has fs' y c ≡ (has fs y c || (in_run (rep fs y) first n && eqb e c))
  pub edges : (roles : ℕ → Bool) (y z : ℕ)
      → has_edge fs' roles y z
      ≡ (has_edge fs roles y z || ((roles s && eqb (rep fs x) (rep fs y)) && in_run (rep fs z) first n))
  pub aparts : (y z : ℕ) → y < first → z < first → are_apart fs' y z ≡ are_apart fs y z
  pub itself : (y : ℕ) → first ≤ y → are_apart fs' y y ≡ false

falls_none : (y : ℕ) → y ≤ y
falls_none y = omega arith

pub is_grown : (base : ℕ) (fs : List (Fact ℕ)) (x s e n : ℕ) → speak_of_nodes base fs ≡ true
    → IsGrown base fs (fs ++ fresh_facts x s e (node_count_from base fs) n) x s e (node_count_from base fs) n
is_grown base fs x s e n h =
    let first = node_count_from base fs in
    let new = fresh_facts x s e first n in
    let m = rep fs in
    let alone : (z : ℕ) → first ≤ z → m z ≡ z = λ z le. own_rep (λ y. y) first z fs falls_none h le refl in
    let reps : rep (fs ++ new) ≡ m = rep_from-append (λ y. y) fs new ∙ reps_fresh m x s e first n in
    record {
      reps = reps;
      nodes = omega (
        arith,
        count-append base fs new,
        count-append base (new_nodes x s e first n) (pairwise_apart first n),
        count_pairs base first n,
        count_nodes base x s e first n (first_le base fs),
        first_le base (new_nodes x s e first n),
      );
      holds = λ y c.
          let kind = λ (d : ℕ). eqb d c in
          ap (λ (k : ℕ → ℕ). eqb c 0 || list_any (gives_concept kind k (k y)) (fs ++ new)) reps
          ∙ ap (λ (b : Bool). eqb c 0 || b) (list_any-append (gives_concept kind m (m y)) fs new
          ∙ ap (λ (b : Bool). list_any (gives_concept kind m (m y)) fs || b)
          (without_pairs (gives_concept kind m (m y)) (λ v w. refl) x s e first n
          ∙ new_concepts m first alone kind (m y) x s e first n (omega arith)))
          ∙ sym (or_assoc (eqb c 0) (list_any (gives_concept kind m (m y)) fs) (in_run (m y) first n && eqb e c));
      edges = λ roles y z.
          ap (λ (k : ℕ → ℕ). list_any (gives_edge roles k (k y) (k z)) (fs ++ new)) reps
          ∙ list_any-append (gives_edge roles m (m y) (m z)) fs new
          ∙ ap (λ (b : Bool). list_any (gives_edge roles m (m y) (m z)) fs || b)
          (without_pairs (gives_edge roles m (m y) (m z)) (λ v w. refl) x s e first n
          ∙ new_edges m first alone roles (m y) (m z) x s e first n (omega arith));
      aparts = λ y z ly lz.
          let la : m y < first = omega (arith, rep-le fs y, ly) in
          let lb : m z < first = omega (arith, rep-le fs z, lz) in
          ap (λ (k : ℕ → ℕ). list_any (gives_apart k (k y) (k z)) (fs ++ new)) reps
          ∙ list_any-append (gives_apart m (m y) (m z)) fs new
          ∙ ap (λ (b : Bool). list_any (gives_apart m (m y) (m z)) fs || b)
          (list_any-append (gives_apart m (m y) (m z)) (new_nodes x s e first n) (pairwise_apart first n)
          ∙ ap (λ (b : Bool). b || list_any (gives_apart {C = ℕ} m (m y) (m z)) (pairwise_apart first n))
          (nodes_not_apart m first alone (m y) (m z) x s e first n)
          ∙ older_pairs m first alone (m y) (m z) first n la lb (omega arith))
          ∙ or-false (are_apart fs y z);
      itself = λ y le.
          let old : list_any (gives_apart m (m y) (m y)) fs ≡ false =
          elim (cases_Bool (list_any (gives_apart m (m y) (m y)) fs)) [
            | inr out ↦ out
            | inl held ↦
                absurd (omega (arith, (apart_are_nodes m first (m y) (m y) fs (rep-le fs) h held).0, alone y le, le))
          ] in
          ap (λ (k : ℕ → ℕ). list_any (gives_apart k (k y) (k y)) (fs ++ new)) reps
          ∙ list_any-append (gives_apart m (m y) (m y)) fs new
          ∙ ap (λ (b : Bool). b || list_any (gives_apart m (m y) (m y)) new) old
          ∙ list_any-append (gives_apart m (m y) (m y)) (new_nodes x s e first n) (pairwise_apart first n)
          ∙ ap (λ (b : Bool). b || list_any (gives_apart {C = ℕ} m (m y) (m y)) (pairwise_apart first n))
          (nodes_not_apart m first alone (m y) (m y) x s e first n)
          ∙ none_pairs m first alone (m y) first n (omega arith);
    }
