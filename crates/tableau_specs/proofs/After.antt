-- What facts say after one fact more that joins no nodes.
use Rattle.std.proofs.Common.{◌≡◌, ℕ, ◌+◌, ◌&&◌, ◌||◌, max, eqb, Bool, true, false, List, [], ◌∷◌, ◌++◌, refl, ap, ◌∙◌}
use Rattle.std.proofs.Common.{cond, sym}
use Rattle.std.specs.List.{list_any, list_all, range_with_len, filter, All}
use Rattle.std.proofs.lemmas.List.Elements.{All-head, All-tail}
use Rattle.std.proofs.Math.Bool.{or-false, or_assoc}
use Rattle.calculus_specs.specs.declared.facts.Fact.{Fact}
use Rattle.calculus_specs.specs.declared.facts.Fact.TheVariants.{Has, Edge, Apart, Same}
use Rattle.calculus_specs.specs.Joins.{rep}
use Rattle.calculus_specs.specs.State.{node_count_from, gives_concept, gives_edge, gives_apart, has, has_edge}
use Rattle.calculus_specs.specs.State.{is_successor, successors_from, are_apart, all_apart}
use Rattle.tableau_specs.specs.Clash.{filled_successors}
use Rattle.tableau_specs.proofs.TreeShaped.{reps-snoc}

-- ---- tests of lists

pub any-snoc : {X : Type 0} (p : X → Bool) (xs : List X) (x : X) → list_any p (xs ++ x ∷ []) ≡ (list_any p xs || p x)
any-snoc p [] x = or-false (p x)
any-snoc p (y ∷ xs) x = elim (p y) as (λ b. (b || list_any p (xs ++ x ∷ [])) ≡ ((b || list_any p xs) || p x))
    [ true ↦ refl | false ↦ any-snoc p xs x ]

-- the elements that pass two tests, where the second test may be another one for those that pass the first
pub filter_again : (p q r : ℕ → Bool) → ((z : ℕ) → p z ≡ true → q z ≡ r z) → (xs : List ℕ)
    → filter q (filter p xs) ≡ filter r (filter p xs)
filter_again p q r same [] = refl
filter_again p q r same (x ∷ xs) =
    elim (p x) as
    (λ b. (p x ≡ b)
    → filter q (cond b (x ∷ filter p xs) (filter p xs)) ≡ filter r (cond b (x ∷ filter p xs) (filter p xs))) [
      | true ↦
          λ h. ap (λ (b : Bool). cond b (x ∷ filter q (filter p xs)) (filter q (filter p xs))) (same x h)
          ∙ ap (λ (ys : List ℕ). cond (r x) (x ∷ ys) ys) (filter_again p q r same xs)
      | false ↦ λ h. filter_again p q r same xs
    ] refl

-- ---- what does not change

-- fs' says of joins, edges, nodes and nodes apart what fs says
pub record IsAlike (first : ℕ) (fs fs' : List (Fact ℕ)) : Type 0 where
  pub reps : rep fs' ≡ rep fs
  pub nodes : node_count_from first fs' ≡ node_count_from first fs
  pub edges : (roles : ℕ → Bool) (x y : ℕ) → has_edge fs' roles x y ≡ has_edge fs roles x y
  pub aparts : (x y : ℕ) → are_apart fs' x y ≡ are_apart fs x y

module _ (first : ℕ) (fs fs' : List (Fact ℕ)) (alike : IsAlike first fs fs') where
  pub successor_alike : (roles : ℕ → Bool) (x y : ℕ) → is_successor fs' roles x y ≡ is_successor fs roles x y
  successor_alike roles x y = λ i. eqb (alike.reps i y) y && alike.edges roles x y i

  pub successors_alike : (roles : ℕ → Bool) (x : ℕ)
      → successors_from first fs' roles x ≡ successors_from first fs roles x
  successors_alike roles x = λ i. filter (λ y. successor_alike roles x y i) (range_with_len 0 (alike.nodes i))

  pub all_apart_alike : (ys : List ℕ) → all_apart fs' ys ≡ all_apart fs ys
  all_apart_alike [] = refl
  all_apart_alike (y ∷ ys) = λ i. list_all (λ z. alike.aparts y z i) ys && all_apart_alike ys i

  -- the filled_successors successors, where successors have the filler as before
  pub filled_alike : (below : ℕ → ℕ → Bool) (x s e : ℕ)
      → ((y : ℕ) → is_successor fs (λ r. below r s) x y ≡ true → has fs' y e ≡ has fs y e)
      → filled_successors first below fs' x s e ≡ filled_successors first below fs x s e
  filled_alike below x s e same =
      ap (filter (λ y. has fs' y e)) (successors_alike (λ r. below r s) x)
      ∙ filter_again (is_successor fs (λ r. below r s) x) (λ y. has fs' y e) (λ y. has fs y e) same
      (range_with_len 0 (node_count_from first fs))

-- ---- a concept more

count-has : (first : ℕ) (fs : List (Fact ℕ)) (x c : ℕ)
    → node_count_from first (fs ++ Has x c ∷ []) ≡ node_count_from first fs
count-has first [] x c = refl
count-has first (Edge r v w ∷ fs) x c = ap (max (w + 1)) (count-has first fs x c)
count-has first (Has v d ∷ fs) x c = count-has first fs x c
count-has first (Apart v w ∷ fs) x c = count-has first fs x c
count-has first (Same v w ∷ fs) x c = count-has first fs x c

module _ (fs : List (Fact ℕ)) (x d : ℕ) where
  abbrev after : List (Fact ℕ)
  after = fs ++ Has x d ∷ []

  reps_has : rep after ≡ rep fs
  reps_has = reps-snoc fs (Has x d)

  pub has_alike : (first : ℕ) → IsAlike first fs after
  has_alike first = record {
    reps = reps_has;
    nodes = count-has first fs x d;
    edges = λ roles y z.
        ap (λ (m : ℕ → ℕ). list_any (gives_edge roles m (m y) (m z)) after) reps_has
        ∙ any-snoc (gives_edge roles (rep fs) (rep fs y) (rep fs z)) fs (Has x d)
        ∙ or-false (has_edge fs roles y z);
    aparts = λ y z.
        ap (λ (m : ℕ → ℕ). list_any (gives_apart m (m y) (m z)) after) reps_has
        ∙ any-snoc (gives_apart (rep fs) (rep fs y) (rep fs z)) fs (Has x d)
        ∙ or-false (are_apart fs y z);
  }

  pub has-has : (y c : ℕ) → has after y c ≡ (has fs y c || (eqb (rep fs x) (rep fs y) && eqb d c))
  has-has y c =
      ap (λ (m : ℕ → ℕ). eqb c 0 || list_any (gives_concept (λ e. eqb e c) m (m y)) after) reps_has
      ∙ ap (λ (b : Bool). eqb c 0 || b) (any-snoc (gives_concept (λ e. eqb e c) (rep fs) (rep fs y)) fs (Has x d))
      ∙ sym (or_assoc (eqb c 0) (list_any (gives_concept (λ e. eqb e c) (rep fs) (rep fs y)) fs)
      (eqb (rep fs x) (rep fs y) && eqb d c))

-- pairs of nodes of a kind are apart as before
module _ (fs fs' : List (Fact ℕ)) (P : ℕ → Type 0)
    (same : (a b : ℕ) → P a → P b → are_apart fs' a b ≡ are_apart fs a b) where
  all_same : (y : ℕ) (ys : List ℕ) → P y → All P ys → list_all (are_apart fs' y) ys ≡ list_all (are_apart fs y) ys
  all_same y [] p h = refl
  all_same y (z ∷ ys) p h = λ i. same y z p (All-head P z ys h) i && all_same y ys p (All-tail P z ys h) i

  pub all_apart_same : (ys : List ℕ) → All P ys → all_apart fs' ys ≡ all_apart fs ys
  all_apart_same [] h = refl
  all_apart_same (y ∷ ys) h =
      λ i. all_same y ys (All-head P y ys h) (All-tail P y ys h) i && all_apart_same ys (All-tail P y ys h) i
