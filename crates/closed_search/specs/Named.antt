-- The axioms that a refutation names: of those of a set, the role axioms and those that stand in its lines.
use Rattle.std.specs.Prelude.{◌≡◌, ℕ, ◌==◌, ◌&&◌, ◌||◌, Bool, true, false, List, length, Option, Some, None}
use Rattle.std.specs.List.{list_any}
use Rattle.std.specs.FinSet as sets
use Rattle.lane_sieve.specs.Sets.{NumberSet}
use Rattle.axiom_sets.specs.Sets.{Limited}
use Rattle.shq_terms.specs.declared.axioms.Numbered.{Numbered}
use Rattle.refutation_truth.specs.Meeting.{is_role_number}
use Rattle.calculus_specs.specs.Line.{Line}
use Rattle.calculus_specs.specs.Line.Line.{start_line, and_line, or_line, all_line, carry_line, row_line, range_line}
use Rattle.calculus_specs.specs.Line.Line.{some_line, least_line, choose_line, pair_line, bottom_line, clash_line}
use Rattle.calculus_specs.specs.Line.Line.{most_line, fact_line, differ_line}

-- the axiom that stands in a line
abbrev pub axiom_of : Line → Option ℕ
axiom_of (row_line x a p is) = Some a
axiom_of (range_line x y a) = Some a
axiom_of (fact_line a p) = Some a
axiom_of start_line = None
axiom_of (and_line x c) = None
axiom_of (or_line x c) = None
axiom_of (all_line x y c) = None
axiom_of (carry_line x y t c) = None
axiom_of (some_line x y c) = None
axiom_of (least_line x y c) = None
axiom_of (choose_line y c) = None
axiom_of (pair_line y z) = None
axiom_of (bottom_line x) = None
axiom_of (clash_line x c) = None
axiom_of (most_line x c ys) = None
axiom_of (differ_line y z) = None

abbrev pub is_axiom : ℕ → Option ℕ → Bool
is_axiom k None = false
is_axiom k (Some a) = a == k

-- whether the axiom of this number stands in the line
abbrev pub uses_axiom : ℕ → Line → Bool
uses_axiom k line = is_axiom k (axiom_of line)

-- whether a refutation over the set that has these lines names the axiom
abbrev pub names_axiom : List Numbered → NumberSet → List Line → ℕ → Bool
names_axiom axioms members lines k =
    sets.contains members k && (is_role_number axioms k || list_any (uses_axiom k) lines)

-- the role axioms of a set
abbrev pub AreRoleAxioms : List Numbered → NumberSet → NumberSet → Type 0
AreRoleAxioms axioms members named = (k : ℕ)
    → sets.contains named k ≡ (sets.contains members k && is_role_number axioms k)

-- the set that was made has just the axioms that the refutation has to name
pub record NamesAxioms (axioms : List Numbered) (set : Limited) (lines : List Line) (named : Limited) : Type 0 where
  pub limit : named.limit ≡ length axioms
  pub members : (k : ℕ) → sets.contains named.members k ≡ names_axiom axioms set.members lines k

-- it names no other axiom than such, though it may lack some
pub record NamesNoOther (axioms : List Numbered) (set : Limited) (lines : List Line) (named : Limited) : Type 0 where
  pub limit : named.limit ≡ length axioms
  pub no_other : (k : ℕ) → sets.contains named.members k ≡ true → names_axiom axioms set.members lines k ≡ true

-- ---- while they are put in

-- of the members of the set, those that pass the test are put in
abbrev pub IsPut : NumberSet → (ℕ → Bool) → NumberSet → NumberSet → Type 0
IsPut members test old new = (k : ℕ)
    → sets.contains new k ≡ (sets.contains old k || (sets.contains members k && test k))

-- those that some of the items ask for are put in
abbrev pub ArePut : {X : Type 0} → NumberSet → (ℕ → X → Bool) → List X → NumberSet → NumberSet → Type 0
ArePut members asks items old new = IsPut members (λ k. list_any (asks k) items) old new

-- of the items, the rest are left, and they make of the set what all make of the old one
abbrev pub IsPutting : {X : Type 0} → NumberSet → (ℕ → X → Bool) → List X → NumberSet → NumberSet → List X → Type 0
IsPutting members asks items old now rest = (k : ℕ)
    → (sets.contains now k || (sets.contains members k && list_any (asks k) rest))
    ≡ (sets.contains old k || (sets.contains members k && list_any (asks k) items))
