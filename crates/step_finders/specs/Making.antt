-- What nodes there are to make, and what it means that there are none.
use Rattle.std.specs.Prelude.{◌≡◌, ℕ, ◌==◌, ◌<◌, nat_lt, ◌&&◌, Bool, true, false, List}
use Rattle.std.specs.List.{list_any, list_all, range_with_len}
use Rattle.calculus_specs.specs.Shape.{Shape, shape_of}
use Rattle.calculus_specs.specs.Shape.Shape.{some_of, at_least}
use Rattle.calculus_specs.specs.declared.facts.Fact.{Fact}
use Rattle.calculus_specs.specs.Joins.{rep}
use Rattle.calculus_specs.specs.State.{node_count_from, has, is_successor, all_apart, fresh_facts}
use Rattle.tableau_specs.specs.Steps.{SearchContext, below_of, IsOpen, Generates, is_run}
use Rattle.step_finders.specs.declared.make.NewNodes.{NewNodes}

-- whether z is a number below the bound whose representative is in the list
abbrev pub is_among : List (Fact ℕ) → List ℕ → ℕ → ℕ → Bool
is_among fs ends bound z = nat_lt z bound && list_any (λ v. v == rep fs z) ends

-- whether the n numbers from y on are such, as nodes that are pairwise apart
abbrev pub runs_among : List (Fact ℕ) → List ℕ → ℕ → ℕ → ℕ → Bool
runs_among fs ends bound n y =
    list_all (is_among fs ends bound) (range_with_len y n) && all_apart fs (range_with_len y n)

-- whether such a run begins below the bound
abbrev pub AnswersAmong : List (Fact ℕ) → List ℕ → ℕ → ℕ → Bool → Type 0
AnswersAmong fs ends bound n true = (y : ℕ) × (runs_among fs ends bound n y ≡ true)
AnswersAmong fs ends bound n false = (y : ℕ) → y < bound → runs_among fs ends bound n y ≡ false

-- a concept of this shape asks for these nodes
abbrev pub Asks : Shape → NewNodes → Type 0
Asks (some_of s e) m = (s ≡ m.role) × (e ≡ m.filler) × (m.count ≡ 1)
Asks (at_least n s e) m = (s ≡ m.role) × (e ≡ m.filler) × (n ≡ m.count)
Asks _ m = ⊥

module _ (w : SearchContext) (fs : List (Fact ℕ)) where
  -- these nodes are to be made, since a concept of their parent asks for them
  pub record IsMaking (m : NewNodes) : Type 0 where
    pub generates : Generates w fs (fresh_facts m.parent m.role m.filler (node_count_from w.first fs) m.count)
    pub is_open : IsOpen w fs m.parent
    pub holds : has fs m.parent m.concept ≡ true
    pub asks : Asks (shape_of w.table m.concept) m

  -- x has a successor by a role below s that has e
  pub record HasFiller (x s e : ℕ) : Type 0 where
    pub end : ℕ
    pub next : is_successor fs (λ r. below_of w r s) x end ≡ true
    pub holds : has fs end e ≡ true

  -- n nodes in a row are at ends of such edges, and pairwise apart; some may have been joined to others
  pub record HasRun (x n s e : ℕ) : Type 0 where
    pub first : ℕ
    pub is_run' : is_run w fs x s e n first ≡ true

  abbrev pub NoRun : ℕ → ℕ → ℕ → ℕ → Type 0
  NoRun x n s e = (y : ℕ) → is_run w fs x s e n y ≡ false

  abbrev pub AnswersRun : ℕ → ℕ → ℕ → ℕ → Bool → Type 0
  AnswersRun x n s e true = HasRun x n s e
  AnswersRun x n s e false = NoRun x n s e

  -- nothing is to be made since x has a concept of this shape
  abbrev pub NoMakingByShape : ℕ → Shape → Type 0
  NoMakingByShape x (some_of s e) = HasFiller x s e
  NoMakingByShape x (at_least n s e) = HasRun x n s e
  NoMakingByShape x _ = Unit {0}

  pub record NoMakingAt (x : ℕ) : Type 0 where
    pub none : (c : ℕ) → has fs x c ≡ true → NoMakingByShape x (shape_of w.table c)

  pub record NothingToMake : Type 0 where
    pub none : (new : List (Fact ℕ)) → ¬ Generates w fs new
