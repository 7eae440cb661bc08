-- The links of an index lead to the representatives of its facts.
use Rattle.std.proofs.Common.{◌≡◌, ℕ, min, max, Bool, List, [], ◌∷◌, ◌++◌, refl, ap, sym, ◌∙◌, inl, inr, arith}
use Rattle.std.specs.Prelude.{◌==◌, if◌then◌else◌}
use Rattle.std.proofs.lemmas.Bool.{cases_eq, eq-eqb, ne_eqb}
use Rattle.std.proofs.lemmas.Bool.Decides.{nat_tests}
use Rattle.calculus_specs.specs.declared.facts.Fact.{Fact}
use Rattle.calculus_specs.specs.declared.facts.Fact.TheVariants as F
use Rattle.calculus_specs.specs.Joins.{merged, rep_after, rep}
use Rattle.calculus_specs.proofs.Joined.{by_last, rep-snoc, rep-joined, joined-rep}
use Rattle.branch_facts.specs.Seen.{Index, renamed, through, index_linked, index_joined, index_after, index_of}
use Rattle.branch_facts.proofs.Grown.{index_of-snoc}

pub through-snoc : (ls : List (ℕ × ℕ)) (h l x : ℕ) → through (ls ++ (h, l) ∷ []) x ≡ renamed h l (through ls x)
through-snoc [] h l x = refl
through-snoc (k ∷ ks) h l x = through-snoc ks h l (renamed k.0 k.1 x)

-- two different representatives become the lesser, and one stays
pub merged_is : (y z x : ℕ) → (y ≡ z → ⊥) → merged y z x ≡ renamed (max y z) (min y z) x
merged_is y z x differ = grind (arith, nat_tests)

pub merged_one : (y z x : ℕ) → y ≡ z → merged y z x ≡ x
merged_one y z x same = grind (arith, nat_tests)

pub when_equal : {X : Type 0} (y z : ℕ) (a b : X) → y ≡ z → (if y == z then a else b) ≡ a
when_equal y z a b e = ap (λ (t : Bool). if t then a else b) (eq-eqb y z e)

pub unless_equal : {X : Type 0} (y z : ℕ) (a b : X) → (y ≡ z → ⊥) → (if y == z then a else b) ≡ b
unless_equal y z a b differ = ap (λ (t : Bool). if t then a else b) (ne_eqb y z differ)

through_joined : (i : Index) (y z x : ℕ) → through (index_joined i y z).links x ≡ merged y z (through i.links x)
through_joined i y z x = elim (cases_eq y z) [
  | inl same ↦
      ap (λ (j : Index). through j.links x) (when_equal y z i (index_linked i (max y z) (min y z)) same)
      ∙ sym (merged_one y z (through i.links x) same)
  | inr differ ↦
      ap (λ (j : Index). through j.links x) (unless_equal y z i (index_linked i (max y z) (min y z)) differ)
      ∙ through-snoc i.links (max y z) (min y z) x
      ∙ sym (merged_is y z (through i.links x) differ)
]

through_after : (i : Index) (f : Fact ℕ) (x : ℕ) → through (index_after i f).links x ≡ rep_after (through i.links) f x
through_after i (F.Has y c) x = refl
through_after i (F.Edge r y z) x = refl
through_after i (F.Apart y z) x = refl
through_after i (F.Same y z) x = through_joined i (through i.links y) (through i.links z) x

pub through_is_rep : (fs : List (Fact ℕ)) (x : ℕ) → through (index_of fs).links x ≡ rep fs x
through_is_rep = by_last {X = Fact ℕ} (λ fs. (x : ℕ) → through (index_of fs).links x ≡ rep fs x) (λ x. refl)
    (λ fs f ih x.
    let all : through (index_of fs).links ≡ rep fs = λ i y. ih y i in
    ap (λ (j : Index). through j.links x) (index_of-snoc fs f) ∙ through_after (index_of fs) f x
    ∙ ap (λ (m : ℕ → ℕ). rep_after m f x) all ∙ sym (rep-snoc fs f x))

-- a representative is its own
pub rep_twice : (fs : List (Fact ℕ)) (x : ℕ) → rep fs (rep fs x) ≡ rep fs x
rep_twice fs x = sym (rep-joined fs x (rep fs x) (joined-rep fs x))
