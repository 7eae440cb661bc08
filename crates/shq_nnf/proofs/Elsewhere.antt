-- Which numbers the individuals are bears on nothing but assertions.
use Rattle.std.proofs.Common.{◌≡◌, ℕ, false, not, ◌&&◌, ◌||◌, leb, eqb, nat_le, refl, ap, sym, ◌∙◌}
use Rattle.std.specs.List.{count_by}
use Rattle.shq_meaning.specs.Concept.{Concept, top, bottom, name, complement, intersection, union, some_of, all_of}
use Rattle.shq_meaning.specs.Concept.{at_least, at_most, exactly, Parts, no_parts, part, parts_of}
use Rattle.shq_meaning.specs.Axiom.{Axiom}
use Rattle.shq_meaning.specs.Axiom.TheVariants.{SubClassOf, EquivalentClasses, DisjointClasses, DisjointUnion, SubRole}
use Rattle.shq_meaning.specs.Axiom.TheVariants.{EquivalentRoles, Domain, Range, Functional, Transitive, Member, Pair}
use Rattle.shq_meaning.specs.Axiom.TheVariants.{SameAll, Different}
use Rattle.shq_meaning.specs.Query.{Query}
use Rattle.shq_meaning.specs.On.{On}
use Rattle.shq_meaning.specs.On.TheVariants.{Any}
use Rattle.shq_meaning.specs.Below.{all_below}
use Rattle.shq_meaning.specs.Truth.{Interpretation, implies, same, successors, each_successor, holds, hold_all}
use Rattle.shq_meaning.specs.Truth.{hold_any, out_degree, is_asked_at, meets, refutes_at}
use Rattle.shq_nnf.specs.Meeting.{is_assertion, placed_elsewhere}

module _ (i : Interpretation) (place : ℕ → ℕ) where
  mutual
    truth : (c : Concept) (x : ℕ) → holds (placed_elsewhere i place) c x ≡ holds i c x
    truth top x = refl
    truth bottom x = refl
    truth (name a) x = refl
    truth (complement c) x = ap not (truth c x)
    truth (intersection cs) x = truth_of_all cs x
    truth (union cs) x = truth_of_any cs x
    truth (some_of r c) x = λ j. leb 1 (successors i r (λ y. truth c y j) x)
    truth (all_of r c) x = λ j. each_successor i r (λ y. truth c y j) x
    truth (at_least n r c) x = λ j. leb n (successors i r (λ y. truth c y j) x)
    truth (at_most n r c) x = λ j. leb (successors i r (λ y. truth c y j) x) n
    truth (exactly n r c) x = λ j. eqb (successors i r (λ y. truth c y j) x) n

    truth_of_all : (cs : Parts) (x : ℕ) → hold_all (placed_elsewhere i place) cs x ≡ hold_all i cs x
    truth_of_all no_parts x = refl
    truth_of_all (part c cs) x = λ j. truth c x j && truth_of_all cs x j

    truth_of_any : (cs : Parts) (x : ℕ) → hold_any (placed_elsewhere i place) cs x ≡ hold_any i cs x
    truth_of_any no_parts x = refl
    truth_of_any (part c cs) x = λ j. truth c x j || truth_of_any cs x j

  pub met_elsewhere : (a : Axiom) → is_assertion a ≡ false → meets (placed_elsewhere i place) a ≡ meets i a
  met_elsewhere (SubClassOf c d) h = λ j. all_below i.size (λ x. implies (truth c x j) (truth d x j))
  met_elsewhere (EquivalentClasses cs) h =
      λ j. all_below i.size (λ x. implies (truth_of_any (parts_of cs) x j) (truth_of_all (parts_of cs) x j))
  met_elsewhere (DisjointClasses cs) h = λ j. all_below i.size (λ x. nat_le (count_by (λ c. truth c x j) cs) 1)
  met_elsewhere (DisjointUnion a cs) h =
      λ j. all_below i.size
      (λ x. same (truth a x j) (truth_of_any (parts_of cs) x j) && nat_le (count_by (λ c. truth c x j) cs) 1)
  met_elsewhere (SubRole r s) h = refl
  met_elsewhere (EquivalentRoles rs) h = refl
  met_elsewhere (Domain r c) h = λ j. all_below i.size (λ x. implies (nat_le 1 (out_degree i r x)) (truth c x j))
  met_elsewhere (Range r c) h = λ j. all_below i.size (λ x. each_successor i r (λ y. truth c y j) x)
  met_elsewhere (Functional r) h = refl
  met_elsewhere (Transitive r) h = refl
  met_elsewhere (Member c a) h = absurd (cc h)
  met_elsewhere (Pair r a b) h = absurd (cc h)
  met_elsewhere (SameAll as_) h = absurd (cc h)
  met_elsewhere (Different as_) h = absurd (cc h)

  asked_alike : (on : On) (x : ℕ) → on ≡ Any → is_asked_at (placed_elsewhere i place) on x ≡ is_asked_at i on x
  asked_alike on x any =
      ap (λ o. is_asked_at (placed_elsewhere i place) o x) any ∙ sym (ap (λ o. is_asked_at i o x) any)

  pub refuted_elsewhere : (q : Query) (x : ℕ) → q.on ≡ Any
      → refutes_at (placed_elsewhere i place) q x ≡ refutes_at i q x
  refuted_elsewhere q x any = λ j. asked_alike q.on x any j && (truth q.sub x j && not (truth q.sup x j))
