-- What axioms say, by what their items stand for.
use Rattle.std.proofs.Common.{◌≡◌, ℕ, List, [], ◌∷◌, length, Result, Ok, Err, refl, ap, sym, ◌∙◌, subst}
use Rattle.std.specs.Prelude.{IfOk, nat_lt, ◌&&◌}
use Rattle.std.specs.Result.{result_map_both}
use Rattle.std.proofs.lemmas.Bool.{and_from}
use Rattle.shq_terms.specs.Uses.{uses_listed}
use Rattle.shq_terms.specs.Concept.{Concept, top, Parts, parts_of, part_list}
use Rattle.shq_terms.specs.declared.axioms.Axiom.{Axiom}
use Rattle.shq_terms.specs.declared.axioms.Axiom.TheVariants as A
use Rattle.shq_terms.specs.declared.axioms.On.TheVariants.{Any, Individual}
use Rattle.shq_terms.specs.declared.axioms.Query.{Query}
use Rattle.ofn_tree.specs.Items.{Item, item, items_of}
use Rattle.ofn_expressions.specs.Counts.{Counts}
use Rattle.ofn_expressions.specs.Walk.{walked, Judged}
use Rattle.ofn_expressions.specs.Names.{Prefix}
use Rattle.ofn_expressions.specs.Classes.{class_tests, role_tests, joined, each_class, Means, MeanAll, MeansName}
use Rattle.ofn_expressions.specs.Classes.{MeansRole, MeanRoles, Keeps}
use Rattle.ofn_expressions.specs.Individuals.{individual_tests, MeansIndividual, MeanIndividuals}
use Rattle.ofn_expressions.proofs.Kept.{keeps_keeps, walked_keeps}
use Rattle.ofn_expressions.specs.declared.refusal.Refusal.{Refusal}
use Rattle.ofn_reader.specs.declared.operands.Membership.{Membership}
use Rattle.ofn_reader.specs.Axioms.{MeansAxiom}
use Rattle.ofn_reader.specs.Queries.{Asks, member_in, MeansPair, MeansMember}
use Rattle.ofn_reader.specs.declared.keywords.AxiomKind.TheVariants as K

list_of_parts : (cs : List Concept) → part_list (parts_of cs) ≡ cs
list_of_parts [] = refl
list_of_parts (c ∷ cs) = ap (λ l. c ∷ l) (list_of_parts cs)

abbrev sub_classes : List Query → List Axiom
sub_classes [] = []
sub_classes (q ∷ qs) = A.SubClassOf q.sub q.sup ∷ []

pub sub_class_means : (ps : List Prefix) (s : Counts) (a b : Item) (q : Query)
    → MeansPair ps s (items_of (a ∷ b ∷ [])) q
    → MeansAxiom ps s K.SubClassOf (items_of (a ∷ b ∷ [])) (A.SubClassOf q.sub q.sup)
sub_class_means ps s a b q means later keeps =
    let m = means later keeps in (
      ap sub_classes m.0,
      and_from (uses_listed (length later.classes) (length later.roles) q.sub)
          (uses_listed (length later.classes) (length later.roles) q.sup) m.1.0 m.1.1,
    )

pub member_means : (ps : List Prefix) (s : Counts) (a b : Item) (c : Concept) (n : ℕ) → MeansMember ps s a b c n
    → MeansAxiom ps s K.Member (items_of (a ∷ b ∷ [])) (A.Member c n)
member_means ps s a b c n means later keeps =
    let m = means later keeps in (
      (λ i. A.Member (m.0 i) (m.1 i) ∷ []),
      and_from (uses_listed (length later.classes) (length later.roles) c) (nat_lt n (length later.individuals)) m.2
          m.3,
    )

-- the question whether the individual is in the class
pub member_asked : (ps : List Prefix) (s : Counts) (a b : Item) (c : Concept) (n : ℕ) → MeansMember ps s a b c n
    → Asks s (λ later. member_in ps later (items_of (a ∷ b ∷ []))) (record { sub = top; sup = c; on = Individual n })
member_asked ps s a b c n means later keeps =
    let m = means later keeps in
    ((λ i. record { sub = top; sup = m.0 i; on = Individual (m.1 i) } ∷ []), (refl, m.2, m.3))

module _ (ps : List Prefix) (mid new : Counts) where
  pair_means : (a b : Item) (c d : Concept) → Means ps mid a c → walked mid (class_tests ps b) ≡ Ok new
      → Means ps new b d → MeansPair ps new (items_of (a ∷ b ∷ [])) (record { sub = c; sup = d; on = Any })
  pair_means a b c d first read second later keeps =
      let f = first later (keeps_keeps mid new later (walked_keeps mid (class_tests ps b) new read) keeps) in
      let s = second later keeps in
      ((λ i. record { sub = f.0 i; sup = s.0 i; on = Any } ∷ []), (f.1, s.1, tt))

  -- the pair of an expression that was read and one that is read now, if it is
  pub pair_value : (a b : Item) (c : Concept) (r : Result Concept Refusal) (out : Result Query Refusal)
      → out ≡ result_map_both (λ d. record { sub = c; sup = d; on = Any }) (λ e. e) r → Means ps mid a c
      → Judged r mid (class_tests ps b) new → IfOk r (Means ps new b)
      → IfOk out (MeansPair ps new (items_of (a ∷ b ∷ [])))
  pair_value a b c (Ok d) out is first read second =
      subst (λ o. IfOk o (MeansPair ps new (items_of (a ∷ b ∷ [])))) (sym is) (pair_means a b c d first read second)
  pair_value a b c (Err e) out is first read second =
      subst (λ o. IfOk o (MeansPair ps new (items_of (a ∷ b ∷ [])))) (sym is) tt

  pub union_means : (n : Item) (is : List Item) (c : Concept) (cs : List Concept) → MeansName ps mid n c
      → walked mid (joined (each_class ps (items_of is))) ≡ Ok new → MeanAll ps new (items_of is) (parts_of cs)
      → MeansAxiom ps new K.DisjointUnion (item n (items_of is)) (A.DisjointUnion c cs)
  union_means n is c cs first read second later keeps =
      let f =
      first later
      (keeps_keeps mid new later (walked_keeps mid (joined (each_class ps (items_of is))) new read) keeps) in
      let s = second later keeps in (
        (λ i. A.DisjointUnion (f.0 i) (part_list (s.0 i)) ∷ []) ∙ ap (λ l. A.DisjointUnion c l ∷ []) (list_of_parts cs),
        rw f.1 s.1,
      )

  pub sub_role_means : (a b : Item) (p q : ℕ) → MeansRole ps mid a p → walked mid (role_tests ps b) ≡ Ok new
      → MeansRole ps new b q → MeansAxiom ps new K.SubRole (items_of (a ∷ b ∷ [])) (A.SubRole p q)
  sub_role_means a b p q first read second later keeps =
      let f = first later (keeps_keeps mid new later (walked_keeps mid (role_tests ps b) new read) keeps) in
      let s = second later keeps in
      ((λ i. A.SubRole (f.0 i) (s.0 i) ∷ []), rw f.1 s.1)

  -- an expression that was read, and then an individual
  members_mean : (a b : Item) (c : Concept) (n : ℕ) → Means ps mid a c → walked mid (individual_tests ps b) ≡ Ok new
      → MeansIndividual ps new b n → MeansMember ps new a b c n
  members_mean a b c n first read second later keeps =
      let f = first later (keeps_keeps mid new later (walked_keeps mid (individual_tests ps b) new read) keeps) in
      let s = second later keeps in
      (f.0, s.0, f.1, s.1)

  -- an expression that was read, and an individual that is read now, if it is
  pub member_value : (a b : Item) (c : Concept) (r : Result ℕ Refusal) (out : Result Membership Refusal)
      → out ≡ result_map_both (λ n. record { class = c; individual = n }) (λ e. e) r → Means ps mid a c
      → Judged r mid (individual_tests ps b) new → IfOk r (MeansIndividual ps new b)
      → IfOk out (λ m. MeansMember ps new a b m.class m.individual)
  member_value a b c (Ok n) out is first read second =
      subst (λ o. IfOk o (λ m. MeansMember ps new a b m.class m.individual)) (sym is)
      (members_mean a b c n first read second)
  member_value a b c (Err e) out is first read second =
      subst (λ o. IfOk o (λ m. MeansMember ps new a b m.class m.individual)) (sym is) tt

  -- a role that was read, then an individual, and then another
  pub pair_axiom_means : (last : Counts) (r a b : Item) (p n m : ℕ) → MeansRole ps mid r p
      → walked mid (individual_tests ps a) ≡ Ok new → MeansIndividual ps new a n
      → walked new (individual_tests ps b) ≡ Ok last → MeansIndividual ps last b m
      → MeansAxiom ps last K.Pair (items_of (r ∷ a ∷ b ∷ [])) (A.Pair p n m)
  pair_axiom_means last r a b p n m first read second behind third later keeps =
      let kept : Keeps new later =
      keeps_keeps new last later (walked_keeps new (individual_tests ps b) last behind) keeps in
      let f = first later (keeps_keeps mid new later (walked_keeps mid (individual_tests ps a) new read) kept) in
      let s = second later kept in
      let t = third later keeps in (
        (λ i. A.Pair (f.0 i) (s.0 i) (t.0 i) ∷ []),
        and_from (nat_lt p (length later.roles))
            (nat_lt n (length later.individuals) && nat_lt m (length later.individuals)) f.1
            (and_from (nat_lt n (length later.individuals)) (nat_lt m (length later.individuals)) s.1 t.1),
      )

  module _ (r b : Item) (p : ℕ) (c : Concept) (first : MeansRole ps mid r p)
      (read : walked mid (class_tests ps b) ≡ Ok new) (second : Means ps new b c) where
    pub domain_means : MeansAxiom ps new K.Domain (items_of (r ∷ b ∷ [])) (A.Domain p c)
    domain_means later keeps =
        let f = first later (keeps_keeps mid new later (walked_keeps mid (class_tests ps b) new read) keeps) in
        let s = second later keeps in
        ((λ i. A.Domain (f.0 i) (s.0 i) ∷ []), rw f.1 s.1)

    pub range_means : MeansAxiom ps new K.Range (items_of (r ∷ b ∷ [])) (A.Range p c)
    range_means later keeps =
        let f = first later (keeps_keeps mid new later (walked_keeps mid (class_tests ps b) new read) keeps) in
        let s = second later keeps in
        ((λ i. A.Range (f.0 i) (s.0 i) ∷ []), rw f.1 s.1)

module _ (ps : List Prefix) (s : Counts) where
  pub equivalent_classes_mean : (is : List Item) (cs : List Concept) → MeanAll ps s (items_of is) (parts_of cs)
      → MeansAxiom ps s K.EquivalentClasses (items_of is) (A.EquivalentClasses cs)
  equivalent_classes_mean is cs all later keeps =
      let m = all later keeps in (
        ap (λ (l : Parts). A.EquivalentClasses (part_list l) ∷ []) m.0
            ∙ ap (λ l. A.EquivalentClasses l ∷ []) (list_of_parts cs),
        m.1,
      )

  pub disjoint_classes_mean : (is : List Item) (cs : List Concept) → MeanAll ps s (items_of is) (parts_of cs)
      → MeansAxiom ps s K.DisjointClasses (items_of is) (A.DisjointClasses cs)
  disjoint_classes_mean is cs all later keeps =
      let m = all later keeps in (
        ap (λ (l : Parts). A.DisjointClasses (part_list l) ∷ []) m.0
            ∙ ap (λ l. A.DisjointClasses l ∷ []) (list_of_parts cs),
        m.1,
      )

  pub equivalent_roles_mean : (is : List Item) (rs : List ℕ) → MeanRoles ps s (items_of is) rs
      → MeansAxiom ps s K.EquivalentRoles (items_of is) (A.EquivalentRoles rs)
  equivalent_roles_mean is rs all later keeps = let m = all later keeps in (ap (λ l. A.EquivalentRoles l ∷ []) m.0, m.1)

  pub same_mean : (is : List Item) (as_ : List ℕ) → MeanIndividuals ps s (items_of is) as_
      → MeansAxiom ps s K.SameAll (items_of is) (A.SameAll as_)
  same_mean is as_ all later keeps = let m = all later keeps in (ap (λ l. A.SameAll l ∷ []) m.0, m.1)

  pub different_mean : (is : List Item) (as_ : List ℕ) → MeanIndividuals ps s (items_of is) as_
      → MeansAxiom ps s K.Different (items_of is) (A.Different as_)
  different_mean is as_ all later keeps = let m = all later keeps in (ap (λ l. A.Different l ∷ []) m.0, m.1)

  pub functional_means : (r : Item) (p : ℕ) → MeansRole ps s r p
      → MeansAxiom ps s K.Functional (items_of (r ∷ [])) (A.Functional p)
  functional_means r p one later keeps = let m = one later keeps in (ap (λ l. A.Functional l ∷ []) m.0, m.1)

  pub transitive_means : (r : Item) (p : ℕ) → MeansRole ps s r p
      → MeansAxiom ps s K.Transitive (items_of (r ∷ [])) (A.Transitive p)
  transitive_means r p one later keeps = let m = one later keeps in (ap (λ l. A.Transitive l ∷ []) m.0, m.1)
