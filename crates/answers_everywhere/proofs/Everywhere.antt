-- What axioms that are read entail follows in every world.
use Rattle.std.proofs.Common.{◌≡◌, ◌↔◌, ℕ, ◌+◌, ◌-◌, ◌<◌, true, List, [], ◌∷◌, ◌++◌, length, Option, Some}
use Rattle.std.proofs.Common.{refl, ap, ◌∙◌, sym, subst, arith, append_assoc, length-append}
use Rattle.std.specs.List.{range_with_len, slice_get}
use Rattle.std.proofs.lemmas.Bool.{and_parts, and_from, lt-ltb}
use Rattle.std.proofs.lemmas.List.{append-nil}
use Rattle.shq_terms.specs.Concept.{Concept, top, bottom, name, complement, intersection, union, some_of, all_of}
use Rattle.shq_terms.specs.Concept.{at_least, at_most, exactly}
use Rattle.shq_terms.specs.Listed.{Listed}
use Rattle.shq_terms.specs.Uses.{uses_listed}
use Rattle.shq_nnf.specs.Counts.{has_counts_within}
use Rattle.shq_terms.specs.declared.axioms.Axiom.{Axiom}
use Rattle.shq_terms.specs.declared.axioms.Numbered.{Numbered}
use Rattle.shq_terms.specs.declared.axioms.On.TheVariants.{Any, Individual}
use Rattle.shq_terms.specs.declared.axioms.Query.{Query}
use Rattle.pinpointing_specs.specs.Truth.{Entails}
use Rattle.pinpointing_specs.specs.LocalModule.{of_axioms}
use Rattle.pinpointing_specs.specs.Sets.{member_list}
use Rattle.refutation_truth.specs.Theory.{axioms_in, named_axioms, all_axioms}
use Rattle.run_log.proofs.Named.{axioms_are}
use Rattle.search_laws.specs.Limits.{IsOntologyInLimit, IsInLimit, has_enough_parts}
use Rattle.search_laws.specs.Simple.{all_role_axioms, are_simple}
use Rattle.search_laws.specs.Counted.{counted_roles}
use Rattle.all_worlds.specs.Worlds.{World}
use Rattle.search_starts.specs.Laws.{FollowsInAll}
use Rattle.search_starts.proofs.Everywhere.{entailed_is_what_follows}
use Rattle.text_laws.specs.LimitLaws.{with_names}
use Rattle.text_laws.proofs.InLimit.{documents_in_limit, queries_in_limit, classes_in_limit}
use Rattle.job_inputs.specs.Questions.{has_element, follows}
use Rattle.answers_everywhere.specs.Laws.{IsOfWorld, QuestionsAreOfWorld, is_listed_class, IsOfNames, NamesAreOfWorld}
use Rattle.answers_everywhere.specs.Laws.{InstancesAreOfWorld}

-- ---- all axioms, by their numbers

behind : (before : List Numbered) (a : Numbered) (rest : List Numbered)
    → slice_get (before ++ a ∷ rest) (length before) ≡ Some a
behind [] a rest = refl
behind (b ∷ before) a rest = behind before a rest

-- the axioms of the numbers behind some
named_behind : (before rest : List Numbered)
    → named_axioms (before ++ rest) (range_with_len (length before + 1) (length rest)) ≡ all_axioms rest
named_behind before [] = refl
named_behind before (a ∷ rest) =
    let m : length before + 1 - 1 ≡ length before = omega arith in
    let all : List Numbered = before ++ a ∷ rest in
    let at : slice_get all (length before + 1 - 1) ≡ Some a = ap (slice_get all) m ∙ behind before a rest in
    let later : named_axioms all (range_with_len (length before + 1 + 1) (length rest)) ≡ all_axioms rest =
    subst
    (λ (as_ : List Numbered). named_axioms as_ (range_with_len (length before + 1 + 1) (length rest)) ≡ all_axioms rest)
    (append_assoc before (a ∷ []) rest)
    (subst
    (λ (n : ℕ). named_axioms ((before ++ a ∷ []) ++ rest) (range_with_len (n + 1) (length rest)) ≡ all_axioms rest)
    (length-append before (a ∷ [])) (named_behind (before ++ a ∷ []) rest)) in
    ap
    (λ (o : Option Numbered). axioms_in o
    ++ named_axioms all (range_with_len (length before + 1 + 1) (length rest)))
    at
    ∙ ap (λ (as_ : List Axiom). a.axiom ∷ as_) later

-- ---- questions within the limits

module _ {d : Type 0} (w : World d) where
  -- a query in limit
  pub of_world : (o : Listed) (q : Query) → IsInLimit o q → IsOfWorld w o.axioms q
  of_world o q within = record {
    all =
        subst (λ (as_ : List Axiom). Entails as_ q ↔ FollowsInAll w as_ q) (named_behind [] o.axioms)
        (entailed_is_what_follows w o (range_with_len (0 + 1) (length o.axioms)) q within);
    some =
        λ s is. subst (λ (as_ : List Axiom). Entails as_ q ↔ FollowsInAll w as_ q)
        (axioms_are o (of_axioms o.axioms s) (record { limit_is = refl; within = is }))
        (entailed_is_what_follows w o (member_list (of_axioms o.axioms s)) q within);
  }

  pub questions : QuestionsAreOfWorld w
  questions bytes o kept end document (follows statement) counts q asked =
      of_world (with_names o counts) q (queries_in_limit bytes o kept end document statement counts q asked)
  questions bytes o kept end document (has_element class) counts q asked =
      let nothing : Query = record { sub = q.sub; sup = bottom; on = Any } in
      let same : nothing ≡ q = λ i. record { sub = q.sub; sup = sym asked.1 i; on = sym asked.2 i } in
      of_world (with_names o counts) q
      (subst (IsInLimit (with_names o counts)) same
      (classes_in_limit bytes o kept end document class counts q.sub asked.0))

  -- ---- queries of names

  listed_uses : (n m : ℕ) (c : Concept) → is_listed_class n c ≡ true → uses_listed n m c ≡ true
  listed_uses n m top h = refl
  listed_uses n m bottom h = refl
  listed_uses n m (name a) h = h
  listed_uses n m (complement c) h = cc
  listed_uses n m (intersection cs) h = cc
  listed_uses n m (union cs) h = cc
  listed_uses n m (some_of r c) h = cc
  listed_uses n m (all_of r c) h = cc
  listed_uses n m (at_least k r c) h = cc
  listed_uses n m (at_most k r c) h = cc
  listed_uses n m (exactly k r c) h = cc

  record IsPlainClass (c : Concept) : Type 0 where
    items : has_enough_parts c ≡ true
    counts : has_counts_within 100 c ≡ true
    roles : counted_roles c ≡ []

  plain : (n : ℕ) (c : Concept) → is_listed_class n c ≡ true → IsPlainClass c
  plain n top h = record { items = refl; counts = refl; roles = refl }
  plain n bottom h = record { items = refl; counts = refl; roles = refl }
  plain n (name a) h = record { items = refl; counts = refl; roles = refl }
  plain n (complement c) h = cc
  plain n (intersection cs) h = cc
  plain n (union cs) h = cc
  plain n (some_of r c) h = cc
  plain n (all_of r c) h = cc
  plain n (at_least k r c) h = cc
  plain n (at_most k r c) h = cc
  plain n (exactly k r c) h = cc

  names_in_limit : (o : Listed) (q : Query) → IsOntologyInLimit o → IsOfNames o q → IsInLimit o q
  names_in_limit o q limit is =
      let sub = plain (length o.classes) q.sub is.sub in
      let sup = plain (length o.classes) q.sup is.sup in
      record {
        ontology = limit;
        listed =
            and_from (uses_listed (length o.classes) (length o.roles) q.sub)
            (uses_listed (length o.classes) (length o.roles) q.sup)
            (listed_uses (length o.classes) (length o.roles) q.sub is.sub)
            (listed_uses (length o.classes) (length o.roles) q.sup is.sup);
        items = and_from (has_enough_parts q.sub) (has_enough_parts q.sup) sub.items sup.items;
        counts = and_from (has_counts_within 100 q.sub) (has_counts_within 100 q.sup) sub.counts sup.counts;
        simple = ap (are_simple (all_role_axioms o.axioms)) (λ i. sub.roles i ++ sup.roles i);
        on_listed = is.on;
      }

  pub names : NamesAreOfWorld w
  names bytes o kept end document q is =
      of_world o q (names_in_limit o q (documents_in_limit bytes o kept end document) is)

  -- ---- instances

  instance_in_limit : (o : Listed) (c : Concept) (a : ℕ) → IsInLimit o (record { sub = c; sup = bottom; on = Any })
      → a < length o.individuals → IsInLimit o (record { sub = top; sup = c; on = Individual a })
  instance_in_limit o c a h lt = record {
    ontology = h.ontology;
    listed =
        (and_parts (uses_listed (length o.classes) (length o.roles) c)
        (uses_listed (length o.classes) (length o.roles) bottom) h.listed).0;
    items = (and_parts (has_enough_parts c) (has_enough_parts bottom) h.items).0;
    counts = (and_parts (has_counts_within 100 c) (has_counts_within 100 bottom) h.counts).0;
    simple = sym (ap (are_simple (all_role_axioms o.axioms)) (append-nil (counted_roles c))) ∙ h.simple;
    on_listed = lt-ltb a (length o.individuals) lt;
  }

  pub instances : InstancesAreOfWorld w
  instances bytes o kept end document class counts c is a lt =
      of_world (with_names o counts) (record { sub = top; sup = c; on = Individual a })
      (instance_in_limit (with_names o counts) c a
      (classes_in_limit bytes o kept end document class counts c is) lt)
