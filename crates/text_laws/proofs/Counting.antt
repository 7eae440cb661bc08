-- What counts keep while tests hold.
use Rattle.std.proofs.Common.{◌≡◌, ℕ, ◌+◌, ◌≤◌, Bool, true, false, cond, List, [], ◌∷◌, ◌++◌, length, position, Option}
use Rattle.std.proofs.Common.{Some, None, Result, Ok, Err, refl, sym, ◌∙◌, arith}
use Rattle.std.specs.List.{list_all}
use Rattle.std.specs.Str.{bytes_eq}
use Rattle.std.proofs.lemmas.List.Folds.{list_all-append}
use Rattle.std.proofs.lemmas.Bool.{and_from}
use Rattle.shq_terms.specs.Names.{with_at, with_name}
use Rattle.shq_terms.specs.Distinct.{AreDistinct}
use Rattle.shq_terms.proofs.Distinct.{pushed_distinct}
use Rattle.ofn_expressions.specs.Counts.{Counts}
use Rattle.ofn_expressions.specs.Walk.{Test, numbered, parts, nodes, class, role, individual, holds, refusal}
use Rattle.ofn_expressions.specs.Walk.{counts_after, after_all, outcomes, first_failing, verdict, walked}
use Rattle.ofn_expressions.specs.Names.{Prefix}
use Rattle.ofn_expressions.specs.Classes.{Keeps}
use Rattle.ofn_expressions.specs.declared.refusal.Refusal.{Refusal}
use Rattle.ofn_expressions.proofs.Walks.{walked-cons, walked_append, then}
use Rattle.ofn_expressions.proofs.Kept.{keeps_keeps, walked_keeps}
use Rattle.text_laws.specs.Writable.{is_iri, is_class_iri, is_role_iri}
use Rattle.text_laws.proofs.Checks.{true_le}
use Rattle.text_laws.proofs.GoodNames.{AreGoodPrefixes}

-- ---- lists of tests that hold

pub record Holds (s : Counts) (t : Test) (ts : List Test) (new : Counts) : Type 0 where
  pub now : holds s t ≡ true
  pub later : walked (counts_after s t) ts ≡ Ok new

pub record Both (s : Counts) (ts us : List Test) (new : Counts) : Type 0 where
  pub mid : Counts
  pub first : walked s ts ≡ Ok mid
  pub second : walked mid us ≡ Ok new

holds_by : (b : Bool) (r : Result Counts Refusal) (e : Refusal) (new : Counts) → cond b r (Err e) ≡ Ok new
    → (b ≡ true) × (r ≡ Ok new)
holds_by true r e new h = (refl, h)
holds_by false r e new h = let clash : ◌≡◌ {A = Result Counts Refusal} (Err e) (Ok new) = h in absurd (cc clash)

pub held : (s : Counts) (t : Test) (ts : List Test) (new : Counts) → walked s (t ∷ ts) ≡ Ok new → Holds s t ts new
held s t ts new h =
    let both = holds_by (holds s t) (walked (counts_after s t) ts) (refusal t) new (sym (walked-cons s t ts) ∙ h) in
    record { now = both.0; later = both.1 }

then_by : (s : Counts) (ts us : List Test) (new : Counts) (r : Result Counts Refusal) → walked s ts ≡ r →
    then r us ≡ Ok new → Both s ts us new
then_by s ts us new (Ok mid) first second = record { mid = mid; first = first; second = second }
then_by s ts us new (Err e) first second =
    let clash : ◌≡◌ {A = Result Counts Refusal} (Err e) (Ok new) = second in absurd (cc clash)

pub both : (s : Counts) (ts us : List Test) (new : Counts) → walked s (ts ++ us) ≡ Ok new → Both s ts us new
both s ts us new h = then_by s ts us new (walked s ts) refl (sym (walked_append s ts us) ∙ h)

pub nothing_held : (s new : Counts) → walked s [] ≡ Ok new → s ≡ new
nothing_held s new h = cc

-- a test that cannot hold
pub never : (s new : Counts) (t : Test) (ts : List Test) → holds s t ≡ false → walked s (t ∷ ts) ≡ Ok new → ⊥
never s new t ts fails h = let now : true ≡ false = sym (held s t ts new h).now ∙ fails in absurd (cc now)

verdict_ok : (r : Option Refusal) (s t : Counts) → verdict r s ≡ Ok t → s ≡ t
verdict_ok None s t h = cc
verdict_ok (Some e) s t h = let clash : ◌≡◌ {A = Result Counts Refusal} (Err e) (Ok t) = h in absurd (cc clash)

-- the counts behind tests that hold
pub walked_after : (s : Counts) (ts : List Test) (t : Counts) → walked s ts ≡ Ok t → after_all s ts ≡ t
walked_after s ts t h = verdict_ok (first_failing (outcomes s ts)) (after_all s ts) t h

-- names that were listed are kept
pub keeps_before : (s mid new final : Counts) (us : List Test) → walked mid us ≡ Ok new → Keeps new final
    → Keeps mid final
keeps_before s mid new final us second keeps = keeps_keeps mid new final (walked_keeps mid us new second) keeps

-- ---- counts of what can be written

pub record IsWithin (s : Counts) : Type 0 where
  pub class_iris : list_all is_class_iri s.classes ≡ true
  pub role_iris : list_all is_role_iri s.roles ≡ true
  pub individual_iris : list_all is_iri s.individuals ≡ true
  pub distinct_classes : AreDistinct s.classes
  pub distinct_roles : AreDistinct s.roles
  pub distinct_individuals : AreDistinct s.individuals
  pub few_classes : length s.classes ≤ 20000
  pub few_roles : length s.roles ≤ 1000
  pub few_individuals : length s.individuals ≤ 20000
  pub few_axioms : s.axioms ≤ 20000
  pub few_parts : s.parts ≤ 500000
  pub few_nodes : s.nodes ≤ 262144

all_with : (p : List ℕ → Bool) (names : List (List ℕ)) (w : List ℕ) → list_all p names ≡ true → p w ≡ true
    → list_all p (with_name names w) ≡ true
all_with p names w all good = by (position (bytes_eq w) names)
  where
    by : (r : Option ℕ) → list_all p (with_at r names w) ≡ true
    by (Some k) = all
    by None =
        list_all-append p names (w ∷ [])
        ∙ and_from (list_all p names) (list_all p (w ∷ [])) all (and_from (p w) true good refl)

distinct_with : (names : List (List ℕ)) (w : List ℕ) → AreDistinct names → AreDistinct (with_name names w)
distinct_with names w distinct = by (position (bytes_eq w) names) refl
  where
    by : (r : Option ℕ) → position (bytes_eq w) names ≡ r → AreDistinct (with_at r names w)
    by (Some k) found = distinct
    by None found = pushed_distinct names w found distinct

pub class_within : (s : Counts) (n : ℕ) (w : List ℕ) → holds s (class n w) ≡ true → is_class_iri w ≡ true → IsWithin s
    → IsWithin (counts_after s (class n w))
class_within s n w h good within = record {
  class_iris = all_with is_class_iri s.classes w within.class_iris good;
  role_iris = within.role_iris;
  individual_iris = within.individual_iris;
  distinct_classes = distinct_with s.classes w within.distinct_classes;
  distinct_roles = within.distinct_roles;
  distinct_individuals = within.distinct_individuals;
  few_classes = true_le (length (with_name s.classes w)) 20000 h;
  few_roles = within.few_roles;
  few_individuals = within.few_individuals;
  few_axioms = within.few_axioms;
  few_parts = within.few_parts;
  few_nodes = within.few_nodes;
}

pub role_within : (s : Counts) (n : ℕ) (w : List ℕ) → holds s (role n w) ≡ true → is_role_iri w ≡ true → IsWithin s
    → IsWithin (counts_after s (role n w))
role_within s n w h good within = record {
  class_iris = within.class_iris;
  role_iris = all_with is_role_iri s.roles w within.role_iris good;
  individual_iris = within.individual_iris;
  distinct_classes = within.distinct_classes;
  distinct_roles = distinct_with s.roles w within.distinct_roles;
  distinct_individuals = within.distinct_individuals;
  few_classes = within.few_classes;
  few_roles = true_le (length (with_name s.roles w)) 1000 h;
  few_individuals = within.few_individuals;
  few_axioms = within.few_axioms;
  few_parts = within.few_parts;
  few_nodes = within.few_nodes;
}

pub individual_within : (s : Counts) (n : ℕ) (w : List ℕ) → holds s (individual n w) ≡ true → is_iri w ≡ true
    → IsWithin s → IsWithin (counts_after s (individual n w))
individual_within s n w h good within = record {
  class_iris = within.class_iris;
  role_iris = within.role_iris;
  individual_iris = all_with is_iri s.individuals w within.individual_iris good;
  distinct_classes = within.distinct_classes;
  distinct_roles = within.distinct_roles;
  distinct_individuals = distinct_with s.individuals w within.distinct_individuals;
  few_classes = within.few_classes;
  few_roles = within.few_roles;
  few_individuals = true_le (length (with_name s.individuals w)) 20000 h;
  few_axioms = within.few_axioms;
  few_parts = within.few_parts;
  few_nodes = within.few_nodes;
}

pub nodes_within : (s : Counts) (n k : ℕ) → holds s (nodes n k) ≡ true → IsWithin s
    → IsWithin (counts_after s (nodes n k))
nodes_within s n k h within = record {
  class_iris = within.class_iris;
  role_iris = within.role_iris;
  individual_iris = within.individual_iris;
  distinct_classes = within.distinct_classes;
  distinct_roles = within.distinct_roles;
  distinct_individuals = within.distinct_individuals;
  few_classes = within.few_classes;
  few_roles = within.few_roles;
  few_individuals = within.few_individuals;
  few_axioms = within.few_axioms;
  few_parts = within.few_parts;
  few_nodes = true_le (s.nodes + k) 262144 h;
}

pub numbered_within : (s : Counts) (n : ℕ) → holds s (numbered n) ≡ true → IsWithin s
    → IsWithin (counts_after s (numbered n))
numbered_within s n h within = record {
  class_iris = within.class_iris;
  role_iris = within.role_iris;
  individual_iris = within.individual_iris;
  distinct_classes = within.distinct_classes;
  distinct_roles = within.distinct_roles;
  distinct_individuals = within.distinct_individuals;
  few_classes = within.few_classes;
  few_roles = within.few_roles;
  few_individuals = within.few_individuals;
  few_axioms = true_le (s.axioms + 1) 20000 h;
  few_parts = within.few_parts;
  few_nodes = within.few_nodes;
}

pub parts_within : (s : Counts) (n k : ℕ) → holds s (parts n k) ≡ true → IsWithin s
    → IsWithin (counts_after s (parts n k))
parts_within s n k h within = record {
  class_iris = within.class_iris;
  role_iris = within.role_iris;
  individual_iris = within.individual_iris;
  distinct_classes = within.distinct_classes;
  distinct_roles = within.distinct_roles;
  distinct_individuals = within.distinct_individuals;
  few_classes = within.few_classes;
  few_roles = within.few_roles;
  few_individuals = within.few_individuals;
  few_axioms = within.few_axioms;
  few_parts = true_le (s.parts + k) 500000 h;
  few_nodes = within.few_nodes;
}

-- ---- how far the counts rise

-- by so many axioms, parts and nodes; where the prefixes stand for IRIs, so do the names that are listed
pub record Rises (ps : List Prefix) (s new : Counts) (x p n : ℕ) : Type 0 where
  pub axioms : new.axioms ≡ s.axioms + x
  pub parts : new.parts ≡ s.parts + p
  pub nodes : new.nodes ≡ s.nodes + n
  pub within : AreGoodPrefixes ps → IsWithin s → IsWithin new

pub rises_not : (ps : List Prefix) (s : Counts) → Rises ps s s 0 0 0
rises_not ps s = record { axioms = omega arith; parts = omega arith; nodes = omega arith; within = λ prefixes h. h }

pub rises_both : (ps : List Prefix) (s mid new : Counts) (x p n y q m : ℕ) → Rises ps s mid x p n
    → Rises ps mid new y q m → Rises ps s new (x + y) (p + q) (n + m)
rises_both ps s mid new x p n y q m first second = record {
  axioms = omega (arith, first.axioms, second.axioms);
  parts = omega (arith, first.parts, second.parts);
  nodes = omega (arith, first.nodes, second.nodes);
  within = λ prefixes h. second.within prefixes (first.within prefixes h);
}

pub rises_as : (ps : List Prefix) (s new : Counts) (x p n y q m : ℕ) → x ≡ y → p ≡ q → n ≡ m → Rises ps s new x p n
    → Rises ps s new y q m
rises_as ps s new x p n y q m a b c rises = record {
  axioms = omega (arith, a, rises.axioms);
  parts = omega (arith, b, rises.parts);
  nodes = omega (arith, c, rises.nodes);
  within = rises.within;
}

pub rises_nodes : (ps : List Prefix) (s : Counts) (n k : ℕ) → holds s (nodes n k) ≡ true
    → Rises ps s (counts_after s (nodes n k)) 0 0 k
rises_nodes ps s n k h =
    record { axioms = omega arith; parts = omega arith; nodes = refl; within = λ prefixes. nodes_within s n k h }

pub rises_class : (ps : List Prefix) (s : Counts) (n : ℕ) (w : List ℕ) → holds s (class n w) ≡ true
    → (AreGoodPrefixes ps → is_class_iri w ≡ true) → Rises ps s (counts_after s (class n w)) 0 0 0
rises_class ps s n w h good = record {
  axioms = omega arith;
  parts = omega arith;
  nodes = omega arith;
  within = λ prefixes. class_within s n w h (good prefixes);
}

pub rises_role : (ps : List Prefix) (s : Counts) (n : ℕ) (w : List ℕ) → holds s (role n w) ≡ true
    → (AreGoodPrefixes ps → is_role_iri w ≡ true) → Rises ps s (counts_after s (role n w)) 0 0 0
rises_role ps s n w h good = record {
  axioms = omega arith;
  parts = omega arith;
  nodes = omega arith;
  within = λ prefixes. role_within s n w h (good prefixes);
}

pub rises_individual : (ps : List Prefix) (s : Counts) (n : ℕ) (w : List ℕ) → holds s (individual n w) ≡ true
    → (AreGoodPrefixes ps → is_iri w ≡ true) → Rises ps s (counts_after s (individual n w)) 0 0 0
rises_individual ps s n w h good = record {
  axioms = omega arith;
  parts = omega arith;
  nodes = omega arith;
  within = λ prefixes. individual_within s n w h (good prefixes);
}

pub rises_numbered : (ps : List Prefix) (s : Counts) (n : ℕ) → holds s (numbered n) ≡ true
    → Rises ps s (counts_after s (numbered n)) 1 0 0
rises_numbered ps s n h =
    record { axioms = refl; parts = omega arith; nodes = omega arith; within = λ prefixes. numbered_within s n h }

pub rises_parts : (ps : List Prefix) (s : Counts) (n k : ℕ) → holds s (parts n k) ≡ true
    → Rises ps s (counts_after s (parts n k)) 0 k 0
rises_parts ps s n k h =
    record { axioms = omega arith; parts = refl; nodes = omega arith; within = λ prefixes. parts_within s n k h }
