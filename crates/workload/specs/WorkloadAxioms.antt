-- What the text of a workload says: its names, each with the number of its first place in the text, and its axioms.
use Rattle.std.specs.Prelude.{ℕ, zero, suc, ◌+◌, ◌*◌, List, [], ◌∷◌, ◌++◌, codes, decimal}
use Rattle.shq_terms.specs.Concept.{name, intersection, union, some_of, all_of, at_least, part, no_parts}
use Rattle.shq_terms.specs.declared.axioms.Axiom.{Axiom}
use Rattle.shq_terms.specs.declared.axioms.Axiom.TheVariants.{SubClassOf, SubRole}

-- ---- names

-- the IRI that stands before each name of a workload
abbrev pub prefix_iri_of_workloads : List ℕ
prefix_iri_of_workloads = codes "http://example.org/w#"

-- the IRI of a name behind the colon
unfoldable pub full_name : List ℕ → List ℕ
full_name local = prefix_iri_of_workloads ++ local

-- the names of the classes of the seven first axioms, in the order in which they are met
abbrev pub kernel_classes : List (List ℕ)
kernel_classes =
    full_name (codes "Q0") ∷ full_name (codes "Q1") ∷ full_name (codes "P0") ∷ full_name (codes "Q2")
    ∷ full_name (codes "P1") ∷ full_name (codes "Q3") ∷ full_name (codes "P2") ∷ []

-- the name of a class that is a letter and a number
abbrev pub numbered_class : List ℕ → ℕ → List ℕ
numbered_class letter k = full_name (letter ++ decimal k)

-- the names of the four classes of a group
abbrev pub group_classes : ℕ → List (List ℕ)
group_classes k =
    numbered_class (codes "A") k ∷ numbered_class (codes "B") k ∷ numbered_class (codes "C") k
    ∷ numbered_class (codes "D") k ∷ []

-- those of the kernel, and then those of the groups 1 to n
abbrev pub workload_classes : ℕ → List (List ℕ)
workload_classes zero = kernel_classes
workload_classes (suc n) = workload_classes n ++ group_classes (n + 1)

-- the names of the roles, in the order in which they are met
abbrev pub workload_roles : List (List ℕ)
workload_roles = full_name (codes "s") ∷ full_name (codes "r") ∷ []

-- ---- axioms

-- the lower role, and the one above it
abbrev pub role_s : ℕ
role_s = 0

-- the number of the role r
abbrev pub role_r : ℕ
role_r = 1

-- the seven first axioms
abbrev pub kernel_axioms : List Axiom
kernel_axioms =
    SubClassOf (name 0) (name 1)
    ∷ SubClassOf (name 0) (intersection (part (name 1) (part (name 2) no_parts)))
    ∷ SubClassOf (name 1) (name 3)
    ∷ SubClassOf (name 1) (intersection (part (name 3) (part (name 4) no_parts)))
    ∷ SubClassOf (name 3) (name 5)
    ∷ SubClassOf (name 3) (intersection (part (name 5) (part (name 6) no_parts)))
    ∷ SubRole role_s role_r
    ∷ []

-- the numbers of the four classes of a group
abbrev pub class_a : ℕ → ℕ
class_a k = 4 * k + 3

-- the number of the class B of a group
abbrev pub class_b : ℕ → ℕ
class_b k = 4 * k + 4

-- the number of the class C of a group
abbrev pub class_c : ℕ → ℕ
class_c k = 4 * k + 5

-- the number of the class D of a group
abbrev pub class_d : ℕ → ℕ
class_d k = 4 * k + 6

-- the four axioms of a group
abbrev pub group_axioms : ℕ → List Axiom
group_axioms k =
    SubClassOf (name (class_a k)) (some_of role_r (name (class_b k)))
    ∷ SubClassOf (name (class_a k)) (at_least 2 role_s (name (class_b k)))
    ∷ SubClassOf (name (class_b k)) (all_of role_r (name (class_c k)))
    ∷ SubClassOf (name (class_c k)) (union (part (name (class_a k)) (part (name (class_d k)) no_parts)))
    ∷ []

-- those of the kernel, and then those of the groups 1 to n
abbrev pub workload_axioms : ℕ → List Axiom
workload_axioms zero = kernel_axioms
workload_axioms (suc n) = workload_axioms n ++ group_axioms (n + 1)
