-- The text of a workload: a kernel of seven axioms in which one query has eight justifications and three repairs, and
-- any number of groups of four axioms that have nothing to do with it.
use Rattle.std.specs.Prelude.{ℕ, zero, suc, ◌+◌, List, [], ◌∷◌, ◌++◌, codes, decimal}

-- a line with its line feed
abbrev pub line : List ℕ → List ℕ
line bytes = bytes ++ 10 ∷ []

-- two ways from each of Q0, Q1 and Q2 to the next, and a role below another
abbrev pub kernel_text : List ℕ
kernel_text =
    line (codes "Prefix(:=<http://example.org/w#>)")
    ++ (line (codes "Ontology(<http://example.org/w>")
    ++ (line (codes "SubClassOf(:Q0 :Q1)")
    ++ (line (codes "SubClassOf(:Q0 ObjectIntersectionOf(:Q1 :P0))")
    ++ (line (codes "SubClassOf(:Q1 :Q2)")
    ++ (line (codes "SubClassOf(:Q1 ObjectIntersectionOf(:Q2 :P1))")
    ++ (line (codes "SubClassOf(:Q2 :Q3)")
    ++ (line (codes "SubClassOf(:Q2 ObjectIntersectionOf(:Q3 :P2))")
    ++ line (codes "SubObjectPropertyOf(:s :r)"))))))))

-- a number after each of two pieces, or three, and then the last piece
abbrev pub with_two : ℕ → List ℕ → List ℕ → List ℕ → List ℕ
with_two k first second last = first ++ decimal k ++ second ++ decimal k ++ last

-- a text with the number of a group at three places
abbrev pub with_three : ℕ → List ℕ → List ℕ → List ℕ → List ℕ → List ℕ
with_three k first second third last = first ++ decimal k ++ second ++ decimal k ++ third ++ decimal k ++ last

-- each A has a B in the role, and two in the role below it; all that a B leads to is a C, and a C is an A or a D
abbrev pub some_text : ℕ → List ℕ
some_text k = with_two k (codes "SubClassOf(:A") (codes " ObjectSomeValuesFrom(:r :B") (codes "))")

-- the axiom of a group that has 'at least 2'
abbrev pub two_text : ℕ → List ℕ
two_text k = with_two k (codes "SubClassOf(:A") (codes " ObjectMinCardinality(2 :s :B") (codes "))")

-- the axiom of a group that has 'all'
abbrev pub all_text : ℕ → List ℕ
all_text k = with_two k (codes "SubClassOf(:B") (codes " ObjectAllValuesFrom(:r :C") (codes "))")

-- the axiom of a group that has a union
abbrev pub either_text : ℕ → List ℕ
either_text k = with_three k (codes "SubClassOf(:C") (codes " ObjectUnionOf(:A") (codes " :D") (codes "))")

-- the four lines of a group
abbrev pub group_text : ℕ → List ℕ
group_text k = line (some_text k) ++ line (two_text k) ++ line (all_text k) ++ line (either_text k)

-- the groups 1 to n
abbrev pub groups_text : ℕ → List ℕ
groups_text zero = []
groups_text (suc n) = groups_text n ++ group_text (n + 1)

-- the text of a workload of n groups
unfoldable pub workload_text : ℕ → List ℕ
workload_text n = kernel_text ++ groups_text n ++ line (codes ")")
