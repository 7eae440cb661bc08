-- The entries of a log: what they spend, and which questions they answer.
use Rattle.std.specs.Prelude.{◌≡◌, ℕ, Bool, true, false, List, [], ◌∷◌, Contains, sum_by, count_by}
use Rattle.pinpointing_specs.specs.NumberSets.{IsPart}
use Rattle.pinpointing_specs.specs.Sets.{Limited}
use Rattle.shq_terms.specs.declared.axioms.Query.{Query}
use Rattle.run_log.specs.declared.entry.Entry.{Entry}
use Rattle.run_log.specs.declared.entry.Entry.TheVariants.{Test, Node}
use Rattle.run_log.specs.declared.entry.TestEnd.{TestEnd}
use Rattle.run_log.specs.declared.entry.TestEnd.TheVariants.{Yes, No, Spent}

-- ---- what was spent

-- a step costs one, and so does a node
abbrev pub cost_of : Entry → ℕ
cost_of (Test s q steps e) = steps
cost_of (Node s) = 1

-- how many steps a log has spent
abbrev pub spent_of : List Entry → ℕ
spent_of log = sum_by cost_of log

-- ---- which entries are what

-- whether the entry is a test
abbrev pub is_test : Entry → Bool
is_test (Test s q steps e) = true
is_test (Node s) = false

-- the sets of the nodes, in order
abbrev pub nodes_of : List Entry → List Limited
nodes_of [] = []
nodes_of (Test s q steps e ∷ es) = nodes_of es
nodes_of (Node s ∷ es) = s ∷ nodes_of es

-- how many tests a log has
abbrev pub test_count : List Entry → ℕ
test_count log = count_by is_test log

-- whether a test ended since the budget was spent
abbrev pub ended_spent : TestEnd → Bool
ended_spent (Yes u) = false
ended_spent No = false
ended_spent (Spent t) = true

-- whether the entry is a test that spent the budget
abbrev pub is_spent : Entry → Bool
is_spent (Test s q steps e) = ended_spent e
is_spent (Node s) = false

-- ---- answers

-- a test of a set answers whether a query follows from the asked set: it found axioms of the asked set from which it
-- follows, or that it does not follow from more than the asked set
abbrev pub EndAnswers : Limited → TestEnd → Limited → Type 0
EndAnswers s (Yes u) asked = IsPart u.members asked.members
EndAnswers s No asked = IsPart asked.members s.members
EndAnswers s (Spent t) asked = ⊥

-- the entry answers whether the query follows from the asked set
abbrev pub AnswersQuery : Entry → Limited → Query → Type 0
AnswersQuery (Test s p steps e) asked q = (p ≡ q) × EndAnswers s e asked
AnswersQuery (Node s) asked q = ⊥

-- some entry of the log does
abbrev pub IsAnswered : List Entry → Limited → Query → Type 0
IsAnswered log asked q = (e : Entry) × Contains log e × AnswersQuery e asked q
