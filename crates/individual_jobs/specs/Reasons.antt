-- Why the listed individuals are in a class expression, and the text that says it.
use Rattle.std.specs.Prelude.{ℕ, List, [], ◌∷◌, ◌++◌, length, map, codes, decimal}
use Rattle.std.specs.List.{Contains, flat_map}
use Rattle.axiom_sets.specs.Sets.{Limited}
use Rattle.shq_terms.specs.Concept.{Concept}
use Rattle.shq_terms.specs.Listed.{Listed}
use Rattle.ofn_writer.specs.Canonical.{individual_text, items_text, line}
use Rattle.pinpointing_jobs.specs.declared.wanted.Wanted.TheVariants.{Justifications}
use Rattle.pinpointing_jobs.specs.SetLists.{is_listed, axiom_lines, set_lines}
use Rattle.pinpointing_jobs.specs.Wanted.{HasAll}
use Rattle.realizer.specs.Instances.{instance_query, AreInstances}
use Rattle.individual_jobs.specs.ReasonLists.{ReasonLists}

-- ---- reasons

-- the individual of which the reasons are
abbrev pub individual_of : ReasonLists → ℕ
individual_of r = r.individual

abbrev pub sets_of : ReasonLists → List Limited
sets_of r = r.justifications

-- all sets of all individuals
abbrev pub all_sets : List ReasonLists → List Limited
all_sets rs = flat_map sets_of rs

-- the justifications of the individual's being an instance, all of them and each once, in the order of sets
abbrev pub HasAllReasons : Listed → Concept → ReasonLists → Type 0
HasAllReasons o c r = HasAll Justifications o (instance_query c r.individual) r.justifications

-- these are just the instances among the listed individuals, in list order, each with all its justifications
pub record AreReasons (o : Listed) (c : Concept) (rs : List ReasonLists) : Type 0 where
  pub instances : AreInstances o c (map individual_of rs)
  pub reasons : (r : ReasonLists) → Contains rs r → HasAllReasons o c r

-- ---- their text

-- `instance`, its name, `justifications`, and how many there are
abbrev pub instance_line : Listed → ReasonLists → List ℕ
instance_line o r =
    line (items_text (codes "instance" ∷ individual_text o r.individual ∷ codes "justifications"
    ∷ decimal (length r.justifications) ∷ []))

-- for each of them this line, and one for each of its sets
abbrev pub reason_lines : Listed → List ReasonLists → List ℕ
reason_lines o [] = []
reason_lines o (r ∷ rs) = instance_line o r ++ (set_lines r.justifications ++ reason_lines o rs)

-- and then each axiom that is in some set of some individual
abbrev pub reasons_text : Listed → List ReasonLists → List ℕ
reasons_text o rs = reason_lines o rs ++ axiom_lines o (is_listed (all_sets rs)) 1 o.axioms
