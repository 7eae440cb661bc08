-- Facts over numbers of a table, read as facts over the trees of these numbers.
use Rattle.std.specs.Prelude.{ℕ, nat_lt, Bool, true, List, map}
use Rattle.std.specs.List.{list_all}
use Rattle.calculus_specs.specs.declared.facts.Fact.{Fact}
use Rattle.calculus_specs.specs.declared.facts.Fact.TheVariants.{Has, Edge, Apart, Same}

-- a fact with its concept read as another one
abbrev pub read_fact : {C D : Type 0} → (C → D) → Fact C → Fact D
read_fact read (Has x c) = Has x (read c)
read_fact read (Edge r x y) = Edge r x y
read_fact read (Apart x y) = Apart x y
read_fact read (Same x y) = Same x y

-- facts with their concepts read as others
abbrev pub read_facts : {C D : Type 0} → (C → D) → List (Fact C) → List (Fact D)
read_facts read fs = map (read_fact read) fs

-- whether the fact's concept, if it has one, is among the first n numbers
abbrev pub is_fact_listed : ℕ → Fact ℕ → Bool
is_fact_listed n (Has x c) = nat_lt c n
is_fact_listed n (Edge r x y) = true
is_fact_listed n (Apart x y) = true
is_fact_listed n (Same x y) = true

-- the facts have numbers of concepts below n alone
abbrev pub are_listed : ℕ → List (Fact ℕ) → Bool
are_listed n fs = list_all (is_fact_listed n) fs
