-- The interpretation of a structure over role axioms.
use Rattle.std.specs.Prelude.{◌≡◌, ℕ, ◌<◌, ◌==◌, ◌&&◌, ◌||◌, nat_lt, Bool, List, slice_index_or}
use Rattle.std.specs.List.{list_any}
use Rattle.shq_meaning.specs.Truth.{Interpretation}
use Rattle.role_box.specs.declared.role_axiom.RoleAxiom.{RoleAxiom}
use Rattle.role_box.specs.Steps.{is_transitive}
use Rattle.role_box.specs.Paths.{has_path, is_below}
use Rattle.role_box.specs.Closure.{any_below}
use Rattle.model_builder.specs.declared.structure_model.Member.{Member}
use Rattle.model_builder.specs.declared.structure_model.Edge.{Edge}

-- whether one of the members is the element x of the class a
abbrev pub is_member_of : List Member → ℕ → ℕ → Bool
is_member_of members a x = list_any (λ m. m.class == a && m.element == x) members

-- whether the edge is by a role below s, and leads from x to y
abbrev pub is_pair : List RoleAxiom → Edge → ℕ → ℕ → ℕ → Bool
is_pair roles e s x y = is_below roles e.role s && e.from == x && e.to == y

-- whether a condition holds, and the edge is of the role, and leads from x to y
abbrev pub is_put_where : Bool → ℕ → Edge → ℕ → ℕ → ℕ → Bool
is_put_where condition role e s x y = condition && (role == s && e.from == x && e.to == y)

-- whether an edge is
abbrev pub leads : List RoleAxiom → List Edge → ℕ → ℕ → ℕ → Bool
leads roles edges s x y = list_any (λ e. is_pair roles e s x y) edges

-- the same of the first roles alone
abbrev pub is_pair_above : ℕ → List RoleAxiom → Edge → ℕ → ℕ → ℕ → Bool
is_pair_above count roles e s x y = nat_lt s count && is_pair roles e s x y

-- the role is listed, and leads from one element to the other in the structure
abbrev pub leads_listed : ℕ → List RoleAxiom → List Edge → ℕ → ℕ → ℕ → Bool
leads_listed count roles edges s x y = nat_lt s count && leads roles edges s x y

-- the condition holds, and the pair comes from the edge by a role above its own
abbrev pub is_above_where : Bool → ℕ → List RoleAxiom → Edge → ℕ → ℕ → ℕ → Bool
is_above_where condition count roles e s x y = condition && is_pair_above count roles e s x y

-- whether s is one of the first roles, and above t, of which there is a chain
abbrev pub has_chain_of : ℕ → List RoleAxiom → ℕ → (ℕ → ℕ → Bool) → ℕ → ℕ → ℕ → Bool
has_chain_of count roles t chain s x y = nat_lt s count && (is_below roles t s && chain x y)

-- the chains of one or more edges by roles below t, where t is transitive
abbrev pub has_chain_by : ℕ → ℕ → List RoleAxiom → List Edge → ℕ → ℕ → ℕ → ℕ → Bool
has_chain_by size count roles edges t s x y =
    is_transitive roles t && has_chain_of count roles t (has_path (leads roles edges t) size) s x y

-- the chains of any of the first roles
abbrev pub has_any_chain : ℕ → ℕ → List RoleAxiom → List Edge → ℕ → ℕ → ℕ → Bool
has_any_chain size count roles edges s x y = any_below count (λ t. has_chain_by size count roles edges t s x y)

-- A class has its members; each of the first roles has the edges below it, and the chains of transitive roles below it.
-- An individual is the element at its place, and where there is none the number 0.
pub record IsInterpretation (size count : ℕ) (members : List Member) (roles : List RoleAxiom) (edges : List Edge)
    (places : List ℕ) (i : Interpretation) : Type 0 where
  pub size_is : i.size ≡ size
  pub classes_are : (a x : ℕ) → i.in_class a x ≡ is_member_of members a x
  pub roles_are : (s x y : ℕ) → x < size → y < size
      → i.in_role s x y ≡ (leads_listed count roles edges s x y || has_any_chain size count roles edges s x y)
  pub individuals_are : (a : ℕ) → i.individual a ≡ slice_index_or places a 0
