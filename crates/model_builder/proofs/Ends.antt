-- What loops over roles, edges and elements have put in the end.
use Rattle.std.proofs.Common.{◌≡◌, ℕ, ◌<◌, ◌&&◌, eqb, Bool, true, false, List, [], ◌∷◌, length, get_or, refl, ap, ◌∙◌}
use Rattle.std.proofs.Common.{sym, subst, arith, inl, inr}
use Rattle.std.specs.Prelude.{nat_lt}
use Rattle.std.specs.List.{list_any}
use Rattle.std.proofs.lemmas.Bool.{cases_Bool, eqb-true}
use Rattle.std.proofs.Math.Bool.{and-false}
use Rattle.role_box.specs.declared.role_axiom.RoleAxiom.{RoleAxiom}
use Rattle.role_box.specs.Steps.{is_transitive}
use Rattle.role_box.specs.Paths.{has_path, is_below}
use Rattle.role_box.specs.Closure.{any_below}
use Rattle.finite_model.specs.ModelLists.{ModelLists}
use Rattle.model_builder.specs.declared.structure_model.Edge.{Edge}
use Rattle.model_builder.specs.Structure.{is_pair_above, leads, has_chain_of, has_chain_by}
use Rattle.model_builder.specs.Gains.{HasLinks}
use Rattle.model_builder.specs.Walks.{is_end}
use Rattle.model_builder.proofs.Tests.{one_below}
use Rattle.model_builder.proofs.Gained.{same_links_gained, no_links}
use Rattle.model_builder.proofs.NoChains.{no_path, none_leads, none_from}

pub above_ends : (a b : ModelLists) (count upper : ℕ) (roles : List RoleAxiom) (e : Edge) → upper ≡ count
    → HasLinks a b (λ s x y. any_below upper (λ u. is_below roles e.role u && (eqb u s && eqb e.from x && eqb e.to y)))
    → HasLinks a b (is_pair_above count roles e)
above_ends a b count upper roles e is gained =
    same_links_gained a b
    (λ s x y. any_below upper (λ u. is_below roles e.role u && (eqb u s && eqb e.from x && eqb e.to y)))
    (is_pair_above count roles e) gained (λ s x y lt mt.
    sym (one_below upper s (is_below roles e.role) (eqb e.from x) (eqb e.to y)
    ∙ ap (λ (n : ℕ). nat_lt s n && (is_below roles e.role s && eqb e.from x && eqb e.to y)) is))

-- ---- no chains

chain_none : (count t s : ℕ) (roles : List RoleAxiom) (c : Bool) → c ≡ false
    → (nat_lt s count && (is_below roles t s && c)) ≡ false
chain_none count t s roles c none =
    ap (λ (b : Bool). nat_lt s count && (is_below roles t s && b)) none
    ∙ ap (λ (b : Bool). nat_lt s count && b) (and-false (is_below roles t s)) ∙ and-false (nat_lt s count)

-- of a role that is not transitive, or has no edge below it
pub no_chains : (k : ModelLists) (size count : ℕ) (roles : List RoleAxiom) (edges : List Edge) (t : ℕ)
    → (is_transitive roles t && list_any (λ (e : Edge). is_below roles e.role t) edges) ≡ false
    → HasLinks k k (has_chain_by size count roles edges t)
no_chains k size count roles edges t none =
    no_links k (has_chain_by size count roles edges t) (λ s x y lt mt.
    by s x y (is_transitive roles t) (list_any (λ (e : Edge). is_below roles e.role t) edges) none
    (λ h. no_path (leads roles edges t) x (none_leads roles edges t h x) size y))
  where
    by : (s x y : ℕ) (b c : Bool) → (b && c) ≡ false → (c ≡ false → has_path (leads roles edges t) size x y ≡ false)
        → (b && has_chain_of count roles t (has_path (leads roles edges t) size) s x y) ≡ false
    by s x y true c h none = chain_none count t s roles (has_path (leads roles edges t) size x y) (none h)
    by s x y false c h none = refl

-- from an element without ends
pub none_put : (k : ModelLists) (count t from : ℕ) (roles : List RoleAxiom) (next : List (List ℕ)) (row : List ℕ)
    (is_empty : Bool)
    → is_empty ≡ true → is_empty ≡ eqb (length row) 0
    → from < length next → row ≡ get_or next from row
    → HasLinks k k (has_chain_of count roles t (λ x y. eqb from x && has_path (is_end next) (length next) x y))
none_put k count t from roles next row is_empty yes' same lt is =
    no_links k (has_chain_of count roles t (λ x y. eqb from x && has_path (is_end next) (length next) x y))
    (λ s x y mt nt.
    chain_none count t s roles (eqb from x && has_path (is_end next) (length next) x y) (from_here x y))
  where
    no_row : (xs : List ℕ) → length xs ≡ 0 → xs ≡ []
    no_row [] h = refl
    no_row (z ∷ xs) h = absurd (omega (arith, h))

    none : (y : ℕ) → has_path (is_end next) (length next) from y ≡ false
    none y = none_from next from row lt is (no_row row (eqb-true (length row) 0 (sym same ∙ yes'))) (length next) y

    from_here : (x y : ℕ) → (eqb from x && has_path (is_end next) (length next) x y) ≡ false
    from_here x y = elim (cases_Bool (eqb from x)) [
      | inl e ↦
          ap (λ (b : Bool). eqb from x && b)
          (subst (λ (z : ℕ). has_path (is_end next) (length next) z y ≡ false) (eqb-true from x e) (none y))
          ∙ and-false (eqb from x)
      | inr ne ↦ ap (λ (b : Bool). b && has_path (is_end next) (length next) x y) ne
    ]
