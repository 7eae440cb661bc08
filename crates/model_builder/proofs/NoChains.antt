-- Where no edge begins no chain does, and chains stay inside.
use Rattle.std.proofs.Common.{◌≡◌, ℕ, zero, suc, ◌<◌, ◌&&◌, ◌||◌, eqb, Bool, true, false, List, [], ◌∷◌, length, get_or}
use Rattle.std.proofs.Common.{refl, ap, ◌∙◌, sym, arith, inl, inr}
use Rattle.std.specs.List.{list_any, All}
use Rattle.std.proofs.lemmas.Bool.{or_cases, and_parts, eqb-true}
use Rattle.std.proofs.lemmas.List.{get_or_default}
use Rattle.std.proofs.lemmas.List.Elements.{All-head, All-tail}
use Rattle.role_box.specs.declared.role_axiom.RoleAxiom.{RoleAxiom}
use Rattle.role_box.specs.Paths.{has_path, is_below}
use Rattle.model_builder.specs.declared.structure_model.Edge.{Edge}
use Rattle.model_builder.specs.Structure.{is_pair, leads}
use Rattle.model_builder.specs.Walks.{is_end, IsInside}

pub no_path : (step : ℕ → ℕ → Bool) (x : ℕ) → ((y : ℕ) → step x y ≡ false) → (k y : ℕ) → has_path step k x y ≡ false
no_path step x none zero y = none y
no_path step x none (suc k) y =
    let a = no_path step x none k y in
    let b = no_path step x none k k in
    rw (a, b) refl

-- where no edge is below the role, none leads anywhere
pub none_leads : (roles : List RoleAxiom) (edges : List Edge) (t : ℕ)
    → list_any (λ (e : Edge). is_below roles e.role t) edges ≡ false → (x y : ℕ) → leads roles edges t x y ≡ false
none_leads roles [] t h x y = refl
none_leads roles (e ∷ edges) t h x y =
    let parts = neither (is_below roles e.role t) (list_any (λ (d : Edge). is_below roles d.role t) edges) h in
    let rest = none_leads roles edges t parts.1 x y in
    let first : is_pair roles e t x y ≡ false = ap (λ (b : Bool). b && eqb e.from x && eqb e.to y) parts.0 in
    rw (first, rest) refl
  where
    neither : (a b : Bool) → (a || b) ≡ false → (a ≡ false) × (b ≡ false)
    neither false b h = (refl, h)
    neither true b h = cc

pub leads_inside : (roles : List RoleAxiom) (edges : List Edge) (size t x y : ℕ) → All (λ (e : Edge). e.to < size) edges
    → leads roles edges t x y ≡ true → y < size
leads_inside roles [] size t x y all h = cc
leads_inside roles (e ∷ edges) size t x y all h = elim (or_cases (is_pair roles e t x y) (leads roles edges t x y) h) [
  | inl here ↦ omega (
    arith,
    All-head (λ (d : Edge). d.to < size) e edges all,
    eqb-true e.to y (and_parts (is_below roles e.role t && eqb e.from x) (eqb e.to y) here).1,
  )
  | inr later ↦ leads_inside roles edges size t x y (All-tail (λ (d : Edge). d.to < size) e edges all) later
]

-- from an element without ends no chain leads anywhere
pub none_from : (next : List (List ℕ)) (x : ℕ) (row : List ℕ) → x < length next → row ≡ get_or next x row → row ≡ []
    → (k y : ℕ) → has_path (is_end next) k x y ≡ false
none_from next x row lt is empty =
    no_path (is_end next) x
    (λ y. ap (λ (zs : List ℕ). list_any (λ z. eqb z y) zs) (sym (get_or_default next x row [] lt) ∙ sym is ∙ empty))

-- where ends are those of edges, they are inside
pub ends_inside : (roles : List RoleAxiom) (edges : List Edge) (size t : ℕ) (next : List (List ℕ))
    → All (λ (e : Edge). e.to < size) edges
    → length next ≡ size → ((x y : ℕ) → is_end next x y ≡ leads roles edges t x y) → IsInside next
ends_inside roles edges size t next all long same x y h =
    omega (arith, leads_inside roles edges size t x y all (sym (same x y) ∙ h), long)
