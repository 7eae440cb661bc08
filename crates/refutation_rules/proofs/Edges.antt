-- An edge of a role below another is one of that role itself, or of one of the first roles that is below it.
use Rattle.std.proofs.Common.{◌≡◌, ℕ, zero, suc, ◌+◌, ◌<◌, ◌≤◌, ◌&&◌, ◌||◌, eqb, Bool, true, false, List, [], ◌∷◌, refl}
use Rattle.std.proofs.Common.{ap, subst, sym, ◌∙◌, inl, inr, arith}
use Rattle.std.specs.List.{list_any, range_with_len}
use Rattle.std.proofs.lemmas.Bool.{and_parts, and_from, or_cases, or_left, or_right, eqb-true, eq-eqb, cases_lt}
use Rattle.std.proofs.lemmas.Bool.{cases_eq, false≢true}
use Rattle.shq_terms.proofs.Bools.{same_truth}
use Rattle.calculus_specs.specs.declared.facts.Fact.{Fact}
use Rattle.calculus_specs.specs.declared.facts.Fact.TheVariants.{Has, Edge, Apart, Same}
use Rattle.calculus_specs.specs.Joins.{rep}
use Rattle.calculus_specs.specs.State.{gives_edge, has_edge}

-- ---- numbers in a range

pub record Passes (p : ℕ → Bool) (first n : ℕ) : Type 0 where
  pub number : ℕ
  pub low : first ≤ number
  pub high : number < first + n
  pub passes : p number ≡ true

pub range_any : (p : ℕ → Bool) (first n : ℕ) → list_any p (range_with_len first n) ≡ true → Passes p first n
range_any p first zero h = absurd (false≢true h)
range_any p first (suc n) h = elim (or_cases (p first) (list_any p (range_with_len (first + 1) n)) h) [
  | inl here ↦ record { number = first; low = omega arith; high = omega arith; passes = here }
  | inr later ↦
      let w = range_any p (first + 1) n later in
      record { number = w.number; low = omega (arith, w.low); high = omega (arith, w.high); passes = w.passes }
]

pub any_range : (p : ℕ → Bool) (first n r : ℕ) → first ≤ r → r < first + n → p r ≡ true
    → list_any p (range_with_len first n) ≡ true
any_range p first zero r le lt h = absurd (omega arith)
any_range p first (suc n) r le lt h = elim (cases_eq first r) [
  | inl e ↦ or_left (p first) (list_any p (range_with_len (first + 1) n)) (ap p e ∙ h)
  | inr ne ↦
      or_right (p first) (list_any p (range_with_len (first + 1) n))
      (any_range p (first + 1) n r (omega arith) (omega arith) h)
]

-- ---- edges by one role, and by roles of a kind

module _ (kind : ℕ → Bool) (m : ℕ → ℕ) (from to : ℕ) where
  abbrev edge_by : (ℕ → Bool) → List (Fact ℕ) → Bool
  edge_by roles fs = list_any (gives_edge roles m from to) fs

  record ByRole (fs : List (Fact ℕ)) : Type 0 where
    role : ℕ
    of_kind : kind role ≡ true
    leads : edge_by (λ r. eqb r role) fs ≡ true

  by_role : (fs : List (Fact ℕ)) → edge_by kind fs ≡ true → ByRole fs
  by_role [] h = absurd (false≢true h)
  by_role (Has x c ∷ fs) h = let w = by_role fs h in record { role = w.role; of_kind = w.of_kind; leads = w.leads }
  by_role (Apart x y ∷ fs) h = let w = by_role fs h in record { role = w.role; of_kind = w.of_kind; leads = w.leads }
  by_role (Same x y ∷ fs) h = let w = by_role fs h in record { role = w.role; of_kind = w.of_kind; leads = w.leads }
  by_role (Edge r y z ∷ fs) h = elim (or_cases (kind r && eqb (m y) from && eqb (m z) to) (edge_by kind fs) h) [
    | inl here ↦
        let p = and_parts (kind r && eqb (m y) from) (eqb (m z) to) here in
        let q = and_parts (kind r) (eqb (m y) from) p.0 in
        record {
          role = r;
          of_kind = q.0;
          leads = or_left (eqb r r && eqb (m y) from && eqb (m z) to) (edge_by (λ q. eqb q r) fs)
              (and_from (eqb r r && eqb (m y) from) (eqb (m z) to)
              (and_from (eqb r r) (eqb (m y) from) (eq-eqb r r refl) q.1) p.1);
        }
    | inr later ↦
        let w = by_role fs later in
        record {
          role = w.role;
          of_kind = w.of_kind;
          leads = or_right (eqb r w.role && eqb (m y) from && eqb (m z) to) (edge_by (λ q. eqb q w.role) fs) w.leads;
        }
  ]

  of_role : (role : ℕ) → kind role ≡ true → (fs : List (Fact ℕ)) → edge_by (λ r. eqb r role) fs ≡ true
      → edge_by kind fs ≡ true
  of_role role k [] h = h
  of_role role k (Has x c ∷ fs) h = of_role role k fs h
  of_role role k (Apart x y ∷ fs) h = of_role role k fs h
  of_role role k (Same x y ∷ fs) h = of_role role k fs h
  of_role role k (Edge r y z ∷ fs) h =
      elim (or_cases (eqb r role && eqb (m y) from && eqb (m z) to) (edge_by (λ q. eqb q role) fs) h) [
        | inl here ↦
            let p = and_parts (eqb r role && eqb (m y) from) (eqb (m z) to) here in
            let q = and_parts (eqb r role) (eqb (m y) from) p.0 in
            or_left (kind r && eqb (m y) from && eqb (m z) to) (edge_by kind fs)
            (and_from (kind r && eqb (m y) from) (eqb (m z) to)
            (and_from (kind r) (eqb (m y) from) (ap kind (eqb-true r role q.0) ∙ k) q.1) p.1)
        | inr later ↦ or_right (kind r && eqb (m y) from && eqb (m z) to) (edge_by kind fs) (of_role role k fs later)
      ]

  module _ (role n : ℕ) (itself : kind role ≡ true) (outside : (r : ℕ) → n ≤ r → kind r ≡ eqb r role)
      (fs : List (Fact ℕ)) where
    abbrev here_by : ℕ → Bool
    here_by lower = kind lower && edge_by (λ r. eqb r lower) fs

    lower_edges : edge_by kind fs ≡ (edge_by (λ r. eqb r role) fs || list_any here_by (range_with_len 0 n))
    lower_edges =
        same_truth (edge_by kind fs) (edge_by (λ r. eqb r role) fs || list_any here_by (range_with_len 0 n))
        (λ h.
        let w = by_role fs h in
        elim (cases_lt w.role n) [
          | inl lt ↦
              or_right (edge_by (λ r. eqb r role) fs) (list_any here_by (range_with_len 0 n))
              (any_range here_by 0 n w.role (omega arith) (omega arith)
              (and_from (kind w.role) (edge_by (λ r. eqb r w.role) fs) w.of_kind w.leads))
          | inr le ↦
              let e = eqb-true w.role role (sym (outside w.role le) ∙ w.of_kind) in
              or_left (edge_by (λ r. eqb r role) fs) (list_any here_by (range_with_len 0 n))
              (subst (λ (k : ℕ). edge_by (λ r. eqb r k) fs ≡ true) e w.leads)
        ])
        (λ h. elim (or_cases (edge_by (λ r. eqb r role) fs) (list_any here_by (range_with_len 0 n)) h) [
          | inl own ↦ of_role role itself fs own
          | inr some ↦
              let w = range_any here_by 0 n some in
              let p = and_parts (kind w.number) (edge_by (λ r. eqb r w.number) fs) w.passes in
              of_role w.number p.0 fs p.1
        ])

pub edge_below : (fs : List (Fact ℕ)) (kind : ℕ → Bool) (role n x y : ℕ) → kind role ≡ true
    → ((r : ℕ) → n ≤ r → kind r ≡ eqb r role)
    → has_edge fs kind x y
    ≡ (has_edge fs (λ r. eqb r role) x y
    || list_any (λ lower. kind lower && has_edge fs (λ r. eqb r lower) x y) (range_with_len 0 n))
edge_below fs kind role n x y itself outside = lower_edges kind (rep fs) (rep fs x) (rep fs y) role n itself outside fs

module _ (fs : List (Fact ℕ)) (kind : ℕ → Bool) (role n x y : ℕ) (itself : kind role ≡ true)
    (outside : (r : ℕ) → n ≤ r → kind r ≡ eqb r role) where
  abbrev lower : Bool
  lower = list_any (λ l. kind l && has_edge fs (λ r. eqb r l) x y) (range_with_len 0 n)

  pub edge_own : has_edge fs (λ r. eqb r role) x y ≡ true → has_edge fs kind x y ≡ true
  edge_own h = edge_below fs kind role n x y itself outside ∙ ap (λ (b : Bool). b || lower) h

  pub edge_lower : has_edge fs (λ r. eqb r role) x y ≡ false → has_edge fs kind x y ≡ lower
  edge_lower h = edge_below fs kind role n x y itself outside ∙ ap (λ (b : Bool). b || lower) h
