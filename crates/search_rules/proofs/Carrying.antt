-- What a universal restriction hands on, one transitive role at a time.
use Rattle.std.proofs.Common.{◌≡◌, ◌⊎◌, ℕ, ◌||◌, Bool, true, false, eqb, List, [], ◌∷◌, ◌++◌, Option, None, Some, refl}
use Rattle.std.proofs.Common.{ap, sym, subst, ◌∙◌, inl, inr, arith, append-nil}
use Rattle.std.specs.Prelude.{MatchOption}
use Rattle.std.specs.List.{All, list_any}
use Rattle.std.proofs.lemmas.Bool.{eqb-true, eq-eqb}
use Rattle.std.proofs.lemmas.List.Elements.{All-push}
use Rattle.std.proofs.lemmas.List.Folds.{list_any-append}
use Rattle.calculus_specs.specs.Shape.{Shape, shape_of}
use Rattle.calculus_specs.specs.Shape.Shape.{all_of}
use Rattle.ontology_limits.specs.RoleAxiom.{RoleAxiom}
use Rattle.ontology_limits.specs.Steps.{is_transitive}
use Rattle.ontology_limits.specs.Paths.{is_below}
use Rattle.absorption.specs.Needed.{HasTransitiveRoles}
use Rattle.step_finders.specs.Found.{IsCarry, AreCarries}
use Rattle.search_rules.specs.Lists.{option_list}
use Rattle.search_rules.specs.Tables.{role_context}

-- the pairs are such, and there is one for the role itself, if it is transitive, and one for each of some roles that is
-- below
pub record CarriesTo (table : List Shape) (roles : List RoleAxiom) (s e : ℕ) (lowers : List ℕ) (pairs : List (ℕ × ℕ)) :
    Type 0 where
  pub each : All (IsCarry (role_context table roles) s e) pairs
  pub itself : is_transitive roles s ≡ true → is_below roles s s ≡ true → list_any (λ p. eqb p.0 s) pairs ≡ true
  pub every : (t : ℕ) → list_any (λ r. eqb r t) lowers ≡ true → is_below roles t s ≡ true
      → list_any (λ p. eqb p.0 t) pairs ≡ true

module _ (table : List Shape) (roles : List RoleAxiom) (s e : ℕ) where
  abbrev Is : ℕ × ℕ → Type 0
  Is p = IsCarry (role_context table roles) s e p

  stays_any : (t : ℕ) (pairs more : List (ℕ × ℕ)) → list_any (λ p. eqb p.0 t) pairs ≡ true
      → list_any (λ p. eqb p.0 t) (pairs ++ more) ≡ true
  stays_any t pairs more h =
      list_any-append (λ p. eqb p.0 t) pairs more ∙ ap (λ b. b || list_any (λ p. eqb p.0 t) more) h

  last_any : (t : ℕ) (pairs : List (ℕ × ℕ)) (q : ℕ × ℕ) → q.0 ≡ t → list_any (λ p. eqb p.0 t) (pairs ++ q ∷ []) ≡ true
  last_any t pairs q is =
      list_any-append (λ p. eqb p.0 t) pairs (q ∷ [])
      ∙ by (list_any (λ p. eqb p.0 t) pairs) (eqb q.0 t) (eq-eqb q.0 t is)
    where
      by : (a b : Bool) → b ≡ true → (a || (b || false)) ≡ true
      by true b h = refl
      by false b h = ap (λ c. c || false) h

  split_any : (t r : ℕ) (rs : List ℕ) → list_any (λ x. eqb x t) (rs ++ r ∷ []) ≡ true
      → (list_any (λ x. eqb x t) rs ≡ true) ⊎ (r ≡ t)
  split_any t r rs h =
      by (list_any (λ x. eqb x t) rs) (eqb r t) refl refl (sym (list_any-append (λ x. eqb x t) rs (r ∷ [])) ∙ h)
    where
      by : (a b : Bool) → list_any (λ x. eqb x t) rs ≡ a → eqb r t ≡ b → (a || (b || false)) ≡ true
          → (list_any (λ x. eqb x t) rs ≡ true) ⊎ (r ≡ t)
      by true b p q k = inl p
      by false true p q k = inr (eqb-true r t q)
      by false false p q k = cc

  -- the role itself
  pub carries_first : (number : ℕ) → shape_of table number ≡ all_of s e → (o : Option (ℕ × ℕ))
      → MatchOption o (is_transitive roles s ≡ true → ¬ (is_below roles s s ≡ true))
      (λ p. (is_transitive roles s ≡ true) × (is_below roles s s ≡ true) × (p.0 ≡ s) × (p.1 ≡ number))
      → CarriesTo table roles s e [] (option_list o)
  carries_first number shape None not = record {
    each = λ k d lt. absurd (omega (arith, lt));
    itself = λ trans below. absurd (not trans below);
    every = λ t among below. cc;
  }
  carries_first number shape (Some q) is = record {
    each = All-push Is [] q (λ k d lt. absurd (omega (arith, lt))) (record {
      transitive = subst (λ (r : ℕ). is_transitive roles r ≡ true) (sym is.2) is.0;
      role_below = subst (λ (r : ℕ). is_below roles r s ≡ true) (sym is.2) is.1;
      shape = ap (shape_of table) is.3 ∙ shape ∙ ap (λ (r : ℕ). all_of r e) (sym is.2);
    });
    itself = λ trans below. last_any s [] q is.2;
    every = λ t among below. cc;
  }

  -- one role more, which is handed on by itself already, is not below, or has its pair
  pub carries_more : (lowers : List ℕ) (lower : ℕ) (pairs : List (ℕ × ℕ)) (o : Option (ℕ × ℕ))
      → CarriesTo table roles s e lowers pairs → is_transitive roles lower ≡ true
      → MatchOption o (is_below roles lower s ≡ true → lower ≡ s) (λ p. Is p × (p.0 ≡ lower))
      → CarriesTo table roles s e (lowers ++ lower ∷ []) (pairs ++ option_list o)
  carries_more lowers lower pairs None h on same =
      subst (CarriesTo table roles s e (lowers ++ lower ∷ [])) (sym (append-nil pairs)) (record {
        each = h.each;
        itself = h.itself;
        every = λ t is below. elim (split_any t lower lowers is) [
          | inl earlier ↦ h.every t earlier below
          | inr last ↦
              let role : lower ≡ s = same (subst (λ (r : ℕ). is_below roles r s ≡ true) (sym last) below) in
              let here : s ≡ t = sym role ∙ last in
              subst (λ (r : ℕ). list_any (λ p. eqb p.0 r) pairs ≡ true) here
              (h.itself (subst (λ (r : ℕ). is_transitive roles r ≡ true) role on)
              (subst (λ (r : ℕ). is_below roles r s ≡ true) (sym here) below))
        ];
      })
  carries_more lowers lower pairs (Some q) h on is = record {
    each = All-push Is pairs q h.each is.0;
    itself = λ trans below. stays_any s pairs (q ∷ []) (h.itself trans below);
    every = λ t among below. elim (split_any t lower lowers among) [
      | inl earlier ↦ stays_any t pairs (q ∷ []) (h.every t earlier below)
      | inr last ↦ last_any t pairs q (is.1 ∙ last)
    ];
  }

  -- all of them
  pub all_carried : (lowers : List ℕ) (pairs : List (ℕ × ℕ)) → HasTransitiveRoles roles lowers
      → CarriesTo table roles s e lowers pairs → AreCarries (role_context table roles) s e pairs
  all_carried lowers pairs has h = record {
    each = h.each;
    every = λ t on below. elim (has.every t s on below) [
      | inl same ↦
          subst (λ (r : ℕ). list_any (λ p. eqb p.0 r) pairs ≡ true) (sym same)
          (h.itself (subst (λ (r : ℕ). is_transitive roles r ≡ true) same on)
          (subst (λ (r : ℕ). is_below roles r s ≡ true) same below))
      | inr among ↦ h.every t among below
    ];
  }
