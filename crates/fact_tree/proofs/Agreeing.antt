-- What facts give where nodes with one representative keep having one.
use Rattle.std.proofs.Common.{◌≡◌, ℕ, Bool, true, List, [], ◌∷◌, ◌++◌, append_assoc, ap, sym, ◌∙◌}
use Rattle.std.specs.Prelude.{◌==◌, ◌&&◌}
use Rattle.std.specs.List.{list_any}
use Rattle.std.proofs.lemmas.Bool.{eqb-true, eq-eqb, or_left, and_from}
use Rattle.std.proofs.lemmas.List.{append-nil}
use Rattle.calculus_specs.proofs.Bools.{or_weaker, and_weaker}
use Rattle.calculus_specs.specs.declared.facts.Fact.{Fact}
use Rattle.calculus_specs.specs.declared.facts.Fact.TheVariants.{Has, Edge, Apart, Same}
use Rattle.calculus_specs.specs.Joins.{rep}
use Rattle.calculus_specs.proofs.Joined.{rep-snoc, after-same}
use Rattle.fact_tree.specs.Told.{gives}
use Rattle.fact_tree.specs.Laws.{FactsStay}
use Rattle.fact_tree.proofs.Content.{any-append}

pub any-on : (p q : Fact ℕ → Bool) → ((f : Fact ℕ) → p f ≡ true → q f ≡ true) → (fs : List (Fact ℕ))
    → list_any p fs ≡ true → list_any q fs ≡ true
any-on p q on [] h = h
any-on p q on (f ∷ fs) h = or_weaker (p f) (list_any p fs) (q f) (list_any q fs) (on f) (any-on p q on fs) h

-- where n agrees with m at the nodes with these representatives, a fact that gives by m gives by n
pub concept_on : (m n : ℕ → ℕ) (x c : ℕ) → ((v : ℕ) → m v ≡ m x → n v ≡ n x) → (f : Fact ℕ) → gives m (Has x c) f ≡ true
    → gives n (Has x c) f ≡ true
concept_on m n x c agree (Has y d) h =
    and_weaker (m y == m x) (d == c) (n y == n x) (d == c) (λ e. eq-eqb (n y) (n x) (agree y (eqb-true (m y) (m x) e)))
    (λ e. e) h
concept_on m n x c agree (Edge r v w) h = cc
concept_on m n x c agree (Apart v w) h = cc
concept_on m n x c agree (Same v w) h = cc

test_on : (m n : ℕ → ℕ) (x : ℕ) → ((v : ℕ) → m v ≡ m x → n v ≡ n x) → (v : ℕ) → (m v == m x) ≡ true
    → (n v == n x) ≡ true
test_on m n x agree v e = eq-eqb (n v) (n x) (agree v (eqb-true (m v) (m x) e))

pub edge_on : (m n : ℕ → ℕ) (r x y : ℕ) → ((v : ℕ) → m v ≡ m x → n v ≡ n x) → ((v : ℕ) → m v ≡ m y → n v ≡ n y)
    → (f : Fact ℕ) → gives m (Edge r x y) f ≡ true → gives n (Edge r x y) f ≡ true
edge_on m n r x y ax ay (Edge s v w) h =
    and_weaker (s == r && m v == m x) (m w == m y) (s == r && n v == n x) (n w == n y)
    (and_weaker (s == r) (m v == m x) (s == r) (n v == n x) (λ e. e) (test_on m n x ax v)) (test_on m n y ay w) h
edge_on m n r x y ax ay (Has v d) h = cc
edge_on m n r x y ax ay (Apart v w) h = cc
edge_on m n r x y ax ay (Same v w) h = cc

pub apart_on : (m n : ℕ → ℕ) (x y : ℕ) → ((v : ℕ) → m v ≡ m x → n v ≡ n x) → ((v : ℕ) → m v ≡ m y → n v ≡ n y)
    → (f : Fact ℕ) → gives m (Apart x y) f ≡ true → gives n (Apart x y) f ≡ true
apart_on m n x y ax ay (Apart v w) h =
    or_weaker (m v == m x && m w == m y) (m v == m y && m w == m x) (n v == n x && n w == n y)
    (n v == n y && n w == n x)
    (and_weaker (m v == m x) (m w == m y) (n v == n x) (n w == n y) (test_on m n x ax v) (test_on m n y ay w))
    (and_weaker (m v == m y) (m w == m x) (n v == n y) (n w == n x) (test_on m n y ay v) (test_on m n x ax w)) h
apart_on m n x y ax ay (Has v d) h = cc
apart_on m n x y ax ay (Edge s v w) h = cc
apart_on m n x y ax ay (Same v w) h = cc

-- ---- facts that are added

-- nodes with one representative keep having one
same-more : (fs new : List (Fact ℕ)) (x y : ℕ) → rep fs x ≡ rep fs y → rep (fs ++ new) x ≡ rep (fs ++ new) y
same-more fs [] x y e =
    ap (λ (us : List (Fact ℕ)). rep us x) (append-nil fs) ∙ e
    ∙ ap (λ (us : List (Fact ℕ)). rep us y) (sym (append-nil fs))
same-more fs (f ∷ new) x y e =
    let next : rep (fs ++ f ∷ []) x ≡ rep (fs ++ f ∷ []) y =
    rep-snoc fs f x ∙ after-same (rep fs) f x y e ∙ sym (rep-snoc fs f y) in
    ap (λ (us : List (Fact ℕ)). rep us x) (sym (append_assoc fs (f ∷ []) new)) ∙ same-more (fs ++ f ∷ []) new x y next
    ∙ ap (λ (us : List (Fact ℕ)). rep us y) (append_assoc fs (f ∷ []) new)

in_front : (p : Fact ℕ → Bool) (fs new : List (Fact ℕ)) → list_any p fs ≡ true → list_any p (fs ++ new) ≡ true
in_front p fs new h = any-append p fs new ∙ or_left (list_any p fs) (list_any p new) h

gives_more : (fs new : List (Fact ℕ)) (q : Fact ℕ)
    → ((f : Fact ℕ) → gives (rep fs) q f ≡ true → gives (rep (fs ++ new)) q f ≡ true)
    → list_any (gives (rep fs) q) fs ≡ true → list_any (gives (rep (fs ++ new)) q) (fs ++ new) ≡ true
gives_more fs new q on any =
    in_front (gives (rep (fs ++ new)) q) fs new (any-on (gives (rep fs) q) (gives (rep (fs ++ new)) q) on fs any)

pub facts-stay : FactsStay
facts-stay fs new (Has x c) h =
    or_weaker (c == 0) (list_any (gives (rep fs) (Has x c)) fs) (c == 0)
    (list_any (gives (rep (fs ++ new)) (Has x c)) (fs ++ new)) (λ e. e)
    (gives_more fs new (Has x c) (concept_on (rep fs) (rep (fs ++ new)) x c (λ v. same-more fs new v x))) h
facts-stay fs new (Edge r x y) h =
    gives_more fs new (Edge r x y)
    (edge_on (rep fs) (rep (fs ++ new)) r x y (λ v. same-more fs new v x) (λ v. same-more fs new v y)) h
facts-stay fs new (Apart x y) h =
    gives_more fs new (Apart x y)
    (apart_on (rep fs) (rep (fs ++ new)) x y (λ v. same-more fs new v x) (λ v. same-more fs new v y)) h
facts-stay fs new (Same x y) h =
    eq-eqb (rep (fs ++ new) x) (rep (fs ++ new) y) (same-more fs new x y (eqb-true (rep fs x) (rep fs y) h))
