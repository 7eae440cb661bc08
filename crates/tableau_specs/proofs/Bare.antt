-- Nothing is said of nodes that are not there yet.
use Rattle.std.proofs.Common.{◌≡◌, ℕ, ◌<◌, ◌≤◌, ◌&&◌, eqb, ltb, Bool, true, false, List, [], ◌∷◌, refl, ap, ◌∙◌, arith}
use Rattle.std.specs.List.{list_any, list_all}
use Rattle.std.proofs.lemmas.Bool.{ltb-true, ne_eqb, and_parts}
use Rattle.std.proofs.lemmas.Bool.Decides.{nat_tests}
use Rattle.std.proofs.Math.Bool.{and-false}
use Rattle.calculus_specs.specs.declared.facts.Fact.{Fact}
use Rattle.calculus_specs.specs.declared.facts.Fact.TheVariants.{Has, Edge, Apart, Same}
use Rattle.calculus_specs.specs.Joins.{rep_from, rep_after, merged}
use Rattle.calculus_specs.specs.State.{gives_concept, gives_edge, speaks_below}

-- representatives do not rise
abbrev pub Falls : (ℕ → ℕ) → Type 0
Falls m = (y : ℕ) → m y ≤ y

unlike : (m : ℕ → ℕ) → Falls m → (y n z : ℕ) → y < n → n ≤ z → eqb (m y) z ≡ false
unlike m falls y n z lt le = ne_eqb (m y) z (λ e. absurd (omega (arith, e, falls y)))

merged_falls : (b c x y : ℕ) → x ≤ y → merged b c x ≤ y
merged_falls b c x y le = grind (arith, nat_tests)

merged_past : (b c z : ℕ) → b < z → c < z → merged b c z ≡ z
merged_past b c z lt mt = grind (arith, nat_tests)

after_falls : (m : ℕ → ℕ) (f : Fact ℕ) → Falls m → Falls (rep_after m f)
after_falls m (Same v w) falls y = merged_falls (m v) (m w) (m y) y (falls y)
after_falls m (Has v c) falls y = falls y
after_falls m (Edge r v w) falls y = falls y
after_falls m (Apart v w) falls y = falls y

-- ---- of a list of facts that speak of the first n nodes alone

two_below : (y z n : ℕ) → (ltb y n && ltb z n) ≡ true → (y < n) × (z < n)
two_below y z n h = let t = and_parts (ltb y n) (ltb z n) h in (ltb-true y n t.0, ltb-true z n t.1)

pub own_rep : (m : ℕ → ℕ) (n z : ℕ) (fs : List (Fact ℕ)) → Falls m → list_all (speaks_below n) fs ≡ true → n ≤ z
    → m z ≡ z → rep_from m fs z ≡ z
own_rep m n z [] falls h le at = at
own_rep m n z (Has v c ∷ fs) falls h le at =
    own_rep m n z fs falls (and_parts (ltb v n) (list_all (speaks_below n) fs) h).1 le at
own_rep m n z (Edge r v w ∷ fs) falls h le at =
    own_rep m n z fs falls (and_parts (ltb v n && ltb w n) (list_all (speaks_below n) fs) h).1 le at
own_rep m n z (Apart v w ∷ fs) falls h le at =
    own_rep m n z fs falls (and_parts (ltb v n && ltb w n) (list_all (speaks_below n) fs) h).1 le at
own_rep m n z (Same v w ∷ fs) falls h le at =
    let t = and_parts (ltb v n && ltb w n) (list_all (speaks_below n) fs) h in
    let u = two_below v w n t.0 in
    own_rep (rep_after {C = ℕ} m (Same v w)) n z fs (after_falls m (Same v w) falls) t.1 le
    (ap (merged (m v) (m w)) at ∙ merged_past (m v) (m w) z (omega (arith, u.0, falls v)) (omega (arith, u.1, falls w)))

pub no_concept : (m : ℕ → ℕ) (n z : ℕ) (kind : ℕ → Bool) (fs : List (Fact ℕ)) → Falls m
    → list_all (speaks_below n) fs ≡ true → n ≤ z → list_any (gives_concept kind m z) fs ≡ false
no_concept m n z kind [] falls h le = refl
no_concept m n z kind (Has v c ∷ fs) falls h le =
    let t = and_parts (ltb v n) (list_all (speaks_below n) fs) h in
    rw (unlike m falls v n z (ltb-true v n t.0) le) (no_concept m n z kind fs falls t.1 le)
no_concept m n z kind (Edge r v w ∷ fs) falls h le =
    no_concept m n z kind fs falls (and_parts (ltb v n && ltb w n) (list_all (speaks_below n) fs) h).1 le
no_concept m n z kind (Apart v w ∷ fs) falls h le =
    no_concept m n z kind fs falls (and_parts (ltb v n && ltb w n) (list_all (speaks_below n) fs) h).1 le
no_concept m n z kind (Same v w ∷ fs) falls h le =
    no_concept m n z kind fs falls (and_parts (ltb v n && ltb w n) (list_all (speaks_below n) fs) h).1 le

pub no_edge_from : (m : ℕ → ℕ) (n z to : ℕ) (roles : ℕ → Bool) (fs : List (Fact ℕ)) → Falls m
    → list_all (speaks_below n) fs ≡ true → n ≤ z → list_any (gives_edge roles m z to) fs ≡ false
no_edge_from m n z to roles [] falls h le = refl
no_edge_from m n z to roles (Edge r v w ∷ fs) falls h le =
    let t = and_parts (ltb v n && ltb w n) (list_all (speaks_below n) fs) h in
    rw (unlike m falls v n z (two_below v w n t.0).0 le, and-false (roles r))
    (no_edge_from m n z to roles fs falls t.1 le)
no_edge_from m n z to roles (Has v c ∷ fs) falls h le =
    no_edge_from m n z to roles fs falls (and_parts (ltb v n) (list_all (speaks_below n) fs) h).1 le
no_edge_from m n z to roles (Apart v w ∷ fs) falls h le =
    no_edge_from m n z to roles fs falls (and_parts (ltb v n && ltb w n) (list_all (speaks_below n) fs) h).1 le
no_edge_from m n z to roles (Same v w ∷ fs) falls h le =
    no_edge_from m n z to roles fs falls (and_parts (ltb v n && ltb w n) (list_all (speaks_below n) fs) h).1 le

pub no_edge_to : (m : ℕ → ℕ) (n z from : ℕ) (roles : ℕ → Bool) (fs : List (Fact ℕ)) → Falls m
    → list_all (speaks_below n) fs ≡ true → n ≤ z → list_any (gives_edge roles m from z) fs ≡ false
no_edge_to m n z from roles [] falls h le = refl
no_edge_to m n z from roles (Edge r v w ∷ fs) falls h le =
    let t = and_parts (ltb v n && ltb w n) (list_all (speaks_below n) fs) h in
    rw (unlike m falls w n z (two_below v w n t.0).1 le, and-false (roles r && eqb (m v) from))
    (no_edge_to m n z from roles fs falls t.1 le)
no_edge_to m n z from roles (Has v c ∷ fs) falls h le =
    no_edge_to m n z from roles fs falls (and_parts (ltb v n) (list_all (speaks_below n) fs) h).1 le
no_edge_to m n z from roles (Apart v w ∷ fs) falls h le =
    no_edge_to m n z from roles fs falls (and_parts (ltb v n && ltb w n) (list_all (speaks_below n) fs) h).1 le
no_edge_to m n z from roles (Same v w ∷ fs) falls h le =
    no_edge_to m n z from roles fs falls (and_parts (ltb v n && ltb w n) (list_all (speaks_below n) fs) h).1 le
