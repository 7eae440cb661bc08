-- Marks within a branch read the same there, whatever comes after them.
use Rattle.std.proofs.Common.{◌≡◌, ℕ, ◌+◌, ◌≤◌, Bool, List, [], ◌∷◌, ◌++◌, map, take, length, reverse, refl, ap, ◌∙◌}
use Rattle.std.proofs.Common.{sym, subst, arith, length-append}
use Rattle.std.proofs.lemmas.List.{take-take, take_at, length-take-le, reverse-append}
use Rattle.std.proofs.Math.Seq.{take-length, take-append_seam}
use Rattle.calculus_specs.specs.declared.facts.Fact.{Fact}
use Rattle.refutation_rules.specs.NumberedBranch.{NumberedBranch as Branch}
use Rattle.refutation_rules.specs.Outcomes.{branch_with_facts}
use Rattle.refutation_check.specs.declared.open_branches.Pending.{Pending}
use Rattle.refutation_check.specs.Open.{Open, branch_at, branches_at, knowing, knowing_nodes, AreWithin}

pub within_more : (ps : List Pending) (n m a b : ℕ) → n ≤ a → m ≤ b → AreWithin n m ps → AreWithin a b ps
within_more [] n m a b l r h = tt
within_more (p ∷ ps) n m a b l r h = (omega (arith, h.0), omega (arith, h.1), h.2)

same_begin : {A : Type 0} (m n : ℕ) (xs ys : List A) → m ≤ n → take n xs ≡ take n ys → take m xs ≡ take m ys
same_begin m n xs ys l e = sym (take-take m n xs l) ∙ ap (take m) e ∙ take-take m n ys l

-- branches that begin alike read alike at each mark within
pub read_alike : (ps : List Pending) (n m : ℕ) (k j : Branch) → take n k.nodes ≡ take n j.nodes
    → take m k.facts ≡ take m j.facts → AreWithin n m ps → map (branch_at k) ps ≡ map (branch_at j) ps
read_alike [] n m k j e f h = refl
read_alike (p ∷ ps) n m k j e f h =
    let en = same_begin p.mark.nodes n k.nodes j.nodes h.0 e in
    let ef = same_begin p.mark.facts m k.facts j.facts h.1 f in
    let here : branch_at k p ≡ branch_at j p = cc in
    let rest = read_alike ps p.mark.nodes p.mark.facts k j en ef h.2 in
    cc

-- ---- the branch that is read grows at its end

pub facts_within : (ps : List Pending) (k j : Branch) (f : Fact ℕ) → j ≡ branch_with_facts k (f ∷ [])
    → AreWithin (length k.nodes) (length k.facts) ps → AreWithin (length j.nodes) (length j.facts) ps
facts_within ps k j f e h =
    let nodes : length j.nodes ≡ length k.nodes = ap (λ (b : Branch). length b.nodes) e in
    let facts : length j.facts ≡ length k.facts + 1 =
    ap (λ (b : Branch). length b.facts) e ∙ length-append k.facts (f ∷ []) in
    within_more ps (length k.nodes) (length k.facts) (length j.nodes) (length j.facts) (omega arith) (omega arith) h

pub nodes_within : (ps : List Pending) (k j : Branch) (x : ℕ)
    → j ≡ record { nodes = k.nodes ++ x ∷ []; facts = k.facts } → AreWithin (length k.nodes) (length k.facts) ps
    → AreWithin (length j.nodes) (length j.facts) ps
nodes_within ps k j x e h =
    let nodes : length j.nodes ≡ length k.nodes + 1 =
    ap (λ (b : Branch). length b.nodes) e ∙ length-append k.nodes (x ∷ []) in
    let facts : length j.facts ≡ length k.facts = ap (λ (b : Branch). length b.facts) e in
    within_more ps (length k.nodes) (length k.facts) (length j.nodes) (length j.facts) (omega arith) (omega arith) h

facts_wait : (ps : List Pending) (k j : Branch) (f : Fact ℕ) → j ≡ branch_with_facts k (f ∷ [])
    → AreWithin (length k.nodes) (length k.facts) (reverse ps) → branches_at j ps ≡ branches_at k ps
facts_wait ps k j f e h =
    let nodes = ap (λ (b : Branch). take (length k.nodes) b.nodes) e in
    let facts =
    ap (λ (b : Branch). take (length k.facts) b.facts) e ∙ take-append_seam k.facts (f ∷ [])
    ∙ sym (take-length k.facts) in
    read_alike (reverse ps) (length k.nodes) (length k.facts) j k nodes facts h

nodes_wait : (ps : List Pending) (k j : Branch) (x : ℕ) → j ≡ record { nodes = k.nodes ++ x ∷ []; facts = k.facts }
    → AreWithin (length k.nodes) (length k.facts) (reverse ps)
    → branches_at j ps ≡ branches_at k ps
nodes_wait ps k j x e h =
    let nodes =
    ap (λ (b : Branch). take (length k.nodes) b.nodes) e ∙ take-append_seam k.nodes (x ∷ [])
    ∙ sym (take-length k.nodes) in
    let facts = ap (λ (b : Branch). take (length k.facts) b.facts) e in
    read_alike (reverse ps) (length k.nodes) (length k.facts) j k nodes facts h

abbrev open_with : List Pending → Bool → Branch → Open
open_with ps b k = record { branch = k; waiting = branches_at k ps; closed = b }

pub facts_known : (ps : List Pending) (b : Bool) (k j : Branch) (f : Fact ℕ) (o : Open)
    → j ≡ branch_with_facts k (f ∷ []) → AreWithin (length k.nodes) (length k.facts) (reverse ps) → open_with ps b k ≡ o
    → open_with ps b j ≡ knowing o (f ∷ [])
facts_known ps b k j f o e h v =
    ap (λ (ks : List Branch). record { branch = j; waiting = ks; closed = b }) (facts_wait ps k j f e h)
    ∙ ap (λ (i : Branch). record { branch = i; waiting = branches_at k ps; closed = b }) e
    ∙ ap (λ (q : Open). knowing q (f ∷ [])) v

pub node_known : (ps : List Pending) (b : Bool) (k j : Branch) (x : ℕ) (o : Open)
    → j ≡ record { nodes = k.nodes ++ x ∷ []; facts = k.facts }
    → AreWithin (length k.nodes) (length k.facts) (reverse ps)
    → open_with ps b k ≡ o → open_with ps b j ≡ knowing_nodes o (x ∷ [])
node_known ps b k j x o e h v =
    ap (λ (ks : List Branch). record { branch = j; waiting = ks; closed = b }) (nodes_wait ps k j x e h)
    ∙ ap (λ (i : Branch). record { branch = i; waiting = branches_at k ps; closed = b }) e
    ∙ ap (λ (q : Open). knowing_nodes q (x ∷ [])) v

-- ---- one branch more, and one less

pub put_within : (ps : List Pending) (p : Pending) (n m : ℕ) → p.mark.nodes ≡ n → p.mark.facts ≡ m
    → AreWithin n m (reverse ps) → AreWithin n m (reverse (ps ++ p ∷ []))
put_within ps p n m e f h =
    let all : AreWithin n m (p ∷ reverse ps) = (
      omega arith,
      omega arith,
      subst (λ (q : ℕ). AreWithin q p.mark.facts (reverse ps)) (sym e)
          (subst (λ (q : ℕ). AreWithin n q (reverse ps)) (sym f) h),
    ) in
    subst (λ (qs : List Pending). AreWithin n m qs) (sym (reverse-append ps (p ∷ []))) all

pub put_waits : (ps : List Pending) (p : Pending) (k : Branch) → p.mark.nodes ≡ length k.nodes
    → p.mark.facts ≡ length k.facts
    → branches_at k (ps ++ p ∷ []) ≡ branch_with_facts k (p.fact ∷ []) ∷ branches_at k ps
put_waits ps p k e f =
    let turned = ap (map (branch_at k)) (reverse-append ps (p ∷ [])) in
    let nodes : take p.mark.nodes k.nodes ≡ k.nodes = ap (λ (n : ℕ). take n k.nodes) e ∙ take-length k.nodes in
    let facts : take p.mark.facts k.facts ≡ k.facts = ap (λ (n : ℕ). take n k.facts) f ∙ take-length k.facts in
    let first : branch_at k p ≡ branch_with_facts k (p.fact ∷ []) = cc in
    turned ∙ ap (λ (b : Branch). b ∷ branches_at k ps) first

-- what is left within the mark that was taken
pub record IsTaken (ps : List Pending) (p : Pending) (k : Branch) : Type 0 where
  pub nodes : p.mark.nodes ≤ length k.nodes
  pub facts : p.mark.facts ≤ length k.facts
  pub within : AreWithin p.mark.nodes p.mark.facts (reverse ps)

pub taken : (all ps : List Pending) (p : Pending) (k : Branch) → all ≡ ps ++ p ∷ []
    → AreWithin (length k.nodes) (length k.facts) (reverse all) → IsTaken ps p k
taken all ps p k e h =
    let parts : AreWithin (length k.nodes) (length k.facts) (p ∷ reverse ps) =
    subst (λ (qs : List Pending). AreWithin (length k.nodes) (length k.facts) qs)
    (ap reverse e ∙ reverse-append ps (p ∷ [])) h in
    record { nodes = parts.0; facts = parts.1; within = parts.2 }

-- the branch as it was at the mark, before and after it knows the fact
pub undone_within : (ps : List Pending) (p : Pending) (k u : Branch) → IsTaken ps p k
    → u ≡ record { nodes = take p.mark.nodes k.nodes; facts = take p.mark.facts k.facts }
    → AreWithin (length u.nodes) (length u.facts) (reverse ps)
undone_within ps p k u t e =
    let nodes : length u.nodes ≡ p.mark.nodes =
    ap (λ (b : Branch). length b.nodes) e ∙ length-take-le p.mark.nodes k.nodes t.nodes in
    let facts : length u.facts ≡ p.mark.facts =
    ap (λ (b : Branch). length b.facts) e ∙ length-take-le p.mark.facts k.facts t.facts in
    within_more (reverse ps) p.mark.nodes p.mark.facts (length u.nodes) (length u.facts) (omega arith) (omega arith)
    t.within

pub next_waits : (all ps : List Pending) (p : Pending) (k j : Branch) → all ≡ ps ++ p ∷ [] → IsTaken ps p k
    → j ≡ branch_at k p → j ∷ branches_at j ps ≡ branches_at k all
next_waits all ps p k j e t f =
    let turned : reverse all ≡ p ∷ reverse ps = ap reverse e ∙ reverse-append ps (p ∷ []) in
    let nodes : take p.mark.nodes j.nodes ≡ take p.mark.nodes k.nodes =
    ap (λ (b : Branch). take p.mark.nodes b.nodes) f ∙ take-take p.mark.nodes p.mark.nodes k.nodes (omega arith) in
    let seam : take p.mark.facts (take p.mark.facts k.facts ++ p.fact ∷ []) ≡ take p.mark.facts k.facts =
    take_at (take p.mark.facts k.facts) (p.fact ∷ []) p.mark.facts (length-take-le p.mark.facts k.facts t.facts) in
    let facts : take p.mark.facts j.facts ≡ take p.mark.facts k.facts =
    ap (λ (b : Branch). take p.mark.facts b.facts) f ∙ seam in
    let rest = read_alike (reverse ps) p.mark.nodes p.mark.facts j k nodes facts t.within in
    let both : j ∷ map (branch_at j) (reverse ps) ≡ branch_at k p ∷ map (branch_at k) (reverse ps) = cc in
    both ∙ ap (map (branch_at k)) (sym turned)
