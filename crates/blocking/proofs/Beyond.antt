-- Numbers that are no node's.
use Rattle.std.proofs.Common.{◌≡◌, ℕ, zero, suc, ◌+◌, ◌<◌, ◌≤◌, ◌&&◌, cond, eqb, Bool, true, List, [], ◌∷◌, get_or}
use Rattle.std.proofs.Common.{Option, Some, None, refl, ap, sym, ◌∙◌, arith, eq-eqb}
use Rattle.std.proofs.lemmas.Bool.{ne_eqb, le-ltb}
use Rattle.calculus_specs.specs.declared.facts.Fact.{Fact}
use Rattle.calculus_specs.specs.declared.facts.Fact.TheVariants.{Has, Edge, Apart, Same}
use Rattle.calculus_specs.specs.Joins.{rep}
use Rattle.calculus_specs.specs.State.{node_count_from, first_origin, parent_from, has, is_label_part}
use Rattle.calculus_specs.specs.Listed.{IsLabel}
use Rattle.calculus_specs.proofs.Joined.{rep-le}
use Rattle.tableau_specs.specs.declared.Block.{Block}
use Rattle.tableau_specs.specs.declared.Block.TheVariants.{Clear, By, Under}
use Rattle.tableau_specs.specs.Blocked.{is_clear, is_parent_clear, may_block, blocked_from, blocks_to, block_of}
use Rattle.blocking.proofs.Labels.{all_of_label}
use Rattle.blocking.proofs.BlockLists.{get-blocks_to, first_is_clear}

first_within : (first : ℕ) (fs : List (Fact ℕ)) → first ≤ node_count_from first fs
first_within first [] = omega arith
first_within first (Has y c ∷ fs) = first_within first fs
first_within first (Edge r y z ∷ fs) = omega (arith, first_within first fs)
first_within first (Apart y z ∷ fs) = first_within first fs
first_within first (Same y z ∷ fs) = first_within first fs

no_origin : (first : ℕ) (fs : List (Fact ℕ)) (x : ℕ) → node_count_from first fs ≤ x → first_origin fs x ≡ None
no_origin first [] x le = refl
no_origin first (Has y c ∷ fs) x le = no_origin first fs x le
no_origin first (Edge r y z ∷ fs) x le =
    ap (λ (b : Bool). cond b (Some y) (first_origin fs x)) (ne_eqb z x (λ e. absurd (omega arith)))
    ∙ no_origin first fs x (omega arith)
no_origin first (Apart y z ∷ fs) x le = no_origin first fs x le
no_origin first (Same y z ∷ fs) x le = no_origin first fs x le

no_parent : (first : ℕ) (fs : List (Fact ℕ)) (x : ℕ) → node_count_from first fs ≤ x → parent_from first fs x ≡ None
no_parent first fs x le =
    ap (λ (b : Bool). cond b None (first_origin fs x)) (le-ltb x first (omega (arith, first_within first fs)))
    ∙ no_origin first fs x le

-- what has top alone may be blocked by node 0
first_may : (first : ℕ) (fs : List (Fact ℕ)) (x : ℕ) → 0 < first → 0 < x → IsLabel fs x (0 ∷ [])
    → may_block fs (blocks_to first fs x) x 0 ≡ true
first_may first fs x one some is =
    let own : eqb (rep fs 0) 0 ≡ true = eq-eqb (rep fs 0) 0 (omega (arith, rep-le fs 0)) in
    let clear : is_clear (get_or (blocks_to first fs x) 0 Under) ≡ true =
    ap is_clear (get-blocks_to first fs x 0 Under some ∙ first_is_clear first fs 0 one) in
    let part : is_label_part fs x 0 ≡ true = sym (all_of_label fs x (0 ∷ []) is (has fs 0)) in
    λ i. own i && clear i && part i

from_first : (fs : List (Fact ℕ)) (blocks : List Block) (x n : ℕ) → 0 < n → may_block fs blocks x 0 ≡ true
    → blocked_from fs blocks x 0 n ≡ By 0
from_first fs blocks x zero some may = absurd (omega arith)
from_first fs blocks x (suc n) some may = ap (λ (b : Bool). cond b (By 0) (blocked_from fs blocks x (0 + 1) n)) may

pub blocked_beyond : (first : ℕ) (fs : List (Fact ℕ)) (x : ℕ) → 0 < first → node_count_from first fs ≤ x
    → IsLabel fs x (0 ∷ []) → block_of first fs x ≡ By 0
blocked_beyond first fs x one le is =
    let some : 0 < x = omega (arith, one, le, first_within first fs) in
    let blocks = blocks_to first fs x in
    ap (λ (b : Bool). cond b Clear
    (cond (is_parent_clear fs blocks (parent_from first fs x)) (blocked_from fs blocks x 0 x) Under))
    (le-ltb x first (omega (arith, le, first_within first fs)))
    ∙ ap (λ (o : Option ℕ). cond (is_parent_clear fs blocks o) (blocked_from fs blocks x 0 x) Under)
    (no_parent first fs x le)
    ∙ from_first fs blocks x x some (first_may first fs x one some is)
