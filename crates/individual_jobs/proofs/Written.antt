-- What is written of reasons, one individual after another.
use Rattle.std.proofs.Common.{◌≡◌, ℕ, ◌+◌, ◌<◌, false, List, [], ◌∷◌, ◌++◌, length, get_or, drop, Some, ap, sym, ◌∙◌}
use Rattle.std.proofs.Common.{append_assoc, add-one, drop-cons, codes, decimal}
use Rattle.std.specs.Prelude.{slice_get}
use Rattle.std.specs.FinSet as set
use Rattle.std.specs.Ordering.{nat_cmp}
use Rattle.std.proofs.lemmas.Option.{get_or_from_slice_get}
use Rattle.lane_sieve.specs.Sets.{NumberSet}
use Rattle.shq_terms.specs.Listed.{Listed}
use Rattle.pinpointing_jobs.specs.SetLists.{set_lines}
use Rattle.individual_jobs.specs.ReasonLists.{ReasonLists}
use Rattle.individual_jobs.specs.Reasons.{instance_line, reason_lines}

-- ---- the lines of the instances

-- pieces put one after the other are those that stand between blanks
pieces : (name word digits : List ℕ)
    → ((name ++ 62 ∷ []) ++ (32 ∷ (word ++ 32 ∷ (digits ++ [])))) ++ 10 ∷ []
    ≡ name ++ (62 ∷ 32 ∷ (word ++ 32 ∷ (digits ++ 10 ∷ [])))
pieces name word digits =
    append_assoc (name ++ 62 ∷ []) (32 ∷ (word ++ 32 ∷ (digits ++ []))) (10 ∷ [])
    ∙ append_assoc name (62 ∷ []) ((32 ∷ (word ++ 32 ∷ (digits ++ []))) ++ 10 ∷ [])
    ∙ ap (λ (l : List ℕ). name ++ (62 ∷ 32 ∷ l)) (append_assoc word (32 ∷ (digits ++ [])) (10 ∷ []))
    ∙ ap (λ (l : List ℕ). name ++ (62 ∷ 32 ∷ (word ++ 32 ∷ l))) (append_assoc digits [] (10 ∷ []))

pub heading_is : (o : Listed) (r : ReasonLists) (name : List ℕ) → Some name ≡ slice_get o.individuals r.individual
    → codes "instance <" ++ (name ++ (codes "> justifications " ++ (decimal (length r.justifications) ++ codes "\n")))
    ≡ instance_line o r
heading_is o r name at =
    let same : get_or o.individuals r.individual [] ≡ name =
    get_or_from_slice_get o.individuals r.individual name [] (sym at) in
    let digits : List ℕ = decimal (length r.justifications) in
    ap (λ (l : List ℕ). codes "instance <" ++ l) (sym (pieces name (codes "justifications") digits))
    ∙ ap (λ (n : List ℕ). codes "instance <"
    ++ (((n ++ 62 ∷ []) ++ (32 ∷ (codes "justifications" ++ 32 ∷ (digits ++ [])))) ++ 10 ∷ []))
    (sym same)

pub lines_more : (o : Listed) (rs : List ReasonLists) (i : ℕ) (r : ReasonLists) (before after whole : List ℕ)
    → i < length rs → r ≡ get_or rs i r → after ≡ before ++ (instance_line o r ++ set_lines r.justifications)
    → before ++ reason_lines o (drop i rs) ≡ whole → after ++ reason_lines o (drop (i + 1) rs) ≡ whole
lines_more o rs i r before after whole within at more same =
    let next : drop i rs ≡ r ∷ drop (i + 1) rs =
    drop-cons rs i r within ∙ (λ j. sym at j ∷ drop (sym (add-one i) j) rs) in
    ap (λ (l : List ℕ). l ++ reason_lines o (drop (i + 1) rs)) more
    ∙ append_assoc before (instance_line o r ++ set_lines r.justifications) (reason_lines o (drop (i + 1) rs))
    ∙ ap (λ (l : List ℕ). before ++ l)
    (append_assoc (instance_line o r) (set_lines r.justifications) (reason_lines o (drop (i + 1) rs)))
    ∙ ap (λ (l : List ReasonLists). before ++ reason_lines o l) (sym next)
    ∙ same

-- ---- the axioms that are in some set

pub none_listed : (s : NumberSet) → s ≡ set.empty → (k : ℕ) → set.contains s k ≡ false
none_listed s e k = ap (λ (t : NumberSet). set.contains t k) e ∙ set.contains-empty nat_cmp k
