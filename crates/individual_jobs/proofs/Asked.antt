-- The questions of the individuals.
use Rattle.std.proofs.Common.{◌≡◌, ℕ, ◌+◌, ◌<◌, List, [], ◌∷◌, ◌++◌, length, get_or, ap, sym, ◌∙◌, arith}
use Rattle.std.proofs.lemmas.List.FromFn.{get_or-map-range_with_len, length-map-range_with_len, map-range_with_len_more}
use Rattle.shq_terms.specs.Concept.{Concept}
use Rattle.shq_terms.specs.declared.axioms.Query.{Query}
use Rattle.realizer.specs.Instances.{instance_query}
use Rattle.individual_jobs.specs.Searching.{instance_queries}

-- the question at a place
pub query_at : (c : Concept) (count i : ℕ) (queries : List Query) (q : Query) → queries ≡ instance_queries c count
    → i < count → q ≡ get_or queries i q → q ≡ instance_query c i
query_at c count i queries q same within at =
    at ∙ ap (λ (l : List Query). get_or l i q) same
    ∙ get_or-map-range_with_len (instance_query c) 0 count i i q within (omega arith)

pub query_count : (c : Concept) (count : ℕ) (queries : List Query) → queries ≡ instance_queries c count
    → length queries ≡ count
query_count c count queries same = ap length same ∙ length-map-range_with_len (instance_query c) 0 count

-- one question more
pub queries_more : (c : Concept) (count : ℕ) (queries more : List Query) (q : Query) → more ≡ queries ++ q ∷ []
    → queries ≡ instance_queries c count → q ≡ instance_query c count → more ≡ instance_queries c (count + 1)
queries_more c count queries more q is same one =
    is
    ∙ ap (λ (l : List Query). l ++ q ∷ []) same
    ∙ ap (λ (x : Query). instance_queries c count ++ x ∷ []) one
    ∙ sym (map-range_with_len_more (instance_query c) 0 count count (omega arith))
