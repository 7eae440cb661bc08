-- An item with nothing after it.
use Rattle.std.proofs.Common.{◌≡◌, List, [], ◌∷◌, ◌++◌, Result, Ok, Err, sym, subst, append-nil}
use Rattle.std.specs.Prelude.{IfOk}
use Rattle.shq_terms.specs.declared.axioms.Query.{Query}
use Rattle.ofn_tree.specs.Items.{Item}
use Rattle.ofn_expressions.specs.Counts.{Counts}
use Rattle.ofn_expressions.specs.Walk.{Test, Judged}
use Rattle.ofn_expressions.specs.Names.{Prefix}
use Rattle.ofn_expressions.specs.declared.refusal.Refusal.{Refusal}
use Rattle.ofn_expressions.proofs.Kept.{keeps_all}
use Rattle.ofn_expressions.proofs.Walks.{goes_on, stops}
use Rattle.ofn_reader.specs.Queries.{nothing_tests, read_alone, MeansQuery, IsListedQuery}

pub alone_judged : {X : Type 0} (behind : List Item) (r : Result X Refusal) (s new : Counts) (ts : List Test)
    → Judged r s ts new → Judged (read_alone behind r) s (ts ++ nothing_tests behind) new
alone_judged [] r s new ts judged = subst (λ us. Judged r s us new) (sym (append-nil ts)) judged
alone_judged (i ∷ is) (Ok x) s new ts judged = λ known. goes_on s new ts (nothing_tests (i ∷ is)) judged
alone_judged (i ∷ is) (Err e) s new ts judged = λ known. stops s ts (nothing_tests (i ∷ is)) e (judged known)

-- what is known of what was read is known of it alone
pub alone_ok : {X : Type 0} (behind : List Item) (r : Result X Refusal) (P : X → Type 0) → IfOk r P
    → IfOk (read_alone behind r) P
alone_ok [] r P known = known
alone_ok (i ∷ is) (Ok x) P known = tt
alone_ok (i ∷ is) (Err e) P known = tt

query_listed : (ps : List Prefix) (s : Counts) (i : Item) (r : Result Query Refusal) → IfOk r (MeansQuery ps s i)
    → IfOk r (IsListedQuery s)
query_listed ps s i (Ok q) means = (means s (keeps_all s)).1
query_listed ps s i (Err e) means = tt

pub alone_listed : (ps : List Prefix) (s : Counts) (i : Item) (behind : List Item) (r out : Result Query Refusal)
    → out ≡ read_alone behind r → IfOk r (MeansQuery ps s i) → IfOk out (IsListedQuery s)
alone_listed ps s i behind r out is means =
    subst (λ o. IfOk o (IsListedQuery s)) (sym is) (alone_ok behind r (IsListedQuery s) (query_listed ps s i r means))
