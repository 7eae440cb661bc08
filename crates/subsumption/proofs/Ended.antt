-- The end of the questions.
use Rattle.std.proofs.Common.{◌≡◌, ℕ, ◌+◌, ◌<◌, subst, arith}
use Rattle.shq_terms.specs.Listed.{Listed}
use Rattle.shq_oracle.specs.OracleLists.{OracleLists}
use Rattle.subsumption.specs.Rows.{Rows}
use Rattle.subsumption.specs.Settled.{IsSettled}
use Rattle.subsumption.proofs.Settled.{is_settled}
use Rattle.subsumption.specs.declared.progress.Progress.{Progress}
use Rattle.subsumption.specs.Progress.{IsGoing, IsDone}

-- where each pair is settled, what is known is which class is part of which
pub all_settled : (o : Listed) (l : OracleLists) (p : Progress) (known : Rows) → l.ontology ≡ o → p.known ≡ known
    → IsGoing l p → ((x : ℕ) → x < p.known.count + 2 → IsDone p x) → IsSettled o l.log known
all_settled o l p known same is going done =
    let count = going.mirrors.count_is in
    let end : IsSettled l.ontology l.log p.known =
    is_settled l.ontology l.budget l.log going.honest p.known p.ruled_out going.mirrors
    (λ x y lx ly. done x (omega (arith, lx, count)) y (omega (arith, ly, count))) in
    subst (λ (q : Listed). IsSettled q l.log known) same (subst (IsSettled l.ontology l.log) is end)
