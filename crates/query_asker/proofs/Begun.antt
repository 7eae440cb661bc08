-- An asker that has asked nothing.
use Rattle.std.proofs.Common.{◌≡◌, ℕ, ◌≤◌, false, List, [], ◌++◌, length, take, drop, ap, sym, ◌∙◌, subst, arith, inl}
use Rattle.std.specs.Prelude.{Option, IfSome}
use Rattle.std.specs.List.{list_any}
use Rattle.std.proofs.Math.Seq.{take-length, drop-length}
use Rattle.std.proofs.lemmas.List.{append-nil}
use Rattle.std.proofs.lemmas.List.Elements.{All-nil}
use Rattle.axiom_sets.specs.Sets.{Limited}
use Rattle.shq_terms.specs.declared.axioms.Query.{Query}
use Rattle.shq_oracle.specs.Limits.{IsInLimit}
use Rattle.shq_oracle.specs.Entry.{Entry}
use Rattle.shq_oracle.specs.Entries.{spent_of, is_spent}
use Rattle.shq_oracle.specs.HonestLog.{IsHonestEntry, EndsWhenSpent, IsTestOf, AsksNoAnswer, IsTestIn}
use Rattle.shq_oracle.specs.OracleLists.{OracleLists}
use Rattle.query_asker.specs.declared.memo.Memo.{Memo}
use Rattle.query_asker.specs.AskerLists.{AskerLists}
use Rattle.query_asker.specs.Told.{KeepsAnswers, AreTestsOfOthers, IsAskerLog}
use Rattle.query_asker.specs.Memory.{IsMemo}
use Rattle.query_asker.specs.Asking.{part_of, lists_of, CanAsk, IsAsker}
use Rattle.query_asker.proofs.Logged.{ends_none}

nothing_asked : AsksNoAnswer []
nothing_asked place s q steps d at = cc

module _ (o : OracleLists) (q : Query) (among : Option Limited) where
  abbrev begun : AskerLists
  begun = record {
    ontology = o.ontology;
    query = q;
    budget = o.budget;
    local_part = part_of o.ontology among;
    before = o.log;
    gained = [];
    asks = 0;
  }

  is_begun : (first : ℕ) → first ≡ length o.log → lists_of o q among first 0 ≡ begun
  is_begun first e =
      let front : take first o.log ≡ o.log = ap (λ (n : ℕ). take n o.log) e ∙ take-length o.log in
      let back : drop first o.log ≡ [] = ap (λ (n : ℕ). drop n o.log) e ∙ drop-length o.log in
      λ i. record {
        ontology = o.ontology;
        query = q;
        budget = o.budget;
        local_part = part_of o.ontology among;
        before = front i;
        gained = back i;
        asks = 0;
      }

  begun_log : spent_of o.log ≤ o.budget → list_any is_spent o.log ≡ false → IsAskerLog begun
  begun_log within none =
      let whole : o.log ≡ o.log ++ [] = sym (append-nil o.log) in
      record {
        honest = All-nil (IsHonestEntry o.ontology);
        ends = subst (EndsWhenSpent o.budget) whole (ends_none o.budget o.log none);
        within = subst (λ (log : List Entry). spent_of log ≤ o.budget) whole within;
        tests = All-nil (IsTestOf q);
        new = nothing_asked;
        in_module = All-nil (IsTestIn (part_of o.ontology among));
        few = inl (omega arith);
      }

  pub begins : (first : ℕ) (memo : Memo) → first ≡ length o.log → spent_of o.log ≤ o.budget
      → list_any is_spent o.log ≡ false → AreTestsOfOthers q o.log → IsInLimit o.ontology q
      → IfSome among (λ m. m.limit ≡ length o.ontology.axioms)
      → KeepsAnswers o.ontology.axioms q (part_of o.ontology among) → ((log : List Entry) → IsMemo memo log)
      → IsAsker o q among first memo 0
  begins first memo e within none others in_limit limit keeps remembers =
      let same = is_begun first e in
      record {
        first_within = omega (arith, e);
        limit = limit;
        can_ask = subst CanAsk (sym same) (record { in_limit = in_limit; others = others; keeps = keeps });
        is_log = subst IsAskerLog (sym same) (begun_log within none);
        remembers = remembers (drop first o.log);
      }
