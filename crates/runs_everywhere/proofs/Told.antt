-- Sessions in every world.
use Rattle.std.proofs.Common.{◌⊎◌, ℕ, Bool, true, false, List, length, inl, inr, refl, sym, subst, arith}
use Rattle.std.specs.FinSet as set
use Rattle.axiom_sets.specs.Sets.{IsWithin}
use Rattle.axiom_sets.proofs.Kept.{put_within, take_within}
use Rattle.set_questions.proofs.Rest.{numbers_within}
use Rattle.shq_terms.specs.declared.axioms.Numbered.{Numbered}
use Rattle.shq_terms.specs.declared.axioms.Query.{Query as Asked}
use Rattle.ofn_reader.specs.Queries.{query_start}
use Rattle.ofn_reader.proofs.Unique.{queries, queries_not_refused}
use Rattle.all_worlds.specs.Worlds.{World}
use Rattle.answers_everywhere.specs.Laws.{IsOfWorld}
use Rattle.answers_everywhere.proofs.Everywhere.{of_world}
use Rattle.job_inputs.specs.Limits.{IsOntologyInLimit}
use Rattle.job_inputs.proofs.InLimit.{documents_in_limit}
use Rattle.edit_session.specs.Entry.{Entry}
use Rattle.edit_session.specs.Said.{SaidTo, Said, IsYes, IsNo, IsAnsweredOrRefused, IsRemoved}
use Rattle.edit_session.specs.ScriptLines.{Request, adds, removes, asks, other, request}
use Rattle.edit_session.specs.Scripts.{HasTold}
use Rattle.edit_session.specs.Scripts.HasTold.{nothing as told_nothing, one_more as told_more}
use Rattle.edit_session.specs.Sessions.{State, begun}
use Rattle.edit_session.proofs.Limits.{query_in_limit, query_axioms, addition_in_limit, addition_count}
use Rattle.job_inputs.specs.declared.status.Status.TheVariants.{Done}
use Rattle.ontology_jobs.proofs.Done.{never_long}
use Rattle.runs_everywhere.specs.Laws.{SessionsHoldIn}
use Rattle.runs_everywhere.specs.Sessions.{IsYesIn, IsNoIn, IsToldIn, HasToldIn}
use Rattle.runs_everywhere.specs.Sessions.HasToldIn.{nothing, one_more}

-- the axioms that are held are within the limits, and those that are live are among them
record Stands (s : State) : Type 0 where
  limit : IsOntologyInLimit s.ontology
  within : IsWithin (length s.ontology.axioms) s.live

-- ---- one line

module _ (s : State) (stands : Stands s) where
  stays : (r : Request) (next : State) (answer : List ℕ) → SaidTo s r next answer → Stands next
  stays (adds text) next answer (inl h) =
      let count = addition_count s.context s.ontology text next.ontology next.context h.number h.is_axiom in
      let last = h.is_axiom.5 in
      record {
        limit =
            addition_in_limit s.context s.ontology text next.ontology next.context h.number stands.limit h.is_axiom;
        within =
            subst (IsWithin (length next.ontology.axioms)) (sym h.is_live)
            (put_within (length next.ontology.axioms) h.number s.live
            (λ k in_live. let inside = stands.within k in_live in (inside.0, omega (arith, inside.1, count)))
            (omega (arith, last)) (omega (arith, last, count)));
      }
  stays (adds text) next answer (inr h) = subst Stands (sym h.same) stands
  stays (removes k) next answer h = by (set.contains s.live k) h
    where
      by : (b : Bool) → IsRemoved b s k next answer → Stands next
      by true r =
          subst Stands (sym r.0) (record {
            limit = stands.limit;
            within = take_within (length s.ontology.axioms) k s.live stands.within;
          })
      by false r = subst Stands (sym r.0) stands
  stays (asks text) next answer (inl h) = subst Stands (sym h.same) stands
  stays (asks text) next answer (inr h) = subst Stands (sym h.same) stands
  stays other next answer h = subst Stands (sym h.0) stands

  module _ {d : Type 0} (w : World d) where
    verdict : (q : Asked) (answer : List ℕ) → IsOfWorld w s.ontology.axioms q → IsYes s q answer ⊎ IsNo s q answer
        → IsYesIn w s q answer ⊎ IsNoIn w s q answer
    verdict q answer of (inl h) = inl (record {
      found = h.found;
      are_live = h.are_live;
      follows = (of.some h.found.members (λ k member. stands.within k (h.are_live k member))).0 h.follows;
      says = h.says;
    })
    verdict q answer of (inr h) = inr (record {
      follows_not = λ f. h.follows_not ((of.some s.live stands.within).1 f);
      says = h.says;
    })

    told_line : (l : List ℕ) (next : State) (answer : List ℕ) → Said s l next answer → IsToldIn w s l answer
    told_line l next answer said text both q is_asked is_query =
        by (subst (λ (r : Request). SaidTo s r next answer) is_asked said)
      where
        of : IsOfWorld w s.ontology.axioms q
        of =
            subst (λ (as_ : List Numbered). IsOfWorld w as_ q)
            (query_axioms s.context s.ontology text both q is_query)
            (of_world w both q (query_in_limit s.context s.ontology text both q stands.limit is_query))

        by : IsAnsweredOrRefused s text next answer → IsYesIn w s q answer ⊎ IsNoIn w s q answer
        by (inl h) =
            let same =
            queries s.context.prefixes s.ontology.axioms (query_start s.ontology s.context.nodes) text h.is_query.0
            is_query.0 h.query q h.is_query.1 is_query.1 in
            verdict q answer of (subst (λ (p : Asked). IsYes s p answer ⊎ IsNo s p answer) same.1 h.verdict)
        by (inr h) =
            absurd (queries_not_refused s.context.prefixes s.ontology.axioms
            (query_start s.ontology s.context.nodes) text is_query.0 q h.refusal is_query.1 h.is_why)

-- ---- all lines

module _ {d : Type 0} (w : World d) where
  told : (start : State) (before : List Entry) → Stands start → (ls : List (List ℕ)) (next : State) (log : List Entry)
      (text : List ℕ) → HasTold start before ls next log text → HasToldIn w start ls next text × Stands next
  told start before stands _ _ _ _ told_nothing = (nothing, stands)
  told start before stands _ _ _ _ (told_more ls s log text l next after answer rest said logged shown) =
      let done = told start before stands ls s log text rest in (
        one_more ls s text l next answer done.0 said (told_line s done.1 w l next answer said),
        stays s done.1 (request l) next answer said,
      )

  pub sessions_hold : SessionsHoldIn w
  sessions_hold budget bytes out log (inl long) = absurd (never_long bytes out log Done refl long)
  sessions_hold budget bytes out log (inr (short, on)) =
      let o = on.ontology in
      let all = on.so.1 in
      record {
        ontology = o;
        kept = on.kept;
        end = on.end;
        is_document = on.is_document;
        so = record {
          next = on.so.0;
          has_told =
              (told (begun o on.kept) _ (record {
                limit = documents_in_limit bytes o on.kept on.end on.is_document;
                within = numbers_within (length o.axioms);
              }) _ on.so.0 log out all.has_told).0;
        };
      }
