-- From what a search found to the list that is written.
use Rattle.std.proofs.Common.{◌≡◌, ℕ, ◌-◌, Bool, true, false, List, length, get_or, cond, Result, Ok, Err, refl, sym}
use Rattle.std.proofs.Common.{subst, inl, inr}
use Rattle.std.specs.Prelude.{IfOk, OnErr}
use Rattle.std.specs.List.{Contains, All, list_any}
use Rattle.std.proofs.lemmas.List.Elements.{Contains-get_or}
use Rattle.shq_terms.specs.NoMemory.{NoMemory}
use Rattle.axiom_sets.specs.Sets.{Limited}
use Rattle.pinpointing_specs.specs.Smallest.{IsMinimalRemoval}
use Rattle.pinpointing_specs.specs.Nodes.{AreSettled}
use Rattle.pinpointing_specs.proofs.Explored.{listed_minimal, removal_is_leaf, removal_is_hit_alone}
use Rattle.repair_list.specs.TreeFound.{Found}
use Rattle.shq_terms.specs.Listed.{Listed}
use Rattle.shq_terms.specs.declared.axioms.Query.{Query as Asked}
use Rattle.pinpointing_specs.specs.LocalModule.{of_axioms}
use Rattle.pinpointing_specs.proofs.Grown.{grows}
use Rattle.query_asker.specs.Entry.{Entry}
use Rattle.query_asker.specs.Entries.{nodes_of, is_spent}
use Rattle.job_inputs.specs.declared.status.Status.{Status}
use Rattle.pinpointing_jobs.specs.declared.wanted.Wanted.{Wanted}
use Rattle.pinpointing_jobs.specs.declared.wanted.Wanted.TheVariants.{Justifications, Repairs}
use Rattle.pinpointing_jobs.specs.Wanted.{IsRepairSet, HasAll, ShowsAll, HasSome}
use Rattle.pinpointing_jobs.specs.Listings.{listing_text, end_status, IsListing, IsListAnswer}
use Rattle.pinpointing_jobs.specs.Counts.{IsCount, IsCounted}
use Rattle.pinpointing_jobs.specs.Begun.{HasSearched, HasMeasured}
use Rattle.pinpointing_jobs.specs.Known.{AreKnown}
use Rattle.pinpointing_jobs.specs.Searched.{IsSearched}
use Rattle.pinpointing_jobs.specs.Written.{AreOfAxioms, AreFoundRepairs, AreFound, IsWritten, IsCountOf, IsToldCount}
use Rattle.pinpointing_jobs.proofs.RepairSets.{from_justification, from_repair, alone_is_repair, has_repairs, holds}

pub found_limits : (o : Listed) (f : Found) (sets : List Limited) → AreOfAxioms o f → AreFoundRepairs f sets
    → All (λ (s : Limited). s.limit ≡ length o.axioms) sets
found_limits o f sets are found k d lt =
    are.leaves (get_or sets k d) ((found.repairs (get_or sets k d)).0 (Contains-get_or sets k d lt)).0

-- the text of the repairs that were found
pub repairs_written : {T : Type 0} (w : Wanted) (o : Listed) (f : Found) (items sets : List Limited)
    (r : Result (Status × T) NoMemory) (text : T → List ℕ)
    → w ≡ Repairs → items ≡ sets → AreFoundRepairs f sets
    → IfOk r (λ a. text a.1 ≡ listing_text o w f.finished items) → IfOk r (λ a. a.0 ≡ end_status f.finished)
    → IfOk r (λ a. IsWritten w o f a.0 (text a.1))
repairs_written w o f items sets (Ok a) text is same found written ends = record {
  sets = items;
  are_found = subst (λ (v : Wanted). AreFound v f items) (sym is) (subst (AreFoundRepairs f) (sym same) found);
  text = written;
  status = ends;
}
repairs_written w o f items sets (Err e) text is same found written ends = tt

module _ (o : Listed) (q : Asked) (budget : ℕ) (log : List Entry) (f : Found) (s : IsSearched o q budget log f) where
  pub of_axioms_found : AreOfAxioms o f
  of_axioms_found = record {
    one_limit = s.limits;
    justifications =
        λ k d lt. (s.justifications (get_or f.justifications.items k d)
        (Contains-get_or f.justifications.items k d lt)).limit_is;
    leaves = λ l listed. (s.leaves l listed).limit_is;
  }

  -- ---- a finished search

  pub all_justifications : f.finished ≡ true → HasAll Justifications o q f.justifications.items
  all_justifications finished = record {
    order = s.order;
    all = λ j. (
      λ listed. s.justifications j listed,
      λ x. listed_minimal (holds o q) (length o.axioms) f.justifications.items f.leaves.items (grows o.axioms q)
          (s.explored finished) j x.limit_is (from_justification o q j x),
    );
  }

  repair_is_leaf : f.finished ≡ true → (r : Limited) → r.limit ≡ length o.axioms → IsMinimalRemoval (holds o q) r
      → Contains f.leaves.items r
  repair_is_leaf finished =
      removal_is_leaf (holds o q) (length o.axioms) f.justifications.items f.leaves.items (grows o.axioms q)
      (s.explored finished)

  some_repairs_only : (sets : List Limited) → AreFoundRepairs f sets → (r : Limited) → Contains sets r
      → IsRepairSet o q r
  some_repairs_only sets found r listed =
      let both = (found.repairs r).0 listed in
      alone_is_repair o q f.justifications.items s.justifications r (s.leaves r both.0) both.1

  all_repairs : f.finished ≡ true → (sets : List Limited) → AreFoundRepairs f sets → HasAll Repairs o q sets
  all_repairs finished sets found = record {
    order = found.order;
    all = λ r. (
      some_repairs_only sets found r,
      λ x.
          let removal = from_repair o q r x in
          (found.repairs r).1 (
            repair_is_leaf finished r x.limit_is removal,
            removal_is_hit_alone (holds o q) (length o.axioms) f.justifications.items f.leaves.items (grows o.axioms q)
                (s.explored finished) r x.limit_is removal,
          ),
    );
  }

  pub shows_all : f.finished ≡ true → ShowsAll o q log
  shows_all finished = record {
    shown = s.shown finished;
    taken = λ r x. s.leaf_taken (of_axioms o.axioms r) (repair_is_leaf finished (of_axioms o.axioms r) refl x);
  }

  -- ---- one that spent the budget

  pub are_known : f.finished ≡ false → AreKnown o q log f.justifications.items
  are_known unfinished = record { tree = s.nodes; shown = s.all_shown; left_open = s.left_open unfinished }

  some_justifications : f.finished ≡ false → HasSome Justifications o q log f.justifications.items
  some_justifications unfinished = record { order = s.order; some = s.justifications; known = are_known unfinished }

  some_repairs : f.finished ≡ false → (sets : List Limited) → AreFoundRepairs f sets → HasSome Repairs o q log sets
  some_repairs unfinished sets found =
      let nodes = nodes_of log in
      let settled =
      subst
      (λ (b : Bool). AreSettled f.justifications.items f.leaves.items nodes (cond b (length nodes) (length nodes - 1)))
      unfinished s.settled in
      record {
        order = found.order;
        some = some_repairs_only sets found;
        known = record {
          labels = f.justifications.items;
          justifications = s.justifications;
          known = are_known unfinished;
          repairs =
              has_repairs o q f.justifications.items s.justifications f.leaves.items nodes sets settled found.repairs;
        };
      }

  -- ---- what is written

  listing : (w : Wanted) (sets : List Limited) → AreFound w f sets → (b : Bool) → f.finished ≡ b
      → IsListing w o q budget log sets b
  listing Justifications sets e true finished =
      (subst (HasAll Justifications o q) (sym e) (all_justifications finished), shows_all finished)
  listing Justifications sets e false unfinished =
      (subst (HasSome Justifications o q log) (sym e) (some_justifications unfinished), s.spent unfinished)
  listing Repairs sets found true finished = (all_repairs finished sets found, shows_all finished)
  listing Repairs sets found false unfinished = (some_repairs unfinished sets found, s.spent unfinished)

  pub is_listed : (w : Wanted) (st : Status) (out : List ℕ) → IsWritten w o f st out
      → IsListAnswer w o q budget log st out
  is_listed w st out x = record {
    sets = x.sets;
    finished = f.finished;
    text = x.text;
    status = x.status;
    honest = s.honest;
    listing = listing w x.sets x.are_found f.finished refl;
  }

  count_is : (number : ℕ) (out : List ℕ) (b : Bool) → f.finished ≡ b → IsCountOf number o f out b
      → IsCount number o q budget log out b
  count_is number out true finished x = record {
    justifications = f.justifications.items;
    repairs = x.repairs;
    text = x.text;
    all_justifications = all_justifications finished;
    all_repairs = all_repairs finished x.repairs x.are_found;
    shows = shows_all finished;
  }
  count_is number out false unfinished x = record {
    text = x;
    spent = s.spent unfinished;
    justifications = f.justifications.items;
    are_some = s.justifications;
    known = are_known unfinished;
  }

  pub is_counted : (number : ℕ) (st : Status) (out : List ℕ) → IsToldCount number o f st out
      → IsCounted number o q budget log st out
  is_counted number st out x = record {
    finished = f.finished;
    status = x.status;
    honest = s.honest;
    count = count_is number out f.finished refl x.count;
  }

  -- ---- of what a call answers

  pub all_listed : {T : Type 0} (w : Wanted) (r : Result (Status × T) NoMemory) (text : T → List ℕ)
      → IfOk r (λ a. IsWritten w o f a.0 (text a.1)) → IfOk r (λ a. IsListAnswer w o q budget log a.0 (text a.1))
  all_listed w (Ok a) text written = is_listed w a.0 (text a.1) written
  all_listed w (Err e) text written = tt

  pub all_counted : {T : Type 0} (number : ℕ) (r : Result (Status × T) NoMemory) (text : T → List ℕ)
      → IfOk r (λ a. IsToldCount number o f a.0 (text a.1))
      → IfOk r (λ a. IsCounted number o q budget log a.0 (text a.1))
  all_counted number (Ok a) text told = is_counted number a.0 (text a.1) told
  all_counted number (Err e) text told = tt

  pub all_fronts : {T : Type 0} (r : Result T NoMemory) → OnErr r (HasSearched o q budget log)
  all_fronts (Ok a) = tt
  all_fronts (Err e) = inr s.honest

  -- memory is refused for the numbers only where the search was finished
  pub all_measured : {T : Type 0} (r : Result T NoMemory) → OnErr r (f.finished ≡ true)
      → OnErr r (HasMeasured o q budget log)
  all_measured (Ok a) finished = tt
  all_measured (Err e) finished = inr (record { honest = s.honest; unspent = s.unspent finished })

-- memory was refused for the search
pub measured_begun : {T : Type 0} (r : Result T NoMemory) (o : Listed) (q : Asked) (budget : ℕ) (log : List Entry)
    → HasSearched o q budget log → list_any is_spent log ≡ false → OnErr r (HasMeasured o q budget log)
measured_begun (Ok a) o q budget log begun unspent = tt
measured_begun (Err e) o q budget log (inl none) unspent = inl none
measured_begun (Err e) o q budget log (inr honest) unspent = inr (record { honest = honest; unspent = unspent })
