-- The rows of a set stay its rows while the table of concepts grows.
use Rattle.std.proofs.Common.{◌≡◌, ℕ, ◌<◌, ◌&&◌, ◌||◌, Bool, true, false, List, [], ◌∷◌, length, Some, refl, ap, sym}
use Rattle.std.proofs.Common.{◌∙◌}
use Rattle.std.proofs.Common.{subst, arith, Option}
use Rattle.std.specs.FinSet as sets
use Rattle.std.proofs.lemmas.Bool.{or_right}
use Rattle.shq_terms.specs.Concept.{Concept}
use Rattle.calculus_specs.specs.Shape.{Shape, shape_of, IsTable}
use Rattle.calculus_specs.specs.Rows.{Theory, Row, IsRowOf}
use Rattle.shq_terms.specs.declared.axioms.Numbered.{Numbered}
use Rattle.ontology_limits.specs.Numbers.{Extends}
use Rattle.ontology_limits.proofs.Numbers.{extends_twice, length_extends, tree_stays, numbers_stay}
use Rattle.absorption.specs.Theory.{theory_of}
use Rattle.absorption.specs.Steps.{is_named}
use Rattle.absorption.proofs.ListedTrails.{listed}
use Rattle.absorption.proofs.Carried.{shape_stays}
use Rattle.absorption.specs.declared.row.Row.{Row as Filed}
use Rattle.absorption.specs.Places.{FiledRows, names_class, WaitsForName, StandInPlaces}
use Rattle.absorption.specs.Tables.{HasFixedTrigger, IsRowTable}
use Rattle.shq_terms.specs.Listed.{Listed}
use Rattle.shq_terms.specs.declared.axioms.Query.{Query}
use Rattle.absorption.specs.Sets.{Limited, member_list}
use Rattle.ontology_limits.specs.Meeting.{is_role_number}
use Rattle.ontology_limits.specs.RoleAxiom.{RoleAxiom}
use Rattle.ontology_limits.specs.RoleAxioms.{role_axioms}
use Rattle.ontology_limits.specs.Steps.{is_transitive}
use Rattle.ontology_limits.specs.Paths.{is_below}
use Rattle.absorption.specs.Closed.{IsClosed}
use Rattle.search_rules.specs.declared.query_numbers.QueryNumbers.{QueryNumbers}
use Rattle.search_rules.specs.Lists.{NumberLists, EdgeLists}
use Rattle.ontology_limits.specs.Limits.{IsOntologyInLimit}
use Rattle.assertion_box.specs.Stated.{stated_facts}
use Rattle.assertion_box.proofs.Answered.{are_given}
use Rattle.step_finders.specs.declared.state.Given.{Given}
use Rattle.step_finders.specs.Giving.{AreGiven}
use Rattle.search_rules.specs.RuleLists.{RuleLists, numbers_in, context_in}
use Rattle.search_rules.specs.GivenFacts.{AreNumbered}
use Rattle.search_rules.proofs.Giving.{numbered_stay, facts_given, facts_numbered, given_stay}
use Rattle.search_rules.specs.Tables.{AreNumberLists, AreEdgeLists, AreKept}
use Rattle.search_rules.specs.Queries.{HasListsIf, IsFound}

module _ (old new : List Shape) (grown : Extends old new) where
  row_stays : (theory : Theory) (row : Row) → IsRowOf theory old row → IsRowOf theory new row
  row_stays theory row h = record {
    part = h.part;
    is_there = h.is_there;
    listed = omega (arith, h.listed, length_extends old new grown);
    is_right = h.is_right ∙ ap (λ (c : Concept). Some c) (sym (tree_stays old new grown row.concept h.listed));
  }

  fixed_stays : (theory : Theory) (r : Filed) → HasFixedTrigger theory old r → HasFixedTrigger theory new r
  fixed_stays theory r h =
      let f = h.is_row in record {
        part = h.part;
        is_there = h.is_there;
        is_row = record {
          axiom_is = f.axiom_is;
          part_is = f.part_is;
          trigger_is = f.trigger_is;
          listed = omega (arith, f.listed, length_extends old new grown);
          concept_is = f.concept_is ∙ ap (λ (c : Concept). Some c) (sym (tree_stays old new grown r.concept f.listed));
          premises_are = numbers_stay old new r.premises _ grown f.premises_are;
        };
      }

  named_stays : (class c : ℕ) → is_named class (shape_of old c) ≡ true → is_named class (shape_of new c) ≡ true
  named_stays class c h =
      let lt : c < length old = listed old c (λ is. (let e = sym (ap (is_named class) is) ∙ h in cc)) in
      ap (is_named class) (shape_stays old new grown c lt) ∙ h

  any_stays : (class : ℕ) (cs : List ℕ) → names_class old cs class ≡ true → names_class new cs class ≡ true
  any_stays class [] h = h
  any_stays class (c ∷ cs) h = by (is_named class (shape_of old c)) refl h (any_stays class cs)
    where
      by : (b : Bool) → is_named class (shape_of old c) ≡ b → (b || names_class old cs class) ≡ true
          → (names_class old cs class ≡ true → names_class new cs class ≡ true)
          → (is_named class (shape_of new c) || names_class new cs class) ≡ true
      by true e k rest = ap (λ v. v || names_class new cs class) (named_stays class c e)
      by false e k rest = or_right (is_named class (shape_of new c)) (names_class new cs class) (rest k)

  waits_stays : (class : ℕ) (r : Filed) → WaitsForName old class r → WaitsForName new class r
  waits_stays class r h =
      record { positions = h.positions; waits = h.waits; is_among = any_stays class r.premises h.is_among }

  places_stay : (f : FiledRows) → StandInPlaces old f → StandInPlaces new f
  places_stay f h = record {
    at_names = λ k d lt j e less. waits_stays _ _ (h.at_names k d lt j e less);
    at_roles = h.at_roles;
    in_general = h.in_general;
  }

  pub table_stays : (axioms : List Numbered) (ks : List ℕ) (f : FiledRows) → IsRowTable axioms ks old f
      → IsRowTable axioms ks new f
  table_stays axioms ks f h = record {
    choice = record {
      rows_fit = λ k d lt. row_stays (theory_of axioms ks) _ (h.choice.rows_fit k d lt);
      each_once = h.choice.each_once;
    };
    fixed = λ k d lt. fixed_stays (theory_of axioms ks) _ (h.fixed k d lt);
    places = places_stay f h.places;
    keys = h.keys;
  }

-- what is built is kept
pub kept_all : (o : Listed) (set copy role_set : Limited) (only : List ℕ) (roles : List RoleAxiom)
    (a b d : List Shape) (f : FiledRows) (gs : List Given) (numbers : NumberLists) (edges : EdgeLists)
    → IsOntologyInLimit o → copy ≡ set → role_set.limit ≡ set.limit
    → ((k : ℕ) → sets.contains role_set.members k ≡ (sets.contains set.members k && is_role_number o.axioms k))
    → only ≡ member_list set → roles ≡ role_axioms o.axioms only → IsTable d
    → IsClosed (is_below roles) (is_transitive roles) d → Extends a b → Extends b d
    → IsRowTable o.axioms (member_list set) a f → AreNumbered b (stated_facts o.axioms only) gs
    → AreNumberLists d roles f.at_names numbers → AreEdgeLists (is_below roles) f edges
    → AreKept (record { ontology = o; set = copy; table = d; filed = f; given = gs }) role_set roles numbers edges
kept_all o set copy role_set only roles a b d f gs numbers edges limits same role_limit role_members members is good
    closed first later rows given lists at_edges =
    let all : roles ≡ role_axioms o.axioms (member_list set) = is ∙ ap (role_axioms o.axioms) members in
    let r : RuleLists = record { ontology = o; set = set; table = d; filed = f; given = gs } in
    let numbered : AreNumbered b (stated_facts o.axioms (member_list set)) gs =
    subst (λ (ks : List ℕ). AreNumbered b (stated_facts o.axioms ks) gs) members given in
    let facts : AreGiven (context_in r) gs =
    facts_given r
    (numbered_stay b d later (stated_facts o.axioms (member_list set)) gs
    (length (stated_facts o.axioms (member_list set))) numbered)
    (are_given (length o.classes) (length o.roles) (length o.individuals) o.axioms (member_list set) limits.listed) in
    subst
    (λ (s : Limited).
    AreKept (record { ontology = o; set = s; table = d; filed = f; given = gs }) role_set roles numbers edges)
    (sym same)
    (record {
      ready = record {
        tabled = good;
        closed = subst (λ (rs : List RoleAxiom). IsClosed (is_below rs) (is_transitive rs) d) all closed;
        row_table = table_stays a d (extends_twice a b d first later) o.axioms (member_list set) f rows;
        facts_are = facts;
        have_numbers = facts_numbered r facts;
      };
      role_limit = role_limit;
      role_members = role_members;
      roles_are = all;
      number_lists = lists;
      edge_lists = at_edges;
    })

-- and stays so with the new concepts of a query
pub kept_grown : (r : RuleLists) (role_set : Limited) (roles : List RoleAxiom) (numbers lists : NumberLists)
    (edges : EdgeLists) (new : List Shape) (q : Query) (found : QueryNumbers)
    → AreKept r role_set roles numbers edges → IsFound r.table new roles r.filed.at_names q found
    → found.tables ≡ Some lists
    → AreKept (record { ontology = r.ontology; set = r.set; table = new; filed = r.filed; given = r.given }) role_set
    roles lists edges
kept_grown r role_set roles numbers lists edges new q found h f is =
    let grown : RuleLists =
    record { ontology = r.ontology; set = r.set; table = new; filed = r.filed; given = r.given } in
    let facts : AreGiven (context_in grown) r.given = given_stay r new f.kept h.ready.facts_are in
    record {
      ready = record {
        tabled = f.tabled;
        closed = subst (λ (rs : List RoleAxiom). IsClosed (is_below rs) (is_transitive rs) new) h.roles_are f.closed;
        row_table = table_stays r.table new f.kept r.ontology.axioms (numbers_in r) r.filed h.ready.row_table;
        facts_are = facts;
        have_numbers = facts_numbered grown facts;
      };
      role_limit = h.role_limit;
      role_members = h.role_members;
      roles_are = h.roles_are;
      number_lists = subst (λ (o : Option NumberLists). HasListsIf r.table new roles r.filed.at_names o) is f.lists;
      edge_lists = h.edge_lists;
    }
