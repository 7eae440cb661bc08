-- What class expressions stand for whose tests hold.
use Rattle.std.proofs.Common.{◌≡◌, ℕ, ◌+◌, ◌≤◌, max, Bool, true, false, not, cond, ◌&&◌, ◌||◌, List, [], ◌∷◌, ◌++◌}
use Rattle.std.proofs.Common.{length, Option, Some, None, Ok, refl, ap, sym, ◌∙◌, subst, arith, codes, nat_lt}
use Rattle.std.specs.Prelude.{nat_eq, nat_le, is_none, is_some}
use Rattle.std.specs.List.{list_all}
use Rattle.std.specs.Str.{is_utf8}
use Rattle.std.proofs.lemmas.Str.{is_utf8-from_IsUtf8}
use Rattle.std.proofs.lemmas.Bool.{and_from}
use Rattle.shq_terms.specs.Concept.{Concept, top, bottom, name, complement, intersection, union, some_of, all_of}
use Rattle.shq_terms.specs.Concept.{at_least, at_most, exactly, Parts, part_list}
use Rattle.shq_terms.specs.Names.{number_of, with_name}
use Rattle.shq_terms.specs.Uses.{uses_listed, parts_use_listed}
use Rattle.ofn_tree.specs.Lexemes.{is_iri_byte}
use Rattle.ofn_tree.specs.Items.{Item, name_item, iri_item, literal_item, sign_item, group_item, Items, no_items, item}
use Rattle.ofn_tree.specs.Items.{nesting, nesting_all}
use Rattle.ofn_expressions.specs.Counts.{Counts}
use Rattle.ofn_expressions.specs.Walk.{Test, shape, prefix, outside, nodes, class, role, individual, number}
use Rattle.ofn_expressions.specs.Walk.{counts_after, walked}
use Rattle.ofn_expressions.specs.Names.{Prefix, item_line, has_colon, is_anonymous, prefix_part, prefix_iri, name_tests}
use Rattle.ofn_expressions.specs.Names.{iri_of}
use Rattle.ofn_expressions.specs.Constructs.{excluded_role, excluded_role_name}
use Rattle.ofn_expressions.specs.Keywords.{class_keyword}
use Rattle.ofn_expressions.specs.Classes as classes
use Rattle.ofn_expressions.specs.Classes.{item_count, is_thing, is_nothing, listed_class, class_name_tests, listed_role}
use Rattle.ofn_expressions.specs.Classes.{role_name_tests, role_group_tests, role_tests, roles_tests, cardinality_in}
use Rattle.ofn_expressions.specs.Classes.{number_tests_of, number_tests, joined, class_tests, each_class, place}
use Rattle.ofn_expressions.specs.Classes.{or_zero, class_named, role_named, role_of, roles_of, concept_of, concepts_of}
use Rattle.ofn_expressions.specs.Classes.{Keeps}
use Rattle.ofn_expressions.specs.Individuals.{anonymous_tests, individual_name_tests, individual_tests}
use Rattle.ofn_expressions.specs.Individuals.{individuals_tests, individual_of, individuals_of}
use Rattle.ofn_expressions.specs.declared.construct.Construct.{Construct}
use Rattle.ofn_expressions.specs.declared.construct.Construct.TheVariants.{AnonymousIndividual}
use Rattle.ofn_expressions.proofs.Kept.{place_listed, place_within}
use Rattle.ofn_reader.specs.Held.{expressions, all_expressions}
use Rattle.text_laws.specs.Writable.{is_iri, is_class_iri, is_role_iri, brackets, most_brackets, is_named}
use Rattle.text_laws.proofs.Whole.{is_whole, are_whole}
use Rattle.text_laws.proofs.Checks.{true_le, le_true, eq_true}
use Rattle.text_laws.proofs.Keywords as keywords
use Rattle.text_laws.proofs.GoodTokens.{IsGoodItem, AreGoodItems}
use Rattle.text_laws.proofs.GoodNames.{IsGoodIri, AreGoodPrefixes, iri_good}
use Rattle.text_laws.proofs.Counting.{held, both, nothing_held, never, keeps_before, Rises, rises_not, rises_both}
use Rattle.text_laws.proofs.Counting.{rises_as, rises_nodes, rises_class, rises_role, rises_individual}
use Rattle.text_laws.proofs.Words.{NoClass, class_words}

good_is_iri : (w : List ℕ) → IsGoodIri w → is_iri w ≡ true
good_is_iri w good = and_from (is_utf8 w) (list_all is_iri_byte w) (is_utf8-from_IsUtf8 w good.utf8) good.bytes

module _ (ps : List Prefix) (f : Counts) where
  -- ---- names

  pub names_pass : (i : Item) (s new : Counts) (ts : List Test) → walked s (name_tests ps i ++ ts) ≡ Ok new
      → walked s ts ≡ Ok new
  names_pass (iri_item w n) s new ts h = h
  names_pass (name_item w n) s new ts h =
      let first = held s (shape n (has_colon w)) (prefix n (is_some (prefix_iri ps (prefix_part w))) ∷ ts) new h in
      (held s (prefix n (is_some (prefix_iri ps (prefix_part w)))) ts new first.later).later
  names_pass (literal_item n) s new ts h = absurd (never s new (shape n false) ts refl h)
  names_pass (sign_item k n) s new ts h = absurd (never s new (shape n false) ts refl h)
  names_pass (group_item w is n) s new ts h = absurd (never s new (shape n false) ts refl h)

  pub record IsRole (s new : Counts) (r : ℕ) : Type 0 where
    pub rises : Rises ps s new 0 0 0
    pub listed : nat_lt r (length f.roles) ≡ true

  role_found : (w : List ℕ) (s : Counts) → Keeps (record s { roles = with_name s.roles w }) f
      → nat_lt (role_named f w) (length f.roles) ≡ true
  role_found w s keeps =
      let there : place w f.roles ≡ Some (number_of s.roles w) =
      keeps.roles w (number_of s.roles w) (place_listed w s.roles) in
      ap (λ r. nat_lt (or_zero r) (length f.roles)) there ∙ place_within w f.roles (number_of s.roles w) there

  role_by : (w : List ℕ) (n : ℕ) (s new : Counts) → (AreGoodPrefixes ps → IsGoodIri w) → (e : Option Construct)
      → excluded_role_name w ≡ e → walked s (listed_role e n w) ≡ Ok new → Keeps new f → IsRole s new (role_named f w)
  role_by w n s new good (Some c) is h keeps = absurd (never s new (outside n c) [] refl h)
  role_by w n s new good None is h keeps =
      let test = held s (role n w) [] new h in
      let there : counts_after s (role n w) ≡ new = nothing_held (counts_after s (role n w)) new test.later in
      let is_role : AreGoodPrefixes ps → is_role_iri w ≡ true =
      (λ prefixes. and_from (is_iri w) (is_none (excluded_role_name w)) (good_is_iri w (good prefixes))
      (ap is_none is)) in
      record {
        rises = subst (λ t. Rises ps s t 0 0 0) there (rises_role ps s n w test.now is_role);
        listed = role_found w s (subst (λ t. Keeps t f) (sym there) keeps);
      }

  role_name_read : (i : Item) (s new : Counts) → IsGoodItem i → walked s (role_name_tests ps i) ≡ Ok new → Keeps new f
      → IsRole s new (role_of ps f i)
  role_name_read i s new good h keeps =
      let w : List ℕ = iri_of ps i in
      role_by w (item_line i) s new (λ prefixes. iri_good ps i prefixes good) (excluded_role_name w) refl
      (names_pass i s new (listed_role (excluded_role_name w) (item_line i) w) h) keeps

  no_role_group : (e : Option Construct) (n : ℕ) (s new : Counts) → walked s (role_group_tests e n) ≡ Ok new → ⊥
  no_role_group (Some c) n s new h = never s new (outside n c) [] refl h
  no_role_group None n s new h = never s new (shape n false) [] refl h

  pub role_read : (i : Item) (s new : Counts) → IsGoodItem i → walked s (role_tests ps i) ≡ Ok new → Keeps new f
      → IsRole s new (role_of ps f i)
  role_read (name_item w n) s new good h keeps = role_name_read (name_item w n) s new good h keeps
  role_read (iri_item w n) s new good h keeps = role_name_read (iri_item w n) s new good h keeps
  role_read (literal_item n) s new good h keeps = role_name_read (literal_item n) s new good h keeps
  role_read (sign_item k n) s new good h keeps = role_name_read (sign_item k n) s new good h keeps
  role_read (group_item None is n) s new good h keeps = absurd (never s new (shape n false) [] refl h)
  role_read (group_item (Some w) is n) s new good h keeps = absurd (no_role_group (excluded_role w) n s new h)

  pub record AreRoles (s new : Counts) (rs : List ℕ) : Type 0 where
    pub rises : Rises ps s new 0 0 0
    pub listed : list_all (λ r. nat_lt r (length f.roles)) rs ≡ true

  pub roles_read : (is : Items) (s new : Counts) → AreGoodItems is → walked s (roles_tests ps is) ≡ Ok new → Keeps new f
      → AreRoles s new (roles_of ps f is)
  roles_read no_items s new good h keeps =
      record { rises = subst (λ t. Rises ps s t 0 0 0) (nothing_held s new h) (rises_not ps s); listed = refl }
  roles_read (item i is) s new good h keeps =
      let b = both s (role_tests ps i) (roles_tests ps is) new h in
      let first = role_read i s b.mid good.0 b.first (keeps_before s b.mid new f (roles_tests ps is) b.second keeps) in
      let rest = roles_read is b.mid new good.1 b.second keeps in
      record {
        rises = rises_both ps s b.mid new 0 0 0 0 0 0 first.rises rest.rises;
        listed =
            and_from (nat_lt (role_of ps f i) (length f.roles))
            (list_all (λ r. nat_lt r (length f.roles)) (roles_of ps f is)) first.listed rest.listed;
      }

  -- a role that is declared
  pub declared_role_by : (w : List ℕ) (n : ℕ) (s new : Counts) → (AreGoodPrefixes ps → IsGoodIri w)
      → (e : Option Construct) → excluded_role_name w ≡ e → walked s (classes.unless_excluded e n w) ≡ Ok new
      → Keeps new f → Rises ps s new 0 0 0
  declared_role_by w n s new good (Some c) is h keeps =
      subst (λ t. Rises ps s t 0 0 0) (nothing_held s new h) (rises_not ps s)
  declared_role_by w n s new good None is h keeps = (role_by w n s new good None is h keeps).rises

  -- ---- individuals

  individual_names_pass : (i : Item) (s new : Counts) (ts : List Test)
      → walked s (individual_name_tests ps i ++ ts) ≡ Ok new → walked s ts ≡ Ok new
  individual_names_pass (iri_item w n) s new ts h = h
  individual_names_pass (name_item w n) s new ts h =
      let last : Test = prefix n (is_some (prefix_iri ps (prefix_part w))) in
      by (is_anonymous w)
      (held s (shape n (has_colon w)) ((anonymous_tests n (is_anonymous w) ++ (last ∷ [])) ++ ts) new h).later
    where
      by : (v : Bool)
          → walked s ((anonymous_tests n v ++ (prefix n (is_some (prefix_iri ps (prefix_part w))) ∷ [])) ++ ts) ≡ Ok new
          → walked s ts ≡ Ok new
      by true g =
          absurd
          (never s new (outside n AnonymousIndividual) (prefix n (is_some (prefix_iri ps (prefix_part w))) ∷ ts) refl g)
      by false g = (held s (prefix n (is_some (prefix_iri ps (prefix_part w)))) ts new g).later
  individual_names_pass (literal_item n) s new ts h = absurd (never s new (shape n false) ts refl h)
  individual_names_pass (sign_item k n) s new ts h = absurd (never s new (shape n false) ts refl h)
  individual_names_pass (group_item w is n) s new ts h = absurd (never s new (shape n false) ts refl h)

  pub record IsIndividual (s new : Counts) (a : ℕ) : Type 0 where
    pub rises : Rises ps s new 0 0 0
    pub listed : nat_lt a (length f.individuals) ≡ true

  pub individual_read : (i : Item) (s new : Counts) → IsGoodItem i → walked s (individual_tests ps i) ≡ Ok new
      → Keeps new f → IsIndividual s new (individual_of ps f i)
  individual_read i s new good h keeps =
      let w : List ℕ = iri_of ps i in
      let n : ℕ = item_line i in
      let test = held s (individual n w) [] new (individual_names_pass i s new (individual n w ∷ []) h) in
      let there : counts_after s (individual n w) ≡ new =
      nothing_held (counts_after s (individual n w)) new test.later in
      let kept : Keeps (counts_after s (individual n w)) f = subst (λ t. Keeps t f) (sym there) keeps in
      let found : place w f.individuals ≡ Some (number_of s.individuals w) =
      kept.individuals w (number_of s.individuals w) (place_listed w s.individuals) in
      record {
        rises =
            subst (λ t. Rises ps s t 0 0 0) there
            (rises_individual ps s n w test.now (λ prefixes. good_is_iri w (iri_good ps i prefixes good)));
        listed =
            ap (λ r. nat_lt (or_zero r) (length f.individuals)) found
            ∙ place_within w f.individuals (number_of s.individuals w) found;
      }

  pub record AreIndividuals (s new : Counts) (as_ : List ℕ) : Type 0 where
    pub rises : Rises ps s new 0 0 0
    pub listed : list_all (λ a. nat_lt a (length f.individuals)) as_ ≡ true

  pub individuals_read : (is : Items) (s new : Counts) → AreGoodItems is → walked s (individuals_tests ps is) ≡ Ok new
      → Keeps new f → AreIndividuals s new (individuals_of ps f is)
  individuals_read no_items s new good h keeps =
      record { rises = subst (λ t. Rises ps s t 0 0 0) (nothing_held s new h) (rises_not ps s); listed = refl }
  individuals_read (item i is) s new good h keeps =
      let b = both s (individual_tests ps i) (individuals_tests ps is) new h in
      let first =
      individual_read i s b.mid good.0 b.first (keeps_before s b.mid new f (individuals_tests ps is) b.second keeps) in
      let rest = individuals_read is b.mid new good.1 b.second keeps in
      record {
        rises = rises_both ps s b.mid new 0 0 0 0 0 0 first.rises rest.rises;
        listed =
            and_from (nat_lt (individual_of ps f i) (length f.individuals))
            (list_all (λ a. nat_lt a (length f.individuals)) (individuals_of ps f is)) first.listed rest.listed;
      }

  -- ---- numbers

  number_by : (r : Option ℕ) (n : ℕ) (s new : Counts) (ts : List Test) → walked s (number_tests_of n r ++ ts) ≡ Ok new
      → (or_zero r ≤ 100) × (walked s ts ≡ Ok new)
  number_by (Some k) n s new ts h = let test = held s (number n k) ts new h in (true_le k 100 test.now, test.later)
  number_by None n s new ts h = absurd (never s new (shape n false) ts refl h)

  number_read : (i : Item) (s new : Counts) (ts : List Test) → walked s (number_tests i ++ ts) ≡ Ok new
      → (classes.cardinality_of i ≤ 100) × (walked s ts ≡ Ok new)
  number_read (name_item w n) s new ts h = number_by (cardinality_in w) n s new ts h
  number_read (iri_item w n) s new ts h = absurd (never s new (shape n false) ts refl h)
  number_read (literal_item n) s new ts h = absurd (never s new (shape n false) ts refl h)
  number_read (sign_item k n) s new ts h = absurd (never s new (shape n false) ts refl h)
  number_read (group_item w is n) s new ts h = absurd (never s new (shape n false) ts refl h)

  -- ---- class expressions

  abbrev listed : Concept → Bool
  listed c = uses_listed (length f.classes) (length f.roles) c

  abbrev all_listed : Parts → Bool
  all_listed cs = parts_use_listed (length f.classes) (length f.roles) cs

  pub record IsRead (s new : Counts) (c : Concept) (deep : ℕ) : Type 0 where
    pub rises : Rises ps s new 0 0 (expressions c)
    pub listed : uses_listed (length f.classes) (length f.roles) c ≡ true
    pub whole : is_whole c ≡ true
    pub nested : brackets c ≤ deep

  pub record AreRead (s new : Counts) (cs : Parts) (deep : ℕ) : Type 0 where
    pub rises : Rises ps s new 0 0 (all_expressions cs)
    pub listed : parts_use_listed (length f.classes) (length f.roles) cs ≡ true
    pub whole : are_whole cs ≡ true
    pub nested : most_brackets cs ≤ deep

  read_as : (s new : Counts) (c d : Concept) (deep : ℕ) → d ≡ c → IsRead s new c deep → IsRead s new d deep
  read_as s new c d deep same read = subst (λ e. IsRead s new e deep) (sym same) read

  -- a name
  abbrev class_by : Bool → Bool → List ℕ → Concept
  class_by thing nothing w = cond thing top (cond nothing bottom (name (or_zero (place w f.classes))))

  pub listed_by : (w : List ℕ) (n : ℕ) (s new : Counts) → (AreGoodPrefixes ps → IsGoodIri w) → (u v : Bool)
      → is_thing w ≡ u → is_nothing w ≡ v → walked s (cond u [] (cond v [] (class n w ∷ []))) ≡ Ok new → Keeps new f
      → Rises ps s new 0 0 0 × (listed (class_by u v w) ≡ true)
  listed_by w n s new good true v thing nothing h keeps =
      (subst (λ t. Rises ps s t 0 0 0) (nothing_held s new h) (rises_not ps s), refl)
  listed_by w n s new good false true thing nothing h keeps =
      (subst (λ t. Rises ps s t 0 0 0) (nothing_held s new h) (rises_not ps s), refl)
  listed_by w n s new good false false thing nothing h keeps =
      let test = held s (class n w) [] new h in
      let there : counts_after s (class n w) ≡ new = nothing_held (counts_after s (class n w)) new test.later in
      let named : (not (is_thing w) && not (is_nothing w)) ≡ true = λ i. not (thing i) && not (nothing i) in
      let is_class : AreGoodPrefixes ps → is_class_iri w ≡ true =
      (λ prefixes. and_from (is_iri w) (not (is_thing w) && not (is_nothing w)) (good_is_iri w (good prefixes))
      named) in
      let kept : Keeps (counts_after s (class n w)) f = subst (λ t. Keeps t f) (sym there) keeps in
      let found : place w f.classes ≡ Some (number_of s.classes w) =
      kept.classes w (number_of s.classes w) (place_listed w s.classes) in (
        subst (λ t. Rises ps s t 0 0 0) there (rises_class ps s n w test.now is_class),
        ap (λ r. nat_lt (or_zero r) (length f.classes)) found ∙ place_within w f.classes (number_of s.classes w) found,
      )

  pub named_class : (w : List ℕ) → is_named (class_named f w) ≡ true
  named_class w = by (is_thing w) (is_nothing w)
    where
      by : (u v : Bool) → is_named (class_by u v w) ≡ true
      by true v = refl
      by false true = refl
      by false false = refl

  -- a name has no parts
  alone_by : (w : List ℕ)
      → (is_whole (class_named f w) ≡ true) × (brackets (class_named f w) ≡ 0) × (expressions (class_named f w) ≡ 1)
  alone_by w = by (is_thing w) (is_nothing w)
    where
      by : (u v : Bool)
          → (is_whole (class_by u v w) ≡ true) × (brackets (class_by u v w) ≡ 0) × (expressions (class_by u v w) ≡ 1)
      by true v = (refl, refl, refl)
      by false true = (refl, refl, refl)
      by false false = (refl, refl, refl)

  pub class_name_read : (i : Item) (s new : Counts) (deep : ℕ) → IsGoodItem i
      → walked s (class_name_tests ps i) ≡ Ok new → Keeps new f → IsRead s new (class_named f (iri_of ps i)) deep
  class_name_read i s new deep good h keeps =
      let w : List ℕ = iri_of ps i in
      let n : ℕ = item_line i in
      let named = names_pass i s new (nodes n 1 ∷ listed_class n w) h in
      let count = held s (nodes n 1) (listed_class n w) new named in
      let mid : Counts = counts_after s (nodes n 1) in
      let told =
      listed_by w n mid new (λ prefixes. iri_good ps i prefixes good) (is_thing w) (is_nothing w) refl refl count.later
      keeps in
      let one = alone_by w in
      record {
        rises =
            rises_as ps s new 0 0 1 0 0 (expressions (class_named f w)) refl refl (sym one.2)
            (rises_both ps s mid new 0 0 1 0 0 0 (rises_nodes ps s n 1 count.now) told.0);
        listed = told.1;
        whole = one.0;
        nested = omega (arith, one.1);
      }

  -- ---- items of a group

  abbrev pub Reads : Item → Type 0
  Reads i = (s new : Counts) → walked s (class_tests ps i) ≡ Ok new → Keeps new f
      → IsRead s new (concept_of ps f i) (nesting i)

  abbrev pub AllRead : Items → Type 0
  AllRead no_items = Unit {0}
  AllRead (item i is) = Reads i × AllRead is

  pub parts_read : (is : Items) → AllRead is → (s new : Counts) → walked s (joined (each_class ps is)) ≡ Ok new
      → Keeps new f → AreRead s new (concepts_of ps f is) (nesting_all is)
  parts_read no_items reads s new h keeps = record {
    rises = subst (λ t. Rises ps s t 0 0 0) (nothing_held s new h) (rises_not ps s);
    listed = refl;
    whole = refl;
    nested = omega arith;
  }
  parts_read (item i is) reads s new h keeps =
      let c : Concept = concept_of ps f i in
      let cs : Parts = concepts_of ps f is in
      let b = both s (class_tests ps i) (joined (each_class ps is)) new h in
      let first = reads.0 s b.mid b.first (keeps_before s b.mid new f (joined (each_class ps is)) b.second keeps) in
      let rest = parts_read is reads.1 b.mid new b.second keeps in
      record {
        rises = rises_both ps s b.mid new 0 0 (expressions c) 0 0 (all_expressions cs) first.rises rest.rises;
        listed = and_from (listed c) (all_listed cs) first.listed rest.listed;
        whole = and_from (is_whole c) (are_whole cs) first.whole rest.whole;
        nested = omega (arith, first.nested, rest.nested);
      }

  pub count_read : (is : Items) → length (part_list (concepts_of ps f is)) ≡ item_count is
  count_read no_items = refl
  count_read (item i is) = omega (arith, count_read is)

  -- the tests of one more item alone
  last_read : (i : Item) → Reads i → (s new : Counts) → walked s (class_tests ps i ++ []) ≡ Ok new → Keeps new f
      → IsRead s new (concept_of ps f i) (nesting i)
  last_read i reads s new h keeps =
      let b = both s (class_tests ps i) [] new h in
      let there : b.mid ≡ new = nothing_held b.mid new b.second in
      reads s new (b.first ∙ ap Ok there) keeps

  -- ---- groups

  -- the head of a group holds
  record Opens (s new : Counts) (n k : ℕ) (enough : Bool) (ts : List Test) : Type 0 where
    rises : Rises ps s (counts_after s (nodes n k)) 0 0 k
    fits : enough ≡ true
    later : walked (counts_after s (nodes n k)) ts ≡ Ok new

  opens : (s new : Counts) (n k : ℕ) (enough : Bool) (ts : List Test)
      → walked s (nodes n k ∷ (shape n enough ∷ ts)) ≡ Ok new → Opens s new n k enough ts
  opens s new n k enough ts h =
      let count = held s (nodes n k) (shape n enough ∷ ts) new h in
      let form = held (counts_after s (nodes n k)) (shape n enough) ts new count.later in
      record { rises = rises_nodes ps s n k count.now; fits = form.now; later = form.later }

  -- a group with this word is read
  abbrev GroupReads : List ℕ → Type 0
  GroupReads w = (n : ℕ) (is : Items) → AreGoodItems is → AllRead is → Reads (group_item (Some w) is n)

  many_read : (con : Parts → Concept) → ((cs : Parts) → listed (con cs) ≡ all_listed cs)
      → ((cs : Parts) → is_whole (con cs) ≡ (nat_le 2 (length (part_list cs)) && are_whole cs))
      → ((cs : Parts) → expressions (con cs) ≡ 1 + all_expressions cs)
      → ((cs : Parts) → brackets (con cs) ≡ most_brackets cs + 1) → (n : ℕ) (is : Items) → AllRead is → (s new : Counts)
      → walked s (nodes n 1 ∷ (shape n (nat_le 2 (item_count is)) ∷ joined (each_class ps is))) ≡ Ok new → Keeps new f
      → IsRead s new (con (concepts_of ps f is)) (nesting_all is + 1)
  many_read con lists wholes counts nests n is reads s new h keeps =
      let cs : Parts = concepts_of ps f is in
      let mid : Counts = counts_after s (nodes n 1) in
      let o = opens s new n 1 (nat_le 2 (item_count is)) (joined (each_class ps is)) h in
      let inner = parts_read is reads mid new o.later keeps in
      let many : nat_le 2 (length (part_list cs)) ≡ true = ap (nat_le 2) (count_read is) ∙ o.fits in
      record {
        rises =
            rises_as ps s new 0 0 (1 + all_expressions cs) 0 0 (expressions (con cs)) refl refl (sym (counts cs))
            (rises_both ps s mid new 0 0 1 0 0 (all_expressions cs) o.rises inner.rises);
        listed = lists cs ∙ inner.listed;
        whole = wholes cs ∙ and_from (nat_le 2 (length (part_list cs))) (are_whole cs) many inner.whole;
        nested = omega (arith, nests cs, inner.nested);
      }

  intersection_read : GroupReads (codes "ObjectIntersectionOf")
  intersection_read n is good reads s new h keeps =
      read_as s new (intersection (concepts_of ps f is))
      (concept_of ps f (group_item (Some (codes "ObjectIntersectionOf")) is n)) (nesting_all is + 1)
      (keywords.intersection_value ps n is f)
      (many_read intersection (λ cs. refl) (λ cs. refl) (λ cs. refl) (λ cs. refl) n is reads s new
      (ap (walked s) (sym (keywords.intersection_tests ps n is)) ∙ h) keeps)

  union_read : GroupReads (codes "ObjectUnionOf")
  union_read n is good reads s new h keeps =
      read_as s new (union (concepts_of ps f is)) (concept_of ps f (group_item (Some (codes "ObjectUnionOf")) is n))
      (nesting_all is + 1) (keywords.union_value ps n is f)
      (many_read union (λ cs. refl) (λ cs. refl) (λ cs. refl) (λ cs. refl) n is reads s new
      (ap (walked s) (sym (keywords.union_tests ps n is)) ∙ h) keeps)

  complement_tests : (n : ℕ) (is : Items)
      → class_tests ps (group_item (Some (codes "ObjectComplementOf")) is n)
      ≡ nodes n 1 ∷ (shape n (nat_eq (item_count is) 1) ∷ joined (each_class ps is))
  unfolding class_keyword
  complement_tests n is = refl

  complement_value : (n : ℕ) (is : Items)
      → concept_of ps f (group_item (Some (codes "ObjectComplementOf")) is n)
      ≡ complement (classes.first (concepts_of ps f is))
  unfolding class_keyword
  complement_value n is = refl

  -- one item, which is the filler
  pub filler_read : (is : Items) → item_count is ≡ 1 → AllRead is → (s new : Counts)
      → walked s (joined (each_class ps is)) ≡ Ok new → Keeps new f
      → IsRead s new (classes.first (concepts_of ps f is)) (nesting_all is)
  filler_read no_items one reads s new h keeps = absurd (omega (arith, one))
  filler_read (item i no_items) one reads s new h keeps =
      let read = last_read i reads.0 s new h keeps in
      record { rises = read.rises; listed = read.listed; whole = read.whole; nested = omega (arith, read.nested) }
  filler_read (item i (item j is)) one reads s new h keeps = absurd (omega (arith, one))

  complement_read : GroupReads (codes "ObjectComplementOf")
  complement_read n is good reads s new h keeps =
      let mid : Counts = counts_after s (nodes n 1) in
      let o =
      opens s new n 1 (nat_eq (item_count is) 1) (joined (each_class ps is))
      (ap (walked s) (sym (complement_tests n is)) ∙ h) in
      let inner = filler_read is (eq_true (item_count is) 1 o.fits) reads mid new o.later keeps in
      let c : Concept = classes.first (concepts_of ps f is) in
      read_as s new (complement c) (concept_of ps f (group_item (Some (codes "ObjectComplementOf")) is n))
      (nesting_all is + 1) (complement_value n is)
      (record {
        rises = rises_both ps s mid new 0 0 1 0 0 (expressions c) o.rises inner.rises;
        listed = inner.listed;
        whole = inner.whole;
        nested = omega (arith, inner.nested);
      })

  -- a role and a filler
  valued_read : (con : ℕ → Concept → Concept)
      → ((r : ℕ) (c : Concept) → listed (con r c) ≡ (nat_lt r (length f.roles) && listed c))
      → ((r : ℕ) (c : Concept) → is_whole (con r c) ≡ is_whole c)
      → ((r : ℕ) (c : Concept) → expressions (con r c) ≡ 1 + expressions c)
      → ((r : ℕ) (c : Concept) → brackets (con r c) ≡ brackets c + 1) → (n : ℕ) (r : Item) (is : Items) → IsGoodItem r
      → AllRead is → (s new : Counts)
      → walked s (nodes n 1 ∷ (shape n (nat_eq (item_count is + 1) 2) ∷ (role_tests ps r ++ joined (each_class ps is))))
      ≡ Ok new
      → Keeps new f
      → IsRead s new (con (role_of ps f r) (classes.first (concepts_of ps f is))) (max (nesting r) (nesting_all is) + 1)
  valued_read con lists wholes counts nests n r is good reads s new h keeps =
      let c : Concept = classes.first (concepts_of ps f is) in
      let k : ℕ = role_of ps f r in
      let mid : Counts = counts_after s (nodes n 1) in
      let o = opens s new n 1 (nat_eq (item_count is + 1) 2) (role_tests ps r ++ joined (each_class ps is)) h in
      let b = both mid (role_tests ps r) (joined (each_class ps is)) new o.later in
      let count : item_count is + 1 ≡ 2 = eq_true (item_count is + 1) 2 o.fits in
      let role =
      role_read r mid b.mid good b.first (keeps_before mid b.mid new f (joined (each_class ps is)) b.second keeps) in
      let inner = filler_read is (omega (arith, count)) reads b.mid new b.second keeps in
      let rises : Rises ps s new 0 0 (1 + (0 + expressions c)) =
      rises_both ps s mid new 0 0 1 0 0 (0 + expressions c) o.rises
      (rises_both ps mid b.mid new 0 0 0 0 0 (expressions c) role.rises inner.rises) in
      let total_is : 1 + (0 + expressions c) ≡ expressions (con k c) = omega (arith, counts k c) in
      record {
        rises = rises_as ps s new 0 0 (1 + (0 + expressions c)) 0 0 (expressions (con k c)) refl refl total_is rises;
        listed = lists k c ∙ and_from (nat_lt k (length f.roles)) (listed c) role.listed inner.listed;
        whole = wholes k c ∙ inner.whole;
        nested = omega (arith, nests k c, inner.nested);
      }

  some_none : (n : ℕ)
      → class_tests ps (group_item (Some (codes "ObjectSomeValuesFrom")) no_items n) ≡ nodes n 1 ∷ (shape n false ∷ [])
  unfolding class_keyword
  some_none n = refl

  some_tests : (n : ℕ) (r : Item) (is : Items)
      → class_tests ps (group_item (Some (codes "ObjectSomeValuesFrom")) (item r is) n)
      ≡ nodes n 1 ∷ (shape n (nat_eq (item_count is + 1) 2) ∷ (role_tests ps r ++ joined (each_class ps is)))
  unfolding class_keyword
  some_tests n r is = refl

  some_value : (n : ℕ) (r : Item) (is : Items)
      → concept_of ps f (group_item (Some (codes "ObjectSomeValuesFrom")) (item r is) n)
      ≡ some_of (role_of ps f r) (classes.first (concepts_of ps f is))
  unfolding class_keyword
  some_value n r is = refl

  all_none : (n : ℕ)
      → class_tests ps (group_item (Some (codes "ObjectAllValuesFrom")) no_items n) ≡ nodes n 1 ∷ (shape n false ∷ [])
  unfolding class_keyword
  all_none n = refl

  all_tests : (n : ℕ) (r : Item) (is : Items)
      → class_tests ps (group_item (Some (codes "ObjectAllValuesFrom")) (item r is) n)
      ≡ nodes n 1 ∷ (shape n (nat_eq (item_count is + 1) 2) ∷ (role_tests ps r ++ joined (each_class ps is)))
  unfolding class_keyword
  all_tests n r is = refl

  all_value : (n : ℕ) (r : Item) (is : Items)
      → concept_of ps f (group_item (Some (codes "ObjectAllValuesFrom")) (item r is) n)
      ≡ all_of (role_of ps f r) (classes.first (concepts_of ps f is))
  unfolding class_keyword
  all_value n r is = refl

  few_items : (s new : Counts) (n k : ℕ) (ts : List Test) → walked s (nodes n k ∷ (shape n false ∷ ts)) ≡ Ok new → ⊥
  few_items s new n k ts h =
      let o = opens s new n k false ts h in let clash : false ≡ true = o.fits in absurd (cc clash)

  some_read : GroupReads (codes "ObjectSomeValuesFrom")
  some_read n no_items good reads s new h keeps =
      absurd (few_items s new n 1 [] (ap (walked s) (sym (some_none n)) ∙ h))
  some_read n (item r is) good reads s new h keeps =
      read_as s new (some_of (role_of ps f r) (classes.first (concepts_of ps f is)))
      (concept_of ps f (group_item (Some (codes "ObjectSomeValuesFrom")) (item r is) n))
      (max (nesting r) (nesting_all is) + 1) (some_value n r is)
      (valued_read some_of (λ k c. refl) (λ k c. refl) (λ k c. refl) (λ k c. refl) n r is good.0 reads.1 s new
      (ap (walked s) (sym (some_tests n r is)) ∙ h) keeps)

  all_read : GroupReads (codes "ObjectAllValuesFrom")
  all_read n no_items good reads s new h keeps = absurd (few_items s new n 1 [] (ap (walked s) (sym (all_none n)) ∙ h))
  all_read n (item r is) good reads s new h keeps =
      read_as s new (all_of (role_of ps f r) (classes.first (concepts_of ps f is)))
      (concept_of ps f (group_item (Some (codes "ObjectAllValuesFrom")) (item r is) n))
      (max (nesting r) (nesting_all is) + 1) (all_value n r is)
      (valued_read all_of (λ k c. refl) (λ k c. refl) (λ k c. refl) (λ k c. refl) n r is good.0 reads.1 s new
      (ap (walked s) (sym (all_tests n r is)) ∙ h) keeps)

  -- a number, a role and a filler, which may be left out
  abbrev bound_tests : ℕ → Item → Item → Items → List Test
  bound_tests n k r is =
      nodes n (cond (nat_eq (item_count is + 1 + 1) 2) 2 1)
      ∷ (shape n (nat_eq (item_count is + 1 + 1) 2 || nat_eq (item_count is + 1 + 1) 3)
      ∷ (number_tests k ++ (role_tests ps r ++ joined (each_class ps is))))

  filled_read : (is : Items) → (nat_eq (item_count is + 1 + 1) 2 || nat_eq (item_count is + 1 + 1) 3) ≡ true
      → AllRead is → (s new : Counts) → walked s (joined (each_class ps is)) ≡ Ok new → Keeps new f
      → (e : ℕ) × Rises ps s new 0 0 e
      × (cond (nat_eq (item_count is + 1 + 1) 2) 2 1 + e ≡ 1 + expressions (classes.first (concepts_of ps f is)))
      × (listed (classes.first (concepts_of ps f is)) ≡ true) × (is_whole (classes.first (concepts_of ps f is)) ≡ true)
      × (brackets (classes.first (concepts_of ps f is)) ≤ nesting_all is)
  filled_read no_items enough reads s new h keeps =
      (0, subst (λ t. Rises ps s t 0 0 0) (nothing_held s new h) (rises_not ps s), refl, refl, refl, omega arith)
  filled_read (item i no_items) enough reads s new h keeps =
      let read = last_read i reads.0 s new h keeps in
      (expressions (concept_of ps f i), read.rises, refl, read.listed, read.whole, omega (arith, read.nested))
  filled_read (item i (item j is)) enough reads s new h keeps = absurd (too_many (item_count is) enough)
    where
      too_many : (m : ℕ) → (nat_eq (m + 1 + 1 + 1 + 1) 2 || nat_eq (m + 1 + 1 + 1 + 1) 3) ≡ true → ⊥
      too_many m g = by (nat_eq (m + 1 + 1 + 1 + 1) 2) refl g
        where
          by : (v : Bool) → nat_eq (m + 1 + 1 + 1 + 1) 2 ≡ v → (v || nat_eq (m + 1 + 1 + 1 + 1) 3) ≡ true → ⊥
          by true two z = omega (arith, eq_true (m + 1 + 1 + 1 + 1) 2 two)
          by false two three = omega (arith, eq_true (m + 1 + 1 + 1 + 1) 3 three)

  bounded_read : (con : ℕ → ℕ → Concept → Concept)
      → ((k r : ℕ) (c : Concept) → listed (con k r c) ≡ (nat_lt r (length f.roles) && listed c))
      → ((k r : ℕ) (c : Concept) → is_whole (con k r c) ≡ (nat_le k 100 && is_whole c))
      → ((k r : ℕ) (c : Concept) → expressions (con k r c) ≡ 1 + expressions c)
      → ((k r : ℕ) (c : Concept) → brackets (con k r c) ≡ brackets c + 1) → (n : ℕ) (k r : Item) (is : Items)
      → IsGoodItem r → AllRead is → (s new : Counts)
      → walked s (bound_tests n k r is) ≡ Ok new → Keeps new f
      → IsRead s new (con (classes.cardinality_of k) (role_of ps f r) (classes.first (concepts_of ps f is)))
      (max (nesting k) (max (nesting r) (nesting_all is)) + 1)
  bounded_read con lists wholes counts nests n k r is good reads s new h keeps =
      let c : Concept = classes.first (concepts_of ps f is) in
      let m : ℕ = classes.cardinality_of k in
      let role : ℕ = role_of ps f r in
      let head : ℕ = cond (nat_eq (item_count is + 1 + 1) 2) 2 1 in
      let mid : Counts = counts_after s (nodes n head) in
      let o =
      opens s new n head (nat_eq (item_count is + 1 + 1) 2 || nat_eq (item_count is + 1 + 1) 3)
      (number_tests k ++ (role_tests ps r ++ joined (each_class ps is))) h in
      let number = number_read k mid new (role_tests ps r ++ joined (each_class ps is)) o.later in
      let b = both mid (role_tests ps r) (joined (each_class ps is)) new number.1 in
      let is_role =
      role_read r mid b.mid good b.first (keeps_before mid b.mid new f (joined (each_class ps is)) b.second keeps) in
      let inner = filled_read is o.fits reads b.mid new b.second keeps in
      let e : ℕ = inner.0 in
      let sum : head + e ≡ 1 + expressions c = inner.2 in
      let rises : Rises ps s new 0 0 (head + (0 + e)) =
      rises_both ps s mid new 0 0 head 0 0 (0 + e) o.rises
      (rises_both ps mid b.mid new 0 0 0 0 0 e is_role.rises inner.1) in
      let total_is : head + (0 + e) ≡ expressions (con m role c) = omega (arith, sum, counts m role c) in
      record {
        rises = rises_as ps s new 0 0 (head + (0 + e)) 0 0 (expressions (con m role c)) refl refl total_is rises;
        listed = lists m role c ∙ and_from (nat_lt role (length f.roles)) (listed c) is_role.listed inner.3;
        whole = wholes m role c ∙ and_from (nat_le m 100) (is_whole c) (le_true m 100 number.0) inner.4;
        nested = omega (arith, nests m role c, inner.5);
      }

  least_none : (n : ℕ)
      → class_tests ps (group_item (Some (codes "ObjectMinCardinality")) no_items n) ≡ nodes n 1 ∷ (shape n false ∷ [])
  unfolding class_keyword
  least_none n = refl

  least_one : (n : ℕ) (k : Item)
      → class_tests ps (group_item (Some (codes "ObjectMinCardinality")) (item k no_items) n)
      ≡ nodes n 1 ∷ (shape n false ∷ joined (each_class ps (item k no_items)))
  unfolding class_keyword
  least_one n k = refl

  least_tests : (n : ℕ) (k r : Item) (is : Items)
      → class_tests ps (group_item (Some (codes "ObjectMinCardinality")) (item k (item r is)) n) ≡ bound_tests n k r is
  unfolding class_keyword
  least_tests n k r is = refl

  least_value : (n : ℕ) (k r : Item) (is : Items)
      → concept_of ps f (group_item (Some (codes "ObjectMinCardinality")) (item k (item r is)) n)
      ≡ at_least (classes.cardinality_of k) (role_of ps f r) (classes.first (concepts_of ps f is))
  unfolding class_keyword
  least_value n k r is = refl

  least_read : GroupReads (codes "ObjectMinCardinality")
  least_read n no_items good reads s new h keeps =
      absurd (few_items s new n 1 [] (ap (walked s) (sym (least_none n)) ∙ h))
  least_read n (item k no_items) good reads s new h keeps =
      absurd (few_items s new n 1 (joined (each_class ps (item k no_items))) (ap (walked s) (sym (least_one n k)) ∙ h))
  least_read n (item k (item r is)) good reads s new h keeps =
      read_as s new (at_least (classes.cardinality_of k) (role_of ps f r) (classes.first (concepts_of ps f is)))
      (concept_of ps f (group_item (Some (codes "ObjectMinCardinality")) (item k (item r is)) n))
      (max (nesting k) (max (nesting r) (nesting_all is)) + 1) (least_value n k r is)
      (bounded_read at_least (λ m j c. refl) (λ m j c. refl) (λ m j c. refl) (λ m j c. refl) n k r is good.1.0 reads.1.1
      s new (ap (walked s) (sym (least_tests n k r is)) ∙ h) keeps)

  most_none : (n : ℕ)
      → class_tests ps (group_item (Some (codes "ObjectMaxCardinality")) no_items n) ≡ nodes n 1 ∷ (shape n false ∷ [])
  unfolding class_keyword
  most_none n = refl

  most_one : (n : ℕ) (k : Item)
      → class_tests ps (group_item (Some (codes "ObjectMaxCardinality")) (item k no_items) n)
      ≡ nodes n 1 ∷ (shape n false ∷ joined (each_class ps (item k no_items)))
  unfolding class_keyword
  most_one n k = refl

  most_tests : (n : ℕ) (k r : Item) (is : Items)
      → class_tests ps (group_item (Some (codes "ObjectMaxCardinality")) (item k (item r is)) n) ≡ bound_tests n k r is
  unfolding class_keyword
  most_tests n k r is = refl

  most_value : (n : ℕ) (k r : Item) (is : Items)
      → concept_of ps f (group_item (Some (codes "ObjectMaxCardinality")) (item k (item r is)) n)
      ≡ at_most (classes.cardinality_of k) (role_of ps f r) (classes.first (concepts_of ps f is))
  unfolding class_keyword
  most_value n k r is = refl

  most_read : GroupReads (codes "ObjectMaxCardinality")
  most_read n no_items good reads s new h keeps =
      absurd (few_items s new n 1 [] (ap (walked s) (sym (most_none n)) ∙ h))
  most_read n (item k no_items) good reads s new h keeps =
      absurd (few_items s new n 1 (joined (each_class ps (item k no_items))) (ap (walked s) (sym (most_one n k)) ∙ h))
  most_read n (item k (item r is)) good reads s new h keeps =
      read_as s new (at_most (classes.cardinality_of k) (role_of ps f r) (classes.first (concepts_of ps f is)))
      (concept_of ps f (group_item (Some (codes "ObjectMaxCardinality")) (item k (item r is)) n))
      (max (nesting k) (max (nesting r) (nesting_all is)) + 1) (most_value n k r is)
      (bounded_read at_most (λ m j c. refl) (λ m j c. refl) (λ m j c. refl) (λ m j c. refl) n k r is good.1.0 reads.1.1
      s new (ap (walked s) (sym (most_tests n k r is)) ∙ h) keeps)

  exact_none : (n : ℕ)
      → class_tests ps (group_item (Some (codes "ObjectExactCardinality")) no_items n)
      ≡ nodes n 1 ∷ (shape n false ∷ [])
  unfolding class_keyword
  exact_none n = refl

  exact_one : (n : ℕ) (k : Item)
      → class_tests ps (group_item (Some (codes "ObjectExactCardinality")) (item k no_items) n)
      ≡ nodes n 1 ∷ (shape n false ∷ joined (each_class ps (item k no_items)))
  unfolding class_keyword
  exact_one n k = refl

  exact_tests : (n : ℕ) (k r : Item) (is : Items)
      → class_tests ps (group_item (Some (codes "ObjectExactCardinality")) (item k (item r is)) n)
      ≡ bound_tests n k r is
  unfolding class_keyword
  exact_tests n k r is = refl

  exact_value : (n : ℕ) (k r : Item) (is : Items)
      → concept_of ps f (group_item (Some (codes "ObjectExactCardinality")) (item k (item r is)) n)
      ≡ exactly (classes.cardinality_of k) (role_of ps f r) (classes.first (concepts_of ps f is))
  unfolding class_keyword
  exact_value n k r is = refl

  exact_read : GroupReads (codes "ObjectExactCardinality")
  exact_read n no_items good reads s new h keeps =
      absurd (few_items s new n 1 [] (ap (walked s) (sym (exact_none n)) ∙ h))
  exact_read n (item k no_items) good reads s new h keeps =
      absurd (few_items s new n 1 (joined (each_class ps (item k no_items))) (ap (walked s) (sym (exact_one n k)) ∙ h))
  exact_read n (item k (item r is)) good reads s new h keeps =
      read_as s new (exactly (classes.cardinality_of k) (role_of ps f r) (classes.first (concepts_of ps f is)))
      (concept_of ps f (group_item (Some (codes "ObjectExactCardinality")) (item k (item r is)) n))
      (max (nesting k) (max (nesting r) (nesting_all is)) + 1) (exact_value n k r is)
      (bounded_read exactly (λ m j c. refl) (λ m j c. refl) (λ m j c. refl) (λ m j c. refl) n k r is good.1.0 reads.1.1
      s new (ap (walked s) (sym (exact_tests n k r is)) ∙ h) keeps)

  other_read : (w : List ℕ) → NoClass w → GroupReads w
  other_read w none n is good reads s new h keeps = absurd (none ps n is s new h)

  group_read : (w : List ℕ) → GroupReads w
  group_read w =
      class_words GroupReads intersection_read union_read complement_read some_read all_read least_read most_read
      exact_read other_read w

  mutual
    pub class_read : (i : Item) → IsGoodItem i → Reads i
    class_read (name_item w n) good = λ s new h keeps. class_name_read (name_item w n) s new 0 good h keeps
    class_read (iri_item w n) good = λ s new h keeps. class_name_read (iri_item w n) s new 0 good h keeps
    class_read (literal_item n) good = λ s new h keeps. class_name_read (literal_item n) s new 0 good h keeps
    class_read (sign_item k n) good = λ s new h keeps. class_name_read (sign_item k n) s new 0 good h keeps
    class_read (group_item None is n) good =
        λ s new h keeps. class_name_read (group_item None is n) s new (nesting_all is + 1) good h keeps
    class_read (group_item (Some w) is n) good = group_read w n is good (all_classes_read is good)

    pub all_classes_read : (is : Items) → AreGoodItems is → AllRead is
    all_classes_read no_items good = tt
    all_classes_read (item i is) good = (class_read i good.0, all_classes_read is good.1)
