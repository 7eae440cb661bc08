-- The names of individuals, and individuals as a list, one more of which is read.
use Rattle.std.proofs.Common.{◌≡◌, ℕ, ◌+◌, ◌<◌, ◌≤◌, List, [], ◌∷◌, ◌++◌, length, get_or, drop, drop-cons, true, false}
use Rattle.std.proofs.Common.{Ok, Err, refl, ap, sym, ◌∙◌, subst, add-one, append_assoc, append-nil, Some, Result}
use Rattle.std.proofs.Common.{arith}
use Rattle.std.proofs.lemmas.Grind.{common_steps}
use Rattle.std.specs.Prelude.{nat_lt, IfOk}
use Rattle.std.specs.List.{list_all}
use Rattle.std.proofs.lemmas.List.{drop_all}
use Rattle.std.proofs.lemmas.Bool.{and_parts}
use Rattle.ofn_tree.specs.Items.{Item, name_item, iri_item, literal_item, sign_item, group_item, items_of}
use Rattle.ofn_expressions.specs.Counts.{Counts}
use Rattle.ofn_expressions.specs.Walk.{Test, walked}
use Rattle.ofn_expressions.specs.Names.{Prefix, item_line, name_tests, has_colon, is_anonymous}
use Rattle.ofn_expressions.specs.Classes.{Keeps, place, or_zero}
use Rattle.ofn_expressions.specs.Individuals.{is_anonymous_item, individual_name_tests, individual_tests}
use Rattle.ofn_expressions.specs.Individuals.{individuals_tests, individual_named, individuals_of, IsListedIndividual}
use Rattle.ofn_expressions.specs.Individuals.{AreListedIndividuals, MeansIndividual, MeanIndividuals}
use Rattle.ofn_expressions.specs.declared.construct.Construct.TheVariants as C
use Rattle.ofn_expressions.specs.declared.refusal.Refusal.{Refusal}
use Rattle.ofn_expressions.specs.declared.refusal.Refusal.TheVariants.{Outside}
use Rattle.ofn_expressions.proofs.Kept.{keeps_keeps, walked_keeps, place_within}

-- a name that begins with `_:` has a colon
anonymous_colon : (w : List ℕ) → is_anonymous w ≡ true → has_colon w ≡ true
unfolding is_anonymous
anonymous_colon [] is = let clash : false ≡ true = is in absurd (cc clash)
anonymous_colon (a ∷ []) is = grind (arith, common_steps, is)
anonymous_colon (a ∷ b ∷ w) is = grind (arith, common_steps, is)

pub anonymous_refused : (ps : List Prefix) (i : Item) (s : Counts) → is_anonymous_item i ≡ true
    → walked s (individual_name_tests ps i) ≡ Err (Outside (item_line i) C.AnonymousIndividual)
anonymous_refused ps (name_item w line) s is = rw (anonymous_colon w is, is) refl
anonymous_refused ps (iri_item w line) s is = let clash : false ≡ true = is in absurd (cc clash)
anonymous_refused ps (literal_item line) s is = let clash : false ≡ true = is in absurd (cc clash)
anonymous_refused ps (sign_item k line) s is = let clash : false ≡ true = is in absurd (cc clash)
anonymous_refused ps (group_item h is_ line) s is = let clash : false ≡ true = is in absurd (cc clash)

pub named_tests : (ps : List Prefix) (i : Item) → is_anonymous_item i ≡ false
    → individual_name_tests ps i ≡ name_tests ps i
named_tests ps (name_item w line) is = rw is refl
named_tests ps (iri_item w line) is = refl
named_tests ps (literal_item line) is = refl
named_tests ps (sign_item k line) is = refl
named_tests ps (group_item h is_ line) is = refl

-- a name that is listed is meant by its IRI, whatever names are listed later
pub individual_listed : (s : Counts) (iri w : List ℕ) (r : Result ℕ Refusal) → w ≡ iri
    → IfOk r (λ k. place w s.individuals ≡ Some k)
    → IfOk r (λ a. (later : Counts) → Keeps s later → (individual_named later iri ≡ a) × IsListedIndividual later a)
individual_listed s iri w (Ok k) same found = λ later keeps.
    let at : place w later.individuals ≡ Some k = keeps.individuals w k found in
    (ap or_zero (ap (λ v. place v later.individuals) (sym same) ∙ at), place_within w later.individuals k at)
individual_listed s iri w (Err e) same found = tt

abbrev pub all_individuals_tests : List Prefix → List Item → List Test
all_individuals_tests ps is = individuals_tests ps (items_of is)

pub individuals_cons : (ps : List Prefix) (i : Item) (is : List Item)
    → all_individuals_tests ps (i ∷ is) ≡ individual_tests ps i ++ all_individuals_tests ps is
individuals_cons ps i is = refl

-- what the individuals so far and the items from the place k on stand for
abbrev pub IndividualsFrom : List Prefix → Counts → List Item → ℕ → List ℕ → Type 0
IndividualsFrom ps s items k as_ = (later : Counts) → Keeps s later
    → (as_ ++ individuals_of ps later (items_of (drop k items)) ≡ individuals_of ps later (items_of items))
    × AreListedIndividuals later as_

individuals_push : (s : Counts) (as_ : List ℕ) (a : ℕ) → AreListedIndividuals s as_ → IsListedIndividual s a
    → AreListedIndividuals s (as_ ++ a ∷ [])
individuals_push s [] a all one = rw one
individuals_push s (b ∷ as_) a all one =
    let both = and_parts (nat_lt b (length s.individuals)) (list_all (λ x. nat_lt x (length s.individuals)) as_) all in
    rw both.0 (individuals_push s as_ a both.1 one)

module _ (ps : List Prefix) (items : List Item) (k : ℕ) (i : Item) (at : i ≡ get_or items k i)
    (inside : k < length items) where
  cut : items_of (drop k items) ≡ items_of (i ∷ drop (k + 1) items)
  cut = ap items_of (rw add-one (drop-cons items k i inside) ∙ ap (λ j. j ∷ drop (k + 1) items) (sym at))

  pub individuals_step : (s mid : Counts) (a : ℕ) (as_ new : List ℕ) → walked s (individual_tests ps i) ≡ Ok mid
      → MeansIndividual ps mid i a → new ≡ as_ ++ a ∷ [] → IndividualsFrom ps s items k as_
      → IndividualsFrom ps mid items (k + 1) new
  individuals_step s mid a as_ new one means pushed told later keeps =
      let rest : List ℕ = individuals_of ps later (items_of (drop (k + 1) items)) in
      let before = told later (keeps_keeps s mid later (walked_keeps s (individual_tests ps i) mid one) keeps) in
      let here = means later keeps in (
        ap (λ l. l ++ rest) pushed ∙ append_assoc as_ (a ∷ []) rest
            ∙ ap (λ q. as_ ++ q ∷ rest) (sym here.0)
            ∙ ap (λ js. as_ ++ individuals_of ps later js) (sym cut)
            ∙ before.0,
        subst (AreListedIndividuals later) (sym pushed) (individuals_push later as_ a before.1 here.1),
      )

pub individuals_done : (ps : List Prefix) (items : List Item) (k : ℕ) → length items ≤ k → (s : Counts) (as_ : List ℕ)
    → IndividualsFrom ps s items k as_ → MeanIndividuals ps s (items_of items) as_
individuals_done ps items k past s as_ told later keeps =
    let t = told later keeps in (
      sym t.0 ∙ ap (λ (l : List Item). as_ ++ individuals_of ps later (items_of l)) (drop_all k items past)
          ∙ append-nil as_,
      t.1,
    )
