-- A question has one finished list.
use Rattle.std.proofs.Common.{◌≡◌, ◌⊎◌, ℕ, zero, suc, Bool, true, false, List, [], ◌∷◌, refl, ap, sym, ◌∙◌, subst}
use Rattle.std.proofs.Common.{arith, inl, inr}
use Rattle.std.specs.Prelude.{◌↔◌}
use Rattle.std.specs.List.{Contains}
use Rattle.std.specs.declared.cmp.Ordering.TheVariants.{Less, Greater}
use Rattle.axiom_sets.specs.Sets.{Limited, list_cmp}
use Rattle.pinpointing_specs.specs.Order.{IsAscending}
use Rattle.query_asker.proofs.Ordered.{turned_back}
use Rattle.shq_terms.specs.Listed.{Listed}
use Rattle.shq_terms.specs.declared.axioms.Query.{Query as Asked}
use Rattle.query_asker.specs.Entry.{Entry}
use Rattle.job_inputs.specs.declared.status.Status.TheVariants.{Done}
use Rattle.job_inputs.specs.Questions.{follows}
use Rattle.job_inputs.proofs.OneReading.{questions}
use Rattle.pinpointing_jobs.specs.declared.wanted.Wanted.{Wanted}
use Rattle.pinpointing_jobs.specs.Wanted.{IsWanted, HasAll}
use Rattle.pinpointing_jobs.specs.Listings.{listing_text, end_status, IsListing}
use Rattle.pinpointing_jobs.specs.Laws.{ListsAreUnique}

-- ---- ascending lists

-- the set comes before each of the list
abbrev Below : Limited → List Limited → Type 0
Below x xs = (s : Limited) → Contains xs s → list_cmp x s ≡ Less

asymmetric : (s t : Limited) → list_cmp s t ≡ Less → list_cmp t s ≡ Less → ⊥
asymmetric s t h h' = let clash : Less ≡ Greater = sym h ∙ turned_back s t h' in absurd (cc clash)

-- the first set comes before each other one
first_below : (x : Limited) (xs : List Limited) → IsAscending (x ∷ xs) → Below x xs
first_below x xs ascending s listed =
    ap (λ (t : Limited). list_cmp x t) (sym listed.2)
    ∙ ascending 0 (suc listed.0) s (omega arith) (omega (arith, listed.1))

tail_ascends : (x : Limited) (xs : List Limited) → IsAscending (x ∷ xs) → IsAscending xs
tail_ascends x xs ascending i j d lt below = ascending (suc i) (suc j) d (omega (arith, lt)) (omega (arith, below))

in_first : (x : Limited) (xs : List Limited) → Contains (x ∷ xs) x
in_first x xs = (0, omega arith, refl)

in_tail : (x s : Limited) (xs : List Limited) → Contains xs s → Contains (x ∷ xs) s
in_tail x s xs listed = (suc listed.0, omega (arith, listed.1), listed.2)

-- it is the first set, or one after it
by_place : (x s : Limited) (xs : List Limited) → Contains (x ∷ xs) s → (x ≡ s) ⊎ Contains xs s
by_place x s xs (zero, lt, is) = inl is
by_place x s xs (suc k, lt, is) = inr (k, omega (arith, lt), is)

same_first : (x y : Limited) (xs ys : List Limited) → Below x xs → Below y ys → Contains (y ∷ ys) x
    → Contains (x ∷ xs) y → x ≡ y
same_first x y xs ys x_below y_below x_in y_in =
    elim (by_place y x ys x_in) [
      | inl is ↦ sym is
      | inr later ↦ elim (by_place x y xs y_in) [
        | inl is ↦ is
        | inr after ↦ absurd (asymmetric x y (x_below y after) (y_below x later))
      ]
    ]

-- what is in the one tail is in the other
in_other : (x y s : Limited) (xs ys : List Limited) → x ≡ y → Below x xs → (Contains (x ∷ xs) s → Contains (y ∷ ys) s)
    → Contains xs s → Contains ys s
in_other x y s xs ys same below all listed =
    elim (by_place y s ys (all (in_tail x s xs listed))) [
      | inl is ↦
          let less = below s listed in
          let self : x ≡ s = same ∙ is in
          absurd (asymmetric x s less
          (ap (λ (t : Limited). list_cmp t x) (sym self) ∙ ap (λ (t : Limited). list_cmp x t) self ∙ less))
      | inr other ↦ other
    ]

no_first : (x : Limited) → Contains [] x → ⊥
no_first x listed = absurd (omega (arith, listed.1))

-- ascending lists with the same sets are the same
pub same_lists : (xs ys : List Limited) → IsAscending xs → IsAscending ys
    → ((s : Limited) → Contains xs s ↔ Contains ys s) → xs ≡ ys
same_lists [] [] first second same = refl
same_lists [] (y ∷ ys) first second same = absurd (no_first y ((same y).1 (in_first y ys)))
same_lists (x ∷ xs) [] first second same = absurd (no_first x ((same x).0 (in_first x xs)))
same_lists (x ∷ xs) (y ∷ ys) first second same =
    let x_below = first_below x xs first in
    let y_below = first_below y ys second in
    let is = same_first x y xs ys x_below y_below ((same x).0 (in_first x xs)) ((same y).1 (in_first y ys)) in
    let rest = same_lists xs ys (tail_ascends x xs first) (tail_ascends y ys second)
    (λ s. (in_other x y s xs ys is x_below (same s).0, in_other y x s ys xs (sym is) y_below (same s).1)) in
    λ i. is i ∷ rest i

-- ---- lists

-- a run that ended well has listed all
all_listed : (w : Wanted) (o : Listed) (q : Asked) (budget : ℕ) (log : List Entry) (sets : List Limited) (b : Bool)
    → Done ≡ end_status b → IsListing w o q budget log sets b → (b ≡ true) × HasAll w o q sets
all_listed w o q budget log sets true e listing = (refl, listing.0)
all_listed w o q budget log sets false e listing = absurd (cc e)

same_sets : (w : Wanted) (o p : Listed) (q r : Asked) (xs ys : List Limited) → o ≡ p → q ≡ r → HasAll w o q xs
    → HasAll w p r ys → xs ≡ ys
same_sets w o p q r xs ys e f first second =
    same_lists xs ys first.order second.order
    (λ s. (
      λ h. (second.all s).1
          (subst (λ (l : Listed). IsWanted w l r s) e (subst (λ (k : Asked). IsWanted w o k s) f ((first.all s).0 h))),
      λ h. (first.all s).1
          (subst (λ (k : Asked). IsWanted w o k s) (sym f)
          (subst (λ (l : Listed). IsWanted w l r s) (sym e) ((second.all s).0 h))),
    ))

pub unique : ListsAreUnique
unique w statement b c bytes out text log more first second =
    let same =
    questions (follows statement) bytes first.ontology second.ontology first.query second.query first.is_question
    second.is_question in
    let one = first.listed in
    let other = second.listed in
    let all = all_listed w first.ontology first.query b log one.sets one.finished one.status one.listing in
    let all' = all_listed w second.ontology second.query c more other.sets other.finished other.status other.listing in
    let sets =
    same_sets w first.ontology second.ontology first.query second.query one.sets other.sets same.0 same.1 all.1
    all'.1 in
    let ends : one.finished ≡ other.finished = all.0 ∙ sym all'.0 in
    one.text ∙ (λ i. listing_text (same.0 i) w (ends i) (sets i)) ∙ sym other.text
