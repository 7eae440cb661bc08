-- A text that ends with its first line `end`.
use Rattle.std.proofs.Common.{◌≡◌, ℕ, suc, Bool, true, false, List, [], ◌∷◌, ◌++◌, length, take, drop, Option, Some}
use Rattle.std.proofs.Common.{None, refl, ap, sym, ◌∙◌}
use Rattle.std.specs.Prelude.{codes, option_and_then, if◌then◌else◌}
use Rattle.std.specs.List.{list_all}
use Rattle.std.proofs.lemmas.Bool.{and_parts}
use Rattle.std.proofs.lemmas.List.Folds.{list_all-append}
use Rattle.std.proofs.lemmas.Slice.Eq.{bytes_eq-Decides}
use Rattle.certificate_lines.specs.Lines.{is_blank}
use Rattle.certificate_lines.specs.Body.{is_end_line, after_line, read_body}
use Rattle.certificate_lines.proofs.Body.{body_end, body_line}
use Rattle.shq_terms.specs.Listed.{Listed}
use Rattle.finite_model.specs.ModelText.{model_line_read, size_in, empty_body, model_body, model_of}
use Rattle.refutation_tree.specs.RefutationText.{refutation_line_read, refutation_body, begun, axioms_in, axioms_from}
use Rattle.refutation_tree.specs.RefutationText.{head_in, refutation_of}
use Rattle.refutation_tree.proofs.Writable.{and_then_some, when_some}
use Rattle.audit_file.specs.AuditText.{block_len, block}

-- what is read is read of the lines up to the first line `end`, and blank lines alone follow them
abbrev pub EndsThere : {K : Type 0} → (List (List ℕ) → Option K) → Type 0
EndsThere {K = K} reading = (ls : List (List ℕ)) (k : K) → reading ls ≡ Some k
    → (reading (block ls) ≡ Some k) × (list_all is_blank (drop (block_len ls) ls) ≡ true)

block_end : (l : List ℕ) (ls : List (List ℕ)) → is_end_line l ≡ true → block_len (l ∷ ls) ≡ 1
block_end l ls is = ap (λ b. if b then 1 else suc (block_len ls)) is

pub block_more : (l : List ℕ) (ls : List (List ℕ)) → is_end_line l ≡ false → block_len (l ∷ ls) ≡ suc (block_len ls)
block_more l ls is = ap (λ b. if b then 1 else suc (block_len ls)) is

-- ---- readings

module _ {B K : Type 0} (read : B → List ℕ → Option B) (whole : B → K) where
  body_ends : (b : B) → EndsThere (read_body read whole b)
  body_ends b [] k h = cc
  body_ends b (l ∷ ls) k h = by (λ next. body_ends next ls k) (is_end_line l) refl
    where
      by : ((next : B) → read_body read whole next ls ≡ Some k
          → (read_body read whole next (block ls) ≡ Some k) × (list_all is_blank (drop (block_len ls) ls) ≡ true))
          → (e : Bool) → is_end_line l ≡ e
          → (read_body read whole b (block (l ∷ ls)) ≡ Some k)
          × (list_all is_blank (drop (block_len (l ∷ ls)) (l ∷ ls)) ≡ true)
      by later true ends =
          let last = when_some (list_all is_blank ls) (Some (whole b)) k (sym (body_end read whole b l ls ends) ∙ h) in
          let one = block_end l ls ends in (
            ap (λ n. read_body read whole b (take n (l ∷ ls))) one ∙ body_end read whole b l [] ends ∙ last.1,
            ap (λ n. list_all is_blank (drop n (l ∷ ls))) one ∙ last.0,
          )
      by later false goes = by_line (read b l) refl
        where
          by_line : (r : Option B) → read b l ≡ r
              → (read_body read whole b (block (l ∷ ls)) ≡ Some k)
              × (list_all is_blank (drop (block_len (l ∷ ls)) (l ∷ ls)) ≡ true)
          by_line None bad =
              let clash : ◌≡◌ {A = Option K} None (Some k) = sym (body_line read whole b l ls None goes bad) ∙ h in
              absurd (cc clash)
          by_line (Some next) good =
              let more = later next (sym (body_line read whole b l ls (Some next) goes good) ∙ h) in
              let one = block_more l ls goes in (
                ap (λ n. read_body read whole b (take n (l ∷ ls))) one
                    ∙ body_line read whole b l (block ls) (Some next) goes good ∙ more.0,
                ap (λ n. list_all is_blank (drop n (l ∷ ls))) one ∙ more.1,
              )

module _ {A K : Type 0} (first : List ℕ → Option A) (rest : A → List (List ℕ) → Option K)
    (no_end : (l : List ℕ) → is_end_line l ≡ true → first l ≡ None) (ends : (a : A) → EndsThere (rest a)) where
  goes_on : (l : List ℕ) (a : A) → first l ≡ Some a → is_end_line l ≡ false
  goes_on l a is = by (is_end_line l) refl
    where
      by : (e : Bool) → is_end_line l ≡ e → e ≡ false
      by false e = refl
      by true e = let clash : ◌≡◌ {A = Option A} None (Some a) = sym (no_end l e) ∙ is in absurd (cc clash)

  pub line_ends : EndsThere (after_line first rest)
  line_ends [] k h = cc
  line_ends (l ∷ ls) k h =
      let a = and_then_some (λ b. rest b ls) (first l) k h in
      let more = ends a.0 ls k a.2 in
      let one = block_more l ls (goes_on l a.0 a.1) in (
        ap (λ n. after_line first rest (take n (l ∷ ls))) one ∙ ap (option_and_then (λ b. rest b (block ls))) a.1
            ∙ more.0,
        ap (λ n. list_all is_blank (drop n (l ∷ ls))) one ∙ more.1,
      )

end_is : (l : List ℕ) → is_end_line l ≡ true → l ≡ codes "end"
end_is l is = (bytes_eq-Decides l (codes "end")).0 is

pub refutation_ends : (o : Listed) → EndsThere (refutation_of o)
refutation_ends o =
    line_ends head_in (λ u. axioms_from o) (λ l is. ap head_in (end_is l is))
    (λ u. line_ends (axioms_in o) (λ a. refutation_body o (begun a)) (λ l is. ap (axioms_in o) (end_is l is))
    (λ a. body_ends (refutation_line_read o) (λ last. last) (begun a)))

pub model_ends : (o : Listed) → EndsThere (model_of o)
model_ends o =
    line_ends size_in (λ n. model_body o (empty_body n)) (λ l is. ap size_in (end_is l is))
    (λ n. body_ends (model_line_read o) (λ c. c.model) (empty_body n))

-- ---- lines before the line `end`

abbrev pub end_row : List ℕ
end_row = codes "end"

not_blank : (rows rest : List (List ℕ)) → list_all is_blank (rows ++ end_row ∷ rest) ≡ true → ⊥
not_blank rows rest h =
    let parts =
    and_parts (list_all is_blank rows) (list_all is_blank (end_row ∷ rest))
    (sym (list_all-append is_blank rows (end_row ∷ rest)) ∙ h) in
    let clash : ◌≡◌ {A = Bool} false true = parts.1 in
    absurd (cc clash)

-- where blank lines alone follow the first line `end`, it is the one behind the rows, whatever follows it
block_of_rows : (rows after rest : List (List ℕ))
    → list_all is_blank (drop (block_len (rows ++ end_row ∷ after)) (rows ++ end_row ∷ after)) ≡ true
    → block_len (rows ++ end_row ∷ rest) ≡ suc (length rows)
block_of_rows [] after rest h = refl
block_of_rows (l ∷ rows) after rest h = by (is_end_line l) refl (λ g. block_of_rows rows after rest g)
  where
    by : (e : Bool) → is_end_line l ≡ e
        → (list_all is_blank (drop (block_len (rows ++ end_row ∷ after)) (rows ++ end_row ∷ after)) ≡ true
        → block_len (rows ++ end_row ∷ rest) ≡ suc (length rows))
        → block_len (l ∷ (rows ++ end_row ∷ rest)) ≡ suc (suc (length rows))
    by true ends later =
        absurd (not_blank rows after
        (sym (ap (λ n. list_all is_blank (drop n (l ∷ (rows ++ end_row ∷ after))))
        (block_end l (rows ++ end_row ∷ after) ends))
        ∙ h))
    by false goes later =
        block_more l (rows ++ end_row ∷ rest) goes
        ∙ ap suc (later
        (sym (ap (λ n. list_all is_blank (drop n (l ∷ (rows ++ end_row ∷ after))))
        (block_more l (rows ++ end_row ∷ after) goes))
        ∙ h))

take_rows : (rows rest : List (List ℕ)) → take (suc (length rows)) (rows ++ end_row ∷ rest) ≡ rows ++ end_row ∷ []
take_rows [] rest = refl
take_rows (l ∷ rows) rest = ap (λ (ls : List (List ℕ)). l ∷ ls) (take_rows rows rest)

pub drop_rows : (rows rest : List (List ℕ)) → drop (suc (length rows)) (rows ++ end_row ∷ rest) ≡ rest
drop_rows [] rest = refl
drop_rows (l ∷ rows) rest = drop_rows rows rest

module _ {K : Type 0} (reading : List (List ℕ) → Option K) (ends : EndsThere reading) (rows after : List (List ℕ))
    (k : K) (is : reading (rows ++ end_row ∷ after) ≡ Some k) where
  pub rows_long : (rest : List (List ℕ)) → block_len (rows ++ end_row ∷ rest) ≡ suc (length rows)
  rows_long rest = block_of_rows rows after rest (ends (rows ++ end_row ∷ after) k is).1

  block_is : (rest : List (List ℕ)) → block (rows ++ end_row ∷ rest) ≡ rows ++ end_row ∷ []
  block_is rest = ap (λ n. take n (rows ++ end_row ∷ rest)) (rows_long rest) ∙ take_rows rows rest

  -- so the block is read as the whole was
  pub rows_read : (rest : List (List ℕ)) → reading (block (rows ++ end_row ∷ rest)) ≡ Some k
  rows_read rest = ap reading (block_is rest ∙ sym (block_is after)) ∙ (ends (rows ++ end_row ∷ after) k is).0
