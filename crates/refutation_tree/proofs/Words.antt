-- Words that are no keyword, and lists too short for what is read of them.
use Rattle.std.proofs.Common.{◌≡◌, ℕ, zero, suc, ◌<◌, ltb, true, false, List, [], ◌∷◌, length, None, refl, sym, subst}
use Rattle.std.proofs.Common.{arith, inl, inr, lit<}
use Rattle.std.specs.Prelude.{codes}
use Rattle.std.specs.List.{list_all}
use Rattle.std.specs.Str.{IsUtf8, IsAscii, bytes_eq}
use Rattle.std.proofs.lemmas.Bool.{cases_Bool, ltb-true, and_parts}
use Rattle.std.proofs.lemmas.Str.{IsUtf8-from_ascii}
use Rattle.std.proofs.lemmas.Slice.Eq.{bytes_eq-Decides}
use Rattle.certificate_lines.specs.Listed.{Listed}
use Rattle.refutation_tree.specs.Keywords.{shape_kind, line_kind}
use Rattle.refutation_tree.specs.RefutationText.{carry_in}

ascii : (bs : List ℕ) → list_all (λ b. ltb b 128) bs ≡ true → IsAscii bs
ascii [] h i = lit< tt
ascii (b ∷ bs) h zero = ltb-true b 128 (and_parts (ltb b 128) (list_all (λ c. ltb c 128) bs) h).0
ascii (b ∷ bs) h (suc i) = ascii bs (and_parts (ltb b 128) (list_all (λ c. ltb c 128) bs) h).1 i

module _ (w : List ℕ) (no_text : ¬ IsUtf8 w) where
  other : (p : List ℕ) → list_all (λ b. ltb b 128) p ≡ true → bytes_eq w p ≡ false
  other p plain = elim (cases_Bool (bytes_eq w p)) [
    | inl same ↦
        absurd (no_text (subst IsUtf8 (sym ((bytes_eq-Decides w p).0 same)) (IsUtf8-from_ascii p (ascii p plain))))
    | inr differs ↦ differs
  ]

  pub no_shape_kind : shape_kind w ≡ None
  unfolding shape_kind
  no_shape_kind =
      rw (
        other (codes "top") refl,
        other (codes "bottom") refl,
        other (codes "name") refl,
        other (codes "not") refl,
        other (codes "and") refl,
        other (codes "or") refl,
        other (codes "some") refl,
        other (codes "all") refl,
        other (codes "least") refl,
        other (codes "most") refl,
      ) refl

  pub no_line_kind : line_kind w ≡ None
  unfolding line_kind
  no_line_kind =
      rw (
        other (codes "start") refl,
        other (codes "and") refl,
        other (codes "or") refl,
        other (codes "all") refl,
        other (codes "carry") refl,
        other (codes "row") refl,
        other (codes "range") refl,
        other (codes "some") refl,
        other (codes "least") refl,
        other (codes "choose") refl,
        other (codes "pair") refl,
        other (codes "bottom") refl,
        other (codes "clash") refl,
        other (codes "most") refl,
        other (codes "fact") refl,
        other (codes "differ") refl,
      ) refl

pub short_carry : (o : Listed) (ws : List (List ℕ)) → length ws < 2 → carry_in o ws ≡ None
short_carry o [] short = refl
short_carry o (w ∷ []) short = refl
short_carry o (w ∷ v ∷ ws) short = absurd (omega arith)
