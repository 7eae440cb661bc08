-- Numbers and names that are written are read back, and their words are plain.
use Rattle.std.proofs.Common.{◌≡◌, ℕ, ◌^◌, Bool, true, List, [], ◌∷◌, length, map, get_or, refl, ap, ◌∙◌, Option, Some}
use Rattle.std.proofs.Common.{None, option_map}
use Rattle.std.specs.Prelude.{nat_lt, decimal, position, option_and_then}
use Rattle.std.specs.List.{list_all}
use Rattle.std.specs.Str.{bytes_eq}
use Rattle.std.proofs.lemmas.Bool.{and_parts, and_from, ltb-true}
use Rattle.std.proofs.lemmas.Option.{slice_get-get_or}
use Rattle.std.proofs.lemmas.List.Sums.{AllPass-from_list_all}
use Rattle.certificate_lines.specs.Lines.{number_in}
use Rattle.certificate_lines.proofs.ReadBack.{number_read, iri_read}
use Rattle.certificate_lines.proofs.Distinct.{place_is_number}
use Rattle.certificate_lines.specs.Names.{is_word_byte}
use Rattle.certificate_lines.proofs.Plain.{plain_decimal}
use Rattle.refutation_tree.specs.RefutationText.{numbers_in}

-- the numbers fit 32 bits
abbrev pub are_small : List ℕ → Bool
are_small ns = list_all (λ n. nat_lt n (2 ^ 32)) ns

pub number_back : (n : ℕ) → nat_lt n (2 ^ 32) ≡ true → number_in (decimal n) ≡ Some n
number_back n small = number_read n (ltb-true n (2 ^ 32) small)

pub numbers_back : (ns : List ℕ) → are_small ns ≡ true → numbers_in (map decimal ns) ≡ Some ns
numbers_back [] small = refl
numbers_back (n ∷ ns) small =
    let parts = and_parts (nat_lt n (2 ^ 32)) (are_small ns) small in
    ap (λ (r : Option ℕ). elim r [ None ↦ None | Some m ↦ option_map (λ ms. m ∷ ms) (numbers_in (map decimal ns)) ])
    (number_back n parts.0)
    ∙ ap (option_map (λ ms. n ∷ ms)) (numbers_back ns parts.1)

pub number_plain : (n : ℕ) → nat_lt n (2 ^ 32) ≡ true → list_all is_word_byte (decimal n) ≡ true
number_plain n small = plain_decimal n (ltb-true n (2 ^ 32) small)

pub numbers_plain : (ns : List ℕ) → are_small ns ≡ true → list_all (list_all is_word_byte) (map decimal ns) ≡ true
numbers_plain [] small = refl
numbers_plain (n ∷ ns) small =
    let parts = and_parts (nat_lt n (2 ^ 32)) (are_small ns) small in
    and_from (list_all is_word_byte (decimal n)) (list_all (list_all is_word_byte) (map decimal ns))
    (number_plain n parts.0) (numbers_plain ns parts.1)
